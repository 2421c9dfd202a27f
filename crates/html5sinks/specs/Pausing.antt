-- What the standard's elements ask for, with the pauses for scripts and encodings.
use Rattle.std.specs.Prelude.{ℕ, List, [], ◌∷◌, Option, None, Some, codes, if◌then◌else◌}
use Rattle.std.specs.Str.{bytes_eq}
use Rattle.markup5ever.specs.Names.{AttributeOf}
use Rattle.html5sinks.specs.Replies.{standard_reply_to_start}
use Rattle.html5ever_interface.specs.Token.{Told, TagOf, Reply}
use Rattle.html5ever_interface.specs.Token.Told.{Tag}
use Rattle.html5ever_interface.specs.Token.Reply.{KeepOn, RunScript, SwitchEncoding}
use Rattle.html5ever_interface.specs.declared.interface.token.TagKind.{TagKind}
use Rattle.html5ever_interface.specs.declared.interface.token.TagKind.TheVariants.{StartTag, EndTag}

-- the value of the first attribute whose local name is charset
unfoldable pub charset_of : List AttributeOf → Option (List ℕ)
charset_of [] = None
charset_of (a ∷ attributes) =
    if bytes_eq a.name.local (codes "charset") then Some a.value else charset_of attributes

-- what is replied to a tag that may name a character set
abbrev pub reply_to_charset : Option (List ℕ) → Reply (Unit {0})
reply_to_charset None = KeepOn
reply_to_charset (Some charset) = SwitchEncoding charset

-- what is replied to a start tag, by its name and its attributes
unfoldable pub reply_to_start : List ℕ → List AttributeOf → Reply (Unit {0})
reply_to_start name attributes =
    if bytes_eq name (codes "meta") then reply_to_charset (charset_of attributes)
    else standard_reply_to_start name

-- what is replied to an end tag, by its name
unfoldable pub reply_to_end : List ℕ → Reply (Unit {0})
reply_to_end name = if bytes_eq name (codes "script") then RunScript tt else KeepOn

-- what is replied to a tag, by its kind, its name and its attributes
abbrev pub pausing_reply_by_kind : TagKind → List ℕ → List AttributeOf → Reply (Unit {0})
pausing_reply_by_kind StartTag name attributes = reply_to_start name attributes
pausing_reply_by_kind EndTag name attributes = reply_to_end name

-- what is replied to a tag
abbrev pub pausing_reply_to_tag : TagOf → Reply (Unit {0})
pausing_reply_to_tag tag = pausing_reply_by_kind tag.kind tag.name tag.attributes

-- what is replied to a token
abbrev pub pausing_reply : Told → Reply (Unit {0})
pausing_reply (Tag tag) = pausing_reply_to_tag tag
pausing_reply other = KeepOn
