-- What the standard's elements ask for, by the start tag of each.
use Rattle.std.specs.Prelude.{◌≡◌, ℕ, true, List, ◌||◌, Option, None, Some, codes, if◌then◌else◌}
use Rattle.std.specs.Str.{bytes_eq}
use Rattle.html5ever_interface.specs.Token.{Told, TagOf, Reply, keeps_state}
use Rattle.html5ever_interface.specs.Token.Told.{Tag}
use Rattle.html5ever_interface.specs.Token.Reply.{KeepOn, ReadPlainText, ReadRawData}
use Rattle.html5ever_interface.specs.declared.interface.token.TagKind.{TagKind}
use Rattle.html5ever_interface.specs.declared.interface.token.TagKind.TheVariants.{StartTag, EndTag}
use Rattle.html5ever_interface.specs.declared.states.RawKind.{RawKind}
use Rattle.html5ever_interface.specs.declared.states.RawKind.TheVariants.{Rcdata, Rawtext, ScriptData}

-- the kind of raw text that stands after a start tag of this name, if any does
unfoldable pub raw_text_in : List ℕ → Option RawKind
raw_text_in name =
    if bytes_eq name (codes "title") || bytes_eq name (codes "textarea") then Some Rcdata
    else if bytes_eq name (codes "style") || bytes_eq name (codes "xmp") || bytes_eq name (codes "iframe")
    || bytes_eq name (codes "noembed") || bytes_eq name (codes "noframes") then Some Rawtext
    else if bytes_eq name (codes "script") then Some ScriptData
    else None

-- what is replied to a start tag after which raw text may stand
abbrev pub reply_to_raw_text : Option RawKind → Reply (Unit {0})
reply_to_raw_text None = KeepOn
reply_to_raw_text (Some kind) = ReadRawData kind

-- what is replied to a start tag of this name
unfoldable pub standard_reply_to_start : List ℕ → Reply (Unit {0})
standard_reply_to_start name =
    if bytes_eq name (codes "plaintext") then ReadPlainText
    else reply_to_raw_text (raw_text_in name)

-- what is replied to a tag of this kind and name
abbrev pub reply_by_kind : TagKind → List ℕ → Reply (Unit {0})
reply_by_kind StartTag name = standard_reply_to_start name
reply_by_kind EndTag name = KeepOn

-- what is replied to a tag
abbrev pub standard_reply : TagOf → Reply (Unit {0})
standard_reply tag = reply_by_kind tag.kind tag.name

-- a sink that keeps on, at once or after a pause, after each tag after which the standard's elements ask for nothing else
abbrev pub FollowsStandard : {S H : Type 0} → (S → Told → ℕ → Reply H) → Type 0
FollowsStandard {S = S} reply = (s : S) (tag : TagOf) (line : ℕ) → standard_reply tag ≡ KeepOn → keeps_state (reply s (Tag tag) line) ≡ true
