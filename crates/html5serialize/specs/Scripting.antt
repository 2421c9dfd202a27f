-- What a page's elements ask for, where scripting is enabled and where it is not.
use Rattle.std.specs.Prelude.{ℕ, Bool, true, false, List, codes, if◌then◌else◌}
use Rattle.std.specs.Str.{bytes_eq}
use Rattle.html5ever_interface.specs.Token.{TagOf, Reply}
use Rattle.html5ever_interface.specs.Token.Reply.{KeepOn, ReadRawData}
use Rattle.html5ever_interface.specs.declared.interface.token.TagKind.{TagKind}
use Rattle.html5ever_interface.specs.declared.interface.token.TagKind.TheVariants.{StartTag, EndTag}
use Rattle.html5ever_interface.specs.declared.states.RawKind.TheVariants.{Rawtext}
use Rattle.html5sinks.specs.Replies.{standard_reply_to_start}

-- "A start tag whose tag name is "noscript", if the scripting flag is enabled": raw text stands after it. Any other element asks
-- for the same, whether scripting is enabled or not.
abbrev pub start_reply_by : Bool → List ℕ → Reply (Unit {0})
start_reply_by false name = standard_reply_to_start name
start_reply_by true name = if bytes_eq name (codes "noscript") then ReadRawData Rawtext else standard_reply_to_start name

-- what is replied to a tag of this kind and name
abbrev pub kind_reply_by : Bool → TagKind → List ℕ → Reply (Unit {0})
kind_reply_by scripting StartTag name = start_reply_by scripting name
kind_reply_by scripting EndTag name = KeepOn

-- What is replied to a tag, where scripting is enabled or not. Where it is not, that is the reply of `standard_reply`.
abbrev pub reply_by : Bool → TagOf → Reply (Unit {0})
reply_by scripting tag = kind_reply_by scripting tag.kind tag.name
