-- What a sink of tags alone makes of what it is sent.
use Rattle.std.specs.Prelude.{ℕ, Bool, true, false, List, ◌&&◌}
use Rattle.std.specs.Str.{bytes_eq}
use Rattle.html5ever_interface.specs.Token.{Told, TagOf, Reply}
use Rattle.html5ever_interface.specs.Token.Told.{Tag}
use Rattle.html5ever_interface.specs.Token.Reply.{KeepOn}
use Rattle.html5ever_interface.specs.declared.interface.token.TagKind.{TagKind}
use Rattle.html5ever_interface.specs.declared.interface.token.TagKind.TheVariants.{StartTag, EndTag}

-- whether a tag is a start tag, by its kind
abbrev pub is_start : TagKind → Bool
is_start StartTag = true
is_start EndTag = false

-- whether a tag is a start tag of this name
abbrev pub is_start_of : TagOf → List ℕ → Bool
is_start_of tag name = is_start tag.kind && bytes_eq tag.name name

-- a sink of tags: its handler, its answer about foreign content, and how many tags the handler refused
pub record TagSink (H : Type 0) : Type 0 where
  pub handler : H
  pub foreign : Bool
  pub faults : ℕ

-- the state of such a sink, where `S` is that of the handler
pub record Tagged (S : Type 0) : Type 0 where
  pub handler : S
  pub foreign : Bool

module _ {S : Type 0} where
  -- a tag steps the handler, and no other token does
  abbrev pub tags_step : (S → TagOf → ℕ → S) → Tagged S → Told → ℕ → Tagged S
  tags_step step s (Tag tag) line = record s { handler = step s.handler tag line }
  tags_step step s other line = s

  -- the handler replies to a tag
  abbrev pub tags_reply : {H : Type 0} → (S → TagOf → ℕ → Reply H) → Tagged S → Told → ℕ → Reply H
  tags_reply reply s (Tag tag) line = reply s.handler tag line
  tags_reply reply s other line = KeepOn

  -- a tag that was refused leaves nothing
  abbrev pub tags_faulted : Tagged S → Told → ℕ → Tagged S
  tags_faulted s told line = s
