-- How a cleaned page is read.
use Rattle.std.specs.Prelude.{◌≡◌, ℕ, Bool, true, false, not, List, ◌&&◌}
use Rattle.std.specs.List.{list_all}
use Rattle.html5ever_interface.specs.Token.{Told, Reply}
use Rattle.html5ever_interface.specs.Token.Told.{Text, Tag, End}
use Rattle.html5ever_interface.specs.declared.interface.token.TagKind.{TagKind}
use Rattle.html5ever_interface.specs.declared.interface.token.TagKind.TheVariants.{StartTag, EndTag}
use Rattle.markup5ever.specs.Names.{AttributeOf}
use Rattle.html5policy.specs.Policy.{PolicyOf, is_allowed, is_written}
use Rattle.html5elements.specs.Elements.{is_void}
use Rattle.html5reading.specs.Start.{Start, Rules}
use Rattle.markup5ever.specs.NamedReferences.{IsTable}
use Rattle.html5write.specs.Pieces.{Piece}
use Rattle.html5write.specs.Told.{IsOpen, KeepsOn}
use Rattle.html5cleaner.specs.Allowed.{is_clean}

-- whether each attribute of an element is kept, or written into links
abbrev pub has_written_attributes : PolicyOf → List ℕ → List AttributeOf → Bool
has_written_attributes policy element attributes = list_all (λ (a : AttributeOf). is_written policy element a.name.local a.value) attributes

-- a tag of an allowed element, with such attributes; no end tag of an element that has none
abbrev pub is_allowed_tag : PolicyOf → TagKind → List ℕ → List AttributeOf → Bool
is_allowed_tag policy StartTag name attributes = is_allowed policy name && has_written_attributes policy name attributes
is_allowed_tag policy EndTag name attributes = is_allowed policy name && not (is_void name)

-- text, such a tag, or the end: no comment, no doctype, no processing instruction
unfoldable pub is_allowed_token : PolicyOf → Told → Bool
is_allowed_token policy (Text text) = true
is_allowed_token policy (Tag tag) = is_allowed_tag policy tag.kind tag.name tag.attributes
is_allowed_token policy End = true
is_allowed_token policy other = false

-- a page of pieces that a policy allows is read back: by these rules, from this start, by a sink that replies so
pub record IsReadBackClean {S H : Type 0} (policy : PolicyOf) (rules : Rules) (K : Start) (reply : S → Told → ℕ → Reply H) (pieces : List Piece) : Type 0 where
  pub table : IsTable rules.references
  pub starts : IsOpen K
  pub clean : list_all (is_clean policy) pieces ≡ true
  pub keeps : KeepsOn {S = S} reply pieces
