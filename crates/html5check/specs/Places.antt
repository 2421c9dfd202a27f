-- Where findings stand, and by which tokens.
use Rattle.std.specs.Prelude.{◌≡◌, ℕ, ◌&&◌, true, false, List, [], ◌∷◌, ◌++◌, Option, None, Some, Any, Contains, not}
use Rattle.html5check.specs.Elements.{has_optional_end}
use Rattle.html5check.specs.Faults.{Finding}
use Rattle.html5check.specs.Ids.{id_of}
use Rattle.html5check.specs.Seen.{Seen}
use Rattle.html5check.specs.declared.finding.Fault.{Fault}
use Rattle.html5check.specs.declared.finding.Fault.TheVariants.{DuplicateId, EndTagOfVoidElement, EndTagWithoutStart, MisspelledAttribute, MisspelledElement, Parse, SelfClosingElement, UnclosedElement, Uncoded}
use Rattle.html5elements.specs.Elements.{is_void}
use Rattle.html5errors.specs.Messages.{code_of_message}
use Rattle.html5errors.specs.declared.codes.ErrorCode.{ErrorCode}
use Rattle.html5ever_interface.specs.Token.{TagOf, Told}
use Rattle.html5ever_interface.specs.Token.Told.{Error, Tag}
use Rattle.html5ever_interface.specs.declared.interface.token.TagKind.TheVariants.{EndTag, StartTag}
use Rattle.html5names.specs.Attributes.{meant_attribute}
use Rattle.html5names.specs.Elements.{meant_element}
use Rattle.html5places.specs.Written.{place_after}
use Rattle.markup5ever.specs.Names.{AttributeOf}

-- a start tag with this id
pub record HasId (id : List ℕ) (seen : Seen) : Type 0 where
  pub tag : TagOf
  pub is_tag : seen.token ≡ Tag tag
  pub kind : tag.kind ≡ StartTag
  pub has : id_of tag ≡ Some id

-- which faults a token can have, after those before it: of what, and what that was meant for
pub data Shows (before : List Seen) : Told → Fault → List ℕ → Option (List ℕ) → Type 0 where
  ErrorWithCode : (message : List ℕ) (code : ErrorCode) → code_of_message message ≡ Some code → Shows before (Error message) (Parse code) [] None
  ErrorWithoutCode : (message : List ℕ) → code_of_message message ≡ None → Shows before (Error message) Uncoded message None
  StrayEndTag : (tag : TagOf) → tag.kind ≡ EndTag → is_void tag.name ≡ false → Shows before (Tag tag) EndTagWithoutStart tag.name None
  EndTagOfVoid : (tag : TagOf) → tag.kind ≡ EndTag → is_void tag.name ≡ true → Shows before (Tag tag) EndTagOfVoidElement tag.name None
  LeftOpen : (tag : TagOf) → tag.kind ≡ StartTag → has_optional_end tag.name ≡ false → Shows before (Tag tag) UnclosedElement tag.name None
  SelfClosing : (tag : TagOf) → tag.kind ≡ StartTag → (tag.self_closing && not (is_void tag.name)) ≡ true
      → Shows before (Tag tag) SelfClosingElement tag.name None
  SecondId : (tag : TagOf) (id : List ℕ) → tag.kind ≡ StartTag → id_of tag ≡ Some id → Any (HasId id) before
      → Shows before (Tag tag) DuplicateId id None
  WrongElement : (tag : TagOf) (meant : List ℕ) → tag.kind ≡ StartTag → meant_element tag.name ≡ Some meant
      → Shows before (Tag tag) MisspelledElement tag.name (Some meant)
  WrongAttribute : (tag : TagOf) (attribute : AttributeOf) (meant : List ℕ) → tag.kind ≡ StartTag → Contains tag.attributes attribute
      → meant_attribute attribute.name.local ≡ Some meant → Shows before (Tag tag) MisspelledAttribute attribute.name.local (Some meant)

-- one of these tokens has the fault that is found, and begins and ends where that does
pub record StandsAtToken (tokens : List Seen) (finding : Finding) : Type 0 where
  pub before : List Seen
  pub seen : Seen
  pub after : List Seen
  pub parts : tokens ≡ before ++ seen ∷ after
  pub begin : finding.begin ≡ seen.begin
  pub end : finding.end ≡ seen.end
  pub shows : Shows before seen.token finding.fault finding.subject finding.meant

-- The characters of a text are those before a finding, those that it stands at, and the rest. So its places are in order, within the text,
-- and none is within a character.
pub record StandsInText (text : List ℕ) (finding : Finding) : Type 0 where
  pub before : List ℕ
  pub item : List ℕ
  pub rest : List ℕ
  pub parts : text ≡ before ++ (item ++ rest)
  pub begin : finding.begin ≡ place_after before
  pub end : finding.end ≡ place_after (before ++ item)
