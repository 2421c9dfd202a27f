-- What a handler's amendments make of a page.
use Rattle.std.specs.Prelude.{ℕ, List, [], ◌∷◌, Option, None, Some, if◌then◌else◌}
use Rattle.html5ever_interface.specs.Token.{TagOf, Told}
use Rattle.html5ever_interface.specs.Token.Told.{End, Error, Tag}
use Rattle.html5ever_interface.specs.declared.interface.token.TagKind.{TagKind}
use Rattle.html5ever_interface.specs.declared.interface.token.TagKind.TheVariants.{EndTag, StartTag}
use Rattle.html5splice.specs.Cuts.{CutOf}
use Rattle.html5splice.specs.Edits.{EditOf, EditsOf, Splices}
use Rattle.html5splice.specs.Edits.EditOf.{Keep, Replace}
use Rattle.html5amend.specs.Elements.{ElementOf, as_in_page, start_part, waits}
use Rattle.html5amend.specs.Open.{OpenOf, closed_by, counted, is_dropping, opened}
use Rattle.html5amend.specs.Others.{OtherOf, other_in_page}
use Rattle.html5amend.specs.Parts.{PartOf, edit_of_part}

-- what a handler makes of each element, at its start tag, and of each other token
pub record Amends : Type 0 where
  pub element : ElementOf → ElementOf
  pub other : OtherOf → OtherOf

-- ---- what takes the place of a token

-- of an end tag, or this where it closes none that waits
abbrev pub end_edit : EditOf → Option PartOf → List ℕ → EditOf
end_edit otherwise None source = otherwise
end_edit otherwise (Some ending) source = edit_of_part ending source

-- when the content here is dropped: the end tag of the element that drops it is not part of it
abbrev pub dropped_tag : List OpenOf → TagKind → TagOf → List ℕ → EditOf
dropped_tag waiting StartTag tag source = Replace []
dropped_tag waiting EndTag tag source = end_edit (Replace []) (closed_by tag.name waiting) source

abbrev pub dropped_token : List OpenOf → Told → List ℕ → EditOf
dropped_token waiting (Tag tag) source = dropped_tag waiting tag.kind tag source
dropped_token waiting other source = Replace []

module _ (amends : Amends) where
  -- an element that this tag begins
  abbrev pub amended : TagOf → ElementOf
  amended tag = amends.element (as_in_page tag)

  abbrev pub shown_tag : List OpenOf → TagKind → TagOf → List ℕ → EditOf
  shown_tag waiting StartTag tag source = edit_of_part (start_part (amended tag)) source
  shown_tag waiting EndTag tag source = end_edit Keep (closed_by tag.name waiting) source

  abbrev pub shown_token : List OpenOf → Told → List ℕ → EditOf
  shown_token waiting (Tag tag) source = shown_tag waiting tag.kind tag source
  shown_token waiting (Error message) source = Keep
  shown_token waiting End source = Keep
  shown_token waiting other source = edit_of_part (amends.other (other_in_page other)).part source

  abbrev pub amending_edits : List OpenOf → CutOf → EditsOf
  amending_edits waiting cut =
      if is_dropping waiting then record { run = Replace []; token = dropped_token waiting cut.token cut.source }
      else record { run = Keep; token = shown_token waiting cut.token cut.source }

-- ---- which elements wait after a token

pub data Move : Type 0 where
  -- the token is no tag
  Stays : Move
  -- a tag is counted by the innermost that has its name
  Counts : TagOf → Move
  -- one more waits
  Opens : OpenOf → Move

abbrev pub moved : Move → List OpenOf → List OpenOf
moved Stays waiting = waiting
moved (Counts tag) waiting = counted tag waiting
moved (Opens o) waiting = o ∷ waiting

abbrev pub opening_move : TagOf → ElementOf → Move
opening_move tag e = if waits e then Opens (opened e) else Counts tag

-- when the content here is dropped
abbrev pub dropped_move : Told → Move
dropped_move (Tag tag) = Counts tag
dropped_move other = Stays

module _ (amends : Amends) where
  abbrev pub shown_move : TagKind → TagOf → Move
  shown_move StartTag tag = opening_move tag (amended amends tag)
  shown_move EndTag tag = Counts tag

  abbrev pub shown_told_move : Told → Move
  shown_told_move (Tag tag) = shown_move tag.kind tag
  shown_told_move other = Stays

  abbrev pub move_of : List OpenOf → Told → Move
  move_of waiting told = if is_dropping waiting then dropped_move told else (shown_told_move told)

  abbrev pub amending : Splices (List OpenOf)
  amending = record { edits = amending_edits amends; step = λ waiting cut. moved (move_of waiting cut.token) waiting }
