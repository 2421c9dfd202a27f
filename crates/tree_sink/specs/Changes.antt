-- The edit that an editor notes. These are words of the proofs: no promise to callers is made of them.
use Rattle.std.specs.Prelude.{ℕ, suc, List, []}
use Rattle.markup5ever.specs.Names.{AttributeOf}
use Rattle.tree_construction.specs.Page.{Edit}
use Rattle.tree_construction.specs.Page.Edit.{MakeElement, MakeContents, MakeComment, PutDoctype, Put, PutText, Remove, MoveChildren, AddAttributes, SetQuirksMode, MarkStarted, AssociateForm, Pop, ParseError}
use Rattle.tree_sink.specs.Places.{place_of}
use Rattle.tree_sink.specs.declared.noted.Change.{Change}
use Rattle.tree_sink.specs.declared.noted.Change.TheVariants.{MakeElement as MakeElementOf, MakeBareElement, MakeContents as MakeContentsOf, MakeComment as MakeCommentOf, PutDoctype as PutDoctypeOf, Put as PutOf, PutText as PutTextOf, Remove as RemoveOf, MoveChildren as MoveChildrenOf, AddAttributes as AddAttributesOf, SetQuirksMode as SetQuirksModeOf, MarkStarted as MarkStartedOf, AssociateForm as AssociateFormOf, Pop as PopOf, ParseError as ParseErrorOf}

abbrev pub edit_of : {H T : Type 0} → (H → ℕ) → (T → List AttributeOf) → Change H T → Edit
edit_of node said (MakeElementOf handle namespace name attributes) = MakeElement (node handle) namespace name.now (said attributes.now)
edit_of node said (MakeBareElement handle namespace name) = MakeElement (node handle) namespace name.now []
edit_of node said (MakeContentsOf template) = MakeContents (node template) (suc (node template))
edit_of node said (MakeCommentOf handle text) = MakeComment (node handle) text.now
edit_of node said (PutDoctypeOf name public_id system_id) = PutDoctype name.now public_id.now system_id.now
edit_of node said (PutOf place child) = Put (place_of node place) (node child)
edit_of node said (PutTextOf place text) = PutText (place_of node place) text.now
edit_of node said (RemoveOf handle) = Remove (node handle)
edit_of node said (MoveChildrenOf source target) = MoveChildren (node source) (node target)
edit_of node said (AddAttributesOf handle attributes) = AddAttributes (node handle) (said attributes.now)
edit_of node said (SetQuirksModeOf mode) = SetQuirksMode mode
edit_of node said (MarkStartedOf handle) = MarkStarted (node handle)
edit_of node said (AssociateFormOf handle form place) = AssociateForm (node handle) (node form) (place_of node place)
edit_of node said (PopOf handle) = Pop (node handle)
edit_of node said (ParseErrorOf mistake) = ParseError mistake
