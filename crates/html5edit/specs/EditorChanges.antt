-- What a token changes in an editor: vocabulary of proofs.
use Rattle.std.specs.Prelude.{Option, None, Some}
use Rattle.html5elements.specs.Hidden.{Hidden, hidden_of}
use Rattle.html5elements.specs.declared.hidden.Hidden.{Hidden as RustHidden}
use Rattle.html5extract.specs.Bases.{with_named}
use Rattle.html5edit.specs.Editing.{Editing}
use Rattle.html5edit.specs.declared.editor.Editor.{Editor}
use Rattle.html5edit.specs.declared.editor.EditorChange.{EditorChange}

abbrev pub hidden_with : {Z : Type 0} → Hidden → Option (RustHidden Z) → Hidden
hidden_with hidden None = hidden
hidden_with hidden (Some now) = hidden_of now

abbrev pub changed_with : Editing → EditorChange → Editing
changed_with s change = record s { bases = with_named s.bases change.base; hidden = hidden_with s.hidden change.hidden }

abbrev pub editing_of : Editor → Editing
editing_of editor = record { changes = editor.changes.now; bases = editor.bases; hidden = hidden_of editor.hidden }
