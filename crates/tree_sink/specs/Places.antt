-- Places and what is put there, in the words of the definition.
use Rattle.std.specs.Prelude.{ℕ}
use Rattle.tree_construction.specs.Page.{Edit, Place}
use Rattle.tree_construction.specs.Page.Place.{LastChild, BeforeTable, BesideNode}
use Rattle.tree_construction.specs.Page.Edit.{Put, PutText}
use Rattle.tree_sink.specs.declared.place.InsertionPoint.{InsertionPoint}
use Rattle.tree_sink.specs.declared.place.InsertionPoint.TheVariants.{LastChild as LastChildOf, TableFosterParenting, BesideNode as Beside}
use Rattle.tree_sink.specs.declared.place.NodeOrText.{NodeOrText}
use Rattle.tree_sink.specs.declared.place.NodeOrText.TheVariants.{AppendNode, AppendText}

abbrev pub place_of : {H : Type 0} → (H → ℕ) → InsertionPoint H → Place
place_of node (LastChildOf parent) = LastChild (node parent)
place_of node (TableFosterParenting table above) = BeforeTable (node table) (node above)
place_of node (Beside other) = BesideNode (node other)

-- the edit that puts a node or a text at a place
abbrev pub put_of : {H : Type 0} → (H → ℕ) → Place → NodeOrText H → Edit
put_of node place (AppendNode child) = Put place (node child)
put_of node place (AppendText text) = PutText place text.now
