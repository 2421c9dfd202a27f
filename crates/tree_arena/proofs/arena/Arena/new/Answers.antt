use Rattle.std.proofs.Common.{List, None, ap}
use Rattle.tree_construction.specs.Document.{Child, Row}
use Rattle.tree_construction.specs.Document.What.{Document}
use Rattle.tree_arena.specs.Children.{children_of}
use Rattle.tree_arena.specs.declared.row.NodeKind.TheVariants.{Document as DocumentKind}
use Rattle.tree_arena.proofs.NodeRows.{made-first}
use Rattle.tree_arena.proofs.arena.Arena.new.Goals as goal

pub returns-clause-rows : goal.returns-clause-rows
returns-clause-rows g c =
    let bare : List Child → Row = λ children. record { node = 0; what = Document; parent = None; contents = None; children = children } in
    made-first c.new-nodes.result.items c.push.new.self.items (record { what = DocumentKind; parent = None; contents = None; children = c.new.result }) Document
    c.new-nodes.ensures.items c.in_ok-push.ensures.items (ap (λ l. bare (children_of l)) c.new.ensures.items)
