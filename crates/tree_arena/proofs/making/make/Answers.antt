use Rattle.std.proofs.Common.{◌≡◌, ◌+◌, List, None, ap, arith, length, rules, vec_len}
use Rattle.tree_construction.specs.Document.{Child, Row}
use Rattle.tree_arena.specs.Children.{children_of}
use Rattle.tree_arena.specs.Rows.{what_of}
use Rattle.tree_arena.proofs.NodeRows.{made}
use Rattle.tree_arena.proofs.making.make.Goals as goal

pub returns-clause-ok : goal.returns-clause-ok
returns-clause-ok g c =
    let len : vec_len c.args.nodes.now ≡ length c.args.nodes.now.items = search rules in
    let bare : List Child → Row = λ children. record { node = 0; what = what_of c.args.what; parent = None; contents = None; children = children } in
    made c.args.nodes.now.items c.push.new.self.items (record { what = c.args.what; parent = None; contents = None; children = c.new.result }) (c.len.result + 2) (what_of c.args.what)
    (omega arith) (omega arith) c.in_ok-push.ensures.items (ap (λ l. bare (children_of l)) c.new.ensures.items)
