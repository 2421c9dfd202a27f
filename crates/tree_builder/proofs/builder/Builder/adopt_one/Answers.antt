use Rattle.std.proofs.Common.{◌≡◌, ◌∷◌, [], ap, refl, sym, ◌∙◌}
use Rattle.std.proofs.lemmas.List.{reverse-append}
use Rattle.std.specs.Prelude.{option_map}
use Rattle.tree_construction.specs.Adoption.{entry_of, list_at, remade_open}
use Rattle.tree_construction.specs.Parser.{Parser}
use Rattle.tree_lists.specs.Opened.{node_in, open_of, opened_of}
use Rattle.tree_builder.specs.Built.{Built}
use Rattle.tree_builder.proofs.Clones.{cloned-some}
use Rattle.tree_builder.proofs.builder.Builder.adopt_one.Goals as goal

pub returns-clause-inner : goal.returns-clause-inner
returns-clause-inner g c =
    let node = g.S.Handle.NodeHandle.node in
    let n = node c.args.handle in
    let p : Parser = c.args.self.now.parser in
    let q : Parser = record p { formatting = list_at c.args.count n p.formatting } in
    let limited : c.limit_listed.new.self.parser ≡ q = ap (λ (b : Built g.row.S.Denot). b.parser) c.limit_listed.ensures in
    let clone = open_of node c.in-Some.clone in
    let clones = opened_of node c.args.at.clones in
    let element =
    sym (ap (option_map (open_of node)) c.in-Some.is)
    ∙ (c.in_ok-clone.ensures.element ∙ ap (λ (r : Parser). option_map (remade_open r.page.next) (entry_of n r.formatting)) limited) in
    rw (c.in_ok-move_into.ensures, c.in_ok-clone.ensures.parser, c.in_ok-push.ensures.ok, c.limit_listed.ensures)
    (cloned-some q (entry_of n q.formatting) (node c.args.block) n (node c.args.at.last) clone (node_in node c.args.at.bookmark)
    (node_in node c.bookmark_after.result) p.formatting clones refl element c.bookmark_after.ensures (reverse-append (clone ∷ []) clones))
