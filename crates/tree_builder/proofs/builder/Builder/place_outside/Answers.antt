use Rattle.std.proofs.Common.{◌≡◌, ◌+◌, ap, arith, drop, sym, ◌∙◌}
use Rattle.std.proofs.lemmas.Result.{IfOk-weaker}
use Rattle.tree_construction.specs.Adoption.{opened_outside}
use Rattle.tree_construction.specs.Parser.{place_in}
use Rattle.tree_lists.proofs.OpenPlaces.{drop-twice}
use Rattle.tree_builder.proofs.builder.Builder.place_outside.Goals as goal

pub returns : goal.returns
returns g c =
    let node = g.S.Handle.NodeHandle.node in
    let p = c.args.self.now.parser in
    let opened = p.page.opened in
    let from = c.args.depth + 1 in
    let inside = c.in-Some.inside in
    let outside : drop (from + inside + 1) opened ≡ opened_outside (node c.args.formatting) (drop from opened) =
    ap (λ n. drop n opened) (omega arith)
    ∙ (sym (drop-twice from (inside + 1) opened) ∙ sym c.in-Some.ensures.outside) in
    IfOk-weaker c.place_in.result _ _ (λ place e. e ∙ ap (λ es. place_in p es) outside) c.place_in.ensures
