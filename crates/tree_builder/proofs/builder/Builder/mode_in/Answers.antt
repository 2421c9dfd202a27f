use Rattle.std.proofs.Common.{◌≡◌, ◌<◌, ◌+◌, [], ap, arith, drop, length, sym, ◌∙◌}
use Rattle.std.proofs.lemmas.List.{drop_all}
use Rattle.tree_construction.specs.Resetting.{last_kind, mode_at, mode_of}
use Rattle.tree_construction.specs.declared.modes.Mode.TheVariants.{InBody}
use Rattle.std.specs.Prelude.{true, false}
use Rattle.tree_builder.proofs.TemplateModes.{mode-inner, mode-last}
use Rattle.tree_builder.specs.Built.{mode_or}
use Rattle.tree_builder.proofs.builder.Builder.mode_in.Goals as goal

pub returns-then-depth-count : goal.returns-then-depth-count
unfolding mode_of
returns-then-depth-count g c =
    let p = c.args.self.now.parser in
    let e = c.open_kind-kind.ensures.0 in
    let here = c.open_kind-kind.ensures.1.0 in
    let last : c.args.depth + 1 ≡ length p.page.opened = omega arith in
    let none : drop (c.args.depth + 1) p.page.opened ≡ [] = drop_all (c.args.depth + 1) p.page.opened (omega arith) in
    mode-last p p.page.opened c.args.depth e here last
    ∙ (ap (λ kind. mode_at p true (last_kind p.options.context kind) InBody) (sym c.open_kind-kind.ensures.1.1)
    ∙ (ap (λ kind. mode_at p true kind InBody) (sym c.last_kind.ensures)
    ∙ (c.mode_at.ensures InBody ∙ ap (λ es. mode_or c.mode_at.result (mode_of p es)) (sym none))))

pub returns : goal.returns
returns g c =
    let p = c.args.self.now.parser in
    let e = c.open_kind-kind.ensures.0 in
    let here = c.open_kind-kind.ensures.1.0 in
    let more : c.args.depth + 1 < length p.page.opened = omega arith in
    mode-inner p p.page.opened c.args.depth e here more
    ∙ (ap (λ kind. mode_at p false kind (mode_of p (drop (c.args.depth + 1) p.page.opened))) (sym c.open_kind-kind.ensures.1.1)
    ∙ c.mode_at-2.ensures (mode_of p (drop (c.args.depth + 1) p.page.opened)))
