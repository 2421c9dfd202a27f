use Rattle.std.proofs.Common.{ap, sym, ◌∙◌, arith}
use Rattle.html5tree.specs.Fitting.{fits}
use Rattle.html5tree.specs.Items.Item.{StartTag}
use Rattle.html5tree.specs.Names.{is_void, kind_of}
use Rattle.html5cleaner.proofs.FittingPieces.{StartFits, start-opens, start-stays}
use Rattle.html5cleaner.proofs.fitting.fit_of_start_tag.Goals as goal

pub returns-then-is_void : goal.returns-then-is_void
returns-then-is_void g c =
    let nested = c.args.nesting.now in
    let void = ap (λ n. is_void (kind_of n)) (sym c.in-Some.ensures.found) ∙ (ap is_void (sym c.kind.ensures) ∙ (sym c.is_void.ensures ∙ c.if-is_void.true)) in
    let fit : StartFits nested c.args.name.now =
    λ attributes. ap (λ n. fits nested.opened (StartTag n attributes)) (sym c.in-Some.ensures.found) ∙ (sym (c.start_fits.ensures attributes) ∙ c.if-not-start_fits.false) in
    λ attributes. start-stays nested c.args.name.now attributes c.utf8.name fit void c.depth-open.ensures.ready.short

pub returns-then-open-limit : goal.returns-then-open-limit
returns-then-open-limit g c =
    let nested = c.args.nesting.now in
    let void = ap (λ n. is_void (kind_of n)) (sym c.in-Some.ensures.found) ∙ (ap is_void (sym c.kind.ensures) ∙ (sym c.is_void.ensures ∙ c.if-is_void.false)) in
    let fit : StartFits nested c.args.name.now =
    λ attributes. ap (λ n. fits nested.opened (StartTag n attributes)) (sym c.in-Some.ensures.found) ∙ (sym (c.start_fits.ensures attributes) ∙ c.if-not-start_fits.false) in
    λ attributes. start-opens nested c.in-Some.element c.args.name.now attributes c.in-Some.ensures.found c.utf8.name fit void
    (omega (arith, c.depth-open.ensures.value, c.if-open-limit.true, c.requires))
