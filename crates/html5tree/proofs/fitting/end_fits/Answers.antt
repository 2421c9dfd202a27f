use Rattle.std.proofs.Common.{◌≡◌, ◌+◌, ◌-◌, length, ap, arith, sym, ◌∙◌}
use Rattle.std.specs.Prelude.{◌&&◌, true, false}
use Rattle.std.proofs.lemmas.Bool.{eqb-false, eqb-true}
use Rattle.html5tree.specs.ElementNames.{name_of}
use Rattle.html5tree.specs.Fitting.{can_open}
use Rattle.html5tree.specs.Names.{kind_of, named}
use Rattle.html5tree.proofs.OpenNames.{end-fits-none, end-fits-top}
use Rattle.html5tree.proofs.fitting.end_fits.Goals as goal

pub returns-then-is_empty : goal.returns-then-is_empty
returns-then-is_empty c =
    end-fits-none c.args.opened.now c.args.name (eqb-true (length c.args.opened.now) 0 (sym c.is_empty.ensures ∙ c.if-is_empty.true))

pub returns-then-can_open : goal.returns-then-can_open
returns-then-can_open c =
    let some = eqb-false (length c.args.opened.now) 0 (sym c.is_empty.ensures ∙ c.if-is_empty.false) in
    let less : length c.args.opened.now - 1 + 1 ≡ length c.args.opened.now = omega arith in
    let opens : can_open (kind_of (name_of c.args.name)) ≡ true = ap can_open (sym c.kind.ensures) ∙ (sym c.can_open.ensures ∙ c.if-can_open.true) in
    c.is.ensures ∙ (ap (λ b. b && named (name_of c.args.name) (name_of c.index-opened-opened.result)) (sym opens)
    ∙ end-fits-top c.args.opened.now (length c.args.opened.now - 1) c.index-opened-opened.result c.args.name less c.index-opened-opened.is)

pub returns-else-can_open : goal.returns-else-can_open
returns-else-can_open c =
    let some = eqb-false (length c.args.opened.now) 0 (sym c.is_empty.ensures ∙ c.if-is_empty.false) in
    let less : length c.args.opened.now - 1 + 1 ≡ length c.args.opened.now = omega arith in
    let opens : can_open (kind_of (name_of c.args.name)) ≡ false = ap can_open (sym c.kind.ensures) ∙ (sym c.can_open.ensures ∙ c.if-can_open.false) in
    c.if-can_open.false ∙ (ap (λ b. b && named (name_of c.args.name) (name_of c.index-opened-opened.result)) (sym opens)
    ∙ end-fits-top c.args.opened.now (length c.args.opened.now - 1) c.index-opened-opened.result c.args.name less c.index-opened-opened.is)
