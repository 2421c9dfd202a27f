use Rattle.std.proofs.Common.{◌≡◌, [], ap, sym, ◌∙◌, rules}
use Rattle.std.specs.Prelude.{◌==◌, if◌then◌else◌}
use Rattle.html5ever_interface.specs.Token.{told_by}
use Rattle.html5cleaner.specs.Shape.{shape_by_balance}
use Rattle.html5cleaner.specs.Balance.{open_by, written_by}
use Rattle.html5cleaner.proofs.CountLemmas.{not-zero}
use Rattle.html5cleaner.proofs.KeepsLemmas.{keeps-hidden, keeps-plain, keeps-same, kept-last, kept-untagged}
use Rattle.html5cleaner.proofs.WrittenRuns.{plain-open, plain-run}
use Rattle.html5cleaner.proofs.cleaner.keep_by_tags.Goals as goal
use Rattle.html5cleaner.proofs.cleaner.keep_by_tags.Goals.{then-depth-eq0, else-depth-eq0}

pub returns-then-is_end : goal.returns-then-is_end
returns-then-is_end g c =
    let policy = c.args.policy.now in
    let opened = c.args.opened.now in
    let told = told_by c.args.token.now in
    let ends = sym c.is_end.ensures ∙ c.if-is_end.true in
    let shown : c.if-depth-eq0.shown.now ≡ (if c.args.depth == 0 then c.args.run.now else []) =
    elim c.if-depth-eq0.branch [
      | then-depth-eq0 w ↦ ap (λ b. b.now) w.shown-is ∙ ap (λ n. if n == 0 then c.args.run.now else []) (sym w.if-depth-eq0.true)
      | else-depth-eq0 w ↦ ap (λ b. b.now) w.shown-is ∙ ap (λ b. if b then c.args.run.now else []) (sym (not-zero c.args.depth w.if-depth-eq0.false))
    ] in
    let kept = kept-last policy c.args.depth c.args.run.now c.if-depth-eq0.shown.now told ends shown in
    keeps-same c.keep_end.result c.args.page.now c.keep_end.new.page opened opened _ _ _ _
    (λ i. written_by (shape_by_balance policy.balance) (sym ends i) opened (kept i))
    (λ i. open_by (shape_by_balance policy.balance) (sym ends i) opened (kept i))
    c.keep_end.ensures

pub returns-then-depth-ne0 : goal.returns-then-depth-ne0
returns-then-depth-ne0 g c =
    keeps-hidden c.args.policy.now c.args.depth c.args.page.now c.args.opened.now c.args.run.now (told_by c.args.token.now) (sym c.is_end.ensures ∙ c.if-is_end.false)
    (not-zero c.args.depth c.if-depth-ne0.true)

pub returns-in_default : goal.returns-in_default
returns-in_default g c =
    let policy = c.args.policy.now in
    let opened = c.args.opened.now in
    let told = told_by c.args.token.now in
    let goes_on = sym c.is_end.ensures ∙ c.if-is_end.false in
    let kept = kept-untagged policy c.args.depth c.args.run.now told c.if-depth-ne0.false (search rules) in
    keeps-same c.write_plain.result c.args.page.now c.write_plain.new.page opened opened _ _ _ _
    (sym ((λ i. written_by (shape_by_balance policy.balance) (goes_on i) opened (kept i)) ∙ plain-run policy.balance opened c.args.run.now))
    (sym ((λ i. open_by (shape_by_balance policy.balance) (goes_on i) opened (kept i)) ∙ plain-open policy.balance opened c.args.run.now))
    (keeps-plain c.write_plain.result c.args.page.now c.write_plain.new.page opened _ c.write_plain.ensures.written c.write_plain.ensures.unchanged c.write_plain.ensures.change)
