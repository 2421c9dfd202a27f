use Rattle.std.proofs.Common.{◌≡◌, [], ◌++◌, true, ap, sym, ◌∙◌}
use Rattle.std.specs.Prelude.{◌==◌, if◌then◌else◌}
use Rattle.html5ever_interface.specs.Token.{told_by}
use Rattle.html5cleaner.specs.Balance.{is_end}
use Rattle.html5cleaner.specs.Shape.Shape.{Tree}
use Rattle.html5cleaner.proofs.CountLemmas.{not-zero}
use Rattle.html5cleaner.proofs.KeepsLemmas.{kept-last}
use Rattle.html5cleaner.proofs.TreeSteps.{settles-same}
use Rattle.html5cleaner.proofs.in_tree.keep_in_tree.Goals as goal
use Rattle.html5cleaner.proofs.in_tree.keep_in_tree.Goals.{then-depth-eq0, else-depth-eq0}

pub returns-then-is_end : goal.returns-then-is_end
returns-then-is_end g c =
    let told = told_by c.args.token.now in
    let ends = sym c.is_end.ensures ∙ c.if-is_end.true in
    let shown : c.if-depth-eq0.shown.now ≡ (if c.args.depth == 0 then c.args.run.now else []) =
    elim c.if-depth-eq0.branch [
      | then-depth-eq0 w ↦ ap (λ b. b.now) w.shown-is ∙ ap (λ n. if n == 0 then c.args.run.now else []) (sym w.if-depth-eq0.true)
      | else-depth-eq0 w ↦ ap (λ b. b.now) w.shown-is ∙ ap (λ b. if b then c.args.run.now else []) (sym (not-zero c.args.depth w.if-depth-eq0.false))
    ] in
    let kept = kept-last c.args.policy.now c.args.depth c.args.run.now c.if-depth-eq0.shown.now told ends shown in
    settles-same (Tree c.args.opened.now.tree.limit) c.write_in_tree.result c.args.page.now c.write_in_tree.new.page c.args.opened.now c.write_in_tree.new.opened true (is_end told)
    c.args.opened.now.tree.opened _ _ (sym ends) (ap (λ l. l ++ []) c.kept_run-run.ensures ∙ kept) c.write_in_tree.ensures
