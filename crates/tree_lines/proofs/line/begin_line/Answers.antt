use Rattle.std.proofs.Common.{◌++◌, ap, sym, ◌∙◌, append_assoc, append-nil}
use Rattle.std.specs.Prelude.{codes}
use Rattle.tree_lines.specs.Lines.{spaces}
use Rattle.tree_lines.proofs.Spaces.{more_spaces, no_spaces}
use Rattle.tree_lines.proofs.line.begin_line.Goals as goal

pub loop-init : goal.loop-init
loop-init g c =
    let first = c.extend_from_slice.new.self.items in
    sym (ap (λ l. first ++ l) no_spaces ∙ append-nil first)

pub loop-preserved : goal.loop-preserved
loop-preserved g c =
    let first = c.extend_from_slice.new.self.items in
    c.in_ok-extend_from_slice-2.ensures.items
    ∙ (ap (λ l. l ++ codes "  ") c.loop.invariant
    ∙ (append_assoc first (spaces c.loop.counter) (codes "  ") ∙ ap (λ l. first ++ l) (sym (more_spaces c.loop.counter))))
