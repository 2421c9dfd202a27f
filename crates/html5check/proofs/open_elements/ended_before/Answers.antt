use Rattle.std.proofs.Common.{ap, sym, ◌∙◌, ◌+◌, drop, arith, true, false}
use Rattle.html5check.specs.Opened.{ended_before, opened_by}
use Rattle.html5check.proofs.Opening.{counted, ends-further, ends-here, ends-none}
use Rattle.html5check.proofs.open_elements.ended_before.Goals as goal
use Rattle.html5check.proofs.open_elements.ended_before.Goals.{else-ends_before, then-ends_before}

pub returns-then-not-has_optional_end : goal.returns-then-not-has_optional_end
returns-then-not-has_optional_end c =
    sym (c.loop-i.invariant ∙ ends-here c.args.elements.now c.args.name.now c.loop-i.i c.loop-i.count _ (omega arith) (sym c.has_optional_end.ensures ∙ c.if-not-has_optional_end.true))

pub loop-i-preserved : goal.loop-i-preserved
loop-i-preserved c =
    let more = ended_before (drop (c.loop-i.i + 1) (opened_by c.args.elements.now)) c.args.name.now in
    elim c.if-ends_before.branch [
      | then-ends_before w ↦
          c.loop-i.invariant
          ∙ ends-further c.args.elements.now c.args.name.now c.loop-i.i c.loop-i.count _ true (omega arith) (sym c.has_optional_end.ensures ∙ c.if-not-has_optional_end.false) (sym c.ends_before.ensures ∙ w.if-ends_before.true)
          ∙ ap (λ count. counted (c.loop-i.i + 1) count more) (sym w.count-is)
      | else-ends_before w ↦
          c.loop-i.invariant
          ∙ ends-further c.args.elements.now c.args.name.now c.loop-i.i c.loop-i.count _ false (omega arith) (sym c.has_optional_end.ensures ∙ c.if-not-has_optional_end.false) (sym c.ends_before.ensures ∙ w.if-ends_before.false)
          ∙ ap (λ count. counted (c.loop-i.i + 1) count more) (sym w.count-is)
    ]

pub returns : goal.returns
returns c = sym (c.loop-i.invariant ∙ ends-none c.args.elements.now c.args.name.now c.loop-i.i c.loop-i.count (omega arith))
