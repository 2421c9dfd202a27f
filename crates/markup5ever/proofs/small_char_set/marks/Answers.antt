use Rattle.std.proofs.Common.{◌≢◌, ◌↔◌, get_or, bit_and, sym, ap, ◌∙◌, subst, arith}
use Rattle.std.proofs.lemmas.Simd.{get_or-zip2}
use Rattle.markup5ever.specs.SmallCharSet.{IsMember}
use Rattle.markup5ever.proofs.LaneLemmas.{lane_fits}
use Rattle.markup5ever.proofs.SmallCharSetLemmas.{eighth_tells}
use Rattle.markup5ever.proofs.small_char_set.marks.Goals as goal

pub returns : goal.returns
returns c k less =
    let eighths = c.eighth_of_each in
    let bits = c.bit_of_each in
    let x = get_or c.args.block k 0 in
    let lane = get_or-zip2 bit_and eighths.result bits.result k 0 0 0 (omega (arith, less, eighths.ensures.long)) (omega (arith, less, bits.ensures.long)) ∙ ap (λ a. bit_and a (get_or bits.result k 0)) (eighths.ensures.each k less) ∙ ap (bit_and _) (bits.ensures.each k less) in
    subst (λ b. (b ≢ 0) ↔ IsMember c.args.bits x) (sym lane) (eighth_tells c.args.bits x (omega arith) (lane_fits c.args.block k c.fits-block less))
