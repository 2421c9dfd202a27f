use Rattle.std.proofs.Common.{ap, sym, ◌∙◌, chars, arith}
use Rattle.html5places.proofs.Advancing.{onward-ends, onward-more, onward-stops}
use Rattle.html5places.specs.Cursor.{advanced, onward}
use Rattle.html5places.proofs.places_in_order.Cursor.onward.Goals as goal

pub returns-then-len_utf8-saturating_sub : goal.returns-then-len_utf8-saturating_sub
returns-then-len_utf8-saturating_sub c =
    let k = c.loop-c.cursor in
    ap (λ rest. record { rest = rest; place = k.place; position = k.position; after_cr = k.after_cr }) c.in-Some.ensures.some
    ∙ sym (onward-stops c.args.to k.place k.position k.after_cr c.in-Some.c (chars c.in-Some.rest.now) (grind (arith, c.if-len_utf8-saturating_sub.true, c.saturating_sub.ensures)))
    ∙ ap (advanced c.args.to k.place k.position k.after_cr) (sym c.in-Some.ensures.some)
    ∙ c.loop-c.invariant

pub loop-c-preserved : goal.loop-c-preserved
loop-c-preserved c =
    let k = c.loop-c.cursor in
    let same =
    ap (onward c.args.to) c.past.ensures
    ∙ sym (onward-more c.args.to k.place k.position k.after_cr c.in-Some.c (chars c.in-Some.rest.now) (grind (arith, c.if-len_utf8-saturating_sub.false, c.saturating_sub.ensures)))
    ∙ ap (advanced c.args.to k.place k.position k.after_cr) (sym c.in-Some.ensures.some)
    ∙ c.loop-c.invariant in
    c.past_plain-cursor-in-Some.ensures.same ∙ same

pub returns : goal.returns
returns c =
    let k = c.loop-c.cursor in
    ap (λ rest. record { rest = rest; place = k.place; position = k.position; after_cr = k.after_cr }) c.in_default.ensures.none
    ∙ sym (onward-ends c.args.to k.place k.position k.after_cr)
    ∙ ap (advanced c.args.to k.place k.position k.after_cr) (sym c.in_default.ensures.none)
    ∙ c.loop-c.invariant
