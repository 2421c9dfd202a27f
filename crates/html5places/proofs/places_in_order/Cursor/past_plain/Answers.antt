use Rattle.std.proofs.Common.{◌≡◌, ◌+◌, ◌-◌, ◌<◌, ◌≤◌, false, true, length, take, ap, subst, sym, ◌∙◌, arith}
use Rattle.std.specs.List.{list_all}
use Rattle.std.specs.Str.{chars}
use Rattle.std.proofs.lemmas.List.{length-take-le}
use Rattle.html5places.proofs.Advancing.{plain-runs}
use Rattle.html5places.specs.Cursor.{advanced, is_plain}
use Rattle.html5places.specs.Positions.{along}
use Rattle.html5places.proofs.places_in_order.Cursor.past_plain.Goals as goal

pub returns-clause-same : goal.returns-clause-same
returns-clause-same c =
    let k = c.args.self in
    let to = c.args.to in
    let n = c.plain_len-len.result in
    let text = k.rest.now in
    let rest = chars c.after_plain.result.now in
    let run = take n text in
    let plain : list_all is_plain run ≡ true = subst (λ bytes. list_all is_plain (take n bytes) ≡ true) c.as_bytes.ensures.value c.plain_len-len.ensures.plain in
    let within : n ≤ length text = subst (λ bytes. n ≤ length bytes) c.as_bytes.ensures.value c.plain_len-len.ensures.within in
    let len : length run ≡ n = length-take-le n text within in
    let some : 0 < length run = subst (λ m. 0 < m) (sym len) (grind (arith, c.if-len-eq0.false)) in
    let room : length run ≤ to - k.place = subst (λ m. m ≤ to - k.place) (sym len) (grind (arith, c.plain_len-len.ensures.limit, c.saturating_sub.ensures)) in
    ap (λ p. advanced to (k.place + n) p false rest) c.along.ensures
    ∙ ap (λ m. advanced to (k.place + m) (along k.position m) false rest) (sym len)
    ∙ sym (plain-runs to k.place k.position k.after_cr run rest plain some room)
    ∙ ap (advanced to k.place k.position k.after_cr) (sym c.after_plain.ensures)
