-- Lines of bytes in pieces, whose numbers stop at a greatest one.
use Rattle.std.proofs.Common.{false, ◌≡◌, ℕ, ◌+◌, ◌-◌, ◌<◌, ◌≤◌, List, ◌++◌, length, take, sym, ap, ◌∙◌, arith, ⊎_elim}
use Rattle.std.specs.Prelude.{min}
use Rattle.std.proofs.Math.Nat.{le_trans, min-eq_left, min-eq_right}
use Rattle.std.proofs.Math.Seq.{take-append-add}
use Rattle.std.proofs.lemmas.Bool.{cases_lt}
use Rattle.std.proofs.lemmas.List.{length-take-le, take-append-le, take-take, take_all}
use Rattle.decoded_source.specs.Lines.{ends_in_cr, line_at, line_ends}
use Rattle.decoded_source.proofs.TwoTexts.{line_ends-append}

pub line-near : (place : ℕ) (before last : List ℕ) → line_ends false (take place before) ≡ line_ends false before
    → line_at place (before ++ last) ≡ 1 + (line_ends false before + line_ends (ends_in_cr false before) (take (place - length before) last))
line-near place before last same =
    let after_cr = ends_in_cr false before in
    let more = place - length before in
    ⊎_elim
    (λ (a : place < length before).
    let zero : more ≡ 0 = omega arith in
    let none : line_ends after_cr (take more last) ≡ 0 = ap (λ n. line_ends after_cr (take n last)) zero in
    let front : line_ends false (take place (before ++ last)) ≡ line_ends false (take place before) = ap (line_ends false) (take-append-le place before last (omega arith)) in
    omega (arith, none, front, same))
    (λ (b : length before ≤ place).
    let place_is : place ≡ length before + more = omega arith in
    let front : take place (before ++ last) ≡ before ++ take more last = ap (λ p. take p (before ++ last)) place_is ∙ take-append-add before last more in
    let ends : line_ends false (take place (before ++ last)) ≡ line_ends false before + line_ends after_cr (take more last) =
    ap (line_ends false) front ∙ line_ends-append false before (take more last) in
    omega (arith, ends))
    (cases_lt place (length before))

-- a number that stopped stays there
pub saturated : (most a b : ℕ) → min (min a most + b) most ≡ min (a + b) most
saturated most a b =
    ⊎_elim
    (λ (l : a < most). ap (λ n. min (n + b) most) (min-eq_left {n = a} {m = most} (omega arith)))
    (λ (r : most ≤ a).
    ap (λ n. min (n + b) most) (min-eq_right {n = most} {m = a} r)
    ∙ min-eq_right {n = most} {m = most + b} (omega arith)
    ∙ sym (min-eq_right {n = most} {m = a + b} (omega arith)))
    (cases_lt a most)

length-take : (count : ℕ) (piece : List ℕ) → length (take count piece) ≤ count
length-take count piece =
    ⊎_elim
    (λ (l : count < length piece). omega (arith, length-take-le count piece (omega arith)))
    (λ (r : length piece ≤ count). omega (arith, ap length (take_all count piece r)))
    (cases_lt count (length piece))

-- the front of a front
take-front : (n count : ℕ) (piece : List ℕ) → take n (take count piece) ≡ take (min n count) piece
take-front n count piece =
    ⊎_elim
    (λ (l : n < count). take-take n count piece (omega arith) ∙ ap (λ k. take k piece) (sym (min-eq_left {n = n} {m = count} (omega arith))))
    (λ (r : count ≤ n).
    take_all n (take count piece) (le_trans (length-take count piece) r) ∙ ap (λ k. take k piece) (sym (min-eq_right {n = count} {m = n} r)))
    (cases_lt n count)

-- the line by what was counted
pub line-counted : (most place count ends start : ℕ) (before piece : List ℕ)
    → length before ≤ most → start ≡ min (length before) most → ends ≡ min (line_ends false before) most
    → line_ends false (take place before) ≡ line_ends false before
    → min (min (ends + line_ends (ends_in_cr false before) (take (min (place - start) count) piece)) most + 1) most ≡ min (line_at place (before ++ take count piece)) most
line-counted most place count ends start before piece few start_is ends_is same =
    let after_cr = ends_in_cr false before in
    let exact : start ≡ length before = start_is ∙ min-eq_left {n = length before} {m = most} few in
    let all = line_ends false before in
    let more = line_ends after_cr (take (min (place - length before) count) piece) in
    let cut : take (place - length before) (take count piece) ≡ take (min (place - length before) count) piece = take-front (place - length before) count piece in
    let line : line_at place (before ++ take count piece) ≡ (all + more) + 1 =
    line-near place before (take count piece) same ∙ ap (λ l. 1 + (all + line_ends after_cr l)) cut ∙ omega arith in
    ap (λ s. min (min (ends + line_ends after_cr (take (min (place - s) count) piece)) most + 1) most) exact
    ∙ saturated most (ends + more) 1
    ∙ ap (λ n. min ((n + more) + 1) most) ends_is
    ∙ ap (λ n. min n most) (omega arith)
    ∙ saturated most all (more + 1)
    ∙ ap (λ n. min n most) (omega (arith, line))
