-- Elements that are left open, one after the other.
use Rattle.std.proofs.Common.{◌≡◌, ℕ, ◌+◌, ◌-◌, false, List, ◌++◌, drop, take, sym, ap, ◌∙◌, append_assoc, arith}
use Rattle.std.proofs.lemmas.Bool.{cond-false}
use Rattle.std.specs.Prelude.{◌==◌, if◌then◌else◌}
use Rattle.std.specs.List.{flat_map}
use Rattle.std.proofs.Math.Seq.{take-add}
use Rattle.std.proofs.lemmas.List.{drop-drop}
use Rattle.std.proofs.lemmas.List.Concat.{flat_map-append}
use Rattle.html5check.specs.Checking.{Checking, at_end_tag, closed_at, left_open, unclosed}
use Rattle.html5check.specs.Elements.{is_document_part}
use Rattle.html5check.specs.Opened.{closed_by}
use Rattle.html5check.specs.Seen.{Seen}

pub one-more : (n : ℕ) (s : Checking) → left_open 1 (left_open n s) ≡ left_open (n + 1) s
one-more n s =
    let found : (s.found ++ flat_map unclosed (take n s.opened)) ++ flat_map unclosed (take 1 (drop n s.opened)) ≡ s.found ++ flat_map unclosed (take (n + 1) s.opened) =
    append_assoc s.found (flat_map unclosed (take n s.opened)) (flat_map unclosed (take 1 (drop n s.opened)))
    ∙ ap (λ f. s.found ++ f) (sym (flat_map-append unclosed (take n s.opened) (take 1 (drop n s.opened))) ∙ ap (flat_map unclosed) (sym (take-add n 1 s.opened))) in
    λ i. record { opened = drop-drop 1 n s.opened i; ids = s.ids; found = found i }

-- the element itself, after those that are left open in it
pub closed-last : (s : Checking) (seen : Seen) (name : List ℕ) (count : ℕ) → is_document_part name ≡ false → closed_by s.opened name ≡ count → (count == 0) ≡ false
    → record (left_open (count - 1) s) { opened = drop 1 (drop (count - 1) s.opened) } ≡ at_end_tag s seen name
closed-last s seen name count part is some =
    let one : count - 1 + 1 ≡ count = grind (arith) in
    ap (λ o. record (left_open (count - 1) s) { opened = o }) (drop-drop 1 (count - 1) s.opened ∙ ap (λ n. drop n s.opened) one)
    ∙ sym (cond-false _ _ _ some)
    ∙ ap (closed_at s seen name) (sym is)
    ∙ ap (λ p. if p then s else (closed_at s seen name (closed_by s.opened name))) (sym part)
