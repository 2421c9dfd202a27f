-- What is written, one thing after the other.
use Rattle.std.proofs.Common.{◌≡◌, ℕ, ◌≤◌, List, ◌++◌, length, drop, ap, sym, ◌∙◌}
use Rattle.std.proofs.lemmas.List.{append_assoc, drop-append-le}

-- bytes more after those that wait
pub bytes-more : (taken written added next : List ℕ) (skipped : ℕ) → skipped ≤ length written → next ≡ written ++ added
    → taken ++ drop skipped next ≡ (taken ++ drop skipped written) ++ added
bytes-more taken written added next skipped within more =
    ap (λ l. taken ++ drop skipped l) more
    ∙ ap (λ l. taken ++ l) (drop-append-le skipped written added within)
    ∙ sym (append_assoc taken (drop skipped written) added)
