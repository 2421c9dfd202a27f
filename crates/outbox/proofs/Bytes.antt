-- Bytes that were taken, and those that wait.
use Rattle.std.proofs.Common.{◌≡◌, ℕ, ◌+◌, ◌≤◌, List, ◌++◌, length, take, drop, ap, ◌∙◌}
use Rattle.std.proofs.lemmas.List.{append_assoc, take-append-drop, length-append, length-take-le}

pub bytes-taken : (taken more front rest : List ℕ) (count : ℕ) → more ≡ taken ++ take count front → rest ≡ drop count front → more ++ rest ≡ taken ++ front
bytes-taken taken more front rest count more_is rest_is =
    ap (λ l. l ++ rest) more_is
    ∙ append_assoc taken (take count front) rest
    ∙ ap (λ l. taken ++ (take count front ++ l)) rest_is
    ∙ ap (λ l. taken ++ l) (take-append-drop count front)

pub count-taken : (taken more front : List ℕ) (count : ℕ) → more ≡ taken ++ take count front → count ≤ length front → length more ≡ length taken + count
count-taken taken more front count more_is within =
    ap length more_is ∙ length-append taken (take count front) ∙ ap (λ n. length taken + n) (length-take-le count front within)
