-- Where a text that grows may be cut.
use Rattle.std.proofs.Common.{◌≡◌, ℕ, ◌+◌, ◌≤◌, Bool, true, false, List, ◌++◌, length, sym, subst, arith}
use Rattle.std.specs.Prelude.{drop, if◌then◌else◌}
use Rattle.std.specs.Str.{IsCharBoundary, IsUtf8}
use Rattle.std.proofs.lemmas.List.{drop-append-le, length-append}
use Rattle.std.proofs.lemmas.Str.{IsCharBoundary-from_drop, IsUtf8-append, IsUtf8-drop}

longer : (old more : List ℕ) (i : ℕ) → IsUtf8 old → IsUtf8 more → IsCharBoundary old i → IsCharBoundary (old ++ more) i
longer old more i utf8 later at =
    let within : i ≤ length old = at.0 in
    let len = length-append old more in
    IsCharBoundary-from_drop (old ++ more) i (omega (arith, within, len))
    (subst IsUtf8 (sym (drop-append-le i old more within)) (IsUtf8-append (drop i old) more (IsUtf8-drop old i utf8 at) later))

-- where it could be cut it still can
pub boundary-kept : (ok : Bool) (old more new : List ℕ) (i : ℕ) → new ≡ (if ok then (old ++ more) else old) → IsUtf8 old → IsUtf8 more → IsCharBoundary old i → IsCharBoundary new i
boundary-kept true old more new i is utf8 later at = subst (λ l. IsCharBoundary l i) (sym is) (longer old more i utf8 later at)
boundary-kept false old more new i is utf8 later at = subst (λ l. IsCharBoundary l i) (sym is) at
