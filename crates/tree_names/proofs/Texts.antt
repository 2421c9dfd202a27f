-- Texts, compared byte by byte.
use Rattle.std.proofs.Common.{◌≡◌, ℕ, Bool, true, false, List, refl, sym, ◌∙◌}
use Rattle.std.specs.Str.{bytes_eq}
use Rattle.std.proofs.lemmas.Bool.{false≢true, false_from_ne_true}
use Rattle.std.proofs.lemmas.Slice.Eq.{bytes_eq-Decides}

pub bytes_eq_comm : (a b : List ℕ) → bytes_eq a b ≡ bytes_eq b a
bytes_eq_comm a b = at (bytes_eq a b) refl
  where
    at : (t : Bool) → bytes_eq a b ≡ t → t ≡ bytes_eq b a
    at true same = sym ((bytes_eq-Decides b a).1 (sym ((bytes_eq-Decides a b).0 same)))
    at false other = sym (false_from_ne_true (bytes_eq b a) (λ same. false≢true (sym other ∙ (bytes_eq-Decides a b).1 (sym ((bytes_eq-Decides b a).0 same)))))
