-- The characters that are written as references, and the others.
use Rattle.std.proofs.Common.{◌≡◌, ℕ, true, false, [], ◌∷◌, None, refl, sym, subst}
use Rattle.std.specs.Prelude.{◌==◌}
use Rattle.std.proofs.lemmas.Bool.{eqb-true}
use Rattle.html5write.specs.Escaped.{reference_of, escaped}

-- a character is the one that it is compared with, or another
by_eq : (P : ℕ → Type 0) (c k : ℕ) → P k → ((c == k) ≡ false → P c) → P c
by_eq P c k here other =
    (elim (c == k) as (λ b. (c == k) ≡ b → P c) [
      | true ↦ λ e. subst P (sym (eqb-true c k e)) here
      | false ↦ λ e. other e
    ]) refl

-- none of the characters that are written as references
pub record IsPlain (c : ℕ) : Type 0 where
  pub no_reference : reference_of c ≡ None
  pub no_ampersand : (c == 0x26) ≡ false
  pub no_less_than : (c == 0x3C) ≡ false
  pub no_quote : (c == 0x22) ≡ false
  pub no_return : (c == 0x0D) ≡ false
  pub no_mark : (c == 0xFEFF) ≡ false

plain : (c : ℕ) → (c == 0x26) ≡ false → (c == 0x3C) ≡ false → (c == 0x3E) ≡ false → (c == 0x22) ≡ false → (c == 0x0D) ≡ false → (c == 0xFEFF) ≡ false → IsPlain c
unfolding reference_of
plain c a l g q r m = record { no_reference = rw (a, l, g, q, r, m) refl; no_ampersand = a; no_less_than = l; no_quote = q; no_return = r; no_mark = m }

-- what is true of each reference and of each other character is true of all
pub each_character : (P : ℕ → Type 0) → P 0x26 → P 0x3C → P 0x3E → P 0x22 → P 0x0D → P 0xFEFF → ((c : ℕ) → IsPlain c → P c) → (c : ℕ) → P c
each_character P pa pl pg pq pr pm other c =
    by_eq P c 0x26 pa (λ a.
    by_eq P c 0x3C pl (λ l.
    by_eq P c 0x3E pg (λ g.
    by_eq P c 0x22 pq (λ q.
    by_eq P c 0x0D pr (λ r.
    by_eq P c 0xFEFF pm (λ m.
    other c (plain c a l g q r m)))))))

pub escaped-plain : (c : ℕ) → IsPlain c → escaped c ≡ c ∷ []
unfolding escaped
escaped-plain c p = rw p.no_reference refl
