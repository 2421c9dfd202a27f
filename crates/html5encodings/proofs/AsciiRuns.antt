-- ASCII at the front.
use Rattle.std.proofs.Common.{◌≡◌, ℕ, zero, suc, ◌+◌, ◌-◌, ◌%◌, ◌^◌, ◌<◌, ◌≤◌, Bool, not, cond, eqb, leb, List, [], ◌∷◌, map, length, take, get_or, replicate, w8, refl, sym, ap, ◌∙◌, subst, arith, inl, inr}
use Rattle.std.specs.Prelude.{IsAscii}
use Rattle.std.specs.List.{prefix_len}
use Rattle.std.proofs.lemmas.Bool.{cases_lt, leb-false, leb-true}
use Rattle.std.proofs.lemmas.List.{length-map}
use Rattle.std.proofs.lemmas.Simd.{first_set_mask_l, length-chunk, mask_l-mod, run_in_chunk_fails, run_in_chunk_le, run_in_chunk_stops, tops_compared}
use lib.Count.{count_trailing_zeros}
use lib.Lanes.{chunk, mask_l, top, zip2}
use Rattle.std.proofs.lemmas.Str.Ascii.{IsAscii-cons, IsAscii-nil}

pub IsAscii-below : (bs : List ℕ) (n : ℕ) → ((k : ℕ) → k < n → get_or bs k 0 < 128) → IsAscii (take n bs)
IsAscii-below [] zero low = IsAscii-nil
IsAscii-below [] (suc n) low = IsAscii-nil
IsAscii-below (b ∷ bs) zero low = IsAscii-nil
IsAscii-below (b ∷ bs) (suc n) low = IsAscii-cons b (take n bs) (low 0 (omega arith)) (IsAscii-below bs n (λ k less. low (suc k) (omega (arith, less))))

-- what comes before a place, and more
pub below-more : (bs : List ℕ) (at more : ℕ) → ((k : ℕ) → k < at → get_or bs k 0 < 128) → ((k : ℕ) → k < more → get_or bs (at + k) 0 < 128)
    → (k : ℕ) → k < at + more → get_or bs k 0 < 128
below-more bs at more low next k less =
    elim (cases_lt k at) [
      | inl before ↦ low k before
      | inr from ↦
          let back : at + (k - at) ≡ k = omega (arith, from) in
          subst (λ i. get_or bs i 0 < 128) back (next (k - at) (omega (arith, from, less)))
    ]

-- ---- a block

abbrev is_high : ℕ → Bool
is_high b = leb 128 b

zip2-splat : (t : ℕ → ℕ → Bool) (xs : List ℕ) (n y : ℕ) → length xs ≡ n → zip2 t (replicate n y) xs ≡ map (t y) xs
zip2-splat t [] n y long = ap (λ k. zip2 t (replicate k y) []) (sym long)
zip2-splat t (x ∷ xs) n y long = ap (λ k. zip2 t (replicate k y) (x ∷ xs)) (sym long) ∙ ap (λ r. t y x ∷ r) (zip2-splat t xs (length xs) y refl)

abbrev lowest : ℕ → ℕ
lowest mask = cond (eqb mask 0) 16 (count_trailing_zeros 64 mask)

-- the bits of the bytes that are no ASCII
abbrev mask_of : List ℕ → ℕ
mask_of v = mask_l (map (top 7) (zip2 (λ a b. cond (leb a b) 255 0) (replicate 16 128) v)) % 2 ^ 64

ascii-counted : (bytes : List ℕ) (at place : ℕ) → at + 16 ≤ length bytes → place ≡ lowest (mask_of (chunk at 16 bytes))
    → place ≡ prefix_len (λ b. not (is_high b)) (chunk at 16 bytes)
ascii-counted bytes at place room found =
    let v = chunk at 16 bytes in
    let long = length-chunk at 16 bytes room in
    let lanes : zip2 leb (replicate 16 128) v ≡ map is_high v = zip2-splat leb v 16 128 long in
    let mask : mask_of v ≡ mask_l (map is_high v) =
    ap (λ l. mask_l l % 2 ^ 64) (tops_compared w8 leb (replicate 16 128) v ∙ lanes)
    ∙ mask_l-mod (map is_high v) 64 (omega (arith, length-map v is_high, long)) in
    found ∙ ap lowest mask ∙ first_set_mask_l is_high v 16 long (omega arith)

pub ascii-within : (bytes : List ℕ) (at place : ℕ) → at + 16 ≤ length bytes → place ≡ lowest (mask_of (chunk at 16 bytes)) → place ≤ 16
ascii-within bytes at place room found = run_in_chunk_le is_high bytes at 16 place 0 room (ascii-counted bytes at place room found)

pub ascii-before : (bytes : List ℕ) (at place : ℕ) → at + 16 ≤ length bytes → place ≡ lowest (mask_of (chunk at 16 bytes))
    → (k : ℕ) → k < place → get_or bytes (at + k) 0 < 128
ascii-before bytes at place room found k less =
    let low = run_in_chunk_fails is_high bytes at 16 place 0 room (ascii-counted bytes at place room found) (at + k) (omega arith) (omega (arith, less)) in
    leb-false 128 (get_or bytes (at + k) 0) low

pub ascii-stops : (bytes : List ℕ) (at place : ℕ) → at + 16 ≤ length bytes → place ≡ lowest (mask_of (chunk at 16 bytes))
    → place < 16 → 128 ≤ get_or bytes (at + place) 0
ascii-stops bytes at place room found less =
    leb-true 128 (get_or bytes (at + place) 0) (run_in_chunk_stops is_high bytes at 16 place 0 room (ascii-counted bytes at place room found) less)
