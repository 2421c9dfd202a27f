-- What the operations on vectors of 16 bytes hold at each lane.
use Rattle.std.proofs.Common.{◌≡◌, ◌≢◌, ℕ, zero, suc, ◌/◌, ◌%◌, ◌^◌, ◌<◌, ◌≤◌, Bool, true, false, not, ◌||◌, cond, eqb, ltb, T, List, map, length, get_or, replicate, bit_and, refl, sym, ap, ◌∙◌, arith, w8, Fits, mul_comm, div-one, pow-suc}
use Rattle.std.proofs.Math.Nat.{pow-zero, div-div-eq-div-mul}
use Rattle.std.proofs.lemmas.Bool.{agree_below, agree_below_at, eqb-true, eqb-false, not-true, not-false}
use Rattle.std.proofs.lemmas.List.{get_or-map, length-map}
use Rattle.std.proofs.lemmas.Simd.{Each1-get_or, Each1-from_get_or, zip2_splat, zip2_of_maps, splat_is_map, swz_l, SwzOk, SwzOk-from_Each1, length-swz_l, get_or-swz_l, bitmask_splat, first_set_mask_l}
use Rattle.std.specs.List.{prefix_len}
use lib.Count.{count_trailing_zeros}
use lib.Lanes.{Each1, zip2, digits_l, mask_l, top}
use mir.Val.{zeroes}
use Rattle.std.proofs.lemmas.List.Sums.{prefix_len-le-length, prefix_len_passes, prefix_len_stops}
use Rattle.markup5ever.specs.Lanes.{HasLanes, bit_of}
use Rattle.markup5ever.specs.declared.small_char_set.TheConstants.{BITS}

-- a number of digits to the base p has them in its lanes
get_or-digits : (p n x k : ℕ) → k < n → get_or (digits_l p n x) k 0 ≡ x / p ^ k % p
get_or-digits p zero x k less = absurd (omega arith)
get_or-digits p (suc n) x zero less = ap (λ y. y % p) (sym (ap (λ m. x / m) (pow-zero p) ∙ div-one x))
get_or-digits p (suc n) x (suc k) less =
    get_or-digits p n (x / p) k (omega arith) ∙ ap (λ y. y % p) (div-div-eq-div-mul x p (p ^ k) ∙ ap (λ m. x / m) (mul_comm p (p ^ k) ∙ sym (pow-suc p k)))

pub HasLanes-digits : (x y : ℕ) → y ≡ x → HasLanes (digits_l 256 16 y) (λ k. x / 256 ^ k % 256)
HasLanes-digits x y same = record { long = refl; each = λ k less. get_or-digits 256 16 y k less ∙ ap (λ n. n / 256 ^ k % 256) same }

-- a vector of 16 bytes
abbrev pub IsBlock : List ℕ → Type 0
IsBlock v = (length v ≡ 16) × Each1 (Fits w8) v

pub lane_fits : (v : List ℕ) (k : ℕ) → IsBlock v → k < 16 → get_or v k 0 < 256
lane_fits v k block less = (Each1-get_or (Fits w8) v k 0 (omega (arith, block.0)) block.1).fits

-- ---- a table looked up at places computed lane by lane

abbrev pub is_place : ℕ → Bool
is_place j = zeroes 16 w8 j || ltb j 16

pub places_fit : (v js : List ℕ) (g : ℕ → ℕ) → IsBlock v → js ≡ map g v → agree_below (λ x. is_place (g x)) (λ _. true) 256 ≡ true → SwzOk w8 16 16 0 js
places_fit v js g block e all =
    let long : length js ≡ 16 = ap length e ∙ length-map v g ∙ block.0 in
    SwzOk-from_Each1 w8 16 1 16 0 js refl (omega (arith, long)) (Each1-from_get_or (λ j. T (is_place j)) js 0 (λ k less.
    let x = get_or v k 0 in
    let lane : get_or js k 0 ≡ g x = ap (λ l. get_or l k 0) e ∙ get_or-map g v k 0 0 (omega (arith, long, block.0)) in
    let fits : is_place (g x) ≡ true = agree_below_at (λ x. is_place (g x)) (λ _. true) 256 x all (lane_fits v k block (omega (arith, long))) in
    rw (lane, fits) tt))

pub HasLanes-looked_up : (t v js : List ℕ) (g : ℕ → ℕ) → IsBlock v → js ≡ map g v → HasLanes (swz_l w8 16 t 0 js) (λ k. cond (zeroes 16 w8 (g (get_or v k 0))) 0 (get_or t (g (get_or v k 0)) 0))
HasLanes-looked_up t v js g block e =
    let long : length js ≡ 16 = ap length e ∙ length-map v g ∙ block.0 in
    record {
      long = length-swz_l w8 16 t 0 js ∙ long;
      each = λ k less.
          let lane : get_or js k 0 ≡ g (get_or v k 0) = ap (λ l. get_or l k 0) e ∙ get_or-map g v k 0 0 (omega (arith, less, block.0)) in
          get_or-swz_l w8 16 t 0 js k (omega (arith, less, long)) ∙ ap (λ n. cond (zeroes 16 w8 (get_or js k 0)) 0 (get_or t n 0)) (omega (arith, less)) ∙ ap (λ j. cond (zeroes 16 w8 j) 0 (get_or t j 0)) lane;
    }

-- ---- the eighth of a set among whose bits each byte has its own

abbrev eighth_place : ℕ → ℕ
eighth_place x = bit_and (x / 8) 15

eighth_places : (v : List ℕ) → IsBlock v → zip2 bit_and (zip2 (λ a b. a / 2 ^ b) v (replicate 16 3)) (replicate 16 15) ≡ map eighth_place v
eighth_places v block = zip2_of_maps bit_and (λ x. x / 8) (λ _. 15) v (zip2_splat (λ a b. a / 2 ^ b) v 16 3 block.0) (splat_is_map v 16 15 block.0)

abbrev eighth_indices : List ℕ → List ℕ
eighth_indices v = zip2 bit_and (zip2 (λ a b. a / 2 ^ b) v (replicate 16 3)) (replicate 16 15)

pub eighth_places_fit : (v : List ℕ) → IsBlock v → SwzOk w8 16 16 0 (eighth_indices v)
eighth_places_fit v block = places_fit v (eighth_indices v) eighth_place block (eighth_places v block) refl

eighth_place_is : (x : ℕ) → x < 256 → (zeroes 16 w8 (eighth_place x) ≡ false) × (eighth_place x ≡ x / 8 % 16)
eighth_place_is x less = (
  agree_below_at (λ x. zeroes 16 w8 (eighth_place x)) (λ _. false) 256 x refl less,
  eqb-true _ _ (agree_below_at (λ x. eqb (eighth_place x) (x / 8 % 16)) (λ _. true) 256 x refl less),
)

pub HasLanes-eighths : (n : ℕ) (t v : List ℕ) → IsBlock v → HasLanes t (λ k. n / 256 ^ k % 256) → HasLanes (swz_l w8 16 t 0 (eighth_indices v)) (λ k. n / 256 ^ (get_or v k 0 / 8 % 16) % 256)
HasLanes-eighths n t v block table =
    let found = HasLanes-looked_up t v (eighth_indices v) eighth_place block (eighth_places v block) in
    record {
      long = found.long;
      each = λ k less.
          let x = get_or v k 0 in
          let place = eighth_place_is x (lane_fits v k block less) in
          found.each k less ∙ ap (λ b. cond b 0 (get_or t (eighth_place x) 0)) place.0 ∙ ap (λ j. get_or t j 0) place.1 ∙ table.each (x / 8 % 16) (omega arith);
    }

-- ---- the bit of each byte

abbrev bit_place : ℕ → ℕ
bit_place x = bit_and x 135

abbrev bit_indices : List ℕ → List ℕ
bit_indices v = zip2 bit_and v (replicate 16 135)

pub bit_places_fit : (v : List ℕ) → IsBlock v → SwzOk w8 16 16 0 (bit_indices v)
bit_places_fit v block = places_fit v (bit_indices v) bit_place block (zip2_splat bit_and v 16 135 block.0) refl

pub HasLanes-bits : (v : List ℕ) → IsBlock v → HasLanes (swz_l w8 16 BITS 0 (bit_indices v)) (λ k. bit_of (get_or v k 0))
HasLanes-bits v block =
    let found = HasLanes-looked_up BITS v (bit_indices v) bit_place block (zip2_splat bit_and v 16 135 block.0) in
    let same = λ (x : ℕ). eqb (cond (zeroes 16 w8 (bit_place x)) 0 (get_or BITS (bit_place x) 0)) (bit_of x) in
    record {
      long = found.long;
      each = λ k less. found.each k less ∙ eqb-true _ _ (agree_below_at same (λ _. true) 256 (get_or v k 0) refl (lane_fits v k block less));
    }

-- ---- the first lane that is not zero

abbrev not_zero : ℕ → Bool
not_zero x = not (eqb x 0)

-- as the code has it, from the mask of the lanes
abbrev pub lowest : ℕ → ℕ
lowest mask = cond (eqb mask 0) 16 (count_trailing_zeros 64 mask)

abbrev pub mask_of : List ℕ → ℕ
mask_of v = mask_l (map (top 7) (zip2 (λ a b. cond (not (eqb a b)) 255 0) v (replicate 16 0))) % 2 ^ 64

pub record IsFirst (v : List ℕ) (place : ℕ) : Type 0 where
  pub within : place ≤ 16
  pub unmarked : (k : ℕ) → k < place → get_or v k 0 ≡ 0
  pub marked : place < 16 → get_or v place 0 ≢ 0

pub IsFirst-lowest : (v : List ℕ) (place : ℕ) → length v ≡ 16 → place ≡ lowest (mask_of v) → IsFirst v place
IsFirst-lowest v place long found =
    let mask : mask_of v ≡ mask_l (map not_zero v) = bitmask_splat w8 (λ a b. not (eqb a b)) v 16 0 long (omega arith) in
    let counted : place ≡ prefix_len (λ x. not (not_zero x)) v = found ∙ ap lowest mask ∙ first_set_mask_l not_zero v 16 long (omega arith) in
    record {
      within = omega (arith, counted, long, prefix_len-le-length (λ x. not (not_zero x)) v);
      unmarked = λ k less. eqb-true _ _ (not-false _ (not-true _ (prefix_len_passes (λ x. not (not_zero x)) v k 0 (omega (arith, counted)))));
      marked = λ less zero.
          let stopped = prefix_len_stops (λ x. not (not_zero x)) v 0 (omega (arith, counted, long)) in
          eqb-false _ _ (not-true _ (not-false _ stopped)) (ap (λ k. get_or v k 0) (sym counted) ∙ zero);
    }
