-- That the bytes of a text are those that their origins name.
use Rattle.std.proofs.Common.{◌≡◌, ℕ, ◌+◌, ◌-◌, ◌<◌, ◌≤◌, suc, zero, Bool, true, false, List, [], ◌∷◌, ◌++◌, None, Some, drop, get_or, length, length-append, length-drop, length-take, refl, ap, sym, ◌∙◌, arith}
use Rattle.std.specs.Prelude.{All, nat_lt, slice_get, if◌then◌else◌}
use Rattle.std.specs.Option.{option_and_then}
use Rattle.std.proofs.lemmas.List.{drop_more, get_or-drop, get_or-take, get_or_append_left, nil_from_length}
use Rattle.std.proofs.lemmas.List.Elements.{All-head, All-tail}
use Rattle.html5places.specs.declared.origins.Origin.{Origin}
use Rattle.html5places.specs.declared.origins.Origin.TheVariants.{PutIn, Source}
use Rattle.html5places.specs.declared.origins.Stretch.{Stretch}
use Rattle.html5places.specs.Origins.{LiesInText, all_bytes, byte_at, bytes_of, further, offset_of, origin_of, text_of}

-- ---- elements of lists

at-within : (xs : List ℕ) (i : ℕ) → i < length xs → slice_get xs i ≡ Some (get_or xs i 0)
at-within [] i within =
    let never : ⊥ = omega (arith, within) in
    absurd never
at-within (x ∷ xs) zero within = refl
at-within (x ∷ xs) (suc i) within = at-within xs i (omega (arith, within))

at-past : (xs ys : List ℕ) (i : ℕ) → length xs ≤ i → slice_get (xs ++ ys) i ≡ slice_get ys (i - length xs)
at-past [] ys i past =
    let none : i - 0 ≡ i = omega arith in
    ap (slice_get ys) (sym none)
at-past (x ∷ xs) ys zero past =
    let never : ⊥ = omega (arith, past) in
    absurd never
at-past (x ∷ xs) ys (suc i) past =
    let one : suc i - suc (length xs) ≡ i - length xs = omega arith in
    at-past xs ys i (omega (arith, past)) ∙ ap (slice_get ys) (sym one)

-- ---- stretches

module _ (source : List ℕ) (put_in : ℕ → List ℕ) where
  text-further : (origin : Origin) (count : ℕ) → byte_at source put_in (further origin count) ≡ slice_get (text_of source put_in origin) (offset_of origin + count)
  text-further (Source at) count = refl
  text-further (PutIn text at) count = refl

  len-bytes : (stretch : Stretch) → LiesInText source put_in stretch → length (bytes_of source put_in stretch) ≡ stretch.len
  len-bytes stretch lies =
      let text : List ℕ = text_of source put_in stretch.first in
      let taken = length-take stretch.len (drop (offset_of stretch.first) text) in
      let left = length-drop (offset_of stretch.first) text in
      grind (arith, taken, left, lies)

  byte-within : (stretch : Stretch) (more : List ℕ) (place : ℕ) → LiesInText source put_in stretch → place < stretch.len
      → byte_at source put_in (further stretch.first place) ≡ slice_get (bytes_of source put_in stretch ++ more) place
  byte-within stretch more place lies within =
      let text : List ℕ = text_of source put_in stretch.first in
      let off : ℕ = offset_of stretch.first in
      let bytes : List ℕ = bytes_of source put_in stretch in
      let len = len-bytes stretch lies in
      let both = length-append bytes more in
      text-further stretch.first place
      ∙ at-within text (off + place) (omega (arith, lies, within))
      ∙ ap Some
      (sym (get_or_append_left bytes more 0 place (omega (arith, len, within))
      ∙ get_or-take stretch.len (drop off text) place 0 within
      ∙ get_or-drop off text place 0))
      ∙ sym (at-within (bytes ++ more) place (omega (arith, both, len, within)))

  byte-by : (stretch : Stretch) (stretches : List Stretch) (place : ℕ) (here : Bool) → nat_lt place stretch.len ≡ here → LiesInText source put_in stretch
      → option_and_then (byte_at source put_in) (origin_of stretches (place - stretch.len)) ≡ slice_get (all_bytes source put_in stretches) (place - stretch.len)
      → option_and_then (byte_at source put_in) (origin_of (stretch ∷ stretches) place) ≡ slice_get (all_bytes source put_in (stretch ∷ stretches)) place
  unfolding origin_of all_bytes
  byte-by stretch stretches place true is lies more =
      rw is (byte-within stretch (all_bytes source put_in stretches) place lies (grind (arith, is)))
  byte-by stretch stretches place false is lies more =
      let bytes : List ℕ = bytes_of source put_in stretch in
      let len = len-bytes stretch lies in
      let past : length bytes ≤ place = grind (arith, is, len) in
      rw is (more ∙ ap (λ n. slice_get (all_bytes source put_in stretches) (place - n)) (sym len) ∙ sym (at-past bytes (all_bytes source put_in stretches) place past))

  pub all-bytes_come : (stretches : List Stretch) (place : ℕ) → All (LiesInText source put_in) stretches
      → option_and_then (byte_at source put_in) (origin_of stretches place) ≡ slice_get (all_bytes source put_in stretches) place
  unfolding origin_of all_bytes
  all-bytes_come [] place lie = refl
  all-bytes_come (stretch ∷ stretches) place lie =
      byte-by stretch stretches place (nat_lt place stretch.len) refl (All-head (LiesInText source put_in) stretch stretches lie)
      (all-bytes_come stretches (place - stretch.len) (All-tail (LiesInText source put_in) stretch stretches lie))

-- ---- a walk over the stretches

origin-by : (stretch : Stretch) (stretches : List Stretch) (place : ℕ) (here : Bool) → nat_lt place stretch.len ≡ here
    → origin_of (stretch ∷ stretches) place
    ≡ (if here then Some (further stretch.first place) else origin_of stretches (place - stretch.len))
unfolding origin_of
origin-by stretch stretches place here is = rw is refl

-- the place lies in this stretch
pub origin-here : (stretches : List Stretch) (i left : ℕ) (d : Stretch) → i < length stretches → left < (get_or stretches i d).len
    → origin_of (drop i stretches) left ≡ Some (further (get_or stretches i d).first left)
origin-here stretches i left d within here =
    let is : nat_lt left (get_or stretches i d).len ≡ true = grind (arith, here) in
    ap (λ l. origin_of l left) (drop_more stretches i d within) ∙ origin-by (get_or stretches i d) (drop (i + 1) stretches) left true is

-- or after it
pub origin-later : (stretches : List Stretch) (i left : ℕ) (d : Stretch) → i < length stretches → (get_or stretches i d).len ≤ left
    → origin_of (drop i stretches) left ≡ origin_of (drop (i + 1) stretches) (left - (get_or stretches i d).len)
origin-later stretches i left d within past =
    let is : nat_lt left (get_or stretches i d).len ≡ false = grind (arith, past) in
    ap (λ l. origin_of l left) (drop_more stretches i d within) ∙ origin-by (get_or stretches i d) (drop (i + 1) stretches) left false is

-- or after all
pub origin-none : (stretches : List Stretch) (i left : ℕ) → length stretches ≤ i → origin_of (drop i stretches) left ≡ None
unfolding origin_of
origin-none stretches i left past =
    let gone : length stretches - i ≡ 0 = omega (arith, past) in
    ap (λ l. origin_of l left) (nil_from_length (drop i stretches) (length-drop i stretches ∙ gone))
