-- How a text ends, in characters and in bytes.
use Rattle.std.proofs.Common.{◌≡◌, ◌≢◌, ◌⊎◌, inl, inr, ℕ, ◌+◌, ◌-◌, ◌%◌, ◌/◌, ◌≤◌, ◌<◌, Bool, true, false, List, [], ◌∷◌, ◌++◌, drop, take, length, length-append, refl, ap, sym, ◌∙◌, arith}
use Rattle.std.specs.Prelude.{◌==◌, ◌&&◌, flat_map, if◌then◌else◌, nat_eq}
use Rattle.std.specs.Cmp.Lexicographic.{pointwise, same_text, bytes_decides}
use Rattle.std.proofs.Math.Bool.{and-true, and-false}
use Rattle.std.proofs.lemmas.Bool.{false≢true, ne_eqb, eqb-true, eq-eqb}
use Rattle.std.proofs.lemmas.List.{append_assoc, take-append-drop, take_at, drop_at, drop_all, drop-append-le, flat_map_more}
use lib.Dec.{ltb}
use lib.Utf8.{encode}
use Rattle.html5reading.specs.Characters.{null, shown, value_bytes}
use Rattle.html5reading.specs.Comment.{ends_in, without_last}

-- ---- words at the end of a text

pub ends_in-front : (text word : List ℕ) → ends_in text word ≡ true → text ≡ without_last (length word) text ++ word
ends_in-front text word h =
    let n : ℕ = length text - length word in
    sym (take-append-drop n text) ∙ ap (λ l. take n text ++ l) (sym (same_text word (drop n text) (sym h)))

length-front : (front word : List ℕ) → length (front ++ word) - length word ≡ length front
length-front front word = omega (arith, length-append front word)

pub ends_in-append : (front word : List ℕ) → ends_in (front ++ word) word ≡ true
ends_in-append front word =
    ap (λ k. pointwise nat_eq word (drop k (front ++ word))) (length-front front word)
    ∙ ap (pointwise nat_eq word) (drop_at front word (length front) refl)
    ∙ (bytes_decides word word).1 refl

pub without_last-append : (front word : List ℕ) → without_last (length word) (front ++ word) ≡ front
without_last-append front word =
    ap (λ k. take k (front ++ word)) (length-front front word) ∙ take_at front word (length front) refl

ends_in-none : (text : List ℕ) → ends_in text [] ≡ true
ends_in-none text =
    let n : length text ≤ length text - 0 = omega arith in
    ap (pointwise nat_eq []) (drop_all (length text - 0) text n)

-- two texts with one more character each are equal where both parts are
pointwise-push : (word text : List ℕ) (x b : ℕ) → pointwise nat_eq (word ++ x ∷ []) (text ++ b ∷ []) ≡ pointwise nat_eq word text && nat_eq x b
pointwise-push [] [] x b = and-true (nat_eq x b)
pointwise-push [] (y ∷ []) x b = and-false (nat_eq x y)
pointwise-push [] (y ∷ z ∷ text) x b = and-false (nat_eq x y)
pointwise-push (y ∷ []) [] x b = and-false (nat_eq y b)
pointwise-push (y ∷ z ∷ word) [] x b = and-false (nat_eq y b)
pointwise-push (y ∷ word) (z ∷ text) x b =
    ap (λ t. nat_eq y z && t) (pointwise-push word text x b) ∙ and-assoc (nat_eq y z) (pointwise nat_eq word text) (nat_eq x b)
  where
    and-assoc : (p q r : Bool) → (p && (q && r)) ≡ ((p && q) && r)
    and-assoc true q r = refl
    and-assoc false q r = refl

pub ends_in-push : (text word : List ℕ) (b x : ℕ) → ends_in (text ++ b ∷ []) (word ++ x ∷ []) ≡ ends_in text word && nat_eq x b
ends_in-push text word b x =
    let n : length (text ++ b ∷ []) - length (word ++ x ∷ []) ≡ length text - length word =
    omega (arith, length-append text (b ∷ []), length-append word (x ∷ [])) in
    let within : length text - length word ≤ length text = omega arith in
    ap (λ k. pointwise nat_eq (word ++ x ∷ []) (drop k (text ++ b ∷ []))) n
    ∙ ap (pointwise nat_eq (word ++ x ∷ [])) (drop-append-le (length text - length word) text (b ∷ []) within)
    ∙ pointwise-push word (drop (length text - length word) text) x b

pub ends_in-other : (text word : List ℕ) (b x : ℕ) → nat_eq x b ≡ false → ends_in (text ++ b ∷ []) (word ++ x ∷ []) ≡ false
ends_in-other text word b x other =
    ends_in-push text word b x ∙ ap (λ t. ends_in text word && t) other ∙ and-false (ends_in text word)

-- ---- the last byte of a character

-- that of an ASCII character is the character
pub record LastByte (c : ℕ) (bytes : List ℕ) : Type 0 where
  pub front : List ℕ
  pub last : ℕ
  pub parts : bytes ≡ front ++ last ∷ []
  pub kind : (last ≡ c) ⊎ (128 ≤ last)

following : (k : ℕ) → 128 ≤ 128 + k
following k = omega arith

-- the last byte of a character is the character, or is not ASCII
pub encode-last : (d : ℕ) → LastByte d (encode d)
unfolding encode
encode-last d =
    elim (ltb d 128) as (λ a. LastByte d (mathlib.Core.Bool.cond a (d ∷ []) (mathlib.Core.Bool.cond (ltb d 2048) ((192 + d / 64) ∷ (128 + d % 64) ∷ []) (mathlib.Core.Bool.cond (ltb d 65536) ((224 + d / 4096) ∷ (128 + (d / 64) % 64) ∷ (128 + d % 64) ∷ []) ((240 + d / 262144) ∷ (128 + (d / 4096) % 64) ∷ (128 + (d / 64) % 64) ∷ (128 + d % 64) ∷ []))))) [
      | true ↦ record { front = []; last = d; parts = refl; kind = inl refl }
      | false ↦ elim (ltb d 2048) as (λ a. LastByte d (mathlib.Core.Bool.cond a ((192 + d / 64) ∷ (128 + d % 64) ∷ []) (mathlib.Core.Bool.cond (ltb d 65536) ((224 + d / 4096) ∷ (128 + (d / 64) % 64) ∷ (128 + d % 64) ∷ []) ((240 + d / 262144) ∷ (128 + (d / 4096) % 64) ∷ (128 + (d / 64) % 64) ∷ (128 + d % 64) ∷ [])))) [
        | true ↦ record { front = (192 + d / 64) ∷ []; last = 128 + d % 64; parts = refl; kind = inr (following (d % 64)) }
        | false ↦ elim (ltb d 65536) as (λ a. LastByte d (mathlib.Core.Bool.cond a ((224 + d / 4096) ∷ (128 + (d / 64) % 64) ∷ (128 + d % 64) ∷ []) ((240 + d / 262144) ∷ (128 + (d / 4096) % 64) ∷ (128 + (d / 64) % 64) ∷ (128 + d % 64) ∷ []))) [
          | true ↦ record { front = (224 + d / 4096) ∷ (128 + (d / 64) % 64) ∷ []; last = 128 + d % 64; parts = refl; kind = inr (following (d % 64)) }
          | false ↦ record { front = (240 + d / 262144) ∷ (128 + (d / 4096) % 64) ∷ (128 + (d / 64) % 64) ∷ []; last = 128 + d % 64; parts = refl; kind = inr (following (d % 64)) }
        ]
      ]
    ]

pub value_bytes-last : (c : ℕ) → LastByte c (value_bytes c)
unfolding value_bytes shown encode
value_bytes-last c =
    elim (c == null) as (λ b. LastByte c (encode (if b then 0xFFFD else c))) [
      | true ↦ record { front = 0xEF ∷ 0xBF ∷ []; last = 0xBD; parts = refl; kind = inr (omega arith) }
      | false ↦ encode-last c
    ]

-- another character of ASCII is not the last byte
pub last_byte-other : (c x : ℕ) (bytes : List ℕ) (last : LastByte c bytes) → x < 128 → c ≢ x → nat_eq x last.last ≡ false
last_byte-other c x bytes last small other = ne_eqb x last.last (λ e. by_kind last.kind (sym e))
  where
    by_kind : {b : ℕ} → (b ≡ c) ⊎ (128 ≤ b) → b ≢ x
    by_kind (inl e) f = other (sym e ∙ f)
    by_kind (inr far) f = omega (arith, far, small, f)

-- ---- a word of ASCII stands last in the bytes where it stands last in the characters

data Pushed (text : List ℕ) : Type 0 where
  Nothing : text ≡ [] → Pushed text
  Push : (front : List ℕ) (c : ℕ) → text ≡ front ++ c ∷ [] → Pushed text

pushed : (text : List ℕ) → Pushed text
pushed [] = Nothing refl
pushed (c ∷ text) = afterwards (pushed text)
  where
    afterwards : Pushed text → Pushed (c ∷ text)
    afterwards (Nothing e) = Push [] c (ap (λ l. c ∷ l) e)
    afterwards (Push front d e) = Push (c ∷ front) d (ap (λ l. c ∷ l) e)

-- the bytes of texts end in this word as the texts do
abbrev pub Carries : (ℕ → List ℕ) → List ℕ → Type 0
Carries bytes word = (text : List ℕ) → ends_in (flat_map bytes text) word ≡ ends_in text word

module _ (bytes : ℕ → List ℕ) (last_of : (c : ℕ) → LastByte c (bytes c)) where
  abbrev bytes_of : List ℕ → List ℕ
  bytes_of text = flat_map bytes text

  pub carries-none : Carries bytes []
  carries-none text = ends_in-none (bytes_of text) ∙ sym (ends_in-none text)

  bytes-push : (text : List ℕ) (c : ℕ) → bytes_of (text ++ c ∷ []) ≡ bytes_of text ++ bytes c
  bytes-push text c = sym (flat_map_more bytes [] text c)

  carries-same : (word front : List ℕ) (x : ℕ) → bytes x ≡ x ∷ [] → Carries bytes word
      → ends_in (bytes_of (front ++ x ∷ [])) (word ++ x ∷ []) ≡ ends_in (front ++ x ∷ []) (word ++ x ∷ [])
  carries-same word front x plain carries =
      ap (λ l. ends_in l (word ++ x ∷ [])) (bytes-push front x ∙ ap (λ l. bytes_of front ++ l) plain)
      ∙ ends_in-push (bytes_of front) word x x
      ∙ ap (λ t. t && nat_eq x x) (carries front)
      ∙ sym (ends_in-push front word x x)

  carries-other : (word front : List ℕ) (c x : ℕ) → x < 128 → c ≢ x
      → ends_in (bytes_of (front ++ c ∷ [])) (word ++ x ∷ []) ≡ ends_in (front ++ c ∷ []) (word ++ x ∷ [])
  carries-other word front c x small other =
      let last : LastByte c (bytes c) = last_of c in
      ap (λ l. ends_in l (word ++ x ∷ [])) (bytes-push front c ∙ ap (λ l. bytes_of front ++ l) last.parts ∙ sym (append_assoc (bytes_of front) last.front (last.last ∷ [])))
      ∙ ends_in-other (bytes_of front ++ last.front) word last.last x (last_byte-other c x (bytes c) last small other)
      ∙ sym (ends_in-other front word c x (ne_eqb x c (λ e. other (sym e))))

  pub carries-push : (word : List ℕ) (x : ℕ) → x < 128 → bytes x ≡ x ∷ [] → Carries bytes word → Carries bytes (word ++ x ∷ [])
  carries-push word x small plain carries text = by (pushed text)
    where
      at : (front : List ℕ) (c : ℕ) → (t : Bool) → nat_eq c x ≡ t
          → ends_in (bytes_of (front ++ c ∷ [])) (word ++ x ∷ []) ≡ ends_in (front ++ c ∷ []) (word ++ x ∷ [])
      at front c true e = rw (eqb-true c x e) (carries-same word front x plain carries)
      at front c false e = carries-other word front c x small (λ f. false≢true (sym e ∙ eq-eqb c x f))

      by : Pushed text → ends_in (bytes_of text) (word ++ x ∷ []) ≡ ends_in text (word ++ x ∷ [])
      by (Nothing e) = rw e refl
      by (Push front c e) = rw e (at front c (nat_eq c x) refl)
