-- What a text is to a pattern, by its characters and by its bytes.
use Rattle.std.proofs.Common.{◌≡◌, ◌≢◌, ℕ, ◌<◌, ◌≤◌, List, [], ◌∷◌, ◌++◌, length, take, drop, encode_utf8_all, true, false, Option, None, Some, refl, sym, ap, ◌∙◌, inl, inr, arith, zero, suc}
use Rattle.std.specs.Prelude.{◌↔◌, map, min, nat_eq, slice_index, Bool, IsNone}
use Rattle.std.specs.Char.{to_ascii_lowercase}
use Rattle.std.specs.List.{starts_with}
use Rattle.std.specs.Str.{chars, IsAscii, IsUtf8}
use Rattle.std.proofs.lemmas.Bool.{cases_eq, eqb-true, eq-eqb, and_from}
use Rattle.std.proofs.lemmas.List.{length-map, length-take-le, map-append, take-append-drop, take_all, take_at, take-map}
use Rattle.std.proofs.lemmas.List.Prefix.{front_fits, front_reads}
use Rattle.std.proofs.lemmas.Slice.Eq.{starts_is}
use Rattle.std.proofs.lemmas.Str.{chars-append, chars_from_encodes, chars-IsAscii, encode_ascii, encodes-append, encodes-IsAscii, IsAscii-take, IsUtf8-from_ascii, IsUtf8-past_char, length-le-encodes}
use Rattle.markup5ever.specs.Case.{folded, BeginsLike, EndsWithin, Differ}
use Rattle.markup5ever.specs.declared.buffer_queue.Case.{Case}
use Rattle.markup5ever.specs.declared.buffer_queue.Case.TheVariants.{Exact, IgnoreAscii}

-- ---- a list that begins with another

starts_apart : (xs front : List ℕ) → starts_with nat_eq xs front ≡ true → xs ≡ front ++ drop (length front) xs
starts_apart xs front e = (starts_is (λ a b. (eqb-true a b, eq-eqb a b)) xs front (starts_with nat_eq xs front) refl).0 e

starts_joined : (xs front rest : List ℕ) → xs ≡ front ++ rest → starts_with nat_eq xs front ≡ true
starts_joined xs front rest e = (starts_is (λ a b. (eqb-true a b, eq-eqb a b)) xs front (starts_with nat_eq xs front) refl).1 rest e

-- two lists of which neither begins with the other differ at some place
apart_somewhere : (xs ys : List ℕ) → (starts_with nat_eq xs ys ≡ true → ⊥) → (starts_with nat_eq ys xs ≡ true → ⊥) → (k : ℕ) × (k < length xs) × (k < length ys) × (slice_index xs k ≢ slice_index ys k)
apart_somewhere xs [] not_front not_after = absurd (not_front refl)
apart_somewhere [] (y ∷ ys) not_front not_after = absurd (not_after refl)
apart_somewhere (x ∷ xs) (y ∷ ys) not_front not_after =
    elim (cases_eq x y) [
      | inl same ↦
          let later = apart_somewhere xs ys (λ e. not_front (and_from _ _ (eq-eqb y x (sym same)) e)) (λ e. not_after (and_from _ _ (eq-eqb x y same) e)) in
          (suc later.0, omega (arith, later.1), omega (arith, later.2), later.3)
      | inr other ↦ (0, omega arith, omega arith, other)
    ]

-- ---- the characters as they are compared

length-folded : (case : Case) (text : List ℕ) → length (folded case text) ≡ length text
length-folded Exact text = refl
length-folded IgnoreAscii text = length-map text to_ascii_lowercase

folded-append : (case : Case) (front rest : List ℕ) → folded case (front ++ rest) ≡ folded case front ++ folded case rest
folded-append Exact front rest = refl
folded-append IgnoreAscii front rest = map-append to_ascii_lowercase front rest

take-folded : (case : Case) (n : ℕ) (text : List ℕ) → take n (folded case text) ≡ folded case (take n text)
take-folded Exact n text = refl
take-folded IgnoreAscii n text = take-map to_ascii_lowercase n text

lower-at : (text : List ℕ) (k : ℕ) → slice_index (map to_ascii_lowercase text) k ≡ to_ascii_lowercase (slice_index text k)
lower-at [] k = refl
lower-at (c ∷ text) zero = refl
lower-at (c ∷ text) (suc k) = lower-at text k

lower_below : (c : ℕ) → c < 128 → to_ascii_lowercase c < 128
lower_below c low = grind arith

below_lower : (c : ℕ) → to_ascii_lowercase c < 128 → c < 128
below_lower c low = grind arith

IsAscii-folded : (case : Case) (text : List ℕ) → IsAscii text → IsAscii (folded case text)
IsAscii-folded Exact text ascii = ascii
IsAscii-folded IgnoreAscii text ascii = λ k. rw (lower-at text k) (lower_below (slice_index text k) (ascii k))

ascii_from_folded : (case : Case) (text : List ℕ) → IsAscii (folded case text) → IsAscii text
ascii_from_folded Exact text ascii = ascii
ascii_from_folded IgnoreAscii text ascii = λ k. below_lower (slice_index text k) (rw (lower-at text k) at (ascii k))

-- what is like ASCII is ASCII
ascii_from_like : (case : Case) (text pattern : List ℕ) → IsAscii pattern → folded case text ≡ folded case pattern → IsAscii text
ascii_from_like case text pattern ascii like = ascii_from_folded case text (rw like (IsAscii-folded case pattern ascii))

-- ---- a prefix, said of as many characters as it has

front_from_begins : (case : Case) (text pattern : List ℕ) → BeginsLike case text pattern → (length pattern ≤ length text) × (folded case (take (length pattern) text) ≡ folded case pattern)
front_from_begins case text pattern begins =
    let apart = starts_apart (folded case text) (folded case pattern) begins in
    let rest = drop (length (folded case pattern)) (folded case text) in (
      omega (arith, front_fits (folded case text) (folded case pattern) rest apart, length-folded case text, length-folded case pattern),
      sym (take-folded case (length pattern) text) ∙ ap (take (length pattern)) apart ∙ take_at (folded case pattern) rest (length pattern) (length-folded case pattern),
    )

begins_from_front : (case : Case) (text pattern : List ℕ) → folded case (take (length pattern) text) ≡ folded case pattern → BeginsLike case text pattern
begins_from_front case text pattern like =
    let rest = drop (length pattern) text in
    let apart : folded case text ≡ folded case pattern ++ folded case rest = ap (folded case) (sym (take-append-drop (length pattern) text)) ∙ folded-append case (take (length pattern) text) rest ∙ ap (λ cs. cs ++ folded case rest) like in
    starts_joined (folded case text) (folded case pattern) (folded case rest) apart

pub length-front : (case : Case) (text pattern : List ℕ) → BeginsLike case text pattern → length (take (length pattern) text) ≡ length pattern
length-front case text pattern begins = length-take-le (length pattern) text (front_from_begins case text pattern begins).0

-- ---- a text that begins in ASCII

rest_utf8 : (bytes front rest : List ℕ) → IsUtf8 bytes → IsAscii front → bytes ≡ front ++ rest → IsUtf8 rest
rest_utf8 bytes [] rest utf8 ascii e = rw e at utf8
rest_utf8 bytes (b ∷ front) rest utf8 ascii e =
    rest_utf8 (front ++ rest) front rest (IsUtf8-past_char bytes (front ++ rest) b utf8 (e ∙ ap (λ bs. bs ++ (front ++ rest)) (sym (encode_ascii b (ascii 0))))) (λ k. ascii (suc k)) refl

-- its first characters are its first bytes
first_bytes : (text : List ℕ) (n : ℕ) → n ≤ length text → IsAscii (take n text) → take n (encode_utf8_all text) ≡ take n text
first_bytes text n within ascii =
    let front = take n text in
    let rest = encode_utf8_all (drop n text) in
    let split : encode_utf8_all text ≡ front ++ rest = ap encode_utf8_all (sym (take-append-drop n text)) ∙ encodes-append front (drop n text) ∙ ap (λ bs. bs ++ rest) (encodes-IsAscii front ascii) in
    ap (take n) split ∙ take_at front rest n (length-take-le n text within)

-- its first bytes are its first characters
first_chars : (bytes : List ℕ) (n : ℕ) → IsUtf8 bytes → n ≤ length bytes → IsAscii (take n bytes) → take n (chars bytes) ≡ take n bytes
first_chars bytes n utf8 within ascii =
    let front = take n bytes in
    let rest = chars (drop n bytes) in
    let split : chars bytes ≡ front ++ rest = ap chars (sym (take-append-drop n bytes)) ∙ chars-append front (drop n bytes) (IsUtf8-from_ascii front ascii) ∙ ap (λ cs. cs ++ rest) (chars-IsAscii front ascii) in
    ap (take n) split ∙ take_at front rest n (length-take-le n bytes within)

-- ---- a text and a pattern of ASCII, by the bytes of the text

module _ (case : Case) (text pattern : List ℕ) (utf8 : IsUtf8 (encode_utf8_all text)) (ascii : IsAscii pattern) where
  front_bytes : BeginsLike case text pattern → take (length pattern) (encode_utf8_all text) ≡ take (length pattern) text
  front_bytes begins =
      let front = front_from_begins case text pattern begins in
      first_bytes text (length pattern) front.0 (ascii_from_like case (take (length pattern) text) pattern ascii front.1)

  -- what is taken of a text that begins with the pattern, and what stays
  pub front_chars : BeginsLike case text pattern → chars (take (length pattern) (encode_utf8_all text)) ≡ take (length pattern) text
  front_chars begins =
      let front = front_from_begins case text pattern begins in
      ap chars (front_bytes begins) ∙ chars-IsAscii (take (length pattern) text) (ascii_from_like case (take (length pattern) text) pattern ascii front.1)

  pub after_utf8 : BeginsLike case text pattern → IsUtf8 (drop (length pattern) (encode_utf8_all text))
  after_utf8 begins =
      let bytes = encode_utf8_all text in
      let front = front_from_begins case text pattern begins in
      let split : bytes ≡ take (length pattern) text ++ drop (length pattern) bytes = sym (take-append-drop (length pattern) bytes) ∙ ap (λ bs. bs ++ drop (length pattern) bytes) (front_bytes begins) in
      rest_utf8 bytes (take (length pattern) text) (drop (length pattern) bytes) utf8 (ascii_from_like case (take (length pattern) text) pattern ascii front.1) split

  -- a text that ends within the pattern is its own bytes
  bytes_from_ends : BeginsLike case pattern text → encode_utf8_all text ≡ text
  bytes_from_ends alike =
      let front = front_from_begins case pattern text alike in
      encodes-IsAscii text (ascii_from_like case text (take (length text) pattern) (IsAscii-take pattern (length text) ascii) (sym front.1))

  -- both are compared as far as the shorter goes
  module _ (shared : ℕ) (least : shared ≡ min (length (encode_utf8_all text)) (length pattern)) where
    pub differs_from_bytes : folded case (take shared (encode_utf8_all text)) ≢ folded case (take shared pattern) → Differ case text pattern
    differs_from_bytes unlike =
        let bytes = encode_utf8_all text in
        let no_beginning : BeginsLike case text pattern → ⊥ = λ begins.
        let front = front_from_begins case text pattern begins in
        let all : shared ≡ length pattern = omega (arith, least, front.0, length-le-encodes text) in
        unlike (ap (λ n. folded case (take n bytes)) all ∙ ap (folded case) (front_bytes begins) ∙ front.1 ∙ ap (folded case) (sym (take_all shared pattern (omega (arith, all))))) in
        let no_end : BeginsLike case pattern text → ⊥ = λ alike.
        let front = front_from_begins case pattern text alike in
        let same = bytes_from_ends alike in
        let all : shared ≡ length text = omega (arith, least, front.0, ap length same) in
        unlike (ap (folded case) (ap (take shared) same ∙ take_all shared text (omega (arith, all))) ∙ sym front.1 ∙ ap (λ n. folded case (take n pattern)) (sym all)) in
        let place = apart_somewhere (folded case text) (folded case pattern) no_beginning no_end in
        (place.0, omega (arith, place.1, length-folded case text), omega (arith, place.2, length-folded case pattern), place.3)

    module _ (like : folded case (take shared (encode_utf8_all text)) ≡ folded case (take shared pattern)) where
      shared_ascii : IsAscii (take shared (encode_utf8_all text))
      shared_ascii = ascii_from_like case (take shared (encode_utf8_all text)) (take shared pattern) (IsAscii-take pattern shared ascii) like

      shared_chars : take shared text ≡ take shared (encode_utf8_all text)
      shared_chars =
          let bytes = encode_utf8_all text in
          ap (take shared) (chars_from_encodes text bytes utf8 refl) ∙ first_chars bytes shared utf8 (omega (arith, least)) shared_ascii

      pub begins_from_bytes : length pattern ≤ length (encode_utf8_all text) → BeginsLike case text pattern
      begins_from_bytes within =
          let all : shared ≡ length pattern = omega (arith, least, within) in
          begins_from_front case text pattern (ap (λ n. folded case (take n text)) (sym all) ∙ ap (folded case) shared_chars ∙ like ∙ ap (folded case) (take_all shared pattern (omega (arith, all))))

      pub ends_from_bytes : length (encode_utf8_all text) < length pattern → EndsWithin case text pattern
      ends_from_bytes shorter =
          let bytes = encode_utf8_all text in
          let all : shared ≡ length bytes = omega (arith, least, shorter) in
          let whole : take shared bytes ≡ bytes = take_all shared bytes (omega (arith, all)) in
          let same : text ≡ bytes = chars_from_encodes text bytes utf8 refl ∙ chars-IsAscii bytes (rw whole at shared_ascii) in
          record {
            shorter = omega (arith, shorter, ap length same);
            alike = begins_from_front case pattern text (ap (λ n. folded case (take n pattern)) (ap length same ∙ sym all) ∙ sym like ∙ ap (folded case) (whole ∙ sym same));
          }

-- ---- no two of the three hold

begins_or_ends : (case : Case) (text pattern : List ℕ) → BeginsLike case text pattern → EndsWithin case text pattern → ⊥
begins_or_ends case text pattern begins ends = omega (arith, ends.shorter, (front_from_begins case text pattern begins).0)

begins_or_differs : (case : Case) (text pattern : List ℕ) → BeginsLike case text pattern → Differ case text pattern → ⊥
begins_or_differs case text pattern begins place =
    let apart = starts_apart (folded case text) (folded case pattern) begins in
    place.3 (front_reads 0 (folded case text) (folded case pattern) _ apart place.0 (omega (arith, place.2, length-folded case pattern)))

ends_or_differs : (case : Case) (text pattern : List ℕ) → EndsWithin case text pattern → Differ case text pattern → ⊥
ends_or_differs case text pattern ends place =
    let apart = starts_apart (folded case pattern) (folded case text) ends.alike in
    place.3 (sym (front_reads 0 (folded case pattern) (folded case text) _ apart place.0 (omega (arith, place.1, length-folded case text))))

-- what an answer says
pub record Answer (case : Case) (text pattern : List ℕ) (answer : Option Bool) : Type 0 where
  pub begins : (answer ≡ Some true) ↔ BeginsLike case text pattern
  pub differs : (answer ≡ Some false) ↔ Differ case text pattern
  pub undecided : IsNone answer ↔ EndsWithin case text pattern

pub answer_begins : (case : Case) (text pattern : List ℕ) → BeginsLike case text pattern → Answer case text pattern (Some true)
answer_begins case text pattern begins = record {
  begins = ((λ _. begins), (λ _. refl));
  differs = ((λ e. absurd cc), (λ place. absurd (begins_or_differs case text pattern begins place)));
  undecided = ((λ e. absurd cc), (λ ends. absurd (begins_or_ends case text pattern begins ends)));
}

pub answer_differs : (case : Case) (text pattern : List ℕ) → Differ case text pattern → Answer case text pattern (Some false)
answer_differs case text pattern differs = record {
  begins = ((λ e. absurd cc), (λ begins. absurd (begins_or_differs case text pattern begins differs)));
  differs = ((λ _. differs), (λ _. refl));
  undecided = ((λ e. absurd cc), (λ ends. absurd (ends_or_differs case text pattern ends differs)));
}

pub answer_ends : (case : Case) (text pattern : List ℕ) → EndsWithin case text pattern → Answer case text pattern None
answer_ends case text pattern ends = record {
  begins = ((λ e. absurd cc), (λ begins. absurd (begins_or_ends case text pattern begins ends)));
  differs = ((λ e. absurd cc), (λ differs. absurd (ends_or_differs case text pattern ends differs)));
  undecided = ((λ _. ends), (λ _. refl));
}
