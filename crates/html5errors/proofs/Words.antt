-- Texts that begin with a word, or with a character.
use Rattle.std.proofs.Common.{◌≡◌, ℕ, ◌+◌, length, drop, None, Some, Bool, true, false, List, [], ◌∷◌, ◌++◌, refl, sym, ap, ◌∙◌, arith}
use Rattle.std.specs.Prelude.{◌==◌, Option, encode_utf8, if◌then◌else◌}
use Rattle.std.specs.Borrow.{Bor}
use Rattle.std.specs.Char.{len_utf8}
use Rattle.std.specs.Option.{MatchOption, option_copied}
use Rattle.std.specs.Str.{IsUtf8}
use Rattle.std.specs.Str.Pattern.{FindsTextPrefix}
use Rattle.std.proofs.lemmas.Bool.{eqb-true, eq-eqb}
use Rattle.std.proofs.lemmas.Option.{none-some, same_Some}
use Rattle.std.proofs.lemmas.Str.{chars_past_char, chars-nil, drop_past_char}
use Rattle.html5errors.specs.Messages.{after_word, first_and_rest, split_first}

-- ---- words

pub after_word-append : (word rest : List ℕ) → after_word word (word ++ rest) ≡ Some rest
unfolding after_word
after_word-append [] rest = refl
after_word-append (c ∷ word) rest = rw (eq-eqb c c refl) (after_word-append word rest)

step-is : (b : Bool) (found : Option (List ℕ)) (rest : List ℕ) → (if b then found else None) ≡ Some rest → (b ≡ true) × (found ≡ Some rest)
step-is true found rest e = (refl, e)
step-is false found rest e = absurd (none-some rest e)

pub after_word-is : (word text rest : List ℕ) → after_word word text ≡ Some rest → text ≡ word ++ rest
unfolding after_word
after_word-is [] text rest e = same_Some text rest e
after_word-is (c ∷ word) [] rest e = absurd (none-some rest e)
after_word-is (c ∷ word) (d ∷ text) rest e =
    let parts = step-is (c == d) (after_word word text) rest e in
    rw (sym (eqb-true c d parts.0)) (ap (λ l. c ∷ l) (after_word-is word text rest parts.1))

pub none_from_all : (found : Option (List ℕ)) → ((rest : List ℕ) → found ≡ Some rest → ⊥) → found ≡ None
none_from_all None none = refl
none_from_all (Some rest) none = absurd (none rest refl)

-- what `strip_prefix` gives for a text
pub strip_prefix_text : (word text : List ℕ) (r : Option (Bor (List ℕ)))
    → MatchOption r (FindsTextPrefix word text None) (λ x. (n : ℕ) × FindsTextPrefix word text (Some n) × (x.now ≡ drop n text) × (length x.now + n ≡ length text))
    → option_copied r ≡ after_word word text
strip_prefix_text word text None lacks = sym (none_from_all (after_word word text) (λ rest e. lacks rest (after_word-is word text rest e)))
strip_prefix_text word text (Some x) found =
    ap Some found.2 ∙ sym (after_word-append word (drop found.0 text)) ∙ ap (after_word word) (sym found.1.1)

-- ---- first characters

pub split-first : (text rest : List ℕ) (c : ℕ) → IsUtf8 text → text ≡ encode_utf8 c ++ rest → split_first text ≡ Some (c, rest)
unfolding split_first
split-first text rest c utf8 first =
    let width : len_utf8 c ≡ 0 + len_utf8 c = omega arith in
    rw (chars_past_char text rest c utf8 first)
    (ap (λ n. Some (c, drop n text)) width ∙ ap (λ l. Some (c, l)) (drop_past_char text rest 0 c first))

pub split-none : (text : List ℕ) → text ≡ [] → split_first text ≡ None
unfolding split_first
split-none text none = ap split_first none ∙ ap (λ l. first_and_rest l []) chars-nil
