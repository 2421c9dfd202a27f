-- White space of a text is that of its bytes.
use Rattle.std.proofs.Common.{◌≡◌, ℕ, ◌+◌, ◌/◌, ◌<◌, ◌≤◌, Bool, true, false, List, [], ◌∷◌, ◌++◌, filter, refl, ap, sym, ◌∙◌, arith}
use Rattle.std.specs.Prelude.{◌&&◌, ◌==◌, not, cond, nat_lt, encode_utf8, encode_utf8_all, if◌then◌else◌}
use Rattle.std.specs.List.{list_all}
use Rattle.std.proofs.lemmas.Bool.{false≢true}
use Rattle.std.proofs.lemmas.Bool.Decides.{nat_tests}
use Rattle.std.proofs.lemmas.List.Elements.{filter-append}
use Rattle.std.proofs.lemmas.Str.{encode_ascii}
use Rattle.html5reading.specs.Characters.{null}
use Rattle.html5tree.specs.Fitting.{is_space}
use Rattle.html5tree.specs.Tables.{after_space, leading_space}
use Rattle.html5write.specs.Pieces.{has_no_null}
use Rattle.html5cleaner.proofs.Replies.{and-left, and-right}
use lib.Utf8.{encode, next}

abbrev is_other : ℕ → Bool
is_other byte = not (is_space byte)

space-small : (c : ℕ) → is_space c ≡ true → c < 128
space-small c h = grind arith

large-other : (byte : ℕ) → 128 ≤ byte → is_space byte ≡ false
large-other byte h = grind arith

-- bytes that are no white space
record IsOther (bytes : List ℕ) : Type 0 where
  first : ℕ
  more : List ℕ
  is : bytes ≡ first ∷ more
  begins : is_space first ≡ false
  others : list_all is_other bytes ≡ true

-- by the length of the encoded character
other-by_len : (c : ℕ) (one two three : Bool) → is_space c ≡ false
    → IsOther (cond one (c ∷ []) (cond two ((192 + c / 64) ∷ next c ∷ []) (cond three ((224 + c / 4096) ∷ next (c / 64) ∷ next c ∷ []) ((240 + c / 262144) ∷ next (c / 4096) ∷ next (c / 64) ∷ next c ∷ []))))
other-by_len c true two three o = record { first = c; more = []; is = refl; begins = o; others = ap (λ b. not b && true) o }
other-by_len c false true three o = record {
  first = 192 + c / 64;
  more = next c ∷ [];
  is = refl;
  begins = large-other (192 + c / 64) (omega arith);
  others = rw (large-other (192 + c / 64) (omega arith), large-other (next c) (omega arith)) refl;
}
other-by_len c false false true o = record {
  first = 224 + c / 4096;
  more = next (c / 64) ∷ next c ∷ [];
  is = refl;
  begins = large-other (224 + c / 4096) (omega arith);
  others = rw (large-other (224 + c / 4096) (omega arith), large-other (next (c / 64)) (omega arith), large-other (next c) (omega arith)) refl;
}
other-by_len c false false false o = record {
  first = 240 + c / 262144;
  more = next (c / 4096) ∷ next (c / 64) ∷ next c ∷ [];
  is = refl;
  begins = large-other (240 + c / 262144) (omega arith);
  others = rw (large-other (240 + c / 262144) (omega arith), large-other (next (c / 4096)) (omega arith), large-other (next (c / 64)) (omega arith), large-other (next c) (omega arith)) refl;
}

other-encoded : (c : ℕ) → is_space c ≡ false → IsOther (encode_utf8 c)
unfolding encode
other-encoded c o = other-by_len c (nat_lt c 128) (nat_lt c 2048) (nat_lt c 65536) o

-- ---- the front

front-where : (c : ℕ) (text : List ℕ) (space : Bool) → is_space c ≡ space → leading_space (encode_utf8_all text) ≡ encode_utf8_all (leading_space text)
    → leading_space (encode_utf8 c ++ encode_utf8_all text) ≡ encode_utf8_all (if space then c ∷ leading_space text else [])
unfolding leading_space
front-where c text true is later =
    ap (λ l. leading_space (l ++ encode_utf8_all text)) (encode_ascii c (space-small c is))
    ∙ ap (λ b. if b then c ∷ leading_space (encode_utf8_all text) else []) is
    ∙ ap (λ l. c ∷ l) later
    ∙ ap (λ l. l ++ encode_utf8_all (leading_space text)) (sym (encode_ascii c (space-small c is)))
front-where c text false is later =
    let o = other-encoded c is in
    ap (λ l. leading_space (l ++ encode_utf8_all text)) o.is
    ∙ ap (λ b. if b then o.first ∷ leading_space (o.more ++ encode_utf8_all text) else []) o.begins

pub front-encoded : (text : List ℕ) → leading_space (encode_utf8_all text) ≡ encode_utf8_all (leading_space text)
unfolding leading_space
front-encoded [] = refl
front-encoded (c ∷ text) = front-where c text (is_space c) refl (front-encoded text)

rest-where : (c : ℕ) (text : List ℕ) (space : Bool) → is_space c ≡ space → after_space (encode_utf8_all text) ≡ encode_utf8_all (after_space text)
    → after_space (encode_utf8 c ++ encode_utf8_all text) ≡ encode_utf8_all (if space then after_space text else c ∷ text)
unfolding after_space
rest-where c text true is later =
    ap (λ l. after_space (l ++ encode_utf8_all text)) (encode_ascii c (space-small c is))
    ∙ ap (λ b. if b then after_space (encode_utf8_all text) else c ∷ encode_utf8_all text) is
    ∙ later
rest-where c text false is later =
    let o = other-encoded c is in
    ap (λ l. after_space (l ++ encode_utf8_all text)) o.is
    ∙ ap (λ b. if b then after_space (o.more ++ encode_utf8_all text) else o.first ∷ (o.more ++ encode_utf8_all text)) o.begins
    ∙ ap (λ l. l ++ encode_utf8_all text) (sym o.is)

pub rest-encoded : (text : List ℕ) → after_space (encode_utf8_all text) ≡ encode_utf8_all (after_space text)
unfolding after_space
rest-encoded [] = refl
rest-encoded (c ∷ text) = rest-where c text (is_space c) refl (rest-encoded text)

-- ---- all of it

filter-byte : (byte : ℕ) (bytes : List ℕ) (space : Bool) → is_space byte ≡ space → (not space && list_all is_other bytes) ≡ true → filter is_space bytes ≡ []
    → (if space then byte ∷ filter is_space bytes else filter is_space bytes) ≡ []
filter-byte byte bytes true is all later = absurd (false≢true all)
filter-byte byte bytes false is all later = later

filter-none : (bytes : List ℕ) → list_all is_other bytes ≡ true → filter is_space bytes ≡ []
filter-none [] all = refl
filter-none (byte ∷ bytes) all =
    filter-byte byte bytes (is_space byte) refl all (filter-none bytes (and-right (is_other byte) (list_all is_other bytes) all))

space-where : (c : ℕ) (text : List ℕ) (space : Bool) → is_space c ≡ space → filter is_space (encode_utf8_all text) ≡ encode_utf8_all (filter is_space text)
    → filter is_space (encode_utf8 c ++ encode_utf8_all text) ≡ encode_utf8_all (if space then c ∷ filter is_space text else filter is_space text)
space-where c text true is later =
    ap (λ l. filter is_space (l ++ encode_utf8_all text)) (encode_ascii c (space-small c is))
    ∙ ap (λ b. if b then c ∷ filter is_space (encode_utf8_all text) else filter is_space (encode_utf8_all text)) is
    ∙ ap (λ l. c ∷ l) later
    ∙ ap (λ l. l ++ encode_utf8_all (filter is_space text)) (sym (encode_ascii c (space-small c is)))
space-where c text false is later =
    filter-append is_space (encode_utf8 c) (encode_utf8_all text)
    ∙ ap (λ l. l ++ filter is_space (encode_utf8_all text)) (filter-none (encode_utf8 c) (other-encoded c is).others)
    ∙ later

pub space-encoded : (text : List ℕ) → filter is_space (encode_utf8_all text) ≡ encode_utf8_all (filter is_space text)
space-encoded [] = refl
space-encoded (c ∷ text) = space-where c text (is_space c) refl (space-encoded text)

-- whether each byte of a text is white space is whether each character is
all-where : (c : ℕ) (space : Bool) → is_space c ≡ space → list_all is_space (encode_utf8 c) ≡ space
all-where c true is = ap (list_all is_space) (encode_ascii c (space-small c is)) ∙ ap (λ b. b && true) is
all-where c false is =
    let o = other-encoded c is in
    ap (list_all is_space) o.is ∙ ap (λ b. b && list_all is_space o.more) o.begins

pub all-encoded : (c : ℕ) → list_all is_space (encode_utf8 c) ≡ is_space c
all-encoded c = all-where c (is_space c) refl

-- ---- NUL

null-front : (c : ℕ) (text : List ℕ) (space : Bool) → (not (c == null) && has_no_null text) ≡ true → has_no_null (leading_space text) ≡ true
    → has_no_null (if space then c ∷ leading_space text else []) ≡ true
null-front c text true whole later = rw (and-left (not (c == null)) (has_no_null text) whole, later) refl
null-front c text false whole later = refl

pub front-no_null : (text : List ℕ) → has_no_null text ≡ true → has_no_null (leading_space text) ≡ true
unfolding leading_space
front-no_null [] whole = refl
front-no_null (c ∷ text) whole = null-front c text (is_space c) whole (front-no_null text (and-right (not (c == null)) (has_no_null text) whole))

null-rest : (c : ℕ) (text : List ℕ) (space : Bool) → has_no_null (c ∷ text) ≡ true → has_no_null (after_space text) ≡ true
    → has_no_null (if space then after_space text else c ∷ text) ≡ true
null-rest c text true whole later = later
null-rest c text false whole later = whole

pub rest-no_null : (text : List ℕ) → has_no_null text ≡ true → has_no_null (after_space text) ≡ true
unfolding after_space
rest-no_null [] whole = refl
rest-no_null (c ∷ text) whole = null-rest c text (is_space c) whole (rest-no_null text (and-right (not (c == null)) (has_no_null text) whole))

null-space : (c : ℕ) (text : List ℕ) (space : Bool) → (not (c == null) && has_no_null text) ≡ true → has_no_null (filter is_space text) ≡ true
    → has_no_null (if space then c ∷ filter is_space text else filter is_space text) ≡ true
null-space c text true whole later = rw (and-left (not (c == null)) (has_no_null text) whole, later) refl
null-space c text false whole later = later

pub space-no_null : (text : List ℕ) → has_no_null text ≡ true → has_no_null (filter is_space text) ≡ true
space-no_null [] whole = refl
space-no_null (c ∷ text) whole = null-space c text (is_space c) whole (space-no_null text (and-right (not (c == null)) (has_no_null text) whole))
