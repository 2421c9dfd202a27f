-- A label that names an encoding is ASCII, so it is text.
use Rattle.std.proofs.Common.{◌≡◌, ℕ, zero, suc, ◌-◌, ◌<◌, ◌≤◌, Bool, true, false, List, [], ◌∷◌, length, get_or, map, Option, Some, None, refl, sym, ap, ◌∙◌, subst, ⊎_elim, arith}
use Rattle.std.specs.Prelude.{◌&&◌, nat_lt, reverse, if◌then◌else◌}
use Rattle.std.specs.List.{prefix_len, suffix_len}
use Rattle.std.specs.Char.{is_ascii_whitespace, to_ascii_lowercase}
use Rattle.std.specs.Str.{IsAscii, IsUtf8, str_eq_ignore_ascii_case, str_to_ascii_lowercase}
use Rattle.std.proofs.Math.ListN.{get_or-map}
use Rattle.std.proofs.lemmas.Bool.Decides.{nat_tests}
use Rattle.std.proofs.lemmas.List.{get_or-drop, get_or-reverse, get_or-take, get_or_past}
use Rattle.std.proofs.lemmas.Bool.{cases_lt}
use Rattle.std.proofs.lemmas.List.Sums.{prefix_len_passes}
use Rattle.std.proofs.lemmas.Str.{IsUtf8-from_ascii}
use Rattle.std.proofs.lemmas.Str.Ascii.{lowercase_ascii}
use Rattle.markup5ever.proofs.NameOrder.{bytes_eq-same}
use Rattle.html5encodings.specs.Encodings.{encoding_of, found, without_leading, without_trailing}
use Rattle.html5encodings.specs.Labels.{labels}
use Rattle.html5encodings.specs.declared.encoding.Encoding.{Encoding}

lower_below : (x : ℕ) → to_ascii_lowercase x < 128 → x < 128
lower_below x low = grind (arith, nat_tests)

white_below : (x : ℕ) → is_ascii_whitespace x ≡ true → x < 128
white_below x white = grind (arith, nat_tests)

-- each byte is below 128
abbrev are_ascii : List ℕ → Bool
are_ascii [] = true
are_ascii (b ∷ bs) = nat_lt b 128 && are_ascii bs

IsAscii-are_ascii : (bs : List ℕ) → are_ascii bs ≡ true → IsAscii bs
IsAscii-are_ascii [] are i = omega arith
IsAscii-are_ascii (b ∷ bs) are zero = grind (arith, nat_tests)
IsAscii-are_ascii (b ∷ bs) are (suc i) = IsAscii-are_ascii bs (grind (arith, nat_tests)) i

-- each row's label is ASCII
abbrev rows_are_ascii : List (List ℕ × Encoding) → Bool
rows_are_ascii [] = true
rows_are_ascii (row ∷ rows) = are_ascii row.0 && rows_are_ascii rows

labels_are_ascii : rows_are_ascii labels ≡ true
unfolding labels
labels_are_ascii = refl

IsAscii-same_case : (a b : List ℕ) → str_eq_ignore_ascii_case a b ≡ true → IsAscii b → IsAscii a
IsAscii-same_case a b same ascii i =
    let lower : map to_ascii_lowercase a ≡ map to_ascii_lowercase b = bytes_eq-same (str_to_ascii_lowercase a) (str_to_ascii_lowercase b) same in
    let e : to_ascii_lowercase (get_or a i 0) ≡ to_ascii_lowercase (get_or b i 0) =
    sym (get_or-map to_ascii_lowercase a i 0) ∙ ap (λ l. get_or l i 0) lower ∙ get_or-map to_ascii_lowercase b i 0 in
    lower_below (get_or a i 0) (subst (λ n. n < 128) (sym e) (lowercase_ascii (get_or b i 0) (ascii i)))

IsAscii-here : (t : Bool) (row : List ℕ × Encoding) (label : List ℕ) (e : Encoding) (later : Option Encoding) → (later ≡ Some e → IsAscii label) → are_ascii row.0 ≡ true
    → str_eq_ignore_ascii_case label row.0 ≡ t → (if t then (Some row.1) else later) ≡ Some e → IsAscii label
IsAscii-here true row label e later go are same here = IsAscii-same_case label row.0 same (IsAscii-are_ascii row.0 are)
IsAscii-here false row label e later go are other here = go here

IsAscii-found : (rows : List (List ℕ × Encoding)) (label : List ℕ) (e : Encoding) → rows_are_ascii rows ≡ true → found rows label ≡ Some e → IsAscii label
IsAscii-found [] label e are is = absurd (cc is)
IsAscii-found (row ∷ rows) label e are is =
    IsAscii-here (str_eq_ignore_ascii_case label row.0) row label e (found rows label) (IsAscii-found rows label e (grind (arith, nat_tests))) (grind (arith, nat_tests)) refl is

-- a byte of a front, and one of the rest
IsAscii-part : (label : List ℕ) (n : ℕ) → ((i : ℕ) → i < n → i < length label → get_or label i 0 < 128) → ((i : ℕ) → n ≤ i → i < length label → get_or label i 0 < 128) → IsAscii label
IsAscii-part label n front rest i =
    ⊎_elim (λ within. ⊎_elim (λ before. front i before within) (λ after. rest i after within) (cases_lt i n))
    (λ past. let e : get_or label i 0 ≡ 0 = get_or_past label i 0 past in rw e (omega arith))
    (cases_lt i (length label))

-- white space at the front, and at the end
IsAscii-leading : (label : List ℕ) → IsAscii (without_leading label) → IsAscii label
IsAscii-leading label ascii =
    let n : ℕ = prefix_len is_ascii_whitespace label in
    IsAscii-part label n
    (λ i before within. white_below (get_or label i 0) (prefix_len_passes is_ascii_whitespace label i 0 before))
    (λ i after within. subst (λ b. b < 128) (get_or-drop n label (i - n) 0 ∙ ap (λ k. get_or label k 0) (omega arith)) (ascii (i - n)))

IsAscii-trailing : (label : List ℕ) → IsAscii (without_trailing label) → IsAscii label
IsAscii-trailing label ascii =
    let s : ℕ = suffix_len is_ascii_whitespace label in
    let n : ℕ = length label - s in
    IsAscii-part label n
    (λ i before within. subst (λ b. b < 128) (get_or-take n label i 0 before) (ascii i))
    (λ i after within.
    let j : ℕ = length label - 1 - i in
    let white : is_ascii_whitespace (get_or (reverse label) j 0) ≡ true = prefix_len_passes is_ascii_whitespace (reverse label) j 0 (omega arith) in
    let same : get_or (reverse label) j 0 ≡ get_or label i 0 = get_or-reverse label j 0 (omega arith) ∙ ap (λ k. get_or label k 0) (omega arith) in
    white_below (get_or label i 0) (subst (λ b. is_ascii_whitespace b ≡ true) same white))

IsAscii-label : (label : List ℕ) (e : Encoding) → encoding_of label ≡ Some e → IsAscii label
IsAscii-label label e is = IsAscii-leading label (IsAscii-trailing (without_leading label) (IsAscii-found labels (without_trailing (without_leading label)) e labels_are_ascii is))

pub encoding_of-not_text : (label : List ℕ) → (IsUtf8 label → ⊥) → (found : Option Encoding) → encoding_of label ≡ found → None ≡ found
encoding_of-not_text label none None is = refl
encoding_of-not_text label none (Some e) is = absurd (none (IsUtf8-from_ascii label (IsAscii-label label e is)))
