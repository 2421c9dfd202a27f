-- The characters of a reference, where it stands: as the bytes of a text or of a value.
use Rattle.std.proofs.Common.{◌≡◌, ℕ, ◌≤◌, List, ◌∷◌, ◌++◌, sym, ap, ◌∙◌, arith, append_assoc}
use Rattle.std.specs.Prelude.{◌≢◌, All, flat_map, encode_utf8, encode_utf8_all}
use Rattle.std.specs.Str.{chars, IsUtf8, IsAscii}
use Rattle.std.proofs.lemmas.List.Concat.{flat_map-append}
use Rattle.std.proofs.lemmas.List.Elements.{All-weaker}
use Rattle.std.proofs.lemmas.Str.{encodes-append, encodes-IsAscii, chars_from_encodes}
use Rattle.html5reading.specs.Characters.{number_sign, null, value_bytes}
use Rattle.html5partial.proofs.Held.{IsAscii-plain}
use Rattle.html5partial.proofs.RunSteps.{value_bytes-run}

-- plain text is put to a value as it stands
value_bytes-plain : (rest : List ℕ) → All (λ c. (number_sign ≤ c) × (c ≤ 0x7A)) rest → flat_map value_bytes rest ≡ rest
value_bytes-plain rest plain =
    value_bytes-run rest (All-weaker (λ c. (number_sign ≤ c) × (c ≤ 0x7A)) (λ c. c ≢ null) (λ c p e. omega (arith, p.0, e)) rest plain)
    ∙ encodes-IsAscii rest (IsAscii-plain rest plain)

pub put_in_value : (before one two after more rest : List ℕ) (first : ℕ) → All (λ c. (number_sign ≤ c) × (c ≤ 0x7A)) rest
    → one ≡ before ++ value_bytes first → two ≡ one ++ flat_map value_bytes more → after ≡ two ++ rest
    → after ≡ before ++ (value_bytes first ++ flat_map value_bytes (more ++ rest))
put_in_value before one two after more rest first plain to_one to_two to_after =
    let values : flat_map value_bytes (more ++ rest) ≡ flat_map value_bytes more ++ rest = flat_map-append value_bytes more rest ∙ ap (λ l. flat_map value_bytes more ++ l) (value_bytes-plain rest plain) in
    to_after
    ∙ ap (λ l. l ++ rest) (to_two ∙ ap (λ l. l ++ flat_map value_bytes more) to_one)
    ∙ append_assoc (before ++ value_bytes first) (flat_map value_bytes more) rest
    ∙ append_assoc before (value_bytes first) (flat_map value_bytes more ++ rest)
    ∙ ap (λ l. before ++ (value_bytes first ++ l)) (sym values)

pub put_in_text : (one two after more rest : List ℕ) (first : ℕ) → IsAscii rest → IsUtf8 after
    → one ≡ encode_utf8 first → two ≡ one ++ encode_utf8_all more → after ≡ two ++ rest
    → chars after ≡ first ∷ (more ++ rest)
put_in_text one two after more rest first ascii utf8 to_one to_two to_after =
    let texts : encode_utf8_all (more ++ rest) ≡ encode_utf8_all more ++ rest = encodes-append more rest ∙ ap (λ l. encode_utf8_all more ++ l) (encodes-IsAscii rest ascii) in
    sym (chars_from_encodes (first ∷ (more ++ rest)) after utf8 (sym (
    to_after
    ∙ ap (λ l. l ++ rest) (to_two ∙ ap (λ l. l ++ encode_utf8_all more) to_one)
    ∙ append_assoc (encode_utf8 first) (encode_utf8_all more) rest
    ∙ ap (λ l. encode_utf8 first ++ l) (sym texts))))
