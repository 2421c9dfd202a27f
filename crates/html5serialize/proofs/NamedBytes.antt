-- The bytes of texts that are escaped, by number or by name, are the UTF-8 of what is written for them.
use Rattle.std.proofs.Common.{◌≡◌, ℕ, List, [], ◌∷◌, ◌++◌, Some, None, ap, sym, ◌∙◌}
use Rattle.std.specs.Prelude.{encode_utf8, encode_utf8_all}
use Rattle.std.specs.Option.{is_none}
use Rattle.std.proofs.lemmas.Bool.{true≢false}
use Rattle.std.proofs.lemmas.List.{append-nil}
use Rattle.std.proofs.lemmas.Str.{encodes-append}
use Rattle.html5serialize.specs.Escapes.{escaped_by, escaped_text_by, named, named_reference_of, reference_by, value_by, value_text_by}
use Rattle.html5serialize.specs.declared.escaping.Escapes.{Escapes}
use Rattle.html5serialize.specs.declared.escaping.Escapes.TheVariants.{Numbers, Names}
use Rattle.html5serialize.proofs.Named.{each_named}
use Rattle.html5write.specs.Escaped.{escaped, reference_of, reference_or}
use Rattle.html5write.proofs.Bytes.{bytes-reference, bytes-itself}

-- a reference has the bytes of what is written for its character
abbrev HasBytes : ℕ → Type 0
HasBytes c = (reference : List ℕ) → named_reference_of c ≡ Some reference → reference ≡ encode_utf8_all (named c)

other-bytes : (c : ℕ) → named_reference_of c ≡ reference_of c → HasBytes c
unfolding named escaped
other-bytes c same reference is = bytes-reference c reference (sym same ∙ is) ∙ ap (λ o. encode_utf8_all (reference_or o (c ∷ []))) (sym same)

named-bytes : (c : ℕ) → HasBytes c
unfolding named named_reference_of lib.Utf8.encode
named-bytes c =
    each_named HasBytes
    (λ r is. sym (ap (λ o. reference_or o []) is))
    (λ r is. sym (ap (λ o. reference_or o []) is))
    (λ r is. sym (ap (λ o. reference_or o []) is))
    (λ r is. sym (ap (λ o. reference_or o []) is))
    (λ r is. absurd (true≢false (ap is_none is)))
    other-bytes c

pub bytes-reference_by : (escapes : Escapes) (c : ℕ) (reference : List ℕ) → reference_by escapes c ≡ Some reference → reference ≡ encode_utf8_all (escaped_by escapes c)
bytes-reference_by Numbers c reference is = bytes-reference c reference is
bytes-reference_by Names c reference is = named-bytes c reference is

-- and a character that stands for itself has its own
pub bytes-itself_by : (escapes : Escapes) (c : ℕ) → reference_by escapes c ≡ None → encode_utf8 c ≡ encode_utf8_all (escaped_by escapes c)
unfolding named
bytes-itself_by Numbers c none = bytes-itself c none
bytes-itself_by Names c none = rw none (sym (append-nil (encode_utf8 c)))

-- a text from its first character on
pub bytes-escaped_by : (escapes : Escapes) (c : ℕ) (text : List ℕ) → encode_utf8_all (escaped_text_by escapes (c ∷ text)) ≡ encode_utf8_all (escaped_by escapes c) ++ encode_utf8_all (escaped_text_by escapes text)
bytes-escaped_by escapes c text = encodes-append (escaped_by escapes c) (escaped_text_by escapes text)

-- a value from its first character on
pub bytes-value_by : (escapes : Escapes) (c : ℕ) (value : List ℕ) → encode_utf8_all (value_text_by escapes (c ∷ value)) ≡ encode_utf8_all (value_by escapes c) ++ encode_utf8_all (value_text_by escapes value)
bytes-value_by escapes c value = encodes-append (value_by escapes c) (value_text_by escapes value)
