-- Letters that are held, as characters and as bytes.
use Rattle.std.proofs.Common.{◌≡◌, ℕ, Bool, true, List, [], ◌∷◌, ◌++◌, refl, ap, sym, ◌∙◌}
use Rattle.std.specs.Prelude.{encode_utf8, codes, ◌&&◌, not, nat_eq, length, Result, Ok, Err, OnOk, if◌then◌else◌}
use Rattle.std.specs.Result.{is_ok}
use Rattle.std.specs.Char.{IsScalar}
use Rattle.std.specs.Str.{chars, IsUtf8}
use Rattle.std.specs.Str.{bytes_eq}
use Rattle.std.proofs.lemmas.Bool.{and_parts}
use Rattle.std.proofs.lemmas.List.{append-nil}
use Rattle.std.proofs.lemmas.Str.{chars-append, chars_past_char, chars-nil, chars_from_encodes, IsUtf8-encode}
use lib.Utf8.{encode}
use Rattle.html5reading.specs.Characters.{less_than, solidus}
use Rattle.html5reading.specs.RawText.{ends_name, ends_raw_text, lower}
use Rattle.html5reading.specs.Start.{OpenTag}
use Rattle.html5reading.specs.Tag.{in_tag_name}
use Rattle.html5reading.specs.Machine.{tag_name_step, tag_name_end_step}

pub chars-one : (c : ℕ) → IsScalar c → chars (encode_utf8 c) ≡ c ∷ []
chars-one c scalar =
    chars_past_char (encode_utf8 c) [] c (IsUtf8-encode c scalar) (sym (append-nil (encode_utf8 c))) ∙ ap (λ cs. c ∷ cs) chars-nil

-- a character more
pub chars-push : (bytes : List ℕ) (c : ℕ) → IsUtf8 bytes → IsScalar c → chars (bytes ++ encode_utf8 c) ≡ chars bytes ++ c ∷ []
chars-push bytes c utf8 scalar = chars-append bytes (encode_utf8 c) utf8 ∙ ap (λ l. chars bytes ++ l) (chars-one c scalar)

pub chars-pushed : {T E : Type 0} (r : Result T E) (bytes after : List ℕ) (c : ℕ) → IsUtf8 bytes → IsScalar c
    → after ≡ (if is_ok r then bytes ++ encode_utf8 c else bytes) → OnOk r (chars after ≡ chars bytes ++ c ∷ [])
chars-pushed (Ok x) bytes after c utf8 scalar is = ap chars is ∙ chars-push bytes c utf8 scalar
chars-pushed (Err x) bytes after c utf8 scalar is = tt

-- `</` and letters
pub chars-end_name : (letters : List ℕ) → chars (codes "</" ++ letters) ≡ less_than ∷ solidus ∷ chars letters
unfolding encode
chars-end_name letters =
    let utf8 : IsUtf8 (codes "</") = (less_than ∷ solidus ∷ [], (refl, refl)) in
    chars-append (codes "</") letters utf8
    ∙ ap (λ l. l ++ chars letters) (sym (chars_from_encodes (less_than ∷ solidus ∷ []) (codes "</") utf8 refl))

-- after letters that end raw text a name ends
pub ends_name-raw : (name letters : List ℕ) (c : ℕ) → ends_raw_text name letters c ≡ true → ends_name c ≡ true
unfolding ends_raw_text
ends_name-raw name letters c ends =
    let p = and_parts (not (nat_eq (length name) 0)) (ends_name c && bytes_eq (lower letters) name) ends in
    (and_parts (ends_name c) (bytes_eq (lower letters) name) p.1).0

-- where a name ends, a tag goes on after it
pub tag_name_step-ends : (exact : Bool) (tag : OpenTag) (c : ℕ) → ends_name c ≡ true → tag_name_step exact tag c ≡ tag_name_end_step tag c
unfolding tag_name_step tag_name_end_step in_tag_name ends_name
tag_name_step-ends exact tag c ends = rw ends refl
