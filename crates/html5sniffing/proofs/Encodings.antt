-- Which bytes are UTF-8 except for a cut character.
use Rattle.std.proofs.Common.{◌≡◌, ℕ, Bool, true, false, List, length, drop, Option, refl, sym, ap, ◌∙◌}
use Rattle.std.specs.Prelude.{◌==◌, ◌&&◌, ◌||◌, is_none}
use Rattle.std.specs.Str.{IsUtf8, is_utf8}
use Rattle.std.specs.Str.Lossy.{utf8_error_len, utf8_valid_len}
use Rattle.std.proofs.lemmas.Str.{IsUtf8-from_is_utf8, is_utf8-from_IsUtf8}
use Rattle.html5sniffing.specs.PageEncoding.{is_utf8_front}

not_utf8 : (bytes : List ℕ) → (IsUtf8 bytes → ⊥) → (t : Bool) → is_utf8 bytes ≡ t → is_utf8 bytes ≡ false
not_utf8 bytes none true is = absurd (none (IsUtf8-from_is_utf8 bytes is))
not_utf8 bytes none false is = is

-- whether no more than a cut character follows the text at the front
abbrev ends_cut : List ℕ → Bool
ends_cut front = length front == 1024 && is_none (utf8_error_len (drop (utf8_valid_len front) front))

pub front-text : (front : List ℕ) → IsUtf8 front → true ≡ is_utf8_front front
unfolding is_utf8_front
front-text front text = sym (ap (λ b. b || ends_cut front) (is_utf8-from_IsUtf8 front text))

pub front-not_text : (front : List ℕ) (place : ℕ) (fault : Option ℕ) → (IsUtf8 front → ⊥) → place ≡ utf8_valid_len front → fault ≡ utf8_error_len (drop place front)
    → (length front == 1024 && is_none fault) ≡ is_utf8_front front
unfolding is_utf8_front
front-not_text front place fault none valid error =
    ap (λ e. length front == 1024 && is_none e) (error ∙ ap (λ n. utf8_error_len (drop n front)) valid)
    ∙ sym (ap (λ b. b || ends_cut front) (not_utf8 front none (is_utf8 front) refl))
