-- Names and texts by their first characters, in bytes.
use Rattle.std.proofs.Common.{◌≡◌, ℕ, Some, true, false, List, [], ◌++◌, refl, ap, ◌∙◌}
use Rattle.std.specs.Prelude.{◌==◌, ◌&&◌, not, encode_utf8}
use Rattle.std.specs.List.{list_all}
use Rattle.std.specs.Str.{IsUtf8, chars}
use Rattle.std.proofs.lemmas.Bool.{eq-eqb}
use Rattle.std.proofs.lemmas.Str.{chars_past_char, chars-nil}
use Rattle.html5reading.specs.Characters.{null, greater_than, hyphen, is_between}
use Rattle.html5write.specs.Pieces.{is_tag_name, is_name_character, is_attribute_name, is_attribute_character, can_begin_comment}
use Rattle.html5write.specs.Refusals.{null_from}

pub tag_name-first : (name rest : List ℕ) (c : ℕ) → IsUtf8 name → name ≡ encode_utf8 c ++ rest
    → is_tag_name (chars name) ≡ is_between 0x0061 0x007A c && list_all is_name_character (chars rest)
unfolding is_tag_name
tag_name-first name rest c utf8 first = rw (chars_past_char name rest c utf8 first) refl

pub tag_name-none : (name : List ℕ) → name ≡ [] → is_tag_name (chars name) ≡ false
unfolding is_tag_name
tag_name-none name none = ap is_tag_name (ap chars none ∙ chars-nil)

pub attribute_name-first : (name rest : List ℕ) (c : ℕ) → IsUtf8 name → name ≡ encode_utf8 c ++ rest
    → is_attribute_name (chars name) ≡ is_attribute_character c && list_all is_attribute_character (chars rest)
unfolding is_attribute_name
attribute_name-first name rest c utf8 first = rw (chars_past_char name rest c utf8 first) refl

pub attribute_name-none : (name : List ℕ) → name ≡ [] → is_attribute_name (chars name) ≡ false
unfolding is_attribute_name
attribute_name-none name none = ap is_attribute_name (ap chars none ∙ chars-nil)

pub comment-first : (text rest : List ℕ) (c : ℕ) → IsUtf8 text → text ≡ encode_utf8 c ++ rest
    → can_begin_comment (chars text) ≡ not (c == greater_than) && not (c == hyphen)
unfolding can_begin_comment
comment-first text rest c utf8 first = rw (chars_past_char text rest c utf8 first) refl

pub comment-none : (text : List ℕ) → text ≡ [] → can_begin_comment (chars text) ≡ true
unfolding can_begin_comment
comment-none text none = ap can_begin_comment (ap chars none ∙ chars-nil)

-- ---- where a NUL stands

pub null-here : (at : ℕ) (text rest : List ℕ) (c : ℕ) → IsUtf8 text → text ≡ encode_utf8 c ++ rest → c ≡ null → null_from at (chars text) ≡ Some at
unfolding null_from
null-here at text rest c utf8 first is = rw (chars_past_char text rest c utf8 first, eq-eqb c null is) refl
