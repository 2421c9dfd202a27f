-- Names, by their characters.
use Rattle.std.proofs.Common.{◌≡◌, ℕ, Bool, true, false, List, [], ◌∷◌, ◌++◌, chars, map, reverse, String, refl, ap, sym, ◌∙◌}
use Rattle.std.specs.Str.{IsUtf8, bytes_eq}
use Rattle.std.proofs.lemmas.Bool.{false≢true}
use Rattle.std.proofs.lemmas.List.{map_push, reverse-append}
use Rattle.std.proofs.lemmas.Str.{encodes-chars}
use Rattle.std.specs.Prelude.{encode_utf8_all}
use Rattle.markup5ever.proofs.NameOrder.{bytes_eq-itself, bytes_eq-same}
use Rattle.html5cleaner.specs.Open.{name_of, names_of}

by-tests : (a b : List ℕ) (bytes characters : Bool) → IsUtf8 a → IsUtf8 b → bytes_eq a b ≡ bytes → bytes_eq (chars a) (chars b) ≡ characters → bytes ≡ characters
by-tests a b true true u v p q = refl
by-tests a b false false u v p q = refl
by-tests a b true false u v p q = absurd (false≢true (sym q ∙ ap (λ x. bytes_eq (chars a) (chars x)) (sym (bytes_eq-same a b p)) ∙ bytes_eq-itself (chars a)))
by-tests a b false true u v p q =
    absurd (false≢true (sym p ∙ ap (bytes_eq a) (sym (encodes-chars b v) ∙ ap encode_utf8_all (sym (bytes_eq-same (chars a) (chars b) q)) ∙ encodes-chars a u) ∙ bytes_eq-itself a))

pub same-characters : (a b : List ℕ) → IsUtf8 a → IsUtf8 b → bytes_eq a b ≡ bytes_eq (chars a) (chars b)
same-characters a b u v = by-tests a b (bytes_eq a b) (bytes_eq (chars a) (chars b)) u v refl refl

-- the last name is that of the innermost element
pub names-push : {Z : Type 0} (names : List (String Z)) (name : String Z) → names_of (names ++ name ∷ []) ≡ name_of name ∷ names_of names
names-push names name = ap reverse (map_push name_of names name) ∙ reverse-append (map name_of names) (name_of name ∷ [])
