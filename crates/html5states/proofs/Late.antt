-- What a reference tells, late as it is, is its errors and then its characters with what was held after them.
use Rattle.std.proofs.Common.{◌≡◌, ℕ, suc, ◌≤◌, Bool, true, false, ◌&&◌, List, [], ◌∷◌, ◌++◌, drop, length, Option, None, Some, refl, sym, ap, ◌∙◌, arith, subst, ◌-◌, map, append_assoc}
use Rattle.std.specs.Prelude.{◌≢◌, ◌==◌, nat_lt, encode_utf8}
use Rattle.std.proofs.lemmas.Bool.{ne_eqb}
use Rattle.std.proofs.lemmas.Bool.Decides.{nat_tests}
use Rattle.std.proofs.lemmas.List.{map-append}
use Rattle.html5ever_interface.specs.Token.{Told}
use Rattle.html5ever_interface.specs.Token.Told.{Text}
use Rattle.html5reading.specs.Characters.{number_sign, semicolon}
use Rattle.html5reading.specs.Reference as grammar
use Rattle.html5reading.specs.Reference.{first_or, has_digits, number_reference, named_reference, longest_name, text_in, told_of, characters_in, held_text, late_tokens, opened_in, opened_after, ends_number, in_value}
use Rattle.html5reading.specs.Slice.{Late, tokens_of_late}
use Rattle.html5reading.specs.Start.{Stand}
use Rattle.html5reading.specs.Start.Stand.{InText, InAttribute}
use Rattle.html5partial.specs.CharRef.{IsFound, decided, found_at, more_of}
use Rattle.html5partial.specs.declared.char_ref.Found.{Found}
use Rattle.html5reading.proofs.TableNames.{longest-nil}
use Rattle.html5states.proofs.Resolving.{number-none, number-some}
use Rattle.markup5ever.specs.NamedReferences.{NamedReference, IsTable}

-- ---- the two kinds of references

pub decided-number : (exact : Bool) (references : List NamedReference) (in_value : Bool) (held number : List ℕ) (next : Option ℕ) → held ≡ number_sign ∷ number
    → decided exact references in_value held next ≡ number_reference exact number next
unfolding grammar.reference
decided-number exact references in_value held number next is = rw is refl

pub decided-name : (exact : Bool) (references : List NamedReference) (in_value : Bool) (held : List ℕ) (next : Option ℕ) → IsTable references → first_or held None ≢ Some number_sign
    → decided exact references in_value held next ≡ named_reference exact in_value held next (longest_name references held)
unfolding grammar.reference grammar.named_reference grammar.no_name
decided-name exact references in_value [] next table other = rw (longest-nil references table.plain) refl
decided-name exact references in_value (c ∷ held) next table other =
    let letter : c ≢ number_sign = λ e. other (ap Some e) in
    rw (ne_eqb c number_sign letter) refl

-- the character after a number is its semicolon where the number takes one more than is held
pub ends-number : (exact : Bool) (held number : List ℕ) (c : ℕ) (found : Found) → held ≡ number_sign ∷ number → IsFound found (number_reference exact number (Some c)) → nat_lt (length held) found.taken ≡ ends_number held c
unfolding ends_number
ends-number exact held number c found is ok =
    rw (is, ok.taken) (
    elim (has_digits number) as (λ b. has_digits number ≡ b → nat_lt (suc (length number)) (number_reference exact number (Some c)).taken ≡ (b && (c == semicolon))) [
      | true ↦ λ some. rw (number-some exact number (Some c) some) (grind (arith, nat_tests))
      | false ↦ λ none. rw (number-none exact number (Some c) none) (grind (arith, nat_tests))
    ] refl)

pub ends-name : (held : List ℕ) (c taken : ℕ) → first_or held None ≢ Some number_sign → taken ≤ length held → nat_lt (length held) taken ≡ ends_number held c
unfolding ends_number
ends-name [] c taken other within = grind (arith, nat_tests)
ends-name (d ∷ held) c taken other within =
    let letter : d ≢ number_sign = λ e. other (ap Some e) in
    rw (ne_eqb d number_sign letter) (grind (arith, nat_tests))

-- ---- what is sent

told_late : (told : List Told) (back : ℕ) (is_at is_held : Bool) → tokens_of_late (map (λ (token : Told). record { token = token; back = back; is_at = is_at; is_held = is_held }) told) ≡ told
told_late [] back is_at is_held = refl
told_late (token ∷ told) back is_at is_held = ap (λ l. token ∷ l) (told_late told back is_at is_held)

told_held : (stand : Stand) (rest : List ℕ) → tokens_of_late (held_text stand rest) ≡ text_in stand rest
unfolding held_text
told_held (InText mode) [] = refl
told_held (InAttribute kind tag) [] = refl
told_held (InText mode) (c ∷ rest) = ap (λ l. Text (encode_utf8 c) ∷ l) (told_held (InText mode) rest)
told_held (InAttribute kind tag) (c ∷ rest) = told_held (InAttribute kind tag) rest

text_in-append : (stand : Stand) (xs ys : List ℕ) → text_in stand (xs ++ ys) ≡ text_in stand xs ++ text_in stand ys
text_in-append (InText mode) xs ys = map-append (λ (c : ℕ). Text (encode_utf8 c)) xs ys
text_in-append (InAttribute kind tag) xs ys = refl

late-told : (stand : Stand) (found : grammar.Found) (held : List ℕ) → tokens_of_late (late_tokens stand found held) ≡ found.errors ++ text_in stand (characters_in found ++ drop found.taken held)
late-told stand found held =
    let rest = drop found.taken held in
    let back : ℕ = suc (length held) - found.taken in
    map-append (λ (l : Late). l.token) (map (λ (token : Told). record { token = token; back = back; is_at = false; is_held = false }) (told_of stand found)) (held_text stand rest)
    ∙ ap (λ told. told ++ tokens_of_late (held_text stand rest)) (told_late (told_of stand found) back false false)
    ∙ ap (λ told. told_of stand found ++ told) (told_held stand rest)
    ∙ append_assoc found.errors (text_in stand (characters_in found)) (text_in stand rest)
    ∙ ap (λ told. found.errors ++ told) (sym (text_in-append stand (characters_in found) rest))

-- of a reference, in a value or not, the errors come first
pub late-decided : (exact : Bool) (references : List NamedReference) (is_in : Bool) (stand : Stand) (held : List ℕ) (next : Option ℕ) → is_in ≡ in_value stand
    → tokens_of_late (late_tokens stand (found_at exact references stand held next) held)
    ≡ (decided exact references is_in held next).errors ++ text_in stand (characters_in (found_at exact references stand held next) ++ drop (found_at exact references stand held next).taken held)
late-decided exact references is_in stand held next inside =
    rw inside (late-told stand (found_at exact references stand held next) held)

-- a function finds what the grammar finds, and puts the rest after it
pub told-found : (exact : Bool) (references : List NamedReference) (is_in : Bool) (stand : Stand) (held text rest : List ℕ) (next : Option ℕ) (found : Found) → is_in ≡ in_value stand
    → IsFound found (decided exact references is_in held next) → text ≡ held → rest ≡ drop found.taken text
    → tokens_of_late (late_tokens stand (found_at exact references stand held next) held) ≡ (decided exact references is_in held next).errors ++ text_in stand (found.first ∷ (more_of found.second ++ rest))
told-found exact references is_in stand held text rest next found inside ok same is =
    let here : IsFound found (found_at exact references stand held next) = subst (λ b. IsFound found (decided exact references b held next)) inside ok in
    late-decided exact references is_in stand held next inside ∙ rw (is, same, here.taken, here.first, here.more) refl

pub leads-found : (exact : Bool) (references : List NamedReference) (is_in : Bool) (stand : Stand) (held text rest : List ℕ) (next : Option ℕ) (found : Found) → is_in ≡ in_value stand
    → IsFound found (decided exact references is_in held next) → text ≡ held → rest ≡ drop found.taken text
    → opened_in stand (found.first ∷ (more_of found.second ++ rest)) ≡ opened_after stand (found_at exact references stand held next) held
leads-found exact references is_in stand held text rest next found inside ok same is =
    let here : IsFound found (found_at exact references stand held next) = subst (λ b. IsFound found (decided exact references b held next)) inside ok in
    rw (is, same, here.taken, here.first, here.more) refl
