-- Lists of tokens whose errors are of the three forms, and references.
use Rattle.std.proofs.Common.{◌≡◌, inl, inr, ℕ, Bool, true, false, not, ◌&&◌, List, [], ◌∷◌, ◌++◌, refl, map, drop, length, Option, None, Some}
use Rattle.std.specs.Prelude.{◌==◌, if◌then◌else◌}
use Rattle.html5ever_interface.specs.Message.{fixed_text}
use Rattle.html5ever_interface.specs.States.{state_name}
use Rattle.html5ever_interface.specs.Token.{Told}
use Rattle.html5ever_interface.specs.Token.Told.{Error}
use Rattle.html5ever_interface.specs.declared.interface.message.FixedMessage.{FixedMessage}
use Rattle.html5ever_interface.specs.declared.interface.message.FixedMessage.TheVariants as fixed
use Rattle.html5ever_interface.specs.declared.states.State.{State}
use Rattle.html5reading.specs.Characters.{number_sign, semicolon}
use Rattle.html5reading.specs.ErrorText.{error_in, saw, saw_end, where_true}
use Rattle.html5reading.specs.RawText.{texts}
use Rattle.html5reading.specs.Reference.{Found, characters_in, first_or, goes_on, has_digits, held_text, in_value, invalid_number, is_ended, is_invalid_number, late_tokens, longest_name, named_reference, no_name, number_reference, number_value, reference, text_in, told_of, unended_number, unknown_name, without_digits}
use Rattle.html5reading.specs.Slice.{Late, tokens_of_late}
use Rattle.html5reading.specs.Start.{Stand, Rules}
use Rattle.html5reading.specs.Start.Stand.{InText, InAttribute}
use Rattle.markup5ever.specs.NamedReferences.{NamedReference}
use Rattle.html5errors.specs.Forms.{HasForm, IsFormed}

unfoldable pub AllFormed : Bool → List Told → Type 0
AllFormed exact [] = Unit {0}
AllFormed exact (t ∷ ts) = IsFormed exact t × AllFormed exact ts

pub saw-form : (exact : Bool) (S : State) (c : ℕ) → HasForm exact (saw exact c (state_name S))
saw-form exact S c = inl (S, c, refl)

pub end-form : (exact : Bool) (S : State) → HasForm exact (saw_end exact (state_name S))
end-form exact S = inr (inl (S, refl))

pub fixed-form : (exact : Bool) (m : FixedMessage) (message : List ℕ) → message ≡ fixed_text m → HasForm exact message
fixed-form exact m message is = inr (inr (m, is))

pub formed-nil : (exact : Bool) → AllFormed exact []
unfolding AllFormed
formed-nil exact = tt

pub formed-one : (exact : Bool) (t : Told) → IsFormed exact t → AllFormed exact (t ∷ [])
unfolding AllFormed
formed-one exact t f = (f, tt)

pub formed-append : (exact : Bool) (ts us : List Told) → AllFormed exact ts → AllFormed exact us → AllFormed exact (ts ++ us)
unfolding AllFormed
formed-append exact [] us f g = g
formed-append exact (t ∷ ts) us f g = (f.0, formed-append exact ts us f.1 g)

where-formed : (exact holds : Bool) (error : Told) → IsFormed exact error → AllFormed exact (where_true holds error)
unfolding AllFormed
where-formed exact true error f = (f, tt)
where-formed exact false error f = tt

pub formed-where : (exact holds : Bool) (S : State) (c : ℕ) → AllFormed exact (where_true holds (error_in exact S c))
formed-where exact holds S c = where-formed exact holds (error_in exact S c) (saw-form exact S c)

pub formed-error : (exact : Bool) (S : State) (c : ℕ) → AllFormed exact (error_in exact S c ∷ [])
formed-error exact S c = formed-one exact (error_in exact S c) (saw-form exact S c)

pub formed-where_fixed : (exact holds : Bool) (m : FixedMessage) (message : List ℕ) → message ≡ fixed_text m → AllFormed exact (where_true holds (Error message))
formed-where_fixed exact holds m message is = where-formed exact holds (Error message) (fixed-form exact m message is)

pub formed-texts : (exact : Bool) (characters : List ℕ) → AllFormed exact (texts characters)
unfolding AllFormed
formed-texts exact [] = tt
formed-texts exact (c ∷ characters) = (tt, formed-texts exact characters)

-- ---- what a reference comes to

module _ (exact : Bool) (plain : exact ≡ false) where
  found-if : (test : Bool) (p q : Found) → AllFormed exact p.errors → AllFormed exact q.errors → AllFormed exact (if test then p else q).errors
  found-if true p q f g = f
  found-if false p q f g = g

  invalid-plain : (v : ℕ) → invalid_number exact v ≡ fixed_text fixed.InvalidNumber
  unfolding invalid_number
  invalid-plain v = rw plain refl

  unknown-plain : (held : List ℕ) → unknown_name exact held ≡ fixed_text fixed.InvalidReference
  unfolding unknown_name
  unknown-plain held = rw plain refl

  formed-unended : (next : Option ℕ) → AllFormed exact (unended_number next)
  unfolding unended_number
  formed-unended None = formed-one exact _ (fixed-form exact fixed.EofInNumber _ refl)
  formed-unended (Some c) = formed-where_fixed exact (not (c == semicolon)) fixed.MissingSemicolonAfterNumber _ refl

  formed-without_digits : (text : List ℕ) (next : Option ℕ) → HasForm exact (without_digits text next)
  unfolding without_digits
  formed-without_digits [] None = fixed-form exact fixed.EofAfterNumberSign _ refl
  formed-without_digits text next = fixed-form exact fixed.NumberWithoutDigits _ refl

  found-number : (text : List ℕ) (next : Option ℕ) → AllFormed exact (number_reference exact text next).errors
  unfolding number_reference
  found-number text next =
      found-if (has_digits text) _ _
      (formed-append exact (unended_number next) _ (formed-unended next)
      (formed-where_fixed exact (is_invalid_number (number_value text)) fixed.InvalidNumber _ (invalid-plain (number_value text))))
      (formed-one exact (Error (without_digits text next)) (formed-without_digits text next))

  found-no_name : (held : List ℕ) (next : Option ℕ) → AllFormed exact (no_name exact held next).errors
  unfolding no_name
  found-no_name [] next = formed-nil exact
  found-no_name (c ∷ held) None = formed-nil exact
  found-no_name (c ∷ held) (Some d) = formed-where_fixed exact (d == semicolon) fixed.InvalidReference _ (unknown-plain (c ∷ held))

  found-named : (in_value : Bool) (held : List ℕ) (next : Option ℕ) (entry : Option NamedReference)
      → AllFormed exact (named_reference exact in_value held next entry).errors
  unfolding named_reference
  found-named in_value held next None = found-no_name held next
  found-named in_value held next (Some entry) =
      found-if (is_ended entry.name) _ _ (formed-nil exact)
      (found-if (in_value && goes_on (first_or (drop (length entry.name) held) next)) _ _ (formed-nil exact)
      (formed-one exact _ (fixed-form exact fixed.MissingSemicolon _ refl)))

module _ (rules : Rules) (plain : rules.exact ≡ false) where
  found-formed : (in_value : Bool) (held : List ℕ) (next : Option ℕ) → AllFormed rules.exact (reference rules in_value held next).errors
  unfolding reference
  found-formed in_value [] next = formed-nil rules.exact
  found-formed in_value (c ∷ held) next =
      found-if rules.exact plain (c == number_sign) _ _ (found-number rules.exact plain held next)
      (found-named rules.exact plain in_value (c ∷ held) next (longest_name rules.references (c ∷ held)))

  -- ---- what is sent of it

  formed-text_in : (stand : Stand) (characters : List ℕ) → AllFormed rules.exact (text_in stand characters)
  formed-text_in (InText mode) characters = formed-texts rules.exact characters
  formed-text_in (InAttribute kind tag) characters = formed-nil rules.exact

  late-append : (l m : List Late) → AllFormed rules.exact (tokens_of_late l) → AllFormed rules.exact (tokens_of_late m) → AllFormed rules.exact (tokens_of_late (l ++ m))
  unfolding AllFormed
  late-append [] m f g = g
  late-append (x ∷ l) m f g = (f.0, late-append l m f.1 g)

  late-map : (back : ℕ) (is_at is_held : Bool) (tokens : List Told) → AllFormed rules.exact tokens
      → AllFormed rules.exact (tokens_of_late (map (λ token. record { token = token; back = back; is_at = is_at; is_held = is_held }) tokens))
  unfolding AllFormed
  late-map back is_at is_held [] f = tt
  late-map back is_at is_held (t ∷ tokens) f = (f.0, late-map back is_at is_held tokens f.1)

  formed-held_text : (stand : Stand) (held : List ℕ) → AllFormed rules.exact (tokens_of_late (held_text stand held))
  unfolding held_text
  formed-held_text stand [] = formed-nil rules.exact
  formed-held_text stand (c ∷ held) =
      late-append _ _ (late-map _ _ _ (text_in stand (c ∷ [])) (formed-text_in stand (c ∷ []))) (formed-held_text stand held)

  pub formed-late_tokens : (stand : Stand) (held : List ℕ) (next : Option ℕ)
      → AllFormed rules.exact (tokens_of_late (late_tokens stand (reference rules (in_value stand) held next) held))
  formed-late_tokens stand held next =
      let found : Found = reference rules (in_value stand) held next in
      late-append _ _
      (late-map _ _ _ (told_of stand found)
      (formed-append rules.exact found.errors _ (found-formed (in_value stand) held next) (formed-text_in stand (characters_in found))))
      (formed-held_text stand (drop found.taken held))
