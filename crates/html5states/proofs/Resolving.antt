-- What a reference comes to, by the cases that functions tell apart.
use Rattle.std.proofs.Common.{◌≡◌, ℕ, suc, ◌+◌, ◌%◌, ◌^◌, Bool, true, false, ◌&&◌, List, [], ◌∷◌, ◌++◌, drop, take, length, Ok, Option, None, Some, refl, sym, ap, ◌∙◌}
use Rattle.std.specs.Prelude.{min, codes, if◌then◌else◌}
use Rattle.std.specs.List.{slice_range}
use Rattle.std.proofs.lemmas.List.{length-take-le}
use Rattle.html5ever_interface.specs.Sink.{Means}
use Rattle.html5ever_interface.specs.Token.{Told}
use Rattle.html5ever_interface.specs.Token.Told.{Error}
use Rattle.html5reading.specs.Characters.{ampersand}
use Rattle.html5reading.specs.ErrorText.{where_true}
use Rattle.html5reading.specs.Reference as grammar
use Rattle.html5reading.specs.Reference.{number_reference, named_reference, no_name, no_reference, error, has_digits, number_value, without_digits, semicolon_len, unended_number, is_invalid_number, invalid_number, character_of_number, longest_name, is_ended, goes_on, first_or, second_of}
use Rattle.html5partial.specs.CharRef.{IsFound, IsNamed, more_of}
use Rattle.html5states.specs.Telling.{Emits}
use Rattle.html5states.specs.declared.teller.Teller.{Teller}
use Rattle.html5partial.specs.declared.char_ref.Found.{Found}
use Rattle.html5partial.specs.declared.char_ref.Named.{Named}
use Rattle.markup5ever.specs.NamedReferences.{NamedReference}
use Rattle.html5partial.proofs.LongestName.{upto}
use Rattle.html5partial.proofs.Numbers.{character-limited, is_invalid-limited, invalid-last_bits}

-- ---- numbers

pub number-none : (exact : Bool) (number : List ℕ) (next : Option ℕ) → has_digits number ≡ false → number_reference exact number next ≡ no_reference (error (without_digits number next))
unfolding number_reference
number-none exact number next none = rw none refl

pub number-some : (exact : Bool) (number : List ℕ) (next : Option ℕ) → has_digits number ≡ true → number_reference exact number next ≡ record {
  taken = suc (length number) + semicolon_len next;
  errors = unended_number next ++ where_true (is_invalid_number (number_value number)) (Error (invalid_number exact (number_value number)));
  first = character_of_number (number_value number);
  more = [];
}
unfolding number_reference
number-some exact number next some = rw some refl

-- the errors as they are sent of a value that is cut
pub number-errors : (exact : Bool) (number : List ℕ) (next : Option ℕ) (value low_bits : ℕ) (is_invalid : Bool) → has_digits number ≡ true
    → value ≡ min (number_value number) 0x11_0000 → low_bits ≡ number_value number % 2 ^ 32 → is_invalid ≡ is_invalid_number value
    → (number_reference exact number next).errors ≡ unended_number next ++ where_true is_invalid (Error (invalid_number exact low_bits))
number-errors exact number next value low_bits is_invalid some cut last invalid =
    ap (λ (found : grammar.Found). found.errors) (number-some exact number next some)
    ∙ rw (invalid, cut, is_invalid-limited (number_value number), last, invalid-last_bits exact (number_value number)) refl

pub number-found : (exact : Bool) (number : List ℕ) (next : Option ℕ) (found : Found) (value : ℕ) → has_digits number ≡ true
    → value ≡ min (number_value number) 0x11_0000 → found.taken ≡ suc (length number) + semicolon_len next → found.first ≡ character_of_number value → found.second ≡ None
    → IsFound found (number_reference exact number next)
number-found exact number next found value some cut taken first second =
    rw (number-some exact number next some) (record {
      taken = taken;
      first = first ∙ ap character_of_number cut ∙ character-limited (number_value number);
      more = ap more_of second;
    })

-- the error without exact errors
pub inexact_number : (is_invalid exact : Bool) (number : ℕ) → is_invalid ≡ true → exact ≡ false → where_true is_invalid (Error (invalid_number exact number)) ≡ Error (codes "Invalid numeric character reference") ∷ []
unfolding invalid_number
inexact_number is_invalid exact number invalid inexact = rw (invalid, inexact) refl

-- ---- names

second_is : (second : Option ℕ) → more_of second ≡ second_of second
second_is None = refl
second_is (Some c) = refl

pub name-none : (exact in_value : Bool) (held : List ℕ) (next : Option ℕ) (entry : Option NamedReference) → IsNamed held None entry → named_reference exact in_value held next entry ≡ no_name exact held next
unfolding named_reference
name-none exact in_value held next None named = refl
name-none exact in_value held next (Some entry) named = absurd named

-- what the name with which the text begins comes to
abbrev pub resolved : Bool → List ℕ → Option ℕ → Named → grammar.Found
resolved in_value held next named =
    if is_ended (take named.len held) then record { taken = named.len; errors = []; first = named.first; more = more_of named.second }
    else if in_value && goes_on (first_or (drop named.len held) next) then no_reference []
    else record { taken = named.len; errors = error (codes "Character reference does not end with semicolon"); first = named.first; more = more_of named.second }

pub name-some : (exact in_value : Bool) (held : List ℕ) (next : Option ℕ) (named : Named) (entry : Option NamedReference) → IsNamed held (Some named) entry → named_reference exact in_value held next entry ≡ resolved in_value held next named
unfolding named_reference
name-some exact in_value held next named None is = absurd is
name-some exact in_value held next named (Some entry) is =
    let name : entry.name ≡ take named.len held = is.1 in
    let long : length (take named.len held) ≡ named.len = length-take-le named.len held is.0 in
    let second : more_of named.second ≡ second_of entry.second = second_is named.second ∙ ap second_of is.3 in
    rw (name, long, ← second, ← is.2) refl

pub found_nothing : (exact : Bool) (held : List ℕ) (next : Option ℕ) → IsFound (record { taken = 0; first = ampersand; second = None }) (no_name exact held next)
unfolding no_name
found_nothing exact [] next = record { taken = refl; first = refl; more = refl }
found_nothing exact (c ∷ held) None = record { taken = refl; first = refl; more = refl }
found_nothing exact (c ∷ held) (Some d) = record { taken = refl; first = refl; more = refl }

-- a name without a semicolon, which isn't text
pub unended-is : (in_value : Bool) (held : List ℕ) (next : Option ℕ) (named : Named) → is_ended (take named.len held) ≡ false → (in_value && goes_on (first_or (drop named.len held) next)) ≡ false
    → resolved in_value held next named ≡ record { taken = named.len; errors = error (codes "Character reference does not end with semicolon"); first = named.first; more = more_of named.second }
unended-is in_value held next named ended goes = rw (ended, goes) refl

-- as functions find them
pub unended-cut : (held name : List ℕ) (len : ℕ) (ends : Bool) → name ≡ slice_range held 0 len → ends ≡ is_ended name → ends ≡ false → is_ended (take len held) ≡ false
unended-cut held name len ends cut is none =
    let same : name ≡ take len held = cut ∙ upto held len in
    let ended : is_ended name ≡ false = sym is ∙ none in
    rw same at ended

pub goes_on-cut : (in_value goes : Bool) (text rest : List ℕ) (next : Option ℕ) → in_value ≡ true → rest ≡ text → goes ≡ goes_on (first_or rest next) → goes ≡ false
    → (in_value && goes_on (first_or text next)) ≡ false
goes_on-cut in_value goes text rest next inside cut is none =
    let here : goes_on (first_or rest next) ≡ false = sym is ∙ none in
    rw inside (rw cut at here)

-- a call that sent what is due has its own answer
module _ {Q S H Z : Type 0} {means : Means Q S H} {count : Q → ℕ} where
  pub emits_ok : {T U : Type 0} {x : U} {y : T} {before after : Teller Q Z} {A all : List Told} → Emits means count {T = U} (Ok x) before after A → all ≡ A
      → Emits means count {T = T} (Ok y) before after all
  emits_ok told same = record { tells = rw same told.tells; refusal = tt; faults = told.faults; kept = told.kept }
