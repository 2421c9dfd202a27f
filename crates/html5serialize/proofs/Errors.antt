-- Tokens that are errors alone, and what messages tell except for errors.
use Rattle.std.proofs.Common.{◌≡◌, ℕ, suc, ◌+◌, Bool, true, false, List, length, drop, [], ◌∷◌, ◌++◌, Option, None, Some, refl, ap, ◌∙◌}
use Rattle.std.specs.Prelude.{◌==◌, ◌&&◌, codes, flat_map, if◌then◌else◌}
use Rattle.std.proofs.lemmas.List.Concat.{flat_map-append}
use Rattle.html5ever_interface.specs.Sink.{Message, on_line}
use Rattle.html5ever_interface.specs.Token.{Told}
use Rattle.html5ever_interface.specs.Token.Told.{Error}
use Rattle.html5ever_interface.specs.declared.states.State.{State}
use Rattle.html5grammar.specs.Spelled.{Spelled, spell, spell_silent, spelled_messages}
use Rattle.html5reading.specs.Characters.{number_sign, null}
use Rattle.html5reading.specs.ErrorText.{where_true, bad_character_error}
use Rattle.html5reading.specs.NormalisedText.{line_after}
use Rattle.html5reading.specs.Reference.{reference, number_reference, named_reference, no_name, no_reference, unended_number, has_digits, is_ended, goes_on, first_or, second_of, longest_name, number_value, is_invalid_number, invalid_number, character_of_number, semicolon_len, without_digits, error}
use Rattle.html5reading.specs.Start.{Input, Rules}
use Rattle.html5reading.specs.Tag.{null_error}
use Rattle.html5write.specs.Told.{proper_token, proper}
use Rattle.markup5ever.specs.NamedReferences.{NamedReference}

-- ---- tokens

abbrev pub proper_tokens : List Told → List Told
proper_tokens tokens = flat_map proper_token tokens

abbrev pub AreErrors : List Told → Type 0
AreErrors tokens = proper_tokens tokens ≡ []

pub proper_tokens-append : (xs ys : List Told) → proper_tokens (xs ++ ys) ≡ proper_tokens xs ++ proper_tokens ys
proper_tokens-append xs ys = flat_map-append proper_token xs ys

pub errors-append : (xs ys : List Told) → AreErrors xs → AreErrors ys → AreErrors (xs ++ ys)
errors-append xs ys f g = proper_tokens-append xs ys ∙ rw (f, g) refl

-- errors in front of tokens
pub errors-before : (xs ys : List Told) → AreErrors xs → proper_tokens (xs ++ ys) ≡ proper_tokens ys
errors-before xs ys f = proper_tokens-append xs ys ∙ ap (λ l. l ++ proper_tokens ys) f

pub errors-where : (holds : Bool) (message : List ℕ) → AreErrors (where_true holds (Error message))
errors-where true message = refl
errors-where false message = refl

pub errors-null : (exact : Bool) (state : State) (c : ℕ) → AreErrors (null_error exact state c)
errors-null exact state c = errors-where (c == null) _

-- ---- characters

-- characters at which only errors are sent
abbrev pub TellErrors : List Spelled → Type 0
TellErrors [] = Unit {0}
TellErrors (here ∷ more) = AreErrors here.told × TellErrors more

pub tell-append : (xs ys : List Spelled) → TellErrors xs → TellErrors ys → TellErrors (xs ++ ys)
tell-append [] ys f g = g
tell-append (x ∷ xs) ys f g = (f.0, tell-append xs ys f.1 g)

pub tell-spell : (tells : ℕ → List Told) → ((c : ℕ) → AreErrors (tells c)) → (run : List ℕ) → TellErrors (spell tells run)
tell-spell tells h [] = tt
tell-spell tells h (c ∷ run) = (h c, tell-spell tells h run)

pub tell-silent : (run : List ℕ) → TellErrors (spell_silent run)
tell-silent run = tell-spell (λ c. []) (λ c. refl) run

-- ---- messages

pub proper-append : (M N : List Message) → proper (M ++ N) ≡ proper M ++ proper N
unfolding proper
proper-append M N = flat_map-append (λ m. proper_token m.token) M N

pub proper-on_line : (line : ℕ) (tokens : List Told) → proper (on_line line tokens) ≡ proper_tokens tokens
unfolding proper
proper-on_line line [] = refl
proper-on_line line (token ∷ tokens) = ap (λ l. proper_token token ++ l) (proper-on_line line tokens)

-- what characters tell except for errors
abbrev pub proper_cells : List Spelled → List Told
proper_cells cells = flat_map (λ (here : Spelled). proper_tokens here.told) cells

pub cells-append : (xs ys : List Spelled) → proper_cells (xs ++ ys) ≡ proper_cells xs ++ proper_cells ys
cells-append xs ys = flat_map-append (λ (here : Spelled). proper_tokens here.told) xs ys

pub cells-errors : (cells : List Spelled) → TellErrors cells → proper_cells cells ≡ []
cells-errors [] h = refl
cells-errors (here ∷ more) h = ap (λ l. l ++ proper_cells more) h.0 ∙ cells-errors more h.1

-- errors in front of others
pub cells-before : (xs ys : List Spelled) → TellErrors xs → proper_cells (xs ++ ys) ≡ proper_cells ys
cells-before xs ys f = cells-append xs ys ∙ ap (λ l. l ++ proper_cells ys) (cells-errors xs f)

-- that is what their messages tell
pub proper-spelled : (exact : Bool) (input : Input) (before : List ℕ) (cells : List Spelled) → proper (spelled_messages exact input before cells) ≡ proper_cells cells
unfolding spelled_messages proper
proper-spelled exact input before [] = refl
proper-spelled exact input before (here ∷ more) =
    let tokens : List Told = bad_character_error exact here.character ++ here.told in
    let line : ℕ = line_after input (before ++ here.character ∷ []) in
    let later : List Message = spelled_messages exact input (before ++ here.character ∷ []) more in
    proper-append (on_line line tokens) later
    ∙ ap (λ l. l ++ proper later) (proper-on_line line tokens ∙ errors-before (bad_character_error exact here.character) here.told (errors-where _ _))
    ∙ ap (λ l. proper_tokens here.told ++ l) (proper-spelled exact input (before ++ here.character ∷ []) more)

-- ---- the errors of references

errors-unended : (next : Option ℕ) → AreErrors (unended_number next)
unfolding unended_number
errors-unended None = refl
errors-unended (Some c) = errors-where _ _

errors-number : (exact : Bool) (text : List ℕ) (next : Option ℕ) → AreErrors (number_reference exact text next).errors
unfolding number_reference
errors-number exact text next =
    elim (has_digits text) as (λ b. AreErrors (if b then record {
      taken = suc (length text) + semicolon_len next;
      errors = unended_number next ++ where_true (is_invalid_number (number_value text)) (Error (invalid_number exact (number_value text)));
      first = character_of_number (number_value text);
      more = [];
    } else no_reference (error (without_digits text next))).errors) [
      | true ↦ errors-append (unended_number next) _ (errors-unended next) (errors-where _ _)
      | false ↦ refl
    ]

errors-no_name : (exact : Bool) (held : List ℕ) (next : Option ℕ) → AreErrors (no_name exact held next).errors
unfolding no_name
errors-no_name exact [] next = refl
errors-no_name exact (c ∷ held) None = refl
errors-no_name exact (c ∷ held) (Some d) = errors-where _ _

errors-named : (exact v : Bool) (held : List ℕ) (next : Option ℕ) (o : Option NamedReference) → AreErrors (named_reference exact v held next o).errors
unfolding named_reference
errors-named exact v held next None = errors-no_name exact held next
errors-named exact v held next (Some entry) =
    let n : ℕ = length entry.name in
    elim (is_ended entry.name) as (λ a. AreErrors (if a then record { taken = n; errors = []; first = entry.first; more = second_of entry.second }
    else if v && goes_on (first_or (drop n held) next) then no_reference []
    else record { taken = n; errors = error (codes "Character reference does not end with semicolon"); first = entry.first; more = second_of entry.second }).errors) [
      | true ↦ refl
      | false ↦ elim (v && goes_on (first_or (drop n held) next)) as (λ a. AreErrors (if a then no_reference []
          else record { taken = n; errors = error (codes "Character reference does not end with semicolon"); first = entry.first; more = second_of entry.second }).errors) [
            | true ↦ refl
            | false ↦ refl
          ]
    ]

pub errors-reference : (rules : Rules) (v : Bool) (held : List ℕ) (next : Option ℕ) → AreErrors (reference rules v held next).errors
unfolding reference
errors-reference rules v [] next = refl
errors-reference rules v (c ∷ held) next =
    elim (c == number_sign) as (λ b. AreErrors (if b then number_reference rules.exact held next
    else named_reference rules.exact v (c ∷ held) next (longest_name rules.references (c ∷ held))).errors) [
      | true ↦ errors-number rules.exact held next
      | false ↦ errors-named rules.exact v (c ∷ held) next (longest_name rules.references (c ∷ held))
    ]
