-- The characters that are spelled of a doctype are its text.
use Rattle.std.proofs.Common.{◌≡◌, ℕ, Bool, List, [], ◌∷◌, ◌++◌, refl, ap, sym, ◌∙◌}
use Rattle.std.proofs.lemmas.List.{append_assoc}
use Rattle.html5ever_interface.specs.Token.{DoctypeOf}
use Rattle.html5ever_interface.specs.declared.states.DoctypeIdKind.{DoctypeIdKind}
use Rattle.html5ever_interface.specs.declared.states.DoctypeIdKind.TheVariants.{Public, System}
use Rattle.html5ever_interface.specs.declared.states.State.{State}
use Rattle.html5ever_interface.specs.declared.states.State.TheVariants as state
use Rattle.html5reading.specs.Characters.{greater_than}
use Rattle.html5reading.specs.Doctype.{quote_mark, identifier_state}
use Rattle.html5reading.specs.ErrorText.{error_in}
use Rattle.html5grammar.specs.Doctype.{Identifier, SystemIdentifier, RestAfterName, identifier_text, system_text, after_name_text, opening, spell_end, spell_skipped, spell_odd, spell_rest, keyword_state, between_state, spell_begun, spell_identifier, spell_after_system, spell_after_public, spell_wanted, spell_after_name, spell_name}
use Rattle.html5grammar.specs.Doctype.RestAfterName.{NoKeyword, PublicKeyword, SystemKeyword}
use Rattle.html5grammar.specs.Doctype.Identifier.{Missing, Unclosed, Closed}
use Rattle.html5grammar.specs.Spelled.{Spelled, spell, spell_silent}
use Rattle.html5reading.specs.Slice.{silent}
use Rattle.html5reading.specs.Start.{Quotes}
use Rattle.html5reading.specs.Tag.{null_error}
use Rattle.html5grammar.proofs.Goes.{characters, characters-spell, characters-two}

-- two pieces, of which the second has the `>`
characters-end : (xs ys : List Spelled) (X Y : List ℕ) → characters xs ≡ X → characters ys ≡ Y ++ greater_than ∷ [] → characters (xs ++ ys) ≡ (X ++ Y) ++ greater_than ∷ []
characters-end xs ys X Y e f = characters-two xs ys X (Y ++ greater_than ∷ []) e f ∙ sym (append_assoc X Y (greater_than ∷ []))

module _ (exact : Bool) where
  pub characters-skipped : (d : DoctypeOf) (rest : List ℕ) → characters (spell_skipped exact d rest) ≡ rest ++ greater_than ∷ []
  characters-skipped d rest =
      characters-two (spell (null_error exact state.BogusDoctype) rest) (spell_end [] d) rest (greater_than ∷ []) (characters-spell (null_error exact state.BogusDoctype) rest) refl

  characters-odd : (named : State) (d : DoctypeOf) (rest : List ℕ) → characters (spell_odd exact named d rest) ≡ rest ++ greater_than ∷ []
  characters-odd named d [] = refl
  characters-odd named d (c ∷ rest) = ap (λ l. c ∷ l) (characters-skipped d rest)

  characters-rest : (named : State) (d : DoctypeOf) (rest : List ℕ) → characters (spell_rest exact named d rest) ≡ rest ++ greater_than ∷ []
  characters-rest named d [] = refl
  characters-rest named d (c ∷ rest) = characters-odd named d (c ∷ rest)

  characters-begun : (kind : DoctypeIdKind) (named : State) (space : List ℕ) (quotes : Quotes) (run : List ℕ)
      → characters (spell_begun exact kind named space quotes run) ≡ quote_mark quotes ∷ run
  characters-begun kind named space quotes run = ap (λ l. quote_mark quotes ∷ l) (characters-spell (null_error exact (identifier_state quotes kind)) run)

  -- the characters that are spelled of an identifier are its text
  characters-identifier : {B : Type 0} → (kind : DoctypeIdKind) (named : State) (d : DoctypeOf) (space : List ℕ) (spell_after : List ℕ → B → List Spelled) (text_after : B → List ℕ)
      → ((later : List ℕ) (afterwards : B) → characters (spell_after later afterwards) ≡ text_after afterwards ++ greater_than ∷ [])
      → (identifier : Identifier B)
      → characters (spell_identifier exact kind named d space spell_after identifier) ≡ identifier_text text_after identifier ++ greater_than ∷ []
  characters-identifier kind named d space spell_after text_after afters (Missing rest) = characters-odd named d rest
  characters-identifier kind named d space spell_after text_after afters (Unclosed quotes run) =
      characters-two (spell_begun exact kind named space quotes run) (spell_end (error_in exact (identifier_state quotes kind) greater_than ∷ []) d) (quote_mark quotes ∷ run) (greater_than ∷ [])
      (characters-begun kind named space quotes run) refl
  characters-identifier kind named d space spell_after text_after afters (Closed quotes run later afterwards) =
      characters-end (spell_begun exact kind named space quotes run) (spell_silent (quote_mark quotes ∷ later) ++ spell_after later afterwards)
      (quote_mark quotes ∷ run) (quote_mark quotes ∷ later ++ text_after afterwards) (characters-begun kind named space quotes run)
      (characters-end (spell_silent (quote_mark quotes ∷ later)) (spell_after later afterwards) (quote_mark quotes ∷ later) (text_after afterwards)
      (characters-spell silent (quote_mark quotes ∷ later)) (afters later afterwards))

  characters-after_system : (d : DoctypeOf) (space rest : List ℕ) → characters (spell_after_system exact d space rest) ≡ rest ++ greater_than ∷ []
  characters-after_system d space rest = characters-rest (state.AfterDoctypeIdentifier System) d rest

  characters-after_public : (d : DoctypeOf) (space : List ℕ) (system : SystemIdentifier) → characters (spell_after_public exact d space system) ≡ system_text system ++ greater_than ∷ []
  characters-after_public d space (Missing []) = refl
  characters-after_public d space (Missing (c ∷ rest)) = characters-odd (between_state space) d (c ∷ rest)
  characters-after_public d space (Unclosed quotes run) =
      characters-identifier System (between_state space) d space (spell_after_system exact d) (λ rest. rest) (characters-after_system d) (Unclosed quotes run)
  characters-after_public d space (Closed quotes run later rest) =
      characters-identifier System (between_state space) d space (spell_after_system exact d) (λ rest. rest) (characters-after_system d) (Closed quotes run later rest)

  -- a keyword, white space, and what comes at the place of its identifier
  characters-keyword : {B : Type 0} → (kind : DoctypeIdKind) (d : DoctypeOf) (keyword space : List ℕ) (spell_after : List ℕ → B → List Spelled) (text_after : B → List ℕ)
      → ((later : List ℕ) (afterwards : B) → characters (spell_after later afterwards) ≡ text_after afterwards ++ greater_than ∷ [])
      → (identifier : Identifier B)
      → characters (spell_silent keyword ++ spell_wanted exact kind d space spell_after identifier)
      ≡ (keyword ++ (space ++ identifier_text text_after identifier)) ++ greater_than ∷ []
  characters-keyword kind d keyword space spell_after text_after afters identifier =
      let named : State = keyword_state kind space in
      let text : List ℕ = identifier_text text_after identifier in
      characters-end (spell_silent keyword) (spell_wanted exact kind d space spell_after identifier) keyword (space ++ text) (characters-spell silent keyword)
      (characters-end (spell_silent space) (spell_identifier exact kind named d space spell_after identifier) space text (characters-spell silent space)
      (characters-identifier kind named d space spell_after text_after afters identifier))

  pub characters-after_name : (d : DoctypeOf) (afterwards : RestAfterName) → characters (spell_after_name exact d afterwards) ≡ after_name_text afterwards ++ greater_than ∷ []
  characters-after_name d (NoKeyword rest) = characters-rest state.AfterDoctypeName d rest
  characters-after_name d (PublicKeyword keyword space identifier) =
      characters-keyword Public d keyword space (spell_after_public exact d) system_text (characters-after_public d) identifier
  characters-after_name d (SystemKeyword keyword space identifier) =
      characters-keyword System d keyword space (spell_after_system exact d) (λ rest. rest) (characters-after_system d) identifier

  pub characters-name : (word space : List ℕ) (first : ℕ) (rest later : List ℕ)
      → characters (spell_name exact word space first rest later) ≡ opening word space ++ (first ∷ rest ++ later)
  characters-name word space first rest later =
      characters-two (spell_silent (opening word space)) _ (opening word space) (first ∷ rest ++ later) (characters-spell silent (opening word space))
      (ap (λ l. first ∷ l)
      (characters-two (spell (null_error exact state.DoctypeName) rest) (spell_silent later) rest later (characters-spell (null_error exact state.DoctypeName) rest) (characters-spell silent later)))
