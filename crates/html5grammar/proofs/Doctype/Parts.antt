-- What the machine does at the identifiers of one doctype.
use Rattle.std.proofs.Common.{◌≡◌, ℕ, Bool, true, false, List, [], ◌∷◌, ◌++◌, refl, sym, ◌∙◌}
use Rattle.std.specs.Prelude.{◌==◌, ◌&&◌, not, flat_map, Option, None, Some}
use Rattle.std.specs.List.{list_all}
use Rattle.std.proofs.lemmas.Bool.{false≢true, and_parts, not-true}
use Rattle.html5ever_interface.specs.Token.{DoctypeOf}
use Rattle.html5ever_interface.specs.Token.Told.{Doctype}
use Rattle.html5ever_interface.specs.declared.states.DoctypeIdKind.{DoctypeIdKind}
use Rattle.html5ever_interface.specs.declared.states.DoctypeIdKind.TheVariants.{Public, System}
use Rattle.html5ever_interface.specs.declared.states.State.{State}
use Rattle.html5reading.specs.Characters.{quotation_mark, apostrophe, greater_than, is_white_space, value_bytes}
use Rattle.html5reading.specs.Doctype.{in_skipped_rest, quote_mark, in_identifier}
use Rattle.html5grammar.specs.Doctype.{Identifier, SystemIdentifier, PublicIdentifier, is_rest, belongs_before, is_system, is_public, identifier_told, system_told, is_not_closed, has_system_quirks, has_public_quirks, after_space, keyword_state, between_state, spell_identifier, spell_after_system, spell_after_public, spell_wanted}
use Rattle.html5grammar.specs.Doctype.Identifier.{Missing, Unclosed, Closed}
use Rattle.html5grammar.specs.Spelled.{spell_silent}
use Rattle.html5reading.specs.Start.{Quotes, Open}
use Rattle.html5reading.specs.Start.DoctypePlace.{AfterKeyword, BeforeIdentifier, AfterIdentifier, BetweenIdentifiers}
use Rattle.html5reading.specs.Start.Mode.{Data}
use Rattle.html5reading.specs.Start.Open.{Between, InDoctype}
use Rattle.html5reading.specs.Start.Quotes.{DoubleQuotes, SingleQuotes}
use Rattle.html5reading.specs.Machine.{step_at, doctype_step, space_step, wanted_identifier_step, system_or_end_step, after_identifier_step}
use Rattle.html5grammar.proofs.Doctype.Steps.{IsNeither, named_doctype, goes-space, Wants, goes-odd_none, goes-missing, goes-unclosed, goes-closed, goes-after_system}
use Rattle.html5grammar.proofs.Goes.{Goes, Goes-append, Goes-one}
use Rattle.html5grammar.proofs.Tag.Steps.{no_or}

-- ---- what begins an identifier

pub quote-no_white : (quotes : Quotes) → is_white_space (quote_mark quotes) ≡ false
unfolding is_white_space
quote-no_white DoubleQuotes = refl
quote-no_white SingleQuotes = refl

pub quote-no_end : (quotes : Quotes) → (quote_mark quotes == greater_than) ≡ false
quote-no_end DoubleQuotes = refl
quote-no_end SingleQuotes = refl

pub end-no_white : is_white_space greater_than ≡ false
unfolding is_white_space
end-no_white = refl

pub is_odd : (c : ℕ) (rest : List ℕ) → is_rest belongs_before (c ∷ rest) ≡ true → IsNeither c
unfolding in_skipped_rest
is_odd c rest h =
    let p = and_parts (not (belongs_before c)) (list_all in_skipped_rest (c ∷ rest)) h in
    let q = and_parts (in_skipped_rest c) (list_all in_skipped_rest rest) p.1 in
    record { no_white = (no_or (is_white_space c) (c == quotation_mark) (c == apostrophe) p.0).0; no_end = not-true (c == greater_than) q.0 }

-- nothing stands where an identifier can
abbrev pub is_nothing : {B : Type 0} → Identifier B → Bool
is_nothing (Missing []) = true
is_nothing other = false

-- the doctype that is sent where that of the system is wanted
abbrev pub with_system : List ℕ → Option (List ℕ) → SystemIdentifier → DoctypeOf
with_system name public_id system = named_doctype name public_id (identifier_told system) (is_not_closed system)

-- and where the public one is
abbrev pub with_public : List ℕ → PublicIdentifier → DoctypeOf
with_public name identifier = named_doctype name (identifier_told identifier) (system_told identifier) (has_public_quirks identifier)

module _ (exact : Bool) where
  -- ---- the identifier of the system

  -- what comes at the place of a system identifier, up to the `>`
  goes-system : (opened : Open) (space : List ℕ) (named : State) (name : List ℕ) (public_id : Option (List ℕ)) (system : SystemIdentifier)
      → ((c : ℕ) → is_white_space c ≡ false → (c == greater_than) ≡ false → Wants exact opened space named System (named_doctype name public_id None false) c)
      → (is_nothing system ≡ true → Wants exact opened space named System (named_doctype name public_id None false) greater_than)
      → is_system system ≡ true
      → Goes exact opened (spell_identifier exact System named (with_system name public_id system) space (spell_after_system exact (with_system name public_id system)) system) (Between Data)
  unfolding wanted_identifier_step
  goes-system opened space named name public_id (Missing []) wants ends h =
      goes-odd_none exact opened named (named_doctype name public_id None true) (ends refl)
  goes-system opened space named name public_id (Missing (c ∷ rest)) wants ends h =
      let odd : IsNeither c = is_odd c rest h in
      goes-missing exact opened space named System (named_doctype name public_id None false) c rest (wants c odd.no_white odd.no_end) h
  goes-system opened space named name public_id (Unclosed quotes run) wants ends h =
      goes-unclosed exact opened space named System (named_doctype name public_id None false) quotes run
      (wants (quote_mark quotes) (quote-no_white quotes) (quote-no_end quotes)) h
  goes-system opened space named name public_id (Closed quotes run later rest) wants ends h =
      let p = and_parts (list_all (in_identifier quotes) run) (list_all is_white_space later && is_rest is_white_space rest) h in
      let q = and_parts (list_all is_white_space later) (is_rest is_white_space rest) p.1 in
      let d : DoctypeOf = named_doctype name public_id (Some (flat_map value_bytes run)) false in
      goes-closed exact opened space named System (named_doctype name public_id None false) quotes run (spell_silent later ++ spell_after_system exact d later rest)
      (wants (quote_mark quotes) (quote-no_white quotes) (quote-no_end quotes)) p.0
      (goes-after_system exact d later rest q.0 q.1)

  -- ---- after a public identifier

  abbrev pub after_public : DoctypeOf → List ℕ → Open
  after_public d space = after_space space (InDoctype (AfterIdentifier Public) d) (InDoctype BetweenIdentifiers d)

  pub goes-space_between : (d : DoctypeOf) (space : List ℕ) → list_all is_white_space space ≡ true
      → Goes exact (InDoctype (AfterIdentifier Public) d) (spell_silent space) (after_public d space)
  unfolding step_at doctype_step space_step after_identifier_step
  goes-space_between d space all =
      goes-space exact (InDoctype (AfterIdentifier Public) d) (InDoctype BetweenIdentifiers d) (λ c h. rw h refl) (λ c h. rw h refl) space all

  pub step-between : (d : DoctypeOf) (space : List ℕ) (c : ℕ) → is_white_space c ≡ false
      → step_at exact (after_public d space) c
      ≡ system_or_end_step exact (after_space space true false) (between_state space) d c
  unfolding step_at doctype_step space_step after_identifier_step
  step-between d [] c h = rw h refl
  step-between d (b ∷ space) c h = rw h refl

  -- a system identifier after a public one and white space, up to the `>`
  goes-some_system : (name public_id space : List ℕ) (system : SystemIdentifier) → is_nothing system ≡ false → list_all is_white_space space ≡ true → is_system system ≡ true
      → Goes exact (InDoctype (AfterIdentifier Public) (named_doctype name (Some public_id) None false))
      (spell_silent space
      ++ spell_identifier exact System (between_state space) (with_system name (Some public_id) system) space (spell_after_system exact (with_system name (Some public_id) system)) system)
      (Between Data)
  unfolding system_or_end_step
  goes-some_system name public_id space system some all h =
      let d : DoctypeOf = named_doctype name (Some public_id) None false in
      Goes-append exact (InDoctype (AfterIdentifier Public) d) (after_public d space) (Between Data) (spell_silent space) _
      (goes-space_between d space all)
      (goes-system (after_public d space) space (between_state space) name (Some public_id) system
      (λ c no_white no_end. step-between d space c no_white ∙ rw no_end refl) (λ none. absurd (false≢true (sym some ∙ none))) h)

  -- what comes after a public identifier, up to the `>`
  goes-after_public : (name public_id space : List ℕ) (system : SystemIdentifier) → list_all is_white_space space ≡ true → is_system system ≡ true
      → Goes exact (InDoctype (AfterIdentifier Public) (named_doctype name (Some public_id) None false))
      (spell_silent space ++ spell_after_public exact (named_doctype name (Some public_id) (identifier_told system) (has_system_quirks system)) space system) (Between Data)
  unfolding system_or_end_step
  goes-after_public name public_id space (Missing []) all h =
      let d : DoctypeOf = named_doctype name (Some public_id) None false in
      Goes-append exact (InDoctype (AfterIdentifier Public) d) (after_public d space) (Between Data) (spell_silent space) _
      (goes-space_between d space all)
      (Goes-one exact (after_public d space) (Between Data) greater_than (Doctype d ∷ []) (step-between d space greater_than end-no_white))
  goes-after_public name public_id space (Missing (c ∷ rest)) all h = goes-some_system name public_id space (Missing (c ∷ rest)) refl all h
  goes-after_public name public_id space (Unclosed quotes run) all h = goes-some_system name public_id space (Unclosed quotes run) refl all h
  goes-after_public name public_id space (Closed quotes run later rest) all h = goes-some_system name public_id space (Closed quotes run later rest) refl all h

  -- ---- the public identifier

  -- what comes at the place of a public identifier, up to the `>`
  goes-public : (opened : Open) (space : List ℕ) (named : State) (name : List ℕ) (identifier : PublicIdentifier)
      → ((c : ℕ) → is_white_space c ≡ false → Wants exact opened space named Public (named_doctype name None None false) c)
      → is_public identifier ≡ true
      → Goes exact opened (spell_identifier exact Public named (with_public name identifier) space (spell_after_public exact (with_public name identifier)) identifier) (Between Data)
  unfolding wanted_identifier_step
  goes-public opened space named name (Missing []) wants h =
      goes-odd_none exact opened named (named_doctype name None None true) (wants greater_than end-no_white)
  goes-public opened space named name (Missing (c ∷ rest)) wants h =
      goes-missing exact opened space named Public (named_doctype name None None false) c rest (wants c (is_odd c rest h).no_white) h
  goes-public opened space named name (Unclosed quotes run) wants h =
      goes-unclosed exact opened space named Public (named_doctype name None None false) quotes run (wants (quote_mark quotes) (quote-no_white quotes)) h
  goes-public opened space named name (Closed quotes run later system) wants h =
      let p = and_parts (list_all (in_identifier quotes) run) (list_all is_white_space later && is_system system) h in
      let q = and_parts (list_all is_white_space later) (is_system system) p.1 in
      let id : List ℕ = flat_map value_bytes run in
      goes-closed exact opened space named Public (named_doctype name None None false) quotes run
      (spell_silent later ++ spell_after_public exact (named_doctype name (Some id) (identifier_told system) (has_system_quirks system)) later system)
      (wants (quote_mark quotes) (quote-no_white quotes)) p.0
      (goes-after_public name id later system q.0 q.1)

  -- ---- after a keyword

  abbrev pub after_keyword : DoctypeIdKind → DoctypeOf → List ℕ → Open
  after_keyword kind d space = after_space space (InDoctype (AfterKeyword kind) d) (InDoctype (BeforeIdentifier kind) d)

  pub goes-space_after_keyword : (kind : DoctypeIdKind) (d : DoctypeOf) (space : List ℕ) → list_all is_white_space space ≡ true
      → Goes exact (InDoctype (AfterKeyword kind) d) (spell_silent space) (after_keyword kind d space)
  unfolding step_at doctype_step space_step
  goes-space_after_keyword kind d space all =
      goes-space exact (InDoctype (AfterKeyword kind) d) (InDoctype (BeforeIdentifier kind) d) (λ c h. rw h refl) (λ c h. rw h refl) space all

  pub step-after_keyword : (kind : DoctypeIdKind) (d : DoctypeOf) (space : List ℕ) (c : ℕ) → is_white_space c ≡ false
      → Wants exact (after_keyword kind d space) space (keyword_state kind space) kind d c
  unfolding step_at doctype_step space_step
  step-after_keyword kind d [] c h = rw h refl
  step-after_keyword kind d (b ∷ space) c h = rw h refl

  pub goes-public_keyword : (name space : List ℕ) (identifier : PublicIdentifier) → list_all is_white_space space ≡ true → is_public identifier ≡ true
      → Goes exact (InDoctype (AfterKeyword Public) (named_doctype name None None false))
      (spell_wanted exact Public (with_public name identifier) space (spell_after_public exact (with_public name identifier)) identifier) (Between Data)
  goes-public_keyword name space identifier all h =
      let d : DoctypeOf = named_doctype name None None false in
      Goes-append exact (InDoctype (AfterKeyword Public) d) (after_keyword Public d space) (Between Data) (spell_silent space) _
      (goes-space_after_keyword Public d space all)
      (goes-public (after_keyword Public d space) space (keyword_state Public space) name identifier
      (step-after_keyword Public d space) h)

  pub goes-system_keyword : (name space : List ℕ) (identifier : SystemIdentifier) → list_all is_white_space space ≡ true → is_system identifier ≡ true
      → Goes exact (InDoctype (AfterKeyword System) (named_doctype name None None false))
      (spell_wanted exact System (with_system name None identifier) space (spell_after_system exact (with_system name None identifier)) identifier) (Between Data)
  goes-system_keyword name space identifier all h =
      let d : DoctypeOf = named_doctype name None None false in
      Goes-append exact (InDoctype (AfterKeyword System) d) (after_keyword System d space) (Between Data) (spell_silent space) _
      (goes-space_after_keyword System d space all)
      (goes-system (after_keyword System d space) space (keyword_state System space) name None identifier
      (λ c no_white no_end. step-after_keyword System d space c no_white) (λ none. step-after_keyword System d space greater_than end-no_white) h)
