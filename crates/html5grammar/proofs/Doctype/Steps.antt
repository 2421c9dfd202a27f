-- What the machine does at the characters of one doctype after its name.
use Rattle.std.proofs.Common.{◌≡◌, ℕ, Bool, true, false, List, [], ◌∷◌, ◌++◌, refl, ◌∙◌}
use Rattle.std.specs.Prelude.{◌==◌, not, Option, Some}
use Rattle.std.specs.List.{list_all}
use Rattle.std.proofs.lemmas.Bool.{and_parts, not-true}
use Rattle.html5ever_interface.specs.Token.{DoctypeOf}
use Rattle.html5ever_interface.specs.Token.Told.{Doctype}
use Rattle.html5ever_interface.specs.declared.states.DoctypeIdKind.{DoctypeIdKind}
use Rattle.html5ever_interface.specs.declared.states.DoctypeIdKind.TheVariants.{System}
use Rattle.html5ever_interface.specs.declared.states.State.{State}
use Rattle.html5ever_interface.specs.declared.states.State.TheVariants as state
use Rattle.html5reading.specs.Characters.{quotation_mark, apostrophe, greater_than, is_white_space}
use Rattle.html5reading.specs.Doctype.{with_quirks, with_begun_identifier, with_identifier, in_skipped_rest, quote_mark, identifier_state, in_identifier}
use Rattle.html5reading.specs.ErrorText.{error_in, where_true}
use Rattle.html5grammar.specs.Doctype.{is_rest, belongs_before, spell_end, spell_skipped, spell_odd, spell_rest, after_space, spell_begun, spell_after_system}
use Rattle.html5grammar.specs.Spelled.{Spelled, spell, spell_silent}
use Rattle.html5reading.specs.Reading.Here.{Tells}
use Rattle.html5reading.specs.Start.{Quotes, Open}
use Rattle.html5reading.specs.Start.DoctypePlace.{InIdentifier, AfterIdentifier, Skipped}
use Rattle.html5reading.specs.Start.Mode.{Data}
use Rattle.html5reading.specs.Start.Open.{Between, InDoctype}
use Rattle.html5reading.specs.Start.Quotes.{DoubleQuotes, SingleQuotes}
use Rattle.html5reading.specs.Tag.{null_error}
use Rattle.html5reading.specs.Machine.{step_at, doctype_step, skipped_step, wanted_identifier_step, identifier_step, after_identifier_step}
use Rattle.html5grammar.proofs.Goes.{Goes, Goes-append, Goes-one, goes-run}
use Rattle.html5grammar.proofs.Tag.Steps.{no_or}
use Rattle.html5reading.proofs.Letters.{is_not}
use Rattle.html5reading.proofs.Slices.{with_identifier-nil, with_identifier-cons}

-- a doctype that has a name and maybe identifiers
abbrev pub named_doctype : List ℕ → Option (List ℕ) → Option (List ℕ) → Bool → DoctypeOf
named_doctype name public_id system_id force_quirks =
    record { name = Some name; public_id = public_id; system_id = system_id; force_quirks = force_quirks }

-- a character that is neither white space nor `>`
pub record IsNeither (c : ℕ) : Type 0 where
  pub no_white : is_white_space c ≡ false
  pub no_end : (c == greater_than) ≡ false

pub white-no_end : (c : ℕ) → is_white_space c ≡ true → (c == greater_than) ≡ false
unfolding is_white_space
white-no_end c h = is_not is_white_space c greater_than refl h

module _ (exact : Bool) where
  -- ---- white space

  -- white space is skipped, and the place stays the same
  pub goes-stay : (opened : Open) → ((c : ℕ) → is_white_space c ≡ true → step_at exact opened c ≡ Tells [] opened)
      → (space : List ℕ) → list_all is_white_space space ≡ true → Goes exact opened (spell_silent space) opened
  unfolding Goes
  goes-stay opened step [] all = refl
  goes-stay opened step (c ∷ space) all =
      let p = and_parts (is_white_space c) (list_all is_white_space space) all in
      (opened, step c p.0, goes-stay opened step space p.1)

  -- or it is another after white space
  pub goes-space : (direct spaced : Open) → ((c : ℕ) → is_white_space c ≡ true → step_at exact direct c ≡ Tells [] spaced)
      → ((c : ℕ) → is_white_space c ≡ true → step_at exact spaced c ≡ Tells [] spaced)
      → (space : List ℕ) → list_all is_white_space space ≡ true → Goes exact direct (spell_silent space) (after_space space direct spaced)
  unfolding Goes
  goes-space direct spaced first step [] all = refl
  goes-space direct spaced first step (c ∷ space) all =
      let p = and_parts (is_white_space c) (list_all is_white_space space) all in
      (spaced, first c p.0, goes-stay spaced step space p.1)

  -- ---- what is skipped

  pub goes-skipped : (d : DoctypeOf) (rest : List ℕ) → list_all in_skipped_rest rest ≡ true
      → Goes exact (InDoctype Skipped d) (spell_skipped exact d rest) (Between Data)
  unfolding Goes step_at doctype_step skipped_step in_skipped_rest
  goes-skipped d [] all = (Between Data, refl, refl)
  goes-skipped d (c ∷ rest) all =
      let p = and_parts (in_skipped_rest c) (list_all in_skipped_rest rest) all in
      (InDoctype Skipped d, rw (not-true (c == greater_than) p.0) refl, goes-skipped d rest p.1)

  -- at the first character of a rest, and at the `>`, the machine tells an error and skips
  abbrev pub Skips : Open → State → DoctypeOf → ℕ → Type 0
  Skips opened named d c = step_at exact opened c ≡ skipped_step exact (error_in exact named c ∷ []) d c

  pub goes-odd_some : (opened : Open) (named : State) (d : DoctypeOf) (c : ℕ) (rest : List ℕ) → Skips opened named d c → list_all in_skipped_rest (c ∷ rest) ≡ true
      → Goes exact opened (spell_odd exact named d (c ∷ rest)) (Between Data)
  unfolding Goes skipped_step in_skipped_rest
  goes-odd_some opened named d c rest skips all =
      let p = and_parts (in_skipped_rest c) (list_all in_skipped_rest rest) all in
      (InDoctype Skipped d, skips ∙ rw (not-true (c == greater_than) p.0) refl, goes-skipped d rest p.1)

  pub goes-odd_none : (opened : Open) (named : State) (d : DoctypeOf) → Skips opened named d greater_than
      → Goes exact opened (spell_odd exact named d []) (Between Data)
  unfolding skipped_step
  goes-odd_none opened named d skips = Goes-one exact opened (Between Data) greater_than (error_in exact named greater_than ∷ Doctype d ∷ []) skips

  -- ---- identifiers

  -- where an identifier is wanted, the machine tells an error if nothing stands between
  abbrev pub Wants : Open → List ℕ → State → DoctypeIdKind → DoctypeOf → ℕ → Type 0
  Wants opened space named kind d c = step_at exact opened c ≡ wanted_identifier_step exact (after_space space true false) named kind d c

  abbrev pub whole : DoctypeIdKind → DoctypeOf → List ℕ → DoctypeOf
  whole kind d run = with_identifier kind (with_begun_identifier kind d) run

  step-begun : (quotes : Quotes) (named : State) (kind : DoctypeIdKind) (d : DoctypeOf) (is_direct : Bool)
      → wanted_identifier_step exact is_direct named kind d (quote_mark quotes)
      ≡ Tells (where_true is_direct (error_in exact named (quote_mark quotes))) (InDoctype (InIdentifier quotes kind) (with_begun_identifier kind d))
  unfolding wanted_identifier_step
  step-begun DoubleQuotes named kind d is_direct = refl
  step-begun SingleQuotes named kind d is_direct = refl

  goes-run_in : (quotes : Quotes) (kind : DoctypeIdKind) (d : DoctypeOf) (run : List ℕ) → list_all (in_identifier quotes) run ≡ true
      → Goes exact (InDoctype (InIdentifier quotes kind) d) (spell (null_error exact (identifier_state quotes kind)) run) (InDoctype (InIdentifier quotes kind) (with_identifier kind d run))
  unfolding step_at doctype_step identifier_step
  goes-run_in quotes kind d run all =
      goes-run exact (InDoctype (InIdentifier quotes kind)) (with_identifier kind) (in_identifier quotes) (null_error exact (identifier_state quotes kind))
      (with_identifier-nil kind) (with_identifier-cons kind) (λ e c h. rw h refl) d run all

  -- a quote and the identifier
  pub goes-begun : (opened : Open) (space : List ℕ) (named : State) (kind : DoctypeIdKind) (d : DoctypeOf) (quotes : Quotes) (run : List ℕ)
      → Wants opened space named kind d (quote_mark quotes) → list_all (in_identifier quotes) run ≡ true
      → Goes exact opened (spell_begun exact kind named space quotes run)
      (InDoctype (InIdentifier quotes kind) (whole kind d run))
  unfolding Goes
  goes-begun opened space named kind d quotes run wants all = (
    InDoctype (InIdentifier quotes kind) (with_begun_identifier kind d),
    wants ∙ step-begun quotes named kind d (after_space space true false),
    goes-run_in quotes kind (with_begun_identifier kind d) run all,
  )

  step-cut : (quotes : Quotes) (kind : DoctypeIdKind) (d : DoctypeOf)
      → step_at exact (InDoctype (InIdentifier quotes kind) d) greater_than
      ≡ Tells (error_in exact (identifier_state quotes kind) greater_than ∷ Doctype (with_quirks d) ∷ []) (Between Data)
  unfolding step_at doctype_step identifier_step in_identifier
  step-cut DoubleQuotes kind d = refl
  step-cut SingleQuotes kind d = refl

  pub step-closed : (quotes : Quotes) (kind : DoctypeIdKind) (d : DoctypeOf)
      → step_at exact (InDoctype (InIdentifier quotes kind) d) (quote_mark quotes) ≡ Tells [] (InDoctype (AfterIdentifier kind) d)
  unfolding step_at doctype_step identifier_step in_identifier
  step-closed DoubleQuotes kind d = refl
  step-closed SingleQuotes kind d = refl

  -- the three forms at the place of a wanted identifier

  pub goes-missing : (opened : Open) (space : List ℕ) (named : State) (kind : DoctypeIdKind) (d : DoctypeOf) (c : ℕ) (rest : List ℕ)
      → Wants opened space named kind d c → is_rest belongs_before (c ∷ rest) ≡ true
      → Goes exact opened (spell_odd exact named (with_quirks d) (c ∷ rest)) (Between Data)
  unfolding wanted_identifier_step
  goes-missing opened space named kind d c rest wants h =
      let p = and_parts (not (belongs_before c)) (list_all in_skipped_rest (c ∷ rest)) h in
      let no = no_or (is_white_space c) (c == quotation_mark) (c == apostrophe) p.0 in
      goes-odd_some opened named (with_quirks d) c rest (wants ∙ rw (no.1, no.2) refl) p.1

  pub goes-unclosed : (opened : Open) (space : List ℕ) (named : State) (kind : DoctypeIdKind) (d : DoctypeOf) (quotes : Quotes) (run : List ℕ)
      → Wants opened space named kind d (quote_mark quotes) → list_all (in_identifier quotes) run ≡ true
      → Goes exact opened
      (spell_begun exact kind named space quotes run
      ++ spell_end (error_in exact (identifier_state quotes kind) greater_than ∷ []) (with_quirks (whole kind d run))) (Between Data)
  goes-unclosed opened space named kind d quotes run wants all =
      Goes-append exact opened (InDoctype (InIdentifier quotes kind) (whole kind d run)) (Between Data) (spell_begun exact kind named space quotes run) _
      (goes-begun opened space named kind d quotes run wants all)
      (Goes-one exact (InDoctype (InIdentifier quotes kind) (whole kind d run)) (Between Data) greater_than
      (error_in exact (identifier_state quotes kind) greater_than ∷ Doctype (with_quirks (whole kind d run)) ∷ []) (step-cut quotes kind (whole kind d run)))

  -- an identifier in its quotes, and what comes after it
  pub goes-closed : (opened : Open) (space : List ℕ) (named : State) (kind : DoctypeIdKind) (d : DoctypeOf) (quotes : Quotes) (run : List ℕ) (cells : List Spelled)
      → Wants opened space named kind d (quote_mark quotes) → list_all (in_identifier quotes) run ≡ true
      → Goes exact (InDoctype (AfterIdentifier kind) (whole kind d run)) cells (Between Data)
      → Goes exact opened
      (spell_begun exact kind named space quotes run
      ++ (record { character = quote_mark quotes; told = [] } ∷ cells)) (Between Data)
  unfolding Goes
  goes-closed opened space named kind d quotes run cells wants all goes =
      let closes : Goes exact (InDoctype (InIdentifier quotes kind) (whole kind d run)) (record { character = quote_mark quotes; told = [] } ∷ cells) (Between Data) =
      (InDoctype (AfterIdentifier kind) (whole kind d run), step-closed quotes kind (whole kind d run), goes) in
      Goes-append exact opened (InDoctype (InIdentifier quotes kind) (whole kind d run)) (Between Data) (spell_begun exact kind named space quotes run) (record { character = quote_mark quotes; told = [] } ∷ cells)
      (goes-begun opened space named kind d quotes run wants all) closes

  -- ---- after identifiers

  pub step-after_system : (d : DoctypeOf) (c : ℕ) → is_white_space c ≡ true → step_at exact (InDoctype (AfterIdentifier System) d) c ≡ Tells [] (InDoctype (AfterIdentifier System) d)
  unfolding step_at doctype_step after_identifier_step
  step-after_system d c h = rw h refl

  goes-rest_after_system : (d : DoctypeOf) (rest : List ℕ) → is_rest is_white_space rest ≡ true
      → Goes exact (InDoctype (AfterIdentifier System) d) (spell_rest exact (state.AfterDoctypeIdentifier System) d rest) (Between Data)
  unfolding step_at doctype_step after_identifier_step in_skipped_rest is_white_space
  goes-rest_after_system d [] h = Goes-one exact (InDoctype (AfterIdentifier System) d) (Between Data) greater_than (Doctype d ∷ []) refl
  goes-rest_after_system d (c ∷ rest) h =
      let p = and_parts (not (is_white_space c)) (list_all in_skipped_rest (c ∷ rest)) h in
      let q = and_parts (in_skipped_rest c) (list_all in_skipped_rest rest) p.1 in
      goes-odd_some (InDoctype (AfterIdentifier System) d) (state.AfterDoctypeIdentifier System) d c rest
      (rw (not-true (is_white_space c) p.0, not-true (c == greater_than) q.0) refl) p.1

  pub goes-after_system : (d : DoctypeOf) (space rest : List ℕ) → list_all is_white_space space ≡ true → is_rest is_white_space rest ≡ true
      → Goes exact (InDoctype (AfterIdentifier System) d) (spell_silent space ++ spell_after_system exact d space rest) (Between Data)
  goes-after_system d space rest all h =
      Goes-append exact (InDoctype (AfterIdentifier System) d) (InDoctype (AfterIdentifier System) d) (Between Data) (spell_silent space) _
      (goes-stay (InDoctype (AfterIdentifier System) d) (step-after_system d) space all) (goes-rest_after_system d rest h)
