-- A doctype without its `>` tells what a whole one tells before it, and its end tells the doctype.
use Rattle.std.proofs.Common.{◌≡◌, ℕ, Bool, true, false, List, [], ◌∷◌, ◌++◌, refl, ap, sym, ◌∙◌, subst}
use Rattle.std.specs.Prelude.{◌==◌, ◌&&◌, not, flat_map, codes, nat_eq, Option, None, Some, if◌then◌else◌}
use Rattle.std.specs.List.{list_all, starts_with}
use Rattle.std.specs.Str.{bytes_eq}
use Rattle.std.proofs.lemmas.Bool.{false≢true, and_parts, not-true}
use Rattle.std.proofs.lemmas.List.{append_assoc, append-nil}
use Rattle.std.proofs.lemmas.List.Folds.{list_all-append}
use Rattle.html5ever_interface.specs.Sink.{Means, Message, stepped, on_line}
use Rattle.html5ever_interface.specs.Token.{Told, DoctypeOf}
use Rattle.html5ever_interface.specs.Token.Told.{Doctype, End}
use Rattle.html5ever_interface.specs.declared.states.DoctypeIdKind.{DoctypeIdKind}
use Rattle.html5ever_interface.specs.declared.states.DoctypeIdKind.TheVariants.{Public, System}
use Rattle.html5ever_interface.specs.declared.states.State.{State}
use Rattle.html5ever_interface.specs.declared.states.State.TheVariants as state
use Rattle.html5reading.specs.Characters.{greater_than, is_white_space, name_bytes, value_bytes, lower_case}
use Rattle.html5reading.specs.Doctype.{with_quirks, in_skipped_rest, quote_mark, identifier_state, in_identifier, keyword_of, is_keyword, begins_doctype_keyword, in_doctype_name, keyword_error}
use Rattle.html5reading.specs.EndOfInput.{tokens_at_end, late_at_end_of, open_at_end_of, told_at_end_of, told_at_doctype_end, doctype_state_at}
use Rattle.html5reading.specs.ErrorText.{error_in, end_error_in}
use Rattle.html5reading.specs.NormalisedText.{line_after, input_after}
use Rattle.html5grammar.specs.Doctype.{SystemIdentifier, PublicIdentifier, RestAfterName, Content, WrittenDoctype, opening, after_name_text, content_text, is_rest, belongs_before, is_system, is_public, begins_no_keyword, is_after_name, can_stand_after, is_content, is_written, identifier_told, has_system_quirks, told_after_name, keyword_state, between_state, spell_end, spell_skipped, spell_odd, spell_rest, spell_begun, spell_identifier, spell_after_system, spell_after_public, spell_wanted, spell_name, held_of, after_held_of}
use Rattle.html5grammar.specs.Doctype.RestAfterName.{NoKeyword, PublicKeyword, SystemKeyword}
use Rattle.html5grammar.specs.Doctype.Content.{NoName, Named}
use Rattle.html5grammar.specs.Doctype.Identifier.{Missing, Unclosed, Closed}
use Rattle.html5grammar.specs.Spelled.{Spelled, spell, spell_silent, spelled_messages}
use Rattle.html5reading.specs.Slice.{run_while, silent}
use Rattle.html5reading.specs.Start.{Input, Start, DoctypePlace, Quotes, Open, Rules}
use Rattle.html5reading.specs.Start.DoctypePlace.{InDoctypeName, AfterName, AfterKeyword, BeforeIdentifier, InIdentifier, AfterIdentifier, BetweenIdentifiers, Skipped}
use Rattle.html5reading.specs.Start.Mode.{Data}
use Rattle.html5reading.specs.Start.Open.{Between, InDoctype, InDoctypeKeyword}
use Rattle.html5reading.specs.Tag.{null_error}
use Rattle.html5reading.specs.Machine.{step_at, doctype_step, space_step, skipped_step, keyword_or_end_step, wanted_identifier_step, system_or_end_step, after_identifier_step}
use Rattle.html5grammar.proofs.HeldWords.{while-parts, line-plain}
use Rattle.html5grammar.proofs.Leading.{Leads, Leads-append, leads-goes, trace-text, trace-leads}
use Rattle.html5grammar.proofs.Comment.Reading.{spelled-nothing}
use Rattle.html5grammar.proofs.Doctype.Held.{leads-keyword, leads-held, held-plain, held_of-plain, first_error, trace-decides}
use Rattle.html5grammar.proofs.Doctype.Name.{after_word, after_name, named, leads-opening, leads-name}
use Rattle.html5grammar.proofs.Doctype.Parts.{quote-no_white, quote-no_end, is_odd, with_system, with_public, after_public, goes-space_between, step-between, after_keyword, goes-space_after_keyword, step-after_keyword}
use Rattle.html5grammar.proofs.Doctype.Reading.{white-after}
use Rattle.html5grammar.proofs.Doctype.Spelled.{characters-after_name, characters-name}
use Rattle.html5grammar.proofs.Doctype.Steps.{IsNeither, named_doctype, goes-stay, Skips, Wants, whole, goes-begun, step-closed, step-after_system}
use Rattle.html5grammar.proofs.Goes.{characters, characters-spell, Goes, Goes-append, Goes-one}
use Rattle.html5grammar.proofs.Tag.Steps.{no_or}
use Rattle.html5reading.proofs.Traces.{trace, with_messages}
use Rattle.html5grammar.specs.Declarations.{IsOpenDoctype, before_end, messages_after_open_name, open_doctype_messages, rest_state, system_end, public_end, after_name_end, doctype_end, keyword_error_at_end, open_doctype_at_end}
use Rattle.html5grammar.proofs.Declarations.{IsClosed, closed-lower, closed-or, while-all, decides-open}
use Rattle.html5grammar.proofs.Split.{nil≢cons, cons_first, cons_rest}
use Rattle.html5grammar.proofs.Telling.{TellsAll, tells-trace}

-- ---- characters but the last

has_some : List Spelled → Bool
has_some [] = false
has_some (here ∷ more) = true

before_end-append : (xs cells : List Spelled) → has_some cells ≡ true → before_end (xs ++ cells) ≡ xs ++ before_end cells
unfolding before_end has_some
before_end-append xs [] some = absurd (false≢true some)
before_end-append [] (y ∷ ys) some = refl
before_end-append (x ∷ []) (y ∷ ys) some = refl
before_end-append (x ∷ z ∷ xs) (y ∷ ys) some = ap (λ l. x ∷ l) (before_end-append (z ∷ xs) (y ∷ ys) some)

nothing-pushed : (text : List ℕ) (c : ℕ) → [] ≡ text ++ c ∷ [] → ⊥
nothing-pushed [] c e = nil≢cons e
nothing-pushed (b ∷ text) c e = nil≢cons e

characters-before_end : (cells : List Spelled) (text : List ℕ) (c : ℕ) → characters cells ≡ text ++ c ∷ [] → characters (before_end cells) ≡ text
unfolding before_end
characters-before_end [] text c e = absurd (nothing-pushed text c e)
characters-before_end (x ∷ []) [] c e = refl
characters-before_end (x ∷ []) (b ∷ text) c e = absurd (nothing-pushed text c (cons_rest e))
characters-before_end (x ∷ y ∷ more) [] c e = absurd (nil≢cons (sym (cons_rest e)))
characters-before_end (x ∷ y ∷ more) (b ∷ text) c e =
    ap (λ l. x.character ∷ l) (characters-before_end (y ∷ more) text c (cons_rest e)) ∙ ap (λ d. d ∷ text) (cons_first e)

-- ---- where the text ends

module _ (exact : Bool) where
  -- what is open, and what the end tells there: an error with quirks
  record Ends (opened : Open) (named : State) (d : DoctypeOf) : Type 0 where
    place : DoctypePlace
    is : opened ≡ InDoctype place d
    tells : told_at_doctype_end exact place d ≡ end_error_in exact named ∷ Doctype (with_quirks d) ∷ []

  -- the machine reads all characters but the last, and the end tells E
  record Cut (opened : Open) (cells : List Spelled) (E : List Told) : Type 0 where
    some : has_some cells ≡ true
    place : DoctypePlace
    d : DoctypeOf
    goes : Goes exact opened (before_end cells) (InDoctype place d)
    at_end : told_at_doctype_end exact place d ++ End ∷ [] ≡ E

  append-some : (xs cells : List Spelled) → has_some cells ≡ true → has_some (xs ++ cells) ≡ true
  unfolding has_some
  append-some [] cells some = some
  append-some (x ∷ xs) cells some = refl

  cut-append : (a b : Open) (xs cells : List Spelled) (E : List Told) → Goes exact a xs b → Cut b cells E → Cut a (xs ++ cells) E
  cut-append a b xs cells E goes cut = record {
    some = append-some xs cells cut.some;
    place = cut.place;
    d = cut.d;
    goes =
        subst (λ l. Goes exact a l (InDoctype cut.place cut.d)) (sym (before_end-append xs cells cut.some))
        (Goes-append exact a b (InDoctype cut.place cut.d) xs (before_end cells) goes cut.goes);
    at_end = cut.at_end;
  }

  -- only the `>` is cut off
  cut-end : (opened : Open) (place : DoctypePlace) (d : DoctypeOf) (errors : List Told) (later : DoctypeOf) (E : List Told) → opened ≡ InDoctype place d
      → told_at_doctype_end exact place d ++ End ∷ [] ≡ E → Cut opened (spell_end errors later) E
  unfolding Goes before_end has_some
  cut-end opened place d errors later E is e = record { some = refl; place = place; d = d; goes = is; at_end = e }

  cut-skipped : (d : DoctypeOf) (rest : List ℕ) → list_all in_skipped_rest rest ≡ true → Cut (InDoctype Skipped d) (spell_skipped exact d rest) (Doctype d ∷ End ∷ [])
  unfolding step_at doctype_step skipped_step in_skipped_rest told_at_doctype_end
  cut-skipped d [] all = cut-end (InDoctype Skipped d) Skipped d [] d (Doctype d ∷ End ∷ []) refl refl
  cut-skipped d (c ∷ rest) all =
      let p = and_parts (in_skipped_rest c) (list_all in_skipped_rest rest) all in
      cut-append (InDoctype Skipped d) (InDoctype Skipped d) (record { character = c; told = null_error exact state.BogusDoctype c } ∷ []) (spell_skipped exact d rest) (Doctype d ∷ End ∷ [])
      (Goes-one exact (InDoctype Skipped d) (InDoctype Skipped d) c (null_error exact state.BogusDoctype c) (rw (not-true (c == greater_than) p.0) refl))
      (cut-skipped d rest p.1)

  cut-odd_some : (opened : Open) (named : State) (d : DoctypeOf) (c : ℕ) (rest : List ℕ) → Skips exact opened named d c → list_all in_skipped_rest (c ∷ rest) ≡ true
      → Cut opened (spell_odd exact named d (c ∷ rest)) (Doctype d ∷ End ∷ [])
  unfolding skipped_step in_skipped_rest
  cut-odd_some opened named d c rest skips all =
      let p = and_parts (in_skipped_rest c) (list_all in_skipped_rest rest) all in
      let told : List Told = error_in exact named c ∷ null_error exact state.BogusDoctype c in
      cut-append opened (InDoctype Skipped d) (record { character = c; told = told } ∷ []) (spell_skipped exact d rest) (Doctype d ∷ End ∷ [])
      (Goes-one exact opened (InDoctype Skipped d) c told (skips ∙ rw (not-true (c == greater_than) p.0) refl))
      (cut-skipped d rest p.1)

  -- nothing more stands there
  cut-at : (opened : Open) (named : State) (d later : DoctypeOf) (errors : List Told) → Ends opened named d
      → Cut opened (spell_end errors later) (end_error_in exact named ∷ Doctype (with_quirks d) ∷ End ∷ [])
  cut-at opened named d later errors ends =
      cut-end opened ends.place d errors later (end_error_in exact named ∷ Doctype (with_quirks d) ∷ End ∷ []) ends.is (ap (λ l. l ++ End ∷ []) ends.tells)

  cut-missing : (opened : Open) (space : List ℕ) (named : State) (kind : DoctypeIdKind) (d : DoctypeOf) (c : ℕ) (rest : List ℕ)
      → Wants exact opened space named kind d c → is_rest belongs_before (c ∷ rest) ≡ true
      → Cut opened (spell_odd exact named (with_quirks d) (c ∷ rest)) (Doctype (with_quirks d) ∷ End ∷ [])
  unfolding wanted_identifier_step
  cut-missing opened space named kind d c rest wants h =
      let p = and_parts (not (belongs_before c)) (list_all in_skipped_rest (c ∷ rest)) h in
      let no = no_or (is_white_space c) _ _ p.0 in
      cut-odd_some opened named (with_quirks d) c rest (wants ∙ rw (no.1, no.2) refl) p.1

  -- an identifier that the text ends
  cut-unclosed : (opened : Open) (space : List ℕ) (named : State) (kind : DoctypeIdKind) (d : DoctypeOf) (quotes : Quotes) (run : List ℕ) (errors : List Told) (later : DoctypeOf)
      → Wants exact opened space named kind d (quote_mark quotes) → list_all (in_identifier quotes) run ≡ true
      → Cut opened (spell_begun exact kind named space quotes run ++ spell_end errors later)
      (end_error_in exact (identifier_state quotes kind) ∷ Doctype (with_quirks (whole exact kind d run)) ∷ End ∷ [])
  unfolding told_at_doctype_end doctype_state_at
  cut-unclosed opened space named kind d quotes run errors later wants all =
      let inside : Open = InDoctype (InIdentifier quotes kind) (whole exact kind d run) in
      let E : List Told = end_error_in exact (identifier_state quotes kind) ∷ Doctype (with_quirks (whole exact kind d run)) ∷ End ∷ [] in
      cut-append opened inside (spell_begun exact kind named space quotes run) (spell_end errors later) E
      (goes-begun exact opened space named kind d quotes run wants all)
      (cut-end inside (InIdentifier quotes kind) (whole exact kind d run) errors later E refl refl)

  -- an identifier in its quotes, and what comes after it up to the text's end
  cut-closed : (opened : Open) (space : List ℕ) (named : State) (kind : DoctypeIdKind) (d : DoctypeOf) (quotes : Quotes) (run : List ℕ) (cells : List Spelled) (E : List Told)
      → Wants exact opened space named kind d (quote_mark quotes) → list_all (in_identifier quotes) run ≡ true
      → Cut (InDoctype (AfterIdentifier kind) (whole exact kind d run)) cells E
      → Cut opened (spell_begun exact kind named space quotes run ++ (record { character = quote_mark quotes; told = [] } ∷ cells)) E
  cut-closed opened space named kind d quotes run cells E wants all cut =
      let inside : Open = InDoctype (InIdentifier quotes kind) (whole exact kind d run) in
      let afterwards : Open = InDoctype (AfterIdentifier kind) (whole exact kind d run) in
      let closing : List Spelled = record { character = quote_mark quotes; told = [] } ∷ [] in
      cut-append opened inside (spell_begun exact kind named space quotes run) (closing ++ cells) E
      (goes-begun exact opened space named kind d quotes run wants all)
      (cut-append inside afterwards closing cells E
      (Goes-one exact inside afterwards (quote_mark quotes) [] (step-closed exact quotes kind (whole exact kind d run))) cut)

  -- ---- the identifier of the system

  cut-rest_after_system : (d : DoctypeOf) (rest : List ℕ) → is_rest is_white_space rest ≡ true
      → Cut (InDoctype (AfterIdentifier System) d) (spell_rest exact (state.AfterDoctypeIdentifier System) d rest) (doctype_end exact (rest_state (state.AfterDoctypeIdentifier System) rest) d)
  unfolding step_at doctype_step after_identifier_step in_skipped_rest is_white_space told_at_doctype_end doctype_state_at
  cut-rest_after_system d [] h =
      cut-end (InDoctype (AfterIdentifier System) d) (AfterIdentifier System) d [] d (doctype_end exact (Some (state.AfterDoctypeIdentifier System)) d) refl refl
  cut-rest_after_system d (c ∷ rest) h =
      let p = and_parts (not (is_white_space c)) (list_all in_skipped_rest (c ∷ rest)) h in
      let q = and_parts (in_skipped_rest c) (list_all in_skipped_rest rest) p.1 in
      cut-odd_some (InDoctype (AfterIdentifier System) d) (state.AfterDoctypeIdentifier System) d c rest
      (rw (not-true (is_white_space c) p.0, not-true (c == greater_than) q.0) refl) p.1

  cut-after_system : (d : DoctypeOf) (space rest : List ℕ) → list_all is_white_space space ≡ true → is_rest is_white_space rest ≡ true
      → Cut (InDoctype (AfterIdentifier System) d) (spell_silent space ++ spell_after_system exact d space rest) (doctype_end exact (rest_state (state.AfterDoctypeIdentifier System) rest) d)
  cut-after_system d space rest all h =
      cut-append (InDoctype (AfterIdentifier System) d) (InDoctype (AfterIdentifier System) d) (spell_silent space) _ _
      (goes-stay exact (InDoctype (AfterIdentifier System) d) (step-after_system exact d) space all) (cut-rest_after_system d rest h)

  -- what comes at the place of a system identifier, up to the text's end
  cut-system : (opened : Open) (space : List ℕ) (named : State) (name : List ℕ) (public_id : Option (List ℕ)) (system : SystemIdentifier)
      → ((c : ℕ) → is_white_space c ≡ false → (c == greater_than) ≡ false → Wants exact opened space named System (named_doctype name public_id None false) c)
      → Ends opened named (named_doctype name public_id None false)
      → is_system system ≡ true
      → Cut opened (spell_identifier exact System named (with_system name public_id system) space (spell_after_system exact (with_system name public_id system)) system)
      (doctype_end exact (system_end named system) (with_system name public_id system))
  cut-system opened space named name public_id (Missing []) wants ends h =
      cut-at opened named (named_doctype name public_id None false) (named_doctype name public_id None true) (error_in exact named greater_than ∷ []) ends
  cut-system opened space named name public_id (Missing (c ∷ rest)) wants ends h =
      let odd : IsNeither c = is_odd c rest h in
      cut-missing opened space named System (named_doctype name public_id None false) c rest (wants c odd.no_white odd.no_end) h
  cut-system opened space named name public_id (Unclosed quotes run) wants ends h =
      cut-unclosed opened space named System (named_doctype name public_id None false) quotes run (error_in exact (identifier_state quotes System) greater_than ∷ [])
      (with_system name public_id (Unclosed quotes run)) (wants (quote_mark quotes) (quote-no_white quotes) (quote-no_end quotes)) h
  cut-system opened space named name public_id (Closed quotes run later rest) wants ends h =
      let p = and_parts (list_all (in_identifier quotes) run) (list_all is_white_space later && is_rest is_white_space rest) h in
      let q = and_parts (list_all is_white_space later) (is_rest is_white_space rest) p.1 in
      let d : DoctypeOf = named_doctype name public_id (Some (flat_map value_bytes run)) false in
      cut-closed opened space named System (named_doctype name public_id None false) quotes run (spell_silent later ++ spell_after_system exact d later rest)
      (doctype_end exact (rest_state (state.AfterDoctypeIdentifier System) rest) d)
      (wants (quote_mark quotes) (quote-no_white quotes) (quote-no_end quotes)) p.0
      (cut-after_system d later rest q.0 q.1)

  -- ---- after a public identifier

  ends-between : (d : DoctypeOf) (space : List ℕ) → Ends (after_public exact d space) (between_state space) d
  unfolding told_at_doctype_end doctype_state_at
  ends-between d [] = record { place = AfterIdentifier Public; is = refl; tells = refl }
  ends-between d (b ∷ space) = record { place = BetweenIdentifiers; is = refl; tells = refl }

  -- a system identifier after a public one and white space, up to the text's end
  cut-some_system : (name public_id space : List ℕ) (system : SystemIdentifier) → list_all is_white_space space ≡ true → is_system system ≡ true
      → Cut (InDoctype (AfterIdentifier Public) (named_doctype name (Some public_id) None false))
      (spell_silent space
      ++ spell_identifier exact System (between_state space) (with_system name (Some public_id) system) space (spell_after_system exact (with_system name (Some public_id) system)) system)
      (doctype_end exact (system_end (between_state space) system) (with_system name (Some public_id) system))
  unfolding system_or_end_step
  cut-some_system name public_id space system all h =
      let d : DoctypeOf = named_doctype name (Some public_id) None false in
      cut-append (InDoctype (AfterIdentifier Public) d) (after_public exact d space) (spell_silent space) _ _
      (goes-space_between exact d space all)
      (cut-system (after_public exact d space) space (between_state space) name (Some public_id) system
      (λ c no_white no_end. step-between exact d space c no_white ∙ rw no_end refl) (ends-between d space) h)

  abbrev told_public : List ℕ → List ℕ → SystemIdentifier → DoctypeOf
  told_public name public_id system = named_doctype name (Some public_id) (identifier_told system) (has_system_quirks system)

  -- what comes after a public identifier, up to the text's end
  cut-after_public : (name public_id space : List ℕ) (system : SystemIdentifier) → list_all is_white_space space ≡ true → is_system system ≡ true
      → Cut (InDoctype (AfterIdentifier Public) (named_doctype name (Some public_id) None false))
      (spell_silent space ++ spell_after_public exact (told_public name public_id system) space system)
      (doctype_end exact (system_end (between_state space) system) (told_public name public_id system))
  cut-after_public name public_id space (Missing []) all h =
      let d : DoctypeOf = named_doctype name (Some public_id) None false in
      cut-append (InDoctype (AfterIdentifier Public) d) (after_public exact d space) (spell_silent space) _ _
      (goes-space_between exact d space all)
      (cut-at (after_public exact d space) (between_state space) d d [] (ends-between d space))
  cut-after_public name public_id space (Missing (c ∷ rest)) all h = cut-some_system name public_id space (Missing (c ∷ rest)) all h
  cut-after_public name public_id space (Unclosed quotes run) all h = cut-some_system name public_id space (Unclosed quotes run) all h
  cut-after_public name public_id space (Closed quotes run later rest) all h = cut-some_system name public_id space (Closed quotes run later rest) all h

  -- what comes at the place of a public identifier, up to the text's end
  cut-public : (opened : Open) (space : List ℕ) (named : State) (name : List ℕ) (identifier : PublicIdentifier)
      → ((c : ℕ) → is_white_space c ≡ false → Wants exact opened space named Public (named_doctype name None None false) c)
      → Ends opened named (named_doctype name None None false)
      → is_public identifier ≡ true
      → Cut opened (spell_identifier exact Public named (with_public name identifier) space (spell_after_public exact (with_public name identifier)) identifier)
      (doctype_end exact (public_end named identifier) (with_public name identifier))
  cut-public opened space named name (Missing []) wants ends h =
      cut-at opened named (named_doctype name None None false) (named_doctype name None None true) (error_in exact named greater_than ∷ []) ends
  cut-public opened space named name (Missing (c ∷ rest)) wants ends h =
      cut-missing opened space named Public (named_doctype name None None false) c rest (wants c (is_odd c rest h).no_white) h
  cut-public opened space named name (Unclosed quotes run) wants ends h =
      cut-unclosed opened space named Public (named_doctype name None None false) quotes run (error_in exact (identifier_state quotes Public) greater_than ∷ [])
      (with_public name (Unclosed quotes run)) (wants (quote_mark quotes) (quote-no_white quotes)) h
  cut-public opened space named name (Closed quotes run later system) wants ends h =
      let p = and_parts (list_all (in_identifier quotes) run) (list_all is_white_space later && is_system system) h in
      let q = and_parts (list_all is_white_space later) (is_system system) p.1 in
      let id : List ℕ = flat_map value_bytes run in
      cut-closed opened space named Public (named_doctype name None None false) quotes run
      (spell_silent later ++ spell_after_public exact (told_public name id system) later system)
      (doctype_end exact (system_end (between_state later) system) (told_public name id system))
      (wants (quote_mark quotes) (quote-no_white quotes)) p.0
      (cut-after_public name id later system q.0 q.1)

  -- ---- after a keyword

  ends-keyword : (kind : DoctypeIdKind) (d : DoctypeOf) (space : List ℕ) → Ends (after_keyword exact kind d space) (keyword_state kind space) d
  unfolding told_at_doctype_end doctype_state_at
  ends-keyword kind d [] = record { place = AfterKeyword kind; is = refl; tells = refl }
  ends-keyword kind d (b ∷ space) = record { place = BeforeIdentifier kind; is = refl; tells = refl }

  cut-public_keyword : (name space : List ℕ) (identifier : PublicIdentifier) → list_all is_white_space space ≡ true → is_public identifier ≡ true
      → Cut (InDoctype (AfterKeyword Public) (named_doctype name None None false))
      (spell_wanted exact Public (with_public name identifier) space (spell_after_public exact (with_public name identifier)) identifier)
      (doctype_end exact (public_end (keyword_state Public space) identifier) (with_public name identifier))
  cut-public_keyword name space identifier all h =
      let d : DoctypeOf = named_doctype name None None false in
      cut-append (InDoctype (AfterKeyword Public) d) (after_keyword exact Public d space) (spell_silent space) _ _
      (goes-space_after_keyword exact Public d space all)
      (cut-public (after_keyword exact Public d space) space (keyword_state Public space) name identifier
      (step-after_keyword exact Public d space) (ends-keyword Public d space) h)

  cut-system_keyword : (name space : List ℕ) (identifier : SystemIdentifier) → list_all is_white_space space ≡ true → is_system identifier ≡ true
      → Cut (InDoctype (AfterKeyword System) (named_doctype name None None false))
      (spell_wanted exact System (with_system name None identifier) space (spell_after_system exact (with_system name None identifier)) identifier)
      (doctype_end exact (system_end (keyword_state System space) identifier) (with_system name None identifier))
  cut-system_keyword name space identifier all h =
      let d : DoctypeOf = named_doctype name None None false in
      cut-append (InDoctype (AfterKeyword System) d) (after_keyword exact System d space) (spell_silent space) _ _
      (goes-space_after_keyword exact System d space all)
      (cut-system (after_keyword exact System d space) space (keyword_state System space) name None identifier
      (λ c no_white no_end. step-after_keyword exact System d space c no_white) (ends-keyword System d space) h)

-- ---- the whole doctype

closed-doctype_keyword : IsClosed begins_doctype_keyword
unfolding begins_doctype_keyword
closed-doctype_keyword = closed-or (λ text. starts_with nat_eq (keyword_of Public) (lower_case text)) (λ text. starts_with nat_eq (keyword_of System) (lower_case text)) (closed-lower (keyword_of Public)) (closed-lower (keyword_of System))

module _ {X S H : Type 0} (means : Means X S H) (rules : Rules) where
  -- the text after the name is read, up to where it ends
  record ReadsOpen (input : Input) (before : List ℕ) (s : S) (last : List ℕ) (opened : Open) (text : List ℕ) (M : List Message) (E : List Told) : Type 0 where
    later : Open
    is : trace means.step means.reply means.foreign rules s (line_after input before) last opened text ≡ record { messages = M; opened = later; last_start_tag = last }
    at_end : tokens_at_end rules later ≡ E

  -- the walk reads such a text as its spelled characters say, except for the last
  reads-cut : (input : Input) (before : List ℕ) (s : S) (last : List ℕ) (opened : Open) (text : List ℕ) (cells : List Spelled) (E : List Told)
      → characters cells ≡ text ++ greater_than ∷ []
      → (cut : Cut rules.exact opened cells E)
      → ReadsOpen input before s last opened text (spelled_messages rules.exact input before (before_end cells)) E
  unfolding late_at_end_of open_at_end_of told_at_end_of
  reads-cut input before s last opened text cells E e cut = record {
    later = InDoctype cut.place cut.d;
    is =
        trace-text means.step means.reply means.foreign rules input before s last opened (InDoctype cut.place cut.d) (before_end cells) text
        (characters-before_end cells text greater_than e)
        (leads-goes rules opened (InDoctype cut.place cut.d) (before_end cells) refl cut.goes);
    at_end = cut.at_end;
  }

  -- the same where a keyword stands in front
  reads-keyword : (input : Input) (before : List ℕ) (s : S) (last : List ℕ) (kind : DoctypeIdKind) (d : DoctypeOf) (keyword text : List ℕ) (cells : List Spelled) (E : List Told)
      → is_keyword kind keyword ≡ true → characters (spell_silent keyword ++ cells) ≡ text ++ greater_than ∷ []
      → (cut : Cut rules.exact (InDoctype (AfterKeyword kind) d) cells E)
      → ReadsOpen input before s last (InDoctype AfterName d) text (spelled_messages rules.exact input before (before_end (spell_silent keyword ++ cells))) E
  unfolding late_at_end_of open_at_end_of told_at_end_of
  reads-keyword input before s last kind d keyword text cells E is_word e cut =
      let later : Open = InDoctype cut.place cut.d in
      let leads : Leads rules (InDoctype AfterName d) (spell_silent keyword ++ before_end cells) later =
      Leads-append rules (InDoctype AfterName d) (InDoctype (AfterKeyword kind) d) later (spell_silent keyword) (before_end cells) (leads-keyword rules d kind keyword is_word)
      (leads-goes rules (InDoctype (AfterKeyword kind) d) later (before_end cells) refl cut.goes) in
      record {
        later = later;
        is =
            trace-text means.step means.reply means.foreign rules input before s last (InDoctype AfterName d) later (before_end (spell_silent keyword ++ cells)) text
            (characters-before_end (spell_silent keyword ++ cells) text greater_than e)
            (subst (λ l. Leads rules (InDoctype AfterName d) l later) (sym (before_end-append (spell_silent keyword) cells cut.some)) leads);
        at_end = cut.at_end;
      }

  -- what comes after a name and white space is read, and tells its messages
  abbrev ReadsAfter : Input → List ℕ → S → List ℕ → List ℕ → Open → List ℕ → RestAfterName → Type 0
  ReadsAfter input before s last name opened space afterwards =
      ReadsOpen input before s last opened (after_name_text afterwards) (messages_after_open_name rules.exact input before (told_after_name name afterwards) afterwards)
      (keyword_error_at_end rules.exact afterwards ++ doctype_end rules.exact (after_name_end space afterwards) (told_after_name name afterwards))

  -- when nothing comes after a name and white space
  reads-nothing : (input : Input) (before : List ℕ) (s : S) (last name space : List ℕ)
      → ReadsAfter input before s last name (after_name rules (named_doctype name None None false) space) space (NoKeyword [])
  unfolding messages_after_open_name told_at_doctype_end doctype_state_at
  reads-nothing input before s last name [] =
      let d : DoctypeOf = named_doctype name None None false in
      reads-cut input before s last (InDoctype InDoctypeName d) [] (spell_end [] d) (doctype_end rules.exact (Some state.DoctypeName) d) refl
      (cut-end rules.exact (InDoctype InDoctypeName d) InDoctypeName d [] d (doctype_end rules.exact (Some state.DoctypeName) d) refl refl)
  reads-nothing input before s last name (b ∷ space) =
      let d : DoctypeOf = named_doctype name None None false in
      reads-cut input before s last (InDoctype AfterName d) [] (spell_end [] d) (doctype_end rules.exact (Some state.AfterDoctypeName) d) refl
      (cut-end rules.exact (InDoctype AfterName d) AfterName d [] d (doctype_end rules.exact (Some state.AfterDoctypeName) d) refl refl)

  -- a rest that may still begin a keyword
  reads-undecided : (input : Input) (before : List ℕ) (s : S) (last : List ℕ) (d : DoctypeOf) (c : ℕ) (rest : List ℕ) → begins_no_keyword (c ∷ rest) ≡ true → begins_doctype_keyword (c ∷ rest) ≡ true
      → ReadsOpen input before s last (InDoctype AfterName d) (c ∷ rest) [] (error_in rules.exact state.AfterDoctypeName c ∷ Doctype (with_quirks d) ∷ End ∷ [])
  unfolding late_at_end_of open_at_end_of told_at_end_of told_at_doctype_end keyword_error
  reads-undecided input before s last d c rest none begins =
      let all : held_of (c ∷ rest) ≡ c ∷ rest = while-all begins_doctype_keyword closed-doctype_keyword [] (c ∷ rest) begins in
      let leads : Leads rules (InDoctype AfterName d) (spell_silent (c ∷ rest)) (InDoctypeKeyword (c ∷ rest) d) =
      subst (λ l. Leads rules (InDoctype AfterName d) (spell_silent l) (InDoctypeKeyword l d)) all (leads-held rules d c rest none (closed-doctype_keyword (c ∷ []) rest begins)) in
      record {
        later = InDoctypeKeyword (c ∷ rest) d;
        is =
            trace-text means.step means.reply means.foreign rules input before s last (InDoctype AfterName d) (InDoctypeKeyword (c ∷ rest) d) (spell_silent (c ∷ rest)) (c ∷ rest)
            (characters-spell silent (c ∷ rest)) leads
            ∙ ap (λ M. record { messages = M; opened = InDoctypeKeyword (c ∷ rest) d; last_start_tag = last })
            (spelled-nothing rules.exact input silent (λ b g. refl) before (c ∷ rest) (held-plain (c ∷ rest) begins).good);
        at_end = refl;
      }

  -- the line of the error is that of the first character that is held
  line-first : (input : Input) (before : List ℕ) (c : ℕ) (rest : List ℕ) → begins_doctype_keyword (c ∷ []) ≡ true
      → line_after input (before ++ held_of (c ∷ rest)) ≡ line_after input (before ++ c ∷ [])
  line-first input before c rest begins = line-plain input before (held_of (c ∷ rest)) (held_of-plain (c ∷ rest)) ∙ sym (line-plain input before (c ∷ []) (held-plain (c ∷ []) begins))

  held-error : (line c : ℕ) (rest : List ℕ) (d : DoctypeOf) → begins_doctype_keyword (c ∷ []) ≡ true
      → first_error rules d means.step means.reply means.foreign line (held_of (c ∷ rest)) ≡ on_line line (error_in rules.exact state.AfterDoctypeName c ∷ [])
  unfolding run_while keyword_error
  held-error line c rest d begins = rw begins refl

  goes-skipped : (d : DoctypeOf) (rest : List ℕ) → list_all in_skipped_rest rest ≡ true
      → Goes rules.exact (InDoctype Skipped d) (spell (null_error rules.exact state.BogusDoctype) rest) (InDoctype Skipped d)
  unfolding Goes step_at doctype_step skipped_step in_skipped_rest
  goes-skipped d [] all = refl
  goes-skipped d (c ∷ rest) all =
      let p = and_parts (in_skipped_rest c) (list_all in_skipped_rest rest) all in
      (InDoctype Skipped d, rw (not-true (c == greater_than) p.0) refl, goes-skipped d rest p.1)

  -- a rest that begins as a keyword does, up to a character that decides
  reads-decided : (input : Input) (before : List ℕ) (s : S) (last : List ℕ) (d : DoctypeOf) (c : ℕ) (rest : List ℕ) → begins_no_keyword (c ∷ rest) ≡ true → begins_doctype_keyword (c ∷ rest) ≡ false
      → begins_doctype_keyword (c ∷ []) ≡ true → list_all in_skipped_rest (c ∷ rest) ≡ true
      → ReadsOpen input before s last (InDoctype AfterName d) (c ∷ rest)
      (on_line (line_after input (before ++ c ∷ [])) (error_in rules.exact state.AfterDoctypeName c ∷ [])
      ++ spelled_messages rules.exact input (before ++ held_of (c ∷ rest)) (spell (null_error rules.exact state.BogusDoctype) (after_held_of (c ∷ rest))))
      (Doctype (with_quirks d) ∷ End ∷ [])
  unfolding late_at_end_of open_at_end_of told_at_end_of told_at_doctype_end begins_doctype_keyword
  reads-decided input before s last d c rest none decided begins within =
      let held : List ℕ = held_of (c ∷ rest) in
      let afterwards : List ℕ = after_held_of (c ∷ rest) in
      let cells : List Spelled = spell (null_error rules.exact state.BogusDoctype) afterwards in
      let parts : held ++ afterwards ≡ c ∷ rest = while-parts begins_doctype_keyword [] (c ∷ rest) in
      let line : ℕ = line_after input (before ++ held) in
      let E : List Message = first_error rules d means.step means.reply means.foreign line held in
      let N : List Message = spelled_messages rules.exact input (before ++ held) cells in
      let later : Open = InDoctype Skipped (with_quirks d) in
      let error : ℕ → List Message = λ n. on_line n (error_in rules.exact state.AfterDoctypeName c ∷ []) in
      let skipped : list_all in_skipped_rest afterwards ≡ true =
      (and_parts (list_all in_skipped_rest held) (list_all in_skipped_rest afterwards) (sym (list_all-append in_skipped_rest held afterwards) ∙ ap (list_all in_skipped_rest) parts ∙ within)).1 in
      let is_error : E ≡ error line = held-error line c rest d begins in
      record {
        later = later;
        is =
            ap (λ l. trace means.step means.reply means.foreign rules s (line_after input before) last (InDoctype AfterName d) l) (sym parts ∙ ap (λ l. l ++ afterwards) (sym (characters-spell silent held)))
            ∙ trace-leads means.step means.reply means.foreign rules input before s last (InDoctype AfterName d) (InDoctypeKeyword held d) (spell_silent held) afterwards (leads-held rules d c rest none begins)
            ∙ ap (λ l. with_messages l (trace means.step means.reply means.foreign rules (stepped means.step s l) (line_after input (before ++ characters (spell_silent held))) last (InDoctypeKeyword held d) afterwards))
            (spelled-nothing rules.exact input silent (λ b g. refl) before held (held_of-plain (c ∷ rest)).good)
            ∙ ap (λ l. with_messages [] (trace means.step means.reply means.foreign rules (stepped means.step s []) (line_after input (before ++ l)) last (InDoctypeKeyword held d) afterwards)) (characters-spell silent held)
            ∙ ap (with_messages [])
            (trace-decides rules d means.step means.reply means.foreign (stepped means.step s []) line last held afterwards (decides-open begins_doctype_keyword [] (c ∷ rest) refl decided)
            ∙ ap (with_messages E)
            (trace-text means.step means.reply means.foreign rules input (before ++ held) (stepped means.step (stepped means.step s []) E) last later later cells afterwards
            (characters-spell (null_error rules.exact state.BogusDoctype) afterwards)
            (leads-goes rules later later cells refl (goes-skipped (with_quirks d) afterwards skipped))))
            ∙ ap (λ l. record { messages = l ++ N; opened = later; last_start_tag = last }) (is_error ∙ ap error (line-first input before c rest begins));
        at_end = refl;
      }

  -- a rest whose first character begins no keyword
  reads-odd : (input : Input) (before : List ℕ) (s : S) (last name : List ℕ) (c : ℕ) (rest : List ℕ) → begins_doctype_keyword (c ∷ []) ≡ false → is_rest is_white_space (c ∷ rest) ≡ true
      → ReadsOpen input before s last (InDoctype AfterName (named_doctype name None None false)) (c ∷ rest)
      (spelled_messages rules.exact input before (before_end (spell_odd rules.exact state.AfterDoctypeName (named_doctype name None None true) (c ∷ rest))))
      (Doctype (named_doctype name None None true) ∷ End ∷ [])
  unfolding step_at doctype_step space_step keyword_or_end_step in_skipped_rest
  reads-odd input before s last name c rest none h =
      let d : DoctypeOf = named_doctype name None None false in
      let cells : List Spelled = spell_odd rules.exact state.AfterDoctypeName (with_quirks d) (c ∷ rest) in
      let p = and_parts (not (is_white_space c)) (list_all in_skipped_rest (c ∷ rest)) h in
      let q = and_parts (in_skipped_rest c) (list_all in_skipped_rest rest) p.1 in
      reads-cut input before s last (InDoctype AfterName d) (c ∷ rest) cells (Doctype (with_quirks d) ∷ End ∷ []) (characters-after_name rules.exact (with_quirks d) (NoKeyword (c ∷ rest)))
      (cut-odd_some rules.exact (InDoctype AfterName d) state.AfterDoctypeName (with_quirks d) c rest
      (rw (not-true (is_white_space c) p.0, not-true (c == greater_than) q.0, none) refl) p.1)

  reads-rest : (input : Input) (before : List ℕ) (s : S) (last name : List ℕ) (b : ℕ) (space : List ℕ) (c : ℕ) (rest : List ℕ) → is_after_name (NoKeyword (c ∷ rest)) ≡ true
      → ReadsAfter input before s last name (InDoctype AfterName (named_doctype name None None false)) (b ∷ space) (NoKeyword (c ∷ rest))
  unfolding messages_after_open_name
  reads-rest input before s last name b space c rest h = by (begins_doctype_keyword (c ∷ rest)) (begins_doctype_keyword (c ∷ [])) refl refl
    where
      d : DoctypeOf
      d = named_doctype name None None false

      by : (t u : Bool) → begins_doctype_keyword (c ∷ rest) ≡ t → begins_doctype_keyword (c ∷ []) ≡ u
          → ReadsOpen input before s last (InDoctype AfterName d) (c ∷ rest)
          (if t then []
          else if u then
          on_line (line_after input (before ++ c ∷ [])) (error_in rules.exact state.AfterDoctypeName c ∷ [])
          ++ spelled_messages rules.exact input (before ++ held_of (c ∷ rest)) (spell (null_error rules.exact state.BogusDoctype) (after_held_of (c ∷ rest)))
          else spelled_messages rules.exact input before (before_end (spell_odd rules.exact state.AfterDoctypeName (with_quirks d) (c ∷ rest))))
          ((if t then error_in rules.exact state.AfterDoctypeName c ∷ [] else []) ++ Doctype (with_quirks d) ∷ End ∷ [])
      by true u e f = reads-undecided input before s last d c rest (and_parts (begins_no_keyword (c ∷ rest)) (is_rest is_white_space (c ∷ rest)) h).0 e
      by false true e f =
          let p = and_parts (begins_no_keyword (c ∷ rest)) (is_rest is_white_space (c ∷ rest)) h in
          let q = and_parts (not (is_white_space c)) (list_all in_skipped_rest (c ∷ rest)) p.1 in
          reads-decided input before s last d c rest p.0 e f q.1
      by false false e f = reads-odd input before s last name c rest f (and_parts (begins_no_keyword (c ∷ rest)) (is_rest is_white_space (c ∷ rest)) h).1

  -- what comes after a name and white space, up to the text's end
  reads-after : (input : Input) (before : List ℕ) (s : S) (last name space : List ℕ) (afterwards : RestAfterName) → can_stand_after space afterwards ≡ true
      → ReadsAfter input before s last name (after_name rules (named_doctype name None None false) space) space afterwards
  unfolding messages_after_open_name
  reads-after input before s last name space (NoKeyword []) h = reads-nothing input before s last name space
  reads-after input before s last name [] (NoKeyword (c ∷ rest)) h = absurd (false≢true h)
  reads-after input before s last name [] (PublicKeyword keyword later identifier) h = absurd (false≢true h)
  reads-after input before s last name [] (SystemKeyword keyword later identifier) h = absurd (false≢true h)
  reads-after input before s last name (b ∷ space) (NoKeyword (c ∷ rest)) h =
      reads-rest input before s last name b space c rest (and_parts (list_all is_white_space (b ∷ space)) (is_after_name (NoKeyword (c ∷ rest))) h).1
  reads-after input before s last name (b ∷ space) (PublicKeyword keyword later identifier) h =
      let g = (and_parts (list_all is_white_space (b ∷ space)) (is_after_name (PublicKeyword keyword later identifier)) h).1 in
      let p = and_parts (is_keyword Public keyword) (list_all is_white_space later && is_public identifier) g in
      let q = and_parts (list_all is_white_space later) (is_public identifier) p.1 in
      let told : DoctypeOf = told_after_name name (PublicKeyword keyword later identifier) in
      reads-keyword input before s last Public (named_doctype name None None false) keyword (after_name_text (PublicKeyword keyword later identifier))
      (spell_wanted rules.exact Public told later (spell_after_public rules.exact told) identifier) (doctype_end rules.exact (public_end (keyword_state Public later) identifier) told) p.0
      (characters-after_name rules.exact told (PublicKeyword keyword later identifier))
      (cut-public_keyword rules.exact name later identifier q.0 q.1)
  reads-after input before s last name (b ∷ space) (SystemKeyword keyword later identifier) h =
      let g = (and_parts (list_all is_white_space (b ∷ space)) (is_after_name (SystemKeyword keyword later identifier)) h).1 in
      let p = and_parts (is_keyword System keyword) (list_all is_white_space later && is_system identifier) g in
      let q = and_parts (list_all is_white_space later) (is_system identifier) p.1 in
      let told : DoctypeOf = told_after_name name (SystemKeyword keyword later identifier) in
      reads-keyword input before s last System (named_doctype name None None false) keyword (after_name_text (SystemKeyword keyword later identifier))
      (spell_wanted rules.exact System told later (spell_after_system rules.exact told) identifier) (doctype_end rules.exact (system_end (keyword_state System later) identifier) told) p.0
      (characters-after_name rules.exact told (SystemKeyword keyword later identifier))
      (cut-system_keyword rules.exact name later identifier q.0 q.1)

  tokens-word : (space : List ℕ) → tokens_at_end rules (after_word rules space) ≡ open_doctype_at_end rules.exact space NoName
  unfolding late_at_end_of open_at_end_of told_at_end_of told_at_doctype_end doctype_state_at
  tokens-word [] = refl
  tokens-word (c ∷ space) = refl

  -- when there is no name
  reads-no_name : (input : Input) (last : List ℕ) (s : S) (word space : List ℕ) → bytes_eq (lower_case word) (codes "doctype") ≡ true → list_all is_white_space space ≡ true
      → ReadsOpen input [] s last (Between Data) (opening word space ++ []) (spelled_messages rules.exact input [] (spell_silent (opening word space)))
      (open_doctype_at_end rules.exact space NoName)
  reads-no_name input last s word space is_word all = record {
    later = after_word rules space;
    is =
        trace-text means.step means.reply means.foreign rules input [] s last (Between Data) (after_word rules space) (spell_silent (opening word space)) (opening word space ++ [])
        (characters-spell silent (opening word space) ∙ sym (append-nil (opening word space))) (leads-opening rules word space is_word all);
    at_end = tokens-word space;
  }

  -- what comes after `doctype` and white space, up to the text's end
  reads-content : (input : Input) (last : List ℕ) (s : S) (word space : List ℕ) (content : Content) → bytes_eq (lower_case word) (codes "doctype") ≡ true → list_all is_white_space space ≡ true → is_content content ≡ true
      → ReadsOpen input [] s last (Between Data) (opening word space ++ content_text content) (open_doctype_messages rules.exact input word space content)
      (open_doctype_at_end rules.exact space content)
  unfolding open_doctype_messages
  reads-content input last s word space NoName is_word all h = reads-no_name input last s word space is_word all
  reads-content input last s word space (Named first rest later afterwards) is_word all h =
      let p = and_parts (list_all in_doctype_name (first ∷ rest)) (can_stand_after later afterwards) h in
      let name : List ℕ = flat_map name_bytes (first ∷ rest) in
      let cells : List Spelled = spell_name rules.exact word space first rest later in
      let before : List ℕ = opening word space ++ (first ∷ rest ++ later) in
      let text : List ℕ = after_name_text afterwards in
      let M : List Message = spelled_messages rules.exact input [] cells in
      let opened : Open = after_name rules (named rules first rest) later in
      let r = reads-after input before (stepped means.step s M) last name later afterwards p.1 in
      let parts : opening word space ++ ((first ∷ rest ++ later) ++ text) ≡ characters cells ++ text =
      sym (append_assoc (opening word space) (first ∷ rest ++ later) text) ∙ ap (λ l. l ++ text) (sym (characters-name rules.exact word space first rest later)) in
      record {
        later = r.later;
        is =
            ap (trace means.step means.reply means.foreign rules s (line_after input []) last (Between Data)) parts
            ∙ trace-leads means.step means.reply means.foreign rules input [] s last (Between Data) opened cells text (leads-name rules word space first rest later is_word all p.0 (white-after means.step means.reply means.foreign rules later afterwards p.1))
            ∙ ap (λ l. with_messages M (trace means.step means.reply means.foreign rules (stepped means.step s M) (line_after input l) last opened text)) (characters-name rules.exact word space first rest later)
            ∙ ap (with_messages M) r.is;
        at_end = r.at_end;
      }

  -- a doctype without its `>` tells its messages, and its end tells the rest
  pub tells-open_doctype : (K : Start) (s : S) (Y : List ℕ) (doctype : WrittenDoctype) → IsOpenDoctype K Y doctype
      → TellsAll means rules K s Y (open_doctype_messages rules.exact K.input doctype.word doctype.space doctype.content)
      (on_line (line_after (input_after K.input Y) []) (open_doctype_at_end rules.exact doctype.space doctype.content))
  unfolding is_written
  tells-open_doctype K s Y doctype one =
      let p = and_parts (bytes_eq (lower_case doctype.word) (codes "doctype")) (list_all is_white_space doctype.space && is_content doctype.content) one.is_doctype in
      let q = and_parts (list_all is_white_space doctype.space) (is_content doctype.content) p.1 in
      let r = reads-content K.input K.last_start_tag s doctype.word doctype.space doctype.content p.0 q.0 q.1 in
      let M : List Message = open_doctype_messages rules.exact K.input doctype.word doctype.space doctype.content in
      subst (λ tokens. TellsAll means rules K s Y M (on_line (line_after (input_after K.input Y) []) tokens)) r.at_end
      (tells-trace means rules K s Y M r.later K.last_start_tag (rw (one.starts, one.text) r.is))
