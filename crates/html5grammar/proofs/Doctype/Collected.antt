-- A doctype tells no text, so a collector keeps its messages one by one.
use Rattle.std.proofs.Common.{◌≡◌, ℕ, Bool, true, false, List, [], ◌∷◌, ◌++◌, refl, ◌∙◌, ap}
use Rattle.std.specs.Prelude.{flat_map, if◌then◌else◌}
use Rattle.html5ever_interface.specs.Collected.{none_collected, collected_step, collected_reply, collected_finish, Collected}
use Rattle.html5ever_interface.specs.Sink.{Message, stepped, on_line}
use Rattle.html5ever_interface.specs.Token.{Told, DoctypeOf, empty_doctype}
use Rattle.html5ever_interface.specs.Token.Told.{Doctype, End}
use Rattle.html5ever_interface.specs.declared.states.DoctypeIdKind.{DoctypeIdKind}
use Rattle.html5ever_interface.specs.declared.states.DoctypeIdKind.TheVariants.{Public, System}
use Rattle.html5ever_interface.specs.declared.states.State.{State}
use Rattle.html5ever_interface.specs.declared.states.State.TheVariants as state
use Rattle.html5reading.specs.Characters.{greater_than, name_bytes}
use Rattle.html5reading.specs.Doctype.{with_quirks, identifier_state, begins_doctype_keyword}
use Rattle.html5reading.specs.ErrorText.{error_in}
use Rattle.html5reading.specs.NormalisedText.{line_after}
use Rattle.html5grammar.specs.Doctype.{Identifier, SystemIdentifier, RestAfterName, Content, WrittenDoctype, opening, written, told_after_name, spell_end, spell_skipped, spell_odd, spell_rest, direct_error, keyword_state, between_state, spell_begun, spell_identifier, spell_after_system, spell_after_public, spell_wanted, spell_after_name, spell_name, held_of, after_held_of, messages_after_name, messages_of, doctype_messages, IsDoctype}
use Rattle.html5grammar.specs.Doctype.RestAfterName.{NoKeyword, PublicKeyword, SystemKeyword}
use Rattle.html5grammar.specs.Doctype.Content.{NoName, Named}
use Rattle.html5grammar.specs.Doctype.Identifier.{Missing, Unclosed, Closed}
use Rattle.html5grammar.specs.Spelled.{Spelled, spell, spell_silent, spelled_messages}
use Rattle.html5reading.specs.Reading.{reading, messages}
use Rattle.html5reading.specs.Start.{Input, Quotes, Start, Rules}
use Rattle.html5reading.specs.Tag.{null_error}
use Rattle.html5grammar.proofs.Doctype.Reading.{reading-doctype}
use Rattle.html5grammar.proofs.Collected.{HasNoText, HasNoText-append, HasNoText-where, TellNoText, TellNoText-append, TellNoText-spell, TellNoText-silent, collected-on_line, collected-spelled_messages, KeepsAll, keeps-append}

module _ (exact : Bool) where
  TellNoText-null : (named : State) (run : List ℕ) → TellNoText (spell (null_error exact named) run)
  TellNoText-null named run = TellNoText-spell (null_error exact named) (λ c. HasNoText-where _ _) run

  TellNoText-end : (errors : List Told) (d : DoctypeOf) → HasNoText errors → TellNoText (spell_end errors d)
  TellNoText-end errors d h = (HasNoText-append errors (Doctype d ∷ []) h (refl, tt), tt)

  TellNoText-skipped : (d : DoctypeOf) (rest : List ℕ) → TellNoText (spell_skipped exact d rest)
  TellNoText-skipped d rest =
      TellNoText-append (spell (null_error exact state.BogusDoctype) rest) (spell_end [] d) (TellNoText-null state.BogusDoctype rest) (TellNoText-end [] d tt)

  TellNoText-odd : (named : State) (d : DoctypeOf) (rest : List ℕ) → TellNoText (spell_odd exact named d rest)
  TellNoText-odd named d [] = TellNoText-end (error_in exact named greater_than ∷ []) d (refl, tt)
  TellNoText-odd named d (c ∷ rest) = ((refl, HasNoText-where _ _), TellNoText-skipped d rest)

  TellNoText-rest : (named : State) (d : DoctypeOf) (rest : List ℕ) → TellNoText (spell_rest exact named d rest)
  TellNoText-rest named d [] = TellNoText-end [] d tt
  TellNoText-rest named d (c ∷ rest) = TellNoText-odd named d (c ∷ rest)

  TellNoText-begun : (kind : DoctypeIdKind) (named : State) (space : List ℕ) (quotes : Quotes) (run : List ℕ) → TellNoText (spell_begun exact kind named space quotes run)
  TellNoText-begun kind named space quotes run = (HasNoText-where _ _, TellNoText-null (identifier_state quotes kind) run)

  TellNoText-identifier : {B : Type 0} → (kind : DoctypeIdKind) (named : State) (d : DoctypeOf) (space : List ℕ) (spell_after : List ℕ → B → List Spelled)
      → ((later : List ℕ) (afterwards : B) → TellNoText (spell_after later afterwards))
      → (identifier : Identifier B) → TellNoText (spell_identifier exact kind named d space spell_after identifier)
  TellNoText-identifier kind named d space spell_after afters (Missing rest) = TellNoText-odd named d rest
  TellNoText-identifier kind named d space spell_after afters (Unclosed quotes run) =
      let error : Told = error_in exact (identifier_state quotes kind) greater_than in
      TellNoText-append (spell_begun exact kind named space quotes run) (spell_end (error ∷ []) d) (TellNoText-begun kind named space quotes run) (TellNoText-end (error ∷ []) d (refl, tt))
  TellNoText-identifier kind named d space spell_after afters (Closed quotes run later afterwards) =
      TellNoText-append (spell_begun exact kind named space quotes run) _ (TellNoText-begun kind named space quotes run)
      (tt, TellNoText-append (spell_silent later) (spell_after later afterwards) (TellNoText-silent later) (afters later afterwards))

  TellNoText-after_system : (d : DoctypeOf) (space rest : List ℕ) → TellNoText (spell_after_system exact d space rest)
  TellNoText-after_system d space rest = TellNoText-rest (state.AfterDoctypeIdentifier System) d rest

  TellNoText-after_public : (d : DoctypeOf) (space : List ℕ) (system : SystemIdentifier) → TellNoText (spell_after_public exact d space system)
  TellNoText-after_public d space (Missing []) = TellNoText-end [] d tt
  TellNoText-after_public d space (Missing (c ∷ rest)) = TellNoText-odd (between_state space) d (c ∷ rest)
  TellNoText-after_public d space (Unclosed quotes run) =
      TellNoText-identifier System (between_state space) d space (spell_after_system exact d) (TellNoText-after_system d) (Unclosed quotes run)
  TellNoText-after_public d space (Closed quotes run later rest) =
      TellNoText-identifier System (between_state space) d space (spell_after_system exact d) (TellNoText-after_system d) (Closed quotes run later rest)

  TellNoText-keyword : {B : Type 0} → (kind : DoctypeIdKind) (d : DoctypeOf) (keyword space : List ℕ) (spell_after : List ℕ → B → List Spelled)
      → ((later : List ℕ) (afterwards : B) → TellNoText (spell_after later afterwards))
      → (identifier : Identifier B) → TellNoText (spell_silent keyword ++ spell_wanted exact kind d space spell_after identifier)
  TellNoText-keyword kind d keyword space spell_after afters identifier =
      TellNoText-append (spell_silent keyword) (spell_wanted exact kind d space spell_after identifier) (TellNoText-silent keyword)
      (TellNoText-append (spell_silent space) (spell_identifier exact kind (keyword_state kind space) d space spell_after identifier) (TellNoText-silent space)
      (TellNoText-identifier kind (keyword_state kind space) d space spell_after afters identifier))

  TellNoText-after_name : (d : DoctypeOf) (afterwards : RestAfterName) → TellNoText (spell_after_name exact d afterwards)
  TellNoText-after_name d (NoKeyword rest) = TellNoText-rest state.AfterDoctypeName d rest
  TellNoText-after_name d (PublicKeyword keyword space identifier) =
      TellNoText-keyword Public d keyword space (spell_after_public exact d) (TellNoText-after_public d) identifier
  TellNoText-after_name d (SystemKeyword keyword space identifier) =
      TellNoText-keyword System d keyword space (spell_after_system exact d) (TellNoText-after_system d) identifier

  TellNoText-name : (word space : List ℕ) (first : ℕ) (rest later : List ℕ) → TellNoText (spell_name exact word space first rest later)
  TellNoText-name word space first rest later =
      TellNoText-append (spell_silent (opening word space)) _ (TellNoText-silent (opening word space)) (
        HasNoText-append (direct_error space (error_in exact state.Doctype first)) _ (HasNoText-where _ _) (HasNoText-where _ _),
        TellNoText-append (spell (null_error exact state.DoctypeName) rest) (spell_silent later) (TellNoText-null state.DoctypeName rest) (TellNoText-silent later),
      )

  -- ---- a collector keeps them

  keeps-cells : (input : Input) (before : List ℕ) (cells : List Spelled) → TellNoText cells → KeepsAll (spelled_messages exact input before cells)
  keeps-cells input before cells h c = collected-spelled_messages exact input before c cells h

  keeps-held : (input : Input) (before : List ℕ) (d : DoctypeOf) (line : ℕ) (error : Told) (held afterwards : List ℕ) → HasNoText (error ∷ [])
      → KeepsAll (spelled_messages exact input before (spell_silent held) ++ (on_line line (error ∷ []) ++ spelled_messages exact input (before ++ held) (spell_skipped exact d afterwards)))
  keeps-held input before d line error held afterwards h =
      let M : List Message = spelled_messages exact input (before ++ held) (spell_skipped exact d afterwards) in
      keeps-append (spelled_messages exact input before (spell_silent held)) (on_line line (error ∷ []) ++ M)
      (keeps-cells input before (spell_silent held) (TellNoText-silent held))
      (keeps-append (on_line line (error ∷ [])) M (λ c. collected-on_line c line (error ∷ []) h)
      (keeps-cells input (before ++ held) (spell_skipped exact d afterwards) (TellNoText-skipped d afterwards)))

  keeps-after_name : (input : Input) (before : List ℕ) (d : DoctypeOf) (afterwards : RestAfterName) → KeepsAll (messages_after_name exact input before d afterwards)
  unfolding messages_after_name
  keeps-after_name input before d (NoKeyword []) = keeps-cells input before (spell_end [] d) (TellNoText-end [] d tt)
  keeps-after_name input before d (NoKeyword (c ∷ rest)) = by (begins_doctype_keyword (c ∷ []))
    where
      error : Told
      error = error_in exact state.AfterDoctypeName c

      by : (t : Bool)
          → KeepsAll (if t then spelled_messages exact input before (spell_silent (held_of (c ∷ rest))) ++ (on_line (line_after input (before ++ c ∷ [])) (error ∷ []) ++ spelled_messages exact input (before ++ held_of (c ∷ rest)) (spell_skipped exact d (after_held_of (c ∷ rest)))) else spelled_messages exact input before (spell_after_name exact d (NoKeyword (c ∷ rest))))
      by true = keeps-held input before d (line_after input (before ++ c ∷ [])) error (held_of (c ∷ rest)) (after_held_of (c ∷ rest)) (refl, tt)
      by false = keeps-cells input before (spell_after_name exact d (NoKeyword (c ∷ rest))) (TellNoText-after_name d (NoKeyword (c ∷ rest)))
  keeps-after_name input before d (PublicKeyword keyword space identifier) =
      keeps-cells input before (spell_after_name exact d (PublicKeyword keyword space identifier)) (TellNoText-after_name d (PublicKeyword keyword space identifier))
  keeps-after_name input before d (SystemKeyword keyword space identifier) =
      keeps-cells input before (spell_after_name exact d (SystemKeyword keyword space identifier)) (TellNoText-after_name d (SystemKeyword keyword space identifier))

  -- the messages of a doctype have no text, so a collector keeps them all
  keeps-content : (input : Input) (word space : List ℕ) (content : Content) → KeepsAll (messages_of exact input word space content)
  unfolding messages_of
  keeps-content input word space NoName =
      let error : Told = error_in exact state.BeforeDoctypeName greater_than in
      let ends : List Spelled = spell_end (error ∷ []) (with_quirks empty_doctype) in
      keeps-cells input [] (spell_silent (opening word space) ++ ends)
      (TellNoText-append (spell_silent (opening word space)) ends (TellNoText-silent (opening word space)) (TellNoText-end (error ∷ []) (with_quirks empty_doctype) (refl, tt)))
  keeps-content input word space (Named first rest later afterwards) =
      let before : List ℕ = opening word space ++ (first ∷ rest ++ later) in
      let d : DoctypeOf = told_after_name (flat_map name_bytes (first ∷ rest)) afterwards in
      keeps-append (spelled_messages exact input [] (spell_name exact word space first rest later)) (messages_after_name exact input before d afterwards)
      (keeps-cells input [] (spell_name exact word space first rest later) (TellNoText-name word space first rest later))
      (keeps-after_name input before d afterwards)

  -- a collector that is sent one doctype holds its messages
  pub collected-doctype : (input : Input) (doctype : WrittenDoctype) → KeepsAll (doctype_messages exact input doctype)
  unfolding doctype_messages
  collected-doctype input doctype =
      let line : ℕ = line_after input (written doctype) in
      keeps-append (messages_of exact input doctype.word doctype.space doctype.content) (on_line line (End ∷ []))
      (keeps-content input doctype.word doctype.space doctype.content) (λ c. collected-on_line c line (End ∷ []) (refl, tt))

-- what a collector holds after a text that is one doctype
pub collects-doctype : (H : Type 0) (rules : Rules) (K : Start) (foreign : Bool) (X : List ℕ) (doctype : WrittenDoctype) → IsDoctype K X doctype
    → collected_finish (stepped collected_step (none_collected foreign) (messages (reading collected_step (collected_reply {H = H}) (λ (c : Collected). c.foreign) rules K (none_collected foreign) X)))
    ≡ record { messages = doctype_messages rules.exact K.input doctype; finished = true; foreign = foreign }
collects-doctype H rules K foreign X doctype one =
    ap (λ M. collected_finish (stepped collected_step (none_collected foreign) M))
    (reading-doctype collected_step (collected_reply {H = H}) (λ (c : Collected). c.foreign) rules K (none_collected foreign) X doctype one)
    ∙ ap collected_finish (collected-doctype rules.exact K.input doctype (none_collected foreign))
