-- What any comment, processing instruction and doctype tells except for errors: its token.
use Rattle.std.proofs.Common.{◌≡◌, ℕ, Bool, true, false, List, [], ◌∷◌, ◌++◌, refl, ap, ◌∙◌}
use Rattle.std.specs.Prelude.{codes, flat_map, if◌then◌else◌}
use Rattle.std.proofs.lemmas.List.{append-nil}
use Rattle.html5ever_interface.specs.Sink.{Message, on_line}
use Rattle.html5ever_interface.specs.Token.{Told, DoctypeOf, empty_doctype}
use Rattle.html5ever_interface.specs.Token.Told.{Comment, Instruction, Doctype}
use Rattle.html5ever_interface.specs.declared.states.DoctypeIdKind.{DoctypeIdKind}
use Rattle.html5ever_interface.specs.declared.states.DoctypeIdKind.TheVariants.{Public, System}
use Rattle.html5ever_interface.specs.declared.states.State.{State}
use Rattle.html5ever_interface.specs.declared.states.State.TheVariants as state
use Rattle.html5reading.specs.Characters.{greater_than, exclamation_mark, name_bytes, value_bytes}
use Rattle.html5reading.specs.Doctype.{with_quirks, identifier_state, quote_mark, begins_doctype_keyword}
use Rattle.html5reading.specs.ErrorText.{error_in}
use Rattle.html5reading.specs.NormalisedText.{line_after}
use Rattle.html5reading.specs.Start.{Input, Quotes}
use Rattle.html5reading.specs.Tag.{null_error}
use Rattle.html5grammar.specs.Spelled.{Spelled, spell, spell_silent, spelled_messages}
use Rattle.html5grammar.specs.Comment as one_comment
use Rattle.html5grammar.specs.Comment.{WrittenComment, Ending, before_greater_than, spell_content, null_state, ending_errors, spell_bogus, spell_odd, after_mark_error}
use Rattle.html5grammar.specs.Comment.Ending.{Dashes, Bang, AtOnce, AfterDash}
use Rattle.html5grammar.specs.Comment.Opening.{Solidus, ExclamationMark}
use Rattle.html5grammar.specs.Comment.WrittenComment.{Proper, Bogus}
use Rattle.html5grammar.specs.Doctype as one_doctype
use Rattle.html5grammar.specs.Doctype.{Identifier, SystemIdentifier, PublicIdentifier, RestAfterName, Content, opening, told_after_name, spell_skipped, spell_rest, direct_error, keyword_state, between_state, spell_begun, spell_identifier, spell_after_system, spell_after_public, spell_wanted, spell_after_name, spell_name, held_of, after_held_of, messages_after_name}
use Rattle.html5grammar.specs.Doctype.Content.{NoName, Named}
use Rattle.html5grammar.specs.Doctype.Identifier.{Missing, Unclosed, Closed}
use Rattle.html5grammar.specs.Doctype.RestAfterName.{NoKeyword, PublicKeyword, SystemKeyword}
use Rattle.html5grammar.specs.Instruction as one_instruction
use Rattle.html5grammar.specs.Instruction.{WrittenInstruction}
use Rattle.html5write.specs.Told.{proper}
use Rattle.html5serialize.proofs.Errors.{AreErrors, TellErrors, errors-append, errors-before, errors-where, errors-null, tell-append, tell-spell, tell-silent, proper_tokens, proper_cells, cells-errors, cells-before, proper-append, proper-on_line, proper-spelled}

-- one character with errors before a token
cells-last : (c : ℕ) (errors : List Told) (token : Told) → AreErrors errors → proper_cells (record { character = c; told = errors ++ token ∷ [] } ∷ []) ≡ proper_tokens (token ∷ [])
cells-last c errors token h = append-nil (proper_tokens (errors ++ token ∷ [])) ∙ errors-before errors (token ∷ []) h

-- ---- comments

pub tell-content : (exact : Bool) (before content : List ℕ) → TellErrors (spell_content exact before content)
unfolding spell_content after_mark_error
tell-content exact before [] = tt
tell-content exact before (c ∷ content) = (
  errors-append (after_mark_error exact before c) _ (errors-where _ _) (errors-null exact (null_state before) c),
  tell-content exact (before ++ c ∷ []) content,
)

errors-ending : (exact : Bool) (ending : Ending) → AreErrors (ending_errors exact ending)
errors-ending exact Dashes = refl
errors-ending exact Bang = refl
errors-ending exact AtOnce = refl
errors-ending exact AfterDash = refl

pub tell-bogus : (exact : Bool) (content : List ℕ) → TellErrors (spell_bogus exact content)
tell-bogus exact content = tell-spell (null_error exact state.BogusComment) (λ c. errors-null exact state.BogusComment c) content

pub tell-odd : (exact : Bool) (content : List ℕ) → TellErrors (spell_odd exact content)
tell-odd exact [] = tt
tell-odd exact (c ∷ content) = (errors-null exact state.BogusComment c, tell-bogus exact content)

abbrev pub content_of : WrittenComment → List ℕ
content_of (Proper content ending) = content
content_of (Bogus opening content) = content

pub proper-comment : (exact : Bool) (input : Input) (comment : WrittenComment) → proper (one_comment.messages_of exact input comment) ≡ Comment (flat_map value_bytes (content_of comment)) ∷ []
unfolding one_comment.messages_of
proper-comment exact input (Proper content ending) =
    let last : List Spelled = one_comment.spell_end (ending_errors exact ending) content in
    let inner : List Spelled = spell_content exact [] (content ++ before_greater_than ending) in
    proper-spelled exact input [] (spell_silent (codes "<!--") ++ (inner ++ last))
    ∙ cells-before (spell_silent (codes "<!--")) (inner ++ last) (tell-silent (codes "<!--"))
    ∙ cells-before inner last (tell-content exact [] (content ++ before_greater_than ending))
    ∙ cells-last greater_than (ending_errors exact ending) (Comment (flat_map value_bytes content)) (errors-ending exact ending)
proper-comment exact input (Bogus Solidus content) =
    let last : List Spelled = one_comment.spell_end [] content in
    proper-spelled exact input [] (spell_silent (codes "</") ++ (spell_odd exact content ++ last))
    ∙ cells-before (spell_silent (codes "</")) (spell_odd exact content ++ last) (tell-silent (codes "</"))
    ∙ cells-before (spell_odd exact content) last (tell-odd exact content)
proper-comment exact input (Bogus ExclamationMark content) =
    let last : List Spelled = one_comment.spell_end [] content in
    let M : List Message = on_line (line_after input (codes "<!")) (error_in exact state.MarkupDeclarationOpen exclamation_mark ∷ []) in
    proper-append M (spelled_messages exact input (codes "<!") (spell_bogus exact content ++ last))
    ∙ ap (λ l. l ++ proper (spelled_messages exact input (codes "<!") (spell_bogus exact content ++ last))) (proper-on_line (line_after input (codes "<!")) (error_in exact state.MarkupDeclarationOpen exclamation_mark ∷ []))
    ∙ proper-spelled exact input (codes "<!") (spell_bogus exact content ++ last)
    ∙ cells-before (spell_bogus exact content) last (tell-bogus exact content)

-- ---- processing instructions

pub proper-instruction : (exact : Bool) (input : Input) (instruction : WrittenInstruction) → instruction.is_ended ≡ true
    → proper (one_instruction.messages_of exact input instruction) ≡ Instruction (flat_map value_bytes instruction.content) ∷ []
unfolding one_instruction.messages_of
proper-instruction exact input instruction ended =
    let cells : List Spelled = spell (null_error exact state.ProcessingInstruction) instruction.content in
    let last : List Spelled = one_instruction.spell_end instruction.is_ended instruction.content in
    proper-spelled exact input [] (spell_silent (codes "<?") ++ (cells ++ last))
    ∙ cells-before (spell_silent (codes "<?")) (cells ++ last) (tell-silent (codes "<?"))
    ∙ cells-before cells last (tell-spell (null_error exact state.ProcessingInstruction) (λ c. errors-null exact state.ProcessingInstruction c) instruction.content)
    ∙ rw ended refl

-- ---- doctypes

-- the characters tell this doctype alone
abbrev TellsDoctype : DoctypeOf → List Spelled → Type 0
TellsDoctype d cells = proper_cells cells ≡ Doctype d ∷ []

module _ (exact : Bool) (d : DoctypeOf) where
  doctype-end : (errors : List Told) → AreErrors errors → TellsDoctype d (one_doctype.spell_end errors d)
  doctype-end errors h = cells-last greater_than errors (Doctype d) h

  doctype-skipped : (rest : List ℕ) → TellsDoctype d (spell_skipped exact d rest)
  doctype-skipped rest =
      cells-before (spell (null_error exact state.BogusDoctype) rest) (one_doctype.spell_end [] d)
      (tell-spell (null_error exact state.BogusDoctype) (λ c. errors-null exact state.BogusDoctype c) rest)

  doctype-odd : (named : State) (rest : List ℕ) → TellsDoctype d (one_doctype.spell_odd exact named d rest)
  doctype-odd named [] = refl
  doctype-odd named (c ∷ rest) = ap (λ l. l ++ proper_cells (spell_skipped exact d rest)) (errors-null exact state.BogusDoctype c) ∙ doctype-skipped rest

  doctype-rest : (named : State) (rest : List ℕ) → TellsDoctype d (spell_rest exact named d rest)
  doctype-rest named [] = refl
  doctype-rest named (c ∷ rest) = doctype-odd named (c ∷ rest)

  tell-begun : (kind : DoctypeIdKind) (named : State) (space : List ℕ) (quotes : Quotes) (run : List ℕ) → TellErrors (spell_begun exact kind named space quotes run)
  tell-begun kind named space quotes run =
      (errors-where _ _, tell-spell (null_error exact (identifier_state quotes kind)) (λ c. errors-null exact (identifier_state quotes kind) c) run)

  doctype-identifier : {B : Type 0} (kind : DoctypeIdKind) (named : State) (space : List ℕ) (spell_after : List ℕ → B → List Spelled) (identifier : Identifier B)
      → ((later : List ℕ) (afterwards : B) → TellsDoctype d (spell_after later afterwards))
      → TellsDoctype d (spell_identifier exact kind named d space spell_after identifier)
  doctype-identifier kind named space spell_after (Missing rest) h = doctype-odd named rest
  doctype-identifier kind named space spell_after (Unclosed quotes run) h =
      cells-before (spell_begun exact kind named space quotes run) _ (tell-begun kind named space quotes run)
  doctype-identifier kind named space spell_after (Closed quotes run later afterwards) h =
      cells-before (spell_begun exact kind named space quotes run) _ (tell-begun kind named space quotes run)
      ∙ cells-before (spell_silent (quote_mark quotes ∷ later)) (spell_after later afterwards) (tell-silent (quote_mark quotes ∷ later))
      ∙ h later afterwards

  doctype-after_system : (space rest : List ℕ) → TellsDoctype d (spell_after_system exact d space rest)
  doctype-after_system space rest = doctype-rest (state.AfterDoctypeIdentifier System) rest

  doctype-after_public : (space : List ℕ) (system : SystemIdentifier) → TellsDoctype d (spell_after_public exact d space system)
  doctype-after_public space (Missing []) = refl
  doctype-after_public space (Missing (c ∷ rest)) =
      doctype-identifier System (between_state space) space (spell_after_system exact d) (Missing (c ∷ rest)) doctype-after_system
  doctype-after_public space (Unclosed quotes run) =
      doctype-identifier System (between_state space) space (spell_after_system exact d) (Unclosed quotes run) doctype-after_system
  doctype-after_public space (Closed quotes run later rest) =
      doctype-identifier System (between_state space) space (spell_after_system exact d) (Closed quotes run later rest) doctype-after_system

  doctype-wanted : {B : Type 0} (kind : DoctypeIdKind) (space : List ℕ) (spell_after : List ℕ → B → List Spelled) (identifier : Identifier B)
      → ((later : List ℕ) (afterwards : B) → TellsDoctype d (spell_after later afterwards))
      → TellsDoctype d (spell_wanted exact kind d space spell_after identifier)
  doctype-wanted kind space spell_after identifier h =
      cells-before (spell_silent space) _ (tell-silent space) ∙ doctype-identifier kind (keyword_state kind space) space spell_after identifier h

  pub doctype-after_name : (afterwards : RestAfterName) → TellsDoctype d (spell_after_name exact d afterwards)
  doctype-after_name (NoKeyword rest) = doctype-rest state.AfterDoctypeName rest
  doctype-after_name (PublicKeyword keyword space identifier) =
      cells-before (spell_silent keyword) _ (tell-silent keyword) ∙ doctype-wanted Public space (spell_after_public exact d) identifier doctype-after_public
  doctype-after_name (SystemKeyword keyword space identifier) =
      cells-before (spell_silent keyword) _ (tell-silent keyword) ∙ doctype-wanted System space (spell_after_system exact d) identifier doctype-after_system

  -- a rest that begins as a keyword does
  proper-held : (input : Input) (before held skipped : List ℕ) (line : ℕ) (error : Told) → AreErrors (error ∷ [])
      → proper (spelled_messages exact input before (spell_silent held) ++ (on_line line (error ∷ []) ++ spelled_messages exact input (before ++ held) (spell_skipped exact d skipped))) ≡ Doctype d ∷ []
  proper-held input before held skipped line error h =
      let M : List Message = spelled_messages exact input before (spell_silent held) in
      let N : List Message = on_line line (error ∷ []) in
      let L : List Message = spelled_messages exact input (before ++ held) (spell_skipped exact d skipped) in
      proper-append M (N ++ L)
      ∙ ap (λ l. l ++ proper (N ++ L)) (proper-spelled exact input before (spell_silent held) ∙ cells-errors (spell_silent held) (tell-silent held))
      ∙ proper-append N L
      ∙ ap (λ l. l ++ proper L) (proper-on_line line (error ∷ []) ∙ h)
      ∙ proper-spelled exact input (before ++ held) (spell_skipped exact d skipped)
      ∙ doctype-skipped skipped

  proper-after_name : (input : Input) (before : List ℕ) (afterwards : RestAfterName) → proper (messages_after_name exact input before d afterwards) ≡ Doctype d ∷ []
  unfolding messages_after_name
  proper-after_name input before (NoKeyword []) = proper-spelled exact input before (spell_after_name exact d (NoKeyword [])) ∙ doctype-after_name (NoKeyword [])
  proper-after_name input before (NoKeyword (c ∷ rest)) =
      elim (begins_doctype_keyword (c ∷ [])) as (λ b. proper (if b then
      spelled_messages exact input before (spell_silent (held_of (c ∷ rest)))
      ++ (on_line (line_after input (before ++ c ∷ [])) (error_in exact state.AfterDoctypeName c ∷ [])
      ++ spelled_messages exact input (before ++ held_of (c ∷ rest)) (spell_skipped exact d (after_held_of (c ∷ rest))))
      else spelled_messages exact input before (spell_after_name exact d (NoKeyword (c ∷ rest)))) ≡ Doctype d ∷ []) [
        | true ↦ proper-held input before (held_of (c ∷ rest)) (after_held_of (c ∷ rest)) (line_after input (before ++ c ∷ [])) (error_in exact state.AfterDoctypeName c) refl
        | false ↦ proper-spelled exact input before (spell_after_name exact d (NoKeyword (c ∷ rest))) ∙ doctype-after_name (NoKeyword (c ∷ rest))
      ]
  proper-after_name input before (PublicKeyword keyword space identifier) =
      proper-spelled exact input before (spell_after_name exact d (PublicKeyword keyword space identifier)) ∙ doctype-after_name (PublicKeyword keyword space identifier)
  proper-after_name input before (SystemKeyword keyword space identifier) =
      proper-spelled exact input before (spell_after_name exact d (SystemKeyword keyword space identifier)) ∙ doctype-after_name (SystemKeyword keyword space identifier)

abbrev pub told_content : Content → DoctypeOf
told_content NoName = with_quirks empty_doctype
told_content (Named first rest space afterwards) = told_after_name (flat_map name_bytes (first ∷ rest)) afterwards

pub tell-name : (exact : Bool) (word space : List ℕ) (first : ℕ) (rest later : List ℕ) → TellErrors (spell_name exact word space first rest later)
tell-name exact word space first rest later =
    tell-append (spell_silent (opening word space)) _ (tell-silent (opening word space)) (
      errors-append (direct_error space (error_in exact state.Doctype first)) _ (errors-where _ _) (errors-null exact state.BeforeDoctypeName first),
      tell-append (spell (null_error exact state.DoctypeName) rest) _ (tell-spell (null_error exact state.DoctypeName) (λ c. errors-null exact state.DoctypeName c) rest) (tell-silent later),
    )

pub proper-doctype : (exact : Bool) (input : Input) (word space : List ℕ) (content : Content) → proper (one_doctype.messages_of exact input word space content) ≡ Doctype (told_content content) ∷ []
unfolding one_doctype.messages_of
proper-doctype exact input word space NoName =
    let last : List Spelled = one_doctype.spell_end (error_in exact state.BeforeDoctypeName greater_than ∷ []) (with_quirks empty_doctype) in
    proper-spelled exact input [] (spell_silent (opening word space) ++ last)
    ∙ cells-before (spell_silent (opening word space)) last (tell-silent (opening word space))
proper-doctype exact input word space (Named first rest later afterwards) =
    let d : DoctypeOf = told_after_name (flat_map name_bytes (first ∷ rest)) afterwards in
    let before : List ℕ = opening word space ++ (first ∷ rest ++ later) in
    let N : List Message = messages_after_name exact input before d afterwards in
    proper-append (spelled_messages exact input [] (spell_name exact word space first rest later)) N
    ∙ ap (λ l. l ++ proper N)
    (proper-spelled exact input [] (spell_name exact word space first rest later) ∙ cells-errors (spell_name exact word space first rest later) (tell-name exact word space first rest later))
    ∙ proper-after_name exact d input before afterwards
