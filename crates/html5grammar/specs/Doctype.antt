-- One doctype as source text, and what it tells. Written right that is `<!doctype`, white space, a name, maybe white space and
-- `public` or `system` with identifiers in quotes, and `>`. But each text is one that is `<!` and `doctype` in any case, then
-- what has no `>`, and then `>`: the rest after what is right is skipped.
--
-- From the top down (below, each part stands before the whole that has it):
--   doctype      `<!`, the word, white space, the content, `>`
--   content      nothing (`NoName`); or a name, white space, and what comes after them (`Named`)
--   after that   a rest (`NoKeyword`); or `public` or `system`, white space, and what comes at the place of its identifier
--   identifier   its quote, a run, the quote again, white space, and what comes after them (`Closed`); the same without its second
--                quote (`Unclosed`); or a rest (`Missing`). After a public identifier that of the system can stand, after that of
--                the system only a rest
--   rest         what is skipped, up to the `>`
use Rattle.std.specs.Prelude.{◌≡◌, ℕ, Bool, true, false, List, [], ◌∷◌, ◌++◌, ◌==◌, ◌||◌, ◌&&◌, not, flat_map, codes, Option, None, Some, if◌then◌else◌}
use Rattle.std.specs.List.{list_all}
use Rattle.std.specs.Str.{bytes_eq}
use Rattle.html5ever_interface.specs.Sink.{Message, on_line}
use Rattle.html5ever_interface.specs.Token.{Told, DoctypeOf, empty_doctype}
use Rattle.html5ever_interface.specs.Token.Told.{Doctype, End}
use Rattle.html5ever_interface.specs.declared.states.DoctypeIdKind.{DoctypeIdKind}
use Rattle.html5ever_interface.specs.declared.states.DoctypeIdKind.TheVariants.{Public, System}
use Rattle.html5ever_interface.specs.declared.states.State.{State}
use Rattle.html5ever_interface.specs.declared.states.State.TheVariants as state
use Rattle.html5reading.specs.Characters.{quotation_mark, apostrophe, greater_than, is_white_space, name_bytes, value_bytes, lower_case}
use Rattle.html5reading.specs.Doctype.{with_quirks, in_skipped_rest, quote_mark, identifier_state, in_identifier, keyword_of, is_keyword, begins_doctype_keyword, in_doctype_name}
use Rattle.html5reading.specs.ErrorText.{error_in, where_true}
use Rattle.html5reading.specs.NormalisedText.{normalised, line_after}
use Rattle.html5grammar.specs.Comment.{begins_with}
use Rattle.html5grammar.specs.Spelled.{Spelled, spell, spell_silent, spelled_messages}
use Rattle.html5reading.specs.Slice.{run_while, after_while}
use Rattle.html5reading.specs.Start.{Input, Quotes, Start}
use Rattle.html5reading.specs.Start.Mode.{Data}
use Rattle.html5reading.specs.Start.Open.{Between}
use Rattle.html5reading.specs.Tag.{null_error}
use Rattle.html5grammar.specs.RawText.{next_is}

-- ---- how a doctype is written

-- what comes at the place of an identifier, with what can stand after it. A rest is skipped; it may be empty.
pub data Identifier (Afterwards : Type 0) : Type 0 where
  -- none, but a rest
  Missing : List ℕ → Identifier Afterwards
  -- a quote and the identifier, which the `>` cuts off
  Unclosed : Quotes → List ℕ → Identifier Afterwards
  -- the identifier in its quotes, white space, and what comes after that
  Closed : Quotes → List ℕ → List ℕ → Afterwards → Identifier Afterwards

-- after the identifier of the system stands a rest
abbrev pub SystemIdentifier : Type 0
SystemIdentifier = Identifier (List ℕ)

-- after the public identifier that of the system can stand
abbrev pub PublicIdentifier : Type 0
PublicIdentifier = Identifier SystemIdentifier

-- "After DOCTYPE name state": what comes after a name and white space
pub data RestAfterName : Type 0 where
  -- no keyword, but a rest
  NoKeyword : List ℕ → RestAfterName
  -- `public` in any case, white space, and what comes at the place of its identifier
  PublicKeyword : List ℕ → List ℕ → PublicIdentifier → RestAfterName
  -- `system` likewise
  SystemKeyword : List ℕ → List ℕ → SystemIdentifier → RestAfterName

-- "Before DOCTYPE name state": what comes after `doctype` and white space
pub data Content : Type 0 where
  NoName : Content
  -- the first character of the name, the rest of it, white space, and what comes after that
  Named : ℕ → List ℕ → List ℕ → RestAfterName → Content

-- "DOCTYPE state" to "Bogus DOCTYPE state": after `<!` the word `doctype` in any case, white space, the content, and `>`
pub record WrittenDoctype : Type 0 where
  pub word : List ℕ
  pub space : List ℕ
  pub content : Content

-- ---- its text

-- the text of an identifier, and of what comes after it
abbrev pub identifier_text : {B : Type 0} → (B → List ℕ) → Identifier B → List ℕ
identifier_text text_after (Missing rest) = rest
identifier_text text_after (Unclosed quotes run) = quote_mark quotes ∷ run
identifier_text text_after (Closed quotes run space afterwards) = quote_mark quotes ∷ run ++ (quote_mark quotes ∷ space ++ text_after afterwards)

-- the text of a system identifier and its rest
abbrev pub system_text : SystemIdentifier → List ℕ
system_text identifier = identifier_text (λ rest. rest) identifier

-- the text of a public identifier, and of what comes after it
abbrev pub public_text : PublicIdentifier → List ℕ
public_text identifier = identifier_text system_text identifier

-- the text after a name and white space
abbrev pub after_name_text : RestAfterName → List ℕ
after_name_text (NoKeyword rest) = rest
after_name_text (PublicKeyword keyword space identifier) = keyword ++ (space ++ public_text identifier)
after_name_text (SystemKeyword keyword space identifier) = keyword ++ (space ++ system_text identifier)

-- the text of a content
abbrev pub content_text : Content → List ℕ
content_text NoName = []
content_text (Named first rest space afterwards) = (first ∷ rest ++ space) ++ after_name_text afterwards

-- the text before the content
abbrev pub opening : List ℕ → List ℕ → List ℕ
opening word space = codes "<!" ++ (word ++ space)

-- the text of a doctype
unfoldable pub written : WrittenDoctype → List ℕ
written doctype = opening doctype.word doctype.space ++ (content_text doctype.content ++ greater_than ∷ [])

-- ---- which parts there are

-- "Bogus DOCTYPE state": whether this is a rest. It has no `>`, and doesn't begin with a character that belongs where it stands.
abbrev pub is_rest : (ℕ → Bool) → List ℕ → Bool
is_rest belongs rest = not (next_is belongs rest) && list_all in_skipped_rest rest

-- "Before DOCTYPE public identifier state": where an identifier can stand, white space and its quote belong
abbrev pub belongs_before : ℕ → Bool
belongs_before c = is_white_space c || (c == quotation_mark) || (c == apostrophe)

-- "DOCTYPE public identifier (double-quoted) state" and its three others: whether this is an identifier. It has neither its quote
-- nor `>`.
abbrev pub is_identifier : {B : Type 0} → (B → Bool) → Identifier B → Bool
is_identifier is_after (Missing rest) = is_rest belongs_before rest
is_identifier is_after (Unclosed quotes run) = list_all (in_identifier quotes) run
is_identifier is_after (Closed quotes run space afterwards) =
    list_all (in_identifier quotes) run && (list_all is_white_space space && is_after afterwards)

-- whether this can stand where a system identifier can
abbrev pub is_system : SystemIdentifier → Bool
is_system identifier = is_identifier (is_rest is_white_space) identifier

-- whether this can stand where a public identifier can
abbrev pub is_public : PublicIdentifier → Bool
is_public identifier = is_identifier is_system identifier

-- "After DOCTYPE name state": whether a rest after the name begins with no keyword, in any case
abbrev pub begins_no_keyword : List ℕ → Bool
begins_no_keyword rest = not (begins_with (keyword_of Public) (lower_case rest)) && not (begins_with (keyword_of System) (lower_case rest))

-- whether this can stand after a name and white space
abbrev pub is_after_name : RestAfterName → Bool
is_after_name (NoKeyword rest) = begins_no_keyword rest && is_rest is_white_space rest
is_after_name (PublicKeyword keyword space identifier) = is_keyword Public keyword && (list_all is_white_space space && is_public identifier)
is_after_name (SystemKeyword keyword space identifier) = is_keyword System keyword && (list_all is_white_space space && is_system identifier)

-- "DOCTYPE name state": a name runs to white space or `>`, so after it stands white space, or nothing
abbrev pub can_stand_after : List ℕ → RestAfterName → Bool
can_stand_after [] (NoKeyword []) = true
can_stand_after [] afterwards = false
can_stand_after (c ∷ space) afterwards = list_all is_white_space (c ∷ space) && is_after_name afterwards

-- whether this can stand after `doctype` and white space
abbrev pub is_content : Content → Bool
is_content NoName = true
is_content (Named first rest space afterwards) = list_all in_doctype_name (first ∷ rest) && can_stand_after space afterwards

-- whether this is a doctype, written out
unfoldable pub is_written : WrittenDoctype → Bool
is_written doctype =
    bytes_eq (lower_case doctype.word) (codes "doctype") && (list_all is_white_space doctype.space && is_content doctype.content)

-- ---- the doctype that is sent

-- the identifier that is sent. One that was begun is a text, maybe an empty one.
abbrev pub identifier_told : {B : Type 0} → Identifier B → Option (List ℕ)
identifier_told (Missing rest) = None
identifier_told (Unclosed quotes run) = Some (flat_map value_bytes run)
identifier_told (Closed quotes run space afterwards) = Some (flat_map value_bytes run)

-- the identifier of the system after a public one
abbrev pub system_told : PublicIdentifier → Option (List ℕ)
system_told (Missing rest) = None
system_told (Unclosed quotes run) = None
system_told (Closed quotes run space system) = identifier_told system

-- whether an identifier is missing or not closed. Where one is wanted that brings quirks.
abbrev pub is_not_closed : {B : Type 0} → Identifier B → Bool
is_not_closed (Missing rest) = true
is_not_closed (Unclosed quotes run) = true
is_not_closed (Closed quotes run space afterwards) = false

-- whether there are quirks after a public identifier. There that of the system is not wanted, so nothing can stand there, too.
abbrev pub has_system_quirks : SystemIdentifier → Bool
has_system_quirks (Missing []) = false
has_system_quirks system = is_not_closed system

-- whether there are quirks after `public`
abbrev pub has_public_quirks : PublicIdentifier → Bool
has_public_quirks (Missing rest) = true
has_public_quirks (Unclosed quotes run) = true
has_public_quirks (Closed quotes run space system) = has_system_quirks system

-- the doctype that is sent, by its name and what comes after it
abbrev pub told_after_name : List ℕ → RestAfterName → DoctypeOf
told_after_name name (NoKeyword []) = record { name = Some name; public_id = None; system_id = None; force_quirks = false }
told_after_name name (NoKeyword (c ∷ rest)) = record { name = Some name; public_id = None; system_id = None; force_quirks = true }
told_after_name name (PublicKeyword keyword space identifier) = record {
  name = Some name;
  public_id = identifier_told identifier;
  system_id = system_told identifier;
  force_quirks = has_public_quirks identifier;
}
told_after_name name (SystemKeyword keyword space identifier) = record {
  name = Some name;
  public_id = None;
  system_id = identifier_told identifier;
  force_quirks = is_not_closed identifier;
}

-- ---- what it tells: below, d is the doctype that is sent at the `>`

-- the `>` of a doctype, with errors before it
abbrev pub spell_end : List Told → DoctypeOf → List Spelled
spell_end errors d = record { character = greater_than; told = errors ++ Doctype d ∷ [] } ∷ []

-- "Bogus DOCTYPE state": what is skipped, up to the `>`
abbrev pub spell_skipped : Bool → DoctypeOf → List ℕ → List Spelled
spell_skipped exact d rest = spell (null_error exact state.BogusDoctype) rest ++ spell_end [] d

-- "Bogus DOCTYPE state": where something else is wanted, the first character of a rest is an error, and so is the `>` of an empty
-- one
abbrev pub spell_odd : Bool → State → DoctypeOf → List ℕ → List Spelled
spell_odd exact named d [] = spell_end (error_in exact named greater_than ∷ []) d
spell_odd exact named d (c ∷ rest) =
    record { character = c; told = error_in exact named c ∷ null_error exact state.BogusDoctype c } ∷ spell_skipped exact d rest

-- "Bogus DOCTYPE state": where only the `>` is wanted, an empty rest is no error
abbrev pub spell_rest : Bool → State → DoctypeOf → List ℕ → List Spelled
spell_rest exact named d [] = spell_end [] d
spell_rest exact named d (c ∷ rest) = spell_odd exact named d (c ∷ rest)

-- the first when no white space stands between, and else the second
abbrev pub after_space : {X : Type 0} → List ℕ → X → X → X
after_space [] direct spaced = direct
after_space (c ∷ space) direct spaced = spaced

-- an error when no white space stands between
abbrev pub direct_error : List ℕ → Told → List Told
direct_error space error = where_true (after_space space true false) error

-- "After DOCTYPE public keyword state" or "Before DOCTYPE public identifier state", and those of the system: the state that an
-- error names after a keyword
abbrev pub keyword_state : DoctypeIdKind → List ℕ → State
keyword_state kind space = after_space space (state.AfterDoctypeKeyword kind) (state.BeforeDoctypeIdentifier kind)

-- "After DOCTYPE public identifier state" or "Between DOCTYPE public and system identifiers state": the state that an error names
-- after a public identifier
abbrev pub between_state : List ℕ → State
between_state space = after_space space (state.AfterDoctypeIdentifier Public) state.BetweenDoctypePublicAndSystemIdentifiers

-- "DOCTYPE public identifier (double-quoted) state" and its three others: the identifier and its first quote, which is an error
-- when no white space stands before it
abbrev pub spell_begun : Bool → DoctypeIdKind → State → List ℕ → Quotes → List ℕ → List Spelled
spell_begun exact kind named space quotes run =
    record { character = quote_mark quotes; told = direct_error space (error_in exact named (quote_mark quotes)) }
    ∷ spell (null_error exact (identifier_state quotes kind)) run

-- "Before DOCTYPE public identifier state" and "Before DOCTYPE system identifier state": what comes at the place of an identifier,
-- after white space
abbrev pub spell_identifier : {B : Type 0} → Bool → DoctypeIdKind → State → DoctypeOf → List ℕ → (List ℕ → B → List Spelled) → Identifier B → List Spelled
spell_identifier exact kind named d space spell_after (Missing rest) = spell_odd exact named d rest
spell_identifier exact kind named d space spell_after (Unclosed quotes run) =
    spell_begun exact kind named space quotes run ++ spell_end (error_in exact (identifier_state quotes kind) greater_than ∷ []) d
spell_identifier exact kind named d space spell_after (Closed quotes run later afterwards) =
    spell_begun exact kind named space quotes run ++ (spell_silent (quote_mark quotes ∷ later) ++ spell_after later afterwards)

-- "After DOCTYPE system identifier state": what comes after the identifier of the system
abbrev pub spell_after_system : Bool → DoctypeOf → List ℕ → List ℕ → List Spelled
spell_after_system exact d space rest = spell_rest exact (state.AfterDoctypeIdentifier System) d rest

-- "Between DOCTYPE public and system identifiers state": what comes after the public identifier
abbrev pub spell_after_public : Bool → DoctypeOf → List ℕ → SystemIdentifier → List Spelled
spell_after_public exact d space (Missing []) = spell_end [] d
spell_after_public exact d space system =
    spell_identifier exact System (between_state space) d space (spell_after_system exact d) system

-- "After DOCTYPE public keyword state" and "After DOCTYPE system keyword state": what comes after a keyword
abbrev pub spell_wanted : {B : Type 0} → Bool → DoctypeIdKind → DoctypeOf → List ℕ → (List ℕ → B → List Spelled) → Identifier B → List Spelled
spell_wanted exact kind d space spell_after identifier =
    spell_silent space
    ++ spell_identifier exact kind (keyword_state kind space) d space spell_after identifier

-- "After DOCTYPE name state": what comes after the name and white space
abbrev pub spell_after_name : Bool → DoctypeOf → RestAfterName → List Spelled
spell_after_name exact d (NoKeyword rest) = spell_rest exact state.AfterDoctypeName d rest
spell_after_name exact d (PublicKeyword keyword space identifier) =
    spell_silent keyword ++ spell_wanted exact Public d space (spell_after_public exact d) identifier
spell_after_name exact d (SystemKeyword keyword space identifier) =
    spell_silent keyword ++ spell_wanted exact System d space (spell_after_system exact d) identifier

-- "DOCTYPE state" to "DOCTYPE name state": up to the name and the white space after it. A name directly after `doctype` is an
-- error.
abbrev pub spell_name : Bool → List ℕ → List ℕ → ℕ → List ℕ → List ℕ → List Spelled
spell_name exact word space first rest later =
    spell_silent (opening word space)
    ++ (record { character = first; told = direct_error space (error_in exact state.Doctype first) ++ null_error exact state.BeforeDoctypeName first }
    ∷ spell (null_error exact state.DoctypeName) rest ++ spell_silent later)

-- "After DOCTYPE name state": the longest prefix of a rest that is a prefix of a keyword
abbrev pub held_of : List ℕ → List ℕ
held_of rest = run_while begins_doctype_keyword [] rest

-- the text after that
abbrev pub after_held_of : List ℕ → List ℕ
after_held_of rest = after_while begins_doctype_keyword [] rest

-- "After DOCTYPE name state": the messages after the name and white space, with `before` up to there. Where a rest begins as a
-- keyword does, that is an error on the line of its first character, which it names. It is sent when the first character after
-- what could begin a keyword shows it, before what that character tells.
unfoldable pub messages_after_name : Bool → Input → List ℕ → DoctypeOf → RestAfterName → List Message
messages_after_name exact input before d (NoKeyword (c ∷ rest)) =
    if begins_doctype_keyword (c ∷ []) then
    spelled_messages exact input before (spell_silent (held_of (c ∷ rest)))
    ++ (on_line (line_after input (before ++ c ∷ [])) (error_in exact state.AfterDoctypeName c ∷ [])
    ++ spelled_messages exact input (before ++ held_of (c ∷ rest)) (spell_skipped exact d (after_held_of (c ∷ rest))))
    else spelled_messages exact input before (spell_after_name exact d (NoKeyword (c ∷ rest)))
messages_after_name exact input before d afterwards = spelled_messages exact input before (spell_after_name exact d afterwards)

-- the messages of a doctype, without those of the end of input
unfoldable pub messages_of : Bool → Input → List ℕ → List ℕ → Content → List Message
messages_of exact input word space NoName =
    spelled_messages exact input []
    (spell_silent (opening word space) ++ spell_end (error_in exact state.BeforeDoctypeName greater_than ∷ []) (with_quirks empty_doctype))
messages_of exact input word space (Named first rest later afterwards) =
    spelled_messages exact input [] (spell_name exact word space first rest later)
    ++ messages_after_name exact input (opening word space ++ (first ∷ rest ++ later)) (told_after_name (flat_map name_bytes (first ∷ rest)) afterwards) afterwards

-- the messages of a text that is one doctype
unfoldable pub doctype_messages : Bool → Input → WrittenDoctype → List Message
doctype_messages exact input doctype =
    messages_of exact input doctype.word doctype.space doctype.content ++ record { token = End; line = line_after input (written doctype) } ∷ []

-- the text X, read from the start K, is this doctype, written out
pub record IsDoctype (K : Start) (X : List ℕ) (doctype : WrittenDoctype) : Type 0 where
  pub starts : K.opened ≡ Between Data
  pub is_doctype : is_written doctype ≡ true
  pub text : normalised K.input X ≡ written doctype

-- `<!`, the word, the text and `>` are a doctype, written out
pub record IsDoctypeText (word text : List ℕ) : Type 0 where
  pub doctype : WrittenDoctype
  pub is_doctype : is_written doctype ≡ true
  pub is_text : written doctype ≡ codes "<!" ++ (word ++ (text ++ greater_than ∷ []))
