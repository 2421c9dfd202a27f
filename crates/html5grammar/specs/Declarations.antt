-- The text after `<!` if it ends before a `>`: a keyword that is not decided, a bogus comment, or a doctype.
use Rattle.std.specs.Prelude.{◌≡◌, ◌&&◌, ◌||◌, ℕ, Bool, true, false, List, [], ◌∷◌, ◌++◌, flat_map, codes, Option, None, Some, if◌then◌else◌}
use Rattle.std.specs.List.{list_all}
use Rattle.html5ever_interface.specs.Sink.{Message, on_line}
use Rattle.html5ever_interface.specs.Token.{Told, DoctypeOf, empty_doctype}
use Rattle.html5ever_interface.specs.Token.Told.{Comment, Doctype, End}
use Rattle.html5ever_interface.specs.declared.states.DoctypeIdKind.{DoctypeIdKind}
use Rattle.html5ever_interface.specs.declared.states.DoctypeIdKind.TheVariants.{Public, System}
use Rattle.html5ever_interface.specs.declared.states.State.{State}
use Rattle.html5ever_interface.specs.declared.states.State.TheVariants as state
use Rattle.html5reading.specs.Characters.{exclamation_mark, name_bytes}
use Rattle.html5reading.specs.Comment.{begins_keyword, begins_cdata, in_bogus_comment}
use Rattle.html5reading.specs.Doctype.{with_quirks, identifier_state, begins_doctype_keyword}
use Rattle.html5reading.specs.ErrorText.{error_in, end_error_in}
use Rattle.html5reading.specs.NormalisedText.{normalised, line_after}
use Rattle.html5grammar.specs.Comment.{can_open, spell_bogus}
use Rattle.html5grammar.specs.Comment.Opening.{ExclamationMark}
use Rattle.html5grammar.specs.Doctype.{Identifier, SystemIdentifier, PublicIdentifier, RestAfterName, Content, WrittenDoctype, opening, content_text, is_written, after_space, keyword_state, between_state, told_after_name, held_of, after_held_of, spell_after_name, spell_name}
use Rattle.html5grammar.specs.Doctype.RestAfterName.{NoKeyword, PublicKeyword, SystemKeyword}
use Rattle.html5grammar.specs.Doctype.Content.{NoName, Named}
use Rattle.html5grammar.specs.Doctype.Identifier.{Missing, Unclosed, Closed}
use Rattle.html5grammar.specs.Spelled.{Spelled, spell, spell_silent, spelled_messages}
use Rattle.html5reading.specs.Start.{Input, Start}
use Rattle.html5reading.specs.Start.Mode.{Data}
use Rattle.html5reading.specs.Start.Open.{Between}
use Rattle.html5reading.specs.Tag.{null_error}

-- ---- a keyword that is not decided

-- "Markup declaration open state": whether the text begins a keyword: `--`, `doctype` in any case, or in foreign content
-- `[CDATA[`
unfoldable pub may_begin : Bool → List ℕ → Bool
may_begin foreign text = begins_keyword text || (foreign && begins_cdata text)

-- "Markup declaration open state", at the end: the text Y is `<!` and a prefix of a keyword, but not the whole of one
pub record IsOpenKeyword (K : Start) (foreign : Bool) (Y : List ℕ) (held : List ℕ) : Type 0 where
  pub starts : K.opened ≡ Between Data
  pub opens : can_open foreign ExclamationMark held ≡ true
  pub undecided : may_begin foreign held ≡ true
  pub text : normalised K.input Y ≡ codes "<!" ++ held

-- "Bogus comment state", at the end: the end makes it a bogus comment. What can begin a keyword is ASCII, so its characters are
-- its bytes.
abbrev pub keyword_at_end : Bool → List ℕ → List Told
keyword_at_end exact held = error_in exact state.MarkupDeclarationOpen exclamation_mark ∷ Comment held ∷ End ∷ []

-- ---- a bogus comment

-- "Bogus comment state", at the end: the text Y is `<!` and a content that begins no keyword, and in which no `>` stands
pub record IsOpenBogusDeclaration (K : Start) (foreign : Bool) (Y : List ℕ) (content : List ℕ) : Type 0 where
  pub starts : K.opened ≡ Between Data
  pub opens : can_open foreign ExclamationMark content ≡ true
  pub decided : may_begin foreign content ≡ false
  pub within : list_all in_bogus_comment content ≡ true
  pub text : normalised K.input Y ≡ codes "<!" ++ content

-- what such a comment tells before the end
abbrev pub bogus_declaration_messages : Bool → Input → List ℕ → List Message
bogus_declaration_messages exact input content =
    on_line (line_after input (codes "<!")) (error_in exact state.MarkupDeclarationOpen exclamation_mark ∷ [])
    ++ spelled_messages exact input (codes "<!") (spell_bogus exact content)

-- ---- a doctype

-- "DOCTYPE state" to "Bogus DOCTYPE state", at the end: the text Y is a doctype, written out, except for its `>`
pub record IsOpenDoctype (K : Start) (Y : List ℕ) (doctype : WrittenDoctype) : Type 0 where
  pub starts : K.opened ≡ Between Data
  pub is_doctype : is_written doctype ≡ true
  pub text : normalised K.input Y ≡ opening doctype.word doctype.space ++ content_text doctype.content

-- all characters but the last
unfoldable pub before_end : List Spelled → List Spelled
before_end [] = []
before_end (here ∷ []) = []
before_end (here ∷ next ∷ more) = here ∷ before_end (next ∷ more)

-- "After DOCTYPE name state", at the end: the messages after the name and white space. They are those of a whole doctype before
-- its `>`. Where a rest may still begin a keyword, nothing is sent yet.
unfoldable pub messages_after_open_name : Bool → Input → List ℕ → DoctypeOf → RestAfterName → List Message
messages_after_open_name exact input before d (NoKeyword (c ∷ rest)) =
    if begins_doctype_keyword (c ∷ rest) then []
    else if begins_doctype_keyword (c ∷ []) then
    on_line (line_after input (before ++ c ∷ [])) (error_in exact state.AfterDoctypeName c ∷ [])
    ++ spelled_messages exact input (before ++ held_of (c ∷ rest)) (spell (null_error exact state.BogusDoctype) (after_held_of (c ∷ rest)))
    else spelled_messages exact input before (before_end (spell_after_name exact d (NoKeyword (c ∷ rest))))
messages_after_open_name exact input before d afterwards = spelled_messages exact input before (before_end (spell_after_name exact d afterwards))

-- what such a doctype tells before the end
unfoldable pub open_doctype_messages : Bool → Input → List ℕ → List ℕ → Content → List Message
open_doctype_messages exact input word space NoName = spelled_messages exact input [] (spell_silent (opening word space))
open_doctype_messages exact input word space (Named first rest later afterwards) =
    spelled_messages exact input [] (spell_name exact word space first rest later)
    ++ messages_after_open_name exact input (opening word space ++ (first ∷ rest ++ later)) (told_after_name (flat_map name_bytes (first ∷ rest)) afterwards) afterwards

-- "Bogus DOCTYPE state": the state that the error of the end names. There is none if a rest is skipped.
abbrev pub rest_state : State → List ℕ → Option State
rest_state named [] = Some named
rest_state named (c ∷ rest) = None

-- the same where an identifier can stand
abbrev pub identifier_end : {B : Type 0} → DoctypeIdKind → State → (List ℕ → B → Option State) → Identifier B → Option State
identifier_end kind named end_after (Missing rest) = rest_state named rest
identifier_end kind named end_after (Unclosed quotes run) = Some (identifier_state quotes kind)
identifier_end kind named end_after (Closed quotes run space afterwards) = end_after space afterwards

-- the same where a system identifier can stand
abbrev pub system_end : State → SystemIdentifier → Option State
system_end named system = identifier_end System named (λ space rest. rest_state (state.AfterDoctypeIdentifier System) rest) system

-- the same where a public identifier can stand
abbrev pub public_end : State → PublicIdentifier → Option State
public_end named identifier = identifier_end Public named (λ space system. system_end (between_state space) system) identifier

-- the same after a name and white space
abbrev pub after_name_end : List ℕ → RestAfterName → Option State
after_name_end space (NoKeyword rest) = rest_state (after_space space state.DoctypeName state.AfterDoctypeName) rest
after_name_end space (PublicKeyword keyword later identifier) = public_end (keyword_state Public later) identifier
after_name_end space (SystemKeyword keyword later identifier) = system_end (keyword_state System later) identifier

-- "DOCTYPE state" to "After DOCTYPE system identifier state", at the end: that is an error with quirks. Where a rest is skipped,
-- the doctype already says them.
abbrev pub doctype_end : Bool → Option State → DoctypeOf → List Told
doctype_end exact None d = Doctype d ∷ End ∷ []
doctype_end exact (Some named) d = end_error_in exact named ∷ Doctype (with_quirks d) ∷ End ∷ []

-- "After DOCTYPE name state", at the end: a rest that may still begin a keyword is an error at its first character
abbrev pub keyword_error_at_end : Bool → RestAfterName → List Told
keyword_error_at_end exact (NoKeyword (c ∷ rest)) = if begins_doctype_keyword (c ∷ rest) then error_in exact state.AfterDoctypeName c ∷ [] else []
keyword_error_at_end exact afterwards = []

-- what the end tells of a doctype
abbrev pub open_doctype_at_end : Bool → List ℕ → Content → List Told
open_doctype_at_end exact space NoName = doctype_end exact (Some (after_space space state.Doctype state.BeforeDoctypeName)) empty_doctype
open_doctype_at_end exact space (Named first rest later afterwards) =
    keyword_error_at_end exact afterwards ++ doctype_end exact (after_name_end later afterwards) (told_after_name (flat_map name_bytes (first ∷ rest)) afterwards)
