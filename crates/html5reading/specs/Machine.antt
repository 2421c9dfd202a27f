-- The machine between the slices and the code: what one character tells where something is open, and what is open then. The
-- contracts of the states' functions cite it. It is no definition of the grammar: `traces` proves that slices tell the same.
use Rattle.std.specs.Prelude.{ℕ, Bool, true, false, List, [], ◌∷◌, ◌++◌, ◌==◌, ◌&&◌, codes, encode_utf8, Some, if◌then◌else◌}
use Rattle.std.specs.Str.{bytes_eq}
use Rattle.html5ever_interface.specs.Sink.{Message, stepped, on_line}
use Rattle.html5ever_interface.specs.Token.{Told, DoctypeOf, Reply, empty_doctype}
use Rattle.html5ever_interface.specs.Token.Told.{Text, Null, Tag, Comment, Instruction, Doctype}
use Rattle.html5ever_interface.specs.declared.interface.token.TagKind.TheVariants.{StartTag, EndTag}
use Rattle.html5ever_interface.specs.declared.states.AttrValueKind.{AttrValueKind}
use Rattle.html5ever_interface.specs.declared.states.AttrValueKind.TheVariants.{Unquoted, SingleQuoted, DoubleQuoted}
use Rattle.html5ever_interface.specs.declared.states.DoctypeIdKind.{DoctypeIdKind}
use Rattle.html5ever_interface.specs.declared.states.DoctypeIdKind.TheVariants.{Public, System}
use Rattle.html5ever_interface.specs.declared.states.RawKind.{RawKind}
use Rattle.html5ever_interface.specs.declared.states.RawKind.TheVariants as raw_kind
use Rattle.html5ever_interface.specs.declared.states.ScriptEscapeKind.{ScriptEscapeKind}
use Rattle.html5ever_interface.specs.declared.states.ScriptEscapeKind.TheVariants as escape_kind
use Rattle.html5ever_interface.specs.declared.states.State.{State}
use Rattle.html5ever_interface.specs.declared.states.State.TheVariants as state
use Rattle.html5reading.specs.Cdata.{ends_cdata, told_at_end_of_cdata}
use Rattle.html5reading.specs.Characters.{null, exclamation_mark, quotation_mark, ampersand, apostrophe, hyphen, solidus, less_than, equals_sign, greater_than, question_mark, is_letter, is_white_space, value_bytes, lower_case}
use Rattle.html5reading.specs.Comment.{comment_errors, ends_comment, comment_end_error, comment_content, begins_keyword, declaration_error, cdata_keyword, begins_cdata}
use Rattle.html5reading.specs.Doctype.{with_quirks, with_doctype_name, with_first_of_name, with_begun_identifier, with_identifier, identifier_state, in_identifier, is_keyword, begins_doctype_keyword, keyword_error, in_doctype_name, word_error}
use Rattle.html5reading.specs.ErrorText.{error_in, where_true, bad_character_error}
use Rattle.html5reading.specs.Reading.{Here, Brought, last_after, open_after_reply}
use Rattle.html5reading.specs.Reading.Here.{Tells, TellsTag}
use Rattle.html5reading.specs.Start.{Raw, OpenTag, Place, RawPlace, Quotes, DoctypePlace, Stand, Open, Rules, begun, raw_of}
use Rattle.html5reading.specs.Start.Stand.{InText, InAttribute}
use Rattle.html5reading.specs.Start.Dashes.{TwoDashes}
use Rattle.html5reading.specs.Start.Raw.{ScriptData, Escaped}
use Rattle.html5reading.specs.Start.Mode.{Data, Plain, RawText, Cdata}
use Rattle.html5reading.specs.Start.RawPlace.{AfterLessThan, InEndName, AfterMark, AfterMarkAndDash, InSwitch}
use Rattle.html5reading.specs.Start.Place.{InName, BeforeAttribute, InAttributeName, AfterAttributeName, BeforeValue, InValue, AfterQuotedValue, AfterSolidus}
use Rattle.html5reading.specs.Start.DoctypePlace.{AfterWord, BeforeName, InDoctypeName, AfterName, AfterKeyword, BeforeIdentifier, InIdentifier, AfterIdentifier, BetweenIdentifiers, Skipped}
use Rattle.html5reading.specs.Start.Quotes.{DoubleQuotes, SingleQuotes}
use Rattle.html5reading.specs.Start.Open.{Between, LessThan, LessThanSolidus, InTag, InRaw, InDeclaration, InComment, InBogusComment, InInstruction, InDoctype, InDoctypeKeyword, InCdata, InReference}
use Rattle.html5reading.specs.Reference.{Found, in_value, reference, is_undecided, ends_number, late_tokens, opened_after, with_value}
use Rattle.html5reading.specs.Tag.{with_last_attribute, duplicate_error, end_tag_errors, told_tag, null_error, in_quoted, in_unquoted, unquoted_error, in_attribute_name, attribute_name_error, with_last_name, place_error, first_error, is_after_solidus, in_tag_name, with_name}
use Rattle.html5reading.specs.RawText.{raw_text_of, texts, ends_name, kind_of, is_rcdata, raw_after, raw_character, ends_raw_text, switched, told_at_less_than, told_after_less_than, begins_mark, begins_switch}
use Rattle.html5reading.specs.Text.{plain_text}

-- a step that sends these tokens first
abbrev pub told_first : List Told → Here Open → Here Open
told_first before (Tells told later) = Tells (before ++ told) later
told_first before (TellsTag told tag) = TellsTag (before ++ told) tag

-- the `>` of a tag, in each state of tags
unfoldable pub closing_step : List Told → OpenTag → Bool → Here Open
closing_step errors tag self_closing =
    let closed : OpenTag = with_last_attribute tag in
    TellsTag (errors ++ (duplicate_error tag ++ end_tag_errors closed self_closing)) (told_tag closed self_closing)

-- "Tag name state"
unfoldable pub tag_name_step : Bool → OpenTag → ℕ → Here Open
tag_name_step exact tag c =
    if in_tag_name c then Tells (null_error exact state.TagName c) (InTag InName (with_name tag (c ∷ [])))
    else if is_white_space c then Tells [] (InTag BeforeAttribute tag)
    else if c == solidus then Tells [] (InTag AfterSolidus tag)
    else closing_step [] tag false

-- "Before attribute name state", "After attribute value (quoted) state" and "Self-closing start tag state", by the place
unfoldable pub part_step : Bool → Place → OpenTag → ℕ → Here Open
part_step exact place tag c =
    let errors : List Told = place_error exact place c in
    if c == greater_than then closing_step errors tag (is_after_solidus place)
    else if is_white_space c then Tells errors (InTag BeforeAttribute tag)
    else if c == solidus then Tells errors (InTag AfterSolidus tag)
    else Tells (errors ++ (first_error exact place c ++ duplicate_error tag)) (InTag InAttributeName (with_last_name (with_last_attribute tag) (c ∷ [])))

-- "Attribute name state"
unfoldable pub attribute_name_step : Bool → OpenTag → ℕ → Here Open
attribute_name_step exact tag c =
    if in_attribute_name c then Tells (attribute_name_error exact c) (InTag InAttributeName (with_last_name tag (c ∷ [])))
    else if is_white_space c then Tells [] (InTag AfterAttributeName tag)
    else if c == solidus then Tells [] (InTag AfterSolidus tag)
    else if c == equals_sign then Tells [] (InTag BeforeValue tag)
    else closing_step [] tag false

-- "After attribute name state"
unfoldable pub after_attribute_name_step : Bool → OpenTag → ℕ → Here Open
after_attribute_name_step exact tag c =
    if is_white_space c then Tells [] (InTag AfterAttributeName tag)
    else if c == equals_sign then Tells [] (InTag BeforeValue tag)
    else part_step exact AfterAttributeName tag c

-- "Attribute value (double-quoted) state" and "Attribute value (single-quoted) state"
unfoldable pub quoted_step : Bool → AttrValueKind → OpenTag → ℕ → Here Open
quoted_step exact kind tag c =
    if in_quoted kind c then Tells (null_error exact (state.AttributeValue kind) c) (InTag (InValue kind) (with_value tag (c ∷ [])))
    else if c == ampersand then Tells [] (InReference (InAttribute kind tag) [])
    else Tells [] (InTag AfterQuotedValue tag)

-- "Attribute value (unquoted) state"
unfoldable pub unquoted_step : Bool → OpenTag → ℕ → Here Open
unquoted_step exact tag c =
    if in_unquoted c then Tells (unquoted_error exact c) (InTag (InValue Unquoted) (with_value tag (c ∷ [])))
    else if c == ampersand then Tells [] (InReference (InAttribute Unquoted tag) [])
    else if c == greater_than then closing_step [] tag false
    else Tells [] (InTag BeforeAttribute tag)

-- "Before attribute value state"
unfoldable pub before_value_step : Bool → OpenTag → ℕ → Here Open
before_value_step exact tag c =
    if is_white_space c then Tells [] (InTag BeforeValue tag)
    else if c == quotation_mark then Tells [] (InTag (InValue DoubleQuoted) tag)
    else if c == apostrophe then Tells [] (InTag (InValue SingleQuoted) tag)
    else if c == greater_than then closing_step (error_in exact state.BeforeAttributeValue equals_sign ∷ []) tag false
    else unquoted_step exact tag c

-- the states of tags, by the place
unfoldable pub tag_step : Bool → Place → OpenTag → ℕ → Here Open
tag_step exact InName tag c = tag_name_step exact tag c
tag_step exact InAttributeName tag c = attribute_name_step exact tag c
tag_step exact AfterAttributeName tag c = after_attribute_name_step exact tag c
tag_step exact BeforeValue tag c = before_value_step exact tag c
tag_step exact (InValue Unquoted) tag c = unquoted_step exact tag c
tag_step exact (InValue SingleQuoted) tag c = quoted_step exact SingleQuoted tag c
tag_step exact (InValue DoubleQuoted) tag c = quoted_step exact DoubleQuoted tag c
tag_step exact BeforeAttribute tag c = part_step exact BeforeAttribute tag c
tag_step exact AfterQuotedValue tag c = part_step exact AfterQuotedValue tag c
tag_step exact AfterSolidus tag c = part_step exact AfterSolidus tag c

-- "Data state", where `before` is sent first
unfoldable pub data_step : Bool → List Told → ℕ → Here Open
data_step exact before c =
    if c == less_than then Tells before LessThan
    else if c == ampersand then Tells before (InReference (InText Data) [])
    else if c == null then Tells (before ++ error_in exact state.Data c ∷ Null ∷ []) (Between Data)
    else Tells (before ++ Text (encode_utf8 c) ∷ []) (Between Data)

-- comments

-- "Bogus comment state", where `first` is sent first
unfoldable pub bogus_comment_step : Bool → List ℕ → List Told → ℕ → Here Open
bogus_comment_step exact before first c =
    if c == greater_than then Tells (first ++ Comment before ∷ []) (Between Data)
    else Tells (first ++ null_error exact state.BogusComment c) (InBogusComment (before ++ value_bytes c))

-- "Comment start state" to "Comment end bang state", by the comment's text
unfoldable pub comment_step : Bool → List ℕ → ℕ → Here Open
comment_step exact before c =
    if (c == greater_than) && ends_comment before then Tells (comment_end_error exact before ++ Comment (comment_content before) ∷ []) (Between Data)
    else Tells (comment_errors exact before c) (InComment (before ++ value_bytes c))

-- processing instructions

-- a processing instruction, which the standard doesn't have
unfoldable pub instruction_step : Bool → List ℕ → ℕ → Here Open
instruction_step exact before c =
    if c == greater_than then Tells (Instruction before ∷ []) (Between Data)
    else Tells (null_error exact state.ProcessingInstruction c) (InInstruction (before ++ value_bytes c))

-- CDATA sections, with the characters that are held

-- "CDATA section state", "CDATA section bracket state" and "CDATA section end state"
unfoldable pub cdata_step : List ℕ → ℕ → Here Open
cdata_step held c =
    if (c == greater_than) && ends_cdata held then Tells (told_at_end_of_cdata held) (Between Data)
    else if c == null then Tells (texts held ++ Null ∷ []) (Between Cdata)
    else Tells [] (InCdata (held ++ c ∷ []))

-- doctypes

-- "Bogus DOCTYPE state", where errors are sent first
unfoldable pub skipped_step : Bool → List Told → DoctypeOf → ℕ → Here Open
skipped_step exact errors d c =
    if c == greater_than then Tells (errors ++ Doctype d ∷ []) (Between Data)
    else Tells (errors ++ null_error exact state.BogusDoctype c) (InDoctype Skipped d)

-- "Before DOCTYPE name state", after white space
unfoldable pub wanted_name_step : Bool → List Told → DoctypeOf → ℕ → Here Open
wanted_name_step exact errors d c =
    if c == greater_than then Tells (errors ++ error_in exact state.BeforeDoctypeName c ∷ Doctype (with_quirks d) ∷ []) (Between Data)
    else Tells (errors ++ null_error exact state.BeforeDoctypeName c) (InDoctype InDoctypeName (with_first_of_name d c))

-- "DOCTYPE name state"
unfoldable pub doctype_name_step : Bool → DoctypeOf → ℕ → Here Open
doctype_name_step exact d c =
    if in_doctype_name c then Tells (null_error exact state.DoctypeName c) (InDoctype InDoctypeName (with_doctype_name d (c ∷ [])))
    else if c == greater_than then Tells (Doctype d ∷ []) (Between Data)
    else Tells [] (InDoctype AfterName d)

-- "After DOCTYPE name state", after white space
unfoldable pub keyword_or_end_step : Bool → DoctypeOf → ℕ → Here Open
keyword_or_end_step exact d c =
    if c == greater_than then Tells (Doctype d ∷ []) (Between Data)
    else if begins_doctype_keyword (c ∷ []) then Tells [] (InDoctypeKeyword (c ∷ []) d)
    else skipped_step exact (error_in exact state.AfterDoctypeName c ∷ []) (with_quirks d) c

-- "Before DOCTYPE public identifier state" and "Before DOCTYPE system identifier state", after white space
unfoldable pub wanted_identifier_step : Bool → Bool → State → DoctypeIdKind → DoctypeOf → ℕ → Here Open
wanted_identifier_step exact is_direct named kind d c =
    let error : Told = error_in exact named c in
    if c == quotation_mark then Tells (where_true is_direct error) (InDoctype (InIdentifier DoubleQuotes kind) (with_begun_identifier kind d))
    else if c == apostrophe then Tells (where_true is_direct error) (InDoctype (InIdentifier SingleQuotes kind) (with_begun_identifier kind d))
    else skipped_step exact (error ∷ []) (with_quirks d) c

-- "Between DOCTYPE public and system identifiers state", after white space
unfoldable pub system_or_end_step : Bool → Bool → State → DoctypeOf → ℕ → Here Open
system_or_end_step exact is_direct named d c =
    if c == greater_than then Tells (Doctype d ∷ []) (Between Data) else wanted_identifier_step exact is_direct named System d c

-- "DOCTYPE public identifier (double-quoted) state" and its three others
unfoldable pub identifier_step : Bool → Quotes → DoctypeIdKind → DoctypeOf → ℕ → Here Open
identifier_step exact quotes kind d c =
    if in_identifier quotes c then Tells (null_error exact (identifier_state quotes kind) c) (InDoctype (InIdentifier quotes kind) (with_identifier kind d (c ∷ [])))
    else if c == greater_than then Tells (error_in exact (identifier_state quotes kind) c ∷ Doctype (with_quirks d) ∷ []) (Between Data)
    else Tells [] (InDoctype (AfterIdentifier kind) d)

-- "After DOCTYPE public identifier state" and "After DOCTYPE system identifier state"
unfoldable pub after_identifier_step : Bool → DoctypeIdKind → DoctypeOf → ℕ → Here Open
after_identifier_step exact Public d c =
    if is_white_space c then Tells [] (InDoctype BetweenIdentifiers d)
    else system_or_end_step exact true (state.AfterDoctypeIdentifier Public) d c
after_identifier_step exact System d c =
    if is_white_space c then Tells [] (InDoctype (AfterIdentifier System) d)
    else if c == greater_than then Tells (Doctype d ∷ []) (Between Data)
    else skipped_step exact (error_in exact (state.AfterDoctypeIdentifier System) c ∷ []) d c

-- where white space is skipped, after which the place is this
unfoldable pub space_step : DoctypePlace → DoctypeOf → ℕ → Here Open → Here Open
space_step place d c next = if is_white_space c then Tells [] (InDoctype place d) else next

-- the states of doctypes, by the place
unfoldable pub doctype_step : Bool → DoctypePlace → DoctypeOf → ℕ → Here Open
doctype_step exact AfterWord d c = space_step BeforeName d c (wanted_name_step exact (word_error exact c) d c)
doctype_step exact BeforeName d c = space_step BeforeName d c (wanted_name_step exact [] d c)
doctype_step exact InDoctypeName d c = doctype_name_step exact d c
doctype_step exact AfterName d c = space_step AfterName d c (keyword_or_end_step exact d c)
doctype_step exact (AfterKeyword kind) d c = space_step (BeforeIdentifier kind) d c (wanted_identifier_step exact true (state.AfterDoctypeKeyword kind) kind d c)
doctype_step exact (BeforeIdentifier kind) d c = space_step (BeforeIdentifier kind) d c (wanted_identifier_step exact false (state.BeforeDoctypeIdentifier kind) kind d c)
doctype_step exact (InIdentifier quotes kind) d c = identifier_step exact quotes kind d c
doctype_step exact (AfterIdentifier kind) d c = after_identifier_step exact kind d c
doctype_step exact BetweenIdentifiers d c = space_step BetweenIdentifiers d c (system_or_end_step exact false state.BetweenDoctypePublicAndSystemIdentifiers d c)
doctype_step exact Skipped d c = skipped_step exact [] d c

-- "Tag open state"
unfoldable pub less_than_step : Bool → ℕ → Here Open
less_than_step exact c =
    if is_letter c then tag_name_step exact (begun StartTag) c
    else if c == solidus then Tells [] LessThanSolidus
    else if c == exclamation_mark then Tells [] (InDeclaration [])
    else if c == question_mark then Tells [] (InInstruction [])
    else data_step exact (error_in exact state.TagOpen c ∷ Text (codes "<") ∷ []) c

-- "End tag open state"
unfoldable pub solidus_step : Bool → ℕ → Here Open
solidus_step exact c =
    if is_letter c then tag_name_step exact (begun EndTag) c
    else if c == greater_than then Tells (error_in exact state.EndTagOpen c ∷ []) (Between Data)
    else bogus_comment_step exact [] (error_in exact state.EndTagOpen c ∷ []) c

-- raw text

-- "RCDATA state", "RAWTEXT state", "Script data state" and the escaped states, where `before` is sent first
unfoldable pub raw_step : Bool → Raw → List ℕ → List Told → ℕ → Here Open
raw_step exact raw name before c =
    if c == less_than then Tells (before ++ told_at_less_than (kind_of raw)) (InRaw (AfterLessThan (kind_of raw)) name)
    else if is_rcdata raw && (c == ampersand) then Tells before (InReference (InText (RawText raw name)) [])
    else Tells (before ++ raw_character exact raw c) (Between (RawText (raw_after raw c) name))

-- "Tag name state", after the letters of an end tag's name
unfoldable pub tag_name_end_step : OpenTag → ℕ → Here Open
tag_name_end_step tag c =
    if is_white_space c then Tells [] (InTag BeforeAttribute tag)
    else if c == solidus then Tells [] (InTag AfterSolidus tag)
    else closing_step [] tag false

-- "RCDATA end tag open state", "RCDATA end tag name state" and those of other raw text
unfoldable pub end_name_step : Bool → RawKind → List ℕ → List ℕ → ℕ → Here Open
end_name_step exact kind name letters c =
    if is_letter c then Tells [] (InRaw (InEndName kind (letters ++ c ∷ [])) name)
    else if ends_raw_text name letters c then tag_name_end_step (with_name (begun EndTag) letters) c
    else raw_step exact (raw_of kind) name (texts (less_than ∷ solidus ∷ letters)) c

-- "Script data double escape start state" and "Script data double escape end state"
unfoldable pub switch_step : Bool → ScriptEscapeKind → List ℕ → List ℕ → ℕ → Here Open
switch_step exact kind name letters c =
    if is_letter c then Tells (texts (c ∷ [])) (InRaw (InSwitch kind (letters ++ c ∷ [])) name)
    else if ends_name c then Tells (texts (c ∷ [])) (raw_text_of (raw_kind.ScriptDataEscaped (switched kind letters)) name)
    else raw_step exact (raw_of (raw_kind.ScriptDataEscaped kind)) name [] c

-- "Script data escape start state"
unfoldable pub mark_step : Bool → List ℕ → ℕ → Here Open
mark_step exact name c =
    if c == hyphen then Tells (texts (c ∷ [])) (InRaw AfterMarkAndDash name) else raw_step exact ScriptData name [] c

-- "Script data escape start dash state"
unfoldable pub mark_and_dash_step : Bool → List ℕ → ℕ → Here Open
mark_and_dash_step exact name c =
    if c == hyphen then Tells (texts (c ∷ [])) (Between (RawText (Escaped TwoDashes) name)) else raw_step exact ScriptData name [] c

-- `/` in the less-than sign states of raw text
unfoldable pub raw_solidus_step : RawKind → List ℕ → Here Open
raw_solidus_step (raw_kind.ScriptDataEscaped escape_kind.DoubleEscaped) name =
    Tells (texts (solidus ∷ [])) (InRaw (InSwitch escape_kind.DoubleEscaped []) name)
raw_solidus_step kind name = Tells [] (InRaw (InEndName kind []) name)

-- "RCDATA less-than sign state", "RAWTEXT less-than sign state", "Script data less-than sign state" and the escaped ones
unfoldable pub raw_less_than_step : Bool → RawKind → List ℕ → ℕ → Here Open
raw_less_than_step exact kind name c =
    if c == solidus then raw_solidus_step kind name
    else if begins_mark kind c then Tells (texts (less_than ∷ c ∷ [])) (InRaw AfterMark name)
    else if begins_switch kind c then Tells (texts (less_than ∷ c ∷ [])) (InRaw (InSwitch escape_kind.Escaped (c ∷ [])) name)
    else raw_step exact (raw_of kind) name (told_after_less_than kind) c

-- the states of raw text where something is open, by the place
unfoldable pub raw_place_step : Bool → RawPlace → List ℕ → ℕ → Here Open
raw_place_step exact (AfterLessThan kind) name c = raw_less_than_step exact kind name c
raw_place_step exact (InEndName kind letters) name c = end_name_step exact kind name letters c
raw_place_step exact AfterMark name c = mark_step exact name c
raw_place_step exact AfterMarkAndDash name c = mark_and_dash_step exact name c
raw_place_step exact (InSwitch kind letters) name c = switch_step exact kind name letters c

-- each state when nothing is undecided
unfoldable pub step_at : Bool → Open → ℕ → Here Open
step_at exact (Between Data) c = data_step exact [] c
step_at exact (Between Plain) c = Tells (plain_text exact c) (Between Plain)
step_at exact (Between (RawText raw name)) c = raw_step exact raw name [] c
step_at exact (Between Cdata) c = cdata_step [] c
step_at exact (InRaw place name) c = raw_place_step exact place name c
step_at exact LessThan c = less_than_step exact c
step_at exact LessThanSolidus c = solidus_step exact c
step_at exact (InTag place tag) c = tag_step exact place tag c
step_at exact (InComment before) c = comment_step exact before c
step_at exact (InBogusComment before) c = bogus_comment_step exact before [] c
step_at exact (InInstruction before) c = instruction_step exact before c
step_at exact (InDoctype place d) c = doctype_step exact place d c
step_at exact (InCdata held) c = cdata_step held c
step_at exact undecided c = Tells [] undecided

-- "Character reference state" and those that it leads to: a character after the held text of a reference
unfoldable pub reference_step : Rules → Stand → List ℕ → ℕ → Brought Open
reference_step rules stand held c =
    let found : Found = reference rules (in_value stand) held (Some c) in
    if is_undecided rules.references (held ++ c ∷ []) then record { settled = []; here = Tells [] (InReference stand (held ++ c ∷ [])) }
    else if ends_number held c then record { settled = late_tokens stand found held; here = Tells [] (opened_after stand found held) }
    else record { settled = late_tokens stand found held; here = step_at rules.exact (opened_after stand found held) c }

-- "Markup declaration open state": a character with which neither of the first two keywords goes on, by the sink's answer
unfoldable pub declaration_answer_step : Bool → Bool → List ℕ → ℕ → Brought Open
declaration_answer_step exact foreign held c =
    if foreign && bytes_eq (held ++ c ∷ []) cdata_keyword then record { settled = []; here = Tells [] (Between Cdata) }
    else if foreign && begins_cdata (held ++ c ∷ []) then record { settled = []; here = Tells [] (InDeclaration (held ++ c ∷ [])) }
    else record { settled = declaration_error exact held; here = bogus_comment_step exact held [] c }

-- "Markup declaration open state": a character after `<!` and the text held there
unfoldable pub declaration_step : Bool → Bool → List ℕ → ℕ → Brought Open
declaration_step exact foreign held c =
    if bytes_eq (held ++ c ∷ []) (codes "--") then record { settled = []; here = Tells [] (InComment []) }
    else if bytes_eq (lower_case (held ++ c ∷ [])) (codes "doctype") then record { settled = []; here = Tells [] (InDoctype AfterWord empty_doctype) }
    else if begins_keyword (held ++ c ∷ []) then record { settled = []; here = Tells [] (InDeclaration (held ++ c ∷ [])) }
    else declaration_answer_step exact foreign held c

-- "After DOCTYPE name state": a character after what may begin a keyword
unfoldable pub doctype_keyword_step : Bool → List ℕ → DoctypeOf → ℕ → Brought Open
doctype_keyword_step exact held d c =
    if is_keyword Public (held ++ c ∷ []) then record { settled = []; here = Tells [] (InDoctype (AfterKeyword Public) d) }
    else if is_keyword System (held ++ c ∷ []) then record { settled = []; here = Tells [] (InDoctype (AfterKeyword System) d) }
    else if begins_doctype_keyword (held ++ c ∷ []) then record { settled = []; here = Tells [] (InDoctypeKeyword (held ++ c ∷ []) d) }
    else record { settled = keyword_error exact held; here = skipped_step exact [] (with_quirks d) c }

-- each state: what a character brings, by the sink's answer about foreign content in the state before it. When nothing is
-- undecided it decides nothing that stands before it.
unfoldable pub brought_at : Rules → Bool → Open → ℕ → Brought Open
brought_at rules foreign (InReference stand held) c = reference_step rules stand held c
brought_at rules foreign (InDeclaration held) c = declaration_step rules.exact foreign held c
brought_at rules foreign (InDoctypeKeyword held d) c = doctype_keyword_step rules.exact held d c
brought_at rules foreign (InDoctype place d) c = record { settled = []; here = step_at rules.exact (InDoctype place d) c }
brought_at rules foreign (InComment before) c = record { settled = []; here = step_at rules.exact (InComment before) c }
brought_at rules foreign (InBogusComment before) c = record { settled = []; here = step_at rules.exact (InBogusComment before) c }
brought_at rules foreign (InInstruction before) c = record { settled = []; here = step_at rules.exact (InInstruction before) c }
brought_at rules foreign (Between mode) c = record { settled = []; here = step_at rules.exact (Between mode) c }
brought_at rules foreign LessThan c = record { settled = []; here = step_at rules.exact LessThan c }
brought_at rules foreign LessThanSolidus c = record { settled = []; here = step_at rules.exact LessThanSolidus c }
brought_at rules foreign (InTag place tag) c = record { settled = []; here = step_at rules.exact (InTag place tag) c }
brought_at rules foreign (InRaw place name) c = record { settled = []; here = step_at rules.exact (InRaw place name) c }
brought_at rules foreign (InCdata held) c = record { settled = []; here = step_at rules.exact (InCdata held) c }

module _ {S H : Type 0} (step : S → Told → ℕ → S) (reply : S → Told → ℕ → Reply H) (rules : Rules) where
  -- the messages at c, and what is open after it

  -- the messages at c
  unfoldable pub messages_here : ℕ → ℕ → Here Open → List Message
  messages_here line c (Tells told later) = on_line line (bad_character_error rules.exact c ++ told)
  messages_here line c (TellsTag told tag) = on_line line ((bad_character_error rules.exact c ++ told) ++ Tag tag ∷ [])

  -- what is open after c
  unfoldable pub opened_here : S → ℕ → List ℕ → ℕ → Here Open → Open
  opened_here s line last c (Tells told later) = later
  opened_here s line last c (TellsTag told tag) =
      open_after_reply (last_after last tag) (reply (stepped step s (on_line line (bad_character_error rules.exact c ++ told))) (Tag tag) line)

-- the name of the last start tag after a character
unfoldable pub last_here : List ℕ → Here Open → List ℕ
last_here last (Tells told later) = last
last_here last (TellsTag told tag) = last_after last tag
