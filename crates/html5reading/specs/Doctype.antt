-- Doctypes: a name, after it maybe `public` or `system` with identifiers, and `>`. From the first thing that doesn't belong there
-- the rest is skipped. Below, the parts stand from the last to the first.
-- The slices below are vocabulary of proofs: `html5grammar/specs/Doctype` says how a doctype is written.
use Rattle.std.specs.Prelude.{ℕ, ◌+◌, Bool, true, false, List, [], ◌∷◌, ◌++◌, ◌==◌, ◌||◌, codes, flat_map, length, nat_eq, not, Option, Some, option_map, if◌then◌else◌}
use Rattle.std.specs.List.{starts_with}
use Rattle.std.specs.Str.{bytes_eq}
use Rattle.html5ever_interface.specs.Token.{Told, DoctypeOf}
use Rattle.html5ever_interface.specs.Token.Told.{Doctype}
use Rattle.html5ever_interface.specs.declared.states.DoctypeIdKind.{DoctypeIdKind}
use Rattle.html5ever_interface.specs.declared.states.DoctypeIdKind.TheVariants.{Public, System}
use Rattle.html5ever_interface.specs.declared.states.State.{State}
use Rattle.html5ever_interface.specs.declared.states.State.TheVariants as state
use Rattle.html5reading.specs.Characters.{quotation_mark, apostrophe, greater_than, is_white_space, lower_case, name_bytes, value_bytes}
use Rattle.html5reading.specs.ErrorText.{error_in, where_true}
use Rattle.html5reading.specs.Slice.{Slice, Late, silent, no_character, cut_off, one_character, with_character, with_run, run_of, after_run}
use Rattle.html5reading.specs.Slice.Afterwards.{Settles}
use Rattle.html5reading.specs.Start.{Quotes}
use Rattle.html5reading.specs.Start.DoctypePlace.{AfterWord, BeforeName, InDoctypeName, AfterName, AfterKeyword, BeforeIdentifier, InIdentifier, AfterIdentifier, BetweenIdentifiers, Skipped}
use Rattle.html5reading.specs.Start.Mode.{Data}
use Rattle.html5reading.specs.Start.Open.{Between, InDoctype, InDoctypeKeyword}
use Rattle.html5reading.specs.Start.Quotes.{DoubleQuotes, SingleQuotes}
use Rattle.html5reading.specs.Tag.{null_error}

-- ---- what a doctype has so far, which is d below

-- the doctype with its force-quirks flag on
abbrev pub with_quirks : DoctypeOf → DoctypeOf
with_quirks d = record d { force_quirks = true }

-- a text that was begun, with more of it
abbrev pub with_more : Option (List ℕ) → List ℕ → Option (List ℕ)
with_more text more = option_map (λ begun. begun ++ more) text

-- the doctype with more of its name
abbrev pub with_doctype_name : DoctypeOf → List ℕ → DoctypeOf
with_doctype_name d run = record d { name = with_more d.name (flat_map name_bytes run) }

-- the doctype with the first character of its name
abbrev pub with_first_of_name : DoctypeOf → ℕ → DoctypeOf
with_first_of_name d c = with_doctype_name (record d { name = Some [] }) (c ∷ [])

-- the doctype with an identifier that was begun, and with more of that
abbrev pub with_begun_identifier : DoctypeIdKind → DoctypeOf → DoctypeOf
with_begun_identifier Public d = record d { public_id = Some [] }
with_begun_identifier System d = record d { system_id = Some [] }

-- the doctype with more of an identifier
abbrev pub with_identifier : DoctypeIdKind → DoctypeOf → List ℕ → DoctypeOf
with_identifier Public d run = record d { public_id = with_more d.public_id (flat_map value_bytes run) }
with_identifier System d run = record d { system_id = with_more d.system_id (flat_map value_bytes run) }

-- the `>` of a doctype, where errors are sent first
abbrev pub told_doctype : List Told → DoctypeOf → Slice
told_doctype errors d = one_character (errors ++ Doctype d ∷ []) (Between Data)

-- ---- the rest that is skipped

-- whether a character goes on with what is skipped
unfoldable pub in_skipped_rest : ℕ → Bool
in_skipped_rest c = not (c == greater_than)

-- "Bogus DOCTYPE state", at its `>`
unfoldable pub after_skipped_rest : DoctypeOf → List ℕ → Slice
after_skipped_rest d [] = cut_off (InDoctype Skipped d)
after_skipped_rest d (c ∷ text) = told_doctype [] d

-- "Bogus DOCTYPE state": all up to `>` is dropped, and there the doctype is sent; a NUL in it is an error
unfoldable pub skipped_rest : Bool → DoctypeOf → List ℕ → Slice
skipped_rest exact d text =
    let run : List ℕ = run_of in_skipped_rest text in
    with_run (null_error exact state.BogusDoctype) run (after_skipped_rest d (after_run in_skipped_rest text))

-- "Bogus DOCTYPE state": the rest from c on, where errors are sent first
unfoldable pub skipped_from : Bool → List Told → DoctypeOf → ℕ → List ℕ → Slice
skipped_from exact errors d c text =
    if c == greater_than then told_doctype errors d
    else with_character (errors ++ null_error exact state.BogusDoctype c) (skipped_rest exact d text)

-- ---- identifiers

abbrev pub quote_mark : Quotes → ℕ
quote_mark DoubleQuotes = quotation_mark
quote_mark SingleQuotes = apostrophe

-- the state that an error in an identifier names
abbrev pub identifier_state : Quotes → DoctypeIdKind → State
identifier_state DoubleQuotes kind = state.DoctypeIdentifierDoubleQuoted kind
identifier_state SingleQuotes kind = state.DoctypeIdentifierSingleQuoted kind

-- whether a character goes on with an identifier
unfoldable pub in_identifier : Quotes → ℕ → Bool
in_identifier quotes c = not ((c == quote_mark quotes) || (c == greater_than))

-- "DOCTYPE public identifier (double-quoted) state" and its three others, at the character that ends the identifier. A `>` before
-- the quote is an error, and ends the doctype with quirks.
unfoldable pub after_in_identifier : Bool → Quotes → DoctypeIdKind → DoctypeOf → List ℕ → Slice
after_in_identifier exact quotes kind d [] = cut_off (InDoctype (InIdentifier quotes kind) d)
after_in_identifier exact quotes kind d (c ∷ text) =
    if c == greater_than then told_doctype (error_in exact (identifier_state quotes kind) c ∷ []) (with_quirks d)
    else one_character [] (InDoctype (AfterIdentifier kind) d)

-- "DOCTYPE public identifier (double-quoted) state" and its three others: an identifier runs to its quote
unfoldable pub identifier : Bool → Quotes → DoctypeIdKind → DoctypeOf → List ℕ → Slice
identifier exact quotes kind d text =
    let run : List ℕ = run_of (in_identifier quotes) text in
    with_run (null_error exact (identifier_state quotes kind)) run
    (after_in_identifier exact quotes kind (with_identifier kind d run) (after_run (in_identifier quotes) text))

-- "Before DOCTYPE public identifier state" and "After DOCTYPE public keyword state", and those of the system. Where an identifier
-- is wanted a quote begins it, and that is an error where it stands directly after what came before. Another character is an
-- error, and the first of the skipped rest, with quirks.
unfoldable pub wanted_identifier : Bool → Bool → State → DoctypeIdKind → DoctypeOf → ℕ → List ℕ → Slice
wanted_identifier exact is_direct named kind d c text =
    let error : Told = error_in exact named c in
    if c == quotation_mark then with_character (where_true is_direct error) (identifier exact DoubleQuotes kind (with_begun_identifier kind d) text)
    else if c == apostrophe then with_character (where_true is_direct error) (identifier exact SingleQuotes kind (with_begun_identifier kind d) text)
    else skipped_from exact (error ∷ []) (with_quirks d) c text

-- "After DOCTYPE public identifier state" and "Between DOCTYPE public and system identifiers state": `>` ends the doctype, and a
-- system identifier may stand
unfoldable pub system_or_end : Bool → Bool → State → DoctypeOf → ℕ → List ℕ → Slice
system_or_end exact is_direct named d c text =
    if c == greater_than then told_doctype [] d else wanted_identifier exact is_direct named System d c text

-- "Between DOCTYPE public and system identifiers state": after white space
unfoldable pub after_space_between : Bool → DoctypeOf → List ℕ → Slice
after_space_between exact d [] = cut_off (InDoctype BetweenIdentifiers d)
after_space_between exact d (c ∷ text) = system_or_end exact false state.BetweenDoctypePublicAndSystemIdentifiers d c text

-- "Between DOCTYPE public and system identifiers state": white space, and the text after it
unfoldable pub between_identifiers : Bool → DoctypeOf → List ℕ → Slice
between_identifiers exact d text = with_run silent (run_of is_white_space text) (after_space_between exact d (after_run is_white_space text))

-- "After DOCTYPE public identifier state" and "After DOCTYPE system identifier state": what c begins directly after an
-- identifier. After that of the system there is only white space up to `>`, and an error is without quirks.
unfoldable pub after_identifier : Bool → DoctypeIdKind → DoctypeOf → ℕ → List ℕ → Slice
after_identifier exact Public d c text =
    if is_white_space c then with_character [] (between_identifiers exact d text)
    else system_or_end exact true (state.AfterDoctypeIdentifier Public) d c text
after_identifier exact System d c text =
    if is_white_space c then one_character [] (InDoctype (AfterIdentifier System) d)
    else if c == greater_than then told_doctype [] d
    else skipped_from exact (error_in exact (state.AfterDoctypeIdentifier System) c ∷ []) d c text

-- ---- the keywords `public` and `system`, in any case

-- "Before DOCTYPE public identifier state" and "Before DOCTYPE system identifier state": after white space
unfoldable pub after_keyword_and_space : Bool → DoctypeIdKind → DoctypeOf → List ℕ → Slice
after_keyword_and_space exact kind d [] = cut_off (InDoctype (BeforeIdentifier kind) d)
after_keyword_and_space exact kind d (c ∷ text) = wanted_identifier exact false (state.BeforeDoctypeIdentifier kind) kind d c text

-- "Before DOCTYPE public identifier state" and "Before DOCTYPE system identifier state": white space, and the text after it
unfoldable pub identifier_after_space : Bool → DoctypeIdKind → DoctypeOf → List ℕ → Slice
identifier_after_space exact kind d text =
    with_run silent (run_of is_white_space text) (after_keyword_and_space exact kind d (after_run is_white_space text))

-- "After DOCTYPE public keyword state" and "After DOCTYPE system keyword state": directly after a keyword
unfoldable pub after_keyword : Bool → DoctypeIdKind → DoctypeOf → List ℕ → Slice
after_keyword exact kind d [] = cut_off (InDoctype (AfterKeyword kind) d)
after_keyword exact kind d (c ∷ text) =
    if is_white_space c then with_character [] (identifier_after_space exact kind d text)
    else wanted_identifier exact true (state.AfterDoctypeKeyword kind) kind d c text

-- the text of a keyword
abbrev pub keyword_of : DoctypeIdKind → List ℕ
keyword_of Public = codes "public"
keyword_of System = codes "system"

-- whether the characters are the keyword, in any case
abbrev pub is_keyword : DoctypeIdKind → List ℕ → Bool
is_keyword kind held = bytes_eq (lower_case held) (keyword_of kind)

-- "After DOCTYPE name state": whether a keyword begins with these characters
unfoldable pub begins_doctype_keyword : List ℕ → Bool
begins_doctype_keyword held = starts_with nat_eq (keyword_of Public) (lower_case held) || starts_with nat_eq (keyword_of System) (lower_case held)

-- "After DOCTYPE name state": where held characters begin a keyword and none comes, that is an error at the first of them, which
-- it names
unfoldable pub keyword_error : Bool → List ℕ → List Late
keyword_error exact [] = []
keyword_error exact (c ∷ held) =
    record { token = error_in exact state.AfterDoctypeName c; back = length held + 2; is_at = true; is_held = false } ∷ []

-- "After DOCTYPE name state": a keyword decides, or the first character by which none begins. Then the held text is dropped, and
-- the rest is skipped.
unfoldable pub doctype_keyword : Bool → List ℕ → DoctypeOf → List ℕ → Slice
doctype_keyword exact held d [] = cut_off (InDoctypeKeyword held d)
doctype_keyword exact held d (c ∷ text) =
    if is_keyword Public (held ++ c ∷ []) then with_character [] (after_keyword exact Public d text)
    else if is_keyword System (held ++ c ∷ []) then with_character [] (after_keyword exact System d text)
    else if begins_doctype_keyword (held ++ c ∷ []) then with_character [] (doctype_keyword exact (held ++ c ∷ []) d text)
    else no_character (Settles (keyword_error exact held) (InDoctype Skipped (with_quirks d)))

-- ---- the name

-- "After DOCTYPE name state": after the name and white space stands `>`, or a keyword. Another character is an error, and the
-- first of the skipped rest.
unfoldable pub keyword_or_end : Bool → DoctypeOf → List ℕ → Slice
keyword_or_end exact d [] = cut_off (InDoctype AfterName d)
keyword_or_end exact d (c ∷ text) =
    if c == greater_than then told_doctype [] d
    else if begins_doctype_keyword (c ∷ []) then with_character [] (doctype_keyword exact (c ∷ []) d text)
    else skipped_from exact (error_in exact state.AfterDoctypeName c ∷ []) (with_quirks d) c text

-- "After DOCTYPE name state": white space after the name, and the text after it
unfoldable pub after_doctype_name_and_space : Bool → DoctypeOf → List ℕ → Slice
after_doctype_name_and_space exact d text =
    with_run silent (run_of is_white_space text) (keyword_or_end exact d (after_run is_white_space text))

-- "DOCTYPE name state", at the character that ends the name
unfoldable pub after_doctype_name : Bool → DoctypeOf → List ℕ → Slice
after_doctype_name exact d [] = cut_off (InDoctype InDoctypeName d)
after_doctype_name exact d (c ∷ text) =
    if c == greater_than then told_doctype [] d else with_character [] (after_doctype_name_and_space exact d text)

-- whether a character goes on with a name: it runs to white space or `>`
unfoldable pub in_doctype_name : ℕ → Bool
in_doctype_name c = not (is_white_space c || (c == greater_than))

-- "DOCTYPE name state": the name after its first character
unfoldable pub doctype_name : Bool → DoctypeOf → List ℕ → Slice
doctype_name exact d text =
    let run : List ℕ = run_of in_doctype_name text in
    with_run (null_error exact state.DoctypeName) run (after_doctype_name exact (with_doctype_name d run) (after_run in_doctype_name text))

-- "Before DOCTYPE name state": c is the first character of the name, or the `>` of a doctype without one, with quirks. Errors are
-- sent first.
unfoldable pub wanted_name : Bool → List Told → DoctypeOf → ℕ → List ℕ → Slice
wanted_name exact errors d c text =
    if c == greater_than then one_character (errors ++ error_in exact state.BeforeDoctypeName c ∷ Doctype (with_quirks d) ∷ []) (Between Data)
    else with_character (errors ++ null_error exact state.BeforeDoctypeName c) (doctype_name exact (with_first_of_name d c) text)

-- "Before DOCTYPE name state": after `doctype` and white space
unfoldable pub after_word_and_space : Bool → DoctypeOf → List ℕ → Slice
after_word_and_space exact d [] = cut_off (InDoctype BeforeName d)
after_word_and_space exact d (c ∷ text) = wanted_name exact [] d c text

-- "Before DOCTYPE name state": white space, and the text after it
unfoldable pub before_doctype_name : Bool → DoctypeOf → List ℕ → Slice
before_doctype_name exact d text =
    with_run silent (run_of is_white_space text) (after_word_and_space exact d (after_run is_white_space text))

-- "DOCTYPE state": the error of a name directly after `doctype`
abbrev pub word_error : Bool → ℕ → List Told
word_error exact c = where_true (not (c == greater_than)) (error_in exact state.Doctype c)

-- "DOCTYPE state": directly after `doctype`
unfoldable pub doctype : Bool → DoctypeOf → List ℕ → Slice
doctype exact d [] = cut_off (InDoctype AfterWord d)
doctype exact d (c ∷ text) =
    if is_white_space c then with_character [] (before_doctype_name exact d text)
    else wanted_name exact (word_error exact c) d c text
