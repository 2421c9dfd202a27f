-- Worked cases of one doctype.
use Rattle.std.specs.Prelude.{◌≡◌, ℕ, Bool, true, false, List, [], ◌∷◌, ◌++◌, Option, None, Some, codes, refl}
use Rattle.html5ever_interface.specs.Sink.{Message, on_line}
use Rattle.html5ever_interface.specs.Token.{Told}
use Rattle.html5ever_interface.specs.Token.Told.{Error, Doctype, End}
use Rattle.html5reading.specs.Characters.{is_bad_character, is_white_space, name_bytes, shown, value_bytes}
use Rattle.html5reading.specs.Doctype.{in_skipped_rest, in_identifier, in_doctype_name, begins_doctype_keyword}
use Rattle.html5reading.specs.ErrorText.{bad_character, saw}
use Rattle.html5reading.specs.NormalisedText.{normalised, without_dropped_first, with_line_feeds, line_after}
use Rattle.html5grammar.specs.Doctype.{WrittenDoctype, written, is_written, messages_after_name, messages_of, doctype_messages}
use Rattle.html5grammar.specs.Doctype.RestAfterName.{NoKeyword, PublicKeyword, SystemKeyword}
use Rattle.html5grammar.specs.Doctype.Content.{NoName, Named}
use Rattle.html5grammar.specs.Doctype.Identifier.{Missing, Unclosed, Closed}
use Rattle.html5grammar.specs.Spelled.{spelled_messages}
use Rattle.html5reading.specs.Slice.{run_while, after_while}
use Rattle.html5reading.specs.Start.{Input}
use Rattle.html5reading.specs.Start.Quotes.{DoubleQuotes, SingleQuotes}
use lib.Utf8.{encode}

abbrev input : Input
input = record { line = 1; after_carriage_return = false; drops_byte_order_mark = true }

abbrev doctype_token : Option (List ℕ) → Option (List ℕ) → Option (List ℕ) → Bool → Told
doctype_token name public_id system_id force_quirks = Doctype (record { name = name; public_id = public_id; system_id = system_id; force_quirks = force_quirks })

-- a text, how it is written, and its messages
record Case (exact : Bool) (doctype : WrittenDoctype) (X : List ℕ) (M : List Message) : Type 0 where
  text : normalised input X ≡ written doctype
  is_doctype : is_written doctype ≡ true
  messages : doctype_messages exact input doctype ≡ M

no_name : Case false (record { word = codes "doctype"; space = []; content = NoName }) (codes "<!doctype>")
    (on_line 1 (Error (codes "Saw > in state BeforeDoctypeName") ∷ doctype_token None None None true ∷ End ∷ []))
unfolding written normalised without_dropped_first with_line_feeds line_after is_written messages_of messages_after_name doctype_messages spelled_messages in_skipped_rest in_identifier in_doctype_name begins_doctype_keyword run_while after_while is_white_space is_bad_character name_bytes value_bytes shown encode saw bad_character
no_name = record { text = refl; is_doctype = refl; messages = refl }

no_name_after_lines : Case false (record { word = codes "DocType"; space = codes "\n "; content = NoName }) (codes "<!DocType\r\n >")
    (on_line 2 (Error (codes "Saw > in state BeforeDoctypeName") ∷ doctype_token None None None true ∷ End ∷ []))
unfolding written normalised without_dropped_first with_line_feeds line_after is_written messages_of messages_after_name doctype_messages spelled_messages in_skipped_rest in_identifier in_doctype_name begins_doctype_keyword run_while after_while is_white_space is_bad_character name_bytes value_bytes shown encode saw bad_character
no_name_after_lines = record { text = refl; is_doctype = refl; messages = refl }

unclosed_identifier : Case false (record { word = codes "DOCTYPE"; space = codes " "; content = Named 65 [] (codes " ") (SystemKeyword (codes "SYSTEM") (codes " ") (Unclosed SingleQuotes (codes "x"))) }) (codes "<!DOCTYPE A SYSTEM 'x>")
    (on_line 1 (Error (codes "Saw > in state DoctypeIdentifierSingleQuoted(System)") ∷ doctype_token (Some (codes "a")) None (Some (codes "x")) true ∷ End ∷ []))
unfolding written normalised without_dropped_first with_line_feeds line_after is_written messages_of messages_after_name doctype_messages spelled_messages in_skipped_rest in_identifier in_doctype_name begins_doctype_keyword run_while after_while is_white_space is_bad_character name_bytes value_bytes shown encode saw bad_character
unclosed_identifier = record { text = refl; is_doctype = refl; messages = refl }

no_identifier : Case false (record { word = codes "doctype"; space = codes " "; content = Named 97 [] (codes " ") (PublicKeyword (codes "public") [] (Missing [])) }) (codes "<!doctype a public>")
    (on_line 1 (Error (codes "Saw > in state AfterDoctypeKeyword(Public)") ∷ doctype_token (Some (codes "a")) None None true ∷ End ∷ []))
unfolding written normalised without_dropped_first with_line_feeds line_after is_written messages_of messages_after_name doctype_messages spelled_messages in_skipped_rest in_identifier in_doctype_name begins_doctype_keyword run_while after_while is_white_space is_bad_character name_bytes value_bytes shown encode saw bad_character
no_identifier = record { text = refl; is_doctype = refl; messages = refl }

no_identifier_after_space : Case false (record { word = codes "doctype"; space = codes " "; content = Named 97 [] (codes " ") (PublicKeyword (codes "public") (codes " ") (Missing [])) }) (codes "<!doctype a public >")
    (on_line 1 (Error (codes "Saw > in state BeforeDoctypeIdentifier(Public)") ∷ doctype_token (Some (codes "a")) None None true ∷ End ∷ []))
unfolding written normalised without_dropped_first with_line_feeds line_after is_written messages_of messages_after_name doctype_messages spelled_messages in_skipped_rest in_identifier in_doctype_name begins_doctype_keyword run_while after_while is_white_space is_bad_character name_bytes value_bytes shown encode saw bad_character
no_identifier_after_space = record { text = refl; is_doctype = refl; messages = refl }

skipped_null : Case false (record { word = codes "doctype"; space = codes " "; content = Named 97 [] (codes " ") (NoKeyword (codes "b\0c")) }) (codes "<!doctype a b\0c>")
    (on_line 1 (Error (codes "Saw b in state AfterDoctypeName") ∷ Error (codes "Saw \0 in state BogusDoctype") ∷ doctype_token (Some (codes "a")) None None true ∷ End ∷ []))
unfolding written normalised without_dropped_first with_line_feeds line_after is_written messages_of messages_after_name doctype_messages spelled_messages in_skipped_rest in_identifier in_doctype_name begins_doctype_keyword run_while after_while is_white_space is_bad_character name_bytes value_bytes shown encode saw bad_character
skipped_null = record { text = refl; is_doctype = refl; messages = refl }

name_at_once : Case false (record { word = codes "doctype"; space = []; content = Named 104 (codes "tml") [] (NoKeyword []) }) (codes "<!doctypehtml>")
    (on_line 1 (Error (codes "Saw h in state Doctype") ∷ doctype_token (Some (codes "html")) None None false ∷ End ∷ []))
unfolding written normalised without_dropped_first with_line_feeds line_after is_written messages_of messages_after_name doctype_messages spelled_messages in_skipped_rest in_identifier in_doctype_name begins_doctype_keyword run_while after_while is_white_space is_bad_character name_bytes value_bytes shown encode saw bad_character
name_at_once = record { text = refl; is_doctype = refl; messages = refl }

rest_after_system : Case false (record { word = codes "doctype"; space = codes " "; content = Named 97 [] (codes " ") (SystemKeyword (codes "system") (codes " ") (Closed DoubleQuotes (codes "s") (codes " ") (codes "x"))) }) (codes "<!doctype a system \"s\" x>")
    (on_line 1 (Error (codes "Saw x in state AfterDoctypeIdentifier(System)") ∷ doctype_token (Some (codes "a")) None (Some (codes "s")) false ∷ End ∷ []))
unfolding written normalised without_dropped_first with_line_feeds line_after is_written messages_of messages_after_name doctype_messages spelled_messages in_skipped_rest in_identifier in_doctype_name begins_doctype_keyword run_while after_while is_white_space is_bad_character name_bytes value_bytes shown encode saw bad_character
rest_after_system = record { text = refl; is_doctype = refl; messages = refl }

quotes_at_once : Case false (record { word = codes "doctype"; space = codes " "; content = Named 104 [] (codes " ") (PublicKeyword (codes "public") [] (Closed DoubleQuotes (codes "x") [] (Closed SingleQuotes (codes "y") [] []))) }) (codes "<!doctype h public\"x\"'y'>")
    (on_line 1 (Error (codes "Saw \" in state AfterDoctypeKeyword(Public)") ∷ Error (codes "Saw ' in state AfterDoctypeIdentifier(Public)") ∷ doctype_token (Some (codes "h")) (Some (codes "x")) (Some (codes "y")) false ∷ End ∷ []))
unfolding written normalised without_dropped_first with_line_feeds line_after is_written messages_of messages_after_name doctype_messages spelled_messages in_skipped_rest in_identifier in_doctype_name begins_doctype_keyword run_while after_while is_white_space is_bad_character name_bytes value_bytes shown encode saw bad_character
quotes_at_once = record { text = refl; is_doctype = refl; messages = refl }

no_system_identifier : Case false (record { word = codes "doctype"; space = codes " "; content = Named 97 [] (codes " ") (PublicKeyword (codes "public") [] (Closed SingleQuotes (codes "x") [] (Missing []))) }) (codes "<!doctype a public'x'>")
    (on_line 1 (Error (codes "Saw ' in state AfterDoctypeKeyword(Public)") ∷ doctype_token (Some (codes "a")) (Some (codes "x")) None false ∷ End ∷ []))
unfolding written normalised without_dropped_first with_line_feeds line_after is_written messages_of messages_after_name doctype_messages spelled_messages in_skipped_rest in_identifier in_doctype_name begins_doctype_keyword run_while after_while is_white_space is_bad_character name_bytes value_bytes shown encode saw bad_character
no_system_identifier = record { text = refl; is_doctype = refl; messages = refl }

empty_identifier : Case false (record { word = codes "doctype"; space = codes " "; content = Named 97 [] (codes " ") (PublicKeyword (codes "public") [] (Unclosed SingleQuotes [])) }) (codes "<!doctype a public'>")
    (on_line 1 (Error (codes "Saw ' in state AfterDoctypeKeyword(Public)") ∷ Error (codes "Saw > in state DoctypeIdentifierSingleQuoted(Public)") ∷ doctype_token (Some (codes "a")) (Some []) None true ∷ End ∷ []))
unfolding written normalised without_dropped_first with_line_feeds line_after is_written messages_of messages_after_name doctype_messages spelled_messages in_skipped_rest in_identifier in_doctype_name begins_doctype_keyword run_while after_while is_white_space is_bad_character name_bytes value_bytes shown encode saw bad_character
empty_identifier = record { text = refl; is_doctype = refl; messages = refl }

failed_keyword : Case false (record { word = codes "doctype"; space = codes " "; content = Named 97 [] (codes " ") (NoKeyword (codes "PX")) }) (codes "<!doctype a PX>")
    (on_line 1 (Error (codes "Saw P in state AfterDoctypeName") ∷ doctype_token (Some (codes "a")) None None true ∷ End ∷ []))
unfolding written normalised without_dropped_first with_line_feeds line_after is_written messages_of messages_after_name doctype_messages spelled_messages in_skipped_rest in_identifier in_doctype_name begins_doctype_keyword run_while after_while is_white_space is_bad_character name_bytes value_bytes shown encode saw bad_character
failed_keyword = record { text = refl; is_doctype = refl; messages = refl }

failed_keyword_before_a_line : Case false (record { word = codes "doctype"; space = codes " "; content = Named 97 [] (codes " ") (NoKeyword (codes "p\n")) }) (codes "<!doctype a p\n>")
    (on_line 1 (Error (codes "Saw p in state AfterDoctypeName") ∷ []) ++ on_line 2 (doctype_token (Some (codes "a")) None None true ∷ End ∷ []))
unfolding written normalised without_dropped_first with_line_feeds line_after is_written messages_of messages_after_name doctype_messages spelled_messages in_skipped_rest in_identifier in_doctype_name begins_doctype_keyword run_while after_while is_white_space is_bad_character name_bytes value_bytes shown encode saw bad_character
failed_keyword_before_a_line = record { text = refl; is_doctype = refl; messages = refl }

failed_keyword_at_the_end : Case false (record { word = codes "doctype"; space = codes " "; content = Named 97 [] (codes "\n") (NoKeyword (codes "syste")) }) (codes "<!doctype a\nsyste>")
    (on_line 2 (Error (codes "Saw s in state AfterDoctypeName") ∷ doctype_token (Some (codes "a")) None None true ∷ End ∷ []))
unfolding written normalised without_dropped_first with_line_feeds line_after is_written messages_of messages_after_name doctype_messages spelled_messages in_skipped_rest in_identifier in_doctype_name begins_doctype_keyword run_while after_while is_white_space is_bad_character name_bytes value_bytes shown encode saw bad_character
failed_keyword_at_the_end = record { text = refl; is_doctype = refl; messages = refl }

failed_keyword_before_a_bad_character : Case true (record { word = codes "doctype"; space = codes " "; content = Named 97 [] (codes " ") (NoKeyword (codes "p\u{1}")) }) (codes "<!doctype a p\u{1}>")
    (on_line 1 (Error (codes "Bad character") ∷ Error (codes "Bad character \u{1}") ∷ doctype_token (Some (codes "a")) None None true ∷ End ∷ []))
unfolding written normalised without_dropped_first with_line_feeds line_after is_written messages_of messages_after_name doctype_messages spelled_messages in_skipped_rest in_identifier in_doctype_name begins_doctype_keyword run_while after_while is_white_space is_bad_character name_bytes value_bytes shown encode saw bad_character
failed_keyword_before_a_bad_character = record { text = refl; is_doctype = refl; messages = refl }

bad_character_after_the_name : Case true (record { word = codes "doctype"; space = codes " "; content = Named 97 [] (codes " ") (NoKeyword (codes "\u{1}")) }) (codes "<!doctype a \u{1}>")
    (on_line 1 (Error (codes "Bad character \u{1}") ∷ Error (codes "Bad character") ∷ doctype_token (Some (codes "a")) None None true ∷ End ∷ []))
unfolding written normalised without_dropped_first with_line_feeds line_after is_written messages_of messages_after_name doctype_messages spelled_messages in_skipped_rest in_identifier in_doctype_name begins_doctype_keyword run_while after_while is_white_space is_bad_character name_bytes value_bytes shown encode saw bad_character
bad_character_after_the_name = record { text = refl; is_doctype = refl; messages = refl }

null_in_the_name : Case false (record { word = codes "doctype"; space = codes " "; content = Named 0 (codes "\0B") [] (NoKeyword []) }) (codes "<!doctype \0\0B>")
    (on_line 1 (Error (codes "Saw \0 in state BeforeDoctypeName") ∷ Error (codes "Saw \0 in state DoctypeName") ∷ doctype_token (Some ((239 ∷ 191 ∷ 189 ∷ []) ++ ((239 ∷ 191 ∷ 189 ∷ []) ++ codes "b"))) None None false ∷ End ∷ []))
unfolding written normalised without_dropped_first with_line_feeds line_after is_written messages_of messages_after_name doctype_messages spelled_messages in_skipped_rest in_identifier in_doctype_name begins_doctype_keyword run_while after_while is_white_space is_bad_character name_bytes value_bytes shown encode saw bad_character
null_in_the_name = record { text = refl; is_doctype = refl; messages = refl }

null_in_identifiers : Case false (record { word = codes "doctype"; space = codes " "; content = Named 97 [] (codes " ") (PublicKeyword (codes "pUbLiC") (codes " ") (Closed SingleQuotes (codes "\0") (codes " ") (Closed DoubleQuotes (codes "\0") (codes " ") []))) }) (codes "<!doctype a pUbLiC '\0' \"\0\" >")
    (on_line 1 (Error (codes "Saw \0 in state DoctypeIdentifierSingleQuoted(Public)") ∷ Error (codes "Saw \0 in state DoctypeIdentifierDoubleQuoted(System)") ∷ doctype_token (Some (codes "a")) (Some (239 ∷ 191 ∷ 189 ∷ [])) (Some (239 ∷ 191 ∷ 189 ∷ [])) false ∷ End ∷ []))
unfolding written normalised without_dropped_first with_line_feeds line_after is_written messages_of messages_after_name doctype_messages spelled_messages in_skipped_rest in_identifier in_doctype_name begins_doctype_keyword run_while after_while is_white_space is_bad_character name_bytes value_bytes shown encode saw bad_character
null_in_identifiers = record { text = refl; is_doctype = refl; messages = refl }

rest_between_identifiers : Case false (record { word = codes "doctype"; space = codes " "; content = Named 97 [] (codes " ") (PublicKeyword (codes "public") (codes " ") (Closed SingleQuotes (codes "x") (codes " ") (Missing (codes "y'z'")))) }) (codes "<!doctype a public 'x' y'z'>")
    (on_line 1 (Error (codes "Saw y in state BetweenDoctypePublicAndSystemIdentifiers") ∷ doctype_token (Some (codes "a")) (Some (codes "x")) None true ∷ End ∷ []))
unfolding written normalised without_dropped_first with_line_feeds line_after is_written messages_of messages_after_name doctype_messages spelled_messages in_skipped_rest in_identifier in_doctype_name begins_doctype_keyword run_while after_while is_white_space is_bad_character name_bytes value_bytes shown encode saw bad_character
rest_between_identifiers = record { text = refl; is_doctype = refl; messages = refl }

-- what is not written like this

abbrev NotWritten : WrittenDoctype → Type 0
NotWritten doctype = is_written doctype ≡ false

another_word : NotWritten (record { word = codes "doctypes"; space = []; content = NoName })
unfolding is_written in_skipped_rest in_identifier in_doctype_name is_white_space
another_word = refl

end_within_space : NotWritten (record { word = codes "doctype"; space = codes " >"; content = NoName })
unfolding is_written in_skipped_rest in_identifier in_doctype_name is_white_space
end_within_space = refl

space_in_the_name : NotWritten (record { word = codes "doctype"; space = codes " "; content = Named 97 (codes " b") [] (NoKeyword []) })
unfolding is_written in_skipped_rest in_identifier in_doctype_name is_white_space
space_in_the_name = refl

end_in_the_name : NotWritten (record { word = codes "doctype"; space = codes " "; content = Named 97 (codes ">b") [] (NoKeyword []) })
unfolding is_written in_skipped_rest in_identifier in_doctype_name is_white_space
end_in_the_name = refl

rest_directly_after_the_name : NotWritten (record { word = codes "doctype"; space = codes " "; content = Named 97 [] [] (NoKeyword (codes "b")) })
unfolding is_written in_skipped_rest in_identifier in_doctype_name is_white_space
rest_directly_after_the_name = refl

keyword_is_no_rest : NotWritten (record { word = codes "doctype"; space = codes " "; content = Named 97 [] (codes " ") (NoKeyword (codes "Systemx")) })
unfolding is_written in_skipped_rest in_identifier in_doctype_name is_white_space
keyword_is_no_rest = refl

space_is_no_rest : NotWritten (record { word = codes "doctype"; space = codes " "; content = Named 97 [] (codes " ") (NoKeyword (codes " b")) })
unfolding is_written in_skipped_rest in_identifier in_doctype_name is_white_space
space_is_no_rest = refl

another_keyword : NotWritten (record { word = codes "doctype"; space = codes " "; content = Named 97 [] (codes " ") (PublicKeyword (codes "system") (codes " ") (Missing [])) })
unfolding is_written in_skipped_rest in_identifier in_doctype_name is_white_space
another_keyword = refl

quote_within : NotWritten (record { word = codes "doctype"; space = codes " "; content = Named 97 [] (codes " ") (SystemKeyword (codes "system") (codes " ") (Closed DoubleQuotes (codes "x\"y") [] [])) })
unfolding is_written in_skipped_rest in_identifier in_doctype_name is_white_space
quote_within = refl

end_within_an_identifier : NotWritten (record { word = codes "doctype"; space = codes " "; content = Named 97 [] (codes " ") (PublicKeyword (codes "public") (codes " ") (Unclosed SingleQuotes (codes "x>y"))) })
unfolding is_written in_skipped_rest in_identifier in_doctype_name is_white_space
end_within_an_identifier = refl

quote_is_no_rest : NotWritten (record { word = codes "doctype"; space = codes " "; content = Named 97 [] (codes " ") (SystemKeyword (codes "system") [] (Missing (codes "'x"))) })
unfolding is_written in_skipped_rest in_identifier in_doctype_name is_white_space
quote_is_no_rest = refl

end_within_a_rest : NotWritten (record { word = codes "doctype"; space = codes " "; content = Named 97 [] (codes " ") (SystemKeyword (codes "system") [] (Closed SingleQuotes (codes "x") [] (codes "y>z"))) })
unfolding is_written in_skipped_rest in_identifier in_doctype_name is_white_space
end_within_a_rest = refl
