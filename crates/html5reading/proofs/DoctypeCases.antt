-- Worked cases of doctypes.
use Rattle.std.specs.Prelude.{◌≡◌, ℕ, Bool, true, false, List, [], ◌∷◌, Option, None, Some, codes, refl}
use Rattle.html5ever_interface.specs.Token.{Told}
use Rattle.html5ever_interface.specs.Token.Told.{Text, Error, Doctype, End}
use Rattle.html5ever_interface.specs.Token.Reply.{KeepOn}
use Rattle.html5reading.specs.Reading.{TextPlace, Event, reading, told, after}
use Rattle.html5reading.specs.Reading.TextPlace.{Character, EndOfInput}
use Rattle.html5reading.specs.Start.{Start, Open}
use Rattle.html5reading.specs.Start.Mode.{Data}
use Rattle.html5reading.specs.Start.DoctypePlace.{Skipped}
use Rattle.html5reading.specs.Start.Open.{Between, InDoctype, InDoctypeKeyword}
use Rattle.html5reading.specs.Doctype.{doctype}
use Rattle.html5reading.proofs.OnLiterals.{reading_on_literals, comment_on_literals, doctype_on_literals}

abbrev start : Start
start = record { opened = Between Data; last_start_tag = []; input = record { line = 1; after_carriage_return = false; drops_byte_order_mark = true } }

abbrev events : Bool → List ℕ → List Event
events exact text = reading {S = ℕ} {H = ℕ} (λ s t l. s) (λ s t l. KeepOn) (λ s. false) (record { exact = exact; references = [] }) start 0 text

-- what is sent where the text may go on, and what is open then
abbrev told_of : List ℕ → List Event
told_of text = told {S = ℕ} {H = ℕ} (λ s t l. s) (λ s t l. KeepOn) (λ s. false) (record { exact = false; references = [] }) start 0 text

abbrev opened_after : List ℕ → Open
opened_after text = (after {S = ℕ} {H = ℕ} (λ s t l. s) (λ s t l. KeepOn) (λ s. false) (record { exact = false; references = [] }) start 0 text).opened

abbrev event : Told → TextPlace → TextPlace → ℕ → Event
event token stands decided_by line = record { message = record { token = token; line = line }; stands = stands; decided_by = decided_by }

abbrev doctype_token : Option (List ℕ) → Option (List ℕ) → Option (List ℕ) → Bool → Told
doctype_token name public_id system_id force_quirks = Doctype (record { name = name; public_id = public_id; system_id = system_id; force_quirks = force_quirks })

both_identifiers : events false (codes "<!doctype h public\"x\"'y'>") ≡ event (Error (codes "Saw \" in state AfterDoctypeKeyword(Public)")) (Character 18) (Character 18) 1 ∷ event (Error (codes "Saw ' in state AfterDoctypeIdentifier(Public)")) (Character 21) (Character 21) 1 ∷ event (doctype_token (Some (codes "h")) (Some (codes "x")) (Some (codes "y")) false) (Character 24) (Character 24) 1 ∷ event End EndOfInput EndOfInput 1 ∷ []
unfolding reading_on_literals comment_on_literals doctype_on_literals
both_identifiers = refl

no_identifier : events false (codes "<!doctype a public>") ≡ event (Error (codes "Saw > in state AfterDoctypeKeyword(Public)")) (Character 18) (Character 18) 1 ∷ event (doctype_token (Some (codes "a")) None None true) (Character 18) (Character 18) 1 ∷ event End EndOfInput EndOfInput 1 ∷ []
unfolding reading_on_literals comment_on_literals doctype_on_literals
no_identifier = refl

no_identifier_after_space : events false (codes "<!doctype a public >") ≡ event (Error (codes "Saw > in state BeforeDoctypeIdentifier(Public)")) (Character 19) (Character 19) 1 ∷ event (doctype_token (Some (codes "a")) None None true) (Character 19) (Character 19) 1 ∷ event End EndOfInput EndOfInput 1 ∷ []
unfolding reading_on_literals comment_on_literals doctype_on_literals
no_identifier_after_space = refl

identifier_without_its_quote : events false (codes "<!DOCTYPE A SYSTEM 'x>") ≡ event (Error (codes "Saw > in state DoctypeIdentifierSingleQuoted(System)")) (Character 21) (Character 21) 1 ∷ event (doctype_token (Some (codes "a")) None (Some (codes "x")) true) (Character 21) (Character 21) 1 ∷ event End EndOfInput EndOfInput 1 ∷ []
unfolding reading_on_literals comment_on_literals doctype_on_literals
identifier_without_its_quote = refl

empty_identifier_without_its_quote : events false (codes "<!doctype a public'>") ≡ event (Error (codes "Saw ' in state AfterDoctypeKeyword(Public)")) (Character 18) (Character 18) 1 ∷ event (Error (codes "Saw > in state DoctypeIdentifierSingleQuoted(Public)")) (Character 19) (Character 19) 1 ∷ event (doctype_token (Some (codes "a")) (Some []) None true) (Character 19) (Character 19) 1 ∷ event End EndOfInput EndOfInput 1 ∷ []
unfolding reading_on_literals comment_on_literals doctype_on_literals
empty_identifier_without_its_quote = refl

skipped_with_a_nul : events false (codes "<!doctype a b\0c>") ≡ event (Error (codes "Saw b in state AfterDoctypeName")) (Character 12) (Character 12) 1 ∷ event (Error (codes "Saw \0 in state BogusDoctype")) (Character 13) (Character 13) 1 ∷ event (doctype_token (Some (codes "a")) None None true) (Character 15) (Character 15) 1 ∷ event End EndOfInput EndOfInput 1 ∷ []
unfolding reading_on_literals comment_on_literals doctype_on_literals
skipped_with_a_nul = refl

keyword_after_a_line_break : events false (codes "<!DOCTYPE html\r\nPUBLIC 'x'>") ≡ event (doctype_token (Some (codes "html")) (Some (codes "x")) None false) (Character 25) (Character 25) 2 ∷ event End EndOfInput EndOfInput 2 ∷ []
unfolding reading_on_literals comment_on_literals doctype_on_literals
keyword_after_a_line_break = refl

keyword_in_any_case : events false (codes "<!doctype A pUbLiC \"X\" 'Y' >z") ≡ event (doctype_token (Some (codes "a")) (Some (codes "X")) (Some (codes "Y")) false) (Character 27) (Character 27) 1 ∷ event (Text (codes "z")) (Character 28) (Character 28) 1 ∷ event End EndOfInput EndOfInput 1 ∷ []
unfolding reading_on_literals comment_on_literals doctype_on_literals
keyword_in_any_case = refl

no_space_before_the_name : events false (codes "<!doctypehtml>") ≡ event (Error (codes "Saw h in state Doctype")) (Character 9) (Character 9) 1 ∷ event (doctype_token (Some (codes "html")) None None false) (Character 13) (Character 13) 1 ∷ event End EndOfInput EndOfInput 1 ∷ []
unfolding reading_on_literals comment_on_literals doctype_on_literals
no_space_before_the_name = refl

no_name : events false (codes "<!doctype>") ≡ event (Error (codes "Saw > in state BeforeDoctypeName")) (Character 9) (Character 9) 1 ∷ event (doctype_token None None None true) (Character 9) (Character 9) 1 ∷ event End EndOfInput EndOfInput 1 ∷ []
unfolding reading_on_literals comment_on_literals doctype_on_literals
no_name = refl

no_name_after_space : events false (codes "<!DocType\n >") ≡ event (Error (codes "Saw > in state BeforeDoctypeName")) (Character 11) (Character 11) 2 ∷ event (doctype_token None None None true) (Character 11) (Character 11) 2 ∷ event End EndOfInput EndOfInput 2 ∷ []
unfolding reading_on_literals comment_on_literals doctype_on_literals
no_name_after_space = refl

system_and_more : events false (codes "<!doctype a system \"s\" x>") ≡ event (Error (codes "Saw x in state AfterDoctypeIdentifier(System)")) (Character 23) (Character 23) 1 ∷ event (doctype_token (Some (codes "a")) None (Some (codes "s")) false) (Character 24) (Character 24) 1 ∷ event End EndOfInput EndOfInput 1 ∷ []
unfolding reading_on_literals comment_on_literals doctype_on_literals
system_and_more = refl

failed_keyword_names_its_first : events false (codes "<!doctype a PX>") ≡ event (Error (codes "Saw P in state AfterDoctypeName")) (Character 12) (Character 13) 1 ∷ event (doctype_token (Some (codes "a")) None None true) (Character 14) (Character 14) 1 ∷ event End EndOfInput EndOfInput 1 ∷ []
unfolding reading_on_literals comment_on_literals doctype_on_literals
failed_keyword_names_its_first = refl

failed_keyword_of_two : events false (codes "<!doctype a puSystem 'x'>") ≡ event (Error (codes "Saw p in state AfterDoctypeName")) (Character 12) (Character 14) 1 ∷ event (doctype_token (Some (codes "a")) None None true) (Character 24) (Character 24) 1 ∷ event End EndOfInput EndOfInput 1 ∷ []
unfolding reading_on_literals comment_on_literals doctype_on_literals
failed_keyword_of_two = refl

failed_keyword_before_the_end : events false (codes "<!doctype a s>b") ≡ event (Error (codes "Saw s in state AfterDoctypeName")) (Character 12) (Character 13) 1 ∷ event (doctype_token (Some (codes "a")) None None true) (Character 13) (Character 13) 1 ∷ event (Text (codes "b")) (Character 14) (Character 14) 1 ∷ event End EndOfInput EndOfInput 1 ∷ []
unfolding reading_on_literals comment_on_literals doctype_on_literals
failed_keyword_before_the_end = refl

failed_keyword_on_the_line_before : events false (codes "<!doctype a p\n>") ≡ event (Error (codes "Saw p in state AfterDoctypeName")) (Character 12) (Character 13) 1 ∷ event (doctype_token (Some (codes "a")) None None true) (Character 14) (Character 14) 2 ∷ event End EndOfInput EndOfInput 2 ∷ []
unfolding reading_on_literals comment_on_literals doctype_on_literals
failed_keyword_on_the_line_before = refl

first_character_fails : events false (codes "<!doctype a ?>") ≡ event (Error (codes "Saw ? in state AfterDoctypeName")) (Character 12) (Character 12) 1 ∷ event (doctype_token (Some (codes "a")) None None true) (Character 13) (Character 13) 1 ∷ event End EndOfInput EndOfInput 1 ∷ []
unfolding reading_on_literals comment_on_literals doctype_on_literals
first_character_fails = refl

nul_after_the_word : events false (codes "<!doctype\0>") ≡ event (Error (codes "Saw \0 in state Doctype")) (Character 9) (Character 9) 1 ∷ event (Error (codes "Saw \0 in state BeforeDoctypeName")) (Character 9) (Character 9) 1 ∷ event (doctype_token (Some (0xef ∷ 0xbf ∷ 0xbd ∷ [])) None None false) (Character 10) (Character 10) 1 ∷ event End EndOfInput EndOfInput 1 ∷ []
unfolding reading_on_literals comment_on_literals doctype_on_literals
nul_after_the_word = refl

nul_in_the_name : events false (codes "<!doctype A\0>") ≡ event (Error (codes "Saw \0 in state DoctypeName")) (Character 11) (Character 11) 1 ∷ event (doctype_token (Some (0x61 ∷ 0xef ∷ 0xbf ∷ 0xbd ∷ [])) None None false) (Character 12) (Character 12) 1 ∷ event End EndOfInput EndOfInput 1 ∷ []
unfolding reading_on_literals comment_on_literals doctype_on_literals
nul_in_the_name = refl

nul_after_the_name : events false (codes "<!doctype a \0>") ≡ event (Error (codes "Saw \0 in state AfterDoctypeName")) (Character 12) (Character 12) 1 ∷ event (Error (codes "Saw \0 in state BogusDoctype")) (Character 12) (Character 12) 1 ∷ event (doctype_token (Some (codes "a")) None None true) (Character 13) (Character 13) 1 ∷ event End EndOfInput EndOfInput 1 ∷ []
unfolding reading_on_literals comment_on_literals doctype_on_literals
nul_after_the_name = refl

nul_after_a_failed_keyword : events false (codes "<!doctype a pub\0>") ≡ event (Error (codes "Saw p in state AfterDoctypeName")) (Character 12) (Character 15) 1 ∷ event (Error (codes "Saw \0 in state BogusDoctype")) (Character 15) (Character 15) 1 ∷ event (doctype_token (Some (codes "a")) None None true) (Character 16) (Character 16) 1 ∷ event End EndOfInput EndOfInput 1 ∷ []
unfolding reading_on_literals comment_on_literals doctype_on_literals
nul_after_a_failed_keyword = refl

nul_in_identifiers : events false (codes "<!doctype a public \"\0\"'x\0>") ≡ event (Error (codes "Saw \0 in state DoctypeIdentifierDoubleQuoted(Public)")) (Character 20) (Character 20) 1 ∷ event (Error (codes "Saw ' in state AfterDoctypeIdentifier(Public)")) (Character 22) (Character 22) 1 ∷ event (Error (codes "Saw \0 in state DoctypeIdentifierSingleQuoted(System)")) (Character 24) (Character 24) 1 ∷ event (Error (codes "Saw > in state DoctypeIdentifierSingleQuoted(System)")) (Character 25) (Character 25) 1 ∷ event (doctype_token (Some (codes "a")) (Some (0xef ∷ 0xbf ∷ 0xbd ∷ [])) (Some (0x78 ∷ 0xef ∷ 0xbf ∷ 0xbd ∷ [])) true) (Character 25) (Character 25) 1 ∷ event End EndOfInput EndOfInput 1 ∷ []
unfolding reading_on_literals comment_on_literals doctype_on_literals
nul_in_identifiers = refl

nul_after_a_system_identifier : events false (codes "<!doctype a system 's'\0>") ≡ event (Error (codes "Saw \0 in state AfterDoctypeIdentifier(System)")) (Character 22) (Character 22) 1 ∷ event (Error (codes "Saw \0 in state BogusDoctype")) (Character 22) (Character 22) 1 ∷ event (doctype_token (Some (codes "a")) None (Some (codes "s")) false) (Character 23) (Character 23) 1 ∷ event End EndOfInput EndOfInput 1 ∷ []
unfolding reading_on_literals comment_on_literals doctype_on_literals
nul_after_a_system_identifier = refl

no_quote_between_identifiers : events false (codes "<!doctype a public 'p' x>") ≡ event (Error (codes "Saw x in state BetweenDoctypePublicAndSystemIdentifiers")) (Character 23) (Character 23) 1 ∷ event (doctype_token (Some (codes "a")) (Some (codes "p")) None true) (Character 24) (Character 24) 1 ∷ event End EndOfInput EndOfInput 1 ∷ []
unfolding reading_on_literals comment_on_literals doctype_on_literals
no_quote_between_identifiers = refl

directly_after_a_public_identifier : events false (codes "<!doctype a public 'p'x>") ≡ event (Error (codes "Saw x in state AfterDoctypeIdentifier(Public)")) (Character 22) (Character 22) 1 ∷ event (doctype_token (Some (codes "a")) (Some (codes "p")) None true) (Character 23) (Character 23) 1 ∷ event End EndOfInput EndOfInput 1 ∷ []
unfolding reading_on_literals comment_on_literals doctype_on_literals
directly_after_a_public_identifier = refl

no_quote_after_a_keyword : events false (codes "<!doctype a systemx'>") ≡ event (Error (codes "Saw x in state AfterDoctypeKeyword(System)")) (Character 18) (Character 18) 1 ∷ event (doctype_token (Some (codes "a")) None None true) (Character 20) (Character 20) 1 ∷ event End EndOfInput EndOfInput 1 ∷ []
unfolding reading_on_literals comment_on_literals doctype_on_literals
no_quote_after_a_keyword = refl

no_quote_after_space : events false (codes "<!doctype a system x\0'>") ≡ event (Error (codes "Saw x in state BeforeDoctypeIdentifier(System)")) (Character 19) (Character 19) 1 ∷ event (Error (codes "Saw \0 in state BogusDoctype")) (Character 20) (Character 20) 1 ∷ event (doctype_token (Some (codes "a")) None None true) (Character 22) (Character 22) 1 ∷ event End EndOfInput EndOfInput 1 ∷ []
unfolding reading_on_literals comment_on_literals doctype_on_literals
no_quote_after_space = refl

exact_failed_keyword : events true (codes "<!doctype a p\u{1}>") ≡ event (Error (codes "Bad character")) (Character 12) (Character 13) 1 ∷ event (Error (codes "Bad character \u{1}")) (Character 13) (Character 13) 1 ∷ event (doctype_token (Some (codes "a")) None None true) (Character 14) (Character 14) 1 ∷ event End EndOfInput EndOfInput 1 ∷ []
unfolding reading_on_literals comment_on_literals doctype_on_literals
exact_failed_keyword = refl

exact_first_fails : events true (codes "<!doctype a \u{1}>") ≡ event (Error (codes "Bad character \u{1}")) (Character 12) (Character 12) 1 ∷ event (Error (codes "Bad character")) (Character 12) (Character 12) 1 ∷ event (doctype_token (Some (codes "a")) None None true) (Character 13) (Character 13) 1 ∷ event End EndOfInput EndOfInput 1 ∷ []
unfolding reading_on_literals comment_on_literals doctype_on_literals
exact_first_fails = refl

exact_name : events true (codes "<!doctype\u{1} \u{2}>") ≡ event (Error (codes "Bad character \u{1}")) (Character 9) (Character 9) 1 ∷ event (Error (codes "Bad character")) (Character 9) (Character 9) 1 ∷ event (Error (codes "Bad character \u{2}")) (Character 11) (Character 11) 1 ∷ event (Error (codes "Bad character")) (Character 11) (Character 11) 1 ∷ event (doctype_token (Some (codes "\u{1}")) None None true) (Character 12) (Character 12) 1 ∷ event End EndOfInput EndOfInput 1 ∷ []
unfolding reading_on_literals comment_on_literals doctype_on_literals
exact_name = refl

end_after_the_word : events false (codes "<!doctype") ≡ event (Error (codes "Saw EOF in state Doctype")) EndOfInput EndOfInput 1 ∷ event (doctype_token None None None true) EndOfInput EndOfInput 1 ∷ event End EndOfInput EndOfInput 1 ∷ []
unfolding reading_on_literals comment_on_literals doctype_on_literals
end_after_the_word = refl

end_before_the_name : events false (codes "<!doctype ") ≡ event (Error (codes "Saw EOF in state BeforeDoctypeName")) EndOfInput EndOfInput 1 ∷ event (doctype_token None None None true) EndOfInput EndOfInput 1 ∷ event End EndOfInput EndOfInput 1 ∷ []
unfolding reading_on_literals comment_on_literals doctype_on_literals
end_before_the_name = refl

end_in_the_name : events false (codes "<!doctype a") ≡ event (Error (codes "Saw EOF in state DoctypeName")) EndOfInput EndOfInput 1 ∷ event (doctype_token (Some (codes "a")) None None true) EndOfInput EndOfInput 1 ∷ event End EndOfInput EndOfInput 1 ∷ []
unfolding reading_on_literals comment_on_literals doctype_on_literals
end_in_the_name = refl

end_after_the_name : events false (codes "<!doctype a ") ≡ event (Error (codes "Saw EOF in state AfterDoctypeName")) EndOfInput EndOfInput 1 ∷ event (doctype_token (Some (codes "a")) None None true) EndOfInput EndOfInput 1 ∷ event End EndOfInput EndOfInput 1 ∷ []
unfolding reading_on_literals comment_on_literals doctype_on_literals
end_after_the_name = refl

end_in_a_keyword : events false (codes "<!doctype html pub") ≡ event (Error (codes "Saw p in state AfterDoctypeName")) (Character 15) EndOfInput 1 ∷ event (doctype_token (Some (codes "html")) None None true) EndOfInput EndOfInput 1 ∷ event End EndOfInput EndOfInput 1 ∷ []
unfolding reading_on_literals comment_on_literals doctype_on_literals
end_in_a_keyword = refl

end_after_a_keyword : events false (codes "<!doctype a public") ≡ event (Error (codes "Saw EOF in state AfterDoctypeKeyword(Public)")) EndOfInput EndOfInput 1 ∷ event (doctype_token (Some (codes "a")) None None true) EndOfInput EndOfInput 1 ∷ event End EndOfInput EndOfInput 1 ∷ []
unfolding reading_on_literals comment_on_literals doctype_on_literals
end_after_a_keyword = refl

end_before_an_identifier : events false (codes "<!doctype a system ") ≡ event (Error (codes "Saw EOF in state BeforeDoctypeIdentifier(System)")) EndOfInput EndOfInput 1 ∷ event (doctype_token (Some (codes "a")) None None true) EndOfInput EndOfInput 1 ∷ event End EndOfInput EndOfInput 1 ∷ []
unfolding reading_on_literals comment_on_literals doctype_on_literals
end_before_an_identifier = refl

end_in_a_public_identifier : events false (codes "<!doctype a public \"x") ≡ event (Error (codes "Saw EOF in state DoctypeIdentifierDoubleQuoted(Public)")) EndOfInput EndOfInput 1 ∷ event (doctype_token (Some (codes "a")) (Some (codes "x")) None true) EndOfInput EndOfInput 1 ∷ event End EndOfInput EndOfInput 1 ∷ []
unfolding reading_on_literals comment_on_literals doctype_on_literals
end_in_a_public_identifier = refl

end_in_an_empty_identifier : events false (codes "<!doctype a public'") ≡ event (Error (codes "Saw ' in state AfterDoctypeKeyword(Public)")) (Character 18) (Character 18) 1 ∷ event (Error (codes "Saw EOF in state DoctypeIdentifierSingleQuoted(Public)")) EndOfInput EndOfInput 1 ∷ event (doctype_token (Some (codes "a")) (Some []) None true) EndOfInput EndOfInput 1 ∷ event End EndOfInput EndOfInput 1 ∷ []
unfolding reading_on_literals comment_on_literals doctype_on_literals
end_in_an_empty_identifier = refl

end_in_a_system_identifier : events false (codes "<!doctype a system 'x") ≡ event (Error (codes "Saw EOF in state DoctypeIdentifierSingleQuoted(System)")) EndOfInput EndOfInput 1 ∷ event (doctype_token (Some (codes "a")) None (Some (codes "x")) true) EndOfInput EndOfInput 1 ∷ event End EndOfInput EndOfInput 1 ∷ []
unfolding reading_on_literals comment_on_literals doctype_on_literals
end_in_a_system_identifier = refl

end_after_a_public_identifier : events false (codes "<!doctype a public 'p'") ≡ event (Error (codes "Saw EOF in state AfterDoctypeIdentifier(Public)")) EndOfInput EndOfInput 1 ∷ event (doctype_token (Some (codes "a")) (Some (codes "p")) None true) EndOfInput EndOfInput 1 ∷ event End EndOfInput EndOfInput 1 ∷ []
unfolding reading_on_literals comment_on_literals doctype_on_literals
end_after_a_public_identifier = refl

end_between_identifiers : events false (codes "<!doctype a public 'p' ") ≡ event (Error (codes "Saw EOF in state BetweenDoctypePublicAndSystemIdentifiers")) EndOfInput EndOfInput 1 ∷ event (doctype_token (Some (codes "a")) (Some (codes "p")) None true) EndOfInput EndOfInput 1 ∷ event End EndOfInput EndOfInput 1 ∷ []
unfolding reading_on_literals comment_on_literals doctype_on_literals
end_between_identifiers = refl

end_after_a_system_identifier : events false (codes "<!doctype a system 's' ") ≡ event (Error (codes "Saw EOF in state AfterDoctypeIdentifier(System)")) EndOfInput EndOfInput 1 ∷ event (doctype_token (Some (codes "a")) None (Some (codes "s")) true) EndOfInput EndOfInput 1 ∷ event End EndOfInput EndOfInput 1 ∷ []
unfolding reading_on_literals comment_on_literals doctype_on_literals
end_after_a_system_identifier = refl

end_in_the_skipped_rest : events false (codes "<!doctype a system 's' x") ≡ event (Error (codes "Saw x in state AfterDoctypeIdentifier(System)")) (Character 23) (Character 23) 1 ∷ event (doctype_token (Some (codes "a")) None (Some (codes "s")) false) EndOfInput EndOfInput 1 ∷ event End EndOfInput EndOfInput 1 ∷ []
unfolding reading_on_literals comment_on_literals doctype_on_literals
end_in_the_skipped_rest = refl

exact_end : events true (codes "<!doctype a") ≡ event (Error (codes "Unexpected EOF")) EndOfInput EndOfInput 1 ∷ event (doctype_token (Some (codes "a")) None None true) EndOfInput EndOfInput 1 ∷ event End EndOfInput EndOfInput 1 ∷ []
unfolding reading_on_literals comment_on_literals doctype_on_literals
exact_end = refl

held_keyword_is_not_told : told_of (codes "<!doctype a PU") ≡ []
unfolding reading_on_literals comment_on_literals doctype_on_literals
held_keyword_is_not_told = refl

held_keyword_is_open : opened_after (codes "<!doctype a PU") ≡ InDoctypeKeyword (codes "PU") (record { name = Some (codes "a"); public_id = None; system_id = None; force_quirks = false })
unfolding reading_on_literals comment_on_literals doctype_on_literals
held_keyword_is_open = refl

failed_keyword_is_told : told_of (codes "<!doctype a PX") ≡ event (Error (codes "Saw P in state AfterDoctypeName")) (Character 12) (Character 13) 1 ∷ []
unfolding reading_on_literals comment_on_literals doctype_on_literals
failed_keyword_is_told = refl

failed_keyword_is_skipped : opened_after (codes "<!doctype a PX") ≡ InDoctype Skipped (record { name = Some (codes "a"); public_id = None; system_id = None; force_quirks = true })
unfolding reading_on_literals comment_on_literals doctype_on_literals
failed_keyword_is_skipped = refl

nothing_is_open_after : opened_after (codes "<!doctype a>") ≡ Between Data
unfolding reading_on_literals comment_on_literals doctype_on_literals
nothing_is_open_after = refl
