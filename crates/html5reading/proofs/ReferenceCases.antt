-- Worked cases of references.
use Rattle.std.specs.Prelude.{◌≡◌, ℕ, Bool, true, false, List, [], ◌∷◌, codes, refl, None, Some}
use Rattle.std.specs.Fmt.{digits}
use Rattle.html5ever_interface.specs.Token.{Told}
use Rattle.html5ever_interface.specs.Token.Told.{Text, Error, Tag, End}
use Rattle.html5ever_interface.specs.Token.Reply.{KeepOn}
use Rattle.html5ever_interface.specs.declared.interface.token.TagKind.{TagKind}
use Rattle.html5ever_interface.specs.declared.interface.token.TagKind.TheVariants.{StartTag}
use Rattle.html5reading.specs.Reading.{TextPlace, Event, reading}
use Rattle.html5reading.specs.Reading.TextPlace.{Character, BeforeCharacter, EndOfInput}
use Rattle.html5reading.specs.Start.{Start}
use Rattle.html5reading.specs.Start.Mode.{Data}
use Rattle.html5reading.specs.Start.Open.{Between}
use Rattle.html5reading.specs.Tag.{attribute}
use Rattle.markup5ever.specs.Names.{AttributeOf}
use Rattle.markup5ever.specs.NamedReferences.{NamedReference}
use Rattle.html5reading.specs.Reference.{reference}
use Rattle.html5reading.specs.Tag.{value}
use Rattle.html5reading.proofs.OnLiterals.{reading_on_literals, tag_on_literals, reference_on_literals}

abbrev start : Start
start = record { opened = Between Data; last_start_tag = []; input = record { line = 1; after_carriage_return = false; drops_byte_order_mark = true } }

abbrev entry : List ℕ → ℕ → NamedReference
entry name c = record { name = name; first = c; second = None }

-- the profile table
abbrev references : List NamedReference
references =
    entry (codes "amp") 0x26 ∷ entry (codes "amp;") 0x26 ∷ entry (codes "gt") 0x3E ∷ entry (codes "gt;") 0x3E
    ∷ entry (codes "lt") 0x3C ∷ entry (codes "lt;") 0x3C ∷ record { name = codes "nGt;"; first = 0x226B; second = Some 0x20D2 }
    ∷ entry (codes "not") 0xAC ∷ entry (codes "not;") 0xAC ∷ entry (codes "notin;") 0x2209
    ∷ entry (codes "quot") 0x22 ∷ entry (codes "quot;") 0x22 ∷ []

abbrev events : Bool → List ℕ → List Event
events exact text = reading {S = ℕ} {H = ℕ} (λ s t l. s) (λ s t l. KeepOn) (λ s. false) (record { exact = exact; references = references }) start 0 text

abbrev event : Told → TextPlace → TextPlace → ℕ → Event
event token stands decided_by line = record { message = record { token = token; line = line }; stands = stands; decided_by = decided_by }

abbrev tag : TagKind → List ℕ → List AttributeOf → Bool → Bool → Told
tag kind name attributes self_closing duplicates = Tag (record { kind = kind; name = name; self_closing = self_closing; attributes = attributes; had_duplicate_attributes = duplicates })

longest : events false (codes "&notin;") ≡ event (Text (0xE2 ∷ 0x88 ∷ 0x89 ∷ [])) (BeforeCharacter 7) (EndOfInput) 1 ∷ event (End) (EndOfInput) (EndOfInput) 1 ∷ []
unfolding reading_on_literals tag_on_literals reference_on_literals
longest = refl

longer_than_a_name : events false (codes "&notit;") ≡ event (Error (codes "Character reference does not end with semicolon")) (BeforeCharacter 4) (Character 5) 1 ∷ event (Text (0xC2 ∷ 0xAC ∷ [])) (BeforeCharacter 4) (Character 5) 1 ∷ event (Text (codes "i")) (Character 4) (Character 4) 1 ∷ event (Text (codes "t")) (Character 5) (Character 5) 1 ∷ event (Text (codes ";")) (Character 6) (Character 6) 1 ∷ event (End) (EndOfInput) (EndOfInput) 1 ∷ []
unfolding reading_on_literals tag_on_literals reference_on_literals
longer_than_a_name = refl

not_decided : events false (codes "&noti") ≡ event (Error (codes "Character reference does not end with semicolon")) (BeforeCharacter 4) (EndOfInput) 1 ∷ event (Text (0xC2 ∷ 0xAC ∷ [])) (BeforeCharacter 4) (EndOfInput) 1 ∷ event (Text (codes "i")) (Character 4) (Character 4) 1 ∷ event (End) (EndOfInput) (EndOfInput) 1 ∷ []
unfolding reading_on_literals tag_on_literals reference_on_literals
not_decided = refl

in_a_value : events false (codes "<a b=&amp=1 c=&amp>") ≡ event (Error (codes "Character reference does not end with semicolon")) (BeforeCharacter 18) (Character 18) 1 ∷ event (tag StartTag (codes "a") (attribute (codes "b") (codes "&amp=1") ∷ attribute (codes "c") (codes "&") ∷ []) false false) (Character 18) (Character 18) 1 ∷ event (End) (EndOfInput) (EndOfInput) 1 ∷ []
unfolding reading_on_literals tag_on_literals reference_on_literals
in_a_value = refl

numbers : events false (codes "&#x41;&#0;&#xD800") ≡ event (Text (codes "A")) (BeforeCharacter 6) (Character 5) 1 ∷ event (Error (codes "Invalid numeric character reference")) (BeforeCharacter 10) (Character 9) 1 ∷ event (Text (0xEF ∷ 0xBF ∷ 0xBD ∷ [])) (BeforeCharacter 10) (Character 9) 1 ∷ event (Error (codes "EOF in numeric character reference")) (BeforeCharacter 17) (EndOfInput) 1 ∷ event (Error (codes "Invalid numeric character reference")) (BeforeCharacter 17) (EndOfInput) 1 ∷ event (Text (0xEF ∷ 0xBF ∷ 0xBD ∷ [])) (BeforeCharacter 17) (EndOfInput) 1 ∷ event (End) (EndOfInput) (EndOfInput) 1 ∷ []
unfolding reading_on_literals tag_on_literals reference_on_literals
numbers = refl

beyond_all_numbers : events true (codes "&#4294967297;") ≡ event (Error (codes "Invalid numeric character reference value 0x000001")) (BeforeCharacter 13) (Character 12) 1 ∷ event (Text (0xEF ∷ 0xBF ∷ 0xBD ∷ [])) (BeforeCharacter 13) (Character 12) 1 ∷ event (End) (EndOfInput) (EndOfInput) 1 ∷ []
unfolding reading_on_literals tag_on_literals reference_on_literals
beyond_all_numbers = refl

replaced : events false (codes "&#x80;") ≡ event (Error (codes "Invalid numeric character reference")) (BeforeCharacter 6) (Character 5) 1 ∷ event (Text (0xE2 ∷ 0x82 ∷ 0xAC ∷ [])) (BeforeCharacter 6) (Character 5) 1 ∷ event (End) (EndOfInput) (EndOfInput) 1 ∷ []
unfolding reading_on_literals tag_on_literals reference_on_literals
replaced = refl

no_digits : events false (codes "&#") ≡ event (Error (codes "EOF after '#' in character reference")) (BeforeCharacter 1) (EndOfInput) 1 ∷ event (Text (codes "&")) (BeforeCharacter 1) (EndOfInput) 1 ∷ event (Text (codes "#")) (Character 1) (Character 1) 1 ∷ event (End) (EndOfInput) (EndOfInput) 1 ∷ []
unfolding reading_on_literals tag_on_literals reference_on_literals
no_digits = refl

semicolon_alone : events false (codes "&#;") ≡ event (Error (codes "Numeric character reference without digits")) (BeforeCharacter 1) (Character 2) 1 ∷ event (Text (codes "&")) (BeforeCharacter 1) (Character 2) 1 ∷ event (Text (codes "#")) (Character 1) (Character 1) 1 ∷ event (Text (codes ";")) (Character 2) (Character 2) 1 ∷ event (End) (EndOfInput) (EndOfInput) 1 ∷ []
unfolding reading_on_literals tag_on_literals reference_on_literals
semicolon_alone = refl

unknown : events true (codes "&x;") ≡ event (Error (codes "Invalid character reference &x;")) (BeforeCharacter 1) (Character 2) 1 ∷ event (Text (codes "&")) (BeforeCharacter 1) (Character 2) 1 ∷ event (Text (codes "x")) (Character 1) (Character 1) 1 ∷ event (Text (codes ";")) (Character 2) (Character 2) 1 ∷ event (End) (EndOfInput) (EndOfInput) 1 ∷ []
unfolding reading_on_literals tag_on_literals reference_on_literals
unknown = refl

two_characters : events false (codes "&nGt;") ≡ event (Text (0xE2 ∷ 0x89 ∷ 0xAB ∷ [])) (BeforeCharacter 5) (EndOfInput) 1 ∷ event (Text (0xE2 ∷ 0x83 ∷ 0x92 ∷ [])) (BeforeCharacter 5) (EndOfInput) 1 ∷ event (End) (EndOfInput) (EndOfInput) 1 ∷ []
unfolding reading_on_literals tag_on_literals reference_on_literals
two_characters = refl

bad_character_after : events true (codes "&\u{1}") ≡ event (Text (codes "&")) (BeforeCharacter 1) (Character 1) 1 ∷ event (Error (codes "Bad character \u{1}")) (Character 1) (Character 1) 1 ∷ event (Text (codes "\u{1}")) (Character 1) (Character 1) 1 ∷ event (End) (EndOfInput) (EndOfInput) 1 ∷ []
unfolding reading_on_literals tag_on_literals reference_on_literals
bad_character_after = refl

line_break_after : events false (codes "<a b=&not\n>") ≡ event (Error (codes "Character reference does not end with semicolon")) (BeforeCharacter 9) (Character 9) 1 ∷ event (tag StartTag (codes "a") (attribute (codes "b") (0xC2 ∷ 0xAC ∷ []) ∷ []) false false) (Character 10) (Character 10) 2 ∷ event (End) (EndOfInput) (EndOfInput) 2 ∷ []
unfolding reading_on_literals tag_on_literals reference_on_literals
line_break_after = refl

quote_after : events false (codes "<a b='&#65'>") ≡ event (Error (codes "Semicolon missing after numeric character reference")) (BeforeCharacter 10) (Character 10) 1 ∷ event (tag StartTag (codes "a") (attribute (codes "b") (codes "A") ∷ []) false false) (Character 11) (Character 11) 1 ∷ event (End) (EndOfInput) (EndOfInput) 1 ∷ []
unfolding reading_on_literals tag_on_literals reference_on_literals
quote_after = refl

end_in_a_value : events false (codes "<a b=&noti") ≡ event (Error (codes "Saw EOF in state AttributeValue(Unquoted)")) (EndOfInput) (EndOfInput) 1 ∷ event (End) (EndOfInput) (EndOfInput) 1 ∷ []
unfolding reading_on_literals tag_on_literals reference_on_literals
end_in_a_value = refl

carriage_return : events false (codes "&#13;") ≡ event (Error (codes "Invalid numeric character reference")) (BeforeCharacter 5) (Character 4) 1 ∷ event (Text (0x0D ∷ [])) (BeforeCharacter 5) (Character 4) 1 ∷ event (End) (EndOfInput) (EndOfInput) 1 ∷ []
unfolding reading_on_literals tag_on_literals reference_on_literals
carriage_return = refl
