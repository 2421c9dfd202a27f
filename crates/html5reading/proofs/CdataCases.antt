-- Worked cases of CDATA sections.
use Rattle.std.specs.Prelude.{◌≡◌, ℕ, suc, Bool, true, false, List, [], ◌∷◌, ◌++◌, codes, nat_eq, refl}
use Rattle.html5ever_interface.specs.Token.{Told}
use Rattle.html5ever_interface.specs.Token.Told.{Text, Null, Error, Comment, End}
use Rattle.html5ever_interface.specs.Token.Reply.{KeepOn}
use Rattle.html5reading.specs.Reading.{TextPlace, Event, reading}
use Rattle.html5reading.specs.Reading.TextPlace.{Character, EndOfInput}
use Rattle.html5reading.specs.Start.{Mode, Start}
use Rattle.html5reading.specs.Start.Mode.{Data, Cdata}
use Rattle.html5reading.specs.Start.Open.{Between}
use Rattle.html5reading.specs.Cdata.{cdata}
use Rattle.html5reading.proofs.OnLiterals.{reading_on_literals, tag_on_literals, comment_on_literals, cdata_on_literals}

abbrev start_in : Mode → Start
start_in mode = record { opened = Between mode; last_start_tag = []; input = record { line = 1; after_carriage_return = false; drops_byte_order_mark = true } }

-- what a text tells a sink that gives always the same answer, and one that counts what it was sent
abbrev events : Bool → Bool → List ℕ → List Event
events exact foreign text = reading {S = ℕ} {H = ℕ} (λ s t l. s) (λ s t l. KeepOn) (λ s. foreign) (record { exact = exact; references = [] }) (start_in Data) 0 text

abbrev inside : List ℕ → List Event
inside text = reading {S = ℕ} {H = ℕ} (λ s t l. s) (λ s t l. KeepOn) (λ s. false) (record { exact = false; references = [] }) (start_in Cdata) 0 text

abbrev counted : List ℕ → List Event
counted text = reading {S = ℕ} {H = ℕ} (λ s t l. suc s) (λ s t l. KeepOn) (λ s. nat_eq s 1) (record { exact = false; references = [] }) (start_in Data) 0 text

abbrev event : Told → TextPlace → TextPlace → ℕ → Event
event token stands decided_by line = record { message = record { token = token; line = line }; stands = stands; decided_by = decided_by }

null_tells_what_is_held : events false true (0x3C ∷ 0x21 ∷ 0x5B ∷ 0x43 ∷ 0x44 ∷ 0x41 ∷ 0x54 ∷ 0x41 ∷ 0x5B ∷ 0x61 ∷ 0x0 ∷ 0x5D ∷ 0x5D ∷ 0x3E ∷ 0x62 ∷ []) ≡ event (Text (codes "a")) (Character 10) (Character 10) 1 ∷ event Null (Character 10) (Character 10) 1 ∷ event (Text (codes "b")) (Character 14) (Character 14) 1 ∷ event End EndOfInput EndOfInput 1 ∷ []
unfolding reading_on_literals tag_on_literals comment_on_literals cdata_on_literals
null_tells_what_is_held = refl

brackets_before_a_null : events false true (0x3C ∷ 0x21 ∷ 0x5B ∷ 0x43 ∷ 0x44 ∷ 0x41 ∷ 0x54 ∷ 0x41 ∷ 0x5B ∷ 0x5D ∷ 0x5D ∷ 0x0 ∷ []) ≡ event (Text (codes "]")) (Character 11) (Character 11) 1 ∷ event (Text (codes "]")) (Character 11) (Character 11) 1 ∷ event Null (Character 11) (Character 11) 1 ∷ event (Error (codes "Saw EOF in state CdataSection")) EndOfInput EndOfInput 1 ∷ event End EndOfInput EndOfInput 1 ∷ []
unfolding reading_on_literals tag_on_literals comment_on_literals cdata_on_literals
brackets_before_a_null = refl

null_between_the_brackets_and_greater_than : events false true (0x3C ∷ 0x21 ∷ 0x5B ∷ 0x43 ∷ 0x44 ∷ 0x41 ∷ 0x54 ∷ 0x41 ∷ 0x5B ∷ 0x5D ∷ 0x5D ∷ 0x0 ∷ 0x3E ∷ 0x5D ∷ 0x5D ∷ 0x3E ∷ []) ≡ event (Text (codes "]")) (Character 11) (Character 11) 1 ∷ event (Text (codes "]")) (Character 11) (Character 11) 1 ∷ event Null (Character 11) (Character 11) 1 ∷ event (Text (codes ">")) (Character 15) (Character 15) 1 ∷ event End EndOfInput EndOfInput 1 ∷ []
unfolding reading_on_literals tag_on_literals comment_on_literals cdata_on_literals
null_between_the_brackets_and_greater_than = refl

only_this_case : events false true (codes "<![cdata[x]]>") ≡ event (Error (codes "Saw ! in state MarkupDeclarationOpen")) (Character 1) (Character 3) 1 ∷ event (Comment (codes "[cdata[x]]")) (Character 12) (Character 12) 1 ∷ event End EndOfInput EndOfInput 1 ∷ []
unfolding reading_on_literals tag_on_literals comment_on_literals cdata_on_literals
only_this_case = refl

not_in_foreign_content : events false false (codes "<![CDATA[x]]>") ≡ event (Error (codes "Saw ! in state MarkupDeclarationOpen")) (Character 1) (Character 2) 1 ∷ event (Comment (codes "[CDATA[x]]")) (Character 12) (Character 12) 1 ∷ event End EndOfInput EndOfInput 1 ∷ []
unfolding reading_on_literals tag_on_literals comment_on_literals cdata_on_literals
not_in_foreign_content = refl

keyword_fails_late : events false true (codes "<![CDATAx>") ≡ event (Error (codes "Saw ! in state MarkupDeclarationOpen")) (Character 1) (Character 8) 1 ∷ event (Comment (codes "[CDATAx")) (Character 9) (Character 9) 1 ∷ event End EndOfInput EndOfInput 1 ∷ []
unfolding reading_on_literals tag_on_literals comment_on_literals cdata_on_literals
keyword_fails_late = refl

keyword_cut_off : events false true (codes "<![CDAT") ≡ event (Error (codes "Saw ! in state MarkupDeclarationOpen")) (Character 1) EndOfInput 1 ∷ event (Comment (codes "[CDAT")) EndOfInput EndOfInput 1 ∷ event End EndOfInput EndOfInput 1 ∷ []
unfolding reading_on_literals tag_on_literals comment_on_literals cdata_on_literals
keyword_cut_off = refl

bad_character_first : events true true (0x3C ∷ 0x21 ∷ 0x5B ∷ 0x43 ∷ 0x44 ∷ 0x41 ∷ 0x54 ∷ 0x41 ∷ 0x5B ∷ 0x61 ∷ 0x1 ∷ 0x5D ∷ 0x5D ∷ 0x3E ∷ []) ≡ event (Error (codes "Bad character " ++ 0x1 ∷ [])) (Character 10) (Character 10) 1 ∷ event (Text (0x61 ∷ [])) (Character 13) (Character 13) 1 ∷ event (Text (0x1 ∷ [])) (Character 13) (Character 13) 1 ∷ event End EndOfInput EndOfInput 1 ∷ []
unfolding reading_on_literals tag_on_literals comment_on_literals cdata_on_literals
bad_character_first = refl

third_bracket_is_text : events false true (codes "<![CDATA[a]]]>") ≡ event (Text (codes "a")) (Character 13) (Character 13) 1 ∷ event (Text (codes "]")) (Character 13) (Character 13) 1 ∷ event End EndOfInput EndOfInput 1 ∷ []
unfolding reading_on_literals tag_on_literals comment_on_literals cdata_on_literals
third_bracket_is_text = refl

one_bracket_ends_nothing : events false true (codes "<![CDATA[a]>b]]>") ≡ event (Text (codes "a")) (Character 15) (Character 15) 1 ∷ event (Text (codes "]")) (Character 15) (Character 15) 1 ∷ event (Text (codes ">")) (Character 15) (Character 15) 1 ∷ event (Text (codes "b")) (Character 15) (Character 15) 1 ∷ event End EndOfInput EndOfInput 1 ∷ []
unfolding reading_on_literals tag_on_literals comment_on_literals cdata_on_literals
one_bracket_ends_nothing = refl

brackets_apart_end_nothing : events false true (codes "<![CDATA[]x]>]]>") ≡ event (Text (codes "]")) (Character 15) (Character 15) 1 ∷ event (Text (codes "x")) (Character 15) (Character 15) 1 ∷ event (Text (codes "]")) (Character 15) (Character 15) 1 ∷ event (Text (codes ">")) (Character 15) (Character 15) 1 ∷ event End EndOfInput EndOfInput 1 ∷ []
unfolding reading_on_literals tag_on_literals comment_on_literals cdata_on_literals
brackets_apart_end_nothing = refl

no_end : events false true (codes "<![CDATA[a]") ≡ event (Text (codes "a")) EndOfInput EndOfInput 1 ∷ event (Text (codes "]")) EndOfInput EndOfInput 1 ∷ event (Error (codes "Saw EOF in state CdataSection")) EndOfInput EndOfInput 1 ∷ event End EndOfInput EndOfInput 1 ∷ []
unfolding reading_on_literals tag_on_literals comment_on_literals cdata_on_literals
no_end = refl

nothing_in_it : events false true (codes "<![CDATA[") ≡ event (Error (codes "Saw EOF in state CdataSection")) EndOfInput EndOfInput 1 ∷ event End EndOfInput EndOfInput 1 ∷ []
unfolding reading_on_literals tag_on_literals comment_on_literals cdata_on_literals
nothing_in_it = refl

empty : events false true (codes "<![CDATA[]]>x") ≡ event (Text (codes "x")) (Character 12) (Character 12) 1 ∷ event End EndOfInput EndOfInput 1 ∷ []
unfolding reading_on_literals tag_on_literals comment_on_literals cdata_on_literals
empty = refl

on_the_line_of_its_end : events false true (0x3C ∷ 0x21 ∷ 0x5B ∷ 0x43 ∷ 0x44 ∷ 0x41 ∷ 0x54 ∷ 0x41 ∷ 0x5B ∷ 0x61 ∷ 0xD ∷ 0xA ∷ 0x5D ∷ 0x5D ∷ 0x3E ∷ []) ≡ event (Text (0x61 ∷ [])) (Character 13) (Character 13) 2 ∷ event (Text (0xA ∷ [])) (Character 13) (Character 13) 2 ∷ event End EndOfInput EndOfInput 2 ∷ []
unfolding reading_on_literals tag_on_literals comment_on_literals cdata_on_literals
on_the_line_of_its_end = refl

tags_are_text : events false true (codes "<![CDATA[<a>&lt;]]>") ≡ event (Text (codes "<")) (Character 18) (Character 18) 1 ∷ event (Text (codes "a")) (Character 18) (Character 18) 1 ∷ event (Text (codes ">")) (Character 18) (Character 18) 1 ∷ event (Text (codes "&")) (Character 18) (Character 18) 1 ∷ event (Text (codes "l")) (Character 18) (Character 18) 1 ∷ event (Text (codes "t")) (Character 18) (Character 18) 1 ∷ event (Text (codes ";")) (Character 18) (Character 18) 1 ∷ event End EndOfInput EndOfInput 1 ∷ []
unfolding reading_on_literals tag_on_literals comment_on_literals cdata_on_literals
tags_are_text = refl

from_inside : inside (codes "x]]>y") ≡ event (Text (codes "x")) (Character 3) (Character 3) 1 ∷ event (Text (codes "y")) (Character 4) (Character 4) 1 ∷ event End EndOfInput EndOfInput 1 ∷ []
unfolding reading_on_literals tag_on_literals comment_on_literals cdata_on_literals
from_inside = refl

no_second_section_after_it : inside (codes "]]><![CDATA[x]]>") ≡ event (Error (codes "Saw ! in state MarkupDeclarationOpen")) (Character 4) (Character 5) 1 ∷ event (Comment (codes "[CDATA[x]]")) (Character 15) (Character 15) 1 ∷ event End EndOfInput EndOfInput 1 ∷ []
unfolding reading_on_literals tag_on_literals comment_on_literals cdata_on_literals
no_second_section_after_it = refl

from_inside_nothing : inside [] ≡ event (Error (codes "Saw EOF in state CdataSection")) EndOfInput EndOfInput 1 ∷ event End EndOfInput EndOfInput 1 ∷ []
unfolding reading_on_literals tag_on_literals comment_on_literals cdata_on_literals
from_inside_nothing = refl

asked_after_what_was_told : counted (codes "a<![CDATA[b]]><![CDATA[c]]>") ≡ event (Text (codes "a")) (Character 0) (Character 0) 1 ∷ event (Text (codes "b")) (Character 13) (Character 13) 1 ∷ event (Error (codes "Saw ! in state MarkupDeclarationOpen")) (Character 15) (Character 16) 1 ∷ event (Comment (codes "[CDATA[c]]")) (Character 26) (Character 26) 1 ∷ event End EndOfInput EndOfInput 1 ∷ []
unfolding reading_on_literals tag_on_literals comment_on_literals cdata_on_literals
asked_after_what_was_told = refl
