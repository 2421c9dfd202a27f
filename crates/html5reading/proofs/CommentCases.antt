-- Worked cases of comments.
use Rattle.std.specs.Prelude.{◌≡◌, ℕ, Bool, true, false, List, [], ◌∷◌, codes, refl}
use Rattle.html5ever_interface.specs.Token.{Told}
use Rattle.html5ever_interface.specs.Token.Told.{Error, Tag, Comment, End}
use Rattle.html5ever_interface.specs.Token.Reply.{KeepOn}
use Rattle.html5ever_interface.specs.declared.interface.token.TagKind.{TagKind}
use Rattle.html5reading.specs.Reading.{TextPlace, Event, reading}
use Rattle.html5reading.specs.Reading.TextPlace.{Character, EndOfInput}
use Rattle.html5reading.specs.Start.{Start}
use Rattle.html5reading.specs.Start.Mode.{Data}
use Rattle.html5reading.specs.Start.Open.{Between}
use Rattle.markup5ever.specs.Names.{AttributeOf}
use Rattle.html5reading.proofs.OnLiterals.{reading_on_literals, tag_on_literals, comment_on_literals}

abbrev start : Start
start = record { opened = Between Data; last_start_tag = []; input = record { line = 1; after_carriage_return = false; drops_byte_order_mark = true } }

abbrev events : Bool → List ℕ → List Event
events exact text = reading {S = ℕ} {H = ℕ} (λ s t l. s) (λ s t l. KeepOn) (λ s. false) (record { exact = exact; references = [] }) start 0 text

abbrev event : Told → TextPlace → TextPlace → ℕ → Event
event token stands decided_by line = record { message = record { token = token; line = line }; stands = stands; decided_by = decided_by }

abbrev tag : TagKind → List ℕ → List AttributeOf → Bool → Bool → Told
tag kind name attributes self_closing duplicates = Tag (record { kind = kind; name = name; self_closing = self_closing; attributes = attributes; had_duplicate_attributes = duplicates })

content_has_greater_than : events false (codes "<!--a>b-->") ≡ event (Comment (codes "a>b")) (Character 9) (Character 9) 1 ∷ event End EndOfInput EndOfInput 1 ∷ []
unfolding reading_on_literals tag_on_literals comment_on_literals
content_has_greater_than = refl

marks_and_bang : events false (codes "<!--a--b--!c<!---!>") ≡ event (Error (codes "Saw - in state CommentLessThanSignBangDashDash")) (Character 16) (Character 16) 1 ∷ event (Error (codes "Saw > in state CommentEndBang")) (Character 18) (Character 18) 1 ∷ event (Comment (codes "a--b--!c<!-")) (Character 18) (Character 18) 1 ∷ event End EndOfInput EndOfInput 1 ∷ []
unfolding reading_on_literals tag_on_literals comment_on_literals
marks_and_bang = refl

held_dash_is_text_of_a_bogus_comment : events false (codes "<!-x>") ≡ event (Error (codes "Saw ! in state MarkupDeclarationOpen")) (Character 1) (Character 3) 1 ∷ event (Comment (codes "-x")) (Character 4) (Character 4) 1 ∷ event End EndOfInput EndOfInput 1 ∷ []
unfolding reading_on_literals tag_on_literals comment_on_literals
held_dash_is_text_of_a_bogus_comment = refl

end_tag_that_is_none : events false (0x3c ∷ 0x2f ∷ 0x31 ∷ 0x0 ∷ 0x3e ∷ []) ≡ event (Error (codes "Saw 1 in state EndTagOpen")) (Character 2) (Character 2) 1 ∷ event (Error (0x53 ∷ 0x61 ∷ 0x77 ∷ 0x20 ∷ 0x0 ∷ 0x20 ∷ 0x69 ∷ 0x6e ∷ 0x20 ∷ 0x73 ∷ 0x74 ∷ 0x61 ∷ 0x74 ∷ 0x65 ∷ 0x20 ∷ 0x42 ∷ 0x6f ∷ 0x67 ∷ 0x75 ∷ 0x73 ∷ 0x43 ∷ 0x6f ∷ 0x6d ∷ 0x6d ∷ 0x65 ∷ 0x6e ∷ 0x74 ∷ [])) (Character 3) (Character 3) 1 ∷ event (Comment (0x31 ∷ 0xef ∷ 0xbf ∷ 0xbd ∷ [])) (Character 4) (Character 4) 1 ∷ event End EndOfInput EndOfInput 1 ∷ []
unfolding reading_on_literals tag_on_literals comment_on_literals
end_tag_that_is_none = refl

nul_after_a_dash : events false (0x3c ∷ 0x21 ∷ 0x2d ∷ 0x2d ∷ 0x61 ∷ 0x2d ∷ 0x0 ∷ 0x2d ∷ 0x2d ∷ 0x3e ∷ []) ≡ event (Error (0x53 ∷ 0x61 ∷ 0x77 ∷ 0x20 ∷ 0x0 ∷ 0x20 ∷ 0x69 ∷ 0x6e ∷ 0x20 ∷ 0x73 ∷ 0x74 ∷ 0x61 ∷ 0x74 ∷ 0x65 ∷ 0x20 ∷ 0x43 ∷ 0x6f ∷ 0x6d ∷ 0x6d ∷ 0x65 ∷ 0x6e ∷ 0x74 ∷ 0x45 ∷ 0x6e ∷ 0x64 ∷ 0x44 ∷ 0x61 ∷ 0x73 ∷ 0x68 ∷ [])) (Character 6) (Character 6) 1 ∷ event (Comment (0x61 ∷ 0x2d ∷ 0xef ∷ 0xbf ∷ 0xbd ∷ [])) (Character 9) (Character 9) 1 ∷ event End EndOfInput EndOfInput 1 ∷ []
unfolding reading_on_literals tag_on_literals comment_on_literals
nul_after_a_dash = refl

bang_within : events false (codes "<!--a--!-->") ≡ event (Comment (codes "a--!")) (Character 10) (Character 10) 1 ∷ event End EndOfInput EndOfInput 1 ∷ []
unfolding reading_on_literals tag_on_literals comment_on_literals
bang_within = refl

lone_dash : events false (codes "<!--->") ≡ event (Error (codes "Saw > in state CommentStartDash")) (Character 5) (Character 5) 1 ∷ event (Comment ([])) (Character 5) (Character 5) 1 ∷ event End EndOfInput EndOfInput 1 ∷ []
unfolding reading_on_literals tag_on_literals comment_on_literals
lone_dash = refl

end_after_a_dash : events false (codes "<!--a-") ≡ event (Error (codes "Saw EOF in state CommentEndDash")) EndOfInput EndOfInput 1 ∷ event (Comment (codes "a")) EndOfInput EndOfInput 1 ∷ event End EndOfInput EndOfInput 1 ∷ []
unfolding reading_on_literals tag_on_literals comment_on_literals
end_after_a_dash = refl

mark_at_the_start : events false (codes "<!--<!--x-->") ≡ event (Error (codes "Saw x in state CommentLessThanSignBangDashDash")) (Character 8) (Character 8) 1 ∷ event (Comment (codes "<!--x")) (Character 11) (Character 11) 1 ∷ event End EndOfInput EndOfInput 1 ∷ []
unfolding reading_on_literals tag_on_literals comment_on_literals
mark_at_the_start = refl

mark : events false (codes "<!--a<!--x-->") ≡ event (Error (codes "Saw x in state CommentLessThanSignBangDashDash")) (Character 9) (Character 9) 1 ∷ event (Comment (codes "a<!--x")) (Character 12) (Character 12) 1 ∷ event End EndOfInput EndOfInput 1 ∷ []
unfolding reading_on_literals tag_on_literals comment_on_literals
mark = refl

mark_and_nul : events false (0x3c ∷ 0x21 ∷ 0x2d ∷ 0x2d ∷ 0x61 ∷ 0x3c ∷ 0x21 ∷ 0x2d ∷ 0x2d ∷ 0x0 ∷ 0x2d ∷ 0x2d ∷ 0x3e ∷ []) ≡ event (Error (0x53 ∷ 0x61 ∷ 0x77 ∷ 0x20 ∷ 0x0 ∷ 0x20 ∷ 0x69 ∷ 0x6e ∷ 0x20 ∷ 0x73 ∷ 0x74 ∷ 0x61 ∷ 0x74 ∷ 0x65 ∷ 0x20 ∷ 0x43 ∷ 0x6f ∷ 0x6d ∷ 0x6d ∷ 0x65 ∷ 0x6e ∷ 0x74 ∷ 0x4c ∷ 0x65 ∷ 0x73 ∷ 0x73 ∷ 0x54 ∷ 0x68 ∷ 0x61 ∷ 0x6e ∷ 0x53 ∷ 0x69 ∷ 0x67 ∷ 0x6e ∷ 0x42 ∷ 0x61 ∷ 0x6e ∷ 0x67 ∷ 0x44 ∷ 0x61 ∷ 0x73 ∷ 0x68 ∷ 0x44 ∷ 0x61 ∷ 0x73 ∷ 0x68 ∷ [])) (Character 9) (Character 9) 1 ∷ event (Error (0x53 ∷ 0x61 ∷ 0x77 ∷ 0x20 ∷ 0x0 ∷ 0x20 ∷ 0x69 ∷ 0x6e ∷ 0x20 ∷ 0x73 ∷ 0x74 ∷ 0x61 ∷ 0x74 ∷ 0x65 ∷ 0x20 ∷ 0x43 ∷ 0x6f ∷ 0x6d ∷ 0x6d ∷ 0x65 ∷ 0x6e ∷ 0x74 ∷ [])) (Character 9) (Character 9) 1 ∷ event (Comment (0x61 ∷ 0x3c ∷ 0x21 ∷ 0x2d ∷ 0x2d ∷ 0xef ∷ 0xbf ∷ 0xbd ∷ [])) (Character 12) (Character 12) 1 ∷ event End EndOfInput EndOfInput 1 ∷ []
unfolding reading_on_literals tag_on_literals comment_on_literals
mark_and_nul = refl

mark_at_the_end_of_input : events false (codes "<!--a<!--") ≡ event (Error (codes "Saw EOF in state CommentEnd")) EndOfInput EndOfInput 1 ∷ event (Comment (codes "a<!")) EndOfInput EndOfInput 1 ∷ event End EndOfInput EndOfInput 1 ∷ []
unfolding reading_on_literals tag_on_literals comment_on_literals
mark_at_the_end_of_input = refl

keyword_cut_off : events false (codes "<!doc") ≡ event (Error (codes "Saw ! in state MarkupDeclarationOpen")) (Character 1) EndOfInput 1 ∷ event (Comment (codes "doc")) EndOfInput EndOfInput 1 ∷ event End EndOfInput EndOfInput 1 ∷ []
unfolding reading_on_literals tag_on_literals comment_on_literals
keyword_cut_off = refl

line_of_the_declaration : events false (0x3c ∷ 0x21 ∷ 0xa ∷ 0x3e ∷ []) ≡ event (Error (codes "Saw ! in state MarkupDeclarationOpen")) (Character 1) (Character 2) 1 ∷ event (Comment (0xa ∷ [])) (Character 3) (Character 3) 2 ∷ event End EndOfInput EndOfInput 2 ∷ []
unfolding reading_on_literals tag_on_literals comment_on_literals
line_of_the_declaration = refl

bad_character_after_a_declaration : events true (0x3c ∷ 0x21 ∷ 0x1 ∷ []) ≡ event (Error (codes "Bad character")) (Character 1) (Character 2) 1 ∷ event (Error (0x42 ∷ 0x61 ∷ 0x64 ∷ 0x20 ∷ 0x63 ∷ 0x68 ∷ 0x61 ∷ 0x72 ∷ 0x61 ∷ 0x63 ∷ 0x74 ∷ 0x65 ∷ 0x72 ∷ 0x20 ∷ 0x1 ∷ [])) (Character 2) (Character 2) 1 ∷ event (Comment (0x1 ∷ [])) EndOfInput EndOfInput 1 ∷ event End EndOfInput EndOfInput 1 ∷ []
unfolding reading_on_literals tag_on_literals comment_on_literals
bad_character_after_a_declaration = refl

no_cdata : events false (codes "<![CDATA[x]]>") ≡ event (Error (codes "Saw ! in state MarkupDeclarationOpen")) (Character 1) (Character 2) 1 ∷ event (Comment (codes "[CDATA[x]]")) (Character 12) (Character 12) 1 ∷ event End EndOfInput EndOfInput 1 ∷ []
unfolding reading_on_literals tag_on_literals comment_on_literals
no_cdata = refl

bad_character_after_a_solidus : events true (0x3c ∷ 0x2f ∷ 0x1 ∷ 0x3e ∷ []) ≡ event (Error (0x42 ∷ 0x61 ∷ 0x64 ∷ 0x20 ∷ 0x63 ∷ 0x68 ∷ 0x61 ∷ 0x72 ∷ 0x61 ∷ 0x63 ∷ 0x74 ∷ 0x65 ∷ 0x72 ∷ 0x20 ∷ 0x1 ∷ [])) (Character 2) (Character 2) 1 ∷ event (Error (codes "Bad character")) (Character 2) (Character 2) 1 ∷ event (Comment (0x1 ∷ [])) (Character 3) (Character 3) 1 ∷ event End EndOfInput EndOfInput 1 ∷ []
unfolding reading_on_literals tag_on_literals comment_on_literals
bad_character_after_a_solidus = refl

third_dash_of_a_mark : events false (codes "<!--a<!--->") ≡ event (Error (codes "Saw - in state CommentLessThanSignBangDashDash")) (Character 9) (Character 9) 1 ∷ event (Comment (codes "a<!-")) (Character 10) (Character 10) 1 ∷ event End EndOfInput EndOfInput 1 ∷ []
unfolding reading_on_literals tag_on_literals comment_on_literals
third_dash_of_a_mark = refl

bang_of_a_mark : events false (codes "<!--a<!--!>") ≡ event (Error (codes "Saw ! in state CommentLessThanSignBangDashDash")) (Character 9) (Character 9) 1 ∷ event (Error (codes "Saw > in state CommentEndBang")) (Character 10) (Character 10) 1 ∷ event (Comment (codes "a<!")) (Character 10) (Character 10) 1 ∷ event End EndOfInput EndOfInput 1 ∷ []
unfolding reading_on_literals tag_on_literals comment_on_literals
bang_of_a_mark = refl
