-- Worked cases of one comment.
use Rattle.std.specs.Prelude.{◌≡◌, ℕ, Bool, true, false, List, [], ◌∷◌, ◌++◌, codes, refl}
use Rattle.html5ever_interface.specs.Sink.{Message, on_line}
use Rattle.html5ever_interface.specs.Token.Told.{Error, Comment, End}
use Rattle.html5reading.specs.Characters.{is_bad_character, is_letter, shown, value_bytes}
use Rattle.html5reading.specs.Comment.{in_bogus_comment, begins_keyword}
use Rattle.html5reading.specs.ErrorText.{bad_character, saw}
use Rattle.html5reading.specs.NormalisedText.{normalised, without_dropped_first, with_line_feeds, line_after}
use Rattle.html5grammar.specs.Comment.{WrittenComment, written, occurs, is_content, is_written, after_mark_error, null_state, spell_content, messages_of, comment_messages}
use Rattle.html5grammar.specs.Comment.Ending.{Dashes, Bang, AtOnce, AfterDash}
use Rattle.html5grammar.specs.Comment.Opening.{Solidus, ExclamationMark}
use Rattle.html5grammar.specs.Comment.WrittenComment.{Proper, Bogus}
use Rattle.html5grammar.specs.Spelled.{spelled_messages}
use Rattle.html5reading.specs.Slice.{run_while, after_while}
use Rattle.html5reading.specs.Start.{Input}
use lib.Utf8.{encode}

abbrev input : Input
input = record { line = 1; after_carriage_return = false; drops_byte_order_mark = true }

-- a text, how it is written, and its messages
record Case (exact : Bool) (comment : WrittenComment) (X : List ℕ) (M : List Message) : Type 0 where
  text : normalised input X ≡ written comment
  is_comment : is_written false comment ≡ true
  messages : comment_messages exact input comment ≡ M

content_has_greater_than : Case false (Proper (codes "a>b") Dashes) (codes "<!--a>b-->")
    (on_line 1 (Comment (codes "a>b") ∷ End ∷ []))
unfolding written normalised without_dropped_first with_line_feeds line_after occurs is_content is_written after_mark_error null_state spell_content messages_of comment_messages spelled_messages in_bogus_comment begins_keyword run_while after_while is_letter is_bad_character value_bytes shown encode saw bad_character
content_has_greater_than = record { text = refl; is_comment = refl; messages = refl }

dashes_and_bangs_within : Case false (Proper (codes "a--b--!c-") Dashes) (codes "<!--a--b--!c--->")
    (on_line 1 (Comment (codes "a--b--!c-") ∷ End ∷ []))
unfolding written normalised without_dropped_first with_line_feeds line_after occurs is_content is_written after_mark_error null_state spell_content messages_of comment_messages spelled_messages in_bogus_comment begins_keyword run_while after_while is_letter is_bad_character value_bytes shown encode saw bad_character
dashes_and_bangs_within = record { text = refl; is_comment = refl; messages = refl }

at_once : Case false (Proper [] AtOnce) (codes "<!-->")
    (on_line 1 (Error (codes "Saw > in state CommentStart") ∷ Comment [] ∷ End ∷ []))
unfolding written normalised without_dropped_first with_line_feeds line_after occurs is_content is_written after_mark_error null_state spell_content messages_of comment_messages spelled_messages in_bogus_comment begins_keyword run_while after_while is_letter is_bad_character value_bytes shown encode saw bad_character
at_once = record { text = refl; is_comment = refl; messages = refl }

after_a_dash : Case false (Proper [] AfterDash) (codes "<!--->")
    (on_line 1 (Error (codes "Saw > in state CommentStartDash") ∷ Comment [] ∷ End ∷ []))
unfolding written normalised without_dropped_first with_line_feeds line_after occurs is_content is_written after_mark_error null_state spell_content messages_of comment_messages spelled_messages in_bogus_comment begins_keyword run_while after_while is_letter is_bad_character value_bytes shown encode saw bad_character
after_a_dash = record { text = refl; is_comment = refl; messages = refl }

after_a_bang : Case false (Proper (codes "a--!") Bang) (codes "<!--a--!--!>")
    (on_line 1 (Error (codes "Saw > in state CommentEndBang") ∷ Comment (codes "a--!") ∷ End ∷ []))
unfolding written normalised without_dropped_first with_line_feeds line_after occurs is_content is_written after_mark_error null_state spell_content messages_of comment_messages spelled_messages in_bogus_comment begins_keyword run_while after_while is_letter is_bad_character value_bytes shown encode saw bad_character
after_a_bang = record { text = refl; is_comment = refl; messages = refl }

null_at_each_place : Case false (Proper (codes "\0-\0--!\0--\0") Dashes) (codes "<!--\0-\0--!\0--\0-->")
    (on_line 1 (Error (codes "Saw \0 in state CommentStart") ∷ Error (codes "Saw \0 in state CommentEndDash") ∷ Error (codes "Saw \0 in state CommentEndBang") ∷ Error (codes "Saw \0 in state Comment") ∷ Comment ((239 ∷ 191 ∷ 189 ∷ []) ++ ((codes "-") ++ ((239 ∷ 191 ∷ 189 ∷ []) ++ ((codes "--!") ++ ((239 ∷ 191 ∷ 189 ∷ []) ++ ((codes "--") ++ (239 ∷ 191 ∷ 189 ∷ []))))))) ∷ End ∷ []))
unfolding written normalised without_dropped_first with_line_feeds line_after occurs is_content is_written after_mark_error null_state spell_content messages_of comment_messages spelled_messages in_bogus_comment begins_keyword run_while after_while is_letter is_bad_character value_bytes shown encode saw bad_character
null_at_each_place = record { text = refl; is_comment = refl; messages = refl }

null_after_a_lone_dash : Case false (Proper (codes "-\0") Dashes) (codes "<!---\0-->")
    (on_line 1 (Error (codes "Saw \0 in state CommentStartDash") ∷ Comment ((codes "-") ++ (239 ∷ 191 ∷ 189 ∷ [])) ∷ End ∷ []))
unfolding written normalised without_dropped_first with_line_feeds line_after occurs is_content is_written after_mark_error null_state spell_content messages_of comment_messages spelled_messages in_bogus_comment begins_keyword run_while after_while is_letter is_bad_character value_bytes shown encode saw bad_character
null_after_a_lone_dash = record { text = refl; is_comment = refl; messages = refl }

marks : Case false (Proper (codes "<!--a<!--b-<!--c--<!--\0--!<!--") Dashes) (codes "<!--<!--a<!--b-<!--c--<!--\0--!<!---->")
    (on_line 1 (Error (codes "Saw a in state CommentLessThanSignBangDashDash") ∷ Error (codes "Saw b in state CommentLessThanSignBangDashDash") ∷ Error (codes "Saw c in state CommentLessThanSignBangDashDash") ∷ Error (codes "Saw \0 in state CommentLessThanSignBangDashDash") ∷ Error (codes "Saw \0 in state Comment") ∷ Error (codes "Saw - in state CommentLessThanSignBangDashDash") ∷ Comment ((codes "<!--a<!--b-<!--c--<!--") ++ ((239 ∷ 191 ∷ 189 ∷ []) ++ (codes "--!<!--"))) ∷ End ∷ []))
unfolding written normalised without_dropped_first with_line_feeds line_after occurs is_content is_written after_mark_error null_state spell_content messages_of comment_messages spelled_messages in_bogus_comment begins_keyword run_while after_while is_letter is_bad_character value_bytes shown encode saw bad_character
marks = record { text = refl; is_comment = refl; messages = refl }

no_mark_before_the_end : Case false (Proper (codes "a<!") Dashes) (codes "<!--a<!-->")
    (on_line 1 (Comment (codes "a<!") ∷ End ∷ []))
unfolding written normalised without_dropped_first with_line_feeds line_after occurs is_content is_written after_mark_error null_state spell_content messages_of comment_messages spelled_messages in_bogus_comment begins_keyword run_while after_while is_letter is_bad_character value_bytes shown encode saw bad_character
no_mark_before_the_end = record { text = refl; is_comment = refl; messages = refl }

lines_and_bad_characters : Case true (Proper (97 ∷ 10 ∷ 98 ∷ 60 ∷ 33 ∷ 45 ∷ 45 ∷ 10 ∷ 99 ∷ 1 ∷ 233 ∷ []) Dashes) (60 ∷ 33 ∷ 45 ∷ 45 ∷ 97 ∷ 13 ∷ 10 ∷ 98 ∷ 60 ∷ 33 ∷ 45 ∷ 45 ∷ 13 ∷ 99 ∷ 1 ∷ 233 ∷ 45 ∷ 45 ∷ 62 ∷ [])
    (on_line 3 (Error (codes "Bad character") ∷ Error (codes "Bad character \u{1}") ∷ Comment ((codes "a\nb<!--\nc\u{1}") ++ (195 ∷ 169 ∷ [])) ∷ End ∷ []))
unfolding written normalised without_dropped_first with_line_feeds line_after occurs is_content is_written after_mark_error null_state spell_content messages_of comment_messages spelled_messages in_bogus_comment begins_keyword run_while after_while is_letter is_bad_character value_bytes shown encode saw bad_character
lines_and_bad_characters = record { text = refl; is_comment = refl; messages = refl }

no_end_tag : Case true (Bogus Solidus (codes "1\0\u{1}")) (codes "</1\0\u{1}>")
    (on_line 1 (Error (codes "Bad character") ∷ Error (codes "Bad character") ∷ Error (codes "Bad character \u{1}") ∷ Comment ((codes "1") ++ ((239 ∷ 191 ∷ 189 ∷ []) ++ (codes "\u{1}"))) ∷ End ∷ []))
unfolding written normalised without_dropped_first with_line_feeds line_after occurs is_content is_written after_mark_error null_state spell_content messages_of comment_messages spelled_messages in_bogus_comment begins_keyword run_while after_while is_letter is_bad_character value_bytes shown encode saw bad_character
no_end_tag = record { text = refl; is_comment = refl; messages = refl }

bad_character_first : Case true (Bogus Solidus (codes "\u{1}")) (codes "</\u{1}>")
    (on_line 1 (Error (codes "Bad character \u{1}") ∷ Error (codes "Bad character") ∷ Comment (codes "\u{1}") ∷ End ∷ []))
unfolding written normalised without_dropped_first with_line_feeds line_after occurs is_content is_written after_mark_error null_state spell_content messages_of comment_messages spelled_messages in_bogus_comment begins_keyword run_while after_while is_letter is_bad_character value_bytes shown encode saw bad_character
bad_character_first = record { text = refl; is_comment = refl; messages = refl }

no_declaration : Case false (Bogus ExclamationMark []) (codes "<!>")
    (on_line 1 (Error (codes "Saw ! in state MarkupDeclarationOpen") ∷ Comment [] ∷ End ∷ []))
unfolding written normalised without_dropped_first with_line_feeds line_after occurs is_content is_written after_mark_error null_state spell_content messages_of comment_messages spelled_messages in_bogus_comment begins_keyword run_while after_while is_letter is_bad_character value_bytes shown encode saw bad_character
no_declaration = record { text = refl; is_comment = refl; messages = refl }

all_held : Case false (Bogus ExclamationMark (codes "DOCtyp")) (codes "<!DOCtyp>")
    (on_line 1 (Error (codes "Saw ! in state MarkupDeclarationOpen") ∷ Comment (codes "DOCtyp") ∷ End ∷ []))
unfolding written normalised without_dropped_first with_line_feeds line_after occurs is_content is_written after_mark_error null_state spell_content messages_of comment_messages spelled_messages in_bogus_comment begins_keyword run_while after_while is_letter is_bad_character value_bytes shown encode saw bad_character
all_held = record { text = refl; is_comment = refl; messages = refl }

held_dash : Case false (Bogus ExclamationMark (codes "-x")) (codes "<!-x>")
    (on_line 1 (Error (codes "Saw ! in state MarkupDeclarationOpen") ∷ Comment (codes "-x") ∷ End ∷ []))
unfolding written normalised without_dropped_first with_line_feeds line_after occurs is_content is_written after_mark_error null_state spell_content messages_of comment_messages spelled_messages in_bogus_comment begins_keyword run_while after_while is_letter is_bad_character value_bytes shown encode saw bad_character
held_dash = record { text = refl; is_comment = refl; messages = refl }

lines_after_a_declaration : Case false (Bogus ExclamationMark (codes "d\n\0")) (codes "<!d\n\0>")
    (on_line 1 (Error (codes "Saw ! in state MarkupDeclarationOpen") ∷ []) ++ on_line 2 (Error (codes "Saw \0 in state BogusComment") ∷ Comment ((codes "d\n") ++ (239 ∷ 191 ∷ 189 ∷ [])) ∷ End ∷ []))
unfolding written normalised without_dropped_first with_line_feeds line_after occurs is_content is_written after_mark_error null_state spell_content messages_of comment_messages spelled_messages in_bogus_comment begins_keyword run_while after_while is_letter is_bad_character value_bytes shown encode saw bad_character
lines_after_a_declaration = record { text = refl; is_comment = refl; messages = refl }

bad_character_decides : Case true (Bogus ExclamationMark (codes "do\u{1}")) (codes "<!do\u{1}>")
    (on_line 1 (Error (codes "Bad character") ∷ Error (codes "Bad character \u{1}") ∷ Comment (codes "do\u{1}") ∷ End ∷ []))
unfolding written normalised without_dropped_first with_line_feeds line_after occurs is_content is_written after_mark_error null_state spell_content messages_of comment_messages spelled_messages in_bogus_comment begins_keyword run_while after_while is_letter is_bad_character value_bytes shown encode saw bad_character
bad_character_decides = record { text = refl; is_comment = refl; messages = refl }

no_cdata : Case false (Bogus ExclamationMark (codes "[CDATA[x]]")) (codes "<![CDATA[x]]>")
    (on_line 1 (Error (codes "Saw ! in state MarkupDeclarationOpen") ∷ Comment (codes "[CDATA[x]]") ∷ End ∷ []))
unfolding written normalised without_dropped_first with_line_feeds line_after occurs is_content is_written after_mark_error null_state spell_content messages_of comment_messages spelled_messages in_bogus_comment begins_keyword run_while after_while is_letter is_bad_character value_bytes shown encode saw bad_character
no_cdata = record { text = refl; is_comment = refl; messages = refl }

-- an end, a keyword or the beginning of a tag stands first

abbrev NotWritten : WrittenComment → Type 0
NotWritten comment = is_written false comment ≡ false

dashes_end_it : NotWritten (Proper (codes "a-->b") Dashes)
unfolding is_written is_content occurs in_bogus_comment is_letter
dashes_end_it = refl

bang_ends_it : NotWritten (Proper (codes "a--!>b") Bang)
unfolding is_written is_content occurs in_bogus_comment is_letter
bang_ends_it = refl

begins_with_end : NotWritten (Proper (codes ">a") Dashes)
unfolding is_written is_content occurs in_bogus_comment is_letter
begins_with_end = refl

begins_with_dash_and_end : NotWritten (Proper (codes "->a") Bang)
unfolding is_written is_content occurs in_bogus_comment is_letter
begins_with_dash_and_end = refl

some_at_once : NotWritten (Proper (codes "a") AtOnce)
unfolding is_written is_content occurs in_bogus_comment is_letter
some_at_once = refl

letter : NotWritten (Bogus Solidus (codes "a1"))
unfolding is_written is_content occurs in_bogus_comment is_letter
letter = refl

no_content : NotWritten (Bogus Solidus [])
unfolding is_written is_content occurs in_bogus_comment is_letter
no_content = refl

begins_a_comment : NotWritten (Bogus ExclamationMark (codes "--x"))
unfolding is_written is_content occurs in_bogus_comment is_letter
begins_a_comment = refl

begins_a_doctype : NotWritten (Bogus ExclamationMark (codes "DocTypes"))
unfolding is_written is_content occurs in_bogus_comment is_letter
begins_a_doctype = refl

ends_within : NotWritten (Bogus ExclamationMark (codes "x>y"))
unfolding is_written is_content occurs in_bogus_comment is_letter
ends_within = refl

-- in foreign content that is so of the keyword of a CDATA section

abbrev ForeignWritten : Bool → WrittenComment → Type 0
ForeignWritten is_one comment = is_written true comment ≡ is_one

begins_a_section : ForeignWritten false (Bogus ExclamationMark (codes "[CDATA[x]]"))
unfolding is_written is_content occurs in_bogus_comment is_letter
begins_a_section = refl

keyword_in_another_case : ForeignWritten true (Bogus ExclamationMark (codes "[cdata[x]]"))
unfolding is_written is_content occurs in_bogus_comment is_letter
keyword_in_another_case = refl

no_whole_keyword : ForeignWritten true (Bogus ExclamationMark (codes "[CDATA"))
unfolding is_written is_content occurs in_bogus_comment is_letter
no_whole_keyword = refl
