-- One comment as source text, and what it tells.
use Rattle.std.specs.Prelude.{◌≡◌, ℕ, Bool, true, false, List, [], ◌∷◌, ◌++◌, ◌==◌, ◌||◌, ◌&&◌, not, nat_eq, length, flat_map, codes, if◌then◌else◌}
use Rattle.std.specs.List.{starts_with, list_all}
use Rattle.html5ever_interface.specs.Sink.{Message, on_line}
use Rattle.html5ever_interface.specs.Token.{Told}
use Rattle.html5ever_interface.specs.Token.Told.{Comment, End}
use Rattle.html5ever_interface.specs.declared.states.State.{State}
use Rattle.html5ever_interface.specs.declared.states.State.TheVariants as state
use Rattle.html5reading.specs.Characters.{exclamation_mark, greater_than, is_letter, value_bytes, lower_case}
use Rattle.html5reading.specs.Comment.{ends_in, is_lone_dash, in_bogus_comment}
use Rattle.html5reading.specs.ErrorText.{error_in, where_true}
use Rattle.html5reading.specs.NormalisedText.{normalised, line_after}
use Rattle.html5grammar.specs.Spelled.{Spelled, spell, spell_silent, spelled_messages}
use Rattle.html5reading.specs.Start.{Input, Start}
use Rattle.html5reading.specs.Start.Mode.{Data}
use Rattle.html5reading.specs.Start.Open.{Between}
use Rattle.html5reading.specs.Tag.{null_error}

-- ---- how a comment is written

-- "Comment end state", "Comment end bang state", "Comment start state" and "Comment start dash state": the end of a comment
pub data Ending : Type 0 where
  -- `-->`
  Dashes : Ending
  -- `--!>`
  Bang : Ending
  -- `>` directly after `<!--`
  AtOnce : Ending
  -- `->` directly after `<!--`
  AfterDash : Ending

-- "Bogus comment state": what a bogus comment begins with, before its content
pub data Opening : Type 0 where
  -- `</`
  Solidus : Opening
  -- `<!`
  ExclamationMark : Opening

-- a comment as source text
pub data WrittenComment : Type 0 where
  -- `<!--`, the content and the end
  Proper : List ℕ → Ending → WrittenComment
  -- the opening, the content and `>`
  Bogus : Opening → List ℕ → WrittenComment

-- ---- its text

-- an end without its `>`
abbrev pub before_greater_than : Ending → List ℕ
before_greater_than Dashes = codes "--"
before_greater_than Bang = codes "--!"
before_greater_than AtOnce = []
before_greater_than AfterDash = codes "-"

-- the text of such an opening
abbrev pub opening_text : Opening → List ℕ
opening_text Solidus = codes "</"
opening_text ExclamationMark = codes "<!"

-- the text of a comment
unfoldable pub written : WrittenComment → List ℕ
written (Proper content ending) = codes "<!--" ++ ((content ++ before_greater_than ending) ++ greater_than ∷ [])
written (Bogus opening content) = opening_text opening ++ (content ++ greater_than ∷ [])

-- ---- which contents there are

-- whether the text begins with the word
abbrev pub begins_with : List ℕ → List ℕ → Bool
begins_with word text = starts_with nat_eq text word

-- whether the word stands anywhere in the text
unfoldable pub occurs : List ℕ → List ℕ → Bool
occurs word [] = false
occurs word (c ∷ text) = begins_with word (c ∷ text) || occurs word text

-- "Comment state": whether this can be a content. A comment ends at the first end, and an earlier one would lie in its content,
-- since each has `>` last. So `-->` and `--!>` stand nowhere there, and `>` and `->` not at its start.
unfoldable pub is_content : List ℕ → Bool
is_content content =
    not (begins_with (codes ">") content)
    && (not (begins_with (codes "->") content) && (not (occurs (codes "-->") content) && not (occurs (codes "--!>") content)))

abbrev pub is_empty : List ℕ → Bool
is_empty content = nat_eq (length content) 0

-- whether a content can have this end
abbrev pub can_end_with : List ℕ → Ending → Bool
can_end_with content Dashes = is_content content
can_end_with content Bang = is_content content
can_end_with content AtOnce = is_empty content
can_end_with content AfterDash = is_empty content

-- "Markup declaration open state" and "End tag open state": whether a bogus comment begins here. After `</` a letter begins a
-- tag. After `<!` two dashes begin a comment, `doctype` in any case a doctype, and `[CDATA[` in foreign content a CDATA section.
abbrev pub can_open : Bool → Opening → List ℕ → Bool
can_open foreign Solidus [] = false
can_open foreign Solidus (c ∷ content) = not (is_letter c)
can_open foreign ExclamationMark content =
    not (begins_with (codes "--") content)
    && (not (begins_with (codes "doctype") (lower_case content)) && not (foreign && begins_with (codes "[CDATA[") content))

-- whether this is a comment, written out, in foreign content or not. A bogus one ends at the first `>`.
unfoldable pub is_written : Bool → WrittenComment → Bool
is_written foreign (Proper content ending) = can_end_with content ending
is_written foreign (Bogus opening content) = can_open foreign opening content && list_all in_bogus_comment content

-- ---- what it tells

-- whether exactly one dash stands directly before
abbrev pub after_one_dash : List ℕ → Bool
after_one_dash before = ends_in before (codes "-") && not (ends_in before (codes "--"))

-- "Comment less-than sign bang dash dash state": a `<!--` within the content is an error at the character after it, unless that
-- is `>`
unfoldable pub after_mark_error : Bool → List ℕ → ℕ → List Told
after_mark_error exact before c =
    where_true (ends_in before (codes "<!--") && not (c == greater_than))
    (error_in exact state.CommentLessThanSignBangDashDash c)

-- "Comment start state" to "Comment end bang state": the state that the error of a NUL names
unfoldable pub null_state : List ℕ → State
null_state before =
    if is_empty before then state.CommentStart
    else if is_lone_dash before then state.CommentStartDash
    else if ends_in before (codes "--!") then state.CommentEndBang
    else if after_one_dash before then state.CommentEndDash
    else state.Comment

-- "Comment state": the characters of a comment, each with its errors, by the text before it in the comment
unfoldable pub spell_content : Bool → List ℕ → List ℕ → List Spelled
spell_content exact before [] = []
spell_content exact before (c ∷ content) =
    record { character = c; told = after_mark_error exact before c ++ null_error exact (null_state before) c }
    ∷ spell_content exact (before ++ c ∷ []) content

-- "Comment end bang state", "Comment start state" and "Comment start dash state": the errors of an end
abbrev pub ending_errors : Bool → Ending → List Told
ending_errors exact Dashes = []
ending_errors exact Bang = error_in exact state.CommentEndBang greater_than ∷ []
ending_errors exact AtOnce = error_in exact state.CommentStart greater_than ∷ []
ending_errors exact AfterDash = error_in exact state.CommentStartDash greater_than ∷ []

-- the `>` of a comment, with errors before it
abbrev pub spell_end : List Told → List ℕ → List Spelled
spell_end errors content = record { character = greater_than; told = errors ++ Comment (flat_map value_bytes content) ∷ [] } ∷ []

-- "Bogus comment state": the content of a bogus comment
abbrev pub spell_bogus : Bool → List ℕ → List Spelled
spell_bogus exact content = spell (null_error exact state.BogusComment) content

-- "End tag open state" and "Bogus comment state": the content of a bogus comment after `</`, whose first character is an error
abbrev pub spell_odd : Bool → List ℕ → List Spelled
spell_odd exact [] = []
spell_odd exact (c ∷ content) =
    record { character = c; told = error_in exact state.EndTagOpen c ∷ null_error exact state.BogusComment c } ∷ spell_bogus exact content

-- the messages of a comment. When no keyword stands after `<!`, that is an error on the line of its `!`. What could have begun
-- one tells nothing, so the error comes first.
unfoldable pub messages_of : Bool → Input → WrittenComment → List Message
messages_of exact input (Proper content ending) =
    spelled_messages exact input []
    (spell_silent (codes "<!--") ++ (spell_content exact [] (content ++ before_greater_than ending) ++ spell_end (ending_errors exact ending) content))
messages_of exact input (Bogus Solidus content) =
    spelled_messages exact input [] (spell_silent (codes "</") ++ (spell_odd exact content ++ spell_end [] content))
messages_of exact input (Bogus ExclamationMark content) =
    on_line (line_after input (codes "<!")) (error_in exact state.MarkupDeclarationOpen exclamation_mark ∷ [])
    ++ spelled_messages exact input (codes "<!") (spell_bogus exact content ++ spell_end [] content)

-- the messages of a text that is one comment
unfoldable pub comment_messages : Bool → Input → WrittenComment → List Message
comment_messages exact input comment =
    messages_of exact input comment ++ record { token = End; line = line_after input (written comment) } ∷ []

-- the text X, read from the start K, in foreign content or not, is this comment, written out
pub record IsComment (K : Start) (foreign : Bool) (X : List ℕ) (comment : WrittenComment) : Type 0 where
  pub starts : K.opened ≡ Between Data
  pub is_comment : is_written foreign comment ≡ true
  pub text : normalised K.input X ≡ written comment
