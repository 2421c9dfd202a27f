-- Comments, and the text after `<!`. The text of a comment before a character says what that character tells.
-- The slices below are vocabulary of proofs: `html5grammar/specs/Comment` says how a comment is written.
use Rattle.std.specs.Prelude.{ℕ, ◌+◌, ◌-◌, Bool, true, false, List, [], ◌∷◌, ◌++◌, ◌==◌, ◌||◌, ◌&&◌, codes, flat_map, length, nat_eq, not, take, if◌then◌else◌}
use Rattle.std.specs.List.{ends_with, starts_with}
use Rattle.std.specs.Str.{bytes_eq}
use Rattle.html5ever_interface.specs.Token.{Told, empty_doctype}
use Rattle.html5ever_interface.specs.Token.Told.{Comment}
use Rattle.html5ever_interface.specs.declared.states.State.{State}
use Rattle.html5ever_interface.specs.declared.states.State.TheVariants as state
use Rattle.html5reading.specs.Characters.{exclamation_mark, greater_than, lower_case, value_bytes}
use Rattle.html5reading.specs.Doctype.{doctype}
use Rattle.html5reading.specs.ErrorText.{error_in, where_true}
use Rattle.html5reading.specs.Slice.{Slice, Late, no_character, cut_off, one_character, with_character, with_run, run_of, after_run}
use Rattle.html5reading.specs.Slice.Afterwards.{Settles, Asks}
use Rattle.html5reading.specs.Start.Mode.{Data, Cdata}
use Rattle.html5reading.specs.Start.Open.{Between, InDeclaration, InComment, InBogusComment}
use Rattle.html5reading.specs.Tag.{null_error}

-- ---- the text of a comment, in bytes

abbrev pub ends_in : List ℕ → List ℕ → Bool
ends_in text word = ends_with nat_eq text word

-- the text without this many last bytes
abbrev pub without_last : ℕ → List ℕ → List ℕ
without_last n text = take (length text - n) text

abbrev pub is_lone_dash : List ℕ → Bool
is_lone_dash text = bytes_eq text (codes "-")

-- ---- errors

-- "Comment start state" to "Comment end bang state": the state that an error names, where `after_dashes` is that after two dashes
-- or more
unfoldable pub comment_state : State → List ℕ → State
comment_state after_dashes text =
    if nat_eq (length text) 0 then state.CommentStart
    else if is_lone_dash text then state.CommentStartDash
    else if ends_in text (codes "--!") then state.CommentEndBang
    else if ends_in text (codes "--") then after_dashes
    else if ends_in text (codes "-") then state.CommentEndDash
    else state.Comment

-- "Comment less-than sign bang dash dash state": whether the text ends in a `<!--` within the comment
unfoldable pub ends_in_mark : List ℕ → Bool
ends_in_mark text = ends_in text (codes "<!--")

-- "Comment less-than sign bang dash dash state": a nested comment is an error, unless `>` follows
unfoldable pub mark_error : Bool → List ℕ → ℕ → List Told
mark_error exact text c =
    where_true (ends_in_mark text && not (c == greater_than)) (error_in exact state.CommentLessThanSignBangDashDash c)

-- "Comment state": what a character of the text tells
unfoldable pub comment_errors : Bool → List ℕ → ℕ → List Told
comment_errors exact text c = mark_error exact text c ++ null_error exact (comment_state state.Comment text) c

-- ---- the end of a comment

-- "Comment start state", "Comment start dash state", "Comment end state" and "Comment end bang state": whether `>` ends the
-- comment after this text
unfoldable pub ends_comment : List ℕ → Bool
ends_comment text = nat_eq (length text) 0 || is_lone_dash text || ends_in text (codes "--") || ends_in text (codes "--!")

-- "Comment end state": only after two dashes the `>` is no error
unfoldable pub comment_end_error : Bool → List ℕ → List Told
comment_end_error exact text = where_true (not (ends_in text (codes "--"))) (error_in exact (comment_state state.Comment text) greater_than)

-- the text that is sent: without the dashes that belong to the end
unfoldable pub comment_content : List ℕ → List ℕ
comment_content text =
    if ends_in text (codes "--!") then without_last 3 text
    else if ends_in text (codes "--") then without_last 2 text
    else if ends_in text (codes "-") then without_last 1 text
    else text

-- "Comment start state" to "Comment end bang state": a comment, of which `before` was read after its `<!--`
unfoldable pub comment : Bool → List ℕ → List ℕ → Slice
comment exact before [] = cut_off (InComment before)
comment exact before (c ∷ text) =
    if (c == greater_than) && ends_comment before
    then one_character (comment_end_error exact before ++ Comment (comment_content before) ∷ []) (Between Data)
    else with_character (comment_errors exact before c) (comment exact (before ++ value_bytes c) text)

-- ---- bogus comments

-- whether a character goes on with a bogus comment
unfoldable pub in_bogus_comment : ℕ → Bool
in_bogus_comment c = not (c == greater_than)

-- "Bogus comment state", at its `>`
unfoldable pub after_bogus_comment : List ℕ → List ℕ → Slice
after_bogus_comment told [] = cut_off (InBogusComment told)
after_bogus_comment told (c ∷ text) = one_character (Comment told ∷ []) (Between Data)

-- "Bogus comment state": a bogus comment runs to `>`
unfoldable pub bogus_comment : Bool → List ℕ → List ℕ → Slice
bogus_comment exact before text =
    let run : List ℕ = run_of in_bogus_comment text in
    with_run (null_error exact state.BogusComment) run (after_bogus_comment (before ++ flat_map value_bytes run) (after_run in_bogus_comment text))

-- "Bogus comment state": the same from c on, where something is sent first
unfoldable pub bogus_comment_from : Bool → List ℕ → List Told → ℕ → List ℕ → Slice
bogus_comment_from exact before first c text =
    if c == greater_than then one_character (first ++ Comment before ∷ []) (Between Data)
    else with_character (first ++ null_error exact state.BogusComment c) (bogus_comment exact (before ++ value_bytes c) text)

-- ---- after `<!`

-- "Markup declaration open state": the first two keywords, `doctype` in any case. The held text of them is ASCII, so its
-- characters are its bytes.
unfoldable pub begins_keyword : List ℕ → Bool
begins_keyword held = starts_with nat_eq (codes "--") held || starts_with nat_eq (codes "doctype") (lower_case held)

-- "Markup declaration open state": when no keyword comes, that is an error at the `!`, and a comment begins after that
abbrev pub declaration_error : Bool → List ℕ → List Late
declaration_error exact held =
    record { token = error_in exact state.MarkupDeclarationOpen exclamation_mark; back = length held + 2; is_at = true; is_held = false } ∷ []

-- "Markup declaration open state": the first keyword with which the text after `<!` begins decides. Where neither of the first
-- two begins, that character asks the sink whether a CDATA section may begin.
unfoldable pub declaration : Bool → List ℕ → List ℕ → Slice
declaration exact held [] = cut_off (InDeclaration held)
declaration exact held (c ∷ text) =
    if bytes_eq (held ++ c ∷ []) (codes "--") then with_character [] (comment exact [] text)
    else if bytes_eq (lower_case (held ++ c ∷ [])) (codes "doctype") then with_character [] (doctype exact empty_doctype text)
    else if begins_keyword (held ++ c ∷ []) then with_character [] (declaration exact (held ++ c ∷ []) text)
    else no_character (Asks held)

-- "Markup declaration open state": the keyword of a CDATA section, in this case only
abbrev pub cdata_keyword : List ℕ
cdata_keyword = codes "[CDATA["

unfoldable pub begins_cdata : List ℕ → Bool
begins_cdata held = starts_with nat_eq cdata_keyword held

-- "Markup declaration open state", where c goes on with neither of the first two. By the sink's answer whether that is in foreign
-- content, a CDATA section begins after its keyword, and else a bogus comment.
unfoldable pub declaration_by_answer : Bool → Bool → List ℕ → ℕ → List ℕ → Slice
declaration_by_answer exact foreign held c text =
    if foreign && bytes_eq (held ++ c ∷ []) cdata_keyword then one_character [] (Between Cdata)
    else if foreign && begins_cdata (held ++ c ∷ []) then with_character [] (declaration exact (held ++ c ∷ []) text)
    else no_character (Settles (declaration_error exact held) (InBogusComment held))
