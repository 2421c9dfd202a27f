-- What the machine does at the characters of one comment.
use Rattle.std.proofs.Common.{◌≡◌, ℕ, ◌+◌, Bool, true, false, List, [], ◌∷◌, ◌++◌, length, length-append, refl, ap, sym, ◌∙◌, arith, subst}
use Rattle.std.specs.Prelude.{◌==◌, ◌&&◌, not, codes, flat_map, nat_eq, if◌then◌else◌}
use Rattle.std.specs.Cmp.Lexicographic.{same_text}
use Rattle.std.specs.List.{list_all}
use Rattle.std.proofs.lemmas.Bool.{false≢true, eqb-true, ne_eqb, and_parts, and_from, or_left, or_right, not-true, false_from_ne_true}
use Rattle.std.proofs.lemmas.List.{append_assoc, append-nil, nil_from_length}
use lib.Utf8.{encode}
use Rattle.html5ever_interface.specs.Token.Told.{Comment}
use Rattle.html5ever_interface.specs.declared.states.State.TheVariants as state
use Rattle.html5reading.specs.Characters.{greater_than, is_letter, shown, value_bytes}
use Rattle.html5reading.specs.Comment.{ends_in, without_last, is_lone_dash, comment_state, ends_in_mark, mark_error, comment_errors, ends_comment, comment_end_error, comment_content, in_bogus_comment}
use Rattle.html5grammar.specs.Comment.{Ending, is_written, before_greater_than, begins_with, occurs, is_content, is_empty, can_end_with, after_mark_error, null_state, spell_content, ending_errors, spell_end, spell_bogus, spell_odd}
use Rattle.html5grammar.specs.Comment.Ending.{Dashes, Bang, AtOnce, AfterDash}
use Rattle.html5grammar.specs.Comment.Opening.{Solidus}
use Rattle.html5grammar.specs.Comment.WrittenComment.{Bogus}
use Rattle.html5grammar.specs.Spelled.{spell_silent}
use Rattle.html5reading.specs.Reading.Here.{Tells}
use Rattle.html5reading.specs.Start.Mode.{Data}
use Rattle.html5reading.specs.Start.Open.{Between, LessThan, LessThanSolidus, InComment, InBogusComment}
use Rattle.html5reading.specs.Tag.{null_error}
use Rattle.html5reading.specs.Machine.{step_at, data_step, less_than_step, solidus_step, comment_step, bogus_comment_step}
use Rattle.html5reading.proofs.TextEnds.{ends_in-front, ends_in-append, ends_in-other, without_last-append}
use Rattle.html5grammar.proofs.Comment.Text.{bytes_of, bytes-push, bytes-append, comment_errors-bytes, ends_comment-bytes}
use Rattle.html5grammar.proofs.Goes.{Goes, Goes-append, Goes-one}

-- ---- no `>` of the content ends the comment

pub occurs-append : (word front : List ℕ) (c : ℕ) (rest : List ℕ) → begins_with word (c ∷ rest) ≡ true → occurs word (front ++ c ∷ rest) ≡ true
unfolding occurs
occurs-append word [] c rest h = or_left (begins_with word (c ∷ rest)) (occurs word rest) h
occurs-append word (d ∷ front) c rest h = or_right (begins_with word (d ∷ front ++ c ∷ rest)) (occurs word (front ++ c ∷ rest)) (occurs-append word front c rest h)

record Content (content : List ℕ) : Type 0 where
  no_end : begins_with (codes ">") content ≡ false
  no_dash : begins_with (codes "->") content ≡ false
  no_dashes : occurs (codes "-->") content ≡ false
  no_bang : occurs (codes "--!>") content ≡ false

-- the conditions on a content, as a record of its four parts
content_parts : (content : List ℕ) → is_content content ≡ true → Content content
unfolding is_content
content_parts content h =
    let p = and_parts (not (begins_with (codes ">") content)) _ h in
    let q = and_parts (not (begins_with (codes "->") content)) _ p.1 in
    let r = and_parts (not (occurs (codes "-->") content)) (not (occurs (codes "--!>") content)) q.1 in
    record {
      no_end = not-true (begins_with (codes ">") content) p.0;
      no_dash = not-true (begins_with (codes "->") content) q.0;
      no_dashes = not-true (occurs (codes "-->") content) r.0;
      no_bang = not-true (occurs (codes "--!>") content) r.1;
    }

-- a `>` of the content ends no comment
goes_on : (content before rest : List ℕ) → is_content content ≡ true → content ≡ before ++ greater_than ∷ rest → ends_comment before ≡ false
unfolding ends_comment
goes_on content before rest h split =
    let parts : Content content = content_parts content h in
    let some : nat_eq (length before) 0 ≡ false =
    false_from_ne_true (nat_eq (length before) 0) (λ e. false≢true (sym parts.no_end
    ∙ ap (begins_with (codes ">")) (split ∙ ap (λ l. l ++ greater_than ∷ rest) (nil_from_length before (eqb-true (length before) 0 e))))) in
    let more : is_lone_dash before ≡ false =
    false_from_ne_true (is_lone_dash before) (λ e. false≢true (sym parts.no_dash
    ∙ ap (begins_with (codes "->")) (split ∙ ap (λ l. l ++ greater_than ∷ rest) (same_text before (codes "-") (sym e))))) in
    let no_dashes : ends_in before (codes "--") ≡ false =
    false_from_ne_true (ends_in before (codes "--")) (λ e. false≢true (sym parts.no_dashes
    ∙ ap (occurs (codes "-->")) (split ∙ ap (λ l. l ++ greater_than ∷ rest) (ends_in-front before (codes "--") e) ∙ append_assoc (without_last 2 before) (codes "--") (greater_than ∷ rest))
    ∙ occurs-append (codes "-->") (without_last 2 before) 0x2D (0x2D ∷ greater_than ∷ rest) refl)) in
    let no_bang : ends_in before (codes "--!") ≡ false =
    false_from_ne_true (ends_in before (codes "--!")) (λ e. false≢true (sym parts.no_bang
    ∙ ap (occurs (codes "--!>")) (split ∙ ap (λ l. l ++ greater_than ∷ rest) (ends_in-front before (codes "--!") e) ∙ append_assoc (without_last 3 before) (codes "--!") (greater_than ∷ rest))
    ∙ occurs-append (codes "--!>") (without_last 3 before) 0x2D (0x2D ∷ 0x21 ∷ greater_than ∷ rest) refl)) in
    rw (some, more, no_dashes, no_bang) refl

-- no `>` of the text ends a comment, where `before` stands before it
unfoldable pub runs_on : List ℕ → List ℕ → Bool
runs_on before [] = true
runs_on before (c ∷ text) = not ((c == greater_than) && ends_comment before) && runs_on (before ++ c ∷ []) text

-- the rest of a content goes on with the comment
runs_on-rest : (content before text : List ℕ) → is_content content ≡ true → content ≡ before ++ text → runs_on before text ≡ true
unfolding runs_on
runs_on-rest content before [] h split = refl
runs_on-rest content before (c ∷ text) h split =
    and_from (not ((c == greater_than) && ends_comment before)) (runs_on (before ++ c ∷ []) text)
    (here (c == greater_than) refl)
    (runs_on-rest content (before ++ c ∷ []) text h (split ∙ sym (append_assoc before (c ∷ []) text)))
  where
    here : (t : Bool) → (c == greater_than) ≡ t → not (t && ends_comment before) ≡ true
    here true e = ap not (goes_on content before text h (split ∙ ap (λ d. before ++ d ∷ text) (eqb-true c greater_than e)))
    here false e = refl

pub runs_on-content : (content : List ℕ) → is_content content ≡ true → runs_on [] content ≡ true
runs_on-content content h = runs_on-rest content [] content h refl

-- ---- the errors of a place

mark-errors : (exact : Bool) (before : List ℕ) (c : ℕ) → mark_error exact before c ≡ after_mark_error exact before c
unfolding mark_error ends_in_mark after_mark_error
mark-errors exact before c = refl

-- the state that the error of a NUL names is the one that the walk names
null_state-is : (before : List ℕ) → comment_state state.Comment before ≡ null_state before
unfolding comment_state null_state
null_state-is before = tests (is_empty before) (is_lone_dash before) (ends_in before (codes "--!")) (ends_in before (codes "--")) (ends_in before (codes "-"))
  where
    tests : (start lone bang dashes dash : Bool)
        → (if start then state.CommentStart else if lone then state.CommentStartDash else if bang then state.CommentEndBang else if dashes then state.Comment else if dash then state.CommentEndDash else state.Comment)
        ≡ (if start then state.CommentStart else if lone then state.CommentStartDash else if bang then state.CommentEndBang else if dash && not dashes then state.CommentEndDash else state.Comment)
    tests true lone bang dashes dash = refl
    tests false true bang dashes dash = refl
    tests false false true dashes dash = refl
    tests false false false true true = refl
    tests false false false true false = refl
    tests false false false false true = refl
    tests false false false false false = refl

module _ (exact : Bool) where
  -- ---- a comment's text

  -- the errors by the bytes before a character are those of its place
  errors-bytes : (before : List ℕ) (c : ℕ) → comment_errors exact (bytes_of before) c ≡ after_mark_error exact before c ++ null_error exact (null_state before) c
  unfolding comment_errors
  errors-bytes before c = comment_errors-bytes exact before c ∙ rw (mark-errors exact before c, null_state-is before) refl

  step-content : (before : List ℕ) (c : ℕ) → ((c == greater_than) && ends_comment before) ≡ false
      → step_at exact (InComment (bytes_of before)) c ≡ Tells (after_mark_error exact before c ++ null_error exact (null_state before) c) (InComment (bytes_of (before ++ c ∷ [])))
  unfolding step_at comment_step
  step-content before c h = rw (ends_comment-bytes before, h, errors-bytes before c, bytes-push before c) refl

  pub goes-content : (before text : List ℕ) → runs_on before text ≡ true
      → Goes exact (InComment (bytes_of before)) (spell_content exact before text) (InComment (bytes_of (before ++ text)))
  unfolding Goes runs_on spell_content
  goes-content before [] h = rw (append-nil before) refl
  goes-content before (c ∷ text) h =
      let p = and_parts (not ((c == greater_than) && ends_comment before)) (runs_on (before ++ c ∷ []) text) h in (
        InComment (bytes_of (before ++ c ∷ [])),
        step-content before c (not-true ((c == greater_than) && ends_comment before) p.0),
        subst (λ l. Goes exact (InComment (bytes_of (before ++ c ∷ []))) (spell_content exact (before ++ c ∷ []) text) (InComment (bytes_of l))) (append_assoc before (c ∷ []) text) (goes-content (before ++ c ∷ []) text p.1),
      )

  -- ---- its end

  some-append : (front : List ℕ) (c : ℕ) (word : List ℕ) → nat_eq (length (front ++ c ∷ word)) 0 ≡ false
  some-append front c word =
      let more : length (c ∷ word) ≡ 1 + length word = omega arith in
      ne_eqb (length (front ++ c ∷ word)) 0 (λ e. omega (arith, e, length-append front (c ∷ word), more))

  no_lone_dash : (front : List ℕ) (c d : ℕ) (word : List ℕ) → is_lone_dash (front ++ c ∷ d ∷ word) ≡ false
  no_lone_dash front c d word =
      let more : length (c ∷ d ∷ word) ≡ 2 + length word = omega arith in
      false_from_ne_true (is_lone_dash (front ++ c ∷ d ∷ word)) (λ h.
      let e : length (front ++ c ∷ d ∷ word) ≡ 1 = ap length (same_text (front ++ c ∷ d ∷ word) (codes "-") (sym h)) in
      omega (arith, e, length-append front (c ∷ d ∷ word), more))

  abbrev IsEnd : List ℕ → Ending → Type 0
  IsEnd content ending =
      step_at exact (InComment (bytes_of (content ++ before_greater_than ending))) greater_than
      ≡ Tells (ending_errors exact ending ++ Comment (flat_map value_bytes content) ∷ []) (Between Data)

  step-dashes : (content : List ℕ) → IsEnd content Dashes
  unfolding step_at comment_step ends_comment comment_end_error comment_content value_bytes shown encode
  step-dashes content =
      let front : List ℕ = bytes_of content in
      let no_bang : ends_in (front ++ codes "--") (codes "--!") ≡ false =
      ap (λ l. ends_in l (codes "--!")) (sym (append_assoc front (codes "-") (codes "-"))) ∙ ends_in-other (front ++ codes "-") (codes "--") 0x2D 0x21 refl in
      rw (bytes-append content (codes "--"), some-append front 0x2D (codes "-"), no_lone_dash front 0x2D 0x2D [], ends_in-append front (codes "--"), no_bang, without_last-append front (codes "--")) refl

  step-bang : (content : List ℕ) → IsEnd content Bang
  unfolding step_at comment_step ends_comment comment_end_error comment_content comment_state value_bytes shown encode
  step-bang content =
      let front : List ℕ = bytes_of content in
      let no_dashes : ends_in (front ++ codes "--!") (codes "--") ≡ false =
      ap (λ l. ends_in l (codes "--")) (sym (append_assoc front (codes "--") (codes "!"))) ∙ ends_in-other (front ++ codes "--") (codes "-") 0x21 0x2D refl in
      rw (bytes-append content (codes "--!"), some-append front 0x2D (codes "-!"), no_lone_dash front 0x2D 0x2D (codes "!"), no_dashes, ends_in-append front (codes "--!"), without_last-append front (codes "--!")) refl

  step-empty : (content : List ℕ) (ending : Ending) → is_empty content ≡ true → IsEnd [] ending → IsEnd content ending
  step-empty content ending h ends = subst (λ l. IsEnd l ending) (sym (nil_from_length content (eqb-true (length content) 0 h))) ends

  pub step-ending : (content : List ℕ) (ending : Ending) → can_end_with content ending ≡ true → IsEnd content ending
  unfolding step_at comment_step ends_comment comment_end_error comment_content comment_state value_bytes shown encode
  step-ending content Dashes h = step-dashes content
  step-ending content Bang h = step-bang content
  step-ending content AtOnce h = step-empty content AtOnce h refl
  step-ending content AfterDash h = step-empty content AfterDash h refl

  -- ---- up to its end

  runs_on-append : (before text later : List ℕ) → runs_on before text ≡ true → runs_on (before ++ text) later ≡ true → runs_on before (text ++ later) ≡ true
  unfolding runs_on
  runs_on-append before [] later h g = subst (λ l. runs_on l later ≡ true) (append-nil before) g
  runs_on-append before (c ∷ text) later h g =
      let p = and_parts (not ((c == greater_than) && ends_comment before)) (runs_on (before ++ c ∷ []) text) h in
      and_from (not ((c == greater_than) && ends_comment before)) (runs_on (before ++ c ∷ []) (text ++ later)) p.0
      (runs_on-append (before ++ c ∷ []) text later p.1 (subst (λ l. runs_on l later ≡ true) (sym (append_assoc before (c ∷ []) text)) g))

  pub runs_on-front : (content : List ℕ) (ending : Ending) → can_end_with content ending ≡ true → runs_on [] (content ++ before_greater_than ending) ≡ true
  unfolding runs_on
  runs_on-front content Dashes h = runs_on-append [] content (codes "--") (runs_on-content content h) refl
  runs_on-front content Bang h = runs_on-append [] content (codes "--!") (runs_on-content content h) refl
  runs_on-front content AtOnce h = subst (λ l. runs_on [] (l ++ []) ≡ true) (sym (nil_from_length content (eqb-true (length content) 0 h))) refl
  runs_on-front content AfterDash h = subst (λ l. runs_on [] (l ++ codes "-") ≡ true) (sym (nil_from_length content (eqb-true (length content) 0 h))) refl

  -- a comment after its `<!--`
  pub goes-proper : (content : List ℕ) (ending : Ending) → can_end_with content ending ≡ true
      → Goes exact (InComment []) (spell_content exact [] (content ++ before_greater_than ending) ++ spell_end (ending_errors exact ending) content) (Between Data)
  goes-proper content ending h =
      let front : List ℕ = content ++ before_greater_than ending in
      Goes-append exact (InComment []) (InComment (bytes_of front)) (Between Data) (spell_content exact [] front) (spell_end (ending_errors exact ending) content)
      (goes-content [] front (runs_on-front content ending h))
      (Goes-one exact (InComment (bytes_of front)) (Between Data) greater_than (ending_errors exact ending ++ Comment (flat_map value_bytes content) ∷ []) (step-ending content ending h))

  -- ---- a bogus comment

  pub goes-bogus : (before text : List ℕ) → list_all in_bogus_comment text ≡ true
      → Goes exact (InBogusComment (bytes_of before)) (spell_bogus exact text) (InBogusComment (bytes_of (before ++ text)))
  unfolding Goes step_at bogus_comment_step in_bogus_comment
  goes-bogus before [] h = rw (append-nil before) refl
  goes-bogus before (c ∷ text) h =
      let p = and_parts (not (c == greater_than)) (list_all in_bogus_comment text) h in (
        InBogusComment (bytes_of (before ++ c ∷ [])),
        rw (not-true (c == greater_than) p.0, bytes-push before c) refl,
        subst (λ l. Goes exact (InBogusComment (bytes_of (before ++ c ∷ []))) (spell_bogus exact text) (InBogusComment (bytes_of l))) (append_assoc before (c ∷ []) text) (goes-bogus (before ++ c ∷ []) text p.1),
      )

  -- up to its `>`, after a part of its content
  pub goes-bogus_end : (before text : List ℕ) → list_all in_bogus_comment text ≡ true
      → Goes exact (InBogusComment (bytes_of before)) (spell_bogus exact text ++ spell_end [] (before ++ text)) (Between Data)
  unfolding step_at bogus_comment_step
  goes-bogus_end before text h =
      Goes-append exact (InBogusComment (bytes_of before)) (InBogusComment (bytes_of (before ++ text))) (Between Data) (spell_bogus exact text) (spell_end [] (before ++ text))
      (goes-bogus before text h)
      (Goes-one exact (InBogusComment (bytes_of (before ++ text))) (Between Data) greater_than (Comment (bytes_of (before ++ text)) ∷ []) refl)

  -- one after `</`, whose first character is an error
  pub goes-solidus : (foreign : Bool) (content : List ℕ) → is_written foreign (Bogus Solidus content) ≡ true
      → Goes exact (Between Data) (spell_silent (codes "</") ++ (spell_odd exact content ++ spell_end [] content)) (Between Data)
  unfolding is_written Goes step_at data_step less_than_step solidus_step bogus_comment_step is_letter in_bogus_comment
  goes-solidus foreign [] h = absurd (false≢true h)
  goes-solidus foreign (c ∷ content) h =
      let p = and_parts (not (is_letter c)) (list_all in_bogus_comment (c ∷ content)) h in
      let q = and_parts (not (c == greater_than)) (list_all in_bogus_comment content) p.1 in (
        LessThan,
        refl,
        (
          LessThanSolidus,
          refl,
          (
            InBogusComment (bytes_of (c ∷ [])),
            rw (not-true (is_letter c) p.0, not-true (c == greater_than) q.0, append-nil (value_bytes c)) refl,
            goes-bogus_end (c ∷ []) content q.1,
          ),
        ),
      )
