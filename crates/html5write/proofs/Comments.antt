-- A written comment tells itself.
use Rattle.std.proofs.Common.{◌≡◌, ℕ, Bool, true, false, List, [], ◌∷◌, ◌++◌, refl, ap, sym, ◌∙◌, subst}
use Rattle.std.specs.Prelude.{◌==◌, ◌||◌, ◌&&◌, not, nat_eq, flat_map, codes, length, encode_utf8_all}
use Rattle.std.specs.List.{list_all}
use Rattle.std.proofs.Math.Bool.{and-false}
use Rattle.std.proofs.lemmas.Bool.{and_parts, not-true, false≢true, eq-eqb, ne_eqb, false_from_ne_true}
use Rattle.std.proofs.lemmas.List.{append_assoc, map-append}
use Rattle.html5ever_interface.specs.Sink.{Means}
use Rattle.html5ever_interface.specs.Token.Told.{Comment}
use Rattle.html5reading.specs.Characters.{null, carriage_return, hyphen, greater_than, value_bytes}
use Rattle.html5reading.specs.Comment.{ends_in, without_last}
use Rattle.html5reading.specs.NormalisedText.{input_after}
use Rattle.html5reading.specs.Start.{Input, Start, Rules}
use Rattle.html5reading.specs.Start.Mode.{Data}
use Rattle.html5reading.specs.Start.Open.{Between}
use Rattle.html5reading.specs.Tag.{null_error}
use Rattle.html5reading.proofs.TextEnds.{ends_in-front, ends_in-append, ends_in-push, ends_in-other}
use Rattle.html5grammar.specs.Anywhere.{TellsByItself, start_beyond}
use Rattle.html5grammar.specs.Comment.{IsComment, written, is_written, is_content, begins_with, occurs, after_mark_error, null_state, spell_content, messages_of}
use Rattle.html5grammar.specs.Comment.Ending.{Dashes}
use Rattle.html5grammar.specs.Comment.WrittenComment.{Proper}
use Rattle.html5grammar.specs.Spelled.{Spelled, spell_silent, spelled_messages}
use Rattle.html5grammar.proofs.ByItself.{trace-by_itself}
use Rattle.html5grammar.proofs.Comment.Reading.{reads_comment}
use Rattle.html5grammar.proofs.Tag.Values.{both-none}
use Rattle.html5write.specs.Pieces.{piece_text, is_comment_character, can_follow_dash, has_lone_dashes, can_begin_comment, can_write, has_no_null}
use Rattle.html5write.specs.Pieces.Piece.{CommentPiece}
use Rattle.html5write.specs.Told.{has_no_return, IsOpen, spell_end, spell_comment}
use Rattle.html5write.proofs.Front.{normalised-markup, no_break-markup}
use Rattle.html5write.proofs.Values.{no_return-append, shows-value}

-- the same comparison from the other side
other-way : (c d : ℕ) → (c == d) ≡ false → nat_eq d c ≡ false
other-way c d e = ne_eqb d c (λ h. false≢true (sym e ∙ eq-eqb c d (sym h)))

-- ---- no mark stands in it

-- what ends in no dash ends in no word with a dash last
ends_in-none : (text front word : List ℕ) → ends_in text word ≡ false → ends_in text (front ++ word) ≡ false
ends_in-none text front word none =
    false_from_ne_true (ends_in text (front ++ word)) (λ h.
    let whole : text ≡ (without_last (length (front ++ word)) text ++ front) ++ word =
    ends_in-front text (front ++ word) h ∙ sym (append_assoc (without_last (length (front ++ word)) text) front word) in
    false≢true (sym none ∙ ap (λ l. ends_in l word) whole ∙ ends_in-append (without_last (length (front ++ word)) text ++ front) word))

-- the text before some text of a comment, in which no two dashes meet
record Quiet (before content : List ℕ) : Type 0 where
  no_two : ends_in before (codes "--") ≡ false
  link : ends_in before (codes "-") ≡ true → can_follow_dash content ≡ true

quiet-start : (content : List ℕ) → Quiet [] content
quiet-start content = record { no_two = refl; link = λ h. absurd (false≢true h) }

quiet-dash : (before content : List ℕ) (c : ℕ) → Quiet before (c ∷ content) → (c == hyphen) ≡ true → can_follow_dash content ≡ true → Quiet (before ++ c ∷ []) content
unfolding can_follow_dash
quiet-dash before content c quiet dash next = record {
  no_two =
      ends_in-push before (codes "-") c hyphen
      ∙ ap (λ b. b && nat_eq hyphen c) (false_from_ne_true (ends_in before (codes "-")) (λ h. false≢true (ap not (sym dash) ∙ quiet.link h)));
  link = λ h. next;
}

quiet-other : (before content : List ℕ) (c : ℕ) → (c == hyphen) ≡ false → Quiet (before ++ c ∷ []) content
quiet-other before content c other = record {
  no_two = ends_in-other before (codes "-") c hyphen (other-way c hyphen other);
  link = λ h. absurd (false≢true (sym (ends_in-other before [] c hyphen (other-way c hyphen other)) ∙ h));
}

quiet-next : (before content : List ℕ) (c : ℕ) → Quiet before (c ∷ content) → (not (c == hyphen) || can_follow_dash content) ≡ true → Quiet (before ++ c ∷ []) content
quiet-next before content c quiet lone =
    (elim (c == hyphen) as (λ b. (c == hyphen) ≡ b → (not b || can_follow_dash content) ≡ true → Quiet (before ++ c ∷ []) content) [
      | true ↦ λ e next. quiet-dash before content c quiet e next
      | false ↦ λ e h. quiet-other before content c e
    ]) refl lone

-- so each character is silent
silent-character : (exact : Bool) (before : List ℕ) (c : ℕ) → ends_in before (codes "--") ≡ false → (c == null) ≡ false
    → after_mark_error exact before c ++ null_error exact (null_state before) c ≡ []
unfolding after_mark_error
silent-character exact before c none no_null = rw (ends_in-none before (codes "<!") (codes "--") none, no_null) refl

silent-end : (exact : Bool) (before : List ℕ) → Quiet before [] → spell_content exact before (codes "--") ≡ spell_silent (codes "--")
unfolding spell_content can_follow_dash
silent-end exact before quiet =
    let none : ends_in before (codes "-") ≡ false = false_from_ne_true (ends_in before (codes "-")) (λ h. false≢true (quiet.link h)) in
    let next : ends_in (before ++ hyphen ∷ []) (codes "--") ≡ false = ends_in-push before (codes "-") hyphen hyphen ∙ ap (λ b. b && true) none in
    rw (silent-character exact before hyphen quiet.no_two refl, silent-character exact (before ++ hyphen ∷ []) hyphen next refl) refl

silent-content : (exact : Bool) (before content : List ℕ) → Quiet before content → list_all is_comment_character content ≡ true → has_lone_dashes content ≡ true
    → spell_content exact before (content ++ codes "--") ≡ spell_silent (content ++ codes "--")
unfolding spell_content has_lone_dashes
silent-content exact before [] quiet h lone = silent-end exact before quiet
silent-content exact before (c ∷ content) quiet h lone =
    let p = and_parts (is_comment_character c) (list_all is_comment_character content) h in
    let q = and_parts (not (c == hyphen) || can_follow_dash content) (has_lone_dashes content) lone in
    rw (silent-character exact before c quiet.no_two (both-none (c == null) (c == carriage_return) (not-true _ p.0)).0)
    (ap (λ l. record { character = c; told = [] } ∷ l) (silent-content exact (before ++ c ∷ []) content (quiet-next before content c quiet q.0) p.1 q.1))

-- ---- it is a comment, written out

begins-none : (c : ℕ) (content word : List ℕ) → (not (c == hyphen) || can_follow_dash content) ≡ true → begins_with (hyphen ∷ hyphen ∷ word) (c ∷ content) ≡ false
unfolding can_follow_dash
begins-none c [] word h = and-false (nat_eq hyphen c)
begins-none c (d ∷ content) word h =
    (elim (c == hyphen) as (λ b. (c == hyphen) ≡ b → (not b || not (d == hyphen)) ≡ true → begins_with (hyphen ∷ hyphen ∷ word) (c ∷ d ∷ content) ≡ false) [
      | true ↦ λ e no. rw (other-way d hyphen (not-true (d == hyphen) no)) (and-false (nat_eq hyphen c))
      | false ↦ λ e no. rw (other-way c hyphen e) refl
    ]) refl h

no_end : (content word : List ℕ) → has_lone_dashes content ≡ true → occurs (hyphen ∷ hyphen ∷ word) content ≡ false
unfolding occurs has_lone_dashes
no_end [] word lone = refl
no_end (c ∷ content) word lone =
    let p = and_parts (not (c == hyphen) || can_follow_dash content) (has_lone_dashes content) lone in
    ap (λ b. b || occurs (hyphen ∷ hyphen ∷ word) content) (begins-none c content word p.0) ∙ no_end content word p.1

is_content-text : (content : List ℕ) → can_begin_comment content ≡ true → has_lone_dashes content ≡ true → is_content content ≡ true
unfolding is_content can_begin_comment
is_content-text [] begins lone = rw (no_end [] (codes ">") lone, no_end [] (codes "!>") lone) refl
is_content-text (c ∷ content) begins lone =
    let p = and_parts (not (c == greater_than)) (not (c == hyphen)) begins in
    rw (other-way c greater_than (not-true _ p.0), other-way c hyphen (not-true _ p.1), no_end (c ∷ content) (codes ">") lone, no_end (c ∷ content) (codes "!>") lone) refl

-- ---- what it tells

no_null-text : (content : List ℕ) → list_all is_comment_character content ≡ true → has_no_null content ≡ true
no_null-text [] h = refl
no_null-text (c ∷ content) h =
    let p = and_parts (is_comment_character c) (list_all is_comment_character content) h in
    rw ((both-none (c == null) (c == carriage_return) (not-true _ p.0)).0) (no_null-text content p.1)

no_return-comment : (content : List ℕ) → list_all is_comment_character content ≡ true → has_no_return content ≡ true
no_return-comment [] h = refl
no_return-comment (c ∷ content) h =
    let p = and_parts (is_comment_character c) (list_all is_comment_character content) h in
    rw ((both-none (c == null) (c == carriage_return) (not-true _ p.0)).1) (no_return-comment content p.1)

no_return-markup : (content : List ℕ) → list_all is_comment_character content ≡ true → has_no_return (codes "!--" ++ (content ++ codes "-->")) ≡ true
no_return-markup content h = no_return-append content (codes "-->") (no_return-comment content h) refl

pub no_break-comment : (input : Input) (content : List ℕ) → can_write (CommentPiece content) ≡ true → (input_after input (piece_text (CommentPiece content))).after_carriage_return ≡ false
no_break-comment input content h =
    no_break-markup input (codes "!--" ++ (content ++ codes "-->")) (no_return-markup content (and_parts (list_all is_comment_character content) _ h).0)

written-comment : (content : List ℕ) → written (Proper content Dashes) ≡ piece_text (CommentPiece content)
unfolding written
written-comment content = ap (λ l. codes "<!--" ++ l) (append_assoc content (codes "--") (codes ">"))

-- a comment that can be written tells no error
messages-comment : (exact : Bool) (input : Input) (content : List ℕ) → can_write (CommentPiece content) ≡ true
    → messages_of exact input (Proper content Dashes) ≡ spelled_messages exact input [] (spell_comment content)
unfolding messages_of
messages-comment exact input content h =
    let p = and_parts (list_all is_comment_character content) _ h in
    let q = and_parts (can_begin_comment content) (has_lone_dashes content) p.1 in
    let last : List ℕ → List Spelled = λ text. spell_end (Comment text) in
    ap (λ cells. spelled_messages exact input [] (spell_silent (codes "<!--") ++ (cells ++ last (flat_map value_bytes content))))
    (silent-content exact [] content (quiet-start content) p.0 q.1 ∙ map-append (λ c. record { character = c; told = [] }) content (codes "--"))
    ∙ ap (λ text. spelled_messages exact input [] (spell_silent (codes "<!--") ++ ((spell_silent content ++ spell_silent (codes "--")) ++ last text))) (shows-value content (no_null-text content p.0))
    ∙ ap (λ cells. spelled_messages exact input [] (spell_silent (codes "<!--") ++ cells)) (append_assoc (spell_silent content) (spell_silent (codes "--")) (last (encode_utf8_all content)))

module _ {X S H : Type 0} (means : Means X S H) (rules : Rules) where
  -- a comment that is written tells itself
  pub comment-told : (K : Start) (s : S) (content : List ℕ) → IsOpen K → can_write (CommentPiece content) ≡ true
      → TellsByItself means rules K s (piece_text (CommentPiece content)) (spelled_messages rules.exact K.input [] (spell_comment content))
      (start_beyond K (piece_text (CommentPiece content)) (Between Data) K.last_start_tag)
  unfolding is_written
  comment-told K s content here can =
      let p = and_parts (list_all is_comment_character content) _ can in
      let q = and_parts (can_begin_comment content) (has_lone_dashes content) p.1 in
      let Y : List ℕ = piece_text (CommentPiece content) in
      let one : IsComment K (means.foreign s) Y (Proper content Dashes) = record {
        starts = here.starts;
        is_comment = is_content-text content q.0 q.1;
        text = normalised-markup K.input (codes "!--" ++ (content ++ codes "-->")) here.no_break (no_return-markup content p.0) ∙ sym (written-comment content);
      } in
      subst (λ M. TellsByItself means rules K s Y M (start_beyond K Y (Between Data) K.last_start_tag)) (messages-comment rules.exact K.input content can)
      (trace-by_itself means rules K s Y (messages_of rules.exact K.input (Proper content Dashes)) (Between Data) K.last_start_tag
      (reads_comment means.step means.reply means.foreign rules K s Y (Proper content Dashes) one))
