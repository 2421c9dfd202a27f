-- The kept part of a page is kept again.
use Rattle.std.proofs.Common.{◌≡◌, ℕ, Bool, true, false, List, [], ◌∷◌, ◌++◌, map, chars, refl, ap, sym, ◌∙◌, subst, append_assoc}
use Rattle.std.specs.Prelude.{◌==◌, ◌&&◌, not, encode_utf8, encode_utf8_all, if◌then◌else◌}
use Rattle.std.proofs.Math.Bool.{and-false}
use Rattle.std.proofs.lemmas.List.{append-nil}
use Rattle.std.proofs.lemmas.List.Concat.{flat_map-append}
use Rattle.std.proofs.lemmas.List.Folds.{list_all-append}
use Rattle.std.proofs.lemmas.Str.{encodes-append, encodes_same}
use Rattle.html5ever_interface.specs.Sink.{Message, stepped}
use Rattle.html5ever_interface.specs.Token.{Told, TagOf}
use Rattle.html5ever_interface.specs.Token.Told.{Text, Null, Error, Tag, Comment, Instruction, Doctype, End}
use Rattle.html5reading.specs.Characters.{null}
use Rattle.html5sinks.specs.Runs.{Joined, Running, joined_step, runs_step}
use Rattle.html5elements.specs.Hidden.{hidden_from, hidden_within}
use Rattle.html5policy.specs.Policy.{PolicyOf, hides}
use Rattle.html5write.specs.Escaped.{escaped, escaped_text}
use Rattle.html5write.specs.Pieces.{Piece, has_no_null, pieces_text, piece_text}
use Rattle.html5write.specs.Pieces.Piece.{TextPiece, StartTagPiece, EndTagPiece, CommentPiece}
use Rattle.html5write.specs.Told.{end_tag_told, pieces_tokens, piece_tokens, proper, proper_token, start_tag_told}
use Rattle.html5cleaner.specs.Balance.{is_end, open_by, written_by}
use Rattle.html5cleaner.specs.Clean.{Cleaned, clean_step, kept, kept_of_run, kept_of_tag, kept_of_token, kept_where, opens, where_writable}
use Rattle.html5cleaner.specs.Shape.{Shape, shape_of}
use Rattle.html5cleaner.proofs.Encoded.{chars-encoded}
use Rattle.html5cleaner.proofs.Replies.{and-left, and-right}
use Rattle.html5cleaner.proofs.Balancing.{AllGo, Goes}
use Rattle.html5cleaner.proofs.Steady.{AreSteady, IsSteady}
use Rattle.html5cleaner.proofs.ShapeRuns.{IsShown, TextFits, both-fit, first-fits, later-fits, none-fits, shaped-alone, shaped-nothing, shaped-open_run, shaped-run, text-goes}

-- ---- a run of text

kept-run : (run text : List ℕ) → run ≡ encode_utf8_all text → has_no_null text ≡ true → pieces_text (kept_of_run run) ≡ escaped_text text
unfolding kept_of_run
kept-run [] text is whole = ap escaped_text (encodes_same [] text is)
kept-run (byte ∷ run) text is whole =
    ap (λ t. pieces_text (where_writable (TextPiece t))) (ap chars is ∙ chars-encoded text)
    ∙ ap (λ writable. pieces_text (if writable then TextPiece text ∷ [] else [])) whole
    ∙ append-nil (escaped_text text)

-- ---- the fold over tokens

-- a line makes no difference, and so tokens are handed with line 0
unfoldable pub after_tokens : Joined Cleaned → List Told → Joined Cleaned
after_tokens j [] = j
after_tokens j (token ∷ tokens) = after_tokens (joined_step clean_step j token 0) tokens

pub after_tokens-append : (j : Joined Cleaned) (first second : List Told) → after_tokens j (first ++ second) ≡ after_tokens (after_tokens j first) second
unfolding after_tokens
after_tokens-append j [] second = refl
after_tokens-append j (token ∷ first) second = after_tokens-append (joined_step clean_step j token 0) first second

-- where a handler by this policy stands with a text that waits, if what was written and both are `done`, these elements are open, and
-- nothing is hidden
pub record Stands (policy : PolicyOf) (elements : List (List ℕ)) (done : List ℕ) (j : Joined Cleaned) : Type 0 where
  pub keeps : j.handler.policy ≡ policy
  pub text : List ℕ
  pub waits : j.run ≡ encode_utf8_all text
  pub whole : has_no_null text ≡ true
  pub shown : j.handler.hidden.depth ≡ 0
  pub stays : j.handler.opened ≡ elements
  pub fit : TextFits (shape_of policy) elements text
  pub written : pieces_text j.handler.pieces ++ escaped_text text ≡ done

module _ (policy : PolicyOf) where
  -- a token is handed on with the text that waits
  pub kept-with_run : (opened : List (List ℕ)) (done : List ℕ) (j : Joined Cleaned) → Stands policy opened done j → (told : Told) (more : List ℕ)
      → pieces_text (written_by (shape_of policy) (is_end told) opened (kept_of_token policy told)) ≡ more
      → pieces_text (clean_step j.handler j.run told 0).pieces ≡ done ++ more
  kept-with_run opened done j s told more is =
      let later : List Piece = written_by (shape_of policy) (is_end told) opened (kept_of_token policy told) in
      (λ i. pieces_text (j.handler.pieces ++ written_by (shape_of (s.keeps i)) (is_end told) (s.stays i) (kept_where (s.keeps i) (s.shown i) j.run told)))
      ∙ ap (λ l. pieces_text (j.handler.pieces ++ l)) (shaped-run (shape_of policy) (is_end told) opened j.run s.text (kept_of_token policy told) s.waits s.fit)
      ∙ flat_map-append piece_text j.handler.pieces (kept_of_run j.run ++ later)
      ∙ ap (λ l. pieces_text j.handler.pieces ++ l) (flat_map-append piece_text (kept_of_run j.run) later ∙ (λ i. kept-run j.run s.text s.waits s.whole i ++ is i))
      ∙ sym (append_assoc (pieces_text j.handler.pieces) (escaped_text s.text) more)
      ∙ ap (λ l. l ++ more) s.written

  stands-tag : (opened after : List (List ℕ)) (done : List ℕ) (j : Joined Cleaned) → Stands policy opened done j → (tag : TagOf) (piece : Piece) → IsShown piece → kept_of_tag policy tag ≡ piece ∷ []
      → Goes (shape_of policy) opened piece after → opens policy tag ≡ false → Stands policy after (done ++ piece_text piece) (joined_step clean_step j (Tag tag) 0)
  stands-tag opened after done j s tag piece shown is goes shows =
      let alone = shaped-alone (shape_of policy) opened after piece shown goes in
      record {
        keeps = s.keeps;
        text = [];
        waits = refl;
        whole = refl;
        shown =
            (λ i. (if s.shown i == 0 then hidden_from (opens (s.keeps i) tag) j.handler.hidden tag else hidden_within j.handler.hidden tag).depth)
            ∙ ap (λ opening. (hidden_from opening j.handler.hidden tag).depth) shows
            ∙ s.shown;
        stays =
            (λ i. open_by (shape_of (s.keeps i)) false (s.stays i) (kept_where (s.keeps i) (s.shown i) j.run (Tag tag)))
            ∙ shaped-open_run (shape_of policy) false opened j.run s.text (kept_of_tag policy tag) s.waits s.fit
            ∙ ap (open_by (shape_of policy) false opened) is
            ∙ alone.1.0;
        fit = none-fits (shape_of policy) after alone.1.1;
        written =
            append-nil (pieces_text (clean_step j.handler j.run (Tag tag) 0).pieces)
            ∙ kept-with_run opened done j s (Tag tag) (piece_text piece)
            (ap pieces_text (ap (written_by (shape_of policy) false opened) is ∙ alone.0) ∙ append-nil (piece_text piece));
      }

  stands-character : (opened : List (List ℕ)) (done : List ℕ) (j : Joined Cleaned) → Stands policy opened done j → (c : ℕ) → has_no_null (c ∷ []) ≡ true
      → TextFits (shape_of policy) opened (c ∷ []) → Stands policy opened (done ++ escaped c) (joined_step clean_step j (Text (encode_utf8 c)) 0)
  stands-character opened done j s c whole fit = record {
    keeps = s.keeps;
    text = s.text ++ c ∷ [];
    waits =
        ap (λ l. l ++ encode_utf8 c) s.waits
        ∙ ap (λ l. encode_utf8_all s.text ++ l) (sym (append-nil (encode_utf8 c)))
        ∙ sym (encodes-append s.text (c ∷ []));
    whole = list_all-append _ s.text (c ∷ []) ∙ rw (s.whole, whole) refl;
    shown = s.shown;
    stays = s.stays;
    fit = both-fit (shape_of policy) opened s.text (c ∷ []) s.fit fit;
    written =
        ap (λ l. pieces_text j.handler.pieces ++ l) (flat_map-append escaped s.text (c ∷ []) ∙ ap (λ l. escaped_text s.text ++ l) (append-nil (escaped c)))
        ∙ sym (append_assoc (pieces_text j.handler.pieces) (escaped_text s.text) (escaped c))
        ∙ ap (λ l. l ++ escaped c) s.written;
  }

  stands-text : (opened : List (List ℕ)) (done : List ℕ) (j : Joined Cleaned) → Stands policy opened done j → (text : List ℕ) → has_no_null text ≡ true
      → TextFits (shape_of policy) opened text → Stands policy opened (done ++ escaped_text text) (after_tokens j (map (λ c. Text (encode_utf8 c)) text))
  unfolding after_tokens
  stands-text opened done j s [] whole fit = subst (λ l. Stands policy opened l j) (sym (append-nil done)) s
  stands-text opened done j s (c ∷ text) whole fit =
      let next : Joined Cleaned = joined_step clean_step j (Text (encode_utf8 c)) 0 in
      let stands = stands-character opened done j s c (ap (λ b. b && true) (and-left (not (c == null)) (has_no_null text) whole)) (first-fits (shape_of policy) opened c text fit) in
      subst (λ l. Stands policy opened l (after_tokens next (map (λ d. Text (encode_utf8 d)) text))) (append_assoc done (escaped c) (escaped_text text))
      (stands-text opened (done ++ escaped c) next stands text (and-right (not (c == null)) (has_no_null text) whole) (later-fits (shape_of policy) opened c text fit))

  stands-piece : (opened after : List (List ℕ)) (done : List ℕ) (j : Joined Cleaned) → Stands policy opened done j → (piece : Piece) → IsSteady policy piece → Goes (shape_of policy) opened piece after
      → Stands policy after (done ++ piece_text piece) (after_tokens j (piece_tokens piece))
  unfolding after_tokens
  stands-piece opened after done j s (TextPiece text) steady goes =
      subst (λ (o : List (List ℕ)). Stands policy o (done ++ escaped_text text) (after_tokens j (map (λ c. Text (encode_utf8 c)) text))) (text-goes (shape_of policy) opened after text goes).1
      (stands-text opened done j s text steady (text-goes (shape_of policy) opened after text goes).0)
  stands-piece opened after done j s (StartTagPiece name attributes) steady goes =
      stands-tag opened after done j s (start_tag_told name attributes) (StartTagPiece name attributes) tt steady.0 goes steady.1
  stands-piece opened after done j s (EndTagPiece name) steady goes = stands-tag opened after done j s (end_tag_told name) (EndTagPiece name) tt steady goes (and-false (hides policy (encode_utf8_all name)))
  stands-piece opened after done j s (CommentPiece text) steady goes = absurd steady

  pub stands-page : (opened after : List (List ℕ)) (done : List ℕ) (j : Joined Cleaned) → Stands policy opened done j → (pieces : List Piece) → AreSteady policy pieces
      → AllGo (shape_of policy) opened pieces after → Stands policy after (done ++ pieces_text pieces) (after_tokens j (pieces_tokens pieces))
  unfolding after_tokens
  stands-page opened after done j s [] steady go =
      subst (λ (o : List (List ℕ)). Stands policy o (done ++ []) j) go (subst (λ l. Stands policy opened l j) (sym (append-nil done)) s)
  stands-page opened after done j s (piece ∷ pieces) steady go =
      subst (λ k. Stands policy after (done ++ (piece_text piece ++ pieces_text pieces)) k) (sym (after_tokens-append j (piece_tokens piece) (pieces_tokens pieces)))
      (subst (λ l. Stands policy after l (after_tokens (after_tokens j (piece_tokens piece)) (pieces_tokens pieces))) (append_assoc done (piece_text piece) (pieces_text pieces))
      (stands-page go.0 after (done ++ piece_text piece) (after_tokens j (piece_tokens piece)) (stands-piece opened go.0 done j s piece steady.0 go.1.0) pieces steady.1 go.1.1))

-- ---- the fold over messages

-- an error keeps nothing
nothing-where : (policy : PolicyOf) (shown : Bool) (message : List ℕ) → (if shown then kept policy [] (Error message) else []) ≡ []
unfolding kept_of_run
nothing-where policy true message = refl
nothing-where policy false message = refl

error-step : (j : Joined Cleaned) (message : List ℕ) (line : ℕ) → joined_step clean_step j (Error message) line ≡ j
error-step j message line =
    let h : Cleaned = j.handler in
    let none = nothing-where h.policy (h.hidden.depth == 0) message in
    (λ i. record j { handler = record h { pieces = h.pieces ++ written_by (shape_of h.policy) false h.opened (none i); opened = open_by (shape_of h.policy) false h.opened (none i) } })
    ∙ (λ i. record j { handler = record h { pieces = h.pieces ++ (shaped-nothing (shape_of h.policy) h.opened).0 i; opened = (shaped-nothing (shape_of h.policy) h.opened).1 i } })
    ∙ ap (λ l. record j { handler = record h { pieces = l } }) (append-nil h.pieces)

after-message : (j : Joined Cleaned) (told : Told) (line : ℕ) → joined_step clean_step j told line ≡ after_tokens j (proper_token told)
unfolding after_tokens
after-message j (Error message) line = error-step j message line
after-message j (Text text) line = refl
after-message j Null line = refl
after-message j (Tag tag) line = refl
after-message j (Comment text) line = refl
after-message j (Instruction content) line = refl
after-message j (Doctype doctype) line = refl
after-message j End line = refl

pub after-messages : (r : Running Cleaned) (M : List Message) → (stepped (runs_step clean_step) r M).joined ≡ after_tokens r.joined (proper M)
unfolding stepped proper after_tokens
after-messages r [] = refl
after-messages r (m ∷ M) =
    after-messages (runs_step clean_step r m.token m.line) M
    ∙ ap (λ j. after_tokens j (proper M)) (after-message r.joined m.token m.line)
    ∙ sym (after_tokens-append r.joined (proper_token m.token) (proper M))
