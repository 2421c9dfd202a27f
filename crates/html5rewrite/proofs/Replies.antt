-- After a plain piece the standard keeps on.
use Rattle.std.proofs.Common.{◌≡◌, ℕ, Bool, true, false, List, [], ◌∷◌, refl}
use Rattle.std.specs.Prelude.{◌&&◌, not, codes, Option, None, Some, encode_utf8_all, if◌then◌else◌}
use Rattle.std.specs.List.{list_all}
use Rattle.std.specs.Option.{is_none}
use Rattle.std.specs.Str.{bytes_eq}
use Rattle.std.proofs.lemmas.Bool.{and_parts, false≢true}
use Rattle.html5ever_interface.specs.Token.{Told, Reply}
use Rattle.html5ever_interface.specs.Token.Reply.{KeepOn, ReadPlainText}
use Rattle.html5ever_interface.specs.declared.states.RawKind.{RawKind}
use Rattle.html5sinks.specs.Replies.{FollowsStandard, raw_text_in, reply_to_raw_text, standard_reply_to_start}
use Rattle.html5write.specs.Pieces.{Piece, can_write}
use Rattle.html5write.specs.Pieces.Piece.{TextPiece, StartTagPiece, EndTagPiece, CommentPiece}
use Rattle.html5reading.specs.Start.{Start, Rules}
use Rattle.html5write.specs.Told.{IsReadBack, KeepsOn, KeepsOnAfterPiece, start_tag_told, end_tag_told}
use Rattle.html5rewrite.specs.Plain.{IsReadBackPlain, is_before_markup, is_plain}
use Rattle.html5rewrite.specs.Rewriter.{reads_markup_after}

keeps_on-by_tests : (raw : Option RawKind) (plaintext noscript : Bool) → (is_none raw && not plaintext && not noscript) ≡ true
    → (if plaintext then ReadPlainText else reply_to_raw_text raw) ≡ KeepOn
keeps_on-by_tests None false noscript reads = refl
keeps_on-by_tests None true noscript reads = absurd (false≢true reads)
keeps_on-by_tests (Some kind) plaintext noscript reads = absurd (false≢true reads)

keeps_on-name : (name : List ℕ) → reads_markup_after name ≡ true → standard_reply_to_start name ≡ KeepOn
unfolding standard_reply_to_start
keeps_on-name name reads = keeps_on-by_tests (raw_text_in name) (bytes_eq name (codes "plaintext")) (bytes_eq name (codes "noscript")) reads

module _ {S H : Type 0} (reply : S → Told → ℕ → Reply H) (follows : FollowsStandard {S = S} reply) where
  keeps_on-piece : (piece : Piece) → is_before_markup piece ≡ true → KeepsOnAfterPiece {S = S} reply piece
  keeps_on-piece (TextPiece text) reads = tt
  keeps_on-piece (StartTagPiece name attributes) reads = λ t line. follows t (start_tag_told name attributes) line (keeps_on-name (encode_utf8_all name) reads)
  keeps_on-piece (EndTagPiece name) reads = λ t line. follows t (end_tag_told name) line refl
  keeps_on-piece (CommentPiece text) reads = tt

  pub keeps_on-page : (pieces : List Piece) → list_all is_plain pieces ≡ true → KeepsOn {S = S} reply pieces
  keeps_on-page [] plain = tt
  keeps_on-page (piece ∷ pieces) plain =
      let both = and_parts (is_plain piece) (list_all is_plain pieces) plain in
      (keeps_on-piece piece (and_parts (is_before_markup piece) (can_write piece) both.0).0, keeps_on-page pieces both.1)

-- plain pieces can be written
pub can-plain : (pieces : List Piece) → list_all is_plain pieces ≡ true → list_all can_write pieces ≡ true
can-plain [] plain = refl
can-plain (piece ∷ pieces) plain =
    let both = and_parts (is_plain piece) (list_all is_plain pieces) plain in
    rw ((and_parts (is_before_markup piece) (can_write piece) both.0).1, can-plain pieces both.1) refl

-- so they are read back where plain pieces are
pub read_back-plain : {S H : Type 0} (rules : Rules) (K : Start) (reply : S → Told → ℕ → Reply H) (pieces : List Piece)
    → IsReadBackPlain {S = S} rules K reply pieces → IsReadBack {S = S} rules K reply pieces
read_back-plain rules K reply pieces back = record { table = back.table; starts = back.starts; can = can-plain pieces back.plain; keeps = back.keeps }
