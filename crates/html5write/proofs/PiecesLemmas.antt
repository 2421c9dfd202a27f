-- Pages in bytes.
use Rattle.std.proofs.Common.{◌≡◌, ℕ, true, List, [], ◌∷◌, ◌++◌, refl, ap, sym, ◌∙◌, append_assoc}
use Rattle.std.specs.Prelude.{encode_utf8_all}
use Rattle.std.specs.Str.{IsUtf8, chars}
use Rattle.std.proofs.lemmas.List.{append-nil}
use Rattle.std.proofs.lemmas.List.Concat.{flat_map-append}
use Rattle.std.proofs.lemmas.List.Folds.{list_all-append}
use Rattle.std.proofs.lemmas.Str.{encodes-append, chars_from_encodes}
use Rattle.html5write.specs.Pieces.{Piece, piece_text, pieces_text, can_write}
use Rattle.html5write.specs.Writing.{IsTextOf}

pub written-characters : (bytes : List ℕ) (pieces : List Piece) → IsUtf8 bytes → IsTextOf bytes pieces → chars bytes ≡ pieces_text pieces
written-characters bytes pieces utf8 written = sym (chars_from_encodes (pieces_text pieces) bytes utf8 (sym written.text))

pub written-more : (before bytes : List ℕ) (pieces : List Piece) (piece : Piece) → IsTextOf before pieces → bytes ≡ before ++ encode_utf8_all (piece_text piece) → can_write piece ≡ true
    → IsTextOf bytes (pieces ++ piece ∷ [])
written-more before bytes pieces piece written more can = record {
  text =
      more
      ∙ ap (λ l. l ++ encode_utf8_all (piece_text piece)) written.text
      ∙ sym (ap encode_utf8_all (flat_map-append piece_text pieces (piece ∷ []) ∙ ap (λ l. pieces_text pieces ++ l) (append-nil (piece_text piece)))
      ∙ encodes-append (pieces_text pieces) (piece_text piece));
  can = list_all-append can_write pieces (piece ∷ []) ∙ rw (written.can, can) refl;
}

pub written-joined : (before more bytes : List ℕ) (pieces others : List Piece) → IsTextOf before pieces → IsTextOf more others → bytes ≡ before ++ more → IsTextOf bytes (pieces ++ others)
written-joined before more bytes pieces others written other is = record {
  text =
      is
      ∙ (λ i. written.text i ++ other.text i)
      ∙ sym (ap encode_utf8_all (flat_map-append piece_text pieces others) ∙ encodes-append (pieces_text pieces) (pieces_text others));
  can = list_all-append can_write pieces others ∙ rw (written.can, other.can) refl;
}

pub written-both : (before bytes : List ℕ) (pieces : List Piece) (first second : Piece) → IsTextOf before pieces
    → bytes ≡ before ++ (encode_utf8_all (piece_text first) ++ encode_utf8_all (piece_text second)) → can_write first ≡ true → can_write second ≡ true
    → IsTextOf bytes ((pieces ++ first ∷ []) ++ second ∷ [])
written-both before bytes pieces first second written more can_first can_second =
    written-more (before ++ encode_utf8_all (piece_text first)) bytes (pieces ++ first ∷ []) second
    (written-more before (before ++ encode_utf8_all (piece_text first)) pieces first written refl can_first)
    (more ∙ sym (append_assoc before (encode_utf8_all (piece_text first)) (encode_utf8_all (piece_text second))))
    can_second
