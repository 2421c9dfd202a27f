-- Pieces that were looked at.
use Rattle.std.proofs.Common.{◌≡◌, List, ℕ, ◌++◌, Some, None, option_map, Result, Ok, Err, OnOk, is_ok, if◌then◌else◌, ap, sym, ◌∙◌, subst}
use Rattle.std.specs.Borrow.{Bor}
use Rattle.std.specs.Prelude.{encode_utf8_all}
use Rattle.std.specs.Option.{is_none}
use Rattle.std.proofs.lemmas.Bool.{true≢false}
use Rattle.html5write.specs.Looked.{IsPlainPiece}
use Rattle.html5write.specs.Pieces.{piece_text}
use Rattle.html5write.specs.Refusals.{refusal_of}
use Rattle.html5write.specs.Writing.{piece_of}
use Rattle.html5write.specs.declared.error.WriteError.{WriteError}
use Rattle.html5write.specs.declared.error.WriteError.TheVariants.{NullInText}
use Rattle.html5write.specs.declared.piece.Piece.{Piece}
use Rattle.html5write.specs.declared.piece.Piece.TheVariants.{Text, StartTag, EndTag, Comment}

pub plain-writable : (piece : Piece) → IsPlainPiece piece → refusal_of (piece_of piece) ≡ None
unfolding refusal_of
plain-writable (Text text) plain = ap (option_map NullInText) plain.no_null
plain-writable (StartTag name attributes) plain = absurd plain
plain-writable (EndTag name) plain = absurd plain
plain-writable (Comment text) plain = absurd plain

pub plain-not_refused : (piece : Piece) (error : WriteError) → IsPlainPiece piece → ¬ (refusal_of (piece_of piece) ≡ Some error)
plain-not_refused piece error plain refused = true≢false (ap is_none (sym (plain-writable piece plain) ∙ refused))

-- its own bytes are written for it
pub plain-bytes : (piece : Piece) (text : Bor (List ℕ)) → piece ≡ Text text → IsPlainPiece piece → text.now ≡ encode_utf8_all (piece_text (piece_of piece))
plain-bytes piece text is plain =
    let itself = subst IsPlainPiece is plain in
    sym (ap (λ p. encode_utf8_all (piece_text (piece_of p))) is ∙ itself.plain)

pub appended-ok : {T E : Type 0} (r : Result T E) (before after more other : List ℕ) → after ≡ (if is_ok r then before ++ more else before) → more ≡ other → OnOk r (after ≡ before ++ other)
appended-ok (Ok x) before after more other is same = is ∙ ap (λ l. before ++ l) same
appended-ok (Err e) before after more other is same = tt
