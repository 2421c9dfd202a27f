-- What is written is plain.
use Rattle.std.proofs.Common.{◌≡◌, ℕ, Bool, true, false, List, [], ◌∷◌, ◌++◌, chars, map, refl, ◌∙◌}
use Rattle.std.specs.Prelude.{◌==◌, if◌then◌else◌}
use Rattle.std.specs.List.{list_all}
use Rattle.std.proofs.lemmas.List.Folds.{list_all-append}
use Rattle.html5ever_interface.specs.Sink.{Message}
use Rattle.html5ever_interface.specs.Token.{Told, TagOf}
use Rattle.html5ever_interface.specs.Token.Told.{Text, Null, Error, Tag, Comment, Instruction, Doctype, End}
use Rattle.html5stream.proofs.Handed.{kept-handed}
use Rattle.html5write.specs.Pieces.{Piece}
use Rattle.html5write.specs.Pieces.Piece.{TextPiece}
use Rattle.html5rewrite.specs.Plain.{attribute_chars, is_plain, piece_by_kind, plain_attributes, where_plain, written_of_run, written_of_tag}
use Rattle.html5rewrite.specs.Rewriter.{Rewriter, keep_of}
use Rattle.html5rewrite.specs.Rewriting.{Rewriting, rewriting_step, start_of_page, written, written_by_keep, written_of_token, written_where}
use Rattle.html5rewrite.specs.Writing.{pieces_of}
use Rattle.html5rewrite.specs.declared.rewriter.Keep.{Keep}
use Rattle.html5rewrite.specs.declared.rewriter.Keep.TheVariants as keep

plain-by_test : (piece : Piece) (plain : Bool) → is_plain piece ≡ plain → list_all is_plain (if plain then piece ∷ [] else []) ≡ true
plain-by_test piece true is = rw is refl
plain-by_test piece false is = refl

plain-where : (piece : Piece) → list_all is_plain (where_plain piece) ≡ true
plain-where piece = plain-by_test piece (is_plain piece) refl

plain-run : (run : List ℕ) → list_all is_plain (written_of_run run) ≡ true
unfolding written_of_run
plain-run [] = refl
plain-run (byte ∷ run) = plain-where (TextPiece (chars (byte ∷ run)))

plain-tag : (tag : TagOf) → list_all is_plain (written_of_tag tag) ≡ true
unfolding written_of_tag
plain-tag tag = plain-where (piece_by_kind tag.kind (chars tag.name) (plain_attributes (map attribute_chars tag.attributes)))

plain-by_keep : (said : Keep) (tag : TagOf) → list_all is_plain (written_by_keep said tag) ≡ true
plain-by_keep keep.Tag tag = plain-tag tag
plain-by_keep keep.ContentOnly tag = refl
plain-by_keep keep.Nothing tag = refl

plain-token : (rewriter : Rewriter) (told : Told) → list_all is_plain (written_of_token rewriter told) ≡ true
plain-token rewriter (Tag tag) = plain-by_keep (keep_of rewriter tag) (rewriter.rewritten tag)
plain-token rewriter (Text text) = refl
plain-token rewriter Null = refl
plain-token rewriter (Error message) = refl
plain-token rewriter (Comment text) = refl
plain-token rewriter (Instruction content) = refl
plain-token rewriter (Doctype doctype) = refl
plain-token rewriter End = refl

plain-shown : (shown : Bool) (rewriter : Rewriter) (run : List ℕ) (told : Told) → list_all is_plain (if shown then written rewriter run told else []) ≡ true
plain-shown true rewriter run told =
    list_all-append is_plain (written_of_run run) (written_of_token rewriter told) ∙ rw (plain-run run, plain-token rewriter told) refl
plain-shown false rewriter run told = refl

plain-more : (r : Rewriting) (run : List ℕ) (told : Told) → list_all is_plain r.pieces ≡ true → list_all is_plain (r.pieces ++ written_where r.rewriter r.hidden.depth run told) ≡ true
plain-more r run told before =
    list_all-append is_plain r.pieces (written_where r.rewriter r.hidden.depth run told) ∙ rw (before, plain-shown (r.hidden.depth == 0) r.rewriter run told) refl

pub plain-pieces : (rewriter : Rewriter) (M : List Message) → list_all is_plain (pieces_of rewriter M) ≡ true
plain-pieces rewriter M =
    kept-handed rewriting_step (λ r. list_all is_plain r.pieces ≡ true) (λ r run told line plain. plain-more r run told plain) (start_of_page rewriter) M refl
