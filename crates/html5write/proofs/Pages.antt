-- A page that is written piece by piece tells its pieces.
use Rattle.std.proofs.Common.{◌≡◌, ℕ, true, false, List, [], ◌∷◌, ◌++◌, refl, ap, sym, ◌∙◌, subst}
use Rattle.std.specs.List.{list_all}
use Rattle.std.proofs.lemmas.Bool.{and_parts}
use Rattle.html5ever_interface.specs.Sink.{Means, Message, stepped, on_line}
use Rattle.html5ever_interface.specs.Token.Told.{End}
use Rattle.html5reading.specs.EndOfInput.{late_at_end_of, open_at_end_of, told_at_end_of, tokens_at_end}
use Rattle.html5reading.specs.NormalisedText.{normalised, line_after, input_after}
use Rattle.html5reading.specs.Reading.{messages, told, all_messages, messages_so_far, start_after}
use Rattle.html5reading.specs.Start.{Input, Start, Rules}
use Rattle.html5reading.specs.Start.Mode.{Data}
use Rattle.html5reading.specs.Start.Open.{Between}
use Rattle.html5reading.proofs.InputLemmas.{input_after-append}
use Rattle.html5reading.proofs.ReadingLemmas.{reading-events, messages-at_end}
use Rattle.html5reading.proofs.Traces.{messages-append}
use Rattle.html5grammar.specs.Anywhere.{TellsByItself, start_beyond}
use Rattle.markup5ever.specs.NamedReferences.{IsTable}
use Rattle.html5write.specs.Pieces.{Piece, piece_text, pieces_text, can_write}
use Rattle.html5write.specs.Pieces.Piece.{TextPiece, StartTagPiece, EndTagPiece, CommentPiece}
use Rattle.html5write.specs.Told.{IsOpen, piece_messages, pieces_messages, last_after_piece, last_after_pieces, start_after_pieces, KeepsOnAfterPiece, KeepsOn}
use Rattle.html5write.proofs.Comments.{no_break-comment, comment-told}
use Rattle.html5write.proofs.Sequence.{in_sequence, told-alone, after-alone}
use Rattle.html5write.proofs.Tags.{no_break-start_tag, no_break-end_tag, start_tag-told, end_tag-told}
use Rattle.html5write.proofs.Texts.{no_break-text, none-told, text-told}

no_break-piece : (input : Input) (piece : Piece) → can_write piece ≡ true → input.after_carriage_return ≡ false → (input_after input (piece_text piece)).after_carriage_return ≡ false
no_break-piece input (TextPiece text) can h = no_break-text input text h
no_break-piece input (StartTagPiece name attributes) can h = no_break-start_tag input name attributes can
no_break-piece input (EndTagPiece name) can h = no_break-end_tag input name can
no_break-piece input (CommentPiece text) can h = no_break-comment input text can

module _ {X S H : Type 0} (means : Means X S H) (rules : Rules) where
  piece-told : (K : Start) (s : S) (piece : Piece) → IsTable rules.references → IsOpen K → can_write piece ≡ true → KeepsOnAfterPiece means.reply piece
      → TellsByItself means rules K s (piece_text piece) (piece_messages rules.exact K.input piece) (start_beyond K (piece_text piece) (Between Data) (last_after_piece K.last_start_tag piece))
  piece-told K s (TextPiece text) table here can keeps = text-told means rules K s text here can
  piece-told K s (StartTagPiece name attributes) table here can keeps = start_tag-told means rules K s name attributes table here can keeps
  piece-told K s (EndTagPiece name) table here can keeps = end_tag-told means rules K s name table here can keeps
  piece-told K s (CommentPiece text) table here can keeps = comment-told means rules K s text here can

  -- a page tells its pieces: the statement of `all_pieces`
  pub pieces-told : (K : Start) (s : S) (pieces : List Piece) → IsTable rules.references → IsOpen K → list_all can_write pieces ≡ true → KeepsOn means.reply pieces
      → TellsByItself means rules K s (pieces_text pieces) (pieces_messages rules.exact K.input pieces) (start_after_pieces K pieces)
  unfolding pieces_messages last_after_pieces
  pieces-told K s [] table here can keeps = none-told means rules K s here.starts
  pieces-told K s (piece ∷ pieces) table here can keeps =
      let p = and_parts (can_write piece) (list_all can_write pieces) can in
      let M : List Message = piece_messages rules.exact K.input piece in
      let between : Start = start_beyond K (piece_text piece) (Between Data) (last_after_piece K.last_start_tag piece) in
      subst (λ input. TellsByItself means rules K s (piece_text piece ++ pieces_text pieces) (M ++ pieces_messages rules.exact between.input pieces) (record { opened = Between Data; last_start_tag = last_after_pieces between.last_start_tag pieces; input = input }))
      (sym (input_after-append K.input (piece_text piece) (pieces_text pieces)))
      (in_sequence means rules K s (piece_text piece) M between (pieces_text pieces) (pieces_messages rules.exact between.input pieces) (start_after_pieces between pieces)
      (piece-told K s piece table here p.0 keeps.0)
      (pieces-told between (stepped means.step s M) pieces table (record { starts = refl; no_break = no_break-piece K.input piece p.0 here.no_break }) p.1 keeps.1))

  -- and by itself its end besides
  pub pieces-reading : (K : Start) (s : S) (pieces : List Piece) → IsTable rules.references → IsOpen K → list_all can_write pieces ≡ true → KeepsOn means.reply pieces
      → all_messages means rules K s (pieces_text pieces)
      ≡ pieces_messages rules.exact K.input pieces ++ on_line (line_after K.input (normalised K.input (pieces_text pieces))) (End ∷ [])
  unfolding late_at_end_of open_at_end_of told_at_end_of
  pieces-reading K s pieces table here can keeps =
      let Y : List ℕ = pieces_text pieces in
      let M : List Message = pieces_messages rules.exact K.input pieces in
      let line : ℕ = line_after K.input (normalised K.input Y) in
      let item : TellsByItself means rules K s Y M (start_after_pieces K pieces) = pieces-told K s pieces table here can keeps in
      ap messages (reading-events means.step means.reply means.foreign rules K s Y)
      ∙ messages-append (told means.step means.reply means.foreign rules K s Y) _
      ∙ ap (λ N. messages_so_far means rules K s Y ++ N) (messages-at_end means.step means.reply means.foreign rules K s Y)
      ∙ ap (λ N. N ++ on_line line (tokens_at_end rules (start_after means rules K s Y).opened)) (told-alone means rules K s Y M (start_after_pieces K pieces) item)
      ∙ ap (λ (k : Start). M ++ on_line line (tokens_at_end rules k.opened)) (after-alone means rules K s Y M (start_after_pieces K pieces) item)
