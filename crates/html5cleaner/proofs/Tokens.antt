-- The tokens of a clean page are allowed.
use Rattle.std.proofs.Common.{◌≡◌, ℕ, true, List, [], ◌∷◌, ◌++◌, map, refl, ap, ◌∙◌}
use Rattle.std.specs.Prelude.{◌&&◌, encode_utf8, encode_utf8_all}
use Rattle.std.specs.List.{list_all}
use Rattle.std.proofs.lemmas.List.Folds.{list_all-append, list_all-map}
use Rattle.html5ever_interface.specs.Token.{Told, Reply}
use Rattle.html5ever_interface.specs.Token.Told.{Text, End}
use Rattle.html5reading.specs.Start.{Start, Rules}
use Rattle.markup5ever.specs.Names.{AttributeOf}
use Rattle.html5write.specs.Pieces.{NameAndValue, Piece, can_write}
use Rattle.html5write.specs.Pieces.Piece.{TextPiece, StartTagPiece, EndTagPiece, CommentPiece}
use Rattle.html5write.specs.Told.{IsReadBack, attribute_told, pieces_tokens, piece_tokens}
use Rattle.html5policy.specs.Policy.{PolicyOf, is_allowed, is_written}
use Rattle.html5cleaner.specs.Allowed.{is_allowed_piece, is_clean, is_written_attribute}
use Rattle.html5cleaner.specs.Reading.{IsReadBackClean, has_written_attributes, is_allowed_token}
use Rattle.html5cleaner.proofs.Replies.{and-left, and-right}

module _ (policy : PolicyOf) where
  allowed-text : (text : List ℕ) → list_all (is_allowed_token policy) (map (λ c. Text (encode_utf8 c)) text) ≡ true
  unfolding is_allowed_token
  allowed-text [] = refl
  allowed-text (c ∷ text) = allowed-text text

  written-told : (name : List ℕ) (attributes : List NameAndValue)
      → has_written_attributes policy (encode_utf8_all name) (map attribute_told attributes) ≡ list_all (is_written_attribute policy name) attributes
  written-told name attributes = list_all-map (λ (a : AttributeOf). is_written policy (encode_utf8_all name) a.name.local a.value) attribute_told attributes

  allowed-piece_tokens : (piece : Piece) → is_allowed_piece policy piece ≡ true → list_all (is_allowed_token policy) (piece_tokens piece) ≡ true
  unfolding is_allowed_token is_allowed_piece
  allowed-piece_tokens (TextPiece text) allowed = allowed-text text
  allowed-piece_tokens (StartTagPiece name attributes) allowed =
      ap (λ b. (is_allowed policy (encode_utf8_all name) && b) && true) (written-told name attributes) ∙ ap (λ b. b && true) allowed
  allowed-piece_tokens (EndTagPiece name) allowed = ap (λ b. b && true) allowed
  allowed-piece_tokens (CommentPiece text) allowed = allowed

  pub allowed-pieces_tokens : (pieces : List Piece) → list_all (is_clean policy) pieces ≡ true → list_all (is_allowed_token policy) (pieces_tokens pieces) ≡ true
  allowed-pieces_tokens [] clean = refl
  allowed-pieces_tokens (piece ∷ pieces) clean =
      list_all-append (is_allowed_token policy) (piece_tokens piece) (pieces_tokens pieces)
      ∙ rw (
        allowed-piece_tokens piece (and-left (is_allowed_piece policy piece) (can_write piece) (and-left (is_clean policy piece) (list_all (is_clean policy) pieces) clean)),
        allowed-pieces_tokens pieces (and-right (is_clean policy piece) (list_all (is_clean policy) pieces) clean),
      ) refl

  -- with the end after them
  pub allowed-whole : (pieces : List Piece) → list_all (is_clean policy) pieces ≡ true → list_all (is_allowed_token policy) (pieces_tokens pieces ++ End ∷ []) ≡ true
  unfolding is_allowed_token
  allowed-whole pieces clean = list_all-append (is_allowed_token policy) (pieces_tokens pieces) (End ∷ []) ∙ rw (allowed-pieces_tokens pieces clean) refl

  -- what can be written of it is all of it
  pub can-clean : (pieces : List Piece) → list_all (is_clean policy) pieces ≡ true → list_all can_write pieces ≡ true
  can-clean [] clean = refl
  can-clean (piece ∷ pieces) clean =
      rw (
        and-right (is_allowed_piece policy piece) (can_write piece) (and-left (is_clean policy piece) (list_all (is_clean policy) pieces) clean),
        can-clean pieces (and-right (is_clean policy piece) (list_all (is_clean policy) pieces) clean),
      ) refl

  -- so pieces are read back where clean ones are
  pub read_back-clean : {S H : Type 0} (rules : Rules) (K : Start) (reply : S → Told → ℕ → Reply H) (pieces : List Piece)
      → IsReadBackClean {S = S} policy rules K reply pieces → IsReadBack {S = S} rules K reply pieces
  read_back-clean rules K reply pieces back = record { table = back.table; starts = back.starts; can = can-clean pieces back.clean; keeps = back.keeps }
