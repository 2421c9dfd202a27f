-- What a page tells has the items of its pieces, once texts that stand side by side are one.
use Rattle.std.proofs.Common.{◌≡◌, ℕ, Bool, List, [], ◌∷◌, ◌++◌, refl, ap, sym, ◌∙◌, append-nil, append_assoc}
use Rattle.std.specs.Prelude.{flat_map, map, encode_utf8, encode_utf8_all}
use Rattle.std.proofs.lemmas.List.Concat.{flat_map-append}
use Rattle.html5ever_interface.specs.Token.{Told}
use Rattle.html5ever_interface.specs.Sink.{Message, on_line}
use Rattle.html5ever_interface.specs.Token.Told.{Text as ToldText, End}
use Rattle.html5reading.specs.Start.{Input}
use Rattle.html5tree.specs.Items.{Item, in_front, whole_texts}
use Rattle.html5tree.specs.Items.Item.{EndTag, StartTag, Text}
use Rattle.html5write.specs.Pieces.{NameAndValue, Piece}
use Rattle.html5write.specs.Pieces.Piece.{TextPiece, StartTagPiece, EndTagPiece, CommentPiece}
use Rattle.html5write.specs.Told.{attribute_told as attribute_sent, pieces_messages, pieces_tokens, piece_tokens, proper, proper_token}
use Rattle.html5write.proofs.ProperTokens.{proper-whole}
use Rattle.html5nested.specs.PageItems.{attribute_item, attribute_told, items_of, items_of_piece, items_of_token, items_told}

front-twice : (a b : List ℕ) (items : List Item) → in_front a (in_front b items) ≡ in_front (a ++ b) items
unfolding in_front
front-twice a [] items = ap (λ x. in_front x items) (sym (append-nil a))
front-twice [] (c ∷ b) items = refl
front-twice (d ∷ a) (c ∷ b) [] = refl
front-twice (d ∷ a) (c ∷ b) (Text more ∷ items) = ap (λ x. Text x ∷ items) (sym (append_assoc (d ∷ a) (c ∷ b) more))
front-twice (d ∷ a) (c ∷ b) (StartTag name attributes ∷ items) = refl
front-twice (d ∷ a) (c ∷ b) (EndTag name ∷ items) = refl

-- a text that is emitted character by character
same-text : (text : List ℕ) (items others : List Item) → whole_texts items ≡ whole_texts others
    → whole_texts (flat_map items_of_token (map (λ c. ToldText (encode_utf8 c)) text) ++ items) ≡ in_front (encode_utf8_all text) (whole_texts others)
unfolding whole_texts in_front
same-text [] items others same = same
same-text (c ∷ text) items others same =
    ap (in_front (encode_utf8 c)) (same-text text items others same)
    ∙ front-twice (encode_utf8 c) (encode_utf8_all text) (whole_texts others)

pub same-attributes : (attributes : List NameAndValue) → map attribute_told (map attribute_sent attributes) ≡ map attribute_item attributes
same-attributes [] = refl
same-attributes (a ∷ attributes) = ap (λ l. attribute_item a ∷ l) (same-attributes attributes)

same-piece : (piece : Piece) (items others : List Item) → whole_texts items ≡ whole_texts others
    → whole_texts (flat_map items_of_token (piece_tokens piece) ++ items) ≡ whole_texts (items_of_piece piece ++ others)
unfolding whole_texts
same-piece (TextPiece text) items others same = same-text text items others same
same-piece (StartTagPiece name attributes) items others same =
    ap (λ l. StartTag (encode_utf8_all name) l ∷ whole_texts items) (same-attributes attributes)
    ∙ ap (λ l. StartTag (encode_utf8_all name) (map attribute_item attributes) ∷ l) same
same-piece (EndTagPiece name) items others same = ap (λ l. EndTag (encode_utf8_all name) ∷ l) same
same-piece (CommentPiece text) items others same = same

-- the items of the tokens of pieces, where those after them are no items
pub same-items : (pieces : List Piece) (rest : List Told) → items_told rest ≡ []
    → whole_texts (items_told (pieces_tokens pieces ++ rest)) ≡ whole_texts (items_of pieces)
unfolding items_told items_of
same-items [] rest none = ap whole_texts none
same-items (piece ∷ pieces) rest none =
    ap (λ l. whole_texts (flat_map items_of_token l)) (append_assoc (piece_tokens piece) (pieces_tokens pieces) rest)
    ∙ ap whole_texts (flat_map-append items_of_token (piece_tokens piece) (pieces_tokens pieces ++ rest))
    ∙ same-piece piece (items_told (pieces_tokens pieces ++ rest)) (items_of pieces) (same-items pieces rest none)

-- what a part of a page tells
pub same-part : (exact : Bool) (input : Input) (pieces : List Piece)
    → whole_texts (items_told (proper (pieces_messages exact input pieces))) ≡ whole_texts (items_of pieces)
unfolding items_told proper
same-part exact input pieces =
    let M : List Message = pieces_messages exact input pieces in
    ap whole_texts
    (sym (append-nil (flat_map items_of_token (proper M)))
    ∙ (sym (flat_map-append items_of_token (proper M) (End ∷ []))
    ∙ ap (flat_map items_of_token) (sym (flat_map-append (λ (m : Message). proper_token m.token) M (on_line 0 (End ∷ []))) ∙ proper-whole exact input pieces 0)))
    ∙ same-items pieces (End ∷ []) refl
