-- Items as pieces, and pieces as items.
use Rattle.std.proofs.Common.{◌≡◌, ℕ, Bool, true, false, List, [], ◌∷◌, ◌++◌, chars, filter, map, refl, ap, sym, ◌∙◌, subst}
use Rattle.std.specs.Prelude.{◌&&◌, codes, encode_utf8_all, flat_map}
use Rattle.std.proofs.lemmas.Bool.{false≢true}
use Rattle.std.proofs.lemmas.List.Concat.{flat_map-append}
use Rattle.html5nested.specs.PageItems.{attribute_item, has_no_comment, is_no_comment, items_of, items_of_piece}
use Rattle.html5tree.specs.Fitting.{can_open, fits_in, is_space}
use Rattle.html5tree.specs.Items.{Attribute, Item}
use Rattle.html5tree.specs.Items.Item.{EndTag, StartTag, Text}
use Rattle.html5tree.specs.Names.{is_void, kind_of}
use Rattle.html5tree.specs.Normal as normal
use Rattle.html5tree.specs.Normal.{all_stand, stands}
use Rattle.html5tree.specs.Scopes.{kind_on_top}
use Rattle.html5tree.specs.Tables.{after_space, leading_space}
use Rattle.html5tree.specs.declared.kinds.Kind.TheVariants.{Unknown}
use Rattle.html5write.specs.Pieces.{NameAndValue, Piece}
use Rattle.html5write.specs.Pieces.Piece.{TextPiece, StartTagPiece, EndTagPiece, CommentPiece}
use Rattle.html5cleaner.specs.Balance.{end_tags}
use Rattle.html5cleaner.specs.Shape.{attribute_in, piece_in, pieces_in}
use Rattle.html5cleaner.proofs.Encoded.{chars-encoded}
use Rattle.html5cleaner.proofs.FittedItems.{AllOf, IsClosed, OfElement, all-append}
use Rattle.html5cleaner.proofs.KnownNames.{ascii-chars, ascii-encoded, is_ascii_name, known-ascii}
use Rattle.html5cleaner.proofs.Replies.{and-left, and-right}
use Rattle.html5cleaner.proofs.SpacesEncoded.{front-encoded, rest-encoded, space-encoded}

-- ---- items that are themselves again

abbrev pub IsSame : Item → Type 0
IsSame item = items_of_piece (piece_in item) ≡ item ∷ []

pub same-text : (text : List ℕ) → IsSame (Text (encode_utf8_all text))
same-text text = ap (λ l. Text (encode_utf8_all l) ∷ []) (chars-encoded text)

abbrev first_text : List Item → List ℕ
first_text (Text text ∷ items) = text
first_text other = []

abbrev first_name : List Item → List ℕ
first_name (StartTag name attributes ∷ items) = name
first_name (EndTag name ∷ items) = name
first_name other = []

pub text-of : (text : List ℕ) → IsSame (Text text) → encode_utf8_all (chars text) ≡ text
text-of text same = ap first_text same

pub start-name_of : (name : List ℕ) (attributes : List Attribute) → IsSame (StartTag name attributes) → encode_utf8_all (chars name) ≡ name
start-name_of name attributes same = ap first_name same

pub end-name_of : (name : List ℕ) → IsSame (EndTag name) → encode_utf8_all (chars name) ≡ name
end-name_of name same = ap first_name same

pub same-front : (text : List ℕ) → IsSame (Text text) → IsSame (Text (leading_space text))
same-front text same =
    subst (λ l. IsSame (Text l)) (sym (ap leading_space (sym (text-of text same)) ∙ front-encoded (chars text))) (same-text (leading_space (chars text)))

pub same-rest : (text : List ℕ) → IsSame (Text text) → IsSame (Text (after_space text))
same-rest text same =
    subst (λ l. IsSame (Text l)) (sym (ap after_space (sym (text-of text same)) ∙ rest-encoded (chars text))) (same-text (after_space (chars text)))

pub same-space : (text : List ℕ) → IsSame (Text text) → IsSame (Text (filter is_space text))
same-space text same =
    subst (λ l. IsSame (Text l)) (sym (ap (filter is_space) (sym (text-of text same)) ∙ space-encoded (chars text))) (same-text (filter is_space (chars text)))

pub ascii-same : (name : List ℕ) → is_ascii_name name ≡ true → encode_utf8_all (chars name) ≡ name
ascii-same name all = ap encode_utf8_all (ascii-chars name all) ∙ ascii-encoded name all

pub same-start : (name : List ℕ) → encode_utf8_all (chars name) ≡ name → IsSame (StartTag name [])
same-start name same = ap (λ n. StartTag n [] ∷ []) same

pub same-end : (name : List ℕ) → encode_utf8_all (chars name) ≡ name → IsSame (EndTag name)
same-end name same = ap (λ n. EndTag n ∷ []) same

same-element : (name : List ℕ) → is_ascii_name name ≡ true → OfElement IsSame name
same-element name all = (same-start name (ascii-same name all), same-end name (ascii-same name all))

pub same-closed : IsClosed IsSame
same-closed = record {
  front = same-front;
  rest = same-rest;
  space = same-space;
  group = same-element (codes "colgroup") refl;
  body = same-element (codes "tbody") refl;
  row = same-element (codes "tr") refl;
  cell = same-element (codes "td") refl;
  opens = λ name attributes same void. same-end name (start-name_of name attributes same);
  paragraph = λ name kind same. same-element (codes "p") refl;
  break = λ same. (same-element (codes "br") refl).0;
}

pub same-items : (items : List Item) → AllOf IsSame items → items_of (pieces_in items) ≡ items
unfolding items_of
same-items [] same = refl
same-items (item ∷ items) same =
    ap (λ l. l ++ flat_map items_of_piece (pieces_in items)) same.0 ∙ ap (λ l. item ∷ l) (same-items items same.1)

-- ---- pieces that are themselves again

attributes-back : (attributes : List NameAndValue) → map attribute_in (map attribute_item attributes) ≡ attributes
attributes-back [] = refl
attributes-back (a ∷ attributes) =
    λ i. record { name = chars-encoded a.name i; value = chars-encoded a.value i } ∷ attributes-back attributes i

pub start-back : (name : List ℕ) (attributes : List NameAndValue)
    → piece_in (StartTag (encode_utf8_all name) (map attribute_item attributes)) ≡ StartTagPiece name attributes
start-back name attributes = λ i. StartTagPiece (chars-encoded name i) (attributes-back attributes i)

pub end-back : (name : List ℕ) → piece_in (EndTag (encode_utf8_all name)) ≡ EndTagPiece name
end-back name = ap EndTagPiece (chars-encoded name)

pub text-back : (text : List ℕ) → piece_in (Text (encode_utf8_all text)) ≡ TextPiece text
text-back text = ap TextPiece (chars-encoded text)

-- pieces that are no comments
pub pieces-back : (pieces : List Piece) → has_no_comment pieces ≡ true → pieces_in (items_of pieces) ≡ pieces
unfolding items_of has_no_comment
pieces-back [] none = refl
pieces-back (TextPiece text ∷ pieces) none = λ i. text-back text i ∷ pieces-back pieces none i
pieces-back (StartTagPiece name attributes ∷ pieces) none = λ i. start-back name attributes i ∷ pieces-back pieces none i
pieces-back (EndTagPiece name ∷ pieces) none = λ i. end-back name i ∷ pieces-back pieces none i
pieces-back (CommentPiece text ∷ pieces) none = absurd (false≢true none)

same-piece : (piece : Piece) → AllOf IsSame (items_of_piece piece)
same-piece (TextPiece text) = (same-text text, tt)
same-piece (StartTagPiece name attributes) = (ap items_of_piece (start-back name attributes), tt)
same-piece (EndTagPiece name) = (ap items_of_piece (end-back name), tt)
same-piece (CommentPiece text) = tt

pub same-pieces : (pieces : List Piece) → AllOf IsSame (items_of pieces)
unfolding items_of
same-pieces [] = tt
same-pieces (piece ∷ pieces) = all-append IsSame (items_of_piece piece) (flat_map items_of_piece pieces) (same-piece piece) (same-pieces pieces)

pub items-append : (first second : List Piece) → items_of (first ++ second) ≡ items_of first ++ items_of second
unfolding items_of
items-append first second = flat_map-append items_of_piece first second

-- ---- open elements that each fit where they stand

pub open-known : (name : List ℕ) → can_open (kind_of name) ≡ true → kind_of name ≡ Unknown → ⊥
open-known name opens unknown = false≢true (sym (ap can_open unknown) ∙ opens)

first-stands : (name : List ℕ) (stack : List (List ℕ)) → all_stand (name ∷ stack) ≡ true → is_ascii_name name ≡ true
unfolding all_stand
first-stands name stack stand =
    known-ascii name
    (open-known name (and-left (can_open (kind_of name)) (fits_in (kind_on_top stack) (kind_of name) stack) (and-left (stands name stack) (all_stand stack) stand)))

later-stand : (name : List ℕ) (stack : List (List ℕ)) → all_stand (name ∷ stack) ≡ true → all_stand stack ≡ true
unfolding all_stand
later-stand name stack stand = and-right (stands name stack) (all_stand stack) stand

pub same-open : (stack : List (List ℕ)) → all_stand stack ≡ true → AllOf (λ name. IsSame (EndTag name)) stack
same-open [] stand = tt
same-open (name ∷ stack) stand = (same-end name (ascii-same name (first-stands name stack stand)), same-open stack (later-stand name stack stand))

-- their end tags
pub ends-same : (stack : List (List ℕ)) → all_stand stack ≡ true → pieces_in (normal.end_tags stack) ≡ end_tags stack
ends-same [] stand = refl
ends-same (name ∷ stack) stand =
    λ i. EndTagPiece (ascii-chars name (first-stands name stack stand) i) ∷ ends-same stack (later-stand name stack stand) i
