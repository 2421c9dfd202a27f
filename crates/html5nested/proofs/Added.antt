-- What is added to a page, item by item.
use Rattle.std.proofs.Common.{◌≡◌, ℕ, zero, suc, ◌+◌, true, List, [], ◌∷◌, ◌++◌, Option, Some, Result, Ok, Err, drop, length, map, refl, ap, sym, subst, ◌∙◌, append-nil, append_assoc, arith}
use Rattle.std.specs.Prelude.{flat_map, chars, encode_utf8_all, option_map, slice_get, OnOk}
use Rattle.std.specs.List.{list_all}
use Rattle.std.specs.Str.{IsUtf8}
use Rattle.std.proofs.lemmas.Str.{encodes-chars}
use Rattle.std.proofs.lemmas.List.Concat.{flat_map-append}
use Rattle.std.proofs.lemmas.List.Folds.{list_all-append}
use Rattle.std.proofs.lemmas.Bool.{and_from}
use Rattle.html5ever_interface.specs.Token.Told.{Tag as ToldTag}
use Rattle.html5ever_interface.specs.declared.interface.token.TagKind.TheVariants as kind
use Rattle.html5tree.specs.ElementNames.{name_of}
use Rattle.html5tree.specs.Items.{Item}
use Rattle.html5tree.specs.Items.Item.{EndTag, StartTag, Text}
use Rattle.html5tree.specs.Normal.{end_tags, start_tags}
use Rattle.html5tree.specs.declared.names.ElementName.{ElementName}
use Rattle.html5write.specs.Pieces.{Piece}
use Rattle.html5write.specs.Pieces.Piece.{EndTagPiece, StartTagPiece, TextPiece}
use Rattle.html5write.specs.Told.{piece_tokens}
use Rattle.html5write.specs.Writing.{attribute_of, attribute_said as attribute_sent, tag_said}
use Rattle.html5write.specs.declared.error.WriteError.{WriteError}
use Rattle.html5write.specs.declared.piece.Attribute.{Attribute}
use Rattle.html5nested.specs.PageItems.{attribute_told, has_no_comment, is_no_comment, items_of, items_of_piece, items_of_token}
use Rattle.html5nested.specs.Adding.{Adds, attribute_said}
use Rattle.html5nested.proofs.SameItems.{same-attributes}

-- a page to which nothing was added
pub adds-nothing : (page : List Piece) → Adds page page []
adds-nothing page = record { items = sym (append-nil (items_of page)); no_comment = λ none. none }

-- one addition after another
pub adds-both : (before between after : List Piece) (first second : List Item) → Adds before between first → Adds between after second
    → Adds before after (first ++ second)
adds-both before between after first second one two = record {
  items = two.items ∙ (ap (λ l. l ++ second) one.items ∙ append_assoc (items_of before) first second);
  no_comment = λ none. two.no_comment (one.no_comment none);
}

-- pieces that stand last
pub adds-pieces : (before after pieces : List Piece) (items : List Item) → after ≡ before ++ pieces → items_of pieces ≡ items
    → has_no_comment pieces ≡ true → Adds before after items
unfolding items_of has_no_comment
adds-pieces before after pieces items is same none = record {
  items = ap (flat_map items_of_piece) is ∙ (flat_map-append items_of_piece before pieces ∙ ap (λ l. flat_map items_of_piece before ++ l) same);
  no_comment = λ few. ap (list_all is_no_comment) is
      ∙ (list_all-append is_no_comment before pieces ∙ and_from (list_all is_no_comment before) (list_all is_no_comment pieces) few none);
}

-- one that stands last
pub adds-piece : (before after : List Piece) (piece : Piece) (items : List Item) → after ≡ before ++ piece ∷ [] → items_of_piece piece ≡ items
    → is_no_comment piece ≡ true → Adds before after items
unfolding items_of has_no_comment
adds-piece before after piece items is same none =
    adds-pieces before after (piece ∷ []) items is (append-nil (items_of_piece piece) ∙ same) (and_from (is_no_comment piece) true none refl)

-- the page of one writer after that of another
pub adds-page : (before part after : List Piece) (items : List Item) → Adds [] part items → after ≡ before ++ part → Adds before after items
unfolding items_of has_no_comment
adds-page before part after items adds is = adds-pieces before after part items is adds.items (adds.no_comment refl)

-- ---- the same, after a call that answers

pub adds-text : (result : Result (Unit {0}) WriteError) (before after : List Piece) (text : List ℕ) → IsUtf8 text
    → OnOk result (after ≡ before ++ TextPiece (chars text) ∷ []) → OnOk result (Adds before after (Text text ∷ []))
adds-text (Ok u) before after text good is =
    adds-piece before after (TextPiece (chars text)) (Text text ∷ []) is (ap (λ l. Text l ∷ []) (encodes-chars text good)) refl
adds-text (Err e) before after text good is = tt

pub adds-end_tag : (result : Result (Unit {0}) WriteError) (before after : List Piece) (name : List ℕ) → IsUtf8 name
    → OnOk result (after ≡ before ++ EndTagPiece (chars name) ∷ []) → OnOk result (Adds before after (EndTag name ∷ []))
adds-end_tag (Ok u) before after name good is =
    adds-piece before after (EndTagPiece (chars name)) (EndTag name ∷ []) is (ap (λ l. EndTag l ∷ []) (encodes-chars name good)) refl
adds-end_tag (Err e) before after name good is = tt

-- what its token says
pub same-said : (attributes : List Attribute) → map attribute_told (map attribute_sent attributes) ≡ map attribute_said attributes
same-said [] = refl
same-said (a ∷ attributes) = ap (λ l. attribute_said a ∷ l) (same-said attributes)

pub adds-start_tag : (result : Result (Unit {0}) WriteError) (before after : List Piece) (name : List ℕ) (attributes : List Attribute)
    → piece_tokens (StartTagPiece (chars name) (map attribute_of attributes)) ≡ ToldTag (tag_said kind.StartTag name attributes) ∷ []
    → OnOk result (after ≡ before ++ StartTagPiece (chars name) (map attribute_of attributes) ∷ [])
    → OnOk result (Adds before after (StartTag name (map attribute_said attributes) ∷ []))
adds-start_tag (Ok u) before after name attributes said is =
    adds-piece before after (StartTagPiece (chars name) (map attribute_of attributes)) (StartTag name (map attribute_said attributes) ∷ []) is
    (ap (λ l. StartTag (encode_utf8_all (chars name)) l ∷ []) (sym (same-attributes (map attribute_of attributes)))
    ∙ (ap (flat_map items_of_token) said ∙ ap (λ l. StartTag name l ∷ []) (same-said attributes)))
    refl
adds-start_tag (Err e) before after name attributes said is = tt

-- ---- what is still to be added

abbrev pub IsLeft : (start page : List Piece) (all left : List Item) → Type 0
IsLeft start page all left = (after : List Piece) → Adds page after left → Adds start after all

pub left-next : (start page between : List Piece) (all left more : List Item) (one : Item) → left ≡ one ∷ more → IsLeft start page all left
    → Adds page between (one ∷ []) → IsLeft start between all more
left-next start page between all left more one is left-now adds = λ after last.
    left-now after (subst (λ l. Adds page after l) (sym is) (adds-both page between after (one ∷ []) more adds last))

pub left-none : (start page : List Piece) (all left : List Item) → left ≡ [] → IsLeft start page all left → Adds start page all
left-none start page all left none left-now = left-now page (subst (λ l. Adds page page l) (sym none) (adds-nothing page))

-- the names from one on
drop-got : (names : List (List ℕ)) (at : ℕ) (name : List ℕ) → slice_get names at ≡ Some name → drop at names ≡ name ∷ drop (suc at) names
drop-got [] at name h = cc
drop-got (x ∷ names) zero name h = cc
drop-got (x ∷ names) (suc at) name h = drop-got names at name h

add-one : (at : ℕ) → at + 1 ≡ suc at
add-one at = omega arith

pub parents-next : (names : List (List ℕ)) (got : Option ElementName) (name : ElementName) (at : ℕ) → option_map name_of got ≡ slice_get names at → got ≡ Some name
    → start_tags (drop at names) ≡ StartTag (name_of name) [] ∷ start_tags (drop (at + 1) names)
parents-next names got name at gives is =
    ap start_tags (drop-got names at (name_of name) (sym gives ∙ ap (option_map name_of) is))
    ∙ ap (λ n. StartTag (name_of name) [] ∷ start_tags (drop n names)) (sym (add-one at))

pub ends-next : (names rest : List ElementName) (name : ElementName) → names ≡ name ∷ rest
    → end_tags (map name_of names) ≡ EndTag (name_of name) ∷ end_tags (map name_of rest)
ends-next names rest name is = ap (λ l. end_tags (map name_of l)) is

pub none-left : (names : List ElementName) → length names ≡ 0 → end_tags (map name_of names) ≡ []
none-left [] none = refl
none-left (name ∷ names) none = cc
