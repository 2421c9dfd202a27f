-- A piece is refused exactly if it can't be written.
use Rattle.std.proofs.Common.{◌≡◌, ℕ, ◌+◌, Bool, true, false, List, [], ◌∷◌, Some, None, Option, length, refl, ap, sym, ◌∙◌}
use Rattle.std.specs.Prelude.{◌==◌, ◌&&◌, not, encode_utf8, option_map, if◌then◌else◌}
use Rattle.std.specs.List.{list_all}
use Rattle.std.specs.Option.{option_or, is_none}
use Rattle.html5reading.specs.Characters.{null}
use Rattle.html5write.specs.declared.error.WriteError.{WriteError}
use Rattle.html5write.specs.declared.error.WriteError.TheVariants.{NullInText, TagName, AttributeName, NullInValue, Repeated, CommentText}
use Rattle.html5write.specs.Pieces.{NameAndValue, Piece, has_no_null, is_tag_name, is_attribute_name, is_attribute, is_comment_text, differs_from, are_distinct, can_write}
use Rattle.html5write.specs.Pieces.Piece.{TextPiece, StartTagPiece, EndTagPiece, CommentPiece}
use Rattle.html5write.specs.Refusals.{null_from, repeat_from, attribute_refusal, attributes_refusal, refusal_of}

none-option_map : {X Y : Type 0} (f : X → Y) (o : Option X) → is_none (option_map f o) ≡ is_none o
none-option_map f None = refl
none-option_map f (Some x) = refl

none-option_or : {X : Type 0} (o other : Option X) → is_none (option_or o other) ≡ (is_none o && is_none other)
none-option_or None other = refl
none-option_or (Some x) other = refl

none-null_from : (at : ℕ) (text : List ℕ) → is_none (null_from at text) ≡ has_no_null text
unfolding null_from
none-null_from at [] = refl
none-null_from at (c ∷ text) =
    elim (c == null) as (λ b. is_none (if b then Some at else null_from (at + length (encode_utf8 c)) text) ≡ (not b && has_no_null text)) [
      | true ↦ refl
      | false ↦ none-null_from (at + length (encode_utf8 c)) text
    ]

none-repeat_from : (a : NameAndValue) (index : ℕ) (later : List NameAndValue) → is_none (repeat_from a index later) ≡ list_all (differs_from a) later
unfolding repeat_from
none-repeat_from a index [] = refl
none-repeat_from a index (other ∷ later) =
    elim (differs_from a other) as (λ b. is_none (if b then repeat_from a (index + 1) later else Some index) ≡ (b && list_all (differs_from a) later)) [
      | true ↦ none-repeat_from a (index + 1) later
      | false ↦ refl
    ]

none-attribute : (index : ℕ) (a : NameAndValue) → is_none (attribute_refusal index a) ≡ is_attribute a
none-attribute index a =
    elim (is_attribute_name a.name) as (λ b. is_none (if b then option_map (λ at. NullInValue index at) (null_from 0 a.value) else Some (AttributeName index)) ≡ (b && has_no_null a.value)) [
      | true ↦ none-option_map (λ at. NullInValue index at) (null_from 0 a.value) ∙ none-null_from 0 a.value
      | false ↦ refl
    ]

in_other_order : (a l s d : Bool) → (a && (l && (s && d))) ≡ ((a && s) && (l && d))
in_other_order false l s d = refl
in_other_order true true s d = refl
in_other_order true false true d = refl
in_other_order true false false d = refl

none-attributes : (index : ℕ) (attributes : List NameAndValue) → is_none (attributes_refusal index attributes) ≡ (list_all is_attribute attributes && are_distinct attributes)
unfolding attributes_refusal are_distinct
none-attributes index [] = refl
none-attributes index (a ∷ later) =
    none-option_or (attribute_refusal index a) _
    ∙ ap (λ b. is_none (attribute_refusal index a) && b) (none-option_or (option_map Repeated (repeat_from a (index + 1) later)) (attributes_refusal (index + 1) later))
    ∙ rw (none-attribute index a, none-option_map Repeated (repeat_from a (index + 1) later), none-repeat_from a (index + 1) later, none-attributes (index + 1) later)
    (in_other_order (is_attribute a) (list_all (differs_from a) later) (list_all is_attribute later) (are_distinct later))

none-where : (b : Bool) (e : WriteError) → is_none (if b then None else Some e) ≡ b
none-where true e = refl
none-where false e = refl

pub none-refusal_of : (piece : Piece) → is_none (refusal_of piece) ≡ can_write piece
unfolding refusal_of
none-refusal_of (TextPiece text) = none-option_map NullInText (null_from 0 text) ∙ none-null_from 0 text
none-refusal_of (StartTagPiece name attributes) =
    elim (is_tag_name name) as (λ b. is_none (if b then attributes_refusal 0 attributes else Some TagName) ≡ (b && (list_all is_attribute attributes && are_distinct attributes))) [
      | true ↦ none-attributes 0 attributes
      | false ↦ refl
    ]
none-refusal_of (EndTagPiece name) = none-where (is_tag_name name) TagName
none-refusal_of (CommentPiece text) = none-where (is_comment_text text) CommentText

pub can-write : (piece : Piece) → refusal_of piece ≡ None → can_write piece ≡ true
can-write piece none = sym (none-refusal_of piece) ∙ ap is_none none
