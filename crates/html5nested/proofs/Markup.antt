-- After the tags of pieces that fit the standard keeps on.
use Rattle.std.proofs.Common.{◌≡◌, ◌≤◌, ℕ, Bool, true, false, List, [], ◌∷◌, length, map, refl, sym, ap, ◌∙◌, arith}
use Rattle.std.specs.Prelude.{◌&&◌, codes, encode_utf8_all}
use Rattle.std.specs.Str.{bytes_eq}
use Rattle.std.proofs.lemmas.Bool.{false≢true}
use Rattle.markup5ever.proofs.NameOrder.{bytes_eq-same}
use Rattle.html5ever_interface.specs.Token.{Told, Reply}
use Rattle.html5ever_interface.specs.Token.Reply.{KeepOn}
use Rattle.html5sinks.specs.Replies.{FollowsStandard, raw_text_in, standard_reply_to_start}
use Rattle.html5tree.specs.Fitting.{each_fits, fits, open_after}
use Rattle.html5tree.specs.Items.{Attribute, Item}
use Rattle.html5tree.specs.Items.Item.{EndTag, StartTag, Text}
use Rattle.html5tree.specs.Names.{all_names, is_among, kind_in, kind_of}
use Rattle.html5tree.specs.declared.kinds.Kind.TheVariants.{Unknown}
use Rattle.html5tree.proofs.Normalising.{item-unchanged, unknown-start}
use Rattle.html5write.specs.Pieces.{Piece}
use Rattle.html5write.specs.Pieces.Piece.{TextPiece, StartTagPiece, EndTagPiece, CommentPiece}
use Rattle.html5write.specs.Told.{KeepsOn, start_tag_told, end_tag_told}
use Rattle.html5nested.specs.PageItems.{attribute_item, items_of}

pub and-left : (a b : Bool) → (a && b) ≡ true → a ≡ true
and-left true b both = refl
and-left false b both = both

and-right : (a b : Bool) → (a && b) ≡ true → b ≡ true
and-right true b both = both
and-right false b both = absurd (false≢true both)

some-none : (item : Item) → item ∷ [] ≡ [] → ⊥
some-none item same = cc

-- a start tag that fits is of a name that is known
pub known : (stack : List (List ℕ)) (name : List ℕ) (attributes : List Attribute) → fits stack (StartTag name attributes) ≡ true → kind_of name ≡ Unknown → ⊥
known stack name attributes fit unknown =
    let item = StartTag name attributes in
    let limit = length (open_after stack item) in
    let enough : length (open_after stack item) ≤ limit = omega arith in
    some-none item (sym (item-unchanged limit stack item fit enough) ∙ unknown-start limit stack name attributes unknown)

other-name : (name raw : List ℕ) (same : Bool) → bytes_eq name raw ≡ same → (kind_of name ≡ Unknown → ⊥) → kind_of raw ≡ Unknown → same ≡ false
other-name name raw true is has unknown = absurd (has (ap kind_of (bytes_eq-same name raw is) ∙ unknown))
other-name name raw false is has unknown = refl

no-raw : (name raw : List ℕ) → (kind_of name ≡ Unknown → ⊥) → kind_of raw ≡ Unknown → bytes_eq name raw ≡ false
no-raw name raw has unknown = other-name name raw (bytes_eq name raw) refl has unknown

known-keeps_on : (name : List ℕ) → (kind_of name ≡ Unknown → ⊥) → standard_reply_to_start name ≡ KeepOn
unfolding standard_reply_to_start raw_text_in kind_of kind_in all_names is_among
known-keeps_on name has =
    rw (
      no-raw name (codes "plaintext") has refl,
      no-raw name (codes "title") has refl,
      no-raw name (codes "textarea") has refl,
      no-raw name (codes "style") has refl,
      no-raw name (codes "xmp") has refl,
      no-raw name (codes "iframe") has refl,
      no-raw name (codes "noembed") has refl,
      no-raw name (codes "noframes") has refl,
      no-raw name (codes "script") has refl,
    ) refl

module _ {S H : Type 0} (reply : S → Told → ℕ → Reply H) (follows : FollowsStandard {S = S} reply) where
  pub fitting-keeps_on : (pieces : List Piece) (stack : List (List ℕ)) → each_fits stack (items_of pieces) ≡ true → KeepsOn {S = S} reply pieces
  unfolding items_of each_fits
  fitting-keeps_on [] stack fit = tt
  fitting-keeps_on (TextPiece text ∷ pieces) stack fit =
      let item = Text (encode_utf8_all text) in
      (tt, fitting-keeps_on pieces (open_after stack item) (and-right (fits stack item) (each_fits (open_after stack item) (items_of pieces)) fit))
  fitting-keeps_on (StartTagPiece name attributes ∷ pieces) stack fit =
      let item = StartTag (encode_utf8_all name) (map attribute_item attributes) in
      let rest = each_fits (open_after stack item) (items_of pieces) in (
        λ t line. follows t (start_tag_told name attributes) line
            (known-keeps_on (encode_utf8_all name) (known stack (encode_utf8_all name) (map attribute_item attributes) (and-left (fits stack item) rest fit))),
        fitting-keeps_on pieces (open_after stack item) (and-right (fits stack item) rest fit),
      )
  fitting-keeps_on (EndTagPiece name ∷ pieces) stack fit =
      let item = EndTag (encode_utf8_all name) in (
        λ t line. follows t (end_tag_told name) line refl,
        fitting-keeps_on pieces (open_after stack item) (and-right (fits stack item) (each_fits (open_after stack item) (items_of pieces)) fit),
      )
  fitting-keeps_on (CommentPiece text ∷ pieces) stack fit = (tt, fitting-keeps_on pieces stack fit)
