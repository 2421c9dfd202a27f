-- By a sound policy with the rule `tree` what is written to fit is clean, and is kept again as it is.
use Rattle.std.proofs.Common.{◌≡◌, ℕ, Bool, true, false, List, [], ◌∷◌, ◌++◌, chars, filter, map, refl, ap, sym, ◌∙◌, subst}
use Rattle.std.specs.Prelude.{◌&&◌, codes, not, encode_utf8_all, if◌then◌else◌}
use Rattle.std.specs.List.{list_all, list_any}
use Rattle.std.specs.Str.{bytes_eq}
use Rattle.std.proofs.Math.Bool.{and-false}
use Rattle.std.proofs.lemmas.Bool.{false≢true, not-true}
use Rattle.html5ever_interface.specs.Token.{Told}
use Rattle.html5ever_interface.specs.declared.interface.token.TagKind.TheVariants as kind
use Rattle.html5elements.specs.Elements as elements
use Rattle.html5nested.specs.PageItems.{attribute_item, items_of, items_of_piece}
use Rattle.html5policy.specs.Names.{acts_on_page, always_hides, has_place, is_one_of}
use Rattle.html5policy.specs.Policy.{PolicyOf, implied_elements, is_allowed, is_rel_of_link}
use Rattle.html5policy.specs.Rules.{IsSound, may_keep}
use Rattle.html5policy.proofs.Soundness.{allowed-has_place, allowed-may_keep, implied-allowed}
use Rattle.html5tree.specs.Fitting.{is_space}
use Rattle.html5tree.specs.Items.{Attribute, Item}
use Rattle.html5tree.specs.Items.Item.{EndTag, StartTag, Text}
use Rattle.html5tree.specs.Names.{is_void, kind_of}
use Rattle.html5tree.specs.Tables.{after_space, leading_space}
use Rattle.html5tree.specs.declared.kinds.Kind.TheVariants.{Paragraph, Unknown}
use Rattle.html5write.specs.Pieces.{NameAndValue, Piece, are_distinct, can_write, has_no_null, is_attribute, is_tag_name}
use Rattle.html5write.specs.Pieces.Piece.{TextPiece, StartTagPiece, EndTagPiece, CommentPiece}
use Rattle.html5cleaner.specs.Allowed.{is_allowed_piece, is_clean, is_kept_attribute, is_written_attribute}
use Rattle.html5cleaner.specs.Balance.{AreClean, closed_at_end, end_tags, is_end, open_by, written_by}
use Rattle.html5cleaner.specs.Clean.{Cleaned, clean_step, kept_attributes, kept_where, rel_attribute}
use Rattle.html5cleaner.specs.Shape.{all_fitted, attribute_in, open_after_all, piece_in, pieces_in, shape_by_balance, shape_of}
use Rattle.html5cleaner.specs.Shape.Shape.{Tree}
use Rattle.html5cleaner.proofs.CleanBalanced.{AllClean, CanClose, all-both, are_clean-more, both, can-close-by, clean-closed}
use Rattle.html5cleaner.proofs.CleanPieces.{clean-where_shown}
use Rattle.html5cleaner.proofs.Encoded.{chars-encoded}
use Rattle.html5cleaner.proofs.FittedItems.{AllOf, IsClosed, OfElement, all-append, of-all}
use Rattle.html5cleaner.proofs.ItemPieces.{IsSame, ascii-same, end-back, end-name_of, same-end, same-front, same-pieces, same-rest, same-space, same-start, same-text, start-back, start-name_of, text-back, text-of}
use Rattle.html5cleaner.proofs.KnownNames.{ascii-chars, is_ascii_name, known-ascii, known-encoded, known-void, paragraph-name, place-known}
use Rattle.html5cleaner.proofs.Replies.{and-left, and-right}
use Rattle.html5cleaner.proofs.SpacesEncoded.{front-encoded, front-no_null, rest-encoded, rest-no_null, space-encoded, space-no_null}
use Rattle.html5cleaner.proofs.Steady.{AreSteady, IsSteady, steady-append, steady-end_tag, steady-end_tags, steady-kind, steady-shown, steady-written}

-- the piece of an item is clean, and kept again as it is
pub record IsGood (policy : PolicyOf) (item : Item) : Type 0 where
  pub same : IsSame item
  pub clean : is_clean policy (piece_in item) ≡ true
  pub steady : IsSteady policy (piece_in item)

-- ---- what is clean

allowed-start : (policy : PolicyOf) (name : List ℕ) (attributes : List NameAndValue) → is_clean policy (StartTagPiece name attributes) ≡ true
    → is_allowed policy (encode_utf8_all name) ≡ true
unfolding is_allowed_piece
allowed-start policy name attributes clean =
    and-left (is_allowed policy (encode_utf8_all name)) (list_all (is_written_attribute policy name) attributes)
    (and-left (is_allowed_piece policy (StartTagPiece name attributes)) (can_write (StartTagPiece name attributes)) clean)

allowed-end : (policy : PolicyOf) (name : List ℕ) → is_clean policy (EndTagPiece name) ≡ true
    → (is_allowed policy (encode_utf8_all name) && not (elements.is_void (encode_utf8_all name))) ≡ true
unfolding is_allowed_piece
allowed-end policy name clean = and-left (is_allowed_piece policy (EndTagPiece name)) (can_write (EndTagPiece name)) clean

clean-start : (policy : PolicyOf) (name : List ℕ) → is_allowed policy (encode_utf8_all name) ≡ true → is_tag_name name ≡ true → is_clean policy (StartTagPiece name []) ≡ true
unfolding is_allowed_piece are_distinct
clean-start policy name allowed can = rw (allowed, can) refl

clean-end : (policy : PolicyOf) (name : List ℕ) → is_allowed policy (encode_utf8_all name) ≡ true → elements.is_void (encode_utf8_all name) ≡ false → is_tag_name name ≡ true
    → is_clean policy (EndTagPiece name) ≡ true
unfolding is_allowed_piece
clean-end policy name allowed void can = rw (allowed, void, can) refl

clean-text : (policy : PolicyOf) (text : List ℕ) → has_no_null text ≡ true → is_clean policy (TextPiece text) ≡ true
unfolding is_allowed_piece
clean-text policy text whole = whole

can-start : (name : List ℕ) → is_tag_name name ≡ true → can_write (StartTagPiece name []) ≡ true
unfolding are_distinct
can-start name can = rw can refl

-- an element without attributes gets none
no-attributes : (policy : PolicyOf) (name : List ℕ) → kept_attributes policy name [] ≡ []
unfolding kept_attributes
no-attributes policy name = ap (λ (b : Bool). if b then rel_attribute policy ∷ [] else []) (and-false (is_rel_of_link policy (encode_utf8_all name) (codes "rel")))

module _ (policy : PolicyOf) (sound : IsSound policy) (tree : policy.tree ≡ true) where
  -- ---- texts

  good-text : (text : List ℕ) → has_no_null text ≡ true → IsGood policy (Text (encode_utf8_all text))
  good-text text whole = record {
    same = same-text text;
    clean = ap (λ l. is_clean policy (TextPiece l)) (chars-encoded text) ∙ clean-text policy text whole;
    steady = ap has_no_null (chars-encoded text) ∙ whole;
  }

  good-front : (text : List ℕ) → IsGood policy (Text text) → IsGood policy (Text (leading_space text))
  good-front text good =
      subst (λ l. IsGood policy (Text l)) (sym (ap leading_space (sym (text-of text good.same)) ∙ front-encoded (chars text)))
      (good-text (leading_space (chars text)) (front-no_null (chars text) good.steady))

  good-rest : (text : List ℕ) → IsGood policy (Text text) → IsGood policy (Text (after_space text))
  good-rest text good =
      subst (λ l. IsGood policy (Text l)) (sym (ap after_space (sym (text-of text good.same)) ∙ rest-encoded (chars text)))
      (good-text (after_space (chars text)) (rest-no_null (chars text) good.steady))

  good-space : (text : List ℕ) → IsGood policy (Text text) → IsGood policy (Text (filter is_space text))
  good-space text good =
      subst (λ l. IsGood policy (Text l)) (sym (ap (filter is_space) (sym (text-of text good.same)) ∙ space-encoded (chars text)))
      (good-text (filter is_space (chars text)) (space-no_null (chars text) good.steady))

  -- ---- tags of elements that are kept

  allowed-known : (name : List ℕ) → is_allowed policy name ≡ true → kind_of name ≡ Unknown → ⊥
  allowed-known name allowed = place-known name (allowed-has_place policy name sound tree allowed)

  allowed-ascii : (name : List ℕ) → is_allowed policy name ≡ true → is_ascii_name name ≡ true
  allowed-ascii name allowed = known-ascii name (allowed-known name allowed)

  allowed-chars : (name : List ℕ) → is_allowed policy name ≡ true → is_allowed policy (encode_utf8_all (chars name)) ≡ true
  allowed-chars name allowed = ap (is_allowed policy) (ascii-same name (allowed-ascii name allowed)) ∙ allowed

  named-tag : (name : List ℕ) → is_allowed policy name ≡ true → is_tag_name (chars name) ≡ true
  named-tag name allowed =
      and-left (is_tag_name (chars name)) (not (always_hides name) && (not (acts_on_page name) && not (is_one_of policy.hidden name)))
      (allowed-may_keep policy name sound allowed)

  good-start : (name : List ℕ) → is_allowed policy name ≡ true → IsGood policy (StartTag name [])
  good-start name allowed = record {
    same = same-start name (ascii-same name (allowed-ascii name allowed));
    clean = clean-start policy (chars name) (allowed-chars name allowed) (named-tag name allowed);
    steady = steady-kind policy sound kind.StartTag (chars name) [] (no-attributes policy (chars name)) (allowed-chars name allowed) (can-start (chars name) (named-tag name allowed));
  }

  good-end : (name : List ℕ) → is_allowed policy name ≡ true → elements.is_void name ≡ false → IsGood policy (EndTag name)
  good-end name allowed void =
      let clean = clean-end policy (chars name) (allowed-chars name allowed) (ap elements.is_void (ascii-same name (allowed-ascii name allowed)) ∙ void) (named-tag name allowed) in
      record {
        same = same-end name (ascii-same name (allowed-ascii name allowed));
        clean = clean;
        steady = steady-end_tag policy sound (chars name) clean;
      }

  good-element : (name : List ℕ) → is_allowed policy name ≡ true → elements.is_void name ≡ false → OfElement (IsGood policy) name
  good-element name allowed void = (good-start name allowed, good-end name allowed void)

  -- an element whose tag is good is kept
  start-allowed : (name : List ℕ) (attributes : List Attribute) → IsGood policy (StartTag name attributes) → is_allowed policy name ≡ true
  start-allowed name attributes good =
      ap (is_allowed policy) (sym (start-name_of name attributes good.same)) ∙ allowed-start policy (chars name) (map attribute_in attributes) good.clean

  end-allowed : (name : List ℕ) → IsGood policy (EndTag name) → is_allowed policy name ≡ true
  end-allowed name good =
      ap (is_allowed policy) (sym (end-name_of name good.same))
      ∙ and-left (is_allowed policy (encode_utf8_all (chars name))) (not (elements.is_void (encode_utf8_all (chars name)))) (allowed-end policy (chars name) good.clean)

  good-opened : (name : List ℕ) (attributes : List Attribute) → IsGood policy (StartTag name attributes) → is_void (kind_of name) ≡ false → IsGood policy (EndTag name)
  good-opened name attributes good void =
      let allowed = start-allowed name attributes good in
      good-end name allowed (known-void name (allowed-known name allowed) ∙ void)

  paragraph-void : elements.is_void (codes "p") ≡ false
  unfolding elements.is_void
  paragraph-void = refl

  good-paragraph : (name : List ℕ) → kind_of name ≡ Paragraph → IsGood policy (EndTag name) → OfElement (IsGood policy) (codes "p")
  good-paragraph name is good = good-element (codes "p") (ap (is_allowed policy) (sym (paragraph-name name is)) ∙ end-allowed name good) paragraph-void

  -- those that a browser makes
  good-implied : (name : List ℕ) → is_one_of implied_elements name ≡ true → elements.is_void name ≡ false → OfElement (IsGood policy) name
  good-implied name one void = good-element name (implied-allowed policy name sound tree one) void

  good-closed : IsClosed (IsGood policy)
  unfolding is_one_of implied_elements elements.is_void
  good-closed = record {
    front = good-front;
    rest = good-rest;
    space = good-space;
    group = good-implied (codes "colgroup") refl refl;
    body = good-implied (codes "tbody") refl refl;
    row = good-implied (codes "tr") refl refl;
    cell = good-implied (codes "td") refl refl;
    opens = good-opened;
    paragraph = good-paragraph;
    break = λ good. good-start (codes "br") (end-allowed (codes "br") good);
  }

  -- ---- pieces that are kept

  good-piece : (piece : Piece) → is_clean policy piece ≡ true → IsSteady policy piece → AllOf (IsGood policy) (items_of_piece piece)
  good-piece (TextPiece text) clean steady = (good-text text steady, tt)
  good-piece (StartTagPiece name attributes) clean steady = (
    record {
      same = ap items_of_piece (start-back name attributes);
      clean = ap (is_clean policy) (start-back name attributes) ∙ clean;
      steady = subst (λ p. IsSteady policy p) (sym (start-back name attributes)) steady;
    },
    tt,
  )
  good-piece (EndTagPiece name) clean steady = (
    record {
      same = ap items_of_piece (end-back name);
      clean = ap (is_clean policy) (end-back name) ∙ clean;
      steady = subst (λ p. IsSteady policy p) (sym (end-back name)) steady;
    },
    tt,
  )
  good-piece (CommentPiece text) clean steady = tt

  good-pieces : (pieces : List Piece) → AllClean policy pieces → AreSteady policy pieces → AllOf (IsGood policy) (items_of pieces)
  unfolding items_of
  good-pieces [] clean steady = tt
  good-pieces (piece ∷ pieces) clean steady =
      all-append (IsGood policy) (items_of_piece piece) (items_of pieces)
      (good-piece piece (and-left (is_clean policy piece) (list_all (is_clean policy) pieces) clean) steady.0)
      (good-pieces pieces (and-right (is_clean policy piece) (list_all (is_clean policy) pieces) clean) steady.1)

  -- ---- open elements

  good-name : (name : List ℕ) → is_clean policy (EndTagPiece name) ≡ true → IsGood policy (EndTag name)
  good-name name clean =
      let both = allowed-end policy name clean in
      let allowed = and-left (is_allowed policy (encode_utf8_all name)) (not (elements.is_void (encode_utf8_all name))) both in
      let void = not-true (elements.is_void (encode_utf8_all name)) (and-right (is_allowed policy (encode_utf8_all name)) (not (elements.is_void (encode_utf8_all name))) both) in
      subst (λ n. IsGood policy (EndTag n)) (known-encoded name (allowed-known (encode_utf8_all name) allowed)) (good-end (encode_utf8_all name) allowed void)

  good-names : (opened : List (List ℕ)) → CanClose policy opened → AllOf (λ name. IsGood policy (EndTag name)) opened
  good-names [] can = tt
  good-names (name ∷ opened) can = (
    good-name name (and-left (is_clean policy (EndTagPiece name)) (list_all (is_clean policy) (end_tags opened)) can),
    good-names opened (and-right (is_clean policy (EndTagPiece name)) (list_all (is_clean policy) (end_tags opened)) can),
  )

  clean-name : (name : List ℕ) → IsGood policy (EndTag name) → is_clean policy (EndTagPiece name) ≡ true
  clean-name name good = ap (λ n. is_clean policy (EndTagPiece n)) (sym (ascii-chars name (allowed-ascii name (end-allowed name good)))) ∙ good.clean

  names-close : (opened : List (List ℕ)) → AllOf (λ name. IsGood policy (EndTag name)) opened → CanClose policy opened
  names-close [] good = refl
  names-close (name ∷ opened) good =
      both (is_clean policy (EndTagPiece name)) (list_all (is_clean policy) (end_tags opened)) (clean-name name good.0) (names-close opened good.1)

  -- ---- what is written

  good-clean : (items : List Item) → AllOf (IsGood policy) items → AllClean policy (pieces_in items)
  good-clean [] good = refl
  good-clean (item ∷ items) good =
      both (is_clean policy (piece_in item)) (list_all (is_clean policy) (pieces_in items)) good.0.clean (good-clean items good.1)

  good-steady : (items : List Item) → AllOf (IsGood policy) items → AreSteady policy (pieces_in items)
  good-steady [] good = tt
  good-steady (item ∷ items) good = (good.0.steady, good-steady items good.1)

  -- the output for kept pieces, and the elements open after them
  abbrev pub IsKeptWell : List Piece → List (List ℕ) → Type 0
  IsKeptWell pieces opened = AllClean policy pieces × (AreSteady policy pieces × CanClose policy opened)

  fitted-all : (limit : ℕ) (opened : List (List ℕ)) (pieces : List Piece) → CanClose policy opened → AllClean policy pieces → AreSteady policy pieces
      → AllOf (IsGood policy) (all_fitted limit opened (items_of pieces)) × AllOf (λ name. IsGood policy (EndTag name)) (open_after_all limit opened (items_of pieces))
  fitted-all limit opened pieces can clean steady =
      of-all (IsGood policy) good-closed limit opened (items_of pieces) (good-names opened can) (good-pieces pieces clean steady)

  pub well-fitted : (limit : ℕ) (ends : Bool) (opened : List (List ℕ)) (pieces : List Piece) → CanClose policy opened → AllClean policy pieces → AreSteady policy pieces
      → IsKeptWell (written_by (Tree limit) ends opened pieces) (open_by (Tree limit) ends opened pieces)
  unfolding written_by open_by
  well-fitted limit true opened pieces can clean steady =
      let all = fitted-all limit opened pieces can clean steady in
      let after : List (List ℕ) = open_after_all limit opened (items_of pieces) in
      let close = names-close after all.1 in (
        all-both (is_clean policy) (pieces_in (all_fitted limit opened (items_of pieces))) (end_tags after) (good-clean (all_fitted limit opened (items_of pieces)) all.0) close,
        (
          steady-append policy (pieces_in (all_fitted limit opened (items_of pieces))) (end_tags after) (good-steady (all_fitted limit opened (items_of pieces)) all.0)
              (steady-end_tags policy sound after close),
          refl,
        ),
      )
  well-fitted limit false opened pieces can clean steady =
      let all = fitted-all limit opened pieces can clean steady in
      let after : List (List ℕ) = open_after_all limit opened (items_of pieces) in (
        all-both (is_clean policy) (pieces_in (all_fitted limit opened (items_of pieces))) [] (good-clean (all_fitted limit opened (items_of pieces)) all.0) refl,
        (
          steady-append policy (pieces_in (all_fitted limit opened (items_of pieces))) [] (good-steady (all_fitted limit opened (items_of pieces)) all.0) tt,
          names-close after all.1,
        ),
      )

-- ---- by the shape of a page

-- a policy with the rule `tree` is sound
abbrev pub IsSoundTree : PolicyOf → Type 0
IsSoundTree policy = policy.tree ≡ true → IsSound policy

clean-shaped : (policy : PolicyOf) (tree : Bool) → policy.tree ≡ tree → (tree ≡ true → IsSound policy) → (ends : Bool) (before : List Piece) (opened : List (List ℕ)) (pieces : List Piece)
    → AreClean policy before opened → AllClean policy pieces → (IsSound policy → AreSteady policy pieces)
    → AreClean policy (before ++ written_by (if tree then Tree policy.depth else shape_by_balance policy.balance) ends opened pieces)
    (open_by (if tree then Tree policy.depth else shape_by_balance policy.balance) ends opened pieces)
clean-shaped policy true is sound ends before opened pieces are clean steady =
    let well = well-fitted policy (sound refl) is policy.depth ends opened pieces are.closing clean (steady (sound refl)) in
    record {
      written = all-both (is_clean policy) before (written_by (Tree policy.depth) ends opened pieces) are.written well.0;
      closing = well.1.1;
    }
clean-shaped policy false is sound ends before opened pieces are clean steady = are_clean-more policy policy.balance ends before opened pieces are clean

-- a page that was clean is clean after each run of text and token
pub are_clean-step : (s : Cleaned) (run : List ℕ) (told : Told) (line : ℕ) → IsSoundTree s.policy → AreClean s.policy s.pieces s.opened
    → AreClean s.policy (clean_step s run told line).pieces (clean_step s run told line).opened
are_clean-step s run told line sound are =
    clean-shaped s.policy s.policy.tree refl sound (is_end told) s.pieces s.opened (kept_where s.policy s.hidden.depth run told) are (clean-where_shown s.policy s.hidden.depth run told)
    (λ all. steady-shown s.policy all s.hidden.depth run told)

-- the same, with names of their own for the output and the open elements
pub are_clean-now : (policy : PolicyOf) (depth : ℕ) (run : List ℕ) (told : Told) (before after : List Piece) (opened elements : List (List ℕ)) → IsSound policy
    → after ≡ before ++ written_by (shape_of policy) (is_end told) opened (kept_where policy depth run told)
    → elements ≡ open_by (shape_of policy) (is_end told) opened (kept_where policy depth run told)
    → AreClean policy before opened → AreClean policy after elements
are_clean-now policy depth run told before after opened elements sound is now are =
    let more = clean-shaped policy policy.tree refl (λ tree. sound) (is_end told) before opened (kept_where policy depth run told) are (clean-where_shown policy depth run told)
    (λ all. steady-shown policy all depth run told) in
    record { written = ap (list_all (is_clean policy)) is ∙ more.written; closing = ap (λ (o : List (List ℕ)). list_all (is_clean policy) (end_tags o)) now ∙ more.closing }

-- ---- what stays

-- what is written is kept again as it is, and so are the end tags of the open elements
steady-shaped : (policy : PolicyOf) (tree : Bool) → policy.tree ≡ tree → IsSound policy → (ends : Bool) (opened : List (List ℕ)) (pieces : List Piece) → CanClose policy opened
    → AllClean policy pieces → AreSteady policy pieces
    → AreSteady policy (written_by (if tree then Tree policy.depth else shape_by_balance policy.balance) ends opened pieces)
    × CanClose policy (open_by (if tree then Tree policy.depth else shape_by_balance policy.balance) ends opened pieces)
steady-shaped policy true is sound ends opened pieces can clean steady =
    let well = well-fitted policy sound is policy.depth ends opened pieces can clean steady in
    (well.1.0, well.1.1)
steady-shaped policy false is sound ends opened pieces can clean steady =
    (steady-written policy sound policy.balance ends opened pieces can clean steady, can-close-by policy policy.balance ends opened pieces can clean)

pub steady-step : (policy : PolicyOf) → IsSound policy → (depth : ℕ) (run : List ℕ) (told : Told) (opened : List (List ℕ)) → CanClose policy opened
    → AreSteady policy (written_by (shape_of policy) (is_end told) opened (kept_where policy depth run told))
    × CanClose policy (open_by (shape_of policy) (is_end told) opened (kept_where policy depth run told))
steady-step policy sound depth run told opened can =
    steady-shaped policy policy.tree refl sound (is_end told) opened (kept_where policy depth run told) can (clean-where_shown policy depth run told)
    (steady-shown policy sound depth run told)
