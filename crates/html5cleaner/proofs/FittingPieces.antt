-- Pieces that fit in the tree of a page.
use Rattle.std.proofs.Common.{◌≡◌, ℕ, ◌≤◌, ◌<◌, true, false, List, [], ◌∷◌, ◌++◌, Ok, chars, drop, length, map, refl, ap, sym, ◌∙◌, subst, arith}
use Rattle.std.specs.Prelude.{encode_utf8_all, if◌then◌else◌}
use Rattle.std.specs.Str.{IsUtf8}
use Rattle.std.proofs.lemmas.Str.{encodes-chars}
use Rattle.html5nested.specs.PageItems.{attribute_item}
use Rattle.html5tree.specs.ElementNames.{name_of}
use Rattle.html5tree.specs.Fitting.{fits, open_after, without_top}
use Rattle.html5tree.specs.Items.{Attribute, Item}
use Rattle.html5tree.specs.Items.Item.{EndTag, StartTag, Text}
use Rattle.html5tree.specs.Names.{is_void, kind_of}
use Rattle.html5tree.specs.Nested.{Nested}
use Rattle.html5tree.specs.Normal.{open_after_fitted}
use Rattle.html5tree.specs.declared.names.ElementName.{ElementName}
use Rattle.html5tree.proofs.Normalising.{unchanged-item}
use Rattle.html5tree.proofs.RightPlans.{IsFitting}
use Rattle.html5tree.proofs.RightPlans.IsFitting.{Done, Next}
use Rattle.html5write.specs.Pieces.{NameAndValue, Piece}
use Rattle.html5write.specs.Pieces.Piece.{TextPiece, StartTagPiece, EndTagPiece}
use Rattle.html5cleaner.specs.Balance.{open_by, written_by}
use Rattle.html5cleaner.specs.Fits.{ComesFirst, Fits, IsFit}
use Rattle.html5cleaner.specs.Kept.{Settles}
use Rattle.html5cleaner.specs.Settled.{settled, undone}
use Rattle.html5cleaner.specs.Shape.Shape.{Tree}
use Rattle.html5cleaner.specs.declared.fitting.Fit.{Fit}
use Rattle.html5cleaner.specs.declared.fitting.Fit.TheVariants.{Unfit, Stays, Opens, Closes}
use Rattle.html5cleaner.specs.declared.opened.Opened.{Opened}
use Rattle.html5cleaner.specs.declared.opened.Pending.{Pending}
use Rattle.html5cleaner.proofs.ShapeRuns.{TextFits, shaped-alone, shaped-nothing, tree-open_where, tree-run_where}

-- ---- what comes first

pub first-none : (nested : Nested) → ComesFirst nested []
first-none nested = record { written = λ later. refl; opened_after = λ later. refl }

pub first-text : (nested : Nested) (text : List ℕ) → IsUtf8 text → fits nested.opened (Text text) ≡ true → length nested.opened ≤ nested.limit
    → ComesFirst nested (TextPiece (chars text) ∷ [])
first-text nested text good f l =
    let fit : TextFits (Tree nested.limit) nested.opened (chars text) = (ap (λ b. fits nested.opened (Text b)) (encodes-chars text good) ∙ f, l) in
    record {
      written = λ later. tree-run_where nested.limit false nested.opened (chars text) true later fit;
      opened_after = λ later. tree-open_where nested.limit false nested.opened (chars text) true later fit;
    }

-- ---- tags

pub fits-nothing : (nested : Nested) → Fits nested.limit nested.opened [] nested.opened
fits-nothing nested =
    let none = shaped-nothing (Tree nested.limit) nested.opened in
    record { written = none.0; opened_after = none.1 }

abbrev item_of : List ℕ → List NameAndValue → Item
item_of name attributes = StartTag name (map attribute_item attributes)

after-void : (opened : List (List ℕ)) (name : List ℕ) (attributes : List Attribute) → is_void (kind_of name) ≡ true → open_after opened (StartTag name attributes) ≡ opened
unfolding open_after
after-void opened name attributes void = ap (λ b. if b then opened else name ∷ opened) void

after-element : (opened : List (List ℕ)) (name : List ℕ) (attributes : List Attribute) → is_void (kind_of name) ≡ false
    → open_after opened (StartTag name attributes) ≡ name ∷ opened
unfolding open_after
after-element opened name attributes void = ap (λ b. if b then opened else name ∷ opened) void

start-fits : (limit : ℕ) (opened after : List (List ℕ)) (name : List ℕ) (attributes : List NameAndValue) → IsUtf8 name → fits opened (item_of name attributes) ≡ true
    → open_after opened (item_of name attributes) ≡ after → length after ≤ limit → Fits limit opened (StartTagPiece (chars name) attributes ∷ []) after
start-fits limit opened after name attributes good f is l =
    let item : Item = item_of name attributes in
    let fit : IsFitting limit opened (item ∷ []) (open_after opened item) = Next item f (subst (λ (o : List (List ℕ)). length o ≤ limit) (sym is) l) Done in
    let goes : IsFitting limit opened (item_of (encode_utf8_all (chars name)) attributes ∷ []) after =
    subst (λ n. IsFitting limit opened (item_of n attributes ∷ []) after) (sym (encodes-chars name good))
    (subst (λ (o : List (List ℕ)). IsFitting limit opened (item ∷ []) o) is fit) in
    let alone = shaped-alone (Tree limit) opened after (StartTagPiece (chars name) attributes) tt goes in
    record { written = alone.0; opened_after = alone.1.0 }

-- a start tag fits whatever its attributes are
abbrev pub StartFits : Nested → List ℕ → Type 0
StartFits nested name = (attributes : List Attribute) → fits nested.opened (StartTag name attributes) ≡ true

pub start-stays : (nested : Nested) (name : List ℕ) (attributes : List NameAndValue) → IsUtf8 name → StartFits nested name → is_void (kind_of name) ≡ true
    → length nested.opened ≤ nested.limit → IsFit Stays nested (StartTagPiece (chars name) attributes ∷ [])
start-stays nested name attributes good f void l =
    start-fits nested.limit nested.opened nested.opened name attributes good (f (map attribute_item attributes))
    (after-void nested.opened name (map attribute_item attributes) void) l

pub start-opens : (nested : Nested) (element : ElementName) (name : List ℕ) (attributes : List NameAndValue) → name_of element ≡ name → IsUtf8 name → StartFits nested name
    → is_void (kind_of name) ≡ false → length nested.opened < nested.limit → IsFit (Opens element) nested (StartTagPiece (chars name) attributes ∷ [])
start-opens nested element name attributes is good f void l =
    let opened : List (List ℕ) = nested.opened in
    let m : length (name ∷ opened) ≤ nested.limit = omega (arith, l) in
    let after : open_after opened (StartTag name []) ≡ name ∷ opened = after-element opened name [] void in
    let one = unchanged-item nested.limit opened (StartTag name []) (f []) (subst (λ (o : List (List ℕ)). length o ≤ nested.limit) (sym after) m) in
    subst (λ n. Fits nested.limit opened (StartTagPiece (chars name) attributes ∷ []) (n ∷ opened) × (open_after_fitted nested.limit opened (StartTag n []) ≡ n ∷ opened)) (sym is) (
      start-fits nested.limit opened (name ∷ opened) name attributes good (f (map attribute_item attributes)) (after-element opened name (map attribute_item attributes) void) m,
      one.after_is ∙ after,
    )

top-dropped : (opened : List (List ℕ)) → without_top opened ≡ drop 1 opened
top-dropped [] = refl
top-dropped (name ∷ opened) = refl

top-short : (limit : ℕ) (opened : List (List ℕ)) → length opened ≤ limit → length (drop 1 opened) ≤ limit
top-short limit [] l = l
top-short limit (name ∷ opened) l = omega (arith, l)

pub end-closes : (nested : Nested) (name : List ℕ) → IsUtf8 name → fits nested.opened (EndTag name) ≡ true → length nested.opened ≤ nested.limit
    → IsFit Closes nested (EndTagPiece (chars name) ∷ [])
unfolding open_after
end-closes nested name good f l =
    let opened : List (List ℕ) = nested.opened in
    let is : open_after opened (EndTag name) ≡ drop 1 opened = top-dropped opened in
    let fit : IsFitting nested.limit opened (EndTag name ∷ []) (open_after opened (EndTag name)) =
    Next (EndTag name) f (subst (λ (o : List (List ℕ)). length o ≤ nested.limit) (sym is) (top-short nested.limit opened l)) Done in
    let goes : IsFitting nested.limit opened (EndTag (encode_utf8_all (chars name)) ∷ []) (drop 1 opened) =
    subst (λ n. IsFitting nested.limit opened (EndTag n ∷ []) (drop 1 opened)) (sym (encodes-chars name good))
    (subst (λ (o : List (List ℕ)). IsFitting nested.limit opened (EndTag name ∷ []) o) is fit) in
    let alone = shaped-alone (Tree nested.limit) opened (drop 1 opened) (EndTagPiece (chars name)) tt goes in
    record { written = alone.0; opened_after = alone.1.0 }

-- ---- a run and the tag after it

both-fit : (nested : Nested) (run tag : List Piece) (after : List (List ℕ)) → ComesFirst nested run → Fits nested.limit nested.opened tag after
    → Fits nested.limit nested.opened (run ++ tag) after
both-fit nested run tag after first fit = record {
  written = first.written tag ∙ ap (λ l. run ++ l) fit.written;
  opened_after = first.opened_after tag ∙ fit.opened_after;
}

pub fit-both : (fit : Fit) (nested : Nested) (run tag : List Piece) → ComesFirst nested run → IsFit fit nested tag → IsFit fit nested (run ++ tag)
fit-both Unfit nested run tag first is = tt
fit-both Stays nested run tag first is = both-fit nested run tag nested.opened first is
fit-both (Opens name) nested run tag first is = (both-fit nested run tag (name_of name ∷ nested.opened) first is.0, is.1)
fit-both Closes nested run tag first is = both-fit nested run tag (drop 1 nested.opened) first is

-- ---- what calls that write them answer

pub settles-fit : {Z : Type 0} (pending : Pending) (before after : List Piece) (was now : Opened Z) (pieces : List Piece) (opened : List (List ℕ))
    → Fits was.tree.limit was.tree.opened pieces opened → after ≡ before ++ pieces → (undone pending now).tree.opened ≡ was.tree.opened
    → (settled pending now).tree.opened ≡ opened → (undone pending now).tree.limit ≡ was.tree.limit → (settled pending now).tree.limit ≡ was.tree.limit
    → Settles (Tree was.tree.limit) (Ok pending) before after was now (written_by (Tree was.tree.limit) false was.tree.opened pieces)
    (open_by (Tree was.tree.limit) false was.tree.opened pieces)
settles-fit pending before after was now pieces opened fit stands back done limit_back limit_done = record {
  written = stands ∙ ap (λ l. before ++ l) (sym fit.written);
  taken_back = back;
  done = done ∙ sym fit.opened_after;
  unchanged = tt;
  unopened = tt;
  limit_undone = limit_back;
  limit_done = limit_done;
  limit_unopened = tt;
}
