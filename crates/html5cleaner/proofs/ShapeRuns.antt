-- What is written of a run of text and of a piece that goes, by the shape of a page.
use Rattle.std.proofs.Common.{◌≡◌, ℕ, ◌≤◌, Bool, true, false, List, [], ◌∷◌, ◌++◌, chars, length, map, refl, ap, sym, ◌∙◌, subst, arith}
use Rattle.std.specs.Prelude.{encode_utf8, encode_utf8_all, if◌then◌else◌}
use Rattle.std.specs.List.{list_all}
use Rattle.std.proofs.lemmas.Bool.{and_from, and_parts}
use Rattle.std.proofs.lemmas.List.{append-nil}
use Rattle.std.proofs.lemmas.List.Folds.{list_all-append}
use Rattle.std.proofs.lemmas.Str.{encodes-append}
use Rattle.html5nested.specs.PageItems.{attribute_item, items_of, items_of_piece}
use Rattle.html5tree.specs.Fitting.{fits, holds_parts, is_space, open_after}
use Rattle.html5tree.specs.Items.{Item}
use Rattle.html5tree.specs.Items.Item.{EndTag, StartTag, Text}
use Rattle.html5tree.specs.Normal.{fitted, open_after_fitted}
use Rattle.html5tree.specs.Scopes.{kind_on_top}
use Rattle.html5tree.proofs.Normalising.{unchanged-item}
use Rattle.html5tree.proofs.RightPlans.{IsFitting}
use Rattle.html5tree.proofs.RightPlans.IsFitting.{Done, Next}
use Rattle.html5write.specs.Pieces.{Piece, has_no_null}
use Rattle.html5write.specs.Pieces.Piece.{TextPiece, StartTagPiece, EndTagPiece, CommentPiece}
use Rattle.html5cleaner.specs.Balance.{all_balanced, all_open_after, balanced, closed_at_end, end_tags, open_by, written_by}
use Rattle.html5cleaner.specs.Clean.{kept_of_run}
use Rattle.html5cleaner.specs.Shape.{Shape, all_fitted, open_after_all, piece_in, pieces_in}
use Rattle.html5cleaner.specs.Shape.Shape.{AsKept, Balanced, Tree}
use Rattle.html5cleaner.proofs.Balancing.{AllGo, Goes, nested-balanced, nested-open}
use Rattle.html5cleaner.proofs.Encoded.{chars-encoded}
use Rattle.html5cleaner.proofs.ItemPieces.{end-back, start-back, text-back}
use Rattle.html5cleaner.proofs.WrittenRuns.{go-none, open-run, written-run}

-- ---- texts that fit

-- a text goes where these are open
abbrev pub TextFits : Shape → List (List ℕ) → List ℕ → Type 0
TextFits (Tree limit) opened text = (fits opened (Text (encode_utf8_all text)) ≡ true) × (length opened ≤ limit)
TextFits other opened text = Unit {0}

-- no more elements are open than the limit
abbrev pub IsShort : Shape → List (List ℕ) → Type 0
IsShort (Tree limit) opened = length opened ≤ limit
IsShort other opened = Unit {0}

fits-none : (opened : List (List ℕ)) → fits opened (Text []) ≡ true
unfolding fits
fits-none opened = at (holds_parts (kind_on_top opened))
  where
    at : (b : Bool) → (if b then list_all is_space [] else true) ≡ true
    at true = refl
    at false = refl

fits-both : (opened : List (List ℕ)) (a b : List ℕ) → fits opened (Text a) ≡ true → fits opened (Text b) ≡ true → fits opened (Text (a ++ b)) ≡ true
unfolding fits
fits-both opened a b f g = at (holds_parts (kind_on_top opened)) f g
  where
    at : (h : Bool) → (if h then list_all is_space a else true) ≡ true → (if h then list_all is_space b else true) ≡ true
        → (if h then list_all is_space (a ++ b) else true) ≡ true
    at true x y = list_all-append is_space a b ∙ and_from (list_all is_space a) (list_all is_space b) x y
    at false x y = refl

fits-parts : (opened : List (List ℕ)) (a b : List ℕ) → fits opened (Text (a ++ b)) ≡ true → (fits opened (Text a) ≡ true) × (fits opened (Text b) ≡ true)
unfolding fits
fits-parts opened a b f = at (holds_parts (kind_on_top opened)) f
  where
    at : (h : Bool) → (if h then list_all is_space (a ++ b) else true) ≡ true
        → ((if h then list_all is_space a else true) ≡ true) × ((if h then list_all is_space b else true) ≡ true)
    at true x = and_parts (list_all is_space a) (list_all is_space b) (sym (list_all-append is_space a b) ∙ x)
    at false x = (refl, refl)

pub none-fits : (shape : Shape) (opened : List (List ℕ)) → IsShort shape opened → TextFits shape opened []
none-fits AsKept opened short = tt
none-fits Balanced opened short = tt
none-fits (Tree limit) opened short = (fits-none opened, short)

pub first-fits : (shape : Shape) (opened : List (List ℕ)) (c : ℕ) (text : List ℕ) → TextFits shape opened (c ∷ text) → TextFits shape opened (c ∷ [])
first-fits AsKept opened c text fit = tt
first-fits Balanced opened c text fit = tt
first-fits (Tree limit) opened c text fit =
    (ap (λ l. fits opened (Text l)) (append-nil (encode_utf8 c)) ∙ (fits-parts opened (encode_utf8 c) (encode_utf8_all text) fit.0).0, fit.1)

pub later-fits : (shape : Shape) (opened : List (List ℕ)) (c : ℕ) (text : List ℕ) → TextFits shape opened (c ∷ text) → TextFits shape opened text
later-fits AsKept opened c text fit = tt
later-fits Balanced opened c text fit = tt
later-fits (Tree limit) opened c text fit = ((fits-parts opened (encode_utf8 c) (encode_utf8_all text) fit.0).1, fit.1)

pub both-fit : (shape : Shape) (opened : List (List ℕ)) (text more : List ℕ) → TextFits shape opened text → TextFits shape opened more → TextFits shape opened (text ++ more)
both-fit AsKept opened text more f g = tt
both-fit Balanced opened text more f g = tt
both-fit (Tree limit) opened text more f g =
    (ap (λ l. fits opened (Text l)) (encodes-append text more) ∙ fits-both opened (encode_utf8_all text) (encode_utf8_all more) f.0 g.0, f.1)

tree-text : (limit : ℕ) (opened after : List (List ℕ)) (text : List ℕ) → IsFitting limit opened (Text text ∷ []) after
    → ((fits opened (Text text) ≡ true) × (length opened ≤ limit)) × (opened ≡ after)
unfolding open_after
tree-text limit opened after text (Next i f l Done) = ((f, l), refl)

-- a text that goes fits, and opens and closes nothing
pub text-goes : (shape : Shape) (opened after : List (List ℕ)) (text : List ℕ) → Goes shape opened (TextPiece text) after → TextFits shape opened text × (opened ≡ after)
text-goes AsKept opened after text goes = (tt, goes)
text-goes Balanced opened after text goes = (tt, goes)
text-goes (Tree limit) opened after text goes = tree-text limit opened after (encode_utf8_all text) goes

-- ---- a run of text

-- an item that fits is written as it is
one-written : (limit : ℕ) (opened : List (List ℕ)) (item : Item) (items : List Item) (ends : Bool) → fits opened item ≡ true → length (open_after opened item) ≤ limit
    → pieces_in (all_fitted limit opened (item ∷ items)) ++ closed_at_end ends (open_after_all limit opened (item ∷ items))
    ≡ piece_in item ∷ (pieces_in (all_fitted limit (open_after opened item) items) ++ closed_at_end ends (open_after_all limit (open_after opened item) items))
unfolding all_fitted open_after_all
one-written limit opened item items ends f l =
    let u = unchanged-item limit opened item f l in
    λ i. pieces_in (u.fitted_is i ++ all_fitted limit (u.after_is i) items) ++ closed_at_end ends (open_after_all limit (u.after_is i) items)

one-open : (limit : ℕ) (opened : List (List ℕ)) (item : Item) (items : List Item) → fits opened item ≡ true → length (open_after opened item) ≤ limit
    → open_after_all limit opened (item ∷ items) ≡ open_after_all limit (open_after opened item) items
unfolding open_after_all
one-open limit opened item items f l = ap (λ o. open_after_all limit o items) (unchanged-item limit opened item f l).after_is

pub tree-run_where : (limit : ℕ) (ends : Bool) (opened : List (List ℕ)) (text : List ℕ) (writable : Bool) (later : List Piece) → TextFits (Tree limit) opened text
    → written_by (Tree limit) ends opened ((if writable then TextPiece text ∷ [] else []) ++ later)
    ≡ (if writable then TextPiece text ∷ [] else []) ++ written_by (Tree limit) ends opened later
unfolding written_by items_of open_after
tree-run_where limit ends opened text true later fit =
    one-written limit opened (Text (encode_utf8_all text)) (items_of later) ends fit.0 fit.1
    ∙ ap (λ p. p ∷ (pieces_in (all_fitted limit opened (items_of later)) ++ closed_at_end ends (open_after_all limit opened (items_of later)))) (text-back text)
tree-run_where limit ends opened text false later fit = refl

pub tree-open_where : (limit : ℕ) (ends : Bool) (opened : List (List ℕ)) (text : List ℕ) (writable : Bool) (later : List Piece) → TextFits (Tree limit) opened text
    → open_by (Tree limit) ends opened ((if writable then TextPiece text ∷ [] else []) ++ later) ≡ open_by (Tree limit) ends opened later
unfolding open_by items_of open_after
tree-open_where limit ends opened text true later fit =
    ap (λ (o : List (List ℕ)). if ends then [] else o) (one-open limit opened (Text (encode_utf8_all text)) (items_of later) fit.0 fit.1)
tree-open_where limit ends opened text false later fit = refl

-- the characters of a run
run-text : (run text : List ℕ) → run ≡ encode_utf8_all text → text ≡ chars run
run-text run text is = sym (ap chars is ∙ chars-encoded text)

tree-run : (limit : ℕ) (ends : Bool) (opened : List (List ℕ)) (run text : List ℕ) (later : List Piece) → run ≡ encode_utf8_all text → TextFits (Tree limit) opened text
    → written_by (Tree limit) ends opened (kept_of_run run ++ later) ≡ kept_of_run run ++ written_by (Tree limit) ends opened later
unfolding kept_of_run
tree-run limit ends opened [] text later is fit = refl
tree-run limit ends opened (byte ∷ run) text later is fit =
    tree-run_where limit ends opened (chars (byte ∷ run)) (has_no_null (chars (byte ∷ run))) later (subst (λ t. TextFits (Tree limit) opened t) (run-text (byte ∷ run) text is) fit)

tree-open : (limit : ℕ) (ends : Bool) (opened : List (List ℕ)) (run text : List ℕ) (later : List Piece) → run ≡ encode_utf8_all text → TextFits (Tree limit) opened text
    → open_by (Tree limit) ends opened (kept_of_run run ++ later) ≡ open_by (Tree limit) ends opened later
unfolding kept_of_run
tree-open limit ends opened [] text later is fit = refl
tree-open limit ends opened (byte ∷ run) text later is fit =
    tree-open_where limit ends opened (chars (byte ∷ run)) (has_no_null (chars (byte ∷ run))) later (subst (λ t. TextFits (Tree limit) opened t) (run-text (byte ∷ run) text is) fit)

pub shaped-run : (shape : Shape) (ends : Bool) (opened : List (List ℕ)) (run text : List ℕ) (later : List Piece) → run ≡ encode_utf8_all text → TextFits shape opened text
    → written_by shape ends opened (kept_of_run run ++ later) ≡ kept_of_run run ++ written_by shape ends opened later
shaped-run AsKept ends opened run text later is fit = written-run false ends opened run later
shaped-run Balanced ends opened run text later is fit = written-run true ends opened run later
shaped-run (Tree limit) ends opened run text later is fit = tree-run limit ends opened run text later is fit

pub shaped-open_run : (shape : Shape) (ends : Bool) (opened : List (List ℕ)) (run text : List ℕ) (later : List Piece) → run ≡ encode_utf8_all text → TextFits shape opened text
    → open_by shape ends opened (kept_of_run run ++ later) ≡ open_by shape ends opened later
shaped-open_run AsKept ends opened run text later is fit = open-run false ends opened run later
shaped-open_run Balanced ends opened run text later is fit = open-run true ends opened run later
shaped-open_run (Tree limit) ends opened run text later is fit = tree-open limit ends opened run text later is fit

-- ---- a piece that goes

-- it is no comment
abbrev pub IsShown : Piece → Type 0
IsShown (CommentPiece text) = ⊥
IsShown other = Unit {0}

tree-alone : (limit : ℕ) (opened : List (List ℕ)) (item : Item) (after : List (List ℕ)) (piece : Piece) → piece_in item ≡ piece → IsFitting limit opened (item ∷ []) after
    → (pieces_in (all_fitted limit opened (item ∷ [])) ++ [] ≡ piece ∷ []) × ((open_after_all limit opened (item ∷ []) ≡ after) × (length after ≤ limit))
unfolding all_fitted open_after_all
tree-alone limit opened item after piece back (Next i f l Done) = (
  one-written limit opened item [] false f l ∙ ap (λ p. p ∷ []) back,
  (one-open limit opened item [] f l, l),
)

pub shaped-alone : (shape : Shape) (opened after : List (List ℕ)) (piece : Piece) → IsShown piece → Goes shape opened piece after
    → (written_by shape false opened (piece ∷ []) ≡ piece ∷ []) × ((open_by shape false opened (piece ∷ []) ≡ after) × IsShort shape after)
unfolding written_by open_by all_balanced all_open_after items_of
shaped-alone AsKept opened after piece shown goes = (refl, (goes, tt))
shaped-alone Balanced opened after piece shown goes = (
  append-nil (balanced opened piece ++ []) ∙ (append-nil (balanced opened piece) ∙ nested-balanced opened after piece goes),
  (nested-open opened after piece goes, tt),
)
shaped-alone (Tree limit) opened after (TextPiece text) shown goes = tree-alone limit opened (Text (encode_utf8_all text)) after (TextPiece text) (text-back text) goes
shaped-alone (Tree limit) opened after (StartTagPiece name attributes) shown goes =
    tree-alone limit opened (StartTag (encode_utf8_all name) (map attribute_item attributes)) after (StartTagPiece name attributes) (start-back name attributes) goes
shaped-alone (Tree limit) opened after (EndTagPiece name) shown goes = tree-alone limit opened (EndTag (encode_utf8_all name)) after (EndTagPiece name) (end-back name) goes
shaped-alone (Tree limit) opened after (CommentPiece text) shown goes = absurd shown

-- ---- nothing, and the end

pub shaped-nothing : (shape : Shape) (opened : List (List ℕ)) → (written_by shape false opened [] ≡ []) × (open_by shape false opened [] ≡ opened)
unfolding written_by open_by all_balanced all_open_after all_fitted open_after_all items_of
shaped-nothing AsKept opened = (refl, refl)
shaped-nothing Balanced opened = (refl, refl)
shaped-nothing (Tree limit) opened = (refl, refl)

-- when nothing else is kept, the end closes the elements open after these pieces
pub shaped-at_end : (shape : Shape) (opened : List (List ℕ)) (pieces : List Piece) → AllGo shape [] pieces opened → written_by shape true opened [] ≡ end_tags opened
unfolding written_by all_balanced all_open_after all_fitted open_after_all items_of
shaped-at_end AsKept opened pieces go = ap (λ (o : List (List ℕ)). end_tags o) (go-none [] opened pieces go)
shaped-at_end Balanced opened pieces go = refl
shaped-at_end (Tree limit) opened pieces go = refl

-- and after the end nothing is open
pub shaped-closed : (shape : Shape) (opened : List (List ℕ)) (pieces later : List Piece) → AllGo shape [] pieces opened → open_by shape true opened later ≡ []
unfolding open_by
shaped-closed AsKept opened pieces later go = sym (go-none [] opened pieces go)
shaped-closed Balanced opened pieces later go = refl
shaped-closed (Tree limit) opened pieces later go = refl
