-- Edits name nodes that were made: the list of active formatting elements.
use Rattle.std.proofs.Common.{◌≡◌, ℕ, ◌<◌, Bool, true, false, List, [], ◌∷◌, refl}
use Rattle.std.specs.Prelude.{◌==◌, ◌&&◌, Option, Some, None, nat_le, nat_lt, if◌then◌else◌}
use Rattle.markup5ever.specs.Names.{AttributeOf}
use Rattle.tree_construction.specs.declared.kinds.Kind.{Kind}
use Rattle.tree_construction.specs.declared.kinds.Kind.TheVariants.{Font, Formatting}
use Rattle.tree_construction.specs.Formatting.{Listed, cleared, cleared_to_marker, count_after_marker, count_alike, insert_formatting, is_after_marker, is_alike, reconstructed, reopened, reopened_one, still_listed, to_reopen, with_entry, with_marker, within_limit, without_earliest, without_entry, without_oldest}
use Rattle.tree_construction.specs.InBody.{start_font, start_formatting}
use Rattle.tree_construction.specs.Names.{is_template}
use Rattle.tree_construction.specs.Page.{Open, has_number, has_open}
use Rattle.tree_construction.specs.Parser.{Entry, Parser, inserted, place_of}
use Rattle.tree_construction.specs.Parser.Entry.{Active, Marker}
use Rattle.tree_construction.specs.Tokens.{StartTagOf}
use Rattle.tree_laws.proofs.Numbers.{AreListedBelow, Numbers}
use Rattle.tree_laws.proofs.NumbersOfElements.{inserted-next, numbers-inserted}

-- ---- the list of active formatting elements

pub with-list : (k : ℕ) (p : Parser) (list : List Entry) → AreListedBelow p.page.next list → Numbers k p → Numbers k (record p { formatting = list })
with-list k p list below h = record { of_page = h.of_page; of_list = below; of_head = h.of_head; of_form = h.of_form }

pub below-without_entry : (n m : ℕ) (list : List Entry) → AreListedBelow n list → AreListedBelow n (without_entry m list)
unfolding AreListedBelow without_entry
below-without_entry n m [] below = tt
below-without_entry n m (Marker ∷ list) below = below-without_entry n m list below
below-without_entry n m (Active i kind name attributes ∷ list) below = by_test (below-without_entry n m list below.2) (i == m)
  where
    by_test : AreListedBelow n (without_entry m list) → (test : Bool)
        → AreListedBelow n (if test then list else Active i kind name attributes ∷ without_entry m list)
    by_test others true = below.2
    by_test others false = (below.0, below.1, others)

below-without_earliest : (n : ℕ) (name : List ℕ) (attributes : List AttributeOf) (list : List Entry) → AreListedBelow n list
    → AreListedBelow n (without_earliest name attributes list)
unfolding AreListedBelow without_earliest
below-without_earliest n name attributes [] below = tt
below-without_earliest n name attributes (Marker ∷ list) below = below
below-without_earliest n name attributes (Active i kind other others ∷ list) below =
    by_test (below-without_earliest n name attributes list below.2)
    (is_alike other others name attributes && (count_alike name attributes list == 0))
  where
    by_test : AreListedBelow n (without_earliest name attributes list) → (test : Bool)
        → AreListedBelow n (if test then list else Active i kind other others ∷ without_earliest name attributes list)
    by_test rest true = below.2
    by_test rest false = (below.0, below.1, rest)

below-with_entry : (n m : ℕ) (kind : Kind) (name : List ℕ) (attributes : List AttributeOf) (list : List Entry) → m < n → is_template kind ≡ false
    → AreListedBelow n list → AreListedBelow n (with_entry m kind name attributes list)
unfolding AreListedBelow with_entry
below-with_entry n m kind name attributes list less plain below = (less, plain, by_test (nat_le 3 (count_alike name attributes list)))
  where
    by_test : (test : Bool) → AreListedBelow n (if test then without_earliest name attributes list else list)
    by_test true = below-without_earliest n name attributes list below
    by_test false = below

below-without_oldest : (n : ℕ) (list : List Entry) → AreListedBelow n list → AreListedBelow n (without_oldest list)
unfolding AreListedBelow without_oldest
below-without_oldest n [] below = tt
below-without_oldest n (Marker ∷ list) below = below
below-without_oldest n (Active i kind name attributes ∷ list) below = by_test (below-without_oldest n list below.2) (is_after_marker list)
  where
    by_test : AreListedBelow n (without_oldest list) → (test : Bool)
        → AreListedBelow n (if test then list else Active i kind name attributes ∷ without_oldest list)
    by_test rest true = below.2
    by_test rest false = (below.0, below.1, rest)

below-within_limit : (n : ℕ) (limit : Option ℕ) (list : List Entry) → AreListedBelow n list → AreListedBelow n (within_limit limit list)
below-within_limit n None list below = below
below-within_limit n (Some limit) list below = by_test (nat_lt limit (count_after_marker list))
  where
    by_test : (test : Bool) → AreListedBelow n (if test then without_oldest list else list)
    by_test true = below-without_oldest n list below
    by_test false = below

pub insert-formatting : (k : ℕ) (kind : Kind) (tag : StartTagOf) (p : Parser) → is_template kind ≡ false → Numbers k p
    → Numbers k (insert_formatting kind tag p)
insert-formatting k kind tag p plain h =
    let later : Parser = inserted kind tag.name tag.attributes p in
    let less : p.page.next < later.page.next = inserted-next (place_of 0 p) kind tag.name tag.attributes p in
    let kept : Numbers k later = numbers-inserted k kind tag.name tag.attributes p h in
    with-list k later _
    (below-within_limit later.page.next p.options.formatting_limit (with_entry p.page.next kind tag.name tag.attributes p.formatting)
    (below-with_entry later.page.next p.page.next kind tag.name tag.attributes p.formatting less plain kept.of_list)) kept

pub numbers-with_marker : (k : ℕ) (p : Parser) → Numbers k p → Numbers k (with_marker p)
unfolding AreListedBelow
numbers-with_marker k p h = with-list k p (Marker ∷ p.formatting) h.of_list h

below-cleared : (n : ℕ) (list : List Entry) → AreListedBelow n list → AreListedBelow n (cleared list)
unfolding AreListedBelow cleared
below-cleared n [] below = tt
below-cleared n (Marker ∷ list) below = below
below-cleared n (Active i kind name attributes ∷ list) below = below-cleared n list below.2

pub numbers-cleared_to_marker : (k : ℕ) (p : Parser) → Numbers k p → Numbers k (cleared_to_marker p)
numbers-cleared_to_marker k p h = with-list k p (cleared p.formatting) (below-cleared p.page.next p.formatting h.of_list) h

pub below-still_listed : (n : ℕ) (opened : List Open) (list : List Entry) → AreListedBelow n list → AreListedBelow n (still_listed opened list)
unfolding AreListedBelow still_listed
below-still_listed n opened [] below = tt
below-still_listed n opened (Marker ∷ list) below = below
below-still_listed n opened (Active i kind name attributes ∷ list) below =
    by_test (below-still_listed n opened list below.2) (has_open (has_number i) opened)
  where
    by_test : AreListedBelow n (still_listed opened list) → (test : Bool)
        → AreListedBelow n (if test then Active i kind name attributes ∷ list else still_listed opened list)
    by_test rest true = below
    by_test rest false = rest

-- elements of the list that are made again
unfoldable pub AreListed : ℕ → List Listed → Type 0
AreListed n [] = Unit {0}
AreListed n (e ∷ es) = (e.node < n) × (is_template e.kind ≡ false) × AreListed n es

pub below-to_reopen : (n : ℕ) (opened : List Open) (list : List Entry) → AreListedBelow n list → AreListed n (to_reopen opened list)
unfolding AreListedBelow AreListed to_reopen
below-to_reopen n opened [] below = tt
below-to_reopen n opened (Marker ∷ list) below = tt
below-to_reopen n opened (Active i kind name attributes ∷ list) below =
    by_test (below-to_reopen n opened list below.2) (has_open (has_number i) opened)
  where
    by_test : AreListed n (to_reopen opened list) → (test : Bool)
        → AreListed n (if test then [] else record { node = i; kind = kind; name = name; attributes = attributes } ∷ to_reopen opened list)
    by_test rest true = tt
    by_test rest false = (below.0, below.1, rest)

pub reopened-one : (k : ℕ) (e : Listed) (p : Parser) → is_template e.kind ≡ false → Numbers k p → Numbers k (reopened_one e p)
unfolding AreListedBelow
reopened-one k e p plain h =
    let later : Parser = inserted e.kind e.name e.attributes p in
    let less : p.page.next < later.page.next = inserted-next (place_of 0 p) e.kind e.name e.attributes p in
    let kept : Numbers k later = numbers-inserted k e.kind e.name e.attributes p h in
    with-list k later _ (less, plain, kept.of_list) kept

reopened-all : (k n : ℕ) (es : List Listed) (p : Parser) → AreListed n es → Numbers k p → Numbers k (reopened es p)
unfolding AreListed reopened
reopened-all k n [] p listed h = h
reopened-all k n (e ∷ es) p listed h = reopened-one k e (reopened es p) listed.1 (reopened-all k n es p listed.2 h)

pub numbers-reconstructed : (k : ℕ) (p : Parser) → Numbers k p → Numbers k (reconstructed p)
numbers-reconstructed k p h =
    reopened-all k p.page.next (to_reopen p.page.opened p.formatting) _ (below-to_reopen p.page.next p.page.opened p.formatting h.of_list)
    (with-list k p _ (below-still_listed p.page.next p.page.opened p.formatting h.of_list) h)

pub numbers-start_formatting : (k : ℕ) (tag : StartTagOf) (p : Parser) → Numbers k p → Numbers k (start_formatting tag p)
numbers-start_formatting k tag p h = insert-formatting k Formatting tag (reconstructed p) refl (numbers-reconstructed k p h)

pub numbers-start_font : (k : ℕ) (tag : StartTagOf) (p : Parser) → Numbers k p → Numbers k (start_font tag p)
numbers-start_font k tag p h = insert-formatting k Font tag (reconstructed p) refl (numbers-reconstructed k p h)
