-- Edits name nodes that were made: what is kept, and the steps of pages, places, texts and comments. NumbersSteps goes on with all others.
use Rattle.std.proofs.Common.{◌≡◌, ℕ, ◌<◌, ◌≤◌, Bool, true, false, List, [], ◌∷◌, refl, sym, ◌∙◌, subst, arith}
use Rattle.std.specs.Prelude.{suc, ◌==◌, Option, Some, None, if◌then◌else◌}
use Rattle.tree_construction.specs.declared.mistakes.Mistake.{Mistake}
use Rattle.tree_laws.specs.Laws.{AreOrderly, IsMade, IsOrderlyEdit, IsPlaceMade, next_number}
use Rattle.tree_construction.specs.Names.{is_table, is_template}
use Rattle.tree_construction.specs.Page.{Edit, Open, Page, Place, comment_put, edited, first_open, foster_place_in, inside, inside_first, left, popped, popped_of, popped_to_first, popped_to_first_in, popped_until, popped_until_in, popped_while, popped_while_in, removed_from_stack, without_open}
use Rattle.tree_construction.specs.Page.Edit.{MakeComment, ParseError, PutText}
use Rattle.tree_construction.specs.Page.Place.{BeforeTable, BesideNode, LastChild}
use Rattle.tree_construction.specs.Parser.{Entry, Parser, insert_comment, insert_comment_in_document, insert_comment_in_root, insert_text, is_fostered, is_too_deep, last_child_of, mistaken, on_page, place_in, place_of, within_depth}
use Rattle.tree_construction.specs.Parser.Entry.{Active, Marker}

-- ---- what is kept

-- open elements, with their template contents, have numbers below n
unfoldable pub AreOpenBelow : ℕ → List Open → Type 0
AreOpenBelow n [] = Unit {0}
AreOpenBelow n (e ∷ es) = (inside e < n) × AreOpenBelow n es

-- entries of the list have numbers below n, and are not templates
unfoldable pub AreListedBelow : ℕ → List Entry → Type 0
AreListedBelow n [] = Unit {0}
AreListedBelow n (Marker ∷ list) = AreListedBelow n list
AreListedBelow n (Active m kind name attributes ∷ list) = (m < n) × (is_template kind ≡ false) × AreListedBelow n list

abbrev pub IsPointerBelow : ℕ → Option ℕ → Type 0
IsPointerBelow n None = Unit {0}
IsPointerBelow n (Some m) = m < n

abbrev pub IsPlaceBelow : ℕ → Place → Type 0
IsPlaceBelow n (LastChild parent) = parent < n
IsPlaceBelow n (BeforeTable table above) = (table < n) × (above < n)
IsPlaceBelow n (BesideNode m) = m < n

-- a page whose next number is at least k
pub record PageNumbers (k : ℕ) (page : Page) : Type 0 where
  pub rises : k ≤ page.next
  pub begun : 3 ≤ page.next
  pub next : page.next ≡ next_number page.edits
  pub orderly : AreOrderly page.edits
  pub opened : AreOpenBelow page.next page.opened

pub record PartNumbers (k : ℕ) (page : Page) (formatting : List Entry) (head form : Option ℕ) : Type 0 where
  pub of_page : PageNumbers k page
  pub of_list : AreListedBelow page.next formatting
  pub of_head : IsPointerBelow page.next head
  pub of_form : IsPointerBelow page.next form

abbrev pub Numbers : ℕ → Parser → Type 0
Numbers k p = PartNumbers k p.page p.formatting p.head p.form

-- ---- larger bounds

pub raised-opened : (m n : ℕ) (es : List Open) → m ≤ n → AreOpenBelow m es → AreOpenBelow n es
unfolding AreOpenBelow
raised-opened m n [] le below = tt
raised-opened m n (e ∷ es) le below = (omega (arith, le, below.0), raised-opened m n es le below.1)

pub raised-listed : (m n : ℕ) (list : List Entry) → m ≤ n → AreListedBelow m list → AreListedBelow n list
unfolding AreListedBelow
raised-listed m n [] le below = tt
raised-listed m n (Marker ∷ list) le below = raised-listed m n list le below
raised-listed m n (Active i kind name attributes ∷ list) le below = (omega (arith, le, below.0), below.1, raised-listed m n list le below.2)

pub raised-pointer : (m n : ℕ) (pointer : Option ℕ) → m ≤ n → IsPointerBelow m pointer → IsPointerBelow n pointer
raised-pointer m n None le below = tt
raised-pointer m n (Some i) le below = omega (arith, le, below)

pub raised-place : (m n : ℕ) (place : Place) → m ≤ n → IsPlaceBelow m place → IsPlaceBelow n place
raised-place m n (LastChild parent) le below = omega (arith, le, below)
raised-place m n (BeforeTable table above) le below = (omega (arith, le, below.0), omega (arith, le, below.1))
raised-place m n (BesideNode i) le below = omega (arith, le, below)

pub place-made : (edits : List Edit) (place : Place) → IsPlaceBelow (next_number edits) place → IsPlaceMade edits place
place-made edits (LastChild parent) below = below
place-made edits (BeforeTable table above) below = below
place-made edits (BesideNode i) below = below

-- ---- conditions

pub numbers-if-parser : (k : ℕ) (test : Bool) (p q : Parser) → Numbers k p → Numbers k q → Numbers k (if test then p else q)
numbers-if-parser k true p q g h = g
numbers-if-parser k false p q g h = h

pub numbers-if-page : (k : ℕ) (test : Bool) (p q : Page) → PageNumbers k p → PageNumbers k q → PageNumbers k (if test then p else q)
numbers-if-page k true p q g h = g
numbers-if-page k false p q g h = h

-- ---- a page

-- an edit that makes nothing
pub with-edit : (k : ℕ) (edit : Edit) (page : Page) → next_number (edit ∷ page.edits) ≡ next_number page.edits → IsOrderlyEdit edit page.edits
    → PageNumbers k page → PageNumbers k (edited edit page)
unfolding AreOrderly
with-edit k edit page same orderly h =
    record { rises = h.rises; begun = h.begun; next = h.next ∙ sym same; orderly = (orderly, h.orderly); opened = h.opened }

-- a number below the next one is made
pub made-before : (k n : ℕ) (page : Page) → PageNumbers k page → n < page.next → IsMade page.edits n
made-before k n page h below = subst (λ m. n < m) h.next below

node-inside : (test : Bool) (n : ℕ) → n ≤ (if test then suc n else n)
node-inside true n = omega arith
node-inside false n = omega arith

pub node-below : (e : Open) (n : ℕ) → inside e < n → e.node < n
node-below e n below = let le : e.node ≤ inside e = node-inside (is_template e.kind) e.node in omega (arith, le, below)

numbers-left : (k : ℕ) (e : Open) (es : List Open) (page : Page) → inside e < page.next → AreOpenBelow page.next es → PageNumbers k page
    → PageNumbers k (left e es page)
unfolding AreOrderly next_number
numbers-left k e es page below others h =
    record { rises = h.rises; begun = h.begun; next = h.next; orderly = (made-before k e.node page h (node-below e page.next below), h.orderly); opened = others }

numbers-popped_of : (k : ℕ) (es : List Open) (page : Page) → AreOpenBelow page.next es → PageNumbers k page → PageNumbers k (popped_of es page)
unfolding AreOpenBelow
numbers-popped_of k [] page below h = h
numbers-popped_of k (e ∷ es) page below h = numbers-left k e es page below.0 below.1 h

pub numbers-popped : (k : ℕ) (page : Page) → PageNumbers k page → PageNumbers k (popped page)
numbers-popped k page h = numbers-popped_of k page.opened page h.opened h

numbers-popped_until_in : (k : ℕ) (test : Open → Bool) (es : List Open) (page : Page) → AreOpenBelow page.next es → PageNumbers k page
    → PageNumbers k (popped_until_in test es page)
unfolding AreOpenBelow popped_until_in
numbers-popped_until_in k test [] page below h = h
numbers-popped_until_in k test (e ∷ es) page below h =
    let here : PageNumbers k (left e es page) = numbers-left k e es page below.0 below.1 h in
    numbers-if-page k (test e) (left e es page) (popped_until_in test es (left e es page)) here
    (numbers-popped_until_in k test es (left e es page) below.1 here)

pub numbers-popped_until : (k : ℕ) (test : Open → Bool) (page : Page) → PageNumbers k page → PageNumbers k (popped_until test page)
numbers-popped_until k test page h = numbers-popped_until_in k test page.opened page h.opened h

numbers-popped_while_in : (k : ℕ) (test : Open → Bool) (es : List Open) (page : Page) → AreOpenBelow page.next es → PageNumbers k page
    → PageNumbers k (popped_while_in test es page)
unfolding AreOpenBelow popped_while_in
numbers-popped_while_in k test [] page below h = h
numbers-popped_while_in k test (e ∷ es) page below h =
    let here : PageNumbers k (left e es page) = numbers-left k e es page below.0 below.1 h in
    numbers-if-page k (test e) (popped_while_in test es (left e es page)) page (numbers-popped_while_in k test es (left e es page) below.1 here) h

pub numbers-popped_while : (k : ℕ) (test : Open → Bool) (page : Page) → PageNumbers k page → PageNumbers k (popped_while test page)
numbers-popped_while k test page h = numbers-popped_while_in k test page.opened page h.opened h

numbers-popped_to_first_in : (k : ℕ) (es : List Open) (page : Page) → AreOpenBelow page.next es → PageNumbers k page
    → PageNumbers k (popped_to_first_in es page)
unfolding AreOpenBelow popped_to_first_in
numbers-popped_to_first_in k [] page below h = h
numbers-popped_to_first_in k (e ∷ []) page below h = h
numbers-popped_to_first_in k (e ∷ outer ∷ es) page below h =
    numbers-popped_to_first_in k (outer ∷ es) (left e (outer ∷ es) page) below.1 (numbers-left k e (outer ∷ es) page below.0 below.1 h)

pub numbers-popped_to_first : (k : ℕ) (page : Page) → PageNumbers k page → PageNumbers k (popped_to_first page)
numbers-popped_to_first k page h = numbers-popped_to_first_in k page.opened page h.opened h

pub below-without : (n m : ℕ) (es : List Open) → AreOpenBelow n es → AreOpenBelow n (without_open m es)
unfolding AreOpenBelow without_open
below-without n m [] below = tt
below-without n m (e ∷ es) below = by_test (below-without n m es below.1) (e.node == m)
  where
    by_test : AreOpenBelow n (without_open m es) → (test : Bool) → AreOpenBelow n (if test then es else e ∷ without_open m es)
    by_test others true = below.1
    by_test others false = (below.0, others)

pub removed-from-stack : (k n : ℕ) (page : Page) → n < page.next → PageNumbers k page → PageNumbers k (removed_from_stack n page)
unfolding AreOrderly next_number
removed-from-stack k n page below h =
    record { rises = h.rises; begun = h.begun; next = h.next; orderly = (made-before k n page h below, h.orderly); opened = below-without page.next n page.opened h.opened }

-- ---- a parser with another page

-- the page that a parser has, whose next number is at least what it is
pub own : (k : ℕ) (p : Parser) → Numbers k p → PageNumbers p.page.next p.page
own k p h = record {
  rises = omega arith;
  begun = h.of_page.begun;
  next = h.of_page.next;
  orderly = h.of_page.orderly;
  opened = h.of_page.opened;
}

pub with-page : (k : ℕ) (p : Parser) (page : Page) → PageNumbers p.page.next page → Numbers k p → Numbers k (record p { page = page })
with-page k p page later h = record {
  of_page = record {
    rises = omega (arith, h.of_page.rises, later.rises);
    begun = later.begun;
    next = later.next;
    orderly = later.orderly;
    opened = later.opened;
  };
  of_list = raised-listed p.page.next page.next p.formatting later.rises h.of_list;
  of_head = raised-pointer p.page.next page.next p.head later.rises h.of_head;
  of_form = raised-pointer p.page.next page.next p.form later.rises h.of_form;
}

pub numbers-on_page : (k : ℕ) (change : Page → Page) → ((k : ℕ) (page : Page) → PageNumbers k page → PageNumbers k (change page)) → (p : Parser)
    → Numbers k p → Numbers k (on_page change p)
numbers-on_page k change keeps p h = with-page k p (change p.page) (keeps p.page.next p.page (own k p h)) h

pub numbers-mistaken : (k : ℕ) (mistake : Mistake) (p : Parser) → Numbers k p → Numbers k (mistaken mistake p)
unfolding next_number
numbers-mistaken k mistake p h = with-page k p _ (with-edit p.page.next (ParseError mistake) p.page refl tt (own k p h)) h

-- ---- places

first-below : (n : ℕ) (es : List Open) → 0 < n → AreOpenBelow n es → inside_first es < n
unfolding AreOpenBelow
first-below n [] some below = some
first-below n (e ∷ es) some below = below.0

foster-below : (n passed : ℕ) (es : List Open) → 0 < n → passed < n → AreOpenBelow n es → IsPlaceBelow n (foster_place_in passed es)
unfolding AreOpenBelow foster_place_in
foster-below n passed [] some passes below = passes
foster-below n passed (e ∷ es) some passes below =
    by_test (is_template e.kind) (is_table e.kind) (foster-below n (inside e) es some below.0 below.1)
  where
    by_test : (template table : Bool) → IsPlaceBelow n (foster_place_in (inside e) es)
        → IsPlaceBelow n (if template then LastChild (inside e) else if table then BeforeTable e.node (inside_first es) else foster_place_in (inside e) es)
    by_test true table others = below.0
    by_test false true others = (node-below e n below.0, first-below n es some below.1)
    by_test false false others = others

last-below : (n : ℕ) (es : List Open) → 0 < n → AreOpenBelow n es → IsPlaceBelow n (last_child_of es)
unfolding AreOpenBelow
last-below n [] some below = some
last-below n (e ∷ es) some below = below.0

depth-below : (n extra : ℕ) (limit : Option ℕ) (es : List Open) → 0 < n → AreOpenBelow n es → IsPlaceBelow n (within_depth extra limit es)
unfolding AreOpenBelow
depth-below n extra limit [] some below = some
depth-below n extra limit (e ∷ es) some below = by_test (is_too_deep extra limit (e ∷ es))
  where
    by_test : (test : Bool) → IsPlaceBelow n (if test then BesideNode e.node else LastChild (inside e))
    by_test true = node-below e n below.0
    by_test false = below.0

place-if : (n : ℕ) (test : Bool) (place other : Place) → IsPlaceBelow n place → IsPlaceBelow n other → IsPlaceBelow n (if test then place else other)
place-if n true place other g h = g
place-if n false place other g h = h

pub some-made : (k : ℕ) (p : Parser) → Numbers k p → 0 < p.page.next
some-made k p h = let begun : 3 ≤ p.page.next = h.of_page.begun in omega (arith, begun)

pub place_in-below : (k : ℕ) (p : Parser) (target : List Open) → AreOpenBelow p.page.next target → Numbers k p → IsPlaceBelow p.page.next (place_in p target)
place_in-below k p target below h =
    place-if p.page.next (is_fostered p target) _ _ (foster-below p.page.next 0 p.page.opened (some-made k p h) (some-made k p h) h.of_page.opened)
    (last-below p.page.next target (some-made k p h) below)

pub place_of-below : (k extra : ℕ) (p : Parser) → Numbers k p → IsPlaceBelow p.page.next (place_of extra p)
place_of-below k extra p h =
    place-if p.page.next (is_fostered p p.page.opened) _ _ (foster-below p.page.next 0 p.page.opened (some-made k p h) (some-made k p h) h.of_page.opened)
    (depth-below p.page.next extra p.options.depth_limit p.page.opened (some-made k p h) h.of_page.opened)

-- ---- texts and comments

pub numbers-insert_text : (k : ℕ) (text : List ℕ) (p : Parser) → Numbers k p → Numbers k (insert_text text p)
unfolding next_number
numbers-insert_text k text p h =
    let place : Place = place_in p p.page.opened in
    let made : IsPlaceMade p.page.edits place =
    place-made p.page.edits place (subst (λ n. IsPlaceBelow n place) h.of_page.next (place_in-below k p p.page.opened h.of_page.opened h)) in
    with-page k p _ (with-edit p.page.next (PutText place text) p.page refl made (own k p h)) h

comment-put : (k : ℕ) (place : Place) (text : List ℕ) (page : Page) → IsPlaceBelow page.next place → PageNumbers k page
    → PageNumbers k (comment_put place text page)
unfolding AreOrderly next_number
comment-put k place text page below h =
    let n : ℕ = page.next in
    let made : IsPlaceMade (MakeComment n text ∷ page.edits) place =
    place-made (MakeComment n text ∷ page.edits) place (raised-place n (suc n) place (omega arith) below) in
    record {
      rises = omega (arith, h.rises);
      begun = omega (arith, h.begun);
      next = refl;
      orderly = ((made, omega arith), (h.next, h.orderly));
      opened = raised-opened n (suc n) page.opened (omega arith) h.opened;
    }

pub numbers-insert_comment : (k : ℕ) (text : List ℕ) (p : Parser) → Numbers k p → Numbers k (insert_comment text p)
numbers-insert_comment k text p h = with-page k p _ (comment-put p.page.next (place_of 1 p) text p.page (place_of-below k 1 p h) (own k p h)) h

pub numbers-insert_comment_in_document : (k : ℕ) (text : List ℕ) (p : Parser) → Numbers k p → Numbers k (insert_comment_in_document text p)
numbers-insert_comment_in_document k text p h = with-page k p _ (comment-put p.page.next (LastChild 0) text p.page (some-made k p h) (own k p h)) h

first_open-below : (n : ℕ) (es : List Open) → 0 < n → AreOpenBelow n es → first_open es < n
unfolding AreOpenBelow first_open
first_open-below n [] some below = some
first_open-below n (e ∷ []) some below = node-below e n below.0
first_open-below n (e ∷ outer ∷ es) some below = first_open-below n (outer ∷ es) some below.1

pub root-below : (k : ℕ) (p : Parser) → Numbers k p → first_open p.page.opened < p.page.next
root-below k p h = first_open-below p.page.next p.page.opened (some-made k p h) h.of_page.opened

pub numbers-insert_comment_in_root : (k : ℕ) (text : List ℕ) (p : Parser) → Numbers k p → Numbers k (insert_comment_in_root text p)
numbers-insert_comment_in_root k text p h =
    with-page k p _ (comment-put p.page.next (LastChild (first_open p.page.opened)) text p.page (root-below k p h) (own k p h)) h
