-- The document is a tree: each open element, and the document, is outside the open elements further in. The steps of a page keep that.
use Rattle.std.proofs.Common.{◌≡◌, ℕ, ◌<◌, ◌≤◌, Bool, true, false, List, [], ◌∷◌, refl, sym, ◌∙◌, arith}
use Rattle.std.specs.Prelude.{suc, zero, ◌==◌, Option, Some, None, if◌then◌else◌}
use Rattle.tree_laws.specs.Laws.{AreOrderly, next_number}
use Rattle.tree_laws.specs.Trees.{AreNested, AreOutside, IsOutside, KeepTree, KeepsTree, or_else, parent_after, parent_at, template_after}
use Rattle.tree_laws.specs.Trees.IsWithin.{Itself}
use Rattle.tree_construction.specs.declared.mistakes.Mistake.{Mistake}
use Rattle.tree_construction.specs.Page.{Edit, Open, Page, Place, edited, inside, left, popped, popped_of, popped_to_first, popped_to_first_in, popped_until, popped_until_in, popped_while, popped_while_in, removed_from_stack, without_open}
use Rattle.tree_construction.specs.Page.Edit.{Put, Pop, ParseError}
use Rattle.tree_construction.specs.Page.Place.{LastChild, BeforeTable, BesideNode}
use Rattle.tree_construction.specs.Parser.{Entry, Parser, on_page, mistaken}
use Rattle.tree_laws.proofs.Numbers.{AreOpenBelow, IsPlaceBelow, Numbers, PageNumbers, PartNumbers, node-below, numbers-mistaken, numbers-popped, numbers-popped_to_first, numbers-popped_until, numbers-popped_while, own, removed-from-stack, with-page}
use Rattle.tree_laws.proofs.Trees.{AddsNone, KeepsLines, no-parent, outside-new, parents-made, put-keeps, same-lines, stays-outside}

-- ---- what is kept

pub record PageTree (k : ℕ) (page : Page) : Type 0 where
  pub numbers : PageNumbers k page
  pub tree : KeepTree page.edits
  pub nested : AreNested page.edits page.opened

pub record PartTree (k : ℕ) (page : Page) (formatting : List Entry) (head form : Option ℕ) : Type 0 where
  pub numbers : PartNumbers k page formatting head form
  pub tree : KeepTree page.edits
  pub nested : AreNested page.edits page.opened

abbrev pub TreeOf : ℕ → Parser → Type 0
TreeOf k p = PartTree k p.page p.formatting p.head p.form

-- ---- open elements after other edits

pub outside-kept : (s x : ℕ) (before after : List Edit) (es : List Open) → KeepsLines s before after → AreOutside before s es
    → AreOutside before x es → AreOutside after x es
unfolding AreOutside
outside-kept s x before after [] keeps out other = λ m less. stays-outside s x before after m keeps (out m less) (other m less)
outside-kept s x before after (e ∷ es) keeps out other = (
  stays-outside s x before after e.node keeps out.0 other.0,
  stays-outside s x before after (inside e) keeps out.1 other.1,
  outside-kept s x before after es keeps out.2 other.2,
)

pub nested-kept : (s : ℕ) (before after : List Edit) (es : List Open) → KeepsLines s before after → AreOutside before s es → AreNested before es
    → AreNested after es
unfolding AreOutside AreNested
nested-kept s before after [] keeps out nested = tt
nested-kept s before after (e ∷ es) keeps out nested =
    (outside-kept s e.node before after es keeps out.2 nested.0, nested-kept s before after es keeps out.2 nested.1)

pub outside-same : (x : ℕ) (before after : List Edit) (es : List Open) → AddsNone before after → AreOutside before x es → AreOutside after x es
unfolding AreOutside
outside-same x before after [] adds out = λ m less stands. out m less (adds.none x m stands)
outside-same x before after (e ∷ es) adds out = (
  λ stands. out.0 (adds.none x e.node stands),
  λ stands. out.1 (adds.none x (inside e) stands),
  outside-same x before after es adds out.2,
)

pub nested-same : (before after : List Edit) (es : List Open) → AddsNone before after → AreNested before es → AreNested after es
unfolding AreNested
nested-same before after [] adds nested = tt
nested-same before after (e ∷ es) adds nested =
    (outside-same e.node before after es adds nested.0, nested-same before after es adds nested.1)

-- open elements were made before a new node
pub outside-fresh : (edits : List Edit) (n : ℕ) (es : List Open) → AreOrderly edits → next_number edits ≤ n → 3 ≤ next_number edits
    → AreOpenBelow (next_number edits) es → AreOutside edits n es
unfolding AreOutside AreOpenBelow
outside-fresh edits n [] orderly new begun below = λ m less. outside-new edits n m orderly new (omega (arith, less, begun))
outside-fresh edits n (e ∷ es) orderly new begun below = (
  outside-new edits n e.node orderly new (node-below e (next_number edits) below.0),
  outside-new edits n (inside e) orderly new below.0,
  outside-fresh edits n es orderly new begun below.1,
)

-- a node of which those from the start are outside is none of them
begun-outside : (edits : List Edit) (x : ℕ) → ((m : ℕ) → m < 3 → IsOutside edits x m) → 3 ≤ x
begun-outside edits zero out = absurd (out 0 (omega arith) Itself)
begun-outside edits (suc zero) out = absurd (out 1 (omega arith) Itself)
begun-outside edits (suc (suc zero)) out = absurd (out 2 (omega arith) Itself)
begun-outside edits (suc (suc (suc x))) out = omega arith

pub begun-if-outside : (edits : List Edit) (x : ℕ) (es : List Open) → AreOutside edits x es → 3 ≤ x
unfolding AreOutside
begun-if-outside edits x [] out = begun-outside edits x out
begun-if-outside edits x (e ∷ es) out = begun-if-outside edits x es out.2

-- ---- conditions

pub nested-if-parser : (k : ℕ) (test : Bool) (p q : Parser) → TreeOf k p → TreeOf k q → TreeOf k (if test then p else q)
nested-if-parser k true p q g h = g
nested-if-parser k false p q g h = h

pub nested-if-page : (k : ℕ) (test : Bool) (p q : Page) → PageTree k p → PageTree k q → PageTree k (if test then p else q)
nested-if-page k true p q g h = g
nested-if-page k false p q g h = h

-- ---- a page

pub pop-adds-none : (n : ℕ) (edits : List Edit) → AddsNone edits (Pop n ∷ edits)
unfolding parent_after template_after
pop-adds-none n edits = same-lines edits (Pop n ∷ edits) (λ m. refl) (λ m. refl)

pub mistake-adds-none : (mistake : Mistake) (edits : List Edit) → AddsNone edits (ParseError mistake ∷ edits)
unfolding parent_after template_after
mistake-adds-none mistake edits = same-lines edits (ParseError mistake ∷ edits) (λ m. refl) (λ m. refl)

-- ---- elements that leave the stack

-- a page whose edits keep a tree, and its open elements, without its numbers
abbrev pub Nests : Page → Type 0
Nests page = KeepTree page.edits × AreNested page.edits page.opened

nests-left : (e : Open) (es : List Open) (page : Page) → KeepTree page.edits → AreNested page.edits es → Nests (left e es page)
unfolding KeepTree
nests-left e es page tree nested = ((tt, tree), nested-same page.edits (Pop e.node ∷ page.edits) es (pop-adds-none e.node page.edits) nested)

nests-popped_of : (es : List Open) (page : Page) → AreNested page.edits es → Nests page → Nests (popped_of es page)
unfolding AreNested
nests-popped_of [] page nested h = h
nests-popped_of (e ∷ es) page nested h = nests-left e es page h.0 nested.1

nests-if : (test : Bool) (p q : Page) → Nests p → Nests q → Nests (if test then p else q)
nests-if true p q g h = g
nests-if false p q g h = h

nests-popped_until_in : (test : Open → Bool) (es : List Open) (page : Page) → AreNested page.edits es → Nests page → Nests (popped_until_in test es page)
unfolding AreNested popped_until_in
nests-popped_until_in test [] page nested h = h
nests-popped_until_in test (e ∷ es) page nested h =
    let here : Nests (left e es page) = nests-left e es page h.0 nested.1 in
    nests-if (test e) (left e es page) (popped_until_in test es (left e es page)) here (nests-popped_until_in test es (left e es page) here.1 here)

nests-popped_while_in : (test : Open → Bool) (es : List Open) (page : Page) → AreNested page.edits es → Nests page → Nests (popped_while_in test es page)
unfolding AreNested popped_while_in
nests-popped_while_in test [] page nested h = h
nests-popped_while_in test (e ∷ es) page nested h =
    let here : Nests (left e es page) = nests-left e es page h.0 nested.1 in
    nests-if (test e) (popped_while_in test es (left e es page)) page (nests-popped_while_in test es (left e es page) here.1 here) h

pub nests-popped_to_first_in : (es : List Open) (page : Page) → AreNested page.edits es → Nests page → Nests (popped_to_first_in es page)
unfolding AreNested popped_to_first_in
nests-popped_to_first_in [] page nested h = h
nests-popped_to_first_in (e ∷ []) page nested h = h
nests-popped_to_first_in (e ∷ outer ∷ es) page nested h =
    let here : Nests (left e (outer ∷ es) page) = nests-left e (outer ∷ es) page h.0 nested.1 in
    nests-popped_to_first_in (outer ∷ es) (left e (outer ∷ es) page) here.1 here

with-numbers : (k : ℕ) (page : Page) → PageNumbers k page → Nests page → PageTree k page
with-numbers k page numbers h = record { numbers = numbers; tree = h.0; nested = h.1 }

pub nested-popped : (k : ℕ) (page : Page) → PageTree k page → PageTree k (popped page)
nested-popped k page h = with-numbers k (popped page) (numbers-popped k page h.numbers) (nests-popped_of page.opened page h.nested (h.tree, h.nested))

pub nested-popped_until : (k : ℕ) (test : Open → Bool) (page : Page) → PageTree k page → PageTree k (popped_until test page)
nested-popped_until k test page h =
    with-numbers k (popped_until test page) (numbers-popped_until k test page h.numbers)
    (nests-popped_until_in test page.opened page h.nested (h.tree, h.nested))

pub nested-popped_while : (k : ℕ) (test : Open → Bool) (page : Page) → PageTree k page → PageTree k (popped_while test page)
nested-popped_while k test page h =
    with-numbers k (popped_while test page) (numbers-popped_while k test page h.numbers)
    (nests-popped_while_in test page.opened page h.nested (h.tree, h.nested))

outside-without : (edits : List Edit) (x n : ℕ) (es : List Open) → AreOutside edits x es → AreOutside edits x (without_open n es)
unfolding AreOutside without_open
outside-without edits x n [] out = out
outside-without edits x n (e ∷ es) out = by_test (outside-without edits x n es out.2) (e.node == n)
  where
    by_test : AreOutside edits x (without_open n es) → (test : Bool) → AreOutside edits x (if test then es else e ∷ without_open n es)
    by_test others true = out.2
    by_test others false = (out.0, out.1, others)

pub nested-without : (edits : List Edit) (n : ℕ) (es : List Open) → AreNested edits es → AreNested edits (without_open n es)
unfolding AreNested without_open
nested-without edits n [] nested = tt
nested-without edits n (e ∷ es) nested = by_test (nested-without edits n es nested.1) (e.node == n)
  where
    by_test : AreNested edits (without_open n es) → (test : Bool) → AreNested edits (if test then es else e ∷ without_open n es)
    by_test others true = nested.1
    by_test others false = (outside-without edits e.node n es nested.0, others)

pub nested-removed-from-stack : (k n : ℕ) (page : Page) → n < page.next → PageTree k page → PageTree k (removed_from_stack n page)
unfolding KeepTree
nested-removed-from-stack k n page below h = record {
  numbers = removed-from-stack k n page below h.numbers;
  tree = (tt, h.tree);
  nested = nested-same page.edits (Pop n ∷ page.edits) (without_open n page.opened) (pop-adds-none n page.edits) (nested-without page.edits n page.opened h.nested);
}

-- ---- a parser with another page

pub own-tree : (k : ℕ) (p : Parser) → TreeOf k p → PageTree p.page.next p.page
own-tree k p h = record { numbers = own k p h.numbers; tree = h.tree; nested = h.nested }

pub with-tree : (k : ℕ) (p : Parser) (page : Page) → PageTree p.page.next page → TreeOf k p → TreeOf k (record p { page = page })
with-tree k p page later h = record { numbers = with-page k p page later.numbers h.numbers; tree = later.tree; nested = later.nested }

pub nested-on_page : (k : ℕ) (change : Page → Page) → ((k : ℕ) (page : Page) → PageTree k page → PageTree k (change page)) → (p : Parser)
    → TreeOf k p → TreeOf k (on_page change p)
nested-on_page k change keeps p h = with-tree k p (change p.page) (keeps p.page.next p.page (own-tree k p h)) h

pub nested-mistaken : (k : ℕ) (mistake : Mistake) (p : Parser) → TreeOf k p → TreeOf k (mistaken mistake p)
unfolding KeepTree
nested-mistaken k mistake p h = record {
  numbers = numbers-mistaken k mistake p h.numbers;
  tree = (tt, h.tree);
  nested = nested-same p.page.edits (ParseError mistake ∷ p.page.edits) p.page.opened (mistake-adds-none mistake p.page.edits) h.nested;
}

-- an edit that changes no parent
pub plainly : (k : ℕ) (edit : Edit) (p : Parser) → AddsNone p.page.edits (edit ∷ p.page.edits) → KeepsTree edit p.page.edits
    → Numbers k (on_page (edited edit) p) → TreeOf k p → TreeOf k (on_page (edited edit) p)
unfolding KeepTree
plainly k edit p adds keeps numbers h =
    record { numbers = numbers; tree = (keeps, h.tree); nested = nested-same p.page.edits (edit ∷ p.page.edits) p.page.opened adds h.nested }

-- ---- a node that was just made

pub record IsAlone (n : ℕ) (edits : List Edit) : Type 0 where
  pub no_parent : parent_after edits n ≡ None
  -- parents have lower numbers, and nodes with lower numbers are outside of it
  pub parents : (m k : ℕ) → parent_after edits m ≡ Some k → k < n
  pub below : (m : ℕ) → m < n → IsOutside edits n m

pub alone : (edits : List Edit) → AreOrderly edits → IsAlone (next_number edits) edits
alone edits orderly = record {
  no_parent = no-parent edits (next_number edits) orderly (omega arith);
  parents = λ m k is. (parents-made edits orderly m k is).1;
  below = λ m less. outside-new edits (next_number edits) m orderly (omega arith) less;
}

pub alone-after : (n : ℕ) (before after : List Edit) → ((m : ℕ) → parent_after after m ≡ parent_after before m) → AddsNone before after
    → IsAlone n before → IsAlone n after
alone-after n before after parents adds h = record {
  no_parent = parents n ∙ h.no_parent;
  parents = λ m k is. h.parents m k (sym (parents m) ∙ is);
  below = λ m less stands. h.below m less (adds.none n m stands);
}

outside-below : (n : ℕ) (edits : List Edit) (es : List Open) → ((m : ℕ) → m < n → IsOutside edits n m) → 3 ≤ n → AreOpenBelow n es
    → AreOutside edits n es
unfolding AreOutside AreOpenBelow
outside-below n edits [] out begun below = λ m less. out m (omega (arith, less, begun))
outside-below n edits (e ∷ es) out begun below =
    (out e.node (node-below e n below.0), out (inside e) below.0, outside-below n edits es out begun below.1)

spot-below : (n : ℕ) (parent : ℕ → Option ℕ) (place : Place) → ((m k : ℕ) → parent m ≡ Some k → k < n) → IsPlaceBelow n place → parent_at parent place < n
spot-below n parent (LastChild m) parents below = below
spot-below n parent (BeforeTable table above) parents below = of_parent (parent table) refl
  where
    of_parent : (found : Option ℕ) → parent table ≡ found → or_else found above < n
    of_parent None is = below.1
    of_parent (Some k) is = parents table k is
spot-below n parent (BesideNode m) parents below = of_parent (parent m) refl
  where
    of_parent : (found : Option ℕ) → parent m ≡ found → or_else found m < n
    of_parent None is = below
    of_parent (Some k) is = parents m k is

-- it is put
pub record IsPut (place : Place) (n : ℕ) (edits : List Edit) (es : List Open) : Type 0 where
  pub keeps : KeepsTree (Put place n) edits
  pub nested : AreNested (Put place n ∷ edits) es
  pub outside : AreOutside (Put place n ∷ edits) n es

pub put-alone : (place : Place) (n : ℕ) (edits : List Edit) (es : List Open) → IsAlone n edits → IsPlaceBelow n place → 3 ≤ n → AreOpenBelow n es
    → AreNested edits es → IsPut place n edits es
put-alone place n edits es h place_below begun below nested =
    let out : AreOutside edits n es = outside-below n edits es h.below begun below in
    record {
      keeps = (begun, h.no_parent, h.below (parent_at (parent_after edits) place) (spot-below n (parent_after edits) place h.parents place_below));
      nested = nested-kept n edits (Put place n ∷ edits) es (put-keeps place n edits) out nested;
      outside = outside-kept n n edits (Put place n ∷ edits) es (put-keeps place n edits) out out;
    }
