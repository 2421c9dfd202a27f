-- Edits name nodes that were made: elements that are made and put, and edits of open elements.
use Rattle.std.proofs.Common.{◌≡◌, ℕ, ◌<◌, ◌≤◌, Bool, true, false, List, [], ◌∷◌, refl, sym, subst, arith}
use Rattle.std.specs.Prelude.{suc, Option, Some, None, codes, if◌then◌else◌}
use Rattle.markup5ever.specs.Names.{AttributeOf}
use Rattle.tree_construction.specs.declared.kinds.Kind.{Kind}
use Rattle.tree_construction.specs.declared.kinds.Kind.TheVariants.{HtmlRoot}
use Rattle.tree_construction.specs.declared.kinds.Namespace.{Namespace}
use Rattle.tree_construction.specs.Adjusting.{adjusted_attributes}
use Rattle.tree_construction.specs.BeforeBody.{add_to_root, current_number, mark_current, with_root}
use Rattle.tree_construction.specs.InBody.{add_to_body, added_to_body, depth_extra, insert_foreign, removed_body, without_body}
use Rattle.tree_laws.specs.Laws.{AreOrderly, IsMade, IsOrderlyEdit, IsPlaceMade, next_number}
use Rattle.tree_construction.specs.Names.{is_body, is_template, kind_of, namespace_of}
use Rattle.tree_construction.specs.Page.{Edit, Open, Page, Place, edited, first_open, made, popped, pushed, second_body}
use Rattle.tree_construction.specs.Page.Edit.{AddAttributes, AssociateForm, MakeContents, MakeElement, MarkStarted, Put, Remove}
use Rattle.tree_construction.specs.Page.Place.{LastChild}
use Rattle.tree_construction.specs.Parser.{Parser, associated_with, insert_void, inserted, inserted_at, on_page, place_of, takes_form}
use Rattle.tree_construction.specs.Tokens.{StartTagOf}
use Rattle.tree_laws.proofs.Numbers.{AreOpenBelow, IsPlaceBelow, IsPointerBelow, Numbers, PageNumbers, made-before, node-below, numbers-on_page, numbers-popped, numbers-popped_to_first, own, place-made, place_of-below, raised-opened, raised-place, raised-pointer, root-below, some-made, with-edit, with-page}

-- ---- elements

-- the element that is made, with its contents
numbers-made : (k : ℕ) (kind : Kind) (name : List ℕ) (attributes : List AttributeOf) (page : Page) → PageNumbers k page
    → PageNumbers k (made kind name attributes page)
unfolding AreOrderly next_number
numbers-made k kind name attributes page h = by_test (is_template kind)
  where
    n : ℕ
    n = page.next

    make : Edit
    make = MakeElement n (namespace_of kind) name (adjusted_attributes (namespace_of kind) attributes)

    by_test : (test : Bool) → PageNumbers k (record page {
      next = if test then suc (suc n) else suc n;
      edits = if test then MakeContents n (suc n) ∷ make ∷ page.edits else make ∷ page.edits;
    })
    by_test true = record {
      rises = omega (arith, h.rises);
      begun = omega (arith, h.begun);
      next = refl;
      orderly = ((refl, refl), (h.next, h.orderly));
      opened = raised-opened n (suc (suc n)) page.opened (omega arith) h.opened;
    }
    by_test false = record {
      rises = omega (arith, h.rises);
      begun = omega (arith, h.begun);
      next = refl;
      orderly = (h.next, h.orderly);
      opened = raised-opened n (suc n) page.opened (omega arith) h.opened;
    }

-- its number, and that of its contents, are below the next one
new-below : (test : Bool) (n : ℕ) → (if test then suc n else n) < (if test then suc (suc n) else suc n)
new-below true n = omega arith
new-below false n = omega arith

next-below : (test : Bool) (n : ℕ) → n < (if test then suc (suc n) else suc n)
next-below true n = omega arith
next-below false n = omega arith

-- it is put, and pushed
pushed-put : (k n : ℕ) (kind : Kind) (name : List ℕ) (place : Place) (page : Page) → IsPlaceBelow page.next place → n < page.next
    → (if is_template kind then suc n else n) < page.next → PageNumbers k page → PageNumbers k (pushed kind name n (edited (Put place n) page))
unfolding AreOpenBelow next_number
pushed-put k n kind name place page below less inner h =
    let made : IsPlaceMade page.edits place = place-made page.edits place (subst (λ m. IsPlaceBelow m place) h.next below) in
    let put : PageNumbers k (edited (Put place n) page) = with-edit k (Put place n) page refl (made, made-before k n page h less) h in
    record { rises = put.rises; begun = put.begun; next = put.next; orderly = put.orderly; opened = (inner, put.opened) }

associated : (k n form : ℕ) (place : Place) (page : Page) → IsPlaceBelow page.next place → n < page.next → form < page.next → PageNumbers k page
    → PageNumbers k (edited (AssociateForm n form place) page)
unfolding next_number
associated k n form place page below less form_less h =
    let made : IsPlaceMade page.edits place = place-made page.edits place (subst (λ m. IsPlaceBelow m place) h.next below) in
    with-edit k (AssociateForm n form place) page refl (made-before k n page h less, made-before k form page h form_less, made) h

inserted-page : (k n : ℕ) (kind : Kind) (name : List ℕ) (place : Place) (form : Option ℕ) (takes : Bool) (page : Page)
    → IsPlaceBelow page.next place → n < page.next → (if is_template kind then suc n else n) < page.next → IsPointerBelow page.next form
    → PageNumbers k page → PageNumbers k (pushed kind name n (edited (Put place n) (associated_with form takes n place page)))
inserted-page k n kind name place None takes page below less inner pointer h = pushed-put k n kind name place page below less inner h
inserted-page k n kind name place (Some form) false page below less inner pointer h = pushed-put k n kind name place page below less inner h
inserted-page k n kind name place (Some form) true page below less inner pointer h =
    pushed-put k n kind name place (edited (AssociateForm n form place) page) below less inner (associated k n form place page below less pointer h)

-- the next number of an inserted element's page is that of the page in which it was made
associated-next : (form : Option ℕ) (takes : Bool) (n : ℕ) (place : Place) (page : Page) → (associated_with form takes n place page).next ≡ page.next
associated-next None takes n place page = refl
associated-next (Some form) true n place page = refl
associated-next (Some form) false n place page = refl

pub inserted-next : (place : Place) (kind : Kind) (name : List ℕ) (attributes : List AttributeOf) (p : Parser)
    → p.page.next < (inserted_at place kind name attributes p).page.next
inserted-next place kind name attributes p =
    subst (λ m. p.page.next < m)
    (sym (associated-next p.form (takes_form p kind attributes) p.page.next place (made kind name attributes p.page)))
    (next-below (is_template kind) p.page.next)

pub inserted-at : (k : ℕ) (place : Place) (kind : Kind) (name : List ℕ) (attributes : List AttributeOf) (p : Parser) → IsPlaceBelow p.page.next place
    → Numbers k p → Numbers k (inserted_at place kind name attributes p)
inserted-at k place kind name attributes p below h =
    let n : ℕ = p.page.next in
    let page : Page = made kind name attributes p.page in
    let less : n < page.next = next-below (is_template kind) n in
    let le : n ≤ page.next = omega (arith, less) in
    with-page k p _
    (inserted-page n n kind name place p.form (takes_form p kind attributes) page (raised-place n page.next place le below) less
    (new-below (is_template kind) n) (raised-pointer n page.next p.form le h.of_form) (numbers-made n kind name attributes p.page (own k p h))) h

pub numbers-inserted : (k : ℕ) (kind : Kind) (name : List ℕ) (attributes : List AttributeOf) (p : Parser) → Numbers k p
    → Numbers k (inserted kind name attributes p)
numbers-inserted k kind name attributes p h = inserted-at k (place_of 0 p) kind name attributes p (place_of-below k 0 p h) h

pub numbers-insert_void : (k : ℕ) (tag : StartTagOf) (p : Parser) → Numbers k p → Numbers k (insert_void tag p)
numbers-insert_void k tag p h =
    let later : Parser = inserted_at (place_of 1 p) (kind_of tag.name) tag.name tag.attributes p in
    numbers-on_page k popped numbers-popped later
    (inserted-at k (place_of 1 p) (kind_of tag.name) tag.name tag.attributes p (place_of-below k 1 p h) h)

pub numbers-insert_foreign : (k : ℕ) (namespace : Namespace) (tag : StartTagOf) (p : Parser) → Numbers k p → Numbers k (insert_foreign namespace tag p)
numbers-insert_foreign k namespace tag p h =
    inserted-at k (place_of (depth_extra tag.self_closing) p) _ _ tag.attributes p (place_of-below k (depth_extra tag.self_closing) p h) h

-- the root element, in the document
pub numbers-with_root : (k : ℕ) (attributes : List AttributeOf) (p : Parser) → Numbers k p → Numbers k (with_root attributes p)
numbers-with_root k attributes p h =
    let n : ℕ = p.page.next in
    let page : Page = made HtmlRoot (codes "html") attributes p.page in
    let begun : 3 ≤ n = h.of_page.begun in
    let some : 0 < suc n = omega arith in
    with-page k p _
    (pushed-put n n HtmlRoot (codes "html") (LastChild 0) page some (omega arith) (omega arith) (numbers-made n HtmlRoot (codes "html") attributes p.page (own k p h))) h

-- ---- edits of open elements

numbered : (k : ℕ) (edit : Edit) (n : ℕ) (p : Parser) → ((edits : List Edit) → next_number (edit ∷ edits) ≡ next_number edits)
    → (IsMade p.page.edits n → IsOrderlyEdit edit p.page.edits) → n < p.page.next → Numbers k p → Numbers k (on_page (edited edit) p)
numbered k edit n p same orderly below h =
    with-page k p _ (with-edit p.page.next edit p.page (same p.page.edits) (orderly (made-before k n p.page h.of_page below)) (own k p h)) h

pub numbers-add_to_root : (k : ℕ) (tag : StartTagOf) (p : Parser) → Numbers k p → Numbers k (add_to_root tag p)
unfolding next_number
numbers-add_to_root k tag p h =
    numbered k (AddAttributes (first_open p.page.opened) tag.attributes) (first_open p.page.opened) p (λ edits. refl) (λ made. made) (root-below k p h) h

current-below : (n : ℕ) (es : List Open) → 0 < n → AreOpenBelow n es → current_number es < n
unfolding AreOpenBelow
current-below n [] some below = some
current-below n (e ∷ es) some below = node-below e n below.0

pub numbers-mark_current : (k : ℕ) (p : Parser) → Numbers k p → Numbers k (mark_current p)
unfolding next_number
numbers-mark_current k p h =
    numbered k (MarkStarted (current_number p.page.opened)) (current_number p.page.opened) p (λ edits. refl) (λ made. made)
    (current-below p.page.next p.page.opened (some-made k p h) h.of_page.opened) h

body-below : (n : ℕ) (es : List Open) → AreOpenBelow n es → IsPointerBelow n (second_body es)
unfolding AreOpenBelow second_body
body-below n [] below = tt
body-below n (e ∷ []) below = tt
body-below n (e ∷ html ∷ []) below = by_test (is_body e.kind)
  where
    by_test : (test : Bool) → IsPointerBelow n (if test then Some e.node else None)
    by_test true = node-below e n below.0
    by_test false = tt
body-below n (e ∷ outer ∷ third ∷ es) below = body-below n (outer ∷ third ∷ es) below.1

added-to-body : (k : ℕ) (body : Option ℕ) (tag : StartTagOf) (page : Page) → IsPointerBelow page.next body → PageNumbers k page
    → PageNumbers k (added_to_body body tag page)
unfolding next_number
added-to-body k None tag page below h = h
added-to-body k (Some n) tag page below h = with-edit k (AddAttributes n tag.attributes) page refl (made-before k n page h below) h

pub numbers-add_to_body : (k : ℕ) (tag : StartTagOf) (p : Parser) → Numbers k p → Numbers k (add_to_body tag p)
numbers-add_to_body k tag p h =
    with-page k p _
    (added-to-body p.page.next (second_body p.page.opened) tag p.page (body-below p.page.next p.page.opened h.of_page.opened) (own k p h)) h

removed-body : (k : ℕ) (body : Option ℕ) (page : Page) → IsPointerBelow page.next body → PageNumbers k page → PageNumbers k (removed_body body page)
unfolding next_number
removed-body k None page below h = h
removed-body k (Some n) page below h = with-edit k (Remove n) page refl (made-before k n page h below) h

pub numbers-without_body : (k : ℕ) (p : Parser) → Numbers k p → Numbers k (without_body p)
numbers-without_body k p h =
    with-page k p _ (numbers-popped_to_first p.page.next _
    (removed-body p.page.next (second_body p.page.opened) p.page (body-below p.page.next p.page.opened h.of_page.opened) (own k p h))) h
