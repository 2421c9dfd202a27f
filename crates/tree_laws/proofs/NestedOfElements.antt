-- The document is a tree: texts, comments and elements that are made and put, and edits of open elements.
use Rattle.std.proofs.Common.{◌≡◌, ℕ, ◌<◌, ◌≤◌, Bool, true, false, List, ◌∷◌, refl, ap, sym, subst, arith}
use Rattle.std.specs.Prelude.{suc, Option, Some, None, codes, if◌then◌else◌}
use Rattle.markup5ever.specs.Names.{AttributeOf}
use Rattle.tree_construction.specs.declared.kinds.Kind.{Kind}
use Rattle.tree_construction.specs.declared.kinds.Kind.TheVariants.{HtmlRoot}
use Rattle.tree_construction.specs.declared.kinds.Namespace.{Namespace}
use Rattle.tree_construction.specs.declared.modes.QuirksMode.{QuirksMode}
use Rattle.html5ever_interface.specs.Token.{DoctypeOf}
use Rattle.tree_construction.specs.Adjusting.{adjusted_attributes}
use Rattle.tree_construction.specs.BeforeBody.{add_to_root, current_number, mark_current, or_empty, put_doctype, set_quirks_mode, with_root}
use Rattle.tree_construction.specs.InBody.{add_to_body, added_to_body, depth_extra, insert_foreign, removed_body, without_body}
use Rattle.tree_construction.specs.Names.{is_template, kind_of, namespace_of}
use Rattle.tree_construction.specs.Page.{Edit, Open, Page, Place, comment_put, edited, first_open, made, popped, popped_to_first, second_body}
use Rattle.tree_construction.specs.Page.Edit.{AddAttributes, AssociateForm, MakeComment, MakeContents, MakeElement, MarkStarted, Put, PutDoctype, PutText, Remove, SetQuirksMode}
use Rattle.tree_construction.specs.Page.Place.{LastChild}
use Rattle.tree_construction.specs.Parser.{Parser, associated_with, insert_comment, insert_comment_in_document, insert_comment_in_root, insert_text, insert_void, inserted, inserted_at, on_page, place_in, place_of, takes_form}
use Rattle.tree_construction.specs.Tokens.{StartTagOf}
use Rattle.tree_laws.specs.Laws.{AreOrderly, next_number}
use Rattle.tree_laws.specs.Trees.{AreNested, AreOutside, KeepTree, KeepsTree, parent_after, template_after}
use Rattle.tree_laws.proofs.Numbers.{AreOpenBelow, IsPlaceBelow, Numbers, numbers-insert_comment, numbers-insert_comment_in_document, numbers-insert_comment_in_root, numbers-insert_text, place_of-below, raised-opened, root-below, some-made}
use Rattle.tree_laws.proofs.NumbersOfElements.{inserted-at, numbers-add_to_body, numbers-add_to_root, numbers-mark_current, numbers-with_root, numbers-without_body}
use Rattle.tree_laws.proofs.NumbersOfPointers.{numbers-put_doctype, numbers-set_quirks_mode}
use Rattle.tree_laws.proofs.Trees.{AddsNone, contents-keep, outside-new, removal-adds-none, same-lines, stays-outside}
use Rattle.tree_laws.proofs.Nested.{IsAlone, IsPut, Nests, TreeOf, alone, alone-after, nested-kept, nested-on_page, nested-popped, nested-same, nests-popped_to_first_in, outside-fresh, plainly, put-alone}

-- ---- texts and comments

pub nested-insert_text : (k : ℕ) (text : List ℕ) (p : Parser) → TreeOf k p → TreeOf k (insert_text text p)
unfolding parent_after template_after
nested-insert_text k text p h =
    let edit : Edit = PutText (place_in p p.page.opened) text in
    plainly k edit p (same-lines p.page.edits (edit ∷ p.page.edits) (λ m. refl) (λ m. refl)) tt (numbers-insert_text k text p h.numbers) h

comment : (k : ℕ) (place : Place) (text : List ℕ) (p : Parser) → IsPlaceBelow p.page.next place → Numbers k (on_page (comment_put place text) p)
    → TreeOf k p → TreeOf k (on_page (comment_put place text) p)
unfolding KeepTree parent_after template_after
comment k place text p below numbers h =
    let n : ℕ = p.page.next in
    let before : List Edit = p.page.edits in
    let made : List Edit = MakeComment n text ∷ before in
    let same : n ≡ next_number before = h.numbers.of_page.next in
    let adds : AddsNone before made = same-lines before made (λ m. refl) (λ m. refl) in
    let new : IsAlone n made =
    alone-after n before made (λ m. refl) adds (subst (λ i. IsAlone i before) (sym same) (alone before h.numbers.of_page.orderly)) in
    let put : IsPut place n made p.page.opened =
    put-alone place n made p.page.opened new below h.numbers.of_page.begun h.numbers.of_page.opened (nested-same before made p.page.opened adds h.nested) in
    record { numbers = numbers; tree = (put.keeps, (tt, h.tree)); nested = put.nested }

pub nested-insert_comment : (k : ℕ) (text : List ℕ) (p : Parser) → TreeOf k p → TreeOf k (insert_comment text p)
nested-insert_comment k text p h =
    comment k (place_of 1 p) text p (place_of-below k 1 p h.numbers) (numbers-insert_comment k text p h.numbers) h

pub nested-insert_comment_in_document : (k : ℕ) (text : List ℕ) (p : Parser) → TreeOf k p → TreeOf k (insert_comment_in_document text p)
nested-insert_comment_in_document k text p h =
    comment k (LastChild 0) text p (some-made k p h.numbers) (numbers-insert_comment_in_document k text p h.numbers) h

pub nested-insert_comment_in_root : (k : ℕ) (text : List ℕ) (p : Parser) → TreeOf k p → TreeOf k (insert_comment_in_root text p)
nested-insert_comment_in_root k text p h =
    comment k (LastChild (first_open p.page.opened)) text p (root-below k p h.numbers) (numbers-insert_comment_in_root k text p h.numbers) h

-- ---- elements

-- a node that was just made, among open elements that are older
pub record IsNew (n : ℕ) (edits : List Edit) (es : List Open) : Type 0 where
  pub is_alone : IsAlone n edits
  pub tree : KeepTree edits
  pub nested : AreNested edits es

new-after : (n : ℕ) (edit : Edit) (edits : List Edit) (es : List Open) → ((m : ℕ) → parent_after (edit ∷ edits) m ≡ parent_after edits m)
    → ((m : ℕ) → template_after (edit ∷ edits) m ≡ template_after edits m) → KeepsTree edit edits → IsNew n edits es → IsNew n (edit ∷ edits) es
unfolding KeepTree
new-after n edit edits es parents templates keeps h =
    let adds : AddsNone edits (edit ∷ edits) = same-lines edits (edit ∷ edits) parents templates in
    record {
      is_alone = alone-after n edits (edit ∷ edits) parents adds h.is_alone;
      tree = (keeps, h.tree);
      nested = nested-same edits (edit ∷ edits) es adds h.nested;
    }

new-with-contents : (n : ℕ) (edits : List Edit) (es : List Open) → AreOrderly edits → next_number edits ≡ suc n → 3 ≤ n → AreOpenBelow (suc n) es
    → IsNew n edits es → IsNew n (MakeContents n (suc n) ∷ edits) es
unfolding KeepTree parent_after
new-with-contents n edits es orderly next begun below h =
    let after : List Edit = MakeContents n (suc n) ∷ edits in
    let le : next_number edits ≤ suc n = subst (λ i. i ≤ suc n) (sym next) (omega arith) in
    record {
      is_alone = record {
        no_parent = h.is_alone.no_parent;
        parents = h.is_alone.parents;
        below = λ m less. stays-outside (suc n) n edits after m (contents-keep n (suc n) edits)
            (outside-new edits (suc n) m orderly le (subst (λ i. m < i) (sym next) (omega (arith, less)))) (h.is_alone.below m less);
      };
      tree = (outside-new edits (suc n) n orderly le (subst (λ i. n < i) (sym next) (omega arith)), h.tree);
      nested = nested-kept (suc n) edits after es (contents-keep n (suc n) edits)
          (outside-fresh edits (suc n) es orderly le (subst (λ i. 3 ≤ i) (sym next) (omega (arith, begun))) (subst (λ i. AreOpenBelow i es) (sym next) below)) h.nested;
    }

-- with its contents, if it is a template
pub new-made : (k : ℕ) (kind : Kind) (name : List ℕ) (attributes : List AttributeOf) (p : Parser) (es : List Open) → AreOpenBelow p.page.next es
    → KeepTree p.page.edits → AreNested p.page.edits es → Numbers k p → IsNew p.page.next (made kind name attributes p.page).edits es
unfolding AreOrderly next_number parent_after template_after
new-made k kind name attributes p es below tree nested h = by_test (is_template kind)
  where
    n : ℕ
    n = p.page.next

    make : Edit
    make = MakeElement n (namespace_of kind) name (adjusted_attributes (namespace_of kind) attributes)

    element : IsNew n (make ∷ p.page.edits) es
    element = new-after n make p.page.edits es (λ m. refl) (λ m. refl) tt (record {
      is_alone = subst (λ i. IsAlone i p.page.edits) (sym h.of_page.next) (alone p.page.edits h.of_page.orderly);
      tree = tree;
      nested = nested;
    })

    by_test : (test : Bool) → IsNew n (if test then MakeContents n (suc n) ∷ make ∷ p.page.edits else make ∷ p.page.edits) es
    by_test true = new-with-contents n (make ∷ p.page.edits) es (h.of_page.next, h.of_page.orderly) refl h.of_page.begun
        (raised-opened n (suc n) es (omega arith) below) element
    by_test false = element

-- it is put, and becomes the current node
pub record IsPushed (n : ℕ) (edits : List Edit) (es : List Open) : Type 0 where
  pub tree : KeepTree edits
  pub nested : AreNested edits es
  pub outside : AreOutside edits n es

pushed-new : (n : ℕ) (place : Place) (edits : List Edit) (es : List Open) → IsPlaceBelow n place → 3 ≤ n → AreOpenBelow n es → IsNew n edits es
    → IsPushed n (Put place n ∷ edits) es
unfolding KeepTree
pushed-new n place edits es place_below begun below h =
    let put : IsPut place n edits es = put-alone place n edits es h.is_alone place_below begun below h.nested in
    record { tree = (put.keeps, h.tree); nested = put.nested; outside = put.outside }

new-associated : (n : ℕ) (form : Option ℕ) (takes : Bool) (place : Place) (page : Page) (es : List Open) → IsNew n page.edits es
    → IsNew n (associated_with form takes n place page).edits es
unfolding parent_after template_after
new-associated n None takes place page es h = h
new-associated n (Some form) false place page es h = h
new-associated n (Some form) true place page es h =
    new-after n (AssociateForm n form place) page.edits es (λ m. refl) (λ m. refl) tt h

associated-opened : (form : Option ℕ) (takes : Bool) (n : ℕ) (place : Place) (page : Page) → (associated_with form takes n place page).opened ≡ page.opened
associated-opened None takes n place page = refl
associated-opened (Some form) true n place page = refl
associated-opened (Some form) false n place page = refl

-- among open elements
pub pushed-at : (k : ℕ) (place : Place) (kind : Kind) (name : List ℕ) (attributes : List AttributeOf) (p : Parser) (es : List Open)
    → IsPlaceBelow p.page.next place → AreOpenBelow p.page.next es → KeepTree p.page.edits → AreNested p.page.edits es → Numbers k p
    → IsPushed p.page.next (inserted_at place kind name attributes p).page.edits es
pushed-at k place kind name attributes p es place_below below tree nested h =
    let n : ℕ = p.page.next in
    let page : Page = made kind name attributes p.page in
    let takes : Bool = takes_form p kind attributes in
    pushed-new n place (associated_with p.form takes n place page).edits es place_below h.of_page.begun below
    (new-associated n p.form takes place page es (new-made k kind name attributes p es below tree nested h))

pub inserted-opened : (place : Place) (kind : Kind) (name : List ℕ) (attributes : List AttributeOf) (p : Parser)
    → (inserted_at place kind name attributes p).page.opened ≡ record { node = p.page.next; kind = kind; name = name } ∷ p.page.opened
inserted-opened place kind name attributes p =
    ap (λ es. record { node = p.page.next; kind = kind; name = name } ∷ es)
    (associated-opened p.form (takes_form p kind attributes) p.page.next place (made kind name attributes p.page))

put-at : (k : ℕ) (place : Place) (kind : Kind) (name : List ℕ) (attributes : List AttributeOf) (p : Parser) → IsPlaceBelow p.page.next place
    → TreeOf k p → TreeOf k (inserted_at place kind name attributes p)
unfolding AreNested
put-at k place kind name attributes p below h =
    let later : Parser = inserted_at place kind name attributes p in
    let put : IsPushed p.page.next later.page.edits p.page.opened =
    pushed-at k place kind name attributes p p.page.opened below h.numbers.of_page.opened h.tree h.nested h.numbers in
    record {
      numbers = inserted-at k place kind name attributes p below h.numbers;
      tree = put.tree;
      nested = subst (λ es. AreNested later.page.edits es) (sym (inserted-opened place kind name attributes p)) (put.outside, put.nested);
    }

pub nested-inserted : (k : ℕ) (kind : Kind) (name : List ℕ) (attributes : List AttributeOf) (p : Parser) → TreeOf k p
    → TreeOf k (inserted kind name attributes p)
nested-inserted k kind name attributes p h = put-at k (place_of 0 p) kind name attributes p (place_of-below k 0 p h.numbers) h

pub nested-insert_void : (k : ℕ) (tag : StartTagOf) (p : Parser) → TreeOf k p → TreeOf k (insert_void tag p)
nested-insert_void k tag p h =
    let later : Parser = inserted_at (place_of 1 p) (kind_of tag.name) tag.name tag.attributes p in
    let kept : TreeOf k later = put-at k (place_of 1 p) (kind_of tag.name) tag.name tag.attributes p (place_of-below k 1 p h.numbers) h in
    let left : TreeOf k (on_page popped later) = nested-on_page k popped nested-popped later kept in
    record { numbers = left.numbers; tree = left.tree; nested = left.nested }

pub nested-insert_foreign : (k : ℕ) (namespace : Namespace) (tag : StartTagOf) (p : Parser) → TreeOf k p → TreeOf k (insert_foreign namespace tag p)
nested-insert_foreign k namespace tag p h =
    put-at k (place_of (depth_extra tag.self_closing) p) _ _ tag.attributes p (place_of-below k (depth_extra tag.self_closing) p h.numbers) h

-- the root element, in the document
pub nested-with_root : (k : ℕ) (attributes : List AttributeOf) (p : Parser) → TreeOf k p → TreeOf k (with_root attributes p)
unfolding AreNested
nested-with_root k attributes p h =
    let n : ℕ = p.page.next in
    let put : IsPushed n (Put (LastChild 0) n ∷ (made HtmlRoot (codes "html") attributes p.page).edits) p.page.opened =
    pushed-new n (LastChild 0) (made HtmlRoot (codes "html") attributes p.page).edits p.page.opened (some-made k p h.numbers) h.numbers.of_page.begun
    h.numbers.of_page.opened (new-made k HtmlRoot (codes "html") attributes p p.page.opened h.numbers.of_page.opened h.tree h.nested h.numbers) in
    record { numbers = numbers-with_root k attributes p h.numbers; tree = put.tree; nested = (put.outside, put.nested) }

-- ---- edits of open elements, and of the document

pub nested-add_to_root : (k : ℕ) (tag : StartTagOf) (p : Parser) → TreeOf k p → TreeOf k (add_to_root tag p)
unfolding parent_after template_after
nested-add_to_root k tag p h =
    let edit : Edit = AddAttributes (first_open p.page.opened) tag.attributes in
    plainly k edit p (same-lines p.page.edits (edit ∷ p.page.edits) (λ m. refl) (λ m. refl)) tt (numbers-add_to_root k tag p h.numbers) h

pub nested-mark_current : (k : ℕ) (p : Parser) → TreeOf k p → TreeOf k (mark_current p)
unfolding parent_after template_after
nested-mark_current k p h =
    let edit : Edit = MarkStarted (current_number p.page.opened) in
    plainly k edit p (same-lines p.page.edits (edit ∷ p.page.edits) (λ m. refl) (λ m. refl)) tt (numbers-mark_current k p h.numbers) h

added-to : (body : Option ℕ) (tag : StartTagOf) (page : Page) → KeepTree page.edits → AreNested page.edits page.opened
    → Nests (added_to_body body tag page)
unfolding KeepTree parent_after template_after
added-to None tag page tree nested = (tree, nested)
added-to (Some n) tag page tree nested =
    let after : List Edit = AddAttributes n tag.attributes ∷ page.edits in
    ((tt, tree), nested-same page.edits after page.opened (same-lines page.edits after (λ m. refl) (λ m. refl)) nested)

pub nested-add_to_body : (k : ℕ) (tag : StartTagOf) (p : Parser) → TreeOf k p → TreeOf k (add_to_body tag p)
nested-add_to_body k tag p h =
    let added : Nests (added_to_body (second_body p.page.opened) tag p.page) = added-to (second_body p.page.opened) tag p.page h.tree h.nested in
    record { numbers = numbers-add_to_body k tag p h.numbers; tree = added.0; nested = added.1 }

removed : (body : Option ℕ) (page : Page) → KeepTree page.edits → AreNested page.edits page.opened → Nests (removed_body body page)
unfolding KeepTree
removed None page tree nested = (tree, nested)
removed (Some n) page tree nested =
    ((tt, tree), nested-same page.edits (Remove n ∷ page.edits) page.opened (removal-adds-none n page.edits) nested)

pub nested-without_body : (k : ℕ) (p : Parser) → TreeOf k p → TreeOf k (without_body p)
nested-without_body k p h =
    let page : Page = removed_body (second_body p.page.opened) p.page in
    let without : Nests page = removed (second_body p.page.opened) p.page h.tree h.nested in
    let later : Nests (popped_to_first page) = nests-popped_to_first_in page.opened page without.1 without in
    record { numbers = numbers-without_body k p h.numbers; tree = later.0; nested = later.1 }

pub nested-set_quirks_mode : (k : ℕ) (mode : QuirksMode) (p : Parser) → TreeOf k p → TreeOf k (set_quirks_mode mode p)
unfolding parent_after template_after
nested-set_quirks_mode k mode p h =
    let edit : Edit = SetQuirksMode mode in
    let set : Numbers k (on_page (edited edit) p) = numbers-set_quirks_mode k mode p h.numbers in
    let plain : TreeOf k (on_page (edited edit) p) =
    plainly k edit p (same-lines p.page.edits (edit ∷ p.page.edits) (λ m. refl) (λ m. refl)) tt set h in
    record { numbers = set; tree = plain.tree; nested = plain.nested }

pub nested-put_doctype : (k : ℕ) (doctype : DoctypeOf) (p : Parser) → TreeOf k p → TreeOf k (put_doctype doctype p)
unfolding parent_after template_after
nested-put_doctype k doctype p h =
    let edit : Edit = PutDoctype (or_empty doctype.name) (or_empty doctype.public_id) (or_empty doctype.system_id) in
    plainly k edit p (same-lines p.page.edits (edit ∷ p.page.edits) (λ m. refl) (λ m. refl)) tt (numbers-put_doctype k doctype p h.numbers) h
