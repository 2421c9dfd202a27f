-- The document is a tree: forms that are closed, "after head", and the start of parsing.
use Rattle.std.proofs.Common.{◌≡◌, ℕ, ◌<◌, Bool, true, false, List, [], ◌∷◌, refl, sym, ◌∙◌, subst, arith}
use Rattle.std.specs.Prelude.{◌==◌, Option, Some, None, codes, if◌then◌else◌}
use Rattle.std.proofs.lemmas.Bool.{eq-eqb, eqb-true}
use Rattle.markup5ever.specs.Names.{AttributeOf}
use Rattle.tree_construction.specs.declared.kinds.Kind.{Kind}
use Rattle.tree_construction.specs.declared.kinds.Kind.TheVariants.{Head, Title, Meta, Style, Script, Noframes, Template}
use Rattle.tree_construction.specs.declared.modes.Mode.TheVariants.{InTemplate}
use Rattle.tree_construction.specs.declared.mistakes.Mistake.TheVariants.{UnclosedElements, UnexpectedToken}
use Rattle.tree_construction.specs.BeforeBody.{asks_content, asks_encoding, current_number, is_content_type, mark_current, start_after_head, start_in_head, start_script, start_template, within_head_of, with_root}
use Rattle.tree_construction.specs.Construction.{empty_parser, start, start_by}
use Rattle.tree_construction.specs.Formatting.{with_marker}
use Rattle.tree_construction.specs.InBody.{end_block, end_form, end_form_of}
use Rattle.tree_construction.specs.Names.{ends_scope, is_form, is_implied, kind_of}
use Rattle.tree_construction.specs.Page.{Edit, Open, Page, Place, current_passes, has_in_scope, has_kind, has_number, popped, popped_of, popped_while, pushed, removed_from_stack, without_open}
use Rattle.tree_construction.specs.Page.Edit.{MarkStarted, Pop}
use Rattle.tree_construction.specs.Parser.{Context, Entry, Options, Parser, expects_current, has_template, insert, insert_void, inserted_at, is_fragment, mistaken, on_page, place_of, unexpected}
use Rattle.tree_construction.specs.Tokens.{StartTagOf, value_of}
use Rattle.tree_laws.specs.Trees.{AreNested, KeepTree, parent_after, template_after}
use Rattle.tree_laws.proofs.Numbers.{below-without, AreOpenBelow, IsPlaceBelow, IsPointerBelow, Numbers, PartNumbers, numbers-on_page, numbers-popped, own, place_of-below, removed-from-stack, with-page}
use Rattle.tree_laws.proofs.NumbersOfElements.{inserted-at, inserted-next, numbers-mark_current}
use Rattle.tree_laws.proofs.NumbersOfLists.{numbers-with_marker}
use Rattle.tree_laws.proofs.NumbersOfAdoption.{noted-next}
use Rattle.tree_laws.proofs.NumbersOfPointers.{head-pushed, implied-next, lowered, numbers-empty, numbers-start_by, raised}
use Rattle.tree_laws.proofs.Trees.{same-lines}
use Rattle.tree_laws.proofs.Nested.{TreeOf, nested-if-parser, nested-mistaken, nested-on_page, nested-popped_while, nested-removed-from-stack, nested-same, own-tree, pop-adds-none, with-tree}
use Rattle.tree_laws.proofs.NestedOfElements.{IsPushed, inserted-opened, nested-insert_void, nested-inserted, nested-mark_current, nested-with_root, pushed-at}
use Rattle.tree_laws.proofs.NestedOfLists.{nested-end_block, nested-expected, nested-with_marker}

-- ---- a form that is closed

nested-end_form_of : (k : ℕ) (form : Option ℕ) (p : Parser) → IsPointerBelow p.page.next form → TreeOf k p → TreeOf k (end_form_of form p)
nested-end_form_of k None p below h = nested-mistaken k UnexpectedToken p h
nested-end_form_of k (Some n) p below h =
    let without : Parser = record p { form = None } in
    let numbers : Numbers k without =
    record { of_page = h.numbers.of_page; of_list = h.numbers.of_list; of_head = h.numbers.of_head; of_form = tt } in
    let kept : TreeOf k without = record { numbers = numbers; tree = h.tree; nested = h.nested } in
    let later : Parser = on_page (popped_while (has_kind is_implied)) without in
    let expected : Parser = expects_current (has_number n) later in
    let same : expected.page.next ≡ p.page.next =
    noted-next (current_passes (has_number n) later.page.opened) UnclosedElements later ∙ implied-next (has_kind is_implied) p.page.opened p.page in
    let less : n < expected.page.next = subst (λ i. n < i) (sym same) below in
    let good : TreeOf k expected =
    nested-expected k (has_number n) later (nested-on_page k (popped_while (has_kind is_implied)) (λ k. nested-popped_while k (has_kind is_implied)) without kept) in
    nested-if-parser k (has_in_scope ends_scope (has_number n) p.page.opened) (on_page (removed_from_stack n) expected) (mistaken UnexpectedToken without)
    (with-tree k expected _ (nested-removed-from-stack expected.page.next n expected.page less (own-tree k expected good)) good)
    (nested-mistaken k UnexpectedToken without kept)

pub nested-end_form : (k : ℕ) (p : Parser) → TreeOf k p → TreeOf k (end_form p)
nested-end_form k p h =
    nested-if-parser k (has_template p) (end_block (has_kind is_form) p) (end_form_of p.form p) (nested-end_block k (has_kind is_form) p h)
    (nested-end_form_of k p.form p h.numbers.of_form h)

-- ---- "after head"

-- For one token the head is on the stack, where it need not be around what is open. Without it the elements are nested.
record PartWithHead (k n : ℕ) (page : Page) (formatting : List Entry) (head form : Option ℕ) : Type 0 where
  pub numbers : PartNumbers k page formatting head form
  pub older : n < page.next
  pub tree : KeepTree page.edits
  pub nested : AreNested page.edits (without_open n page.opened)

abbrev WithHead : ℕ → ℕ → Parser → Type 0
WithHead k n p = PartWithHead k n p.page p.formatting p.head p.form

not-older : (m n : ℕ) → n < m → (m == n) ≡ false
not-older m n less = by_test (m == n) refl
  where
    not-self : m ≡ n → ⊥
    not-self same = omega (arith, same, less)

    by_test : (test : Bool) → (m == n) ≡ test → test ≡ false
    by_test true is = absurd (not-self (eqb-true m n is))
    by_test false is = refl

head-inserted : (k n : ℕ) (place : Place) (kind : Kind) (name : List ℕ) (attributes : List AttributeOf) (p : Parser) → IsPlaceBelow p.page.next place
    → WithHead k n p → WithHead k n (inserted_at place kind name attributes p)
unfolding AreNested without_open
head-inserted k n place kind name attributes p below h =
    let later : Parser = inserted_at place kind name attributes p in
    let es : List Open = without_open n p.page.opened in
    let e : Open = record { node = p.page.next; kind = kind; name = name } in
    let put : IsPushed p.page.next later.page.edits es =
    pushed-at k place kind name attributes p es below (below-without p.page.next n p.page.opened h.numbers.of_page.opened) h.tree h.nested h.numbers in
    let rises : p.page.next < later.page.next = inserted-next place kind name attributes p in
    let pushed_on : AreNested later.page.edits (if p.page.next == n then p.page.opened else e ∷ es) =
    subst (λ test. AreNested later.page.edits (if test then p.page.opened else e ∷ es)) (sym (not-older p.page.next n h.older)) (put.outside, put.nested) in
    record {
      numbers = inserted-at k place kind name attributes p below h.numbers;
      older = omega (arith, h.older, rises);
      tree = put.tree;
      nested = subst (λ all. AreNested later.page.edits (without_open n all)) (sym (inserted-opened place kind name attributes p)) pushed_on;
    }

head-insert : (k n : ℕ) (tag : StartTagOf) (p : Parser) → WithHead k n p → WithHead k n (insert tag p)
head-insert k n tag p h = head-inserted k n (place_of 0 p) (kind_of tag.name) tag.name tag.attributes p (place_of-below k 0 p h.numbers) h

-- an element that is popped at once
void-popped : (k n : ℕ) (e : Open) (es : List Open) (p : Parser) → p.page.opened ≡ e ∷ es → (e.node == n) ≡ false → WithHead k n p
    → AreNested (Pop e.node ∷ p.page.edits) (without_open n es)
unfolding AreNested without_open
void-popped k n e es p opened other h =
    let here : AreNested p.page.edits (without_open n (e ∷ es)) = subst (λ all. AreNested p.page.edits (without_open n all)) opened h.nested in
    let rest : AreNested p.page.edits (e ∷ without_open n es) =
    subst (λ test. AreNested p.page.edits (if test then es else e ∷ without_open n es)) other here in
    nested-same p.page.edits (Pop e.node ∷ p.page.edits) (without_open n es) (pop-adds-none e.node p.page.edits) rest.1

popped-next : (es : List Open) (page : Page) → (popped_of es page).next ≡ page.next
popped-next [] page = refl
popped-next (e ∷ es) page = refl

head-popped : (k n : ℕ) (e : Open) (es : List Open) (p : Parser) → p.page.opened ≡ e ∷ es → (e.node == n) ≡ false → WithHead k n p
    → WithHead k n (on_page popped p)
unfolding KeepTree
head-popped k n e es p opened other h = record {
  numbers = numbers-on_page k popped numbers-popped p h.numbers;
  older = subst (λ i. n < i) (sym (popped-next p.page.opened p.page)) h.older;
  tree = subst (λ all. KeepTree (popped_of all p.page).edits) (sym opened) (tt, h.tree);
  nested = subst (λ all. AreNested (popped_of all p.page).edits (without_open n (popped_of all p.page).opened)) (sym opened) (void-popped k n e es p opened other h);
}

head-void : (k n : ℕ) (tag : StartTagOf) (p : Parser) → WithHead k n p → WithHead k n (insert_void tag p)
head-void k n tag p h =
    let later : Parser = inserted_at (place_of 1 p) (kind_of tag.name) tag.name tag.attributes p in
    let e : Open = record { node = p.page.next; kind = kind_of tag.name; name = tag.name } in
    head-popped k n e p.page.opened later (inserted-opened (place_of 1 p) (kind_of tag.name) tag.name tag.attributes p) (not-older p.page.next n h.older)
    (head-inserted k n (place_of 1 p) (kind_of tag.name) tag.name tag.attributes p (place_of-below k 1 p h.numbers) h)

head-asks : (k n : ℕ) (attributes : List AttributeOf) (charset : Option (List ℕ)) (p : Parser) → WithHead k n p
    → WithHead k n (asks_encoding attributes charset p)
head-asks k n attributes (Some charset) p h = h
head-asks k n attributes None p h = by_content (is_content_type (value_of (codes "http-equiv") attributes)) (value_of (codes "content") attributes)
  where
    by_content : (says : Bool) (content : Option (List ℕ)) → WithHead k n (asks_content says content p)
    by_content true (Some content) = h
    by_content true None = h
    by_content false content = h

head-marked : (k n : ℕ) (p : Parser) → WithHead k n p → WithHead k n (mark_current p)
unfolding KeepTree parent_after template_after
head-marked k n p h =
    let after : List Edit = MarkStarted (current_number p.page.opened) ∷ p.page.edits in
    record {
      numbers = numbers-mark_current k p h.numbers;
      older = h.older;
      tree = (tt, h.tree);
      nested = nested-same p.page.edits after (without_open n p.page.opened) (same-lines p.page.edits after (λ m. refl) (λ m. refl)) h.nested;
    }

head-script : (k n : ℕ) (tag : StartTagOf) (p : Parser) → WithHead k n p → WithHead k n (start_script tag p)
head-script k n tag p h = by_fragment (is_fragment p)
  where
    by_fragment : (test : Bool) → WithHead k n (if test then mark_current (insert tag p) else insert tag p)
    by_fragment true = head-marked k n (insert tag p) (head-insert k n tag p h)
    by_fragment false = head-insert k n tag p h

head-template : (k n : ℕ) (tag : StartTagOf) (p : Parser) → WithHead k n p → WithHead k n (start_template tag p)
head-template k n tag p h =
    let marked : WithHead k n (with_marker p) =
    record { numbers = numbers-with_marker k p h.numbers; older = h.older; tree = h.tree; nested = h.nested } in
    let ready : Parser = record (with_marker p) { frameset_ok = false; mode = InTemplate; template_modes = InTemplate ∷ p.template_modes } in
    head-insert k n tag ready marked

head-started : (k n : ℕ) (kind : Kind) (tag : StartTagOf) (p : Parser) → WithHead k n p → WithHead k n (start_in_head kind tag p)
head-started k n Meta tag p h = head-asks k n tag.attributes (value_of (codes "charset") tag.attributes) (insert_void tag p) (head-void k n tag p h)
head-started k n Title tag p h = head-insert k n tag p h
head-started k n Style tag p h = head-insert k n tag p h
head-started k n Noframes tag p h = head-insert k n tag p h
head-started k n Script tag p h = head-script k n tag p h
head-started k n Template tag p h = head-template k n tag p h
head-started k n other tag p h = head-void k n tag p h

-- the same where no head is on the stack for it
insert-tree : (k : ℕ) (tag : StartTagOf) (p : Parser) → TreeOf k p → TreeOf k (insert tag p)
insert-tree k tag p h = nested-inserted k (kind_of tag.name) tag.name tag.attributes p h

asks-tree : (k : ℕ) (attributes : List AttributeOf) (charset : Option (List ℕ)) (p : Parser) → TreeOf k p → TreeOf k (asks_encoding attributes charset p)
asks-tree k attributes (Some charset) p h = h
asks-tree k attributes None p h = by_content (is_content_type (value_of (codes "http-equiv") attributes)) (value_of (codes "content") attributes)
  where
    by_content : (says : Bool) (content : Option (List ℕ)) → TreeOf k (asks_content says content p)
    by_content true (Some content) = h
    by_content true None = h
    by_content false content = h

script-tree : (k : ℕ) (tag : StartTagOf) (p : Parser) → TreeOf k p → TreeOf k (start_script tag p)
script-tree k tag p h = by_fragment (is_fragment p)
  where
    by_fragment : (test : Bool) → TreeOf k (if test then mark_current (insert tag p) else insert tag p)
    by_fragment true = nested-mark_current k (insert tag p) (insert-tree k tag p h)
    by_fragment false = insert-tree k tag p h

template-tree : (k : ℕ) (tag : StartTagOf) (p : Parser) → TreeOf k p → TreeOf k (start_template tag p)
template-tree k tag p h =
    let ready : Parser = record (with_marker p) { frameset_ok = false; mode = InTemplate; template_modes = InTemplate ∷ p.template_modes } in
    insert-tree k tag ready (nested-with_marker k p h)

pub nested-start_in_head : (k : ℕ) (kind : Kind) (tag : StartTagOf) (p : Parser) → TreeOf k p → TreeOf k (start_in_head kind tag p)
nested-start_in_head k Meta tag p h =
    asks-tree k tag.attributes (value_of (codes "charset") tag.attributes) (insert_void tag p) (nested-insert_void k tag p h)
nested-start_in_head k Title tag p h = insert-tree k tag p h
nested-start_in_head k Style tag p h = insert-tree k tag p h
nested-start_in_head k Noframes tag p h = insert-tree k tag p h
nested-start_in_head k Script tag p h = script-tree k tag p h
nested-start_in_head k Template tag p h = template-tree k tag p h
nested-start_in_head k other tag p h = nested-insert_void k tag p h

within-head : (k : ℕ) (head : Option ℕ) (kind : Kind) (tag : StartTagOf) (p : Parser) → IsPointerBelow p.page.next head → TreeOf k p
    → TreeOf k (within_head_of head (start_in_head kind tag) p)
unfolding KeepTree without_open
within-head k None kind tag p below h = nested-start_in_head k kind tag p h
within-head k (Some n) kind tag p below h =
    let ready : Parser = on_page (pushed Head (codes "head") n) p in
    let good : Numbers k ready = with-page k p _ (head-pushed p.page.next n p.page below (own k p h.numbers)) h.numbers in
    let first : WithHead p.page.next n ready = record {
      numbers = raised k ready good;
      older = below;
      tree = h.tree;
      nested = subst (λ test. AreNested p.page.edits (if test then p.page.opened else record { node = n; kind = Head; name = codes "head" } ∷ without_open n p.page.opened))
          (sym (eq-eqb n n refl)) h.nested;
    } in
    let later : Parser = start_in_head kind tag ready in
    let kept : WithHead p.page.next n later = head-started p.page.next n kind tag ready first in
    let numbers : Numbers p.page.next (on_page (removed_from_stack n) later) =
    with-page p.page.next later _ (removed-from-stack later.page.next n later.page kept.older (own p.page.next later kept.numbers)) kept.numbers in
    record {
      numbers = lowered k p.page.next (on_page (removed_from_stack n) later) h.numbers.of_page.rises numbers;
      tree = (tt, kept.tree);
      nested = nested-same later.page.edits (Pop n ∷ later.page.edits) (without_open n later.page.opened) (pop-adds-none n later.page.edits) kept.nested;
    }

pub nested-start_after_head : (k : ℕ) (kind : Kind) (tag : StartTagOf) (p : Parser) → TreeOf k p → TreeOf k (start_after_head kind tag p)
nested-start_after_head k kind tag p h =
    let noted : Parser = unexpected p in
    let kept : TreeOf k noted = nested-mistaken k UnexpectedToken p h in
    within-head k p.head kind tag noted kept.numbers.of_head kept

-- ---- the start

pub nested-start : (options : Options) → TreeOf 3 (start options)
unfolding KeepTree AreNested start
nested-start options = started options.context
  where
    empty : Numbers 3 (empty_parser options)
    empty = numbers-empty options

    none : TreeOf 3 (empty_parser options)
    none = record { numbers = empty; tree = tt; nested = tt }

    started : (context : Option Context) → TreeOf 3 (start_by context (empty_parser options))
    started None = none
    started (Some context) =
        let rooted : TreeOf 3 (with_root [] (empty_parser options)) = nested-with_root 3 [] (empty_parser options) none in
        record { numbers = numbers-start_by options (Some context); tree = rooted.tree; nested = rooted.nested }
