-- Edits name nodes that were made: the head and form element pointers, "initial", and the start of parsing.
use Rattle.std.proofs.Common.{◌≡◌, ℕ, ◌<◌, ◌≤◌, Bool, true, false, List, [], ◌∷◌, refl, sym, ◌∙◌, subst, arith}
use Rattle.std.specs.Prelude.{◌&&◌, not, Option, Some, None, codes, if◌then◌else◌}
use Rattle.tree_construction.specs.declared.mistakes.Mistake.TheVariants.{UnclosedElements, UnexpectedToken}
use Rattle.tree_construction.specs.declared.kinds.Kind.{Kind}
use Rattle.tree_construction.specs.declared.kinds.Kind.TheVariants.{Form, Head}
use Rattle.tree_construction.specs.declared.modes.QuirksMode.{QuirksMode}
use Rattle.html5ever_interface.specs.Token.{DoctypeOf}
use Rattle.tree_construction.specs.Construction.{empty_parser, fragment_form, start, start_by}
use Rattle.tree_construction.specs.BeforeBody.{insert_head, or_empty, put_doctype, set_quirks_mode, with_root, within_head, within_head_of}
use Rattle.tree_construction.specs.InBody.{end_block, end_form, end_form_of, insert_form}
use Rattle.tree_construction.specs.Tables.{form_in_table}
use Rattle.tree_laws.specs.Laws.{AreOrderly, IsOrderlyEdit, next_number}
use Rattle.tree_construction.specs.Names.{ends_button_scope, ends_scope, is_form, is_implied, is_paragraph}
use Rattle.tree_construction.specs.Page.{Edit, Open, Page, current_passes, edited, has_in_scope, has_kind, has_number, left, popped, popped_until, popped_while, popped_while_in, pushed, removed_from_stack}
use Rattle.tree_construction.specs.Page.Edit.{PutDoctype, SetQuirksMode}
use Rattle.tree_construction.specs.Parser.{Context, Options, Parser, ended, expects_current, has_template, inserted, mistaken, on_page, place_of, without_paragraph}
use Rattle.tree_construction.specs.Tokens.{StartTagOf}
use Rattle.tree_laws.proofs.Numbers.{AreListedBelow, AreOpenBelow, IsPointerBelow, Numbers, PageNumbers, numbers-if-parser, numbers-mistaken, numbers-on_page, numbers-popped, numbers-popped_until, numbers-popped_while, own, removed-from-stack, with-edit, with-page}
use Rattle.tree_laws.proofs.NumbersOfElements.{inserted-next, numbers-inserted, numbers-with_root}
use Rattle.tree_laws.proofs.NumbersOfAdoption.{noted-next, numbers-expected}

-- ---- the head and form element pointers

with-form : (k : ℕ) (p : Parser) (form : Option ℕ) → IsPointerBelow p.page.next form → Numbers k p → Numbers k (record p { form = form })
with-form k p form below h = record { of_page = h.of_page; of_list = h.of_list; of_head = h.of_head; of_form = below }

with-head : (k : ℕ) (p : Parser) (head : Option ℕ) → IsPointerBelow p.page.next head → Numbers k p → Numbers k (record p { head = head })
with-head k p head below h = record { of_page = h.of_page; of_list = h.of_list; of_head = below; of_form = h.of_form }

named-next : (kind : Kind) (name : List ℕ) (tag : StartTagOf) (p : Parser) → p.page.next < (inserted kind name tag.attributes p).page.next
named-next kind name tag p = inserted-next (place_of 0 p) kind name tag.attributes p

pub numbers-insert_head : (k : ℕ) (tag : StartTagOf) (p : Parser) → Numbers k p → Numbers k (insert_head tag p)
numbers-insert_head k tag p h =
    with-head k (inserted Head (codes "head") tag.attributes p) (Some p.page.next) (named-next Head (codes "head") tag p)
    (numbers-inserted k Head (codes "head") tag.attributes p h)

numbers-without_paragraph : (k : ℕ) (p : Parser) → Numbers k p → Numbers k (without_paragraph p)
numbers-without_paragraph k p h =
    let but : Open → Bool = λ e. is_implied e.kind && not (has_kind is_paragraph e) in
    let later : Parser = on_page (popped_while but) p in
    let expected : Parser = expects_current (has_kind is_paragraph) later in
    numbers-if-parser k (has_in_scope ends_button_scope (has_kind is_paragraph) p.page.opened) (on_page (popped_until (has_kind is_paragraph)) expected) p
    (numbers-on_page k (popped_until (has_kind is_paragraph)) (λ k. numbers-popped_until k (has_kind is_paragraph)) expected
    (numbers-expected k (has_kind is_paragraph) later (numbers-on_page k (popped_while but) (λ k. numbers-popped_while k but) p h))) h

pub numbers-insert_form : (k : ℕ) (tag : StartTagOf) (p : Parser) → Numbers k p → Numbers k (insert_form tag p)
numbers-insert_form k tag p h =
    let ready : Parser = without_paragraph p in
    with-form k (inserted Form (codes "form") tag.attributes ready) (Some ready.page.next) (named-next Form (codes "form") tag ready)
    (numbers-inserted k Form (codes "form") tag.attributes ready (numbers-without_paragraph k p h))

pub numbers-form_in_table : (k : ℕ) (form : Option ℕ) (tag : StartTagOf) (p : Parser) → Numbers k p → Numbers k (form_in_table form tag p)
numbers-form_in_table k (Some n) tag p h = h
numbers-form_in_table k None tag p h =
    let put : Parser = inserted Form (codes "form") tag.attributes p in
    let later : Parser = record put { form = Some p.page.next } in
    numbers-on_page k popped numbers-popped later
    (with-form k put (Some p.page.next) (named-next Form (codes "form") tag p) (numbers-inserted k Form (codes "form") tag.attributes p h))

numbers-ended : (k : ℕ) (test : Open → Bool) (p : Parser) → Numbers k p → Numbers k (ended test p)
numbers-ended k test p h =
    let later : Parser = on_page (popped_while (has_kind is_implied)) p in
    numbers-on_page k (popped_until test) (λ k. numbers-popped_until k test) (expects_current test later)
    (numbers-expected k test later (numbers-on_page k (popped_while (has_kind is_implied)) (λ k. numbers-popped_while k (has_kind is_implied)) p h))

pub numbers-end_block : (k : ℕ) (test : Open → Bool) (p : Parser) → Numbers k p → Numbers k (end_block test p)
numbers-end_block k test p h =
    numbers-if-parser k (has_in_scope ends_scope test p.page.opened) (ended test p) (mistaken UnexpectedToken p) (numbers-ended k test p h)
    (numbers-mistaken k UnexpectedToken p h)

-- the form leaves the stack: its number stays below, since implied end tags make no node
pub implied-next : (test : Open → Bool) (es : List Open) (page : Page) → (popped_while_in test es page).next ≡ page.next
unfolding popped_while_in
implied-next test [] page = refl
implied-next test (e ∷ es) page = by_test (implied-next test es (left e es page)) (test e)
  where
    by_test : (popped_while_in test es (left e es page)).next ≡ page.next → (is : Bool)
        → (if is then popped_while_in test es (left e es page) else page).next ≡ page.next
    by_test rest true = rest
    by_test rest false = refl

numbers-end_form_of : (k : ℕ) (form : Option ℕ) (p : Parser) → IsPointerBelow p.page.next form → Numbers k p → Numbers k (end_form_of form p)
numbers-end_form_of k None p below h = numbers-mistaken k UnexpectedToken p h
numbers-end_form_of k (Some n) p below h =
    let without : Parser = record p { form = None } in
    let kept : Numbers k without = with-form k p None tt h in
    let later : Parser = on_page (popped_while (has_kind is_implied)) without in
    let expected : Parser = expects_current (has_number n) later in
    let same : expected.page.next ≡ p.page.next =
    noted-next (current_passes (has_number n) later.page.opened) UnclosedElements later ∙ implied-next (has_kind is_implied) p.page.opened p.page in
    let less : n < expected.page.next = subst (λ i. n < i) (sym same) below in
    let good : Numbers k expected =
    numbers-expected k (has_number n) later (numbers-on_page k (popped_while (has_kind is_implied)) (λ k. numbers-popped_while k (has_kind is_implied)) without kept) in
    numbers-if-parser k (has_in_scope ends_scope (has_number n) p.page.opened) (on_page (removed_from_stack n) expected) (mistaken UnexpectedToken without)
    (with-page k expected _ (removed-from-stack expected.page.next n expected.page less (own k expected good)) good)
    (numbers-mistaken k UnexpectedToken without kept)

pub numbers-end_form : (k : ℕ) (p : Parser) → Numbers k p → Numbers k (end_form p)
numbers-end_form k p h =
    numbers-if-parser k (has_template p) (end_block (has_kind is_form) p) (end_form_of p.form p) (numbers-end_block k (has_kind is_form) p h)
    (numbers-end_form_of k p.form p h.of_form h)

-- "after head": the head is on the stack for one token
pub head-pushed : (k n : ℕ) (page : Page) → n < page.next → PageNumbers k page → PageNumbers k (pushed Head (codes "head") n page)
unfolding AreOpenBelow
head-pushed k n page less h = record { rises = h.rises; begun = h.begun; next = h.next; orderly = h.orderly; opened = (less, h.opened) }

pub lowered : (j k : ℕ) (p : Parser) → j ≤ k → Numbers k p → Numbers j p
lowered j k p le h = record {
  of_page = record {
    rises = omega (arith, le, h.of_page.rises);
    begun = h.of_page.begun;
    next = h.of_page.next;
    orderly = h.of_page.orderly;
    opened = h.of_page.opened;
  };
  of_list = h.of_list;
  of_head = h.of_head;
  of_form = h.of_form;
}

pub raised : (k : ℕ) (p : Parser) → Numbers k p → Numbers p.page.next p
raised k p h = record { of_page = own k p h; of_list = h.of_list; of_head = h.of_head; of_form = h.of_form }

numbers-within_head_of : (k : ℕ) (head : Option ℕ) (change : Parser → Parser) → ((k : ℕ) (q : Parser) → Numbers k q → Numbers k (change q)) → (p : Parser)
    → IsPointerBelow p.page.next head → Numbers k p → Numbers k (within_head_of head change p)
numbers-within_head_of k None change keeps p below h = keeps k p h
numbers-within_head_of k (Some n) change keeps p below h =
    let ready : Parser = on_page (pushed Head (codes "head") n) p in
    let good : Numbers k ready = with-page k p _ (head-pushed p.page.next n p.page below (own k p h)) h in
    let later : Parser = change ready in
    let kept : Numbers p.page.next later = keeps p.page.next ready (raised k ready good) in
    let less : n < later.page.next = omega (arith, below, kept.of_page.rises) in
    lowered k p.page.next (on_page (removed_from_stack n) later) h.of_page.rises (with-page p.page.next later _ (removed-from-stack later.page.next n later.page less (own p.page.next later kept)) kept)

pub numbers-within_head : (k : ℕ) (change : Parser → Parser) → ((k : ℕ) (q : Parser) → Numbers k q → Numbers k (change q)) → (p : Parser) → Numbers k p
    → Numbers k (within_head change p)
numbers-within_head k change keeps p h = numbers-within_head_of k p.head change keeps p h.of_head h

-- ---- "initial"

harmless : (k : ℕ) (edit : Edit) (p : Parser) → ((edits : List Edit) → next_number (edit ∷ edits) ≡ next_number edits)
    → IsOrderlyEdit edit p.page.edits → Numbers k p → Numbers k (on_page (edited edit) p)
harmless k edit p same orderly h = with-page k p _ (with-edit p.page.next edit p.page (same p.page.edits) orderly (own k p h)) h

pub numbers-set_quirks_mode : (k : ℕ) (mode : QuirksMode) (p : Parser) → Numbers k p → Numbers k (set_quirks_mode mode p)
unfolding next_number
numbers-set_quirks_mode k mode p h = harmless k (SetQuirksMode mode) p (λ edits. refl) tt h

pub numbers-put_doctype : (k : ℕ) (doctype : DoctypeOf) (p : Parser) → Numbers k p → Numbers k (put_doctype doctype p)
unfolding next_number
numbers-put_doctype k doctype p h =
    harmless k (PutDoctype (or_empty doctype.name) (or_empty doctype.public_id) (or_empty doctype.system_id)) p (λ edits. refl) tt h

-- ---- the start

pub numbers-empty : (options : Options) → Numbers 3 (empty_parser options)
unfolding AreOpenBelow AreListedBelow AreOrderly next_number
numbers-empty options = record {
  of_page = record { rises = omega arith; begun = omega arith; next = refl; orderly = tt; opened = tt };
  of_list = tt;
  of_head = tt;
  of_form = tt;
}

form-below : (n : ℕ) (has : Bool) → 3 ≤ n → IsPointerBelow n (fragment_form has)
form-below n true begun = omega (arith, begun)
form-below n false begun = tt

pub numbers-start_by : (options : Options) (context : Option Context) → Numbers 3 (start_by context (empty_parser options))
numbers-start_by options None = numbers-empty options
numbers-start_by options (Some context) =
    let rooted : Parser = with_root [] (empty_parser options) in
    let kept : Numbers 3 rooted = numbers-with_root 3 [] (empty_parser options) (numbers-empty options) in
    with-form 3 rooted (fragment_form context.in_form) (form-below rooted.page.next context.in_form kept.of_page.begun) kept

pub numbers-start : (options : Options) → Numbers 3 (start options)
unfolding start
numbers-start options = numbers-start_by options options.context
