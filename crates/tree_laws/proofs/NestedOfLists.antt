-- The document is a tree: the list of active formatting elements, and the head and form element pointers.
use Rattle.std.proofs.Common.{◌≡◌, ℕ, Bool, false, List, [], ◌∷◌, refl}
use Rattle.std.specs.Prelude.{◌&&◌, not, Option, Some, None, codes}
use Rattle.tree_construction.specs.declared.kinds.Kind.{Kind}
use Rattle.tree_construction.specs.declared.kinds.Kind.TheVariants.{Font, Form, Formatting, Head}
use Rattle.tree_construction.specs.declared.mistakes.Mistake.TheVariants.{UnclosedElements, UnexpectedToken}
use Rattle.tree_construction.specs.BeforeBody.{insert_head}
use Rattle.tree_construction.specs.Formatting.{Listed, cleared_to_marker, insert_formatting, reconstructed, reopened, still_listed, to_reopen, with_marker}
use Rattle.tree_construction.specs.InBody.{end_block, insert_form, start_font, start_formatting}
use Rattle.tree_construction.specs.Names.{ends_button_scope, ends_scope, is_implied, is_paragraph, is_template}
use Rattle.tree_construction.specs.Page.{Open, current_passes, has_in_scope, has_kind, popped, popped_until, popped_while}
use Rattle.tree_construction.specs.Parser.{Entry, Parser, ended, expects_current, inserted, mistaken, on_page, without_paragraph}
use Rattle.tree_construction.specs.Tables.{form_in_table}
use Rattle.tree_construction.specs.Tokens.{StartTagOf}
use Rattle.tree_laws.proofs.Numbers.{Numbers}
use Rattle.tree_laws.proofs.NumbersOfLists.{AreListed, below-still_listed, below-to_reopen, insert-formatting, numbers-cleared_to_marker, numbers-with_marker, reopened-one, with-list}
use Rattle.tree_laws.proofs.NumbersOfPointers.{numbers-form_in_table, numbers-insert_form, numbers-insert_head}
use Rattle.tree_laws.proofs.Nested.{TreeOf, nested-if-parser, nested-mistaken, nested-on_page, nested-popped, nested-popped_until, nested-popped_while}
use Rattle.tree_laws.proofs.NestedOfElements.{nested-inserted}

-- ---- the list of active formatting elements

pub nested-insert-formatting : (k : ℕ) (kind : Kind) (tag : StartTagOf) (p : Parser) → is_template kind ≡ false → TreeOf k p
    → TreeOf k (insert_formatting kind tag p)
nested-insert-formatting k kind tag p plain h =
    let later : TreeOf k (inserted kind tag.name tag.attributes p) = nested-inserted k kind tag.name tag.attributes p h in
    record { numbers = insert-formatting k kind tag p plain h.numbers; tree = later.tree; nested = later.nested }

pub nested-with_marker : (k : ℕ) (p : Parser) → TreeOf k p → TreeOf k (with_marker p)
nested-with_marker k p h = record { numbers = numbers-with_marker k p h.numbers; tree = h.tree; nested = h.nested }

pub nested-cleared_to_marker : (k : ℕ) (p : Parser) → TreeOf k p → TreeOf k (cleared_to_marker p)
nested-cleared_to_marker k p h = record { numbers = numbers-cleared_to_marker k p h.numbers; tree = h.tree; nested = h.nested }

reopened-tree : (k n : ℕ) (es : List Listed) (p : Parser) → AreListed n es → TreeOf k p → TreeOf k (reopened es p)
unfolding AreListed reopened
reopened-tree k n [] p listed h = h
reopened-tree k n (e ∷ es) p listed h =
    let before : TreeOf k (reopened es p) = reopened-tree k n es p listed.2 h in
    let later : TreeOf k (inserted e.kind e.name e.attributes (reopened es p)) = nested-inserted k e.kind e.name e.attributes (reopened es p) before in
    record { numbers = reopened-one k e (reopened es p) listed.1 before.numbers; tree = later.tree; nested = later.nested }

pub nested-reconstructed : (k : ℕ) (p : Parser) → TreeOf k p → TreeOf k (reconstructed p)
nested-reconstructed k p h =
    let list : List Entry = still_listed p.page.opened p.formatting in
    let kept : Numbers k (record p { formatting = list }) =
    with-list k p list (below-still_listed p.page.next p.page.opened p.formatting h.numbers.of_list) h.numbers in
    reopened-tree k p.page.next (to_reopen p.page.opened p.formatting) (record p { formatting = list })
    (below-to_reopen p.page.next p.page.opened p.formatting h.numbers.of_list) (record { numbers = kept; tree = h.tree; nested = h.nested })

pub nested-start_formatting : (k : ℕ) (tag : StartTagOf) (p : Parser) → TreeOf k p → TreeOf k (start_formatting tag p)
nested-start_formatting k tag p h = nested-insert-formatting k Formatting tag (reconstructed p) refl (nested-reconstructed k p h)

pub nested-start_font : (k : ℕ) (tag : StartTagOf) (p : Parser) → TreeOf k p → TreeOf k (start_font tag p)
nested-start_font k tag p h = nested-insert-formatting k Font tag (reconstructed p) refl (nested-reconstructed k p h)

-- ---- the head and form element pointers

pub nested-insert_head : (k : ℕ) (tag : StartTagOf) (p : Parser) → TreeOf k p → TreeOf k (insert_head tag p)
nested-insert_head k tag p h =
    let later : TreeOf k (inserted Head (codes "head") tag.attributes p) = nested-inserted k Head (codes "head") tag.attributes p h in
    record { numbers = numbers-insert_head k tag p h.numbers; tree = later.tree; nested = later.nested }

pub nested-expected : (k : ℕ) (test : Open → Bool) (p : Parser) → TreeOf k p → TreeOf k (expects_current test p)
nested-expected k test p h =
    nested-if-parser k (current_passes test p.page.opened) p (mistaken UnclosedElements p) h (nested-mistaken k UnclosedElements p h)

nested-without_paragraph : (k : ℕ) (p : Parser) → TreeOf k p → TreeOf k (without_paragraph p)
nested-without_paragraph k p h =
    let but : Open → Bool = λ e. is_implied e.kind && not (has_kind is_paragraph e) in
    let later : Parser = on_page (popped_while but) p in
    let expected : Parser = expects_current (has_kind is_paragraph) later in
    nested-if-parser k (has_in_scope ends_button_scope (has_kind is_paragraph) p.page.opened) (on_page (popped_until (has_kind is_paragraph)) expected) p
    (nested-on_page k (popped_until (has_kind is_paragraph)) (λ k. nested-popped_until k (has_kind is_paragraph)) expected
    (nested-expected k (has_kind is_paragraph) later (nested-on_page k (popped_while but) (λ k. nested-popped_while k but) p h))) h

pub nested-insert_form : (k : ℕ) (tag : StartTagOf) (p : Parser) → TreeOf k p → TreeOf k (insert_form tag p)
nested-insert_form k tag p h =
    let later : TreeOf k (inserted Form (codes "form") tag.attributes (without_paragraph p)) =
    nested-inserted k Form (codes "form") tag.attributes (without_paragraph p) (nested-without_paragraph k p h) in
    record { numbers = numbers-insert_form k tag p h.numbers; tree = later.tree; nested = later.nested }

pub nested-form_in_table : (k : ℕ) (form : Option ℕ) (tag : StartTagOf) (p : Parser) → TreeOf k p → TreeOf k (form_in_table form tag p)
nested-form_in_table k (Some n) tag p h = h
nested-form_in_table k None tag p h =
    let put : Parser = inserted Form (codes "form") tag.attributes p in
    let later : TreeOf k (on_page popped put) = nested-on_page k popped nested-popped put (nested-inserted k Form (codes "form") tag.attributes p h) in
    record { numbers = numbers-form_in_table k None tag p h.numbers; tree = later.tree; nested = later.nested }

nested-ended : (k : ℕ) (test : Open → Bool) (p : Parser) → TreeOf k p → TreeOf k (ended test p)
nested-ended k test p h =
    let later : Parser = on_page (popped_while (has_kind is_implied)) p in
    nested-on_page k (popped_until test) (λ k. nested-popped_until k test) (expects_current test later)
    (nested-expected k test later (nested-on_page k (popped_while (has_kind is_implied)) (λ k. nested-popped_while k (has_kind is_implied)) p h))

pub nested-end_block : (k : ℕ) (test : Open → Bool) (p : Parser) → TreeOf k p → TreeOf k (end_block test p)
nested-end_block k test p h =
    nested-if-parser k (has_in_scope ends_scope test p.page.opened) (ended test p) (mistaken UnexpectedToken p) (nested-ended k test p h)
    (nested-mistaken k UnexpectedToken p h)
