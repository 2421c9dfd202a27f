-- The document is a tree: a turn of the adoption agency's outer loop, and the start tags that call it.
use Rattle.std.proofs.Common.{◌≡◌, ℕ, ◌<◌, ◌≤◌, Bool, true, false, List, [], ◌∷◌, ◌++◌, drop, take, refl, ap, sym, subst, arith}
use Rattle.std.specs.Prelude.{suc, zero, ◌+◌, ◌&&◌, not, Option, Some, None, if◌then◌else◌}
use Rattle.tree_construction.specs.declared.kinds.Kind.TheVariants.{Anchor, NoBreak}
use Rattle.tree_construction.specs.declared.mistakes.Mistake.{Mistake}
use Rattle.tree_construction.specs.declared.mistakes.Mistake.TheVariants.{FormattingNotInScope, FormattingNotOpen, UnclosedElements, UnexpectedToken}
use Rattle.tree_construction.specs.Adoption.{Inner, adopted, adopted_after, adopted_by, adoption_agency, any_other_end_tag, end_of, ended_by, furthest_block, inner_loop, inner_start, is_unlisted, nth_open, opened_inside, opened_outside, outer_loop, remade_open, remake, turn, unformatted}
use Rattle.tree_construction.specs.Formatting.{Listed, last_named, reconstructed, without_entry}
use Rattle.tree_construction.specs.InBody.{removed_if_open, start_anchor, start_no_break, without_anchor, without_no_break}
use Rattle.tree_construction.specs.Names.{ends_scope, is_implied, is_no_break, is_template}
use Rattle.tree_construction.specs.Page.{Edit, Open, Place, current_passes, has_in_scope, has_kind, has_name, has_number, has_open, inside, popped, popped_until, popped_while, removed_from_stack}
use Rattle.tree_construction.specs.Page.Edit.{MoveChildren, Pop, Put, Remove}
use Rattle.tree_construction.specs.Page.Place.{LastChild}
use Rattle.tree_construction.specs.Parser.{Parser, expects_current, mistaken, on_page, place_in}
use Rattle.tree_construction.specs.Tokens.{StartTagOf}
use Rattle.tree_laws.specs.Laws.{AreOrderly, next_number}
use Rattle.tree_laws.specs.Trees.{AreNested, AreOutside, KeepTree, parent_after, template_after}
use Rattle.tree_laws.proofs.Numbers.{AreOpenBelow, Numbers, node-below, raised-opened}
use Rattle.tree_laws.proofs.NumbersOfAdoption.{IsFoundBelow, below-appended, below-drop, below-last_named, below-opened_inside, below-opened_outside, below-take, noted-next, nth-below, adopted-numbers, numbers-unformatted, open-below}
use Rattle.tree_laws.proofs.NumbersOfLists.{below-without_entry, with-list}
use Rattle.tree_laws.proofs.Trees.{AddsNone, no-parent, no-template, same-lines}
use Rattle.tree_laws.proofs.Nested.{TreeOf, nested-if-parser, nested-mistaken, nested-on_page, nested-popped, nested-popped_until, nested-popped_while, nested-removed-from-stack, nested-same, outside-fresh, outside-same, own-tree, pop-adds-none, with-tree}
use Rattle.tree_laws.proofs.NestedOfLists.{nested-expected, nested-insert-formatting, nested-reconstructed}
use Rattle.tree_laws.proofs.Stacks.{alone-in-none, nested-between, nested-among, nested-tail}
use Rattle.tree_laws.proofs.NestedOfAdoption.{InnerTree, StandsAt, ancestor-outside, block-stands, nested-inner_loop, plain-inside}
use Rattle.tree_laws.proofs.Moves.{IsInBlock, IsPlaced, IsRemade, last-placed, put-in-block}

-- ---- one turn with a furthest block

low-parts : (within es outer : List Open) (block : Open) → ((within ++ block ∷ []) ++ es) ++ outer ≡ within ++ block ∷ (es ++ outer)
low-parts [] es outer block = refl
low-parts (e ∷ within) es outer block = ap (λ rest. e ∷ rest) (low-parts within es outer block)

-- before the inner loop
first-inner : (k : ℕ) (p : Parser) (n d : ℕ) → StandsAt n d (d + 1) p.page.opened → TreeOf k p
    → InnerTree p.page.next (take d p.page.opened ++ nth_open d p.page.opened ∷ []) (drop (d + 1) p.page.opened)
    (inner_start p (nth_open d p.page.opened).node)
unfolding AreNested AreOpenBelow
first-inner k p n d stands h =
    let m : ℕ = p.page.next in
    let within : List Open = take d p.page.opened in
    let block : Open = nth_open d p.page.opened in
    let around : List Open = drop (d + 1) p.page.opened in
    let begun : 3 ≤ m = h.numbers.of_page.begun in
    let whole : AreNested p.page.edits (within ++ block ∷ around) = subst (λ es. AreNested p.page.edits es) stands.parts h.nested in
    record {
      numbers = record {
        rises = omega arith;
        begun = begun;
        made = h.numbers.of_page.next;
        orderly = h.numbers.of_page.orderly;
        listed = h.numbers.of_list;
        last_made = node-below block m (nth-below m d p.page.opened (omega (arith, begun)) h.numbers.of_page.opened);
        cloned = tt;
      };
      tree = h.tree;
      nested = subst (λ es. AreNested p.page.edits es) (sym (low-parts within [] around block)) whole;
      last_out = (nested-tail p.page.edits within (block ∷ around) whole).0;
    }

-- after it: a new element for the formatting element, among those that are left
remade-inside : (n : ℕ) (f : Listed) (edits : List Edit) (within : List Open) (block : Open) (rest : List Open) → AreOrderly edits
    → n ≡ next_number edits → is_template f.kind ≡ false → inside block ≡ block.node → 3 ≤ n → AreOpenBelow n within → AreOpenBelow n (block ∷ rest)
    → KeepTree edits → AreNested edits (within ++ block ∷ rest) → IsRemade n (remake n f ∷ edits) within (remade_open n f) block rest
unfolding KeepTree AreOpenBelow parent_after template_after
remade-inside n f edits within block rest orderly next plain block_plain begun below_within below_rest tree nested =
    let made : List Edit = remake n f ∷ edits in
    let le : next_number edits ≤ n = subst (λ i. i ≤ n) next (omega arith) in
    let adds : AddsNone edits made = same-lines edits made (λ m. refl) (λ m. refl) in
    let none : parent_after edits n ≡ None = no-parent edits n orderly le in
    let no_contents : template_after edits n ≡ None = no-template edits n orderly le in
    let fresh : AreOutside edits n (block ∷ rest) =
    outside-fresh edits n (block ∷ rest) orderly le (subst (λ i. 3 ≤ i) next begun) (subst (λ i. AreOpenBelow i (block ∷ rest)) next below_rest) in
    record {
      tree = (tt, tree);
      begun = begun;
      number = refl;
      no_parent = none;
      no_template = no_contents;
      within_below = below_within;
      block_below = node-below block n below_rest.0;
      block_plain = block_plain;
      nested = nested-between made (remade_open n f) within (block ∷ rest) (plain-inside n f plain)
          (alone-in-none made n within none no_contents below_within) (outside-same n edits made (block ∷ rest) adds fresh)
          (nested-same edits made (within ++ block ∷ rest) adds nested);
    }

-- a parser's edits keep a tree, and its open elements are nested
record IsAdopted (p : Parser) : Type 0 where
  pub tree : KeepTree p.page.edits
  pub nested : AreNested p.page.edits p.page.opened

adopted-tree : (k : ℕ) (p : Parser) (f : Listed) (d : ℕ) (inner : Inner) → is_template f.kind ≡ false → StandsAt f.node d (d + 1) p.page.opened
    → Numbers k (adopted_after p f (nth_open d p.page.opened) (take d p.page.opened) (opened_outside f.node (drop (d + 1) p.page.opened)) inner)
    → InnerTree p.page.next (take d p.page.opened ++ nth_open d p.page.opened ∷ []) (drop (d + 1) p.page.opened) inner → TreeOf k p
    → IsAdopted (adopted_after p f (nth_open d p.page.opened) (take d p.page.opened) (opened_outside f.node (drop (d + 1) p.page.opened)) inner)
unfolding KeepTree AreOrderly AreOpenBelow next_number
adopted-tree k p f d inner plain stands numbers h whole =
    let m : ℕ = p.page.next in
    let n : ℕ = inner.next in
    let within : List Open = take d p.page.opened in
    let block : Open = nth_open d p.page.opened in
    let around : List Open = drop (d + 1) p.page.opened in
    let outer : List Open = opened_outside f.node around in
    let rest : List Open = inner.clones ++ outer in
    let place : Place = place_in p outer in
    let X : List Open = (within ++ block ∷ []) ++ inner.clones in
    let before : List Edit = Put place inner.last ∷ Remove inner.last ∷ inner.edits in
    let le : m ≤ n = h.numbers.rises in
    let begun : 3 ≤ n = h.numbers.begun in
    let some_made : 0 < m = omega (arith, whole.numbers.of_page.begun) in
    let placed : IsPlaced place inner.last inner.edits (X ++ around) =
    last-placed place inner.last inner.edits X around h.nested h.last_out
    (λ x out. ancestor-outside (Remove inner.last ∷ inner.edits) x f.node d f.node p stands out) in
    let left : AreNested before (within ++ block ∷ rest) =
    subst (λ es. AreNested before es) (low-parts within inner.clones outer block) (nested-among before f.node X around placed.nested) in
    let orderly : AreOrderly before = numbers.of_page.orderly.1.1.1.1 in
    let block_plain : inside block ≡ block.node = ap (λ test. if test then suc block.node else block.node) stands.plain in
    let opened : AreOpenBelow m p.page.opened = whole.numbers.of_page.opened in
    let below_within : AreOpenBelow n within = raised-opened m n within le (below-take m d p.page.opened opened) in
    let block_below : inside block < m = nth-below m d p.page.opened some_made opened in
    let below_outer : AreOpenBelow m outer = below-opened_outside m f.node around (below-drop m (d + 1) p.page.opened opened) in
    let below_rest : AreOpenBelow n rest =
    below-appended n inner.clones outer h.numbers.cloned (raised-opened m n outer le below_outer) in
    let remade : IsRemade n (remake n f ∷ before) within (remade_open n f) block rest =
    remade-inside n f before within block rest orderly h.numbers.made plain block_plain begun below_within (omega (arith, block_below, le), below_rest)
    (placed.keeps, (tt, h.tree)) left in
    let done : IsInBlock n (remake n f ∷ before) within (remade_open n f) block rest =
    put-in-block n (remake n f ∷ before) within (remade_open n f) block rest remade in
    let all : List Edit = Put (LastChild block.node) n ∷ MoveChildren block.node n ∷ remake n f ∷ before in
    record {
      tree = (tt, done.tree);
      nested = nested-same all (Pop f.node ∷ all) (within ++ remade_open n f ∷ block ∷ rest) (pop-adds-none f.node all) done.nested;
    }

nested-adopted : (k : ℕ) (p : Parser) (f : Listed) (d : ℕ) → f.node < p.page.next → is_template f.kind ≡ false
    → StandsAt f.node d (d + 1) p.page.opened → TreeOf k p → TreeOf k (adopted p f d)
unfolding AreOpenBelow adopted
nested-adopted k p f d less plain stands h =
    let m : ℕ = p.page.next in
    let block : Open = nth_open d p.page.opened in
    let around : List Open = drop (d + 1) p.page.opened in
    let low : List Open = take d p.page.opened ++ block ∷ [] in
    let opened : AreOpenBelow m p.page.opened = h.numbers.of_page.opened in
    let some_made : 0 < m = omega (arith, h.numbers.of_page.begun) in
    let below_around : AreOpenBelow m around = below-drop m (d + 1) p.page.opened opened in
    let below_low : AreOpenBelow m low =
    below-appended m (take d p.page.opened) (block ∷ []) (below-take m d p.page.opened opened) (nth-below m d p.page.opened some_made opened, tt) in
    let inner : Inner = inner_loop block.node 1 (opened_inside f.node around) (inner_start p block.node) in
    let looped : InnerTree m low around inner =
    nested-inner_loop m block.node 1 (opened_inside f.node around) low around (inner_start p block.node) below_low below_around
    (below-opened_inside m f.node around below_around) (first-inner k p f.node d stands h) in
    let numbers : Numbers k (adopted p f d) = adopted-numbers k p f d less plain h.numbers in
    let done : IsAdopted (adopted_after p f block (take d p.page.opened) (opened_outside f.node around) inner) =
    adopted-tree k p f d inner plain stands numbers looped h in
    record { numbers = numbers; tree = done.tree; nested = done.nested }

nested-without_entry : (k n : ℕ) (p : Parser) → TreeOf k p → TreeOf k (record p { formatting = without_entry n p.formatting })
nested-without_entry k n p h =
    record { numbers = with-list k p _ (below-without_entry p.page.next n p.formatting h.numbers.of_list) h.numbers; tree = h.tree; nested = h.nested }

nested-unformatted : (k : ℕ) (f : Listed) (p : Parser) → TreeOf k p → TreeOf k (unformatted f p)
nested-unformatted k f p h =
    let left : TreeOf k (on_page (popped_until (has_number f.node)) p) =
    nested-on_page k (popped_until (has_number f.node)) (λ k. nested-popped_until k (has_number f.node)) p h in
    record { numbers = numbers-unformatted k f p h.numbers; tree = left.tree; nested = left.nested }

-- ---- any other end tag

nested-end_of : (k : ℕ) (name : List ℕ) (found : Option ℕ) (p : Parser) → TreeOf k p → TreeOf k (end_of name found p)
nested-end_of k name None p h = nested-mistaken k UnexpectedToken p h
nested-end_of k name (Some n) p h =
    let implied : Open → Bool = λ e. is_implied e.kind && not (has_name name e) in
    let later : Parser = on_page (popped_while implied) p in
    nested-on_page k (popped_until (has_number n)) (λ k. nested-popped_until k (has_number n)) (expects_current (has_number n) later)
    (nested-expected k (has_number n) later (nested-on_page k (popped_while implied) (λ k. nested-popped_while k implied) p h))

nested-any_other_end_tag : (k : ℕ) (name : List ℕ) (p : Parser) → TreeOf k p → TreeOf k (any_other_end_tag name p)
nested-any_other_end_tag k name p h = nested-end_of k name (ended_by name p.page.opened) p h

-- ---- the outer loop

noted-opened : (test : Bool) (mistake : Mistake) (p : Parser) → (if test then p else mistaken mistake p).page.opened ≡ p.page.opened
noted-opened true mistake p = refl
noted-opened false mistake p = refl

-- with the formatting element open and in scope
nested-in-scope : (k : ℕ) (again : Parser → Parser) → ((k : ℕ) (q : Parser) → TreeOf k q → TreeOf k (again q)) → (f : Listed) → (depth : Option ℕ)
    → (p : Parser) → f.node < p.page.next → is_template f.kind ≡ false → has_in_scope ends_scope (has_number f.node) p.page.opened ≡ true
    → furthest_block (opened_inside f.node p.page.opened) ≡ depth → TreeOf k p → TreeOf k (adopted_by again f depth p)
nested-in-scope k again keeps f None p less plain scope is h = nested-unformatted k f p h
nested-in-scope k again keeps f (Some d) p less plain scope is h =
    keeps k (adopted p f d) (nested-adopted k p f d less plain (block-stands f.node d p.page.opened scope is) h)

nested-turn : (k : ℕ) (again : Parser → Parser) → ((k : ℕ) (q : Parser) → TreeOf k q → TreeOf k (again q)) → (name : List ℕ)
    → (found : Option Listed) → (p : Parser) → IsFoundBelow p.page.next found → TreeOf k p → TreeOf k (turn again name found p)
nested-turn k again keeps name None p below h = nested-any_other_end_tag k name p h
nested-turn k again keeps name (Some f) p below h =
    by_test (has_open (has_number f.node) p.page.opened) (has_in_scope ends_scope (has_number f.node) p.page.opened) refl
  where
    expected : Parser
    expected = expects_current (has_number f.node) p

    noted : Parser
    noted = mistaken FormattingNotOpen p

    same : expected.page.opened ≡ p.page.opened
    same = noted-opened (current_passes (has_number f.node) p.page.opened) UnclosedElements p

    less : f.node < expected.page.next
    less = subst (λ n. f.node < n) (sym (noted-next (current_passes (has_number f.node) p.page.opened) UnclosedElements p)) below.0

    unlisted : TreeOf k (record noted { formatting = without_entry f.node p.formatting })
    unlisted = nested-without_entry k f.node noted (nested-mistaken k FormattingNotOpen p h)

    by_test : (stays scope : Bool) → has_in_scope ends_scope (has_number f.node) p.page.opened ≡ scope
        → TreeOf k (if not stays then record noted { formatting = without_entry f.node p.formatting }
        else if not scope then mistaken FormattingNotInScope p
        else adopted_by again f (furthest_block (opened_inside f.node p.page.opened)) expected)
    by_test false scope is = unlisted
    by_test true false is = nested-mistaken k FormattingNotInScope p h
    by_test true true is =
        nested-in-scope k again keeps f (furthest_block (opened_inside f.node p.page.opened)) expected less below.1
        (subst (λ es. has_in_scope ends_scope (has_number f.node) es ≡ true) (sym same) is)
        (ap (λ es. furthest_block (opened_inside f.node es)) same) (nested-expected k (has_number f.node) p h)

pub nested-outer_loop : (k turns : ℕ) (name : List ℕ) (p : Parser) → TreeOf k p → TreeOf k (outer_loop turns name p)
unfolding outer_loop
nested-outer_loop k zero name p h = h
nested-outer_loop k (suc turns) name p h =
    nested-turn k (λ later. outer_loop turns name later) (λ k later g. nested-outer_loop k turns name later g) name (last_named name p.formatting) p
    (below-last_named p.page.next name p.formatting h.numbers.of_list) h

nested-adoption_agency : (k : ℕ) (name : List ℕ) (p : Parser) → TreeOf k p → TreeOf k (adoption_agency name p)
nested-adoption_agency k name p h =
    nested-if-parser k (current_passes (is_unlisted name p.formatting) p.page.opened) (on_page popped p) (outer_loop 8 name p)
    (nested-on_page k popped nested-popped p h) (nested-outer_loop k 8 name p h)

-- ---- "a" and "nobr"

removed-if : (k n : ℕ) (p : Parser) (test : Bool) → has_open (has_number n) p.page.opened ≡ test → TreeOf k p
    → TreeOf k (if test then on_page (removed_from_stack n) p else p)
removed-if k n p true is h =
    with-tree k p _ (nested-removed-from-stack p.page.next n p.page (open-below p.page.next n p.page.opened h.numbers.of_page.opened is) (own-tree k p h)) h
removed-if k n p false is h = h

pub nested-removed_if_open : (k n : ℕ) (p : Parser) → TreeOf k p → TreeOf k (removed_if_open n p)
nested-removed_if_open k n p h = removed-if k n p (has_open (has_number n) p.page.opened) refl h

pub nested-without_anchor : (k : ℕ) (name : List ℕ) (found : Option Listed) (p : Parser) → TreeOf k p → TreeOf k (without_anchor name found p)
nested-without_anchor k name None p h = h
nested-without_anchor k name (Some e) p h =
    let noted : Parser = mistaken UnexpectedToken p in
    let later : Parser = adoption_agency name noted in
    let kept : TreeOf k later = nested-adoption_agency k name noted (nested-mistaken k UnexpectedToken p h) in
    let unlisted : Parser = record later { formatting = without_entry e.node later.formatting } in
    nested-removed_if_open k e.node unlisted (nested-without_entry k e.node later kept)

pub nested-start_anchor : (k : ℕ) (tag : StartTagOf) (p : Parser) → TreeOf k p → TreeOf k (start_anchor tag p)
nested-start_anchor k tag p h =
    let found : Option Listed = last_named tag.name p.formatting in
    let without : Parser = without_anchor tag.name found p in
    nested-insert-formatting k Anchor tag (reconstructed without) refl (nested-reconstructed k without (nested-without_anchor k tag.name found p h))

pub nested-without_no_break : (k : ℕ) (name : List ℕ) (p : Parser) → TreeOf k p → TreeOf k (without_no_break name p)
nested-without_no_break k name p h =
    let noted : Parser = mistaken UnexpectedToken p in
    nested-if-parser k (has_in_scope ends_scope (has_kind is_no_break) p.page.opened) (reconstructed (adoption_agency name noted)) p
    (nested-reconstructed k (adoption_agency name noted) (nested-adoption_agency k name noted (nested-mistaken k UnexpectedToken p h))) h

pub nested-start_no_break : (k : ℕ) (tag : StartTagOf) (p : Parser) → TreeOf k p → TreeOf k (start_no_break tag p)
nested-start_no_break k tag p h =
    let ready : Parser = without_no_break tag.name (reconstructed p) in
    nested-insert-formatting k NoBreak tag ready refl (nested-without_no_break k tag.name (reconstructed p) (nested-reconstructed k p h))
