-- Edits name nodes that were made: the adoption agency, and elements that leave the stack by their number.
use Rattle.std.proofs.Common.{◌≡◌, ℕ, ◌<◌, ◌≤◌, Bool, true, false, List, [], ◌∷◌, ◌++◌, drop, take, refl, sym, subst, arith}
use Rattle.std.specs.Prelude.{suc, zero, ◌+◌, ◌==◌, ◌&&◌, not, Option, Some, None, nat_lt, if◌then◌else◌}
use Rattle.std.specs.Str.{bytes_eq}
use Rattle.std.proofs.lemmas.Bool.{eqb-true, false≢true}
use Rattle.tree_construction.specs.declared.mistakes.Mistake.{Mistake}
use Rattle.tree_construction.specs.declared.mistakes.Mistake.TheVariants.{FormattingNotInScope, FormattingNotOpen, UnclosedElements, UnexpectedToken}
use Rattle.tree_construction.specs.declared.kinds.Kind.TheVariants.{Anchor, NoBreak}
use Rattle.tree_construction.specs.Adoption.{Inner, added_after, adopted, adoption_agency, adopted_after, adopted_by, any_other_end_tag, at_bookmark, cloned, end_of, ended_by, entry_of, furthest_block, inner_loop, inner_start, is_unlisted, list_at, nth_open, opened_inside, opened_outside, outer_loop, remade, remade_open, replaced, turn, unformatted}
use Rattle.tree_construction.specs.Formatting.{Listed, last_named, reconstructed, without_entry}
use Rattle.tree_construction.specs.InBody.{removed_if_open, start_anchor, start_no_break, without_anchor, without_no_break}
use Rattle.tree_laws.specs.Laws.{AreOrderly, IsMade, IsPlaceMade, next_number}
use Rattle.tree_construction.specs.Names.{ends_scope, is_implied, is_no_break, is_template}
use Rattle.tree_construction.specs.Page.{Open, Place, current_passes, has_in_scope, has_kind, has_name, has_number, has_open, inside, popped, popped_until, popped_while, removed_from_stack}
use Rattle.tree_construction.specs.Parser.{Entry, Parser, expects_current, mistaken, on_page, place_in}
use Rattle.tree_construction.specs.Parser.Entry.{Active, Marker}
use Rattle.tree_construction.specs.Tokens.{StartTagOf}
use Rattle.tree_laws.proofs.Numbers.{AreListedBelow, AreOpenBelow, IsPlaceBelow, Numbers, node-below, numbers-if-parser, numbers-mistaken, numbers-on_page, numbers-popped, numbers-popped_until, numbers-popped_while, own, place-made, place_in-below, raised-listed, raised-opened, raised-place, raised-pointer, removed-from-stack, some-made, with-page}
use Rattle.tree_laws.proofs.NumbersOfLists.{below-without_entry, insert-formatting, numbers-reconstructed, with-list}

-- ---- the adoption agency

pub record InnerNumbers (k : ℕ) (inner : Inner) : Type 0 where
  pub rises : k ≤ inner.next
  pub begun : 3 ≤ inner.next
  pub made : inner.next ≡ next_number inner.edits
  pub orderly : AreOrderly inner.edits
  pub listed : AreListedBelow inner.next inner.formatting
  pub last_made : inner.last < inner.next
  pub cloned : AreOpenBelow inner.next inner.clones

-- an element that was found in the list
abbrev pub IsFoundBelow : ℕ → Option Listed → Type 0
IsFoundBelow n None = Unit {0}
IsFoundBelow n (Some e) = (e.node < n) × (is_template e.kind ≡ false)

raised-found : (m n : ℕ) (found : Option Listed) → m ≤ n → IsFoundBelow m found → IsFoundBelow n found
raised-found m n None le below = tt
raised-found m n (Some e) le below = (omega (arith, le, below.0), below.1)

pub below-entry_of : (n m : ℕ) (list : List Entry) → AreListedBelow n list → IsFoundBelow n (entry_of m list)
unfolding AreListedBelow entry_of
below-entry_of n m [] below = tt
below-entry_of n m (Marker ∷ list) below = below-entry_of n m list below
below-entry_of n m (Active i kind name attributes ∷ list) below = by_test (below-entry_of n m list below.2) (i == m)
  where
    by_test : IsFoundBelow n (entry_of m list) → (test : Bool)
        → IsFoundBelow n (if test then Some (record { node = i; kind = kind; name = name; attributes = attributes }) else entry_of m list)
    by_test rest true = (below.0, below.1)
    by_test rest false = rest

pub below-last_named : (n : ℕ) (name : List ℕ) (list : List Entry) → AreListedBelow n list → IsFoundBelow n (last_named name list)
unfolding AreListedBelow last_named
below-last_named n name [] below = tt
below-last_named n name (Marker ∷ list) below = tt
below-last_named n name (Active i kind own_name attributes ∷ list) below = by_test (below-last_named n name list below.2) (bytes_eq own_name name)
  where
    by_test : IsFoundBelow n (last_named name list) → (test : Bool)
        → IsFoundBelow n (if test then Some (record { node = i; kind = kind; name = own_name; attributes = attributes }) else last_named name list)
    by_test rest true = (below.0, below.1)
    by_test rest false = rest

below-replaced : (n m i : ℕ) (e : Listed) (list : List Entry) → i < n → is_template e.kind ≡ false → AreListedBelow n list
    → AreListedBelow n (replaced m (remade i e) list)
unfolding AreListedBelow replaced
below-replaced n m i e [] less plain below = tt
below-replaced n m i e (Marker ∷ list) less plain below = below-replaced n m i e list less plain below
below-replaced n m i e (Active j kind name attributes ∷ list) less plain below = by_test (below-replaced n m i e list less plain below.2) (j == m)
  where
    by_test : AreListedBelow n (replaced m (remade i e) list) → (test : Bool)
        → AreListedBelow n (if test then remade i e ∷ list else Active j kind name attributes ∷ replaced m (remade i e) list)
    by_test rest true = (less, plain, below.2)
    by_test rest false = (below.0, below.1, rest)

below-added_after : (n m i : ℕ) (e : Listed) (list : List Entry) → i < n → is_template e.kind ≡ false → AreListedBelow n list
    → AreListedBelow n (added_after m (remade i e) list)
unfolding AreListedBelow added_after
below-added_after n m i e [] less plain below = tt
below-added_after n m i e (Marker ∷ list) less plain below = below-added_after n m i e list less plain below
below-added_after n m i e (Active j kind name attributes ∷ list) less plain below =
    by_test (below-added_after n m i e list less plain below.2) (j == m)
  where
    by_test : AreListedBelow n (added_after m (remade i e) list) → (test : Bool)
        → AreListedBelow n (if test then remade i e ∷ Active j kind name attributes ∷ list else Active j kind name attributes ∷ added_after m (remade i e) list)
    by_test rest true = (less, plain, below)
    by_test rest false = (below.0, below.1, rest)

pub below-appended : (n : ℕ) (es : List Open) (fs : List Open) → AreOpenBelow n es → AreOpenBelow n fs → AreOpenBelow n (es ++ fs)
unfolding AreOpenBelow
below-appended n [] fs below others = others
below-appended n (e ∷ es) fs below others = (below.0, below-appended n es fs below.1 others)

-- an element that is made again has no contents
pub remade-below : (n : ℕ) (e : Listed) → is_template e.kind ≡ false → inside (remade_open n e) < suc n
remade-below n e plain = subst (λ test. (if test then suc n else n) < suc n) (sym plain) (omega arith)

pub numbers-cloned : (k block m : ℕ) (found : Option Listed) (list : List Entry) (inner : Inner) → m < inner.next → IsFoundBelow inner.next found
    → AreListedBelow inner.next list → InnerNumbers k inner → InnerNumbers k (cloned block m found list inner)
unfolding AreOrderly AreOpenBelow next_number
numbers-cloned k block m None list inner less found below h = record {
  rises = h.rises;
  begun = h.begun;
  made = h.made;
  orderly = (subst (λ i. m < i) h.made less, h.orderly);
  listed = below;
  last_made = h.last_made;
  cloned = h.cloned;
}
numbers-cloned k block m (Some e) list inner less found below h =
    let n : ℕ = inner.next in
    let up : n ≤ suc n = omega arith in
    record {
      rises = omega (arith, h.rises);
      begun = omega (arith, h.begun);
      made = refl;
      orderly = ((omega arith, omega (arith, h.last_made)), (omega (arith, h.last_made), (omega (arith, found.0), (h.made, h.orderly))));
      listed = below-replaced (suc n) e.node n e list (omega arith) found.1 (raised-listed n (suc n) list up below);
      last_made = omega arith;
      cloned = below-appended (suc n) inner.clones (remade_open n e ∷ []) (raised-opened n (suc n) inner.clones up h.cloned) (remade-below n e found.1, tt);
    }

pub below-list_at : (n counter m : ℕ) (list : List Entry) → AreListedBelow n list → AreListedBelow n (list_at counter m list)
below-list_at n counter m list below = by_test (nat_lt 3 counter)
  where
    by_test : (test : Bool) → AreListedBelow n (if test then without_entry m list else list)
    by_test true = below-without_entry n m list below
    by_test false = below

pub cloned-next : (block m : ℕ) (found : Option Listed) (list : List Entry) (inner : Inner) → inner.next ≤ (cloned block m found list inner).next
cloned-next block m None list inner = omega arith
cloned-next block m (Some e) list inner = omega arith

pub numbers-inner_loop : (k block counter : ℕ) (es : List Open) (inner : Inner) → AreOpenBelow inner.next es → InnerNumbers k inner
    → InnerNumbers k (inner_loop block counter es inner)
unfolding AreOpenBelow inner_loop
numbers-inner_loop k block counter [] inner below h = h
numbers-inner_loop k block counter (e ∷ es) inner below h =
    let list : List Entry = list_at counter e.node inner.formatting in
    let listed : AreListedBelow inner.next list = below-list_at inner.next counter e.node inner.formatting h.listed in
    let next : Inner = cloned block e.node (entry_of e.node list) list inner in
    let le : inner.next ≤ next.next = cloned-next block e.node (entry_of e.node list) list inner in
    numbers-inner_loop k block (suc counter) es next (raised-opened inner.next next.next es le below.1)
    (numbers-cloned k block e.node (entry_of e.node list) list inner (node-below e inner.next below.0) (below-entry_of inner.next e.node list listed) listed h)

pub nth-below : (n d : ℕ) (es : List Open) → 0 < n → AreOpenBelow n es → inside (nth_open d es) < n
unfolding AreOpenBelow nth_open
nth-below n d [] some below = some
nth-below n zero (e ∷ es) some below = below.0
nth-below n (suc d) (e ∷ es) some below = nth-below n d es some below.1

pub below-drop : (n d : ℕ) (es : List Open) → AreOpenBelow n es → AreOpenBelow n (drop d es)
unfolding AreOpenBelow
below-drop n zero es below = below
below-drop n (suc d) [] below = tt
below-drop n (suc d) (e ∷ es) below = below-drop n d es below.1

pub below-take : (n d : ℕ) (es : List Open) → AreOpenBelow n es → AreOpenBelow n (take d es)
unfolding AreOpenBelow
below-take n zero es below = tt
below-take n (suc d) [] below = tt
below-take n (suc d) (e ∷ es) below = (below.0, below-take n d es below.1)

pub below-opened_inside : (n m : ℕ) (es : List Open) → AreOpenBelow n es → AreOpenBelow n (opened_inside m es)
unfolding AreOpenBelow opened_inside
below-opened_inside n m [] below = tt
below-opened_inside n m (e ∷ es) below = by_test (below-opened_inside n m es below.1) (e.node == m)
  where
    by_test : AreOpenBelow n (opened_inside m es) → (test : Bool) → AreOpenBelow n (if test then [] else e ∷ opened_inside m es)
    by_test rest true = tt
    by_test rest false = (below.0, rest)

pub below-opened_outside : (n m : ℕ) (es : List Open) → AreOpenBelow n es → AreOpenBelow n (opened_outside m es)
unfolding AreOpenBelow opened_outside
below-opened_outside n m [] below = tt
below-opened_outside n m (e ∷ es) below = by_test (below-opened_outside n m es below.1) (e.node == m)
  where
    by_test : AreOpenBelow n (opened_outside m es) → (test : Bool) → AreOpenBelow n (if test then es else opened_outside m es)
    by_test rest true = below.1
    by_test rest false = rest

below-at_bookmark : (n i m : ℕ) (bookmark : Option ℕ) (e : Listed) (list : List Entry) → i < n → is_template e.kind ≡ false → AreListedBelow n list
    → AreListedBelow n (at_bookmark bookmark m (remade i e) list)
below-at_bookmark n i m None e list less plain below = below-replaced n m i e list less plain below
below-at_bookmark n i m (Some after) e list less plain below =
    below-added_after n after i e (without_entry m list) less plain (below-without_entry n m list below)

numbers-adopted_after : (k : ℕ) (p : Parser) (f : Listed) (block : Open) (within outer : List Open) (inner : Inner)
    → f.node < p.page.next → is_template f.kind ≡ false → inside block < p.page.next → AreOpenBelow p.page.next within
    → AreOpenBelow p.page.next outer → Numbers k p → InnerNumbers p.page.next inner → Numbers k (adopted_after p f block within outer inner)
unfolding AreOrderly AreOpenBelow next_number
numbers-adopted_after k p f block within outer inner less plain in_block below_within below_outer h g =
    let m : ℕ = p.page.next in
    let n : ℕ = inner.next in
    let le : m ≤ suc n = omega (arith, g.rises) in
    let place : Place = place_in p outer in
    let below_place : IsPlaceBelow n place = raised-place m n place g.rises (place_in-below k p outer below_outer h) in
    let made_place : IsPlaceMade inner.edits place = place-made inner.edits place (subst (λ i. IsPlaceBelow i place) g.made below_place) in
    let made_last : IsMade inner.edits inner.last = subst (λ i. inner.last < i) g.made g.last_made in
    let block_node : block.node < m = node-below block m in_block in
    record {
      of_page = record {
        rises = omega (arith, h.of_page.rises, g.rises);
        begun = omega (arith, g.begun);
        next = refl;
        orderly = (
          omega (arith, less, g.rises),
          (
            (omega (arith, block_node, g.rises), omega arith),
            (
              (omega (arith, block_node, g.rises), omega arith),
              (g.made, ((made_place, made_last), (made_last, g.orderly))),
            ),
          ),
        );
        opened = below-appended (suc n) within (remade_open n f ∷ block ∷ (inner.clones ++ outer)) (raised-opened m (suc n) within le below_within) (
          remade-below n f plain,
          (
            omega (arith, in_block, g.rises),
            below-appended (suc n) inner.clones outer (raised-opened n (suc n) inner.clones (omega arith) g.cloned) (raised-opened m (suc n) outer le below_outer),
          ),
        );
      };
      of_list = below-at_bookmark (suc n) n f.node inner.bookmark f inner.formatting (omega arith) plain (raised-listed n (suc n) inner.formatting (omega arith) g.listed);
      of_head = raised-pointer m (suc n) p.head le h.of_head;
      of_form = raised-pointer m (suc n) p.form le h.of_form;
    }

pub adopted-numbers : (k : ℕ) (p : Parser) (f : Listed) (d : ℕ) → f.node < p.page.next → is_template f.kind ≡ false → Numbers k p
    → Numbers k (adopted p f d)
unfolding AreOpenBelow adopted
adopted-numbers k p f d less plain h =
    let m : ℕ = p.page.next in
    let block : Open = nth_open d p.page.opened in
    let around : List Open = drop (d + 1) p.page.opened in
    let in_block : inside block < m = nth-below m d p.page.opened (some-made k p h) h.of_page.opened in
    let below_around : AreOpenBelow m around = below-drop m (d + 1) p.page.opened h.of_page.opened in
    let first : InnerNumbers m (inner_start p block.node) = record {
      rises = omega arith;
      begun = h.of_page.begun;
      made = h.of_page.next;
      orderly = h.of_page.orderly;
      listed = h.of_list;
      last_made = node-below block m in_block;
      cloned = tt;
    } in
    let inner : Inner = inner_loop block.node 1 (opened_inside f.node around) (inner_start p block.node) in
    numbers-adopted_after k p f block (take d p.page.opened) (opened_outside f.node around) inner less plain in_block
    (below-take m d p.page.opened h.of_page.opened) (below-opened_outside m f.node around below_around) h
    (numbers-inner_loop m block.node 1 (opened_inside f.node around) (inner_start p block.node) (below-opened_inside m f.node around below_around) first)

pub numbers-unformatted : (k : ℕ) (f : Listed) (p : Parser) → Numbers k p → Numbers k (unformatted f p)
numbers-unformatted k f p h =
    let later : Parser = on_page (popped_until (has_number f.node)) p in
    let kept : Numbers k later = numbers-on_page k (popped_until (has_number f.node)) (λ k. numbers-popped_until k (has_number f.node)) p h in
    with-list k later _ (below-without_entry later.page.next f.node p.formatting kept.of_list) kept

numbers-adopted_by : (k : ℕ) (again : Parser → Parser) → ((k : ℕ) (q : Parser) → Numbers k q → Numbers k (again q)) → (f : Listed)
    → (depth : Option ℕ) → (p : Parser) → f.node < p.page.next → is_template f.kind ≡ false → Numbers k p → Numbers k (adopted_by again f depth p)
numbers-adopted_by k again keeps f None p less plain h = numbers-unformatted k f p h
numbers-adopted_by k again keeps f (Some d) p less plain h = keeps k (adopted p f d) (adopted-numbers k p f d less plain h)

-- a formatting element that is no longer the current one is noted, which changes no number
pub noted-next : (test : Bool) (mistake : Mistake) (p : Parser) → (if test then p else mistaken mistake p).page.next ≡ p.page.next
noted-next true mistake p = refl
noted-next false mistake p = refl

pub numbers-expected : (k : ℕ) (test : Open → Bool) (p : Parser) → Numbers k p → Numbers k (expects_current test p)
numbers-expected k test p h =
    numbers-if-parser k (current_passes test p.page.opened) p (mistaken UnclosedElements p) h (numbers-mistaken k UnclosedElements p h)

-- ---- "any other end tag"

numbers-end_of : (k : ℕ) (name : List ℕ) (found : Option ℕ) (p : Parser) → Numbers k p → Numbers k (end_of name found p)
numbers-end_of k name None p h = numbers-mistaken k UnexpectedToken p h
numbers-end_of k name (Some n) p h =
    let implied : Open → Bool = λ e. is_implied e.kind && not (has_name name e) in
    let later : Parser = on_page (popped_while implied) p in
    numbers-on_page k (popped_until (has_number n)) (λ k. numbers-popped_until k (has_number n)) (expects_current (has_number n) later)
    (numbers-expected k (has_number n) later (numbers-on_page k (popped_while implied) (λ k. numbers-popped_while k implied) p h))

numbers-any_other_end_tag : (k : ℕ) (name : List ℕ) (p : Parser) → Numbers k p → Numbers k (any_other_end_tag name p)
numbers-any_other_end_tag k name p h = numbers-end_of k name (ended_by name p.page.opened) p h

-- ---- a turn of the outer loop

numbers-turn : (k : ℕ) (again : Parser → Parser) → ((k : ℕ) (q : Parser) → Numbers k q → Numbers k (again q)) → (name : List ℕ)
    → (found : Option Listed) → (p : Parser) → IsFoundBelow p.page.next found → Numbers k p → Numbers k (turn again name found p)
numbers-turn k again keeps name None p below h = numbers-any_other_end_tag k name p h
numbers-turn k again keeps name (Some f) p below h =
    let noted : Parser = mistaken FormattingNotOpen p in
    let expected : Parser = expects_current (has_number f.node) p in
    let same : expected.page.next ≡ p.page.next = noted-next (current_passes (has_number f.node) p.page.opened) UnclosedElements p in
    let less : f.node < expected.page.next = subst (λ n. f.node < n) (sym same) below.0 in
    numbers-if-parser k (not (has_open (has_number f.node) p.page.opened)) (record noted { formatting = without_entry f.node p.formatting }) _
    (with-list k noted _ (below-without_entry p.page.next f.node p.formatting h.of_list) (numbers-mistaken k FormattingNotOpen p h))
    (numbers-if-parser k (not (has_in_scope ends_scope (has_number f.node) p.page.opened)) (mistaken FormattingNotInScope p) _
    (numbers-mistaken k FormattingNotInScope p h)
    (numbers-adopted_by k again keeps f (furthest_block (opened_inside f.node p.page.opened)) expected less below.1
    (numbers-expected k (has_number f.node) p h)))

pub numbers-outer_loop : (k turns : ℕ) (name : List ℕ) (p : Parser) → Numbers k p → Numbers k (outer_loop turns name p)
unfolding outer_loop
numbers-outer_loop k zero name p h = h
numbers-outer_loop k (suc turns) name p h =
    numbers-turn k (λ later. outer_loop turns name later) (λ k later g. numbers-outer_loop k turns name later g) name (last_named name p.formatting) p
    (below-last_named p.page.next name p.formatting h.of_list) h

-- ---- elements that leave the stack by their number

pub open-below : (n m : ℕ) (es : List Open) → AreOpenBelow n es → has_open (has_number m) es ≡ true → m < n
unfolding AreOpenBelow has_open
open-below n m [] below is = absurd (false≢true is)
open-below n m (e ∷ es) below is = by_test (open-below n m es below.1) (e.node == m) refl is
  where
    by_test : (has_open (has_number m) es ≡ true → m < n) → (test : Bool) → (e.node == m) ≡ test
        → (if test then true else has_open (has_number m) es) ≡ true → m < n
    by_test rest true same is = subst (λ i. i < n) (eqb-true e.node m same) (node-below e n below.0)
    by_test rest false same is = rest is

-- ---- "a" and "nobr"

removed-if : (k n : ℕ) (p : Parser) (test : Bool) → has_open (has_number n) p.page.opened ≡ test → Numbers k p
    → Numbers k (if test then on_page (removed_from_stack n) p else p)
removed-if k n p true is h =
    with-page k p _ (removed-from-stack p.page.next n p.page (open-below p.page.next n p.page.opened h.of_page.opened is) (own k p h)) h
removed-if k n p false is h = h

pub numbers-removed_if_open : (k n : ℕ) (p : Parser) → Numbers k p → Numbers k (removed_if_open n p)
numbers-removed_if_open k n p h = removed-if k n p (has_open (has_number n) p.page.opened) refl h

numbers-adoption_agency : (k : ℕ) (name : List ℕ) (p : Parser) → Numbers k p → Numbers k (adoption_agency name p)
numbers-adoption_agency k name p h =
    numbers-if-parser k (current_passes (is_unlisted name p.formatting) p.page.opened) (on_page popped p) (outer_loop 8 name p)
    (numbers-on_page k popped numbers-popped p h) (numbers-outer_loop k 8 name p h)

pub numbers-without_anchor : (k : ℕ) (name : List ℕ) (found : Option Listed) (p : Parser) → Numbers k p → Numbers k (without_anchor name found p)
numbers-without_anchor k name None p h = h
numbers-without_anchor k name (Some e) p h =
    let noted : Parser = mistaken UnexpectedToken p in
    let later : Parser = adoption_agency name noted in
    let kept : Numbers k later = numbers-adoption_agency k name noted (numbers-mistaken k UnexpectedToken p h) in
    let unlisted : Parser = record later { formatting = without_entry e.node later.formatting } in
    numbers-removed_if_open k e.node unlisted (with-list k later _ (below-without_entry later.page.next e.node later.formatting kept.of_list) kept)

pub numbers-start_anchor : (k : ℕ) (tag : StartTagOf) (p : Parser) → Numbers k p → Numbers k (start_anchor tag p)
numbers-start_anchor k tag p h =
    let found : Option Listed = last_named tag.name p.formatting in
    let without : Parser = without_anchor tag.name found p in
    insert-formatting k Anchor tag (reconstructed without) refl (numbers-reconstructed k without (numbers-without_anchor k tag.name found p h))

pub numbers-without_no_break : (k : ℕ) (name : List ℕ) (p : Parser) → Numbers k p → Numbers k (without_no_break name p)
numbers-without_no_break k name p h =
    let noted : Parser = mistaken UnexpectedToken p in
    numbers-if-parser k (has_in_scope ends_scope (has_kind is_no_break) p.page.opened) (reconstructed (adoption_agency name noted)) p
    (numbers-reconstructed k (adoption_agency name noted) (numbers-adoption_agency k name noted (numbers-mistaken k UnexpectedToken p h))) h

pub numbers-start_no_break : (k : ℕ) (tag : StartTagOf) (p : Parser) → Numbers k p → Numbers k (start_no_break tag p)
numbers-start_no_break k tag p h =
    let ready : Parser = without_no_break tag.name (reconstructed p) in
    insert-formatting k NoBreak tag ready refl (numbers-without_no_break k tag.name (reconstructed p) (numbers-reconstructed k p h))
