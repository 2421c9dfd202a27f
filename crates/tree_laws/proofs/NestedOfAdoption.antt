-- The document is a tree: the inner loop of the adoption agency, and the place where its last node goes.
use Rattle.std.proofs.Common.{◌≡◌, ℕ, ◌<◌, ◌≤◌, Bool, true, false, List, [], ◌∷◌, ◌++◌, drop, take, refl, ap, sym, ◌∙◌, subst, arith}
use Rattle.std.specs.Prelude.{suc, zero, ◌+◌, ◌==◌, length, Option, Some, None, if◌then◌else◌}
use Rattle.std.proofs.lemmas.Bool.{eq-eqb, false≢true}
use Rattle.std.proofs.lemmas.Option.{none-some, same_Some}
use Rattle.tree_construction.specs.Adoption.{Inner, cloned, deeper, entry_of, furthest_block, inner_loop, list_at, nth_open, opened_inside, opened_outside, remade_open, remake, with_clone}
use Rattle.tree_construction.specs.Formatting.{Listed}
use Rattle.tree_construction.specs.declared.kinds.Kind.{Kind}
use Rattle.tree_construction.specs.declared.kinds.Kind.TheVariants.{Table, Template}
use Rattle.tree_construction.specs.Names.{ends_scope, is_special, is_table, is_template}
use Rattle.tree_construction.specs.Page.{Edit, Open, foster_place_in, has_in_scope, has_number, inside, inside_first}
use Rattle.tree_construction.specs.Page.Edit.{Pop, Put, Remove}
use Rattle.tree_construction.specs.Page.Place.{LastChild, BeforeTable}
use Rattle.tree_construction.specs.Parser.{Entry, Parser, is_fostered, last_child_of, place_in}
use Rattle.tree_laws.specs.Laws.{next_number}
use Rattle.tree_laws.specs.Trees.{AreNested, AreOutside, IsOutside, KeepTree, or_else, parent_after, parent_at, template_after}
use Rattle.tree_laws.specs.Trees.IsWithin.{InParent}
use Rattle.tree_laws.proofs.Numbers.{AreListedBelow, AreOpenBelow, node-below, raised-opened}
use Rattle.tree_laws.proofs.NumbersOfAdoption.{InnerNumbers, IsFoundBelow, below-appended, below-entry_of, below-list_at, cloned-next, numbers-cloned}
use Rattle.tree_laws.proofs.Trees.{AddsNone, no-parent, no-template, outside-alone, put-keeps, put-leads, removal-adds-none, same-lines}
use Rattle.tree_laws.proofs.Nested.{begun-if-outside, nested-kept, nested-same, outside-fresh, outside-kept, outside-same, pop-adds-none}
use Rattle.tree_laws.proofs.Stacks.{IsInNone, alone-in-none, led-nested, nested-between, nested-tail, not-self, outside-outside}

-- ---- the inner loop

pub plain-inside : (n : ℕ) (e : Listed) → is_template e.kind ≡ false → inside (remade_open n e) ≡ n
plain-inside n e plain = ap (λ test. if test then suc n else n) plain

adds-more : (a b c : List Edit) → AddsNone a b → AddsNone b c → AddsNone a c
adds-more a b c first second = record { none = λ x m stands. first.none x m (second.none x m stands) }

-- low are the elements from the furthest block inwards, and around those outside it, all with numbers below m
pub record InnerTree (m : ℕ) (low around : List Open) (inner : Inner) : Type 0 where
  pub numbers : InnerNumbers m inner
  pub tree : KeepTree inner.edits
  pub nested : AreNested inner.edits ((low ++ inner.clones) ++ around)
  pub last_out : AreOutside inner.edits inner.last around

appended-between : (A B es : List Open) (e : Open) → (A ++ (B ++ e ∷ [])) ++ es ≡ (A ++ B) ++ e ∷ es
appended-between [] [] es e = refl
appended-between [] (b ∷ B) es e = ap (λ rest. b ∷ rest) (appended-between [] B es e)
appended-between (a ∷ A) B es e = ap (λ rest. a ∷ rest) (appended-between A B es e)

-- a node that was removed has no parent
pub removed-parent : (n : ℕ) (edits : List Edit) → parent_after (Remove n ∷ edits) n ≡ None
unfolding parent_after
removed-parent n edits = ap (λ test. if test then None else parent_after edits n) (eq-eqb n n refl)

still-none : (test : Bool) (found : Option ℕ) → found ≡ None → (if test then None else found) ≡ None
still-none true found none = refl
still-none false found none = none

clone-adds-none : (n last popped : ℕ) (e : Listed) (edits : List Edit) → AddsNone edits (Remove last ∷ Pop popped ∷ remake n e ∷ edits)
unfolding parent_after template_after
clone-adds-none n last popped e edits =
    adds-more edits (remake n e ∷ edits) (Remove last ∷ Pop popped ∷ remake n e ∷ edits)
    (same-lines edits (remake n e ∷ edits) (λ m. refl) (λ m. refl))
    (adds-more (remake n e ∷ edits) (Pop popped ∷ remake n e ∷ edits) (Remove last ∷ Pop popped ∷ remake n e ∷ edits)
    (pop-adds-none popped (remake n e ∷ edits)) (removal-adds-none last (Pop popped ∷ remake n e ∷ edits)))

nested-clone : (m block : ℕ) (low around : List Open) (e : Listed) (list : List Entry) (inner : Inner) → AreOpenBelow m low → AreOpenBelow m around
    → is_template e.kind ≡ false → InnerNumbers m (with_clone block e list inner) → InnerTree m low around inner
    → InnerTree m low around (with_clone block e list inner)
unfolding KeepTree AreOutside AreNested parent_after template_after
nested-clone m block low around e list inner below_low below_around plain numbers h =
    let n : ℕ = inner.next in
    let before : List Edit = inner.edits in
    let last : ℕ = inner.last in
    let made : List Edit = Remove last ∷ Pop e.node ∷ remake n e ∷ before in
    let new : Open = remade_open n e in
    let X : List Open = low ++ inner.clones in
    let adds : AddsNone before made = clone-adds-none n last e.node e before in
    let le : m ≤ n = h.numbers.rises in
    let next : next_number before ≤ n = subst (λ i. i ≤ n) h.numbers.made (omega arith) in
    let no_parent : parent_after made n ≡ None = still-none (last == n) (parent_after before n) (no-parent before n h.numbers.orderly next) in
    let no_template : template_after made n ≡ None = no-template before n h.numbers.orderly next in
    let below_X : AreOpenBelow n X = below-appended n low inner.clones (raised-opened m n low le below_low) h.numbers.cloned in
    let around_n : AreOpenBelow n around = raised-opened m n around le below_around in
    let begun : 3 ≤ n = h.numbers.begun in
    let in_place : inside new ≡ n = plain-inside n e plain in
    let fresh : AreOutside before n around =
    outside-fresh before n around h.numbers.orderly next (subst (λ i. 3 ≤ i) h.numbers.made begun)
    (subst (λ i. AreOpenBelow i around) h.numbers.made around_n) in
    let new_out : AreOutside made n around = outside-same n before made around adds fresh in
    let last_out : AreOutside made last around = outside-same last before made around adds h.last_out in
    let last_below : IsOutside made last n = outside-alone made last n no_parent no_template (not-self last n h.numbers.last_made) in
    let none : IsInNone made n X = alone-in-none made n X no_parent no_template below_X in
    let among : AreNested made (X ++ new ∷ around) =
    nested-between made new X around in_place none new_out (nested-same before made (X ++ around) adds h.nested) in
    let last_all : AreOutside made last (new ∷ around) = (last_below, subst (λ i. IsOutside made last i) (sym in_place) last_below, last_out) in
    let later : List Edit = Put (LastChild n) last ∷ made in
    let outer : AreNested later (new ∷ around) =
    nested-kept last made later (new ∷ around) (put-keeps (LastChild n) last made) last_all (nested-tail made X (new ∷ around) among) in
    record {
      numbers = numbers;
      tree = ((begun-if-outside before last around h.last_out, removed-parent last (Pop e.node ∷ remake n e ∷ before), last_below), (tt, (tt, (tt, h.tree))));
      nested = subst (λ es. AreNested later es) (sym (appended-between low inner.clones around new))
          (led-nested last n made later (put-leads (LastChild n) last made last_below) X (new ∷ around) none among outer);
      last_out = outside-kept last n made later around (put-keeps (LastChild n) last made) last_out new_out;
    }

nested-cloned : (m block n : ℕ) (found : Option Listed) (low around : List Open) (list : List Entry) (inner : Inner) → AreOpenBelow m low
    → AreOpenBelow m around → IsFoundBelow inner.next found → InnerNumbers m (cloned block n found list inner) → InnerTree m low around inner
    → InnerTree m low around (cloned block n found list inner)
unfolding KeepTree
nested-cloned m block n None low around list inner below_low below_around found numbers h =
    let adds : AddsNone inner.edits (Pop n ∷ inner.edits) = pop-adds-none n inner.edits in
    record {
      numbers = numbers;
      tree = (tt, h.tree);
      nested = nested-same inner.edits (Pop n ∷ inner.edits) ((low ++ inner.clones) ++ around) adds h.nested;
      last_out = outside-same inner.last inner.edits (Pop n ∷ inner.edits) around adds h.last_out;
    }
nested-cloned m block n (Some e) low around list inner below_low below_around found numbers h =
    nested-clone m block low around e list inner below_low below_around found.1 numbers h

pub nested-inner_loop : (m block counter : ℕ) (es low around : List Open) (inner : Inner) → AreOpenBelow m low → AreOpenBelow m around
    → AreOpenBelow inner.next es → InnerTree m low around inner → InnerTree m low around (inner_loop block counter es inner)
unfolding AreOpenBelow inner_loop
nested-inner_loop m block counter [] low around inner below_low below_around below h = h
nested-inner_loop m block counter (e ∷ es) low around inner below_low below_around below h =
    let list : List Entry = list_at counter e.node inner.formatting in
    let listed : AreListedBelow inner.next list = below-list_at inner.next counter e.node inner.formatting h.numbers.listed in
    let found : Option Listed = entry_of e.node list in
    let found_below : IsFoundBelow inner.next found = below-entry_of inner.next e.node list listed in
    let next : Inner = cloned block e.node found list inner in
    let le : inner.next ≤ next.next = cloned-next block e.node found list inner in
    let numbers : InnerNumbers m next =
    numbers-cloned m block e.node found list inner (node-below e inner.next below.0) found_below listed h.numbers in
    nested-inner_loop m block (suc counter) es low around next below_low below_around (raised-opened inner.next next.next es le below.1)
    (nested-cloned m block e.node found low around list inner below_low below_around found_below numbers h)

-- ---- the formatting element is in scope: no table and no template is open inside it

plain-template : (kind : Kind) → ends_scope kind ≡ false → is_template kind ≡ false
unfolding ends_scope
plain-template Template ends = absurd (false≢true (sym ends))
plain-template other ends = refl

plain-table : (kind : Kind) → ends_scope kind ≡ false → is_table kind ≡ false
unfolding ends_scope
plain-table Table ends = absurd (false≢true (sym ends))
plain-table other ends = refl

-- the depth of the furthest block, which is inside the formatting element
abbrev pub IsInScopeAt : ℕ → ℕ → List Open → Type 0
IsInScopeAt n d es = (has_in_scope ends_scope (has_number n) es ≡ true) × (d < length (opened_inside n es))

-- the element at a depth, and those around it
pub record StandsAt (n d without : ℕ) (es : List Open) : Type 0 where
  pub parts : es ≡ take d es ++ nth_open d es ∷ drop without es
  pub plain : is_template (nth_open d es).kind ≡ false
  pub around : has_in_scope ends_scope (has_number n) (drop without es) ≡ true
  -- foster parenting goes by the elements around it
  pub fosters : (passed : ℕ) → foster_place_in passed es ≡ foster_place_in (inside (nth_open d es)) (drop without es)

-- an element that ends no scope is passed by foster parenting
passed-by : (passed : ℕ) (e : Open) (es : List Open) → ends_scope e.kind ≡ false → foster_place_in passed (e ∷ es) ≡ foster_place_in (inside e) es
unfolding foster_place_in
passed-by passed e es ends =
    ap (λ test. if test then LastChild (inside e) else if is_table e.kind then BeforeTable e.node (inside_first es) else foster_place_in (inside e) es)
    (plain-template e.kind ends)
    ∙ ap (λ test. if test then BeforeTable e.node (inside_first es) else foster_place_in (inside e) es) (plain-table e.kind ends)

stands-first : (n : ℕ) (e : Open) (es : List Open) → ends_scope e.kind ≡ false → has_in_scope ends_scope (has_number n) es ≡ true → StandsAt n 0 1 (e ∷ es)
unfolding nth_open
stands-first n e es ends scope =
    record { parts = refl; plain = plain-template e.kind ends; around = scope; fosters = λ passed. passed-by passed e es ends }

stands-further : (n d : ℕ) (e : Open) (es : List Open) → ends_scope e.kind ≡ false → StandsAt n d (suc d) es → StandsAt n (suc d) (suc (suc d)) (e ∷ es)
unfolding nth_open
stands-further n d e es ends h = record {
  parts = ap (λ all. e ∷ all) h.parts;
  plain = h.plain;
  around = h.around;
  fosters = λ passed. passed-by passed e es ends ∙ h.fosters (inside e);
}

pub stands-at : (n d : ℕ) (es : List Open) → IsInScopeAt n d es → StandsAt n d (suc d) es
unfolding has_in_scope opened_inside
stands-at n d [] within = absurd (false≢true within.0)
stands-at n zero (e ∷ es) within = by_test (e.node == n) (ends_scope e.kind) refl within
  where
    by_test : (test ends : Bool) → ends_scope e.kind ≡ ends
        → ((if test then true else if ends then false else has_in_scope ends_scope (has_number n) es) ≡ true)
        × (0 < length (if test then [] else e ∷ opened_inside n es))
        → StandsAt n 0 1 (e ∷ es)
    by_test true ends is within = absurd (omega (arith, within.1))
    by_test false true is within = absurd (false≢true within.0)
    by_test false false is within = stands-first n e es is within.0
stands-at n (suc d) (e ∷ es) within = by_test (stands-at n d es) (e.node == n) (ends_scope e.kind) refl within
  where
    by_test : (IsInScopeAt n d es → StandsAt n d (suc d) es) → (test ends : Bool) → ends_scope e.kind ≡ ends
        → ((if test then true else if ends then false else has_in_scope ends_scope (has_number n) es) ≡ true)
        × (suc d < length (if test then [] else e ∷ opened_inside n es))
        → StandsAt n (suc d) (suc (suc d)) (e ∷ es)
    by_test further true ends is within = absurd (omega (arith, within.1))
    by_test further false true is within = absurd (false≢true within.0)
    by_test further false false is within = stands-further n d e es is (further (within.0, omega (arith, within.1)))

furthest-inside : (es : List Open) (d : ℕ) → furthest_block es ≡ Some d → d < length es
unfolding furthest_block
furthest-inside [] d is = absurd (none-some d is)
furthest-inside (e ∷ es) d is = by_block (furthest-inside es) (furthest_block es) refl is
  where
    by_special : (special : Bool) → (if special then Some 0 else None) ≡ Some d → d < suc (length es)
    by_special true same = subst (λ i. i < suc (length es)) (same_Some 0 d same) (omega arith)
    by_special false same = absurd (none-some d same)

    by_block : ((i : ℕ) → furthest_block es ≡ Some i → i < length es) → (found : Option ℕ) → furthest_block es ≡ found
        → deeper (is_special e.kind) found ≡ Some d → d < suc (length es)
    by_block earlier None was same = by_special (is_special e.kind) same
    by_block earlier (Some i) was same =
        let less : i < length es = earlier i was in subst (λ j. j < suc (length es)) (same_Some (suc i) d same) (omega (arith, less))

next : (d : ℕ) → suc d ≡ d + 1
next d = omega arith

pub block-stands : (n d : ℕ) (es : List Open) → has_in_scope ends_scope (has_number n) es ≡ true → furthest_block (opened_inside n es) ≡ Some d
    → StandsAt n d (d + 1) es
block-stands n d es scope is =
    subst (λ without. StandsAt n d without es) (next d) (stands-at n d es (scope, furthest-inside (opened_inside n es) d is))

-- ---- the common ancestor, or the foster parent

child-outside : (edits : List Edit) (x : ℕ) (es : List Open) → AreOutside edits x es → IsOutside edits x (parent_at (parent_after edits) (last_child_of es))
unfolding AreOutside
child-outside edits x [] out = out 0 (omega arith)
child-outside edits x (e ∷ es) out = out.1

first-outside : (edits : List Edit) (x : ℕ) (es : List Open) → AreOutside edits x es → IsOutside edits x (inside_first es)
unfolding AreOutside
first-outside edits x [] out = out 0 (omega arith)
first-outside edits x (e ∷ es) out = out.1

before-outside : (edits : List Edit) (x table above : ℕ) → IsOutside edits x table → IsOutside edits x above
    → IsOutside edits x (parent_at (parent_after edits) (BeforeTable table above))
before-outside edits x table above out above_out = of_parent (parent_after edits table) refl
  where
    of_parent : (found : Option ℕ) → parent_after edits table ≡ found → IsOutside edits x (or_else found above)
    of_parent None is = above_out
    of_parent (Some parent) is = λ stands. out (InParent table parent is stands)

foster-outside : (edits : List Edit) (x passed : ℕ) (es : List Open) → (es ≡ [] → IsOutside edits x passed) → AreOutside edits x es
    → IsOutside edits x (parent_at (parent_after edits) (foster_place_in passed es))
unfolding AreOutside foster_place_in
foster-outside edits x passed [] passes out = passes refl
foster-outside edits x passed (e ∷ es) passes out =
    by_test (is_template e.kind) (is_table e.kind) (foster-outside edits x (inside e) es (λ is. out.1) out.2)
  where
    by_test : (template table : Bool) → IsOutside edits x (parent_at (parent_after edits) (foster_place_in (inside e) es))
        → IsOutside edits x (parent_at (parent_after edits)
        (if template then LastChild (inside e) else if table then BeforeTable e.node (inside_first es) else foster_place_in (inside e) es))
    by_test true table rest = out.1
    by_test false true rest = before-outside edits x e.node (inside_first es) out.0 (first-outside edits x es out.2)
    by_test false false rest = rest

-- The place is outside of whatever the elements around the furthest block are outside of.
pub ancestor-outside : (edits : List Edit) (x n d m : ℕ) (p : Parser) → StandsAt n d (d + 1) p.page.opened → AreOutside edits x (drop (d + 1) p.page.opened)
    → IsOutside edits x (parent_at (parent_after edits) (place_in p (opened_outside m (drop (d + 1) p.page.opened))))
unfolding has_in_scope
ancestor-outside edits x n d m p stands out = by_test (is_fostered p outer)
  where
    around : List Open
    around = drop (d + 1) p.page.opened

    outer : List Open
    outer = opened_outside m around

    some : around ≡ [] → ⊥
    some is = false≢true (subst (λ es. has_in_scope ends_scope (has_number n) es ≡ true) is stands.around)

    by_test : (test : Bool) → IsOutside edits x (parent_at (parent_after edits) (if test then foster_place_in 0 p.page.opened else last_child_of outer))
    by_test true = subst (λ place. IsOutside edits x (parent_at (parent_after edits) place)) (sym (stands.fosters 0))
        (foster-outside edits x (inside (nth_open d p.page.opened)) around (λ is. absurd (some is)) out)
    by_test false = child-outside edits x outer (outside-outside edits x m around out)
