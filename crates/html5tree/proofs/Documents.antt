-- The edits of nesting build the tree of its path.
use Rattle.std.proofs.Common.{◌≡◌, ℕ, ◌<◌, ◌≤◌, Bool, true, false, List, [], ◌∷◌, refl, ap, sym, ◌∙◌, arith}
use Rattle.std.proofs.lemmas.Slice.Eq.{bytes_eq-Decides}
use Rattle.std.proofs.lemmas.Bool.{false≢true, and_parts}
use Rattle.html5tree.specs.Tree as tree
use Rattle.html5tree.specs.Document.{Nodes, applied, bare, built, changed, children, found, joined, tree_built, with_text, without}
use Rattle.html5tree.specs.Document.Nodes.{Characters, Element, None}
use Rattle.html5tree.specs.Fitting.{can_open, each_fits, fits, none_open, open_after}
use Rattle.html5tree.specs.Items.{Attribute, Item}
use Rattle.html5tree.specs.Items.Item.{EndTag, StartTag, Text}
use Rattle.html5tree.specs.Lockstep.{nest, nest_all, placed}
use Rattle.html5tree.specs.Names.{is_void, kind_of, named}
use Rattle.html5tree.specs.Page.{Page, current, inserted, names, popped, rest_of, start_page, texted}
use Rattle.html5tree.specs.Scopes.{top_is}
use Rattle.html5tree.specs.Shown.{AreBelow, AreOrdered, Held, Shows, elements, filled, levels}
use Rattle.html5tree.specs.Tree.{Path, nested, nested_one, path_closed, path_opened, path_placed, whole, whole_in}
use Rattle.html5tree.specs.Tree.Tree.{Nothing}
use Rattle.html5tree.proofs.Lists.{itself, lower}
use Rattle.html5tree.proofs.Steps.{names-after}

more-below : (k n : ℕ) (nodes : Nodes) → k ≤ n → AreBelow k nodes → AreBelow n nodes
unfolding AreBelow
more-below k n None le b = tt
more-below k n (Element before m name attributes inner) le b = (omega (arith, le, b.0), (more-below k n before le b.1.0, more-below k n inner le b.1.1))
more-below k n (Characters before text) le b = more-below k n before le b

not-there : (k n : ℕ) (change : Nodes → Nodes) (nodes : Nodes) → k ≤ n → AreBelow k nodes → changed n change nodes ≡ nodes
unfolding AreBelow changed
not-there k n change None le b = refl
not-there k n change (Element before m name attributes inner) le b =
    rw (lower m n (omega (arith, le, b.0)), not-there k n change before le b.1.0, not-there k n change inner le b.1.1) refl
not-there k n change (Characters before text) le b = rw (not-there k n change before le b) refl

-- a change further in than the open elements
changed-within : (n : ℕ) (change : Nodes → Nodes) (inner : Nodes) (hs : List Held) (k : ℕ) → k ≤ n → 0 < n → AreOrdered k hs
    → changed n change (filled inner hs) ≡ filled (changed n change inner) hs
unfolding filled AreOrdered changed
changed-within n change inner [] k le more o = rw (lower 0 n more) refl
changed-within n change inner (h ∷ hs) k le more o =
    changed-within n change (Element h.before h.node h.name h.attributes inner) hs h.node (omega (arith, le, o.0.0)) more o.1.1
    ∙ rw (lower h.node n (omega (arith, le, o.0.0)), not-there h.node n change h.before (omega (arith, le, o.0.0)) o.1.0) refl

-- a change of the children of the innermost open element
changed-inner : (change : Nodes → Nodes) (inner : Nodes) (hs : List Held) (next : ℕ) → AreOrdered next hs
    → changed (current (elements hs)) change (filled inner hs) ≡ filled (change inner) hs
unfolding filled AreOrdered changed elements
changed-inner change inner [] next o = refl
changed-inner change inner (h ∷ hs) next o =
    changed-within h.node change (Element h.before h.node h.name h.attributes inner) hs h.node (omega arith) o.0.1 o.1.1
    ∙ rw (itself h.node) refl

shows-start : (p : Page) (path : Path) (name : List ℕ) (attributes : List Attribute) → Shows p path → Shows (inserted p name attributes) (path_opened path name attributes)
unfolding built applied found without joined filled elements levels AreOrdered AreBelow nested_one bare
shows-start p path name attributes s = record {
  inner = None;
  held = record { before = s.inner; node = p.next; name = name; attributes = attributes } ∷ s.held;
  builds =
      rw (itself p.next)
      (ap (changed (current p.opened) (λ inner. Element inner p.next name attributes None)) s.builds
      ∙ ap (λ o. changed (current o) (λ inner. Element inner p.next name attributes None) (filled s.inner s.held)) s.opened
      ∙ changed-inner (λ inner. Element inner p.next name attributes None) s.inner s.held p.next s.ordered);
  opened = ap (λ o. record { node = p.next; name = name; attributes = attributes } ∷ o) s.opened;
  is = ap (λ x. path_opened x name attributes) s.is;
  ordered = ((omega arith, s.some), (s.below, s.ordered));
  below = tt;
  some = omega (arith, s.some);
}

bare-text : (inner : Nodes) (text : List ℕ) → bare (with_text inner text) ≡ tree.with_text (bare inner) text
unfolding bare
bare-text None [] = refl
bare-text None (c ∷ text) = refl
bare-text (Element before n name attributes inner) [] = refl
bare-text (Element before n name attributes inner) (c ∷ text) = refl
bare-text (Characters before start) text = refl

below-text : (k : ℕ) (inner : Nodes) (text : List ℕ) → AreBelow k inner → AreBelow k (with_text inner text)
unfolding AreBelow
below-text k None [] b = tt
below-text k None (c ∷ text) b = tt
below-text k (Element before n name attributes inner) [] b = b
below-text k (Element before n name attributes inner) (c ∷ text) b = b
below-text k (Characters before start) text b = b

shows-text : (p : Page) (path : Path) (text : List ℕ) → Shows p path → Shows (texted p text) (nested_one path (Text text))
unfolding built applied nested_one
shows-text p path text s = record {
  inner = with_text s.inner text;
  held = s.held;
  builds =
      ap (changed (current p.opened) (λ inner. with_text inner text)) s.builds
      ∙ ap (λ o. changed (current o) (λ inner. with_text inner text) (filled s.inner s.held)) s.opened
      ∙ changed-inner (λ inner. with_text inner text) s.inner s.held p.next s.ordered;
  opened = s.opened;
  is = ap (λ x. nested_one x (Text text)) s.is ∙ ap (λ r. record { inner = r; levels = levels s.held }) (sym (bare-text s.inner text));
  ordered = s.ordered;
  below = below-text p.next s.inner text s.below;
  some = s.some;
}

later-ordered : (k n : ℕ) (hs : List Held) → k ≤ n → AreOrdered k hs → AreOrdered n hs
unfolding AreOrdered
later-ordered k n [] le o = tt
later-ordered k n (h ∷ hs) le o = ((omega (arith, le, o.0.0), o.0.1), o.1)

shows-end : (p : Page) (path : Path) (name : List ℕ) → top_is (named name) (names p.opened) ≡ true → Shows p path → Shows (popped p) (path_closed path)
unfolding filled elements levels AreOrdered AreBelow nested_one bare
shows-end p path name h s = at s.held s.builds s.opened s.is s.ordered
  where
    at : (held : List Held) → built p.edits ≡ filled s.inner held → p.opened ≡ elements held → path ≡ record { inner = bare s.inner; levels = levels held } → AreOrdered p.next held
        → Shows (popped p) (path_closed path)
    at [] builds opened is ordered = absurd (false≢true (ap (λ o. top_is (named name) (names o)) (sym opened) ∙ h))
    at (d ∷ held) builds opened is ordered = record {
      inner = Element d.before d.node d.name d.attributes s.inner;
      held = held;
      builds = builds;
      opened = ap rest_of opened;
      is = ap path_closed is;
      ordered = later-ordered d.node p.next held (omega (arith, ordered.0.0)) ordered.1.1;
      below = (ordered.0.0, (more-below d.node p.next d.before (omega (arith, ordered.0.0)) ordered.1.0, s.below));
      some = s.some;
    }

shows : (p : Page) (path : Path) (item : Item) → fits (names p.opened) item ≡ true → Shows p path → Shows (nest p item) (nested_one path item)
unfolding nest fits nested_one
shows p path (StartTag name attributes) h s = at (is_void (kind_of name))
  where
    at : (b : Bool) → Shows (placed b p name attributes) (path_placed b path name attributes)
    at true = shows-end (inserted p name attributes) (path_opened path name attributes) name ((bytes_eq-Decides name name).1 refl) (shows-start p path name attributes s)
    at false = shows-start p path name attributes s
shows p path (EndTag name) h s = shows-end p path name (and_parts (can_open (kind_of name)) (top_is (named name) (names p.opened)) h).1 s
shows p path (Text text) h s = shows-text p path text s

pub shown-start : Shows start_page (record { inner = Nothing; levels = [] })
unfolding built filled elements levels AreOrdered AreBelow bare
shown-start = record { inner = None; held = []; builds = refl; opened = refl; is = refl; ordered = tt; below = tt; some = omega arith }

-- the same of all items that fit, whatever they leave open
pub shows-each : (items : List Item) (p : Page) (path : Path) → Shows p path → each_fits (names p.opened) items ≡ true
    → Shows (nest_all p items) (nested path items)
unfolding nest_all nested each_fits
shows-each [] p path s h = s
shows-each (item ∷ items) p path s h =
    let b = and_parts (fits (names p.opened) item) (each_fits (open_after (names p.opened) item) items) h in
    shows-each items (nest p item) (nested_one path item) (shows p path item b.0 s) (ap (λ stack. each_fits stack items) (names-after p item) ∙ b.1)

whole-filled : (inner : Nodes) (held : List Held) → bare (children (found 0 (filled inner held))) ≡ whole_in (bare inner) (levels held)
unfolding filled found levels whole_in bare
whole-filled inner [] = refl
whole-filled inner (h ∷ held) = whole-filled (Element h.before h.node h.name h.attributes inner) held

pub shows-whole : (p : Page) (path : Path) → Shows p path → tree_built p.edits ≡ whole path
shows-whole p path s = ap (λ n. bare (children (found 0 n))) s.builds ∙ whole-filled s.inner s.held ∙ sym (ap whole s.is)

-- when no element is open, none is open in the path
pub closed-path : (p : Page) (path : Path) → Shows p path → none_open (names p.opened) ≡ true → whole path ≡ path.inner
unfolding elements levels whole_in
closed-path p path s h = at s.held s.opened s.is
  where
    at : (held : List Held) → p.opened ≡ elements held → path ≡ record { inner = bare s.inner; levels = levels held } → whole path ≡ path.inner
    at [] opened is = ap whole is ∙ sym (ap (λ x. x.inner) is)
    at (d ∷ held) opened is = absurd (false≢true (ap (λ o. none_open (names o)) (sym opened) ∙ h))
