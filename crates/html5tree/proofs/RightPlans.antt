-- Each plan of the normaliser is right: what it writes fits, one after another.
use Rattle.std.proofs.Common.{◌≡◌, ℕ, zero, suc, ◌≤◌, Bool, true, false, List, [], ◌∷◌, ◌++◌, length, take, drop, refl, ap, sym, ◌∙◌, subst, arith, ◌⊎◌, inl, inr}
use Rattle.std.specs.Prelude.{codes, not, ◌&&◌, ◌||◌, nat_le, if◌then◌else◌, ⊤}
use Rattle.std.specs.Str.{bytes_eq}
use Rattle.std.proofs.lemmas.Slice.Eq.{bytes_eq-Decides}
use Rattle.std.proofs.lemmas.Bool.{false≢true, not-true, not_from_false, and_parts, and_from, and_left, and_right, cases_Bool, leb-true, le-leb}
use Rattle.html5tree.specs.Fitting.{all_open_after, bounds_item, bounds_paragraph, can_open, each_fits, fits, fits_flow, fits_in, holds, holds_parts, is_implied_before_text, no_paragraph, none_near, open_after}
use Rattle.html5tree.specs.Items.{Attribute, Item}
use Rattle.html5tree.specs.Items.Item.{EndTag, StartTag, Text}
use Rattle.html5tree.specs.declared.kinds.Kind.{Kind}
use Rattle.html5tree.specs.Names.{all_names, has_marker, is_among, is_anchor, is_button, is_description, is_form, is_heading, is_implied, is_list_item, is_no_break, is_paragraph, is_part, is_ruby, is_table, is_void, kind_in, kind_of, named, no_kind, of_kind}
use Rattle.html5tree.specs.declared.kinds.Kind.TheVariants.{Anchor, Button, Caption, Cell, Column, ColumnGroup, Description, Form, Formatting, Heading, ListItem, NoBreak, Ordinary, Paragraph, Ruby, RubyBase, RubyContainer, RubyText, Rule, Table, TableBody, TableRow, Unknown, Void}
use Rattle.html5tree.specs.Normal.{IsReady, all_stand, cell_plan, count_inside, dropped, end_tags, flow_plan, heading_closes, implied_closes, inside_context, is_context, item_closes, kept, limited, opened, paragraph_closes, parents, parents_in, part_plan, run_of, stack_after, stands, start_plan, start_tags, stays_within, table_plan, through, written, Plan}
use Rattle.html5tree.specs.Scopes.{kind_on_top, near, top_of_kind}

-- the open elements
abbrev pub Stack : Type 0
Stack = List (List ℕ)

-- ---- items that fit, one after another, with the open elements before and after them

pub data IsFitting (limit : ℕ) : Stack → List Item → Stack → Type 0 where
  Done : {s : Stack} → IsFitting limit s [] s
  Next : {s t : Stack} {items : List Item} (item : Item) → fits s item ≡ true → length (open_after s item) ≤ limit
      → IsFitting limit (open_after s item) items t → IsFitting limit s (item ∷ items) t

pub fitting-append : (limit : ℕ) (s t u : Stack) (items more : List Item) → IsFitting limit s items t → IsFitting limit t more u
    → IsFitting limit s (items ++ more) u
fitting-append limit s t u [] more Done g = g
fitting-append limit s t u (item ∷ items) more (Next i f l r) g = Next item f l (fitting-append limit (open_after s item) t u items more r g)

pub each-fits : (limit : ℕ) (s t : Stack) (items : List Item) → IsFitting limit s items t → each_fits s items ≡ true
unfolding each_fits
each-fits limit s t [] Done = refl
each-fits limit s t (item ∷ items) (Next i f l r) =
    and_from (fits s item) (each_fits (open_after s item) items) f (each-fits limit (open_after s item) t items r)

pub open-fitting : (limit : ℕ) (s t : Stack) (items : List Item) → IsFitting limit s items t → all_open_after s items ≡ t
unfolding all_open_after
open-fitting limit s t [] Done = refl
open-fitting limit s t (item ∷ items) (Next i f l r) = open-fitting limit (open_after s item) t items r

pub within-fitting : (limit : ℕ) (s t : Stack) (items : List Item) → length s ≤ limit → IsFitting limit s items t → stays_within limit s items ≡ true
unfolding stays_within
within-fitting limit s t [] short Done = le-leb (length s) limit short
within-fitting limit s t (item ∷ items) short (Next i f l r) =
    and_from (nat_le (length s) limit) (stays_within limit (open_after s item) items) (le-leb (length s) limit short)
    (within-fitting limit (open_after s item) t items l r)

pub short-fitting : (limit : ℕ) (s t : Stack) (items : List Item) → length s ≤ limit → IsFitting limit s items t → length t ≤ limit
short-fitting limit s t [] short Done = short
short-fitting limit s t (item ∷ items) short (Next i f l r) = short-fitting limit (open_after s item) t items l r

-- ---- each open element fits where it stands

flow-opens : (k : Kind) (s : Stack) → fits_flow k s ≡ true → is_void k ≡ false → can_open k ≡ true
flow-opens Unknown s f v = f
flow-opens Rule s f v = absurd (false≢true (sym v))
flow-opens Void s f v = absurd (false≢true (sym v))
flow-opens Column s f v = absurd (false≢true (sym v))
flow-opens other s f v = refl

holds-opens : (top k : Kind) → holds top k ≡ true → is_void k ≡ false → can_open k ≡ true
holds-opens Table Caption h v = refl
holds-opens Table ColumnGroup h v = refl
holds-opens Table TableBody h v = refl
holds-opens ColumnGroup Column h v = absurd (false≢true (sym v))
holds-opens TableBody TableRow h v = refl
holds-opens TableRow Cell h v = refl
holds-opens top k h v = absurd (false≢true h)

in-opens : (top k : Kind) (s : Stack) → fits_in top k s ≡ true → is_void k ≡ false → can_open k ≡ true
in-opens top k s f v = at (holds_parts top) f
  where
    at : (b : Bool) → (if b then holds top k else not (is_part k) && fits_flow k s) ≡ true → can_open k ≡ true
    at true h = holds-opens top k h v
    at false h = flow-opens k s (and_parts (not (is_part k)) (fits_flow k s) h).1 v

stands-after : (s : Stack) (item : Item) → all_stand s ≡ true → fits s item ≡ true → all_stand (open_after s item) ≡ true
unfolding all_stand fits open_after
stands-after s (StartTag name attributes) a f = at (is_void (kind_of name)) refl
  where
    at : (b : Bool) → is_void (kind_of name) ≡ b → all_stand (if b then s else name ∷ s) ≡ true
    at true e = a
    at false e =
        and_from (stands name s) (all_stand s)
        (and_from (can_open (kind_of name)) (fits_in (kind_on_top s) (kind_of name) s) (in-opens (kind_on_top s) (kind_of name) s f e) f) a
stands-after [] (EndTag name) a f = a
stands-after (top ∷ s) (EndTag name) a f = (and_parts (stands top s) (all_stand s) a).1
stands-after s (Text text) a f = a

pub stand-fitting : (limit : ℕ) (s t : Stack) (items : List Item) → all_stand s ≡ true → IsFitting limit s items t → all_stand t ≡ true
stand-fitting limit s t [] a Done = a
stand-fitting limit s t (item ∷ items) a (Next i f l r) = stand-fitting limit (open_after s item) t items (stands-after s item a f) r

-- ---- elements that are closed

pub bytes-itself : (a : List ℕ) → bytes_eq a a ≡ true
bytes-itself a = (bytes_eq-Decides a a).1 refl

pub stand-drop : (closes : ℕ) (s : Stack) → all_stand s ≡ true → all_stand (drop closes s) ≡ true
unfolding all_stand
stand-drop zero s a = a
stand-drop (suc closes) [] a = refl
stand-drop (suc closes) (name ∷ s) a = stand-drop closes s (and_parts (stands name s) (all_stand s) a).1

pub end-fits : (name : List ℕ) (s : Stack) → can_open (kind_of name) ≡ true → fits (name ∷ s) (EndTag name) ≡ true
unfolding fits
end-fits name s o = and_from (can_open (kind_of name)) (named name name) o (bytes-itself name)

pub closes-fitting : (limit closes : ℕ) (s : Stack) → all_stand s ≡ true → length s ≤ limit → IsFitting limit s (end_tags (take closes s)) (drop closes s)
unfolding all_stand open_after
closes-fitting limit zero s a short = Done
closes-fitting limit (suc closes) [] a short = Done
closes-fitting limit (suc closes) (name ∷ s) a short =
    let p = and_parts (stands name s) (all_stand s) a in
    let q = and_parts (can_open (kind_of name)) (fits_in (kind_on_top s) (kind_of name) s) p.0 in
    let l : length s ≤ limit = omega arith in
    Next (EndTag name) (end-fits name s q.0) l (closes-fitting limit closes s p.1 l)

-- ---- elements that are opened

-- parents that can be opened, each in the one before
unfoldable pub OpensFit : Stack → List (List ℕ) → Type 0
OpensFit s [] = ⊤
OpensFit s (name ∷ names) = (stands name s ≡ true) × OpensFit (name ∷ s) names

no-void : (k : Kind) → can_open k ≡ true → is_void k ≡ false
no-void Unknown o = refl
no-void Rule o = absurd (false≢true o)
no-void Void o = absurd (false≢true o)
no-void Column o = absurd (false≢true o)
no-void other o = refl

longer : (names : List (List ℕ)) (s : Stack) → length s ≤ length (opened names s)
unfolding opened
longer [] s = omega arith
longer (name ∷ names) s = let l : length (name ∷ s) ≤ length (opened names (name ∷ s)) = longer names (name ∷ s) in omega arith

pub start-next : (limit : ℕ) (name : List ℕ) (attributes : List Attribute) (s t : Stack) (items : List Item) → stands name s ≡ true → length (name ∷ s) ≤ limit
    → IsFitting limit (name ∷ s) items t → IsFitting limit s (StartTag name attributes ∷ items) t
unfolding fits open_after
start-next limit name attributes s t items h l r =
    let p = and_parts (can_open (kind_of name)) (fits_in (kind_on_top s) (kind_of name) s) h in
    let v : is_void (kind_of name) ≡ false = no-void (kind_of name) p.0 in
    Next (StartTag name attributes) p.1 (rw v l) (rw v r)

pub opens-fitting : (limit : ℕ) (names : List (List ℕ)) (s t : Stack) (items : List Item) → OpensFit s names → length (opened names s) ≤ limit
    → IsFitting limit (opened names s) items t → IsFitting limit s (start_tags names ++ items) t
unfolding OpensFit opened
opens-fitting limit [] s t items o l r = r
opens-fitting limit (name ∷ names) s t items o l r =
    let m : length (name ∷ s) ≤ length (opened names (name ∷ s)) = longer names (name ∷ s) in
    let n : length (name ∷ s) ≤ limit = omega arith in
    start-next limit name [] s t (start_tags names ++ items) o.0 n (opens-fitting limit names (name ∷ s) t items o.1 l r)

longer-start : (name : List ℕ) (attributes : List Attribute) (s : Stack) → length s ≤ length (open_after s (StartTag name attributes))
unfolding open_after
longer-start name attributes s = at (is_void (kind_of name))
  where
    at : (b : Bool) → length s ≤ length (if b then s else name ∷ s)
    at true = omega arith
    at false = omega arith

-- ---- plans that are right: nothing is done, or the item fits after what is closed and opened

pub data IsRight (s : Stack) (item : Item) : Plan → Type 0 where
  Dropped : IsRight s item dropped
  Kept : (closes : ℕ) (opens : List (List ℕ)) → OpensFit (drop closes s) opens → fits (opened opens (drop closes s)) item ≡ true
      → IsRight s item (kept closes opens)

pub kept-fitting : (limit : ℕ) (s : Stack) (name : List ℕ) (attributes : List Attribute) (closes : ℕ) (opens : List (List ℕ)) → IsReady limit s
    → OpensFit (drop closes s) opens → fits (opened opens (drop closes s)) (StartTag name attributes) ≡ true
    → length (open_after (opened opens (drop closes s)) (StartTag name attributes)) ≤ limit
    → IsFitting limit s (written (kept closes opens) s (StartTag name attributes)) (stack_after (kept closes opens) s (StartTag name attributes))
kept-fitting limit s name attributes closes opens ready o f l =
    let after : Stack = open_after (opened opens (drop closes s)) (StartTag name attributes) in
    let m : length (opened opens (drop closes s)) ≤ length after = longer-start name attributes (opened opens (drop closes s)) in
    let n : length (opened opens (drop closes s)) ≤ limit = omega arith in
    fitting-append limit s (drop closes s) after (end_tags (take closes s)) (start_tags opens ++ StartTag name attributes ∷ [])
    (closes-fitting limit closes s ready.stand ready.short)
    (opens-fitting limit opens (drop closes s) after (StartTag name attributes ∷ []) o n (Next (StartTag name attributes) f l Done))

pub limited-fitting : (limit : ℕ) (s : Stack) (name : List ℕ) (attributes : List Attribute) (plan : Plan) → IsReady limit s → IsRight s (StartTag name attributes) plan
    → IsFitting limit s (written (limited limit s (StartTag name attributes) plan) s (StartTag name attributes))
    (stack_after (limited limit s (StartTag name attributes) plan) s (StartTag name attributes))
unfolding opened
limited-fitting limit s name attributes dropped ready Dropped = at (nat_le (length s) limit)
  where
    at : (b : Bool) → IsFitting limit s (written (if b then dropped else dropped) s (StartTag name attributes))
        (stack_after (if b then dropped else dropped) s (StartTag name attributes))
    at true = Done
    at false = Done
limited-fitting limit s name attributes plan ready (Kept closes opens o f) =
    at (nat_le (length (stack_after (kept closes opens) s (StartTag name attributes))) limit) refl
  where
    at : (b : Bool) → nat_le (length (stack_after (kept closes opens) s (StartTag name attributes))) limit ≡ b
        → IsFitting limit s (written (if b then kept closes opens else dropped) s (StartTag name attributes))
        (stack_after (if b then kept closes opens else dropped) s (StartTag name attributes))
    at true e = kept-fitting limit s name attributes closes opens ready o f (leb-true _ limit e)
    at false e = Done

-- ---- names of implied parents

kind-colgroup : kind_of (codes "colgroup") ≡ ColumnGroup
unfolding kind_of kind_in all_names is_among
kind-colgroup = refl

kind-tbody : kind_of (codes "tbody") ≡ TableBody
unfolding kind_of kind_in all_names is_among
kind-tbody = refl

kind-tr : kind_of (codes "tr") ≡ TableRow
unfolding kind_of kind_in all_names is_among
kind-tr = refl

pub kind-td : kind_of (codes "td") ≡ Cell
unfolding kind_of kind_in all_names is_among
kind-td = refl

-- ---- parts of tables

part-in : (part top : Kind) (n : List ℕ) (outer : Stack) (name : List ℕ) (attributes : List Attribute) → kind_of name ≡ part → kind_of n ≡ top
    → is_context part top ≡ true → is_part part ≡ true
    → OpensFit (n ∷ outer) (parents top part) × (fits (opened (parents top part) (n ∷ outer)) (StartTag name attributes) ≡ true)
unfolding OpensFit opened fits
part-in Caption Table n outer name attributes is at_top c p = (tt, rw (at_top, is) refl)
part-in ColumnGroup Table n outer name attributes is at_top c p = (tt, rw (at_top, is) refl)
part-in TableBody Table n outer name attributes is at_top c p = (tt, rw (at_top, is) refl)
part-in Column Table n outer name attributes is at_top c p = ((rw (kind-colgroup, at_top) refl, tt), rw (kind-colgroup, is) refl)
part-in Column ColumnGroup n outer name attributes is at_top c p = (tt, rw (at_top, is) refl)
part-in TableRow Table n outer name attributes is at_top c p = ((rw (kind-tbody, at_top) refl, tt), rw (kind-tbody, is) refl)
part-in TableRow TableBody n outer name attributes is at_top c p = (tt, rw (at_top, is) refl)
part-in Cell Table n outer name attributes is at_top c p =
    ((rw (kind-tbody, at_top) refl, (rw (kind-tr, kind-tbody) refl, tt)), rw (kind-tr, is) refl)
part-in Cell TableBody n outer name attributes is at_top c p = ((rw (kind-tr, at_top) refl, tt), rw (kind-tr, is) refl)
part-in Cell TableRow n outer name attributes is at_top c p = (tt, rw (at_top, is) refl)
part-in Caption other n outer name attributes is at_top c p = absurd (false≢true c)
part-in ColumnGroup other n outer name attributes is at_top c p = absurd (false≢true c)
part-in TableBody other n outer name attributes is at_top c p = absurd (false≢true c)
part-in Column other n outer name attributes is at_top c p = absurd (false≢true c)
part-in TableRow other n outer name attributes is at_top c p = absurd (false≢true c)
part-in Cell other n outer name attributes is at_top c p = absurd (false≢true c)
part-in other top n outer name attributes is at_top c p = absurd (false≢true p)

-- ---- the innermost element that passes

record IsFound (test : List ℕ → Bool) (count : ℕ) (s : Stack) : Type 0 where
  name : List ℕ
  outer : Stack
  is : drop count s ≡ name ∷ outer
  passes : test name ≡ true
  stand : all_stand (name ∷ outer) ≡ true

found : (test : List ℕ → Bool) (ends : Kind → Bool) (s : Stack) → all_stand s ≡ true → near test ends s ≡ true → IsFound test (count_inside test s) s
unfolding near count_inside all_stand
found test ends [] a h = absurd (false≢true h)
found test ends (name ∷ s) a h = at (test name) (ends (kind_of name)) refl h (found test ends s (and_parts (stands name s) (all_stand s) a).1)
  where
    at : (b c : Bool) → test name ≡ b → (if b then true else if c then false else near test ends s) ≡ true
        → (near test ends s ≡ true → IsFound test (count_inside test s) s) → IsFound test (if b then 0 else suc (count_inside test s)) (name ∷ s)
    at true c e h again = record { name = name; outer = s; is = refl; passes = e; stand = a }
    at false true e h again = absurd (false≢true h)
    at false false e h again =
        let r = again h in record { name = r.name; outer = r.outer; is = r.is; passes = r.passes; stand = r.stand }

pub drop-suc : (count : ℕ) (s outer : Stack) (name : List ℕ) → drop count s ≡ name ∷ outer → drop (suc count) s ≡ outer
drop-suc zero [] outer name e = cc
drop-suc zero (n ∷ s) outer name e = cc
drop-suc (suc count) [] outer name e = cc
drop-suc (suc count) (n ∷ s) outer name e = drop-suc count s outer name e

-- ---- parts: in the innermost element that holds them

right-part : (name : List ℕ) (attributes : List Attribute) (s : Stack) → all_stand s ≡ true → is_part (kind_of name) ≡ true
    → IsRight s (StartTag name attributes) (part_plan (kind_of name) s)
right-part name attributes s a part = at (near (of_kind (is_context (kind_of name))) no_kind s) refl
  where
    kept_in : IsFound (of_kind (is_context (kind_of name))) (inside_context (kind_of name) s) s
        → IsRight s (StartTag name attributes) (kept (inside_context (kind_of name) s) (parents_in s (kind_of name)))
    kept_in r =
        let p = part-in (kind_of name) (kind_of r.name) r.name r.outer name attributes refl refl r.passes part in
        Kept (inside_context (kind_of name) s) (parents_in s (kind_of name)) (rw r.is p.0) (rw r.is p.1)

    at : (b : Bool) → near (of_kind (is_context (kind_of name))) no_kind s ≡ b
        → IsRight s (StartTag name attributes) (if b then kept (inside_context (kind_of name) s) (parents_in s (kind_of name)) else dropped)
    at true e = kept_in (found (of_kind (is_context (kind_of name))) no_kind s a e)
    at false e = Dropped

-- ---- straight in a table

holds-part : (top k : Kind) → holds top k ≡ true → holds_parts top ≡ true
holds-part Table k h = refl
holds-part ColumnGroup k h = refl
holds-part TableBody k h = refl
holds-part TableRow k h = refl
holds-part other k h = absurd (false≢true h)

-- a part stands where parts do, and nothing else does
part-parent : (top k : Kind) (s : Stack) → fits_in top k s ≡ true → is_part k ≡ true → holds_parts top ≡ true
part-parent top k s f part = at (holds_parts top) f
  where
    at : (b : Bool) → (if b then holds top k else not (is_part k) && fits_flow k s) ≡ true → b ≡ true
    at true h = refl
    at false h = rw part at h

pub held-part : (top k : Kind) → holds top k ≡ true → is_part k ≡ true
held-part Table Caption h = refl
held-part Table ColumnGroup h = refl
held-part Table TableBody h = refl
held-part ColumnGroup Column h = refl
held-part TableBody TableRow h = refl
held-part TableRow Cell h = refl
held-part top k h = absurd (false≢true h)

record IsInFlow (k : Kind) (s : Stack) : Type 0 where
  holder : holds_parts (kind_on_top s) ≡ false
  flow : fits_flow k s ≡ true

in-flow : (k : Kind) (s : Stack) → fits_in (kind_on_top s) k s ≡ true → is_part k ≡ false → IsInFlow k s
in-flow k s f part = at (holds_parts (kind_on_top s)) refl f
  where
    at : (b : Bool) → holds_parts (kind_on_top s) ≡ b → (if b then holds (kind_on_top s) k else not (is_part k) && fits_flow k s) ≡ true → IsInFlow k s
    at true e h = absurd (false≢true (sym part ∙ held-part (kind_on_top s) k h))
    at false e h = record { holder = e; flow = (and_parts (not (is_part k)) (fits_flow k s) h).1 }

pub flow-in : (k : Kind) (s : Stack) → is_part k ≡ false → holds_parts (kind_on_top s) ≡ false → fits_flow k s ≡ true → fits_in (kind_on_top s) k s ≡ true
flow-in k s part holder flow = rw (holder, part, flow) refl

-- what stands in an element stands in what the table is in, or in the table
stands-in : (name : List ℕ) (s : Stack) → all_stand (name ∷ s) ≡ true → fits_in (kind_on_top s) (kind_of name) s ≡ true
unfolding all_stand
stands-in name s a = (and_parts (can_open (kind_of name)) (fits_in (kind_on_top s) (kind_of name) s) (and_parts (stands name s) (all_stand s) a).0).1

pub stand-outer : (name : List ℕ) (s : Stack) → all_stand (name ∷ s) ≡ true → all_stand s ≡ true
unfolding all_stand
stand-outer name s a = (and_parts (stands name s) (all_stand s) a).1

-- a table is open where parts are held
near-table : (test : Kind → Bool) (s : Stack) → test Table ≡ true → all_stand s ≡ true → holds_parts (kind_on_top s) ≡ true
    → near (of_kind test) no_kind s ≡ true
unfolding near
near-table test [] t a h = absurd (false≢true h)
near-table test (name ∷ s) t a h =
    at (kind_of name) refl h (stands-in name s a) (near-table test s t (stand-outer name s a))
  where
    past : {x : Bool} (b : Bool) → x ≡ true → (if b then true else x) ≡ true
    past true e = refl
    past false e = e

    at : (k : Kind) → kind_of name ≡ k → holds_parts k ≡ true → fits_in (kind_on_top s) k s ≡ true
        → (holds_parts (kind_on_top s) ≡ true → near (of_kind test) no_kind s ≡ true) → (if test k then true else near (of_kind test) no_kind s) ≡ true
    at Table is h f again = rw t refl
    at ColumnGroup is h f again = past (test ColumnGroup) (again (part-parent (kind_on_top s) ColumnGroup s f refl))
    at TableBody is h f again = past (test TableBody) (again (part-parent (kind_on_top s) TableBody s f refl))
    at TableRow is h f again = past (test TableRow) (again (part-parent (kind_on_top s) TableRow s f refl))
    at other is h f again = absurd (false≢true h)

-- in a new cell all that is no part fits, but a form
pub in-cell : (k : Kind) (name cell : List ℕ) (attributes : List Attribute) (outer : Stack) → kind_of name ≡ k → kind_of cell ≡ Cell → is_part k ≡ false
    → is_form k ≡ false → can_open k || is_void k ≡ true → fits (cell ∷ outer) (StartTag name attributes) ≡ true
unfolding fits near
in-cell Form name cell attributes outer is at_cell part form known = absurd (false≢true (sym form))
in-cell Unknown name cell attributes outer is at_cell part form known = absurd (false≢true known)
in-cell Caption name cell attributes outer is at_cell part form known = absurd (false≢true (sym part))
in-cell ColumnGroup name cell attributes outer is at_cell part form known = absurd (false≢true (sym part))
in-cell Column name cell attributes outer is at_cell part form known = absurd (false≢true (sym part))
in-cell TableBody name cell attributes outer is at_cell part form known = absurd (false≢true (sym part))
in-cell TableRow name cell attributes outer is at_cell part form known = absurd (false≢true (sym part))
in-cell Cell name cell attributes outer is at_cell part form known = absurd (false≢true (sym part))
in-cell other name cell attributes outer is at_cell part form known = simp (is, at_cell)

record OpensCell (s : Stack) (names : List (List ℕ)) : Type 0 where
  fit : OpensFit s names
  outer : Stack
  is : opened names s ≡ codes "td" ∷ outer

opens-cell : (top : Kind) (n : List ℕ) (outer : Stack) → kind_of n ≡ top → is_context Cell top ≡ true
    → OpensCell (n ∷ outer) (parents top Cell ++ codes "td" ∷ [])
unfolding OpensFit opened
opens-cell Table n outer at_top c = record {
  fit = (rw (kind-tbody, at_top) refl, (rw (kind-tr, kind-tbody) refl, (rw (kind-td, kind-tr) refl, tt)));
  outer = codes "tr" ∷ codes "tbody" ∷ n ∷ outer;
  is = refl;
}
opens-cell TableBody n outer at_top c =
    record { fit = (rw (kind-tr, at_top) refl, (rw (kind-td, kind-tr) refl, tt)); outer = codes "tr" ∷ n ∷ outer; is = refl }
opens-cell TableRow n outer at_top c = record { fit = (rw (kind-td, at_top) refl, tt); outer = n ∷ outer; is = refl }
opens-cell other n outer at_top c = absurd (false≢true c)

-- where parts are held, the plan for a cell opens one
pub record PlansCell (s : Stack) : Type 0 where
  pub opens : OpensFit (drop (inside_context Cell s) s) (parents_in s Cell ++ codes "td" ∷ [])
  pub outer : Stack
  pub is : opened (parents_in s Cell ++ codes "td" ∷ []) (drop (inside_context Cell s) s) ≡ codes "td" ∷ outer

pub plans-cell : (s : Stack) → all_stand s ≡ true → holds_parts (kind_on_top s) ≡ true → PlansCell s
plans-cell s a h =
    let r = found (of_kind (is_context Cell)) no_kind s a (near-table (is_context Cell) s refl a h) in
    let o = opens-cell (kind_of r.name) r.name r.outer refl r.passes in
    record { opens = rw r.is o.fit; outer = o.outer; is = rw r.is o.is }

right-cell : (name : List ℕ) (attributes : List Attribute) (s : Stack) → PlansCell s → is_part (kind_of name) ≡ false → is_form (kind_of name) ≡ false
    → can_open (kind_of name) || is_void (kind_of name) ≡ true → IsRight s (StartTag name attributes) (cell_plan s)
right-cell name attributes s c part form known =
    Kept (inside_context Cell s) (parents_in s Cell ++ codes "td" ∷ []) c.opens
    (rw c.is (in-cell (kind_of name) name (codes "td") attributes c.outer refl kind-td part form known))

-- ---- where an element of the same kind is closed

pub fits-start : (name : List ℕ) (attributes : List Attribute) (s : Stack) → fits_in (kind_on_top s) (kind_of name) s ≡ true
    → fits s (StartTag name attributes) ≡ true
unfolding fits
fits-start name attributes s f = f

-- the innermost of a kind is closed: the rest fits, as that did
right-same : (test : Kind → Bool) (k : Kind) → ((other : Kind) → test other ≡ true → other ≡ k) → (name : List ℕ) (attributes : List Attribute) (s : Stack)
    → kind_of name ≡ k → IsFound (of_kind test) (count_inside (of_kind test) s) s
    → IsRight s (StartTag name attributes) (kept (suc (count_inside (of_kind test) s)) [])
unfolding OpensFit opened
right-same test k only name attributes s is r =
    let same : kind_of r.name ≡ kind_of name = only (kind_of r.name) r.passes ∙ sym is in
    Kept (suc (count_inside (of_kind test) s)) [] tt
    (rw (drop-suc (count_inside (of_kind test) s) s r.outer r.name r.is)
    (fits-start name attributes r.outer (subst (λ x. fits_in (kind_on_top r.outer) x r.outer ≡ true) same (stands-in r.name r.outer r.stand))))

-- nothing is closed
right-flow : (name : List ℕ) (attributes : List Attribute) (s : Stack) (closes : ℕ) → is_part (kind_of name) ≡ false
    → holds_parts (kind_on_top (drop closes s)) ≡ false → fits_flow (kind_of name) (drop closes s) ≡ true
    → IsRight s (StartTag name attributes) (kept closes [])
unfolding OpensFit opened
right-flow name attributes s closes part holder flow =
    Kept closes [] tt (fits-start name attributes (drop closes s) (flow-in (kind_of name) (drop closes s) part holder flow))

only-table : (k : Kind) → is_table k ≡ true → k ≡ Table
only-table Table h = refl
only-table other h = absurd (false≢true h)

only-anchor : (k : Kind) → is_anchor k ≡ true → k ≡ Anchor
only-anchor Anchor h = refl
only-anchor other h = absurd (false≢true h)

only-no-break : (k : Kind) → is_no_break k ≡ true → k ≡ NoBreak
only-no-break NoBreak h = refl
only-no-break other h = absurd (false≢true h)

only-button : (k : Kind) → is_button k ≡ true → k ≡ Button
only-button Button h = refl
only-button other h = absurd (false≢true h)

only-list-item : (k : Kind) → is_list_item k ≡ true → k ≡ ListItem
only-list-item ListItem h = refl
only-list-item other h = absurd (false≢true h)

only-description : (k : Kind) → is_description k ≡ true → k ≡ Description
only-description Description h = refl
only-description other h = absurd (false≢true h)

only-heading : (k : Kind) → is_heading k ≡ true → k ≡ Heading
only-heading Heading h = refl
only-heading other h = absurd (false≢true h)

only-paragraph : (k : Kind) → is_paragraph k ≡ true → k ≡ Paragraph
only-paragraph Paragraph h = refl
only-paragraph other h = absurd (false≢true h)

right-table : (k : Kind) (name : List ℕ) (attributes : List Attribute) (s : Stack) → kind_of name ≡ k → is_part k ≡ false → all_stand s ≡ true
    → holds_parts (kind_on_top s) ≡ true → IsRight s (StartTag name attributes) (table_plan k s)
right-table Unknown name attributes s is part a h = Dropped
right-table Form name attributes s is part a h = Dropped
right-table Table name attributes s is part a h =
    right-same is_table Table only-table name attributes s is (found (of_kind is_table) no_kind s a (near-table is_table s refl a h))
right-table Caption name attributes s is part a h = absurd (false≢true (sym part))
right-table ColumnGroup name attributes s is part a h = absurd (false≢true (sym part))
right-table Column name attributes s is part a h = absurd (false≢true (sym part))
right-table TableBody name attributes s is part a h = absurd (false≢true (sym part))
right-table TableRow name attributes s is part a h = absurd (false≢true (sym part))
right-table Cell name attributes s is part a h = absurd (false≢true (sym part))
right-table other name attributes s is part a h = right-cell name attributes s (plans-cell s a h) (rw is refl) (rw is refl) (rw is refl)

-- ---- where text can stand

-- no `p` is near where parts are held: a table closes it
no-paragraph-held : (s : Stack) → all_stand s ≡ true → holds_parts (kind_on_top s) ≡ true → near (of_kind is_paragraph) bounds_paragraph s ≡ false
unfolding near
no-paragraph-held [] a h = refl
no-paragraph-held (name ∷ s) a h =
    at (kind_of name) h (stands-in name s a) (no-paragraph-held s (stand-outer name s a))
  where
    at : (k : Kind) → holds_parts k ≡ true → fits_in (kind_on_top s) k s ≡ true
        → (holds_parts (kind_on_top s) ≡ true → near (of_kind is_paragraph) bounds_paragraph s ≡ false)
        → (if is_paragraph k then true else if bounds_paragraph k then false else near (of_kind is_paragraph) bounds_paragraph s) ≡ false
    at Table h f again = not-true (near (of_kind is_paragraph) bounds_paragraph s) (in-flow Table s f refl).flow
    at ColumnGroup h f again = again (part-parent (kind_on_top s) ColumnGroup s f refl)
    at TableBody h f again = again (part-parent (kind_on_top s) TableBody s f refl)
    at TableRow h f again = again (part-parent (kind_on_top s) TableRow s f refl)
    at other h f again = absurd (false≢true h)

-- where the near `p` is closed
record IsClear (s : Stack) : Type 0 where
  holder : holds_parts (kind_on_top s) ≡ false
  paragraph : no_paragraph s ≡ true
  stand : all_stand s ≡ true

clear-found : (s : Stack) → IsFound (of_kind is_paragraph) (count_inside (of_kind is_paragraph) s) s
    → IsClear (drop (suc (count_inside (of_kind is_paragraph) s)) s)
clear-found s r =
    let f = in-flow Paragraph r.outer
    (subst (λ x. fits_in (kind_on_top r.outer) x r.outer ≡ true) (only-paragraph (kind_of r.name) r.passes) (stands-in r.name r.outer r.stand)) refl in
    rw (drop-suc (count_inside (of_kind is_paragraph) s) s r.outer r.name r.is)
    (record { holder = f.holder; paragraph = f.flow; stand = stand-outer r.name r.outer r.stand })

clear-closed : (s : Stack) → all_stand s ≡ true → holds_parts (kind_on_top s) ≡ false → IsClear (drop (paragraph_closes s) s)
clear-closed s a h = at (near (of_kind is_paragraph) bounds_paragraph s) refl
  where
    at : (b : Bool) → near (of_kind is_paragraph) bounds_paragraph s ≡ b
        → IsClear (drop (if b then suc (count_inside (of_kind is_paragraph) s) else 0) s)
    at true e = clear-found s (found (of_kind is_paragraph) bounds_paragraph s a e)
    at false e = record { holder = h; paragraph = not_from_false (near (of_kind is_paragraph) bounds_paragraph s) e; stand = a }

-- an element in a `p` bounds no `li`, `dd` or `dt`
record IsLight (k : Kind) : Type 0 where
  bounds : bounds_item k ≡ false
  list_item : is_list_item k ≡ false
  description : is_description k ≡ false

light-flow : (k : Kind) (s : Stack) → can_open k ≡ true → is_part k ≡ false → fits_flow k s ≡ true → bounds_paragraph k ≡ false
    → near (of_kind is_paragraph) bounds_paragraph s ≡ true → IsLight k
light-flow Ordinary s o part f b n = record { bounds = refl; list_item = refl; description = refl }
light-flow Ruby s o part f b n = record { bounds = refl; list_item = refl; description = refl }
light-flow Formatting s o part f b n = record { bounds = refl; list_item = refl; description = refl }
light-flow Anchor s o part f b n = record { bounds = refl; list_item = refl; description = refl }
light-flow NoBreak s o part f b n = record { bounds = refl; list_item = refl; description = refl }
light-flow RubyBase s o part f b n = record { bounds = refl; list_item = refl; description = refl }
light-flow RubyContainer s o part f b n = record { bounds = refl; list_item = refl; description = refl }
light-flow RubyText s o part f b n = record { bounds = refl; list_item = refl; description = refl }
light-flow Unknown s o part f b n = absurd (false≢true f)
light-flow Void s o part f b n = absurd (false≢true o)
light-flow Button s o part f b n = absurd (false≢true (sym b))
light-flow Heading s o part f b n = absurd (false≢true (sym (not-true _ (and_parts (no_paragraph s) (not (top_of_kind is_heading s)) f).0) ∙ n))
light-flow ListItem s o part f b n = absurd (false≢true (sym (not-true _ (and_parts (no_paragraph s) (none_near is_list_item bounds_item s) f).0) ∙ n))
light-flow Description s o part f b n = absurd (false≢true (sym (not-true _ (and_parts (no_paragraph s) (none_near is_description bounds_item s) f).0) ∙ n))
light-flow Form s o part f b n = absurd (false≢true (sym (not-true _ (and_parts (no_paragraph s) (none_near is_form no_kind s) f).0) ∙ n))
light-flow Caption s o part f b n = absurd (false≢true (sym part))
light-flow ColumnGroup s o part f b n = absurd (false≢true (sym part))
light-flow Column s o part f b n = absurd (false≢true (sym part))
light-flow TableBody s o part f b n = absurd (false≢true (sym part))
light-flow TableRow s o part f b n = absurd (false≢true (sym part))
light-flow Cell s o part f b n = absurd (false≢true (sym part))
light-flow other s o part f b n = absurd (false≢true (sym (not-true _ f) ∙ n))

light-in : (name : List ℕ) (s : Stack) → all_stand (name ∷ s) ≡ true → bounds_paragraph (kind_of name) ≡ false
    → near (of_kind is_paragraph) bounds_paragraph s ≡ true → IsLight (kind_of name)
unfolding all_stand
light-in name s a b n =
    at (cases_Bool (is_part (kind_of name)))
  where
    opens : can_open (kind_of name) ≡ true
    opens = (and_parts (can_open (kind_of name)) (fits_in (kind_on_top s) (kind_of name) s) (and_parts (stands name s) (all_stand s) a).0).0

    at : (is_part (kind_of name) ≡ true) ⊎ (is_part (kind_of name) ≡ false) → IsLight (kind_of name)
    at (inl part) =
        absurd (false≢true (sym (no-paragraph-held s (stand-outer name s a) (part-parent (kind_on_top s) (kind_of name) s (stands-in name s a) part)) ∙ n))
    at (inr part) = light-flow (kind_of name) s opens part (in-flow (kind_of name) s (stands-in name s a) part).flow b n

-- so none is near outside the near `p` that isn't near in it
items-outside : (test : Kind → Bool) → test Paragraph ≡ false → ((k : Kind) → IsLight k → test k ≡ false) → (s : Stack) → all_stand s ≡ true
    → near (of_kind is_paragraph) bounds_paragraph s ≡ true → near (of_kind test) bounds_item s ≡ false
    → near (of_kind test) bounds_item (drop (suc (count_inside (of_kind is_paragraph) s)) s) ≡ false
unfolding near count_inside
items-outside test t light [] a n h = absurd (false≢true n)
items-outside test t light (name ∷ s) a n h =
    at (is_paragraph (kind_of name)) (bounds_paragraph (kind_of name)) refl refl n (items-outside test t light s (stand-outer name s a))
  where
    past : (k : Kind) → kind_of name ≡ k → test k ≡ false → bounds_item k ≡ false → near (of_kind test) bounds_item s ≡ false
    past k is u v = rw (is, u, v) at h

    at : (b c : Bool) → is_paragraph (kind_of name) ≡ b → bounds_paragraph (kind_of name) ≡ c
        → (if b then true else if c then false else near (of_kind is_paragraph) bounds_paragraph s) ≡ true
        → (near (of_kind is_paragraph) bounds_paragraph s ≡ true → near (of_kind test) bounds_item s ≡ false
        → near (of_kind test) bounds_item (drop (suc (count_inside (of_kind is_paragraph) s)) s) ≡ false)
        → near (of_kind test) bounds_item (drop (if b then 0 else suc (count_inside (of_kind is_paragraph) s)) s) ≡ false
    at true c p d n again = past Paragraph (only-paragraph (kind_of name) p) t refl
    at false true p d n again = absurd (false≢true n)
    at false false p d n again =
        let l = light-in name s a d n in again n (past (kind_of name) refl (light (kind_of name) l) l.bounds)

right-item : (test : Kind → Bool) (k : Kind) → ((other : Kind) → test other ≡ true → other ≡ k) → test Paragraph ≡ false
    → ((other : Kind) → IsLight other → test other ≡ false) → (name : List ℕ) (attributes : List Attribute) (s : Stack) → kind_of name ≡ k → is_part k ≡ false
    → all_stand s ≡ true → holds_parts (kind_on_top s) ≡ false
    → ((t : Stack) → no_paragraph t ≡ true → near (of_kind test) bounds_item t ≡ false → fits_flow k t ≡ true)
    → IsRight s (StartTag name attributes) (kept (item_closes test s) [])
right-item test k only t light name attributes s is part a holder flows = at (near (of_kind test) bounds_item s) refl
  where
    none_outside : near (of_kind test) bounds_item s ≡ false → near (of_kind test) bounds_item (drop (paragraph_closes s) s) ≡ false
    none_outside none = go (near (of_kind is_paragraph) bounds_paragraph s) refl
      where
        go : (b : Bool) → near (of_kind is_paragraph) bounds_paragraph s ≡ b
            → near (of_kind test) bounds_item (drop (if b then suc (count_inside (of_kind is_paragraph) s) else 0) s) ≡ false
        go true e = items-outside test t light s a e none
        go false e = none

    at : (b : Bool) → near (of_kind test) bounds_item s ≡ b
        → IsRight s (StartTag name attributes) (kept (if b then suc (count_inside (of_kind test) s) else paragraph_closes s) [])
    at true e = right-same test k only name attributes s is (found (of_kind test) bounds_item s a e)
    at false e =
        let c = clear-closed s a holder in
        right-flow name attributes s (paragraph_closes s) (ap is_part is ∙ part) c.holder
        (ap (λ x. fits_flow x (drop (paragraph_closes s) s)) is ∙ flows (drop (paragraph_closes s) s) c.paragraph (none_outside e))

-- an `a`, `nobr` or `button` closes the near one
right-through : (test : Kind → Bool) (k : Kind) → ((other : Kind) → test other ≡ true → other ≡ k) → (name : List ℕ) (attributes : List Attribute) (s : Stack)
    → kind_of name ≡ k → is_part k ≡ false → all_stand s ≡ true → holds_parts (kind_on_top s) ≡ false
    → (near (of_kind test) has_marker s ≡ false → fits_flow k s ≡ true)
    → IsRight s (StartTag name attributes) (kept (through (of_kind test) has_marker s) [])
right-through test k only name attributes s is part a holder flows = at (near (of_kind test) has_marker s) refl
  where
    at : (b : Bool) → near (of_kind test) has_marker s ≡ b → IsRight s (StartTag name attributes) (kept (if b then suc (count_inside (of_kind test) s) else 0) [])
    at true e = right-same test k only name attributes s is (found (of_kind test) has_marker s a e)
    at false e = right-flow name attributes s 0 (ap is_part is ∙ part) holder (ap (λ x. fits_flow x s) is ∙ flows e)

-- what closes a `p`, and nothing else
right-block : (k : Kind) (name : List ℕ) (attributes : List Attribute) (s : Stack) → kind_of name ≡ k → is_part k ≡ false
    → all_stand s ≡ true → holds_parts (kind_on_top s) ≡ false → ((t : Stack) → no_paragraph t ≡ true → fits_flow k t ≡ true)
    → IsRight s (StartTag name attributes) (kept (paragraph_closes s) [])
right-block k name attributes s is part a holder flows =
    let c = clear-closed s a holder in
    right-flow name attributes s (paragraph_closes s) (ap is_part is ∙ part) c.holder
    (ap (λ x. fits_flow x (drop (paragraph_closes s) s)) is ∙ flows (drop (paragraph_closes s) s) c.paragraph)

-- what always fits
right-free : (k : Kind) (name : List ℕ) (attributes : List Attribute) (s : Stack) → kind_of name ≡ k → is_part k ≡ false
    → holds_parts (kind_on_top s) ≡ false → fits_flow k s ≡ true → IsRight s (StartTag name attributes) (kept 0 [])
right-free k name attributes s is part holder flow =
    right-flow name attributes s 0 (ap is_part is ∙ part) holder (ap (λ x. fits_flow x s) is ∙ flow)

-- a heading
right-heading : (name : List ℕ) (attributes : List Attribute) (s : Stack) → kind_of name ≡ Heading → all_stand s ≡ true → holds_parts (kind_on_top s) ≡ false
    → IsRight s (StartTag name attributes) (kept (heading_closes s) [])
unfolding OpensFit opened
right-heading name attributes s is a holder = at (drop (paragraph_closes s) s) refl (clear-closed s a holder)
  where
    on_top : (t : Stack) → drop (paragraph_closes s) s ≡ t → IsClear t → (b : Bool) → top_of_kind is_heading t ≡ b
        → IsRight s (StartTag name attributes) (kept (if b then suc (paragraph_closes s) else paragraph_closes s) [])
    on_top [] e c true h = absurd (false≢true h)
    on_top (top ∷ outer) e c true h =
        Kept (suc (paragraph_closes s)) [] tt
        (rw (drop-suc (paragraph_closes s) s outer top e)
        (fits-start name attributes outer
        (subst (λ x. fits_in (kind_on_top outer) x outer ≡ true) (only-heading (kind_of top) h ∙ sym is) (stands-in top outer c.stand))))
    on_top t e c false h =
        Kept (paragraph_closes s) [] tt
        (rw e (fits-start name attributes t (flow-in (kind_of name) t (ap is_part is) c.holder (rw is (and_from (no_paragraph t) (not (top_of_kind is_heading t)) c.paragraph (not_from_false (top_of_kind is_heading t) h))))))

    at : (t : Stack) → drop (paragraph_closes s) s ≡ t → IsClear t
        → IsRight s (StartTag name attributes) (kept (if top_of_kind is_heading (drop (paragraph_closes s) s) then suc (paragraph_closes s) else paragraph_closes s) [])
    at t e c = rw e (on_top t e c (top_of_kind is_heading t) refl)

-- a ruby part: those on top are closed whose end tag would be implied
record IsAboveNone (test : Kind → Bool) (s : Stack) : Type 0 where
  top : top_of_kind test s ≡ false
  holder : holds_parts (kind_on_top s) ≡ false

above-none : (test : Kind → Bool) → ((k : Kind) → test k ≡ true → is_part k ≡ false) → (s : Stack) → all_stand s ≡ true
    → holds_parts (kind_on_top s) ≡ false → IsAboveNone test (drop (run_of test s) s)
unfolding run_of
above-none test flow [] a h = record { top = refl; holder = refl }
above-none test flow (name ∷ s) a h = at (test (kind_of name)) refl (above-none test flow s (stand-outer name s a))
  where
    at : (b : Bool) → test (kind_of name) ≡ b → (holds_parts (kind_on_top s) ≡ false → IsAboveNone test (drop (run_of test s) s))
        → IsAboveNone test (drop (if b then suc (run_of test s) else 0) (name ∷ s))
    at true e again = again (in-flow (kind_of name) s (stands-in name s a) (flow (kind_of name) e)).holder
    at false e again = record { top = e; holder = h }

right-ruby : (test : Kind → Bool) (k : Kind) → ((other : Kind) → test other ≡ true → is_part other ≡ false) → (name : List ℕ) (attributes : List Attribute)
    → (s : Stack) → kind_of name ≡ k → is_part k ≡ false → all_stand s ≡ true → holds_parts (kind_on_top s) ≡ false
    → ((t : Stack) → (near (of_kind is_ruby) has_marker t && top_of_kind test t) ≡ false → fits_flow k t ≡ true)
    → IsRight s (StartTag name attributes) (kept (implied_closes test s) [])
right-ruby test k flow name attributes s is part a holder flows = at (near (of_kind is_ruby) has_marker s) refl
  where
    at : (b : Bool) → near (of_kind is_ruby) has_marker s ≡ b → IsRight s (StartTag name attributes) (kept (if b then run_of test s else 0) [])
    at true e =
        let c = above-none test flow s a holder in
        let t : Stack = drop (run_of test s) s in
        right-flow name attributes s (run_of test s) (ap is_part is ∙ part) c.holder
        (ap (λ x. fits_flow x t) is ∙ flows t (and_right (near (of_kind is_ruby) has_marker t) (top_of_kind test t) c.top))
    at false e =
        right-flow name attributes s 0 (ap is_part is ∙ part) holder
        (ap (λ x. fits_flow x s) is ∙ flows s (and_left (near (of_kind is_ruby) has_marker s) (top_of_kind test s) e))

implied-flow : (k : Kind) → is_implied k ≡ true → is_part k ≡ false
implied-flow Caption h = absurd (false≢true h)
implied-flow ColumnGroup h = absurd (false≢true h)
implied-flow Column h = absurd (false≢true h)
implied-flow TableBody h = absurd (false≢true h)
implied-flow TableRow h = absurd (false≢true h)
implied-flow Cell h = absurd (false≢true h)
implied-flow other h = refl

implied-text-flow : (k : Kind) → is_implied_before_text k ≡ true → is_part k ≡ false
implied-text-flow RubyContainer h = refl
implied-text-flow other h = implied-flow other h

-- a form
none-dropped : (test : List ℕ → Bool) (closes : ℕ) (s : Stack) → near test no_kind s ≡ false → near test no_kind (drop closes s) ≡ false
unfolding near
none-dropped test zero s h = h
none-dropped test (suc closes) [] h = refl
none-dropped test (suc closes) (name ∷ s) h = at (test name) h (none-dropped test closes s)
  where
    at : (b : Bool) → (if b then true else near test no_kind s) ≡ false → (near test no_kind s ≡ false → near test no_kind (drop closes s) ≡ false)
        → near test no_kind (drop closes s) ≡ false
    at true h again = absurd (false≢true (sym h))
    at false h again = again h

right-form : (name : List ℕ) (attributes : List Attribute) (s : Stack) → kind_of name ≡ Form → all_stand s ≡ true → holds_parts (kind_on_top s) ≡ false
    → IsRight s (StartTag name attributes) (flow_plan Form s)
right-form name attributes s is a holder = at (near (of_kind is_form) no_kind s) refl
  where
    at : (b : Bool) → near (of_kind is_form) no_kind s ≡ b → IsRight s (StartTag name attributes) (if b then dropped else kept (paragraph_closes s) [])
    at true e = Dropped
    at false e =
        let c = clear-closed s a holder in
        let t : Stack = drop (paragraph_closes s) s in
        right-flow name attributes s (paragraph_closes s) (ap is_part is) c.holder
        (ap (λ x. fits_flow x t) is ∙ and_from (no_paragraph t) (none_near is_form no_kind t) c.paragraph
        (not_from_false (near (of_kind is_form) no_kind t) (none-dropped (of_kind is_form) (paragraph_closes s) s e)))

both-from : (a b : Bool) → a ≡ true → b ≡ false → (a && not b) ≡ true
both-from a b h g = rw (h, g) refl

right-flow-plan : (k : Kind) (name : List ℕ) (attributes : List Attribute) (s : Stack) → kind_of name ≡ k → is_part k ≡ false → all_stand s ≡ true
    → holds_parts (kind_on_top s) ≡ false → IsRight s (StartTag name attributes) (flow_plan k s)
right-flow-plan Unknown name attributes s is part a h = Dropped
right-flow-plan Caption name attributes s is part a h = absurd (false≢true (sym part))
right-flow-plan ColumnGroup name attributes s is part a h = absurd (false≢true (sym part))
right-flow-plan Column name attributes s is part a h = absurd (false≢true (sym part))
right-flow-plan TableBody name attributes s is part a h = absurd (false≢true (sym part))
right-flow-plan TableRow name attributes s is part a h = absurd (false≢true (sym part))
right-flow-plan Cell name attributes s is part a h = absurd (false≢true (sym part))
right-flow-plan Form name attributes s is part a h = right-form name attributes s is a h
right-flow-plan Ordinary name attributes s is part a h = right-free Ordinary name attributes s is refl h refl
right-flow-plan Ruby name attributes s is part a h = right-free Ruby name attributes s is refl h refl
right-flow-plan Formatting name attributes s is part a h = right-free Formatting name attributes s is refl h refl
right-flow-plan Void name attributes s is part a h = right-free Void name attributes s is refl h refl
right-flow-plan Anchor name attributes s is part a h = right-through is_anchor Anchor only-anchor name attributes s is refl a h (λ e. not_from_false _ e)
right-flow-plan NoBreak name attributes s is part a h = right-through is_no_break NoBreak only-no-break name attributes s is refl a h (λ e. not_from_false _ e)
right-flow-plan Button name attributes s is part a h = right-through is_button Button only-button name attributes s is refl a h (λ e. not_from_false _ e)
right-flow-plan Heading name attributes s is part a h = right-heading name attributes s is a h
right-flow-plan ListItem name attributes s is part a h =
    right-item is_list_item ListItem only-list-item refl (λ k l. l.list_item) name attributes s is refl a h
    (λ t p e. both-from (no_paragraph t) (near (of_kind is_list_item) bounds_item t) p e)
right-flow-plan Description name attributes s is part a h =
    right-item is_description Description only-description refl (λ k l. l.description) name attributes s is refl a h
    (λ t p e. both-from (no_paragraph t) (near (of_kind is_description) bounds_item t) p e)
right-flow-plan RubyBase name attributes s is part a h = right-ruby is_implied RubyBase implied-flow name attributes s is refl a h (λ t e. not_from_false _ e)
right-flow-plan RubyContainer name attributes s is part a h =
    right-ruby is_implied RubyContainer implied-flow name attributes s is refl a h (λ t e. not_from_false _ e)
right-flow-plan RubyText name attributes s is part a h =
    right-ruby is_implied_before_text RubyText implied-text-flow name attributes s is refl a h (λ t e. not_from_false _ e)
right-flow-plan other name attributes s is part a h = right-block other name attributes s is refl a h (λ t p. p)

pub right-start : (name : List ℕ) (attributes : List Attribute) (s : Stack) → all_stand s ≡ true → IsRight s (StartTag name attributes) (start_plan (kind_of name) s)
right-start name attributes s a = at (is_part (kind_of name)) (holds_parts (kind_on_top s)) refl refl
  where
    at : (b c : Bool) → is_part (kind_of name) ≡ b → holds_parts (kind_on_top s) ≡ c
        → IsRight s (StartTag name attributes) (if b then part_plan (kind_of name) s else if c then table_plan (kind_of name) s else flow_plan (kind_of name) s)
    at true c part h = right-part name attributes s a part
    at false true part h = right-table (kind_of name) name attributes s refl part a h
    at false false part h = right-flow-plan (kind_of name) name attributes s refl part a h
