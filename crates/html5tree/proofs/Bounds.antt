-- How many items the normaliser writes: at most eight for each that it reads.
use Rattle.std.proofs.Common.{◌≡◌, ℕ, zero, suc, ◌+◌, ◌*◌, ◌≤◌, Bool, true, false, List, [], ◌∷◌, length, take, drop, refl, ap, arith, length-append}
use Rattle.std.specs.Prelude.{codes, not, ◌&&◌, nat_le, nat_lt, if◌then◌else◌}
use Rattle.std.specs.List.{list_all}
use Rattle.html5tree.specs.Fitting.{holds_parts, is_space, open_after}
use Rattle.html5tree.specs.Items.{Attribute, Item, text_before}
use Rattle.html5tree.specs.Items.Item.{EndTag, StartTag, Text}
use Rattle.html5tree.specs.declared.kinds.Kind.{Kind}
use Rattle.html5tree.specs.Names.{is_form, is_part, is_void, kind_of, named, no_kind, of_kind}
use Rattle.html5tree.specs.declared.kinds.Kind.TheVariants.{Cell, Column, Form, Paragraph, Table, TableBody, TableRow, Unknown, Void}
use Rattle.html5tree.specs.Normal.{Plan, after_written, bounds_end, cell_plan, closing, count_inside, dropped, end_plan, end_tags, fitted, flow_plan, inside_context, is_context, is_ended, kept, limited, lone_end_plan, moved, normal, normal_above, open_after_fitted, opened, paragraph_closes, parents, parents_in, part_plan, plan_of, stack_after, start_plan, start_tags, table_plan, text_plan, written, written_first, written_last}
use Rattle.html5tree.specs.declared.plans.Written.{Written}
use Rattle.html5tree.specs.declared.plans.Written.TheVariants.{EmptyParagraph, Itself, LineBreak, Nothing, Parted, WhiteSpace}
use Rattle.html5tree.specs.Scopes.{kind_on_top, near}
use Rattle.html5tree.specs.Tables.{leading_space}
use Rattle.html5tree.proofs.RightPlans.{Stack}
use Rattle.std.proofs.lemmas.List.{length-map}

-- ---- at most three parents are opened

few-parents : (top part : Kind) → length (parents top part) ≤ 2
few-parents Table Column = omega arith
few-parents Table TableRow = omega arith
few-parents Table Cell = omega arith
few-parents TableBody Cell = omega arith
few-parents top part = omega arith

unfoldable pub OpensFew : Plan → Type 0
OpensFew plan = length plan.opens ≤ 3

few-part : (k : Kind) (s : Stack) → OpensFew (part_plan k s)
unfolding OpensFew
few-part k s = at (near (of_kind (is_context k)) no_kind s)
  where
    few : length (parents_in s k) ≤ 2
    few = few-parents (kind_on_top (drop (inside_context k s) s)) k

    at : (b : Bool) → length (if b then kept (inside_context k s) (parents_in s k) else dropped).opens ≤ 3
    at true = omega (arith, few)
    at false = omega arith

pub few-cell : (s : Stack) → OpensFew (cell_plan s)
unfolding OpensFew
few-cell s =
    let few = few-parents (kind_on_top (drop (inside_context Cell s) s)) Cell in
    omega (arith, few, length-append (parents_in s Cell) (codes "td" ∷ []))

few-table : (k : Kind) (s : Stack) → OpensFew (table_plan k s)
unfolding OpensFew
few-table Unknown s = omega arith
few-table Form s = omega arith
few-table Table s = omega arith
few-table other s = few-cell s

few-flow : (k : Kind) (s : Stack) → OpensFew (flow_plan k s)
unfolding OpensFew
few-flow Unknown s = omega arith
few-flow Form s = at (near (of_kind is_form) no_kind s)
  where
    at : (b : Bool) → length (if b then dropped else kept (paragraph_closes s) []).opens ≤ 3
    at true = omega arith
    at false = omega arith
few-flow other s = omega arith

pub few-start : (k : Kind) (s : Stack) → OpensFew (start_plan k s)
few-start k s = at (is_part k) (holds_parts (kind_on_top s))
  where
    at : (b c : Bool) → OpensFew (if b then part_plan k s else if c then table_plan k s else flow_plan k s)
    at true c = few-part k s
    at false true = few-table k s
    at false false = few-flow k s

few-limited : (limit : ℕ) (s : Stack) (item : Item) (plan : Plan) → OpensFew plan → OpensFew (limited limit s item plan)
unfolding OpensFew
few-limited limit s item plan few = at (nat_le (length (stack_after plan s item)) limit)
  where
    at : (b : Bool) → length (if b then plan else dropped).opens ≤ 3
    at true = few
    at false = omega arith

few-lone : (limit : ℕ) (k : Kind) (s : Stack) → OpensFew (lone_end_plan limit k s)
unfolding OpensFew
few-lone limit Paragraph s = at (not (holds_parts (kind_on_top s)) && nat_lt (length s) limit)
  where
    at : (b : Bool) → length (if b then record dropped { writes = EmptyParagraph } else dropped).opens ≤ 3
    at true = omega arith
    at false = omega arith
few-lone limit other s = omega arith

few-end : (limit : ℕ) (k : Kind) (s : Stack) (name : List ℕ) → OpensFew (end_plan limit k s name)
unfolding OpensFew
few-end limit k s name = at (named (codes "br") name) (near (is_ended k name) (bounds_end k) s)
  where
    breaking : Plan
    breaking = record (start_plan Void s) { writes = LineBreak }

    at : (b c : Bool) → OpensFew
        (if b then limited limit s (EndTag name) breaking
        else if c then closing (suc (count_inside (is_ended k name) s)) else lone_end_plan limit k s)
    at true c = few-limited limit s (EndTag name) breaking (few-start Void s)
    at false true = omega arith
    at false false = few-lone limit k s

few-text : (limit : ℕ) (s : Stack) (text : List ℕ) → OpensFew (text_plan limit s text)
unfolding OpensFew
few-text limit s text = at (holds_parts (kind_on_top s) && not (list_all is_space text)) (nat_le (length (moved (cell_plan s) s)) limit)
  where
    at : (b c : Bool) → OpensFew
        (if b then (if c then record (cell_plan s) { writes = Parted } else record dropped { writes = WhiteSpace }) else kept 0 [])
    at true true = few-cell s
    at true false = omega arith
    at false c = omega arith

few-plan : (limit : ℕ) (s : Stack) (item : Item) → OpensFew (plan_of limit s item)
unfolding plan_of
few-plan limit s (StartTag name attributes) = few-limited limit s (StartTag name attributes) (start_plan (kind_of name) s) (few-start (kind_of name) s)
few-plan limit s (EndTag name) = few-end limit (kind_of name) s name
few-plan limit s (Text text) = few-text limit s text

-- ---- what an item costs: the output, and the elements open after it

pub length-opened : (names : List (List ℕ)) (s : Stack) → length (opened names s) ≡ length names + length s
unfolding opened
length-opened [] s = omega arith
length-opened (name ∷ names) s = let e = length-opened names (name ∷ s) in omega (arith, e)

pub length-parts : (closes : ℕ) (s : Stack) → length (take closes s) + length (drop closes s) ≡ length s
length-parts zero s = omega arith
length-parts (suc closes) [] = refl
length-parts (suc closes) (name ∷ s) = let e = length-parts closes s in omega (arith, e)

length-before : (text : List ℕ) → length (text_before text []) ≤ 1
length-before [] = omega arith
length-before (c ∷ text) = omega arith

fewer-open : (s : Stack) (name : List ℕ) → length (open_after s (EndTag name)) ≤ length s
unfolding open_after
fewer-open [] name = omega arith
fewer-open (top ∷ s) name = omega arith

one-more : (s : Stack) (name : List ℕ) (attributes : List Attribute) → length (open_after s (StartTag name attributes)) ≤ 1 + length s
unfolding open_after
one-more s name attributes = at (is_void (kind_of name))
  where
    at : (b : Bool) → length (if b then s else name ∷ s) ≤ 1 + length s
    at true = omega arith
    at false = omega arith

same-open : (s : Stack) (text : List ℕ) → open_after s (Text text) ≡ s
unfolding open_after
same-open s text = refl

own-cost : (w : Written) (s : Stack) (item : Item)
    → length (written_first w item) + (length (written_last w item) + length (after_written w s item)) ≤ 2 + length s
own-cost Itself s (StartTag name attributes) = let l = one-more s name attributes in omega (arith, l)
own-cost Itself s (EndTag name) = let l = fewer-open s name in omega (arith, l)
own-cost Itself s (Text text) = let l = ap length (same-open s text) in omega (arith, l)
own-cost Nothing s item = omega arith
own-cost Parted s (StartTag name attributes) = omega arith
own-cost Parted s (EndTag name) = omega arith
own-cost Parted s (Text text) = let l = length-before (leading_space text) in omega (arith, l)
own-cost WhiteSpace s (StartTag name attributes) = omega arith
own-cost WhiteSpace s (EndTag name) = omega arith
own-cost WhiteSpace s (Text text) = omega arith
own-cost EmptyParagraph s item = omega arith
own-cost LineBreak s item = omega arith

pub plan-cost : (plan : Plan) (s : Stack) (item : Item) → OpensFew plan → length (written plan s item) + length (stack_after plan s item) ≤ 8 + length s
unfolding OpensFew
plan-cost plan s item few =
    let own = own-cost plan.writes (moved plan s) item in
    let moves = length-opened plan.opens (drop plan.closes s) in
    let parts = length-parts plan.closes s in
    let starts : length (start_tags plan.opens) ≡ length plan.opens = length-map plan.opens (λ name. StartTag name []) in
    let ends : length (end_tags (take plan.closes s)) ≡ length (take plan.closes s) = length-map (take plan.closes s) (λ name. EndTag name) in
    simp length-append (omega (arith, own, moves, parts, starts, ends))

pub item-cost : (limit : ℕ) (s : Stack) (item : Item) → length (fitted limit s item) + length (open_after_fitted limit s item) ≤ 8 + length s
item-cost limit s item = plan-cost (plan_of limit s item) s item (few-plan limit s item)

all-cost : (limit : ℕ) (items : List Item) (s : Stack) → length (normal_above limit s items) ≤ length s + 8 * length items
unfolding normal_above
all-cost limit [] s = let e : length (end_tags s) ≡ length s = length-map s (λ name. EndTag name) in omega (arith, e)
all-cost limit (item ∷ items) s =
    let cost = item-cost limit s item in
    let rest = all-cost limit items (open_after_fitted limit s item) in
    let e = length-append (fitted limit s item) (normal_above limit (open_after_fitted limit s item) items) in
    omega (arith, cost, rest, e)

pub normal-bound : (limit : ℕ) (items : List Item) → length (normal limit items) ≤ 8 * length items
normal-bound limit items = let cost = all-cost limit items [] in omega (arith, cost)
