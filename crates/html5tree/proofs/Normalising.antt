-- What the normaliser makes fits, and what fits is not changed.
use Rattle.std.proofs.Common.{◌≡◌, ℕ, suc, ◌≤◌, ◌<◌, Bool, true, false, List, [], ◌∷◌, ◌++◌, length, take, drop, refl, ap, sym, ◌∙◌, subst, arith}
use Rattle.std.specs.Prelude.{codes, filter, not, ◌&&◌, nat_le, nat_lt, if◌then◌else◌}
use Rattle.std.specs.List.{list_all}
use Rattle.std.proofs.lemmas.Slice.Eq.{bytes_eq-Decides}
use Rattle.std.proofs.lemmas.Bool.{false≢true, not-true, not_from_false, and_parts, and_from, leb-true, le-leb, ltb-true}
use Rattle.html5tree.specs.Construction.{tree_of}
use Rattle.html5tree.specs.Fitting.{all_fit, all_open_after, bounds_item, bounds_paragraph, can_open, each_fits, fits, fits_flow, fits_in, holds, holds_parts, is_implied_before_text, is_space, no_paragraph, none_near, none_open, open_after}
use Rattle.html5tree.specs.Items.{Attribute, Item, read_items, text_before}
use Rattle.html5tree.specs.Items.Item.{EndTag, StartTag, Text}
use Rattle.html5tree.specs.declared.kinds.Kind.{Kind}
use Rattle.html5tree.specs.Names.{all_names, has_marker, is_among, is_anchor, is_button, is_description, is_form, is_heading, is_implied, is_list_item, is_no_break, is_paragraph, is_ruby, is_part, kind_in, kind_of, named, no_kind, of_kind}
use Rattle.html5tree.specs.declared.kinds.Kind.TheVariants.{Anchor, Button, Caption, Cell, Column, ColumnGroup, Description, Form, Formatting, Heading, ListItem, NoBreak, Ordinary, Paragraph, Ruby, RubyBase, RubyContainer, RubyText, Table, TableBody, TableRow, Unknown, Void}
use Rattle.html5tree.specs.declared.plans.Written.TheVariants.{EmptyParagraph, LineBreak, Parted, WhiteSpace}
use Rattle.html5tree.specs.Normal.{IsReady, Plan, all_stand, bounds_end, cell_plan, cell_text_plan, closing, count_inside, dropped, end_plan, end_tags, fitted, flow_plan, implied_closes, inside_context, is_context, is_ended, kept, limited, lone_end_plan, moved, normal, normal_above, open_after_fitted, opened, parents, parents_in, part_plan, plan_of, run_of, stack_after, stands, start_plan, start_tags, stays_within, table_plan, text_plan, written, written_first}
use Rattle.html5tree.specs.Scopes.{kind_on_top, near, top_is, top_of_kind}
use Rattle.html5tree.specs.Tables.{after_space, leading_space}
use Rattle.html5tree.specs.Tree.{nesting}
use Rattle.html5tree.proofs.Built.{tree-of-read}
use Rattle.html5tree.proofs.RightPlans.{IsFitting, OpensFit, PlansCell, Stack, bytes-itself, closes-fitting, each-fits, end-fits, fits-start, fitting-append, flow-in, held-part, in-cell, kept-fitting, kind-td, limited-fitting, open-fitting, opens-fitting, plans-cell, right-start, short-fitting, stand-fitting, start-next, within-fitting}
use Rattle.html5tree.proofs.RightPlans.IsFitting.{Done, Next}

-- ---- an end tag

kind-br : kind_of (codes "br") ≡ Void
unfolding kind_of kind_in all_names is_among
kind-br = refl

pub kind-p : kind_of (codes "p") ≡ Paragraph
unfolding kind_of kind_in all_names is_among
kind-p = refl

abbrev breaking : ℕ → List (List ℕ) → Plan
breaking closes opens = record (kept closes opens) { writes = LineBreak }

-- a `br` that opens nothing
break-fitting : (limit : ℕ) (s : Stack) (name : List ℕ) (closes : ℕ) (opens : List (List ℕ)) → IsReady limit s
    → OpensFit (drop closes s) opens → fits (opened opens (drop closes s)) (StartTag (codes "br") []) ≡ true
    → IsFitting limit s (written (limited limit s (EndTag name) (breaking closes opens)) s (EndTag name))
    (stack_after (limited limit s (EndTag name) (breaking closes opens)) s (EndTag name))
unfolding open_after opened
break-fitting limit s name closes opens ready o f = at (nat_le (length (opened opens (drop closes s))) limit) refl
  where
    made : length (opened opens (drop closes s)) ≤ limit → IsFitting limit s (written (breaking closes opens) s (EndTag name)) (opened opens (drop closes s))
    made l =
        rw kind-br at (kept-fitting limit s (codes "br") [] closes opens ready o f (rw kind-br l))

    at : (b : Bool) → nat_le (length (opened opens (drop closes s))) limit ≡ b
        → IsFitting limit s (written (if b then breaking closes opens else dropped) s (EndTag name))
        (stack_after (if b then breaking closes opens else dropped) s (EndTag name))
    at true e = made (leb-true (length (opened opens (drop closes s))) limit e)
    at false e = Done

break-plan : (limit : ℕ) (s : Stack) (name : List ℕ) → IsReady limit s
    → IsFitting limit s (written (limited limit s (EndTag name) (record (start_plan Void s) { writes = LineBreak })) s (EndTag name))
    (stack_after (limited limit s (EndTag name) (record (start_plan Void s) { writes = LineBreak })) s (EndTag name))
unfolding OpensFit opened
break-plan limit s name ready = at (holds_parts (kind_on_top s)) refl
  where
    at : (b : Bool) → holds_parts (kind_on_top s) ≡ b
        → IsFitting limit s (written (limited limit s (EndTag name) (record (if b then cell_plan s else kept 0 []) { writes = LineBreak })) s (EndTag name))
        (stack_after (limited limit s (EndTag name) (record (if b then cell_plan s else kept 0 []) { writes = LineBreak })) s (EndTag name))
    at true h =
        let c = plans-cell s ready.stand h in
        break-fitting limit s name (inside_context Cell s) (parents_in s Cell ++ codes "td" ∷ []) ready c.opens
        (rw c.is (in-cell Void (codes "br") (codes "td") [] c.outer kind-br kind-td refl refl refl))
    at false h = break-fitting limit s name 0 [] ready tt (fits-start (codes "br") [] s (rw kind-br (flow-in Void s refl h refl)))

empty-paragraph : (limit : ℕ) (s : Stack) → holds_parts (kind_on_top s) ≡ false → near (of_kind is_paragraph) bounds_paragraph s ≡ false → length s < limit
    → IsFitting limit s (StartTag (codes "p") [] ∷ EndTag (codes "p") ∷ []) s
unfolding open_after
empty-paragraph limit s holder none short =
    let fit : fits_in (kind_on_top s) Paragraph s ≡ true = flow-in Paragraph s refl holder (not_from_false (near (of_kind is_paragraph) bounds_paragraph s) none) in
    let l : length s ≤ limit = omega arith in
    let m : length (codes "p" ∷ s) ≤ limit = omega arith in
    start-next limit (codes "p") [] s s (EndTag (codes "p") ∷ []) (rw kind-p fit) m
    (Next (EndTag (codes "p")) (end-fits (codes "p") s (rw kind-p refl)) l Done)

lone-fitting : (limit : ℕ) (k : Kind) (s : Stack) (name : List ℕ) → near (is_ended k name) (bounds_end k) s ≡ false
    → IsFitting limit s (written (lone_end_plan limit k s) s (EndTag name)) (stack_after (lone_end_plan limit k s) s (EndTag name))
unfolding opened
lone-fitting limit Paragraph s name none = at (holds_parts (kind_on_top s)) (nat_lt (length s) limit) refl refl
  where
    at : (b c : Bool) → holds_parts (kind_on_top s) ≡ b → nat_lt (length s) limit ≡ c
        → IsFitting limit s (written (if not b && c then record dropped { writes = EmptyParagraph } else dropped) s (EndTag name))
        (stack_after (if not b && c then record dropped { writes = EmptyParagraph } else dropped) s (EndTag name))
    at true c h l = Done
    at false false h l = Done
    at false true h l = empty-paragraph limit s h none (ltb-true (length s) limit l)
lone-fitting limit other s name none = Done

closing-fitting : (limit : ℕ) (s : Stack) (name : List ℕ) (closes : ℕ) → IsReady limit s
    → IsFitting limit s (written (closing closes) s (EndTag name)) (stack_after (closing closes) s (EndTag name))
unfolding opened
closing-fitting limit s name closes ready =
    fitting-append limit s (drop closes s) (drop closes s) (end_tags (take closes s)) [] (closes-fitting limit closes s ready.stand ready.short) Done

end-fitting : (limit : ℕ) (k : Kind) (s : Stack) (name : List ℕ) → IsReady limit s
    → IsFitting limit s (written (end_plan limit k s name) s (EndTag name)) (stack_after (end_plan limit k s name) s (EndTag name))
end-fitting limit k s name ready = at (named (codes "br") name) (near (is_ended k name) (bounds_end k) s) refl
  where
    at : (b c : Bool) → near (is_ended k name) (bounds_end k) s ≡ c
        → IsFitting limit s
        (written
        (if b then limited limit s (EndTag name) (record (start_plan Void s) { writes = LineBreak })
        else if c then closing (suc (count_inside (is_ended k name) s)) else lone_end_plan limit k s) s (EndTag name))
        (stack_after
        (if b then limited limit s (EndTag name) (record (start_plan Void s) { writes = LineBreak })
        else if c then closing (suc (count_inside (is_ended k name) s)) else lone_end_plan limit k s) s (EndTag name))
    at true c e = break-plan limit s name ready
    at false true e = closing-fitting limit s name (suc (count_inside (is_ended k name) s)) ready
    at false false e = lone-fitting limit k s name e

-- ---- a text

text-fits : (s : Stack) (text : List ℕ) → (if holds_parts (kind_on_top s) then list_all is_space text else true) ≡ true → fits s (Text text) ≡ true
unfolding fits
text-fits s text h = h

space-fits : (s : Stack) (text : List ℕ) → list_all is_space text ≡ true → fits s (Text text) ≡ true
space-fits s text h = text-fits s text (at (holds_parts (kind_on_top s)))
  where
    at : (b : Bool) → (if b then list_all is_space text else true) ≡ true
    at true = h
    at false = refl

text-next : (limit : ℕ) (s t : Stack) (text : List ℕ) (items : List Item) → fits s (Text text) ≡ true → length s ≤ limit → IsFitting limit s items t
    → IsFitting limit s (Text text ∷ items) t
unfolding open_after
text-next limit s t text items f l r = Next (Text text) f l r

all-leading : (text : List ℕ) → list_all is_space (leading_space text) ≡ true
unfolding leading_space
all-leading [] = refl
all-leading (c ∷ text) = at (is_space c) refl (all-leading text)
  where
    at : (b : Bool) → is_space c ≡ b → list_all is_space (leading_space text) ≡ true → list_all is_space (if b then c ∷ leading_space text else []) ≡ true
    at true e again = and_from (is_space c) (list_all is_space (leading_space text)) e again
    at false e again = refl

pub all-filtered : (text : List ℕ) → list_all is_space (filter is_space text) ≡ true
all-filtered [] = refl
all-filtered (c ∷ text) = at (is_space c) refl (all-filtered text)
  where
    at : (b : Bool) → is_space c ≡ b → list_all is_space (filter is_space text) ≡ true
        → list_all is_space (if b then c ∷ filter is_space text else filter is_space text) ≡ true
    at true e again = and_from (is_space c) (list_all is_space (filter is_space text)) e again
    at false e again = again

before-fitting : (limit : ℕ) (s : Stack) (text : List ℕ) → list_all is_space text ≡ true → length s ≤ limit → IsFitting limit s (text_before text []) s
before-fitting limit s [] h l = Done
before-fitting limit s (c ∷ text) h l = text-next limit s s (c ∷ text) [] (space-fits s (c ∷ text) h) l Done

abbrev pub parted : Plan → Plan
parted plan = record plan { writes = Parted }

-- in a cell
pub parted-fitting : (limit : ℕ) (s : Stack) (text : List ℕ) → IsReady limit s → PlansCell s → length (moved (cell_plan s) s) ≤ limit
    → IsFitting limit s (written (parted (cell_plan s)) s (Text text)) (moved (cell_plan s) s)
parted-fitting limit s text ready c l =
    let rest : Stack = drop (inside_context Cell s) s in
    let names : List (List ℕ) = parents_in s Cell ++ codes "td" ∷ [] in
    let cell : fits (opened names rest) (Text (after_space text)) ≡ true = rw c.is (text-fits (codes "td" ∷ c.outer) (after_space text) (rw kind-td refl)) in
    fitting-append limit s s (opened names rest) (written_first Parted (Text text))
    (end_tags (take (inside_context Cell s) s) ++ (start_tags names ++ Text (after_space text) ∷ []))
    (before-fitting limit s (leading_space text) (all-leading text) ready.short)
    (fitting-append limit s rest (opened names rest) (end_tags (take (inside_context Cell s) s)) (start_tags names ++ Text (after_space text) ∷ [])
    (closes-fitting limit (inside_context Cell s) s ready.stand ready.short)
    (opens-fitting limit names rest (opened names rest) (Text (after_space text) ∷ []) c.opens l
    (text-next limit (opened names rest) (opened names rest) (after_space text) [] cell l Done)))

text-fitting : (limit : ℕ) (s : Stack) (text : List ℕ) → IsReady limit s
    → IsFitting limit s (written (text_plan limit s text) s (Text text)) (stack_after (text_plan limit s text) s (Text text))
unfolding opened open_after
text-fitting limit s text ready = at (holds_parts (kind_on_top s)) (list_all is_space text) (nat_le (length (moved (cell_plan s) s)) limit) refl refl refl
  where
    at : (b c d : Bool) → holds_parts (kind_on_top s) ≡ b → list_all is_space text ≡ c → nat_le (length (moved (cell_plan s) s)) limit ≡ d
        → IsFitting limit s
        (written (if b && not c then (if d then parted (cell_plan s) else record dropped { writes = WhiteSpace }) else kept 0 []) s (Text text))
        (stack_after (if b && not c then (if d then parted (cell_plan s) else record dropped { writes = WhiteSpace }) else kept 0 []) s (Text text))
    at true false true h e l = parted-fitting limit s text ready (plans-cell s ready.stand h) (leb-true (length (moved (cell_plan s) s)) limit l)
    at true false false h e l = text-next limit s s (filter is_space text) [] (space-fits s (filter is_space text) (all-filtered text)) ready.short Done
    at true true d h e l = text-next limit s s text [] (space-fits s text e) ready.short Done
    at false c d h e l = text-next limit s s text [] (text-fits s text (rw h refl)) ready.short Done

-- ---- an item, and all

pub item-fitting : (limit : ℕ) (s : Stack) (item : Item) → IsReady limit s → IsFitting limit s (fitted limit s item) (open_after_fitted limit s item)
unfolding plan_of
item-fitting limit s (StartTag name attributes) ready =
    limited-fitting limit s name attributes (start_plan (kind_of name) s) ready (right-start name attributes s ready.stand)
item-fitting limit s (EndTag name) ready = end-fitting limit (kind_of name) s name ready
item-fitting limit s (Text text) ready = text-fitting limit s text ready

pub ready-after : (limit : ℕ) (s : Stack) (item : Item) → IsReady limit s → IsReady limit (open_after_fitted limit s item)
ready-after limit s item ready =
    let f = item-fitting limit s item ready in
    record {
      stand = stand-fitting limit s (open_after_fitted limit s item) (fitted limit s item) ready.stand f;
      short = short-fitting limit s (open_after_fitted limit s item) (fitted limit s item) ready.short f;
    }

pub closed-fitting : (limit : ℕ) (s : Stack) → all_stand s ≡ true → length s ≤ limit → IsFitting limit s (end_tags s) []
unfolding all_stand open_after
closed-fitting limit [] a l = Done
closed-fitting limit (name ∷ s) a l =
    let p = and_parts (stands name s) (all_stand s) a in
    let q = and_parts (can_open (kind_of name)) (fits_in (kind_on_top s) (kind_of name) s) p.0 in
    let m : length s ≤ limit = omega arith in
    Next (EndTag name) (end-fits name s q.0) m (closed-fitting limit s p.1 m)

pub all-fitting : (limit : ℕ) (items : List Item) (s : Stack) → IsReady limit s → IsFitting limit s (normal_above limit s items) []
unfolding normal_above
all-fitting limit [] s ready = closed-fitting limit s ready.stand ready.short
all-fitting limit (item ∷ items) s ready =
    fitting-append limit s (open_after_fitted limit s item) [] (fitted limit s item) (normal_above limit (open_after_fitted limit s item) items)
    (item-fitting limit s item ready) (all-fitting limit items (open_after_fitted limit s item) (ready-after limit s item ready))

pub none-ready : (limit : ℕ) → IsReady limit []
unfolding all_stand
none-ready limit = record { stand = refl; short = omega arith }

pub normal-fits : (limit : ℕ) (items : List Item) → all_fit [] (normal limit items) ≡ true
normal-fits limit items =
    let f = all-fitting limit items [] (none-ready limit) in
    and_from (each_fits [] (normal limit items)) (none_open (all_open_after [] (normal limit items)))
    (each-fits limit [] [] (normal limit items) f) (ap none_open (open-fitting limit [] [] (normal limit items) f))

pub normal-within : (limit : ℕ) (items : List Item) → stays_within limit [] (normal limit items) ≡ true
normal-within limit items =
    within-fitting limit [] [] (normal limit items) (none-ready limit).short (all-fitting limit items [] (none-ready limit))

-- ---- what fits is not changed

same-context : (top k : Kind) → holds top k ≡ true → (is_context k top ≡ true) × (parents top k ≡ [])
same-context Table Caption h = (refl, refl)
same-context Table ColumnGroup h = (refl, refl)
same-context Table TableBody h = (refl, refl)
same-context ColumnGroup Column h = (refl, refl)
same-context TableBody TableRow h = (refl, refl)
same-context TableRow Cell h = (refl, refl)
same-context top k h = absurd (false≢true h)

same-part : (k : Kind) (s : Stack) → holds (kind_on_top s) k ≡ true → part_plan k s ≡ kept 0 []
unfolding near count_inside
same-part k [] h = absurd (false≢true h)
same-part k (name ∷ s) h = let p = same-context (kind_of name) k h in rw (p.0, p.1) refl

same-ruby : (test : Kind → Bool) (s : Stack) → (near (of_kind is_ruby) has_marker s && top_of_kind test s) ≡ false → implied_closes test s ≡ 0
unfolding near run_of
same-ruby test [] h = refl
same-ruby test (name ∷ s) h = at (near (of_kind is_ruby) has_marker (name ∷ s)) (test (kind_of name)) h
  where
    at : (b c : Bool) → (b && c) ≡ false → ◌≡◌ {A = ℕ} (if b then (if c then suc (run_of test s) else 0) else 0) 0
    at true true h = absurd (false≢true (sym h))
    at true false h = refl
    at false c h = refl

same-flow : (k : Kind) (s : Stack) → is_part k ≡ false → fits_flow k s ≡ true → flow_plan k s ≡ kept 0 []
same-flow Unknown s part f = absurd (false≢true f)
same-flow Caption s part f = absurd (false≢true (sym part))
same-flow ColumnGroup s part f = absurd (false≢true (sym part))
same-flow Column s part f = absurd (false≢true (sym part))
same-flow TableBody s part f = absurd (false≢true (sym part))
same-flow TableRow s part f = absurd (false≢true (sym part))
same-flow Cell s part f = absurd (false≢true (sym part))
same-flow Ordinary s part f = refl
same-flow Ruby s part f = refl
same-flow Formatting s part f = refl
same-flow Void s part f = refl
same-flow Anchor s part f = rw (not-true (near (of_kind is_anchor) has_marker s) f) refl
same-flow NoBreak s part f = rw (not-true (near (of_kind is_no_break) has_marker s) f) refl
same-flow Button s part f = rw (not-true (near (of_kind is_button) has_marker s) f) refl
same-flow Heading s part f =
    let p = and_parts (no_paragraph s) (not (top_of_kind is_heading s)) f in
    rw (not-true (near (of_kind is_paragraph) bounds_paragraph s) p.0, not-true (top_of_kind is_heading s) p.1) refl
same-flow ListItem s part f =
    let p = and_parts (no_paragraph s) (none_near is_list_item bounds_item s) f in
    rw (not-true (near (of_kind is_list_item) bounds_item s) p.1, not-true (near (of_kind is_paragraph) bounds_paragraph s) p.0) refl
same-flow Description s part f =
    let p = and_parts (no_paragraph s) (none_near is_description bounds_item s) f in
    rw (not-true (near (of_kind is_description) bounds_item s) p.1, not-true (near (of_kind is_paragraph) bounds_paragraph s) p.0) refl
same-flow Form s part f =
    let p = and_parts (no_paragraph s) (none_near is_form no_kind s) f in
    rw (not-true (near (of_kind is_form) no_kind s) p.1, not-true (near (of_kind is_paragraph) bounds_paragraph s) p.0) refl
same-flow RubyBase s part f = ap (λ n. kept n []) (same-ruby is_implied s (not-true _ f))
same-flow RubyContainer s part f = ap (λ n. kept n []) (same-ruby is_implied s (not-true _ f))
same-flow RubyText s part f = ap (λ n. kept n []) (same-ruby is_implied_before_text s (not-true _ f))
same-flow other s part f = rw (not-true (near (of_kind is_paragraph) bounds_paragraph s) f) refl

same-start : (k : Kind) (s : Stack) → fits_in (kind_on_top s) k s ≡ true → start_plan k s ≡ kept 0 []
same-start k s f = at (holds_parts (kind_on_top s)) refl f
  where
    at : (b : Bool) → holds_parts (kind_on_top s) ≡ b → (if b then holds (kind_on_top s) k else not (is_part k) && fits_flow k s) ≡ true
        → (if is_part k then part_plan k s else if b then table_plan k s else flow_plan k s) ≡ kept 0 []
    at true e h = rw (held-part (kind_on_top s) k h) (same-part k s h)
    at false e h =
        let p = and_parts (not (is_part k)) (fits_flow k s) h in
        let part : is_part k ≡ false = not-true (is_part k) p.0 in
        rw part (same-flow k s part p.1)

pub record IsUnchanged (limit : ℕ) (s : Stack) (item : Item) : Type 0 where
  pub fitted_is : fitted limit s item ≡ item ∷ []
  pub after_is : open_after_fitted limit s item ≡ open_after s item

from-plan : (limit : ℕ) (s : Stack) (item : Item) → plan_of limit s item ≡ kept 0 [] → IsUnchanged limit s item
unfolding opened
from-plan limit s item e = record { fitted_is = rw e refl; after_is = rw e refl }

limited-kept : (limit : ℕ) (s : Stack) (item : Item) (plan : Plan) → plan ≡ kept 0 [] → length (open_after s item) ≤ limit
    → limited limit s item plan ≡ kept 0 []
unfolding opened
limited-kept limit s item plan e l = rw (e, le-leb (length (open_after s item)) limit l) refl

same-text : (limit : ℕ) (s : Stack) (text : List ℕ) → fits s (Text text) ≡ true → text_plan limit s text ≡ kept 0 []
unfolding fits
same-text limit s text f = at (holds_parts (kind_on_top s)) f
  where
    at : (b : Bool) → (if b then list_all is_space text else true) ≡ true
        → (if b && not (list_all is_space text) then cell_text_plan limit s (cell_plan s) else kept 0 []) ≡ kept 0 []
    at true h = rw h refl
    at false h = refl

ended-itself : (k : Kind) (name : List ℕ) → kind_of name ≡ k → is_ended k name name ≡ true
ended-itself Heading name is = rw is refl
ended-itself Paragraph name is = rw is refl
ended-itself other name is = bytes-itself name

no-br : (name : List ℕ) → can_open (kind_of name) ≡ true → named (codes "br") name ≡ false
no-br name o = at (named (codes "br") name) refl
  where
    at : (b : Bool) → named (codes "br") name ≡ b → b ≡ false
    at true e = absurd (false≢true (sym (ap can_open (ap kind_of ((bytes_eq-Decides name (codes "br")).0 e) ∙ kind-br)) ∙ o))
    at false e = refl

closed-plan : (limit : ℕ) (s : Stack) (name : List ℕ) → can_open (kind_of name) ≡ true → end_plan limit (kind_of name) (name ∷ s) name ≡ closing 1
unfolding near count_inside
closed-plan limit s name o = rw (no-br name o, ended-itself (kind_of name) name refl) refl

closed-top : (limit : ℕ) (s : Stack) (name : List ℕ) → can_open (kind_of name) ≡ true → IsUnchanged limit (name ∷ s) (EndTag name)
unfolding opened open_after plan_of
closed-top limit s name o = record { fitted_is = rw (closed-plan limit s name o) refl; after_is = rw (closed-plan limit s name o) refl }

same-end : (limit : ℕ) (s : Stack) (name : List ℕ) → can_open (kind_of name) ≡ true → top_is (named name) s ≡ true → IsUnchanged limit s (EndTag name)
same-end limit [] name o t = absurd (false≢true t)
same-end limit (top ∷ s) name o t =
    subst (λ x. IsUnchanged limit (x ∷ s) (EndTag name)) (sym ((bytes_eq-Decides top name).0 t)) (closed-top limit s name o)

pub unchanged-item : (limit : ℕ) (s : Stack) (item : Item) → fits s item ≡ true → length (open_after s item) ≤ limit → IsUnchanged limit s item
unfolding plan_of fits
unchanged-item limit s (StartTag name attributes) f l =
    from-plan limit s (StartTag name attributes)
    (limited-kept limit s (StartTag name attributes) (start_plan (kind_of name) s) (same-start (kind_of name) s f) l)
unchanged-item limit s (EndTag name) f l =
    let p = and_parts (can_open (kind_of name)) (top_is (named name) s) f in
    same-end limit s name p.0 p.1
unchanged-item limit s (Text text) f l = from-plan limit s (Text text) (same-text limit s text f)

pub within-first : (limit : ℕ) (items : List Item) (s : Stack) → stays_within limit s items ≡ true → length s ≤ limit
unfolding stays_within
within-first limit [] s w = leb-true (length s) limit w
within-first limit (item ∷ items) s w =
    leb-true (length s) limit (and_parts (nat_le (length s) limit) (stays_within limit (open_after s item) items) w).0

pub unchanged : (limit : ℕ) (items : List Item) (s : Stack) → each_fits s items ≡ true → none_open (all_open_after s items) ≡ true → stays_within limit s items ≡ true
    → normal_above limit s items ≡ items
unfolding each_fits all_open_after stays_within normal_above
unchanged limit [] [] f n w = refl
unchanged limit [] (name ∷ s) f n w = absurd (false≢true n)
unchanged limit (item ∷ items) s f n w =
    let p = and_parts (fits s item) (each_fits (open_after s item) items) f in
    let q = and_parts (nat_le (length s) limit) (stays_within limit (open_after s item) items) w in
    let u = unchanged-item limit s item p.0 (within-first limit items (open_after s item) q.1) in
    rw (u.fitted_is, u.after_is) (ap (λ more. item ∷ more) (unchanged limit items (open_after s item) p.1 n q.1))

pub normal-unchanged : (limit : ℕ) (items : List Item) → all_fit [] items ≡ true → stays_within limit [] items ≡ true → normal limit items ≡ items
normal-unchanged limit items f w =
    let p = and_parts (each_fits [] items) (none_open (all_open_after [] items)) f in
    unchanged limit items [] p.0 p.1 w

pub normal-twice : (limit : ℕ) (items : List Item) → normal limit (normal limit items) ≡ normal limit items
normal-twice limit items = normal-unchanged limit (normal limit items) (normal-fits limit items) (normal-within limit items)

pub normal-tree : (limit : ℕ) (items : List Item) → tree_of (normal limit items) ≡ nesting (read_items false (normal limit items))
normal-tree limit items = tree-of-read (normal limit items) (normal-fits limit items)

-- ---- one item

pub item-fits : (limit : ℕ) (s : Stack) (item : Item) → IsReady limit s → each_fits s (fitted limit s item) ≡ true
item-fits limit s item ready = each-fits limit s (open_after_fitted limit s item) (fitted limit s item) (item-fitting limit s item ready)

pub item-within : (limit : ℕ) (s : Stack) (item : Item) → IsReady limit s → stays_within limit s (fitted limit s item) ≡ true
item-within limit s item ready =
    within-fitting limit s (open_after_fitted limit s item) (fitted limit s item) ready.short (item-fitting limit s item ready)

pub item-after : (limit : ℕ) (s : Stack) (item : Item) → IsReady limit s → all_open_after s (fitted limit s item) ≡ open_after_fitted limit s item
item-after limit s item ready = open-fitting limit s (open_after_fitted limit s item) (fitted limit s item) (item-fitting limit s item ready)

pub item-unchanged : (limit : ℕ) (s : Stack) (item : Item) → fits s item ≡ true → length (open_after s item) ≤ limit → fitted limit s item ≡ item ∷ []
item-unchanged limit s item f l = (unchanged-item limit s item f l).fitted_is

-- ---- names that the rules don't know

drops-none : (limit : ℕ) (s : Stack) (item : Item) → plan_of limit s item ≡ dropped → fitted limit s item ≡ []
unfolding opened
drops-none limit s item e = rw e refl

start-unknown : (s : Stack) → start_plan Unknown s ≡ dropped
start-unknown s = at (holds_parts (kind_on_top s))
  where
    at : (b : Bool) → (if b then dropped else dropped) ≡ dropped
    at true = refl
    at false = refl

limited-dropped : (limit : ℕ) (s : Stack) (item : Item) (plan : Plan) → plan ≡ dropped → limited limit s item plan ≡ dropped
limited-dropped limit s item plan e = at (nat_le (length (stack_after plan s item)) limit)
  where
    at : (b : Bool) → (if b then plan else dropped) ≡ dropped
    at true = e
    at false = refl

pub unknown-start : (limit : ℕ) (s : Stack) (name : List ℕ) (attributes : List Attribute) → kind_of name ≡ Unknown → fitted limit s (StartTag name attributes) ≡ []
unfolding plan_of
unknown-start limit s name attributes e =
    drops-none limit s (StartTag name attributes)
    (limited-dropped limit s (StartTag name attributes) (start_plan (kind_of name) s) (ap (λ k. start_plan k s) e ∙ start-unknown s))

-- no open element has such a name
unknown-far : (name : List ℕ) (ends : Kind → Bool) (s : Stack) → kind_of name ≡ Unknown → all_stand s ≡ true → near (named name) ends s ≡ false
unfolding near all_stand
unknown-far name ends [] e a = refl
unknown-far name ends (other ∷ s) e a =
    let p = and_parts (stands other s) (all_stand s) a in
    let q = and_parts (can_open (kind_of other)) (fits_in (kind_on_top s) (kind_of other) s) p.0 in
    at (named name other) (ends (kind_of other)) refl q.0 (unknown-far name ends s e p.1)
  where
    at : (b c : Bool) → named name other ≡ b → can_open (kind_of other) ≡ true → near (named name) ends s ≡ false
        → (if b then true else if c then false else near (named name) ends s) ≡ false
    at true c same o again = absurd (false≢true (sym (ap can_open (ap kind_of ((bytes_eq-Decides other name).0 same) ∙ e)) ∙ o))
    at false true same o again = refl
    at false false same o again = again

pub unknown-end : (limit : ℕ) (s : Stack) (name : List ℕ) → IsReady limit s → kind_of name ≡ Unknown → fitted limit s (EndTag name) ≡ []
unfolding plan_of
unknown-end limit s name ready e = drops-none limit s (EndTag name) (rw (e, no-break, unknown-far name (bounds_end Unknown) s e ready.stand) refl)
  where
    at : (b : Bool) → named (codes "br") name ≡ b → b ≡ false
    at true same = absurd (false≢void (sym (ap kind_of ((bytes_eq-Decides name (codes "br")).0 same) ∙ kind-br) ∙ e))
      where
        false≢void : Void ≡ Unknown → ⊥
        false≢void h = cc
    at false same = refl

    no-break : named (codes "br") name ≡ false
    no-break = at (named (codes "br") name) refl
