-- What the normaliser keeps of items.
use Rattle.std.proofs.Common.{◌≡◌, ℕ, suc, ◌+◌, ◌*◌, ◌≤◌, Bool, true, false, List, [], ◌∷◌, length, take, drop, refl, ap, sym, ◌∙◌, subst, arith}
use Rattle.std.specs.Prelude.{◌++◌, codes, filter, map, not, ◌&&◌, nat_le, nat_lt, if◌then◌else◌, ⊤}
use Rattle.std.specs.List.{list_all}
use Rattle.std.proofs.lemmas.Bool.{false≢true, le-leb}
use Rattle.std.proofs.lemmas.Grind.{flat_map-append}
use Rattle.std.proofs.Math.Bool.{and-false}
use Rattle.std.proofs.lemmas.List.{append-nil, append_assoc}
use Rattle.html5tree.specs.Fitting.{all_open_after, holds_parts, is_space, open_after}
use Rattle.html5tree.specs.Items.{Attribute, Item, text_before}
use Rattle.html5tree.specs.Items.Item.{EndTag, StartTag, Text}
use Rattle.html5tree.specs.Keeping.{AreAdded, Content, IsWithout, Keeps, KeepsItem, content_in, content_of, has_place, may_be_added, may_leave_out}
use Rattle.html5tree.specs.Keeping.Content.{Character, Start}
use Rattle.html5tree.specs.Keeping.IsWithout.{Done, Kept, LeftOut}
use Rattle.html5tree.specs.declared.kinds.Kind.{Kind}
use Rattle.html5tree.specs.Names.{is_form, is_part, kind_of, named, no_kind, of_kind}
use Rattle.html5tree.specs.declared.kinds.Kind.TheVariants.{Cell, Column, Form, Paragraph, Table, TableBody, TableRow, Unknown, Void}
use Rattle.html5tree.specs.Normal.{IsReady, Plan, bounds_end, cell_plan, closing, count_inside, dropped, end_plan, end_tags, fitted, flow_plan, inside_context, is_context, is_ended, kept, limited, lone_end_plan, moved, normal, normal_above, open_after_fitted, paragraph_closes, parents, parents_in, part_plan, plan_of, stack_after, start_plan, start_tags, table_plan, text_plan, written, written_first, written_last}
use Rattle.html5tree.specs.declared.plans.Written.{Written}
use Rattle.html5tree.specs.declared.plans.Written.TheVariants.{EmptyParagraph, Itself, LineBreak, Nothing, Parted, WhiteSpace}
use Rattle.html5tree.specs.Scopes.{kind_on_top, near}
use Rattle.html5tree.specs.Tables.{after_space, leading_space}
use Rattle.html5tree.proofs.Bounds.{OpensFew, few-cell, few-start, item-cost, length-opened, length-parts, plan-cost}
use Rattle.html5tree.proofs.Normalising.{item-after, none-ready, ready-after}
use Rattle.html5tree.proofs.RightPlans.{Stack}

-- ---- one list without some of another

pub without-append : {X : Type 0} (may : X → Bool) (xs ys us vs : List X) → IsWithout may xs ys → IsWithout may us vs → IsWithout may (xs ++ us) (ys ++ vs)
without-append may [] [] us vs Done more = more
without-append may [] (y ∷ ys) us vs none more = elim none [ ]
without-append may (x ∷ xs) (y ∷ ys) us vs (Kept z rest) more = Kept x (without-append may xs ys us vs rest more)
without-append may (x ∷ xs) ys us vs (LeftOut z m rest) more = LeftOut x m (without-append may xs ys us vs rest more)

pub without-none : {X : Type 0} (may : X → Bool) (xs : List X) → IsWithout may xs xs
without-none may [] = Done
without-none may (x ∷ xs) = Kept x (without-none may xs)

without-mapped : {X Y : Type 0} (f : X → Y) (may : Y → Bool) (xs ys : List X) → IsWithout (λ x. may (f x)) xs ys → IsWithout may (map f xs) (map f ys)
without-mapped f may [] [] Done = Done
without-mapped f may [] (y ∷ ys) none = elim none [ ]
without-mapped f may (x ∷ xs) (y ∷ ys) (Kept z rest) = Kept (f x) (without-mapped f may xs ys rest)
without-mapped f may (x ∷ xs) ys (LeftOut z m rest) = LeftOut (f x) m (without-mapped f may xs ys rest)

only-space : (text : List ℕ) → IsWithout (λ c. not (is_space c)) text (filter is_space text)
only-space [] = Done
only-space (c ∷ text) = at (is_space c) refl (only-space text)
  where
    at : (b : Bool) → is_space c ≡ b → IsWithout (λ d. not (is_space d)) text (filter is_space text)
        → IsWithout (λ d. not (is_space d)) (c ∷ text) (if b then c ∷ filter is_space text else filter is_space text)
    at true e rest = Kept c rest
    at false e rest = LeftOut c (ap not e) rest

-- ---- what is added

content-append : (a b : List Item) → content_of (a ++ b) ≡ content_of a ++ content_of b
unfolding content_of
content-append a b = flat_map-append content_in a b

-- a part, with `kept` as the kept part of its content
adds-append : (a b : List Item) (k l : List Content) → IsWithout may_be_added (content_of a) k → IsWithout may_be_added (content_of b) l
    → IsWithout may_be_added (content_of (a ++ b)) (k ++ l)
adds-append a b k l first second =
    subst (λ c. IsWithout may_be_added c (k ++ l)) (sym (content-append a b))
    (without-append may_be_added (content_of a) k (content_of b) l first second)

added-append : (a b : List Item) → AreAdded a → AreAdded b → AreAdded (a ++ b)
added-append a b first second = adds-append a b [] [] first second

pub added-none : AreAdded []
unfolding content_of
added-none = Done

-- end tags are no content
pub added-ends : (names : Stack) → AreAdded (end_tags names)
unfolding content_of
added-ends [] = Done
added-ends (name ∷ names) = added-ends names

-- start tags of these names may be added
abbrev AllAdded : Stack → Type 0
AllAdded [] = ⊤
AllAdded (name ∷ names) = (may_be_added (Start name []) ≡ true) × AllAdded names

added-starts : (names : Stack) → AllAdded names → AreAdded (start_tags names)
unfolding content_of
added-starts [] all = Done
added-starts (name ∷ names) all = LeftOut (Start name []) all.0 (added-starts names all.1)

all_added-append : (a b : Stack) → AllAdded a → AllAdded b → AllAdded (a ++ b)
all_added-append [] b all more = more
all_added-append (name ∷ a) b all more = (all.0, all_added-append a b all.1 more)

-- ---- items after items

open-append : (s : Stack) (a b : List Item) → all_open_after s (a ++ b) ≡ all_open_after (all_open_after s a) b
unfolding all_open_after
open-append s [] b = refl
open-append s (item ∷ a) b = open-append (open_after s item) a b

-- what is added comes before the first part
keeps-after : (enough : Bool) (s : Stack) (b c d : List Item) → AreAdded b → Keeps enough (all_open_after s b) c d → Keeps enough s c (b ++ d)
unfolding Keeps
keeps-after enough s b [] d adds k = added-append b d adds k
keeps-after enough s b (item ∷ c) d adds (before, part, rest, whole, added, keeps, later) = (
  b ++ before,
  part,
  rest,
  ap (λ l. b ++ l) whole ∙ sym (append_assoc b before (part ++ rest)),
  added-append b before adds added,
  subst (λ (t : Stack). KeepsItem enough t item part) (sym (open-append s b before)) keeps,
  subst (λ (t : Stack). Keeps enough t c rest) (sym (ap (λ l. all_open_after s l) (append_assoc b before part) ∙ open-append s b (before ++ part))) later,
)

pub keeps-append : (enough : Bool) (s : Stack) (a b c d : List Item) → Keeps enough s a b → Keeps enough (all_open_after s b) c d → Keeps enough s (a ++ c) (b ++ d)
unfolding Keeps
keeps-append enough s [] b c d adds more = keeps-after enough s b c d adds more
keeps-append enough s (item ∷ a) b c d (before, part, rest, whole, added, keeps, later) more = (
  before,
  part,
  rest ++ d,
  ap (λ l. l ++ d) whole ∙ append_assoc before (part ++ rest) d ∙ ap (λ l. before ++ l) (append_assoc part rest d),
  added,
  keeps,
  keeps-append enough (all_open_after s (before ++ part)) a rest c d later
      (subst (λ (t : Stack). Keeps enough t c d)
      (ap (λ l. all_open_after s l) (whole ∙ sym (append_assoc before part rest)) ∙ open-append s (before ++ part) rest) more),
)

-- one item, and what is written for it
pub keeps-one : (enough : Bool) (s : Stack) (item : Item) (part : List Item) → KeepsItem enough s item part → Keeps enough s (item ∷ []) part
unfolding Keeps all_open_after
keeps-one enough s item part keeps = ([], part, [], sym (append-nil part), added-none, keeps, added-none)

-- ---- one item

-- what is written of an item in its own place
abbrev IsOwn : Bool → Stack → Written → Item → Type 0
IsOwn enough s Itself item = ⊤
IsOwn enough s Nothing (StartTag name attributes) = may_leave_out enough s (Start name attributes) ≡ true
IsOwn enough s Nothing (EndTag name) = ⊤
IsOwn enough s Nothing (Text text) = ⊥
IsOwn enough s Parted (Text text) = ⊤
IsOwn enough s Parted other = ⊥
IsOwn enough s WhiteSpace (Text text) = enough ≡ false
IsOwn enough s WhiteSpace other = ⊥
IsOwn enough s EmptyParagraph (EndTag name) = ⊤
IsOwn enough s EmptyParagraph other = ⊥
IsOwn enough s LineBreak (EndTag name) = ⊤
IsOwn enough s LineBreak other = ⊥

record IsRight (enough : Bool) (s : Stack) (plan : Plan) (item : Item) : Type 0 where
  added : AllAdded plan.opens
  own : IsOwn enough s plan.writes item

both-parts : (text : List ℕ) → leading_space text ++ after_space text ≡ text
unfolding leading_space after_space
both-parts [] = refl
both-parts (c ∷ text) = at (is_space c) (both-parts text)
  where
    at : (b : Bool) → leading_space text ++ after_space text ≡ text
        → (if b then c ∷ leading_space text else []) ++ (if b then after_space text else c ∷ text) ≡ c ∷ text
    at true e = ap (λ l. c ∷ l) e
    at false e = refl

-- the kept part, if all of it is kept
without-text : (enough : Bool) (s : Stack) (text : List ℕ) → IsWithout (may_leave_out enough s) (map Character text) (map Character text)
without-text enough s text = without-none (may_leave_out enough s) (map Character text)

adds-text : (text : List ℕ) → IsWithout may_be_added (content_of (Text text ∷ [])) (map Character text)
unfolding content_of
adds-text text = subst (λ c. IsWithout may_be_added c (map Character text)) (sym (append-nil (map Character text))) (without-none may_be_added (map Character text))

adds-before : (text : List ℕ) → IsWithout may_be_added (content_of (text_before text [])) (map Character text)
unfolding content_of
adds-before [] = Done
adds-before (c ∷ text) = adds-text (c ∷ text)

-- end tags and added start tags before what is written last
adds-between : (last : List Item) (kept : List Content) (closed opens : Stack) → AllAdded opens → IsWithout may_be_added (content_of last) kept
    → IsWithout may_be_added (content_of (end_tags closed ++ (start_tags opens ++ last))) kept
adds-between last kept closed opens all adds =
    adds-append (end_tags closed) (start_tags opens ++ last) [] kept (added-ends closed)
    (adds-append (start_tags opens) last [] kept (added-starts opens all) adds)

adds-one : (name : List ℕ) (attributes : List Attribute) → IsWithout may_be_added (content_of (StartTag name attributes ∷ [])) (Start name attributes ∷ [])
unfolding content_of
adds-one name attributes = Kept (Start name attributes) Done

only-ends : (name : List ℕ) → AreAdded (EndTag name ∷ [])
unfolding content_of
only-ends name = Done

empty-paragraph : AreAdded (StartTag (codes "p") [] ∷ EndTag (codes "p") ∷ [])
unfolding content_of
empty-paragraph = LeftOut (Start (codes "p") []) refl Done

line-break : AreAdded (StartTag (codes "br") [] ∷ [])
unfolding content_of
line-break = LeftOut (Start (codes "br") []) refl Done

map-append : (a b : List ℕ) → map Character a ++ map Character b ≡ map Character (a ++ b)
map-append [] b = refl
map-append (c ∷ a) b = ap (λ l. Character c ∷ l) (map-append a b)

spaces : (enough : Bool) (s : Stack) (text : List ℕ) → enough ≡ false → IsWithout (may_leave_out enough s) (map Character text) (map Character (filter is_space text))
spaces enough s text e =
    subst (λ b. IsWithout (may_leave_out b s) (map Character text) (map Character (filter is_space text))) (sym e)
    (without-mapped Character (may_leave_out false s) text (filter is_space text) (only-space text))

keeps-written : (enough : Bool) (s : Stack) (w : Written) (closed opens : Stack) (item : Item) → AllAdded opens → IsOwn enough s w item
    → KeepsItem enough s item (written_first w item ++ (end_tags closed ++ (start_tags opens ++ written_last w item)))
keeps-written enough s Itself closed opens (StartTag name attributes) all own = record {
  kept = Start name attributes ∷ [];
  left = Kept (Start name attributes) Done;
  added = adds-between (StartTag name attributes ∷ []) (Start name attributes ∷ []) closed opens all (adds-one name attributes);
}
keeps-written enough s Itself closed opens (EndTag name) all own = record {
  kept = [];
  left = Done;
  added = adds-between (EndTag name ∷ []) [] closed opens all (only-ends name);
}
keeps-written enough s Itself closed opens (Text text) all own = record {
  kept = map Character text;
  left = without-text enough s text;
  added = adds-between (Text text ∷ []) (map Character text) closed opens all (adds-text text);
}
keeps-written enough s Nothing closed opens (StartTag name attributes) all own = record {
  kept = [];
  left = LeftOut (Start name attributes) own Done;
  added = adds-between [] [] closed opens all added-none;
}
keeps-written enough s Nothing closed opens (EndTag name) all own = record { kept = []; left = Done; added = adds-between [] [] closed opens all added-none }
keeps-written enough s Nothing closed opens (Text text) all own = absurd own
keeps-written enough s Parted closed opens (Text text) all own = record {
  kept = map Character text;
  left = without-text enough s text;
  added =
      subst (λ l. IsWithout may_be_added (content_of (text_before (leading_space text) [] ++ (end_tags closed ++ (start_tags opens ++ Text (after_space text) ∷ [])))) l)
      (map-append (leading_space text) (after_space text) ∙ ap (map Character) (both-parts text))
      (adds-append (text_before (leading_space text) []) (end_tags closed ++ (start_tags opens ++ Text (after_space text) ∷ []))
      (map Character (leading_space text)) (map Character (after_space text)) (adds-before (leading_space text))
      (adds-between (Text (after_space text) ∷ []) (map Character (after_space text)) closed opens all (adds-text (after_space text))));
}
keeps-written enough s Parted closed opens (StartTag name attributes) all own = absurd own
keeps-written enough s Parted closed opens (EndTag name) all own = absurd own
keeps-written enough s WhiteSpace closed opens (Text text) all own = record {
  kept = map Character (filter is_space text);
  left = spaces enough s text own;
  added = adds-between (Text (filter is_space text) ∷ []) (map Character (filter is_space text)) closed opens all (adds-text (filter is_space text));
}
keeps-written enough s WhiteSpace closed opens (StartTag name attributes) all own = absurd own
keeps-written enough s WhiteSpace closed opens (EndTag name) all own = absurd own
keeps-written enough s EmptyParagraph closed opens (EndTag name) all own = record {
  kept = [];
  left = Done;
  added = adds-between (StartTag (codes "p") [] ∷ EndTag (codes "p") ∷ []) [] closed opens all empty-paragraph;
}
keeps-written enough s EmptyParagraph closed opens (StartTag name attributes) all own = absurd own
keeps-written enough s EmptyParagraph closed opens (Text text) all own = absurd own
keeps-written enough s LineBreak closed opens (EndTag name) all own = record {
  kept = [];
  left = Done;
  added = adds-between (StartTag (codes "br") [] ∷ []) [] closed opens all line-break;
}
keeps-written enough s LineBreak closed opens (StartTag name attributes) all own = absurd own
keeps-written enough s LineBreak closed opens (Text text) all own = absurd own

-- ---- each plan is right

left_out : (enough : Bool) (s : Stack) (name : List ℕ) (attributes : List Attribute) → has_place (kind_of name) s ≡ false
    → may_leave_out enough s (Start name attributes) ≡ true
left_out true s name attributes none = ap not none
left_out false s name attributes none = refl

added-parents : (top part : Kind) → AllAdded (parents top part)
added-parents Table Column = (refl, tt)
added-parents Table TableRow = (refl, tt)
added-parents Table Cell = (refl, (refl, tt))
added-parents TableBody Cell = (refl, tt)
added-parents top part = tt

no_place-part : (k : Kind) (s : Stack) → is_part k ≡ true → near (of_kind (is_context k)) no_kind s ≡ false → has_place k s ≡ false
no_place-part Form s part far = absurd (false≢true part)
no_place-part Unknown s part far = absurd (false≢true part)
no_place-part other s part far = ap (λ b. if b then near (of_kind (is_context other)) no_kind s else true) part ∙ far

-- the same by another name of its kind
by_kind : (name : List ℕ) (k : Kind) (s : Stack) → kind_of name ≡ k → has_place k s ≡ false → has_place (kind_of name) s ≡ false
by_kind name k s same none = ap (λ l. has_place l s) same ∙ none

right-part : (enough : Bool) (k : Kind) (s : Stack) (name : List ℕ) (attributes : List Attribute) → kind_of name ≡ k → is_part k ≡ true
    → IsRight enough s (part_plan k s) (StartTag name attributes)
right-part enough k s name attributes same part = at (near (of_kind (is_context k)) no_kind s) refl
  where
    at : (b : Bool) → near (of_kind (is_context k)) no_kind s ≡ b
        → IsRight enough s (if b then kept (inside_context k s) (parents_in s k) else dropped) (StartTag name attributes)
    at true e = record { added = added-parents (kind_on_top (drop (inside_context k s) s)) k; own = tt }
    at false e = record { added = tt; own = left_out enough s name attributes (by_kind name k s same (no_place-part k s part e)) }

added-cell : (s : Stack) → AllAdded (cell_plan s).opens
added-cell s =
    all_added-append (parents_in s Cell) (codes "td" ∷ []) (added-parents (kind_on_top (drop (inside_context Cell s) s)) Cell) (refl, tt)

right-table : (enough : Bool) (k : Kind) (s : Stack) (name : List ℕ) (attributes : List Attribute) → kind_of name ≡ k → holds_parts (kind_on_top s) ≡ true
    → IsRight enough s (table_plan k s) (StartTag name attributes)
right-table enough Unknown s name attributes same holds = record { added = tt; own = left_out enough s name attributes (by_kind name Unknown s same refl) }
right-table enough Form s name attributes same holds = record {
  added = tt;
  own = left_out enough s name attributes (by_kind name Form s same (ap (λ b. not b && not (near (of_kind is_form) no_kind s)) holds));
}
right-table enough Table s name attributes same holds = record { added = tt; own = tt }
right-table enough other s name attributes same holds = record { added = added-cell s; own = tt }

right-flow : (enough : Bool) (k : Kind) (s : Stack) (name : List ℕ) (attributes : List Attribute) → kind_of name ≡ k
    → IsRight enough s (flow_plan k s) (StartTag name attributes)
right-flow enough Unknown s name attributes same = record { added = tt; own = left_out enough s name attributes (by_kind name Unknown s same refl) }
right-flow enough Form s name attributes same = at (near (of_kind is_form) no_kind s) refl
  where
    at : (b : Bool) → near (of_kind is_form) no_kind s ≡ b → IsRight enough s (if b then dropped else kept (paragraph_closes s) []) (StartTag name attributes)
    at true e = record {
      added = tt;
      own = left_out enough s name attributes (by_kind name Form s same (ap (λ b. not (holds_parts (kind_on_top s)) && not b) e ∙ and-false (not (holds_parts (kind_on_top s)))));
    }
    at false e = record { added = tt; own = tt }
right-flow enough other s name attributes same = record { added = tt; own = tt }

right-start : (enough : Bool) (k : Kind) (s : Stack) (name : List ℕ) (attributes : List Attribute) → kind_of name ≡ k
    → IsRight enough s (start_plan k s) (StartTag name attributes)
right-start enough k s name attributes same = at (is_part k) (holds_parts (kind_on_top s)) refl refl
  where
    at : (b c : Bool) → is_part k ≡ b → holds_parts (kind_on_top s) ≡ c
        → IsRight enough s (if b then part_plan k s else if c then table_plan k s else flow_plan k s) (StartTag name attributes)
    at true c part holds = right-part enough k s name attributes same part
    at false true part holds = right-table enough k s name attributes same holds
    at false false part holds = right-flow enough k s name attributes same

-- enough may be open for an item and for what is opened before it
abbrev pub HasRoom : Bool → ℕ → Stack → Type 0
HasRoom enough limit s = enough ≡ true → 8 + length s ≤ limit

is-within : (enough : Bool) (limit count : ℕ) → (enough ≡ true → count ≤ limit) → nat_le count limit ≡ false → enough ≡ false
is-within true limit count room e = absurd (false≢true (sym e ∙ le-leb count limit (room refl)))
is-within false limit count room e = refl

dropped-start : (enough : Bool) (s : Stack) (name : List ℕ) (attributes : List Attribute) → enough ≡ false → may_leave_out enough s (Start name attributes) ≡ true
dropped-start true s name attributes e = absurd (false≢true (sym e))
dropped-start false s name attributes e = refl

right-limited : (enough : Bool) (limit : ℕ) (s : Stack) (name : List ℕ) (attributes : List Attribute) (plan : Plan) → HasRoom enough limit s → OpensFew plan
    → IsRight enough s plan (StartTag name attributes) → IsRight enough s (limited limit s (StartTag name attributes) plan) (StartTag name attributes)
right-limited enough limit s name attributes plan room few right = at (nat_le (length (stack_after plan s (StartTag name attributes))) limit) refl
  where
    short : enough ≡ true → length (stack_after plan s (StartTag name attributes)) ≤ limit
    short e = let r = room e in let cost = plan-cost plan s (StartTag name attributes) few in omega (arith, r, cost)

    at : (b : Bool) → nat_le (length (stack_after plan s (StartTag name attributes))) limit ≡ b
        → IsRight enough s (if b then plan else dropped) (StartTag name attributes)
    at true e = right
    at false e = record {
      added = tt;
      own = dropped-start enough s name attributes (is-within enough limit (length (stack_after plan s (StartTag name attributes))) short e);
    }

added-start : (k : Kind) (s : Stack) (name : List ℕ) → AllAdded (start_plan Void s).opens
added-start k s name = at (holds_parts (kind_on_top s))
  where
    at : (c : Bool) → AllAdded (if c then table_plan Void s else flow_plan Void s).opens
    at true = added-cell s
    at false = tt

right-end : (enough : Bool) (limit : ℕ) (k : Kind) (s : Stack) (name : List ℕ) → IsRight enough s (end_plan limit k s name) (EndTag name)
right-end enough limit k s name = at (named (codes "br") name) (near (is_ended k name) (bounds_end k) s)
  where
    breaking : Plan
    breaking = record (start_plan Void s) { writes = LineBreak }

    breaks : (b : Bool) → IsRight enough s (if b then breaking else dropped) (EndTag name)
    breaks true = record { added = added-start k s name; own = tt }
    breaks false = record { added = tt; own = tt }

    lone : (other : Kind) → IsRight enough s (lone_end_plan limit other s) (EndTag name)
    lone Paragraph = empty (not (holds_parts (kind_on_top s)) && nat_lt (length s) limit)
      where
        empty : (b : Bool) → IsRight enough s (if b then record dropped { writes = EmptyParagraph } else dropped) (EndTag name)
        empty true = record { added = tt; own = tt }
        empty false = record { added = tt; own = tt }
    lone other = record { added = tt; own = tt }

    at : (b c : Bool) → IsRight enough s
        (if b then limited limit s (EndTag name) breaking
        else if c then closing (suc (count_inside (is_ended k name) s)) else lone_end_plan limit k s) (EndTag name)
    at true c = breaks (nat_le (length (stack_after breaking s (EndTag name))) limit)
    at false true = record { added = tt; own = tt }
    at false false = lone k

cell-short : (s : Stack) → length (moved (cell_plan s) s) ≤ 3 + length s
unfolding OpensFew
cell-short s =
    let few = few-cell s in
    let moves = length-opened (cell_plan s).opens (drop (cell_plan s).closes s) in
    let parts = length-parts (cell_plan s).closes s in
    omega (arith, few, moves, parts)

right-text : (enough : Bool) (limit : ℕ) (s : Stack) (text : List ℕ) → HasRoom enough limit s → IsRight enough s (text_plan limit s text) (Text text)
right-text enough limit s text room = at (holds_parts (kind_on_top s) && not (list_all is_space text)) (nat_le (length (moved (cell_plan s) s)) limit) refl
  where
    short : enough ≡ true → length (moved (cell_plan s) s) ≤ limit
    short e = let r = room e in let cell = cell-short s in omega (arith, r, cell)

    at : (b c : Bool) → nat_le (length (moved (cell_plan s) s)) limit ≡ c → IsRight enough s
        (if b then (if c then record (cell_plan s) { writes = Parted } else record dropped { writes = WhiteSpace }) else kept 0 []) (Text text)
    at true true e = record { added = added-cell s; own = tt }
    at true false e = record { added = tt; own = is-within enough limit (length (moved (cell_plan s) s)) short e }
    at false c e = record { added = tt; own = tt }

right-plan : (enough : Bool) (limit : ℕ) (s : Stack) (item : Item) → HasRoom enough limit s → IsRight enough s (plan_of limit s item) item
unfolding plan_of
right-plan enough limit s (StartTag name attributes) room =
    right-limited enough limit s name attributes (start_plan (kind_of name) s) room (few-start (kind_of name) s) (right-start enough (kind_of name) s name attributes refl)
right-plan enough limit s (EndTag name) room = right-end enough limit (kind_of name) s name
right-plan enough limit s (Text text) room = right-text enough limit s text room

-- ---- all items

keeps-plan : (enough : Bool) (limit : ℕ) (s : Stack) (item : Item) → HasRoom enough limit s → KeepsItem enough s item (fitted limit s item)
keeps-plan enough limit s item room =
    let right = right-plan enough limit s item room in
    keeps-written enough s (plan_of limit s item).writes (take (plan_of limit s item).closes s) (plan_of limit s item).opens item right.added right.own

-- an item, and then others above the elements open after it
pub keeps-item : (enough : Bool) (limit : ℕ) (s : Stack) (item : Item) (items written : List Item) → IsReady limit s → HasRoom enough limit s
    → Keeps enough (open_after_fitted limit s item) items written → Keeps enough s (item ∷ items) (fitted limit s item ++ written)
keeps-item enough limit s item items written ready room later =
    keeps-append enough s (item ∷ []) (fitted limit s item) items written (keeps-one enough s item (fitted limit s item) (keeps-plan enough limit s item room))
    (subst (λ (t : Stack). Keeps enough t items written) (sym (item-after limit s item ready)) later)

pub keeps-added : (enough : Bool) (s : Stack) (written : List Item) → AreAdded written → Keeps enough s [] written
unfolding Keeps
keeps-added enough s written adds = adds

keeps-above : (enough : Bool) (limit : ℕ) (s : Stack) (items : List Item) → IsReady limit s → (enough ≡ true → length s + 8 * length items ≤ limit)
    → Keeps enough s items (normal_above limit s items)
unfolding normal_above
keeps-above enough limit s [] ready room = keeps-added enough s (end_tags s) (added-ends s)
keeps-above enough limit s (item ∷ items) ready room =
    keeps-item enough limit s item items (normal_above limit (open_after_fitted limit s item) items) ready (λ e. let r = room e in omega (arith, r))
    (keeps-above enough limit (open_after_fitted limit s item) items (ready-after limit s item ready)
    (λ e. let r = room e in let cost = item-cost limit s item in omega (arith, r, cost)))

pub normal-keeps : (limit : ℕ) (items : List Item) → Keeps false [] items (normal limit items)
normal-keeps limit items = keeps-above false limit [] items (none-ready limit) (λ e. absurd (false≢true e))

pub normal-keeps_all : (limit : ℕ) (items : List Item) → 8 * length items ≤ limit → Keeps true [] items (normal limit items)
normal-keeps_all limit items enough = keeps-above true limit [] items (none-ready limit) (λ e. omega (arith, enough))
