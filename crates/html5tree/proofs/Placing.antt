-- Which start tags the normaliser leaves out.
use Rattle.std.proofs.Common.{◌≡◌, ℕ, ◌+◌, ◌≤◌, Bool, true, false, List, [], ◌∷◌, length, take, refl, ap, sym, ◌∙◌, subst, arith}
use Rattle.std.specs.Prelude.{◌++◌, not, ◌&&◌, nat_le, if◌then◌else◌}
use Rattle.std.proofs.lemmas.Bool.{false≢true, le-leb}
use Rattle.std.proofs.lemmas.List.{append_assoc}
use Rattle.html5tree.specs.Fitting.{holds_parts}
use Rattle.html5tree.specs.Items.{Attribute, Item}
use Rattle.html5tree.specs.Items.Item.{StartTag}
use Rattle.html5tree.specs.Keeping.{EndsWith, has_place}
use Rattle.html5tree.specs.declared.kinds.Kind.{Kind}
use Rattle.html5tree.specs.declared.kinds.Kind.TheVariants.{Form, Unknown}
use Rattle.html5tree.specs.declared.plans.Written.TheVariants.{Itself}
use Rattle.html5tree.specs.Names.{is_form, is_part, kind_of, no_kind, of_kind}
use Rattle.html5tree.specs.Normal.{Plan, dropped, end_tags, fitted, flow_plan, inside_context, is_context, kept, limited, paragraph_closes, parents_in, part_plan, plan_of, stack_after, start_plan, start_tags, table_plan, written}
use Rattle.html5tree.specs.Scopes.{kind_on_top, near}
use Rattle.html5tree.proofs.Bounds.{few-start, plan-cost}
use Rattle.html5tree.proofs.RightPlans.{Stack}

-- ---- without a place nothing is done

start-dropped : (k : Kind) (s : Stack) → has_place k s ≡ false → start_plan k s ≡ dropped
start-dropped Unknown s none = at (holds_parts (kind_on_top s))
  where
    at : (parts : Bool) → (if parts then table_plan Unknown s else flow_plan Unknown s) ≡ dropped
    at true = refl
    at false = refl
start-dropped Form s none = at (holds_parts (kind_on_top s)) (near (of_kind is_form) no_kind s) none
  where
    at : (parts form : Bool) → not parts && not form ≡ false
        → (if parts then dropped else if form then dropped else kept (paragraph_closes s) []) ≡ dropped
    at true form e = refl
    at false true e = refl
    at false false e = absurd (false≢true (sym e))
start-dropped other s none = at (is_part other) none
  where
    at : (part : Bool) → (if part then near (of_kind (is_context other)) no_kind s else true) ≡ false
        → (if part then part_plan other s else if holds_parts (kind_on_top s) then table_plan other s else flow_plan other s) ≡ dropped
    at true e = ap (λ b. if b then kept (inside_context other s) (parents_in s other) else dropped) e
    at false e = absurd (false≢true (sym e))

limited-dropped : (limit : ℕ) (s : Stack) (item : Item) → written (limited limit s item dropped) s item ≡ []
limited-dropped limit s item = at (nat_le (length (stack_after dropped s item)) limit)
  where
    at : (b : Bool) → written (if b then dropped else dropped) s item ≡ []
    at true = refl
    at false = refl

pub not-written : (limit : ℕ) (s : Stack) (name : List ℕ) (attributes : List Attribute) → has_place (kind_of name) s ≡ false
    → fitted limit s (StartTag name attributes) ≡ []
unfolding plan_of
not-written limit s name attributes none =
    ap (λ plan. written (limited limit s (StartTag name attributes) plan) s (StartTag name attributes)) (start-dropped (kind_of name) s none)
    ∙ limited-dropped limit s (StartTag name attributes)

-- ---- with a place the tag itself is written

start-itself : (k : Kind) (s : Stack) → has_place k s ≡ true → (start_plan k s).writes ≡ Itself
start-itself Unknown s place = absurd (false≢true place)
start-itself Form s place = at (holds_parts (kind_on_top s)) (near (of_kind is_form) no_kind s) place
  where
    at : (parts form : Bool) → not parts && not form ≡ true
        → (if parts then dropped else if form then dropped else kept (paragraph_closes s) []).writes ≡ Itself
    at true form e = absurd (false≢true e)
    at false true e = absurd (false≢true e)
    at false false e = refl
start-itself other s place = at (is_part other) (holds_parts (kind_on_top s)) place
  where
    at : (part parts : Bool) → (if part then near (of_kind (is_context other)) no_kind s else true) ≡ true
        → (if part then part_plan other s else if parts then table_plan other s else flow_plan other s).writes ≡ Itself
    at true parts e = ap (λ b. (if b then kept (inside_context other s) (parents_in s other) else dropped).writes) e
    at false true e = refl
    at false false e = refl

limited-same : (limit : ℕ) (s : Stack) (item : Item) (plan : Plan) → length (stack_after plan s item) ≤ limit → limited limit s item plan ≡ plan
limited-same limit s item plan short = ap (λ b. if b then plan else dropped) (le-leb (length (stack_after plan s item)) limit short)

ends-itself : (plan : Plan) (s : Stack) (item : Item) → plan.writes ≡ Itself → EndsWith (written plan s item) item
ends-itself plan s item itself = record {
  before = end_tags (take plan.closes s) ++ start_tags plan.opens;
  whole =
      ap (λ w. written (record plan { writes = w }) s item) itself
      ∙ sym (append_assoc (end_tags (take plan.closes s)) (start_tags plan.opens) (item ∷ []));
}

pub written-last : (limit : ℕ) (s : Stack) (name : List ℕ) (attributes : List Attribute) → has_place (kind_of name) s ≡ true
    → 8 + length s ≤ limit → EndsWith (fitted limit s (StartTag name attributes)) (StartTag name attributes)
unfolding plan_of
written-last limit s name attributes place room =
    let tag : Item = StartTag name attributes in
    let plan : Plan = start_plan (kind_of name) s in
    let cost = plan-cost plan s tag (few-start (kind_of name) s) in
    subst (λ p. EndsWith (written p s tag) tag) (sym (limited-same limit s tag plan (omega (arith, room, cost))))
    (ends-itself plan s tag (start-itself (kind_of name) s place))
