-- Plans of the code: the depth after them, and the plan for each kind of item.
use Rattle.std.proofs.Common.{◌≡◌, ℕ, suc, ◌+◌, ◌-◌, Bool, true, false, List, [], ◌∷◌, length, drop, refl, ap, sym, ◌∙◌, arith, subst, add-one, add-zero, ◌⊎◌, inl, inr}
use Rattle.std.specs.Prelude.{codes, nat_le, if◌then◌else◌}
use Rattle.std.specs.List.{list_all}
use Rattle.std.proofs.lemmas.List.{length-drop}
use Rattle.html5tree.specs.Fitting.{holds_parts, is_space, open_after}
use Rattle.html5tree.specs.Items.{Attribute}
use Rattle.html5tree.specs.Items.Item.{EndTag, StartTag, Text}
use Rattle.html5tree.specs.Names.{is_form, is_part, is_void, kind_of, named, no_kind, of_kind}
use Rattle.html5tree.specs.Normal.{Plan, bounds_end, cell_plan, cell_text_plan, closing, count_inside, dropped, flow_plan, inside_context, is_context, is_ended, kept, limited, lone_end_plan, moved, opened, paragraph_closes, parents_in, part_plan, plan_of, start_plan, table_plan, through}
use Rattle.html5tree.specs.Scopes.{kind_on_top, near}
use Rattle.html5tree.specs.Searches.{names_open}
use Rattle.html5tree.specs.declared.kinds.Kind.{Kind}
use Rattle.html5tree.specs.declared.kinds.Kind.TheVariants.{Form, Table, Unknown, Void}
use Rattle.html5tree.specs.declared.names.ElementName.{ElementName}
use Rattle.html5tree.specs.declared.plans.Written.TheVariants.{Itself, LineBreak}
use Rattle.html5tree.proofs.Bounds.{length-opened}
use Rattle.html5tree.proofs.OpenNames.{length-open}

-- ---- how many elements are open after a plan

pub depth-moved : (xs : List ElementName) (plan : Plan) → length xs - plan.closes + length plan.opens ≡ length (moved plan (names_open xs))
depth-moved xs plan =
    omega (arith, length-opened plan.opens (drop plan.closes (names_open xs)), length-drop plan.closes (names_open xs), length-open xs)

-- ---- a start tag: the plan keeps it, or drops it

start-shape : (k : Kind) (s : List (List ℕ)) → (start_plan k s ≡ dropped) ⊎ ((start_plan k s).writes ≡ Itself)
start-shape k s = at (is_part k) (holds_parts (kind_on_top s))
  where
    table : (other : Kind) → (table_plan other s ≡ dropped) ⊎ ((table_plan other s).writes ≡ Itself)
    table Unknown = inl refl
    table Form = inl refl
    table Table = inr refl
    table other = inr refl

    form : (b : Bool) → ((if b then dropped else kept (paragraph_closes s) []) ≡ dropped) ⊎ ((if b then dropped else kept (paragraph_closes s) []).writes ≡ Itself)
    form true = inl refl
    form false = inr refl

    flow : (other : Kind) → (flow_plan other s ≡ dropped) ⊎ ((flow_plan other s).writes ≡ Itself)
    flow Unknown = inl refl
    flow Form = form (near (of_kind is_form) no_kind s)
    flow other = inr refl

    part : (b : Bool) → ((if b then kept (inside_context k s) (parents_in s k) else dropped) ≡ dropped) ⊎ ((if b then kept (inside_context k s) (parents_in s k) else dropped).writes ≡ Itself)
    part true = inr refl
    part false = inl refl

    at : (b c : Bool) → ((if b then part_plan k s else if c then table_plan k s else flow_plan k s) ≡ dropped)
        ⊎ ((if b then part_plan k s else if c then table_plan k s else flow_plan k s).writes ≡ Itself)
    at true c = part (near (of_kind (is_context k)) no_kind s)
    at false true = table k
    at false false = flow k

own_of : Kind → ℕ
own_of k = if is_void k then 0 else 1

kept-plan-at : (limit : ℕ) (s : List (List ℕ)) (name : List ℕ) (attributes : List Attribute) (closes : ℕ) (opens : List (List ℕ)) (own : ℕ) → own ≡ own_of (kind_of name)
    → (if nat_le (length (opened opens (drop closes s)) + own) limit then kept closes opens else dropped) ≡ limited limit s (StartTag name attributes) (kept closes opens)
unfolding own_of open_after
kept-plan-at limit s name attributes closes opens own o = rw o (at (is_void (kind_of name)))
  where
    at : (b : Bool) → (if nat_le (length (opened opens (drop closes s)) + (if b then 0 else 1)) limit then kept closes opens else dropped)
        ≡ (if nat_le (length (if b then opened opens (drop closes s) else name ∷ opened opens (drop closes s))) limit then kept closes opens else dropped)
    at true = rw (add-zero (length (opened opens (drop closes s)))) refl
    at false = rw (add-one (length (opened opens (drop closes s)))) refl

either-dropped : (b c : Bool) → (if b then dropped else dropped) ≡ (if c then dropped else dropped)
either-dropped true true = refl
either-dropped true false = refl
either-dropped false true = refl
either-dropped false false = refl

start-plan-at : (limit : ℕ) (s : List (List ℕ)) (name : List ℕ) (attributes : List Attribute) (plan : Plan) (own : ℕ)
    → (plan ≡ dropped) ⊎ (plan.writes ≡ Itself) → own ≡ own_of (kind_of name)
    → (if nat_le (length (moved plan s) + own) limit then plan else dropped) ≡ limited limit s (StartTag name attributes) plan
start-plan-at limit s name attributes plan own (inl e) o =
    subst (λ p. (if nat_le (length (moved p s) + own) limit then p else dropped) ≡ limited limit s (StartTag name attributes) p) (sym e)
    (either-dropped (nat_le (length (moved dropped s) + own) limit) (nat_le (length (moved dropped s)) limit))
start-plan-at limit s name attributes plan own (inr e) o =
    let q : plan ≡ kept plan.closes plan.opens = ap (λ w. record plan { writes = w }) e in
    subst (λ p. (if nat_le (length (moved p s) + own) limit then p else dropped) ≡ limited limit s (StartTag name attributes) p) (sym q)
    (kept-plan-at limit s name attributes plan.closes plan.opens own o)

pub plan-start : (limit : ℕ) (s : List (List ℕ)) (name : List ℕ) (attributes : List Attribute) (own : ℕ) → own ≡ (if is_void (kind_of name) then 0 else 1)
    → (if nat_le (length (moved (start_plan (kind_of name) s) s) + own) limit then start_plan (kind_of name) s else dropped) ≡ plan_of limit s (StartTag name attributes)
unfolding plan_of own_of
plan-start limit s name attributes own o =
    start-plan-at limit s name attributes (start_plan (kind_of name) s) own (start-shape (kind_of name) s) o

-- ---- an end tag, and a text

pub plan-break : (limit : ℕ) (s : List (List ℕ)) (name : List ℕ) → named (codes "br") name ≡ true
    → limited limit s (EndTag name) (record (start_plan Void s) { writes = LineBreak }) ≡ plan_of limit s (EndTag name)
unfolding plan_of
plan-break limit s name b = rw b refl

pub plan-lone : (limit : ℕ) (s : List (List ℕ)) (name : List ℕ) → named (codes "br") name ≡ false
    → 0 ≡ through (is_ended (kind_of name) name) (bounds_end (kind_of name)) s → lone_end_plan limit (kind_of name) s ≡ plan_of limit s (EndTag name)
unfolding plan_of
plan-lone limit s name b none = rw b (at (near (is_ended (kind_of name) name) (bounds_end (kind_of name)) s) none)
  where
    at : (c : Bool) → 0 ≡ (if c then suc (count_inside (is_ended (kind_of name) name) s) else 0)
        → lone_end_plan limit (kind_of name) s
        ≡ (if c then closing (suc (count_inside (is_ended (kind_of name) name) s)) else lone_end_plan limit (kind_of name) s)
    at true h = absurd (omega (arith, h))
    at false h = refl

pub plan-closing : (limit : ℕ) (s : List (List ℕ)) (name : List ℕ) (closes : ℕ) → named (codes "br") name ≡ false
    → closes ≡ through (is_ended (kind_of name) name) (bounds_end (kind_of name)) s → (closes ≡ 0 → ⊥) → closing closes ≡ plan_of limit s (EndTag name)
unfolding plan_of
plan-closing limit s name closes b is some = rw b (at (near (is_ended (kind_of name) name) (bounds_end (kind_of name)) s) is)
  where
    at : (c : Bool) → closes ≡ (if c then suc (count_inside (is_ended (kind_of name) name) s) else 0)
        → closing closes
        ≡ (if c then closing (suc (count_inside (is_ended (kind_of name) name) s)) else lone_end_plan limit (kind_of name) s)
    at true h = ap closing h
    at false h = absurd (some h)

pub plan-flow-text : (limit : ℕ) (s : List (List ℕ)) (text : List ℕ) → holds_parts (kind_on_top s) ≡ false → kept 0 [] ≡ plan_of limit s (Text text)
unfolding plan_of
plan-flow-text limit s text h = rw h refl

pub plan-space : (limit : ℕ) (s : List (List ℕ)) (text : List ℕ) → holds_parts (kind_on_top s) ≡ true → list_all is_space text ≡ true → kept 0 [] ≡ plan_of limit s (Text text)
unfolding plan_of
plan-space limit s text h e = rw (h, e) refl

pub plan-cell-text : (limit : ℕ) (s : List (List ℕ)) (text : List ℕ) → holds_parts (kind_on_top s) ≡ true → list_all is_space text ≡ false
    → cell_text_plan limit s (cell_plan s) ≡ plan_of limit s (Text text)
unfolding plan_of
plan-cell-text limit s text h e = rw (h, e) refl

pub plan-start-at : (limit : ℕ) (s : List (List ℕ)) (name : List ℕ) (attributes : List Attribute) (k : Kind) (plan : Plan) (own : ℕ) → k ≡ kind_of name
    → plan ≡ start_plan k s → own ≡ (if is_void k then 0 else 1)
    → (if nat_le (length (moved plan s) + own) limit then plan else dropped) ≡ plan_of limit s (StartTag name attributes)
plan-start-at limit s name attributes k plan own same is o =
    ap (λ p. if nat_le (length (moved p s) + own) limit then p else dropped) (is ∙ ap (λ x. start_plan x s) same)
    ∙ plan-start limit s name attributes own (o ∙ ap (λ x. if is_void x then 0 else 1) same)

pub same-through : (s : List (List ℕ)) (k l : Kind) (name : List ℕ) (wanted : List ℕ → Bool) (bound : Kind → Bool) → wanted ≡ is_ended k name → bound ≡ bounds_end l → l ≡ k
    → through wanted bound s ≡ through (is_ended k name) (bounds_end k) s
same-through s k l name wanted bound a b e = ap (λ x. through x bound s) a ∙ ap (λ x. through (is_ended k name) x s) (b ∙ ap bounds_end e)
