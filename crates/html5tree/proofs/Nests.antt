-- A nesting after an item.
use Rattle.std.proofs.Common.{◌≡◌, ℕ, suc, ◌-◌, Bool, true, false, List, [], ◌∷◌, length, take, drop, refl, ap, sym, ◌∙◌, subst, arith}
use Rattle.std.specs.Prelude.{codes, not, ◌&&◌, nat_le, nat_lt, if◌then◌else◌}
use Rattle.html5tree.specs.Fitting.{holds_parts, open_after}
use Rattle.html5tree.specs.Items.{Attribute, Item}
use Rattle.html5tree.specs.Items.Item.{EndTag, StartTag, Text}
use Rattle.html5tree.specs.Names.{is_void, kind_of, named}
use Rattle.html5tree.specs.Nested.{nested_after}
use Rattle.html5tree.specs.Normal.{IsReady, Plan, after_written, all_stand, bounds_end, closing, count_inside, dropped, end_plan, is_ended, limited, lone_end_plan, moved, open_after_fitted, plan_of, stack_after, start_plan}
use Rattle.html5tree.specs.Scopes.{kind_on_top, near}
use Rattle.html5tree.specs.declared.kinds.Kind.{Kind}
use Rattle.html5tree.specs.declared.kinds.Kind.TheVariants.{Paragraph, Void}
use Rattle.html5tree.specs.declared.plans.Written.{Written}
use Rattle.html5tree.specs.declared.plans.Written.TheVariants.{EmptyParagraph, Itself, LineBreak}
use Rattle.html5tree.specs.Searches.{names_open}
use Rattle.html5tree.specs.declared.names.ElementName.{ElementName}
use Rattle.html5tree.proofs.OpenNames.{drop-open}
use Rattle.html5tree.proofs.Normalising.{none-ready, ready-after}
use Rattle.html5tree.proofs.RightPlans.{Stack, stand-outer}

-- ---- what a start tag opens

pub own-written : (w : Written) (s : Stack) (name : List ℕ) (attributes : List Attribute) → w ≡ Itself → is_void (kind_of name) ≡ false
    → name ∷ s ≡ after_written w s (StartTag name attributes)
unfolding open_after
own-written w s name attributes is v = rw is (rw v refl)

pub own-void : (w : Written) (s : Stack) (name : List ℕ) (attributes : List Attribute) → w ≡ Itself → is_void (kind_of name) ≡ true
    → s ≡ after_written w s (StartTag name attributes)
unfolding open_after
own-void w s name attributes is v = rw is (rw v refl)

-- ---- the open elements after an item, by its plan

pub after-start : (limit : ℕ) (s : Stack) (name : List ℕ) (attributes : List Attribute) (plan : Plan) (names : Stack) → plan ≡ plan_of limit s (StartTag name attributes)
    → names ≡ after_written plan.writes (moved plan s) (StartTag name attributes) → names ≡ open_after_fitted limit s (StartTag name attributes)
after-start limit s name attributes plan names is after = after ∙ ap (λ p. stack_after p s (StartTag name attributes)) is

text-stays : (w : Written) (s : Stack) (text : List ℕ) → s ≡ after_written w s (Text text)
unfolding open_after
text-stays Itself s text = refl
text-stays other s text = refl

pub after-text : (limit : ℕ) (s : Stack) (text : List ℕ) (plan : Plan) (names : Stack) → plan ≡ plan_of limit s (Text text) → names ≡ moved plan s
    → names ≡ open_after_fitted limit s (Text text)
after-text limit s text plan names is after =
    after ∙ (text-stays plan.writes (moved plan s) text ∙ ap (λ p. stack_after p s (Text text)) is)

-- an end tag's plan never writes the tag itself
end-stays : (limit : ℕ) (k : Kind) (s t : Stack) (name : List ℕ) → t ≡ after_written (end_plan limit k s name).writes t (EndTag name)
end-stays limit k s t name = at (named (codes "br") name) (near (is_ended k name) (bounds_end k) s)
  where
    breaking : Plan
    breaking = record (start_plan Void s) { writes = LineBreak }

    within : (b : Bool) → t ≡ after_written (if b then breaking else dropped).writes t (EndTag name)
    within true = refl
    within false = refl

    empty : (b : Bool) → t ≡ after_written (if b then record dropped { writes = EmptyParagraph } else dropped).writes t (EndTag name)
    empty true = refl
    empty false = refl

    lone : (other : Kind) → t ≡ after_written (lone_end_plan limit other s).writes t (EndTag name)
    lone Paragraph = empty (not (holds_parts (kind_on_top s)) && nat_lt (length s) limit)
    lone other = refl

    at : (b c : Bool) → t ≡ after_written
        (if b then limited limit s (EndTag name) breaking
        else if c then closing (suc (count_inside (is_ended k name) s)) else lone_end_plan limit k s).writes t (EndTag name)
    at true c = within (nat_le (length (stack_after breaking s (EndTag name))) limit)
    at false true = refl
    at false false = lone k

pub after-end : (limit : ℕ) (s : Stack) (name : List ℕ) (plan : Plan) (names : Stack) → plan ≡ plan_of limit s (EndTag name) → names ≡ moved plan s
    → names ≡ open_after_fitted limit s (EndTag name)
unfolding plan_of
after-end limit s name plan names is after =
    after ∙ (end-stays limit (kind_of name) s (moved plan s) name
    ∙ (ap (λ p. after_written p.writes (moved plan s) (EndTag name)) (sym is) ∙ ap (λ p. stack_after p s (EndTag name)) is))

pub nested-from : (limit : ℕ) (s closed names later : Stack) (item : Item) (plan : Plan) → plan ≡ plan_of limit s item → names ≡ open_after_fitted limit s item
    → later ≡ take plan.closes s → record { opened = names; closed = later; limit = limit } ≡ nested_after (record { opened = s; closed = closed; limit = limit }) item
nested-from limit s closed names later item plan is after gone =
    ap (λ n. record { opened = n; closed = later; limit = limit }) after
    ∙ ap (λ n. record { opened = open_after_fitted limit s item; closed = n; limit = limit }) (gone ∙ ap (λ p. take p.closes s) is)

-- ---- the open elements are ready for the next item

pub ready-by : (limit : ℕ) (s names : Stack) (item : Item) → IsReady limit s → names ≡ open_after_fitted limit s item → IsReady limit names
ready-by limit s names item ready after = subst (λ n. IsReady limit n) (sym after) (ready-after limit s item ready)

pub ready-none : (limit : ℕ) (names : Stack) → names ≡ [] → IsReady limit names
ready-none limit names none = subst (λ n. IsReady limit n) (sym none) (none-ready limit)

pub ready-outer : (limit : ℕ) (s : Stack) → IsReady limit s → IsReady limit (drop 1 s)
unfolding all_stand
ready-outer limit [] ready = ready
ready-outer limit (name ∷ s) ready = record { stand = stand-outer name s ready.stand; short = let l = ready.short in omega (arith, l) }

pub outer-open : (xs : List ElementName) (n : ℕ) → n ≡ length xs → names_open (take (n - 1) xs) ≡ drop 1 (names_open xs)
outer-open [] n e = rw e refl
outer-open (x ∷ xs) n e = sym (drop-open (x ∷ xs) 1 (n - 1) (omega (arith, e)))

-- ---- what the methods of a nesting need, where they saw the open elements as a slice

pub end-ready : (limit : ℕ) (seen xs : List ElementName) (name : List ℕ) (plan : Plan) (names : Stack) → plan ≡ plan_of limit (names_open seen) (EndTag name)
    → seen ≡ xs → names ≡ moved plan (names_open xs) → IsReady limit (names_open xs) → IsReady limit names
end-ready limit seen xs name plan names is same after ready =
    let at : plan ≡ plan_of limit (names_open xs) (EndTag name) = is ∙ ap (λ ys. plan_of limit (names_open ys) (EndTag name)) same in
    ready-by limit (names_open xs) names (EndTag name) ready (after-end limit (names_open xs) name plan names at after)

pub end-nested : (limit : ℕ) (seen xs : List ElementName) (closed later : Stack) (name : List ℕ) (plan : Plan) (names : Stack) → plan ≡ plan_of limit (names_open seen) (EndTag name)
    → seen ≡ xs → names ≡ moved plan (names_open xs) → later ≡ take plan.closes (names_open xs)
    → record { opened = names; closed = later; limit = limit } ≡ nested_after (record { opened = names_open xs; closed = closed; limit = limit }) (EndTag name)
end-nested limit seen xs closed later name plan names is same after gone =
    let at : plan ≡ plan_of limit (names_open xs) (EndTag name) = is ∙ ap (λ ys. plan_of limit (names_open ys) (EndTag name)) same in
    nested-from limit (names_open xs) closed names later (EndTag name) plan at (after-end limit (names_open xs) name plan names at after) gone

pub text-ready : (limit : ℕ) (seen xs : List ElementName) (text : List ℕ) (plan : Plan) (names : Stack) → plan ≡ plan_of limit (names_open seen) (Text text)
    → seen ≡ xs → names ≡ moved plan (names_open xs) → IsReady limit (names_open xs) → IsReady limit names
text-ready limit seen xs text plan names is same after ready =
    let at : plan ≡ plan_of limit (names_open xs) (Text text) = is ∙ ap (λ ys. plan_of limit (names_open ys) (Text text)) same in
    ready-by limit (names_open xs) names (Text text) ready (after-text limit (names_open xs) text plan names at after)

pub text-nested : (limit : ℕ) (seen xs : List ElementName) (closed later : Stack) (text : List ℕ) (plan : Plan) (names : Stack) → plan ≡ plan_of limit (names_open seen) (Text text)
    → seen ≡ xs → names ≡ moved plan (names_open xs) → later ≡ take plan.closes (names_open xs)
    → record { opened = names; closed = later; limit = limit } ≡ nested_after (record { opened = names_open xs; closed = closed; limit = limit }) (Text text)
text-nested limit seen xs closed later text plan names is same after gone =
    let at : plan ≡ plan_of limit (names_open xs) (Text text) = is ∙ ap (λ ys. plan_of limit (names_open ys) (Text text)) same in
    nested-from limit (names_open xs) closed names later (Text text) plan at (after-text limit (names_open xs) text plan names at after) gone

pub start-ready : (limit : ℕ) (seen xs : List ElementName) (name : List ℕ) (attributes : List Attribute) (plan : Plan) (names : Stack)
    → plan ≡ plan_of limit (names_open seen) (StartTag name attributes) → seen ≡ xs
    → names ≡ after_written plan.writes (moved plan (names_open xs)) (StartTag name attributes) → IsReady limit (names_open xs) → IsReady limit names
start-ready limit seen xs name attributes plan names is same after ready =
    let at : plan ≡ plan_of limit (names_open xs) (StartTag name attributes) = is ∙ ap (λ ys. plan_of limit (names_open ys) (StartTag name attributes)) same in
    ready-by limit (names_open xs) names (StartTag name attributes) ready (after-start limit (names_open xs) name attributes plan names at after)

pub start-nested : (limit : ℕ) (seen xs : List ElementName) (closed later : Stack) (name : List ℕ) (attributes : List Attribute) (plan : Plan) (names : Stack)
    → plan ≡ plan_of limit (names_open seen) (StartTag name attributes) → seen ≡ xs
    → names ≡ after_written plan.writes (moved plan (names_open xs)) (StartTag name attributes) → later ≡ take plan.closes (names_open xs)
    → record { opened = names; closed = later; limit = limit } ≡ nested_after (record { opened = names_open xs; closed = closed; limit = limit }) (StartTag name attributes)
start-nested limit seen xs closed later name attributes plan names is same after gone =
    let at : plan ≡ plan_of limit (names_open xs) (StartTag name attributes) = is ∙ ap (λ ys. plan_of limit (names_open ys) (StartTag name attributes)) same in
    nested-from limit (names_open xs) closed names later (StartTag name attributes) plan at (after-start limit (names_open xs) name attributes plan names at after) gone
