-- A limit changes nothing when no more elements would be open.
use Rattle.std.proofs.Common.{◌≡◌, ℕ, suc, ◌+◌, ◌<◌, ◌≤◌, Bool, true, false, List, [], ◌∷◌, length, refl, ap, sym, ◌∙◌, subst, arith}
use Rattle.std.specs.Prelude.{◌++◌, codes, not, ◌&&◌, nat_le, nat_lt, if◌then◌else◌}
use Rattle.std.specs.List.{list_all}
use Rattle.std.proofs.lemmas.Bool.{false≢true, and_parts, le-leb, leb-true, lt-ltb, ltb-true}
use Rattle.html5tree.specs.Fitting.{all_open_after, holds_parts, is_space, open_after}
use Rattle.html5tree.specs.Items.{Item}
use Rattle.html5tree.specs.Items.Item.{EndTag, StartTag, Text}
use Rattle.html5tree.specs.declared.kinds.Kind.{Kind}
use Rattle.html5tree.specs.Names.{kind_of, named}
use Rattle.html5tree.specs.declared.kinds.Kind.TheVariants.{Paragraph, Void}
use Rattle.html5tree.specs.Normal.{IsReady, Plan, bounds_end, cell_plan, closing, count_inside, dropped, end_plan, fitted, is_ended, kept, limited, lone_end_plan, moved, normal, normal_above, open_after_fitted, plan_of, stack_after, start_plan, stays_within, text_plan, written}
use Rattle.html5tree.specs.declared.plans.Written.TheVariants.{EmptyParagraph, LineBreak, Parted, WhiteSpace}
use Rattle.html5tree.specs.Scopes.{kind_on_top, near}
use Rattle.html5tree.proofs.Normalising.{item-after, kind-p, none-ready, ready-after, within-first}
use Rattle.html5tree.proofs.RightPlans.{Stack}

-- the same of the items after some others
pub stays-later : (limit : ℕ) (items more : List Item) (s : Stack) → stays_within limit s (items ++ more) ≡ true → stays_within limit (all_open_after s items) more ≡ true
unfolding stays_within all_open_after
stays-later limit [] more s w = w
stays-later limit (item ∷ items) more s w =
    stays-later limit items more (open_after s item) (and_parts (nat_le (length s) limit) (stays_within limit (open_after s item) (items ++ more)) w).1

-- a choice by one limit is that by a greater one, where the smaller is not passed
same-choice : (limit more count : ℕ) (plan other : Plan) → limit ≤ more → (nat_le count more ≡ true → count ≤ limit)
    → (if nat_le count limit then plan else other) ≡ (if nat_le count more then plan else other)
same-choice limit more count plan other less within = at (nat_le count limit) (nat_le count more) refl refl
  where
    at : (b c : Bool) → nat_le count limit ≡ b → nat_le count more ≡ c → (if b then plan else other) ≡ (if c then plan else other)
    at true true e f = refl
    at true false e f =
        let l : count ≤ limit = leb-true count limit e in
        let m : count ≤ more = omega (arith, l, less) in
        absurd (false≢true (sym f ∙ le-leb count more m))
    at false true e f = absurd (false≢true (sym e ∙ le-leb count limit (within f)))
    at false false e f = refl

same-limited : (limit more : ℕ) (s : Stack) (item : Item) (plan : Plan) → limit ≤ more → length (stack_after (limited more s item plan) s item) ≤ limit
    → limited limit s item plan ≡ limited more s item plan
same-limited limit more s item plan less short =
    same-choice limit more (length (stack_after plan s item)) plan dropped less
    (λ e. subst (λ b. length (stack_after (if b then plan else dropped) s item) ≤ limit) e short)

open-p : (s : Stack) → length (open_after s (StartTag (codes "p") [])) ≡ 1 + length s
unfolding open_after
open-p s = rw kind-p omega arith

same-lone : (limit more : ℕ) (k : Kind) (s : Stack) (name : List ℕ) (items : List Item) → limit ≤ more
    → stays_within limit s (written (lone_end_plan more k s) s (EndTag name) ++ items) ≡ true → lone_end_plan limit k s ≡ lone_end_plan more k s
unfolding stays_within open_after all_open_after
same-lone limit more Paragraph s name items less w = at (not (holds_parts (kind_on_top s))) (nat_lt (length s) limit) (nat_lt (length s) more) refl refl w
  where
    at : (b c d : Bool) → nat_lt (length s) limit ≡ c → nat_lt (length s) more ≡ d
        → stays_within limit s (written (if b && d then record dropped { writes = EmptyParagraph } else dropped) s (EndTag name) ++ items) ≡ true
        → (if b && c then record dropped { writes = EmptyParagraph } else dropped) ≡ (if b && d then record dropped { writes = EmptyParagraph } else dropped)
    at false c d e f w = refl
    at true true true e f w = refl
    at true false false e f w = refl
    at true true false e f w =
        let l : length s < limit = ltb-true (length s) limit e in
        let m : length s < more = omega (arith, l, less) in
        absurd (false≢true (sym f ∙ lt-ltb (length s) more m))
    at true false true e f w =
        let opened = stays-later limit (StartTag (codes "p") [] ∷ []) (EndTag (codes "p") ∷ items) s w in
        let l = within-first limit (EndTag (codes "p") ∷ items) (open_after s (StartTag (codes "p") [])) opened in
        let p = open-p s in
        let m : length s < limit = omega (arith, l, p) in
        absurd (false≢true (sym e ∙ lt-ltb (length s) limit m))
same-lone limit more other s name items less w = refl

same-end : (limit more : ℕ) (k : Kind) (s : Stack) (name : List ℕ) (items : List Item) → limit ≤ more
    → stays_within limit s (written (end_plan more k s name) s (EndTag name) ++ items) ≡ true
    → length (stack_after (end_plan more k s name) s (EndTag name)) ≤ limit → end_plan limit k s name ≡ end_plan more k s name
same-end limit more k s name items less = at (named (codes "br") name) (near (is_ended k name) (bounds_end k) s)
  where
    breaking : Plan
    breaking = record (start_plan Void s) { writes = LineBreak }

    chosen : Bool → Bool → ℕ → Plan
    chosen b c n =
        if b then limited n s (EndTag name) breaking
        else if c then closing (suc (count_inside (is_ended k name) s)) else lone_end_plan n k s

    at : (b c : Bool) → stays_within limit s (written (chosen b c more) s (EndTag name) ++ items) ≡ true
        → length (stack_after (chosen b c more) s (EndTag name)) ≤ limit → chosen b c limit ≡ chosen b c more
    at true c w short = same-limited limit more s (EndTag name) breaking less short
    at false true w short = refl
    at false false w short = same-lone limit more k s name items less w

same-text : (limit more : ℕ) (s : Stack) (text : List ℕ) → limit ≤ more → length (stack_after (text_plan more s text) s (Text text)) ≤ limit
    → text_plan limit s text ≡ text_plan more s text
same-text limit more s text less = at (holds_parts (kind_on_top s) && not (list_all is_space text))
  where
    parted : Plan
    parted = record (cell_plan s) { writes = Parted }

    spaces : Plan
    spaces = record dropped { writes = WhiteSpace }

    chosen : Bool → ℕ → Plan
    chosen b n = if b then (if nat_le (length (moved (cell_plan s) s)) n then parted else spaces) else kept 0 []

    at : (b : Bool) → length (stack_after (chosen b more) s (Text text)) ≤ limit → chosen b limit ≡ chosen b more
    at true short =
        same-choice limit more (length (moved (cell_plan s) s)) parted spaces less
        (λ e. subst (λ b. length (stack_after (if b then parted else spaces) s (Text text)) ≤ limit) e short)
    at false short = refl

pub same-plan : (limit more : ℕ) (s : Stack) (item : Item) (items : List Item) → limit ≤ more → stays_within limit s (fitted more s item ++ items) ≡ true
    → length (open_after_fitted more s item) ≤ limit → plan_of limit s item ≡ plan_of more s item
unfolding plan_of
same-plan limit more s (StartTag name attributes) items less w short = same-limited limit more s (StartTag name attributes) (start_plan (kind_of name) s) less short
same-plan limit more s (EndTag name) items less w short = same-end limit more (kind_of name) s name items less w short
same-plan limit more s (Text text) items less w short = same-text limit more s text less short

same-above : (limit more : ℕ) (items : List Item) (s : Stack) → limit ≤ more → IsReady more s → stays_within limit s (normal_above more s items) ≡ true
    → normal_above limit s items ≡ normal_above more s items
unfolding normal_above
same-above limit more [] s less ready w = refl
same-above limit more (item ∷ items) s less ready w =
    let next = open_after_fitted more s item in
    let later : stays_within limit next (normal_above more next items) ≡ true =
    subst (λ (t : Stack). stays_within limit t (normal_above more next items) ≡ true) (item-after more s item ready)
    (stays-later limit (fitted more s item) (normal_above more next items) s w) in
    let same = same-plan limit more s item (normal_above more next items) less w (within-first limit (normal_above more next items) next later) in
    ap (λ (p : Plan). written p s item ++ normal_above limit (stack_after p s item) items) same
    ∙ ap (λ l. fitted more s item ++ l) (same-above limit more items next less (ready-after more s item ready) later)

pub normal-not_reached : (limit more : ℕ) (items : List Item) → limit ≤ more → stays_within limit [] (normal more items) ≡ true → normal limit items ≡ normal more items
normal-not_reached limit more items less w = same-above limit more items [] less (none-ready more) w
