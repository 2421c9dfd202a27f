-- The document is a tree: lists of open elements, as edits and the adoption agency change them.
use Rattle.std.proofs.Common.{◌≡◌, ℕ, ◌<◌, Bool, true, false, List, [], ◌∷◌, ◌++◌, sym, subst, arith}
use Rattle.std.specs.Prelude.{◌==◌, None, if◌then◌else◌}
use Rattle.tree_construction.specs.Adoption.{opened_outside}
use Rattle.tree_construction.specs.Page.{Edit, Open, inside}
use Rattle.tree_laws.specs.Trees.{AreNested, AreOutside, IsOutside, parent_after, template_after}
use Rattle.tree_laws.proofs.Numbers.{AreOpenBelow, node-below}
use Rattle.tree_laws.proofs.Trees.{Leads, led-stood, outside-alone}

-- ---- lists of open elements

-- a node is outside of these open elements
unfoldable pub IsInNone : List Edit → ℕ → List Open → Type 0
IsInNone edits m [] = Unit {0}
IsInNone edits m (e ∷ es) = IsOutside edits e.node m × IsInNone edits m es

outside-tail : (edits : List Edit) (x : ℕ) (A B : List Open) → AreOutside edits x (A ++ B) → AreOutside edits x B
unfolding AreOutside
outside-tail edits x [] B out = out
outside-tail edits x (e ∷ A) B out = outside-tail edits x A B out.2

pub nested-tail : (edits : List Edit) (A B : List Open) → AreNested edits (A ++ B) → AreNested edits B
unfolding AreNested
nested-tail edits [] B nested = nested
nested-tail edits (e ∷ A) B nested = nested-tail edits A B nested.1

-- a node is outside of those for which the outer ones are
pub in-none : (edits : List Edit) (m : ℕ) (A B : List Open) → ((x : ℕ) → AreOutside edits x B → IsOutside edits x m) → AreNested edits (A ++ B)
    → IsInNone edits m A
unfolding IsInNone AreNested
in-none edits m [] B out nested = tt
in-none edits m (e ∷ A) B out nested = (out e.node (outside-tail edits e.node A B nested.0), in-none edits m A B out nested.1)

-- a node without a parent is outside of older ones
pub not-self : (m n : ℕ) → m < n → m ≡ n → ⊥
not-self m n less same = omega (arith, less, same)

pub alone-in-none : (edits : List Edit) (n : ℕ) (es : List Open) → parent_after edits n ≡ None → template_after edits n ≡ None → AreOpenBelow n es
    → IsInNone edits n es
unfolding IsInNone AreOpenBelow
alone-in-none edits n [] no_parent no_template below = tt
alone-in-none edits n (e ∷ es) no_parent no_template below = (
  outside-alone edits e.node n no_parent no_template (not-self e.node n (node-below e n below.0)),
  alone-in-none edits n es no_parent no_template below.1,
)

-- ---- some nodes within s get t as parent

module _ (s t : ℕ) (before after : List Edit) (leads : Leads s t before after) where
  pub led-outside-all : (x : ℕ) (es : List Open) → IsOutside before x t → AreOutside before x es → AreOutside after x es
  unfolding AreOutside
  led-outside-all x [] at other = λ m less g. other m less (led-stood s t before after leads x m (λ a b. at b) g)
  led-outside-all x (e ∷ es) at other = (
    λ g. other.0 (led-stood s t before after leads x e.node (λ a b. at b) g),
    λ g. other.1 (led-stood s t before after leads x (inside e) (λ a b. at b) g),
    led-outside-all x es at other.2,
  )

  -- t is outside of the inner ones, and the outer ones are nested
  pub led-nested : (A B : List Open) → IsInNone before t A → AreNested before (A ++ B) → AreNested after B → AreNested after (A ++ B)
  unfolding IsInNone AreNested
  led-nested [] B none nested later = later
  led-nested (e ∷ A) B none nested later =
      (led-outside-all e.node (A ++ B) none.0 nested.0, led-nested A B none.1 nested.1 later)

-- ---- an element comes between

outside-between : (edits : List Edit) (x : ℕ) (e : Open) (A B : List Open) → IsOutside edits x e.node → IsOutside edits x (inside e)
    → AreOutside edits x (A ++ B) → AreOutside edits x (A ++ e ∷ B)
unfolding AreOutside
outside-between edits x e [] B out in_out other = (out, in_out, other)
outside-between edits x e (a ∷ A) B out in_out other = (other.0, other.1, outside-between edits x e A B out in_out other.2)

pub nested-between : (edits : List Edit) (e : Open) (A B : List Open) → inside e ≡ e.node → IsInNone edits e.node A → AreOutside edits e.node B
    → AreNested edits (A ++ B) → AreNested edits (A ++ e ∷ B)
unfolding IsInNone AreNested
nested-between edits e [] B plain none out nested = (out, nested)
nested-between edits e (a ∷ A) B plain none out nested = (
  outside-between edits a.node e A B none.0 (subst (λ i. IsOutside edits a.node i) (sym plain) none.0) nested.0,
  nested-between edits e A B plain none.1 out nested.1,
)

-- ---- those outside an element are left

pub outside-outside : (edits : List Edit) (x n : ℕ) (es : List Open) → AreOutside edits x es → AreOutside edits x (opened_outside n es)
unfolding AreOutside opened_outside
outside-outside edits x n [] out = out
outside-outside edits x n (e ∷ es) out = by_test (outside-outside edits x n es out.2) (e.node == n)
  where
    by_test : AreOutside edits x (opened_outside n es) → (test : Bool) → AreOutside edits x (if test then es else opened_outside n es)
    by_test rest true = out.2
    by_test rest false = rest

nested-outside : (edits : List Edit) (n : ℕ) (es : List Open) → AreNested edits es → AreNested edits (opened_outside n es)
unfolding AreNested opened_outside
nested-outside edits n [] nested = tt
nested-outside edits n (e ∷ es) nested = by_test (nested-outside edits n es nested.1) (e.node == n)
  where
    by_test : AreNested edits (opened_outside n es) → (test : Bool) → AreNested edits (if test then es else opened_outside n es)
    by_test rest true = nested.1
    by_test rest false = rest

outside-left : (edits : List Edit) (x n : ℕ) (A B : List Open) → AreOutside edits x (A ++ B) → AreOutside edits x (A ++ opened_outside n B)
unfolding AreOutside
outside-left edits x n [] B out = outside-outside edits x n B out
outside-left edits x n (e ∷ A) B out = (out.0, out.1, outside-left edits x n A B out.2)

pub nested-among : (edits : List Edit) (n : ℕ) (A B : List Open) → AreNested edits (A ++ B) → AreNested edits (A ++ opened_outside n B)
unfolding AreNested
nested-among edits n [] B nested = nested-outside edits n B nested
nested-among edits n (e ∷ A) B nested = (outside-left edits e.node n A B nested.0, nested-among edits n A B nested.1)
