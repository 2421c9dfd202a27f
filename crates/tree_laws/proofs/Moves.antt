-- The document is a tree: the last node of the adoption agency is put, and the children of the furthest block move.
use Rattle.std.proofs.Common.{◌≡◌, ℕ, ◌<◌, ◌≤◌, Bool, true, false, List, [], ◌∷◌, ◌++◌, refl, ap, sym, subst}
use Rattle.std.specs.Prelude.{◌==◌, Option, Some, None, if◌then◌else◌}
use Rattle.std.proofs.lemmas.Bool.{eqb-true}
use Rattle.std.proofs.lemmas.Option.{none-some, same_Some}
use Rattle.tree_construction.specs.Page.{Edit, Open, Place, inside}
use Rattle.tree_construction.specs.Page.Edit.{MoveChildren, Put, Remove}
use Rattle.tree_construction.specs.Page.Place.{LastChild}
use Rattle.tree_laws.specs.Trees.{AreNested, AreOutside, IsOutside, KeepTree, KeepsTree, IsWithin, moved_to, parent_after, parent_at, template_after}
use Rattle.tree_laws.specs.Trees.IsWithin.{InParent, InTemplate, Itself}
use Rattle.tree_laws.proofs.Numbers.{AreOpenBelow}
use Rattle.tree_laws.proofs.Trees.{AddsNone, moving-keeps, moving-leads, outside-alone, put-keeps, put-leads, removal-adds-none, stood}
use Rattle.tree_laws.proofs.NoLoops.{parents-outside, templates-outside}
use Rattle.tree_laws.proofs.Nested.{begun-if-outside, nested-kept, nested-same, outside-kept, outside-same}
use Rattle.tree_laws.proofs.Stacks.{IsInNone, alone-in-none, in-none, led-nested, led-outside-all, nested-tail, not-self}
use Rattle.tree_laws.proofs.NestedOfAdoption.{removed-parent}

-- ---- the last node is put

pub record IsPlaced (place : Place) (last : ℕ) (edits : List Edit) (es : List Open) : Type 0 where
  pub keeps : KeepsTree (Put place last) (Remove last ∷ edits)
  pub nested : AreNested (Put place last ∷ Remove last ∷ edits) es

pub last-placed : (place : Place) (last : ℕ) (edits : List Edit) (X around : List Open) → AreNested edits (X ++ around) → AreOutside edits last around
    → ((x : ℕ) → AreOutside (Remove last ∷ edits) x around → IsOutside (Remove last ∷ edits) x (parent_at (parent_after (Remove last ∷ edits)) place))
    → IsPlaced place last edits (X ++ around)
last-placed place last edits X around nested out at_place =
    let before : List Edit = Remove last ∷ edits in
    let at : ℕ = parent_at (parent_after before) place in
    let adds : AddsNone edits before = removal-adds-none last edits in
    let here : AreNested before (X ++ around) = nested-same edits before (X ++ around) adds nested in
    let last_out : AreOutside before last around = outside-same last edits before around adds out in
    let apart : IsOutside before last at = at_place last last_out in
    record {
      keeps = (begun-if-outside edits last around out, removed-parent last edits, apart);
      nested = led-nested last at before (Put place last ∷ before) (put-leads place last before apart) X around
          (in-none before at X around at_place here) here
          (nested-kept last before (Put place last ∷ before) around (put-keeps place last before) last_out (nested-tail before X around here));
    }

-- ---- the children of the furthest block move to a new element, and that into the block

source-outside : (edits : List Edit) (n block : ℕ) → KeepTree edits → IsOutside edits block n → IsOutside edits n block
    → IsWithin (MoveChildren block n ∷ edits) n block → ⊥
unfolding parent_after template_after
source-outside edits n _ tree out other Itself = out Itself
source-outside edits n _ tree out other (InParent block outer is stands) = of_parent (parent_after edits block) refl is
  where
    of_parent : (found : Option ℕ) → parent_after edits block ≡ found → moved_to block n found ≡ Some outer → ⊥
    of_parent None was same = none-some outer same
    of_parent (Some j) was same = by_test (j == block) refl same
      where
        apart : IsOutside edits block j
        apart = parents-outside edits tree block j was

        by_test : (test : Bool) → (j == block) ≡ test → (if test then Some n else Some j) ≡ Some outer → ⊥
        by_test true equal it = apart (subst (λ i. IsWithin edits block i) (sym (eqb-true j block equal)) Itself)
        by_test false equal it =
            other (InParent block j was (stood block n edits (MoveChildren block n ∷ edits) j (moving-keeps block n edits) apart
            (subst (λ i. IsWithin (MoveChildren block n ∷ edits) n i) (sym (same_Some j outer it)) stands)))
source-outside edits n _ tree out other (InTemplate block outer is stands) =
    other (InTemplate block outer is (stood block n edits (MoveChildren block n ∷ edits) outer (moving-keeps block n edits)
    (templates-outside edits tree block outer is) stands))

-- a new element that isn't put yet, inside the block
pub record IsRemade (n : ℕ) (edits : List Edit) (within : List Open) (new block : Open) (rest : List Open) : Type 0 where
  pub tree : KeepTree edits
  pub begun : 3 ≤ n
  pub number : new.node ≡ n
  pub no_parent : parent_after edits n ≡ None
  pub no_template : template_after edits n ≡ None
  pub within_below : AreOpenBelow n within
  pub block_below : block.node < n
  pub block_plain : inside block ≡ block.node
  pub nested : AreNested edits (within ++ new ∷ block ∷ rest)

pub record IsMoved (n : ℕ) (edits : List Edit) (within : List Open) (new block : Open) (rest : List Open) : Type 0 where
  pub keeps : IsOutside edits block.node n
  pub apart : IsOutside (MoveChildren block.node n ∷ edits) n block.node
  pub out : AreOutside (MoveChildren block.node n ∷ edits) n (block ∷ rest)
  pub outer : AreNested (MoveChildren block.node n ∷ edits) (block ∷ rest)
  pub nested : AreNested (MoveChildren block.node n ∷ edits) (within ++ new ∷ block ∷ rest)

children-moved : (n : ℕ) (edits : List Edit) (within : List Open) (new block : Open) (rest : List Open) → IsRemade n edits within new block rest
    → IsMoved n edits within new block rest
unfolding AreNested AreOutside IsInNone
children-moved n edits within new block rest h =
    let b : ℕ = block.node in
    let after : List Edit = MoveChildren b n ∷ edits in
    let outside_n : IsOutside edits b n = outside-alone edits b n h.no_parent h.no_template (not-self b n h.block_below) in
    let tail : AreNested edits (new ∷ block ∷ rest) = nested-tail edits within (new ∷ block ∷ rest) h.nested in
    let new_out : AreOutside edits n (block ∷ rest) = subst (λ i. AreOutside edits i (block ∷ rest)) h.number tail.0 in
    let apart : IsOutside after n b = source-outside edits n b h.tree outside_n new_out.0 in
    let rest_out : AreOutside edits b rest = tail.1.0 in
    let rest_kept : AreNested after rest = nested-kept b edits after rest (moving-keeps b n edits) rest_out tail.1.1 in
    let outer : AreNested after (block ∷ rest) =
    led-nested b n edits after (moving-leads b n edits outside_n) (block ∷ []) rest (outside_n, tt) tail.1 rest_kept in
    let out : AreOutside after n (block ∷ rest) =
    (apart, subst (λ i. IsOutside after n i) (sym h.block_plain) apart, outside-kept b n edits after rest (moving-keeps b n edits) rest_out new_out.2) in
    record {
      keeps = outside_n;
      apart = apart;
      out = out;
      outer = outer;
      nested = led-nested b n edits after (moving-leads b n edits outside_n) within (new ∷ block ∷ rest)
          (alone-in-none edits n within h.no_parent h.no_template h.within_below) h.nested
          (subst (λ i. AreOutside after i (block ∷ rest)) (sym h.number) out, outer);
    }

pub record IsInBlock (n : ℕ) (edits : List Edit) (within : List Open) (new block : Open) (rest : List Open) : Type 0 where
  pub tree : KeepTree (Put (LastChild block.node) n ∷ MoveChildren block.node n ∷ edits)
  pub nested : AreNested (Put (LastChild block.node) n ∷ MoveChildren block.node n ∷ edits) (within ++ new ∷ block ∷ rest)

pub put-in-block : (n : ℕ) (edits : List Edit) (within : List Open) (new block : Open) (rest : List Open) → IsRemade n edits within new block rest
    → IsInBlock n edits within new block rest
unfolding KeepTree AreNested AreOutside parent_after
put-in-block n edits within new block rest h =
    let b : ℕ = block.node in
    let moved : IsMoved n edits within new block rest = children-moved n edits within new block rest h in
    let before : List Edit = MoveChildren b n ∷ edits in
    let after : List Edit = Put (LastChild b) n ∷ before in
    let none : parent_after before n ≡ None = ap (moved_to b n) h.no_parent in
    let outer : AreNested after (block ∷ rest) =
    nested-kept n before after (block ∷ rest) (put-keeps (LastChild b) n before) moved.out moved.outer in
    let new_out : AreOutside after n (block ∷ rest) =
    led-outside-all n b before after (put-leads (LastChild b) n before moved.apart) n (block ∷ rest) moved.apart moved.out in
    record {
      tree = ((h.begun, none, moved.apart), (moved.keeps, h.tree));
      nested = led-nested n b before after (put-leads (LastChild b) n before moved.apart) within (new ∷ block ∷ rest)
          (in-none before b within (new ∷ block ∷ rest) (λ x out. out.2.0) moved.nested) moved.nested
          (subst (λ i. AreOutside after i (block ∷ rest)) (sym h.number) new_out, outer);
    }
