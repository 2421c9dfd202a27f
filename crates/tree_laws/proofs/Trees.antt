-- The document is a tree: which nodes are within a node after an edit, and nodes that were just made.
use Rattle.std.proofs.Common.{◌≡◌, ℕ, ◌<◌, ◌≤◌, Bool, true, false, List, [], ◌∷◌, refl, sym, ◌∙◌, ap, subst, arith}
use Rattle.std.specs.Prelude.{suc, ◌==◌, Option, Some, None, if◌then◌else◌}
use Rattle.std.proofs.lemmas.Bool.{eqb-true}
use Rattle.std.proofs.lemmas.Option.{none-some, same_Some}
use Rattle.tree_laws.specs.Laws.{AreOrderly, IsPlaceMade, next_number}
use Rattle.tree_laws.specs.Trees.{IsOutside, IsWithin, moved_to, or_else, parent_after, parent_at, template_after}
use Rattle.tree_laws.specs.Trees.IsWithin.{InParent, InTemplate, Itself}
use Rattle.tree_construction.specs.Page.{Edit, Place}
use Rattle.tree_construction.specs.Page.Edit.{MakeElement, MakeContents, MakeComment, PutDoctype, Put, PutText, Remove, MoveChildren, AddAttributes, SetQuirksMode, MarkStarted, AssociateForm, Pop, ParseError}
use Rattle.tree_construction.specs.Page.Place.{LastChild, BeforeTable, BesideNode}

-- ---- edits that change the parents only of nodes within a node

pub record KeepsLines (s : ℕ) (before after : List Edit) : Type 0 where
  pub parents : (m : ℕ) → IsOutside before s m → parent_after after m ≡ parent_after before m
  pub templates : (m : ℕ) → IsOutside before s m → template_after after m ≡ template_after before m

-- a node outside of s is within a node after them only if it was before
pub stood : (s x : ℕ) (before after : List Edit) (m : ℕ) → KeepsLines s before after → IsOutside before s m → IsWithin after x m → IsWithin before x m
stood s x before after _ keeps out Itself = Itself
stood s x before after _ keeps out (InParent n parent is stands) =
    let was : parent_after before n ≡ Some parent = sym (keeps.parents n out) ∙ is in
    InParent n parent was (stood s x before after parent keeps (λ g. out (InParent n parent was g)) stands)
stood s x before after _ keeps out (InTemplate n template is stands) =
    let was : template_after before n ≡ Some template = sym (keeps.templates n out) ∙ is in
    InTemplate n template was (stood s x before after template keeps (λ g. out (InTemplate n template was g)) stands)

pub stays-outside : (s x : ℕ) (before after : List Edit) (m : ℕ) → KeepsLines s before after → IsOutside before s m → IsOutside before x m
    → IsOutside after x m
stays-outside s x before after m keeps out other stands = other (stood s x before after m keeps out stands)

pub stands-within : (edits : List Edit) (a b c : ℕ) → IsWithin edits a b → IsWithin edits b c → IsWithin edits a c
stands-within edits a b _ first Itself = first
stands-within edits a b _ first (InParent n parent is stands) = InParent n parent is (stands-within edits a b parent first stands)
stands-within edits a b _ first (InTemplate n template is stands) = InTemplate n template is (stands-within edits a b template first stands)

-- ---- each edit

differs : (n m : ℕ) (edits : List Edit) → IsOutside edits n m → (n == m) ≡ false
differs n m edits out = by_test (n == m) refl
  where
    by_test : (test : Bool) → (n == m) ≡ test → test ≡ false
    by_test true is = absurd (out (subst (λ i. IsWithin edits n i) (eqb-true n m is) Itself))
    by_test false is = refl

pub put-keeps : (place : Place) (n : ℕ) (edits : List Edit) → KeepsLines n edits (Put place n ∷ edits)
unfolding parent_after template_after
put-keeps place n edits = record {
  parents = λ m out. ap (λ test. if test then Some (parent_at (parent_after edits) place) else parent_after edits m) (differs n m edits out);
  templates = λ m out. refl;
}

pub contents-keep : (template n : ℕ) (edits : List Edit) → KeepsLines n edits (MakeContents template n ∷ edits)
unfolding parent_after template_after
contents-keep template n edits = record {
  parents = λ m out. refl;
  templates = λ m out. ap (λ test. if test then Some template else template_after edits m) (differs n m edits out);
}

pub moving-keeps : (source target : ℕ) (edits : List Edit) → KeepsLines source edits (MoveChildren source target ∷ edits)
unfolding parent_after template_after
moving-keeps source target edits = record {
  parents = λ m out. of_parent m out (parent_after edits m) refl;
  templates = λ m out. refl;
}
  where
    of_parent : (m : ℕ) → IsOutside edits source m → (parent : Option ℕ) → parent_after edits m ≡ parent → moved_to source target parent ≡ parent
    of_parent m out None is = refl
    of_parent m out (Some n) is = by_test (n == source) refl
      where
        by_test : (test : Bool) → (n == source) ≡ test → (if test then Some target else Some n) ≡ Some n
        by_test true same =
            absurd (out (InParent m n is (subst (λ i. IsWithin edits source i) (sym (eqb-true n source same)) Itself)))
        by_test false same = refl

-- No node gets a descendant if edits change no parent, or only take parents away.
pub record AddsNone (before after : List Edit) : Type 0 where
  pub none : (x m : ℕ) → IsWithin after x m → IsWithin before x m

pub same-lines : (before after : List Edit) → ((m : ℕ) → parent_after after m ≡ parent_after before m)
    → ((m : ℕ) → template_after after m ≡ template_after before m) → AddsNone before after
same-lines before after parents templates = record { none = none }
  where
    none : (x m : ℕ) → IsWithin after x m → IsWithin before x m
    none x _ Itself = Itself
    none x _ (InParent n parent is stands) = InParent n parent (sym (parents n) ∙ is) (none x parent stands)
    none x _ (InTemplate n template is stands) = InTemplate n template (sym (templates n) ∙ is) (none x template stands)

pub removal-adds-none : (n : ℕ) (edits : List Edit) → AddsNone edits (Remove n ∷ edits)
unfolding parent_after template_after
removal-adds-none n edits = record { none = none }
  where
    had : (test : Bool) (parent : ℕ) (found : Option ℕ) → (if test then None else found) ≡ Some parent → found ≡ Some parent
    had true parent found is = absurd (none-some parent is)
    had false parent found is = is

    none : (x m : ℕ) → IsWithin (Remove n ∷ edits) x m → IsWithin edits x m
    none x _ Itself = Itself
    none x _ (InParent m parent is stands) = InParent m parent (had (n == m) parent (parent_after edits m) is) (none x parent stands)
    none x _ (InTemplate m template is stands) = InTemplate m template is (none x template stands)

-- ---- nodes that were made

place-below : (n : ℕ) (parent : ℕ → Option ℕ) (edits : List Edit) (place : Place) → next_number edits ≡ n
    → ((m k : ℕ) → parent m ≡ Some k → k < n) → IsPlaceMade edits place → parent_at parent place < n
place-below n parent edits (LastChild m) next below made = subst (λ i. m < i) next made
place-below n parent edits (BeforeTable table above) next below made = of_parent (parent table) refl
  where
    of_parent : (found : Option ℕ) → parent table ≡ found → or_else found above < n
    of_parent None is = subst (λ i. above < i) next made.1
    of_parent (Some k) is = below table k is
place-below n parent edits (BesideNode m) next below made = of_parent (parent m) refl
  where
    of_parent : (found : Option ℕ) → parent m ≡ found → or_else found m < n
    of_parent None is = subst (λ i. m < i) next made
    of_parent (Some k) is = below m k is

-- a node that has a parent was made, and the parent
abbrev AreMade : List Edit → ℕ → ℕ → Type 0
AreMade edits m k = (m < next_number edits) × (k < next_number edits)

later-made : (edits : List Edit) (n m k : ℕ) → n ≡ next_number edits → AreMade edits m k → (m < suc n) × (k < suc n)
later-made edits n m k next made =
    let rises : next_number edits ≤ n = subst (λ i. i ≤ n) next (omega arith) in (omega (arith, rises, made.0), omega (arith, rises, made.1))

pub parents-made : (edits : List Edit) → AreOrderly edits → (m k : ℕ) → parent_after edits m ≡ Some k → AreMade edits m k
unfolding AreOrderly next_number parent_after
parents-made [] orderly m k is = absurd (none-some k is)
parents-made (Put place i ∷ before) orderly m k is = by_test (parents-made before orderly.1) (i == m) refl is
  where
    by_test : ((a b : ℕ) → parent_after before a ≡ Some b → AreMade before a b) → (test : Bool) → (i == m) ≡ test
        → (if test then Some (parent_at (parent_after before) place) else parent_after before m) ≡ Some k → AreMade before m k
    by_test earlier true equal same = (
      subst (λ j. j < next_number before) (eqb-true i m equal) orderly.0.1,
      subst (λ j. j < next_number before) (same_Some (parent_at (parent_after before) place) k same)
          (place-below (next_number before) (parent_after before) before place refl (λ a b has. (earlier a b has).1) orderly.0.0),
    )
    by_test earlier false equal same = earlier m k same
parents-made (Remove i ∷ before) orderly m k is = by_test (parents-made before orderly.1 m k) (i == m) is
  where
    by_test : (parent_after before m ≡ Some k → AreMade before m k) → (test : Bool) → (if test then None else parent_after before m) ≡ Some k → AreMade before m k
    by_test earlier true same = absurd (none-some k same)
    by_test earlier false same = earlier same
parents-made (MoveChildren source target ∷ before) orderly m k is = of_parent (parents-made before orderly.1 m) (parent_after before m) refl is
  where
    of_parent : ((i : ℕ) → parent_after before m ≡ Some i → AreMade before m i)
        → (found : Option ℕ) → parent_after before m ≡ found → moved_to source target found ≡ Some k → AreMade before m k
    of_parent earlier None was same = absurd (none-some k same)
    of_parent earlier (Some i) was same = by_test (i == source) same
      where
        by_test : (test : Bool) → (if test then Some target else Some i) ≡ Some k → AreMade before m k
        by_test true it = ((earlier i was).0, subst (λ j. j < next_number before) (same_Some target k it) orderly.0.1)
        by_test false it = earlier k (was ∙ it)
parents-made (MakeElement n namespace name attributes ∷ before) orderly m k is =
    later-made before n m k orderly.0 (parents-made before orderly.1 m k is)
parents-made (MakeContents template n ∷ before) orderly m k is = later-made before n m k orderly.0.1 (parents-made before orderly.1 m k is)
parents-made (MakeComment n text ∷ before) orderly m k is = later-made before n m k orderly.0 (parents-made before orderly.1 m k is)
parents-made (PutDoctype name public_id system_id ∷ before) orderly m k is = parents-made before orderly.1 m k is
parents-made (PutText place text ∷ before) orderly m k is = parents-made before orderly.1 m k is
parents-made (AddAttributes n attributes ∷ before) orderly m k is = parents-made before orderly.1 m k is
parents-made (SetQuirksMode mode ∷ before) orderly m k is = parents-made before orderly.1 m k is
parents-made (MarkStarted n ∷ before) orderly m k is = parents-made before orderly.1 m k is
parents-made (AssociateForm n form place ∷ before) orderly m k is = parents-made before orderly.1 m k is
parents-made (Pop n ∷ before) orderly m k is = parents-made before orderly.1 m k is
parents-made (ParseError mistake ∷ before) orderly m k is = parents-made before orderly.1 m k is

pub templates-made : (edits : List Edit) → AreOrderly edits → (m k : ℕ) → template_after edits m ≡ Some k → AreMade edits m k
unfolding AreOrderly next_number template_after
templates-made [] orderly m k is = absurd (none-some k is)
templates-made (MakeContents template n ∷ before) orderly m k is = by_test (templates-made before orderly.1 m k) (n == m) refl is
  where
    by_test : (template_after before m ≡ Some k → AreMade before m k)
        → (test : Bool) → (n == m) ≡ test → (if test then Some template else template_after before m) ≡ Some k → (m < suc n) × (k < suc n)
    by_test earlier true equal same = (
      subst (λ j. j < suc n) (eqb-true n m equal) (omega arith),
      subst (λ j. j < suc n) (same_Some template k same) (subst (λ j. template < suc j) (sym orderly.0.0) (omega arith)),
    )
    by_test earlier false equal same = later-made before n m k orderly.0.1 (earlier same)
templates-made (MakeElement n namespace name attributes ∷ before) orderly m k is =
    later-made before n m k orderly.0 (templates-made before orderly.1 m k is)
templates-made (MakeComment n text ∷ before) orderly m k is = later-made before n m k orderly.0 (templates-made before orderly.1 m k is)
templates-made (Put place n ∷ before) orderly m k is = templates-made before orderly.1 m k is
templates-made (Remove n ∷ before) orderly m k is = templates-made before orderly.1 m k is
templates-made (MoveChildren source target ∷ before) orderly m k is = templates-made before orderly.1 m k is
templates-made (PutDoctype name public_id system_id ∷ before) orderly m k is = templates-made before orderly.1 m k is
templates-made (PutText place text ∷ before) orderly m k is = templates-made before orderly.1 m k is
templates-made (AddAttributes n attributes ∷ before) orderly m k is = templates-made before orderly.1 m k is
templates-made (SetQuirksMode mode ∷ before) orderly m k is = templates-made before orderly.1 m k is
templates-made (MarkStarted n ∷ before) orderly m k is = templates-made before orderly.1 m k is
templates-made (AssociateForm n form place ∷ before) orderly m k is = templates-made before orderly.1 m k is
templates-made (Pop n ∷ before) orderly m k is = templates-made before orderly.1 m k is
templates-made (ParseError mistake ∷ before) orderly m k is = templates-made before orderly.1 m k is

-- only a node itself is within it before it is made
pub outside-new : (edits : List Edit) (n m : ℕ) → AreOrderly edits → next_number edits ≤ n → m < next_number edits → IsOutside edits n m
outside-new edits n m orderly new made stands = unmade m made stands
  where
    unmade : (m : ℕ) → m < next_number edits → IsWithin edits n m → ⊥
    unmade _ made Itself = omega (arith, new, made)
    unmade _ made (InParent i parent is stands) = unmade parent (parents-made edits orderly i parent is).1 stands
    unmade _ made (InTemplate i template is stands) = unmade template (templates-made edits orderly i template is).1 stands

not-above : (next n : ℕ) → next ≤ n → n < next → ⊥
not-above next n le less = omega (arith, le, less)

-- it has no parent, and is the contents of no template
pub no-parent : (edits : List Edit) (n : ℕ) → AreOrderly edits → next_number edits ≤ n → parent_after edits n ≡ None
no-parent edits n orderly new = of_parent (parent_after edits n) refl
  where
    of_parent : (found : Option ℕ) → parent_after edits n ≡ found → found ≡ None
    of_parent None is = refl
    of_parent (Some k) is = let made : AreMade edits n k = parents-made edits orderly n k is in absurd (not-above (next_number edits) n new made.0)

pub no-template : (edits : List Edit) (n : ℕ) → AreOrderly edits → next_number edits ≤ n → template_after edits n ≡ None
no-template edits n orderly new = of_template (template_after edits n) refl
  where
    of_template : (found : Option ℕ) → template_after edits n ≡ found → found ≡ None
    of_template None is = refl
    of_template (Some k) is = let made : AreMade edits n k = templates-made edits orderly n k is in absurd (not-above (next_number edits) n new made.0)

-- a node with neither is within itself alone
pub outside-alone : (edits : List Edit) (x n : ℕ) → parent_after edits n ≡ None → template_after edits n ≡ None → (x ≡ n → ⊥) → IsOutside edits x n
outside-alone edits x _ none no_template differ Itself = differ refl
outside-alone edits x _ none no_template differ (InParent n parent is stands) = absurd (none-some parent (sym none ∙ is))
outside-alone edits x _ none no_template differ (InTemplate n template is stands) = absurd (none-some template (sym no_template ∙ is))

-- ---- nodes that get another parent

-- the parent of a node, or its template, is what it was; or it is t, and the node was within s
pub data IsLed (s t : ℕ) (before : List Edit) (was : Option ℕ) (n outer : ℕ) : Type 0 where
  AsBefore : was ≡ Some outer → IsLed s t before was n outer
  Elsewhere : IsWithin before s n → outer ≡ t → IsLed s t before was n outer

-- edits that give t as parent to some nodes within s
pub record Leads (s t : ℕ) (before after : List Edit) : Type 0 where
  pub keeps : KeepsLines s before after
  pub out : IsOutside before s t
  pub parents : (n outer : ℕ) → parent_after after n ≡ Some outer → IsLed s t before (parent_after before n) n outer
  pub templates : (n outer : ℕ) → template_after after n ≡ Some outer → IsLed s t before (template_after before n) n outer

module _ (s t : ℕ) (before after : List Edit) (leads : Leads s t before after) where
  -- t is within x after them only if it was before
  target-stood : (x outer : ℕ) → outer ≡ t → IsWithin after x outer → IsWithin before x t
  target-stood x outer same stands = stood s x before after t leads.keeps leads.out (subst (λ i. IsWithin after x i) same stands)

  -- a node within x was within it before, unless it was within s, and t within x
  pub led-stood : (x m : ℕ) → (IsWithin before s m → IsWithin before x t → ⊥) → IsWithin after x m → IsWithin before x m
  led-stood x _ not_both Itself = Itself
  led-stood x _ not_both (InParent n outer is stands) =
      by_line (λ apart. led-stood x outer apart stands) (target-stood x outer) (leads.parents n outer is)
    where
      by_line : ((IsWithin before s outer → IsWithin before x t → ⊥) → IsWithin before x outer)
          → (outer ≡ t → IsWithin after x outer → IsWithin before x t) → IsLed s t before (parent_after before n) n outer → IsWithin before x n
      by_line earlier at_target (AsBefore was) = InParent n outer was (earlier (λ g h. not_both (InParent n outer was g) h))
      by_line earlier at_target (Elsewhere in_source same) = absurd (not_both in_source (at_target same stands))
  led-stood x _ not_both (InTemplate n outer is stands) =
      by_line (λ apart. led-stood x outer apart stands) (target-stood x outer) (leads.templates n outer is)
    where
      by_line : ((IsWithin before s outer → IsWithin before x t → ⊥) → IsWithin before x outer)
          → (outer ≡ t → IsWithin after x outer → IsWithin before x t) → IsLed s t before (template_after before n) n outer → IsWithin before x n
      by_line earlier at_target (AsBefore was) = InTemplate n outer was (earlier (λ g h. not_both (InTemplate n outer was g) h))
      by_line earlier at_target (Elsewhere in_source same) = absurd (not_both in_source (at_target same stands))

  -- What was outside of a node stays outside, if that node was within s where the other was: t was not.
  led-outside : (n outer : ℕ) → IsOutside before n outer → (IsWithin before s outer → IsWithin before s n) → IsOutside after n outer
  led-outside n outer out within stands =
      out (led-stood n outer (λ g h. leads.out (stands-within before s n t (within g) h)) stands)

  pub parent-stays-outside : ((n outer : ℕ) → parent_after before n ≡ Some outer → IsOutside before n outer) → (n outer : ℕ)
      → parent_after after n ≡ Some outer → IsOutside after n outer
  parent-stays-outside earlier n outer is = by_line (target-stood n outer) (leads.parents n outer is)
    where
      by_line : (outer ≡ t → IsWithin after n outer → IsWithin before n t) → IsLed s t before (parent_after before n) n outer → IsOutside after n outer
      by_line at_target (AsBefore was) = led-outside n outer (earlier n outer was) (λ g. InParent n outer was g)
      by_line at_target (Elsewhere in_source same) = λ stands. leads.out (stands-within before s n t in_source (at_target same stands))

  pub template-stays-outside : ((n outer : ℕ) → template_after before n ≡ Some outer → IsOutside before n outer) → (n outer : ℕ)
      → template_after after n ≡ Some outer → IsOutside after n outer
  template-stays-outside earlier n outer is = by_line (target-stood n outer) (leads.templates n outer is)
    where
      by_line : (outer ≡ t → IsWithin after n outer → IsWithin before n t) → IsLed s t before (template_after before n) n outer → IsOutside after n outer
      by_line at_target (AsBefore was) = led-outside n outer (earlier n outer was) (λ g. InTemplate n outer was g)
      by_line at_target (Elsewhere in_source same) = λ stands. leads.out (stands-within before s n t in_source (at_target same stands))

-- ---- what is put, children that move, and contents

pub put-leads : (place : Place) (n : ℕ) (edits : List Edit) → IsOutside edits n (parent_at (parent_after edits) place)
    → Leads n (parent_at (parent_after edits) place) edits (Put place n ∷ edits)
unfolding parent_after template_after
put-leads place n edits out =
    record { keeps = put-keeps place n edits; out = out; parents = λ i outer. by_test i outer (n == i) refl; templates = λ i outer is. AsBefore is }
  where
    at : ℕ
    at = parent_at (parent_after edits) place

    by_test : (i outer : ℕ) (test : Bool) → (n == i) ≡ test → (if test then Some at else parent_after edits i) ≡ Some outer
        → IsLed n at edits (parent_after edits i) i outer
    by_test i outer true equal same = Elsewhere (subst (λ j. IsWithin edits n j) (eqb-true n i equal) Itself) (sym (same_Some at outer same))
    by_test i outer false equal same = AsBefore same

pub contents-lead : (template n : ℕ) (edits : List Edit) → IsOutside edits n template → Leads n template edits (MakeContents template n ∷ edits)
unfolding parent_after template_after
contents-lead template n edits out =
    record { keeps = contents-keep template n edits; out = out; parents = λ i outer is. AsBefore is; templates = λ i outer. by_test i outer (n == i) refl }
  where
    by_test : (i outer : ℕ) (test : Bool) → (n == i) ≡ test → (if test then Some template else template_after edits i) ≡ Some outer
        → IsLed n template edits (template_after edits i) i outer
    by_test i outer true equal same = Elsewhere (subst (λ j. IsWithin edits n j) (eqb-true n i equal) Itself) (sym (same_Some template outer same))
    by_test i outer false equal same = AsBefore same

pub moving-leads : (source target : ℕ) (edits : List Edit) → IsOutside edits source target
    → Leads source target edits (MoveChildren source target ∷ edits)
unfolding parent_after template_after
moving-leads source target edits out = record {
  keeps = moving-keeps source target edits;
  out = out;
  parents = λ i outer. of_parent i outer (parent_after edits i) refl;
  templates = λ i outer is. AsBefore is;
}
  where
    of_parent : (i outer : ℕ) (found : Option ℕ) → parent_after edits i ≡ found → moved_to source target found ≡ Some outer
        → IsLed source target edits found i outer
    of_parent i outer None was same = absurd (none-some outer same)
    of_parent i outer (Some j) was same = by_test (j == source) refl same
      where
        by_test : (test : Bool) → (j == source) ≡ test → (if test then Some target else Some j) ≡ Some outer
            → IsLed source target edits (Some j) i outer
        by_test true equal it =
            Elsewhere (InParent i j was (subst (λ a. IsWithin edits source a) (sym (eqb-true j source equal)) Itself)) (sym (same_Some target outer it))
        by_test false equal it = AsBefore it
