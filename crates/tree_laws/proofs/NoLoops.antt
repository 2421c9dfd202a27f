-- The document is a tree: the parent of a node is no descendant of that node.
use Rattle.std.proofs.Common.{◌≡◌, ℕ, Bool, true, false, List, [], ◌∷◌, refl}
use Rattle.std.specs.Prelude.{◌==◌, Option, Some, None, if◌then◌else◌}
use Rattle.std.proofs.lemmas.Option.{none-some}
use Rattle.tree_construction.specs.Page.{Edit}
use Rattle.tree_construction.specs.Page.Edit.{MakeElement, MakeContents, MakeComment, PutDoctype, Put, PutText, Remove, MoveChildren, AddAttributes, SetQuirksMode, MarkStarted, AssociateForm, Pop, ParseError}
use Rattle.tree_laws.specs.Trees.{IsOutside, KeepTree, parent_after, parent_at, template_after}
use Rattle.tree_laws.proofs.Trees.{AddsNone, contents-lead, moving-leads, parent-stays-outside, put-leads, removal-adds-none, same-lines, template-stays-outside}

outside-as-before : (before after : List Edit) → AddsNone before after → (n outer : ℕ) → IsOutside before n outer → IsOutside after n outer
outside-as-before before after adds n outer out = λ stands. out (adds.none n outer stands)

had-parent : (test : Bool) (found : Option ℕ) (outer : ℕ) → (if test then None else found) ≡ Some outer → found ≡ Some outer
had-parent true found outer is = absurd (none-some outer is)
had-parent false found outer is = is

-- the parent of a node is outside of it
pub parents-outside : (edits : List Edit) → KeepTree edits → (n outer : ℕ) → parent_after edits n ≡ Some outer → IsOutside edits n outer
unfolding KeepTree parent_after template_after
parents-outside [] tree n outer is = absurd (none-some outer is)
parents-outside (Put place i ∷ before) tree n outer is =
    parent-stays-outside i (parent_at (parent_after before) place) before (Put place i ∷ before) (put-leads place i before tree.0.2)
    (parents-outside before tree.1) n outer is
parents-outside (MakeContents template i ∷ before) tree n outer is =
    parent-stays-outside i template before (MakeContents template i ∷ before) (contents-lead template i before tree.0) (parents-outside before tree.1)
    n outer is
parents-outside (MoveChildren source target ∷ before) tree n outer is =
    parent-stays-outside source target before (MoveChildren source target ∷ before) (moving-leads source target before tree.0)
    (parents-outside before tree.1) n outer is
parents-outside (Remove i ∷ before) tree n outer is =
    outside-as-before before (Remove i ∷ before) (removal-adds-none i before) n outer
    (parents-outside before tree.1 n outer (had-parent (i == n) (parent_after before n) outer is))
parents-outside (MakeElement i namespace name attributes ∷ before) tree n outer is =
    outside-as-before before (MakeElement i namespace name attributes ∷ before) (same-lines before (MakeElement i namespace name attributes ∷ before) (λ m. refl) (λ m. refl))
    n outer (parents-outside before tree.1 n outer is)
parents-outside (MakeComment i text ∷ before) tree n outer is =
    outside-as-before before (MakeComment i text ∷ before) (same-lines before (MakeComment i text ∷ before) (λ m. refl) (λ m. refl))
    n outer (parents-outside before tree.1 n outer is)
parents-outside (PutDoctype name public_id system_id ∷ before) tree n outer is =
    outside-as-before before (PutDoctype name public_id system_id ∷ before) (same-lines before (PutDoctype name public_id system_id ∷ before) (λ m. refl) (λ m. refl))
    n outer (parents-outside before tree.1 n outer is)
parents-outside (PutText place text ∷ before) tree n outer is =
    outside-as-before before (PutText place text ∷ before) (same-lines before (PutText place text ∷ before) (λ m. refl) (λ m. refl))
    n outer (parents-outside before tree.1 n outer is)
parents-outside (AddAttributes i attributes ∷ before) tree n outer is =
    outside-as-before before (AddAttributes i attributes ∷ before) (same-lines before (AddAttributes i attributes ∷ before) (λ m. refl) (λ m. refl))
    n outer (parents-outside before tree.1 n outer is)
parents-outside (SetQuirksMode mode ∷ before) tree n outer is =
    outside-as-before before (SetQuirksMode mode ∷ before) (same-lines before (SetQuirksMode mode ∷ before) (λ m. refl) (λ m. refl))
    n outer (parents-outside before tree.1 n outer is)
parents-outside (MarkStarted i ∷ before) tree n outer is =
    outside-as-before before (MarkStarted i ∷ before) (same-lines before (MarkStarted i ∷ before) (λ m. refl) (λ m. refl))
    n outer (parents-outside before tree.1 n outer is)
parents-outside (AssociateForm i form place ∷ before) tree n outer is =
    outside-as-before before (AssociateForm i form place ∷ before) (same-lines before (AssociateForm i form place ∷ before) (λ m. refl) (λ m. refl))
    n outer (parents-outside before tree.1 n outer is)
parents-outside (Pop i ∷ before) tree n outer is =
    outside-as-before before (Pop i ∷ before) (same-lines before (Pop i ∷ before) (λ m. refl) (λ m. refl))
    n outer (parents-outside before tree.1 n outer is)
parents-outside (ParseError mistake ∷ before) tree n outer is =
    outside-as-before before (ParseError mistake ∷ before) (same-lines before (ParseError mistake ∷ before) (λ m. refl) (λ m. refl))
    n outer (parents-outside before tree.1 n outer is)

-- so is the template whose contents a node is
pub templates-outside : (edits : List Edit) → KeepTree edits → (n outer : ℕ) → template_after edits n ≡ Some outer → IsOutside edits n outer
unfolding KeepTree parent_after template_after
templates-outside [] tree n outer is = absurd (none-some outer is)
templates-outside (Put place i ∷ before) tree n outer is =
    template-stays-outside i (parent_at (parent_after before) place) before (Put place i ∷ before) (put-leads place i before tree.0.2)
    (templates-outside before tree.1) n outer is
templates-outside (MakeContents template i ∷ before) tree n outer is =
    template-stays-outside i template before (MakeContents template i ∷ before) (contents-lead template i before tree.0) (templates-outside before tree.1)
    n outer is
templates-outside (MoveChildren source target ∷ before) tree n outer is =
    template-stays-outside source target before (MoveChildren source target ∷ before) (moving-leads source target before tree.0)
    (templates-outside before tree.1) n outer is
templates-outside (Remove i ∷ before) tree n outer is =
    outside-as-before before (Remove i ∷ before) (removal-adds-none i before) n outer
    (templates-outside before tree.1 n outer is)
templates-outside (MakeElement i namespace name attributes ∷ before) tree n outer is =
    outside-as-before before (MakeElement i namespace name attributes ∷ before) (same-lines before (MakeElement i namespace name attributes ∷ before) (λ m. refl) (λ m. refl))
    n outer (templates-outside before tree.1 n outer is)
templates-outside (MakeComment i text ∷ before) tree n outer is =
    outside-as-before before (MakeComment i text ∷ before) (same-lines before (MakeComment i text ∷ before) (λ m. refl) (λ m. refl))
    n outer (templates-outside before tree.1 n outer is)
templates-outside (PutDoctype name public_id system_id ∷ before) tree n outer is =
    outside-as-before before (PutDoctype name public_id system_id ∷ before) (same-lines before (PutDoctype name public_id system_id ∷ before) (λ m. refl) (λ m. refl))
    n outer (templates-outside before tree.1 n outer is)
templates-outside (PutText place text ∷ before) tree n outer is =
    outside-as-before before (PutText place text ∷ before) (same-lines before (PutText place text ∷ before) (λ m. refl) (λ m. refl))
    n outer (templates-outside before tree.1 n outer is)
templates-outside (AddAttributes i attributes ∷ before) tree n outer is =
    outside-as-before before (AddAttributes i attributes ∷ before) (same-lines before (AddAttributes i attributes ∷ before) (λ m. refl) (λ m. refl))
    n outer (templates-outside before tree.1 n outer is)
templates-outside (SetQuirksMode mode ∷ before) tree n outer is =
    outside-as-before before (SetQuirksMode mode ∷ before) (same-lines before (SetQuirksMode mode ∷ before) (λ m. refl) (λ m. refl))
    n outer (templates-outside before tree.1 n outer is)
templates-outside (MarkStarted i ∷ before) tree n outer is =
    outside-as-before before (MarkStarted i ∷ before) (same-lines before (MarkStarted i ∷ before) (λ m. refl) (λ m. refl))
    n outer (templates-outside before tree.1 n outer is)
templates-outside (AssociateForm i form place ∷ before) tree n outer is =
    outside-as-before before (AssociateForm i form place ∷ before) (same-lines before (AssociateForm i form place ∷ before) (λ m. refl) (λ m. refl))
    n outer (templates-outside before tree.1 n outer is)
templates-outside (Pop i ∷ before) tree n outer is =
    outside-as-before before (Pop i ∷ before) (same-lines before (Pop i ∷ before) (λ m. refl) (λ m. refl))
    n outer (templates-outside before tree.1 n outer is)
templates-outside (ParseError mistake ∷ before) tree n outer is =
    outside-as-before before (ParseError mistake ∷ before) (same-lines before (ParseError mistake ∷ before) (λ m. refl) (λ m. refl))
    n outer (templates-outside before tree.1 n outer is)
