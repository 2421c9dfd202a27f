use Rattle.std.proofs.Common.{ap, sym, subst, ◌++◌, ◌∙◌}
use Rattle.html5tree.proofs.Nests.{ready-none}
use Rattle.html5tree.specs.Normal.{IsReady}
use Rattle.html5tree.specs.Searches.{names_open}
use Rattle.html5tree.proofs.nesting.Nesting.copy_from.Goals as goal

pub invariant_of-self : goal.invariant_of-self
invariant_of-self g c =
    ready-none c.self.inside.limit (names_open c.extend_from_slice.new.self.items) (ap names_open (c.in_err-extend_from_slice.ensures.items ∙ c.clear.ensures.items))

pub invariant_of-self-2 : goal.invariant_of-self-2
invariant_of-self-2 g c =
    subst (λ xs. IsReady c.other.inside.limit (names_open xs))
    (sym (c.in_ok-extend_from_slice.ensures.items ∙ (ap (λ l. l ++ c.deref.result.now) c.clear.ensures.items ∙ c.deref.ensures.value))) c.other.invariant
