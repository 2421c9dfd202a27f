use Rattle.std.proofs.Common.{◌≡◌, ap, drop, length, rules, subst, sym, vec_len, ◌∙◌}
use Rattle.html5tree.proofs.Nests.{outer-open, ready-outer}
use Rattle.html5tree.specs.Normal.{IsReady}
use Rattle.html5tree.specs.Searches.{names_open}
use Rattle.html5tree.proofs.nesting.Nesting.close_one.Goals as goal

pub invariant_of-self : goal.invariant_of-self
invariant_of-self g c =
    let len : vec_len c.self.inside.opened ≡ length c.self.inside.opened.items = search rules in
    let outer : names_open c.pop.new.self.items ≡ drop 1 (names_open c.self.inside.opened.items) =
    ap names_open c.pop.ensures.rest ∙ outer-open c.self.inside.opened.items (vec_len c.self.inside.opened) len in
    subst (λ s. IsReady c.self.inside.limit s) (sym outer) (ready-outer c.self.inside.limit (names_open c.self.inside.opened.items) c.self.invariant)
