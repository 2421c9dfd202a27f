use Rattle.std.proofs.Common.{◌+◌, ◌<◌, ◌≤◌, ◌++◌, ◌∷◌, map, ap, ◌∙◌, subst, arith, deque_len, deque_capacity}
use Rattle.html5amend.specs.Views.{open_by}
use Rattle.html5amend.proofs.Pushing.{full-into, ok-then, pushed-into}
use Rattle.html5amend.proofs.waiting.Waiting.push_into.Goals as goal

pub push_front_reserved-requires : goal.push_front_reserved-requires
push_front_reserved-requires g c =
    let q = c.self.inside.elements in
    let fits : deque_len c.clear.new.self + deque_len q ≤ deque_capacity c.clear.new.self = omega (arith, c.clear.ensures.len, c.clear.ensures.capacity, c.len.ensures, c.capacity.ensures, c.if-len-capacity.true) in
    let len = c.append.ensures.len ∙ ok-then c.append.result _ _ (c.append.ensures.succeeds fits) in
    omega (arith, len, c.clear.ensures.len, c.clear.ensures.capacity, c.len.ensures, c.capacity.ensures, c.if-len-capacity.true, c.append.ensures.capacity)

pub returns-then-len-capacity : goal.returns-then-len-capacity
returns-then-len-capacity g c =
    let q = c.self.inside.elements in
    let fits : deque_len c.clear.new.self + deque_len q ≤ deque_capacity c.clear.new.self = omega (arith, c.clear.ensures.len, c.clear.ensures.capacity, c.len.ensures, c.capacity.ensures, c.if-len-capacity.true) in
    ap (λ n. record { elements = map open_by c.push_front_reserved.new.self.items; places = n }) (c.capacity-self-inside.ensures ∙ c.clear.ensures.capacity)
    ∙ pushed-into c.args.element c.args.self.now q.items c.self.inside.places c.len.result c.self.view_is (c.len.ensures ∙ q.ok.0) c.args.room
    c.push_front_reserved.new.self.items (subst (λ n. c.len.result < n) c.capacity.ensures c.if-len-capacity.true)
    (c.push_front_reserved.ensures.items
    ∙ ap (λ l. c.args.element ∷ l) (c.append.ensures.items ∙ ok-then c.append.result _ _ (c.append.ensures.succeeds fits) ∙ ap (λ l. l ++ q.items) c.clear.ensures.items))

pub returns-else-len-capacity : goal.returns-else-len-capacity
returns-else-len-capacity g c =
    full-into c.args.element c.args.self.now c.self.inside.elements.items c.self.inside.places c.len.result c.self.view_is (c.len.ensures ∙ c.self.inside.elements.ok.0)
    c.args.room (subst (λ n. n ≤ c.len.result) c.capacity.ensures c.if-len-capacity.false)
