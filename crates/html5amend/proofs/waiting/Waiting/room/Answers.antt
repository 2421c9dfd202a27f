use Rattle.std.proofs.Common.{ap, sym, ◌∙◌}
use Rattle.html5amend.specs.Places.{grown}
use Rattle.html5amend.proofs.Pushing.{room-made}
use Rattle.html5amend.proofs.waiting.Waiting.room.Goals as goal

pub returns : goal.returns
returns g c = λ o.
    let q = c.self.inside.elements in
    room-made o c.args.self.now q.items c.self.inside.places c.len.result c.self.view_is (c.len.ensures ∙ q.ok.0) c.in_ok-with_capacity.field-0.cap c.if-len-self.false
    (c.in_ok-with_capacity.ensures.exact ∙ c.in-Some.ensures ∙ ap grown (c.len-2.ensures ∙ sym c.len.ensures))
