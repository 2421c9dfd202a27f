use Rattle.std.proofs.Common.{ap, sym, ◌∙◌}
use Rattle.std.specs.Prelude.{option_map}
use Rattle.html5amend.specs.Amending.{opening_move}
use Rattle.html5amend.specs.Elements.{waits}
use Rattle.html5amend.specs.Open.{counted_found, found, opened}
use Rattle.html5amend.specs.Places.{Waiting, waiting_after}
use Rattle.html5amend.specs.Views.{open_by}
use Rattle.html5amend.proofs.Pushing.{waiting-counts, waiting-opens}
use Rattle.html5amend.proofs.amending.Amending.start.Goals as goal
use Rattle.html5ever_interface.specs.Token.{tag_of}

pub returns-in-Some-clause-change : goal.returns-in-Some-clause-change
returns-in-Some-clause-change g c =
    let w : Waiting = c.args.self.now.waiting in
    let tag = tag_of c.args.tag in
    let e = c.in_ok-amended.field-0 in
    c.in_ok-room-in-Some.ensures c.in-Some.element
    ∙ waiting-opens w tag (waits e) (open_by c.in-Some.element) (opened e) (ap (option_map open_by) (sym c.in-Some.is) ∙ c.in_ok-start.ensures.waiting)
    ∙ ap (λ x. waiting_after (opening_move tag x) w) c.in_ok-amended.ensures

pub returns-clause-change : goal.returns-clause-change
returns-clause-change g c =
    let w : Waiting = c.args.self.now.waiting in
    let tag = tag_of c.args.tag in
    let e = c.in_ok-amended.field-0 in
    c.in_ok-count.ensures w
    ∙ ap (λ f. record w { elements = counted_found tag f w.elements }) (c.found.ensures ∙ ap (λ n. found n w.elements) c.deref.ensures)
    ∙ waiting-counts w tag (waits e) (opened e) (ap (option_map open_by) (sym c.in-None.is) ∙ c.in_ok-start.ensures.waiting)
    ∙ ap (λ x. waiting_after (opening_move tag x) w) c.in_ok-amended.ensures
