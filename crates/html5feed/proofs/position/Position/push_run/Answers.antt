use Rattle.std.proofs.Common.{arith}
use Rattle.html5partial.specs.CurrentTag.{opened_of}
use Rattle.html5partial.proofs.Decided.{no_reference-run, with_reference-false}
use Rattle.html5feed.proofs.position.Position.push_run.Goals as goal

pub returns-in_err-push_run-clause-held : goal.returns-in_err-push_run-clause-held
returns-in_err-push_run-clause-held g c =
    let out = no_reference-run c.self.inside.in_reference c.self.inside.held (opened_of c.self.inside.opened) _ (rw (← c.self.view_is) at c.requires.is_run) in
    rw (with_reference-false c.self.inside.in_reference c.self.inside.held (opened_of c.push_run.new.at) out, c.in_err-push_run.ensures.held) (omega arith)

pub returns-clause-opened : goal.returns-clause-opened
returns-clause-opened g c =
    let out = no_reference-run c.self.inside.in_reference c.self.inside.held (opened_of c.self.inside.opened) _ (rw (← c.self.view_is) at c.requires.is_run) in
    rw (
      ← c.self.view_is,
      with_reference-false c.self.inside.in_reference c.self.inside.held (opened_of c.push_run.new.at) out,
      with_reference-false c.self.inside.in_reference c.self.inside.held (opened_of c.self.inside.opened) out,
    ) c.in_ok-push_run.ensures.run

pub returns-clause-held : goal.returns-clause-held
returns-clause-held g c =
    let out = no_reference-run c.self.inside.in_reference c.self.inside.held (opened_of c.self.inside.opened) _ (rw (← c.self.view_is) at c.requires.is_run) in
    rw (with_reference-false c.self.inside.in_reference c.self.inside.held (opened_of c.push_run.new.at) out, c.in_ok-push_run.ensures.held) (omega arith)
