use Rattle.std.proofs.Common.{subst}
use Rattle.std.specs.Prelude.{IfSome}
use Rattle.html5programs.specs.Messages.{Saying, SaysLine, message}
use Rattle.html5programs.proofs.Saying.{says-line, says-nothing}
use Rattle.html5programs.proofs.messages.Messages.say.Goals as goal

pub returns-in_default-clause-line : goal.returns-in_default-clause-line
returns-in_default-clause-line g c = says-nothing g.E.Target.contents c.args.self.now.program c.args.what.now c.args.self.now.target (g.D.Display.output c.args.why)

pub returns-clause-line : goal.returns-clause-line
returns-clause-line g c =
    subst (λ (m : Saying _). IfSome (g.D.Display.output c.args.why) (λ why. SaysLine g.E.Target.contents m.target c.write_all.new.target (message m.program c.args.what.now why)))
    c.self.view_is
    (says-line g.E.Target.contents c.self.inside.program.now c.args.what.now c.self.inside.target c.write_all.new.target c.in-Ok.line.items _ c.write_all.result
    (g.D.Display.output c.args.why) c.as_slice.ensures.value c.write_all.ensures.ok c.write_all.ensures.err c.in-Ok.ensures)
