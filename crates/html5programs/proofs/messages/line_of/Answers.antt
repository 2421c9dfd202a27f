use Rattle.std.proofs.Common.{string_bytes, ◌∙◌, ap}
use Rattle.std.proofs.lemmas.Result.{IfOk-weaker}
use Rattle.html5programs.specs.Messages.{message}
use Rattle.html5programs.proofs.Saying.{reason-line}
use Rattle.html5programs.proofs.messages.line_of.Goals as goal

pub returns : goal.returns
returns g c =
    IfOk-weaker c.line_with.result _ _
    (λ line is. reason-line c.args.program.now c.args.what.now line.items (string_bytes c.in_ok-why.why) (g.D.Display.output c.args.why)
    c.in_ok-why.ensures.ok (is ∙ ap (message c.args.program.now c.args.what.now) c.as_str.ensures.value))
    c.line_with.ensures
