use Rattle.std.proofs.Common.{◌≡◌, [], refl, ap, ◌∙◌, subst}
use Rattle.std.specs.Io.KnownBytes.{Appends}
use Rattle.std.proofs.lemmas.Result.{on_ok_weaker, on_err_weaker}
use Rattle.devices.specs.Device.{AppendsBeginning}
use Rattle.html5ever.proofs.Standing.{StandsAt-start}
use Rattle.html5ever.specs.Tokenizer.{Tokenizing}
use Rattle.token_printer.specs.Output.{Output, Printer}
use Rattle.html5cli.specs.Printing.{printer_means, output_at_end}
use Rattle.html5cli.proofs.FeedingText.{AppendsBeginning-nothing, some-at_end}
use Rattle.html5cli.proofs.print.print_end.Goals as goal

pub returns-in-Ok-clause-ok : goal.returns-in-Ok-clause-ok
returns-in-Ok-clause-ok g c =
    let t = c.args.tokenizer.now in
    let output : c.tokenizer.inside.sink.output ≡ output_at_end t =
    ap (λ (u : Tokenizing Printer). u.sink.output) c.tokenizer.view_is
    ∙ c.in-Ok.ensures.finishes t.position t.sink.output [] (StandsAt-start printer_means t t.position refl c.requires.not_failed c.requires.going_on) in
    on_ok_weaker c.write_output.result (λ written. subst (λ (p : Output). Appends (g.W.Target.contents c.args.writer.now) (g.W.Target.contents c.write_output.new.writer) p.lines) output written)
    c.write_output.ensures.ok

pub returns-in-Ok-clause-err : goal.returns-in-Ok-clause-err
returns-in-Ok-clause-err g c =
    let t = c.args.tokenizer.now in
    let output : c.tokenizer.inside.sink.output ≡ output_at_end t =
    ap (λ (u : Tokenizing Printer). u.sink.output) c.tokenizer.view_is
    ∙ c.in-Ok.ensures.finishes t.position t.sink.output [] (StandsAt-start printer_means t t.position refl c.requires.not_failed c.requires.going_on) in
    on_err_weaker c.write_output.result (λ begun. subst (λ (p : Output). AppendsBeginning (g.W.Target.contents c.args.writer.now) (g.W.Target.contents c.write_output.new.writer) p.lines) output begun)
    c.write_output.ensures.err

pub returns-in-Err-clause-err : goal.returns-in-Err-clause-err
returns-in-Err-clause-err g c =
    let t = c.args.tokenizer.now in
    AppendsBeginning-nothing (g.W.Target.contents c.args.writer.now) (output_at_end t).lines (some-at_end t.rules t.position t.sink.output [])
