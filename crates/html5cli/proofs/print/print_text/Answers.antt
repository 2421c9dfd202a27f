use Rattle.std.proofs.Common.{◌≡◌, List, ℕ, [], ◌++◌, ◌∙◌, sym, subst}
use Rattle.std.proofs.lemmas.List.{append-nil}
use Rattle.std.proofs.lemmas.Result.{on_ok_weaker, on_err_weaker}
use Rattle.std.specs.Io.KnownBytes.{Appends}
use Rattle.devices.proofs.KnownBytes.{Appends-append}
use Rattle.devices.specs.Device.{AppendsBeginning}
use Rattle.html5ever_interface.specs.Options.{options_of}
use Rattle.html5reading.specs.Start.{start_of}
use Rattle.html5cli.specs.Printing.{output_at_end, printed_reading}
use Rattle.html5cli.specs.Settings.{said_by}
use Rattle.html5cli.proofs.FeedingText.{AppendsBeginning-nothing, AppendsBeginning-after, on_err-anyway, printed-whole, printed-parts, some-printed}
use Rattle.html5cli.proofs.print.print_text.Goals as goal

pub returns-in_err-opts-clause-err : goal.returns-in_err-opts-clause-err
returns-in_err-opts-clause-err g c =
    on_err-anyway c.from_residual.result
    (AppendsBeginning-nothing (g.W.Target.contents c.args.writer.now) _ (some-printed (said_by c.args.settings.now) c.args.references.now c.args.text.now))

pub returns-in_err-feed_text-clause-err : goal.returns-in_err-feed_text-clause-err
returns-in_err-feed_text-clause-err g c =
    let opts = options_of c.in_ok-opts.opts in
    let short = c.in_err-feed_text.ensures.beginning (start_of opts) c.new-sink.result.output [] c.new-tokenizer.ensures.stands in
    let whole = printed-whole (said_by c.args.settings.now) c.args.references.now c.new-tokenizer.result.rules opts c.new-sink.result.output c.args.text.now c.in_ok-opts.ensures c.new-sink.ensures.output c.new-tokenizer.ensures.rules in
    on_err-anyway c.from_residual-in_err-feed_text.result
    (subst (λ (l : List ℕ). AppendsBeginning (g.W.Target.contents c.args.writer.now) (g.W.Target.contents c.feed_text.new.writer) l) whole short)

pub returns-clause-ok : goal.returns-clause-ok
returns-clause-ok g c =
    let opts = options_of c.in_ok-opts.opts in
    let prints = c.in_ok-feed_text.ensures.prints in
    let lines = (output_at_end c.feed_text.new.tokenizer).lines in
    let parts : prints.front ++ lines ≡ printed_reading (said_by c.args.settings.now) c.args.references.now c.args.text.now =
    printed-parts (said_by c.args.settings.now) c.args.references.now opts c.new-sink.result.output c.feed_text.new.tokenizer prints.front c.args.text.now c.in_ok-opts.ensures c.new-sink.ensures.output (c.in_ok-feed_text.ensures.rules ∙ c.new-tokenizer.ensures.rules)
    (prints.reads (start_of opts) c.new-sink.result.output [] c.new-tokenizer.ensures.stands) in
    on_ok_weaker c.print_end.result
    (λ last. subst (λ (l : List ℕ). Appends (g.W.Target.contents c.args.writer.now) (g.W.Target.contents c.print_end.new.writer) l) parts
    (Appends-append _ _ _ prints.front lines prints.written last))
    c.print_end.ensures.ok

pub returns-clause-err : goal.returns-clause-err
returns-clause-err g c =
    let opts = options_of c.in_ok-opts.opts in
    let prints = c.in_ok-feed_text.ensures.prints in
    let lines = (output_at_end c.feed_text.new.tokenizer).lines in
    let parts : prints.front ++ lines ≡ printed_reading (said_by c.args.settings.now) c.args.references.now c.args.text.now =
    printed-parts (said_by c.args.settings.now) c.args.references.now opts c.new-sink.result.output c.feed_text.new.tokenizer prints.front c.args.text.now c.in_ok-opts.ensures c.new-sink.ensures.output (c.in_ok-feed_text.ensures.rules ∙ c.new-tokenizer.ensures.rules)
    (prints.reads (start_of opts) c.new-sink.result.output [] c.new-tokenizer.ensures.stands) in
    on_err_weaker c.print_end.result
    (λ begun. AppendsBeginning-after _ _ _ _ prints.front lines [] (sym parts ∙ sym (append-nil (prints.front ++ lines))) prints.written begun)
    c.print_end.ensures.err
