use Rattle.std.proofs.Common.{List, ap, ◌∙◌}
use Rattle.std.specs.Str.{chars}
use Rattle.std.specs.String.{string_bytes}
use Rattle.std.proofs.lemmas.Result.{IfOk-weaker}
use Rattle.html5ever_interface.specs.Collected.{Collecting, none_collected, collected_step, collected_reply, collected_foreign, collected_finish}
use Rattle.html5ever_interface.specs.Options.{options_of}
use Rattle.html5ever_interface.specs.Sink.{Message, stepped}
use Rattle.html5reading.specs.Start.{start_of}
use Rattle.html5grammar.proofs.Cdata.Reading.{reading-cdata}
use Rattle.html5ever.specs.Tokenizer.{rules_of}
use Rattle.html5ever.proofs.tokenizer.laws.cdata.Goals as goal

pub returns-clause-cdata : goal.returns-clause-cdata
returns-clause-cdata g c =
    IfOk-weaker c.collect.result _ _
    (λ (sink : Collecting) is cdata one.
    is
    ∙ ap (λ (M : List Message). collected_finish (stepped collected_step (none_collected c.args.foreign) M))
    (reading-cdata collected_step (collected_reply {H = Unit {0}}) collected_foreign (rules_of (options_of c.args.opts) c.args.references.now) (start_of (options_of c.args.opts)) (none_collected c.args.foreign) (chars (string_bytes c.args.text)) cdata one))
    c.collect.ensures.reads.holds
