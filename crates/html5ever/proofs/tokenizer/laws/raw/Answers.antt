use Rattle.std.proofs.Common.{List, ap, ◌∙◌, refl}
use Rattle.std.specs.Str.{chars}
use Rattle.std.specs.String.{string_bytes}
use Rattle.std.proofs.lemmas.Result.{IfOk-weaker}
use Rattle.html5ever_interface.specs.Collected.{Collecting, none_collected, collected_step, collected_finish}
use Rattle.html5ever_interface.specs.Options.{options_of}
use Rattle.html5ever_interface.specs.Sink.{Message, stepped}
use Rattle.html5reading.specs.Start.{start_of}
use Rattle.html5grammar.proofs.RawText.Reading.{reading-raw}
use Rattle.html5grammar.proofs.Soundness.{reading-run}
use Rattle.html5ever.specs.Collecting.{collector_means}
use Rattle.html5ever.specs.Tokenizer.{rules_of}
use Rattle.html5ever.proofs.tokenizer.laws.raw.Goals as goal

pub returns-clause-raw : goal.returns-clause-raw
returns-clause-raw g c =
    IfOk-weaker c.collect.result _ _
    (λ (sink : Collecting) is raw name written one.
    is
    ∙ ap (λ (M : List Message). collected_finish (stepped collected_step (none_collected c.args.foreign) M))
    (reading-raw collector_means (rules_of (options_of c.args.opts) c.args.references.now) (start_of (options_of c.args.opts)) (none_collected c.args.foreign) (chars (string_bytes c.args.text)) raw name written c.table_laws.ensures
    (λ tag t line e. refl) one))
    c.collect.ensures.reads.holds

pub returns-clause-text : goal.returns-clause-text
returns-clause-text g c =
    IfOk-weaker c.collect.result _ _
    (λ (sink : Collecting) is mode run one.
    is
    ∙ ap (λ (M : List Message). collected_finish (stepped collected_step (none_collected c.args.foreign) M))
    (reading-run collector_means (rules_of (options_of c.args.opts) c.args.references.now) (start_of (options_of c.args.opts)) (none_collected c.args.foreign) (chars (string_bytes c.args.text)) mode run one))
    c.collect.ensures.reads.holds
