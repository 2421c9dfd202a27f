use Rattle.html5ever.specs.Collecting.{collected_of}
use Rattle.html5ever.specs.Tokenizer.{rules_of}
use Rattle.std.proofs.Common.{true}
use Rattle.std.specs.Str.{chars}
use Rattle.std.specs.String.{string_bytes}
use Rattle.html5ever_interface.specs.Collected.{Collecting}
use Rattle.html5ever_interface.specs.Options.{options_of}
use Rattle.html5reading.specs.Start.{start_of}
use Rattle.html5grammar.specs.Reference.{IsReference, reference_messages}
use Rattle.html5grammar.proofs.Reference.Collected.{collects-reference}
use Rattle.html5ever.proofs.Wholes.{holds-one}
use Rattle.html5ever.proofs.tokenizer.laws.reference.Goals as goal

pub returns-clause-reference : goal.returns-clause-reference
returns-clause-reference g c =
    holds-one c.collect.result (λ reference. IsReference c.args.references.now (start_of (options_of c.args.opts)) (chars (string_bytes c.args.text)) reference)
    (λ (sink : Collecting). sink.collected) (collected_of (options_of c.args.opts) c.args.references.now c.args.foreign (chars (string_bytes c.args.text)))
    (λ reference. record { messages = reference_messages c.args.opts.exact_errors (start_of (options_of c.args.opts)).input reference; finished = true; foreign = c.args.foreign })
    c.collect.ensures.reads.holds
    (λ reference one. collects-reference (Unit {0}) (rules_of (options_of c.args.opts) c.args.references.now) (start_of (options_of c.args.opts)) c.args.foreign (chars (string_bytes c.args.text)) reference c.table_laws.ensures one)
