use Rattle.html5ever.proofs.ByItems.{holds-unfinished}
use Rattle.html5grammar.specs.Items.Unfinished.{OpenDoctype}
use Rattle.std.proofs.Common.{true}
use Rattle.std.specs.Str.{chars}
use Rattle.std.specs.String.{string_bytes}
use Rattle.html5ever_interface.specs.Collected.{Collecting}
use Rattle.html5ever_interface.specs.Options.{options_of}
use Rattle.html5grammar.proofs.Doctype.Collected.{collects-doctype}
use Rattle.html5grammar.specs.Doctype.{IsDoctype, doctype_messages}
use Rattle.html5reading.specs.Start.{start_of}
use Rattle.html5ever.specs.Collecting.{collected_of}
use Rattle.html5ever.specs.Tokenizer.{rules_of}
use Rattle.html5ever.proofs.Wholes.{holds-one}
use Rattle.html5ever.proofs.tokenizer.laws.doctype.Goals as goal

pub returns-clause-doctype : goal.returns-clause-doctype
returns-clause-doctype g c =
    holds-one c.collect.result (λ doctype. IsDoctype (start_of (options_of c.args.opts)) (chars (string_bytes c.args.text)) doctype)
    (λ (sink : Collecting). sink.collected) (collected_of (options_of c.args.opts) c.args.references.now c.args.foreign (chars (string_bytes c.args.text)))
    (λ doctype. record { messages = doctype_messages c.args.opts.exact_errors (start_of (options_of c.args.opts)).input doctype; finished = true; foreign = c.args.foreign })
    c.collect.ensures.reads.holds
    (λ doctype one. collects-doctype (Unit {0}) (rules_of (options_of c.args.opts) c.args.references.now) (start_of (options_of c.args.opts)) c.args.foreign (chars (string_bytes c.args.text)) doctype one)

pub returns-clause-open : goal.returns-clause-open
returns-clause-open g c =
    holds-unfinished c.collect.result (options_of c.args.opts) c.args.references.now c.args.foreign (chars (string_bytes c.args.text)) _ _ _ c.table_laws.ensures c.collect.ensures.reads.holds OpenDoctype
