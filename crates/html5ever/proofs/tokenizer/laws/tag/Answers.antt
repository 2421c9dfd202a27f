use Rattle.html5ever.specs.Collecting.{collected_of}
use Rattle.html5ever.specs.Tokenizer.{rules_of}
use Rattle.std.proofs.Common.{true}
use Rattle.std.specs.Str.{chars}
use Rattle.std.specs.String.{string_bytes}
use Rattle.html5ever_interface.specs.Collected.{Collecting}
use Rattle.html5ever_interface.specs.Options.{options_of}
use Rattle.html5reading.specs.Start.{start_of}
use Rattle.html5grammar.specs.Tag.{IsTag, tag_messages}
use Rattle.html5grammar.proofs.Tag.Collected.{collects-tag}
use Rattle.html5ever.proofs.Wholes.{holds-one}
use Rattle.html5ever.proofs.tokenizer.laws.tag.Goals as goal

pub returns-clause-tag : goal.returns-clause-tag
returns-clause-tag g c =
    holds-one c.collect.result (λ tag. IsTag (start_of (options_of c.args.opts)) (chars (string_bytes c.args.text)) tag)
    (λ (sink : Collecting). sink.collected) (collected_of (options_of c.args.opts) c.args.references.now c.args.foreign (chars (string_bytes c.args.text)))
    (λ tag. record { messages = tag_messages (rules_of (options_of c.args.opts) c.args.references.now) (start_of (options_of c.args.opts)).input tag; finished = true; foreign = c.args.foreign })
    c.collect.ensures.reads.holds
    (λ tag one. collects-tag (Unit {0}) (rules_of (options_of c.args.opts) c.args.references.now) (start_of (options_of c.args.opts)) c.args.foreign (chars (string_bytes c.args.text)) tag c.table_laws.ensures one)
