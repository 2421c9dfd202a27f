use Rattle.std.specs.Prelude.{◌++◌}
use Rattle.std.specs.Str.{chars}
use Rattle.std.specs.String.{string_bytes}
use Rattle.html5ever_interface.specs.Collected.{Collecting, none_collected, collected_step, collected_finish}
use Rattle.html5ever_interface.specs.Options.{options_of}
use Rattle.html5ever_interface.specs.Sink.{stepped}
use Rattle.html5ever.specs.Collecting.{ComposedOf, collected_of}
use Rattle.html5ever.proofs.ByItems.{holds-each, collected-items}
use Rattle.html5ever.proofs.tokenizer.laws.items.Goals as goal

pub returns-clause-items : goal.returns-clause-items
returns-clause-items g c =
    holds-each c.collect.result (λ (sink : Collecting). sink.collected) (collected_of (options_of c.args.opts) c.args.references.now c.args.foreign (chars (string_bytes c.args.text)))
    (λ (one : ComposedOf (options_of c.args.opts) c.args.references.now c.args.foreign (chars (string_bytes c.args.text))). collected_finish (stepped collected_step (none_collected c.args.foreign) (one.tells ++ one.ends)))
    c.collect.ensures.reads.holds
    (λ one. collected-items (options_of c.args.opts) c.args.references.now c.args.foreign (chars (string_bytes c.args.text)) c.table_laws.ensures one)
