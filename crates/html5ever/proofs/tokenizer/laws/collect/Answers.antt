use Rattle.std.specs.Str.{chars}
use Rattle.std.specs.String.{string_bytes}
use Rattle.html5ever_interface.specs.Options.{options_of}
use Rattle.html5reading.specs.Reading.{all_messages}
use Rattle.html5reading.specs.Start.{start_of}
use Rattle.html5ever.specs.Collecting.{collector_means}
use Rattle.html5ever.specs.Tokenizer.{rules_of}
use Rattle.html5ever.proofs.Wholes.{whole-refusal}
use Rattle.html5ever.proofs.tokenizer.laws.collect.Goals as goal

pub returns-in-Err : goal.returns-in-Err
returns-in-Err g c =
    let stops = rw c.in-Err.is at c.read_whole-sink.ensures.stops in
    let refusal = whole-refusal collector_means c.in-Err.error c.new-sink.result.collected
    (all_messages collector_means (rules_of (options_of c.args.opts) c.args.references.now) (start_of (options_of c.args.opts)) c.new-sink.result.collected (chars (string_bytes c.args.text)))
    c.read_whole-sink.result.0.collected stops in
    record { reads = record { holds = tt; no_fault = tt; refusal = refusal } }
