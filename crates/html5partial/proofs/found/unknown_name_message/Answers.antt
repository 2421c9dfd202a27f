use Rattle.std.proofs.lemmas.Str.{encodes-IsAscii}
use Rattle.html5partial.proofs.found.unknown_name_message.Goals as goal

pub returns : goal.returns
unfolding Rattle.html5reading.specs.Reference.unknown_name
returns g c =
    rw (c.if-not-exact_errors.false, encodes-IsAscii c.args.held.now c.requires) c.in_ok-text.ensures.ok
