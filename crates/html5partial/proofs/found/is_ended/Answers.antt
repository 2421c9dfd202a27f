use Rattle.std.proofs.Common.{◌-◌, take, length, arith}
use Rattle.std.proofs.lemmas.Str.Pattern.{ends_char}
use Rattle.html5partial.proofs.EndedNames.{is_ended-from_end}
use Rattle.html5partial.proofs.found.is_ended.Goals as goal

pub returns : goal.returns
returns c =
    let name = c.args.name.now in
    is_ended-from_end name (take (length name - 1) name) c.ends_with.result (ends_char 59 name c.ends_with.result c.ends_with.ensures.cases (omega arith))
