use Rattle.std.proofs.lemmas.Str.Ascii.{trim_ascii_start_is}
use Rattle.html5sniffing.proofs.meta.trimmed.Goals as goal

pub returns : goal.returns
returns c = trim_ascii_start_is c.args.bytes.now c.trim_ascii_start.result.now c.trim_ascii_start.ensures.value
