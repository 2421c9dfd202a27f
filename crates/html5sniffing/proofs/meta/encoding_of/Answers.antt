use Rattle.std.proofs.Common.{refl}
use Rattle.html5encodings.specs.Encodings.{encoding_of}
use Rattle.html5sniffing.proofs.AsciiLabels.{encoding_of-not_text}
use Rattle.html5sniffing.proofs.meta.encoding_of.Goals as goal

pub returns-in-Err : goal.returns-in-Err
returns-in-Err c = encoding_of-not_text c.args.label.now c.in-Err.ensures.cases.0 (encoding_of c.args.label.now) refl
