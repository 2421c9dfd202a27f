use Rattle.std.proofs.Common.{string_bytes}
use Rattle.std.proofs.lemmas.Str.{IsUtf8-string_bytes}
use Rattle.html5partial.proofs.HeldLetters.{chars-pushed}
use Rattle.html5partial.proofs.letters.push_letter.Goals as goal

pub returns : goal.returns
returns g c =
    chars-pushed c.push.result (string_bytes c.args.letters.now) (string_bytes c.push.new.self) c.args.c
    (IsUtf8-string_bytes c.args.letters.now) c.ranges.c.0 c.push.ensures.bytes
