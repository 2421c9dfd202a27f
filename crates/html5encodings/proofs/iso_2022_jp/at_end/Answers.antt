use Rattle.std.proofs.Common.{refl}
use Rattle.std.specs.Char.{encode_utf8}
use Rattle.html5encodings.proofs.iso_2022_jp.at_end.Goals as goal

pub returns-in-Lead : goal.returns-in-Lead
unfolding encode_utf8
returns-in-Lead c = rw c.in-Lead.is refl

pub returns-in-Escape : goal.returns-in-Escape
unfolding encode_utf8
returns-in-Escape c = rw c.in-Escape.is refl
