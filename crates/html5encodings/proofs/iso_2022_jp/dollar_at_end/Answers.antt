use Rattle.std.proofs.Common.{refl}
use Rattle.std.specs.Char.{encode_utf8}
use Rattle.html5encodings.proofs.iso_2022_jp.dollar_at_end.Goals as goal

pub returns-in-Ascii : goal.returns-in-Ascii
unfolding encode_utf8
returns-in-Ascii c = rw c.in-Ascii.is refl

pub returns-in-Roman : goal.returns-in-Roman
unfolding encode_utf8
returns-in-Roman c = rw c.in-Roman.is refl

pub returns-in-Katakana : goal.returns-in-Katakana
unfolding encode_utf8
returns-in-Katakana c = rw c.in-Katakana.is refl

pub returns-in-Jis0208 : goal.returns-in-Jis0208
unfolding encode_utf8
returns-in-Jis0208 c = rw c.in-Jis0208.is refl
