use Rattle.std.proofs.Common.{sym, arith}
use Rattle.std.proofs.lemmas.Str.Pattern.{strip_prefix_char}
use Rattle.html5partial.proofs.Held.{number-held}
use Rattle.html5partial.proofs.char_ref.CharRef.number.Goals as goal

pub returns : goal.returns
returns g c =
    rw (sym c.self.view_is)
    (number-held _ c.deref.result.now c.self.inside.is_alphanumeric c.strip_prefix.result c.deref.ensures c.self.invariant (strip_prefix_char 35 c.deref.result.now c.strip_prefix.result c.strip_prefix.ensures.cases (omega arith)))
