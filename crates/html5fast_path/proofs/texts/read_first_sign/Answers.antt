use Rattle.std.proofs.Common.{sym, ap, refl}
use Rattle.html5partial.specs.CurrentTag.{opened_of}
use Rattle.html5fast_path.proofs.Beginnings.{front-nothing, front-one}
use Rattle.html5fast_path.proofs.texts.read_first_sign.Goals as goal

pub returns-in_default-clause-reads : goal.returns-in_default-clause-reads
returns-in_default-clause-reads g c = front-nothing _ _ _ c.utf8.text refl

pub returns-then-not-read_sign-clause-reads : goal.returns-then-not-read_sign-clause-reads
returns-then-not-read_sign-clause-reads g c = front-nothing _ _ _ c.utf8.text (ap opened_of (sym (c.read_sign.ensures.unchanged c.if-not-read_sign.true)))

pub returns-clause-reads : goal.returns-clause-reads
returns-clause-reads g c = front-one _ _ _ _ c.in-Some.ensures (c.read_sign.ensures.quiet c.if-not-read_sign.false)
