use Rattle.std.proofs.Common.{refl}
use Rattle.std.specs.Char.{encode_utf8}
use Rattle.html5encodings.proofs.steps.error_if.Goals as goal

pub returns-then-begun : goal.returns-then-begun
unfolding encode_utf8
returns-then-begun c = rw c.if-begun.true refl

pub returns-else-begun : goal.returns-else-begun
returns-else-begun c = rw c.if-begun.false refl
