use Rattle.std.proofs.Common.{All, take}
use Rattle.html5ever_interface.proofs.AttributeCounts.{IsAsOften}
use Rattle.html5ever_interface.proofs.interface.token.is_permutation.Given as goal

abbrev pub invariant-loop-attribute : goal.invariant-loop-attribute
invariant-loop-attribute g l =
    All (IsAsOften l.attrs l.others) (take l.attribute-index l.attrs)
