use Rattle.html5fast_path.proofs.AsciiFronts.{IsAsciiFront}
use Rattle.html5fast_path.proofs.PlainFronts.{IsPlain}
use Rattle.html5fast_path.proofs.names.plain_len.Given as goal

abbrev pub invariant-loop-at : goal.invariant-loop-at
invariant-loop-at l = IsAsciiFront (IsPlain l.ends) l.bytes l.at
