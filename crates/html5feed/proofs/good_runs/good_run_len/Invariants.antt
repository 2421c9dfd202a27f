use Rattle.html5fast_path.proofs.AsciiFronts.{IsAsciiFront}
use Rattle.html5feed.proofs.GoodFronts.{IsGood}
use Rattle.html5feed.proofs.good_runs.good_run_len.Given as goal

abbrev pub invariant-loop-at : goal.invariant-loop-at
invariant-loop-at l = IsAsciiFront (IsGood l.ends) l.bytes l.at
