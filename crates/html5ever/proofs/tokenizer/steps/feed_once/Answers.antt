use Rattle.html5ever.proofs.tokenizer.steps.feed_once.Goals.{in-Ok, in-Err}
use Rattle.html5ever.proofs.tokenizer.steps.feed_once.Goals as goal

pub returns-clause-reads : goal.returns-clause-reads
returns-clause-reads g c =
    elim c.match-feed.branch [
      | in-Ok w ↦ rw w.result-is (_, w.in-Ok.ensures.reads)
      | in-Err w ↦ rw w.result-is tt
    ]
