use Rattle.std.proofs.Common.{arith}
use Rattle.std.proofs.lemmas.Str.Pattern.{ends_char}
use Rattle.html5feed.proofs.undecided.is_ended_name.Goals as goal

pub returns-in-None : goal.returns-in-None
returns-in-None g c = λ whole.
    let held = c.text.result.now in
    record {
      no_number = c.in-None.ensures;
      ends = rw (← c.text.ensures.text) ((ends_char 59 held c.ends_with.result c.ends_with.ensures.cases (omega arith)).0 whole);
    }
