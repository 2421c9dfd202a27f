use Rattle.html5partial.specs.CurrentTag.{opened_of}
use Rattle.html5fast_path.proofs.Beginnings.{front-same}
use Rattle.html5fast_path.proofs.texts.read_but_value.Goals as goal

pub returns-in-0-clause-reads : goal.returns-in-0-clause-reads
returns-in-0-clause-reads g c =
    let same = front-same c.args.text.now (opened_of c.args.at.now) (opened_of c.read_signs_and_name.new.at) (rw c.in-0.is at c.in_ok-bytes.ensures.reads) in
    rw same c.read_run_or_character.ensures.reads
