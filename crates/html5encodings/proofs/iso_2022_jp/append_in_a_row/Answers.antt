use Rattle.std.proofs.lemmas.Result.{on_ok_weaker}
use Rattle.html5encodings.proofs.Adding.{Adds-append}
use Rattle.html5encodings.proofs.iso_2022_jp.append_in_a_row.Goals as goal

pub returns-clause-text : goal.returns-clause-text
returns-clause-text g c =
    on_ok_weaker c.append_alone.result (Adds-append c.args.text.now c.append_shown.new.text c.append_alone.new.text _ _ c.in_ok-append_shown.ensures.text)
    c.append_alone.ensures.text
