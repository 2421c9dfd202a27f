use Rattle.html5grammar.specs.Cdata.{opening_text, spell_cdata, open_after_cdata}
use Rattle.html5grammar.specs.Spelled.{spelled_messages}
use Rattle.html5grammar.proofs.ByItself.{trace-by_itself}
use Rattle.html5grammar.proofs.Cdata.Reading.{reads}
use Rattle.html5grammar.proofs.anywhere.cdata.Goals as goal

pub returns : goal.returns
returns g c = λ rules K s Y cdata one.
    trace-by_itself g.S.TokenSink.means rules K s Y (spelled_messages rules.exact K.input (opening_text cdata.has_opening) (spell_cdata cdata)) (open_after_cdata cdata) K.last_start_tag
    (reads g.S.TokenSink.means.step g.S.TokenSink.means.reply g.S.TokenSink.means.foreign rules K s Y cdata one)
