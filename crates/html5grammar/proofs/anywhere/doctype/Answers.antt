use Rattle.html5grammar.specs.Doctype as one_doctype
use Rattle.html5reading.specs.Start.Mode.{Data}
use Rattle.html5reading.specs.Start.Open.{Between}
use Rattle.html5grammar.proofs.ByItself.{trace-by_itself}
use Rattle.html5grammar.proofs.Doctype.Reading.{reads_doctype}
use Rattle.html5grammar.proofs.anywhere.doctype.Goals as goal

pub returns : goal.returns
returns g c = λ rules K s Y doctype one.
    trace-by_itself g.S.TokenSink.means rules K s Y (one_doctype.messages_of rules.exact K.input doctype.word doctype.space doctype.content) (Between Data) K.last_start_tag
    (reads_doctype g.S.TokenSink.means.step g.S.TokenSink.means.reply g.S.TokenSink.means.foreign rules K s Y doctype one)
