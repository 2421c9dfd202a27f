use Rattle.html5grammar.specs.Comment as one_comment
use Rattle.html5reading.specs.Start.Mode.{Data}
use Rattle.html5reading.specs.Start.Open.{Between}
use Rattle.html5grammar.proofs.ByItself.{trace-by_itself}
use Rattle.html5grammar.proofs.Comment.Reading.{reads_comment}
use Rattle.html5grammar.proofs.anywhere.comment.Goals as goal

pub returns : goal.returns
returns g c = λ rules K s Y comment one.
    trace-by_itself g.S.TokenSink.means rules K s Y (one_comment.messages_of rules.exact K.input comment) (Between Data) K.last_start_tag
    (reads_comment g.S.TokenSink.means.step g.S.TokenSink.means.reply g.S.TokenSink.means.foreign rules K s Y comment one)
