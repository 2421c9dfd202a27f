use Rattle.std.proofs.Common.{true, sym, subst}
use Rattle.html5grammar.specs.Anywhere.{TellsBefore, TellsByItself, start_beyond, messages_within}
use Rattle.html5grammar.specs.Reference.WrittenReference.{Number}
use Rattle.html5grammar.proofs.Reference.Anywhere.{reference-before_all}
use Rattle.html5grammar.proofs.Reference.Within.{number-by_itself, reference-before}
use Rattle.html5grammar.proofs.anywhere.reference.Goals as goal

pub returns-clause-number : goal.returns-clause-number
returns-clause-number g c = λ rules K s Y x digits one.
    subst (λ opened. TellsByItself g.S.TokenSink.means rules K s Y (messages_within rules.exact K.input (Number x digits true)) (start_beyond K Y opened K.last_start_tag))
    (sym one.starts) (number-by_itself g.S.TokenSink.means rules K s Y x digits one)

pub returns-clause-decided : goal.returns-clause-decided
returns-clause-decided g c = λ rules K s Y Z reference c rest table one next decides.
    subst (λ opened. TellsBefore g.S.TokenSink.means rules Z K s Y (messages_within rules.exact K.input reference) (start_beyond K Y opened K.last_start_tag))
    (sym one.starts) (reference-before g.S.TokenSink.means rules Z K s Y reference c rest table one next decides)

pub returns-clause-whole : goal.returns-clause-whole
returns-clause-whole g c = λ rules K s Y Z mode F table one.
    reference-before_all g.S.TokenSink.means rules Z K s Y mode F table one
