use Rattle.std.proofs.lemmas.Result.{on_ok_weaker, IfErr-weaker}
use Rattle.html5stream.proofs.Streaming.{ReadsSource-start, StopsSource-start, TellsGiven-start, GivesNoText-stop, GivesNoFault-read}
use Rattle.html5stream.proofs.source.read_source.Goals as goal
use Rattle.html5stream.proofs.ByItems.{source-items}

pub returns-clause-finishes : goal.returns-clause-finishes
returns-clause-finishes g c =
    rw c.into_sink.ensures
    (on_ok_weaker c.read_all-result.result
    (λ read. ReadsSource-start g.S.TokenSink.means
    _ _ _ _ c.new-tokenizer.result _ _ c.new-tokenizer.ensures.stands c.new-tokenizer.ensures.rules read)
    c.read_all-result.ensures.finishes)

pub returns-clause-items : goal.returns-clause-items
returns-clause-items g c = on_ok_weaker c.read_all-result.result (source-items g.S.TokenSink.means _ _ _ _ _ _ c.table_laws.ensures) (returns-clause-finishes g c)

pub returns-clause-decided : goal.returns-clause-decided
returns-clause-decided g c =
    rw c.into_sink.ensures
    (TellsGiven-start g.S.TokenSink.means
    c.read_all-result.result _ _ _ _ c.new-tokenizer.result _ _ c.new-tokenizer.ensures.stands c.new-tokenizer.ensures.rules c.read_all-result.ensures.stops)

pub returns-clause-not_utf8 : goal.returns-clause-not_utf8
returns-clause-not_utf8 g c = λ place is.
    GivesNoText-stop g.S.TokenSink.means
    c.read_all-result.result _ _ c.new-tokenizer.result _ place c.read_all-result.ensures.stops is

pub returns-clause-beginning : goal.returns-clause-beginning
returns-clause-beginning g c =
    rw c.into_sink.ensures
    (IfErr-weaker c.read_all-result.result _ _
    (StopsSource-start g.S.TokenSink.means
    _ _ _ _ c.new-tokenizer.result _ _ c.new-tokenizer.ensures.stands c.new-tokenizer.ensures.rules)
    c.read_all-result.ensures.stops)

pub returns-clause-no_fault : goal.returns-clause-no_fault
returns-clause-no_fault g c =
    GivesNoFault-read g.S.TokenSink.means
    c.read_all-result.result _ _ c.new-tokenizer.result _ c.read_all-result.ensures.finishes c.read_all-result.ensures.stops
