use Rattle.std.specs.Prelude.{List, []}
use Rattle.std.proofs.Common.{refl}
use Rattle.html5ever_interface.specs.Sink.{Message}
use Rattle.html5grammar.specs.Anywhere.{last_reply}
use Rattle.html5grammar.specs.Tag.{tag_told}
use Rattle.html5grammar.specs.Spelled.{spelled_messages}
use Rattle.html5reading.specs.Reading.{after, last_after, open_after_reply}
use Rattle.html5grammar.specs.RawText.{spell_raw}
use Rattle.html5grammar.proofs.ByItself.{tells-by_itself, trace-by_itself}
use Rattle.html5grammar.proofs.RawText.Reading.{reads_raw_reply, told-raw_open}
use Rattle.html5grammar.proofs.anywhere.raw.Goals as goal

pub returns-clause-ended : goal.returns-clause-ended
returns-clause-ended g c = λ rules K s Y raw name written_as tag e table one.
    let M : List Message = spelled_messages rules.exact K.input [] (spell_raw rules raw written_as) in
    trace-by_itself g.S.TokenSink.means rules K s Y M
    (open_after_reply (last_after K.last_start_tag (tag_told rules tag)) (last_reply g.S.TokenSink.means.step g.S.TokenSink.means.reply s M)) (last_after K.last_start_tag (tag_told rules tag))
    (reads_raw_reply g.S.TokenSink.means rules K s Y raw name written_as tag e table one)

pub returns-clause-open : goal.returns-clause-open
returns-clause-open g c = λ rules K s Y raw name written_as e one.
    tells-by_itself g.S.TokenSink.means rules K s Y (spelled_messages rules.exact K.input [] (spell_raw rules raw written_as))
    (after g.S.TokenSink.means.step g.S.TokenSink.means.reply g.S.TokenSink.means.foreign rules K s Y)
    (told-raw_open g.S.TokenSink.means rules K s Y raw name written_as e one) refl
