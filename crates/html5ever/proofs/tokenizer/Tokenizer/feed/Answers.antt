use Rattle.std.proofs.Common.{refl, string_bytes}
use Rattle.html5ever.proofs.Standing.{Feeds-read, StopsFeeding-read, left-done, left-shorter}
use Rattle.html5ever.proofs.ByItems.{answered-items}
use Rattle.html5ever.proofs.tokenizer.Tokenizer.feed.Goals as goal

pub returns-clause-reads : goal.returns-clause-reads
returns-clause-reads g c =
    rw (← c.self.view_is)
    (Feeds-read g.Sink.TokenSink.means string_bytes c.read_queue-result.result _ _ c.args.queue.now.text _ refl c.is_err-self-inside.ensures.value refl
    c.read_queue-result.ensures.tells c.read_queue-result.ensures.moves c.read_queue-result.ensures.answer c.read_queue-result.ensures.left)

pub returns-clause-items : goal.returns-clause-items
returns-clause-items g c =
    rw (← c.self.view_is)
    (answered-items g.Sink.TokenSink.means g.met.Sink.TokenSink.keeps_on c.read_queue-result.result _ _ _ _ _ c.table_laws.ensures refl
    (Feeds-read g.Sink.TokenSink.means string_bytes c.read_queue-result.result _ _ c.args.queue.now.text _ refl c.is_err-self-inside.ensures.value refl
    c.read_queue-result.ensures.tells c.read_queue-result.ensures.moves c.read_queue-result.ensures.answer c.read_queue-result.ensures.left))

pub returns-clause-done : goal.returns-clause-done
returns-clause-done g c =
    left-done g.Sink.TokenSink.means string_bytes _ _ _ c.args.queue.now.text _ c.read_queue-result.result c.read_queue-result.ensures.answer c.read_queue-result.ensures.left

pub returns-clause-shorter : goal.returns-clause-shorter
returns-clause-shorter g c =
    left-shorter g.Sink.TokenSink.means string_bytes _ _ _ c.args.queue.now.text _ c.read_queue-result.result c.read_queue-result.ensures.answer c.read_queue-result.ensures.left

pub returns-clause-stops : goal.returns-clause-stops
returns-clause-stops g c =
    rw (← c.self.view_is)
    (StopsFeeding-read g.Sink.TokenSink.means c.read_queue-result.result _ c.args.queue.now.text _ _ c.read_queue-result.ensures.tells c.read_queue-result.ensures.refused)
