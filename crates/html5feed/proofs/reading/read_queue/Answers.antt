-- The loop says where the stream stands after whatever text was taken. Each answer hands its lemma that text, which the tactic doesn't find.
use Rattle.std.proofs.Common.{◌≡◌, [], ◌∷◌, refl, ◌∙◌, sym, ap, arith, inl, length}
use Rattle.std.proofs.lemmas.Bool.{false≢true}
use Rattle.std.proofs.lemmas.Result.{err_from_is_err_and}
use Rattle.std.specs.String.{string_bytes}
use Rattle.html5feed.specs.Feed.{pauses}
use Rattle.html5feed.proofs.Pauses.{reply_in-pauses}
use Rattle.html5feed.proofs.QuietReading.{HasRead-quietly, refused-at_once, leaves-quietly}
use Rattle.html5feed.proofs.QueueReading.{nil-from_append, none_other, HasRead-none, HasRead-run, HasRead-more, HasRead-stops, HasRead-refused, HasRead-leaves, HasFed-all, HasFed-pause, character-taken, quiet-taken, end-after, count-after, not-empty, moved-after}
use Rattle.markup5ever.specs.BufferQueue.{TextQueue}
use Rattle.html5feed.proofs.reading.read_queue.Goals as goal

pub loop-queue-init : goal.loop-queue-init
loop-queue-init g c = (HasRead-none g.S.TokenSink.means c.args.rules.now c.args.position.now c.args.queue.now (g.S.TokenSink.means.state c.args.sink.now), refl, omega arith)

-- a run that is refused

pub returns-in_err-read_waiting_run-clause-tells : goal.returns-in_err-read_waiting_run-clause-tells
returns-in_err-read_waiting_run-clause-tells g c =
    let run = c.in_err-read_waiting_run.ensures.reads in
    let p = err_from_is_err_and c.from_residual.result c.from_residual.ensures.1 in
    rw (p.1, p.2) (HasRead-stops g.S.TokenSink.means c.args.rules.now _ _ _ _ _ _ _ _ _ run.run c.loop-queue.invariant.0 run.takes
    (quiet-taken g.S.TokenSink.means c.args.rules.now _ _ run.run _ run.quiet) c.in_err-read_waiting_run.ensures.refusal run.tells)

pub returns-in_err-read_waiting_run-clause-refused : goal.returns-in_err-read_waiting_run-clause-refused
returns-in_err-read_waiting_run-clause-refused g c =
    let run = c.in_err-read_waiting_run.ensures.reads in
    let p = err_from_is_err_and c.from_residual.result c.from_residual.ensures.1 in
    rw (p.1, p.2) (HasRead-leaves g.S.TokenSink.means c.args.rules.now _ _ _ _ _ _ _ _ _ run.run c.loop-queue.invariant.0 run.takes run.is_item run.tells)

pub returns-in_err-read_waiting_run-clause-end_of_queue : goal.returns-in_err-read_waiting_run-clause-end_of_queue
returns-in_err-read_waiting_run-clause-end_of_queue g c =
    let run = c.in_err-read_waiting_run.ensures.reads in
    end-after g.S.TokenSink.means c.args.rules.now _ _ _ _ _ _ _ run.run c.loop-queue.invariant.0 run.takes

pub returns-in_err-read_waiting_run-clause-empty : goal.returns-in_err-read_waiting_run-clause-empty
returns-in_err-read_waiting_run-clause-empty g c = λ nothing.
    let waits : c.loop-queue.queue.text ≡ [] = (nil-from_append c.loop-queue.invariant.0.front _ (sym c.loop-queue.invariant.0.takes.text ∙ nothing)).1 in
    let read = c.read_waiting_run.ensures.empty waits in
    absurd (false≢true (rw c.in_err-read_waiting_run.was at read))

-- a character that tells nothing, for which memory is refused

pub returns-in_err-read_waiting_quietly-clause-tells : goal.returns-in_err-read_waiting_quietly-clause-tells
returns-in_err-read_waiting_quietly-clause-tells g c =
    let p = err_from_is_err_and c.from_residual-in_err-read_waiting_quietly.result c.from_residual-in_err-read_waiting_quietly.ensures.1 in
    let memory = c.in_err-read_waiting_quietly.ensures.memory in
    rw (p.1, p.2, memory) (refused-at_once g.S.TokenSink.means c.args.rules.now _ _ _ _ _ _ (HasRead-run g.S.TokenSink.means c.args.rules.now _ _ _ _ _ _ _ _ _ c.loop-queue.invariant.0 c.in_ok-read_waiting_run.ensures.reads))

pub returns-in_err-read_waiting_quietly-clause-refused : goal.returns-in_err-read_waiting_quietly-clause-refused
returns-in_err-read_waiting_quietly-clause-refused g c =
    let p = err_from_is_err_and c.from_residual-in_err-read_waiting_quietly.result c.from_residual-in_err-read_waiting_quietly.ensures.1 in
    let memory = c.in_err-read_waiting_quietly.ensures.memory in
    rw (p.1, p.2, memory) (leaves-quietly g.S.TokenSink.means c.args.rules.now _ _ _ _ _ _ _ _ (HasRead-run g.S.TokenSink.means c.args.rules.now _ _ _ _ _ _ _ _ _ c.loop-queue.invariant.0 c.in_ok-read_waiting_run.ensures.reads) (rw memory at c.in_err-read_waiting_quietly.ensures.reads))

pub returns-in_err-read_waiting_quietly-clause-end_of_queue : goal.returns-in_err-read_waiting_quietly-clause-end_of_queue
returns-in_err-read_waiting_quietly-clause-end_of_queue g c =
    end-after g.S.TokenSink.means c.args.rules.now _ _ _ _ _ _ _ _ (HasRead-run g.S.TokenSink.means c.args.rules.now _ _ _ _ _ _ _ _ _ c.loop-queue.invariant.0 c.in_ok-read_waiting_run.ensures.reads) c.in_err-read_waiting_quietly.ensures.reads.takes

pub returns-in_err-read_waiting_quietly-clause-empty : goal.returns-in_err-read_waiting_quietly-clause-empty
returns-in_err-read_waiting_quietly-clause-empty g c = λ nothing.
    let read = HasRead-run g.S.TokenSink.means c.args.rules.now _ _ _ _ _ _ _ _ _ c.loop-queue.invariant.0 c.in_ok-read_waiting_run.ensures.reads in
    absurd (c.in_err-read_waiting_quietly.ensures.filled (nil-from_append read.front _ (sym read.takes.text ∙ nothing)).1)

-- the end of the queue's text after a run

pub returns-then-is_empty-clause-tells : goal.returns-then-is_empty-clause-tells
returns-then-is_empty-clause-tells g c =
    (HasFed-all g.S.TokenSink.means c.args.rules.now _ _ _ _ _ _ (HasRead-run g.S.TokenSink.means c.args.rules.now _ _ _ _ _ _ _ _ _ c.loop-queue.invariant.0 c.in_ok-read_waiting_run.ensures.reads) (c.is_empty.ensures.0 c.if-is_empty.true)).told_all

pub returns-then-is_empty-clause-moves : goal.returns-then-is_empty-clause-moves
returns-then-is_empty-clause-moves g c =
    (HasFed-all g.S.TokenSink.means c.args.rules.now _ _ _ _ _ _ (HasRead-run g.S.TokenSink.means c.args.rules.now _ _ _ _ _ _ _ _ _ c.loop-queue.invariant.0 c.in_ok-read_waiting_run.ensures.reads) (c.is_empty.ensures.0 c.if-is_empty.true)).position

pub returns-then-is_empty-clause-answer : goal.returns-then-is_empty-clause-answer
returns-then-is_empty-clause-answer g c =
    (HasFed-all g.S.TokenSink.means c.args.rules.now _ _ _ _ _ _ (HasRead-run g.S.TokenSink.means c.args.rules.now _ _ _ _ _ _ _ _ _ c.loop-queue.invariant.0 c.in_ok-read_waiting_run.ensures.reads) (c.is_empty.ensures.0 c.if-is_empty.true)).answers

pub returns-then-is_empty-clause-left : goal.returns-then-is_empty-clause-left
returns-then-is_empty-clause-left g c =
    (HasFed-all g.S.TokenSink.means c.args.rules.now _ _ _ _ _ _ (HasRead-run g.S.TokenSink.means c.args.rules.now _ _ _ _ _ _ _ _ _ c.loop-queue.invariant.0 c.in_ok-read_waiting_run.ensures.reads) (c.is_empty.ensures.0 c.if-is_empty.true)).left

pub returns-then-is_empty-clause-end_of_queue : goal.returns-then-is_empty-clause-end_of_queue
returns-then-is_empty-clause-end_of_queue g c =
    let read = HasRead-run g.S.TokenSink.means c.args.rules.now _ _ _ _ _ _ _ _ _ c.loop-queue.invariant.0 c.in_ok-read_waiting_run.ensures.reads in
    record { front = read.front; parts = read.takes.text }

-- the end of the queue's text after what tells nothing

pub returns-in_default-clause-tells : goal.returns-in_default-clause-tells
returns-in_default-clause-tells g c =
    (HasFed-all g.S.TokenSink.means c.args.rules.now _ _ _ _ _ _ (HasRead-quietly g.S.TokenSink.means c.args.rules.now _ _ _ _ _ _ _ _ (HasRead-run g.S.TokenSink.means c.args.rules.now _ _ _ _ _ _ _ _ _ c.loop-queue.invariant.0 c.in_ok-read_waiting_run.ensures.reads) c.in_ok-read_waiting_quietly.ensures.reads) (c.next.ensures.none.0 (none_other _ c.in_default.not-Some))).told_all

pub returns-in_default-clause-moves : goal.returns-in_default-clause-moves
returns-in_default-clause-moves g c =
    (HasFed-all g.S.TokenSink.means c.args.rules.now _ _ _ _ _ _ (HasRead-quietly g.S.TokenSink.means c.args.rules.now _ _ _ _ _ _ _ _ (HasRead-run g.S.TokenSink.means c.args.rules.now _ _ _ _ _ _ _ _ _ c.loop-queue.invariant.0 c.in_ok-read_waiting_run.ensures.reads) c.in_ok-read_waiting_quietly.ensures.reads) (c.next.ensures.none.0 (none_other _ c.in_default.not-Some))).position

pub returns-in_default-clause-answer : goal.returns-in_default-clause-answer
returns-in_default-clause-answer g c =
    (HasFed-all g.S.TokenSink.means c.args.rules.now _ _ _ _ _ _ (HasRead-quietly g.S.TokenSink.means c.args.rules.now _ _ _ _ _ _ _ _ (HasRead-run g.S.TokenSink.means c.args.rules.now _ _ _ _ _ _ _ _ _ c.loop-queue.invariant.0 c.in_ok-read_waiting_run.ensures.reads) c.in_ok-read_waiting_quietly.ensures.reads) (c.next.ensures.none.0 (none_other _ c.in_default.not-Some))).answers

pub returns-in_default-clause-left : goal.returns-in_default-clause-left
returns-in_default-clause-left g c =
    ap (λ (q : TextQueue). q.text) c.in_default.ensures.unchanged
    ∙ (HasFed-all g.S.TokenSink.means c.args.rules.now _ _ _ _ _ _ (HasRead-quietly g.S.TokenSink.means c.args.rules.now _ _ _ _ _ _ _ _ (HasRead-run g.S.TokenSink.means c.args.rules.now _ _ _ _ _ _ _ _ _ c.loop-queue.invariant.0 c.in_ok-read_waiting_run.ensures.reads) c.in_ok-read_waiting_quietly.ensures.reads) (c.next.ensures.none.0 (none_other _ c.in_default.not-Some))).left

pub returns-in_default-clause-end_of_queue : goal.returns-in_default-clause-end_of_queue
returns-in_default-clause-end_of_queue g c =
    let read = HasRead-quietly g.S.TokenSink.means c.args.rules.now _ _ _ _ _ _ _ _ (HasRead-run g.S.TokenSink.means c.args.rules.now _ _ _ _ _ _ _ _ _ c.loop-queue.invariant.0 c.in_ok-read_waiting_run.ensures.reads) c.in_ok-read_waiting_quietly.ensures.reads in
    rw c.in_default.ensures.unchanged (record { front = read.front; parts = read.takes.text })

-- a character that is refused

pub returns-in_err-pause-clause-tells : goal.returns-in_err-pause-clause-tells
returns-in_err-pause-clause-tells g c =
    let p = err_from_is_err_and c.from_residual-in_err-pause.result c.from_residual-in_err-pause.ensures.1 in
    rw (p.1, p.2) (HasRead-refused g.S.TokenSink.means c.args.rules.now _ _ _ _ _ _ _ _ _ (c.in-Some.c ∷ []) (HasRead-quietly g.S.TokenSink.means c.args.rules.now _ _ _ _ _ _ _ _ (HasRead-run g.S.TokenSink.means c.args.rules.now _ _ _ _ _ _ _ _ _ c.loop-queue.invariant.0 c.in_ok-read_waiting_run.ensures.reads) c.in_ok-read_waiting_quietly.ensures.reads) c.in-Some.ensures.some
    (character-taken g.S.TokenSink.means c.args.rules.now _ _ c.in-Some.c _) c.in_err-pause.ensures.tells)

pub returns-in_err-pause-clause-refused : goal.returns-in_err-pause-clause-refused
returns-in_err-pause-clause-refused g c =
    let p = err_from_is_err_and c.from_residual-in_err-pause.result c.from_residual-in_err-pause.ensures.1 in
    rw (p.1, p.2) (HasRead-leaves g.S.TokenSink.means c.args.rules.now _ _ _ _ _ _ _ _ _ (c.in-Some.c ∷ []) (HasRead-quietly g.S.TokenSink.means c.args.rules.now _ _ _ _ _ _ _ _ (HasRead-run g.S.TokenSink.means c.args.rules.now _ _ _ _ _ _ _ _ _ c.loop-queue.invariant.0 c.in_ok-read_waiting_run.ensures.reads) c.in_ok-read_waiting_quietly.ensures.reads) c.in-Some.ensures.some (inl (omega arith)) c.in_err-pause.ensures.tells)

pub returns-in_err-pause-clause-end_of_queue : goal.returns-in_err-pause-clause-end_of_queue
returns-in_err-pause-clause-end_of_queue g c = end-after g.S.TokenSink.means c.args.rules.now _ _ _ _ _ _ _ (c.in-Some.c ∷ []) (HasRead-quietly g.S.TokenSink.means c.args.rules.now _ _ _ _ _ _ _ _ (HasRead-run g.S.TokenSink.means c.args.rules.now _ _ _ _ _ _ _ _ _ c.loop-queue.invariant.0 c.in_ok-read_waiting_run.ensures.reads) c.in_ok-read_waiting_quietly.ensures.reads) c.in-Some.ensures.some

pub returns-in_err-pause-clause-empty : goal.returns-in_err-pause-clause-empty
returns-in_err-pause-clause-empty g c = λ nothing. absurd (not-empty g.S.TokenSink.means c.args.rules.now _ _ _ _ _ _ _ c.in-Some.c (HasRead-quietly g.S.TokenSink.means c.args.rules.now _ _ _ _ _ _ _ _ (HasRead-run g.S.TokenSink.means c.args.rules.now _ _ _ _ _ _ _ _ _ c.loop-queue.invariant.0 c.in_ok-read_waiting_run.ensures.reads) c.in_ok-read_waiting_quietly.ensures.reads) c.in-Some.ensures.some nothing)

-- a character that is read, and one after which the feed pauses

pub loop-queue-preserved : goal.loop-queue-preserved
loop-queue-preserved g c =
    let leads = c.in_ok-pause.ensures.leads in
    let quiet = rw c.in-Done.is at c.in_ok-pause.ensures.answer in (
      HasRead-more g.S.TokenSink.means c.args.rules.now _ _ _ _ _ _ _ _ _ (c.in-Some.c ∷ []) (HasRead-quietly g.S.TokenSink.means c.args.rules.now _ _ _ _ _ _ _ _ (HasRead-run g.S.TokenSink.means c.args.rules.now _ _ _ _ _ _ _ _ _ c.loop-queue.invariant.0 c.in_ok-read_waiting_run.ensures.reads) c.in_ok-read_waiting_quietly.ensures.reads) c.in-Some.ensures.some c.in_ok-pause.ensures.tells
          (moved-after g.S.TokenSink.means c.args.rules.now _ _ _ (c.in-Some.c ∷ []) leads c.in_ok-pause.ensures.last c.read_character.ensures.input) (ap pauses (sym quiet)),
      omega (arith, c.in_ok-pause.ensures.faults, c.in_ok-read_waiting_run.ensures.faults, c.loop-queue.invariant.1),
      omega (arith, ap length c.in-Some.ensures.some.text, c.read_character.ensures.held, c.in_ok-read_waiting_run.ensures.held, c.loop-queue.invariant.2),
    )

pub returns-in_default-2 : goal.returns-in_default-2
returns-in_default-2 g c =
    let leads = c.in_ok-pause.ensures.leads in
    let read = HasRead-quietly g.S.TokenSink.means c.args.rules.now _ _ _ _ _ _ _ _ (HasRead-run g.S.TokenSink.means c.args.rules.now _ _ _ _ _ _ _ _ _ c.loop-queue.invariant.0 c.in_ok-read_waiting_run.ensures.reads) c.in_ok-read_waiting_quietly.ensures.reads in
    let fed = HasFed-pause g.S.TokenSink.means c.args.rules.now _ _ _ _ _ _ _ _ _ c.in-Some.c _ read c.in-Some.ensures.some c.in_ok-pause.ensures.tells
    (moved-after g.S.TokenSink.means c.args.rules.now _ _ _ (c.in-Some.c ∷ []) leads c.in_ok-pause.ensures.last c.read_character.ensures.input) c.in_ok-pause.ensures.answer (reply_in-pauses string_bytes _ c.in_default-2.not-Done) in
    record {
      tells = fed.told_all;
      moves = fed.position;
      answer = fed.answers;
      paused = c.in_ok-pause.ensures.paused;
      left = fed.left;
      refusal = tt;
      refused = tt;
      end_of_queue = end-after g.S.TokenSink.means c.args.rules.now _ _ _ _ _ _ _ (c.in-Some.c ∷ []) read c.in-Some.ensures.some;
      taken = count-after g.S.TokenSink.means c.args.rules.now _ _ _ _ _ _ _ (c.in-Some.c ∷ []) read c.in-Some.ensures.some;
      handed_in = c.in-Some.ensures.some.handed_in ∙ read.takes.handed_in;
      held = omega (arith, ap length c.in-Some.ensures.some.text, c.read_character.ensures.held, c.in_ok-read_waiting_run.ensures.held, c.loop-queue.invariant.2);
      faults = omega (arith, c.in_ok-pause.ensures.faults, c.in_ok-read_waiting_run.ensures.faults, c.loop-queue.invariant.1);
      empty = λ nothing. refl;
    }
