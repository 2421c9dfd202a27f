-- The loop keeps a record of what the source gave and what was sent. Each answer composes it with one read more.
use Rattle.std.proofs.Common.{refl, arith, rules}
use Rattle.std.proofs.lemmas.Result.{err_from_is_err_and}
use Rattle.html5stream.proofs.Streaming.{HasRead-start, HasRead-more, HasRead-nothing, HasRead-whole, GivesAtLeast-none, GivesAtLeast-more, GivesAtLeast-fewer, some_taken, StopsText-read, StopsText-cut, StopsText-piece, StopsText-long}
use Rattle.html5stream.proofs.source.read_text.Goals as goal

pub loop-reads-init : goal.loop-reads-init
loop-reads-init g c = record {
  read = HasRead-start g.S.TokenSink.means
      (g.R.Source.remaining c.args.source.now) c.args.tokenizer.now c.new-decoder.result c.new-decoder.ensures.held c.new-decoder.ensures.taken
      c.requires.going_on c.requires.not_failed;
  much = GivesAtLeast-none (g.R.Source.remaining c.args.source.now);
  waiting = c.new-queue.ensures.text;
  no_failure = refl;
  no_fault = refl;
  room = omega arith;
}

pub returns-in_err-n-clause-stops : goal.returns-in_err-n-clause-stops
returns-in_err-n-clause-stops g c =
    let p = err_from_is_err_and c.from_residual.result c.from_residual.ensures.1 in
    rw (p.1, p.2, c.in_err-n.ensures.err)
    (StopsText-read g.S.TokenSink.means
    _ _ _ _ _ _ c.loop-reads.invariant.read c.in_err-n.ensures.nothing)

pub returns-in_err-finish-clause-stops : goal.returns-in_err-finish-clause-stops
returns-in_err-finish-clause-stops g c =
    let p = err_from_is_err_and c.from_residual-in_err-finish.result c.from_residual-in_err-finish.ensures.1 in
    let said = c.in_err-finish.ensures in
    rw p.1
    (StopsText-cut g.S.TokenSink.means
    _ p.0 _ _ _ _ _ _ _ _ c.loop-reads.invariant.read c.in_ok-n.ensures.given c.if-n-eq0.true
    (c.in_ok-n.ensures.end c.if-n-eq0.true) (λ none. cc (said.complete.1 none)) p.2.0 said.place)

pub returns-then-n-eq0-clause-takes : goal.returns-then-n-eq0-clause-takes
returns-then-n-eq0-clause-takes g c =
    HasRead-whole g.S.TokenSink.means _ _ _ _ _
    (HasRead-nothing g.S.TokenSink.means _ _ _ _ _ _ _ _
    c.loop-reads.invariant.read c.in_ok-n.ensures.given c.if-n-eq0.true)
    (c.in_ok-finish.ensures.complete.0 refl) (c.in_ok-n.ensures.end c.if-n-eq0.true)

pub returns-in_err-take_bytes-clause-stops : goal.returns-in_err-take_bytes-clause-stops
returns-in_err-take_bytes-clause-stops g c =
    let p = err_from_is_err_and c.from_residual-in_err-take_bytes.result c.from_residual-in_err-take_bytes.ensures.1 in
    rw (p.1, p.2)
    (StopsText-piece g.S.TokenSink.means
    _ _ _ _ _ _ _ _ _ c.loop-reads.invariant.read c.in_ok-n.ensures.given c.in_err-take_bytes.ensures.read c.in_err-take_bytes.ensures.stops)

pub loop-reads-preserved : goal.loop-reads-preserved
loop-reads-preserved g c = record {
  read = HasRead-more g.S.TokenSink.means _ _ _ _ _ _ _ _ _
      c.loop-reads.invariant.read c.in_ok-n.ensures.given c.in_ok-take_bytes.ensures.takes;
  much = GivesAtLeast-more _ _ _ _ _ c.loop-reads.invariant.much c.in_ok-n.ensures.given
      (some_taken _ _ c.in_ok-n.ensures.within (λ none. absurd (omega arith)));
  waiting = c.in_ok-take_bytes.ensures.taken;
  no_failure = omega (arith, c.in_ok-n.ensures.read, c.loop-reads.invariant.no_failure);
  no_fault = omega (arith, c.in_ok-take_bytes.ensures.faults, c.loop-reads.invariant.no_fault);
  room = search rules;
}

pub returns-clause-stops : goal.returns-clause-stops
returns-clause-stops g c =
    StopsText-long g.S.TokenSink.means
    _ _ _ _ _ c.loop-reads.invariant.read

pub returns-clause-too_long : goal.returns-clause-too_long
returns-clause-too_long g c = λ _. GivesAtLeast-fewer _ _ _ _ (omega arith) c.loop-reads.invariant.much
