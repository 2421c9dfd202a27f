-- The loop keeps a record of what the source gave and what was written. Each answer composes it with one read more.
use Rattle.std.proofs.Common.{refl, arith, rules}
use Rattle.std.proofs.lemmas.Result.{err_from_is_err_and}
use Rattle.html5splice.proofs.Sources.{has-all, has-endless, has-more, has-none, has-stopped, has-stopped_in}
use Rattle.html5splice.specs.Splicing.{splicing_of}
use Rattle.html5splice.proofs.page.splice_source.Goals as goal

pub loop-reads-init : goal.loop-reads-init
loop-reads-init g c = record {
  spliced = has-none g.H.Splicer.splices (g.R.Source.remaining c.args.source.now) c.new-decoder.result c.args.reader.now
      (splicing_of g.H.Splicer.state g.O.Output.bytes c.args.splicing.now) c.new-decoder.ensures.held c.requires;
  no_failure = refl;
  room = omega arith;
}

pub returns-in_err-n-clause-stops : goal.returns-in_err-n-clause-stops
returns-in_err-n-clause-stops g c =
    rw (err_from_is_err_and c.from_residual.result c.from_residual.ensures.1).1
    (has-stopped g.H.Splicer.splices _ _ _ _ _ _ _ _ _ c.loop-reads.invariant.spliced c.in_err-n.ensures.nothing)

pub returns-in_err-finish-clause-stops : goal.returns-in_err-finish-clause-stops
returns-in_err-finish-clause-stops g c =
    rw (err_from_is_err_and c.from_residual-in_err-finish.result c.from_residual-in_err-finish.ensures.1).1
    (has-stopped g.H.Splicer.splices _ _ _ _ _ _ _ _ _ c.loop-reads.invariant.spliced c.in_ok-n.ensures.given)

pub returns-then-n-eq0-clause-splices : goal.returns-then-n-eq0-clause-splices
returns-then-n-eq0-clause-splices g c =
    has-all g.H.Splicer.splices _ _ _ _ _ _ _ _ _ _ c.loop-reads.invariant.spliced c.in_ok-n.ensures.given c.if-n-eq0.true
    (c.in_ok-n.ensures.end c.if-n-eq0.true) (c.in_ok-finish.ensures.complete.0 refl)

pub returns-in_err-splice_bytes-clause-stops : goal.returns-in_err-splice_bytes-clause-stops
returns-in_err-splice_bytes-clause-stops g c =
    rw (err_from_is_err_and c.from_residual-in_err-splice_bytes.result c.from_residual-in_err-splice_bytes.ensures.1).1
    (has-stopped_in g.H.Splicer.splices _ _ _ _ _ _ _ _ _ _ c.loop-reads.invariant.spliced c.in_ok-n.ensures.given c.in_err-splice_bytes.ensures.stops)

pub loop-reads-preserved : goal.loop-reads-preserved
loop-reads-preserved g c = record {
  spliced = has-more g.H.Splicer.splices _ _ _ _ _ _ _ _ _ _ _ _ c.loop-reads.invariant.spliced c.in_ok-n.ensures.given c.in_ok-splice_bytes.ensures.splices;
  no_failure = omega (arith, c.in_ok-n.ensures.read, c.loop-reads.invariant.no_failure);
  room = search rules;
}

pub returns-clause-stops : goal.returns-clause-stops
returns-clause-stops g c = has-endless g.H.Splicer.splices _ _ _ _ _ _ _ c.loop-reads.invariant.spliced
