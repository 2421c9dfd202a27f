use Rattle.std.proofs.Common.{string_bytes}
use Rattle.html5encodings.proofs.Runs.{continues-byte, continues-more}
use Rattle.html5encodings.proofs.handlers.append_run.Goals as goal

pub loop-at-init : goal.loop-at-init
loop-at-init g c =
    let first = c.in_ok-reached in
    record {
      continues = continues-byte (g.H.Handler.state c.args.held) (g.H.Handler.state first.reached) c.args.bytes.now (string_bytes c.args.text.now)
          (string_bytes c.append_byte.new.text) c.requires.some first.ensures.text first.ensures.leaves first.ensures.valid;
    }

pub loop-at-preserved : goal.loop-at-preserved
loop-at-preserved g c =
    let here = c.loop-at in
    let next = c.in_ok-reached-2 in
    record {
      continues = continues-more (g.H.Handler.state c.args.held) (g.H.Handler.state here.reached) (g.H.Handler.state next.reached) c.args.bytes.now
          (string_bytes c.args.text.now) (string_bytes here.text) (string_bytes c.append_byte-in-loop-at.new.text) here.at here.invariant.continues
          c.loop-at-test.true next.ensures.text next.ensures.leaves next.ensures.valid;
    }
