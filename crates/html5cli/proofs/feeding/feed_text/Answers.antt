-- The loop keeps a record of all that was fed and written. Each answer composes it with one piece more.
use Rattle.std.proofs.Common.{◌+◌, refl, sym, subst, arith}
use Rattle.std.proofs.lemmas.List.{take_all}
use Rattle.devices.specs.Device.{AppendsBeginning}
use Rattle.html5ever.specs.Tokenizer.{Tokenizing}
use Rattle.token_printer.specs.Output.{Printer}
use Rattle.html5cli.specs.Printing.{WritesFront}
use Rattle.html5cli.proofs.TextCuts.{IsCut, IsPiece-sliced, IsCut-further, IsCut-boundary}
use Rattle.html5cli.proofs.FeedingText.{FedTo, FedTo-start, FedTo-more, FedTo-all, FedTo-short, FedTo-unwritten, WritesFront-none, on_err-anyway}
use Rattle.html5cli.proofs.feeding.feed_text.Goals as goal

pub loop-start-init : goal.loop-start-init
loop-start-init g c = record {
  fed = FedTo-start (g.W.Target.contents c.args.writer.now) c.args.tokenizer.now c.args.text.now c.new-queue.result c.utf8.text
      c.requires.going_on c.requires.not_failed c.new-queue.ensures.text;
  no_failure = refl;
}

pub range_from-requires : goal.range_from-requires
range_from-requires g c = λ _. IsCut-boundary c.args.text.now c.loop-start.start c.loop-start.invariant.fed.cut

pub range-requires-clause-start_boundary : goal.range-requires-clause-start_boundary
range-requires-clause-start_boundary g c =
    λ _. IsCut-boundary c.args.text.now c.loop-start.start c.loop-start.invariant.fed.cut

pub range-requires-clause-end_boundary : goal.range-requires-clause-end_boundary
range-requires-clause-end_boundary g c =
    let cut : IsCut c.args.text.now (c.loop-start.start + c.piece_len.result) =
    IsCut-further c.args.text.now c.range_from.result.now c.loop-start.start c.piece_len.result c.loop-start.invariant.fed.cut c.range_from.ensures.value c.piece_len.ensures.within c.piece_len.ensures.boundary.1 in
    IsCut-boundary c.args.text.now (c.loop-start.start + c.piece_len.result) cut

pub loop-start-preserved : goal.loop-start-preserved
loop-start-preserved g c =
    let text = c.args.text.now in
    let piece = IsPiece-sliced text _ _ _ c.loop-start.start c.piece_len.result c.loop-start.invariant.fed.cut
    c.range_from.ensures.value c.piece_len.ensures.within c.piece_len.ensures.boundary.1
    c.range.ensures.value refl in
    let said = c.in_ok-feed_piece.ensures in
    let was = g.W.Target.contents c.args.writer.now in
    let written = g.W.Target.contents c.write_full_output.new.writer in
    let wrote = subst (λ (t : Tokenizing Printer). WritesFront (g.W.Target.contents c.loop-start.writer) written t.sink.output c.write_full_output.new.sink.output) c.tokenizer.view_is c.in_ok-write_full_output.ensures.ok in
    let fed = FedTo-more was _ written _ _ c.feed_piece.new.tokenizer c.write_full_output.new.sink text _ _ _ c.loop-start.queue c.feed_piece.new.queue
    c.loop-start.invariant.fed c.utf8.text piece said.reads said.rules said.going_on said.not_failed said.taken wrote in
    record {
      fed = subst (λ (t : Tokenizing Printer). FedTo was written c.args.tokenizer.now (record t { sink = c.write_full_output.new.sink }) text (c.loop-start.start + c.piece_len.result) c.feed_piece.new.queue)
          (sym c.tokenizer.view_is) fed;
      no_failure = omega (arith, c.in_ok-write_full_output.ensures.failures, c.loop-start.invariant.no_failure);
    }

pub returns-in_err-feed_piece-clause-beginning : goal.returns-in_err-feed_piece-clause-beginning
returns-in_err-feed_piece-clause-beginning g c =
    on_err-anyway c.from_residual.result (FedTo-short _ _ _ _ _ _ _ c.loop-start.invariant.fed c.utf8.text)

pub returns-in_err-write_full_output-clause-beginning : goal.returns-in_err-write_full_output-clause-beginning
returns-in_err-write_full_output-clause-beginning g c =
    let text = c.args.text.now in
    let piece = IsPiece-sliced text _ _ _ c.loop-start.start c.piece_len.result c.loop-start.invariant.fed.cut
    c.range_from.ensures.value c.piece_len.ensures.within c.piece_len.ensures.boundary.1
    c.range.ensures.value refl in
    let said = c.in_ok-feed_piece.ensures in
    let known = g.W.Target.contents c.loop-start.writer in
    let begun = subst (λ (t : Tokenizing Printer). AppendsBeginning known (g.W.Target.contents c.write_full_output.new.writer) t.sink.output.lines) c.tokenizer.view_is c.in_err-write_full_output.ensures.err in
    let fed = FedTo-more _ known known _ _ c.feed_piece.new.tokenizer c.feed_piece.new.tokenizer.sink text _ _ _ c.loop-start.queue c.feed_piece.new.queue
    c.loop-start.invariant.fed c.utf8.text piece said.reads said.rules said.going_on said.not_failed said.taken (WritesFront-none known c.feed_piece.new.tokenizer.sink.output) in
    on_err-anyway c.from_residual-in_err-write_full_output.result (FedTo-unwritten _ _ _ _ _ _ _ _ fed c.utf8.text begun)

pub returns-clause-prints : goal.returns-clause-prints
returns-clause-prints g c =
    FedTo-all _ _ _ _ _ _ _ c.loop-start.invariant.fed (take_all c.loop-start.start c.args.text.now (omega (arith, c.loop-start-test.false)))
