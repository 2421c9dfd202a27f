use Rattle.std.proofs.Common.{◌++◌, ap, ◌∙◌, arith}
use Rattle.std.proofs.lemmas.List.{take_all}
use Rattle.std.proofs.lemmas.Result.{err_from_is_err_and}
use Rattle.token_printer.specs.Printed.{quoted_bytes}
use Rattle.markup5ever.proofs.Beginnings.{BeginsWith-append, BeginsWith-less}
use Rattle.token_printer.proofs.Quotes.{quoted_bytes-none, quoted_bytes-run, quoted_bytes-escape}
use Rattle.token_printer.proofs.printed.push_quoted_runs.Goals as goal

pub loop-output-init : goal.loop-output-init
loop-output-init g c = (omega arith, quoted_bytes-none c.args.output.now.items)

pub returns-in_err-extend_from_slice-clause-err : goal.returns-in_err-extend_from_slice-clause-err
returns-in_err-extend_from_slice-clause-err g c =
    let failed = err_from_is_err_and c.from_residual.result c.from_residual.ensures.1 in
    rw failed.1 (BeginsWith-append _ _ _ (c.in_err-extend_from_slice.ensures.items ∙ c.loop-output.invariant.1))

pub returns-then-end-text-clause-ok : goal.returns-then-end-text-clause-ok
returns-then-end-text-clause-ok g c =
    let text = c.args.text.now in
    let end = c.first_from-end.result in
    quoted_bytes-run c.args.output.now.items _ _ text c.loop-output.start end c.loop-output.invariant.1
    c.first_from-end.ensures.low c.first_from-end.ensures.high c.first_from-end.ensures.none_before c.in_ok-extend_from_slice.ensures.items
    ∙ ap (λ l. c.args.output.now.items ++ quoted_bytes l) (take_all end text (omega arith))

pub returns-in_err-push_escape-clause-err : goal.returns-in_err-push_escape-clause-err
returns-in_err-push_escape-clause-err g c =
    let failed = err_from_is_err_and c.from_residual-in_err-push_escape.result c.from_residual-in_err-push_escape.ensures.1 in
    let ran = quoted_bytes-run c.args.output.now.items _ _ c.args.text.now c.loop-output.start c.first_from-end.result c.loop-output.invariant.1
    c.first_from-end.ensures.low c.first_from-end.ensures.high c.first_from-end.ensures.none_before c.in_ok-extend_from_slice.ensures.items in
    rw failed.1 (BeginsWith-less _ _ _ _ ran c.in_err-push_escape.ensures.err)

pub loop-output-preserved : goal.loop-output-preserved
loop-output-preserved g c =
    let text = c.args.text.now in
    let end = c.first_from-end.result in
    let ran = quoted_bytes-run c.args.output.now.items _ _ text c.loop-output.start end c.loop-output.invariant.1
    c.first_from-end.ensures.low c.first_from-end.ensures.high c.first_from-end.ensures.none_before c.in_ok-extend_from_slice.ensures.items in
    (omega arith, quoted_bytes-escape c.args.output.now.items _ _ text end ran (omega arith) (c.first_from-end.ensures.stops (omega arith)) c.in_ok-push_escape.ensures.ok)
