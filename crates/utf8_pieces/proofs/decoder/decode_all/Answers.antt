use Rattle.std.proofs.Common.{subst, inr}
use Rattle.std.proofs.lemmas.List.{take_all}
use Rattle.std.proofs.lemmas.Result.{err_from_is_err_and}
use Rattle.utf8_pieces.specs.Pieces.{bytes_of}
use Rattle.utf8_pieces.proofs.All.{HasDecoded, fault_at_end, fault_within}
use Rattle.utf8_pieces.proofs.decoder.decode_all.Goals as goal

pub returns-in_err-more-clause-fault : goal.returns-in_err-more-clause-fault
returns-in_err-more-clause-fault g c =
    let p = err_from_is_err_and c.from_residual.result c.from_residual.ensures.1 in
    let at = c.loop-piece in
    let said = c.in_err-more.ensures in
    rw (p.1, p.2)
    (fault_within at.text at.decoder c.args.pieces.now at.piece-index _ c.in_err-more.field-0.0 c.loop-piece-test.true at.invariant said.fault said.refused.0)

pub returns-in_err-finish-clause-fault : goal.returns-in_err-finish-clause-fault
returns-in_err-finish-clause-fault g c =
    let p = err_from_is_err_and c.from_residual-in_err-finish.result c.from_residual-in_err-finish.ensures.1 in
    let at = c.loop-piece in
    let said = c.in_err-finish.ensures in
    let pieces = c.args.pieces.now in
    let had = subst (λ t. HasDecoded at.text at.decoder (bytes_of t)) (take_all at.piece-index pieces c.loop-piece-test.false) at.invariant in
    rw (p.1, p.2) (inr (fault_at_end at.text at.decoder (bytes_of pieces) c.in_err-finish.field-0.0 had (λ none. cc (said.complete.1 none)) said.place))
