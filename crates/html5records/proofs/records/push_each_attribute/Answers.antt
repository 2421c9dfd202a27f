use Rattle.std.proofs.Common.{arith, sym}
use Rattle.std.proofs.lemmas.List.{append-nil}
use Rattle.std.proofs.lemmas.Result.{err_from_is_err_and}
use Rattle.html5records.proofs.Written.{attributes-more}
use Rattle.markup5ever.proofs.Beginnings.{BeginsWith-less}
use Rattle.html5records.proofs.records.push_each_attribute.Goals as goal

pub loop-attribute-init : goal.loop-attribute-init
loop-attribute-init g c = sym (append-nil c.args.written.now.items)

pub returns-in_err-push_attribute-clause-err : goal.returns-in_err-push_attribute-clause-err
returns-in_err-push_attribute-clause-err g c =
    let failed = err_from_is_err_and c.from_residual.result c.from_residual.ensures.1 in
    rw failed.1 (BeginsWith-less _ _ _ _ c.loop-attribute.invariant c.in_err-push_attribute.ensures.err)

pub loop-attribute-preserved : goal.loop-attribute-preserved
loop-attribute-preserved g c =
    attributes-more _ _ _ _ _ _ c.loop-attribute.invariant c.attribute-item.is (omega arith) c.in_ok-push_attribute.ensures.ok
