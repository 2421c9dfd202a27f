use Rattle.std.proofs.Common.{arith}
use Rattle.std.proofs.lemmas.Result.{err_from_is_err_and}
use Rattle.token_printer.proofs.Attributes.{open_attributes-none, open_attributes-more}
use Rattle.markup5ever.proofs.Beginnings.{BeginsWith-less}
use Rattle.token_printer.proofs.printed.push_attributes.Goals as goal

pub loop-attribute-init : goal.loop-attribute-init
loop-attribute-init g c = open_attributes-none c.args.output.now.items

pub returns-in_err-push_attribute-clause-err : goal.returns-in_err-push_attribute-clause-err
returns-in_err-push_attribute-clause-err g c =
    let failed = err_from_is_err_and c.from_residual.result c.from_residual.ensures.1 in
    rw failed.1 (BeginsWith-less _ _ _ _ c.loop-attribute.invariant c.in_err-push_attribute.ensures.err)

pub loop-attribute-preserved : goal.loop-attribute-preserved
loop-attribute-preserved g c =
    open_attributes-more _ _ _ _ _ _ c.loop-attribute.invariant c.attribute-item.is (omega arith) c.in_ok-push_attribute.ensures.ok
