use Rattle.std.proofs.Common.{◌++◌, length, take, ap, rules, arith, length-append}
use Rattle.devices.proofs.KnownBytes.{Appends-append, Appends-kept, AppendsBeginning-stopped, taken_more}
use Rattle.devices.proofs.writing.write_all.Goals as goal

pub loop-rest-preserved : goal.loop-rest-preserved
loop-rest-preserved g c =
    let (done, split, appended) = c.loop-rest.invariant.taken in
    let rest = c.loop-rest.rest.now in
    record {
      taken = (done ++ take c.in-Ok.n rest, taken_more _ done rest c.in-Ok.n split, Appends-append _ _ _ _ _ appended c.in-Ok.ensures.bytes);
      no_failure = search rules;
      untouched = λ empty. absurd (omega (arith, c.in-Ok.ensures.bound, ap length empty, ap length split, length-append done rest));
    }

pub returns-in-Ok-eq0-clause-err : goal.returns-in-Ok-eq0-clause-err
returns-in-Ok-eq0-clause-err g c =
    let (done, split, appended) = c.loop-rest.invariant.taken in
    let none = rw c.in-Ok-eq0.field-0-test at c.in-Ok-eq0.ensures.bytes in
    AppendsBeginning-stopped _ _ _ _ done _ split (search rules) appended none

pub returns-in-Err-clause-err : goal.returns-in-Err-clause-err
returns-in-Err-clause-err g c =
    let (done, split, appended) = c.loop-rest.invariant.taken in
    AppendsBeginning-stopped _ _ _ _ done _ split (search rules) appended (Appends-kept _ _ c.in-Err.ensures.bytes)
