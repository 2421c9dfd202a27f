use Rattle.std.proofs.Common.{arith}
use Rattle.std.proofs.lemmas.Bool.Decides.{nat_tests}
use Rattle.html5partial.proofs.Numbers.{is_number-first, is_number-push}
use Rattle.html5partial.proofs.number.continues_number.Goals as goal

pub returns-then-base_of-eq16-clause-goes_on : goal.returns-then-base_of-eq16-clause-goes_on
returns-then-base_of-eq16-clause-goes_on c =
    let is = is_number-push c.args.number.now c.args.c c.requires (grind (arith, nat_tests)) in
    let hex = c.is_ascii_hexdigit.ensures.value in
    let base = c.base_of.ensures.base in
    grind (arith, nat_tests)

pub returns-else-base_of-eq16-clause-goes_on : goal.returns-else-base_of-eq16-clause-goes_on
returns-else-base_of-eq16-clause-goes_on c =
    let is = is_number-push c.args.number.now c.args.c c.requires (grind (arith, nat_tests)) in
    let dec = c.is_ascii_digit-else-base_of-eq16.ensures.value in
    let base = c.base_of.ensures.base in
    grind (arith, nat_tests)

pub returns-then-is_x-clause-goes_on : goal.returns-then-is_x-clause-goes_on
returns-then-is_x-clause-goes_on c =
    let is = is_number-first c.args.number.now c.args.c (grind (arith, nat_tests)) in
    let x = c.is_x.ensures in
    grind (arith, nat_tests)

pub returns-else-is_x-clause-goes_on : goal.returns-else-is_x-clause-goes_on
returns-else-is_x-clause-goes_on c =
    let is = is_number-first c.args.number.now c.args.c (grind (arith, nat_tests)) in
    let x = c.is_x.ensures in
    let dec = c.is_ascii_digit.ensures.value in
    grind (arith, nat_tests)
