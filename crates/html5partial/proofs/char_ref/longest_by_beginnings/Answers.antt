use Rattle.std.proofs.Common.{sym, arith}
use Rattle.html5partial.proofs.LongestName.{named-found, named-push, named-cut, named-whole, named-none}
use Rattle.html5partial.proofs.char_ref.longest_by_beginnings.Goals as goal

pub loop-len-init : goal.loop-len-init
loop-len-init g c = record { within = omega arith; found = named-none c.args.references.now c.args.text.now c.table_laws.ensures }

pub loop-len-preserved-in-Some : goal.loop-len-preserved-in-Some
loop-len-preserved-in-Some g c = record {
  within = omega arith;
  found = named-found c.args.references.now c.args.text.now _ c.loop-len.len c.in-Some.first c.in-Some.second c.range-in-loop-len.ensures.value c.loop-len-test.true c.in-Some.ensures.characters;
}

pub loop-len-preserved : goal.loop-len-preserved
loop-len-preserved g c = record {
  within = omega arith;
  found = named-push c.args.references.now c.args.text.now _ c.loop-len.len c.loop-len.found c.range-in-loop-len.ensures.value c.loop-len-test.true c.in_default.ensures.characters c.loop-len.invariant.found;
}

pub returns-else-is_prefix : goal.returns-else-is_prefix
returns-else-is_prefix g c =
    named-cut c.args.references.now c.args.text.now _ c.loop-len.len c.loop-len.found c.range.ensures.value c.loop-len-test.true (sym c.if-is_prefix.ensures.begins) c.loop-len.invariant.found

pub returns-after-loop-len : goal.returns-after-loop-len
returns-after-loop-len g c = named-whole c.args.references.now c.args.text.now c.loop-len.len c.loop-len.found c.loop-len-test.false c.loop-len.invariant.found
