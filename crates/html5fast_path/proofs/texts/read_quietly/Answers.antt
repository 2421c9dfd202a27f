use Rattle.std.proofs.Common.{◌∙◌, refl, arith, take, drop}
use Rattle.std.specs.Str.{chars}
use Rattle.std.proofs.lemmas.Str.{IsCharBoundary-from_drop}
use Rattle.html5partial.specs.CurrentTag.{opened_of}
use Rattle.html5fast_path.proofs.Beginnings.{front-nothing, front-append, front-same, chars-two}
use Rattle.html5fast_path.proofs.texts.read_quietly.Goals as goal

pub loop-read-init : goal.loop-read-init
loop-read-init g c = (front-nothing _ _ _ c.utf8.text refl, (refl, omega arith))

pub range_from-rest-requires : goal.range_from-rest-requires
range_from-rest-requires g c = λ some.
    IsCharBoundary-from_drop c.args.text.now c.loop-read.read c.loop-read.invariant.0.within c.loop-read.invariant.0.rest_utf8

pub returns-in-Ok-eq0-clause-quiet : goal.returns-in-Ok-eq0-clause-quiet
returns-in-Ok-eq0-clause-quiet g c =
    let same = front-same _ (opened_of c.loop-read.at) (opened_of c.read_next.new.at) (rw c.in-Ok-eq0.field-0-test at c.in-Ok-eq0.ensures.reads) in
    rw (← same) c.loop-read.invariant.0.quiet

pub loop-read-preserved : goal.loop-read-preserved
loop-read-preserved g c =
    let text = c.args.text.now in
    let i = c.loop-read.invariant in
    let more = rw c.range_from-rest.ensures.value at c.in-Ok.ensures in (
      front-append text c.loop-read.read c.in-Ok.bytes (opened_of c.args.at.now) (opened_of c.loop-read.at) (opened_of c.read_next.new.at) c.utf8.text i.0 more.reads,
      (more.last ∙ i.1.0, omega (arith, more.held, i.1.1)),
    )

pub returns-in-Err-clause-refused : goal.returns-in-Err-clause-refused
returns-in-Err-clause-refused g c =
    let text = c.args.text.now in
    let read = c.loop-read.read in
    let i = c.loop-read.invariant.0 in
    let first = rw c.range_from-rest.ensures.value at c.first_len.ensures in
    record {
      front = chars (take read text);
      item = chars (take c.first_len.result (drop read text));
      parts = chars-two text read c.first_len.result c.utf8.text i.within i.rest_utf8;
      is_one = first.one;
      later = opened_of c.loop-read.at;
      reads = i.quiet;
    }
