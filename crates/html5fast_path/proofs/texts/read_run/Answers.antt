use Rattle.std.proofs.Common.{◌∙◌, sym, refl, take}
use Rattle.std.specs.Str.{chars}
use Rattle.std.proofs.lemmas.Str.{IsCharBoundary-from_drop}
use Rattle.markup5ever.proofs.BufferQueueLemmas.{range_from_start}
use Rattle.html5partial.specs.CurrentTag.{opened_of}
use Rattle.html5partial.specs.Runs.{IsRunAt}
use Rattle.html5fast_path.proofs.Runs.{reads-run, run-begins}
use Rattle.html5fast_path.proofs.Beginnings.{front-nothing}
use Rattle.html5fast_path.proofs.texts.read_run.Goals as goal

pub returns-then-not-reads_open_runs-clause-reads : goal.returns-then-not-reads_open_runs-clause-reads
returns-then-not-reads_open_runs-clause-reads g c = front-nothing _ _ _ c.utf8.text refl

pub returns-in_default-clause-reads : goal.returns-in_default-clause-reads
returns-in_default-clause-reads g c = front-nothing _ _ _ c.utf8.text refl

pub returns-then-bytes-eq0-clause-reads : goal.returns-then-bytes-eq0-clause-reads
returns-then-bytes-eq0-clause-reads g c = front-nothing _ _ _ c.utf8.text refl

pub range-requires-clause-end_boundary : goal.range-requires-clause-end_boundary
range-requires-clause-end_boundary g c =
    let begins = c.nonmember_prefix_len-bytes.ensures.outside in
    IsCharBoundary-from_drop c.args.text.now c.nonmember_prefix_len-bytes.result begins.within begins.rest_utf8

pub push_run-requires-clause-is_run : goal.push_run-requires-clause-is_run
push_run-requires-clause-is_run g c =
    let bytes = c.nonmember_prefix_len-bytes.result in
    rw (c.range.ensures.value ∙ range_from_start c.args.text.now bytes)
    (run-begins (opened_of c.args.at.now) c.in-Some.ends c.args.text.now bytes (sym c.in-Some.ensures.has_runs) c.in-Some.ensures.ends c.utf8.text
    c.nonmember_prefix_len-bytes.ensures.outside c.if-bytes-eq0.false)

pub returns-clause-reads : goal.returns-clause-reads
returns-clause-reads g c =
    let bytes = c.nonmember_prefix_len-bytes.result in
    let begins = c.nonmember_prefix_len-bytes.ensures.outside in
    let cut = c.range.ensures.value ∙ range_from_start c.args.text.now bytes in
    let run : IsRunAt (opened_of c.args.at.now) (chars (take bytes c.args.text.now)) =
    run-begins (opened_of c.args.at.now) c.in-Some.ends c.args.text.now bytes (sym c.in-Some.ensures.has_runs) c.in-Some.ensures.ends c.utf8.text
    begins c.if-bytes-eq0.false in
    record {
      within = begins.within;
      rest_utf8 = begins.rest_utf8;
      quiet =
          rw (c.in_ok-push_run.ensures.run, cut)
          (reads-run (opened_of c.args.at.now) (chars (take bytes c.args.text.now)) run (c.reads_open_runs.ensures c.if-not-reads_open_runs.false));
    }
