-- the search doesn't split a text at its first line feed
use Rattle.std.proofs.Common.{[], rules}
use Rattle.std.specs.List.{slice_split}
use Rattle.html5programs.specs.References.{is_line_feed}
use Rattle.html5programs.proofs.EntityLines.{TakenOf-end, TakenOf-line, TakenOf-more, TakenOf-start, lines-last, lines-more}
use Rattle.html5programs.proofs.entity_lines.entries_of_lines.Goals as goal

pub loop-line-init : goal.loop-line-init
loop-line-init g c =
    let start = TakenOf-start (slice_split is_line_feed c.args.text.now) c.requires in
    (search rules, rw c.new-entries.ensures.items start)

pub push_line-requires : goal.push_line-requires
push_line-requires g c =
    let lines = lines-more c.loop-line.rest.now c.in-Some.line c.in-Some.later c.in-Some.ensures.byte in
    TakenOf-line _ _ c.in-Some.line.now (slice_split is_line_feed c.in-Some.later.now) (rw lines.0 at c.loop-line.invariant.1)

pub loop-line-preserved : goal.loop-line-preserved
loop-line-preserved g c =
    let lines = lines-more c.loop-line.rest.now c.in-Some.line c.in-Some.later c.in-Some.ensures.byte in (
      search rules,
      TakenOf-more _ _ _ c.in-Some.line.now (slice_split is_line_feed c.in-Some.later.now) c.in_ok-push_line.ensures (rw lines.0 at c.loop-line.invariant.1),
    )

pub push_line-requires-2 : goal.push_line-requires-2
push_line-requires-2 g c =
    TakenOf-line _ _ c.loop-line.rest.now [] (rw (lines-last c.loop-line.rest.now c.in_default.ensures.byte) at c.loop-line.invariant.1)

pub returns : goal.returns
returns g c =
    TakenOf-end _ _ (TakenOf-more _ _ _ c.loop-line.rest.now [] c.in_ok-push_line-2.ensures
    (rw (lines-last c.loop-line.rest.now c.in_default.ensures.byte) at c.loop-line.invariant.1))
