-- the search doesn't split a text at its first line feed
use Rattle.std.proofs.Common.{sym, ap, ◌∙◌, rules}
use Rattle.std.specs.List.{slice_split}
use Rattle.std.specs.Option.{is_some}
use Rattle.html5programs.specs.References.{is_line_feed, lines_said}
use Rattle.html5programs.proofs.EntityLines.{all_said-last, all_said-more, all_said-none, lines-last, lines-more}
use Rattle.html5programs.proofs.entity_lines.are_lists.Goals as goal

pub returns-then-not-is_list : goal.returns-then-not-is_list
returns-then-not-is_list c =
    let lines = lines-more c.loop-line.rest.now c.in-Some.line c.in-Some.later c.in-Some.ensures.byte in
    sym (c.loop-line.invariant.1 ∙ ap (λ l. is_some (lines_said l)) lines.0
    ∙ all_said-none c.in-Some.line.now (slice_split is_line_feed c.in-Some.later.now) (search rules))

pub loop-line-preserved : goal.loop-line-preserved
loop-line-preserved c =
    let lines = lines-more c.loop-line.rest.now c.in-Some.line c.in-Some.later c.in-Some.ensures.byte in (
      search rules,
      c.loop-line.invariant.1 ∙ ap (λ l. is_some (lines_said l)) lines.0
          ∙ all_said-more c.in-Some.line.now (slice_split is_line_feed c.in-Some.later.now) (search rules),
    )

pub returns : goal.returns
returns c =
    c.is_list-2.ensures
    ∙ all_said-last c.loop-line.rest.now
    ∙ sym (c.loop-line.invariant.1 ∙ ap (λ l. is_some (lines_said l)) (lines-last c.loop-line.rest.now c.in_default.ensures.byte))
