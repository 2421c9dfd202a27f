use Rattle.std.proofs.Common.{sym, ap, ◌∙◌, rules}
use Rattle.std.specs.List.{slice_split}
use Rattle.std.specs.Option.{is_some}
use Rattle.html5table.specs.Listed.{entries_said, is_comma}
use Rattle.html5table.proofs.Lists.{all_said-last, all_said-more, all_said-none, texts-last, texts-more}
use Rattle.html5table.proofs.list.are_entries.Goals as goal

pub returns-then-is_none : goal.returns-then-is_none
returns-then-is_none c =
    let texts = texts-more c.loop-entry.rest.now c.in-Some.entry c.in-Some.later c.in-Some.ensures.byte in
    sym (c.loop-entry.invariant.1 ∙ ap (λ t. is_some (entries_said t)) texts.0
    ∙ all_said-none _ c.parts_of.result c.in-Some.entry.now (slice_split is_comma c.in-Some.later.now) c.parts_of.ensures (search rules))

pub loop-entry-preserved : goal.loop-entry-preserved
loop-entry-preserved c =
    let texts = texts-more c.loop-entry.rest.now c.in-Some.entry c.in-Some.later c.in-Some.ensures.byte in (
      search rules,
      c.loop-entry.invariant.1 ∙ ap (λ t. is_some (entries_said t)) texts.0
          ∙ all_said-more _ c.parts_of.result c.in-Some.entry.now (slice_split is_comma c.in-Some.later.now) c.parts_of.ensures (search rules),
    )

pub returns : goal.returns
returns c =
    c.is_some.ensures
    ∙ all_said-last _ c.parts_of-2.result c.loop-entry.rest.now c.parts_of-2.ensures
    ∙ sym (c.loop-entry.invariant.1 ∙ ap (λ t. is_some (entries_said t)) (texts-last c.loop-entry.rest.now c.in_default.ensures.byte))
