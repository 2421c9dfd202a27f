use Rattle.std.proofs.Common.{sym, ap, ◌∙◌, rules, [], Some}
use Rattle.std.specs.List.{slice_split}
use Rattle.std.specs.Option.{is_some}
use Rattle.markup5ever.specs.NamedReferences.{references_of}
use Rattle.html5table.specs.Listed.{is_comma}
use Rattle.html5table.proofs.Lists.{TakenOf-end, TakenOf-entry, TakenOf-more, TakenOf-start, listed-empty, listed-texts, texts-last, texts-more}
use Rattle.html5table.proofs.list.entries_of.Goals as goal

pub returns-then-is_empty : goal.returns-then-is_empty
returns-then-is_empty g c =
    listed-empty c.args.list.now (sym c.is_empty.ensures ∙ c.if-is_empty.true) ∙ ap (λ l. Some (references_of l)) (sym c.new-entries.ensures.items)

pub loop-entry-init : goal.loop-entry-init
loop-entry-init g c =
    let texts = listed-texts c.args.list.now (sym c.is_empty.ensures ∙ c.if-is_empty.false) in
    let start = TakenOf-start (slice_split is_comma c.args.list.now) (ap is_some (sym texts) ∙ c.requires) in
    (search rules, rw c.new-entries.ensures.items start)

pub push_entry-requires : goal.push_entry-requires
push_entry-requires g c =
    let texts = texts-more c.loop-entry.rest.now c.in-Some.entry c.in-Some.later c.in-Some.ensures.byte in
    TakenOf-entry _ _ c.in-Some.entry.now (slice_split is_comma c.in-Some.later.now) (rw texts.0 at c.loop-entry.invariant.1)

pub loop-entry-preserved : goal.loop-entry-preserved
loop-entry-preserved g c =
    let texts = texts-more c.loop-entry.rest.now c.in-Some.entry c.in-Some.later c.in-Some.ensures.byte in (
      search rules,
      TakenOf-more _ _ _ c.in-Some.entry.now (slice_split is_comma c.in-Some.later.now) c.in_ok-push_entry.ensures (rw texts.0 at c.loop-entry.invariant.1),
    )

pub push_entry-requires-2 : goal.push_entry-requires-2
push_entry-requires-2 g c =
    TakenOf-entry _ _ c.loop-entry.rest.now [] (rw (texts-last c.loop-entry.rest.now c.in_default.ensures.byte) at c.loop-entry.invariant.1)

pub returns : goal.returns
returns g c =
    listed-texts c.args.list.now (sym c.is_empty.ensures ∙ c.if-is_empty.false)
    ∙ TakenOf-end _ _ (TakenOf-more _ _ _ c.loop-entry.rest.now [] c.in_ok-push_entry-2.ensures
    (rw (texts-last c.loop-entry.rest.now c.in_default.ensures.byte) at c.loop-entry.invariant.1))
