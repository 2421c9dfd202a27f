use Rattle.std.proofs.Common.{sym, ◌∙◌}
use Rattle.tree_builder.proofs.TextRuns.{kept-front, none-ignored, none-taken, rest-taken}
use Rattle.tree_builder.proofs.builder.Builder.take_text.Goals as goal

pub first_run-requires-text-text : goal.first_run-requires-text-text
first_run-requires-text-text g c = λ _. c.loop-run.invariant.0

pub take_run-requires-clause-kept : goal.take_run-requires-clause-kept
take_run-requires-clause-kept g c =
    let run = c.in-Some.run' in
    kept-front c.loop-run.rest.now run.text.now run.rest.now c.loop-run.self.parser.ignores_newline c.in-Some.ensures.whole c.loop-run.invariant.1.0

pub loop-run-preserved : goal.loop-run-preserved
loop-run-preserved g c =
    let run = c.in-Some.run' in (
      c.in-Some.ensures.utf8,
      (
        λ d more e. none-ignored c.take_run.new.self.parser.ignores_newline d c.in_ok-take_run.ensures.newline,
        rest-taken c.loop-run.rest.now run.text.now run.rest.now c.loop-run.self c.take_run.new.self c.in-Some.ensures.whole
            c.in_ok-take_run.ensures.parser ∙ c.loop-run.invariant.1.1,
      ),
    )

pub returns : goal.returns
returns g c =
    sym (none-taken c.loop-run.rest.now c.loop-run.self c.in_default.ensures.none) ∙ c.loop-run.invariant.1.1
