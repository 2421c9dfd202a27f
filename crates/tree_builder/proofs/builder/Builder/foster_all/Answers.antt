use Rattle.std.proofs.Common.{ap, sym, ◌∙◌}
use Rattle.tree_construction.specs.Tables.{flushed_fostered}
use Rattle.tree_builder.specs.Built.{on_parser}
use Rattle.tree_builder.proofs.Pending.{flushed-append, flushed_none}
use Rattle.tree_builder.proofs.builder.Builder.foster_all.Goals as goal

pub first_run-requires-text-text : goal.first_run-requires-text-text
first_run-requires-text-text g c = λ _. c.loop-run.invariant.0

pub loop-run-preserved : goal.loop-run-preserved
loop-run-preserved g c =
    let p = c.loop-run.self.parser in
    let run = c.in-Some.run' in (
      c.in-Some.ensures.utf8,
      ap (on_parser (flushed_fostered run.rest.now)) c.in_ok-foster_run.ensures
          ∙ (ap (λ q. record c.loop-run.self { parser = q })
          (sym (flushed-append run.text.now run.rest.now p) ∙ ap (λ t. flushed_fostered t p) c.in-Some.ensures.whole)
          ∙ c.loop-run.invariant.1),
    )

pub returns : goal.returns
returns g c =
    let p = c.loop-run.self.parser in
    sym (ap (λ q. record c.loop-run.self { parser = q }) (ap (λ t. flushed_fostered t p) c.in_default.ensures.none ∙ flushed_none p))
    ∙ c.loop-run.invariant.1
