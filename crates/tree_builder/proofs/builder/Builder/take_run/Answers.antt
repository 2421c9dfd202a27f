use Rattle.std.specs.Prelude.{map}
use Rattle.std.proofs.Common.{ap, sym, ◌∙◌}
use Rattle.tree_construction.specs.Construction.{run}
use Rattle.tree_construction.specs.Tokens.Token.{Character}
use Rattle.tree_builder.proofs.Processing.{built_is}
use Rattle.tree_builder.proofs.RunSteps.{first_on, next_on, no-newline, runs-end}
use Rattle.tree_builder.proofs.builder.Builder.take_run.Goals as goal

pub loop-init : goal.loop-init
loop-init g c = (
  first_on c.args.class c.args.self.now.parser c.begin_token.new.self.parser (ap (λ b. b.parser) c.begin_token.ensures),
  ap (λ b. b.telling) c.begin_token.ensures,
)

pub returns-then-branch-clause-parser : goal.returns-then-branch-clause-parser
returns-then-branch-clause-parser g c =
    let p = c.args.self.now.parser in
    let done = c.in_ok-text_row.ensures.done c.if-branch.true in
    built_is c.text_row.new.self c.args.self.now (run (map (λ d. Character d) c.args.text.now) p)
    (ap (λ b. b.parser) done.1.0
    ∙ sym (runs-end c.args.class done.0 c.args.text.now p c.loop.self.parser c.loop.counter c.requires.some c.requires.all c.requires.kept
    c.loop.invariant.0 done.1.1))
    (ap (λ b. b.telling) done.1.0 ∙ c.loop.invariant.1)

pub returns-then-branch-clause-newline : goal.returns-then-branch-clause-newline
returns-then-branch-clause-newline g c =
    let done = c.in_ok-text_row.ensures.done c.if-branch.true in
    ap (λ b. b.parser.ignores_newline) done.1.0
    ∙ no-newline c.args.class done.0 c.args.text.now c.loop.self.parser c.requires.some c.requires.all done.1.1

pub loop-preserved : goal.loop-preserved
loop-preserved g c =
    let later = c.in_ok-text_row.ensures.again c.if-branch.false in (
      next_on c.args.class c.args.self.now.parser c.loop.self.parser c.text_row.new.self.parser c.loop.counter c.loop.invariant.0 later.0
          (ap (λ b. b.parser) later.1),
      ap (λ b. b.telling) later.1 ∙ c.loop.invariant.1,
    )
