use Rattle.std.specs.Prelude.{◌&&◌, not, if◌then◌else◌}
use Rattle.std.proofs.Common.{ap, sym, ◌∙◌}
use Rattle.std.proofs.lemmas.Result.{on_ok_weaker}
use Rattle.tree_construction.specs.Construction.{enough, process}
use Rattle.tree_construction.specs.Parser.{Parser, mistaken}
use Rattle.tree_construction.specs.Tokens.Token.{StartTag}
use Rattle.tree_construction.specs.declared.mistakes.Mistake.TheVariants.{TrailingSolidus}
use Rattle.tree_builder.specs.Built.{on_parser, tag_of}
use Rattle.tree_builder.proofs.Processing.{step_start}
use Rattle.tree_builder.proofs.builder.Builder.take_start_tag.Goals as goal

pub returns : goal.returns
returns g c =
    let now = c.args.self.now in
    let tag = tag_of g.T.TagAttributes.said c.args.tag in
    let close : Parser → Parser = λ p. if tag.self_closing && not p.acknowledged then mistaken TrailingSolidus p else p in
    on_ok_weaker c.expect_acknowledged.result
    (λ e. e ∙ (ap (on_parser close) c.in_ok-process_start.ensures.parser
    ∙ (ap (λ b. on_parser close (on_parser (λ p. process (enough p) (StartTag tag) p) b)) c.begin_token.ensures
    ∙ ap (λ q. record now { parser = q }) (sym (step_start tag now.parser)))))
    c.expect_acknowledged.ensures
