use Rattle.std.specs.Prelude.{Some}
use Rattle.std.proofs.lemmas.Result.{on_ok_weaker}
use Rattle.tree_builder.specs.Built.{options_of}
use Rattle.tree_documents.proofs.Whole.{fragment-start}
use Rattle.tree_documents.proofs.document.parse_fragment.Goals as goal

pub returns : goal.returns
returns g c = record {
  builds = on_ok_weaker c.parse.result.1
      (λ h parser_is. h (options_of c.args.opts (Some c.args.context)) parser_is
      (fragment-start c.initial_state-state.result c.args.opts c.args.context c.initial_state-state.ensures.state))
      c.parse.ensures;
}
