use Rattle.std.specs.Prelude.{None}
use Rattle.std.proofs.lemmas.Result.{on_ok_weaker}
use Rattle.tree_builder.specs.Built.{options_of}
use Rattle.tree_documents.proofs.Whole.{document-start}
use Rattle.tree_documents.proofs.document.parse_document.Goals as goal

pub returns : goal.returns
returns g c = record {
  builds = on_ok_weaker c.parse.result.1 (λ h opts parser_is. h (options_of opts None) parser_is (document-start opts)) c.parse.ensures;
}
