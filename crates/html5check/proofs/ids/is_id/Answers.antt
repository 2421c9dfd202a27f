use Rattle.std.proofs.Common.{not, sym, ◌∙◌, rules}
use Rattle.std.proofs.lemmas.Iterator.Adapters.{YieldsList-from_bytes}
use Rattle.std.proofs.lemmas.Iterator.Search.{all_from_yields_List}
use Rattle.html5check.specs.Ids.{is_white_space}
use Rattle.html5check.proofs.Identities.{some-id}
use Rattle.html5check.proofs.ids.is_id.Goals as goal

pub returns-then-not-is_empty : goal.returns-then-not-is_empty
returns-then-not-is_empty c =
    all_from_yields_List (λ byte. not (is_white_space byte)) _ _ c.all.result c.all.ensures.ran (YieldsList-from_bytes c.args.value.now c.bytes.ensures.rest) (λ x b q called. search rules)
    ∙ some-id c.args.value.now (sym c.is_empty.ensures ∙ c.if-not-is_empty.true)
