-- Tokens of JSON that are written one after another.
use Rattle.std.proofs.Common.{◌≡◌, List, ◌++◌, Result, append_assoc, ap, ◌∙◌}
use Rattle.std.proofs.lemmas.Result.{on_ok_weaker}
use Rattle.html5json.specs.Adding.{Adds}
use Rattle.json.specs.Token.{Token}
use Rattle.json.specs.Written.{Written}

-- some tokens, and then others
pub adds_after : {E : Type 0} (result : Result (Unit {0}) E) (before middle after : Written) (first rest : List Token)
    → middle.tokens ≡ before.tokens ++ first → middle.before ≡ before.before → Adds result middle after rest
    → Adds result before after (first ++ rest)
adds_after result before middle after first rest ok kept more = record {
  ok = on_ok_weaker result (λ e. e ∙ ap (λ l. l ++ rest) ok ∙ append_assoc before.tokens first rest) more.ok;
  kept = more.kept ∙ kept;
}
