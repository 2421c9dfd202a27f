use Rattle.std.proofs.Common.{[], ◌∷◌, ◌++◌, map, string_bytes, ap, ◌∙◌, arith}
use Rattle.std.proofs.lemmas.Result.{on_ok_weaker, on_err_weaker}
use Rattle.html5ever_interface.specs.Collected.{message_of}
use Rattle.html5ever_interface.proofs.Entries.{ok_from_if, err_from_if, set-same, with_text-set, map-set_same, with_text-push, with_text-none}
use Rattle.html5ever_interface.specs.declared.interface.token.Token.TheVariants.{CharacterTokens}
use Rattle.html5ever_interface.proofs.collect.push_text.Goals as goal

pub returns-in_default-clause-ok : goal.returns-in_default-clause-ok
returns-in_default-clause-ok g c =
    on_ok_weaker c.push_entry.result
    (λ pushed. ap (λ l. map message_of l) pushed ∙ with_text-none _ _ (omega arith))
    c.push_entry.ensures.ok

pub returns-in-CharacterTokens-clause-ok : goal.returns-in-CharacterTokens-clause-ok
returns-in-CharacterTokens-clause-ok g c =
    on_ok_weaker c.push_str.result
    (λ bytes. with_text-set _ _ _ _ _ _ (omega arith) c.index_mut.ensures.value c.in-CharacterTokens.is (bytes ∙ ap (λ t. string_bytes c.in-CharacterTokens.before ++ t) c.deref.ensures))
    (ok_from_if c.push_str.result _ _ _ c.push_str.ensures.bytes)

pub returns-in-CharacterTokens-clause-err : goal.returns-in-CharacterTokens-clause-err
returns-in-CharacterTokens-clause-err g c =
    on_err_weaker c.push_str.result
    (λ bytes. map-set_same _ _ _ _ _ c.index_mut.ensures.value c.in-CharacterTokens.is bytes)
    (err_from_if c.push_str.result _ _ _ c.push_str.ensures.bytes)

pub returns-in_default-0₀ : goal.returns-in_default-0₀
returns-in_default-0₀ g c = record {
  ok = on_ok_weaker c.push_entry-in_default-0₀.result
      (λ pushed. ap (λ l. map message_of l) (pushed ∙ ap (λ l. l ++ (CharacterTokens c.args.text, 0) ∷ []) (set-same _ _ _ c.index_mut.ensures.value)) ∙ with_text-push _ _ _ _ (omega arith) c.index_mut.ensures.value c.in_default-0₀.not-CharacterTokens)
      c.push_entry-in_default-0₀.ensures.ok;
  err = on_err_weaker c.push_entry-in_default-0₀.result
      (λ same. ap (λ l. map message_of l) (same ∙ set-same _ _ _ c.index_mut.ensures.value))
      c.push_entry-in_default-0₀.ensures.err;
}
