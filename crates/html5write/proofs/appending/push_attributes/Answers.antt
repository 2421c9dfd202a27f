use Rattle.std.proofs.Common.{◌+◌, ◌++◌, string_bytes, drop, map, refl, sym, ap, ◌∙◌, append_assoc}
use Rattle.std.specs.Prelude.{encode_utf8_all, flat_map}
use Rattle.std.proofs.lemmas.Result.{err_from_is_err_and}
use Rattle.markup5ever.proofs.Beginnings.{BeginsWith-append, BeginsWith-equal, BeginsWith-trans}
use Rattle.html5write.specs.Pieces.{attribute_text}
use Rattle.html5write.specs.Writing.{attribute_of}
use Rattle.html5write.proofs.Bytes.{bytes-attributes}
use Rattle.html5write.proofs.appending.push_attributes.Goals as goal

pub loop-attribute-init : goal.loop-attribute-init
loop-attribute-init g c = (refl, BeginsWith-equal _ _ refl)

pub returns-in_err-push_attribute-clause-err : goal.returns-in_err-push_attribute-clause-err
returns-in_err-push_attribute-clause-err g c =
    let failed = err_from_is_err_and c.from_residual.result c.from_residual.ensures.1 in
    rw failed.1 (BeginsWith-trans _ _ _ c.in_err-push_attribute.ensures.err c.loop-attribute.invariant.1)

pub loop-attribute-preserved : goal.loop-attribute-preserved
loop-attribute-preserved g c =
    let i = c.loop-attribute.attribute-index in
    let out = string_bytes c.loop-attribute.out in
    let later = encode_utf8_all (flat_map attribute_text (map attribute_of (drop (i + 1) c.args.attributes.now))) in (
      ap (λ l. l ++ later) c.in_ok-push_attribute.ensures.ok
          ∙ append_assoc out _ later
          ∙ ap (λ l. out ++ l) (sym (bytes-attributes i c.args.attributes.now _ c.loop-attribute-test.true))
          ∙ c.loop-attribute.invariant.0,
      BeginsWith-trans _ _ _ (BeginsWith-append _ _ _ c.in_ok-push_attribute.ensures.ok) c.loop-attribute.invariant.1,
    )
