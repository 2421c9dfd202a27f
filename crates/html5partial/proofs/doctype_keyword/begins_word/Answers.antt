use Rattle.std.proofs.Common.{take, length, ap, sym, ◌∙◌}
use Rattle.std.specs.Prelude.{nat_eq}
use Rattle.std.specs.Char.{to_ascii_lowercase}
use Rattle.std.specs.Cmp.Lexicographic.{pointwise}
use Rattle.std.proofs.lemmas.List.{take-map, length-map}
use Rattle.html5reading.specs.Characters.{lower_case}
use Rattle.html5partial.proofs.Keywords.{test-is}
use Rattle.html5partial.proofs.doctype_keyword.begins_word.Goals as goal

pub returns-then-held-le6 : goal.returns-then-held-le6
returns-then-held-le6 c =
    let held = c.args.held.now in
    let word = c.args.word.now in
    test-is c.eq_ignore_ascii_case.result _ _ c.eq_ignore_ascii_case.ensures.test
    ∙ ap (pointwise nat_eq (lower_case held))
    (sym (take-map to_ascii_lowercase (length held) word) ∙ ap (take (length held)) c.requires ∙ ap (λ n. take n word) (sym (length-map held to_ascii_lowercase)))
