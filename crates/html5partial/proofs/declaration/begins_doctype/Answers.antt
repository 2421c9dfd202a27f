use Rattle.std.proofs.Common.{take, length, ap, sym, ◌∙◌}
use Rattle.std.specs.Prelude.{codes, nat_eq}
use Rattle.std.specs.Char.{to_ascii_lowercase}
use Rattle.std.specs.Cmp.Lexicographic.{pointwise}
use Rattle.std.proofs.lemmas.List.{take-map, length-map}
use Rattle.html5reading.specs.Characters.{lower_case}
use Rattle.html5partial.proofs.Keywords.{test-is}
use Rattle.html5partial.proofs.declaration.begins_doctype.Goals as goal

pub returns-then-held-le7 : goal.returns-then-held-le7
returns-then-held-le7 c =
    let held = c.args.held.now in
    test-is c.eq_ignore_ascii_case.result _ _ c.eq_ignore_ascii_case.ensures.test
    ∙ ap (pointwise nat_eq (lower_case held))
    (sym (take-map to_ascii_lowercase (length held) (codes "doctype")) ∙ ap (λ n. take n (codes "doctype")) (sym (length-map held to_ascii_lowercase)))
