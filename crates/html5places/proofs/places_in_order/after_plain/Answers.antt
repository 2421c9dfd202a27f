use Rattle.std.proofs.Common.{ap, subst, sym, ◌∙◌, ◌++◌, take, drop}
use Rattle.std.specs.Str.{IsUtf8, chars}
use Rattle.std.proofs.lemmas.List.{take-append-drop}
use Rattle.std.proofs.lemmas.Str.{IsCharBoundary-from_drop}
use Rattle.html5places.proofs.Advancing.{plain-front}
use Rattle.html5places.proofs.places_in_order.after_plain.Goals as goal

pub range_from-requires : goal.range_from-requires
range_from-requires c =
    let text = c.args.text.now in
    let parts = take-append-drop c.args.len text in
    λ some. IsCharBoundary-from_drop text c.args.len c.requires.within (plain-front (take c.args.len text) (drop c.args.len text) c.requires.plain (subst IsUtf8 (sym parts) c.utf8.text)).0

pub returns : goal.returns
returns c =
    let text = c.args.text.now in
    let parts = take-append-drop c.args.len text in
    ap chars (sym parts) ∙ (plain-front (take c.args.len text) (drop c.args.len text) c.requires.plain (subst IsUtf8 (sym parts) c.utf8.text)).1
    ∙ ap (λ rest. take c.args.len text ++ chars rest) (sym c.range_from.ensures.value)
