use Rattle.std.proofs.Common.{◌++◌, string_bytes, sym, ap, ◌∙◌}
use Rattle.std.proofs.lemmas.List.Sums.{list_all-from_AllPass}
use Rattle.html5partial.specs.Runs.{stays_in_names}
use Rattle.html5partial.proofs.PlainNames.{plain-run}
use Rattle.html5partial.proofs.runs.push_front.Goals as goal

pub returns : goal.returns
returns g c =
    c.in_ok-push_text.ensures.bytes
    ∙ ap (λ l. string_bytes c.args.name.now ++ l)
    (sym (plain-run c.args.front.now c.utf8.front (list_all-from_AllPass stays_in_names c.args.front.now (c.requires c.if-not-is_plain.false))))
