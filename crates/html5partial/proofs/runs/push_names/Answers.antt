use Rattle.std.proofs.Common.{◌≡◌, ◌++◌, true, string_bytes, sym, ap, ◌∙◌}
use Rattle.std.specs.List.{list_all}
use Rattle.html5partial.specs.Runs.{stays_in_names}
use Rattle.html5partial.proofs.PlainNames.{plain-run}
use Rattle.html5partial.proofs.runs.push_names.Goals as goal

pub returns : goal.returns
returns g c =
    let plain : list_all stays_in_names c.args.run.now ≡ true =
    ap (list_all stays_in_names) (sym c.as_bytes.ensures.value) ∙ sym c.if-not-is_plain_name.ensures in
    c.in_ok-push_text.ensures.bytes ∙ ap (λ l. string_bytes c.args.name.now ++ l) (sym (plain-run c.args.run.now c.utf8.run plain))
