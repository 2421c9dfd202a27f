use Rattle.std.proofs.Common.{sym, ap, ◌∙◌, rules, tests}
use Rattle.std.specs.Char.{is_ascii_digit}
use Rattle.std.proofs.lemmas.Iterator.Adapters.{YieldsList-from_bytes}
use Rattle.std.proofs.lemmas.Iterator.Search.{all_from_yields_List}
use Rattle.html5cli.proofs.SettingsLemmas.{list_all-digits, cut_said-no_digits, cut_said-parsed, parsed_cut, parsed_cut-positive}
use Rattle.html5cli.proofs.arguments.cut_of.Goals as goal

pub returns-then-not-all-clause-said : goal.returns-then-not-all-clause-said
returns-then-not-all-clause-said c =
    let e = all_from_yields_List is_ascii_digit _ _ _ c.all.ensures.ran (YieldsList-from_bytes c.args.digits.now cc) (λ x b q k. search (rules, tests)) ∙ list_all-digits c.args.digits.now in
    sym (cut_said-no_digits c.args.digits.now (sym e ∙ search rules))

pub returns-in_default-clause-said : goal.returns-in_default-clause-said
returns-in_default-clause-said c =
    let e = all_from_yields_List is_ascii_digit _ _ _ c.all.ensures.ran (YieldsList-from_bytes c.args.digits.now cc) (λ x b q k. search (rules, tests)) ∙ list_all-digits c.args.digits.now in
    sym (cut_said-parsed c.args.digits.now c.parse.result (sym e ∙ search rules) c.parse.ensures.value.0 ∙ ap parsed_cut c.in_default.is)

pub returns-clause-said : goal.returns-clause-said
returns-clause-said c =
    let e = all_from_yields_List is_ascii_digit _ _ _ c.all.ensures.ran (YieldsList-from_bytes c.args.digits.now cc) (λ x b q k. search (rules, tests)) ∙ list_all-digits c.args.digits.now in
    sym (cut_said-parsed c.args.digits.now c.parse.result (sym e ∙ search rules) c.parse.ensures.value.0 ∙ parsed_cut-positive c.parse.result c.in-Ok.cut c.in-Ok.is (search rules))
