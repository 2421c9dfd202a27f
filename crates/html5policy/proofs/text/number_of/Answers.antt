use Rattle.std.proofs.Common.{sym, ap, ◌∙◌, rules, tests}
use Rattle.std.specs.Char.{is_ascii_digit}
use Rattle.std.proofs.lemmas.Iterator.Adapters.{YieldsList-from_bytes}
use Rattle.std.proofs.lemmas.Iterator.Search.{all_from_yields_List}
use Rattle.html5policy.proofs.Numbers.{list_all-digits, number-no_digits, number-parsed, parsed_number, parsed-positive}
use Rattle.html5policy.proofs.text.number_of.Goals as goal

pub returns-then-not-all : goal.returns-then-not-all
returns-then-not-all c =
    let e = all_from_yields_List is_ascii_digit _ _ _ c.all.ensures.ran (YieldsList-from_bytes c.args.digits.now cc) (λ x b q k. search (rules, tests)) ∙ list_all-digits c.args.digits.now in
    sym (number-no_digits c.args.digits.now (sym e ∙ search rules))

pub returns-in_default : goal.returns-in_default
returns-in_default c =
    let e = all_from_yields_List is_ascii_digit _ _ _ c.all.ensures.ran (YieldsList-from_bytes c.args.digits.now cc) (λ x b q k. search (rules, tests)) ∙ list_all-digits c.args.digits.now in
    sym (number-parsed c.args.digits.now c.parse.result (sym e ∙ search rules) c.parse.ensures.value.0 ∙ ap parsed_number c.in_default.is)

pub returns : goal.returns
returns c =
    let e = all_from_yields_List is_ascii_digit _ _ _ c.all.ensures.ran (YieldsList-from_bytes c.args.digits.now cc) (λ x b q k. search (rules, tests)) ∙ list_all-digits c.args.digits.now in
    sym (number-parsed c.args.digits.now c.parse.result (sym e ∙ search rules) c.parse.ensures.value.0 ∙ parsed-positive c.parse.result c.in-Ok.number c.in-Ok.is (search rules))
