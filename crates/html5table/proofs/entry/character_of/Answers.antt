use Rattle.std.proofs.Common.{sym, ap, ◌∙◌, rules}
use Rattle.html5table.proofs.Entries.{character_at-from_u32, character_said-none, character_said-parsed, parsed_character}
use Rattle.html5table.proofs.entry.character_of.Goals as goal

pub returns-then-not-is_hexadecimal : goal.returns-then-not-is_hexadecimal
returns-then-not-is_hexadecimal c = sym (character_said-none c.args.digits.now (search rules))

pub returns-in-Ok : goal.returns-in-Ok
returns-in-Ok c =
    character_at-from_u32 c.in-Ok.number c.from_u32.result c.from_u32.ensures.value c.from_u32.ensures.cases
    ∙ ap parsed_character (sym c.in-Ok.is)
    ∙ character_said-parsed c.args.digits.now c.from_str_radix.result (search rules) c.from_str_radix.ensures.value

pub returns-in-Err : goal.returns-in-Err
returns-in-Err c =
    ap parsed_character (sym c.in-Err.is)
    ∙ character_said-parsed c.args.digits.now c.from_str_radix.result (search rules) c.from_str_radix.ensures.value
