use Rattle.std.proofs.Common.{sym, ap, ◌∙◌}
use Rattle.std.specs.Prelude.{option_map}
use Rattle.html5table.specs.Listed.{entry_with}
use Rattle.html5table.proofs.Entries.{entry_of_parts, entry_said-split, texts_of}
use Rattle.html5table.proofs.entry.parts_of.Goals as goal

pub returns-in_default : goal.returns-in_default
returns-in_default c =
    ap (λ r. entry_of_parts (texts_of r)) (sym c.in_default.is)
    ∙ sym (entry_said-split c.args.entry.now c.split_once.result c.split_once.ensures.byte)

pub returns-in_default-characters_of : goal.returns-in_default-characters_of
returns-in_default-characters_of c =
    ap (option_map (λ characters. entry_with c.in-Some.name.now characters.0 characters.1)) (sym c.in_default-characters_of.is ∙ c.characters_of.ensures)
    ∙ ap (λ r. entry_of_parts (texts_of r)) (sym c.in-Some.is)
    ∙ sym (entry_said-split c.args.entry.now c.split_once.result c.split_once.ensures.byte)

pub returns : goal.returns
returns c =
    ap (option_map (λ characters. entry_with c.in-Some.name.now characters.0 characters.1)) (sym c.in-Some-characters_of.is ∙ c.characters_of.ensures)
    ∙ ap (λ r. entry_of_parts (texts_of r)) (sym c.in-Some.is)
    ∙ sym (entry_said-split c.args.entry.now c.split_once.result c.split_once.ensures.byte)
