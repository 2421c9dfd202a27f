use Rattle.std.proofs.Common.{sym, ap, ◌∙◌}
use Rattle.html5table.specs.Listed.{characters_said_by}
use Rattle.html5table.proofs.Entries.{characters_said-split, texts_of}
use Rattle.html5table.proofs.entry.characters_of.Goals as goal

pub returns-in-Some : goal.returns-in-Some
returns-in-Some c =
    c.two_characters.ensures c.args.text.now
    ∙ ap (λ r. characters_said_by c.args.text.now (texts_of r)) (sym c.in-Some.is)
    ∙ sym (characters_said-split c.args.text.now c.split_once.result c.split_once.ensures.byte)

pub returns-in-None : goal.returns-in-None
returns-in-None c =
    c.one_character.ensures
    ∙ ap (λ r. characters_said_by c.args.text.now (texts_of r)) (sym c.in-None.is)
    ∙ sym (characters_said-split c.args.text.now c.split_once.result c.split_once.ensures.byte)
