use Rattle.std.proofs.Common.{◌∙◌, sym}
use Rattle.html5fast_path.proofs.Beginnings.{first-parts, no_character}
use Rattle.html5fast_path.proofs.texts.first_len.Goals as goal

pub returns-in-Some-clause-rest_utf8 : goal.returns-in-Some-clause-rest_utf8
returns-in-Some-clause-rest_utf8 c =
    rw c.len_utf8.ensures.len (first-parts c.args.text.now c.next.new.self.rest.now c.in-Some.c c.utf8.text (sym c.chars.ensures.rest ∙ c.in-Some.ensures.steps.0)).0

pub returns-in-Some-clause-one : goal.returns-in-Some-clause-one
returns-in-Some-clause-one c =
    rw c.len_utf8.ensures.len (first-parts c.args.text.now c.next.new.self.rest.now c.in-Some.c c.utf8.text (sym c.chars.ensures.rest ∙ c.in-Some.ensures.steps.0)).1

pub returns-in-None-clause-one : goal.returns-in-None-clause-one
returns-in-None-clause-one c = no_character
