use Rattle.std.proofs.Common.{◌≤◌, sym, ◌∙◌, arith}
use Rattle.html5partial.proofs.Numbers.{character-itself, is_no_character-scalar}
use Rattle.html5partial.proofs.number.Number.character.Goals as goal

pub returns-in-Err : goal.returns-in-Err
returns-in-Err c =
    let number = c.args.self.now.value in
    let big : 256 ≤ number = omega (arith, c.in-Err.ensures) in
    c.in-Some.ensures.value.1 ∙ sym (character-itself number big (is_no_character-scalar number c.in-Some.ensures.value.0))
