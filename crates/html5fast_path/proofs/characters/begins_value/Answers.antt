use Rattle.std.proofs.lemmas.Str.{IsCharBoundary-from_drop}
use Rattle.html5fast_path.specs.Quiet.{BeginsWithCharacter}
use Rattle.html5fast_path.proofs.characters.begins_value.Goals as goal

pub range_from-requires : goal.range_from-requires
range_from-requires c = λ some.
    let begins : BeginsWithCharacter c.args.text.now c.in-Some-eq61.field-0 = c.in-Some-eq61.ensures in
    IsCharBoundary-from_drop c.args.text.now 1 begins.within begins.rest_utf8
