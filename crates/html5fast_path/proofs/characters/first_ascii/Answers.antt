use Rattle.std.proofs.Common.{sym, subst, ◌∙◌, length}
use Rattle.std.proofs.lemmas.Bool.{ltb-true}
use Rattle.html5fast_path.specs.Quiet.{BeginsWithCharacter}
use Rattle.html5fast_path.proofs.Beginnings.{ascii-begins}
use Rattle.html5fast_path.proofs.characters.first_ascii.Goals as goal

pub returns : goal.returns
returns c =
    let text = c.as_bytes.result.now in
    let first = c.in-Some.first.now in
    rw c.from.ensures
    (subst (λ bytes. BeginsWithCharacter bytes first) c.as_bytes.ensures.value
    (ascii-begins text first c.as_bytes.ensures.utf8 (ltb-true 0 (length text) (sym c.in-Some.ensures.item.0)) c.in-Some.ensures.item.1 (sym c.is_ascii.ensures ∙ c.if-not-is_ascii.false)))
