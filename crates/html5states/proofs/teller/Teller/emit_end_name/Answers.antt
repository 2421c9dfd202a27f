use Rattle.std.proofs.Common.{◌≡◌, ◌∷◌, ◌++◌, ap, ◌∙◌, string_bytes}
use Rattle.std.specs.Str.{chars}
use Rattle.html5reading.specs.Characters.{less_than, solidus}
use Rattle.html5reading.specs.RawText.{texts}
use Rattle.html5partial.proofs.HeldLetters.{chars-end_name}
use Rattle.html5partial.proofs.Keywords.{cons≢nil}
use Rattle.html5states.proofs.teller.Teller.emit_end_name.Goals as goal

pub emit-requires-clause-filled : goal.emit-requires-clause-filled
emit-requires-clause-filled g c =
    let text : chars (string_bytes c.push_str.new.self) ≡ less_than ∷ solidus ∷ chars c.args.letters.now =
    ap chars (c.in_ok-push_str.ensures.bytes ∙ ap (λ l. l ++ c.args.letters.now) c.in_ok-text.ensures.ok) ∙ chars-end_name c.args.letters.now in
    rw text (cons≢nil _ _)

pub returns : goal.returns
returns g c =
    let text : chars (string_bytes c.push_str.new.self) ≡ less_than ∷ solidus ∷ chars c.args.letters.now =
    ap chars (c.in_ok-push_str.ensures.bytes ∙ ap (λ l. l ++ c.args.letters.now) c.in_ok-text.ensures.ok) ∙ chars-end_name c.args.letters.now in
    rw (ap texts text) at c.emit.ensures
