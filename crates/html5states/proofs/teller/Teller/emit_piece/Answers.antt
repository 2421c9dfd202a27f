use Rattle.std.proofs.Common.{◌≡◌, [], refl, string_bytes, length, rules, arith}
use Rattle.std.proofs.lemmas.List.{nil_from_length}
use Rattle.std.proofs.lemmas.Str.{IsUtf8-string_bytes, chars-nil}
use Rattle.html5ever_interface.specs.Sink.{stepped}
use Rattle.html5states.proofs.Tellings.{filled-text}
use Rattle.html5states.proofs.teller.Teller.emit_piece.Goals as goal

pub hand_on-requires-clause-filled : goal.hand_on-requires-clause-filled
hand_on-requires-clause-filled g c = filled-text (string_bytes c.args.text) (IsUtf8-string_bytes c.args.text) (search rules)

pub returns-then-is_empty : goal.returns-then-is_empty
unfolding stepped
returns-then-is_empty g c =
    let none : length (string_bytes c.args.text) ≡ 0 = search rules in
    let empty : string_bytes c.args.text ≡ [] = nil_from_length (string_bytes c.args.text) none in
    rw (empty, chars-nil) (record { tells = refl; refusal = tt; faults = omega arith; kept = record { sink = refl; line = refl; exact_errors = refl } })
