use Rattle.std.proofs.Common.{◌≡◌, true, take}
use Rattle.std.specs.Char.{is_ascii_alphanumeric}
use Rattle.std.specs.List.{list_all}
use Rattle.html5partial.proofs.char_ref.letters_len.Given as goal

-- so far all are letters and digits
abbrev pub invariant-loop-at : goal.invariant-loop-at
invariant-loop-at l = list_all is_ascii_alphanumeric (take l.at l.bytes) ≡ true
