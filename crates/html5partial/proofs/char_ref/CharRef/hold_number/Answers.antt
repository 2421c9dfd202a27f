use Rattle.std.proofs.Common.{string_bytes, arith}
use Rattle.html5partial.proofs.Held.{held-number_pushed, pushed_bytes}
use Rattle.html5partial.proofs.char_ref.CharRef.hold_number.Goals as goal

pub invariant_of-self-2 : goal.invariant_of-self-2
invariant_of-self-2 g c =
    held-number_pushed (string_bytes c.self.inside.held) c.args.self.now (string_bytes c.push.new.self) c.args.c c.self.inside.is_alphanumeric c.self.view_is
    (pushed_bytes _ _ _ c.args.c c.in_ok-push.ensures.bytes (c.push.ensures.ascii (omega (arith, c.requires.plain.1)))) c.self.invariant c.requires.plain c.requires.number c.requires.is_number
