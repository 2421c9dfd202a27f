use Rattle.std.proofs.Common.{◌≡◌, ◌∷◌, [], ◌++◌, ◌&&◌, string_bytes, ap, arith, ◌∙◌, subst, sym}
use Rattle.std.specs.Str.{IsAscii}
use Rattle.html5partial.proofs.Held.{held-name_pushed, undecided-name_pushed, pushed_bytes, plain-name, IsAscii-plain}
use Rattle.html5partial.proofs.char_ref.CharRef.hold_name.Goals as goal

pub is_undecided_name-undecided-requires : goal.is_undecided_name-undecided-requires
is_undecided_name-undecided-requires g c =
    let plain = plain-name c.args.c c.requires.plain in
    let push : string_bytes c.push.new.self ≡ string_bytes c.self.inside.held ++ c.args.c ∷ [] = pushed_bytes _ _ _ c.args.c c.in_ok-push.ensures.bytes (c.push.ensures.ascii (omega (arith, plain.0.1))) in
    let held = held-name_pushed (string_bytes c.self.inside.held) c.args.self.now (string_bytes c.push.new.self) c.args.c c.self.inside.is_alphanumeric _ c.self.view_is push c.self.invariant
    c.requires.no_number c.requires.plain (ap (λ b. c.self.inside.is_alphanumeric && b) c.is_ascii_alphanumeric.ensures.value) in
    subst IsAscii (sym c.deref.ensures) (IsAscii-plain (string_bytes c.push.new.self) held.plain)

pub invariant_of-self-then-undecided : goal.invariant_of-self-then-undecided
invariant_of-self-then-undecided g c =
    let plain = plain-name c.args.c c.requires.plain in
    let push : string_bytes c.push.new.self ≡ string_bytes c.self.inside.held ++ c.args.c ∷ [] = pushed_bytes _ _ _ c.args.c c.in_ok-push.ensures.bytes (c.push.ensures.ascii (omega (arith, plain.0.1))) in
    held-name_pushed (string_bytes c.self.inside.held) c.args.self.now (string_bytes c.push.new.self) c.args.c c.self.inside.is_alphanumeric _ c.self.view_is push c.self.invariant
    c.requires.no_number c.requires.plain (ap (λ b. c.self.inside.is_alphanumeric && b) c.is_ascii_alphanumeric.ensures.value)

pub returns-then-undecided-clause-undecided : goal.returns-then-undecided-clause-undecided
returns-then-undecided-clause-undecided g c =
    let plain = plain-name c.args.c c.requires.plain in
    let push : string_bytes c.push.new.self ≡ string_bytes c.self.inside.held ++ c.args.c ∷ [] = pushed_bytes _ _ _ c.args.c c.in_ok-push.ensures.bytes (c.push.ensures.ascii (omega (arith, plain.0.1))) in
    undecided-name_pushed c.args.references.now (string_bytes c.self.inside.held) c.args.self.now c.deref.result.now c.args.c c.self.inside.is_alphanumeric _ c.is_undecided_name-undecided.result c.self.view_is
    (c.deref.ensures ∙ push) c.self.invariant c.requires.no_number c.requires.plain (ap (λ b. c.self.inside.is_alphanumeric && b) c.is_ascii_alphanumeric.ensures.value) c.is_undecided_name-undecided.ensures

pub returns-else-undecided-clause-undecided : goal.returns-else-undecided-clause-undecided
returns-else-undecided-clause-undecided g c =
    let plain = plain-name c.args.c c.requires.plain in
    let push : string_bytes c.push.new.self ≡ string_bytes c.self.inside.held ++ c.args.c ∷ [] = pushed_bytes _ _ _ c.args.c c.in_ok-push.ensures.bytes (c.push.ensures.ascii (omega (arith, plain.0.1))) in
    undecided-name_pushed c.args.references.now (string_bytes c.self.inside.held) c.args.self.now c.deref.result.now c.args.c c.self.inside.is_alphanumeric _ c.is_undecided_name-undecided.result c.self.view_is
    (c.deref.ensures ∙ push) c.self.invariant c.requires.no_number c.requires.plain (ap (λ b. c.self.inside.is_alphanumeric && b) c.is_ascii_alphanumeric.ensures.value) c.is_undecided_name-undecided.ensures
