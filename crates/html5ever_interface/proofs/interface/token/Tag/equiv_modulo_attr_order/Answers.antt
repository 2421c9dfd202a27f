use Rattle.std.proofs.Common.{◌≡◌, string_bytes, sym, ◌∙◌}
use Rattle.std.proofs.lemmas.Bool.{false≢true}
use Rattle.std.proofs.lemmas.Slice.Eq.{bytes_eq-Decides}
use Rattle.html5ever_interface.specs.contracts.interface.token.TagKind.{the_type}
use Rattle.html5ever_interface.proofs.interface.token.Tag.equiv_modulo_attr_order.Goals as goal
use Rattle.html5ever_interface.proofs.interface.token.Tag.equiv_modulo_attr_order.Goals.{then-eq, else-eq}
use denote.Enum.Bare.{same_true}

pub returns-then-eq-2 : goal.returns-then-eq-2
returns-then-eq-2 g c =
    let alike : (c.args.self.now.kind ≡ c.args.other.now.kind) × (string_bytes c.args.self.now.name.0 ≡ string_bytes c.args.other.now.name.0) =
    elim c.if-eq.branch [
      | then-eq w ↦ (
        same_true the_type tt _ _ (sym c.eq.ensures ∙ w.if-eq.true),
        (bytes_eq-Decides _ _).0 (sym w.eq-then-eq.ensures ∙ sym w.value-is ∙ c.if-eq-2.true),
      )
      | else-eq w ↦ absurd (false≢true (sym w.if-eq.false ∙ sym w.value-is ∙ c.if-eq-2.true))
    ] in
    let permuted = rw (c.deref.ensures.value, c.deref-then-eq-2.ensures.value) at c.is_permutation.ensures in
    (λ said. record { kind = alike.0; name = alike.1; attributes = permuted.0 said }, λ same. permuted.1 same.attributes)
