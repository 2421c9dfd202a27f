use Rattle.std.proofs.Common.{◌++◌, string_bytes, sym, ap, ◌∙◌, subst}
use Rattle.html5write.specs.Writing.{IsTextOf}
use Rattle.html5write.proofs.PiecesLemmas.{written-joined}
use Rattle.html5write.proofs.writer.Writer.append.Goals as goal

pub invariant_of-self-2 : goal.invariant_of-self-2
invariant_of-self-2 g c =
    subst (λ pieces. IsTextOf (string_bytes c.push_str.new.self) pieces) (sym c.add_all.ensures)
    (written-joined (string_bytes c.self.inside.written) (string_bytes c.other.inside.written) (string_bytes c.push_str.new.self) c.self.inside.trail.pieces c.other.inside.trail.pieces
    c.self.invariant c.other.invariant
    (c.in_ok-push_str.ensures.bytes ∙ ap (λ l. string_bytes c.self.inside.written ++ l) c.as_str.ensures.value))
