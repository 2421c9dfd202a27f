use Rattle.std.proofs.Common.{string_bytes, sym, ◌∙◌, subst}
use Rattle.html5write.specs.Looked.{IsPlainPiece}
use Rattle.html5write.proofs.Looked.{appended-ok, plain-bytes}
use Rattle.html5write.proofs.writable.Writable.push_to.Goals as goal

pub returns-in-Text-clause-ok : goal.returns-in-Text-clause-ok
returns-in-Text-clause-ok g c =
    let plain = subst IsPlainPiece c.self.view_is (c.self.invariant.plain c.if-self.true) in
    appended-ok c.push_text.result (string_bytes c.args.out.now) (string_bytes c.push_text.new.text) c.in-Text.text.now _ c.push_text.ensures.bytes
    (plain-bytes c.args.self.now c.in-Text.text (sym c.self.view_is ∙ c.in-Text.is) plain)
