use Rattle.std.proofs.Common.{inl, inr, ap, sym, subst, ◌∙◌, string_bytes, ◌++◌}
use Rattle.std.specs.Prelude.{is_err}
use Rattle.std.proofs.lemmas.Str.{IsUtf8-string_bytes}
use Rattle.html5placed.specs.PlacedSessions.{PlacedSessionOf}
use Rattle.utf8_pieces.specs.Pieces.{IsNeverUtf8}
use Rattle.html5placed.proofs.Calls.{front-parts, loses-text, same-decoder, says-fault, when-err, when-ok, writes-same}
use Rattle.html5placed.proofs.session.PlacedSession.feed_front.Goals as goal

pub decode_front-requires : goal.decode_front-requires
decode_front-requires g c =
    subst (λ (x : PlacedSessionOf). IsNeverUtf8 (x.decoder.held ++ c.args.bytes.now)) (sym c.self.view_is) c.requires.refused

pub returns-in_default-clause-refused : goal.returns-in_default-clause-refused
returns-in_default-clause-refused g c = inl (same-decoder _ _ _ c.self.view_is c.in_default.ensures.err)

pub returns-in_default-clause-on : goal.returns-in_default-clause-on
returns-in_default-clause-on g c = writes-same _ _ c.self.view_is

pub returns-in_default-read-clause-refused : goal.returns-in_default-read-clause-refused
returns-in_default-read-clause-refused g c =
    let read = c.read_on-session.ensures in
    let parts = front-parts _ _ c.self.view_is c.read_on-session.result.0 c.decode_front.new.self c.args.bytes.now (string_bytes c.in-Ok.text) c.deref.result.now c.deref.ensures c.in-Ok.ensures.front in
    inr (loses-text _ _ c.self.view_is c.read_on-session.result.0 c.decode_front.new.self c.args.bytes.now (string_bytes c.in-Ok.text) c.deref.result.now c.deref.ensures parts.0
    parts.1 (IsUtf8-string_bytes c.in-Ok.text)
    (when-err c.read_on-session.result.1 c.in_default-read.field-0 c.in_default-read.is read.stops) (read.over ∙ ap is_err c.in_default-read.is))

pub returns-clause-refused : goal.returns-clause-refused
returns-clause-refused g c =
    let read = c.read_on-session.ensures in
    says-fault _ _ c.self.view_is c.read_on-session.result.0 c.decode_front.new.self c.args.bytes.now (string_bytes c.in-Ok.text) c.deref.result.now c.deref.ensures _ c.taken-valid_up_to.result
    (subst (λ (x : PlacedSessionOf). IsNeverUtf8 (x.decoder.held ++ c.args.bytes.now)) (sym c.self.view_is) c.requires.refused)
    c.in-Ok.ensures.front (IsUtf8-string_bytes c.in-Ok.text)
    (when-ok c.read_on-session.result.1 c.in-Ok-read.field-0 c.in-Ok-read.is read.reads) read.exact read.kept (read.over ∙ ap is_err c.in-Ok-read.is)
    c.session.view_is c.taken-valid_up_to.ensures
