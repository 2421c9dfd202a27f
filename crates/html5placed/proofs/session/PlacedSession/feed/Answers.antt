use Rattle.std.proofs.Common.{inl, inr, ap, sym, subst, ◌∙◌, string_bytes, ◌++◌}
use Rattle.std.specs.Prelude.{is_err}
use Rattle.std.proofs.lemmas.Str.{IsUtf8-string_bytes}
use Rattle.utf8_pieces.specs.Pieces.{IsNeverUtf8}
use Rattle.html5placed.proofs.Calls.{feeds-text, loses-text, same-decoder, when-err, when-ok, writes-same}
use Rattle.html5placed.proofs.session.PlacedSession.feed.Goals as goal

pub returns-in-Ok-read-clause-feeds : goal.returns-in-Ok-read-clause-feeds
returns-in-Ok-read-clause-feeds g c =
    let read = c.read_on-session.ensures in
    feeds-text _ _ c.self.view_is c.read_on-session.result.0 c.decode.new.self c.args.bytes.now (string_bytes c.in-Ok.text) c.deref.result.now c.deref.ensures
    c.in-Ok.ensures.text (IsUtf8-string_bytes c.in-Ok.text) c.in-Ok.ensures.taken
    (when-ok c.read_on-session.result.1 c.in-Ok-read.field-0 c.in-Ok-read.is read.reads) read.exact read.kept

pub returns-in-Ok-clause-refused : goal.returns-in-Ok-clause-refused
returns-in-Ok-clause-refused g c =
    let read = c.read_on-session.ensures in
    inr (loses-text _ _ c.self.view_is c.read_on-session.result.0 c.decode.new.self c.args.bytes.now (string_bytes c.in-Ok.text) c.deref.result.now c.deref.ensures c.decode.new.self.held
    c.in-Ok.ensures.text (IsUtf8-string_bytes c.in-Ok.text)
    (when-err c.read_on-session.result.1 c.in-Err.field-0 c.in-Err.is read.stops) (read.over ∙ ap is_err c.in-Err.is))

pub returns-in-Err-Memory-clause-refused : goal.returns-in-Err-Memory-clause-refused
returns-in-Err-Memory-clause-refused g c = inl (same-decoder _ _ _ c.self.view_is c.in-Err-Memory.ensures.unchanged)

pub returns-in-Err-Memory-clause-on : goal.returns-in-Err-Memory-clause-on
returns-in-Err-Memory-clause-on g c = writes-same _ _ c.self.view_is

pub feed_front-requires-clause-refused : goal.feed_front-requires-clause-refused
feed_front-requires-clause-refused g c =
    let said = c.in-Err-NotUtf8.ensures in
    let is = c.in-Err-NotUtf8.field-0-is in
    subst (λ d. IsNeverUtf8 (d.held ++ c.args.bytes.now)) (sym said.unchanged) (said.refused.0 (λ memory. cc (is, memory)))
