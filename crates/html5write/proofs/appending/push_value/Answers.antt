use Rattle.std.proofs.Common.{string_bytes, sym}
use Rattle.html5write.proofs.Looked.{appended-ok}
use Rattle.html5write.proofs.appending.push_value.Goals as goal

pub returns-then-is_plain-clause-ok : goal.returns-then-is_plain-clause-ok
returns-then-is_plain-clause-ok g c =
    appended-ok c.push_text.result (string_bytes c.args.out.now) (string_bytes c.push_text.new.text) c.args.value.now _ c.push_text.ensures.bytes
    (sym (c.is_plain.ensures c.if-is_plain.true).plain)
