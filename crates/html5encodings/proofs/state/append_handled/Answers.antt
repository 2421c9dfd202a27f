use Rattle.std.proofs.Common.{string_bytes}
use Rattle.html5encodings.proofs.Runs.{continues-byte}
use Rattle.html5encodings.proofs.state.append_handled.Goals as goal

pub returns-in_ok-append_byte-in-Utf8 : goal.returns-in_ok-append_byte-in-Utf8
returns-in_ok-append_byte-in-Utf8 g c =
    let next = c.in_ok-append_byte-in-Utf8 in
    continues-byte c.args.state next.field-0 c.args.bytes.now (string_bytes c.args.text.now) (string_bytes c.append_byte.new.text) c.requires.some
    next.ensures.text next.ensures.leaves next.ensures.valid
