use Rattle.std.proofs.Common.{string_bytes}
use Rattle.html5encodings.proofs.Runs.{continues-front}
use Rattle.html5encodings.proofs.state.append_front.Goals as goal

pub from_utf8_unchecked-requires : goal.from_utf8_unchecked-requires
from_utf8_unchecked-requires g c = c.front_len-len.ensures.stands.utf8

pub returns-then-len-gt0 : goal.returns-then-len-gt0
returns-then-len-gt0 g c =
    continues-front c.args.state c.args.bytes.now (string_bytes c.args.text.now) (string_bytes c.push_str.new.self) _ c.front_len-len.result
    c.requires.valid c.if-len-gt0.true c.front_len-len.ensures.within c.front_len-len.ensures.stands
    c.from_utf8_unchecked.ensures c.in_ok-push_str.ensures.bytes
