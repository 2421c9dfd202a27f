use Rattle.std.proofs.Common.{◌++◌, string_bytes, ap, ◌∙◌}
use Rattle.std.specs.Prelude.{codes}
use Rattle.html5serialize.proofs.Bytes.{bytes-instruction}
use Rattle.html5serialize.proofs.tokens.push_instruction.Goals as goal

pub returns : goal.returns
returns g c =
    c.in_ok-push_str-3.ensures.bytes
    ∙ ap (λ l. l ++ codes ">") (c.in_ok-push_str-2.ensures.bytes ∙ ap (λ l. l ++ c.args.content.now) c.in_ok-push_str.ensures.bytes)
    ∙ bytes-instruction (string_bytes c.args.out.now) c.args.content.now c.utf8.content
