use Rattle.std.proofs.Common.{◌∙◌}
use Rattle.html5sniffing.proofs.Encodings.{front-text, front-not_text}
use Rattle.html5sniffing.proofs.page_encoding.is_utf8_front.Goals as goal

pub returns-in-Ok : goal.returns-in-Ok
returns-in-Ok c = front-text c.args.front.now c.in-Ok.ensures.cases.1

pub returns-in-Err : goal.returns-in-Err
returns-in-Err c =
    c.is_cut.ensures
    ∙ front-not_text c.args.front.now _ c.error_len.result c.in-Err.ensures.cases.0 c.in-Err.ensures.valid_len (c.error_len.ensures ∙ c.in-Err.ensures.fault)
