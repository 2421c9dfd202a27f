use Rattle.std.proofs.Common.{decimal}
use Rattle.token_printer.specs.Output.{text_closing}
use Rattle.token_printer.specs.Printed.{quoted, quoted_bytes, numbered_text, line_with_text}
use Rattle.token_printer.proofs.Pieces.{pieces-line}
use Rattle.token_printer.proofs.output.push_line_with_text.Goals as goal

pub returns-clause-ok : goal.returns-clause-ok
unfolding line_with_text numbered_text quoted
returns-clause-ok g c =
    pieces-line c.push_text_and_end.result c.args.output.now.items _ _ (text_closing c.args.in_text) c.args.word.now (decimal c.args.line) (quoted_bytes c.args.text.now)
    c.in_ok-push_word.ensures.ok c.push_text_and_end.ensures.ok
