use Rattle.std.proofs.Common.{codes}
use Rattle.token_printer.specs.Printed.{quoted, pause_line}
use Rattle.token_printer.proofs.Pieces.{pieces-three}
use Rattle.token_printer.proofs.printed.push_encoding_pause.Goals as goal

pub returns-clause-ok : goal.returns-clause-ok
unfolding pause_line
returns-clause-ok g c =
    pieces-three c.extend_from_slice-2.result c.args.output.now.items _ _ _ (codes "pause encoding ") (quoted c.args.charset.now) (codes "\n")
    c.in_ok-extend_from_slice.ensures.items c.in_ok-push_quoted.ensures.ok c.extend_from_slice-2.ensures.items
