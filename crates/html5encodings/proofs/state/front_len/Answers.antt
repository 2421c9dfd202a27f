use Rattle.std.proofs.Common.{sym, ◌∙◌}
use Rattle.html5encodings.proofs.Runs.{stands-ascii, stands-plain, stands-text}
use Rattle.html5encodings.proofs.state.front_len.Goals as goal

pub returns-then-reads_text-clause-stands : goal.returns-then-reads_text-clause-stands
returns-then-reads_text-clause-stands c = stands-text c.args.state _ (sym c.reads_text.ensures ∙ c.if-reads_text.true) c.text_len.ensures.text

pub returns-then-reads_ascii-clause-stands : goal.returns-then-reads_ascii-clause-stands
returns-then-reads_ascii-clause-stands c = stands-ascii c.args.state _ (sym c.reads_ascii.ensures ∙ c.if-reads_ascii.true) c.ascii_len.ensures.ascii

pub returns-then-reads_plain-clause-stands : goal.returns-then-reads_plain-clause-stands
returns-then-reads_plain-clause-stands c = stands-plain c.args.state _ (sym c.reads_plain.ensures ∙ c.if-reads_plain.true) c.plain_len.ensures.plain
