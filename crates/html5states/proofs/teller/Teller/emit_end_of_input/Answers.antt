use Rattle.std.proofs.lemmas.Str.{chars-nil}
use Rattle.html5reading.specs.EndOfInput.{told_at_end_of, told_at_raw_end}
use Rattle.html5reading.specs.RawText.{escaped_state}
use Rattle.html5reading.specs.Start.Dashes.{OneDash, TwoDashes}
use Rattle.html5states.proofs.RawEnds.{raw_end_error-escaped}
use Rattle.html5states.proofs.teller.Teller.emit_end_of_input.Goals as goal

pub returns-in-RawEndTagOpen : goal.returns-in-RawEndTagOpen
unfolding told_at_end_of told_at_raw_end
returns-in-RawEndTagOpen g c = rw c.in-RawEndTagOpen.is (rw chars-nil at c.end_after_end_name.ensures)

pub returns-in-ScriptDataEscapedDash : goal.returns-in-ScriptDataEscapedDash
unfolding told_at_end_of escaped_state
returns-in-ScriptDataEscapedDash g c =
    rw (c.in-ScriptDataEscapedDash.is, raw_end_error-escaped c.args.self.now.exact_errors c.in-ScriptDataEscapedDash.kind OneDash) c.end_unexpected.ensures

pub returns-in-ScriptDataEscapedDashDash : goal.returns-in-ScriptDataEscapedDashDash
unfolding told_at_end_of escaped_state
returns-in-ScriptDataEscapedDashDash g c =
    rw (c.in-ScriptDataEscapedDashDash.is, raw_end_error-escaped c.args.self.now.exact_errors c.in-ScriptDataEscapedDashDash.kind TwoDashes) c.end_unexpected-in-ScriptDataEscapedDashDash.ensures
