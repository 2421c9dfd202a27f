use Rattle.std.proofs.Common.{refl}
use Rattle.html5ever_interface.proofs.states.State.name.Goals as goal

pub returns-in-DoubleEscaped : goal.returns-in-DoubleEscaped
returns-in-DoubleEscaped c = rw (c.in-ScriptDataEscapeStart.is, c.in-DoubleEscaped.is) refl

pub returns-in-DoubleEscaped-kind : goal.returns-in-DoubleEscaped-kind
returns-in-DoubleEscaped-kind c = rw (c.in-ScriptDataEscapedDash.is, c.in-DoubleEscaped-kind.is) refl
