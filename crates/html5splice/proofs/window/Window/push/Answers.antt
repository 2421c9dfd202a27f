use Rattle.std.specs.Prelude.{is_ok, string_bytes}
use Rattle.std.proofs.lemmas.Str.{IsUtf8-string_bytes}
use Rattle.html5splice.proofs.Boundaries.{boundary-kept}
use Rattle.html5splice.proofs.window.Window.push.Goals as goal

pub invariant_of-self : goal.invariant_of-self
invariant_of-self g c =
    boundary-kept (is_ok c.push_str.result) (string_bytes c.self.inside.text) c.args.text.now (string_bytes c.push_str.new.self) c.self.inside.gone
    c.push_str.ensures.bytes (IsUtf8-string_bytes c.self.inside.text) c.utf8.text c.self.invariant
