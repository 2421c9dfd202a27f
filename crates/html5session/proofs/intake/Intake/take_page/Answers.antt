use Rattle.std.proofs.Common.{string_bytes, sym, ◌∙◌}
use Rattle.std.proofs.lemmas.Result.{on_ok_weaker}
use Rattle.std.proofs.lemmas.Str.{IsUtf8-string_bytes}
use Rattle.html5session.proofs.Pages.{silent_in, takes_page}
use Rattle.html5session.proofs.intake.Intake.take_page.Goals as goal

pub returns-clause-takes : goal.returns-clause-takes
returns-clause-takes g c =
    let was = sym c.take.ensures.value ∙ c.in-Some.is in
    on_ok_weaker c.gain.result
    (λ is. takes_page c.args.references.now _ _ c.gain.new.self c.in-Some.page c.push-text.new.self c.args.bytes.now (string_bytes c.in_ok-text.text)
    c.self.view_is was (silent_in c.self.inside.fault c.self.inside.page c.in-Some.page c.self.invariant was) c.in_ok-text.ensures.goes_on
    (IsUtf8-string_bytes c.in_ok-text.text) is)
    c.gain.ensures.ok
