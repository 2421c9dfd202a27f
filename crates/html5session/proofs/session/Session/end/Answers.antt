use Rattle.std.proofs.Common.{sym, ◌∙◌}
use Rattle.std.proofs.lemmas.Bool.{false≢true}
use Rattle.html5session.proofs.Calls.{all_read, cut_short, end_says, goes_same}
use Rattle.html5session.proofs.session.Session.end.Goals as goal

pub returns-in-Some-clause-refused : goal.returns-in-Some-clause-refused
returns-in-Some-clause-refused g c =
    let said = c.in-Some.ensures.said in
    end_says _ _ c.say_fault.new.self _ c.self.view_is (c.is_read.ensures.0 c.if-not-is_read.false) said.0 said.1 (c.say_fault.ensures.some said.0)

pub returns-then-not-is_complete-clause-refused : goal.returns-then-not-is_complete-clause-refused
returns-then-not-is_complete-clause-refused g c =
    let silent = c.in_default.ensures.said in
    cut_short _ _ c.say_fault.new.self c.self.view_is (c.is_read.ensures.0 c.if-not-is_read.false) silent (c.say_fault.ensures.none silent)
    (λ none. false≢true (sym c.if-not-is_complete.true ∙ c.is_complete.ensures.1 none))

pub end_read-requires-clause-going_on : goal.end_read-requires-clause-going_on
end_read-requires-clause-going_on g c =
    goes_same _ _ c.say_fault.new.self c.self.view_is (c.say_fault.ensures.none c.in_default.ensures.said) (sym c.is_over.ensures ∙ c.if-is_over.false)

pub end_read-requires-clause-read : goal.end_read-requires-clause-read
end_read-requires-clause-read g c =
    let silent = c.in_default.ensures.said in
    all_read _ _ (c.say_fault.ensures.none silent) (c.is_read.ensures.0 c.if-not-is_read.false) silent (c.is_complete.ensures.0 c.if-not-is_complete.false)
