use Rattle.html5session.proofs.Calls.{settles}
use Rattle.html5session.proofs.session.Session.settle.Goals as goal

pub returns-in-Some-clause-settled : goal.returns-in-Some-clause-settled
returns-in-Some-clause-settled g c =
    settles _ _ c.settle.new.self c.say_fault.new.self _ c.self.view_is c.nothing_open-nothing_open.ensures c.settle.ensures c.say_fault.ensures.some c.say_fault.ensures.none

pub returns-in-None-clause-settled : goal.returns-in-None-clause-settled
returns-in-None-clause-settled g c =
    settles _ _ c.settle.new.self c.say_fault.new.self _ c.self.view_is c.nothing_open-nothing_open.ensures c.settle.ensures c.say_fault.ensures.some c.say_fault.ensures.none
