-- Each answer composes what was sent for the letters that are held with what the character after them sends. The tactic closes single calls only.
use Rattle.std.proofs.Common.{[], refl, ap, Ok, arith, rules}
use Rattle.html5ever_interface.specs.Sink.{stepped}
use Rattle.html5states.proofs.Tellings.{tells_from_memory, tells_stop}
use Rattle.html5partial.specs.CurrentTag.{opened_of}
use Rattle.html5partial.proofs.Decided.{held_len-beside}
use Rattle.html5feed.specs.Undecided.{rules_with}
use Rattle.html5partial.proofs.KeywordReading.{beside, goes_on-asked, ends-asked, keyword-opened, no_reference-keyword, end-holds}
use Rattle.html5feed.proofs.undecided.read_keyword.Goals as goal

pub asked_about_foreign-foreign-requires : goal.asked_about_foreign-foreign-requires
asked_about_foreign-foreign-requires g c = keyword-opened c.position.inside.in_reference c.position.inside.held (opened_of c.position.inside.opened) (rw (← c.position.view_is) at c.requires)

pub hold_keyword-requires : goal.hold_keyword-requires
hold_keyword-requires g c = keyword-opened c.position.inside.in_reference c.position.inside.held (opened_of c.position.inside.opened) (rw (← c.position.view_is) at c.requires)

-- the character can't be held

pub returns-in_err-hold_keyword-clause-reads : goal.returns-in_err-hold_keyword-clause-reads
returns-in_err-hold_keyword-clause-reads g c = λ references.
    let out = no_reference-keyword c.position.inside.in_reference c.position.inside.held (opened_of c.position.inside.opened) (rw (← c.position.view_is) at c.requires) in
    record {
      tells = tells_from_memory _ _ _ _ _ c.from_residual.ensures.1;
      taken = search rules;
      decided = search rules;
      last = search rules;
      input = search rules;
      held = rw (← c.position.view_is) (held_len-beside c.position.inside.in_reference c.position.inside.held (opened_of c.position.inside.opened) _ out c.in_err-hold_keyword.ensures.held);
      refusal = search rules;
      faults = search rules;
    }

-- it belongs to a keyword

pub returns-then-branch-clause-reads : goal.returns-then-branch-clause-reads
unfolding stepped
returns-then-branch-clause-reads g c = λ references.
    let same = beside c.position.inside.in_reference c.position.inside.held (opened_of c.position.inside.opened) (rw (← c.position.view_is) at c.requires) in
    let out = no_reference-keyword c.position.inside.in_reference c.position.inside.held (opened_of c.position.inside.opened) (rw (← c.position.view_is) at c.requires) in
    let goes =
    goes_on-asked (g.S.TokenSink.means.foreign (g.S.TokenSink.means.state c.args.teller.now.sink.now)) (opened_of c.position.inside.opened) c.args.c (opened_of c.hold_keyword.new.opened)
    (rw c.asked_about_foreign-foreign.ensures at c.in_ok-hold_keyword.ensures.taken (ap Ok c.if-branch.true)) in
    record {
      tells = rw (← c.position.view_is, same (opened_of c.position.inside.opened), goes.settled (rules_with c.args.teller.now references)) refl;
      taken = λ yes. rw (← c.position.view_is, same (opened_of c.position.inside.opened), same (opened_of c.hold_keyword.new.opened)) (goes.belongs (rules_with c.args.teller.now references));
      decided = search rules;
      last = search rules;
      input = search rules;
      held = rw (← c.position.view_is) (held_len-beside c.position.inside.in_reference c.position.inside.held (opened_of c.position.inside.opened) _ out c.in_ok-hold_keyword.ensures.held);
      refusal = search rules;
      faults = search rules;
    }

-- no keyword goes on with it

pub decide_keyword-requires : goal.decide_keyword-requires
decide_keyword-requires g c =
    rw (c.in_ok-hold_keyword.ensures.kept (ap Ok c.if-branch.false))
    (keyword-opened c.position.inside.in_reference c.position.inside.held (opened_of c.position.inside.opened) (rw (← c.position.view_is) at c.requires))

pub returns-in_err-decide_keyword-clause-reads : goal.returns-in_err-decide_keyword-clause-reads
returns-in_err-decide_keyword-clause-reads g c = λ references.
    let same = beside c.position.inside.in_reference c.position.inside.held (opened_of c.position.inside.opened) (rw (← c.position.view_is) at c.requires) in
    let keyword = keyword-opened c.position.inside.in_reference c.position.inside.held (opened_of c.position.inside.opened) (rw (← c.position.view_is) at c.requires) in
    let ends =
    ends-asked (g.S.TokenSink.means.foreign (g.S.TokenSink.means.state c.args.teller.now.sink.now)) (opened_of c.position.inside.opened) c.args.c
    (rw c.asked_about_foreign-foreign.ensures at c.in_ok-hold_keyword.ensures.decided (ap Ok c.if-branch.false)) in
    let told = c.in_err-decide_keyword.ensures.emits references in
    record {
      tells = rw (← c.position.view_is, same (opened_of c.position.inside.opened), ends.settled (rules_with c.args.teller.now references)) (tells_stop _ _ _ _ _ _ _ c.from_residual-in_err-decide_keyword.ensures.1 (rw (c.in_ok-hold_keyword.ensures.kept (ap Ok c.if-branch.false)) at told.tells));
      taken = search rules;
      decided = search rules;
      last = search rules;
      input = search rules;
      held = rw (same (opened_of c.decide_keyword.new.opened), end-holds (rules_with c.args.teller.now references) (opened_of c.position.inside.opened) (opened_of c.decide_keyword.new.opened) keyword (rw (c.in_ok-hold_keyword.ensures.kept (ap Ok c.if-branch.false)) at c.in_err-decide_keyword.ensures.opened references)) (omega arith);
      refusal = search rules;
      faults = search rules;
    }

pub returns-in_err-decide_keyword-clause-kept : goal.returns-in_err-decide_keyword-clause-kept
returns-in_err-decide_keyword-clause-kept g c = (c.in_err-decide_keyword.ensures.emits []).kept

pub returns-clause-reads : goal.returns-clause-reads
returns-clause-reads g c = λ references.
    let same = beside c.position.inside.in_reference c.position.inside.held (opened_of c.position.inside.opened) (rw (← c.position.view_is) at c.requires) in
    let keyword = keyword-opened c.position.inside.in_reference c.position.inside.held (opened_of c.position.inside.opened) (rw (← c.position.view_is) at c.requires) in
    let ends =
    ends-asked (g.S.TokenSink.means.foreign (g.S.TokenSink.means.state c.args.teller.now.sink.now)) (opened_of c.position.inside.opened) c.args.c
    (rw c.asked_about_foreign-foreign.ensures at c.in_ok-hold_keyword.ensures.decided (ap Ok c.if-branch.false)) in
    let told = c.in_ok-decide_keyword.ensures.emits references in
    record {
      tells = rw (← c.position.view_is, same (opened_of c.position.inside.opened), ends.settled (rules_with c.args.teller.now references)) (rw (c.in_ok-hold_keyword.ensures.kept (ap Ok c.if-branch.false)) at told.tells);
      taken = search rules;
      decided = λ no. rw (← c.position.view_is, same (opened_of c.position.inside.opened), same (opened_of c.decide_keyword.new.opened), (rw (c.in_ok-hold_keyword.ensures.kept (ap Ok c.if-branch.false)) at c.in_ok-decide_keyword.ensures.opened references)) (ends.decides (rules_with c.args.teller.now references));
      last = search rules;
      input = search rules;
      held = rw (same (opened_of c.decide_keyword.new.opened), end-holds (rules_with c.args.teller.now references) (opened_of c.position.inside.opened) (opened_of c.decide_keyword.new.opened) keyword (rw (c.in_ok-hold_keyword.ensures.kept (ap Ok c.if-branch.false)) at c.in_ok-decide_keyword.ensures.opened references)) (omega arith);
      refusal = search rules;
      faults = search rules;
    }

pub returns-clause-kept : goal.returns-clause-kept
returns-clause-kept g c = (c.in_ok-decide_keyword.ensures.emits []).kept
