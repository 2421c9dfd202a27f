-- Each answer gives its lemma the characters that are held and those that follow, which the tactic doesn't find.
use Rattle.std.proofs.Common.{◌≡◌, ◌≤◌, [], ◌∷◌, ◌++◌, ◌+◌, ◌∙◌, refl, ap, sym, subst, Ok, rules, arith}
use Rattle.html5ever_interface.specs.Sink.{stepped}
use Rattle.html5reading.proofs.GoodCharacters.{good_between}
use Rattle.html5states.proofs.Tellings.{tells_from_memory, tells_stop}
use Rattle.html5partial.specs.CharRef.{with_reference}
use Rattle.html5reading.specs.Start.{held_len}
use Rattle.html5partial.specs.CurrentTag.{opened_of}
use Rattle.html5feed.specs.Undecided.{rules_with}
use Rattle.html5feed.proofs.UndecidedReading.{brought-held, brought-decided, belongs-held, belongs-end, decides, held_len-held, held_len-same, answer-is}
use Rattle.html5partial.proofs.Decided.{is_in, is_decided, begun-decided, state-no_reference, with_reference-out}
use Rattle.html5feed.proofs.undecided.read_reference.Goals as goal

pub returns-in_err-hold-clause-reads : goal.returns-in_err-hold-clause-reads
returns-in_err-hold-clause-reads g c =
    record {
      tells = tells_from_memory _ _ _ _ _ c.from_residual.ensures.1;
      taken = search rules;
      decided = search rules;
      last = search rules;
      input = search rules;
      held = search rules;
      refusal = search rules;
      faults = search rules;
    }

pub returns-then-branch-clause-reads : goal.returns-then-branch-clause-reads
unfolding stepped
returns-then-branch-clause-reads g c =
    let inside = is_in c.position.inside.in_reference c.position.inside.held (opened_of c.position.inside.opened) (state-no_reference c.position.inside.opened.state c.position.inside.opened) (rw (← c.position.view_is) at c.requires) in
    let plain = c.in_ok-hold.ensures.plain (ap Ok c.if-branch.true) in
    let now : c.hold.new.held ≡ c.position.inside.held ++ c.args.c ∷ [] = c.in_ok-hold.ensures.held ∙ rw c.if-branch.true refl in
    record {
      tells = rw (← c.position.view_is, brought-held (rules_with c.args.teller.now c.args.references.now) (g.S.TokenSink.means.foreign (g.S.TokenSink.means.state c.args.teller.now.sink.now)) c.position.inside.in_reference c.position.inside.held (opened_of c.position.inside.opened) c.args.c inside (sym c.in_ok-hold.ensures.undecided ∙ c.if-branch.true)) refl;
      taken = λ same. rw (← c.position.view_is, now) (belongs-held (rules_with c.args.teller.now c.args.references.now) (g.S.TokenSink.means.foreign (g.S.TokenSink.means.state c.args.teller.now.sink.now)) c.position.inside.in_reference c.position.inside.held (opened_of c.position.inside.opened) c.args.c inside (sym c.in_ok-hold.ensures.undecided ∙ c.if-branch.true) (good_between c.args.c plain.0 plain.1));
      decided = search rules;
      last = search rules;
      input = search rules;
      held = subst (λ l. held_len (with_reference c.position.inside.in_reference l (opened_of c.position.inside.opened)) ≤ held_len c.args.position.now.opened + 1) (sym now) (rw (← c.position.view_is) (held_len-held (rules_with c.args.teller.now c.args.references.now) (g.S.TokenSink.means.foreign (g.S.TokenSink.means.state c.args.teller.now.sink.now)) c.position.inside.in_reference c.position.inside.held (opened_of c.position.inside.opened) c.args.c inside));
      refusal = search rules;
      faults = search rules;
    }

pub finish_reference-requires : goal.finish_reference-requires
finish_reference-requires g c = c.position.invariant (is_in _ _ _ (state-no_reference c.position.inside.opened.state c.position.inside.opened) (rw (← c.position.view_is) at c.requires))

pub returns-in_err-ends-clause-reads : goal.returns-in_err-ends-clause-reads
returns-in_err-ends-clause-reads g c =
    let inside = is_in c.position.inside.in_reference c.position.inside.held (opened_of c.position.inside.opened) (state-no_reference c.position.inside.opened.state c.position.inside.opened) (rw (← c.position.view_is) at c.requires) in
    let now : c.hold.new.held ≡ c.position.inside.held = c.in_ok-hold.ensures.held ∙ rw c.if-branch.false refl in
    record {
      tells = rw (← c.position.view_is, brought-decided (rules_with c.args.teller.now c.args.references.now) (g.S.TokenSink.means.foreign (g.S.TokenSink.means.state c.args.teller.now.sink.now)) c.position.inside.in_reference c.position.inside.held (opened_of c.position.inside.opened) c.args.c inside (sym c.in_ok-hold.ensures.undecided ∙ c.if-branch.false)) (tells_stop _ _ _ _ _ _ _ c.from_residual-in_err-ends.ensures.1 (rw now at c.in_err-ends.ensures.emits.tells));
      taken = search rules;
      decided = search rules;
      last = search rules;
      input = search rules;
      held = subst (λ l. held_len (with_reference c.position.inside.in_reference l (opened_of c.finish_reference.new.at)) ≤ held_len c.args.position.now.opened + 1) (sym now) (rw (← c.position.view_is) (held_len-same c.position.inside.in_reference c.position.inside.held (opened_of c.position.inside.opened) _ inside));
      refusal = search rules;
      faults = search rules;
    }

pub returns-clause-reads : goal.returns-clause-reads
returns-clause-reads g c =
    let inside = is_in c.position.inside.in_reference c.position.inside.held (opened_of c.position.inside.opened) (state-no_reference c.position.inside.opened.state c.position.inside.opened) (rw (← c.position.view_is) at c.requires) in
    let now : c.hold.new.held ≡ c.position.inside.held = c.in_ok-hold.ensures.held ∙ rw c.if-branch.false refl in
    record {
      tells = rw (← c.position.view_is, brought-decided (rules_with c.args.teller.now c.args.references.now) (g.S.TokenSink.means.foreign (g.S.TokenSink.means.state c.args.teller.now.sink.now)) c.position.inside.in_reference c.position.inside.held (opened_of c.position.inside.opened) c.args.c inside (sym c.in_ok-hold.ensures.undecided ∙ c.if-branch.false)) (rw now at c.in_ok-ends.ensures.emits.tells);
      taken = λ same. rw (← c.position.view_is) (belongs-end (rules_with c.args.teller.now c.args.references.now) (g.S.TokenSink.means.foreign (g.S.TokenSink.means.state c.args.teller.now.sink.now)) c.position.inside.in_reference c.position.inside.held (opened_of c.position.inside.opened) c.args.c inside _ (sym c.in_ok-hold.ensures.undecided ∙ c.if-branch.false) (sym (rw now at c.in_ok-ends.ensures.ends c.args.c refl) ∙ answer-is _ _ same) (with_reference-out _ _ ∙ rw now at c.in_ok-ends.ensures.leads));
      decided = λ same. rw (← c.position.view_is) (decides (rules_with c.args.teller.now c.args.references.now) (g.S.TokenSink.means.foreign (g.S.TokenSink.means.state c.args.teller.now.sink.now)) c.position.inside.in_reference c.position.inside.held (opened_of c.position.inside.opened) c.args.c inside _ (sym c.in_ok-hold.ensures.undecided ∙ c.if-branch.false) (sym (rw now at c.in_ok-ends.ensures.ends c.args.c refl) ∙ answer-is _ _ same) (with_reference-out _ _ ∙ rw now at c.in_ok-ends.ensures.leads));
      last = search rules;
      input = search rules;
      held = rw (with_reference-out c.hold.new.held (opened_of c.finish_reference.new.at), (is_decided (opened_of c.finish_reference.new.at) (begun-decided (opened_of c.finish_reference.new.at) c.in_ok-ends.ensures.stays)).nothing_held) (omega arith);
      refusal = search rules;
      faults = search rules;
    }
