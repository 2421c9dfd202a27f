use Rattle.std.proofs.Common.{◌∙◌, ap, rules, sym, inl, inr}
use Rattle.std.specs.Prelude.{IsTrue}
use Rattle.html5reading.specs.Start as grammar
use Rattle.html5partial.specs.CurrentTag.{opened_of, last_name_of}
use Rattle.html5feed.proofs.RunLemmas.{run-begins, run-found}
use Rattle.html5partial.proofs.Decided.{with_reference-false}
use Rattle.html5feed.proofs.position.Position.run_len.Goals as goal

pub returns-then-not-rules-clause-run : goal.returns-then-not-rules-clause-run
returns-then-not-rules-clause-run g c = λ some.
    let past : IsTrue c.is_past_start.result = search rules in
    let none = with_reference-false c.self.inside.in_reference c.self.inside.held (opened_of c.self.inside.opened) c.if-self.false in
    rw (← c.self.view_is, none)
    (run-begins c.args.rules.now _ c.in-Some.ends c.args.text.now c.nonmember_prefix_len.result (inl (ap (λ (r : grammar.Rules). r.exact) (sym c.rules.view_is) ∙ c.if-not-rules.true)) (c.is_past_start.ensures.past.0 past)
    (sym c.in-Some.ensures.has_runs) c.in-Some.ensures.ends c.utf8.text c.nonmember_prefix_len.ensures.outside some)

pub returns-then-not-rules-clause-found : goal.returns-then-not-rules-clause-found
returns-then-not-rules-clause-found g c = λ exact line_break start.
    let none = with_reference-false c.self.inside.in_reference c.self.inside.held (opened_of c.self.inside.opened) c.if-self.false in
    rw (← c.self.view_is, none)
    (run-found (record { opened = opened_of c.self.inside.opened; last_start_tag = last_name_of c.self.inside.opened; input = c.self.inside.input }) c.in-Some.ends c.args.text.now c.nonmember_prefix_len.result (sym c.in-Some.ensures.has_runs) c.in-Some.ensures.ends c.nonmember_prefix_len.ensures.stops)

pub returns-clause-run : goal.returns-clause-run
returns-clause-run g c = λ some.
    let past : IsTrue c.is_past_start.result = search rules in
    let none = with_reference-false c.self.inside.in_reference c.self.inside.held (opened_of c.self.inside.opened) c.if-self.false in
    rw (← c.self.view_is, none)
    (run-begins c.args.rules.now _ c.in-Some.ends c.args.text.now c.good_run_len.result
    (inr (record { quoted = sym c.is_unquoted.ensures ∙ c.if-is_unquoted.false; good = c.good_run_len.ensures.good })) (c.is_past_start.ensures.past.0 past)
    (sym c.in-Some.ensures.has_runs) c.in-Some.ensures.ends c.utf8.text c.good_run_len.ensures.outside some)
