-- Each answer composes what the end decides of the held text with what it sends. The tactic closes single calls
-- only.
use Rattle.std.proofs.Common.{◌≡◌, [], ◌∙◌, refl, sym, false, true, rules}
use Rattle.std.proofs.lemmas.List.{append-nil}
use Rattle.html5ever_interface.specs.Sink.{stepped}
use Rattle.html5reading.specs.Start.{is_undecided_open}
use Rattle.html5partial.specs.Undecided.{is_keyword_open}
use Rattle.html5states.proofs.Tellings.{emits_stop}
use Rattle.html5partial.specs.CurrentTag.{opened_of}
use Rattle.html5partial.proofs.Decided.{with_reference-false, with_reference-out, state-keyword, state-undecided}
use Rattle.html5partial.proofs.KeywordReading.{end-decided}
use Rattle.html5feed.specs.Undecided.{rules_with}
use Rattle.html5feed.proofs.QueueReading.{on_ok}
use Rattle.html5feed.proofs.UndecidedReading.{end-none, late-reference, end-reference}
use Rattle.html5feed.proofs.position.Position.decide_at_end.Goals as goal

-- a reference is open

pub returns-in_err-finish_reference-clause-emits : goal.returns-in_err-finish_reference-clause-emits
returns-in_err-finish_reference-clause-emits g c =
    rw (← c.self.view_is, late-reference (rules_with c.args.teller.now c.args.references.now) c.self.inside.in_reference c.self.inside.held (opened_of c.self.inside.opened) c.if-self.true)
    (emits_stop _ c.from_residual.ensures.1 c.in_err-finish_reference.ensures.emits [] (sym (append-nil _)))

pub returns-then-self-clause-emits : goal.returns-then-self-clause-emits
returns-then-self-clause-emits g c =
    rw (← c.self.view_is, late-reference (rules_with c.args.teller.now c.args.references.now) c.self.inside.in_reference c.self.inside.held (opened_of c.self.inside.opened) c.if-self.true)
    (let told = c.in_ok-finish_reference.ensures.emits in record { tells = told.tells; refusal = tt; faults = told.faults; kept = told.kept })

pub returns-then-self-clause-opened : goal.returns-then-self-clause-opened
returns-then-self-clause-opened g c =
    rw (← c.self.view_is, end-reference (rules_with c.args.teller.now c.args.references.now) c.self.inside.in_reference c.self.inside.held (opened_of c.self.inside.opened) c.if-self.true)
    (with_reference-out _ _ ∙ c.in_ok-finish_reference.ensures.leads)

-- nothing is undecided

pub returns-then-not-holds_keyword-clause-emits : goal.returns-then-not-holds_keyword-clause-emits
unfolding stepped
returns-then-not-holds_keyword-clause-emits g c =
    let none : is_undecided_open (opened_of c.self.inside.opened) ≡ false = state-undecided c.self.inside.opened.state c.self.inside.opened ∙ sym c.holds_keyword.ensures ∙ c.if-not-holds_keyword.true in
    rw (← c.self.view_is, with_reference-false c.self.inside.in_reference c.self.inside.held (opened_of c.self.inside.opened) c.if-self.false, (end-none (rules_with c.args.teller.now c.args.references.now) (opened_of c.self.inside.opened) none).0) (record { tells = refl; refusal = tt; faults = search rules; kept = record { sink = refl; line = refl; exact_errors = refl } })

pub returns-then-not-holds_keyword-clause-opened : goal.returns-then-not-holds_keyword-clause-opened
returns-then-not-holds_keyword-clause-opened g c =
    let none : is_undecided_open (opened_of c.self.inside.opened) ≡ false = state-undecided c.self.inside.opened.state c.self.inside.opened ∙ sym c.holds_keyword.ensures ∙ c.if-not-holds_keyword.true in
    rw (← c.self.view_is, with_reference-false c.self.inside.in_reference c.self.inside.held (opened_of c.self.inside.opened) c.if-self.false) (sym (end-none (rules_with c.args.teller.now c.args.references.now) (opened_of c.self.inside.opened) none).1)

pub returns-then-not-holds_keyword-clause-decided : goal.returns-then-not-holds_keyword-clause-decided
returns-then-not-holds_keyword-clause-decided g c =
    let none : is_undecided_open (opened_of c.self.inside.opened) ≡ false = state-undecided c.self.inside.opened.state c.self.inside.opened ∙ sym c.holds_keyword.ensures ∙ c.if-not-holds_keyword.true in
    rw (← c.self.view_is, with_reference-false c.self.inside.in_reference c.self.inside.held (opened_of c.self.inside.opened) c.if-self.false) none

-- what may begin a keyword is

pub decide_keyword-requires : goal.decide_keyword-requires
decide_keyword-requires g c = state-keyword c.self.inside.opened.state c.self.inside.opened ∙ sym c.holds_keyword.ensures ∙ c.if-not-holds_keyword.false

pub returns-clause-emits : goal.returns-clause-emits
returns-clause-emits g c =
    rw (← c.self.view_is, with_reference-false c.self.inside.in_reference c.self.inside.held (opened_of c.self.inside.opened) c.if-self.false) (c.decide_keyword.ensures.emits c.args.references.now)

pub returns-clause-opened : goal.returns-clause-opened
returns-clause-opened g c =
    rw (← c.self.view_is, with_reference-false c.self.inside.in_reference c.self.inside.held (opened_of c.self.inside.opened) c.if-self.false)
    (on_ok c.decide_keyword.result (with_reference-false c.self.inside.in_reference c.self.inside.held (opened_of c.decide_keyword.new.opened) c.if-self.false ∙ c.decide_keyword.ensures.opened c.args.references.now))

pub returns-clause-decided : goal.returns-clause-decided
returns-clause-decided g c =
    let keyword : is_keyword_open (opened_of c.self.inside.opened) ≡ true = state-keyword c.self.inside.opened.state c.self.inside.opened ∙ sym c.holds_keyword.ensures ∙ c.if-not-holds_keyword.false in
    rw (with_reference-false c.self.inside.in_reference c.self.inside.held (opened_of c.decide_keyword.new.opened) c.if-self.false)
    (on_ok c.decide_keyword.result (end-decided (rules_with c.args.teller.now c.args.references.now) (opened_of c.self.inside.opened) _ keyword (c.decide_keyword.ensures.opened c.args.references.now)))
