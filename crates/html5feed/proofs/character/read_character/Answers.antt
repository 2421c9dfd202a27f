-- Each answer composes the input's step with what the states send. The tactic closes single calls only.
use Rattle.std.proofs.Common.{◌∙◌, refl, ap, sym, Ok}
use Rattle.std.proofs.lemmas.Result.{IfOk-weaker}
use Rattle.html5ever_interface.specs.Sink.{stepped}
use Rattle.html5reading.proofs.ReadingLemmas.{told-none, after-none}
use Rattle.html5reading.specs.Start.{Start}
use Rattle.html5partial.specs.CharRef.{with_reference}
use Rattle.html5partial.specs.CurrentTag.{opened_of, last_name_of}
use Rattle.html5feed.proofs.Pauses.{first_pause-none}
use Rattle.html5feed.proofs.UndecidedReading.{last-belongs, last-decides, told-belongs, after-belongs, after-decides, pause-belongs, pause-decides, tells-late, leads-late, tells-decides}
use Rattle.html5feed.proofs.character.read_character.Goals as goal

pub returns-in_default-clause-tells : goal.returns-in_default-clause-tells
unfolding stepped
returns-in_default-clause-tells g c =
    let K : Start = record { opened = with_reference c.position.inside.in_reference c.position.inside.held (opened_of c.position.inside.opened); last_start_tag = last_name_of c.position.inside.opened; input = c.position.inside.input } in
    rw (← c.position.view_is) (rw (told-none g.S.TokenSink.means.step g.S.TokenSink.means.reply g.S.TokenSink.means.foreign c.args.rules.now K (g.S.TokenSink.means.state c.args.sink.now) c.args.c c.in_default.ensures.reads) refl)

pub returns-in_default-clause-leads : goal.returns-in_default-clause-leads
returns-in_default-clause-leads g c =
    let K : Start = record { opened = with_reference c.position.inside.in_reference c.position.inside.held (opened_of c.position.inside.opened); last_start_tag = last_name_of c.position.inside.opened; input = c.position.inside.input } in
    rw (← c.position.view_is) (rw (ap (λ (P : Start). P.opened) (after-none g.S.TokenSink.means.step g.S.TokenSink.means.reply g.S.TokenSink.means.foreign c.args.rules.now K (g.S.TokenSink.means.state c.args.sink.now) c.args.c c.in_default.ensures.reads)) refl)

pub returns-in_default-clause-answer : goal.returns-in_default-clause-answer
returns-in_default-clause-answer g c =
    let K : Start = record { opened = with_reference c.position.inside.in_reference c.position.inside.held (opened_of c.position.inside.opened); last_start_tag = last_name_of c.position.inside.opened; input = c.position.inside.input } in
    rw (← c.position.view_is) (rw (told-none g.S.TokenSink.means.step g.S.TokenSink.means.reply g.S.TokenSink.means.foreign c.args.rules.now K (g.S.TokenSink.means.state c.args.sink.now) c.args.c c.in_default.ensures.reads) (sym (first_pause-none g.S.TokenSink.means _)))

-- a character that belongs to what is undecided, or a refusal

pub returns-in_err-read_undecided-clause-tells : goal.returns-in_err-read_undecided-clause-tells
returns-in_err-read_undecided-clause-tells g c =
    let K : Start = record { opened = with_reference c.position.inside.in_reference c.position.inside.held (opened_of c.position.inside.opened); last_start_tag = last_name_of c.position.inside.opened; input = c.position.inside.input } in
    rw (← c.position.view_is) (tells-late g.S.TokenSink.means c.args.rules.now K (g.S.TokenSink.means.state c.args.sink.now) c.args.c c.in-Some.c c.in-Some.ensures.reads c.line-before.ensures.fits _ _ _ c.from_residual.ensures.1 c.in_err-read_undecided.ensures.refusal
    (rw c.line-before.ensures.line at c.in_err-read_undecided.ensures.tells))

pub returns-in_err-read_undecided-clause-leads : goal.returns-in_err-read_undecided-clause-leads
returns-in_err-read_undecided-clause-leads g c =
    let K : Start = record { opened = with_reference c.position.inside.in_reference c.position.inside.held (opened_of c.position.inside.opened); last_start_tag = last_name_of c.position.inside.opened; input = c.position.inside.input } in
    rw (← c.position.view_is) (leads-late g.S.TokenSink.means c.args.rules.now K (g.S.TokenSink.means.state c.args.sink.now) c.args.c c.in-Some.c c.in-Some.ensures.reads c.line-before.ensures.fits _ _ _ c.from_residual.ensures.1 c.in_err-read_undecided.ensures.refusal)

pub returns-then-branch-clause-tells : goal.returns-then-branch-clause-tells
returns-then-branch-clause-tells g c =
    let K : Start = record { opened = with_reference c.position.inside.in_reference c.position.inside.held (opened_of c.position.inside.opened); last_start_tag = last_name_of c.position.inside.opened; input = c.position.inside.input } in
    rw (← c.position.view_is) (rw (told-belongs g.S.TokenSink.means c.args.rules.now K (g.S.TokenSink.means.state c.args.sink.now) c.args.c c.in-Some.c c.in-Some.ensures.reads c.line-before.ensures.fits _ (c.in_ok-read_undecided.ensures.taken (ap Ok c.if-branch.true))) (rw c.line-before.ensures.line at c.in_ok-read_undecided.ensures.tells))

pub returns-then-branch-clause-leads : goal.returns-then-branch-clause-leads
returns-then-branch-clause-leads g c =
    let K : Start = record { opened = with_reference c.position.inside.in_reference c.position.inside.held (opened_of c.position.inside.opened); last_start_tag = last_name_of c.position.inside.opened; input = c.position.inside.input } in
    let belongs = (c.in_ok-read_undecided.ensures.taken (ap Ok c.if-branch.true)) in
    rw (← c.position.view_is) (rw (after-belongs g.S.TokenSink.means c.args.rules.now K (g.S.TokenSink.means.state c.args.sink.now) c.args.c c.in-Some.c c.in-Some.ensures.reads c.line-before.ensures.fits _ belongs) refl)

pub returns-then-branch-clause-answer : goal.returns-then-branch-clause-answer
returns-then-branch-clause-answer g c =
    let K : Start = record { opened = with_reference c.position.inside.in_reference c.position.inside.held (opened_of c.position.inside.opened); last_start_tag = last_name_of c.position.inside.opened; input = c.position.inside.input } in
    rw (← c.position.view_is) (pause-belongs g.S.TokenSink.means c.args.rules.now K (g.S.TokenSink.means.state c.args.sink.now) c.args.c c.in-Some.c c.in-Some.ensures.reads c.line-before.ensures.fits g.met.S.TokenSink.keeps_on _ (c.in_ok-read_undecided.ensures.taken (ap Ok c.if-branch.true)))

-- a character that decides, and is then read

pub returns-clause-tells : goal.returns-clause-tells
returns-clause-tells g c =
    let K : Start = record { opened = with_reference c.position.inside.in_reference c.position.inside.held (opened_of c.position.inside.opened); last_start_tag = last_name_of c.position.inside.opened; input = c.position.inside.input } in
    rw (← c.position.view_is) (tells-decides g.S.TokenSink.means c.args.rules.now K (g.S.TokenSink.means.state c.args.sink.now) c.args.c c.in-Some.c c.in-Some.ensures.reads c.line-before.ensures.fits _ _ _ _ (c.in_ok-read_undecided.ensures.decided (ap Ok c.if-branch.false)) (rw c.line-before.ensures.line at c.in_ok-read_undecided.ensures.tells)
    (rw (c.in_ok-read_undecided.ensures.input, c.in-Some.ensures.moves) at c.read_opened.ensures.tells))

pub returns-clause-leads : goal.returns-clause-leads
returns-clause-leads g c =
    let K : Start = record { opened = with_reference c.position.inside.in_reference c.position.inside.held (opened_of c.position.inside.opened); last_start_tag = last_name_of c.position.inside.opened; input = c.position.inside.input } in
    let decides = (c.in_ok-read_undecided.ensures.decided (ap Ok c.if-branch.false)) in
    rw (← c.position.view_is) (rw (after-decides g.S.TokenSink.means c.args.rules.now K (g.S.TokenSink.means.state c.args.sink.now) c.args.c c.in-Some.c c.in-Some.ensures.reads c.line-before.ensures.fits _ decides, ← (rw c.line-before.ensures.line at c.in_ok-read_undecided.ensures.tells)) (rw (c.in_ok-read_undecided.ensures.input, c.in_ok-read_undecided.ensures.last, c.in-Some.ensures.moves) at c.read_opened.ensures.leads))

pub returns-clause-answer : goal.returns-clause-answer
returns-clause-answer g c =
    let K : Start = record { opened = with_reference c.position.inside.in_reference c.position.inside.held (opened_of c.position.inside.opened); last_start_tag = last_name_of c.position.inside.opened; input = c.position.inside.input } in
    let told_late = (rw c.line-before.ensures.line at c.in_ok-read_undecided.ensures.tells) in
    let same = pause-decides g.S.TokenSink.means c.args.rules.now K (g.S.TokenSink.means.state c.args.sink.now) c.args.c c.in-Some.c c.in-Some.ensures.reads c.line-before.ensures.fits g.met.S.TokenSink.keeps_on _ (c.in_ok-read_undecided.ensures.decided (ap Ok c.if-branch.false)) in
    rw (← c.position.view_is) (IfOk-weaker c.read_opened.result _ _ (λ answer is. is ∙ same) (rw (c.in_ok-read_undecided.ensures.input, c.in-Some.ensures.moves, told_late) at c.read_opened.ensures.answer))

-- the name of the last start tag

pub returns-in_default-clause-last : goal.returns-in_default-clause-last
returns-in_default-clause-last g c =
    let K : Start = record { opened = with_reference c.position.inside.in_reference c.position.inside.held (opened_of c.position.inside.opened); last_start_tag = last_name_of c.position.inside.opened; input = c.position.inside.input } in
    rw (← c.position.view_is) (sym (ap (λ (P : Start). P.last_start_tag) (after-none g.S.TokenSink.means.step g.S.TokenSink.means.reply g.S.TokenSink.means.foreign c.args.rules.now K (g.S.TokenSink.means.state c.args.sink.now) c.args.c c.in_default.ensures.reads)))

pub returns-then-branch-clause-last : goal.returns-then-branch-clause-last
returns-then-branch-clause-last g c =
    let K : Start = record { opened = with_reference c.position.inside.in_reference c.position.inside.held (opened_of c.position.inside.opened); last_start_tag = last_name_of c.position.inside.opened; input = c.position.inside.input } in
    rw (← c.position.view_is) (c.in_ok-read_undecided.ensures.last ∙ sym (last-belongs g.S.TokenSink.means c.args.rules.now K (g.S.TokenSink.means.state c.args.sink.now) c.args.c c.in-Some.c c.in-Some.ensures.reads c.line-before.ensures.fits _ (c.in_ok-read_undecided.ensures.taken (ap Ok c.if-branch.true))))

pub returns-clause-last : goal.returns-clause-last
returns-clause-last g c =
    let K : Start = record { opened = with_reference c.position.inside.in_reference c.position.inside.held (opened_of c.position.inside.opened); last_start_tag = last_name_of c.position.inside.opened; input = c.position.inside.input } in
    rw (← c.position.view_is, last-decides g.S.TokenSink.means c.args.rules.now K (g.S.TokenSink.means.state c.args.sink.now) c.args.c c.in-Some.c c.in-Some.ensures.reads c.line-before.ensures.fits _ (c.in_ok-read_undecided.ensures.decided (ap Ok c.if-branch.false)))
    (rw c.in_ok-read_undecided.ensures.last at c.read_opened.ensures.last)
