-- Each answer turns bytes that were compared into characters, by lemmas to which it gives the texts.
use Rattle.std.proofs.Common.{◌+◌, None, Some, true, false, refl, ap, ◌∙◌}
use Rattle.std.proofs.lemmas.Bool.{iff_false}
use Rattle.markup5ever.proofs.CaseLemmas.{Answer, answer_begins, answer_differs, answer_ends, begins_from_bytes, differs_from_bytes, ends_from_bytes, front_chars, after_utf8, length-front}
use Rattle.markup5ever.proofs.buffer_queue.BufferQueue.eat.Given.{Over}
use Rattle.markup5ever.proofs.buffer_queue.BufferQueue.eat.Goals as goal

unlike : (g : Over) (c : goal.Then-not-equates g) → Answer c.args.case c.args.self.now.text c.args.pat.now (Some false)
unlike g c =
    let text = c.args.self.now.text in
    let pattern = c.args.pat.now in
    let is = c.as_bytes-front.ensures.value ∙ c.front_text.ensures in
    let other = rw (is, c.as_bytes-pattern.ensures.value) at (iff_false c.equates.ensures c.if-not-equates.true) in
    let least = rw (is, c.as_bytes-pattern.ensures.value) at c.min-shared.ensures in
    answer_differs c.args.case text pattern (differs_from_bytes c.args.case text pattern (rw is at c.as_bytes-front.ensures.utf8) c.requires.ascii c.min-shared.result least other)

pub returns-then-not-equates-clause-begins : goal.returns-then-not-equates-clause-begins
returns-then-not-equates-clause-begins g c = (unlike g c).begins

pub returns-then-not-equates-clause-differs : goal.returns-then-not-equates-clause-differs
returns-then-not-equates-clause-differs g c = (unlike g c).differs

pub returns-then-not-equates-clause-undecided : goal.returns-then-not-equates-clause-undecided
returns-then-not-equates-clause-undecided g c = (unlike g c).undecided

ends : (g : Over) (c : goal.Then-front-pattern g) → Answer c.args.case c.args.self.now.text c.args.pat.now None
ends g c =
    let text = c.args.self.now.text in
    let pattern = c.args.pat.now in
    let is = c.as_bytes-front.ensures.value ∙ c.front_text.ensures in
    let like = rw (is, c.as_bytes-pattern.ensures.value) at (c.equates.ensures.0 c.if-not-equates.false) in
    let least = rw (is, c.as_bytes-pattern.ensures.value) at c.min-shared.ensures in
    let shorter = rw (is, c.as_bytes-pattern.ensures.value) at c.if-front-pattern.true in
    answer_ends c.args.case text pattern (ends_from_bytes c.args.case text pattern (rw is at c.as_bytes-front.ensures.utf8) c.requires.ascii c.min-shared.result least like shorter)

pub returns-then-front-pattern-clause-begins : goal.returns-then-front-pattern-clause-begins
returns-then-front-pattern-clause-begins g c = (ends g c).begins

pub returns-then-front-pattern-clause-differs : goal.returns-then-front-pattern-clause-differs
returns-then-front-pattern-clause-differs g c = (ends g c).differs

pub returns-then-front-pattern-clause-undecided : goal.returns-then-front-pattern-clause-undecided
returns-then-front-pattern-clause-undecided g c = (ends g c).undecided

pub skip-requires-clause-rest_utf8 : goal.skip-requires-clause-rest_utf8
skip-requires-clause-rest_utf8 g c =
    let text = c.args.self.now.text in
    let pattern = c.args.pat.now in
    let is = c.as_bytes-front.ensures.value ∙ c.front_text.ensures in
    let like = rw (is, c.as_bytes-pattern.ensures.value) at (c.equates.ensures.0 c.if-not-equates.false) in
    let least = rw (is, c.as_bytes-pattern.ensures.value) at c.min-shared.ensures in
    let within = rw (is, c.as_bytes-pattern.ensures.value) at c.if-front-pattern.false in
    let utf8 = rw is at c.as_bytes-front.ensures.utf8 in
    rw c.as_bytes-pattern.ensures.value (after_utf8 c.args.case text pattern utf8 c.requires.ascii (begins_from_bytes c.args.case text pattern utf8 c.requires.ascii c.min-shared.result least like within))

begins : (g : Over) (c : goal.After-skip g) → Answer c.args.case c.args.self.now.text c.args.pat.now (Some true)
begins g c =
    let text = c.args.self.now.text in
    let pattern = c.args.pat.now in
    let is = c.as_bytes-front.ensures.value ∙ c.front_text.ensures in
    let like = rw (is, c.as_bytes-pattern.ensures.value) at (c.equates.ensures.0 c.if-not-equates.false) in
    let least = rw (is, c.as_bytes-pattern.ensures.value) at c.min-shared.ensures in
    let within = rw (is, c.as_bytes-pattern.ensures.value) at c.if-front-pattern.false in
    answer_begins c.args.case text pattern (begins_from_bytes c.args.case text pattern (rw is at c.as_bytes-front.ensures.utf8) c.requires.ascii c.min-shared.result least like within)

pub returns-clause-begins : goal.returns-clause-begins
returns-clause-begins g c = (begins g c).begins

pub returns-clause-differs : goal.returns-clause-differs
returns-clause-differs g c = (begins g c).differs

pub returns-clause-undecided : goal.returns-clause-undecided
returns-clause-undecided g c = (begins g c).undecided

pub returns-clause-takes : goal.returns-clause-takes
returns-clause-takes g c =
    let text = c.args.self.now.text in
    let is = c.as_bytes-front.ensures.value ∙ c.front_text.ensures in
    let taken = front_chars c.args.case text c.args.pat.now (rw is at c.as_bytes-front.ensures.utf8) c.requires.ascii ((begins g c).begins.0 refl) in
    λ _. rw (c.as_bytes-pattern.ensures.value, taken) at c.skip.ensures

pub returns-clause-count : goal.returns-clause-count
returns-clause-count g c =
    let old = c.args.self.now in
    let pattern = c.args.pat.now in
    let taken = returns-clause-takes g c refl in
    λ _. taken.taken ∙ ap (λ n. old.taken + n) (length-front c.args.case old.text pattern ((begins g c).begins.0 refl))
