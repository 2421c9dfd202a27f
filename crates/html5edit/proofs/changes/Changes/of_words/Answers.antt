use Rattle.std.proofs.Common.{◌≡◌, ◌∙◌, ◌-◌, ap, arith, get_or, length, map, refl, sym}
use Rattle.std.specs.Prelude.{Some, drop}
use Rattle.std.proofs.lemmas.List.{length-map}
use Rattle.std.proofs.Math.ListN.{get_or-map}
use Rattle.html5edit.specs.Asked.{changes_said, said_after}
use Rattle.html5edit.proofs.ByWords.{said-more, said-none}
use Rattle.html5programs.specs.Words.{given_of}
use Rattle.html5edit.proofs.changes.Changes.of_words.Goals as goal

pub loop-later-init : goal.loop-later-init
loop-later-init c =
    said-none (map given_of c.args.words.now.given.items) c.len-count.result (c.len-count.ensures ∙ c.args.words.now.given.ok.0 ∙ sym (length-map c.args.words.now.given.items given_of))
    ∙ ap Some (sym c.none-changes.ensures)

pub loop-later-preserved : goal.loop-later-preserved
loop-later-preserved c =
    let given = c.args.words.now.given.items in
    let at = c.len-count.result - 1 - c.loop-later.later in
    let one = c.index.result.now in
    said-more (map given_of given) c.len-count.result c.loop-later.later (given_of one) c.loop-later.changes c.take_option.new.self
    (c.len-count.ensures ∙ c.args.words.now.given.ok.0 ∙ sym (length-map given given_of)) c.loop-later-test.true c.loop-later.invariant
    (ap (λ g. said_after g c.loop-later.changes) (get_or-map given_of given at one ∙ ap given_of (sym c.index.ensures)) ∙ c.in_ok-take_option.ensures)

pub returns : goal.returns
returns c =
    let zero : c.len-count.result - c.loop-later.later ≡ 0 = omega (arith, c.loop-later-test.false) in
    ap (λ n. changes_said (drop n (map given_of c.args.words.now.given.items))) (sym zero) ∙ c.loop-later.invariant
