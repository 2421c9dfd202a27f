use Rattle.std.proofs.Common.{suc, ◌+◌, ◌<◌, ◌≤◌, Some, None, drop, map, ap, sym, ◌∙◌, subst, arith}
use Rattle.std.specs.Prelude.{if◌then◌else◌}
use Rattle.std.specs.Str.{bytes_eq}
use Rattle.html5amend.specs.Open.{OpenOf, found_from}
use Rattle.html5amend.specs.Views.{open_by}
use Rattle.html5amend.proofs.Counting.{found-next, found-none}
use Rattle.html5amend.proofs.waiting.Waiting.found.Goals as goal

pub returns-then-eq : goal.returns-then-eq
returns-then-eq g c =
    let q = c.self.inside.elements in
    let i = c.loop-place.place in
    let x = c.index-element.result.now in
    let rest = found_from (suc i) c.args.name.now (map open_by (drop (i + 1) q.items)) in
    sym (ap (λ w. found_from 0 c.args.name.now w.elements) (sym c.self.view_is)
    ∙ c.loop-place.invariant
    ∙ found-next i c.args.name.now q.items x (subst (λ n. i < n) (c.len-place-end.ensures ∙ q.ok.0) c.loop-place-test.true)
    ∙ ap (λ (o : OpenOf). if bytes_eq o.name c.args.name.now then Some (record { place = i; element = o }) else if o.drops then None else rest) (ap open_by (sym c.index-element.ensures))
    ∙ ap (λ b. if b then Some (record { place = i; element = open_by x }) else if x.drops then None else rest)
    (ap (λ l. bytes_eq l c.args.name.now) (sym c.as_str.ensures.value) ∙ sym c.eq.ensures ∙ c.if-eq.true))

pub returns-then-element : goal.returns-then-element
returns-then-element g c =
    let q = c.self.inside.elements in
    let i = c.loop-place.place in
    let x = c.index-element.result.now in
    let rest = found_from (suc i) c.args.name.now (map open_by (drop (i + 1) q.items)) in
    sym (ap (λ w. found_from 0 c.args.name.now w.elements) (sym c.self.view_is)
    ∙ c.loop-place.invariant
    ∙ found-next i c.args.name.now q.items x (subst (λ n. i < n) (c.len-place-end.ensures ∙ q.ok.0) c.loop-place-test.true)
    ∙ ap (λ (o : OpenOf). if bytes_eq o.name c.args.name.now then Some (record { place = i; element = o }) else if o.drops then None else rest) (ap open_by (sym c.index-element.ensures))
    ∙ ap (λ b. if b then Some (record { place = i; element = open_by x }) else if x.drops then None else rest)
    (ap (λ l. bytes_eq l c.args.name.now) (sym c.as_str.ensures.value) ∙ sym c.eq.ensures ∙ c.if-eq.false)
    ∙ ap (λ b. if b then None else rest) c.if-element.true)

pub loop-place-preserved : goal.loop-place-preserved
loop-place-preserved g c =
    let q = c.self.inside.elements in
    let i = c.loop-place.place in
    let x = c.index-element.result.now in
    let rest = found_from (suc i) c.args.name.now (map open_by (drop (i + 1) q.items)) in
    c.loop-place.invariant
    ∙ found-next i c.args.name.now q.items x (subst (λ n. i < n) (c.len-place-end.ensures ∙ q.ok.0) c.loop-place-test.true)
    ∙ ap (λ (o : OpenOf). if bytes_eq o.name c.args.name.now then Some (record { place = i; element = o }) else if o.drops then None else rest) (ap open_by (sym c.index-element.ensures))
    ∙ ap (λ b. if b then Some (record { place = i; element = open_by x }) else if x.drops then None else rest)
    (ap (λ l. bytes_eq l c.args.name.now) (sym c.as_str.ensures.value) ∙ sym c.eq.ensures ∙ c.if-eq.false)
    ∙ ap (λ b. if b then None else rest) c.if-element.false
    ∙ ap (λ n. found_from n c.args.name.now (map open_by (drop (i + 1) q.items))) {x = suc i} {y = i + 1} (omega arith)

pub returns : goal.returns
returns g c =
    let q = c.self.inside.elements in
    sym (ap (λ w. found_from 0 c.args.name.now w.elements) (sym c.self.view_is)
    ∙ c.loop-place.invariant
    ∙ found-none c.loop-place.place c.args.name.now q.items (subst (λ n. n ≤ c.loop-place.place) (c.len-place-end.ensures ∙ q.ok.0) c.loop-place-test.false))
