use Rattle.std.proofs.Common.{◌≡◌, ℕ, ◌<◌, ◌≤◌, List, map, ap, sym, ◌∙◌, subst}
use Rattle.std.proofs.lemmas.List.{length-map}
use Rattle.html5amend.specs.Open.{OpenOf, counted_at}
use Rattle.html5amend.specs.Places.{Waiting}
use Rattle.html5amend.specs.Views.{open_by}
use Rattle.html5amend.proofs.Counting.{counted-beyond, counted-closed, counted-set, with_depth}
use Rattle.html5amend.proofs.waiting.Waiting.count_at.Goals as goal
use Rattle.html5amend.proofs.waiting.Waiting.count_at.Goals.{in-None-1, in-Some-1}

-- what is counted among those of the fields is counted among those that wait
as_waiting : (w v : Waiting) (l : List OpenOf) (place depth : ℕ) → l ≡ counted_at place depth v.elements → v ≡ w
    → ◌≡◌ {A = Waiting} (record { elements = l; places = v.places }) (record { elements = counted_at place depth w.elements; places = w.places })
as_waiting w v l place depth counts is =
    ap (λ k. record { elements = k; places = v.places }) counts ∙ ap (λ u. record { elements = counted_at place depth u.elements; places = u.places }) is

pub returns-then-depth-eq0 : goal.returns-then-depth-eq0
returns-then-depth-eq0 g c =
    let q = c.self.inside.elements in
    let place = c.args.place in
    let counts = counted-closed place q c.remove-closed.new.self c.remove-closed.result (subst (λ n. place < n) (c.len.ensures ∙ q.ok.0) c.if-place-len.true) c.remove-closed.ensures.items c.remove-closed.ensures.variant
    ∙ ap (λ n. counted_at place n (map open_by q.items)) (sym c.if-depth-eq0.true) in
    let done = as_waiting c.args.self.now (record { elements = map open_by q.items; places = c.self.inside.places }) (map open_by c.remove-closed.new.self.items) place c.args.depth counts c.self.view_is in
    elim c.match-closed.branch [ in-Some-1 w ↦ w.self-is ∙ done | in-None-1 w ↦ w.self-is ∙ done ]

pub returns-else-depth-eq0 : goal.returns-else-depth-eq0
returns-else-depth-eq0 g c =
    let q = c.self.inside.elements in
    let place = c.args.place in
    let x = c.index_mut.result.now in
    as_waiting c.args.self.now (record { elements = map open_by q.items; places = c.self.inside.places }) _ place c.args.depth
    (counted-set place c.args.depth q.items (record { name = x.name; depth = c.args.depth; ending = x.ending; drops = x.drops }) x c.if-depth-eq0.false
    (subst (λ n. place < n) (c.len.ensures ∙ q.ok.0) c.if-place-len.true)
    (ap (λ y. with_depth c.args.depth (open_by y)) c.index_mut.ensures.value)) c.self.view_is

pub returns-else-place-len : goal.returns-else-place-len
returns-else-place-len g c =
    let q = c.self.inside.elements in
    let place = c.args.place in
    sym c.self.view_is
    ∙ as_waiting c.args.self.now (record { elements = map open_by q.items; places = c.self.inside.places }) (map open_by q.items) place c.args.depth
    (sym (counted-beyond place c.args.depth (map open_by q.items) (subst (λ n. n ≤ place) (c.len.ensures ∙ q.ok.0 ∙ sym (length-map q.items open_by)) c.if-place-len.false))) c.self.view_is
