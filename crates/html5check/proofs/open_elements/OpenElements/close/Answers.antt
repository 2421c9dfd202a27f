use Rattle.std.proofs.Common.{ap, ◌∙◌, ◌≡◌, ◌-◌, length, take, reverse, map, drop, sym, arith}
use Rattle.std.proofs.lemmas.List.{length-map, take-map}
use Rattle.html5check.proofs.Opening.{closed}
use Rattle.html5check.specs.Opened.{open_by, opened_by}
use Rattle.html5check.proofs.open_elements.OpenElements.close.Goals as goal

pub returns : goal.returns
returns c =
    let items = c.self.inside.elements.items in
    let left : c.saturating_sub.result ≡ length (map open_by items) - c.args.count = omega (arith, length-map items open_by) in
    ap opened_by c.truncate.ensures.items
    ∙ ap reverse (sym (take-map open_by c.saturating_sub.result items))
    ∙ ap (λ n. reverse (take n (map open_by items))) left
    ∙ closed (map open_by items) c.args.count
    ∙ ap (drop c.args.count) c.self.view_is
