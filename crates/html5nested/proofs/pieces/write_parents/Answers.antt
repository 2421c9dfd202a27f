use Rattle.std.proofs.Common.{[], ◌∷◌, ◌+◌, drop, subst}
use Rattle.html5tree.specs.ElementNames.{name_of}
use Rattle.html5tree.specs.Items.Item.{StartTag}
use Rattle.html5tree.specs.Normal.{start_tags}
use Rattle.html5tree.specs.Planned.{parents_said}
use Rattle.html5nested.specs.Adding.{Adds}
use Rattle.html5nested.proofs.Added.{left-next, parents-next}
use Rattle.html5nested.proofs.pieces.write_parents.Goals as goal

pub loop-at-init : goal.loop-at-init
loop-at-init g c = λ after adds. adds

pub loop-at-preserved : goal.loop-at-preserved
loop-at-preserved g c =
    let names = parents_said c.args.parents in
    left-next c.args.page.now c.loop-at.page c.write_start_tag.new.page (start_tags names) (start_tags (drop c.loop-at.at names)) (start_tags (drop (c.loop-at.at + 1) names)) (StartTag (name_of c.in-Some.name) [])
    (parents-next names c.get.result c.in-Some.name c.loop-at.at c.get.ensures c.in-Some.is)
    c.loop-at.invariant
    (subst (λ n. Adds c.loop-at.page c.write_start_tag.new.page (StartTag n [] ∷ [])) c.as_str.ensures c.in_ok-write_start_tag-in-Some.ensures)
