use Rattle.std.proofs.Common.{◌∷◌, [], map, subst}
use Rattle.html5tree.specs.ElementNames.{name_of}
use Rattle.html5tree.specs.Items.Item.{EndTag}
use Rattle.html5tree.specs.Normal.{end_tags}
use Rattle.html5nested.specs.Adding.{Adds}
use Rattle.html5nested.proofs.Added.{ends-next, left-next, left-none, none-left}
use Rattle.html5nested.proofs.pieces.write_end_tags.Goals as goal

pub loop-name-init : goal.loop-name-init
loop-name-init g c = λ after adds. adds

pub loop-name-preserved : goal.loop-name-preserved
loop-name-preserved g c =
    left-next c.args.page.now c.loop-name.page c.write_end_tag.new.page (end_tags (map name_of c.args.names.now)) (end_tags (map name_of c.loop-name.left.now)) _ (EndTag (name_of c.in-Some.name.now))
    (ends-next c.loop-name.left.now _ c.in-Some.name.now c.in-Some.ensures.cases.0)
    c.loop-name.invariant
    (subst (λ n. Adds c.loop-name.page c.write_end_tag.new.page (EndTag n ∷ [])) c.as_str.ensures c.in_ok-write_end_tag.ensures)

pub returns : goal.returns
returns g c =
    left-none c.args.page.now c.loop-name.page (end_tags (map name_of c.args.names.now)) (end_tags (map name_of c.loop-name.left.now))
    (none-left c.loop-name.left.now c.in_default.ensures.cases) c.loop-name.invariant
