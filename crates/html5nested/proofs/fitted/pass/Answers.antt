use Rattle.html5tree.specs.Items.Item.{EndTag, StartTag}
use Rattle.html5nested.proofs.Nesting.{passed-unknown}
use Rattle.html5nested.proofs.fitted.pass.Goals as goal

pub returns-clause-start : goal.returns-clause-start
returns-clause-start g c = λ attributes.
    let nested = c.args.nesting.now in
    let item = StartTag c.args.name.now attributes in
    passed-unknown nested item (c.normal_item.ensures.unknown_start nested.limit nested.opened c.args.name.now attributes c.requires)
    (c.normal_item.ensures.after nested.limit nested.opened item c.depth-depth.ensures.ready)

pub returns-clause-end : goal.returns-clause-end
returns-clause-end g c =
    let nested = c.args.nesting.now in
    let item = EndTag c.args.name.now in
    passed-unknown nested item (c.normal_item.ensures.unknown_end nested.limit nested.opened c.args.name.now c.depth-depth.ensures.ready c.requires)
    (c.normal_item.ensures.after nested.limit nested.opened item c.depth-depth.ensures.ready)
