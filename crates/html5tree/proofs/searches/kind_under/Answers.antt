use Rattle.std.proofs.Common.{◌≡◌, ◌+◌, ◌-◌, length, arith, ◌∙◌}
use Rattle.html5tree.proofs.OpenNames.{top-under}
use Rattle.html5tree.proofs.searches.kind_under.Goals as goal

pub returns-then-closes-opened : goal.returns-then-closes-opened
returns-then-closes-opened c =
    let sum : length c.args.opened.now - c.args.closes - 1 + 1 + c.args.closes ≡ length c.args.opened.now = omega arith in
    c.kind.ensures ∙ top-under c.args.opened.now c.args.closes (length c.args.opened.now - c.args.closes - 1) c.index-opened-opened.result sum c.index-opened-opened.is
