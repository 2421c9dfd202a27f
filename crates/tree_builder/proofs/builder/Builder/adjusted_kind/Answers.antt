use Rattle.std.proofs.Common.{◌≡◌, arith, length}
use Rattle.tree_construction.specs.Parser.{Parser, kind_at_top}
use Rattle.tree_builder.proofs.Foreign.{adjusted-alone}
use Rattle.tree_builder.proofs.builder.Builder.adjusted_kind.Goals as goal

pub returns-then-open_len-eq1 : goal.returns-then-open_len-eq1
returns-then-open_len-eq1 g c =
    let p : Parser = c.args.self.now.parser in
    let one : length p.page.opened ≡ 1 = omega arith in
    let kind : c.current_kind-kind.result ≡ kind_at_top p.page.opened = rw (← c.self.view_is) c.current_kind-kind.ensures in
    rw (c.last_kind.ensures, kind) (adjusted-alone p.options.context p.page.opened one)
