use Rattle.std.proofs.Common.{rules}
use Rattle.html5cleaner.proofs.KeepsLemmas.{keeps-last, keeps-last_plain}
use Rattle.html5cleaner.proofs.cleaner.keep_end.Goals as goal
use Rattle.html5cleaner.proofs.cleaner.keep_end.Goals.{then-balances, else-balances}

pub returns : goal.returns
returns g c =
    elim c.if-balances.branch [
      | then-balances w ↦ keeps-last c.args.policy.now.balance c.if-balances.close c.args.page.now c.write_closed.new.page c.args.opened.now c.args.run.now
          (search rules) (search rules) c.in_ok-write_closed.ensures.written
      | else-balances w ↦ keeps-last_plain c.args.policy.now.balance c.if-balances.close c.args.page.now c.write_closed.new.page c.args.opened.now c.args.run.now
          (search rules) (search rules) c.in_ok-write_closed.ensures.written
    ]
