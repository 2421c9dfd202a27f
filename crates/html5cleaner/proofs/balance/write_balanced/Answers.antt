use Rattle.std.proofs.Common.{◌++◌, ap, sym, ◌∙◌}
use Rattle.html5cleaner.specs.Balance.{all_balanced, all_open_after}
use Rattle.html5cleaner.specs.Clean.{kept_of_run}
use Rattle.html5cleaner.specs.Kept.{piece_where}
use Rattle.html5cleaner.proofs.KeepsLemmas.{keeps-plain, keeps-same}
use Rattle.html5cleaner.proofs.WrittenRuns.{none-balanced, none-opened}
use Rattle.html5cleaner.proofs.balance.write_balanced.Goals as goal

pub returns-in-None : goal.returns-in-None
returns-in-None g c =
    let opened = c.args.opened.now in
    let run = c.args.run.now in
    keeps-same c.write_plain.result c.args.page.now c.write_plain.new.page opened opened _ _ _ _
    (sym (ap (λ l. all_balanced opened (kept_of_run run ++ piece_where l)) c.in-None.is ∙ none-balanced opened run))
    (sym (ap (λ l. all_open_after opened (kept_of_run run ++ piece_where l)) c.in-None.is ∙ none-opened opened run))
    (keeps-plain c.write_plain.result c.args.page.now c.write_plain.new.page opened _ c.write_plain.ensures.written c.write_plain.ensures.unchanged c.write_plain.ensures.change)
