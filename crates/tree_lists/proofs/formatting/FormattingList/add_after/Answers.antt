use Rattle.std.proofs.Common.{sym, ◌∙◌}
use Rattle.std.proofs.lemmas.Result.{on_ok_weaker}
use Rattle.tree_lists.specs.Formatting.{active_of, listed_of}
use Rattle.tree_lists.proofs.formatting.FormattingList.add_after.Goals as goal

pub returns-in-Some : goal.returns-in-Some
returns-in-Some g c = on_ok_weaker c.insert_at.result (λ e. e ∙ sym (c.in-Some.ensures.1.added (active_of (listed_of g.H.NodeHandle.node g.T.TagAttributes.said c.args.element)))) c.insert_at.ensures.ok
