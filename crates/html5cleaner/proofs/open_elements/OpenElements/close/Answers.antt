use Rattle.std.proofs.Common.{drop, ap, ◌∙◌}
use Rattle.std.proofs.lemmas.List.{drop-drop}
use Rattle.html5cleaner.proofs.open_elements.OpenElements.close.Goals as goal

pub loop-preserved : goal.loop-preserved
loop-preserved g c = c.pop.ensures ∙ ap (drop 1) c.loop.invariant ∙ drop-drop 1 c.loop.counter c.args.self.now
