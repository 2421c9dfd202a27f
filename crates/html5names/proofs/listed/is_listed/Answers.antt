use Rattle.std.proofs.Common.{◌∙◌}
use Rattle.html5names.proofs.Searches.{found-listed}
use Rattle.html5names.proofs.listed.is_listed.Goals as goal

pub returns : goal.returns
returns c = c.is_ok.ensures.value ∙ found-listed c.args.listed.now c.args.name.now c.binary_search.result c.requires c.binary_search.ensures.bound c.binary_search.ensures.position
