use Rattle.std.proofs.Common.{sym}
use Rattle.markup5ever.proofs.NamedReferencesLemmas.{characters-absent}
use Rattle.markup5ever.proofs.Searches.{characters-found}
use Rattle.markup5ever.proofs.data.NamedReferences.get.Goals as goal

pub returns-in-Ok-clause-characters : goal.returns-in-Ok-clause-characters
returns-in-Ok-clause-characters g c =
    let items = c.self.inside.entries.items in
    sym (characters-found items c.args.self.now c.args.name.now c.in-Ok.place c.index.result.now c.self.view_is c.self.invariant.0 c.in-Ok.ensures.found c.index.ensures)

pub returns-in-Err-clause-characters : goal.returns-in-Err-clause-characters
returns-in-Err-clause-characters g c = sym (characters-absent c.args.self.now c.args.name.now _ c.in-Err.ensures.absent)
