use Rattle.std.proofs.Common.{sym, ◌∙◌}
use Rattle.std.proofs.lemmas.List.Sorted.{IsPermutation-sym, IsPermutation-trans}
use Rattle.html5ever_interface.proofs.interface.token.equivalence_of_tags.Goals as goal

pub returns-clause-symmetric : goal.returns-clause-symmetric
returns-clause-symmetric c tag other same = record {
  kind = sym same.kind;
  name = sym same.name;
  attributes = IsPermutation-sym _ _ same.attributes;
}

pub returns-clause-transitive : goal.returns-clause-transitive
returns-clause-transitive c tag other third same next = record {
  kind = same.kind ∙ next.kind;
  name = same.name ∙ next.name;
  attributes = IsPermutation-trans _ _ _ same.attributes next.attributes;
}
