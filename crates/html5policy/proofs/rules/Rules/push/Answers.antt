use Rattle.std.proofs.Common.{string_bytes}
use Rattle.html5policy.specs.Code.{own_of}
use Rattle.html5policy.proofs.Marking.{marked-everywhere, marked-own}
use Rattle.html5policy.proofs.rules.Rules.push.Goals as goal

pub returns-in-Attribute-clause-marked : goal.returns-in-Attribute-clause-marked
returns-in-Attribute-clause-marked g c =
    marked-own own_of c.push_own.result _ _ _ _ _ _ c.push_own.ensures.ok c.push_own.ensures.err c.note-in-Attribute.ensures.kept c.note-in-Attribute.ensures.noted

pub returns-in-Everywhere-clause-marked : goal.returns-in-Everywhere-clause-marked
returns-in-Everywhere-clause-marked g c =
    marked-everywhere string_bytes c.push_name-in-Everywhere.result _ _ _ _ _ _ c.push_name-in-Everywhere.ensures.ok c.push_name-in-Everywhere.ensures.err
    c.note-in-Everywhere.ensures.kept c.note-in-Everywhere.ensures.noted
