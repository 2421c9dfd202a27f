-- The rules that are left make of the tag what all of them make of it.
use Rattle.std.proofs.Common.{◌≡◌, drop, map}
use Rattle.html5edit.specs.Changes.{by_rules}
use Rattle.html5edit.specs.Rules.{changed_by, rule_by}
use Rattle.html5edit.proofs.tags.ChangedTag.apply_all.Given as goal

abbrev pub invariant-loop-rule : goal.invariant-loop-rule
invariant-loop-rule l = by_rules (changed_by l.self) (map rule_by (drop l.rule-index l.rules)) ≡ by_rules (changed_by l.fn.self) (map rule_by l.rules)
