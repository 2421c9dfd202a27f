-- The program's own records of changes.
use Rattle.std.specs.Prelude.{option_map, string_bytes}
use Rattle.html5ever_interface.specs.Token.{tag_of}
use Rattle.html5edit.specs.Changes.{AttributeRule as RuleOf, Changed}
use Rattle.html5edit.specs.declared.rule.AttributeRule.{AttributeRule}
use Rattle.html5edit.specs.declared.tags.ChangedTag.{ChangedTag}

-- what a rule says
abbrev pub rule_by : AttributeRule → RuleOf
rule_by rule = record { element = string_bytes rule.element; attribute = string_bytes rule.attribute; value = option_map string_bytes rule.value }

-- a tag, and whether it was changed
abbrev pub changed_by : ChangedTag → Changed
changed_by changed = record { tag = tag_of changed.tag; is_changed = changed.is_changed }
