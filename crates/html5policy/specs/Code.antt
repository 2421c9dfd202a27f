-- Policies and rules as code has them.
use Rattle.std.specs.Prelude.{map, string_bytes}
use Rattle.html5policy.specs.Policy.{OwnAttribute, PolicyOf}
use Rattle.html5policy.specs.Rules.{RuleOf}
use Rattle.html5policy.specs.Rules.RuleOf.{Element as ElementRule, Attribute as AttributeRule, Everywhere as EverywhereRule, Scheme as SchemeRule, Hidden as HiddenRule, Rel as RelRule, Balance as BalanceRule, Tree as TreeRule, Depth as DepthRule}
use Rattle.html5policy.specs.declared.rule.Rule.{Rule as RustRule}
use Rattle.html5policy.specs.declared.rule.Rule.TheVariants.{Element, Attribute, Everywhere, Scheme, Hidden, Rel, Balance, Tree, Depth}
use Rattle.html5policy.specs.declared.rules.OwnAttribute.{OwnAttribute as RustOwnAttribute}
use Rattle.html5policy.specs.declared.rules.Rules.{Rules}

abbrev pub own_of : {Z : Type 0} → RustOwnAttribute Z → OwnAttribute
own_of own = record { element = string_bytes own.element; attribute = string_bytes own.attribute }

abbrev pub policy_of : {Z : Type 0} → Rules Z → PolicyOf
policy_of rules = record {
  elements = map string_bytes rules.elements.items;
  own = map own_of rules.own.items;
  everywhere = map string_bytes rules.everywhere.items;
  schemes = map string_bytes rules.schemes.items;
  hidden = map string_bytes rules.hidden.items;
  rel = string_bytes rules.rel;
  balance = rules.balance;
  tree = rules.tree;
  depth = rules.depth;
}

abbrev pub rule_of : RustRule → RuleOf
rule_of (Element name) = ElementRule name.now
rule_of (Attribute element name) = AttributeRule element.now name.now
rule_of (Everywhere name) = EverywhereRule name.now
rule_of (Scheme scheme) = SchemeRule scheme.now
rule_of (Hidden name) = HiddenRule name.now
rule_of (Rel word) = RelRule word.now
rule_of Balance = BalanceRule
rule_of Tree = TreeRule
rule_of (Depth depth) = DepthRule depth
