-- Names and attributes, in the words of contracts. Texts are the bytes of their UTF-8.
use Rattle.std.specs.Prelude.{ℕ, List, [], Option, None, option_map, string_bytes}
use Rattle.markup5ever.specs.declared.interface.Prefix.{Prefix}
use Rattle.markup5ever.specs.declared.interface.QualName.{QualName}
use Rattle.markup5ever.specs.declared.interface.Attribute.{Attribute}

-- a name with a prefix or none, and its namespace
pub record QualifiedName : Type 0 where
  pub prefix : Option (List ℕ)
  pub ns : List ℕ
  pub local : List ℕ

-- an attribute
pub record AttributeOf : Type 0 where
  pub name : QualifiedName
  pub value : List ℕ

-- the bytes of a prefix
abbrev pub prefix_bytes : {Z : Type 0} → Prefix Z → List ℕ
prefix_bytes prefix = string_bytes prefix.0

-- a name, in the words of contracts
abbrev pub qualified_name_of : {Z : Type 0} → QualName Z → QualifiedName
qualified_name_of name = record { prefix = option_map prefix_bytes name.prefix; ns = string_bytes name.ns.0; local = string_bytes name.local.0 }

-- an attribute, in the words of contracts
abbrev pub attribute_of : {Z : Type 0} → Attribute Z → AttributeOf
attribute_of attribute = record { name = qualified_name_of attribute.name; value = string_bytes attribute.value }

-- a name with no prefix, in no namespace
abbrev pub plain_name : List ℕ → QualifiedName
plain_name local = record { prefix = None; ns = []; local = local }
