-- Elements of the HTML namespace have the attributes of their tags.
use Rattle.std.proofs.Common.{◌≡◌, ℕ, List, Bool, true, refl}
use Rattle.markup5ever.specs.Names.{AttributeOf}
use Rattle.tree_construction.specs.Adjusting.{adjusted_attributes}
use Rattle.tree_construction.specs.Names.{is_html, namespace_of}
use Rattle.tree_construction.specs.Page.{Place}
use Rattle.tree_construction.specs.Parser.{Parser, inserted_at, takes_form}
use Rattle.tree_construction.specs.declared.kinds.Kind.{Kind}
use Rattle.tree_construction.specs.declared.kinds.Namespace.TheVariants.{Html}
use Rattle.tree_builder.proofs.TagKinds.{html-namespace}
use Rattle.tree_builder.specs.Built.{inserted_as}

pub html-inserted : (place : Place) (kind : Kind) (name : List ℕ) (said : List AttributeOf) (p : Parser) → namespace_of kind ≡ Html
    → inserted_as place kind name said (takes_form p kind said) p ≡ inserted_at place kind name said p
unfolding adjusted_attributes
html-inserted place kind name said p html = rw html refl

-- an element of either sort, by the attributes that it gets
pub as-inserted : (place : Place) (kind : Kind) (name : List ℕ) (said adjusted : List AttributeOf) (takes : Bool) (p : Parser)
    → takes ≡ takes_form p kind said → adjusted ≡ adjusted_attributes (namespace_of kind) said
    → inserted_as place kind name adjusted takes p ≡ inserted_at place kind name said p
as-inserted place kind name said adjusted takes p t a = rw (t, a) refl

pub html-attributes : (kind : Kind) (said : List AttributeOf) → is_html kind ≡ true → said ≡ adjusted_attributes (namespace_of kind) said
unfolding adjusted_attributes
html-attributes kind said html = rw (html-namespace kind html) refl
