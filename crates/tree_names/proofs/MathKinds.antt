-- The kinds of MathML elements.
use Rattle.std.proofs.Common.{◌≡◌, ℕ, Bool, List, [], ◌∷◌, false, ap, ◌∙◌}
use Rattle.std.specs.Prelude.{codes, if◌then◌else◌}
use Rattle.std.specs.Str.{bytes_eq}
use Rattle.markup5ever.specs.Names.{AttributeOf}
use Rattle.tree_construction.specs.Names.{has_such, is_among, math_kind_of, says_html}
use Rattle.tree_construction.specs.declared.kinds.Kind.{Kind}
use Rattle.tree_construction.specs.declared.kinds.Kind.TheVariants.{Annotation, HtmlAnnotation, MathTextPoint, OtherMath}

-- the name is that of no text integration point
pub math-other : (name : List ℕ) (attributes : List AttributeOf) (named : Bool)
    → is_among name (codes "mi" ∷ codes "mo" ∷ codes "mn" ∷ codes "ms" ∷ codes "mtext" ∷ []) ≡ false → bytes_eq name (codes "annotation-xml") ≡ named
    → math_kind_of name attributes ≡ (if named then (if has_such says_html attributes then HtmlAnnotation else Annotation) else OtherMath)
math-other name attributes named other same =
    ap (λ t. if t then MathTextPoint else choice (bytes_eq name (codes "annotation-xml"))) other ∙ ap choice same
  where
    choice : Bool → Kind
    choice t = if t then (if has_such says_html attributes then HtmlAnnotation else Annotation) else OtherMath
