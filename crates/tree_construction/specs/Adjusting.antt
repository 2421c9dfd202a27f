-- "Adjust MathML attributes", "adjust SVG attributes", "adjust foreign attributes", and the tag names of SVG: names in mixed case, and
-- attributes with a prefix and a namespace. The tokenizer has all names in lower case.
use Rattle.std.specs.Prelude.{ℕ, List, [], ◌∷◌, Option, Some, None, codes, map, if◌then◌else◌}
use Rattle.std.specs.Str.{bytes_eq}
use Rattle.std.specs.Char.{to_ascii_lowercase}
use Rattle.markup5ever.specs.Names.{AttributeOf, QualifiedName, plain_name}
use Rattle.tree_construction.specs.declared.kinds.Namespace.{Namespace}
use Rattle.tree_construction.specs.declared.kinds.Namespace.TheVariants.{Html, MathMl, Svg}

-- the name among these that is this one in lower case, or else the name itself
unfoldable pub cased : List (List ℕ) → List ℕ → List ℕ
cased [] name = name
cased (other ∷ names) name = if bytes_eq (map to_ascii_lowercase other) name then other else cased names name

unfoldable pub svg_tag_names : List (List ℕ)
svg_tag_names =
    codes "altGlyph" ∷ codes "altGlyphDef" ∷ codes "altGlyphItem" ∷ codes "animateColor" ∷ codes "animateMotion" ∷ codes "animateTransform"
    ∷ codes "clipPath" ∷ codes "feBlend" ∷ codes "feColorMatrix" ∷ codes "feComponentTransfer" ∷ codes "feComposite" ∷ codes "feConvolveMatrix"
    ∷ codes "feDiffuseLighting" ∷ codes "feDisplacementMap" ∷ codes "feDistantLight" ∷ codes "feDropShadow" ∷ codes "feFlood" ∷ codes "feFuncA"
    ∷ codes "feFuncB" ∷ codes "feFuncG" ∷ codes "feFuncR" ∷ codes "feGaussianBlur" ∷ codes "feImage" ∷ codes "feMerge" ∷ codes "feMergeNode"
    ∷ codes "feMorphology" ∷ codes "feOffset" ∷ codes "fePointLight" ∷ codes "feSpecularLighting" ∷ codes "feSpotLight" ∷ codes "feTile"
    ∷ codes "feTurbulence" ∷ codes "foreignObject" ∷ codes "glyphRef" ∷ codes "linearGradient" ∷ codes "radialGradient" ∷ codes "textPath" ∷ []

unfoldable pub svg_attribute_names : List (List ℕ)
svg_attribute_names =
    codes "attributeName" ∷ codes "attributeType" ∷ codes "baseFrequency" ∷ codes "baseProfile" ∷ codes "calcMode" ∷ codes "clipPathUnits"
    ∷ codes "diffuseConstant" ∷ codes "edgeMode" ∷ codes "filterUnits" ∷ codes "glyphRef" ∷ codes "gradientTransform" ∷ codes "gradientUnits"
    ∷ codes "kernelMatrix" ∷ codes "kernelUnitLength" ∷ codes "keyPoints" ∷ codes "keySplines" ∷ codes "keyTimes" ∷ codes "lengthAdjust"
    ∷ codes "limitingConeAngle" ∷ codes "markerHeight" ∷ codes "markerUnits" ∷ codes "markerWidth" ∷ codes "maskContentUnits" ∷ codes "maskUnits"
    ∷ codes "numOctaves" ∷ codes "pathLength" ∷ codes "patternContentUnits" ∷ codes "patternTransform" ∷ codes "patternUnits" ∷ codes "pointsAtX"
    ∷ codes "pointsAtY" ∷ codes "pointsAtZ" ∷ codes "preserveAlpha" ∷ codes "preserveAspectRatio" ∷ codes "primitiveUnits" ∷ codes "refX" ∷ codes "refY"
    ∷ codes "repeatCount" ∷ codes "repeatDur" ∷ codes "requiredExtensions" ∷ codes "requiredFeatures" ∷ codes "specularConstant"
    ∷ codes "specularExponent" ∷ codes "spreadMethod" ∷ codes "startOffset" ∷ codes "stdDeviation" ∷ codes "stitchTiles" ∷ codes "surfaceScale"
    ∷ codes "systemLanguage" ∷ codes "tableValues" ∷ codes "targetX" ∷ codes "targetY" ∷ codes "textLength" ∷ codes "viewBox" ∷ codes "viewTarget"
    ∷ codes "xChannelSelector" ∷ codes "yChannelSelector" ∷ codes "zoomAndPan" ∷ []

unfoldable pub math_attribute_names : List (List ℕ)
math_attribute_names = codes "definitionURL" ∷ []

-- the tag name of an element in a namespace
unfoldable pub adjusted_tag_name : Namespace → List ℕ → List ℕ
adjusted_tag_name Svg name = cased svg_tag_names name
adjusted_tag_name other name = name

-- ---- "Adjust foreign attributes"

abbrev pub xlink : List ℕ
xlink = codes "http://www.w3.org/1999/xlink"

abbrev pub xml : List ℕ
xml = codes "http://www.w3.org/XML/1998/namespace"

abbrev pub xmlns : List ℕ
xmlns = codes "http://www.w3.org/2000/xmlns/"

-- a name in a tag, and what it is adjusted to
pub record Foreign : Type 0 where
  pub written : List ℕ
  pub name : QualifiedName

abbrev pub foreign : List ℕ → List ℕ → List ℕ → List ℕ → Foreign
foreign written prefix local ns = record { written = written; name = record { prefix = Some prefix; ns = ns; local = local } }

unfoldable pub foreign_attributes : List Foreign
foreign_attributes =
    foreign (codes "xlink:actuate") (codes "xlink") (codes "actuate") xlink
    ∷ foreign (codes "xlink:arcrole") (codes "xlink") (codes "arcrole") xlink
    ∷ foreign (codes "xlink:href") (codes "xlink") (codes "href") xlink
    ∷ foreign (codes "xlink:role") (codes "xlink") (codes "role") xlink
    ∷ foreign (codes "xlink:show") (codes "xlink") (codes "show") xlink
    ∷ foreign (codes "xlink:title") (codes "xlink") (codes "title") xlink
    ∷ foreign (codes "xlink:type") (codes "xlink") (codes "type") xlink
    ∷ foreign (codes "xml:lang") (codes "xml") (codes "lang") xml
    ∷ foreign (codes "xml:space") (codes "xml") (codes "space") xml
    ∷ record { written = codes "xmlns"; name = record { prefix = None; ns = xmlns; local = codes "xmlns" } }
    ∷ foreign (codes "xmlns:xlink") (codes "xmlns") (codes "xlink") xmlns
    ∷ []

-- the name of an attribute by this table, or else one without prefix and namespace, in mixed case where the namespace has it so
unfoldable pub adjusted_name : List Foreign → List (List ℕ) → List ℕ → QualifiedName
adjusted_name [] cases name = plain_name (cased cases name)
adjusted_name (row ∷ rows) cases name = if bytes_eq row.written name then row.name else adjusted_name rows cases name

abbrev pub adjusted_in : List (List ℕ) → AttributeOf → AttributeOf
adjusted_in cases a = record a { name = adjusted_name foreign_attributes cases a.name.local }

-- the attributes of an element in a namespace
unfoldable pub adjusted_attributes : Namespace → List AttributeOf → List AttributeOf
adjusted_attributes Html attributes = attributes
adjusted_attributes MathMl attributes = map (adjusted_in math_attribute_names) attributes
adjusted_attributes Svg attributes = map (adjusted_in svg_attribute_names) attributes
