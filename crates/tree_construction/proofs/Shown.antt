-- Trees as text, for worked cases: a line for each node and each attribute, as the public tests of tree construction write them.
use Rattle.std.specs.Prelude.{ℕ, suc, zero, Bool, true, false, List, [], ◌∷◌, ◌++◌, ◌==◌, Option, Some, None, nat_lt, codes, if◌then◌else◌}
use Rattle.markup5ever.specs.Names.{AttributeOf, plain_name}
use Rattle.html5ever_interface.specs.Token.{Told}
use Rattle.html5ever_interface.specs.Token.Told.{Tag}
use Rattle.html5ever_interface.specs.declared.interface.token.TagKind.TheVariants.{StartTag, EndTag}
use Rattle.tree_construction.specs.declared.kinds.Kind.{Kind}
use Rattle.tree_construction.specs.declared.kinds.Namespace.{Namespace}
use Rattle.tree_construction.specs.declared.kinds.Namespace.TheVariants.{Html, MathMl, Svg}
use Rattle.tree_construction.specs.declared.modes.QuirksMode.TheVariants.{NoQuirks}
use Rattle.tree_construction.specs.Names.{is_form, kind_in_namespace}
use Rattle.tree_construction.specs.Parser.{Context, Options}
use Rattle.tree_construction.specs.Construction.{start, told_all}
use Rattle.tree_construction.specs.Document.{Tree, tree_in}
use Rattle.tree_construction.specs.Text.{root_of}
use Rattle.tree_construction.specs.Document.Tree.{Nothing, ElementNode, TemplateNode, TextNode, CommentNode, DoctypeNode}

-- ---- messages, in short form

abbrev pub attribute : List ℕ → List ℕ → AttributeOf
attribute name value = record { name = plain_name name; value = value }

abbrev pub start_tag : List ℕ → List AttributeOf → Told
start_tag name attributes =
    Tag (record { kind = StartTag; name = name; self_closing = false; attributes = attributes; had_duplicate_attributes = false })

abbrev pub closed_tag : List ℕ → List AttributeOf → Told
closed_tag name attributes =
    Tag (record { kind = StartTag; name = name; self_closing = true; attributes = attributes; had_duplicate_attributes = false })

abbrev pub end_tag : List ℕ → Told
end_tag name = Tag (record { kind = EndTag; name = name; self_closing = false; attributes = []; had_duplicate_attributes = false })

-- ---- lines

unfoldable pub indent : ℕ → List ℕ
indent zero = []
indent (suc depth) = 32 ∷ 32 ∷ indent depth

abbrev pub line : ℕ → List ℕ → List ℕ
line depth text = codes "| " ++ (indent depth ++ (text ++ 10 ∷ []))

abbrev pub prefix_of : Namespace → List ℕ
prefix_of Html = []
prefix_of MathMl = codes "math "
prefix_of Svg = codes "svg "

abbrev pub with_prefix : Option (List ℕ) → List ℕ → List ℕ
with_prefix None local = local
with_prefix (Some prefix) local = prefix ++ 32 ∷ local

-- an attribute as it is shown
pub record Shown : Type 0 where
  pub name : List ℕ
  pub value : List ℕ

unfoldable pub comes_before : List ℕ → List ℕ → Bool
comes_before [] text = true
comes_before (c ∷ more) [] = false
comes_before (c ∷ more) (d ∷ text) = if c == d then comes_before more text else nat_lt c d

unfoldable pub among : Shown → List Shown → List Shown
among a [] = a ∷ []
among a (b ∷ others) = if comes_before a.name b.name then a ∷ b ∷ others else b ∷ among a others

unfoldable pub sorted : List AttributeOf → List Shown
sorted [] = []
sorted (a ∷ attributes) = among (record { name = with_prefix a.name.prefix a.name.local; value = a.value }) (sorted attributes)

unfoldable pub attribute_lines : ℕ → List Shown → List ℕ
attribute_lines depth [] = []
attribute_lines depth (a ∷ attributes) = line depth (a.name ++ (codes "=\"" ++ (a.value ++ codes "\""))) ++ attribute_lines depth attributes

-- "<!DOCTYPE" and its name; identifiers where there is one
abbrev pub identifiers : List ℕ → List ℕ → List ℕ
identifiers [] [] = []
identifiers public_id system_id = codes " \"" ++ (public_id ++ (codes "\" \"" ++ (system_id ++ codes "\"")))

unfoldable pub shown : ℕ → Tree → List ℕ
shown depth Nothing = []
shown depth (ElementNode before namespace name attributes children) =
    shown depth before ++ (line depth (codes "<" ++ (prefix_of namespace ++ (name ++ codes ">")))
    ++ (attribute_lines (suc depth) (sorted attributes) ++ shown (suc depth) children))
shown depth (TemplateNode before attributes contents) =
    shown depth before ++ (line depth (codes "<template>") ++ (attribute_lines (suc depth) (sorted attributes)
    ++ (line (suc depth) (codes "content") ++ shown (suc (suc depth)) contents)))
shown depth (TextNode before text) = shown depth before ++ line depth (codes "\"" ++ (text ++ codes "\""))
shown depth (CommentNode before text) = shown depth before ++ line depth (codes "<!-- " ++ (text ++ codes " -->"))
shown depth (DoctypeNode before name public_id system_id) =
    shown depth before ++ line depth (codes "<!DOCTYPE " ++ (name ++ (identifiers public_id system_id ++ codes ">")))

-- ---- cases

pub record Case : Type 0 where
  pub scripting : Bool
  pub context : Option Context
  pub depth_limit : Option ℕ
  pub formatting_limit : Option ℕ
  pub messages : List Told

abbrev pub document : Bool → List Told → Case
document scripting messages =
    record { scripting = scripting; context = None; depth_limit = None; formatting_limit = None; messages = messages }

-- with limits of the depth and of formatting elements
abbrev pub limited : Option ℕ → Option ℕ → List Told → Case
limited depth formatting messages =
    record { scripting = false; context = None; depth_limit = depth; formatting_limit = formatting; messages = messages }

-- a fragment, by its context element
abbrev pub fragment : Bool → Namespace → List ℕ → List AttributeOf → List Told → Case
fragment scripting namespace name attributes messages =
    let kind : Kind = kind_in_namespace namespace name attributes in
    record {
      scripting = scripting;
      context = Some (record { kind = kind; in_form = is_form kind; quirks_mode = NoQuirks });
      depth_limit = None;
      formatting_limit = None;
      messages = messages;
    }

abbrev pub options_of : Case → Options
options_of c = record {
  scripting = c.scripting;
  iframe_srcdoc = false;
  context = c.context;
  depth_limit = c.depth_limit;
  formatting_limit = c.formatting_limit;
}

-- the tree of a case, as text
unfoldable pub shown_of : Case → List ℕ
shown_of c = shown 0 (tree_in (root_of c.context) (told_all c.messages (start (options_of c))).page.edits)
