-- Kinds of tags are kinds of HTML elements.
use Rattle.std.proofs.Common.{◌≡◌, ℕ, Bool, true, false, List, [], ◌∷◌, refl}
use Rattle.std.proofs.lemmas.Bool.{and_parts}
use Rattle.std.specs.List.{list_all}
use Rattle.std.specs.Prelude.{if◌then◌else◌}
use Rattle.tree_construction.specs.Names.{NamesOf, all_names, is_among, is_html, kind_in, kind_of, namespace_of}
use Rattle.tree_construction.specs.declared.kinds.Kind.{Kind}
use Rattle.tree_construction.specs.declared.kinds.Namespace.{Namespace}
use Rattle.tree_construction.specs.declared.kinds.Namespace.TheVariants.{Html, MathMl, Svg}

pub html-namespace : (kind : Kind) → is_html kind ≡ true → namespace_of kind ≡ Html
html-namespace kind e = by (namespace_of kind) refl
  where
    by : (namespace : Namespace) → namespace_of kind ≡ namespace → namespace_of kind ≡ Html
    by Html same = same
    by MathMl same = cc
    by Svg same = cc

kind-in-html : (rows : List NamesOf) (name : List ℕ) → list_all (λ row. is_html row.kind) rows ≡ true → is_html (kind_in rows name) ≡ true
unfolding kind_in namespace_of
kind-in-html [] name all = refl
kind-in-html (row ∷ rows) name all =
    let p = and_parts (is_html row.kind) (list_all (λ row. is_html row.kind) rows) all in
    at (is_among name row.names) p.0 (kind-in-html rows name p.1)
  where
    at : (b : Bool) → is_html row.kind ≡ true → is_html (kind_in rows name) ≡ true → is_html (if b then row.kind else kind_in rows name) ≡ true
    at true own others = own
    at false own others = others

pub kind_of_html : (name : List ℕ) → namespace_of (kind_of name) ≡ Html
unfolding kind_of all_names namespace_of
kind_of_html name = html-namespace (kind_of name) (kind-in-html all_names name refl)
