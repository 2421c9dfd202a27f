-- Links of a site made absolute.
use Rattle.std.specs.Prelude.{ℕ, Bool, not, List, ◌++◌, ◌&&◌, nat_eq, Option, None, Some, codes, if◌then◌else◌}
use Rattle.std.specs.List.{starts_with}
use Rattle.std.specs.Str.{bytes_eq}
use Rattle.html5ever_interface.specs.Token.{TagOf}
use Rattle.html5rewrite.specs.Edits.{value_of, with_attribute, without_attribute}
use Rattle.html5rewrite.specs.declared.rewriter.Keep.{Keep}
use Rattle.html5rewrite.specs.declared.rewriter.Keep.TheVariants as keep

-- an address within the site: `//` begins that of another
abbrev pub is_local : List ℕ → Bool
is_local address = starts_with nat_eq address (codes "/") && not (starts_with nat_eq address (codes "//"))

abbrev pub with_absolute : List ℕ → Option (List ℕ) → TagOf → TagOf
with_absolute base None tag = tag
with_absolute base (Some address) tag = if is_local address then with_attribute (codes "href") (base ++ address) tag else tag

-- a tag whose link has the base in front
abbrev pub absolute : List ℕ → TagOf → TagOf
absolute base tag = with_absolute base (value_of (codes "href") tag.attributes) tag

-- and without `target`
abbrev pub linked : List ℕ → TagOf → TagOf
linked base tag = absolute base (without_attribute (codes "target") tag)

-- `font` is dropped, and `nav` with its content
abbrev pub kept : TagOf → Keep
kept tag =
    if bytes_eq tag.name (codes "font") then keep.ContentOnly
    else if bytes_eq tag.name (codes "nav") then keep.Nothing
    else if bytes_eq tag.name (codes "img") then keep.Nothing
    else keep.Tag
