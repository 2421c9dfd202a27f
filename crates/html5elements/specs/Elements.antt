-- What is known of an element by the bytes of its name.
use Rattle.std.specs.Prelude.{ℕ, Bool, List, ◌||◌, ◌&&◌, codes}
use Rattle.std.specs.Str.{bytes_eq}

-- "Serializing HTML fragments": elements that have no end tag
unfoldable pub is_void : List ℕ → Bool
is_void name =
    bytes_eq name (codes "area") || bytes_eq name (codes "base") || bytes_eq name (codes "basefont") || bytes_eq name (codes "bgsound")
    || bytes_eq name (codes "br") || bytes_eq name (codes "col") || bytes_eq name (codes "embed") || bytes_eq name (codes "frame")
    || bytes_eq name (codes "hr") || bytes_eq name (codes "img") || bytes_eq name (codes "input") || bytes_eq name (codes "keygen")
    || bytes_eq name (codes "link") || bytes_eq name (codes "meta") || bytes_eq name (codes "param") || bytes_eq name (codes "source")
    || bytes_eq name (codes "track") || bytes_eq name (codes "wbr")

-- elements of other namespaces, which a `/` before the `>` ends
unfoldable pub is_foreign : List ℕ → Bool
is_foreign name = bytes_eq name (codes "svg") || bytes_eq name (codes "math")

-- whether nothing stands in an element of this name, whose start tag may end in `/`
abbrev pub is_empty_element : List ℕ → Bool → Bool
is_empty_element name self_closing = is_void name || (self_closing && is_foreign name)
