-- What the standard says of elements and their tags, by the bytes of names.
use Rattle.std.specs.Prelude.{ℕ, Bool, false, List, ◌||◌, codes, if◌then◌else◌}
use Rattle.std.specs.Str.{bytes_eq}

-- elements of which both tags may be left out
unfoldable pub is_document_part : List ℕ → Bool
is_document_part name = bytes_eq name (codes "html") || bytes_eq name (codes "head") || bytes_eq name (codes "body")

-- "Optional tags": elements whose end tag may be left out
unfoldable pub has_optional_end : List ℕ → Bool
has_optional_end name =
    bytes_eq name (codes "li") || bytes_eq name (codes "dt") || bytes_eq name (codes "dd") || bytes_eq name (codes "p")
    || bytes_eq name (codes "rt") || bytes_eq name (codes "rp") || bytes_eq name (codes "optgroup") || bytes_eq name (codes "option")
    || bytes_eq name (codes "colgroup") || bytes_eq name (codes "caption") || bytes_eq name (codes "thead")
    || bytes_eq name (codes "tbody") || bytes_eq name (codes "tfoot") || bytes_eq name (codes "tr") || bytes_eq name (codes "td")
    || bytes_eq name (codes "th")

-- "Optional tags", and the start tags that close a p element by "in body": those before which the end tag of a paragraph is left out
unfoldable pub ends_paragraph : List ℕ → Bool
ends_paragraph name =
    bytes_eq name (codes "address") || bytes_eq name (codes "article") || bytes_eq name (codes "aside")
    || bytes_eq name (codes "blockquote") || bytes_eq name (codes "center") || bytes_eq name (codes "dd")
    || bytes_eq name (codes "details") || bytes_eq name (codes "dialog") || bytes_eq name (codes "dir") || bytes_eq name (codes "div")
    || bytes_eq name (codes "dl") || bytes_eq name (codes "dt") || bytes_eq name (codes "fieldset") || bytes_eq name (codes "figcaption")
    || bytes_eq name (codes "figure") || bytes_eq name (codes "footer") || bytes_eq name (codes "form") || bytes_eq name (codes "h1")
    || bytes_eq name (codes "h2") || bytes_eq name (codes "h3") || bytes_eq name (codes "h4") || bytes_eq name (codes "h5")
    || bytes_eq name (codes "h6") || bytes_eq name (codes "header") || bytes_eq name (codes "hgroup") || bytes_eq name (codes "hr")
    || bytes_eq name (codes "li") || bytes_eq name (codes "listing") || bytes_eq name (codes "main") || bytes_eq name (codes "menu")
    || bytes_eq name (codes "nav") || bytes_eq name (codes "ol") || bytes_eq name (codes "p") || bytes_eq name (codes "plaintext")
    || bytes_eq name (codes "pre") || bytes_eq name (codes "search") || bytes_eq name (codes "section") || bytes_eq name (codes "summary")
    || bytes_eq name (codes "table") || bytes_eq name (codes "ul") || bytes_eq name (codes "xmp")

-- "Optional tags": whether before a start tag of this name the end tag of the element `inner` is left out
unfoldable pub ends_before : List ℕ → List ℕ → Bool
ends_before name inner =
    if bytes_eq inner (codes "p") then ends_paragraph name
    else if bytes_eq inner (codes "li") then bytes_eq name (codes "li")
    else if bytes_eq inner (codes "dt") || bytes_eq inner (codes "dd") then bytes_eq name (codes "dt") || bytes_eq name (codes "dd")
    else if bytes_eq inner (codes "rt") || bytes_eq inner (codes "rp") then bytes_eq name (codes "rt") || bytes_eq name (codes "rp")
    else if bytes_eq inner (codes "option") then bytes_eq name (codes "option") || bytes_eq name (codes "optgroup") || bytes_eq name (codes "hr")
    else if bytes_eq inner (codes "optgroup") then bytes_eq name (codes "optgroup") || bytes_eq name (codes "hr")
    else if bytes_eq inner (codes "td") || bytes_eq inner (codes "th") then
    bytes_eq name (codes "td") || bytes_eq name (codes "th") || bytes_eq name (codes "tr") || bytes_eq name (codes "tbody") || bytes_eq name (codes "thead") || bytes_eq name (codes "tfoot")
    else if bytes_eq inner (codes "tr") then bytes_eq name (codes "tr") || bytes_eq name (codes "tbody") || bytes_eq name (codes "thead") || bytes_eq name (codes "tfoot")
    else if bytes_eq inner (codes "tbody") || bytes_eq inner (codes "thead") || bytes_eq inner (codes "tfoot") then
    bytes_eq name (codes "tbody") || bytes_eq name (codes "thead") || bytes_eq name (codes "tfoot")
    else if bytes_eq inner (codes "caption") || bytes_eq inner (codes "colgroup") then
    bytes_eq name (codes "caption") || bytes_eq name (codes "colgroup") || bytes_eq name (codes "td") || bytes_eq name (codes "th")
    || bytes_eq name (codes "tr") || bytes_eq name (codes "tbody") || bytes_eq name (codes "thead") || bytes_eq name (codes "tfoot")
    else false

-- "HTML integration point" and "MathML text integration point": elements of other namespaces in which elements of HTML stand
unfoldable pub is_integration_point : List ℕ → Bool
is_integration_point name =
    bytes_eq name (codes "foreignobject") || bytes_eq name (codes "desc") || bytes_eq name (codes "title") || bytes_eq name (codes "mi")
    || bytes_eq name (codes "mo") || bytes_eq name (codes "mn") || bytes_eq name (codes "ms") || bytes_eq name (codes "mtext")
    || bytes_eq name (codes "annotation-xml")
