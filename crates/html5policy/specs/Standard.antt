-- The policy if no other is given.
use Rattle.std.specs.Prelude.{ℕ, true, false, List, [], ◌∷◌, ◌++◌, codes}
use Rattle.html5policy.specs.Policy.{OwnAttribute, PolicyOf, implied_elements}

unfoldable pub standard_elements : List (List ℕ)
standard_elements =
    codes "a" ∷ codes "abbr" ∷ codes "address" ∷ codes "article" ∷ codes "aside" ∷ codes "b" ∷ codes "bdi" ∷ codes "bdo" ∷
    codes "blockquote" ∷ codes "br" ∷ codes "caption" ∷ codes "center" ∷ codes "cite" ∷ codes "code" ∷ codes "col" ∷ codes "colgroup" ∷
    codes "data" ∷ codes "dd" ∷ codes "del" ∷ codes "details" ∷ codes "dfn" ∷ codes "div" ∷ codes "dl" ∷ codes "dt" ∷
    codes "em" ∷ codes "figcaption" ∷ codes "figure" ∷ codes "footer" ∷ codes "h1" ∷ codes "h2" ∷ codes "h3" ∷ codes "h4" ∷
    codes "h5" ∷ codes "h6" ∷ codes "header" ∷ codes "hgroup" ∷ codes "hr" ∷ codes "i" ∷ codes "img" ∷ codes "ins" ∷
    codes "kbd" ∷ codes "li" ∷ codes "main" ∷ codes "mark" ∷ codes "nav" ∷ codes "ol" ∷ codes "p" ∷ codes "pre" ∷
    codes "q" ∷ codes "rb" ∷ codes "rp" ∷ codes "rt" ∷ codes "rtc" ∷ codes "ruby" ∷ codes "s" ∷ codes "samp" ∷
    codes "section" ∷ codes "small" ∷ codes "span" ∷ codes "strong" ∷ codes "sub" ∷ codes "summary" ∷ codes "sup" ∷ codes "table" ∷
    codes "tbody" ∷ codes "td" ∷ codes "tfoot" ∷ codes "th" ∷ codes "thead" ∷ codes "time" ∷ codes "tr" ∷ codes "u" ∷
    codes "ul" ∷ codes "var" ∷ codes "wbr" ∷ []

abbrev pub own_attribute : List ℕ → List ℕ → OwnAttribute
own_attribute element attribute = record { element = element; attribute = attribute }

unfoldable pub standard_own : List OwnAttribute
standard_own =
    own_attribute (codes "a") (codes "href") ∷
    own_attribute (codes "blockquote") (codes "cite") ∷
    own_attribute (codes "col") (codes "span") ∷
    own_attribute (codes "colgroup") (codes "span") ∷
    own_attribute (codes "data") (codes "value") ∷
    own_attribute (codes "del") (codes "cite") ∷
    own_attribute (codes "img") (codes "src") ∷
    own_attribute (codes "img") (codes "alt") ∷
    own_attribute (codes "img") (codes "width") ∷
    own_attribute (codes "img") (codes "height") ∷
    own_attribute (codes "ins") (codes "cite") ∷
    own_attribute (codes "li") (codes "value") ∷
    own_attribute (codes "ol") (codes "start") ∷
    own_attribute (codes "ol") (codes "reversed") ∷
    own_attribute (codes "ol") (codes "type") ∷
    own_attribute (codes "q") (codes "cite") ∷
    own_attribute (codes "td") (codes "colspan") ∷
    own_attribute (codes "td") (codes "rowspan") ∷
    own_attribute (codes "td") (codes "scope") ∷
    own_attribute (codes "td") (codes "headers") ∷
    own_attribute (codes "th") (codes "colspan") ∷
    own_attribute (codes "th") (codes "rowspan") ∷
    own_attribute (codes "th") (codes "scope") ∷
    own_attribute (codes "th") (codes "headers") ∷
    own_attribute (codes "time") (codes "datetime") ∷ []

unfoldable pub standard_policy : PolicyOf
standard_policy = record {
  elements = standard_elements ++ implied_elements;
  own = standard_own;
  everywhere = codes "title" ∷ codes "lang" ∷ codes "dir" ∷ [];
  schemes = codes "http" ∷ codes "https" ∷ codes "mailto" ∷ codes "tel" ∷ [];
  hidden = [];
  rel = codes "noopener noreferrer";
  balance = false;
  tree = true;
  depth = 256;
}
