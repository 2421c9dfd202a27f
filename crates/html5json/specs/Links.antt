-- The links of a page as JSON: an object each.
use Rattle.std.specs.Prelude.{ℕ, List, Option, codes, decimal}
use Rattle.html5json.specs.Tokens.{of_file}
use Rattle.json.specs.Json.{Json, Members, number, string, no_members, member}

-- a link, and the line on which its tag ends
abbrev pub link_members : ℕ → List ℕ → Members
link_members line link = member (codes "line") (number (decimal line)) (member (codes "link") (string link) no_members)

-- a link of a file
abbrev pub json_of_link : Option (List ℕ) → ℕ → List ℕ → Json
json_of_link file line link = of_file file (link_members line link)
