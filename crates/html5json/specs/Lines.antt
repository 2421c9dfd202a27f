-- Lines of JSON.
use Rattle.std.specs.Prelude.{ℕ, List, [], ◌∷◌, ◌++◌, Option, codes}
use Rattle.html5ever_interface.specs.Token.{TagOf, Told}
use Rattle.html5ever_interface.specs.Token.Told.{Text}
use Rattle.html5extract.specs.LinkReading.{LinkReading, link_step}
use Rattle.html5json.specs.Links.{json_of_link}
use Rattle.html5json.specs.Tokens.{json_of_token}
use Rattle.json.specs.Json.{Json}
use Rattle.json.specs.Print.{print}
use Rattle.json.specs.Tree.{json_tokens}

-- a value as JSON, without spaces
unfoldable pub text_of : Json → List ℕ
text_of json = print (json_tokens json)

-- a value on a line of its own
abbrev pub line_of : Json → List ℕ
line_of json = text_of json ++ codes "\n"

-- the line of a token, with the name of its file, if there is one
abbrev pub token_line : Option (List ℕ) → Told → ℕ → List ℕ
token_line file told line = line_of (json_of_token file told line)

-- the line of a run of text, if there is one
abbrev pub run_line : Option (List ℕ) → List ℕ → List ℕ
run_line file [] = []
run_line file (byte ∷ bytes) = token_line file (Text (byte ∷ bytes)) 0

-- what was printed, and the name of the file that is read, where lines have it
pub record JsonReading : Type 0 where
  pub printed : List ℕ
  pub front : Option (List ℕ)

abbrev pub json_reading : Option (List ℕ) → List ℕ → JsonReading
json_reading front printed = record { printed = printed; front = front }

-- after a run of text and the token after it
abbrev pub json_tokens_step : JsonReading → List ℕ → Told → ℕ → JsonReading
json_tokens_step s run told line = record s { printed = s.printed ++ (run_line s.front run ++ token_line s.front told line) }

-- the line of a link
abbrev pub link_line : Option (List ℕ) → ℕ → List ℕ → List ℕ
link_line file line link = line_of (json_of_link file line link)

-- after a tag, where links are printed as lines of JSON
abbrev pub json_links_step : LinkReading → TagOf → ℕ → LinkReading
json_links_step s tag line = link_step link_line s tag line
