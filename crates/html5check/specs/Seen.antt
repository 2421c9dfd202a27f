-- The tokens of a text with their places, as the checks look at them.
use Rattle.std.specs.Prelude.{ℕ, List, [], ◌∷◌, ◌++◌, map}
use Rattle.std.specs.Str.{chars}
use Rattle.html5check.specs.declared.seen.SeenToken.{SeenToken}
use Rattle.html5ever.specs.Tokenizer.{rules_of}
use Rattle.html5ever_interface.specs.Options.{default_options}
use Rattle.html5ever_interface.specs.Token.{Told, told_by}
use Rattle.html5places.specs.Marks.{Placed}
use Rattle.html5places.specs.Placed.{placed_tokens}
use Rattle.html5reading.specs.Start.{start_of}
use Rattle.markup5ever.specs.NamedReferences.{NamedReference}

-- a token, the byte where it begins, and the byte after its last
pub record Seen : Type 0 where
  pub token : Told
  pub begin : ℕ
  pub end : ℕ

abbrev pub seen_by : SeenToken → Seen
seen_by s = record { token = told_by s.token; begin = s.begin; end = s.end }

abbrev pub seen_of : Placed → Seen
seen_of p = record { token = p.token; begin = p.places.begin; end = p.places.end }

-- the tokens of a text but its texts, by the default options
abbrev pub seen_in : List NamedReference → List ℕ → List Seen
seen_in references text = map seen_of (placed_tokens (rules_of default_options references) (start_of default_options) (chars text))

-- ---- words of the proofs

-- after one more
abbrev pub with_seen : List Seen → Placed → List Seen
with_seen seen placed = seen ++ seen_of placed ∷ []
