-- What is written of a page.
use Rattle.std.specs.Prelude.{ℕ, List}
use Rattle.std.specs.Str.{chars}
use Rattle.html5ever.specs.Tokenizer.{rules_of}
use Rattle.html5ever_interface.specs.Options.{default_options}
use Rattle.html5reading.specs.Start.{start_of}
use Rattle.html5splice.specs.Cuts.{CutOf, cuts}
use Rattle.html5splice.specs.Edits.{Splices, parts}
use Rattle.markup5ever.specs.NamedReferences.{NamedReference}

-- a page whose bytes are given, as its tokens cut it
abbrev pub page_cuts : List NamedReference → List ℕ → List CutOf
page_cuts references bytes = cuts (rules_of default_options references) (start_of default_options) (chars bytes)

-- what is written of each of its tokens, from a state of the splicer
abbrev pub page_parts : {S : Type 0} → Splices S → List NamedReference → S → List ℕ → List (List ℕ)
page_parts splices references s bytes = parts splices s (page_cuts references bytes)
