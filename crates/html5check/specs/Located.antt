-- What is found in a text, with the lines and the columns where it begins.
use Rattle.std.specs.Prelude.{ℕ, List, Option, map}
use Rattle.std.specs.Str.{chars}
use Rattle.html5check.specs.Checking.{findings_in}
use Rattle.html5check.specs.Faults.{Finding, finding_by}
use Rattle.html5check.specs.Seen.{seen_in}
use Rattle.html5check.specs.Templates.{masked_by}
use Rattle.html5check.specs.declared.template.Template.{Template}
use Rattle.html5check.specs.declared.located.Located.{Located as RustLocated}
use Rattle.html5places.specs.Cursor.{position_before}
use Rattle.html5places.specs.declared.positions.Position.{Position}
use Rattle.markup5ever.specs.NamedReferences.{NamedReference}

pub record Located : Type 0 where
  pub finding : Finding
  pub position : Position

abbrev pub located_by : RustLocated → Located
located_by l = record { finding = finding_by l.finding; position = l.position }

-- something found in a text of these bytes
abbrev pub located : List ℕ → Finding → Located
located text finding = record { finding = finding; position = position_before finding.begin (chars text) }

-- all that is found in a text, by a table of names: in a template language in what is left where its constructs are masked
abbrev pub located_in : List NamedReference → Option Template → List ℕ → List Located
located_in references template text = map (located text) (findings_in (seen_in references (masked_by template text)))
