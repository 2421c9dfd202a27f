-- How the text of a document is read.
use Rattle.std.specs.Prelude.{false, List, Option, None}
use Rattle.html5ever_interface.specs.declared.states.State.{State}
use Rattle.html5ever_interface.specs.Options.{OptionsOf}
use Rattle.html5reading.specs.Start.{Rules}
use Rattle.markup5ever.specs.NamedReferences.{NamedReference}

-- the options of a tokenizer that reads such a text
abbrev pub reading_from : Option State → OptionsOf
reading_from state = record { exact_errors = false; discard_bom = false; initial_state = state; last_start_tag_name = None }

-- how a document's text is read: by a table of references, and errors have no details
abbrev pub is_read_by : List NamedReference → Rules
is_read_by references = record { exact = false; references = references }
