-- Parts of a DOCTYPE, in the words of the grammar.
use Rattle.std.specs.Prelude.{ℕ, List, [], Option, None, Some, if◌then◌else◌}
use Rattle.html5ever_interface.specs.declared.states.DoctypeIdKind.{DoctypeIdKind}
use Rattle.html5ever_interface.specs.declared.states.DoctypeIdKind.TheVariants.{Public, System}
use Rattle.html5reading.specs.Doctype.{is_keyword}
use Rattle.html5reading.specs.Start.{Quotes}
use Rattle.html5reading.specs.Start.Quotes.{DoubleQuotes, SingleQuotes}
use Rattle.html5partial.specs.declared.doctypes.Quotes.{Quotes as RustQuotes}
use Rattle.html5partial.specs.declared.doctypes.Quotes.TheVariants.{Double, Single}

-- the text so far, which is empty if none was begun
abbrev pub begun_text : Option (List ℕ) → List ℕ
begun_text None = []
begun_text (Some text) = text

-- the kind of quotes
abbrev pub quotes_of : RustQuotes → Quotes
quotes_of Double = DoubleQuotes
quotes_of Single = SingleQuotes

-- "After DOCTYPE name state": the keyword, where the text is one, in any case
abbrev pub keyword_in : List ℕ → Option DoctypeIdKind
keyword_in held = if is_keyword Public held then Some Public else if is_keyword System held then Some System else None
