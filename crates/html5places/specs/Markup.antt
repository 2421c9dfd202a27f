-- What is open where markup is written.
use Rattle.std.specs.Prelude.{Bool, true, false}
use Rattle.html5ever_interface.specs.Token.{Told}
use Rattle.html5ever_interface.specs.Token.Told.{Text, Error}
use Rattle.html5ever_interface.specs.declared.states.RawKind.TheVariants.{ScriptDataEscaped}
use Rattle.html5reading.specs.Start.{Mode, Open, Start, raw_of}
use Rattle.html5reading.specs.Start.Mode.{Data, RawText, Cdata}
use Rattle.html5reading.specs.Start.Raw.{ScriptData}
use Rattle.html5reading.specs.Start.RawPlace.{AfterLessThan, InEndName, AfterMark, AfterMarkAndDash, InSwitch}
use Rattle.html5reading.specs.Start.Stand.{InText, InAttribute}
use Rattle.html5reading.specs.Start.Open.{Between, LessThanSolidus, InTag, InRaw, InDeclaration, InComment, InBogusComment, InInstruction, InDoctype, InDoctypeKeyword, InCdata, InReference}

-- The mode in which a `<` is read after this, if it may begin markup. It ends what may still go on and is text by then: a reference, a
-- `<`, and in raw text also `</` or `<` and letters, `<!` and `<!-`.
abbrev pub mode_at_less_than : Open → Mode
mode_at_less_than (Between mode) = mode
mode_at_less_than (InReference (InText mode) held) = mode
mode_at_less_than (InCdata held) = Cdata
mode_at_less_than (InRaw (AfterLessThan kind) name) = RawText (raw_of kind) name
mode_at_less_than (InRaw (InEndName kind letters) name) = RawText (raw_of kind) name
mode_at_less_than (InRaw AfterMark name) = RawText ScriptData name
mode_at_less_than (InRaw AfterMarkAndDash name) = RawText ScriptData name
mode_at_less_than (InRaw (InSwitch kind letters) name) = RawText (raw_of (ScriptDataEscaped kind)) name
mode_at_less_than other = Data

-- the start at such a `<`, when nothing is open
abbrev pub start_at_less_than : Start → Start
start_at_less_than K = record K { opened = Between (mode_at_less_than K.opened) }

-- ---- words of the proofs

-- whether markup is open of which a `<` and more was read
abbrev pub in_markup : Open → Bool
in_markup LessThanSolidus = true
in_markup (InTag place tag) = true
in_markup (InRaw (InEndName kind letters) name) = true
in_markup (InDeclaration held) = true
in_markup (InComment text) = true
in_markup (InBogusComment text) = true
in_markup (InInstruction text) = true
in_markup (InDoctype place doctype) = true
in_markup (InDoctypeKeyword held doctype) = true
in_markup (InReference (InAttribute kind tag) held) = true
in_markup other = false

-- whether a token ends the run of text before it
abbrev pub ends_run : Told → Bool
ends_run (Text text) = false
ends_run (Error message) = false
ends_run other = true
