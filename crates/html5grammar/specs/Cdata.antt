-- One CDATA section as source text, and what it tells.
use Rattle.std.specs.Prelude.{◌≡◌, ℕ, Bool, true, List, [], ◌∷◌, ◌++◌, ◌==◌, ◌||◌, ◌&&◌, not, codes, if◌then◌else◌}
use Rattle.std.specs.List.{list_all}
use Rattle.html5ever_interface.specs.Sink.{Message, on_line}
use Rattle.html5ever_interface.specs.Token.{Told}
use Rattle.html5ever_interface.specs.Token.Told.{Null, End}
use Rattle.html5ever_interface.specs.declared.states.State.TheVariants as state
use Rattle.html5reading.specs.Cdata.{open_cdata}
use Rattle.html5reading.specs.Characters.{null, greater_than}
use Rattle.html5reading.specs.ErrorText.{end_error_in}
use Rattle.html5reading.specs.RawText.{texts}
use Rattle.html5reading.specs.NormalisedText.{normalised, line_after}
use Rattle.html5grammar.specs.Comment.{occurs}
use Rattle.html5grammar.specs.Spelled.{Spelled, spell_silent, spelled_messages}
use Rattle.html5reading.specs.Start.{Input, Start, Open}
use Rattle.html5reading.specs.Start.Mode.{Data, Cdata}
use Rattle.html5reading.specs.Start.Open.{Between}

-- ---- how a section is written

-- "CDATA section state" to "CDATA section end state": a section as source text
pub record WrittenCdata : Type 0 where
  -- whether it begins with `<![CDATA[`: else it is read from inside a section on
  pub has_opening : Bool
  -- the pieces of its text that have a NUL after them
  pub pieces : List (List ℕ)
  -- the piece after the last NUL
  pub last : List ℕ
  -- whether it ends with `]]>`
  pub is_ended : Bool

-- ---- its text

-- the opening, if there is one
abbrev pub opening_text : Bool → List ℕ
opening_text has_opening = if has_opening then codes "<![CDATA[" else []

-- the end, if there is one
abbrev pub end_text : Bool → List ℕ
end_text is_ended = if is_ended then codes "]]>" else []

-- pieces, each with a NUL after it, and the last one
unfoldable pub pieces_text : List (List ℕ) → List ℕ → List ℕ
pieces_text [] last = last
pieces_text (piece ∷ pieces) last = piece ++ null ∷ pieces_text pieces last

-- the text of a section
unfoldable pub written : WrittenCdata → List ℕ
written cdata = opening_text cdata.has_opening ++ (pieces_text cdata.pieces cdata.last ++ end_text cdata.is_ended)

-- ---- which sections there are

-- "CDATA section end state": whether this is a piece. It has no NUL, and no `]]>` stands in it, since the first one ends the
-- section.
unfoldable pub is_piece : List ℕ → Bool
is_piece piece = list_all (λ c. not (c == null)) piece && not (occurs (codes "]]>") piece)

-- "Markup declaration open state": only in foreign content `<![CDATA[` begins a section
unfoldable pub is_written : Bool → WrittenCdata → Bool
is_written foreign cdata = (not cdata.has_opening || foreign) && (list_all is_piece cdata.pieces && is_piece cdata.last)

-- ---- what it tells

-- "CDATA section state": a NUL tells the piece before it, each character as a text, and itself
abbrev pub spell_null : List ℕ → List Spelled
spell_null piece = record { character = null; told = texts piece ++ Null ∷ [] } ∷ []

-- "CDATA section state": pieces, each with a NUL after it
unfoldable pub spell_pieces : List (List ℕ) → List Spelled
spell_pieces [] = []
spell_pieces (piece ∷ pieces) = (spell_silent piece ++ spell_null piece) ++ spell_pieces pieces

-- "CDATA section end state": the `>` after `]]` tells the last piece, each character as a text
abbrev pub spell_end : Bool → List ℕ → List Spelled
spell_end is_ended last =
    if is_ended then spell_silent (codes "]]") ++ record { character = greater_than; told = texts last } ∷ []
    else []

-- the part after the opening, which tells nothing
abbrev pub spell_cdata : WrittenCdata → List Spelled
spell_cdata cdata = spell_pieces cdata.pieces ++ (spell_silent cdata.last ++ spell_end cdata.is_ended cdata.last)

-- "CDATA section state", at the end: the end of input tells the last piece when no `]]>` did, and that is an error
abbrev pub told_at_end : Bool → Bool → List ℕ → List Told
told_at_end exact is_ended last =
    if is_ended then End ∷ [] else texts last ++ end_error_in exact state.CdataSection ∷ End ∷ []

-- the messages of a text that is one section
unfoldable pub cdata_messages : Bool → Input → WrittenCdata → List Message
cdata_messages exact input cdata =
    spelled_messages exact input (opening_text cdata.has_opening) (spell_cdata cdata)
    ++ on_line (line_after input (written cdata)) (told_at_end exact cdata.is_ended cdata.last)

-- what is open after it
abbrev pub open_after_cdata : WrittenCdata → Open
open_after_cdata cdata = if cdata.is_ended then Between Data else open_cdata cdata.last

-- the text X, read from the start K, in foreign content or not, is this section, written out
pub record IsCdata (K : Start) (foreign : Bool) (X : List ℕ) (cdata : WrittenCdata) : Type 0 where
  pub starts : K.opened ≡ (if cdata.has_opening then Between Data else Between Cdata)
  pub is_cdata : is_written foreign cdata ≡ true
  pub text : normalised K.input X ≡ written cdata

-- the text is that of a section, written out, between its opening and its end, where it has these
pub record IsCdataText (has_opening is_ended : Bool) (text : List ℕ) : Type 0 where
  pub cdata : WrittenCdata
  pub opens : cdata.has_opening ≡ has_opening
  pub ends : cdata.is_ended ≡ is_ended
  pub is_cdata : is_written has_opening cdata ≡ true
  pub is_text : written cdata ≡ opening_text has_opening ++ (text ++ end_text is_ended)
