-- What the text of a page tells, and what the end tells when nothing else is open: texts, NULs, errors and the end.
use Rattle.std.proofs.Common.{ℕ, Bool, true, false, List, [], ◌∷◌, ◌++◌, drop, refl}
use Rattle.std.specs.Prelude.{◌==◌, codes, encode_utf8, if◌then◌else◌}
use Rattle.html5ever_interface.specs.Token.{Told}
use Rattle.html5ever_interface.specs.Token.Told.{Text, Null, End}
use Rattle.html5ever_interface.specs.declared.states.RawKind.{RawKind}
use Rattle.html5ever_interface.specs.declared.states.RawKind.TheVariants as raw_kind
use Rattle.html5ever_interface.specs.declared.states.ScriptEscapeKind.TheVariants as escape_kind
use Rattle.html5ever_interface.specs.declared.states.State.TheVariants as state
use Rattle.html5reading.specs.Characters.{null, less_than, greater_than, solidus, replacement_character}
use Rattle.html5reading.specs.EndOfInput.{raw_end_error}
use Rattle.html5reading.specs.ErrorText.{error_in}
use Rattle.html5reading.specs.RawText.{texts, raw_character, raw_state, told_at_less_than, told_after_less_than, kind_of}
use Rattle.html5reading.specs.Reference.{told_of, characters_in}
use Rattle.html5reading.specs.Start.{Raw, Mode, Rules}
use Rattle.html5reading.specs.Start.Mode.{Data, Plain, RawText, Cdata}
use Rattle.html5reading.specs.Start.Raw.{Rcdata, Rawtext, ScriptData, Escaped, DoubleEscaped}
use Rattle.html5reading.specs.Start.Stand.{InText}
use Rattle.html5reading.specs.Text.{plain_text}
use Rattle.html5grammar.specs.Cdata.{WrittenCdata, spell_null, spell_pieces, spell_cdata}
use Rattle.html5grammar.specs.Cdata as one_cdata
use Rattle.html5grammar.specs.Items.{text_told, lone_told, spell_lone, spell_empty_end, nothing_at_end, spell_raw_less_than, spell_open_switch, reference_at_end}
use Rattle.html5grammar.specs.RawText.{RawItem, carried, carried_to, spell_text, spell_after_less_than, spell_item, switch_text, raw_after_item}
use Rattle.html5grammar.specs.RawText.RawItem.{Character, LessThan, Letters, Mark, Switch}
use Rattle.html5grammar.specs.Spelled.{Spelled, spell_silent}
use Rattle.html5grammar.specs.Tag.{found_in, held_in, deciding_in}
use Rattle.html5serialize.proofs.Errors.{errors-reference}
use Rattle.html5serialize.proofs.Shaped.{AreShaped, CellsShaped, are-append, are-texts, are-errors, cells-append, cells-spell, cells-silent}

module _ (tags : Bool) where
  -- ---- single characters

  are-plain : (exact : Bool) (c : ℕ) → AreShaped tags (plain_text exact c)
  unfolding plain_text
  are-plain exact c =
      elim (c == null) as (λ b. AreShaped tags (if b then error_in exact state.Plaintext c ∷ Text (encode_utf8 replacement_character) ∷ [] else Text (encode_utf8 c) ∷ [])) [
        | true ↦ refl
        | false ↦ refl
      ]

  pub are-text_told : (exact : Bool) (mode : Mode) (c : ℕ) → AreShaped tags (text_told exact mode c)
  are-text_told exact Data c =
      elim (c == null) as (λ b. AreShaped tags (if b then error_in exact state.Data c ∷ Null ∷ [] else Text (encode_utf8 c) ∷ [])) [
        | true ↦ refl
        | false ↦ refl
      ]
  are-text_told exact Plain c = are-plain exact c
  are-text_told exact (RawText raw name) c = are-plain exact c
  are-text_told exact Cdata c = are-plain exact c

  pub are-raw_character : (exact : Bool) (raw : Raw) (c : ℕ) → AreShaped tags (raw_character exact raw c)
  unfolding raw_character
  are-raw_character exact raw c =
      elim (c == null) as (λ b. AreShaped tags (if b then error_in exact (raw_state raw) c ∷ Text (encode_utf8 replacement_character) ∷ [] else Text (encode_utf8 c) ∷ [])) [
        | true ↦ refl
        | false ↦ refl
      ]

  -- ---- a lone `<`, and an end tag without a name

  pub cells-lone : (exact : Bool) (c : ℕ) → CellsShaped tags (spell_lone exact c)
  cells-lone exact c = (refl, (are-append tags (lone_told exact c) (text_told exact Data c) refl (are-text_told exact Data c), tt))

  pub cells-empty_end : (exact : Bool) → CellsShaped tags (spell_empty_end exact)
  cells-empty_end exact = cells-append tags (spell_silent (codes "</")) (record { character = greater_than; told = error_in exact state.EndTagOpen greater_than ∷ [] } ∷ []) (cells-silent tags (codes "</")) (refl, tt)

  -- ---- CDATA sections

  cells-pieces : (pieces : List (List ℕ)) → CellsShaped tags (spell_pieces pieces)
  unfolding spell_pieces
  cells-pieces [] = tt
  cells-pieces (piece ∷ pieces) =
      cells-append tags (spell_silent piece ++ spell_null piece) (spell_pieces pieces)
      (cells-append tags (spell_silent piece) (spell_null piece) (cells-silent tags piece) (are-append tags (texts piece) (Null ∷ []) (are-texts tags piece) refl, tt))
      (cells-pieces pieces)

  cells-cdata_end : (is_ended : Bool) (last : List ℕ) → CellsShaped tags (one_cdata.spell_end is_ended last)
  cells-cdata_end true last = cells-append tags (spell_silent (codes "]]")) (record { character = greater_than; told = texts last } ∷ []) (cells-silent tags (codes "]]")) (are-texts tags last, tt)
  cells-cdata_end false last = tt

  pub cells-cdata : (cdata : WrittenCdata) → CellsShaped tags (spell_cdata cdata)
  cells-cdata cdata =
      cells-append tags (spell_pieces cdata.pieces) _ (cells-pieces cdata.pieces)
      (cells-append tags (spell_silent cdata.last) _ (cells-silent tags cdata.last) (cells-cdata_end cdata.is_ended cdata.last))

  -- ---- references

  pub are-found : (rules : Rules) (mode : Mode) (F : List ℕ) → AreShaped tags (told_of (InText mode) (found_in rules false F))
  are-found rules mode F =
      are-append tags (found_in rules false F).errors _ (are-errors tags (found_in rules false F).errors (errors-reference rules false (held_in rules.references F) (deciding_in rules.references F)))
      (are-texts tags (characters_in (found_in rules false F)))

  -- ---- raw text

  are-at_less_than : (kind : RawKind) → AreShaped tags (told_at_less_than kind)
  are-at_less_than raw_kind.Rcdata = refl
  are-at_less_than raw_kind.Rawtext = refl
  are-at_less_than raw_kind.ScriptData = refl
  are-at_less_than (raw_kind.ScriptDataEscaped escape_kind.Escaped) = refl
  are-at_less_than (raw_kind.ScriptDataEscaped escape_kind.DoubleEscaped) = refl

  are-after_less_than : (kind : RawKind) → AreShaped tags (told_after_less_than kind)
  are-after_less_than raw_kind.Rcdata = refl
  are-after_less_than raw_kind.Rawtext = refl
  are-after_less_than raw_kind.ScriptData = refl
  are-after_less_than (raw_kind.ScriptDataEscaped escape_kind.Escaped) = refl
  are-after_less_than (raw_kind.ScriptDataEscaped escape_kind.DoubleEscaped) = refl

  pub are-carried : (raw : Raw) (item : RawItem) → AreShaped tags (carried raw item)
  are-carried raw LessThan = are-after_less_than (kind_of raw)
  are-carried raw (Letters letters) = are-texts tags (less_than ∷ solidus ∷ letters)
  are-carried raw (Character c) = refl
  are-carried raw Mark = refl
  are-carried raw (Switch letters c) = refl

  cells-carried : (before : List Told) (cells : List Spelled) → AreShaped tags before → CellsShaped tags cells → CellsShaped tags (carried_to before cells)
  cells-carried before [] f g = tt
  cells-carried before (here ∷ more) f g = (are-append tags before here.told f g.0, g.1)

  cells-text : (run : List ℕ) → CellsShaped tags (spell_text run)
  cells-text run = cells-spell tags (λ c. texts (c ∷ [])) (λ c. refl) run

  cells-after_less_than : (kind : RawKind) (item : RawItem) → CellsShaped tags (spell_after_less_than kind item)
  cells-after_less_than kind (Character c) = tt
  cells-after_less_than kind LessThan = tt
  cells-after_less_than kind (Letters letters) = cells-silent tags (solidus ∷ letters)
  cells-after_less_than kind Mark = cells-carried (told_after_less_than kind) (spell_text (codes "!--")) (are-after_less_than kind) (cells-text (codes "!--"))
  cells-after_less_than kind (Switch letters c) =
      cells-carried (told_after_less_than kind) (spell_text (switch_text kind letters c)) (are-after_less_than kind) (cells-text (switch_text kind letters c))

  pub cells-item : (exact : Bool) (raw : Raw) (item : RawItem) → CellsShaped tags (spell_item exact raw item)
  cells-item exact raw (Character c) = (are-raw_character exact raw c, tt)
  cells-item exact raw LessThan = (are-at_less_than (kind_of raw), cells-after_less_than (kind_of raw) LessThan)
  cells-item exact raw (Letters letters) = (are-at_less_than (kind_of raw), cells-after_less_than (kind_of raw) (Letters letters))
  cells-item exact raw Mark = (are-at_less_than (kind_of raw), cells-after_less_than (kind_of raw) Mark)
  cells-item exact raw (Switch letters c) = (are-at_less_than (kind_of raw), cells-after_less_than (kind_of raw) (Switch letters c))

  pub cells-raw_less_than : (exact : Bool) (raw : Raw) (item : RawItem) (c : ℕ) → CellsShaped tags (spell_raw_less_than exact raw item c)
  cells-raw_less_than exact raw item c =
      cells-append tags (spell_item exact raw item) _ (cells-item exact raw item)
      (are-append tags (carried raw item) (raw_character exact (raw_after_item raw item) c) (are-carried raw item) (are-raw_character exact (raw_after_item raw item) c), tt)

  pub cells-open_switch : (first : ℕ) (letters : List ℕ) → CellsShaped tags (spell_open_switch first letters)
  cells-open_switch first letters = (refl, (refl, cells-text letters))

  -- ---- the end

  pub are-raw_error : (exact : Bool) (raw : Raw) → AreShaped tags (raw_end_error exact raw)
  unfolding raw_end_error
  are-raw_error exact Rcdata = refl
  are-raw_error exact Rawtext = refl
  are-raw_error exact ScriptData = refl
  are-raw_error exact (Escaped dashes) = refl
  are-raw_error exact (DoubleEscaped dashes) = refl

  pub are-raw_end : (exact : Bool) (raw : Raw) → AreShaped tags (raw_end_error exact raw ++ End ∷ [])
  are-raw_end exact raw = are-append tags (raw_end_error exact raw) (End ∷ []) (are-raw_error exact raw) refl

  pub are-nothing : (exact : Bool) (mode : Mode) → AreShaped tags (nothing_at_end exact mode)
  are-nothing exact Data = refl
  are-nothing exact Plain = refl
  are-nothing exact (RawText raw name) = are-raw_end exact raw
  are-nothing exact Cdata = refl

  pub are-reference_end : (rules : Rules) (mode : Mode) (F : List ℕ) → AreShaped tags (reference_at_end rules mode F)
  are-reference_end rules mode F =
      are-append tags (told_of (InText mode) (found_in rules false F) ++ texts (drop (found_in rules false F).taken F)) _
      (are-append tags (told_of (InText mode) (found_in rules false F)) _ (are-found rules mode F) (are-texts tags (drop (found_in rules false F).taken F)))
      (are-nothing rules.exact mode)
