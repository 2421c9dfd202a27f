-- Raw text: text in which nothing but the end tag of one name is markup. Script data also has `<!--` and `<script`, which hide
-- that end tag.
-- The slices below are vocabulary of proofs: `html5grammar/specs/RawText` says how raw text is written.
use Rattle.std.specs.Prelude.{ℕ, Bool, true, false, List, [], ◌∷◌, ◌++◌, ◌==◌, ◌||◌, ◌&&◌, codes, encode_utf8, flat_map, map, length, nat_eq, not, if◌then◌else◌}
use Rattle.std.specs.Str.{bytes_eq}
use Rattle.html5ever_interface.specs.Token.{Told}
use Rattle.html5ever_interface.specs.Token.Told.{Text}
use Rattle.html5ever_interface.specs.declared.interface.token.TagKind.TheVariants.{EndTag}
use Rattle.html5ever_interface.specs.declared.states.RawKind.{RawKind}
use Rattle.html5ever_interface.specs.declared.states.RawKind.TheVariants as raw_kind
use Rattle.html5ever_interface.specs.declared.states.ScriptEscapeKind.{ScriptEscapeKind}
use Rattle.html5ever_interface.specs.declared.states.ScriptEscapeKind.TheVariants as escape_kind
use Rattle.html5ever_interface.specs.declared.states.State.{State}
use Rattle.html5ever_interface.specs.declared.states.State.TheVariants as state
use Rattle.html5reading.specs.Characters.{null, replacement_character, exclamation_mark, ampersand, hyphen, solidus, less_than, greater_than, is_letter, is_white_space, name_bytes}
use Rattle.html5reading.specs.ErrorText.{error_in}
use Rattle.html5reading.specs.Reference.{reference_text}
use Rattle.html5reading.specs.Slice.{Slice, silent, no_character, cut_off, one_character, with_character, with_run, run_of, after_run}
use Rattle.html5reading.specs.Slice.Afterwards.{Leaves}
use Rattle.html5reading.specs.Start.{Dashes, Raw, Open, Rules, begun, raw_of}
use Rattle.html5reading.specs.Start.Dashes.{NoDash, OneDash, TwoDashes}
use Rattle.html5reading.specs.Start.Raw.{Rcdata, Rawtext, ScriptData, Escaped, DoubleEscaped}
use Rattle.html5reading.specs.Start.Mode.{RawText}
use Rattle.html5reading.specs.Start.RawPlace.{AfterLessThan, InEndName, AfterMark, AfterMarkAndDash, InSwitch}
use Rattle.html5reading.specs.Start.Stand.{InText}
use Rattle.html5reading.specs.Start.Open.{Between, InRaw}
use Rattle.html5reading.specs.Tag.{with_name, after_tag_name}

-- raw text of a kind, with nothing open and no dash before
abbrev pub raw_text_of : RawKind → List ℕ → Open
raw_text_of kind name = Between (RawText (raw_of kind) name)

-- characters that are text, each by itself
abbrev pub texts : List ℕ → List Told
texts run = map (λ (c : ℕ). Text (encode_utf8 c)) run

-- white space, `/` and `>` end a name
unfoldable pub ends_name : ℕ → Bool
ends_name c = is_white_space c || (c == solidus) || (c == greater_than)

-- ---- one character

-- the state that an error names: in escaped script data the dashes directly before choose it
unfoldable pub escaped_state : ScriptEscapeKind → Dashes → State
escaped_state kind NoDash = state.RawData (raw_kind.ScriptDataEscaped kind)
escaped_state kind OneDash = state.ScriptDataEscapedDash kind
escaped_state kind TwoDashes = state.ScriptDataEscapedDashDash kind

-- the state that an error in raw text names
unfoldable pub raw_state : Raw → State
raw_state Rcdata = state.RawData raw_kind.Rcdata
raw_state Rawtext = state.RawData raw_kind.Rawtext
raw_state ScriptData = state.RawData raw_kind.ScriptData
raw_state (Escaped dashes) = escaped_state escape_kind.Escaped dashes
raw_state (DoubleEscaped dashes) = escaped_state escape_kind.DoubleEscaped dashes

-- the kind of raw text
unfoldable pub kind_of : Raw → RawKind
kind_of Rcdata = raw_kind.Rcdata
kind_of Rawtext = raw_kind.Rawtext
kind_of ScriptData = raw_kind.ScriptData
kind_of (Escaped dashes) = raw_kind.ScriptDataEscaped escape_kind.Escaped
kind_of (DoubleEscaped dashes) = raw_kind.ScriptDataEscaped escape_kind.DoubleEscaped

abbrev pub is_rcdata : Raw → Bool
is_rcdata Rcdata = true
is_rcdata other = false

abbrev pub is_two : Dashes → Bool
is_two TwoDashes = true
is_two other = false

abbrev pub one_more : Dashes → Dashes
one_more NoDash = OneDash
one_more other = TwoDashes

-- the dashes after a character
unfoldable pub dashes_after : Dashes → ℕ → Dashes
dashes_after dashes c = if c == hyphen then one_more dashes else NoDash

-- "Script data escaped dash dash state" and its double escaped form: `>` after two dashes ends what `<!--` began
unfoldable pub raw_after : Raw → ℕ → Raw
raw_after (Escaped dashes) c = if (c == greater_than) && is_two dashes then ScriptData else Escaped (dashes_after dashes c)
raw_after (DoubleEscaped dashes) c = if (c == greater_than) && is_two dashes then ScriptData else DoubleEscaped (dashes_after dashes c)
raw_after other c = other

-- "RCDATA state", "RAWTEXT state", "Script data state" and the escaped states: a character is text; NUL is an error and U+FFFD
unfoldable pub raw_character : Bool → Raw → ℕ → List Told
raw_character exact raw c =
    if c == null then error_in exact (raw_state raw) c ∷ Text (encode_utf8 replacement_character) ∷ []
    else Text (encode_utf8 c) ∷ []

-- ---- `</` and letters

-- the letters in lower case
abbrev pub lower : List ℕ → List ℕ
lower letters = flat_map name_bytes letters

-- "Appropriate end tag token": whether the letters are, in lower case, the name whose end tag ends the text, and c ends a name
unfoldable pub ends_raw_text : List ℕ → List ℕ → ℕ → Bool
ends_raw_text name letters c = not (nat_eq (length name) 0) && (ends_name c && bytes_eq (lower letters) name)

-- "RCDATA end tag name state" and those of other raw text: after the letters an end tag goes on, or all of it is text
unfoldable pub after_end_name : RawKind → List ℕ → List ℕ → List ℕ → Slice
after_end_name kind name letters [] = cut_off (InRaw (InEndName kind letters) name)
after_end_name kind name letters (c ∷ text) =
    if ends_raw_text name letters c then after_tag_name (with_name (begun EndTag) letters) (c ∷ text)
    else no_character (Leaves (texts (less_than ∷ solidus ∷ letters)) (raw_text_of kind name))

-- "RCDATA end tag open state", "RCDATA end tag name state" and those of other raw text: the letters after `</`
unfoldable pub end_name : RawKind → List ℕ → List ℕ → List ℕ → Slice
end_name kind name letters text =
    let run : List ℕ = run_of is_letter text in
    with_run silent run (after_end_name kind name (letters ++ run) (after_run is_letter text))

-- ---- script data: `<!--`, and the switches between escaped and double-escaped

-- "Script data escape start dash state": a second dash begins escaped script data
unfoldable pub after_mark_and_dash : List ℕ → List ℕ → Slice
after_mark_and_dash name [] = cut_off (InRaw AfterMarkAndDash name)
after_mark_and_dash name (c ∷ text) =
    if c == hyphen then one_character (texts (c ∷ [])) (Between (RawText (Escaped TwoDashes) name))
    else cut_off (raw_text_of raw_kind.ScriptData name)

-- "Script data escape start state": the text after `<!`
unfoldable pub after_mark : List ℕ → List ℕ → Slice
after_mark name [] = cut_off (InRaw AfterMark name)
after_mark name (c ∷ text) =
    if c == hyphen then with_character (texts (c ∷ [])) (after_mark_and_dash name text)
    else cut_off (raw_text_of raw_kind.ScriptData name)

-- the other of the two kinds of escaped script data
abbrev pub other_escape : ScriptEscapeKind → ScriptEscapeKind
other_escape escape_kind.Escaped = escape_kind.DoubleEscaped
other_escape escape_kind.DoubleEscaped = escape_kind.Escaped

-- "Script data double escape start state" and "Script data double escape end state": the letters `script` switch
unfoldable pub switched : ScriptEscapeKind → List ℕ → ScriptEscapeKind
switched kind letters = if bytes_eq (lower letters) (codes "script") then other_escape kind else kind

-- "Script data double escape start state" and "Script data double escape end state", at the character that ends the letters
unfoldable pub after_switch : ScriptEscapeKind → List ℕ → List ℕ → List ℕ → Slice
after_switch kind name letters [] = cut_off (InRaw (InSwitch kind letters) name)
after_switch kind name letters (c ∷ text) =
    if ends_name c then one_character (texts (c ∷ [])) (raw_text_of (raw_kind.ScriptDataEscaped (switched kind letters)) name)
    else cut_off (raw_text_of (raw_kind.ScriptDataEscaped kind) name)

-- "Script data double escape start state" and "Script data double escape end state": letters that are text, and the text after
-- them
unfoldable pub switch : ScriptEscapeKind → List ℕ → List ℕ → List ℕ → Slice
switch kind name letters text =
    let run : List ℕ = run_of is_letter text in
    with_run (λ c. texts (c ∷ [])) run (after_switch kind name (letters ++ run) (after_run is_letter text))

-- ---- `<`

-- "Script data double escaped state": only there is `<` sent at once
abbrev pub told_at_less_than : RawKind → List Told
told_at_less_than (raw_kind.ScriptDataEscaped escape_kind.DoubleEscaped) = texts (less_than ∷ [])
told_at_less_than kind = []

-- everywhere else it is sent at the next character
abbrev pub told_after_less_than : RawKind → List Told
told_after_less_than (raw_kind.ScriptDataEscaped escape_kind.DoubleEscaped) = []
told_after_less_than kind = texts (less_than ∷ [])

-- "RCDATA end tag open state" and those of other raw text, or "Script data double escape end state": the text after `</`
unfoldable pub after_raw_solidus : RawKind → List ℕ → List ℕ → Slice
after_raw_solidus (raw_kind.ScriptDataEscaped escape_kind.DoubleEscaped) name text =
    with_character (texts (solidus ∷ [])) (switch escape_kind.DoubleEscaped name [] text)
after_raw_solidus kind name text = with_character [] (end_name kind name [] text)

-- "Script data less-than sign state": whether c after `<` begins a `<!--`
unfoldable pub begins_mark : RawKind → ℕ → Bool
begins_mark raw_kind.ScriptData c = c == exclamation_mark
begins_mark kind c = false

-- "Script data escaped less-than sign state": whether c after `<` begins a `<script`
unfoldable pub begins_switch : RawKind → ℕ → Bool
begins_switch (raw_kind.ScriptDataEscaped escape_kind.Escaped) c = is_letter c
begins_switch kind c = false

-- "RCDATA less-than sign state", "RAWTEXT less-than sign state", "Script data less-than sign state" and the escaped ones: the
-- text after `<`
unfoldable pub after_raw_less_than : RawKind → List ℕ → List ℕ → Slice
after_raw_less_than kind name [] = cut_off (InRaw (AfterLessThan kind) name)
after_raw_less_than kind name (c ∷ text) =
    if c == solidus then after_raw_solidus kind name text
    else if begins_mark kind c then with_character (texts (less_than ∷ c ∷ [])) (after_mark name text)
    else if begins_switch kind c then with_character (texts (less_than ∷ c ∷ [])) (switch escape_kind.Escaped name (c ∷ []) text)
    else no_character (Leaves (told_after_less_than kind) (raw_text_of kind name))

-- "RCDATA state", "RAWTEXT state", "Script data state" and the escaped states: what begins with c, where `before` is sent first
unfoldable pub raw_text : Rules → Raw → List ℕ → List Told → ℕ → List ℕ → Slice
raw_text rules raw name before c text =
    if c == less_than then with_character (before ++ told_at_less_than (kind_of raw)) (after_raw_less_than (kind_of raw) name text)
    else if is_rcdata raw && (c == ampersand) then with_character before (reference_text rules (InText (RawText raw name)) [] text)
    else one_character (before ++ raw_character rules.exact raw c) (Between (RawText (raw_after raw c) name))
