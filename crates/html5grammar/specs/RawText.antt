-- The source of raw text, without `&` in RCDATA, and what it tells.
use Rattle.std.specs.Prelude.{◌≡◌, ℕ, Bool, true, false, List, [], ◌∷◌, ◌++◌, ◌==◌, ◌&&◌, not, nat_eq, length, Option, None, Some, codes, if◌then◌else◌}
use Rattle.std.specs.List.{list_all}
use Rattle.std.specs.Str.{bytes_eq}
use Rattle.html5ever_interface.specs.Sink.{Message, on_line}
use Rattle.html5ever_interface.specs.Token.{Told}
use Rattle.html5ever_interface.specs.Token.Told.{End}
use Rattle.html5ever_interface.specs.declared.states.RawKind.{RawKind}
use Rattle.html5ever_interface.specs.declared.states.RawKind.TheVariants.{ScriptData, ScriptDataEscaped}
use Rattle.html5ever_interface.specs.declared.states.ScriptEscapeKind.TheVariants as escape_kind
use Rattle.html5reading.specs.Characters.{exclamation_mark, ampersand, hyphen, solidus, less_than, is_letter}
use Rattle.html5reading.specs.EndOfInput.{raw_end_error}
use Rattle.html5reading.specs.NormalisedText.{normalised, line_after}
use Rattle.html5grammar.specs.Tag as one_tag
use Rattle.html5grammar.specs.Tag.{WrittenTag, is_written, spelled}
use Rattle.html5grammar.specs.Spelled.{Spelled, spell, spell_silent, spelled_messages}
use Rattle.html5reading.specs.RawText.{texts, ends_name, kind_of, is_rcdata, raw_after, raw_character, lower, ends_raw_text, switched, told_at_less_than, told_after_less_than}
use Rattle.html5reading.specs.Slice.{after_run}
use Rattle.html5reading.specs.Start.{Raw, Input, Start, Rules, raw_of}
use Rattle.html5reading.specs.Start.Dashes.{NoDash, TwoDashes}
use Rattle.html5reading.specs.Start.Mode.{RawText}
use Rattle.html5reading.specs.Start.Raw.{Escaped, DoubleEscaped}
use Rattle.html5reading.specs.Start.Open.{Between}
use Rattle.html5reading.specs.Tag.{is_end_tag}

-- ---- how raw text is written

-- "RCDATA state", "RAWTEXT state", "Script data state" and the states that they lead to: an item of raw text
pub data RawItem : Type 0 where
  -- a character other than `<`
  Character : ℕ → RawItem
  -- a `<` that begins neither an end tag nor one of the items below
  LessThan : RawItem
  -- `</` and letters, maybe none, after which no end tag goes on
  Letters : List ℕ → RawItem
  -- the `<!--` of script data
  Mark : RawItem
  -- in escaped script data `<`, letters and a character that ends a name. In double-escaped script data `</`, letters, maybe
  -- none, and such a character.
  Switch : List ℕ → ℕ → RawItem

-- raw text: its items, and the end tag that ends it, if there is one
pub record WrittenRaw : Type 0 where
  pub items : List RawItem
  pub end_tag : Option WrittenTag

-- ---- the raw text after an item

-- "Script data double escape start state" and "Script data double escape end state": the kind of raw text after letters
abbrev pub switched_kind : RawKind → List ℕ → RawKind
switched_kind (ScriptDataEscaped kind) letters = ScriptDataEscaped (switched kind letters)
switched_kind kind letters = kind

-- the raw text after an item: after `<` or letters no dash stands directly before
abbrev pub raw_after_item : Raw → RawItem → Raw
raw_after_item raw (Character c) = raw_after raw c
raw_after_item raw LessThan = raw_of (kind_of raw)
raw_after_item raw (Letters letters) = raw_of (kind_of raw)
raw_after_item raw Mark = Escaped TwoDashes
raw_after_item raw (Switch letters c) = raw_of (switched_kind (kind_of raw) letters)

-- the raw text after items
unfoldable pub raw_after_items : Raw → List RawItem → Raw
raw_after_items raw [] = raw
raw_after_items raw (item ∷ items) = raw_after_items (raw_after_item raw item) items

-- ---- its text

-- the text of a switch after its `<`
abbrev pub switch_text : RawKind → List ℕ → ℕ → List ℕ
switch_text (ScriptDataEscaped escape_kind.DoubleEscaped) letters c = solidus ∷ letters ++ c ∷ []
switch_text kind letters c = letters ++ c ∷ []

-- an item after its `<`
abbrev pub text_after_less_than : RawKind → RawItem → List ℕ
text_after_less_than kind (Character c) = []
text_after_less_than kind LessThan = []
text_after_less_than kind (Letters letters) = solidus ∷ letters
text_after_less_than kind Mark = codes "!--"
text_after_less_than kind (Switch letters c) = switch_text kind letters c

-- the text of an item
abbrev pub item_text : Raw → RawItem → List ℕ
item_text raw (Character c) = c ∷ []
item_text raw item = less_than ∷ text_after_less_than (kind_of raw) item

-- the text of items, with `later` after them
unfoldable pub items_text : Raw → List RawItem → List ℕ → List ℕ
items_text raw [] later = later
items_text raw (item ∷ items) later = item_text raw item ++ items_text (raw_after_item raw item) items later

-- the text of the end tag, if there is one
abbrev pub end_tag_text : Option WrittenTag → List ℕ
end_tag_text None = []
end_tag_text (Some tag) = one_tag.written tag

-- the text of raw text
unfoldable pub written : Raw → WrittenRaw → List ℕ
written raw written_as = items_text raw written_as.items (end_tag_text written_as.end_tag)

-- ---- which items can stand where, so that each run of letters is as long as it can be

-- whether the text begins with such a character
abbrev pub next_is : (ℕ → Bool) → List ℕ → Bool
next_is is_kind [] = false
next_is is_kind (c ∷ text) = is_kind c

-- "Script data escape start dash state": the second dash of `<!--`
abbrev pub begins_dash : List ℕ → Bool
begins_dash text = next_is (λ c. c == hyphen) text

-- "Script data escape start state": the two dashes of `<!--`
abbrev pub begins_dashes : List ℕ → Bool
begins_dashes [] = false
begins_dashes (c ∷ text) = (c == hyphen) && begins_dash text

-- "Script data double escape end state": letters, maybe none, and a character that ends a name
abbrev pub begins_name_and_end : List ℕ → Bool
begins_name_and_end text = next_is ends_name (after_run is_letter text)

-- "RCDATA less-than sign state" and those of other raw text: whether a `<` before this text begins neither `</`, nor a mark or a
-- switch. In double-escaped script data `</` is text.
abbrev pub is_alone_before : RawKind → List ℕ → Bool
is_alone_before kind [] = true
is_alone_before (ScriptDataEscaped escape_kind.DoubleEscaped) (c ∷ text) = not ((c == solidus) && begins_name_and_end text)
is_alone_before (ScriptDataEscaped escape_kind.Escaped) (c ∷ text) = not (c == solidus) && not (is_letter c && begins_name_and_end text)
is_alone_before ScriptData (c ∷ text) = not (c == solidus) && not ((c == exclamation_mark) && begins_dashes text)
is_alone_before kind (c ∷ text) = not (c == solidus)

-- whether the raw text is double-escaped script data
abbrev pub is_double_escaped : RawKind → Bool
is_double_escaped (ScriptDataEscaped escape_kind.DoubleEscaped) = true
is_double_escaped kind = false

-- whether the raw text is script data
abbrev pub is_script_data : RawKind → Bool
is_script_data ScriptData = true
is_script_data kind = false

-- "Script data double escape start state": whether letters can switch. In escaped script data there is one at least.
abbrev pub can_switch : RawKind → List ℕ → Bool
can_switch (ScriptDataEscaped escape_kind.DoubleEscaped) letters = true
can_switch (ScriptDataEscaped escape_kind.Escaped) letters = not (nat_eq (length letters) 0)
can_switch kind letters = false

-- whether an item can stand in such raw text, with `text` after it
abbrev pub can_stand : List ℕ → Raw → RawItem → List ℕ → Bool
can_stand name raw (Character c) text = not (c == less_than) && not (is_rcdata raw && (c == ampersand))
can_stand name raw LessThan text = is_alone_before (kind_of raw) text
can_stand name raw (Letters letters) text =
    not (is_double_escaped (kind_of raw))
    && (list_all is_letter letters && (not (next_is is_letter text) && not (next_is (ends_raw_text name letters) text)))
can_stand name raw Mark text = is_script_data (kind_of raw)
can_stand name raw (Switch letters c) text = can_switch (kind_of raw) letters && (list_all is_letter letters && ends_name c)

-- whether items can stand in such raw text, with `text` after them
unfoldable pub can_follow : List ℕ → Raw → List RawItem → List ℕ → Bool
can_follow name raw [] later = true
can_follow name raw (item ∷ items) later =
    can_stand name raw item (items_text (raw_after_item raw item) items later) && can_follow name (raw_after_item raw item) items later

-- "Appropriate end tag token": whether this is an end tag of that name. Double-escaped script data has none.
abbrev pub can_end_with : List ℕ → Raw → Option WrittenTag → Bool
can_end_with name raw None = true
can_end_with name raw (Some tag) =
    not (is_double_escaped (kind_of raw))
    && (is_end_tag tag.kind && (list_all is_letter tag.rest && (bytes_eq (lower (tag.first ∷ tag.rest)) name && is_written tag)))

-- whether this is raw text, written out. The name is the one whose end tag ends it.
unfoldable pub is_raw : List ℕ → Raw → WrittenRaw → Bool
is_raw name raw written_as =
    can_follow name raw written_as.items (end_tag_text written_as.end_tag) && can_end_with name (raw_after_items raw written_as.items) written_as.end_tag

-- ---- what it tells

-- "RCDATA less-than sign state", the end tag name states and those of other raw text: what is sent of an item only at the next
-- place
abbrev pub carried : Raw → RawItem → List Told
carried raw LessThan = told_after_less_than (kind_of raw)
carried raw (Letters letters) = texts (less_than ∷ solidus ∷ letters)
carried raw item = []

-- characters to whose first something is carried
abbrev pub carried_to : List Told → List Spelled → List Spelled
carried_to before [] = []
carried_to before (here ∷ more) = record { character = here.character; told = before ++ here.told } ∷ more

-- characters that are text, each by itself
abbrev pub spell_text : List ℕ → List Spelled
spell_text run = spell (λ c. texts (c ∷ [])) run

-- an item after its `<`
abbrev pub spell_after_less_than : RawKind → RawItem → List Spelled
spell_after_less_than kind (Character c) = []
spell_after_less_than kind LessThan = []
spell_after_less_than kind (Letters letters) = spell_silent (solidus ∷ letters)
spell_after_less_than kind Mark = carried_to (told_after_less_than kind) (spell_text (codes "!--"))
spell_after_less_than kind (Switch letters c) = carried_to (told_after_less_than kind) (spell_text (switch_text kind letters c))

-- the characters of an item
abbrev pub spell_item : Bool → Raw → RawItem → List Spelled
spell_item exact raw (Character c) = spell (raw_character exact raw) (c ∷ [])
spell_item exact raw item =
    record { character = less_than; told = told_at_less_than (kind_of raw) } ∷ spell_after_less_than (kind_of raw) item

-- items, where `before` is carried to the first
unfoldable pub spell_items : Bool → Raw → List Told → List RawItem → List Spelled
spell_items exact raw before [] = []
spell_items exact raw before (item ∷ items) =
    carried_to before (spell_item exact raw item) ++ spell_items exact (raw_after_item raw item) (carried raw item) items

-- what is carried after items
unfoldable pub carried_after : Raw → List Told → List RawItem → List Told
carried_after raw before [] = before
carried_after raw before (item ∷ items) = carried_after (raw_after_item raw item) (carried raw item) items

-- the characters of the end tag, if there is one
abbrev pub spell_end_tag : Rules → List Told → Option WrittenTag → List Spelled
spell_end_tag rules before None = []
spell_end_tag rules before (Some tag) = carried_to before (spelled rules tag)

-- the characters of raw text
abbrev pub spell_raw : Rules → Raw → WrittenRaw → List Spelled
spell_raw rules raw written_as =
    spell_items rules.exact raw [] written_as.items ++ spell_end_tag rules (carried_after raw [] written_as.items) written_as.end_tag

-- "Script data double escape start state": whether the `<` of escaped script data has nothing but letters after it, one at least
abbrev pub ends_in_letters : RawItem → RawKind → List ℕ → Bool
ends_in_letters LessThan (ScriptDataEscaped escape_kind.Escaped) (c ∷ text) = is_letter c && list_all is_letter text
ends_in_letters item kind text = false

-- the raw text that the error of the end speaks of: after such letters it is double-escaped
unfoldable pub raw_at_end : Raw → List RawItem → Raw
raw_at_end raw [] = raw
raw_at_end raw (item ∷ items) =
    if ends_in_letters item (kind_of raw) (items_text (raw_after_item raw item) items []) then DoubleEscaped NoDash
    else raw_at_end (raw_after_item raw item) items

-- "Script data escaped state" and "Script data double escaped state", at the end: what the end tells. After an end tag nothing is
-- open.
abbrev pub told_at_end : Bool → Raw → List RawItem → Option WrittenTag → List Told
told_at_end exact raw items None = (carried_after raw [] items ++ raw_end_error exact (raw_at_end raw items)) ++ End ∷ []
told_at_end exact raw items (Some tag) = End ∷ []

-- the messages of a text that is raw text
unfoldable pub raw_messages : Rules → Input → Raw → WrittenRaw → List Message
raw_messages rules input raw written_as =
    spelled_messages rules.exact input [] (spell_raw rules raw written_as)
    ++ on_line (line_after input (written raw written_as)) (told_at_end rules.exact raw written_as.items written_as.end_tag)

-- one item or more, counting the end tag
abbrev pub has_item : List RawItem → Option WrittenTag → Bool
has_item [] None = false
has_item items end_tag = true

-- the text X, read from the start K, is this raw text, written out
pub record IsRawText (K : Start) (X : List ℕ) (raw : Raw) (name : List ℕ) (written_as : WrittenRaw) : Type 0 where
  pub starts : K.opened ≡ Between (RawText raw name)
  pub some : has_item written_as.items written_as.end_tag ≡ true
  pub is_raw : is_raw name raw written_as ≡ true
  pub text : normalised K.input X ≡ written raw written_as
