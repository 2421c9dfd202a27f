-- Where a token is written in its text, and by which item of the grammar.
--
-- A text is the text before a token's run, the run, the token's own characters, and the rest. An error and a NUL have one character,
-- and what the end tells has none. A tag, a comment, an instruction and a doctype have those of one item of the grammar (`Item`), or at the
-- end of the text of an unfinished one (`Unfinished`). The first of them is `<`.
use Rattle.std.specs.Prelude.{◌≡◌, ◌≢◌, ℕ, false, true, List, [], ◌∷◌, ◌++◌, length, encode_utf8_all}
use Rattle.html5ever_interface.specs.Sink.{Message, on_line}
use Rattle.html5ever_interface.specs.Token.{Told}
use Rattle.html5ever_interface.specs.Token.Told.{End}
use Rattle.html5grammar.specs.Items.{Item, Unfinished}
use Rattle.html5reading.specs.Characters.{less_than}
use Rattle.html5reading.specs.Reading.{start_after}
use Rattle.html5reading.specs.Start.{Rules, Start, nothing_open}
use Rattle.html5places.specs.declared.places.Places.{Places}
use Rattle.html5places.specs.Markup.{start_at_less_than}
use Rattle.html5places.specs.Marks.{Placed, is_markup}
use Rattle.html5places.specs.Placed.{Beginning, standard}

-- the place after a text: how many bytes its characters take
abbrev pub place_after : List ℕ → ℕ
place_after text = length (encode_utf8_all text)

-- The whole text is the text before the run, the run, the item and the rest, and the places lie between them. So they are in order,
-- and none is within a character.
pub record AreBetween (whole before run item rest : List ℕ) (places : Places) : Type 0 where
  pub parts : whole ≡ before ++ (run ++ (item ++ rest))
  pub text : places.text ≡ place_after before
  pub begin : places.begin ≡ place_after (before ++ run)
  pub end : places.end ≡ place_after (before ++ (run ++ item))

-- one character and the rest of the text, or nothing at its end
pub data IsCharacterOrEnd : List ℕ → List ℕ → Type 0 where
  AtCharacter : (c : ℕ) (rest : List ℕ) → IsCharacterOrEnd (c ∷ []) rest
  AtEnd : IsCharacterOrEnd [] []

-- a token stands between characters of the text, and one that is not markup at a character, or at the end
pub record StandsBetween (whole : List ℕ) (p : Placed) : Type 0 where
  pub before : List ℕ
  pub run : List ℕ
  pub item : List ℕ
  pub rest : List ℕ
  pub places : AreBetween whole before run item rest p.places
  pub other : is_markup p.token ≡ false → IsCharacterOrEnd item rest

-- A reading begins after this text: nothing is open there, and its marks count the bytes of the text. The run that no token has ended
-- yet begins within it.
pub record BeginsAfter (whole : List ℕ) (B : Beginning) : Type 0 where
  pub clean : nothing_open B.start.opened ≡ true
  pub to : B.marks.to ≡ place_after whole
  pub text : List ℕ
  pub run : List ℕ
  pub parts : whole ≡ text ++ run
  pub text_place : B.marks.text ≡ place_after text

module _ (rules : Rules) (K : Start) where
  -- The start of an item that begins with `<`, after this text. The text may end with what is not decided, as `&lt` or `<`. The `<` ends
  -- that as text, and is read with nothing open.
  abbrev pub start_of_item : List ℕ → Start
  start_of_item before = start_at_less_than (start_after standard rules K tt before)

  -- The text `item` is an item before the rest, which tells this token last. The rest is read from where the text leads, and nothing is
  -- open there.
  pub record IsItem (before item rest : List ℕ) (token : Told) (line : ℕ) : Type 0 where
    pub first : List Message
    pub is_item : Item standard rules rest (start_of_item before) tt item (first ++ record { token = token; line = line } ∷ [])
        (start_after standard rules K tt (before ++ item))
    pub closed : nothing_open (start_after standard rules K tt (before ++ item)).opened ≡ true

  -- the text `item` ends within an item, of which the end tells this token and then itself
  pub record IsUnfinished (before item : List ℕ) (token : Told) (line : ℕ) : Type 0 where
    pub tells : List Message
    pub first : List Told
    pub is_item : Unfinished standard rules (start_of_item before) tt item tells (on_line line (first ++ token ∷ End ∷ []))

  -- the one or the other, by the text after the item
  pub data IsItemOrEnd (before item : List ℕ) (token : Told) (line : ℕ) : List ℕ → Type 0 where
    Whole : (rest : List ℕ) → IsItem before item rest token line → IsItemOrEnd before item token line rest
    CutOff : IsUnfinished before item token line → IsItemOrEnd before item token line []

  -- The token is written so between the text before and the rest. Read from its start, it leads to where it leads in the text, and after
  -- each part of it something is open.
  pub record IsWritten (before item rest : List ℕ) (token : Told) (line : ℕ) : Type 0 where
    pub more : List ℕ
    pub begins : item ≡ less_than ∷ more
    pub leads : start_after standard rules (start_of_item before) tt item ≡ start_after standard rules K tt (before ++ item)
    pub within : (part other : List ℕ) → item ≡ part ++ other → part ≢ [] → other ≢ []
        → nothing_open (start_after standard rules (start_of_item before) tt part).opened ≡ false
    pub is_item : IsItemOrEnd before item token line rest

  -- a token stands between characters of the text, and markup where it is written
  pub record Stands (whole : List ℕ) (p : Placed) : Type 0 where
    pub stands : StandsBetween whole p
    pub written : is_markup p.token ≡ true → IsWritten (stands.before ++ stands.run) stands.item stands.rest p.token p.line
