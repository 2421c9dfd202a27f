-- What it means that a serialized token is read again as itself.
use Rattle.std.specs.Prelude.{◌≡◌, ℕ, List, [], ◌∷◌, flat_map, Option, None, Some}
use Rattle.std.specs.Str.{IsUtf8}
use Rattle.html5ever_interface.specs.Sink.{Means, Message}
use Rattle.html5ever_interface.specs.Token.{Told, Reply}
use Rattle.html5ever_interface.specs.Token.Told.{Text, Tag, Comment, Instruction, Doctype}
use Rattle.html5grammar.specs.Anywhere.{TellsByItself, start_beyond, start_after_tag}
use Rattle.html5reading.specs.Reading.{last_after}
use Rattle.html5reading.specs.Start.{Start, Rules}
use Rattle.html5reading.specs.Start.Mode.{Data}
use Rattle.html5reading.specs.Start.Open.{Between}
use Rattle.html5serialize.specs.Tokens.{token_text, tokens_text, read_back, without_duplicates}
use Rattle.html5write.specs.Told.{KeepsOnAfter, proper}
use Rattle.markup5ever.specs.Names.{AttributeOf}

-- ---- texts are UTF-8, as those of each token that a program has

abbrev pub IsTextOrNone : Option (List ℕ) → Type 0
IsTextOrNone None = Unit {0}
IsTextOrNone (Some text) = IsUtf8 text

-- the names and values of attributes
abbrev pub AreAttributeTexts : List AttributeOf → Type 0
AreAttributeTexts [] = Unit {0}
AreAttributeTexts (a ∷ attributes) = (IsUtf8 a.name.local × IsUtf8 a.value) × AreAttributeTexts attributes

abbrev pub HasTexts : Told → Type 0
HasTexts (Text text) = IsUtf8 text
HasTexts (Tag tag) = IsUtf8 tag.name × AreAttributeTexts tag.attributes
HasTexts (Comment text) = IsUtf8 text
HasTexts (Instruction content) = IsUtf8 content
HasTexts (Doctype d) = IsTextOrNone d.name × IsTextOrNone d.public_id × IsTextOrNone d.system_id
HasTexts other = Unit {0}

-- ---- a token that is read again as itself

module _ {X S H : Type 0} (means : Means X S H) where
  -- the start after a serialized token, which tells these messages. After a tag the sink's reply says what is open.
  abbrev pub start_after_token : Start → S → Told → List Message → Start
  start_after_token K s (Tag tag) M = start_after_tag means K s (token_text (Tag tag)) (without_duplicates tag) M
  start_after_token K s token M = start_beyond K (token_text token) (Between Data) K.last_start_tag

  -- the serialized token, read from K in the sink's state s, tells messages that are, except for errors, exactly the token: a
  -- text its characters one by one, and any other itself. It does so wherever it stands, and whatever follows it.
  pub record ReadsBack (rules : Rules) (K : Start) (s : S) (token : Told) : Type 0 where
    pub messages : List Message
    pub tells : TellsByItself means rules K s (token_text token) messages (start_after_token K s token messages)
    pub exactly : proper messages ≡ read_back token

-- ---- tokens one after another

-- the texts of each of them are
abbrev pub HaveTexts : List Told → Type 0
HaveTexts [] = Unit {0}
HaveTexts (token ∷ tokens) = HasTexts token × HaveTexts tokens

-- the sink keeps on after a tag, at once or after a pause, whatever it was sent before it
abbrev pub KeepsOnAfterToken : {S H : Type 0} → (S → Told → ℕ → Reply H) → Told → Type 0
KeepsOnAfterToken {S = S} reply (Tag tag) = KeepsOnAfter {S = S} reply (without_duplicates tag)
KeepsOnAfterToken reply token = Unit {0}

-- after each tag of them
abbrev pub KeepsOnAfterAll : {S H : Type 0} → (S → Told → ℕ → Reply H) → List Told → Type 0
KeepsOnAfterAll reply [] = Unit {0}
KeepsOnAfterAll reply (token ∷ tokens) = KeepsOnAfterToken reply token × KeepsOnAfterAll reply tokens

-- the name of the last start tag after a token
abbrev pub last_after_token : List ℕ → Told → List ℕ
last_after_token last (Tag tag) = last_after last tag
last_after_token last token = last

unfoldable pub last_after_tokens : List ℕ → List Told → List ℕ
last_after_tokens last [] = last
last_after_tokens last (token ∷ tokens) = last_after_tokens (last_after_token last token) tokens

module _ {X S H : Type 0} (means : Means X S H) where
  -- the tokens as they are written, one after another, tell messages that are, except for errors, exactly the tokens, wherever
  -- they stand, and nothing is open after them
  pub record ReadBack (rules : Rules) (K : Start) (s : S) (tokens : List Told) : Type 0 where
    pub messages : List Message
    pub tells : TellsByItself means rules K s (tokens_text tokens) messages (start_beyond K (tokens_text tokens) (Between Data) (last_after_tokens K.last_start_tag tokens))
    pub exactly : proper messages ≡ flat_map read_back tokens
