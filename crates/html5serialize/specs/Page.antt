-- The page that tokens make: each token as it is serialized at its place.
use Rattle.std.specs.Prelude.{◌≡◌, ℕ, Bool, false, List, [], ◌∷◌, ◌++◌, chars}
use Rattle.html5ever_interface.specs.Token.{Told, TagOf, Reply}
use Rattle.html5ever_interface.specs.Token.Reply.{ReadPlainText, ReadRawData}
use Rattle.html5ever_interface.specs.Token.Told.{Text, Tag}
use Rattle.html5ever_interface.specs.declared.states.RawKind.{RawKind}
use Rattle.html5ever_interface.specs.declared.states.RawKind.TheVariants.{Rcdata}
use Rattle.html5reading.specs.Reading.{open_after_reply}
use Rattle.html5serialize.specs.Escapes.{escaped_text_by}
use Rattle.html5serialize.specs.Scripting.{reply_by}
use Rattle.html5serialize.specs.Tags.{tag_text_by}
use Rattle.html5serialize.specs.Tokens.{token_text}
use Rattle.html5serialize.specs.declared.escaping.Escapes.{Escapes}
use Rattle.html5serialize.specs.declared.escaping.Escapes.TheVariants.{Numbers}
use Rattle.html5serialize.specs.declared.page_writer.PageOptions.{PageOptions}
use Rattle.html5serialize.specs.declared.page_writer.Place.{Place}
use Rattle.html5serialize.specs.declared.page_writer.Place.TheVariants as place

-- ---- where the tokens of a page stand

-- what a reply to a tag asks for
abbrev pub place_of : {H : Type 0} → Reply H → Place
place_of ReadPlainText = place.PlainText
place_of (ReadRawData kind) = place.RawText kind
place_of other = place.Data

-- After a tag stands what the standard's elements ask for, with scripting or without: after an end tag that is Data. Any other
-- token changes nothing, and nothing ends plain text.
unfoldable pub place_after : Bool → Place → Told → Place
place_after scripting place.PlainText token = place.PlainText
place_after scripting (place.RawText kind) (Tag tag) = place_of (reply_by scripting tag)
place_after scripting (place.RawText kind) token = place.RawText kind
place_after scripting place.Data (Tag tag) = place_of (reply_by scripting tag)
place_after scripting place.Data token = place.Data

-- without scripting, and by number
abbrev pub default_options : PageOptions
default_options = record { scripting = false; escapes = Numbers }

-- where a writer of a page stands, and how it writes
pub record PageOf : Type 0 where
  pub place : Place
  pub options : PageOptions

-- ---- the text of a page

-- a text in raw text: in RCDATA references are read, so it is escaped
abbrev pub raw_text_by : Escapes → RawKind → List ℕ → List ℕ
raw_text_by escapes Rcdata text = escaped_text_by escapes (chars text)
raw_text_by escapes kind text = chars text

-- a token as it is serialized there: in Data and in RCDATA a text is escaped, and elsewhere it stands as it is. The values of tags
-- are escaped everywhere.
unfoldable pub text_at : Escapes → Place → Told → List ℕ
text_at escapes place.Data (Text text) = escaped_text_by escapes (chars text)
text_at escapes (place.RawText kind) (Text text) = raw_text_by escapes kind text
text_at escapes place.PlainText (Text text) = chars text
text_at escapes here (Tag tag) = tag_text_by escapes tag
text_at escapes here token = token_text token

-- tokens that stand one after another from there on
unfoldable pub page_text_from : PageOptions → Place → List Told → List ℕ
page_text_from options here [] = []
page_text_from options here (token ∷ tokens) = text_at options.escapes here token ++ page_text_from options (place_after options.scripting here token) tokens

-- a page begins in Data
abbrev pub page_text : PageOptions → List Told → List ℕ
page_text options tokens = page_text_from options place.Data tokens

-- ---- what is supposed of a sink

-- after each tag it opens what the standard's elements ask for, with scripting or without, whatever it was sent before
abbrev pub AsksAsStandard : {S H : Type 0} → Bool → (S → Told → ℕ → Reply H) → Type 0
AsksAsStandard {S = S} scripting reply = (s : S) (tag : TagOf) (line : ℕ) (last : List ℕ)
    → open_after_reply last (reply s (Tag tag) line) ≡ open_after_reply last (reply_by scripting tag)
