-- Serialized raw text: the content of `script`, `style`, `textarea` and others, up to the end tag.
use Rattle.std.specs.Prelude.{◌≡◌, ℕ, Bool, false, not, List, [], ◌∷◌, ◌++◌, ◌==◌, ◌&&◌, ◌||◌, chars, codes, drop, encode_utf8, map}
use Rattle.std.specs.Char.{to_ascii_lowercase}
use Rattle.std.specs.List.{list_all}
use Rattle.html5ever_interface.specs.Sink.{Means, Message}
use Rattle.html5ever_interface.specs.Token.{TagOf}
use Rattle.html5ever_interface.specs.Token.Told.{Text, Tag}
use Rattle.html5ever_interface.specs.declared.interface.token.TagKind.TheVariants.{EndTag}
use Rattle.html5ever_interface.specs.declared.states.RawKind.{RawKind}
use Rattle.html5ever_interface.specs.declared.states.RawKind.TheVariants.{Rcdata, Rawtext, ScriptData, ScriptDataEscaped}
use Rattle.html5grammar.specs.Anywhere.{TellsByItself, last_reply, start_after_tag}
use Rattle.html5grammar.specs.Comment.{begins_with, occurs}
use Rattle.html5reading.specs.Characters.{is_between, less_than}
use Rattle.html5reading.specs.Lawful.{has_no_null}
use Rattle.html5reading.specs.RawText.{ends_name}
use Rattle.html5reading.specs.Reading.{open_after_reply}
use Rattle.html5reading.specs.Start.{Open, Start, Rules, raw_of}
use Rattle.html5reading.specs.Start.Mode.{RawText}
use Rattle.html5reading.specs.Start.Open.{Between}
use Rattle.html5write.specs.Escaped.{escaped_text}
use Rattle.html5write.specs.Pieces.{is_comment_character}
use Rattle.html5write.specs.Told.{proper}

-- ---- the text that is written

-- in RCDATA references are read, so it is escaped. In other raw text nothing is, so it is written as it is.
abbrev pub raw_text : RawKind → List ℕ → List ℕ
raw_text Rcdata text = escaped_text (chars text)
raw_text kind text = chars text

-- the end tag of raw text
abbrev pub end_text : List ℕ → List ℕ
end_text name = codes "</" ++ (name ++ codes ">")

-- ---- which raw text can be written, by its bytes

-- the name of an element with raw text: small ASCII letters, one at least
unfoldable pub is_raw_name : List ℕ → Bool
is_raw_name [] = false
is_raw_name (n ∷ name) = list_all (is_between 0x0061 0x007A) (n ∷ name)

-- "Appropriate end tag token": whether the text begins with the name, in any case, and with a character that ends it
unfoldable pub begins_name : List ℕ → List ℕ → Bool
begins_name [] [] = false
begins_name [] (c ∷ text) = ends_name c
begins_name (n ∷ name) [] = false
begins_name (n ∷ name) (c ∷ text) = (to_ascii_lowercase c == n) && begins_name name text

-- whether the text begins as the end tag of that name does
abbrev pub begins_end : List ℕ → List ℕ → Bool
begins_end name text = begins_with (codes "</") text && begins_name name (drop 2 text)

-- whether such an end tag begins anywhere in it
unfoldable pub has_end : List ℕ → List ℕ → Bool
has_end name [] = false
has_end name (c ∷ text) = begins_end name (c ∷ text) || has_end name text

-- "Script data double escape start state": whether a tag of that name, except for the `/` of an end tag, begins anywhere in it
unfoldable pub has_start : List ℕ → List ℕ → Bool
has_start name [] = false
has_start name (c ∷ text) = ((c == less_than) && begins_name name text) || has_start name text

-- whether a script has both what escapes it and what escapes it again, and so may hide its end tag
abbrev pub may_hide : List ℕ → Bool
may_hide text = occurs (codes "<!--") text && has_start (codes "script") text

-- neither NUL nor CR, nor the end tag of the element
abbrev pub is_plain_text : List ℕ → List ℕ → Bool
is_plain_text name text = list_all is_comment_character text && not (has_end name text)

-- A script with `<!--` and `<script` is not written, also where the second doesn't hide the end tag. What begins within escaped
-- script data is not, either.
unfoldable pub can_write_raw : RawKind → List ℕ → List ℕ → Bool
can_write_raw Rcdata name text = is_raw_name name && has_no_null text
can_write_raw Rawtext name text = is_raw_name name && is_plain_text name text
can_write_raw ScriptData name text = is_raw_name name && (is_plain_text name text && not (may_hide text))
can_write_raw (ScriptDataEscaped kind) name text = false

-- ---- raw text that is read again as itself

-- where raw text of that kind is read, up to the end tag of that name. It stands after a start tag, so no mark at the start of a
-- stream is dropped, and no line feed at its front is part of a line break.
pub record IsOpenRaw (K : Start) (kind : RawKind) (name : List ℕ) : Type 0 where
  pub starts : K.opened ≡ Between (RawText (raw_of kind) name)
  pub no_break : K.input.after_carriage_return ≡ false
  pub no_mark : K.input.drops_byte_order_mark ≡ false

-- the emitted end tag
abbrev pub end_tag_of : List ℕ → TagOf
end_tag_of name = record { kind = EndTag; name = name; self_closing = false; attributes = []; had_duplicate_attributes = false }

-- the serialized text, with the end tag after it, tells messages that are, except for errors, exactly its characters and the
-- end tag. The sink's reply to that says what is open.
pub record ReadsRaw {X S H : Type 0} (means : Means X S H) (rules : Rules) (K : Start) (s : S) (kind : RawKind) (name text : List ℕ) : Type 0 where
  pub messages : List Message
  pub tells : TellsByItself means rules K s (raw_text kind text ++ end_text name) messages (start_after_tag means K s (raw_text kind text ++ end_text name) (end_tag_of name) messages)
  pub exactly : proper messages ≡ map (λ c. Text (encode_utf8 c)) (chars text) ++ Tag (end_tag_of name) ∷ []
  -- what each reply to the end tag opens is open
  pub opens : (opened : Open) → ((t : S) (line : ℕ) → open_after_reply K.last_start_tag (means.reply t (Tag (end_tag_of name)) line) ≡ opened)
      → open_after_reply K.last_start_tag (last_reply means.step means.reply s messages) ≡ opened
