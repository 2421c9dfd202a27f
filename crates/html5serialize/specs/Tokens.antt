-- Tokens as they are written, in characters: which can be, and what is read of them.
use Rattle.std.specs.Prelude.{ℕ, Bool, true, false, List, [], ◌∷◌, ◌++◌, ◌&&◌, chars, codes, encode_utf8, flat_map, map}
use Rattle.std.specs.List.{list_all}
use Rattle.html5ever_interface.specs.Token.{Told, TagOf}
use Rattle.html5ever_interface.specs.Token.Told.{Text, Null, Error, Tag, Comment, Instruction, Doctype, End}
use Rattle.html5grammar.specs.Comment.{is_content}
use Rattle.html5reading.specs.Characters.{null}
use Rattle.html5reading.specs.Lawful.{has_no_null}
use Rattle.html5serialize.specs.Doctypes.{doctype_text, is_doctype, is_markup_character}
use Rattle.html5serialize.specs.Tags.{tag_text, is_tag}
use Rattle.html5write.specs.Escaped.{escaped_text}
use Rattle.html5write.specs.Pieces.{is_comment_character}

-- ---- the text that is written, where it is read in Data

abbrev pub comment_text : List ℕ → List ℕ
comment_text text = codes "<!--" ++ (text ++ codes "-->")

-- the content of a processing instruction is all that stands between `<?` and `>`
abbrev pub instruction_text : List ℕ → List ℕ
instruction_text content = codes "<?" ++ (content ++ codes ">")

-- nothing is written of an error and of the end
unfoldable pub token_text : Told → List ℕ
token_text (Text text) = escaped_text (chars text)
token_text Null = null ∷ []
token_text (Error message) = []
token_text (Tag tag) = tag_text tag
token_text (Comment text) = comment_text (chars text)
token_text (Instruction content) = instruction_text (chars content)
token_text (Doctype d) = doctype_text d
token_text End = []

-- the text of tokens, one after another
abbrev pub tokens_text : List Told → List ℕ
tokens_text tokens = flat_map token_text tokens

-- ---- which tokens can be written, by the bytes of their texts

-- "Comment state": whether this can be the text of a comment: no end of a comment stands in it, no NUL and no CR
unfoldable pub is_comment_text : List ℕ → Bool
is_comment_text text = list_all is_comment_character text && is_content text

unfoldable pub can_write : Told → Bool
can_write (Text text) = has_no_null text
can_write Null = true
can_write (Error message) = true
can_write (Tag tag) = is_tag tag
can_write (Comment text) = is_comment_text text
can_write (Instruction content) = list_all is_markup_character content
can_write (Doctype d) = is_doctype d
can_write End = true

-- ---- what is read of them, except for errors

-- that an attribute was left out is not written
abbrev pub without_duplicates : TagOf → TagOf
without_duplicates tag = record tag { had_duplicate_attributes = false }

-- the tokens that are read of a serialized token: a text comes back as its characters, and any other token as itself
unfoldable pub read_back : Told → List Told
read_back (Text text) = map (λ c. Text (encode_utf8 c)) (chars text)
read_back (Error message) = []
read_back (Tag tag) = Tag (without_duplicates tag) ∷ []
read_back End = []
read_back token = token ∷ []
