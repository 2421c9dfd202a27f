-- The tokens that tree construction takes, and those that a message of the tokenizer is.
use Rattle.std.specs.Prelude.{ℕ, Bool, true, false, List, [], ◌∷◌, ◌++◌, ◌==◌, ◌||◌, Option, Some, None, codes, map, if◌then◌else◌}
use Rattle.std.specs.Str.{bytes_eq}
use Rattle.markup5ever.specs.Names.{AttributeOf}
use Rattle.html5ever_interface.specs.Token.{Told, TagOf, DoctypeOf}
use Rattle.html5ever_interface.specs.Token.Told.{Text, Null, Error, Tag, Comment as ToldComment, Instruction, Doctype as ToldDoctype, End}
use Rattle.html5ever_interface.specs.declared.interface.token.TagKind.{TagKind}
use Rattle.html5ever_interface.specs.declared.interface.token.TagKind.TheVariants.{StartTag as IsStart, EndTag as IsEnd}

pub record StartTagOf : Type 0 where
  pub name : List ℕ
  pub attributes : List AttributeOf
  pub self_closing : Bool

-- A text is a token for each of its bytes: the rows tell only U+0000 and white space from other characters, so all bytes of another character
-- are treated alike, and stand together again in the tree.
pub data Token : Type 0 where
  Doctype : DoctypeOf → Token
  StartTag : StartTagOf → Token
  EndTag : (name : List ℕ) → Token
  Comment : List ℕ → Token
  Character : ℕ → Token
  EndOfFile : Token

-- a start tag without attributes, as rows make them
abbrev pub bare_tag : List ℕ → StartTagOf
bare_tag name = record { name = name; attributes = []; self_closing = false }

-- ---- characters

abbrev pub is_null : ℕ → Bool
is_null c = c == 0

abbrev pub is_newline : ℕ → Bool
is_newline c = c == 10

-- "One of U+0009, U+000A, U+000C, U+000D, U+0020"
abbrev pub is_space : ℕ → Bool
is_space c = (c == 32) || (c == 9) || (c == 10) || (c == 12) || (c == 13)

-- ---- attributes of a tag

-- the value of the attribute of a name
unfoldable pub value_of : List ℕ → List AttributeOf → Option (List ℕ)
value_of name [] = None
value_of name (a ∷ more) = if bytes_eq a.name.local name then Some a.value else value_of name more

abbrev pub has_value : Option (List ℕ) → Bool
has_value (Some value) = true
has_value None = false

abbrev pub has_attribute : List ℕ → List AttributeOf → Bool
has_attribute name attributes = has_value (value_of name attributes)

-- ---- what the tokenizer's messages are

abbrev pub tokens_of_tag : TagKind → TagOf → List Token
tokens_of_tag IsStart tag = StartTag (record { name = tag.name; attributes = tag.attributes; self_closing = tag.self_closing }) ∷ []
tokens_of_tag IsEnd tag = EndTag tag.name ∷ []

-- A processing instruction is a comment that begins with a `?`. A parse error is no token.
abbrev pub tokens_of : Told → List Token
tokens_of (Text text) = map (λ c. Character c) text
tokens_of Null = Character 0 ∷ []
tokens_of (Error message) = []
tokens_of (Tag tag) = tokens_of_tag tag.kind tag
tokens_of (ToldComment text) = Comment text ∷ []
tokens_of (Instruction text) = Comment (codes "?" ++ text) ∷ []
tokens_of (ToldDoctype doctype) = Doctype doctype ∷ []
tokens_of End = EndOfFile ∷ []
