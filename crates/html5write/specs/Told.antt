-- What a page that is written piece by piece tells.
use Rattle.std.specs.Prelude.{◌≡◌, ℕ, Bool, true, false, not, List, [], ◌∷◌, ◌++◌, ◌==◌, flat_map, map, codes, encode_utf8, encode_utf8_all}
use Rattle.std.specs.List.{list_all}
use Rattle.html5ever_interface.specs.Sink.{Message, on_line}
use Rattle.html5ever_interface.specs.Token.{Told, TagOf, Reply, keeps_state}
use Rattle.html5ever_interface.specs.Token.Told.{Text, Error, Tag, Comment}
use Rattle.html5ever_interface.specs.declared.interface.token.TagKind.TheVariants.{StartTag, EndTag}
use Rattle.html5reading.specs.Characters.{carriage_return, greater_than}
use Rattle.html5reading.specs.ErrorText.{where_true, bad_character_error}
use Rattle.html5reading.specs.NormalisedText.{line_after, input_after}
use Rattle.html5reading.specs.Reference.{invalid_number}
use Rattle.html5reading.specs.Start.{Input, Rules, Start}
use Rattle.html5reading.specs.Start.Mode.{Data}
use Rattle.html5reading.specs.Start.Open.{Between}
use Rattle.html5reading.specs.Tag.{attribute}
use Rattle.html5grammar.specs.Spelled.{Spelled, spell_silent, spelled_messages}
use Rattle.markup5ever.specs.NamedReferences.{IsTable}
use Rattle.markup5ever.specs.Names.{AttributeOf}
use Rattle.html5write.specs.Escaped.{escaped}
use Rattle.html5write.specs.Pieces.{NameAndValue, Piece, can_write, piece_text, pieces_text}
use Rattle.html5write.specs.Pieces.Piece.{TextPiece, StartTagPiece, EndTagPiece, CommentPiece}

-- where a page can be put so that it is read in Data, and no LF at its front is part of a line break before it
pub record IsOpen (K : Start) : Type 0 where
  pub starts : K.opened ≡ Between Data
  pub no_break : K.input.after_carriage_return ≡ false

-- of the references that are written only that of a CR is an error
abbrev pub return_error : Bool → ℕ → List Told
return_error exact c = where_true (c == carriage_return) (Error (invalid_number exact c))

-- ---- texts

-- what a character of a text tells: itself
abbrev pub character_told : Bool → ℕ → List Told
character_told exact c = bad_character_error exact c ++ (return_error exact c ++ Text (encode_utf8 c) ∷ [])

-- each on the line that it reaches
unfoldable pub text_messages : Bool → Input → List ℕ → List Message
text_messages exact input [] = []
text_messages exact input (c ∷ text) =
    on_line (line_after input (escaped c)) (character_told exact c) ++ text_messages exact (input_after input (escaped c)) text

-- ---- tags

abbrev pub attribute_told : NameAndValue → AttributeOf
attribute_told a = attribute (encode_utf8_all a.name) (encode_utf8_all a.value)

abbrev pub start_tag_told : List ℕ → List NameAndValue → TagOf
start_tag_told name attributes = record {
  kind = StartTag;
  name = encode_utf8_all name;
  self_closing = false;
  attributes = map attribute_told attributes;
  had_duplicate_attributes = false;
}

abbrev pub end_tag_told : List ℕ → TagOf
end_tag_told name = record { kind = EndTag; name = encode_utf8_all name; self_closing = false; attributes = []; had_duplicate_attributes = false }

-- some characters, where something is sent at the first
abbrev pub spell_first : List Told → List ℕ → List Spelled
spell_first told [] = []
spell_first told (c ∷ run) = record { character = c; told = told } ∷ spell_silent run

-- a character of a value
unfoldable pub spell_escaped : Bool → ℕ → List Spelled
spell_escaped exact c = spell_first (return_error exact c) (escaped c)

abbrev pub spell_attribute : Bool → NameAndValue → List Spelled
spell_attribute exact a =
    spell_silent (codes " ") ++ (spell_silent a.name ++ (spell_silent (codes "=\"") ++ (flat_map (spell_escaped exact) a.value ++ spell_silent (codes "\""))))

-- a `>` at which this is sent
abbrev pub spell_end : Told → List Spelled
spell_end token = record { character = greater_than; told = token ∷ [] } ∷ []

abbrev pub spell_start_tag : Bool → List ℕ → List NameAndValue → List Spelled
spell_start_tag exact name attributes =
    spell_silent (codes "<") ++ (spell_silent name ++ (flat_map (spell_attribute exact) attributes ++ spell_end (Tag (start_tag_told name attributes))))

abbrev pub spell_end_tag : List ℕ → List Spelled
spell_end_tag name = spell_silent (codes "</") ++ (spell_silent name ++ spell_end (Tag (end_tag_told name)))

-- ---- comments

abbrev pub spell_comment : List ℕ → List Spelled
spell_comment text = spell_silent (codes "<!--") ++ (spell_silent text ++ (spell_silent (codes "--") ++ spell_end (Comment (encode_utf8_all text))))

-- ---- pages

abbrev pub piece_messages : Bool → Input → Piece → List Message
piece_messages exact input (TextPiece text) = text_messages exact input text
piece_messages exact input (StartTagPiece name attributes) = spelled_messages exact input [] (spell_start_tag exact name attributes)
piece_messages exact input (EndTagPiece name) = spelled_messages exact input [] (spell_end_tag name)
piece_messages exact input (CommentPiece text) = spelled_messages exact input [] (spell_comment text)

unfoldable pub pieces_messages : Bool → Input → List Piece → List Message
pieces_messages exact input [] = []
pieces_messages exact input (piece ∷ pieces) =
    piece_messages exact input piece ++ pieces_messages exact (input_after input (piece_text piece)) pieces

-- the name of the last start tag after a piece
abbrev pub last_after_piece : List ℕ → Piece → List ℕ
last_after_piece last (StartTagPiece name attributes) = encode_utf8_all name
last_after_piece last other = last

unfoldable pub last_after_pieces : List ℕ → List Piece → List ℕ
last_after_pieces last [] = last
last_after_pieces last (piece ∷ pieces) = last_after_pieces (last_after_piece last piece) pieces

-- the start after a page
abbrev pub start_after_pieces : Start → List Piece → Start
start_after_pieces K pieces = record {
  opened = Between Data;
  last_start_tag = last_after_pieces K.last_start_tag pieces;
  input = input_after K.input (pieces_text pieces);
}

-- the sink keeps on after a tag, at once or after a pause, whatever it was sent before it
abbrev pub KeepsOnAfter : {S H : Type 0} → (S → Told → ℕ → Reply H) → TagOf → Type 0
KeepsOnAfter {S = S} reply tag = (t : S) (line : ℕ) → keeps_state (reply t (Tag tag) line) ≡ true

abbrev pub KeepsOnAfterPiece : {S H : Type 0} → (S → Told → ℕ → Reply H) → Piece → Type 0
KeepsOnAfterPiece reply (StartTagPiece name attributes) = KeepsOnAfter reply (start_tag_told name attributes)
KeepsOnAfterPiece reply (EndTagPiece name) = KeepsOnAfter reply (end_tag_told name)
KeepsOnAfterPiece reply other = Unit {0}

-- after each tag of a page
abbrev pub KeepsOn : {S H : Type 0} → (S → Told → ℕ → Reply H) → List Piece → Type 0
KeepsOn reply [] = Unit {0}
KeepsOn reply (piece ∷ pieces) = KeepsOnAfterPiece reply piece × KeepsOn reply pieces

-- a piece that can be written is read back: by these rules, from this start, by a sink that replies so
pub record IsPieceReadBack {S H : Type 0} (rules : Rules) (K : Start) (reply : S → Told → ℕ → Reply H) (piece : Piece) : Type 0 where
  pub table : IsTable rules.references
  pub starts : IsOpen K
  pub can : can_write piece ≡ true
  pub keeps : KeepsOnAfterPiece {S = S} reply piece

-- and so are these, one after another
pub record IsReadBack {S H : Type 0} (rules : Rules) (K : Start) (reply : S → Told → ℕ → Reply H) (pieces : List Piece) : Type 0 where
  pub table : IsTable rules.references
  pub starts : IsOpen K
  pub can : list_all can_write pieces ≡ true
  pub keeps : KeepsOn {S = S} reply pieces

-- ---- what it tells except for errors

abbrev pub proper_token : Told → List Told
proper_token (Error message) = []
proper_token other = other ∷ []

-- the tokens of messages, without errors
unfoldable pub proper : List Message → List Told
proper told = flat_map (λ m. proper_token m.token) told

-- the tokens that a piece stands for: each character of a text is one
abbrev pub piece_tokens : Piece → List Told
piece_tokens (TextPiece text) = map (λ c. Text (encode_utf8 c)) text
piece_tokens (StartTagPiece name attributes) = Tag (start_tag_told name attributes) ∷ []
piece_tokens (EndTagPiece name) = Tag (end_tag_told name) ∷ []
piece_tokens (CommentPiece text) = Comment (encode_utf8_all text) ∷ []

abbrev pub pieces_tokens : List Piece → List Told
pieces_tokens pieces = flat_map piece_tokens pieces

-- the tokens of messages
abbrev pub tokens_of : List Message → List Told
tokens_of told = map (λ (m : Message). m.token) told

-- ---- pages without errors

-- a CR stands in no text and in no value
abbrev pub has_no_return : List ℕ → Bool
has_no_return text = list_all (λ c. not (c == carriage_return)) text

abbrev pub is_without_return : Piece → Bool
is_without_return (TextPiece text) = has_no_return text
is_without_return (StartTagPiece name attributes) = list_all (λ (a : NameAndValue). has_no_return a.value) attributes
is_without_return other = true
