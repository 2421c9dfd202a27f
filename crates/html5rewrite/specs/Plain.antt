-- Which pieces a rewriting handler writes.
use Rattle.std.specs.Prelude.{◌≡◌, ℕ, Bool, true, List, [], ◌∷◌, ◌&&◌, filter, map, chars, encode_utf8_all, if◌then◌else◌}
use Rattle.html5ever_interface.specs.Token.{Told, TagOf, Reply}
use Rattle.html5ever_interface.specs.declared.interface.token.TagKind.{TagKind}
use Rattle.html5ever_interface.specs.declared.interface.token.TagKind.TheVariants.{StartTag, EndTag}
use Rattle.markup5ever.specs.Names.{AttributeOf}
use Rattle.html5write.specs.Pieces.{NameAndValue, Piece, can_write, is_attribute}
use Rattle.html5write.specs.Pieces.Piece.{TextPiece, StartTagPiece, EndTagPiece}
use Rattle.html5rewrite.specs.Rewriter.{reads_markup_after}
use Rattle.std.specs.List.{list_all}
use Rattle.html5reading.specs.Start.{Start, Rules}
use Rattle.markup5ever.specs.NamedReferences.{IsTable}
use Rattle.html5write.specs.Told.{IsOpen, KeepsOn}

abbrev pub is_before_markup : Piece → Bool
is_before_markup (StartTagPiece name attributes) = reads_markup_after (encode_utf8_all name)
is_before_markup other = true

-- a piece that can be written, after which markup is read
abbrev pub is_plain : Piece → Bool
is_plain piece = is_before_markup piece && can_write piece

abbrev pub where_plain : Piece → List Piece
where_plain piece = if is_plain piece then piece ∷ [] else []

abbrev pub attribute_chars : AttributeOf → NameAndValue
attribute_chars a = record { name = chars a.name.local; value = chars a.value }

-- the attributes that can be written
abbrev pub plain_attributes : List NameAndValue → List NameAndValue
plain_attributes attributes = filter is_attribute attributes

abbrev pub piece_by_kind : TagKind → List ℕ → List NameAndValue → Piece
piece_by_kind StartTag name attributes = StartTagPiece name attributes
piece_by_kind EndTag name attributes = EndTagPiece name

-- a tag with the attributes that can be written, if it can be written itself
unfoldable pub written_of_tag : TagOf → List Piece
written_of_tag tag = where_plain (piece_by_kind tag.kind (chars tag.name) (plain_attributes (map attribute_chars tag.attributes)))

-- a run of text, if there is one
unfoldable pub written_of_run : List ℕ → List Piece
written_of_run [] = []
written_of_run (byte ∷ run) = where_plain (TextPiece (chars (byte ∷ run)))

-- a page of plain pieces is read back: by these rules, from this start, by a sink that replies so
pub record IsReadBackPlain {S H : Type 0} (rules : Rules) (K : Start) (reply : S → Told → ℕ → Reply H) (pieces : List Piece) : Type 0 where
  pub table : IsTable rules.references
  pub starts : IsOpen K
  pub plain : list_all is_plain pieces ≡ true
  pub keeps : KeepsOn {S = S} reply pieces
