-- A page that is cleaned: the kept part of each run of text and of the token after it, and the output for that.
use Rattle.std.specs.Prelude.{ℕ, Bool, not, List, [], ◌∷◌, ◌++◌, ◌&&◌, ◌||◌, ◌==◌, filter, map, chars, codes, encode_utf8_all, if◌then◌else◌}
use Rattle.std.specs.List.{list_any}
use Rattle.std.specs.Str.{bytes_eq}
use Rattle.html5ever_interface.specs.Token.{Told, TagOf}
use Rattle.html5ever_interface.specs.Token.Told.{Tag}
use Rattle.html5ever_interface.specs.declared.interface.token.TagKind.{TagKind}
use Rattle.html5ever_interface.specs.declared.interface.token.TagKind.TheVariants.{StartTag, EndTag}
use Rattle.markup5ever.specs.Names.{AttributeOf}
use Rattle.html5policy.specs.Policy.{PolicyOf, hides, is_allowed, is_rel_of_link, refuses_address}
use Rattle.html5write.specs.Pieces.{NameAndValue, Piece, can_write}
use Rattle.html5write.specs.Pieces.Piece.{TextPiece, StartTagPiece, EndTagPiece}
use Rattle.html5elements.specs.Elements.{is_void}
use Rattle.html5elements.specs.Hidden.{Hidden, has_content, hidden_after, nothing_hidden}
use Rattle.html5cleaner.specs.Allowed.{is_kept_attribute}
use Rattle.html5cleaner.specs.Balance.{is_end, open_by, written_by}
use Rattle.html5cleaner.specs.Shape.{shape_of}

-- ---- what is hidden

-- whether a tag begins an element that is dropped with its content
abbrev pub opens : PolicyOf → TagOf → Bool
opens policy tag = hides policy tag.name && has_content tag

-- ---- kept parts

abbrev pub attribute_chars : AttributeOf → NameAndValue
attribute_chars a = record { name = chars a.name.local; value = chars a.value }

-- the `rel` that the policy writes into links
abbrev pub rel_attribute : PolicyOf → NameAndValue
rel_attribute policy = record { name = codes "rel"; value = chars policy.rel }

abbrev pub is_href : NameAndValue → Bool
is_href a = bytes_eq (encode_utf8_all a.name) (codes "href")

-- whether an element of this name with these attributes is a link into which the policy writes its `rel`
abbrev pub adds_rel : PolicyOf → List ℕ → List NameAndValue → Bool
adds_rel policy element attributes = is_rel_of_link policy (encode_utf8_all element) (codes "rel") && list_any is_href attributes

abbrev pub with_rel : PolicyOf → List ℕ → List NameAndValue → List NameAndValue
with_rel policy element attributes =
    if adds_rel policy element attributes then attributes ++ rel_attribute policy ∷ [] else attributes

-- the attributes of an element of this name that are kept, and what the policy writes after them
unfoldable pub kept_attributes : PolicyOf → List ℕ → List NameAndValue → List NameAndValue
kept_attributes policy element attributes = with_rel policy element (filter (is_kept_attribute policy element) attributes)

-- an end tag of `br` is read as its start tag, without attributes
abbrev pub is_break : List ℕ → Bool
is_break name = bytes_eq name (codes "br")

abbrev pub end_piece : List ℕ → Piece
end_piece name = if is_break (encode_utf8_all name) then StartTagPiece name [] else EndTagPiece name

abbrev pub piece_by_kind : TagKind → List ℕ → List NameAndValue → Piece
piece_by_kind StartTag name attributes = StartTagPiece name attributes
piece_by_kind EndTag name attributes = end_piece name

-- whether an end tag of this name is read
abbrev pub has_end : List ℕ → Bool
has_end name = is_break name || not (is_void name)

-- whether a tag of this kind and name is kept: an allowed element, and no end tag of an element that has none
abbrev pub allows_by_kind : PolicyOf → TagKind → List ℕ → Bool
allows_by_kind policy StartTag name = is_allowed policy name
allows_by_kind policy EndTag name = is_allowed policy name && has_end name

-- a piece, if it can be written
abbrev pub where_writable : Piece → List Piece
where_writable piece = if can_write piece then piece ∷ [] else []

-- the kept part of a tag with these attributes
unfoldable pub kept_of_parts : PolicyOf → TagKind → List ℕ → List NameAndValue → List Piece
kept_of_parts policy kind name attributes =
    if allows_by_kind policy kind (encode_utf8_all name) then where_writable (piece_by_kind kind name attributes) else []

-- whether an attribute is the `src` of an image, and its address is refused
abbrev pub is_refused_source : PolicyOf → AttributeOf → Bool
is_refused_source policy a = bytes_eq a.name.local (codes "src") && refuses_address policy (codes "img") (codes "src") a.value

-- whether it is a tag of an image with such an attribute
abbrev pub is_lost_image : PolicyOf → TagOf → Bool
is_lost_image policy tag = bytes_eq tag.name (codes "img") && list_any (is_refused_source policy) tag.attributes

-- a tag of an allowed element, without the attributes that are not kept. An image whose address is refused is dropped
unfoldable pub kept_of_tag : PolicyOf → TagOf → List Piece
kept_of_tag policy tag =
    if is_lost_image policy tag then []
    else kept_of_parts policy tag.kind (chars tag.name) (kept_attributes policy (chars tag.name) (map attribute_chars tag.attributes))

abbrev pub kept_of_token : PolicyOf → Told → List Piece
kept_of_token policy (Tag tag) = kept_of_tag policy tag
kept_of_token policy other = []

-- a run, if there is one
unfoldable pub kept_of_run : List ℕ → List Piece
kept_of_run [] = []
kept_of_run (byte ∷ run) = where_writable (TextPiece (chars (byte ∷ run)))

-- the kept part of a run of text and the token after it, when nothing is hidden
abbrev pub kept : PolicyOf → List ℕ → Told → List Piece
kept policy run told = kept_of_run run ++ kept_of_token policy told

abbrev pub kept_where : PolicyOf → ℕ → List ℕ → Told → List Piece
kept_where policy depth run told = if depth == 0 then kept policy run told else []

-- ---- the page

-- the policy, the pieces that were written, what is hidden, and the elements that are open, by a policy that balances or makes a tree
pub record Cleaned : Type 0 where
  pub policy : PolicyOf
  pub pieces : List Piece
  pub hidden : Hidden
  pub opened : List (List ℕ)

-- where a page begins
abbrev pub at_start : PolicyOf → Cleaned
at_start policy = record { policy = policy; pieces = []; hidden = nothing_hidden; opened = [] }

-- a run of text and the token after it
abbrev pub clean_step : Cleaned → List ℕ → Told → ℕ → Cleaned
clean_step s run told line = record {
  policy = s.policy;
  pieces = s.pieces ++ written_by (shape_of s.policy) (is_end told) s.opened (kept_where s.policy s.hidden.depth run told);
  hidden = hidden_after (opens s.policy) s.hidden told;
  opened = open_by (shape_of s.policy) (is_end told) s.opened (kept_where s.policy s.hidden.depth run told);
}
