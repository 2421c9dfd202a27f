-- The bytes that are written are the UTF-8 of the characters.
use Rattle.std.proofs.Common.{◌≡◌, ℕ, ◌+◌, ◌<◌, length, get_or, drop, map, List, [], ◌∷◌, ◌++◌, Some, None, ap, sym, ◌∙◌}
use Rattle.std.specs.Prelude.{flat_map, codes, encode_utf8, encode_utf8_all}
use Rattle.std.specs.Str.{IsUtf8, chars}
use Rattle.std.specs.Option.{is_none}
use Rattle.std.proofs.lemmas.Bool.{true≢false}
use Rattle.std.proofs.lemmas.List.{append-nil, append_assoc, at_drop_more}
use Rattle.std.proofs.lemmas.Str.{encodes-append, encodes-chars}
use Rattle.html5write.specs.Escaped.{reference_of, reference_or, escaped, escaped_text}
use Rattle.html5write.specs.declared.piece.Attribute.{Attribute}
use Rattle.html5write.specs.Pieces.{NameAndValue, attribute_text, piece_text}
use Rattle.html5write.specs.Pieces.Piece.{StartTagPiece, EndTagPiece, CommentPiece}
use Rattle.html5write.specs.Writing.{attribute_of}
use Rattle.html5write.proofs.Characters.{IsPlain, each_character}

abbrev bytes : List ℕ → List ℕ
bytes text = encode_utf8_all text

three : (X Y Z : List ℕ) → bytes (X ++ (Y ++ Z)) ≡ bytes X ++ (bytes Y ++ bytes Z)
three X Y Z = encodes-append X (Y ++ Z) ∙ ap (λ l. bytes X ++ l) (encodes-append Y Z)

four : (X Y Z W : List ℕ) → bytes (X ++ (Y ++ (Z ++ W))) ≡ bytes X ++ (bytes Y ++ (bytes Z ++ bytes W))
four X Y Z W = encodes-append X (Y ++ (Z ++ W)) ∙ ap (λ l. bytes X ++ l) (three Y Z W)

-- one after another, from the text before them
appended-two : (B X Y : List ℕ) → (B ++ X) ++ Y ≡ B ++ (X ++ Y)
appended-two B X Y = append_assoc B X Y

appended-three : (B X Y Z : List ℕ) → ((B ++ X) ++ Y) ++ Z ≡ B ++ (X ++ (Y ++ Z))
appended-three B X Y Z = append_assoc (B ++ X) Y Z ∙ append_assoc B X (Y ++ Z)

appended-four : (B X Y Z W : List ℕ) → (((B ++ X) ++ Y) ++ Z) ++ W ≡ B ++ (X ++ (Y ++ (Z ++ W)))
appended-four B X Y Z W = append_assoc ((B ++ X) ++ Y) Z W ∙ appended-three B X Y (Z ++ W)

-- the bytes of an attribute are those that were handed in, escaped
pub bytes-attribute : (before name value : List ℕ) → IsUtf8 name
    → ((((before ++ codes " ") ++ name) ++ codes "=\"") ++ bytes (escaped_text value)) ++ codes "\""
    ≡ before ++ bytes (attribute_text (record { name = chars name; value = value }))
unfolding lib.Utf8.encode
bytes-attribute before name value utf8 =
    append_assoc (((before ++ codes " ") ++ name) ++ codes "=\"") (bytes (escaped_text value)) (codes "\"")
    ∙ appended-four before (codes " ") name (codes "=\"") (bytes (escaped_text value) ++ codes "\"")
    ∙ ap (λ l. before ++ l)
    (sym (three (codes " ") (chars name) (codes "=\"" ++ (escaped_text value ++ codes "\""))
    ∙ ap (λ l. codes " " ++ (bytes (chars name) ++ l)) (three (codes "=\"") (escaped_text value) (codes "\""))
    ∙ ap (λ l. codes " " ++ (l ++ (codes "=\"" ++ (bytes (escaped_text value) ++ codes "\"")))) (encodes-chars name utf8)))

pub bytes-start_tag : (before name : List ℕ) (attributes : List NameAndValue) → IsUtf8 name
    → (((before ++ codes "<") ++ name) ++ bytes (flat_map attribute_text attributes)) ++ codes ">"
    ≡ before ++ bytes (piece_text (StartTagPiece (chars name) attributes))
unfolding lib.Utf8.encode
bytes-start_tag before name attributes utf8 =
    appended-four before (codes "<") name (bytes (flat_map attribute_text attributes)) (codes ">")
    ∙ ap (λ l. before ++ l)
    (sym (four (codes "<") (chars name) (flat_map attribute_text attributes) (codes ">")
    ∙ ap (λ l. codes "<" ++ (l ++ (bytes (flat_map attribute_text attributes) ++ codes ">"))) (encodes-chars name utf8)))

pub bytes-end_tag : (before name : List ℕ) → IsUtf8 name → ((before ++ codes "</") ++ name) ++ codes ">" ≡ before ++ bytes (piece_text (EndTagPiece (chars name)))
unfolding lib.Utf8.encode
bytes-end_tag before name utf8 =
    appended-three before (codes "</") name (codes ">")
    ∙ ap (λ l. before ++ l) (sym (three (codes "</") (chars name) (codes ">") ∙ ap (λ l. codes "</" ++ (l ++ codes ">")) (encodes-chars name utf8)))

pub bytes-comment : (before text : List ℕ) → IsUtf8 text → ((before ++ codes "<!--") ++ text) ++ codes "-->" ≡ before ++ bytes (piece_text (CommentPiece (chars text)))
unfolding lib.Utf8.encode
bytes-comment before text utf8 =
    appended-three before (codes "<!--") text (codes "-->")
    ∙ ap (λ l. before ++ l) (sym (three (codes "<!--") (chars text) (codes "-->") ∙ ap (λ l. codes "<!--" ++ (l ++ codes "-->")) (encodes-chars text utf8)))

-- a reference has the bytes of what is written for its character
abbrev HasBytes : ℕ → Type 0
HasBytes c = (reference : List ℕ) → reference_of c ≡ Some reference → reference ≡ bytes (escaped c)

plain-bytes : (c : ℕ) → IsPlain c → HasBytes c
plain-bytes c p reference is = absurd (true≢false (ap is_none (sym p.no_reference ∙ is)))

-- the bytes of a character are those of what is written for it
pub bytes-reference : (c : ℕ) → HasBytes c
unfolding escaped reference_of lib.Utf8.encode
bytes-reference c =
    each_character HasBytes
    (λ r is. sym (ap (λ o. reference_or o []) is))
    (λ r is. sym (ap (λ o. reference_or o []) is))
    (λ r is. sym (ap (λ o. reference_or o []) is))
    (λ r is. sym (ap (λ o. reference_or o []) is))
    (λ r is. sym (ap (λ o. reference_or o []) is))
    (λ r is. sym (ap (λ o. reference_or o []) is))
    plain-bytes c

-- and a character that stands for itself has its own
pub bytes-itself : (c : ℕ) → reference_of c ≡ None → encode_utf8 c ≡ bytes (escaped c)
unfolding escaped
bytes-itself c none = rw none (sym (append-nil (encode_utf8 c)))

-- attributes from a place on
pub bytes-attributes : (i : ℕ) (attributes : List Attribute) (d : Attribute) → i < length attributes
    → bytes (flat_map attribute_text (map attribute_of (drop i attributes)))
    ≡ bytes (attribute_text (attribute_of (get_or attributes i d))) ++ bytes (flat_map attribute_text (map attribute_of (drop (i + 1) attributes)))
bytes-attributes i attributes d within =
    at_drop_more (λ l. bytes (flat_map attribute_text (map attribute_of l))) attributes i d within
    ∙ encodes-append (attribute_text (attribute_of (get_or attributes i d))) (flat_map attribute_text (map attribute_of (drop (i + 1) attributes)))

-- a text from its first character on
pub bytes-escaped : (c : ℕ) (text : List ℕ) → bytes (escaped_text (c ∷ text)) ≡ bytes (escaped c) ++ bytes (escaped_text text)
bytes-escaped c text = encodes-append (escaped c) (escaped_text text)
