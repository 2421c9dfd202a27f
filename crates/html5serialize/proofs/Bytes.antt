-- The bytes that are written are the UTF-8 of the characters.
use Rattle.std.proofs.Common.{◌≡◌, ℕ, ◌+◌, ◌<◌, length, get_or, drop, map, List, [], ◌∷◌, ◌++◌, ap, sym, ◌∙◌, subst}
use Rattle.std.specs.Prelude.{codes, encode_utf8, encode_utf8_all}
use Rattle.std.specs.Str.{IsUtf8, chars}
use Rattle.std.proofs.lemmas.List.{append-nil, append_assoc, at_drop_more}
use Rattle.std.proofs.lemmas.Str.{encodes-append, encodes-chars}
use Rattle.html5ever_interface.specs.Token.{Told, told_by}
use Rattle.html5ever_interface.specs.declared.interface.token.Token.{Token}
use Rattle.html5serialize.specs.Page.{page_text_from, place_after, text_at}
use Rattle.html5serialize.specs.RawTexts.{end_text}
use Rattle.html5serialize.specs.Tags.{attribute_text_by, attributes_text_by}
use Rattle.html5serialize.specs.declared.escaping.Escapes.{Escapes}
use Rattle.html5serialize.specs.Tokens.{instruction_text}
use Rattle.html5serialize.specs.declared.page_writer.PageOptions.{PageOptions}
use Rattle.html5serialize.specs.declared.page_writer.Place.{Place}
use Rattle.markup5ever.specs.Names.{attribute_of}
use Rattle.markup5ever.specs.declared.interface.Attribute.{Attribute}

abbrev pub bytes : List ℕ → List ℕ
bytes text = encode_utf8_all text

bytes-three : (X Y Z : List ℕ) → bytes (X ++ (Y ++ Z)) ≡ bytes X ++ (bytes Y ++ bytes Z)
bytes-three X Y Z = encodes-append X (Y ++ Z) ∙ ap (λ l. bytes X ++ l) (encodes-append Y Z)

bytes-four : (X Y Z W : List ℕ) → bytes (X ++ (Y ++ (Z ++ W))) ≡ bytes X ++ (bytes Y ++ (bytes Z ++ bytes W))
bytes-four X Y Z W = encodes-append X (Y ++ (Z ++ W)) ∙ ap (λ l. bytes X ++ l) (bytes-three Y Z W)

-- one after another, from the text before them
appended-three : (B X Y Z : List ℕ) → ((B ++ X) ++ Y) ++ Z ≡ B ++ (X ++ (Y ++ Z))
appended-three B X Y Z = append_assoc (B ++ X) Y Z ∙ append_assoc B X (Y ++ Z)

appended-four : (B X Y Z W : List ℕ) → (((B ++ X) ++ Y) ++ Z) ++ W ≡ B ++ (X ++ (Y ++ (Z ++ W)))
appended-four B X Y Z W = append_assoc ((B ++ X) ++ Y) Z W ∙ appended-three B X Y (Z ++ W)

-- an opening, a name in UTF-8, the text after it, and an end
pub bytes-tag : (before opening name rest closing : List ℕ) → IsUtf8 name
    → (((before ++ bytes opening) ++ name) ++ bytes rest) ++ bytes closing ≡ before ++ bytes (opening ++ (chars name ++ (rest ++ closing)))
bytes-tag before opening name rest closing utf8 =
    appended-four before (bytes opening) name (bytes rest) (bytes closing)
    ∙ ap (λ l. before ++ l)
    (sym (bytes-four opening (chars name) rest closing
    ∙ ap (λ l. bytes opening ++ (l ++ (bytes rest ++ bytes closing))) (encodes-chars name utf8)))

-- a name in UTF-8 and a serialized value
pub bytes-attribute : (before name value : List ℕ) → IsUtf8 name
    → ((((before ++ codes " ") ++ name) ++ codes "=\"") ++ bytes value) ++ codes "\""
    ≡ before ++ bytes (codes " " ++ (chars name ++ (codes "=\"" ++ (value ++ codes "\""))))
unfolding lib.Utf8.encode
bytes-attribute before name value utf8 =
    append_assoc (((before ++ codes " ") ++ name) ++ codes "=\"") (bytes value) (codes "\"")
    ∙ appended-four before (codes " ") name (codes "=\"") (bytes value ++ codes "\"")
    ∙ ap (λ l. before ++ l)
    (sym (bytes-three (codes " ") (chars name) (codes "=\"" ++ (value ++ codes "\""))
    ∙ ap (λ l. codes " " ++ (bytes (chars name) ++ l)) (bytes-three (codes "=\"") value (codes "\""))
    ∙ ap (λ l. codes " " ++ (l ++ (codes "=\"" ++ (bytes value ++ codes "\"")))) (encodes-chars name utf8)))

-- attributes from a place on
pub bytes-attributes : {Z : Type 0} (escapes : Escapes) (i : ℕ) (attributes : List (Attribute Z)) (d : Attribute Z) → i < length attributes
    → bytes (attributes_text_by escapes (map attribute_of (drop i attributes)))
    ≡ bytes (attribute_text_by escapes (attribute_of (get_or attributes i d))) ++ bytes (attributes_text_by escapes (map attribute_of (drop (i + 1) attributes)))
bytes-attributes escapes i attributes d within =
    at_drop_more (λ l. bytes (attributes_text_by escapes (map attribute_of l))) attributes i d within
    ∙ encodes-append (attribute_text_by escapes (attribute_of (get_or attributes i d))) (attributes_text_by escapes (map attribute_of (drop (i + 1) attributes)))

-- what the token of a page at a place appends, with the rest of that page after it
pub bytes-page : {Z : Type 0} (options : PageOptions) (before after : List ℕ) (here next : Place) (i : ℕ) (tokens : List (Token Z)) (token d : Token Z) → i < length tokens → token ≡ get_or tokens i d
    → after ≡ before ++ bytes (text_at options.escapes here (told_by token)) → next ≡ place_after options.scripting here (told_by token)
    → after ++ bytes (page_text_from options next (map told_by (drop (i + 1) tokens))) ≡ before ++ bytes (page_text_from options here (map told_by (drop i tokens)))
unfolding page_text_from
bytes-page {Z = Z} options before after here next i tokens token d within is appended leads =
    let rest : List Told = map told_by (drop (i + 1) tokens) in
    let told : Token Z → Told = λ t. told_by t in
    ap (λ l. l ++ bytes (page_text_from options next rest)) appended
    ∙ ap (λ p. (before ++ bytes (text_at options.escapes here (told token))) ++ bytes (page_text_from options p rest)) leads
    ∙ append_assoc before (bytes (text_at options.escapes here (told token))) (bytes (page_text_from options (place_after options.scripting here (told token)) rest))
    ∙ ap (λ l. before ++ l) (sym (encodes-append (text_at options.escapes here (told token)) (page_text_from options (place_after options.scripting here (told token)) rest)))
    ∙ ap (λ t. before ++ bytes (text_at options.escapes here (told t) ++ page_text_from options (place_after options.scripting here (told t)) rest)) is
    ∙ ap (λ l. before ++ l) (sym (at_drop_more (λ l. bytes (page_text_from options here (map told_by l))) tokens i d within))

-- an opening, a text in UTF-8, and an end
bytes-marked : (before opening text closing : List ℕ) → IsUtf8 text
    → ((before ++ bytes opening) ++ text) ++ bytes closing ≡ before ++ bytes (opening ++ (chars text ++ closing))
bytes-marked before opening text closing utf8 =
    appended-three before (bytes opening) text (bytes closing)
    ∙ ap (λ l. before ++ l) (sym (bytes-three opening (chars text) closing ∙ ap (λ l. bytes opening ++ (l ++ bytes closing)) (encodes-chars text utf8)))

pub bytes-instruction : (before content : List ℕ) → IsUtf8 content → ((before ++ codes "<?") ++ content) ++ codes ">" ≡ before ++ bytes (instruction_text (chars content))
unfolding lib.Utf8.encode
bytes-instruction before content utf8 = bytes-marked before (codes "<?") content (codes ">") utf8

pub bytes-end : (before name : List ℕ) → IsUtf8 name → ((before ++ codes "</") ++ name) ++ codes ">" ≡ before ++ bytes (end_text (chars name))
unfolding lib.Utf8.encode
bytes-end before name utf8 = bytes-marked before (codes "</") name (codes ">") utf8

-- a text, another and a third
pub bytes-element : (before front text end : List ℕ) → ((before ++ bytes front) ++ bytes text) ++ bytes end ≡ before ++ bytes (front ++ (text ++ end))
bytes-element before front text end = appended-three before (bytes front) (bytes text) (bytes end) ∙ ap (λ l. before ++ l) (sym (bytes-three front text end))

-- ---- doctypes

-- an identifier in its quotes
pub bytes-closed : (before identifier : List ℕ) (quote : ℕ) → IsUtf8 identifier
    → ((before ++ encode_utf8 quote) ++ identifier) ++ encode_utf8 quote ≡ before ++ bytes (quote ∷ chars identifier ++ quote ∷ [])
bytes-closed before identifier quote utf8 =
    subst (λ q. ((before ++ q) ++ identifier) ++ q ≡ before ++ bytes (quote ∷ chars identifier ++ quote ∷ [])) (append-nil (encode_utf8 quote))
    (bytes-marked before (quote ∷ []) identifier (quote ∷ []) utf8)

-- and without the second one
pub bytes-cut : (before identifier : List ℕ) (quote : ℕ) → IsUtf8 identifier
    → (before ++ encode_utf8 quote) ++ identifier ≡ before ++ bytes (quote ∷ chars identifier ++ [])
bytes-cut before identifier quote utf8 =
    sym (append-nil ((before ++ encode_utf8 quote) ++ identifier))
    ∙ subst (λ q. ((before ++ q) ++ identifier) ++ [] ≡ before ++ bytes (quote ∷ chars identifier ++ [])) (append-nil (encode_utf8 quote))
    (bytes-marked before (quote ∷ []) identifier [] utf8)

-- two texts, one after the other
bytes-two : (before X Y : List ℕ) → (before ++ bytes X) ++ bytes Y ≡ before ++ bytes (X ++ Y)
bytes-two before X Y = append_assoc before (bytes X) (bytes Y) ∙ ap (λ l. before ++ l) (sym (encodes-append X Y))

-- a public identifier and that of the system
pub bytes-identifiers : (before X Y : List ℕ)
    → (((before ++ codes " PUBLIC ") ++ bytes X) ++ codes " ") ++ bytes Y ≡ before ++ bytes (codes " PUBLIC " ++ (X ++ (codes " " ++ Y)))
unfolding lib.Utf8.encode
bytes-identifiers before X Y =
    appended-four before (codes " PUBLIC ") (bytes X) (codes " ") (bytes Y)
    ∙ ap (λ l. before ++ l) (sym (bytes-four (codes " PUBLIC ") X (codes " ") Y))

-- a space, a name in UTF-8, and the text after it
pub bytes-name : (before name rest : List ℕ) → IsUtf8 name → ((before ++ codes " ") ++ name) ++ bytes rest ≡ before ++ bytes (codes " " ++ (chars name ++ rest))
unfolding lib.Utf8.encode
bytes-name before name rest utf8 = bytes-marked before (codes " ") name rest utf8

pub bytes-doctype : (before X : List ℕ) → ((before ++ codes "<!DOCTYPE") ++ bytes X) ++ codes ">" ≡ before ++ bytes (codes "<!DOCTYPE" ++ (X ++ codes ">"))
unfolding lib.Utf8.encode
bytes-doctype before X =
    appended-three before (codes "<!DOCTYPE") (bytes X) (codes ">")
    ∙ ap (λ l. before ++ l) (sym (bytes-three (codes "<!DOCTYPE") X (codes ">")))
