-- Doctypes as they are written, in characters: "Serializing HTML fragments", with the identifiers and the quirks of a doctype, too.
use Rattle.std.specs.Prelude.{ℕ, Bool, true, false, not, List, [], ◌∷◌, ◌++◌, ◌==◌, ◌&&◌, ◌||◌, chars, codes, Option, None, Some, if◌then◌else◌}
use Rattle.std.specs.List.{list_all}
use Rattle.std.specs.Option.{is_none}
use Rattle.html5ever_interface.specs.Token.{DoctypeOf}
use Rattle.html5reading.specs.Characters.{null, carriage_return, quotation_mark, apostrophe, greater_than, is_white_space}
use Rattle.html5write.specs.Pieces.{is_capital}

-- ---- the text that is written

-- whether this character stands nowhere in the text
abbrev pub is_without : ℕ → List ℕ → Bool
is_without mark text = list_all (λ c. not (c == mark)) text

-- the quote round an identifier: a single one where a double one stands in it
abbrev pub quote_for : List ℕ → ℕ
quote_for identifier = if is_without quotation_mark identifier then quotation_mark else apostrophe

-- an identifier in its quotes, or without its second one, so that the `>` cuts it off
abbrev pub identifier_text : Bool → List ℕ → List ℕ
identifier_text is_closed identifier =
    quote_for identifier ∷ chars identifier ++ (if is_closed then quote_for identifier ∷ [] else [])

-- the text after the name, by the public and the system identifier. Quirks are brought by a keyword without an identifier, or
-- by the last identifier, which is cut off.
abbrev pub identifiers_text : Bool → Option (List ℕ) → Option (List ℕ) → List ℕ
identifiers_text quirks None None = if quirks then codes " PUBLIC" else []
identifiers_text quirks (Some public) None = codes " PUBLIC " ++ identifier_text (not quirks) public
identifiers_text quirks None (Some system) = codes " SYSTEM " ++ identifier_text (not quirks) system
identifiers_text quirks (Some public) (Some system) =
    codes " PUBLIC " ++ (identifier_text true public ++ (codes " " ++ identifier_text (not quirks) system))

-- the text after `<!DOCTYPE`: a space, the name, and the identifiers; or nothing, which brings quirks
abbrev pub name_text : DoctypeOf → Option (List ℕ) → List ℕ
name_text d None = []
name_text d (Some name) = codes " " ++ (chars name ++ identifiers_text d.force_quirks d.public_id d.system_id)

abbrev pub doctype_text : DoctypeOf → List ℕ
doctype_text d = codes "<!DOCTYPE" ++ (name_text d d.name ++ codes ">")

-- ---- which doctypes can be written, by the bytes of their names and identifiers

-- whether a character can stand in markup that the first `>` ends: a NUL would come back as U+FFFD, and a CR as a line feed
unfoldable pub is_markup_character : ℕ → Bool
is_markup_character c = not ((c == greater_than) || (c == null) || (c == carriage_return))

-- "DOCTYPE name state": whether a character can stand in the name of a doctype
unfoldable pub is_name_character : ℕ → Bool
is_name_character c = is_markup_character c && not (is_white_space c || is_capital c)

unfoldable pub is_name : List ℕ → Bool
is_name [] = false
is_name (c ∷ name) = list_all is_name_character (c ∷ name)

-- "DOCTYPE public identifier (double-quoted) state" and its three others: an identifier doesn't have both kinds of quotes
unfoldable pub is_identifier : List ℕ → Bool
is_identifier identifier =
    list_all is_markup_character identifier && (is_without quotation_mark identifier || is_without apostrophe identifier)

abbrev pub is_identifier_or_none : Option (List ℕ) → Bool
is_identifier_or_none None = true
is_identifier_or_none (Some identifier) = is_identifier identifier

-- "Before DOCTYPE name state": a doctype without a name has quirks, and nothing else
abbrev pub is_doctype_with : DoctypeOf → Option (List ℕ) → Bool
is_doctype_with d None = d.force_quirks && (is_none d.public_id && is_none d.system_id)
is_doctype_with d (Some name) = is_name name && (is_identifier_or_none d.public_id && is_identifier_or_none d.system_id)

-- whether a doctype can be written
abbrev pub is_doctype : DoctypeOf → Bool
is_doctype d = is_doctype_with d d.name
