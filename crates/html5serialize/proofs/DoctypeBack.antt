-- A serialized doctype is a doctype of the grammar, and that one tells it.
use Rattle.std.proofs.Common.{◌≡◌, ℕ, ◌≤◌, Bool, true, false, List, [], ◌∷◌, ◌++◌, Option, None, Some, refl, ap, sym, ◌∙◌, arith}
use Rattle.std.specs.Prelude.{◌==◌, ◌||◌, ◌&&◌, not, chars, codes, flat_map, encode_utf8, encode_utf8_all, if◌then◌else◌}
use Rattle.std.specs.Char.{to_ascii_lowercase}
use Rattle.std.specs.List.{list_all}
use Rattle.std.specs.Option.{is_none}
use Rattle.std.specs.Str.{IsUtf8}
use Rattle.std.proofs.lemmas.Bool.{and_parts, not-true, false≢true}
use Rattle.std.proofs.lemmas.Bool.Decides.{nat_tests}
use Rattle.std.proofs.lemmas.List.{append_assoc, append-nil}
use Rattle.std.proofs.lemmas.Str.{encodes-chars}
use Rattle.html5ever_interface.specs.Token.{DoctypeOf}
use Rattle.html5reading.specs.Characters.{null, carriage_return, quotation_mark, apostrophe, greater_than, is_white_space, name_bytes, value_bytes, shown}
use Rattle.html5reading.specs.Doctype.{quote_mark, in_identifier, in_doctype_name}
use Rattle.html5reading.specs.Start.{Quotes}
use Rattle.html5reading.specs.Start.Quotes.{DoubleQuotes, SingleQuotes}
use Rattle.html5grammar.specs.Doctype as grammar
use Rattle.html5grammar.specs.Doctype.{Identifier, RestAfterName, Content, WrittenDoctype, written, is_written, after_name_text, content_text, can_stand_after, told_after_name}
use Rattle.html5grammar.specs.Doctype.Content.{NoName, Named}
use Rattle.html5grammar.specs.Doctype.Identifier.{Missing, Unclosed, Closed}
use Rattle.html5grammar.specs.Doctype.RestAfterName.{NoKeyword, PublicKeyword, SystemKeyword}
use Rattle.html5grammar.proofs.Tag.Values.{both-none}
use Rattle.html5write.specs.Pieces as pieces
use Rattle.html5write.specs.Pieces.{is_capital}
use Rattle.html5write.specs.Told.{has_no_return}
use Rattle.html5write.proofs.Values.{no_return-append, shows-value}
use Rattle.html5serialize.specs.Doctypes.{is_without, quote_for, identifier_text, identifiers_text, name_text, doctype_text, is_markup_character, is_name_character, is_name, is_identifier, is_identifier_or_none, is_doctype_with, is_doctype}
use Rattle.html5serialize.specs.ReadBack.{IsTextOrNone}
use Rattle.html5serialize.proofs.MarkupTokens.{told_content}
use Rattle.html5serialize.proofs.Utf8Bytes.{all-chars, all-from_encodes}

-- ---- characters of markup

pub record IsMarkup (c : ℕ) : Type 0 where
  pub no_greater_than : (c == greater_than) ≡ false
  pub no_null : (c == null) ≡ false
  pub no_return : (c == carriage_return) ≡ false

pub markup-parts : (c : ℕ) → is_markup_character c ≡ true → IsMarkup c
unfolding is_markup_character
markup-parts c h =
    let a = both-none ((c == greater_than) || (c == null)) (c == carriage_return) (not-true _ h) in
    let b = both-none (c == greater_than) (c == null) a.0 in
    record { no_greater_than = b.0; no_null = b.1; no_return = a.1 }

pub high-markup : (b : ℕ) → 128 ≤ b → is_markup_character b ≡ true
unfolding is_markup_character
high-markup b h = grind (arith, nat_tests)

pub no_null-markup : (text : List ℕ) → list_all is_markup_character text ≡ true → pieces.has_no_null text ≡ true
no_null-markup [] h = refl
no_null-markup (c ∷ text) h =
    let p = and_parts (is_markup_character c) (list_all is_markup_character text) h in
    rw ((markup-parts c p.0).no_null) (no_null-markup text p.1)

pub no_return-markup : (text : List ℕ) → list_all is_markup_character text ≡ true → has_no_return text ≡ true
no_return-markup [] h = refl
no_return-markup (c ∷ text) h =
    let p = and_parts (is_markup_character c) (list_all is_markup_character text) h in
    rw ((markup-parts c p.0).no_return) (no_return-markup text p.1)

-- ---- names

pub high-name : (b : ℕ) → 128 ≤ b → is_name_character b ≡ true
unfolding is_name_character is_markup_character is_white_space
high-name b h = grind (arith, nat_tests)

lower-same : (c : ℕ) → is_capital c ≡ false → to_ascii_lowercase c ≡ c
lower-same c h = grind (arith, nat_tests)

record IsNameCharacter (c : ℕ) : Type 0 where
  markup : is_markup_character c ≡ true
  within : in_doctype_name c ≡ true
  shows : name_bytes c ≡ encode_utf8 c

name-parts : (c : ℕ) → is_name_character c ≡ true → IsNameCharacter c
unfolding is_name_character in_doctype_name name_bytes shown
name-parts c h =
    let p = and_parts (is_markup_character c) (not (is_white_space c || is_capital c)) h in
    let m : IsMarkup c = markup-parts c p.0 in
    let n = both-none (is_white_space c) (is_capital c) (not-true _ p.1) in
    record {
      markup = p.0;
      within = rw (n.0, m.no_greater_than) refl;
      shows = rw m.no_null (ap encode_utf8 (lower-same c n.1));
    }

markup-name : (name : List ℕ) → list_all is_name_character name ≡ true → list_all is_markup_character name ≡ true
markup-name [] h = refl
markup-name (c ∷ name) h =
    let p = and_parts (is_name_character c) (list_all is_name_character name) h in
    rw ((name-parts c p.0).markup) (markup-name name p.1)

within-name : (name : List ℕ) → list_all is_name_character name ≡ true → list_all in_doctype_name name ≡ true
within-name [] h = refl
within-name (c ∷ name) h =
    let p = and_parts (is_name_character c) (list_all is_name_character name) h in
    rw ((name-parts c p.0).within) (within-name name p.1)

shows-name : (name : List ℕ) → list_all is_name_character name ≡ true → flat_map name_bytes name ≡ encode_utf8_all name
shows-name [] h = refl
shows-name (c ∷ name) h =
    let p = and_parts (is_name_character c) (list_all is_name_character name) h in
    rw ((name-parts c p.0).shows) (ap (λ l. encode_utf8 c ++ l) (shows-name name p.1))

all-name : (name : List ℕ) → is_name name ≡ true → list_all is_name_character name ≡ true
unfolding is_name
all-name [] h = refl
all-name (c ∷ name) h = h

name-encodes : (cs : List ℕ) → is_name (encode_utf8_all cs) ≡ true → is_name cs ≡ true
unfolding is_name
name-encodes [] h = h
name-encodes (c ∷ cs) h = all-from_encodes is_name_character high-name (c ∷ cs) (all-name (encode_utf8_all (c ∷ cs)) h)

name-chars : (name : List ℕ) → IsUtf8 name → is_name name ≡ true → is_name (chars name) ≡ true
name-chars name utf8 h = name-encodes (chars name) (ap is_name (encodes-chars name utf8) ∙ h)

-- ---- identifiers

abbrev quotes_for : List ℕ → Quotes
quotes_for identifier = if is_without quotation_mark identifier then DoubleQuotes else SingleQuotes

mark-quotes : (identifier : List ℕ) → quote_mark (quotes_for identifier) ≡ quote_for identifier
mark-quotes identifier =
    elim (is_without quotation_mark identifier) as (λ b. quote_mark (if b then DoubleQuotes else SingleQuotes) ≡ (if b then quotation_mark else apostrophe)) [
      | true ↦ refl
      | false ↦ refl
    ]

-- an identifier that is read back
record IsIdentifierBack (identifier : List ℕ) : Type 0 where
  within : list_all (in_identifier (quotes_for identifier)) (chars identifier) ≡ true
  shows : flat_map value_bytes (chars identifier) ≡ identifier
  no_return : has_no_return (chars identifier) ≡ true

within-quotes : (quotes : Quotes) (text : List ℕ) → list_all is_markup_character text ≡ true → is_without (quote_mark quotes) text ≡ true → list_all (in_identifier quotes) text ≡ true
unfolding in_identifier
within-quotes quotes [] h g = refl
within-quotes quotes (c ∷ text) h g =
    let p = and_parts (is_markup_character c) (list_all is_markup_character text) h in
    let q = and_parts (not (c == quote_mark quotes)) (is_without (quote_mark quotes) text) g in
    rw (not-true (c == quote_mark quotes) q.0, (markup-parts c p.0).no_greater_than) (within-quotes quotes text p.1 q.1)

pub high-quotation : (b : ℕ) → 128 ≤ b → not (b == quotation_mark) ≡ true
high-quotation b h = grind (arith, nat_tests)

pub high-apostrophe : (b : ℕ) → 128 ≤ b → not (b == apostrophe) ≡ true
high-apostrophe b h = grind (arith, nat_tests)

within-identifier : (identifier : List ℕ) → IsUtf8 identifier → list_all is_markup_character (chars identifier) ≡ true
    → (is_without quotation_mark identifier || is_without apostrophe identifier) ≡ true → list_all (in_identifier (quotes_for identifier)) (chars identifier) ≡ true
within-identifier identifier utf8 h quotes =
    (elim (is_without quotation_mark identifier) as (λ b. is_without quotation_mark identifier ≡ b → (b || is_without apostrophe identifier) ≡ true
    → list_all (in_identifier (if b then DoubleQuotes else SingleQuotes)) (chars identifier) ≡ true) [
      | true ↦ λ e g. within-quotes DoubleQuotes (chars identifier) h (all-chars (λ c. not (c == quotation_mark)) high-quotation identifier utf8 e)
      | false ↦ λ e g. within-quotes SingleQuotes (chars identifier) h (all-chars (λ c. not (c == apostrophe)) high-apostrophe identifier utf8 g)
    ]) refl quotes

identifier-back : (identifier : List ℕ) → IsUtf8 identifier → is_identifier identifier ≡ true → IsIdentifierBack identifier
unfolding is_identifier
identifier-back identifier utf8 h =
    let p = and_parts (list_all is_markup_character identifier) (is_without quotation_mark identifier || is_without apostrophe identifier) h in
    let markup : list_all is_markup_character (chars identifier) ≡ true = all-chars is_markup_character high-markup identifier utf8 p.0 in
    record {
      within = within-identifier identifier utf8 markup p.1;
      shows = shows-value (chars identifier) (no_null-markup (chars identifier) markup) ∙ encodes-chars identifier utf8;
      no_return = no_return-markup (chars identifier) markup;
    }

abbrev AreBack : Option (List ℕ) → Type 0
AreBack None = Unit {0}
AreBack (Some identifier) = IsIdentifierBack identifier

are-back : (identifier : Option (List ℕ)) → IsTextOrNone identifier → is_identifier_or_none identifier ≡ true → AreBack identifier
are-back None text h = tt
are-back (Some identifier) text h = identifier-back identifier text h

-- ---- the doctype of the grammar

abbrev identifier_of : {B : Type 0} → Bool → List ℕ → B → Identifier B
identifier_of is_closed identifier afterwards =
    if is_closed then Closed (quotes_for identifier) (chars identifier) [] afterwards else Unclosed (quotes_for identifier) (chars identifier)

abbrev after_of : Bool → Option (List ℕ) → Option (List ℕ) → RestAfterName
after_of quirks None None = if quirks then PublicKeyword (codes "PUBLIC") [] (Missing []) else NoKeyword []
after_of quirks (Some public) None = PublicKeyword (codes "PUBLIC") (codes " ") (identifier_of (not quirks) public (Missing []))
after_of quirks None (Some system) = SystemKeyword (codes "SYSTEM") (codes " ") (identifier_of (not quirks) system [])
after_of quirks (Some public) (Some system) =
    PublicKeyword (codes "PUBLIC") (codes " ") (Closed (quotes_for public) (chars public) (codes " ") (identifier_of (not quirks) system []))

abbrev space_of : Bool → Option (List ℕ) → Option (List ℕ) → List ℕ
space_of quirks None None = if quirks then codes " " else []
space_of quirks public system = codes " "

text-after : (quirks : Bool) (public system : Option (List ℕ)) → space_of quirks public system ++ after_name_text (after_of quirks public system) ≡ identifiers_text quirks public system
text-after true None None = refl
text-after false None None = refl
text-after true (Some public) None = rw (mark-quotes public) (ap (λ l. codes " PUBLIC " ++ (quote_for public ∷ l)) (sym (append-nil (chars public))))
text-after false (Some public) None = rw (mark-quotes public) refl
text-after true None (Some system) = rw (mark-quotes system) (ap (λ l. codes " SYSTEM " ++ (quote_for system ∷ l)) (sym (append-nil (chars system))))
text-after false None (Some system) = rw (mark-quotes system) refl
text-after true (Some public) (Some system) =
    rw (mark-quotes public, mark-quotes system)
    (ap (λ l. codes " PUBLIC " ++ (quote_for public ∷ (chars public ++ (quote_for public ∷ (codes " " ++ (quote_for system ∷ l)))))) (sym (append-nil (chars system)))
    ∙ ap (λ l. codes " PUBLIC " ++ (quote_for public ∷ l)) (sym (append_assoc (chars public) (quote_for public ∷ []) (codes " " ++ (quote_for system ∷ chars system ++ [])))))
text-after false (Some public) (Some system) =
    rw (mark-quotes public, mark-quotes system)
    (ap (λ l. codes " PUBLIC " ++ (quote_for public ∷ l))
    (sym (append_assoc (chars public) (quote_for public ∷ []) (codes " " ++ (quote_for system ∷ chars system ++ quote_for system ∷ [])))))

stands-after : (quirks : Bool) (public system : Option (List ℕ)) → AreBack public → AreBack system
    → can_stand_after (space_of quirks public system) (after_of quirks public system) ≡ true
unfolding is_white_space
stands-after true None None p s = refl
stands-after false None None p s = refl
stands-after true (Some public) None p s = rw p.within refl
stands-after false (Some public) None p s = rw p.within refl
stands-after true None (Some system) p s = rw s.within refl
stands-after false None (Some system) p s = rw s.within refl
stands-after true (Some public) (Some system) p s = rw (p.within, s.within) refl
stands-after false (Some public) (Some system) p s = rw (p.within, s.within) refl

told-after : (name : List ℕ) (quirks : Bool) (public system : Option (List ℕ)) → AreBack public → AreBack system
    → told_after_name name (after_of quirks public system) ≡ record { name = Some name; public_id = public; system_id = system; force_quirks = quirks }
told-after name true None None p s = refl
told-after name false None None p s = refl
told-after name true (Some public) None p s = rw p.shows refl
told-after name false (Some public) None p s = rw p.shows refl
told-after name true None (Some system) p s = rw s.shows refl
told-after name false None (Some system) p s = rw s.shows refl
told-after name true (Some public) (Some system) p s = rw (p.shows, s.shows) refl
told-after name false (Some public) (Some system) p s = rw (p.shows, s.shows) refl

-- ---- there is no CR in it

no_return-quote : (identifier : List ℕ) → not (quote_for identifier == carriage_return) ≡ true
no_return-quote identifier =
    elim (is_without quotation_mark identifier) as (λ b. not ((if b then quotation_mark else apostrophe) == carriage_return) ≡ true) [
      | true ↦ refl
      | false ↦ refl
    ]

no_return-identifier : (is_closed : Bool) (identifier : List ℕ) → IsIdentifierBack identifier → has_no_return (identifier_text is_closed identifier) ≡ true
no_return-identifier true identifier back =
    rw (no_return-quote identifier)
    (no_return-append (chars identifier) (quote_for identifier ∷ []) back.no_return (rw (no_return-quote identifier) refl))
no_return-identifier false identifier back = rw (no_return-quote identifier) (no_return-append (chars identifier) [] back.no_return refl)

no_return-identifiers : (quirks : Bool) (public system : Option (List ℕ)) → AreBack public → AreBack system → has_no_return (identifiers_text quirks public system) ≡ true
no_return-identifiers true None None p s = refl
no_return-identifiers false None None p s = refl
no_return-identifiers quirks (Some public) None p s = no_return-append (codes " PUBLIC ") (identifier_text (not quirks) public) refl (no_return-identifier (not quirks) public p)
no_return-identifiers quirks None (Some system) p s = no_return-append (codes " SYSTEM ") (identifier_text (not quirks) system) refl (no_return-identifier (not quirks) system s)
no_return-identifiers quirks (Some public) (Some system) p s =
    no_return-append (codes " PUBLIC ") (identifier_text true public ++ (codes " " ++ identifier_text (not quirks) system)) refl
    (no_return-append (identifier_text true public) (codes " " ++ identifier_text (not quirks) system) (no_return-identifier true public p)
    (no_return-append (codes " ") (identifier_text (not quirks) system) refl (no_return-identifier (not quirks) system s)))

-- ---- all of that for a doctype that can be written

abbrev named : List ℕ → List ℕ → RestAfterName → Content
named [] later afterwards = NoName
named (c ∷ name) later afterwards = Named c name later afterwards

abbrev content_with : DoctypeOf → Option (List ℕ) → Content
content_with d None = NoName
content_with d (Some name) = named (chars name) (space_of d.force_quirks d.public_id d.system_id) (after_of d.force_quirks d.public_id d.system_id)

abbrev space_with : Option (List ℕ) → List ℕ
space_with None = []
space_with (Some name) = codes " "

abbrev pub written_doctype : DoctypeOf → WrittenDoctype
written_doctype d = record { word = codes "DOCTYPE"; space = space_with d.name; content = content_with d d.name }

pub record IsDoctypeBack (d : DoctypeOf) : Type 0 where
  pub is_written : is_written (written_doctype d) ≡ true
  pub text : written (written_doctype d) ≡ doctype_text d
  pub told : told_content (written_doctype d).content ≡ d
  pub no_return : has_no_return (codes "!DOCTYPE" ++ (name_text d d.name ++ codes ">")) ≡ true

-- the same, by the name
record IsBackWith (d : DoctypeOf) (name : Option (List ℕ)) : Type 0 where
  is_written : is_written (record { word = codes "DOCTYPE"; space = space_with name; content = content_with d name }) ≡ true
  text : written (record { word = codes "DOCTYPE"; space = space_with name; content = content_with d name }) ≡ codes "<!DOCTYPE" ++ (name_text d name ++ codes ">")
  told : told_content (content_with d name) ≡ record { name = name; public_id = d.public_id; system_id = d.system_id; force_quirks = d.force_quirks }
  no_return : has_no_return (codes "!DOCTYPE" ++ (name_text d name ++ codes ">")) ≡ true

none-is : {X : Type 0} (o : Option X) → is_none o ≡ true → o ≡ None
none-is None h = refl
none-is (Some x) h = absurd (false≢true h)

nameless-back : (d : DoctypeOf) → is_doctype_with d None ≡ true → IsBackWith d None
unfolding is_written written
nameless-back d h =
    let p = and_parts d.force_quirks (is_none d.public_id && is_none d.system_id) h in
    let q = and_parts (is_none d.public_id) (is_none d.system_id) p.1 in
    record {
      is_written = refl;
      text = refl;
      told = rw (none-is d.public_id q.0, none-is d.system_id q.1, p.0) refl;
      no_return = refl;
    }

text-named : (name later ids : List ℕ) (afterwards : RestAfterName) → is_name name ≡ true → later ++ after_name_text afterwards ≡ ids
    → content_text (named name later afterwards) ≡ name ++ ids
unfolding is_name
text-named [] later ids afterwards h e = absurd (false≢true h)
text-named (c ∷ name) later ids afterwards h e = append_assoc (c ∷ name) later (after_name_text afterwards) ∙ ap (λ l. (c ∷ name) ++ l) e

content-named : (name later : List ℕ) (afterwards : RestAfterName) → is_name name ≡ true → can_stand_after later afterwards ≡ true
    → grammar.is_content (named name later afterwards) ≡ true
content-named [] later afterwards h g = refl
content-named (c ∷ name) later afterwards h g = rw (within-name (c ∷ name) (all-name (c ∷ name) h)) g

told-named : (name later : List ℕ) (afterwards : RestAfterName) → is_name name ≡ true
    → told_content (named name later afterwards) ≡ told_after_name (encode_utf8_all name) afterwards
unfolding is_name
told-named [] later afterwards h = absurd (false≢true h)
told-named (c ∷ name) later afterwards h = ap (λ n. told_after_name n afterwards) (shows-name (c ∷ name) h)

named-back : (d : DoctypeOf) (name : List ℕ) → IsUtf8 name → IsTextOrNone d.public_id → IsTextOrNone d.system_id → is_doctype_with d (Some name) ≡ true → IsBackWith d (Some name)
unfolding is_written written is_white_space
named-back d name utf8 public system h =
    let p = and_parts (is_name name) (is_identifier_or_none d.public_id && is_identifier_or_none d.system_id) h in
    let q = and_parts (is_identifier_or_none d.public_id) (is_identifier_or_none d.system_id) p.1 in
    let n : is_name (chars name) ≡ true = name-chars name utf8 p.0 in
    let pb : AreBack d.public_id = are-back d.public_id public q.0 in
    let sb : AreBack d.system_id = are-back d.system_id system q.1 in
    let later : List ℕ = space_of d.force_quirks d.public_id d.system_id in
    let afterwards : RestAfterName = after_of d.force_quirks d.public_id d.system_id in
    let ids : List ℕ = identifiers_text d.force_quirks d.public_id d.system_id in
    record {
      is_written = content-named (chars name) later afterwards n (stands-after d.force_quirks d.public_id d.system_id pb sb);
      text = ap (λ l. codes "<!DOCTYPE " ++ (l ++ codes ">")) (text-named (chars name) later ids afterwards n (text-after d.force_quirks d.public_id d.system_id));
      told =
          told-named (chars name) later afterwards n
          ∙ ap (λ l. told_after_name l afterwards) (encodes-chars name utf8)
          ∙ told-after name d.force_quirks d.public_id d.system_id pb sb;
      no_return =
          no_return-append (codes "!DOCTYPE ") ((chars name ++ ids) ++ codes ">") refl
          (no_return-append (chars name ++ ids) (codes ">")
          (no_return-append (chars name) ids (no_return-markup (chars name) (markup-name (chars name) (all-name (chars name) n))) (no_return-identifiers d.force_quirks d.public_id d.system_id pb sb)) refl);
    }

back-with : (d : DoctypeOf) (name : Option (List ℕ)) → IsTextOrNone name → IsTextOrNone d.public_id → IsTextOrNone d.system_id → is_doctype_with d name ≡ true → IsBackWith d name
back-with d None utf8 public system h = nameless-back d h
back-with d (Some name) utf8 public system h = named-back d name utf8 public system h

pub doctype-back : (d : DoctypeOf) → IsTextOrNone d.name → IsTextOrNone d.public_id → IsTextOrNone d.system_id → is_doctype d ≡ true → IsDoctypeBack d
doctype-back d name public system h =
    let back : IsBackWith d d.name = back-with d d.name name public system h in
    record { is_written = back.is_written; text = back.text; told = back.told; no_return = back.no_return }
