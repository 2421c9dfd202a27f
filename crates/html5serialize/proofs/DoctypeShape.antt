-- The doctypes of a page can be written.
use Rattle.std.proofs.Common.{◌≡◌, ℕ, ◌≤◌, ◌<◌, Bool, true, false, List, [], ◌∷◌, ◌++◌, Option, None, Some, refl, ap, sym, ◌∙◌, ⊎_elim, arith}
use Rattle.std.specs.Prelude.{◌==◌, ◌||◌, ◌&&◌, not, flat_map, encode_utf8, if◌then◌else◌}
use Rattle.std.specs.Char.{to_ascii_lowercase}
use Rattle.std.specs.List.{list_all}
use Rattle.std.specs.Option.{is_none}
use Rattle.std.proofs.Math.Bool.{or-true}
use Rattle.std.proofs.lemmas.Bool.{and_parts, not-true, false≢true, cases_lt}
use Rattle.std.proofs.lemmas.Bool.Decides.{nat_tests}
use Rattle.std.proofs.lemmas.Str.{encode_ascii}
use Rattle.html5ever_interface.specs.Token.{DoctypeOf}
use Rattle.html5ever_interface.specs.declared.states.DoctypeIdKind.TheVariants.{Public, System}
use Rattle.html5reading.specs.Characters.{null, greater_than, carriage_return, quotation_mark, apostrophe, replacement_character, is_white_space, shown, name_bytes, value_bytes}
use Rattle.html5reading.specs.Doctype.{with_quirks, quote_mark, in_identifier, in_doctype_name, is_keyword}
use Rattle.html5reading.specs.Start.{Quotes}
use Rattle.html5reading.specs.Start.Quotes.{DoubleQuotes, SingleQuotes}
use Rattle.html5reading.proofs.LawfulBytes.{all-encode, all-append}
use Rattle.html5grammar.specs.Doctype as grammar
use Rattle.html5grammar.specs.Doctype.{Identifier, SystemIdentifier, PublicIdentifier, RestAfterName, Content, identifier_text, system_text, public_text, after_name_text, content_text, is_system, is_public, is_after_name, can_stand_after, identifier_told, told_after_name}
use Rattle.html5grammar.specs.Doctype.Content.{NoName, Named}
use Rattle.html5grammar.specs.Doctype.Identifier.{Missing, Unclosed, Closed}
use Rattle.html5grammar.specs.Doctype.RestAfterName.{NoKeyword, PublicKeyword, SystemKeyword}
use Rattle.html5grammar.proofs.Tag.Values.{both-none}
use Rattle.html5serialize.specs.Doctypes.{is_without, is_markup_character, is_name_character, is_name, is_identifier, is_identifier_or_none, is_doctype_with, is_doctype}
use Rattle.html5serialize.proofs.DoctypeBack.{high-name, high-quotation, high-apostrophe}
use Rattle.html5serialize.proofs.MarkupShape.{bytes-markup, is_open_character}
use Rattle.html5serialize.proofs.MarkupTokens.{told_content}
use Rattle.html5serialize.proofs.Utf8Bytes.{High, high-encode, all-parts}
use Rattle.html5write.specs.Told.{has_no_return}

-- ---- names

lower-name : (c : ℕ) → is_white_space c ≡ false → (c == greater_than) ≡ false → (c == carriage_return) ≡ false → (c == null) ≡ false → is_name_character (to_ascii_lowercase c) ≡ true
unfolding is_name_character is_markup_character is_white_space
lower-name c w g r n = grind (arith, nat_tests)

shown-name : (c : ℕ) → in_doctype_name c ≡ true → not (c == carriage_return) ≡ true → is_name_character (to_ascii_lowercase (shown c)) ≡ true
unfolding shown is_name_character is_markup_character is_white_space in_doctype_name
shown-name c h r =
    let a = both-none (is_white_space c) (c == greater_than) (not-true _ h) in
    (elim (c == null) as (λ b. (c == null) ≡ b → is_name_character (to_ascii_lowercase (if b then replacement_character else c)) ≡ true) [
      | true ↦ λ e. refl
      | false ↦ λ e. lower-name c a.0 a.1 (not-true (c == carriage_return) r) e
    ]) refl

bytes-name : (run : List ℕ) → list_all in_doctype_name run ≡ true → has_no_return run ≡ true → list_all is_name_character (flat_map name_bytes run) ≡ true
unfolding name_bytes
bytes-name [] h r = refl
bytes-name (c ∷ run) h r =
    let p = and_parts (in_doctype_name c) (list_all in_doctype_name run) h in
    let q = and_parts (not (c == carriage_return)) (has_no_return run) r in
    all-append is_name_character (name_bytes c) (flat_map name_bytes run)
    (all-encode is_name_character high-name (to_ascii_lowercase (shown c)) (shown-name c p.0 q.0)) (bytes-name run p.1 q.1)

-- a name has a byte, since it has a character
some-bytes : (d : ℕ) (bytes : List ℕ) → list_all is_name_character (encode_utf8 d ++ bytes) ≡ true → is_name (encode_utf8 d ++ bytes) ≡ true
unfolding is_name
some-bytes d bytes h =
    ⊎_elim
    (λ (a : d < 128). rw (encode_ascii d a) (ap (λ l. list_all is_name_character (l ++ bytes)) (sym (encode_ascii d a)) ∙ h))
    (λ (a : 128 ≤ d).
    let e : High d = high-encode d a in
    rw (e.is) (ap (λ l. list_all is_name_character (l ++ bytes)) (sym e.is) ∙ h))
    (cases_lt d 128)

shape-name : (first : ℕ) (rest : List ℕ) → list_all in_doctype_name (first ∷ rest) ≡ true → has_no_return (first ∷ rest) ≡ true → is_name (flat_map name_bytes (first ∷ rest)) ≡ true
unfolding name_bytes
shape-name first rest h r = some-bytes (to_ascii_lowercase (shown first)) (flat_map name_bytes rest) (bytes-name (first ∷ rest) h r)

-- ---- identifiers

open-identifier : (quotes : Quotes) (run : List ℕ) → list_all (in_identifier quotes) run ≡ true → list_all is_open_character run ≡ true
unfolding in_identifier
open-identifier quotes [] h = refl
open-identifier quotes (c ∷ run) h =
    let p = and_parts (in_identifier quotes c) (list_all (in_identifier quotes) run) h in
    let a = both-none (c == quote_mark quotes) (c == greater_than) (not-true _ p.0) in
    rw (a.1) (open-identifier quotes run p.1)

high-mark : (quotes : Quotes) (b : ℕ) → 128 ≤ b → not (b == quote_mark quotes) ≡ true
high-mark DoubleQuotes b h = high-quotation b h
high-mark SingleQuotes b h = high-apostrophe b h

replacement-mark : (quotes : Quotes) → not (replacement_character == quote_mark quotes) ≡ true
replacement-mark DoubleQuotes = refl
replacement-mark SingleQuotes = refl

shown-mark : (quotes : Quotes) (c : ℕ) → (c == quote_mark quotes) ≡ false → not (shown c == quote_mark quotes) ≡ true
unfolding shown
shown-mark quotes c h =
    elim (c == null) as (λ b. not ((if b then replacement_character else c) == quote_mark quotes) ≡ true) [
      | true ↦ replacement-mark quotes
      | false ↦ rw h refl
    ]

bytes-without : (quotes : Quotes) (run : List ℕ) → list_all (in_identifier quotes) run ≡ true → is_without (quote_mark quotes) (flat_map value_bytes run) ≡ true
unfolding in_identifier value_bytes
bytes-without quotes [] h = refl
bytes-without quotes (c ∷ run) h =
    let p = and_parts (in_identifier quotes c) (list_all (in_identifier quotes) run) h in
    let a = both-none (c == quote_mark quotes) (c == greater_than) (not-true _ p.0) in
    all-append (λ b. not (b == quote_mark quotes)) (value_bytes c) (flat_map value_bytes run)
    (all-encode (λ b. not (b == quote_mark quotes)) (high-mark quotes) (shown c) (shown-mark quotes c a.0)) (bytes-without quotes run p.1)

without-one : (quotes : Quotes) (bytes : List ℕ) → is_without (quote_mark quotes) bytes ≡ true → (is_without quotation_mark bytes || is_without apostrophe bytes) ≡ true
without-one DoubleQuotes bytes h = rw h refl
without-one SingleQuotes bytes h = rw h (or-true (is_without quotation_mark bytes))

shape-identifier : (quotes : Quotes) (run : List ℕ) → list_all (in_identifier quotes) run ≡ true → has_no_return run ≡ true → is_identifier (flat_map value_bytes run) ≡ true
unfolding is_identifier
shape-identifier quotes run h r =
    rw (bytes-markup run (open-identifier quotes run h) r) (without-one quotes (flat_map value_bytes run) (bytes-without quotes run h))

-- the front of a text without CR
front-return : (front rest : List ℕ) → has_no_return (front ++ rest) ≡ true → has_no_return front ≡ true
front-return front rest r = (all-parts (λ c. not (c == carriage_return)) front rest r).0

rest-return : (front rest : List ℕ) → has_no_return (front ++ rest) ≡ true → has_no_return rest ≡ true
rest-return front rest r = (all-parts (λ c. not (c == carriage_return)) front rest r).1

first-return : (c : ℕ) (rest : List ℕ) → has_no_return (c ∷ rest) ≡ true → has_no_return rest ≡ true
first-return c rest r = (and_parts (not (c == carriage_return)) (has_no_return rest) r).1

shape-told : {B : Type 0} (text_after : B → List ℕ) (is_after : B → Bool) (identifier : Identifier B) → grammar.is_identifier is_after identifier ≡ true
    → has_no_return (identifier_text text_after identifier) ≡ true → is_identifier_or_none (identifier_told identifier) ≡ true
shape-told text_after is_after (Missing rest) h r = refl
shape-told text_after is_after (Unclosed quotes run) h r = shape-identifier quotes run h (first-return (quote_mark quotes) run r)
shape-told text_after is_after (Closed quotes run space afterwards) h r =
    let p = and_parts (list_all (in_identifier quotes) run) _ h in
    let later : List ℕ = quote_mark quotes ∷ space ++ text_after afterwards in
    shape-identifier quotes run p.0 (front-return run later (first-return (quote_mark quotes) (run ++ later) r))

-- the system identifier after a public one
shape-system : (identifier : PublicIdentifier) → is_public identifier ≡ true → has_no_return (public_text identifier) ≡ true → is_identifier_or_none (grammar.system_told identifier) ≡ true
shape-system (Missing rest) h r = refl
shape-system (Unclosed quotes run) h r = refl
shape-system (Closed quotes run space system) h r =
    let p = and_parts (list_all (in_identifier quotes) run) _ h in
    let q = and_parts (list_all is_white_space space) (is_system system) p.1 in
    let a = first-return (quote_mark quotes) (run ++ (quote_mark quotes ∷ space ++ system_text system)) r in
    let b = first-return (quote_mark quotes) (space ++ system_text system) (rest-return run (quote_mark quotes ∷ space ++ system_text system) a) in
    shape-told (λ rest. rest) (grammar.is_rest is_white_space) system q.1 (rest-return space (system_text system) b)

-- ---- doctypes

shape-after : (name : List ℕ) (afterwards : RestAfterName) → is_name name ≡ true → is_after_name afterwards ≡ true → has_no_return (after_name_text afterwards) ≡ true
    → is_doctype (told_after_name name afterwards) ≡ true
shape-after name (NoKeyword []) n h r = rw n refl
shape-after name (NoKeyword (c ∷ rest)) n h r = rw n refl
shape-after name (PublicKeyword keyword space identifier) n h r =
    let p = and_parts (is_keyword Public keyword) _ h in
    let q = and_parts (list_all is_white_space space) (is_public identifier) p.1 in
    let text = rest-return space (public_text identifier) (rest-return keyword (space ++ public_text identifier) r) in
    rw (n, shape-told system_text is_system identifier q.1 text) (shape-system identifier q.1 text)
shape-after name (SystemKeyword keyword space identifier) n h r =
    let p = and_parts (is_keyword System keyword) _ h in
    let q = and_parts (list_all is_white_space space) (is_system identifier) p.1 in
    let text = rest-return space (system_text identifier) (rest-return keyword (space ++ system_text identifier) r) in
    rw n (shape-told (λ rest. rest) (grammar.is_rest is_white_space) identifier q.1 text)

-- the text after a name, or nothing
after-stands : (space : List ℕ) (afterwards : RestAfterName) → can_stand_after space afterwards ≡ true → is_after_name afterwards ≡ true
after-stands [] (NoKeyword []) h = refl
after-stands [] (NoKeyword (c ∷ rest)) h = absurd (false≢true h)
after-stands [] (PublicKeyword keyword space identifier) h = absurd (false≢true h)
after-stands [] (SystemKeyword keyword space identifier) h = absurd (false≢true h)
after-stands (c ∷ space) afterwards h = (and_parts (list_all is_white_space (c ∷ space)) (is_after_name afterwards) h).1

pub shape-content : (content : Content) → grammar.is_content content ≡ true → has_no_return (content_text content) ≡ true → is_doctype (told_content content) ≡ true
shape-content NoName h r = refl
shape-content (Named first rest space afterwards) h r =
    let p = and_parts (list_all in_doctype_name (first ∷ rest)) (can_stand_after space afterwards) h in
    let a = front-return (first ∷ rest ++ space) (after_name_text afterwards) r in
    shape-after (flat_map name_bytes (first ∷ rest)) afterwards (shape-name first rest p.0 (front-return (first ∷ rest) space a)) (after-stands space afterwards p.1)
    (rest-return (first ∷ rest ++ space) (after_name_text afterwards) r)

-- the same with quirks
with-quirks : (d : DoctypeOf) (name : Option (List ℕ)) → is_doctype_with d name ≡ true → is_doctype_with (with_quirks d) name ≡ true
with-quirks d None h = (and_parts d.force_quirks (is_none d.public_id && is_none d.system_id) h).1
with-quirks d (Some name) h = h

pub shape-quirks : (d : DoctypeOf) → is_doctype d ≡ true → is_doctype (with_quirks d) ≡ true
shape-quirks d h = with-quirks d d.name h
