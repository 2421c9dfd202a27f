-- An address that is kept has no scheme, or one that is kept. So has each URL that it leads to, or its base's.
use Rattle.std.proofs.Common.{◌≡◌, ℕ, Bool, true, false, List, [], ◌∷◌, ◌++◌, Option, Some, None, refl, sym, ap, ◌∙◌}
use Rattle.std.specs.Prelude.{◌||◌, ◌&&◌, ◌==◌, not, nat_lt, option_map, Ok, IfSome, if◌then◌else◌}
use Rattle.std.specs.List.{list_all}
use Rattle.std.specs.Str.{bytes_eq}
use Rattle.std.specs.Char.{to_ascii_lowercase, is_ascii_alphabetic}
use Rattle.std.proofs.lemmas.Bool.{false≢true}
use Rattle.html5policy.specs.Addresses.{has_scheme, has_scheme_of, is_relative, is_safe_address}
use Rattle.html5policy.specs.Names.{is_one_of, is_scheme, runs_address}
use Rattle.html5policy.specs.Policy.{PolicyOf}
use Rattle.html5policy.specs.Rules.{IsSound, may_keep_scheme}
use Rattle.html5policy.proofs.Soundness.{listed-runs_nothing}
use Rattle.markup5ever.proofs.NameOrder.{bytes_eq-itself}
use Rattle.html5cleaner.proofs.SchemeOf.{is_no_break, is_scheme_byte, scheme_from, scheme_of, scheme_where, without_breaks, without_front, RunsNothing}
use Rattle.html5cleaner.proofs.SchemeOf.RunsNothing.{Relative, OneOf}
use Rattle.html5cleaner.specs.Urls.{HasBaseScheme, HasSafeScheme}
use Rattle.html5cleaner.specs.Urls.HasSafeScheme.{OfBase, Listed}
use Rattle.url.specs.Parser.{parse_url}
use Rattle.url.specs.Parts.{Parts}
use Rattle.html5cleaner.proofs.ParsedSchemes.{HasOwnOrBase, parsed-scheme}
use Rattle.html5cleaner.proofs.ParsedSchemes.HasOwnOrBase.{Own, Inherited}
use Rattle.html5cleaner.proofs.Replies.{and-left, and-right}
use Rattle.html5cleaner.proofs.SchemeBytes.{is_stop, passed-no_colon, passed-no_scheme, passed-no_stop, break-no_stop, stop-no_scheme, other-no_break, lower-colon, lower-no_colon, lower-same, scheme-no_colon}

-- ---- relative addresses

relative-later : (byte : ℕ) (address : List ℕ) → is_stop byte ≡ false → is_relative (byte ∷ address) ≡ true → is_relative address ≡ true
unfolding is_relative
relative-later byte address no_stop relative =
    elim (byte == 58) as (λ b. (if b then false else if is_stop byte then true else is_relative address) ≡ true → is_relative address ≡ true) [
      | true ↦ λ r. absurd (false≢true r)
      | false ↦ λ r. sym (ap (λ b. if b then true else is_relative address) no_stop) ∙ r
    ] relative

relative-front_where : (byte : ℕ) (address : List ℕ) (passed : Bool) → nat_lt byte 33 ≡ passed → is_relative (byte ∷ address) ≡ true
    → (is_relative address ≡ true → is_relative (without_front address) ≡ true)
    → is_relative (if passed then without_front address else byte ∷ address) ≡ true
relative-front_where byte address true is relative later = later (relative-later byte address (passed-no_stop byte is) relative)
relative-front_where byte address false is relative later = relative

relative-front : (address : List ℕ) → is_relative address ≡ true → is_relative (without_front address) ≡ true
unfolding without_front
relative-front [] relative = relative
relative-front (byte ∷ address) relative = relative-front_where byte address (nat_lt byte 33) refl relative (relative-front address)

relative-cons : (byte : ℕ) (address other : List ℕ) → (is_relative address ≡ true → is_relative other ≡ true) → is_relative (byte ∷ address) ≡ true → is_relative (byte ∷ other) ≡ true
unfolding is_relative
relative-cons byte address other later relative =
    elim (byte == 58) as (λ b. (if b then false else if is_stop byte then true else is_relative address) ≡ true → (if b then false else if is_stop byte then true else is_relative other) ≡ true) [
      | true ↦ λ r. r
      | false ↦ elim (is_stop byte) as (λ b. (if b then true else is_relative address) ≡ true → (if b then true else is_relative other) ≡ true) [
        | true ↦ λ r. refl
        | false ↦ λ r. later r
      ]
    ] relative

relative-breaks_where : (byte : ℕ) (address : List ℕ) (stays : Bool) → is_no_break byte ≡ stays → is_relative (byte ∷ address) ≡ true
    → (is_relative address ≡ true → is_relative (without_breaks address) ≡ true)
    → is_relative (if stays then byte ∷ without_breaks address else without_breaks address) ≡ true
relative-breaks_where byte address true is relative later = relative-cons byte address (without_breaks address) later relative
relative-breaks_where byte address false is relative later = later (relative-later byte address (break-no_stop byte is) relative)

relative-breaks : (address : List ℕ) → is_relative address ≡ true → is_relative (without_breaks address) ≡ true
relative-breaks [] relative = relative
relative-breaks (byte ∷ address) relative = relative-breaks_where byte address (is_no_break byte) refl relative (relative-breaks address)

no-scheme_where : (byte : ℕ) (address : List ℕ) (stop : Bool) → is_stop byte ≡ stop → (if stop then true else is_relative address) ≡ true
    → (is_relative address ≡ true → scheme_from address ≡ None)
    → (if is_scheme_byte byte then option_map (λ scheme. to_ascii_lowercase byte ∷ scheme) (scheme_from address) else None) ≡ None
no-scheme_where byte address true is relative later = ap (λ b. if b then option_map (λ scheme. to_ascii_lowercase byte ∷ scheme) (scheme_from address) else None) (stop-no_scheme byte is)
no-scheme_where byte address false is relative later =
    elim (is_scheme_byte byte) as (λ b. (if b then option_map (λ scheme. to_ascii_lowercase byte ∷ scheme) (scheme_from address) else None) ≡ None) [
      | true ↦ ap (option_map (λ scheme. to_ascii_lowercase byte ∷ scheme)) (later relative)
      | false ↦ refl
    ]

no-scheme : (address : List ℕ) → is_relative address ≡ true → scheme_from address ≡ None
unfolding is_relative scheme_from
no-scheme [] relative = refl
no-scheme (byte ∷ address) relative =
    elim (byte == 58) as (λ b. (if b then false else if is_stop byte then true else is_relative address) ≡ true
    → (if b then Some [] else if is_scheme_byte byte then option_map (λ scheme. to_ascii_lowercase byte ∷ scheme) (scheme_from address) else None) ≡ None) [
      | true ↦ λ r. absurd (false≢true r)
      | false ↦ λ r. no-scheme_where byte address (is_stop byte) refl r (no-scheme address)
    ] relative

-- ---- addresses of a scheme

-- none, or this one
data Finds (word : List ℕ) (scheme : Option (List ℕ)) : Type 0 where
  Nothing : scheme ≡ None → Finds word scheme
  Word : scheme ≡ Some word → Finds word scheme

abbrev no_colon : List ℕ → Bool
no_colon word = list_all (λ letter. not (letter == 58)) word

not-true : (b : Bool) → not b ≡ true → b ≡ false
not-true true e = absurd (false≢true e)
not-true false e = refl

-- the address from a byte on, where the rest of it finds the rest of the word
abbrev from_byte : ℕ → Bool → List ℕ → Option (List ℕ)
from_byte byte colon address =
    if colon then Some [] else if is_scheme_byte byte then option_map (λ scheme. to_ascii_lowercase byte ∷ scheme) (scheme_from address) else None

finds-more : (byte letter : ℕ) (word address : List ℕ) → to_ascii_lowercase byte ≡ letter → Finds word (scheme_from address) → Finds (letter ∷ word) (from_byte byte false address)
finds-more byte letter word address same (Nothing none) =
    Nothing (elim (is_scheme_byte byte) as (λ b. (if b then option_map (λ scheme. to_ascii_lowercase byte ∷ scheme) (scheme_from address) else None) ≡ None) [
      | true ↦ ap (option_map (λ scheme. to_ascii_lowercase byte ∷ scheme)) none
      | false ↦ refl
    ])
finds-more byte letter word address same (Word found) =
    elim (is_scheme_byte byte) as (λ b. Finds (letter ∷ word) (if b then option_map (λ scheme. to_ascii_lowercase byte ∷ scheme) (scheme_from address) else None)) [
      | true ↦ Word (ap (option_map (λ scheme. to_ascii_lowercase byte ∷ scheme)) found ∙ ap (λ c. Some (c ∷ word)) same)
      | false ↦ Nothing refl
    ]

finds-from : {word : List ℕ} {scheme other : Option (List ℕ)} → scheme ≡ other → Finds word other → Finds word scheme
finds-from e (Nothing none) = Nothing (e ∙ none)
finds-from e (Word found) = Word (e ∙ found)

-- a byte that is passed over
passed-over : (byte : ℕ) (word address : List ℕ) (stays : Bool) → is_no_break byte ≡ stays → nat_lt byte 33 ≡ true → Finds word (scheme_from (without_breaks address))
    → Finds word (scheme_from (if stays then byte ∷ without_breaks address else without_breaks address))
unfolding scheme_from
passed-over byte word address true is passed later =
    Nothing (ap (λ b. from_byte byte b (without_breaks address)) (passed-no_colon byte passed)
    ∙ ap (λ b. if b then option_map (λ scheme. to_ascii_lowercase byte ∷ scheme) (scheme_from (without_breaks address)) else None) (passed-no_scheme byte passed))
passed-over byte word address false is passed later = later

-- another byte stays
stays-breaks : (byte : ℕ) (address : List ℕ) → nat_lt byte 33 ≡ false → without_breaks (byte ∷ address) ≡ (byte ∷ without_breaks address)
stays-breaks byte address other = ap (λ b. if b then byte ∷ without_breaks address else without_breaks address) (other-no_break byte other)

colon-found : (byte : ℕ) (address : List ℕ) → nat_lt byte 33 ≡ false → (to_ascii_lowercase byte == 58) ≡ true → Finds [] (scheme_from (without_breaks (byte ∷ address)))
unfolding scheme_from
colon-found byte address other same =
    Word (ap scheme_from (stays-breaks byte address other) ∙ ap (λ b. from_byte byte b (without_breaks address)) (lower-colon byte same))

letter-found : (byte letter : ℕ) (word address : List ℕ) → nat_lt byte 33 ≡ false → (to_ascii_lowercase byte == letter) ≡ true → (letter == 58) ≡ false
    → Finds word (scheme_from (without_breaks address)) → Finds (letter ∷ word) (scheme_from (without_breaks (byte ∷ address)))
unfolding scheme_from
letter-found byte letter word address other same no_colon later =
    finds-from (ap scheme_from (stays-breaks byte address other) ∙ ap (λ b. from_byte byte b (without_breaks address)) (lower-no_colon byte letter same no_colon))
    (finds-more byte letter word (without_breaks address) (lower-same byte letter same) later)

found-colon_where : (byte : ℕ) (address : List ℕ) (passed : Bool) → nat_lt byte 33 ≡ passed
    → (if passed then has_scheme address (58 ∷ []) else (to_ascii_lowercase byte == 58) && has_scheme address []) ≡ true
    → (has_scheme address (58 ∷ []) ≡ true → Finds [] (scheme_from (without_breaks address)))
    → Finds [] (scheme_from (without_breaks (byte ∷ address)))
found-colon_where byte address true is has later = passed-over byte [] address (is_no_break byte) refl is (later has)
found-colon_where byte address false is has later = colon-found byte address is (and-left (to_ascii_lowercase byte == 58) (has_scheme address []) has)

found-letter_where : (byte letter : ℕ) (word address : List ℕ) (passed : Bool) → nat_lt byte 33 ≡ passed → (letter == 58) ≡ false
    → (if passed then has_scheme address (letter ∷ (word ++ 58 ∷ [])) else (to_ascii_lowercase byte == letter) && has_scheme address (word ++ 58 ∷ [])) ≡ true
    → (has_scheme address (letter ∷ (word ++ 58 ∷ [])) ≡ true → Finds (letter ∷ word) (scheme_from (without_breaks address)))
    → (has_scheme address (word ++ 58 ∷ []) ≡ true → Finds word (scheme_from (without_breaks address)))
    → Finds (letter ∷ word) (scheme_from (without_breaks (byte ∷ address)))
found-letter_where byte letter word address true is other has same_word later = passed-over byte (letter ∷ word) address (is_no_break byte) refl is (same_word has)
found-letter_where byte letter word address false is other has same_word later =
    letter-found byte letter word address is (and-left (to_ascii_lowercase byte == letter) (has_scheme address (word ++ 58 ∷ [])) has) other
    (later (and-right (to_ascii_lowercase byte == letter) (has_scheme address (word ++ 58 ∷ [])) has))

found : (address word : List ℕ) → no_colon word ≡ true → has_scheme address (word ++ 58 ∷ []) ≡ true → Finds word (scheme_from (without_breaks address))
unfolding has_scheme
found [] [] letters has = absurd (false≢true has)
found [] (letter ∷ word) letters has = absurd (false≢true has)
found (byte ∷ address) [] letters has = found-colon_where byte address (nat_lt byte 33) refl has (found address [] letters)
found (byte ∷ address) (letter ∷ word) letters has =
    found-letter_where byte letter word address (nat_lt byte 33) refl (not-true (letter == 58) (and-left (not (letter == 58)) (no_colon word) letters)) has
    (found address (letter ∷ word) letters)
    (found address word (and-right (not (letter == 58)) (no_colon word) letters))

front-where : (byte letter : ℕ) (address scheme : List ℕ) (passed : Bool) → nat_lt byte 33 ≡ passed → has_scheme (byte ∷ address) (letter ∷ scheme) ≡ true
    → (has_scheme address (letter ∷ scheme) ≡ true → has_scheme (without_front address) (letter ∷ scheme) ≡ true)
    → has_scheme (if passed then without_front address else byte ∷ address) (letter ∷ scheme) ≡ true
unfolding has_scheme
front-where byte letter address scheme true is has later =
    later (sym (ap (λ b. if b then has_scheme address (letter ∷ scheme) else (to_ascii_lowercase byte == letter) && has_scheme address scheme) is) ∙ has)
front-where byte letter address scheme false is has later = has

front : (letter : ℕ) (address scheme : List ℕ) → has_scheme address (letter ∷ scheme) ≡ true → has_scheme (without_front address) (letter ∷ scheme) ≡ true
unfolding without_front
front letter [] scheme has = has
front letter (byte ∷ address) scheme has = front-where byte letter address scheme (nat_lt byte 33) refl has (front letter address scheme)

finds-where : (word address : List ℕ) → Finds word (scheme_from address) → Finds word (scheme_where address)
unfolding scheme_where
finds-where word [] finds = Nothing refl
finds-where word (byte ∷ address) finds = elim (is_ascii_alphabetic byte) as (λ b. Finds word (if b then scheme_from (byte ∷ address) else None)) [ true ↦ finds | false ↦ Nothing refl ]

none-where : (address : List ℕ) → scheme_from address ≡ None → scheme_where address ≡ None
unfolding scheme_where
none-where [] none = refl
none-where (byte ∷ address) none = elim (is_ascii_alphabetic byte) as (λ b. (if b then scheme_from (byte ∷ address) else None) ≡ None) [ true ↦ none | false ↦ refl ]

-- the scheme of an address that begins with a word and a colon
has-found : (letter : ℕ) (word address : List ℕ) → no_colon (letter ∷ word) ≡ true → has_scheme address (letter ∷ (word ++ 58 ∷ [])) ≡ true → Finds (letter ∷ word) (scheme_of address)
has-found letter word address letters has =
    finds-where (letter ∷ word) (without_breaks (without_front address)) (found (without_front address) (letter ∷ word) letters (front letter address (word ++ 58 ∷ []) has))

-- ---- the schemes of a policy

scheme-found : (word address : List ℕ) → is_scheme word ≡ true → has_scheme address (word ++ 58 ∷ []) ≡ true → Finds word (scheme_of address)
unfolding is_scheme
scheme-found [] address scheme has = absurd (false≢true scheme)
scheme-found (letter ∷ word) address scheme has = has-found letter word address (scheme-no_colon letter word scheme) has

listed : {schemes : List (List ℕ)} {scheme : Option (List ℕ)} (word : List ℕ) → is_one_of schemes word ≡ true → Finds word scheme → RunsNothing schemes scheme
listed word one (Nothing none) = Relative none
listed word one (Word found) = OneOf word one found

one-here : (word : List ℕ) (words : List (List ℕ)) → is_one_of (word ∷ words) word ≡ true
unfolding is_one_of
one-here word words = ap (λ b. b || is_one_of words word) (bytes_eq-itself word)

one-later : (word other : List ℕ) (words : List (List ℕ)) → is_one_of words word ≡ true → is_one_of (other ∷ words) word ≡ true
unfolding is_one_of
one-later word other words one = elim (bytes_eq other word) as (λ b. (b || is_one_of words word) ≡ true) [ true ↦ refl | false ↦ one ]

some-where : (schemes : List (List ℕ)) (word : List ℕ) (words : List (List ℕ)) (address : List ℕ) (has : Bool) → has_scheme address (word ++ 58 ∷ []) ≡ has
    → is_one_of schemes word ≡ true → is_scheme word ≡ true → (has || has_scheme_of words address) ≡ true
    → (has_scheme_of words address ≡ true → RunsNothing schemes (scheme_of address)) → RunsNothing schemes (scheme_of address)
some-where schemes word words address true is one scheme safe later = listed word one (scheme-found word address scheme is)
some-where schemes word words address false is one scheme safe later = later safe

-- an address of one of some of them
some-listed : (schemes words : List (List ℕ)) (address : List ℕ) → ((word : List ℕ) → is_one_of words word ≡ true → is_one_of schemes word ≡ true)
    → list_all may_keep_scheme words ≡ true → has_scheme_of words address ≡ true → RunsNothing schemes (scheme_of address)
unfolding has_scheme_of
some-listed schemes [] address among sound has = absurd (false≢true has)
some-listed schemes (word ∷ words) address among sound has =
    some-where schemes word words address (has_scheme address (word ++ 58 ∷ [])) refl (among word (one-here word words))
    (and-left (is_scheme word) (not (runs_address word)) (and-left (may_keep_scheme word) (list_all may_keep_scheme words) sound)) has
    (some-listed schemes words address (λ other one. among other (one-later other word words one)) (and-right (may_keep_scheme word) (list_all may_keep_scheme words) sound))

safe-cases : (schemes : List (List ℕ)) (address : List ℕ) (relative : Bool) → is_relative address ≡ relative → list_all may_keep_scheme schemes ≡ true
    → (relative || has_scheme_of schemes address) ≡ true → RunsNothing schemes (scheme_of address)
safe-cases schemes address true is sound safe =
    Relative (none-where (without_breaks (without_front address)) (no-scheme (without_breaks (without_front address)) (relative-breaks (without_front address) (relative-front address is))))
safe-cases schemes address false is sound safe = some-listed schemes schemes address (λ word one. one) sound safe

own-safe : (policy : PolicyOf) (address : List ℕ) → IsSound policy → is_safe_address policy.schemes address ≡ true → RunsNothing policy.schemes (scheme_of address)
unfolding is_safe_address
own-safe policy address sound safe = safe-cases policy.schemes address (is_relative address) refl sound.schemes safe

-- ---- where it leads

leads-where : (schemes : List (List ℕ)) (word : Option (List ℕ)) (base : Option Parts) (scheme : List ℕ) → RunsNothing schemes word → HasOwnOrBase word base scheme → HasSafeScheme schemes base scheme
leads-where schemes word base scheme safe (Inherited none of_base) = OfBase of_base
leads-where schemes word base scheme (Relative none) (Own is) = absurd cc
leads-where schemes word base scheme (OneOf found_word one found) (Own is) =
    let same : scheme ≡ found_word = cc in
    Listed (ap (is_one_of schemes) same ∙ one)

pub safe-scheme : (policy : PolicyOf) (address : List ℕ) (base : Option Parts) (url : Parts) → IsSound policy → is_safe_address policy.schemes address ≡ true → parse_url base address ≡ Ok url
    → HasSafeScheme policy.schemes base url.scheme
safe-scheme policy address base url sound safe is =
    leads-where policy.schemes (scheme_of address) base url.scheme (own-safe policy address sound safe) (parsed-scheme base address url is)

of_base-runs : (base : Option Parts) (scheme : List ℕ) → IfSome base (λ b. runs_address b.scheme ≡ false) → HasBaseScheme base scheme → runs_address scheme ≡ false
of_base-runs None scheme runs same = absurd same
of_base-runs (Some base) scheme runs same = ap runs_address (sym same) ∙ runs

safe-runs : (policy : PolicyOf) (base : Option Parts) (scheme : List ℕ) → IsSound policy → IfSome base (λ b. runs_address b.scheme ≡ false) → HasSafeScheme policy.schemes base scheme → runs_address scheme ≡ false
safe-runs policy base scheme sound runs (OfBase same) = of_base-runs base scheme runs same
safe-runs policy base scheme sound runs (Listed one) = listed-runs_nothing policy scheme sound one

pub safe-runs_nothing : (policy : PolicyOf) (address : List ℕ) (base : Option Parts) (url : Parts) → IsSound policy → is_safe_address policy.schemes address ≡ true → parse_url base address ≡ Ok url
    → IfSome base (λ b. runs_address b.scheme ≡ false) → runs_address url.scheme ≡ false
safe-runs_nothing policy address base url sound safe is runs =
    safe-runs policy base url.scheme sound runs (safe-scheme policy address base url sound safe is)
