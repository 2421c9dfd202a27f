-- The scheme of the URL that an address leads to: the address's own, or its base's.
use Rattle.std.proofs.Common.{◌≡◌, ℕ, zero, suc, ◌+◌, ◌-◌, ◌<◌, ◌≤◌, Bool, true, false, List, [], ◌∷◌, take, drop, reverse, length, get_or, Option, Some, None, refl, sym, ap, subst, ◌∙◌, arith}
use Rattle.std.specs.Prelude.{◌&&◌, ◌||◌, ◌==◌, not, nat_lt, nat_le, option_map, slice_index, bytes_eq, Ok, Err, if◌then◌else◌, is_some, unwrap_or, codes, IfSome}
use Rattle.std.specs.List.{prefix_len, suffix_len}
use Rattle.std.specs.Char.{to_ascii_lowercase, is_ascii_alphabetic}
use Rattle.std.proofs.lemmas.Bool.{lt-ltb}
use Rattle.std.proofs.lemmas.List.{get_or-reverse}
use Rattle.std.proofs.lemmas.List.Sums.{prefix_len_passes}
use Rattle.url.specs.Input.{trim_c0_control_and_space, strip_tabs_and_new_lines, lowercase, split_once, is_c0_control_or_space, trim_start, is_empty, rsplit_once}
use Rattle.url.specs.Scheme.{scheme_len, scheme_type, is_file, is_special}
use Rattle.url.specs.Host.{parse_host, parse_file_host}
use Rattle.url.specs.Path.{segment_len, is_windows_drive_letter, escape_end}
use Rattle.url.specs.Parts.{Parts, kind_of, cannot_be_a_base}
use Rattle.url.specs.declared.scheme.SchemeType.TheVariants.{File, NotSpecial}
use Rattle.url.specs.Parser.{Parsed, and_then, split_port, lacks_host, parse_port, parse_authority, leading_slashes, after_double_slash, parse_non_special, parse_relative, after_file_double_slash, inherit_file, file_start, parse_file, parse_not_file, parse_body, end_path, with_path, parse_all, parse_parts, split_scheme, base_for_scheme, is_fragment_only, parse_without_scheme, parse_by_scheme, parse_url}
use Rattle.markup5ever.proofs.NameOrder.{bytes_eq-same}
use Rattle.url.proofs.SchemeLemmas.{file_from_scheme_type, file_from_is_file}
use Rattle.html5cleaner.specs.Urls.{HasBaseScheme}
use Rattle.html5cleaner.proofs.SchemeOf.{is_no_break, is_scheme_byte, scheme_from, scheme_of, scheme_where, without_breaks, without_front}
use Rattle.html5cleaner.proofs.SchemeBytes.{passed-no_colon, passed-no_scheme, passed-no_letter, scheme_byte-no_colon, letter-scheme, passed-trimmed, question-no_scheme, hash-no_scheme, question-no_colon, hash-no_colon, no_scheme-no_letter}

-- ---- the scheme by its length

abbrev scheme_at : ℕ → List ℕ → Option (List ℕ)
scheme_at len bytes = if slice_index bytes len == 58 then Some (lowercase (take len bytes)) else None

one_more : (byte : ℕ) (word : List ℕ) (is : Bool) → option_map (λ scheme. to_ascii_lowercase byte ∷ scheme) (if is then Some word else None) ≡ (if is then Some (to_ascii_lowercase byte ∷ word) else None)
one_more byte word true = refl
one_more byte word false = refl

scheme_at-where : (byte : ℕ) (bytes : List ℕ) (is : Bool) → is_scheme_byte byte ≡ is → scheme_from bytes ≡ scheme_at (prefix_len is_scheme_byte bytes) bytes
    → (if byte == 58 then Some [] else if is then option_map (λ scheme. to_ascii_lowercase byte ∷ scheme) (scheme_from bytes) else None)
    ≡ scheme_at (if is then 1 + prefix_len is_scheme_byte bytes else 0) (byte ∷ bytes)
scheme_at-where byte bytes false is later = refl
scheme_at-where byte bytes true is later =
    let n = prefix_len is_scheme_byte bytes in
    let next : suc n ≡ 1 + n = omega arith in
    ap (λ b. if b then Some [] else option_map (λ scheme. to_ascii_lowercase byte ∷ scheme) (scheme_from bytes)) (scheme_byte-no_colon byte is)
    ∙ ap (option_map (λ scheme. to_ascii_lowercase byte ∷ scheme)) later
    ∙ one_more byte (lowercase (take n bytes)) (slice_index bytes n == 58)
    ∙ ap (λ len. scheme_at len (byte ∷ bytes)) next

scheme_from-at : (bytes : List ℕ) → scheme_from bytes ≡ scheme_at (prefix_len is_scheme_byte bytes) bytes
unfolding scheme_from
scheme_from-at [] = refl
scheme_from-at (byte ∷ bytes) = scheme_at-where byte bytes (is_scheme_byte byte) refl (scheme_from-at bytes)

-- ---- the scheme that is split off

abbrev split_at : ℕ → List ℕ → Option (List ℕ × List ℕ)
split_at len bytes = if nat_lt 0 len && slice_index bytes len == 58 then Some (take len bytes, drop (len + 1) bytes) else None

abbrev split_word : List ℕ × List ℕ → List ℕ
split_word split = lowercase split.0

long-split : (len : ℕ) (bytes : List ℕ) → nat_lt 0 len ≡ true → option_map split_word (split_at len bytes) ≡ scheme_at len bytes
long-split len bytes some =
    ap (λ b. option_map split_word (if b && slice_index bytes len == 58 then Some (take len bytes, drop (len + 1) bytes) else None)) some
    ∙ elim (slice_index bytes len == 58) as (λ b. option_map split_word (if b then Some (take len bytes, drop (len + 1) bytes) else None) ≡ (if b then Some (lowercase (take len bytes)) else None)) [ true ↦ refl | false ↦ refl ]

split-where : (byte : ℕ) (bytes : List ℕ) (letter : Bool) → is_ascii_alphabetic byte ≡ letter
    → option_map split_word (split_at (if letter then prefix_len is_scheme_byte (byte ∷ bytes) else 0) (byte ∷ bytes)) ≡ (if letter then scheme_from (byte ∷ bytes) else None)
split-where byte bytes false is = refl
split-where byte bytes true is =
    let some : nat_lt 0 (prefix_len is_scheme_byte (byte ∷ bytes)) ≡ true = ap (λ b. nat_lt 0 (if b then 1 + prefix_len is_scheme_byte bytes else 0)) (letter-scheme byte is) ∙ lt-ltb 0 (1 + prefix_len is_scheme_byte bytes) (omega arith) in
    long-split (prefix_len is_scheme_byte (byte ∷ bytes)) (byte ∷ bytes) some ∙ sym (scheme_from-at (byte ∷ bytes))

pub split-scheme : (bytes : List ℕ) → option_map split_word (split_scheme bytes) ≡ scheme_where bytes
unfolding split_scheme scheme_len scheme_where
split-scheme [] = refl
split-scheme (byte ∷ bytes) = split-where byte bytes (is_ascii_alphabetic byte) refl

-- ---- what is cut off before the scheme is looked for

-- a byte that ends the part with the scheme
abbrev EndsPart : ℕ → Type 0
EndsPart mark = (byte : ℕ) → (byte == mark) ≡ true → (is_scheme_byte byte ≡ false) × ((byte == 58) ≡ false)

cut-where : (mark byte : ℕ) (bytes : List ℕ) (ends : Bool) → (byte == mark) ≡ ends → EndsPart mark → scheme_from (split_once mark bytes).0 ≡ scheme_from bytes
    → scheme_from (if ends then [] else byte ∷ (split_once mark bytes).0) ≡ scheme_from (byte ∷ bytes)
unfolding scheme_from
cut-where mark byte bytes true is part later =
    let none = part byte is in
    sym (ap (λ b. if b then Some [] else if is_scheme_byte byte then option_map (λ scheme. to_ascii_lowercase byte ∷ scheme) (scheme_from bytes) else None) none.1
    ∙ ap (λ b. if b then option_map (λ scheme. to_ascii_lowercase byte ∷ scheme) (scheme_from bytes) else None) none.0)
cut-where mark byte bytes false is part later =
    ap (λ s. if byte == 58 then Some [] else if is_scheme_byte byte then option_map (λ scheme. to_ascii_lowercase byte ∷ scheme) s else None) later

abbrev cut : Bool → ℕ → List ℕ → List ℕ × Option (List ℕ) → List ℕ × Option (List ℕ)
cut ends byte bytes later = if ends then ([], Some bytes) else (byte ∷ later.0, later.1)

cut-first : (ends : Bool) (byte : ℕ) (bytes : List ℕ) (later : List ℕ × Option (List ℕ)) → (cut ends byte bytes later).0 ≡ (if ends then [] else byte ∷ later.0)
cut-first true byte bytes later = refl
cut-first false byte bytes later = refl

before-mark : (mark : ℕ) (bytes : List ℕ) → EndsPart mark → scheme_from (split_once mark bytes).0 ≡ scheme_from bytes
unfolding split_once
before-mark mark [] part = refl
before-mark mark (byte ∷ bytes) part =
    ap scheme_from (cut-first (byte == mark) byte bytes (split_once mark bytes))
    ∙ cut-where mark byte bytes (byte == mark) refl part (before-mark mark bytes part)

where-cut : (mark byte : ℕ) (bytes : List ℕ) (ends : Bool) → (byte == mark) ≡ ends → EndsPart mark
    → scheme_where (if ends then [] else byte ∷ (split_once mark bytes).0) ≡ scheme_where (byte ∷ bytes)
unfolding scheme_where
where-cut mark byte bytes true is part =
    sym (ap (λ b. if b then scheme_from (byte ∷ bytes) else None) (no_scheme-no_letter byte (part byte is).0))
where-cut mark byte bytes false is part =
    ap (λ s. if is_ascii_alphabetic byte then s else None) (cut-where mark byte bytes false is part (before-mark mark bytes part))

where-mark : (mark : ℕ) (bytes : List ℕ) → EndsPart mark → scheme_where (split_once mark bytes).0 ≡ scheme_where bytes
unfolding split_once
where-mark mark [] part = refl
where-mark mark (byte ∷ bytes) part =
    ap scheme_where (cut-first (byte == mark) byte bytes (split_once mark bytes)) ∙ where-cut mark byte bytes (byte == mark) refl part

-- ---- what is trimmed

trimmed-front : (bytes : List ℕ) → without_front bytes ≡ trim_start is_c0_control_or_space bytes
unfolding without_front
trimmed-front [] = refl
trimmed-front (byte ∷ bytes) =
    let n = prefix_len is_c0_control_or_space bytes in
    let next : suc n ≡ 1 + n = omega arith in
    ap (λ b. if b then without_front bytes else byte ∷ bytes) (passed-trimmed byte)
    ∙ elim (nat_le byte 32) as (λ b. (if b then without_front bytes else byte ∷ bytes) ≡ drop (if b then 1 + n else 0) (byte ∷ bytes)) [
      | true ↦ trimmed-front bytes ∙ ap (λ k. drop k (byte ∷ bytes)) next
      | false ↦ refl
    ]

-- from a place on there are bytes alone that are trimmed
abbrev Passed : List ℕ → ℕ → Type 0
Passed bytes from = (k : ℕ) → from ≤ k → k < length bytes → nat_lt (get_or bytes k 0) 33 ≡ true

passed-later : (byte from : ℕ) (bytes : List ℕ) → Passed (byte ∷ bytes) (suc from) → Passed bytes from
passed-later byte from bytes passed k low less = passed (suc k) (omega (arith, low)) (omega (arith, less))

passed-byte : (byte : ℕ) (rest : List ℕ) → nat_lt byte 33 ≡ true → scheme_from (byte ∷ rest) ≡ None
unfolding scheme_from
passed-byte byte rest passed =
    ap (λ b. if b then Some [] else if is_scheme_byte byte then option_map (λ scheme. to_ascii_lowercase byte ∷ scheme) (scheme_from rest) else None) (passed-no_colon byte passed)
    ∙ ap (λ b. if b then option_map (λ scheme. to_ascii_lowercase byte ∷ scheme) (scheme_from rest) else None) (passed-no_scheme byte passed)

all-passed_from : (bytes : List ℕ) → Passed bytes 0 → scheme_from (without_breaks bytes) ≡ None
unfolding scheme_from
all-passed_from [] passed = refl
all-passed_from (byte ∷ bytes) passed =
    elim (is_no_break byte) as (λ b. scheme_from (if b then byte ∷ without_breaks bytes else without_breaks bytes) ≡ None) [
      | true ↦ passed-byte byte (without_breaks bytes) (passed 0 (omega arith) (omega arith))
      | false ↦ all-passed_from bytes (λ k low less. passed (suc k) (omega arith) (omega (arith, less)))
    ]

all-passed_where : (bytes : List ℕ) → Passed bytes 0 → scheme_where (without_breaks bytes) ≡ None
unfolding scheme_where
all-passed_where [] passed = refl
all-passed_where (byte ∷ bytes) passed =
    elim (is_no_break byte) as (λ b. scheme_where (if b then byte ∷ without_breaks bytes else without_breaks bytes) ≡ None) [
      | true ↦ ap (λ b. if b then scheme_from (byte ∷ without_breaks bytes) else None) (passed-no_letter byte (passed 0 (omega arith) (omega arith)))
      | false ↦ all-passed_where bytes (λ k low less. passed (suc k) (omega arith) (omega (arith, less)))
    ]

same-after : (byte : ℕ) (some other : List ℕ) → scheme_from some ≡ scheme_from other → scheme_from (byte ∷ some) ≡ scheme_from (byte ∷ other)
unfolding scheme_from
same-after byte some other later =
    ap (λ s. if byte == 58 then Some [] else if is_scheme_byte byte then option_map (λ scheme. to_ascii_lowercase byte ∷ scheme) s else None) later

trimmed-from : (len : ℕ) (bytes : List ℕ) → Passed bytes len → scheme_from (without_breaks (take len bytes)) ≡ scheme_from (without_breaks bytes)
unfolding scheme_from
trimmed-from zero bytes passed = sym (all-passed_from bytes passed)
trimmed-from (suc len) [] passed = refl
trimmed-from (suc len) (byte ∷ bytes) passed =
    let later = trimmed-from len bytes (passed-later byte len bytes passed) in
    elim (is_no_break byte) as (λ b. scheme_from (if b then byte ∷ without_breaks (take len bytes) else without_breaks (take len bytes)) ≡ scheme_from (if b then byte ∷ without_breaks bytes else without_breaks bytes)) [
      | true ↦ same-after byte (without_breaks (take len bytes)) (without_breaks bytes) later
      | false ↦ later
    ]

trimmed-where : (len : ℕ) (bytes : List ℕ) → Passed bytes len → scheme_where (without_breaks (take len bytes)) ≡ scheme_where (without_breaks bytes)
unfolding scheme_where
trimmed-where zero bytes passed = sym (all-passed_where bytes passed)
trimmed-where (suc len) [] passed = refl
trimmed-where (suc len) (byte ∷ bytes) passed =
    let from = trimmed-from len bytes (passed-later byte len bytes passed) in
    elim (is_no_break byte) as (λ b. scheme_where (if b then byte ∷ without_breaks (take len bytes) else without_breaks (take len bytes)) ≡ scheme_where (if b then byte ∷ without_breaks bytes else without_breaks bytes)) [
      | true ↦ ap (λ s. if is_ascii_alphabetic byte then s else None) (same-after byte (without_breaks (take len bytes)) (without_breaks bytes) from)
      | false ↦ trimmed-where len bytes (passed-later byte len bytes passed)
    ]

end-passed : (bytes : List ℕ) → Passed bytes (length bytes - suffix_len is_c0_control_or_space bytes)
end-passed bytes k low less =
    let j = length bytes - 1 - k in
    let same : get_or (reverse bytes) j 0 ≡ get_or bytes k 0 = get_or-reverse bytes j 0 (omega (arith, less)) ∙ ap (λ i. get_or bytes i 0) (omega (arith, less)) in
    passed-trimmed (get_or bytes k 0)
    ∙ ap (λ b. nat_le b 32) (sym same)
    ∙ prefix_len_passes is_c0_control_or_space (reverse bytes) j 0 (omega (arith, low, less))

-- the text in which the parser looks for a scheme has the scheme of the address
pub parsed-text : (address : List ℕ) → scheme_where (strip_tabs_and_new_lines (trim_c0_control_and_space address)) ≡ scheme_of address
unfolding strip_tabs_and_new_lines trim_c0_control_and_space
parsed-text address =
    let text = trim_start is_c0_control_or_space address in
    trimmed-where (length text - suffix_len is_c0_control_or_space text) text (end-passed text)
    ∙ ap (λ bytes. scheme_where (without_breaks bytes)) (sym (trimmed-front address))

-- ---- the scheme of what is parsed

ok-then : {T U P : Type 0} (parsed : Parsed T) (next : T → Parsed U) (end : U) → and_then parsed next ≡ Ok end → ((value : T) → parsed ≡ Ok value → next value ≡ Ok end → P) → P
ok-then (Ok value) next end is later = later value refl is
ok-then (Err e) next end is later = absurd cc

by-test : {U P : Type 0} (test : Bool) (some other : Parsed U) (end : U) → (if test then some else other) ≡ Ok end → (test ≡ true → some ≡ Ok end → P) → (test ≡ false → other ≡ Ok end → P) → P
by-test true some other end is left right = left refl is
by-test false some other end is left right = right refl is

abbrev IsOf : List ℕ → Parsed Parts → Type 0
IsOf scheme parsed = (url : Parts) → parsed ≡ Ok url → url.scheme ≡ scheme

is-of : (scheme : List ℕ) (made url : Parts) → made.scheme ≡ scheme → ◌≡◌ {A = Parsed Parts} (Ok made) (Ok url) → url.scheme ≡ scheme
is-of scheme made url same is = let whole : made ≡ url = cc in sym (ap (λ u. u.scheme) whole) ∙ same

authority-of : (scheme bytes : List ℕ) → IsOf scheme (parse_authority scheme bytes)
unfolding parse_authority
authority-of scheme bytes url is =
    let host_port = split_port (rsplit_once 64 bytes).1 in
    by-test (lacks_host (rsplit_once 64 bytes).0 host_port.0 host_port.1) _ _ url is (λ lacks e. absurd cc) λ has e.
    ok-then (parse_host (scheme_type scheme) host_port.0) _ url e λ host read f.
    ok-then (parse_port scheme (unwrap_or host_port.1 [])) _ url f λ port got g. is-of scheme _ url refl g

slashes-of : (scheme bytes : List ℕ) → IsOf scheme (after_double_slash scheme bytes)
unfolding after_double_slash
slashes-of scheme bytes url is =
    let text = take (segment_len (scheme_type scheme) bytes) bytes in
    ok-then (parse_authority scheme text) _ url is λ head read e. is-of scheme _ url (authority-of scheme text head read) e

non_special-of : (scheme body : List ℕ) → IsOf scheme (parse_non_special scheme body)
unfolding parse_non_special
non_special-of scheme body url is =
    by-test (leading_slashes NotSpecial body == 2) _ _ url is (λ two e. slashes-of scheme (drop 2 body) url e) λ fewer e.
    by-test (leading_slashes NotSpecial body == 1) _ _ url e (λ one f. is-of scheme _ url refl f) λ none f. is-of scheme _ url refl f

relative-of : (base : Parts) (body : List ℕ) → IsOf base.scheme (parse_relative base body)
unfolding parse_relative
relative-of base body url is =
    by-test (leading_slashes (kind_of base) body == 2) _ _ url is (λ two e. slashes-of base.scheme _ url e) λ fewer e. is-of base.scheme _ url refl e

not_file-of : (scheme : List ℕ) (base : Option Parts) (body : List ℕ) → IfSome base (λ b. b.scheme ≡ scheme) → IsOf scheme (parse_not_file scheme base body)
not_file-of scheme (Some base) body same url is = relative-of base body url is ∙ same
not_file-of scheme None body same url is =
    by-test (is_special (scheme_type scheme)) _ _ url is (λ special e. slashes-of scheme _ url e) λ other e. non_special-of scheme body url e

file_slashes-of : (bytes : List ℕ) → IsOf (codes "file") (after_file_double_slash bytes)
unfolding after_file_double_slash
file_slashes-of bytes url is =
    let text = take (segment_len File bytes) bytes in
    by-test (is_windows_drive_letter text) _ _ url is (λ drive e. is-of (codes "file") _ url refl e) λ host e.
    ok-then (parse_file_host text) _ url e λ host read f. is-of (codes "file") _ url refl f

file_start-of : (base : Option Parts) (relative : Bool) (rest : List ℕ) → IfSome base (λ b. b.scheme ≡ codes "file") → (file_start base relative rest).scheme ≡ codes "file"
unfolding inherit_file
file_start-of None relative rest same = refl
file_start-of (Some base) relative rest same = same

file-of : (base : Option Parts) (body : List ℕ) → IfSome base (λ b. b.scheme ≡ codes "file") → IsOf (codes "file") (parse_file base body)
unfolding parse_file
file-of base body same url is =
    let slashes = leading_slashes File body in
    by-test (slashes == 2) _ _ url is (λ two e. file_slashes-of (drop slashes body) url e) λ fewer e.
    is-of (codes "file") _ url (file_start-of base (slashes == 0) (drop slashes body) same) e

file-base : (scheme : List ℕ) (base : Option Parts) → scheme ≡ codes "file" → IfSome base (λ b. b.scheme ≡ scheme) → IfSome base (λ b. b.scheme ≡ codes "file")
file-base scheme None is same = tt
file-base scheme (Some base) is same = same ∙ is

body-of : (scheme : List ℕ) (base : Option Parts) (body : List ℕ) → IfSome base (λ b. b.scheme ≡ scheme) → IsOf scheme (parse_body scheme base body)
unfolding parse_body
body-of scheme base body same url is =
    by-test (is_file (scheme_type scheme)) _ _ url is
    (λ file e. let named = file_from_scheme_type scheme (file_from_is_file _ file) in file-of base body (file-base scheme base named same) url e ∙ sym named)
    λ other e. not_file-of scheme base body same url e

ended-of : (has_tail : Bool) (url : Parts) → (end_path has_tail url).scheme ≡ url.scheme
ended-of has_tail url = elim (not (is_special (kind_of url)) && has_tail) as (λ b. (if b then with_path url (escape_end url.path) else url).scheme ≡ url.scheme) [ true ↦ refl | false ↦ refl ]

all-of : (scheme : List ℕ) (base : Option Parts) (body : List ℕ) (query fragment : Option (List ℕ)) → IfSome base (λ b. b.scheme ≡ scheme) → IsOf scheme (parse_all scheme base body query fragment)
all-of scheme base body query fragment same url is =
    ok-then (parse_body scheme base body) _ url is λ head read e.
    is-of scheme _ url (ended-of (is_some query || is_some fragment) head ∙ body-of scheme base body same head read) e

parts-of : (scheme : List ℕ) (base : Option Parts) (body : List ℕ) (query fragment : Option (List ℕ)) → IfSome base (λ b. b.scheme ≡ scheme) → IsOf scheme (parse_parts scheme base body query fragment)
unfolding parse_parts
parts-of scheme None body query fragment same url is = all-of scheme None body query fragment same url is
parts-of scheme (Some base) body query fragment same url is =
    by-test (is_empty body) _ _ url is (λ empty e. is-of scheme _ url same e) λ other e. all-of scheme (Some base) body query fragment same url e

base-same : (base : Option Parts) (scheme : List ℕ) → IfSome (base_for_scheme base scheme) (λ b. b.scheme ≡ scheme)
base-same None scheme = tt
base-same (Some base) scheme = same-where base scheme (is_special (kind_of base)) (bytes_eq base.scheme scheme) refl
  where
    same-where : (base : Parts) (scheme : List ℕ) (special same : Bool) → bytes_eq base.scheme scheme ≡ same → IfSome (if special && same then Some base else None) (λ b. b.scheme ≡ scheme)
    same-where base scheme true true is = bytes_eq-same base.scheme scheme is
    same-where base scheme true false is = tt
    same-where base scheme false same is = tt

-- a URL has the scheme that its address says, and else its base's
pub data HasOwnOrBase (own : Option (List ℕ)) (base : Option Parts) (scheme : List ℕ) : Type 0 where
  Own : own ≡ Some scheme → HasOwnOrBase own base scheme
  Inherited : own ≡ None → HasBaseScheme base scheme → HasOwnOrBase own base scheme

no_scheme-parsed : (base : Option Parts) (body : List ℕ) (query fragment : Option (List ℕ)) (url : Parts) → parse_without_scheme base body query fragment ≡ Ok url → HasBaseScheme base url.scheme
no_scheme-parsed None body query fragment url is = absurd cc
no_scheme-parsed (Some base) body query fragment url is =
    by-test (cannot_be_a_base base && not (is_fragment_only body query fragment)) _ _ url is (λ cannot e. absurd cc)
    λ can e. sym (parts-of base.scheme (Some base) body query fragment refl url e)

by_scheme-parsed : (split : Option (List ℕ × List ℕ)) (base : Option Parts) (body : List ℕ) (query fragment : Option (List ℕ)) (url : Parts) → parse_by_scheme split base body query fragment ≡ Ok url → HasOwnOrBase (option_map split_word split) base url.scheme
by_scheme-parsed None base body query fragment url is = Inherited refl (no_scheme-parsed base body query fragment url is)
by_scheme-parsed (Some split) base body query fragment url is =
    Own (ap Some (sym (parts-of (lowercase split.0) (base_for_scheme base (lowercase split.0)) split.1 query fragment (base-same base (lowercase split.0)) url is)))

-- the scheme of a URL that an address leads to
pub parsed-scheme : (base : Option Parts) (address : List ℕ) (url : Parts) → parse_url base address ≡ Ok url → HasOwnOrBase (scheme_of address) base url.scheme
unfolding parse_url
parsed-scheme base address url is =
    let text = strip_tabs_and_new_lines (trim_c0_control_and_space address) in
    let hash = split_once 35 text in
    let question = split_once 63 hash.0 in
    let cut : scheme_where question.0 ≡ scheme_of address =
    where-mark 63 hash.0 (λ byte at. (question-no_scheme byte at, question-no_colon byte at))
    ∙ where-mark 35 text (λ byte at. (hash-no_scheme byte at, hash-no_colon byte at)) ∙ parsed-text address in
    subst (λ own. HasOwnOrBase own base url.scheme) (split-scheme question.0 ∙ cut) (by_scheme-parsed (split_scheme question.0) base question.0 question.1 hash.1 url is)
