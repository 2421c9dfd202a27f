-- The names of html5tree: what one table shows of them. They are of ASCII, so their bytes are their characters.
use Rattle.std.proofs.Common.{◌≡◌, ℕ, ◌<◌, Bool, true, false, List, [], ◌∷◌, ◌++◌, chars, refl, ap, sym, ◌∙◌, arith}
use Rattle.std.specs.Prelude.{◌&&◌, ◌||◌, codes, not, nat_lt, encode_utf8, encode_utf8_all, if◌then◌else◌}
use Rattle.std.specs.List.{list_all}
use Rattle.std.specs.Str.{bytes_eq}
use Rattle.std.proofs.lemmas.Bool.{false≢true, ltb-true}
use Rattle.std.proofs.lemmas.Str.{encode_ascii}
use Rattle.markup5ever.proofs.NameOrder.{bytes_eq-same}
use Rattle.html5elements.specs.Elements as elements
use Rattle.html5tree.specs.Names.{NamesOf, all_names, is_among, is_paragraph, is_void, kind_in, kind_of}
use Rattle.html5tree.specs.declared.kinds.Kind.{Kind}
use Rattle.html5tree.specs.declared.kinds.Kind.TheVariants.{Paragraph, Unknown}
use Rattle.html5policy.specs.Names.{has_place, is_of_kind}
use Rattle.html5cleaner.proofs.Encoded.{chars-encoded}
use Rattle.html5cleaner.proofs.Replies.{and-left, and-right}

-- ---- a table of names

among-where : (p : List ℕ → Bool) (name other : List ℕ) (names : List (List ℕ)) (same : Bool) → bytes_eq other name ≡ same → (p other && list_all p names) ≡ true
    → (if same then true else is_among name names) ≡ true → (list_all p names ≡ true → is_among name names ≡ true → p name ≡ true) → p name ≡ true
among-where p name other names true is all among later = ap p (sym (bytes_eq-same other name is)) ∙ and-left (p other) (list_all p names) all
among-where p name other names false is all among later = later (and-right (p other) (list_all p names) all) among

among-all : (p : List ℕ → Bool) (name : List ℕ) (names : List (List ℕ)) → list_all p names ≡ true → is_among name names ≡ true → p name ≡ true
unfolding is_among
among-all p name [] all among = absurd (false≢true among)
among-all p name (other ∷ names) all among = among-where p name other names (bytes_eq other name) refl all among (among-all p name names)

-- whether each name of a row passes, with its kind
abbrev passes : (Kind → List ℕ → Bool) → NamesOf → Bool
passes q row = list_all (q row.kind) row.names

kind-where : (q : Kind → List ℕ → Bool) (row : NamesOf) (rows : List NamesOf) (name : List ℕ) (among : Bool) → is_among name row.names ≡ among
    → (passes q row && list_all (passes q) rows) ≡ true → ((if among then row.kind else kind_in rows name) ≡ Unknown → ⊥)
    → (list_all (passes q) rows ≡ true → (kind_in rows name ≡ Unknown → ⊥) → q (kind_in rows name) name ≡ true)
    → q (if among then row.kind else kind_in rows name) name ≡ true
kind-where q row rows name true is all known later = among-all (q row.kind) name row.names (and-left (passes q row) (list_all (passes q) rows) all) is
kind-where q row rows name false is all known later = later (and-right (passes q row) (list_all (passes q) rows) all) known

kind-all : (q : Kind → List ℕ → Bool) (rows : List NamesOf) (name : List ℕ) → list_all (passes q) rows ≡ true → (kind_in rows name ≡ Unknown → ⊥)
    → q (kind_in rows name) name ≡ true
unfolding kind_in
kind-all q [] name all known = absurd (known refl)
kind-all q (row ∷ rows) name all known = kind-where q row rows name (is_among name row.names) refl all known (kind-all q rows name)

pub known-passes : (q : Kind → List ℕ → Bool) (name : List ℕ) → list_all (passes q) all_names ≡ true → (kind_of name ≡ Unknown → ⊥) → q (kind_of name) name ≡ true
unfolding kind_of
known-passes q name all known = kind-all q all_names name all known

-- ---- ASCII

abbrev pub is_ascii_name : List ℕ → Bool
is_ascii_name name = list_all (λ c. nat_lt c 128) name

abbrev ascii : Kind → List ℕ → Bool
ascii kind name = is_ascii_name name

ascii-table : list_all (passes ascii) all_names ≡ true
unfolding all_names
ascii-table = refl

pub known-ascii : (name : List ℕ) → (kind_of name ≡ Unknown → ⊥) → is_ascii_name name ≡ true
known-ascii name known = known-passes ascii name ascii-table known

pub ascii-encoded : (name : List ℕ) → is_ascii_name name ≡ true → encode_utf8_all name ≡ name
ascii-encoded [] all = refl
ascii-encoded (c ∷ name) all =
    let small : c < 128 = ltb-true c 128 (and-left (nat_lt c 128) (is_ascii_name name) all) in
    ap (λ l. l ++ encode_utf8_all name) (encode_ascii c small) ∙ ap (λ l. c ∷ l) (ascii-encoded name (and-right (nat_lt c 128) (is_ascii_name name) all))

pub ascii-chars : (name : List ℕ) → is_ascii_name name ≡ true → chars name ≡ name
ascii-chars name all = ap chars (sym (ascii-encoded name all)) ∙ chars-encoded name

-- characters whose bytes are a known name
pub known-encoded : (name : List ℕ) → (kind_of (encode_utf8_all name) ≡ Unknown → ⊥) → encode_utf8_all name ≡ name
known-encoded name known = sym (ascii-chars (encode_utf8_all name) (known-ascii (encode_utf8_all name) known)) ∙ chars-encoded name

-- ---- what else the table shows

abbrev same_bool : Bool → Bool → Bool
same_bool true b = b
same_bool false b = not b

same-bool : (a b : Bool) → same_bool a b ≡ true → a ≡ b
same-bool true true same = refl
same-bool true false same = absurd (false≢true same)
same-bool false true same = absurd (false≢true same)
same-bool false false same = refl

abbrev void_same : Kind → List ℕ → Bool
void_same kind name = same_bool (elements.is_void name) (is_void kind)

void-table : list_all (passes void_same) all_names ≡ true
unfolding all_names elements.is_void
void-table = refl

-- the void elements of html5elements are those of html5tree
pub known-void : (name : List ℕ) → (kind_of name ≡ Unknown → ⊥) → elements.is_void name ≡ is_void (kind_of name)
known-void name known = same-bool (elements.is_void name) (is_void (kind_of name)) (known-passes void_same name void-table known)

abbrev paragraph_named : Kind → List ℕ → Bool
paragraph_named kind name = not (is_paragraph kind) || bytes_eq name (codes "p")

paragraph-table : list_all (passes paragraph_named) all_names ≡ true
unfolding all_names
paragraph-table = refl

paragraph-where : (name : List ℕ) (kind : Kind) → kind ≡ Paragraph → (not (is_paragraph kind) || bytes_eq name (codes "p")) ≡ true → bytes_eq name (codes "p") ≡ true
paragraph-where name kind is passes = ap (λ k. not (is_paragraph k) || bytes_eq name (codes "p")) (sym is) ∙ passes

no-unknown : (name : List ℕ) → kind_of name ≡ Paragraph → kind_of name ≡ Unknown → ⊥
no-unknown name is unknown = cc

-- no other name is of the kind of `p`
pub paragraph-name : (name : List ℕ) → kind_of name ≡ Paragraph → name ≡ codes "p"
paragraph-name name is =
    bytes_eq-same name (codes "p")
    (paragraph-where name (kind_of name) is (known-passes paragraph_named name paragraph-table (no-unknown name is)))

-- a name that has a place is known
pub place-known : (name : List ℕ) → has_place name ≡ true → kind_of name ≡ Unknown → ⊥
unfolding has_place
place-known name place unknown = false≢true (sym (ap is_of_kind unknown) ∙ place)
