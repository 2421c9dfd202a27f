-- What is written for a value whose numbers are decimal stands on one line.
use Rattle.std.proofs.Common.{append-nil, append_assoc, ◌≡◌, ℕ, zero, suc, ◌<◌, ◌≤◌, ◌^◌, Bool, true, false, cond, ◌&&◌, List, [], ◌∷◌, ◌++◌, inl, inr, refl, sym, ◌∙◌, subst, arith, decimal, get_or, length}
use Rattle.std.specs.List.{list_all}
use Rattle.std.proofs.lemmas.Bool.{and_from, and_parts, cases_eq, cases_lt, le-leb}
use Rattle.std.proofs.lemmas.Fmt.{decimal_is_IsNumeral}
use Rattle.std.proofs.lemmas.List.Folds.{list_all-append}
use Rattle.std.proofs.lemmas.Str.Parse.{digit_at}
use Rattle.json.specs.Json.{Json, null, boolean, number, string, array, object, Items, no_items, item, Members, no_members, member}
use Rattle.json.specs.Print.{escape, escape_byte, print_from, quoted, separator, token_text, ends, begins}
use Rattle.json.specs.Token.{Token}
use Rattle.json.specs.Tree.{json_tokens, items_tokens, members_tokens}
use Rattle.json.proofs.Printed.Strings.{escape_byte_plain}
use Rattle.html5json.specs.Reading.{is_in_line}

-- a decimal numeral of 64 bits
abbrev pub IsDecimal : List ℕ → Type 0
IsDecimal s = (n : ℕ) × (n < 2 ^ 64) × (s ≡ decimal n)

abbrev mutual
  pub HasDecimals : Json → Type 0
  HasDecimals null = Unit {0}
  HasDecimals (boolean b) = Unit {0}
  HasDecimals (number s) = IsDecimal s
  HasDecimals (string s) = Unit {0}
  HasDecimals (array js) = ItemsHaveDecimals js
  HasDecimals (object ms) = MembersHaveDecimals ms

  pub ItemsHaveDecimals : Items → Type 0
  ItemsHaveDecimals no_items = Unit {0}
  ItemsHaveDecimals (item j js) = HasDecimals j × ItemsHaveDecimals js

  pub MembersHaveDecimals : Members → Type 0
  MembersHaveDecimals no_members = Unit {0}
  MembersHaveDecimals (member k j ms) = HasDecimals j × MembersHaveDecimals ms

-- all of its bytes
abbrev InLine : List ℕ → Type 0
InLine bytes = list_all is_in_line bytes ≡ true

InLine-append : (a b : List ℕ) → InLine a → InLine b → InLine (a ++ b)
InLine-append a b h k = list_all-append is_in_line a b ∙ and_from _ _ h k

-- the escapes of the bytes below n
abbrev escapes_below : ℕ → Bool
escapes_below zero = true
escapes_below (suc n) = list_all is_in_line (escape_byte n) && escapes_below n

escape_below : (n : ℕ) → escapes_below n ≡ true → (x : ℕ) → x < n → InLine (escape_byte x)
escape_below zero e x h = absurd (omega arith)
escape_below (suc n) e x h =
    let p = and_parts _ _ e in
    elim (cases_eq x n) [ inl same ↦ rw same p.0 | inr other ↦ escape_below n p.1 x (omega arith) ]

low_escapes : escapes_below 93 ≡ true
unfolding escape_byte
low_escapes = refl

InLine-escape_byte : (x : ℕ) → InLine (escape_byte x)
InLine-escape_byte x = elim (cases_lt x 93) [
  | inl low ↦ escape_below 93 low_escapes x low
  | inr high ↦ rw (escape_byte_plain x (λ e. omega arith) (λ e. omega arith) (omega arith)) (and_from _ _ (le-leb 32 x (omega arith)) refl)
]

InLine-escape : (s : List ℕ) → InLine (escape s)
InLine-escape [] = refl
InLine-escape (x ∷ s) = InLine-append (escape_byte x) (escape s) (InLine-escape_byte x) (InLine-escape s)

InLine-digits : (ds : List ℕ) → ((i : ℕ) → i < length ds → 48 ≤ get_or ds i 0) → InLine ds
InLine-digits [] h = refl
InLine-digits (d ∷ ds) h = let first = h 0 (omega arith) in and_from _ _ (le-leb 32 d (omega arith)) (InLine-digits ds (λ i l. h (suc i) (omega arith)))

InLine-decimal : (s : List ℕ) → IsDecimal s → InLine s
InLine-decimal s h = rw h.2 (InLine-digits (decimal h.0) (λ i l. (digit_at _ i (decimal_is_IsNumeral h.0 h.1).0.1 l).0))

-- a token whose text is given as it is
abbrev TokenInLine : Token → Type 0
TokenInLine (Token.number s) = InLine s
TokenInLine t = Unit {0}

abbrev TokensInLine : List Token → Type 0
TokensInLine [] = Unit {0}
TokensInLine (t ∷ ts) = TokenInLine t × TokensInLine ts

InLine-quoted : (s : List ℕ) → InLine (quoted s)
InLine-quoted s = InLine-append (escape s) (34 ∷ []) (InLine-escape s) refl

InLine-token_text : (t : Token) → TokenInLine t → InLine (token_text t)
InLine-token_text Token.begin_object h = refl
InLine-token_text Token.end_object h = refl
InLine-token_text Token.begin_array h = refl
InLine-token_text Token.end_array h = refl
InLine-token_text (Token.key s) h = InLine-append (quoted s) (58 ∷ []) (InLine-quoted s) refl
InLine-token_text (Token.string s) h = InLine-quoted s
InLine-token_text (Token.number s) h = h
InLine-token_text (Token.boolean true) h = refl
InLine-token_text (Token.boolean false) h = refl
InLine-token_text Token.null h = refl
InLine-token_text Token.bad h = refl

InLine-comma : (b : Bool) → InLine (cond b (44 ∷ []) [])
InLine-comma true = refl
InLine-comma false = refl

InLine-print_from : (c : Bool) (ts : List Token) → TokensInLine ts → InLine (print_from c ts)
unfolding print_from
InLine-print_from c [] h = refl
InLine-print_from c (t ∷ ts) h =
    let rest = print_from (ends t) ts in
    InLine-append (separator c t) (token_text t ++ rest) (InLine-comma (c && begins t))
    (InLine-append (token_text t) rest (InLine-token_text t h.0) (InLine-print_from (ends t) ts h.1))

mutual
  tokens_in_line : (j : Json) (rest : List Token) → HasDecimals j → TokensInLine rest → TokensInLine (json_tokens j ++ rest)
  tokens_in_line null rest h k = (tt, k)
  tokens_in_line (boolean b) rest h k = (tt, k)
  tokens_in_line (number s) rest h k = (InLine-decimal s h, k)
  tokens_in_line (string s) rest h k = (tt, k)
  tokens_in_line (array js) rest h k = (tt, items_in_line js rest h k)
  tokens_in_line (object ms) rest h k = (tt, members_in_line ms rest h k)

  items_in_line : (js : Items) (rest : List Token) → ItemsHaveDecimals js → TokensInLine rest → TokensInLine (items_tokens js ++ rest)
  items_in_line no_items rest h k = (tt, k)
  items_in_line (item j js) rest h k =
      subst TokensInLine (sym (append_assoc (json_tokens j) (items_tokens js) rest)) (tokens_in_line j (items_tokens js ++ rest) h.0 (items_in_line js rest h.1 k))

  members_in_line : (ms : Members) (rest : List Token) → MembersHaveDecimals ms → TokensInLine rest → TokensInLine (members_tokens ms ++ rest)
  members_in_line no_members rest h k = (tt, k)
  members_in_line (member name j ms) rest h k =
      (tt, subst TokensInLine (sym (append_assoc (json_tokens j) (members_tokens ms) rest)) (tokens_in_line j (members_tokens ms ++ rest) h.0 (members_in_line ms rest h.1 k)))

pub print_in_line : (j : Json) → HasDecimals j → list_all is_in_line (print_from false (json_tokens j)) ≡ true
print_in_line j h = InLine-print_from false (json_tokens j) (subst TokensInLine (append-nil (json_tokens j)) (tokens_in_line j [] h tt))
