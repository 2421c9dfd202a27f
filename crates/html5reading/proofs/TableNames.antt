-- The names of a table: which begin a text, which a text begins, and the longest.
use Rattle.std.proofs.Common.{◌≡◌, ℕ, ◌-◌, ◌<◌, ◌≤◌, Bool, true, false, ◌&&◌, ◌||◌, List, [], ◌∷◌, ◌++◌, take, drop, length, length-append, subst, Option, None, Some, if◌then◌else◌, refl, sym, ap, ◌∙◌, arith, zero, suc}
use Rattle.std.specs.Prelude.{◌==◌, All, IsTrue, codes}
use Rattle.std.specs.Bool.{nat_eq, nat_lt}
use Rattle.std.specs.Char.{is_ascii_alphanumeric}
use Rattle.std.specs.List.{list_all, starts_with}
use Rattle.std.specs.Str.{bytes_eq}
use Rattle.std.proofs.Math.Bool.{or-true}
use Rattle.std.proofs.lemmas.Bool.{and_parts, or_from}
use Rattle.std.proofs.lemmas.Bool.Decides.{nat_tests, Decides-eqb}
use Rattle.std.proofs.lemmas.List.{take-append-drop}
use Rattle.std.proofs.lemmas.List.Elements.{All-head, All-tail}
use Rattle.std.proofs.lemmas.List.Folds.{list_all-append}
use Rattle.std.proofs.lemmas.Option.{some_pair_parts}
use Rattle.std.proofs.lemmas.Slice.Eq.{starts_is}
use Rattle.html5reading.specs.Characters.{semicolon}
use Rattle.html5reading.specs.Reference.{longest_name, longer}
use Rattle.markup5ever.specs.NamedReferences.{NamedReference, begins_name, characters_of_name, is_plain_name}
use Rattle.markup5ever.proofs.NameOrder.{bytes_eq-same, begins-itself}

-- ---- one name

-- a name that isn't the whole text begins it where it begins the text without its last character
starts-push : (p n : List ℕ) (c : ℕ) → bytes_eq n (p ++ c ∷ []) ≡ false → starts_with nat_eq (p ++ c ∷ []) n ≡ starts_with nat_eq p n
starts-push [] [] c other = refl
starts-push [] (x ∷ []) c other = other
starts-push [] (x ∷ y ∷ n) c other = grind (arith, nat_tests)
starts-push (a ∷ p) [] c other = refl
starts-push (a ∷ p) (x ∷ n) c other =
    elim (nat_eq x a) as (λ b. b && bytes_eq n (p ++ c ∷ []) ≡ false → b && starts_with nat_eq (p ++ c ∷ []) n ≡ b && starts_with nat_eq p n) [
      | true ↦ λ rest. starts-push p n c rest
      | false ↦ λ rest. refl
    ] other

-- a name that doesn't begin with one character more begins the text where it begins the text up to there
starts-cut : (text n : List ℕ) (len : ℕ) → len < length text → starts_with nat_eq n (take (suc len) text) ≡ false → starts_with nat_eq text n ≡ starts_with nat_eq (take len text) n
starts-cut [] n len within other = absurd (omega arith)
starts-cut (a ∷ text) [] len within other = refl
starts-cut (a ∷ text) (x ∷ n) zero within other = grind (arith, nat_tests)
starts-cut (a ∷ text) (x ∷ n) (suc len) within other =
    elim (nat_eq x a) as (λ b. nat_eq x a ≡ b → b && starts_with nat_eq text n ≡ b && starts_with nat_eq (take len text) n) [
      | true ↦ λ same.
          let later : starts_with nat_eq n (take (suc len) text) ≡ false = grind (arith, nat_tests) in
          starts-cut text n len (omega arith) later
      | false ↦ λ same. refl
    ] refl

starts-length : (text n : List ℕ) → starts_with nat_eq text n ≡ true → length n ≤ length text
starts-length text n starts =
    let parts : text ≡ n ++ drop (length n) text = (starts_is Decides-eqb text n (starts_with nat_eq text n) refl).0 starts in
    omega (arith, ap length parts, length-append n (drop (length n) text))

starts-shorter : (text n : List ℕ) → starts_with nat_eq text n ≡ true → bytes_eq n text ≡ false → length n < length text
starts-shorter [] [] starts other = absurd cc
starts-shorter [] (x ∷ n) starts other = absurd cc
starts-shorter (a ∷ text) [] starts other = omega arith
starts-shorter (a ∷ text) (x ∷ n) starts other =
    let parts = and_parts (nat_eq x a) (starts_with nat_eq text n) starts in
    let rest : bytes_eq n text ≡ false = rw (parts.0) at other in
    let shorter = starts-shorter text n parts.1 rest in
    omega arith

-- ---- the longest of a table

-- the longest name begins the text
longest-starts : (references : List NamedReference) (text : List ℕ) (found : NamedReference) → longest_name references text ≡ Some found → starts_with nat_eq text found.name ≡ true
unfolding longest_name
longest-starts [] text found e = absurd cc
longest-starts (x ∷ references) text found e =
    elim (starts_with nat_eq text x.name) as (λ b. starts_with nat_eq text x.name ≡ b → (if b then Some (longer x (longest_name references text)) else longest_name references text) ≡ Some found → starts_with nat_eq text found.name ≡ true) [
      | true ↦ λ starts same.
          elim (longest_name references text) as (λ o. longest_name references text ≡ o → Some (longer x o) ≡ Some found → starts_with nat_eq text found.name ≡ true) [
            | None ↦ λ none is. let same : x ≡ found = cc in rw same at starts
            | Some other ↦ λ some is.
                elim (nat_lt (length x.name) (length other.name)) as (λ b. Some (if b then other else x) ≡ Some found → starts_with nat_eq text found.name ≡ true) [
                  | true ↦ λ is. let same : other ≡ found = cc in rw same at (longest-starts references text other some)
                  | false ↦ λ is. let same : x ≡ found = cc in rw same at starts
                ] is
          ] refl same
      | false ↦ λ starts same. longest-starts references text found same
    ] refl e

-- the entry of a name
pub record IsEntryOf (found : Option NamedReference) (name : List ℕ) (first : ℕ) (second : Option ℕ) : Type 0 where
  pub entry : NamedReference
  pub is : found ≡ Some entry
  pub name_is : entry.name ≡ name
  pub first_is : entry.first ≡ first
  pub second_is : entry.second ≡ second

-- a text that is a name itself
pub longest-found : (references : List NamedReference) (name : List ℕ) (first : ℕ) (second : Option ℕ) → characters_of_name references name ≡ Some (first, second) → IsEntryOf (longest_name references name) name first second
unfolding longest_name characters_of_name
longest-found [] name first second e = absurd cc
longest-found (x ∷ references) name first second e =
    elim (bytes_eq x.name name) as (λ b. bytes_eq x.name name ≡ b → (if b then Some (x.first, x.second) else characters_of_name references name) ≡ Some (first, second) → IsEntryOf (longest_name (x ∷ references) name) name first second) [
      | true ↦ λ same is.
          let parts = some_pair_parts x.first first x.second second is in
          let whole : x.name ≡ name = bytes_eq-same x.name name same in
          let starts : starts_with nat_eq name x.name ≡ true = rw whole (begins-itself name) in
          rw starts (
          elim (longest_name references name) as (λ o. longest_name references name ≡ o → IsEntryOf (Some (longer x o)) name first second) [
            | None ↦ λ none. record { entry = x; is = refl; name_is = whole; first_is = parts.0; second_is = parts.1 }
            | Some other ↦ λ some.
                let within : length other.name ≤ length name = starts-length name other.name (longest-starts references name other some) in
                let long : length x.name ≡ length name = ap length whole in
                let no : nat_lt (length x.name) (length other.name) ≡ false = grind (arith, nat_tests) in
                rw no (record { entry = x; is = refl; name_is = whole; first_is = parts.0; second_is = parts.1 })
          ] refl)
      | false ↦ λ other is.
          let rest = longest-found references name first second is in
          rw rest.is (
          elim (starts_with nat_eq name x.name) as (λ b. starts_with nat_eq name x.name ≡ b → IsEntryOf (if b then Some (longer x (Some rest.entry)) else Some rest.entry) name first second) [
            | true ↦ λ starts.
                let shorter : length x.name < length name = starts-shorter name x.name starts other in
                let long : length rest.entry.name ≡ length name = ap length rest.name_is in
                let yes : nat_lt (length x.name) (length rest.entry.name) ≡ true = grind (arith, nat_tests) in
                rw yes (record { entry = rest.entry; is = refl; name_is = rest.name_is; first_is = rest.first_is; second_is = rest.second_is })
            | false ↦ λ starts. record { entry = rest.entry; is = refl; name_is = rest.name_is; first_is = rest.first_is; second_is = rest.second_is }
          ] refl)
    ] refl e

-- a text that is not a name itself begins with the names of the text without its last character
pub longest-push : (references : List NamedReference) (p : List ℕ) (c : ℕ) → characters_of_name references (p ++ c ∷ []) ≡ None → longest_name references (p ++ c ∷ []) ≡ longest_name references p
unfolding longest_name characters_of_name
longest-push [] p c e = refl
longest-push (x ∷ references) p c e =
    elim (bytes_eq x.name (p ++ c ∷ [])) as (λ b. bytes_eq x.name (p ++ c ∷ []) ≡ b → (if b then Some (x.first, x.second) else characters_of_name references (p ++ c ∷ [])) ≡ None → longest_name (x ∷ references) (p ++ c ∷ []) ≡ longest_name (x ∷ references) p) [
      | true ↦ λ same is. absurd cc
      | false ↦ λ other is. rw (starts-push p x.name c other, longest-push references p c is) refl
    ] refl e

-- when no name begins with one character more, the names of the text are those up to there
pub longest-cut : (references : List NamedReference) (text : List ℕ) (len : ℕ) → len < length text → begins_name references (take (suc len) text) ≡ false → longest_name references text ≡ longest_name references (take len text)
unfolding longest_name begins_name
longest-cut [] text len within other = refl
longest-cut (x ∷ references) text len within other =
    elim (starts_with nat_eq x.name (take (suc len) text)) as (λ b. starts_with nat_eq x.name (take (suc len) text) ≡ b → b || begins_name references (take (suc len) text) ≡ false → longest_name (x ∷ references) text ≡ longest_name (x ∷ references) (take len text)) [
      | true ↦ λ begins is. absurd cc
      | false ↦ λ no is. rw (starts-cut text x.name len within no, longest-cut references text len within is) refl
    ] refl other

-- a name has a letter, so none begins a text of no character
starts-nil : (n : List ℕ) → is_plain_name n ≡ true → starts_with nat_eq [] n ≡ false
unfolding is_plain_name
starts-nil [] plain = absurd cc
starts-nil (x ∷ n) plain = refl

pub longest-nil : (references : List NamedReference) → All (λ entry. IsTrue (is_plain_name entry.name)) references → longest_name references [] ≡ None
unfolding longest_name
longest-nil [] plain = refl
longest-nil (x ∷ references) plain =
    rw (starts-nil x.name (All-head (λ entry. IsTrue (is_plain_name entry.name)) x references plain), longest-nil references (All-tail (λ entry. IsTrue (is_plain_name entry.name)) x references plain)) refl

-- ---- plain names

unfoldable pub is_name_character : ℕ → Bool
is_name_character c = is_ascii_alphanumeric c || (c == semicolon)

letters_named : (letters : List ℕ) → list_all is_ascii_alphanumeric letters ≡ true → list_all is_name_character letters ≡ true
unfolding is_name_character
letters_named [] all = refl
letters_named (c ∷ letters) all =
    let parts = and_parts (is_ascii_alphanumeric c) (list_all is_ascii_alphanumeric letters) all in
    rw (parts.0) (letters_named letters parts.1)

-- a plain name is letters, digits and semicolons
pub named_alone : (name : List ℕ) → is_plain_name name ≡ true → list_all is_name_character name ≡ true
unfolding is_plain_name is_name_character
named_alone name plain =
    elim (bytes_eq (drop (length name - 1) name) (codes ";")) as (λ b. bytes_eq (drop (length name - 1) name) (codes ";") ≡ b
    → list_all is_ascii_alphanumeric (if b then take (length name - 1) name else name) ≡ true → list_all is_name_character name ≡ true) [
      | true ↦ λ end letters.
          let last : drop (length name - 1) name ≡ codes ";" = bytes_eq-same (drop (length name - 1) name) (codes ";") end in
          let parts : take (length name - 1) name ++ codes ";" ≡ name = ap (λ l. take (length name - 1) name ++ l) (sym last) ∙ take-append-drop (length name - 1) name in
          subst (λ l. list_all is_name_character l ≡ true) parts (list_all-append is_name_character (take (length name - 1) name) (codes ";") ∙ rw (letters_named (take (length name - 1) name) letters) refl)
      | false ↦ λ end letters. letters_named name letters
    ] refl (and_parts _ _ plain).1

-- a text with a character that no name has begins no name
pub none_begins : (references : List NamedReference) (text : List ℕ) → All (λ entry. IsTrue (is_plain_name entry.name)) references → list_all is_name_character text ≡ false → begins_name references text ≡ false
unfolding begins_name
none_begins [] text plain odd = refl
none_begins (x ∷ references) text plain odd =
    let rest = none_begins references text (All-tail (λ entry. IsTrue (is_plain_name entry.name)) x references plain) odd in
    let named : list_all is_name_character x.name ≡ true = named_alone x.name (All-head (λ entry. IsTrue (is_plain_name entry.name)) x references plain) in
    or_from (starts_with nat_eq x.name text) (begins_name references text) (
    elim (starts_with nat_eq x.name text) as (λ b. starts_with nat_eq x.name text ≡ b → b ≡ false) [
      | true ↦ λ begins.
          let parts : x.name ≡ text ++ drop (length text) x.name = (starts_is Decides-eqb x.name text (starts_with nat_eq x.name text) refl).0 begins in
          let split : list_all is_name_character x.name ≡ (list_all is_name_character text && list_all is_name_character (drop (length text) x.name)) = ap (list_all is_name_character) parts ∙ list_all-append is_name_character text (drop (length text) x.name) in
          absurd cc
      | false ↦ λ begins. refl
    ] refl) rest

-- ---- the name of an entry

-- a table has a name that begins with each prefix of it
begins-append : (text rest : List ℕ) → starts_with nat_eq (text ++ rest) text ≡ true
begins-append text rest =
    (starts_is Decides-eqb (text ++ rest) text (starts_with nat_eq (text ++ rest) text) refl).1 rest refl

pub begins-entry : (references : List NamedReference) (text rest : List ℕ) (found : ℕ × Option ℕ) → characters_of_name references (text ++ rest) ≡ Some found → begins_name references text ≡ true
unfolding begins_name characters_of_name
begins-entry [] text rest found e = absurd cc
begins-entry (x ∷ references) text rest found e =
    elim (bytes_eq x.name (text ++ rest)) as (λ b. bytes_eq x.name (text ++ rest) ≡ b → (if b then Some (x.first, x.second) else characters_of_name references (text ++ rest)) ≡ Some found → starts_with nat_eq x.name text || begins_name references text ≡ true) [
      | true ↦ λ same is. rw (bytes_eq-same x.name (text ++ rest) same, begins-append text rest) refl
      | false ↦ λ other is. rw (begins-entry references text rest found is) (or-true (starts_with nat_eq x.name text))
    ] refl e

pub plain-entry : (references : List NamedReference) (name : List ℕ) (found : ℕ × Option ℕ) → All (λ entry. IsTrue (is_plain_name entry.name)) references
    → characters_of_name references name ≡ Some found → is_plain_name name ≡ true
unfolding characters_of_name
plain-entry [] name found plain e = absurd cc
plain-entry (x ∷ references) name found plain e =
    elim (bytes_eq x.name name) as (λ b. bytes_eq x.name name ≡ b → (if b then Some (x.first, x.second) else characters_of_name references name) ≡ Some found → is_plain_name name ≡ true) [
      | true ↦ λ same is. subst (λ n. is_plain_name n ≡ true) (bytes_eq-same x.name name same) (All-head (λ entry. IsTrue (is_plain_name entry.name)) x references plain)
      | false ↦ λ other is. plain-entry references name found (All-tail (λ entry. IsTrue (is_plain_name entry.name)) x references plain) is
    ] refl e
