-- After the semicolon of a name no name goes on, so each character decides the reference.
use Rattle.std.proofs.Common.{◌≡◌, ℕ, ◌-◌, true, false, List, [], ◌∷◌, ◌++◌, take, drop, length, None, Some, refl, sym, ap, ◌∙◌, subst, append_assoc}
use Rattle.std.specs.Prelude.{◌≢◌, IsTrue, All, codes, if◌then◌else◌}
use Rattle.std.specs.Bool.{nat_eq}
use Rattle.std.specs.Char.{is_ascii_alphanumeric}
use Rattle.std.specs.List.{list_all, starts_with}
use Rattle.std.specs.Str.{bytes_eq}
use Rattle.std.proofs.lemmas.Bool.{and_parts, or_from, ne_eqb}
use Rattle.std.proofs.lemmas.Bool.Decides.{Decides-eqb}
use Rattle.std.proofs.lemmas.List.{take-append-drop}
use Rattle.std.proofs.lemmas.List.Elements.{All-head, All-tail}
use Rattle.std.proofs.lemmas.Slice.Eq.{starts_is}
use Rattle.html5reading.specs.Characters.{number_sign, semicolon}
use Rattle.html5reading.specs.Reference.{is_undecided, first_or}
use Rattle.html5reading.proofs.NameRuns.{odd-within}
use Rattle.markup5ever.specs.NamedReferences.{NamedReference, IsTable, begins_name, is_plain_name}
use Rattle.markup5ever.proofs.NameOrder.{bytes_eq-same}

-- letters and digits have no semicolon
no_semicolon : (front : List ℕ) (c : ℕ) (after letters : List ℕ) → list_all is_ascii_alphanumeric letters ≡ true → front ++ semicolon ∷ c ∷ after ≡ letters ++ semicolon ∷ [] → ⊥
no_semicolon [] c after [] all same = absurd cc
no_semicolon [] c after (d ∷ letters) all same = absurd cc
no_semicolon (x ∷ []) c after [] all same = absurd cc
no_semicolon (x ∷ y ∷ front) c after [] all same = absurd cc
no_semicolon (x ∷ front) c after (d ∷ letters) all same =
    no_semicolon front c after letters (and_parts (is_ascii_alphanumeric d) (list_all is_ascii_alphanumeric letters) all).1 (ap (drop 1) same)

-- a plain name has a semicolon at its end alone
plain-last : (front : List ℕ) (c : ℕ) (after : List ℕ) → is_plain_name (front ++ semicolon ∷ c ∷ after) ≡ true → ⊥
unfolding is_plain_name
plain-last front c after plain =
    let name : List ℕ = front ++ semicolon ∷ c ∷ after in
    elim (bytes_eq (drop (length name - 1) name) (codes ";")) as (λ b. bytes_eq (drop (length name - 1) name) (codes ";") ≡ b
    → list_all is_ascii_alphanumeric (if b then take (length name - 1) name else name) ≡ true → ⊥) [
      | true ↦ λ end letters.
          let last : drop (length name - 1) name ≡ codes ";" = bytes_eq-same (drop (length name - 1) name) (codes ";") end in
          let parts : name ≡ take (length name - 1) name ++ semicolon ∷ [] = sym (take-append-drop (length name - 1) name) ∙ ap (λ l. take (length name - 1) name ++ l) last in
          no_semicolon front c after (take (length name - 1) name) letters parts
      | false ↦ λ end letters.
          let odd : list_all is_ascii_alphanumeric name ≡ false = odd-within is_ascii_alphanumeric front semicolon (c ∷ after) refl in
          absurd cc
    ] refl (and_parts _ _ plain).1

-- no name begins with a semicolon and a character after it
none-after : (references : List NamedReference) (front : List ℕ) (c : ℕ) → All (λ entry. IsTrue (is_plain_name entry.name)) references → begins_name references (front ++ semicolon ∷ c ∷ []) ≡ false
unfolding begins_name
none-after [] front c plain = refl
none-after (x ∷ references) front c plain =
    let text : List ℕ = front ++ semicolon ∷ c ∷ [] in
    let rest = none-after references front c (All-tail (λ entry. IsTrue (is_plain_name entry.name)) x references plain) in
    let named : is_plain_name x.name ≡ true = All-head (λ entry. IsTrue (is_plain_name entry.name)) x references plain in
    or_from (starts_with nat_eq x.name text) (begins_name references text) (
    elim (starts_with nat_eq x.name text) as (λ b. starts_with nat_eq x.name text ≡ b → b ≡ false) [
      | true ↦ λ begins.
          let parts : x.name ≡ text ++ drop (length text) x.name = (starts_is Decides-eqb x.name text (starts_with nat_eq x.name text) refl).0 begins in
          let whole : x.name ≡ front ++ semicolon ∷ c ∷ drop (length text) x.name = parts ∙ append_assoc front (semicolon ∷ c ∷ []) (drop (length text) x.name) in
          absurd (plain-last front c (drop (length text) x.name) (subst (λ l. is_plain_name l ≡ true) whole named))
      | false ↦ λ begins. refl
    ] refl) rest

not_empty : (front : List ℕ) → [] ≡ front ++ semicolon ∷ [] → ⊥
not_empty [] same = absurd cc
not_empty (x ∷ front) same = absurd cc

-- if the held text ends with a semicolon, each character decides the reference
pub undecided-after : (references : List NamedReference) (held front : List ℕ) (c : ℕ) → IsTable references → first_or held None ≢ Some number_sign → held ≡ front ++ semicolon ∷ []
    → is_undecided references (held ++ c ∷ []) ≡ false
unfolding is_undecided
undecided-after references [] front c table other ends = absurd (not_empty front ends)
undecided-after references (d ∷ held) front c table other ends =
    let first : d ≢ number_sign = λ e. other (ap Some e) in
    let text : d ∷ (held ++ c ∷ []) ≡ front ++ semicolon ∷ c ∷ [] = ap (λ l. l ++ c ∷ []) ends ∙ append_assoc front (semicolon ∷ []) (c ∷ []) in
    let none : begins_name references (d ∷ (held ++ c ∷ [])) ≡ false = ap (begins_name references) text ∙ none-after references front c table.plain in
    let odd : list_all is_ascii_alphanumeric (d ∷ (held ++ c ∷ [])) ≡ false = ap (list_all is_ascii_alphanumeric) text ∙ odd-within is_ascii_alphanumeric front semicolon (c ∷ []) refl in
    rw (ne_eqb d number_sign first, none, odd) refl
