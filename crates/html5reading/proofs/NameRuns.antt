-- The held text of a name when it is decided, and what the whole text after `&` says of it.
use Rattle.std.proofs.Common.{◌≡◌, ℕ, ◌+◌, ◌-◌, ◌<◌, Bool, true, false, ◌&&◌, ◌||◌, List, [], ◌∷◌, ◌++◌, take, drop, length, length-append, add-one, subst, None, Some, if◌then◌else◌, refl, sym, ap, ◌∙◌, arith, suc}
use Rattle.std.specs.Prelude.{◌≢◌, All, IsTrue, codes}
use Rattle.std.specs.Bool.{nat_eq}
use Rattle.std.specs.Char.{is_ascii_alphanumeric}
use Rattle.std.specs.List.{list_all, starts_with}
use Rattle.std.specs.Option.{is_none}
use Rattle.std.specs.Str.{bytes_eq}
use Rattle.std.proofs.Math.Bool.{and-false, or-true}
use Rattle.std.proofs.Math.Seq.{take-append_seam, take-append-add}
use Rattle.std.proofs.lemmas.Bool.{and_parts, or_from, ne_eqb, false≢true}
use Rattle.std.proofs.lemmas.Bool.Decides.{nat_tests, Decides-eqb}
use Rattle.std.proofs.lemmas.List.{append-nil, append_assoc}
use Rattle.std.proofs.lemmas.List.Elements.{All-head, All-tail}
use Rattle.std.proofs.lemmas.List.Folds.{list_all-append}
use Rattle.std.proofs.lemmas.Slice.Eq.{starts_is}
use Rattle.html5reading.specs.Characters.{number_sign}
use Rattle.html5reading.specs.Reference.{longest_name, longer, first_or, is_undecided}
use Rattle.html5reading.specs.Slice.{run_of, run_while}
use Rattle.html5reading.proofs.TableNames.{longest-cut}
use Rattle.markup5ever.specs.NamedReferences.{NamedReference, IsTable, begins_name, is_plain_name}
use Rattle.markup5ever.proofs.NameOrder.{begins-itself}

-- ---- one character more

abbrev pub IsNoNumber : List ℕ → Type 0
IsNoNumber text = first_or text None ≢ Some number_sign

pub undecided-name : (references : List NamedReference) (held : List ℕ) (c : ℕ) → IsNoNumber (held ++ c ∷ [])
    → is_undecided references (held ++ c ∷ []) ≡ (begins_name references (held ++ c ∷ []) || (list_all is_ascii_alphanumeric (held ++ c ∷ []) && is_none (longest_name references (held ++ c ∷ []))))
unfolding is_undecided
undecided-name references [] c other = rw (ne_eqb c number_sign (λ e. other (ap Some e))) refl
undecided-name references (d ∷ held) c other = rw (ne_eqb d number_sign (λ e. other (ap Some e))) refl

no_number-front : (held : List ℕ) (c : ℕ) (text : List ℕ) → IsNoNumber (held ++ c ∷ text) → IsNoNumber (held ++ c ∷ [])
no_number-front [] c text other = other
no_number-front (d ∷ held) c text other = other

-- the first character after the held text
module _ (P : List ℕ → Type 0) (held : List ℕ) (c : ℕ) (text : List ℕ) where
  pushed : P (held ++ c ∷ text) → P ((held ++ c ∷ []) ++ text)
  pushed h = subst P (sym (append_assoc held (c ∷ []) text)) h

-- ---- the longest name

or-left_false : (a b : Bool) → a || b ≡ false → a ≡ false
or-left_false true b h = h
or-left_false false b h = refl

-- when no name begins with one character more, the longest name stands before it
longest-after : (references : List NamedReference) (held : List ℕ) (c : ℕ) (text : List ℕ) → begins_name references (held ++ c ∷ []) ≡ false
    → longest_name references (held ++ c ∷ text) ≡ longest_name references held
longest-after references held c text none =
    let within : length held < length (held ++ c ∷ text) = omega (arith, length-append held (c ∷ text)) in
    let cut : take (suc (length held)) (held ++ c ∷ text) ≡ held ++ c ∷ [] = ap (λ n. take n (held ++ c ∷ text)) (sym (add-one (length held))) ∙ take-append-add held (c ∷ text) 1 in
    longest-cut references (held ++ c ∷ text) (length held) within (ap (begins_name references) cut ∙ none)
    ∙ ap (longest_name references) (take-append_seam held (c ∷ text))

-- the longest name that begins the held text is the longest that begins the whole text
pub longest-run : (references : List NamedReference) (held text : List ℕ) → IsNoNumber (held ++ text)
    → longest_name references (held ++ run_while (is_undecided references) held text) ≡ longest_name references (held ++ text)
unfolding run_while
longest-run references held [] other = refl
longest-run references held (c ∷ text) other =
    let more : List ℕ = run_while (is_undecided references) (held ++ c ∷ []) text in
    elim (is_undecided references (held ++ c ∷ [])) as (λ b. is_undecided references (held ++ c ∷ []) ≡ b → longest_name references (held ++ (if b then c ∷ more else [])) ≡ longest_name references (held ++ c ∷ text)) [
      | true ↦ λ same.
          ap (longest_name references) (sym (append_assoc held (c ∷ []) more))
          ∙ longest-run references (held ++ c ∷ []) text (pushed IsNoNumber held c text other)
          ∙ ap (longest_name references) (append_assoc held (c ∷ []) text)
      | false ↦ λ decides.
          ap (longest_name references) (append-nil held)
          ∙ sym (longest-after references held c text (or-left_false (begins_name references (held ++ c ∷ [])) _ (sym (undecided-name references held c (no_number-front held c text other)) ∙ decides)))
    ] refl

-- ---- prefixes of a text that a name begins, or none

starts-longer : (text more name : List ℕ) → starts_with nat_eq text name ≡ true → starts_with nat_eq (text ++ more) name ≡ true
starts-longer text more name starts =
    let parts : text ≡ name ++ drop (length name) text = (starts_is Decides-eqb text name (starts_with nat_eq text name) refl).0 starts in
    (starts_is Decides-eqb (text ++ more) name (starts_with nat_eq (text ++ more) name) refl).1 (drop (length name) text ++ more)
    (ap (λ l. l ++ more) parts ∙ append_assoc name (drop (length name) text) more)

-- of a name and a text that both begin another, one begins the other
starts-either : (text more name : List ℕ) → starts_with nat_eq (text ++ more) name ≡ true → starts_with nat_eq text name ≡ false → starts_with nat_eq name text ≡ true
starts-either [] more name starts other = refl
starts-either (a ∷ text) more [] starts other = absurd cc
starts-either (a ∷ text) more (x ∷ name) starts other =
    let p = and_parts (nat_eq x a) (starts_with nat_eq (text ++ more) name) starts in
    let later : starts_with nat_eq text name ≡ false = rw (p.0) at other in
    let rest = starts-either text more name p.1 later in
    grind (arith, nat_tests)

-- a text that no name begins
unnamed-parts : (x : NamedReference) (references : List NamedReference) (text : List ℕ) → longest_name (x ∷ references) text ≡ None
    → (starts_with nat_eq text x.name ≡ false) × (longest_name references text ≡ None)
unfolding longest_name
unnamed-parts x references text e =
    elim (starts_with nat_eq text x.name) as (λ b. (if b then Some (longer x (longest_name references text)) else longest_name references text) ≡ None → (b ≡ false) × (longest_name references text ≡ None)) [
      | true ↦ λ is. absurd cc
      | false ↦ λ is. (refl, is)
    ] e

unnamed-front : (references : List NamedReference) (text more : List ℕ) → longest_name references (text ++ more) ≡ None → longest_name references text ≡ None
unfolding longest_name
unnamed-front [] text more e = refl
unnamed-front (x ∷ references) text more e =
    let p = unnamed-parts x references (text ++ more) e in
    elim (starts_with nat_eq text x.name) as (λ b. starts_with nat_eq text x.name ≡ b → (if b then Some (longer x (longest_name references text)) else longest_name references text) ≡ None) [
      | true ↦ λ starts. absurd (false≢true (sym p.0 ∙ starts-longer text more x.name starts))
      | false ↦ λ starts. unnamed-front references text more p.1
    ] refl

-- where a name begins a text and more, but none begins the text, the text begins a name
named-front : (references : List NamedReference) (text more : List ℕ) → is_none (longest_name references (text ++ more)) ≡ false → is_none (longest_name references text) ≡ true → begins_name references text ≡ true
unfolding longest_name begins_name
named-front [] text more some none = absurd (false≢true (sym some))
named-front (x ∷ references) text more some none =
    elim (starts_with nat_eq text x.name) as (λ b. starts_with nat_eq text x.name ≡ b → is_none (if b then Some (longer x (longest_name references text)) else longest_name references text) ≡ true → starts_with nat_eq x.name text || begins_name references text ≡ true) [
      | true ↦ λ starts is. absurd (false≢true is)
      | false ↦ λ starts is.
          elim (starts_with nat_eq (text ++ more) x.name) as (λ b. starts_with nat_eq (text ++ more) x.name ≡ b → is_none (if b then Some (longer x (longest_name references (text ++ more))) else longest_name references (text ++ more)) ≡ false → starts_with nat_eq x.name text || begins_name references text ≡ true) [
            | true ↦ λ whole same. rw (starts-either text more x.name whole starts) refl
            | false ↦ λ whole same. rw (named-front references text more same is) (or-true (starts_with nat_eq x.name text))
          ] refl some
    ] refl none

-- ---- where a name is decided

absorbed : (b a n : Bool) → (n ≡ true → b ≡ true) → b || (a && n) ≡ b
absorbed true a n h = refl
absorbed false a true h = absurd (false≢true (h refl))
absorbed false a false h = and-false a

-- where a name begins the text, the held text is the longest prefix of the text that begins a name
pub held-named : (references : List NamedReference) (held text : List ℕ) → IsNoNumber (held ++ text) → is_none (longest_name references (held ++ text)) ≡ false
    → run_while (is_undecided references) held text ≡ run_while (begins_name references) held text
unfolding run_while
held-named references held [] other some = refl
held-named references held (c ∷ text) other some =
    let front : List ℕ = held ++ c ∷ [] in
    let whole : is_none (longest_name references (front ++ text)) ≡ false = pushed (λ l. is_none (longest_name references l) ≡ false) held c text some in
    let same : is_undecided references front ≡ begins_name references front =
    undecided-name references held c (no_number-front held c text other)
    ∙ absorbed (begins_name references front) (list_all is_ascii_alphanumeric front) (is_none (longest_name references front)) (named-front references front text whole) in
    rw (same, held-named references front text (pushed IsNoNumber held c text other) whole) refl

-- a plain name goes on after letters and digits alone
pub odd-within : (p : ℕ → Bool) (before : List ℕ) (c : ℕ) (afterwards : List ℕ) → p c ≡ false → list_all p (before ++ c ∷ afterwards) ≡ false
odd-within p before c afterwards odd = list_all-append p before (c ∷ afterwards) ∙ rw odd (and-false (list_all p before))

-- in a plain name a character that is neither a letter nor a digit stands last
plain-end : (before : List ℕ) (c : ℕ) (afterwards : List ℕ) → is_plain_name (before ++ c ∷ afterwards) ≡ true → is_ascii_alphanumeric c ≡ false → afterwards ≡ []
unfolding is_plain_name
plain-end before c [] plain odd = refl
plain-end before c (d ∷ afterwards) plain odd =
    let name : List ℕ = before ++ c ∷ d ∷ afterwards in
    let len : length name - 1 ≡ length before + suc (length afterwards) = omega (arith, length-append before (c ∷ d ∷ afterwards)) in
    let cut : take (length name - 1) name ≡ before ++ c ∷ take (length afterwards) (d ∷ afterwards) = ap (λ n. take n name) len ∙ take-append-add before (c ∷ d ∷ afterwards) (suc (length afterwards)) in
    absurd (elim (bytes_eq (drop (length name - 1) name) (codes ";")) as (λ b. list_all is_ascii_alphanumeric (if b then take (length name - 1) name else name) ≡ true → ⊥) [
      | true ↦ λ letters. false≢true (sym (odd-within is_ascii_alphanumeric before c (take (length afterwards) (d ∷ afterwards)) odd) ∙ ap (list_all is_ascii_alphanumeric) (sym cut) ∙ letters)
      | false ↦ λ letters. false≢true (sym (odd-within is_ascii_alphanumeric before c (d ∷ afterwards) odd) ∙ letters)
    ] (and_parts _ _ plain).1)

abbrev ArePlain : List NamedReference → Type 0
ArePlain references = All (λ entry. IsTrue (is_plain_name entry.name)) references

-- so a text that ends with another character begins no name but itself
whole-name : (name held : List ℕ) (c : ℕ) → is_plain_name name ≡ true → is_ascii_alphanumeric c ≡ false → starts_with nat_eq name (held ++ c ∷ []) ≡ true
    → starts_with nat_eq (held ++ c ∷ []) name ≡ true
whole-name name held c plain odd begins =
    let front : List ℕ = held ++ c ∷ [] in
    let parts : name ≡ front ++ drop (length front) name = (starts_is Decides-eqb name front (starts_with nat_eq name front) refl).0 begins in
    let split : name ≡ held ++ c ∷ drop (length front) name = parts ∙ append_assoc held (c ∷ []) (drop (length front) name) in
    let none : drop (length front) name ≡ [] = plain-end held c (drop (length front) name) (subst (λ n. is_plain_name n ≡ true) split plain) odd in
    let same : name ≡ front = split ∙ ap (λ l. held ++ c ∷ l) none in
    ap (starts_with nat_eq front) same ∙ begins-itself front

-- where a text ends with such a character, and no name begins the text, the text begins no name
unnamed-begins : (references : List NamedReference) (held : List ℕ) (c : ℕ) → ArePlain references → is_ascii_alphanumeric c ≡ false → longest_name references (held ++ c ∷ []) ≡ None
    → begins_name references (held ++ c ∷ []) ≡ false
unfolding begins_name
unnamed-begins [] held c plain odd e = refl
unnamed-begins (x ∷ references) held c plain odd e =
    let p = unnamed-parts x references (held ++ c ∷ []) e in
    or_from (starts_with nat_eq x.name (held ++ c ∷ [])) (begins_name references (held ++ c ∷ []))
    (elim (starts_with nat_eq x.name (held ++ c ∷ [])) as (λ b. starts_with nat_eq x.name (held ++ c ∷ []) ≡ b → b ≡ false) [
      | true ↦ λ begins. sym (whole-name x.name held c (All-head (λ entry. IsTrue (is_plain_name entry.name)) x references plain) odd begins) ∙ p.0
      | false ↦ λ begins. refl
    ] refl)
    (unnamed-begins references held c (All-tail (λ entry. IsTrue (is_plain_name entry.name)) x references plain) odd p.1)

-- when no name begins the text, the held text is its letters and digits
pub held-unnamed : (references : List NamedReference) (held text : List ℕ) → ArePlain references → IsNoNumber (held ++ text) → longest_name references (held ++ text) ≡ None
    → list_all is_ascii_alphanumeric held ≡ true → run_while (is_undecided references) held text ≡ run_of is_ascii_alphanumeric text
unfolding run_while run_of
held-unnamed references held [] plain other none all = refl
held-unnamed references held (c ∷ text) plain other none all =
    let front : List ℕ = held ++ c ∷ [] in
    let whole : longest_name references (front ++ text) ≡ None = pushed (λ l. longest_name references l ≡ None) held c text none in
    let unnamed : longest_name references front ≡ None = unnamed-front references front text whole in
    let named = undecided-name references held c (no_number-front held c text other) in
    elim (is_ascii_alphanumeric c) as (λ b. is_ascii_alphanumeric c ≡ b → (if is_undecided references front then c ∷ run_while (is_undecided references) front text else []) ≡ (if b then c ∷ run_of is_ascii_alphanumeric text else [])) [
      | true ↦ λ letter.
          let longer_all : list_all is_ascii_alphanumeric front ≡ true = list_all-append is_ascii_alphanumeric held (c ∷ []) ∙ rw (all, letter) refl in
          let goes : is_undecided references front ≡ true = named ∙ rw (longer_all, unnamed) (or-true (begins_name references front)) in
          rw goes (ap (λ l. c ∷ l) (held-unnamed references front text plain (pushed IsNoNumber held c text other) whole longer_all))
      | false ↦ λ odd.
          let ends : is_undecided references front ≡ false = named ∙ rw (unnamed-begins references held c plain odd unnamed, odd-within is_ascii_alphanumeric held c [] odd) refl in
          rw ends refl
    ] refl

-- both in one
pub held-of_text : (references : List NamedReference) (text : List ℕ) → IsTable references → IsNoNumber text
    → run_while (is_undecided references) [] text ≡ (if is_none (longest_name references text) then run_of is_ascii_alphanumeric text else run_while (begins_name references) [] text)
held-of_text references text table other =
    elim (longest_name references text) as (λ o. longest_name references text ≡ o → run_while (is_undecided references) [] text ≡ (if is_none o then run_of is_ascii_alphanumeric text else run_while (begins_name references) [] text)) [
      | None ↦ λ none. held-unnamed references [] text table.plain other none refl
      | Some entry ↦ λ some. held-named references [] text other (ap is_none some)
    ] refl
