-- What ascending entries answer, and the same with one entry more.
use Rattle.std.proofs.Common.{◌≡◌, ℕ, Bool, true, false, ◌||◌, List, [], ◌∷◌, ◌++◌, take, drop, get_or, Option, None, Some, IsTrue, All, if◌then◌else◌, refl, sym, ap, ◌∙◌}
use Rattle.std.specs.Bool.{nat_eq}
use Rattle.std.specs.Cmp.Lexicographic.{slice_cmp}
use Rattle.std.specs.List.{AllByRecursion, insert, starts_with}
use Rattle.std.specs.Option.{option_or}
use Rattle.std.specs.Ordering.{nat_cmp, is_lt}
use Rattle.std.specs.Str.{bytes_eq}
use Rattle.std.specs.declared.cmp.Ordering.TheVariants.{Less, Greater}
use Rattle.std.proofs.lemmas.Bool.{or_from, or_left, or_right}
use Rattle.std.proofs.lemmas.List.{take-append-drop}
use Rattle.std.proofs.lemmas.List.Elements.{All-nil, All-from_recursion, recursion_from_All}
use Rattle.markup5ever.specs.NamedReferences.{NamedReference, begins_name, characters_of_name, is_plain_name, has_zero, comes_before, in_place, AreDistinct, IsAscending, IsTable}
use Rattle.markup5ever.specs.Place.{IsAt, IsGapFor}
use Rattle.markup5ever.proofs.NameOrder.{less_from_test, greater_from_less, less_from_greater, bytes_eq-cmp, bytes_eq-itself, bytes_eq-same, begins_not-before, begins-between, begins-itself}

-- ---- each of a list

all_weaker : {X : Type 0} (P Q : X → Type 0) → ((x : X) → P x → Q x) → (xs : List X) → AllByRecursion P xs → AllByRecursion Q xs
all_weaker P Q weaker [] all = tt
all_weaker P Q weaker (x ∷ xs) all = (weaker x all.0, all_weaker P Q weaker xs all.1)

all_both : {X : Type 0} (P Q R : X → Type 0) → ((x : X) → P x → Q x → R x) → (xs : List X) → AllByRecursion P xs → AllByRecursion Q xs → AllByRecursion R xs
all_both P Q R both [] all others = tt
all_both P Q R both (x ∷ xs) all others = (both x all.0 others.0, all_both P Q R both xs all.1 others.1)

-- one more in the middle
all_gap : {X : Type 0} (P : X → Type 0) (front back : List X) (e : X) → P e → AllByRecursion P (front ++ back) → AllByRecursion P (front ++ e ∷ back)
all_gap P [] back e here all = (here, all)
all_gap P (x ∷ front) back e here all = (all.0, all_gap P front back e here all.1)

-- ---- what entries answer

abbrev pub characters : NamedReference → ℕ × Option ℕ
characters entry = (entry.first, entry.second)

abbrev Other : List ℕ → NamedReference → Type 0
Other name entry = bytes_eq entry.name name ≡ false

pub characters-other : (entries : List NamedReference) (name : List ℕ) → AllByRecursion (Other name) entries → characters_of_name entries name ≡ None
unfolding characters_of_name
characters-other [] name others = refl
characters-other (entry ∷ entries) name others = rw (others.0) (characters-other entries name others.1)

pub characters-append : (xs ys : List NamedReference) (name : List ℕ) → characters_of_name (xs ++ ys) name ≡ option_or (characters_of_name xs name) (characters_of_name ys name)
unfolding characters_of_name
characters-append [] ys name = refl
characters-append (x ∷ xs) ys name =
    elim (bytes_eq x.name name) as (λ b. (if b then Some (characters x) else characters_of_name (xs ++ ys) name) ≡ option_or (if b then Some (characters x) else characters_of_name xs name) (characters_of_name ys name)) [ true ↦ refl | false ↦ characters-append xs ys name ]

pub begins-append : (xs ys : List NamedReference) (text : List ℕ) → begins_name (xs ++ ys) text ≡ begins_name xs text || begins_name ys text
unfolding begins_name
begins-append [] ys text = refl
begins-append (x ∷ xs) ys text =
    elim (starts_with nat_eq x.name text) as (λ b. b || begins_name (xs ++ ys) text ≡ (b || begins_name xs text) || begins_name ys text) [ true ↦ refl | false ↦ begins-append xs ys text ]

-- a name that has characters begins with itself
pub begins-found : (entries : List NamedReference) (name : List ℕ) (found : ℕ × Option ℕ) → characters_of_name entries name ≡ Some found → begins_name entries name ≡ true
unfolding characters_of_name begins_name
begins-found [] name found e = absurd cc
begins-found (x ∷ xs) name found e =
    elim (bytes_eq x.name name) as (λ b. bytes_eq x.name name ≡ b → (if b then Some (characters x) else characters_of_name xs name) ≡ Some found → begins_name (x ∷ xs) name ≡ true) [
      | true ↦ λ same _. or_left (starts_with nat_eq x.name name) (begins_name xs name) (rw (bytes_eq-same x.name name same) (begins-itself name))
      | false ↦ λ _ later. or_right (starts_with nat_eq x.name name) (begins_name xs name) (begins-found xs name found later)
    ] refl e

-- ---- ascending entries

abbrev After : List ℕ → NamedReference → Type 0
After name later = IsTrue (comes_before name later.name)

after_less : (name : List ℕ) (later : NamedReference) → After name later → slice_cmp nat_cmp name later.name ≡ Less
after_less name later after = less_from_test (slice_cmp nat_cmp name later.name) after

after_other : (name : List ℕ) (later : NamedReference) → After name later → Other name later
after_other name later after = bytes_eq-cmp later.name name Greater (greater_from_less name later.name (after_less name later after))

pub AreDistinct-ascending : (entries : List NamedReference) → IsAscending entries → AreDistinct entries
unfolding IsAscending AreDistinct
AreDistinct-ascending [] ascending = tt
AreDistinct-ascending (entry ∷ entries) ascending = (
  rw (characters-other entries entry.name (all_weaker (After entry.name) (Other entry.name) (after_other entry.name) entries ascending.0)) refl,
  AreDistinct-ascending entries ascending.1,
)

abbrev Own : List NamedReference → NamedReference → Type 0
Own entries entry = characters_of_name entries entry.name ≡ Some (entry.first, entry.second)

pub own-ascending : (entries : List NamedReference) → IsAscending entries → AllByRecursion (Own entries) entries
unfolding IsAscending characters_of_name
own-ascending [] ascending = tt
own-ascending (entry ∷ entries) ascending = (
  rw (bytes_eq-itself entry.name) refl,
  all_both (After entry.name) (Own entries) (Own (entry ∷ entries)) (λ later after own.
      let other : bytes_eq entry.name later.name ≡ false = bytes_eq-cmp entry.name later.name Less (after_less entry.name later after) in
      rw other own) entries ascending.0 (own-ascending entries ascending.1),
)

-- ---- a gap among ascending entries

abbrev Below : List ℕ → NamedReference → Type 0
Below name entry = slice_cmp nat_cmp entry.name name ≡ Less

abbrev Above : List ℕ → NamedReference → Type 0
Above name entry = slice_cmp nat_cmp entry.name name ≡ Greater

characters-gap : (front back : List NamedReference) (name : List ℕ) → AllByRecursion (Below name) front → AllByRecursion (Above name) back → characters_of_name (front ++ back) name ≡ None
characters-gap front back name below above =
    let none_below = characters-other front name (all_weaker (Below name) (Other name) (λ e less. bytes_eq-cmp e.name name Less less) front below) in
    let none_above = characters-other back name (all_weaker (Above name) (Other name) (λ e more. bytes_eq-cmp e.name name Greater more) back above) in
    rw (characters-append front back name, none_below, none_above) refl

in_place-gap : (front back : List NamedReference) (e : NamedReference) → AllByRecursion (Below e.name) front → AllByRecursion (Above e.name) back → in_place (front ++ back) e ≡ front ++ e ∷ back
unfolding in_place
in_place-gap [] [] e below above = refl
in_place-gap [] (x ∷ back) e below above =
    let first : comes_before e.name x.name ≡ true = ap is_lt (less_from_greater x.name e.name above.0) in
    rw first refl
in_place-gap (x ∷ front) back e below above =
    let later : comes_before e.name x.name ≡ false = ap is_lt (greater_from_less x.name e.name below.0) in
    rw later (ap (λ es. x ∷ es) (in_place-gap front back e below.1 above))

IsAscending-after : (front back : List NamedReference) → IsAscending (front ++ back) → IsAscending back
unfolding IsAscending
IsAscending-after [] back ascending = ascending
IsAscending-after (x ∷ front) back ascending = IsAscending-after front back ascending.1

IsAscending-gap : (front back : List NamedReference) (e : NamedReference) → IsAscending (front ++ back) → AllByRecursion (Below e.name) front → AllByRecursion (Above e.name) back → IsAscending (front ++ e ∷ back)
unfolding IsAscending
IsAscending-gap [] back e ascending below above =
    (all_weaker (Above e.name) (After e.name) (λ x more. ap is_lt (less_from_greater x.name e.name more)) back above, ascending)
IsAscending-gap (x ∷ front) back e ascending below above = (
  all_gap (After x.name) front back e (ap is_lt below.0) ascending.0,
  IsAscending-gap front back e ascending.1 below.1 above,
)

begins-below : (front : List NamedReference) (text : List ℕ) → AllByRecursion (Below text) front → begins_name front text ≡ false
unfolding begins_name
begins-below [] text below = refl
begins-below (x ∷ front) text below = or_from (starts_with nat_eq x.name text) (begins_name front text) (begins_not-before x.name text below.0) (begins-below front text below.1)

-- whether the first of the entries begins with the text
abbrev pub first_begins : List NamedReference → List ℕ → Bool
first_begins [] text = false
first_begins (x ∷ xs) text = starts_with nat_eq x.name text

-- where the first doesn't begin with the text, none does
none_begins : (x : NamedReference) (back : List NamedReference) (text : List ℕ) → slice_cmp nat_cmp text x.name ≡ Less → starts_with nat_eq x.name text ≡ false → AllByRecursion (After x.name) back → begins_name back text ≡ false
unfolding begins_name
none_begins x [] text above other after = refl
none_begins x (y ∷ back) text above other after =
    let next : starts_with nat_eq y.name text ≡ false =
    elim (starts_with nat_eq y.name text) as (λ b. starts_with nat_eq y.name text ≡ b → b ≡ false) [
      | true ↦ λ e. sym (begins-between x.name y.name text above (after_less x.name y after.0) e) ∙ other
      | false ↦ λ e. refl
    ] refl in
    or_from (starts_with nat_eq y.name text) (begins_name back text) next (none_begins x back text above other after.1)

begins-above : (back : List NamedReference) (text : List ℕ) → IsAscending back → AllByRecursion (Above text) back → begins_name back text ≡ first_begins back text
unfolding begins_name IsAscending
begins-above [] text ascending above = refl
begins-above (x ∷ back) text ascending above =
    elim (starts_with nat_eq x.name text) as (λ b. starts_with nat_eq x.name text ≡ b → b || begins_name back text ≡ b) [
      | true ↦ λ e. refl
      | false ↦ λ e. none_begins x back text (less_from_greater x.name text above.0) e ascending.0
    ] refl

-- ---- the place that a search finds

begins-gap : (front back : List NamedReference) (text : List ℕ) → IsAscending (front ++ back) → AllByRecursion (Below text) front → AllByRecursion (Above text) back → begins_name (front ++ back) text ≡ first_begins back text
begins-gap front back text ascending below above =
    rw (begins-append front back text, begins-below front text below) (begins-above back text (IsAscending-after front back ascending) above)

-- the rest of what a fact about take and drop says of the whole
pub characters-absent : (entries : List NamedReference) (name : List ℕ) (gap : ℕ) → IsGapFor entries name gap → characters_of_name entries name ≡ None
characters-absent entries name gap place =
    ap (λ es. characters_of_name es name) (sym (take-append-drop gap entries)) ∙ characters-gap (take gap entries) (drop gap entries) name place.before place.afterwards

pub begins-absent : (entries : List NamedReference) (text : List ℕ) (gap : ℕ) → IsAscending entries → IsGapFor entries text gap → begins_name entries text ≡ first_begins (drop gap entries) text
begins-absent entries text gap ascending place =
    ap (λ es. begins_name es text) (sym (take-append-drop gap entries)) ∙ begins-gap (take gap entries) (drop gap entries) text (rw (take-append-drop gap entries) ascending) place.before place.afterwards

pub in_place-at : (entries : List NamedReference) (e : NamedReference) (gap : ℕ) → IsGapFor entries e.name gap → in_place entries e ≡ insert entries gap e
in_place-at entries e gap place =
    ap (λ es. in_place es e) (sym (take-append-drop gap entries)) ∙ in_place-gap (take gap entries) (drop gap entries) e place.before place.afterwards

pub IsAscending-insert : (entries : List NamedReference) (e : NamedReference) (gap : ℕ) → IsAscending entries → IsGapFor entries e.name gap → IsAscending (insert entries gap e)
IsAscending-insert entries e gap ascending place =
    IsAscending-gap (take gap entries) (drop gap entries) e (rw (take-append-drop gap entries) ascending) place.before place.afterwards

-- what holds of each entry holds of each with one more
All-insert : (P : NamedReference → Type 0) (entries : List NamedReference) (e : NamedReference) (gap : ℕ) → P e → All P entries → All P (insert entries gap e)
All-insert P entries e gap here all =
    All-from_recursion P (insert entries gap e) (all_gap P (take gap entries) (drop gap entries) e here (rw (take-append-drop gap entries) (recursion_from_All P entries all)))

pub IsTable-insert : (entries : List NamedReference) (e : NamedReference) (gap : ℕ) → IsTable entries → IsAscending (insert entries gap e) → is_plain_name e.name ≡ true → has_zero e ≡ false → IsTable (insert entries gap e)
IsTable-insert entries e gap table ascending plain nonzero = record {
  plain = All-insert (λ entry. IsTrue (is_plain_name entry.name)) entries e gap plain table.plain;
  nonzero = All-insert (λ entry. has_zero entry ≡ false) entries e gap nonzero table.nonzero;
  distinct = AreDistinct-ascending (insert entries gap e) ascending;
  own = All-from_recursion (Own (insert entries gap e)) (insert entries gap e) (own-ascending (insert entries gap e) ascending);
}

-- the name at the place has the characters there
pub characters-at : (entries : List NamedReference) (name : List ℕ) (place : ℕ) (d : NamedReference) → IsTable entries → IsAt entries name place → characters_of_name entries name ≡ Some (characters (get_or entries place d))
characters-at entries name place d table at =
    rw (at.named d) at (table.own place d at.within)

pub IsAscending-none : IsAscending []
unfolding IsAscending
IsAscending-none = tt

pub IsTable-none : IsTable []
unfolding AreDistinct
IsTable-none = record {
  plain = All-nil (λ entry. IsTrue (is_plain_name entry.name));
  nonzero = All-nil (λ entry. has_zero entry ≡ false);
  distinct = tt;
  own = All-nil (Own []);
}
