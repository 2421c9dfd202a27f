-- The entries that were looked at, and the table of them.
use Rattle.std.proofs.Common.{◌≡◌, ℕ, ◌+◌, Bool, true, false, not, ◌||◌, List, [], ◌∷◌, ◌++◌, length, Option, None, Some, if◌then◌else◌, refl, sym, ap, ◌∙◌, arith, length-append}
use Rattle.std.specs.Bool.{nat_eq}
use Rattle.std.specs.List.{starts_with}
use Rattle.std.specs.Option.{is_some, option_or}
use Rattle.std.specs.Str.{bytes_eq}
use Rattle.std.proofs.lemmas.List.Sums.{fold-append}
use Rattle.markup5ever.specs.NamedReferences.{NamedReference, begins_name, characters_of_name, is_plain_name, has_zero, comes_before, in_place, table_of, fault_after, first_fault_after}
use Rattle.markup5ever.specs.declared.data.TableError.{TableError}
use Rattle.markup5ever.specs.declared.data.TableError.TheVariants.{BadName, ZeroCharacter, RepeatedName}
use Rattle.markup5ever.proofs.NameOrder.{bytes_eq-same}
use Rattle.markup5ever.proofs.NamedReferencesLemmas.{characters, characters-append, begins-append}

-- ---- what one more entry adds to what a table answers

or_none : {X : Type 0} (o : Option X) → option_or o None ≡ o
or_none None = refl
or_none (Some x) = refl

characters-after : (earlier : List NamedReference) (e : NamedReference) (name : List ℕ) → characters_of_name earlier e.name ≡ None → bytes_eq e.name name ≡ true → characters_of_name earlier name ≡ None
characters-after earlier e name new same = rw (bytes_eq-same e.name name same) at new

absent_after : (x : NamedReference) (xs : List NamedReference) (name : List ℕ) → characters_of_name (x ∷ xs) name ≡ None → characters_of_name xs name ≡ None
unfolding characters_of_name
absent_after x xs name = elim (bytes_eq x.name name) as (λ b. (if b then Some (characters x) else characters_of_name xs name) ≡ None → characters_of_name xs name ≡ None) [ true ↦ λ e. absurd cc | false ↦ λ e. e ]

-- an entry that is put in its place adds its own characters, and changes no other answer
characters-place : (table : List NamedReference) (e : NamedReference) (name : List ℕ) → characters_of_name table e.name ≡ None → characters_of_name (in_place table e) name ≡ option_or (characters_of_name table name) (characters_of_name (e ∷ []) name)
unfolding in_place characters_of_name
characters-place [] e name new = refl
characters-place (x ∷ xs) e name new =
    elim (comes_before e.name x.name) as (λ b. characters_of_name (if b then e ∷ x ∷ xs else x ∷ in_place xs e) name ≡ option_or (characters_of_name (x ∷ xs) name) (characters_of_name (e ∷ []) name)) [
      | true ↦ elim (bytes_eq e.name name) as (λ b. bytes_eq e.name name ≡ b → (if b then Some (characters e) else characters_of_name (x ∷ xs) name) ≡ option_or (characters_of_name (x ∷ xs) name) (if b then Some (characters e) else None)) [
        | true ↦ λ same. rw (characters-after (x ∷ xs) e name new same) refl
        | false ↦ λ _. sym (or_none (characters_of_name (x ∷ xs) name))
      ] refl
      | false ↦ elim (bytes_eq x.name name) as (λ b. (if b then Some (characters x) else characters_of_name (in_place xs e) name) ≡ option_or (if b then Some (characters x) else characters_of_name xs name) (characters_of_name (e ∷ []) name)) [
        | true ↦ refl
        | false ↦ characters-place xs e name (absent_after x xs e.name new)
      ]
    ]

or_turn : (a b : Bool) → a || b ≡ b || (a || false)
or_turn true true = refl
or_turn true false = refl
or_turn false true = refl
or_turn false false = refl

begins-place : (table : List NamedReference) (e : NamedReference) (text : List ℕ) → begins_name (in_place table e) text ≡ begins_name table text || begins_name (e ∷ []) text
unfolding in_place begins_name
begins-place [] e text = refl
begins-place (x ∷ xs) e text =
    elim (comes_before e.name x.name) as (λ b. begins_name (if b then e ∷ x ∷ xs else x ∷ in_place xs e) text ≡ begins_name (x ∷ xs) text || begins_name (e ∷ []) text) [
      | true ↦ or_turn (starts_with nat_eq e.name text) (begins_name (x ∷ xs) text)
      | false ↦ elim (starts_with nat_eq x.name text) as (λ b. b || begins_name (in_place xs e) text ≡ (b || begins_name xs text) || begins_name (e ∷ []) text) [ true ↦ refl | false ↦ begins-place xs e text ]
    ]

length-place : (table : List NamedReference) (e : NamedReference) → length (in_place table e) ≡ length table + 1
unfolding in_place
length-place [] e = omega arith
length-place (x ∷ xs) e =
    elim (comes_before e.name x.name) as (λ b. length (if b then e ∷ x ∷ xs else x ∷ in_place xs e) ≡ length (x ∷ xs) + 1) [ true ↦ omega arith | false ↦ omega (arith, length-place xs e) ]

-- ---- faults

pub fault-bad : (earlier : List NamedReference) (e : NamedReference) (place : ℕ) → place ≡ length earlier → is_plain_name e.name ≡ false → fault_after earlier e ≡ Some (BadName place)
unfolding fault_after
fault-bad earlier e place at bad = rw (bad, at) refl

pub fault-zero : (earlier : List NamedReference) (e : NamedReference) (place : ℕ) → place ≡ length earlier → is_plain_name e.name ≡ true → has_zero e ≡ true → fault_after earlier e ≡ Some (ZeroCharacter place)
unfolding fault_after
fault-zero earlier e place at plain zero = rw (plain, zero, at) refl

pub fault-repeated : (earlier : List NamedReference) (e : NamedReference) (place : ℕ) (found : ℕ × Option ℕ) → place ≡ length earlier → is_plain_name e.name ≡ true → has_zero e ≡ false → characters_of_name earlier e.name ≡ Some found → fault_after earlier e ≡ Some (RepeatedName place)
unfolding fault_after
fault-repeated earlier e place found at plain nonzero repeated = rw (plain, nonzero, repeated, at) refl

pub fault-none : (earlier : List NamedReference) (e : NamedReference) → is_plain_name e.name ≡ true → has_zero e ≡ false → characters_of_name earlier e.name ≡ None → fault_after earlier e ≡ None
unfolding fault_after
fault-none earlier e plain nonzero new = rw (plain, nonzero, new) refl

-- an entry without a fault has a new name
new_from_fault : (earlier : List NamedReference) (e : NamedReference) → fault_after earlier e ≡ None → characters_of_name earlier e.name ≡ None
unfolding fault_after
new_from_fault earlier e none =
    elim (is_plain_name e.name) as (λ b. (if not b then Some (BadName (length earlier)) else if has_zero e then Some (ZeroCharacter (length earlier)) else if is_some (characters_of_name earlier e.name) then Some (RepeatedName (length earlier)) else None) ≡ None → characters_of_name earlier e.name ≡ None) [
      | false ↦ λ bad. absurd cc
      | true ↦ elim (has_zero e) as (λ b. (if b then Some (ZeroCharacter (length earlier)) else if is_some (characters_of_name earlier e.name) then Some (RepeatedName (length earlier)) else None) ≡ None → characters_of_name earlier e.name ≡ None) [
        | true ↦ λ bad. absurd cc
        | false ↦ elim (characters_of_name earlier e.name) as (λ o. (if is_some o then Some (RepeatedName (length earlier)) else None) ≡ None → o ≡ None) [ None ↦ λ _. refl | Some found ↦ λ bad. absurd cc ]
      ]
    ] none

-- ---- the entries that were looked at, and the table of them

pub record IsTableOf (table done : List NamedReference) : Type 0 where
  pub sorted : table ≡ table_of done
  pub size : length table ≡ length done
  pub same_characters : (name : List ℕ) → characters_of_name table name ≡ characters_of_name done name
  pub same_beginnings : (text : List ℕ) → begins_name table text ≡ begins_name done text

pub IsTableOf-none : (table : List NamedReference) → table ≡ [] → IsTableOf table []
IsTableOf-none table none = rw none (record { sorted = refl; size = refl; same_characters = λ name. refl; same_beginnings = λ text. refl })

-- the fault of one more is the same after both
fault-same : (table done : List NamedReference) (e : NamedReference) → IsTableOf table done → fault_after table e ≡ fault_after done e
unfolding fault_after
fault-same table done e is = rw (is.size, is.same_characters e.name) refl

pub IsTableOf-more : (table new done : List NamedReference) (e : NamedReference) → IsTableOf table done → fault_after table e ≡ None → new ≡ in_place table e → IsTableOf new (done ++ e ∷ [])
IsTableOf-more table new done e is none grown = rw grown (record {
  sorted = ap (λ t. in_place t e) is.sorted ∙ sym (fold-append in_place [] done (e ∷ []));
  size = length-place table e ∙ ap (λ n. n + 1) is.size ∙ sym (length-append done (e ∷ []));
  same_characters = λ name. characters-place table e name (new_from_fault table e none) ∙ ap (λ o. option_or o (characters_of_name (e ∷ []) name)) (is.same_characters name) ∙ sym (characters-append done (e ∷ []) name);
  same_beginnings = λ text. begins-place table e text ∙ ap (λ b. b || begins_name (e ∷ []) text) (is.same_beginnings text) ∙ sym (begins-append done (e ∷ []) text);
})

-- no fault so far: what comes has the first
pub faultless-more : (table done rest : List NamedReference) (e : NamedReference) → IsTableOf table done → fault_after table e ≡ None → first_fault_after (done ++ e ∷ []) rest ≡ first_fault_after done (e ∷ rest)
unfolding first_fault_after
faultless-more table done rest e is none = rw (sym (fault-same table done e is) ∙ none) refl

pub fault-first : (table done rest : List NamedReference) (e : NamedReference) (error : TableError) → IsTableOf table done → fault_after table e ≡ Some error → first_fault_after done (e ∷ rest) ≡ Some error
unfolding first_fault_after
fault-first table done rest e error is fault = rw (sym (fault-same table done e is) ∙ fault) refl

pub faultless-end : (done : List NamedReference) → first_fault_after done [] ≡ None
unfolding first_fault_after
faultless-end done = refl
