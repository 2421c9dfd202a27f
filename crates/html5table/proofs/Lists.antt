-- Lists of entries, one entry after the other.
use Rattle.std.proofs.Common.{◌≡◌, ℕ, ◌+◌, ◌<◌, true, false, List, [], ◌∷◌, ◌++◌, length, Bor, Option, None, Some, refl, sym, ap, ◌∙◌, lit<, arith}
use Rattle.std.specs.Prelude.{◌==◌, IsSome, IfSome, option_map}
use Rattle.std.specs.List.{position_or_len, slice_split}
use Rattle.std.specs.Option.{is_some}
use Rattle.std.specs.Str.Pattern.{FindsChar, SplitsAtFirstByte}
use Rattle.std.proofs.lemmas.Bool.{false≢true}
use Rattle.std.proofs.lemmas.List.{append-nil, append_assoc, length-drop}
use Rattle.std.proofs.lemmas.List.Splits.{slice_split_first, slice_split_none}
use Rattle.std.proofs.lemmas.List.Sums.{fails_before_first}
use Rattle.html5table.specs.Listed.{entries_said, entry_said, is_comma, listed}
use Rattle.markup5ever.specs.NamedReferences.{NamedReference}

-- ---- the texts of the entries

abbrev pub SplitsAtComma : List ℕ → Option (Bor (List ℕ) × Bor (List ℕ)) → Type 0
SplitsAtComma text r = SplitsAtFirstByte (FindsChar 44) (Some 44) text r

pub texts-last : (text : List ℕ) → SplitsAtComma text None → slice_split is_comma text ≡ text ∷ []
texts-last text splits =
    let whole : position_or_len is_comma text ≡ length text = splits (lit< tt) (λ w o f. f) in
    slice_split_none is_comma text (λ k d within. fails_before_first is_comma text k d (omega (arith, whole, within)))

pub texts-more : (text : List ℕ) (entry later : Bor (List ℕ)) → SplitsAtComma text (Some (entry, later))
    → (slice_split is_comma text ≡ entry.now ∷ slice_split is_comma later.now) × (length later.now < length text)
texts-more text entry later splits =
    let facts = splits (lit< tt) (λ w o f. f) in (
      slice_split_first is_comma text 0 facts.2 ∙ rw (facts.0, facts.1) refl,
      omega (arith, ap length facts.1, length-drop (position_or_len is_comma text + 1) text, facts.2),
    )

-- ---- what they say

pub said-none : (text : List ℕ) (texts : List (List ℕ)) → entry_said text ≡ None → entries_said (text ∷ texts) ≡ None
unfolding entries_said
said-none text texts e = rw e refl

pub said-some : (text : List ℕ) (texts : List (List ℕ)) (entry : NamedReference) → entry_said text ≡ Some entry
    → entries_said (text ∷ texts) ≡ option_map (λ entries. entry ∷ entries) (entries_said texts)
unfolding entries_said
said-some text texts entry e = rw e refl

pub said-empty : entries_said [] ≡ Some []
unfolding entries_said
said-empty = refl

is_some-map : {X Y : Type 0} (f : X → Y) (o : Option X) → is_some (option_map f o) ≡ is_some o
is_some-map f None = refl
is_some-map f (Some x) = refl

-- an entry that is one adds nothing to whether all are
pub all_said-more : {P : Type 0} (f : P → NamedReference) (r : Option P) (text : List ℕ) (texts : List (List ℕ)) → option_map f r ≡ entry_said text → is_some r ≡ true
    → is_some (entries_said (text ∷ texts)) ≡ is_some (entries_said texts)
all_said-more f None text texts said some = absurd cc
all_said-more f (Some parts) text texts said some =
    ap is_some (said-some text texts (f parts) (sym said)) ∙ is_some-map (λ entries. f parts ∷ entries) (entries_said texts)

pub all_said-none : {P : Type 0} (f : P → NamedReference) (r : Option P) (text : List ℕ) (texts : List (List ℕ)) → option_map f r ≡ entry_said text → is_some r ≡ false
    → is_some (entries_said (text ∷ texts)) ≡ false
all_said-none f None text texts said none = ap is_some (said-none text texts (sym said))
all_said-none f (Some parts) text texts said none = absurd cc

pub all_said-last : {P : Type 0} (f : P → NamedReference) (r : Option P) (text : List ℕ) → option_map f r ≡ entry_said text
    → is_some r ≡ is_some (entries_said (text ∷ []))
all_said-last f None text said = sym (ap is_some (said-none text [] (sym said)))
all_said-last f (Some parts) text said =
    sym (ap is_some (said-some text [] (f parts) (sym said)) ∙ is_some-map (λ entries. f parts ∷ entries) (entries_said []) ∙ ap is_some said-empty)

-- ---- the entries taken so far, with those of the texts that are left

-- the texts say entries, and all that the list says are those taken and these
pub record TakenOf (list : List (List ℕ)) (taken : List NamedReference) (texts : List (List ℕ)) : Type 0 where
  pub said : IsSome (entries_said texts)
  pub all : entries_said list ≡ option_map (λ entries. taken ++ entries) (entries_said texts)

option_map-same : {X : Type 0} (o : Option (List X)) → o ≡ option_map (λ l. [] ++ l) o
option_map-same None = refl
option_map-same (Some l) = refl

pub TakenOf-start : (list : List (List ℕ)) → IsSome (entries_said list) → TakenOf list [] list
TakenOf-start list said = record { said = said; all = option_map-same (entries_said list) }

pub TakenOf-entry : (list : List (List ℕ)) (taken : List NamedReference) (text : List ℕ) (texts : List (List ℕ)) → TakenOf list taken (text ∷ texts) → IsSome (entry_said text)
TakenOf-entry list taken text texts t = elim (entry_said text) as (λ o. entry_said text ≡ o → IsSome o) [
  | None ↦ λ e. rw (said-none text texts e) at t.said
  | Some entry ↦ λ e. refl
] refl

moved : (taken : List NamedReference) (entry : NamedReference) (o : Option (List NamedReference))
    → option_map (λ entries. taken ++ entries) (option_map (λ entries. entry ∷ entries) o) ≡ option_map (λ entries. (taken ++ entry ∷ []) ++ entries) o
moved taken entry None = refl
moved taken entry (Some entries) = ap Some (sym (append_assoc taken (entry ∷ []) entries))

some-mapped : {X Y : Type 0} (f : X → Y) (o : Option X) → IsSome (option_map f o) → IsSome o
some-mapped f None h = h
some-mapped f (Some x) h = refl

TakenOf-moved : (list : List (List ℕ)) (taken : List NamedReference) (text : List ℕ) (texts : List (List ℕ)) (entry : NamedReference) → entry_said text ≡ Some entry
    → TakenOf list taken (text ∷ texts) → TakenOf list (taken ++ entry ∷ []) texts
TakenOf-moved list taken text texts entry e t = record {
  said = some-mapped (λ entries. entry ∷ entries) (entries_said texts) (rw (said-some text texts entry e) at t.said);
  all = t.all ∙ ap (option_map (λ entries. taken ++ entries)) (said-some text texts entry e) ∙ moved taken entry (entries_said texts);
}

pub TakenOf-more : (list : List (List ℕ)) (taken now : List NamedReference) (text : List ℕ) (texts : List (List ℕ))
    → IfSome (entry_said text) (λ entry. now ≡ taken ++ entry ∷ []) → TakenOf list taken (text ∷ texts) → TakenOf list now texts
TakenOf-more list taken now text texts pushed t = elim (entry_said text) as (λ o. entry_said text ≡ o → IfSome o (λ entry. now ≡ taken ++ entry ∷ []) → TakenOf list now texts) [
  | None ↦ λ e p. absurd (false≢true (rw (said-none text texts e) at t.said))
  | Some entry ↦ λ e p. rw p (TakenOf-moved list taken text texts entry e t)
] refl pushed

pub TakenOf-end : (list : List (List ℕ)) (taken : List NamedReference) → TakenOf list taken [] → entries_said list ≡ Some taken
TakenOf-end list taken t = t.all ∙ ap (option_map (λ entries. taken ++ entries)) said-empty ∙ ap Some (append-nil taken)

-- ---- the list

pub listed-empty : (list : List ℕ) → (length list == 0) ≡ true → listed list ≡ Some []
unfolding listed
listed-empty list empty = rw empty refl

pub listed-texts : (list : List ℕ) → (length list == 0) ≡ false → listed list ≡ entries_said (slice_split is_comma list)
unfolding listed
listed-texts list filled = rw filled refl
