-- The lines of a text of named references, one after the other.
use Rattle.std.proofs.Common.{◌≡◌, ℕ, ◌+◌, ◌<◌, true, false, List, [], ◌∷◌, ◌++◌, length, Bor, Option, None, Some, refl, sym, ap, ◌∙◌, lit<, arith}
use Rattle.std.specs.Prelude.{IsSome, IfSome, option_map}
use Rattle.std.specs.List.{position_or_len, slice_split}
use Rattle.std.specs.Option.{is_some}
use Rattle.std.specs.Str.{trim_end}
use Rattle.std.specs.Str.Pattern.{FindsChar, SplitsAtFirstByte}
use Rattle.std.proofs.lemmas.Bool.{false≢true}
use Rattle.std.proofs.lemmas.List.{append-nil, append_assoc, length-drop}
use Rattle.std.proofs.lemmas.List.Splits.{slice_split_first, slice_split_none}
use Rattle.std.proofs.lemmas.List.Sums.{fails_before_first}
use Rattle.html5programs.specs.References.{is_line_feed, lines_said}
use Rattle.html5table.specs.Listed.{listed}
use Rattle.markup5ever.specs.NamedReferences.{NamedReference}

-- ---- the lines

abbrev pub SplitsAtLineFeed : List ℕ → Option (Bor (List ℕ) × Bor (List ℕ)) → Type 0
SplitsAtLineFeed text r = SplitsAtFirstByte (FindsChar 10) (Some 10) text r

pub lines-last : (text : List ℕ) → SplitsAtLineFeed text None → slice_split is_line_feed text ≡ text ∷ []
lines-last text splits =
    let whole : position_or_len is_line_feed text ≡ length text = splits (lit< tt) (λ w o f. f) in
    slice_split_none is_line_feed text (λ k d within. fails_before_first is_line_feed text k d (omega (arith, whole, within)))

pub lines-more : (text : List ℕ) (line later : Bor (List ℕ)) → SplitsAtLineFeed text (Some (line, later))
    → (slice_split is_line_feed text ≡ line.now ∷ slice_split is_line_feed later.now) × (length later.now < length text)
lines-more text line later splits =
    let facts = splits (lit< tt) (λ w o f. f) in (
      slice_split_first is_line_feed text 0 facts.2 ∙ rw (facts.0, facts.1) refl,
      omega (arith, ap length facts.1, length-drop (position_or_len is_line_feed text + 1) text, facts.2),
    )

-- ---- what they say

abbrev pub line_said : List ℕ → Option (List NamedReference)
line_said line = listed (trim_end line)

said-none : (line : List ℕ) (lines : List (List ℕ)) → line_said line ≡ None → lines_said (line ∷ lines) ≡ None
unfolding lines_said
said-none line lines e = rw e refl

said-some : (line : List ℕ) (lines : List (List ℕ)) (entries : List NamedReference) → line_said line ≡ Some entries
    → lines_said (line ∷ lines) ≡ option_map (λ later. entries ++ later) (lines_said lines)
unfolding lines_said
said-some line lines entries e = rw e refl

said-empty : lines_said [] ≡ Some []
unfolding lines_said
said-empty = refl

is_some-map : {X Y : Type 0} (f : X → Y) (o : Option X) → is_some (option_map f o) ≡ is_some o
is_some-map f None = refl
is_some-map f (Some x) = refl

-- a line that is a list adds nothing to whether all are
pub all_said-more : (line : List ℕ) (lines : List (List ℕ)) → is_some (line_said line) ≡ true → is_some (lines_said (line ∷ lines)) ≡ is_some (lines_said lines)
all_said-more line lines some = elim (line_said line) as (λ o. line_said line ≡ o → is_some (lines_said (line ∷ lines)) ≡ is_some (lines_said lines)) [
  | None ↦ λ e. absurd (false≢true (rw e at some))
  | Some entries ↦ λ e. ap is_some (said-some line lines entries e) ∙ is_some-map (λ later. entries ++ later) (lines_said lines)
] refl

pub all_said-none : (line : List ℕ) (lines : List (List ℕ)) → is_some (line_said line) ≡ false → is_some (lines_said (line ∷ lines)) ≡ false
all_said-none line lines none = elim (line_said line) as (λ o. line_said line ≡ o → is_some (lines_said (line ∷ lines)) ≡ false) [
  | None ↦ λ e. ap is_some (said-none line lines e)
  | Some entries ↦ λ e. absurd (false≢true (sym (rw e at none)))
] refl

pub all_said-last : (line : List ℕ) → is_some (line_said line) ≡ is_some (lines_said (line ∷ []))
all_said-last line = elim (line_said line) as (λ o. line_said line ≡ o → is_some (line_said line) ≡ is_some (lines_said (line ∷ []))) [
  | None ↦ λ e. ap is_some e ∙ sym (ap is_some (said-none line [] e))
  | Some entries ↦ λ e. ap is_some e
      ∙ sym (ap is_some (said-some line [] entries e) ∙ is_some-map (λ later. entries ++ later) (lines_said []) ∙ ap is_some said-empty)
] refl

-- ---- the entries taken so far, with those of the lines that are left

-- the lines say entries, and all that the text says are those taken and these
pub record TakenOf (text : List (List ℕ)) (taken : List NamedReference) (lines : List (List ℕ)) : Type 0 where
  pub said : IsSome (lines_said lines)
  pub all : lines_said text ≡ option_map (λ later. taken ++ later) (lines_said lines)

option_map-same : {X : Type 0} (o : Option (List X)) → o ≡ option_map (λ l. [] ++ l) o
option_map-same None = refl
option_map-same (Some l) = refl

pub TakenOf-start : (text : List (List ℕ)) → IsSome (lines_said text) → TakenOf text [] text
TakenOf-start text said = record { said = said; all = option_map-same (lines_said text) }

pub TakenOf-line : (text : List (List ℕ)) (taken : List NamedReference) (line : List ℕ) (lines : List (List ℕ)) → TakenOf text taken (line ∷ lines)
    → IsSome (line_said line)
TakenOf-line text taken line lines t = elim (line_said line) as (λ o. line_said line ≡ o → IsSome o) [
  | None ↦ λ e. rw (said-none line lines e) at t.said
  | Some entries ↦ λ e. refl
] refl

moved : (taken entries : List NamedReference) (o : Option (List NamedReference))
    → option_map (λ later. taken ++ later) (option_map (λ later. entries ++ later) o) ≡ option_map (λ later. (taken ++ entries) ++ later) o
moved taken entries None = refl
moved taken entries (Some later) = ap Some (sym (append_assoc taken entries later))

some-mapped : {X Y : Type 0} (f : X → Y) (o : Option X) → IsSome (option_map f o) → IsSome o
some-mapped f None h = h
some-mapped f (Some x) h = refl

TakenOf-moved : (text : List (List ℕ)) (taken entries : List NamedReference) (line : List ℕ) (lines : List (List ℕ)) → line_said line ≡ Some entries
    → TakenOf text taken (line ∷ lines) → TakenOf text (taken ++ entries) lines
TakenOf-moved text taken entries line lines e t = record {
  said = some-mapped (λ later. entries ++ later) (lines_said lines) (rw (said-some line lines entries e) at t.said);
  all = t.all ∙ ap (option_map (λ later. taken ++ later)) (said-some line lines entries e) ∙ moved taken entries (lines_said lines);
}

pub TakenOf-more : (text : List (List ℕ)) (taken now : List NamedReference) (line : List ℕ) (lines : List (List ℕ))
    → IfSome (line_said line) (λ entries. now ≡ taken ++ entries) → TakenOf text taken (line ∷ lines) → TakenOf text now lines
TakenOf-more text taken now line lines pushed t = elim (line_said line) as (λ o. line_said line ≡ o → IfSome o (λ entries. now ≡ taken ++ entries) → TakenOf text now lines) [
  | None ↦ λ e p. absurd (false≢true (rw (said-none line lines e) at t.said))
  | Some entries ↦ λ e p. rw p (TakenOf-moved text taken entries line lines e t)
] refl pushed

pub TakenOf-end : (text : List (List ℕ)) (taken : List NamedReference) → TakenOf text taken [] → lines_said text ≡ Some taken
TakenOf-end text taken t = t.all ∙ ap (option_map (λ later. taken ++ later)) said-empty ∙ ap Some (append-nil taken)
