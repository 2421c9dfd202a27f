-- "Character reference state", "Markup declaration open state" and "After DOCTYPE name state": what a character makes of a
-- reference, or of a keyword, that is not decided.
use Rattle.std.specs.Prelude.{◌≡◌, ℕ, Bool, true, false, List, [], ◌∷◌, ◌++◌, ◌==◌, length, not}
use Rattle.html5ever_interface.specs.declared.states.State.{State}
use Rattle.html5ever_interface.specs.declared.states.State.TheVariants as state
use Rattle.html5reading.specs.Machine.{step_at, brought_at}
use Rattle.html5reading.specs.Characters.{is_bad_character}
use Rattle.html5reading.specs.Comment.{begins_cdata}
use Rattle.html5reading.specs.EndOfInput.{late_at_end_of, open_at_end_of}
use Rattle.html5reading.specs.Reading.Here.{Tells}
use Rattle.html5reading.specs.Start.{Open, Rules, is_undecided_open}
use Rattle.html5reading.specs.Start.Open.{InDeclaration, InDoctypeKeyword, InReference}

-- "Character reference state": whether a reference is not decided
abbrev pub is_reference : Open → Bool
is_reference (InReference stand held) = true
is_reference other = false

-- "Markup declaration open state" and "After DOCTYPE name state": whether a keyword is not decided
abbrev pub is_keyword_open : Open → Bool
is_keyword_open (InDeclaration held) = true
is_keyword_open (InDoctypeKeyword held doctype) = true
is_keyword_open other = false

-- "Markup declaration open state": whether a character asks the sink. It does if it belongs to the keyword of a CDATA section.
abbrev pub asks : Open → ℕ → Bool
asks (InDeclaration held) c = begins_cdata (held ++ c ∷ [])
asks other c = false

-- whether a keyword is not decided, by the state and the held text
abbrev pub holds_keyword_in : State → List ℕ → Bool
holds_keyword_in state.MarkupDeclarationOpen held = true
holds_keyword_in state.AfterDoctypeName held = not (length held == 0)
holds_keyword_in other held = false

-- the character is held, or it is the last one of what is decided
pub record BelongsTo (rules : Rules) (foreign : Bool) (opened : Open) (c : ℕ) (later : Open) : Type 0 where
  pub here : (brought_at rules foreign opened c).here ≡ Tells [] later
  pub good : is_bad_character c ≡ false

-- the character decides, and is then read by the item open after that
pub record Decides (rules : Rules) (foreign : Bool) (opened : Open) (c : ℕ) (later : Open) : Type 0 where
  pub here : (brought_at rules foreign opened c).here ≡ step_at rules.exact later c
  pub decided : is_undecided_open later ≡ false

-- the character belongs to a keyword, and settles nothing
pub record GoesOn (foreign : Bool) (opened : Open) (c : ℕ) (later : Open) : Type 0 where
  pub settled : (rules : Rules) → (brought_at rules foreign opened c).settled ≡ []
  pub belongs : (rules : Rules) → BelongsTo rules foreign opened c later

-- no keyword goes on with the character, and so what the end would settle is settled
pub record EndsKeyword (foreign : Bool) (opened : Open) (c : ℕ) : Type 0 where
  pub settled : (rules : Rules) → (brought_at rules foreign opened c).settled ≡ late_at_end_of rules opened
  pub decides : (rules : Rules) → Decides rules foreign opened c (open_at_end_of rules opened)
