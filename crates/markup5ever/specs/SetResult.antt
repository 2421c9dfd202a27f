-- What is taken from the front of the queue: a member of a set, or a run that has none.
use Rattle.std.specs.Prelude.{◌≡◌, ◌≢◌, ℕ, List, [], ◌∷◌, Option, None, Some}
use Rattle.std.specs.Str.{chars}
use Rattle.std.specs.String.{string_bytes}
use Rattle.markup5ever.specs.declared.buffer_queue.SetResult.{SetResult}
use Rattle.markup5ever.specs.declared.buffer_queue.SetResult.TheVariants.{FromSet, NotFromSet}
use Rattle.markup5ever.specs.BufferQueue.{TextQueue, Takes}
use Rattle.markup5ever.specs.SmallCharSet.{IsMember, IsOutside}

-- this member of the set was taken from the front
pub record TakesMember (set : ℕ) (old new : TextQueue) (c : ℕ) : Type 0 where
  pub member : IsMember set c
  pub takes : Takes old new (c ∷ [])

-- this run was taken from the front: at least one character, and none in the set
pub record TakesRun (set : ℕ) (old new : TextQueue) (run : List ℕ) : Type 0 where
  pub filled : run ≢ []
  pub outside : IsOutside set run
  pub takes : Takes old new run

-- what each answer says was taken
abbrev pub Pops : {Z : Type 0} → ℕ → TextQueue → TextQueue → Option (SetResult Z) → Type 0
Pops set old new None = (old.text ≡ []) × (new ≡ old)
Pops set old new (Some (FromSet c)) = TakesMember set old new c
Pops set old new (Some (NotFromSet run)) = TakesRun set old new (chars (string_bytes run))

-- no run goes on into this text: it is empty or begins with a member of the set
abbrev pub EndsRun : ℕ → List ℕ → Type 0
EndsRun set [] = Unit {0}
EndsRun set (c ∷ rest) = IsMember set c

-- a run that was taken is the longest
abbrev pub IsLongest : {Z : Type 0} → ℕ → TextQueue → Option (SetResult Z) → Type 0
IsLongest set new None = Unit {0}
IsLongest set new (Some (FromSet c)) = Unit {0}
IsLongest set new (Some (NotFromSet run)) = EndsRun set new.text
