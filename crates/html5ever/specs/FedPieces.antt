-- Pieces that a tokenizer is fed one after another, while a text waits before them.
use Rattle.std.specs.Prelude.{◌≡◌, ℕ, ◌+◌, ◌*◌, ◌≤◌, List, [], ◌∷◌, ◌++◌, length}
use Rattle.html5ever_interface.specs.Sink.{Means}
use Rattle.markup5ever.specs.BufferQueue.{TextQueue}
use Rattle.html5ever.specs.Pieces.{text_of}
use Rattle.html5ever.specs.Tokenizer.{Tokenizing, ReadsOn}

-- what is taken: all that waits and all pieces, or nothing if there is no piece
abbrev pub fed_text : List ℕ → List (List ℕ) → List ℕ
fed_text waiting [] = []
fed_text waiting (piece ∷ pieces) = waiting ++ text_of (piece ∷ pieces)

-- the text queued then
abbrev pub left_of : List ℕ → List (List ℕ) → List ℕ
left_of waiting [] = waiting
left_of waiting (piece ∷ pieces) = []

-- at most two characters were taken for each that waited or was handed in, and left the queue. Held characters of a reference
-- or a keyword count too, before and after.
abbrev pub IsLinearFor : ℕ → TextQueue → ℕ → TextQueue → Type 0
IsLinearFor held old held_after new =
    (new.taken + held_after) + 2 * (length new.text + old.handed_in) ≤ (old.taken + held) + 2 * (length old.text + new.handed_in)

module _ {X S H : Type 0} (means : Means X S H) where
  -- the tokenizer was taken further by some first ones of the pieces
  pub record StandsWithin (old new : Tokenizing X) (waiting : List ℕ) (pieces : List (List ℕ)) : Type 0 where
    pub fed : List (List ℕ)
    pub later : List (List ℕ)
    pub parts : pieces ≡ fed ++ later
    pub reads : ReadsOn means old new (fed_text waiting fed)
