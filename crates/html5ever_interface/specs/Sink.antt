-- What a sink makes of what it is sent: messages, and the state that they leave.
use Rattle.std.specs.Prelude.{ℕ, Bool, List, [], ◌∷◌, map}
use Rattle.html5ever_interface.specs.Token.{Told, Reply}

-- what a sink of the type X, with the states S and the scripts H, makes of what it is sent
pub record Means (X S H : Type 0) : Type 0 where
  -- the state that a sink has
  pub state : X → S
  -- what a token, handed with a line, makes of the state
  pub step : S → Told → ℕ → S
  -- what is replied to it
  pub reply : S → Told → ℕ → Reply H
  -- the answer about foreign content
  pub foreign : S → Bool
  -- what the end makes of the state
  pub finish : S → S
  -- what a fault at a token leaves, and a fault at the end
  pub faulted : S → Told → ℕ → S
  pub end_faulted : S → S

-- a token with the line that is handed with it
pub record Message : Type 0 where
  pub token : Told
  pub line : ℕ

-- the state of a sink after each message in turn
unfoldable pub stepped : {S : Type 0} → (S → Told → ℕ → S) → S → List Message → S
stepped step s [] = s
stepped step s (m ∷ ms) = stepped step (step s m.token m.line) ms

-- tokens that are sent on one line
abbrev pub on_line : ℕ → List Told → List Message
on_line line tokens = map (λ token. record { token = token; line = line }) tokens
