-- The first bytes of a page, and a source that gives them again.
use Rattle.std.specs.Prelude.{ℕ, Bool, true, false, List, ◌++◌, Option, Some, if◌then◌else◌}
use Rattle.std.specs.Io.KnownBytes.{prepend_known}

-- bytes that came of a page, and whether more than the first 1,024 are looked at
pub record FrontOf : Type 0 where
  pub bytes : List ℕ
  pub long : Bool

-- a source of which bytes were read, those of them that are still to be given, and whether it was found at its end
pub record Fronting (S : Type 0) : Type 0 where
  pub inner : S
  pub waiting : List ℕ
  pub ended : Bool

-- the bytes that are still given, where these are those that the source still has: it isn't asked again once it was at its end
abbrev pub still_given : {S : Type 0} → Fronting S → Option (List ℕ) → Option (List ℕ)
still_given s rest = if s.ended then Some s.waiting else prepend_known s.waiting rest
