-- The queue of characters that wait, and what its calls do to it.
use Rattle.std.specs.Prelude.{◌≡◌, ℕ, ◌+◌, ◌≤◌, List, ◌++◌, length, drop}
use Rattle.std.specs.Str.{IsUtf8}

-- the characters that wait, and how many were handed in and taken from the front in all
pub record TextQueue : Type 0 where
  pub text : List ℕ
  pub handed_in : ℕ
  pub taken : ℕ

-- these characters came in at the back
pub record Gains (old new : TextQueue) (back : List ℕ) : Type 0 where
  pub text : new.text ≡ old.text ++ back
  pub handed_in : new.handed_in ≡ old.handed_in + length back
  pub taken : new.taken ≡ old.taken

-- these characters came in at the front
pub record GainsFront (old new : TextQueue) (front : List ℕ) : Type 0 where
  pub text : new.text ≡ front ++ old.text
  pub handed_in : new.handed_in ≡ old.handed_in + length front
  pub taken : new.taken ≡ old.taken

-- these characters came back to the front, and count as handed in no second time
pub record TakesBack (old new : TextQueue) (front : List ℕ) : Type 0 where
  pub text : new.text ≡ front ++ old.text
  pub handed_in : new.handed_in ≡ old.handed_in
  pub taken : new.taken ≡ old.taken

-- these characters were taken from the front
pub record Takes (old new : TextQueue) (front : List ℕ) : Type 0 where
  pub text : old.text ≡ front ++ new.text
  pub handed_in : new.handed_in ≡ old.handed_in
  pub taken : new.taken ≡ old.taken + length front

-- the offset is on a character's boundary
pub record IsReadTo (text : List ℕ) (offset : ℕ) : Type 0 where
  pub within : offset ≤ length text
  pub rest_utf8 : IsUtf8 (drop offset text)
