-- Pages that are read whole. Vocabulary of private functions.
use Rattle.std.specs.Prelude.{◌≡◌, ◌++◌, ℕ, List, length, Option}
use Rattle.std.specs.Io.KnownBytes.{Consumes, IsAtEnd}
use Rattle.std.specs.Str.{IsUtf8}

-- a source was read to its end, and gave this text
pub record IsWhole (unread left : Option (List ℕ)) (text : List ℕ) : Type 0 where
  pub consumed : Consumes unread left text
  pub at_end : IsAtEnd left
  pub utf8 : IsUtf8 text

-- a source gave this many bytes, which came after those before
pub record Grows (unread left : Option (List ℕ)) (before after : List ℕ) (count : ℕ) : Type 0 where
  pub bytes : List ℕ
  pub consumed : Consumes unread left bytes
  pub grown : after ≡ before ++ bytes
  pub count_is : count ≡ length bytes

-- a source was read, and gave some bytes
pub record StopsWhole (unread left : Option (List ℕ)) : Type 0 where
  pub bytes : List ℕ
  pub consumed : Consumes unread left bytes
