-- Names that C asks for.
use Rattle.std.specs.Prelude.{◌≡◌, ℕ, List, [], ◌++◌, length, take, drop, min, Option, None, Some}
use Rattle.html5errors.specs.CodeNames.{code_name}
use Rattle.html5errors.specs.declared.codes.ErrorCode.{ErrorCode}
use Rattle.html5errors.specs.Messages.{code_of_message}

-- the front of a name was copied, as much as there was room for
pub record CopiesName (name room out : List ℕ) (n : ℕ) : Type 0 where
  pub count : n ≡ min (length room) (length name)
  pub copied : out ≡ take n name ++ drop n room

-- the name of a code, or no bytes
abbrev pub name_of_code : Option ErrorCode → List ℕ
name_of_code None = []
name_of_code (Some code) = code_name code

-- the name of the code that the standard has for an error with this message, or no bytes
abbrev pub code_told : List ℕ → List ℕ
code_told message = name_of_code (code_of_message message)
