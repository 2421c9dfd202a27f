-- What a program says of its version.
use Rattle.std.specs.Prelude.{ℕ, List, ◌++◌, codes}

-- the version
abbrev pub version : List ℕ
version = codes "0.20.0"

-- the program's name, a space and the version
abbrev pub version_line : List ℕ → List ℕ
version_line name = name ++ codes " " ++ version ++ codes "\n"
