-- CDATA sections. Their characters are held until `]]>`, a NUL or the end of input. There each is sent as a text.
-- The slices below are vocabulary of proofs: `html5grammar/specs/Cdata` says how a section is written.
use Rattle.std.specs.Prelude.{ℕ, Bool, List, [], ◌∷◌, ◌++◌, ◌==◌, ◌&&◌, codes, if◌then◌else◌}
use Rattle.html5ever_interface.specs.Token.{Told}
use Rattle.html5ever_interface.specs.Token.Told.{Null}
use Rattle.html5reading.specs.Characters.{null, greater_than}
use Rattle.html5reading.specs.Comment.{ends_in, without_last}
use Rattle.html5reading.specs.RawText.{texts}
use Rattle.html5reading.specs.Slice.{Slice, cut_off, one_character, with_character}
use Rattle.html5reading.specs.Start.{Open}
use Rattle.html5reading.specs.Start.Mode.{Data, Cdata}
use Rattle.html5reading.specs.Start.Open.{Between, InCdata}

-- what is open in a section, by the characters that are held
abbrev pub open_cdata : List ℕ → Open
open_cdata [] = Between Cdata
open_cdata (c ∷ held) = InCdata (c ∷ held)

-- "CDATA section end state": whether `>` ends the section after these characters
unfoldable pub ends_cdata : List ℕ → Bool
ends_cdata held = ends_in held (codes "]]")

-- "CDATA section end state": what is sent at the end of the section, without its brackets
abbrev pub told_at_end_of_cdata : List ℕ → List Told
told_at_end_of_cdata held = texts (without_last 2 held)

-- "CDATA section state", "CDATA section bracket state" and "CDATA section end state": a section of which some characters are
-- held. `>` ends it after `]]`. A NUL is sent after the characters that are held, and none is held then. Another character is
-- text.
unfoldable pub cdata : List ℕ → List ℕ → Slice
cdata held [] = cut_off (InCdata held)
cdata held (c ∷ text) =
    if (c == greater_than) && ends_cdata held then one_character (told_at_end_of_cdata held) (Between Data)
    else if c == null then one_character (texts held ++ Null ∷ []) (Between Cdata)
    else with_character [] (cdata (held ++ c ∷ []) text)

-- "CDATA section state": the same from c on when none is held, and `before` is sent first
unfoldable pub cdata_from : List Told → ℕ → List ℕ → Slice
cdata_from before c text =
    if c == null then one_character (before ++ Null ∷ []) (Between Cdata)
    else with_character before (cdata (c ∷ []) text)
