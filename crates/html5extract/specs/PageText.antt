-- The text of a page, without its scripts and styles.
use Rattle.std.specs.Prelude.{ℕ, Bool, true, false, List, [], ◌++◌, ◌||◌, codes, if◌then◌else◌}
use Rattle.std.specs.Str.{bytes_eq}
use Rattle.html5ever_interface.specs.Token.{Told}
use Rattle.devices.specs.Printing.{Printing}
use Rattle.html5ever_interface.specs.Token.Told.{Tag}
use Rattle.html5ever_interface.specs.declared.interface.token.TagKind.{TagKind}
use Rattle.html5ever_interface.specs.declared.interface.token.TagKind.TheVariants.{StartTag, EndTag}

-- what was printed, and whether a script or a style is open
pub record Reading : Type 0 where
  pub printed : List ℕ
  pub within : Bool

-- the printer, and whether a script or a style is open
pub record Showing (W : Type 0) : Type 0 where
  pub printer : Printing W
  pub within : Bool

-- where a page begins
abbrev pub at_start : List ℕ → Reading
at_start printed = record { printed = printed; within = false }

-- where a printer of text stands
abbrev pub reading_of : {W : Type 0} → Showing W → Reading
reading_of showing = record { printed = showing.printer.printed; within = showing.within }

-- whether the content of an element of this name is a script or a style
unfoldable pub is_skipped : List ℕ → Bool
is_skipped name = bytes_eq name (codes "script") || bytes_eq name (codes "style")

-- whether after a tag of this kind and name one is open
abbrev pub opens : TagKind → List ℕ → Bool
opens StartTag name = is_skipped name
opens EndTag name = false

-- whether after a token one is open
abbrev pub within_after : Bool → Told → Bool
within_after within (Tag tag) = opens tag.kind tag.name
within_after within other = within

-- what is printed of a run of text
abbrev pub shown : Bool → List ℕ → List ℕ
shown within run = if within then [] else run

-- a run and the token after it
abbrev pub text_step : Reading → List ℕ → Told → ℕ → Reading
text_step s run told line = record { printed = s.printed ++ shown s.within run; within = within_after s.within told }
