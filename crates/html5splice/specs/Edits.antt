-- What takes the place of runs and of tokens.
use Rattle.std.specs.Prelude.{ℕ, List, [], ◌∷◌, ◌++◌, string_bytes}
use Rattle.html5ever_interface.specs.Token.{Told}
use Rattle.html5splice.specs.Cuts.{CutOf}
use Rattle.html5splice.specs.declared.cut.Cut.{Cut}
use Rattle.html5splice.specs.declared.edit.Edit.{Edit}
use Rattle.html5splice.specs.declared.edit.Edit.TheVariants as edit
use Rattle.html5splice.specs.declared.edit.Edits.{Edits}

-- what happens to a run, or to a token
pub data EditOf : Type 0 where
  -- it stays unchanged
  Keep : EditOf
  -- this text takes its place
  Replace : List ℕ → EditOf

-- what happens to a run and to the token after it
pub record EditsOf : Type 0 where
  pub run : EditOf
  pub token : EditOf

abbrev pub edit_by : {Z : Type 0} → Edit Z → EditOf
edit_by edit.Keep = Keep
edit_by (edit.Replace text) = Replace (string_bytes text)

abbrev pub edits_by : {Z : Type 0} → Edits Z → EditsOf
edits_by edits = record { run = edit_by edits.run; token = edit_by edits.token }

-- a token as a splicer is shown it
abbrev pub cut_by : Cut → Told → CutOf
cut_by cut token = record { run = cut.run.now; text = cut.text.now; source = cut.source.now; token = token; line = cut.line_number }

-- nothing is replaced
abbrev pub no_edits : EditsOf
no_edits = record { run = Keep; token = Keep }

-- what is written where this stood
abbrev pub edited : EditOf → List ℕ → List ℕ
edited Keep written = written
edited (Replace text) written = text

-- what is written of a run and of the token after it
abbrev pub spliced : EditsOf → CutOf → List ℕ
spliced edits cut = edited edits.run cut.run ++ edited edits.token cut.source

-- what a splicer, which has these states, says of each token, and where that leaves it
pub record Splices (S : Type 0) : Type 0 where
  pub edits : S → CutOf → EditsOf
  pub step : S → CutOf → S

module _ {S : Type 0} (splices : Splices S) where
  -- what is written of each of some tokens
  unfoldable pub parts : S → List CutOf → List (List ℕ)
  parts s [] = []
  parts s (cut ∷ cuts) = spliced (splices.edits s cut) cut ∷ parts (splices.step s cut) cuts

  -- the splicer after them
  unfoldable pub after_cuts : S → List CutOf → S
  after_cuts s [] = s
  after_cuts s (cut ∷ cuts) = after_cuts (splices.step s cut) cuts
