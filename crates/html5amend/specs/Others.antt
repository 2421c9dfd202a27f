-- A token other than a tag, as a handler amends it: a comment, a doctype, a processing instruction, a NUL.
use Rattle.std.specs.Prelude.{ℕ, List, ◌++◌}
use Rattle.html5ever_interface.specs.Token.{Told}
use Rattle.html5splice.specs.Edits.EditOf.{Replace}
use Rattle.html5amend.specs.Parts.{PartOf, as_it_is}

pub record OtherOf : Type 0 where
  pub token : Told
  pub part : PartOf

abbrev pub other_in_page : Told → OtherOf
other_in_page token = record { token = token; part = as_it_is }

-- after the earlier content there
abbrev pub put_before : List ℕ → OtherOf → OtherOf
put_before content o = record o { part = record o.part { before = o.part.before ++ content } }

-- before the earlier content there
abbrev pub put_after : List ℕ → OtherOf → OtherOf
put_after content o = record o { part = record o.part { after = content ++ o.part.after } }

-- in place of the token
abbrev pub put_instead : List ℕ → OtherOf → OtherOf
put_instead content o = record o { part = record o.part { itself = Replace content } }
