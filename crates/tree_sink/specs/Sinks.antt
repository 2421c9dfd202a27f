-- What a sink of a tree makes of the edits that it is told.
use Rattle.std.specs.Prelude.{ℕ, zero, suc, List, [], ◌∷◌}
use Rattle.tree_construction.specs.declared.mistakes.Mistake.{Mistake}
use Rattle.tree_construction.specs.Page.{Edit, Place}
use Rattle.tree_construction.specs.Page.Edit.{MakeElement, MakeContents, MakeComment, PutText, ParseError}

-- the meaning of a sink of type `Q`, whose states are `S`
pub record TreeMeans (Q S : Type 0) : Type 0 where
  -- the state of a sink
  pub state : Q → S
  -- what an edit makes of a state
  pub step : S → Edit → S
  -- the number of the node that is made next
  pub next : S → ℕ

-- the number of the next node after an edit, by the one before it
abbrev pub next_after : Edit → ℕ → ℕ
next_after (MakeElement n namespace name attributes) next = suc next
next_after (MakeContents template n) next = suc next
next_after (MakeComment n text) next = suc next
next_after other next = next

-- a state after edits, of which the last stands first
unfoldable pub stepped : {S : Type 0} → (S → Edit → S) → S → List Edit → S
stepped step s [] = s
stepped step s (edit ∷ before) = step (stepped step s before) edit

-- after so many parse errors
unfoldable pub erred : {S : Type 0} → (S → Edit → S) → Mistake → ℕ → S → S
erred step mistake zero s = s
erred step mistake (suc n) s = step (erred step mistake n s) (ParseError mistake)

-- the edits of a text that is put, of which the last stands first: one for each byte, as the definition has them
unfoldable pub text_put : Place → List ℕ → List Edit → List Edit
text_put place [] edits = edits
text_put place (c ∷ text) edits = text_put place text (PutText place (c ∷ []) ∷ edits)

-- the same with a parse error before each byte, and with one before each byte but the first
unfoldable pub mistaken_text_put : Mistake → Place → List ℕ → List Edit → List Edit
mistaken_text_put mistake place [] edits = edits
mistaken_text_put mistake place (c ∷ text) edits =
    mistaken_text_put mistake place text (PutText place (c ∷ []) ∷ ParseError mistake ∷ edits)

abbrev pub parted_text_put : Mistake → Place → List ℕ → List Edit → List Edit
parted_text_put mistake place [] edits = edits
parted_text_put mistake place (c ∷ text) edits = mistaken_text_put mistake place text (PutText place (c ∷ []) ∷ edits)
