-- What an editor has told its sink.
use Rattle.std.specs.Prelude.{◌≡◌, ℕ, Bool, List, ◌∷◌, Option, Some, Result, Ok, Err}
use Rattle.tree_construction.specs.declared.mistakes.Mistake.{Mistake}
use Rattle.tree_construction.specs.Page.{Edit, Place}
use Rattle.tree_sink.specs.declared.error.TreeBuilderError.{TreeBuilderError}
use Rattle.tree_sink.specs.declared.error.TreeBuilderError.TheVariants.{Memory, Sink, Stopped}
use Rattle.tree_sink.specs.Sinks.{TreeMeans, stepped, next_after, parted_text_put, text_put}

-- the number of the next node, the edits so far, the last first, the sink that the editor began with, how often the sink faulted, and whether
-- it faulted at an edit of this editor
pub record Edited (Q : Type 0) : Type 0 where
  pub next : ℕ
  pub edits : List Edit
  pub start : Option Q
  pub faults : ℕ
  pub failed : Bool

-- what contracts see of a log of edits
pub record Logged : Type 0 where
  pub edits : List Edit

-- how many faults of the sink an answer tells
abbrev pub faults_of : {X : Type 0} → Result X TreeBuilderError → ℕ
faults_of (Ok x) = 0
faults_of (Err Memory) = 0
faults_of (Err Sink) = 1
faults_of (Err Stopped) = 0

-- after an edit
abbrev pub edited : {Q : Type 0} → Edit → Edited Q → Edited Q
edited edit e = record e { next = next_after edit e.next; edits = edit ∷ e.edits }

-- the sink is in the state to which these edits lead from that of the sink at the start
abbrev pub IsTold : {Q S : Type 0} → TreeMeans Q S → Option Q → List Edit → Q → Type 0
IsTold {Q = Q} means start edits sink = (first : Q) → start ≡ Some first → means.state sink ≡ stepped means.step (means.state first) edits

-- after a text is put at a place, with a parse error before each byte but the first
abbrev pub parted_text_edited : {Q : Type 0} → Mistake → Place → List ℕ → Edited Q → Edited Q
parted_text_edited mistake place text e = record e { edits = parted_text_put mistake place text e.edits }

-- after a text is put at a place
abbrev pub text_edited : {Q : Type 0} → Place → List ℕ → Edited Q → Edited Q
text_edited place text e = record e { edits = text_put place text e.edits }
