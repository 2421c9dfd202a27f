-- A character of a comment that tells nothing.
use Rattle.std.proofs.Common.{◌≡◌, ℕ, false, List, ◌++◌, refl}
use Rattle.std.proofs.lemmas.Bool.{ne_eqb}
use Rattle.html5reading.specs.Characters.{null, greater_than, value_bytes}
use Rattle.html5reading.specs.Comment.{ends_in_mark, comment_errors, mark_error}
use Rattle.html5reading.specs.Machine.{step_at, comment_step}
use Rattle.html5reading.specs.Start.Open.{InComment}
use Rattle.html5fast_path.specs.Quiet.{IsOrdinary, IsQuiet}

pub quiet-in_comment : (text : List ℕ) (c : ℕ) → IsOrdinary c → ends_in_mark text ≡ false → IsQuiet (InComment text) (InComment (text ++ value_bytes c)) c
unfolding step_at comment_step comment_errors mark_error
quiet-in_comment text c ordinary no_mark = record {
  decided = refl;
  steps = rw (ne_eqb c greater_than ordinary.no_greater_than, ne_eqb c null ordinary.no_null, no_mark) refl;
  no_line_feed = ordinary.no_line_feed;
  no_carriage_return = ordinary.no_carriage_return;
}
