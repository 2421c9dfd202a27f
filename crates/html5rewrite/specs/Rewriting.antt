-- A page that is rewritten: what is written of each run of text and of the token after it.
use Rattle.std.specs.Prelude.{ℕ, List, [], ◌++◌, ◌==◌, if◌then◌else◌}
use Rattle.html5ever_interface.specs.Token.{Told, TagOf}
use Rattle.html5ever_interface.specs.Token.Told.{Tag}
use Rattle.html5elements.specs.Hidden.{Hidden, hidden_after, nothing_hidden}
use Rattle.html5write.specs.Pieces.{Piece}
use Rattle.html5rewrite.specs.Plain.{written_of_run, written_of_tag}
use Rattle.html5rewrite.specs.Rewriter.{Rewriter, keep_of, opens}
use Rattle.html5rewrite.specs.declared.rewriter.Keep.{Keep}
use Rattle.html5rewrite.specs.declared.rewriter.Keep.TheVariants as keep

-- the rewriter, the pieces that were written, and what is hidden
pub record Rewriting : Type 0 where
  pub rewriter : Rewriter
  pub pieces : List Piece
  pub hidden : Hidden

-- where a page begins
abbrev pub start_of_page : Rewriter → Rewriting
start_of_page rewriter = record { rewriter = rewriter; pieces = []; hidden = nothing_hidden }

abbrev pub written_by_keep : Keep → TagOf → List Piece
written_by_keep keep.Tag tag = written_of_tag tag
written_by_keep keep.ContentOnly tag = []
written_by_keep keep.Nothing tag = []

-- what is written of a token that is not hidden: nothing but of tags
abbrev pub written_of_token : Rewriter → Told → List Piece
written_of_token rewriter (Tag tag) = written_by_keep (keep_of rewriter tag) (rewriter.rewritten tag)
written_of_token rewriter other = []

-- and of a run of text before it
abbrev pub written : Rewriter → List ℕ → Told → List Piece
written rewriter run told = written_of_run run ++ written_of_token rewriter told

abbrev pub written_where : Rewriter → ℕ → List ℕ → Told → List Piece
written_where rewriter depth run told = if depth == 0 then written rewriter run told else []

-- a run of text and the token after it
abbrev pub rewriting_step : Rewriting → List ℕ → Told → ℕ → Rewriting
rewriting_step s run told line = record {
  rewriter = s.rewriter;
  pieces = s.pieces ++ written_where s.rewriter s.hidden.depth run told;
  hidden = hidden_after (opens s.rewriter) s.hidden told;
}
