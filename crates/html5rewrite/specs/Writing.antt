-- A page that is rewritten as it arrives: the bytes that are written of it.
use Rattle.std.specs.Prelude.{ℕ, List, ◌++◌, encode_utf8_all}
use Rattle.html5ever_interface.specs.Sink.{Message}
use Rattle.html5ever_interface.specs.Token.{Told}
use Rattle.html5stream.specs.Pages.{RunsItems, runs_handed, runs_page}
use Rattle.html5write.specs.Pieces.{Piece, pieces_text}
use Rattle.html5rewrite.specs.Rewriter.{Rewriter, opens}
use Rattle.html5elements.specs.Hidden.{Hidden, hidden_after, nothing_hidden}
use Rattle.html5rewrite.specs.Rewriting.{rewriting_step, start_of_page, written_where}
use Rattle.markup5ever.specs.NamedReferences.{NamedReference}

-- a rewriter, what it writes to, and what is hidden
pub record Handler (H O : Type 0) : Type 0 where
  pub rewriter : H
  pub output : O
  pub hidden : Hidden

-- what a rewriter makes of tags, what was written, and what is hidden
pub record Written : Type 0 where
  pub rewriter : Rewriter
  pub bytes : List ℕ
  pub hidden : Hidden

-- where a handler stands, by what its rewriter makes of tags and what was written to its output
abbrev pub writing_of : {H O : Type 0} → (H → Rewriter) → (O → List ℕ) → Handler H O → Written
writing_of means bytes handler = record { rewriter = means handler.rewriter; bytes = bytes handler.output; hidden = handler.hidden }

-- the bytes of pieces
abbrev pub page_bytes : List Piece → List ℕ
page_bytes pieces = encode_utf8_all (pieces_text pieces)

-- where a page begins, after these bytes
abbrev pub start_of_writing : Rewriter → List ℕ → Written
start_of_writing rewriter before = record { rewriter = rewriter; bytes = before; hidden = nothing_hidden }

-- a run of text and the token after it: their kept part is written
abbrev pub writing_step : Written → List ℕ → Told → ℕ → Written
writing_step s run told line = record {
  rewriter = s.rewriter;
  bytes = s.bytes ++ page_bytes (written_where s.rewriter s.hidden.depth run told);
  hidden = hidden_after (opens s.rewriter) s.hidden told;
}

-- the messages of a page, which is written after these bytes
abbrev pub page_messages : Rewriter → List NamedReference → List ℕ → List ℕ → List Message
page_messages rewriter references before bytes = runs_page writing_step references (start_of_writing rewriter before) bytes

-- the items of such a page, which tell these messages, and its end those
abbrev pub PageItems : Rewriter → List NamedReference → List ℕ → List ℕ → List Message → List Message → Type 0
PageItems rewriter references before bytes tells ends = RunsItems writing_step references (start_of_writing rewriter before) bytes tells ends

-- the pieces that a rewriter keeps of messages
abbrev pub pieces_of : Rewriter → List Message → List Piece
pieces_of rewriter messages = (runs_handed rewriting_step (start_of_page rewriter) messages).pieces

-- what was written after messages: what was written before, and the text of these pieces
abbrev pub written_of : Rewriter → List ℕ → List Message → List ℕ
written_of rewriter before messages = before ++ page_bytes (pieces_of rewriter messages)
