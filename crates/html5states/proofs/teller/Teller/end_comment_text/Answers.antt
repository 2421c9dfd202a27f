use Rattle.std.proofs.Common.{◌≡◌, refl, ◌∙◌}
use Rattle.html5reading.specs.Comment.{comment_content}
use Rattle.markup5ever.proofs.BufferQueueLemmas.{range_from_start}
use Rattle.html5states.proofs.Tellings.{emits_then, emits_stop}
use Rattle.html5states.proofs.teller.Teller.end_comment_text.Goals as goal

pub returns-in_err-emit_end_error : goal.returns-in_err-emit_end_error
returns-in_err-emit_end_error g c =
    emits_stop _ c.from_residual.ensures.1 (rw c.state_in_comment.ensures at c.in_err-emit_end_error.ensures) _ refl

pub returns : goal.returns
returns g c =
    let content : c.range.result.now ≡ comment_content c.args.text.now =
    c.range.ensures.value ∙ range_from_start c.args.text.now c.content_len.result ∙ c.content_len.ensures.content in
    emits_then (rw c.state_in_comment.ensures at c.in_ok-emit_end_error.ensures) (rw content at c.end_after_comment.ensures) refl
