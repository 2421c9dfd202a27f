use Rattle.std.proofs.Common.{◌≡◌, ◌∙◌, false, ap, sym, string_bytes}
use Rattle.html5reading.specs.Comment.{ends_in_mark}
use Rattle.html5fast_path.proofs.InComments.{quiet-in_comment}
use Rattle.html5fast_path.proofs.characters.read_in_comment.Goals as goal

pub returns-clause-quiet : goal.returns-clause-quiet
returns-clause-quiet g c = λ yes.
    let text = string_bytes c.args.at.now.comment in
    let no_mark : ends_in_mark text ≡ false = ap ends_in_mark (sym c.deref.ensures) ∙ sym c.ends_in_mark.ensures ∙ c.if-ends_in_mark.false in
    rw (c.in-Comment.is, c.in_ok-push_value.ensures) (quiet-in_comment text c.args.c (c.is_ordinary.ensures c.if-not-is_ordinary.false) no_mark)
