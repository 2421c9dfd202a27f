use Rattle.std.proofs.Common.{sym, ap, refl}
use Rattle.html5partial.specs.CurrentTag.{opened_of}
use Rattle.html5fast_path.proofs.Beginnings.{front-nothing, front-one}
use Rattle.html5fast_path.proofs.texts.read_comment_character.Goals as goal

pub returns-in_default-clause-reads : goal.returns-in_default-clause-reads
returns-in_default-clause-reads g c = front-nothing _ _ _ c.utf8.text refl

pub returns-then-not-branch-clause-reads : goal.returns-then-not-branch-clause-reads
returns-then-not-branch-clause-reads g c = front-nothing _ _ _ c.utf8.text (ap opened_of (sym (c.in_ok-read_in_comment.ensures.unchanged c.if-not-branch.true)))

pub returns-clause-reads : goal.returns-clause-reads
returns-clause-reads g c = front-one _ _ _ _ c.in-Some.ensures (c.in_ok-read_in_comment.ensures.quiet c.if-not-branch.false)
