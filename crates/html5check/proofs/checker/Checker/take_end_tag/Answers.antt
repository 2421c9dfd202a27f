use Rattle.std.proofs.Common.{ap, drop, map, sym, ◌∙◌}
use Rattle.std.proofs.lemmas.Bool.{ne_eqb}
use Rattle.html5check.proofs.Checked.{closed-last}
use Rattle.html5check.specs.Checking.{Checking}
use Rattle.html5check.specs.Faults.{finding_by}
use Rattle.html5check.specs.Opened.{closed_by}
use Rattle.html5check.specs.Seen.{seen_by}
use Rattle.html5check.proofs.checker.Checker.take_end_tag.Goals as goal

pub returns : goal.returns
returns c =
    let count = c.closed_by-count.result in
    let before = c.args.self.now in
    let left = c.self-2.view_is ∙ c.in_ok-leave_open.ensures in
    let is = ap (λ (s : Checking). closed_by s.opened c.args.name.now) (sym c.self.view_is) ∙ sym c.closed_by-count.ensures in
    ap (λ o. record { opened = o; ids = c.self-2.inside.ids; found = map finding_by c.self-2.inside.found.items }) c.close.ensures
    ∙ ap (λ (s : Checking). record s { opened = drop 1 s.opened }) left
    ∙ closed-last before (seen_by c.args.seen.now) c.args.name.now count (sym c.is_document_part.ensures ∙ c.if-is_document_part.false) is (ne_eqb count 0 c.if-count-eq0.false)
