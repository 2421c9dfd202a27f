use Rattle.std.proofs.Common.{sym, ◌∙◌}
use Rattle.html5partial.proofs.Held.{undecided-number, undecided-odd, begun-number}
use Rattle.html5partial.proofs.char_ref.CharRef.hold.Goals as goal

pub returns-then-not-continues_number-clause-undecided : goal.returns-then-not-continues_number-clause-undecided
returns-then-not-continues_number-clause-undecided g c =
    sym (undecided-number c.args.references.now c.args.self.now c.in-Some.number.now c.args.c c.in-Some.ensures.0 ∙ sym c.continues_number.ensures.goes_on ∙ c.if-not-continues_number.true)

pub returns-in-Some-clause-undecided : goal.returns-in-Some-clause-undecided
returns-in-Some-clause-undecided g c =
    sym (undecided-number c.args.references.now c.args.self.now c.in-Some.number.now c.args.c c.in-Some.ensures.0 ∙ sym c.continues_number.ensures.goes_on ∙ c.if-not-continues_number.false)

pub hold_number-requires-then-begins_number-clause-number : goal.hold_number-requires-then-begins_number-clause-number
hold_number-requires-then-begins_number-clause-number g c = (begun-number c.args.references.now c.args.self.now c.args.c (sym c.begins_number.ensures ∙ c.if-begins_number.true)).0

pub returns-then-begins_number-clause-undecided : goal.returns-then-begins_number-clause-undecided
returns-then-begins_number-clause-undecided g c =
    sym (begun-number c.args.references.now c.args.self.now c.args.c (sym c.begins_number.ensures ∙ c.if-begins_number.true)).1

pub returns-then-not-is_in_names-clause-undecided : goal.returns-then-not-is_in_names-clause-undecided
returns-then-not-is_in_names-clause-undecided g c =
    sym (undecided-odd c.args.references.now c.args.self.now c.args.c c.table_laws.ensures c.in_default.ensures (sym c.begins_number.ensures ∙ c.if-begins_number.false) (sym c.is_in_names.ensures ∙ c.if-not-is_in_names.true))
