use Rattle.std.proofs.Common.{string_bytes}
use Rattle.html5ever_interface.specs.Token.{doctype_of}
use Rattle.html5partial.proofs.Decided.{doctype_keyword-open}
use Rattle.html5partial.proofs.KeywordReading.{declaration-goes_on, declaration-ends, doctype_keyword-goes_on, doctype_keyword-ends}
use Rattle.html5partial.proofs.keyword.hold_keyword.Goals as goal

pub returns-in-MarkupDeclarationOpen-clause-taken : goal.returns-in-MarkupDeclarationOpen-clause-taken
returns-in-MarkupDeclarationOpen-clause-taken g c = λ yes.
    rw c.in-MarkupDeclarationOpen.is
    (declaration-goes_on c.args.foreign (string_bytes c.args.opened.now.comment) c.args.c _ (c.hold_declaration.ensures.taken yes))

pub returns-in-MarkupDeclarationOpen-clause-decided : goal.returns-in-MarkupDeclarationOpen-clause-decided
returns-in-MarkupDeclarationOpen-clause-decided g c = λ no.
    rw c.in-MarkupDeclarationOpen.is (declaration-ends c.args.foreign (string_bytes c.args.opened.now.comment) c.args.c (c.hold_declaration.ensures.decided no))

pub hold_doctype_keyword-requires-clause-state : goal.hold_doctype_keyword-requires-clause-state
hold_doctype_keyword-requires-clause-state g c = (doctype_keyword-open c.args.opened.now.state c.args.opened.now c.requires c.in_default.not-MarkupDeclarationOpen).state

pub hold_doctype_keyword-requires-clause-held : goal.hold_doctype_keyword-requires-clause-held
hold_doctype_keyword-requires-clause-held g c = (doctype_keyword-open c.args.opened.now.state c.args.opened.now c.requires c.in_default.not-MarkupDeclarationOpen).holds

pub returns-in_default-clause-taken : goal.returns-in_default-clause-taken
returns-in_default-clause-taken g c = λ yes.
    let holds = doctype_keyword-open c.args.opened.now.state c.args.opened.now c.requires c.in_default.not-MarkupDeclarationOpen in
    rw holds.opened
    (doctype_keyword-goes_on c.args.foreign (string_bytes c.args.opened.now.comment) (doctype_of c.args.opened.now.doctype) c.args.c _ holds.holds
    (c.hold_doctype_keyword.ensures.taken yes))

pub returns-in_default-clause-decided : goal.returns-in_default-clause-decided
returns-in_default-clause-decided g c = λ no.
    let holds = doctype_keyword-open c.args.opened.now.state c.args.opened.now c.requires c.in_default.not-MarkupDeclarationOpen in
    rw holds.opened
    (doctype_keyword-ends c.args.foreign (string_bytes c.args.opened.now.comment) (doctype_of c.args.opened.now.doctype) c.args.c (c.hold_doctype_keyword.ensures.decided no))
