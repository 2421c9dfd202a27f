use Rattle.std.proofs.Common.{rules}
use Rattle.html5reading.specs.EndOfInput.{late_at_end_of, open_at_end_of}
use Rattle.html5partial.proofs.Decided.{doctype_keyword-open}
use Rattle.html5feed.proofs.undecided.decide_keyword.Goals as goal

pub returns-in-MarkupDeclarationOpen-clause-emits : goal.returns-in-MarkupDeclarationOpen-clause-emits
unfolding late_at_end_of
returns-in-MarkupDeclarationOpen-clause-emits g c = λ references. rw c.in-MarkupDeclarationOpen.is c.finish_declaration.ensures.emits

pub returns-in-MarkupDeclarationOpen-clause-opened : goal.returns-in-MarkupDeclarationOpen-clause-opened
unfolding open_at_end_of
returns-in-MarkupDeclarationOpen-clause-opened g c = λ references. rw c.in-MarkupDeclarationOpen.is c.finish_declaration.ensures.opened

pub returns-in_default : goal.returns-in_default
unfolding late_at_end_of open_at_end_of
returns-in_default g c =
    let is = (doctype_keyword-open c.args.opened.now.state c.args.opened.now c.requires c.in_default.not-MarkupDeclarationOpen).opened in
    record {
      emits = λ references. rw is c.finish_doctype_keyword.ensures.emits;
      opened = λ references. rw is c.finish_doctype_keyword.ensures.opened;
      last = search rules;
    }
