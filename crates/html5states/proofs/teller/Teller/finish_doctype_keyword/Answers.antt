use Rattle.std.proofs.Common.{◌≡◌, [], sym, ◌∙◌, rules, string_bytes}
use Rattle.html5reading.specs.Doctype.{keyword_error}
use Rattle.html5ever_interface.specs.Sink.{stepped}
use Rattle.html5partial.proofs.Keywords.{none-first}
use Rattle.html5states.proofs.teller.Teller.finish_doctype_keyword.Goals as goal

pub returns-in-None-clause-emits : goal.returns-in-None-clause-emits
unfolding keyword_error stepped
returns-in-None-clause-emits g c =
    let empty : string_bytes c.args.at.now.comment ≡ [] = sym c.as_bytes.ensures.value ∙ none-first _ c.in-None.ensures.value in
    rw empty (search rules)
