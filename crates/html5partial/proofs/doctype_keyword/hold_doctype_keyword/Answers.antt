use Rattle.std.proofs.Common.{◌≤◌, string_bytes, rules}
use Rattle.html5ever_interface.specs.Token.{doctype_of}
use Rattle.html5partial.proofs.Keywords.{no_doctype_keyword-high}
use Rattle.html5partial.proofs.doctype_keyword.hold_doctype_keyword.Goals as goal

pub returns-then-not-is_ascii-clause-decided : goal.returns-then-not-is_ascii-clause-decided
returns-then-not-is_ascii-clause-decided g c =
    let high : 128 ≤ c.args.c = search rules in
    λ same exact. no_doctype_keyword-high exact (string_bytes c.args.at.now.comment) (doctype_of c.args.at.now.doctype) c.args.c high
