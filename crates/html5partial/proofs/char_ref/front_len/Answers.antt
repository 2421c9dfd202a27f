use Rattle.html5partial.proofs.NameFronts.{letters-boundary, semicolon-boundary}
use Rattle.html5partial.proofs.char_ref.front_len.Goals as goal

pub range-requires-clause-end_boundary : goal.range-requires-clause-end_boundary
range-requires-clause-end_boundary g c =
    let at = c.is_semicolon_at.ensures c.if-is_semicolon_at.true in
    semicolon-boundary c.args.text.now c.args.letters c.utf8.text at.0 at.1

pub range-requires-2-clause-end_boundary : goal.range-requires-2-clause-end_boundary
range-requires-2-clause-end_boundary g c = letters-boundary c.args.text.now c.args.letters c.utf8.text c.requires.within c.requires.letters
