use Rattle.std.specs.String.{string_bytes}
use Rattle.std.proofs.lemmas.Str.{IsCharBoundary-from_drop}
use Rattle.markup5ever.proofs.buffer_queue.write_in_front.Goals as goal

pub replace_range-requires-clause-end_boundary : goal.replace_range-requires-clause-end_boundary
replace_range-requires-clause-end_boundary g c =
    let text = string_bytes c.make_boundary.new.text in
    let boundary = IsCharBoundary-from_drop text c.args.offset.now (rw c.make_boundary.ensures.len c.requires.within) (rw c.make_boundary.ensures.waits c.requires.rest_utf8) in
    (boundary.0, λ _. boundary.1)
