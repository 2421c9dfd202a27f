use Rattle.std.proofs.Common.{ap, ◌∙◌}
use Rattle.std.specs.Str.{chars}
use Rattle.std.proofs.lemmas.Str.{chars-nil}
use Rattle.markup5ever.proofs.buffer_queue.BufferQueue.new.Goals as goal

pub returns-clause-text : goal.returns-clause-text
returns-clause-text g c = ap chars c.new.ensures.bytes ∙ chars-nil
