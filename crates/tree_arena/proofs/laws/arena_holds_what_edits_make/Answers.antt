use Rattle.std.proofs.Common.{◌≡◌, List, [], ◌∷◌, ap, refl}
use Rattle.tree_construction.specs.Document.{applied, built}
use Rattle.tree_construction.specs.Page.{Edit}
use Rattle.tree_sink.specs.Sinks.{stepped}
use Rattle.tree_arena.specs.Grown.{document_after, empty_document}
use Rattle.tree_arena.proofs.laws.arena_holds_what_edits_make.Goals as goal

rows-built : (edits : List Edit) → (stepped document_after empty_document edits).rows ≡ built edits
unfolding stepped built
rows-built [] = refl
rows-built (edit ∷ edits) = ap (applied edit) (rows-built edits)

pub returns : goal.returns
returns c = rows-built
