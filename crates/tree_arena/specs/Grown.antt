-- What an arena has become.
use Rattle.std.specs.Prelude.{ℕ, List}
use Rattle.tree_construction.specs.Document.{Row, applied, first_rows}
use Rattle.tree_construction.specs.Page.{Edit}
use Rattle.tree_sink.specs.Sinks.{TreeMeans, next_after}

-- the rows of a document, the number of the next node, and how often the arena faulted
pub record Grown : Type 0 where
  pub rows : List Row
  pub next : ℕ
  pub faults : ℕ

-- what edits change
pub record Document : Type 0 where
  pub rows : List Row
  pub next : ℕ

abbrev pub document_of : Grown → Document
document_of grown = record { rows = grown.rows; next = grown.next }

abbrev pub document_after : Document → Edit → Document
document_after document edit = record { rows = applied edit document.rows; next = next_after edit document.next }

-- what an arena means as a sink
abbrev pub arena_means : TreeMeans Grown Document
arena_means = record { state = document_of; step = document_after; next = λ document. document.next }

-- the document that an arena begins with
abbrev pub empty_document : Document
empty_document = record { rows = first_rows; next = 3 }
