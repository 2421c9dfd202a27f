-- What end tags in foreign content come to.
use Rattle.std.specs.Prelude.{ℕ, List, Option, Some, None}
use Rattle.tree_construction.specs.ForeignContent.{InHtml}
use Rattle.tree_construction.specs.Page.{has_number}
use Rattle.tree_construction.specs.Parser.{Parser, pop_until}
use Rattle.tree_construction.specs.Tokens.Token.{EndTag}
use Rattle.tree_builder.specs.declared.foreign_content.ForeignEnd.{ForeignEnd}
use Rattle.tree_builder.specs.declared.foreign_content.ForeignEnd.TheVariants.{Nothing, Closed, ByHtml}

abbrev pub foreign_ended : {H : Type 0} → (H → ℕ) → InHtml → List ℕ → ForeignEnd H → Parser → Parser
foreign_ended node in_html name Nothing p = p
foreign_ended node in_html name (Closed handle) p = pop_until (has_number (node handle)) p
foreign_ended node in_html name ByHtml p = in_html (EndTag name) p

-- by what one element says, or else by those outside it
abbrev pub foreign_ended_or : {H : Type 0} → (H → ℕ) → InHtml → List ℕ → Option (ForeignEnd H) → (outside : Parser) → Parser → Parser
foreign_ended_or node in_html name None outside p = outside
foreign_ended_or node in_html name (Some end) outside p = foreign_ended node in_html name end p
