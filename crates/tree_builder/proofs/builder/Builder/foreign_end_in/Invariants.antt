use Rattle.std.proofs.Common.{◌≡◌, drop}
use Rattle.tree_construction.specs.ForeignContent.{InHtml, foreign_end}
use Rattle.tree_construction.specs.Parser.{Parser}
use Rattle.tree_names.specs.ElementNames.{name_bytes}
use Rattle.tree_builder.proofs.builder.Builder.foreign_end_in.Given as goal

abbrev pub invariant-loop-depth : goal.invariant-loop-depth
invariant-loop-depth g l =
    (in_html : InHtml) (p : Parser) → foreign_end in_html (name_bytes l.name) l.self.parser.page.opened p
    ≡ foreign_end in_html (name_bytes l.name) (drop l.depth l.self.parser.page.opened) p
