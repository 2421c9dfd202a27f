use Rattle.std.proofs.Common.{◌≡◌}
use Rattle.tree_construction.specs.Tokens.Token.{StartTag}
use Rattle.tree_builder.specs.Built.{tag_of}
use Rattle.tree_builder.proofs.Processing.{Processes}
use Rattle.tree_builder.proofs.builder.Builder.process_start.Given as goal

abbrev pub invariant-loop : goal.invariant-loop
invariant-loop g l =
    Processes (StartTag (tag_of g.T.TagAttributes.said l.fn.tag)) l.fn.self.parser l.counter (StartTag (tag_of g.T.TagAttributes.said l.tag)) l.fostered l.self.parser
    × ((l.self.telling ≡ l.fn.self.telling) × (l.tag.self_closing ≡ l.fn.tag.self_closing))
