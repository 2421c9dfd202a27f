use Rattle.std.proofs.Common.{subst}
use Rattle.std.proofs.lemmas.Result.{on_ok_weaker}
use Rattle.markup5ever.specs.NamedReferences.{IsTable}
use Rattle.html5ever.proofs.ByItems.{reads-items}
use Rattle.html5ever.proofs.tokenizer.pieces.feed_pieces.Goals as goal

pub returns-clause-items : goal.returns-clause-items
returns-clause-items g c =
    on_ok_weaker c.feed_each.result
    (reads-items g.S.TokenSink.means c.args.tokenizer.now c.feed_each.new.tokenizer _
    (subst (λ t. IsTable t.rules.references) c.tokenizer.view_is c.table_laws.ensures) c.feed_each.ensures.rules)
    c.feed_each.ensures.reads
