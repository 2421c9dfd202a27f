use Rattle.std.proofs.Common.{sym, ◌∙◌}
use Rattle.html5grammar.proofs.Soundness.{tells-items, reading-items}
use Rattle.html5grammar.proofs.sound.Goals as goal

pub returns-clause-told : goal.returns-clause-told
returns-clause-told g c = λ rules K s text M E table items. (tells-items g.S.TokenSink.means rules K s text M E table items).told

pub returns-clause-whole : goal.returns-clause-whole
returns-clause-whole g c = λ rules K s text M E table items. reading-items g.S.TokenSink.means rules K s text M E table items

pub returns-clause-only : goal.returns-clause-only
returns-clause-only g c = λ rules K s text M E N F table items others.
    let one = tells-items g.S.TokenSink.means rules K s text M E table items in
    let other = tells-items g.S.TokenSink.means rules K s text N F table others in
    (sym one.told ∙ other.told, sym one.at_end ∙ other.at_end)
