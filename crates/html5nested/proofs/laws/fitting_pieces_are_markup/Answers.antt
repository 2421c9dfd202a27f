use Rattle.std.proofs.Common.{[]}
use Rattle.html5tree.specs.Fitting.{all_open_after, each_fits, none_open}
use Rattle.html5nested.specs.PageItems.{items_of}
use Rattle.html5nested.proofs.Markup.{fitting-keeps_on, and-left}
use Rattle.html5nested.proofs.laws.fitting_pieces_are_markup.Goals as goal

pub returns : goal.returns
returns g c = λ pieces fit follows.
    fitting-keeps_on (g.S.TokenSink.means).reply follows pieces []
    (and-left (each_fits [] (items_of pieces)) (none_open (all_open_after [] (items_of pieces))) fit)
