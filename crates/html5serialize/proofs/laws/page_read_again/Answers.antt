use Rattle.html5serialize.proofs.PageBack.{page-read_again}
use Rattle.html5serialize.proofs.laws.page_read_again.Goals as goal

pub returns : goal.returns
returns g c = λ options source rules K later s t text source_table table reads starts here source_asks asks texts.
    page-read_again g.S.TokenSink.means source g.R.TokenSink.means rules options table reads source_asks asks K later s t text source_table starts here texts
