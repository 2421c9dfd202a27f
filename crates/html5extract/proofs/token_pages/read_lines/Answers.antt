-- the search doesn't take a sink's reading for a page's
use Rattle.std.proofs.lemmas.Result.{on_ok_weaker, IfErr-weaker}
use Rattle.html5stream.proofs.Pages.{page-read, page-stopped}
use Rattle.html5extract.proofs.TokenPages.{lines-are-page}
use Rattle.html5extract.proofs.token_pages.read_lines.Goals as goal

pub returns-clause-finishes : goal.returns-clause-finishes
returns-clause-finishes g c =
    on_ok_weaker c.read_source.result.1
    (page-read _ _ _ _ _ _ _ _ _ _ _ (lines-are-page c.args.references.now _ _ _ c.default-opts.ensures))
    c.read_source.ensures.finishes

pub returns-clause-beginning : goal.returns-clause-beginning
returns-clause-beginning g c =
    IfErr-weaker c.read_source.result.1 _ _
    (page-stopped _ _ _ _ _ _ _ _ _ _ _ (lines-are-page c.args.references.now _ _ _ c.default-opts.ensures))
    c.read_source.ensures.beginning
