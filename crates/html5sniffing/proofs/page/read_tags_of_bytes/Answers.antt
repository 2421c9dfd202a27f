use Rattle.std.proofs.lemmas.Result.{on_err_weaker}
use Rattle.html5stream.specs.Pages.{tags_page, tags_handed}
use Rattle.html5sniffing.specs.PageEncoding.{encoding_by, text_of_page}
use Rattle.html5sniffing.proofs.PageTexts.{tags-none, text-opened, text-stopped, text-unread}
use Rattle.html5sniffing.proofs.page.read_tags_of_bytes.Goals as goal

pub returns-in-Err-clause-beginning : goal.returns-in-Err-clause-beginning
returns-in-Err-clause-beginning g c =
    text-unread (tags_page g.H.TagHandler.step c.args.references.now) (tags_handed g.H.TagHandler.step) _ _ (tags-none g.H.TagHandler.step _) _

pub returns-clause-beginning : goal.returns-clause-beginning
returns-clause-beginning g c =
    let known = g.R.Source.remaining c.args.source.now in
    let text_is = text-opened known (g.R.Source.remaining c.open_page.new.source) c.in-Ok.opening.front.bytes c.in-Ok.opening.encoding
    (encoding_by c.args.references.now c.args.said c.args.fallback) _ c.in-Ok.ensures.given c.in-Ok.ensures.encoding c.text-text.ensures.text in
    on_err_weaker c.read_tags.result.1
    (text-stopped (text_of_page c.args.references.now c.args.said c.args.fallback) known _ _ _ _ text_is (tags_page g.H.TagHandler.step c.args.references.now) (tags_handed g.H.TagHandler.step))
    c.read_tags.ensures.beginning
