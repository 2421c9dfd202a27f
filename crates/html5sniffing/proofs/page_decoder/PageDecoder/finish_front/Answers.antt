use Rattle.html5sniffing.proofs.PageDecodings.{finished}
use Rattle.html5sniffing.proofs.page_decoder.PageDecoder.finish_front.Goals as goal

pub returns-clause-text : goal.returns-clause-text
returns-clause-text g c =
    finished c.args.references.now _ _ c.in_ok-opened.opened.known c.bytes.result.now _ _ _ c.self.view_is c.requires c.bytes.ensures
    c.in_ok-opened.ensures.encoding c.in_ok-opened.ensures.decoder c.in_ok-opened.ensures.text c.finish.ensures c.in_ok-push_str.ensures.bytes
