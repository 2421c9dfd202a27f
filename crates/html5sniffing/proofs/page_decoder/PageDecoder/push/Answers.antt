use Rattle.std.proofs.Common.{string_bytes, sym, ◌∙◌}
use Rattle.html5sniffing.proofs.PageDecodings.{known}
use Rattle.html5sniffing.proofs.page_decoder.PageDecoder.push.Goals as goal

pub returns-clause-goes_on : goal.returns-clause-goes_on
returns-clause-goes_on g c =
    known c.args.references.now _ _ c.in-Some.known c.decode-text.new.self c.args.bytes.now (string_bytes c.in_ok-text.text) c.self.view_is
    (sym c.take.ensures.value ∙ c.in-Some.is) c.in_ok-text.ensures.leaves c.in_ok-text.ensures.text
