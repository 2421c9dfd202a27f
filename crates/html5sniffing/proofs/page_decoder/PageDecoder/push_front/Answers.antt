use Rattle.std.proofs.Common.{string_bytes, sym, ap, subst, ◌∙◌}
use Rattle.html5sniffing.specs.PageEncoding.{IsWhole}
use Rattle.html5sniffing.proofs.PageDecodings.{opened}
use Rattle.html5sniffing.proofs.page_decoder.PageDecoder.push_front.Goals as goal

pub returns-in-Ok-clause-goes_on : goal.returns-in-Ok-clause-goes_on
returns-in-Ok-clause-goes_on g c =
    opened c.args.references.now _ _ c.in-Ok.opened.known c.bytes-bytes.result.now c.args.bytes.now c.new-in-Ok.result.bytes (string_bytes c.in-Ok.opened.text)
    c.self.view_is c.requires (c.bytes-bytes.ensures ∙ c.in_ok-push.ensures.bytes) (ap (λ f. f.bytes) c.new-in-Ok.ensures)
    (subst (λ l. IsWhole c.args.references.now c.self.inside.said c.self.inside.fallback l) (sym c.bytes-bytes.ensures) (c.in_ok-push.ensures.whole c.if-not-branch.false))
    c.in-Ok.ensures.encoding c.in-Ok.ensures.decoder c.in-Ok.ensures.text
