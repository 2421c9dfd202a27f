use Rattle.std.proofs.Common.{◌++◌, string_bytes, ap, ◌∙◌}
use Rattle.std.specs.Prelude.{encode_utf8_all}
use Rattle.html5ever_interface.specs.Token.{Told, told_by}
use Rattle.html5serialize.specs.Page.{place_after, text_at}
use Rattle.html5serialize.specs.declared.page_writer.PageOptions.{PageOptions}
use Rattle.html5serialize.proofs.Bytes.{bytes-page}
use Rattle.html5serialize.proofs.page_writer.push_page.Goals as goal

pub loop-token-preserved : goal.loop-token-preserved
loop-token-preserved g c =
    let token : Told = told_by c.token-item.result in (
      c.push.ensures.options ∙ c.loop-token.invariant.0,
      bytes-page c.args.options (string_bytes c.loop-token.out) (string_bytes c.push.new.out) c.loop-token.page.place c.push.new.self.place c.loop-token.token-index c.args.tokens.now _ _ c.loop-token-test.true
          c.token-item.is (c.in_ok-push.ensures.written ∙ ap (λ (o : PageOptions). string_bytes c.loop-token.out ++ encode_utf8_all (text_at o.escapes c.loop-token.page.place token)) c.loop-token.invariant.0)
          (c.in_ok-push.ensures.place ∙ ap (λ (o : PageOptions). place_after o.scripting c.loop-token.page.place token) c.loop-token.invariant.0)
          ∙ c.loop-token.invariant.1,
    )
