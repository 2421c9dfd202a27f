use Rattle.std.proofs.Common.{◌++◌, string_bytes, sym, ap, ◌∙◌}
use Rattle.std.proofs.lemmas.Str.{encodes-chars}
use Rattle.html5serialize.proofs.raw_texts.push_as_it_is.Goals as goal

pub returns : goal.returns
returns g c = c.in_ok-push_str.ensures.bytes ∙ ap (λ l. string_bytes c.args.out.now ++ l) (sym (encodes-chars c.args.text.now c.utf8.text))
