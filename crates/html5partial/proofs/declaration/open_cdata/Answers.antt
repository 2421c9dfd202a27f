use Rattle.std.proofs.Common.{refl, sym, ap, ◌∙◌}
use Rattle.std.specs.Str.{bytes_eq, chars}
use Rattle.std.proofs.lemmas.Str.{chars-nil}
use Rattle.html5reading.specs.Cdata.{open_cdata}
use Rattle.html5reading.specs.Comment.{cdata_keyword}
use Rattle.html5partial.proofs.declaration.open_cdata.Goals as goal

pub returns-then-eq-clause-opened : goal.returns-then-eq-clause-opened
returns-then-eq-clause-opened g c =
    let is_keyword = ap (λ l. bytes_eq l cdata_keyword) (sym c.as_str.ensures.value) ∙ sym c.eq.ensures ∙ c.if-eq.true in
    ap (λ l. open_cdata (chars l)) c.clear.ensures.bytes ∙ ap open_cdata chars-nil ∙ rw is_keyword refl
