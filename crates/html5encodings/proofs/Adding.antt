-- What is added to a text, part by part.
use Rattle.std.proofs.Common.{ℕ, List, ◌++◌, sym, ap, ◌∙◌, append_assoc}
use Rattle.std.specs.Prelude.{String, string_bytes, encode_utf8_all}
use Rattle.std.proofs.lemmas.Str.{encodes-append}
use Rattle.html5encodings.specs.Steps.{Adds}

pub Adds-append : {Z : Type 0} (old between new : String Z) (xs ys : List ℕ) → Adds old between xs → Adds between new ys → Adds old new (xs ++ ys)
Adds-append old between new xs ys first second =
    second ∙ ap (λ t. t ++ encode_utf8_all ys) first ∙ append_assoc (string_bytes old) (encode_utf8_all xs) (encode_utf8_all ys)
    ∙ ap (λ t. string_bytes old ++ t) (sym (encodes-append xs ys))
