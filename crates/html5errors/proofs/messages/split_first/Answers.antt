use Rattle.std.proofs.Common.{◌++◌, sym, ap, ◌∙◌}
use Rattle.std.specs.Prelude.{encode_utf8}
use Rattle.std.specs.Str.Iter.{chars_rest}
use Rattle.std.proofs.lemmas.List.{nil_from_length}
use Rattle.html5errors.proofs.Words.{split-first, split-none}
use Rattle.html5errors.proofs.messages.split_first.Goals as goal

pub returns-in-Some : goal.returns-in-Some
returns-in-Some c =
    split-first c.args.text.now c.as_str.result.now c.in-Some.first c.utf8.text
    (sym c.chars-rest.ensures.rest ∙ c.in-Some.ensures.steps.0 ∙ ap (λ l. encode_utf8 c.in-Some.first ++ l) (sym c.as_str.ensures))

pub returns-in-None : goal.returns-in-None
returns-in-None c = split-none c.args.text.now (sym c.chars-rest.ensures.rest ∙ nil_from_length (chars_rest c.chars-rest.result) c.in-None.ensures.steps.0.0)
