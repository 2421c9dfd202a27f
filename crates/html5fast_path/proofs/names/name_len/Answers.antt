use Rattle.std.proofs.Common.{sym, ◌∙◌, ◌-◌, take, drop}
use Rattle.std.specs.Str.{chars}
use Rattle.html5fast_path.proofs.Beginnings.{front-begins}
use Rattle.html5fast_path.proofs.names.name_len.Goals as goal

pub returns-clause-name : goal.returns-clause-name
returns-clause-name c = λ some.
    let text = c.args.text.now in
    let len = c.front_len.result in
    record {
      outside = c.front_len.ensures.outside;
      first = c.in-Some.first;
      rest = chars (take (len - 1) (drop 1 text));
      parts = front-begins text len c.in-Some.first c.utf8.text c.in-Some.ensures some;
      letter = sym c.is_letter.ensures ∙ c.if-not-is_letter.false;
    }
