use Rattle.std.proofs.Common.{codes, subst}
use Rattle.html5json.specs.Adding.{Adds}
use Rattle.html5json.specs.Tokens.{json_of_option}
use Rattle.json.specs.Json.{member, no_members}
use Rattle.json.specs.Tree.{members_tokens}
use Rattle.html5json.proofs.Addings.{adds_after}
use Rattle.html5json.proofs.tokens.write_error.Goals as goal

pub returns : goal.returns
returns g c =
    let r = c.end_with_option.result in
    let after = c.end_with_option.new.writer in
    adds_after r _ c.write_type_and_line.new.writer _ _ _ c.in_ok-write_type_and_line.ensures.ok c.in_ok-write_type_and_line.ensures.kept
    (adds_after r _ c.write_text.new.writer _ _ _ c.in_ok-write_text.ensures.ok c.in_ok-write_text.ensures.kept
    (subst (λ code. Adds r c.write_text.new.writer after (members_tokens (member (codes "code") (json_of_option code) no_members)))
    c.code_word.ensures c.end_with_option.ensures))
