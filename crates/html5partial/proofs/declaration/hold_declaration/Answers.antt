use Rattle.std.proofs.Common.{◌≤◌, string_bytes, rules}
use Rattle.html5partial.proofs.Keywords.{no_keyword-high, keyword-opens}
use Rattle.html5partial.proofs.declaration.hold_declaration.Goals as goal

pub returns-then-not-is_ascii-clause-decided : goal.returns-then-not-is_ascii-clause-decided
returns-then-not-is_ascii-clause-decided g c =
    let high : 128 ≤ c.args.c = search rules in
    λ same exact. no_keyword-high exact c.args.foreign (string_bytes c.args.at.now.comment) c.args.c high

pub returns-then-begins_cdata-clause-taken : goal.returns-then-begins_cdata-clause-taken
returns-then-begins_cdata-clause-taken g c = λ yes exact.
    keyword-opens exact c.args.foreign (string_bytes c.args.at.now.comment) (string_bytes c.push.new.self) c.args.c _ (search rules) (search rules) (search rules) (search rules) (search rules) (search rules) c.open_cdata.ensures.opened
