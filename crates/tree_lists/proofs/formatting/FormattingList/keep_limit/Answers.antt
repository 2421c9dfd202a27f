use Rattle.std.proofs.Common.{◌≡◌, ◌<◌, arith, sym, ◌∙◌}
use Rattle.std.specs.Prelude.{true, nat_lt}
use Rattle.std.proofs.lemmas.Bool.Decides.{nat_tests}
use Rattle.tree_construction.specs.Formatting.{count_after_marker}
use Rattle.tree_lists.proofs.Searches.{oldest-at}
use Rattle.tree_lists.proofs.formatting.FormattingList.keep_limit.Goals as goal

pub remove_at-requires : goal.remove_at-requires
remove_at-requires g c =
    let counted = c.count_after_marker-count.ensures in
    let some : 0 < c.count_after_marker-count.result = omega (arith, c.if-limit-count.true) in
    (oldest-at c.args.self.now c.count_after_marker-count.result counted some).within

pub returns-then-limit-count : goal.returns-then-limit-count
returns-then-limit-count g c =
    let counted = c.count_after_marker-count.ensures in
    let some : 0 < c.count_after_marker-count.result = omega (arith, c.if-limit-count.true) in
    let past : nat_lt c.in-Some.limit (count_after_marker c.args.self.now) ≡ true = grind (arith, nat_tests, counted, c.if-limit-count.true) in
    let l = c.if-limit-count.true in
    rw (c.in-Some.is, past)
    (c.remove_at.ensures.list ∙ sym (oldest-at c.args.self.now c.count_after_marker-count.result counted some).without)
