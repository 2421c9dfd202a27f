use Rattle.std.specs.Str.{IsCharBoundary}
use Rattle.std.proofs.Common.{◌≡◌, ◌<◌, ap, length, subst, sym, ◌∙◌}
use Rattle.tree_builder.proofs.Boundaries.{run-boundary, run-some, some-bytes}
use Rattle.tree_builder.proofs.text_search.first_run.Goals as goal

pub split_at-requires : goal.split_at-requires
split_at-requires c =
    let bytes = c.as_bytes-bytes.result.now in
    let text = c.args.text.now in
    let same : bytes ≡ text = c.as_bytes-bytes.ensures.value in
    let some : 0 < length bytes =
    subst (λ n. 0 < n) (sym (ap length same)) (some-bytes (length text) (sym c.is_empty.ensures ∙ c.if-is_empty.false)) in
    let first : 0 < c.run_len.result = run-some c.of-class.result bytes c.run_len.result some c.of-class.ensures c.run_len.ensures.ends in
    subst (λ bs. IsCharBoundary bs c.run_len.result) same
    (run-boundary c.of-class.result bytes c.run_len.result c.as_bytes-bytes.ensures.utf8 first c.run_len.ensures.within c.run_len.ensures.all
    c.run_len.ensures.ends)
