use Rattle.std.proofs.Common.{ap, ◌∙◌}
use Rattle.std.proofs.lemmas.Result.{on_ok_weaker}
use Rattle.tree_construction.specs.InBody.{expects_no_option, is_option_or_group}
use Rattle.tree_builder.specs.Built.{on_parser}
use Rattle.tree_builder.proofs.builder.Builder.end_options.Goals as goal

pub returns : goal.returns
returns g c =
    on_ok_weaker c.expect_no_option.result
    (λ e. e ∙ ap (on_parser (expects_no_option is_option_or_group)) c.in_ok-generate_implied_end_tags.ensures)
    c.expect_no_option.ensures
