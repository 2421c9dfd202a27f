use Rattle.std.proofs.Common.{◌≡◌, refl, sym, ◌∙◌}
use Rattle.std.specs.Prelude.{true, false}
use Rattle.std.proofs.lemmas.Result.{on_ok_weaker}
use Rattle.tree_construction.specs.Names.{is_select}
use Rattle.tree_construction.specs.Page.{has_kind}
use Rattle.tree_construction.specs.Parser.{in_scope}
use Rattle.tree_builder.proofs.builder.Builder.end_before_option_group.Goals as goal

pub returns-then-has_in_scope : goal.returns-then-has_in_scope
returns-then-has_in_scope g c =
    let scope : in_scope (has_kind is_select) c.args.self.now.parser ≡ true = sym c.has_in_scope.ensures ∙ c.if-has_in_scope.true in
    on_ok_weaker c.end_options.result (λ e. e ∙ sym (rw scope refl)) c.end_options.ensures

pub returns : goal.returns
returns g c =
    let scope : in_scope (has_kind is_select) c.args.self.now.parser ≡ false = sym c.has_in_scope.ensures ∙ c.if-has_in_scope.false in
    on_ok_weaker c.without_option.result (λ e. e ∙ sym (rw scope refl)) c.without_option.ensures
