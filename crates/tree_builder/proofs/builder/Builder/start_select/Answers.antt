use Rattle.std.proofs.Common.{◌≡◌, refl, sym, ◌∙◌}
use Rattle.std.specs.Prelude.{true, false}
use Rattle.std.proofs.lemmas.Result.{on_ok_weaker}
use Rattle.tree_construction.specs.Names.{is_select}
use Rattle.tree_construction.specs.Page.{has_kind}
use Rattle.tree_construction.specs.Parser.{in_scope}
use Rattle.tree_construction.specs.InBody.{is_in_select}
use Rattle.tree_builder.proofs.builder.Builder.start_select.Goals as goal

pub returns-then-has_in_scope : goal.returns-then-has_in_scope
returns-then-has_in_scope g c =
    let outside : is_in_select c.args.self.now.parser.options.context ≡ false = sym c.is_in_select.ensures ∙ c.if-is_in_select.false in
    let scope : in_scope (has_kind is_select) c.args.self.now.parser ≡ true = sym c.has_in_scope.ensures ∙ c.if-has_in_scope.true in
    on_ok_weaker c.close_select.result (λ e. e ∙ sym (rw (outside, scope) refl)) c.close_select.ensures
