use Rattle.std.specs.Prelude.{true}
use Rattle.std.proofs.Common.{◌≡◌, ap, sym, ◌∙◌}
use Rattle.std.proofs.lemmas.Result.{on_ok_weaker}
use Rattle.tree_construction.specs.Tables.{is_all_space}
use Rattle.tree_builder.proofs.Pending.{spaces_texted}
use Rattle.tree_builder.proofs.builder.Builder.insert_collected.Goals as goal

pub returns-then-is_all_space : goal.returns-then-is_all_space
returns-then-is_all_space g c =
    let now = c.args.self.now in
    let spaces : is_all_space c.args.text.now ≡ true = sym c.is_all_space.ensures ∙ c.if-is_all_space.true in
    on_ok_weaker c.insert_text.result
    (λ e. e ∙ ap (λ q. record now { parser = q }) (sym (rw spaces (spaces_texted c.args.text.now now.parser))))
    c.insert_text.ensures
