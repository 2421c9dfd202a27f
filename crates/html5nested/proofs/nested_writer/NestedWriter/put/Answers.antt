use Rattle.std.proofs.Common.{◌++◌, ap, ◌∙◌}
use Rattle.html5tree.specs.Nested.{Nested}
use Rattle.html5nested.specs.Adding.{item_said}
use Rattle.html5nested.specs.NestedPages.{NestedPage}
use Rattle.html5nested.proofs.Nesting.{nests-put}
use Rattle.html5nested.proofs.nested_writer.NestedWriter.put.Goals as goal

pub returns : goal.returns
returns g c =
    let part = c.write_fitted.new.page in
    let after : NestedPage = record { pieces = c.append.new.self; opened = c.swap.new.x.opened; limit = c.swap.new.x.limit } in
    nests-put c.args.self.now after (item_said c.args.item.now) c.copy_from.new.self c.write_fitted.new.nesting c.new-part.result part
    (ap (λ (n : Nested). n.opened) c.in_ok-copy_from.ensures ∙ ap (λ (p : NestedPage). p.opened) c.self.view_is)
    (ap (λ (n : Nested). n.limit) c.in_ok-copy_from.ensures ∙ ap (λ (p : NestedPage). p.limit) c.self.view_is)
    c.new-part.ensures c.in_ok-write_fitted.ensures
    (c.in_ok-append.ensures.written ∙ ap (λ (p : NestedPage). p.pieces ++ part) c.self.view_is)
    (ap (λ (n : Nested). n.opened) c.swap.ensures.x_after)
    (ap (λ (n : Nested). n.limit) c.swap.ensures.x_after)
