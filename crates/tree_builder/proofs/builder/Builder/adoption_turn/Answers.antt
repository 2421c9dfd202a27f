use Rattle.std.proofs.Common.{◌≡◌, Some, None, ap, sym, ◌∙◌}
use Rattle.std.specs.Prelude.{option_map}
use Rattle.tree_construction.specs.Adoption.{adopted, turn}
use Rattle.tree_construction.specs.Formatting.{Listed, last_named, without_entry}
use Rattle.tree_construction.specs.Page.{has_number}
use Rattle.tree_construction.specs.Parser.{Parser, pop_until}
use Rattle.tree_names.specs.ElementNames.{name_bytes}
use Rattle.tree_lists.specs.Formatting.{listed_of}
use Rattle.tree_builder.specs.Built.{Built, on_parser}
use Rattle.tree_builder.proofs.Turns.{IsAround, adopts-by, expects-opened, is-around, out-of-scope}
use Rattle.tree_builder.proofs.builder.Builder.adoption_turn.Goals as goal

pub returns-then-not-has_in_scope : goal.returns-then-not-has_in_scope
returns-then-not-has_in_scope g c again =
    let now : Built g.row.S.Denot = c.args.self.now in
    let p : Parser = now.parser in
    let name = name_bytes c.args.name.now in
    let f : Listed = listed_of g.S.Handle.NodeHandle.node g.T.TagAttributes.said c.in-Some.element in
    let last : last_named name p.formatting ≡ Some f =
    c.in_ok-element.ensures ∙ ap (option_map (listed_of g.S.Handle.NodeHandle.node g.T.TagAttributes.said)) c.in-Some.is in
    c.in_ok-mistaken-2.ensures
    ∙ ap (λ q. record now { parser = q })
    (sym (out-of-scope again name f p (sym c.has_open.ensures ∙ c.if-not-has_open.false) (sym c.has_in_scope.ensures ∙ c.if-not-has_in_scope.true))
    ∙ ap (λ l. turn again name l p) (sym last))

pub returns-in_default-block : goal.returns-in_default-block
returns-in_default-block g c again =
    let now : Built g.row.S.Denot = c.args.self.now in
    let p : Parser = now.parser in
    let name = name_bytes c.args.name.now in
    let f : Listed = listed_of g.S.Handle.NodeHandle.node g.T.TagAttributes.said c.in-Some.element in
    let last : last_named name p.formatting ≡ Some f =
    c.in_ok-element.ensures ∙ ap (option_map (listed_of g.S.Handle.NodeHandle.node g.T.TagAttributes.said)) c.in-Some.is in
    c.unlist-in_default-block.ensures
    ∙ (ap (λ (b : Built g.row.S.Denot). on_parser (λ q. record q { formatting = without_entry f.node q.formatting }) b)
    (c.in_ok-pop_until.ensures ∙ ap (λ (b : Built g.row.S.Denot). on_parser (pop_until (has_number f.node)) b) c.in_ok-expect_current.ensures)
    ∙ ap (λ q. record now { parser = q })
    (sym (adopts-by again name f p None (sym c.has_open.ensures ∙ c.if-not-has_open.false) (sym c.has_in_scope.ensures ∙ c.if-not-has_in_scope.false)
    (c.furthest_block-block.ensures ∙ c.in_default-block.is))
    ∙ ap (λ l. turn again name l p) (sym last)))

pub adopt-requires-clause-stands : goal.adopt-requires-clause-stands
adopt-requires-clause-stands g c =
    let p : Parser = c.args.self.now.parser in
    let n = g.S.Handle.NodeHandle.node c.in-Some.element.handle in
    let same = ap (λ (b : Built g.row.S.Denot). b.parser.page.opened) c.in_ok-expect_current.ensures ∙ expects-opened (has_number n) p in
    let around : IsAround n p.page.opened c.in-Some-block.depth =
    is-around n p.page.opened c.in-Some-block.depth (c.furthest_block-block.ensures ∙ c.in-Some-block.is) (sym c.has_open.ensures ∙ c.if-not-has_open.false) in
    rw same around.stands

pub adopt-requires-clause-around : goal.adopt-requires-clause-around
adopt-requires-clause-around g c =
    let p : Parser = c.args.self.now.parser in
    let n = g.S.Handle.NodeHandle.node c.in-Some.element.handle in
    let same = ap (λ (b : Built g.row.S.Denot). b.parser.page.opened) c.in_ok-expect_current.ensures ∙ expects-opened (has_number n) p in
    let around : IsAround n p.page.opened c.in-Some-block.depth =
    is-around n p.page.opened c.in-Some-block.depth (c.furthest_block-block.ensures ∙ c.in-Some-block.is) (sym c.has_open.ensures ∙ c.if-not-has_open.false) in
    rw same around.around

pub returns : goal.returns
returns g c again =
    let now : Built g.row.S.Denot = c.args.self.now in
    let p : Parser = now.parser in
    let name = name_bytes c.args.name.now in
    let f : Listed = listed_of g.S.Handle.NodeHandle.node g.T.TagAttributes.said c.in-Some.element in
    let last : last_named name p.formatting ≡ Some f =
    c.in_ok-element.ensures ∙ ap (option_map (listed_of g.S.Handle.NodeHandle.node g.T.TagAttributes.said)) c.in-Some.is in
    ap (λ (b : Built g.row.S.Denot). on_parser again b)
    (c.in_ok-adopt.ensures ∙ ap (λ (b : Built g.row.S.Denot). on_parser (λ q. adopted q f c.in-Some-block.depth) b) c.in_ok-expect_current.ensures)
    ∙ ap (λ q. record now { parser = q })
    (sym (adopts-by again name f p (Some c.in-Some-block.depth) (sym c.has_open.ensures ∙ c.if-not-has_open.false)
    (sym c.has_in_scope.ensures ∙ c.if-not-has_in_scope.false) (c.furthest_block-block.ensures ∙ c.in-Some-block.is))
    ∙ ap (λ l. turn again name l p) (sym last))
