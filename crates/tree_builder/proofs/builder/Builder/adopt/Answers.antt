use Rattle.std.proofs.Common.{◌≡◌, ◌∷◌, ap, drop, refl, sym, ◌∙◌}
use Rattle.std.proofs.lemmas.Result.{on_ok_weaker}
use Rattle.tree_construction.specs.Adoption.{Inner, inner_loop, inner_start, opened_inside, remade_open}
use Rattle.tree_construction.specs.Formatting.{Listed}
use Rattle.tree_construction.specs.Page.{Open}
use Rattle.tree_construction.specs.Parser.{Parser, on_page}
use Rattle.tree_names.specs.ElementNames.{name_bytes}
use Rattle.tree_sink.specs.Places.{place_of}
use Rattle.tree_lists.specs.Formatting.{listed_of}
use Rattle.tree_lists.specs.Opened.{open_of, opened_of}
use Rattle.tree_builder.specs.Adopting.{inner_of}
use Rattle.tree_builder.specs.Built.{Built, on_parser}
use Rattle.tree_builder.proofs.Adopted.{adopted-is, stands-above}
use Rattle.tree_builder.proofs.builder.Builder.adopt.Goals as goal

pub unreachable-requires : goal.unreachable-requires
unreachable-requires g c =
    let within = ap (λ (b : Built g.row.S.Denot). b.parser.page.opened) c.in_ok-within.ensures.rest in
    stands-above c.args.depth c.args.self.now.parser.page.opened c.requires.stands (sym within ∙ c.in_default.ensures.none)

pub returns : goal.returns
returns g c =
    let node = g.S.Handle.NodeHandle.node in
    let now : Built g.row.S.Denot = c.args.self.now in
    let p : Parser = now.parser in
    let d = c.args.depth in
    let f : Listed = listed_of node g.T.TagAttributes.said c.args.formatting in
    let block : Open = open_of node c.in-Some.block in
    let i : Inner = inner_of node c.adopt_up_to.new.self c.in_ok-at.at in
    let opened : c.take_within.new.self.parser.page.opened ≡ drop d p.page.opened =
    ap (λ (b : Built g.row.S.Denot). b.parser.page.opened) c.in_ok-within.ensures.rest in
    let here : drop d p.page.opened ≡ block ∷ drop 1 (drop d p.page.opened) =
    sym opened ∙ (c.in-Some.ensures.some ∙ ap (λ es. block ∷ drop 1 es) opened) in
    let taken : c.take_open.new.self ≡ on_parser (on_page (λ page. record page { opened = drop 1 (drop d p.page.opened) })) now =
    c.in-Some.ensures.opened
    ∙ ap (λ (b : Built g.row.S.Denot). on_parser (on_page (λ page. record page { opened = drop 1 page.opened })) b) c.in_ok-within.ensures.rest in
    let loop : i ≡ inner_loop block.node 1 (opened_inside f.node (drop 1 (drop d p.page.opened))) (inner_start p block.node) =
    c.in_ok-at.ensures.inner
    ∙ ap (λ (b : Built g.row.S.Denot). inner_loop block.node 1 (opened_inside f.node b.parser.page.opened) (inner_start b.parser block.node)) taken in
    let new_is : node c.in_ok-new.new ≡ i.next =
    c.in_ok-new.ensures.node ∙ ap (λ (b : Built g.row.S.Denot). b.parser.page.next) c.in_ok-put_last.ensures in
    let inside : Open = record { node = node c.in_ok-new.new; kind = c.kind.result; name = name_bytes c.in_ok-try_clone.field-0 } in
    let inside_is : inside ≡ remade_open i.next f = rw (new_is, c.kind.ensures, c.in_ok-try_clone.ensures) refl in
    on_ok_weaker c.put_within.result
    (λ e. e ∙ rw (c.in_ok-push_open-2.ensures, c.in_ok-push_open.ensures, c.in_ok-push_all.ensures, c.in_ok-list_adopted.ensures, c.in_ok-new.ensures.page, c.in_ok-put_last.ensures, c.in_ok-at.ensures.rest, taken)
    (ap (λ q. record now { parser = q })
    (adopted-is p f d (node c.in_ok-new.new) block inside (opened_of node c.in_ok-within.within) (opened_of node c.in_ok-at.at.clones)
    (place_of node c.in_ok-place.place) i c.requires.stands here c.in_ok-within.ensures.front new_is inside_is c.in_ok-place.ensures refl loop)))
    c.put_within.ensures
