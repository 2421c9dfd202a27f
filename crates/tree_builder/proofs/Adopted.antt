-- What is done with the furthest block after the inner loop is what the definition says.
use Rattle.std.proofs.Common.{◌≡◌, ℕ, zero, suc, ◌+◌, ◌<◌, List, [], ◌∷◌, ◌++◌, length, take, drop, refl, ap, sym, ◌∙◌, arith, append_assoc}
use Rattle.std.proofs.lemmas.List.{reverse-append}
use Rattle.std.specs.Prelude.{reverse}
use Rattle.tree_construction.specs.Adoption.{Inner, adopted, adopted_after, at_bookmark, inner_loop, inner_start, nth_open, opened_inside, opened_outside, remade, remade_open, remake}
use Rattle.tree_construction.specs.Formatting.{Listed}
use Rattle.tree_construction.specs.Page.{Open, Place}
use Rattle.tree_construction.specs.Page.Place.{LastChild}
use Rattle.tree_construction.specs.Page.Edit.{MoveChildren, Pop, Put, Remove}
use Rattle.tree_construction.specs.Parser.{Parser, place_in}
use Rattle.tree_builder.specs.Adopting.{pushed_back}
use Rattle.tree_lists.proofs.OpenPlaces.{drop-twice}

pub pushed-back : (es opened : List Open) → pushed_back es opened ≡ reverse es ++ opened
unfolding pushed_back
pushed-back [] opened = refl
pushed-back (e ∷ es) opened =
    pushed-back es (e ∷ opened) ∙ (sym (append_assoc (reverse es) (e ∷ []) opened) ∙ ap (λ ys. ys ++ opened) (sym (reverse-append (e ∷ []) es)))

nth-suc : (d : ℕ) (xs : List Open) → d < length xs → drop d xs ≡ nth_open d xs ∷ drop (suc d) xs
unfolding nth_open
nth-suc zero [] h = absurd (omega (arith, h))
nth-suc zero (x ∷ xs) h = refl
nth-suc (suc d) [] h = absurd (omega (arith, h))
nth-suc (suc d) (x ∷ xs) h = nth-suc d xs (omega (arith, h))

-- the stack from a depth on isn't empty
pub stands-above : (d : ℕ) (xs : List Open) → d < length xs → drop d xs ≡ [] → ⊥
stands-above d xs h e =
    let is = nth-suc d xs h in
    let f : [] ≡ nth_open d xs ∷ drop (suc d) xs = sym e ∙ is in
    cc

-- the element at a depth, by the one that was taken there
pub nth-is : (d : ℕ) (xs : List Open) (x : Open) (rest : List Open) → d < length xs → drop d xs ≡ x ∷ rest → nth_open d xs ≡ x
nth-is d xs x rest h e =
    let is = nth-suc d xs h in
    let f : nth_open d xs ∷ drop (suc d) xs ≡ x ∷ rest = sym is ∙ e in
    cc

pub adopted-is : (p : Parser) (f : Listed) (d new : ℕ) (block inside : Open) (within clones : List Open) (place : Place) (i : Inner)
    → d < length p.page.opened
    → drop d p.page.opened ≡ block ∷ drop 1 (drop d p.page.opened)
    → within ≡ take d p.page.opened
    → new ≡ i.next
    → inside ≡ remade_open i.next f
    → place ≡ place_in p (opened_outside f.node (drop (d + 1) p.page.opened))
    → reverse clones ≡ i.clones
    → i ≡ inner_loop block.node 1 (opened_inside f.node (drop 1 (drop d p.page.opened))) (inner_start p block.node)
    → record p {
      page = record {
        next = suc i.next;
        opened = within ++ inside ∷ block ∷ pushed_back clones (opened_outside f.node (drop 1 (drop d p.page.opened)));
        edits = Pop f.node ∷ Put (LastChild block.node) i.next ∷ MoveChildren block.node i.next ∷ remake i.next f
            ∷ Put place i.last ∷ Remove i.last ∷ i.edits;
      };
      formatting = at_bookmark i.bookmark f.node (remade new f) i.formatting;
    } ≡ adopted p f d
unfolding adopted
adopted-is p f d new block inside within clones place i h here front number remake_is at made loop =
    let opened : List Open = p.page.opened in
    let after : drop 1 (drop d opened) ≡ drop (d + 1) opened = drop-twice d 1 opened in
    let block_is : nth_open d opened ≡ block = nth-is d opened block (drop 1 (drop d opened)) h here in
    let around : List Open = drop (d + 1) opened in
    let loop_is : i ≡ inner_loop block.node 1 (opened_inside f.node around) (inner_start p block.node) =
    loop ∙ ap (λ es. inner_loop block.node 1 (opened_inside f.node es) (inner_start p block.node)) after in
    let stack : pushed_back clones (opened_outside f.node (drop 1 (drop d opened))) ≡ i.clones ++ opened_outside f.node around =
    pushed-back clones (opened_outside f.node (drop 1 (drop d opened)))
    ∙ (ap (λ es. es ++ opened_outside f.node (drop 1 (drop d opened))) made ∙ ap (λ es. i.clones ++ opened_outside f.node es) after) in
    rw (front, number, remake_is, at, stack)
    (ap (λ j. adopted_after p f block (take d opened) (opened_outside f.node around) j) loop_is
    ∙ ap (λ (b : Open). adopted_after p f b (take d opened) (opened_outside f.node around) (inner_loop b.node 1 (opened_inside f.node around) (inner_start p b.node))) (sym block_is))
