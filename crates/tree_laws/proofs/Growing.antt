-- Edits are only added: the steps that add some. GrowingSteps goes on with all others.
use Rattle.std.proofs.Common.{ℕ, Bool, true, false, List, [], ◌∷◌, drop, take, refl, ap}
use Rattle.std.specs.Prelude.{suc, ◌+◌, Option, Some, None, if◌then◌else◌}
use Rattle.markup5ever.specs.Names.{AttributeOf}
use Rattle.tree_construction.specs.declared.kinds.Kind.{Kind}
use Rattle.tree_construction.specs.Adjusting.{adjusted_attributes}
use Rattle.tree_construction.specs.Adoption.{Inner, adopted, adopted_after, cloned, entry_of, inner_loop, inner_start, list_at, nth_open, opened_inside, opened_outside, remake}
use Rattle.tree_construction.specs.Formatting.{Listed}
use Rattle.tree_laws.specs.Laws.{Extends}
use Rattle.tree_construction.specs.Names.{is_template, namespace_of}
use Rattle.tree_construction.specs.Page.{Edit, Open, Page, Place, comment_put, edited, left, made, removed_from_stack}
use Rattle.tree_construction.specs.Page.Edit.{MakeContents, MakeElement, MakeComment, MoveChildren, Pop, Put, Remove}
use Rattle.tree_construction.specs.Page.Place.{LastChild}
use Rattle.tree_construction.specs.Parser.{Entry, Parser, on_page, place_in}

pub extends-itself : (edits : List Edit) → Extends edits edits
extends-itself edits = record { added = []; is = refl }

module _ (first : List Edit) where
  -- one more
  grows-by : (edit : Edit) (edits : List Edit) → Extends first edits → Extends first (edit ∷ edits)
  grows-by edit edits h = record { added = edit ∷ h.added; is = ap (λ es. edit ∷ es) h.is }

  pub grows-if-parser : (test : Bool) (p q : Parser) → Extends first p.page.edits → Extends first q.page.edits → Extends first (if test then p else q).page.edits
  grows-if-parser true p q g h = g
  grows-if-parser false p q g h = h

  pub grows-if-page : (test : Bool) (p q : Page) → Extends first p.edits → Extends first q.edits → Extends first (if test then p else q).edits
  grows-if-page true p q g h = g
  grows-if-page false p q g h = h

  pub grows-on_page : (change : Page → Page) → ((first : List Edit) (page : Page) → Extends first page.edits → Extends first (change page).edits)
      → (p : Parser) → Extends first p.page.edits → Extends first (on_page change p).page.edits
  grows-on_page change keeps p h = keeps first p.page h

  pub grows-edited : (edit : Edit) (page : Page) → Extends first page.edits → Extends first (edited edit page).edits
  grows-edited edit page h = grows-by edit page.edits h

  pub grows-left : (e : Open) (es : List Open) (page : Page) → Extends first page.edits → Extends first (left e es page).edits
  grows-left e es page h = grows-by (Pop e.node) page.edits h

  pub grows-removed_from_stack : (n : ℕ) (page : Page) → Extends first page.edits → Extends first (removed_from_stack n page).edits
  grows-removed_from_stack n page h = grows-by (Pop n) page.edits h

  pub grows-comment_put : (place : Place) (text : List ℕ) (page : Page) → Extends first page.edits → Extends first (comment_put place text page).edits
  grows-comment_put place text page h = grows-by (Put place page.next) _ (grows-by (MakeComment page.next text) page.edits h)

  grows-contents : (is_such : Bool) (n : ℕ) (edits : List Edit) → Extends first edits
      → Extends first (if is_such then MakeContents n (suc n) ∷ edits else edits)
  grows-contents true n edits h = grows-by (MakeContents n (suc n)) edits h
  grows-contents false n edits h = h

  pub grows-made : (kind : Kind) (name : List ℕ) (attributes : List AttributeOf) (page : Page) → Extends first page.edits
      → Extends first (made kind name attributes page).edits
  grows-made kind name attributes page h =
      grows-contents (is_template kind) page.next _
      (grows-by (MakeElement page.next (namespace_of kind) name (adjusted_attributes (namespace_of kind) attributes)) page.edits h)

  -- ---- the adoption agency

  grows-cloned : (block n : ℕ) (entry : Option Listed) (list : List Entry) (inner : Inner) → Extends first inner.edits
      → Extends first (cloned block n entry list inner).edits
  grows-cloned block n None list inner h = grows-by (Pop n) inner.edits h
  grows-cloned block n (Some e) list inner h =
      grows-by (Put (LastChild inner.next) inner.last) _ (grows-by (Remove inner.last) _ (grows-by (Pop e.node) _ (grows-by (remake inner.next e) inner.edits h)))

  grows-inner_loop : (block counter : ℕ) (es : List Open) (inner : Inner) → Extends first inner.edits → Extends first (inner_loop block counter es inner).edits
  unfolding inner_loop
  grows-inner_loop block counter [] inner h = h
  grows-inner_loop block counter (e ∷ es) inner h =
      let list : List Entry = list_at counter e.node inner.formatting in
      grows-inner_loop block (suc counter) es _ (grows-cloned block e.node (entry_of e.node list) list inner h)

  pub grows-adopted_after : (p : Parser) (f : Listed) (block : Open) (within outer : List Open) (inner : Inner) → Extends first inner.edits
      → Extends first (adopted_after p f block within outer inner).page.edits
  grows-adopted_after p f block within outer inner h =
      grows-by (Pop f.node) _ (grows-by (Put (LastChild block.node) inner.next) _ (grows-by (MoveChildren block.node inner.next) _
      (grows-by (remake inner.next f) _ (grows-by (Put (place_in p outer) inner.last) _ (grows-by (Remove inner.last) inner.edits h)))))

  pub grows-adopted : (p : Parser) (f : Listed) (d : ℕ) → Extends first p.page.edits → Extends first (adopted p f d).page.edits
  unfolding adopted
  grows-adopted p f d h =
      let block : Open = nth_open d p.page.opened in
      let around : List Open = drop (d + 1) p.page.opened in
      let inner : Inner = inner_loop block.node 1 (opened_inside f.node around) (inner_start p block.node) in
      grows-adopted_after p f block (take d p.page.opened) (opened_outside f.node around) inner
      (grows-inner_loop block.node 1 (opened_inside f.node around) (inner_start p block.node) h)
