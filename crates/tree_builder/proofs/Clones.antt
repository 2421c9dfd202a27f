-- One turn of the inner loop of the adoption agency algorithm.
use Rattle.std.proofs.Common.{◌≡◌, ℕ, Bool, true, false, List, [], ◌∷◌, ◌++◌, Option, Some, None, refl, ap, sym, ◌∙◌}
use Rattle.std.proofs.lemmas.Bool.{eqb-true}
use Rattle.std.specs.Prelude.{◌==◌, option_map, reverse, if◌then◌else◌}
use Rattle.tree_construction.specs.Adoption.{Inner, cloned, entry_of, remade_open}
use Rattle.tree_construction.specs.Formatting.{Listed}
use Rattle.tree_construction.specs.Page.{Open}
use Rattle.tree_construction.specs.Page.Place.{LastChild}
use Rattle.tree_construction.specs.Page.Edit.{Pop, Put, Remove}
use Rattle.tree_construction.specs.Parser.{Entry, Parser}
use Rattle.tree_construction.specs.Parser.Entry.{Active, Marker}
use Rattle.tree_builder.specs.Adopting.{remade_in}

-- the entry of a node is of that node
entry-node : (n : ℕ) (list : List Entry) (e : Listed) → entry_of n list ≡ Some e → e.node ≡ n
unfolding entry_of
entry-node n [] e h = cc
entry-node n (Marker ∷ list) e h = entry-node n list e h
entry-node n (Active m kind name attributes ∷ list) e h = at (m == n) refl h (entry-node n list e)
  where
    at : (b : Bool) → (m == n) ≡ b
        → (if b then Some (record { node = m; kind = kind; name = name; attributes = attributes }) else entry_of n list) ≡ Some e
        → (entry_of n list ≡ Some e → e.node ≡ n) → e.node ≡ n
    at true same found again =
        let own : Listed = record { node = m; kind = kind; name = name; attributes = attributes } in
        let is : own ≡ e = cc in
        sym (ap (λ (x : Listed). x.node) is) ∙ eqb-true m n same
    at false same found again = again found

abbrev later_inner : Parser → (n last : ℕ) → Open → Option ℕ → List Open → Inner
later_inner p n last clone bookmark clones = record {
  next = p.page.next;
  edits = Put (LastChild clone.node) last ∷ Remove last ∷ Pop n ∷ p.page.edits;
  formatting = p.formatting;
  last = clone.node;
  bookmark = bookmark;
  clones = reverse (clone ∷ clones);
}

abbrev inner_before : Parser → (last : ℕ) → Option ℕ → List Entry → List Open → Inner
inner_before p last bookmark formatting clones = record {
  next = p.page.next;
  edits = p.page.edits;
  formatting = formatting;
  last = last;
  bookmark = bookmark;
  clones = reverse clones;
}

pub cloned-some : (q : Parser) (o : Option Listed) (block n last : ℕ) (clone : Open) (bookmark later : Option ℕ) (formatting : List Entry)
    (clones : List Open) → o ≡ entry_of n q.formatting → Some clone ≡ option_map (remade_open q.page.next) o
    → later ≡ (if last == block then Some clone.node else bookmark) → reverse (clone ∷ clones) ≡ reverse clones ++ clone ∷ []
    → later_inner (remade_in o n q) n last clone later clones ≡ cloned block n o q.formatting (inner_before q last bookmark formatting clones)
cloned-some q None block n last clone bookmark later formatting clones found h l r = cc
cloned-some q (Some e) block n last clone bookmark later formatting clones found h l r =
    let same : clone ≡ remade_open q.page.next e = cc in
    let node : e.node ≡ n = entry-node n q.formatting e (sym found) in
    rw (r, l, node, same) refl
