-- The inner loop of the adoption agency algorithm, by what a builder holds. These are words of the proofs: no promise to callers is made of them.
use Rattle.std.specs.Prelude.{ℕ, suc, List, [], ◌∷◌, Option, Some, None, reverse}
use Rattle.tree_construction.specs.Adoption.{Inner, remade, remake, replaced}
use Rattle.tree_construction.specs.Formatting.{Listed}
use Rattle.tree_construction.specs.Page.{Open}
use Rattle.tree_construction.specs.Parser.{Parser}
use Rattle.tree_lists.specs.Opened.{node_in, opened_of}
use Rattle.tree_builder.specs.Built.{Built}
use Rattle.tree_builder.specs.declared.adoption.Adopting.{Adopting}

abbrev pub inner_of : {Q H Z : Type 0} → (H → ℕ) → Built Q → Adopting H Z → Inner
inner_of node b at = record {
  next = b.parser.page.next;
  edits = b.parser.page.edits;
  formatting = b.parser.formatting;
  last = node at.last;
  bookmark = node_in node at.bookmark;
  clones = reverse (opened_of node at.clones);
}

-- the element of an entry is made again, and takes its place in the list
abbrev pub remade_in : Option Listed → ℕ → Parser → Parser
remade_in None n p = p
remade_in (Some e) n p = record p {
  page = record p.page { next = suc p.page.next; edits = remake p.page.next e ∷ p.page.edits };
  formatting = replaced n (remade p.page.next e) p.formatting;
}

-- a builder as another, except for the next number, the edits and the list
abbrev pub with_inner : {Q : Type 0} → Built Q → Built Q → Built Q
with_inner inner b = record b {
  parser = record b.parser {
    page = record b.parser.page { next = inner.parser.page.next; edits = inner.parser.page.edits };
    formatting = inner.parser.formatting;
  };
}

abbrev pub with_opened : {Q : Type 0} → List Open → Built Q → Built Q
with_opened opened b = record b { parser = record b.parser { page = record b.parser.page { opened = opened } } }

-- elements that are opened one by one, the first one first
unfoldable pub pushed_back : List Open → List Open → List Open
pushed_back [] opened = opened
pushed_back (e ∷ es) opened = pushed_back es (e ∷ opened)
