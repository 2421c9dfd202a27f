-- "The adoption agency algorithm", and "any other end tag", as which it acts if the list has no formatting element of the name.
use Rattle.std.specs.Prelude.{ℕ, suc, zero, Bool, true, false, not, List, [], ◌∷◌, ◌++◌, ◌&&◌, ◌==◌, ◌+◌, Option, Some, None, drop, take, nat_lt, if◌then◌else◌}
use Rattle.markup5ever.specs.Names.{AttributeOf}
use Rattle.tree_construction.specs.declared.kinds.Kind.{Kind}
use Rattle.tree_construction.specs.declared.kinds.Kind.TheVariants.{Ordinary}
use Rattle.tree_construction.specs.declared.kinds.Namespace.TheVariants.{Html}
use Rattle.tree_construction.specs.declared.mistakes.Mistake.TheVariants.{UnclosedElements, FormattingNotOpen, FormattingNotInScope}
use Rattle.tree_construction.specs.Names.{is_special}
use Rattle.tree_construction.specs.Page.{Edit, Open, Page, current_passes, has_name, has_number, has_open, popped_until}
use Rattle.tree_construction.specs.Page.Place.{LastChild}
use Rattle.tree_construction.specs.Page.Edit.{MakeElement, Put, Remove, MoveChildren, Pop}
use Rattle.tree_construction.specs.Parser.{Parser, Entry, ended_without_implied, expects_current, implied_ended_but, in_scope, mistaken, on_page, place_in, pop, pop_until, unexpected}
use Rattle.tree_construction.specs.Parser.Entry.{Marker, Active}
use Rattle.tree_construction.specs.Formatting.{Listed, has_entry, is_entry_of, last_named, without_entry}

-- ---- "In body", any other end tag

-- the innermost element of the name, if no special one is met before it
unfoldable pub ended_by : List ℕ → List Open → Option ℕ
ended_by name [] = None
ended_by name (e ∷ es) = if has_name name e then Some e.node else if is_special e.kind then None else ended_by name es

abbrev pub end_of : List ℕ → Option ℕ → Parser → Parser
end_of name None p = unexpected p
end_of name (Some n) p = pop_until (has_number n) (expects_current (has_number n) (implied_ended_but (has_name name) p))

abbrev pub any_other_end_tag : List ℕ → Parser → Parser
any_other_end_tag name p = end_of name (ended_by name p.page.opened) p

-- ---- "Furthest block": the special element that is outermost, of those inside the formatting element; by how deep it stands

unfoldable pub nth_open : ℕ → List Open → Open
nth_open d [] = record { node = 0; kind = Ordinary; name = [] }
nth_open zero (e ∷ es) = e
nth_open (suc d) (e ∷ es) = nth_open d es

-- the elements inside a node, and those outside
unfoldable pub opened_inside : ℕ → List Open → List Open
opened_inside n [] = []
opened_inside n (e ∷ es) = if e.node == n then [] else e ∷ opened_inside n es

unfoldable pub opened_outside : ℕ → List Open → List Open
opened_outside n [] = []
opened_outside n (e ∷ es) = if e.node == n then es else opened_outside n es

abbrev pub deeper : Bool → Option ℕ → Option ℕ
deeper special (Some d) = Some (suc d)
deeper special None = if special then Some 0 else None

unfoldable pub furthest_block : List Open → Option ℕ
furthest_block [] = None
furthest_block (e ∷ es) = deeper (is_special e.kind) (furthest_block es)

-- ---- the inner loop, over the elements between the furthest block and the formatting element

pub record Inner : Type 0 where
  pub next : ℕ
  pub edits : List Edit
  pub formatting : List Entry
  -- "last node"
  pub last : ℕ
  -- "bookmark": after the entry of this node, or else in the place of the formatting element
  pub bookmark : Option ℕ
  -- the elements that were made for those that are still in the list, innermost first
  pub clones : List Open

-- "If the inner loop counter is greater than 3 and node is in the list of active formatting elements, then remove node from the list"
abbrev pub list_at : (counter : ℕ) → ℕ → List Entry → List Entry
list_at counter n list = if nat_lt 3 counter then without_entry n list else list

unfoldable pub entry_of : ℕ → List Entry → Option Listed
entry_of n [] = None
entry_of n (Marker ∷ list) = entry_of n list
entry_of n (Active m kind name attributes ∷ list) =
    if m == n then Some (record { node = m; kind = kind; name = name; attributes = attributes }) else entry_of n list

-- an element that is made for the token of another, with a number of its own
abbrev pub remade : ℕ → Listed → Entry
remade n e = Active n e.kind e.name e.attributes

abbrev pub remade_open : ℕ → Listed → Open
remade_open n e = record { node = n; kind = e.kind; name = e.name }

abbrev pub remake : ℕ → Listed → Edit
remake n e = MakeElement n Html e.name e.attributes

unfoldable pub replaced : ℕ → Entry → List Entry → List Entry
replaced n new [] = []
replaced n new (entry ∷ list) = if is_entry_of n entry then new ∷ list else entry ∷ replaced n new list

-- "If last node is furthest block, then move the bookmark to be immediately after the new node"
abbrev pub bookmark_after : (block : ℕ) → ℕ → Inner → Option ℕ
bookmark_after block n inner = if inner.last == block then Some n else inner.bookmark

-- "Create an element for the token for which the element node was created", which takes its place in the list and on the stack; last node is
-- put into it
abbrev pub with_clone : (block : ℕ) → Listed → List Entry → Inner → Inner
with_clone block e list inner = record {
  next = suc inner.next;
  edits = Put (LastChild inner.next) inner.last ∷ Remove inner.last ∷ Pop e.node ∷ remake inner.next e ∷ inner.edits;
  formatting = replaced e.node (remade inner.next e) list;
  last = inner.next;
  bookmark = bookmark_after block inner.next inner;
  clones = inner.clones ++ remade_open inner.next e ∷ [];
}

-- "If node is not in the list of active formatting elements, then remove node from the stack of open elements"
abbrev pub cloned : (block : ℕ) → ℕ → Option Listed → List Entry → Inner → Inner
cloned block n None list inner = record inner { formatting = list; edits = Pop n ∷ inner.edits }
cloned block n (Some e) list inner = with_clone block e list inner

-- with the furthest block, the inner loop's counter, and the elements from that block outwards
unfoldable pub inner_loop : (block counter : ℕ) → List Open → Inner → Inner
inner_loop block counter [] inner = inner
inner_loop block counter (e ∷ es) inner =
    let list : List Entry = list_at counter e.node inner.formatting in
    inner_loop block (suc counter) es (cloned block e.node (entry_of e.node list) list inner)

-- ---- one turn of the outer loop

-- after a node in the list, and so here before it
unfoldable pub added_after : ℕ → Entry → List Entry → List Entry
added_after n new [] = []
added_after n new (entry ∷ list) = if is_entry_of n entry then new ∷ entry ∷ list else entry ∷ added_after n new list

abbrev pub at_bookmark : Option ℕ → (formatting : ℕ) → Entry → List Entry → List Entry
at_bookmark None f new list = replaced f new list
at_bookmark (Some n) f new list = added_after n new (without_entry f list)

abbrev pub inner_start : Parser → (block : ℕ) → Inner
inner_start p block =
    record { next = p.page.next; edits = p.page.edits; formatting = p.formatting; last = block; bookmark = None; clones = [] }

-- "Insert whatever last node ended up being" in the common ancestor; the block's children go to a new element, and that into the block, in the
-- list to the bookmark, and on the stack inside the block. With what stands inside the block, and outside the formatting element.
abbrev pub adopted_after : Parser → Listed → Open → (within outer : List Open) → Inner → Parser
adopted_after p f block within outer inner = record p {
  page = record {
    next = suc inner.next;
    opened = within ++ remade_open inner.next f ∷ block ∷ (inner.clones ++ outer);
    edits = Pop f.node ∷ Put (LastChild block.node) inner.next ∷ MoveChildren block.node inner.next ∷ remake inner.next f
        ∷ Put (place_in p outer) inner.last ∷ Remove inner.last ∷ inner.edits;
  };
  formatting = at_bookmark inner.bookmark f.node (remade inner.next f) inner.formatting;
}

-- with the furthest block, by its depth
unfoldable pub adopted : Parser → Listed → ℕ → Parser
adopted p f d =
    let block : Open = nth_open d p.page.opened in
    let around : List Open = drop (d + 1) p.page.opened in
    adopted_after p f block (take d p.page.opened) (opened_outside f.node around)
    (inner_loop block.node 1 (opened_inside f.node around) (inner_start p block.node))

-- "If there is no furthest block, then pop all the nodes from the bottom of the stack of open elements, from the current node up to and
-- including formatting element, then remove formatting element from the list"
abbrev pub unformatted : Listed → Parser → Parser
unformatted f p = record (pop_until (has_number f.node) p) { formatting = without_entry f.node p.formatting }

abbrev pub adopted_by : (Parser → Parser) → Listed → Option ℕ → Parser → Parser
adopted_by again f None p = unformatted f p
adopted_by again f (Some d) p = again (adopted p f d)

-- by the formatting element: there is none; it is not open; it is not in scope; it is
abbrev pub turn : (Parser → Parser) → List ℕ → Option Listed → Parser → Parser
turn again name None p = any_other_end_tag name p
turn again name (Some f) p =
    if not (has_open (has_number f.node) p.page.opened)
    then record (mistaken FormattingNotOpen p) { formatting = without_entry f.node p.formatting }
    else if not (in_scope (has_number f.node) p) then mistaken FormattingNotInScope p
    else adopted_by again f (furthest_block (opened_inside f.node p.page.opened)) (expects_current (has_number f.node) p)

-- the outer loop, at most so many turns
unfoldable pub outer_loop : ℕ → List ℕ → Parser → Parser
outer_loop zero name p = p
outer_loop (suc turns) name p = turn (λ later. outer_loop turns name later) name (last_named name p.formatting) p

-- "If the current node is an HTML element whose tag name is subject, and the current node is not in the list of active formatting elements"
abbrev pub is_unlisted : List ℕ → List Entry → Open → Bool
is_unlisted name list e = has_name name e && not (has_entry e.node list)

abbrev pub adoption_agency : List ℕ → Parser → Parser
adoption_agency name p = if current_passes (is_unlisted name p.formatting) p.page.opened then pop p else outer_loop 8 name p
