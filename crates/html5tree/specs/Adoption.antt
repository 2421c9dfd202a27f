-- "The adoption agency algorithm", and "any other end tag", as which it acts if there is no formatting element of the name.
use Rattle.std.specs.Prelude.{ℕ, suc, zero, Bool, false, not, List, [], ◌∷◌, ◌++◌, ◌&&◌, ◌==◌, Option, Some, None, nat_lt, if◌then◌else◌}
use Rattle.std.specs.Str.{bytes_eq}
use Rattle.html5tree.specs.Names.{kind_of, named, is_special}
use Rattle.html5tree.specs.Scopes.{ends_scope}
use Rattle.html5tree.specs.Page.{Element, Page, made, with_opened}
use Rattle.html5tree.specs.Page.Edit.{Make, Put, PutChildren}
use Rattle.html5tree.specs.Parser.{Parser, Entry, has_node, inside, outside, is_bounded, implied_ended, pop, is_entry_of, has_entry, without_entry, last_named, put_in}
use Rattle.html5tree.specs.Parser.Entry.{Active}

-- ---- "In body", any other end tag

-- the innermost element of the name, if no special one is met before it
unfoldable pub ended_by : List ℕ → List Element → Option ℕ
ended_by name [] = None
ended_by name (e ∷ es) = if bytes_eq e.name name then Some e.node else if is_special (kind_of e.name) then None else ended_by name es

abbrev pub ended : List ℕ → Page → Option ℕ → Page
ended name page None = page
ended name page (Some n) = with_opened page (outside n (implied_ended (named name) page.opened))

abbrev pub any_other_end_tag : Parser → List ℕ → Parser
any_other_end_tag p name = record p { page = ended name p.page (ended_by name p.page.opened) }

-- ---- "Furthest block": the special element that is outermost, of those inside the formatting element

abbrev pub further : Element → Option Element → Option Element
further e (Some block) = Some block
further e None = if is_special (kind_of e.name) then Some e else None

unfoldable pub furthest_block : List Element → Option Element
furthest_block [] = None
furthest_block (e ∷ es) = further e (furthest_block es)

-- ---- the inner loop, over the elements between the furthest block and the formatting element

pub record Inner : Type 0 where
  pub page : Page
  pub formatting : List Entry
  -- "last node"
  pub last : ℕ
  -- "bookmark": after the entry of this node, or else in the place of the formatting element
  pub bookmark : Option ℕ
  -- the elements that were made for those that are still in the list, innermost first
  pub clones : List Element

-- after the fourth an element is removed from the list
abbrev pub list_at : ℕ → Element → List Entry → List Entry
list_at count e list = if nat_lt 3 count then without_entry e.node list else list

unfoldable pub replaced : ℕ → Element → List Entry → List Entry
replaced n new [] = []
replaced n new (entry ∷ list) = if is_entry_of n entry then Active new ∷ list else entry ∷ replaced n new list

abbrev pub bookmark_after : ℕ → ℕ → Inner → Option ℕ
bookmark_after block new inner = if inner.last == block then Some new else inner.bookmark

abbrev pub with_clone : ℕ → Element → List Entry → Inner → Inner
with_clone block e list inner =
    let new : Element = made inner.page e.name e.attributes in
    record {
      page = record inner.page { next = suc new.node; edits = Put new.node inner.last ∷ Make new.node e.name e.attributes ∷ inner.page.edits };
      formatting = replaced e.node new list;
      last = new.node;
      bookmark = bookmark_after block new.node inner;
      clones = inner.clones ++ new ∷ [];
    }

-- with the furthest block, the inner loop's counter, and the elements from that block outwards. One that is not in the list leaves the
-- stack.
unfoldable pub inner_loop : ℕ → ℕ → List Element → Inner → Inner
inner_loop block count [] inner = inner
inner_loop block count (e ∷ es) inner =
    let list : List Entry = list_at count e inner.formatting in
    inner_loop block (suc count) es (if has_entry e.node list then with_clone block e list inner else record inner { formatting = list })

-- ---- one turn of the outer loop

-- after a node in the list, and so here before it
unfoldable pub added_after : ℕ → Element → List Entry → List Entry
added_after n new [] = []
added_after n new (entry ∷ list) = if is_entry_of n entry then Active new ∷ entry ∷ list else entry ∷ added_after n new list

abbrev pub at_bookmark : Option ℕ → Element → Element → List Entry → List Entry
at_bookmark None f new list = replaced f.node new list
at_bookmark (Some n) f new list = added_after n new (without_entry f.node list)

-- with a furthest block: "last node" is inserted in the common ancestor, the block's children go to a new element, and that into the block,
-- in the list to the bookmark, and on the stack inside the block
unfoldable pub adopted : Parser → Element → Element → Parser
adopted p f block =
    let opened : List Element = p.page.opened in
    let outer : List Element = outside f.node opened in
    let start : Inner = record { page = p.page; formatting = p.formatting; last = block.node; bookmark = None; clones = [] } in
    let inner : Inner = inner_loop block.node 1 (inside f.node (outside block.node opened)) start in
    let new : Element = made inner.page f.name f.attributes in
    record p {
      page = record {
        next = suc new.node;
        opened = inside block.node opened ++ new ∷ block ∷ (inner.clones ++ outer);
        edits = Put block.node new.node ∷ PutChildren block.node new.node ∷ Make new.node f.name f.attributes ∷ put_in p outer inner.last ∷ inner.page.edits;
      };
      formatting = at_bookmark inner.bookmark f new inner.formatting;
    }

-- without one: pop up to the formatting element and with it, and remove it from the list
abbrev pub unformatted : Parser → Element → Parser
unformatted p f = record p { page = with_opened p.page (outside f.node p.page.opened); formatting = without_entry f.node p.formatting }

abbrev pub adopted_by : (Parser → Parser) → Parser → Element → Option Element → Parser
adopted_by again p f None = unformatted p f
adopted_by again p f (Some block) = again (adopted p f block)

-- by the formatting element: there is none; it is not open; it is not in scope; it is
abbrev pub turn : (Parser → Parser) → Parser → List ℕ → Option Element → Parser
turn again p name None = any_other_end_tag p name
turn again p name (Some f) =
    if not (has_node f.node p.page.opened) then record p { formatting = without_entry f.node p.formatting }
    else if is_bounded ends_scope (inside f.node p.page.opened) then p
    else adopted_by again p f (furthest_block (inside f.node p.page.opened))

-- the outer loop, at most this many turns
unfoldable pub outer_loop : ℕ → Parser → List ℕ → Parser
outer_loop zero p name = p
outer_loop (suc turns) p name = turn (λ later. outer_loop turns later name) p name (last_named (named name) p.formatting)

-- the current node has the name, and is not in the list
abbrev pub is_unlisted_top : List ℕ → Parser → List Element → Bool
is_unlisted_top name p [] = false
is_unlisted_top name p (e ∷ es) = bytes_eq e.name name && not (has_entry e.node p.formatting)

abbrev pub adoption_agency : Parser → List ℕ → Parser
adoption_agency p name = if is_unlisted_top name p p.page.opened then pop p else outer_loop 8 p name
