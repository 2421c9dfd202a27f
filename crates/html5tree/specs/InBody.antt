-- "The rules for parsing tokens in HTML content", "In body", for the names of Names. The document is not in quirks mode.
use Rattle.std.specs.Prelude.{ℕ, Bool, not, List, [], ◌∷◌, ◌&&◌, Option, Some, None, codes, if◌then◌else◌}
use Rattle.std.specs.Str.{bytes_eq}
use Rattle.html5tree.specs.declared.kinds.Kind.{Kind}
use Rattle.html5tree.specs.Names.{kind_of, of_kind, named, no_kind, is_anchor, is_no_break, is_paragraph, is_list_item, is_description, is_heading, is_ruby, is_ruby_container, is_button, ends_item_search}
use Rattle.html5tree.specs.declared.kinds.Kind.TheVariants.{Ordinary, Ruby, Anchor, NoBreak, Formatting, Paragraph, Division, Search, Dialog, ListBlock, Block, ListItem, Description, Heading, Preformatted, Rule, Void, RubyBase, RubyContainer, RubyText, Button, Form, Table, Caption, ColumnGroup, Column, TableBody, TableRow, Cell, Unknown}
use Rattle.html5tree.specs.Items.{Attribute, Item}
use Rattle.html5tree.specs.Items.Item.{StartTag, EndTag, Text}
use Rattle.html5tree.specs.Scopes.{near, top_of_kind, ends_scope, ends_list_scope, ends_button_scope}
use Rattle.html5tree.specs.Page.{Element, Page, made, popped, names, with_opened}
use Rattle.html5tree.specs.Parser.{Parser, on_page, in_mode, has_node, inside, without_node, is_bounded, pop, popped_until, implied_ended, last_named, without_entry, pushed, insert, insert_text, reconstructed}
use Rattle.html5tree.specs.Parser.Mode.{InTable}
use Rattle.html5tree.specs.Adoption.{any_other_end_tag, adoption_agency}

-- ---- what start tags close before them

-- "Close a p element"
abbrev pub paragraph_closed : Page → Page
paragraph_closed page = with_opened page (popped_until (of_kind is_paragraph) (implied_ended (of_kind is_paragraph) page.opened))

-- "If the stack of open elements has a p element in button scope, then close a p element"
abbrev pub without_paragraph : Page → Page
without_paragraph page = if near (of_kind is_paragraph) ends_button_scope (names page.opened) then paragraph_closed page else page

-- a start tag whose tag name is `h1` to `h6`: "if the current node is" one of them, "pop the current node off the stack"
abbrev pub without_heading : Page → Page
without_heading page = if top_of_kind is_heading (names page.opened) then popped page else page

-- a start tag whose tag name is `li`: the loop over the stack
abbrev pub without_list_item : Page → Page
without_list_item page =
    if near (of_kind is_list_item) ends_item_search (names page.opened)
    then with_opened page (popped_until (of_kind is_list_item) (implied_ended (of_kind is_list_item) page.opened))
    else page

-- a start tag whose tag name is `dd` or `dt`: the loop finds the innermost of either
unfoldable pub innermost : (List ℕ → Bool) → List (List ℕ) → List ℕ
innermost test [] = []
innermost test (name ∷ stack) = if test name then name else innermost test stack

abbrev pub without_description : Page → Page
without_description page =
    if near (of_kind is_description) ends_item_search (names page.opened)
    then (let name : List ℕ = innermost (of_kind is_description) (names page.opened) in
    with_opened page (popped_until (named name) (implied_ended (named name) page.opened)))
    else page

-- a start tag whose tag name is `button`, where one is in scope
abbrev pub without_button : Page → Page
without_button page =
    if near (of_kind is_button) ends_scope (names page.opened)
    then with_opened page (popped_until (of_kind is_button) (implied_ended (of_kind no_kind) page.opened))
    else page

-- a start tag whose tag name is `rb`, `rtc`, `rp` or `rt`, where a `ruby` is in scope
abbrev pub without_implied : (Kind → Bool) → Page → Page
without_implied but page =
    if near (of_kind is_ruby) ends_scope (names page.opened) then with_opened page (implied_ended (of_kind but) page.opened) else page

-- a start tag whose tag name is `a`, where the list has one after the last marker: the adoption agency for it, and then it leaves the list and
-- the stack
abbrev pub without_anchor : List ℕ → Parser → Option Element → Parser
without_anchor name p None = p
without_anchor name p (Some e) =
    let later : Parser = adoption_agency p name in
    record later { page = with_opened later.page (without_node e.node later.page.opened); formatting = without_entry e.node later.formatting }

-- a start tag whose tag name is `nobr`, where one is in scope
abbrev pub without_no_break : List ℕ → Parser → Parser
without_no_break name p =
    if near (of_kind is_no_break) ends_scope (names p.page.opened) then reconstructed (adoption_agency p name) else p

-- ---- start tags

-- "Insert an HTML element for the token", "push onto the list of active formatting elements that element"
abbrev pub insert_formatting : Parser → List ℕ → List Attribute → Parser
insert_formatting p name attributes = record (insert p name attributes) { formatting = pushed (made p.page name attributes) p.formatting }

-- the form element pointer points to the next node
abbrev pub with_form : Parser → Parser
with_form p = record p { form = Some p.page.next }

abbrev pub start_form : Option ℕ → Parser → List ℕ → List Attribute → Parser
start_form (Some n) p name attributes = p
start_form None p name attributes = insert (on_page without_paragraph (with_form p)) name attributes

abbrev pub start_tag : Kind → Parser → List ℕ → List Attribute → Parser
-- a name that isn't in the table
start_tag Unknown p name attributes = p
-- "any other start tag"
start_tag Ordinary p name attributes = insert (reconstructed p) name attributes
start_tag Ruby p name attributes = insert (reconstructed p) name attributes
-- "`b`, `big`, `code`, `em`, .."
start_tag Formatting p name attributes = insert_formatting (reconstructed p) name attributes
-- "`a`"
start_tag Anchor p name attributes =
    insert_formatting (reconstructed (without_anchor name p (last_named (of_kind is_anchor) p.formatting))) name attributes
-- "`nobr`"
start_tag NoBreak p name attributes = insert_formatting (without_no_break name (reconstructed p)) name attributes
-- "`h1`, `h2`, .."
start_tag Heading p name attributes = insert (on_page without_heading (on_page without_paragraph p)) name attributes
-- "`li`"
start_tag ListItem p name attributes = insert (on_page without_paragraph (on_page without_list_item p)) name attributes
-- "`dd`, `dt`"
start_tag Description p name attributes = insert (on_page without_paragraph (on_page without_description p)) name attributes
-- "`form`"
start_tag Form p name attributes = start_form p.form p name attributes
-- "`button`"
start_tag Button p name attributes = insert (reconstructed (on_page without_button p)) name attributes
-- "`table`"
start_tag Table p name attributes = in_mode InTable (insert (on_page without_paragraph p) name attributes)
-- "`area`, `br`, `embed`, `img`, .., `wbr`", and "`input`"
start_tag Void p name attributes = pop (insert (reconstructed p) name attributes)
-- "`hr`"
start_tag Rule p name attributes = pop (insert (on_page without_paragraph p) name attributes)
-- "`rb`, `rtc`"
start_tag RubyBase p name attributes = insert (on_page (without_implied no_kind) p) name attributes
start_tag RubyContainer p name attributes = insert (on_page (without_implied no_kind) p) name attributes
-- "`rp`, `rt`"
start_tag RubyText p name attributes = insert (on_page (without_implied is_ruby_container) p) name attributes
-- "`caption`, `col`, `colgroup`, .., `tr`": "ignore the token"
start_tag Caption p name attributes = p
start_tag ColumnGroup p name attributes = p
start_tag Column p name attributes = p
start_tag TableBody p name attributes = p
start_tag TableRow p name attributes = p
start_tag Cell p name attributes = p
-- "`address`, `article`, `aside`, ..", and "`pre`, `listing`", after which a newline is ignored (Items)
start_tag other p name attributes = insert (on_page without_paragraph p) name attributes

-- ---- end tags

-- "If the stack of open elements does not have such an element in scope, ignore the token. Otherwise, generate implied end tags, .. pop
-- elements from the stack until such an element has been popped"
abbrev pub end_in : (List ℕ → Bool) → (Kind → Bool) → (List ℕ → Bool) → Parser → Parser
end_in test ends but p =
    if near test ends (names p.page.opened) then on_page (λ page. with_opened page (popped_until test (implied_ended but page.opened))) p else p

-- "`p`": without one in button scope an empty one is inserted
abbrev pub end_paragraph : Parser → List ℕ → Parser
end_paragraph p name =
    on_page paragraph_closed (if near (of_kind is_paragraph) ends_button_scope (names p.page.opened) then p else insert p name [])

-- "`form`": the pointer is null from then on, and the form leaves the stack, if it is in scope
abbrev pub end_form : Option ℕ → Parser → Parser
end_form None p = p
end_form (Some n) p =
    if has_node n p.page.opened && not (is_bounded ends_scope (inside n p.page.opened))
    then record p { form = None; page = with_opened p.page (without_node n (implied_ended (of_kind no_kind) p.page.opened)) }
    else record p { form = None }

abbrev pub end_tag : Kind → Parser → List ℕ → Parser
-- "`a`, `b`, `big`, `code`, .."
end_tag Formatting p name = adoption_agency p name
end_tag Anchor p name = adoption_agency p name
end_tag NoBreak p name = adoption_agency p name
-- "`h1`, `h2`, ..": any of them ends any
end_tag Heading p name = end_in (of_kind is_heading) ends_scope (of_kind no_kind) p
-- "`li`"
end_tag ListItem p name = end_in (of_kind is_list_item) ends_list_scope (of_kind is_list_item) p
-- "`dd`, `dt`"
end_tag Description p name = end_in (named name) ends_scope (named name) p
-- "`p`"
end_tag Paragraph p name = end_paragraph p name
-- "`form`"
end_tag Form p name = end_form p.form p
-- "`br`": as a start tag; the others are "any other end tag"
end_tag Void p name = if bytes_eq name (codes "br") then start_tag Void p name [] else any_other_end_tag p name
-- "`address`, `article`, .., `button`, .., `pre`, .."
end_tag Division p name = end_in (named name) ends_scope (of_kind no_kind) p
end_tag Search p name = end_in (named name) ends_scope (of_kind no_kind) p
end_tag Dialog p name = end_in (named name) ends_scope (of_kind no_kind) p
end_tag ListBlock p name = end_in (named name) ends_scope (of_kind no_kind) p
end_tag Block p name = end_in (named name) ends_scope (of_kind no_kind) p
end_tag Preformatted p name = end_in (named name) ends_scope (of_kind no_kind) p
end_tag Button p name = end_in (named name) ends_scope (of_kind no_kind) p
-- a name that isn't in the table
end_tag Unknown p name = p
-- "any other end tag"
end_tag other p name = any_other_end_tag p name

abbrev pub in_body : Parser → Item → Parser
in_body p (StartTag name attributes) = start_tag (kind_of name) p name attributes
in_body p (EndTag name) = end_tag (kind_of name) p name
-- "a character token": those of one text are inserted one after another, in the place of the first
in_body p (Text text) = insert_text (reconstructed p) text
