-- "The rules for parsing tokens in HTML content", "in body".
use Rattle.std.specs.Prelude.{ℕ, Bool, true, false, not, List, [], ◌∷◌, ◌&&◌, ◌||◌, Option, Some, None, codes, if◌then◌else◌}
use Rattle.html5ever_interface.specs.declared.states.RawKind.TheVariants.{Rcdata, Rawtext}
use Rattle.markup5ever.specs.Names.{AttributeOf}
use Rattle.tree_construction.specs.declared.kinds.Kind.{Kind}
use Rattle.tree_construction.specs.declared.kinds.Kind.TheVariants.{HtmlRoot, Head, Body, Title, Base, Link, Meta, Style, Script, Noscript, Noframes, Template, Frameset, Frame, Paragraph, Address, Division, BreakoutBlock, Block, Dialog, Fieldset, ListBlock, ListItem, Description, Heading, Preformatted, Form, Button, Anchor, NoBreak, Font, Formatting, RubyBase, RubyContainer, RubyText, Applet, Object, Table, Caption, ColumnGroup, Column, TableBody, TableRow, Cell, Void, LineBreak, Embed, Image, MisnamedImage, Input, Parameter, Rule, Textarea, Xmp, Iframe, Noembed, Plaintext, Select, SelectOption, OptionGroup, MathRoot, SvgRoot}
use Rattle.tree_construction.specs.declared.kinds.Namespace.{Namespace}
use Rattle.tree_construction.specs.declared.kinds.Namespace.TheVariants.{MathMl, Svg}
use Rattle.tree_construction.specs.declared.modes.Mode.{Mode}
use Rattle.tree_construction.specs.declared.modes.Mode.TheVariants.{AfterBody, InFrameset, InTable, Text as TextMode}
use Rattle.tree_construction.specs.declared.modes.QuirksMode.{QuirksMode}
use Rattle.tree_construction.specs.declared.modes.QuirksMode.TheVariants.{Quirks}
use Rattle.tree_construction.specs.declared.mistakes.Mistake.TheVariants.{UnclosedElements, UnclosedAtEnd}
use Rattle.tree_construction.specs.Adjusting.{adjusted_tag_name}
use Rattle.tree_construction.specs.Names.{ends_item_search, ends_list_scope, is_body, is_button, is_description, is_form, is_heading, is_implied, is_list_item, is_no_break, is_option_group, is_paragraph, is_ruby, is_ruby_container, is_select, is_select_option, is_template, kind_in_namespace, kind_of, matches, may_stay_open}
use Rattle.tree_construction.specs.Tokens.{StartTagOf, Token, bare_tag, is_null, is_space, value_of}
use Rattle.tree_construction.specs.Tokens.Token.{Doctype, StartTag, EndTag, Comment, Character, EndOfFile}
use Rattle.tree_construction.specs.Page.{Edit, Open, Page, edited, first_open, has_in_scope, has_kind, has_name, has_number, has_open, popped_to_first, removed_from_stack, second_body}
use Rattle.tree_construction.specs.Page.Edit.{AddAttributes, Remove}
use Rattle.tree_construction.specs.Parser.{Again, Context, Parser, Request, acknowledges, asked, ended, ended_without_implied, expects_current, has_template, implied_ended, implied_ended_but, in_button_scope, in_mode, in_scope, insert, insert_character, insert_comment, insert_void, inserted, insert_with_text, inserted_at, is_current, mistaken, not_frameset_ok, on_page, paragraph_closed, place_of, pop, pop_until, reads_text, stop_parsing, unexpected, without_paragraph}
use Rattle.tree_construction.specs.Parser.Request.{ReadPlain}
use Rattle.tree_construction.specs.Formatting.{cleared_to_marker, insert_formatting, last_named, Listed, reconstructed, with_marker, without_entry}
use Rattle.tree_construction.specs.Adoption.{adoption_agency, any_other_end_tag}
use Rattle.tree_construction.specs.BeforeBody.{end_template, start_html, start_in_head, template_closed}

-- ---- characters

abbrev pub character_in_body : ℕ → Parser → Parser
character_in_body c p =
    if is_null c then unexpected p
    else if is_space c then insert_character c (reconstructed p)
    else not_frameset_ok (insert_character c (reconstructed p))

-- ---- `html`, `body`, `frameset`, and the end

abbrev pub added_to_body : Option ℕ → StartTagOf → Page → Page
added_to_body None tag page = page
added_to_body (Some n) tag page = edited (AddAttributes n tag.attributes) page

abbrev pub add_to_body : StartTagOf → Parser → Parser
add_to_body tag p = on_page (λ page. added_to_body (second_body page.opened) tag page) p

abbrev pub is_there : Option ℕ → Bool
is_there None = false
is_there (Some n) = true

abbrev pub has_body : Parser → Bool
has_body p = is_there (second_body p.page.opened)

abbrev pub start_body : StartTagOf → Parser → Parser
start_body tag p =
    if has_body p && not (has_template p) then add_to_body tag (not_frameset_ok (unexpected p)) else unexpected p

-- "Remove the second element on the stack of open elements from its parent node", "pop all the nodes from the bottom of the stack, from the
-- current node up to, but not including, the root html element"
abbrev pub removed_body : Option ℕ → Page → Page
removed_body None page = page
removed_body (Some n) page = edited (Remove n) page

abbrev pub without_body : Parser → Parser
without_body p = on_page (λ page. popped_to_first (removed_body (second_body page.opened) page)) p

abbrev pub start_frameset : StartTagOf → Parser → Parser
start_frameset tag p =
    if has_body p && p.frameset_ok then in_mode InFrameset (insert tag (without_body (unexpected p))) else unexpected p

-- "If there is a node in the stack of open elements that is not" one of these, "then this is a parse error"
abbrev pub expects_closed : Parser → Parser
expects_closed p = if has_open (λ e. not (may_stay_open e.kind)) p.page.opened then mistaken UnclosedElements p else p

-- "The in template insertion mode", an end-of-file token
abbrev pub end_of_file_in_template : Again → Parser → Parser
end_of_file_in_template again p =
    if has_template p then again (template_closed (mistaken UnclosedAtEnd p)) EndOfFile else stop_parsing p

abbrev pub end_of_file_by : Again → List Mode → Parser → Parser
end_of_file_by again [] p = stop_parsing (expects_closed p)
end_of_file_by again (mode ∷ modes) p = end_of_file_in_template again p

abbrev pub end_of_file_in_body : Again → Parser → Parser
end_of_file_in_body again p = end_of_file_by again p.template_modes p

-- the end tags `body` and `html`
abbrev pub end_body : (Parser → Parser) → Parser → Parser
end_body after p = if in_scope (has_kind is_body) p then after (in_mode AfterBody (expects_closed p)) else unexpected p

-- ---- blocks, headings, items

abbrev pub start_block : StartTagOf → Parser → Parser
start_block tag p = insert tag (without_paragraph p)

-- "If the current node is an HTML element whose tag name is one of h1, .., then this is a parse error; pop the current node"
abbrev pub without_heading : Parser → Parser
without_heading p = if is_current is_heading p then pop (unexpected p) else p

abbrev pub start_preformatted : StartTagOf → Parser → Parser
start_preformatted tag p = record (start_block tag p) { ignores_newline = true; frameset_ok = false }

-- the loop of the start tags `li`, `dd` and `dt`: the innermost such element, if no other special one is met before it
unfoldable pub item_met : (Open → Bool) → List Open → Option (List ℕ)
item_met test [] = None
item_met test (e ∷ es) = if test e then Some e.name else if ends_item_search e.kind then None else item_met test es

abbrev pub without_item_of : Option (List ℕ) → Parser → Parser
without_item_of None p = p
without_item_of (Some name) p = ended_without_implied (has_name name) p

abbrev pub start_item : (Open → Bool) → StartTagOf → Parser → Parser
start_item test tag p =
    let noted : Parser = not_frameset_ok p in insert tag (without_paragraph (without_item_of (item_met test noted.page.opened) noted))

abbrev pub start_plaintext : StartTagOf → Parser → Parser
start_plaintext tag p = asked ReadPlain (start_block tag p)

-- "If the stack of open elements does not have such an element in scope, then this is a parse error; ignore the token. Otherwise, generate
-- implied end tags, .. pop elements from the stack of open elements until such an element has been popped"
abbrev pub end_block : (Open → Bool) → Parser → Parser
end_block test p = if in_scope test p then ended test p else unexpected p

-- `li`: in list item scope
abbrev pub end_list_item : Parser → Parser
end_list_item p =
    if has_in_scope ends_list_scope (has_kind is_list_item) p.page.opened then ended_without_implied (has_kind is_list_item) p else unexpected p

abbrev pub end_description : List ℕ → Parser → Parser
end_description name p = if in_scope (has_name name) p then ended_without_implied (has_name name) p else unexpected p

-- any of `h1` to `h6` ends any
abbrev pub end_heading : List ℕ → Parser → Parser
end_heading name p =
    if in_scope (has_kind is_heading) p
    then pop_until (has_kind is_heading) (expects_current (has_name name) (implied_ended p))
    else unexpected p

-- `p`: without one in button scope an empty one is inserted
abbrev pub end_paragraph : Parser → Parser
end_paragraph p =
    paragraph_closed (if in_button_scope (has_kind is_paragraph) p then p else insert (bare_tag (codes "p")) (unexpected p))

-- ---- forms, buttons

-- "set the form element pointer to point to the element created"
abbrev pub insert_form : StartTagOf → Parser → Parser
insert_form tag p =
    let ready : Parser = without_paragraph p in record (inserted Form (codes "form") tag.attributes ready) { form = Some ready.page.next }

abbrev pub start_form_outside : Option ℕ → StartTagOf → Parser → Parser
start_form_outside None tag p = insert_form tag p
start_form_outside (Some n) tag p = unexpected p

abbrev pub start_form : StartTagOf → Parser → Parser
start_form tag p = if has_template p then start_block tag p else start_form_outside p.form tag p

-- outside of templates the pointer is null from then on, and the form leaves the stack, if it is in scope
abbrev pub end_form_of : Option ℕ → Parser → Parser
end_form_of None p = unexpected p
end_form_of (Some n) p =
    let without : Parser = record p { form = None } in
    if in_scope (has_number n) p
    then on_page (removed_from_stack n) (expects_current (has_number n) (implied_ended without))
    else unexpected without

abbrev pub end_form : Parser → Parser
end_form p = if has_template p then end_block (has_kind is_form) p else end_form_of p.form p

abbrev pub start_button : StartTagOf → Parser → Parser
start_button tag p =
    let ready : Parser = if in_scope (has_kind is_button) p then pop_until (has_kind is_button) (implied_ended (unexpected p)) else p in
    not_frameset_ok (insert tag (reconstructed ready))

-- ---- formatting elements

-- "`b`, `big`, `code`, .."
abbrev pub start_formatting : StartTagOf → Parser → Parser
start_formatting tag p = insert_formatting Formatting tag (reconstructed p)

abbrev pub start_font : StartTagOf → Parser → Parser
start_font tag p = insert_formatting Font tag (reconstructed p)

-- `a`: the adoption agency for the one that the list has after the last marker, which then leaves the list and the stack
abbrev pub removed_if_open : ℕ → Parser → Parser
removed_if_open n p = if has_open (has_number n) p.page.opened then on_page (removed_from_stack n) p else p

abbrev pub without_anchor : List ℕ → Option Listed → Parser → Parser
without_anchor name None p = p
without_anchor name (Some e) p =
    let later : Parser = adoption_agency name (unexpected p) in
    removed_if_open e.node (record later { formatting = without_entry e.node later.formatting })

abbrev pub start_anchor : StartTagOf → Parser → Parser
start_anchor tag p = insert_formatting Anchor tag (reconstructed (without_anchor tag.name (last_named tag.name p.formatting) p))

-- `nobr`: where one is in scope. The algorithm may find none after the last marker; then this is like an end tag.
abbrev pub without_no_break : List ℕ → Parser → Parser
without_no_break name p = if in_scope (has_kind is_no_break) p then reconstructed (adoption_agency name (unexpected p)) else p

abbrev pub start_no_break : StartTagOf → Parser → Parser
start_no_break tag p = insert_formatting NoBreak tag (without_no_break tag.name (reconstructed p))

-- ---- `applet`, `marquee`, `object`

abbrev pub start_marked : StartTagOf → Parser → Parser
start_marked tag p = not_frameset_ok (with_marker (insert tag (reconstructed p)))

abbrev pub end_marked : List ℕ → Parser → Parser
end_marked name p = if in_scope (has_name name) p then cleared_to_marker (ended (has_name name) p) else unexpected p

-- ---- tables and void elements

abbrev pub is_quirks : QuirksMode → Bool
is_quirks Quirks = true
is_quirks other = false

-- "If the Document is not set to quirks mode, and the stack of open elements has a p element in button scope, then close a p element"
abbrev pub start_table : StartTagOf → Parser → Parser
start_table tag p =
    in_mode InTable (not_frameset_ok (insert tag (if is_quirks p.quirks_mode then p else without_paragraph p)))

abbrev pub start_void : StartTagOf → Parser → Parser
start_void tag p = not_frameset_ok (insert_void tag (reconstructed p))

-- "a type attribute whose value is an ASCII case-insensitive match for the string hidden"
abbrev pub is_hidden_type : Option (List ℕ) → Bool
is_hidden_type None = false
is_hidden_type (Some value) = matches (codes "hidden") value

abbrev pub is_hidden : StartTagOf → Bool
is_hidden tag = is_hidden_type (value_of (codes "type") tag.attributes)

abbrev pub is_in_select : Option Context → Bool
is_in_select None = false
is_in_select (Some context) = is_select context.kind

abbrev pub without_select : Parser → Parser
without_select p = if in_scope (has_kind is_select) p then pop_until (has_kind is_select) (unexpected p) else p

abbrev pub insert_input : StartTagOf → Parser → Parser
insert_input tag p = let later : Parser = insert_void tag (reconstructed p) in if is_hidden tag then later else not_frameset_ok later

abbrev pub start_input : StartTagOf → Parser → Parser
start_input tag p = if is_in_select p.options.context then unexpected p else insert_input tag (without_select p)

-- "If the stack of open elements has an option element in scope or has an optgroup element in scope, then this is a parse error"
abbrev pub expects_no_option : (Open → Bool) → Parser → Parser
expects_no_option test p = if in_scope test p then unexpected p else p

abbrev pub is_option_or_group : Open → Bool
is_option_or_group e = is_select_option e.kind || is_option_group e.kind

abbrev pub start_rule : StartTagOf → Parser → Parser
start_rule tag p =
    let ready : Parser = without_paragraph p in
    not_frameset_ok (insert_void tag
    (if in_scope (has_kind is_select) ready then expects_no_option is_option_or_group (implied_ended ready) else ready))

-- ---- elements that contain only text

abbrev pub start_textarea : StartTagOf → Parser → Parser
start_textarea tag p = record (insert_with_text Rcdata tag p) { ignores_newline = true; frameset_ok = false }

abbrev pub start_xmp : StartTagOf → Parser → Parser
start_xmp tag p = insert_with_text Rawtext tag (not_frameset_ok (reconstructed (without_paragraph p)))

-- ---- `select`, as the standard has it since it may hold any content; ruby

abbrev pub start_select : StartTagOf → Parser → Parser
start_select tag p =
    if is_in_select p.options.context then unexpected p
    else if in_scope (has_kind is_select) p then pop_until (has_kind is_select) (unexpected p)
    else not_frameset_ok (insert tag (reconstructed p))

abbrev pub without_option : Parser → Parser
without_option p = if is_current is_select_option p then pop p else p

abbrev pub start_option : StartTagOf → Parser → Parser
start_option tag p =
    insert tag (reconstructed (if in_scope (has_kind is_select) p
    then expects_no_option (has_kind is_select_option) (implied_ended_but (has_kind is_option_group) p)
    else without_option p))

abbrev pub start_option_group : StartTagOf → Parser → Parser
start_option_group tag p =
    insert tag (reconstructed (if in_scope (has_kind is_select) p then expects_no_option is_option_or_group (implied_ended p) else without_option p))

abbrev pub start_ruby_base : StartTagOf → Parser → Parser
start_ruby_base tag p =
    insert tag (if in_scope (has_kind is_ruby) p then expects_current (has_kind is_ruby) (implied_ended p) else p)

abbrev pub is_ruby_or_container : Open → Bool
is_ruby_or_container e = is_ruby_container e.kind || is_ruby e.kind

abbrev pub start_ruby_text : StartTagOf → Parser → Parser
start_ruby_text tag p =
    insert tag (if in_scope (has_kind is_ruby) p
    then expects_current is_ruby_or_container (implied_ended_but (has_kind is_ruby_container) p)
    else p)

-- ---- `math` and `svg`

abbrev pub popped_if_closed : Bool → Parser → Parser
popped_if_closed true p = acknowledges (pop p)
popped_if_closed false p = p

abbrev pub depth_extra : Bool → ℕ
depth_extra true = 1
depth_extra false = 0

-- "Insert a foreign element for the token", with adjusted names
abbrev pub insert_foreign : Namespace → StartTagOf → Parser → Parser
insert_foreign namespace tag p =
    let name : List ℕ = adjusted_tag_name namespace tag.name in
    inserted_at (place_of (depth_extra tag.self_closing) p) (kind_in_namespace namespace name tag.attributes) name tag.attributes p

abbrev pub start_foreign : Namespace → StartTagOf → Parser → Parser
start_foreign namespace tag p = popped_if_closed tag.self_closing (insert_foreign namespace tag (reconstructed p))

-- ---- start tags

abbrev pub any_other_start_tag : StartTagOf → Parser → Parser
any_other_start_tag tag p = insert tag (reconstructed p)

abbrev pub start_noscript : StartTagOf → Parser → Parser
start_noscript tag p = if p.options.scripting then insert_with_text Rawtext tag p else any_other_start_tag tag p

abbrev pub start_in_body : Again → Kind → StartTagOf → Parser → Parser
start_in_body again HtmlRoot tag p = start_html tag p
-- "`base`, `basefont`, `bgsound`, `link`, `meta`, `noframes`, `script`, `style`, `template`, `title`"
start_in_body again Base tag p = start_in_head Base tag p
start_in_body again Link tag p = start_in_head Link tag p
start_in_body again Meta tag p = start_in_head Meta tag p
start_in_body again Noframes tag p = start_in_head Noframes tag p
start_in_body again Script tag p = start_in_head Script tag p
start_in_body again Style tag p = start_in_head Style tag p
start_in_body again Template tag p = start_in_head Template tag p
start_in_body again Title tag p = start_in_head Title tag p
start_in_body again Body tag p = start_body tag p
start_in_body again Frameset tag p = start_frameset tag p
-- "`address`, `article`, `aside`, .., `ul`"
start_in_body again Paragraph tag p = start_block tag p
start_in_body again Address tag p = start_block tag p
start_in_body again Division tag p = start_block tag p
start_in_body again BreakoutBlock tag p = start_block tag p
start_in_body again Block tag p = start_block tag p
start_in_body again Dialog tag p = start_block tag p
start_in_body again Fieldset tag p = start_block tag p
start_in_body again ListBlock tag p = start_block tag p
start_in_body again Heading tag p = insert tag (without_heading (without_paragraph p))
start_in_body again Preformatted tag p = start_preformatted tag p
start_in_body again Form tag p = start_form tag p
start_in_body again ListItem tag p = start_item (has_kind is_list_item) tag p
start_in_body again Description tag p = start_item (has_kind is_description) tag p
start_in_body again Plaintext tag p = start_plaintext tag p
start_in_body again Button tag p = start_button tag p
start_in_body again Anchor tag p = start_anchor tag p
-- "`b`, `big`, `code`, .."
start_in_body again Formatting tag p = start_formatting tag p
start_in_body again Font tag p = start_font tag p
start_in_body again NoBreak tag p = start_no_break tag p
start_in_body again Applet tag p = start_marked tag p
start_in_body again Object tag p = start_marked tag p
start_in_body again Table tag p = start_table tag p
-- "`area`, `br`, `embed`, `img`, `keygen`, `wbr`"
start_in_body again Void tag p = start_void tag p
start_in_body again LineBreak tag p = start_void tag p
start_in_body again Embed tag p = start_void tag p
start_in_body again Image tag p = start_void tag p
start_in_body again Input tag p = start_input tag p
-- "`param`, `source`, `track`"
start_in_body again Parameter tag p = insert_void tag p
start_in_body again Rule tag p = start_rule tag p
-- "Change the token's tag name to img and reprocess it. (Don't ask.)"
start_in_body again MisnamedImage tag p = again (unexpected p) (StartTag (record tag { name = codes "img" }))
start_in_body again Textarea tag p = start_textarea tag p
start_in_body again Xmp tag p = start_xmp tag p
start_in_body again Iframe tag p = insert_with_text Rawtext tag (not_frameset_ok p)
start_in_body again Noembed tag p = insert_with_text Rawtext tag p
start_in_body again Noscript tag p = start_noscript tag p
start_in_body again Select tag p = start_select tag p
start_in_body again SelectOption tag p = start_option tag p
start_in_body again OptionGroup tag p = start_option_group tag p
-- "`rb`, `rtc`", and "`rp`, `rt`"
start_in_body again RubyBase tag p = start_ruby_base tag p
start_in_body again RubyContainer tag p = start_ruby_base tag p
start_in_body again RubyText tag p = start_ruby_text tag p
start_in_body again MathRoot tag p = start_foreign MathMl tag p
start_in_body again SvgRoot tag p = start_foreign Svg tag p
-- "`caption`, `col`, `colgroup`, `frame`, `head`, .., `tr`": "parse error. Ignore the token."
start_in_body again Caption tag p = unexpected p
start_in_body again Column tag p = unexpected p
start_in_body again ColumnGroup tag p = unexpected p
start_in_body again Frame tag p = unexpected p
start_in_body again Head tag p = unexpected p
start_in_body again TableBody tag p = unexpected p
start_in_body again Cell tag p = unexpected p
start_in_body again TableRow tag p = unexpected p
start_in_body again other tag p = any_other_start_tag tag p

-- ---- end tags

abbrev pub end_in_body : Again → Kind → List ℕ → Parser → Parser
end_in_body again Template name p = end_template p
end_in_body again Body name p = end_body (λ later. later) p
end_in_body again HtmlRoot name p = end_body (λ later. again later (EndTag name)) p
-- "`address`, `article`, `aside`, .., `ul`"
end_in_body again Address name p = end_block (has_name name) p
end_in_body again Division name p = end_block (has_name name) p
end_in_body again BreakoutBlock name p = end_block (has_name name) p
end_in_body again Block name p = end_block (has_name name) p
end_in_body again Dialog name p = end_block (has_name name) p
end_in_body again Fieldset name p = end_block (has_name name) p
end_in_body again ListBlock name p = end_block (has_name name) p
end_in_body again Preformatted name p = end_block (has_name name) p
end_in_body again Button name p = end_block (has_name name) p
end_in_body again Select name p = end_block (has_name name) p
end_in_body again Form name p = end_form p
end_in_body again Paragraph name p = end_paragraph p
end_in_body again ListItem name p = end_list_item p
end_in_body again Description name p = end_description name p
end_in_body again Heading name p = end_heading name p
-- "`a`, `b`, `big`, .."
end_in_body again Anchor name p = adoption_agency name p
end_in_body again Formatting name p = adoption_agency name p
end_in_body again Font name p = adoption_agency name p
end_in_body again NoBreak name p = adoption_agency name p
end_in_body again Applet name p = end_marked name p
end_in_body again Object name p = end_marked name p
-- "Drop the attributes from the token, and act as described in the next entry; i.e. act as if this was a `br` start tag token"
end_in_body again LineBreak name p = start_void (bare_tag (codes "br")) (unexpected p)
end_in_body again other name p = any_other_end_tag name p

abbrev pub in_body : Again → Token → Parser → Parser
in_body again (Character c) p = character_in_body c p
in_body again (Comment text) p = insert_comment text p
in_body again (Doctype doctype) p = unexpected p
in_body again (StartTag tag) p = start_in_body again (kind_of tag.name) tag p
in_body again (EndTag name) p = end_in_body again (kind_of name) name p
in_body again EndOfFile p = end_of_file_in_body again p
