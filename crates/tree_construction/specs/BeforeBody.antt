-- "The rules for parsing tokens in HTML content", from "initial" to "after head", and "text".
use Rattle.std.specs.Prelude.{ℕ, Bool, true, false, not, List, [], ◌∷◌, ◌&&◌, Option, Some, None, codes, if◌then◌else◌}
use Rattle.html5ever_interface.specs.Token.{DoctypeOf}
use Rattle.html5ever_interface.specs.declared.states.RawKind.TheVariants.{Rcdata, Rawtext, ScriptData}
use Rattle.markup5ever.specs.Names.{AttributeOf}
use Rattle.tree_construction.specs.declared.kinds.Kind.{Kind}
use Rattle.tree_construction.specs.declared.kinds.Kind.TheVariants.{HtmlRoot, Head, Body, Title, Base, Link, Meta, Style, Script, Noscript, Noframes, Template, Frameset, LineBreak}
use Rattle.tree_construction.specs.declared.modes.Mode.{Mode}
use Rattle.tree_construction.specs.declared.modes.Mode.TheVariants.{BeforeHtml, BeforeHead, InHead, InHeadNoscript, AfterHead, InBody, InTemplate, InFrameset}
use Rattle.tree_construction.specs.declared.modes.QuirksMode.{QuirksMode}
use Rattle.tree_construction.specs.declared.modes.QuirksMode.TheVariants.{Quirks}
use Rattle.tree_construction.specs.declared.mistakes.Mistake.TheVariants.{MissingDoctype, BadDoctype, UnclosedElements, UnclosedAtEnd}
use Rattle.tree_construction.specs.Doctypes.{quirks_mode_of, is_allowed}
use Rattle.tree_construction.specs.Names.{is_script, is_svg_script, is_template, kind_of, matches}
use Rattle.tree_construction.specs.Tokens.{StartTagOf, Token, bare_tag, is_space, value_of}
use Rattle.tree_construction.specs.Tokens.Token.{Doctype, StartTag, EndTag, Comment, Character, EndOfFile}
use Rattle.tree_construction.specs.Page.{Edit, Open, Page, edited, first_open, has_kind, inside, made, pushed, removed_from_stack}
use Rattle.tree_construction.specs.Page.Place.{LastChild}
use Rattle.tree_construction.specs.Page.Edit.{AddAttributes, MarkStarted, Put, PutDoctype, SetQuirksMode}
use Rattle.tree_construction.specs.Parser.{Again, Parser, Request, all_implied_ended, asked, expects_current, has_template, in_mode, insert, insert_character, insert_comment, insert_comment_in_document, insert_void, insert_with_text, inserted, is_current, is_fragment, mistaken, not_frameset_ok, on_page, pop, pop_until, reads_text, unexpected}
use Rattle.tree_construction.specs.Parser.Request.{Run, UseCharset, UseContent}
use Rattle.tree_construction.specs.Formatting.{cleared_to_marker, with_marker}
use Rattle.tree_construction.specs.Resetting.{mode_reset}

abbrev pub or_empty : Option (List ℕ) → List ℕ
or_empty None = []
or_empty (Some text) = text

-- ---- "The initial insertion mode"

abbrev pub set_quirks_mode : QuirksMode → Parser → Parser
set_quirks_mode mode p = record (on_page (edited (SetQuirksMode mode)) p) { quirks_mode = mode }

-- "Append a DocumentType node to the Document node"
abbrev pub put_doctype : DoctypeOf → Parser → Parser
put_doctype doctype p =
    on_page (edited (PutDoctype (or_empty doctype.name) (or_empty doctype.public_id) (or_empty doctype.system_id))) p

abbrev pub initial_doctype : DoctypeOf → Parser → Parser
initial_doctype doctype p =
    let put : Parser = put_doctype doctype (if is_allowed doctype then p else mistaken BadDoctype p) in
    in_mode BeforeHtml (if p.options.iframe_srcdoc then put else set_quirks_mode (quirks_mode_of doctype) put)

-- "Anything else"
abbrev pub initial_other : Again → Token → Parser → Parser
initial_other again token p =
    again (in_mode BeforeHtml (if p.options.iframe_srcdoc then p else set_quirks_mode Quirks (mistaken MissingDoctype p))) token

abbrev pub initial : Again → Token → Parser → Parser
initial again (Character c) p = if is_space c then p else initial_other again (Character c) p
initial again (Comment text) p = insert_comment_in_document text p
initial again (Doctype doctype) p = initial_doctype doctype p
initial again token p = initial_other again token p

-- ---- "The before html insertion mode"

-- "Create an element for the token. Append it to the Document object. Put this element in the stack of open elements."
abbrev pub with_root : List AttributeOf → Parser → Parser
with_root attributes p =
    let n : ℕ = p.page.next in
    on_page (λ page. pushed HtmlRoot (codes "html") n (edited (Put (LastChild 0) n) (made HtmlRoot (codes "html") attributes page))) p

abbrev pub before_html_other : Again → Token → Parser → Parser
before_html_other again token p = again (in_mode BeforeHead (with_root [] p)) token

abbrev pub before_html_start : Again → Kind → StartTagOf → Parser → Parser
before_html_start again HtmlRoot tag p = in_mode BeforeHead (with_root tag.attributes p)
before_html_start again other tag p = before_html_other again (StartTag tag) p

-- the end tags `head`, `body`, `html` and `br` are "anything else" there, and in the next two modes
abbrev pub ends_early : Kind → Bool
ends_early Head = true
ends_early Body = true
ends_early HtmlRoot = true
ends_early LineBreak = true
ends_early other = false

abbrev pub before_html : Again → Token → Parser → Parser
before_html again (Doctype doctype) p = unexpected p
before_html again (Comment text) p = insert_comment_in_document text p
before_html again (Character c) p = if is_space c then p else before_html_other again (Character c) p
before_html again (StartTag tag) p = before_html_start again (kind_of tag.name) tag p
before_html again (EndTag name) p = if ends_early (kind_of name) then before_html_other again (EndTag name) p else unexpected p
before_html again EndOfFile p = before_html_other again EndOfFile p

-- ---- "The before head insertion mode"

-- "For each attribute on the token, check to see if the attribute is already present on the top element of the stack of open elements"
abbrev pub add_to_root : StartTagOf → Parser → Parser
add_to_root tag p = on_page (edited (AddAttributes (first_open p.page.opened) tag.attributes)) p

-- "In body", a start tag whose tag name is `html`, as many modes have it
abbrev pub start_html : StartTagOf → Parser → Parser
start_html tag p = if has_template p then unexpected p else add_to_root tag (unexpected p)

abbrev pub insert_head : StartTagOf → Parser → Parser
insert_head tag p = in_mode InHead (record (inserted Head (codes "head") tag.attributes p) { head = Some p.page.next })

abbrev pub before_head_other : Again → Token → Parser → Parser
before_head_other again token p = again (insert_head (bare_tag (codes "head")) p) token

abbrev pub before_head_start : Again → Kind → StartTagOf → Parser → Parser
before_head_start again HtmlRoot tag p = start_html tag p
before_head_start again Head tag p = insert_head tag p
before_head_start again other tag p = before_head_other again (StartTag tag) p

abbrev pub before_head : Again → Token → Parser → Parser
before_head again (Character c) p = if is_space c then p else before_head_other again (Character c) p
before_head again (Comment text) p = insert_comment text p
before_head again (Doctype doctype) p = unexpected p
before_head again (StartTag tag) p = before_head_start again (kind_of tag.name) tag p
before_head again (EndTag name) p = if ends_early (kind_of name) then before_head_other again (EndTag name) p else unexpected p
before_head again EndOfFile p = before_head_other again EndOfFile p

-- ---- "The in head insertion mode"

-- a start tag whose tag name is `meta`: what it says of the encoding
abbrev pub is_content_type : Option (List ℕ) → Bool
is_content_type None = false
is_content_type (Some value) = matches (codes "content-type") value

abbrev pub asks_content : Bool → Option (List ℕ) → Parser → Parser
asks_content true (Some content) p = asked (UseContent content) p
asks_content says content p = p

abbrev pub asks_encoding : List AttributeOf → Option (List ℕ) → Parser → Parser
asks_encoding attributes (Some charset) p = asked (UseCharset charset) p
asks_encoding attributes None p =
    asks_content (is_content_type (value_of (codes "http-equiv") attributes)) (value_of (codes "content") attributes) p

abbrev pub start_meta : StartTagOf → Parser → Parser
start_meta tag p = asks_encoding tag.attributes (value_of (codes "charset") tag.attributes) (insert_void tag p)

abbrev pub current_number : List Open → ℕ
current_number [] = 0
current_number (e ∷ es) = e.node

-- the current node is a script: "set its already started to true"
abbrev pub mark_current : Parser → Parser
mark_current p = on_page (edited (MarkStarted (current_number p.page.opened))) p

-- a start tag whose tag name is `script`: in the fragment case it is already started
abbrev pub start_script : StartTagOf → Parser → Parser
start_script tag p =
    let later : Parser = insert tag p in reads_text ScriptData (if is_fragment p then mark_current later else later)

-- a start tag whose tag name is `template`
abbrev pub start_template : StartTagOf → Parser → Parser
start_template tag p =
    insert tag (record (with_marker p) { frameset_ok = false; mode = InTemplate; template_modes = InTemplate ∷ p.template_modes })

abbrev pub without_template_mode : List Mode → List Mode
without_template_mode [] = []
without_template_mode (mode ∷ modes) = modes

-- "pop elements from the stack of open elements until a template element has been popped", "clear the list of active formatting elements up to
-- the last marker", "pop the current template insertion mode", "reset the insertion mode appropriately"
abbrev pub template_closed : Parser → Parser
template_closed p =
    let popped : Parser = cleared_to_marker (pop_until (has_kind is_template) p) in
    mode_reset (record popped { template_modes = without_template_mode popped.template_modes })

-- an end tag whose tag name is `template`
abbrev pub end_template : Parser → Parser
end_template p =
    if has_template p then template_closed (expects_current (has_kind is_template) (all_implied_ended p)) else unexpected p

-- the start tags of a head, by which other modes go, too
abbrev pub start_in_head : Kind → StartTagOf → Parser → Parser
start_in_head Meta tag p = start_meta tag p
start_in_head Title tag p = insert_with_text Rcdata tag p
start_in_head Style tag p = insert_with_text Rawtext tag p
start_in_head Noframes tag p = insert_with_text Rawtext tag p
start_in_head Script tag p = start_script tag p
start_in_head Template tag p = start_template tag p
-- "`base`, `basefont`, `bgsound`, `link`"
start_in_head other tag p = insert_void tag p

abbrev pub in_head_other : Again → Token → Parser → Parser
in_head_other again token p = again (in_mode AfterHead (pop p)) token

abbrev pub in_head_noscript_start : StartTagOf → Parser → Parser
in_head_noscript_start tag p = if p.options.scripting then insert_with_text Rawtext tag p else in_mode InHeadNoscript (insert tag p)

abbrev pub in_head_start : Again → Kind → StartTagOf → Parser → Parser
in_head_start again HtmlRoot tag p = start_html tag p
in_head_start again Head tag p = unexpected p
in_head_start again Noscript tag p = in_head_noscript_start tag p
in_head_start again Base tag p = start_in_head Base tag p
in_head_start again Link tag p = start_in_head Link tag p
in_head_start again Meta tag p = start_in_head Meta tag p
in_head_start again Title tag p = start_in_head Title tag p
in_head_start again Style tag p = start_in_head Style tag p
in_head_start again Noframes tag p = start_in_head Noframes tag p
in_head_start again Script tag p = start_in_head Script tag p
in_head_start again Template tag p = start_in_head Template tag p
in_head_start again other tag p = in_head_other again (StartTag tag) p

abbrev pub in_head_end : Again → Kind → List ℕ → Parser → Parser
in_head_end again Head name p = in_mode AfterHead (pop p)
in_head_end again Body name p = in_head_other again (EndTag name) p
in_head_end again HtmlRoot name p = in_head_other again (EndTag name) p
in_head_end again LineBreak name p = in_head_other again (EndTag name) p
in_head_end again Template name p = end_template p
in_head_end again other name p = unexpected p

abbrev pub in_head : Again → Token → Parser → Parser
in_head again (Character c) p = if is_space c then insert_character c p else in_head_other again (Character c) p
in_head again (Comment text) p = insert_comment text p
in_head again (Doctype doctype) p = unexpected p
in_head again (StartTag tag) p = in_head_start again (kind_of tag.name) tag p
in_head again (EndTag name) p = in_head_end again (kind_of name) name p
in_head again EndOfFile p = in_head_other again EndOfFile p

-- ---- "The in head noscript insertion mode"

abbrev pub noscript_other : Again → Token → Parser → Parser
noscript_other again token p = again (in_mode InHead (pop (unexpected p))) token

abbrev pub noscript_start : Again → Kind → StartTagOf → Parser → Parser
noscript_start again HtmlRoot tag p = start_html tag p
noscript_start again Link tag p = start_in_head Link tag p
noscript_start again Meta tag p = start_in_head Meta tag p
noscript_start again Noframes tag p = start_in_head Noframes tag p
noscript_start again Style tag p = start_in_head Style tag p
noscript_start again Head tag p = unexpected p
noscript_start again Noscript tag p = unexpected p
noscript_start again other tag p = noscript_other again (StartTag tag) p

abbrev pub noscript_end : Again → Kind → List ℕ → Parser → Parser
noscript_end again Noscript name p = in_mode InHead (pop p)
noscript_end again LineBreak name p = noscript_other again (EndTag name) p
noscript_end again other name p = unexpected p

abbrev pub in_head_noscript : Again → Token → Parser → Parser
in_head_noscript again (Doctype doctype) p = unexpected p
in_head_noscript again (StartTag tag) p = noscript_start again (kind_of tag.name) tag p
in_head_noscript again (EndTag name) p = noscript_end again (kind_of name) name p
in_head_noscript again (Character c) p = if is_space c then insert_character c p else noscript_other again (Character c) p
in_head_noscript again (Comment text) p = insert_comment text p
in_head_noscript again EndOfFile p = noscript_other again EndOfFile p

-- ---- "The after head insertion mode"

abbrev pub insert_body : StartTagOf → Parser → Parser
insert_body tag p = in_mode InBody (insert tag p)

abbrev pub after_head_other : Again → Token → Parser → Parser
after_head_other again token p = again (insert_body (bare_tag (codes "body")) p) token

-- "Push the node pointed to by the head element pointer onto the stack of open elements", "in head", "remove" it "from the stack"
abbrev pub within_head_of : Option ℕ → (Parser → Parser) → Parser → Parser
within_head_of None change p = change p
within_head_of (Some n) change p = on_page (removed_from_stack n) (change (on_page (pushed Head (codes "head") n) p))

abbrev pub within_head : (Parser → Parser) → Parser → Parser
within_head change p = within_head_of p.head change p

abbrev pub start_after_head : Kind → StartTagOf → Parser → Parser
start_after_head kind tag p = within_head (start_in_head kind tag) (unexpected p)

abbrev pub after_head_start : Again → Kind → StartTagOf → Parser → Parser
after_head_start again HtmlRoot tag p = start_html tag p
after_head_start again Body tag p = not_frameset_ok (insert_body tag p)
after_head_start again Frameset tag p = in_mode InFrameset (insert tag p)
after_head_start again Base tag p = start_after_head Base tag p
after_head_start again Link tag p = start_after_head Link tag p
after_head_start again Meta tag p = start_after_head Meta tag p
after_head_start again Noframes tag p = start_after_head Noframes tag p
after_head_start again Script tag p = start_after_head Script tag p
after_head_start again Style tag p = start_after_head Style tag p
after_head_start again Template tag p = start_after_head Template tag p
after_head_start again Title tag p = start_after_head Title tag p
after_head_start again Head tag p = unexpected p
after_head_start again other tag p = after_head_other again (StartTag tag) p

abbrev pub after_head_end : Again → Kind → List ℕ → Parser → Parser
after_head_end again Template name p = end_template p
after_head_end again Body name p = after_head_other again (EndTag name) p
after_head_end again HtmlRoot name p = after_head_other again (EndTag name) p
after_head_end again LineBreak name p = after_head_other again (EndTag name) p
after_head_end again other name p = unexpected p

abbrev pub after_head : Again → Token → Parser → Parser
after_head again (Character c) p = if is_space c then insert_character c p else after_head_other again (Character c) p
after_head again (Comment text) p = insert_comment text p
after_head again (Doctype doctype) p = unexpected p
after_head again (StartTag tag) p = after_head_start again (kind_of tag.name) tag p
after_head again (EndTag name) p = after_head_end again (kind_of name) name p
after_head again EndOfFile p = after_head_other again EndOfFile p

-- ---- "The text insertion mode". The tokenizer sends characters there, and then an end tag or the end.

abbrev pub back : Parser → Parser
back p = in_mode p.original_mode (pop p)

abbrev pub text_end : Kind → Parser → Parser
text_end Script p = asked (Run (current_number p.page.opened)) (back p)
text_end other p = back p

abbrev pub text_end_of_file : Again → Parser → Parser
text_end_of_file again p =
    let noted : Parser = mistaken UnclosedAtEnd p in again (back (if is_current is_script p then mark_current noted else noted)) EndOfFile

abbrev pub text_mode : Again → Token → Parser → Parser
text_mode again (Character c) p = insert_character c p
text_mode again (EndTag name) p = text_end (kind_of name) p
text_mode again EndOfFile p = text_end_of_file again p
text_mode again other p = p
