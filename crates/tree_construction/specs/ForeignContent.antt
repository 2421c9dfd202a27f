-- "The rules for parsing tokens in foreign content".
use Rattle.std.specs.Prelude.{ℕ, Bool, true, false, not, List, [], ◌∷◌, ◌||◌, Option, Some, None, codes, map, if◌then◌else◌}
use Rattle.std.specs.Str.{bytes_eq}
use Rattle.std.specs.Char.{to_ascii_lowercase}
use Rattle.tree_construction.specs.declared.kinds.Kind.{Kind}
use Rattle.tree_construction.specs.declared.kinds.Kind.TheVariants.{Font, LineBreak, Paragraph, Script, MathTextPoint}
use Rattle.tree_construction.specs.declared.kinds.Namespace.{Namespace}
use Rattle.tree_construction.specs.Names.{breaks_out, is_html, is_html_point, is_math_text_point, is_svg_script, kind_of, namespace_of}
use Rattle.tree_construction.specs.Tokens.{StartTagOf, Token, has_attribute, is_null, is_space}
use Rattle.tree_construction.specs.Tokens.Token.{Doctype, StartTag, EndTag, Comment, Character, EndOfFile}
use Rattle.tree_construction.specs.Page.{Open, has_number}
use Rattle.tree_construction.specs.Parser.{Parser, Request, acknowledges, adjusted_kind, asked, insert_character, insert_comment, insert_text, is_current, not_frameset_ok, pop, pop_until, pop_while, unexpected}
use Rattle.tree_construction.specs.Parser.Request.{Run}
use Rattle.tree_construction.specs.BeforeBody.{current_number}
use Rattle.tree_construction.specs.InBody.{insert_foreign, popped_if_closed}

-- "Process the token according to the rules given in the section corresponding to the current insertion mode in HTML content"
abbrev pub InHtml : Type 0
InHtml = Token → Parser → Parser

-- ---- characters

-- U+FFFD REPLACEMENT CHARACTER, in UTF-8
abbrev pub replacement : List ℕ
replacement = 239 ∷ 191 ∷ 189 ∷ []

abbrev pub foreign_character : ℕ → Parser → Parser
foreign_character c p =
    if is_null c then insert_text replacement (unexpected p)
    else if is_space c then insert_character c p
    else not_frameset_ok (insert_character c p)

-- ---- tags that break out

-- "While the current node is not a MathML text integration point, an HTML integration point, or an element in the HTML namespace, pop"
abbrev pub stays_foreign : Open → Bool
stays_foreign e = not (is_math_text_point e.kind || is_html_point e.kind || is_html e.kind)

abbrev pub broken_out : InHtml → Token → Parser → Parser
broken_out in_html token p = in_html token (pop_while stays_foreign (unexpected p))

-- "A start tag whose tag name is font, if the token has any attributes named color, face, or size"
abbrev pub is_html_font : StartTagOf → Bool
is_html_font tag =
    has_attribute (codes "color") tag.attributes || has_attribute (codes "face") tag.attributes || has_attribute (codes "size") tag.attributes

abbrev pub is_breakout : Kind → StartTagOf → Bool
is_breakout Font tag = is_html_font tag
is_breakout kind tag = breaks_out kind

-- ---- other start tags

-- a script of SVG was closed: it is run
abbrev pub run_script : Parser → Parser
run_script p = asked (Run (current_number p.page.opened)) (pop p)

abbrev pub closed_at_once : Bool → Parser → Parser
closed_at_once false p = p
closed_at_once true p = if is_current is_svg_script p then run_script (acknowledges p) else popped_if_closed true p

abbrev pub foreign_start : StartTagOf → Parser → Parser
foreign_start tag p =
    closed_at_once tag.self_closing (insert_foreign (namespace_of (adjusted_kind p.options.context p.page.opened)) tag p)

-- ---- end tags

abbrev pub has_lower_case : List ℕ → Open → Bool
has_lower_case name e = bytes_eq (map to_ascii_lowercase e.name) name

-- the loop from the current node outwards: the first element alone is open (the fragment case); the node has the name; the next one is an HTML
-- element
unfoldable pub foreign_end : InHtml → List ℕ → List Open → Parser → Parser
foreign_end in_html name [] p = p
foreign_end in_html name (e ∷ []) p = p
foreign_end in_html name (e ∷ outer ∷ es) p =
    if has_lower_case name e then pop_until (has_number e.node) p
    else if is_html outer.kind then in_html (EndTag name) p
    else foreign_end in_html name (outer ∷ es) p

-- "If node's tag name, converted to ASCII lowercase, is not the same as the tag name of the token, then this is a parse error"
abbrev pub expects_name : List ℕ → List Open → Parser → Parser
expects_name name [] p = p
expects_name name (e ∷ es) p = if has_lower_case name e then p else unexpected p

abbrev pub any_other_foreign_end : InHtml → List ℕ → Parser → Parser
any_other_foreign_end in_html name p = foreign_end in_html name p.page.opened (expects_name name p.page.opened p)

abbrev pub foreign_end_by_kind : InHtml → Kind → List ℕ → Parser → Parser
foreign_end_by_kind in_html LineBreak name p = broken_out in_html (EndTag name) p
foreign_end_by_kind in_html Paragraph name p = broken_out in_html (EndTag name) p
foreign_end_by_kind in_html Script name p = if is_current is_svg_script p then run_script p else any_other_foreign_end in_html name p
foreign_end_by_kind in_html other name p = any_other_foreign_end in_html name p

abbrev pub in_foreign_content : InHtml → Token → Parser → Parser
in_foreign_content in_html (Character c) p = foreign_character c p
in_foreign_content in_html (Comment text) p = insert_comment text p
in_foreign_content in_html (Doctype doctype) p = unexpected p
in_foreign_content in_html (StartTag tag) p =
    if is_breakout (kind_of tag.name) tag then broken_out in_html (StartTag tag) p else foreign_start tag p
in_foreign_content in_html (EndTag name) p = foreign_end_by_kind in_html (kind_of name) name p
in_foreign_content in_html EndOfFile p = p
