-- "The rules for parsing tokens in HTML content", in templates, framesets and after the body.
use Rattle.std.specs.Prelude.{ℕ, Bool, true, false, not, List, [], ◌∷◌, Option, Some, None, if◌then◌else◌}
use Rattle.tree_construction.specs.declared.kinds.Kind.{Kind}
use Rattle.tree_construction.specs.declared.kinds.Kind.TheVariants.{HtmlRoot, Title, Base, Link, Meta, Style, Script, Noframes, Template, Frameset, Frame, Caption, ColumnGroup, Column, TableBody, TableRow, Cell}
use Rattle.tree_construction.specs.declared.modes.Mode.{Mode}
use Rattle.tree_construction.specs.declared.modes.Mode.TheVariants.{AfterAfterBody, AfterAfterFrameset, AfterFrameset, InBody, InTable, InColumnGroup, InTableBody, InRow}
use Rattle.tree_construction.specs.declared.mistakes.Mistake.TheVariants.{UnclosedAtEnd}
use Rattle.tree_construction.specs.Names.{is_frameset, kind_of}
use Rattle.tree_construction.specs.Tokens.{StartTagOf, Token, is_space}
use Rattle.tree_construction.specs.Tokens.Token.{Doctype, StartTag, EndTag, Comment, Character, EndOfFile}
use Rattle.tree_construction.specs.Page.{Open}
use Rattle.tree_construction.specs.Parser.{Again, Parser, in_mode, insert, insert_character, insert_comment, insert_comment_in_document, insert_comment_in_root, insert_void, is_current, is_fragment, mistaken, pop, stop_parsing, unexpected}
use Rattle.tree_construction.specs.BeforeBody.{end_template, start_html, start_in_head, without_template_mode}
use Rattle.tree_construction.specs.InBody.{character_in_body, end_of_file_in_template, in_body}

-- ---- "The in template insertion mode"

-- "Pop the current template insertion mode off the stack of template insertion modes", push another, switch to it, "and reprocess the token"
abbrev pub in_template_mode : Again → Mode → StartTagOf → Parser → Parser
in_template_mode again mode tag p =
    again (record p { template_modes = mode ∷ without_template_mode p.template_modes; mode = mode }) (StartTag tag)

abbrev pub template_start : Again → Kind → StartTagOf → Parser → Parser
-- "`base`, `basefont`, `bgsound`, `link`, `meta`, .., `title`"
template_start again Base tag p = start_in_head Base tag p
template_start again Link tag p = start_in_head Link tag p
template_start again Meta tag p = start_in_head Meta tag p
template_start again Noframes tag p = start_in_head Noframes tag p
template_start again Script tag p = start_in_head Script tag p
template_start again Style tag p = start_in_head Style tag p
template_start again Template tag p = start_in_head Template tag p
template_start again Title tag p = start_in_head Title tag p
-- "`caption`, `colgroup`, `tbody`, `tfoot`, `thead`"
template_start again Caption tag p = in_template_mode again InTable tag p
template_start again ColumnGroup tag p = in_template_mode again InTable tag p
template_start again TableBody tag p = in_template_mode again InTable tag p
template_start again Column tag p = in_template_mode again InColumnGroup tag p
template_start again TableRow tag p = in_template_mode again InTableBody tag p
template_start again Cell tag p = in_template_mode again InRow tag p
template_start again other tag p = in_template_mode again InBody tag p

abbrev pub template_end : Kind → Parser → Parser
template_end Template p = end_template p
template_end other p = unexpected p

abbrev pub in_template : Again → Token → Parser → Parser
in_template again (StartTag tag) p = template_start again (kind_of tag.name) tag p
in_template again (EndTag name) p = template_end (kind_of name) p
in_template again EndOfFile p = end_of_file_in_template again p
in_template again token p = in_body again token p

-- ---- "The after body insertion mode"

abbrev pub in_body_again : Again → Token → Parser → Parser
in_body_again again token p = again (in_mode InBody (unexpected p)) token

abbrev pub after_body_start : Again → Kind → StartTagOf → Parser → Parser
after_body_start again HtmlRoot tag p = start_html tag p
after_body_start again other tag p = in_body_again again (StartTag tag) p

abbrev pub after_body_end : Again → Kind → List ℕ → Parser → Parser
after_body_end again HtmlRoot name p = if is_fragment p then unexpected p else in_mode AfterAfterBody p
after_body_end again other name p = in_body_again again (EndTag name) p

abbrev pub after_body : Again → Token → Parser → Parser
after_body again (Character c) p = if is_space c then character_in_body c p else in_body_again again (Character c) p
after_body again (Comment text) p = insert_comment_in_root text p
after_body again (Doctype doctype) p = unexpected p
after_body again (StartTag tag) p = after_body_start again (kind_of tag.name) tag p
after_body again (EndTag name) p = after_body_end again (kind_of name) name p
after_body again EndOfFile p = stop_parsing p

-- ---- "The in frameset insertion mode"

abbrev pub frameset_start : Kind → StartTagOf → Parser → Parser
frameset_start HtmlRoot tag p = start_html tag p
frameset_start Frameset tag p = insert tag p
frameset_start Frame tag p = insert_void tag p
frameset_start Noframes tag p = start_in_head Noframes tag p
frameset_start other tag p = unexpected p

-- "If the current node is the root html element, then this is a parse error; ignore the token (fragment case)"
abbrev pub has_only_root : List Open → Bool
has_only_root [] = true
has_only_root (e ∷ []) = true
has_only_root (e ∷ es) = false

abbrev pub frameset_closed : Parser → Parser
frameset_closed p =
    let later : Parser = pop p in
    if is_fragment p then later else if is_current is_frameset later then later else in_mode AfterFrameset later

abbrev pub frameset_end : Kind → Parser → Parser
frameset_end Frameset p = if has_only_root p.page.opened then unexpected p else frameset_closed p
frameset_end other p = unexpected p

abbrev pub in_frameset : Token → Parser → Parser
in_frameset (Character c) p = if is_space c then insert_character c p else unexpected p
in_frameset (Comment text) p = insert_comment text p
in_frameset (Doctype doctype) p = unexpected p
in_frameset (StartTag tag) p = frameset_start (kind_of tag.name) tag p
in_frameset (EndTag name) p = frameset_end (kind_of name) p
in_frameset EndOfFile p = stop_parsing (if has_only_root p.page.opened then p else mistaken UnclosedAtEnd p)

-- ---- "The after frameset insertion mode"

abbrev pub after_frameset_start : Kind → StartTagOf → Parser → Parser
after_frameset_start HtmlRoot tag p = start_html tag p
after_frameset_start Noframes tag p = start_in_head Noframes tag p
after_frameset_start other tag p = unexpected p

abbrev pub after_frameset_end : Kind → Parser → Parser
after_frameset_end HtmlRoot p = in_mode AfterAfterFrameset p
after_frameset_end other p = unexpected p

abbrev pub after_frameset : Token → Parser → Parser
after_frameset (Character c) p = if is_space c then insert_character c p else unexpected p
after_frameset (Comment text) p = insert_comment text p
after_frameset (Doctype doctype) p = unexpected p
after_frameset (StartTag tag) p = after_frameset_start (kind_of tag.name) tag p
after_frameset (EndTag name) p = after_frameset_end (kind_of name) p
after_frameset EndOfFile p = stop_parsing p

-- ---- "The after after body insertion mode"

abbrev pub after_after_body : Again → Token → Parser → Parser
after_after_body again (Comment text) p = insert_comment_in_document text p
after_after_body again (Doctype doctype) p = unexpected p
after_after_body again (Character c) p = if is_space c then character_in_body c p else in_body_again again (Character c) p
after_after_body again (StartTag tag) p = after_body_start again (kind_of tag.name) tag p
after_after_body again (EndTag name) p = in_body_again again (EndTag name) p
after_after_body again EndOfFile p = stop_parsing p

-- ---- "The after after frameset insertion mode"

abbrev pub after_after_frameset : Token → Parser → Parser
after_after_frameset (Comment text) p = insert_comment_in_document text p
after_after_frameset (Doctype doctype) p = unexpected p
after_after_frameset (Character c) p = if is_space c then character_in_body c p else unexpected p
after_after_frameset (StartTag tag) p = after_frameset_start (kind_of tag.name) tag p
after_after_frameset (EndTag name) p = unexpected p
after_after_frameset EndOfFile p = stop_parsing p
