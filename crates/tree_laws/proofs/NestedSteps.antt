-- Each step of tree construction keeps a tree, and no open element in one that is further in. By `python3 tools/gen/parser_laws.py`, and not by hand; the steps that it rests on are in Nested.
use Rattle.std.proofs.Common.{ℕ, Bool, true, false, List, [], ◌∷◌, ◌++◌}
use Rattle.std.specs.Prelude.{suc, zero, ◌&&◌, not, Option, Some, None, codes, if◌then◌else◌}
use Rattle.html5ever_interface.specs.Token.{DoctypeOf, Told}
use Rattle.html5ever_interface.specs.declared.states.RawKind.{RawKind}
use Rattle.html5ever_interface.specs.declared.states.RawKind.TheVariants.{Rawtext, Rcdata, ScriptData}
use Rattle.markup5ever.specs.Names.{AttributeOf}
use Rattle.tree_construction.specs.Adoption.{adoption_agency, any_other_end_tag, end_of, ended_by, is_unlisted, outer_loop}
use Rattle.tree_construction.specs.AfterBody.{after_after_body, after_after_frameset, after_body, after_body_end, after_body_start, after_frameset, after_frameset_end, after_frameset_start, frameset_closed, frameset_end, frameset_start, has_only_root, in_body_again, in_frameset, in_template, in_template_mode, template_end, template_start}
use Rattle.tree_construction.specs.BeforeBody.{add_to_root, after_head, after_head_end, after_head_other, after_head_start, asks_content, asks_encoding, back, before_head, before_head_other, before_head_start, before_html, before_html_other, before_html_start, current_number, end_template, ends_early, in_head, in_head_end, in_head_noscript, in_head_noscript_start, in_head_other, in_head_start, initial, initial_doctype, initial_other, insert_body, insert_head, is_content_type, mark_current, noscript_end, noscript_other, noscript_start, put_doctype, set_quirks_mode, start_html, start_meta, start_script, start_template, template_closed, text_end, text_end_of_file, text_mode, with_root, without_template_mode}
use Rattle.tree_construction.specs.Construction.{dispatched, enough, expects_acknowledged, in_current_mode, in_html_content, is_ignored_newline, is_self_closing, process, run, step, taken, takes_as_html, told, told_all}
use Rattle.tree_construction.specs.Doctypes.{is_allowed, quirks_mode_of}
use Rattle.tree_construction.specs.ForeignContent.{InHtml, any_other_foreign_end, broken_out, closed_at_once, expects_name, foreign_character, foreign_end, foreign_end_by_kind, foreign_start, has_lower_case, in_foreign_content, is_breakout, replacement, run_script, stays_foreign}
use Rattle.tree_construction.specs.Formatting.{cleared_to_marker, reconstructed, with_marker}
use Rattle.tree_construction.specs.InBody.{add_to_body, any_other_start_tag, character_in_body, end_body, end_description, end_heading, end_in_body, end_list_item, end_marked, end_of_file_by, end_of_file_in_body, end_of_file_in_template, end_paragraph, expects_closed, expects_no_option, has_body, in_body, insert_foreign, insert_input, is_hidden, is_in_select, is_option_or_group, is_quirks, is_ruby_or_container, item_met, popped_if_closed, start_block, start_body, start_button, start_foreign, start_form, start_form_outside, start_frameset, start_in_body, start_input, start_item, start_marked, start_noscript, start_option, start_option_group, start_plaintext, start_preformatted, start_ruby_base, start_ruby_text, start_rule, start_select, start_table, start_textarea, start_void, start_xmp, without_body, without_heading, without_item_of, without_option, without_select}
use Rattle.tree_construction.specs.Names.{ends_list_scope, ends_table_scope, is_body, is_body_context, is_button, is_caption, is_cell, is_column_group, is_description, is_frameset, is_heading, is_html, is_implied, is_implied_thoroughly, is_list_item, is_option_group, is_paragraph, is_row_context, is_ruby, is_ruby_container, is_script, is_select, is_select_option, is_svg_script, is_table, is_table_body, is_table_row, is_template, kind_of, may_stay_open, namespace_of, takes_table_text}
use Rattle.tree_construction.specs.Page.{Open, current_passes, has_in_scope, has_kind, has_name, has_number, has_open, popped, popped_until, popped_while}
use Rattle.tree_construction.specs.Parser.{Again, Parser, Request, acknowledges, adjusted_kind, all_implied_ended, asked, cleared_back_to, ended, ended_without_implied, expects_current, has_template, implied_ended, implied_ended_but, in_button_scope, in_mode, in_scope, in_table_scope, insert, insert_character, insert_text, insert_void, insert_with_text, is_current, is_fragment, mistaken, not_frameset_ok, opened, paragraph_closed, pop, pop_until, pop_while, reads_text, stop_parsing, unexpected, without_paragraph}
use Rattle.tree_construction.specs.Parser.Request.{GoOn, ReadPlain, ReadRaw, Run, UseCharset, UseContent}
use Rattle.tree_construction.specs.Resetting.{mode_of, mode_reset}
use Rattle.tree_construction.specs.Tables.{caption_end, cell_closed, cell_end, collects_text, column_group_end, column_group_other, column_group_start, end_around_cell, end_cell, flushed, flushed_as_space, flushed_fostered, form_in_table, fostered, in_caption, in_cell, in_column_group, in_row, in_table, in_table_body, in_table_text, is_all_space, is_ignored_in_table, is_part, row_end, row_end_of_body, row_start, start_form_in_table, table_body_end, table_body_start, table_character, table_end, table_other, table_start, table_text_other, to_body, to_row, to_table, without_any_body, without_caption, without_column_group, without_row, without_table, without_table_body}
use Rattle.tree_construction.specs.Tokens.{StartTagOf, Token, bare_tag, is_null, is_space, tokens_of, value_of}
use Rattle.tree_construction.specs.Tokens.Token.{Character, Comment, Doctype, EndOfFile, EndTag, StartTag}
use Rattle.tree_construction.specs.declared.kinds.Kind.{Kind}
use Rattle.tree_construction.specs.declared.kinds.Kind.TheVariants.{Address, Anchor, Applet, Base, Block, Body, BreakoutBlock, Button, Caption, Cell, Column, ColumnGroup, Description, Dialog, Division, Embed, Fieldset, Font, Form, Formatting, Frame, Frameset, Head, Heading, HtmlRoot, Iframe, Image, Input, LineBreak, Link, ListBlock, ListItem, MathRoot, Meta, MisnamedImage, NoBreak, Noembed, Noframes, Noscript, Object, OptionGroup, Paragraph, Parameter, Plaintext, Preformatted, RubyBase, RubyContainer, RubyText, Rule, Script, Select, SelectOption, Style, SvgRoot, Table, TableBody, TableRow, Template, Textarea, Title, Void, Xmp}
use Rattle.tree_construction.specs.declared.kinds.Namespace.{Namespace}
use Rattle.tree_construction.specs.declared.kinds.Namespace.TheVariants.{MathMl, Svg}
use Rattle.tree_construction.specs.declared.mistakes.Mistake.TheVariants.{BadDoctype, MissingDoctype, TrailingSolidus, UnclosedAtEnd, UnclosedElements, UnexpectedToken}
use Rattle.tree_construction.specs.declared.modes.Mode.{Mode}
use Rattle.tree_construction.specs.declared.modes.Mode.TheVariants.{AfterAfterBody, AfterAfterFrameset, AfterBody, AfterFrameset, AfterHead, BeforeHead, BeforeHtml, InBody, InCaption, InCell, InColumnGroup, InFrameset, InHead, InHeadNoscript, InRow, InTable, InTableBody, InTableText, InTemplate, Initial, Text}
use Rattle.tree_construction.specs.declared.modes.QuirksMode.TheVariants.{Quirks}
use Rattle.tree_laws.proofs.Nested.{TreeOf, nested-if-parser, nested-mistaken, nested-on_page, nested-popped, nested-popped_until, nested-popped_while}
use Rattle.tree_laws.proofs.NestedOfElements.{nested-add_to_body, nested-add_to_root, nested-insert_comment, nested-insert_comment_in_document, nested-insert_comment_in_root, nested-insert_foreign, nested-insert_text, nested-insert_void, nested-inserted, nested-mark_current, nested-put_doctype, nested-set_quirks_mode, nested-with_root, nested-without_body}
use Rattle.tree_laws.proofs.NestedOfLists.{nested-cleared_to_marker, nested-end_block, nested-form_in_table, nested-insert_form, nested-insert_head, nested-reconstructed, nested-start_font, nested-start_formatting, nested-with_marker}
use Rattle.tree_laws.proofs.NestedOfPointers.{nested-end_form, nested-start_after_head, nested-start_in_head}
use Rattle.tree_laws.proofs.NestedOfTurns.{nested-outer_loop, nested-start_anchor, nested-start_no_break}

pub nested-in_mode : (k : ℕ) → (mode : Mode) → (p : Parser) → TreeOf k p → TreeOf k (in_mode mode p)
nested-in_mode k mode p h = h

pub nested-not_frameset_ok : (k : ℕ) → (p : Parser) → TreeOf k p → TreeOf k (not_frameset_ok p)
nested-not_frameset_ok k p h = h

pub nested-unexpected : (k : ℕ) → (p : Parser) → TreeOf k p → TreeOf k (unexpected p)
nested-unexpected k p h = nested-mistaken k UnexpectedToken p h

pub nested-asked : (k : ℕ) → (request : Request) → (p : Parser) → TreeOf k p → TreeOf k (asked request p)
nested-asked k request p h = h

pub nested-acknowledges : (k : ℕ) → (p : Parser) → TreeOf k p → TreeOf k (acknowledges p)
nested-acknowledges k p h = h

pub nested-pop : (k : ℕ) → (p : Parser) → TreeOf k p → TreeOf k (pop p)
nested-pop k p h = nested-on_page k popped (λ k. nested-popped k) p h

pub nested-pop_until : (k : ℕ) → (test : (Open → Bool)) → (p : Parser) → TreeOf k p → TreeOf k (pop_until test p)
nested-pop_until k test p h = nested-on_page k (popped_until test) (λ k. nested-popped_until k test) p h

pub nested-pop_while : (k : ℕ) → (test : (Open → Bool)) → (p : Parser) → TreeOf k p → TreeOf k (pop_while test p)
nested-pop_while k test p h = nested-on_page k (popped_while test) (λ k. nested-popped_while k test) p h

pub nested-cleared_back_to : (k : ℕ) → (context : (Kind → Bool)) → (p : Parser) → TreeOf k p → TreeOf k (cleared_back_to context p)
nested-cleared_back_to k context p h = nested-pop_while k ((λ e. not (context e.kind))) p h

pub nested-expects_current : (k : ℕ) → (test : (Open → Bool)) → (p : Parser) → TreeOf k p → TreeOf k (expects_current test p)
nested-expects_current k test p h = nested-if-parser k (current_passes test p.page.opened) p (mistaken UnclosedElements p) h
    (nested-mistaken k UnclosedElements p h)

pub nested-implied_ended_but : (k : ℕ) → (but : (Open → Bool)) → (p : Parser) → TreeOf k p → TreeOf k (implied_ended_but but p)
nested-implied_ended_but k but p h = nested-pop_while k ((λ e. is_implied e.kind && not (but e))) p h

pub nested-implied_ended : (k : ℕ) → (p : Parser) → TreeOf k p → TreeOf k (implied_ended p)
nested-implied_ended k p h = nested-pop_while k (has_kind is_implied) p h

pub nested-all_implied_ended : (k : ℕ) → (p : Parser) → TreeOf k p → TreeOf k (all_implied_ended p)
nested-all_implied_ended k p h = nested-pop_while k (has_kind is_implied_thoroughly) p h

pub nested-ended : (k : ℕ) → (test : (Open → Bool)) → (p : Parser) → TreeOf k p → TreeOf k (ended test p)
nested-ended k test p h = nested-pop_until k test ((expects_current test (implied_ended p))) (nested-expects_current k test (implied_ended p)
    (nested-implied_ended k p h))

pub nested-ended_without_implied : (k : ℕ) → (test : (Open → Bool)) → (p : Parser) → TreeOf k p → TreeOf k (ended_without_implied test p)
nested-ended_without_implied k test p h = nested-pop_until k test ((expects_current test (implied_ended_but test p))) (nested-expects_current k test
    (implied_ended_but test p) (nested-implied_ended_but k test p h))

pub nested-paragraph_closed : (k : ℕ) → (p : Parser) → TreeOf k p → TreeOf k (paragraph_closed p)
nested-paragraph_closed k p h = nested-ended_without_implied k (has_kind is_paragraph) p h

pub nested-without_paragraph : (k : ℕ) → (p : Parser) → TreeOf k p → TreeOf k (without_paragraph p)
nested-without_paragraph k p h = nested-if-parser k (in_button_scope (has_kind is_paragraph) p) (paragraph_closed p) p
    (nested-paragraph_closed k p h) h

pub nested-insert : (k : ℕ) → (tag : StartTagOf) → (p : Parser) → TreeOf k p → TreeOf k (insert tag p)
nested-insert k tag p h = nested-inserted k (kind_of tag.name) tag.name tag.attributes p h

pub nested-insert_character : (k : ℕ) → (c : ℕ) → (p : Parser) → TreeOf k p → TreeOf k (insert_character c p)
nested-insert_character k c p h = nested-insert_text k (c ∷ []) p h

pub nested-reads_text : (k : ℕ) → (kind : RawKind) → (p : Parser) → TreeOf k p → TreeOf k (reads_text kind p)
nested-reads_text k kind p h = nested-asked k (ReadRaw kind) p h

pub nested-insert_with_text : (k : ℕ) → (kind : RawKind) → (tag : StartTagOf) → (p : Parser) → TreeOf k p → TreeOf k (insert_with_text kind tag p)
nested-insert_with_text k kind tag p h = nested-reads_text k kind (insert tag p) (nested-insert k tag p h)

pub nested-stop_parsing : (k : ℕ) → (p : Parser) → TreeOf k p → TreeOf k (stop_parsing p)
nested-stop_parsing k p h = nested-pop_while k (λ e. true) p h

pub nested-end_of : (k : ℕ) → (name : List ℕ) → (n : Option ℕ) → (p : Parser) → TreeOf k p → TreeOf k (end_of name n p)
nested-end_of k name None p h = nested-unexpected k p h
nested-end_of k name (Some n) p h = nested-pop_until k (has_number n) ((expects_current (has_number n) (implied_ended_but (has_name name) p)))
    (nested-expects_current k (has_number n) ((implied_ended_but (has_name name) p)) (nested-implied_ended_but k (has_name name) p h))

pub nested-any_other_end_tag : (k : ℕ) → (name : List ℕ) → (p : Parser) → TreeOf k p → TreeOf k (any_other_end_tag name p)
nested-any_other_end_tag k name p h = nested-end_of k name (ended_by name p.page.opened) p h

pub nested-adoption_agency : (k : ℕ) → (name : List ℕ) → (p : Parser) → TreeOf k p → TreeOf k (adoption_agency name p)
nested-adoption_agency k name p h = nested-if-parser k (current_passes (is_unlisted name p.formatting) p.page.opened) (pop p) (outer_loop 8 name p)
    (nested-pop k p h) (nested-outer_loop k 8 name p h)

pub nested-mode_reset : (k : ℕ) → (p : Parser) → TreeOf k p → TreeOf k (mode_reset p)
nested-mode_reset k p h = nested-in_mode k (mode_of p p.page.opened) p h

pub nested-initial_doctype : (k : ℕ) → (doctype : DoctypeOf) → (p : Parser) → TreeOf k p → TreeOf k (initial_doctype doctype p)
nested-initial_doctype k doctype p h = let put : Parser = put_doctype doctype
    (if is_allowed doctype then p else mistaken BadDoctype p) in let h-put : TreeOf k put = nested-put_doctype k doctype
    (if is_allowed doctype then p else mistaken BadDoctype p) (nested-if-parser k (is_allowed doctype) p (mistaken BadDoctype p) h
    (nested-mistaken k BadDoctype p h)) in nested-in_mode k BeforeHtml ((if p.options.iframe_srcdoc then put else set_quirks_mode
    (quirks_mode_of doctype) put)) (nested-if-parser k (p.options.iframe_srcdoc) put (set_quirks_mode (quirks_mode_of doctype) put) h-put
    (nested-set_quirks_mode k (quirks_mode_of doctype) put h-put))

pub nested-initial_other : (k : ℕ) → (again : Again) → ((k : ℕ) → (q : Parser) → (t : Token) → TreeOf k q → TreeOf k (again q t)) → (token : Token)
    → (p : Parser) → TreeOf k p → TreeOf k (initial_other again token p)
nested-initial_other k again h-again token p h = h-again k ((in_mode BeforeHtml (if p.options.iframe_srcdoc then p else set_quirks_mode Quirks
    (mistaken MissingDoctype p)))) token (nested-in_mode k BeforeHtml ((if p.options.iframe_srcdoc then p else set_quirks_mode Quirks
    (mistaken MissingDoctype p))) (nested-if-parser k (p.options.iframe_srcdoc) p (set_quirks_mode Quirks (mistaken MissingDoctype p)) h
    (nested-set_quirks_mode k Quirks (mistaken MissingDoctype p) (nested-mistaken k MissingDoctype p h))))

pub nested-initial : (k : ℕ) → (again : Again) → ((k : ℕ) → (q : Parser) → (t : Token) → TreeOf k q → TreeOf k (again q t)) → (c : Token) →
    (p : Parser) → TreeOf k p → TreeOf k (initial again c p)
nested-initial k again h-again (Character c) p h = nested-if-parser k (is_space c) p (initial_other again (Character c) p) h
    (nested-initial_other k again h-again (Character c) p h)
nested-initial k again h-again (Comment text) p h = nested-insert_comment_in_document k text p h
nested-initial k again h-again (Doctype doctype) p h = nested-initial_doctype k doctype p h
nested-initial k again h-again token p h = nested-initial_other k again h-again token p h

pub nested-before_html_other : (k : ℕ) → (again : Again) → ((k : ℕ) → (q : Parser) → (t : Token) → TreeOf k q → TreeOf k (again q t)) →
    (token : Token) → (p : Parser) → TreeOf k p → TreeOf k (before_html_other again token p)
nested-before_html_other k again h-again token p h = h-again k ((in_mode BeforeHead (with_root [] p))) token (nested-in_mode k BeforeHead
    (with_root [] p) (nested-with_root k [] p h))

pub nested-before_html_start : (k : ℕ) → (again : Again) → ((k : ℕ) → (q : Parser) → (t : Token) → TreeOf k q → TreeOf k (again q t)) →
    (other : Kind) → (tag : StartTagOf) → (p : Parser) → TreeOf k p → TreeOf k (before_html_start again other tag p)
nested-before_html_start k again h-again HtmlRoot tag p h = nested-in_mode k BeforeHead (with_root tag.attributes p)
    (nested-with_root k tag.attributes p h)
nested-before_html_start k again h-again other tag p h = nested-before_html_other k again h-again (StartTag tag) p h

pub nested-before_html : (k : ℕ) → (again : Again) → ((k : ℕ) → (q : Parser) → (t : Token) → TreeOf k q → TreeOf k (again q t)) → (doctype : Token)
    → (p : Parser) → TreeOf k p → TreeOf k (before_html again doctype p)
nested-before_html k again h-again (Doctype doctype) p h = nested-unexpected k p h
nested-before_html k again h-again (Comment text) p h = nested-insert_comment_in_document k text p h
nested-before_html k again h-again (Character c) p h = nested-if-parser k (is_space c) p (before_html_other again (Character c) p) h
    (nested-before_html_other k again h-again (Character c) p h)
nested-before_html k again h-again (StartTag tag) p h = nested-before_html_start k again h-again (kind_of tag.name) tag p h
nested-before_html k again h-again (EndTag name) p h = nested-if-parser k (ends_early (kind_of name)) (before_html_other again (EndTag name) p)
    (unexpected p) (nested-before_html_other k again h-again (EndTag name) p h) (nested-unexpected k p h)
nested-before_html k again h-again EndOfFile p h = nested-before_html_other k again h-again EndOfFile p h

pub nested-start_html : (k : ℕ) → (tag : StartTagOf) → (p : Parser) → TreeOf k p → TreeOf k (start_html tag p)
nested-start_html k tag p h = nested-if-parser k (has_template p) (unexpected p) (add_to_root tag (unexpected p)) (nested-unexpected k p h)
    (nested-add_to_root k tag (unexpected p) (nested-unexpected k p h))

pub nested-before_head_other : (k : ℕ) → (again : Again) → ((k : ℕ) → (q : Parser) → (t : Token) → TreeOf k q → TreeOf k (again q t)) →
    (token : Token) → (p : Parser) → TreeOf k p → TreeOf k (before_head_other again token p)
nested-before_head_other k again h-again token p h = h-again k ((insert_head (bare_tag (codes "head")) p)) token (nested-insert_head k ((bare_tag
    (codes "head"))) p h)

pub nested-before_head_start : (k : ℕ) → (again : Again) → ((k : ℕ) → (q : Parser) → (t : Token) → TreeOf k q → TreeOf k (again q t)) →
    (other : Kind) → (tag : StartTagOf) → (p : Parser) → TreeOf k p → TreeOf k (before_head_start again other tag p)
nested-before_head_start k again h-again HtmlRoot tag p h = nested-start_html k tag p h
nested-before_head_start k again h-again Head tag p h = nested-insert_head k tag p h
nested-before_head_start k again h-again other tag p h = nested-before_head_other k again h-again (StartTag tag) p h

pub nested-before_head : (k : ℕ) → (again : Again) → ((k : ℕ) → (q : Parser) → (t : Token) → TreeOf k q → TreeOf k (again q t)) → (c : Token) →
    (p : Parser) → TreeOf k p → TreeOf k (before_head again c p)
nested-before_head k again h-again (Character c) p h = nested-if-parser k (is_space c) p (before_head_other again (Character c) p) h
    (nested-before_head_other k again h-again (Character c) p h)
nested-before_head k again h-again (Comment text) p h = nested-insert_comment k text p h
nested-before_head k again h-again (Doctype doctype) p h = nested-unexpected k p h
nested-before_head k again h-again (StartTag tag) p h = nested-before_head_start k again h-again (kind_of tag.name) tag p h
nested-before_head k again h-again (EndTag name) p h = nested-if-parser k (ends_early (kind_of name)) (before_head_other again (EndTag name) p)
    (unexpected p) (nested-before_head_other k again h-again (EndTag name) p h) (nested-unexpected k p h)
nested-before_head k again h-again EndOfFile p h = nested-before_head_other k again h-again EndOfFile p h

pub nested-asks_content : (k : ℕ) → (true : Bool) → (content : Option (List ℕ)) → (p : Parser) → TreeOf k p → TreeOf k (asks_content true content p)
nested-asks_content k true (Some content) p h = nested-asked k (UseContent content) p h
nested-asks_content k says content p h = h

pub nested-asks_encoding : (k : ℕ) → (attributes : List AttributeOf) → (charset : Option (List ℕ)) → (p : Parser) → TreeOf k p → TreeOf k
    (asks_encoding attributes charset p)
nested-asks_encoding k attributes (Some charset) p h = nested-asked k (UseCharset charset) p h
nested-asks_encoding k attributes None p h = nested-asks_content k ((is_content_type (value_of (codes "http-equiv") attributes))) ((value_of
    (codes "content") attributes)) p h

pub nested-start_meta : (k : ℕ) → (tag : StartTagOf) → (p : Parser) → TreeOf k p → TreeOf k (start_meta tag p)
nested-start_meta k tag p h = nested-asks_encoding k tag.attributes ((value_of (codes "charset") tag.attributes)) (insert_void tag p)
    (nested-insert_void k tag p h)

pub nested-start_script : (k : ℕ) → (tag : StartTagOf) → (p : Parser) → TreeOf k p → TreeOf k (start_script tag p)
nested-start_script k tag p h = let later : Parser = insert tag p in let h-later : TreeOf k later = nested-insert k tag p h in nested-reads_text k ScriptData (if is_fragment p then mark_current later else later) (nested-if-parser k (is_fragment p) (mark_current later) later (nested-mark_current k later h-later) h-later)

pub nested-start_template : (k : ℕ) → (tag : StartTagOf) → (p : Parser) → TreeOf k p → TreeOf k (start_template tag p)
nested-start_template k tag p h = nested-insert k tag ((record
    (with_marker p) { frameset_ok = false; mode = InTemplate; template_modes = InTemplate ∷ p.template_modes })) (nested-with_marker k p h)

pub nested-template_closed : (k : ℕ) → (p : Parser) → TreeOf k p → TreeOf k (template_closed p)
nested-template_closed k p h = let popped : Parser = cleared_to_marker (pop_until
    (has_kind is_template) p) in let h-popped : TreeOf k popped = nested-cleared_to_marker k ((pop_until (has_kind is_template) p))
    (nested-pop_until k (has_kind is_template) p h) in nested-mode_reset k
    (record popped { template_modes = without_template_mode popped.template_modes }) h-popped

pub nested-end_template : (k : ℕ) → (p : Parser) → TreeOf k p → TreeOf k (end_template p)
nested-end_template k p h = nested-if-parser k (has_template p) (template_closed (expects_current (has_kind is_template) (all_implied_ended p)))
    (unexpected p) (nested-template_closed k ((expects_current (has_kind is_template) (all_implied_ended p))) (nested-expects_current k
    (has_kind is_template) (all_implied_ended p) (nested-all_implied_ended k p h))) (nested-unexpected k p h)

pub nested-in_head_other : (k : ℕ) → (again : Again) → ((k : ℕ) → (q : Parser) → (t : Token) → TreeOf k q → TreeOf k (again q t)) → (token : Token)
    → (p : Parser) → TreeOf k p → TreeOf k (in_head_other again token p)
nested-in_head_other k again h-again token p h = h-again k ((in_mode AfterHead (pop p))) token (nested-in_mode k AfterHead (pop p) (nested-pop k p h))

pub nested-in_head_noscript_start : (k : ℕ) → (tag : StartTagOf) → (p : Parser) → TreeOf k p → TreeOf k (in_head_noscript_start tag p)
nested-in_head_noscript_start k tag p h = nested-if-parser k (p.options.scripting) (insert_with_text Rawtext tag p) (in_mode InHeadNoscript
    (insert tag p)) (nested-insert_with_text k Rawtext tag p h) (nested-in_mode k InHeadNoscript (insert tag p) (nested-insert k tag p h))

pub nested-in_head_start : (k : ℕ) → (again : Again) → ((k : ℕ) → (q : Parser) → (t : Token) → TreeOf k q → TreeOf k (again q t)) → (other : Kind) →
    (tag : StartTagOf) → (p : Parser) → TreeOf k p → TreeOf k (in_head_start again other tag p)
nested-in_head_start k again h-again HtmlRoot tag p h = nested-start_html k tag p h
nested-in_head_start k again h-again Head tag p h = nested-unexpected k p h
nested-in_head_start k again h-again Noscript tag p h = nested-in_head_noscript_start k tag p h
nested-in_head_start k again h-again Base tag p h = nested-start_in_head k Base tag p h
nested-in_head_start k again h-again Link tag p h = nested-start_in_head k Link tag p h
nested-in_head_start k again h-again Meta tag p h = nested-start_in_head k Meta tag p h
nested-in_head_start k again h-again Title tag p h = nested-start_in_head k Title tag p h
nested-in_head_start k again h-again Style tag p h = nested-start_in_head k Style tag p h
nested-in_head_start k again h-again Noframes tag p h = nested-start_in_head k Noframes tag p h
nested-in_head_start k again h-again Script tag p h = nested-start_in_head k Script tag p h
nested-in_head_start k again h-again Template tag p h = nested-start_in_head k Template tag p h
nested-in_head_start k again h-again other tag p h = nested-in_head_other k again h-again (StartTag tag) p h

pub nested-in_head_end : (k : ℕ) → (again : Again) → ((k : ℕ) → (q : Parser) → (t : Token) → TreeOf k q → TreeOf k (again q t)) → (other : Kind) →
    (name : List ℕ) → (p : Parser) → TreeOf k p → TreeOf k (in_head_end again other name p)
nested-in_head_end k again h-again Head name p h = nested-in_mode k AfterHead (pop p) (nested-pop k p h)
nested-in_head_end k again h-again Body name p h = nested-in_head_other k again h-again (EndTag name) p h
nested-in_head_end k again h-again HtmlRoot name p h = nested-in_head_other k again h-again (EndTag name) p h
nested-in_head_end k again h-again LineBreak name p h = nested-in_head_other k again h-again (EndTag name) p h
nested-in_head_end k again h-again Template name p h = nested-end_template k p h
nested-in_head_end k again h-again other name p h = nested-unexpected k p h

pub nested-in_head : (k : ℕ) → (again : Again) → ((k : ℕ) → (q : Parser) → (t : Token) → TreeOf k q → TreeOf k (again q t)) → (c : Token) →
    (p : Parser) → TreeOf k p → TreeOf k (in_head again c p)
nested-in_head k again h-again (Character c) p h = nested-if-parser k (is_space c) (insert_character c p) (in_head_other again (Character c) p)
    (nested-insert_character k c p h) (nested-in_head_other k again h-again (Character c) p h)
nested-in_head k again h-again (Comment text) p h = nested-insert_comment k text p h
nested-in_head k again h-again (Doctype doctype) p h = nested-unexpected k p h
nested-in_head k again h-again (StartTag tag) p h = nested-in_head_start k again h-again (kind_of tag.name) tag p h
nested-in_head k again h-again (EndTag name) p h = nested-in_head_end k again h-again (kind_of name) name p h
nested-in_head k again h-again EndOfFile p h = nested-in_head_other k again h-again EndOfFile p h

pub nested-noscript_other : (k : ℕ) → (again : Again) → ((k : ℕ) → (q : Parser) → (t : Token) → TreeOf k q → TreeOf k (again q t)) → (token : Token)
    → (p : Parser) → TreeOf k p → TreeOf k (noscript_other again token p)
nested-noscript_other k again h-again token p h = h-again k ((in_mode InHead (pop (unexpected p)))) token (nested-in_mode k InHead ((pop
    (unexpected p))) (nested-pop k (unexpected p) (nested-unexpected k p h)))

pub nested-noscript_start : (k : ℕ) → (again : Again) → ((k : ℕ) → (q : Parser) → (t : Token) → TreeOf k q → TreeOf k (again q t)) → (other : Kind)
    → (tag : StartTagOf) → (p : Parser) → TreeOf k p → TreeOf k (noscript_start again other tag p)
nested-noscript_start k again h-again HtmlRoot tag p h = nested-start_html k tag p h
nested-noscript_start k again h-again Link tag p h = nested-start_in_head k Link tag p h
nested-noscript_start k again h-again Meta tag p h = nested-start_in_head k Meta tag p h
nested-noscript_start k again h-again Noframes tag p h = nested-start_in_head k Noframes tag p h
nested-noscript_start k again h-again Style tag p h = nested-start_in_head k Style tag p h
nested-noscript_start k again h-again Head tag p h = nested-unexpected k p h
nested-noscript_start k again h-again Noscript tag p h = nested-unexpected k p h
nested-noscript_start k again h-again other tag p h = nested-noscript_other k again h-again (StartTag tag) p h

pub nested-noscript_end : (k : ℕ) → (again : Again) → ((k : ℕ) → (q : Parser) → (t : Token) → TreeOf k q → TreeOf k (again q t)) → (other : Kind) →
    (name : List ℕ) → (p : Parser) → TreeOf k p → TreeOf k (noscript_end again other name p)
nested-noscript_end k again h-again Noscript name p h = nested-in_mode k InHead (pop p) (nested-pop k p h)
nested-noscript_end k again h-again LineBreak name p h = nested-noscript_other k again h-again (EndTag name) p h
nested-noscript_end k again h-again other name p h = nested-unexpected k p h

pub nested-in_head_noscript : (k : ℕ) → (again : Again) → ((k : ℕ) → (q : Parser) → (t : Token) → TreeOf k q → TreeOf k (again q t)) →
    (doctype : Token) → (p : Parser) → TreeOf k p → TreeOf k (in_head_noscript again doctype p)
nested-in_head_noscript k again h-again (Doctype doctype) p h = nested-unexpected k p h
nested-in_head_noscript k again h-again (StartTag tag) p h = nested-noscript_start k again h-again (kind_of tag.name) tag p h
nested-in_head_noscript k again h-again (EndTag name) p h = nested-noscript_end k again h-again (kind_of name) name p h
nested-in_head_noscript k again h-again (Character c) p h = nested-if-parser k (is_space c) (insert_character c p) (noscript_other again
    (Character c) p) (nested-insert_character k c p h) (nested-noscript_other k again h-again (Character c) p h)
nested-in_head_noscript k again h-again (Comment text) p h = nested-insert_comment k text p h
nested-in_head_noscript k again h-again EndOfFile p h = nested-noscript_other k again h-again EndOfFile p h

pub nested-insert_body : (k : ℕ) → (tag : StartTagOf) → (p : Parser) → TreeOf k p → TreeOf k (insert_body tag p)
nested-insert_body k tag p h = nested-in_mode k InBody (insert tag p) (nested-insert k tag p h)

pub nested-after_head_other : (k : ℕ) → (again : Again) → ((k : ℕ) → (q : Parser) → (t : Token) → TreeOf k q → TreeOf k (again q t)) →
    (token : Token) → (p : Parser) → TreeOf k p → TreeOf k (after_head_other again token p)
nested-after_head_other k again h-again token p h = h-again k ((insert_body (bare_tag (codes "body")) p)) token (nested-insert_body k ((bare_tag
    (codes "body"))) p h)

pub nested-after_head_start : (k : ℕ) → (again : Again) → ((k : ℕ) → (q : Parser) → (t : Token) → TreeOf k q → TreeOf k (again q t)) →
    (other : Kind) → (tag : StartTagOf) → (p : Parser) → TreeOf k p → TreeOf k (after_head_start again other tag p)
nested-after_head_start k again h-again HtmlRoot tag p h = nested-start_html k tag p h
nested-after_head_start k again h-again Body tag p h = nested-not_frameset_ok k (insert_body tag p) (nested-insert_body k tag p h)
nested-after_head_start k again h-again Frameset tag p h = nested-in_mode k InFrameset (insert tag p) (nested-insert k tag p h)
nested-after_head_start k again h-again Base tag p h = nested-start_after_head k Base tag p h
nested-after_head_start k again h-again Link tag p h = nested-start_after_head k Link tag p h
nested-after_head_start k again h-again Meta tag p h = nested-start_after_head k Meta tag p h
nested-after_head_start k again h-again Noframes tag p h = nested-start_after_head k Noframes tag p h
nested-after_head_start k again h-again Script tag p h = nested-start_after_head k Script tag p h
nested-after_head_start k again h-again Style tag p h = nested-start_after_head k Style tag p h
nested-after_head_start k again h-again Template tag p h = nested-start_after_head k Template tag p h
nested-after_head_start k again h-again Title tag p h = nested-start_after_head k Title tag p h
nested-after_head_start k again h-again Head tag p h = nested-unexpected k p h
nested-after_head_start k again h-again other tag p h = nested-after_head_other k again h-again (StartTag tag) p h

pub nested-after_head_end : (k : ℕ) → (again : Again) → ((k : ℕ) → (q : Parser) → (t : Token) → TreeOf k q → TreeOf k (again q t)) → (other : Kind)
    → (name : List ℕ) → (p : Parser) → TreeOf k p → TreeOf k (after_head_end again other name p)
nested-after_head_end k again h-again Template name p h = nested-end_template k p h
nested-after_head_end k again h-again Body name p h = nested-after_head_other k again h-again (EndTag name) p h
nested-after_head_end k again h-again HtmlRoot name p h = nested-after_head_other k again h-again (EndTag name) p h
nested-after_head_end k again h-again LineBreak name p h = nested-after_head_other k again h-again (EndTag name) p h
nested-after_head_end k again h-again other name p h = nested-unexpected k p h

pub nested-after_head : (k : ℕ) → (again : Again) → ((k : ℕ) → (q : Parser) → (t : Token) → TreeOf k q → TreeOf k (again q t)) → (c : Token) →
    (p : Parser) → TreeOf k p → TreeOf k (after_head again c p)
nested-after_head k again h-again (Character c) p h = nested-if-parser k (is_space c) (insert_character c p) (after_head_other again
    (Character c) p) (nested-insert_character k c p h) (nested-after_head_other k again h-again (Character c) p h)
nested-after_head k again h-again (Comment text) p h = nested-insert_comment k text p h
nested-after_head k again h-again (Doctype doctype) p h = nested-unexpected k p h
nested-after_head k again h-again (StartTag tag) p h = nested-after_head_start k again h-again (kind_of tag.name) tag p h
nested-after_head k again h-again (EndTag name) p h = nested-after_head_end k again h-again (kind_of name) name p h
nested-after_head k again h-again EndOfFile p h = nested-after_head_other k again h-again EndOfFile p h

pub nested-back : (k : ℕ) → (p : Parser) → TreeOf k p → TreeOf k (back p)
nested-back k p h = nested-in_mode k p.original_mode (pop p) (nested-pop k p h)

pub nested-text_end : (k : ℕ) → (other : Kind) → (p : Parser) → TreeOf k p → TreeOf k (text_end other p)
nested-text_end k Script p h = nested-asked k ((Run (current_number p.page.opened))) (back p) (nested-back k p h)
nested-text_end k other p h = nested-back k p h

pub nested-text_end_of_file : (k : ℕ) → (again : Again) → ((k : ℕ) → (q : Parser) → (t : Token) → TreeOf k q → TreeOf k (again q t)) → (p : Parser)
    → TreeOf k p → TreeOf k (text_end_of_file again p)
nested-text_end_of_file k again h-again p h = let noted : Parser = mistaken UnclosedAtEnd p in let h-noted : TreeOf k noted = nested-mistaken k UnclosedAtEnd p h in h-again k ((back (if is_current is_script p then mark_current noted else noted))) EndOfFile (nested-back k (if is_current is_script p then mark_current noted else noted) (nested-if-parser k (is_current is_script p) (mark_current noted) noted (nested-mark_current k noted h-noted) h-noted))

pub nested-text_mode : (k : ℕ) → (again : Again) → ((k : ℕ) → (q : Parser) → (t : Token) → TreeOf k q → TreeOf k (again q t)) → (c : Token) →
    (p : Parser) → TreeOf k p → TreeOf k (text_mode again c p)
nested-text_mode k again h-again (Character c) p h = nested-insert_character k c p h
nested-text_mode k again h-again (EndTag name) p h = nested-text_end k (kind_of name) p h
nested-text_mode k again h-again EndOfFile p h = nested-text_end_of_file k again h-again p h
nested-text_mode k again h-again other p h = h

pub nested-character_in_body : (k : ℕ) → (c : ℕ) → (p : Parser) → TreeOf k p → TreeOf k (character_in_body c p)
nested-character_in_body k c p h = nested-if-parser k (is_null c) (unexpected p) (if is_space c then insert_character c
    (reconstructed p) else not_frameset_ok (insert_character c (reconstructed p))) (nested-unexpected k p h) (nested-if-parser k (is_space c)
    (insert_character c (reconstructed p)) (not_frameset_ok (insert_character c (reconstructed p))) (nested-insert_character k c (reconstructed p)
    (nested-reconstructed k p h)) (nested-not_frameset_ok k ((insert_character c (reconstructed p))) (nested-insert_character k c (reconstructed p)
    (nested-reconstructed k p h))))

pub nested-start_body : (k : ℕ) → (tag : StartTagOf) → (p : Parser) → TreeOf k p → TreeOf k (start_body tag p)
nested-start_body k tag p h = nested-if-parser k (has_body p && not (has_template p)) (add_to_body tag (not_frameset_ok (unexpected p)))
    (unexpected p) (nested-add_to_body k tag ((not_frameset_ok (unexpected p))) (nested-not_frameset_ok k (unexpected p) (nested-unexpected k p h)))
    (nested-unexpected k p h)

pub nested-start_frameset : (k : ℕ) → (tag : StartTagOf) → (p : Parser) → TreeOf k p → TreeOf k (start_frameset tag p)
nested-start_frameset k tag p h = nested-if-parser k (has_body p && p.frameset_ok) (in_mode InFrameset (insert tag (without_body (unexpected p))))
    (unexpected p) (nested-in_mode k InFrameset ((insert tag (without_body (unexpected p)))) (nested-insert k tag ((without_body (unexpected p)))
    (nested-without_body k (unexpected p) (nested-unexpected k p h)))) (nested-unexpected k p h)

pub nested-expects_closed : (k : ℕ) → (p : Parser) → TreeOf k p → TreeOf k (expects_closed p)
nested-expects_closed k p h = nested-if-parser k (has_open (λ e. not (may_stay_open e.kind)) p.page.opened) (mistaken UnclosedElements p) p
    (nested-mistaken k UnclosedElements p h) h

pub nested-end_of_file_in_template : (k : ℕ) → (again : Again) → ((k : ℕ) → (q : Parser) → (t : Token) → TreeOf k q → TreeOf k (again q t)) →
    (p : Parser) → TreeOf k p → TreeOf k (end_of_file_in_template again p)
nested-end_of_file_in_template k again h-again p h = nested-if-parser k (has_template p) (again (template_closed
    (mistaken UnclosedAtEnd p)) EndOfFile) (stop_parsing p) (h-again k ((template_closed (mistaken UnclosedAtEnd p))) EndOfFile
    (nested-template_closed k (mistaken UnclosedAtEnd p) (nested-mistaken k UnclosedAtEnd p h))) (nested-stop_parsing k p h)

pub nested-end_of_file_by : (k : ℕ) → (again : Again) → ((k : ℕ) → (q : Parser) → (t : Token) → TreeOf k q → TreeOf k (again q t)) →
    (mode : List Mode) → (p : Parser) → TreeOf k p → TreeOf k (end_of_file_by again mode p)
nested-end_of_file_by k again h-again [] p h = nested-stop_parsing k (expects_closed p) (nested-expects_closed k p h)
nested-end_of_file_by k again h-again (mode ∷ modes) p h = nested-end_of_file_in_template k again h-again p h

pub nested-end_of_file_in_body : (k : ℕ) → (again : Again) → ((k : ℕ) → (q : Parser) → (t : Token) → TreeOf k q → TreeOf k (again q t)) →
    (p : Parser) → TreeOf k p → TreeOf k (end_of_file_in_body again p)
nested-end_of_file_in_body k again h-again p h = nested-end_of_file_by k again h-again p.template_modes p h

pub nested-end_body : (k : ℕ) → (after : (Parser → Parser)) → ((k : ℕ) → (q : Parser) → TreeOf k q → TreeOf k (after q)) → (p : Parser) → TreeOf k p
    → TreeOf k (end_body after p)
nested-end_body k after h-after p h = nested-if-parser k (in_scope (has_kind is_body) p) (after (in_mode AfterBody (expects_closed p)))
    (unexpected p) (h-after k ((in_mode AfterBody (expects_closed p))) (nested-in_mode k AfterBody (expects_closed p)
    (nested-expects_closed k p h))) (nested-unexpected k p h)

pub nested-start_block : (k : ℕ) → (tag : StartTagOf) → (p : Parser) → TreeOf k p → TreeOf k (start_block tag p)
nested-start_block k tag p h = nested-insert k tag (without_paragraph p) (nested-without_paragraph k p h)

pub nested-without_heading : (k : ℕ) → (p : Parser) → TreeOf k p → TreeOf k (without_heading p)
nested-without_heading k p h = nested-if-parser k (is_current is_heading p) (pop (unexpected p)) p (nested-pop k (unexpected p)
    (nested-unexpected k p h)) h

pub nested-start_preformatted : (k : ℕ) → (tag : StartTagOf) → (p : Parser) → TreeOf k p → TreeOf k (start_preformatted tag p)
nested-start_preformatted k tag p h = nested-start_block k tag p h

pub nested-without_item_of : (k : ℕ) → (name : Option (List ℕ)) → (p : Parser) → TreeOf k p → TreeOf k (without_item_of name p)
nested-without_item_of k None p h = h
nested-without_item_of k (Some name) p h = nested-ended_without_implied k (has_name name) p h

pub nested-start_item : (k : ℕ) → (test : (Open → Bool)) → (tag : StartTagOf) → (p : Parser) → TreeOf k p → TreeOf k (start_item test tag p)
nested-start_item k test tag p h = let noted : Parser = not_frameset_ok p in let h-noted : TreeOf k noted = nested-not_frameset_ok k p h in nested-insert k tag ((without_paragraph (without_item_of (item_met test noted.page.opened) noted))) (nested-without_paragraph k ((without_item_of (item_met test noted.page.opened) noted)) (nested-without_item_of k (item_met test noted.page.opened) noted h-noted))

pub nested-start_plaintext : (k : ℕ) → (tag : StartTagOf) → (p : Parser) → TreeOf k p → TreeOf k (start_plaintext tag p)
nested-start_plaintext k tag p h = nested-asked k ReadPlain (start_block tag p) (nested-start_block k tag p h)

pub nested-end_list_item : (k : ℕ) → (p : Parser) → TreeOf k p → TreeOf k (end_list_item p)
nested-end_list_item k p h = nested-if-parser k (has_in_scope ends_list_scope (has_kind is_list_item) p.page.opened) (ended_without_implied
    (has_kind is_list_item) p) (unexpected p) (nested-ended_without_implied k (has_kind is_list_item) p h) (nested-unexpected k p h)

pub nested-end_description : (k : ℕ) → (name : List ℕ) → (p : Parser) → TreeOf k p → TreeOf k (end_description name p)
nested-end_description k name p h = nested-if-parser k (in_scope (has_name name) p) (ended_without_implied (has_name name) p) (unexpected p)
    (nested-ended_without_implied k (has_name name) p h) (nested-unexpected k p h)

pub nested-end_heading : (k : ℕ) → (name : List ℕ) → (p : Parser) → TreeOf k p → TreeOf k (end_heading name p)
nested-end_heading k name p h = nested-if-parser k (in_scope (has_kind is_heading) p) (pop_until (has_kind is_heading) (expects_current
    (has_name name) (implied_ended p))) (unexpected p) (nested-pop_until k (has_kind is_heading) ((expects_current (has_name name)
    (implied_ended p))) (nested-expects_current k (has_name name) (implied_ended p) (nested-implied_ended k p h))) (nested-unexpected k p h)

pub nested-end_paragraph : (k : ℕ) → (p : Parser) → TreeOf k p → TreeOf k (end_paragraph p)
nested-end_paragraph k p h = nested-paragraph_closed k ((if in_button_scope (has_kind is_paragraph) p then p else insert (bare_tag (codes "p"))
    (unexpected p))) (nested-if-parser k (in_button_scope (has_kind is_paragraph) p) p (insert (bare_tag (codes "p")) (unexpected p)) h
    (nested-insert k ((bare_tag (codes "p"))) (unexpected p) (nested-unexpected k p h)))

pub nested-start_form_outside : (k : ℕ) → (n : Option ℕ) → (tag : StartTagOf) → (p : Parser) → TreeOf k p → TreeOf k (start_form_outside n tag p)
nested-start_form_outside k None tag p h = nested-insert_form k tag p h
nested-start_form_outside k (Some n) tag p h = nested-unexpected k p h

pub nested-start_form : (k : ℕ) → (tag : StartTagOf) → (p : Parser) → TreeOf k p → TreeOf k (start_form tag p)
nested-start_form k tag p h = nested-if-parser k (has_template p) (start_block tag p) (start_form_outside p.form tag p)
    (nested-start_block k tag p h) (nested-start_form_outside k p.form tag p h)

pub nested-start_button : (k : ℕ) → (tag : StartTagOf) → (p : Parser) → TreeOf k p → TreeOf k (start_button tag p)
nested-start_button k tag p h = let ready : Parser = if in_scope (has_kind is_button) p then pop_until (has_kind is_button) (implied_ended
    (unexpected p)) else p in let h-ready : TreeOf k ready = nested-if-parser k (in_scope (has_kind is_button) p) (pop_until (has_kind is_button)
    (implied_ended (unexpected p))) p (nested-pop_until k (has_kind is_button) ((implied_ended (unexpected p))) (nested-implied_ended k
    (unexpected p) (nested-unexpected k p h))) h in nested-not_frameset_ok k ((insert tag (reconstructed ready))) (nested-insert k tag
    (reconstructed ready) (nested-reconstructed k ready h-ready))

pub nested-start_marked : (k : ℕ) → (tag : StartTagOf) → (p : Parser) → TreeOf k p → TreeOf k (start_marked tag p)
nested-start_marked k tag p h = nested-not_frameset_ok k ((with_marker (insert tag (reconstructed p)))) (nested-with_marker k ((insert tag
    (reconstructed p))) (nested-insert k tag (reconstructed p) (nested-reconstructed k p h)))

pub nested-end_marked : (k : ℕ) → (name : List ℕ) → (p : Parser) → TreeOf k p → TreeOf k (end_marked name p)
nested-end_marked k name p h = nested-if-parser k (in_scope (has_name name) p) (cleared_to_marker (ended (has_name name) p)) (unexpected p)
    (nested-cleared_to_marker k ((ended (has_name name) p)) (nested-ended k (has_name name) p h)) (nested-unexpected k p h)

pub nested-start_table : (k : ℕ) → (tag : StartTagOf) → (p : Parser) → TreeOf k p → TreeOf k (start_table tag p)
nested-start_table k tag p h = nested-in_mode k InTable ((not_frameset_ok (insert tag
    (if is_quirks p.quirks_mode then p else without_paragraph p)))) (nested-not_frameset_ok k ((insert tag
    (if is_quirks p.quirks_mode then p else without_paragraph p))) (nested-insert k tag (if is_quirks p.quirks_mode then p else without_paragraph p)
    (nested-if-parser k (is_quirks p.quirks_mode) p (without_paragraph p) h (nested-without_paragraph k p h))))

pub nested-start_void : (k : ℕ) → (tag : StartTagOf) → (p : Parser) → TreeOf k p → TreeOf k (start_void tag p)
nested-start_void k tag p h = nested-not_frameset_ok k ((insert_void tag (reconstructed p))) (nested-insert_void k tag (reconstructed p)
    (nested-reconstructed k p h))

pub nested-without_select : (k : ℕ) → (p : Parser) → TreeOf k p → TreeOf k (without_select p)
nested-without_select k p h = nested-if-parser k (in_scope (has_kind is_select) p) (pop_until (has_kind is_select) (unexpected p)) p
    (nested-pop_until k (has_kind is_select) (unexpected p) (nested-unexpected k p h)) h

pub nested-insert_input : (k : ℕ) → (tag : StartTagOf) → (p : Parser) → TreeOf k p → TreeOf k (insert_input tag p)
nested-insert_input k tag p h = let later : Parser = insert_void tag (reconstructed p) in let h-later : TreeOf k later = nested-insert_void k tag
    (reconstructed p) (nested-reconstructed k p h) in nested-if-parser k (is_hidden tag) later (not_frameset_ok later) h-later
    (nested-not_frameset_ok k later h-later)

pub nested-start_input : (k : ℕ) → (tag : StartTagOf) → (p : Parser) → TreeOf k p → TreeOf k (start_input tag p)
nested-start_input k tag p h = nested-if-parser k (is_in_select p.options.context) (unexpected p) (insert_input tag (without_select p))
    (nested-unexpected k p h) (nested-insert_input k tag (without_select p) (nested-without_select k p h))

pub nested-expects_no_option : (k : ℕ) → (test : (Open → Bool)) → (p : Parser) → TreeOf k p → TreeOf k (expects_no_option test p)
nested-expects_no_option k test p h = nested-if-parser k (in_scope test p) (unexpected p) p (nested-unexpected k p h) h

pub nested-start_rule : (k : ℕ) → (tag : StartTagOf) → (p : Parser) → TreeOf k p → TreeOf k (start_rule tag p)
nested-start_rule k tag p h = let ready : Parser = without_paragraph p in let h-ready : TreeOf k ready = nested-without_paragraph k p h in nested-not_frameset_ok k ((insert_void tag (if in_scope (has_kind is_select) ready then expects_no_option is_option_or_group (implied_ended ready) else ready))) (nested-insert_void k tag ((if in_scope (has_kind is_select) ready then expects_no_option is_option_or_group (implied_ended ready) else ready)) (nested-if-parser k (in_scope (has_kind is_select) ready) (expects_no_option is_option_or_group (implied_ended ready)) ready (nested-expects_no_option k is_option_or_group (implied_ended ready) (nested-implied_ended k ready h-ready)) h-ready))

pub nested-start_textarea : (k : ℕ) → (tag : StartTagOf) → (p : Parser) → TreeOf k p → TreeOf k (start_textarea tag p)
nested-start_textarea k tag p h = nested-insert_with_text k Rcdata tag p h

pub nested-start_xmp : (k : ℕ) → (tag : StartTagOf) → (p : Parser) → TreeOf k p → TreeOf k (start_xmp tag p)
nested-start_xmp k tag p h = nested-insert_with_text k Rawtext tag ((not_frameset_ok (reconstructed (without_paragraph p))))
    (nested-not_frameset_ok k ((reconstructed (without_paragraph p))) (nested-reconstructed k (without_paragraph p) (nested-without_paragraph k p h)))

pub nested-start_select : (k : ℕ) → (tag : StartTagOf) → (p : Parser) → TreeOf k p → TreeOf k (start_select tag p)
nested-start_select k tag p h = nested-if-parser k (is_in_select p.options.context) (unexpected p) (if in_scope
    (has_kind is_select) p then pop_until (has_kind is_select) (unexpected p) else not_frameset_ok (insert tag (reconstructed p)))
    (nested-unexpected k p h) (nested-if-parser k (in_scope (has_kind is_select) p) (pop_until (has_kind is_select) (unexpected p)) (not_frameset_ok
    (insert tag (reconstructed p))) (nested-pop_until k (has_kind is_select) (unexpected p) (nested-unexpected k p h)) (nested-not_frameset_ok k
    ((insert tag (reconstructed p))) (nested-insert k tag (reconstructed p) (nested-reconstructed k p h))))

pub nested-without_option : (k : ℕ) → (p : Parser) → TreeOf k p → TreeOf k (without_option p)
nested-without_option k p h = nested-if-parser k (is_current is_select_option p) (pop p) p (nested-pop k p h) h

pub nested-start_option : (k : ℕ) → (tag : StartTagOf) → (p : Parser) → TreeOf k p → TreeOf k (start_option tag p)
nested-start_option k tag p h = nested-insert k tag ((reconstructed (if in_scope (has_kind is_select) p then expects_no_option
    (has_kind is_select_option) (implied_ended_but (has_kind is_option_group) p) else without_option p))) (nested-reconstructed k ((if in_scope
    (has_kind is_select) p then expects_no_option (has_kind is_select_option) (implied_ended_but
    (has_kind is_option_group) p) else without_option p)) (nested-if-parser k (in_scope (has_kind is_select) p) (expects_no_option
    (has_kind is_select_option) (implied_ended_but (has_kind is_option_group) p)) (without_option p) (nested-expects_no_option k
    (has_kind is_select_option) ((implied_ended_but (has_kind is_option_group) p)) (nested-implied_ended_but k (has_kind is_option_group) p h))
    (nested-without_option k p h)))

pub nested-start_option_group : (k : ℕ) → (tag : StartTagOf) → (p : Parser) → TreeOf k p → TreeOf k (start_option_group tag p)
nested-start_option_group k tag p h = nested-insert k tag ((reconstructed (if in_scope
    (has_kind is_select) p then expects_no_option is_option_or_group (implied_ended p) else without_option p))) (nested-reconstructed k
    ((if in_scope (has_kind is_select) p then expects_no_option is_option_or_group (implied_ended p) else without_option p)) (nested-if-parser k
    (in_scope (has_kind is_select) p) (expects_no_option is_option_or_group (implied_ended p)) (without_option p)
    (nested-expects_no_option k is_option_or_group (implied_ended p) (nested-implied_ended k p h)) (nested-without_option k p h)))

pub nested-start_ruby_base : (k : ℕ) → (tag : StartTagOf) → (p : Parser) → TreeOf k p → TreeOf k (start_ruby_base tag p)
nested-start_ruby_base k tag p h = nested-insert k tag ((if in_scope (has_kind is_ruby) p then expects_current (has_kind is_ruby)
    (implied_ended p) else p)) (nested-if-parser k (in_scope (has_kind is_ruby) p) (expects_current (has_kind is_ruby) (implied_ended p)) p
    (nested-expects_current k (has_kind is_ruby) (implied_ended p) (nested-implied_ended k p h)) h)

pub nested-start_ruby_text : (k : ℕ) → (tag : StartTagOf) → (p : Parser) → TreeOf k p → TreeOf k (start_ruby_text tag p)
nested-start_ruby_text k tag p h = nested-insert k tag ((if in_scope (has_kind is_ruby) p then expects_current is_ruby_or_container
    (implied_ended_but (has_kind is_ruby_container) p) else p)) (nested-if-parser k (in_scope (has_kind is_ruby) p)
    (expects_current is_ruby_or_container (implied_ended_but (has_kind is_ruby_container) p)) p (nested-expects_current k is_ruby_or_container
    ((implied_ended_but (has_kind is_ruby_container) p)) (nested-implied_ended_but k (has_kind is_ruby_container) p h)) h)

pub nested-popped_if_closed : (k : ℕ) → (true : Bool) → (p : Parser) → TreeOf k p → TreeOf k (popped_if_closed true p)
nested-popped_if_closed k true p h = nested-acknowledges k (pop p) (nested-pop k p h)
nested-popped_if_closed k false p h = h

pub nested-start_foreign : (k : ℕ) → (namespace : Namespace) → (tag : StartTagOf) → (p : Parser) → TreeOf k p → TreeOf k
    (start_foreign namespace tag p)
nested-start_foreign k namespace tag p h = nested-popped_if_closed k tag.self_closing ((insert_foreign namespace tag (reconstructed p)))
    (nested-insert_foreign k namespace tag (reconstructed p) (nested-reconstructed k p h))

pub nested-any_other_start_tag : (k : ℕ) → (tag : StartTagOf) → (p : Parser) → TreeOf k p → TreeOf k (any_other_start_tag tag p)
nested-any_other_start_tag k tag p h = nested-insert k tag (reconstructed p) (nested-reconstructed k p h)

pub nested-start_noscript : (k : ℕ) → (tag : StartTagOf) → (p : Parser) → TreeOf k p → TreeOf k (start_noscript tag p)
nested-start_noscript k tag p h = nested-if-parser k (p.options.scripting) (insert_with_text Rawtext tag p) (any_other_start_tag tag p)
    (nested-insert_with_text k Rawtext tag p h) (nested-any_other_start_tag k tag p h)

pub nested-start_in_body : (k : ℕ) → (again : Again) → ((k : ℕ) → (q : Parser) → (t : Token) → TreeOf k q → TreeOf k (again q t)) → (other : Kind) →
    (tag : StartTagOf) → (p : Parser) → TreeOf k p → TreeOf k (start_in_body again other tag p)
nested-start_in_body k again h-again HtmlRoot tag p h = nested-start_html k tag p h
nested-start_in_body k again h-again Base tag p h = nested-start_in_head k Base tag p h
nested-start_in_body k again h-again Link tag p h = nested-start_in_head k Link tag p h
nested-start_in_body k again h-again Meta tag p h = nested-start_in_head k Meta tag p h
nested-start_in_body k again h-again Noframes tag p h = nested-start_in_head k Noframes tag p h
nested-start_in_body k again h-again Script tag p h = nested-start_in_head k Script tag p h
nested-start_in_body k again h-again Style tag p h = nested-start_in_head k Style tag p h
nested-start_in_body k again h-again Template tag p h = nested-start_in_head k Template tag p h
nested-start_in_body k again h-again Title tag p h = nested-start_in_head k Title tag p h
nested-start_in_body k again h-again Body tag p h = nested-start_body k tag p h
nested-start_in_body k again h-again Frameset tag p h = nested-start_frameset k tag p h
nested-start_in_body k again h-again Paragraph tag p h = nested-start_block k tag p h
nested-start_in_body k again h-again Address tag p h = nested-start_block k tag p h
nested-start_in_body k again h-again Division tag p h = nested-start_block k tag p h
nested-start_in_body k again h-again BreakoutBlock tag p h = nested-start_block k tag p h
nested-start_in_body k again h-again Block tag p h = nested-start_block k tag p h
nested-start_in_body k again h-again Dialog tag p h = nested-start_block k tag p h
nested-start_in_body k again h-again Fieldset tag p h = nested-start_block k tag p h
nested-start_in_body k again h-again ListBlock tag p h = nested-start_block k tag p h
nested-start_in_body k again h-again Heading tag p h = nested-insert k tag ((without_heading (without_paragraph p))) (nested-without_heading k
    (without_paragraph p) (nested-without_paragraph k p h))
nested-start_in_body k again h-again Preformatted tag p h = nested-start_preformatted k tag p h
nested-start_in_body k again h-again Form tag p h = nested-start_form k tag p h
nested-start_in_body k again h-again ListItem tag p h = nested-start_item k (has_kind is_list_item) tag p h
nested-start_in_body k again h-again Description tag p h = nested-start_item k (has_kind is_description) tag p h
nested-start_in_body k again h-again Plaintext tag p h = nested-start_plaintext k tag p h
nested-start_in_body k again h-again Button tag p h = nested-start_button k tag p h
nested-start_in_body k again h-again Anchor tag p h = nested-start_anchor k tag p h
nested-start_in_body k again h-again Formatting tag p h = nested-start_formatting k tag p h
nested-start_in_body k again h-again Font tag p h = nested-start_font k tag p h
nested-start_in_body k again h-again NoBreak tag p h = nested-start_no_break k tag p h
nested-start_in_body k again h-again Applet tag p h = nested-start_marked k tag p h
nested-start_in_body k again h-again Object tag p h = nested-start_marked k tag p h
nested-start_in_body k again h-again Table tag p h = nested-start_table k tag p h
nested-start_in_body k again h-again Void tag p h = nested-start_void k tag p h
nested-start_in_body k again h-again LineBreak tag p h = nested-start_void k tag p h
nested-start_in_body k again h-again Embed tag p h = nested-start_void k tag p h
nested-start_in_body k again h-again Image tag p h = nested-start_void k tag p h
nested-start_in_body k again h-again Input tag p h = nested-start_input k tag p h
nested-start_in_body k again h-again Parameter tag p h = nested-insert_void k tag p h
nested-start_in_body k again h-again Rule tag p h = nested-start_rule k tag p h
nested-start_in_body k again h-again MisnamedImage tag p h = h-again k (unexpected p) ((StartTag (record tag { name = codes "img" })))
    (nested-unexpected k p h)
nested-start_in_body k again h-again Textarea tag p h = nested-start_textarea k tag p h
nested-start_in_body k again h-again Xmp tag p h = nested-start_xmp k tag p h
nested-start_in_body k again h-again Iframe tag p h = nested-insert_with_text k Rawtext tag (not_frameset_ok p) (nested-not_frameset_ok k p h)
nested-start_in_body k again h-again Noembed tag p h = nested-insert_with_text k Rawtext tag p h
nested-start_in_body k again h-again Noscript tag p h = nested-start_noscript k tag p h
nested-start_in_body k again h-again Select tag p h = nested-start_select k tag p h
nested-start_in_body k again h-again SelectOption tag p h = nested-start_option k tag p h
nested-start_in_body k again h-again OptionGroup tag p h = nested-start_option_group k tag p h
nested-start_in_body k again h-again RubyBase tag p h = nested-start_ruby_base k tag p h
nested-start_in_body k again h-again RubyContainer tag p h = nested-start_ruby_base k tag p h
nested-start_in_body k again h-again RubyText tag p h = nested-start_ruby_text k tag p h
nested-start_in_body k again h-again MathRoot tag p h = nested-start_foreign k MathMl tag p h
nested-start_in_body k again h-again SvgRoot tag p h = nested-start_foreign k Svg tag p h
nested-start_in_body k again h-again Caption tag p h = nested-unexpected k p h
nested-start_in_body k again h-again Column tag p h = nested-unexpected k p h
nested-start_in_body k again h-again ColumnGroup tag p h = nested-unexpected k p h
nested-start_in_body k again h-again Frame tag p h = nested-unexpected k p h
nested-start_in_body k again h-again Head tag p h = nested-unexpected k p h
nested-start_in_body k again h-again TableBody tag p h = nested-unexpected k p h
nested-start_in_body k again h-again Cell tag p h = nested-unexpected k p h
nested-start_in_body k again h-again TableRow tag p h = nested-unexpected k p h
nested-start_in_body k again h-again other tag p h = nested-any_other_start_tag k tag p h

pub nested-end_in_body : (k : ℕ) → (again : Again) → ((k : ℕ) → (q : Parser) → (t : Token) → TreeOf k q → TreeOf k (again q t)) → (other : Kind) →
    (name : List ℕ) → (p : Parser) → TreeOf k p → TreeOf k (end_in_body again other name p)
nested-end_in_body k again h-again Template name p h = nested-end_template k p h
nested-end_in_body k again h-again Body name p h = nested-end_body k (λ later. later) (λ k later h-later. h-later) p h
nested-end_in_body k again h-again HtmlRoot name p h = nested-end_body k ((λ later. again later (EndTag name))) (λ k later h-later. h-again k later
    (EndTag name) h-later) p h
nested-end_in_body k again h-again Address name p h = nested-end_block k (has_name name) p h
nested-end_in_body k again h-again Division name p h = nested-end_block k (has_name name) p h
nested-end_in_body k again h-again BreakoutBlock name p h = nested-end_block k (has_name name) p h
nested-end_in_body k again h-again Block name p h = nested-end_block k (has_name name) p h
nested-end_in_body k again h-again Dialog name p h = nested-end_block k (has_name name) p h
nested-end_in_body k again h-again Fieldset name p h = nested-end_block k (has_name name) p h
nested-end_in_body k again h-again ListBlock name p h = nested-end_block k (has_name name) p h
nested-end_in_body k again h-again Preformatted name p h = nested-end_block k (has_name name) p h
nested-end_in_body k again h-again Button name p h = nested-end_block k (has_name name) p h
nested-end_in_body k again h-again Select name p h = nested-end_block k (has_name name) p h
nested-end_in_body k again h-again Form name p h = nested-end_form k p h
nested-end_in_body k again h-again Paragraph name p h = nested-end_paragraph k p h
nested-end_in_body k again h-again ListItem name p h = nested-end_list_item k p h
nested-end_in_body k again h-again Description name p h = nested-end_description k name p h
nested-end_in_body k again h-again Heading name p h = nested-end_heading k name p h
nested-end_in_body k again h-again Anchor name p h = nested-adoption_agency k name p h
nested-end_in_body k again h-again Formatting name p h = nested-adoption_agency k name p h
nested-end_in_body k again h-again Font name p h = nested-adoption_agency k name p h
nested-end_in_body k again h-again NoBreak name p h = nested-adoption_agency k name p h
nested-end_in_body k again h-again Applet name p h = nested-end_marked k name p h
nested-end_in_body k again h-again Object name p h = nested-end_marked k name p h
nested-end_in_body k again h-again LineBreak name p h = nested-start_void k ((bare_tag (codes "br"))) (unexpected p) (nested-unexpected k p h)
nested-end_in_body k again h-again other name p h = nested-any_other_end_tag k name p h

pub nested-in_body : (k : ℕ) → (again : Again) → ((k : ℕ) → (q : Parser) → (t : Token) → TreeOf k q → TreeOf k (again q t)) → (c : Token) →
    (p : Parser) → TreeOf k p → TreeOf k (in_body again c p)
nested-in_body k again h-again (Character c) p h = nested-character_in_body k c p h
nested-in_body k again h-again (Comment text) p h = nested-insert_comment k text p h
nested-in_body k again h-again (Doctype doctype) p h = nested-unexpected k p h
nested-in_body k again h-again (StartTag tag) p h = nested-start_in_body k again h-again (kind_of tag.name) tag p h
nested-in_body k again h-again (EndTag name) p h = nested-end_in_body k again h-again (kind_of name) name p h
nested-in_body k again h-again EndOfFile p h = nested-end_of_file_in_body k again h-again p h

pub nested-fostered : (k : ℕ) → (change : (Parser → Parser)) → ((k : ℕ) → (q : Parser) → TreeOf k q → TreeOf k (change q)) → (p : Parser)
    → TreeOf k p → TreeOf k (fostered change p)
nested-fostered k change h-change p h = h-change k ((record (unexpected p) { fostering = true })) (nested-unexpected k p h)

pub nested-table_other : (k : ℕ) → (again : Again) → ((k : ℕ) → (q : Parser) → (t : Token) → TreeOf k q → TreeOf k (again q t)) → (token : Token) →
    (p : Parser) → TreeOf k p → TreeOf k (table_other again token p)
nested-table_other k again h-again token p h = nested-fostered k (in_body again token) (λ k. nested-in_body k again h-again token) p h

pub nested-collects_text : (k : ℕ) → (again : Again) → ((k : ℕ) → (q : Parser) → (t : Token) → TreeOf k q → TreeOf k (again q t)) → (token : Token)
    → (p : Parser) → TreeOf k p → TreeOf k (collects_text again token p)
nested-collects_text k again h-again token p h = h-again k (record p { pending = []; original_mode = p.mode; mode = InTableText }) token h

pub nested-table_character : (k : ℕ) → (again : Again) → ((k : ℕ) → (q : Parser) → (t : Token) → TreeOf k q → TreeOf k (again q t)) → (c : ℕ) →
    (p : Parser) → TreeOf k p → TreeOf k (table_character again c p)
nested-table_character k again h-again c p h = nested-if-parser k (is_current takes_table_text p) (collects_text again (Character c) p)
    (table_other again (Character c) p) (nested-collects_text k again h-again (Character c) p h) (nested-table_other k again h-again
    (Character c) p h)

pub nested-to_table : (k : ℕ) → (p : Parser) → TreeOf k p → TreeOf k (to_table p)
nested-to_table k p h = nested-cleared_back_to k ends_table_scope p h

pub nested-without_table : (k : ℕ) → (p : Parser) → TreeOf k p → TreeOf k (without_table p)
nested-without_table k p h = nested-mode_reset k ((pop_until (has_kind is_table) p)) (nested-pop_until k (has_kind is_table) p h)

pub nested-start_form_in_table : (k : ℕ) → (tag : StartTagOf) → (p : Parser) → TreeOf k p → TreeOf k (start_form_in_table tag p)
nested-start_form_in_table k tag p h = nested-if-parser k (has_template p) (unexpected p) (form_in_table p.form tag (unexpected p))
    (nested-unexpected k p h) (nested-form_in_table k p.form tag (unexpected p) (nested-unexpected k p h))

pub nested-table_start : (k : ℕ) → (again : Again) → ((k : ℕ) → (q : Parser) → (t : Token) → TreeOf k q → TreeOf k (again q t)) → (other : Kind) →
    (tag : StartTagOf) → (p : Parser) → TreeOf k p → TreeOf k (table_start again other tag p)
nested-table_start k again h-again Caption tag p h = nested-in_mode k InCaption ((insert tag (with_marker (to_table p)))) (nested-insert k tag
    ((with_marker (to_table p))) (nested-with_marker k (to_table p) (nested-to_table k p h)))
nested-table_start k again h-again ColumnGroup tag p h = nested-in_mode k InColumnGroup ((insert tag (to_table p))) (nested-insert k tag
    (to_table p) (nested-to_table k p h))
nested-table_start k again h-again Column tag p h = h-again k ((in_mode InColumnGroup (insert (bare_tag (codes "colgroup")) (to_table p))))
    (StartTag tag) (nested-in_mode k InColumnGroup ((insert (bare_tag (codes "colgroup")) (to_table p))) (nested-insert k ((bare_tag
    (codes "colgroup"))) (to_table p) (nested-to_table k p h)))
nested-table_start k again h-again TableBody tag p h = nested-in_mode k InTableBody ((insert tag (to_table p))) (nested-insert k tag (to_table p)
    (nested-to_table k p h))
nested-table_start k again h-again TableRow tag p h = h-again k ((in_mode InTableBody (insert (bare_tag (codes "tbody")) (to_table p))))
    (StartTag tag) (nested-in_mode k InTableBody ((insert (bare_tag (codes "tbody")) (to_table p))) (nested-insert k ((bare_tag (codes "tbody")))
    (to_table p) (nested-to_table k p h)))
nested-table_start k again h-again Cell tag p h = h-again k ((in_mode InTableBody (insert (bare_tag (codes "tbody")) (to_table p)))) (StartTag tag)
    (nested-in_mode k InTableBody ((insert (bare_tag (codes "tbody")) (to_table p))) (nested-insert k ((bare_tag (codes "tbody"))) (to_table p)
    (nested-to_table k p h)))
nested-table_start k again h-again Table tag p h = nested-if-parser k (in_table_scope (has_kind is_table) p) (again (without_table (unexpected p))
    (StartTag tag)) (unexpected p) (h-again k ((without_table (unexpected p))) (StartTag tag) (nested-without_table k (unexpected p)
    (nested-unexpected k p h))) (nested-unexpected k p h)
nested-table_start k again h-again Style tag p h = nested-start_in_head k Style tag p h
nested-table_start k again h-again Script tag p h = nested-start_in_head k Script tag p h
nested-table_start k again h-again Template tag p h = nested-start_in_head k Template tag p h
nested-table_start k again h-again Input tag p h = nested-if-parser k (is_hidden tag) (insert_void tag (unexpected p)) (table_other again
    (StartTag tag) p) (nested-insert_void k tag (unexpected p) (nested-unexpected k p h)) (nested-table_other k again h-again (StartTag tag) p h)
nested-table_start k again h-again Form tag p h = nested-start_form_in_table k tag p h
nested-table_start k again h-again other tag p h = nested-table_other k again h-again (StartTag tag) p h

pub nested-table_end : (k : ℕ) → (again : Again) → ((k : ℕ) → (q : Parser) → (t : Token) → TreeOf k q → TreeOf k (again q t)) → (kind : Kind) →
    (name : List ℕ) → (p : Parser) → TreeOf k p → TreeOf k (table_end again kind name p)
nested-table_end k again h-again Table name p h = nested-if-parser k (in_table_scope (has_kind is_table) p) (without_table p) (unexpected p)
    (nested-without_table k p h) (nested-unexpected k p h)
nested-table_end k again h-again Template name p h = nested-end_template k p h
nested-table_end k again h-again kind name p h = nested-if-parser k (is_ignored_in_table kind) (unexpected p) (table_other again (EndTag name) p)
    (nested-unexpected k p h) (nested-table_other k again h-again (EndTag name) p h)

pub nested-in_table : (k : ℕ) → (again : Again) → ((k : ℕ) → (q : Parser) → (t : Token) → TreeOf k q → TreeOf k (again q t)) → (c : Token) →
    (p : Parser) → TreeOf k p → TreeOf k (in_table again c p)
nested-in_table k again h-again (Character c) p h = nested-table_character k again h-again c p h
nested-in_table k again h-again (Comment text) p h = nested-insert_comment k text p h
nested-in_table k again h-again (Doctype doctype) p h = nested-unexpected k p h
nested-in_table k again h-again (StartTag tag) p h = nested-table_start k again h-again (kind_of tag.name) tag p h
nested-in_table k again h-again (EndTag name) p h = nested-table_end k again h-again (kind_of name) name p h
nested-in_table k again h-again EndOfFile p h = nested-end_of_file_in_body k again h-again p h

pub nested-flushed_fostered : (k : ℕ) → (c : List ℕ) → (p : Parser) → TreeOf k p → TreeOf k (flushed_fostered c p)
unfolding flushed_fostered
nested-flushed_fostered k [] p h = h
nested-flushed_fostered k (c ∷ text) p h = nested-flushed_fostered k text ((fostered (character_in_body c) p)) (nested-fostered k
    (character_in_body c) (λ k. nested-character_in_body k c) p h)

pub nested-flushed_as_space : (k : ℕ) → (c : List ℕ) → (p : Parser) → TreeOf k p → TreeOf k (flushed_as_space c p)
unfolding flushed_as_space
nested-flushed_as_space k [] p h = h
nested-flushed_as_space k (c ∷ text) p h = nested-flushed_as_space k text (insert_character c p) (nested-insert_character k c p h)

pub nested-flushed : (k : ℕ) → (p : Parser) → TreeOf k p → TreeOf k (flushed p)
nested-flushed k p h = nested-if-parser k (is_all_space p.pending) (flushed_as_space p.pending p) (flushed_fostered p.pending p)
    (nested-flushed_as_space k p.pending p h) (nested-flushed_fostered k p.pending p h)

pub nested-table_text_other : (k : ℕ) → (again : Again) → ((k : ℕ) → (q : Parser) → (t : Token) → TreeOf k q → TreeOf k (again q t)) →
    (token : Token) → (p : Parser) → TreeOf k p → TreeOf k (table_text_other again token p)
nested-table_text_other k again h-again token p h = h-again k ((record (flushed p) { pending = []; mode = p.original_mode })) token
    (nested-flushed k p h)

pub nested-in_table_text : (k : ℕ) → (again : Again) → ((k : ℕ) → (q : Parser) → (t : Token) → TreeOf k q → TreeOf k (again q t)) → (c : Token) →
    (p : Parser) → TreeOf k p → TreeOf k (in_table_text again c p)
nested-in_table_text k again h-again (Character c) p h = nested-if-parser k (is_null c) (unexpected p) (record p { pending = p.pending ++ c ∷ [] })
    (nested-unexpected k p h) h
nested-in_table_text k again h-again token p h = nested-table_text_other k again h-again token p h

pub nested-without_caption : (k : ℕ) → (after : (Parser → Parser)) → ((k : ℕ) → (q : Parser) → TreeOf k q → TreeOf k (after q)) → (p : Parser)
    → TreeOf k p → TreeOf k (without_caption after p)
nested-without_caption k after h-after p h = nested-if-parser k (in_table_scope (has_kind is_caption) p) (after (in_mode InTable (cleared_to_marker
    (ended (has_kind is_caption) p)))) (unexpected p) (h-after k ((in_mode InTable (cleared_to_marker (ended (has_kind is_caption) p))))
    (nested-in_mode k InTable ((cleared_to_marker (ended (has_kind is_caption) p))) (nested-cleared_to_marker k ((ended (has_kind is_caption) p))
    (nested-ended k (has_kind is_caption) p h)))) (nested-unexpected k p h)

pub nested-caption_end : (k : ℕ) → (again : Again) → ((k : ℕ) → (q : Parser) → (t : Token) → TreeOf k q → TreeOf k (again q t)) → (kind : Kind) →
    (name : List ℕ) → (p : Parser) → TreeOf k p → TreeOf k (caption_end again kind name p)
nested-caption_end k again h-again Caption name p h = nested-without_caption k (λ later. later) (λ k later h-later. h-later) p h
nested-caption_end k again h-again Table name p h = nested-without_caption k ((λ later. again later (EndTag name)))
    (λ k later h-later. h-again k later (EndTag name) h-later) p h
nested-caption_end k again h-again kind name p h = nested-if-parser k (is_ignored_in_table kind) (unexpected p) (in_body again (EndTag name) p)
    (nested-unexpected k p h) (nested-in_body k again h-again (EndTag name) p h)

pub nested-in_caption : (k : ℕ) → (again : Again) → ((k : ℕ) → (q : Parser) → (t : Token) → TreeOf k q → TreeOf k (again q t)) → (tag : Token) →
    (p : Parser) → TreeOf k p → TreeOf k (in_caption again tag p)
nested-in_caption k again h-again (StartTag tag) p h = nested-if-parser k (is_part (kind_of tag.name)) (without_caption (λ later. again later
    (StartTag tag)) p) (in_body again (StartTag tag) p) (nested-without_caption k ((λ later. again later (StartTag tag)))
    (λ k later h-later. h-again k later (StartTag tag) h-later) p h) (nested-in_body k again h-again (StartTag tag) p h)
nested-in_caption k again h-again (EndTag name) p h = nested-caption_end k again h-again (kind_of name) name p h
nested-in_caption k again h-again token p h = nested-in_body k again h-again token p h

pub nested-without_column_group : (k : ℕ) → (after : (Parser → Parser)) → ((k : ℕ) → (q : Parser) → TreeOf k q → TreeOf k (after q)) → (p : Parser)
    → TreeOf k p → TreeOf k (without_column_group after p)
nested-without_column_group k after h-after p h = nested-if-parser k (is_current is_column_group p) (after (in_mode InTable (pop p))) (unexpected p)
    (h-after k ((in_mode InTable (pop p))) (nested-in_mode k InTable (pop p) (nested-pop k p h))) (nested-unexpected k p h)

pub nested-column_group_other : (k : ℕ) → (again : Again) → ((k : ℕ) → (q : Parser) → (t : Token) → TreeOf k q → TreeOf k (again q t)) →
    (token : Token) → (p : Parser) → TreeOf k p → TreeOf k (column_group_other again token p)
nested-column_group_other k again h-again token p h = nested-without_column_group k (λ later. again later token)
    (λ k later h-later. h-again k later token h-later) p h

pub nested-column_group_start : (k : ℕ) → (again : Again) → ((k : ℕ) → (q : Parser) → (t : Token) → TreeOf k q → TreeOf k (again q t)) →
    (other : Kind) → (tag : StartTagOf) → (p : Parser) → TreeOf k p → TreeOf k (column_group_start again other tag p)
nested-column_group_start k again h-again HtmlRoot tag p h = nested-start_html k tag p h
nested-column_group_start k again h-again Column tag p h = nested-insert_void k tag p h
nested-column_group_start k again h-again Template tag p h = nested-start_in_head k Template tag p h
nested-column_group_start k again h-again other tag p h = nested-column_group_other k again h-again (StartTag tag) p h

pub nested-column_group_end : (k : ℕ) → (again : Again) → ((k : ℕ) → (q : Parser) → (t : Token) → TreeOf k q → TreeOf k (again q t)) →
    (other : Kind) → (name : List ℕ) → (p : Parser) → TreeOf k p → TreeOf k (column_group_end again other name p)
nested-column_group_end k again h-again ColumnGroup name p h = nested-without_column_group k (λ later. later) (λ k later h-later. h-later) p h
nested-column_group_end k again h-again Column name p h = nested-unexpected k p h
nested-column_group_end k again h-again Template name p h = nested-end_template k p h
nested-column_group_end k again h-again other name p h = nested-column_group_other k again h-again (EndTag name) p h

pub nested-in_column_group : (k : ℕ) → (again : Again) → ((k : ℕ) → (q : Parser) → (t : Token) → TreeOf k q → TreeOf k (again q t)) → (c : Token) →
    (p : Parser) → TreeOf k p → TreeOf k (in_column_group again c p)
nested-in_column_group k again h-again (Character c) p h = nested-if-parser k (is_space c) (insert_character c p) (column_group_other again
    (Character c) p) (nested-insert_character k c p h) (nested-column_group_other k again h-again (Character c) p h)
nested-in_column_group k again h-again (Comment text) p h = nested-insert_comment k text p h
nested-in_column_group k again h-again (Doctype doctype) p h = nested-unexpected k p h
nested-in_column_group k again h-again (StartTag tag) p h = nested-column_group_start k again h-again (kind_of tag.name) tag p h
nested-in_column_group k again h-again (EndTag name) p h = nested-column_group_end k again h-again (kind_of name) name p h
nested-in_column_group k again h-again EndOfFile p h = nested-end_of_file_in_body k again h-again p h

pub nested-to_body : (k : ℕ) → (p : Parser) → TreeOf k p → TreeOf k (to_body p)
nested-to_body k p h = nested-cleared_back_to k is_body_context p h

pub nested-without_table_body : (k : ℕ) → (scoped : Bool) → (after : (Parser → Parser)) → ((k : ℕ) → (q : Parser) → TreeOf k q → TreeOf k (after q))
    → (p : Parser) → TreeOf k p → TreeOf k (without_table_body scoped after p)
nested-without_table_body k scoped after h-after p h = nested-if-parser k (scoped) (after (in_mode InTable (pop (to_body p)))) (unexpected p)
    (h-after k ((in_mode InTable (pop (to_body p)))) (nested-in_mode k InTable ((pop (to_body p))) (nested-pop k (to_body p)
    (nested-to_body k p h)))) (nested-unexpected k p h)

pub nested-without_any_body : (k : ℕ) → (after : (Parser → Parser)) → ((k : ℕ) → (q : Parser) → TreeOf k q → TreeOf k (after q)) → (p : Parser)
    → TreeOf k p → TreeOf k (without_any_body after p)
nested-without_any_body k after h-after p h = nested-without_table_body k ((in_table_scope (has_kind is_table_body) p)) after h-after p h

pub nested-table_body_start : (k : ℕ) → (again : Again) → ((k : ℕ) → (q : Parser) → (t : Token) → TreeOf k q → TreeOf k (again q t)) → (kind : Kind)
    → (tag : StartTagOf) → (p : Parser) → TreeOf k p → TreeOf k (table_body_start again kind tag p)
nested-table_body_start k again h-again TableRow tag p h = nested-in_mode k InRow ((insert tag (to_body p))) (nested-insert k tag (to_body p)
    (nested-to_body k p h))
nested-table_body_start k again h-again Cell tag p h = h-again k ((in_mode InRow (insert (bare_tag (codes "tr")) (to_body (unexpected p)))))
    (StartTag tag) (nested-in_mode k InRow ((insert (bare_tag (codes "tr")) (to_body (unexpected p)))) (nested-insert k ((bare_tag (codes "tr")))
    ((to_body (unexpected p))) (nested-to_body k (unexpected p) (nested-unexpected k p h))))
nested-table_body_start k again h-again kind tag p h = nested-if-parser k (is_part kind) (without_any_body (λ later. again later (StartTag tag)) p)
    (table_start again kind tag p) (nested-without_any_body k ((λ later. again later (StartTag tag))) (λ k later h-later. h-again k later
    (StartTag tag) h-later) p h) (nested-table_start k again h-again kind tag p h)

pub nested-table_body_end : (k : ℕ) → (again : Again) → ((k : ℕ) → (q : Parser) → (t : Token) → TreeOf k q → TreeOf k (again q t)) → (kind : Kind) →
    (name : List ℕ) → (p : Parser) → TreeOf k p → TreeOf k (table_body_end again kind name p)
nested-table_body_end k again h-again TableBody name p h = nested-without_table_body k ((in_table_scope (has_name name) p)) (λ later. later)
    (λ k later h-later. h-later) p h
nested-table_body_end k again h-again Table name p h = nested-without_any_body k ((λ later. again later (EndTag name)))
    (λ k later h-later. h-again k later (EndTag name) h-later) p h
nested-table_body_end k again h-again kind name p h = nested-table_end k again h-again kind name p h

pub nested-in_table_body : (k : ℕ) → (again : Again) → ((k : ℕ) → (q : Parser) → (t : Token) → TreeOf k q → TreeOf k (again q t)) → (tag : Token) →
    (p : Parser) → TreeOf k p → TreeOf k (in_table_body again tag p)
nested-in_table_body k again h-again (StartTag tag) p h = nested-table_body_start k again h-again (kind_of tag.name) tag p h
nested-in_table_body k again h-again (EndTag name) p h = nested-table_body_end k again h-again (kind_of name) name p h
nested-in_table_body k again h-again token p h = nested-in_table k again h-again token p h

pub nested-to_row : (k : ℕ) → (p : Parser) → TreeOf k p → TreeOf k (to_row p)
nested-to_row k p h = nested-cleared_back_to k is_row_context p h

pub nested-without_row : (k : ℕ) → (after : (Parser → Parser)) → ((k : ℕ) → (q : Parser) → TreeOf k q → TreeOf k (after q)) → (p : Parser)
    → TreeOf k p → TreeOf k (without_row after p)
nested-without_row k after h-after p h = nested-if-parser k (in_table_scope (has_kind is_table_row) p) (after (in_mode InTableBody (pop
    (to_row p)))) (unexpected p) (h-after k ((in_mode InTableBody (pop (to_row p)))) (nested-in_mode k InTableBody ((pop (to_row p))) (nested-pop k
    (to_row p) (nested-to_row k p h)))) (nested-unexpected k p h)

pub nested-row_start : (k : ℕ) → (again : Again) → ((k : ℕ) → (q : Parser) → (t : Token) → TreeOf k q → TreeOf k (again q t)) → (kind : Kind) →
    (tag : StartTagOf) → (p : Parser) → TreeOf k p → TreeOf k (row_start again kind tag p)
nested-row_start k again h-again Cell tag p h = nested-with_marker k ((in_mode InCell (insert tag (to_row p)))) (nested-in_mode k InCell
    ((insert tag (to_row p))) (nested-insert k tag (to_row p) (nested-to_row k p h)))
nested-row_start k again h-again kind tag p h = nested-if-parser k (is_part kind) (without_row (λ later. again later (StartTag tag)) p)
    (table_start again kind tag p) (nested-without_row k ((λ later. again later (StartTag tag))) (λ k later h-later. h-again k later
    (StartTag tag) h-later) p h) (nested-table_start k again h-again kind tag p h)

pub nested-row_end_of_body : (k : ℕ) → (again : Again) → ((k : ℕ) → (q : Parser) → (t : Token) → TreeOf k q → TreeOf k (again q t)) →
    (name : List ℕ) → (p : Parser) → TreeOf k p → TreeOf k (row_end_of_body again name p)
nested-row_end_of_body k again h-again name p h = nested-if-parser k (in_table_scope (has_name name) p) ((if in_table_scope
    (has_kind is_table_row) p then without_row (λ later. again later (EndTag name)) p else p)) (unexpected p) (nested-if-parser k (in_table_scope
    (has_kind is_table_row) p) (without_row (λ later. again later (EndTag name)) p) p (nested-without_row k ((λ later. again later (EndTag name)))
    (λ k later h-later. h-again k later (EndTag name) h-later) p h) h) (nested-unexpected k p h)

pub nested-row_end : (k : ℕ) → (again : Again) → ((k : ℕ) → (q : Parser) → (t : Token) → TreeOf k q → TreeOf k (again q t)) → (kind : Kind) →
    (name : List ℕ) → (p : Parser) → TreeOf k p → TreeOf k (row_end again kind name p)
nested-row_end k again h-again TableRow name p h = nested-without_row k (λ later. later) (λ k later h-later. h-later) p h
nested-row_end k again h-again Table name p h = nested-without_row k ((λ later. again later (EndTag name))) (λ k later h-later. h-again k later
    (EndTag name) h-later) p h
nested-row_end k again h-again TableBody name p h = nested-row_end_of_body k again h-again name p h
nested-row_end k again h-again kind name p h = nested-table_end k again h-again kind name p h

pub nested-in_row : (k : ℕ) → (again : Again) → ((k : ℕ) → (q : Parser) → (t : Token) → TreeOf k q → TreeOf k (again q t)) → (tag : Token) →
    (p : Parser) → TreeOf k p → TreeOf k (in_row again tag p)
nested-in_row k again h-again (StartTag tag) p h = nested-row_start k again h-again (kind_of tag.name) tag p h
nested-in_row k again h-again (EndTag name) p h = nested-row_end k again h-again (kind_of name) name p h
nested-in_row k again h-again token p h = nested-in_table k again h-again token p h

pub nested-cell_closed : (k : ℕ) → (p : Parser) → TreeOf k p → TreeOf k (cell_closed p)
nested-cell_closed k p h = nested-in_mode k InRow ((cleared_to_marker (ended (has_kind is_cell) p))) (nested-cleared_to_marker k ((ended
    (has_kind is_cell) p)) (nested-ended k (has_kind is_cell) p h))

pub nested-end_cell : (k : ℕ) → (name : List ℕ) → (p : Parser) → TreeOf k p → TreeOf k (end_cell name p)
nested-end_cell k name p h = nested-if-parser k (in_table_scope (has_name name) p) (in_mode InRow (cleared_to_marker (ended (has_name name) p)))
    (unexpected p) (nested-in_mode k InRow ((cleared_to_marker (ended (has_name name) p))) (nested-cleared_to_marker k ((ended (has_name name) p))
    (nested-ended k (has_name name) p h))) (nested-unexpected k p h)

pub nested-end_around_cell : (k : ℕ) → (again : Again) → ((k : ℕ) → (q : Parser) → (t : Token) → TreeOf k q → TreeOf k (again q t)) →
    (name : List ℕ) → (p : Parser) → TreeOf k p → TreeOf k (end_around_cell again name p)
nested-end_around_cell k again h-again name p h = nested-if-parser k (in_table_scope (has_name name) p) (again (cell_closed p) (EndTag name))
    (unexpected p) (h-again k (cell_closed p) (EndTag name) (nested-cell_closed k p h)) (nested-unexpected k p h)

pub nested-cell_end : (k : ℕ) → (again : Again) → ((k : ℕ) → (q : Parser) → (t : Token) → TreeOf k q → TreeOf k (again q t)) → (kind : Kind) →
    (name : List ℕ) → (p : Parser) → TreeOf k p → TreeOf k (cell_end again kind name p)
nested-cell_end k again h-again Cell name p h = nested-end_cell k name p h
nested-cell_end k again h-again Body name p h = nested-unexpected k p h
nested-cell_end k again h-again Caption name p h = nested-unexpected k p h
nested-cell_end k again h-again Column name p h = nested-unexpected k p h
nested-cell_end k again h-again ColumnGroup name p h = nested-unexpected k p h
nested-cell_end k again h-again HtmlRoot name p h = nested-unexpected k p h
nested-cell_end k again h-again Table name p h = nested-end_around_cell k again h-again name p h
nested-cell_end k again h-again TableBody name p h = nested-end_around_cell k again h-again name p h
nested-cell_end k again h-again TableRow name p h = nested-end_around_cell k again h-again name p h
nested-cell_end k again h-again kind name p h = nested-in_body k again h-again (EndTag name) p h

pub nested-in_cell : (k : ℕ) → (again : Again) → ((k : ℕ) → (q : Parser) → (t : Token) → TreeOf k q → TreeOf k (again q t)) → (tag : Token) →
    (p : Parser) → TreeOf k p → TreeOf k (in_cell again tag p)
nested-in_cell k again h-again (StartTag tag) p h = nested-if-parser k (is_part (kind_of tag.name)) (again (cell_closed p) (StartTag tag))
    (in_body again (StartTag tag) p) (h-again k (cell_closed p) (StartTag tag) (nested-cell_closed k p h)) (nested-in_body k again h-again
    (StartTag tag) p h)
nested-in_cell k again h-again (EndTag name) p h = nested-cell_end k again h-again (kind_of name) name p h
nested-in_cell k again h-again token p h = nested-in_body k again h-again token p h

pub nested-in_template_mode : (k : ℕ) → (again : Again) → ((k : ℕ) → (q : Parser) → (t : Token) → TreeOf k q → TreeOf k (again q t)) → (mode : Mode)
    → (tag : StartTagOf) → (p : Parser) → TreeOf k p → TreeOf k (in_template_mode again mode tag p)
nested-in_template_mode k again h-again mode tag p h = h-again k
    (record p { template_modes = mode ∷ without_template_mode p.template_modes; mode = mode }) (StartTag tag) h

pub nested-template_start : (k : ℕ) → (again : Again) → ((k : ℕ) → (q : Parser) → (t : Token) → TreeOf k q → TreeOf k (again q t)) → (other : Kind)
    → (tag : StartTagOf) → (p : Parser) → TreeOf k p → TreeOf k (template_start again other tag p)
nested-template_start k again h-again Base tag p h = nested-start_in_head k Base tag p h
nested-template_start k again h-again Link tag p h = nested-start_in_head k Link tag p h
nested-template_start k again h-again Meta tag p h = nested-start_in_head k Meta tag p h
nested-template_start k again h-again Noframes tag p h = nested-start_in_head k Noframes tag p h
nested-template_start k again h-again Script tag p h = nested-start_in_head k Script tag p h
nested-template_start k again h-again Style tag p h = nested-start_in_head k Style tag p h
nested-template_start k again h-again Template tag p h = nested-start_in_head k Template tag p h
nested-template_start k again h-again Title tag p h = nested-start_in_head k Title tag p h
nested-template_start k again h-again Caption tag p h = nested-in_template_mode k again h-again InTable tag p h
nested-template_start k again h-again ColumnGroup tag p h = nested-in_template_mode k again h-again InTable tag p h
nested-template_start k again h-again TableBody tag p h = nested-in_template_mode k again h-again InTable tag p h
nested-template_start k again h-again Column tag p h = nested-in_template_mode k again h-again InColumnGroup tag p h
nested-template_start k again h-again TableRow tag p h = nested-in_template_mode k again h-again InTableBody tag p h
nested-template_start k again h-again Cell tag p h = nested-in_template_mode k again h-again InRow tag p h
nested-template_start k again h-again other tag p h = nested-in_template_mode k again h-again InBody tag p h

pub nested-template_end : (k : ℕ) → (other : Kind) → (p : Parser) → TreeOf k p → TreeOf k (template_end other p)
nested-template_end k Template p h = nested-end_template k p h
nested-template_end k other p h = nested-unexpected k p h

pub nested-in_template : (k : ℕ) → (again : Again) → ((k : ℕ) → (q : Parser) → (t : Token) → TreeOf k q → TreeOf k (again q t)) → (tag : Token) →
    (p : Parser) → TreeOf k p → TreeOf k (in_template again tag p)
nested-in_template k again h-again (StartTag tag) p h = nested-template_start k again h-again (kind_of tag.name) tag p h
nested-in_template k again h-again (EndTag name) p h = nested-template_end k (kind_of name) p h
nested-in_template k again h-again EndOfFile p h = nested-end_of_file_in_template k again h-again p h
nested-in_template k again h-again token p h = nested-in_body k again h-again token p h

pub nested-in_body_again : (k : ℕ) → (again : Again) → ((k : ℕ) → (q : Parser) → (t : Token) → TreeOf k q → TreeOf k (again q t)) → (token : Token)
    → (p : Parser) → TreeOf k p → TreeOf k (in_body_again again token p)
nested-in_body_again k again h-again token p h = h-again k ((in_mode InBody (unexpected p))) token (nested-in_mode k InBody (unexpected p)
    (nested-unexpected k p h))

pub nested-after_body_start : (k : ℕ) → (again : Again) → ((k : ℕ) → (q : Parser) → (t : Token) → TreeOf k q → TreeOf k (again q t)) →
    (other : Kind) → (tag : StartTagOf) → (p : Parser) → TreeOf k p → TreeOf k (after_body_start again other tag p)
nested-after_body_start k again h-again HtmlRoot tag p h = nested-start_html k tag p h
nested-after_body_start k again h-again other tag p h = nested-in_body_again k again h-again (StartTag tag) p h

pub nested-after_body_end : (k : ℕ) → (again : Again) → ((k : ℕ) → (q : Parser) → (t : Token) → TreeOf k q → TreeOf k (again q t)) → (other : Kind)
    → (name : List ℕ) → (p : Parser) → TreeOf k p → TreeOf k (after_body_end again other name p)
nested-after_body_end k again h-again HtmlRoot name p h = nested-if-parser k (is_fragment p) (unexpected p) (in_mode AfterAfterBody p)
    (nested-unexpected k p h) (nested-in_mode k AfterAfterBody p h)
nested-after_body_end k again h-again other name p h = nested-in_body_again k again h-again (EndTag name) p h

pub nested-after_body : (k : ℕ) → (again : Again) → ((k : ℕ) → (q : Parser) → (t : Token) → TreeOf k q → TreeOf k (again q t)) → (c : Token) →
    (p : Parser) → TreeOf k p → TreeOf k (after_body again c p)
nested-after_body k again h-again (Character c) p h = nested-if-parser k (is_space c) (character_in_body c p) (in_body_again again (Character c) p)
    (nested-character_in_body k c p h) (nested-in_body_again k again h-again (Character c) p h)
nested-after_body k again h-again (Comment text) p h = nested-insert_comment_in_root k text p h
nested-after_body k again h-again (Doctype doctype) p h = nested-unexpected k p h
nested-after_body k again h-again (StartTag tag) p h = nested-after_body_start k again h-again (kind_of tag.name) tag p h
nested-after_body k again h-again (EndTag name) p h = nested-after_body_end k again h-again (kind_of name) name p h
nested-after_body k again h-again EndOfFile p h = nested-stop_parsing k p h

pub nested-frameset_start : (k : ℕ) → (other : Kind) → (tag : StartTagOf) → (p : Parser) → TreeOf k p → TreeOf k (frameset_start other tag p)
nested-frameset_start k HtmlRoot tag p h = nested-start_html k tag p h
nested-frameset_start k Frameset tag p h = nested-insert k tag p h
nested-frameset_start k Frame tag p h = nested-insert_void k tag p h
nested-frameset_start k Noframes tag p h = nested-start_in_head k Noframes tag p h
nested-frameset_start k other tag p h = nested-unexpected k p h

pub nested-frameset_closed : (k : ℕ) → (p : Parser) → TreeOf k p → TreeOf k (frameset_closed p)
nested-frameset_closed k p h = let later : Parser = pop p in let h-later : TreeOf k later = nested-pop k p h in nested-if-parser k
    (is_fragment p) later (if is_current is_frameset later then later else in_mode AfterFrameset later) h-later (nested-if-parser k
    (is_current is_frameset later) later (in_mode AfterFrameset later) h-later (nested-in_mode k AfterFrameset later h-later))

pub nested-frameset_end : (k : ℕ) → (other : Kind) → (p : Parser) → TreeOf k p → TreeOf k (frameset_end other p)
nested-frameset_end k Frameset p h = nested-if-parser k (has_only_root p.page.opened) (unexpected p) (frameset_closed p) (nested-unexpected k p h)
    (nested-frameset_closed k p h)
nested-frameset_end k other p h = nested-unexpected k p h

pub nested-in_frameset : (k : ℕ) → (c : Token) → (p : Parser) → TreeOf k p → TreeOf k (in_frameset c p)
nested-in_frameset k (Character c) p h = nested-if-parser k (is_space c) (insert_character c p) (unexpected p) (nested-insert_character k c p h)
    (nested-unexpected k p h)
nested-in_frameset k (Comment text) p h = nested-insert_comment k text p h
nested-in_frameset k (Doctype doctype) p h = nested-unexpected k p h
nested-in_frameset k (StartTag tag) p h = nested-frameset_start k (kind_of tag.name) tag p h
nested-in_frameset k (EndTag name) p h = nested-frameset_end k (kind_of name) p h
nested-in_frameset k EndOfFile p h = nested-stop_parsing k (if has_only_root p.page.opened then p else mistaken UnclosedAtEnd p) (nested-if-parser k
    (has_only_root p.page.opened) p (mistaken UnclosedAtEnd p) h (nested-mistaken k UnclosedAtEnd p h))

pub nested-after_frameset_start : (k : ℕ) → (other : Kind) → (tag : StartTagOf) → (p : Parser) → TreeOf k p → TreeOf k
    (after_frameset_start other tag p)
nested-after_frameset_start k HtmlRoot tag p h = nested-start_html k tag p h
nested-after_frameset_start k Noframes tag p h = nested-start_in_head k Noframes tag p h
nested-after_frameset_start k other tag p h = nested-unexpected k p h

pub nested-after_frameset_end : (k : ℕ) → (other : Kind) → (p : Parser) → TreeOf k p → TreeOf k (after_frameset_end other p)
nested-after_frameset_end k HtmlRoot p h = nested-in_mode k AfterAfterFrameset p h
nested-after_frameset_end k other p h = nested-unexpected k p h

pub nested-after_frameset : (k : ℕ) → (c : Token) → (p : Parser) → TreeOf k p → TreeOf k (after_frameset c p)
nested-after_frameset k (Character c) p h = nested-if-parser k (is_space c) (insert_character c p) (unexpected p) (nested-insert_character k c p h)
    (nested-unexpected k p h)
nested-after_frameset k (Comment text) p h = nested-insert_comment k text p h
nested-after_frameset k (Doctype doctype) p h = nested-unexpected k p h
nested-after_frameset k (StartTag tag) p h = nested-after_frameset_start k (kind_of tag.name) tag p h
nested-after_frameset k (EndTag name) p h = nested-after_frameset_end k (kind_of name) p h
nested-after_frameset k EndOfFile p h = nested-stop_parsing k p h

pub nested-after_after_body : (k : ℕ) → (again : Again) → ((k : ℕ) → (q : Parser) → (t : Token) → TreeOf k q → TreeOf k (again q t)) →
    (text : Token) → (p : Parser) → TreeOf k p → TreeOf k (after_after_body again text p)
nested-after_after_body k again h-again (Comment text) p h = nested-insert_comment_in_document k text p h
nested-after_after_body k again h-again (Doctype doctype) p h = nested-unexpected k p h
nested-after_after_body k again h-again (Character c) p h = nested-if-parser k (is_space c) (character_in_body c p) (in_body_again again
    (Character c) p) (nested-character_in_body k c p h) (nested-in_body_again k again h-again (Character c) p h)
nested-after_after_body k again h-again (StartTag tag) p h = nested-after_body_start k again h-again (kind_of tag.name) tag p h
nested-after_after_body k again h-again (EndTag name) p h = nested-in_body_again k again h-again (EndTag name) p h
nested-after_after_body k again h-again EndOfFile p h = nested-stop_parsing k p h

pub nested-after_after_frameset : (k : ℕ) → (text : Token) → (p : Parser) → TreeOf k p → TreeOf k (after_after_frameset text p)
nested-after_after_frameset k (Comment text) p h = nested-insert_comment_in_document k text p h
nested-after_after_frameset k (Doctype doctype) p h = nested-unexpected k p h
nested-after_after_frameset k (Character c) p h = nested-if-parser k (is_space c) (character_in_body c p) (unexpected p)
    (nested-character_in_body k c p h) (nested-unexpected k p h)
nested-after_after_frameset k (StartTag tag) p h = nested-after_frameset_start k (kind_of tag.name) tag p h
nested-after_after_frameset k (EndTag name) p h = nested-unexpected k p h
nested-after_after_frameset k EndOfFile p h = nested-stop_parsing k p h

pub nested-foreign_character : (k : ℕ) → (c : ℕ) → (p : Parser) → TreeOf k p → TreeOf k (foreign_character c p)
nested-foreign_character k c p h = nested-if-parser k (is_null c) (insert_text replacement (unexpected p))
    (if is_space c then insert_character c p else not_frameset_ok (insert_character c p)) (nested-insert_text k replacement (unexpected p)
    (nested-unexpected k p h)) (nested-if-parser k (is_space c) (insert_character c p) (not_frameset_ok (insert_character c p))
    (nested-insert_character k c p h) (nested-not_frameset_ok k (insert_character c p) (nested-insert_character k c p h)))

pub nested-broken_out : (k : ℕ) → (in_html : InHtml) → ((k : ℕ) → (t : Token) → (q : Parser) → TreeOf k q → TreeOf k (in_html t q)) →
    (token : Token) → (p : Parser) → TreeOf k p → TreeOf k (broken_out in_html token p)
nested-broken_out k in_html h-in_html token p h = h-in_html k token ((pop_while stays_foreign (unexpected p))) (nested-pop_while k stays_foreign
    (unexpected p) (nested-unexpected k p h))

pub nested-run_script : (k : ℕ) → (p : Parser) → TreeOf k p → TreeOf k (run_script p)
nested-run_script k p h = nested-asked k ((Run (current_number p.page.opened))) (pop p) (nested-pop k p h)

pub nested-closed_at_once : (k : ℕ) → (false : Bool) → (p : Parser) → TreeOf k p → TreeOf k (closed_at_once false p)
nested-closed_at_once k false p h = h
nested-closed_at_once k true p h = nested-if-parser k (is_current is_svg_script p) (run_script (acknowledges p)) (popped_if_closed true p)
    (nested-run_script k (acknowledges p) (nested-acknowledges k p h)) (nested-popped_if_closed k true p h)

pub nested-foreign_start : (k : ℕ) → (tag : StartTagOf) → (p : Parser) → TreeOf k p → TreeOf k (foreign_start tag p)
nested-foreign_start k tag p h = nested-closed_at_once k tag.self_closing ((insert_foreign (namespace_of
    (adjusted_kind p.options.context p.page.opened)) tag p)) (nested-insert_foreign k ((namespace_of
    (adjusted_kind p.options.context p.page.opened))) tag p h)

pub nested-foreign_end : (k : ℕ) → (in_html : InHtml) → ((k : ℕ) → (t : Token) → (q : Parser) → TreeOf k q → TreeOf k (in_html t q)) →
    (name : List ℕ) → (e : List Open) → (p : Parser) → TreeOf k p → TreeOf k (foreign_end in_html name e p)
unfolding foreign_end
nested-foreign_end k in_html h-in_html name [] p h = h
nested-foreign_end k in_html h-in_html name (e ∷ []) p h = h
nested-foreign_end k in_html h-in_html name (e ∷ outer ∷ es) p h = nested-if-parser k (has_lower_case name e) (pop_until (has_number e.node) p)
    (if is_html outer.kind then in_html (EndTag name) p else foreign_end in_html name (outer ∷ es) p) (nested-pop_until k (has_number e.node) p h)
    (nested-if-parser k (is_html outer.kind) (in_html (EndTag name) p) (foreign_end in_html name (outer ∷ es) p) (h-in_html k (EndTag name) p h)
    (nested-foreign_end k in_html h-in_html name (outer ∷ es) p h))

pub nested-expects_name : (k : ℕ) → (name : List ℕ) → (e : List Open) → (p : Parser) → TreeOf k p → TreeOf k (expects_name name e p)
nested-expects_name k name [] p h = h
nested-expects_name k name (e ∷ es) p h = nested-if-parser k (has_lower_case name e) p (unexpected p) h (nested-unexpected k p h)

pub nested-any_other_foreign_end : (k : ℕ) → (in_html : InHtml) → ((k : ℕ) → (t : Token) → (q : Parser) → TreeOf k q → TreeOf k (in_html t q)) →
    (name : List ℕ) → (p : Parser) → TreeOf k p → TreeOf k (any_other_foreign_end in_html name p)
nested-any_other_foreign_end k in_html h-in_html name p h = nested-foreign_end k in_html h-in_html name p.page.opened
    (expects_name name p.page.opened p) (nested-expects_name k name p.page.opened p h)

pub nested-foreign_end_by_kind : (k : ℕ) → (in_html : InHtml) → ((k : ℕ) → (t : Token) → (q : Parser) → TreeOf k q → TreeOf k (in_html t q)) →
    (other : Kind) → (name : List ℕ) → (p : Parser) → TreeOf k p → TreeOf k (foreign_end_by_kind in_html other name p)
nested-foreign_end_by_kind k in_html h-in_html LineBreak name p h = nested-broken_out k in_html h-in_html (EndTag name) p h
nested-foreign_end_by_kind k in_html h-in_html Paragraph name p h = nested-broken_out k in_html h-in_html (EndTag name) p h
nested-foreign_end_by_kind k in_html h-in_html Script name p h = nested-if-parser k (is_current is_svg_script p) (run_script p)
    (any_other_foreign_end in_html name p) (nested-run_script k p h) (nested-any_other_foreign_end k in_html h-in_html name p h)
nested-foreign_end_by_kind k in_html h-in_html other name p h = nested-any_other_foreign_end k in_html h-in_html name p h

pub nested-in_foreign_content : (k : ℕ) → (in_html : InHtml) → ((k : ℕ) → (t : Token) → (q : Parser) → TreeOf k q → TreeOf k (in_html t q)) →
    (c : Token) → (p : Parser) → TreeOf k p → TreeOf k (in_foreign_content in_html c p)
nested-in_foreign_content k in_html h-in_html (Character c) p h = nested-foreign_character k c p h
nested-in_foreign_content k in_html h-in_html (Comment text) p h = nested-insert_comment k text p h
nested-in_foreign_content k in_html h-in_html (Doctype doctype) p h = nested-unexpected k p h
nested-in_foreign_content k in_html h-in_html (StartTag tag) p h = nested-if-parser k (is_breakout (kind_of tag.name) tag) (broken_out in_html
    (StartTag tag) p) (foreign_start tag p) (nested-broken_out k in_html h-in_html (StartTag tag) p h) (nested-foreign_start k tag p h)
nested-in_foreign_content k in_html h-in_html (EndTag name) p h = nested-foreign_end_by_kind k in_html h-in_html (kind_of name) name p h
nested-in_foreign_content k in_html h-in_html EndOfFile p h = h

pub nested-in_html_content : (k : ℕ) → (again : Again) → ((k : ℕ) → (q : Parser) → (t : Token) → TreeOf k q → TreeOf k (again q t)) → (x1 : Mode) →
    (token : Token) → (p : Parser) → TreeOf k p → TreeOf k (in_html_content again x1 token p)
nested-in_html_content k again h-again Initial token p h = nested-initial k again h-again token p h
nested-in_html_content k again h-again BeforeHtml token p h = nested-before_html k again h-again token p h
nested-in_html_content k again h-again BeforeHead token p h = nested-before_head k again h-again token p h
nested-in_html_content k again h-again InHead token p h = nested-in_head k again h-again token p h
nested-in_html_content k again h-again InHeadNoscript token p h = nested-in_head_noscript k again h-again token p h
nested-in_html_content k again h-again AfterHead token p h = nested-after_head k again h-again token p h
nested-in_html_content k again h-again InBody token p h = nested-in_body k again h-again token p h
nested-in_html_content k again h-again Text token p h = nested-text_mode k again h-again token p h
nested-in_html_content k again h-again InTable token p h = nested-in_table k again h-again token p h
nested-in_html_content k again h-again InTableText token p h = nested-in_table_text k again h-again token p h
nested-in_html_content k again h-again InCaption token p h = nested-in_caption k again h-again token p h
nested-in_html_content k again h-again InColumnGroup token p h = nested-in_column_group k again h-again token p h
nested-in_html_content k again h-again InTableBody token p h = nested-in_table_body k again h-again token p h
nested-in_html_content k again h-again InRow token p h = nested-in_row k again h-again token p h
nested-in_html_content k again h-again InCell token p h = nested-in_cell k again h-again token p h
nested-in_html_content k again h-again InTemplate token p h = nested-in_template k again h-again token p h
nested-in_html_content k again h-again AfterBody token p h = nested-after_body k again h-again token p h
nested-in_html_content k again h-again InFrameset token p h = nested-in_frameset k token p h
nested-in_html_content k again h-again AfterFrameset token p h = nested-after_frameset k token p h
nested-in_html_content k again h-again AfterAfterBody token p h = nested-after_after_body k again h-again token p h
nested-in_html_content k again h-again AfterAfterFrameset token p h = nested-after_after_frameset k token p h

pub nested-in_current_mode : (k : ℕ) → (again : Again) → ((k : ℕ) → (q : Parser) → (t : Token) → TreeOf k q → TreeOf k (again q t)) →
    (token : Token) → (p : Parser) → TreeOf k p → TreeOf k (in_current_mode again token p)
nested-in_current_mode k again h-again token p h = nested-in_html_content k again h-again p.mode token p h

pub nested-dispatched : (k : ℕ) → (again : Again) → ((k : ℕ) → (q : Parser) → (t : Token) → TreeOf k q → TreeOf k (again q t)) → (token : Token) →
    (p : Parser) → TreeOf k p → TreeOf k (dispatched again token p)
nested-dispatched k again h-again token p h = nested-if-parser k (takes_as_html (adjusted_kind p.options.context p.page.opened) token)
    (in_current_mode again token p) (in_foreign_content (in_current_mode again) token p) (nested-in_current_mode k again h-again token p h)
    (nested-in_foreign_content k (in_current_mode again) (λ k. nested-in_current_mode k again h-again) token p h)

pub nested-process : (k : ℕ) → (zero : ℕ) → (token : Token) → (p : Parser) → TreeOf k p → TreeOf k (process zero token p)
unfolding process
nested-process k zero token p h = h
nested-process k (suc times) token p h = nested-dispatched k (λ later again. process times again later)
    (λ k later again h-later. nested-process k times again later h-later) token p h

pub nested-expects_acknowledged : (k : ℕ) → (token : Token) → (p : Parser) → TreeOf k p → TreeOf k (expects_acknowledged token p)
nested-expects_acknowledged k token p h = nested-if-parser k (is_self_closing token && not p.acknowledged) (mistaken TrailingSolidus p) p
    (nested-mistaken k TrailingSolidus p h) h

pub nested-taken : (k : ℕ) → (token : Token) → (p : Parser) → TreeOf k p → TreeOf k (taken token p)
nested-taken k token p h = let fresh : Parser = record p { ignores_newline = false; request = GoOn; acknowledged = false } in let h-fresh : TreeOf k fresh = h in nested-if-parser k (is_ignored_newline p.ignores_newline token) fresh (expects_acknowledged token (process (enough p) token fresh)) h-fresh (nested-expects_acknowledged k token ((process (enough p) token fresh)) (nested-process k (enough p) token fresh h-fresh))

pub nested-step : (k : ℕ) → (token : Token) → (p : Parser) → TreeOf k p → TreeOf k (step token p)
unfolding step
nested-step k token p h = nested-taken k token p h

pub nested-run : (k : ℕ) → (token : List Token) → (p : Parser) → TreeOf k p → TreeOf k (run token p)
unfolding run
nested-run k [] p h = h
nested-run k (token ∷ tokens) p h = nested-run k tokens (step token p) (nested-step k token p h)

pub nested-told : (k : ℕ) → (message : Told) → (p : Parser) → TreeOf k p → TreeOf k (told message p)
nested-told k message p h = nested-run k (tokens_of message) p h

pub nested-told_all : (k : ℕ) → (message : List Told) → (p : Parser) → TreeOf k p → TreeOf k (told_all message p)
unfolding told_all
nested-told_all k [] p h = h
nested-told_all k (message ∷ messages) p h = nested-told_all k messages (told message p) (nested-told k message p h)
