-- Each step of tree construction makes numbers in their order, and names those that were made. By `python3 tools/gen/parser_laws.py`, and not by hand; the steps that it rests on are in Numbers.
use Rattle.std.proofs.Common.{ℕ, Bool, true, false, List, [], ◌∷◌, ◌++◌}
use Rattle.std.specs.Prelude.{suc, zero, ◌&&◌, not, Option, Some, None, codes, if◌then◌else◌}
use Rattle.html5ever_interface.specs.Token.{DoctypeOf, Told}
use Rattle.html5ever_interface.specs.declared.states.RawKind.{RawKind}
use Rattle.html5ever_interface.specs.declared.states.RawKind.TheVariants.{Rawtext, Rcdata, ScriptData}
use Rattle.markup5ever.specs.Names.{AttributeOf}
use Rattle.tree_construction.specs.Adoption.{adoption_agency, any_other_end_tag, end_of, ended_by, is_unlisted, outer_loop}
use Rattle.tree_construction.specs.AfterBody.{after_after_body, after_after_frameset, after_body, after_body_end, after_body_start, after_frameset, after_frameset_end, after_frameset_start, frameset_closed, frameset_end, frameset_start, has_only_root, in_body_again, in_frameset, in_template, in_template_mode, template_end, template_start}
use Rattle.tree_construction.specs.BeforeBody.{add_to_root, after_head, after_head_end, after_head_other, after_head_start, asks_content, asks_encoding, back, before_head, before_head_other, before_head_start, before_html, before_html_other, before_html_start, current_number, end_template, ends_early, in_head, in_head_end, in_head_noscript, in_head_noscript_start, in_head_other, in_head_start, initial, initial_doctype, initial_other, insert_body, insert_head, is_content_type, mark_current, noscript_end, noscript_other, noscript_start, put_doctype, set_quirks_mode, start_after_head, start_html, start_in_head, start_meta, start_script, start_template, template_closed, text_end, text_end_of_file, text_mode, with_root, without_template_mode}
use Rattle.tree_construction.specs.Construction.{dispatched, enough, expects_acknowledged, in_current_mode, in_html_content, is_ignored_newline, is_self_closing, process, run, step, taken, takes_as_html, told, told_all}
use Rattle.tree_construction.specs.Doctypes.{is_allowed, quirks_mode_of}
use Rattle.tree_construction.specs.ForeignContent.{InHtml, any_other_foreign_end, broken_out, closed_at_once, expects_name, foreign_character, foreign_end, foreign_end_by_kind, foreign_start, has_lower_case, in_foreign_content, is_breakout, replacement, run_script, stays_foreign}
use Rattle.tree_construction.specs.Formatting.{cleared_to_marker, reconstructed, with_marker}
use Rattle.tree_construction.specs.InBody.{add_to_body, any_other_start_tag, character_in_body, end_body, end_description, end_heading, end_in_body, end_list_item, end_marked, end_of_file_by, end_of_file_in_body, end_of_file_in_template, end_paragraph, expects_closed, expects_no_option, has_body, in_body, insert_foreign, insert_input, is_hidden, is_in_select, is_option_or_group, is_quirks, is_ruby_or_container, item_met, popped_if_closed, start_block, start_body, start_button, start_foreign, start_form, start_form_outside, start_frameset, start_in_body, start_input, start_item, start_marked, start_noscript, start_option, start_option_group, start_plaintext, start_preformatted, start_ruby_base, start_ruby_text, start_rule, start_select, start_table, start_textarea, start_void, start_xmp, without_body, without_heading, without_item_of, without_option, without_select}
use Rattle.tree_construction.specs.Names.{ends_list_scope, ends_table_scope, is_body, is_body_context, is_button, is_caption, is_cell, is_column_group, is_description, is_frameset, is_heading, is_html, is_implied, is_implied_thoroughly, is_list_item, is_option_group, is_paragraph, is_row_context, is_ruby, is_ruby_container, is_script, is_select, is_select_option, is_svg_script, is_table, is_table_body, is_table_row, is_template, kind_of, may_stay_open, namespace_of, takes_table_text}
use Rattle.tree_construction.specs.Page.{Open, current_passes, has_in_scope, has_kind, has_name, has_number, has_open, popped, popped_until, popped_while}
use Rattle.tree_construction.specs.Parser.{Again, Parser, Request, acknowledges, adjusted_kind, all_implied_ended, asked, cleared_back_to, ended, ended_without_implied, expects_current, has_template, implied_ended, implied_ended_but, in_button_scope, in_mode, in_scope, in_table_scope, insert, insert_character, insert_text, insert_void, insert_with_text, is_current, is_fragment, mistaken, not_frameset_ok, opened, paragraph_closed, pop, pop_until, pop_while, reads_text, stop_parsing, unexpected, without_paragraph}
use Rattle.tree_construction.specs.Parser.Request.{GoOn, ReadPlain, ReadRaw, Run, UseCharset, UseContent}
use Rattle.tree_construction.specs.Resetting.{mode_of, mode_reset}
use Rattle.tree_construction.specs.Tables.{caption_end, cell_closed, cell_end, collects_text, column_group_end, column_group_other, column_group_start, end_around_cell, end_cell, flushed, flushed_as_space, flushed_fostered, form_in_table, fostered, in_caption, in_cell, in_column_group, in_row, in_table, in_table_body, in_table_text, is_all_space, is_ignored_in_table, is_part, row_end, row_end_of_body, row_start, start_form_in_table, table_body_end, table_body_start, table_character, table_end, table_other, table_start, table_text_other, to_body, to_row, to_table, without_any_body, without_caption, without_column_group, without_row, without_table, without_table_body}
use Rattle.tree_construction.specs.Tokens.{StartTagOf, Token, bare_tag, is_null, is_space, tokens_of, value_of}
use Rattle.tree_construction.specs.Tokens.Token.{Character, Comment, Doctype, EndOfFile, EndTag, StartTag}
use Rattle.tree_construction.specs.declared.kinds.Kind.{Kind}
use Rattle.tree_construction.specs.declared.kinds.Kind.TheVariants.{Address, Anchor, Applet, Base, Block, Body, BreakoutBlock, Button, Caption, Cell, Column, ColumnGroup, Description, Dialog, Division, Embed, Fieldset, Font, Form, Formatting, Frame, Frameset, Head, Heading, HtmlRoot, Iframe, Image, Input, LineBreak, Link, ListBlock, ListItem, MathRoot, Meta, MisnamedImage, NoBreak, Noembed, Noframes, Noscript, Object, OptionGroup, Paragraph, Parameter, Plaintext, Preformatted, RubyBase, RubyContainer, RubyText, Rule, Script, Select, SelectOption, Style, SvgRoot, Table, TableBody, TableRow, Template, Textarea, Title, Void, Xmp}
use Rattle.tree_construction.specs.declared.kinds.Namespace.{Namespace}
use Rattle.tree_construction.specs.declared.kinds.Namespace.TheVariants.{MathMl, Svg}
use Rattle.tree_construction.specs.declared.mistakes.Mistake.TheVariants.{BadDoctype, MissingDoctype, TrailingSolidus, UnclosedAtEnd, UnclosedElements, UnexpectedToken}
use Rattle.tree_construction.specs.declared.modes.Mode.{Mode}
use Rattle.tree_construction.specs.declared.modes.Mode.TheVariants.{AfterAfterBody, AfterAfterFrameset, AfterBody, AfterFrameset, AfterHead, BeforeHead, BeforeHtml, InBody, InCaption, InCell, InColumnGroup, InFrameset, InHead, InHeadNoscript, InRow, InTable, InTableBody, InTableText, InTemplate, Initial, Text}
use Rattle.tree_construction.specs.declared.modes.QuirksMode.TheVariants.{Quirks}
use Rattle.tree_laws.proofs.Numbers.{Numbers, numbers-if-parser, numbers-insert_comment, numbers-insert_comment_in_document, numbers-insert_comment_in_root, numbers-insert_text, numbers-mistaken, numbers-on_page, numbers-popped, numbers-popped_until, numbers-popped_while}
use Rattle.tree_laws.proofs.NumbersOfAdoption.{numbers-outer_loop, numbers-start_anchor, numbers-start_no_break}
use Rattle.tree_laws.proofs.NumbersOfElements.{numbers-add_to_body, numbers-add_to_root, numbers-insert_foreign, numbers-insert_void, numbers-inserted, numbers-mark_current, numbers-with_root, numbers-without_body}
use Rattle.tree_laws.proofs.NumbersOfLists.{numbers-cleared_to_marker, numbers-reconstructed, numbers-start_font, numbers-start_formatting, numbers-with_marker}
use Rattle.tree_laws.proofs.NumbersOfPointers.{numbers-end_block, numbers-end_form, numbers-form_in_table, numbers-insert_form, numbers-insert_head, numbers-put_doctype, numbers-set_quirks_mode, numbers-within_head}

pub numbers-in_mode : (k : ℕ) → (mode : Mode) → (p : Parser) → Numbers k p → Numbers k (in_mode mode p)
numbers-in_mode k mode p h = h

pub numbers-not_frameset_ok : (k : ℕ) → (p : Parser) → Numbers k p → Numbers k (not_frameset_ok p)
numbers-not_frameset_ok k p h = h

pub numbers-unexpected : (k : ℕ) → (p : Parser) → Numbers k p → Numbers k (unexpected p)
numbers-unexpected k p h = numbers-mistaken k UnexpectedToken p h

pub numbers-asked : (k : ℕ) → (request : Request) → (p : Parser) → Numbers k p → Numbers k (asked request p)
numbers-asked k request p h = h

pub numbers-acknowledges : (k : ℕ) → (p : Parser) → Numbers k p → Numbers k (acknowledges p)
numbers-acknowledges k p h = h

pub numbers-pop : (k : ℕ) → (p : Parser) → Numbers k p → Numbers k (pop p)
numbers-pop k p h = numbers-on_page k popped (λ k. numbers-popped k) p h

pub numbers-pop_until : (k : ℕ) → (test : (Open → Bool)) → (p : Parser) → Numbers k p → Numbers k (pop_until test p)
numbers-pop_until k test p h = numbers-on_page k (popped_until test) (λ k. numbers-popped_until k test) p h

pub numbers-pop_while : (k : ℕ) → (test : (Open → Bool)) → (p : Parser) → Numbers k p → Numbers k (pop_while test p)
numbers-pop_while k test p h = numbers-on_page k (popped_while test) (λ k. numbers-popped_while k test) p h

pub numbers-cleared_back_to : (k : ℕ) → (context : (Kind → Bool)) → (p : Parser) → Numbers k p → Numbers k (cleared_back_to context p)
numbers-cleared_back_to k context p h = numbers-pop_while k ((λ e. not (context e.kind))) p h

pub numbers-expects_current : (k : ℕ) → (test : (Open → Bool)) → (p : Parser) → Numbers k p → Numbers k (expects_current test p)
numbers-expects_current k test p h = numbers-if-parser k (current_passes test p.page.opened) p (mistaken UnclosedElements p) h
    (numbers-mistaken k UnclosedElements p h)

pub numbers-implied_ended_but : (k : ℕ) → (but : (Open → Bool)) → (p : Parser) → Numbers k p → Numbers k (implied_ended_but but p)
numbers-implied_ended_but k but p h = numbers-pop_while k ((λ e. is_implied e.kind && not (but e))) p h

pub numbers-implied_ended : (k : ℕ) → (p : Parser) → Numbers k p → Numbers k (implied_ended p)
numbers-implied_ended k p h = numbers-pop_while k (has_kind is_implied) p h

pub numbers-all_implied_ended : (k : ℕ) → (p : Parser) → Numbers k p → Numbers k (all_implied_ended p)
numbers-all_implied_ended k p h = numbers-pop_while k (has_kind is_implied_thoroughly) p h

pub numbers-ended : (k : ℕ) → (test : (Open → Bool)) → (p : Parser) → Numbers k p → Numbers k (ended test p)
numbers-ended k test p h = numbers-pop_until k test ((expects_current test (implied_ended p))) (numbers-expects_current k test (implied_ended p)
    (numbers-implied_ended k p h))

pub numbers-ended_without_implied : (k : ℕ) → (test : (Open → Bool)) → (p : Parser) → Numbers k p → Numbers k (ended_without_implied test p)
numbers-ended_without_implied k test p h = numbers-pop_until k test ((expects_current test (implied_ended_but test p)))
    (numbers-expects_current k test (implied_ended_but test p) (numbers-implied_ended_but k test p h))

pub numbers-paragraph_closed : (k : ℕ) → (p : Parser) → Numbers k p → Numbers k (paragraph_closed p)
numbers-paragraph_closed k p h = numbers-ended_without_implied k (has_kind is_paragraph) p h

pub numbers-without_paragraph : (k : ℕ) → (p : Parser) → Numbers k p → Numbers k (without_paragraph p)
numbers-without_paragraph k p h = numbers-if-parser k (in_button_scope (has_kind is_paragraph) p) (paragraph_closed p) p
    (numbers-paragraph_closed k p h) h

pub numbers-insert : (k : ℕ) → (tag : StartTagOf) → (p : Parser) → Numbers k p → Numbers k (insert tag p)
numbers-insert k tag p h = numbers-inserted k (kind_of tag.name) tag.name tag.attributes p h

pub numbers-insert_character : (k : ℕ) → (c : ℕ) → (p : Parser) → Numbers k p → Numbers k (insert_character c p)
numbers-insert_character k c p h = numbers-insert_text k (c ∷ []) p h

pub numbers-reads_text : (k : ℕ) → (kind : RawKind) → (p : Parser) → Numbers k p → Numbers k (reads_text kind p)
numbers-reads_text k kind p h = numbers-asked k (ReadRaw kind) p h

pub numbers-insert_with_text : (k : ℕ) → (kind : RawKind) → (tag : StartTagOf) → (p : Parser) → Numbers k p → Numbers k (insert_with_text kind tag p)
numbers-insert_with_text k kind tag p h = numbers-reads_text k kind (insert tag p) (numbers-insert k tag p h)

pub numbers-stop_parsing : (k : ℕ) → (p : Parser) → Numbers k p → Numbers k (stop_parsing p)
numbers-stop_parsing k p h = numbers-pop_while k (λ e. true) p h

pub numbers-end_of : (k : ℕ) → (name : List ℕ) → (n : Option ℕ) → (p : Parser) → Numbers k p → Numbers k (end_of name n p)
numbers-end_of k name None p h = numbers-unexpected k p h
numbers-end_of k name (Some n) p h = numbers-pop_until k (has_number n) ((expects_current (has_number n) (implied_ended_but (has_name name) p)))
    (numbers-expects_current k (has_number n) ((implied_ended_but (has_name name) p)) (numbers-implied_ended_but k (has_name name) p h))

pub numbers-any_other_end_tag : (k : ℕ) → (name : List ℕ) → (p : Parser) → Numbers k p → Numbers k (any_other_end_tag name p)
numbers-any_other_end_tag k name p h = numbers-end_of k name (ended_by name p.page.opened) p h

pub numbers-adoption_agency : (k : ℕ) → (name : List ℕ) → (p : Parser) → Numbers k p → Numbers k (adoption_agency name p)
numbers-adoption_agency k name p h = numbers-if-parser k (current_passes (is_unlisted name p.formatting) p.page.opened) (pop p)
    (outer_loop 8 name p) (numbers-pop k p h) (numbers-outer_loop k 8 name p h)

pub numbers-mode_reset : (k : ℕ) → (p : Parser) → Numbers k p → Numbers k (mode_reset p)
numbers-mode_reset k p h = numbers-in_mode k (mode_of p p.page.opened) p h

pub numbers-initial_doctype : (k : ℕ) → (doctype : DoctypeOf) → (p : Parser) → Numbers k p → Numbers k (initial_doctype doctype p)
numbers-initial_doctype k doctype p h = let put : Parser = put_doctype doctype
    (if is_allowed doctype then p else mistaken BadDoctype p) in let h-put : Numbers k put = numbers-put_doctype k doctype
    (if is_allowed doctype then p else mistaken BadDoctype p) (numbers-if-parser k (is_allowed doctype) p (mistaken BadDoctype p) h
    (numbers-mistaken k BadDoctype p h)) in numbers-in_mode k BeforeHtml ((if p.options.iframe_srcdoc then put else set_quirks_mode
    (quirks_mode_of doctype) put)) (numbers-if-parser k (p.options.iframe_srcdoc) put (set_quirks_mode (quirks_mode_of doctype) put) h-put
    (numbers-set_quirks_mode k (quirks_mode_of doctype) put h-put))

pub numbers-initial_other : (k : ℕ) → (again : Again) → ((k : ℕ) → (q : Parser) → (t : Token) → Numbers k q → Numbers k (again q t)) →
    (token : Token) → (p : Parser) → Numbers k p → Numbers k (initial_other again token p)
numbers-initial_other k again h-again token p h = h-again k ((in_mode BeforeHtml (if p.options.iframe_srcdoc then p else set_quirks_mode Quirks
    (mistaken MissingDoctype p)))) token (numbers-in_mode k BeforeHtml ((if p.options.iframe_srcdoc then p else set_quirks_mode Quirks
    (mistaken MissingDoctype p))) (numbers-if-parser k (p.options.iframe_srcdoc) p (set_quirks_mode Quirks (mistaken MissingDoctype p)) h
    (numbers-set_quirks_mode k Quirks (mistaken MissingDoctype p) (numbers-mistaken k MissingDoctype p h))))

pub numbers-initial : (k : ℕ) → (again : Again) → ((k : ℕ) → (q : Parser) → (t : Token) → Numbers k q → Numbers k (again q t)) → (c : Token) →
    (p : Parser) → Numbers k p → Numbers k (initial again c p)
numbers-initial k again h-again (Character c) p h = numbers-if-parser k (is_space c) p (initial_other again (Character c) p) h
    (numbers-initial_other k again h-again (Character c) p h)
numbers-initial k again h-again (Comment text) p h = numbers-insert_comment_in_document k text p h
numbers-initial k again h-again (Doctype doctype) p h = numbers-initial_doctype k doctype p h
numbers-initial k again h-again token p h = numbers-initial_other k again h-again token p h

pub numbers-before_html_other : (k : ℕ) → (again : Again) → ((k : ℕ) → (q : Parser) → (t : Token) → Numbers k q → Numbers k (again q t)) →
    (token : Token) → (p : Parser) → Numbers k p → Numbers k (before_html_other again token p)
numbers-before_html_other k again h-again token p h = h-again k ((in_mode BeforeHead (with_root [] p))) token (numbers-in_mode k BeforeHead
    (with_root [] p) (numbers-with_root k [] p h))

pub numbers-before_html_start : (k : ℕ) → (again : Again) → ((k : ℕ) → (q : Parser) → (t : Token) → Numbers k q → Numbers k (again q t)) →
    (other : Kind) → (tag : StartTagOf) → (p : Parser) → Numbers k p → Numbers k (before_html_start again other tag p)
numbers-before_html_start k again h-again HtmlRoot tag p h = numbers-in_mode k BeforeHead (with_root tag.attributes p)
    (numbers-with_root k tag.attributes p h)
numbers-before_html_start k again h-again other tag p h = numbers-before_html_other k again h-again (StartTag tag) p h

pub numbers-before_html : (k : ℕ) → (again : Again) → ((k : ℕ) → (q : Parser) → (t : Token) → Numbers k q → Numbers k (again q t)) →
    (doctype : Token) → (p : Parser) → Numbers k p → Numbers k (before_html again doctype p)
numbers-before_html k again h-again (Doctype doctype) p h = numbers-unexpected k p h
numbers-before_html k again h-again (Comment text) p h = numbers-insert_comment_in_document k text p h
numbers-before_html k again h-again (Character c) p h = numbers-if-parser k (is_space c) p (before_html_other again (Character c) p) h
    (numbers-before_html_other k again h-again (Character c) p h)
numbers-before_html k again h-again (StartTag tag) p h = numbers-before_html_start k again h-again (kind_of tag.name) tag p h
numbers-before_html k again h-again (EndTag name) p h = numbers-if-parser k (ends_early (kind_of name)) (before_html_other again (EndTag name) p)
    (unexpected p) (numbers-before_html_other k again h-again (EndTag name) p h) (numbers-unexpected k p h)
numbers-before_html k again h-again EndOfFile p h = numbers-before_html_other k again h-again EndOfFile p h

pub numbers-start_html : (k : ℕ) → (tag : StartTagOf) → (p : Parser) → Numbers k p → Numbers k (start_html tag p)
numbers-start_html k tag p h = numbers-if-parser k (has_template p) (unexpected p) (add_to_root tag (unexpected p)) (numbers-unexpected k p h)
    (numbers-add_to_root k tag (unexpected p) (numbers-unexpected k p h))

pub numbers-before_head_other : (k : ℕ) → (again : Again) → ((k : ℕ) → (q : Parser) → (t : Token) → Numbers k q → Numbers k (again q t)) →
    (token : Token) → (p : Parser) → Numbers k p → Numbers k (before_head_other again token p)
numbers-before_head_other k again h-again token p h = h-again k ((insert_head (bare_tag (codes "head")) p)) token (numbers-insert_head k ((bare_tag
    (codes "head"))) p h)

pub numbers-before_head_start : (k : ℕ) → (again : Again) → ((k : ℕ) → (q : Parser) → (t : Token) → Numbers k q → Numbers k (again q t)) →
    (other : Kind) → (tag : StartTagOf) → (p : Parser) → Numbers k p → Numbers k (before_head_start again other tag p)
numbers-before_head_start k again h-again HtmlRoot tag p h = numbers-start_html k tag p h
numbers-before_head_start k again h-again Head tag p h = numbers-insert_head k tag p h
numbers-before_head_start k again h-again other tag p h = numbers-before_head_other k again h-again (StartTag tag) p h

pub numbers-before_head : (k : ℕ) → (again : Again) → ((k : ℕ) → (q : Parser) → (t : Token) → Numbers k q → Numbers k (again q t)) → (c : Token) →
    (p : Parser) → Numbers k p → Numbers k (before_head again c p)
numbers-before_head k again h-again (Character c) p h = numbers-if-parser k (is_space c) p (before_head_other again (Character c) p) h
    (numbers-before_head_other k again h-again (Character c) p h)
numbers-before_head k again h-again (Comment text) p h = numbers-insert_comment k text p h
numbers-before_head k again h-again (Doctype doctype) p h = numbers-unexpected k p h
numbers-before_head k again h-again (StartTag tag) p h = numbers-before_head_start k again h-again (kind_of tag.name) tag p h
numbers-before_head k again h-again (EndTag name) p h = numbers-if-parser k (ends_early (kind_of name)) (before_head_other again (EndTag name) p)
    (unexpected p) (numbers-before_head_other k again h-again (EndTag name) p h) (numbers-unexpected k p h)
numbers-before_head k again h-again EndOfFile p h = numbers-before_head_other k again h-again EndOfFile p h

pub numbers-asks_content : (k : ℕ) → (true : Bool) → (content : Option (List ℕ)) → (p : Parser) → Numbers k p → Numbers k
    (asks_content true content p)
numbers-asks_content k true (Some content) p h = numbers-asked k (UseContent content) p h
numbers-asks_content k says content p h = h

pub numbers-asks_encoding : (k : ℕ) → (attributes : List AttributeOf) → (charset : Option (List ℕ)) → (p : Parser) → Numbers k p → Numbers k
    (asks_encoding attributes charset p)
numbers-asks_encoding k attributes (Some charset) p h = numbers-asked k (UseCharset charset) p h
numbers-asks_encoding k attributes None p h = numbers-asks_content k ((is_content_type (value_of (codes "http-equiv") attributes))) ((value_of
    (codes "content") attributes)) p h

pub numbers-start_meta : (k : ℕ) → (tag : StartTagOf) → (p : Parser) → Numbers k p → Numbers k (start_meta tag p)
numbers-start_meta k tag p h = numbers-asks_encoding k tag.attributes ((value_of (codes "charset") tag.attributes)) (insert_void tag p)
    (numbers-insert_void k tag p h)

pub numbers-start_script : (k : ℕ) → (tag : StartTagOf) → (p : Parser) → Numbers k p → Numbers k (start_script tag p)
numbers-start_script k tag p h = let later : Parser = insert tag p in let h-later : Numbers k later = numbers-insert k tag p h in numbers-reads_text k ScriptData (if is_fragment p then mark_current later else later) (numbers-if-parser k (is_fragment p) (mark_current later) later (numbers-mark_current k later h-later) h-later)

pub numbers-start_template : (k : ℕ) → (tag : StartTagOf) → (p : Parser) → Numbers k p → Numbers k (start_template tag p)
numbers-start_template k tag p h = numbers-insert k tag ((record
    (with_marker p) { frameset_ok = false; mode = InTemplate; template_modes = InTemplate ∷ p.template_modes })) (numbers-with_marker k p h)

pub numbers-template_closed : (k : ℕ) → (p : Parser) → Numbers k p → Numbers k (template_closed p)
numbers-template_closed k p h = let popped : Parser = cleared_to_marker (pop_until
    (has_kind is_template) p) in let h-popped : Numbers k popped = numbers-cleared_to_marker k ((pop_until (has_kind is_template) p))
    (numbers-pop_until k (has_kind is_template) p h) in numbers-mode_reset k
    (record popped { template_modes = without_template_mode popped.template_modes }) h-popped

pub numbers-end_template : (k : ℕ) → (p : Parser) → Numbers k p → Numbers k (end_template p)
numbers-end_template k p h = numbers-if-parser k (has_template p) (template_closed (expects_current (has_kind is_template) (all_implied_ended p)))
    (unexpected p) (numbers-template_closed k ((expects_current (has_kind is_template) (all_implied_ended p))) (numbers-expects_current k
    (has_kind is_template) (all_implied_ended p) (numbers-all_implied_ended k p h))) (numbers-unexpected k p h)

pub numbers-start_in_head : (k : ℕ) → (other : Kind) → (tag : StartTagOf) → (p : Parser) → Numbers k p → Numbers k (start_in_head other tag p)
numbers-start_in_head k Meta tag p h = numbers-start_meta k tag p h
numbers-start_in_head k Title tag p h = numbers-insert_with_text k Rcdata tag p h
numbers-start_in_head k Style tag p h = numbers-insert_with_text k Rawtext tag p h
numbers-start_in_head k Noframes tag p h = numbers-insert_with_text k Rawtext tag p h
numbers-start_in_head k Script tag p h = numbers-start_script k tag p h
numbers-start_in_head k Template tag p h = numbers-start_template k tag p h
numbers-start_in_head k other tag p h = numbers-insert_void k tag p h

pub numbers-in_head_other : (k : ℕ) → (again : Again) → ((k : ℕ) → (q : Parser) → (t : Token) → Numbers k q → Numbers k (again q t)) →
    (token : Token) → (p : Parser) → Numbers k p → Numbers k (in_head_other again token p)
numbers-in_head_other k again h-again token p h = h-again k ((in_mode AfterHead (pop p))) token (numbers-in_mode k AfterHead (pop p)
    (numbers-pop k p h))

pub numbers-in_head_noscript_start : (k : ℕ) → (tag : StartTagOf) → (p : Parser) → Numbers k p → Numbers k (in_head_noscript_start tag p)
numbers-in_head_noscript_start k tag p h = numbers-if-parser k (p.options.scripting) (insert_with_text Rawtext tag p) (in_mode InHeadNoscript
    (insert tag p)) (numbers-insert_with_text k Rawtext tag p h) (numbers-in_mode k InHeadNoscript (insert tag p) (numbers-insert k tag p h))

pub numbers-in_head_start : (k : ℕ) → (again : Again) → ((k : ℕ) → (q : Parser) → (t : Token) → Numbers k q → Numbers k (again q t)) →
    (other : Kind) → (tag : StartTagOf) → (p : Parser) → Numbers k p → Numbers k (in_head_start again other tag p)
numbers-in_head_start k again h-again HtmlRoot tag p h = numbers-start_html k tag p h
numbers-in_head_start k again h-again Head tag p h = numbers-unexpected k p h
numbers-in_head_start k again h-again Noscript tag p h = numbers-in_head_noscript_start k tag p h
numbers-in_head_start k again h-again Base tag p h = numbers-start_in_head k Base tag p h
numbers-in_head_start k again h-again Link tag p h = numbers-start_in_head k Link tag p h
numbers-in_head_start k again h-again Meta tag p h = numbers-start_in_head k Meta tag p h
numbers-in_head_start k again h-again Title tag p h = numbers-start_in_head k Title tag p h
numbers-in_head_start k again h-again Style tag p h = numbers-start_in_head k Style tag p h
numbers-in_head_start k again h-again Noframes tag p h = numbers-start_in_head k Noframes tag p h
numbers-in_head_start k again h-again Script tag p h = numbers-start_in_head k Script tag p h
numbers-in_head_start k again h-again Template tag p h = numbers-start_in_head k Template tag p h
numbers-in_head_start k again h-again other tag p h = numbers-in_head_other k again h-again (StartTag tag) p h

pub numbers-in_head_end : (k : ℕ) → (again : Again) → ((k : ℕ) → (q : Parser) → (t : Token) → Numbers k q → Numbers k (again q t)) → (other : Kind)
    → (name : List ℕ) → (p : Parser) → Numbers k p → Numbers k (in_head_end again other name p)
numbers-in_head_end k again h-again Head name p h = numbers-in_mode k AfterHead (pop p) (numbers-pop k p h)
numbers-in_head_end k again h-again Body name p h = numbers-in_head_other k again h-again (EndTag name) p h
numbers-in_head_end k again h-again HtmlRoot name p h = numbers-in_head_other k again h-again (EndTag name) p h
numbers-in_head_end k again h-again LineBreak name p h = numbers-in_head_other k again h-again (EndTag name) p h
numbers-in_head_end k again h-again Template name p h = numbers-end_template k p h
numbers-in_head_end k again h-again other name p h = numbers-unexpected k p h

pub numbers-in_head : (k : ℕ) → (again : Again) → ((k : ℕ) → (q : Parser) → (t : Token) → Numbers k q → Numbers k (again q t)) → (c : Token) →
    (p : Parser) → Numbers k p → Numbers k (in_head again c p)
numbers-in_head k again h-again (Character c) p h = numbers-if-parser k (is_space c) (insert_character c p) (in_head_other again (Character c) p)
    (numbers-insert_character k c p h) (numbers-in_head_other k again h-again (Character c) p h)
numbers-in_head k again h-again (Comment text) p h = numbers-insert_comment k text p h
numbers-in_head k again h-again (Doctype doctype) p h = numbers-unexpected k p h
numbers-in_head k again h-again (StartTag tag) p h = numbers-in_head_start k again h-again (kind_of tag.name) tag p h
numbers-in_head k again h-again (EndTag name) p h = numbers-in_head_end k again h-again (kind_of name) name p h
numbers-in_head k again h-again EndOfFile p h = numbers-in_head_other k again h-again EndOfFile p h

pub numbers-noscript_other : (k : ℕ) → (again : Again) → ((k : ℕ) → (q : Parser) → (t : Token) → Numbers k q → Numbers k (again q t)) →
    (token : Token) → (p : Parser) → Numbers k p → Numbers k (noscript_other again token p)
numbers-noscript_other k again h-again token p h = h-again k ((in_mode InHead (pop (unexpected p)))) token (numbers-in_mode k InHead ((pop
    (unexpected p))) (numbers-pop k (unexpected p) (numbers-unexpected k p h)))

pub numbers-noscript_start : (k : ℕ) → (again : Again) → ((k : ℕ) → (q : Parser) → (t : Token) → Numbers k q → Numbers k (again q t)) →
    (other : Kind) → (tag : StartTagOf) → (p : Parser) → Numbers k p → Numbers k (noscript_start again other tag p)
numbers-noscript_start k again h-again HtmlRoot tag p h = numbers-start_html k tag p h
numbers-noscript_start k again h-again Link tag p h = numbers-start_in_head k Link tag p h
numbers-noscript_start k again h-again Meta tag p h = numbers-start_in_head k Meta tag p h
numbers-noscript_start k again h-again Noframes tag p h = numbers-start_in_head k Noframes tag p h
numbers-noscript_start k again h-again Style tag p h = numbers-start_in_head k Style tag p h
numbers-noscript_start k again h-again Head tag p h = numbers-unexpected k p h
numbers-noscript_start k again h-again Noscript tag p h = numbers-unexpected k p h
numbers-noscript_start k again h-again other tag p h = numbers-noscript_other k again h-again (StartTag tag) p h

pub numbers-noscript_end : (k : ℕ) → (again : Again) → ((k : ℕ) → (q : Parser) → (t : Token) → Numbers k q → Numbers k (again q t)) → (other : Kind)
    → (name : List ℕ) → (p : Parser) → Numbers k p → Numbers k (noscript_end again other name p)
numbers-noscript_end k again h-again Noscript name p h = numbers-in_mode k InHead (pop p) (numbers-pop k p h)
numbers-noscript_end k again h-again LineBreak name p h = numbers-noscript_other k again h-again (EndTag name) p h
numbers-noscript_end k again h-again other name p h = numbers-unexpected k p h

pub numbers-in_head_noscript : (k : ℕ) → (again : Again) → ((k : ℕ) → (q : Parser) → (t : Token) → Numbers k q → Numbers k (again q t)) →
    (doctype : Token) → (p : Parser) → Numbers k p → Numbers k (in_head_noscript again doctype p)
numbers-in_head_noscript k again h-again (Doctype doctype) p h = numbers-unexpected k p h
numbers-in_head_noscript k again h-again (StartTag tag) p h = numbers-noscript_start k again h-again (kind_of tag.name) tag p h
numbers-in_head_noscript k again h-again (EndTag name) p h = numbers-noscript_end k again h-again (kind_of name) name p h
numbers-in_head_noscript k again h-again (Character c) p h = numbers-if-parser k (is_space c) (insert_character c p) (noscript_other again
    (Character c) p) (numbers-insert_character k c p h) (numbers-noscript_other k again h-again (Character c) p h)
numbers-in_head_noscript k again h-again (Comment text) p h = numbers-insert_comment k text p h
numbers-in_head_noscript k again h-again EndOfFile p h = numbers-noscript_other k again h-again EndOfFile p h

pub numbers-insert_body : (k : ℕ) → (tag : StartTagOf) → (p : Parser) → Numbers k p → Numbers k (insert_body tag p)
numbers-insert_body k tag p h = numbers-in_mode k InBody (insert tag p) (numbers-insert k tag p h)

pub numbers-after_head_other : (k : ℕ) → (again : Again) → ((k : ℕ) → (q : Parser) → (t : Token) → Numbers k q → Numbers k (again q t)) →
    (token : Token) → (p : Parser) → Numbers k p → Numbers k (after_head_other again token p)
numbers-after_head_other k again h-again token p h = h-again k ((insert_body (bare_tag (codes "body")) p)) token (numbers-insert_body k ((bare_tag
    (codes "body"))) p h)

pub numbers-start_after_head : (k : ℕ) → (kind : Kind) → (tag : StartTagOf) → (p : Parser) → Numbers k p → Numbers k (start_after_head kind tag p)
numbers-start_after_head k kind tag p h = numbers-within_head k (start_in_head kind tag) (λ k. numbers-start_in_head k kind tag) (unexpected p)
    (numbers-unexpected k p h)

pub numbers-after_head_start : (k : ℕ) → (again : Again) → ((k : ℕ) → (q : Parser) → (t : Token) → Numbers k q → Numbers k (again q t)) →
    (other : Kind) → (tag : StartTagOf) → (p : Parser) → Numbers k p → Numbers k (after_head_start again other tag p)
numbers-after_head_start k again h-again HtmlRoot tag p h = numbers-start_html k tag p h
numbers-after_head_start k again h-again Body tag p h = numbers-not_frameset_ok k (insert_body tag p) (numbers-insert_body k tag p h)
numbers-after_head_start k again h-again Frameset tag p h = numbers-in_mode k InFrameset (insert tag p) (numbers-insert k tag p h)
numbers-after_head_start k again h-again Base tag p h = numbers-start_after_head k Base tag p h
numbers-after_head_start k again h-again Link tag p h = numbers-start_after_head k Link tag p h
numbers-after_head_start k again h-again Meta tag p h = numbers-start_after_head k Meta tag p h
numbers-after_head_start k again h-again Noframes tag p h = numbers-start_after_head k Noframes tag p h
numbers-after_head_start k again h-again Script tag p h = numbers-start_after_head k Script tag p h
numbers-after_head_start k again h-again Style tag p h = numbers-start_after_head k Style tag p h
numbers-after_head_start k again h-again Template tag p h = numbers-start_after_head k Template tag p h
numbers-after_head_start k again h-again Title tag p h = numbers-start_after_head k Title tag p h
numbers-after_head_start k again h-again Head tag p h = numbers-unexpected k p h
numbers-after_head_start k again h-again other tag p h = numbers-after_head_other k again h-again (StartTag tag) p h

pub numbers-after_head_end : (k : ℕ) → (again : Again) → ((k : ℕ) → (q : Parser) → (t : Token) → Numbers k q → Numbers k (again q t)) →
    (other : Kind) → (name : List ℕ) → (p : Parser) → Numbers k p → Numbers k (after_head_end again other name p)
numbers-after_head_end k again h-again Template name p h = numbers-end_template k p h
numbers-after_head_end k again h-again Body name p h = numbers-after_head_other k again h-again (EndTag name) p h
numbers-after_head_end k again h-again HtmlRoot name p h = numbers-after_head_other k again h-again (EndTag name) p h
numbers-after_head_end k again h-again LineBreak name p h = numbers-after_head_other k again h-again (EndTag name) p h
numbers-after_head_end k again h-again other name p h = numbers-unexpected k p h

pub numbers-after_head : (k : ℕ) → (again : Again) → ((k : ℕ) → (q : Parser) → (t : Token) → Numbers k q → Numbers k (again q t)) → (c : Token) →
    (p : Parser) → Numbers k p → Numbers k (after_head again c p)
numbers-after_head k again h-again (Character c) p h = numbers-if-parser k (is_space c) (insert_character c p) (after_head_other again
    (Character c) p) (numbers-insert_character k c p h) (numbers-after_head_other k again h-again (Character c) p h)
numbers-after_head k again h-again (Comment text) p h = numbers-insert_comment k text p h
numbers-after_head k again h-again (Doctype doctype) p h = numbers-unexpected k p h
numbers-after_head k again h-again (StartTag tag) p h = numbers-after_head_start k again h-again (kind_of tag.name) tag p h
numbers-after_head k again h-again (EndTag name) p h = numbers-after_head_end k again h-again (kind_of name) name p h
numbers-after_head k again h-again EndOfFile p h = numbers-after_head_other k again h-again EndOfFile p h

pub numbers-back : (k : ℕ) → (p : Parser) → Numbers k p → Numbers k (back p)
numbers-back k p h = numbers-in_mode k p.original_mode (pop p) (numbers-pop k p h)

pub numbers-text_end : (k : ℕ) → (other : Kind) → (p : Parser) → Numbers k p → Numbers k (text_end other p)
numbers-text_end k Script p h = numbers-asked k ((Run (current_number p.page.opened))) (back p) (numbers-back k p h)
numbers-text_end k other p h = numbers-back k p h

pub numbers-text_end_of_file : (k : ℕ) → (again : Again) → ((k : ℕ) → (q : Parser) → (t : Token) → Numbers k q → Numbers k (again q t)) →
    (p : Parser) → Numbers k p → Numbers k (text_end_of_file again p)
numbers-text_end_of_file k again h-again p h = let noted : Parser = mistaken UnclosedAtEnd p in let h-noted : Numbers k noted = numbers-mistaken k UnclosedAtEnd p h in h-again k ((back (if is_current is_script p then mark_current noted else noted))) EndOfFile (numbers-back k (if is_current is_script p then mark_current noted else noted) (numbers-if-parser k (is_current is_script p) (mark_current noted) noted (numbers-mark_current k noted h-noted) h-noted))

pub numbers-text_mode : (k : ℕ) → (again : Again) → ((k : ℕ) → (q : Parser) → (t : Token) → Numbers k q → Numbers k (again q t)) → (c : Token) →
    (p : Parser) → Numbers k p → Numbers k (text_mode again c p)
numbers-text_mode k again h-again (Character c) p h = numbers-insert_character k c p h
numbers-text_mode k again h-again (EndTag name) p h = numbers-text_end k (kind_of name) p h
numbers-text_mode k again h-again EndOfFile p h = numbers-text_end_of_file k again h-again p h
numbers-text_mode k again h-again other p h = h

pub numbers-character_in_body : (k : ℕ) → (c : ℕ) → (p : Parser) → Numbers k p → Numbers k (character_in_body c p)
numbers-character_in_body k c p h = numbers-if-parser k (is_null c) (unexpected p) (if is_space c then insert_character c
    (reconstructed p) else not_frameset_ok (insert_character c (reconstructed p))) (numbers-unexpected k p h) (numbers-if-parser k (is_space c)
    (insert_character c (reconstructed p)) (not_frameset_ok (insert_character c (reconstructed p))) (numbers-insert_character k c (reconstructed p)
    (numbers-reconstructed k p h)) (numbers-not_frameset_ok k ((insert_character c (reconstructed p))) (numbers-insert_character k c
    (reconstructed p) (numbers-reconstructed k p h))))

pub numbers-start_body : (k : ℕ) → (tag : StartTagOf) → (p : Parser) → Numbers k p → Numbers k (start_body tag p)
numbers-start_body k tag p h = numbers-if-parser k (has_body p && not (has_template p)) (add_to_body tag (not_frameset_ok (unexpected p)))
    (unexpected p) (numbers-add_to_body k tag ((not_frameset_ok (unexpected p))) (numbers-not_frameset_ok k (unexpected p)
    (numbers-unexpected k p h))) (numbers-unexpected k p h)

pub numbers-start_frameset : (k : ℕ) → (tag : StartTagOf) → (p : Parser) → Numbers k p → Numbers k (start_frameset tag p)
numbers-start_frameset k tag p h = numbers-if-parser k (has_body p && p.frameset_ok) (in_mode InFrameset (insert tag (without_body (unexpected p))))
    (unexpected p) (numbers-in_mode k InFrameset ((insert tag (without_body (unexpected p)))) (numbers-insert k tag ((without_body (unexpected p)))
    (numbers-without_body k (unexpected p) (numbers-unexpected k p h)))) (numbers-unexpected k p h)

pub numbers-expects_closed : (k : ℕ) → (p : Parser) → Numbers k p → Numbers k (expects_closed p)
numbers-expects_closed k p h = numbers-if-parser k (has_open (λ e. not (may_stay_open e.kind)) p.page.opened) (mistaken UnclosedElements p) p
    (numbers-mistaken k UnclosedElements p h) h

pub numbers-end_of_file_in_template : (k : ℕ) → (again : Again) → ((k : ℕ) → (q : Parser) → (t : Token) → Numbers k q → Numbers k (again q t)) →
    (p : Parser) → Numbers k p → Numbers k (end_of_file_in_template again p)
numbers-end_of_file_in_template k again h-again p h = numbers-if-parser k (has_template p) (again (template_closed
    (mistaken UnclosedAtEnd p)) EndOfFile) (stop_parsing p) (h-again k ((template_closed (mistaken UnclosedAtEnd p))) EndOfFile
    (numbers-template_closed k (mistaken UnclosedAtEnd p) (numbers-mistaken k UnclosedAtEnd p h))) (numbers-stop_parsing k p h)

pub numbers-end_of_file_by : (k : ℕ) → (again : Again) → ((k : ℕ) → (q : Parser) → (t : Token) → Numbers k q → Numbers k (again q t)) →
    (mode : List Mode) → (p : Parser) → Numbers k p → Numbers k (end_of_file_by again mode p)
numbers-end_of_file_by k again h-again [] p h = numbers-stop_parsing k (expects_closed p) (numbers-expects_closed k p h)
numbers-end_of_file_by k again h-again (mode ∷ modes) p h = numbers-end_of_file_in_template k again h-again p h

pub numbers-end_of_file_in_body : (k : ℕ) → (again : Again) → ((k : ℕ) → (q : Parser) → (t : Token) → Numbers k q → Numbers k (again q t)) →
    (p : Parser) → Numbers k p → Numbers k (end_of_file_in_body again p)
numbers-end_of_file_in_body k again h-again p h = numbers-end_of_file_by k again h-again p.template_modes p h

pub numbers-end_body : (k : ℕ) → (after : (Parser → Parser)) → ((k : ℕ) → (q : Parser) → Numbers k q → Numbers k (after q)) → (p : Parser)
    → Numbers k p → Numbers k (end_body after p)
numbers-end_body k after h-after p h = numbers-if-parser k (in_scope (has_kind is_body) p) (after (in_mode AfterBody (expects_closed p)))
    (unexpected p) (h-after k ((in_mode AfterBody (expects_closed p))) (numbers-in_mode k AfterBody (expects_closed p)
    (numbers-expects_closed k p h))) (numbers-unexpected k p h)

pub numbers-start_block : (k : ℕ) → (tag : StartTagOf) → (p : Parser) → Numbers k p → Numbers k (start_block tag p)
numbers-start_block k tag p h = numbers-insert k tag (without_paragraph p) (numbers-without_paragraph k p h)

pub numbers-without_heading : (k : ℕ) → (p : Parser) → Numbers k p → Numbers k (without_heading p)
numbers-without_heading k p h = numbers-if-parser k (is_current is_heading p) (pop (unexpected p)) p (numbers-pop k (unexpected p)
    (numbers-unexpected k p h)) h

pub numbers-start_preformatted : (k : ℕ) → (tag : StartTagOf) → (p : Parser) → Numbers k p → Numbers k (start_preformatted tag p)
numbers-start_preformatted k tag p h = numbers-start_block k tag p h

pub numbers-without_item_of : (k : ℕ) → (name : Option (List ℕ)) → (p : Parser) → Numbers k p → Numbers k (without_item_of name p)
numbers-without_item_of k None p h = h
numbers-without_item_of k (Some name) p h = numbers-ended_without_implied k (has_name name) p h

pub numbers-start_item : (k : ℕ) → (test : (Open → Bool)) → (tag : StartTagOf) → (p : Parser) → Numbers k p → Numbers k (start_item test tag p)
numbers-start_item k test tag p h = let noted : Parser = not_frameset_ok p in let h-noted : Numbers k noted = numbers-not_frameset_ok k p h in numbers-insert k tag ((without_paragraph (without_item_of (item_met test noted.page.opened) noted))) (numbers-without_paragraph k ((without_item_of (item_met test noted.page.opened) noted)) (numbers-without_item_of k (item_met test noted.page.opened) noted h-noted))

pub numbers-start_plaintext : (k : ℕ) → (tag : StartTagOf) → (p : Parser) → Numbers k p → Numbers k (start_plaintext tag p)
numbers-start_plaintext k tag p h = numbers-asked k ReadPlain (start_block tag p) (numbers-start_block k tag p h)

pub numbers-end_list_item : (k : ℕ) → (p : Parser) → Numbers k p → Numbers k (end_list_item p)
numbers-end_list_item k p h = numbers-if-parser k (has_in_scope ends_list_scope (has_kind is_list_item) p.page.opened) (ended_without_implied
    (has_kind is_list_item) p) (unexpected p) (numbers-ended_without_implied k (has_kind is_list_item) p h) (numbers-unexpected k p h)

pub numbers-end_description : (k : ℕ) → (name : List ℕ) → (p : Parser) → Numbers k p → Numbers k (end_description name p)
numbers-end_description k name p h = numbers-if-parser k (in_scope (has_name name) p) (ended_without_implied (has_name name) p) (unexpected p)
    (numbers-ended_without_implied k (has_name name) p h) (numbers-unexpected k p h)

pub numbers-end_heading : (k : ℕ) → (name : List ℕ) → (p : Parser) → Numbers k p → Numbers k (end_heading name p)
numbers-end_heading k name p h = numbers-if-parser k (in_scope (has_kind is_heading) p) (pop_until (has_kind is_heading) (expects_current
    (has_name name) (implied_ended p))) (unexpected p) (numbers-pop_until k (has_kind is_heading) ((expects_current (has_name name)
    (implied_ended p))) (numbers-expects_current k (has_name name) (implied_ended p) (numbers-implied_ended k p h))) (numbers-unexpected k p h)

pub numbers-end_paragraph : (k : ℕ) → (p : Parser) → Numbers k p → Numbers k (end_paragraph p)
numbers-end_paragraph k p h = numbers-paragraph_closed k ((if in_button_scope (has_kind is_paragraph) p then p else insert (bare_tag (codes "p"))
    (unexpected p))) (numbers-if-parser k (in_button_scope (has_kind is_paragraph) p) p (insert (bare_tag (codes "p")) (unexpected p)) h
    (numbers-insert k ((bare_tag (codes "p"))) (unexpected p) (numbers-unexpected k p h)))

pub numbers-start_form_outside : (k : ℕ) → (n : Option ℕ) → (tag : StartTagOf) → (p : Parser) → Numbers k p → Numbers k (start_form_outside n tag p)
numbers-start_form_outside k None tag p h = numbers-insert_form k tag p h
numbers-start_form_outside k (Some n) tag p h = numbers-unexpected k p h

pub numbers-start_form : (k : ℕ) → (tag : StartTagOf) → (p : Parser) → Numbers k p → Numbers k (start_form tag p)
numbers-start_form k tag p h = numbers-if-parser k (has_template p) (start_block tag p) (start_form_outside p.form tag p)
    (numbers-start_block k tag p h) (numbers-start_form_outside k p.form tag p h)

pub numbers-start_button : (k : ℕ) → (tag : StartTagOf) → (p : Parser) → Numbers k p → Numbers k (start_button tag p)
numbers-start_button k tag p h = let ready : Parser = if in_scope (has_kind is_button) p then pop_until (has_kind is_button) (implied_ended
    (unexpected p)) else p in let h-ready : Numbers k ready = numbers-if-parser k (in_scope (has_kind is_button) p) (pop_until (has_kind is_button)
    (implied_ended (unexpected p))) p (numbers-pop_until k (has_kind is_button) ((implied_ended (unexpected p))) (numbers-implied_ended k
    (unexpected p) (numbers-unexpected k p h))) h in numbers-not_frameset_ok k ((insert tag (reconstructed ready))) (numbers-insert k tag
    (reconstructed ready) (numbers-reconstructed k ready h-ready))

pub numbers-start_marked : (k : ℕ) → (tag : StartTagOf) → (p : Parser) → Numbers k p → Numbers k (start_marked tag p)
numbers-start_marked k tag p h = numbers-not_frameset_ok k ((with_marker (insert tag (reconstructed p)))) (numbers-with_marker k ((insert tag
    (reconstructed p))) (numbers-insert k tag (reconstructed p) (numbers-reconstructed k p h)))

pub numbers-end_marked : (k : ℕ) → (name : List ℕ) → (p : Parser) → Numbers k p → Numbers k (end_marked name p)
numbers-end_marked k name p h = numbers-if-parser k (in_scope (has_name name) p) (cleared_to_marker (ended (has_name name) p)) (unexpected p)
    (numbers-cleared_to_marker k ((ended (has_name name) p)) (numbers-ended k (has_name name) p h)) (numbers-unexpected k p h)

pub numbers-start_table : (k : ℕ) → (tag : StartTagOf) → (p : Parser) → Numbers k p → Numbers k (start_table tag p)
numbers-start_table k tag p h = numbers-in_mode k InTable ((not_frameset_ok (insert tag
    (if is_quirks p.quirks_mode then p else without_paragraph p)))) (numbers-not_frameset_ok k ((insert tag
    (if is_quirks p.quirks_mode then p else without_paragraph p))) (numbers-insert k tag
    (if is_quirks p.quirks_mode then p else without_paragraph p) (numbers-if-parser k (is_quirks p.quirks_mode) p (without_paragraph p) h
    (numbers-without_paragraph k p h))))

pub numbers-start_void : (k : ℕ) → (tag : StartTagOf) → (p : Parser) → Numbers k p → Numbers k (start_void tag p)
numbers-start_void k tag p h = numbers-not_frameset_ok k ((insert_void tag (reconstructed p))) (numbers-insert_void k tag (reconstructed p)
    (numbers-reconstructed k p h))

pub numbers-without_select : (k : ℕ) → (p : Parser) → Numbers k p → Numbers k (without_select p)
numbers-without_select k p h = numbers-if-parser k (in_scope (has_kind is_select) p) (pop_until (has_kind is_select) (unexpected p)) p
    (numbers-pop_until k (has_kind is_select) (unexpected p) (numbers-unexpected k p h)) h

pub numbers-insert_input : (k : ℕ) → (tag : StartTagOf) → (p : Parser) → Numbers k p → Numbers k (insert_input tag p)
numbers-insert_input k tag p h = let later : Parser = insert_void tag (reconstructed p) in let h-later : Numbers k later = numbers-insert_void k tag
    (reconstructed p) (numbers-reconstructed k p h) in numbers-if-parser k (is_hidden tag) later (not_frameset_ok later) h-later
    (numbers-not_frameset_ok k later h-later)

pub numbers-start_input : (k : ℕ) → (tag : StartTagOf) → (p : Parser) → Numbers k p → Numbers k (start_input tag p)
numbers-start_input k tag p h = numbers-if-parser k (is_in_select p.options.context) (unexpected p) (insert_input tag (without_select p))
    (numbers-unexpected k p h) (numbers-insert_input k tag (without_select p) (numbers-without_select k p h))

pub numbers-expects_no_option : (k : ℕ) → (test : (Open → Bool)) → (p : Parser) → Numbers k p → Numbers k (expects_no_option test p)
numbers-expects_no_option k test p h = numbers-if-parser k (in_scope test p) (unexpected p) p (numbers-unexpected k p h) h

pub numbers-start_rule : (k : ℕ) → (tag : StartTagOf) → (p : Parser) → Numbers k p → Numbers k (start_rule tag p)
numbers-start_rule k tag p h = let ready : Parser = without_paragraph p in let h-ready : Numbers k ready = numbers-without_paragraph k p h in numbers-not_frameset_ok k ((insert_void tag (if in_scope (has_kind is_select) ready then expects_no_option is_option_or_group (implied_ended ready) else ready))) (numbers-insert_void k tag ((if in_scope (has_kind is_select) ready then expects_no_option is_option_or_group (implied_ended ready) else ready)) (numbers-if-parser k (in_scope (has_kind is_select) ready) (expects_no_option is_option_or_group (implied_ended ready)) ready (numbers-expects_no_option k is_option_or_group (implied_ended ready) (numbers-implied_ended k ready h-ready)) h-ready))

pub numbers-start_textarea : (k : ℕ) → (tag : StartTagOf) → (p : Parser) → Numbers k p → Numbers k (start_textarea tag p)
numbers-start_textarea k tag p h = numbers-insert_with_text k Rcdata tag p h

pub numbers-start_xmp : (k : ℕ) → (tag : StartTagOf) → (p : Parser) → Numbers k p → Numbers k (start_xmp tag p)
numbers-start_xmp k tag p h = numbers-insert_with_text k Rawtext tag ((not_frameset_ok (reconstructed (without_paragraph p))))
    (numbers-not_frameset_ok k ((reconstructed (without_paragraph p))) (numbers-reconstructed k (without_paragraph p)
    (numbers-without_paragraph k p h)))

pub numbers-start_select : (k : ℕ) → (tag : StartTagOf) → (p : Parser) → Numbers k p → Numbers k (start_select tag p)
numbers-start_select k tag p h = numbers-if-parser k (is_in_select p.options.context) (unexpected p) (if in_scope
    (has_kind is_select) p then pop_until (has_kind is_select) (unexpected p) else not_frameset_ok (insert tag (reconstructed p)))
    (numbers-unexpected k p h) (numbers-if-parser k (in_scope (has_kind is_select) p) (pop_until (has_kind is_select) (unexpected p))
    (not_frameset_ok (insert tag (reconstructed p))) (numbers-pop_until k (has_kind is_select) (unexpected p) (numbers-unexpected k p h))
    (numbers-not_frameset_ok k ((insert tag (reconstructed p))) (numbers-insert k tag (reconstructed p) (numbers-reconstructed k p h))))

pub numbers-without_option : (k : ℕ) → (p : Parser) → Numbers k p → Numbers k (without_option p)
numbers-without_option k p h = numbers-if-parser k (is_current is_select_option p) (pop p) p (numbers-pop k p h) h

pub numbers-start_option : (k : ℕ) → (tag : StartTagOf) → (p : Parser) → Numbers k p → Numbers k (start_option tag p)
numbers-start_option k tag p h = numbers-insert k tag ((reconstructed (if in_scope (has_kind is_select) p then expects_no_option
    (has_kind is_select_option) (implied_ended_but (has_kind is_option_group) p) else without_option p))) (numbers-reconstructed k ((if in_scope
    (has_kind is_select) p then expects_no_option (has_kind is_select_option) (implied_ended_but
    (has_kind is_option_group) p) else without_option p)) (numbers-if-parser k (in_scope (has_kind is_select) p) (expects_no_option
    (has_kind is_select_option) (implied_ended_but (has_kind is_option_group) p)) (without_option p) (numbers-expects_no_option k
    (has_kind is_select_option) ((implied_ended_but (has_kind is_option_group) p)) (numbers-implied_ended_but k (has_kind is_option_group) p h))
    (numbers-without_option k p h)))

pub numbers-start_option_group : (k : ℕ) → (tag : StartTagOf) → (p : Parser) → Numbers k p → Numbers k (start_option_group tag p)
numbers-start_option_group k tag p h = numbers-insert k tag ((reconstructed (if in_scope
    (has_kind is_select) p then expects_no_option is_option_or_group (implied_ended p) else without_option p))) (numbers-reconstructed k
    ((if in_scope (has_kind is_select) p then expects_no_option is_option_or_group (implied_ended p) else without_option p)) (numbers-if-parser k
    (in_scope (has_kind is_select) p) (expects_no_option is_option_or_group (implied_ended p)) (without_option p)
    (numbers-expects_no_option k is_option_or_group (implied_ended p) (numbers-implied_ended k p h)) (numbers-without_option k p h)))

pub numbers-start_ruby_base : (k : ℕ) → (tag : StartTagOf) → (p : Parser) → Numbers k p → Numbers k (start_ruby_base tag p)
numbers-start_ruby_base k tag p h = numbers-insert k tag ((if in_scope (has_kind is_ruby) p then expects_current (has_kind is_ruby)
    (implied_ended p) else p)) (numbers-if-parser k (in_scope (has_kind is_ruby) p) (expects_current (has_kind is_ruby) (implied_ended p)) p
    (numbers-expects_current k (has_kind is_ruby) (implied_ended p) (numbers-implied_ended k p h)) h)

pub numbers-start_ruby_text : (k : ℕ) → (tag : StartTagOf) → (p : Parser) → Numbers k p → Numbers k (start_ruby_text tag p)
numbers-start_ruby_text k tag p h = numbers-insert k tag ((if in_scope (has_kind is_ruby) p then expects_current is_ruby_or_container
    (implied_ended_but (has_kind is_ruby_container) p) else p)) (numbers-if-parser k (in_scope (has_kind is_ruby) p)
    (expects_current is_ruby_or_container (implied_ended_but (has_kind is_ruby_container) p)) p (numbers-expects_current k is_ruby_or_container
    ((implied_ended_but (has_kind is_ruby_container) p)) (numbers-implied_ended_but k (has_kind is_ruby_container) p h)) h)

pub numbers-popped_if_closed : (k : ℕ) → (true : Bool) → (p : Parser) → Numbers k p → Numbers k (popped_if_closed true p)
numbers-popped_if_closed k true p h = numbers-acknowledges k (pop p) (numbers-pop k p h)
numbers-popped_if_closed k false p h = h

pub numbers-start_foreign : (k : ℕ) → (namespace : Namespace) → (tag : StartTagOf) → (p : Parser) → Numbers k p → Numbers k
    (start_foreign namespace tag p)
numbers-start_foreign k namespace tag p h = numbers-popped_if_closed k tag.self_closing ((insert_foreign namespace tag (reconstructed p)))
    (numbers-insert_foreign k namespace tag (reconstructed p) (numbers-reconstructed k p h))

pub numbers-any_other_start_tag : (k : ℕ) → (tag : StartTagOf) → (p : Parser) → Numbers k p → Numbers k (any_other_start_tag tag p)
numbers-any_other_start_tag k tag p h = numbers-insert k tag (reconstructed p) (numbers-reconstructed k p h)

pub numbers-start_noscript : (k : ℕ) → (tag : StartTagOf) → (p : Parser) → Numbers k p → Numbers k (start_noscript tag p)
numbers-start_noscript k tag p h = numbers-if-parser k (p.options.scripting) (insert_with_text Rawtext tag p) (any_other_start_tag tag p)
    (numbers-insert_with_text k Rawtext tag p h) (numbers-any_other_start_tag k tag p h)

pub numbers-start_in_body : (k : ℕ) → (again : Again) → ((k : ℕ) → (q : Parser) → (t : Token) → Numbers k q → Numbers k (again q t)) →
    (other : Kind) → (tag : StartTagOf) → (p : Parser) → Numbers k p → Numbers k (start_in_body again other tag p)
numbers-start_in_body k again h-again HtmlRoot tag p h = numbers-start_html k tag p h
numbers-start_in_body k again h-again Base tag p h = numbers-start_in_head k Base tag p h
numbers-start_in_body k again h-again Link tag p h = numbers-start_in_head k Link tag p h
numbers-start_in_body k again h-again Meta tag p h = numbers-start_in_head k Meta tag p h
numbers-start_in_body k again h-again Noframes tag p h = numbers-start_in_head k Noframes tag p h
numbers-start_in_body k again h-again Script tag p h = numbers-start_in_head k Script tag p h
numbers-start_in_body k again h-again Style tag p h = numbers-start_in_head k Style tag p h
numbers-start_in_body k again h-again Template tag p h = numbers-start_in_head k Template tag p h
numbers-start_in_body k again h-again Title tag p h = numbers-start_in_head k Title tag p h
numbers-start_in_body k again h-again Body tag p h = numbers-start_body k tag p h
numbers-start_in_body k again h-again Frameset tag p h = numbers-start_frameset k tag p h
numbers-start_in_body k again h-again Paragraph tag p h = numbers-start_block k tag p h
numbers-start_in_body k again h-again Address tag p h = numbers-start_block k tag p h
numbers-start_in_body k again h-again Division tag p h = numbers-start_block k tag p h
numbers-start_in_body k again h-again BreakoutBlock tag p h = numbers-start_block k tag p h
numbers-start_in_body k again h-again Block tag p h = numbers-start_block k tag p h
numbers-start_in_body k again h-again Dialog tag p h = numbers-start_block k tag p h
numbers-start_in_body k again h-again Fieldset tag p h = numbers-start_block k tag p h
numbers-start_in_body k again h-again ListBlock tag p h = numbers-start_block k tag p h
numbers-start_in_body k again h-again Heading tag p h = numbers-insert k tag ((without_heading (without_paragraph p))) (numbers-without_heading k
    (without_paragraph p) (numbers-without_paragraph k p h))
numbers-start_in_body k again h-again Preformatted tag p h = numbers-start_preformatted k tag p h
numbers-start_in_body k again h-again Form tag p h = numbers-start_form k tag p h
numbers-start_in_body k again h-again ListItem tag p h = numbers-start_item k (has_kind is_list_item) tag p h
numbers-start_in_body k again h-again Description tag p h = numbers-start_item k (has_kind is_description) tag p h
numbers-start_in_body k again h-again Plaintext tag p h = numbers-start_plaintext k tag p h
numbers-start_in_body k again h-again Button tag p h = numbers-start_button k tag p h
numbers-start_in_body k again h-again Anchor tag p h = numbers-start_anchor k tag p h
numbers-start_in_body k again h-again Formatting tag p h = numbers-start_formatting k tag p h
numbers-start_in_body k again h-again Font tag p h = numbers-start_font k tag p h
numbers-start_in_body k again h-again NoBreak tag p h = numbers-start_no_break k tag p h
numbers-start_in_body k again h-again Applet tag p h = numbers-start_marked k tag p h
numbers-start_in_body k again h-again Object tag p h = numbers-start_marked k tag p h
numbers-start_in_body k again h-again Table tag p h = numbers-start_table k tag p h
numbers-start_in_body k again h-again Void tag p h = numbers-start_void k tag p h
numbers-start_in_body k again h-again LineBreak tag p h = numbers-start_void k tag p h
numbers-start_in_body k again h-again Embed tag p h = numbers-start_void k tag p h
numbers-start_in_body k again h-again Image tag p h = numbers-start_void k tag p h
numbers-start_in_body k again h-again Input tag p h = numbers-start_input k tag p h
numbers-start_in_body k again h-again Parameter tag p h = numbers-insert_void k tag p h
numbers-start_in_body k again h-again Rule tag p h = numbers-start_rule k tag p h
numbers-start_in_body k again h-again MisnamedImage tag p h = h-again k (unexpected p) ((StartTag (record tag { name = codes "img" })))
    (numbers-unexpected k p h)
numbers-start_in_body k again h-again Textarea tag p h = numbers-start_textarea k tag p h
numbers-start_in_body k again h-again Xmp tag p h = numbers-start_xmp k tag p h
numbers-start_in_body k again h-again Iframe tag p h = numbers-insert_with_text k Rawtext tag (not_frameset_ok p) (numbers-not_frameset_ok k p h)
numbers-start_in_body k again h-again Noembed tag p h = numbers-insert_with_text k Rawtext tag p h
numbers-start_in_body k again h-again Noscript tag p h = numbers-start_noscript k tag p h
numbers-start_in_body k again h-again Select tag p h = numbers-start_select k tag p h
numbers-start_in_body k again h-again SelectOption tag p h = numbers-start_option k tag p h
numbers-start_in_body k again h-again OptionGroup tag p h = numbers-start_option_group k tag p h
numbers-start_in_body k again h-again RubyBase tag p h = numbers-start_ruby_base k tag p h
numbers-start_in_body k again h-again RubyContainer tag p h = numbers-start_ruby_base k tag p h
numbers-start_in_body k again h-again RubyText tag p h = numbers-start_ruby_text k tag p h
numbers-start_in_body k again h-again MathRoot tag p h = numbers-start_foreign k MathMl tag p h
numbers-start_in_body k again h-again SvgRoot tag p h = numbers-start_foreign k Svg tag p h
numbers-start_in_body k again h-again Caption tag p h = numbers-unexpected k p h
numbers-start_in_body k again h-again Column tag p h = numbers-unexpected k p h
numbers-start_in_body k again h-again ColumnGroup tag p h = numbers-unexpected k p h
numbers-start_in_body k again h-again Frame tag p h = numbers-unexpected k p h
numbers-start_in_body k again h-again Head tag p h = numbers-unexpected k p h
numbers-start_in_body k again h-again TableBody tag p h = numbers-unexpected k p h
numbers-start_in_body k again h-again Cell tag p h = numbers-unexpected k p h
numbers-start_in_body k again h-again TableRow tag p h = numbers-unexpected k p h
numbers-start_in_body k again h-again other tag p h = numbers-any_other_start_tag k tag p h

pub numbers-end_in_body : (k : ℕ) → (again : Again) → ((k : ℕ) → (q : Parser) → (t : Token) → Numbers k q → Numbers k (again q t)) → (other : Kind)
    → (name : List ℕ) → (p : Parser) → Numbers k p → Numbers k (end_in_body again other name p)
numbers-end_in_body k again h-again Template name p h = numbers-end_template k p h
numbers-end_in_body k again h-again Body name p h = numbers-end_body k (λ later. later) (λ k later h-later. h-later) p h
numbers-end_in_body k again h-again HtmlRoot name p h = numbers-end_body k ((λ later. again later (EndTag name)))
    (λ k later h-later. h-again k later (EndTag name) h-later) p h
numbers-end_in_body k again h-again Address name p h = numbers-end_block k (has_name name) p h
numbers-end_in_body k again h-again Division name p h = numbers-end_block k (has_name name) p h
numbers-end_in_body k again h-again BreakoutBlock name p h = numbers-end_block k (has_name name) p h
numbers-end_in_body k again h-again Block name p h = numbers-end_block k (has_name name) p h
numbers-end_in_body k again h-again Dialog name p h = numbers-end_block k (has_name name) p h
numbers-end_in_body k again h-again Fieldset name p h = numbers-end_block k (has_name name) p h
numbers-end_in_body k again h-again ListBlock name p h = numbers-end_block k (has_name name) p h
numbers-end_in_body k again h-again Preformatted name p h = numbers-end_block k (has_name name) p h
numbers-end_in_body k again h-again Button name p h = numbers-end_block k (has_name name) p h
numbers-end_in_body k again h-again Select name p h = numbers-end_block k (has_name name) p h
numbers-end_in_body k again h-again Form name p h = numbers-end_form k p h
numbers-end_in_body k again h-again Paragraph name p h = numbers-end_paragraph k p h
numbers-end_in_body k again h-again ListItem name p h = numbers-end_list_item k p h
numbers-end_in_body k again h-again Description name p h = numbers-end_description k name p h
numbers-end_in_body k again h-again Heading name p h = numbers-end_heading k name p h
numbers-end_in_body k again h-again Anchor name p h = numbers-adoption_agency k name p h
numbers-end_in_body k again h-again Formatting name p h = numbers-adoption_agency k name p h
numbers-end_in_body k again h-again Font name p h = numbers-adoption_agency k name p h
numbers-end_in_body k again h-again NoBreak name p h = numbers-adoption_agency k name p h
numbers-end_in_body k again h-again Applet name p h = numbers-end_marked k name p h
numbers-end_in_body k again h-again Object name p h = numbers-end_marked k name p h
numbers-end_in_body k again h-again LineBreak name p h = numbers-start_void k ((bare_tag (codes "br"))) (unexpected p) (numbers-unexpected k p h)
numbers-end_in_body k again h-again other name p h = numbers-any_other_end_tag k name p h

pub numbers-in_body : (k : ℕ) → (again : Again) → ((k : ℕ) → (q : Parser) → (t : Token) → Numbers k q → Numbers k (again q t)) → (c : Token) →
    (p : Parser) → Numbers k p → Numbers k (in_body again c p)
numbers-in_body k again h-again (Character c) p h = numbers-character_in_body k c p h
numbers-in_body k again h-again (Comment text) p h = numbers-insert_comment k text p h
numbers-in_body k again h-again (Doctype doctype) p h = numbers-unexpected k p h
numbers-in_body k again h-again (StartTag tag) p h = numbers-start_in_body k again h-again (kind_of tag.name) tag p h
numbers-in_body k again h-again (EndTag name) p h = numbers-end_in_body k again h-again (kind_of name) name p h
numbers-in_body k again h-again EndOfFile p h = numbers-end_of_file_in_body k again h-again p h

pub numbers-fostered : (k : ℕ) → (change : (Parser → Parser)) → ((k : ℕ) → (q : Parser) → Numbers k q → Numbers k (change q)) → (p : Parser)
    → Numbers k p → Numbers k (fostered change p)
numbers-fostered k change h-change p h = h-change k ((record (unexpected p) { fostering = true })) (numbers-unexpected k p h)

pub numbers-table_other : (k : ℕ) → (again : Again) → ((k : ℕ) → (q : Parser) → (t : Token) → Numbers k q → Numbers k (again q t)) → (token : Token)
    → (p : Parser) → Numbers k p → Numbers k (table_other again token p)
numbers-table_other k again h-again token p h = numbers-fostered k (in_body again token) (λ k. numbers-in_body k again h-again token) p h

pub numbers-collects_text : (k : ℕ) → (again : Again) → ((k : ℕ) → (q : Parser) → (t : Token) → Numbers k q → Numbers k (again q t)) →
    (token : Token) → (p : Parser) → Numbers k p → Numbers k (collects_text again token p)
numbers-collects_text k again h-again token p h = h-again k (record p { pending = []; original_mode = p.mode; mode = InTableText }) token h

pub numbers-table_character : (k : ℕ) → (again : Again) → ((k : ℕ) → (q : Parser) → (t : Token) → Numbers k q → Numbers k (again q t)) → (c : ℕ) →
    (p : Parser) → Numbers k p → Numbers k (table_character again c p)
numbers-table_character k again h-again c p h = numbers-if-parser k (is_current takes_table_text p) (collects_text again (Character c) p)
    (table_other again (Character c) p) (numbers-collects_text k again h-again (Character c) p h) (numbers-table_other k again h-again
    (Character c) p h)

pub numbers-to_table : (k : ℕ) → (p : Parser) → Numbers k p → Numbers k (to_table p)
numbers-to_table k p h = numbers-cleared_back_to k ends_table_scope p h

pub numbers-without_table : (k : ℕ) → (p : Parser) → Numbers k p → Numbers k (without_table p)
numbers-without_table k p h = numbers-mode_reset k ((pop_until (has_kind is_table) p)) (numbers-pop_until k (has_kind is_table) p h)

pub numbers-start_form_in_table : (k : ℕ) → (tag : StartTagOf) → (p : Parser) → Numbers k p → Numbers k (start_form_in_table tag p)
numbers-start_form_in_table k tag p h = numbers-if-parser k (has_template p) (unexpected p) (form_in_table p.form tag (unexpected p))
    (numbers-unexpected k p h) (numbers-form_in_table k p.form tag (unexpected p) (numbers-unexpected k p h))

pub numbers-table_start : (k : ℕ) → (again : Again) → ((k : ℕ) → (q : Parser) → (t : Token) → Numbers k q → Numbers k (again q t)) → (other : Kind)
    → (tag : StartTagOf) → (p : Parser) → Numbers k p → Numbers k (table_start again other tag p)
numbers-table_start k again h-again Caption tag p h = numbers-in_mode k InCaption ((insert tag (with_marker (to_table p)))) (numbers-insert k tag
    ((with_marker (to_table p))) (numbers-with_marker k (to_table p) (numbers-to_table k p h)))
numbers-table_start k again h-again ColumnGroup tag p h = numbers-in_mode k InColumnGroup ((insert tag (to_table p))) (numbers-insert k tag
    (to_table p) (numbers-to_table k p h))
numbers-table_start k again h-again Column tag p h = h-again k ((in_mode InColumnGroup (insert (bare_tag (codes "colgroup")) (to_table p))))
    (StartTag tag) (numbers-in_mode k InColumnGroup ((insert (bare_tag (codes "colgroup")) (to_table p))) (numbers-insert k ((bare_tag
    (codes "colgroup"))) (to_table p) (numbers-to_table k p h)))
numbers-table_start k again h-again TableBody tag p h = numbers-in_mode k InTableBody ((insert tag (to_table p))) (numbers-insert k tag (to_table p)
    (numbers-to_table k p h))
numbers-table_start k again h-again TableRow tag p h = h-again k ((in_mode InTableBody (insert (bare_tag (codes "tbody")) (to_table p))))
    (StartTag tag) (numbers-in_mode k InTableBody ((insert (bare_tag (codes "tbody")) (to_table p))) (numbers-insert k ((bare_tag (codes "tbody")))
    (to_table p) (numbers-to_table k p h)))
numbers-table_start k again h-again Cell tag p h = h-again k ((in_mode InTableBody (insert (bare_tag (codes "tbody")) (to_table p)))) (StartTag tag)
    (numbers-in_mode k InTableBody ((insert (bare_tag (codes "tbody")) (to_table p))) (numbers-insert k ((bare_tag (codes "tbody"))) (to_table p)
    (numbers-to_table k p h)))
numbers-table_start k again h-again Table tag p h = numbers-if-parser k (in_table_scope (has_kind is_table) p) (again (without_table (unexpected p))
    (StartTag tag)) (unexpected p) (h-again k ((without_table (unexpected p))) (StartTag tag) (numbers-without_table k (unexpected p)
    (numbers-unexpected k p h))) (numbers-unexpected k p h)
numbers-table_start k again h-again Style tag p h = numbers-start_in_head k Style tag p h
numbers-table_start k again h-again Script tag p h = numbers-start_in_head k Script tag p h
numbers-table_start k again h-again Template tag p h = numbers-start_in_head k Template tag p h
numbers-table_start k again h-again Input tag p h = numbers-if-parser k (is_hidden tag) (insert_void tag (unexpected p)) (table_other again
    (StartTag tag) p) (numbers-insert_void k tag (unexpected p) (numbers-unexpected k p h)) (numbers-table_other k again h-again (StartTag tag) p h)
numbers-table_start k again h-again Form tag p h = numbers-start_form_in_table k tag p h
numbers-table_start k again h-again other tag p h = numbers-table_other k again h-again (StartTag tag) p h

pub numbers-table_end : (k : ℕ) → (again : Again) → ((k : ℕ) → (q : Parser) → (t : Token) → Numbers k q → Numbers k (again q t)) → (kind : Kind) →
    (name : List ℕ) → (p : Parser) → Numbers k p → Numbers k (table_end again kind name p)
numbers-table_end k again h-again Table name p h = numbers-if-parser k (in_table_scope (has_kind is_table) p) (without_table p) (unexpected p)
    (numbers-without_table k p h) (numbers-unexpected k p h)
numbers-table_end k again h-again Template name p h = numbers-end_template k p h
numbers-table_end k again h-again kind name p h = numbers-if-parser k (is_ignored_in_table kind) (unexpected p) (table_other again (EndTag name) p)
    (numbers-unexpected k p h) (numbers-table_other k again h-again (EndTag name) p h)

pub numbers-in_table : (k : ℕ) → (again : Again) → ((k : ℕ) → (q : Parser) → (t : Token) → Numbers k q → Numbers k (again q t)) → (c : Token) →
    (p : Parser) → Numbers k p → Numbers k (in_table again c p)
numbers-in_table k again h-again (Character c) p h = numbers-table_character k again h-again c p h
numbers-in_table k again h-again (Comment text) p h = numbers-insert_comment k text p h
numbers-in_table k again h-again (Doctype doctype) p h = numbers-unexpected k p h
numbers-in_table k again h-again (StartTag tag) p h = numbers-table_start k again h-again (kind_of tag.name) tag p h
numbers-in_table k again h-again (EndTag name) p h = numbers-table_end k again h-again (kind_of name) name p h
numbers-in_table k again h-again EndOfFile p h = numbers-end_of_file_in_body k again h-again p h

pub numbers-flushed_fostered : (k : ℕ) → (c : List ℕ) → (p : Parser) → Numbers k p → Numbers k (flushed_fostered c p)
unfolding flushed_fostered
numbers-flushed_fostered k [] p h = h
numbers-flushed_fostered k (c ∷ text) p h = numbers-flushed_fostered k text ((fostered (character_in_body c) p)) (numbers-fostered k
    (character_in_body c) (λ k. numbers-character_in_body k c) p h)

pub numbers-flushed_as_space : (k : ℕ) → (c : List ℕ) → (p : Parser) → Numbers k p → Numbers k (flushed_as_space c p)
unfolding flushed_as_space
numbers-flushed_as_space k [] p h = h
numbers-flushed_as_space k (c ∷ text) p h = numbers-flushed_as_space k text (insert_character c p) (numbers-insert_character k c p h)

pub numbers-flushed : (k : ℕ) → (p : Parser) → Numbers k p → Numbers k (flushed p)
numbers-flushed k p h = numbers-if-parser k (is_all_space p.pending) (flushed_as_space p.pending p) (flushed_fostered p.pending p)
    (numbers-flushed_as_space k p.pending p h) (numbers-flushed_fostered k p.pending p h)

pub numbers-table_text_other : (k : ℕ) → (again : Again) → ((k : ℕ) → (q : Parser) → (t : Token) → Numbers k q → Numbers k (again q t)) →
    (token : Token) → (p : Parser) → Numbers k p → Numbers k (table_text_other again token p)
numbers-table_text_other k again h-again token p h = h-again k ((record (flushed p) { pending = []; mode = p.original_mode })) token
    (numbers-flushed k p h)

pub numbers-in_table_text : (k : ℕ) → (again : Again) → ((k : ℕ) → (q : Parser) → (t : Token) → Numbers k q → Numbers k (again q t)) → (c : Token) →
    (p : Parser) → Numbers k p → Numbers k (in_table_text again c p)
numbers-in_table_text k again h-again (Character c) p h = numbers-if-parser k (is_null c) (unexpected p)
    (record p { pending = p.pending ++ c ∷ [] }) (numbers-unexpected k p h) h
numbers-in_table_text k again h-again token p h = numbers-table_text_other k again h-again token p h

pub numbers-without_caption : (k : ℕ) → (after : (Parser → Parser)) → ((k : ℕ) → (q : Parser) → Numbers k q → Numbers k (after q)) → (p : Parser)
    → Numbers k p → Numbers k (without_caption after p)
numbers-without_caption k after h-after p h = numbers-if-parser k (in_table_scope (has_kind is_caption) p) (after (in_mode InTable
    (cleared_to_marker (ended (has_kind is_caption) p)))) (unexpected p) (h-after k ((in_mode InTable (cleared_to_marker (ended
    (has_kind is_caption) p)))) (numbers-in_mode k InTable ((cleared_to_marker (ended (has_kind is_caption) p))) (numbers-cleared_to_marker k
    ((ended (has_kind is_caption) p)) (numbers-ended k (has_kind is_caption) p h)))) (numbers-unexpected k p h)

pub numbers-caption_end : (k : ℕ) → (again : Again) → ((k : ℕ) → (q : Parser) → (t : Token) → Numbers k q → Numbers k (again q t)) → (kind : Kind) →
    (name : List ℕ) → (p : Parser) → Numbers k p → Numbers k (caption_end again kind name p)
numbers-caption_end k again h-again Caption name p h = numbers-without_caption k (λ later. later) (λ k later h-later. h-later) p h
numbers-caption_end k again h-again Table name p h = numbers-without_caption k ((λ later. again later (EndTag name)))
    (λ k later h-later. h-again k later (EndTag name) h-later) p h
numbers-caption_end k again h-again kind name p h = numbers-if-parser k (is_ignored_in_table kind) (unexpected p) (in_body again (EndTag name) p)
    (numbers-unexpected k p h) (numbers-in_body k again h-again (EndTag name) p h)

pub numbers-in_caption : (k : ℕ) → (again : Again) → ((k : ℕ) → (q : Parser) → (t : Token) → Numbers k q → Numbers k (again q t)) → (tag : Token) →
    (p : Parser) → Numbers k p → Numbers k (in_caption again tag p)
numbers-in_caption k again h-again (StartTag tag) p h = numbers-if-parser k (is_part (kind_of tag.name)) (without_caption (λ later. again later
    (StartTag tag)) p) (in_body again (StartTag tag) p) (numbers-without_caption k ((λ later. again later (StartTag tag)))
    (λ k later h-later. h-again k later (StartTag tag) h-later) p h) (numbers-in_body k again h-again (StartTag tag) p h)
numbers-in_caption k again h-again (EndTag name) p h = numbers-caption_end k again h-again (kind_of name) name p h
numbers-in_caption k again h-again token p h = numbers-in_body k again h-again token p h

pub numbers-without_column_group : (k : ℕ) → (after : (Parser → Parser)) → ((k : ℕ) → (q : Parser) → Numbers k q → Numbers k (after q)) →
    (p : Parser) → Numbers k p → Numbers k (without_column_group after p)
numbers-without_column_group k after h-after p h = numbers-if-parser k (is_current is_column_group p) (after (in_mode InTable (pop p)))
    (unexpected p) (h-after k ((in_mode InTable (pop p))) (numbers-in_mode k InTable (pop p) (numbers-pop k p h))) (numbers-unexpected k p h)

pub numbers-column_group_other : (k : ℕ) → (again : Again) → ((k : ℕ) → (q : Parser) → (t : Token) → Numbers k q → Numbers k (again q t)) →
    (token : Token) → (p : Parser) → Numbers k p → Numbers k (column_group_other again token p)
numbers-column_group_other k again h-again token p h = numbers-without_column_group k (λ later. again later token)
    (λ k later h-later. h-again k later token h-later) p h

pub numbers-column_group_start : (k : ℕ) → (again : Again) → ((k : ℕ) → (q : Parser) → (t : Token) → Numbers k q → Numbers k (again q t)) →
    (other : Kind) → (tag : StartTagOf) → (p : Parser) → Numbers k p → Numbers k (column_group_start again other tag p)
numbers-column_group_start k again h-again HtmlRoot tag p h = numbers-start_html k tag p h
numbers-column_group_start k again h-again Column tag p h = numbers-insert_void k tag p h
numbers-column_group_start k again h-again Template tag p h = numbers-start_in_head k Template tag p h
numbers-column_group_start k again h-again other tag p h = numbers-column_group_other k again h-again (StartTag tag) p h

pub numbers-column_group_end : (k : ℕ) → (again : Again) → ((k : ℕ) → (q : Parser) → (t : Token) → Numbers k q → Numbers k (again q t)) →
    (other : Kind) → (name : List ℕ) → (p : Parser) → Numbers k p → Numbers k (column_group_end again other name p)
numbers-column_group_end k again h-again ColumnGroup name p h = numbers-without_column_group k (λ later. later) (λ k later h-later. h-later) p h
numbers-column_group_end k again h-again Column name p h = numbers-unexpected k p h
numbers-column_group_end k again h-again Template name p h = numbers-end_template k p h
numbers-column_group_end k again h-again other name p h = numbers-column_group_other k again h-again (EndTag name) p h

pub numbers-in_column_group : (k : ℕ) → (again : Again) → ((k : ℕ) → (q : Parser) → (t : Token) → Numbers k q → Numbers k (again q t)) → (c : Token)
    → (p : Parser) → Numbers k p → Numbers k (in_column_group again c p)
numbers-in_column_group k again h-again (Character c) p h = numbers-if-parser k (is_space c) (insert_character c p) (column_group_other again
    (Character c) p) (numbers-insert_character k c p h) (numbers-column_group_other k again h-again (Character c) p h)
numbers-in_column_group k again h-again (Comment text) p h = numbers-insert_comment k text p h
numbers-in_column_group k again h-again (Doctype doctype) p h = numbers-unexpected k p h
numbers-in_column_group k again h-again (StartTag tag) p h = numbers-column_group_start k again h-again (kind_of tag.name) tag p h
numbers-in_column_group k again h-again (EndTag name) p h = numbers-column_group_end k again h-again (kind_of name) name p h
numbers-in_column_group k again h-again EndOfFile p h = numbers-end_of_file_in_body k again h-again p h

pub numbers-to_body : (k : ℕ) → (p : Parser) → Numbers k p → Numbers k (to_body p)
numbers-to_body k p h = numbers-cleared_back_to k is_body_context p h

pub numbers-without_table_body : (k : ℕ) → (scoped : Bool) → (after : (Parser → Parser)) → ((k : ℕ) → (q : Parser) → Numbers k q → Numbers k
    (after q)) → (p : Parser) → Numbers k p → Numbers k (without_table_body scoped after p)
numbers-without_table_body k scoped after h-after p h = numbers-if-parser k (scoped) (after (in_mode InTable (pop (to_body p)))) (unexpected p)
    (h-after k ((in_mode InTable (pop (to_body p)))) (numbers-in_mode k InTable ((pop (to_body p))) (numbers-pop k (to_body p)
    (numbers-to_body k p h)))) (numbers-unexpected k p h)

pub numbers-without_any_body : (k : ℕ) → (after : (Parser → Parser)) → ((k : ℕ) → (q : Parser) → Numbers k q → Numbers k (after q)) → (p : Parser)
    → Numbers k p → Numbers k (without_any_body after p)
numbers-without_any_body k after h-after p h = numbers-without_table_body k ((in_table_scope (has_kind is_table_body) p)) after h-after p h

pub numbers-table_body_start : (k : ℕ) → (again : Again) → ((k : ℕ) → (q : Parser) → (t : Token) → Numbers k q → Numbers k (again q t)) →
    (kind : Kind) → (tag : StartTagOf) → (p : Parser) → Numbers k p → Numbers k (table_body_start again kind tag p)
numbers-table_body_start k again h-again TableRow tag p h = numbers-in_mode k InRow ((insert tag (to_body p))) (numbers-insert k tag (to_body p)
    (numbers-to_body k p h))
numbers-table_body_start k again h-again Cell tag p h = h-again k ((in_mode InRow (insert (bare_tag (codes "tr")) (to_body (unexpected p)))))
    (StartTag tag) (numbers-in_mode k InRow ((insert (bare_tag (codes "tr")) (to_body (unexpected p)))) (numbers-insert k ((bare_tag (codes "tr")))
    ((to_body (unexpected p))) (numbers-to_body k (unexpected p) (numbers-unexpected k p h))))
numbers-table_body_start k again h-again kind tag p h = numbers-if-parser k (is_part kind) (without_any_body (λ later. again later
    (StartTag tag)) p) (table_start again kind tag p) (numbers-without_any_body k ((λ later. again later (StartTag tag)))
    (λ k later h-later. h-again k later (StartTag tag) h-later) p h) (numbers-table_start k again h-again kind tag p h)

pub numbers-table_body_end : (k : ℕ) → (again : Again) → ((k : ℕ) → (q : Parser) → (t : Token) → Numbers k q → Numbers k (again q t)) →
    (kind : Kind) → (name : List ℕ) → (p : Parser) → Numbers k p → Numbers k (table_body_end again kind name p)
numbers-table_body_end k again h-again TableBody name p h = numbers-without_table_body k ((in_table_scope (has_name name) p)) (λ later. later)
    (λ k later h-later. h-later) p h
numbers-table_body_end k again h-again Table name p h = numbers-without_any_body k ((λ later. again later (EndTag name)))
    (λ k later h-later. h-again k later (EndTag name) h-later) p h
numbers-table_body_end k again h-again kind name p h = numbers-table_end k again h-again kind name p h

pub numbers-in_table_body : (k : ℕ) → (again : Again) → ((k : ℕ) → (q : Parser) → (t : Token) → Numbers k q → Numbers k (again q t)) → (tag : Token)
    → (p : Parser) → Numbers k p → Numbers k (in_table_body again tag p)
numbers-in_table_body k again h-again (StartTag tag) p h = numbers-table_body_start k again h-again (kind_of tag.name) tag p h
numbers-in_table_body k again h-again (EndTag name) p h = numbers-table_body_end k again h-again (kind_of name) name p h
numbers-in_table_body k again h-again token p h = numbers-in_table k again h-again token p h

pub numbers-to_row : (k : ℕ) → (p : Parser) → Numbers k p → Numbers k (to_row p)
numbers-to_row k p h = numbers-cleared_back_to k is_row_context p h

pub numbers-without_row : (k : ℕ) → (after : (Parser → Parser)) → ((k : ℕ) → (q : Parser) → Numbers k q → Numbers k (after q)) → (p : Parser)
    → Numbers k p → Numbers k (without_row after p)
numbers-without_row k after h-after p h = numbers-if-parser k (in_table_scope (has_kind is_table_row) p) (after (in_mode InTableBody (pop
    (to_row p)))) (unexpected p) (h-after k ((in_mode InTableBody (pop (to_row p)))) (numbers-in_mode k InTableBody ((pop (to_row p)))
    (numbers-pop k (to_row p) (numbers-to_row k p h)))) (numbers-unexpected k p h)

pub numbers-row_start : (k : ℕ) → (again : Again) → ((k : ℕ) → (q : Parser) → (t : Token) → Numbers k q → Numbers k (again q t)) → (kind : Kind) →
    (tag : StartTagOf) → (p : Parser) → Numbers k p → Numbers k (row_start again kind tag p)
numbers-row_start k again h-again Cell tag p h = numbers-with_marker k ((in_mode InCell (insert tag (to_row p)))) (numbers-in_mode k InCell
    ((insert tag (to_row p))) (numbers-insert k tag (to_row p) (numbers-to_row k p h)))
numbers-row_start k again h-again kind tag p h = numbers-if-parser k (is_part kind) (without_row (λ later. again later (StartTag tag)) p)
    (table_start again kind tag p) (numbers-without_row k ((λ later. again later (StartTag tag))) (λ k later h-later. h-again k later
    (StartTag tag) h-later) p h) (numbers-table_start k again h-again kind tag p h)

pub numbers-row_end_of_body : (k : ℕ) → (again : Again) → ((k : ℕ) → (q : Parser) → (t : Token) → Numbers k q → Numbers k (again q t)) →
    (name : List ℕ) → (p : Parser) → Numbers k p → Numbers k (row_end_of_body again name p)
numbers-row_end_of_body k again h-again name p h = numbers-if-parser k (in_table_scope (has_name name) p) ((if in_table_scope
    (has_kind is_table_row) p then without_row (λ later. again later (EndTag name)) p else p)) (unexpected p) (numbers-if-parser k (in_table_scope
    (has_kind is_table_row) p) (without_row (λ later. again later (EndTag name)) p) p (numbers-without_row k ((λ later. again later (EndTag name)))
    (λ k later h-later. h-again k later (EndTag name) h-later) p h) h) (numbers-unexpected k p h)

pub numbers-row_end : (k : ℕ) → (again : Again) → ((k : ℕ) → (q : Parser) → (t : Token) → Numbers k q → Numbers k (again q t)) → (kind : Kind) →
    (name : List ℕ) → (p : Parser) → Numbers k p → Numbers k (row_end again kind name p)
numbers-row_end k again h-again TableRow name p h = numbers-without_row k (λ later. later) (λ k later h-later. h-later) p h
numbers-row_end k again h-again Table name p h = numbers-without_row k ((λ later. again later (EndTag name))) (λ k later h-later. h-again k later
    (EndTag name) h-later) p h
numbers-row_end k again h-again TableBody name p h = numbers-row_end_of_body k again h-again name p h
numbers-row_end k again h-again kind name p h = numbers-table_end k again h-again kind name p h

pub numbers-in_row : (k : ℕ) → (again : Again) → ((k : ℕ) → (q : Parser) → (t : Token) → Numbers k q → Numbers k (again q t)) → (tag : Token) →
    (p : Parser) → Numbers k p → Numbers k (in_row again tag p)
numbers-in_row k again h-again (StartTag tag) p h = numbers-row_start k again h-again (kind_of tag.name) tag p h
numbers-in_row k again h-again (EndTag name) p h = numbers-row_end k again h-again (kind_of name) name p h
numbers-in_row k again h-again token p h = numbers-in_table k again h-again token p h

pub numbers-cell_closed : (k : ℕ) → (p : Parser) → Numbers k p → Numbers k (cell_closed p)
numbers-cell_closed k p h = numbers-in_mode k InRow ((cleared_to_marker (ended (has_kind is_cell) p))) (numbers-cleared_to_marker k ((ended
    (has_kind is_cell) p)) (numbers-ended k (has_kind is_cell) p h))

pub numbers-end_cell : (k : ℕ) → (name : List ℕ) → (p : Parser) → Numbers k p → Numbers k (end_cell name p)
numbers-end_cell k name p h = numbers-if-parser k (in_table_scope (has_name name) p) (in_mode InRow (cleared_to_marker (ended (has_name name) p)))
    (unexpected p) (numbers-in_mode k InRow ((cleared_to_marker (ended (has_name name) p))) (numbers-cleared_to_marker k ((ended (has_name name) p))
    (numbers-ended k (has_name name) p h))) (numbers-unexpected k p h)

pub numbers-end_around_cell : (k : ℕ) → (again : Again) → ((k : ℕ) → (q : Parser) → (t : Token) → Numbers k q → Numbers k (again q t)) →
    (name : List ℕ) → (p : Parser) → Numbers k p → Numbers k (end_around_cell again name p)
numbers-end_around_cell k again h-again name p h = numbers-if-parser k (in_table_scope (has_name name) p) (again (cell_closed p) (EndTag name))
    (unexpected p) (h-again k (cell_closed p) (EndTag name) (numbers-cell_closed k p h)) (numbers-unexpected k p h)

pub numbers-cell_end : (k : ℕ) → (again : Again) → ((k : ℕ) → (q : Parser) → (t : Token) → Numbers k q → Numbers k (again q t)) → (kind : Kind) →
    (name : List ℕ) → (p : Parser) → Numbers k p → Numbers k (cell_end again kind name p)
numbers-cell_end k again h-again Cell name p h = numbers-end_cell k name p h
numbers-cell_end k again h-again Body name p h = numbers-unexpected k p h
numbers-cell_end k again h-again Caption name p h = numbers-unexpected k p h
numbers-cell_end k again h-again Column name p h = numbers-unexpected k p h
numbers-cell_end k again h-again ColumnGroup name p h = numbers-unexpected k p h
numbers-cell_end k again h-again HtmlRoot name p h = numbers-unexpected k p h
numbers-cell_end k again h-again Table name p h = numbers-end_around_cell k again h-again name p h
numbers-cell_end k again h-again TableBody name p h = numbers-end_around_cell k again h-again name p h
numbers-cell_end k again h-again TableRow name p h = numbers-end_around_cell k again h-again name p h
numbers-cell_end k again h-again kind name p h = numbers-in_body k again h-again (EndTag name) p h

pub numbers-in_cell : (k : ℕ) → (again : Again) → ((k : ℕ) → (q : Parser) → (t : Token) → Numbers k q → Numbers k (again q t)) → (tag : Token) →
    (p : Parser) → Numbers k p → Numbers k (in_cell again tag p)
numbers-in_cell k again h-again (StartTag tag) p h = numbers-if-parser k (is_part (kind_of tag.name)) (again (cell_closed p) (StartTag tag))
    (in_body again (StartTag tag) p) (h-again k (cell_closed p) (StartTag tag) (numbers-cell_closed k p h)) (numbers-in_body k again h-again
    (StartTag tag) p h)
numbers-in_cell k again h-again (EndTag name) p h = numbers-cell_end k again h-again (kind_of name) name p h
numbers-in_cell k again h-again token p h = numbers-in_body k again h-again token p h

pub numbers-in_template_mode : (k : ℕ) → (again : Again) → ((k : ℕ) → (q : Parser) → (t : Token) → Numbers k q → Numbers k (again q t)) →
    (mode : Mode) → (tag : StartTagOf) → (p : Parser) → Numbers k p → Numbers k (in_template_mode again mode tag p)
numbers-in_template_mode k again h-again mode tag p h = h-again k
    (record p { template_modes = mode ∷ without_template_mode p.template_modes; mode = mode }) (StartTag tag) h

pub numbers-template_start : (k : ℕ) → (again : Again) → ((k : ℕ) → (q : Parser) → (t : Token) → Numbers k q → Numbers k (again q t)) →
    (other : Kind) → (tag : StartTagOf) → (p : Parser) → Numbers k p → Numbers k (template_start again other tag p)
numbers-template_start k again h-again Base tag p h = numbers-start_in_head k Base tag p h
numbers-template_start k again h-again Link tag p h = numbers-start_in_head k Link tag p h
numbers-template_start k again h-again Meta tag p h = numbers-start_in_head k Meta tag p h
numbers-template_start k again h-again Noframes tag p h = numbers-start_in_head k Noframes tag p h
numbers-template_start k again h-again Script tag p h = numbers-start_in_head k Script tag p h
numbers-template_start k again h-again Style tag p h = numbers-start_in_head k Style tag p h
numbers-template_start k again h-again Template tag p h = numbers-start_in_head k Template tag p h
numbers-template_start k again h-again Title tag p h = numbers-start_in_head k Title tag p h
numbers-template_start k again h-again Caption tag p h = numbers-in_template_mode k again h-again InTable tag p h
numbers-template_start k again h-again ColumnGroup tag p h = numbers-in_template_mode k again h-again InTable tag p h
numbers-template_start k again h-again TableBody tag p h = numbers-in_template_mode k again h-again InTable tag p h
numbers-template_start k again h-again Column tag p h = numbers-in_template_mode k again h-again InColumnGroup tag p h
numbers-template_start k again h-again TableRow tag p h = numbers-in_template_mode k again h-again InTableBody tag p h
numbers-template_start k again h-again Cell tag p h = numbers-in_template_mode k again h-again InRow tag p h
numbers-template_start k again h-again other tag p h = numbers-in_template_mode k again h-again InBody tag p h

pub numbers-template_end : (k : ℕ) → (other : Kind) → (p : Parser) → Numbers k p → Numbers k (template_end other p)
numbers-template_end k Template p h = numbers-end_template k p h
numbers-template_end k other p h = numbers-unexpected k p h

pub numbers-in_template : (k : ℕ) → (again : Again) → ((k : ℕ) → (q : Parser) → (t : Token) → Numbers k q → Numbers k (again q t)) → (tag : Token) →
    (p : Parser) → Numbers k p → Numbers k (in_template again tag p)
numbers-in_template k again h-again (StartTag tag) p h = numbers-template_start k again h-again (kind_of tag.name) tag p h
numbers-in_template k again h-again (EndTag name) p h = numbers-template_end k (kind_of name) p h
numbers-in_template k again h-again EndOfFile p h = numbers-end_of_file_in_template k again h-again p h
numbers-in_template k again h-again token p h = numbers-in_body k again h-again token p h

pub numbers-in_body_again : (k : ℕ) → (again : Again) → ((k : ℕ) → (q : Parser) → (t : Token) → Numbers k q → Numbers k (again q t)) →
    (token : Token) → (p : Parser) → Numbers k p → Numbers k (in_body_again again token p)
numbers-in_body_again k again h-again token p h = h-again k ((in_mode InBody (unexpected p))) token (numbers-in_mode k InBody (unexpected p)
    (numbers-unexpected k p h))

pub numbers-after_body_start : (k : ℕ) → (again : Again) → ((k : ℕ) → (q : Parser) → (t : Token) → Numbers k q → Numbers k (again q t)) →
    (other : Kind) → (tag : StartTagOf) → (p : Parser) → Numbers k p → Numbers k (after_body_start again other tag p)
numbers-after_body_start k again h-again HtmlRoot tag p h = numbers-start_html k tag p h
numbers-after_body_start k again h-again other tag p h = numbers-in_body_again k again h-again (StartTag tag) p h

pub numbers-after_body_end : (k : ℕ) → (again : Again) → ((k : ℕ) → (q : Parser) → (t : Token) → Numbers k q → Numbers k (again q t)) →
    (other : Kind) → (name : List ℕ) → (p : Parser) → Numbers k p → Numbers k (after_body_end again other name p)
numbers-after_body_end k again h-again HtmlRoot name p h = numbers-if-parser k (is_fragment p) (unexpected p) (in_mode AfterAfterBody p)
    (numbers-unexpected k p h) (numbers-in_mode k AfterAfterBody p h)
numbers-after_body_end k again h-again other name p h = numbers-in_body_again k again h-again (EndTag name) p h

pub numbers-after_body : (k : ℕ) → (again : Again) → ((k : ℕ) → (q : Parser) → (t : Token) → Numbers k q → Numbers k (again q t)) → (c : Token) →
    (p : Parser) → Numbers k p → Numbers k (after_body again c p)
numbers-after_body k again h-again (Character c) p h = numbers-if-parser k (is_space c) (character_in_body c p) (in_body_again again
    (Character c) p) (numbers-character_in_body k c p h) (numbers-in_body_again k again h-again (Character c) p h)
numbers-after_body k again h-again (Comment text) p h = numbers-insert_comment_in_root k text p h
numbers-after_body k again h-again (Doctype doctype) p h = numbers-unexpected k p h
numbers-after_body k again h-again (StartTag tag) p h = numbers-after_body_start k again h-again (kind_of tag.name) tag p h
numbers-after_body k again h-again (EndTag name) p h = numbers-after_body_end k again h-again (kind_of name) name p h
numbers-after_body k again h-again EndOfFile p h = numbers-stop_parsing k p h

pub numbers-frameset_start : (k : ℕ) → (other : Kind) → (tag : StartTagOf) → (p : Parser) → Numbers k p → Numbers k (frameset_start other tag p)
numbers-frameset_start k HtmlRoot tag p h = numbers-start_html k tag p h
numbers-frameset_start k Frameset tag p h = numbers-insert k tag p h
numbers-frameset_start k Frame tag p h = numbers-insert_void k tag p h
numbers-frameset_start k Noframes tag p h = numbers-start_in_head k Noframes tag p h
numbers-frameset_start k other tag p h = numbers-unexpected k p h

pub numbers-frameset_closed : (k : ℕ) → (p : Parser) → Numbers k p → Numbers k (frameset_closed p)
numbers-frameset_closed k p h = let later : Parser = pop p in let h-later : Numbers k later = numbers-pop k p h in numbers-if-parser k
    (is_fragment p) later (if is_current is_frameset later then later else in_mode AfterFrameset later) h-later (numbers-if-parser k
    (is_current is_frameset later) later (in_mode AfterFrameset later) h-later (numbers-in_mode k AfterFrameset later h-later))

pub numbers-frameset_end : (k : ℕ) → (other : Kind) → (p : Parser) → Numbers k p → Numbers k (frameset_end other p)
numbers-frameset_end k Frameset p h = numbers-if-parser k (has_only_root p.page.opened) (unexpected p) (frameset_closed p)
    (numbers-unexpected k p h) (numbers-frameset_closed k p h)
numbers-frameset_end k other p h = numbers-unexpected k p h

pub numbers-in_frameset : (k : ℕ) → (c : Token) → (p : Parser) → Numbers k p → Numbers k (in_frameset c p)
numbers-in_frameset k (Character c) p h = numbers-if-parser k (is_space c) (insert_character c p) (unexpected p) (numbers-insert_character k c p h)
    (numbers-unexpected k p h)
numbers-in_frameset k (Comment text) p h = numbers-insert_comment k text p h
numbers-in_frameset k (Doctype doctype) p h = numbers-unexpected k p h
numbers-in_frameset k (StartTag tag) p h = numbers-frameset_start k (kind_of tag.name) tag p h
numbers-in_frameset k (EndTag name) p h = numbers-frameset_end k (kind_of name) p h
numbers-in_frameset k EndOfFile p h = numbers-stop_parsing k (if has_only_root p.page.opened then p else mistaken UnclosedAtEnd p)
    (numbers-if-parser k (has_only_root p.page.opened) p (mistaken UnclosedAtEnd p) h (numbers-mistaken k UnclosedAtEnd p h))

pub numbers-after_frameset_start : (k : ℕ) → (other : Kind) → (tag : StartTagOf) → (p : Parser) → Numbers k p → Numbers k
    (after_frameset_start other tag p)
numbers-after_frameset_start k HtmlRoot tag p h = numbers-start_html k tag p h
numbers-after_frameset_start k Noframes tag p h = numbers-start_in_head k Noframes tag p h
numbers-after_frameset_start k other tag p h = numbers-unexpected k p h

pub numbers-after_frameset_end : (k : ℕ) → (other : Kind) → (p : Parser) → Numbers k p → Numbers k (after_frameset_end other p)
numbers-after_frameset_end k HtmlRoot p h = numbers-in_mode k AfterAfterFrameset p h
numbers-after_frameset_end k other p h = numbers-unexpected k p h

pub numbers-after_frameset : (k : ℕ) → (c : Token) → (p : Parser) → Numbers k p → Numbers k (after_frameset c p)
numbers-after_frameset k (Character c) p h = numbers-if-parser k (is_space c) (insert_character c p) (unexpected p)
    (numbers-insert_character k c p h) (numbers-unexpected k p h)
numbers-after_frameset k (Comment text) p h = numbers-insert_comment k text p h
numbers-after_frameset k (Doctype doctype) p h = numbers-unexpected k p h
numbers-after_frameset k (StartTag tag) p h = numbers-after_frameset_start k (kind_of tag.name) tag p h
numbers-after_frameset k (EndTag name) p h = numbers-after_frameset_end k (kind_of name) p h
numbers-after_frameset k EndOfFile p h = numbers-stop_parsing k p h

pub numbers-after_after_body : (k : ℕ) → (again : Again) → ((k : ℕ) → (q : Parser) → (t : Token) → Numbers k q → Numbers k (again q t)) →
    (text : Token) → (p : Parser) → Numbers k p → Numbers k (after_after_body again text p)
numbers-after_after_body k again h-again (Comment text) p h = numbers-insert_comment_in_document k text p h
numbers-after_after_body k again h-again (Doctype doctype) p h = numbers-unexpected k p h
numbers-after_after_body k again h-again (Character c) p h = numbers-if-parser k (is_space c) (character_in_body c p) (in_body_again again
    (Character c) p) (numbers-character_in_body k c p h) (numbers-in_body_again k again h-again (Character c) p h)
numbers-after_after_body k again h-again (StartTag tag) p h = numbers-after_body_start k again h-again (kind_of tag.name) tag p h
numbers-after_after_body k again h-again (EndTag name) p h = numbers-in_body_again k again h-again (EndTag name) p h
numbers-after_after_body k again h-again EndOfFile p h = numbers-stop_parsing k p h

pub numbers-after_after_frameset : (k : ℕ) → (text : Token) → (p : Parser) → Numbers k p → Numbers k (after_after_frameset text p)
numbers-after_after_frameset k (Comment text) p h = numbers-insert_comment_in_document k text p h
numbers-after_after_frameset k (Doctype doctype) p h = numbers-unexpected k p h
numbers-after_after_frameset k (Character c) p h = numbers-if-parser k (is_space c) (character_in_body c p) (unexpected p)
    (numbers-character_in_body k c p h) (numbers-unexpected k p h)
numbers-after_after_frameset k (StartTag tag) p h = numbers-after_frameset_start k (kind_of tag.name) tag p h
numbers-after_after_frameset k (EndTag name) p h = numbers-unexpected k p h
numbers-after_after_frameset k EndOfFile p h = numbers-stop_parsing k p h

pub numbers-foreign_character : (k : ℕ) → (c : ℕ) → (p : Parser) → Numbers k p → Numbers k (foreign_character c p)
numbers-foreign_character k c p h = numbers-if-parser k (is_null c) (insert_text replacement (unexpected p))
    (if is_space c then insert_character c p else not_frameset_ok (insert_character c p)) (numbers-insert_text k replacement (unexpected p)
    (numbers-unexpected k p h)) (numbers-if-parser k (is_space c) (insert_character c p) (not_frameset_ok (insert_character c p))
    (numbers-insert_character k c p h) (numbers-not_frameset_ok k (insert_character c p) (numbers-insert_character k c p h)))

pub numbers-broken_out : (k : ℕ) → (in_html : InHtml) → ((k : ℕ) → (t : Token) → (q : Parser) → Numbers k q → Numbers k (in_html t q)) →
    (token : Token) → (p : Parser) → Numbers k p → Numbers k (broken_out in_html token p)
numbers-broken_out k in_html h-in_html token p h = h-in_html k token ((pop_while stays_foreign (unexpected p))) (numbers-pop_while k stays_foreign
    (unexpected p) (numbers-unexpected k p h))

pub numbers-run_script : (k : ℕ) → (p : Parser) → Numbers k p → Numbers k (run_script p)
numbers-run_script k p h = numbers-asked k ((Run (current_number p.page.opened))) (pop p) (numbers-pop k p h)

pub numbers-closed_at_once : (k : ℕ) → (false : Bool) → (p : Parser) → Numbers k p → Numbers k (closed_at_once false p)
numbers-closed_at_once k false p h = h
numbers-closed_at_once k true p h = numbers-if-parser k (is_current is_svg_script p) (run_script (acknowledges p)) (popped_if_closed true p)
    (numbers-run_script k (acknowledges p) (numbers-acknowledges k p h)) (numbers-popped_if_closed k true p h)

pub numbers-foreign_start : (k : ℕ) → (tag : StartTagOf) → (p : Parser) → Numbers k p → Numbers k (foreign_start tag p)
numbers-foreign_start k tag p h = numbers-closed_at_once k tag.self_closing ((insert_foreign (namespace_of
    (adjusted_kind p.options.context p.page.opened)) tag p)) (numbers-insert_foreign k ((namespace_of
    (adjusted_kind p.options.context p.page.opened))) tag p h)

pub numbers-foreign_end : (k : ℕ) → (in_html : InHtml) → ((k : ℕ) → (t : Token) → (q : Parser) → Numbers k q → Numbers k (in_html t q)) →
    (name : List ℕ) → (e : List Open) → (p : Parser) → Numbers k p → Numbers k (foreign_end in_html name e p)
unfolding foreign_end
numbers-foreign_end k in_html h-in_html name [] p h = h
numbers-foreign_end k in_html h-in_html name (e ∷ []) p h = h
numbers-foreign_end k in_html h-in_html name (e ∷ outer ∷ es) p h = numbers-if-parser k (has_lower_case name e) (pop_until (has_number e.node) p)
    (if is_html outer.kind then in_html (EndTag name) p else foreign_end in_html name (outer ∷ es) p) (numbers-pop_until k (has_number e.node) p h)
    (numbers-if-parser k (is_html outer.kind) (in_html (EndTag name) p) (foreign_end in_html name (outer ∷ es) p) (h-in_html k (EndTag name) p h)
    (numbers-foreign_end k in_html h-in_html name (outer ∷ es) p h))

pub numbers-expects_name : (k : ℕ) → (name : List ℕ) → (e : List Open) → (p : Parser) → Numbers k p → Numbers k (expects_name name e p)
numbers-expects_name k name [] p h = h
numbers-expects_name k name (e ∷ es) p h = numbers-if-parser k (has_lower_case name e) p (unexpected p) h (numbers-unexpected k p h)

pub numbers-any_other_foreign_end : (k : ℕ) → (in_html : InHtml) → ((k : ℕ) → (t : Token) → (q : Parser) → Numbers k q → Numbers k (in_html t q)) →
    (name : List ℕ) → (p : Parser) → Numbers k p → Numbers k (any_other_foreign_end in_html name p)
numbers-any_other_foreign_end k in_html h-in_html name p h = numbers-foreign_end k in_html h-in_html name p.page.opened
    (expects_name name p.page.opened p) (numbers-expects_name k name p.page.opened p h)

pub numbers-foreign_end_by_kind : (k : ℕ) → (in_html : InHtml) → ((k : ℕ) → (t : Token) → (q : Parser) → Numbers k q → Numbers k (in_html t q)) →
    (other : Kind) → (name : List ℕ) → (p : Parser) → Numbers k p → Numbers k (foreign_end_by_kind in_html other name p)
numbers-foreign_end_by_kind k in_html h-in_html LineBreak name p h = numbers-broken_out k in_html h-in_html (EndTag name) p h
numbers-foreign_end_by_kind k in_html h-in_html Paragraph name p h = numbers-broken_out k in_html h-in_html (EndTag name) p h
numbers-foreign_end_by_kind k in_html h-in_html Script name p h = numbers-if-parser k (is_current is_svg_script p) (run_script p)
    (any_other_foreign_end in_html name p) (numbers-run_script k p h) (numbers-any_other_foreign_end k in_html h-in_html name p h)
numbers-foreign_end_by_kind k in_html h-in_html other name p h = numbers-any_other_foreign_end k in_html h-in_html name p h

pub numbers-in_foreign_content : (k : ℕ) → (in_html : InHtml) → ((k : ℕ) → (t : Token) → (q : Parser) → Numbers k q → Numbers k (in_html t q)) →
    (c : Token) → (p : Parser) → Numbers k p → Numbers k (in_foreign_content in_html c p)
numbers-in_foreign_content k in_html h-in_html (Character c) p h = numbers-foreign_character k c p h
numbers-in_foreign_content k in_html h-in_html (Comment text) p h = numbers-insert_comment k text p h
numbers-in_foreign_content k in_html h-in_html (Doctype doctype) p h = numbers-unexpected k p h
numbers-in_foreign_content k in_html h-in_html (StartTag tag) p h = numbers-if-parser k (is_breakout (kind_of tag.name) tag) (broken_out in_html
    (StartTag tag) p) (foreign_start tag p) (numbers-broken_out k in_html h-in_html (StartTag tag) p h) (numbers-foreign_start k tag p h)
numbers-in_foreign_content k in_html h-in_html (EndTag name) p h = numbers-foreign_end_by_kind k in_html h-in_html (kind_of name) name p h
numbers-in_foreign_content k in_html h-in_html EndOfFile p h = h

pub numbers-in_html_content : (k : ℕ) → (again : Again) → ((k : ℕ) → (q : Parser) → (t : Token) → Numbers k q → Numbers k (again q t)) → (x1 : Mode)
    → (token : Token) → (p : Parser) → Numbers k p → Numbers k (in_html_content again x1 token p)
numbers-in_html_content k again h-again Initial token p h = numbers-initial k again h-again token p h
numbers-in_html_content k again h-again BeforeHtml token p h = numbers-before_html k again h-again token p h
numbers-in_html_content k again h-again BeforeHead token p h = numbers-before_head k again h-again token p h
numbers-in_html_content k again h-again InHead token p h = numbers-in_head k again h-again token p h
numbers-in_html_content k again h-again InHeadNoscript token p h = numbers-in_head_noscript k again h-again token p h
numbers-in_html_content k again h-again AfterHead token p h = numbers-after_head k again h-again token p h
numbers-in_html_content k again h-again InBody token p h = numbers-in_body k again h-again token p h
numbers-in_html_content k again h-again Text token p h = numbers-text_mode k again h-again token p h
numbers-in_html_content k again h-again InTable token p h = numbers-in_table k again h-again token p h
numbers-in_html_content k again h-again InTableText token p h = numbers-in_table_text k again h-again token p h
numbers-in_html_content k again h-again InCaption token p h = numbers-in_caption k again h-again token p h
numbers-in_html_content k again h-again InColumnGroup token p h = numbers-in_column_group k again h-again token p h
numbers-in_html_content k again h-again InTableBody token p h = numbers-in_table_body k again h-again token p h
numbers-in_html_content k again h-again InRow token p h = numbers-in_row k again h-again token p h
numbers-in_html_content k again h-again InCell token p h = numbers-in_cell k again h-again token p h
numbers-in_html_content k again h-again InTemplate token p h = numbers-in_template k again h-again token p h
numbers-in_html_content k again h-again AfterBody token p h = numbers-after_body k again h-again token p h
numbers-in_html_content k again h-again InFrameset token p h = numbers-in_frameset k token p h
numbers-in_html_content k again h-again AfterFrameset token p h = numbers-after_frameset k token p h
numbers-in_html_content k again h-again AfterAfterBody token p h = numbers-after_after_body k again h-again token p h
numbers-in_html_content k again h-again AfterAfterFrameset token p h = numbers-after_after_frameset k token p h

pub numbers-in_current_mode : (k : ℕ) → (again : Again) → ((k : ℕ) → (q : Parser) → (t : Token) → Numbers k q → Numbers k (again q t)) →
    (token : Token) → (p : Parser) → Numbers k p → Numbers k (in_current_mode again token p)
numbers-in_current_mode k again h-again token p h = numbers-in_html_content k again h-again p.mode token p h

pub numbers-dispatched : (k : ℕ) → (again : Again) → ((k : ℕ) → (q : Parser) → (t : Token) → Numbers k q → Numbers k (again q t)) → (token : Token)
    → (p : Parser) → Numbers k p → Numbers k (dispatched again token p)
numbers-dispatched k again h-again token p h = numbers-if-parser k (takes_as_html (adjusted_kind p.options.context p.page.opened) token)
    (in_current_mode again token p) (in_foreign_content (in_current_mode again) token p) (numbers-in_current_mode k again h-again token p h)
    (numbers-in_foreign_content k (in_current_mode again) (λ k. numbers-in_current_mode k again h-again) token p h)

pub numbers-process : (k : ℕ) → (zero : ℕ) → (token : Token) → (p : Parser) → Numbers k p → Numbers k (process zero token p)
unfolding process
numbers-process k zero token p h = h
numbers-process k (suc times) token p h = numbers-dispatched k (λ later again. process times again later)
    (λ k later again h-later. numbers-process k times again later h-later) token p h

pub numbers-expects_acknowledged : (k : ℕ) → (token : Token) → (p : Parser) → Numbers k p → Numbers k (expects_acknowledged token p)
numbers-expects_acknowledged k token p h = numbers-if-parser k (is_self_closing token && not p.acknowledged) (mistaken TrailingSolidus p) p
    (numbers-mistaken k TrailingSolidus p h) h

pub numbers-taken : (k : ℕ) → (token : Token) → (p : Parser) → Numbers k p → Numbers k (taken token p)
numbers-taken k token p h = let fresh : Parser = record p { ignores_newline = false; request = GoOn; acknowledged = false } in let h-fresh : Numbers k fresh = h in numbers-if-parser k (is_ignored_newline p.ignores_newline token) fresh (expects_acknowledged token (process (enough p) token fresh)) h-fresh (numbers-expects_acknowledged k token ((process (enough p) token fresh)) (numbers-process k (enough p) token fresh h-fresh))

pub numbers-step : (k : ℕ) → (token : Token) → (p : Parser) → Numbers k p → Numbers k (step token p)
unfolding step
numbers-step k token p h = numbers-taken k token p h

pub numbers-run : (k : ℕ) → (token : List Token) → (p : Parser) → Numbers k p → Numbers k (run token p)
unfolding run
numbers-run k [] p h = h
numbers-run k (token ∷ tokens) p h = numbers-run k tokens (step token p) (numbers-step k token p h)

pub numbers-told : (k : ℕ) → (message : Told) → (p : Parser) → Numbers k p → Numbers k (told message p)
numbers-told k message p h = numbers-run k (tokens_of message) p h

pub numbers-told_all : (k : ℕ) → (message : List Told) → (p : Parser) → Numbers k p → Numbers k (told_all message p)
unfolding told_all
numbers-told_all k [] p h = h
numbers-told_all k (message ∷ messages) p h = numbers-told_all k messages (told message p) (numbers-told k message p h)
