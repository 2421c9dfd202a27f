-- Each step of tree construction only adds edits. By `python3 tools/gen/parser_laws.py`, and not by hand; the steps that it rests on are in Growing.
use Rattle.std.proofs.Common.{ℕ, Bool, true, false, List, [], ◌∷◌, ◌++◌}
use Rattle.std.specs.Prelude.{suc, zero, ◌&&◌, not, Option, Some, None, codes, if◌then◌else◌}
use Rattle.tree_laws.specs.Laws.{Extends}
use Rattle.html5ever_interface.specs.Token.{DoctypeOf, Told}
use Rattle.html5ever_interface.specs.declared.states.RawKind.{RawKind}
use Rattle.html5ever_interface.specs.declared.states.RawKind.TheVariants.{Rawtext, Rcdata, ScriptData}
use Rattle.markup5ever.specs.Names.{AttributeOf}
use Rattle.tree_construction.specs.Adjusting.{adjusted_tag_name}
use Rattle.tree_construction.specs.Adoption.{adopted, adopted_by, adoption_agency, any_other_end_tag, end_of, ended_by, furthest_block, is_unlisted, opened_inside, outer_loop, turn, unformatted}
use Rattle.tree_construction.specs.AfterBody.{after_after_body, after_after_frameset, after_body, after_body_end, after_body_start, after_frameset, after_frameset_end, after_frameset_start, frameset_closed, frameset_end, frameset_start, has_only_root, in_body_again, in_frameset, in_template, in_template_mode, template_end, template_start}
use Rattle.tree_construction.specs.BeforeBody.{add_to_root, after_head, after_head_end, after_head_other, after_head_start, asks_content, asks_encoding, back, before_head, before_head_other, before_head_start, before_html, before_html_other, before_html_start, current_number, end_template, ends_early, in_head, in_head_end, in_head_noscript, in_head_noscript_start, in_head_other, in_head_start, initial, initial_doctype, initial_other, insert_body, insert_head, is_content_type, mark_current, noscript_end, noscript_other, noscript_start, or_empty, put_doctype, set_quirks_mode, start_after_head, start_html, start_in_head, start_meta, start_script, start_template, template_closed, text_end, text_end_of_file, text_mode, with_root, within_head, within_head_of, without_template_mode}
use Rattle.tree_construction.specs.Construction.{dispatched, enough, expects_acknowledged, fragment_modes, in_current_mode, in_html_content, is_ignored_newline, is_self_closing, process, run, start_by, start_fragment, step, taken, takes_as_html, told, told_all}
use Rattle.tree_construction.specs.Doctypes.{is_allowed, quirks_mode_of}
use Rattle.tree_construction.specs.ForeignContent.{InHtml, any_other_foreign_end, broken_out, closed_at_once, expects_name, foreign_character, foreign_end, foreign_end_by_kind, foreign_start, has_lower_case, in_foreign_content, is_breakout, replacement, run_script, stays_foreign}
use Rattle.tree_construction.specs.Formatting.{Listed, cleared_to_marker, insert_formatting, last_named, reconstructed, reopened, reopened_one, still_listed, to_reopen, with_marker, without_entry}
use Rattle.tree_construction.specs.InBody.{add_to_body, added_to_body, any_other_start_tag, character_in_body, depth_extra, end_block, end_body, end_description, end_form, end_form_of, end_heading, end_in_body, end_list_item, end_marked, end_of_file_by, end_of_file_in_body, end_of_file_in_template, end_paragraph, expects_closed, expects_no_option, has_body, in_body, insert_foreign, insert_form, insert_input, is_hidden, is_in_select, is_option_or_group, is_quirks, is_ruby_or_container, item_met, popped_if_closed, removed_body, removed_if_open, start_anchor, start_block, start_body, start_button, start_font, start_foreign, start_form, start_form_outside, start_formatting, start_frameset, start_in_body, start_input, start_item, start_marked, start_no_break, start_noscript, start_option, start_option_group, start_plaintext, start_preformatted, start_ruby_base, start_ruby_text, start_rule, start_select, start_table, start_textarea, start_void, start_xmp, without_anchor, without_body, without_heading, without_item_of, without_no_break, without_option, without_select}
use Rattle.tree_construction.specs.Names.{ends_list_scope, ends_table_scope, is_body, is_body_context, is_button, is_caption, is_cell, is_column_group, is_description, is_form, is_frameset, is_heading, is_html, is_implied, is_implied_thoroughly, is_list_item, is_no_break, is_option_group, is_paragraph, is_row_context, is_ruby, is_ruby_container, is_script, is_select, is_select_option, is_svg_script, is_table, is_table_body, is_table_row, is_template, kind_in_namespace, kind_of, may_stay_open, namespace_of, takes_table_text}
use Rattle.tree_construction.specs.Page.{Edit, Open, Page, Place, comment_put, current_passes, edited, first_open, has_in_scope, has_kind, has_name, has_number, has_open, left, made, popped, popped_of, popped_to_first, popped_to_first_in, popped_until, popped_until_in, popped_while, popped_while_in, pushed, removed_from_stack, second_body, with_opened}
use Rattle.tree_construction.specs.Page.Edit.{AddAttributes, AssociateForm, MarkStarted, ParseError, Put, PutDoctype, PutText, Remove, SetQuirksMode}
use Rattle.tree_construction.specs.Page.Place.{LastChild}
use Rattle.tree_construction.specs.Parser.{Again, Context, Parser, Request, acknowledges, adjusted_kind, all_implied_ended, asked, associated_with, cleared_back_to, ended, ended_without_implied, expects_current, has_template, implied_ended, implied_ended_but, in_button_scope, in_mode, in_scope, in_table_scope, insert, insert_character, insert_comment, insert_comment_in_document, insert_comment_in_root, insert_text, insert_void, insert_with_text, inserted, inserted_at, is_current, is_fragment, mistaken, not_frameset_ok, on_page, opened, paragraph_closed, place_in, place_of, pop, pop_until, pop_while, reads_text, stop_parsing, takes_form, unexpected, without_paragraph}
use Rattle.tree_construction.specs.Parser.Request.{GoOn, ReadPlain, ReadRaw, Run, UseCharset, UseContent}
use Rattle.tree_construction.specs.Resetting.{mode_of, mode_reset}
use Rattle.tree_construction.specs.Tables.{caption_end, cell_closed, cell_end, collects_text, column_group_end, column_group_other, column_group_start, end_around_cell, end_cell, flushed, flushed_as_space, flushed_fostered, form_in_table, fostered, in_caption, in_cell, in_column_group, in_row, in_table, in_table_body, in_table_text, is_all_space, is_ignored_in_table, is_part, row_end, row_end_of_body, row_start, start_form_in_table, table_body_end, table_body_start, table_character, table_end, table_other, table_start, table_text_other, to_body, to_row, to_table, without_any_body, without_caption, without_column_group, without_row, without_table, without_table_body}
use Rattle.tree_construction.specs.Tokens.{StartTagOf, Token, bare_tag, is_null, is_space, tokens_of, value_of}
use Rattle.tree_construction.specs.Tokens.Token.{Character, Comment, Doctype, EndOfFile, EndTag, StartTag}
use Rattle.tree_construction.specs.declared.kinds.Kind.{Kind}
use Rattle.tree_construction.specs.declared.kinds.Kind.TheVariants.{Address, Anchor, Applet, Base, Block, Body, BreakoutBlock, Button, Caption, Cell, Column, ColumnGroup, Description, Dialog, Division, Embed, Fieldset, Font, Form, Formatting, Frame, Frameset, Head, Heading, HtmlRoot, Iframe, Image, Input, LineBreak, Link, ListBlock, ListItem, MathRoot, Meta, MisnamedImage, NoBreak, Noembed, Noframes, Noscript, Object, OptionGroup, Paragraph, Parameter, Plaintext, Preformatted, RubyBase, RubyContainer, RubyText, Rule, Script, Select, SelectOption, Style, SvgRoot, Table, TableBody, TableRow, Template, Textarea, Title, Void, Xmp}
use Rattle.tree_construction.specs.declared.kinds.Namespace.{Namespace}
use Rattle.tree_construction.specs.declared.kinds.Namespace.TheVariants.{MathMl, Svg}
use Rattle.tree_construction.specs.declared.mistakes.Mistake.{Mistake}
use Rattle.tree_construction.specs.declared.mistakes.Mistake.TheVariants.{BadDoctype, FormattingNotInScope, FormattingNotOpen, MissingDoctype, TrailingSolidus, UnclosedAtEnd, UnclosedElements, UnexpectedToken}
use Rattle.tree_construction.specs.declared.modes.Mode.{Mode}
use Rattle.tree_construction.specs.declared.modes.Mode.TheVariants.{AfterAfterBody, AfterAfterFrameset, AfterBody, AfterFrameset, AfterHead, BeforeHead, BeforeHtml, InBody, InCaption, InCell, InColumnGroup, InFrameset, InHead, InHeadNoscript, InRow, InTable, InTableBody, InTableText, InTemplate, Initial, Text}
use Rattle.tree_construction.specs.declared.modes.QuirksMode.{QuirksMode}
use Rattle.tree_construction.specs.declared.modes.QuirksMode.TheVariants.{Quirks}
use Rattle.tree_laws.proofs.Growing.{grows-adopted, grows-comment_put, grows-edited, grows-if-page, grows-if-parser, grows-left, grows-made, grows-on_page, grows-removed_from_stack}

pub grows-with_opened : (first : List Edit) → (opened : List Open) → (page : Page) → Extends first page.edits → Extends first
    (with_opened opened page).edits
grows-with_opened first opened page h = h

pub grows-popped_of : (first : List Edit) → (e : List Open) → (page : Page) → Extends first page.edits → Extends first (popped_of e page).edits
grows-popped_of first [] page h = h
grows-popped_of first (e ∷ es) page h = grows-left first e es page h

pub grows-popped : (first : List Edit) → (page : Page) → Extends first page.edits → Extends first (popped page).edits
grows-popped first page h = grows-popped_of first page.opened page h

pub grows-popped_until_in : (first : List Edit) → (test : (Open → Bool)) → (e : List Open) → (page : Page) → Extends first page.edits
    → Extends first (popped_until_in test e page).edits
unfolding popped_until_in
grows-popped_until_in first test [] page h = h
grows-popped_until_in first test (e ∷ es) page h = grows-if-page first (test e) (left e es page) (popped_until_in test es (left e es page))
    (grows-left first e es page h) (grows-popped_until_in first test es (left e es page) (grows-left first e es page h))

pub grows-popped_until : (first : List Edit) → (test : (Open → Bool)) → (page : Page) → Extends first page.edits → Extends first
    (popped_until test page).edits
grows-popped_until first test page h = grows-popped_until_in first test page.opened page h

pub grows-popped_while_in : (first : List Edit) → (test : (Open → Bool)) → (e : List Open) → (page : Page) → Extends first page.edits
    → Extends first (popped_while_in test e page).edits
unfolding popped_while_in
grows-popped_while_in first test [] page h = h
grows-popped_while_in first test (e ∷ es) page h = grows-if-page first (test e) (popped_while_in test es (left e es page)) page
    (grows-popped_while_in first test es (left e es page) (grows-left first e es page h)) h

pub grows-popped_while : (first : List Edit) → (test : (Open → Bool)) → (page : Page) → Extends first page.edits → Extends first
    (popped_while test page).edits
grows-popped_while first test page h = grows-popped_while_in first test page.opened page h

pub grows-popped_to_first_in : (first : List Edit) → (e : List Open) → (page : Page) → Extends first page.edits → Extends first
    (popped_to_first_in e page).edits
unfolding popped_to_first_in
grows-popped_to_first_in first [] page h = h
grows-popped_to_first_in first (e ∷ []) page h = h
grows-popped_to_first_in first (e ∷ es) page h = grows-popped_to_first_in first es (left e es page) (grows-left first e es page h)

pub grows-popped_to_first : (first : List Edit) → (page : Page) → Extends first page.edits → Extends first (popped_to_first page).edits
grows-popped_to_first first page h = grows-popped_to_first_in first page.opened page h

pub grows-pushed : (first : List Edit) → (kind : Kind) → (name : List ℕ) → (n : ℕ) → (page : Page) → Extends first page.edits → Extends first
    (pushed kind name n page).edits
grows-pushed first kind name n page h = h

pub grows-in_mode : (first : List Edit) → (mode : Mode) → (p : Parser) → Extends first p.page.edits → Extends first (in_mode mode p).page.edits
grows-in_mode first mode p h = h

pub grows-not_frameset_ok : (first : List Edit) → (p : Parser) → Extends first p.page.edits → Extends first (not_frameset_ok p).page.edits
grows-not_frameset_ok first p h = h

pub grows-mistaken : (first : List Edit) → (mistake : Mistake) → (p : Parser) → Extends first p.page.edits → Extends first
    (mistaken mistake p).page.edits
grows-mistaken first mistake p h = grows-on_page first ((edited (ParseError mistake))) (λ first. grows-edited first (ParseError mistake)) p h

pub grows-unexpected : (first : List Edit) → (p : Parser) → Extends first p.page.edits → Extends first (unexpected p).page.edits
grows-unexpected first p h = grows-mistaken first UnexpectedToken p h

pub grows-asked : (first : List Edit) → (request : Request) → (p : Parser) → Extends first p.page.edits → Extends first (asked request p).page.edits
grows-asked first request p h = h

pub grows-acknowledges : (first : List Edit) → (p : Parser) → Extends first p.page.edits → Extends first (acknowledges p).page.edits
grows-acknowledges first p h = h

pub grows-pop : (first : List Edit) → (p : Parser) → Extends first p.page.edits → Extends first (pop p).page.edits
grows-pop first p h = grows-on_page first popped (λ first. grows-popped first) p h

pub grows-pop_until : (first : List Edit) → (test : (Open → Bool)) → (p : Parser) → Extends first p.page.edits → Extends first
    (pop_until test p).page.edits
grows-pop_until first test p h = grows-on_page first (popped_until test) (λ first. grows-popped_until first test) p h

pub grows-pop_while : (first : List Edit) → (test : (Open → Bool)) → (p : Parser) → Extends first p.page.edits → Extends first
    (pop_while test p).page.edits
grows-pop_while first test p h = grows-on_page first (popped_while test) (λ first. grows-popped_while first test) p h

pub grows-cleared_back_to : (first : List Edit) → (context : (Kind → Bool)) → (p : Parser) → Extends first p.page.edits → Extends first
    (cleared_back_to context p).page.edits
grows-cleared_back_to first context p h = grows-pop_while first ((λ e. not (context e.kind))) p h

pub grows-expects_current : (first : List Edit) → (test : (Open → Bool)) → (p : Parser) → Extends first p.page.edits → Extends first
    (expects_current test p).page.edits
grows-expects_current first test p h = grows-if-parser first (current_passes test p.page.opened) p (mistaken UnclosedElements p) h
    (grows-mistaken first UnclosedElements p h)

pub grows-implied_ended_but : (first : List Edit) → (but : (Open → Bool)) → (p : Parser) → Extends first p.page.edits → Extends first
    (implied_ended_but but p).page.edits
grows-implied_ended_but first but p h = grows-pop_while first ((λ e. is_implied e.kind && not (but e))) p h

pub grows-implied_ended : (first : List Edit) → (p : Parser) → Extends first p.page.edits → Extends first (implied_ended p).page.edits
grows-implied_ended first p h = grows-pop_while first (has_kind is_implied) p h

pub grows-all_implied_ended : (first : List Edit) → (p : Parser) → Extends first p.page.edits → Extends first (all_implied_ended p).page.edits
grows-all_implied_ended first p h = grows-pop_while first (has_kind is_implied_thoroughly) p h

pub grows-ended : (first : List Edit) → (test : (Open → Bool)) → (p : Parser) → Extends first p.page.edits → Extends first (ended test p).page.edits
grows-ended first test p h = grows-pop_until first test ((expects_current test (implied_ended p))) (grows-expects_current first test
    (implied_ended p) (grows-implied_ended first p h))

pub grows-ended_without_implied : (first : List Edit) → (test : (Open → Bool)) → (p : Parser) → Extends first p.page.edits → Extends first
    (ended_without_implied test p).page.edits
grows-ended_without_implied first test p h = grows-pop_until first test ((expects_current test (implied_ended_but test p)))
    (grows-expects_current first test (implied_ended_but test p) (grows-implied_ended_but first test p h))

pub grows-paragraph_closed : (first : List Edit) → (p : Parser) → Extends first p.page.edits → Extends first (paragraph_closed p).page.edits
grows-paragraph_closed first p h = grows-ended_without_implied first (has_kind is_paragraph) p h

pub grows-without_paragraph : (first : List Edit) → (p : Parser) → Extends first p.page.edits → Extends first (without_paragraph p).page.edits
grows-without_paragraph first p h = grows-if-parser first (in_button_scope (has_kind is_paragraph) p) (paragraph_closed p) p
    (grows-paragraph_closed first p h) h

pub grows-associated_with : (first : List Edit) → (form : Option ℕ) → (takes : Bool) → (n : ℕ) → (place : Place) → (page : Page)
    → Extends first page.edits → Extends first (associated_with form takes n place page).edits
grows-associated_with first None takes n place page h = h
grows-associated_with first (Some form) takes n place page h = grows-if-page first (takes) (edited (AssociateForm n form place) page) page
    (grows-edited first (AssociateForm n form place) page h) h

pub grows-inserted_at : (first : List Edit) → (place : Place) → (kind : Kind) → (name : List ℕ) → (attributes : List AttributeOf) → (p : Parser)
    → Extends first p.page.edits → Extends first (inserted_at place kind name attributes p).page.edits
grows-inserted_at first place kind name attributes p h = let n : ℕ = p.page.next in grows-on_page first ((λ page. pushed kind name n (edited
    (Put place n) (associated_with p.form (takes_form p kind attributes) n place (made kind name attributes page)))))
    (λ first page h-page. grows-pushed first kind name n ((edited (Put place n) (associated_with p.form (takes_form p kind attributes) n place
    (made kind name attributes page)))) (grows-edited first (Put place n) ((associated_with p.form (takes_form p kind attributes) n place
    (made kind name attributes page))) (grows-associated_with first p.form (takes_form p kind attributes) n place (made kind name attributes page)
    (grows-made first kind name attributes page h-page)))) p h

pub grows-inserted : (first : List Edit) → (kind : Kind) → (name : List ℕ) → (attributes : List AttributeOf) → (p : Parser)
    → Extends first p.page.edits → Extends first (inserted kind name attributes p).page.edits
grows-inserted first kind name attributes p h = grows-inserted_at first (place_of 0 p) kind name attributes p h

pub grows-insert : (first : List Edit) → (tag : StartTagOf) → (p : Parser) → Extends first p.page.edits → Extends first (insert tag p).page.edits
grows-insert first tag p h = grows-inserted first (kind_of tag.name) tag.name tag.attributes p h

pub grows-insert_void : (first : List Edit) → (tag : StartTagOf) → (p : Parser) → Extends first p.page.edits → Extends first
    (insert_void tag p).page.edits
grows-insert_void first tag p h = grows-acknowledges first ((pop (inserted_at (place_of 1 p) (kind_of tag.name) tag.name tag.attributes p)))
    (grows-pop first ((inserted_at (place_of 1 p) (kind_of tag.name) tag.name tag.attributes p)) (grows-inserted_at first (place_of 1 p)
    (kind_of tag.name) tag.name tag.attributes p h))

pub grows-insert_text : (first : List Edit) → (text : List ℕ) → (p : Parser) → Extends first p.page.edits → Extends first
    (insert_text text p).page.edits
grows-insert_text first text p h = grows-on_page first ((edited (PutText (place_in p p.page.opened) text))) (λ first. grows-edited first ((PutText
    (place_in p p.page.opened) text))) p h

pub grows-insert_character : (first : List Edit) → (c : ℕ) → (p : Parser) → Extends first p.page.edits → Extends first
    (insert_character c p).page.edits
grows-insert_character first c p h = grows-insert_text first (c ∷ []) p h

pub grows-insert_comment : (first : List Edit) → (text : List ℕ) → (p : Parser) → Extends first p.page.edits → Extends first
    (insert_comment text p).page.edits
grows-insert_comment first text p h = grows-on_page first ((comment_put (place_of 1 p) text)) (λ first. grows-comment_put first
    (place_of 1 p) text) p h

pub grows-insert_comment_in_document : (first : List Edit) → (text : List ℕ) → (p : Parser) → Extends first p.page.edits → Extends first
    (insert_comment_in_document text p).page.edits
grows-insert_comment_in_document first text p h = grows-on_page first ((comment_put (LastChild 0) text)) (λ first. grows-comment_put first
    (LastChild 0) text) p h

pub grows-insert_comment_in_root : (first : List Edit) → (text : List ℕ) → (p : Parser) → Extends first p.page.edits → Extends first
    (insert_comment_in_root text p).page.edits
grows-insert_comment_in_root first text p h = grows-on_page first ((comment_put (LastChild (first_open p.page.opened)) text))
    (λ first. grows-comment_put first ((LastChild (first_open p.page.opened))) text) p h

pub grows-reads_text : (first : List Edit) → (kind : RawKind) → (p : Parser) → Extends first p.page.edits → Extends first
    (reads_text kind p).page.edits
grows-reads_text first kind p h = grows-asked first (ReadRaw kind) p h

pub grows-insert_with_text : (first : List Edit) → (kind : RawKind) → (tag : StartTagOf) → (p : Parser) → Extends first p.page.edits → Extends first
    (insert_with_text kind tag p).page.edits
grows-insert_with_text first kind tag p h = grows-reads_text first kind (insert tag p) (grows-insert first tag p h)

pub grows-stop_parsing : (first : List Edit) → (p : Parser) → Extends first p.page.edits → Extends first (stop_parsing p).page.edits
grows-stop_parsing first p h = grows-pop_while first (λ e. true) p h

pub grows-insert_formatting : (first : List Edit) → (kind : Kind) → (tag : StartTagOf) → (p : Parser) → Extends first p.page.edits → Extends first
    (insert_formatting kind tag p).page.edits
grows-insert_formatting first kind tag p h = grows-inserted first kind tag.name tag.attributes p h

pub grows-with_marker : (first : List Edit) → (p : Parser) → Extends first p.page.edits → Extends first (with_marker p).page.edits
grows-with_marker first p h = h

pub grows-cleared_to_marker : (first : List Edit) → (p : Parser) → Extends first p.page.edits → Extends first (cleared_to_marker p).page.edits
grows-cleared_to_marker first p h = h

pub grows-reopened_one : (first : List Edit) → (e : Listed) → (p : Parser) → Extends first p.page.edits → Extends first (reopened_one e p).page.edits
grows-reopened_one first e p h = grows-inserted first e.kind e.name e.attributes p h

pub grows-reopened : (first : List Edit) → (e : List Listed) → (p : Parser) → Extends first p.page.edits → Extends first (reopened e p).page.edits
unfolding reopened
grows-reopened first [] p h = h
grows-reopened first (e ∷ es) p h = grows-reopened_one first e (reopened es p) (grows-reopened first es p h)

pub grows-reconstructed : (first : List Edit) → (p : Parser) → Extends first p.page.edits → Extends first (reconstructed p).page.edits
grows-reconstructed first p h = grows-reopened first (to_reopen p.page.opened p.formatting)
    (record p { formatting = still_listed p.page.opened p.formatting }) h

pub grows-end_of : (first : List Edit) → (name : List ℕ) → (n : Option ℕ) → (p : Parser) → Extends first p.page.edits → Extends first
    (end_of name n p).page.edits
grows-end_of first name None p h = grows-unexpected first p h
grows-end_of first name (Some n) p h = grows-pop_until first (has_number n) ((expects_current (has_number n) (implied_ended_but (has_name name) p)))
    (grows-expects_current first (has_number n) ((implied_ended_but (has_name name) p)) (grows-implied_ended_but first (has_name name) p h))

pub grows-any_other_end_tag : (first : List Edit) → (name : List ℕ) → (p : Parser) → Extends first p.page.edits → Extends first
    (any_other_end_tag name p).page.edits
grows-any_other_end_tag first name p h = grows-end_of first name (ended_by name p.page.opened) p h

pub grows-unformatted : (first : List Edit) → (f : Listed) → (p : Parser) → Extends first p.page.edits → Extends first (unformatted f p).page.edits
grows-unformatted first f p h = grows-pop_until first (has_number f.node) p h

pub grows-adopted_by : (first : List Edit) → (again : (Parser → Parser)) → ((first : List Edit) → (q : Parser) → Extends first q.page.edits
    → Extends first (again q).page.edits) → (f : Listed) → (d : Option ℕ) → (p : Parser) → Extends first p.page.edits → Extends first
    (adopted_by again f d p).page.edits
grows-adopted_by first again h-again f None p h = grows-unformatted first f p h
grows-adopted_by first again h-again f (Some d) p h = h-again first (adopted p f d) (grows-adopted first p f d h)

pub grows-turn : (first : List Edit) → (again : (Parser → Parser)) → ((first : List Edit) → (q : Parser) → Extends first q.page.edits
    → Extends first (again q).page.edits) → (name : List ℕ) → (f : Option Listed) → (p : Parser) → Extends first p.page.edits → Extends first
    (turn again name f p).page.edits
grows-turn first again h-again name None p h = grows-any_other_end_tag first name p h
grows-turn first again h-again name (Some f) p h = grows-if-parser first (not (has_open (has_number f.node) p.page.opened)) (record
    (mistaken FormattingNotOpen p) { formatting = without_entry f.node p.formatting }) (if not (in_scope
    (has_number f.node) p) then mistaken FormattingNotInScope p else adopted_by again f (furthest_block (opened_inside f.node p.page.opened))
    (expects_current (has_number f.node) p)) (grows-mistaken first FormattingNotOpen p h) (grows-if-parser first (not (in_scope
    (has_number f.node) p)) (mistaken FormattingNotInScope p) (adopted_by again f (furthest_block (opened_inside f.node p.page.opened))
    (expects_current (has_number f.node) p)) (grows-mistaken first FormattingNotInScope p h) (grows-adopted_by first again h-again f
    ((furthest_block (opened_inside f.node p.page.opened))) ((expects_current (has_number f.node) p)) (grows-expects_current first
    (has_number f.node) p h)))

pub grows-outer_loop : (first : List Edit) → (zero : ℕ) → (name : List ℕ) → (p : Parser) → Extends first p.page.edits → Extends first
    (outer_loop zero name p).page.edits
unfolding outer_loop
grows-outer_loop first zero name p h = h
grows-outer_loop first (suc turns) name p h = grows-turn first (λ later. outer_loop turns name later)
    (λ first later h-later. grows-outer_loop first turns name later h-later) name (last_named name p.formatting) p h

pub grows-adoption_agency : (first : List Edit) → (name : List ℕ) → (p : Parser) → Extends first p.page.edits → Extends first
    (adoption_agency name p).page.edits
grows-adoption_agency first name p h = grows-if-parser first (current_passes (is_unlisted name p.formatting) p.page.opened) (pop p)
    (outer_loop 8 name p) (grows-pop first p h) (grows-outer_loop first 8 name p h)

pub grows-mode_reset : (first : List Edit) → (p : Parser) → Extends first p.page.edits → Extends first (mode_reset p).page.edits
grows-mode_reset first p h = grows-in_mode first (mode_of p p.page.opened) p h

pub grows-set_quirks_mode : (first : List Edit) → (mode : QuirksMode) → (p : Parser) → Extends first p.page.edits → Extends first
    (set_quirks_mode mode p).page.edits
grows-set_quirks_mode first mode p h = grows-on_page first ((edited (SetQuirksMode mode))) (λ first. grows-edited first (SetQuirksMode mode)) p h

pub grows-put_doctype : (first : List Edit) → (doctype : DoctypeOf) → (p : Parser) → Extends first p.page.edits → Extends first
    (put_doctype doctype p).page.edits
grows-put_doctype first doctype p h = grows-on_page first ((edited (PutDoctype (or_empty doctype.name) (or_empty doctype.public_id)
    (or_empty doctype.system_id)))) (λ first. grows-edited first ((PutDoctype (or_empty doctype.name) (or_empty doctype.public_id)
    (or_empty doctype.system_id)))) p h

pub grows-initial_doctype : (first : List Edit) → (doctype : DoctypeOf) → (p : Parser) → Extends first p.page.edits → Extends first
    (initial_doctype doctype p).page.edits
grows-initial_doctype first doctype p h = let put : Parser = put_doctype doctype
    (if is_allowed doctype then p else mistaken BadDoctype p) in let h-put : Extends first put.page.edits = grows-put_doctype first doctype
    (if is_allowed doctype then p else mistaken BadDoctype p) (grows-if-parser first (is_allowed doctype) p (mistaken BadDoctype p) h
    (grows-mistaken first BadDoctype p h)) in grows-in_mode first BeforeHtml ((if p.options.iframe_srcdoc then put else set_quirks_mode
    (quirks_mode_of doctype) put)) (grows-if-parser first (p.options.iframe_srcdoc) put (set_quirks_mode (quirks_mode_of doctype) put) h-put
    (grows-set_quirks_mode first (quirks_mode_of doctype) put h-put))

pub grows-initial_other : (first : List Edit) → (again : Again) → ((first : List Edit) → (q : Parser) → (t : Token) → Extends first q.page.edits
    → Extends first (again q t).page.edits) → (token : Token) → (p : Parser) → Extends first p.page.edits → Extends first
    (initial_other again token p).page.edits
grows-initial_other first again h-again token p h = h-again first ((in_mode BeforeHtml
    (if p.options.iframe_srcdoc then p else set_quirks_mode Quirks (mistaken MissingDoctype p)))) token (grows-in_mode first BeforeHtml
    ((if p.options.iframe_srcdoc then p else set_quirks_mode Quirks (mistaken MissingDoctype p))) (grows-if-parser first (p.options.iframe_srcdoc) p
    (set_quirks_mode Quirks (mistaken MissingDoctype p)) h (grows-set_quirks_mode first Quirks (mistaken MissingDoctype p)
    (grows-mistaken first MissingDoctype p h))))

pub grows-initial : (first : List Edit) → (again : Again) → ((first : List Edit) → (q : Parser) → (t : Token) → Extends first q.page.edits
    → Extends first (again q t).page.edits) → (c : Token) → (p : Parser) → Extends first p.page.edits → Extends first (initial again c p).page.edits
grows-initial first again h-again (Character c) p h = grows-if-parser first (is_space c) p (initial_other again (Character c) p) h
    (grows-initial_other first again h-again (Character c) p h)
grows-initial first again h-again (Comment text) p h = grows-insert_comment_in_document first text p h
grows-initial first again h-again (Doctype doctype) p h = grows-initial_doctype first doctype p h
grows-initial first again h-again token p h = grows-initial_other first again h-again token p h

pub grows-with_root : (first : List Edit) → (attributes : List AttributeOf) → (p : Parser) → Extends first p.page.edits → Extends first
    (with_root attributes p).page.edits
grows-with_root first attributes p h = let n : ℕ = p.page.next in grows-on_page first ((λ page. pushed HtmlRoot (codes "html") n (edited (Put
    (LastChild 0) n) (made HtmlRoot (codes "html") attributes page)))) (λ first page h-page. grows-pushed first HtmlRoot (codes "html") n ((edited
    (Put (LastChild 0) n) (made HtmlRoot (codes "html") attributes page))) (grows-edited first ((Put (LastChild 0) n)) ((made HtmlRoot
    (codes "html") attributes page)) (grows-made first HtmlRoot (codes "html") attributes page h-page))) p h

pub grows-before_html_other : (first : List Edit) → (again : Again) → ((first : List Edit) → (q : Parser) → (t : Token) → Extends first q.page.edits
    → Extends first (again q t).page.edits) → (token : Token) → (p : Parser) → Extends first p.page.edits → Extends first
    (before_html_other again token p).page.edits
grows-before_html_other first again h-again token p h = h-again first ((in_mode BeforeHead (with_root [] p))) token (grows-in_mode first BeforeHead
    (with_root [] p) (grows-with_root first [] p h))

pub grows-before_html_start : (first : List Edit) → (again : Again) → ((first : List Edit) → (q : Parser) → (t : Token) → Extends first q.page.edits
    → Extends first (again q t).page.edits) → (other : Kind) → (tag : StartTagOf) → (p : Parser) → Extends first p.page.edits → Extends first
    (before_html_start again other tag p).page.edits
grows-before_html_start first again h-again HtmlRoot tag p h = grows-in_mode first BeforeHead (with_root tag.attributes p)
    (grows-with_root first tag.attributes p h)
grows-before_html_start first again h-again other tag p h = grows-before_html_other first again h-again (StartTag tag) p h

pub grows-before_html : (first : List Edit) → (again : Again) → ((first : List Edit) → (q : Parser) → (t : Token) → Extends first q.page.edits
    → Extends first (again q t).page.edits) → (doctype : Token) → (p : Parser) → Extends first p.page.edits → Extends first
    (before_html again doctype p).page.edits
grows-before_html first again h-again (Doctype doctype) p h = grows-unexpected first p h
grows-before_html first again h-again (Comment text) p h = grows-insert_comment_in_document first text p h
grows-before_html first again h-again (Character c) p h = grows-if-parser first (is_space c) p (before_html_other again (Character c) p) h
    (grows-before_html_other first again h-again (Character c) p h)
grows-before_html first again h-again (StartTag tag) p h = grows-before_html_start first again h-again (kind_of tag.name) tag p h
grows-before_html first again h-again (EndTag name) p h = grows-if-parser first (ends_early (kind_of name)) (before_html_other again
    (EndTag name) p) (unexpected p) (grows-before_html_other first again h-again (EndTag name) p h) (grows-unexpected first p h)
grows-before_html first again h-again EndOfFile p h = grows-before_html_other first again h-again EndOfFile p h

pub grows-add_to_root : (first : List Edit) → (tag : StartTagOf) → (p : Parser) → Extends first p.page.edits → Extends first
    (add_to_root tag p).page.edits
grows-add_to_root first tag p h = grows-on_page first ((edited (AddAttributes (first_open p.page.opened) tag.attributes)))
    (λ first. grows-edited first ((AddAttributes (first_open p.page.opened) tag.attributes))) p h

pub grows-start_html : (first : List Edit) → (tag : StartTagOf) → (p : Parser) → Extends first p.page.edits → Extends first
    (start_html tag p).page.edits
grows-start_html first tag p h = grows-if-parser first (has_template p) (unexpected p) (add_to_root tag (unexpected p)) (grows-unexpected first p h)
    (grows-add_to_root first tag (unexpected p) (grows-unexpected first p h))

pub grows-insert_head : (first : List Edit) → (tag : StartTagOf) → (p : Parser) → Extends first p.page.edits → Extends first
    (insert_head tag p).page.edits
grows-insert_head first tag p h = grows-in_mode first InHead ((record (inserted Head (codes "head") tag.attributes p) { head = Some p.page.next }))
    (grows-inserted first Head (codes "head") tag.attributes p h)

pub grows-before_head_other : (first : List Edit) → (again : Again) → ((first : List Edit) → (q : Parser) → (t : Token) → Extends first q.page.edits
    → Extends first (again q t).page.edits) → (token : Token) → (p : Parser) → Extends first p.page.edits → Extends first
    (before_head_other again token p).page.edits
grows-before_head_other first again h-again token p h = h-again first ((insert_head (bare_tag (codes "head")) p)) token (grows-insert_head first
    ((bare_tag (codes "head"))) p h)

pub grows-before_head_start : (first : List Edit) → (again : Again) → ((first : List Edit) → (q : Parser) → (t : Token) → Extends first q.page.edits
    → Extends first (again q t).page.edits) → (other : Kind) → (tag : StartTagOf) → (p : Parser) → Extends first p.page.edits → Extends first
    (before_head_start again other tag p).page.edits
grows-before_head_start first again h-again HtmlRoot tag p h = grows-start_html first tag p h
grows-before_head_start first again h-again Head tag p h = grows-insert_head first tag p h
grows-before_head_start first again h-again other tag p h = grows-before_head_other first again h-again (StartTag tag) p h

pub grows-before_head : (first : List Edit) → (again : Again) → ((first : List Edit) → (q : Parser) → (t : Token) → Extends first q.page.edits
    → Extends first (again q t).page.edits) → (c : Token) → (p : Parser) → Extends first p.page.edits → Extends first
    (before_head again c p).page.edits
grows-before_head first again h-again (Character c) p h = grows-if-parser first (is_space c) p (before_head_other again (Character c) p) h
    (grows-before_head_other first again h-again (Character c) p h)
grows-before_head first again h-again (Comment text) p h = grows-insert_comment first text p h
grows-before_head first again h-again (Doctype doctype) p h = grows-unexpected first p h
grows-before_head first again h-again (StartTag tag) p h = grows-before_head_start first again h-again (kind_of tag.name) tag p h
grows-before_head first again h-again (EndTag name) p h = grows-if-parser first (ends_early (kind_of name)) (before_head_other again
    (EndTag name) p) (unexpected p) (grows-before_head_other first again h-again (EndTag name) p h) (grows-unexpected first p h)
grows-before_head first again h-again EndOfFile p h = grows-before_head_other first again h-again EndOfFile p h

pub grows-asks_content : (first : List Edit) → (true : Bool) → (content : Option (List ℕ)) → (p : Parser) → Extends first p.page.edits
    → Extends first (asks_content true content p).page.edits
grows-asks_content first true (Some content) p h = grows-asked first (UseContent content) p h
grows-asks_content first says content p h = h

pub grows-asks_encoding : (first : List Edit) → (attributes : List AttributeOf) → (charset : Option (List ℕ)) → (p : Parser)
    → Extends first p.page.edits → Extends first (asks_encoding attributes charset p).page.edits
grows-asks_encoding first attributes (Some charset) p h = grows-asked first (UseCharset charset) p h
grows-asks_encoding first attributes None p h = grows-asks_content first ((is_content_type (value_of (codes "http-equiv") attributes))) ((value_of
    (codes "content") attributes)) p h

pub grows-start_meta : (first : List Edit) → (tag : StartTagOf) → (p : Parser) → Extends first p.page.edits → Extends first
    (start_meta tag p).page.edits
grows-start_meta first tag p h = grows-asks_encoding first tag.attributes ((value_of (codes "charset") tag.attributes)) (insert_void tag p)
    (grows-insert_void first tag p h)

pub grows-mark_current : (first : List Edit) → (p : Parser) → Extends first p.page.edits → Extends first (mark_current p).page.edits
grows-mark_current first p h = grows-on_page first ((edited (MarkStarted (current_number p.page.opened)))) (λ first. grows-edited first
    ((MarkStarted (current_number p.page.opened)))) p h

pub grows-start_script : (first : List Edit) → (tag : StartTagOf) → (p : Parser) → Extends first p.page.edits → Extends first
    (start_script tag p).page.edits
grows-start_script first tag p h = let later : Parser = insert tag p in let h-later : Extends first later.page.edits = grows-insert first tag p h in grows-reads_text first ScriptData (if is_fragment p then mark_current later else later) (grows-if-parser first (is_fragment p) (mark_current later) later (grows-mark_current first later h-later) h-later)

pub grows-start_template : (first : List Edit) → (tag : StartTagOf) → (p : Parser) → Extends first p.page.edits → Extends first
    (start_template tag p).page.edits
grows-start_template first tag p h = grows-insert first tag ((record
    (with_marker p) { frameset_ok = false; mode = InTemplate; template_modes = InTemplate ∷ p.template_modes })) (grows-with_marker first p h)

pub grows-template_closed : (first : List Edit) → (p : Parser) → Extends first p.page.edits → Extends first (template_closed p).page.edits
grows-template_closed first p h = let popped : Parser = cleared_to_marker (pop_until
    (has_kind is_template) p) in let h-popped : Extends first popped.page.edits = grows-cleared_to_marker first ((pop_until
    (has_kind is_template) p)) (grows-pop_until first (has_kind is_template) p h) in grows-mode_reset first
    (record popped { template_modes = without_template_mode popped.template_modes }) h-popped

pub grows-end_template : (first : List Edit) → (p : Parser) → Extends first p.page.edits → Extends first (end_template p).page.edits
grows-end_template first p h = grows-if-parser first (has_template p) (template_closed (expects_current (has_kind is_template)
    (all_implied_ended p))) (unexpected p) (grows-template_closed first ((expects_current (has_kind is_template) (all_implied_ended p)))
    (grows-expects_current first (has_kind is_template) (all_implied_ended p) (grows-all_implied_ended first p h))) (grows-unexpected first p h)

pub grows-start_in_head : (first : List Edit) → (other : Kind) → (tag : StartTagOf) → (p : Parser) → Extends first p.page.edits → Extends first
    (start_in_head other tag p).page.edits
grows-start_in_head first Meta tag p h = grows-start_meta first tag p h
grows-start_in_head first Title tag p h = grows-insert_with_text first Rcdata tag p h
grows-start_in_head first Style tag p h = grows-insert_with_text first Rawtext tag p h
grows-start_in_head first Noframes tag p h = grows-insert_with_text first Rawtext tag p h
grows-start_in_head first Script tag p h = grows-start_script first tag p h
grows-start_in_head first Template tag p h = grows-start_template first tag p h
grows-start_in_head first other tag p h = grows-insert_void first tag p h

pub grows-in_head_other : (first : List Edit) → (again : Again) → ((first : List Edit) → (q : Parser) → (t : Token) → Extends first q.page.edits
    → Extends first (again q t).page.edits) → (token : Token) → (p : Parser) → Extends first p.page.edits → Extends first
    (in_head_other again token p).page.edits
grows-in_head_other first again h-again token p h = h-again first ((in_mode AfterHead (pop p))) token (grows-in_mode first AfterHead (pop p)
    (grows-pop first p h))

pub grows-in_head_noscript_start : (first : List Edit) → (tag : StartTagOf) → (p : Parser) → Extends first p.page.edits → Extends first
    (in_head_noscript_start tag p).page.edits
grows-in_head_noscript_start first tag p h = grows-if-parser first (p.options.scripting) (insert_with_text Rawtext tag p) (in_mode InHeadNoscript
    (insert tag p)) (grows-insert_with_text first Rawtext tag p h) (grows-in_mode first InHeadNoscript (insert tag p) (grows-insert first tag p h))

pub grows-in_head_start : (first : List Edit) → (again : Again) → ((first : List Edit) → (q : Parser) → (t : Token) → Extends first q.page.edits
    → Extends first (again q t).page.edits) → (other : Kind) → (tag : StartTagOf) → (p : Parser) → Extends first p.page.edits → Extends first
    (in_head_start again other tag p).page.edits
grows-in_head_start first again h-again HtmlRoot tag p h = grows-start_html first tag p h
grows-in_head_start first again h-again Head tag p h = grows-unexpected first p h
grows-in_head_start first again h-again Noscript tag p h = grows-in_head_noscript_start first tag p h
grows-in_head_start first again h-again Base tag p h = grows-start_in_head first Base tag p h
grows-in_head_start first again h-again Link tag p h = grows-start_in_head first Link tag p h
grows-in_head_start first again h-again Meta tag p h = grows-start_in_head first Meta tag p h
grows-in_head_start first again h-again Title tag p h = grows-start_in_head first Title tag p h
grows-in_head_start first again h-again Style tag p h = grows-start_in_head first Style tag p h
grows-in_head_start first again h-again Noframes tag p h = grows-start_in_head first Noframes tag p h
grows-in_head_start first again h-again Script tag p h = grows-start_in_head first Script tag p h
grows-in_head_start first again h-again Template tag p h = grows-start_in_head first Template tag p h
grows-in_head_start first again h-again other tag p h = grows-in_head_other first again h-again (StartTag tag) p h

pub grows-in_head_end : (first : List Edit) → (again : Again) → ((first : List Edit) → (q : Parser) → (t : Token) → Extends first q.page.edits
    → Extends first (again q t).page.edits) → (other : Kind) → (name : List ℕ) → (p : Parser) → Extends first p.page.edits → Extends first
    (in_head_end again other name p).page.edits
grows-in_head_end first again h-again Head name p h = grows-in_mode first AfterHead (pop p) (grows-pop first p h)
grows-in_head_end first again h-again Body name p h = grows-in_head_other first again h-again (EndTag name) p h
grows-in_head_end first again h-again HtmlRoot name p h = grows-in_head_other first again h-again (EndTag name) p h
grows-in_head_end first again h-again LineBreak name p h = grows-in_head_other first again h-again (EndTag name) p h
grows-in_head_end first again h-again Template name p h = grows-end_template first p h
grows-in_head_end first again h-again other name p h = grows-unexpected first p h

pub grows-in_head : (first : List Edit) → (again : Again) → ((first : List Edit) → (q : Parser) → (t : Token) → Extends first q.page.edits
    → Extends first (again q t).page.edits) → (c : Token) → (p : Parser) → Extends first p.page.edits → Extends first (in_head again c p).page.edits
grows-in_head first again h-again (Character c) p h = grows-if-parser first (is_space c) (insert_character c p) (in_head_other again
    (Character c) p) (grows-insert_character first c p h) (grows-in_head_other first again h-again (Character c) p h)
grows-in_head first again h-again (Comment text) p h = grows-insert_comment first text p h
grows-in_head first again h-again (Doctype doctype) p h = grows-unexpected first p h
grows-in_head first again h-again (StartTag tag) p h = grows-in_head_start first again h-again (kind_of tag.name) tag p h
grows-in_head first again h-again (EndTag name) p h = grows-in_head_end first again h-again (kind_of name) name p h
grows-in_head first again h-again EndOfFile p h = grows-in_head_other first again h-again EndOfFile p h

pub grows-noscript_other : (first : List Edit) → (again : Again) → ((first : List Edit) → (q : Parser) → (t : Token) → Extends first q.page.edits
    → Extends first (again q t).page.edits) → (token : Token) → (p : Parser) → Extends first p.page.edits → Extends first
    (noscript_other again token p).page.edits
grows-noscript_other first again h-again token p h = h-again first ((in_mode InHead (pop (unexpected p)))) token (grows-in_mode first InHead ((pop
    (unexpected p))) (grows-pop first (unexpected p) (grows-unexpected first p h)))

pub grows-noscript_start : (first : List Edit) → (again : Again) → ((first : List Edit) → (q : Parser) → (t : Token) → Extends first q.page.edits
    → Extends first (again q t).page.edits) → (other : Kind) → (tag : StartTagOf) → (p : Parser) → Extends first p.page.edits → Extends first
    (noscript_start again other tag p).page.edits
grows-noscript_start first again h-again HtmlRoot tag p h = grows-start_html first tag p h
grows-noscript_start first again h-again Link tag p h = grows-start_in_head first Link tag p h
grows-noscript_start first again h-again Meta tag p h = grows-start_in_head first Meta tag p h
grows-noscript_start first again h-again Noframes tag p h = grows-start_in_head first Noframes tag p h
grows-noscript_start first again h-again Style tag p h = grows-start_in_head first Style tag p h
grows-noscript_start first again h-again Head tag p h = grows-unexpected first p h
grows-noscript_start first again h-again Noscript tag p h = grows-unexpected first p h
grows-noscript_start first again h-again other tag p h = grows-noscript_other first again h-again (StartTag tag) p h

pub grows-noscript_end : (first : List Edit) → (again : Again) → ((first : List Edit) → (q : Parser) → (t : Token) → Extends first q.page.edits
    → Extends first (again q t).page.edits) → (other : Kind) → (name : List ℕ) → (p : Parser) → Extends first p.page.edits → Extends first
    (noscript_end again other name p).page.edits
grows-noscript_end first again h-again Noscript name p h = grows-in_mode first InHead (pop p) (grows-pop first p h)
grows-noscript_end first again h-again LineBreak name p h = grows-noscript_other first again h-again (EndTag name) p h
grows-noscript_end first again h-again other name p h = grows-unexpected first p h

pub grows-in_head_noscript : (first : List Edit) → (again : Again) → ((first : List Edit) → (q : Parser) → (t : Token) → Extends first q.page.edits
    → Extends first (again q t).page.edits) → (doctype : Token) → (p : Parser) → Extends first p.page.edits → Extends first
    (in_head_noscript again doctype p).page.edits
grows-in_head_noscript first again h-again (Doctype doctype) p h = grows-unexpected first p h
grows-in_head_noscript first again h-again (StartTag tag) p h = grows-noscript_start first again h-again (kind_of tag.name) tag p h
grows-in_head_noscript first again h-again (EndTag name) p h = grows-noscript_end first again h-again (kind_of name) name p h
grows-in_head_noscript first again h-again (Character c) p h = grows-if-parser first (is_space c) (insert_character c p) (noscript_other again
    (Character c) p) (grows-insert_character first c p h) (grows-noscript_other first again h-again (Character c) p h)
grows-in_head_noscript first again h-again (Comment text) p h = grows-insert_comment first text p h
grows-in_head_noscript first again h-again EndOfFile p h = grows-noscript_other first again h-again EndOfFile p h

pub grows-insert_body : (first : List Edit) → (tag : StartTagOf) → (p : Parser) → Extends first p.page.edits → Extends first
    (insert_body tag p).page.edits
grows-insert_body first tag p h = grows-in_mode first InBody (insert tag p) (grows-insert first tag p h)

pub grows-after_head_other : (first : List Edit) → (again : Again) → ((first : List Edit) → (q : Parser) → (t : Token) → Extends first q.page.edits
    → Extends first (again q t).page.edits) → (token : Token) → (p : Parser) → Extends first p.page.edits → Extends first
    (after_head_other again token p).page.edits
grows-after_head_other first again h-again token p h = h-again first ((insert_body (bare_tag (codes "body")) p)) token (grows-insert_body first
    ((bare_tag (codes "body"))) p h)

pub grows-within_head_of : (first : List Edit) → (n : Option ℕ) → (change : (Parser → Parser)) → ((first : List Edit) → (q : Parser)
    → Extends first q.page.edits → Extends first (change q).page.edits) → (p : Parser) → Extends first p.page.edits → Extends first
    (within_head_of n change p).page.edits
grows-within_head_of first None change h-change p h = h-change first p h
grows-within_head_of first (Some n) change h-change p h = grows-on_page first (removed_from_stack n) (λ first. grows-removed_from_stack first n)
    ((change (on_page (pushed Head (codes "head") n) p))) (h-change first ((on_page (pushed Head (codes "head") n) p)) (grows-on_page first
    ((pushed Head (codes "head") n)) (λ first. grows-pushed first Head (codes "head") n) p h))

pub grows-within_head : (first : List Edit) → (change : (Parser → Parser)) → ((first : List Edit) → (q : Parser) → Extends first q.page.edits
    → Extends first (change q).page.edits) → (p : Parser) → Extends first p.page.edits → Extends first (within_head change p).page.edits
grows-within_head first change h-change p h = grows-within_head_of first p.head change h-change p h

pub grows-start_after_head : (first : List Edit) → (kind : Kind) → (tag : StartTagOf) → (p : Parser) → Extends first p.page.edits → Extends first
    (start_after_head kind tag p).page.edits
grows-start_after_head first kind tag p h = grows-within_head first (start_in_head kind tag) (λ first. grows-start_in_head first kind tag)
    (unexpected p) (grows-unexpected first p h)

pub grows-after_head_start : (first : List Edit) → (again : Again) → ((first : List Edit) → (q : Parser) → (t : Token) → Extends first q.page.edits
    → Extends first (again q t).page.edits) → (other : Kind) → (tag : StartTagOf) → (p : Parser) → Extends first p.page.edits → Extends first
    (after_head_start again other tag p).page.edits
grows-after_head_start first again h-again HtmlRoot tag p h = grows-start_html first tag p h
grows-after_head_start first again h-again Body tag p h = grows-not_frameset_ok first (insert_body tag p) (grows-insert_body first tag p h)
grows-after_head_start first again h-again Frameset tag p h = grows-in_mode first InFrameset (insert tag p) (grows-insert first tag p h)
grows-after_head_start first again h-again Base tag p h = grows-start_after_head first Base tag p h
grows-after_head_start first again h-again Link tag p h = grows-start_after_head first Link tag p h
grows-after_head_start first again h-again Meta tag p h = grows-start_after_head first Meta tag p h
grows-after_head_start first again h-again Noframes tag p h = grows-start_after_head first Noframes tag p h
grows-after_head_start first again h-again Script tag p h = grows-start_after_head first Script tag p h
grows-after_head_start first again h-again Style tag p h = grows-start_after_head first Style tag p h
grows-after_head_start first again h-again Template tag p h = grows-start_after_head first Template tag p h
grows-after_head_start first again h-again Title tag p h = grows-start_after_head first Title tag p h
grows-after_head_start first again h-again Head tag p h = grows-unexpected first p h
grows-after_head_start first again h-again other tag p h = grows-after_head_other first again h-again (StartTag tag) p h

pub grows-after_head_end : (first : List Edit) → (again : Again) → ((first : List Edit) → (q : Parser) → (t : Token) → Extends first q.page.edits
    → Extends first (again q t).page.edits) → (other : Kind) → (name : List ℕ) → (p : Parser) → Extends first p.page.edits → Extends first
    (after_head_end again other name p).page.edits
grows-after_head_end first again h-again Template name p h = grows-end_template first p h
grows-after_head_end first again h-again Body name p h = grows-after_head_other first again h-again (EndTag name) p h
grows-after_head_end first again h-again HtmlRoot name p h = grows-after_head_other first again h-again (EndTag name) p h
grows-after_head_end first again h-again LineBreak name p h = grows-after_head_other first again h-again (EndTag name) p h
grows-after_head_end first again h-again other name p h = grows-unexpected first p h

pub grows-after_head : (first : List Edit) → (again : Again) → ((first : List Edit) → (q : Parser) → (t : Token) → Extends first q.page.edits
    → Extends first (again q t).page.edits) → (c : Token) → (p : Parser) → Extends first p.page.edits → Extends first
    (after_head again c p).page.edits
grows-after_head first again h-again (Character c) p h = grows-if-parser first (is_space c) (insert_character c p) (after_head_other again
    (Character c) p) (grows-insert_character first c p h) (grows-after_head_other first again h-again (Character c) p h)
grows-after_head first again h-again (Comment text) p h = grows-insert_comment first text p h
grows-after_head first again h-again (Doctype doctype) p h = grows-unexpected first p h
grows-after_head first again h-again (StartTag tag) p h = grows-after_head_start first again h-again (kind_of tag.name) tag p h
grows-after_head first again h-again (EndTag name) p h = grows-after_head_end first again h-again (kind_of name) name p h
grows-after_head first again h-again EndOfFile p h = grows-after_head_other first again h-again EndOfFile p h

pub grows-back : (first : List Edit) → (p : Parser) → Extends first p.page.edits → Extends first (back p).page.edits
grows-back first p h = grows-in_mode first p.original_mode (pop p) (grows-pop first p h)

pub grows-text_end : (first : List Edit) → (other : Kind) → (p : Parser) → Extends first p.page.edits → Extends first (text_end other p).page.edits
grows-text_end first Script p h = grows-asked first ((Run (current_number p.page.opened))) (back p) (grows-back first p h)
grows-text_end first other p h = grows-back first p h

pub grows-text_end_of_file : (first : List Edit) → (again : Again) → ((first : List Edit) → (q : Parser) → (t : Token) → Extends first q.page.edits
    → Extends first (again q t).page.edits) → (p : Parser) → Extends first p.page.edits → Extends first (text_end_of_file again p).page.edits
grows-text_end_of_file first again h-again p h = let noted : Parser = mistaken UnclosedAtEnd p in let h-noted : Extends first noted.page.edits = grows-mistaken first UnclosedAtEnd p h in h-again first ((back (if is_current is_script p then mark_current noted else noted))) EndOfFile (grows-back first (if is_current is_script p then mark_current noted else noted) (grows-if-parser first (is_current is_script p) (mark_current noted) noted (grows-mark_current first noted h-noted) h-noted))

pub grows-text_mode : (first : List Edit) → (again : Again) → ((first : List Edit) → (q : Parser) → (t : Token) → Extends first q.page.edits
    → Extends first (again q t).page.edits) → (c : Token) → (p : Parser) → Extends first p.page.edits → Extends first (text_mode again c p).page.edits
grows-text_mode first again h-again (Character c) p h = grows-insert_character first c p h
grows-text_mode first again h-again (EndTag name) p h = grows-text_end first (kind_of name) p h
grows-text_mode first again h-again EndOfFile p h = grows-text_end_of_file first again h-again p h
grows-text_mode first again h-again other p h = h

pub grows-character_in_body : (first : List Edit) → (c : ℕ) → (p : Parser) → Extends first p.page.edits → Extends first
    (character_in_body c p).page.edits
grows-character_in_body first c p h = grows-if-parser first (is_null c) (unexpected p) (if is_space c then insert_character c
    (reconstructed p) else not_frameset_ok (insert_character c (reconstructed p))) (grows-unexpected first p h) (grows-if-parser first (is_space c)
    (insert_character c (reconstructed p)) (not_frameset_ok (insert_character c (reconstructed p))) (grows-insert_character first c
    (reconstructed p) (grows-reconstructed first p h)) (grows-not_frameset_ok first ((insert_character c (reconstructed p)))
    (grows-insert_character first c (reconstructed p) (grows-reconstructed first p h))))

pub grows-added_to_body : (first : List Edit) → (n : Option ℕ) → (tag : StartTagOf) → (page : Page) → Extends first page.edits → Extends first
    (added_to_body n tag page).edits
grows-added_to_body first None tag page h = h
grows-added_to_body first (Some n) tag page h = grows-edited first (AddAttributes n tag.attributes) page h

pub grows-add_to_body : (first : List Edit) → (tag : StartTagOf) → (p : Parser) → Extends first p.page.edits → Extends first
    (add_to_body tag p).page.edits
grows-add_to_body first tag p h = grows-on_page first ((λ page. added_to_body (second_body page.opened) tag page))
    (λ first page h-page. grows-added_to_body first (second_body page.opened) tag page h-page) p h

pub grows-start_body : (first : List Edit) → (tag : StartTagOf) → (p : Parser) → Extends first p.page.edits → Extends first
    (start_body tag p).page.edits
grows-start_body first tag p h = grows-if-parser first (has_body p && not (has_template p)) (add_to_body tag (not_frameset_ok (unexpected p)))
    (unexpected p) (grows-add_to_body first tag ((not_frameset_ok (unexpected p))) (grows-not_frameset_ok first (unexpected p)
    (grows-unexpected first p h))) (grows-unexpected first p h)

pub grows-removed_body : (first : List Edit) → (n : Option ℕ) → (page : Page) → Extends first page.edits → Extends first (removed_body n page).edits
grows-removed_body first None page h = h
grows-removed_body first (Some n) page h = grows-edited first (Remove n) page h

pub grows-without_body : (first : List Edit) → (p : Parser) → Extends first p.page.edits → Extends first (without_body p).page.edits
grows-without_body first p h = grows-on_page first ((λ page. popped_to_first (removed_body (second_body page.opened) page)))
    (λ first page h-page. grows-popped_to_first first ((removed_body (second_body page.opened) page)) (grows-removed_body first
    (second_body page.opened) page h-page)) p h

pub grows-start_frameset : (first : List Edit) → (tag : StartTagOf) → (p : Parser) → Extends first p.page.edits → Extends first
    (start_frameset tag p).page.edits
grows-start_frameset first tag p h = grows-if-parser first (has_body p && p.frameset_ok) (in_mode InFrameset (insert tag (without_body
    (unexpected p)))) (unexpected p) (grows-in_mode first InFrameset ((insert tag (without_body (unexpected p)))) (grows-insert first tag
    ((without_body (unexpected p))) (grows-without_body first (unexpected p) (grows-unexpected first p h)))) (grows-unexpected first p h)

pub grows-expects_closed : (first : List Edit) → (p : Parser) → Extends first p.page.edits → Extends first (expects_closed p).page.edits
grows-expects_closed first p h = grows-if-parser first (has_open (λ e. not (may_stay_open e.kind)) p.page.opened) (mistaken UnclosedElements p) p
    (grows-mistaken first UnclosedElements p h) h

pub grows-end_of_file_in_template : (first : List Edit) → (again : Again) → ((first : List Edit) → (q : Parser) → (t : Token)
    → Extends first q.page.edits → Extends first (again q t).page.edits) → (p : Parser) → Extends first p.page.edits → Extends first
    (end_of_file_in_template again p).page.edits
grows-end_of_file_in_template first again h-again p h = grows-if-parser first (has_template p) (again (template_closed
    (mistaken UnclosedAtEnd p)) EndOfFile) (stop_parsing p) (h-again first ((template_closed (mistaken UnclosedAtEnd p))) EndOfFile
    (grows-template_closed first (mistaken UnclosedAtEnd p) (grows-mistaken first UnclosedAtEnd p h))) (grows-stop_parsing first p h)

pub grows-end_of_file_by : (first : List Edit) → (again : Again) → ((first : List Edit) → (q : Parser) → (t : Token) → Extends first q.page.edits
    → Extends first (again q t).page.edits) → (mode : List Mode) → (p : Parser) → Extends first p.page.edits → Extends first
    (end_of_file_by again mode p).page.edits
grows-end_of_file_by first again h-again [] p h = grows-stop_parsing first (expects_closed p) (grows-expects_closed first p h)
grows-end_of_file_by first again h-again (mode ∷ modes) p h = grows-end_of_file_in_template first again h-again p h

pub grows-end_of_file_in_body : (first : List Edit) → (again : Again) → ((first : List Edit) → (q : Parser) → (t : Token)
    → Extends first q.page.edits → Extends first (again q t).page.edits) → (p : Parser) → Extends first p.page.edits → Extends first
    (end_of_file_in_body again p).page.edits
grows-end_of_file_in_body first again h-again p h = grows-end_of_file_by first again h-again p.template_modes p h

pub grows-end_body : (first : List Edit) → (after : (Parser → Parser)) → ((first : List Edit) → (q : Parser) → Extends first q.page.edits
    → Extends first (after q).page.edits) → (p : Parser) → Extends first p.page.edits → Extends first (end_body after p).page.edits
grows-end_body first after h-after p h = grows-if-parser first (in_scope (has_kind is_body) p) (after (in_mode AfterBody (expects_closed p)))
    (unexpected p) (h-after first ((in_mode AfterBody (expects_closed p))) (grows-in_mode first AfterBody (expects_closed p)
    (grows-expects_closed first p h))) (grows-unexpected first p h)

pub grows-start_block : (first : List Edit) → (tag : StartTagOf) → (p : Parser) → Extends first p.page.edits → Extends first
    (start_block tag p).page.edits
grows-start_block first tag p h = grows-insert first tag (without_paragraph p) (grows-without_paragraph first p h)

pub grows-without_heading : (first : List Edit) → (p : Parser) → Extends first p.page.edits → Extends first (without_heading p).page.edits
grows-without_heading first p h = grows-if-parser first (is_current is_heading p) (pop (unexpected p)) p (grows-pop first (unexpected p)
    (grows-unexpected first p h)) h

pub grows-start_preformatted : (first : List Edit) → (tag : StartTagOf) → (p : Parser) → Extends first p.page.edits → Extends first
    (start_preformatted tag p).page.edits
grows-start_preformatted first tag p h = grows-start_block first tag p h

pub grows-without_item_of : (first : List Edit) → (name : Option (List ℕ)) → (p : Parser) → Extends first p.page.edits → Extends first
    (without_item_of name p).page.edits
grows-without_item_of first None p h = h
grows-without_item_of first (Some name) p h = grows-ended_without_implied first (has_name name) p h

pub grows-start_item : (first : List Edit) → (test : (Open → Bool)) → (tag : StartTagOf) → (p : Parser) → Extends first p.page.edits → Extends first
    (start_item test tag p).page.edits
grows-start_item first test tag p h = let noted : Parser = not_frameset_ok p in let h-noted : Extends first noted.page.edits = grows-not_frameset_ok first p h in grows-insert first tag ((without_paragraph (without_item_of (item_met test noted.page.opened) noted))) (grows-without_paragraph first ((without_item_of (item_met test noted.page.opened) noted)) (grows-without_item_of first (item_met test noted.page.opened) noted h-noted))

pub grows-start_plaintext : (first : List Edit) → (tag : StartTagOf) → (p : Parser) → Extends first p.page.edits → Extends first
    (start_plaintext tag p).page.edits
grows-start_plaintext first tag p h = grows-asked first ReadPlain (start_block tag p) (grows-start_block first tag p h)

pub grows-end_block : (first : List Edit) → (test : (Open → Bool)) → (p : Parser) → Extends first p.page.edits → Extends first
    (end_block test p).page.edits
grows-end_block first test p h = grows-if-parser first (in_scope test p) (ended test p) (unexpected p) (grows-ended first test p h)
    (grows-unexpected first p h)

pub grows-end_list_item : (first : List Edit) → (p : Parser) → Extends first p.page.edits → Extends first (end_list_item p).page.edits
grows-end_list_item first p h = grows-if-parser first (has_in_scope ends_list_scope (has_kind is_list_item) p.page.opened) (ended_without_implied
    (has_kind is_list_item) p) (unexpected p) (grows-ended_without_implied first (has_kind is_list_item) p h) (grows-unexpected first p h)

pub grows-end_description : (first : List Edit) → (name : List ℕ) → (p : Parser) → Extends first p.page.edits → Extends first
    (end_description name p).page.edits
grows-end_description first name p h = grows-if-parser first (in_scope (has_name name) p) (ended_without_implied (has_name name) p) (unexpected p)
    (grows-ended_without_implied first (has_name name) p h) (grows-unexpected first p h)

pub grows-end_heading : (first : List Edit) → (name : List ℕ) → (p : Parser) → Extends first p.page.edits → Extends first
    (end_heading name p).page.edits
grows-end_heading first name p h = grows-if-parser first (in_scope (has_kind is_heading) p) (pop_until (has_kind is_heading) (expects_current
    (has_name name) (implied_ended p))) (unexpected p) (grows-pop_until first (has_kind is_heading) ((expects_current (has_name name)
    (implied_ended p))) (grows-expects_current first (has_name name) (implied_ended p) (grows-implied_ended first p h))) (grows-unexpected first p h)

pub grows-end_paragraph : (first : List Edit) → (p : Parser) → Extends first p.page.edits → Extends first (end_paragraph p).page.edits
grows-end_paragraph first p h = grows-paragraph_closed first ((if in_button_scope (has_kind is_paragraph) p then p else insert (bare_tag
    (codes "p")) (unexpected p))) (grows-if-parser first (in_button_scope (has_kind is_paragraph) p) p (insert (bare_tag (codes "p"))
    (unexpected p)) h (grows-insert first ((bare_tag (codes "p"))) (unexpected p) (grows-unexpected first p h)))

pub grows-insert_form : (first : List Edit) → (tag : StartTagOf) → (p : Parser) → Extends first p.page.edits → Extends first
    (insert_form tag p).page.edits
grows-insert_form first tag p h = let ready : Parser = without_paragraph p in let h-ready : Extends first ready.page.edits = grows-without_paragraph first p h in grows-inserted first Form (codes "form") tag.attributes ready h-ready

pub grows-start_form_outside : (first : List Edit) → (n : Option ℕ) → (tag : StartTagOf) → (p : Parser) → Extends first p.page.edits → Extends first
    (start_form_outside n tag p).page.edits
grows-start_form_outside first None tag p h = grows-insert_form first tag p h
grows-start_form_outside first (Some n) tag p h = grows-unexpected first p h

pub grows-start_form : (first : List Edit) → (tag : StartTagOf) → (p : Parser) → Extends first p.page.edits → Extends first
    (start_form tag p).page.edits
grows-start_form first tag p h = grows-if-parser first (has_template p) (start_block tag p) (start_form_outside p.form tag p)
    (grows-start_block first tag p h) (grows-start_form_outside first p.form tag p h)

pub grows-end_form_of : (first : List Edit) → (n : Option ℕ) → (p : Parser) → Extends first p.page.edits → Extends first (end_form_of n p).page.edits
grows-end_form_of first None p h = grows-unexpected first p h
grows-end_form_of first
    (Some n) p h = let without : Parser = record p { form = None } in let h-without : Extends first without.page.edits = h in grows-if-parser first
    (in_scope (has_number n) p) (on_page (removed_from_stack n) (expects_current (has_number n) (implied_ended without))) (unexpected without)
    (grows-on_page first (removed_from_stack n) (λ first. grows-removed_from_stack first n) ((expects_current (has_number n)
    (implied_ended without))) (grows-expects_current first (has_number n) (implied_ended without) (grows-implied_ended first without h-without)))
    (grows-unexpected first without h-without)

pub grows-end_form : (first : List Edit) → (p : Parser) → Extends first p.page.edits → Extends first (end_form p).page.edits
grows-end_form first p h = grows-if-parser first (has_template p) (end_block (has_kind is_form) p) (end_form_of p.form p) (grows-end_block first
    (has_kind is_form) p h) (grows-end_form_of first p.form p h)

pub grows-start_button : (first : List Edit) → (tag : StartTagOf) → (p : Parser) → Extends first p.page.edits → Extends first
    (start_button tag p).page.edits
grows-start_button first tag p h = let ready : Parser = if in_scope (has_kind is_button) p then pop_until (has_kind is_button) (implied_ended
    (unexpected p)) else p in let h-ready : Extends first ready.page.edits = grows-if-parser first (in_scope (has_kind is_button) p) (pop_until
    (has_kind is_button) (implied_ended (unexpected p))) p (grows-pop_until first (has_kind is_button) ((implied_ended (unexpected p)))
    (grows-implied_ended first (unexpected p) (grows-unexpected first p h))) h in grows-not_frameset_ok first ((insert tag (reconstructed ready)))
    (grows-insert first tag (reconstructed ready) (grows-reconstructed first ready h-ready))

pub grows-start_formatting : (first : List Edit) → (tag : StartTagOf) → (p : Parser) → Extends first p.page.edits → Extends first
    (start_formatting tag p).page.edits
grows-start_formatting first tag p h = grows-insert_formatting first Formatting tag (reconstructed p) (grows-reconstructed first p h)

pub grows-start_font : (first : List Edit) → (tag : StartTagOf) → (p : Parser) → Extends first p.page.edits → Extends first
    (start_font tag p).page.edits
grows-start_font first tag p h = grows-insert_formatting first Font tag (reconstructed p) (grows-reconstructed first p h)

pub grows-removed_if_open : (first : List Edit) → (n : ℕ) → (p : Parser) → Extends first p.page.edits → Extends first (removed_if_open n p).page.edits
grows-removed_if_open first n p h = grows-if-parser first (has_open (has_number n) p.page.opened) (on_page (removed_from_stack n) p) p
    (grows-on_page first (removed_from_stack n) (λ first. grows-removed_from_stack first n) p h) h

pub grows-without_anchor : (first : List Edit) → (name : List ℕ) → (e : Option Listed) → (p : Parser) → Extends first p.page.edits → Extends first
    (without_anchor name e p).page.edits
grows-without_anchor first name None p h = h
grows-without_anchor first name (Some e) p h = let later : Parser = adoption_agency name
    (unexpected p) in let h-later : Extends first later.page.edits = grows-adoption_agency first name (unexpected p)
    (grows-unexpected first p h) in grows-removed_if_open first e.node (record later { formatting = without_entry e.node later.formatting }) h-later

pub grows-start_anchor : (first : List Edit) → (tag : StartTagOf) → (p : Parser) → Extends first p.page.edits → Extends first
    (start_anchor tag p).page.edits
grows-start_anchor first tag p h = grows-insert_formatting first Anchor tag ((reconstructed (without_anchor tag.name
    (last_named tag.name p.formatting) p))) (grows-reconstructed first ((without_anchor tag.name (last_named tag.name p.formatting) p))
    (grows-without_anchor first tag.name (last_named tag.name p.formatting) p h))

pub grows-without_no_break : (first : List Edit) → (name : List ℕ) → (p : Parser) → Extends first p.page.edits → Extends first
    (without_no_break name p).page.edits
grows-without_no_break first name p h = grows-if-parser first (in_scope (has_kind is_no_break) p) (reconstructed (adoption_agency name
    (unexpected p))) p (grows-reconstructed first ((adoption_agency name (unexpected p))) (grows-adoption_agency first name (unexpected p)
    (grows-unexpected first p h))) h

pub grows-start_no_break : (first : List Edit) → (tag : StartTagOf) → (p : Parser) → Extends first p.page.edits → Extends first
    (start_no_break tag p).page.edits
grows-start_no_break first tag p h = grows-insert_formatting first NoBreak tag ((without_no_break tag.name (reconstructed p)))
    (grows-without_no_break first tag.name (reconstructed p) (grows-reconstructed first p h))

pub grows-start_marked : (first : List Edit) → (tag : StartTagOf) → (p : Parser) → Extends first p.page.edits → Extends first
    (start_marked tag p).page.edits
grows-start_marked first tag p h = grows-not_frameset_ok first ((with_marker (insert tag (reconstructed p)))) (grows-with_marker first ((insert tag
    (reconstructed p))) (grows-insert first tag (reconstructed p) (grows-reconstructed first p h)))

pub grows-end_marked : (first : List Edit) → (name : List ℕ) → (p : Parser) → Extends first p.page.edits → Extends first
    (end_marked name p).page.edits
grows-end_marked first name p h = grows-if-parser first (in_scope (has_name name) p) (cleared_to_marker (ended (has_name name) p)) (unexpected p)
    (grows-cleared_to_marker first ((ended (has_name name) p)) (grows-ended first (has_name name) p h)) (grows-unexpected first p h)

pub grows-start_table : (first : List Edit) → (tag : StartTagOf) → (p : Parser) → Extends first p.page.edits → Extends first
    (start_table tag p).page.edits
grows-start_table first tag p h = grows-in_mode first InTable ((not_frameset_ok (insert tag
    (if is_quirks p.quirks_mode then p else without_paragraph p)))) (grows-not_frameset_ok first ((insert tag
    (if is_quirks p.quirks_mode then p else without_paragraph p))) (grows-insert first tag
    (if is_quirks p.quirks_mode then p else without_paragraph p) (grows-if-parser first (is_quirks p.quirks_mode) p (without_paragraph p) h
    (grows-without_paragraph first p h))))

pub grows-start_void : (first : List Edit) → (tag : StartTagOf) → (p : Parser) → Extends first p.page.edits → Extends first
    (start_void tag p).page.edits
grows-start_void first tag p h = grows-not_frameset_ok first ((insert_void tag (reconstructed p))) (grows-insert_void first tag (reconstructed p)
    (grows-reconstructed first p h))

pub grows-without_select : (first : List Edit) → (p : Parser) → Extends first p.page.edits → Extends first (without_select p).page.edits
grows-without_select first p h = grows-if-parser first (in_scope (has_kind is_select) p) (pop_until (has_kind is_select) (unexpected p)) p
    (grows-pop_until first (has_kind is_select) (unexpected p) (grows-unexpected first p h)) h

pub grows-insert_input : (first : List Edit) → (tag : StartTagOf) → (p : Parser) → Extends first p.page.edits → Extends first
    (insert_input tag p).page.edits
grows-insert_input first tag p h = let later : Parser = insert_void tag
    (reconstructed p) in let h-later : Extends first later.page.edits = grows-insert_void first tag (reconstructed p)
    (grows-reconstructed first p h) in grows-if-parser first (is_hidden tag) later (not_frameset_ok later) h-later
    (grows-not_frameset_ok first later h-later)

pub grows-start_input : (first : List Edit) → (tag : StartTagOf) → (p : Parser) → Extends first p.page.edits → Extends first
    (start_input tag p).page.edits
grows-start_input first tag p h = grows-if-parser first (is_in_select p.options.context) (unexpected p) (insert_input tag (without_select p))
    (grows-unexpected first p h) (grows-insert_input first tag (without_select p) (grows-without_select first p h))

pub grows-expects_no_option : (first : List Edit) → (test : (Open → Bool)) → (p : Parser) → Extends first p.page.edits → Extends first
    (expects_no_option test p).page.edits
grows-expects_no_option first test p h = grows-if-parser first (in_scope test p) (unexpected p) p (grows-unexpected first p h) h

pub grows-start_rule : (first : List Edit) → (tag : StartTagOf) → (p : Parser) → Extends first p.page.edits → Extends first
    (start_rule tag p).page.edits
grows-start_rule first tag p h = let ready : Parser = without_paragraph p in let h-ready : Extends first ready.page.edits = grows-without_paragraph first p h in grows-not_frameset_ok first ((insert_void tag (if in_scope (has_kind is_select) ready then expects_no_option is_option_or_group (implied_ended ready) else ready))) (grows-insert_void first tag ((if in_scope (has_kind is_select) ready then expects_no_option is_option_or_group (implied_ended ready) else ready)) (grows-if-parser first (in_scope (has_kind is_select) ready) (expects_no_option is_option_or_group (implied_ended ready)) ready (grows-expects_no_option first is_option_or_group (implied_ended ready) (grows-implied_ended first ready h-ready)) h-ready))

pub grows-start_textarea : (first : List Edit) → (tag : StartTagOf) → (p : Parser) → Extends first p.page.edits → Extends first
    (start_textarea tag p).page.edits
grows-start_textarea first tag p h = grows-insert_with_text first Rcdata tag p h

pub grows-start_xmp : (first : List Edit) → (tag : StartTagOf) → (p : Parser) → Extends first p.page.edits → Extends first
    (start_xmp tag p).page.edits
grows-start_xmp first tag p h = grows-insert_with_text first Rawtext tag ((not_frameset_ok (reconstructed (without_paragraph p))))
    (grows-not_frameset_ok first ((reconstructed (without_paragraph p))) (grows-reconstructed first (without_paragraph p)
    (grows-without_paragraph first p h)))

pub grows-start_select : (first : List Edit) → (tag : StartTagOf) → (p : Parser) → Extends first p.page.edits → Extends first
    (start_select tag p).page.edits
grows-start_select first tag p h = grows-if-parser first (is_in_select p.options.context) (unexpected p) (if in_scope
    (has_kind is_select) p then pop_until (has_kind is_select) (unexpected p) else not_frameset_ok (insert tag (reconstructed p)))
    (grows-unexpected first p h) (grows-if-parser first (in_scope (has_kind is_select) p) (pop_until (has_kind is_select) (unexpected p))
    (not_frameset_ok (insert tag (reconstructed p))) (grows-pop_until first (has_kind is_select) (unexpected p) (grows-unexpected first p h))
    (grows-not_frameset_ok first ((insert tag (reconstructed p))) (grows-insert first tag (reconstructed p) (grows-reconstructed first p h))))

pub grows-without_option : (first : List Edit) → (p : Parser) → Extends first p.page.edits → Extends first (without_option p).page.edits
grows-without_option first p h = grows-if-parser first (is_current is_select_option p) (pop p) p (grows-pop first p h) h

pub grows-start_option : (first : List Edit) → (tag : StartTagOf) → (p : Parser) → Extends first p.page.edits → Extends first
    (start_option tag p).page.edits
grows-start_option first tag p h = grows-insert first tag ((reconstructed (if in_scope (has_kind is_select) p then expects_no_option
    (has_kind is_select_option) (implied_ended_but (has_kind is_option_group) p) else without_option p))) (grows-reconstructed first ((if in_scope
    (has_kind is_select) p then expects_no_option (has_kind is_select_option) (implied_ended_but
    (has_kind is_option_group) p) else without_option p)) (grows-if-parser first (in_scope (has_kind is_select) p) (expects_no_option
    (has_kind is_select_option) (implied_ended_but (has_kind is_option_group) p)) (without_option p) (grows-expects_no_option first
    (has_kind is_select_option) ((implied_ended_but (has_kind is_option_group) p)) (grows-implied_ended_but first (has_kind is_option_group) p h))
    (grows-without_option first p h)))

pub grows-start_option_group : (first : List Edit) → (tag : StartTagOf) → (p : Parser) → Extends first p.page.edits → Extends first
    (start_option_group tag p).page.edits
grows-start_option_group first tag p h = grows-insert first tag ((reconstructed (if in_scope
    (has_kind is_select) p then expects_no_option is_option_or_group (implied_ended p) else without_option p))) (grows-reconstructed first
    ((if in_scope (has_kind is_select) p then expects_no_option is_option_or_group (implied_ended p) else without_option p)) (grows-if-parser first
    (in_scope (has_kind is_select) p) (expects_no_option is_option_or_group (implied_ended p)) (without_option p)
    (grows-expects_no_option first is_option_or_group (implied_ended p) (grows-implied_ended first p h)) (grows-without_option first p h)))

pub grows-start_ruby_base : (first : List Edit) → (tag : StartTagOf) → (p : Parser) → Extends first p.page.edits → Extends first
    (start_ruby_base tag p).page.edits
grows-start_ruby_base first tag p h = grows-insert first tag ((if in_scope (has_kind is_ruby) p then expects_current (has_kind is_ruby)
    (implied_ended p) else p)) (grows-if-parser first (in_scope (has_kind is_ruby) p) (expects_current (has_kind is_ruby) (implied_ended p)) p
    (grows-expects_current first (has_kind is_ruby) (implied_ended p) (grows-implied_ended first p h)) h)

pub grows-start_ruby_text : (first : List Edit) → (tag : StartTagOf) → (p : Parser) → Extends first p.page.edits → Extends first
    (start_ruby_text tag p).page.edits
grows-start_ruby_text first tag p h = grows-insert first tag ((if in_scope (has_kind is_ruby) p then expects_current is_ruby_or_container
    (implied_ended_but (has_kind is_ruby_container) p) else p)) (grows-if-parser first (in_scope (has_kind is_ruby) p)
    (expects_current is_ruby_or_container (implied_ended_but (has_kind is_ruby_container) p)) p (grows-expects_current first is_ruby_or_container
    ((implied_ended_but (has_kind is_ruby_container) p)) (grows-implied_ended_but first (has_kind is_ruby_container) p h)) h)

pub grows-popped_if_closed : (first : List Edit) → (true : Bool) → (p : Parser) → Extends first p.page.edits → Extends first
    (popped_if_closed true p).page.edits
grows-popped_if_closed first true p h = grows-acknowledges first (pop p) (grows-pop first p h)
grows-popped_if_closed first false p h = h

pub grows-insert_foreign : (first : List Edit) → (namespace : Namespace) → (tag : StartTagOf) → (p : Parser) → Extends first p.page.edits
    → Extends first (insert_foreign namespace tag p).page.edits
grows-insert_foreign first namespace tag p h = let name : List ℕ = adjusted_tag_name namespace tag.name in grows-inserted_at first ((place_of
    (depth_extra tag.self_closing) p)) (kind_in_namespace namespace name tag.attributes) name tag.attributes p h

pub grows-start_foreign : (first : List Edit) → (namespace : Namespace) → (tag : StartTagOf) → (p : Parser) → Extends first p.page.edits
    → Extends first (start_foreign namespace tag p).page.edits
grows-start_foreign first namespace tag p h = grows-popped_if_closed first tag.self_closing ((insert_foreign namespace tag (reconstructed p)))
    (grows-insert_foreign first namespace tag (reconstructed p) (grows-reconstructed first p h))

pub grows-any_other_start_tag : (first : List Edit) → (tag : StartTagOf) → (p : Parser) → Extends first p.page.edits → Extends first
    (any_other_start_tag tag p).page.edits
grows-any_other_start_tag first tag p h = grows-insert first tag (reconstructed p) (grows-reconstructed first p h)

pub grows-start_noscript : (first : List Edit) → (tag : StartTagOf) → (p : Parser) → Extends first p.page.edits → Extends first
    (start_noscript tag p).page.edits
grows-start_noscript first tag p h = grows-if-parser first (p.options.scripting) (insert_with_text Rawtext tag p) (any_other_start_tag tag p)
    (grows-insert_with_text first Rawtext tag p h) (grows-any_other_start_tag first tag p h)

pub grows-start_in_body : (first : List Edit) → (again : Again) → ((first : List Edit) → (q : Parser) → (t : Token) → Extends first q.page.edits
    → Extends first (again q t).page.edits) → (other : Kind) → (tag : StartTagOf) → (p : Parser) → Extends first p.page.edits → Extends first
    (start_in_body again other tag p).page.edits
grows-start_in_body first again h-again HtmlRoot tag p h = grows-start_html first tag p h
grows-start_in_body first again h-again Base tag p h = grows-start_in_head first Base tag p h
grows-start_in_body first again h-again Link tag p h = grows-start_in_head first Link tag p h
grows-start_in_body first again h-again Meta tag p h = grows-start_in_head first Meta tag p h
grows-start_in_body first again h-again Noframes tag p h = grows-start_in_head first Noframes tag p h
grows-start_in_body first again h-again Script tag p h = grows-start_in_head first Script tag p h
grows-start_in_body first again h-again Style tag p h = grows-start_in_head first Style tag p h
grows-start_in_body first again h-again Template tag p h = grows-start_in_head first Template tag p h
grows-start_in_body first again h-again Title tag p h = grows-start_in_head first Title tag p h
grows-start_in_body first again h-again Body tag p h = grows-start_body first tag p h
grows-start_in_body first again h-again Frameset tag p h = grows-start_frameset first tag p h
grows-start_in_body first again h-again Paragraph tag p h = grows-start_block first tag p h
grows-start_in_body first again h-again Address tag p h = grows-start_block first tag p h
grows-start_in_body first again h-again Division tag p h = grows-start_block first tag p h
grows-start_in_body first again h-again BreakoutBlock tag p h = grows-start_block first tag p h
grows-start_in_body first again h-again Block tag p h = grows-start_block first tag p h
grows-start_in_body first again h-again Dialog tag p h = grows-start_block first tag p h
grows-start_in_body first again h-again Fieldset tag p h = grows-start_block first tag p h
grows-start_in_body first again h-again ListBlock tag p h = grows-start_block first tag p h
grows-start_in_body first again h-again Heading tag p h = grows-insert first tag ((without_heading (without_paragraph p)))
    (grows-without_heading first (without_paragraph p) (grows-without_paragraph first p h))
grows-start_in_body first again h-again Preformatted tag p h = grows-start_preformatted first tag p h
grows-start_in_body first again h-again Form tag p h = grows-start_form first tag p h
grows-start_in_body first again h-again ListItem tag p h = grows-start_item first (has_kind is_list_item) tag p h
grows-start_in_body first again h-again Description tag p h = grows-start_item first (has_kind is_description) tag p h
grows-start_in_body first again h-again Plaintext tag p h = grows-start_plaintext first tag p h
grows-start_in_body first again h-again Button tag p h = grows-start_button first tag p h
grows-start_in_body first again h-again Anchor tag p h = grows-start_anchor first tag p h
grows-start_in_body first again h-again Formatting tag p h = grows-start_formatting first tag p h
grows-start_in_body first again h-again Font tag p h = grows-start_font first tag p h
grows-start_in_body first again h-again NoBreak tag p h = grows-start_no_break first tag p h
grows-start_in_body first again h-again Applet tag p h = grows-start_marked first tag p h
grows-start_in_body first again h-again Object tag p h = grows-start_marked first tag p h
grows-start_in_body first again h-again Table tag p h = grows-start_table first tag p h
grows-start_in_body first again h-again Void tag p h = grows-start_void first tag p h
grows-start_in_body first again h-again LineBreak tag p h = grows-start_void first tag p h
grows-start_in_body first again h-again Embed tag p h = grows-start_void first tag p h
grows-start_in_body first again h-again Image tag p h = grows-start_void first tag p h
grows-start_in_body first again h-again Input tag p h = grows-start_input first tag p h
grows-start_in_body first again h-again Parameter tag p h = grows-insert_void first tag p h
grows-start_in_body first again h-again Rule tag p h = grows-start_rule first tag p h
grows-start_in_body first again h-again MisnamedImage tag p h = h-again first (unexpected p) ((StartTag (record tag { name = codes "img" })))
    (grows-unexpected first p h)
grows-start_in_body first again h-again Textarea tag p h = grows-start_textarea first tag p h
grows-start_in_body first again h-again Xmp tag p h = grows-start_xmp first tag p h
grows-start_in_body first again h-again Iframe tag p h = grows-insert_with_text first Rawtext tag (not_frameset_ok p)
    (grows-not_frameset_ok first p h)
grows-start_in_body first again h-again Noembed tag p h = grows-insert_with_text first Rawtext tag p h
grows-start_in_body first again h-again Noscript tag p h = grows-start_noscript first tag p h
grows-start_in_body first again h-again Select tag p h = grows-start_select first tag p h
grows-start_in_body first again h-again SelectOption tag p h = grows-start_option first tag p h
grows-start_in_body first again h-again OptionGroup tag p h = grows-start_option_group first tag p h
grows-start_in_body first again h-again RubyBase tag p h = grows-start_ruby_base first tag p h
grows-start_in_body first again h-again RubyContainer tag p h = grows-start_ruby_base first tag p h
grows-start_in_body first again h-again RubyText tag p h = grows-start_ruby_text first tag p h
grows-start_in_body first again h-again MathRoot tag p h = grows-start_foreign first MathMl tag p h
grows-start_in_body first again h-again SvgRoot tag p h = grows-start_foreign first Svg tag p h
grows-start_in_body first again h-again Caption tag p h = grows-unexpected first p h
grows-start_in_body first again h-again Column tag p h = grows-unexpected first p h
grows-start_in_body first again h-again ColumnGroup tag p h = grows-unexpected first p h
grows-start_in_body first again h-again Frame tag p h = grows-unexpected first p h
grows-start_in_body first again h-again Head tag p h = grows-unexpected first p h
grows-start_in_body first again h-again TableBody tag p h = grows-unexpected first p h
grows-start_in_body first again h-again Cell tag p h = grows-unexpected first p h
grows-start_in_body first again h-again TableRow tag p h = grows-unexpected first p h
grows-start_in_body first again h-again other tag p h = grows-any_other_start_tag first tag p h

pub grows-end_in_body : (first : List Edit) → (again : Again) → ((first : List Edit) → (q : Parser) → (t : Token) → Extends first q.page.edits
    → Extends first (again q t).page.edits) → (other : Kind) → (name : List ℕ) → (p : Parser) → Extends first p.page.edits → Extends first
    (end_in_body again other name p).page.edits
grows-end_in_body first again h-again Template name p h = grows-end_template first p h
grows-end_in_body first again h-again Body name p h = grows-end_body first (λ later. later) (λ first later h-later. h-later) p h
grows-end_in_body first again h-again HtmlRoot name p h = grows-end_body first ((λ later. again later (EndTag name)))
    (λ first later h-later. h-again first later (EndTag name) h-later) p h
grows-end_in_body first again h-again Address name p h = grows-end_block first (has_name name) p h
grows-end_in_body first again h-again Division name p h = grows-end_block first (has_name name) p h
grows-end_in_body first again h-again BreakoutBlock name p h = grows-end_block first (has_name name) p h
grows-end_in_body first again h-again Block name p h = grows-end_block first (has_name name) p h
grows-end_in_body first again h-again Dialog name p h = grows-end_block first (has_name name) p h
grows-end_in_body first again h-again Fieldset name p h = grows-end_block first (has_name name) p h
grows-end_in_body first again h-again ListBlock name p h = grows-end_block first (has_name name) p h
grows-end_in_body first again h-again Preformatted name p h = grows-end_block first (has_name name) p h
grows-end_in_body first again h-again Button name p h = grows-end_block first (has_name name) p h
grows-end_in_body first again h-again Select name p h = grows-end_block first (has_name name) p h
grows-end_in_body first again h-again Form name p h = grows-end_form first p h
grows-end_in_body first again h-again Paragraph name p h = grows-end_paragraph first p h
grows-end_in_body first again h-again ListItem name p h = grows-end_list_item first p h
grows-end_in_body first again h-again Description name p h = grows-end_description first name p h
grows-end_in_body first again h-again Heading name p h = grows-end_heading first name p h
grows-end_in_body first again h-again Anchor name p h = grows-adoption_agency first name p h
grows-end_in_body first again h-again Formatting name p h = grows-adoption_agency first name p h
grows-end_in_body first again h-again Font name p h = grows-adoption_agency first name p h
grows-end_in_body first again h-again NoBreak name p h = grows-adoption_agency first name p h
grows-end_in_body first again h-again Applet name p h = grows-end_marked first name p h
grows-end_in_body first again h-again Object name p h = grows-end_marked first name p h
grows-end_in_body first again h-again LineBreak name p h = grows-start_void first ((bare_tag (codes "br"))) (unexpected p)
    (grows-unexpected first p h)
grows-end_in_body first again h-again other name p h = grows-any_other_end_tag first name p h

pub grows-in_body : (first : List Edit) → (again : Again) → ((first : List Edit) → (q : Parser) → (t : Token) → Extends first q.page.edits
    → Extends first (again q t).page.edits) → (c : Token) → (p : Parser) → Extends first p.page.edits → Extends first (in_body again c p).page.edits
grows-in_body first again h-again (Character c) p h = grows-character_in_body first c p h
grows-in_body first again h-again (Comment text) p h = grows-insert_comment first text p h
grows-in_body first again h-again (Doctype doctype) p h = grows-unexpected first p h
grows-in_body first again h-again (StartTag tag) p h = grows-start_in_body first again h-again (kind_of tag.name) tag p h
grows-in_body first again h-again (EndTag name) p h = grows-end_in_body first again h-again (kind_of name) name p h
grows-in_body first again h-again EndOfFile p h = grows-end_of_file_in_body first again h-again p h

pub grows-fostered : (first : List Edit) → (change : (Parser → Parser)) → ((first : List Edit) → (q : Parser) → Extends first q.page.edits
    → Extends first (change q).page.edits) → (p : Parser) → Extends first p.page.edits → Extends first (fostered change p).page.edits
grows-fostered first change h-change p h = h-change first ((record (unexpected p) { fostering = true })) (grows-unexpected first p h)

pub grows-table_other : (first : List Edit) → (again : Again) → ((first : List Edit) → (q : Parser) → (t : Token) → Extends first q.page.edits
    → Extends first (again q t).page.edits) → (token : Token) → (p : Parser) → Extends first p.page.edits → Extends first
    (table_other again token p).page.edits
grows-table_other first again h-again token p h = grows-fostered first (in_body again token) (λ first. grows-in_body first again h-again token) p h

pub grows-collects_text : (first : List Edit) → (again : Again) → ((first : List Edit) → (q : Parser) → (t : Token) → Extends first q.page.edits
    → Extends first (again q t).page.edits) → (token : Token) → (p : Parser) → Extends first p.page.edits → Extends first
    (collects_text again token p).page.edits
grows-collects_text first again h-again token p h = h-again first (record p { pending = []; original_mode = p.mode; mode = InTableText }) token h

pub grows-table_character : (first : List Edit) → (again : Again) → ((first : List Edit) → (q : Parser) → (t : Token) → Extends first q.page.edits
    → Extends first (again q t).page.edits) → (c : ℕ) → (p : Parser) → Extends first p.page.edits → Extends first
    (table_character again c p).page.edits
grows-table_character first again h-again c p h = grows-if-parser first (is_current takes_table_text p) (collects_text again (Character c) p)
    (table_other again (Character c) p) (grows-collects_text first again h-again (Character c) p h) (grows-table_other first again h-again
    (Character c) p h)

pub grows-to_table : (first : List Edit) → (p : Parser) → Extends first p.page.edits → Extends first (to_table p).page.edits
grows-to_table first p h = grows-cleared_back_to first ends_table_scope p h

pub grows-without_table : (first : List Edit) → (p : Parser) → Extends first p.page.edits → Extends first (without_table p).page.edits
grows-without_table first p h = grows-mode_reset first ((pop_until (has_kind is_table) p)) (grows-pop_until first (has_kind is_table) p h)

pub grows-form_in_table : (first : List Edit) → (n : Option ℕ) → (tag : StartTagOf) → (p : Parser) → Extends first p.page.edits → Extends first
    (form_in_table n tag p).page.edits
grows-form_in_table first (Some n) tag p h = h
grows-form_in_table first None tag p h = grows-pop first ((record (inserted Form (codes "form") tag.attributes p) { form = Some p.page.next }))
    (grows-inserted first Form (codes "form") tag.attributes p h)

pub grows-start_form_in_table : (first : List Edit) → (tag : StartTagOf) → (p : Parser) → Extends first p.page.edits → Extends first
    (start_form_in_table tag p).page.edits
grows-start_form_in_table first tag p h = grows-if-parser first (has_template p) (unexpected p) (form_in_table p.form tag (unexpected p))
    (grows-unexpected first p h) (grows-form_in_table first p.form tag (unexpected p) (grows-unexpected first p h))

pub grows-table_start : (first : List Edit) → (again : Again) → ((first : List Edit) → (q : Parser) → (t : Token) → Extends first q.page.edits
    → Extends first (again q t).page.edits) → (other : Kind) → (tag : StartTagOf) → (p : Parser) → Extends first p.page.edits → Extends first
    (table_start again other tag p).page.edits
grows-table_start first again h-again Caption tag p h = grows-in_mode first InCaption ((insert tag (with_marker (to_table p))))
    (grows-insert first tag ((with_marker (to_table p))) (grows-with_marker first (to_table p) (grows-to_table first p h)))
grows-table_start first again h-again ColumnGroup tag p h = grows-in_mode first InColumnGroup ((insert tag (to_table p))) (grows-insert first tag
    (to_table p) (grows-to_table first p h))
grows-table_start first again h-again Column tag p h = h-again first ((in_mode InColumnGroup (insert (bare_tag (codes "colgroup")) (to_table p))))
    (StartTag tag) (grows-in_mode first InColumnGroup ((insert (bare_tag (codes "colgroup")) (to_table p))) (grows-insert first ((bare_tag
    (codes "colgroup"))) (to_table p) (grows-to_table first p h)))
grows-table_start first again h-again TableBody tag p h = grows-in_mode first InTableBody ((insert tag (to_table p))) (grows-insert first tag
    (to_table p) (grows-to_table first p h))
grows-table_start first again h-again TableRow tag p h = h-again first ((in_mode InTableBody (insert (bare_tag (codes "tbody")) (to_table p))))
    (StartTag tag) (grows-in_mode first InTableBody ((insert (bare_tag (codes "tbody")) (to_table p))) (grows-insert first ((bare_tag
    (codes "tbody"))) (to_table p) (grows-to_table first p h)))
grows-table_start first again h-again Cell tag p h = h-again first ((in_mode InTableBody (insert (bare_tag (codes "tbody")) (to_table p))))
    (StartTag tag) (grows-in_mode first InTableBody ((insert (bare_tag (codes "tbody")) (to_table p))) (grows-insert first ((bare_tag
    (codes "tbody"))) (to_table p) (grows-to_table first p h)))
grows-table_start first again h-again Table tag p h = grows-if-parser first (in_table_scope (has_kind is_table) p) (again (without_table
    (unexpected p)) (StartTag tag)) (unexpected p) (h-again first ((without_table (unexpected p))) (StartTag tag) (grows-without_table first
    (unexpected p) (grows-unexpected first p h))) (grows-unexpected first p h)
grows-table_start first again h-again Style tag p h = grows-start_in_head first Style tag p h
grows-table_start first again h-again Script tag p h = grows-start_in_head first Script tag p h
grows-table_start first again h-again Template tag p h = grows-start_in_head first Template tag p h
grows-table_start first again h-again Input tag p h = grows-if-parser first (is_hidden tag) (insert_void tag (unexpected p)) (table_other again
    (StartTag tag) p) (grows-insert_void first tag (unexpected p) (grows-unexpected first p h)) (grows-table_other first again h-again
    (StartTag tag) p h)
grows-table_start first again h-again Form tag p h = grows-start_form_in_table first tag p h
grows-table_start first again h-again other tag p h = grows-table_other first again h-again (StartTag tag) p h

pub grows-table_end : (first : List Edit) → (again : Again) → ((first : List Edit) → (q : Parser) → (t : Token) → Extends first q.page.edits
    → Extends first (again q t).page.edits) → (kind : Kind) → (name : List ℕ) → (p : Parser) → Extends first p.page.edits → Extends first
    (table_end again kind name p).page.edits
grows-table_end first again h-again Table name p h = grows-if-parser first (in_table_scope (has_kind is_table) p) (without_table p) (unexpected p)
    (grows-without_table first p h) (grows-unexpected first p h)
grows-table_end first again h-again Template name p h = grows-end_template first p h
grows-table_end first again h-again kind name p h = grows-if-parser first (is_ignored_in_table kind) (unexpected p) (table_other again
    (EndTag name) p) (grows-unexpected first p h) (grows-table_other first again h-again (EndTag name) p h)

pub grows-in_table : (first : List Edit) → (again : Again) → ((first : List Edit) → (q : Parser) → (t : Token) → Extends first q.page.edits
    → Extends first (again q t).page.edits) → (c : Token) → (p : Parser) → Extends first p.page.edits → Extends first (in_table again c p).page.edits
grows-in_table first again h-again (Character c) p h = grows-table_character first again h-again c p h
grows-in_table first again h-again (Comment text) p h = grows-insert_comment first text p h
grows-in_table first again h-again (Doctype doctype) p h = grows-unexpected first p h
grows-in_table first again h-again (StartTag tag) p h = grows-table_start first again h-again (kind_of tag.name) tag p h
grows-in_table first again h-again (EndTag name) p h = grows-table_end first again h-again (kind_of name) name p h
grows-in_table first again h-again EndOfFile p h = grows-end_of_file_in_body first again h-again p h

pub grows-flushed_fostered : (first : List Edit) → (c : List ℕ) → (p : Parser) → Extends first p.page.edits → Extends first
    (flushed_fostered c p).page.edits
unfolding flushed_fostered
grows-flushed_fostered first [] p h = h
grows-flushed_fostered first (c ∷ text) p h = grows-flushed_fostered first text ((fostered (character_in_body c) p)) (grows-fostered first
    (character_in_body c) (λ first. grows-character_in_body first c) p h)

pub grows-flushed_as_space : (first : List Edit) → (c : List ℕ) → (p : Parser) → Extends first p.page.edits → Extends first
    (flushed_as_space c p).page.edits
unfolding flushed_as_space
grows-flushed_as_space first [] p h = h
grows-flushed_as_space first (c ∷ text) p h = grows-flushed_as_space first text (insert_character c p) (grows-insert_character first c p h)

pub grows-flushed : (first : List Edit) → (p : Parser) → Extends first p.page.edits → Extends first (flushed p).page.edits
grows-flushed first p h = grows-if-parser first (is_all_space p.pending) (flushed_as_space p.pending p) (flushed_fostered p.pending p)
    (grows-flushed_as_space first p.pending p h) (grows-flushed_fostered first p.pending p h)

pub grows-table_text_other : (first : List Edit) → (again : Again) → ((first : List Edit) → (q : Parser) → (t : Token) → Extends first q.page.edits
    → Extends first (again q t).page.edits) → (token : Token) → (p : Parser) → Extends first p.page.edits → Extends first
    (table_text_other again token p).page.edits
grows-table_text_other first again h-again token p h = h-again first ((record (flushed p) { pending = []; mode = p.original_mode })) token
    (grows-flushed first p h)

pub grows-in_table_text : (first : List Edit) → (again : Again) → ((first : List Edit) → (q : Parser) → (t : Token) → Extends first q.page.edits
    → Extends first (again q t).page.edits) → (c : Token) → (p : Parser) → Extends first p.page.edits → Extends first
    (in_table_text again c p).page.edits
grows-in_table_text first again h-again (Character c) p h = grows-if-parser first (is_null c) (unexpected p)
    (record p { pending = p.pending ++ c ∷ [] }) (grows-unexpected first p h) h
grows-in_table_text first again h-again token p h = grows-table_text_other first again h-again token p h

pub grows-without_caption : (first : List Edit) → (after : (Parser → Parser)) → ((first : List Edit) → (q : Parser) → Extends first q.page.edits
    → Extends first (after q).page.edits) → (p : Parser) → Extends first p.page.edits → Extends first (without_caption after p).page.edits
grows-without_caption first after h-after p h = grows-if-parser first (in_table_scope (has_kind is_caption) p) (after (in_mode InTable
    (cleared_to_marker (ended (has_kind is_caption) p)))) (unexpected p) (h-after first ((in_mode InTable (cleared_to_marker (ended
    (has_kind is_caption) p)))) (grows-in_mode first InTable ((cleared_to_marker (ended (has_kind is_caption) p))) (grows-cleared_to_marker first
    ((ended (has_kind is_caption) p)) (grows-ended first (has_kind is_caption) p h)))) (grows-unexpected first p h)

pub grows-caption_end : (first : List Edit) → (again : Again) → ((first : List Edit) → (q : Parser) → (t : Token) → Extends first q.page.edits
    → Extends first (again q t).page.edits) → (kind : Kind) → (name : List ℕ) → (p : Parser) → Extends first p.page.edits → Extends first
    (caption_end again kind name p).page.edits
grows-caption_end first again h-again Caption name p h = grows-without_caption first (λ later. later) (λ first later h-later. h-later) p h
grows-caption_end first again h-again Table name p h = grows-without_caption first ((λ later. again later (EndTag name)))
    (λ first later h-later. h-again first later (EndTag name) h-later) p h
grows-caption_end first again h-again kind name p h = grows-if-parser first (is_ignored_in_table kind) (unexpected p) (in_body again
    (EndTag name) p) (grows-unexpected first p h) (grows-in_body first again h-again (EndTag name) p h)

pub grows-in_caption : (first : List Edit) → (again : Again) → ((first : List Edit) → (q : Parser) → (t : Token) → Extends first q.page.edits
    → Extends first (again q t).page.edits) → (tag : Token) → (p : Parser) → Extends first p.page.edits → Extends first
    (in_caption again tag p).page.edits
grows-in_caption first again h-again (StartTag tag) p h = grows-if-parser first (is_part (kind_of tag.name)) (without_caption (λ later. again later
    (StartTag tag)) p) (in_body again (StartTag tag) p) (grows-without_caption first ((λ later. again later (StartTag tag)))
    (λ first later h-later. h-again first later (StartTag tag) h-later) p h) (grows-in_body first again h-again (StartTag tag) p h)
grows-in_caption first again h-again (EndTag name) p h = grows-caption_end first again h-again (kind_of name) name p h
grows-in_caption first again h-again token p h = grows-in_body first again h-again token p h

pub grows-without_column_group : (first : List Edit) → (after : (Parser → Parser)) → ((first : List Edit) → (q : Parser)
    → Extends first q.page.edits → Extends first (after q).page.edits) → (p : Parser) → Extends first p.page.edits → Extends first
    (without_column_group after p).page.edits
grows-without_column_group first after h-after p h = grows-if-parser first (is_current is_column_group p) (after (in_mode InTable (pop p)))
    (unexpected p) (h-after first ((in_mode InTable (pop p))) (grows-in_mode first InTable (pop p) (grows-pop first p h)))
    (grows-unexpected first p h)

pub grows-column_group_other : (first : List Edit) → (again : Again) → ((first : List Edit) → (q : Parser) → (t : Token)
    → Extends first q.page.edits → Extends first (again q t).page.edits) → (token : Token) → (p : Parser) → Extends first p.page.edits
    → Extends first (column_group_other again token p).page.edits
grows-column_group_other first again h-again token p h = grows-without_column_group first (λ later. again later token)
    (λ first later h-later. h-again first later token h-later) p h

pub grows-column_group_start : (first : List Edit) → (again : Again) → ((first : List Edit) → (q : Parser) → (t : Token)
    → Extends first q.page.edits → Extends first (again q t).page.edits) → (other : Kind) → (tag : StartTagOf) → (p : Parser)
    → Extends first p.page.edits → Extends first (column_group_start again other tag p).page.edits
grows-column_group_start first again h-again HtmlRoot tag p h = grows-start_html first tag p h
grows-column_group_start first again h-again Column tag p h = grows-insert_void first tag p h
grows-column_group_start first again h-again Template tag p h = grows-start_in_head first Template tag p h
grows-column_group_start first again h-again other tag p h = grows-column_group_other first again h-again (StartTag tag) p h

pub grows-column_group_end : (first : List Edit) → (again : Again) → ((first : List Edit) → (q : Parser) → (t : Token) → Extends first q.page.edits
    → Extends first (again q t).page.edits) → (other : Kind) → (name : List ℕ) → (p : Parser) → Extends first p.page.edits → Extends first
    (column_group_end again other name p).page.edits
grows-column_group_end first again h-again ColumnGroup name p h = grows-without_column_group first (λ later. later)
    (λ first later h-later. h-later) p h
grows-column_group_end first again h-again Column name p h = grows-unexpected first p h
grows-column_group_end first again h-again Template name p h = grows-end_template first p h
grows-column_group_end first again h-again other name p h = grows-column_group_other first again h-again (EndTag name) p h

pub grows-in_column_group : (first : List Edit) → (again : Again) → ((first : List Edit) → (q : Parser) → (t : Token) → Extends first q.page.edits
    → Extends first (again q t).page.edits) → (c : Token) → (p : Parser) → Extends first p.page.edits → Extends first
    (in_column_group again c p).page.edits
grows-in_column_group first again h-again (Character c) p h = grows-if-parser first (is_space c) (insert_character c p) (column_group_other again
    (Character c) p) (grows-insert_character first c p h) (grows-column_group_other first again h-again (Character c) p h)
grows-in_column_group first again h-again (Comment text) p h = grows-insert_comment first text p h
grows-in_column_group first again h-again (Doctype doctype) p h = grows-unexpected first p h
grows-in_column_group first again h-again (StartTag tag) p h = grows-column_group_start first again h-again (kind_of tag.name) tag p h
grows-in_column_group first again h-again (EndTag name) p h = grows-column_group_end first again h-again (kind_of name) name p h
grows-in_column_group first again h-again EndOfFile p h = grows-end_of_file_in_body first again h-again p h

pub grows-to_body : (first : List Edit) → (p : Parser) → Extends first p.page.edits → Extends first (to_body p).page.edits
grows-to_body first p h = grows-cleared_back_to first is_body_context p h

pub grows-without_table_body : (first : List Edit) → (scoped : Bool) → (after : (Parser → Parser)) → ((first : List Edit) → (q : Parser)
    → Extends first q.page.edits → Extends first (after q).page.edits) → (p : Parser) → Extends first p.page.edits → Extends first
    (without_table_body scoped after p).page.edits
grows-without_table_body first scoped after h-after p h = grows-if-parser first (scoped) (after (in_mode InTable (pop (to_body p)))) (unexpected p)
    (h-after first ((in_mode InTable (pop (to_body p)))) (grows-in_mode first InTable ((pop (to_body p))) (grows-pop first (to_body p)
    (grows-to_body first p h)))) (grows-unexpected first p h)

pub grows-without_any_body : (first : List Edit) → (after : (Parser → Parser)) → ((first : List Edit) → (q : Parser) → Extends first q.page.edits
    → Extends first (after q).page.edits) → (p : Parser) → Extends first p.page.edits → Extends first (without_any_body after p).page.edits
grows-without_any_body first after h-after p h = grows-without_table_body first ((in_table_scope (has_kind is_table_body) p)) after h-after p h

pub grows-table_body_start : (first : List Edit) → (again : Again) → ((first : List Edit) → (q : Parser) → (t : Token) → Extends first q.page.edits
    → Extends first (again q t).page.edits) → (kind : Kind) → (tag : StartTagOf) → (p : Parser) → Extends first p.page.edits → Extends first
    (table_body_start again kind tag p).page.edits
grows-table_body_start first again h-again TableRow tag p h = grows-in_mode first InRow ((insert tag (to_body p))) (grows-insert first tag
    (to_body p) (grows-to_body first p h))
grows-table_body_start first again h-again Cell tag p h = h-again first ((in_mode InRow (insert (bare_tag (codes "tr")) (to_body (unexpected p)))))
    (StartTag tag) (grows-in_mode first InRow ((insert (bare_tag (codes "tr")) (to_body (unexpected p)))) (grows-insert first ((bare_tag
    (codes "tr"))) ((to_body (unexpected p))) (grows-to_body first (unexpected p) (grows-unexpected first p h))))
grows-table_body_start first again h-again kind tag p h = grows-if-parser first (is_part kind) (without_any_body (λ later. again later
    (StartTag tag)) p) (table_start again kind tag p) (grows-without_any_body first ((λ later. again later (StartTag tag)))
    (λ first later h-later. h-again first later (StartTag tag) h-later) p h) (grows-table_start first again h-again kind tag p h)

pub grows-table_body_end : (first : List Edit) → (again : Again) → ((first : List Edit) → (q : Parser) → (t : Token) → Extends first q.page.edits
    → Extends first (again q t).page.edits) → (kind : Kind) → (name : List ℕ) → (p : Parser) → Extends first p.page.edits → Extends first
    (table_body_end again kind name p).page.edits
grows-table_body_end first again h-again TableBody name p h = grows-without_table_body first ((in_table_scope (has_name name) p)) (λ later. later)
    (λ first later h-later. h-later) p h
grows-table_body_end first again h-again Table name p h = grows-without_any_body first ((λ later. again later (EndTag name)))
    (λ first later h-later. h-again first later (EndTag name) h-later) p h
grows-table_body_end first again h-again kind name p h = grows-table_end first again h-again kind name p h

pub grows-in_table_body : (first : List Edit) → (again : Again) → ((first : List Edit) → (q : Parser) → (t : Token) → Extends first q.page.edits
    → Extends first (again q t).page.edits) → (tag : Token) → (p : Parser) → Extends first p.page.edits → Extends first
    (in_table_body again tag p).page.edits
grows-in_table_body first again h-again (StartTag tag) p h = grows-table_body_start first again h-again (kind_of tag.name) tag p h
grows-in_table_body first again h-again (EndTag name) p h = grows-table_body_end first again h-again (kind_of name) name p h
grows-in_table_body first again h-again token p h = grows-in_table first again h-again token p h

pub grows-to_row : (first : List Edit) → (p : Parser) → Extends first p.page.edits → Extends first (to_row p).page.edits
grows-to_row first p h = grows-cleared_back_to first is_row_context p h

pub grows-without_row : (first : List Edit) → (after : (Parser → Parser)) → ((first : List Edit) → (q : Parser) → Extends first q.page.edits
    → Extends first (after q).page.edits) → (p : Parser) → Extends first p.page.edits → Extends first (without_row after p).page.edits
grows-without_row first after h-after p h = grows-if-parser first (in_table_scope (has_kind is_table_row) p) (after (in_mode InTableBody (pop
    (to_row p)))) (unexpected p) (h-after first ((in_mode InTableBody (pop (to_row p)))) (grows-in_mode first InTableBody ((pop (to_row p)))
    (grows-pop first (to_row p) (grows-to_row first p h)))) (grows-unexpected first p h)

pub grows-row_start : (first : List Edit) → (again : Again) → ((first : List Edit) → (q : Parser) → (t : Token) → Extends first q.page.edits
    → Extends first (again q t).page.edits) → (kind : Kind) → (tag : StartTagOf) → (p : Parser) → Extends first p.page.edits → Extends first
    (row_start again kind tag p).page.edits
grows-row_start first again h-again Cell tag p h = grows-with_marker first ((in_mode InCell (insert tag (to_row p)))) (grows-in_mode first InCell
    ((insert tag (to_row p))) (grows-insert first tag (to_row p) (grows-to_row first p h)))
grows-row_start first again h-again kind tag p h = grows-if-parser first (is_part kind) (without_row (λ later. again later (StartTag tag)) p)
    (table_start again kind tag p) (grows-without_row first ((λ later. again later (StartTag tag))) (λ first later h-later. h-again first later
    (StartTag tag) h-later) p h) (grows-table_start first again h-again kind tag p h)

pub grows-row_end_of_body : (first : List Edit) → (again : Again) → ((first : List Edit) → (q : Parser) → (t : Token) → Extends first q.page.edits
    → Extends first (again q t).page.edits) → (name : List ℕ) → (p : Parser) → Extends first p.page.edits → Extends first
    (row_end_of_body again name p).page.edits
grows-row_end_of_body first again h-again name p h = grows-if-parser first (in_table_scope (has_name name) p) ((if in_table_scope
    (has_kind is_table_row) p then without_row (λ later. again later (EndTag name)) p else p)) (unexpected p) (grows-if-parser first (in_table_scope
    (has_kind is_table_row) p) (without_row (λ later. again later (EndTag name)) p) p (grows-without_row first ((λ later. again later
    (EndTag name))) (λ first later h-later. h-again first later (EndTag name) h-later) p h) h) (grows-unexpected first p h)

pub grows-row_end : (first : List Edit) → (again : Again) → ((first : List Edit) → (q : Parser) → (t : Token) → Extends first q.page.edits
    → Extends first (again q t).page.edits) → (kind : Kind) → (name : List ℕ) → (p : Parser) → Extends first p.page.edits → Extends first
    (row_end again kind name p).page.edits
grows-row_end first again h-again TableRow name p h = grows-without_row first (λ later. later) (λ first later h-later. h-later) p h
grows-row_end first again h-again Table name p h = grows-without_row first ((λ later. again later (EndTag name)))
    (λ first later h-later. h-again first later (EndTag name) h-later) p h
grows-row_end first again h-again TableBody name p h = grows-row_end_of_body first again h-again name p h
grows-row_end first again h-again kind name p h = grows-table_end first again h-again kind name p h

pub grows-in_row : (first : List Edit) → (again : Again) → ((first : List Edit) → (q : Parser) → (t : Token) → Extends first q.page.edits
    → Extends first (again q t).page.edits) → (tag : Token) → (p : Parser) → Extends first p.page.edits → Extends first
    (in_row again tag p).page.edits
grows-in_row first again h-again (StartTag tag) p h = grows-row_start first again h-again (kind_of tag.name) tag p h
grows-in_row first again h-again (EndTag name) p h = grows-row_end first again h-again (kind_of name) name p h
grows-in_row first again h-again token p h = grows-in_table first again h-again token p h

pub grows-cell_closed : (first : List Edit) → (p : Parser) → Extends first p.page.edits → Extends first (cell_closed p).page.edits
grows-cell_closed first p h = grows-in_mode first InRow ((cleared_to_marker (ended (has_kind is_cell) p))) (grows-cleared_to_marker first ((ended
    (has_kind is_cell) p)) (grows-ended first (has_kind is_cell) p h))

pub grows-end_cell : (first : List Edit) → (name : List ℕ) → (p : Parser) → Extends first p.page.edits → Extends first (end_cell name p).page.edits
grows-end_cell first name p h = grows-if-parser first (in_table_scope (has_name name) p) (in_mode InRow (cleared_to_marker (ended
    (has_name name) p))) (unexpected p) (grows-in_mode first InRow ((cleared_to_marker (ended (has_name name) p))) (grows-cleared_to_marker first
    ((ended (has_name name) p)) (grows-ended first (has_name name) p h))) (grows-unexpected first p h)

pub grows-end_around_cell : (first : List Edit) → (again : Again) → ((first : List Edit) → (q : Parser) → (t : Token) → Extends first q.page.edits
    → Extends first (again q t).page.edits) → (name : List ℕ) → (p : Parser) → Extends first p.page.edits → Extends first
    (end_around_cell again name p).page.edits
grows-end_around_cell first again h-again name p h = grows-if-parser first (in_table_scope (has_name name) p) (again (cell_closed p) (EndTag name))
    (unexpected p) (h-again first (cell_closed p) (EndTag name) (grows-cell_closed first p h)) (grows-unexpected first p h)

pub grows-cell_end : (first : List Edit) → (again : Again) → ((first : List Edit) → (q : Parser) → (t : Token) → Extends first q.page.edits
    → Extends first (again q t).page.edits) → (kind : Kind) → (name : List ℕ) → (p : Parser) → Extends first p.page.edits → Extends first
    (cell_end again kind name p).page.edits
grows-cell_end first again h-again Cell name p h = grows-end_cell first name p h
grows-cell_end first again h-again Body name p h = grows-unexpected first p h
grows-cell_end first again h-again Caption name p h = grows-unexpected first p h
grows-cell_end first again h-again Column name p h = grows-unexpected first p h
grows-cell_end first again h-again ColumnGroup name p h = grows-unexpected first p h
grows-cell_end first again h-again HtmlRoot name p h = grows-unexpected first p h
grows-cell_end first again h-again Table name p h = grows-end_around_cell first again h-again name p h
grows-cell_end first again h-again TableBody name p h = grows-end_around_cell first again h-again name p h
grows-cell_end first again h-again TableRow name p h = grows-end_around_cell first again h-again name p h
grows-cell_end first again h-again kind name p h = grows-in_body first again h-again (EndTag name) p h

pub grows-in_cell : (first : List Edit) → (again : Again) → ((first : List Edit) → (q : Parser) → (t : Token) → Extends first q.page.edits
    → Extends first (again q t).page.edits) → (tag : Token) → (p : Parser) → Extends first p.page.edits → Extends first
    (in_cell again tag p).page.edits
grows-in_cell first again h-again (StartTag tag) p h = grows-if-parser first (is_part (kind_of tag.name)) (again (cell_closed p) (StartTag tag))
    (in_body again (StartTag tag) p) (h-again first (cell_closed p) (StartTag tag) (grows-cell_closed first p h)) (grows-in_body first again h-again
    (StartTag tag) p h)
grows-in_cell first again h-again (EndTag name) p h = grows-cell_end first again h-again (kind_of name) name p h
grows-in_cell first again h-again token p h = grows-in_body first again h-again token p h

pub grows-in_template_mode : (first : List Edit) → (again : Again) → ((first : List Edit) → (q : Parser) → (t : Token) → Extends first q.page.edits
    → Extends first (again q t).page.edits) → (mode : Mode) → (tag : StartTagOf) → (p : Parser) → Extends first p.page.edits → Extends first
    (in_template_mode again mode tag p).page.edits
grows-in_template_mode first again h-again mode tag p h = h-again first
    (record p { template_modes = mode ∷ without_template_mode p.template_modes; mode = mode }) (StartTag tag) h

pub grows-template_start : (first : List Edit) → (again : Again) → ((first : List Edit) → (q : Parser) → (t : Token) → Extends first q.page.edits
    → Extends first (again q t).page.edits) → (other : Kind) → (tag : StartTagOf) → (p : Parser) → Extends first p.page.edits → Extends first
    (template_start again other tag p).page.edits
grows-template_start first again h-again Base tag p h = grows-start_in_head first Base tag p h
grows-template_start first again h-again Link tag p h = grows-start_in_head first Link tag p h
grows-template_start first again h-again Meta tag p h = grows-start_in_head first Meta tag p h
grows-template_start first again h-again Noframes tag p h = grows-start_in_head first Noframes tag p h
grows-template_start first again h-again Script tag p h = grows-start_in_head first Script tag p h
grows-template_start first again h-again Style tag p h = grows-start_in_head first Style tag p h
grows-template_start first again h-again Template tag p h = grows-start_in_head first Template tag p h
grows-template_start first again h-again Title tag p h = grows-start_in_head first Title tag p h
grows-template_start first again h-again Caption tag p h = grows-in_template_mode first again h-again InTable tag p h
grows-template_start first again h-again ColumnGroup tag p h = grows-in_template_mode first again h-again InTable tag p h
grows-template_start first again h-again TableBody tag p h = grows-in_template_mode first again h-again InTable tag p h
grows-template_start first again h-again Column tag p h = grows-in_template_mode first again h-again InColumnGroup tag p h
grows-template_start first again h-again TableRow tag p h = grows-in_template_mode first again h-again InTableBody tag p h
grows-template_start first again h-again Cell tag p h = grows-in_template_mode first again h-again InRow tag p h
grows-template_start first again h-again other tag p h = grows-in_template_mode first again h-again InBody tag p h

pub grows-template_end : (first : List Edit) → (other : Kind) → (p : Parser) → Extends first p.page.edits → Extends first
    (template_end other p).page.edits
grows-template_end first Template p h = grows-end_template first p h
grows-template_end first other p h = grows-unexpected first p h

pub grows-in_template : (first : List Edit) → (again : Again) → ((first : List Edit) → (q : Parser) → (t : Token) → Extends first q.page.edits
    → Extends first (again q t).page.edits) → (tag : Token) → (p : Parser) → Extends first p.page.edits → Extends first
    (in_template again tag p).page.edits
grows-in_template first again h-again (StartTag tag) p h = grows-template_start first again h-again (kind_of tag.name) tag p h
grows-in_template first again h-again (EndTag name) p h = grows-template_end first (kind_of name) p h
grows-in_template first again h-again EndOfFile p h = grows-end_of_file_in_template first again h-again p h
grows-in_template first again h-again token p h = grows-in_body first again h-again token p h

pub grows-in_body_again : (first : List Edit) → (again : Again) → ((first : List Edit) → (q : Parser) → (t : Token) → Extends first q.page.edits
    → Extends first (again q t).page.edits) → (token : Token) → (p : Parser) → Extends first p.page.edits → Extends first
    (in_body_again again token p).page.edits
grows-in_body_again first again h-again token p h = h-again first ((in_mode InBody (unexpected p))) token (grows-in_mode first InBody (unexpected p)
    (grows-unexpected first p h))

pub grows-after_body_start : (first : List Edit) → (again : Again) → ((first : List Edit) → (q : Parser) → (t : Token) → Extends first q.page.edits
    → Extends first (again q t).page.edits) → (other : Kind) → (tag : StartTagOf) → (p : Parser) → Extends first p.page.edits → Extends first
    (after_body_start again other tag p).page.edits
grows-after_body_start first again h-again HtmlRoot tag p h = grows-start_html first tag p h
grows-after_body_start first again h-again other tag p h = grows-in_body_again first again h-again (StartTag tag) p h

pub grows-after_body_end : (first : List Edit) → (again : Again) → ((first : List Edit) → (q : Parser) → (t : Token) → Extends first q.page.edits
    → Extends first (again q t).page.edits) → (other : Kind) → (name : List ℕ) → (p : Parser) → Extends first p.page.edits → Extends first
    (after_body_end again other name p).page.edits
grows-after_body_end first again h-again HtmlRoot name p h = grows-if-parser first (is_fragment p) (unexpected p) (in_mode AfterAfterBody p)
    (grows-unexpected first p h) (grows-in_mode first AfterAfterBody p h)
grows-after_body_end first again h-again other name p h = grows-in_body_again first again h-again (EndTag name) p h

pub grows-after_body : (first : List Edit) → (again : Again) → ((first : List Edit) → (q : Parser) → (t : Token) → Extends first q.page.edits
    → Extends first (again q t).page.edits) → (c : Token) → (p : Parser) → Extends first p.page.edits → Extends first
    (after_body again c p).page.edits
grows-after_body first again h-again (Character c) p h = grows-if-parser first (is_space c) (character_in_body c p) (in_body_again again
    (Character c) p) (grows-character_in_body first c p h) (grows-in_body_again first again h-again (Character c) p h)
grows-after_body first again h-again (Comment text) p h = grows-insert_comment_in_root first text p h
grows-after_body first again h-again (Doctype doctype) p h = grows-unexpected first p h
grows-after_body first again h-again (StartTag tag) p h = grows-after_body_start first again h-again (kind_of tag.name) tag p h
grows-after_body first again h-again (EndTag name) p h = grows-after_body_end first again h-again (kind_of name) name p h
grows-after_body first again h-again EndOfFile p h = grows-stop_parsing first p h

pub grows-frameset_start : (first : List Edit) → (other : Kind) → (tag : StartTagOf) → (p : Parser) → Extends first p.page.edits → Extends first
    (frameset_start other tag p).page.edits
grows-frameset_start first HtmlRoot tag p h = grows-start_html first tag p h
grows-frameset_start first Frameset tag p h = grows-insert first tag p h
grows-frameset_start first Frame tag p h = grows-insert_void first tag p h
grows-frameset_start first Noframes tag p h = grows-start_in_head first Noframes tag p h
grows-frameset_start first other tag p h = grows-unexpected first p h

pub grows-frameset_closed : (first : List Edit) → (p : Parser) → Extends first p.page.edits → Extends first (frameset_closed p).page.edits
grows-frameset_closed first p h = let later : Parser = pop p in let h-later : Extends first later.page.edits = grows-pop first p h in grows-if-parser first (is_fragment p) later (if is_current is_frameset later then later else in_mode AfterFrameset later) h-later (grows-if-parser first (is_current is_frameset later) later (in_mode AfterFrameset later) h-later (grows-in_mode first AfterFrameset later h-later))

pub grows-frameset_end : (first : List Edit) → (other : Kind) → (p : Parser) → Extends first p.page.edits → Extends first
    (frameset_end other p).page.edits
grows-frameset_end first Frameset p h = grows-if-parser first (has_only_root p.page.opened) (unexpected p) (frameset_closed p)
    (grows-unexpected first p h) (grows-frameset_closed first p h)
grows-frameset_end first other p h = grows-unexpected first p h

pub grows-in_frameset : (first : List Edit) → (c : Token) → (p : Parser) → Extends first p.page.edits → Extends first (in_frameset c p).page.edits
grows-in_frameset first (Character c) p h = grows-if-parser first (is_space c) (insert_character c p) (unexpected p)
    (grows-insert_character first c p h) (grows-unexpected first p h)
grows-in_frameset first (Comment text) p h = grows-insert_comment first text p h
grows-in_frameset first (Doctype doctype) p h = grows-unexpected first p h
grows-in_frameset first (StartTag tag) p h = grows-frameset_start first (kind_of tag.name) tag p h
grows-in_frameset first (EndTag name) p h = grows-frameset_end first (kind_of name) p h
grows-in_frameset first EndOfFile p h = grows-stop_parsing first (if has_only_root p.page.opened then p else mistaken UnclosedAtEnd p)
    (grows-if-parser first (has_only_root p.page.opened) p (mistaken UnclosedAtEnd p) h (grows-mistaken first UnclosedAtEnd p h))

pub grows-after_frameset_start : (first : List Edit) → (other : Kind) → (tag : StartTagOf) → (p : Parser) → Extends first p.page.edits
    → Extends first (after_frameset_start other tag p).page.edits
grows-after_frameset_start first HtmlRoot tag p h = grows-start_html first tag p h
grows-after_frameset_start first Noframes tag p h = grows-start_in_head first Noframes tag p h
grows-after_frameset_start first other tag p h = grows-unexpected first p h

pub grows-after_frameset_end : (first : List Edit) → (other : Kind) → (p : Parser) → Extends first p.page.edits → Extends first
    (after_frameset_end other p).page.edits
grows-after_frameset_end first HtmlRoot p h = grows-in_mode first AfterAfterFrameset p h
grows-after_frameset_end first other p h = grows-unexpected first p h

pub grows-after_frameset : (first : List Edit) → (c : Token) → (p : Parser) → Extends first p.page.edits → Extends first
    (after_frameset c p).page.edits
grows-after_frameset first (Character c) p h = grows-if-parser first (is_space c) (insert_character c p) (unexpected p)
    (grows-insert_character first c p h) (grows-unexpected first p h)
grows-after_frameset first (Comment text) p h = grows-insert_comment first text p h
grows-after_frameset first (Doctype doctype) p h = grows-unexpected first p h
grows-after_frameset first (StartTag tag) p h = grows-after_frameset_start first (kind_of tag.name) tag p h
grows-after_frameset first (EndTag name) p h = grows-after_frameset_end first (kind_of name) p h
grows-after_frameset first EndOfFile p h = grows-stop_parsing first p h

pub grows-after_after_body : (first : List Edit) → (again : Again) → ((first : List Edit) → (q : Parser) → (t : Token) → Extends first q.page.edits
    → Extends first (again q t).page.edits) → (text : Token) → (p : Parser) → Extends first p.page.edits → Extends first
    (after_after_body again text p).page.edits
grows-after_after_body first again h-again (Comment text) p h = grows-insert_comment_in_document first text p h
grows-after_after_body first again h-again (Doctype doctype) p h = grows-unexpected first p h
grows-after_after_body first again h-again (Character c) p h = grows-if-parser first (is_space c) (character_in_body c p) (in_body_again again
    (Character c) p) (grows-character_in_body first c p h) (grows-in_body_again first again h-again (Character c) p h)
grows-after_after_body first again h-again (StartTag tag) p h = grows-after_body_start first again h-again (kind_of tag.name) tag p h
grows-after_after_body first again h-again (EndTag name) p h = grows-in_body_again first again h-again (EndTag name) p h
grows-after_after_body first again h-again EndOfFile p h = grows-stop_parsing first p h

pub grows-after_after_frameset : (first : List Edit) → (text : Token) → (p : Parser) → Extends first p.page.edits → Extends first
    (after_after_frameset text p).page.edits
grows-after_after_frameset first (Comment text) p h = grows-insert_comment_in_document first text p h
grows-after_after_frameset first (Doctype doctype) p h = grows-unexpected first p h
grows-after_after_frameset first (Character c) p h = grows-if-parser first (is_space c) (character_in_body c p) (unexpected p)
    (grows-character_in_body first c p h) (grows-unexpected first p h)
grows-after_after_frameset first (StartTag tag) p h = grows-after_frameset_start first (kind_of tag.name) tag p h
grows-after_after_frameset first (EndTag name) p h = grows-unexpected first p h
grows-after_after_frameset first EndOfFile p h = grows-stop_parsing first p h

pub grows-foreign_character : (first : List Edit) → (c : ℕ) → (p : Parser) → Extends first p.page.edits → Extends first
    (foreign_character c p).page.edits
grows-foreign_character first c p h = grows-if-parser first (is_null c) (insert_text replacement (unexpected p))
    (if is_space c then insert_character c p else not_frameset_ok (insert_character c p)) (grows-insert_text first replacement (unexpected p)
    (grows-unexpected first p h)) (grows-if-parser first (is_space c) (insert_character c p) (not_frameset_ok (insert_character c p))
    (grows-insert_character first c p h) (grows-not_frameset_ok first (insert_character c p) (grows-insert_character first c p h)))

pub grows-broken_out : (first : List Edit) → (in_html : InHtml) → ((first : List Edit) → (t : Token) → (q : Parser) → Extends first q.page.edits
    → Extends first (in_html t q).page.edits) → (token : Token) → (p : Parser) → Extends first p.page.edits → Extends first
    (broken_out in_html token p).page.edits
grows-broken_out first in_html h-in_html token p h = h-in_html first token ((pop_while stays_foreign (unexpected p)))
    (grows-pop_while first stays_foreign (unexpected p) (grows-unexpected first p h))

pub grows-run_script : (first : List Edit) → (p : Parser) → Extends first p.page.edits → Extends first (run_script p).page.edits
grows-run_script first p h = grows-asked first ((Run (current_number p.page.opened))) (pop p) (grows-pop first p h)

pub grows-closed_at_once : (first : List Edit) → (false : Bool) → (p : Parser) → Extends first p.page.edits → Extends first
    (closed_at_once false p).page.edits
grows-closed_at_once first false p h = h
grows-closed_at_once first true p h = grows-if-parser first (is_current is_svg_script p) (run_script (acknowledges p)) (popped_if_closed true p)
    (grows-run_script first (acknowledges p) (grows-acknowledges first p h)) (grows-popped_if_closed first true p h)

pub grows-foreign_start : (first : List Edit) → (tag : StartTagOf) → (p : Parser) → Extends first p.page.edits → Extends first
    (foreign_start tag p).page.edits
grows-foreign_start first tag p h = grows-closed_at_once first tag.self_closing ((insert_foreign (namespace_of
    (adjusted_kind p.options.context p.page.opened)) tag p)) (grows-insert_foreign first ((namespace_of
    (adjusted_kind p.options.context p.page.opened))) tag p h)

pub grows-foreign_end : (first : List Edit) → (in_html : InHtml) → ((first : List Edit) → (t : Token) → (q : Parser) → Extends first q.page.edits
    → Extends first (in_html t q).page.edits) → (name : List ℕ) → (e : List Open) → (p : Parser) → Extends first p.page.edits → Extends first
    (foreign_end in_html name e p).page.edits
unfolding foreign_end
grows-foreign_end first in_html h-in_html name [] p h = h
grows-foreign_end first in_html h-in_html name (e ∷ []) p h = h
grows-foreign_end first in_html h-in_html name (e ∷ outer ∷ es) p h = grows-if-parser first (has_lower_case name e) (pop_until
    (has_number e.node) p) (if is_html outer.kind then in_html (EndTag name) p else foreign_end in_html name (outer ∷ es) p) (grows-pop_until first
    (has_number e.node) p h) (grows-if-parser first (is_html outer.kind) (in_html (EndTag name) p) (foreign_end in_html name (outer ∷ es) p)
    (h-in_html first (EndTag name) p h) (grows-foreign_end first in_html h-in_html name (outer ∷ es) p h))

pub grows-expects_name : (first : List Edit) → (name : List ℕ) → (e : List Open) → (p : Parser) → Extends first p.page.edits → Extends first
    (expects_name name e p).page.edits
grows-expects_name first name [] p h = h
grows-expects_name first name (e ∷ es) p h = grows-if-parser first (has_lower_case name e) p (unexpected p) h (grows-unexpected first p h)

pub grows-any_other_foreign_end : (first : List Edit) → (in_html : InHtml) → ((first : List Edit) → (t : Token) → (q : Parser)
    → Extends first q.page.edits → Extends first (in_html t q).page.edits) → (name : List ℕ) → (p : Parser) → Extends first p.page.edits
    → Extends first (any_other_foreign_end in_html name p).page.edits
grows-any_other_foreign_end first in_html h-in_html name p h = grows-foreign_end first in_html h-in_html name p.page.opened
    (expects_name name p.page.opened p) (grows-expects_name first name p.page.opened p h)

pub grows-foreign_end_by_kind : (first : List Edit) → (in_html : InHtml) → ((first : List Edit) → (t : Token) → (q : Parser)
    → Extends first q.page.edits → Extends first (in_html t q).page.edits) → (other : Kind) → (name : List ℕ) → (p : Parser)
    → Extends first p.page.edits → Extends first (foreign_end_by_kind in_html other name p).page.edits
grows-foreign_end_by_kind first in_html h-in_html LineBreak name p h = grows-broken_out first in_html h-in_html (EndTag name) p h
grows-foreign_end_by_kind first in_html h-in_html Paragraph name p h = grows-broken_out first in_html h-in_html (EndTag name) p h
grows-foreign_end_by_kind first in_html h-in_html Script name p h = grows-if-parser first (is_current is_svg_script p) (run_script p)
    (any_other_foreign_end in_html name p) (grows-run_script first p h) (grows-any_other_foreign_end first in_html h-in_html name p h)
grows-foreign_end_by_kind first in_html h-in_html other name p h = grows-any_other_foreign_end first in_html h-in_html name p h

pub grows-in_foreign_content : (first : List Edit) → (in_html : InHtml) → ((first : List Edit) → (t : Token) → (q : Parser)
    → Extends first q.page.edits → Extends first (in_html t q).page.edits) → (c : Token) → (p : Parser) → Extends first p.page.edits → Extends first
    (in_foreign_content in_html c p).page.edits
grows-in_foreign_content first in_html h-in_html (Character c) p h = grows-foreign_character first c p h
grows-in_foreign_content first in_html h-in_html (Comment text) p h = grows-insert_comment first text p h
grows-in_foreign_content first in_html h-in_html (Doctype doctype) p h = grows-unexpected first p h
grows-in_foreign_content first in_html h-in_html (StartTag tag) p h = grows-if-parser first (is_breakout (kind_of tag.name) tag) (broken_out in_html
    (StartTag tag) p) (foreign_start tag p) (grows-broken_out first in_html h-in_html (StartTag tag) p h) (grows-foreign_start first tag p h)
grows-in_foreign_content first in_html h-in_html (EndTag name) p h = grows-foreign_end_by_kind first in_html h-in_html (kind_of name) name p h
grows-in_foreign_content first in_html h-in_html EndOfFile p h = h

pub grows-in_html_content : (first : List Edit) → (again : Again) → ((first : List Edit) → (q : Parser) → (t : Token) → Extends first q.page.edits
    → Extends first (again q t).page.edits) → (x1 : Mode) → (token : Token) → (p : Parser) → Extends first p.page.edits → Extends first
    (in_html_content again x1 token p).page.edits
grows-in_html_content first again h-again Initial token p h = grows-initial first again h-again token p h
grows-in_html_content first again h-again BeforeHtml token p h = grows-before_html first again h-again token p h
grows-in_html_content first again h-again BeforeHead token p h = grows-before_head first again h-again token p h
grows-in_html_content first again h-again InHead token p h = grows-in_head first again h-again token p h
grows-in_html_content first again h-again InHeadNoscript token p h = grows-in_head_noscript first again h-again token p h
grows-in_html_content first again h-again AfterHead token p h = grows-after_head first again h-again token p h
grows-in_html_content first again h-again InBody token p h = grows-in_body first again h-again token p h
grows-in_html_content first again h-again Text token p h = grows-text_mode first again h-again token p h
grows-in_html_content first again h-again InTable token p h = grows-in_table first again h-again token p h
grows-in_html_content first again h-again InTableText token p h = grows-in_table_text first again h-again token p h
grows-in_html_content first again h-again InCaption token p h = grows-in_caption first again h-again token p h
grows-in_html_content first again h-again InColumnGroup token p h = grows-in_column_group first again h-again token p h
grows-in_html_content first again h-again InTableBody token p h = grows-in_table_body first again h-again token p h
grows-in_html_content first again h-again InRow token p h = grows-in_row first again h-again token p h
grows-in_html_content first again h-again InCell token p h = grows-in_cell first again h-again token p h
grows-in_html_content first again h-again InTemplate token p h = grows-in_template first again h-again token p h
grows-in_html_content first again h-again AfterBody token p h = grows-after_body first again h-again token p h
grows-in_html_content first again h-again InFrameset token p h = grows-in_frameset first token p h
grows-in_html_content first again h-again AfterFrameset token p h = grows-after_frameset first token p h
grows-in_html_content first again h-again AfterAfterBody token p h = grows-after_after_body first again h-again token p h
grows-in_html_content first again h-again AfterAfterFrameset token p h = grows-after_after_frameset first token p h

pub grows-in_current_mode : (first : List Edit) → (again : Again) → ((first : List Edit) → (q : Parser) → (t : Token) → Extends first q.page.edits
    → Extends first (again q t).page.edits) → (token : Token) → (p : Parser) → Extends first p.page.edits → Extends first
    (in_current_mode again token p).page.edits
grows-in_current_mode first again h-again token p h = grows-in_html_content first again h-again p.mode token p h

pub grows-dispatched : (first : List Edit) → (again : Again) → ((first : List Edit) → (q : Parser) → (t : Token) → Extends first q.page.edits
    → Extends first (again q t).page.edits) → (token : Token) → (p : Parser) → Extends first p.page.edits → Extends first
    (dispatched again token p).page.edits
grows-dispatched first again h-again token p h = grows-if-parser first (takes_as_html (adjusted_kind p.options.context p.page.opened) token)
    (in_current_mode again token p) (in_foreign_content (in_current_mode again) token p) (grows-in_current_mode first again h-again token p h)
    (grows-in_foreign_content first (in_current_mode again) (λ first. grows-in_current_mode first again h-again) token p h)

pub grows-process : (first : List Edit) → (zero : ℕ) → (token : Token) → (p : Parser) → Extends first p.page.edits → Extends first
    (process zero token p).page.edits
unfolding process
grows-process first zero token p h = h
grows-process first (suc times) token p h = grows-dispatched first (λ later again. process times again later)
    (λ first later again h-later. grows-process first times again later h-later) token p h

pub grows-expects_acknowledged : (first : List Edit) → (token : Token) → (p : Parser) → Extends first p.page.edits → Extends first
    (expects_acknowledged token p).page.edits
grows-expects_acknowledged first token p h = grows-if-parser first (is_self_closing token && not p.acknowledged) (mistaken TrailingSolidus p) p
    (grows-mistaken first TrailingSolidus p h) h

pub grows-taken : (first : List Edit) → (token : Token) → (p : Parser) → Extends first p.page.edits → Extends first (taken token p).page.edits
grows-taken first token p h = let fresh : Parser = record p { ignores_newline = false; request = GoOn; acknowledged = false } in let h-fresh : Extends first fresh.page.edits = h in grows-if-parser first (is_ignored_newline p.ignores_newline token) fresh (expects_acknowledged token (process (enough p) token fresh)) h-fresh (grows-expects_acknowledged first token ((process (enough p) token fresh)) (grows-process first (enough p) token fresh h-fresh))

pub grows-step : (first : List Edit) → (token : Token) → (p : Parser) → Extends first p.page.edits → Extends first (step token p).page.edits
unfolding step
grows-step first token p h = grows-taken first token p h

pub grows-run : (first : List Edit) → (token : List Token) → (p : Parser) → Extends first p.page.edits → Extends first (run token p).page.edits
unfolding run
grows-run first [] p h = h
grows-run first (token ∷ tokens) p h = grows-run first tokens (step token p) (grows-step first token p h)

pub grows-told : (first : List Edit) → (message : Told) → (p : Parser) → Extends first p.page.edits → Extends first (told message p).page.edits
grows-told first message p h = grows-run first (tokens_of message) p h

pub grows-told_all : (first : List Edit) → (message : List Told) → (p : Parser) → Extends first p.page.edits → Extends first
    (told_all message p).page.edits
unfolding told_all
grows-told_all first [] p h = h
grows-told_all first (message ∷ messages) p h = grows-told_all first messages (told message p) (grows-told first message p h)

pub grows-start_fragment : (first : List Edit) → (context : Context) → (p : Parser) → Extends first p.page.edits → Extends first
    (start_fragment context p).page.edits
grows-start_fragment first context p h = let rooted : Parser = with_root [] p in let h-rooted : Extends first rooted.page.edits = grows-with_root first [] p h in grows-mode_reset first (record rooted { template_modes = fragment_modes context.kind }) h-rooted

pub grows-start_by : (first : List Edit) → (context : Option Context) → (p : Parser) → Extends first p.page.edits → Extends first
    (start_by context p).page.edits
grows-start_by first None p h = h
grows-start_by first (Some context) p h = grows-start_fragment first context p h
