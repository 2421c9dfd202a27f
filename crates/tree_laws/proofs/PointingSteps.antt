-- After each step of tree construction its pointers name a head and a form. By `python3 tools/gen/parser_laws.py`, and not by hand; the steps that it rests on are in Pointing.
use Rattle.std.proofs.Common.{ℕ, Bool, true, false, List, [], ◌∷◌, ◌++◌}
use Rattle.std.specs.Prelude.{suc, zero, ◌&&◌, not, Option, Some, None, codes, if◌then◌else◌}
use Rattle.tree_laws.specs.Laws.{Extends}
use Rattle.html5ever_interface.specs.Token.{DoctypeOf, Told}
use Rattle.html5ever_interface.specs.declared.states.RawKind.{RawKind}
use Rattle.html5ever_interface.specs.declared.states.RawKind.TheVariants.{Rawtext, Rcdata, ScriptData}
use Rattle.markup5ever.specs.Names.{AttributeOf}
use Rattle.tree_construction.specs.Adjusting.{adjusted_tag_name}
use Rattle.tree_construction.specs.Adoption.{adopted, adopted_by, adoption_agency, any_other_end_tag, end_of, ended_by, furthest_block, is_unlisted, opened_inside, outer_loop, turn, unformatted}
use Rattle.tree_construction.specs.AfterBody.{after_after_body, after_after_frameset, after_body, after_body_end, after_body_start, after_frameset, after_frameset_end, after_frameset_start, frameset_closed, frameset_end, frameset_start, has_only_root, in_body_again, in_frameset, in_template, in_template_mode, template_end, template_start}
use Rattle.tree_construction.specs.BeforeBody.{add_to_root, after_head, after_head_end, after_head_other, after_head_start, asks_content, asks_encoding, back, before_head, before_head_other, before_head_start, before_html, before_html_other, before_html_start, current_number, end_template, ends_early, in_head, in_head_end, in_head_noscript, in_head_noscript_start, in_head_other, in_head_start, initial, initial_doctype, initial_other, insert_body, insert_head, is_content_type, mark_current, noscript_end, noscript_other, noscript_start, or_empty, put_doctype, set_quirks_mode, start_after_head, start_html, start_in_head, start_meta, start_script, start_template, template_closed, text_end, text_end_of_file, text_mode, with_root, within_head, within_head_of, without_template_mode}
use Rattle.tree_construction.specs.Construction.{dispatched, enough, expects_acknowledged, in_current_mode, in_html_content, is_ignored_newline, is_self_closing, process, run, step, taken, takes_as_html, told, told_all}
use Rattle.tree_construction.specs.Doctypes.{is_allowed, quirks_mode_of}
use Rattle.tree_construction.specs.ForeignContent.{InHtml, any_other_foreign_end, broken_out, closed_at_once, expects_name, foreign_character, foreign_end, foreign_end_by_kind, foreign_start, has_lower_case, in_foreign_content, is_breakout, replacement, run_script, stays_foreign}
use Rattle.tree_construction.specs.Formatting.{Listed, cleared_to_marker, insert_formatting, last_named, reconstructed, reopened, reopened_one, still_listed, to_reopen, with_marker, without_entry}
use Rattle.tree_construction.specs.InBody.{add_to_body, added_to_body, any_other_start_tag, character_in_body, depth_extra, end_block, end_body, end_description, end_form, end_form_of, end_heading, end_in_body, end_list_item, end_marked, end_of_file_by, end_of_file_in_body, end_of_file_in_template, end_paragraph, expects_closed, expects_no_option, has_body, in_body, insert_foreign, insert_input, is_hidden, is_in_select, is_option_or_group, is_quirks, is_ruby_or_container, item_met, popped_if_closed, removed_body, removed_if_open, start_anchor, start_block, start_body, start_button, start_font, start_foreign, start_form, start_form_outside, start_formatting, start_frameset, start_in_body, start_input, start_item, start_marked, start_no_break, start_noscript, start_option, start_option_group, start_plaintext, start_preformatted, start_ruby_base, start_ruby_text, start_rule, start_select, start_table, start_textarea, start_void, start_xmp, without_anchor, without_body, without_heading, without_item_of, without_no_break, without_option, without_select}
use Rattle.tree_construction.specs.Names.{ends_list_scope, ends_table_scope, is_body, is_body_context, is_button, is_caption, is_cell, is_column_group, is_description, is_form, is_frameset, is_heading, is_html, is_implied, is_implied_thoroughly, is_list_item, is_no_break, is_option_group, is_paragraph, is_row_context, is_ruby, is_ruby_container, is_script, is_select, is_select_option, is_svg_script, is_table, is_table_body, is_table_row, is_template, kind_in_namespace, kind_of, may_stay_open, namespace_of, takes_table_text}
use Rattle.tree_construction.specs.Page.{Edit, Open, Page, Place, comment_put, current_passes, edited, first_open, has_in_scope, has_kind, has_name, has_number, has_open, left, made, popped, popped_of, popped_to_first, popped_to_first_in, popped_until, popped_until_in, popped_while, popped_while_in, pushed, removed_from_stack, second_body, with_opened}
use Rattle.tree_construction.specs.Page.Edit.{AddAttributes, AssociateForm, MarkStarted, ParseError, Put, PutDoctype, PutText, Remove, SetQuirksMode}
use Rattle.tree_construction.specs.Page.Place.{LastChild}
use Rattle.tree_construction.specs.Parser.{Again, Parser, Request, acknowledges, adjusted_kind, all_implied_ended, asked, associated_with, cleared_back_to, ended, ended_without_implied, expects_current, has_template, implied_ended, implied_ended_but, in_button_scope, in_mode, in_scope, in_table_scope, insert, insert_character, insert_comment, insert_comment_in_document, insert_comment_in_root, insert_text, insert_void, insert_with_text, inserted, inserted_at, is_current, is_fragment, mistaken, not_frameset_ok, on_page, opened, paragraph_closed, place_in, place_of, pop, pop_until, pop_while, reads_text, stop_parsing, takes_form, unexpected, without_paragraph}
use Rattle.tree_construction.specs.Parser.Request.{GoOn, ReadPlain, ReadRaw, Run, UseCharset, UseContent}
use Rattle.tree_construction.specs.Resetting.{mode_of, mode_reset}
use Rattle.tree_construction.specs.Tables.{caption_end, cell_closed, cell_end, collects_text, column_group_end, column_group_other, column_group_start, end_around_cell, end_cell, flushed, flushed_as_space, flushed_fostered, form_in_table, fostered, in_caption, in_cell, in_column_group, in_row, in_table, in_table_body, in_table_text, is_all_space, is_ignored_in_table, is_part, row_end, row_end_of_body, row_start, start_form_in_table, table_body_end, table_body_start, table_character, table_end, table_other, table_start, table_text_other, to_body, to_row, to_table, without_any_body, without_caption, without_column_group, without_row, without_table, without_table_body}
use Rattle.tree_construction.specs.Tokens.{StartTagOf, Token, bare_tag, is_null, is_space, tokens_of, value_of}
use Rattle.tree_construction.specs.Tokens.Token.{Character, Comment, Doctype, EndOfFile, EndTag, StartTag}
use Rattle.tree_construction.specs.declared.kinds.Kind.{Kind}
use Rattle.tree_construction.specs.declared.kinds.Kind.TheVariants.{Address, Anchor, Applet, Base, Block, Body, BreakoutBlock, Button, Caption, Cell, Column, ColumnGroup, Description, Dialog, Division, Embed, Fieldset, Font, Form, Formatting, Frame, Frameset, Head, Heading, HtmlRoot, Iframe, Image, Input, LineBreak, Link, ListBlock, ListItem, MathRoot, Meta, MisnamedImage, NoBreak, Noembed, Noframes, Noscript, Object, OptionGroup, Paragraph, Parameter, Plaintext, Preformatted, RubyBase, RubyContainer, RubyText, Rule, Script, Select, SelectOption, Style, SvgRoot, Table, TableBody, TableRow, Template, Textarea, Title, Void, Xmp}
use Rattle.tree_construction.specs.declared.kinds.Namespace.{Namespace}
use Rattle.tree_construction.specs.declared.kinds.Namespace.TheVariants.{MathMl, Svg}
use Rattle.tree_construction.specs.declared.mistakes.Mistake.{Mistake}
use Rattle.tree_construction.specs.declared.mistakes.Mistake.TheVariants.{BadDoctype, FormattingNotInScope, FormattingNotOpen, MissingDoctype, TrailingSolidus, UnclosedAtEnd, UnclosedElements, UnexpectedToken}
use Rattle.tree_construction.specs.declared.modes.Mode.{Mode}
use Rattle.tree_construction.specs.declared.modes.Mode.TheVariants.{AfterAfterBody, AfterAfterFrameset, AfterBody, AfterFrameset, AfterHead, BeforeHead, BeforeHtml, InBody, InCaption, InCell, InColumnGroup, InFrameset, InHead, InHeadNoscript, InRow, InTable, InTableBody, InTableText, InTemplate, Initial, Text}
use Rattle.tree_construction.specs.declared.modes.QuirksMode.{QuirksMode}
use Rattle.tree_construction.specs.declared.modes.QuirksMode.TheVariants.{Quirks}
use Rattle.tree_laws.proofs.Pointing.{Points, points-adopted, points-comment_put, points-edited, points-end_form_of, points-form_in_table, points-if-page, points-if-parser, points-insert_form, points-insert_head, points-left, points-made, points-on_page, points-removed_from_stack}

pub points-with_opened : (first : List Edit) → (opened : List Open) → (page : Page) → Extends first page.edits → Extends first
    (with_opened opened page).edits
points-with_opened first opened page h = h

pub points-popped_of : (first : List Edit) → (e : List Open) → (page : Page) → Extends first page.edits → Extends first (popped_of e page).edits
points-popped_of first [] page h = h
points-popped_of first (e ∷ es) page h = points-left first e es page h

pub points-popped : (first : List Edit) → (page : Page) → Extends first page.edits → Extends first (popped page).edits
points-popped first page h = points-popped_of first page.opened page h

pub points-popped_until_in : (first : List Edit) → (test : (Open → Bool)) → (e : List Open) → (page : Page) → Extends first page.edits
    → Extends first (popped_until_in test e page).edits
unfolding popped_until_in
points-popped_until_in first test [] page h = h
points-popped_until_in first test (e ∷ es) page h = points-if-page first (test e) (left e es page) (popped_until_in test es (left e es page))
    (points-left first e es page h) (points-popped_until_in first test es (left e es page) (points-left first e es page h))

pub points-popped_until : (first : List Edit) → (test : (Open → Bool)) → (page : Page) → Extends first page.edits → Extends first
    (popped_until test page).edits
points-popped_until first test page h = points-popped_until_in first test page.opened page h

pub points-popped_while_in : (first : List Edit) → (test : (Open → Bool)) → (e : List Open) → (page : Page) → Extends first page.edits
    → Extends first (popped_while_in test e page).edits
unfolding popped_while_in
points-popped_while_in first test [] page h = h
points-popped_while_in first test (e ∷ es) page h = points-if-page first (test e) (popped_while_in test es (left e es page)) page
    (points-popped_while_in first test es (left e es page) (points-left first e es page h)) h

pub points-popped_while : (first : List Edit) → (test : (Open → Bool)) → (page : Page) → Extends first page.edits → Extends first
    (popped_while test page).edits
points-popped_while first test page h = points-popped_while_in first test page.opened page h

pub points-popped_to_first_in : (first : List Edit) → (e : List Open) → (page : Page) → Extends first page.edits → Extends first
    (popped_to_first_in e page).edits
unfolding popped_to_first_in
points-popped_to_first_in first [] page h = h
points-popped_to_first_in first (e ∷ []) page h = h
points-popped_to_first_in first (e ∷ es) page h = points-popped_to_first_in first es (left e es page) (points-left first e es page h)

pub points-popped_to_first : (first : List Edit) → (page : Page) → Extends first page.edits → Extends first (popped_to_first page).edits
points-popped_to_first first page h = points-popped_to_first_in first page.opened page h

pub points-pushed : (first : List Edit) → (kind : Kind) → (name : List ℕ) → (n : ℕ) → (page : Page) → Extends first page.edits → Extends first
    (pushed kind name n page).edits
points-pushed first kind name n page h = h

pub points-in_mode : (first : List Edit) → (mode : Mode) → (p : Parser) → Points p → Points (in_mode mode p)
points-in_mode first mode p h = h

pub points-not_frameset_ok : (first : List Edit) → (p : Parser) → Points p → Points (not_frameset_ok p)
points-not_frameset_ok first p h = h

pub points-mistaken : (first : List Edit) → (mistake : Mistake) → (p : Parser) → Points p → Points (mistaken mistake p)
points-mistaken first mistake p h = points-on_page first ((edited (ParseError mistake))) (λ first. points-edited first (ParseError mistake)) p h

pub points-unexpected : (first : List Edit) → (p : Parser) → Points p → Points (unexpected p)
points-unexpected first p h = points-mistaken first UnexpectedToken p h

pub points-asked : (first : List Edit) → (request : Request) → (p : Parser) → Points p → Points (asked request p)
points-asked first request p h = h

pub points-acknowledges : (first : List Edit) → (p : Parser) → Points p → Points (acknowledges p)
points-acknowledges first p h = h

pub points-pop : (first : List Edit) → (p : Parser) → Points p → Points (pop p)
points-pop first p h = points-on_page first popped (λ first. points-popped first) p h

pub points-pop_until : (first : List Edit) → (test : (Open → Bool)) → (p : Parser) → Points p → Points (pop_until test p)
points-pop_until first test p h = points-on_page first (popped_until test) (λ first. points-popped_until first test) p h

pub points-pop_while : (first : List Edit) → (test : (Open → Bool)) → (p : Parser) → Points p → Points (pop_while test p)
points-pop_while first test p h = points-on_page first (popped_while test) (λ first. points-popped_while first test) p h

pub points-cleared_back_to : (first : List Edit) → (context : (Kind → Bool)) → (p : Parser) → Points p → Points (cleared_back_to context p)
points-cleared_back_to first context p h = points-pop_while first ((λ e. not (context e.kind))) p h

pub points-expects_current : (first : List Edit) → (test : (Open → Bool)) → (p : Parser) → Points p → Points (expects_current test p)
points-expects_current first test p h = points-if-parser first (current_passes test p.page.opened) p (mistaken UnclosedElements p) h
    (points-mistaken first UnclosedElements p h)

pub points-implied_ended_but : (first : List Edit) → (but : (Open → Bool)) → (p : Parser) → Points p → Points (implied_ended_but but p)
points-implied_ended_but first but p h = points-pop_while first ((λ e. is_implied e.kind && not (but e))) p h

pub points-implied_ended : (first : List Edit) → (p : Parser) → Points p → Points (implied_ended p)
points-implied_ended first p h = points-pop_while first (has_kind is_implied) p h

pub points-all_implied_ended : (first : List Edit) → (p : Parser) → Points p → Points (all_implied_ended p)
points-all_implied_ended first p h = points-pop_while first (has_kind is_implied_thoroughly) p h

pub points-ended : (first : List Edit) → (test : (Open → Bool)) → (p : Parser) → Points p → Points (ended test p)
points-ended first test p h = points-pop_until first test ((expects_current test (implied_ended p))) (points-expects_current first test
    (implied_ended p) (points-implied_ended first p h))

pub points-ended_without_implied : (first : List Edit) → (test : (Open → Bool)) → (p : Parser) → Points p → Points (ended_without_implied test p)
points-ended_without_implied first test p h = points-pop_until first test ((expects_current test (implied_ended_but test p)))
    (points-expects_current first test (implied_ended_but test p) (points-implied_ended_but first test p h))

pub points-paragraph_closed : (first : List Edit) → (p : Parser) → Points p → Points (paragraph_closed p)
points-paragraph_closed first p h = points-ended_without_implied first (has_kind is_paragraph) p h

pub points-without_paragraph : (first : List Edit) → (p : Parser) → Points p → Points (without_paragraph p)
points-without_paragraph first p h = points-if-parser first (in_button_scope (has_kind is_paragraph) p) (paragraph_closed p) p
    (points-paragraph_closed first p h) h

pub points-associated_with : (first : List Edit) → (form : Option ℕ) → (takes : Bool) → (n : ℕ) → (place : Place) → (page : Page)
    → Extends first page.edits → Extends first (associated_with form takes n place page).edits
points-associated_with first None takes n place page h = h
points-associated_with first (Some form) takes n place page h = points-if-page first (takes) (edited (AssociateForm n form place) page) page
    (points-edited first (AssociateForm n form place) page h) h

pub points-inserted_at : (first : List Edit) → (place : Place) → (kind : Kind) → (name : List ℕ) → (attributes : List AttributeOf) → (p : Parser)
    → Points p → Points (inserted_at place kind name attributes p)
points-inserted_at first place kind name attributes p h = let n : ℕ = p.page.next in points-on_page first ((λ page. pushed kind name n (edited
    (Put place n) (associated_with p.form (takes_form p kind attributes) n place (made kind name attributes page)))))
    (λ first page h-page. points-pushed first kind name n ((edited (Put place n) (associated_with p.form (takes_form p kind attributes) n place
    (made kind name attributes page)))) (points-edited first (Put place n) ((associated_with p.form (takes_form p kind attributes) n place
    (made kind name attributes page))) (points-associated_with first p.form (takes_form p kind attributes) n place (made kind name attributes page)
    (points-made first kind name attributes page h-page)))) p h

pub points-inserted : (first : List Edit) → (kind : Kind) → (name : List ℕ) → (attributes : List AttributeOf) → (p : Parser) → Points p → Points
    (inserted kind name attributes p)
points-inserted first kind name attributes p h = points-inserted_at first (place_of 0 p) kind name attributes p h

pub points-insert : (first : List Edit) → (tag : StartTagOf) → (p : Parser) → Points p → Points (insert tag p)
points-insert first tag p h = points-inserted first (kind_of tag.name) tag.name tag.attributes p h

pub points-insert_void : (first : List Edit) → (tag : StartTagOf) → (p : Parser) → Points p → Points (insert_void tag p)
points-insert_void first tag p h = points-acknowledges first ((pop (inserted_at (place_of 1 p) (kind_of tag.name) tag.name tag.attributes p)))
    (points-pop first ((inserted_at (place_of 1 p) (kind_of tag.name) tag.name tag.attributes p)) (points-inserted_at first (place_of 1 p)
    (kind_of tag.name) tag.name tag.attributes p h))

pub points-insert_text : (first : List Edit) → (text : List ℕ) → (p : Parser) → Points p → Points (insert_text text p)
points-insert_text first text p h = points-on_page first ((edited (PutText (place_in p p.page.opened) text))) (λ first. points-edited first
    ((PutText (place_in p p.page.opened) text))) p h

pub points-insert_character : (first : List Edit) → (c : ℕ) → (p : Parser) → Points p → Points (insert_character c p)
points-insert_character first c p h = points-insert_text first (c ∷ []) p h

pub points-insert_comment : (first : List Edit) → (text : List ℕ) → (p : Parser) → Points p → Points (insert_comment text p)
points-insert_comment first text p h = points-on_page first ((comment_put (place_of 1 p) text)) (λ first. points-comment_put first
    (place_of 1 p) text) p h

pub points-insert_comment_in_document : (first : List Edit) → (text : List ℕ) → (p : Parser) → Points p → Points (insert_comment_in_document text p)
points-insert_comment_in_document first text p h = points-on_page first ((comment_put (LastChild 0) text)) (λ first. points-comment_put first
    (LastChild 0) text) p h

pub points-insert_comment_in_root : (first : List Edit) → (text : List ℕ) → (p : Parser) → Points p → Points (insert_comment_in_root text p)
points-insert_comment_in_root first text p h = points-on_page first ((comment_put (LastChild (first_open p.page.opened)) text))
    (λ first. points-comment_put first ((LastChild (first_open p.page.opened))) text) p h

pub points-reads_text : (first : List Edit) → (kind : RawKind) → (p : Parser) → Points p → Points (reads_text kind p)
points-reads_text first kind p h = points-asked first (ReadRaw kind) p h

pub points-insert_with_text : (first : List Edit) → (kind : RawKind) → (tag : StartTagOf) → (p : Parser) → Points p → Points
    (insert_with_text kind tag p)
points-insert_with_text first kind tag p h = points-reads_text first kind (insert tag p) (points-insert first tag p h)

pub points-stop_parsing : (first : List Edit) → (p : Parser) → Points p → Points (stop_parsing p)
points-stop_parsing first p h = points-pop_while first (λ e. true) p h

pub points-insert_formatting : (first : List Edit) → (kind : Kind) → (tag : StartTagOf) → (p : Parser) → Points p → Points
    (insert_formatting kind tag p)
points-insert_formatting first kind tag p h = points-inserted first kind tag.name tag.attributes p h

pub points-with_marker : (first : List Edit) → (p : Parser) → Points p → Points (with_marker p)
points-with_marker first p h = h

pub points-cleared_to_marker : (first : List Edit) → (p : Parser) → Points p → Points (cleared_to_marker p)
points-cleared_to_marker first p h = h

pub points-reopened_one : (first : List Edit) → (e : Listed) → (p : Parser) → Points p → Points (reopened_one e p)
points-reopened_one first e p h = points-inserted first e.kind e.name e.attributes p h

pub points-reopened : (first : List Edit) → (e : List Listed) → (p : Parser) → Points p → Points (reopened e p)
unfolding reopened
points-reopened first [] p h = h
points-reopened first (e ∷ es) p h = points-reopened_one first e (reopened es p) (points-reopened first es p h)

pub points-reconstructed : (first : List Edit) → (p : Parser) → Points p → Points (reconstructed p)
points-reconstructed first p h = points-reopened first (to_reopen p.page.opened p.formatting)
    (record p { formatting = still_listed p.page.opened p.formatting }) h

pub points-end_of : (first : List Edit) → (name : List ℕ) → (n : Option ℕ) → (p : Parser) → Points p → Points (end_of name n p)
points-end_of first name None p h = points-unexpected first p h
points-end_of first name (Some n) p h = points-pop_until first (has_number n) ((expects_current (has_number n) (implied_ended_but
    (has_name name) p))) (points-expects_current first (has_number n) ((implied_ended_but (has_name name) p)) (points-implied_ended_but first
    (has_name name) p h))

pub points-any_other_end_tag : (first : List Edit) → (name : List ℕ) → (p : Parser) → Points p → Points (any_other_end_tag name p)
points-any_other_end_tag first name p h = points-end_of first name (ended_by name p.page.opened) p h

pub points-unformatted : (first : List Edit) → (f : Listed) → (p : Parser) → Points p → Points (unformatted f p)
points-unformatted first f p h = points-pop_until first (has_number f.node) p h

pub points-adopted_by : (first : List Edit) → (again : (Parser → Parser)) → ((first : List Edit) → (q : Parser) → Points q → Points (again q)) →
    (f : Listed) → (d : Option ℕ) → (p : Parser) → Points p → Points (adopted_by again f d p)
points-adopted_by first again h-again f None p h = points-unformatted first f p h
points-adopted_by first again h-again f (Some d) p h = h-again first (adopted p f d) (points-adopted first p f d h)

pub points-turn : (first : List Edit) → (again : (Parser → Parser)) → ((first : List Edit) → (q : Parser) → Points q → Points (again q)) →
    (name : List ℕ) → (f : Option Listed) → (p : Parser) → Points p → Points (turn again name f p)
points-turn first again h-again name None p h = points-any_other_end_tag first name p h
points-turn first again h-again name (Some f) p h = points-if-parser first (not (has_open (has_number f.node) p.page.opened)) (record
    (mistaken FormattingNotOpen p) { formatting = without_entry f.node p.formatting }) (if not (in_scope
    (has_number f.node) p) then mistaken FormattingNotInScope p else adopted_by again f (furthest_block (opened_inside f.node p.page.opened))
    (expects_current (has_number f.node) p)) (points-mistaken first FormattingNotOpen p h) (points-if-parser first (not (in_scope
    (has_number f.node) p)) (mistaken FormattingNotInScope p) (adopted_by again f (furthest_block (opened_inside f.node p.page.opened))
    (expects_current (has_number f.node) p)) (points-mistaken first FormattingNotInScope p h) (points-adopted_by first again h-again f
    ((furthest_block (opened_inside f.node p.page.opened))) ((expects_current (has_number f.node) p)) (points-expects_current first
    (has_number f.node) p h)))

pub points-outer_loop : (first : List Edit) → (zero : ℕ) → (name : List ℕ) → (p : Parser) → Points p → Points (outer_loop zero name p)
unfolding outer_loop
points-outer_loop first zero name p h = h
points-outer_loop first (suc turns) name p h = points-turn first (λ later. outer_loop turns name later)
    (λ first later h-later. points-outer_loop first turns name later h-later) name (last_named name p.formatting) p h

pub points-adoption_agency : (first : List Edit) → (name : List ℕ) → (p : Parser) → Points p → Points (adoption_agency name p)
points-adoption_agency first name p h = points-if-parser first (current_passes (is_unlisted name p.formatting) p.page.opened) (pop p)
    (outer_loop 8 name p) (points-pop first p h) (points-outer_loop first 8 name p h)

pub points-mode_reset : (first : List Edit) → (p : Parser) → Points p → Points (mode_reset p)
points-mode_reset first p h = points-in_mode first (mode_of p p.page.opened) p h

pub points-set_quirks_mode : (first : List Edit) → (mode : QuirksMode) → (p : Parser) → Points p → Points (set_quirks_mode mode p)
points-set_quirks_mode first mode p h = points-on_page first ((edited (SetQuirksMode mode))) (λ first. points-edited first (SetQuirksMode mode)) p h

pub points-put_doctype : (first : List Edit) → (doctype : DoctypeOf) → (p : Parser) → Points p → Points (put_doctype doctype p)
points-put_doctype first doctype p h = points-on_page first ((edited (PutDoctype (or_empty doctype.name) (or_empty doctype.public_id)
    (or_empty doctype.system_id)))) (λ first. points-edited first ((PutDoctype (or_empty doctype.name) (or_empty doctype.public_id)
    (or_empty doctype.system_id)))) p h

pub points-initial_doctype : (first : List Edit) → (doctype : DoctypeOf) → (p : Parser) → Points p → Points (initial_doctype doctype p)
points-initial_doctype first doctype p h = let put : Parser = put_doctype doctype
    (if is_allowed doctype then p else mistaken BadDoctype p) in let h-put : Points put = points-put_doctype first doctype
    (if is_allowed doctype then p else mistaken BadDoctype p) (points-if-parser first (is_allowed doctype) p (mistaken BadDoctype p) h
    (points-mistaken first BadDoctype p h)) in points-in_mode first BeforeHtml ((if p.options.iframe_srcdoc then put else set_quirks_mode
    (quirks_mode_of doctype) put)) (points-if-parser first (p.options.iframe_srcdoc) put (set_quirks_mode (quirks_mode_of doctype) put) h-put
    (points-set_quirks_mode first (quirks_mode_of doctype) put h-put))

pub points-initial_other : (first : List Edit) → (again : Again) → ((first : List Edit) → (q : Parser) → (t : Token) → Points q → Points
    (again q t)) → (token : Token) → (p : Parser) → Points p → Points (initial_other again token p)
points-initial_other first again h-again token p h = h-again first ((in_mode BeforeHtml
    (if p.options.iframe_srcdoc then p else set_quirks_mode Quirks (mistaken MissingDoctype p)))) token (points-in_mode first BeforeHtml
    ((if p.options.iframe_srcdoc then p else set_quirks_mode Quirks (mistaken MissingDoctype p))) (points-if-parser first
    (p.options.iframe_srcdoc) p (set_quirks_mode Quirks (mistaken MissingDoctype p)) h (points-set_quirks_mode first Quirks
    (mistaken MissingDoctype p) (points-mistaken first MissingDoctype p h))))

pub points-initial : (first : List Edit) → (again : Again) → ((first : List Edit) → (q : Parser) → (t : Token) → Points q → Points (again q t)) →
    (c : Token) → (p : Parser) → Points p → Points (initial again c p)
points-initial first again h-again (Character c) p h = points-if-parser first (is_space c) p (initial_other again (Character c) p) h
    (points-initial_other first again h-again (Character c) p h)
points-initial first again h-again (Comment text) p h = points-insert_comment_in_document first text p h
points-initial first again h-again (Doctype doctype) p h = points-initial_doctype first doctype p h
points-initial first again h-again token p h = points-initial_other first again h-again token p h

pub points-with_root : (first : List Edit) → (attributes : List AttributeOf) → (p : Parser) → Points p → Points (with_root attributes p)
points-with_root first attributes p h = let n : ℕ = p.page.next in points-on_page first ((λ page. pushed HtmlRoot (codes "html") n (edited (Put
    (LastChild 0) n) (made HtmlRoot (codes "html") attributes page)))) (λ first page h-page. points-pushed first HtmlRoot (codes "html") n ((edited
    (Put (LastChild 0) n) (made HtmlRoot (codes "html") attributes page))) (points-edited first ((Put (LastChild 0) n)) ((made HtmlRoot
    (codes "html") attributes page)) (points-made first HtmlRoot (codes "html") attributes page h-page))) p h

pub points-before_html_other : (first : List Edit) → (again : Again) → ((first : List Edit) → (q : Parser) → (t : Token) → Points q → Points
    (again q t)) → (token : Token) → (p : Parser) → Points p → Points (before_html_other again token p)
points-before_html_other first again h-again token p h = h-again first ((in_mode BeforeHead (with_root [] p))) token
    (points-in_mode first BeforeHead (with_root [] p) (points-with_root first [] p h))

pub points-before_html_start : (first : List Edit) → (again : Again) → ((first : List Edit) → (q : Parser) → (t : Token) → Points q → Points
    (again q t)) → (other : Kind) → (tag : StartTagOf) → (p : Parser) → Points p → Points (before_html_start again other tag p)
points-before_html_start first again h-again HtmlRoot tag p h = points-in_mode first BeforeHead (with_root tag.attributes p)
    (points-with_root first tag.attributes p h)
points-before_html_start first again h-again other tag p h = points-before_html_other first again h-again (StartTag tag) p h

pub points-before_html : (first : List Edit) → (again : Again) → ((first : List Edit) → (q : Parser) → (t : Token) → Points q → Points (again q t))
    → (doctype : Token) → (p : Parser) → Points p → Points (before_html again doctype p)
points-before_html first again h-again (Doctype doctype) p h = points-unexpected first p h
points-before_html first again h-again (Comment text) p h = points-insert_comment_in_document first text p h
points-before_html first again h-again (Character c) p h = points-if-parser first (is_space c) p (before_html_other again (Character c) p) h
    (points-before_html_other first again h-again (Character c) p h)
points-before_html first again h-again (StartTag tag) p h = points-before_html_start first again h-again (kind_of tag.name) tag p h
points-before_html first again h-again (EndTag name) p h = points-if-parser first (ends_early (kind_of name)) (before_html_other again
    (EndTag name) p) (unexpected p) (points-before_html_other first again h-again (EndTag name) p h) (points-unexpected first p h)
points-before_html first again h-again EndOfFile p h = points-before_html_other first again h-again EndOfFile p h

pub points-add_to_root : (first : List Edit) → (tag : StartTagOf) → (p : Parser) → Points p → Points (add_to_root tag p)
points-add_to_root first tag p h = points-on_page first ((edited (AddAttributes (first_open p.page.opened) tag.attributes)))
    (λ first. points-edited first ((AddAttributes (first_open p.page.opened) tag.attributes))) p h

pub points-start_html : (first : List Edit) → (tag : StartTagOf) → (p : Parser) → Points p → Points (start_html tag p)
points-start_html first tag p h = points-if-parser first (has_template p) (unexpected p) (add_to_root tag (unexpected p))
    (points-unexpected first p h) (points-add_to_root first tag (unexpected p) (points-unexpected first p h))

pub points-before_head_other : (first : List Edit) → (again : Again) → ((first : List Edit) → (q : Parser) → (t : Token) → Points q → Points
    (again q t)) → (token : Token) → (p : Parser) → Points p → Points (before_head_other again token p)
points-before_head_other first again h-again token p h = h-again first ((insert_head (bare_tag (codes "head")) p)) token (points-insert_head first
    ((bare_tag (codes "head"))) p h)

pub points-before_head_start : (first : List Edit) → (again : Again) → ((first : List Edit) → (q : Parser) → (t : Token) → Points q → Points
    (again q t)) → (other : Kind) → (tag : StartTagOf) → (p : Parser) → Points p → Points (before_head_start again other tag p)
points-before_head_start first again h-again HtmlRoot tag p h = points-start_html first tag p h
points-before_head_start first again h-again Head tag p h = points-insert_head first tag p h
points-before_head_start first again h-again other tag p h = points-before_head_other first again h-again (StartTag tag) p h

pub points-before_head : (first : List Edit) → (again : Again) → ((first : List Edit) → (q : Parser) → (t : Token) → Points q → Points (again q t))
    → (c : Token) → (p : Parser) → Points p → Points (before_head again c p)
points-before_head first again h-again (Character c) p h = points-if-parser first (is_space c) p (before_head_other again (Character c) p) h
    (points-before_head_other first again h-again (Character c) p h)
points-before_head first again h-again (Comment text) p h = points-insert_comment first text p h
points-before_head first again h-again (Doctype doctype) p h = points-unexpected first p h
points-before_head first again h-again (StartTag tag) p h = points-before_head_start first again h-again (kind_of tag.name) tag p h
points-before_head first again h-again (EndTag name) p h = points-if-parser first (ends_early (kind_of name)) (before_head_other again
    (EndTag name) p) (unexpected p) (points-before_head_other first again h-again (EndTag name) p h) (points-unexpected first p h)
points-before_head first again h-again EndOfFile p h = points-before_head_other first again h-again EndOfFile p h

pub points-asks_content : (first : List Edit) → (true : Bool) → (content : Option (List ℕ)) → (p : Parser) → Points p → Points
    (asks_content true content p)
points-asks_content first true (Some content) p h = points-asked first (UseContent content) p h
points-asks_content first says content p h = h

pub points-asks_encoding : (first : List Edit) → (attributes : List AttributeOf) → (charset : Option (List ℕ)) → (p : Parser) → Points p → Points
    (asks_encoding attributes charset p)
points-asks_encoding first attributes (Some charset) p h = points-asked first (UseCharset charset) p h
points-asks_encoding first attributes None p h = points-asks_content first ((is_content_type (value_of (codes "http-equiv") attributes))) ((value_of
    (codes "content") attributes)) p h

pub points-start_meta : (first : List Edit) → (tag : StartTagOf) → (p : Parser) → Points p → Points (start_meta tag p)
points-start_meta first tag p h = points-asks_encoding first tag.attributes ((value_of (codes "charset") tag.attributes)) (insert_void tag p)
    (points-insert_void first tag p h)

pub points-mark_current : (first : List Edit) → (p : Parser) → Points p → Points (mark_current p)
points-mark_current first p h = points-on_page first ((edited (MarkStarted (current_number p.page.opened)))) (λ first. points-edited first
    ((MarkStarted (current_number p.page.opened)))) p h

pub points-start_script : (first : List Edit) → (tag : StartTagOf) → (p : Parser) → Points p → Points (start_script tag p)
points-start_script first tag p h = let later : Parser = insert tag p in let h-later : Points later = points-insert first tag p h in points-reads_text first ScriptData (if is_fragment p then mark_current later else later) (points-if-parser first (is_fragment p) (mark_current later) later (points-mark_current first later h-later) h-later)

pub points-start_template : (first : List Edit) → (tag : StartTagOf) → (p : Parser) → Points p → Points (start_template tag p)
points-start_template first tag p h = points-insert first tag ((record
    (with_marker p) { frameset_ok = false; mode = InTemplate; template_modes = InTemplate ∷ p.template_modes })) (points-with_marker first p h)

pub points-template_closed : (first : List Edit) → (p : Parser) → Points p → Points (template_closed p)
points-template_closed first p h = let popped : Parser = cleared_to_marker (pop_until
    (has_kind is_template) p) in let h-popped : Points popped = points-cleared_to_marker first ((pop_until (has_kind is_template) p))
    (points-pop_until first (has_kind is_template) p h) in points-mode_reset first
    (record popped { template_modes = without_template_mode popped.template_modes }) h-popped

pub points-end_template : (first : List Edit) → (p : Parser) → Points p → Points (end_template p)
points-end_template first p h = points-if-parser first (has_template p) (template_closed (expects_current (has_kind is_template)
    (all_implied_ended p))) (unexpected p) (points-template_closed first ((expects_current (has_kind is_template) (all_implied_ended p)))
    (points-expects_current first (has_kind is_template) (all_implied_ended p) (points-all_implied_ended first p h))) (points-unexpected first p h)

pub points-start_in_head : (first : List Edit) → (other : Kind) → (tag : StartTagOf) → (p : Parser) → Points p → Points (start_in_head other tag p)
points-start_in_head first Meta tag p h = points-start_meta first tag p h
points-start_in_head first Title tag p h = points-insert_with_text first Rcdata tag p h
points-start_in_head first Style tag p h = points-insert_with_text first Rawtext tag p h
points-start_in_head first Noframes tag p h = points-insert_with_text first Rawtext tag p h
points-start_in_head first Script tag p h = points-start_script first tag p h
points-start_in_head first Template tag p h = points-start_template first tag p h
points-start_in_head first other tag p h = points-insert_void first tag p h

pub points-in_head_other : (first : List Edit) → (again : Again) → ((first : List Edit) → (q : Parser) → (t : Token) → Points q → Points
    (again q t)) → (token : Token) → (p : Parser) → Points p → Points (in_head_other again token p)
points-in_head_other first again h-again token p h = h-again first ((in_mode AfterHead (pop p))) token (points-in_mode first AfterHead (pop p)
    (points-pop first p h))

pub points-in_head_noscript_start : (first : List Edit) → (tag : StartTagOf) → (p : Parser) → Points p → Points (in_head_noscript_start tag p)
points-in_head_noscript_start first tag p h = points-if-parser first (p.options.scripting) (insert_with_text Rawtext tag p) (in_mode InHeadNoscript
    (insert tag p)) (points-insert_with_text first Rawtext tag p h) (points-in_mode first InHeadNoscript (insert tag p) (points-insert first tag p h))

pub points-in_head_start : (first : List Edit) → (again : Again) → ((first : List Edit) → (q : Parser) → (t : Token) → Points q → Points
    (again q t)) → (other : Kind) → (tag : StartTagOf) → (p : Parser) → Points p → Points (in_head_start again other tag p)
points-in_head_start first again h-again HtmlRoot tag p h = points-start_html first tag p h
points-in_head_start first again h-again Head tag p h = points-unexpected first p h
points-in_head_start first again h-again Noscript tag p h = points-in_head_noscript_start first tag p h
points-in_head_start first again h-again Base tag p h = points-start_in_head first Base tag p h
points-in_head_start first again h-again Link tag p h = points-start_in_head first Link tag p h
points-in_head_start first again h-again Meta tag p h = points-start_in_head first Meta tag p h
points-in_head_start first again h-again Title tag p h = points-start_in_head first Title tag p h
points-in_head_start first again h-again Style tag p h = points-start_in_head first Style tag p h
points-in_head_start first again h-again Noframes tag p h = points-start_in_head first Noframes tag p h
points-in_head_start first again h-again Script tag p h = points-start_in_head first Script tag p h
points-in_head_start first again h-again Template tag p h = points-start_in_head first Template tag p h
points-in_head_start first again h-again other tag p h = points-in_head_other first again h-again (StartTag tag) p h

pub points-in_head_end : (first : List Edit) → (again : Again) → ((first : List Edit) → (q : Parser) → (t : Token) → Points q → Points (again q t))
    → (other : Kind) → (name : List ℕ) → (p : Parser) → Points p → Points (in_head_end again other name p)
points-in_head_end first again h-again Head name p h = points-in_mode first AfterHead (pop p) (points-pop first p h)
points-in_head_end first again h-again Body name p h = points-in_head_other first again h-again (EndTag name) p h
points-in_head_end first again h-again HtmlRoot name p h = points-in_head_other first again h-again (EndTag name) p h
points-in_head_end first again h-again LineBreak name p h = points-in_head_other first again h-again (EndTag name) p h
points-in_head_end first again h-again Template name p h = points-end_template first p h
points-in_head_end first again h-again other name p h = points-unexpected first p h

pub points-in_head : (first : List Edit) → (again : Again) → ((first : List Edit) → (q : Parser) → (t : Token) → Points q → Points (again q t)) →
    (c : Token) → (p : Parser) → Points p → Points (in_head again c p)
points-in_head first again h-again (Character c) p h = points-if-parser first (is_space c) (insert_character c p) (in_head_other again
    (Character c) p) (points-insert_character first c p h) (points-in_head_other first again h-again (Character c) p h)
points-in_head first again h-again (Comment text) p h = points-insert_comment first text p h
points-in_head first again h-again (Doctype doctype) p h = points-unexpected first p h
points-in_head first again h-again (StartTag tag) p h = points-in_head_start first again h-again (kind_of tag.name) tag p h
points-in_head first again h-again (EndTag name) p h = points-in_head_end first again h-again (kind_of name) name p h
points-in_head first again h-again EndOfFile p h = points-in_head_other first again h-again EndOfFile p h

pub points-noscript_other : (first : List Edit) → (again : Again) → ((first : List Edit) → (q : Parser) → (t : Token) → Points q → Points
    (again q t)) → (token : Token) → (p : Parser) → Points p → Points (noscript_other again token p)
points-noscript_other first again h-again token p h = h-again first ((in_mode InHead (pop (unexpected p)))) token (points-in_mode first InHead ((pop
    (unexpected p))) (points-pop first (unexpected p) (points-unexpected first p h)))

pub points-noscript_start : (first : List Edit) → (again : Again) → ((first : List Edit) → (q : Parser) → (t : Token) → Points q → Points
    (again q t)) → (other : Kind) → (tag : StartTagOf) → (p : Parser) → Points p → Points (noscript_start again other tag p)
points-noscript_start first again h-again HtmlRoot tag p h = points-start_html first tag p h
points-noscript_start first again h-again Link tag p h = points-start_in_head first Link tag p h
points-noscript_start first again h-again Meta tag p h = points-start_in_head first Meta tag p h
points-noscript_start first again h-again Noframes tag p h = points-start_in_head first Noframes tag p h
points-noscript_start first again h-again Style tag p h = points-start_in_head first Style tag p h
points-noscript_start first again h-again Head tag p h = points-unexpected first p h
points-noscript_start first again h-again Noscript tag p h = points-unexpected first p h
points-noscript_start first again h-again other tag p h = points-noscript_other first again h-again (StartTag tag) p h

pub points-noscript_end : (first : List Edit) → (again : Again) → ((first : List Edit) → (q : Parser) → (t : Token) → Points q → Points (again q t))
    → (other : Kind) → (name : List ℕ) → (p : Parser) → Points p → Points (noscript_end again other name p)
points-noscript_end first again h-again Noscript name p h = points-in_mode first InHead (pop p) (points-pop first p h)
points-noscript_end first again h-again LineBreak name p h = points-noscript_other first again h-again (EndTag name) p h
points-noscript_end first again h-again other name p h = points-unexpected first p h

pub points-in_head_noscript : (first : List Edit) → (again : Again) → ((first : List Edit) → (q : Parser) → (t : Token) → Points q → Points
    (again q t)) → (doctype : Token) → (p : Parser) → Points p → Points (in_head_noscript again doctype p)
points-in_head_noscript first again h-again (Doctype doctype) p h = points-unexpected first p h
points-in_head_noscript first again h-again (StartTag tag) p h = points-noscript_start first again h-again (kind_of tag.name) tag p h
points-in_head_noscript first again h-again (EndTag name) p h = points-noscript_end first again h-again (kind_of name) name p h
points-in_head_noscript first again h-again (Character c) p h = points-if-parser first (is_space c) (insert_character c p) (noscript_other again
    (Character c) p) (points-insert_character first c p h) (points-noscript_other first again h-again (Character c) p h)
points-in_head_noscript first again h-again (Comment text) p h = points-insert_comment first text p h
points-in_head_noscript first again h-again EndOfFile p h = points-noscript_other first again h-again EndOfFile p h

pub points-insert_body : (first : List Edit) → (tag : StartTagOf) → (p : Parser) → Points p → Points (insert_body tag p)
points-insert_body first tag p h = points-in_mode first InBody (insert tag p) (points-insert first tag p h)

pub points-after_head_other : (first : List Edit) → (again : Again) → ((first : List Edit) → (q : Parser) → (t : Token) → Points q → Points
    (again q t)) → (token : Token) → (p : Parser) → Points p → Points (after_head_other again token p)
points-after_head_other first again h-again token p h = h-again first ((insert_body (bare_tag (codes "body")) p)) token (points-insert_body first
    ((bare_tag (codes "body"))) p h)

pub points-within_head_of : (first : List Edit) → (n : Option ℕ) → (change : (Parser → Parser)) → ((first : List Edit) → (q : Parser) → Points q
    → Points (change q)) → (p : Parser) → Points p → Points (within_head_of n change p)
points-within_head_of first None change h-change p h = h-change first p h
points-within_head_of first (Some n) change h-change p h = points-on_page first (removed_from_stack n) (λ first. points-removed_from_stack first n)
    ((change (on_page (pushed Head (codes "head") n) p))) (h-change first ((on_page (pushed Head (codes "head") n) p)) (points-on_page first
    ((pushed Head (codes "head") n)) (λ first. points-pushed first Head (codes "head") n) p h))

pub points-within_head : (first : List Edit) → (change : (Parser → Parser)) → ((first : List Edit) → (q : Parser) → Points q → Points (change q)) →
    (p : Parser) → Points p → Points (within_head change p)
points-within_head first change h-change p h = points-within_head_of first p.head change h-change p h

pub points-start_after_head : (first : List Edit) → (kind : Kind) → (tag : StartTagOf) → (p : Parser) → Points p → Points
    (start_after_head kind tag p)
points-start_after_head first kind tag p h = points-within_head first (start_in_head kind tag) (λ first. points-start_in_head first kind tag)
    (unexpected p) (points-unexpected first p h)

pub points-after_head_start : (first : List Edit) → (again : Again) → ((first : List Edit) → (q : Parser) → (t : Token) → Points q → Points
    (again q t)) → (other : Kind) → (tag : StartTagOf) → (p : Parser) → Points p → Points (after_head_start again other tag p)
points-after_head_start first again h-again HtmlRoot tag p h = points-start_html first tag p h
points-after_head_start first again h-again Body tag p h = points-not_frameset_ok first (insert_body tag p) (points-insert_body first tag p h)
points-after_head_start first again h-again Frameset tag p h = points-in_mode first InFrameset (insert tag p) (points-insert first tag p h)
points-after_head_start first again h-again Base tag p h = points-start_after_head first Base tag p h
points-after_head_start first again h-again Link tag p h = points-start_after_head first Link tag p h
points-after_head_start first again h-again Meta tag p h = points-start_after_head first Meta tag p h
points-after_head_start first again h-again Noframes tag p h = points-start_after_head first Noframes tag p h
points-after_head_start first again h-again Script tag p h = points-start_after_head first Script tag p h
points-after_head_start first again h-again Style tag p h = points-start_after_head first Style tag p h
points-after_head_start first again h-again Template tag p h = points-start_after_head first Template tag p h
points-after_head_start first again h-again Title tag p h = points-start_after_head first Title tag p h
points-after_head_start first again h-again Head tag p h = points-unexpected first p h
points-after_head_start first again h-again other tag p h = points-after_head_other first again h-again (StartTag tag) p h

pub points-after_head_end : (first : List Edit) → (again : Again) → ((first : List Edit) → (q : Parser) → (t : Token) → Points q → Points
    (again q t)) → (other : Kind) → (name : List ℕ) → (p : Parser) → Points p → Points (after_head_end again other name p)
points-after_head_end first again h-again Template name p h = points-end_template first p h
points-after_head_end first again h-again Body name p h = points-after_head_other first again h-again (EndTag name) p h
points-after_head_end first again h-again HtmlRoot name p h = points-after_head_other first again h-again (EndTag name) p h
points-after_head_end first again h-again LineBreak name p h = points-after_head_other first again h-again (EndTag name) p h
points-after_head_end first again h-again other name p h = points-unexpected first p h

pub points-after_head : (first : List Edit) → (again : Again) → ((first : List Edit) → (q : Parser) → (t : Token) → Points q → Points (again q t)) →
    (c : Token) → (p : Parser) → Points p → Points (after_head again c p)
points-after_head first again h-again (Character c) p h = points-if-parser first (is_space c) (insert_character c p) (after_head_other again
    (Character c) p) (points-insert_character first c p h) (points-after_head_other first again h-again (Character c) p h)
points-after_head first again h-again (Comment text) p h = points-insert_comment first text p h
points-after_head first again h-again (Doctype doctype) p h = points-unexpected first p h
points-after_head first again h-again (StartTag tag) p h = points-after_head_start first again h-again (kind_of tag.name) tag p h
points-after_head first again h-again (EndTag name) p h = points-after_head_end first again h-again (kind_of name) name p h
points-after_head first again h-again EndOfFile p h = points-after_head_other first again h-again EndOfFile p h

pub points-back : (first : List Edit) → (p : Parser) → Points p → Points (back p)
points-back first p h = points-in_mode first p.original_mode (pop p) (points-pop first p h)

pub points-text_end : (first : List Edit) → (other : Kind) → (p : Parser) → Points p → Points (text_end other p)
points-text_end first Script p h = points-asked first ((Run (current_number p.page.opened))) (back p) (points-back first p h)
points-text_end first other p h = points-back first p h

pub points-text_end_of_file : (first : List Edit) → (again : Again) → ((first : List Edit) → (q : Parser) → (t : Token) → Points q → Points
    (again q t)) → (p : Parser) → Points p → Points (text_end_of_file again p)
points-text_end_of_file first again h-again p h = let noted : Parser = mistaken UnclosedAtEnd p in let h-noted : Points noted = points-mistaken first UnclosedAtEnd p h in h-again first ((back (if is_current is_script p then mark_current noted else noted))) EndOfFile (points-back first (if is_current is_script p then mark_current noted else noted) (points-if-parser first (is_current is_script p) (mark_current noted) noted (points-mark_current first noted h-noted) h-noted))

pub points-text_mode : (first : List Edit) → (again : Again) → ((first : List Edit) → (q : Parser) → (t : Token) → Points q → Points (again q t)) →
    (c : Token) → (p : Parser) → Points p → Points (text_mode again c p)
points-text_mode first again h-again (Character c) p h = points-insert_character first c p h
points-text_mode first again h-again (EndTag name) p h = points-text_end first (kind_of name) p h
points-text_mode first again h-again EndOfFile p h = points-text_end_of_file first again h-again p h
points-text_mode first again h-again other p h = h

pub points-character_in_body : (first : List Edit) → (c : ℕ) → (p : Parser) → Points p → Points (character_in_body c p)
points-character_in_body first c p h = points-if-parser first (is_null c) (unexpected p) (if is_space c then insert_character c
    (reconstructed p) else not_frameset_ok (insert_character c (reconstructed p))) (points-unexpected first p h) (points-if-parser first
    (is_space c) (insert_character c (reconstructed p)) (not_frameset_ok (insert_character c (reconstructed p))) (points-insert_character first c
    (reconstructed p) (points-reconstructed first p h)) (points-not_frameset_ok first ((insert_character c (reconstructed p)))
    (points-insert_character first c (reconstructed p) (points-reconstructed first p h))))

pub points-added_to_body : (first : List Edit) → (n : Option ℕ) → (tag : StartTagOf) → (page : Page) → Extends first page.edits → Extends first
    (added_to_body n tag page).edits
points-added_to_body first None tag page h = h
points-added_to_body first (Some n) tag page h = points-edited first (AddAttributes n tag.attributes) page h

pub points-add_to_body : (first : List Edit) → (tag : StartTagOf) → (p : Parser) → Points p → Points (add_to_body tag p)
points-add_to_body first tag p h = points-on_page first ((λ page. added_to_body (second_body page.opened) tag page))
    (λ first page h-page. points-added_to_body first (second_body page.opened) tag page h-page) p h

pub points-start_body : (first : List Edit) → (tag : StartTagOf) → (p : Parser) → Points p → Points (start_body tag p)
points-start_body first tag p h = points-if-parser first (has_body p && not (has_template p)) (add_to_body tag (not_frameset_ok (unexpected p)))
    (unexpected p) (points-add_to_body first tag ((not_frameset_ok (unexpected p))) (points-not_frameset_ok first (unexpected p)
    (points-unexpected first p h))) (points-unexpected first p h)

pub points-removed_body : (first : List Edit) → (n : Option ℕ) → (page : Page) → Extends first page.edits → Extends first (removed_body n page).edits
points-removed_body first None page h = h
points-removed_body first (Some n) page h = points-edited first (Remove n) page h

pub points-without_body : (first : List Edit) → (p : Parser) → Points p → Points (without_body p)
points-without_body first p h = points-on_page first ((λ page. popped_to_first (removed_body (second_body page.opened) page)))
    (λ first page h-page. points-popped_to_first first ((removed_body (second_body page.opened) page)) (points-removed_body first
    (second_body page.opened) page h-page)) p h

pub points-start_frameset : (first : List Edit) → (tag : StartTagOf) → (p : Parser) → Points p → Points (start_frameset tag p)
points-start_frameset first tag p h = points-if-parser first (has_body p && p.frameset_ok) (in_mode InFrameset (insert tag (without_body
    (unexpected p)))) (unexpected p) (points-in_mode first InFrameset ((insert tag (without_body (unexpected p)))) (points-insert first tag
    ((without_body (unexpected p))) (points-without_body first (unexpected p) (points-unexpected first p h)))) (points-unexpected first p h)

pub points-expects_closed : (first : List Edit) → (p : Parser) → Points p → Points (expects_closed p)
points-expects_closed first p h = points-if-parser first (has_open (λ e. not (may_stay_open e.kind)) p.page.opened) (mistaken UnclosedElements p) p
    (points-mistaken first UnclosedElements p h) h

pub points-end_of_file_in_template : (first : List Edit) → (again : Again) → ((first : List Edit) → (q : Parser) → (t : Token) → Points q → Points
    (again q t)) → (p : Parser) → Points p → Points (end_of_file_in_template again p)
points-end_of_file_in_template first again h-again p h = points-if-parser first (has_template p) (again (template_closed
    (mistaken UnclosedAtEnd p)) EndOfFile) (stop_parsing p) (h-again first ((template_closed (mistaken UnclosedAtEnd p))) EndOfFile
    (points-template_closed first (mistaken UnclosedAtEnd p) (points-mistaken first UnclosedAtEnd p h))) (points-stop_parsing first p h)

pub points-end_of_file_by : (first : List Edit) → (again : Again) → ((first : List Edit) → (q : Parser) → (t : Token) → Points q → Points
    (again q t)) → (mode : List Mode) → (p : Parser) → Points p → Points (end_of_file_by again mode p)
points-end_of_file_by first again h-again [] p h = points-stop_parsing first (expects_closed p) (points-expects_closed first p h)
points-end_of_file_by first again h-again (mode ∷ modes) p h = points-end_of_file_in_template first again h-again p h

pub points-end_of_file_in_body : (first : List Edit) → (again : Again) → ((first : List Edit) → (q : Parser) → (t : Token) → Points q → Points
    (again q t)) → (p : Parser) → Points p → Points (end_of_file_in_body again p)
points-end_of_file_in_body first again h-again p h = points-end_of_file_by first again h-again p.template_modes p h

pub points-end_body : (first : List Edit) → (after : (Parser → Parser)) → ((first : List Edit) → (q : Parser) → Points q → Points (after q)) →
    (p : Parser) → Points p → Points (end_body after p)
points-end_body first after h-after p h = points-if-parser first (in_scope (has_kind is_body) p) (after (in_mode AfterBody (expects_closed p)))
    (unexpected p) (h-after first ((in_mode AfterBody (expects_closed p))) (points-in_mode first AfterBody (expects_closed p)
    (points-expects_closed first p h))) (points-unexpected first p h)

pub points-start_block : (first : List Edit) → (tag : StartTagOf) → (p : Parser) → Points p → Points (start_block tag p)
points-start_block first tag p h = points-insert first tag (without_paragraph p) (points-without_paragraph first p h)

pub points-without_heading : (first : List Edit) → (p : Parser) → Points p → Points (without_heading p)
points-without_heading first p h = points-if-parser first (is_current is_heading p) (pop (unexpected p)) p (points-pop first (unexpected p)
    (points-unexpected first p h)) h

pub points-start_preformatted : (first : List Edit) → (tag : StartTagOf) → (p : Parser) → Points p → Points (start_preformatted tag p)
points-start_preformatted first tag p h = points-start_block first tag p h

pub points-without_item_of : (first : List Edit) → (name : Option (List ℕ)) → (p : Parser) → Points p → Points (without_item_of name p)
points-without_item_of first None p h = h
points-without_item_of first (Some name) p h = points-ended_without_implied first (has_name name) p h

pub points-start_item : (first : List Edit) → (test : (Open → Bool)) → (tag : StartTagOf) → (p : Parser) → Points p → Points (start_item test tag p)
points-start_item first test tag p h = let noted : Parser = not_frameset_ok p in let h-noted : Points noted = points-not_frameset_ok first p h in points-insert first tag ((without_paragraph (without_item_of (item_met test noted.page.opened) noted))) (points-without_paragraph first ((without_item_of (item_met test noted.page.opened) noted)) (points-without_item_of first (item_met test noted.page.opened) noted h-noted))

pub points-start_plaintext : (first : List Edit) → (tag : StartTagOf) → (p : Parser) → Points p → Points (start_plaintext tag p)
points-start_plaintext first tag p h = points-asked first ReadPlain (start_block tag p) (points-start_block first tag p h)

pub points-end_block : (first : List Edit) → (test : (Open → Bool)) → (p : Parser) → Points p → Points (end_block test p)
points-end_block first test p h = points-if-parser first (in_scope test p) (ended test p) (unexpected p) (points-ended first test p h)
    (points-unexpected first p h)

pub points-end_list_item : (first : List Edit) → (p : Parser) → Points p → Points (end_list_item p)
points-end_list_item first p h = points-if-parser first (has_in_scope ends_list_scope (has_kind is_list_item) p.page.opened) (ended_without_implied
    (has_kind is_list_item) p) (unexpected p) (points-ended_without_implied first (has_kind is_list_item) p h) (points-unexpected first p h)

pub points-end_description : (first : List Edit) → (name : List ℕ) → (p : Parser) → Points p → Points (end_description name p)
points-end_description first name p h = points-if-parser first (in_scope (has_name name) p) (ended_without_implied (has_name name) p) (unexpected p)
    (points-ended_without_implied first (has_name name) p h) (points-unexpected first p h)

pub points-end_heading : (first : List Edit) → (name : List ℕ) → (p : Parser) → Points p → Points (end_heading name p)
points-end_heading first name p h = points-if-parser first (in_scope (has_kind is_heading) p) (pop_until (has_kind is_heading) (expects_current
    (has_name name) (implied_ended p))) (unexpected p) (points-pop_until first (has_kind is_heading) ((expects_current (has_name name)
    (implied_ended p))) (points-expects_current first (has_name name) (implied_ended p) (points-implied_ended first p h)))
    (points-unexpected first p h)

pub points-end_paragraph : (first : List Edit) → (p : Parser) → Points p → Points (end_paragraph p)
points-end_paragraph first p h = points-paragraph_closed first ((if in_button_scope (has_kind is_paragraph) p then p else insert (bare_tag
    (codes "p")) (unexpected p))) (points-if-parser first (in_button_scope (has_kind is_paragraph) p) p (insert (bare_tag (codes "p"))
    (unexpected p)) h (points-insert first ((bare_tag (codes "p"))) (unexpected p) (points-unexpected first p h)))

pub points-start_form_outside : (first : List Edit) → (n : Option ℕ) → (tag : StartTagOf) → (p : Parser) → Points p → Points
    (start_form_outside n tag p)
points-start_form_outside first None tag p h = points-insert_form first tag p h
points-start_form_outside first (Some n) tag p h = points-unexpected first p h

pub points-start_form : (first : List Edit) → (tag : StartTagOf) → (p : Parser) → Points p → Points (start_form tag p)
points-start_form first tag p h = points-if-parser first (has_template p) (start_block tag p) (start_form_outside p.form tag p)
    (points-start_block first tag p h) (points-start_form_outside first p.form tag p h)

pub points-end_form : (first : List Edit) → (p : Parser) → Points p → Points (end_form p)
points-end_form first p h = points-if-parser first (has_template p) (end_block (has_kind is_form) p) (end_form_of p.form p) (points-end_block first
    (has_kind is_form) p h) (points-end_form_of first p.form p h)

pub points-start_button : (first : List Edit) → (tag : StartTagOf) → (p : Parser) → Points p → Points (start_button tag p)
points-start_button first tag p h = let ready : Parser = if in_scope (has_kind is_button) p then pop_until (has_kind is_button) (implied_ended
    (unexpected p)) else p in let h-ready : Points ready = points-if-parser first (in_scope (has_kind is_button) p) (pop_until (has_kind is_button)
    (implied_ended (unexpected p))) p (points-pop_until first (has_kind is_button) ((implied_ended (unexpected p))) (points-implied_ended first
    (unexpected p) (points-unexpected first p h))) h in points-not_frameset_ok first ((insert tag (reconstructed ready))) (points-insert first tag
    (reconstructed ready) (points-reconstructed first ready h-ready))

pub points-start_formatting : (first : List Edit) → (tag : StartTagOf) → (p : Parser) → Points p → Points (start_formatting tag p)
points-start_formatting first tag p h = points-insert_formatting first Formatting tag (reconstructed p) (points-reconstructed first p h)

pub points-start_font : (first : List Edit) → (tag : StartTagOf) → (p : Parser) → Points p → Points (start_font tag p)
points-start_font first tag p h = points-insert_formatting first Font tag (reconstructed p) (points-reconstructed first p h)

pub points-removed_if_open : (first : List Edit) → (n : ℕ) → (p : Parser) → Points p → Points (removed_if_open n p)
points-removed_if_open first n p h = points-if-parser first (has_open (has_number n) p.page.opened) (on_page (removed_from_stack n) p) p
    (points-on_page first (removed_from_stack n) (λ first. points-removed_from_stack first n) p h) h

pub points-without_anchor : (first : List Edit) → (name : List ℕ) → (e : Option Listed) → (p : Parser) → Points p → Points (without_anchor name e p)
points-without_anchor first name None p h = h
points-without_anchor first name (Some e) p h = let later : Parser = adoption_agency name
    (unexpected p) in let h-later : Points later = points-adoption_agency first name (unexpected p)
    (points-unexpected first p h) in points-removed_if_open first e.node (record later { formatting = without_entry e.node later.formatting }) h-later

pub points-start_anchor : (first : List Edit) → (tag : StartTagOf) → (p : Parser) → Points p → Points (start_anchor tag p)
points-start_anchor first tag p h = points-insert_formatting first Anchor tag ((reconstructed (without_anchor tag.name
    (last_named tag.name p.formatting) p))) (points-reconstructed first ((without_anchor tag.name (last_named tag.name p.formatting) p))
    (points-without_anchor first tag.name (last_named tag.name p.formatting) p h))

pub points-without_no_break : (first : List Edit) → (name : List ℕ) → (p : Parser) → Points p → Points (without_no_break name p)
points-without_no_break first name p h = points-if-parser first (in_scope (has_kind is_no_break) p) (reconstructed (adoption_agency name
    (unexpected p))) p (points-reconstructed first ((adoption_agency name (unexpected p))) (points-adoption_agency first name (unexpected p)
    (points-unexpected first p h))) h

pub points-start_no_break : (first : List Edit) → (tag : StartTagOf) → (p : Parser) → Points p → Points (start_no_break tag p)
points-start_no_break first tag p h = points-insert_formatting first NoBreak tag ((without_no_break tag.name (reconstructed p)))
    (points-without_no_break first tag.name (reconstructed p) (points-reconstructed first p h))

pub points-start_marked : (first : List Edit) → (tag : StartTagOf) → (p : Parser) → Points p → Points (start_marked tag p)
points-start_marked first tag p h = points-not_frameset_ok first ((with_marker (insert tag (reconstructed p)))) (points-with_marker first
    ((insert tag (reconstructed p))) (points-insert first tag (reconstructed p) (points-reconstructed first p h)))

pub points-end_marked : (first : List Edit) → (name : List ℕ) → (p : Parser) → Points p → Points (end_marked name p)
points-end_marked first name p h = points-if-parser first (in_scope (has_name name) p) (cleared_to_marker (ended (has_name name) p)) (unexpected p)
    (points-cleared_to_marker first ((ended (has_name name) p)) (points-ended first (has_name name) p h)) (points-unexpected first p h)

pub points-start_table : (first : List Edit) → (tag : StartTagOf) → (p : Parser) → Points p → Points (start_table tag p)
points-start_table first tag p h = points-in_mode first InTable ((not_frameset_ok (insert tag
    (if is_quirks p.quirks_mode then p else without_paragraph p)))) (points-not_frameset_ok first ((insert tag
    (if is_quirks p.quirks_mode then p else without_paragraph p))) (points-insert first tag
    (if is_quirks p.quirks_mode then p else without_paragraph p) (points-if-parser first (is_quirks p.quirks_mode) p (without_paragraph p) h
    (points-without_paragraph first p h))))

pub points-start_void : (first : List Edit) → (tag : StartTagOf) → (p : Parser) → Points p → Points (start_void tag p)
points-start_void first tag p h = points-not_frameset_ok first ((insert_void tag (reconstructed p))) (points-insert_void first tag (reconstructed p)
    (points-reconstructed first p h))

pub points-without_select : (first : List Edit) → (p : Parser) → Points p → Points (without_select p)
points-without_select first p h = points-if-parser first (in_scope (has_kind is_select) p) (pop_until (has_kind is_select) (unexpected p)) p
    (points-pop_until first (has_kind is_select) (unexpected p) (points-unexpected first p h)) h

pub points-insert_input : (first : List Edit) → (tag : StartTagOf) → (p : Parser) → Points p → Points (insert_input tag p)
points-insert_input first tag p h = let later : Parser = insert_void tag
    (reconstructed p) in let h-later : Points later = points-insert_void first tag (reconstructed p)
    (points-reconstructed first p h) in points-if-parser first (is_hidden tag) later (not_frameset_ok later) h-later
    (points-not_frameset_ok first later h-later)

pub points-start_input : (first : List Edit) → (tag : StartTagOf) → (p : Parser) → Points p → Points (start_input tag p)
points-start_input first tag p h = points-if-parser first (is_in_select p.options.context) (unexpected p) (insert_input tag (without_select p))
    (points-unexpected first p h) (points-insert_input first tag (without_select p) (points-without_select first p h))

pub points-expects_no_option : (first : List Edit) → (test : (Open → Bool)) → (p : Parser) → Points p → Points (expects_no_option test p)
points-expects_no_option first test p h = points-if-parser first (in_scope test p) (unexpected p) p (points-unexpected first p h) h

pub points-start_rule : (first : List Edit) → (tag : StartTagOf) → (p : Parser) → Points p → Points (start_rule tag p)
points-start_rule first tag p h = let ready : Parser = without_paragraph p in let h-ready : Points ready = points-without_paragraph first p h in points-not_frameset_ok first ((insert_void tag (if in_scope (has_kind is_select) ready then expects_no_option is_option_or_group (implied_ended ready) else ready))) (points-insert_void first tag ((if in_scope (has_kind is_select) ready then expects_no_option is_option_or_group (implied_ended ready) else ready)) (points-if-parser first (in_scope (has_kind is_select) ready) (expects_no_option is_option_or_group (implied_ended ready)) ready (points-expects_no_option first is_option_or_group (implied_ended ready) (points-implied_ended first ready h-ready)) h-ready))

pub points-start_textarea : (first : List Edit) → (tag : StartTagOf) → (p : Parser) → Points p → Points (start_textarea tag p)
points-start_textarea first tag p h = points-insert_with_text first Rcdata tag p h

pub points-start_xmp : (first : List Edit) → (tag : StartTagOf) → (p : Parser) → Points p → Points (start_xmp tag p)
points-start_xmp first tag p h = points-insert_with_text first Rawtext tag ((not_frameset_ok (reconstructed (without_paragraph p))))
    (points-not_frameset_ok first ((reconstructed (without_paragraph p))) (points-reconstructed first (without_paragraph p)
    (points-without_paragraph first p h)))

pub points-start_select : (first : List Edit) → (tag : StartTagOf) → (p : Parser) → Points p → Points (start_select tag p)
points-start_select first tag p h = points-if-parser first (is_in_select p.options.context) (unexpected p) (if in_scope
    (has_kind is_select) p then pop_until (has_kind is_select) (unexpected p) else not_frameset_ok (insert tag (reconstructed p)))
    (points-unexpected first p h) (points-if-parser first (in_scope (has_kind is_select) p) (pop_until (has_kind is_select) (unexpected p))
    (not_frameset_ok (insert tag (reconstructed p))) (points-pop_until first (has_kind is_select) (unexpected p) (points-unexpected first p h))
    (points-not_frameset_ok first ((insert tag (reconstructed p))) (points-insert first tag (reconstructed p) (points-reconstructed first p h))))

pub points-without_option : (first : List Edit) → (p : Parser) → Points p → Points (without_option p)
points-without_option first p h = points-if-parser first (is_current is_select_option p) (pop p) p (points-pop first p h) h

pub points-start_option : (first : List Edit) → (tag : StartTagOf) → (p : Parser) → Points p → Points (start_option tag p)
points-start_option first tag p h = points-insert first tag ((reconstructed (if in_scope (has_kind is_select) p then expects_no_option
    (has_kind is_select_option) (implied_ended_but (has_kind is_option_group) p) else without_option p))) (points-reconstructed first ((if in_scope
    (has_kind is_select) p then expects_no_option (has_kind is_select_option) (implied_ended_but
    (has_kind is_option_group) p) else without_option p)) (points-if-parser first (in_scope (has_kind is_select) p) (expects_no_option
    (has_kind is_select_option) (implied_ended_but (has_kind is_option_group) p)) (without_option p) (points-expects_no_option first
    (has_kind is_select_option) ((implied_ended_but (has_kind is_option_group) p)) (points-implied_ended_but first (has_kind is_option_group) p h))
    (points-without_option first p h)))

pub points-start_option_group : (first : List Edit) → (tag : StartTagOf) → (p : Parser) → Points p → Points (start_option_group tag p)
points-start_option_group first tag p h = points-insert first tag ((reconstructed (if in_scope
    (has_kind is_select) p then expects_no_option is_option_or_group (implied_ended p) else without_option p))) (points-reconstructed first
    ((if in_scope (has_kind is_select) p then expects_no_option is_option_or_group (implied_ended p) else without_option p)) (points-if-parser first
    (in_scope (has_kind is_select) p) (expects_no_option is_option_or_group (implied_ended p)) (without_option p)
    (points-expects_no_option first is_option_or_group (implied_ended p) (points-implied_ended first p h)) (points-without_option first p h)))

pub points-start_ruby_base : (first : List Edit) → (tag : StartTagOf) → (p : Parser) → Points p → Points (start_ruby_base tag p)
points-start_ruby_base first tag p h = points-insert first tag ((if in_scope (has_kind is_ruby) p then expects_current (has_kind is_ruby)
    (implied_ended p) else p)) (points-if-parser first (in_scope (has_kind is_ruby) p) (expects_current (has_kind is_ruby) (implied_ended p)) p
    (points-expects_current first (has_kind is_ruby) (implied_ended p) (points-implied_ended first p h)) h)

pub points-start_ruby_text : (first : List Edit) → (tag : StartTagOf) → (p : Parser) → Points p → Points (start_ruby_text tag p)
points-start_ruby_text first tag p h = points-insert first tag ((if in_scope (has_kind is_ruby) p then expects_current is_ruby_or_container
    (implied_ended_but (has_kind is_ruby_container) p) else p)) (points-if-parser first (in_scope (has_kind is_ruby) p)
    (expects_current is_ruby_or_container (implied_ended_but (has_kind is_ruby_container) p)) p (points-expects_current first is_ruby_or_container
    ((implied_ended_but (has_kind is_ruby_container) p)) (points-implied_ended_but first (has_kind is_ruby_container) p h)) h)

pub points-popped_if_closed : (first : List Edit) → (true : Bool) → (p : Parser) → Points p → Points (popped_if_closed true p)
points-popped_if_closed first true p h = points-acknowledges first (pop p) (points-pop first p h)
points-popped_if_closed first false p h = h

pub points-insert_foreign : (first : List Edit) → (namespace : Namespace) → (tag : StartTagOf) → (p : Parser) → Points p → Points
    (insert_foreign namespace tag p)
points-insert_foreign first namespace tag p h = let name : List ℕ = adjusted_tag_name namespace tag.name in points-inserted_at first ((place_of
    (depth_extra tag.self_closing) p)) (kind_in_namespace namespace name tag.attributes) name tag.attributes p h

pub points-start_foreign : (first : List Edit) → (namespace : Namespace) → (tag : StartTagOf) → (p : Parser) → Points p → Points
    (start_foreign namespace tag p)
points-start_foreign first namespace tag p h = points-popped_if_closed first tag.self_closing ((insert_foreign namespace tag (reconstructed p)))
    (points-insert_foreign first namespace tag (reconstructed p) (points-reconstructed first p h))

pub points-any_other_start_tag : (first : List Edit) → (tag : StartTagOf) → (p : Parser) → Points p → Points (any_other_start_tag tag p)
points-any_other_start_tag first tag p h = points-insert first tag (reconstructed p) (points-reconstructed first p h)

pub points-start_noscript : (first : List Edit) → (tag : StartTagOf) → (p : Parser) → Points p → Points (start_noscript tag p)
points-start_noscript first tag p h = points-if-parser first (p.options.scripting) (insert_with_text Rawtext tag p) (any_other_start_tag tag p)
    (points-insert_with_text first Rawtext tag p h) (points-any_other_start_tag first tag p h)

pub points-start_in_body : (first : List Edit) → (again : Again) → ((first : List Edit) → (q : Parser) → (t : Token) → Points q → Points
    (again q t)) → (other : Kind) → (tag : StartTagOf) → (p : Parser) → Points p → Points (start_in_body again other tag p)
points-start_in_body first again h-again HtmlRoot tag p h = points-start_html first tag p h
points-start_in_body first again h-again Base tag p h = points-start_in_head first Base tag p h
points-start_in_body first again h-again Link tag p h = points-start_in_head first Link tag p h
points-start_in_body first again h-again Meta tag p h = points-start_in_head first Meta tag p h
points-start_in_body first again h-again Noframes tag p h = points-start_in_head first Noframes tag p h
points-start_in_body first again h-again Script tag p h = points-start_in_head first Script tag p h
points-start_in_body first again h-again Style tag p h = points-start_in_head first Style tag p h
points-start_in_body first again h-again Template tag p h = points-start_in_head first Template tag p h
points-start_in_body first again h-again Title tag p h = points-start_in_head first Title tag p h
points-start_in_body first again h-again Body tag p h = points-start_body first tag p h
points-start_in_body first again h-again Frameset tag p h = points-start_frameset first tag p h
points-start_in_body first again h-again Paragraph tag p h = points-start_block first tag p h
points-start_in_body first again h-again Address tag p h = points-start_block first tag p h
points-start_in_body first again h-again Division tag p h = points-start_block first tag p h
points-start_in_body first again h-again BreakoutBlock tag p h = points-start_block first tag p h
points-start_in_body first again h-again Block tag p h = points-start_block first tag p h
points-start_in_body first again h-again Dialog tag p h = points-start_block first tag p h
points-start_in_body first again h-again Fieldset tag p h = points-start_block first tag p h
points-start_in_body first again h-again ListBlock tag p h = points-start_block first tag p h
points-start_in_body first again h-again Heading tag p h = points-insert first tag ((without_heading (without_paragraph p)))
    (points-without_heading first (without_paragraph p) (points-without_paragraph first p h))
points-start_in_body first again h-again Preformatted tag p h = points-start_preformatted first tag p h
points-start_in_body first again h-again Form tag p h = points-start_form first tag p h
points-start_in_body first again h-again ListItem tag p h = points-start_item first (has_kind is_list_item) tag p h
points-start_in_body first again h-again Description tag p h = points-start_item first (has_kind is_description) tag p h
points-start_in_body first again h-again Plaintext tag p h = points-start_plaintext first tag p h
points-start_in_body first again h-again Button tag p h = points-start_button first tag p h
points-start_in_body first again h-again Anchor tag p h = points-start_anchor first tag p h
points-start_in_body first again h-again Formatting tag p h = points-start_formatting first tag p h
points-start_in_body first again h-again Font tag p h = points-start_font first tag p h
points-start_in_body first again h-again NoBreak tag p h = points-start_no_break first tag p h
points-start_in_body first again h-again Applet tag p h = points-start_marked first tag p h
points-start_in_body first again h-again Object tag p h = points-start_marked first tag p h
points-start_in_body first again h-again Table tag p h = points-start_table first tag p h
points-start_in_body first again h-again Void tag p h = points-start_void first tag p h
points-start_in_body first again h-again LineBreak tag p h = points-start_void first tag p h
points-start_in_body first again h-again Embed tag p h = points-start_void first tag p h
points-start_in_body first again h-again Image tag p h = points-start_void first tag p h
points-start_in_body first again h-again Input tag p h = points-start_input first tag p h
points-start_in_body first again h-again Parameter tag p h = points-insert_void first tag p h
points-start_in_body first again h-again Rule tag p h = points-start_rule first tag p h
points-start_in_body first again h-again MisnamedImage tag p h = h-again first (unexpected p) ((StartTag (record tag { name = codes "img" })))
    (points-unexpected first p h)
points-start_in_body first again h-again Textarea tag p h = points-start_textarea first tag p h
points-start_in_body first again h-again Xmp tag p h = points-start_xmp first tag p h
points-start_in_body first again h-again Iframe tag p h = points-insert_with_text first Rawtext tag (not_frameset_ok p)
    (points-not_frameset_ok first p h)
points-start_in_body first again h-again Noembed tag p h = points-insert_with_text first Rawtext tag p h
points-start_in_body first again h-again Noscript tag p h = points-start_noscript first tag p h
points-start_in_body first again h-again Select tag p h = points-start_select first tag p h
points-start_in_body first again h-again SelectOption tag p h = points-start_option first tag p h
points-start_in_body first again h-again OptionGroup tag p h = points-start_option_group first tag p h
points-start_in_body first again h-again RubyBase tag p h = points-start_ruby_base first tag p h
points-start_in_body first again h-again RubyContainer tag p h = points-start_ruby_base first tag p h
points-start_in_body first again h-again RubyText tag p h = points-start_ruby_text first tag p h
points-start_in_body first again h-again MathRoot tag p h = points-start_foreign first MathMl tag p h
points-start_in_body first again h-again SvgRoot tag p h = points-start_foreign first Svg tag p h
points-start_in_body first again h-again Caption tag p h = points-unexpected first p h
points-start_in_body first again h-again Column tag p h = points-unexpected first p h
points-start_in_body first again h-again ColumnGroup tag p h = points-unexpected first p h
points-start_in_body first again h-again Frame tag p h = points-unexpected first p h
points-start_in_body first again h-again Head tag p h = points-unexpected first p h
points-start_in_body first again h-again TableBody tag p h = points-unexpected first p h
points-start_in_body first again h-again Cell tag p h = points-unexpected first p h
points-start_in_body first again h-again TableRow tag p h = points-unexpected first p h
points-start_in_body first again h-again other tag p h = points-any_other_start_tag first tag p h

pub points-end_in_body : (first : List Edit) → (again : Again) → ((first : List Edit) → (q : Parser) → (t : Token) → Points q → Points (again q t))
    → (other : Kind) → (name : List ℕ) → (p : Parser) → Points p → Points (end_in_body again other name p)
points-end_in_body first again h-again Template name p h = points-end_template first p h
points-end_in_body first again h-again Body name p h = points-end_body first (λ later. later) (λ first later h-later. h-later) p h
points-end_in_body first again h-again HtmlRoot name p h = points-end_body first ((λ later. again later (EndTag name)))
    (λ first later h-later. h-again first later (EndTag name) h-later) p h
points-end_in_body first again h-again Address name p h = points-end_block first (has_name name) p h
points-end_in_body first again h-again Division name p h = points-end_block first (has_name name) p h
points-end_in_body first again h-again BreakoutBlock name p h = points-end_block first (has_name name) p h
points-end_in_body first again h-again Block name p h = points-end_block first (has_name name) p h
points-end_in_body first again h-again Dialog name p h = points-end_block first (has_name name) p h
points-end_in_body first again h-again Fieldset name p h = points-end_block first (has_name name) p h
points-end_in_body first again h-again ListBlock name p h = points-end_block first (has_name name) p h
points-end_in_body first again h-again Preformatted name p h = points-end_block first (has_name name) p h
points-end_in_body first again h-again Button name p h = points-end_block first (has_name name) p h
points-end_in_body first again h-again Select name p h = points-end_block first (has_name name) p h
points-end_in_body first again h-again Form name p h = points-end_form first p h
points-end_in_body first again h-again Paragraph name p h = points-end_paragraph first p h
points-end_in_body first again h-again ListItem name p h = points-end_list_item first p h
points-end_in_body first again h-again Description name p h = points-end_description first name p h
points-end_in_body first again h-again Heading name p h = points-end_heading first name p h
points-end_in_body first again h-again Anchor name p h = points-adoption_agency first name p h
points-end_in_body first again h-again Formatting name p h = points-adoption_agency first name p h
points-end_in_body first again h-again Font name p h = points-adoption_agency first name p h
points-end_in_body first again h-again NoBreak name p h = points-adoption_agency first name p h
points-end_in_body first again h-again Applet name p h = points-end_marked first name p h
points-end_in_body first again h-again Object name p h = points-end_marked first name p h
points-end_in_body first again h-again LineBreak name p h = points-start_void first ((bare_tag (codes "br"))) (unexpected p)
    (points-unexpected first p h)
points-end_in_body first again h-again other name p h = points-any_other_end_tag first name p h

pub points-in_body : (first : List Edit) → (again : Again) → ((first : List Edit) → (q : Parser) → (t : Token) → Points q → Points (again q t)) →
    (c : Token) → (p : Parser) → Points p → Points (in_body again c p)
points-in_body first again h-again (Character c) p h = points-character_in_body first c p h
points-in_body first again h-again (Comment text) p h = points-insert_comment first text p h
points-in_body first again h-again (Doctype doctype) p h = points-unexpected first p h
points-in_body first again h-again (StartTag tag) p h = points-start_in_body first again h-again (kind_of tag.name) tag p h
points-in_body first again h-again (EndTag name) p h = points-end_in_body first again h-again (kind_of name) name p h
points-in_body first again h-again EndOfFile p h = points-end_of_file_in_body first again h-again p h

pub points-fostered : (first : List Edit) → (change : (Parser → Parser)) → ((first : List Edit) → (q : Parser) → Points q → Points (change q)) →
    (p : Parser) → Points p → Points (fostered change p)
points-fostered first change h-change p h = h-change first ((record (unexpected p) { fostering = true })) (points-unexpected first p h)

pub points-table_other : (first : List Edit) → (again : Again) → ((first : List Edit) → (q : Parser) → (t : Token) → Points q → Points (again q t))
    → (token : Token) → (p : Parser) → Points p → Points (table_other again token p)
points-table_other first again h-again token p h = points-fostered first (in_body again token) (λ first. points-in_body first again h-again token) p h

pub points-collects_text : (first : List Edit) → (again : Again) → ((first : List Edit) → (q : Parser) → (t : Token) → Points q → Points
    (again q t)) → (token : Token) → (p : Parser) → Points p → Points (collects_text again token p)
points-collects_text first again h-again token p h = h-again first (record p { pending = []; original_mode = p.mode; mode = InTableText }) token h

pub points-table_character : (first : List Edit) → (again : Again) → ((first : List Edit) → (q : Parser) → (t : Token) → Points q → Points
    (again q t)) → (c : ℕ) → (p : Parser) → Points p → Points (table_character again c p)
points-table_character first again h-again c p h = points-if-parser first (is_current takes_table_text p) (collects_text again (Character c) p)
    (table_other again (Character c) p) (points-collects_text first again h-again (Character c) p h) (points-table_other first again h-again
    (Character c) p h)

pub points-to_table : (first : List Edit) → (p : Parser) → Points p → Points (to_table p)
points-to_table first p h = points-cleared_back_to first ends_table_scope p h

pub points-without_table : (first : List Edit) → (p : Parser) → Points p → Points (without_table p)
points-without_table first p h = points-mode_reset first ((pop_until (has_kind is_table) p)) (points-pop_until first (has_kind is_table) p h)

pub points-start_form_in_table : (first : List Edit) → (tag : StartTagOf) → (p : Parser) → Points p → Points (start_form_in_table tag p)
points-start_form_in_table first tag p h = points-if-parser first (has_template p) (unexpected p) (form_in_table p.form tag (unexpected p))
    (points-unexpected first p h) (points-form_in_table first p.form tag (unexpected p) (points-unexpected first p h))

pub points-table_start : (first : List Edit) → (again : Again) → ((first : List Edit) → (q : Parser) → (t : Token) → Points q → Points (again q t))
    → (other : Kind) → (tag : StartTagOf) → (p : Parser) → Points p → Points (table_start again other tag p)
points-table_start first again h-again Caption tag p h = points-in_mode first InCaption ((insert tag (with_marker (to_table p))))
    (points-insert first tag ((with_marker (to_table p))) (points-with_marker first (to_table p) (points-to_table first p h)))
points-table_start first again h-again ColumnGroup tag p h = points-in_mode first InColumnGroup ((insert tag (to_table p))) (points-insert first tag
    (to_table p) (points-to_table first p h))
points-table_start first again h-again Column tag p h = h-again first ((in_mode InColumnGroup (insert (bare_tag (codes "colgroup")) (to_table p))))
    (StartTag tag) (points-in_mode first InColumnGroup ((insert (bare_tag (codes "colgroup")) (to_table p))) (points-insert first ((bare_tag
    (codes "colgroup"))) (to_table p) (points-to_table first p h)))
points-table_start first again h-again TableBody tag p h = points-in_mode first InTableBody ((insert tag (to_table p))) (points-insert first tag
    (to_table p) (points-to_table first p h))
points-table_start first again h-again TableRow tag p h = h-again first ((in_mode InTableBody (insert (bare_tag (codes "tbody")) (to_table p))))
    (StartTag tag) (points-in_mode first InTableBody ((insert (bare_tag (codes "tbody")) (to_table p))) (points-insert first ((bare_tag
    (codes "tbody"))) (to_table p) (points-to_table first p h)))
points-table_start first again h-again Cell tag p h = h-again first ((in_mode InTableBody (insert (bare_tag (codes "tbody")) (to_table p))))
    (StartTag tag) (points-in_mode first InTableBody ((insert (bare_tag (codes "tbody")) (to_table p))) (points-insert first ((bare_tag
    (codes "tbody"))) (to_table p) (points-to_table first p h)))
points-table_start first again h-again Table tag p h = points-if-parser first (in_table_scope (has_kind is_table) p) (again (without_table
    (unexpected p)) (StartTag tag)) (unexpected p) (h-again first ((without_table (unexpected p))) (StartTag tag) (points-without_table first
    (unexpected p) (points-unexpected first p h))) (points-unexpected first p h)
points-table_start first again h-again Style tag p h = points-start_in_head first Style tag p h
points-table_start first again h-again Script tag p h = points-start_in_head first Script tag p h
points-table_start first again h-again Template tag p h = points-start_in_head first Template tag p h
points-table_start first again h-again Input tag p h = points-if-parser first (is_hidden tag) (insert_void tag (unexpected p)) (table_other again
    (StartTag tag) p) (points-insert_void first tag (unexpected p) (points-unexpected first p h)) (points-table_other first again h-again
    (StartTag tag) p h)
points-table_start first again h-again Form tag p h = points-start_form_in_table first tag p h
points-table_start first again h-again other tag p h = points-table_other first again h-again (StartTag tag) p h

pub points-table_end : (first : List Edit) → (again : Again) → ((first : List Edit) → (q : Parser) → (t : Token) → Points q → Points (again q t)) →
    (kind : Kind) → (name : List ℕ) → (p : Parser) → Points p → Points (table_end again kind name p)
points-table_end first again h-again Table name p h = points-if-parser first (in_table_scope (has_kind is_table) p) (without_table p) (unexpected p)
    (points-without_table first p h) (points-unexpected first p h)
points-table_end first again h-again Template name p h = points-end_template first p h
points-table_end first again h-again kind name p h = points-if-parser first (is_ignored_in_table kind) (unexpected p) (table_other again
    (EndTag name) p) (points-unexpected first p h) (points-table_other first again h-again (EndTag name) p h)

pub points-in_table : (first : List Edit) → (again : Again) → ((first : List Edit) → (q : Parser) → (t : Token) → Points q → Points (again q t)) →
    (c : Token) → (p : Parser) → Points p → Points (in_table again c p)
points-in_table first again h-again (Character c) p h = points-table_character first again h-again c p h
points-in_table first again h-again (Comment text) p h = points-insert_comment first text p h
points-in_table first again h-again (Doctype doctype) p h = points-unexpected first p h
points-in_table first again h-again (StartTag tag) p h = points-table_start first again h-again (kind_of tag.name) tag p h
points-in_table first again h-again (EndTag name) p h = points-table_end first again h-again (kind_of name) name p h
points-in_table first again h-again EndOfFile p h = points-end_of_file_in_body first again h-again p h

pub points-flushed_fostered : (first : List Edit) → (c : List ℕ) → (p : Parser) → Points p → Points (flushed_fostered c p)
unfolding flushed_fostered
points-flushed_fostered first [] p h = h
points-flushed_fostered first (c ∷ text) p h = points-flushed_fostered first text ((fostered (character_in_body c) p)) (points-fostered first
    (character_in_body c) (λ first. points-character_in_body first c) p h)

pub points-flushed_as_space : (first : List Edit) → (c : List ℕ) → (p : Parser) → Points p → Points (flushed_as_space c p)
unfolding flushed_as_space
points-flushed_as_space first [] p h = h
points-flushed_as_space first (c ∷ text) p h = points-flushed_as_space first text (insert_character c p) (points-insert_character first c p h)

pub points-flushed : (first : List Edit) → (p : Parser) → Points p → Points (flushed p)
points-flushed first p h = points-if-parser first (is_all_space p.pending) (flushed_as_space p.pending p) (flushed_fostered p.pending p)
    (points-flushed_as_space first p.pending p h) (points-flushed_fostered first p.pending p h)

pub points-table_text_other : (first : List Edit) → (again : Again) → ((first : List Edit) → (q : Parser) → (t : Token) → Points q → Points
    (again q t)) → (token : Token) → (p : Parser) → Points p → Points (table_text_other again token p)
points-table_text_other first again h-again token p h = h-again first ((record (flushed p) { pending = []; mode = p.original_mode })) token
    (points-flushed first p h)

pub points-in_table_text : (first : List Edit) → (again : Again) → ((first : List Edit) → (q : Parser) → (t : Token) → Points q → Points
    (again q t)) → (c : Token) → (p : Parser) → Points p → Points (in_table_text again c p)
points-in_table_text first again h-again (Character c) p h = points-if-parser first (is_null c) (unexpected p)
    (record p { pending = p.pending ++ c ∷ [] }) (points-unexpected first p h) h
points-in_table_text first again h-again token p h = points-table_text_other first again h-again token p h

pub points-without_caption : (first : List Edit) → (after : (Parser → Parser)) → ((first : List Edit) → (q : Parser) → Points q → Points (after q))
    → (p : Parser) → Points p → Points (without_caption after p)
points-without_caption first after h-after p h = points-if-parser first (in_table_scope (has_kind is_caption) p) (after (in_mode InTable
    (cleared_to_marker (ended (has_kind is_caption) p)))) (unexpected p) (h-after first ((in_mode InTable (cleared_to_marker (ended
    (has_kind is_caption) p)))) (points-in_mode first InTable ((cleared_to_marker (ended (has_kind is_caption) p))) (points-cleared_to_marker first
    ((ended (has_kind is_caption) p)) (points-ended first (has_kind is_caption) p h)))) (points-unexpected first p h)

pub points-caption_end : (first : List Edit) → (again : Again) → ((first : List Edit) → (q : Parser) → (t : Token) → Points q → Points (again q t))
    → (kind : Kind) → (name : List ℕ) → (p : Parser) → Points p → Points (caption_end again kind name p)
points-caption_end first again h-again Caption name p h = points-without_caption first (λ later. later) (λ first later h-later. h-later) p h
points-caption_end first again h-again Table name p h = points-without_caption first ((λ later. again later (EndTag name)))
    (λ first later h-later. h-again first later (EndTag name) h-later) p h
points-caption_end first again h-again kind name p h = points-if-parser first (is_ignored_in_table kind) (unexpected p) (in_body again
    (EndTag name) p) (points-unexpected first p h) (points-in_body first again h-again (EndTag name) p h)

pub points-in_caption : (first : List Edit) → (again : Again) → ((first : List Edit) → (q : Parser) → (t : Token) → Points q → Points (again q t)) →
    (tag : Token) → (p : Parser) → Points p → Points (in_caption again tag p)
points-in_caption first again h-again (StartTag tag) p h = points-if-parser first (is_part (kind_of tag.name)) (without_caption
    (λ later. again later (StartTag tag)) p) (in_body again (StartTag tag) p) (points-without_caption first ((λ later. again later (StartTag tag)))
    (λ first later h-later. h-again first later (StartTag tag) h-later) p h) (points-in_body first again h-again (StartTag tag) p h)
points-in_caption first again h-again (EndTag name) p h = points-caption_end first again h-again (kind_of name) name p h
points-in_caption first again h-again token p h = points-in_body first again h-again token p h

pub points-without_column_group : (first : List Edit) → (after : (Parser → Parser)) → ((first : List Edit) → (q : Parser) → Points q → Points
    (after q)) → (p : Parser) → Points p → Points (without_column_group after p)
points-without_column_group first after h-after p h = points-if-parser first (is_current is_column_group p) (after (in_mode InTable (pop p)))
    (unexpected p) (h-after first ((in_mode InTable (pop p))) (points-in_mode first InTable (pop p) (points-pop first p h)))
    (points-unexpected first p h)

pub points-column_group_other : (first : List Edit) → (again : Again) → ((first : List Edit) → (q : Parser) → (t : Token) → Points q → Points
    (again q t)) → (token : Token) → (p : Parser) → Points p → Points (column_group_other again token p)
points-column_group_other first again h-again token p h = points-without_column_group first (λ later. again later token)
    (λ first later h-later. h-again first later token h-later) p h

pub points-column_group_start : (first : List Edit) → (again : Again) → ((first : List Edit) → (q : Parser) → (t : Token) → Points q → Points
    (again q t)) → (other : Kind) → (tag : StartTagOf) → (p : Parser) → Points p → Points (column_group_start again other tag p)
points-column_group_start first again h-again HtmlRoot tag p h = points-start_html first tag p h
points-column_group_start first again h-again Column tag p h = points-insert_void first tag p h
points-column_group_start first again h-again Template tag p h = points-start_in_head first Template tag p h
points-column_group_start first again h-again other tag p h = points-column_group_other first again h-again (StartTag tag) p h

pub points-column_group_end : (first : List Edit) → (again : Again) → ((first : List Edit) → (q : Parser) → (t : Token) → Points q → Points
    (again q t)) → (other : Kind) → (name : List ℕ) → (p : Parser) → Points p → Points (column_group_end again other name p)
points-column_group_end first again h-again ColumnGroup name p h = points-without_column_group first (λ later. later)
    (λ first later h-later. h-later) p h
points-column_group_end first again h-again Column name p h = points-unexpected first p h
points-column_group_end first again h-again Template name p h = points-end_template first p h
points-column_group_end first again h-again other name p h = points-column_group_other first again h-again (EndTag name) p h

pub points-in_column_group : (first : List Edit) → (again : Again) → ((first : List Edit) → (q : Parser) → (t : Token) → Points q → Points
    (again q t)) → (c : Token) → (p : Parser) → Points p → Points (in_column_group again c p)
points-in_column_group first again h-again (Character c) p h = points-if-parser first (is_space c) (insert_character c p) (column_group_other again
    (Character c) p) (points-insert_character first c p h) (points-column_group_other first again h-again (Character c) p h)
points-in_column_group first again h-again (Comment text) p h = points-insert_comment first text p h
points-in_column_group first again h-again (Doctype doctype) p h = points-unexpected first p h
points-in_column_group first again h-again (StartTag tag) p h = points-column_group_start first again h-again (kind_of tag.name) tag p h
points-in_column_group first again h-again (EndTag name) p h = points-column_group_end first again h-again (kind_of name) name p h
points-in_column_group first again h-again EndOfFile p h = points-end_of_file_in_body first again h-again p h

pub points-to_body : (first : List Edit) → (p : Parser) → Points p → Points (to_body p)
points-to_body first p h = points-cleared_back_to first is_body_context p h

pub points-without_table_body : (first : List Edit) → (scoped : Bool) → (after : (Parser → Parser)) → ((first : List Edit) → (q : Parser) → Points q
    → Points (after q)) → (p : Parser) → Points p → Points (without_table_body scoped after p)
points-without_table_body first scoped after h-after p h = points-if-parser first (scoped) (after (in_mode InTable (pop (to_body p))))
    (unexpected p) (h-after first ((in_mode InTable (pop (to_body p)))) (points-in_mode first InTable ((pop (to_body p))) (points-pop first
    (to_body p) (points-to_body first p h)))) (points-unexpected first p h)

pub points-without_any_body : (first : List Edit) → (after : (Parser → Parser)) → ((first : List Edit) → (q : Parser) → Points q → Points (after q))
    → (p : Parser) → Points p → Points (without_any_body after p)
points-without_any_body first after h-after p h = points-without_table_body first ((in_table_scope (has_kind is_table_body) p)) after h-after p h

pub points-table_body_start : (first : List Edit) → (again : Again) → ((first : List Edit) → (q : Parser) → (t : Token) → Points q → Points
    (again q t)) → (kind : Kind) → (tag : StartTagOf) → (p : Parser) → Points p → Points (table_body_start again kind tag p)
points-table_body_start first again h-again TableRow tag p h = points-in_mode first InRow ((insert tag (to_body p))) (points-insert first tag
    (to_body p) (points-to_body first p h))
points-table_body_start first again h-again Cell tag p h = h-again first ((in_mode InRow (insert (bare_tag (codes "tr")) (to_body (unexpected p)))))
    (StartTag tag) (points-in_mode first InRow ((insert (bare_tag (codes "tr")) (to_body (unexpected p)))) (points-insert first ((bare_tag
    (codes "tr"))) ((to_body (unexpected p))) (points-to_body first (unexpected p) (points-unexpected first p h))))
points-table_body_start first again h-again kind tag p h = points-if-parser first (is_part kind) (without_any_body (λ later. again later
    (StartTag tag)) p) (table_start again kind tag p) (points-without_any_body first ((λ later. again later (StartTag tag)))
    (λ first later h-later. h-again first later (StartTag tag) h-later) p h) (points-table_start first again h-again kind tag p h)

pub points-table_body_end : (first : List Edit) → (again : Again) → ((first : List Edit) → (q : Parser) → (t : Token) → Points q → Points
    (again q t)) → (kind : Kind) → (name : List ℕ) → (p : Parser) → Points p → Points (table_body_end again kind name p)
points-table_body_end first again h-again TableBody name p h = points-without_table_body first ((in_table_scope (has_name name) p)) (λ later. later)
    (λ first later h-later. h-later) p h
points-table_body_end first again h-again Table name p h = points-without_any_body first ((λ later. again later (EndTag name)))
    (λ first later h-later. h-again first later (EndTag name) h-later) p h
points-table_body_end first again h-again kind name p h = points-table_end first again h-again kind name p h

pub points-in_table_body : (first : List Edit) → (again : Again) → ((first : List Edit) → (q : Parser) → (t : Token) → Points q → Points
    (again q t)) → (tag : Token) → (p : Parser) → Points p → Points (in_table_body again tag p)
points-in_table_body first again h-again (StartTag tag) p h = points-table_body_start first again h-again (kind_of tag.name) tag p h
points-in_table_body first again h-again (EndTag name) p h = points-table_body_end first again h-again (kind_of name) name p h
points-in_table_body first again h-again token p h = points-in_table first again h-again token p h

pub points-to_row : (first : List Edit) → (p : Parser) → Points p → Points (to_row p)
points-to_row first p h = points-cleared_back_to first is_row_context p h

pub points-without_row : (first : List Edit) → (after : (Parser → Parser)) → ((first : List Edit) → (q : Parser) → Points q → Points (after q)) →
    (p : Parser) → Points p → Points (without_row after p)
points-without_row first after h-after p h = points-if-parser first (in_table_scope (has_kind is_table_row) p) (after (in_mode InTableBody (pop
    (to_row p)))) (unexpected p) (h-after first ((in_mode InTableBody (pop (to_row p)))) (points-in_mode first InTableBody ((pop (to_row p)))
    (points-pop first (to_row p) (points-to_row first p h)))) (points-unexpected first p h)

pub points-row_start : (first : List Edit) → (again : Again) → ((first : List Edit) → (q : Parser) → (t : Token) → Points q → Points (again q t)) →
    (kind : Kind) → (tag : StartTagOf) → (p : Parser) → Points p → Points (row_start again kind tag p)
points-row_start first again h-again Cell tag p h = points-with_marker first ((in_mode InCell (insert tag (to_row p)))) (points-in_mode first InCell
    ((insert tag (to_row p))) (points-insert first tag (to_row p) (points-to_row first p h)))
points-row_start first again h-again kind tag p h = points-if-parser first (is_part kind) (without_row (λ later. again later (StartTag tag)) p)
    (table_start again kind tag p) (points-without_row first ((λ later. again later (StartTag tag))) (λ first later h-later. h-again first later
    (StartTag tag) h-later) p h) (points-table_start first again h-again kind tag p h)

pub points-row_end_of_body : (first : List Edit) → (again : Again) → ((first : List Edit) → (q : Parser) → (t : Token) → Points q → Points
    (again q t)) → (name : List ℕ) → (p : Parser) → Points p → Points (row_end_of_body again name p)
points-row_end_of_body first again h-again name p h = points-if-parser first (in_table_scope (has_name name) p) ((if in_table_scope
    (has_kind is_table_row) p then without_row (λ later. again later (EndTag name)) p else p)) (unexpected p) (points-if-parser first
    (in_table_scope (has_kind is_table_row) p) (without_row (λ later. again later (EndTag name)) p) p (points-without_row first
    ((λ later. again later (EndTag name))) (λ first later h-later. h-again first later (EndTag name) h-later) p h) h) (points-unexpected first p h)

pub points-row_end : (first : List Edit) → (again : Again) → ((first : List Edit) → (q : Parser) → (t : Token) → Points q → Points (again q t)) →
    (kind : Kind) → (name : List ℕ) → (p : Parser) → Points p → Points (row_end again kind name p)
points-row_end first again h-again TableRow name p h = points-without_row first (λ later. later) (λ first later h-later. h-later) p h
points-row_end first again h-again Table name p h = points-without_row first ((λ later. again later (EndTag name)))
    (λ first later h-later. h-again first later (EndTag name) h-later) p h
points-row_end first again h-again TableBody name p h = points-row_end_of_body first again h-again name p h
points-row_end first again h-again kind name p h = points-table_end first again h-again kind name p h

pub points-in_row : (first : List Edit) → (again : Again) → ((first : List Edit) → (q : Parser) → (t : Token) → Points q → Points (again q t)) →
    (tag : Token) → (p : Parser) → Points p → Points (in_row again tag p)
points-in_row first again h-again (StartTag tag) p h = points-row_start first again h-again (kind_of tag.name) tag p h
points-in_row first again h-again (EndTag name) p h = points-row_end first again h-again (kind_of name) name p h
points-in_row first again h-again token p h = points-in_table first again h-again token p h

pub points-cell_closed : (first : List Edit) → (p : Parser) → Points p → Points (cell_closed p)
points-cell_closed first p h = points-in_mode first InRow ((cleared_to_marker (ended (has_kind is_cell) p))) (points-cleared_to_marker first ((ended
    (has_kind is_cell) p)) (points-ended first (has_kind is_cell) p h))

pub points-end_cell : (first : List Edit) → (name : List ℕ) → (p : Parser) → Points p → Points (end_cell name p)
points-end_cell first name p h = points-if-parser first (in_table_scope (has_name name) p) (in_mode InRow (cleared_to_marker (ended
    (has_name name) p))) (unexpected p) (points-in_mode first InRow ((cleared_to_marker (ended (has_name name) p))) (points-cleared_to_marker first
    ((ended (has_name name) p)) (points-ended first (has_name name) p h))) (points-unexpected first p h)

pub points-end_around_cell : (first : List Edit) → (again : Again) → ((first : List Edit) → (q : Parser) → (t : Token) → Points q → Points
    (again q t)) → (name : List ℕ) → (p : Parser) → Points p → Points (end_around_cell again name p)
points-end_around_cell first again h-again name p h = points-if-parser first (in_table_scope (has_name name) p) (again (cell_closed p)
    (EndTag name)) (unexpected p) (h-again first (cell_closed p) (EndTag name) (points-cell_closed first p h)) (points-unexpected first p h)

pub points-cell_end : (first : List Edit) → (again : Again) → ((first : List Edit) → (q : Parser) → (t : Token) → Points q → Points (again q t)) →
    (kind : Kind) → (name : List ℕ) → (p : Parser) → Points p → Points (cell_end again kind name p)
points-cell_end first again h-again Cell name p h = points-end_cell first name p h
points-cell_end first again h-again Body name p h = points-unexpected first p h
points-cell_end first again h-again Caption name p h = points-unexpected first p h
points-cell_end first again h-again Column name p h = points-unexpected first p h
points-cell_end first again h-again ColumnGroup name p h = points-unexpected first p h
points-cell_end first again h-again HtmlRoot name p h = points-unexpected first p h
points-cell_end first again h-again Table name p h = points-end_around_cell first again h-again name p h
points-cell_end first again h-again TableBody name p h = points-end_around_cell first again h-again name p h
points-cell_end first again h-again TableRow name p h = points-end_around_cell first again h-again name p h
points-cell_end first again h-again kind name p h = points-in_body first again h-again (EndTag name) p h

pub points-in_cell : (first : List Edit) → (again : Again) → ((first : List Edit) → (q : Parser) → (t : Token) → Points q → Points (again q t)) →
    (tag : Token) → (p : Parser) → Points p → Points (in_cell again tag p)
points-in_cell first again h-again (StartTag tag) p h = points-if-parser first (is_part (kind_of tag.name)) (again (cell_closed p) (StartTag tag))
    (in_body again (StartTag tag) p) (h-again first (cell_closed p) (StartTag tag) (points-cell_closed first p h))
    (points-in_body first again h-again (StartTag tag) p h)
points-in_cell first again h-again (EndTag name) p h = points-cell_end first again h-again (kind_of name) name p h
points-in_cell first again h-again token p h = points-in_body first again h-again token p h

pub points-in_template_mode : (first : List Edit) → (again : Again) → ((first : List Edit) → (q : Parser) → (t : Token) → Points q → Points
    (again q t)) → (mode : Mode) → (tag : StartTagOf) → (p : Parser) → Points p → Points (in_template_mode again mode tag p)
points-in_template_mode first again h-again mode tag p h = h-again first
    (record p { template_modes = mode ∷ without_template_mode p.template_modes; mode = mode }) (StartTag tag) h

pub points-template_start : (first : List Edit) → (again : Again) → ((first : List Edit) → (q : Parser) → (t : Token) → Points q → Points
    (again q t)) → (other : Kind) → (tag : StartTagOf) → (p : Parser) → Points p → Points (template_start again other tag p)
points-template_start first again h-again Base tag p h = points-start_in_head first Base tag p h
points-template_start first again h-again Link tag p h = points-start_in_head first Link tag p h
points-template_start first again h-again Meta tag p h = points-start_in_head first Meta tag p h
points-template_start first again h-again Noframes tag p h = points-start_in_head first Noframes tag p h
points-template_start first again h-again Script tag p h = points-start_in_head first Script tag p h
points-template_start first again h-again Style tag p h = points-start_in_head first Style tag p h
points-template_start first again h-again Template tag p h = points-start_in_head first Template tag p h
points-template_start first again h-again Title tag p h = points-start_in_head first Title tag p h
points-template_start first again h-again Caption tag p h = points-in_template_mode first again h-again InTable tag p h
points-template_start first again h-again ColumnGroup tag p h = points-in_template_mode first again h-again InTable tag p h
points-template_start first again h-again TableBody tag p h = points-in_template_mode first again h-again InTable tag p h
points-template_start first again h-again Column tag p h = points-in_template_mode first again h-again InColumnGroup tag p h
points-template_start first again h-again TableRow tag p h = points-in_template_mode first again h-again InTableBody tag p h
points-template_start first again h-again Cell tag p h = points-in_template_mode first again h-again InRow tag p h
points-template_start first again h-again other tag p h = points-in_template_mode first again h-again InBody tag p h

pub points-template_end : (first : List Edit) → (other : Kind) → (p : Parser) → Points p → Points (template_end other p)
points-template_end first Template p h = points-end_template first p h
points-template_end first other p h = points-unexpected first p h

pub points-in_template : (first : List Edit) → (again : Again) → ((first : List Edit) → (q : Parser) → (t : Token) → Points q → Points (again q t))
    → (tag : Token) → (p : Parser) → Points p → Points (in_template again tag p)
points-in_template first again h-again (StartTag tag) p h = points-template_start first again h-again (kind_of tag.name) tag p h
points-in_template first again h-again (EndTag name) p h = points-template_end first (kind_of name) p h
points-in_template first again h-again EndOfFile p h = points-end_of_file_in_template first again h-again p h
points-in_template first again h-again token p h = points-in_body first again h-again token p h

pub points-in_body_again : (first : List Edit) → (again : Again) → ((first : List Edit) → (q : Parser) → (t : Token) → Points q → Points
    (again q t)) → (token : Token) → (p : Parser) → Points p → Points (in_body_again again token p)
points-in_body_again first again h-again token p h = h-again first ((in_mode InBody (unexpected p))) token (points-in_mode first InBody
    (unexpected p) (points-unexpected first p h))

pub points-after_body_start : (first : List Edit) → (again : Again) → ((first : List Edit) → (q : Parser) → (t : Token) → Points q → Points
    (again q t)) → (other : Kind) → (tag : StartTagOf) → (p : Parser) → Points p → Points (after_body_start again other tag p)
points-after_body_start first again h-again HtmlRoot tag p h = points-start_html first tag p h
points-after_body_start first again h-again other tag p h = points-in_body_again first again h-again (StartTag tag) p h

pub points-after_body_end : (first : List Edit) → (again : Again) → ((first : List Edit) → (q : Parser) → (t : Token) → Points q → Points
    (again q t)) → (other : Kind) → (name : List ℕ) → (p : Parser) → Points p → Points (after_body_end again other name p)
points-after_body_end first again h-again HtmlRoot name p h = points-if-parser first (is_fragment p) (unexpected p) (in_mode AfterAfterBody p)
    (points-unexpected first p h) (points-in_mode first AfterAfterBody p h)
points-after_body_end first again h-again other name p h = points-in_body_again first again h-again (EndTag name) p h

pub points-after_body : (first : List Edit) → (again : Again) → ((first : List Edit) → (q : Parser) → (t : Token) → Points q → Points (again q t)) →
    (c : Token) → (p : Parser) → Points p → Points (after_body again c p)
points-after_body first again h-again (Character c) p h = points-if-parser first (is_space c) (character_in_body c p) (in_body_again again
    (Character c) p) (points-character_in_body first c p h) (points-in_body_again first again h-again (Character c) p h)
points-after_body first again h-again (Comment text) p h = points-insert_comment_in_root first text p h
points-after_body first again h-again (Doctype doctype) p h = points-unexpected first p h
points-after_body first again h-again (StartTag tag) p h = points-after_body_start first again h-again (kind_of tag.name) tag p h
points-after_body first again h-again (EndTag name) p h = points-after_body_end first again h-again (kind_of name) name p h
points-after_body first again h-again EndOfFile p h = points-stop_parsing first p h

pub points-frameset_start : (first : List Edit) → (other : Kind) → (tag : StartTagOf) → (p : Parser) → Points p → Points (frameset_start other tag p)
points-frameset_start first HtmlRoot tag p h = points-start_html first tag p h
points-frameset_start first Frameset tag p h = points-insert first tag p h
points-frameset_start first Frame tag p h = points-insert_void first tag p h
points-frameset_start first Noframes tag p h = points-start_in_head first Noframes tag p h
points-frameset_start first other tag p h = points-unexpected first p h

pub points-frameset_closed : (first : List Edit) → (p : Parser) → Points p → Points (frameset_closed p)
points-frameset_closed first p h = let later : Parser = pop p in let h-later : Points later = points-pop first p h in points-if-parser first
    (is_fragment p) later (if is_current is_frameset later then later else in_mode AfterFrameset later) h-later (points-if-parser first
    (is_current is_frameset later) later (in_mode AfterFrameset later) h-later (points-in_mode first AfterFrameset later h-later))

pub points-frameset_end : (first : List Edit) → (other : Kind) → (p : Parser) → Points p → Points (frameset_end other p)
points-frameset_end first Frameset p h = points-if-parser first (has_only_root p.page.opened) (unexpected p) (frameset_closed p)
    (points-unexpected first p h) (points-frameset_closed first p h)
points-frameset_end first other p h = points-unexpected first p h

pub points-in_frameset : (first : List Edit) → (c : Token) → (p : Parser) → Points p → Points (in_frameset c p)
points-in_frameset first (Character c) p h = points-if-parser first (is_space c) (insert_character c p) (unexpected p)
    (points-insert_character first c p h) (points-unexpected first p h)
points-in_frameset first (Comment text) p h = points-insert_comment first text p h
points-in_frameset first (Doctype doctype) p h = points-unexpected first p h
points-in_frameset first (StartTag tag) p h = points-frameset_start first (kind_of tag.name) tag p h
points-in_frameset first (EndTag name) p h = points-frameset_end first (kind_of name) p h
points-in_frameset first EndOfFile p h = points-stop_parsing first (if has_only_root p.page.opened then p else mistaken UnclosedAtEnd p)
    (points-if-parser first (has_only_root p.page.opened) p (mistaken UnclosedAtEnd p) h (points-mistaken first UnclosedAtEnd p h))

pub points-after_frameset_start : (first : List Edit) → (other : Kind) → (tag : StartTagOf) → (p : Parser) → Points p → Points
    (after_frameset_start other tag p)
points-after_frameset_start first HtmlRoot tag p h = points-start_html first tag p h
points-after_frameset_start first Noframes tag p h = points-start_in_head first Noframes tag p h
points-after_frameset_start first other tag p h = points-unexpected first p h

pub points-after_frameset_end : (first : List Edit) → (other : Kind) → (p : Parser) → Points p → Points (after_frameset_end other p)
points-after_frameset_end first HtmlRoot p h = points-in_mode first AfterAfterFrameset p h
points-after_frameset_end first other p h = points-unexpected first p h

pub points-after_frameset : (first : List Edit) → (c : Token) → (p : Parser) → Points p → Points (after_frameset c p)
points-after_frameset first (Character c) p h = points-if-parser first (is_space c) (insert_character c p) (unexpected p)
    (points-insert_character first c p h) (points-unexpected first p h)
points-after_frameset first (Comment text) p h = points-insert_comment first text p h
points-after_frameset first (Doctype doctype) p h = points-unexpected first p h
points-after_frameset first (StartTag tag) p h = points-after_frameset_start first (kind_of tag.name) tag p h
points-after_frameset first (EndTag name) p h = points-after_frameset_end first (kind_of name) p h
points-after_frameset first EndOfFile p h = points-stop_parsing first p h

pub points-after_after_body : (first : List Edit) → (again : Again) → ((first : List Edit) → (q : Parser) → (t : Token) → Points q → Points
    (again q t)) → (text : Token) → (p : Parser) → Points p → Points (after_after_body again text p)
points-after_after_body first again h-again (Comment text) p h = points-insert_comment_in_document first text p h
points-after_after_body first again h-again (Doctype doctype) p h = points-unexpected first p h
points-after_after_body first again h-again (Character c) p h = points-if-parser first (is_space c) (character_in_body c p) (in_body_again again
    (Character c) p) (points-character_in_body first c p h) (points-in_body_again first again h-again (Character c) p h)
points-after_after_body first again h-again (StartTag tag) p h = points-after_body_start first again h-again (kind_of tag.name) tag p h
points-after_after_body first again h-again (EndTag name) p h = points-in_body_again first again h-again (EndTag name) p h
points-after_after_body first again h-again EndOfFile p h = points-stop_parsing first p h

pub points-after_after_frameset : (first : List Edit) → (text : Token) → (p : Parser) → Points p → Points (after_after_frameset text p)
points-after_after_frameset first (Comment text) p h = points-insert_comment_in_document first text p h
points-after_after_frameset first (Doctype doctype) p h = points-unexpected first p h
points-after_after_frameset first (Character c) p h = points-if-parser first (is_space c) (character_in_body c p) (unexpected p)
    (points-character_in_body first c p h) (points-unexpected first p h)
points-after_after_frameset first (StartTag tag) p h = points-after_frameset_start first (kind_of tag.name) tag p h
points-after_after_frameset first (EndTag name) p h = points-unexpected first p h
points-after_after_frameset first EndOfFile p h = points-stop_parsing first p h

pub points-foreign_character : (first : List Edit) → (c : ℕ) → (p : Parser) → Points p → Points (foreign_character c p)
points-foreign_character first c p h = points-if-parser first (is_null c) (insert_text replacement (unexpected p))
    (if is_space c then insert_character c p else not_frameset_ok (insert_character c p)) (points-insert_text first replacement (unexpected p)
    (points-unexpected first p h)) (points-if-parser first (is_space c) (insert_character c p) (not_frameset_ok (insert_character c p))
    (points-insert_character first c p h) (points-not_frameset_ok first (insert_character c p) (points-insert_character first c p h)))

pub points-broken_out : (first : List Edit) → (in_html : InHtml) → ((first : List Edit) → (t : Token) → (q : Parser) → Points q → Points
    (in_html t q)) → (token : Token) → (p : Parser) → Points p → Points (broken_out in_html token p)
points-broken_out first in_html h-in_html token p h = h-in_html first token ((pop_while stays_foreign (unexpected p)))
    (points-pop_while first stays_foreign (unexpected p) (points-unexpected first p h))

pub points-run_script : (first : List Edit) → (p : Parser) → Points p → Points (run_script p)
points-run_script first p h = points-asked first ((Run (current_number p.page.opened))) (pop p) (points-pop first p h)

pub points-closed_at_once : (first : List Edit) → (false : Bool) → (p : Parser) → Points p → Points (closed_at_once false p)
points-closed_at_once first false p h = h
points-closed_at_once first true p h = points-if-parser first (is_current is_svg_script p) (run_script (acknowledges p)) (popped_if_closed true p)
    (points-run_script first (acknowledges p) (points-acknowledges first p h)) (points-popped_if_closed first true p h)

pub points-foreign_start : (first : List Edit) → (tag : StartTagOf) → (p : Parser) → Points p → Points (foreign_start tag p)
points-foreign_start first tag p h = points-closed_at_once first tag.self_closing ((insert_foreign (namespace_of
    (adjusted_kind p.options.context p.page.opened)) tag p)) (points-insert_foreign first ((namespace_of
    (adjusted_kind p.options.context p.page.opened))) tag p h)

pub points-foreign_end : (first : List Edit) → (in_html : InHtml) → ((first : List Edit) → (t : Token) → (q : Parser) → Points q → Points
    (in_html t q)) → (name : List ℕ) → (e : List Open) → (p : Parser) → Points p → Points (foreign_end in_html name e p)
unfolding foreign_end
points-foreign_end first in_html h-in_html name [] p h = h
points-foreign_end first in_html h-in_html name (e ∷ []) p h = h
points-foreign_end first in_html h-in_html name (e ∷ outer ∷ es) p h = points-if-parser first (has_lower_case name e) (pop_until
    (has_number e.node) p) (if is_html outer.kind then in_html (EndTag name) p else foreign_end in_html name (outer ∷ es) p) (points-pop_until first
    (has_number e.node) p h) (points-if-parser first (is_html outer.kind) (in_html (EndTag name) p) (foreign_end in_html name (outer ∷ es) p)
    (h-in_html first (EndTag name) p h) (points-foreign_end first in_html h-in_html name (outer ∷ es) p h))

pub points-expects_name : (first : List Edit) → (name : List ℕ) → (e : List Open) → (p : Parser) → Points p → Points (expects_name name e p)
points-expects_name first name [] p h = h
points-expects_name first name (e ∷ es) p h = points-if-parser first (has_lower_case name e) p (unexpected p) h (points-unexpected first p h)

pub points-any_other_foreign_end : (first : List Edit) → (in_html : InHtml) → ((first : List Edit) → (t : Token) → (q : Parser) → Points q → Points
    (in_html t q)) → (name : List ℕ) → (p : Parser) → Points p → Points (any_other_foreign_end in_html name p)
points-any_other_foreign_end first in_html h-in_html name p h = points-foreign_end first in_html h-in_html name p.page.opened
    (expects_name name p.page.opened p) (points-expects_name first name p.page.opened p h)

pub points-foreign_end_by_kind : (first : List Edit) → (in_html : InHtml) → ((first : List Edit) → (t : Token) → (q : Parser) → Points q → Points
    (in_html t q)) → (other : Kind) → (name : List ℕ) → (p : Parser) → Points p → Points (foreign_end_by_kind in_html other name p)
points-foreign_end_by_kind first in_html h-in_html LineBreak name p h = points-broken_out first in_html h-in_html (EndTag name) p h
points-foreign_end_by_kind first in_html h-in_html Paragraph name p h = points-broken_out first in_html h-in_html (EndTag name) p h
points-foreign_end_by_kind first in_html h-in_html Script name p h = points-if-parser first (is_current is_svg_script p) (run_script p)
    (any_other_foreign_end in_html name p) (points-run_script first p h) (points-any_other_foreign_end first in_html h-in_html name p h)
points-foreign_end_by_kind first in_html h-in_html other name p h = points-any_other_foreign_end first in_html h-in_html name p h

pub points-in_foreign_content : (first : List Edit) → (in_html : InHtml) → ((first : List Edit) → (t : Token) → (q : Parser) → Points q → Points
    (in_html t q)) → (c : Token) → (p : Parser) → Points p → Points (in_foreign_content in_html c p)
points-in_foreign_content first in_html h-in_html (Character c) p h = points-foreign_character first c p h
points-in_foreign_content first in_html h-in_html (Comment text) p h = points-insert_comment first text p h
points-in_foreign_content first in_html h-in_html (Doctype doctype) p h = points-unexpected first p h
points-in_foreign_content first in_html h-in_html (StartTag tag) p h = points-if-parser first (is_breakout (kind_of tag.name) tag)
    (broken_out in_html (StartTag tag) p) (foreign_start tag p) (points-broken_out first in_html h-in_html (StartTag tag) p h)
    (points-foreign_start first tag p h)
points-in_foreign_content first in_html h-in_html (EndTag name) p h = points-foreign_end_by_kind first in_html h-in_html (kind_of name) name p h
points-in_foreign_content first in_html h-in_html EndOfFile p h = h

pub points-in_html_content : (first : List Edit) → (again : Again) → ((first : List Edit) → (q : Parser) → (t : Token) → Points q → Points
    (again q t)) → (x1 : Mode) → (token : Token) → (p : Parser) → Points p → Points (in_html_content again x1 token p)
points-in_html_content first again h-again Initial token p h = points-initial first again h-again token p h
points-in_html_content first again h-again BeforeHtml token p h = points-before_html first again h-again token p h
points-in_html_content first again h-again BeforeHead token p h = points-before_head first again h-again token p h
points-in_html_content first again h-again InHead token p h = points-in_head first again h-again token p h
points-in_html_content first again h-again InHeadNoscript token p h = points-in_head_noscript first again h-again token p h
points-in_html_content first again h-again AfterHead token p h = points-after_head first again h-again token p h
points-in_html_content first again h-again InBody token p h = points-in_body first again h-again token p h
points-in_html_content first again h-again Text token p h = points-text_mode first again h-again token p h
points-in_html_content first again h-again InTable token p h = points-in_table first again h-again token p h
points-in_html_content first again h-again InTableText token p h = points-in_table_text first again h-again token p h
points-in_html_content first again h-again InCaption token p h = points-in_caption first again h-again token p h
points-in_html_content first again h-again InColumnGroup token p h = points-in_column_group first again h-again token p h
points-in_html_content first again h-again InTableBody token p h = points-in_table_body first again h-again token p h
points-in_html_content first again h-again InRow token p h = points-in_row first again h-again token p h
points-in_html_content first again h-again InCell token p h = points-in_cell first again h-again token p h
points-in_html_content first again h-again InTemplate token p h = points-in_template first again h-again token p h
points-in_html_content first again h-again AfterBody token p h = points-after_body first again h-again token p h
points-in_html_content first again h-again InFrameset token p h = points-in_frameset first token p h
points-in_html_content first again h-again AfterFrameset token p h = points-after_frameset first token p h
points-in_html_content first again h-again AfterAfterBody token p h = points-after_after_body first again h-again token p h
points-in_html_content first again h-again AfterAfterFrameset token p h = points-after_after_frameset first token p h

pub points-in_current_mode : (first : List Edit) → (again : Again) → ((first : List Edit) → (q : Parser) → (t : Token) → Points q → Points
    (again q t)) → (token : Token) → (p : Parser) → Points p → Points (in_current_mode again token p)
points-in_current_mode first again h-again token p h = points-in_html_content first again h-again p.mode token p h

pub points-dispatched : (first : List Edit) → (again : Again) → ((first : List Edit) → (q : Parser) → (t : Token) → Points q → Points (again q t)) →
    (token : Token) → (p : Parser) → Points p → Points (dispatched again token p)
points-dispatched first again h-again token p h = points-if-parser first (takes_as_html (adjusted_kind p.options.context p.page.opened) token)
    (in_current_mode again token p) (in_foreign_content (in_current_mode again) token p) (points-in_current_mode first again h-again token p h)
    (points-in_foreign_content first (in_current_mode again) (λ first. points-in_current_mode first again h-again) token p h)

pub points-process : (first : List Edit) → (zero : ℕ) → (token : Token) → (p : Parser) → Points p → Points (process zero token p)
unfolding process
points-process first zero token p h = h
points-process first (suc times) token p h = points-dispatched first (λ later again. process times again later)
    (λ first later again h-later. points-process first times again later h-later) token p h

pub points-expects_acknowledged : (first : List Edit) → (token : Token) → (p : Parser) → Points p → Points (expects_acknowledged token p)
points-expects_acknowledged first token p h = points-if-parser first (is_self_closing token && not p.acknowledged) (mistaken TrailingSolidus p) p
    (points-mistaken first TrailingSolidus p h) h

pub points-taken : (first : List Edit) → (token : Token) → (p : Parser) → Points p → Points (taken token p)
points-taken first token p h = let fresh : Parser = record p { ignores_newline = false; request = GoOn; acknowledged = false } in let h-fresh : Points fresh = h in points-if-parser first (is_ignored_newline p.ignores_newline token) fresh (expects_acknowledged token (process (enough p) token fresh)) h-fresh (points-expects_acknowledged first token ((process (enough p) token fresh)) (points-process first (enough p) token fresh h-fresh))

pub points-step : (first : List Edit) → (token : Token) → (p : Parser) → Points p → Points (step token p)
unfolding step
points-step first token p h = points-taken first token p h

pub points-run : (first : List Edit) → (token : List Token) → (p : Parser) → Points p → Points (run token p)
unfolding run
points-run first [] p h = h
points-run first (token ∷ tokens) p h = points-run first tokens (step token p) (points-step first token p h)

pub points-told : (first : List Edit) → (message : Told) → (p : Parser) → Points p → Points (told message p)
points-told first message p h = points-run first (tokens_of message) p h

pub points-told_all : (first : List Edit) → (message : List Told) → (p : Parser) → Points p → Points (told_all message p)
unfolding told_all
points-told_all first [] p h = h
points-told_all first (message ∷ messages) p h = points-told_all first messages (told message p) (points-told first message p h)
