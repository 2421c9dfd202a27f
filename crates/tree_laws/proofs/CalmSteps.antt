-- After a tag of a name that asks for no text, tree construction lets the tokenizer go on. By `python3 tools/gen/parser_laws.py`, and not by hand; the steps that it rests on are in Calm.
use Rattle.std.proofs.Common.{◌≡◌, ℕ, Bool, true, false, List, [], ◌∷◌, ◌++◌, refl, sym}
use Rattle.std.proofs.lemmas.Bool.{false≢true}
use Rattle.std.specs.Prelude.{suc, zero, ◌+◌, ◌&&◌, not, take, drop, Option, Some, None, codes, if◌then◌else◌}
use Rattle.html5ever_interface.specs.Token.{DoctypeOf}
use Rattle.markup5ever.specs.Names.{AttributeOf}
use Rattle.tree_construction.specs.Adjusting.{adjusted_tag_name}
use Rattle.tree_construction.specs.Adoption.{Inner, adopted, adopted_after, adopted_by, adoption_agency, any_other_end_tag, end_of, ended_by, furthest_block, inner_loop, inner_start, is_unlisted, nth_open, opened_inside, opened_outside, outer_loop, turn, unformatted}
use Rattle.tree_construction.specs.AfterBody.{after_after_body, after_after_frameset, after_body, after_body_end, after_body_start, after_frameset, after_frameset_end, after_frameset_start, frameset_closed, frameset_end, frameset_start, has_only_root, in_body_again, in_frameset, in_template, in_template_mode, template_end, template_start}
use Rattle.tree_construction.specs.BeforeBody.{add_to_root, after_head, after_head_end, after_head_other, after_head_start, back, before_head, before_head_other, before_head_start, before_html, before_html_other, before_html_start, current_number, end_template, ends_early, in_head, in_head_end, in_head_noscript, in_head_other, in_head_start, initial, initial_doctype, initial_other, insert_body, insert_head, mark_current, noscript_end, noscript_other, noscript_start, or_empty, put_doctype, set_quirks_mode, start_after_head, start_html, start_in_head, start_meta, start_template, template_closed, text_end_of_file, with_root, within_head, within_head_of, without_template_mode}
use Rattle.tree_construction.specs.Construction.{dispatched, expects_acknowledged, fragment_modes, in_current_mode, in_html_content, is_self_closing, process, start_by, start_fragment, takes_as_html}
use Rattle.tree_construction.specs.Doctypes.{is_allowed, quirks_mode_of}
use Rattle.tree_construction.specs.ForeignContent.{InHtml, any_other_foreign_end, broken_out, closed_at_once, expects_name, foreign_character, foreign_end, foreign_end_by_kind, foreign_start, has_lower_case, in_foreign_content, is_breakout, replacement, run_script, stays_foreign}
use Rattle.tree_construction.specs.Formatting.{Listed, cleared_to_marker, insert_formatting, last_named, reconstructed, reopened_one, still_listed, to_reopen, with_marker, without_entry}
use Rattle.tree_construction.specs.InBody.{add_to_body, added_to_body, any_other_start_tag, character_in_body, depth_extra, end_block, end_body, end_description, end_form, end_form_of, end_heading, end_in_body, end_list_item, end_marked, end_of_file_by, end_of_file_in_body, end_of_file_in_template, end_paragraph, expects_closed, expects_no_option, has_body, in_body, insert_foreign, insert_form, insert_input, is_hidden, is_in_select, is_option_or_group, is_quirks, is_ruby_or_container, item_met, popped_if_closed, removed_body, removed_if_open, start_anchor, start_block, start_body, start_button, start_font, start_foreign, start_form, start_form_outside, start_formatting, start_frameset, start_in_body, start_input, start_item, start_marked, start_no_break, start_option, start_option_group, start_preformatted, start_ruby_base, start_ruby_text, start_rule, start_select, start_table, start_void, without_anchor, without_body, without_heading, without_item_of, without_no_break, without_option, without_select}
use Rattle.tree_construction.specs.Names.{all_names, ends_list_scope, ends_table_scope, is_among, is_body, is_body_context, is_button, is_caption, is_cell, is_column_group, is_description, is_form, is_frameset, is_heading, is_html, is_implied, is_implied_thoroughly, is_list_item, is_no_break, is_option_group, is_paragraph, is_row_context, is_ruby, is_ruby_container, is_script, is_select, is_select_option, is_svg_script, is_table, is_table_body, is_table_row, is_template, kind_in, kind_in_namespace, kind_of, may_stay_open, namespace_of, takes_table_text}
use Rattle.tree_construction.specs.Page.{Open, Place, comment_put, current_passes, edited, first_open, has_in_scope, has_kind, has_name, has_number, has_open, made, popped, popped_to_first, popped_until, popped_while, pushed, removed_from_stack, second_body}
use Rattle.tree_construction.specs.Page.Edit.{AddAttributes, MarkStarted, ParseError, Put, PutDoctype, PutText, SetQuirksMode}
use Rattle.tree_construction.specs.Page.Place.{LastChild}
use Rattle.tree_construction.specs.Parser.{Again, Context, Parser, acknowledges, adjusted_kind, all_implied_ended, associated_with, cleared_back_to, ended, ended_without_implied, expects_current, has_template, implied_ended, implied_ended_but, in_button_scope, in_mode, in_scope, in_table_scope, insert, insert_character, insert_comment, insert_comment_in_document, insert_comment_in_root, insert_text, insert_void, inserted, inserted_at, is_current, is_fragment, mistaken, not_frameset_ok, on_page, opened, paragraph_closed, place_in, place_of, pop, pop_until, pop_while, stop_parsing, takes_form, unexpected, without_paragraph}
use Rattle.tree_construction.specs.Resetting.{mode_of, mode_reset}
use Rattle.tree_construction.specs.Tables.{caption_end, cell_closed, cell_end, collects_text, column_group_end, column_group_other, column_group_start, end_around_cell, end_cell, flushed, flushed_as_space, flushed_fostered, form_in_table, fostered, in_caption, in_cell, in_column_group, in_row, in_table, in_table_body, in_table_text, is_all_space, is_ignored_in_table, is_part, row_end, row_end_of_body, row_start, start_form_in_table, table_body_end, table_body_start, table_character, table_end, table_other, table_start, table_text_other, to_body, to_row, to_table, without_any_body, without_caption, without_column_group, without_row, without_table, without_table_body}
use Rattle.tree_construction.specs.Tokens.{StartTagOf, Token, bare_tag, is_null, is_space, value_of}
use Rattle.tree_construction.specs.Tokens.Token.{Character, Comment, Doctype, EndOfFile, EndTag, StartTag}
use Rattle.tree_construction.specs.declared.kinds.Kind.{Kind}
use Rattle.tree_construction.specs.declared.kinds.Kind.TheVariants.{Address, Anchor, Applet, Base, Block, Body, BreakoutBlock, Button, Caption, Cell, Column, ColumnGroup, Description, Dialog, Division, Embed, Fieldset, Font, Form, Formatting, Frame, Frameset, Head, Heading, HtmlRoot, Iframe, Image, Input, LineBreak, Link, ListBlock, ListItem, MathRoot, Meta, MisnamedImage, NoBreak, Noembed, Noframes, Noscript, Object, OptionGroup, Paragraph, Parameter, Plaintext, Preformatted, RubyBase, RubyContainer, RubyText, Rule, Script, Select, SelectOption, Style, SvgRoot, Table, TableBody, TableRow, Template, Textarea, Title, Void, Xmp}
use Rattle.tree_construction.specs.declared.kinds.Namespace.{Namespace}
use Rattle.tree_construction.specs.declared.kinds.Namespace.TheVariants.{MathMl, Svg}
use Rattle.tree_construction.specs.declared.mistakes.Mistake.{Mistake}
use Rattle.tree_construction.specs.declared.mistakes.Mistake.TheVariants.{BadDoctype, FormattingNotInScope, FormattingNotOpen, MissingDoctype, TrailingSolidus, UnclosedAtEnd, UnclosedElements, UnexpectedToken}
use Rattle.tree_construction.specs.declared.modes.Mode.{Mode}
use Rattle.tree_construction.specs.declared.modes.Mode.TheVariants.{AfterAfterBody, AfterAfterFrameset, AfterBody, AfterFrameset, AfterHead, BeforeHead, BeforeHtml, InBody, InCaption, InCell, InColumnGroup, InFrameset, InHead, InHeadNoscript, InRow, InTable, InTableBody, InTableText, InTemplate, Initial, Text}
use Rattle.tree_construction.specs.declared.modes.QuirksMode.{QuirksMode}
use Rattle.tree_construction.specs.declared.modes.QuirksMode.TheVariants.{Quirks}
use Rattle.tree_laws.proofs.Calm.{IsCalm, asks_text, asks_text_by, calm-asks_encoding, calm-if-parser, calm-in_head_noscript_start, calm-on_page, calm-reopened, calm-run_script, calm-start_noscript, calm-text_mode}

pub calm-in_mode : (mode : Mode) → (p : Parser) → IsCalm p → IsCalm (in_mode mode p)
calm-in_mode mode p h = h

pub calm-not_frameset_ok : (p : Parser) → IsCalm p → IsCalm (not_frameset_ok p)
calm-not_frameset_ok p h = h

pub calm-mistaken : (mistake : Mistake) → (p : Parser) → IsCalm p → IsCalm (mistaken mistake p)
calm-mistaken mistake p h = calm-on_page ((edited (ParseError mistake))) p h

pub calm-unexpected : (p : Parser) → IsCalm p → IsCalm (unexpected p)
calm-unexpected p h = calm-mistaken UnexpectedToken p h

pub calm-acknowledges : (p : Parser) → IsCalm p → IsCalm (acknowledges p)
calm-acknowledges p h = h

pub calm-pop : (p : Parser) → IsCalm p → IsCalm (pop p)
calm-pop p h = calm-on_page popped p h

pub calm-pop_until : (test : (Open → Bool)) → (p : Parser) → IsCalm p → IsCalm (pop_until test p)
calm-pop_until test p h = calm-on_page (popped_until test) p h

pub calm-pop_while : (test : (Open → Bool)) → (p : Parser) → IsCalm p → IsCalm (pop_while test p)
calm-pop_while test p h = calm-on_page (popped_while test) p h

pub calm-cleared_back_to : (context : (Kind → Bool)) → (p : Parser) → IsCalm p → IsCalm (cleared_back_to context p)
calm-cleared_back_to context p h = calm-pop_while ((λ e. not (context e.kind))) p h

pub calm-expects_current : (test : (Open → Bool)) → (p : Parser) → IsCalm p → IsCalm (expects_current test p)
calm-expects_current test p h = calm-if-parser (current_passes test p.page.opened) p (mistaken UnclosedElements p) h
    (calm-mistaken UnclosedElements p h)

pub calm-implied_ended_but : (but : (Open → Bool)) → (p : Parser) → IsCalm p → IsCalm (implied_ended_but but p)
calm-implied_ended_but but p h = calm-pop_while ((λ e. is_implied e.kind && not (but e))) p h

pub calm-implied_ended : (p : Parser) → IsCalm p → IsCalm (implied_ended p)
calm-implied_ended p h = calm-pop_while (has_kind is_implied) p h

pub calm-all_implied_ended : (p : Parser) → IsCalm p → IsCalm (all_implied_ended p)
calm-all_implied_ended p h = calm-pop_while (has_kind is_implied_thoroughly) p h

pub calm-ended : (test : (Open → Bool)) → (p : Parser) → IsCalm p → IsCalm (ended test p)
calm-ended test p h = calm-pop_until test ((expects_current test (implied_ended p))) (calm-expects_current test (implied_ended p)
    (calm-implied_ended p h))

pub calm-ended_without_implied : (test : (Open → Bool)) → (p : Parser) → IsCalm p → IsCalm (ended_without_implied test p)
calm-ended_without_implied test p h = calm-pop_until test ((expects_current test (implied_ended_but test p))) (calm-expects_current test
    (implied_ended_but test p) (calm-implied_ended_but test p h))

pub calm-paragraph_closed : (p : Parser) → IsCalm p → IsCalm (paragraph_closed p)
calm-paragraph_closed p h = calm-ended_without_implied (has_kind is_paragraph) p h

pub calm-without_paragraph : (p : Parser) → IsCalm p → IsCalm (without_paragraph p)
calm-without_paragraph p h = calm-if-parser (in_button_scope (has_kind is_paragraph) p) (paragraph_closed p) p (calm-paragraph_closed p h) h

pub calm-inserted_at : (place : Place) → (kind : Kind) → (name : List ℕ) → (attributes : List AttributeOf) → (p : Parser) → IsCalm p → IsCalm
    (inserted_at place kind name attributes p)
calm-inserted_at place kind name attributes p h = let n : ℕ = p.page.next in calm-on_page ((λ page. pushed kind name n (edited (Put place n)
    (associated_with p.form (takes_form p kind attributes) n place (made kind name attributes page))))) p h

pub calm-inserted : (kind : Kind) → (name : List ℕ) → (attributes : List AttributeOf) → (p : Parser) → IsCalm p → IsCalm
    (inserted kind name attributes p)
calm-inserted kind name attributes p h = calm-inserted_at (place_of 0 p) kind name attributes p h

pub calm-insert : (tag : StartTagOf) → asks_text (kind_of tag.name) ≡ false → (p : Parser) → IsCalm p → IsCalm (insert tag p)
calm-insert tag q-tag p h = calm-inserted (kind_of tag.name) tag.name tag.attributes p h

pub calm-insert_void : (tag : StartTagOf) → asks_text (kind_of tag.name) ≡ false → (p : Parser) → IsCalm p → IsCalm (insert_void tag p)
calm-insert_void tag q-tag p h = calm-acknowledges ((pop (inserted_at (place_of 1 p) (kind_of tag.name) tag.name tag.attributes p))) (calm-pop
    ((inserted_at (place_of 1 p) (kind_of tag.name) tag.name tag.attributes p)) (calm-inserted_at (place_of 1 p)
    (kind_of tag.name) tag.name tag.attributes p h))

pub calm-insert_text : (text : List ℕ) → (p : Parser) → IsCalm p → IsCalm (insert_text text p)
calm-insert_text text p h = calm-on_page ((edited (PutText (place_in p p.page.opened) text))) p h

pub calm-insert_character : (c : ℕ) → (p : Parser) → IsCalm p → IsCalm (insert_character c p)
calm-insert_character c p h = calm-insert_text (c ∷ []) p h

pub calm-insert_comment : (text : List ℕ) → (p : Parser) → IsCalm p → IsCalm (insert_comment text p)
calm-insert_comment text p h = calm-on_page ((comment_put (place_of 1 p) text)) p h

pub calm-insert_comment_in_document : (text : List ℕ) → (p : Parser) → IsCalm p → IsCalm (insert_comment_in_document text p)
calm-insert_comment_in_document text p h = calm-on_page ((comment_put (LastChild 0) text)) p h

pub calm-insert_comment_in_root : (text : List ℕ) → (p : Parser) → IsCalm p → IsCalm (insert_comment_in_root text p)
calm-insert_comment_in_root text p h = calm-on_page ((comment_put (LastChild (first_open p.page.opened)) text)) p h

pub calm-stop_parsing : (p : Parser) → IsCalm p → IsCalm (stop_parsing p)
calm-stop_parsing p h = calm-pop_while (λ e. true) p h

pub calm-insert_formatting : (kind : Kind) → asks_text kind ≡ false → (tag : StartTagOf) → asks_text (kind_of tag.name) ≡ false → (p : Parser)
    → IsCalm p → IsCalm (insert_formatting kind tag p)
calm-insert_formatting kind q-kind tag q-tag p h = calm-inserted kind tag.name tag.attributes p h

pub calm-with_marker : (p : Parser) → IsCalm p → IsCalm (with_marker p)
calm-with_marker p h = h

pub calm-cleared_to_marker : (p : Parser) → IsCalm p → IsCalm (cleared_to_marker p)
calm-cleared_to_marker p h = h

pub calm-reopened_one : (e : Listed) → (p : Parser) → IsCalm p → IsCalm (reopened_one e p)
calm-reopened_one e p h = calm-inserted e.kind e.name e.attributes p h

pub calm-reconstructed : (p : Parser) → IsCalm p → IsCalm (reconstructed p)
calm-reconstructed p h = calm-reopened (to_reopen p.page.opened p.formatting) (record p { formatting = still_listed p.page.opened p.formatting }) h

pub calm-end_of : (name : List ℕ) → (n : Option ℕ) → (p : Parser) → IsCalm p → IsCalm (end_of name n p)
calm-end_of name None p h = calm-unexpected p h
calm-end_of name (Some n) p h = calm-pop_until (has_number n) ((expects_current (has_number n) (implied_ended_but (has_name name) p)))
    (calm-expects_current (has_number n) ((implied_ended_but (has_name name) p)) (calm-implied_ended_but (has_name name) p h))

pub calm-any_other_end_tag : (name : List ℕ) → (p : Parser) → IsCalm p → IsCalm (any_other_end_tag name p)
calm-any_other_end_tag name p h = calm-end_of name (ended_by name p.page.opened) p h

pub calm-adopted_after : (p : Parser) → (f : Listed) → (block : Open) → (within : List Open) → (outer : List Open) → (inner : Inner) → IsCalm p
    → IsCalm (adopted_after p f block within outer inner)
calm-adopted_after p f block within outer inner h = h

pub calm-adopted : (p : Parser) → (f : Listed) → (d : ℕ) → IsCalm p → IsCalm (adopted p f d)
unfolding adopted
calm-adopted p f d h = let block : Open = nth_open d p.page.opened in let around : List Open = drop
    (d + 1) p.page.opened in calm-adopted_after p f block (take d p.page.opened) (opened_outside f.node around) ((inner_loop block.node 1
    (opened_inside f.node around) (inner_start p block.node))) h

pub calm-unformatted : (f : Listed) → (p : Parser) → IsCalm p → IsCalm (unformatted f p)
calm-unformatted f p h = calm-pop_until (has_number f.node) p h

pub calm-adopted_by : (again : (Parser → Parser)) → ((q : Parser) → IsCalm q → IsCalm (again q)) → (f : Listed) → (d : Option ℕ) → (p : Parser)
    → IsCalm p → IsCalm (adopted_by again f d p)
calm-adopted_by again h-again f None p h = calm-unformatted f p h
calm-adopted_by again h-again f (Some d) p h = h-again (adopted p f d) (calm-adopted p f d h)

pub calm-turn : (again : (Parser → Parser)) → ((q : Parser) → IsCalm q → IsCalm (again q)) → (name : List ℕ) → (f : Option Listed) → (p : Parser)
    → IsCalm p → IsCalm (turn again name f p)
calm-turn again h-again name None p h = calm-any_other_end_tag name p h
calm-turn again h-again name (Some f) p h = calm-if-parser (not (has_open (has_number f.node) p.page.opened)) (record
    (mistaken FormattingNotOpen p) { formatting = without_entry f.node p.formatting }) (if not (in_scope
    (has_number f.node) p) then mistaken FormattingNotInScope p else adopted_by again f (furthest_block (opened_inside f.node p.page.opened))
    (expects_current (has_number f.node) p)) (calm-mistaken FormattingNotOpen p h) (calm-if-parser (not (in_scope (has_number f.node) p))
    (mistaken FormattingNotInScope p) (adopted_by again f (furthest_block (opened_inside f.node p.page.opened)) (expects_current
    (has_number f.node) p)) (calm-mistaken FormattingNotInScope p h) (calm-adopted_by again h-again f ((furthest_block
    (opened_inside f.node p.page.opened))) ((expects_current (has_number f.node) p)) (calm-expects_current (has_number f.node) p h)))

pub calm-outer_loop : (zero : ℕ) → (name : List ℕ) → (p : Parser) → IsCalm p → IsCalm (outer_loop zero name p)
unfolding outer_loop
calm-outer_loop zero name p h = h
calm-outer_loop (suc turns) name p h = calm-turn (λ later. outer_loop turns name later)
    (λ later h-later. calm-outer_loop turns name later h-later) name (last_named name p.formatting) p h

pub calm-adoption_agency : (name : List ℕ) → (p : Parser) → IsCalm p → IsCalm (adoption_agency name p)
calm-adoption_agency name p h = calm-if-parser (current_passes (is_unlisted name p.formatting) p.page.opened) (pop p) (outer_loop 8 name p)
    (calm-pop p h) (calm-outer_loop 8 name p h)

pub calm-mode_reset : (p : Parser) → IsCalm p → IsCalm (mode_reset p)
calm-mode_reset p h = calm-in_mode (mode_of p p.page.opened) p h

pub calm-set_quirks_mode : (mode : QuirksMode) → (p : Parser) → IsCalm p → IsCalm (set_quirks_mode mode p)
calm-set_quirks_mode mode p h = calm-on_page ((edited (SetQuirksMode mode))) p h

pub calm-put_doctype : (doctype : DoctypeOf) → (p : Parser) → IsCalm p → IsCalm (put_doctype doctype p)
calm-put_doctype doctype p h = calm-on_page ((edited (PutDoctype (or_empty doctype.name) (or_empty doctype.public_id)
    (or_empty doctype.system_id)))) p h

pub calm-initial_doctype : (doctype : DoctypeOf) → (p : Parser) → IsCalm p → IsCalm (initial_doctype doctype p)
calm-initial_doctype doctype p h = let put : Parser = put_doctype doctype
    (if is_allowed doctype then p else mistaken BadDoctype p) in let h-put : IsCalm put = calm-put_doctype doctype
    (if is_allowed doctype then p else mistaken BadDoctype p) (calm-if-parser (is_allowed doctype) p (mistaken BadDoctype p) h
    (calm-mistaken BadDoctype p h)) in calm-in_mode BeforeHtml ((if p.options.iframe_srcdoc then put else set_quirks_mode
    (quirks_mode_of doctype) put)) (calm-if-parser (p.options.iframe_srcdoc) put (set_quirks_mode (quirks_mode_of doctype) put) h-put
    (calm-set_quirks_mode (quirks_mode_of doctype) put h-put))

pub calm-initial_other : (again : Again) → ((q : Parser) → (t : Token) → asks_text_by t ≡ false → IsCalm q → IsCalm (again q t)) → (token : Token)
    → asks_text_by token ≡ false → (p : Parser) → IsCalm p → IsCalm (initial_other again token p)
calm-initial_other again h-again token q-token p h = h-again ((in_mode BeforeHtml (if p.options.iframe_srcdoc then p else set_quirks_mode Quirks
    (mistaken MissingDoctype p)))) token q-token (calm-in_mode BeforeHtml ((if p.options.iframe_srcdoc then p else set_quirks_mode Quirks
    (mistaken MissingDoctype p))) (calm-if-parser (p.options.iframe_srcdoc) p (set_quirks_mode Quirks (mistaken MissingDoctype p)) h
    (calm-set_quirks_mode Quirks (mistaken MissingDoctype p) (calm-mistaken MissingDoctype p h))))

pub calm-initial : (again : Again) → ((q : Parser) → (t : Token) → asks_text_by t ≡ false → IsCalm q → IsCalm (again q t)) → (c : Token)
    → asks_text_by c ≡ false → (p : Parser) → IsCalm p → IsCalm (initial again c p)
calm-initial again h-again (Character c) q-c p h = calm-if-parser (is_space c) p (initial_other again (Character c) p) h
    (calm-initial_other again h-again (Character c) q-c p h)
calm-initial again h-again (Comment text) q-text p h = calm-insert_comment_in_document text p h
calm-initial again h-again (Doctype doctype) q-doctype p h = calm-initial_doctype doctype p h
calm-initial again h-again token q-token p h = calm-initial_other again h-again token q-token p h

pub calm-with_root : (attributes : List AttributeOf) → (p : Parser) → IsCalm p → IsCalm (with_root attributes p)
calm-with_root attributes p h = let n : ℕ = p.page.next in calm-on_page ((λ page. pushed HtmlRoot (codes "html") n (edited (Put (LastChild 0) n)
    (made HtmlRoot (codes "html") attributes page)))) p h

pub calm-before_html_other : (again : Again) → ((q : Parser) → (t : Token) → asks_text_by t ≡ false → IsCalm q → IsCalm (again q t)) →
    (token : Token) → asks_text_by token ≡ false → (p : Parser) → IsCalm p → IsCalm (before_html_other again token p)
calm-before_html_other again h-again token q-token p h = h-again ((in_mode BeforeHead (with_root [] p))) token q-token (calm-in_mode BeforeHead
    (with_root [] p) (calm-with_root [] p h))

pub calm-before_html_start : (again : Again) → ((q : Parser) → (t : Token) → asks_text_by t ≡ false → IsCalm q → IsCalm (again q t)) →
    (other : Kind) → asks_text other ≡ false → (tag : StartTagOf) → asks_text (kind_of tag.name) ≡ false → (p : Parser) → IsCalm p → IsCalm
    (before_html_start again other tag p)
calm-before_html_start again h-again HtmlRoot q-htmlroot tag q-tag p h = calm-in_mode BeforeHead (with_root tag.attributes p)
    (calm-with_root tag.attributes p h)
calm-before_html_start again h-again other q-other tag q-tag p h = calm-before_html_other again h-again (StartTag tag) q-tag p h

pub calm-before_html : (again : Again) → ((q : Parser) → (t : Token) → asks_text_by t ≡ false → IsCalm q → IsCalm (again q t)) → (doctype : Token)
    → asks_text_by doctype ≡ false → (p : Parser) → IsCalm p → IsCalm (before_html again doctype p)
calm-before_html again h-again (Doctype doctype) q-doctype p h = calm-unexpected p h
calm-before_html again h-again (Comment text) q-text p h = calm-insert_comment_in_document text p h
calm-before_html again h-again (Character c) q-c p h = calm-if-parser (is_space c) p (before_html_other again (Character c) p) h
    (calm-before_html_other again h-again (Character c) q-c p h)
calm-before_html again h-again (StartTag tag) q-tag p h = calm-before_html_start again h-again (kind_of tag.name) q-tag tag q-tag p h
calm-before_html again h-again (EndTag name) q-name p h = calm-if-parser (ends_early (kind_of name)) (before_html_other again (EndTag name) p)
    (unexpected p) (calm-before_html_other again h-again (EndTag name) q-name p h) (calm-unexpected p h)
calm-before_html again h-again EndOfFile q-endoffile p h = calm-before_html_other again h-again EndOfFile q-endoffile p h

pub calm-add_to_root : (tag : StartTagOf) → asks_text (kind_of tag.name) ≡ false → (p : Parser) → IsCalm p → IsCalm (add_to_root tag p)
calm-add_to_root tag q-tag p h = calm-on_page ((edited (AddAttributes (first_open p.page.opened) tag.attributes))) p h

pub calm-start_html : (tag : StartTagOf) → asks_text (kind_of tag.name) ≡ false → (p : Parser) → IsCalm p → IsCalm (start_html tag p)
calm-start_html tag q-tag p h = calm-if-parser (has_template p) (unexpected p) (add_to_root tag (unexpected p)) (calm-unexpected p h)
    (calm-add_to_root tag q-tag (unexpected p) (calm-unexpected p h))

pub calm-insert_head : (tag : StartTagOf) → asks_text (kind_of tag.name) ≡ false → (p : Parser) → IsCalm p → IsCalm (insert_head tag p)
calm-insert_head tag q-tag p h = calm-in_mode InHead ((record (inserted Head (codes "head") tag.attributes p) { head = Some p.page.next }))
    (calm-inserted Head (codes "head") tag.attributes p h)

pub calm-before_head_other : (again : Again) → ((q : Parser) → (t : Token) → asks_text_by t ≡ false → IsCalm q → IsCalm (again q t)) →
    (token : Token) → asks_text_by token ≡ false → (p : Parser) → IsCalm p → IsCalm (before_head_other again token p)
unfolding kind_of kind_in all_names is_among
calm-before_head_other again h-again token q-token p h = h-again ((insert_head (bare_tag (codes "head")) p)) token q-token (calm-insert_head
    ((bare_tag (codes "head"))) refl p h)

pub calm-before_head_start : (again : Again) → ((q : Parser) → (t : Token) → asks_text_by t ≡ false → IsCalm q → IsCalm (again q t)) →
    (other : Kind) → asks_text other ≡ false → (tag : StartTagOf) → asks_text (kind_of tag.name) ≡ false → (p : Parser) → IsCalm p → IsCalm
    (before_head_start again other tag p)
calm-before_head_start again h-again HtmlRoot q-htmlroot tag q-tag p h = calm-start_html tag q-tag p h
calm-before_head_start again h-again Head q-head tag q-tag p h = calm-insert_head tag q-tag p h
calm-before_head_start again h-again other q-other tag q-tag p h = calm-before_head_other again h-again (StartTag tag) q-tag p h

pub calm-before_head : (again : Again) → ((q : Parser) → (t : Token) → asks_text_by t ≡ false → IsCalm q → IsCalm (again q t)) → (c : Token)
    → asks_text_by c ≡ false → (p : Parser) → IsCalm p → IsCalm (before_head again c p)
calm-before_head again h-again (Character c) q-c p h = calm-if-parser (is_space c) p (before_head_other again (Character c) p) h
    (calm-before_head_other again h-again (Character c) q-c p h)
calm-before_head again h-again (Comment text) q-text p h = calm-insert_comment text p h
calm-before_head again h-again (Doctype doctype) q-doctype p h = calm-unexpected p h
calm-before_head again h-again (StartTag tag) q-tag p h = calm-before_head_start again h-again (kind_of tag.name) q-tag tag q-tag p h
calm-before_head again h-again (EndTag name) q-name p h = calm-if-parser (ends_early (kind_of name)) (before_head_other again (EndTag name) p)
    (unexpected p) (calm-before_head_other again h-again (EndTag name) q-name p h) (calm-unexpected p h)
calm-before_head again h-again EndOfFile q-endoffile p h = calm-before_head_other again h-again EndOfFile q-endoffile p h

pub calm-start_meta : (tag : StartTagOf) → asks_text (kind_of tag.name) ≡ false → (p : Parser) → IsCalm p → IsCalm (start_meta tag p)
calm-start_meta tag q-tag p h = calm-asks_encoding tag.attributes ((value_of (codes "charset") tag.attributes)) (insert_void tag p)
    (calm-insert_void tag q-tag p h)

pub calm-mark_current : (p : Parser) → IsCalm p → IsCalm (mark_current p)
calm-mark_current p h = calm-on_page ((edited (MarkStarted (current_number p.page.opened)))) p h

pub calm-start_template : (tag : StartTagOf) → asks_text (kind_of tag.name) ≡ false → (p : Parser) → IsCalm p → IsCalm (start_template tag p)
calm-start_template tag q-tag p h = calm-insert tag q-tag ((record
    (with_marker p) { frameset_ok = false; mode = InTemplate; template_modes = InTemplate ∷ p.template_modes })) (calm-with_marker p h)

pub calm-template_closed : (p : Parser) → IsCalm p → IsCalm (template_closed p)
calm-template_closed p h = let popped : Parser = cleared_to_marker (pop_until
    (has_kind is_template) p) in let h-popped : IsCalm popped = calm-cleared_to_marker ((pop_until (has_kind is_template) p)) (calm-pop_until
    (has_kind is_template) p h) in calm-mode_reset (record popped { template_modes = without_template_mode popped.template_modes }) h-popped

pub calm-end_template : (p : Parser) → IsCalm p → IsCalm (end_template p)
calm-end_template p h = calm-if-parser (has_template p) (template_closed (expects_current (has_kind is_template) (all_implied_ended p)))
    (unexpected p) (calm-template_closed ((expects_current (has_kind is_template) (all_implied_ended p))) (calm-expects_current
    (has_kind is_template) (all_implied_ended p) (calm-all_implied_ended p h))) (calm-unexpected p h)

pub calm-start_in_head : (other : Kind) → asks_text other ≡ false → (tag : StartTagOf) → asks_text (kind_of tag.name) ≡ false → (p : Parser)
    → IsCalm p → IsCalm (start_in_head other tag p)
calm-start_in_head Meta q-meta tag q-tag p h = calm-start_meta tag q-tag p h
calm-start_in_head Title q-title tag q-tag p h = absurd (false≢true (sym q-title))
calm-start_in_head Style q-style tag q-tag p h = absurd (false≢true (sym q-style))
calm-start_in_head Noframes q-noframes tag q-tag p h = absurd (false≢true (sym q-noframes))
calm-start_in_head Script q-script tag q-tag p h = absurd (false≢true (sym q-script))
calm-start_in_head Template q-template tag q-tag p h = calm-start_template tag q-tag p h
calm-start_in_head other q-other tag q-tag p h = calm-insert_void tag q-tag p h

pub calm-in_head_other : (again : Again) → ((q : Parser) → (t : Token) → asks_text_by t ≡ false → IsCalm q → IsCalm (again q t)) → (token : Token)
    → asks_text_by token ≡ false → (p : Parser) → IsCalm p → IsCalm (in_head_other again token p)
calm-in_head_other again h-again token q-token p h = h-again ((in_mode AfterHead (pop p))) token q-token (calm-in_mode AfterHead (pop p)
    (calm-pop p h))

pub calm-in_head_start : (again : Again) → ((q : Parser) → (t : Token) → asks_text_by t ≡ false → IsCalm q → IsCalm (again q t)) → (other : Kind)
    → asks_text other ≡ false → (tag : StartTagOf) → asks_text (kind_of tag.name) ≡ false → (p : Parser) → IsCalm p → IsCalm
    (in_head_start again other tag p)
calm-in_head_start again h-again HtmlRoot q-htmlroot tag q-tag p h = calm-start_html tag q-tag p h
calm-in_head_start again h-again Head q-head tag q-tag p h = calm-unexpected p h
calm-in_head_start again h-again Noscript q-noscript tag q-tag p h = calm-in_head_noscript_start tag q-tag p h
calm-in_head_start again h-again Base q-base tag q-tag p h = calm-start_in_head Base q-base tag q-tag p h
calm-in_head_start again h-again Link q-link tag q-tag p h = calm-start_in_head Link q-link tag q-tag p h
calm-in_head_start again h-again Meta q-meta tag q-tag p h = calm-start_in_head Meta q-meta tag q-tag p h
calm-in_head_start again h-again Title q-title tag q-tag p h = absurd (false≢true (sym q-title))
calm-in_head_start again h-again Style q-style tag q-tag p h = absurd (false≢true (sym q-style))
calm-in_head_start again h-again Noframes q-noframes tag q-tag p h = absurd (false≢true (sym q-noframes))
calm-in_head_start again h-again Script q-script tag q-tag p h = absurd (false≢true (sym q-script))
calm-in_head_start again h-again Template q-template tag q-tag p h = calm-start_in_head Template q-template tag q-tag p h
calm-in_head_start again h-again other q-other tag q-tag p h = calm-in_head_other again h-again (StartTag tag) q-tag p h

pub calm-in_head_end : (again : Again) → ((q : Parser) → (t : Token) → asks_text_by t ≡ false → IsCalm q → IsCalm (again q t)) → (other : Kind) →
    (name : List ℕ) → (p : Parser) → IsCalm p → IsCalm (in_head_end again other name p)
unfolding kind_of kind_in all_names is_among
calm-in_head_end again h-again Head name p h = calm-in_mode AfterHead (pop p) (calm-pop p h)
calm-in_head_end again h-again Body name p h = calm-in_head_other again h-again (EndTag name) refl p h
calm-in_head_end again h-again HtmlRoot name p h = calm-in_head_other again h-again (EndTag name) refl p h
calm-in_head_end again h-again LineBreak name p h = calm-in_head_other again h-again (EndTag name) refl p h
calm-in_head_end again h-again Template name p h = calm-end_template p h
calm-in_head_end again h-again other name p h = calm-unexpected p h

pub calm-in_head : (again : Again) → ((q : Parser) → (t : Token) → asks_text_by t ≡ false → IsCalm q → IsCalm (again q t)) → (c : Token)
    → asks_text_by c ≡ false → (p : Parser) → IsCalm p → IsCalm (in_head again c p)
calm-in_head again h-again (Character c) q-c p h = calm-if-parser (is_space c) (insert_character c p) (in_head_other again (Character c) p)
    (calm-insert_character c p h) (calm-in_head_other again h-again (Character c) q-c p h)
calm-in_head again h-again (Comment text) q-text p h = calm-insert_comment text p h
calm-in_head again h-again (Doctype doctype) q-doctype p h = calm-unexpected p h
calm-in_head again h-again (StartTag tag) q-tag p h = calm-in_head_start again h-again (kind_of tag.name) q-tag tag q-tag p h
calm-in_head again h-again (EndTag name) q-name p h = calm-in_head_end again h-again (kind_of name) name p h
calm-in_head again h-again EndOfFile q-endoffile p h = calm-in_head_other again h-again EndOfFile q-endoffile p h

pub calm-noscript_other : (again : Again) → ((q : Parser) → (t : Token) → asks_text_by t ≡ false → IsCalm q → IsCalm (again q t)) → (token : Token)
    → asks_text_by token ≡ false → (p : Parser) → IsCalm p → IsCalm (noscript_other again token p)
calm-noscript_other again h-again token q-token p h = h-again ((in_mode InHead (pop (unexpected p)))) token q-token (calm-in_mode InHead ((pop
    (unexpected p))) (calm-pop (unexpected p) (calm-unexpected p h)))

pub calm-noscript_start : (again : Again) → ((q : Parser) → (t : Token) → asks_text_by t ≡ false → IsCalm q → IsCalm (again q t)) → (other : Kind)
    → asks_text other ≡ false → (tag : StartTagOf) → asks_text (kind_of tag.name) ≡ false → (p : Parser) → IsCalm p → IsCalm
    (noscript_start again other tag p)
calm-noscript_start again h-again HtmlRoot q-htmlroot tag q-tag p h = calm-start_html tag q-tag p h
calm-noscript_start again h-again Link q-link tag q-tag p h = calm-start_in_head Link q-link tag q-tag p h
calm-noscript_start again h-again Meta q-meta tag q-tag p h = calm-start_in_head Meta q-meta tag q-tag p h
calm-noscript_start again h-again Noframes q-noframes tag q-tag p h = absurd (false≢true (sym q-noframes))
calm-noscript_start again h-again Style q-style tag q-tag p h = absurd (false≢true (sym q-style))
calm-noscript_start again h-again Head q-head tag q-tag p h = calm-unexpected p h
calm-noscript_start again h-again Noscript q-noscript tag q-tag p h = calm-unexpected p h
calm-noscript_start again h-again other q-other tag q-tag p h = calm-noscript_other again h-again (StartTag tag) q-tag p h

pub calm-noscript_end : (again : Again) → ((q : Parser) → (t : Token) → asks_text_by t ≡ false → IsCalm q → IsCalm (again q t)) → (other : Kind) →
    (name : List ℕ) → (p : Parser) → IsCalm p → IsCalm (noscript_end again other name p)
unfolding kind_of kind_in all_names is_among
calm-noscript_end again h-again Noscript name p h = calm-in_mode InHead (pop p) (calm-pop p h)
calm-noscript_end again h-again LineBreak name p h = calm-noscript_other again h-again (EndTag name) refl p h
calm-noscript_end again h-again other name p h = calm-unexpected p h

pub calm-in_head_noscript : (again : Again) → ((q : Parser) → (t : Token) → asks_text_by t ≡ false → IsCalm q → IsCalm (again q t)) →
    (doctype : Token) → asks_text_by doctype ≡ false → (p : Parser) → IsCalm p → IsCalm (in_head_noscript again doctype p)
calm-in_head_noscript again h-again (Doctype doctype) q-doctype p h = calm-unexpected p h
calm-in_head_noscript again h-again (StartTag tag) q-tag p h = calm-noscript_start again h-again (kind_of tag.name) q-tag tag q-tag p h
calm-in_head_noscript again h-again (EndTag name) q-name p h = calm-noscript_end again h-again (kind_of name) name p h
calm-in_head_noscript again h-again (Character c) q-c p h = calm-if-parser (is_space c) (insert_character c p) (noscript_other again
    (Character c) p) (calm-insert_character c p h) (calm-noscript_other again h-again (Character c) q-c p h)
calm-in_head_noscript again h-again (Comment text) q-text p h = calm-insert_comment text p h
calm-in_head_noscript again h-again EndOfFile q-endoffile p h = calm-noscript_other again h-again EndOfFile q-endoffile p h

pub calm-insert_body : (tag : StartTagOf) → asks_text (kind_of tag.name) ≡ false → (p : Parser) → IsCalm p → IsCalm (insert_body tag p)
calm-insert_body tag q-tag p h = calm-in_mode InBody (insert tag p) (calm-insert tag q-tag p h)

pub calm-after_head_other : (again : Again) → ((q : Parser) → (t : Token) → asks_text_by t ≡ false → IsCalm q → IsCalm (again q t)) →
    (token : Token) → asks_text_by token ≡ false → (p : Parser) → IsCalm p → IsCalm (after_head_other again token p)
unfolding kind_of kind_in all_names is_among
calm-after_head_other again h-again token q-token p h = h-again ((insert_body (bare_tag (codes "body")) p)) token q-token (calm-insert_body
    ((bare_tag (codes "body"))) refl p h)

pub calm-within_head_of : (n : Option ℕ) → (change : (Parser → Parser)) → ((q : Parser) → IsCalm q → IsCalm (change q)) → (p : Parser) → IsCalm p
    → IsCalm (within_head_of n change p)
calm-within_head_of None change h-change p h = h-change p h
calm-within_head_of (Some n) change h-change p h = calm-on_page (removed_from_stack n) ((change (on_page (pushed Head (codes "head") n) p)))
    (h-change ((on_page (pushed Head (codes "head") n) p)) (calm-on_page ((pushed Head (codes "head") n)) p h))

pub calm-within_head : (change : (Parser → Parser)) → ((q : Parser) → IsCalm q → IsCalm (change q)) → (p : Parser) → IsCalm p → IsCalm
    (within_head change p)
calm-within_head change h-change p h = calm-within_head_of p.head change h-change p h

pub calm-start_after_head : (kind : Kind) → asks_text kind ≡ false → (tag : StartTagOf) → asks_text (kind_of tag.name) ≡ false → (p : Parser)
    → IsCalm p → IsCalm (start_after_head kind tag p)
calm-start_after_head kind q-kind tag q-tag p h = calm-within_head (start_in_head kind tag) (calm-start_in_head kind q-kind tag q-tag)
    (unexpected p) (calm-unexpected p h)

pub calm-after_head_start : (again : Again) → ((q : Parser) → (t : Token) → asks_text_by t ≡ false → IsCalm q → IsCalm (again q t)) → (other : Kind)
    → asks_text other ≡ false → (tag : StartTagOf) → asks_text (kind_of tag.name) ≡ false → (p : Parser) → IsCalm p → IsCalm
    (after_head_start again other tag p)
calm-after_head_start again h-again HtmlRoot q-htmlroot tag q-tag p h = calm-start_html tag q-tag p h
calm-after_head_start again h-again Body q-body tag q-tag p h = calm-not_frameset_ok (insert_body tag p) (calm-insert_body tag q-tag p h)
calm-after_head_start again h-again Frameset q-frameset tag q-tag p h = calm-in_mode InFrameset (insert tag p) (calm-insert tag q-tag p h)
calm-after_head_start again h-again Base q-base tag q-tag p h = calm-start_after_head Base q-base tag q-tag p h
calm-after_head_start again h-again Link q-link tag q-tag p h = calm-start_after_head Link q-link tag q-tag p h
calm-after_head_start again h-again Meta q-meta tag q-tag p h = calm-start_after_head Meta q-meta tag q-tag p h
calm-after_head_start again h-again Noframes q-noframes tag q-tag p h = absurd (false≢true (sym q-noframes))
calm-after_head_start again h-again Script q-script tag q-tag p h = absurd (false≢true (sym q-script))
calm-after_head_start again h-again Style q-style tag q-tag p h = absurd (false≢true (sym q-style))
calm-after_head_start again h-again Template q-template tag q-tag p h = calm-start_after_head Template q-template tag q-tag p h
calm-after_head_start again h-again Title q-title tag q-tag p h = absurd (false≢true (sym q-title))
calm-after_head_start again h-again Head q-head tag q-tag p h = calm-unexpected p h
calm-after_head_start again h-again other q-other tag q-tag p h = calm-after_head_other again h-again (StartTag tag) q-tag p h

pub calm-after_head_end : (again : Again) → ((q : Parser) → (t : Token) → asks_text_by t ≡ false → IsCalm q → IsCalm (again q t)) → (other : Kind) →
    (name : List ℕ) → (p : Parser) → IsCalm p → IsCalm (after_head_end again other name p)
unfolding kind_of kind_in all_names is_among
calm-after_head_end again h-again Template name p h = calm-end_template p h
calm-after_head_end again h-again Body name p h = calm-after_head_other again h-again (EndTag name) refl p h
calm-after_head_end again h-again HtmlRoot name p h = calm-after_head_other again h-again (EndTag name) refl p h
calm-after_head_end again h-again LineBreak name p h = calm-after_head_other again h-again (EndTag name) refl p h
calm-after_head_end again h-again other name p h = calm-unexpected p h

pub calm-after_head : (again : Again) → ((q : Parser) → (t : Token) → asks_text_by t ≡ false → IsCalm q → IsCalm (again q t)) → (c : Token)
    → asks_text_by c ≡ false → (p : Parser) → IsCalm p → IsCalm (after_head again c p)
calm-after_head again h-again (Character c) q-c p h = calm-if-parser (is_space c) (insert_character c p) (after_head_other again (Character c) p)
    (calm-insert_character c p h) (calm-after_head_other again h-again (Character c) q-c p h)
calm-after_head again h-again (Comment text) q-text p h = calm-insert_comment text p h
calm-after_head again h-again (Doctype doctype) q-doctype p h = calm-unexpected p h
calm-after_head again h-again (StartTag tag) q-tag p h = calm-after_head_start again h-again (kind_of tag.name) q-tag tag q-tag p h
calm-after_head again h-again (EndTag name) q-name p h = calm-after_head_end again h-again (kind_of name) name p h
calm-after_head again h-again EndOfFile q-endoffile p h = calm-after_head_other again h-again EndOfFile q-endoffile p h

pub calm-back : (p : Parser) → IsCalm p → IsCalm (back p)
calm-back p h = calm-in_mode p.original_mode (pop p) (calm-pop p h)

pub calm-text_end_of_file : (again : Again) → ((q : Parser) → (t : Token) → asks_text_by t ≡ false → IsCalm q → IsCalm (again q t)) → (p : Parser)
    → IsCalm p → IsCalm (text_end_of_file again p)
unfolding kind_of kind_in all_names is_among
calm-text_end_of_file again h-again p h = let noted : Parser = mistaken UnclosedAtEnd p in let h-noted : IsCalm noted = calm-mistaken UnclosedAtEnd p h in h-again ((back (if is_current is_script p then mark_current noted else noted))) EndOfFile refl (calm-back (if is_current is_script p then mark_current noted else noted) (calm-if-parser (is_current is_script p) (mark_current noted) noted (calm-mark_current noted h-noted) h-noted))

pub calm-character_in_body : (c : ℕ) → (p : Parser) → IsCalm p → IsCalm (character_in_body c p)
calm-character_in_body c p h = calm-if-parser (is_null c) (unexpected p) (if is_space c then insert_character c
    (reconstructed p) else not_frameset_ok (insert_character c (reconstructed p))) (calm-unexpected p h) (calm-if-parser (is_space c)
    (insert_character c (reconstructed p)) (not_frameset_ok (insert_character c (reconstructed p))) (calm-insert_character c (reconstructed p)
    (calm-reconstructed p h)) (calm-not_frameset_ok ((insert_character c (reconstructed p))) (calm-insert_character c (reconstructed p)
    (calm-reconstructed p h))))

pub calm-add_to_body : (tag : StartTagOf) → asks_text (kind_of tag.name) ≡ false → (p : Parser) → IsCalm p → IsCalm (add_to_body tag p)
calm-add_to_body tag q-tag p h = calm-on_page ((λ page. added_to_body (second_body page.opened) tag page)) p h

pub calm-start_body : (tag : StartTagOf) → asks_text (kind_of tag.name) ≡ false → (p : Parser) → IsCalm p → IsCalm (start_body tag p)
calm-start_body tag q-tag p h = calm-if-parser (has_body p && not (has_template p)) (add_to_body tag (not_frameset_ok (unexpected p)))
    (unexpected p) (calm-add_to_body tag q-tag ((not_frameset_ok (unexpected p))) (calm-not_frameset_ok (unexpected p) (calm-unexpected p h)))
    (calm-unexpected p h)

pub calm-without_body : (p : Parser) → IsCalm p → IsCalm (without_body p)
calm-without_body p h = calm-on_page ((λ page. popped_to_first (removed_body (second_body page.opened) page))) p h

pub calm-start_frameset : (tag : StartTagOf) → asks_text (kind_of tag.name) ≡ false → (p : Parser) → IsCalm p → IsCalm (start_frameset tag p)
calm-start_frameset tag q-tag p h = calm-if-parser (has_body p && p.frameset_ok) (in_mode InFrameset (insert tag (without_body (unexpected p))))
    (unexpected p) (calm-in_mode InFrameset ((insert tag (without_body (unexpected p)))) (calm-insert tag q-tag ((without_body (unexpected p)))
    (calm-without_body (unexpected p) (calm-unexpected p h)))) (calm-unexpected p h)

pub calm-expects_closed : (p : Parser) → IsCalm p → IsCalm (expects_closed p)
calm-expects_closed p h = calm-if-parser (has_open (λ e. not (may_stay_open e.kind)) p.page.opened) (mistaken UnclosedElements p) p
    (calm-mistaken UnclosedElements p h) h

pub calm-end_of_file_in_template : (again : Again) → ((q : Parser) → (t : Token) → asks_text_by t ≡ false → IsCalm q → IsCalm (again q t)) →
    (p : Parser) → IsCalm p → IsCalm (end_of_file_in_template again p)
unfolding kind_of kind_in all_names is_among
calm-end_of_file_in_template again h-again p h = calm-if-parser (has_template p) (again (template_closed (mistaken UnclosedAtEnd p)) EndOfFile)
    (stop_parsing p) (h-again ((template_closed (mistaken UnclosedAtEnd p))) EndOfFile refl (calm-template_closed (mistaken UnclosedAtEnd p)
    (calm-mistaken UnclosedAtEnd p h))) (calm-stop_parsing p h)

pub calm-end_of_file_by : (again : Again) → ((q : Parser) → (t : Token) → asks_text_by t ≡ false → IsCalm q → IsCalm (again q t)) →
    (mode : List Mode) → (p : Parser) → IsCalm p → IsCalm (end_of_file_by again mode p)
calm-end_of_file_by again h-again [] p h = calm-stop_parsing (expects_closed p) (calm-expects_closed p h)
calm-end_of_file_by again h-again (mode ∷ modes) p h = calm-end_of_file_in_template again h-again p h

pub calm-end_of_file_in_body : (again : Again) → ((q : Parser) → (t : Token) → asks_text_by t ≡ false → IsCalm q → IsCalm (again q t)) →
    (p : Parser) → IsCalm p → IsCalm (end_of_file_in_body again p)
calm-end_of_file_in_body again h-again p h = calm-end_of_file_by again h-again p.template_modes p h

pub calm-end_body : (after : (Parser → Parser)) → ((q : Parser) → IsCalm q → IsCalm (after q)) → (p : Parser) → IsCalm p → IsCalm (end_body after p)
calm-end_body after h-after p h = calm-if-parser (in_scope (has_kind is_body) p) (after (in_mode AfterBody (expects_closed p))) (unexpected p)
    (h-after ((in_mode AfterBody (expects_closed p))) (calm-in_mode AfterBody (expects_closed p) (calm-expects_closed p h))) (calm-unexpected p h)

pub calm-start_block : (tag : StartTagOf) → asks_text (kind_of tag.name) ≡ false → (p : Parser) → IsCalm p → IsCalm (start_block tag p)
calm-start_block tag q-tag p h = calm-insert tag q-tag (without_paragraph p) (calm-without_paragraph p h)

pub calm-without_heading : (p : Parser) → IsCalm p → IsCalm (without_heading p)
calm-without_heading p h = calm-if-parser (is_current is_heading p) (pop (unexpected p)) p (calm-pop (unexpected p) (calm-unexpected p h)) h

pub calm-start_preformatted : (tag : StartTagOf) → asks_text (kind_of tag.name) ≡ false → (p : Parser) → IsCalm p → IsCalm (start_preformatted tag p)
calm-start_preformatted tag q-tag p h = calm-start_block tag q-tag p h

pub calm-without_item_of : (name : Option (List ℕ)) → (p : Parser) → IsCalm p → IsCalm (without_item_of name p)
calm-without_item_of None p h = h
calm-without_item_of (Some name) p h = calm-ended_without_implied (has_name name) p h

pub calm-start_item : (test : (Open → Bool)) → (tag : StartTagOf) → asks_text (kind_of tag.name) ≡ false → (p : Parser) → IsCalm p → IsCalm
    (start_item test tag p)
calm-start_item test tag q-tag p h = let noted : Parser = not_frameset_ok p in let h-noted : IsCalm noted = calm-not_frameset_ok p h in calm-insert tag q-tag ((without_paragraph (without_item_of (item_met test noted.page.opened) noted))) (calm-without_paragraph ((without_item_of (item_met test noted.page.opened) noted)) (calm-without_item_of (item_met test noted.page.opened) noted h-noted))

pub calm-end_block : (test : (Open → Bool)) → (p : Parser) → IsCalm p → IsCalm (end_block test p)
calm-end_block test p h = calm-if-parser (in_scope test p) (ended test p) (unexpected p) (calm-ended test p h) (calm-unexpected p h)

pub calm-end_list_item : (p : Parser) → IsCalm p → IsCalm (end_list_item p)
calm-end_list_item p h = calm-if-parser (has_in_scope ends_list_scope (has_kind is_list_item) p.page.opened) (ended_without_implied
    (has_kind is_list_item) p) (unexpected p) (calm-ended_without_implied (has_kind is_list_item) p h) (calm-unexpected p h)

pub calm-end_description : (name : List ℕ) → (p : Parser) → IsCalm p → IsCalm (end_description name p)
calm-end_description name p h = calm-if-parser (in_scope (has_name name) p) (ended_without_implied (has_name name) p) (unexpected p)
    (calm-ended_without_implied (has_name name) p h) (calm-unexpected p h)

pub calm-end_heading : (name : List ℕ) → (p : Parser) → IsCalm p → IsCalm (end_heading name p)
calm-end_heading name p h = calm-if-parser (in_scope (has_kind is_heading) p) (pop_until (has_kind is_heading) (expects_current (has_name name)
    (implied_ended p))) (unexpected p) (calm-pop_until (has_kind is_heading) ((expects_current (has_name name) (implied_ended p)))
    (calm-expects_current (has_name name) (implied_ended p) (calm-implied_ended p h))) (calm-unexpected p h)

pub calm-end_paragraph : (p : Parser) → IsCalm p → IsCalm (end_paragraph p)
unfolding kind_of kind_in all_names is_among
calm-end_paragraph p h = calm-paragraph_closed ((if in_button_scope (has_kind is_paragraph) p then p else insert (bare_tag (codes "p"))
    (unexpected p))) (calm-if-parser (in_button_scope (has_kind is_paragraph) p) p (insert (bare_tag (codes "p")) (unexpected p)) h (calm-insert
    ((bare_tag (codes "p"))) refl (unexpected p) (calm-unexpected p h)))

pub calm-insert_form : (tag : StartTagOf) → asks_text (kind_of tag.name) ≡ false → (p : Parser) → IsCalm p → IsCalm (insert_form tag p)
calm-insert_form tag q-tag p h = let ready : Parser = without_paragraph p in let h-ready : IsCalm ready = calm-without_paragraph p h in calm-inserted Form (codes "form") tag.attributes ready h-ready

pub calm-start_form_outside : (n : Option ℕ) → (tag : StartTagOf) → asks_text (kind_of tag.name) ≡ false → (p : Parser) → IsCalm p → IsCalm
    (start_form_outside n tag p)
calm-start_form_outside None tag q-tag p h = calm-insert_form tag q-tag p h
calm-start_form_outside (Some n) tag q-tag p h = calm-unexpected p h

pub calm-start_form : (tag : StartTagOf) → asks_text (kind_of tag.name) ≡ false → (p : Parser) → IsCalm p → IsCalm (start_form tag p)
calm-start_form tag q-tag p h = calm-if-parser (has_template p) (start_block tag p) (start_form_outside p.form tag p)
    (calm-start_block tag q-tag p h) (calm-start_form_outside p.form tag q-tag p h)

pub calm-end_form_of : (n : Option ℕ) → (p : Parser) → IsCalm p → IsCalm (end_form_of n p)
calm-end_form_of None p h = calm-unexpected p h
calm-end_form_of (Some n) p h = let without : Parser = record p { form = None } in let h-without : IsCalm without = h in calm-if-parser (in_scope
    (has_number n) p) (on_page (removed_from_stack n) (expects_current (has_number n) (implied_ended without))) (unexpected without) (calm-on_page
    (removed_from_stack n) ((expects_current (has_number n) (implied_ended without))) (calm-expects_current (has_number n) (implied_ended without)
    (calm-implied_ended without h-without))) (calm-unexpected without h-without)

pub calm-end_form : (p : Parser) → IsCalm p → IsCalm (end_form p)
calm-end_form p h = calm-if-parser (has_template p) (end_block (has_kind is_form) p) (end_form_of p.form p) (calm-end_block (has_kind is_form) p h)
    (calm-end_form_of p.form p h)

pub calm-start_button : (tag : StartTagOf) → asks_text (kind_of tag.name) ≡ false → (p : Parser) → IsCalm p → IsCalm (start_button tag p)
calm-start_button tag q-tag p h = let ready : Parser = if in_scope (has_kind is_button) p then pop_until (has_kind is_button) (implied_ended
    (unexpected p)) else p in let h-ready : IsCalm ready = calm-if-parser (in_scope (has_kind is_button) p) (pop_until (has_kind is_button)
    (implied_ended (unexpected p))) p (calm-pop_until (has_kind is_button) ((implied_ended (unexpected p))) (calm-implied_ended (unexpected p)
    (calm-unexpected p h))) h in calm-not_frameset_ok ((insert tag (reconstructed ready))) (calm-insert tag q-tag (reconstructed ready)
    (calm-reconstructed ready h-ready))

pub calm-start_formatting : (tag : StartTagOf) → asks_text (kind_of tag.name) ≡ false → (p : Parser) → IsCalm p → IsCalm (start_formatting tag p)
unfolding kind_of kind_in all_names is_among
calm-start_formatting tag q-tag p h = calm-insert_formatting Formatting refl tag q-tag (reconstructed p) (calm-reconstructed p h)

pub calm-start_font : (tag : StartTagOf) → asks_text (kind_of tag.name) ≡ false → (p : Parser) → IsCalm p → IsCalm (start_font tag p)
unfolding kind_of kind_in all_names is_among
calm-start_font tag q-tag p h = calm-insert_formatting Font refl tag q-tag (reconstructed p) (calm-reconstructed p h)

pub calm-removed_if_open : (n : ℕ) → (p : Parser) → IsCalm p → IsCalm (removed_if_open n p)
calm-removed_if_open n p h = calm-if-parser (has_open (has_number n) p.page.opened) (on_page (removed_from_stack n) p) p (calm-on_page
    (removed_from_stack n) p h) h

pub calm-without_anchor : (name : List ℕ) → (e : Option Listed) → (p : Parser) → IsCalm p → IsCalm (without_anchor name e p)
calm-without_anchor name None p h = h
calm-without_anchor name (Some e) p h = let later : Parser = adoption_agency name
    (unexpected p) in let h-later : IsCalm later = calm-adoption_agency name (unexpected p) (calm-unexpected p h) in calm-removed_if_open e.node
    (record later { formatting = without_entry e.node later.formatting }) h-later

pub calm-start_anchor : (tag : StartTagOf) → asks_text (kind_of tag.name) ≡ false → (p : Parser) → IsCalm p → IsCalm (start_anchor tag p)
unfolding kind_of kind_in all_names is_among
calm-start_anchor tag q-tag p h = calm-insert_formatting Anchor refl tag q-tag ((reconstructed (without_anchor tag.name
    (last_named tag.name p.formatting) p))) (calm-reconstructed ((without_anchor tag.name (last_named tag.name p.formatting) p))
    (calm-without_anchor tag.name (last_named tag.name p.formatting) p h))

pub calm-without_no_break : (name : List ℕ) → (p : Parser) → IsCalm p → IsCalm (without_no_break name p)
calm-without_no_break name p h = calm-if-parser (in_scope (has_kind is_no_break) p) (reconstructed (adoption_agency name (unexpected p))) p
    (calm-reconstructed ((adoption_agency name (unexpected p))) (calm-adoption_agency name (unexpected p) (calm-unexpected p h))) h

pub calm-start_no_break : (tag : StartTagOf) → asks_text (kind_of tag.name) ≡ false → (p : Parser) → IsCalm p → IsCalm (start_no_break tag p)
unfolding kind_of kind_in all_names is_among
calm-start_no_break tag q-tag p h = calm-insert_formatting NoBreak refl tag q-tag ((without_no_break tag.name (reconstructed p)))
    (calm-without_no_break tag.name (reconstructed p) (calm-reconstructed p h))

pub calm-start_marked : (tag : StartTagOf) → asks_text (kind_of tag.name) ≡ false → (p : Parser) → IsCalm p → IsCalm (start_marked tag p)
calm-start_marked tag q-tag p h = calm-not_frameset_ok ((with_marker (insert tag (reconstructed p)))) (calm-with_marker ((insert tag
    (reconstructed p))) (calm-insert tag q-tag (reconstructed p) (calm-reconstructed p h)))

pub calm-end_marked : (name : List ℕ) → (p : Parser) → IsCalm p → IsCalm (end_marked name p)
calm-end_marked name p h = calm-if-parser (in_scope (has_name name) p) (cleared_to_marker (ended (has_name name) p)) (unexpected p)
    (calm-cleared_to_marker ((ended (has_name name) p)) (calm-ended (has_name name) p h)) (calm-unexpected p h)

pub calm-start_table : (tag : StartTagOf) → asks_text (kind_of tag.name) ≡ false → (p : Parser) → IsCalm p → IsCalm (start_table tag p)
calm-start_table tag q-tag p h = calm-in_mode InTable ((not_frameset_ok (insert tag (if is_quirks p.quirks_mode then p else without_paragraph p))))
    (calm-not_frameset_ok ((insert tag (if is_quirks p.quirks_mode then p else without_paragraph p))) (calm-insert tag q-tag
    (if is_quirks p.quirks_mode then p else without_paragraph p) (calm-if-parser (is_quirks p.quirks_mode) p (without_paragraph p) h
    (calm-without_paragraph p h))))

pub calm-start_void : (tag : StartTagOf) → asks_text (kind_of tag.name) ≡ false → (p : Parser) → IsCalm p → IsCalm (start_void tag p)
calm-start_void tag q-tag p h = calm-not_frameset_ok ((insert_void tag (reconstructed p))) (calm-insert_void tag q-tag (reconstructed p)
    (calm-reconstructed p h))

pub calm-without_select : (p : Parser) → IsCalm p → IsCalm (without_select p)
calm-without_select p h = calm-if-parser (in_scope (has_kind is_select) p) (pop_until (has_kind is_select) (unexpected p)) p (calm-pop_until
    (has_kind is_select) (unexpected p) (calm-unexpected p h)) h

pub calm-insert_input : (tag : StartTagOf) → asks_text (kind_of tag.name) ≡ false → (p : Parser) → IsCalm p → IsCalm (insert_input tag p)
calm-insert_input tag q-tag p h = let later : Parser = insert_void tag (reconstructed p) in let h-later : IsCalm later = calm-insert_void tag q-tag
    (reconstructed p) (calm-reconstructed p h) in calm-if-parser (is_hidden tag) later (not_frameset_ok later) h-later
    (calm-not_frameset_ok later h-later)

pub calm-start_input : (tag : StartTagOf) → asks_text (kind_of tag.name) ≡ false → (p : Parser) → IsCalm p → IsCalm (start_input tag p)
calm-start_input tag q-tag p h = calm-if-parser (is_in_select p.options.context) (unexpected p) (insert_input tag (without_select p))
    (calm-unexpected p h) (calm-insert_input tag q-tag (without_select p) (calm-without_select p h))

pub calm-expects_no_option : (test : (Open → Bool)) → (p : Parser) → IsCalm p → IsCalm (expects_no_option test p)
calm-expects_no_option test p h = calm-if-parser (in_scope test p) (unexpected p) p (calm-unexpected p h) h

pub calm-start_rule : (tag : StartTagOf) → asks_text (kind_of tag.name) ≡ false → (p : Parser) → IsCalm p → IsCalm (start_rule tag p)
calm-start_rule tag q-tag p h = let ready : Parser = without_paragraph p in let h-ready : IsCalm ready = calm-without_paragraph p h in calm-not_frameset_ok ((insert_void tag (if in_scope (has_kind is_select) ready then expects_no_option is_option_or_group (implied_ended ready) else ready))) (calm-insert_void tag q-tag ((if in_scope (has_kind is_select) ready then expects_no_option is_option_or_group (implied_ended ready) else ready)) (calm-if-parser (in_scope (has_kind is_select) ready) (expects_no_option is_option_or_group (implied_ended ready)) ready (calm-expects_no_option is_option_or_group (implied_ended ready) (calm-implied_ended ready h-ready)) h-ready))

pub calm-start_select : (tag : StartTagOf) → asks_text (kind_of tag.name) ≡ false → (p : Parser) → IsCalm p → IsCalm (start_select tag p)
calm-start_select tag q-tag p h = calm-if-parser (is_in_select p.options.context) (unexpected p) (if in_scope (has_kind is_select) p then pop_until
    (has_kind is_select) (unexpected p) else not_frameset_ok (insert tag (reconstructed p))) (calm-unexpected p h) (calm-if-parser (in_scope
    (has_kind is_select) p) (pop_until (has_kind is_select) (unexpected p)) (not_frameset_ok (insert tag (reconstructed p))) (calm-pop_until
    (has_kind is_select) (unexpected p) (calm-unexpected p h)) (calm-not_frameset_ok ((insert tag (reconstructed p))) (calm-insert tag q-tag
    (reconstructed p) (calm-reconstructed p h))))

pub calm-without_option : (p : Parser) → IsCalm p → IsCalm (without_option p)
calm-without_option p h = calm-if-parser (is_current is_select_option p) (pop p) p (calm-pop p h) h

pub calm-start_option : (tag : StartTagOf) → asks_text (kind_of tag.name) ≡ false → (p : Parser) → IsCalm p → IsCalm (start_option tag p)
calm-start_option tag q-tag p h = calm-insert tag q-tag ((reconstructed (if in_scope (has_kind is_select) p then expects_no_option
    (has_kind is_select_option) (implied_ended_but (has_kind is_option_group) p) else without_option p))) (calm-reconstructed ((if in_scope
    (has_kind is_select) p then expects_no_option (has_kind is_select_option) (implied_ended_but
    (has_kind is_option_group) p) else without_option p)) (calm-if-parser (in_scope (has_kind is_select) p) (expects_no_option
    (has_kind is_select_option) (implied_ended_but (has_kind is_option_group) p)) (without_option p) (calm-expects_no_option
    (has_kind is_select_option) ((implied_ended_but (has_kind is_option_group) p)) (calm-implied_ended_but (has_kind is_option_group) p h))
    (calm-without_option p h)))

pub calm-start_option_group : (tag : StartTagOf) → asks_text (kind_of tag.name) ≡ false → (p : Parser) → IsCalm p → IsCalm (start_option_group tag p)
calm-start_option_group tag q-tag p h = calm-insert tag q-tag ((reconstructed (if in_scope
    (has_kind is_select) p then expects_no_option is_option_or_group (implied_ended p) else without_option p))) (calm-reconstructed ((if in_scope
    (has_kind is_select) p then expects_no_option is_option_or_group (implied_ended p) else without_option p)) (calm-if-parser (in_scope
    (has_kind is_select) p) (expects_no_option is_option_or_group (implied_ended p)) (without_option p) (calm-expects_no_option is_option_or_group
    (implied_ended p) (calm-implied_ended p h)) (calm-without_option p h)))

pub calm-start_ruby_base : (tag : StartTagOf) → asks_text (kind_of tag.name) ≡ false → (p : Parser) → IsCalm p → IsCalm (start_ruby_base tag p)
calm-start_ruby_base tag q-tag p h = calm-insert tag q-tag ((if in_scope (has_kind is_ruby) p then expects_current (has_kind is_ruby)
    (implied_ended p) else p)) (calm-if-parser (in_scope (has_kind is_ruby) p) (expects_current (has_kind is_ruby) (implied_ended p)) p
    (calm-expects_current (has_kind is_ruby) (implied_ended p) (calm-implied_ended p h)) h)

pub calm-start_ruby_text : (tag : StartTagOf) → asks_text (kind_of tag.name) ≡ false → (p : Parser) → IsCalm p → IsCalm (start_ruby_text tag p)
calm-start_ruby_text tag q-tag p h = calm-insert tag q-tag ((if in_scope (has_kind is_ruby) p then expects_current is_ruby_or_container
    (implied_ended_but (has_kind is_ruby_container) p) else p)) (calm-if-parser (in_scope (has_kind is_ruby) p)
    (expects_current is_ruby_or_container (implied_ended_but (has_kind is_ruby_container) p)) p (calm-expects_current is_ruby_or_container
    ((implied_ended_but (has_kind is_ruby_container) p)) (calm-implied_ended_but (has_kind is_ruby_container) p h)) h)

pub calm-popped_if_closed : (true : Bool) → (p : Parser) → IsCalm p → IsCalm (popped_if_closed true p)
calm-popped_if_closed true p h = calm-acknowledges (pop p) (calm-pop p h)
calm-popped_if_closed false p h = h

pub calm-insert_foreign : (namespace : Namespace) → (tag : StartTagOf) → asks_text (kind_of tag.name) ≡ false → (p : Parser) → IsCalm p → IsCalm
    (insert_foreign namespace tag p)
calm-insert_foreign namespace tag q-tag p h = let name : List ℕ = adjusted_tag_name namespace tag.name in calm-inserted_at ((place_of
    (depth_extra tag.self_closing) p)) (kind_in_namespace namespace name tag.attributes) name tag.attributes p h

pub calm-start_foreign : (namespace : Namespace) → (tag : StartTagOf) → asks_text (kind_of tag.name) ≡ false → (p : Parser) → IsCalm p → IsCalm
    (start_foreign namespace tag p)
calm-start_foreign namespace tag q-tag p h = calm-popped_if_closed tag.self_closing ((insert_foreign namespace tag (reconstructed p)))
    (calm-insert_foreign namespace tag q-tag (reconstructed p) (calm-reconstructed p h))

pub calm-any_other_start_tag : (tag : StartTagOf) → asks_text (kind_of tag.name) ≡ false → (p : Parser) → IsCalm p → IsCalm
    (any_other_start_tag tag p)
calm-any_other_start_tag tag q-tag p h = calm-insert tag q-tag (reconstructed p) (calm-reconstructed p h)

pub calm-start_in_body : (again : Again) → ((q : Parser) → (t : Token) → asks_text_by t ≡ false → IsCalm q → IsCalm (again q t)) → (other : Kind)
    → asks_text other ≡ false → (tag : StartTagOf) → asks_text (kind_of tag.name) ≡ false → (p : Parser) → IsCalm p → IsCalm
    (start_in_body again other tag p)
unfolding kind_of kind_in all_names is_among
calm-start_in_body again h-again HtmlRoot q-htmlroot tag q-tag p h = calm-start_html tag q-tag p h
calm-start_in_body again h-again Base q-base tag q-tag p h = calm-start_in_head Base q-base tag q-tag p h
calm-start_in_body again h-again Link q-link tag q-tag p h = calm-start_in_head Link q-link tag q-tag p h
calm-start_in_body again h-again Meta q-meta tag q-tag p h = calm-start_in_head Meta q-meta tag q-tag p h
calm-start_in_body again h-again Noframes q-noframes tag q-tag p h = absurd (false≢true (sym q-noframes))
calm-start_in_body again h-again Script q-script tag q-tag p h = absurd (false≢true (sym q-script))
calm-start_in_body again h-again Style q-style tag q-tag p h = absurd (false≢true (sym q-style))
calm-start_in_body again h-again Template q-template tag q-tag p h = calm-start_in_head Template q-template tag q-tag p h
calm-start_in_body again h-again Title q-title tag q-tag p h = absurd (false≢true (sym q-title))
calm-start_in_body again h-again Body q-body tag q-tag p h = calm-start_body tag q-tag p h
calm-start_in_body again h-again Frameset q-frameset tag q-tag p h = calm-start_frameset tag q-tag p h
calm-start_in_body again h-again Paragraph q-paragraph tag q-tag p h = calm-start_block tag q-tag p h
calm-start_in_body again h-again Address q-address tag q-tag p h = calm-start_block tag q-tag p h
calm-start_in_body again h-again Division q-division tag q-tag p h = calm-start_block tag q-tag p h
calm-start_in_body again h-again BreakoutBlock q-breakoutblock tag q-tag p h = calm-start_block tag q-tag p h
calm-start_in_body again h-again Block q-block tag q-tag p h = calm-start_block tag q-tag p h
calm-start_in_body again h-again Dialog q-dialog tag q-tag p h = calm-start_block tag q-tag p h
calm-start_in_body again h-again Fieldset q-fieldset tag q-tag p h = calm-start_block tag q-tag p h
calm-start_in_body again h-again ListBlock q-listblock tag q-tag p h = calm-start_block tag q-tag p h
calm-start_in_body again h-again Heading q-heading tag q-tag p h = calm-insert tag q-tag ((without_heading (without_paragraph p)))
    (calm-without_heading (without_paragraph p) (calm-without_paragraph p h))
calm-start_in_body again h-again Preformatted q-preformatted tag q-tag p h = calm-start_preformatted tag q-tag p h
calm-start_in_body again h-again Form q-form tag q-tag p h = calm-start_form tag q-tag p h
calm-start_in_body again h-again ListItem q-listitem tag q-tag p h = calm-start_item (has_kind is_list_item) tag q-tag p h
calm-start_in_body again h-again Description q-description tag q-tag p h = calm-start_item (has_kind is_description) tag q-tag p h
calm-start_in_body again h-again Plaintext q-plaintext tag q-tag p h = absurd (false≢true (sym q-plaintext))
calm-start_in_body again h-again Button q-button tag q-tag p h = calm-start_button tag q-tag p h
calm-start_in_body again h-again Anchor q-anchor tag q-tag p h = calm-start_anchor tag q-tag p h
calm-start_in_body again h-again Formatting q-formatting tag q-tag p h = calm-start_formatting tag q-tag p h
calm-start_in_body again h-again Font q-font tag q-tag p h = calm-start_font tag q-tag p h
calm-start_in_body again h-again NoBreak q-nobreak tag q-tag p h = calm-start_no_break tag q-tag p h
calm-start_in_body again h-again Applet q-applet tag q-tag p h = calm-start_marked tag q-tag p h
calm-start_in_body again h-again Object q-object tag q-tag p h = calm-start_marked tag q-tag p h
calm-start_in_body again h-again Table q-table tag q-tag p h = calm-start_table tag q-tag p h
calm-start_in_body again h-again Void q-void tag q-tag p h = calm-start_void tag q-tag p h
calm-start_in_body again h-again LineBreak q-linebreak tag q-tag p h = calm-start_void tag q-tag p h
calm-start_in_body again h-again Embed q-embed tag q-tag p h = calm-start_void tag q-tag p h
calm-start_in_body again h-again Image q-image tag q-tag p h = calm-start_void tag q-tag p h
calm-start_in_body again h-again Input q-input tag q-tag p h = calm-start_input tag q-tag p h
calm-start_in_body again h-again Parameter q-parameter tag q-tag p h = calm-insert_void tag q-tag p h
calm-start_in_body again h-again Rule q-rule tag q-tag p h = calm-start_rule tag q-tag p h
calm-start_in_body again h-again MisnamedImage q-misnamedimage tag q-tag p h = h-again (unexpected p) ((StartTag
    (record tag { name = codes "img" }))) refl (calm-unexpected p h)
calm-start_in_body again h-again Textarea q-textarea tag q-tag p h = absurd (false≢true (sym q-textarea))
calm-start_in_body again h-again Xmp q-xmp tag q-tag p h = absurd (false≢true (sym q-xmp))
calm-start_in_body again h-again Iframe q-iframe tag q-tag p h = absurd (false≢true (sym q-iframe))
calm-start_in_body again h-again Noembed q-noembed tag q-tag p h = absurd (false≢true (sym q-noembed))
calm-start_in_body again h-again Noscript q-noscript tag q-tag p h = calm-start_noscript tag q-tag p h
calm-start_in_body again h-again Select q-select tag q-tag p h = calm-start_select tag q-tag p h
calm-start_in_body again h-again SelectOption q-selectoption tag q-tag p h = calm-start_option tag q-tag p h
calm-start_in_body again h-again OptionGroup q-optiongroup tag q-tag p h = calm-start_option_group tag q-tag p h
calm-start_in_body again h-again RubyBase q-rubybase tag q-tag p h = calm-start_ruby_base tag q-tag p h
calm-start_in_body again h-again RubyContainer q-rubycontainer tag q-tag p h = calm-start_ruby_base tag q-tag p h
calm-start_in_body again h-again RubyText q-rubytext tag q-tag p h = calm-start_ruby_text tag q-tag p h
calm-start_in_body again h-again MathRoot q-mathroot tag q-tag p h = calm-start_foreign MathMl tag q-tag p h
calm-start_in_body again h-again SvgRoot q-svgroot tag q-tag p h = calm-start_foreign Svg tag q-tag p h
calm-start_in_body again h-again Caption q-caption tag q-tag p h = calm-unexpected p h
calm-start_in_body again h-again Column q-column tag q-tag p h = calm-unexpected p h
calm-start_in_body again h-again ColumnGroup q-columngroup tag q-tag p h = calm-unexpected p h
calm-start_in_body again h-again Frame q-frame tag q-tag p h = calm-unexpected p h
calm-start_in_body again h-again Head q-head tag q-tag p h = calm-unexpected p h
calm-start_in_body again h-again TableBody q-tablebody tag q-tag p h = calm-unexpected p h
calm-start_in_body again h-again Cell q-cell tag q-tag p h = calm-unexpected p h
calm-start_in_body again h-again TableRow q-tablerow tag q-tag p h = calm-unexpected p h
calm-start_in_body again h-again other q-other tag q-tag p h = calm-any_other_start_tag tag q-tag p h

pub calm-end_in_body : (again : Again) → ((q : Parser) → (t : Token) → asks_text_by t ≡ false → IsCalm q → IsCalm (again q t)) → (other : Kind) →
    (name : List ℕ) → (p : Parser) → IsCalm p → IsCalm (end_in_body again other name p)
unfolding kind_of kind_in all_names is_among
calm-end_in_body again h-again Template name p h = calm-end_template p h
calm-end_in_body again h-again Body name p h = calm-end_body (λ later. later) (λ later h-later. h-later) p h
calm-end_in_body again h-again HtmlRoot name p h = calm-end_body ((λ later. again later (EndTag name))) (λ later h-later. h-again later
    (EndTag name) refl h-later) p h
calm-end_in_body again h-again Address name p h = calm-end_block (has_name name) p h
calm-end_in_body again h-again Division name p h = calm-end_block (has_name name) p h
calm-end_in_body again h-again BreakoutBlock name p h = calm-end_block (has_name name) p h
calm-end_in_body again h-again Block name p h = calm-end_block (has_name name) p h
calm-end_in_body again h-again Dialog name p h = calm-end_block (has_name name) p h
calm-end_in_body again h-again Fieldset name p h = calm-end_block (has_name name) p h
calm-end_in_body again h-again ListBlock name p h = calm-end_block (has_name name) p h
calm-end_in_body again h-again Preformatted name p h = calm-end_block (has_name name) p h
calm-end_in_body again h-again Button name p h = calm-end_block (has_name name) p h
calm-end_in_body again h-again Select name p h = calm-end_block (has_name name) p h
calm-end_in_body again h-again Form name p h = calm-end_form p h
calm-end_in_body again h-again Paragraph name p h = calm-end_paragraph p h
calm-end_in_body again h-again ListItem name p h = calm-end_list_item p h
calm-end_in_body again h-again Description name p h = calm-end_description name p h
calm-end_in_body again h-again Heading name p h = calm-end_heading name p h
calm-end_in_body again h-again Anchor name p h = calm-adoption_agency name p h
calm-end_in_body again h-again Formatting name p h = calm-adoption_agency name p h
calm-end_in_body again h-again Font name p h = calm-adoption_agency name p h
calm-end_in_body again h-again NoBreak name p h = calm-adoption_agency name p h
calm-end_in_body again h-again Applet name p h = calm-end_marked name p h
calm-end_in_body again h-again Object name p h = calm-end_marked name p h
calm-end_in_body again h-again LineBreak name p h = calm-start_void ((bare_tag (codes "br"))) refl (unexpected p) (calm-unexpected p h)
calm-end_in_body again h-again other name p h = calm-any_other_end_tag name p h

pub calm-in_body : (again : Again) → ((q : Parser) → (t : Token) → asks_text_by t ≡ false → IsCalm q → IsCalm (again q t)) → (c : Token)
    → asks_text_by c ≡ false → (p : Parser) → IsCalm p → IsCalm (in_body again c p)
calm-in_body again h-again (Character c) q-c p h = calm-character_in_body c p h
calm-in_body again h-again (Comment text) q-text p h = calm-insert_comment text p h
calm-in_body again h-again (Doctype doctype) q-doctype p h = calm-unexpected p h
calm-in_body again h-again (StartTag tag) q-tag p h = calm-start_in_body again h-again (kind_of tag.name) q-tag tag q-tag p h
calm-in_body again h-again (EndTag name) q-name p h = calm-end_in_body again h-again (kind_of name) name p h
calm-in_body again h-again EndOfFile q-endoffile p h = calm-end_of_file_in_body again h-again p h

pub calm-fostered : (change : (Parser → Parser)) → ((q : Parser) → IsCalm q → IsCalm (change q)) → (p : Parser) → IsCalm p → IsCalm
    (fostered change p)
calm-fostered change h-change p h = h-change ((record (unexpected p) { fostering = true })) (calm-unexpected p h)

pub calm-table_other : (again : Again) → ((q : Parser) → (t : Token) → asks_text_by t ≡ false → IsCalm q → IsCalm (again q t)) → (token : Token)
    → asks_text_by token ≡ false → (p : Parser) → IsCalm p → IsCalm (table_other again token p)
calm-table_other again h-again token q-token p h = calm-fostered (in_body again token) (calm-in_body again h-again token q-token) p h

pub calm-collects_text : (again : Again) → ((q : Parser) → (t : Token) → asks_text_by t ≡ false → IsCalm q → IsCalm (again q t)) → (token : Token)
    → asks_text_by token ≡ false → (p : Parser) → IsCalm p → IsCalm (collects_text again token p)
calm-collects_text again h-again token q-token p h = h-again (record p { pending = []; original_mode = p.mode; mode = InTableText }) token q-token h

pub calm-table_character : (again : Again) → ((q : Parser) → (t : Token) → asks_text_by t ≡ false → IsCalm q → IsCalm (again q t)) → (c : ℕ) →
    (p : Parser) → IsCalm p → IsCalm (table_character again c p)
unfolding kind_of kind_in all_names is_among
calm-table_character again h-again c p h = calm-if-parser (is_current takes_table_text p) (collects_text again (Character c) p) (table_other again
    (Character c) p) (calm-collects_text again h-again (Character c) refl p h) (calm-table_other again h-again (Character c) refl p h)

pub calm-to_table : (p : Parser) → IsCalm p → IsCalm (to_table p)
calm-to_table p h = calm-cleared_back_to ends_table_scope p h

pub calm-without_table : (p : Parser) → IsCalm p → IsCalm (without_table p)
calm-without_table p h = calm-mode_reset ((pop_until (has_kind is_table) p)) (calm-pop_until (has_kind is_table) p h)

pub calm-form_in_table : (n : Option ℕ) → (tag : StartTagOf) → asks_text (kind_of tag.name) ≡ false → (p : Parser) → IsCalm p → IsCalm
    (form_in_table n tag p)
calm-form_in_table (Some n) tag q-tag p h = h
calm-form_in_table None tag q-tag p h = calm-pop ((record (inserted Form (codes "form") tag.attributes p) { form = Some p.page.next }))
    (calm-inserted Form (codes "form") tag.attributes p h)

pub calm-start_form_in_table : (tag : StartTagOf) → asks_text (kind_of tag.name) ≡ false → (p : Parser) → IsCalm p → IsCalm
    (start_form_in_table tag p)
calm-start_form_in_table tag q-tag p h = calm-if-parser (has_template p) (unexpected p) (form_in_table p.form tag (unexpected p))
    (calm-unexpected p h) (calm-form_in_table p.form tag q-tag (unexpected p) (calm-unexpected p h))

pub calm-table_start : (again : Again) → ((q : Parser) → (t : Token) → asks_text_by t ≡ false → IsCalm q → IsCalm (again q t)) → (other : Kind)
    → asks_text other ≡ false → (tag : StartTagOf) → asks_text (kind_of tag.name) ≡ false → (p : Parser) → IsCalm p → IsCalm
    (table_start again other tag p)
unfolding kind_of kind_in all_names is_among
calm-table_start again h-again Caption q-caption tag q-tag p h = calm-in_mode InCaption ((insert tag (with_marker (to_table p))))
    (calm-insert tag q-tag ((with_marker (to_table p))) (calm-with_marker (to_table p) (calm-to_table p h)))
calm-table_start again h-again ColumnGroup q-columngroup tag q-tag p h = calm-in_mode InColumnGroup ((insert tag (to_table p)))
    (calm-insert tag q-tag (to_table p) (calm-to_table p h))
calm-table_start again h-again Column q-column tag q-tag p h = h-again ((in_mode InColumnGroup (insert (bare_tag (codes "colgroup")) (to_table p))))
    (StartTag tag) q-tag (calm-in_mode InColumnGroup ((insert (bare_tag (codes "colgroup")) (to_table p))) (calm-insert ((bare_tag
    (codes "colgroup"))) refl (to_table p) (calm-to_table p h)))
calm-table_start again h-again TableBody q-tablebody tag q-tag p h = calm-in_mode InTableBody ((insert tag (to_table p))) (calm-insert tag q-tag
    (to_table p) (calm-to_table p h))
calm-table_start again h-again TableRow q-tablerow tag q-tag p h = h-again ((in_mode InTableBody (insert (bare_tag (codes "tbody")) (to_table p))))
    (StartTag tag) q-tag (calm-in_mode InTableBody ((insert (bare_tag (codes "tbody")) (to_table p))) (calm-insert ((bare_tag (codes "tbody"))) refl
    (to_table p) (calm-to_table p h)))
calm-table_start again h-again Cell q-cell tag q-tag p h = h-again ((in_mode InTableBody (insert (bare_tag (codes "tbody")) (to_table p))))
    (StartTag tag) q-tag (calm-in_mode InTableBody ((insert (bare_tag (codes "tbody")) (to_table p))) (calm-insert ((bare_tag (codes "tbody"))) refl
    (to_table p) (calm-to_table p h)))
calm-table_start again h-again Table q-table tag q-tag p h = calm-if-parser (in_table_scope (has_kind is_table) p) (again (without_table
    (unexpected p)) (StartTag tag)) (unexpected p) (h-again ((without_table (unexpected p))) (StartTag tag) q-tag (calm-without_table (unexpected p)
    (calm-unexpected p h))) (calm-unexpected p h)
calm-table_start again h-again Style q-style tag q-tag p h = absurd (false≢true (sym q-style))
calm-table_start again h-again Script q-script tag q-tag p h = absurd (false≢true (sym q-script))
calm-table_start again h-again Template q-template tag q-tag p h = calm-start_in_head Template q-template tag q-tag p h
calm-table_start again h-again Input q-input tag q-tag p h = calm-if-parser (is_hidden tag) (insert_void tag (unexpected p)) (table_other again
    (StartTag tag) p) (calm-insert_void tag q-tag (unexpected p) (calm-unexpected p h)) (calm-table_other again h-again (StartTag tag) q-tag p h)
calm-table_start again h-again Form q-form tag q-tag p h = calm-start_form_in_table tag q-tag p h
calm-table_start again h-again other q-other tag q-tag p h = calm-table_other again h-again (StartTag tag) q-tag p h

pub calm-table_end : (again : Again) → ((q : Parser) → (t : Token) → asks_text_by t ≡ false → IsCalm q → IsCalm (again q t)) → (kind : Kind) →
    (name : List ℕ) → (p : Parser) → IsCalm p → IsCalm (table_end again kind name p)
unfolding kind_of kind_in all_names is_among
calm-table_end again h-again Table name p h = calm-if-parser (in_table_scope (has_kind is_table) p) (without_table p) (unexpected p)
    (calm-without_table p h) (calm-unexpected p h)
calm-table_end again h-again Template name p h = calm-end_template p h
calm-table_end again h-again kind name p h = calm-if-parser (is_ignored_in_table kind) (unexpected p) (table_other again (EndTag name) p)
    (calm-unexpected p h) (calm-table_other again h-again (EndTag name) refl p h)

pub calm-in_table : (again : Again) → ((q : Parser) → (t : Token) → asks_text_by t ≡ false → IsCalm q → IsCalm (again q t)) → (c : Token)
    → asks_text_by c ≡ false → (p : Parser) → IsCalm p → IsCalm (in_table again c p)
calm-in_table again h-again (Character c) q-c p h = calm-table_character again h-again c p h
calm-in_table again h-again (Comment text) q-text p h = calm-insert_comment text p h
calm-in_table again h-again (Doctype doctype) q-doctype p h = calm-unexpected p h
calm-in_table again h-again (StartTag tag) q-tag p h = calm-table_start again h-again (kind_of tag.name) q-tag tag q-tag p h
calm-in_table again h-again (EndTag name) q-name p h = calm-table_end again h-again (kind_of name) name p h
calm-in_table again h-again EndOfFile q-endoffile p h = calm-end_of_file_in_body again h-again p h

pub calm-flushed_fostered : (c : List ℕ) → (p : Parser) → IsCalm p → IsCalm (flushed_fostered c p)
unfolding flushed_fostered
calm-flushed_fostered [] p h = h
calm-flushed_fostered (c ∷ text) p h = calm-flushed_fostered text ((fostered (character_in_body c) p)) (calm-fostered (character_in_body c)
    (calm-character_in_body c) p h)

pub calm-flushed_as_space : (c : List ℕ) → (p : Parser) → IsCalm p → IsCalm (flushed_as_space c p)
unfolding flushed_as_space
calm-flushed_as_space [] p h = h
calm-flushed_as_space (c ∷ text) p h = calm-flushed_as_space text (insert_character c p) (calm-insert_character c p h)

pub calm-flushed : (p : Parser) → IsCalm p → IsCalm (flushed p)
calm-flushed p h = calm-if-parser (is_all_space p.pending) (flushed_as_space p.pending p) (flushed_fostered p.pending p)
    (calm-flushed_as_space p.pending p h) (calm-flushed_fostered p.pending p h)

pub calm-table_text_other : (again : Again) → ((q : Parser) → (t : Token) → asks_text_by t ≡ false → IsCalm q → IsCalm (again q t)) →
    (token : Token) → asks_text_by token ≡ false → (p : Parser) → IsCalm p → IsCalm (table_text_other again token p)
calm-table_text_other again h-again token q-token p h = h-again ((record (flushed p) { pending = []; mode = p.original_mode })) token q-token
    (calm-flushed p h)

pub calm-in_table_text : (again : Again) → ((q : Parser) → (t : Token) → asks_text_by t ≡ false → IsCalm q → IsCalm (again q t)) → (c : Token)
    → asks_text_by c ≡ false → (p : Parser) → IsCalm p → IsCalm (in_table_text again c p)
calm-in_table_text again h-again (Character c) q-c p h = calm-if-parser (is_null c) (unexpected p) (record p { pending = p.pending ++ c ∷ [] })
    (calm-unexpected p h) h
calm-in_table_text again h-again token q-token p h = calm-table_text_other again h-again token q-token p h

pub calm-without_caption : (after : (Parser → Parser)) → ((q : Parser) → IsCalm q → IsCalm (after q)) → (p : Parser) → IsCalm p → IsCalm
    (without_caption after p)
calm-without_caption after h-after p h = calm-if-parser (in_table_scope (has_kind is_caption) p) (after (in_mode InTable (cleared_to_marker (ended
    (has_kind is_caption) p)))) (unexpected p) (h-after ((in_mode InTable (cleared_to_marker (ended (has_kind is_caption) p))))
    (calm-in_mode InTable ((cleared_to_marker (ended (has_kind is_caption) p))) (calm-cleared_to_marker ((ended (has_kind is_caption) p))
    (calm-ended (has_kind is_caption) p h)))) (calm-unexpected p h)

pub calm-caption_end : (again : Again) → ((q : Parser) → (t : Token) → asks_text_by t ≡ false → IsCalm q → IsCalm (again q t)) → (kind : Kind) →
    (name : List ℕ) → (p : Parser) → IsCalm p → IsCalm (caption_end again kind name p)
unfolding kind_of kind_in all_names is_among
calm-caption_end again h-again Caption name p h = calm-without_caption (λ later. later) (λ later h-later. h-later) p h
calm-caption_end again h-again Table name p h = calm-without_caption ((λ later. again later (EndTag name))) (λ later h-later. h-again later
    (EndTag name) refl h-later) p h
calm-caption_end again h-again kind name p h = calm-if-parser (is_ignored_in_table kind) (unexpected p) (in_body again (EndTag name) p)
    (calm-unexpected p h) (calm-in_body again h-again (EndTag name) refl p h)

pub calm-in_caption : (again : Again) → ((q : Parser) → (t : Token) → asks_text_by t ≡ false → IsCalm q → IsCalm (again q t)) → (tag : Token)
    → asks_text_by tag ≡ false → (p : Parser) → IsCalm p → IsCalm (in_caption again tag p)
calm-in_caption again h-again (StartTag tag) q-tag p h = calm-if-parser (is_part (kind_of tag.name)) (without_caption (λ later. again later
    (StartTag tag)) p) (in_body again (StartTag tag) p) (calm-without_caption ((λ later. again later (StartTag tag)))
    (λ later h-later. h-again later (StartTag tag) q-tag h-later) p h) (calm-in_body again h-again (StartTag tag) q-tag p h)
calm-in_caption again h-again (EndTag name) q-name p h = calm-caption_end again h-again (kind_of name) name p h
calm-in_caption again h-again token q-token p h = calm-in_body again h-again token q-token p h

pub calm-without_column_group : (after : (Parser → Parser)) → ((q : Parser) → IsCalm q → IsCalm (after q)) → (p : Parser) → IsCalm p → IsCalm
    (without_column_group after p)
calm-without_column_group after h-after p h = calm-if-parser (is_current is_column_group p) (after (in_mode InTable (pop p))) (unexpected p)
    (h-after ((in_mode InTable (pop p))) (calm-in_mode InTable (pop p) (calm-pop p h))) (calm-unexpected p h)

pub calm-column_group_other : (again : Again) → ((q : Parser) → (t : Token) → asks_text_by t ≡ false → IsCalm q → IsCalm (again q t)) →
    (token : Token) → asks_text_by token ≡ false → (p : Parser) → IsCalm p → IsCalm (column_group_other again token p)
calm-column_group_other again h-again token q-token p h = calm-without_column_group (λ later. again later token)
    (λ later h-later. h-again later token q-token h-later) p h

pub calm-column_group_start : (again : Again) → ((q : Parser) → (t : Token) → asks_text_by t ≡ false → IsCalm q → IsCalm (again q t)) →
    (other : Kind) → asks_text other ≡ false → (tag : StartTagOf) → asks_text (kind_of tag.name) ≡ false → (p : Parser) → IsCalm p → IsCalm
    (column_group_start again other tag p)
calm-column_group_start again h-again HtmlRoot q-htmlroot tag q-tag p h = calm-start_html tag q-tag p h
calm-column_group_start again h-again Column q-column tag q-tag p h = calm-insert_void tag q-tag p h
calm-column_group_start again h-again Template q-template tag q-tag p h = calm-start_in_head Template q-template tag q-tag p h
calm-column_group_start again h-again other q-other tag q-tag p h = calm-column_group_other again h-again (StartTag tag) q-tag p h

pub calm-column_group_end : (again : Again) → ((q : Parser) → (t : Token) → asks_text_by t ≡ false → IsCalm q → IsCalm (again q t)) → (other : Kind)
    → (name : List ℕ) → (p : Parser) → IsCalm p → IsCalm (column_group_end again other name p)
unfolding kind_of kind_in all_names is_among
calm-column_group_end again h-again ColumnGroup name p h = calm-without_column_group (λ later. later) (λ later h-later. h-later) p h
calm-column_group_end again h-again Column name p h = calm-unexpected p h
calm-column_group_end again h-again Template name p h = calm-end_template p h
calm-column_group_end again h-again other name p h = calm-column_group_other again h-again (EndTag name) refl p h

pub calm-in_column_group : (again : Again) → ((q : Parser) → (t : Token) → asks_text_by t ≡ false → IsCalm q → IsCalm (again q t)) → (c : Token)
    → asks_text_by c ≡ false → (p : Parser) → IsCalm p → IsCalm (in_column_group again c p)
calm-in_column_group again h-again (Character c) q-c p h = calm-if-parser (is_space c) (insert_character c p) (column_group_other again
    (Character c) p) (calm-insert_character c p h) (calm-column_group_other again h-again (Character c) q-c p h)
calm-in_column_group again h-again (Comment text) q-text p h = calm-insert_comment text p h
calm-in_column_group again h-again (Doctype doctype) q-doctype p h = calm-unexpected p h
calm-in_column_group again h-again (StartTag tag) q-tag p h = calm-column_group_start again h-again (kind_of tag.name) q-tag tag q-tag p h
calm-in_column_group again h-again (EndTag name) q-name p h = calm-column_group_end again h-again (kind_of name) name p h
calm-in_column_group again h-again EndOfFile q-endoffile p h = calm-end_of_file_in_body again h-again p h

pub calm-to_body : (p : Parser) → IsCalm p → IsCalm (to_body p)
calm-to_body p h = calm-cleared_back_to is_body_context p h

pub calm-without_table_body : (scoped : Bool) → (after : (Parser → Parser)) → ((q : Parser) → IsCalm q → IsCalm (after q)) → (p : Parser) → IsCalm p
    → IsCalm (without_table_body scoped after p)
calm-without_table_body scoped after h-after p h = calm-if-parser (scoped) (after (in_mode InTable (pop (to_body p)))) (unexpected p) (h-after
    ((in_mode InTable (pop (to_body p)))) (calm-in_mode InTable ((pop (to_body p))) (calm-pop (to_body p) (calm-to_body p h)))) (calm-unexpected p h)

pub calm-without_any_body : (after : (Parser → Parser)) → ((q : Parser) → IsCalm q → IsCalm (after q)) → (p : Parser) → IsCalm p → IsCalm
    (without_any_body after p)
calm-without_any_body after h-after p h = calm-without_table_body ((in_table_scope (has_kind is_table_body) p)) after h-after p h

pub calm-table_body_start : (again : Again) → ((q : Parser) → (t : Token) → asks_text_by t ≡ false → IsCalm q → IsCalm (again q t)) → (kind : Kind)
    → asks_text kind ≡ false → (tag : StartTagOf) → asks_text (kind_of tag.name) ≡ false → (p : Parser) → IsCalm p → IsCalm
    (table_body_start again kind tag p)
unfolding kind_of kind_in all_names is_among
calm-table_body_start again h-again TableRow q-tablerow tag q-tag p h = calm-in_mode InRow ((insert tag (to_body p))) (calm-insert tag q-tag
    (to_body p) (calm-to_body p h))
calm-table_body_start again h-again Cell q-cell tag q-tag p h = h-again ((in_mode InRow (insert (bare_tag (codes "tr")) (to_body (unexpected p)))))
    (StartTag tag) q-tag (calm-in_mode InRow ((insert (bare_tag (codes "tr")) (to_body (unexpected p)))) (calm-insert ((bare_tag (codes "tr"))) refl
    ((to_body (unexpected p))) (calm-to_body (unexpected p) (calm-unexpected p h))))
calm-table_body_start again h-again kind q-kind tag q-tag p h = calm-if-parser (is_part kind) (without_any_body (λ later. again later
    (StartTag tag)) p) (table_start again kind tag p) (calm-without_any_body ((λ later. again later (StartTag tag))) (λ later h-later. h-again later
    (StartTag tag) q-tag h-later) p h) (calm-table_start again h-again kind q-kind tag q-tag p h)

pub calm-table_body_end : (again : Again) → ((q : Parser) → (t : Token) → asks_text_by t ≡ false → IsCalm q → IsCalm (again q t)) → (kind : Kind) →
    (name : List ℕ) → (p : Parser) → IsCalm p → IsCalm (table_body_end again kind name p)
unfolding kind_of kind_in all_names is_among
calm-table_body_end again h-again TableBody name p h = calm-without_table_body ((in_table_scope (has_name name) p)) (λ later. later)
    (λ later h-later. h-later) p h
calm-table_body_end again h-again Table name p h = calm-without_any_body ((λ later. again later (EndTag name))) (λ later h-later. h-again later
    (EndTag name) refl h-later) p h
calm-table_body_end again h-again kind name p h = calm-table_end again h-again kind name p h

pub calm-in_table_body : (again : Again) → ((q : Parser) → (t : Token) → asks_text_by t ≡ false → IsCalm q → IsCalm (again q t)) → (tag : Token)
    → asks_text_by tag ≡ false → (p : Parser) → IsCalm p → IsCalm (in_table_body again tag p)
calm-in_table_body again h-again (StartTag tag) q-tag p h = calm-table_body_start again h-again (kind_of tag.name) q-tag tag q-tag p h
calm-in_table_body again h-again (EndTag name) q-name p h = calm-table_body_end again h-again (kind_of name) name p h
calm-in_table_body again h-again token q-token p h = calm-in_table again h-again token q-token p h

pub calm-to_row : (p : Parser) → IsCalm p → IsCalm (to_row p)
calm-to_row p h = calm-cleared_back_to is_row_context p h

pub calm-without_row : (after : (Parser → Parser)) → ((q : Parser) → IsCalm q → IsCalm (after q)) → (p : Parser) → IsCalm p → IsCalm
    (without_row after p)
calm-without_row after h-after p h = calm-if-parser (in_table_scope (has_kind is_table_row) p) (after (in_mode InTableBody (pop (to_row p))))
    (unexpected p) (h-after ((in_mode InTableBody (pop (to_row p)))) (calm-in_mode InTableBody ((pop (to_row p))) (calm-pop (to_row p)
    (calm-to_row p h)))) (calm-unexpected p h)

pub calm-row_start : (again : Again) → ((q : Parser) → (t : Token) → asks_text_by t ≡ false → IsCalm q → IsCalm (again q t)) → (kind : Kind)
    → asks_text kind ≡ false → (tag : StartTagOf) → asks_text (kind_of tag.name) ≡ false → (p : Parser) → IsCalm p → IsCalm
    (row_start again kind tag p)
calm-row_start again h-again Cell q-cell tag q-tag p h = calm-with_marker ((in_mode InCell (insert tag (to_row p)))) (calm-in_mode InCell
    ((insert tag (to_row p))) (calm-insert tag q-tag (to_row p) (calm-to_row p h)))
calm-row_start again h-again kind q-kind tag q-tag p h = calm-if-parser (is_part kind) (without_row (λ later. again later (StartTag tag)) p)
    (table_start again kind tag p) (calm-without_row ((λ later. again later (StartTag tag))) (λ later h-later. h-again later
    (StartTag tag) q-tag h-later) p h) (calm-table_start again h-again kind q-kind tag q-tag p h)

pub calm-row_end_of_body : (again : Again) → ((q : Parser) → (t : Token) → asks_text_by t ≡ false → IsCalm q → IsCalm (again q t)) → (name : List ℕ)
    → (p : Parser) → IsCalm p → IsCalm (row_end_of_body again name p)
unfolding kind_of kind_in all_names is_among
calm-row_end_of_body again h-again name p h = calm-if-parser (in_table_scope (has_name name) p) ((if in_table_scope
    (has_kind is_table_row) p then without_row (λ later. again later (EndTag name)) p else p)) (unexpected p) (calm-if-parser (in_table_scope
    (has_kind is_table_row) p) (without_row (λ later. again later (EndTag name)) p) p (calm-without_row ((λ later. again later (EndTag name)))
    (λ later h-later. h-again later (EndTag name) refl h-later) p h) h) (calm-unexpected p h)

pub calm-row_end : (again : Again) → ((q : Parser) → (t : Token) → asks_text_by t ≡ false → IsCalm q → IsCalm (again q t)) → (kind : Kind) →
    (name : List ℕ) → (p : Parser) → IsCalm p → IsCalm (row_end again kind name p)
unfolding kind_of kind_in all_names is_among
calm-row_end again h-again TableRow name p h = calm-without_row (λ later. later) (λ later h-later. h-later) p h
calm-row_end again h-again Table name p h = calm-without_row ((λ later. again later (EndTag name))) (λ later h-later. h-again later
    (EndTag name) refl h-later) p h
calm-row_end again h-again TableBody name p h = calm-row_end_of_body again h-again name p h
calm-row_end again h-again kind name p h = calm-table_end again h-again kind name p h

pub calm-in_row : (again : Again) → ((q : Parser) → (t : Token) → asks_text_by t ≡ false → IsCalm q → IsCalm (again q t)) → (tag : Token)
    → asks_text_by tag ≡ false → (p : Parser) → IsCalm p → IsCalm (in_row again tag p)
calm-in_row again h-again (StartTag tag) q-tag p h = calm-row_start again h-again (kind_of tag.name) q-tag tag q-tag p h
calm-in_row again h-again (EndTag name) q-name p h = calm-row_end again h-again (kind_of name) name p h
calm-in_row again h-again token q-token p h = calm-in_table again h-again token q-token p h

pub calm-cell_closed : (p : Parser) → IsCalm p → IsCalm (cell_closed p)
calm-cell_closed p h = calm-in_mode InRow ((cleared_to_marker (ended (has_kind is_cell) p))) (calm-cleared_to_marker ((ended (has_kind is_cell) p))
    (calm-ended (has_kind is_cell) p h))

pub calm-end_cell : (name : List ℕ) → (p : Parser) → IsCalm p → IsCalm (end_cell name p)
calm-end_cell name p h = calm-if-parser (in_table_scope (has_name name) p) (in_mode InRow (cleared_to_marker (ended (has_name name) p)))
    (unexpected p) (calm-in_mode InRow ((cleared_to_marker (ended (has_name name) p))) (calm-cleared_to_marker ((ended (has_name name) p))
    (calm-ended (has_name name) p h))) (calm-unexpected p h)

pub calm-end_around_cell : (again : Again) → ((q : Parser) → (t : Token) → asks_text_by t ≡ false → IsCalm q → IsCalm (again q t)) → (name : List ℕ)
    → (p : Parser) → IsCalm p → IsCalm (end_around_cell again name p)
unfolding kind_of kind_in all_names is_among
calm-end_around_cell again h-again name p h = calm-if-parser (in_table_scope (has_name name) p) (again (cell_closed p) (EndTag name)) (unexpected p)
    (h-again (cell_closed p) (EndTag name) refl (calm-cell_closed p h)) (calm-unexpected p h)

pub calm-cell_end : (again : Again) → ((q : Parser) → (t : Token) → asks_text_by t ≡ false → IsCalm q → IsCalm (again q t)) → (kind : Kind) →
    (name : List ℕ) → (p : Parser) → IsCalm p → IsCalm (cell_end again kind name p)
unfolding kind_of kind_in all_names is_among
calm-cell_end again h-again Cell name p h = calm-end_cell name p h
calm-cell_end again h-again Body name p h = calm-unexpected p h
calm-cell_end again h-again Caption name p h = calm-unexpected p h
calm-cell_end again h-again Column name p h = calm-unexpected p h
calm-cell_end again h-again ColumnGroup name p h = calm-unexpected p h
calm-cell_end again h-again HtmlRoot name p h = calm-unexpected p h
calm-cell_end again h-again Table name p h = calm-end_around_cell again h-again name p h
calm-cell_end again h-again TableBody name p h = calm-end_around_cell again h-again name p h
calm-cell_end again h-again TableRow name p h = calm-end_around_cell again h-again name p h
calm-cell_end again h-again kind name p h = calm-in_body again h-again (EndTag name) refl p h

pub calm-in_cell : (again : Again) → ((q : Parser) → (t : Token) → asks_text_by t ≡ false → IsCalm q → IsCalm (again q t)) → (tag : Token)
    → asks_text_by tag ≡ false → (p : Parser) → IsCalm p → IsCalm (in_cell again tag p)
calm-in_cell again h-again (StartTag tag) q-tag p h = calm-if-parser (is_part (kind_of tag.name)) (again (cell_closed p) (StartTag tag))
    (in_body again (StartTag tag) p) (h-again (cell_closed p) (StartTag tag) q-tag (calm-cell_closed p h)) (calm-in_body again h-again
    (StartTag tag) q-tag p h)
calm-in_cell again h-again (EndTag name) q-name p h = calm-cell_end again h-again (kind_of name) name p h
calm-in_cell again h-again token q-token p h = calm-in_body again h-again token q-token p h

pub calm-in_template_mode : (again : Again) → ((q : Parser) → (t : Token) → asks_text_by t ≡ false → IsCalm q → IsCalm (again q t)) → (mode : Mode)
    → (tag : StartTagOf) → asks_text (kind_of tag.name) ≡ false → (p : Parser) → IsCalm p → IsCalm (in_template_mode again mode tag p)
calm-in_template_mode again h-again mode tag q-tag p h = h-again
    (record p { template_modes = mode ∷ without_template_mode p.template_modes; mode = mode }) (StartTag tag) q-tag h

pub calm-template_start : (again : Again) → ((q : Parser) → (t : Token) → asks_text_by t ≡ false → IsCalm q → IsCalm (again q t)) → (other : Kind)
    → asks_text other ≡ false → (tag : StartTagOf) → asks_text (kind_of tag.name) ≡ false → (p : Parser) → IsCalm p → IsCalm
    (template_start again other tag p)
calm-template_start again h-again Base q-base tag q-tag p h = calm-start_in_head Base q-base tag q-tag p h
calm-template_start again h-again Link q-link tag q-tag p h = calm-start_in_head Link q-link tag q-tag p h
calm-template_start again h-again Meta q-meta tag q-tag p h = calm-start_in_head Meta q-meta tag q-tag p h
calm-template_start again h-again Noframes q-noframes tag q-tag p h = absurd (false≢true (sym q-noframes))
calm-template_start again h-again Script q-script tag q-tag p h = absurd (false≢true (sym q-script))
calm-template_start again h-again Style q-style tag q-tag p h = absurd (false≢true (sym q-style))
calm-template_start again h-again Template q-template tag q-tag p h = calm-start_in_head Template q-template tag q-tag p h
calm-template_start again h-again Title q-title tag q-tag p h = absurd (false≢true (sym q-title))
calm-template_start again h-again Caption q-caption tag q-tag p h = calm-in_template_mode again h-again InTable tag q-tag p h
calm-template_start again h-again ColumnGroup q-columngroup tag q-tag p h = calm-in_template_mode again h-again InTable tag q-tag p h
calm-template_start again h-again TableBody q-tablebody tag q-tag p h = calm-in_template_mode again h-again InTable tag q-tag p h
calm-template_start again h-again Column q-column tag q-tag p h = calm-in_template_mode again h-again InColumnGroup tag q-tag p h
calm-template_start again h-again TableRow q-tablerow tag q-tag p h = calm-in_template_mode again h-again InTableBody tag q-tag p h
calm-template_start again h-again Cell q-cell tag q-tag p h = calm-in_template_mode again h-again InRow tag q-tag p h
calm-template_start again h-again other q-other tag q-tag p h = calm-in_template_mode again h-again InBody tag q-tag p h

pub calm-template_end : (other : Kind) → (p : Parser) → IsCalm p → IsCalm (template_end other p)
calm-template_end Template p h = calm-end_template p h
calm-template_end other p h = calm-unexpected p h

pub calm-in_template : (again : Again) → ((q : Parser) → (t : Token) → asks_text_by t ≡ false → IsCalm q → IsCalm (again q t)) → (tag : Token)
    → asks_text_by tag ≡ false → (p : Parser) → IsCalm p → IsCalm (in_template again tag p)
calm-in_template again h-again (StartTag tag) q-tag p h = calm-template_start again h-again (kind_of tag.name) q-tag tag q-tag p h
calm-in_template again h-again (EndTag name) q-name p h = calm-template_end (kind_of name) p h
calm-in_template again h-again EndOfFile q-endoffile p h = calm-end_of_file_in_template again h-again p h
calm-in_template again h-again token q-token p h = calm-in_body again h-again token q-token p h

pub calm-in_body_again : (again : Again) → ((q : Parser) → (t : Token) → asks_text_by t ≡ false → IsCalm q → IsCalm (again q t)) → (token : Token)
    → asks_text_by token ≡ false → (p : Parser) → IsCalm p → IsCalm (in_body_again again token p)
calm-in_body_again again h-again token q-token p h = h-again ((in_mode InBody (unexpected p))) token q-token (calm-in_mode InBody (unexpected p)
    (calm-unexpected p h))

pub calm-after_body_start : (again : Again) → ((q : Parser) → (t : Token) → asks_text_by t ≡ false → IsCalm q → IsCalm (again q t)) → (other : Kind)
    → asks_text other ≡ false → (tag : StartTagOf) → asks_text (kind_of tag.name) ≡ false → (p : Parser) → IsCalm p → IsCalm
    (after_body_start again other tag p)
calm-after_body_start again h-again HtmlRoot q-htmlroot tag q-tag p h = calm-start_html tag q-tag p h
calm-after_body_start again h-again other q-other tag q-tag p h = calm-in_body_again again h-again (StartTag tag) q-tag p h

pub calm-after_body_end : (again : Again) → ((q : Parser) → (t : Token) → asks_text_by t ≡ false → IsCalm q → IsCalm (again q t)) → (other : Kind) →
    (name : List ℕ) → (p : Parser) → IsCalm p → IsCalm (after_body_end again other name p)
unfolding kind_of kind_in all_names is_among
calm-after_body_end again h-again HtmlRoot name p h = calm-if-parser (is_fragment p) (unexpected p) (in_mode AfterAfterBody p) (calm-unexpected p h)
    (calm-in_mode AfterAfterBody p h)
calm-after_body_end again h-again other name p h = calm-in_body_again again h-again (EndTag name) refl p h

pub calm-after_body : (again : Again) → ((q : Parser) → (t : Token) → asks_text_by t ≡ false → IsCalm q → IsCalm (again q t)) → (c : Token)
    → asks_text_by c ≡ false → (p : Parser) → IsCalm p → IsCalm (after_body again c p)
calm-after_body again h-again (Character c) q-c p h = calm-if-parser (is_space c) (character_in_body c p) (in_body_again again (Character c) p)
    (calm-character_in_body c p h) (calm-in_body_again again h-again (Character c) q-c p h)
calm-after_body again h-again (Comment text) q-text p h = calm-insert_comment_in_root text p h
calm-after_body again h-again (Doctype doctype) q-doctype p h = calm-unexpected p h
calm-after_body again h-again (StartTag tag) q-tag p h = calm-after_body_start again h-again (kind_of tag.name) q-tag tag q-tag p h
calm-after_body again h-again (EndTag name) q-name p h = calm-after_body_end again h-again (kind_of name) name p h
calm-after_body again h-again EndOfFile q-endoffile p h = calm-stop_parsing p h

pub calm-frameset_start : (other : Kind) → asks_text other ≡ false → (tag : StartTagOf) → asks_text (kind_of tag.name) ≡ false → (p : Parser)
    → IsCalm p → IsCalm (frameset_start other tag p)
calm-frameset_start HtmlRoot q-htmlroot tag q-tag p h = calm-start_html tag q-tag p h
calm-frameset_start Frameset q-frameset tag q-tag p h = calm-insert tag q-tag p h
calm-frameset_start Frame q-frame tag q-tag p h = calm-insert_void tag q-tag p h
calm-frameset_start Noframes q-noframes tag q-tag p h = absurd (false≢true (sym q-noframes))
calm-frameset_start other q-other tag q-tag p h = calm-unexpected p h

pub calm-frameset_closed : (p : Parser) → IsCalm p → IsCalm (frameset_closed p)
calm-frameset_closed p h = let later : Parser = pop p in let h-later : IsCalm later = calm-pop p h in calm-if-parser (is_fragment p) later
    (if is_current is_frameset later then later else in_mode AfterFrameset later) h-later (calm-if-parser (is_current is_frameset later) later
    (in_mode AfterFrameset later) h-later (calm-in_mode AfterFrameset later h-later))

pub calm-frameset_end : (other : Kind) → (p : Parser) → IsCalm p → IsCalm (frameset_end other p)
calm-frameset_end Frameset p h = calm-if-parser (has_only_root p.page.opened) (unexpected p) (frameset_closed p) (calm-unexpected p h)
    (calm-frameset_closed p h)
calm-frameset_end other p h = calm-unexpected p h

pub calm-in_frameset : (c : Token) → asks_text_by c ≡ false → (p : Parser) → IsCalm p → IsCalm (in_frameset c p)
calm-in_frameset (Character c) q-c p h = calm-if-parser (is_space c) (insert_character c p) (unexpected p) (calm-insert_character c p h)
    (calm-unexpected p h)
calm-in_frameset (Comment text) q-text p h = calm-insert_comment text p h
calm-in_frameset (Doctype doctype) q-doctype p h = calm-unexpected p h
calm-in_frameset (StartTag tag) q-tag p h = calm-frameset_start (kind_of tag.name) q-tag tag q-tag p h
calm-in_frameset (EndTag name) q-name p h = calm-frameset_end (kind_of name) p h
calm-in_frameset EndOfFile q-endoffile p h = calm-stop_parsing (if has_only_root p.page.opened then p else mistaken UnclosedAtEnd p) (calm-if-parser
    (has_only_root p.page.opened) p (mistaken UnclosedAtEnd p) h (calm-mistaken UnclosedAtEnd p h))

pub calm-after_frameset_start : (other : Kind) → asks_text other ≡ false → (tag : StartTagOf) → asks_text (kind_of tag.name) ≡ false → (p : Parser)
    → IsCalm p → IsCalm (after_frameset_start other tag p)
calm-after_frameset_start HtmlRoot q-htmlroot tag q-tag p h = calm-start_html tag q-tag p h
calm-after_frameset_start Noframes q-noframes tag q-tag p h = absurd (false≢true (sym q-noframes))
calm-after_frameset_start other q-other tag q-tag p h = calm-unexpected p h

pub calm-after_frameset_end : (other : Kind) → (p : Parser) → IsCalm p → IsCalm (after_frameset_end other p)
calm-after_frameset_end HtmlRoot p h = calm-in_mode AfterAfterFrameset p h
calm-after_frameset_end other p h = calm-unexpected p h

pub calm-after_frameset : (c : Token) → asks_text_by c ≡ false → (p : Parser) → IsCalm p → IsCalm (after_frameset c p)
calm-after_frameset (Character c) q-c p h = calm-if-parser (is_space c) (insert_character c p) (unexpected p) (calm-insert_character c p h)
    (calm-unexpected p h)
calm-after_frameset (Comment text) q-text p h = calm-insert_comment text p h
calm-after_frameset (Doctype doctype) q-doctype p h = calm-unexpected p h
calm-after_frameset (StartTag tag) q-tag p h = calm-after_frameset_start (kind_of tag.name) q-tag tag q-tag p h
calm-after_frameset (EndTag name) q-name p h = calm-after_frameset_end (kind_of name) p h
calm-after_frameset EndOfFile q-endoffile p h = calm-stop_parsing p h

pub calm-after_after_body : (again : Again) → ((q : Parser) → (t : Token) → asks_text_by t ≡ false → IsCalm q → IsCalm (again q t)) → (text : Token)
    → asks_text_by text ≡ false → (p : Parser) → IsCalm p → IsCalm (after_after_body again text p)
calm-after_after_body again h-again (Comment text) q-text p h = calm-insert_comment_in_document text p h
calm-after_after_body again h-again (Doctype doctype) q-doctype p h = calm-unexpected p h
calm-after_after_body again h-again (Character c) q-c p h = calm-if-parser (is_space c) (character_in_body c p) (in_body_again again
    (Character c) p) (calm-character_in_body c p h) (calm-in_body_again again h-again (Character c) q-c p h)
calm-after_after_body again h-again (StartTag tag) q-tag p h = calm-after_body_start again h-again (kind_of tag.name) q-tag tag q-tag p h
calm-after_after_body again h-again (EndTag name) q-name p h = calm-in_body_again again h-again (EndTag name) q-name p h
calm-after_after_body again h-again EndOfFile q-endoffile p h = calm-stop_parsing p h

pub calm-after_after_frameset : (text : Token) → asks_text_by text ≡ false → (p : Parser) → IsCalm p → IsCalm (after_after_frameset text p)
calm-after_after_frameset (Comment text) q-text p h = calm-insert_comment_in_document text p h
calm-after_after_frameset (Doctype doctype) q-doctype p h = calm-unexpected p h
calm-after_after_frameset (Character c) q-c p h = calm-if-parser (is_space c) (character_in_body c p) (unexpected p) (calm-character_in_body c p h)
    (calm-unexpected p h)
calm-after_after_frameset (StartTag tag) q-tag p h = calm-after_frameset_start (kind_of tag.name) q-tag tag q-tag p h
calm-after_after_frameset (EndTag name) q-name p h = calm-unexpected p h
calm-after_after_frameset EndOfFile q-endoffile p h = calm-stop_parsing p h

pub calm-foreign_character : (c : ℕ) → (p : Parser) → IsCalm p → IsCalm (foreign_character c p)
calm-foreign_character c p h = calm-if-parser (is_null c) (insert_text replacement (unexpected p))
    (if is_space c then insert_character c p else not_frameset_ok (insert_character c p)) (calm-insert_text replacement (unexpected p)
    (calm-unexpected p h)) (calm-if-parser (is_space c) (insert_character c p) (not_frameset_ok (insert_character c p))
    (calm-insert_character c p h) (calm-not_frameset_ok (insert_character c p) (calm-insert_character c p h)))

pub calm-broken_out : (in_html : InHtml) → ((t : Token) → asks_text_by t ≡ false → (q : Parser) → IsCalm q → IsCalm (in_html t q)) → (token : Token)
    → asks_text_by token ≡ false → (p : Parser) → IsCalm p → IsCalm (broken_out in_html token p)
calm-broken_out in_html h-in_html token q-token p h = h-in_html token q-token ((pop_while stays_foreign (unexpected p)))
    (calm-pop_while stays_foreign (unexpected p) (calm-unexpected p h))

pub calm-closed_at_once : (false : Bool) → (p : Parser) → IsCalm p → IsCalm (closed_at_once false p)
calm-closed_at_once false p h = h
calm-closed_at_once true p h = calm-if-parser (is_current is_svg_script p) (run_script (acknowledges p)) (popped_if_closed true p) (calm-run_script
    (acknowledges p) (calm-acknowledges p h)) (calm-popped_if_closed true p h)

pub calm-foreign_start : (tag : StartTagOf) → asks_text (kind_of tag.name) ≡ false → (p : Parser) → IsCalm p → IsCalm (foreign_start tag p)
calm-foreign_start tag q-tag p h = calm-closed_at_once tag.self_closing ((insert_foreign (namespace_of
    (adjusted_kind p.options.context p.page.opened)) tag p)) (calm-insert_foreign ((namespace_of
    (adjusted_kind p.options.context p.page.opened))) tag q-tag p h)

pub calm-foreign_end : (in_html : InHtml) → ((t : Token) → asks_text_by t ≡ false → (q : Parser) → IsCalm q → IsCalm (in_html t q)) →
    (name : List ℕ) → (e : List Open) → (p : Parser) → IsCalm p → IsCalm (foreign_end in_html name e p)
unfolding foreign_end kind_of kind_in all_names is_among
calm-foreign_end in_html h-in_html name [] p h = h
calm-foreign_end in_html h-in_html name (e ∷ []) p h = h
calm-foreign_end in_html h-in_html name (e ∷ outer ∷ es) p h = calm-if-parser (has_lower_case name e) (pop_until (has_number e.node) p)
    (if is_html outer.kind then in_html (EndTag name) p else foreign_end in_html name (outer ∷ es) p) (calm-pop_until (has_number e.node) p h)
    (calm-if-parser (is_html outer.kind) (in_html (EndTag name) p) (foreign_end in_html name (outer ∷ es) p) (h-in_html (EndTag name) refl p h)
    (calm-foreign_end in_html h-in_html name (outer ∷ es) p h))

pub calm-expects_name : (name : List ℕ) → (e : List Open) → (p : Parser) → IsCalm p → IsCalm (expects_name name e p)
calm-expects_name name [] p h = h
calm-expects_name name (e ∷ es) p h = calm-if-parser (has_lower_case name e) p (unexpected p) h (calm-unexpected p h)

pub calm-any_other_foreign_end : (in_html : InHtml) → ((t : Token) → asks_text_by t ≡ false → (q : Parser) → IsCalm q → IsCalm (in_html t q)) →
    (name : List ℕ) → (p : Parser) → IsCalm p → IsCalm (any_other_foreign_end in_html name p)
calm-any_other_foreign_end in_html h-in_html name p h = calm-foreign_end in_html h-in_html name p.page.opened (expects_name name p.page.opened p)
    (calm-expects_name name p.page.opened p h)

pub calm-foreign_end_by_kind : (in_html : InHtml) → ((t : Token) → asks_text_by t ≡ false → (q : Parser) → IsCalm q → IsCalm (in_html t q)) →
    (other : Kind) → (name : List ℕ) → (p : Parser) → IsCalm p → IsCalm (foreign_end_by_kind in_html other name p)
unfolding kind_of kind_in all_names is_among
calm-foreign_end_by_kind in_html h-in_html LineBreak name p h = calm-broken_out in_html h-in_html (EndTag name) refl p h
calm-foreign_end_by_kind in_html h-in_html Paragraph name p h = calm-broken_out in_html h-in_html (EndTag name) refl p h
calm-foreign_end_by_kind in_html h-in_html Script name p h = calm-if-parser (is_current is_svg_script p) (run_script p)
    (any_other_foreign_end in_html name p) (calm-run_script p h) (calm-any_other_foreign_end in_html h-in_html name p h)
calm-foreign_end_by_kind in_html h-in_html other name p h = calm-any_other_foreign_end in_html h-in_html name p h

pub calm-in_foreign_content : (in_html : InHtml) → ((t : Token) → asks_text_by t ≡ false → (q : Parser) → IsCalm q → IsCalm (in_html t q)) →
    (c : Token) → asks_text_by c ≡ false → (p : Parser) → IsCalm p → IsCalm (in_foreign_content in_html c p)
calm-in_foreign_content in_html h-in_html (Character c) q-c p h = calm-foreign_character c p h
calm-in_foreign_content in_html h-in_html (Comment text) q-text p h = calm-insert_comment text p h
calm-in_foreign_content in_html h-in_html (Doctype doctype) q-doctype p h = calm-unexpected p h
calm-in_foreign_content in_html h-in_html (StartTag tag) q-tag p h = calm-if-parser (is_breakout (kind_of tag.name) tag) (broken_out in_html
    (StartTag tag) p) (foreign_start tag p) (calm-broken_out in_html h-in_html (StartTag tag) q-tag p h) (calm-foreign_start tag q-tag p h)
calm-in_foreign_content in_html h-in_html (EndTag name) q-name p h = calm-foreign_end_by_kind in_html h-in_html (kind_of name) name p h
calm-in_foreign_content in_html h-in_html EndOfFile q-endoffile p h = h

pub calm-in_html_content : (again : Again) → ((q : Parser) → (t : Token) → asks_text_by t ≡ false → IsCalm q → IsCalm (again q t)) → (x1 : Mode) →
    (token : Token) → asks_text_by token ≡ false → (p : Parser) → IsCalm p → IsCalm (in_html_content again x1 token p)
calm-in_html_content again h-again Initial token q-token p h = calm-initial again h-again token q-token p h
calm-in_html_content again h-again BeforeHtml token q-token p h = calm-before_html again h-again token q-token p h
calm-in_html_content again h-again BeforeHead token q-token p h = calm-before_head again h-again token q-token p h
calm-in_html_content again h-again InHead token q-token p h = calm-in_head again h-again token q-token p h
calm-in_html_content again h-again InHeadNoscript token q-token p h = calm-in_head_noscript again h-again token q-token p h
calm-in_html_content again h-again AfterHead token q-token p h = calm-after_head again h-again token q-token p h
calm-in_html_content again h-again InBody token q-token p h = calm-in_body again h-again token q-token p h
calm-in_html_content again h-again Text token q-token p h = calm-text_mode again h-again token q-token p h
calm-in_html_content again h-again InTable token q-token p h = calm-in_table again h-again token q-token p h
calm-in_html_content again h-again InTableText token q-token p h = calm-in_table_text again h-again token q-token p h
calm-in_html_content again h-again InCaption token q-token p h = calm-in_caption again h-again token q-token p h
calm-in_html_content again h-again InColumnGroup token q-token p h = calm-in_column_group again h-again token q-token p h
calm-in_html_content again h-again InTableBody token q-token p h = calm-in_table_body again h-again token q-token p h
calm-in_html_content again h-again InRow token q-token p h = calm-in_row again h-again token q-token p h
calm-in_html_content again h-again InCell token q-token p h = calm-in_cell again h-again token q-token p h
calm-in_html_content again h-again InTemplate token q-token p h = calm-in_template again h-again token q-token p h
calm-in_html_content again h-again AfterBody token q-token p h = calm-after_body again h-again token q-token p h
calm-in_html_content again h-again InFrameset token q-token p h = calm-in_frameset token q-token p h
calm-in_html_content again h-again AfterFrameset token q-token p h = calm-after_frameset token q-token p h
calm-in_html_content again h-again AfterAfterBody token q-token p h = calm-after_after_body again h-again token q-token p h
calm-in_html_content again h-again AfterAfterFrameset token q-token p h = calm-after_after_frameset token q-token p h

pub calm-in_current_mode : (again : Again) → ((q : Parser) → (t : Token) → asks_text_by t ≡ false → IsCalm q → IsCalm (again q t)) → (token : Token)
    → asks_text_by token ≡ false → (p : Parser) → IsCalm p → IsCalm (in_current_mode again token p)
calm-in_current_mode again h-again token q-token p h = calm-in_html_content again h-again p.mode token q-token p h

pub calm-dispatched : (again : Again) → ((q : Parser) → (t : Token) → asks_text_by t ≡ false → IsCalm q → IsCalm (again q t)) → (token : Token)
    → asks_text_by token ≡ false → (p : Parser) → IsCalm p → IsCalm (dispatched again token p)
calm-dispatched again h-again token q-token p h = calm-if-parser (takes_as_html (adjusted_kind p.options.context p.page.opened) token)
    (in_current_mode again token p) (in_foreign_content (in_current_mode again) token p) (calm-in_current_mode again h-again token q-token p h)
    (calm-in_foreign_content (in_current_mode again) (calm-in_current_mode again h-again) token q-token p h)

pub calm-process : (zero : ℕ) → (token : Token) → asks_text_by token ≡ false → (p : Parser) → IsCalm p → IsCalm (process zero token p)
unfolding process
calm-process zero token q-token p h = h
calm-process (suc times) token q-token p h = calm-dispatched (λ later again. process times again later)
    (λ later again q-again h-later. calm-process times again q-again later h-later) token q-token p h

pub calm-expects_acknowledged : (token : Token) → asks_text_by token ≡ false → (p : Parser) → IsCalm p → IsCalm (expects_acknowledged token p)
calm-expects_acknowledged token q-token p h = calm-if-parser (is_self_closing token && not p.acknowledged) (mistaken TrailingSolidus p) p
    (calm-mistaken TrailingSolidus p h) h

pub calm-start_fragment : (context : Context) → (p : Parser) → IsCalm p → IsCalm (start_fragment context p)
calm-start_fragment context p h = let rooted : Parser = with_root [] p in let h-rooted : IsCalm rooted = calm-with_root [] p h in calm-mode_reset
    (record rooted { template_modes = fragment_modes context.kind }) h-rooted

pub calm-start_by : (context : Option Context) → (p : Parser) → IsCalm p → IsCalm (start_by context p)
calm-start_by None p h = h
calm-start_by (Some context) p h = calm-start_fragment context p h
