-- Pages for each row of tree construction, with their trees: by `python3 tools/gen/construction_cases.py`, and not by hand.
use Rattle.std.proofs.Common.{◌≡◌, Bool, true, false, List, [], ◌∷◌, ◌++◌, refl}
use Rattle.std.specs.Prelude.{ℕ, Option, Some, None, codes, map}
use Rattle.html5ever_interface.specs.Token.Told.{Text, Null, Comment, Instruction, Doctype, End}
use Rattle.tree_construction.specs.declared.kinds.Namespace.TheVariants.{Html, MathMl, Svg}
use Rattle.tree_construction.proofs.Shown.{Case, attribute, closed_tag, document, end_tag, fragment, limited, start_tag}
use Rattle.tree_construction.specs.Adjusting.{adjusted_attributes, adjusted_name, adjusted_tag_name, cased, foreign_attributes, math_attribute_names, svg_attribute_names, svg_tag_names}
use Rattle.tree_construction.specs.Adoption.{added_after, adopted, ended_by, entry_of, furthest_block, inner_loop, nth_open, opened_inside, opened_outside, outer_loop, replaced}
use Rattle.tree_construction.specs.Construction.{process, run, start, step, told_all}
use Rattle.tree_construction.specs.Doctypes.{begins_with, begins_with_one, html_4_01_beginnings, limited_quirks_beginnings, means_limited_quirks, means_quirks, quirks_beginnings, quirks_public_ids, quirks_system_ids}
use Rattle.tree_construction.specs.Document.{added_before, built, changed, has_one_like, lacking, row_of, tree_from, without_node}
use Rattle.tree_construction.specs.ForeignContent.{foreign_end}
use Rattle.tree_construction.specs.Formatting.{are_among, cleared, count_after_marker, count_alike, has_attribute_like, has_entry, last_named, reopened, still_listed, to_reopen, with_entry, without_earliest, without_entry, without_oldest}
use Rattle.tree_construction.specs.InBody.{item_met}
use Rattle.tree_construction.specs.Names.{all_names, breaks_out, ends_scope, ends_table_scope, has_such, is_among, is_body_context, is_formatting, is_fostering, is_implied, is_implied_thoroughly, is_listed, is_row_context, is_special, kind_in, kind_in_namespace, kind_of, may_stay_open, namespace_of}
use Rattle.tree_construction.specs.Page.{first_open, foster_place_in, has_in_scope, has_open, popped_to_first_in, popped_until_in, popped_while_in, second_body, without_open}
use Rattle.tree_construction.specs.Resetting.{mode_of}
use Rattle.tree_construction.specs.Tables.{flushed_as_space, flushed_fostered, is_all_space}
use Rattle.tree_construction.specs.Text.{mode_of_request, reply_of}
use Rattle.tree_construction.specs.Tokens.{value_of}
use Rattle.tree_construction.proofs.Shown.{among, attribute_lines, comes_before, indent, shown, shown_of, sorted}

rows_0 : List Case
rows_0 =
    -- initial: ignore: "\t"
    (document false (Text (codes "\t") ∷ Text [] ∷ End ∷ []))
    -- initial: insert a comment in the document: "<?pi?>"
    ∷ (document true (Instruction (codes "pi?") ∷ End ∷ []))
    -- initial: doctype: "<!DOCTYPE>\f"
    ∷ (document true (Doctype (record { name = None; public_id = None; system_id = None; force_quirks = true }) ∷ Text (12 ∷ []) ∷ Text [] ∷ End ∷ []))
    -- initial: anything else: "x"
    ∷ (document false (Text (codes "x") ∷ Text [] ∷ End ∷ []))
    -- before html: parse error ignore: "<!DOCTYPE html><!DOCTYPE>"
    ∷ (document false (Doctype (record { name = (Some (codes "html")); public_id = None; system_id = None; force_quirks = false }) ∷ Doctype (record { name = None; public_id = None; system_id = None; force_quirks = true }) ∷ End ∷ []))
    -- before html: insert a comment in the document: "</p><!--c-->"
    ∷ (document true (end_tag (codes "p") ∷ Comment (codes "c") ∷ End ∷ []))
    -- before html: ignore: "</s>\f"
    ∷ (document true (end_tag (codes "s") ∷ Text (12 ∷ []) ∷ Text [] ∷ End ∷ []))
    -- before html: start html: "<html>"
    ∷ (document false (start_tag (codes "html") [] ∷ End ∷ []))
    -- before html: end head body html br: "</br>"
    ∷ (document true (end_tag (codes "br") ∷ End ∷ []))
    -- before html: parse error ignore: "</i>"
    ∷ (document true (end_tag (codes "i") ∷ End ∷ []))
    -- before html: anything else: "x"
    ∷ (document false (Text (codes "x") ∷ Text [] ∷ End ∷ []))
    -- before head: ignore: "<html>\n"
    ∷ (document true (start_tag (codes "html") [] ∷ Text (codes "\n") ∷ Text [] ∷ End ∷ []))
    ∷ []

trees_0 : List (List ℕ)
trees_0 =
    (codes "| <html>\n|   <head>\n|   <body>\n")
    ∷ (codes "| <!-- ?pi? -->\n| <html>\n|   <head>\n|   <body>\n")
    ∷ (codes "| <!DOCTYPE >\n| <html>\n|   <head>\n|   <body>\n")
    ∷ (codes "| <html>\n|   <head>\n|   <body>\n|     \"x\"\n")
    ∷ (codes "| <!DOCTYPE html>\n| <html>\n|   <head>\n|   <body>\n")
    ∷ (codes "| <!-- c -->\n| <html>\n|   <head>\n|   <body>\n")
    ∷ (codes "| <html>\n|   <head>\n|   <body>\n")
    ∷ (codes "| <html>\n|   <head>\n|   <body>\n")
    ∷ (codes "| <html>\n|   <head>\n|   <body>\n|     <br>\n")
    ∷ (codes "| <html>\n|   <head>\n|   <body>\n")
    ∷ (codes "| <html>\n|   <head>\n|   <body>\n|     \"x\"\n")
    ∷ (codes "| <html>\n|   <head>\n|   <body>\n")
    ∷ []

built_0 : map shown_of rows_0 ≡ trees_0
unfolding rows_0 trees_0 adjusted_attributes adjusted_name adjusted_tag_name cased foreign_attributes math_attribute_names svg_attribute_names svg_tag_names added_after adopted ended_by entry_of furthest_block inner_loop nth_open opened_inside opened_outside outer_loop replaced process run start step told_all begins_with begins_with_one html_4_01_beginnings limited_quirks_beginnings means_limited_quirks means_quirks quirks_beginnings quirks_public_ids quirks_system_ids added_before built changed has_one_like lacking row_of tree_from without_node foreign_end are_among cleared count_after_marker count_alike has_attribute_like has_entry last_named reopened still_listed to_reopen with_entry without_earliest without_entry without_oldest item_met all_names breaks_out ends_scope ends_table_scope has_such is_among is_body_context is_formatting is_fostering is_implied is_implied_thoroughly is_listed is_row_context is_special kind_in kind_in_namespace kind_of may_stay_open namespace_of first_open foster_place_in has_in_scope has_open popped_to_first_in popped_until_in popped_while_in second_body without_open mode_of flushed_as_space flushed_fostered is_all_space mode_of_request reply_of value_of among attribute_lines comes_before indent shown shown_of sorted
built_0 = refl

rows_1 : List Case
rows_1 =
    -- before head: insert a comment: "<html class=1><!--c-->"
    (document true (start_tag (codes "html") (attribute (codes "class") (codes "1") ∷ []) ∷ Comment (codes "c") ∷ End ∷ []))
    -- before head: parse error ignore: "<html><!DOCTYPE html>"
    ∷ (document false (start_tag (codes "html") [] ∷ Doctype (record { name = (Some (codes "html")); public_id = None; system_id = None; force_quirks = false }) ∷ End ∷ []))
    -- before head: using in body: "<html><html>"
    ∷ (document false (start_tag (codes "html") [] ∷ start_tag (codes "html") [] ∷ End ∷ []))
    -- before head: start head: "<head>"
    ∷ (document false (start_tag (codes "head") [] ∷ End ∷ []))
    -- before head: end head body html br: "</br>"
    ∷ (document true (end_tag (codes "br") ∷ End ∷ []))
    -- before head: parse error ignore: "<html></tr>"
    ∷ (document false (start_tag (codes "html") [] ∷ end_tag (codes "tr") ∷ End ∷ []))
    -- before head: anything else: "x"
    ∷ (document false (Text (codes "x") ∷ Text [] ∷ End ∷ []))
    -- in head: insert the character: "<meta>\n"
    ∷ (document false (start_tag (codes "meta") [] ∷ Text (codes "\n") ∷ Text [] ∷ End ∷ []))
    -- in head: insert a comment: "<head><!--c-->"
    ∷ (document true (start_tag (codes "head") [] ∷ Comment (codes "c") ∷ End ∷ []))
    -- in head: parse error ignore: "<!DOCTYPE html><head><!DOCTYPE x>"
    ∷ (document false (Doctype (record { name = (Some (codes "html")); public_id = None; system_id = None; force_quirks = false }) ∷ start_tag (codes "head") [] ∷ Doctype (record { name = (Some (codes "x")); public_id = None; system_id = None; force_quirks = false }) ∷ End ∷ []))
    -- in head: using in body: "<head><html></html>"
    ∷ (document true (start_tag (codes "head") [] ∷ start_tag (codes "html") [] ∷ end_tag (codes "html") ∷ End ∷ []))
    -- in head: start base basefont bgsound link: "<base>"
    ∷ (document true (start_tag (codes "base") [] ∷ End ∷ []))
    ∷ []

trees_1 : List (List ℕ)
trees_1 =
    (codes "| <html>\n|   class=\"1\"\n|   <!-- c -->\n|   <head>\n|   <body>\n")
    ∷ (codes "| <html>\n|   <head>\n|   <body>\n")
    ∷ (codes "| <html>\n|   <head>\n|   <body>\n")
    ∷ (codes "| <html>\n|   <head>\n|   <body>\n")
    ∷ (codes "| <html>\n|   <head>\n|   <body>\n|     <br>\n")
    ∷ (codes "| <html>\n|   <head>\n|   <body>\n")
    ∷ (codes "| <html>\n|   <head>\n|   <body>\n|     \"x\"\n")
    ∷ (codes "| <html>\n|   <head>\n|     <meta>\n|     \"\n\"\n|   <body>\n")
    ∷ (codes "| <html>\n|   <head>\n|     <!-- c -->\n|   <body>\n")
    ∷ (codes "| <!DOCTYPE html>\n| <html>\n|   <head>\n|   <body>\n")
    ∷ (codes "| <html>\n|   <head>\n|   <body>\n")
    ∷ (codes "| <html>\n|   <head>\n|     <base>\n|   <body>\n")
    ∷ []

built_1 : map shown_of rows_1 ≡ trees_1
unfolding rows_1 trees_1 adjusted_attributes adjusted_name adjusted_tag_name cased foreign_attributes math_attribute_names svg_attribute_names svg_tag_names added_after adopted ended_by entry_of furthest_block inner_loop nth_open opened_inside opened_outside outer_loop replaced process run start step told_all begins_with begins_with_one html_4_01_beginnings limited_quirks_beginnings means_limited_quirks means_quirks quirks_beginnings quirks_public_ids quirks_system_ids added_before built changed has_one_like lacking row_of tree_from without_node foreign_end are_among cleared count_after_marker count_alike has_attribute_like has_entry last_named reopened still_listed to_reopen with_entry without_earliest without_entry without_oldest item_met all_names breaks_out ends_scope ends_table_scope has_such is_among is_body_context is_formatting is_fostering is_implied is_implied_thoroughly is_listed is_row_context is_special kind_in kind_in_namespace kind_of may_stay_open namespace_of first_open foster_place_in has_in_scope has_open popped_to_first_in popped_until_in popped_while_in second_body without_open mode_of flushed_as_space flushed_fostered is_all_space mode_of_request reply_of value_of among attribute_lines comes_before indent shown shown_of sorted
built_1 = refl

rows_2 : List Case
rows_2 =
    -- in head: start meta: "<meta>"
    (document true (start_tag (codes "meta") [] ∷ End ∷ []))
    -- in head: start title: "<title>"
    ∷ (document true (start_tag (codes "title") [] ∷ End ∷ []))
    -- in head: start noscript noframes style: "<noframes>"
    ∷ (document false (start_tag (codes "noframes") [] ∷ End ∷ []))
    -- in head: start noscript: "<noscript class=1>"
    ∷ (document false (start_tag (codes "noscript") (attribute (codes "class") (codes "1") ∷ []) ∷ End ∷ []))
    -- in head: start script: "<script/>"
    ∷ (document false (closed_tag (codes "script") [] ∷ End ∷ []))
    -- in head: end head: "</head>"
    ∷ (document true (end_tag (codes "head") ∷ End ∷ []))
    -- in head: end body html br: "</br>"
    ∷ (document true (end_tag (codes "br") ∷ End ∷ []))
    -- in head: start template: "<template>"
    ∷ (document false (start_tag (codes "template") [] ∷ End ∷ []))
    -- in head: end template: "\u0000</template>"
    ∷ (document false (Null ∷ end_tag (codes "template") ∷ End ∷ []))
    -- in head: parse error ignore: "<head><head>"
    ∷ (document true (start_tag (codes "head") [] ∷ start_tag (codes "head") [] ∷ End ∷ []))
    -- in head: parse error ignore: "<head></b>"
    ∷ (document true (start_tag (codes "head") [] ∷ end_tag (codes "b") ∷ End ∷ []))
    -- in head: anything else: "x"
    ∷ (document false (Text (codes "x") ∷ Text [] ∷ End ∷ []))
    ∷ []

trees_2 : List (List ℕ)
trees_2 =
    (codes "| <html>\n|   <head>\n|     <meta>\n|   <body>\n")
    ∷ (codes "| <html>\n|   <head>\n|     <title>\n|   <body>\n")
    ∷ (codes "| <html>\n|   <head>\n|     <noframes>\n|   <body>\n")
    ∷ (codes "| <html>\n|   <head>\n|     <noscript>\n|       class=\"1\"\n|   <body>\n")
    ∷ (codes "| <html>\n|   <head>\n|     <script>\n|   <body>\n")
    ∷ (codes "| <html>\n|   <head>\n|   <body>\n")
    ∷ (codes "| <html>\n|   <head>\n|   <body>\n|     <br>\n")
    ∷ (codes "| <html>\n|   <head>\n|     <template>\n|       content\n|   <body>\n")
    ∷ (codes "| <html>\n|   <head>\n|   <body>\n")
    ∷ (codes "| <html>\n|   <head>\n|   <body>\n")
    ∷ (codes "| <html>\n|   <head>\n|   <body>\n")
    ∷ (codes "| <html>\n|   <head>\n|   <body>\n|     \"x\"\n")
    ∷ []

built_2 : map shown_of rows_2 ≡ trees_2
unfolding rows_2 trees_2 adjusted_attributes adjusted_name adjusted_tag_name cased foreign_attributes math_attribute_names svg_attribute_names svg_tag_names added_after adopted ended_by entry_of furthest_block inner_loop nth_open opened_inside opened_outside outer_loop replaced process run start step told_all begins_with begins_with_one html_4_01_beginnings limited_quirks_beginnings means_limited_quirks means_quirks quirks_beginnings quirks_public_ids quirks_system_ids added_before built changed has_one_like lacking row_of tree_from without_node foreign_end are_among cleared count_after_marker count_alike has_attribute_like has_entry last_named reopened still_listed to_reopen with_entry without_earliest without_entry without_oldest item_met all_names breaks_out ends_scope ends_table_scope has_such is_among is_body_context is_formatting is_fostering is_implied is_implied_thoroughly is_listed is_row_context is_special kind_in kind_in_namespace kind_of may_stay_open namespace_of first_open foster_place_in has_in_scope has_open popped_to_first_in popped_until_in popped_while_in second_body without_open mode_of flushed_as_space flushed_fostered is_all_space mode_of_request reply_of value_of among attribute_lines comes_before indent shown shown_of sorted
built_2 = refl

rows_3 : List Case
rows_3 =
    -- in head noscript: parse error ignore: "<head><noscript></meta></head><!DOCTYPE html><bgsound><link class=2>"
    (document false (start_tag (codes "head") [] ∷ start_tag (codes "noscript") [] ∷ end_tag (codes "meta") ∷ end_tag (codes "head") ∷ Doctype (record { name = (Some (codes "html")); public_id = None; system_id = None; force_quirks = false }) ∷ start_tag (codes "bgsound") [] ∷ start_tag (codes "link") (attribute (codes "class") (codes "2") ∷ []) ∷ End ∷ []))
    -- in head noscript: using in body: "<head><noscript><html>"
    ∷ (document false (start_tag (codes "head") [] ∷ start_tag (codes "noscript") [] ∷ start_tag (codes "html") [] ∷ End ∷ []))
    -- in head noscript: end noscript: "<noscript></noscript>"
    ∷ (document false (start_tag (codes "noscript") [] ∷ end_tag (codes "noscript") ∷ End ∷ []))
    -- in head noscript: using in head: "<head><noscript></bgsound>\f"
    ∷ (document false (start_tag (codes "head") [] ∷ start_tag (codes "noscript") [] ∷ end_tag (codes "bgsound") ∷ Text (12 ∷ []) ∷ Text [] ∷ End ∷ []))
    -- in head noscript: using in head: "<!DOCTYPE html><head><noscript><!--c--></style>"
    ∷ (document false (Doctype (record { name = (Some (codes "html")); public_id = None; system_id = None; force_quirks = false }) ∷ start_tag (codes "head") [] ∷ start_tag (codes "noscript") [] ∷ Comment (codes "c") ∷ end_tag (codes "style") ∷ End ∷ []))
    -- in head noscript: using in head: "<head><noscript><style>"
    ∷ (document false (start_tag (codes "head") [] ∷ start_tag (codes "noscript") [] ∷ start_tag (codes "style") [] ∷ End ∷ []))
    -- in head noscript: end br: "<head><noscript></html></br><html>"
    ∷ (document false (start_tag (codes "head") [] ∷ start_tag (codes "noscript") [] ∷ end_tag (codes "html") ∷ end_tag (codes "br") ∷ start_tag (codes "html") [] ∷ End ∷ []))
    -- in head noscript: start head noscript: "<noscript><noscript>"
    ∷ (document false (start_tag (codes "noscript") [] ∷ start_tag (codes "noscript") [] ∷ End ∷ []))
    -- in head noscript: parse error ignore: "<head><noscript></head>"
    ∷ (document false (start_tag (codes "head") [] ∷ start_tag (codes "noscript") [] ∷ end_tag (codes "head") ∷ End ∷ []))
    -- in head noscript: anything else: "<noscript class=1>"
    ∷ (document false (start_tag (codes "noscript") (attribute (codes "class") (codes "1") ∷ []) ∷ End ∷ []))
    -- after head: insert the character: "<head></head>\t"
    ∷ (document true (start_tag (codes "head") [] ∷ end_tag (codes "head") ∷ Text (codes "\t") ∷ Text [] ∷ End ∷ []))
    -- after head: insert a comment: "<head></head><!--c-->"
    ∷ (document false (start_tag (codes "head") [] ∷ end_tag (codes "head") ∷ Comment (codes "c") ∷ End ∷ []))
    ∷ []

trees_3 : List (List ℕ)
trees_3 =
    (codes "| <html>\n|   <head>\n|     <noscript>\n|       <bgsound>\n|       <link>\n|         class=\"2\"\n|   <body>\n")
    ∷ (codes "| <html>\n|   <head>\n|     <noscript>\n|   <body>\n")
    ∷ (codes "| <html>\n|   <head>\n|     <noscript>\n|   <body>\n")
    ∷ (124 ∷ 32 ∷ 60 ∷ 104 ∷ 116 ∷ 109 ∷ 108 ∷ 62 ∷ 10 ∷ 124 ∷ 32 ∷ 32 ∷ 32 ∷ 60 ∷ 104 ∷ 101 ∷ 97 ∷ 100 ∷ 62 ∷ 10 ∷ 124 ∷ 32 ∷ 32 ∷ 32 ∷ 32 ∷ 32 ∷ 60 ∷ 110 ∷ 111 ∷ 115 ∷ 99 ∷ 114 ∷ 105 ∷ 112 ∷ 116 ∷ 62 ∷ 10 ∷ 124 ∷ 32 ∷ 32 ∷ 32 ∷ 32 ∷ 32 ∷ 32 ∷ 32 ∷ 34 ∷ 12 ∷ 34 ∷ 10 ∷ 124 ∷ 32 ∷ 32 ∷ 32 ∷ 60 ∷ 98 ∷ 111 ∷ 100 ∷ 121 ∷ 62 ∷ 10 ∷ [])
    ∷ (codes "| <!DOCTYPE html>\n| <html>\n|   <head>\n|     <noscript>\n|       <!-- c -->\n|   <body>\n")
    ∷ (codes "| <html>\n|   <head>\n|     <noscript>\n|       <style>\n|   <body>\n")
    ∷ (codes "| <html>\n|   <head>\n|     <noscript>\n|   <body>\n|     <br>\n")
    ∷ (codes "| <html>\n|   <head>\n|     <noscript>\n|   <body>\n")
    ∷ (codes "| <html>\n|   <head>\n|     <noscript>\n|   <body>\n")
    ∷ (codes "| <html>\n|   <head>\n|     <noscript>\n|       class=\"1\"\n|   <body>\n")
    ∷ (codes "| <html>\n|   <head>\n|   \"\t\"\n|   <body>\n")
    ∷ (codes "| <html>\n|   <head>\n|   <!-- c -->\n|   <body>\n")
    ∷ []

built_3 : map shown_of rows_3 ≡ trees_3
unfolding rows_3 trees_3 adjusted_attributes adjusted_name adjusted_tag_name cased foreign_attributes math_attribute_names svg_attribute_names svg_tag_names added_after adopted ended_by entry_of furthest_block inner_loop nth_open opened_inside opened_outside outer_loop replaced process run start step told_all begins_with begins_with_one html_4_01_beginnings limited_quirks_beginnings means_limited_quirks means_quirks quirks_beginnings quirks_public_ids quirks_system_ids added_before built changed has_one_like lacking row_of tree_from without_node foreign_end are_among cleared count_after_marker count_alike has_attribute_like has_entry last_named reopened still_listed to_reopen with_entry without_earliest without_entry without_oldest item_met all_names breaks_out ends_scope ends_table_scope has_such is_among is_body_context is_formatting is_fostering is_implied is_implied_thoroughly is_listed is_row_context is_special kind_in kind_in_namespace kind_of may_stay_open namespace_of first_open foster_place_in has_in_scope has_open popped_to_first_in popped_until_in popped_while_in second_body without_open mode_of flushed_as_space flushed_fostered is_all_space mode_of_request reply_of value_of among attribute_lines comes_before indent shown shown_of sorted
built_3 = refl

rows_4 : List Case
rows_4 =
    -- after head: parse error ignore: "<head></head><base a=1 a=2><!DOCTYPE html><base><table/>"
    (document true (start_tag (codes "head") [] ∷ end_tag (codes "head") ∷ start_tag (codes "base") (attribute (codes "a") (codes "1") ∷ []) ∷ Doctype (record { name = (Some (codes "html")); public_id = None; system_id = None; force_quirks = false }) ∷ start_tag (codes "base") [] ∷ closed_tag (codes "table") [] ∷ End ∷ []))
    -- after head: using in body: "<head></head><html><head>"
    ∷ (document false (start_tag (codes "head") [] ∷ end_tag (codes "head") ∷ start_tag (codes "html") [] ∷ start_tag (codes "head") [] ∷ End ∷ []))
    -- after head: start body: "<body>\t\t"
    ∷ (document true (start_tag (codes "body") [] ∷ Text (codes "\t\t") ∷ Text [] ∷ End ∷ []))
    -- after head: start frameset: "<frameset>"
    ∷ (document true (start_tag (codes "frameset") [] ∷ End ∷ []))
    -- after head: start base and others: "</head><title>"
    ∷ (document true (end_tag (codes "head") ∷ start_tag (codes "title") [] ∷ End ∷ []))
    -- after head: using in head: "<head></head></template>"
    ∷ (document false (start_tag (codes "head") [] ∷ end_tag (codes "head") ∷ end_tag (codes "template") ∷ End ∷ []))
    -- after head: end body html br: "</br>"
    ∷ (document true (end_tag (codes "br") ∷ End ∷ []))
    -- after head: parse error ignore: "<head></head><head>"
    ∷ (document false (start_tag (codes "head") [] ∷ end_tag (codes "head") ∷ start_tag (codes "head") [] ∷ End ∷ []))
    -- after head: parse error ignore: "</head></iframe>"
    ∷ (document true (end_tag (codes "head") ∷ end_tag (codes "iframe") ∷ End ∷ []))
    -- after head: anything else: "x"
    ∷ (document false (Text (codes "x") ∷ Text [] ∷ End ∷ []))
    -- in body: parse error ignore: "\u0000"
    ∷ (document true (Null ∷ End ∷ []))
    -- in body: whitespace: "x "
    ∷ (document false (Text (codes "x ") ∷ Text [] ∷ End ∷ []))
    ∷ []

trees_4 : List (List ℕ)
trees_4 =
    (codes "| <html>\n|   <head>\n|     <base>\n|       a=\"1\"\n|     <base>\n|   <body>\n|     <table>\n")
    ∷ (codes "| <html>\n|   <head>\n|   <body>\n")
    ∷ (codes "| <html>\n|   <head>\n|   <body>\n|     \"\t\t\"\n")
    ∷ (codes "| <html>\n|   <head>\n|   <frameset>\n")
    ∷ (codes "| <html>\n|   <head>\n|     <title>\n|   <body>\n")
    ∷ (codes "| <html>\n|   <head>\n|   <body>\n")
    ∷ (codes "| <html>\n|   <head>\n|   <body>\n|     <br>\n")
    ∷ (codes "| <html>\n|   <head>\n|   <body>\n")
    ∷ (codes "| <html>\n|   <head>\n|   <body>\n")
    ∷ (codes "| <html>\n|   <head>\n|   <body>\n|     \"x\"\n")
    ∷ (codes "| <html>\n|   <head>\n|   <body>\n")
    ∷ (codes "| <html>\n|   <head>\n|   <body>\n|     \"x \"\n")
    ∷ []

built_4 : map shown_of rows_4 ≡ trees_4
unfolding rows_4 trees_4 adjusted_attributes adjusted_name adjusted_tag_name cased foreign_attributes math_attribute_names svg_attribute_names svg_tag_names added_after adopted ended_by entry_of furthest_block inner_loop nth_open opened_inside opened_outside outer_loop replaced process run start step told_all begins_with begins_with_one html_4_01_beginnings limited_quirks_beginnings means_limited_quirks means_quirks quirks_beginnings quirks_public_ids quirks_system_ids added_before built changed has_one_like lacking row_of tree_from without_node foreign_end are_among cleared count_after_marker count_alike has_attribute_like has_entry last_named reopened still_listed to_reopen with_entry without_earliest without_entry without_oldest item_met all_names breaks_out ends_scope ends_table_scope has_such is_among is_body_context is_formatting is_fostering is_implied is_implied_thoroughly is_listed is_row_context is_special kind_in kind_in_namespace kind_of may_stay_open namespace_of first_open foster_place_in has_in_scope has_open popped_to_first_in popped_until_in popped_while_in second_body without_open mode_of flushed_as_space flushed_fostered is_all_space mode_of_request reply_of value_of among attribute_lines comes_before indent shown shown_of sorted
built_4 = refl

rows_5 : List Case
rows_5 =
    -- in body: any other character: "x"
    (document false (Text (codes "x") ∷ Text [] ∷ End ∷ []))
    -- in body: insert a comment: "<b><!--c-->"
    ∷ (document true (start_tag (codes "b") [] ∷ Comment (codes "c") ∷ End ∷ []))
    -- in body: parse error ignore: "x<!DOCTYPE html>\t"
    ∷ (document true (Text (codes "x") ∷ Doctype (record { name = (Some (codes "html")); public_id = None; system_id = None; force_quirks = false }) ∷ Text (codes "\t") ∷ Text [] ∷ End ∷ []))
    -- in body: start html: "<html><html>"
    ∷ (document false (start_tag (codes "html") [] ∷ start_tag (codes "html") [] ∷ End ∷ []))
    -- in body: using in head: "y<meta>"
    ∷ (document false (Text (codes "y") ∷ start_tag (codes "meta") [] ∷ End ∷ []))
    -- in body: using in head: "\u0000</template>"
    ∷ (document false (Null ∷ end_tag (codes "template") ∷ End ∷ []))
    -- in body: start body: "x<body><s>"
    ∷ (document false (Text (codes "x") ∷ start_tag (codes "body") [] ∷ start_tag (codes "s") [] ∷ End ∷ []))
    -- in body: start frameset: "<ul><frameset> x "
    ∷ (document true (start_tag (codes "ul") [] ∷ start_tag (codes "frameset") [] ∷ Text (codes " x ") ∷ Text [] ∷ End ∷ []))
    -- in body: end of file: "x"
    ∷ (document false (Text (codes "x") ∷ Text [] ∷ End ∷ []))
    -- in body: end body: "</body>"
    ∷ (document true (end_tag (codes "body") ∷ End ∷ []))
    -- in body: end html: "</html>"
    ∷ (document false (end_tag (codes "html") ∷ End ∷ []))
    -- in body: start address and others: "<p>"
    ∷ (document false (start_tag (codes "p") [] ∷ End ∷ []))
    ∷ []

trees_5 : List (List ℕ)
trees_5 =
    (codes "| <html>\n|   <head>\n|   <body>\n|     \"x\"\n")
    ∷ (codes "| <html>\n|   <head>\n|   <body>\n|     <b>\n|       <!-- c -->\n")
    ∷ (codes "| <html>\n|   <head>\n|   <body>\n|     \"x\t\"\n")
    ∷ (codes "| <html>\n|   <head>\n|   <body>\n")
    ∷ (codes "| <html>\n|   <head>\n|   <body>\n|     \"y\"\n|     <meta>\n")
    ∷ (codes "| <html>\n|   <head>\n|   <body>\n")
    ∷ (codes "| <html>\n|   <head>\n|   <body>\n|     \"x\"\n|     <s>\n")
    ∷ (codes "| <html>\n|   <head>\n|   <frameset>\n|     \"  \"\n")
    ∷ (codes "| <html>\n|   <head>\n|   <body>\n|     \"x\"\n")
    ∷ (codes "| <html>\n|   <head>\n|   <body>\n")
    ∷ (codes "| <html>\n|   <head>\n|   <body>\n")
    ∷ (codes "| <html>\n|   <head>\n|   <body>\n|     <p>\n")
    ∷ []

built_5 : map shown_of rows_5 ≡ trees_5
unfolding rows_5 trees_5 adjusted_attributes adjusted_name adjusted_tag_name cased foreign_attributes math_attribute_names svg_attribute_names svg_tag_names added_after adopted ended_by entry_of furthest_block inner_loop nth_open opened_inside opened_outside outer_loop replaced process run start step told_all begins_with begins_with_one html_4_01_beginnings limited_quirks_beginnings means_limited_quirks means_quirks quirks_beginnings quirks_public_ids quirks_system_ids added_before built changed has_one_like lacking row_of tree_from without_node foreign_end are_among cleared count_after_marker count_alike has_attribute_like has_entry last_named reopened still_listed to_reopen with_entry without_earliest without_entry without_oldest item_met all_names breaks_out ends_scope ends_table_scope has_such is_among is_body_context is_formatting is_fostering is_implied is_implied_thoroughly is_listed is_row_context is_special kind_in kind_in_namespace kind_of may_stay_open namespace_of first_open foster_place_in has_in_scope has_open popped_to_first_in popped_until_in popped_while_in second_body without_open mode_of flushed_as_space flushed_fostered is_all_space mode_of_request reply_of value_of among attribute_lines comes_before indent shown shown_of sorted
built_5 = refl

rows_6 : List Case
rows_6 =
    -- in body: start heading: "<h1>"
    (document true (start_tag (codes "h1") [] ∷ End ∷ []))
    -- in body: start pre listing: "<pre>"
    ∷ (document false (start_tag (codes "pre") [] ∷ End ∷ []))
    -- in body: start form: "<form></u>"
    ∷ (document false (start_tag (codes "form") [] ∷ end_tag (codes "u") ∷ End ∷ []))
    -- in body: start li: "<li>"
    ∷ (document true (start_tag (codes "li") [] ∷ End ∷ []))
    -- in body: start dd dt: "<dd>"
    ∷ (document false (start_tag (codes "dd") [] ∷ End ∷ []))
    -- in body: start plaintext: "<plaintext>"
    ∷ (document true (start_tag (codes "plaintext") [] ∷ End ∷ []))
    -- in body: start button: "<button>"
    ∷ (document false (start_tag (codes "button") [] ∷ End ∷ []))
    -- in body: end address and others: "<ol></ol>"
    ∷ (document true (start_tag (codes "ol") [] ∷ end_tag (codes "ol") ∷ End ∷ []))
    -- in body: end form: "<form><table></form>"
    ∷ (document true (start_tag (codes "form") [] ∷ start_tag (codes "table") [] ∷ end_tag (codes "form") ∷ End ∷ []))
    -- in body: end p: "<p></p>"
    ∷ (document true (start_tag (codes "p") [] ∷ end_tag (codes "p") ∷ End ∷ []))
    -- in body: end li: "<li></li>"
    ∷ (document false (start_tag (codes "li") [] ∷ end_tag (codes "li") ∷ End ∷ []))
    -- in body: end dd dt: "x</dt></dt>"
    ∷ (document false (Text (codes "x") ∷ end_tag (codes "dt") ∷ end_tag (codes "dt") ∷ End ∷ []))
    ∷ []

trees_6 : List (List ℕ)
trees_6 =
    (codes "| <html>\n|   <head>\n|   <body>\n|     <h1>\n")
    ∷ (codes "| <html>\n|   <head>\n|   <body>\n|     <pre>\n")
    ∷ (codes "| <html>\n|   <head>\n|   <body>\n|     <form>\n")
    ∷ (codes "| <html>\n|   <head>\n|   <body>\n|     <li>\n")
    ∷ (codes "| <html>\n|   <head>\n|   <body>\n|     <dd>\n")
    ∷ (codes "| <html>\n|   <head>\n|   <body>\n|     <plaintext>\n")
    ∷ (codes "| <html>\n|   <head>\n|   <body>\n|     <button>\n")
    ∷ (codes "| <html>\n|   <head>\n|   <body>\n|     <ol>\n")
    ∷ (codes "| <html>\n|   <head>\n|   <body>\n|     <form>\n|       <table>\n")
    ∷ (codes "| <html>\n|   <head>\n|   <body>\n|     <p>\n")
    ∷ (codes "| <html>\n|   <head>\n|   <body>\n|     <li>\n")
    ∷ (codes "| <html>\n|   <head>\n|   <body>\n|     \"x\"\n")
    ∷ []

built_6 : map shown_of rows_6 ≡ trees_6
unfolding rows_6 trees_6 adjusted_attributes adjusted_name adjusted_tag_name cased foreign_attributes math_attribute_names svg_attribute_names svg_tag_names added_after adopted ended_by entry_of furthest_block inner_loop nth_open opened_inside opened_outside outer_loop replaced process run start step told_all begins_with begins_with_one html_4_01_beginnings limited_quirks_beginnings means_limited_quirks means_quirks quirks_beginnings quirks_public_ids quirks_system_ids added_before built changed has_one_like lacking row_of tree_from without_node foreign_end are_among cleared count_after_marker count_alike has_attribute_like has_entry last_named reopened still_listed to_reopen with_entry without_earliest without_entry without_oldest item_met all_names breaks_out ends_scope ends_table_scope has_such is_among is_body_context is_formatting is_fostering is_implied is_implied_thoroughly is_listed is_row_context is_special kind_in kind_in_namespace kind_of may_stay_open namespace_of first_open foster_place_in has_in_scope has_open popped_to_first_in popped_until_in popped_while_in second_body without_open mode_of flushed_as_space flushed_fostered is_all_space mode_of_request reply_of value_of among attribute_lines comes_before indent shown shown_of sorted
built_6 = refl

rows_7 : List Case
rows_7 =
    -- in body: end heading: "<h6></h6>"
    (document true (start_tag (codes "h6") [] ∷ end_tag (codes "h6") ∷ End ∷ []))
    -- in body: end sarcasm: "x</sarcasm></video>\n</html></picture>"
    ∷ (document false (Text (codes "x") ∷ end_tag (codes "sarcasm") ∷ end_tag (codes "video") ∷ Text (codes "\n") ∷ end_tag (codes "html") ∷ end_tag (codes "picture") ∷ End ∷ []))
    -- in body: start a: "<a>"
    ∷ (document false (start_tag (codes "a") [] ∷ End ∷ []))
    -- in body: start formatting: "<u>"
    ∷ (document true (start_tag (codes "u") [] ∷ End ∷ []))
    -- in body: start nobr: "<nobr>"
    ∷ (document false (start_tag (codes "nobr") [] ∷ End ∷ []))
    -- in body: end formatting: "x</a>"
    ∷ (document false (Text (codes "x") ∷ end_tag (codes "a") ∷ End ∷ []))
    -- in body: start applet marquee object: "<applet>"
    ∷ (document false (start_tag (codes "applet") [] ∷ End ∷ []))
    -- in body: end applet marquee object: "<col></applet>"
    ∷ (document false (start_tag (codes "col") [] ∷ end_tag (codes "applet") ∷ End ∷ []))
    -- in body: start table: "<table>"
    ∷ (document false (start_tag (codes "table") [] ∷ End ∷ []))
    -- in body: end br: "</br>"
    ∷ (document true (end_tag (codes "br") ∷ End ∷ []))
    -- in body: start area and others: "<img>"
    ∷ (document true (start_tag (codes "img") [] ∷ End ∷ []))
    -- in body: start input: "<input>"
    ∷ (document false (start_tag (codes "input") [] ∷ End ∷ []))
    ∷ []

trees_7 : List (List ℕ)
trees_7 =
    (codes "| <html>\n|   <head>\n|   <body>\n|     <h6>\n")
    ∷ (codes "| <html>\n|   <head>\n|   <body>\n|     \"x\n\"\n")
    ∷ (codes "| <html>\n|   <head>\n|   <body>\n|     <a>\n")
    ∷ (codes "| <html>\n|   <head>\n|   <body>\n|     <u>\n")
    ∷ (codes "| <html>\n|   <head>\n|   <body>\n|     <nobr>\n")
    ∷ (codes "| <html>\n|   <head>\n|   <body>\n|     \"x\"\n")
    ∷ (codes "| <html>\n|   <head>\n|   <body>\n|     <applet>\n")
    ∷ (codes "| <html>\n|   <head>\n|   <body>\n")
    ∷ (codes "| <html>\n|   <head>\n|   <body>\n|     <table>\n")
    ∷ (codes "| <html>\n|   <head>\n|   <body>\n|     <br>\n")
    ∷ (codes "| <html>\n|   <head>\n|   <body>\n|     <img>\n")
    ∷ (codes "| <html>\n|   <head>\n|   <body>\n|     <input>\n")
    ∷ []

built_7 : map shown_of rows_7 ≡ trees_7
unfolding rows_7 trees_7 adjusted_attributes adjusted_name adjusted_tag_name cased foreign_attributes math_attribute_names svg_attribute_names svg_tag_names added_after adopted ended_by entry_of furthest_block inner_loop nth_open opened_inside opened_outside outer_loop replaced process run start step told_all begins_with begins_with_one html_4_01_beginnings limited_quirks_beginnings means_limited_quirks means_quirks quirks_beginnings quirks_public_ids quirks_system_ids added_before built changed has_one_like lacking row_of tree_from without_node foreign_end are_among cleared count_after_marker count_alike has_attribute_like has_entry last_named reopened still_listed to_reopen with_entry without_earliest without_entry without_oldest item_met all_names breaks_out ends_scope ends_table_scope has_such is_among is_body_context is_formatting is_fostering is_implied is_implied_thoroughly is_listed is_row_context is_special kind_in kind_in_namespace kind_of may_stay_open namespace_of first_open foster_place_in has_in_scope has_open popped_to_first_in popped_until_in popped_while_in second_body without_open mode_of flushed_as_space flushed_fostered is_all_space mode_of_request reply_of value_of among attribute_lines comes_before indent shown shown_of sorted
built_7 = refl

rows_8 : List Case
rows_8 =
    -- in body: start param source track: "<track>"
    (document false (start_tag (codes "track") [] ∷ End ∷ []))
    -- in body: start hr: "</hr><hr>"
    ∷ (document true (end_tag (codes "hr") ∷ start_tag (codes "hr") [] ∷ End ∷ []))
    -- in body: start image: "\t<image>"
    ∷ (document false (Text (codes "\t") ∷ start_tag (codes "image") [] ∷ End ∷ []))
    -- in body: start textarea: " <textarea>"
    ∷ (document false (Text (codes " ") ∷ start_tag (codes "textarea") [] ∷ End ∷ []))
    -- in body: start xmp: "<xmp>"
    ∷ (document true (start_tag (codes "xmp") [] ∷ End ∷ []))
    -- in body: start iframe: "<iframe>"
    ∷ (document false (start_tag (codes "iframe") [] ∷ End ∷ []))
    -- in body: start noembed noscript: "<noembed>"
    ∷ (document false (start_tag (codes "noembed") [] ∷ End ∷ []))
    -- in body: start select: "<select>"
    ∷ (document true (start_tag (codes "select") [] ∷ End ∷ []))
    -- in body: start option: "<option>"
    ∷ (document true (start_tag (codes "option") [] ∷ End ∷ []))
    -- in body: start optgroup: "<optgroup>"
    ∷ (document true (start_tag (codes "optgroup") [] ∷ End ∷ []))
    -- in body: start rb rtc: "<rtc>"
    ∷ (document true (start_tag (codes "rtc") [] ∷ End ∷ []))
    -- in body: start rp rt: "<rt>"
    ∷ (document false (start_tag (codes "rt") [] ∷ End ∷ []))
    ∷ []

trees_8 : List (List ℕ)
trees_8 =
    (codes "| <html>\n|   <head>\n|   <body>\n|     <track>\n")
    ∷ (codes "| <html>\n|   <head>\n|   <body>\n|     <hr>\n")
    ∷ (codes "| <html>\n|   <head>\n|   <body>\n|     <img>\n")
    ∷ (codes "| <html>\n|   <head>\n|   <body>\n|     <textarea>\n")
    ∷ (codes "| <html>\n|   <head>\n|   <body>\n|     <xmp>\n")
    ∷ (codes "| <html>\n|   <head>\n|   <body>\n|     <iframe>\n")
    ∷ (codes "| <html>\n|   <head>\n|   <body>\n|     <noembed>\n")
    ∷ (codes "| <html>\n|   <head>\n|   <body>\n|     <select>\n")
    ∷ (codes "| <html>\n|   <head>\n|   <body>\n|     <option>\n")
    ∷ (codes "| <html>\n|   <head>\n|   <body>\n|     <optgroup>\n")
    ∷ (codes "| <html>\n|   <head>\n|   <body>\n|     <rtc>\n")
    ∷ (codes "| <html>\n|   <head>\n|   <body>\n|     <rt>\n")
    ∷ []

built_8 : map shown_of rows_8 ≡ trees_8
unfolding rows_8 trees_8 adjusted_attributes adjusted_name adjusted_tag_name cased foreign_attributes math_attribute_names svg_attribute_names svg_tag_names added_after adopted ended_by entry_of furthest_block inner_loop nth_open opened_inside opened_outside outer_loop replaced process run start step told_all begins_with begins_with_one html_4_01_beginnings limited_quirks_beginnings means_limited_quirks means_quirks quirks_beginnings quirks_public_ids quirks_system_ids added_before built changed has_one_like lacking row_of tree_from without_node foreign_end are_among cleared count_after_marker count_alike has_attribute_like has_entry last_named reopened still_listed to_reopen with_entry without_earliest without_entry without_oldest item_met all_names breaks_out ends_scope ends_table_scope has_such is_among is_body_context is_formatting is_fostering is_implied is_implied_thoroughly is_listed is_row_context is_special kind_in kind_in_namespace kind_of may_stay_open namespace_of first_open foster_place_in has_in_scope has_open popped_to_first_in popped_until_in popped_while_in second_body without_open mode_of flushed_as_space flushed_fostered is_all_space mode_of_request reply_of value_of among attribute_lines comes_before indent shown shown_of sorted
built_8 = refl

rows_9 : List Case
rows_9 =
    -- in body: start math: "<math>"
    (document false (start_tag (codes "math") [] ∷ End ∷ []))
    -- in body: start svg: "<svg>"
    ∷ (document false (start_tag (codes "svg") [] ∷ End ∷ []))
    -- in body: parse error ignore: "<tr>"
    ∷ (document true (start_tag (codes "tr") [] ∷ End ∷ []))
    -- in body: any other start tag: "<mo>"
    ∷ (document true (start_tag (codes "mo") [] ∷ End ∷ []))
    -- in body: any other end tag: "x</tr>"
    ∷ (document true (Text (codes "x") ∷ end_tag (codes "tr") ∷ End ∷ []))
    -- text: insert the character: "<script>&amp;"
    ∷ (document true (start_tag (codes "script") [] ∷ Text (codes "&amp;") ∷ Text [] ∷ End ∷ []))
    -- text: end of file: "<xmp>"
    ∷ (document true (start_tag (codes "xmp") [] ∷ End ∷ []))
    -- text: end script: "</body></html><script></script>"
    ∷ (document false (end_tag (codes "body") ∷ end_tag (codes "html") ∷ start_tag (codes "script") [] ∷ end_tag (codes "script") ∷ End ∷ []))
    -- text: any other end tag: "<xmp></xmp>"
    ∷ (document true (start_tag (codes "xmp") [] ∷ end_tag (codes "xmp") ∷ End ∷ []))
    -- in table: character: "<table> x"
    ∷ (document false (start_tag (codes "table") [] ∷ Text (codes " x") ∷ Text [] ∷ End ∷ []))
    -- in table: insert a comment: "<table><!--c-->"
    ∷ (document false (start_tag (codes "table") [] ∷ Comment (codes "c") ∷ End ∷ []))
    -- in table: parse error ignore: "<table><!DOCTYPE html></table>"
    ∷ (document false (start_tag (codes "table") [] ∷ Doctype (record { name = (Some (codes "html")); public_id = None; system_id = None; force_quirks = false }) ∷ end_tag (codes "table") ∷ End ∷ []))
    ∷ []

trees_9 : List (List ℕ)
trees_9 =
    (codes "| <html>\n|   <head>\n|   <body>\n|     <math math>\n")
    ∷ (codes "| <html>\n|   <head>\n|   <body>\n|     <svg svg>\n")
    ∷ (codes "| <html>\n|   <head>\n|   <body>\n")
    ∷ (codes "| <html>\n|   <head>\n|   <body>\n|     <mo>\n")
    ∷ (codes "| <html>\n|   <head>\n|   <body>\n|     \"x\"\n")
    ∷ (codes "| <html>\n|   <head>\n|     <script>\n|       \"&amp;\"\n|   <body>\n")
    ∷ (codes "| <html>\n|   <head>\n|   <body>\n|     <xmp>\n")
    ∷ (codes "| <html>\n|   <head>\n|   <body>\n|     <script>\n")
    ∷ (codes "| <html>\n|   <head>\n|   <body>\n|     <xmp>\n")
    ∷ (codes "| <html>\n|   <head>\n|   <body>\n|     \" x\"\n|     <table>\n")
    ∷ (codes "| <html>\n|   <head>\n|   <body>\n|     <table>\n|       <!-- c -->\n")
    ∷ (codes "| <html>\n|   <head>\n|   <body>\n|     <table>\n")
    ∷ []

built_9 : map shown_of rows_9 ≡ trees_9
unfolding rows_9 trees_9 adjusted_attributes adjusted_name adjusted_tag_name cased foreign_attributes math_attribute_names svg_attribute_names svg_tag_names added_after adopted ended_by entry_of furthest_block inner_loop nth_open opened_inside opened_outside outer_loop replaced process run start step told_all begins_with begins_with_one html_4_01_beginnings limited_quirks_beginnings means_limited_quirks means_quirks quirks_beginnings quirks_public_ids quirks_system_ids added_before built changed has_one_like lacking row_of tree_from without_node foreign_end are_among cleared count_after_marker count_alike has_attribute_like has_entry last_named reopened still_listed to_reopen with_entry without_earliest without_entry without_oldest item_met all_names breaks_out ends_scope ends_table_scope has_such is_among is_body_context is_formatting is_fostering is_implied is_implied_thoroughly is_listed is_row_context is_special kind_in kind_in_namespace kind_of may_stay_open namespace_of first_open foster_place_in has_in_scope has_open popped_to_first_in popped_until_in popped_while_in second_body without_open mode_of flushed_as_space flushed_fostered is_all_space mode_of_request reply_of value_of among attribute_lines comes_before indent shown shown_of sorted
built_9 = refl

rows_10 : List Case
rows_10 =
    -- in table: start caption: "<table><caption><b>"
    (document false (start_tag (codes "table") [] ∷ start_tag (codes "caption") [] ∷ start_tag (codes "b") [] ∷ End ∷ []))
    -- in table: start colgroup: "<table><colgroup> "
    ∷ (document false (start_tag (codes "table") [] ∷ start_tag (codes "colgroup") [] ∷ Text (codes " ") ∷ Text [] ∷ End ∷ []))
    -- in table: start col: "<table><caption><col>"
    ∷ (document true (start_tag (codes "table") [] ∷ start_tag (codes "caption") [] ∷ start_tag (codes "col") [] ∷ End ∷ []))
    -- in table: start tbody tfoot thead: "<table><tbody>\n"
    ∷ (document false (start_tag (codes "table") [] ∷ start_tag (codes "tbody") [] ∷ Text (codes "\n") ∷ Text [] ∷ End ∷ []))
    -- in table: start td th tr: "<table><td>"
    ∷ (document false (start_tag (codes "table") [] ∷ start_tag (codes "td") [] ∷ End ∷ []))
    -- in table: start table: "<table><table>"
    ∷ (document false (start_tag (codes "table") [] ∷ start_tag (codes "table") [] ∷ End ∷ []))
    -- in table: end table: "<table></table>"
    ∷ (document false (start_tag (codes "table") [] ∷ end_tag (codes "table") ∷ End ∷ []))
    -- in table: parse error ignore: "<table></tr>"
    ∷ (document false (start_tag (codes "table") [] ∷ end_tag (codes "tr") ∷ End ∷ []))
    -- in table: using in head: "<form><table><template>"
    ∷ (document false (start_tag (codes "form") [] ∷ start_tag (codes "table") [] ∷ start_tag (codes "template") [] ∷ End ∷ []))
    -- in table: using in head: "<form><table></template> "
    ∷ (document true (start_tag (codes "form") [] ∷ start_tag (codes "table") [] ∷ end_tag (codes "template") ∷ Text (codes " ") ∷ Text [] ∷ End ∷ []))
    -- in table: start input: "</table><table><input>"
    ∷ (document true (end_tag (codes "table") ∷ start_tag (codes "table") [] ∷ start_tag (codes "input") [] ∷ End ∷ []))
    -- in table: start form: "<table><tr><form>"
    ∷ (document false (start_tag (codes "table") [] ∷ start_tag (codes "tr") [] ∷ start_tag (codes "form") [] ∷ End ∷ []))
    ∷ []

trees_10 : List (List ℕ)
trees_10 =
    (codes "| <html>\n|   <head>\n|   <body>\n|     <table>\n|       <caption>\n|         <b>\n")
    ∷ (codes "| <html>\n|   <head>\n|   <body>\n|     <table>\n|       <colgroup>\n|         \" \"\n")
    ∷ (codes "| <html>\n|   <head>\n|   <body>\n|     <table>\n|       <caption>\n|       <colgroup>\n|         <col>\n")
    ∷ (codes "| <html>\n|   <head>\n|   <body>\n|     <table>\n|       <tbody>\n|         \"\n\"\n")
    ∷ (codes "| <html>\n|   <head>\n|   <body>\n|     <table>\n|       <tbody>\n|         <tr>\n|           <td>\n")
    ∷ (codes "| <html>\n|   <head>\n|   <body>\n|     <table>\n|     <table>\n")
    ∷ (codes "| <html>\n|   <head>\n|   <body>\n|     <table>\n")
    ∷ (codes "| <html>\n|   <head>\n|   <body>\n|     <table>\n")
    ∷ (codes "| <html>\n|   <head>\n|   <body>\n|     <form>\n|       <table>\n|         <template>\n|           content\n")
    ∷ (codes "| <html>\n|   <head>\n|   <body>\n|     <form>\n|       <table>\n|         \" \"\n")
    ∷ (codes "| <html>\n|   <head>\n|   <body>\n|     <input>\n|     <table>\n")
    ∷ (codes "| <html>\n|   <head>\n|   <body>\n|     <table>\n|       <tbody>\n|         <tr>\n|           <form>\n")
    ∷ []

built_10 : map shown_of rows_10 ≡ trees_10
unfolding rows_10 trees_10 adjusted_attributes adjusted_name adjusted_tag_name cased foreign_attributes math_attribute_names svg_attribute_names svg_tag_names added_after adopted ended_by entry_of furthest_block inner_loop nth_open opened_inside opened_outside outer_loop replaced process run start step told_all begins_with begins_with_one html_4_01_beginnings limited_quirks_beginnings means_limited_quirks means_quirks quirks_beginnings quirks_public_ids quirks_system_ids added_before built changed has_one_like lacking row_of tree_from without_node foreign_end are_among cleared count_after_marker count_alike has_attribute_like has_entry last_named reopened still_listed to_reopen with_entry without_earliest without_entry without_oldest item_met all_names breaks_out ends_scope ends_table_scope has_such is_among is_body_context is_formatting is_fostering is_implied is_implied_thoroughly is_listed is_row_context is_special kind_in kind_in_namespace kind_of may_stay_open namespace_of first_open foster_place_in has_in_scope has_open popped_to_first_in popped_until_in popped_while_in second_body without_open mode_of flushed_as_space flushed_fostered is_all_space mode_of_request reply_of value_of among attribute_lines comes_before indent shown shown_of sorted
built_10 = refl

rows_11 : List Case
rows_11 =
    -- in table: using in body: "<table>"
    (document false (start_tag (codes "table") [] ∷ End ∷ []))
    -- in table: anything else: "<table><ol>"
    ∷ (document true (start_tag (codes "table") [] ∷ start_tag (codes "ol") [] ∷ End ∷ []))
    -- in table text: parse error ignore: "<form><table>a\u0000b"
    ∷ (document true (start_tag (codes "form") [] ∷ start_tag (codes "table") [] ∷ Text (codes "a") ∷ Null ∷ Text (codes "b") ∷ Text [] ∷ End ∷ []))
    -- in table text: any other character: "<table> x"
    ∷ (document false (start_tag (codes "table") [] ∷ Text (codes " x") ∷ Text [] ∷ End ∷ []))
    -- in table text: anything else: "<table> x"
    ∷ (document false (start_tag (codes "table") [] ∷ Text (codes " x") ∷ Text [] ∷ End ∷ []))
    -- in caption: end caption: "<table><caption></caption>"
    ∷ (document false (start_tag (codes "table") [] ∷ start_tag (codes "caption") [] ∷ end_tag (codes "caption") ∷ End ∷ []))
    -- in caption: start caption and others: "<table><caption><tr>"
    ∷ (document true (start_tag (codes "table") [] ∷ start_tag (codes "caption") [] ∷ start_tag (codes "tr") [] ∷ End ∷ []))
    -- in caption: parse error ignore: "<table><caption></td>"
    ∷ (document true (start_tag (codes "table") [] ∷ start_tag (codes "caption") [] ∷ end_tag (codes "td") ∷ End ∷ []))
    -- in caption: using in body: "<table><caption><b>"
    ∷ (document false (start_tag (codes "table") [] ∷ start_tag (codes "caption") [] ∷ start_tag (codes "b") [] ∷ End ∷ []))
    -- in column group: insert the character: "<table><colgroup> "
    ∷ (document false (start_tag (codes "table") [] ∷ start_tag (codes "colgroup") [] ∷ Text (codes " ") ∷ Text [] ∷ End ∷ []))
    -- in column group: insert a comment: "<table>\n\nx<col><!--c-->"
    ∷ (document false (start_tag (codes "table") [] ∷ Text (codes "\n\nx") ∷ start_tag (codes "col") [] ∷ Comment (codes "c") ∷ End ∷ []))
    -- in column group: parse error ignore: "<!DOCTYPE html><table><colgroup><!DOCTYPE html>"
    ∷ (document false (Doctype (record { name = (Some (codes "html")); public_id = None; system_id = None; force_quirks = false }) ∷ start_tag (codes "table") [] ∷ start_tag (codes "colgroup") [] ∷ Doctype (record { name = (Some (codes "html")); public_id = None; system_id = None; force_quirks = false }) ∷ End ∷ []))
    ∷ []

trees_11 : List (List ℕ)
trees_11 =
    (codes "| <html>\n|   <head>\n|   <body>\n|     <table>\n")
    ∷ (codes "| <html>\n|   <head>\n|   <body>\n|     <ol>\n|     <table>\n")
    ∷ (codes "| <html>\n|   <head>\n|   <body>\n|     <form>\n|       \"ab\"\n|       <table>\n")
    ∷ (codes "| <html>\n|   <head>\n|   <body>\n|     \" x\"\n|     <table>\n")
    ∷ (codes "| <html>\n|   <head>\n|   <body>\n|     \" x\"\n|     <table>\n")
    ∷ (codes "| <html>\n|   <head>\n|   <body>\n|     <table>\n|       <caption>\n")
    ∷ (codes "| <html>\n|   <head>\n|   <body>\n|     <table>\n|       <caption>\n|       <tbody>\n|         <tr>\n")
    ∷ (codes "| <html>\n|   <head>\n|   <body>\n|     <table>\n|       <caption>\n")
    ∷ (codes "| <html>\n|   <head>\n|   <body>\n|     <table>\n|       <caption>\n|         <b>\n")
    ∷ (codes "| <html>\n|   <head>\n|   <body>\n|     <table>\n|       <colgroup>\n|         \" \"\n")
    ∷ (codes "| <html>\n|   <head>\n|   <body>\n|     \"\n\nx\"\n|     <table>\n|       <colgroup>\n|         <col>\n|         <!-- c -->\n")
    ∷ (codes "| <!DOCTYPE html>\n| <html>\n|   <head>\n|   <body>\n|     <table>\n|       <colgroup>\n")
    ∷ []

built_11 : map shown_of rows_11 ≡ trees_11
unfolding rows_11 trees_11 adjusted_attributes adjusted_name adjusted_tag_name cased foreign_attributes math_attribute_names svg_attribute_names svg_tag_names added_after adopted ended_by entry_of furthest_block inner_loop nth_open opened_inside opened_outside outer_loop replaced process run start step told_all begins_with begins_with_one html_4_01_beginnings limited_quirks_beginnings means_limited_quirks means_quirks quirks_beginnings quirks_public_ids quirks_system_ids added_before built changed has_one_like lacking row_of tree_from without_node foreign_end are_among cleared count_after_marker count_alike has_attribute_like has_entry last_named reopened still_listed to_reopen with_entry without_earliest without_entry without_oldest item_met all_names breaks_out ends_scope ends_table_scope has_such is_among is_body_context is_formatting is_fostering is_implied is_implied_thoroughly is_listed is_row_context is_special kind_in kind_in_namespace kind_of may_stay_open namespace_of first_open foster_place_in has_in_scope has_open popped_to_first_in popped_until_in popped_while_in second_body without_open mode_of flushed_as_space flushed_fostered is_all_space mode_of_request reply_of value_of among attribute_lines comes_before indent shown shown_of sorted
built_11 = refl

rows_12 : List Case
rows_12 =
    -- in column group: using in body: "<table><caption><col><html>"
    (document true (start_tag (codes "table") [] ∷ start_tag (codes "caption") [] ∷ start_tag (codes "col") [] ∷ start_tag (codes "html") [] ∷ End ∷ []))
    -- in column group: start col: "<template><col/>\n\nx"
    ∷ (document false (start_tag (codes "template") [] ∷ closed_tag (codes "col") [] ∷ Text (codes "\n\nx") ∷ Text [] ∷ End ∷ []))
    -- in column group: end colgroup: "<table><colgroup></colgroup>"
    ∷ (document true (start_tag (codes "table") [] ∷ start_tag (codes "colgroup") [] ∷ end_tag (codes "colgroup") ∷ End ∷ []))
    -- in column group: parse error ignore: "<!DOCTYPE html><table><colgroup></col>"
    ∷ (document true (Doctype (record { name = (Some (codes "html")); public_id = None; system_id = None; force_quirks = false }) ∷ start_tag (codes "table") [] ∷ start_tag (codes "colgroup") [] ∷ end_tag (codes "col") ∷ End ∷ []))
    -- in column group: using in head: "<table><colgroup><template>"
    ∷ (document false (start_tag (codes "table") [] ∷ start_tag (codes "colgroup") [] ∷ start_tag (codes "template") [] ∷ End ∷ []))
    -- in column group: using in head: "<!DOCTYPE html><table><colgroup></template>"
    ∷ (document true (Doctype (record { name = (Some (codes "html")); public_id = None; system_id = None; force_quirks = false }) ∷ start_tag (codes "table") [] ∷ start_tag (codes "colgroup") [] ∷ end_tag (codes "template") ∷ End ∷ []))
    -- in column group: using in body: "<table><colgroup> "
    ∷ (document false (start_tag (codes "table") [] ∷ start_tag (codes "colgroup") [] ∷ Text (codes " ") ∷ Text [] ∷ End ∷ []))
    -- in column group: anything else: "<table><colgroup>\u0000"
    ∷ (document true (start_tag (codes "table") [] ∷ start_tag (codes "colgroup") [] ∷ Null ∷ End ∷ []))
    -- in table body: start tr: "<table><tr>"
    ∷ (document false (start_tag (codes "table") [] ∷ start_tag (codes "tr") [] ∷ End ∷ []))
    -- in table body: start th td: "<table><td>"
    ∷ (document false (start_tag (codes "table") [] ∷ start_tag (codes "td") [] ∷ End ∷ []))
    -- in table body: end tbody tfoot thead: "<table><tbody></thead>"
    ∷ (document true (start_tag (codes "table") [] ∷ start_tag (codes "tbody") [] ∷ end_tag (codes "thead") ∷ End ∷ []))
    -- in table body: start caption and others: "<table><tr><tbody>"
    ∷ (document true (start_tag (codes "table") [] ∷ start_tag (codes "tr") [] ∷ start_tag (codes "tbody") [] ∷ End ∷ []))
    ∷ []

trees_12 : List (List ℕ)
trees_12 =
    (codes "| <html>\n|   <head>\n|   <body>\n|     <table>\n|       <caption>\n|       <colgroup>\n|         <col>\n")
    ∷ (codes "| <html>\n|   <head>\n|     <template>\n|       content\n|         <col>\n|         \"\n\n\"\n|   <body>\n")
    ∷ (codes "| <html>\n|   <head>\n|   <body>\n|     <table>\n|       <colgroup>\n")
    ∷ (codes "| <!DOCTYPE html>\n| <html>\n|   <head>\n|   <body>\n|     <table>\n|       <colgroup>\n")
    ∷ (codes "| <html>\n|   <head>\n|   <body>\n|     <table>\n|       <colgroup>\n|         <template>\n|           content\n")
    ∷ (codes "| <!DOCTYPE html>\n| <html>\n|   <head>\n|   <body>\n|     <table>\n|       <colgroup>\n")
    ∷ (codes "| <html>\n|   <head>\n|   <body>\n|     <table>\n|       <colgroup>\n|         \" \"\n")
    ∷ (codes "| <html>\n|   <head>\n|   <body>\n|     <table>\n|       <colgroup>\n")
    ∷ (codes "| <html>\n|   <head>\n|   <body>\n|     <table>\n|       <tbody>\n|         <tr>\n")
    ∷ (codes "| <html>\n|   <head>\n|   <body>\n|     <table>\n|       <tbody>\n|         <tr>\n|           <td>\n")
    ∷ (codes "| <html>\n|   <head>\n|   <body>\n|     <table>\n|       <tbody>\n")
    ∷ (codes "| <html>\n|   <head>\n|   <body>\n|     <table>\n|       <tbody>\n|         <tr>\n|       <tbody>\n")
    ∷ []

built_12 : map shown_of rows_12 ≡ trees_12
unfolding rows_12 trees_12 adjusted_attributes adjusted_name adjusted_tag_name cased foreign_attributes math_attribute_names svg_attribute_names svg_tag_names added_after adopted ended_by entry_of furthest_block inner_loop nth_open opened_inside opened_outside outer_loop replaced process run start step told_all begins_with begins_with_one html_4_01_beginnings limited_quirks_beginnings means_limited_quirks means_quirks quirks_beginnings quirks_public_ids quirks_system_ids added_before built changed has_one_like lacking row_of tree_from without_node foreign_end are_among cleared count_after_marker count_alike has_attribute_like has_entry last_named reopened still_listed to_reopen with_entry without_earliest without_entry without_oldest item_met all_names breaks_out ends_scope ends_table_scope has_such is_among is_body_context is_formatting is_fostering is_implied is_implied_thoroughly is_listed is_row_context is_special kind_in kind_in_namespace kind_of may_stay_open namespace_of first_open foster_place_in has_in_scope has_open popped_to_first_in popped_until_in popped_while_in second_body without_open mode_of flushed_as_space flushed_fostered is_all_space mode_of_request reply_of value_of among attribute_lines comes_before indent shown shown_of sorted
built_12 = refl

rows_13 : List Case
rows_13 =
    -- in table body: parse error ignore: "<table><tbody></td>"
    (document true (start_tag (codes "table") [] ∷ start_tag (codes "tbody") [] ∷ end_tag (codes "td") ∷ End ∷ []))
    -- in table body: using in table: "<table><tbody>\n"
    ∷ (document false (start_tag (codes "table") [] ∷ start_tag (codes "tbody") [] ∷ Text (codes "\n") ∷ Text [] ∷ End ∷ []))
    -- in row: start th td: "<table><td>"
    ∷ (document false (start_tag (codes "table") [] ∷ start_tag (codes "td") [] ∷ End ∷ []))
    -- in row: end tr: "<table><tr><td></tr>"
    ∷ (document false (start_tag (codes "table") [] ∷ start_tag (codes "tr") [] ∷ start_tag (codes "td") [] ∷ end_tag (codes "tr") ∷ End ∷ []))
    -- in row: start caption and others: "<table><tr><tr>"
    ∷ (document true (start_tag (codes "table") [] ∷ start_tag (codes "tr") [] ∷ start_tag (codes "tr") [] ∷ End ∷ []))
    -- in row: end tbody tfoot thead: "<table><tr></tfoot>"
    ∷ (document false (start_tag (codes "table") [] ∷ start_tag (codes "tr") [] ∷ end_tag (codes "tfoot") ∷ End ∷ []))
    -- in row: parse error ignore: "<template><tr></html>"
    ∷ (document true (start_tag (codes "template") [] ∷ start_tag (codes "tr") [] ∷ end_tag (codes "html") ∷ End ∷ []))
    -- in row: using in table: "<table><tr>"
    ∷ (document false (start_tag (codes "table") [] ∷ start_tag (codes "tr") [] ∷ End ∷ []))
    -- in cell: end td th: "<table><tr><th></th>"
    ∷ (document true (start_tag (codes "table") [] ∷ start_tag (codes "tr") [] ∷ start_tag (codes "th") [] ∷ end_tag (codes "th") ∷ End ∷ []))
    -- in cell: start caption and others: "<table><tr><td><tr>"
    ∷ (document false (start_tag (codes "table") [] ∷ start_tag (codes "tr") [] ∷ start_tag (codes "td") [] ∷ start_tag (codes "tr") [] ∷ End ∷ []))
    -- in cell: parse error ignore: "<table><tr><td></body>"
    ∷ (document false (start_tag (codes "table") [] ∷ start_tag (codes "tr") [] ∷ start_tag (codes "td") [] ∷ end_tag (codes "body") ∷ End ∷ []))
    -- in cell: end table and others: "<table><tr><td></tr>"
    ∷ (document false (start_tag (codes "table") [] ∷ start_tag (codes "tr") [] ∷ start_tag (codes "td") [] ∷ end_tag (codes "tr") ∷ End ∷ []))
    ∷ []

trees_13 : List (List ℕ)
trees_13 =
    (codes "| <html>\n|   <head>\n|   <body>\n|     <table>\n|       <tbody>\n")
    ∷ (codes "| <html>\n|   <head>\n|   <body>\n|     <table>\n|       <tbody>\n|         \"\n\"\n")
    ∷ (codes "| <html>\n|   <head>\n|   <body>\n|     <table>\n|       <tbody>\n|         <tr>\n|           <td>\n")
    ∷ (codes "| <html>\n|   <head>\n|   <body>\n|     <table>\n|       <tbody>\n|         <tr>\n|           <td>\n")
    ∷ (codes "| <html>\n|   <head>\n|   <body>\n|     <table>\n|       <tbody>\n|         <tr>\n|         <tr>\n")
    ∷ (codes "| <html>\n|   <head>\n|   <body>\n|     <table>\n|       <tbody>\n|         <tr>\n")
    ∷ (codes "| <html>\n|   <head>\n|     <template>\n|       content\n|         <tr>\n|   <body>\n")
    ∷ (codes "| <html>\n|   <head>\n|   <body>\n|     <table>\n|       <tbody>\n|         <tr>\n")
    ∷ (codes "| <html>\n|   <head>\n|   <body>\n|     <table>\n|       <tbody>\n|         <tr>\n|           <th>\n")
    ∷ (codes "| <html>\n|   <head>\n|   <body>\n|     <table>\n|       <tbody>\n|         <tr>\n|           <td>\n|         <tr>\n")
    ∷ (codes "| <html>\n|   <head>\n|   <body>\n|     <table>\n|       <tbody>\n|         <tr>\n|           <td>\n")
    ∷ (codes "| <html>\n|   <head>\n|   <body>\n|     <table>\n|       <tbody>\n|         <tr>\n|           <td>\n")
    ∷ []

built_13 : map shown_of rows_13 ≡ trees_13
unfolding rows_13 trees_13 adjusted_attributes adjusted_name adjusted_tag_name cased foreign_attributes math_attribute_names svg_attribute_names svg_tag_names added_after adopted ended_by entry_of furthest_block inner_loop nth_open opened_inside opened_outside outer_loop replaced process run start step told_all begins_with begins_with_one html_4_01_beginnings limited_quirks_beginnings means_limited_quirks means_quirks quirks_beginnings quirks_public_ids quirks_system_ids added_before built changed has_one_like lacking row_of tree_from without_node foreign_end are_among cleared count_after_marker count_alike has_attribute_like has_entry last_named reopened still_listed to_reopen with_entry without_earliest without_entry without_oldest item_met all_names breaks_out ends_scope ends_table_scope has_such is_among is_body_context is_formatting is_fostering is_implied is_implied_thoroughly is_listed is_row_context is_special kind_in kind_in_namespace kind_of may_stay_open namespace_of first_open foster_place_in has_in_scope has_open popped_to_first_in popped_until_in popped_while_in second_body without_open mode_of flushed_as_space flushed_fostered is_all_space mode_of_request reply_of value_of among attribute_lines comes_before indent shown shown_of sorted
built_13 = refl

rows_14 : List Case
rows_14 =
    -- in cell: using in body: "<table><td>"
    (document false (start_tag (codes "table") [] ∷ start_tag (codes "td") [] ∷ End ∷ []))
    -- in template: using in body: "<template>y"
    ∷ (document false (start_tag (codes "template") [] ∷ Text (codes "y") ∷ Text [] ∷ End ∷ []))
    -- in template: using in body: "<template></ x>"
    ∷ (document false (start_tag (codes "template") [] ∷ Comment (codes " x") ∷ End ∷ []))
    -- in template: using in body: "<!DOCTYPE html><template><!DOCTYPE html>"
    ∷ (document false (Doctype (record { name = (Some (codes "html")); public_id = None; system_id = None; force_quirks = false }) ∷ start_tag (codes "template") [] ∷ Doctype (record { name = (Some (codes "html")); public_id = None; system_id = None; force_quirks = false }) ∷ End ∷ []))
    -- in template: using in head: "<template><template>"
    ∷ (document true (start_tag (codes "template") [] ∷ start_tag (codes "template") [] ∷ End ∷ []))
    -- in template: using in head: "<template></template>"
    ∷ (document false (start_tag (codes "template") [] ∷ end_tag (codes "template") ∷ End ∷ []))
    -- in template: start caption and others: "<template><tbody><template>"
    ∷ (document false (start_tag (codes "template") [] ∷ start_tag (codes "tbody") [] ∷ start_tag (codes "template") [] ∷ End ∷ []))
    -- in template: start col: "<template><col/>\n\nx"
    ∷ (document false (start_tag (codes "template") [] ∷ closed_tag (codes "col") [] ∷ Text (codes "\n\nx") ∷ Text [] ∷ End ∷ []))
    -- in template: start tr: "<template><tr></html>"
    ∷ (document true (start_tag (codes "template") [] ∷ start_tag (codes "tr") [] ∷ end_tag (codes "html") ∷ End ∷ []))
    -- in template: start td th: "<template></caption><td>"
    ∷ (document true (start_tag (codes "template") [] ∷ end_tag (codes "caption") ∷ start_tag (codes "td") [] ∷ End ∷ []))
    -- in template: any other start tag: "<template><p>"
    ∷ (document false (start_tag (codes "template") [] ∷ start_tag (codes "p") [] ∷ End ∷ []))
    -- in template: parse error ignore: "<template></p>"
    ∷ (document true (start_tag (codes "template") [] ∷ end_tag (codes "p") ∷ End ∷ []))
    ∷ []

trees_14 : List (List ℕ)
trees_14 =
    (codes "| <html>\n|   <head>\n|   <body>\n|     <table>\n|       <tbody>\n|         <tr>\n|           <td>\n")
    ∷ (codes "| <html>\n|   <head>\n|     <template>\n|       content\n|         \"y\"\n|   <body>\n")
    ∷ (codes "| <html>\n|   <head>\n|     <template>\n|       content\n|         <!--  x -->\n|   <body>\n")
    ∷ (codes "| <!DOCTYPE html>\n| <html>\n|   <head>\n|     <template>\n|       content\n|   <body>\n")
    ∷ (codes "| <html>\n|   <head>\n|     <template>\n|       content\n|         <template>\n|           content\n|   <body>\n")
    ∷ (codes "| <html>\n|   <head>\n|     <template>\n|       content\n|   <body>\n")
    ∷ (codes "| <html>\n|   <head>\n|     <template>\n|       content\n|         <tbody>\n|           <template>\n|             content\n|   <body>\n")
    ∷ (codes "| <html>\n|   <head>\n|     <template>\n|       content\n|         <col>\n|         \"\n\n\"\n|   <body>\n")
    ∷ (codes "| <html>\n|   <head>\n|     <template>\n|       content\n|         <tr>\n|   <body>\n")
    ∷ (codes "| <html>\n|   <head>\n|     <template>\n|       content\n|         <td>\n|   <body>\n")
    ∷ (codes "| <html>\n|   <head>\n|     <template>\n|       content\n|         <p>\n|   <body>\n")
    ∷ (codes "| <html>\n|   <head>\n|     <template>\n|       content\n|   <body>\n")
    ∷ []

built_14 : map shown_of rows_14 ≡ trees_14
unfolding rows_14 trees_14 adjusted_attributes adjusted_name adjusted_tag_name cased foreign_attributes math_attribute_names svg_attribute_names svg_tag_names added_after adopted ended_by entry_of furthest_block inner_loop nth_open opened_inside opened_outside outer_loop replaced process run start step told_all begins_with begins_with_one html_4_01_beginnings limited_quirks_beginnings means_limited_quirks means_quirks quirks_beginnings quirks_public_ids quirks_system_ids added_before built changed has_one_like lacking row_of tree_from without_node foreign_end are_among cleared count_after_marker count_alike has_attribute_like has_entry last_named reopened still_listed to_reopen with_entry without_earliest without_entry without_oldest item_met all_names breaks_out ends_scope ends_table_scope has_such is_among is_body_context is_formatting is_fostering is_implied is_implied_thoroughly is_listed is_row_context is_special kind_in kind_in_namespace kind_of may_stay_open namespace_of first_open foster_place_in has_in_scope has_open popped_to_first_in popped_until_in popped_while_in second_body without_open mode_of flushed_as_space flushed_fostered is_all_space mode_of_request reply_of value_of among attribute_lines comes_before indent shown shown_of sorted
built_14 = refl

rows_15 : List Case
rows_15 =
    -- in template: end of file: "<template>"
    (document false (start_tag (codes "template") [] ∷ End ∷ []))
    -- after body: whitespace: "<body></body> "
    ∷ (document true (start_tag (codes "body") [] ∷ end_tag (codes "body") ∷ Text (codes " ") ∷ Text [] ∷ End ∷ []))
    -- after body: comment: "<body></body><!--c-->"
    ∷ (document true (start_tag (codes "body") [] ∷ end_tag (codes "body") ∷ Comment (codes "c") ∷ End ∷ []))
    -- after body: parse error ignore: "<body></body><!DOCTYPE html>"
    ∷ (document true (start_tag (codes "body") [] ∷ end_tag (codes "body") ∷ Doctype (record { name = (Some (codes "html")); public_id = None; system_id = None; force_quirks = false }) ∷ End ∷ []))
    -- after body: using in body: "<!DOCTYPE><body></body><html>"
    ∷ (document false (Doctype (record { name = None; public_id = None; system_id = None; force_quirks = true }) ∷ start_tag (codes "body") [] ∷ end_tag (codes "body") ∷ start_tag (codes "html") [] ∷ End ∷ []))
    -- after body: end html: "</html>"
    ∷ (document false (end_tag (codes "html") ∷ End ∷ []))
    -- after body: end of file: "</body>"
    ∷ (document true (end_tag (codes "body") ∷ End ∷ []))
    -- after body: anything else: "</body></i>"
    ∷ (document false (end_tag (codes "body") ∷ end_tag (codes "i") ∷ End ∷ []))
    -- in frameset: insert the character: "<frameset>\t"
    ∷ (document true (start_tag (codes "frameset") [] ∷ Text (codes "\t") ∷ Text [] ∷ End ∷ []))
    -- in frameset: insert a comment: "<frameset><!--c-->"
    ∷ (document false (start_tag (codes "frameset") [] ∷ Comment (codes "c") ∷ End ∷ []))
    -- in frameset: parse error ignore: "<frameset><!DOCTYPE html>"
    ∷ (document false (start_tag (codes "frameset") [] ∷ Doctype (record { name = (Some (codes "html")); public_id = None; system_id = None; force_quirks = false }) ∷ End ∷ []))
    -- in frameset: using in body: "<frameset><html/>"
    ∷ (document false (start_tag (codes "frameset") [] ∷ closed_tag (codes "html") [] ∷ End ∷ []))
    ∷ []

trees_15 : List (List ℕ)
trees_15 =
    (codes "| <html>\n|   <head>\n|     <template>\n|       content\n|   <body>\n")
    ∷ (codes "| <html>\n|   <head>\n|   <body>\n|     \" \"\n")
    ∷ (codes "| <html>\n|   <head>\n|   <body>\n|   <!-- c -->\n")
    ∷ (codes "| <html>\n|   <head>\n|   <body>\n")
    ∷ (codes "| <!DOCTYPE >\n| <html>\n|   <head>\n|   <body>\n")
    ∷ (codes "| <html>\n|   <head>\n|   <body>\n")
    ∷ (codes "| <html>\n|   <head>\n|   <body>\n")
    ∷ (codes "| <html>\n|   <head>\n|   <body>\n")
    ∷ (codes "| <html>\n|   <head>\n|   <frameset>\n|     \"\t\"\n")
    ∷ (codes "| <html>\n|   <head>\n|   <frameset>\n|     <!-- c -->\n")
    ∷ (codes "| <html>\n|   <head>\n|   <frameset>\n")
    ∷ (codes "| <html>\n|   <head>\n|   <frameset>\n")
    ∷ []

built_15 : map shown_of rows_15 ≡ trees_15
unfolding rows_15 trees_15 adjusted_attributes adjusted_name adjusted_tag_name cased foreign_attributes math_attribute_names svg_attribute_names svg_tag_names added_after adopted ended_by entry_of furthest_block inner_loop nth_open opened_inside opened_outside outer_loop replaced process run start step told_all begins_with begins_with_one html_4_01_beginnings limited_quirks_beginnings means_limited_quirks means_quirks quirks_beginnings quirks_public_ids quirks_system_ids added_before built changed has_one_like lacking row_of tree_from without_node foreign_end are_among cleared count_after_marker count_alike has_attribute_like has_entry last_named reopened still_listed to_reopen with_entry without_earliest without_entry without_oldest item_met all_names breaks_out ends_scope ends_table_scope has_such is_among is_body_context is_formatting is_fostering is_implied is_implied_thoroughly is_listed is_row_context is_special kind_in kind_in_namespace kind_of may_stay_open namespace_of first_open foster_place_in has_in_scope has_open popped_to_first_in popped_until_in popped_while_in second_body without_open mode_of flushed_as_space flushed_fostered is_all_space mode_of_request reply_of value_of among attribute_lines comes_before indent shown shown_of sorted
built_15 = refl

rows_16 : List Case
rows_16 =
    -- in frameset: start frameset: "<frameset><frameset>"
    (document false (start_tag (codes "frameset") [] ∷ start_tag (codes "frameset") [] ∷ End ∷ []))
    -- in frameset: end frameset: "<frameset></frameset>"
    ∷ (document true (start_tag (codes "frameset") [] ∷ end_tag (codes "frameset") ∷ End ∷ []))
    -- in frameset: start frame: "<frameset><frame>"
    ∷ (document false (start_tag (codes "frameset") [] ∷ start_tag (codes "frame") [] ∷ End ∷ []))
    -- in frameset: using in head: "<frameset><noframes>"
    ∷ (document true (start_tag (codes "frameset") [] ∷ start_tag (codes "noframes") [] ∷ End ∷ []))
    -- in frameset: end of file: "<frameset>"
    ∷ (document true (start_tag (codes "frameset") [] ∷ End ∷ []))
    -- in frameset: parse error ignore: "<frameset>x"
    ∷ (document false (start_tag (codes "frameset") [] ∷ Text (codes "x") ∷ Text [] ∷ End ∷ []))
    -- after frameset: insert the character: "<frameset></frameset>\t"
    ∷ (document false (start_tag (codes "frameset") [] ∷ end_tag (codes "frameset") ∷ Text (codes "\t") ∷ Text [] ∷ End ∷ []))
    -- after frameset: insert a comment: "<frameset></frameset><!--c-->"
    ∷ (document true (start_tag (codes "frameset") [] ∷ end_tag (codes "frameset") ∷ Comment (codes "c") ∷ End ∷ []))
    -- after frameset: parse error ignore: "<frameset></frameset>\n\nx<!DOCTYPE html SYSTEM ''>"
    ∷ (document true (start_tag (codes "frameset") [] ∷ end_tag (codes "frameset") ∷ Text (codes "\n\nx") ∷ Doctype (record { name = (Some (codes "html")); public_id = None; system_id = (Some []); force_quirks = false }) ∷ End ∷ []))
    -- after frameset: using in body: "<frameset></frameset><html/>"
    ∷ (document false (start_tag (codes "frameset") [] ∷ end_tag (codes "frameset") ∷ closed_tag (codes "html") [] ∷ End ∷ []))
    -- after frameset: end html: "<frameset></frameset></html>"
    ∷ (document false (start_tag (codes "frameset") [] ∷ end_tag (codes "frameset") ∷ end_tag (codes "html") ∷ End ∷ []))
    -- after frameset: using in head: "<frameset></frameset><noframes class=1>"
    ∷ (document false (start_tag (codes "frameset") [] ∷ end_tag (codes "frameset") ∷ start_tag (codes "noframes") (attribute (codes "class") (codes "1") ∷ []) ∷ End ∷ []))
    ∷ []

trees_16 : List (List ℕ)
trees_16 =
    (codes "| <html>\n|   <head>\n|   <frameset>\n|     <frameset>\n")
    ∷ (codes "| <html>\n|   <head>\n|   <frameset>\n")
    ∷ (codes "| <html>\n|   <head>\n|   <frameset>\n|     <frame>\n")
    ∷ (codes "| <html>\n|   <head>\n|   <frameset>\n|     <noframes>\n")
    ∷ (codes "| <html>\n|   <head>\n|   <frameset>\n")
    ∷ (codes "| <html>\n|   <head>\n|   <frameset>\n")
    ∷ (codes "| <html>\n|   <head>\n|   <frameset>\n|   \"\t\"\n")
    ∷ (codes "| <html>\n|   <head>\n|   <frameset>\n|   <!-- c -->\n")
    ∷ (codes "| <html>\n|   <head>\n|   <frameset>\n|   \"\n\n\"\n")
    ∷ (codes "| <html>\n|   <head>\n|   <frameset>\n")
    ∷ (codes "| <html>\n|   <head>\n|   <frameset>\n")
    ∷ (codes "| <html>\n|   <head>\n|   <frameset>\n|   <noframes>\n|     class=\"1\"\n")
    ∷ []

built_16 : map shown_of rows_16 ≡ trees_16
unfolding rows_16 trees_16 adjusted_attributes adjusted_name adjusted_tag_name cased foreign_attributes math_attribute_names svg_attribute_names svg_tag_names added_after adopted ended_by entry_of furthest_block inner_loop nth_open opened_inside opened_outside outer_loop replaced process run start step told_all begins_with begins_with_one html_4_01_beginnings limited_quirks_beginnings means_limited_quirks means_quirks quirks_beginnings quirks_public_ids quirks_system_ids added_before built changed has_one_like lacking row_of tree_from without_node foreign_end are_among cleared count_after_marker count_alike has_attribute_like has_entry last_named reopened still_listed to_reopen with_entry without_earliest without_entry without_oldest item_met all_names breaks_out ends_scope ends_table_scope has_such is_among is_body_context is_formatting is_fostering is_implied is_implied_thoroughly is_listed is_row_context is_special kind_in kind_in_namespace kind_of may_stay_open namespace_of first_open foster_place_in has_in_scope has_open popped_to_first_in popped_until_in popped_while_in second_body without_open mode_of flushed_as_space flushed_fostered is_all_space mode_of_request reply_of value_of among attribute_lines comes_before indent shown shown_of sorted
built_16 = refl

rows_17 : List Case
rows_17 =
    -- after frameset: end of file: "<frameset></frameset>"
    (document true (start_tag (codes "frameset") [] ∷ end_tag (codes "frameset") ∷ End ∷ []))
    -- after frameset: parse error ignore: "<frameset></frameset>\n\nx"
    ∷ (document false (start_tag (codes "frameset") [] ∷ end_tag (codes "frameset") ∷ Text (codes "\n\nx") ∷ Text [] ∷ End ∷ []))
    -- after after body: insert a comment in the document: "x</html><!--c-->"
    ∷ (document true (Text (codes "x") ∷ end_tag (codes "html") ∷ Comment (codes "c") ∷ End ∷ []))
    -- after after body: using in body: "<!DOCTYPE html></html><!DOCTYPE html>"
    ∷ (document true (Doctype (record { name = (Some (codes "html")); public_id = None; system_id = None; force_quirks = false }) ∷ end_tag (codes "html") ∷ Doctype (record { name = (Some (codes "html")); public_id = None; system_id = None; force_quirks = false }) ∷ End ∷ []))
    -- after after body: after body whitespace: "</html> "
    ∷ (document false (end_tag (codes "html") ∷ Text (codes " ") ∷ Text [] ∷ End ∷ []))
    -- after after body: using in body: "</body></html><html></html>"
    ∷ (document false (end_tag (codes "body") ∷ end_tag (codes "html") ∷ start_tag (codes "html") [] ∷ end_tag (codes "html") ∷ End ∷ []))
    -- after after body: end of file: "</html>"
    ∷ (document false (end_tag (codes "html") ∷ End ∷ []))
    -- after after body: anything else: "</html>y"
    ∷ (document false (end_tag (codes "html") ∷ Text (codes "y") ∷ Text [] ∷ End ∷ []))
    -- after after frameset: insert a comment in the document: "<frameset></frameset></html><!--c--></p>"
    ∷ (document false (start_tag (codes "frameset") [] ∷ end_tag (codes "frameset") ∷ end_tag (codes "html") ∷ Comment (codes "c") ∷ end_tag (codes "p") ∷ End ∷ []))
    -- after after frameset: using in body: "<frameset></frameset></html><!DOCTYPE html>"
    ∷ (document false (start_tag (codes "frameset") [] ∷ end_tag (codes "frameset") ∷ end_tag (codes "html") ∷ Doctype (record { name = (Some (codes "html")); public_id = None; system_id = None; force_quirks = false }) ∷ End ∷ []))
    -- after after frameset: using in body: "<frameset></frameset></html>\n"
    ∷ (document false (start_tag (codes "frameset") [] ∷ end_tag (codes "frameset") ∷ end_tag (codes "html") ∷ Text (codes "\n") ∷ Text [] ∷ End ∷ []))
    -- after after frameset: using in body: "<frameset></frameset></html><html>"
    ∷ (document true (start_tag (codes "frameset") [] ∷ end_tag (codes "frameset") ∷ end_tag (codes "html") ∷ start_tag (codes "html") [] ∷ End ∷ []))
    ∷ []

trees_17 : List (List ℕ)
trees_17 =
    (codes "| <html>\n|   <head>\n|   <frameset>\n")
    ∷ (codes "| <html>\n|   <head>\n|   <frameset>\n|   \"\n\n\"\n")
    ∷ (codes "| <html>\n|   <head>\n|   <body>\n|     \"x\"\n| <!-- c -->\n")
    ∷ (codes "| <!DOCTYPE html>\n| <html>\n|   <head>\n|   <body>\n")
    ∷ (codes "| <html>\n|   <head>\n|   <body>\n|     \" \"\n")
    ∷ (codes "| <html>\n|   <head>\n|   <body>\n")
    ∷ (codes "| <html>\n|   <head>\n|   <body>\n")
    ∷ (codes "| <html>\n|   <head>\n|   <body>\n|     \"y\"\n")
    ∷ (codes "| <html>\n|   <head>\n|   <frameset>\n| <!-- c -->\n")
    ∷ (codes "| <html>\n|   <head>\n|   <frameset>\n")
    ∷ (codes "| <html>\n|   <head>\n|   <frameset>\n|   \"\n\"\n")
    ∷ (codes "| <html>\n|   <head>\n|   <frameset>\n")
    ∷ []

built_17 : map shown_of rows_17 ≡ trees_17
unfolding rows_17 trees_17 adjusted_attributes adjusted_name adjusted_tag_name cased foreign_attributes math_attribute_names svg_attribute_names svg_tag_names added_after adopted ended_by entry_of furthest_block inner_loop nth_open opened_inside opened_outside outer_loop replaced process run start step told_all begins_with begins_with_one html_4_01_beginnings limited_quirks_beginnings means_limited_quirks means_quirks quirks_beginnings quirks_public_ids quirks_system_ids added_before built changed has_one_like lacking row_of tree_from without_node foreign_end are_among cleared count_after_marker count_alike has_attribute_like has_entry last_named reopened still_listed to_reopen with_entry without_earliest without_entry without_oldest item_met all_names breaks_out ends_scope ends_table_scope has_such is_among is_body_context is_formatting is_fostering is_implied is_implied_thoroughly is_listed is_row_context is_special kind_in kind_in_namespace kind_of may_stay_open namespace_of first_open foster_place_in has_in_scope has_open popped_to_first_in popped_until_in popped_while_in second_body without_open mode_of flushed_as_space flushed_fostered is_all_space mode_of_request reply_of value_of among attribute_lines comes_before indent shown shown_of sorted
built_17 = refl

rows_18 : List Case
rows_18 =
    -- after after frameset: end of file: "<frameset></frameset></html>"
    (document false (start_tag (codes "frameset") [] ∷ end_tag (codes "frameset") ∷ end_tag (codes "html") ∷ End ∷ []))
    -- after after frameset: using in head: "<frameset></frameset></html><noframes><html>"
    ∷ (document true (start_tag (codes "frameset") [] ∷ end_tag (codes "frameset") ∷ end_tag (codes "html") ∷ start_tag (codes "noframes") [] ∷ Text (codes "<html>") ∷ Text [] ∷ End ∷ []))
    -- after after frameset: parse error ignore: "<frameset></frameset></html>y"
    ∷ (document true (start_tag (codes "frameset") [] ∷ end_tag (codes "frameset") ∷ end_tag (codes "html") ∷ Text (codes "y") ∷ Text [] ∷ End ∷ []))
    -- foreign content: null: "<!DOCTYPE html PUBLIC 'HTML'><svg><desc><svg>\u0000 "
    ∷ (document true (Doctype (record { name = (Some (codes "html")); public_id = (Some (codes "HTML")); system_id = None; force_quirks = false }) ∷ start_tag (codes "svg") [] ∷ start_tag (codes "desc") [] ∷ start_tag (codes "svg") [] ∷ Null ∷ Text (codes " ") ∷ Text [] ∷ End ∷ []))
    -- foreign content: insert the character: "<!DOCTYPE html><svg>\t"
    ∷ (document true (Doctype (record { name = (Some (codes "html")); public_id = None; system_id = None; force_quirks = false }) ∷ start_tag (codes "svg") [] ∷ Text (codes "\t") ∷ Text [] ∷ End ∷ []))
    -- foreign content: any other character: "<html class=1><svg>x"
    ∷ (document true (start_tag (codes "html") (attribute (codes "class") (codes "1") ∷ []) ∷ start_tag (codes "svg") [] ∷ Text (codes "x") ∷ Text [] ∷ End ∷ []))
    -- foreign content: insert a comment: "<math><mi><!--c-->"
    ∷ (document false (start_tag (codes "math") [] ∷ start_tag (codes "mi") [] ∷ Comment (codes "c") ∷ End ∷ []))
    -- foreign content: parse error ignore: "<!--c--><!DOCTYPE html><math><!DOCTYPE html>"
    ∷ (document true (Comment (codes "c") ∷ Doctype (record { name = (Some (codes "html")); public_id = None; system_id = None; force_quirks = false }) ∷ start_tag (codes "math") [] ∷ Doctype (record { name = (Some (codes "html")); public_id = None; system_id = None; force_quirks = false }) ∷ End ∷ []))
    -- foreign content: breakout: "<math><mi></p>"
    ∷ (document false (start_tag (codes "math") [] ∷ start_tag (codes "mi") [] ∷ end_tag (codes "p") ∷ End ∷ []))
    -- foreign content: any other start tag: "<svg><math>"
    ∷ (document false (start_tag (codes "svg") [] ∷ start_tag (codes "math") [] ∷ End ∷ []))
    -- foreign content: end script: "<!DOCTYPE html><svg><script></script><frameset><frameset><noframes></noframes>"
    ∷ (document false (Doctype (record { name = (Some (codes "html")); public_id = None; system_id = None; force_quirks = false }) ∷ start_tag (codes "svg") [] ∷ start_tag (codes "script") [] ∷ end_tag (codes "script") ∷ start_tag (codes "frameset") [] ∷ start_tag (codes "frameset") [] ∷ start_tag (codes "noframes") [] ∷ end_tag (codes "noframes") ∷ End ∷ []))
    -- foreign content: any other end tag: " <svg></svg>"
    ∷ (document false (Text (codes " ") ∷ start_tag (codes "svg") [] ∷ end_tag (codes "svg") ∷ End ∷ []))
    ∷ []

trees_18 : List (List ℕ)
trees_18 =
    (codes "| <html>\n|   <head>\n|   <frameset>\n")
    ∷ (codes "| <html>\n|   <head>\n|   <frameset>\n|   <noframes>\n|     \"<html>\"\n")
    ∷ (codes "| <html>\n|   <head>\n|   <frameset>\n")
    ∷ (124 ∷ 32 ∷ 60 ∷ 33 ∷ 68 ∷ 79 ∷ 67 ∷ 84 ∷ 89 ∷ 80 ∷ 69 ∷ 32 ∷ 104 ∷ 116 ∷ 109 ∷ 108 ∷ 32 ∷ 34 ∷ 72 ∷ 84 ∷ 77 ∷ 76 ∷ 34 ∷ 32 ∷ 34 ∷ 34 ∷ 62 ∷ 10 ∷ 124 ∷ 32 ∷ 60 ∷ 104 ∷ 116 ∷ 109 ∷ 108 ∷ 62 ∷ 10 ∷ 124 ∷ 32 ∷ 32 ∷ 32 ∷ 60 ∷ 104 ∷ 101 ∷ 97 ∷ 100 ∷ 62 ∷ 10 ∷ 124 ∷ 32 ∷ 32 ∷ 32 ∷ 60 ∷ 98 ∷ 111 ∷ 100 ∷ 121 ∷ 62 ∷ 10 ∷ 124 ∷ 32 ∷ 32 ∷ 32 ∷ 32 ∷ 32 ∷ 60 ∷ 115 ∷ 118 ∷ 103 ∷ 32 ∷ 115 ∷ 118 ∷ 103 ∷ 62 ∷ 10 ∷ 124 ∷ 32 ∷ 32 ∷ 32 ∷ 32 ∷ 32 ∷ 32 ∷ 32 ∷ 60 ∷ 115 ∷ 118 ∷ 103 ∷ 32 ∷ 100 ∷ 101 ∷ 115 ∷ 99 ∷ 62 ∷ 10 ∷ 124 ∷ 32 ∷ 32 ∷ 32 ∷ 32 ∷ 32 ∷ 32 ∷ 32 ∷ 32 ∷ 32 ∷ 60 ∷ 115 ∷ 118 ∷ 103 ∷ 32 ∷ 115 ∷ 118 ∷ 103 ∷ 62 ∷ 10 ∷ 124 ∷ 32 ∷ 32 ∷ 32 ∷ 32 ∷ 32 ∷ 32 ∷ 32 ∷ 32 ∷ 32 ∷ 32 ∷ 32 ∷ 34 ∷ 239 ∷ 191 ∷ 189 ∷ 32 ∷ 34 ∷ 10 ∷ [])
    ∷ (codes "| <!DOCTYPE html>\n| <html>\n|   <head>\n|   <body>\n|     <svg svg>\n|       \"\t\"\n")
    ∷ (codes "| <html>\n|   class=\"1\"\n|   <head>\n|   <body>\n|     <svg svg>\n|       \"x\"\n")
    ∷ (codes "| <html>\n|   <head>\n|   <body>\n|     <math math>\n|       <math mi>\n|         <!-- c -->\n")
    ∷ (codes "| <!-- c -->\n| <!DOCTYPE html>\n| <html>\n|   <head>\n|   <body>\n|     <math math>\n")
    ∷ (codes "| <html>\n|   <head>\n|   <body>\n|     <math math>\n|       <math mi>\n|         <p>\n")
    ∷ (codes "| <html>\n|   <head>\n|   <body>\n|     <svg svg>\n|       <svg math>\n")
    ∷ (codes "| <!DOCTYPE html>\n| <html>\n|   <head>\n|   <body>\n|     <svg svg>\n|       <svg script>\n|       <svg frameset>\n|         <svg frameset>\n|           <svg noframes>\n")
    ∷ (codes "| <html>\n|   <head>\n|   <body>\n|     <svg svg>\n")
    ∷ []

built_18 : map shown_of rows_18 ≡ trees_18
unfolding rows_18 trees_18 adjusted_attributes adjusted_name adjusted_tag_name cased foreign_attributes math_attribute_names svg_attribute_names svg_tag_names added_after adopted ended_by entry_of furthest_block inner_loop nth_open opened_inside opened_outside outer_loop replaced process run start step told_all begins_with begins_with_one html_4_01_beginnings limited_quirks_beginnings means_limited_quirks means_quirks quirks_beginnings quirks_public_ids quirks_system_ids added_before built changed has_one_like lacking row_of tree_from without_node foreign_end are_among cleared count_after_marker count_alike has_attribute_like has_entry last_named reopened still_listed to_reopen with_entry without_earliest without_entry without_oldest item_met all_names breaks_out ends_scope ends_table_scope has_such is_among is_body_context is_formatting is_fostering is_implied is_implied_thoroughly is_listed is_row_context is_special kind_in kind_in_namespace kind_of may_stay_open namespace_of first_open foster_place_in has_in_scope has_open popped_to_first_in popped_until_in popped_while_in second_body without_open mode_of flushed_as_space flushed_fostered is_all_space mode_of_request reply_of value_of among attribute_lines comes_before indent shown shown_of sorted
built_18 = refl

rows_19 : List Case
rows_19 =
    -- initial: ignore: "\t<rt>"
    (document false (Text (codes "\t") ∷ start_tag (codes "rt") [] ∷ End ∷ []))
    -- initial: ignore: " \r\ny"
    ∷ (document true (Text (codes " \ny") ∷ Text [] ∷ End ∷ []))
    -- initial: ignore: " z z"
    ∷ (document true (Text (codes " z z") ∷ Text [] ∷ End ∷ []))
    -- initial: insert a comment in the document: "<!--c-->\r\n</tr>"
    ∷ (document true (Comment (codes "c") ∷ Text (codes "\n") ∷ end_tag (codes "tr") ∷ End ∷ []))
    -- initial: insert a comment in the document: "<!--c--></tr> x"
    ∷ (document false (Comment (codes "c") ∷ end_tag (codes "tr") ∷ Text (codes " x") ∷ Text [] ∷ End ∷ []))
    -- initial: insert a comment in the document: "<!--c--><frame>"
    ∷ (document true (Comment (codes "c") ∷ start_tag (codes "frame") [] ∷ End ∷ []))
    -- initial: doctype: "<!DOCTYPE x> x"
    ∷ (document false (Doctype (record { name = (Some (codes "x")); public_id = None; system_id = None; force_quirks = false }) ∷ Text (codes " x") ∷ Text [] ∷ End ∷ []))
    -- initial: doctype: "<!DOCTYPE x>\f"
    ∷ (document false (Doctype (record { name = (Some (codes "x")); public_id = None; system_id = None; force_quirks = false }) ∷ Text (12 ∷ []) ∷ Text [] ∷ End ∷ []))
    -- initial: doctype: "<!DOCTYPE x>x"
    ∷ (document false (Doctype (record { name = (Some (codes "x")); public_id = None; system_id = None; force_quirks = false }) ∷ Text (codes "x") ∷ Text [] ∷ End ∷ []))
    -- initial: anything else: "\u0000 "
    ∷ (document false (Null ∷ Text (codes " ") ∷ Text [] ∷ End ∷ []))
    -- initial: anything else: "\r\n"
    ∷ (document false (Text (codes "\n") ∷ Text [] ∷ End ∷ []))
    -- initial: anything else: " \f"
    ∷ (document false (Text (32 ∷ 12 ∷ []) ∷ Text [] ∷ End ∷ []))
    ∷ []

trees_19 : List (List ℕ)
trees_19 =
    (codes "| <html>\n|   <head>\n|   <body>\n|     <rt>\n")
    ∷ (codes "| <html>\n|   <head>\n|   <body>\n|     \"y\"\n")
    ∷ (codes "| <html>\n|   <head>\n|   <body>\n|     \"z z\"\n")
    ∷ (codes "| <!-- c -->\n| <html>\n|   <head>\n|   <body>\n")
    ∷ (codes "| <!-- c -->\n| <html>\n|   <head>\n|   <body>\n|     \"x\"\n")
    ∷ (codes "| <!-- c -->\n| <html>\n|   <head>\n|   <body>\n")
    ∷ (codes "| <!DOCTYPE x>\n| <html>\n|   <head>\n|   <body>\n|     \"x\"\n")
    ∷ (codes "| <!DOCTYPE x>\n| <html>\n|   <head>\n|   <body>\n")
    ∷ (codes "| <!DOCTYPE x>\n| <html>\n|   <head>\n|   <body>\n|     \"x\"\n")
    ∷ (codes "| <html>\n|   <head>\n|   <body>\n|     \" \"\n")
    ∷ (codes "| <html>\n|   <head>\n|   <body>\n")
    ∷ (codes "| <html>\n|   <head>\n|   <body>\n")
    ∷ []

built_19 : map shown_of rows_19 ≡ trees_19
unfolding rows_19 trees_19 adjusted_attributes adjusted_name adjusted_tag_name cased foreign_attributes math_attribute_names svg_attribute_names svg_tag_names added_after adopted ended_by entry_of furthest_block inner_loop nth_open opened_inside opened_outside outer_loop replaced process run start step told_all begins_with begins_with_one html_4_01_beginnings limited_quirks_beginnings means_limited_quirks means_quirks quirks_beginnings quirks_public_ids quirks_system_ids added_before built changed has_one_like lacking row_of tree_from without_node foreign_end are_among cleared count_after_marker count_alike has_attribute_like has_entry last_named reopened still_listed to_reopen with_entry without_earliest without_entry without_oldest item_met all_names breaks_out ends_scope ends_table_scope has_such is_among is_body_context is_formatting is_fostering is_implied is_implied_thoroughly is_listed is_row_context is_special kind_in kind_in_namespace kind_of may_stay_open namespace_of first_open foster_place_in has_in_scope has_open popped_to_first_in popped_until_in popped_while_in second_body without_open mode_of flushed_as_space flushed_fostered is_all_space mode_of_request reply_of value_of among attribute_lines comes_before indent shown shown_of sorted
built_19 = refl

rows_20 : List Case
rows_20 =
    -- before html: parse error ignore: "<!DOCTYPE html PUBLIC 'HTML'><!DOCTYPE html>"
    (document false (Doctype (record { name = (Some (codes "html")); public_id = (Some (codes "HTML")); system_id = None; force_quirks = false }) ∷ Doctype (record { name = (Some (codes "html")); public_id = None; system_id = None; force_quirks = false }) ∷ End ∷ []))
    -- before html: parse error ignore: "<!DOCTYPE html><!DOCTYPE html><a class=1>"
    ∷ (document false (Doctype (record { name = (Some (codes "html")); public_id = None; system_id = None; force_quirks = false }) ∷ Doctype (record { name = (Some (codes "html")); public_id = None; system_id = None; force_quirks = false }) ∷ start_tag (codes "a") (attribute (codes "class") (codes "1") ∷ []) ∷ End ∷ []))
    -- before html: parse error ignore: "<!DOCTYPE><!DOCTYPE html><lineargradient>"
    ∷ (document false (Doctype (record { name = None; public_id = None; system_id = None; force_quirks = true }) ∷ Doctype (record { name = (Some (codes "html")); public_id = None; system_id = None; force_quirks = false }) ∷ start_tag (codes "lineargradient") [] ∷ End ∷ []))
    -- before html: insert a comment in the document: "<!DOCTYPE html><!--c-->"
    ∷ (document true (Doctype (record { name = (Some (codes "html")); public_id = None; system_id = None; force_quirks = false }) ∷ Comment (codes "c") ∷ End ∷ []))
    -- before html: insert a comment in the document: "<!DOCTYPE></th><!--c-->"
    ∷ (document true (Doctype (record { name = None; public_id = None; system_id = None; force_quirks = true }) ∷ end_tag (codes "th") ∷ Comment (codes "c") ∷ End ∷ []))
    -- before html: insert a comment in the document: "<!DOCTYPE html><?pi?>"
    ∷ (document false (Doctype (record { name = (Some (codes "html")); public_id = None; system_id = None; force_quirks = false }) ∷ Instruction (codes "pi?") ∷ End ∷ []))
    -- before html: ignore: "<!DOCTYPE>\n x"
    ∷ (document true (Doctype (record { name = None; public_id = None; system_id = None; force_quirks = true }) ∷ Text (codes "\n x") ∷ Text [] ∷ End ∷ []))
    -- before html: ignore: "<!DOCTYPE>  "
    ∷ (document false (Doctype (record { name = None; public_id = None; system_id = None; force_quirks = true }) ∷ Text (codes "  ") ∷ Text [] ∷ End ∷ []))
    -- before html: ignore: "<!DOCTYPE> x"
    ∷ (document false (Doctype (record { name = None; public_id = None; system_id = None; force_quirks = true }) ∷ Text (codes " x") ∷ Text [] ∷ End ∷ []))
    -- before html: start html: "<html>\n\nx</div>"
    ∷ (document true (start_tag (codes "html") [] ∷ Text (codes "\n\nx") ∷ end_tag (codes "div") ∷ End ∷ []))
    -- before html: start html: "<html><!--c-->"
    ∷ (document true (start_tag (codes "html") [] ∷ Comment (codes "c") ∷ End ∷ []))
    -- before html: start html: " <html></h1>"
    ∷ (document false (Text (codes " ") ∷ start_tag (codes "html") [] ∷ end_tag (codes "h1") ∷ End ∷ []))
    ∷ []

trees_20 : List (List ℕ)
trees_20 =
    (codes "| <!DOCTYPE html \"HTML\" \"\">\n| <html>\n|   <head>\n|   <body>\n")
    ∷ (codes "| <!DOCTYPE html>\n| <html>\n|   <head>\n|   <body>\n|     <a>\n|       class=\"1\"\n")
    ∷ (codes "| <!DOCTYPE >\n| <html>\n|   <head>\n|   <body>\n|     <lineargradient>\n")
    ∷ (codes "| <!DOCTYPE html>\n| <!-- c -->\n| <html>\n|   <head>\n|   <body>\n")
    ∷ (codes "| <!DOCTYPE >\n| <!-- c -->\n| <html>\n|   <head>\n|   <body>\n")
    ∷ (codes "| <!DOCTYPE html>\n| <!-- ?pi? -->\n| <html>\n|   <head>\n|   <body>\n")
    ∷ (codes "| <!DOCTYPE >\n| <html>\n|   <head>\n|   <body>\n|     \"x\"\n")
    ∷ (codes "| <!DOCTYPE >\n| <html>\n|   <head>\n|   <body>\n")
    ∷ (codes "| <!DOCTYPE >\n| <html>\n|   <head>\n|   <body>\n|     \"x\"\n")
    ∷ (codes "| <html>\n|   <head>\n|   <body>\n|     \"x\"\n")
    ∷ (codes "| <html>\n|   <!-- c -->\n|   <head>\n|   <body>\n")
    ∷ (codes "| <html>\n|   <head>\n|   <body>\n")
    ∷ []

built_20 : map shown_of rows_20 ≡ trees_20
unfolding rows_20 trees_20 adjusted_attributes adjusted_name adjusted_tag_name cased foreign_attributes math_attribute_names svg_attribute_names svg_tag_names added_after adopted ended_by entry_of furthest_block inner_loop nth_open opened_inside opened_outside outer_loop replaced process run start step told_all begins_with begins_with_one html_4_01_beginnings limited_quirks_beginnings means_limited_quirks means_quirks quirks_beginnings quirks_public_ids quirks_system_ids added_before built changed has_one_like lacking row_of tree_from without_node foreign_end are_among cleared count_after_marker count_alike has_attribute_like has_entry last_named reopened still_listed to_reopen with_entry without_earliest without_entry without_oldest item_met all_names breaks_out ends_scope ends_table_scope has_such is_among is_body_context is_formatting is_fostering is_implied is_implied_thoroughly is_listed is_row_context is_special kind_in kind_in_namespace kind_of may_stay_open namespace_of first_open foster_place_in has_in_scope has_open popped_to_first_in popped_until_in popped_while_in second_body without_open mode_of flushed_as_space flushed_fostered is_all_space mode_of_request reply_of value_of among attribute_lines comes_before indent shown shown_of sorted
built_20 = refl

rows_21 : List Case
rows_21 =
    -- before html: end head body html br: "<!--c--></br>"
    (document true (Comment (codes "c") ∷ end_tag (codes "br") ∷ End ∷ []))
    -- before html: end head body html br: "</html></pre>"
    ∷ (document false (end_tag (codes "html") ∷ end_tag (codes "pre") ∷ End ∷ []))
    -- before html: end head body html br: "</html><desc>"
    ∷ (document false (end_tag (codes "html") ∷ start_tag (codes "desc") [] ∷ End ∷ []))
    -- before html: parse error ignore: " </u>"
    ∷ (document true (Text (codes " ") ∷ end_tag (codes "u") ∷ End ∷ []))
    -- before html: parse error ignore: "</a> "
    ∷ (document false (end_tag (codes "a") ∷ Text (codes " ") ∷ Text [] ∷ End ∷ []))
    -- before html: parse error ignore: "</a>x"
    ∷ (document true (end_tag (codes "a") ∷ Text (codes "x") ∷ Text [] ∷ End ∷ []))
    -- before html: anything else: " x"
    ∷ (document false (Text (codes " x") ∷ Text [] ∷ End ∷ []))
    -- before html: anything else: "x "
    ∷ (document true (Text (codes "x ") ∷ Text [] ∷ End ∷ []))
    -- before html: anything else: "\u0000"
    ∷ (document false (Null ∷ End ∷ []))
    -- before head: ignore: "<!DOCTYPE html PUBLIC><html>\f"
    ∷ (document false (Doctype (record { name = (Some (codes "html")); public_id = None; system_id = None; force_quirks = true }) ∷ start_tag (codes "html") [] ∷ Text (12 ∷ []) ∷ Text [] ∷ End ∷ []))
    -- before head: ignore: "<!DOCTYPE x><html class=1> "
    ∷ (document true (Doctype (record { name = (Some (codes "x")); public_id = None; system_id = None; force_quirks = false }) ∷ start_tag (codes "html") (attribute (codes "class") (codes "1") ∷ []) ∷ Text (codes " ") ∷ Text [] ∷ End ∷ []))
    -- before head: ignore: "<html>\r\n</html><big/></big>"
    ∷ (document true (start_tag (codes "html") [] ∷ Text (codes "\n") ∷ end_tag (codes "html") ∷ closed_tag (codes "big") [] ∷ end_tag (codes "big") ∷ End ∷ []))
    ∷ []

trees_21 : List (List ℕ)
trees_21 =
    (codes "| <!-- c -->\n| <html>\n|   <head>\n|   <body>\n|     <br>\n")
    ∷ (codes "| <html>\n|   <head>\n|   <body>\n")
    ∷ (codes "| <html>\n|   <head>\n|   <body>\n|     <desc>\n")
    ∷ (codes "| <html>\n|   <head>\n|   <body>\n")
    ∷ (codes "| <html>\n|   <head>\n|   <body>\n")
    ∷ (codes "| <html>\n|   <head>\n|   <body>\n|     \"x\"\n")
    ∷ (codes "| <html>\n|   <head>\n|   <body>\n|     \"x\"\n")
    ∷ (codes "| <html>\n|   <head>\n|   <body>\n|     \"x \"\n")
    ∷ (codes "| <html>\n|   <head>\n|   <body>\n")
    ∷ (codes "| <!DOCTYPE html>\n| <html>\n|   <head>\n|   <body>\n")
    ∷ (codes "| <!DOCTYPE x>\n| <html>\n|   class=\"1\"\n|   <head>\n|   <body>\n")
    ∷ (codes "| <html>\n|   <head>\n|   <body>\n|     <big>\n")
    ∷ []

built_21 : map shown_of rows_21 ≡ trees_21
unfolding rows_21 trees_21 adjusted_attributes adjusted_name adjusted_tag_name cased foreign_attributes math_attribute_names svg_attribute_names svg_tag_names added_after adopted ended_by entry_of furthest_block inner_loop nth_open opened_inside opened_outside outer_loop replaced process run start step told_all begins_with begins_with_one html_4_01_beginnings limited_quirks_beginnings means_limited_quirks means_quirks quirks_beginnings quirks_public_ids quirks_system_ids added_before built changed has_one_like lacking row_of tree_from without_node foreign_end are_among cleared count_after_marker count_alike has_attribute_like has_entry last_named reopened still_listed to_reopen with_entry without_earliest without_entry without_oldest item_met all_names breaks_out ends_scope ends_table_scope has_such is_among is_body_context is_formatting is_fostering is_implied is_implied_thoroughly is_listed is_row_context is_special kind_in kind_in_namespace kind_of may_stay_open namespace_of first_open foster_place_in has_in_scope has_open popped_to_first_in popped_until_in popped_while_in second_body without_open mode_of flushed_as_space flushed_fostered is_all_space mode_of_request reply_of value_of among attribute_lines comes_before indent shown shown_of sorted
built_21 = refl

rows_22 : List Case
rows_22 =
    -- before head: insert a comment: "<!--c--><!DOCTYPE html><html class=1><![CDATA[<p>]]>"
    (document false (Comment (codes "c") ∷ Doctype (record { name = (Some (codes "html")); public_id = None; system_id = None; force_quirks = false }) ∷ start_tag (codes "html") (attribute (codes "class") (codes "1") ∷ []) ∷ Comment (codes "[CDATA[<p") ∷ Text (codes "]]>") ∷ Text [] ∷ End ∷ []))
    -- before head: insert a comment: "<!DOCTYPE html><html></bgsound><!--c--></meta>"
    ∷ (document false (Doctype (record { name = (Some (codes "html")); public_id = None; system_id = None; force_quirks = false }) ∷ start_tag (codes "html") [] ∷ end_tag (codes "bgsound") ∷ Comment (codes "c") ∷ end_tag (codes "meta") ∷ End ∷ []))
    -- before head: insert a comment: "<!DOCTYPE html><html class=1><!--c--></frame>"
    ∷ (document true (Doctype (record { name = (Some (codes "html")); public_id = None; system_id = None; force_quirks = false }) ∷ start_tag (codes "html") (attribute (codes "class") (codes "1") ∷ []) ∷ Comment (codes "c") ∷ end_tag (codes "frame") ∷ End ∷ []))
    -- before head: parse error ignore: "<!doctype HTML SYSTEM 'about:legacy-compat'>\n<html><!DOCTYPE html></html><fedropshadow class=2>"
    ∷ (document false (Doctype (record { name = (Some (codes "html")); public_id = None; system_id = (Some (codes "about:legacy-compat")); force_quirks = false }) ∷ Text (codes "\n") ∷ start_tag (codes "html") [] ∷ Doctype (record { name = (Some (codes "html")); public_id = None; system_id = None; force_quirks = false }) ∷ end_tag (codes "html") ∷ start_tag (codes "fedropshadow") (attribute (codes "class") (codes "2") ∷ []) ∷ End ∷ []))
    -- before head: parse error ignore: "<!DOCTYPE html PUBLIC 'HTML'><html class=1><!DOCTYPE html></table><i></i></i>\n\nx</table>x "
    ∷ (document false (Doctype (record { name = (Some (codes "html")); public_id = (Some (codes "HTML")); system_id = None; force_quirks = false }) ∷ start_tag (codes "html") (attribute (codes "class") (codes "1") ∷ []) ∷ Doctype (record { name = (Some (codes "html")); public_id = None; system_id = None; force_quirks = false }) ∷ end_tag (codes "table") ∷ start_tag (codes "i") [] ∷ end_tag (codes "i") ∷ end_tag (codes "i") ∷ Text (codes "\n\nx") ∷ end_tag (codes "table") ∷ Text (codes "x ") ∷ Text [] ∷ End ∷ []))
    -- before head: parse error ignore: "<html class=1><!DOCTYPE html><applet class=1>"
    ∷ (document false (start_tag (codes "html") (attribute (codes "class") (codes "1") ∷ []) ∷ Doctype (record { name = (Some (codes "html")); public_id = None; system_id = None; force_quirks = false }) ∷ start_tag (codes "applet") (attribute (codes "class") (codes "1") ∷ []) ∷ End ∷ []))
    -- before head: start head: "<head>\t</table>"
    ∷ (document false (start_tag (codes "head") [] ∷ Text (codes "\t") ∷ end_tag (codes "table") ∷ End ∷ []))
    -- before head: start head: "<head></head> x"
    ∷ (document true (start_tag (codes "head") [] ∷ end_tag (codes "head") ∷ Text (codes " x") ∷ Text [] ∷ End ∷ []))
    -- before head: start head: "<head></mi><mi>"
    ∷ (document true (start_tag (codes "head") [] ∷ end_tag (codes "mi") ∷ start_tag (codes "mi") [] ∷ End ∷ []))
    -- before head: end head body html br: "</html><html>"
    ∷ (document false (end_tag (codes "html") ∷ start_tag (codes "html") [] ∷ End ∷ []))
    -- before head: end head body html br: "</html>x</em>"
    ∷ (document true (end_tag (codes "html") ∷ Text (codes "x") ∷ end_tag (codes "em") ∷ End ∷ []))
    -- before head: end head body html br: "</html></hr>"
    ∷ (document false (end_tag (codes "html") ∷ end_tag (codes "hr") ∷ End ∷ []))
    ∷ []

trees_22 : List (List ℕ)
trees_22 =
    (codes "| <!-- c -->\n| <!DOCTYPE html>\n| <html>\n|   class=\"1\"\n|   <!-- [CDATA[<p -->\n|   <head>\n|   <body>\n|     \"]]>\"\n")
    ∷ (codes "| <!DOCTYPE html>\n| <html>\n|   <!-- c -->\n|   <head>\n|   <body>\n")
    ∷ (codes "| <!DOCTYPE html>\n| <html>\n|   class=\"1\"\n|   <!-- c -->\n|   <head>\n|   <body>\n")
    ∷ (codes "| <!DOCTYPE html \"\" \"about:legacy-compat\">\n| <html>\n|   <head>\n|   <body>\n|     <fedropshadow>\n|       class=\"2\"\n")
    ∷ (codes "| <!DOCTYPE html \"HTML\" \"\">\n| <html>\n|   class=\"1\"\n|   <head>\n|   <body>\n|     <i>\n|     \"\n\nxx \"\n")
    ∷ (codes "| <html>\n|   class=\"1\"\n|   <head>\n|   <body>\n|     <applet>\n|       class=\"1\"\n")
    ∷ (codes "| <html>\n|   <head>\n|     \"\t\"\n|   <body>\n")
    ∷ (codes "| <html>\n|   <head>\n|   \" \"\n|   <body>\n|     \"x\"\n")
    ∷ (codes "| <html>\n|   <head>\n|   <body>\n|     <mi>\n")
    ∷ (codes "| <html>\n|   <head>\n|   <body>\n")
    ∷ (codes "| <html>\n|   <head>\n|   <body>\n|     \"x\"\n")
    ∷ (codes "| <html>\n|   <head>\n|   <body>\n")
    ∷ []

built_22 : map shown_of rows_22 ≡ trees_22
unfolding rows_22 trees_22 adjusted_attributes adjusted_name adjusted_tag_name cased foreign_attributes math_attribute_names svg_attribute_names svg_tag_names added_after adopted ended_by entry_of furthest_block inner_loop nth_open opened_inside opened_outside outer_loop replaced process run start step told_all begins_with begins_with_one html_4_01_beginnings limited_quirks_beginnings means_limited_quirks means_quirks quirks_beginnings quirks_public_ids quirks_system_ids added_before built changed has_one_like lacking row_of tree_from without_node foreign_end are_among cleared count_after_marker count_alike has_attribute_like has_entry last_named reopened still_listed to_reopen with_entry without_earliest without_entry without_oldest item_met all_names breaks_out ends_scope ends_table_scope has_such is_among is_body_context is_formatting is_fostering is_implied is_implied_thoroughly is_listed is_row_context is_special kind_in kind_in_namespace kind_of may_stay_open namespace_of first_open foster_place_in has_in_scope has_open popped_to_first_in popped_until_in popped_while_in second_body without_open mode_of flushed_as_space flushed_fostered is_all_space mode_of_request reply_of value_of among attribute_lines comes_before indent shown shown_of sorted
built_22 = refl

rows_23 : List Case
rows_23 =
    -- before head: parse error ignore: "<!DOCTYPE><html></h1>"
    (document true (Doctype (record { name = None; public_id = None; system_id = None; force_quirks = true }) ∷ start_tag (codes "html") [] ∷ end_tag (codes "h1") ∷ End ∷ []))
    -- before head: parse error ignore: "<html class=1></div>"
    ∷ (document false (start_tag (codes "html") (attribute (codes "class") (codes "1") ∷ []) ∷ end_tag (codes "div") ∷ End ∷ []))
    -- before head: parse error ignore: "<html class=1></tr>"
    ∷ (document true (start_tag (codes "html") (attribute (codes "class") (codes "1") ∷ []) ∷ end_tag (codes "tr") ∷ End ∷ []))
    -- before head: anything else: "\t"
    ∷ (document true (Text (codes "\t") ∷ Text [] ∷ End ∷ []))
    -- before head: anything else: "\n"
    ∷ (document false (Text (codes "\n") ∷ Text [] ∷ End ∷ []))
    -- before head: anything else: "\f"
    ∷ (document false (Text (12 ∷ []) ∷ Text [] ∷ End ∷ []))
    -- in head: insert the character: "<!DOCTYPE html><head> </canvas><thead>"
    ∷ (document true (Doctype (record { name = (Some (codes "html")); public_id = None; system_id = None; force_quirks = false }) ∷ start_tag (codes "head") [] ∷ Text (codes " ") ∷ end_tag (codes "canvas") ∷ start_tag (codes "thead") [] ∷ End ∷ []))
    -- in head: insert the character: "<!DOCTYPE html><head></template>\f\u0000 x"
    ∷ (document true (Doctype (record { name = (Some (codes "html")); public_id = None; system_id = None; force_quirks = false }) ∷ start_tag (codes "head") [] ∷ end_tag (codes "template") ∷ Text (12 ∷ []) ∷ Null ∷ Text (codes " x") ∷ Text [] ∷ End ∷ []))
    -- in head: insert the character: "<!--c--><head><head><head>\n</head>"
    ∷ (document false (Comment (codes "c") ∷ start_tag (codes "head") [] ∷ start_tag (codes "head") [] ∷ start_tag (codes "head") [] ∷ Text (codes "\n") ∷ end_tag (codes "head") ∷ End ∷ []))
    -- in head: insert a comment: "<!DOCTYPE html></marquee><style class=1 id=a></style><![CDATA[<p>]]>"
    ∷ (document true (Doctype (record { name = (Some (codes "html")); public_id = None; system_id = None; force_quirks = false }) ∷ end_tag (codes "marquee") ∷ start_tag (codes "style") (attribute (codes "class") (codes "1") ∷ attribute (codes "id") (codes "a") ∷ []) ∷ end_tag (codes "style") ∷ Comment (codes "[CDATA[<p") ∷ Text (codes "]]>") ∷ Text [] ∷ End ∷ []))
    -- in head: insert a comment: "<!DOCTYPE html><base><!--c--><base definitionurl=u viewbox=v>"
    ∷ (document true (Doctype (record { name = (Some (codes "html")); public_id = None; system_id = None; force_quirks = false }) ∷ start_tag (codes "base") [] ∷ Comment (codes "c") ∷ start_tag (codes "base") (attribute (codes "definitionurl") (codes "u") ∷ attribute (codes "viewbox") (codes "v") ∷ []) ∷ End ∷ []))
    -- in head: insert a comment: "<!DOCTYPE html><head><meta></fieldset></meta><![CDATA[<p>]]>"
    ∷ (document false (Doctype (record { name = (Some (codes "html")); public_id = None; system_id = None; force_quirks = false }) ∷ start_tag (codes "head") [] ∷ start_tag (codes "meta") [] ∷ end_tag (codes "fieldset") ∷ end_tag (codes "meta") ∷ Comment (codes "[CDATA[<p") ∷ Text (codes "]]>") ∷ Text [] ∷ End ∷ []))
    ∷ []

trees_23 : List (List ℕ)
trees_23 =
    (codes "| <!DOCTYPE >\n| <html>\n|   <head>\n|   <body>\n")
    ∷ (codes "| <html>\n|   class=\"1\"\n|   <head>\n|   <body>\n")
    ∷ (codes "| <html>\n|   class=\"1\"\n|   <head>\n|   <body>\n")
    ∷ (codes "| <html>\n|   <head>\n|   <body>\n")
    ∷ (codes "| <html>\n|   <head>\n|   <body>\n")
    ∷ (codes "| <html>\n|   <head>\n|   <body>\n")
    ∷ (codes "| <!DOCTYPE html>\n| <html>\n|   <head>\n|     \" \"\n|   <body>\n")
    ∷ (124 ∷ 32 ∷ 60 ∷ 33 ∷ 68 ∷ 79 ∷ 67 ∷ 84 ∷ 89 ∷ 80 ∷ 69 ∷ 32 ∷ 104 ∷ 116 ∷ 109 ∷ 108 ∷ 62 ∷ 10 ∷ 124 ∷ 32 ∷ 60 ∷ 104 ∷ 116 ∷ 109 ∷ 108 ∷ 62 ∷ 10 ∷ 124 ∷ 32 ∷ 32 ∷ 32 ∷ 60 ∷ 104 ∷ 101 ∷ 97 ∷ 100 ∷ 62 ∷ 10 ∷ 124 ∷ 32 ∷ 32 ∷ 32 ∷ 32 ∷ 32 ∷ 34 ∷ 12 ∷ 34 ∷ 10 ∷ 124 ∷ 32 ∷ 32 ∷ 32 ∷ 60 ∷ 98 ∷ 111 ∷ 100 ∷ 121 ∷ 62 ∷ 10 ∷ 124 ∷ 32 ∷ 32 ∷ 32 ∷ 32 ∷ 32 ∷ 34 ∷ 32 ∷ 120 ∷ 34 ∷ 10 ∷ [])
    ∷ (codes "| <!-- c -->\n| <html>\n|   <head>\n|     \"\n\"\n|   <body>\n")
    ∷ (codes "| <!DOCTYPE html>\n| <html>\n|   <head>\n|     <style>\n|       class=\"1\"\n|       id=\"a\"\n|     <!-- [CDATA[<p -->\n|   <body>\n|     \"]]>\"\n")
    ∷ (codes "| <!DOCTYPE html>\n| <html>\n|   <head>\n|     <base>\n|     <!-- c -->\n|     <base>\n|       definitionurl=\"u\"\n|       viewbox=\"v\"\n|   <body>\n")
    ∷ (codes "| <!DOCTYPE html>\n| <html>\n|   <head>\n|     <meta>\n|     <!-- [CDATA[<p -->\n|   <body>\n|     \"]]>\"\n")
    ∷ []

built_23 : map shown_of rows_23 ≡ trees_23
unfolding rows_23 trees_23 adjusted_attributes adjusted_name adjusted_tag_name cased foreign_attributes math_attribute_names svg_attribute_names svg_tag_names added_after adopted ended_by entry_of furthest_block inner_loop nth_open opened_inside opened_outside outer_loop replaced process run start step told_all begins_with begins_with_one html_4_01_beginnings limited_quirks_beginnings means_limited_quirks means_quirks quirks_beginnings quirks_public_ids quirks_system_ids added_before built changed has_one_like lacking row_of tree_from without_node foreign_end are_among cleared count_after_marker count_alike has_attribute_like has_entry last_named reopened still_listed to_reopen with_entry without_earliest without_entry without_oldest item_met all_names breaks_out ends_scope ends_table_scope has_such is_among is_body_context is_formatting is_fostering is_implied is_implied_thoroughly is_listed is_row_context is_special kind_in kind_in_namespace kind_of may_stay_open namespace_of first_open foster_place_in has_in_scope has_open popped_to_first_in popped_until_in popped_while_in second_body without_open mode_of flushed_as_space flushed_fostered is_all_space mode_of_request reply_of value_of among attribute_lines comes_before indent shown shown_of sorted
built_23 = refl

rows_24 : List Case
rows_24 =
    -- in head: parse error ignore: "<!DOCTYPE html SYSTEM ''><head></small><!DOCTYPE html><small><picture>"
    (document false (Doctype (record { name = (Some (codes "html")); public_id = None; system_id = (Some []); force_quirks = false }) ∷ start_tag (codes "head") [] ∷ end_tag (codes "small") ∷ Doctype (record { name = (Some (codes "html")); public_id = None; system_id = None; force_quirks = false }) ∷ start_tag (codes "small") [] ∷ start_tag (codes "picture") [] ∷ End ∷ []))
    -- in head: parse error ignore: "<head></base></base><!DOCTYPE html PUBLIC 'HTML'>"
    ∷ (document false (start_tag (codes "head") [] ∷ end_tag (codes "base") ∷ end_tag (codes "base") ∷ Doctype (record { name = (Some (codes "html")); public_id = (Some (codes "HTML")); system_id = None; force_quirks = false }) ∷ End ∷ []))
    -- in head: using in body: "<!DOCTYPE html><head><script xmlns=u xmlns:xlink=w><title></title></script></datalist><html></html>"
    ∷ (document true (Doctype (record { name = (Some (codes "html")); public_id = None; system_id = None; force_quirks = false }) ∷ start_tag (codes "head") [] ∷ start_tag (codes "script") (attribute (codes "xmlns") (codes "u") ∷ attribute (codes "xmlns:xlink") (codes "w") ∷ []) ∷ Text (codes "<title></title>") ∷ end_tag (codes "script") ∷ end_tag (codes "datalist") ∷ start_tag (codes "html") [] ∷ end_tag (codes "html") ∷ End ∷ []))
    -- in head: using in body: "<!DOCTYPE html><head><html><script>"
    ∷ (document false (Doctype (record { name = (Some (codes "html")); public_id = None; system_id = None; force_quirks = false }) ∷ start_tag (codes "head") [] ∷ start_tag (codes "html") [] ∷ start_tag (codes "script") [] ∷ End ∷ []))
    -- in head: using in body: "<head><html><head>"
    ∷ (document false (start_tag (codes "head") [] ∷ start_tag (codes "html") [] ∷ start_tag (codes "head") [] ∷ End ∷ []))
    -- in head: start base basefont bgsound link: "</tr><base><base>"
    ∷ (document true (end_tag (codes "tr") ∷ start_tag (codes "base") [] ∷ start_tag (codes "base") [] ∷ End ∷ []))
    -- in head: start base basefont bgsound link: "<base><base>"
    ∷ (fragment false Html (codes "li") [] (start_tag (codes "base") [] ∷ start_tag (codes "base") [] ∷ End ∷ []))
    -- in head: start base basefont bgsound link: "<head><base>"
    ∷ (fragment false Html (codes "thead") [] (start_tag (codes "head") [] ∷ start_tag (codes "base") [] ∷ End ∷ []))
    -- in head: start meta: " x<meta class=1>"
    ∷ (fragment false Html (codes "li") [] (Text (codes " x") ∷ start_tag (codes "meta") (attribute (codes "class") (codes "1") ∷ []) ∷ End ∷ []))
    -- in head: start meta: "</fetile><meta>"
    ∷ (fragment true Html (codes "table") [] (end_tag (codes "fetile") ∷ start_tag (codes "meta") [] ∷ End ∷ []))
    -- in head: start meta: "<body><param/><meta>"
    ∷ (document false (start_tag (codes "body") [] ∷ closed_tag (codes "param") [] ∷ start_tag (codes "meta") [] ∷ End ∷ []))
    -- in head: start title: "<!DOCTYPE html><title/></ul>"
    ∷ (document false (Doctype (record { name = (Some (codes "html")); public_id = None; system_id = None; force_quirks = false }) ∷ closed_tag (codes "title") [] ∷ Text (codes "</ul>") ∷ Text [] ∷ End ∷ []))
    ∷ []

trees_24 : List (List ℕ)
trees_24 =
    (codes "| <!DOCTYPE html>\n| <html>\n|   <head>\n|   <body>\n|     <small>\n|       <picture>\n")
    ∷ (codes "| <html>\n|   <head>\n|   <body>\n")
    ∷ (codes "| <!DOCTYPE html>\n| <html>\n|   <head>\n|     <script>\n|       xmlns=\"u\"\n|       xmlns:xlink=\"w\"\n|       \"<title></title>\"\n|   <body>\n")
    ∷ (codes "| <!DOCTYPE html>\n| <html>\n|   <head>\n|     <script>\n|   <body>\n")
    ∷ (codes "| <html>\n|   <head>\n|   <body>\n")
    ∷ (codes "| <html>\n|   <head>\n|     <base>\n|     <base>\n|   <body>\n")
    ∷ (codes "| <base>\n| <base>\n")
    ∷ (codes "| <base>\n")
    ∷ (codes "| \" x\"\n| <meta>\n|   class=\"1\"\n")
    ∷ (codes "| <meta>\n")
    ∷ (codes "| <html>\n|   <head>\n|   <body>\n|     <param>\n|     <meta>\n")
    ∷ (codes "| <!DOCTYPE html>\n| <html>\n|   <head>\n|     <title>\n|       \"</ul>\"\n|   <body>\n")
    ∷ []

built_24 : map shown_of rows_24 ≡ trees_24
unfolding rows_24 trees_24 adjusted_attributes adjusted_name adjusted_tag_name cased foreign_attributes math_attribute_names svg_attribute_names svg_tag_names added_after adopted ended_by entry_of furthest_block inner_loop nth_open opened_inside opened_outside outer_loop replaced process run start step told_all begins_with begins_with_one html_4_01_beginnings limited_quirks_beginnings means_limited_quirks means_quirks quirks_beginnings quirks_public_ids quirks_system_ids added_before built changed has_one_like lacking row_of tree_from without_node foreign_end are_among cleared count_after_marker count_alike has_attribute_like has_entry last_named reopened still_listed to_reopen with_entry without_earliest without_entry without_oldest item_met all_names breaks_out ends_scope ends_table_scope has_such is_among is_body_context is_formatting is_fostering is_implied is_implied_thoroughly is_listed is_row_context is_special kind_in kind_in_namespace kind_of may_stay_open namespace_of first_open foster_place_in has_in_scope has_open popped_to_first_in popped_until_in popped_while_in second_body without_open mode_of flushed_as_space flushed_fostered is_all_space mode_of_request reply_of value_of among attribute_lines comes_before indent shown shown_of sorted
built_24 = refl

rows_25 : List Case
rows_25 =
    -- in head: start title: "</dl><title></small></title>"
    (document true (end_tag (codes "dl") ∷ start_tag (codes "title") [] ∷ Text (codes "</small>") ∷ end_tag (codes "title") ∷ End ∷ []))
    -- in head: start title: "<head></head>\u0000<title/>"
    ∷ (document false (start_tag (codes "head") [] ∷ end_tag (codes "head") ∷ Null ∷ closed_tag (codes "title") [] ∷ End ∷ []))
    -- in head: start noscript noframes style: "<!--c--><noframes>"
    ∷ (document true (Comment (codes "c") ∷ start_tag (codes "noframes") [] ∷ End ∷ []))
    -- in head: start noscript noframes style: "<noframes></small>"
    ∷ (document false (start_tag (codes "noframes") [] ∷ Text (codes "</small>") ∷ Text [] ∷ End ∷ []))
    -- in head: start noscript noframes style: "&#13;<style>"
    ∷ (fragment false Html (codes "span") [] (Text (codes "\r") ∷ start_tag (codes "style") [] ∷ End ∷ []))
    -- in head: start noscript: "<!DOCTYPE html><head><noscript>\u0000"
    ∷ (document false (Doctype (record { name = (Some (codes "html")); public_id = None; system_id = None; force_quirks = false }) ∷ start_tag (codes "head") [] ∷ start_tag (codes "noscript") [] ∷ Null ∷ End ∷ []))
    -- in head: start noscript: "<!DOCTYPE html><head><noscript>x"
    ∷ (document false (Doctype (record { name = (Some (codes "html")); public_id = None; system_id = None; force_quirks = false }) ∷ start_tag (codes "head") [] ∷ start_tag (codes "noscript") [] ∷ Text (codes "x") ∷ Text [] ∷ End ∷ []))
    -- in head: start noscript: "<head><noscript></html></br><p>"
    ∷ (document false (start_tag (codes "head") [] ∷ start_tag (codes "noscript") [] ∷ end_tag (codes "html") ∷ end_tag (codes "br") ∷ start_tag (codes "p") [] ∷ End ∷ []))
    -- in head: start script: "<li><li><script class=1>"
    ∷ (fragment true Svg (codes "svg") [] (start_tag (codes "li") [] ∷ start_tag (codes "li") [] ∷ start_tag (codes "script") (attribute (codes "class") (codes "1") ∷ []) ∷ End ∷ []))
    -- in head: start script: "<template><tr><script>\t"
    ∷ (fragment true Html (codes "div") [] (start_tag (codes "template") [] ∷ start_tag (codes "tr") [] ∷ start_tag (codes "script") [] ∷ Text (codes "\t") ∷ Text [] ∷ End ∷ []))
    -- in head: start script: "<video class=2><script>"
    ∷ (fragment false Html (codes "button") [] (start_tag (codes "video") (attribute (codes "class") (codes "2") ∷ []) ∷ start_tag (codes "script") [] ∷ End ∷ []))
    -- in head: end head: "<!DOCTYPE></head>x\r\n"
    ∷ (document false (Doctype (record { name = None; public_id = None; system_id = None; force_quirks = true }) ∷ end_tag (codes "head") ∷ Text (codes "x\n") ∷ Text [] ∷ End ∷ []))
    ∷ []

trees_25 : List (List ℕ)
trees_25 =
    (codes "| <html>\n|   <head>\n|     <title>\n|       \"</small>\"\n|   <body>\n")
    ∷ (codes "| <html>\n|   <head>\n|   <body>\n|     <title>\n")
    ∷ (codes "| <!-- c -->\n| <html>\n|   <head>\n|     <noframes>\n|   <body>\n")
    ∷ (codes "| <html>\n|   <head>\n|     <noframes>\n|       \"</small>\"\n|   <body>\n")
    ∷ (codes "| \"\r\"\n| <style>\n")
    ∷ (codes "| <!DOCTYPE html>\n| <html>\n|   <head>\n|     <noscript>\n|   <body>\n")
    ∷ (codes "| <!DOCTYPE html>\n| <html>\n|   <head>\n|     <noscript>\n|   <body>\n|     \"x\"\n")
    ∷ (codes "| <html>\n|   <head>\n|     <noscript>\n|   <body>\n|     <br>\n|     <p>\n")
    ∷ (codes "| <li>\n| <li>\n|   <script>\n|     class=\"1\"\n")
    ∷ (codes "| <template>\n|   content\n|     <tr>\n|       <script>\n|         \"\t\"\n")
    ∷ (codes "| <video>\n|   class=\"2\"\n|   <script>\n")
    ∷ (codes "| <!DOCTYPE >\n| <html>\n|   <head>\n|   <body>\n|     \"x\n\"\n")
    ∷ []

built_25 : map shown_of rows_25 ≡ trees_25
unfolding rows_25 trees_25 adjusted_attributes adjusted_name adjusted_tag_name cased foreign_attributes math_attribute_names svg_attribute_names svg_tag_names added_after adopted ended_by entry_of furthest_block inner_loop nth_open opened_inside opened_outside outer_loop replaced process run start step told_all begins_with begins_with_one html_4_01_beginnings limited_quirks_beginnings means_limited_quirks means_quirks quirks_beginnings quirks_public_ids quirks_system_ids added_before built changed has_one_like lacking row_of tree_from without_node foreign_end are_among cleared count_after_marker count_alike has_attribute_like has_entry last_named reopened still_listed to_reopen with_entry without_earliest without_entry without_oldest item_met all_names breaks_out ends_scope ends_table_scope has_such is_among is_body_context is_formatting is_fostering is_implied is_implied_thoroughly is_listed is_row_context is_special kind_in kind_in_namespace kind_of may_stay_open namespace_of first_open foster_place_in has_in_scope has_open popped_to_first_in popped_until_in popped_while_in second_body without_open mode_of flushed_as_space flushed_fostered is_all_space mode_of_request reply_of value_of among attribute_lines comes_before indent shown shown_of sorted
built_25 = refl

rows_26 : List Case
rows_26 =
    -- in head: end head: "<head></head></div>"
    (document true (start_tag (codes "head") [] ∷ end_tag (codes "head") ∷ end_tag (codes "div") ∷ End ∷ []))
    -- in head: end head: "<head></head><html>"
    ∷ (document false (start_tag (codes "head") [] ∷ end_tag (codes "head") ∷ start_tag (codes "html") [] ∷ End ∷ []))
    -- in head: end body html br: "</mo></html>"
    ∷ (document false (end_tag (codes "mo") ∷ end_tag (codes "html") ∷ End ∷ []))
    -- in head: end body html br: "</html></g>"
    ∷ (document false (end_tag (codes "html") ∷ end_tag (codes "g") ∷ End ∷ []))
    -- in head: end body html br: "</html><tr>"
    ∷ (document false (end_tag (codes "html") ∷ start_tag (codes "tr") [] ∷ End ∷ []))
    -- in head: start template: "<template></select>"
    ∷ (document false (start_tag (codes "template") [] ∷ end_tag (codes "select") ∷ End ∷ []))
    -- in head: start template: "<applet><template>"
    ∷ (document true (start_tag (codes "applet") [] ∷ start_tag (codes "template") [] ∷ End ∷ []))
    -- in head: start template: "<template class=1>"
    ∷ (document false (start_tag (codes "template") (attribute (codes "class") (codes "1") ∷ []) ∷ End ∷ []))
    -- in head: end template: "\f</template><!--c-->"
    ∷ (fragment false Html (codes "template") [] (Text (12 ∷ []) ∷ end_tag (codes "template") ∷ Comment (codes "c") ∷ End ∷ []))
    -- in head: end template: "<body></body>x</template>"
    ∷ (document true (start_tag (codes "body") [] ∷ end_tag (codes "body") ∷ Text (codes "x") ∷ end_tag (codes "template") ∷ End ∷ []))
    -- in head: end template: "</template></th>x"
    ∷ (fragment true Html (codes "ruby") [] (end_tag (codes "template") ∷ end_tag (codes "th") ∷ Text (codes "x") ∷ Text [] ∷ End ∷ []))
    -- in head: parse error ignore: "<!DOCTYPE x></col><head xml:base=b xml:space=s gradienttransform=g><head>"
    ∷ (document true (Doctype (record { name = (Some (codes "x")); public_id = None; system_id = None; force_quirks = false }) ∷ end_tag (codes "col") ∷ start_tag (codes "head") (attribute (codes "xml:base") (codes "b") ∷ attribute (codes "xml:space") (codes "s") ∷ attribute (codes "gradienttransform") (codes "g") ∷ []) ∷ start_tag (codes "head") [] ∷ End ∷ []))
    ∷ []

trees_26 : List (List ℕ)
trees_26 =
    (codes "| <html>\n|   <head>\n|   <body>\n")
    ∷ (codes "| <html>\n|   <head>\n|   <body>\n")
    ∷ (codes "| <html>\n|   <head>\n|   <body>\n")
    ∷ (codes "| <html>\n|   <head>\n|   <body>\n")
    ∷ (codes "| <html>\n|   <head>\n|   <body>\n")
    ∷ (codes "| <html>\n|   <head>\n|     <template>\n|       content\n|   <body>\n")
    ∷ (codes "| <html>\n|   <head>\n|   <body>\n|     <applet>\n|       <template>\n|         content\n")
    ∷ (codes "| <html>\n|   <head>\n|     <template>\n|       class=\"1\"\n|       content\n|   <body>\n")
    ∷ (124 ∷ 32 ∷ 34 ∷ 12 ∷ 34 ∷ 10 ∷ 124 ∷ 32 ∷ 60 ∷ 33 ∷ 45 ∷ 45 ∷ 32 ∷ 99 ∷ 32 ∷ 45 ∷ 45 ∷ 62 ∷ 10 ∷ [])
    ∷ (codes "| <html>\n|   <head>\n|   <body>\n|     \"x\"\n")
    ∷ (codes "| \"x\"\n")
    ∷ (codes "| <!DOCTYPE x>\n| <html>\n|   <head>\n|     gradienttransform=\"g\"\n|     xml:base=\"b\"\n|     xml:space=\"s\"\n|   <body>\n")
    ∷ []

built_26 : map shown_of rows_26 ≡ trees_26
unfolding rows_26 trees_26 adjusted_attributes adjusted_name adjusted_tag_name cased foreign_attributes math_attribute_names svg_attribute_names svg_tag_names added_after adopted ended_by entry_of furthest_block inner_loop nth_open opened_inside opened_outside outer_loop replaced process run start step told_all begins_with begins_with_one html_4_01_beginnings limited_quirks_beginnings means_limited_quirks means_quirks quirks_beginnings quirks_public_ids quirks_system_ids added_before built changed has_one_like lacking row_of tree_from without_node foreign_end are_among cleared count_after_marker count_alike has_attribute_like has_entry last_named reopened still_listed to_reopen with_entry without_earliest without_entry without_oldest item_met all_names breaks_out ends_scope ends_table_scope has_such is_among is_body_context is_formatting is_fostering is_implied is_implied_thoroughly is_listed is_row_context is_special kind_in kind_in_namespace kind_of may_stay_open namespace_of first_open foster_place_in has_in_scope has_open popped_to_first_in popped_until_in popped_while_in second_body without_open mode_of flushed_as_space flushed_fostered is_all_space mode_of_request reply_of value_of among attribute_lines comes_before indent shown shown_of sorted
built_26 = refl

rows_27 : List Case
rows_27 =
    -- in head: parse error ignore: "<!DOCTYPE html><head></textpath><head xmlns=u xmlns:xlink=w> x</head>\f\r\n"
    (document false (Doctype (record { name = (Some (codes "html")); public_id = None; system_id = None; force_quirks = false }) ∷ start_tag (codes "head") [] ∷ end_tag (codes "textpath") ∷ start_tag (codes "head") (attribute (codes "xmlns") (codes "u") ∷ attribute (codes "xmlns:xlink") (codes "w") ∷ []) ∷ Text (codes " x") ∷ end_tag (codes "head") ∷ Text (12 ∷ 10 ∷ []) ∷ Text [] ∷ End ∷ []))
    -- in head: parse error ignore: "<!DOCTYPE html><head class=1><head>\f<!--c--></head></head></noscript>"
    ∷ (document false (Doctype (record { name = (Some (codes "html")); public_id = None; system_id = None; force_quirks = false }) ∷ start_tag (codes "head") (attribute (codes "class") (codes "1") ∷ []) ∷ start_tag (codes "head") [] ∷ Text (12 ∷ []) ∷ Comment (codes "c") ∷ end_tag (codes "head") ∷ end_tag (codes "head") ∷ end_tag (codes "noscript") ∷ End ∷ []))
    -- in head: parse error ignore: "<!DOCTYPE html><head></dl>"
    ∷ (document false (Doctype (record { name = (Some (codes "html")); public_id = None; system_id = None; force_quirks = false }) ∷ start_tag (codes "head") [] ∷ end_tag (codes "dl") ∷ End ∷ []))
    -- in head: parse error ignore: "<!DOCTYPE html><head></a>"
    ∷ (document false (Doctype (record { name = (Some (codes "html")); public_id = None; system_id = None; force_quirks = false }) ∷ start_tag (codes "head") [] ∷ end_tag (codes "a") ∷ End ∷ []))
    -- in head: parse error ignore: "<!DOCTYPE html><head></g>"
    ∷ (document false (Doctype (record { name = (Some (codes "html")); public_id = None; system_id = None; force_quirks = false }) ∷ start_tag (codes "head") [] ∷ end_tag (codes "g") ∷ End ∷ []))
    -- in head: anything else: " "
    ∷ (document false (Text (codes " ") ∷ Text [] ∷ End ∷ []))
    -- in head: anything else: "x"
    ∷ (document true (Text (codes "x") ∷ Text [] ∷ End ∷ []))
    -- in head: anything else: "y"
    ∷ (document true (Text (codes "y") ∷ Text [] ∷ End ∷ []))
    -- in head noscript: using in body: "<!DOCTYPE html PUBLIC 'HTML'><head><noscript><bgsound></noframes></bgsound><bgsound><html>\n\nx"
    ∷ (document false (Doctype (record { name = (Some (codes "html")); public_id = (Some (codes "HTML")); system_id = None; force_quirks = false }) ∷ start_tag (codes "head") [] ∷ start_tag (codes "noscript") [] ∷ start_tag (codes "bgsound") [] ∷ end_tag (codes "noframes") ∷ end_tag (codes "bgsound") ∷ start_tag (codes "bgsound") [] ∷ start_tag (codes "html") [] ∷ Text (codes "\n\nx") ∷ Text [] ∷ End ∷ []))
    -- in head noscript: using in body: "<!DOCTYPE html><head><noscript><html><noscript xlink:href=x xml:lang=e><br></noscript>\u0000<head>"
    ∷ (document false (Doctype (record { name = (Some (codes "html")); public_id = None; system_id = None; force_quirks = false }) ∷ start_tag (codes "head") [] ∷ start_tag (codes "noscript") [] ∷ start_tag (codes "html") [] ∷ start_tag (codes "noscript") (attribute (codes "xlink:href") (codes "x") ∷ attribute (codes "xml:lang") (codes "e") ∷ []) ∷ start_tag (codes "br") [] ∷ end_tag (codes "noscript") ∷ Null ∷ start_tag (codes "head") [] ∷ End ∷ []))
    -- in head noscript: using in body: "<head><noscript><html><!--c--></br></html></address><br><bgsound><bgsound>\u0000 "
    ∷ (document false (start_tag (codes "head") [] ∷ start_tag (codes "noscript") [] ∷ start_tag (codes "html") [] ∷ Comment (codes "c") ∷ end_tag (codes "br") ∷ end_tag (codes "html") ∷ end_tag (codes "address") ∷ start_tag (codes "br") [] ∷ start_tag (codes "bgsound") [] ∷ start_tag (codes "bgsound") [] ∷ Null ∷ Text (codes " ") ∷ Text [] ∷ End ∷ []))
    -- in head noscript: end noscript: "<!DOCTYPE html PUBLIC '-//W3C//DTD XHTML 1.0 Transitional//EN' ''><head><noscript></noscript>"
    ∷ (document false (Doctype (record { name = (Some (codes "html")); public_id = (Some (codes "-//W3C//DTD XHTML 1.0 Transitional//EN")); system_id = (Some []); force_quirks = false }) ∷ start_tag (codes "head") [] ∷ start_tag (codes "noscript") [] ∷ end_tag (codes "noscript") ∷ End ∷ []))
    ∷ []

trees_27 : List (List ℕ)
trees_27 =
    (124 ∷ 32 ∷ 60 ∷ 33 ∷ 68 ∷ 79 ∷ 67 ∷ 84 ∷ 89 ∷ 80 ∷ 69 ∷ 32 ∷ 104 ∷ 116 ∷ 109 ∷ 108 ∷ 62 ∷ 10 ∷ 124 ∷ 32 ∷ 60 ∷ 104 ∷ 116 ∷ 109 ∷ 108 ∷ 62 ∷ 10 ∷ 124 ∷ 32 ∷ 32 ∷ 32 ∷ 60 ∷ 104 ∷ 101 ∷ 97 ∷ 100 ∷ 62 ∷ 10 ∷ 124 ∷ 32 ∷ 32 ∷ 32 ∷ 32 ∷ 32 ∷ 34 ∷ 32 ∷ 34 ∷ 10 ∷ 124 ∷ 32 ∷ 32 ∷ 32 ∷ 60 ∷ 98 ∷ 111 ∷ 100 ∷ 121 ∷ 62 ∷ 10 ∷ 124 ∷ 32 ∷ 32 ∷ 32 ∷ 32 ∷ 32 ∷ 34 ∷ 120 ∷ 12 ∷ 10 ∷ 34 ∷ 10 ∷ [])
    ∷ (124 ∷ 32 ∷ 60 ∷ 33 ∷ 68 ∷ 79 ∷ 67 ∷ 84 ∷ 89 ∷ 80 ∷ 69 ∷ 32 ∷ 104 ∷ 116 ∷ 109 ∷ 108 ∷ 62 ∷ 10 ∷ 124 ∷ 32 ∷ 60 ∷ 104 ∷ 116 ∷ 109 ∷ 108 ∷ 62 ∷ 10 ∷ 124 ∷ 32 ∷ 32 ∷ 32 ∷ 60 ∷ 104 ∷ 101 ∷ 97 ∷ 100 ∷ 62 ∷ 10 ∷ 124 ∷ 32 ∷ 32 ∷ 32 ∷ 32 ∷ 32 ∷ 99 ∷ 108 ∷ 97 ∷ 115 ∷ 115 ∷ 61 ∷ 34 ∷ 49 ∷ 34 ∷ 10 ∷ 124 ∷ 32 ∷ 32 ∷ 32 ∷ 32 ∷ 32 ∷ 34 ∷ 12 ∷ 34 ∷ 10 ∷ 124 ∷ 32 ∷ 32 ∷ 32 ∷ 32 ∷ 32 ∷ 60 ∷ 33 ∷ 45 ∷ 45 ∷ 32 ∷ 99 ∷ 32 ∷ 45 ∷ 45 ∷ 62 ∷ 10 ∷ 124 ∷ 32 ∷ 32 ∷ 32 ∷ 60 ∷ 98 ∷ 111 ∷ 100 ∷ 121 ∷ 62 ∷ 10 ∷ [])
    ∷ (codes "| <!DOCTYPE html>\n| <html>\n|   <head>\n|   <body>\n")
    ∷ (codes "| <!DOCTYPE html>\n| <html>\n|   <head>\n|   <body>\n")
    ∷ (codes "| <!DOCTYPE html>\n| <html>\n|   <head>\n|   <body>\n")
    ∷ (codes "| <html>\n|   <head>\n|   <body>\n")
    ∷ (codes "| <html>\n|   <head>\n|   <body>\n|     \"x\"\n")
    ∷ (codes "| <html>\n|   <head>\n|   <body>\n|     \"y\"\n")
    ∷ (codes "| <!DOCTYPE html \"HTML\" \"\">\n| <html>\n|   <head>\n|     <noscript>\n|       <bgsound>\n|       <bgsound>\n|       \"\n\n\"\n|   <body>\n|     \"x\"\n")
    ∷ (codes "| <!DOCTYPE html>\n| <html>\n|   <head>\n|     <noscript>\n|   <body>\n|     <br>\n")
    ∷ (codes "| <html>\n|   <head>\n|     <noscript>\n|       <!-- c -->\n|   <body>\n|     <br>\n|     <br>\n|     <bgsound>\n|     <bgsound>\n|     \" \"\n")
    ∷ (codes "| <!DOCTYPE html \"-//W3C//DTD XHTML 1.0 Transitional//EN\" \"\">\n| <html>\n|   <head>\n|     <noscript>\n|   <body>\n")
    ∷ []

built_27 : map shown_of rows_27 ≡ trees_27
unfolding rows_27 trees_27 adjusted_attributes adjusted_name adjusted_tag_name cased foreign_attributes math_attribute_names svg_attribute_names svg_tag_names added_after adopted ended_by entry_of furthest_block inner_loop nth_open opened_inside opened_outside outer_loop replaced process run start step told_all begins_with begins_with_one html_4_01_beginnings limited_quirks_beginnings means_limited_quirks means_quirks quirks_beginnings quirks_public_ids quirks_system_ids added_before built changed has_one_like lacking row_of tree_from without_node foreign_end are_among cleared count_after_marker count_alike has_attribute_like has_entry last_named reopened still_listed to_reopen with_entry without_earliest without_entry without_oldest item_met all_names breaks_out ends_scope ends_table_scope has_such is_among is_body_context is_formatting is_fostering is_implied is_implied_thoroughly is_listed is_row_context is_special kind_in kind_in_namespace kind_of may_stay_open namespace_of first_open foster_place_in has_in_scope has_open popped_to_first_in popped_until_in popped_while_in second_body without_open mode_of flushed_as_space flushed_fostered is_all_space mode_of_request reply_of value_of among attribute_lines comes_before indent shown shown_of sorted
built_27 = refl

rows_28 : List Case
rows_28 =
    -- in head noscript: end noscript: "<!DOCTYPE html><head><noscript></p></small>&#13;</noscript>&#13;<noscript>"
    (document false (Doctype (record { name = (Some (codes "html")); public_id = None; system_id = None; force_quirks = false }) ∷ start_tag (codes "head") [] ∷ start_tag (codes "noscript") [] ∷ end_tag (codes "p") ∷ end_tag (codes "small") ∷ Text (codes "\r") ∷ end_tag (codes "noscript") ∷ Text (codes "\r") ∷ start_tag (codes "noscript") [] ∷ End ∷ []))
    -- in head noscript: end noscript: "<!DOCTYPE x><head><noscript></link></noscript>&amp;"
    ∷ (document false (Doctype (record { name = (Some (codes "x")); public_id = None; system_id = None; force_quirks = false }) ∷ start_tag (codes "head") [] ∷ start_tag (codes "noscript") [] ∷ end_tag (codes "link") ∷ end_tag (codes "noscript") ∷ Text (codes "&") ∷ End ∷ []))
    -- in head noscript: using in head: "<!DOCTYPE html><head><noscript>\n\nx</style><!DOCTYPE html PUBLIC> x<basefont xmlns=u xmlns:xlink=w></p>z z"
    ∷ (document false (Doctype (record { name = (Some (codes "html")); public_id = None; system_id = None; force_quirks = false }) ∷ start_tag (codes "head") [] ∷ start_tag (codes "noscript") [] ∷ Text (codes "\n\nx") ∷ end_tag (codes "style") ∷ Doctype (record { name = (Some (codes "html")); public_id = None; system_id = None; force_quirks = true }) ∷ Text (codes " x") ∷ start_tag (codes "basefont") (attribute (codes "xmlns") (codes "u") ∷ attribute (codes "xmlns:xlink") (codes "w") ∷ []) ∷ end_tag (codes "p") ∷ Text (codes "z z") ∷ Text [] ∷ End ∷ []))
    -- in head noscript: using in head: "<!DOCTYPE html SYSTEM 'http://www.ibm.com/data/dtd/v11/ibmxhtml1-transitional.dtd'><head><noscript>\r\n"
    ∷ (document false (Doctype (record { name = (Some (codes "html")); public_id = None; system_id = (Some (codes "http://www.ibm.com/data/dtd/v11/ibmxhtml1-transitional.dtd")); force_quirks = false }) ∷ start_tag (codes "head") [] ∷ start_tag (codes "noscript") [] ∷ Text (codes "\n") ∷ Text [] ∷ End ∷ []))
    -- in head noscript: using in head: "<head><noscript><basefont></></basefont>\n\nx</p><bgsound/></bgsound><noframes><html/><basefont>"
    ∷ (document false (start_tag (codes "head") [] ∷ start_tag (codes "noscript") [] ∷ start_tag (codes "basefont") [] ∷ end_tag (codes "basefont") ∷ Text (codes "\n\nx") ∷ end_tag (codes "p") ∷ closed_tag (codes "bgsound") [] ∷ end_tag (codes "bgsound") ∷ start_tag (codes "noframes") [] ∷ Text (codes "<html/><basefont>") ∷ Text [] ∷ End ∷ []))
    -- in head noscript: using in head: "<head><noscript><!--c-->\u0000 <p class=2><head></p><![CDATA[<p>]]><noframes></noframes>\f</isindex><link>"
    ∷ (document false (start_tag (codes "head") [] ∷ start_tag (codes "noscript") [] ∷ Comment (codes "c") ∷ Null ∷ Text (codes " ") ∷ start_tag (codes "p") (attribute (codes "class") (codes "2") ∷ []) ∷ start_tag (codes "head") [] ∷ end_tag (codes "p") ∷ Comment (codes "[CDATA[<p") ∷ Text (codes "]]>") ∷ start_tag (codes "noframes") [] ∷ end_tag (codes "noframes") ∷ Text (12 ∷ []) ∷ end_tag (codes "isindex") ∷ start_tag (codes "link") [] ∷ End ∷ []))
    -- in head noscript: using in head: "<!DOCTYPE html><head><noscript><![CDATA[x]]>&amp;<!--c--><![CDATA[x]]><noframes>"
    ∷ (document false (Doctype (record { name = (Some (codes "html")); public_id = None; system_id = None; force_quirks = false }) ∷ start_tag (codes "head") [] ∷ start_tag (codes "noscript") [] ∷ Comment (codes "[CDATA[x]]") ∷ Text (codes "&") ∷ Comment (codes "c") ∷ Comment (codes "[CDATA[x]]") ∷ start_tag (codes "noframes") [] ∷ End ∷ []))
    -- in head noscript: using in head: "<!DOCTYPE html PUBLIC 'HTML'><head><noscript></bgsound>\t<!--c--><link>"
    ∷ (document false (Doctype (record { name = (Some (codes "html")); public_id = (Some (codes "HTML")); system_id = None; force_quirks = false }) ∷ start_tag (codes "head") [] ∷ start_tag (codes "noscript") [] ∷ end_tag (codes "bgsound") ∷ Text (codes "\t") ∷ Comment (codes "c") ∷ start_tag (codes "link") [] ∷ End ∷ []))
    -- in head noscript: using in head: "<!DOCTYPE html><head><noscript><meta><basefont xlink:href=x xml:lang=e>"
    ∷ (document false (Doctype (record { name = (Some (codes "html")); public_id = None; system_id = None; force_quirks = false }) ∷ start_tag (codes "head") [] ∷ start_tag (codes "noscript") [] ∷ start_tag (codes "meta") [] ∷ start_tag (codes "basefont") (attribute (codes "xlink:href") (codes "x") ∷ attribute (codes "xml:lang") (codes "e") ∷ []) ∷ End ∷ []))
    -- in head noscript: using in head: "<noscript><style><noembed class=1 id=a></noscript><p>\f<style>"
    ∷ (document false (start_tag (codes "noscript") [] ∷ start_tag (codes "style") [] ∷ Text (60 ∷ 110 ∷ 111 ∷ 101 ∷ 109 ∷ 98 ∷ 101 ∷ 100 ∷ 32 ∷ 99 ∷ 108 ∷ 97 ∷ 115 ∷ 115 ∷ 61 ∷ 49 ∷ 32 ∷ 105 ∷ 100 ∷ 61 ∷ 97 ∷ 62 ∷ 60 ∷ 47 ∷ 110 ∷ 111 ∷ 115 ∷ 99 ∷ 114 ∷ 105 ∷ 112 ∷ 116 ∷ 62 ∷ 60 ∷ 112 ∷ 62 ∷ 12 ∷ 60 ∷ 115 ∷ 116 ∷ 121 ∷ 108 ∷ 101 ∷ 62 ∷ []) ∷ Text [] ∷ End ∷ []))
    -- in head noscript: using in head: "<!DOCTYPE html><head></script><noscript><meta class=1>"
    ∷ (document false (Doctype (record { name = (Some (codes "html")); public_id = None; system_id = None; force_quirks = false }) ∷ start_tag (codes "head") [] ∷ end_tag (codes "script") ∷ start_tag (codes "noscript") [] ∷ start_tag (codes "meta") (attribute (codes "class") (codes "1") ∷ []) ∷ End ∷ []))
    -- in head noscript: end br: "<head><noscript></noframes>&#13;<bgsound></p>\t<noscript class=1></bgsound></br><link>"
    ∷ (document false (start_tag (codes "head") [] ∷ start_tag (codes "noscript") [] ∷ end_tag (codes "noframes") ∷ Text (codes "\r") ∷ start_tag (codes "bgsound") [] ∷ end_tag (codes "p") ∷ Text (codes "\t") ∷ start_tag (codes "noscript") (attribute (codes "class") (codes "1") ∷ []) ∷ end_tag (codes "bgsound") ∷ end_tag (codes "br") ∷ start_tag (codes "link") [] ∷ End ∷ []))
    ∷ []

trees_28 : List (List ℕ)
trees_28 =
    (codes "| <!DOCTYPE html>\n| <html>\n|   <head>\n|     <noscript>\n|       \"\r\"\n|     \"\r\"\n|     <noscript>\n|   <body>\n")
    ∷ (codes "| <!DOCTYPE x>\n| <html>\n|   <head>\n|     <noscript>\n|   <body>\n|     \"&\"\n")
    ∷ (codes "| <!DOCTYPE html>\n| <html>\n|   <head>\n|     <noscript>\n|       \"\n\n\"\n|   <body>\n|     \"x x\"\n|     <basefont>\n|       xmlns=\"u\"\n|       xmlns:xlink=\"w\"\n|     <p>\n|     \"z z\"\n")
    ∷ (codes "| <!DOCTYPE html \"\" \"http://www.ibm.com/data/dtd/v11/ibmxhtml1-transitional.dtd\">\n| <html>\n|   <head>\n|     <noscript>\n|       \"\n\"\n|   <body>\n")
    ∷ (codes "| <html>\n|   <head>\n|     <noscript>\n|       <basefont>\n|       \"\n\n\"\n|   <body>\n|     \"x\"\n|     <p>\n|     <bgsound>\n|     <noframes>\n|       \"<html/><basefont>\"\n")
    ∷ (124 ∷ 32 ∷ 60 ∷ 104 ∷ 116 ∷ 109 ∷ 108 ∷ 62 ∷ 10 ∷ 124 ∷ 32 ∷ 32 ∷ 32 ∷ 60 ∷ 104 ∷ 101 ∷ 97 ∷ 100 ∷ 62 ∷ 10 ∷ 124 ∷ 32 ∷ 32 ∷ 32 ∷ 32 ∷ 32 ∷ 60 ∷ 110 ∷ 111 ∷ 115 ∷ 99 ∷ 114 ∷ 105 ∷ 112 ∷ 116 ∷ 62 ∷ 10 ∷ 124 ∷ 32 ∷ 32 ∷ 32 ∷ 32 ∷ 32 ∷ 32 ∷ 32 ∷ 60 ∷ 33 ∷ 45 ∷ 45 ∷ 32 ∷ 99 ∷ 32 ∷ 45 ∷ 45 ∷ 62 ∷ 10 ∷ 124 ∷ 32 ∷ 32 ∷ 32 ∷ 60 ∷ 98 ∷ 111 ∷ 100 ∷ 121 ∷ 62 ∷ 10 ∷ 124 ∷ 32 ∷ 32 ∷ 32 ∷ 32 ∷ 32 ∷ 34 ∷ 32 ∷ 34 ∷ 10 ∷ 124 ∷ 32 ∷ 32 ∷ 32 ∷ 32 ∷ 32 ∷ 60 ∷ 112 ∷ 62 ∷ 10 ∷ 124 ∷ 32 ∷ 32 ∷ 32 ∷ 32 ∷ 32 ∷ 32 ∷ 32 ∷ 99 ∷ 108 ∷ 97 ∷ 115 ∷ 115 ∷ 61 ∷ 34 ∷ 50 ∷ 34 ∷ 10 ∷ 124 ∷ 32 ∷ 32 ∷ 32 ∷ 32 ∷ 32 ∷ 60 ∷ 33 ∷ 45 ∷ 45 ∷ 32 ∷ 91 ∷ 67 ∷ 68 ∷ 65 ∷ 84 ∷ 65 ∷ 91 ∷ 60 ∷ 112 ∷ 32 ∷ 45 ∷ 45 ∷ 62 ∷ 10 ∷ 124 ∷ 32 ∷ 32 ∷ 32 ∷ 32 ∷ 32 ∷ 34 ∷ 93 ∷ 93 ∷ 62 ∷ 34 ∷ 10 ∷ 124 ∷ 32 ∷ 32 ∷ 32 ∷ 32 ∷ 32 ∷ 60 ∷ 110 ∷ 111 ∷ 102 ∷ 114 ∷ 97 ∷ 109 ∷ 101 ∷ 115 ∷ 62 ∷ 10 ∷ 124 ∷ 32 ∷ 32 ∷ 32 ∷ 32 ∷ 32 ∷ 34 ∷ 12 ∷ 34 ∷ 10 ∷ 124 ∷ 32 ∷ 32 ∷ 32 ∷ 32 ∷ 32 ∷ 60 ∷ 108 ∷ 105 ∷ 110 ∷ 107 ∷ 62 ∷ 10 ∷ [])
    ∷ (codes "| <!DOCTYPE html>\n| <html>\n|   <head>\n|     <noscript>\n|       <!-- [CDATA[x]] -->\n|   <body>\n|     \"&\"\n|     <!-- c -->\n|     <!-- [CDATA[x]] -->\n|     <noframes>\n")
    ∷ (codes "| <!DOCTYPE html \"HTML\" \"\">\n| <html>\n|   <head>\n|     <noscript>\n|       \"\t\"\n|       <!-- c -->\n|       <link>\n|   <body>\n")
    ∷ (codes "| <!DOCTYPE html>\n| <html>\n|   <head>\n|     <noscript>\n|       <meta>\n|       <basefont>\n|         xlink:href=\"x\"\n|         xml:lang=\"e\"\n|   <body>\n")
    ∷ (124 ∷ 32 ∷ 60 ∷ 104 ∷ 116 ∷ 109 ∷ 108 ∷ 62 ∷ 10 ∷ 124 ∷ 32 ∷ 32 ∷ 32 ∷ 60 ∷ 104 ∷ 101 ∷ 97 ∷ 100 ∷ 62 ∷ 10 ∷ 124 ∷ 32 ∷ 32 ∷ 32 ∷ 32 ∷ 32 ∷ 60 ∷ 110 ∷ 111 ∷ 115 ∷ 99 ∷ 114 ∷ 105 ∷ 112 ∷ 116 ∷ 62 ∷ 10 ∷ 124 ∷ 32 ∷ 32 ∷ 32 ∷ 32 ∷ 32 ∷ 32 ∷ 32 ∷ 60 ∷ 115 ∷ 116 ∷ 121 ∷ 108 ∷ 101 ∷ 62 ∷ 10 ∷ 124 ∷ 32 ∷ 32 ∷ 32 ∷ 32 ∷ 32 ∷ 32 ∷ 32 ∷ 32 ∷ 32 ∷ 34 ∷ 60 ∷ 110 ∷ 111 ∷ 101 ∷ 109 ∷ 98 ∷ 101 ∷ 100 ∷ 32 ∷ 99 ∷ 108 ∷ 97 ∷ 115 ∷ 115 ∷ 61 ∷ 49 ∷ 32 ∷ 105 ∷ 100 ∷ 61 ∷ 97 ∷ 62 ∷ 60 ∷ 47 ∷ 110 ∷ 111 ∷ 115 ∷ 99 ∷ 114 ∷ 105 ∷ 112 ∷ 116 ∷ 62 ∷ 60 ∷ 112 ∷ 62 ∷ 12 ∷ 60 ∷ 115 ∷ 116 ∷ 121 ∷ 108 ∷ 101 ∷ 62 ∷ 34 ∷ 10 ∷ 124 ∷ 32 ∷ 32 ∷ 32 ∷ 60 ∷ 98 ∷ 111 ∷ 100 ∷ 121 ∷ 62 ∷ 10 ∷ [])
    ∷ (codes "| <!DOCTYPE html>\n| <html>\n|   <head>\n|     <noscript>\n|       <meta>\n|         class=\"1\"\n|   <body>\n")
    ∷ (codes "| <html>\n|   <head>\n|     <noscript>\n|       \"\r\"\n|       <bgsound>\n|       \"\t\"\n|   <body>\n|     <br>\n|     <link>\n")
    ∷ []

built_28 : map shown_of rows_28 ≡ trees_28
unfolding rows_28 trees_28 adjusted_attributes adjusted_name adjusted_tag_name cased foreign_attributes math_attribute_names svg_attribute_names svg_tag_names added_after adopted ended_by entry_of furthest_block inner_loop nth_open opened_inside opened_outside outer_loop replaced process run start step told_all begins_with begins_with_one html_4_01_beginnings limited_quirks_beginnings means_limited_quirks means_quirks quirks_beginnings quirks_public_ids quirks_system_ids added_before built changed has_one_like lacking row_of tree_from without_node foreign_end are_among cleared count_after_marker count_alike has_attribute_like has_entry last_named reopened still_listed to_reopen with_entry without_earliest without_entry without_oldest item_met all_names breaks_out ends_scope ends_table_scope has_such is_among is_body_context is_formatting is_fostering is_implied is_implied_thoroughly is_listed is_row_context is_special kind_in kind_in_namespace kind_of may_stay_open namespace_of first_open foster_place_in has_in_scope has_open popped_to_first_in popped_until_in popped_while_in second_body without_open mode_of flushed_as_space flushed_fostered is_all_space mode_of_request reply_of value_of among attribute_lines comes_before indent shown shown_of sorted
built_28 = refl

rows_29 : List Case
rows_29 =
    -- in head noscript: end br: "<!DOCTYPE html PUBLIC 'HTML'><head><noscript></br><noframes>\f</noframes></p>"
    (document false (Doctype (record { name = (Some (codes "html")); public_id = (Some (codes "HTML")); system_id = None; force_quirks = false }) ∷ start_tag (codes "head") [] ∷ start_tag (codes "noscript") [] ∷ end_tag (codes "br") ∷ start_tag (codes "noframes") [] ∷ Text (12 ∷ []) ∷ end_tag (codes "noframes") ∷ end_tag (codes "p") ∷ End ∷ []))
    -- in head noscript: end br: "<!DOCTYPE html SYSTEM ''><head><noscript></br>"
    ∷ (document false (Doctype (record { name = (Some (codes "html")); public_id = None; system_id = (Some []); force_quirks = false }) ∷ start_tag (codes "head") [] ∷ start_tag (codes "noscript") [] ∷ end_tag (codes "br") ∷ End ∷ []))
    -- in head noscript: start head noscript: "<!DOCTYPE html><head><noscript></head><noscript class=2><br></br><head class=1></head>"
    ∷ (document false (Doctype (record { name = (Some (codes "html")); public_id = None; system_id = None; force_quirks = false }) ∷ start_tag (codes "head") [] ∷ start_tag (codes "noscript") [] ∷ end_tag (codes "head") ∷ start_tag (codes "noscript") (attribute (codes "class") (codes "2") ∷ []) ∷ start_tag (codes "br") [] ∷ end_tag (codes "br") ∷ start_tag (codes "head") (attribute (codes "class") (codes "1") ∷ []) ∷ end_tag (codes "head") ∷ End ∷ []))
    -- in head noscript: start head noscript: "<!DOCTYPE html><head><noscript><noscript xml:base=b xml:space=s gradienttransform=g>\f\t"
    ∷ (document false (Doctype (record { name = (Some (codes "html")); public_id = None; system_id = None; force_quirks = false }) ∷ start_tag (codes "head") [] ∷ start_tag (codes "noscript") [] ∷ start_tag (codes "noscript") (attribute (codes "xml:base") (codes "b") ∷ attribute (codes "xml:space") (codes "s") ∷ attribute (codes "gradienttransform") (codes "g") ∷ []) ∷ Text (12 ∷ 9 ∷ []) ∷ Text [] ∷ End ∷ []))
    -- in head noscript: start head noscript: "<!doctype HTML SYSTEM 'about:legacy-compat'><head><noscript></basefont><head>"
    ∷ (document false (Doctype (record { name = (Some (codes "html")); public_id = None; system_id = (Some (codes "about:legacy-compat")); force_quirks = false }) ∷ start_tag (codes "head") [] ∷ start_tag (codes "noscript") [] ∷ end_tag (codes "basefont") ∷ start_tag (codes "head") [] ∷ End ∷ []))
    -- in head noscript: parse error ignore: "<!DOCTYPE html PUBLIC '-//W3C//DTD HTML 4.01//EN'><head><noscript></p>"
    ∷ (document false (Doctype (record { name = (Some (codes "html")); public_id = (Some (codes "-//W3C//DTD HTML 4.01//EN")); system_id = None; force_quirks = false }) ∷ start_tag (codes "head") [] ∷ start_tag (codes "noscript") [] ∷ end_tag (codes "p") ∷ End ∷ []))
    -- in head noscript: parse error ignore: "<head><noscript></meta></listing><br><p xmlns=u xmlns:xlink=w>"
    ∷ (document false (start_tag (codes "head") [] ∷ start_tag (codes "noscript") [] ∷ end_tag (codes "meta") ∷ end_tag (codes "listing") ∷ start_tag (codes "br") [] ∷ start_tag (codes "p") (attribute (codes "xmlns") (codes "u") ∷ attribute (codes "xmlns:xlink") (codes "w") ∷ []) ∷ End ∷ []))
    -- in head noscript: parse error ignore: "<!DOCTYPE html><head><noscript><head class=1 id=a></head>"
    ∷ (document false (Doctype (record { name = (Some (codes "html")); public_id = None; system_id = None; force_quirks = false }) ∷ start_tag (codes "head") [] ∷ start_tag (codes "noscript") [] ∷ start_tag (codes "head") (attribute (codes "class") (codes "1") ∷ attribute (codes "id") (codes "a") ∷ []) ∷ end_tag (codes "head") ∷ End ∷ []))
    -- in head noscript: anything else: "<!DOCTYPE html><head><noscript><p>"
    ∷ (document false (Doctype (record { name = (Some (codes "html")); public_id = None; system_id = None; force_quirks = false }) ∷ start_tag (codes "head") [] ∷ start_tag (codes "noscript") [] ∷ start_tag (codes "p") [] ∷ End ∷ []))
    -- in head noscript: anything else: "<!DOCTYPE html><head><noscript>z z"
    ∷ (document false (Doctype (record { name = (Some (codes "html")); public_id = None; system_id = None; force_quirks = false }) ∷ start_tag (codes "head") [] ∷ start_tag (codes "noscript") [] ∷ Text (codes "z z") ∷ Text [] ∷ End ∷ []))
    -- in head noscript: anything else: "<!DOCTYPE x><head><noscript><link>"
    ∷ (document false (Doctype (record { name = (Some (codes "x")); public_id = None; system_id = None; force_quirks = false }) ∷ start_tag (codes "head") [] ∷ start_tag (codes "noscript") [] ∷ start_tag (codes "link") [] ∷ End ∷ []))
    -- after head: insert the character: "<!DOCTYPE html SYSTEM ''><head></head>\f"
    ∷ (document false (Doctype (record { name = (Some (codes "html")); public_id = None; system_id = (Some []); force_quirks = false }) ∷ start_tag (codes "head") [] ∷ end_tag (codes "head") ∷ Text (12 ∷ []) ∷ Text [] ∷ End ∷ []))
    ∷ []

trees_29 : List (List ℕ)
trees_29 =
    (124 ∷ 32 ∷ 60 ∷ 33 ∷ 68 ∷ 79 ∷ 67 ∷ 84 ∷ 89 ∷ 80 ∷ 69 ∷ 32 ∷ 104 ∷ 116 ∷ 109 ∷ 108 ∷ 32 ∷ 34 ∷ 72 ∷ 84 ∷ 77 ∷ 76 ∷ 34 ∷ 32 ∷ 34 ∷ 34 ∷ 62 ∷ 10 ∷ 124 ∷ 32 ∷ 60 ∷ 104 ∷ 116 ∷ 109 ∷ 108 ∷ 62 ∷ 10 ∷ 124 ∷ 32 ∷ 32 ∷ 32 ∷ 60 ∷ 104 ∷ 101 ∷ 97 ∷ 100 ∷ 62 ∷ 10 ∷ 124 ∷ 32 ∷ 32 ∷ 32 ∷ 32 ∷ 32 ∷ 60 ∷ 110 ∷ 111 ∷ 115 ∷ 99 ∷ 114 ∷ 105 ∷ 112 ∷ 116 ∷ 62 ∷ 10 ∷ 124 ∷ 32 ∷ 32 ∷ 32 ∷ 60 ∷ 98 ∷ 111 ∷ 100 ∷ 121 ∷ 62 ∷ 10 ∷ 124 ∷ 32 ∷ 32 ∷ 32 ∷ 32 ∷ 32 ∷ 60 ∷ 98 ∷ 114 ∷ 62 ∷ 10 ∷ 124 ∷ 32 ∷ 32 ∷ 32 ∷ 32 ∷ 32 ∷ 60 ∷ 110 ∷ 111 ∷ 102 ∷ 114 ∷ 97 ∷ 109 ∷ 101 ∷ 115 ∷ 62 ∷ 10 ∷ 124 ∷ 32 ∷ 32 ∷ 32 ∷ 32 ∷ 32 ∷ 32 ∷ 32 ∷ 34 ∷ 12 ∷ 34 ∷ 10 ∷ 124 ∷ 32 ∷ 32 ∷ 32 ∷ 32 ∷ 32 ∷ 60 ∷ 112 ∷ 62 ∷ 10 ∷ [])
    ∷ (codes "| <!DOCTYPE html>\n| <html>\n|   <head>\n|     <noscript>\n|   <body>\n|     <br>\n")
    ∷ (codes "| <!DOCTYPE html>\n| <html>\n|   <head>\n|     <noscript>\n|   <body>\n|     <br>\n|     <br>\n")
    ∷ (124 ∷ 32 ∷ 60 ∷ 33 ∷ 68 ∷ 79 ∷ 67 ∷ 84 ∷ 89 ∷ 80 ∷ 69 ∷ 32 ∷ 104 ∷ 116 ∷ 109 ∷ 108 ∷ 62 ∷ 10 ∷ 124 ∷ 32 ∷ 60 ∷ 104 ∷ 116 ∷ 109 ∷ 108 ∷ 62 ∷ 10 ∷ 124 ∷ 32 ∷ 32 ∷ 32 ∷ 60 ∷ 104 ∷ 101 ∷ 97 ∷ 100 ∷ 62 ∷ 10 ∷ 124 ∷ 32 ∷ 32 ∷ 32 ∷ 32 ∷ 32 ∷ 60 ∷ 110 ∷ 111 ∷ 115 ∷ 99 ∷ 114 ∷ 105 ∷ 112 ∷ 116 ∷ 62 ∷ 10 ∷ 124 ∷ 32 ∷ 32 ∷ 32 ∷ 32 ∷ 32 ∷ 32 ∷ 32 ∷ 34 ∷ 12 ∷ 9 ∷ 34 ∷ 10 ∷ 124 ∷ 32 ∷ 32 ∷ 32 ∷ 60 ∷ 98 ∷ 111 ∷ 100 ∷ 121 ∷ 62 ∷ 10 ∷ [])
    ∷ (codes "| <!DOCTYPE html \"\" \"about:legacy-compat\">\n| <html>\n|   <head>\n|     <noscript>\n|   <body>\n")
    ∷ (codes "| <!DOCTYPE html \"-//W3C//DTD HTML 4.01//EN\" \"\">\n| <html>\n|   <head>\n|     <noscript>\n|   <body>\n")
    ∷ (codes "| <html>\n|   <head>\n|     <noscript>\n|   <body>\n|     <br>\n|     <p>\n|       xmlns=\"u\"\n|       xmlns:xlink=\"w\"\n")
    ∷ (codes "| <!DOCTYPE html>\n| <html>\n|   <head>\n|     <noscript>\n|   <body>\n")
    ∷ (codes "| <!DOCTYPE html>\n| <html>\n|   <head>\n|     <noscript>\n|   <body>\n|     <p>\n")
    ∷ (codes "| <!DOCTYPE html>\n| <html>\n|   <head>\n|     <noscript>\n|   <body>\n|     \"z z\"\n")
    ∷ (codes "| <!DOCTYPE x>\n| <html>\n|   <head>\n|     <noscript>\n|       <link>\n|   <body>\n")
    ∷ (124 ∷ 32 ∷ 60 ∷ 33 ∷ 68 ∷ 79 ∷ 67 ∷ 84 ∷ 89 ∷ 80 ∷ 69 ∷ 32 ∷ 104 ∷ 116 ∷ 109 ∷ 108 ∷ 62 ∷ 10 ∷ 124 ∷ 32 ∷ 60 ∷ 104 ∷ 116 ∷ 109 ∷ 108 ∷ 62 ∷ 10 ∷ 124 ∷ 32 ∷ 32 ∷ 32 ∷ 60 ∷ 104 ∷ 101 ∷ 97 ∷ 100 ∷ 62 ∷ 10 ∷ 124 ∷ 32 ∷ 32 ∷ 32 ∷ 34 ∷ 12 ∷ 34 ∷ 10 ∷ 124 ∷ 32 ∷ 32 ∷ 32 ∷ 60 ∷ 98 ∷ 111 ∷ 100 ∷ 121 ∷ 62 ∷ 10 ∷ [])
    ∷ []

built_29 : map shown_of rows_29 ≡ trees_29
unfolding rows_29 trees_29 adjusted_attributes adjusted_name adjusted_tag_name cased foreign_attributes math_attribute_names svg_attribute_names svg_tag_names added_after adopted ended_by entry_of furthest_block inner_loop nth_open opened_inside opened_outside outer_loop replaced process run start step told_all begins_with begins_with_one html_4_01_beginnings limited_quirks_beginnings means_limited_quirks means_quirks quirks_beginnings quirks_public_ids quirks_system_ids added_before built changed has_one_like lacking row_of tree_from without_node foreign_end are_among cleared count_after_marker count_alike has_attribute_like has_entry last_named reopened still_listed to_reopen with_entry without_earliest without_entry without_oldest item_met all_names breaks_out ends_scope ends_table_scope has_such is_among is_body_context is_formatting is_fostering is_implied is_implied_thoroughly is_listed is_row_context is_special kind_in kind_in_namespace kind_of may_stay_open namespace_of first_open foster_place_in has_in_scope has_open popped_to_first_in popped_until_in popped_while_in second_body without_open mode_of flushed_as_space flushed_fostered is_all_space mode_of_request reply_of value_of among attribute_lines comes_before indent shown shown_of sorted
built_29 = refl

rows_30 : List Case
rows_30 =
    -- after head: insert the character: "<!DOCTYPE html><head></head>\n\nx<script>"
    (document true (Doctype (record { name = (Some (codes "html")); public_id = None; system_id = None; force_quirks = false }) ∷ start_tag (codes "head") [] ∷ end_tag (codes "head") ∷ Text (codes "\n\nx") ∷ start_tag (codes "script") [] ∷ End ∷ []))
    -- after head: insert the character: "<!DOCTYPE html><head></head>\n</thead>"
    ∷ (document true (Doctype (record { name = (Some (codes "html")); public_id = None; system_id = None; force_quirks = false }) ∷ start_tag (codes "head") [] ∷ end_tag (codes "head") ∷ Text (codes "\n") ∷ end_tag (codes "thead") ∷ End ∷ []))
    -- after head: insert a comment: "<!DOCTYPE html><head></head><!--c-->\u0000 </b><table><table definitionurl=u viewbox=v><figcaption></a></a><html a=1 a=2>"
    ∷ (document false (Doctype (record { name = (Some (codes "html")); public_id = None; system_id = None; force_quirks = false }) ∷ start_tag (codes "head") [] ∷ end_tag (codes "head") ∷ Comment (codes "c") ∷ Null ∷ Text (codes " ") ∷ end_tag (codes "b") ∷ start_tag (codes "table") [] ∷ start_tag (codes "table") (attribute (codes "definitionurl") (codes "u") ∷ attribute (codes "viewbox") (codes "v") ∷ []) ∷ start_tag (codes "figcaption") [] ∷ end_tag (codes "a") ∷ end_tag (codes "a") ∷ start_tag (codes "html") (attribute (codes "a") (codes "1") ∷ []) ∷ End ∷ []))
    -- after head: insert a comment: "<!DOCTYPE html><head></head><!DOCTYPE html PUBLIC>\n<!DOCTYPE html><!--c-->"
    ∷ (document false (Doctype (record { name = (Some (codes "html")); public_id = None; system_id = None; force_quirks = false }) ∷ start_tag (codes "head") [] ∷ end_tag (codes "head") ∷ Doctype (record { name = (Some (codes "html")); public_id = None; system_id = None; force_quirks = true }) ∷ Text (codes "\n") ∷ Doctype (record { name = (Some (codes "html")); public_id = None; system_id = None; force_quirks = false }) ∷ Comment (codes "c") ∷ End ∷ []))
    -- after head: insert a comment: "<head></head><![CDATA[<p>]]><i><table><!--c-->&#13;<table a=1 a=2></table>"
    ∷ (document true (start_tag (codes "head") [] ∷ end_tag (codes "head") ∷ Comment (codes "[CDATA[<p") ∷ Text (codes "]]>") ∷ start_tag (codes "i") [] ∷ start_tag (codes "table") [] ∷ Comment (codes "c") ∷ Text (codes "\r") ∷ start_tag (codes "table") (attribute (codes "a") (codes "1") ∷ []) ∷ end_tag (codes "table") ∷ End ∷ []))
    -- after head: parse error ignore: "<!DOCTYPE html PUBLIC '-//W3C//DTD HTML 4.01 Transitional//EN'><head></head><!DOCTYPE html PUBLIC>"
    ∷ (document true (Doctype (record { name = (Some (codes "html")); public_id = (Some (codes "-//W3C//DTD HTML 4.01 Transitional//EN")); system_id = None; force_quirks = false }) ∷ start_tag (codes "head") [] ∷ end_tag (codes "head") ∷ Doctype (record { name = (Some (codes "html")); public_id = None; system_id = None; force_quirks = true }) ∷ End ∷ []))
    -- after head: parse error ignore: "<!DOCTYPE html><head></head></rp><!DOCTYPE html><a>"
    ∷ (document true (Doctype (record { name = (Some (codes "html")); public_id = None; system_id = None; force_quirks = false }) ∷ start_tag (codes "head") [] ∷ end_tag (codes "head") ∷ end_tag (codes "rp") ∷ Doctype (record { name = (Some (codes "html")); public_id = None; system_id = None; force_quirks = false }) ∷ start_tag (codes "a") [] ∷ End ∷ []))
    -- after head: parse error ignore: "<!DOCTYPE html><head></head></title><!DOCTYPE html>"
    ∷ (document true (Doctype (record { name = (Some (codes "html")); public_id = None; system_id = None; force_quirks = false }) ∷ start_tag (codes "head") [] ∷ end_tag (codes "head") ∷ end_tag (codes "title") ∷ Doctype (record { name = (Some (codes "html")); public_id = None; system_id = None; force_quirks = false }) ∷ End ∷ []))
    -- after head: using in body: "<!DOCTYPE html><head></head><html>"
    ∷ (document true (Doctype (record { name = (Some (codes "html")); public_id = None; system_id = None; force_quirks = false }) ∷ start_tag (codes "head") [] ∷ end_tag (codes "head") ∷ start_tag (codes "html") [] ∷ End ∷ []))
    -- after head: start body: "<body></body><p>"
    ∷ (document false (start_tag (codes "body") [] ∷ end_tag (codes "body") ∷ start_tag (codes "p") [] ∷ End ∷ []))
    -- after head: start body: "<body></body>\u0000 "
    ∷ (document false (start_tag (codes "body") [] ∷ end_tag (codes "body") ∷ Null ∷ Text (codes " ") ∷ Text [] ∷ End ∷ []))
    -- after head: start body: "<body></figure>"
    ∷ (document false (start_tag (codes "body") [] ∷ end_tag (codes "figure") ∷ End ∷ []))
    ∷ []

trees_30 : List (List ℕ)
trees_30 =
    (codes "| <!DOCTYPE html>\n| <html>\n|   <head>\n|   \"\n\n\"\n|   <body>\n|     \"x\"\n|     <script>\n")
    ∷ (codes "| <!DOCTYPE html>\n| <html>\n|   <head>\n|   \"\n\"\n|   <body>\n")
    ∷ (codes "| <!DOCTYPE html>\n| <html>\n|   a=\"1\"\n|   <head>\n|   <!-- c -->\n|   <body>\n|     \" \"\n|     <table>\n|     <figcaption>\n|     <table>\n|       definitionurl=\"u\"\n|       viewbox=\"v\"\n")
    ∷ (codes "| <!DOCTYPE html>\n| <html>\n|   <head>\n|   \"\n\"\n|   <!-- c -->\n|   <body>\n")
    ∷ (codes "| <html>\n|   <head>\n|   <!-- [CDATA[<p -->\n|   <body>\n|     \"]]>\"\n|     <i>\n|       <table>\n|         <!-- c -->\n|         \"\r\"\n|       <table>\n|         a=\"1\"\n")
    ∷ (codes "| <!DOCTYPE html \"-//W3C//DTD HTML 4.01 Transitional//EN\" \"\">\n| <html>\n|   <head>\n|   <body>\n")
    ∷ (codes "| <!DOCTYPE html>\n| <html>\n|   <head>\n|   <body>\n|     <a>\n")
    ∷ (codes "| <!DOCTYPE html>\n| <html>\n|   <head>\n|   <body>\n")
    ∷ (codes "| <!DOCTYPE html>\n| <html>\n|   <head>\n|   <body>\n")
    ∷ (codes "| <html>\n|   <head>\n|   <body>\n|     <p>\n")
    ∷ (codes "| <html>\n|   <head>\n|   <body>\n|     \" \"\n")
    ∷ (codes "| <html>\n|   <head>\n|   <body>\n")
    ∷ []

built_30 : map shown_of rows_30 ≡ trees_30
unfolding rows_30 trees_30 adjusted_attributes adjusted_name adjusted_tag_name cased foreign_attributes math_attribute_names svg_attribute_names svg_tag_names added_after adopted ended_by entry_of furthest_block inner_loop nth_open opened_inside opened_outside outer_loop replaced process run start step told_all begins_with begins_with_one html_4_01_beginnings limited_quirks_beginnings means_limited_quirks means_quirks quirks_beginnings quirks_public_ids quirks_system_ids added_before built changed has_one_like lacking row_of tree_from without_node foreign_end are_among cleared count_after_marker count_alike has_attribute_like has_entry last_named reopened still_listed to_reopen with_entry without_earliest without_entry without_oldest item_met all_names breaks_out ends_scope ends_table_scope has_such is_among is_body_context is_formatting is_fostering is_implied is_implied_thoroughly is_listed is_row_context is_special kind_in kind_in_namespace kind_of may_stay_open namespace_of first_open foster_place_in has_in_scope has_open popped_to_first_in popped_until_in popped_while_in second_body without_open mode_of flushed_as_space flushed_fostered is_all_space mode_of_request reply_of value_of among attribute_lines comes_before indent shown shown_of sorted
built_30 = refl

rows_31 : List Case
rows_31 =
    -- after head: start frameset: "<frameset class=2>"
    (document false (start_tag (codes "frameset") (attribute (codes "class") (codes "2") ∷ []) ∷ End ∷ []))
    -- after head: start frameset: "<frameset><frame/>"
    ∷ (document false (start_tag (codes "frameset") [] ∷ closed_tag (codes "frame") [] ∷ End ∷ []))
    -- after head: start frameset: "<frameset><html> x"
    ∷ (document true (start_tag (codes "frameset") [] ∷ start_tag (codes "html") [] ∷ Text (codes " x") ∷ Text [] ∷ End ∷ []))
    -- after head: start base and others: "<head></head><head><link>a\u0000b</link><link></head> "
    ∷ (document false (start_tag (codes "head") [] ∷ end_tag (codes "head") ∷ start_tag (codes "head") [] ∷ start_tag (codes "link") [] ∷ Text (codes "a") ∷ Null ∷ Text (codes "b") ∷ end_tag (codes "link") ∷ start_tag (codes "link") [] ∷ end_tag (codes "head") ∷ Text (codes " ") ∷ Text [] ∷ End ∷ []))
    -- after head: start base and others: "<head></head></script>&#13;<head><style a=1 a=2>"
    ∷ (document false (start_tag (codes "head") [] ∷ end_tag (codes "head") ∷ end_tag (codes "script") ∷ Text (codes "\r") ∷ start_tag (codes "head") [] ∷ start_tag (codes "style") (attribute (codes "a") (codes "1") ∷ []) ∷ End ∷ []))
    -- after head: start base and others: "<head></head><template/><table class=1 id=a>\u0000 x"
    ∷ (document false (start_tag (codes "head") [] ∷ end_tag (codes "head") ∷ closed_tag (codes "template") [] ∷ start_tag (codes "table") (attribute (codes "class") (codes "1") ∷ attribute (codes "id") (codes "a") ∷ []) ∷ Null ∷ Text (codes " x") ∷ Text [] ∷ End ∷ []))
    -- after head: using in head: "<!DOCTYPE html><head></head></template>\r\n</meta></title>"
    ∷ (document true (Doctype (record { name = (Some (codes "html")); public_id = None; system_id = None; force_quirks = false }) ∷ start_tag (codes "head") [] ∷ end_tag (codes "head") ∷ end_tag (codes "template") ∷ Text (codes "\n") ∷ end_tag (codes "meta") ∷ end_tag (codes "title") ∷ End ∷ []))
    -- after head: using in head: "<!DOCTYPE html><head></head></template>\n"
    ∷ (document false (Doctype (record { name = (Some (codes "html")); public_id = None; system_id = None; force_quirks = false }) ∷ start_tag (codes "head") [] ∷ end_tag (codes "head") ∷ end_tag (codes "template") ∷ Text (codes "\n") ∷ Text [] ∷ End ∷ []))
    -- after head: using in head: "<head></head></template><body>"
    ∷ (document false (start_tag (codes "head") [] ∷ end_tag (codes "head") ∷ end_tag (codes "template") ∷ start_tag (codes "body") [] ∷ End ∷ []))
    -- after head: end body html br: "</html> x"
    ∷ (document true (end_tag (codes "html") ∷ Text (codes " x") ∷ Text [] ∷ End ∷ []))
    -- after head: end body html br: "</html>\n"
    ∷ (document true (end_tag (codes "html") ∷ Text (codes "\n") ∷ Text [] ∷ End ∷ []))
    -- after head: end body html br: "</html>"
    ∷ (document true (end_tag (codes "html") ∷ End ∷ []))
    ∷ []

trees_31 : List (List ℕ)
trees_31 =
    (codes "| <html>\n|   <head>\n|   <frameset>\n|     class=\"2\"\n")
    ∷ (codes "| <html>\n|   <head>\n|   <frameset>\n|     <frame>\n")
    ∷ (codes "| <html>\n|   <head>\n|   <frameset>\n|     \" \"\n")
    ∷ (codes "| <html>\n|   <head>\n|     <link>\n|   <body>\n|     \"ab\"\n|     <link>\n|     \" \"\n")
    ∷ (codes "| <html>\n|   <head>\n|     <style>\n|       a=\"1\"\n|   \"\r\"\n|   <body>\n")
    ∷ (codes "| <html>\n|   <head>\n|     <template>\n|       content\n|         \" x\"\n|         <table>\n|           class=\"1\"\n|           id=\"a\"\n|   <body>\n")
    ∷ (codes "| <!DOCTYPE html>\n| <html>\n|   <head>\n|   \"\n\"\n|   <body>\n")
    ∷ (codes "| <!DOCTYPE html>\n| <html>\n|   <head>\n|   \"\n\"\n|   <body>\n")
    ∷ (codes "| <html>\n|   <head>\n|   <body>\n")
    ∷ (codes "| <html>\n|   <head>\n|   <body>\n|     \" x\"\n")
    ∷ (codes "| <html>\n|   <head>\n|   <body>\n|     \"\n\"\n")
    ∷ (codes "| <html>\n|   <head>\n|   <body>\n")
    ∷ []

built_31 : map shown_of rows_31 ≡ trees_31
unfolding rows_31 trees_31 adjusted_attributes adjusted_name adjusted_tag_name cased foreign_attributes math_attribute_names svg_attribute_names svg_tag_names added_after adopted ended_by entry_of furthest_block inner_loop nth_open opened_inside opened_outside outer_loop replaced process run start step told_all begins_with begins_with_one html_4_01_beginnings limited_quirks_beginnings means_limited_quirks means_quirks quirks_beginnings quirks_public_ids quirks_system_ids added_before built changed has_one_like lacking row_of tree_from without_node foreign_end are_among cleared count_after_marker count_alike has_attribute_like has_entry last_named reopened still_listed to_reopen with_entry without_earliest without_entry without_oldest item_met all_names breaks_out ends_scope ends_table_scope has_such is_among is_body_context is_formatting is_fostering is_implied is_implied_thoroughly is_listed is_row_context is_special kind_in kind_in_namespace kind_of may_stay_open namespace_of first_open foster_place_in has_in_scope has_open popped_to_first_in popped_until_in popped_while_in second_body without_open mode_of flushed_as_space flushed_fostered is_all_space mode_of_request reply_of value_of among attribute_lines comes_before indent shown shown_of sorted
built_31 = refl

rows_32 : List Case
rows_32 =
    -- after head: parse error ignore: "<!DOCTYPE html><head></head><head></head><head id=a class=1><head></head></head>\u0000 x <head xlink:href=x xml:lang=e>"
    (document true (Doctype (record { name = (Some (codes "html")); public_id = None; system_id = None; force_quirks = false }) ∷ start_tag (codes "head") [] ∷ end_tag (codes "head") ∷ start_tag (codes "head") [] ∷ end_tag (codes "head") ∷ start_tag (codes "head") (attribute (codes "id") (codes "a") ∷ attribute (codes "class") (codes "1") ∷ []) ∷ start_tag (codes "head") [] ∷ end_tag (codes "head") ∷ end_tag (codes "head") ∷ Null ∷ Text (codes " x ") ∷ start_tag (codes "head") (attribute (codes "xlink:href") (codes "x") ∷ attribute (codes "xml:lang") (codes "e") ∷ []) ∷ End ∷ []))
    -- after head: parse error ignore: "<!--c--></foreignobject></head><head xmlns=u xmlns:xlink=w><rp xlink:href=x xml:lang=e>"
    ∷ (document true (Comment (codes "c") ∷ end_tag (codes "foreignobject") ∷ end_tag (codes "head") ∷ start_tag (codes "head") (attribute (codes "xmlns") (codes "u") ∷ attribute (codes "xmlns:xlink") (codes "w") ∷ []) ∷ start_tag (codes "rp") (attribute (codes "xlink:href") (codes "x") ∷ attribute (codes "xml:lang") (codes "e") ∷ []) ∷ End ∷ []))
    -- after head: parse error ignore: "\r\n\n</feblend></head><head>z z<head id=a class=1><tr><rb>"
    ∷ (document false (Text (codes "\n\n") ∷ end_tag (codes "feblend") ∷ end_tag (codes "head") ∷ start_tag (codes "head") [] ∷ Text (codes "z z") ∷ start_tag (codes "head") (attribute (codes "id") (codes "a") ∷ attribute (codes "class") (codes "1") ∷ []) ∷ start_tag (codes "tr") [] ∷ start_tag (codes "rb") [] ∷ End ∷ []))
    -- after head: parse error ignore: "<!DOCTYPE html><head></head></mi>"
    ∷ (document true (Doctype (record { name = (Some (codes "html")); public_id = None; system_id = None; force_quirks = false }) ∷ start_tag (codes "head") [] ∷ end_tag (codes "head") ∷ end_tag (codes "mi") ∷ End ∷ []))
    -- after head: parse error ignore: "<!DOCTYPE html><head></head></tr>"
    ∷ (document false (Doctype (record { name = (Some (codes "html")); public_id = None; system_id = None; force_quirks = false }) ∷ start_tag (codes "head") [] ∷ end_tag (codes "head") ∷ end_tag (codes "tr") ∷ End ∷ []))
    -- after head: parse error ignore: "<!DOCTYPE x><head></head></form>"
    ∷ (document true (Doctype (record { name = (Some (codes "x")); public_id = None; system_id = None; force_quirks = false }) ∷ start_tag (codes "head") [] ∷ end_tag (codes "head") ∷ end_tag (codes "form") ∷ End ∷ []))
    -- in body: parse error ignore: "\n\nx\u0000"
    ∷ (fragment true Html (codes "th") [] (Text (codes "\n\nx") ∷ Null ∷ End ∷ []))
    -- in body: parse error ignore: "</math>\u0000 "
    ∷ (document false (end_tag (codes "math") ∷ Null ∷ Text (codes " ") ∷ Text [] ∷ End ∷ []))
    -- in body: parse error ignore: "<head>a\u0000b"
    ∷ (document false (start_tag (codes "head") [] ∷ Text (codes "a") ∷ Null ∷ Text (codes "b") ∷ Text [] ∷ End ∷ []))
    -- in body: whitespace: "\t"
    ∷ (fragment false Svg (codes "title") [] (Text (codes "\t") ∷ Text [] ∷ End ∷ []))
    -- in body: whitespace: "<ol>\f"
    ∷ (document false (start_tag (codes "ol") [] ∷ Text (12 ∷ []) ∷ Text [] ∷ End ∷ []))
    -- in body: whitespace: "a\u0000b "
    ∷ (document false (Text (codes "a") ∷ Null ∷ Text (codes "b ") ∷ Text [] ∷ End ∷ []))
    ∷ []

trees_32 : List (List ℕ)
trees_32 =
    (codes "| <!DOCTYPE html>\n| <html>\n|   <head>\n|   <body>\n|     \" x \"\n")
    ∷ (codes "| <!-- c -->\n| <html>\n|   <head>\n|   <body>\n|     <rp>\n|       xlink:href=\"x\"\n|       xml:lang=\"e\"\n")
    ∷ (codes "| <html>\n|   <head>\n|   <body>\n|     \"z z\"\n|     <rb>\n")
    ∷ (codes "| <!DOCTYPE html>\n| <html>\n|   <head>\n|   <body>\n")
    ∷ (codes "| <!DOCTYPE html>\n| <html>\n|   <head>\n|   <body>\n")
    ∷ (codes "| <!DOCTYPE x>\n| <html>\n|   <head>\n|   <body>\n")
    ∷ (codes "| \"\n\nx\"\n")
    ∷ (codes "| <html>\n|   <head>\n|   <body>\n|     \" \"\n")
    ∷ (codes "| <html>\n|   <head>\n|   <body>\n|     \"ab\"\n")
    ∷ (codes "| \"\t\"\n")
    ∷ (124 ∷ 32 ∷ 60 ∷ 104 ∷ 116 ∷ 109 ∷ 108 ∷ 62 ∷ 10 ∷ 124 ∷ 32 ∷ 32 ∷ 32 ∷ 60 ∷ 104 ∷ 101 ∷ 97 ∷ 100 ∷ 62 ∷ 10 ∷ 124 ∷ 32 ∷ 32 ∷ 32 ∷ 60 ∷ 98 ∷ 111 ∷ 100 ∷ 121 ∷ 62 ∷ 10 ∷ 124 ∷ 32 ∷ 32 ∷ 32 ∷ 32 ∷ 32 ∷ 60 ∷ 111 ∷ 108 ∷ 62 ∷ 10 ∷ 124 ∷ 32 ∷ 32 ∷ 32 ∷ 32 ∷ 32 ∷ 32 ∷ 32 ∷ 34 ∷ 12 ∷ 34 ∷ 10 ∷ [])
    ∷ (codes "| <html>\n|   <head>\n|   <body>\n|     \"ab \"\n")
    ∷ []

built_32 : map shown_of rows_32 ≡ trees_32
unfolding rows_32 trees_32 adjusted_attributes adjusted_name adjusted_tag_name cased foreign_attributes math_attribute_names svg_attribute_names svg_tag_names added_after adopted ended_by entry_of furthest_block inner_loop nth_open opened_inside opened_outside outer_loop replaced process run start step told_all begins_with begins_with_one html_4_01_beginnings limited_quirks_beginnings means_limited_quirks means_quirks quirks_beginnings quirks_public_ids quirks_system_ids added_before built changed has_one_like lacking row_of tree_from without_node foreign_end are_among cleared count_after_marker count_alike has_attribute_like has_entry last_named reopened still_listed to_reopen with_entry without_earliest without_entry without_oldest item_met all_names breaks_out ends_scope ends_table_scope has_such is_among is_body_context is_formatting is_fostering is_implied is_implied_thoroughly is_listed is_row_context is_special kind_in kind_in_namespace kind_of may_stay_open namespace_of first_open foster_place_in has_in_scope has_open popped_to_first_in popped_until_in popped_while_in second_body without_open mode_of flushed_as_space flushed_fostered is_all_space mode_of_request reply_of value_of among attribute_lines comes_before indent shown shown_of sorted
built_32 = refl

rows_33 : List Case
rows_33 =
    -- in body: any other character: "\n\nx"
    (document true (Text (codes "\n\nx") ∷ Text [] ∷ End ∷ []))
    -- in body: any other character: " x\f"
    ∷ (document true (Text (32 ∷ 120 ∷ 12 ∷ []) ∷ Text [] ∷ End ∷ []))
    -- in body: any other character: "a\u0000b"
    ∷ (document false (Text (codes "a") ∷ Null ∷ Text (codes "b") ∷ Text [] ∷ End ∷ []))
    -- in body: insert a comment: "\fx <!--c-->"
    ∷ (fragment false Html (codes "h1") [] (Text (12 ∷ 120 ∷ 32 ∷ []) ∷ Comment (codes "c") ∷ End ∷ []))
    -- in body: insert a comment: " </dl> x<!--c-->"
    ∷ (document true (Text (codes " ") ∷ end_tag (codes "dl") ∷ Text (codes " x") ∷ Comment (codes "c") ∷ End ∷ []))
    -- in body: insert a comment: "<!--c-->a\u0000b"
    ∷ (fragment true Html (codes "select") [] (Comment (codes "c") ∷ Text (codes "a") ∷ Null ∷ Text (codes "b") ∷ Text [] ∷ End ∷ []))
    -- in body: parse error ignore: "\u0000 <a><!DOCTYPE x>"
    ∷ (fragment false Html (codes "col") [] (Null ∷ Text (codes " ") ∷ start_tag (codes "a") [] ∷ Doctype (record { name = (Some (codes "x")); public_id = None; system_id = None; force_quirks = false }) ∷ End ∷ []))
    -- in body: parse error ignore: "x<!DOCTYPE html></mi>"
    ∷ (document false (Text (codes "x") ∷ Doctype (record { name = (Some (codes "html")); public_id = None; system_id = None; force_quirks = false }) ∷ end_tag (codes "mi") ∷ End ∷ []))
    -- in body: parse error ignore: "x<!DOCTYPE html></tr>"
    ∷ (document true (Text (codes "x") ∷ Doctype (record { name = (Some (codes "html")); public_id = None; system_id = None; force_quirks = false }) ∷ end_tag (codes "tr") ∷ End ∷ []))
    -- in body: start html: "</a><html></html>"
    ∷ (fragment false Html (codes "frame") [] (end_tag (codes "a") ∷ start_tag (codes "html") [] ∷ end_tag (codes "html") ∷ End ∷ []))
    -- in body: start html: "</frameset><html>"
    ∷ (fragment true Html (codes "td") [] (end_tag (codes "frameset") ∷ start_tag (codes "html") [] ∷ End ∷ []))
    -- in body: start html: "x<!DOCTYPE><html><dd>"
    ∷ (document false (Text (codes "x") ∷ Doctype (record { name = None; public_id = None; system_id = None; force_quirks = true }) ∷ start_tag (codes "html") [] ∷ start_tag (codes "dd") [] ∷ End ∷ []))
    ∷ []

trees_33 : List (List ℕ)
trees_33 =
    (codes "| <html>\n|   <head>\n|   <body>\n|     \"x\"\n")
    ∷ (124 ∷ 32 ∷ 60 ∷ 104 ∷ 116 ∷ 109 ∷ 108 ∷ 62 ∷ 10 ∷ 124 ∷ 32 ∷ 32 ∷ 32 ∷ 60 ∷ 104 ∷ 101 ∷ 97 ∷ 100 ∷ 62 ∷ 10 ∷ 124 ∷ 32 ∷ 32 ∷ 32 ∷ 60 ∷ 98 ∷ 111 ∷ 100 ∷ 121 ∷ 62 ∷ 10 ∷ 124 ∷ 32 ∷ 32 ∷ 32 ∷ 32 ∷ 32 ∷ 34 ∷ 120 ∷ 12 ∷ 34 ∷ 10 ∷ [])
    ∷ (codes "| <html>\n|   <head>\n|   <body>\n|     \"ab\"\n")
    ∷ (124 ∷ 32 ∷ 34 ∷ 12 ∷ 120 ∷ 32 ∷ 34 ∷ 10 ∷ 124 ∷ 32 ∷ 60 ∷ 33 ∷ 45 ∷ 45 ∷ 32 ∷ 99 ∷ 32 ∷ 45 ∷ 45 ∷ 62 ∷ 10 ∷ [])
    ∷ (codes "| <html>\n|   <head>\n|   <body>\n|     \"x\"\n|     <!-- c -->\n")
    ∷ (codes "| <!-- c -->\n| \"ab\"\n")
    ∷ (codes "| \" \"\n| <a>\n")
    ∷ (codes "| <html>\n|   <head>\n|   <body>\n|     \"x\"\n")
    ∷ (codes "| <html>\n|   <head>\n|   <body>\n|     \"x\"\n")
    ∷ []
    ∷ []
    ∷ (codes "| <html>\n|   <head>\n|   <body>\n|     \"x\"\n|     <dd>\n")
    ∷ []

built_33 : map shown_of rows_33 ≡ trees_33
unfolding rows_33 trees_33 adjusted_attributes adjusted_name adjusted_tag_name cased foreign_attributes math_attribute_names svg_attribute_names svg_tag_names added_after adopted ended_by entry_of furthest_block inner_loop nth_open opened_inside opened_outside outer_loop replaced process run start step told_all begins_with begins_with_one html_4_01_beginnings limited_quirks_beginnings means_limited_quirks means_quirks quirks_beginnings quirks_public_ids quirks_system_ids added_before built changed has_one_like lacking row_of tree_from without_node foreign_end are_among cleared count_after_marker count_alike has_attribute_like has_entry last_named reopened still_listed to_reopen with_entry without_earliest without_entry without_oldest item_met all_names breaks_out ends_scope ends_table_scope has_such is_among is_body_context is_formatting is_fostering is_implied is_implied_thoroughly is_listed is_row_context is_special kind_in kind_in_namespace kind_of may_stay_open namespace_of first_open foster_place_in has_in_scope has_open popped_to_first_in popped_until_in popped_while_in second_body without_open mode_of flushed_as_space flushed_fostered is_all_space mode_of_request reply_of value_of among attribute_lines comes_before indent shown shown_of sorted
built_33 = refl

rows_34 : List Case
rows_34 =
    -- in body: using in head: "\u0000 &amp;<title>"
    (document false (Null ∷ Text (codes " &") ∷ start_tag (codes "title") [] ∷ End ∷ []))
    -- in body: using in head: "<meta>x "
    ∷ (fragment false Html (codes "select") [] (start_tag (codes "meta") [] ∷ Text (codes "x ") ∷ Text [] ∷ End ∷ []))
    -- in body: using in head: "<style>"
    ∷ (fragment false Svg (codes "desc") [] (start_tag (codes "style") [] ∷ End ∷ []))
    -- in body: using in head: "<!DOCTYPE><div></template>  "
    ∷ (document true (Doctype (record { name = None; public_id = None; system_id = None; force_quirks = true }) ∷ start_tag (codes "div") [] ∷ end_tag (codes "template") ∷ Text (codes "  ") ∷ Text [] ∷ End ∷ []))
    -- in body: using in head: "</g>&#13;</template> "
    ∷ (fragment false Html (codes "head") [] (end_tag (codes "g") ∷ Text (codes "\r") ∷ end_tag (codes "template") ∷ Text (codes " ") ∷ Text [] ∷ End ∷ []))
    -- in body: using in head: "</template><math>"
    ∷ (fragment false Html (codes "ruby") [] (end_tag (codes "template") ∷ start_tag (codes "math") [] ∷ End ∷ []))
    -- in body: start body: "<body></body><br>"
    ∷ (fragment false Html (codes "p") [] (start_tag (codes "body") [] ∷ end_tag (codes "body") ∷ start_tag (codes "br") [] ∷ End ∷ []))
    -- in body: start body: "<!--c--> x<body>"
    ∷ (fragment false Svg (codes "a") [] (Comment (codes "c") ∷ Text (codes " x") ∷ start_tag (codes "body") [] ∷ End ∷ []))
    -- in body: start body: "<body></body>\u0000 "
    ∷ (fragment false Html (codes "pre") [] (start_tag (codes "body") [] ∷ end_tag (codes "body") ∷ Null ∷ Text (codes " ") ∷ Text [] ∷ End ∷ []))
    -- in body: start frameset: "<a><frameset>x <tr></frameset>"
    ∷ (document true (start_tag (codes "a") [] ∷ start_tag (codes "frameset") [] ∷ Text (codes "x ") ∷ start_tag (codes "tr") [] ∷ end_tag (codes "frameset") ∷ End ∷ []))
    -- in body: start frameset: "<!DOCTYPE html>x <frameset/>"
    ∷ (document true (Doctype (record { name = (Some (codes "html")); public_id = None; system_id = None; force_quirks = false }) ∷ Text (codes "x ") ∷ closed_tag (codes "frameset") [] ∷ End ∷ []))
    -- in body: start frameset: "<p><menuitem><frameset> x"
    ∷ (document false (start_tag (codes "p") [] ∷ start_tag (codes "menuitem") [] ∷ start_tag (codes "frameset") [] ∷ Text (codes " x") ∷ Text [] ∷ End ∷ []))
    ∷ []

trees_34 : List (List ℕ)
trees_34 =
    (codes "| <html>\n|   <head>\n|   <body>\n|     \" &\"\n|     <title>\n")
    ∷ (codes "| <meta>\n| \"x \"\n")
    ∷ (codes "| <style>\n")
    ∷ (codes "| <!DOCTYPE >\n| <html>\n|   <head>\n|   <body>\n|     <div>\n|       \"  \"\n")
    ∷ (codes "| \"\r \"\n")
    ∷ (codes "| <math math>\n")
    ∷ (codes "| <br>\n")
    ∷ (codes "| <!-- c -->\n| \" x\"\n")
    ∷ (codes "| \" \"\n")
    ∷ (codes "| <html>\n|   <head>\n|   <frameset>\n|     \" \"\n")
    ∷ (codes "| <!DOCTYPE html>\n| <html>\n|   <head>\n|   <body>\n|     \"x \"\n")
    ∷ (codes "| <html>\n|   <head>\n|   <frameset>\n|     \" \"\n")
    ∷ []

built_34 : map shown_of rows_34 ≡ trees_34
unfolding rows_34 trees_34 adjusted_attributes adjusted_name adjusted_tag_name cased foreign_attributes math_attribute_names svg_attribute_names svg_tag_names added_after adopted ended_by entry_of furthest_block inner_loop nth_open opened_inside opened_outside outer_loop replaced process run start step told_all begins_with begins_with_one html_4_01_beginnings limited_quirks_beginnings means_limited_quirks means_quirks quirks_beginnings quirks_public_ids quirks_system_ids added_before built changed has_one_like lacking row_of tree_from without_node foreign_end are_among cleared count_after_marker count_alike has_attribute_like has_entry last_named reopened still_listed to_reopen with_entry without_earliest without_entry without_oldest item_met all_names breaks_out ends_scope ends_table_scope has_such is_among is_body_context is_formatting is_fostering is_implied is_implied_thoroughly is_listed is_row_context is_special kind_in kind_in_namespace kind_of may_stay_open namespace_of first_open foster_place_in has_in_scope has_open popped_to_first_in popped_until_in popped_while_in second_body without_open mode_of flushed_as_space flushed_fostered is_all_space mode_of_request reply_of value_of among attribute_lines comes_before indent shown shown_of sorted
built_34 = refl

rows_35 : List Case
rows_35 =
    -- in body: end body: "</html></b></body>"
    (document true (end_tag (codes "html") ∷ end_tag (codes "b") ∷ end_tag (codes "body") ∷ End ∷ []))
    -- in body: end body: "</body></html>z z"
    ∷ (document false (end_tag (codes "body") ∷ end_tag (codes "html") ∷ Text (codes "z z") ∷ Text [] ∷ End ∷ []))
    -- in body: end body: "<body></body></p>"
    ∷ (document false (start_tag (codes "body") [] ∷ end_tag (codes "body") ∷ end_tag (codes "p") ∷ End ∷ []))
    -- in body: end html: "</html>\n\nx<ul>"
    ∷ (document true (end_tag (codes "html") ∷ Text (codes "\n\nx") ∷ start_tag (codes "ul") [] ∷ End ∷ []))
    -- in body: start address and others: "<article>"
    ∷ (document false (start_tag (codes "article") [] ∷ End ∷ []))
    -- in body: start address and others: "<dl>"
    ∷ (fragment true Html (codes "b") [] (start_tag (codes "dl") [] ∷ End ∷ []))
    -- in body: start address and others: "<p>\u0000"
    ∷ (fragment true Svg (codes "title") [] (start_tag (codes "p") [] ∷ Null ∷ End ∷ []))
    -- in body: start heading: "<!DOCTYPE html><h4>"
    ∷ (document false (Doctype (record { name = (Some (codes "html")); public_id = None; system_id = None; force_quirks = false }) ∷ start_tag (codes "h4") [] ∷ End ∷ []))
    -- in body: start heading: "\t<h3 a=1 a=2>"
    ∷ (fragment false MathMl (codes "annotation-xml") [] (Text (codes "\t") ∷ start_tag (codes "h3") (attribute (codes "a") (codes "1") ∷ []) ∷ End ∷ []))
    -- in body: start heading: "<!DOCTYPE><h3><h3>"
    ∷ (document true (Doctype (record { name = None; public_id = None; system_id = None; force_quirks = true }) ∷ start_tag (codes "h3") [] ∷ start_tag (codes "h3") [] ∷ End ∷ []))
    -- in body: start pre listing: "<!DOCTYPE html>&amp;<td><listing></lineargradient>"
    ∷ (document false (Doctype (record { name = (Some (codes "html")); public_id = None; system_id = None; force_quirks = false }) ∷ Text (codes "&") ∷ start_tag (codes "td") [] ∷ start_tag (codes "listing") [] ∷ end_tag (codes "lineargradient") ∷ End ∷ []))
    -- in body: start pre listing: "<!DOCTYPE html PUBLIC 'HTML'></pre><pre>a\u0000ba\u0000b"
    ∷ (document false (Doctype (record { name = (Some (codes "html")); public_id = (Some (codes "HTML")); system_id = None; force_quirks = false }) ∷ end_tag (codes "pre") ∷ start_tag (codes "pre") [] ∷ Text (codes "a") ∷ Null ∷ Text (codes "ba") ∷ Null ∷ Text (codes "b") ∷ Text [] ∷ End ∷ []))
    ∷ []

trees_35 : List (List ℕ)
trees_35 =
    (codes "| <html>\n|   <head>\n|   <body>\n")
    ∷ (codes "| <html>\n|   <head>\n|   <body>\n|     \"z z\"\n")
    ∷ (codes "| <html>\n|   <head>\n|   <body>\n|     <p>\n")
    ∷ (codes "| <html>\n|   <head>\n|   <body>\n|     \"\n\nx\"\n|     <ul>\n")
    ∷ (codes "| <html>\n|   <head>\n|   <body>\n|     <article>\n")
    ∷ (codes "| <dl>\n")
    ∷ (codes "| <p>\n")
    ∷ (codes "| <!DOCTYPE html>\n| <html>\n|   <head>\n|   <body>\n|     <h4>\n")
    ∷ (codes "| \"\t\"\n| <h3>\n|   a=\"1\"\n")
    ∷ (codes "| <!DOCTYPE >\n| <html>\n|   <head>\n|   <body>\n|     <h3>\n|     <h3>\n")
    ∷ (codes "| <!DOCTYPE html>\n| <html>\n|   <head>\n|   <body>\n|     \"&\"\n|     <listing>\n")
    ∷ (codes "| <!DOCTYPE html \"HTML\" \"\">\n| <html>\n|   <head>\n|   <body>\n|     <pre>\n|       \"abab\"\n")
    ∷ []

built_35 : map shown_of rows_35 ≡ trees_35
unfolding rows_35 trees_35 adjusted_attributes adjusted_name adjusted_tag_name cased foreign_attributes math_attribute_names svg_attribute_names svg_tag_names added_after adopted ended_by entry_of furthest_block inner_loop nth_open opened_inside opened_outside outer_loop replaced process run start step told_all begins_with begins_with_one html_4_01_beginnings limited_quirks_beginnings means_limited_quirks means_quirks quirks_beginnings quirks_public_ids quirks_system_ids added_before built changed has_one_like lacking row_of tree_from without_node foreign_end are_among cleared count_after_marker count_alike has_attribute_like has_entry last_named reopened still_listed to_reopen with_entry without_earliest without_entry without_oldest item_met all_names breaks_out ends_scope ends_table_scope has_such is_among is_body_context is_formatting is_fostering is_implied is_implied_thoroughly is_listed is_row_context is_special kind_in kind_in_namespace kind_of may_stay_open namespace_of first_open foster_place_in has_in_scope has_open popped_to_first_in popped_until_in popped_while_in second_body without_open mode_of flushed_as_space flushed_fostered is_all_space mode_of_request reply_of value_of among attribute_lines comes_before indent shown shown_of sorted
built_35 = refl

rows_36 : List Case
rows_36 =
    -- in body: start pre listing: "<!DOCTYPE html><ul/>\u0000 <pre></pre></ul>\t<aside>"
    (document true (Doctype (record { name = (Some (codes "html")); public_id = None; system_id = None; force_quirks = false }) ∷ closed_tag (codes "ul") [] ∷ Null ∷ Text (codes " ") ∷ start_tag (codes "pre") [] ∷ end_tag (codes "pre") ∷ end_tag (codes "ul") ∷ Text (codes "\t") ∷ start_tag (codes "aside") [] ∷ End ∷ []))
    -- in body: start form: " x <form><table>"
    ∷ (fragment true Html (codes "select") [] (Text (codes " x ") ∷ start_tag (codes "form") [] ∷ start_tag (codes "table") [] ∷ End ∷ []))
    -- in body: start form: "<form><table>\f\r\n"
    ∷ (fragment false Html (codes "caption") [] (start_tag (codes "form") [] ∷ start_tag (codes "table") [] ∷ Text (12 ∷ 10 ∷ []) ∷ Text [] ∷ End ∷ []))
    -- in body: start form: "<form><table><!--c-->"
    ∷ (document true (start_tag (codes "form") [] ∷ start_tag (codes "table") [] ∷ Comment (codes "c") ∷ End ∷ []))
    -- in body: start li: "</base><li><li class=1>"
    ∷ (fragment true Html (codes "input") [] (end_tag (codes "base") ∷ start_tag (codes "li") [] ∷ start_tag (codes "li") (attribute (codes "class") (codes "1") ∷ []) ∷ End ∷ []))
    -- in body: start li: " </fieldset><li>&amp;"
    ∷ (fragment true Svg (codes "a") [] (Text (codes " ") ∷ end_tag (codes "fieldset") ∷ start_tag (codes "li") [] ∷ Text (codes "&") ∷ End ∷ []))
    -- in body: start li: "<!DOCTYPE html><meta><li>"
    ∷ (document false (Doctype (record { name = (Some (codes "html")); public_id = None; system_id = None; force_quirks = false }) ∷ start_tag (codes "meta") [] ∷ start_tag (codes "li") [] ∷ End ∷ []))
    -- in body: start dd dt: "<!DOCTYPE html><dd>"
    ∷ (document true (Doctype (record { name = (Some (codes "html")); public_id = None; system_id = None; force_quirks = false }) ∷ start_tag (codes "dd") [] ∷ End ∷ []))
    -- in body: start dd dt: "</dl><dt></dt>"
    ∷ (fragment true Html (codes "object") [] (end_tag (codes "dl") ∷ start_tag (codes "dt") [] ∷ end_tag (codes "dt") ∷ End ∷ []))
    -- in body: start dd dt: "</td>a\u0000b<dt></dt>"
    ∷ (document false (end_tag (codes "td") ∷ Text (codes "a") ∷ Null ∷ Text (codes "b") ∷ start_tag (codes "dt") [] ∷ end_tag (codes "dt") ∷ End ∷ []))
    -- in body: start plaintext: "<plaintext definitionurl=u viewbox=v></plaintext>"
    ∷ (fragment false Html (codes "div") [] (start_tag (codes "plaintext") (attribute (codes "definitionurl") (codes "u") ∷ attribute (codes "viewbox") (codes "v") ∷ []) ∷ Text (codes "</plaintext>") ∷ Text [] ∷ End ∷ []))
    -- in body: start plaintext: "<plaintext><plaintext><button><button></td>"
    ∷ (fragment true Html (codes "col") [] (start_tag (codes "plaintext") [] ∷ Text (codes "<plaintext><button><button></td>") ∷ Text [] ∷ End ∷ []))
    ∷ []

trees_36 : List (List ℕ)
trees_36 =
    (codes "| <!DOCTYPE html>\n| <html>\n|   <head>\n|   <body>\n|     <ul>\n|       \" \"\n|       <pre>\n|     \"\t\"\n|     <aside>\n")
    ∷ (codes "| \" x \"\n| <form>\n|   <table>\n")
    ∷ (124 ∷ 32 ∷ 60 ∷ 102 ∷ 111 ∷ 114 ∷ 109 ∷ 62 ∷ 10 ∷ 124 ∷ 32 ∷ 32 ∷ 32 ∷ 60 ∷ 116 ∷ 97 ∷ 98 ∷ 108 ∷ 101 ∷ 62 ∷ 10 ∷ 124 ∷ 32 ∷ 32 ∷ 32 ∷ 32 ∷ 32 ∷ 34 ∷ 12 ∷ 10 ∷ 34 ∷ 10 ∷ [])
    ∷ (codes "| <html>\n|   <head>\n|   <body>\n|     <form>\n|       <table>\n|         <!-- c -->\n")
    ∷ (codes "| <li>\n| <li>\n|   class=\"1\"\n")
    ∷ (codes "| \" \"\n| <li>\n|   \"&\"\n")
    ∷ (codes "| <!DOCTYPE html>\n| <html>\n|   <head>\n|     <meta>\n|   <body>\n|     <li>\n")
    ∷ (codes "| <!DOCTYPE html>\n| <html>\n|   <head>\n|   <body>\n|     <dd>\n")
    ∷ (codes "| <dt>\n")
    ∷ (codes "| <html>\n|   <head>\n|   <body>\n|     \"ab\"\n|     <dt>\n")
    ∷ (codes "| <plaintext>\n|   definitionurl=\"u\"\n|   viewbox=\"v\"\n|   \"</plaintext>\"\n")
    ∷ (codes "| <plaintext>\n|   \"<plaintext><button><button></td>\"\n")
    ∷ []

built_36 : map shown_of rows_36 ≡ trees_36
unfolding rows_36 trees_36 adjusted_attributes adjusted_name adjusted_tag_name cased foreign_attributes math_attribute_names svg_attribute_names svg_tag_names added_after adopted ended_by entry_of furthest_block inner_loop nth_open opened_inside opened_outside outer_loop replaced process run start step told_all begins_with begins_with_one html_4_01_beginnings limited_quirks_beginnings means_limited_quirks means_quirks quirks_beginnings quirks_public_ids quirks_system_ids added_before built changed has_one_like lacking row_of tree_from without_node foreign_end are_among cleared count_after_marker count_alike has_attribute_like has_entry last_named reopened still_listed to_reopen with_entry without_earliest without_entry without_oldest item_met all_names breaks_out ends_scope ends_table_scope has_such is_among is_body_context is_formatting is_fostering is_implied is_implied_thoroughly is_listed is_row_context is_special kind_in kind_in_namespace kind_of may_stay_open namespace_of first_open foster_place_in has_in_scope has_open popped_to_first_in popped_until_in popped_while_in second_body without_open mode_of flushed_as_space flushed_fostered is_all_space mode_of_request reply_of value_of among attribute_lines comes_before indent shown shown_of sorted
built_36 = refl

rows_37 : List Case
rows_37 =
    -- in body: start plaintext: "<plaintext><b class=1><!DOCTYPE html><b>"
    (fragment true Html (codes "marquee") [] (start_tag (codes "plaintext") [] ∷ Text (codes "<b class=1><!DOCTYPE html><b>") ∷ Text [] ∷ End ∷ []))
    -- in body: start button: "<!--c--><button class=1>"
    ∷ (document true (Comment (codes "c") ∷ start_tag (codes "button") (attribute (codes "class") (codes "1") ∷ []) ∷ End ∷ []))
    -- in body: start button: "<!--c--><a><ul><button>"
    ∷ (document false (Comment (codes "c") ∷ start_tag (codes "a") [] ∷ start_tag (codes "ul") [] ∷ start_tag (codes "button") [] ∷ End ∷ []))
    -- in body: start button: "<!DOCTYPE html><button>"
    ∷ (document true (Doctype (record { name = (Some (codes "html")); public_id = None; system_id = None; force_quirks = false }) ∷ start_tag (codes "button") [] ∷ End ∷ []))
    -- in body: end address and others: "</button>"
    ∷ (fragment false Html (codes "button") [] (end_tag (codes "button") ∷ End ∷ []))
    -- in body: end address and others: "</dialog>"
    ∷ (fragment false Html (codes "rt") [] (end_tag (codes "dialog") ∷ End ∷ []))
    -- in body: end address and others: "</dl><tt>"
    ∷ (fragment true Html (codes "ul") [] (end_tag (codes "dl") ∷ start_tag (codes "tt") [] ∷ End ∷ []))
    -- in body: end form: "<form><table>\n</form>"
    ∷ (fragment false Html (codes "div") [] (start_tag (codes "form") [] ∷ start_tag (codes "table") [] ∷ Text (codes "\n") ∷ end_tag (codes "form") ∷ End ∷ []))
    -- in body: end form: "</form>z z\f</output>"
    ∷ (fragment true Html (codes "td") [] (end_tag (codes "form") ∷ Text (122 ∷ 32 ∷ 122 ∷ 12 ∷ []) ∷ end_tag (codes "output") ∷ End ∷ []))
    -- in body: end form: "<body></body></form>"
    ∷ (fragment true Html (codes "input") [] (start_tag (codes "body") [] ∷ end_tag (codes "body") ∷ end_tag (codes "form") ∷ End ∷ []))
    -- in body: end p: "</p></big>"
    ∷ (fragment false MathMl (codes "mi") [] (end_tag (codes "p") ∷ end_tag (codes "big") ∷ End ∷ []))
    -- in body: end p: "</p><p></p></p>"
    ∷ (document true (end_tag (codes "p") ∷ start_tag (codes "p") [] ∷ end_tag (codes "p") ∷ end_tag (codes "p") ∷ End ∷ []))
    ∷ []

trees_37 : List (List ℕ)
trees_37 =
    (codes "| <plaintext>\n|   \"<b class=1><!DOCTYPE html><b>\"\n")
    ∷ (codes "| <!-- c -->\n| <html>\n|   <head>\n|   <body>\n|     <button>\n|       class=\"1\"\n")
    ∷ (codes "| <!-- c -->\n| <html>\n|   <head>\n|   <body>\n|     <a>\n|       <ul>\n|         <button>\n")
    ∷ (codes "| <!DOCTYPE html>\n| <html>\n|   <head>\n|   <body>\n|     <button>\n")
    ∷ []
    ∷ []
    ∷ (codes "| <tt>\n")
    ∷ (codes "| <form>\n|   <table>\n|     \"\n\"\n")
    ∷ (124 ∷ 32 ∷ 34 ∷ 122 ∷ 32 ∷ 122 ∷ 12 ∷ 34 ∷ 10 ∷ [])
    ∷ []
    ∷ (codes "| <p>\n")
    ∷ (codes "| <html>\n|   <head>\n|   <body>\n|     <p>\n|     <p>\n")
    ∷ []

built_37 : map shown_of rows_37 ≡ trees_37
unfolding rows_37 trees_37 adjusted_attributes adjusted_name adjusted_tag_name cased foreign_attributes math_attribute_names svg_attribute_names svg_tag_names added_after adopted ended_by entry_of furthest_block inner_loop nth_open opened_inside opened_outside outer_loop replaced process run start step told_all begins_with begins_with_one html_4_01_beginnings limited_quirks_beginnings means_limited_quirks means_quirks quirks_beginnings quirks_public_ids quirks_system_ids added_before built changed has_one_like lacking row_of tree_from without_node foreign_end are_among cleared count_after_marker count_alike has_attribute_like has_entry last_named reopened still_listed to_reopen with_entry without_earliest without_entry without_oldest item_met all_names breaks_out ends_scope ends_table_scope has_such is_among is_body_context is_formatting is_fostering is_implied is_implied_thoroughly is_listed is_row_context is_special kind_in kind_in_namespace kind_of may_stay_open namespace_of first_open foster_place_in has_in_scope has_open popped_to_first_in popped_until_in popped_while_in second_body without_open mode_of flushed_as_space flushed_fostered is_all_space mode_of_request reply_of value_of among attribute_lines comes_before indent shown shown_of sorted
built_37 = refl

rows_38 : List Case
rows_38 =
    -- in body: end p: "<ruby></p>"
    (fragment false Html (codes "tr") [] (start_tag (codes "ruby") [] ∷ end_tag (codes "p") ∷ End ∷ []))
    -- in body: end li: "</svg><![CDATA[<p>]]></li><li a=1 a=2><svg>"
    ∷ (fragment false Html (codes "math") [] (end_tag (codes "svg") ∷ Comment (codes "[CDATA[<p") ∷ Text (codes "]]>") ∷ end_tag (codes "li") ∷ start_tag (codes "li") (attribute (codes "a") (codes "1") ∷ []) ∷ start_tag (codes "svg") [] ∷ End ∷ []))
    -- in body: end li: "<!DOCTYPE html><li></li>\n\nx x</li></li></li>"
    ∷ (document true (Doctype (record { name = (Some (codes "html")); public_id = None; system_id = None; force_quirks = false }) ∷ start_tag (codes "li") [] ∷ end_tag (codes "li") ∷ Text (codes "\n\nx x") ∷ end_tag (codes "li") ∷ end_tag (codes "li") ∷ end_tag (codes "li") ∷ End ∷ []))
    -- in body: end li: "<!DOCTYPE><html class=1><b/></li>"
    ∷ (document true (Doctype (record { name = None; public_id = None; system_id = None; force_quirks = true }) ∷ start_tag (codes "html") (attribute (codes "class") (codes "1") ∷ []) ∷ closed_tag (codes "b") [] ∷ end_tag (codes "li") ∷ End ∷ []))
    -- in body: end dd dt: "<keygen> a\u0000b</dt>\r\n\t"
    ∷ (document false (start_tag (codes "keygen") [] ∷ Text (codes " a") ∷ Null ∷ Text (codes "b") ∷ end_tag (codes "dt") ∷ Text (codes "\n\t") ∷ Text [] ∷ End ∷ []))
    -- in body: end dd dt: "x  x</dd></output>"
    ∷ (document false (Text (codes "x  x") ∷ end_tag (codes "dd") ∷ end_tag (codes "output") ∷ End ∷ []))
    -- in body: end dd dt: "</form></dt>"
    ∷ (fragment true Html (codes "rt") [] (end_tag (codes "form") ∷ end_tag (codes "dt") ∷ End ∷ []))
    -- in body: end heading: "x</html><td><h2 a=1 a=2></h2>"
    ∷ (document true (Text (codes "x") ∷ end_tag (codes "html") ∷ start_tag (codes "td") [] ∷ start_tag (codes "h2") (attribute (codes "a") (codes "1") ∷ []) ∷ end_tag (codes "h2") ∷ End ∷ []))
    -- in body: end heading: "</rp><!DOCTYPE x></h2>"
    ∷ (fragment false Html (codes "form") [] (end_tag (codes "rp") ∷ Doctype (record { name = (Some (codes "x")); public_id = None; system_id = None; force_quirks = false }) ∷ end_tag (codes "h2") ∷ End ∷ []))
    -- in body: end heading: "<h6></h6><![CDATA[<p>]]>z z"
    ∷ (document true (start_tag (codes "h6") [] ∷ end_tag (codes "h6") ∷ Comment (codes "[CDATA[<p") ∷ Text (codes "]]>z z") ∷ Text [] ∷ End ∷ []))
    -- in body: end sarcasm: "<!DOCTYPE html><sarcasm a=1 a=2></sarcasm><p></p></math><frameset></noframes></p></col><frame xmlns=u xmlns:xlink=w>"
    ∷ (document false (Doctype (record { name = (Some (codes "html")); public_id = None; system_id = None; force_quirks = false }) ∷ start_tag (codes "sarcasm") (attribute (codes "a") (codes "1") ∷ []) ∷ end_tag (codes "sarcasm") ∷ start_tag (codes "p") [] ∷ end_tag (codes "p") ∷ end_tag (codes "math") ∷ start_tag (codes "frameset") [] ∷ end_tag (codes "noframes") ∷ end_tag (codes "p") ∷ end_tag (codes "col") ∷ start_tag (codes "frame") (attribute (codes "xmlns") (codes "u") ∷ attribute (codes "xmlns:xlink") (codes "w") ∷ []) ∷ End ∷ []))
    -- in body: end sarcasm: "<font xlink:href=x xml:lang=e><table><?xml a?><sarcasm><sub/></sarcasm><font definitionurl=u viewbox=v>"
    ∷ (document false (start_tag (codes "font") (attribute (codes "xlink:href") (codes "x") ∷ attribute (codes "xml:lang") (codes "e") ∷ []) ∷ start_tag (codes "table") [] ∷ Instruction (codes "xml a?") ∷ start_tag (codes "sarcasm") [] ∷ closed_tag (codes "sub") [] ∷ end_tag (codes "sarcasm") ∷ start_tag (codes "font") (attribute (codes "definitionurl") (codes "u") ∷ attribute (codes "viewbox") (codes "v") ∷ []) ∷ End ∷ []))
    ∷ []

trees_38 : List (List ℕ)
trees_38 =
    (codes "| <ruby>\n|   <p>\n")
    ∷ (codes "| <!-- [CDATA[<p -->\n| \"]]>\"\n| <li>\n|   a=\"1\"\n|   <svg svg>\n")
    ∷ (codes "| <!DOCTYPE html>\n| <html>\n|   <head>\n|   <body>\n|     <li>\n|     \"\n\nx x\"\n")
    ∷ (codes "| <!DOCTYPE >\n| <html>\n|   class=\"1\"\n|   <head>\n|   <body>\n|     <b>\n")
    ∷ (codes "| <html>\n|   <head>\n|   <body>\n|     <keygen>\n|     \" ab\n\t\"\n")
    ∷ (codes "| <html>\n|   <head>\n|   <body>\n|     \"x  x\"\n")
    ∷ []
    ∷ (codes "| <html>\n|   <head>\n|   <body>\n|     \"x\"\n|     <h2>\n|       a=\"1\"\n")
    ∷ []
    ∷ (codes "| <html>\n|   <head>\n|   <body>\n|     <h6>\n|     <!-- [CDATA[<p -->\n|     \"]]>z z\"\n")
    ∷ (codes "| <!DOCTYPE html>\n| <html>\n|   <head>\n|   <frameset>\n|     <frame>\n|       xmlns=\"u\"\n|       xmlns:xlink=\"w\"\n")
    ∷ (codes "| <html>\n|   <head>\n|   <body>\n|     <font>\n|       xlink:href=\"x\"\n|       xml:lang=\"e\"\n|       <sarcasm>\n|         <sub>\n|       <font>\n|         definitionurl=\"u\"\n|         viewbox=\"v\"\n|       <table>\n|         <!-- ?xml a? -->\n")
    ∷ []

built_38 : map shown_of rows_38 ≡ trees_38
unfolding rows_38 trees_38 adjusted_attributes adjusted_name adjusted_tag_name cased foreign_attributes math_attribute_names svg_attribute_names svg_tag_names added_after adopted ended_by entry_of furthest_block inner_loop nth_open opened_inside opened_outside outer_loop replaced process run start step told_all begins_with begins_with_one html_4_01_beginnings limited_quirks_beginnings means_limited_quirks means_quirks quirks_beginnings quirks_public_ids quirks_system_ids added_before built changed has_one_like lacking row_of tree_from without_node foreign_end are_among cleared count_after_marker count_alike has_attribute_like has_entry last_named reopened still_listed to_reopen with_entry without_earliest without_entry without_oldest item_met all_names breaks_out ends_scope ends_table_scope has_such is_among is_body_context is_formatting is_fostering is_implied is_implied_thoroughly is_listed is_row_context is_special kind_in kind_in_namespace kind_of may_stay_open namespace_of first_open foster_place_in has_in_scope has_open popped_to_first_in popped_until_in popped_while_in second_body without_open mode_of flushed_as_space flushed_fostered is_all_space mode_of_request reply_of value_of among attribute_lines comes_before indent shown shown_of sorted
built_38 = refl

rows_39 : List Case
rows_39 =
    -- in body: end sarcasm: "<!DOCTYPE html><sarcasm class=2><datalist xlink:href=x xml:lang=e><fegaussianblur></sarcasm>"
    (document false (Doctype (record { name = (Some (codes "html")); public_id = None; system_id = None; force_quirks = false }) ∷ start_tag (codes "sarcasm") (attribute (codes "class") (codes "2") ∷ []) ∷ start_tag (codes "datalist") (attribute (codes "xlink:href") (codes "x") ∷ attribute (codes "xml:lang") (codes "e") ∷ []) ∷ start_tag (codes "fegaussianblur") [] ∷ end_tag (codes "sarcasm") ∷ End ∷ []))
    -- in body: start a: "<!DOCTYPE><a>"
    ∷ (document true (Doctype (record { name = None; public_id = None; system_id = None; force_quirks = true }) ∷ start_tag (codes "a") [] ∷ End ∷ []))
    -- in body: start a: "<a><col></a>\n"
    ∷ (document true (start_tag (codes "a") [] ∷ start_tag (codes "col") [] ∷ end_tag (codes "a") ∷ Text (codes "\n") ∷ Text [] ∷ End ∷ []))
    -- in body: start a: "<a><fieldset>"
    ∷ (document false (start_tag (codes "a") [] ∷ start_tag (codes "fieldset") [] ∷ End ∷ []))
    -- in body: start formatting: "<b></b>x "
    ∷ (document true (start_tag (codes "b") [] ∷ end_tag (codes "b") ∷ Text (codes "x ") ∷ Text [] ∷ End ∷ []))
    -- in body: start formatting: "<big>\n\nx"
    ∷ (document true (start_tag (codes "big") [] ∷ Text (codes "\n\nx") ∷ Text [] ∷ End ∷ []))
    -- in body: start formatting: "<em><dl>"
    ∷ (document true (start_tag (codes "em") [] ∷ start_tag (codes "dl") [] ∷ End ∷ []))
    -- in body: start nobr: "</a><nobr><big>"
    ∷ (fragment true Html (codes "col") [] (end_tag (codes "a") ∷ start_tag (codes "nobr") [] ∷ start_tag (codes "big") [] ∷ End ∷ []))
    -- in body: start nobr: "<nobr/></nobr>"
    ∷ (fragment true Svg (codes "style") [] (closed_tag (codes "nobr") [] ∷ end_tag (codes "nobr") ∷ End ∷ []))
    -- in body: start nobr: "\u0000 </><nobr>x"
    ∷ (fragment false Html (codes "math") [] (Null ∷ Text (codes " ") ∷ start_tag (codes "nobr") [] ∷ Text (codes "x") ∷ Text [] ∷ End ∷ []))
    -- in body: end formatting: "</em>"
    ∷ (fragment false Html (codes "td") [] (end_tag (codes "em") ∷ End ∷ []))
    -- in body: end formatting: "</u>\u0000"
    ∷ (fragment true Html (codes "button") [] (end_tag (codes "u") ∷ Null ∷ End ∷ []))
    ∷ []

trees_39 : List (List ℕ)
trees_39 =
    (codes "| <!DOCTYPE html>\n| <html>\n|   <head>\n|   <body>\n|     <sarcasm>\n|       class=\"2\"\n|       <datalist>\n|         xlink:href=\"x\"\n|         xml:lang=\"e\"\n|         <fegaussianblur>\n")
    ∷ (codes "| <!DOCTYPE >\n| <html>\n|   <head>\n|   <body>\n|     <a>\n")
    ∷ (codes "| <html>\n|   <head>\n|   <body>\n|     <a>\n|     \"\n\"\n")
    ∷ (codes "| <html>\n|   <head>\n|   <body>\n|     <a>\n|       <fieldset>\n")
    ∷ (codes "| <html>\n|   <head>\n|   <body>\n|     <b>\n|     \"x \"\n")
    ∷ (codes "| <html>\n|   <head>\n|   <body>\n|     <big>\n|       \"\n\nx\"\n")
    ∷ (codes "| <html>\n|   <head>\n|   <body>\n|     <em>\n|       <dl>\n")
    ∷ (codes "| <nobr>\n|   <big>\n")
    ∷ (codes "| <nobr>\n")
    ∷ (codes "| \" \"\n| <nobr>\n|   \"x\"\n")
    ∷ []
    ∷ []
    ∷ []

built_39 : map shown_of rows_39 ≡ trees_39
unfolding rows_39 trees_39 adjusted_attributes adjusted_name adjusted_tag_name cased foreign_attributes math_attribute_names svg_attribute_names svg_tag_names added_after adopted ended_by entry_of furthest_block inner_loop nth_open opened_inside opened_outside outer_loop replaced process run start step told_all begins_with begins_with_one html_4_01_beginnings limited_quirks_beginnings means_limited_quirks means_quirks quirks_beginnings quirks_public_ids quirks_system_ids added_before built changed has_one_like lacking row_of tree_from without_node foreign_end are_among cleared count_after_marker count_alike has_attribute_like has_entry last_named reopened still_listed to_reopen with_entry without_earliest without_entry without_oldest item_met all_names breaks_out ends_scope ends_table_scope has_such is_among is_body_context is_formatting is_fostering is_implied is_implied_thoroughly is_listed is_row_context is_special kind_in kind_in_namespace kind_of may_stay_open namespace_of first_open foster_place_in has_in_scope has_open popped_to_first_in popped_until_in popped_while_in second_body without_open mode_of flushed_as_space flushed_fostered is_all_space mode_of_request reply_of value_of among attribute_lines comes_before indent shown shown_of sorted
built_39 = refl

rows_40 : List Case
rows_40 =
    -- in body: end formatting: "<a></a>a\u0000b"
    (document true (start_tag (codes "a") [] ∷ end_tag (codes "a") ∷ Text (codes "a") ∷ Null ∷ Text (codes "b") ∷ Text [] ∷ End ∷ []))
    -- in body: start applet marquee object: "<applet>\u0000</applet>"
    ∷ (document true (start_tag (codes "applet") [] ∷ Null ∷ end_tag (codes "applet") ∷ End ∷ []))
    -- in body: start applet marquee object: "x</applet><applet>"
    ∷ (document false (Text (codes "x") ∷ end_tag (codes "applet") ∷ start_tag (codes "applet") [] ∷ End ∷ []))
    -- in body: start applet marquee object: "<marquee></input>"
    ∷ (document false (start_tag (codes "marquee") [] ∷ end_tag (codes "input") ∷ End ∷ []))
    -- in body: end applet marquee object: "</object>a\u0000b</b>"
    ∷ (fragment false Html (codes "optgroup") [] (end_tag (codes "object") ∷ Text (codes "a") ∷ Null ∷ Text (codes "b") ∷ end_tag (codes "b") ∷ End ∷ []))
    -- in body: end applet marquee object: "<math><mi></applet>\u0000"
    ∷ (document false (start_tag (codes "math") [] ∷ start_tag (codes "mi") [] ∷ end_tag (codes "applet") ∷ Null ∷ End ∷ []))
    -- in body: end applet marquee object: "</object>x z z"
    ∷ (fragment false Html (codes "div") [] (end_tag (codes "object") ∷ Text (codes "x z z") ∷ Text [] ∷ End ∷ []))
    -- in body: start table: " </ol><table>"
    ∷ (document true (Text (codes " ") ∷ end_tag (codes "ol") ∷ start_tag (codes "table") [] ∷ End ∷ []))
    -- in body: start table: "<table>\u0000"
    ∷ (fragment false Html (codes "svg") [] (start_tag (codes "table") [] ∷ Null ∷ End ∷ []))
    -- in body: start table: "<table>\t"
    ∷ (fragment true Html (codes "col") [] (start_tag (codes "table") [] ∷ Text (codes "\t") ∷ Text [] ∷ End ∷ []))
    -- in body: end br: "</br>y</input><td class=1>"
    ∷ (document true (end_tag (codes "br") ∷ Text (codes "y") ∷ end_tag (codes "input") ∷ start_tag (codes "td") (attribute (codes "class") (codes "1") ∷ []) ∷ End ∷ []))
    -- in body: end br: "</body></html></br>"
    ∷ (fragment true Html (codes "ruby") [] (end_tag (codes "body") ∷ end_tag (codes "html") ∷ end_tag (codes "br") ∷ End ∷ []))
    ∷ []

trees_40 : List (List ℕ)
trees_40 =
    (codes "| <html>\n|   <head>\n|   <body>\n|     <a>\n|     \"ab\"\n")
    ∷ (codes "| <html>\n|   <head>\n|   <body>\n|     <applet>\n")
    ∷ (codes "| <html>\n|   <head>\n|   <body>\n|     \"x\"\n|     <applet>\n")
    ∷ (codes "| <html>\n|   <head>\n|   <body>\n|     <marquee>\n")
    ∷ (codes "| \"ab\"\n")
    ∷ (codes "| <html>\n|   <head>\n|   <body>\n|     <math math>\n|       <math mi>\n")
    ∷ (codes "| \"x z z\"\n")
    ∷ (codes "| <html>\n|   <head>\n|   <body>\n|     <table>\n")
    ∷ (codes "| <table>\n")
    ∷ (codes "| <table>\n|   \"\t\"\n")
    ∷ (codes "| <html>\n|   <head>\n|   <body>\n|     <br>\n|     \"y\"\n")
    ∷ (codes "| <br>\n")
    ∷ []

built_40 : map shown_of rows_40 ≡ trees_40
unfolding rows_40 trees_40 adjusted_attributes adjusted_name adjusted_tag_name cased foreign_attributes math_attribute_names svg_attribute_names svg_tag_names added_after adopted ended_by entry_of furthest_block inner_loop nth_open opened_inside opened_outside outer_loop replaced process run start step told_all begins_with begins_with_one html_4_01_beginnings limited_quirks_beginnings means_limited_quirks means_quirks quirks_beginnings quirks_public_ids quirks_system_ids added_before built changed has_one_like lacking row_of tree_from without_node foreign_end are_among cleared count_after_marker count_alike has_attribute_like has_entry last_named reopened still_listed to_reopen with_entry without_earliest without_entry without_oldest item_met all_names breaks_out ends_scope ends_table_scope has_such is_among is_body_context is_formatting is_fostering is_implied is_implied_thoroughly is_listed is_row_context is_special kind_in kind_in_namespace kind_of may_stay_open namespace_of first_open foster_place_in has_in_scope has_open popped_to_first_in popped_until_in popped_while_in second_body without_open mode_of flushed_as_space flushed_fostered is_all_space mode_of_request reply_of value_of among attribute_lines comes_before indent shown shown_of sorted
built_40 = refl

rows_41 : List Case
rows_41 =
    -- in body: end br: "<body></body></br>"
    (fragment false Html (codes "option") [] (start_tag (codes "body") [] ∷ end_tag (codes "body") ∷ end_tag (codes "br") ∷ End ∷ []))
    -- in body: start area and others: "<br class=2>"
    ∷ (fragment true MathMl (codes "math") [] (start_tag (codes "br") (attribute (codes "class") (codes "2") ∷ []) ∷ End ∷ []))
    -- in body: start area and others: "<br><br><br>"
    ∷ (fragment true Html (codes "h1") [] (start_tag (codes "br") [] ∷ start_tag (codes "br") [] ∷ start_tag (codes "br") [] ∷ End ∷ []))
    -- in body: start area and others: "a\u0000b</br><br>"
    ∷ (fragment true Html (codes "marquee") [] (Text (codes "a") ∷ Null ∷ Text (codes "b") ∷ end_tag (codes "br") ∷ start_tag (codes "br") [] ∷ End ∷ []))
    -- in body: start input: "<form><table><input type=text>"
    ∷ (document true (start_tag (codes "form") [] ∷ start_tag (codes "table") [] ∷ start_tag (codes "input") (attribute (codes "type") (codes "text") ∷ []) ∷ End ∷ []))
    -- in body: start input: "<input type=HIDDEN><dt><table>"
    ∷ (document false (start_tag (codes "input") (attribute (codes "type") (codes "HIDDEN") ∷ []) ∷ start_tag (codes "dt") [] ∷ start_tag (codes "table") [] ∷ End ∷ []))
    -- in body: start input: "<input type=text><!--c-->"
    ∷ (fragment false Html (codes "ul") [] (start_tag (codes "input") (attribute (codes "type") (codes "text") ∷ []) ∷ Comment (codes "c") ∷ End ∷ []))
    -- in body: start param source track: "<source></table>"
    ∷ (fragment false Html (codes "svg") [] (start_tag (codes "source") [] ∷ end_tag (codes "table") ∷ End ∷ []))
    -- in body: start param source track: "\u0000<track></pre>"
    ∷ (fragment true Html (codes "rt") [] (Null ∷ start_tag (codes "track") [] ∷ end_tag (codes "pre") ∷ End ∷ []))
    -- in body: start param source track: "<body><param> "
    ∷ (fragment false Html (codes "math") [] (start_tag (codes "body") [] ∷ start_tag (codes "param") [] ∷ Text (codes " ") ∷ Text [] ∷ End ∷ []))
    -- in body: start hr: " <!DOCTYPE html></hr><hr>"
    ∷ (document false (Text (codes " ") ∷ Doctype (record { name = (Some (codes "html")); public_id = None; system_id = None; force_quirks = false }) ∷ end_tag (codes "hr") ∷ start_tag (codes "hr") [] ∷ End ∷ []))
    -- in body: start hr: "<!DOCTYPE><hr></hr><mi>"
    ∷ (document true (Doctype (record { name = None; public_id = None; system_id = None; force_quirks = true }) ∷ start_tag (codes "hr") [] ∷ end_tag (codes "hr") ∷ start_tag (codes "mi") [] ∷ End ∷ []))
    ∷ []

trees_41 : List (List ℕ)
trees_41 =
    (codes "| <br>\n")
    ∷ (codes "| <br>\n|   class=\"2\"\n")
    ∷ (codes "| <br>\n| <br>\n| <br>\n")
    ∷ (codes "| \"ab\"\n| <br>\n| <br>\n")
    ∷ (codes "| <html>\n|   <head>\n|   <body>\n|     <form>\n|       <input>\n|         type=\"text\"\n|       <table>\n")
    ∷ (codes "| <html>\n|   <head>\n|   <body>\n|     <input>\n|       type=\"HIDDEN\"\n|     <dt>\n|       <table>\n")
    ∷ (codes "| <input>\n|   type=\"text\"\n| <!-- c -->\n")
    ∷ (codes "| <source>\n")
    ∷ (codes "| <track>\n")
    ∷ (codes "| <param>\n| \" \"\n")
    ∷ (codes "| <!DOCTYPE html>\n| <html>\n|   <head>\n|   <body>\n|     <hr>\n")
    ∷ (codes "| <!DOCTYPE >\n| <html>\n|   <head>\n|   <body>\n|     <hr>\n|     <mi>\n")
    ∷ []

built_41 : map shown_of rows_41 ≡ trees_41
unfolding rows_41 trees_41 adjusted_attributes adjusted_name adjusted_tag_name cased foreign_attributes math_attribute_names svg_attribute_names svg_tag_names added_after adopted ended_by entry_of furthest_block inner_loop nth_open opened_inside opened_outside outer_loop replaced process run start step told_all begins_with begins_with_one html_4_01_beginnings limited_quirks_beginnings means_limited_quirks means_quirks quirks_beginnings quirks_public_ids quirks_system_ids added_before built changed has_one_like lacking row_of tree_from without_node foreign_end are_among cleared count_after_marker count_alike has_attribute_like has_entry last_named reopened still_listed to_reopen with_entry without_earliest without_entry without_oldest item_met all_names breaks_out ends_scope ends_table_scope has_such is_among is_body_context is_formatting is_fostering is_implied is_implied_thoroughly is_listed is_row_context is_special kind_in kind_in_namespace kind_of may_stay_open namespace_of first_open foster_place_in has_in_scope has_open popped_to_first_in popped_until_in popped_while_in second_body without_open mode_of flushed_as_space flushed_fostered is_all_space mode_of_request reply_of value_of among attribute_lines comes_before indent shown shown_of sorted
built_41 = refl

rows_42 : List Case
rows_42 =
    -- in body: start hr: "<form><hr><frameset><p>"
    (document true (start_tag (codes "form") [] ∷ start_tag (codes "hr") [] ∷ start_tag (codes "frameset") [] ∷ start_tag (codes "p") [] ∷ End ∷ []))
    -- in body: start image: "<!DOCTYPE html>\r\n\u0000 <rtc><image>"
    ∷ (document true (Doctype (record { name = (Some (codes "html")); public_id = None; system_id = None; force_quirks = false }) ∷ Text (codes "\n") ∷ Null ∷ Text (codes " ") ∷ start_tag (codes "rtc") [] ∷ start_tag (codes "image") [] ∷ End ∷ []))
    -- in body: start image: "<image>\u0000</rp></object><rp>"
    ∷ (fragment false Html (codes "option") [] (start_tag (codes "image") [] ∷ Null ∷ end_tag (codes "rp") ∷ end_tag (codes "object") ∷ start_tag (codes "rp") [] ∷ End ∷ []))
    -- in body: start image: "<image>a\u0000b<nobr><image><!--c-->"
    ∷ (document true (start_tag (codes "image") [] ∷ Text (codes "a") ∷ Null ∷ Text (codes "b") ∷ start_tag (codes "nobr") [] ∷ start_tag (codes "image") [] ∷ Comment (codes "c") ∷ End ∷ []))
    -- in body: start textarea: "<!DOCTYPE html><textarea class=1 id=a><!--c-->"
    ∷ (document false (Doctype (record { name = (Some (codes "html")); public_id = None; system_id = None; force_quirks = false }) ∷ start_tag (codes "textarea") (attribute (codes "class") (codes "1") ∷ attribute (codes "id") (codes "a") ∷ []) ∷ Text (codes "<!--c-->") ∷ Text [] ∷ End ∷ []))
    -- in body: start textarea: "<textarea/></textarea><semantics class=2>\r\n"
    ∷ (document false (closed_tag (codes "textarea") [] ∷ end_tag (codes "textarea") ∷ start_tag (codes "semantics") (attribute (codes "class") (codes "2") ∷ []) ∷ Text (codes "\n") ∷ Text [] ∷ End ∷ []))
    -- in body: start textarea: "<!DOCTYPE html><html></legend><textarea>"
    ∷ (document false (Doctype (record { name = (Some (codes "html")); public_id = None; system_id = None; force_quirks = false }) ∷ start_tag (codes "html") [] ∷ end_tag (codes "legend") ∷ start_tag (codes "textarea") [] ∷ End ∷ []))
    -- in body: start xmp: "x<!DOCTYPE html SYSTEM ''></hr><xmp><hr/>"
    ∷ (document true (Text (codes "x") ∷ Doctype (record { name = (Some (codes "html")); public_id = None; system_id = (Some []); force_quirks = false }) ∷ end_tag (codes "hr") ∷ start_tag (codes "xmp") [] ∷ Text (codes "<hr/>") ∷ Text [] ∷ End ∷ []))
    -- in body: start xmp: "</html><tt>x<xmp><noframes class=2/>"
    ∷ (document false (end_tag (codes "html") ∷ start_tag (codes "tt") [] ∷ Text (codes "x") ∷ start_tag (codes "xmp") [] ∷ Text (codes "<noframes class=2/>") ∷ Text [] ∷ End ∷ []))
    -- in body: start xmp: "<!DOCTYPE html><xmp><p>\f<rb></rb>"
    ∷ (document true (Doctype (record { name = (Some (codes "html")); public_id = None; system_id = None; force_quirks = false }) ∷ start_tag (codes "xmp") [] ∷ Text (60 ∷ 112 ∷ 62 ∷ 12 ∷ 60 ∷ 114 ∷ 98 ∷ 62 ∷ 60 ∷ 47 ∷ 114 ∷ 98 ∷ 62 ∷ []) ∷ Text [] ∷ End ∷ []))
    -- in body: start iframe: "<!DOCTYPE html><iframe></iframe>\r\n<iframe/>"
    ∷ (document false (Doctype (record { name = (Some (codes "html")); public_id = None; system_id = None; force_quirks = false }) ∷ start_tag (codes "iframe") [] ∷ end_tag (codes "iframe") ∷ Text (codes "\n") ∷ closed_tag (codes "iframe") [] ∷ End ∷ []))
    -- in body: start iframe: "<!DOCTYPE html SYSTEM ''></strike><iframe>"
    ∷ (document true (Doctype (record { name = (Some (codes "html")); public_id = None; system_id = (Some []); force_quirks = false }) ∷ end_tag (codes "strike") ∷ start_tag (codes "iframe") [] ∷ End ∷ []))
    ∷ []

trees_42 : List (List ℕ)
trees_42 =
    (codes "| <html>\n|   <head>\n|   <body>\n|     <form>\n|       <hr>\n|       <p>\n")
    ∷ (codes "| <!DOCTYPE html>\n| <html>\n|   <head>\n|   <body>\n|     \" \"\n|     <rtc>\n|       <img>\n")
    ∷ (codes "| <img>\n| <rp>\n")
    ∷ (codes "| <html>\n|   <head>\n|   <body>\n|     <img>\n|     \"ab\"\n|     <nobr>\n|       <img>\n|       <!-- c -->\n")
    ∷ (codes "| <!DOCTYPE html>\n| <html>\n|   <head>\n|   <body>\n|     <textarea>\n|       class=\"1\"\n|       id=\"a\"\n|       \"<!--c-->\"\n")
    ∷ (codes "| <html>\n|   <head>\n|   <body>\n|     <textarea>\n|     <semantics>\n|       class=\"2\"\n|       \"\n\"\n")
    ∷ (codes "| <!DOCTYPE html>\n| <html>\n|   <head>\n|   <body>\n|     <textarea>\n")
    ∷ (codes "| <html>\n|   <head>\n|   <body>\n|     \"x\"\n|     <xmp>\n|       \"<hr/>\"\n")
    ∷ (codes "| <html>\n|   <head>\n|   <body>\n|     <tt>\n|       \"x\"\n|       <xmp>\n|         \"<noframes class=2/>\"\n")
    ∷ (124 ∷ 32 ∷ 60 ∷ 33 ∷ 68 ∷ 79 ∷ 67 ∷ 84 ∷ 89 ∷ 80 ∷ 69 ∷ 32 ∷ 104 ∷ 116 ∷ 109 ∷ 108 ∷ 62 ∷ 10 ∷ 124 ∷ 32 ∷ 60 ∷ 104 ∷ 116 ∷ 109 ∷ 108 ∷ 62 ∷ 10 ∷ 124 ∷ 32 ∷ 32 ∷ 32 ∷ 60 ∷ 104 ∷ 101 ∷ 97 ∷ 100 ∷ 62 ∷ 10 ∷ 124 ∷ 32 ∷ 32 ∷ 32 ∷ 60 ∷ 98 ∷ 111 ∷ 100 ∷ 121 ∷ 62 ∷ 10 ∷ 124 ∷ 32 ∷ 32 ∷ 32 ∷ 32 ∷ 32 ∷ 60 ∷ 120 ∷ 109 ∷ 112 ∷ 62 ∷ 10 ∷ 124 ∷ 32 ∷ 32 ∷ 32 ∷ 32 ∷ 32 ∷ 32 ∷ 32 ∷ 34 ∷ 60 ∷ 112 ∷ 62 ∷ 12 ∷ 60 ∷ 114 ∷ 98 ∷ 62 ∷ 60 ∷ 47 ∷ 114 ∷ 98 ∷ 62 ∷ 34 ∷ 10 ∷ [])
    ∷ (codes "| <!DOCTYPE html>\n| <html>\n|   <head>\n|   <body>\n|     <iframe>\n|     \"\n\"\n|     <iframe>\n")
    ∷ (codes "| <!DOCTYPE html>\n| <html>\n|   <head>\n|   <body>\n|     <iframe>\n")
    ∷ []

built_42 : map shown_of rows_42 ≡ trees_42
unfolding rows_42 trees_42 adjusted_attributes adjusted_name adjusted_tag_name cased foreign_attributes math_attribute_names svg_attribute_names svg_tag_names added_after adopted ended_by entry_of furthest_block inner_loop nth_open opened_inside opened_outside outer_loop replaced process run start step told_all begins_with begins_with_one html_4_01_beginnings limited_quirks_beginnings means_limited_quirks means_quirks quirks_beginnings quirks_public_ids quirks_system_ids added_before built changed has_one_like lacking row_of tree_from without_node foreign_end are_among cleared count_after_marker count_alike has_attribute_like has_entry last_named reopened still_listed to_reopen with_entry without_earliest without_entry without_oldest item_met all_names breaks_out ends_scope ends_table_scope has_such is_among is_body_context is_formatting is_fostering is_implied is_implied_thoroughly is_listed is_row_context is_special kind_in kind_in_namespace kind_of may_stay_open namespace_of first_open foster_place_in has_in_scope has_open popped_to_first_in popped_until_in popped_while_in second_body without_open mode_of flushed_as_space flushed_fostered is_all_space mode_of_request reply_of value_of among attribute_lines comes_before indent shown shown_of sorted
built_42 = refl

rows_43 : List Case
rows_43 =
    -- in body: start iframe: "<!DOCTYPE html><!--c--><iframe></iframe>"
    (document true (Doctype (record { name = (Some (codes "html")); public_id = None; system_id = None; force_quirks = false }) ∷ Comment (codes "c") ∷ start_tag (codes "iframe") [] ∷ end_tag (codes "iframe") ∷ End ∷ []))
    -- in body: start noembed noscript: "<!DOCTYPE html></font><noembed>"
    ∷ (document false (Doctype (record { name = (Some (codes "html")); public_id = None; system_id = None; force_quirks = false }) ∷ end_tag (codes "font") ∷ start_tag (codes "noembed") [] ∷ End ∷ []))
    -- in body: start noembed noscript: "<noembed/><ms></path></u>"
    ∷ (fragment false Html (codes "form") [] (closed_tag (codes "noembed") [] ∷ Text (codes "<ms></path></u>") ∷ Text [] ∷ End ∷ []))
    -- in body: start noembed noscript: "<head></title><noscript>"
    ∷ (fragment true Html (codes "h1") [] (start_tag (codes "head") [] ∷ end_tag (codes "title") ∷ start_tag (codes "noscript") [] ∷ End ∷ []))
    -- in body: start select: "<!DOCTYPE x><select>y"
    ∷ (document false (Doctype (record { name = (Some (codes "x")); public_id = None; system_id = None; force_quirks = false }) ∷ start_tag (codes "select") [] ∷ Text (codes "y") ∷ Text [] ∷ End ∷ []))
    -- in body: start select: "<select></p></input>"
    ∷ (document true (start_tag (codes "select") [] ∷ end_tag (codes "p") ∷ end_tag (codes "input") ∷ End ∷ []))
    -- in body: start select: "<table><select></tr>"
    ∷ (document false (start_tag (codes "table") [] ∷ start_tag (codes "select") [] ∷ end_tag (codes "tr") ∷ End ∷ []))
    -- in body: start option: "<select><template/><option>"
    ∷ (document true (start_tag (codes "select") [] ∷ closed_tag (codes "template") [] ∷ start_tag (codes "option") [] ∷ End ∷ []))
    -- in body: start option: "</option><!--c--><option>"
    ∷ (document false (end_tag (codes "option") ∷ Comment (codes "c") ∷ start_tag (codes "option") [] ∷ End ∷ []))
    -- in body: start option: "</unknown><option>"
    ∷ (fragment false Html (codes "template") [] (end_tag (codes "unknown") ∷ start_tag (codes "option") [] ∷ End ∷ []))
    -- in body: start optgroup: "<!--c--><optgroup>\u0000<col><applet>"
    ∷ (document true (Comment (codes "c") ∷ start_tag (codes "optgroup") [] ∷ Null ∷ start_tag (codes "col") [] ∷ start_tag (codes "applet") [] ∷ End ∷ []))
    -- in body: start optgroup: "<select><optgroup><option></hr>"
    ∷ (document true (start_tag (codes "select") [] ∷ start_tag (codes "optgroup") [] ∷ start_tag (codes "option") [] ∷ end_tag (codes "hr") ∷ End ∷ []))
    ∷ []

trees_43 : List (List ℕ)
trees_43 =
    (codes "| <!DOCTYPE html>\n| <!-- c -->\n| <html>\n|   <head>\n|   <body>\n|     <iframe>\n")
    ∷ (codes "| <!DOCTYPE html>\n| <html>\n|   <head>\n|   <body>\n|     <noembed>\n")
    ∷ (codes "| <noembed>\n|   \"<ms></path></u>\"\n")
    ∷ (codes "| <noscript>\n")
    ∷ (codes "| <!DOCTYPE x>\n| <html>\n|   <head>\n|   <body>\n|     <select>\n|       \"y\"\n")
    ∷ (codes "| <html>\n|   <head>\n|   <body>\n|     <select>\n|       <p>\n")
    ∷ (codes "| <html>\n|   <head>\n|   <body>\n|     <select>\n|     <table>\n")
    ∷ (codes "| <html>\n|   <head>\n|   <body>\n|     <select>\n|       <template>\n|         content\n|           <option>\n")
    ∷ (codes "| <!-- c -->\n| <html>\n|   <head>\n|   <body>\n|     <option>\n")
    ∷ (codes "| <option>\n")
    ∷ (codes "| <!-- c -->\n| <html>\n|   <head>\n|   <body>\n|     <optgroup>\n|       <applet>\n")
    ∷ (codes "| <html>\n|   <head>\n|   <body>\n|     <select>\n|       <optgroup>\n|         <option>\n")
    ∷ []

built_43 : map shown_of rows_43 ≡ trees_43
unfolding rows_43 trees_43 adjusted_attributes adjusted_name adjusted_tag_name cased foreign_attributes math_attribute_names svg_attribute_names svg_tag_names added_after adopted ended_by entry_of furthest_block inner_loop nth_open opened_inside opened_outside outer_loop replaced process run start step told_all begins_with begins_with_one html_4_01_beginnings limited_quirks_beginnings means_limited_quirks means_quirks quirks_beginnings quirks_public_ids quirks_system_ids added_before built changed has_one_like lacking row_of tree_from without_node foreign_end are_among cleared count_after_marker count_alike has_attribute_like has_entry last_named reopened still_listed to_reopen with_entry without_earliest without_entry without_oldest item_met all_names breaks_out ends_scope ends_table_scope has_such is_among is_body_context is_formatting is_fostering is_implied is_implied_thoroughly is_listed is_row_context is_special kind_in kind_in_namespace kind_of may_stay_open namespace_of first_open foster_place_in has_in_scope has_open popped_to_first_in popped_until_in popped_while_in second_body without_open mode_of flushed_as_space flushed_fostered is_all_space mode_of_request reply_of value_of among attribute_lines comes_before indent shown shown_of sorted
built_43 = refl

rows_44 : List Case
rows_44 =
    -- in body: start optgroup: "<select><optgroup><option>z z"
    (document true (start_tag (codes "select") [] ∷ start_tag (codes "optgroup") [] ∷ start_tag (codes "option") [] ∷ Text (codes "z z") ∷ Text [] ∷ End ∷ []))
    -- in body: start rb rtc: "<rtc></rtc>"
    ∷ (fragment false Html (codes "thead") [] (start_tag (codes "rtc") [] ∷ end_tag (codes "rtc") ∷ End ∷ []))
    -- in body: start rb rtc: "<ruby><rtc>"
    ∷ (fragment false Svg (codes "foreignObject") [] (start_tag (codes "ruby") [] ∷ start_tag (codes "rtc") [] ∷ End ∷ []))
    -- in body: start rb rtc: "<rp><rtc>"
    ∷ (fragment false Html (codes "noscript") [] (start_tag (codes "rp") [] ∷ start_tag (codes "rtc") [] ∷ End ∷ []))
    -- in body: start rp rt: "<!DOCTYPE><rt><x-y>"
    ∷ (document true (Doctype (record { name = None; public_id = None; system_id = None; force_quirks = true }) ∷ start_tag (codes "rt") [] ∷ start_tag (codes "x-y") [] ∷ End ∷ []))
    -- in body: start rp rt: "<ruby>\r\n<rp>"
    ∷ (fragment true MathMl (codes "math") [] (start_tag (codes "ruby") [] ∷ Text (codes "\n") ∷ start_tag (codes "rp") [] ∷ End ∷ []))
    -- in body: start rp rt: "<rp/></rp>"
    ∷ (fragment false Html (codes "svg") [] (closed_tag (codes "rp") [] ∷ end_tag (codes "rp") ∷ End ∷ []))
    -- in body: start math: "</tr><math>"
    ∷ (fragment false Html (codes "h1") [] (end_tag (codes "tr") ∷ start_tag (codes "math") [] ∷ End ∷ []))
    -- in body: start math: "<math><mi>\u0000</a>"
    ∷ (document true (start_tag (codes "math") [] ∷ start_tag (codes "mi") [] ∷ Null ∷ end_tag (codes "a") ∷ End ∷ []))
    -- in body: start math: "<math><mi></b>\t"
    ∷ (document false (start_tag (codes "math") [] ∷ start_tag (codes "mi") [] ∷ end_tag (codes "b") ∷ Text (codes "\t") ∷ Text [] ∷ End ∷ []))
    -- in body: start svg: "<!DOCTYPE><svg>"
    ∷ (document false (Doctype (record { name = None; public_id = None; system_id = None; force_quirks = true }) ∷ start_tag (codes "svg") [] ∷ End ∷ []))
    -- in body: start svg: "<svg><desc>\na\u0000b"
    ∷ (document false (start_tag (codes "svg") [] ∷ start_tag (codes "desc") [] ∷ Text (codes "\na") ∷ Null ∷ Text (codes "b") ∷ Text [] ∷ End ∷ []))
    ∷ []

trees_44 : List (List ℕ)
trees_44 =
    (codes "| <html>\n|   <head>\n|   <body>\n|     <select>\n|       <optgroup>\n|         <option>\n|           \"z z\"\n")
    ∷ (codes "| <rtc>\n")
    ∷ (codes "| <ruby>\n|   <rtc>\n")
    ∷ (codes "| <rp>\n|   <rtc>\n")
    ∷ (codes "| <!DOCTYPE >\n| <html>\n|   <head>\n|   <body>\n|     <rt>\n|       <x-y>\n")
    ∷ (codes "| <ruby>\n|   \"\n\"\n|   <rp>\n")
    ∷ (codes "| <rp>\n")
    ∷ (codes "| <math math>\n")
    ∷ (codes "| <html>\n|   <head>\n|   <body>\n|     <math math>\n|       <math mi>\n")
    ∷ (codes "| <html>\n|   <head>\n|   <body>\n|     <math math>\n|       <math mi>\n|         \"\t\"\n")
    ∷ (codes "| <!DOCTYPE >\n| <html>\n|   <head>\n|   <body>\n|     <svg svg>\n")
    ∷ (codes "| <html>\n|   <head>\n|   <body>\n|     <svg svg>\n|       <svg desc>\n|         \"\nab\"\n")
    ∷ []

built_44 : map shown_of rows_44 ≡ trees_44
unfolding rows_44 trees_44 adjusted_attributes adjusted_name adjusted_tag_name cased foreign_attributes math_attribute_names svg_attribute_names svg_tag_names added_after adopted ended_by entry_of furthest_block inner_loop nth_open opened_inside opened_outside outer_loop replaced process run start step told_all begins_with begins_with_one html_4_01_beginnings limited_quirks_beginnings means_limited_quirks means_quirks quirks_beginnings quirks_public_ids quirks_system_ids added_before built changed has_one_like lacking row_of tree_from without_node foreign_end are_among cleared count_after_marker count_alike has_attribute_like has_entry last_named reopened still_listed to_reopen with_entry without_earliest without_entry without_oldest item_met all_names breaks_out ends_scope ends_table_scope has_such is_among is_body_context is_formatting is_fostering is_implied is_implied_thoroughly is_listed is_row_context is_special kind_in kind_in_namespace kind_of may_stay_open namespace_of first_open foster_place_in has_in_scope has_open popped_to_first_in popped_until_in popped_while_in second_body without_open mode_of flushed_as_space flushed_fostered is_all_space mode_of_request reply_of value_of among attribute_lines comes_before indent shown shown_of sorted
built_44 = refl

rows_45 : List Case
rows_45 =
    -- in body: start svg: "<svg><desc>z z"
    (document false (start_tag (codes "svg") [] ∷ start_tag (codes "desc") [] ∷ Text (codes "z z") ∷ Text [] ∷ End ∷ []))
    -- in body: parse error ignore: "</wbr><td>"
    ∷ (document true (end_tag (codes "wbr") ∷ start_tag (codes "td") [] ∷ End ∷ []))
    -- in body: parse error ignore: "<td>"
    ∷ (fragment true Html (codes "p") [] (start_tag (codes "td") [] ∷ End ∷ []))
    -- in body: parse error ignore: "<td></td>"
    ∷ (document true (start_tag (codes "td") [] ∷ end_tag (codes "td") ∷ End ∷ []))
    -- in body: any other start tag: "\u0000 <desc>"
    ∷ (document true (Null ∷ Text (codes " ") ∷ start_tag (codes "desc") [] ∷ End ∷ []))
    -- in body: any other start tag: "<canvas>"
    ∷ (document true (start_tag (codes "canvas") [] ∷ End ∷ []))
    -- in body: any other start tag: "<g>"
    ∷ (fragment false Html (codes "html") [] (start_tag (codes "g") [] ∷ End ∷ []))
    -- in body: any other end tag: "</mi>"
    ∷ (fragment false Html (codes "select") [] (end_tag (codes "mi") ∷ End ∷ []))
    -- in body: any other end tag: "</mn>"
    ∷ (fragment true Html (codes "math") [] (end_tag (codes "mn") ∷ End ∷ []))
    -- in body: any other end tag: "</rp>"
    ∷ (fragment false Html (codes "frame") [] (end_tag (codes "rp") ∷ End ∷ []))
    -- text: insert the character: "<iframe><iframe>"
    ∷ (fragment true Html (codes "select") [] (start_tag (codes "iframe") [] ∷ Text (codes "<iframe>") ∷ Text [] ∷ End ∷ []))
    -- text: insert the character: " <script> a\u0000b<tbody>"
    ∷ (document false (Text (codes " ") ∷ start_tag (codes "script") [] ∷ Text (codes " a") ∷ Text (239 ∷ 191 ∷ 189 ∷ 98 ∷ 60 ∷ 116 ∷ 98 ∷ 111 ∷ 100 ∷ 121 ∷ 62 ∷ []) ∷ Text [] ∷ End ∷ []))
    ∷ []

trees_45 : List (List ℕ)
trees_45 =
    (codes "| <html>\n|   <head>\n|   <body>\n|     <svg svg>\n|       <svg desc>\n|         \"z z\"\n")
    ∷ (codes "| <html>\n|   <head>\n|   <body>\n")
    ∷ []
    ∷ (codes "| <html>\n|   <head>\n|   <body>\n")
    ∷ (codes "| <html>\n|   <head>\n|   <body>\n|     \" \"\n|     <desc>\n")
    ∷ (codes "| <html>\n|   <head>\n|   <body>\n|     <canvas>\n")
    ∷ (codes "| <head>\n| <body>\n|   <g>\n")
    ∷ []
    ∷ []
    ∷ []
    ∷ (codes "| <iframe>\n|   \"<iframe>\"\n")
    ∷ (124 ∷ 32 ∷ 60 ∷ 104 ∷ 116 ∷ 109 ∷ 108 ∷ 62 ∷ 10 ∷ 124 ∷ 32 ∷ 32 ∷ 32 ∷ 60 ∷ 104 ∷ 101 ∷ 97 ∷ 100 ∷ 62 ∷ 10 ∷ 124 ∷ 32 ∷ 32 ∷ 32 ∷ 32 ∷ 32 ∷ 60 ∷ 115 ∷ 99 ∷ 114 ∷ 105 ∷ 112 ∷ 116 ∷ 62 ∷ 10 ∷ 124 ∷ 32 ∷ 32 ∷ 32 ∷ 32 ∷ 32 ∷ 32 ∷ 32 ∷ 34 ∷ 32 ∷ 97 ∷ 239 ∷ 191 ∷ 189 ∷ 98 ∷ 60 ∷ 116 ∷ 98 ∷ 111 ∷ 100 ∷ 121 ∷ 62 ∷ 34 ∷ 10 ∷ 124 ∷ 32 ∷ 32 ∷ 32 ∷ 60 ∷ 98 ∷ 111 ∷ 100 ∷ 121 ∷ 62 ∷ 10 ∷ [])
    ∷ []

built_45 : map shown_of rows_45 ≡ trees_45
unfolding rows_45 trees_45 adjusted_attributes adjusted_name adjusted_tag_name cased foreign_attributes math_attribute_names svg_attribute_names svg_tag_names added_after adopted ended_by entry_of furthest_block inner_loop nth_open opened_inside opened_outside outer_loop replaced process run start step told_all begins_with begins_with_one html_4_01_beginnings limited_quirks_beginnings means_limited_quirks means_quirks quirks_beginnings quirks_public_ids quirks_system_ids added_before built changed has_one_like lacking row_of tree_from without_node foreign_end are_among cleared count_after_marker count_alike has_attribute_like has_entry last_named reopened still_listed to_reopen with_entry without_earliest without_entry without_oldest item_met all_names breaks_out ends_scope ends_table_scope has_such is_among is_body_context is_formatting is_fostering is_implied is_implied_thoroughly is_listed is_row_context is_special kind_in kind_in_namespace kind_of may_stay_open namespace_of first_open foster_place_in has_in_scope has_open popped_to_first_in popped_until_in popped_while_in second_body without_open mode_of flushed_as_space flushed_fostered is_all_space mode_of_request reply_of value_of among attribute_lines comes_before indent shown shown_of sorted
built_45 = refl

rows_46 : List Case
rows_46 =
    -- text: insert the character: "<noframes></rp>"
    (fragment true Html (codes "b") [] (start_tag (codes "noframes") [] ∷ Text (codes "</rp>") ∷ Text [] ∷ End ∷ []))
    -- text: end of file: "</style><style>"
    ∷ (document false (end_tag (codes "style") ∷ start_tag (codes "style") [] ∷ End ∷ []))
    -- text: end of file: "<title><title>"
    ∷ (document false (start_tag (codes "title") [] ∷ Text (codes "<title>") ∷ Text [] ∷ End ∷ []))
    -- text: end of file: " <style>"
    ∷ (fragment false Html (codes "tbody") [] (Text (codes " ") ∷ start_tag (codes "style") [] ∷ End ∷ []))
    -- text: end script: "<table><tr></form>\u0000 <script/></script></input><select></table>"
    ∷ (document false (start_tag (codes "table") [] ∷ start_tag (codes "tr") [] ∷ end_tag (codes "form") ∷ Null ∷ Text (codes " ") ∷ closed_tag (codes "script") [] ∷ end_tag (codes "script") ∷ end_tag (codes "input") ∷ start_tag (codes "select") [] ∷ end_tag (codes "table") ∷ End ∷ []))
    -- text: end script: "<!DOCTYPE html></body></html><script></script></frameset><br>"
    ∷ (document true (Doctype (record { name = (Some (codes "html")); public_id = None; system_id = None; force_quirks = false }) ∷ end_tag (codes "body") ∷ end_tag (codes "html") ∷ start_tag (codes "script") [] ∷ end_tag (codes "script") ∷ end_tag (codes "frameset") ∷ start_tag (codes "br") [] ∷ End ∷ []))
    -- text: end script: "<body></body><script></script></br></html></br></frameset>"
    ∷ (document false (start_tag (codes "body") [] ∷ end_tag (codes "body") ∷ start_tag (codes "script") [] ∷ end_tag (codes "script") ∷ end_tag (codes "br") ∷ end_tag (codes "html") ∷ end_tag (codes "br") ∷ end_tag (codes "frameset") ∷ End ∷ []))
    -- text: any other end tag: "<!DOCTYPE html><noframes/></noframes>"
    ∷ (document true (Doctype (record { name = (Some (codes "html")); public_id = None; system_id = None; force_quirks = false }) ∷ closed_tag (codes "noframes") [] ∷ end_tag (codes "noframes") ∷ End ∷ []))
    -- text: any other end tag: "<iframe></iframe><noframes><optgroup>"
    ∷ (document false (start_tag (codes "iframe") [] ∷ end_tag (codes "iframe") ∷ start_tag (codes "noframes") [] ∷ Text (codes "<optgroup>") ∷ Text [] ∷ End ∷ []))
    -- text: any other end tag: "</col><noframes><!--c--></noframes>"
    ∷ (document true (end_tag (codes "col") ∷ start_tag (codes "noframes") [] ∷ Text (codes "<!--c-->") ∷ end_tag (codes "noframes") ∷ End ∷ []))
    -- in table: character: "<table>&#13;"
    ∷ (fragment true Html (codes "p") [] (start_tag (codes "table") [] ∷ Text (codes "\r") ∷ Text [] ∷ End ∷ []))
    -- in table: character: "<table>\u0000</table>"
    ∷ (document true (start_tag (codes "table") [] ∷ Null ∷ end_tag (codes "table") ∷ End ∷ []))
    ∷ []

trees_46 : List (List ℕ)
trees_46 =
    (codes "| <noframes>\n|   \"</rp>\"\n")
    ∷ (codes "| <html>\n|   <head>\n|     <style>\n|   <body>\n")
    ∷ (codes "| <html>\n|   <head>\n|     <title>\n|       \"<title>\"\n|   <body>\n")
    ∷ (codes "| \" \"\n| <style>\n")
    ∷ (codes "| <html>\n|   <head>\n|   <body>\n|     <select>\n|     <table>\n|       <tbody>\n|         <tr>\n|           \" \"\n|           <script>\n")
    ∷ (codes "| <!DOCTYPE html>\n| <html>\n|   <head>\n|   <body>\n|     <script>\n|     <br>\n")
    ∷ (codes "| <html>\n|   <head>\n|   <body>\n|     <script>\n|     <br>\n|     <br>\n")
    ∷ (codes "| <!DOCTYPE html>\n| <html>\n|   <head>\n|     <noframes>\n|   <body>\n")
    ∷ (codes "| <html>\n|   <head>\n|   <body>\n|     <iframe>\n|     <noframes>\n|       \"<optgroup>\"\n")
    ∷ (codes "| <html>\n|   <head>\n|     <noframes>\n|       \"<!--c-->\"\n|   <body>\n")
    ∷ (codes "| <table>\n|   \"\r\"\n")
    ∷ (codes "| <html>\n|   <head>\n|   <body>\n|     <table>\n")
    ∷ []

built_46 : map shown_of rows_46 ≡ trees_46
unfolding rows_46 trees_46 adjusted_attributes adjusted_name adjusted_tag_name cased foreign_attributes math_attribute_names svg_attribute_names svg_tag_names added_after adopted ended_by entry_of furthest_block inner_loop nth_open opened_inside opened_outside outer_loop replaced process run start step told_all begins_with begins_with_one html_4_01_beginnings limited_quirks_beginnings means_limited_quirks means_quirks quirks_beginnings quirks_public_ids quirks_system_ids added_before built changed has_one_like lacking row_of tree_from without_node foreign_end are_among cleared count_after_marker count_alike has_attribute_like has_entry last_named reopened still_listed to_reopen with_entry without_earliest without_entry without_oldest item_met all_names breaks_out ends_scope ends_table_scope has_such is_among is_body_context is_formatting is_fostering is_implied is_implied_thoroughly is_listed is_row_context is_special kind_in kind_in_namespace kind_of may_stay_open namespace_of first_open foster_place_in has_in_scope has_open popped_to_first_in popped_until_in popped_while_in second_body without_open mode_of flushed_as_space flushed_fostered is_all_space mode_of_request reply_of value_of among attribute_lines comes_before indent shown shown_of sorted
built_46 = refl

rows_47 : List Case
rows_47 =
    -- in table: character: "<table><tr>\r\n\n\nx"
    (document false (start_tag (codes "table") [] ∷ start_tag (codes "tr") [] ∷ Text (codes "\n\n\nx") ∷ Text [] ∷ End ∷ []))
    -- in table: insert a comment: "</caption>&amp;<!--c-->"
    ∷ (fragment true Html (codes "tr") [] (end_tag (codes "caption") ∷ Text (codes "&") ∷ Comment (codes "c") ∷ End ∷ []))
    -- in table: insert a comment: "<canvas><table><!--c-->"
    ∷ (fragment false Html (codes "template") [] (start_tag (codes "canvas") [] ∷ start_tag (codes "table") [] ∷ Comment (codes "c") ∷ End ∷ []))
    -- in table: insert a comment: "<small><!--c--></small>"
    ∷ (fragment false Html (codes "tbody") [] (start_tag (codes "small") [] ∷ Comment (codes "c") ∷ end_tag (codes "small") ∷ End ∷ []))
    -- in table: parse error ignore: "<!DOCTYPE x><a><table><applet><!DOCTYPE html></nobr></nobr>"
    ∷ (document false (Doctype (record { name = (Some (codes "x")); public_id = None; system_id = None; force_quirks = false }) ∷ start_tag (codes "a") [] ∷ start_tag (codes "table") [] ∷ start_tag (codes "applet") [] ∷ Doctype (record { name = (Some (codes "html")); public_id = None; system_id = None; force_quirks = false }) ∷ end_tag (codes "nobr") ∷ end_tag (codes "nobr") ∷ End ∷ []))
    -- in table: parse error ignore: "<a><table><applet><applet></applet><!DOCTYPE html></applet>"
    ∷ (document false (start_tag (codes "a") [] ∷ start_tag (codes "table") [] ∷ start_tag (codes "applet") [] ∷ start_tag (codes "applet") [] ∷ end_tag (codes "applet") ∷ Doctype (record { name = (Some (codes "html")); public_id = None; system_id = None; force_quirks = false }) ∷ end_tag (codes "applet") ∷ End ∷ []))
    -- in table: parse error ignore: "<nobr><table><object><!DOCTYPE html></table></table>"
    ∷ (document false (start_tag (codes "nobr") [] ∷ start_tag (codes "table") [] ∷ start_tag (codes "object") [] ∷ Doctype (record { name = (Some (codes "html")); public_id = None; system_id = None; force_quirks = false }) ∷ end_tag (codes "table") ∷ end_tag (codes "table") ∷ End ∷ []))
    -- in table: start caption: "<table><caption></aside><b>"
    ∷ (document false (start_tag (codes "table") [] ∷ start_tag (codes "caption") [] ∷ end_tag (codes "aside") ∷ start_tag (codes "b") [] ∷ End ∷ []))
    -- in table: start caption: "<table><caption>&amp;"
    ∷ (fragment true Html (codes "option") [] (start_tag (codes "table") [] ∷ start_tag (codes "caption") [] ∷ Text (codes "&") ∷ End ∷ []))
    -- in table: start caption: "<table><caption></td>"
    ∷ (fragment false Html (codes "form") [] (start_tag (codes "table") [] ∷ start_tag (codes "caption") [] ∷ end_tag (codes "td") ∷ End ∷ []))
    -- in table: start colgroup: "<table><colgroup></h3>"
    ∷ (fragment false MathMl (codes "mi") [] (start_tag (codes "table") [] ∷ start_tag (codes "colgroup") [] ∷ end_tag (codes "h3") ∷ End ∷ []))
    -- in table: start colgroup: "<colgroup></colgroup>"
    ∷ (fragment true Html (codes "template") [] (start_tag (codes "colgroup") [] ∷ end_tag (codes "colgroup") ∷ End ∷ []))
    ∷ []

trees_47 : List (List ℕ)
trees_47 =
    (codes "| <html>\n|   <head>\n|   <body>\n|     \"\n\n\nx\"\n|     <table>\n|       <tbody>\n|         <tr>\n")
    ∷ (codes "| \"&\"\n| <!-- c -->\n")
    ∷ (codes "| <canvas>\n|   <table>\n|     <!-- c -->\n")
    ∷ (codes "| <small>\n|   <!-- c -->\n")
    ∷ (codes "| <!DOCTYPE x>\n| <html>\n|   <head>\n|   <body>\n|     <a>\n|       <applet>\n|       <table>\n")
    ∷ (codes "| <html>\n|   <head>\n|   <body>\n|     <a>\n|       <applet>\n|         <applet>\n|       <table>\n")
    ∷ (codes "| <html>\n|   <head>\n|   <body>\n|     <nobr>\n|       <object>\n|       <table>\n")
    ∷ (codes "| <html>\n|   <head>\n|   <body>\n|     <table>\n|       <caption>\n|         <b>\n")
    ∷ (codes "| <table>\n|   <caption>\n|     \"&\"\n")
    ∷ (codes "| <table>\n|   <caption>\n")
    ∷ (codes "| <table>\n|   <colgroup>\n")
    ∷ (codes "| <colgroup>\n")
    ∷ []

built_47 : map shown_of rows_47 ≡ trees_47
unfolding rows_47 trees_47 adjusted_attributes adjusted_name adjusted_tag_name cased foreign_attributes math_attribute_names svg_attribute_names svg_tag_names added_after adopted ended_by entry_of furthest_block inner_loop nth_open opened_inside opened_outside outer_loop replaced process run start step told_all begins_with begins_with_one html_4_01_beginnings limited_quirks_beginnings means_limited_quirks means_quirks quirks_beginnings quirks_public_ids quirks_system_ids added_before built changed has_one_like lacking row_of tree_from without_node foreign_end are_among cleared count_after_marker count_alike has_attribute_like has_entry last_named reopened still_listed to_reopen with_entry without_earliest without_entry without_oldest item_met all_names breaks_out ends_scope ends_table_scope has_such is_among is_body_context is_formatting is_fostering is_implied is_implied_thoroughly is_listed is_row_context is_special kind_in kind_in_namespace kind_of may_stay_open namespace_of first_open foster_place_in has_in_scope has_open popped_to_first_in popped_until_in popped_while_in second_body without_open mode_of flushed_as_space flushed_fostered is_all_space mode_of_request reply_of value_of among attribute_lines comes_before indent shown shown_of sorted
built_47 = refl

rows_48 : List Case
rows_48 =
    -- in table: start colgroup: "<table><colgroup>\f\u0000 "
    (fragment false Html (codes "div") [] (start_tag (codes "table") [] ∷ start_tag (codes "colgroup") [] ∷ Text (12 ∷ []) ∷ Null ∷ Text (codes " ") ∷ Text [] ∷ End ∷ []))
    -- in table: start col: "<table><colgroup>y\n\nx<col class=1 id=a><td></p>"
    ∷ (document true (start_tag (codes "table") [] ∷ start_tag (codes "colgroup") [] ∷ Text (codes "y\n\nx") ∷ start_tag (codes "col") (attribute (codes "class") (codes "1") ∷ attribute (codes "id") (codes "a") ∷ []) ∷ start_tag (codes "td") [] ∷ end_tag (codes "p") ∷ End ∷ []))
    -- in table: start col: "<!DOCTYPE html><table><tbody>x<col><form/><th>"
    ∷ (document true (Doctype (record { name = (Some (codes "html")); public_id = None; system_id = None; force_quirks = false }) ∷ start_tag (codes "table") [] ∷ start_tag (codes "tbody") [] ∷ Text (codes "x") ∷ start_tag (codes "col") [] ∷ closed_tag (codes "form") [] ∷ start_tag (codes "th") [] ∷ End ∷ []))
    -- in table: start col: "<table><tbody><col><caption></semantics>"
    ∷ (fragment false Html (codes "span") [] (start_tag (codes "table") [] ∷ start_tag (codes "tbody") [] ∷ start_tag (codes "col") [] ∷ start_tag (codes "caption") [] ∷ end_tag (codes "semantics") ∷ End ∷ []))
    -- in table: start tbody tfoot thead: "<table><tbody></td><tr>"
    ∷ (document true (start_tag (codes "table") [] ∷ start_tag (codes "tbody") [] ∷ end_tag (codes "td") ∷ start_tag (codes "tr") [] ∷ End ∷ []))
    -- in table: start tbody tfoot thead: "<table><tbody><caption>"
    ∷ (document true (start_tag (codes "table") [] ∷ start_tag (codes "tbody") [] ∷ start_tag (codes "caption") [] ∷ End ∷ []))
    -- in table: start tbody tfoot thead: "<table><tr><tbody>"
    ∷ (fragment true Html (codes "div") [] (start_tag (codes "table") [] ∷ start_tag (codes "tr") [] ∷ start_tag (codes "tbody") [] ∷ End ∷ []))
    -- in table: start td th tr: "<form><table><td> "
    ∷ (document false (start_tag (codes "form") [] ∷ start_tag (codes "table") [] ∷ start_tag (codes "td") [] ∷ Text (codes " ") ∷ Text [] ∷ End ∷ []))
    -- in table: start td th tr: "<table><tr></form>"
    ∷ (document false (start_tag (codes "table") [] ∷ start_tag (codes "tr") [] ∷ end_tag (codes "form") ∷ End ∷ []))
    -- in table: start td th tr: "<form><table><tr>"
    ∷ (document false (start_tag (codes "form") [] ∷ start_tag (codes "table") [] ∷ start_tag (codes "tr") [] ∷ End ∷ []))
    -- in table: start table: "<table>\n<table></table>"
    ∷ (document false (start_tag (codes "table") [] ∷ Text (codes "\n") ∷ start_tag (codes "table") [] ∷ end_tag (codes "table") ∷ End ∷ []))
    -- in table: start table: "<form><table><tr>"
    ∷ (fragment true Html (codes "tr") [] (start_tag (codes "form") [] ∷ start_tag (codes "table") [] ∷ start_tag (codes "tr") [] ∷ End ∷ []))
    ∷ []

trees_48 : List (List ℕ)
trees_48 =
    (124 ∷ 32 ∷ 60 ∷ 116 ∷ 97 ∷ 98 ∷ 108 ∷ 101 ∷ 62 ∷ 10 ∷ 124 ∷ 32 ∷ 32 ∷ 32 ∷ 60 ∷ 99 ∷ 111 ∷ 108 ∷ 103 ∷ 114 ∷ 111 ∷ 117 ∷ 112 ∷ 62 ∷ 10 ∷ 124 ∷ 32 ∷ 32 ∷ 32 ∷ 32 ∷ 32 ∷ 34 ∷ 12 ∷ 34 ∷ 10 ∷ 124 ∷ 32 ∷ 32 ∷ 32 ∷ 34 ∷ 32 ∷ 34 ∷ 10 ∷ [])
    ∷ (codes "| <html>\n|   <head>\n|   <body>\n|     \"y\n\nx\"\n|     <table>\n|       <colgroup>\n|       <colgroup>\n|         <col>\n|           class=\"1\"\n|           id=\"a\"\n|       <tbody>\n|         <tr>\n|           <td>\n|             <p>\n")
    ∷ (codes "| <!DOCTYPE html>\n| <html>\n|   <head>\n|   <body>\n|     \"x\"\n|     <table>\n|       <tbody>\n|       <colgroup>\n|         <col>\n|       <form>\n|       <tbody>\n|         <tr>\n|           <th>\n")
    ∷ (codes "| <table>\n|   <tbody>\n|   <colgroup>\n|     <col>\n|   <caption>\n")
    ∷ (codes "| <html>\n|   <head>\n|   <body>\n|     <table>\n|       <tbody>\n|         <tr>\n")
    ∷ (codes "| <html>\n|   <head>\n|   <body>\n|     <table>\n|       <tbody>\n|       <caption>\n")
    ∷ (codes "| <table>\n|   <tbody>\n|     <tr>\n|   <tbody>\n")
    ∷ (codes "| <html>\n|   <head>\n|   <body>\n|     <form>\n|       <table>\n|         <tbody>\n|           <tr>\n|             <td>\n|               \" \"\n")
    ∷ (codes "| <html>\n|   <head>\n|   <body>\n|     <table>\n|       <tbody>\n|         <tr>\n")
    ∷ (codes "| <html>\n|   <head>\n|   <body>\n|     <form>\n|       <table>\n|         <tbody>\n|           <tr>\n")
    ∷ (codes "| <html>\n|   <head>\n|   <body>\n|     <table>\n|       \"\n\"\n|     <table>\n")
    ∷ (codes "| <form>\n")
    ∷ []

built_48 : map shown_of rows_48 ≡ trees_48
unfolding rows_48 trees_48 adjusted_attributes adjusted_name adjusted_tag_name cased foreign_attributes math_attribute_names svg_attribute_names svg_tag_names added_after adopted ended_by entry_of furthest_block inner_loop nth_open opened_inside opened_outside outer_loop replaced process run start step told_all begins_with begins_with_one html_4_01_beginnings limited_quirks_beginnings means_limited_quirks means_quirks quirks_beginnings quirks_public_ids quirks_system_ids added_before built changed has_one_like lacking row_of tree_from without_node foreign_end are_among cleared count_after_marker count_alike has_attribute_like has_entry last_named reopened still_listed to_reopen with_entry without_earliest without_entry without_oldest item_met all_names breaks_out ends_scope ends_table_scope has_such is_among is_body_context is_formatting is_fostering is_implied is_implied_thoroughly is_listed is_row_context is_special kind_in kind_in_namespace kind_of may_stay_open namespace_of first_open foster_place_in has_in_scope has_open popped_to_first_in popped_until_in popped_while_in second_body without_open mode_of flushed_as_space flushed_fostered is_all_space mode_of_request reply_of value_of among attribute_lines comes_before indent shown shown_of sorted
built_48 = refl

rows_49 : List Case
rows_49 =
    -- in table: start table: "<table><tr>\r\n<td>"
    (fragment false Html (codes "tr") [] (start_tag (codes "table") [] ∷ start_tag (codes "tr") [] ∷ Text (codes "\n") ∷ start_tag (codes "td") [] ∷ End ∷ []))
    -- in table: end table: "<a><p><table><a><p></table>"
    ∷ (document false (start_tag (codes "a") [] ∷ start_tag (codes "p") [] ∷ start_tag (codes "table") [] ∷ start_tag (codes "a") [] ∷ start_tag (codes "p") [] ∷ end_tag (codes "table") ∷ End ∷ []))
    -- in table: end table: "<table><caption></table><b>"
    ∷ (document true (start_tag (codes "table") [] ∷ start_tag (codes "caption") [] ∷ end_tag (codes "table") ∷ start_tag (codes "b") [] ∷ End ∷ []))
    -- in table: end table: "<svg><desc><table></table>"
    ∷ (document true (start_tag (codes "svg") [] ∷ start_tag (codes "desc") [] ∷ start_tag (codes "table") [] ∷ end_tag (codes "table") ∷ End ∷ []))
    -- in table: parse error ignore: "<a><p><table><a></td><td>"
    ∷ (document false (start_tag (codes "a") [] ∷ start_tag (codes "p") [] ∷ start_tag (codes "table") [] ∷ start_tag (codes "a") [] ∷ end_tag (codes "td") ∷ start_tag (codes "td") [] ∷ End ∷ []))
    -- in table: parse error ignore: "<form><table>\f</td>\t"
    ∷ (fragment false MathMl (codes "annotation-xml") [] (start_tag (codes "form") [] ∷ start_tag (codes "table") [] ∷ Text (12 ∷ []) ∷ end_tag (codes "td") ∷ Text (codes "\t") ∷ Text [] ∷ End ∷ []))
    -- in table: parse error ignore: "<table><select></td>"
    ∷ (fragment false Svg (codes "title") [] (start_tag (codes "table") [] ∷ start_tag (codes "select") [] ∷ end_tag (codes "td") ∷ End ∷ []))
    -- in table: using in head: "<table><tr> </select><script></script>"
    ∷ (fragment true Html (codes "optgroup") [] (start_tag (codes "table") [] ∷ start_tag (codes "tr") [] ∷ Text (codes " ") ∷ end_tag (codes "select") ∷ start_tag (codes "script") [] ∷ end_tag (codes "script") ∷ End ∷ []))
    -- in table: using in head: "<template xlink:href=x xml:lang=e>\f"
    ∷ (fragment false Html (codes "tbody") [] (start_tag (codes "template") (attribute (codes "xlink:href") (codes "x") ∷ attribute (codes "xml:lang") (codes "e") ∷ []) ∷ Text (12 ∷ []) ∷ Text [] ∷ End ∷ []))
    -- in table: using in head: "<template><glyphref></template>a\u0000b"
    ∷ (fragment true Html (codes "thead") [] (start_tag (codes "template") [] ∷ start_tag (codes "glyphref") [] ∷ end_tag (codes "template") ∷ Text (codes "a") ∷ Null ∷ Text (codes "b") ∷ Text [] ∷ End ∷ []))
    -- in table: using in head: "<!DOCTYPE html><form><table><form></template><table>"
    ∷ (document false (Doctype (record { name = (Some (codes "html")); public_id = None; system_id = None; force_quirks = false }) ∷ start_tag (codes "form") [] ∷ start_tag (codes "table") [] ∷ start_tag (codes "form") [] ∷ end_tag (codes "template") ∷ start_tag (codes "table") [] ∷ End ∷ []))
    -- in table: using in head: "<!DOCTYPE x><table><colgroup>&#13;</html></template>"
    ∷ (document false (Doctype (record { name = (Some (codes "x")); public_id = None; system_id = None; force_quirks = false }) ∷ start_tag (codes "table") [] ∷ start_tag (codes "colgroup") [] ∷ Text (codes "\r") ∷ end_tag (codes "html") ∷ end_tag (codes "template") ∷ End ∷ []))
    ∷ []

trees_49 : List (List ℕ)
trees_49 =
    (codes "| \"\n\"\n| <td>\n")
    ∷ (codes "| <html>\n|   <head>\n|   <body>\n|     <a>\n|       <p>\n|         <a>\n|           <p>\n|         <table>\n")
    ∷ (codes "| <html>\n|   <head>\n|   <body>\n|     <table>\n|       <caption>\n|     <b>\n")
    ∷ (codes "| <html>\n|   <head>\n|   <body>\n|     <svg svg>\n|       <svg desc>\n|         <table>\n")
    ∷ (codes "| <html>\n|   <head>\n|   <body>\n|     <a>\n|       <p>\n|         <a>\n|         <table>\n|           <tbody>\n|             <tr>\n|               <td>\n")
    ∷ (124 ∷ 32 ∷ 60 ∷ 109 ∷ 97 ∷ 116 ∷ 104 ∷ 32 ∷ 102 ∷ 111 ∷ 114 ∷ 109 ∷ 62 ∷ 10 ∷ 124 ∷ 32 ∷ 60 ∷ 116 ∷ 97 ∷ 98 ∷ 108 ∷ 101 ∷ 62 ∷ 10 ∷ 124 ∷ 32 ∷ 32 ∷ 32 ∷ 34 ∷ 12 ∷ 9 ∷ 34 ∷ 10 ∷ [])
    ∷ (codes "| <select>\n| <table>\n")
    ∷ (codes "| <table>\n|   <tbody>\n|     <tr>\n|       \" \"\n|       <script>\n")
    ∷ (124 ∷ 32 ∷ 60 ∷ 116 ∷ 101 ∷ 109 ∷ 112 ∷ 108 ∷ 97 ∷ 116 ∷ 101 ∷ 62 ∷ 10 ∷ 124 ∷ 32 ∷ 32 ∷ 32 ∷ 120 ∷ 108 ∷ 105 ∷ 110 ∷ 107 ∷ 58 ∷ 104 ∷ 114 ∷ 101 ∷ 102 ∷ 61 ∷ 34 ∷ 120 ∷ 34 ∷ 10 ∷ 124 ∷ 32 ∷ 32 ∷ 32 ∷ 120 ∷ 109 ∷ 108 ∷ 58 ∷ 108 ∷ 97 ∷ 110 ∷ 103 ∷ 61 ∷ 34 ∷ 101 ∷ 34 ∷ 10 ∷ 124 ∷ 32 ∷ 32 ∷ 32 ∷ 99 ∷ 111 ∷ 110 ∷ 116 ∷ 101 ∷ 110 ∷ 116 ∷ 10 ∷ 124 ∷ 32 ∷ 32 ∷ 32 ∷ 32 ∷ 32 ∷ 34 ∷ 12 ∷ 34 ∷ 10 ∷ [])
    ∷ (codes "| <template>\n|   content\n|     <glyphref>\n| \"ab\"\n")
    ∷ (codes "| <!DOCTYPE html>\n| <html>\n|   <head>\n|   <body>\n|     <form>\n|       <table>\n|       <table>\n")
    ∷ (codes "| <!DOCTYPE x>\n| <html>\n|   <head>\n|   <body>\n|     <table>\n|       <colgroup>\n|         \"\r\"\n")
    ∷ []

built_49 : map shown_of rows_49 ≡ trees_49
unfolding rows_49 trees_49 adjusted_attributes adjusted_name adjusted_tag_name cased foreign_attributes math_attribute_names svg_attribute_names svg_tag_names added_after adopted ended_by entry_of furthest_block inner_loop nth_open opened_inside opened_outside outer_loop replaced process run start step told_all begins_with begins_with_one html_4_01_beginnings limited_quirks_beginnings means_limited_quirks means_quirks quirks_beginnings quirks_public_ids quirks_system_ids added_before built changed has_one_like lacking row_of tree_from without_node foreign_end are_among cleared count_after_marker count_alike has_attribute_like has_entry last_named reopened still_listed to_reopen with_entry without_earliest without_entry without_oldest item_met all_names breaks_out ends_scope ends_table_scope has_such is_among is_body_context is_formatting is_fostering is_implied is_implied_thoroughly is_listed is_row_context is_special kind_in kind_in_namespace kind_of may_stay_open namespace_of first_open foster_place_in has_in_scope has_open popped_to_first_in popped_until_in popped_while_in second_body without_open mode_of flushed_as_space flushed_fostered is_all_space mode_of_request reply_of value_of among attribute_lines comes_before indent shown shown_of sorted
built_49 = refl

rows_50 : List Case
rows_50 =
    -- in table: using in head: "<!DOCTYPE html>x <table class=2></template></table>"
    (document true (Doctype (record { name = (Some (codes "html")); public_id = None; system_id = None; force_quirks = false }) ∷ Text (codes "x ") ∷ start_tag (codes "table") (attribute (codes "class") (codes "2") ∷ []) ∷ end_tag (codes "template") ∷ end_tag (codes "table") ∷ End ∷ []))
    -- in table: start input: "<!DOCTYPE html><table><tbody>\n<input a=1 a=2>"
    ∷ (document false (Doctype (record { name = (Some (codes "html")); public_id = None; system_id = None; force_quirks = false }) ∷ start_tag (codes "table") [] ∷ start_tag (codes "tbody") [] ∷ Text (codes "\n") ∷ start_tag (codes "input") (attribute (codes "a") (codes "1") ∷ []) ∷ End ∷ []))
    -- in table: start input: "<!DOCTYPE html><table><input type='hidden '>"
    ∷ (document true (Doctype (record { name = (Some (codes "html")); public_id = None; system_id = None; force_quirks = false }) ∷ start_tag (codes "table") [] ∷ start_tag (codes "input") (attribute (codes "type") (codes "hidden ") ∷ []) ∷ End ∷ []))
    -- in table: start input: "<table><tbody></tr><input id=a class=1>"
    ∷ (fragment true Html (codes "body") [] (start_tag (codes "table") [] ∷ start_tag (codes "tbody") [] ∷ end_tag (codes "tr") ∷ start_tag (codes "input") (attribute (codes "id") (codes "a") ∷ attribute (codes "class") (codes "1") ∷ []) ∷ End ∷ []))
    -- in table: start form: "<!DOCTYPE html><table><tr>&#13;<form>"
    ∷ (document false (Doctype (record { name = (Some (codes "html")); public_id = None; system_id = None; force_quirks = false }) ∷ start_tag (codes "table") [] ∷ start_tag (codes "tr") [] ∷ Text (codes "\r") ∷ start_tag (codes "form") [] ∷ End ∷ []))
    -- in table: start form: "<table><tr><form><tfoot a=1 a=2>"
    ∷ (fragment true MathMl (codes "annotation-xml") (attribute (codes "encoding") (codes "text/html") ∷ []) (start_tag (codes "table") [] ∷ start_tag (codes "tr") [] ∷ start_tag (codes "form") [] ∷ start_tag (codes "tfoot") (attribute (codes "a") (codes "1") ∷ []) ∷ End ∷ []))
    -- in table: start form: "<table><tbody><form> x<caption>"
    ∷ (fragment false Html (codes "li") [] (start_tag (codes "table") [] ∷ start_tag (codes "tbody") [] ∷ start_tag (codes "form") [] ∷ Text (codes " x") ∷ start_tag (codes "caption") [] ∷ End ∷ []))
    -- in table: using in body: "\n\nx"
    ∷ (fragment false Html (codes "tbody") [] (Text (codes "\n\nx") ∷ Text [] ∷ End ∷ []))
    -- in table: using in body: "\f<table>"
    ∷ (document false (Text (12 ∷ []) ∷ start_tag (codes "table") [] ∷ End ∷ []))
    -- in table: using in body: "<p>"
    ∷ (fragment false Html (codes "tbody") [] (start_tag (codes "p") [] ∷ End ∷ []))
    -- in table: anything else: "</h5>"
    ∷ (fragment true Html (codes "tbody") [] (end_tag (codes "h5") ∷ End ∷ []))
    -- in table: anything else: "</mi>"
    ∷ (fragment false Html (codes "table") [] (end_tag (codes "mi") ∷ End ∷ []))
    ∷ []

trees_50 : List (List ℕ)
trees_50 =
    (codes "| <!DOCTYPE html>\n| <html>\n|   <head>\n|   <body>\n|     \"x \"\n|     <table>\n|       class=\"2\"\n")
    ∷ (codes "| <!DOCTYPE html>\n| <html>\n|   <head>\n|   <body>\n|     <input>\n|       a=\"1\"\n|     <table>\n|       <tbody>\n|         \"\n\"\n")
    ∷ (codes "| <!DOCTYPE html>\n| <html>\n|   <head>\n|   <body>\n|     <input>\n|       type=\"hidden \"\n|     <table>\n")
    ∷ (codes "| <input>\n|   class=\"1\"\n|   id=\"a\"\n| <table>\n|   <tbody>\n")
    ∷ (codes "| <!DOCTYPE html>\n| <html>\n|   <head>\n|   <body>\n|     <table>\n|       <tbody>\n|         <tr>\n|           \"\r\"\n|           <form>\n")
    ∷ (codes "| <table>\n|   <tbody>\n|     <tr>\n|       <form>\n|   <tfoot>\n|     a=\"1\"\n")
    ∷ (codes "| \" x\"\n| <table>\n|   <tbody>\n|     <form>\n|   <caption>\n")
    ∷ (codes "| \"\n\nx\"\n")
    ∷ (codes "| <html>\n|   <head>\n|   <body>\n|     <table>\n")
    ∷ (codes "| <p>\n")
    ∷ []
    ∷ []
    ∷ []

built_50 : map shown_of rows_50 ≡ trees_50
unfolding rows_50 trees_50 adjusted_attributes adjusted_name adjusted_tag_name cased foreign_attributes math_attribute_names svg_attribute_names svg_tag_names added_after adopted ended_by entry_of furthest_block inner_loop nth_open opened_inside opened_outside outer_loop replaced process run start step told_all begins_with begins_with_one html_4_01_beginnings limited_quirks_beginnings means_limited_quirks means_quirks quirks_beginnings quirks_public_ids quirks_system_ids added_before built changed has_one_like lacking row_of tree_from without_node foreign_end are_among cleared count_after_marker count_alike has_attribute_like has_entry last_named reopened still_listed to_reopen with_entry without_earliest without_entry without_oldest item_met all_names breaks_out ends_scope ends_table_scope has_such is_among is_body_context is_formatting is_fostering is_implied is_implied_thoroughly is_listed is_row_context is_special kind_in kind_in_namespace kind_of may_stay_open namespace_of first_open foster_place_in has_in_scope has_open popped_to_first_in popped_until_in popped_while_in second_body without_open mode_of flushed_as_space flushed_fostered is_all_space mode_of_request reply_of value_of among attribute_lines comes_before indent shown shown_of sorted
built_50 = refl

rows_51 : List Case
rows_51 =
    -- in table: anything else: "<tt>"
    (fragment false Html (codes "tr") [] (start_tag (codes "tt") [] ∷ End ∷ []))
    -- in table text: parse error ignore: "<table><select></select>\u0000"
    ∷ (document true (start_tag (codes "table") [] ∷ start_tag (codes "select") [] ∷ end_tag (codes "select") ∷ Null ∷ End ∷ []))
    -- in table text: parse error ignore: "\u0000 <tr></tr><table>\u0000"
    ∷ (fragment true Html (codes "math") [] (Null ∷ Text (codes " ") ∷ start_tag (codes "tr") [] ∷ end_tag (codes "tr") ∷ start_tag (codes "table") [] ∷ Null ∷ End ∷ []))
    -- in table text: parse error ignore: "<table><colgroup>\u0000 </p>"
    ∷ (document true (start_tag (codes "table") [] ∷ start_tag (codes "colgroup") [] ∷ Null ∷ Text (codes " ") ∷ end_tag (codes "p") ∷ End ∷ []))
    -- in table text: any other character: "<table>&amp;"
    ∷ (fragment true MathMl (codes "math") [] (start_tag (codes "table") [] ∷ Text (codes "&") ∷ End ∷ []))
    -- in table text: any other character: "<table><tr>&amp;x"
    ∷ (document true (start_tag (codes "table") [] ∷ start_tag (codes "tr") [] ∷ Text (codes "&x") ∷ Text [] ∷ End ∷ []))
    -- in table text: any other character: "<table>\u0000 <meta>"
    ∷ (document false (start_tag (codes "table") [] ∷ Null ∷ Text (codes " ") ∷ start_tag (codes "meta") [] ∷ End ∷ []))
    -- in table text: anything else: "<table><tbody>y"
    ∷ (document false (start_tag (codes "table") [] ∷ start_tag (codes "tbody") [] ∷ Text (codes "y") ∷ Text [] ∷ End ∷ []))
    -- in table text: anything else: "<table>\f<rb/>"
    ∷ (document true (start_tag (codes "table") [] ∷ Text (12 ∷ []) ∷ closed_tag (codes "rb") [] ∷ End ∷ []))
    -- in table text: anything else: "<table><tr>yy"
    ∷ (document true (start_tag (codes "table") [] ∷ start_tag (codes "tr") [] ∷ Text (codes "yy") ∷ Text [] ∷ End ∷ []))
    -- in caption: end caption: "<!DOCTYPE html><table><caption></caption><![CDATA[x]]></body></p><p>"
    ∷ (document false (Doctype (record { name = (Some (codes "html")); public_id = None; system_id = None; force_quirks = false }) ∷ start_tag (codes "table") [] ∷ start_tag (codes "caption") [] ∷ end_tag (codes "caption") ∷ Comment (codes "[CDATA[x]]") ∷ end_tag (codes "body") ∷ end_tag (codes "p") ∷ start_tag (codes "p") [] ∷ End ∷ []))
    -- in caption: end caption: "<!DOCTYPE html><table><tr><td></th></fefuncb><tr><caption></caption>"
    ∷ (document false (Doctype (record { name = (Some (codes "html")); public_id = None; system_id = None; force_quirks = false }) ∷ start_tag (codes "table") [] ∷ start_tag (codes "tr") [] ∷ start_tag (codes "td") [] ∷ end_tag (codes "th") ∷ end_tag (codes "fefuncb") ∷ start_tag (codes "tr") [] ∷ start_tag (codes "caption") [] ∷ end_tag (codes "caption") ∷ End ∷ []))
    ∷ []

trees_51 : List (List ℕ)
trees_51 =
    (codes "| <tt>\n")
    ∷ (codes "| <html>\n|   <head>\n|   <body>\n|     <select>\n|     <table>\n")
    ∷ (codes "| \" \"\n| <table>\n")
    ∷ (codes "| <html>\n|   <head>\n|   <body>\n|     <p>\n|     <table>\n|       <colgroup>\n|       \" \"\n")
    ∷ (codes "| \"&\"\n| <table>\n")
    ∷ (codes "| <html>\n|   <head>\n|   <body>\n|     \"&x\"\n|     <table>\n|       <tbody>\n|         <tr>\n")
    ∷ (codes "| <html>\n|   <head>\n|   <body>\n|     <meta>\n|     <table>\n|       \" \"\n")
    ∷ (codes "| <html>\n|   <head>\n|   <body>\n|     \"y\"\n|     <table>\n|       <tbody>\n")
    ∷ (124 ∷ 32 ∷ 60 ∷ 104 ∷ 116 ∷ 109 ∷ 108 ∷ 62 ∷ 10 ∷ 124 ∷ 32 ∷ 32 ∷ 32 ∷ 60 ∷ 104 ∷ 101 ∷ 97 ∷ 100 ∷ 62 ∷ 10 ∷ 124 ∷ 32 ∷ 32 ∷ 32 ∷ 60 ∷ 98 ∷ 111 ∷ 100 ∷ 121 ∷ 62 ∷ 10 ∷ 124 ∷ 32 ∷ 32 ∷ 32 ∷ 32 ∷ 32 ∷ 60 ∷ 114 ∷ 98 ∷ 62 ∷ 10 ∷ 124 ∷ 32 ∷ 32 ∷ 32 ∷ 32 ∷ 32 ∷ 60 ∷ 116 ∷ 97 ∷ 98 ∷ 108 ∷ 101 ∷ 62 ∷ 10 ∷ 124 ∷ 32 ∷ 32 ∷ 32 ∷ 32 ∷ 32 ∷ 32 ∷ 32 ∷ 34 ∷ 12 ∷ 34 ∷ 10 ∷ [])
    ∷ (codes "| <html>\n|   <head>\n|   <body>\n|     \"yy\"\n|     <table>\n|       <tbody>\n|         <tr>\n")
    ∷ (codes "| <!DOCTYPE html>\n| <html>\n|   <head>\n|   <body>\n|     <p>\n|     <p>\n|     <table>\n|       <caption>\n|       <!-- [CDATA[x]] -->\n")
    ∷ (codes "| <!DOCTYPE html>\n| <html>\n|   <head>\n|   <body>\n|     <table>\n|       <tbody>\n|         <tr>\n|           <td>\n|         <tr>\n|       <caption>\n")
    ∷ []

built_51 : map shown_of rows_51 ≡ trees_51
unfolding rows_51 trees_51 adjusted_attributes adjusted_name adjusted_tag_name cased foreign_attributes math_attribute_names svg_attribute_names svg_tag_names added_after adopted ended_by entry_of furthest_block inner_loop nth_open opened_inside opened_outside outer_loop replaced process run start step told_all begins_with begins_with_one html_4_01_beginnings limited_quirks_beginnings means_limited_quirks means_quirks quirks_beginnings quirks_public_ids quirks_system_ids added_before built changed has_one_like lacking row_of tree_from without_node foreign_end are_among cleared count_after_marker count_alike has_attribute_like has_entry last_named reopened still_listed to_reopen with_entry without_earliest without_entry without_oldest item_met all_names breaks_out ends_scope ends_table_scope has_such is_among is_body_context is_formatting is_fostering is_implied is_implied_thoroughly is_listed is_row_context is_special kind_in kind_in_namespace kind_of may_stay_open namespace_of first_open foster_place_in has_in_scope has_open popped_to_first_in popped_until_in popped_while_in second_body without_open mode_of flushed_as_space flushed_fostered is_all_space mode_of_request reply_of value_of among attribute_lines comes_before indent shown shown_of sorted
built_51 = refl

rows_52 : List Case
rows_52 =
    -- in caption: end caption: "<!DOCTYPE html><table><select><option><caption></caption><caption>"
    (document true (Doctype (record { name = (Some (codes "html")); public_id = None; system_id = None; force_quirks = false }) ∷ start_tag (codes "table") [] ∷ start_tag (codes "select") [] ∷ start_tag (codes "option") [] ∷ start_tag (codes "caption") [] ∷ end_tag (codes "caption") ∷ start_tag (codes "caption") [] ∷ End ∷ []))
    -- in caption: start caption and others: "<!DOCTYPE html><table><caption><td>"
    ∷ (document true (Doctype (record { name = (Some (codes "html")); public_id = None; system_id = None; force_quirks = false }) ∷ start_tag (codes "table") [] ∷ start_tag (codes "caption") [] ∷ start_tag (codes "td") [] ∷ End ∷ []))
    -- in caption: start caption and others: "<!DOCTYPE><table><caption><col>"
    ∷ (document true (Doctype (record { name = None; public_id = None; system_id = None; force_quirks = true }) ∷ start_tag (codes "table") [] ∷ start_tag (codes "caption") [] ∷ start_tag (codes "col") [] ∷ End ∷ []))
    -- in caption: start caption and others: "<clippath><tr>\n</frameset>"
    ∷ (fragment false Html (codes "caption") [] (start_tag (codes "clippath") [] ∷ start_tag (codes "tr") [] ∷ Text (codes "\n") ∷ end_tag (codes "frameset") ∷ End ∷ []))
    -- in caption: parse error ignore: "<!DOCTYPE html><table><caption></html></p>"
    ∷ (document true (Doctype (record { name = (Some (codes "html")); public_id = None; system_id = None; force_quirks = false }) ∷ start_tag (codes "table") [] ∷ start_tag (codes "caption") [] ∷ end_tag (codes "html") ∷ end_tag (codes "p") ∷ End ∷ []))
    -- in caption: parse error ignore: "<tr a=1 a=2><![CDATA[x]]>\t</tr></b>"
    ∷ (fragment true Html (codes "caption") [] (start_tag (codes "tr") (attribute (codes "a") (codes "1") ∷ []) ∷ Comment (codes "[CDATA[x]]") ∷ Text (codes "\t") ∷ end_tag (codes "tr") ∷ end_tag (codes "b") ∷ End ∷ []))
    -- in caption: parse error ignore: "<!DOCTYPE html><table><caption></col>"
    ∷ (document false (Doctype (record { name = (Some (codes "html")); public_id = None; system_id = None; force_quirks = false }) ∷ start_tag (codes "table") [] ∷ start_tag (codes "caption") [] ∷ end_tag (codes "col") ∷ End ∷ []))
    -- in caption: using in body: "\n\nx</table>"
    ∷ (fragment false Html (codes "caption") [] (Text (codes "\n\nx") ∷ end_tag (codes "table") ∷ End ∷ []))
    -- in caption: using in body: "\f<optgroup>"
    ∷ (fragment false Html (codes "caption") [] (Text (12 ∷ []) ∷ start_tag (codes "optgroup") [] ∷ End ∷ []))
    -- in caption: using in body: "<font id=x>"
    ∷ (fragment true Html (codes "caption") [] (start_tag (codes "font") (attribute (codes "id") (codes "x") ∷ []) ∷ End ∷ []))
    -- in column group: insert the character: "<form><table>\f</td>"
    ∷ (fragment true Html (codes "colgroup") [] (start_tag (codes "form") [] ∷ start_tag (codes "table") [] ∷ Text (12 ∷ []) ∷ end_tag (codes "td") ∷ End ∷ []))
    -- in column group: insert the character: "<table><colgroup>&#13;"
    ∷ (document true (start_tag (codes "table") [] ∷ start_tag (codes "colgroup") [] ∷ Text (codes "\r") ∷ Text [] ∷ End ∷ []))
    ∷ []

trees_52 : List (List ℕ)
trees_52 =
    (codes "| <!DOCTYPE html>\n| <html>\n|   <head>\n|   <body>\n|     <select>\n|       <option>\n|     <table>\n|       <caption>\n|       <caption>\n")
    ∷ (codes "| <!DOCTYPE html>\n| <html>\n|   <head>\n|   <body>\n|     <table>\n|       <caption>\n|       <tbody>\n|         <tr>\n|           <td>\n")
    ∷ (codes "| <!DOCTYPE >\n| <html>\n|   <head>\n|   <body>\n|     <table>\n|       <caption>\n|       <colgroup>\n|         <col>\n")
    ∷ (codes "| <clippath>\n|   \"\n\"\n")
    ∷ (codes "| <!DOCTYPE html>\n| <html>\n|   <head>\n|   <body>\n|     <table>\n|       <caption>\n|         <p>\n")
    ∷ (codes "| <!-- [CDATA[x]] -->\n| \"\t\"\n")
    ∷ (codes "| <!DOCTYPE html>\n| <html>\n|   <head>\n|   <body>\n|     <table>\n|       <caption>\n")
    ∷ (codes "| \"\n\nx\"\n")
    ∷ (124 ∷ 32 ∷ 34 ∷ 12 ∷ 34 ∷ 10 ∷ 124 ∷ 32 ∷ 60 ∷ 111 ∷ 112 ∷ 116 ∷ 103 ∷ 114 ∷ 111 ∷ 117 ∷ 112 ∷ 62 ∷ 10 ∷ [])
    ∷ (codes "| <font>\n|   id=\"x\"\n")
    ∷ (124 ∷ 32 ∷ 34 ∷ 12 ∷ 34 ∷ 10 ∷ [])
    ∷ (codes "| <html>\n|   <head>\n|   <body>\n|     <table>\n|       <colgroup>\n|         \"\r\"\n")
    ∷ []

built_52 : map shown_of rows_52 ≡ trees_52
unfolding rows_52 trees_52 adjusted_attributes adjusted_name adjusted_tag_name cased foreign_attributes math_attribute_names svg_attribute_names svg_tag_names added_after adopted ended_by entry_of furthest_block inner_loop nth_open opened_inside opened_outside outer_loop replaced process run start step told_all begins_with begins_with_one html_4_01_beginnings limited_quirks_beginnings means_limited_quirks means_quirks quirks_beginnings quirks_public_ids quirks_system_ids added_before built changed has_one_like lacking row_of tree_from without_node foreign_end are_among cleared count_after_marker count_alike has_attribute_like has_entry last_named reopened still_listed to_reopen with_entry without_earliest without_entry without_oldest item_met all_names breaks_out ends_scope ends_table_scope has_such is_among is_body_context is_formatting is_fostering is_implied is_implied_thoroughly is_listed is_row_context is_special kind_in kind_in_namespace kind_of may_stay_open namespace_of first_open foster_place_in has_in_scope has_open popped_to_first_in popped_until_in popped_while_in second_body without_open mode_of flushed_as_space flushed_fostered is_all_space mode_of_request reply_of value_of among attribute_lines comes_before indent shown shown_of sorted
built_52 = refl

rows_53 : List Case
rows_53 =
    -- in column group: insert the character: "<nobr><nobr>\r\n"
    (fragment true Html (codes "colgroup") [] (start_tag (codes "nobr") [] ∷ start_tag (codes "nobr") [] ∷ Text (codes "\n") ∷ Text [] ∷ End ∷ []))
    -- in column group: insert a comment: "<!DOCTYPE html><table><tbody></col><tbody><th a=1 a=2><!--c--><col><!--c--></tbody><caption>\n"
    ∷ (document false (Doctype (record { name = (Some (codes "html")); public_id = None; system_id = None; force_quirks = false }) ∷ start_tag (codes "table") [] ∷ start_tag (codes "tbody") [] ∷ end_tag (codes "col") ∷ start_tag (codes "tbody") [] ∷ start_tag (codes "th") (attribute (codes "a") (codes "1") ∷ []) ∷ Comment (codes "c") ∷ start_tag (codes "col") [] ∷ Comment (codes "c") ∷ end_tag (codes "tbody") ∷ start_tag (codes "caption") [] ∷ Text (codes "\n") ∷ Text [] ∷ End ∷ []))
    -- in column group: insert a comment: "</annotation-xml></p></button></table></fegaussianblur><button><!--c--></button>\u0000 </b>"
    ∷ (fragment false Html (codes "colgroup") [] (end_tag (codes "annotation-xml") ∷ end_tag (codes "p") ∷ end_tag (codes "button") ∷ end_tag (codes "table") ∷ end_tag (codes "fegaussianblur") ∷ start_tag (codes "button") [] ∷ Comment (codes "c") ∷ end_tag (codes "button") ∷ Null ∷ Text (codes " ") ∷ end_tag (codes "b") ∷ End ∷ []))
    -- in column group: insert a comment: "<!DOCTYPE html></html></math></command>&amp;<table><colgroup>\t<![CDATA[<p>]]></colgroup>"
    ∷ (document false (Doctype (record { name = (Some (codes "html")); public_id = None; system_id = None; force_quirks = false }) ∷ end_tag (codes "html") ∷ end_tag (codes "math") ∷ end_tag (codes "command") ∷ Text (codes "&") ∷ start_tag (codes "table") [] ∷ start_tag (codes "colgroup") [] ∷ Text (codes "\t") ∷ Text [] ∷ Comment (codes "[CDATA[<p") ∷ Text (codes "]]>") ∷ end_tag (codes "colgroup") ∷ End ∷ []))
    -- in column group: parse error ignore: "<!DOCTYPE html PUBLIC '-//W3C//DTD HTML 4.01 Transitional//EN'></td><table><tr xmlns=u xmlns:xlink=w><tr>"
    ∷ (fragment false Html (codes "colgroup") [] (Doctype (record { name = (Some (codes "html")); public_id = (Some (codes "-//W3C//DTD HTML 4.01 Transitional//EN")); system_id = None; force_quirks = false }) ∷ end_tag (codes "td") ∷ start_tag (codes "table") [] ∷ start_tag (codes "tr") (attribute (codes "xmlns") (codes "u") ∷ attribute (codes "xmlns:xlink") (codes "w") ∷ []) ∷ start_tag (codes "tr") [] ∷ End ∷ []))
    -- in column group: using in body: "</body></html></head><br definitionurl=u viewbox=v><frameset><![CDATA[<p>]]><html definitionurl=u viewbox=v>x<head/>"
    ∷ (fragment false Html (codes "colgroup") [] (end_tag (codes "body") ∷ end_tag (codes "html") ∷ end_tag (codes "head") ∷ start_tag (codes "br") (attribute (codes "definitionurl") (codes "u") ∷ attribute (codes "viewbox") (codes "v") ∷ []) ∷ start_tag (codes "frameset") [] ∷ Comment (codes "[CDATA[<p") ∷ Text (codes "]]>") ∷ start_tag (codes "html") (attribute (codes "definitionurl") (codes "u") ∷ attribute (codes "viewbox") (codes "v") ∷ []) ∷ Text (codes "x") ∷ closed_tag (codes "head") [] ∷ End ∷ []))
    -- in column group: using in body: "<!DOCTYPE html><table><colgroup><html><html xml:base=b xml:space=s gradienttransform=g><td id=a class=1><html><colgroup>"
    ∷ (document true (Doctype (record { name = (Some (codes "html")); public_id = None; system_id = None; force_quirks = false }) ∷ start_tag (codes "table") [] ∷ start_tag (codes "colgroup") [] ∷ start_tag (codes "html") [] ∷ start_tag (codes "html") (attribute (codes "xml:base") (codes "b") ∷ attribute (codes "xml:space") (codes "s") ∷ attribute (codes "gradienttransform") (codes "g") ∷ []) ∷ start_tag (codes "td") (attribute (codes "id") (codes "a") ∷ attribute (codes "class") (codes "1") ∷ []) ∷ start_tag (codes "html") [] ∷ start_tag (codes "colgroup") [] ∷ End ∷ []))
    -- in column group: using in body: "<!DOCTYPE html><table><colgroup><html xml:base=b xml:space=s gradienttransform=g>x <p><caption>"
    ∷ (document true (Doctype (record { name = (Some (codes "html")); public_id = None; system_id = None; force_quirks = false }) ∷ start_tag (codes "table") [] ∷ start_tag (codes "colgroup") [] ∷ start_tag (codes "html") (attribute (codes "xml:base") (codes "b") ∷ attribute (codes "xml:space") (codes "s") ∷ attribute (codes "gradienttransform") (codes "g") ∷ []) ∷ Text (codes "x ") ∷ start_tag (codes "p") [] ∷ start_tag (codes "caption") [] ∷ End ∷ []))
    -- in column group: start col: "<!DOCTYPE html SYSTEM ''><template>\f<col>"
    ∷ (document true (Doctype (record { name = (Some (codes "html")); public_id = None; system_id = (Some []); force_quirks = false }) ∷ start_tag (codes "template") [] ∷ Text (12 ∷ []) ∷ start_tag (codes "col") [] ∷ End ∷ []))
    -- in column group: start col: "<!DOCTYPE html><table><caption><p><col>"
    ∷ (document true (Doctype (record { name = (Some (codes "html")); public_id = None; system_id = None; force_quirks = false }) ∷ start_tag (codes "table") [] ∷ start_tag (codes "caption") [] ∷ start_tag (codes "p") [] ∷ start_tag (codes "col") [] ∷ End ∷ []))
    -- in column group: start col: "<col class=2></col>\u0000 </col><embed>"
    ∷ (fragment true Html (codes "colgroup") [] (start_tag (codes "col") (attribute (codes "class") (codes "2") ∷ []) ∷ end_tag (codes "col") ∷ Null ∷ Text (codes " ") ∷ end_tag (codes "col") ∷ start_tag (codes "embed") [] ∷ End ∷ []))
    -- in column group: end colgroup: "<table><colgroup><colgroup xml:base=b xml:space=s gradienttransform=g/></colgroup><caption> "
    ∷ (document false (start_tag (codes "table") [] ∷ start_tag (codes "colgroup") [] ∷ start_tag (codes "colgroup") (attribute (codes "xml:base") (codes "b") ∷ attribute (codes "xml:space") (codes "s") ∷ attribute (codes "gradienttransform") (codes "g/") ∷ []) ∷ end_tag (codes "colgroup") ∷ start_tag (codes "caption") [] ∷ Text (codes " ") ∷ Text [] ∷ End ∷ []))
    ∷ []

trees_53 : List (List ℕ)
trees_53 =
    (codes "| \"\n\"\n")
    ∷ (codes "| <!DOCTYPE html>\n| <html>\n|   <head>\n|   <body>\n|     <table>\n|       <tbody>\n|       <tbody>\n|         <tr>\n|           <th>\n|             a=\"1\"\n|             <!-- c -->\n|       <colgroup>\n|         <col>\n|         <!-- c -->\n|       <caption>\n|         \"\n\"\n")
    ∷ (codes "| <!-- c -->\n| \" \"\n")
    ∷ (codes "| <!DOCTYPE html>\n| <html>\n|   <head>\n|   <body>\n|     \"&]]>\"\n|     <table>\n|       <colgroup>\n|         \"\t\"\n|         <!-- [CDATA[<p -->\n")
    ∷ []
    ∷ (codes "| <!-- [CDATA[<p -->\n")
    ∷ (codes "| <!DOCTYPE html>\n| <html>\n|   gradienttransform=\"g\"\n|   xml:base=\"b\"\n|   xml:space=\"s\"\n|   <head>\n|   <body>\n|     <table>\n|       <colgroup>\n|       <tbody>\n|         <tr>\n|           <td>\n|             class=\"1\"\n|             id=\"a\"\n|       <colgroup>\n")
    ∷ (codes "| <!DOCTYPE html>\n| <html>\n|   gradienttransform=\"g\"\n|   xml:base=\"b\"\n|   xml:space=\"s\"\n|   <head>\n|   <body>\n|     \"x \"\n|     <p>\n|     <table>\n|       <colgroup>\n|       <caption>\n")
    ∷ (124 ∷ 32 ∷ 60 ∷ 33 ∷ 68 ∷ 79 ∷ 67 ∷ 84 ∷ 89 ∷ 80 ∷ 69 ∷ 32 ∷ 104 ∷ 116 ∷ 109 ∷ 108 ∷ 62 ∷ 10 ∷ 124 ∷ 32 ∷ 60 ∷ 104 ∷ 116 ∷ 109 ∷ 108 ∷ 62 ∷ 10 ∷ 124 ∷ 32 ∷ 32 ∷ 32 ∷ 60 ∷ 104 ∷ 101 ∷ 97 ∷ 100 ∷ 62 ∷ 10 ∷ 124 ∷ 32 ∷ 32 ∷ 32 ∷ 32 ∷ 32 ∷ 60 ∷ 116 ∷ 101 ∷ 109 ∷ 112 ∷ 108 ∷ 97 ∷ 116 ∷ 101 ∷ 62 ∷ 10 ∷ 124 ∷ 32 ∷ 32 ∷ 32 ∷ 32 ∷ 32 ∷ 32 ∷ 32 ∷ 99 ∷ 111 ∷ 110 ∷ 116 ∷ 101 ∷ 110 ∷ 116 ∷ 10 ∷ 124 ∷ 32 ∷ 32 ∷ 32 ∷ 32 ∷ 32 ∷ 32 ∷ 32 ∷ 32 ∷ 32 ∷ 34 ∷ 12 ∷ 34 ∷ 10 ∷ 124 ∷ 32 ∷ 32 ∷ 32 ∷ 32 ∷ 32 ∷ 32 ∷ 32 ∷ 32 ∷ 32 ∷ 60 ∷ 99 ∷ 111 ∷ 108 ∷ 62 ∷ 10 ∷ 124 ∷ 32 ∷ 32 ∷ 32 ∷ 60 ∷ 98 ∷ 111 ∷ 100 ∷ 121 ∷ 62 ∷ 10 ∷ [])
    ∷ (codes "| <!DOCTYPE html>\n| <html>\n|   <head>\n|   <body>\n|     <table>\n|       <caption>\n|         <p>\n|       <colgroup>\n|         <col>\n")
    ∷ (codes "| <col>\n|   class=\"2\"\n| \" \"\n")
    ∷ (codes "| <html>\n|   <head>\n|   <body>\n|     <table>\n|       <colgroup>\n|       <colgroup>\n|         gradienttransform=\"g/\"\n|         xml:base=\"b\"\n|         xml:space=\"s\"\n|       <caption>\n|         \" \"\n")
    ∷ []

built_53 : map shown_of rows_53 ≡ trees_53
unfolding rows_53 trees_53 adjusted_attributes adjusted_name adjusted_tag_name cased foreign_attributes math_attribute_names svg_attribute_names svg_tag_names added_after adopted ended_by entry_of furthest_block inner_loop nth_open opened_inside opened_outside outer_loop replaced process run start step told_all begins_with begins_with_one html_4_01_beginnings limited_quirks_beginnings means_limited_quirks means_quirks quirks_beginnings quirks_public_ids quirks_system_ids added_before built changed has_one_like lacking row_of tree_from without_node foreign_end are_among cleared count_after_marker count_alike has_attribute_like has_entry last_named reopened still_listed to_reopen with_entry without_earliest without_entry without_oldest item_met all_names breaks_out ends_scope ends_table_scope has_such is_among is_body_context is_formatting is_fostering is_implied is_implied_thoroughly is_listed is_row_context is_special kind_in kind_in_namespace kind_of may_stay_open namespace_of first_open foster_place_in has_in_scope has_open popped_to_first_in popped_until_in popped_while_in second_body without_open mode_of flushed_as_space flushed_fostered is_all_space mode_of_request reply_of value_of among attribute_lines comes_before indent shown shown_of sorted
built_53 = refl

rows_54 : List Case
rows_54 =
    -- in column group: end colgroup: "<table><colgroup></colgroup><template><caption><html definitionurl=u viewbox=v/>"
    (document false (start_tag (codes "table") [] ∷ start_tag (codes "colgroup") [] ∷ end_tag (codes "colgroup") ∷ start_tag (codes "template") [] ∷ start_tag (codes "caption") [] ∷ start_tag (codes "html") (attribute (codes "definitionurl") (codes "u") ∷ attribute (codes "viewbox") (codes "v/") ∷ []) ∷ End ∷ []))
    -- in column group: end colgroup: "<!DOCTYPE html><table><colgroup></colgroup>\u0000</col><!DOCTYPE html PUBLIC 'HTML'>"
    ∷ (document false (Doctype (record { name = (Some (codes "html")); public_id = None; system_id = None; force_quirks = false }) ∷ start_tag (codes "table") [] ∷ start_tag (codes "colgroup") [] ∷ end_tag (codes "colgroup") ∷ Null ∷ end_tag (codes "col") ∷ Doctype (record { name = (Some (codes "html")); public_id = (Some (codes "HTML")); system_id = None; force_quirks = false }) ∷ End ∷ []))
    -- in column group: parse error ignore: "<!DOCTYPE html><table><caption></tr><table><col id=a class=1></col><p></table>"
    ∷ (document false (Doctype (record { name = (Some (codes "html")); public_id = None; system_id = None; force_quirks = false }) ∷ start_tag (codes "table") [] ∷ start_tag (codes "caption") [] ∷ end_tag (codes "tr") ∷ start_tag (codes "table") [] ∷ start_tag (codes "col") (attribute (codes "id") (codes "a") ∷ attribute (codes "class") (codes "1") ∷ []) ∷ end_tag (codes "col") ∷ start_tag (codes "p") [] ∷ end_tag (codes "table") ∷ End ∷ []))
    -- in column group: parse error ignore: "<!DOCTYPE html><table><colgroup></td><col></col>\t<table></table></caption>"
    ∷ (document false (Doctype (record { name = (Some (codes "html")); public_id = None; system_id = None; force_quirks = false }) ∷ start_tag (codes "table") [] ∷ start_tag (codes "colgroup") [] ∷ end_tag (codes "td") ∷ start_tag (codes "col") [] ∷ end_tag (codes "col") ∷ Text (codes "\t") ∷ start_tag (codes "table") [] ∷ end_tag (codes "table") ∷ end_tag (codes "caption") ∷ End ∷ []))
    -- in column group: parse error ignore: "<!DOCTYPE><table><caption><b></b></b><colgroup class=1>\n</col><td class=2>"
    ∷ (document true (Doctype (record { name = None; public_id = None; system_id = None; force_quirks = true }) ∷ start_tag (codes "table") [] ∷ start_tag (codes "caption") [] ∷ start_tag (codes "b") [] ∷ end_tag (codes "b") ∷ end_tag (codes "b") ∷ start_tag (codes "colgroup") (attribute (codes "class") (codes "1") ∷ []) ∷ Text (codes "\n") ∷ end_tag (codes "col") ∷ start_tag (codes "td") (attribute (codes "class") (codes "2") ∷ []) ∷ End ∷ []))
    -- in column group: using in head: "<template class=2><lineargradient><a></lineargradient></a>z z</template><a></a><lineargradient/><altglyph>"
    ∷ (fragment true Html (codes "colgroup") [] (start_tag (codes "template") (attribute (codes "class") (codes "2") ∷ []) ∷ start_tag (codes "lineargradient") [] ∷ start_tag (codes "a") [] ∷ end_tag (codes "lineargradient") ∷ end_tag (codes "a") ∷ Text (codes "z z") ∷ end_tag (codes "template") ∷ start_tag (codes "a") [] ∷ end_tag (codes "a") ∷ closed_tag (codes "lineargradient") [] ∷ start_tag (codes "altglyph") [] ∷ End ∷ []))
    -- in column group: using in head: "<!DOCTYPE html PUBLIC '-//W3C//DTD XHTML 1.0 Transitional//EN' ''><table><colgroup><template></template>"
    ∷ (document false (Doctype (record { name = (Some (codes "html")); public_id = (Some (codes "-//W3C//DTD XHTML 1.0 Transitional//EN")); system_id = (Some []); force_quirks = false }) ∷ start_tag (codes "table") [] ∷ start_tag (codes "colgroup") [] ∷ start_tag (codes "template") [] ∷ end_tag (codes "template") ∷ End ∷ []))
    -- in column group: using in head: "<table><colgroup><template><html><html>\r\n</p><caption></template><col>x "
    ∷ (fragment false MathMl (codes "mtext") [] (start_tag (codes "table") [] ∷ start_tag (codes "colgroup") [] ∷ start_tag (codes "template") [] ∷ start_tag (codes "html") [] ∷ start_tag (codes "html") [] ∷ Text (codes "\n") ∷ end_tag (codes "p") ∷ start_tag (codes "caption") [] ∷ end_tag (codes "template") ∷ start_tag (codes "col") [] ∷ Text (codes "x ") ∷ Text [] ∷ End ∷ []))
    -- in column group: using in head: "<!DOCTYPE html><table><colgroup></template><mglyph><template a=1 a=2></noembed>"
    ∷ (document true (Doctype (record { name = (Some (codes "html")); public_id = None; system_id = None; force_quirks = false }) ∷ start_tag (codes "table") [] ∷ start_tag (codes "colgroup") [] ∷ end_tag (codes "template") ∷ start_tag (codes "mglyph") [] ∷ start_tag (codes "template") (attribute (codes "a") (codes "1") ∷ []) ∷ end_tag (codes "noembed") ∷ End ∷ []))
    -- in column group: using in head: "<!DOCTYPE html><table><colgroup><!--c--></template><td>"
    ∷ (document false (Doctype (record { name = (Some (codes "html")); public_id = None; system_id = None; force_quirks = false }) ∷ start_tag (codes "table") [] ∷ start_tag (codes "colgroup") [] ∷ Comment (codes "c") ∷ end_tag (codes "template") ∷ start_tag (codes "td") [] ∷ End ∷ []))
    -- in column group: using in body: "</tbody>"
    ∷ (fragment true Html (codes "colgroup") [] (end_tag (codes "tbody") ∷ End ∷ []))
    -- in column group: using in body: "\r\n<svg>"
    ∷ (fragment false Html (codes "colgroup") [] (Text (codes "\n") ∷ start_tag (codes "svg") [] ∷ End ∷ []))
    ∷ []

trees_54 : List (List ℕ)
trees_54 =
    (codes "| <html>\n|   <head>\n|   <body>\n|     <table>\n|       <colgroup>\n|       <template>\n|         content\n|           <caption>\n")
    ∷ (codes "| <!DOCTYPE html>\n| <html>\n|   <head>\n|   <body>\n|     <table>\n|       <colgroup>\n")
    ∷ (codes "| <!DOCTYPE html>\n| <html>\n|   <head>\n|   <body>\n|     <table>\n|       <caption>\n|         <p>\n|         <table>\n|           <colgroup>\n|             <col>\n|               class=\"1\"\n|               id=\"a\"\n")
    ∷ (codes "| <!DOCTYPE html>\n| <html>\n|   <head>\n|   <body>\n|     <table>\n|       <colgroup>\n|       <colgroup>\n|         <col>\n|         \"\t\"\n|     <table>\n")
    ∷ (codes "| <!DOCTYPE >\n| <html>\n|   <head>\n|   <body>\n|     <table>\n|       <caption>\n|         <b>\n|       <colgroup>\n|         class=\"1\"\n|         \"\n\"\n|       <tbody>\n|         <tr>\n|           <td>\n|             class=\"2\"\n")
    ∷ (codes "| <template>\n|   class=\"2\"\n|   content\n|     <lineargradient>\n|       <a>\n|     \"z z\"\n")
    ∷ (codes "| <!DOCTYPE html \"-//W3C//DTD XHTML 1.0 Transitional//EN\" \"\">\n| <html>\n|   <head>\n|   <body>\n|     <table>\n|       <colgroup>\n|         <template>\n|           content\n")
    ∷ (codes "| \"x \"\n| <table>\n|   <colgroup>\n|     <template>\n|       content\n|         \"\n\"\n|         <p>\n|     <col>\n")
    ∷ (codes "| <!DOCTYPE html>\n| <html>\n|   <head>\n|   <body>\n|     <mglyph>\n|       <template>\n|         a=\"1\"\n|         content\n|     <table>\n|       <colgroup>\n")
    ∷ (codes "| <!DOCTYPE html>\n| <html>\n|   <head>\n|   <body>\n|     <table>\n|       <colgroup>\n|         <!-- c -->\n|       <tbody>\n|         <tr>\n|           <td>\n")
    ∷ []
    ∷ (codes "| \"\n\"\n")
    ∷ []

built_54 : map shown_of rows_54 ≡ trees_54
unfolding rows_54 trees_54 adjusted_attributes adjusted_name adjusted_tag_name cased foreign_attributes math_attribute_names svg_attribute_names svg_tag_names added_after adopted ended_by entry_of furthest_block inner_loop nth_open opened_inside opened_outside outer_loop replaced process run start step told_all begins_with begins_with_one html_4_01_beginnings limited_quirks_beginnings means_limited_quirks means_quirks quirks_beginnings quirks_public_ids quirks_system_ids added_before built changed has_one_like lacking row_of tree_from without_node foreign_end are_among cleared count_after_marker count_alike has_attribute_like has_entry last_named reopened still_listed to_reopen with_entry without_earliest without_entry without_oldest item_met all_names breaks_out ends_scope ends_table_scope has_such is_among is_body_context is_formatting is_fostering is_implied is_implied_thoroughly is_listed is_row_context is_special kind_in kind_in_namespace kind_of may_stay_open namespace_of first_open foster_place_in has_in_scope has_open popped_to_first_in popped_until_in popped_while_in second_body without_open mode_of flushed_as_space flushed_fostered is_all_space mode_of_request reply_of value_of among attribute_lines comes_before indent shown shown_of sorted
built_54 = refl

rows_55 : List Case
rows_55 =
    -- in column group: using in body: "</body>"
    (fragment true Html (codes "colgroup") [] (end_tag (codes "body") ∷ End ∷ []))
    -- in column group: anything else: "<nobr><p>"
    ∷ (fragment true Html (codes "colgroup") [] (start_tag (codes "nobr") [] ∷ start_tag (codes "p") [] ∷ End ∷ []))
    -- in column group: anything else: "<a>\f</a>"
    ∷ (fragment false Html (codes "colgroup") [] (start_tag (codes "a") [] ∷ Text (12 ∷ []) ∷ end_tag (codes "a") ∷ End ∷ []))
    -- in column group: anything else: "<tr><tr>"
    ∷ (fragment false Html (codes "colgroup") [] (start_tag (codes "tr") [] ∷ start_tag (codes "tr") [] ∷ End ∷ []))
    -- in table body: start tr: "<table><tr/>"
    ∷ (fragment false Svg (codes "style") [] (start_tag (codes "table") [] ∷ closed_tag (codes "tr") [] ∷ End ∷ []))
    -- in table body: start tr: "<table><tr>x <tr>"
    ∷ (document true (start_tag (codes "table") [] ∷ start_tag (codes "tr") [] ∷ Text (codes "x ") ∷ start_tag (codes "tr") [] ∷ End ∷ []))
    -- in table body: start tr: "<tr a=1 a=2>"
    ∷ (fragment true Html (codes "tbody") [] (start_tag (codes "tr") (attribute (codes "a") (codes "1") ∷ []) ∷ End ∷ []))
    -- in table body: start th td: "<a><p><table><a><td></p></td>"
    ∷ (document false (start_tag (codes "a") [] ∷ start_tag (codes "p") [] ∷ start_tag (codes "table") [] ∷ start_tag (codes "a") [] ∷ start_tag (codes "td") [] ∷ end_tag (codes "p") ∷ end_tag (codes "td") ∷ End ∷ []))
    -- in table body: start th td: "<table><tbody></tr><th>"
    ∷ (fragment false Html (codes "ruby") [] (start_tag (codes "table") [] ∷ start_tag (codes "tbody") [] ∷ end_tag (codes "tr") ∷ start_tag (codes "th") [] ∷ End ∷ []))
    -- in table body: start th td: "<table><colgroup><td>"
    ∷ (fragment false Html (codes "thead") [] (start_tag (codes "table") [] ∷ start_tag (codes "colgroup") [] ∷ start_tag (codes "td") [] ∷ End ∷ []))
    -- in table body: end tbody tfoot thead: "<table><tr><td></tbody>\u0000</caption></html>"
    ∷ (fragment false MathMl (codes "annotation-xml") (attribute (codes "encoding") (codes "text/html") ∷ []) (start_tag (codes "table") [] ∷ start_tag (codes "tr") [] ∷ start_tag (codes "td") [] ∷ end_tag (codes "tbody") ∷ Null ∷ end_tag (codes "caption") ∷ end_tag (codes "html") ∷ End ∷ []))
    -- in table body: end tbody tfoot thead: "<table><tbody></th><thead></td></thead>"
    ∷ (fragment false Html (codes "rt") [] (start_tag (codes "table") [] ∷ start_tag (codes "tbody") [] ∷ end_tag (codes "th") ∷ start_tag (codes "thead") [] ∷ end_tag (codes "td") ∷ end_tag (codes "thead") ∷ End ∷ []))
    ∷ []

trees_55 : List (List ℕ)
trees_55 =
    []
    ∷ []
    ∷ (124 ∷ 32 ∷ 34 ∷ 12 ∷ 34 ∷ 10 ∷ [])
    ∷ []
    ∷ (codes "| <table>\n|   <tbody>\n|     <tr>\n")
    ∷ (codes "| <html>\n|   <head>\n|   <body>\n|     \"x \"\n|     <table>\n|       <tbody>\n|         <tr>\n|         <tr>\n")
    ∷ (codes "| <tr>\n|   a=\"1\"\n")
    ∷ (codes "| <html>\n|   <head>\n|   <body>\n|     <a>\n|       <p>\n|         <a>\n|         <table>\n|           <tbody>\n|             <tr>\n|               <td>\n|                 <p>\n")
    ∷ (codes "| <table>\n|   <tbody>\n|     <tr>\n|       <th>\n")
    ∷ (codes "| <tr>\n|   <td>\n")
    ∷ (codes "| <table>\n|   <tbody>\n|     <tr>\n|       <td>\n")
    ∷ (codes "| <table>\n|   <tbody>\n|   <thead>\n")
    ∷ []

built_55 : map shown_of rows_55 ≡ trees_55
unfolding rows_55 trees_55 adjusted_attributes adjusted_name adjusted_tag_name cased foreign_attributes math_attribute_names svg_attribute_names svg_tag_names added_after adopted ended_by entry_of furthest_block inner_loop nth_open opened_inside opened_outside outer_loop replaced process run start step told_all begins_with begins_with_one html_4_01_beginnings limited_quirks_beginnings means_limited_quirks means_quirks quirks_beginnings quirks_public_ids quirks_system_ids added_before built changed has_one_like lacking row_of tree_from without_node foreign_end are_among cleared count_after_marker count_alike has_attribute_like has_entry last_named reopened still_listed to_reopen with_entry without_earliest without_entry without_oldest item_met all_names breaks_out ends_scope ends_table_scope has_such is_among is_body_context is_formatting is_fostering is_implied is_implied_thoroughly is_listed is_row_context is_special kind_in kind_in_namespace kind_of may_stay_open namespace_of first_open foster_place_in has_in_scope has_open popped_to_first_in popped_until_in popped_while_in second_body without_open mode_of flushed_as_space flushed_fostered is_all_space mode_of_request reply_of value_of among attribute_lines comes_before indent shown shown_of sorted
built_55 = refl

rows_56 : List Case
rows_56 =
    -- in table body: end tbody tfoot thead: "<table><tr><td><select></tbody><tbody>"
    (fragment false Html (codes "form") [] (start_tag (codes "table") [] ∷ start_tag (codes "tr") [] ∷ start_tag (codes "td") [] ∷ start_tag (codes "select") [] ∷ end_tag (codes "tbody") ∷ start_tag (codes "tbody") [] ∷ End ∷ []))
    -- in table body: start caption and others: "<table><tbody></table>"
    ∷ (document false (start_tag (codes "table") [] ∷ start_tag (codes "tbody") [] ∷ end_tag (codes "table") ∷ End ∷ []))
    -- in table body: start caption and others: "y<code>\u0000 </table>"
    ∷ (fragment true Html (codes "thead") [] (Text (codes "y") ∷ start_tag (codes "code") [] ∷ Null ∷ Text (codes " ") ∷ end_tag (codes "table") ∷ End ∷ []))
    -- in table body: start caption and others: "\t<table></table>"
    ∷ (fragment true Html (codes "tbody") [] (Text (codes "\t") ∷ start_tag (codes "table") [] ∷ end_tag (codes "table") ∷ End ∷ []))
    -- in table body: parse error ignore: "<!DOCTYPE x><table><tbody></col>"
    ∷ (document true (Doctype (record { name = (Some (codes "x")); public_id = None; system_id = None; force_quirks = false }) ∷ start_tag (codes "table") [] ∷ start_tag (codes "tbody") [] ∷ end_tag (codes "col") ∷ End ∷ []))
    -- in table body: parse error ignore: "<body></body></body>"
    ∷ (fragment true Html (codes "thead") [] (start_tag (codes "body") [] ∷ end_tag (codes "body") ∷ end_tag (codes "body") ∷ End ∷ []))
    -- in table body: parse error ignore: "<table><tbody></col>"
    ∷ (fragment true Html (codes "svg") [] (start_tag (codes "table") [] ∷ start_tag (codes "tbody") [] ∷ end_tag (codes "col") ∷ End ∷ []))
    -- in table body: using in table: "\n</svg>"
    ∷ (fragment false Html (codes "tbody") [] (Text (codes "\n") ∷ end_tag (codes "svg") ∷ End ∷ []))
    -- in table body: using in table: "</math>"
    ∷ (fragment false Html (codes "tbody") [] (end_tag (codes "math") ∷ End ∷ []))
    -- in table body: using in table: "</nobr>"
    ∷ (fragment false Html (codes "tbody") [] (end_tag (codes "nobr") ∷ End ∷ []))
    -- in row: start th td: "<table><tr><td>\r\n</a>"
    ∷ (document false (start_tag (codes "table") [] ∷ start_tag (codes "tr") [] ∷ start_tag (codes "td") [] ∷ Text (codes "\n") ∷ end_tag (codes "a") ∷ End ∷ []))
    -- in row: start th td: "<table><tr><td>y"
    ∷ (fragment false Html (codes "body") [] (start_tag (codes "table") [] ∷ start_tag (codes "tr") [] ∷ start_tag (codes "td") [] ∷ Text (codes "y") ∷ Text [] ∷ End ∷ []))
    ∷ []

trees_56 : List (List ℕ)
trees_56 =
    (codes "| <table>\n|   <tbody>\n|     <tr>\n|       <td>\n|         <select>\n|   <tbody>\n")
    ∷ (codes "| <html>\n|   <head>\n|   <body>\n|     <table>\n|       <tbody>\n")
    ∷ (codes "| \"y\"\n| <code>\n|   \" \"\n")
    ∷ (codes "| \"\t\"\n")
    ∷ (codes "| <!DOCTYPE x>\n| <html>\n|   <head>\n|   <body>\n|     <table>\n|       <tbody>\n")
    ∷ []
    ∷ (codes "| <table>\n|   <tbody>\n")
    ∷ (codes "| \"\n\"\n")
    ∷ []
    ∷ []
    ∷ (codes "| <html>\n|   <head>\n|   <body>\n|     <table>\n|       <tbody>\n|         <tr>\n|           <td>\n|             \"\n\"\n")
    ∷ (codes "| <table>\n|   <tbody>\n|     <tr>\n|       <td>\n|         \"y\"\n")
    ∷ []

built_56 : map shown_of rows_56 ≡ trees_56
unfolding rows_56 trees_56 adjusted_attributes adjusted_name adjusted_tag_name cased foreign_attributes math_attribute_names svg_attribute_names svg_tag_names added_after adopted ended_by entry_of furthest_block inner_loop nth_open opened_inside opened_outside outer_loop replaced process run start step told_all begins_with begins_with_one html_4_01_beginnings limited_quirks_beginnings means_limited_quirks means_quirks quirks_beginnings quirks_public_ids quirks_system_ids added_before built changed has_one_like lacking row_of tree_from without_node foreign_end are_among cleared count_after_marker count_alike has_attribute_like has_entry last_named reopened still_listed to_reopen with_entry without_earliest without_entry without_oldest item_met all_names breaks_out ends_scope ends_table_scope has_such is_among is_body_context is_formatting is_fostering is_implied is_implied_thoroughly is_listed is_row_context is_special kind_in kind_in_namespace kind_of may_stay_open namespace_of first_open foster_place_in has_in_scope has_open popped_to_first_in popped_until_in popped_while_in second_body without_open mode_of flushed_as_space flushed_fostered is_all_space mode_of_request reply_of value_of among attribute_lines comes_before indent shown shown_of sorted
built_56 = refl

rows_57 : List Case
rows_57 =
    -- in row: start th td: "<table><caption><td>"
    (document true (start_tag (codes "table") [] ∷ start_tag (codes "caption") [] ∷ start_tag (codes "td") [] ∷ End ∷ []))
    -- in row: end tr: "<!DOCTYPE html><table><tr><td></tr><caption>x"
    ∷ (document true (Doctype (record { name = (Some (codes "html")); public_id = None; system_id = None; force_quirks = false }) ∷ start_tag (codes "table") [] ∷ start_tag (codes "tr") [] ∷ start_tag (codes "td") [] ∷ end_tag (codes "tr") ∷ start_tag (codes "caption") [] ∷ Text (codes "x") ∷ Text [] ∷ End ∷ []))
    -- in row: end tr: "<!DOCTYPE html><table><tr><tr></tr><form>"
    ∷ (document true (Doctype (record { name = (Some (codes "html")); public_id = None; system_id = None; force_quirks = false }) ∷ start_tag (codes "table") [] ∷ start_tag (codes "tr") [] ∷ start_tag (codes "tr") [] ∷ end_tag (codes "tr") ∷ start_tag (codes "form") [] ∷ End ∷ []))
    -- in row: end tr: "<!DOCTYPE html><table><tr></select></tr>"
    ∷ (document true (Doctype (record { name = (Some (codes "html")); public_id = None; system_id = None; force_quirks = false }) ∷ start_tag (codes "table") [] ∷ start_tag (codes "tr") [] ∷ end_tag (codes "select") ∷ end_tag (codes "tr") ∷ End ∷ []))
    -- in row: start caption and others: "</tt><dt><colgroup>"
    ∷ (fragment false Html (codes "tr") [] (end_tag (codes "tt") ∷ start_tag (codes "dt") [] ∷ start_tag (codes "colgroup") [] ∷ End ∷ []))
    -- in row: start caption and others: "<template><tr><caption>"
    ∷ (document true (start_tag (codes "template") [] ∷ start_tag (codes "tr") [] ∷ start_tag (codes "caption") [] ∷ End ∷ []))
    -- in row: start caption and others: "y<td></td></table>"
    ∷ (fragment true Html (codes "tbody") [] (Text (codes "y") ∷ start_tag (codes "td") [] ∷ end_tag (codes "td") ∷ end_tag (codes "table") ∷ End ∷ []))
    -- in row: end tbody tfoot thead: "<!DOCTYPE html PUBLIC><table><tr>\u0000</form></tbody>\u0000"
    ∷ (document false (Doctype (record { name = (Some (codes "html")); public_id = None; system_id = None; force_quirks = true }) ∷ start_tag (codes "table") [] ∷ start_tag (codes "tr") [] ∷ Null ∷ end_tag (codes "form") ∷ end_tag (codes "tbody") ∷ Null ∷ End ∷ []))
    -- in row: end tbody tfoot thead: "<table><tr><td>z z<!DOCTYPE html></tbody><caption>"
    ∷ (document false (start_tag (codes "table") [] ∷ start_tag (codes "tr") [] ∷ start_tag (codes "td") [] ∷ Text (codes "z z") ∷ Doctype (record { name = (Some (codes "html")); public_id = None; system_id = None; force_quirks = false }) ∷ end_tag (codes "tbody") ∷ start_tag (codes "caption") [] ∷ End ∷ []))
    -- in row: end tbody tfoot thead: "<table><tbody></th><tr>\n\nx<tr></tbody></tr>\n\nxy"
    ∷ (document false (start_tag (codes "table") [] ∷ start_tag (codes "tbody") [] ∷ end_tag (codes "th") ∷ start_tag (codes "tr") [] ∷ Text (codes "\n\nx") ∷ start_tag (codes "tr") [] ∷ end_tag (codes "tbody") ∷ end_tag (codes "tr") ∷ Text (codes "\n\nxy") ∷ Text [] ∷ End ∷ []))
    -- in row: parse error ignore: "<!DOCTYPE html><table><caption><td></td></p></html></table>"
    ∷ (document true (Doctype (record { name = (Some (codes "html")); public_id = None; system_id = None; force_quirks = false }) ∷ start_tag (codes "table") [] ∷ start_tag (codes "caption") [] ∷ start_tag (codes "td") [] ∷ end_tag (codes "td") ∷ end_tag (codes "p") ∷ end_tag (codes "html") ∷ end_tag (codes "table") ∷ End ∷ []))
    -- in row: parse error ignore: "<table><tr>\r\n<script a=1 a=2></script>\u0000 </td></pre>"
    ∷ (fragment true Html (codes "tbody") [] (start_tag (codes "table") [] ∷ start_tag (codes "tr") [] ∷ Text (codes "\n") ∷ start_tag (codes "script") (attribute (codes "a") (codes "1") ∷ []) ∷ end_tag (codes "script") ∷ Null ∷ Text (codes " ") ∷ end_tag (codes "td") ∷ end_tag (codes "pre") ∷ End ∷ []))
    ∷ []

trees_57 : List (List ℕ)
trees_57 =
    (codes "| <html>\n|   <head>\n|   <body>\n|     <table>\n|       <caption>\n|       <tbody>\n|         <tr>\n|           <td>\n")
    ∷ (codes "| <!DOCTYPE html>\n| <html>\n|   <head>\n|   <body>\n|     <table>\n|       <tbody>\n|         <tr>\n|           <td>\n|       <caption>\n|         \"x\"\n")
    ∷ (codes "| <!DOCTYPE html>\n| <html>\n|   <head>\n|   <body>\n|     <table>\n|       <tbody>\n|         <tr>\n|         <tr>\n|         <form>\n")
    ∷ (codes "| <!DOCTYPE html>\n| <html>\n|   <head>\n|   <body>\n|     <table>\n|       <tbody>\n|         <tr>\n")
    ∷ (codes "| <dt>\n")
    ∷ (codes "| <html>\n|   <head>\n|     <template>\n|       content\n|         <tr>\n|   <body>\n")
    ∷ (codes "| \"y\"\n| <tr>\n|   <td>\n")
    ∷ (codes "| <!DOCTYPE html>\n| <html>\n|   <head>\n|   <body>\n|     <table>\n|       <tbody>\n|         <tr>\n")
    ∷ (codes "| <html>\n|   <head>\n|   <body>\n|     <table>\n|       <tbody>\n|         <tr>\n|           <td>\n|             \"z z\"\n|       <caption>\n")
    ∷ (codes "| <html>\n|   <head>\n|   <body>\n|     \"\n\nx\n\nxy\"\n|     <table>\n|       <tbody>\n|         <tr>\n|         <tr>\n")
    ∷ (codes "| <!DOCTYPE html>\n| <html>\n|   <head>\n|   <body>\n|     <p>\n|     <table>\n|       <caption>\n|       <tbody>\n|         <tr>\n|           <td>\n")
    ∷ (codes "| <tr>\n|   \"\n\"\n|   <script>\n|     a=\"1\"\n|   \" \"\n")
    ∷ []

built_57 : map shown_of rows_57 ≡ trees_57
unfolding rows_57 trees_57 adjusted_attributes adjusted_name adjusted_tag_name cased foreign_attributes math_attribute_names svg_attribute_names svg_tag_names added_after adopted ended_by entry_of furthest_block inner_loop nth_open opened_inside opened_outside outer_loop replaced process run start step told_all begins_with begins_with_one html_4_01_beginnings limited_quirks_beginnings means_limited_quirks means_quirks quirks_beginnings quirks_public_ids quirks_system_ids added_before built changed has_one_like lacking row_of tree_from without_node foreign_end are_among cleared count_after_marker count_alike has_attribute_like has_entry last_named reopened still_listed to_reopen with_entry without_earliest without_entry without_oldest item_met all_names breaks_out ends_scope ends_table_scope has_such is_among is_body_context is_formatting is_fostering is_implied is_implied_thoroughly is_listed is_row_context is_special kind_in kind_in_namespace kind_of may_stay_open namespace_of first_open foster_place_in has_in_scope has_open popped_to_first_in popped_until_in popped_while_in second_body without_open mode_of flushed_as_space flushed_fostered is_all_space mode_of_request reply_of value_of among attribute_lines comes_before indent shown shown_of sorted
built_57 = refl

rows_58 : List Case
rows_58 =
    -- in row: parse error ignore: "<!DOCTYPE html PUBLIC><table><tr></body>"
    (document false (Doctype (record { name = (Some (codes "html")); public_id = None; system_id = None; force_quirks = true }) ∷ start_tag (codes "table") [] ∷ start_tag (codes "tr") [] ∷ end_tag (codes "body") ∷ End ∷ []))
    -- in row: using in table: "\n\nx&amp;"
    ∷ (fragment false Html (codes "tr") [] (Text (codes "\n\nx") ∷ Text (codes "&") ∷ End ∷ []))
    -- in row: using in table: "\u0000 x a\u0000b"
    ∷ (fragment false Html (codes "tr") [] (Null ∷ Text (codes " x a") ∷ Null ∷ Text (codes "b") ∷ Text [] ∷ End ∷ []))
    -- in row: using in table: "<a></a>"
    ∷ (fragment true Html (codes "tr") [] (start_tag (codes "a") [] ∷ end_tag (codes "a") ∷ End ∷ []))
    -- in cell: end td th: "<!DOCTYPE html><table><tr><td></td>\r\n"
    ∷ (document false (Doctype (record { name = (Some (codes "html")); public_id = None; system_id = None; force_quirks = false }) ∷ start_tag (codes "table") [] ∷ start_tag (codes "tr") [] ∷ start_tag (codes "td") [] ∷ end_tag (codes "td") ∷ Text (codes "\n") ∷ Text [] ∷ End ∷ []))
    -- in cell: end td th: "<!DOCTYPE html><table><tr><td></td>"
    ∷ (document false (Doctype (record { name = (Some (codes "html")); public_id = None; system_id = None; force_quirks = false }) ∷ start_tag (codes "table") [] ∷ start_tag (codes "tr") [] ∷ start_tag (codes "td") [] ∷ end_tag (codes "td") ∷ End ∷ []))
    -- in cell: end td th: "<!DOCTYPE html><table><tr><td></th>"
    ∷ (document false (Doctype (record { name = (Some (codes "html")); public_id = None; system_id = None; force_quirks = false }) ∷ start_tag (codes "table") [] ∷ start_tag (codes "tr") [] ∷ start_tag (codes "td") [] ∷ end_tag (codes "th") ∷ End ∷ []))
    -- in cell: start caption and others: "<table><tbody><th><tr></thead><table>"
    ∷ (document true (start_tag (codes "table") [] ∷ start_tag (codes "tbody") [] ∷ start_tag (codes "th") [] ∷ start_tag (codes "tr") [] ∷ end_tag (codes "thead") ∷ start_tag (codes "table") [] ∷ End ∷ []))
    -- in cell: start caption and others: "<!DOCTYPE html><table><tr><td><tr> "
    ∷ (document false (Doctype (record { name = (Some (codes "html")); public_id = None; system_id = None; force_quirks = false }) ∷ start_tag (codes "table") [] ∷ start_tag (codes "tr") [] ∷ start_tag (codes "td") [] ∷ start_tag (codes "tr") [] ∷ Text (codes " ") ∷ Text [] ∷ End ∷ []))
    -- in cell: start caption and others: "<table><tr><td><tbody><select>"
    ∷ (fragment false Html (codes "noscript") [] (start_tag (codes "table") [] ∷ start_tag (codes "tr") [] ∷ start_tag (codes "td") [] ∷ start_tag (codes "tbody") [] ∷ start_tag (codes "select") [] ∷ End ∷ []))
    -- in cell: parse error ignore: "<table><tr><td></col><tbody xmlns=u xmlns:xlink=w></tr>"
    ∷ (document true (start_tag (codes "table") [] ∷ start_tag (codes "tr") [] ∷ start_tag (codes "td") [] ∷ end_tag (codes "col") ∷ start_tag (codes "tbody") (attribute (codes "xmlns") (codes "u") ∷ attribute (codes "xmlns:xlink") (codes "w") ∷ []) ∷ end_tag (codes "tr") ∷ End ∷ []))
    -- in cell: parse error ignore: "<table><tr><td></body><th></caption><select></td>"
    ∷ (fragment false Svg (codes "foreignObject") [] (start_tag (codes "table") [] ∷ start_tag (codes "tr") [] ∷ start_tag (codes "td") [] ∷ end_tag (codes "body") ∷ start_tag (codes "th") [] ∷ end_tag (codes "caption") ∷ start_tag (codes "select") [] ∷ end_tag (codes "td") ∷ End ∷ []))
    ∷ []

trees_58 : List (List ℕ)
trees_58 =
    (codes "| <!DOCTYPE html>\n| <html>\n|   <head>\n|   <body>\n|     <table>\n|       <tbody>\n|         <tr>\n")
    ∷ (codes "| \"\n\nx&\"\n")
    ∷ (codes "| \" x ab\"\n")
    ∷ (codes "| <a>\n")
    ∷ (codes "| <!DOCTYPE html>\n| <html>\n|   <head>\n|   <body>\n|     <table>\n|       <tbody>\n|         <tr>\n|           <td>\n|           \"\n\"\n")
    ∷ (codes "| <!DOCTYPE html>\n| <html>\n|   <head>\n|   <body>\n|     <table>\n|       <tbody>\n|         <tr>\n|           <td>\n")
    ∷ (codes "| <!DOCTYPE html>\n| <html>\n|   <head>\n|   <body>\n|     <table>\n|       <tbody>\n|         <tr>\n|           <td>\n")
    ∷ (codes "| <html>\n|   <head>\n|   <body>\n|     <table>\n|       <tbody>\n|         <tr>\n|           <th>\n|         <tr>\n|     <table>\n")
    ∷ (codes "| <!DOCTYPE html>\n| <html>\n|   <head>\n|   <body>\n|     <table>\n|       <tbody>\n|         <tr>\n|           <td>\n|         <tr>\n|           \" \"\n")
    ∷ (codes "| <select>\n| <table>\n|   <tbody>\n|     <tr>\n|       <td>\n|   <tbody>\n")
    ∷ (codes "| <html>\n|   <head>\n|   <body>\n|     <table>\n|       <tbody>\n|         <tr>\n|           <td>\n|       <tbody>\n|         xmlns=\"u\"\n|         xmlns:xlink=\"w\"\n")
    ∷ (codes "| <table>\n|   <tbody>\n|     <tr>\n|       <td>\n|       <th>\n|         <select>\n")
    ∷ []

built_58 : map shown_of rows_58 ≡ trees_58
unfolding rows_58 trees_58 adjusted_attributes adjusted_name adjusted_tag_name cased foreign_attributes math_attribute_names svg_attribute_names svg_tag_names added_after adopted ended_by entry_of furthest_block inner_loop nth_open opened_inside opened_outside outer_loop replaced process run start step told_all begins_with begins_with_one html_4_01_beginnings limited_quirks_beginnings means_limited_quirks means_quirks quirks_beginnings quirks_public_ids quirks_system_ids added_before built changed has_one_like lacking row_of tree_from without_node foreign_end are_among cleared count_after_marker count_alike has_attribute_like has_entry last_named reopened still_listed to_reopen with_entry without_earliest without_entry without_oldest item_met all_names breaks_out ends_scope ends_table_scope has_such is_among is_body_context is_formatting is_fostering is_implied is_implied_thoroughly is_listed is_row_context is_special kind_in kind_in_namespace kind_of may_stay_open namespace_of first_open foster_place_in has_in_scope has_open popped_to_first_in popped_until_in popped_while_in second_body without_open mode_of flushed_as_space flushed_fostered is_all_space mode_of_request reply_of value_of among attribute_lines comes_before indent shown shown_of sorted
built_58 = refl

rows_59 : List Case
rows_59 =
    -- in cell: parse error ignore: "<table><tbody></tr><tbody><th></col><td></th><tr>"
    (document true (start_tag (codes "table") [] ∷ start_tag (codes "tbody") [] ∷ end_tag (codes "tr") ∷ start_tag (codes "tbody") [] ∷ start_tag (codes "th") [] ∷ end_tag (codes "col") ∷ start_tag (codes "td") [] ∷ end_tag (codes "th") ∷ start_tag (codes "tr") [] ∷ End ∷ []))
    -- in cell: end table and others: "<!DOCTYPE html SYSTEM ''><table><tr><td>x</tr>"
    ∷ (document true (Doctype (record { name = (Some (codes "html")); public_id = None; system_id = (Some []); force_quirks = false }) ∷ start_tag (codes "table") [] ∷ start_tag (codes "tr") [] ∷ start_tag (codes "td") [] ∷ Text (codes "x") ∷ end_tag (codes "tr") ∷ End ∷ []))
    -- in cell: end table and others: "<table>\u0000 \n\n<td></table><!--c-->a\u0000bz z"
    ∷ (document false (start_tag (codes "table") [] ∷ Null ∷ Text (codes " \n\n") ∷ start_tag (codes "td") [] ∷ end_tag (codes "table") ∷ Comment (codes "c") ∷ Text (codes "a") ∷ Null ∷ Text (codes "bz z") ∷ Text [] ∷ End ∷ []))
    -- in cell: end table and others: "<table><tr><td></tr><tr class=1>"
    ∷ (fragment false Svg (codes "desc") [] (start_tag (codes "table") [] ∷ start_tag (codes "tr") [] ∷ start_tag (codes "td") [] ∷ end_tag (codes "tr") ∷ start_tag (codes "tr") (attribute (codes "class") (codes "1") ∷ []) ∷ End ∷ []))
    -- in cell: using in body: "<table><tr><td>&amp;"
    ∷ (document true (start_tag (codes "table") [] ∷ start_tag (codes "tr") [] ∷ start_tag (codes "td") [] ∷ Text (codes "&") ∷ End ∷ []))
    -- in cell: using in body: "<table><tr><th>"
    ∷ (fragment false Html (codes "div") [] (start_tag (codes "table") [] ∷ start_tag (codes "tr") [] ∷ start_tag (codes "th") [] ∷ End ∷ []))
    -- in cell: using in body: "<ruby/><th>\r\nx"
    ∷ (fragment false Html (codes "table") [] (closed_tag (codes "ruby") [] ∷ start_tag (codes "th") [] ∷ Text (codes "\nx") ∷ Text [] ∷ End ∷ []))
    -- in template: using in body: "\u0000<desc><mtext>"
    ∷ (fragment true Html (codes "template") [] (Null ∷ start_tag (codes "desc") [] ∷ start_tag (codes "mtext") [] ∷ End ∷ []))
    -- in template: using in body: "z z</feflood>"
    ∷ (fragment true Html (codes "template") [] (Text (codes "z z") ∷ end_tag (codes "feflood") ∷ End ∷ []))
    -- in template: using in body: " x<marquee>"
    ∷ (fragment true Html (codes "template") [] (Text (codes " x") ∷ start_tag (codes "marquee") [] ∷ End ∷ []))
    -- in template: using in body: "<template><![CDATA[x]]> </frameset><b>\n</b><caption/>"
    ∷ (document false (start_tag (codes "template") [] ∷ Comment (codes "[CDATA[x]]") ∷ Text (codes " ") ∷ end_tag (codes "frameset") ∷ start_tag (codes "b") [] ∷ Text (codes "\n") ∷ end_tag (codes "b") ∷ closed_tag (codes "caption") [] ∷ End ∷ []))
    -- in template: using in body: "x </p></nobr> x<!--c--><p xmlns=u xmlns:xlink=w>"
    ∷ (fragment false Html (codes "template") [] (Text (codes "x ") ∷ end_tag (codes "p") ∷ end_tag (codes "nobr") ∷ Text (codes " x") ∷ Comment (codes "c") ∷ start_tag (codes "p") (attribute (codes "xmlns") (codes "u") ∷ attribute (codes "xmlns:xlink") (codes "w") ∷ []) ∷ End ∷ []))
    ∷ []

trees_59 : List (List ℕ)
trees_59 =
    (codes "| <html>\n|   <head>\n|   <body>\n|     <table>\n|       <tbody>\n|       <tbody>\n|         <tr>\n|           <th>\n|           <td>\n|         <tr>\n")
    ∷ (codes "| <!DOCTYPE html>\n| <html>\n|   <head>\n|   <body>\n|     <table>\n|       <tbody>\n|         <tr>\n|           <td>\n|             \"x\"\n")
    ∷ (codes "| <html>\n|   <head>\n|   <body>\n|     <table>\n|       \" \n\n\"\n|       <tbody>\n|         <tr>\n|           <td>\n|     <!-- c -->\n|     \"abz z\"\n")
    ∷ (codes "| <table>\n|   <tbody>\n|     <tr>\n|       <td>\n|     <tr>\n|       class=\"1\"\n")
    ∷ (codes "| <html>\n|   <head>\n|   <body>\n|     <table>\n|       <tbody>\n|         <tr>\n|           <td>\n|             \"&\"\n")
    ∷ (codes "| <table>\n|   <tbody>\n|     <tr>\n|       <th>\n")
    ∷ (codes "| <ruby>\n| <tbody>\n|   <tr>\n|     <th>\n|       \"\nx\"\n")
    ∷ (codes "| <desc>\n|   <mtext>\n")
    ∷ (codes "| \"z z\"\n")
    ∷ (codes "| \" x\"\n| <marquee>\n")
    ∷ (codes "| <html>\n|   <head>\n|     <template>\n|       content\n|         <!-- [CDATA[x]] -->\n|         \" \"\n|         <b>\n|           \"\n\"\n|   <body>\n")
    ∷ (codes "| \"x  x\"\n| <!-- c -->\n| <p>\n|   xmlns=\"u\"\n|   xmlns:xlink=\"w\"\n")
    ∷ []

built_59 : map shown_of rows_59 ≡ trees_59
unfolding rows_59 trees_59 adjusted_attributes adjusted_name adjusted_tag_name cased foreign_attributes math_attribute_names svg_attribute_names svg_tag_names added_after adopted ended_by entry_of furthest_block inner_loop nth_open opened_inside opened_outside outer_loop replaced process run start step told_all begins_with begins_with_one html_4_01_beginnings limited_quirks_beginnings means_limited_quirks means_quirks quirks_beginnings quirks_public_ids quirks_system_ids added_before built changed has_one_like lacking row_of tree_from without_node foreign_end are_among cleared count_after_marker count_alike has_attribute_like has_entry last_named reopened still_listed to_reopen with_entry without_earliest without_entry without_oldest item_met all_names breaks_out ends_scope ends_table_scope has_such is_among is_body_context is_formatting is_fostering is_implied is_implied_thoroughly is_listed is_row_context is_special kind_in kind_in_namespace kind_of may_stay_open namespace_of first_open foster_place_in has_in_scope has_open popped_to_first_in popped_until_in popped_while_in second_body without_open mode_of flushed_as_space flushed_fostered is_all_space mode_of_request reply_of value_of among attribute_lines comes_before indent shown shown_of sorted
built_59 = refl

rows_60 : List Case
rows_60 =
    -- in template: using in body: "<!DOCTYPE html><template>\r\n<!--c--><template><body>"
    (document false (Doctype (record { name = (Some (codes "html")); public_id = None; system_id = None; force_quirks = false }) ∷ start_tag (codes "template") [] ∷ Text (codes "\n") ∷ Comment (codes "c") ∷ start_tag (codes "template") [] ∷ start_tag (codes "body") [] ∷ End ∷ []))
    -- in template: using in body: "<!DOCTYPE html><template></col> <!DOCTYPE x></select><template a=1 a=2><template a=1 a=2><tbody>"
    ∷ (document false (Doctype (record { name = (Some (codes "html")); public_id = None; system_id = None; force_quirks = false }) ∷ start_tag (codes "template") [] ∷ end_tag (codes "col") ∷ Text (codes " ") ∷ Doctype (record { name = (Some (codes "x")); public_id = None; system_id = None; force_quirks = false }) ∷ end_tag (codes "select") ∷ start_tag (codes "template") (attribute (codes "a") (codes "1") ∷ []) ∷ start_tag (codes "template") (attribute (codes "a") (codes "1") ∷ []) ∷ start_tag (codes "tbody") [] ∷ End ∷ []))
    -- in template: using in body: "<!DOCTYPE html PUBLIC '-//W3C//DTD HTML 4.01//EN'></rp>"
    ∷ (fragment true Html (codes "template") [] (Doctype (record { name = (Some (codes "html")); public_id = (Some (codes "-//W3C//DTD HTML 4.01//EN")); system_id = None; force_quirks = false }) ∷ end_tag (codes "rp") ∷ End ∷ []))
    -- in template: using in body: "</tt>\u0000<!DOCTYPE x><b class=2> x<s></em></b>"
    ∷ (fragment true Html (codes "template") [] (end_tag (codes "tt") ∷ Null ∷ Doctype (record { name = (Some (codes "x")); public_id = None; system_id = None; force_quirks = false }) ∷ start_tag (codes "b") (attribute (codes "class") (codes "2") ∷ []) ∷ Text (codes " x") ∷ start_tag (codes "s") [] ∷ end_tag (codes "em") ∷ end_tag (codes "b") ∷ End ∷ []))
    -- in template: using in head: "<head>\n<link></style><template><title>"
    ∷ (fragment true Html (codes "optgroup") [] (start_tag (codes "head") [] ∷ Text (codes "\n") ∷ start_tag (codes "link") [] ∷ end_tag (codes "style") ∷ start_tag (codes "template") [] ∷ start_tag (codes "title") [] ∷ End ∷ []))
    -- in template: using in head: "<basefont xlink:href=x xml:lang=e> x"
    ∷ (fragment false Html (codes "template") [] (start_tag (codes "basefont") (attribute (codes "xlink:href") (codes "x") ∷ attribute (codes "xml:lang") (codes "e") ∷ []) ∷ Text (codes " x") ∷ Text [] ∷ End ∷ []))
    -- in template: using in head: "</table>y<noframes><tr><button>"
    ∷ (fragment true Html (codes "template") [] (end_tag (codes "table") ∷ Text (codes "y") ∷ start_tag (codes "noframes") [] ∷ Text (codes "<tr><button>") ∷ Text [] ∷ End ∷ []))
    -- in template: using in head: " <!DOCTYPE html></col><template></template></col>"
    ∷ (document true (Text (codes " ") ∷ Doctype (record { name = (Some (codes "html")); public_id = None; system_id = None; force_quirks = false }) ∷ end_tag (codes "col") ∷ start_tag (codes "template") [] ∷ end_tag (codes "template") ∷ end_tag (codes "col") ∷ End ∷ []))
    -- in template: using in head: "x<!DOCTYPE html><template a=1 a=2></template>y"
    ∷ (document false (Text (codes "x") ∷ Doctype (record { name = (Some (codes "html")); public_id = None; system_id = None; force_quirks = false }) ∷ start_tag (codes "template") (attribute (codes "a") (codes "1") ∷ []) ∷ end_tag (codes "template") ∷ Text (codes "y") ∷ Text [] ∷ End ∷ []))
    -- in template: using in head: "<!DOCTYPE html><template></template>z z</mn>"
    ∷ (document true (Doctype (record { name = (Some (codes "html")); public_id = None; system_id = None; force_quirks = false }) ∷ start_tag (codes "template") [] ∷ end_tag (codes "template") ∷ Text (codes "z z") ∷ end_tag (codes "mn") ∷ End ∷ []))
    -- in template: start caption and others: "<!DOCTYPE html><template>\t</a><caption xmlns=u xmlns:xlink=w>"
    ∷ (document true (Doctype (record { name = (Some (codes "html")); public_id = None; system_id = None; force_quirks = false }) ∷ start_tag (codes "template") [] ∷ Text (codes "\t") ∷ end_tag (codes "a") ∷ start_tag (codes "caption") (attribute (codes "xmlns") (codes "u") ∷ attribute (codes "xmlns:xlink") (codes "w") ∷ []) ∷ End ∷ []))
    -- in template: start caption and others: "<caption xmlns=u xmlns:xlink=w/><td id=a class=1>z z"
    ∷ (fragment false Html (codes "template") [] (start_tag (codes "caption") (attribute (codes "xmlns") (codes "u") ∷ attribute (codes "xmlns:xlink") (codes "w/") ∷ []) ∷ start_tag (codes "td") (attribute (codes "id") (codes "a") ∷ attribute (codes "class") (codes "1") ∷ []) ∷ Text (codes "z z") ∷ Text [] ∷ End ∷ []))
    ∷ []

trees_60 : List (List ℕ)
trees_60 =
    (codes "| <!DOCTYPE html>\n| <html>\n|   <head>\n|     <template>\n|       content\n|         \"\n\"\n|         <!-- c -->\n|         <template>\n|           content\n|   <body>\n")
    ∷ (codes "| <!DOCTYPE html>\n| <html>\n|   <head>\n|     <template>\n|       content\n|         \" \"\n|         <template>\n|           a=\"1\"\n|           content\n|             <template>\n|               a=\"1\"\n|               content\n|                 <tbody>\n|   <body>\n")
    ∷ []
    ∷ (codes "| <b>\n|   class=\"2\"\n|   \" x\"\n|   <s>\n")
    ∷ (codes "| \"\n\"\n| <link>\n| <template>\n|   content\n|     <title>\n")
    ∷ (codes "| <basefont>\n|   xlink:href=\"x\"\n|   xml:lang=\"e\"\n| \" x\"\n")
    ∷ (codes "| \"y\"\n| <noframes>\n|   \"<tr><button>\"\n")
    ∷ (codes "| <!DOCTYPE html>\n| <html>\n|   <head>\n|     <template>\n|       content\n|   <body>\n")
    ∷ (codes "| <html>\n|   <head>\n|   <body>\n|     \"x\"\n|     <template>\n|       a=\"1\"\n|       content\n|     \"y\"\n")
    ∷ (codes "| <!DOCTYPE html>\n| <html>\n|   <head>\n|     <template>\n|       content\n|   <body>\n|     \"z z\"\n")
    ∷ (codes "| <!DOCTYPE html>\n| <html>\n|   <head>\n|     <template>\n|       content\n|         \"\t\"\n|         <caption>\n|           xmlns=\"u\"\n|           xmlns:xlink=\"w\"\n|   <body>\n")
    ∷ (codes "| <caption>\n|   xmlns=\"u\"\n|   xmlns:xlink=\"w/\"\n| <tbody>\n|   <tr>\n|     <td>\n|       class=\"1\"\n|       id=\"a\"\n|       \"z z\"\n")
    ∷ []

built_60 : map shown_of rows_60 ≡ trees_60
unfolding rows_60 trees_60 adjusted_attributes adjusted_name adjusted_tag_name cased foreign_attributes math_attribute_names svg_attribute_names svg_tag_names added_after adopted ended_by entry_of furthest_block inner_loop nth_open opened_inside opened_outside outer_loop replaced process run start step told_all begins_with begins_with_one html_4_01_beginnings limited_quirks_beginnings means_limited_quirks means_quirks quirks_beginnings quirks_public_ids quirks_system_ids added_before built changed has_one_like lacking row_of tree_from without_node foreign_end are_among cleared count_after_marker count_alike has_attribute_like has_entry last_named reopened still_listed to_reopen with_entry without_earliest without_entry without_oldest item_met all_names breaks_out ends_scope ends_table_scope has_such is_among is_body_context is_formatting is_fostering is_implied is_implied_thoroughly is_listed is_row_context is_special kind_in kind_in_namespace kind_of may_stay_open namespace_of first_open foster_place_in has_in_scope has_open popped_to_first_in popped_until_in popped_while_in second_body without_open mode_of flushed_as_space flushed_fostered is_all_space mode_of_request reply_of value_of among attribute_lines comes_before indent shown shown_of sorted
built_60 = refl

rows_61 : List Case
rows_61 =
    -- in template: start caption and others: "<!DOCTYPE html><template></b><caption id=a class=1>"
    (document false (Doctype (record { name = (Some (codes "html")); public_id = None; system_id = None; force_quirks = false }) ∷ start_tag (codes "template") [] ∷ end_tag (codes "b") ∷ start_tag (codes "caption") (attribute (codes "id") (codes "a") ∷ attribute (codes "class") (codes "1") ∷ []) ∷ End ∷ []))
    -- in template: start col: "<!DOCTYPE html></input><tr><base xmlns=u xmlns:xlink=w><template class=1 id=a></tr><col><table>"
    ∷ (document false (Doctype (record { name = (Some (codes "html")); public_id = None; system_id = None; force_quirks = false }) ∷ end_tag (codes "input") ∷ start_tag (codes "tr") [] ∷ start_tag (codes "base") (attribute (codes "xmlns") (codes "u") ∷ attribute (codes "xmlns:xlink") (codes "w") ∷ []) ∷ start_tag (codes "template") (attribute (codes "class") (codes "1") ∷ attribute (codes "id") (codes "a") ∷ []) ∷ end_tag (codes "tr") ∷ start_tag (codes "col") [] ∷ start_tag (codes "table") [] ∷ End ∷ []))
    -- in template: start col: "<!DOCTYPE html PUBLIC '-//W3C//DTD HTML 4.01//EN'><template><col></h4>"
    ∷ (document false (Doctype (record { name = (Some (codes "html")); public_id = (Some (codes "-//W3C//DTD HTML 4.01//EN")); system_id = None; force_quirks = false }) ∷ start_tag (codes "template") [] ∷ start_tag (codes "col") [] ∷ end_tag (codes "h4") ∷ End ∷ []))
    -- in template: start col: "<template><col xlink:href=x xml:lang=e><select>"
    ∷ (document true (start_tag (codes "template") [] ∷ start_tag (codes "col") (attribute (codes "xlink:href") (codes "x") ∷ attribute (codes "xml:lang") (codes "e") ∷ []) ∷ start_tag (codes "select") [] ∷ End ∷ []))
    -- in template: start tr: "<!DOCTYPE html><form><table></button></button><template></tr><tr class=1 id=a>"
    ∷ (document true (Doctype (record { name = (Some (codes "html")); public_id = None; system_id = None; force_quirks = false }) ∷ start_tag (codes "form") [] ∷ start_tag (codes "table") [] ∷ end_tag (codes "button") ∷ end_tag (codes "button") ∷ start_tag (codes "template") [] ∷ end_tag (codes "tr") ∷ start_tag (codes "tr") (attribute (codes "class") (codes "1") ∷ attribute (codes "id") (codes "a") ∷ []) ∷ End ∷ []))
    -- in template: start tr: "<body></body>\n</option></u><template class=1 id=a><![CDATA[x]]><tr></tr>"
    ∷ (document false (start_tag (codes "body") [] ∷ end_tag (codes "body") ∷ Text (codes "\n") ∷ end_tag (codes "option") ∷ end_tag (codes "u") ∷ start_tag (codes "template") (attribute (codes "class") (codes "1") ∷ attribute (codes "id") (codes "a") ∷ []) ∷ Comment (codes "[CDATA[x]]") ∷ start_tag (codes "tr") [] ∷ end_tag (codes "tr") ∷ End ∷ []))
    -- in template: start tr: "<tr></table></button></tr><strong>\nz z<template a=1 a=2><tr/>&#13;"
    ∷ (document false (start_tag (codes "tr") [] ∷ end_tag (codes "table") ∷ end_tag (codes "button") ∷ end_tag (codes "tr") ∷ start_tag (codes "strong") [] ∷ Text (codes "\nz z") ∷ start_tag (codes "template") (attribute (codes "a") (codes "1") ∷ []) ∷ closed_tag (codes "tr") [] ∷ Text (codes "\r") ∷ Text [] ∷ End ∷ []))
    -- in template: start td th: "<!DOCTYPE x><template></b><template/><td></template><tr></td><![CDATA[x]]>x </tr><a>"
    ∷ (document true (Doctype (record { name = (Some (codes "x")); public_id = None; system_id = None; force_quirks = false }) ∷ start_tag (codes "template") [] ∷ end_tag (codes "b") ∷ closed_tag (codes "template") [] ∷ start_tag (codes "td") [] ∷ end_tag (codes "template") ∷ start_tag (codes "tr") [] ∷ end_tag (codes "td") ∷ Comment (codes "[CDATA[x]]") ∷ Text (codes "x ") ∷ end_tag (codes "tr") ∷ start_tag (codes "a") [] ∷ End ∷ []))
    -- in template: start td th: "<td xlink:href=x xml:lang=e></td><noembed></noembed> </noembed><td a=1 a=2>"
    ∷ (fragment true Html (codes "template") [] (start_tag (codes "td") (attribute (codes "xlink:href") (codes "x") ∷ attribute (codes "xml:lang") (codes "e") ∷ []) ∷ end_tag (codes "td") ∷ start_tag (codes "noembed") [] ∷ end_tag (codes "noembed") ∷ Text (codes " ") ∷ end_tag (codes "noembed") ∷ start_tag (codes "td") (attribute (codes "a") (codes "1") ∷ []) ∷ End ∷ []))
    -- in template: start td th: "<form><table><table class=1></table><template class=2><td class=1><hr/>"
    ∷ (document false (start_tag (codes "form") [] ∷ start_tag (codes "table") [] ∷ start_tag (codes "table") (attribute (codes "class") (codes "1") ∷ []) ∷ end_tag (codes "table") ∷ start_tag (codes "template") (attribute (codes "class") (codes "2") ∷ []) ∷ start_tag (codes "td") (attribute (codes "class") (codes "1") ∷ []) ∷ closed_tag (codes "hr") [] ∷ End ∷ []))
    -- in template: any other start tag: "</html><b/>"
    ∷ (fragment false Html (codes "template") [] (end_tag (codes "html") ∷ closed_tag (codes "b") [] ∷ End ∷ []))
    -- in template: any other start tag: "<math><mi>\u0000"
    ∷ (fragment false Html (codes "template") [] (start_tag (codes "math") [] ∷ start_tag (codes "mi") [] ∷ Null ∷ End ∷ []))
    ∷ []

trees_61 : List (List ℕ)
trees_61 =
    (codes "| <!DOCTYPE html>\n| <html>\n|   <head>\n|     <template>\n|       content\n|         <caption>\n|           class=\"1\"\n|           id=\"a\"\n|   <body>\n")
    ∷ (codes "| <!DOCTYPE html>\n| <html>\n|   <head>\n|   <body>\n|     <base>\n|       xmlns=\"u\"\n|       xmlns:xlink=\"w\"\n|     <template>\n|       class=\"1\"\n|       id=\"a\"\n|       content\n|         <col>\n")
    ∷ (codes "| <!DOCTYPE html \"-//W3C//DTD HTML 4.01//EN\" \"\">\n| <html>\n|   <head>\n|     <template>\n|       content\n|         <col>\n|   <body>\n")
    ∷ (codes "| <html>\n|   <head>\n|     <template>\n|       content\n|         <col>\n|           xlink:href=\"x\"\n|           xml:lang=\"e\"\n|   <body>\n")
    ∷ (codes "| <!DOCTYPE html>\n| <html>\n|   <head>\n|   <body>\n|     <form>\n|       <table>\n|         <template>\n|           content\n|             <tr>\n|               class=\"1\"\n|               id=\"a\"\n")
    ∷ (codes "| <html>\n|   <head>\n|   <body>\n|     \"\n\"\n|     <template>\n|       class=\"1\"\n|       id=\"a\"\n|       content\n|         <!-- [CDATA[x]] -->\n|         <tr>\n")
    ∷ (codes "| <html>\n|   <head>\n|   <body>\n|     <strong>\n|       \"\nz z\"\n|       <template>\n|         a=\"1\"\n|         content\n|           <tr>\n|             \"\r\"\n")
    ∷ (codes "| <!DOCTYPE x>\n| <html>\n|   <head>\n|     <template>\n|       content\n|         <template>\n|           content\n|             <td>\n|         <tr>\n|           <!-- [CDATA[x]] -->\n|         \"x \"\n|         <a>\n|   <body>\n")
    ∷ (codes "| <td>\n|   xlink:href=\"x\"\n|   xml:lang=\"e\"\n| <noembed>\n| \" \"\n| <td>\n|   a=\"1\"\n")
    ∷ (codes "| <html>\n|   <head>\n|   <body>\n|     <form>\n|       <table>\n|       <table>\n|         class=\"1\"\n|       <template>\n|         class=\"2\"\n|         content\n|           <td>\n|             class=\"1\"\n|             <hr>\n")
    ∷ (codes "| <b>\n")
    ∷ (codes "| <math math>\n|   <math mi>\n")
    ∷ []

built_61 : map shown_of rows_61 ≡ trees_61
unfolding rows_61 trees_61 adjusted_attributes adjusted_name adjusted_tag_name cased foreign_attributes math_attribute_names svg_attribute_names svg_tag_names added_after adopted ended_by entry_of furthest_block inner_loop nth_open opened_inside opened_outside outer_loop replaced process run start step told_all begins_with begins_with_one html_4_01_beginnings limited_quirks_beginnings means_limited_quirks means_quirks quirks_beginnings quirks_public_ids quirks_system_ids added_before built changed has_one_like lacking row_of tree_from without_node foreign_end are_among cleared count_after_marker count_alike has_attribute_like has_entry last_named reopened still_listed to_reopen with_entry without_earliest without_entry without_oldest item_met all_names breaks_out ends_scope ends_table_scope has_such is_among is_body_context is_formatting is_fostering is_implied is_implied_thoroughly is_listed is_row_context is_special kind_in kind_in_namespace kind_of may_stay_open namespace_of first_open foster_place_in has_in_scope has_open popped_to_first_in popped_until_in popped_while_in second_body without_open mode_of flushed_as_space flushed_fostered is_all_space mode_of_request reply_of value_of among attribute_lines comes_before indent shown shown_of sorted
built_61 = refl

rows_62 : List Case
rows_62 =
    -- in template: any other start tag: "<address/>"
    (fragment false Html (codes "template") [] (closed_tag (codes "address") [] ∷ End ∷ []))
    -- in template: parse error ignore: "</track><small>"
    ∷ (fragment false Html (codes "template") [] (end_tag (codes "track") ∷ start_tag (codes "small") [] ∷ End ∷ []))
    -- in template: parse error ignore: "<template></code>"
    ∷ (document true (start_tag (codes "template") [] ∷ end_tag (codes "code") ∷ End ∷ []))
    -- in template: parse error ignore: "&amp;</tr>"
    ∷ (fragment true Html (codes "template") [] (Text (codes "&") ∷ end_tag (codes "tr") ∷ End ∷ []))
    -- in template: end of file: "\n\nx</img>"
    ∷ (fragment false Html (codes "template") [] (Text (codes "\n\nx") ∷ end_tag (codes "img") ∷ End ∷ []))
    -- in template: end of file: "</table>"
    ∷ (fragment false Html (codes "template") [] (end_tag (codes "table") ∷ End ∷ []))
    -- in template: end of file: "<b>&#13;"
    ∷ (fragment true Html (codes "template") [] (start_tag (codes "b") [] ∷ Text (codes "\r") ∷ Text [] ∷ End ∷ []))
    -- after body: whitespace: "<!DOCTYPE html><body></body> </plaintext>"
    ∷ (document false (Doctype (record { name = (Some (codes "html")); public_id = None; system_id = None; force_quirks = false }) ∷ start_tag (codes "body") [] ∷ end_tag (codes "body") ∷ Text (codes " ") ∷ end_tag (codes "plaintext") ∷ End ∷ []))
    -- after body: whitespace: "<!DOCTYPE html><body></body></body>\r\n"
    ∷ (document true (Doctype (record { name = (Some (codes "html")); public_id = None; system_id = None; force_quirks = false }) ∷ start_tag (codes "body") [] ∷ end_tag (codes "body") ∷ end_tag (codes "body") ∷ Text (codes "\n") ∷ Text [] ∷ End ∷ []))
    -- after body: whitespace: "<!DOCTYPE><body></body> </figcaption>"
    ∷ (document true (Doctype (record { name = None; public_id = None; system_id = None; force_quirks = true }) ∷ start_tag (codes "body") [] ∷ end_tag (codes "body") ∷ Text (codes " ") ∷ end_tag (codes "figcaption") ∷ End ∷ []))
    -- after body: comment: "<!DOCTYPE html><body></body><![CDATA[<p>]]><thead definitionurl=u viewbox=v><thead><a/>"
    ∷ (document true (Doctype (record { name = (Some (codes "html")); public_id = None; system_id = None; force_quirks = false }) ∷ start_tag (codes "body") [] ∷ end_tag (codes "body") ∷ Comment (codes "[CDATA[<p") ∷ Text (codes "]]>") ∷ start_tag (codes "thead") (attribute (codes "definitionurl") (codes "u") ∷ attribute (codes "viewbox") (codes "v") ∷ []) ∷ start_tag (codes "thead") [] ∷ closed_tag (codes "a") [] ∷ End ∷ []))
    -- after body: comment: "<!doctype HTML SYSTEM 'about:legacy-compat'><body></body><![CDATA[<p>]]></p>\n\nx<html>"
    ∷ (document false (Doctype (record { name = (Some (codes "html")); public_id = None; system_id = (Some (codes "about:legacy-compat")); force_quirks = false }) ∷ start_tag (codes "body") [] ∷ end_tag (codes "body") ∷ Comment (codes "[CDATA[<p") ∷ Text (codes "]]>") ∷ end_tag (codes "p") ∷ Text (codes "\n\nx") ∷ start_tag (codes "html") [] ∷ End ∷ []))
    ∷ []

trees_62 : List (List ℕ)
trees_62 =
    (codes "| <address>\n")
    ∷ (codes "| <small>\n")
    ∷ (codes "| <html>\n|   <head>\n|     <template>\n|       content\n|   <body>\n")
    ∷ (codes "| \"&\"\n")
    ∷ (codes "| \"\n\nx\"\n")
    ∷ []
    ∷ (codes "| <b>\n|   \"\r\"\n")
    ∷ (codes "| <!DOCTYPE html>\n| <html>\n|   <head>\n|   <body>\n|     \" \"\n")
    ∷ (codes "| <!DOCTYPE html>\n| <html>\n|   <head>\n|   <body>\n|     \"\n\"\n")
    ∷ (codes "| <!DOCTYPE >\n| <html>\n|   <head>\n|   <body>\n|     \" \"\n")
    ∷ (codes "| <!DOCTYPE html>\n| <html>\n|   <head>\n|   <body>\n|     \"]]>\"\n|     <a>\n|   <!-- [CDATA[<p -->\n")
    ∷ (codes "| <!DOCTYPE html \"\" \"about:legacy-compat\">\n| <html>\n|   <head>\n|   <body>\n|     \"]]>\"\n|     <p>\n|     \"\n\nx\"\n|   <!-- [CDATA[<p -->\n")
    ∷ []

built_62 : map shown_of rows_62 ≡ trees_62
unfolding rows_62 trees_62 adjusted_attributes adjusted_name adjusted_tag_name cased foreign_attributes math_attribute_names svg_attribute_names svg_tag_names added_after adopted ended_by entry_of furthest_block inner_loop nth_open opened_inside opened_outside outer_loop replaced process run start step told_all begins_with begins_with_one html_4_01_beginnings limited_quirks_beginnings means_limited_quirks means_quirks quirks_beginnings quirks_public_ids quirks_system_ids added_before built changed has_one_like lacking row_of tree_from without_node foreign_end are_among cleared count_after_marker count_alike has_attribute_like has_entry last_named reopened still_listed to_reopen with_entry without_earliest without_entry without_oldest item_met all_names breaks_out ends_scope ends_table_scope has_such is_among is_body_context is_formatting is_fostering is_implied is_implied_thoroughly is_listed is_row_context is_special kind_in kind_in_namespace kind_of may_stay_open namespace_of first_open foster_place_in has_in_scope has_open popped_to_first_in popped_until_in popped_while_in second_body without_open mode_of flushed_as_space flushed_fostered is_all_space mode_of_request reply_of value_of among attribute_lines comes_before indent shown shown_of sorted
built_62 = refl

rows_63 : List Case
rows_63 =
    -- after body: comment: "<!DOCTYPE html><body></body><![CDATA[<p>]]><table><div class=1>\u0000<div>\t</table>x<tr>\f"
    (document false (Doctype (record { name = (Some (codes "html")); public_id = None; system_id = None; force_quirks = false }) ∷ start_tag (codes "body") [] ∷ end_tag (codes "body") ∷ Comment (codes "[CDATA[<p") ∷ Text (codes "]]>") ∷ start_tag (codes "table") [] ∷ start_tag (codes "div") (attribute (codes "class") (codes "1") ∷ []) ∷ Null ∷ start_tag (codes "div") [] ∷ Text (codes "\t") ∷ end_tag (codes "table") ∷ Text (codes "x") ∷ start_tag (codes "tr") [] ∷ Text (12 ∷ []) ∷ Text [] ∷ End ∷ []))
    -- after body: parse error ignore: "<!DOCTYPE html PUBLIC '-//W3C//DTD HTML 4.01 Transitional//EN'><body></body><!DOCTYPE html PUBLIC> "
    ∷ (document true (Doctype (record { name = (Some (codes "html")); public_id = (Some (codes "-//W3C//DTD HTML 4.01 Transitional//EN")); system_id = None; force_quirks = false }) ∷ start_tag (codes "body") [] ∷ end_tag (codes "body") ∷ Doctype (record { name = (Some (codes "html")); public_id = None; system_id = None; force_quirks = true }) ∷ Text (codes " ") ∷ Text [] ∷ End ∷ []))
    -- after body: parse error ignore: "<body></body><!DOCTYPE html PUBLIC '-//W3C//DTD HTML 3.2 Final//EN'><hgroup class=1></hgroup>"
    ∷ (document true (start_tag (codes "body") [] ∷ end_tag (codes "body") ∷ Doctype (record { name = (Some (codes "html")); public_id = (Some (codes "-//W3C//DTD HTML 3.2 Final//EN")); system_id = None; force_quirks = false }) ∷ start_tag (codes "hgroup") (attribute (codes "class") (codes "1") ∷ []) ∷ end_tag (codes "hgroup") ∷ End ∷ []))
    -- after body: parse error ignore: "<!DOCTYPE html SYSTEM ''><body></body>\t<!DOCTYPE html></foreignobject>x<div><frame/>"
    ∷ (document false (Doctype (record { name = (Some (codes "html")); public_id = None; system_id = (Some []); force_quirks = false }) ∷ start_tag (codes "body") [] ∷ end_tag (codes "body") ∷ Text (codes "\t") ∷ Doctype (record { name = (Some (codes "html")); public_id = None; system_id = None; force_quirks = false }) ∷ end_tag (codes "foreignobject") ∷ Text (codes "x") ∷ start_tag (codes "div") [] ∷ closed_tag (codes "frame") [] ∷ End ∷ []))
    -- after body: using in body: "<!DOCTYPE html><head></head><body>\u0000 </body><html></html><frameset a=1 a=2><p><!--c--></frameset><meta></p>"
    ∷ (document false (Doctype (record { name = (Some (codes "html")); public_id = None; system_id = None; force_quirks = false }) ∷ start_tag (codes "head") [] ∷ end_tag (codes "head") ∷ start_tag (codes "body") [] ∷ Null ∷ Text (codes " ") ∷ end_tag (codes "body") ∷ start_tag (codes "html") [] ∷ end_tag (codes "html") ∷ start_tag (codes "frameset") (attribute (codes "a") (codes "1") ∷ []) ∷ start_tag (codes "p") [] ∷ Comment (codes "c") ∷ end_tag (codes "frameset") ∷ start_tag (codes "meta") [] ∷ end_tag (codes "p") ∷ End ∷ []))
    -- after body: using in body: "<!DOCTYPE html PUBLIC '-//W3C//DTD XHTML 1.0 Transitional//EN' ''><body></body>&#13;<html></video></html>"
    ∷ (document false (Doctype (record { name = (Some (codes "html")); public_id = (Some (codes "-//W3C//DTD XHTML 1.0 Transitional//EN")); system_id = (Some []); force_quirks = false }) ∷ start_tag (codes "body") [] ∷ end_tag (codes "body") ∷ Text (codes "\r") ∷ start_tag (codes "html") [] ∷ end_tag (codes "video") ∷ end_tag (codes "html") ∷ End ∷ []))
    -- after body: using in body: "<!DOCTYPE html><body></body><html class=2></html>"
    ∷ (document true (Doctype (record { name = (Some (codes "html")); public_id = None; system_id = None; force_quirks = false }) ∷ start_tag (codes "body") [] ∷ end_tag (codes "body") ∷ start_tag (codes "html") (attribute (codes "class") (codes "2") ∷ []) ∷ end_tag (codes "html") ∷ End ∷ []))
    -- after body: end of file: "<!DOCTYPE html></html></body>"
    ∷ (document false (Doctype (record { name = (Some (codes "html")); public_id = None; system_id = None; force_quirks = false }) ∷ end_tag (codes "html") ∷ end_tag (codes "body") ∷ End ∷ []))
    -- after body: end of file: "<!DOCTYPE html><body></body>\f"
    ∷ (document true (Doctype (record { name = (Some (codes "html")); public_id = None; system_id = None; force_quirks = false }) ∷ start_tag (codes "body") [] ∷ end_tag (codes "body") ∷ Text (12 ∷ []) ∷ Text [] ∷ End ∷ []))
    -- after body: end of file: "<!DOCTYPE html><body></body> "
    ∷ (document false (Doctype (record { name = (Some (codes "html")); public_id = None; system_id = None; force_quirks = false }) ∷ start_tag (codes "body") [] ∷ end_tag (codes "body") ∷ Text (codes " ") ∷ Text [] ∷ End ∷ []))
    -- after body: anything else: "<body></body></h5><td>"
    ∷ (document false (start_tag (codes "body") [] ∷ end_tag (codes "body") ∷ end_tag (codes "h5") ∷ start_tag (codes "td") [] ∷ End ∷ []))
    -- after body: anything else: "<body></body></td><u>"
    ∷ (document true (start_tag (codes "body") [] ∷ end_tag (codes "body") ∷ end_tag (codes "td") ∷ start_tag (codes "u") [] ∷ End ∷ []))
    ∷ []

trees_63 : List (List ℕ)
trees_63 =
    (124 ∷ 32 ∷ 60 ∷ 33 ∷ 68 ∷ 79 ∷ 67 ∷ 84 ∷ 89 ∷ 80 ∷ 69 ∷ 32 ∷ 104 ∷ 116 ∷ 109 ∷ 108 ∷ 62 ∷ 10 ∷ 124 ∷ 32 ∷ 60 ∷ 104 ∷ 116 ∷ 109 ∷ 108 ∷ 62 ∷ 10 ∷ 124 ∷ 32 ∷ 32 ∷ 32 ∷ 60 ∷ 104 ∷ 101 ∷ 97 ∷ 100 ∷ 62 ∷ 10 ∷ 124 ∷ 32 ∷ 32 ∷ 32 ∷ 60 ∷ 98 ∷ 111 ∷ 100 ∷ 121 ∷ 62 ∷ 10 ∷ 124 ∷ 32 ∷ 32 ∷ 32 ∷ 32 ∷ 32 ∷ 34 ∷ 93 ∷ 93 ∷ 62 ∷ 34 ∷ 10 ∷ 124 ∷ 32 ∷ 32 ∷ 32 ∷ 32 ∷ 32 ∷ 60 ∷ 100 ∷ 105 ∷ 118 ∷ 62 ∷ 10 ∷ 124 ∷ 32 ∷ 32 ∷ 32 ∷ 32 ∷ 32 ∷ 32 ∷ 32 ∷ 99 ∷ 108 ∷ 97 ∷ 115 ∷ 115 ∷ 61 ∷ 34 ∷ 49 ∷ 34 ∷ 10 ∷ 124 ∷ 32 ∷ 32 ∷ 32 ∷ 32 ∷ 32 ∷ 32 ∷ 32 ∷ 60 ∷ 100 ∷ 105 ∷ 118 ∷ 62 ∷ 10 ∷ 124 ∷ 32 ∷ 32 ∷ 32 ∷ 32 ∷ 32 ∷ 32 ∷ 32 ∷ 32 ∷ 32 ∷ 34 ∷ 9 ∷ 34 ∷ 10 ∷ 124 ∷ 32 ∷ 32 ∷ 32 ∷ 32 ∷ 32 ∷ 60 ∷ 116 ∷ 97 ∷ 98 ∷ 108 ∷ 101 ∷ 62 ∷ 10 ∷ 124 ∷ 32 ∷ 32 ∷ 32 ∷ 32 ∷ 32 ∷ 34 ∷ 120 ∷ 12 ∷ 34 ∷ 10 ∷ 124 ∷ 32 ∷ 32 ∷ 32 ∷ 60 ∷ 33 ∷ 45 ∷ 45 ∷ 32 ∷ 91 ∷ 67 ∷ 68 ∷ 65 ∷ 84 ∷ 65 ∷ 91 ∷ 60 ∷ 112 ∷ 32 ∷ 45 ∷ 45 ∷ 62 ∷ 10 ∷ [])
    ∷ (codes "| <!DOCTYPE html \"-//W3C//DTD HTML 4.01 Transitional//EN\" \"\">\n| <html>\n|   <head>\n|   <body>\n|     \" \"\n")
    ∷ (codes "| <html>\n|   <head>\n|   <body>\n|     <hgroup>\n|       class=\"1\"\n")
    ∷ (codes "| <!DOCTYPE html>\n| <html>\n|   <head>\n|   <body>\n|     \"\tx\"\n|     <div>\n")
    ∷ (codes "| <!DOCTYPE html>\n| <html>\n|   <head>\n|   <body>\n|     \" \"\n|     <p>\n|       <!-- c -->\n|       <meta>\n")
    ∷ (codes "| <!DOCTYPE html \"-//W3C//DTD XHTML 1.0 Transitional//EN\" \"\">\n| <html>\n|   <head>\n|   <body>\n|     \"\r\"\n")
    ∷ (codes "| <!DOCTYPE html>\n| <html>\n|   class=\"2\"\n|   <head>\n|   <body>\n")
    ∷ (codes "| <!DOCTYPE html>\n| <html>\n|   <head>\n|   <body>\n")
    ∷ (124 ∷ 32 ∷ 60 ∷ 33 ∷ 68 ∷ 79 ∷ 67 ∷ 84 ∷ 89 ∷ 80 ∷ 69 ∷ 32 ∷ 104 ∷ 116 ∷ 109 ∷ 108 ∷ 62 ∷ 10 ∷ 124 ∷ 32 ∷ 60 ∷ 104 ∷ 116 ∷ 109 ∷ 108 ∷ 62 ∷ 10 ∷ 124 ∷ 32 ∷ 32 ∷ 32 ∷ 60 ∷ 104 ∷ 101 ∷ 97 ∷ 100 ∷ 62 ∷ 10 ∷ 124 ∷ 32 ∷ 32 ∷ 32 ∷ 60 ∷ 98 ∷ 111 ∷ 100 ∷ 121 ∷ 62 ∷ 10 ∷ 124 ∷ 32 ∷ 32 ∷ 32 ∷ 32 ∷ 32 ∷ 34 ∷ 12 ∷ 34 ∷ 10 ∷ [])
    ∷ (codes "| <!DOCTYPE html>\n| <html>\n|   <head>\n|   <body>\n|     \" \"\n")
    ∷ (codes "| <html>\n|   <head>\n|   <body>\n")
    ∷ (codes "| <html>\n|   <head>\n|   <body>\n|     <u>\n")
    ∷ []

built_63 : map shown_of rows_63 ≡ trees_63
unfolding rows_63 trees_63 adjusted_attributes adjusted_name adjusted_tag_name cased foreign_attributes math_attribute_names svg_attribute_names svg_tag_names added_after adopted ended_by entry_of furthest_block inner_loop nth_open opened_inside opened_outside outer_loop replaced process run start step told_all begins_with begins_with_one html_4_01_beginnings limited_quirks_beginnings means_limited_quirks means_quirks quirks_beginnings quirks_public_ids quirks_system_ids added_before built changed has_one_like lacking row_of tree_from without_node foreign_end are_among cleared count_after_marker count_alike has_attribute_like has_entry last_named reopened still_listed to_reopen with_entry without_earliest without_entry without_oldest item_met all_names breaks_out ends_scope ends_table_scope has_such is_among is_body_context is_formatting is_fostering is_implied is_implied_thoroughly is_listed is_row_context is_special kind_in kind_in_namespace kind_of may_stay_open namespace_of first_open foster_place_in has_in_scope has_open popped_to_first_in popped_until_in popped_while_in second_body without_open mode_of flushed_as_space flushed_fostered is_all_space mode_of_request reply_of value_of among attribute_lines comes_before indent shown shown_of sorted
built_63 = refl

rows_64 : List Case
rows_64 =
    -- after body: anything else: "<head></body></title>"
    (document false (start_tag (codes "head") [] ∷ end_tag (codes "body") ∷ end_tag (codes "title") ∷ End ∷ []))
    -- in frameset: insert the character: "<frameset></noframes>\n\nx"
    ∷ (document false (start_tag (codes "frameset") [] ∷ end_tag (codes "noframes") ∷ Text (codes "\n\nx") ∷ Text [] ∷ End ∷ []))
    -- in frameset: insert the character: "<frameset></html>z z"
    ∷ (document true (start_tag (codes "frameset") [] ∷ end_tag (codes "html") ∷ Text (codes "z z") ∷ Text [] ∷ End ∷ []))
    -- in frameset: insert the character: "<frameset><g> x</g>"
    ∷ (document true (start_tag (codes "frameset") [] ∷ start_tag (codes "g") [] ∷ Text (codes " x") ∷ end_tag (codes "g") ∷ End ∷ []))
    -- in frameset: insert a comment: "<!--c--><tbody><!--c--><![CDATA[<p>]]>"
    ∷ (fragment false Html (codes "frameset") [] (Comment (codes "c") ∷ start_tag (codes "tbody") [] ∷ Comment (codes "c") ∷ Comment (codes "[CDATA[<p") ∷ Text (codes "]]>") ∷ Text [] ∷ End ∷ []))
    -- in frameset: insert a comment: "<!DOCTYPE html SYSTEM ''><frameset><!--c-->"
    ∷ (document true (Doctype (record { name = (Some (codes "html")); public_id = None; system_id = (Some []); force_quirks = false }) ∷ start_tag (codes "frameset") [] ∷ Comment (codes "c") ∷ End ∷ []))
    -- in frameset: insert a comment: "<!DOCTYPE html><frameset><!--c--><noframes>"
    ∷ (document false (Doctype (record { name = (Some (codes "html")); public_id = None; system_id = None; force_quirks = false }) ∷ start_tag (codes "frameset") [] ∷ Comment (codes "c") ∷ start_tag (codes "noframes") [] ∷ End ∷ []))
    -- in frameset: parse error ignore: "<!DOCTYPE html PUBLIC 'HTML'><frameset><foreignobject></foreignobject><foreignobject></a><!DOCTYPE html></foreignobject>"
    ∷ (document false (Doctype (record { name = (Some (codes "html")); public_id = (Some (codes "HTML")); system_id = None; force_quirks = false }) ∷ start_tag (codes "frameset") [] ∷ start_tag (codes "foreignobject") [] ∷ end_tag (codes "foreignobject") ∷ start_tag (codes "foreignobject") [] ∷ end_tag (codes "a") ∷ Doctype (record { name = (Some (codes "html")); public_id = None; system_id = None; force_quirks = false }) ∷ end_tag (codes "foreignobject") ∷ End ∷ []))
    -- in frameset: parse error ignore: "<!DOCTYPE html><frameset>&#13;</body></strike>\u0000 <!DOCTYPE html><frameset><frame><frame a=1 a=2><frameset><noframes>\u0000 "
    ∷ (document false (Doctype (record { name = (Some (codes "html")); public_id = None; system_id = None; force_quirks = false }) ∷ start_tag (codes "frameset") [] ∷ Text (codes "\r") ∷ end_tag (codes "body") ∷ end_tag (codes "strike") ∷ Null ∷ Text (codes " ") ∷ Doctype (record { name = (Some (codes "html")); public_id = None; system_id = None; force_quirks = false }) ∷ start_tag (codes "frameset") [] ∷ start_tag (codes "frame") [] ∷ start_tag (codes "frame") (attribute (codes "a") (codes "1") ∷ []) ∷ start_tag (codes "frameset") [] ∷ start_tag (codes "noframes") [] ∷ Text (239 ∷ 191 ∷ 189 ∷ 32 ∷ []) ∷ Text [] ∷ End ∷ []))
    -- in frameset: parse error ignore: "<frameset><!DOCTYPE html PUBLIC '-//W3C//DTD HTML 4.01 Frameset//EN' 'http://www.w3.org/TR/html4/frameset.dtd'>"
    ∷ (document false (start_tag (codes "frameset") [] ∷ Doctype (record { name = (Some (codes "html")); public_id = (Some (codes "-//W3C//DTD HTML 4.01 Frameset//EN")); system_id = (Some (codes "http://www.w3.org/TR/html4/frameset.dtd")); force_quirks = false }) ∷ End ∷ []))
    -- in frameset: using in body: "<!DOCTYPE html><frameset><!--c--><html><frameset>x\f"
    ∷ (document true (Doctype (record { name = (Some (codes "html")); public_id = None; system_id = None; force_quirks = false }) ∷ start_tag (codes "frameset") [] ∷ Comment (codes "c") ∷ start_tag (codes "html") [] ∷ start_tag (codes "frameset") [] ∷ Text (120 ∷ 12 ∷ []) ∷ Text [] ∷ End ∷ []))
    -- in frameset: using in body: "<!DOCTYPE x><frameset><frameset>&#13;<body><html>"
    ∷ (document false (Doctype (record { name = (Some (codes "x")); public_id = None; system_id = None; force_quirks = false }) ∷ start_tag (codes "frameset") [] ∷ start_tag (codes "frameset") [] ∷ Text (codes "\r") ∷ start_tag (codes "body") [] ∷ start_tag (codes "html") [] ∷ End ∷ []))
    ∷ []

trees_64 : List (List ℕ)
trees_64 =
    (codes "| <html>\n|   <head>\n|   <body>\n")
    ∷ (codes "| <html>\n|   <head>\n|   <frameset>\n|     \"\n\n\"\n")
    ∷ (codes "| <html>\n|   <head>\n|   <frameset>\n|     \" \"\n")
    ∷ (codes "| <html>\n|   <head>\n|   <frameset>\n|     \" \"\n")
    ∷ (codes "| <!-- c -->\n| <!-- c -->\n| <!-- [CDATA[<p -->\n")
    ∷ (codes "| <!DOCTYPE html>\n| <html>\n|   <head>\n|   <frameset>\n|     <!-- c -->\n")
    ∷ (codes "| <!DOCTYPE html>\n| <html>\n|   <head>\n|   <frameset>\n|     <!-- c -->\n|     <noframes>\n")
    ∷ (codes "| <!DOCTYPE html \"HTML\" \"\">\n| <html>\n|   <head>\n|   <frameset>\n")
    ∷ (124 ∷ 32 ∷ 60 ∷ 33 ∷ 68 ∷ 79 ∷ 67 ∷ 84 ∷ 89 ∷ 80 ∷ 69 ∷ 32 ∷ 104 ∷ 116 ∷ 109 ∷ 108 ∷ 62 ∷ 10 ∷ 124 ∷ 32 ∷ 60 ∷ 104 ∷ 116 ∷ 109 ∷ 108 ∷ 62 ∷ 10 ∷ 124 ∷ 32 ∷ 32 ∷ 32 ∷ 60 ∷ 104 ∷ 101 ∷ 97 ∷ 100 ∷ 62 ∷ 10 ∷ 124 ∷ 32 ∷ 32 ∷ 32 ∷ 60 ∷ 102 ∷ 114 ∷ 97 ∷ 109 ∷ 101 ∷ 115 ∷ 101 ∷ 116 ∷ 62 ∷ 10 ∷ 124 ∷ 32 ∷ 32 ∷ 32 ∷ 32 ∷ 32 ∷ 34 ∷ 13 ∷ 32 ∷ 34 ∷ 10 ∷ 124 ∷ 32 ∷ 32 ∷ 32 ∷ 32 ∷ 32 ∷ 60 ∷ 102 ∷ 114 ∷ 97 ∷ 109 ∷ 101 ∷ 115 ∷ 101 ∷ 116 ∷ 62 ∷ 10 ∷ 124 ∷ 32 ∷ 32 ∷ 32 ∷ 32 ∷ 32 ∷ 32 ∷ 32 ∷ 60 ∷ 102 ∷ 114 ∷ 97 ∷ 109 ∷ 101 ∷ 62 ∷ 10 ∷ 124 ∷ 32 ∷ 32 ∷ 32 ∷ 32 ∷ 32 ∷ 32 ∷ 32 ∷ 60 ∷ 102 ∷ 114 ∷ 97 ∷ 109 ∷ 101 ∷ 62 ∷ 10 ∷ 124 ∷ 32 ∷ 32 ∷ 32 ∷ 32 ∷ 32 ∷ 32 ∷ 32 ∷ 32 ∷ 32 ∷ 97 ∷ 61 ∷ 34 ∷ 49 ∷ 34 ∷ 10 ∷ 124 ∷ 32 ∷ 32 ∷ 32 ∷ 32 ∷ 32 ∷ 32 ∷ 32 ∷ 60 ∷ 102 ∷ 114 ∷ 97 ∷ 109 ∷ 101 ∷ 115 ∷ 101 ∷ 116 ∷ 62 ∷ 10 ∷ 124 ∷ 32 ∷ 32 ∷ 32 ∷ 32 ∷ 32 ∷ 32 ∷ 32 ∷ 32 ∷ 32 ∷ 60 ∷ 110 ∷ 111 ∷ 102 ∷ 114 ∷ 97 ∷ 109 ∷ 101 ∷ 115 ∷ 62 ∷ 10 ∷ 124 ∷ 32 ∷ 32 ∷ 32 ∷ 32 ∷ 32 ∷ 32 ∷ 32 ∷ 32 ∷ 32 ∷ 32 ∷ 32 ∷ 34 ∷ 239 ∷ 191 ∷ 189 ∷ 32 ∷ 34 ∷ 10 ∷ [])
    ∷ (codes "| <html>\n|   <head>\n|   <frameset>\n")
    ∷ (124 ∷ 32 ∷ 60 ∷ 33 ∷ 68 ∷ 79 ∷ 67 ∷ 84 ∷ 89 ∷ 80 ∷ 69 ∷ 32 ∷ 104 ∷ 116 ∷ 109 ∷ 108 ∷ 62 ∷ 10 ∷ 124 ∷ 32 ∷ 60 ∷ 104 ∷ 116 ∷ 109 ∷ 108 ∷ 62 ∷ 10 ∷ 124 ∷ 32 ∷ 32 ∷ 32 ∷ 60 ∷ 104 ∷ 101 ∷ 97 ∷ 100 ∷ 62 ∷ 10 ∷ 124 ∷ 32 ∷ 32 ∷ 32 ∷ 60 ∷ 102 ∷ 114 ∷ 97 ∷ 109 ∷ 101 ∷ 115 ∷ 101 ∷ 116 ∷ 62 ∷ 10 ∷ 124 ∷ 32 ∷ 32 ∷ 32 ∷ 32 ∷ 32 ∷ 60 ∷ 33 ∷ 45 ∷ 45 ∷ 32 ∷ 99 ∷ 32 ∷ 45 ∷ 45 ∷ 62 ∷ 10 ∷ 124 ∷ 32 ∷ 32 ∷ 32 ∷ 32 ∷ 32 ∷ 60 ∷ 102 ∷ 114 ∷ 97 ∷ 109 ∷ 101 ∷ 115 ∷ 101 ∷ 116 ∷ 62 ∷ 10 ∷ 124 ∷ 32 ∷ 32 ∷ 32 ∷ 32 ∷ 32 ∷ 32 ∷ 32 ∷ 34 ∷ 12 ∷ 34 ∷ 10 ∷ [])
    ∷ (codes "| <!DOCTYPE x>\n| <html>\n|   <head>\n|   <frameset>\n|     <frameset>\n|       \"\r\"\n")
    ∷ []

built_64 : map shown_of rows_64 ≡ trees_64
unfolding rows_64 trees_64 adjusted_attributes adjusted_name adjusted_tag_name cased foreign_attributes math_attribute_names svg_attribute_names svg_tag_names added_after adopted ended_by entry_of furthest_block inner_loop nth_open opened_inside opened_outside outer_loop replaced process run start step told_all begins_with begins_with_one html_4_01_beginnings limited_quirks_beginnings means_limited_quirks means_quirks quirks_beginnings quirks_public_ids quirks_system_ids added_before built changed has_one_like lacking row_of tree_from without_node foreign_end are_among cleared count_after_marker count_alike has_attribute_like has_entry last_named reopened still_listed to_reopen with_entry without_earliest without_entry without_oldest item_met all_names breaks_out ends_scope ends_table_scope has_such is_among is_body_context is_formatting is_fostering is_implied is_implied_thoroughly is_listed is_row_context is_special kind_in kind_in_namespace kind_of may_stay_open namespace_of first_open foster_place_in has_in_scope has_open popped_to_first_in popped_until_in popped_while_in second_body without_open mode_of flushed_as_space flushed_fostered is_all_space mode_of_request reply_of value_of among attribute_lines comes_before indent shown shown_of sorted
built_64 = refl

rows_65 : List Case
rows_65 =
    -- in frameset: using in body: "</foreignobject><html class=1 id=a></html>"
    (fragment true Html (codes "frameset") [] (end_tag (codes "foreignobject") ∷ start_tag (codes "html") (attribute (codes "class") (codes "1") ∷ attribute (codes "id") (codes "a") ∷ []) ∷ end_tag (codes "html") ∷ End ∷ []))
    -- in frameset: start frameset: "<p><figure></svg><frameset></frame><frameset id=a class=1>"
    ∷ (document true (start_tag (codes "p") [] ∷ start_tag (codes "figure") [] ∷ end_tag (codes "svg") ∷ start_tag (codes "frameset") [] ∷ end_tag (codes "frame") ∷ start_tag (codes "frameset") (attribute (codes "id") (codes "a") ∷ attribute (codes "class") (codes "1") ∷ []) ∷ End ∷ []))
    -- in frameset: start frameset: "<!DOCTYPE html PUBLIC><frameset>\n\nx</p><frameset class=1>"
    ∷ (document true (Doctype (record { name = (Some (codes "html")); public_id = None; system_id = None; force_quirks = true }) ∷ start_tag (codes "frameset") [] ∷ Text (codes "\n\nx") ∷ end_tag (codes "p") ∷ start_tag (codes "frameset") (attribute (codes "class") (codes "1") ∷ []) ∷ End ∷ []))
    -- in frameset: start frameset: "<!DOCTYPE html><frameset><frameset class=1 id=a>"
    ∷ (document true (Doctype (record { name = (Some (codes "html")); public_id = None; system_id = None; force_quirks = false }) ∷ start_tag (codes "frameset") [] ∷ start_tag (codes "frameset") (attribute (codes "class") (codes "1") ∷ attribute (codes "id") (codes "a") ∷ []) ∷ End ∷ []))
    -- in frameset: end frameset: "</fecolormatrix></frameset>"
    ∷ (fragment true Html (codes "frameset") [] (end_tag (codes "fecolormatrix") ∷ end_tag (codes "frameset") ∷ End ∷ []))
    -- in frameset: end frameset: "<frameset></frameset></html><p>\u0000"
    ∷ (document true (start_tag (codes "frameset") [] ∷ end_tag (codes "frameset") ∷ end_tag (codes "html") ∷ start_tag (codes "p") [] ∷ Null ∷ End ∷ []))
    -- in frameset: end frameset: "<frameset></frameset><body> xx "
    ∷ (document true (start_tag (codes "frameset") [] ∷ end_tag (codes "frameset") ∷ start_tag (codes "body") [] ∷ Text (codes " xx ") ∷ Text [] ∷ End ∷ []))
    -- in frameset: start frame: "<!DOCTYPE html><frameset><rb class=1 id=a><frame><![CDATA[x]]>"
    ∷ (document false (Doctype (record { name = (Some (codes "html")); public_id = None; system_id = None; force_quirks = false }) ∷ start_tag (codes "frameset") [] ∷ start_tag (codes "rb") (attribute (codes "class") (codes "1") ∷ attribute (codes "id") (codes "a") ∷ []) ∷ start_tag (codes "frame") [] ∷ Comment (codes "[CDATA[x]]") ∷ End ∷ []))
    -- in frameset: start frame: "<!DOCTYPE html><svg><h6> </math><frameset><frame><p>z z"
    ∷ (document true (Doctype (record { name = (Some (codes "html")); public_id = None; system_id = None; force_quirks = false }) ∷ start_tag (codes "svg") [] ∷ start_tag (codes "h6") [] ∷ Text (codes " ") ∷ end_tag (codes "math") ∷ start_tag (codes "frameset") [] ∷ start_tag (codes "frame") [] ∷ start_tag (codes "p") [] ∷ Text (codes "z z") ∷ Text [] ∷ End ∷ []))
    -- in frameset: start frame: "<center> </svg><frameset><frame></frame><!--c--><frame>"
    ∷ (document true (start_tag (codes "center") [] ∷ Text (codes " ") ∷ end_tag (codes "svg") ∷ start_tag (codes "frameset") [] ∷ start_tag (codes "frame") [] ∷ end_tag (codes "frame") ∷ Comment (codes "c") ∷ start_tag (codes "frame") [] ∷ End ∷ []))
    -- in frameset: using in head: "<code><!--c--></svg><frameset><noframes><noframes></frameset>"
    ∷ (document true (start_tag (codes "code") [] ∷ Comment (codes "c") ∷ end_tag (codes "svg") ∷ start_tag (codes "frameset") [] ∷ start_tag (codes "noframes") [] ∷ Text (codes "<noframes></frameset>") ∷ Text [] ∷ End ∷ []))
    -- in frameset: using in head: "<!DOCTYPE html><math><mi><h4></math><frameset><noframes/>"
    ∷ (document true (Doctype (record { name = (Some (codes "html")); public_id = None; system_id = None; force_quirks = false }) ∷ start_tag (codes "math") [] ∷ start_tag (codes "mi") [] ∷ start_tag (codes "h4") [] ∷ end_tag (codes "math") ∷ start_tag (codes "frameset") [] ∷ closed_tag (codes "noframes") [] ∷ End ∷ []))
    ∷ []

trees_65 : List (List ℕ)
trees_65 =
    []
    ∷ (codes "| <html>\n|   <head>\n|   <frameset>\n|     <frameset>\n|       class=\"1\"\n|       id=\"a\"\n")
    ∷ (codes "| <!DOCTYPE html>\n| <html>\n|   <head>\n|   <frameset>\n|     \"\n\n\"\n|     <frameset>\n|       class=\"1\"\n")
    ∷ (codes "| <!DOCTYPE html>\n| <html>\n|   <head>\n|   <frameset>\n|     <frameset>\n|       class=\"1\"\n|       id=\"a\"\n")
    ∷ []
    ∷ (codes "| <html>\n|   <head>\n|   <frameset>\n")
    ∷ (codes "| <html>\n|   <head>\n|   <frameset>\n|   \"  \"\n")
    ∷ (codes "| <!DOCTYPE html>\n| <html>\n|   <head>\n|   <frameset>\n|     <frame>\n|     <!-- [CDATA[x]] -->\n")
    ∷ (codes "| <!DOCTYPE html>\n| <html>\n|   <head>\n|   <frameset>\n|     <frame>\n|     \" \"\n")
    ∷ (codes "| <html>\n|   <head>\n|   <frameset>\n|     <frame>\n|     <!-- c -->\n|     <frame>\n")
    ∷ (codes "| <html>\n|   <head>\n|   <frameset>\n|     <noframes>\n|       \"<noframes></frameset>\"\n")
    ∷ (codes "| <!DOCTYPE html>\n| <html>\n|   <head>\n|   <frameset>\n|     <noframes>\n")
    ∷ []

built_65 : map shown_of rows_65 ≡ trees_65
unfolding rows_65 trees_65 adjusted_attributes adjusted_name adjusted_tag_name cased foreign_attributes math_attribute_names svg_attribute_names svg_tag_names added_after adopted ended_by entry_of furthest_block inner_loop nth_open opened_inside opened_outside outer_loop replaced process run start step told_all begins_with begins_with_one html_4_01_beginnings limited_quirks_beginnings means_limited_quirks means_quirks quirks_beginnings quirks_public_ids quirks_system_ids added_before built changed has_one_like lacking row_of tree_from without_node foreign_end are_among cleared count_after_marker count_alike has_attribute_like has_entry last_named reopened still_listed to_reopen with_entry without_earliest without_entry without_oldest item_met all_names breaks_out ends_scope ends_table_scope has_such is_among is_body_context is_formatting is_fostering is_implied is_implied_thoroughly is_listed is_row_context is_special kind_in kind_in_namespace kind_of may_stay_open namespace_of first_open foster_place_in has_in_scope has_open popped_to_first_in popped_until_in popped_while_in second_body without_open mode_of flushed_as_space flushed_fostered is_all_space mode_of_request reply_of value_of among attribute_lines comes_before indent shown shown_of sorted
built_65 = refl

rows_66 : List Case
rows_66 =
    -- in frameset: using in head: "<frameset></table><noframes>a\u0000b<clippath><table></table>"
    (document true (start_tag (codes "frameset") [] ∷ end_tag (codes "table") ∷ start_tag (codes "noframes") [] ∷ Text (codes "a") ∷ Text (239 ∷ 191 ∷ 189 ∷ 98 ∷ 60 ∷ 99 ∷ 108 ∷ 105 ∷ 112 ∷ 112 ∷ 97 ∷ 116 ∷ 104 ∷ 62 ∷ 60 ∷ 116 ∷ 97 ∷ 98 ∷ 108 ∷ 101 ∷ 62 ∷ 60 ∷ 47 ∷ 116 ∷ 97 ∷ 98 ∷ 108 ∷ 101 ∷ 62 ∷ []) ∷ Text [] ∷ End ∷ []))
    -- in frameset: end of file: "<button>"
    ∷ (fragment true Html (codes "frameset") [] (start_tag (codes "button") [] ∷ End ∷ []))
    -- in frameset: end of file: "\f<ruby>"
    ∷ (fragment true Html (codes "frameset") [] (Text (12 ∷ []) ∷ start_tag (codes "ruby") [] ∷ End ∷ []))
    -- in frameset: end of file: "<frameset> x"
    ∷ (document false (start_tag (codes "frameset") [] ∷ Text (codes " x") ∷ Text [] ∷ End ∷ []))
    -- in frameset: parse error ignore: "<table>"
    ∷ (fragment false Html (codes "frameset") [] (start_tag (codes "table") [] ∷ End ∷ []))
    -- in frameset: parse error ignore: "\u0000 <tr>"
    ∷ (fragment false Html (codes "frameset") [] (Null ∷ Text (codes " ") ∷ start_tag (codes "tr") [] ∷ End ∷ []))
    -- in frameset: parse error ignore: "\n\nx<g>"
    ∷ (fragment false Html (codes "frameset") [] (Text (codes "\n\nx") ∷ start_tag (codes "g") [] ∷ End ∷ []))
    -- after frameset: insert the character: "<!DOCTYPE html><frameset></frameset></body></body> x<noframes>"
    ∷ (document false (Doctype (record { name = (Some (codes "html")); public_id = None; system_id = None; force_quirks = false }) ∷ start_tag (codes "frameset") [] ∷ end_tag (codes "frameset") ∷ end_tag (codes "body") ∷ end_tag (codes "body") ∷ Text (codes " x") ∷ start_tag (codes "noframes") [] ∷ End ∷ []))
    -- after frameset: insert the character: "<!DOCTYPE html PUBLIC 'HTML'><frameset></frameset>\n\nx<body>"
    ∷ (document true (Doctype (record { name = (Some (codes "html")); public_id = (Some (codes "HTML")); system_id = None; force_quirks = false }) ∷ start_tag (codes "frameset") [] ∷ end_tag (codes "frameset") ∷ Text (codes "\n\nx") ∷ start_tag (codes "body") [] ∷ End ∷ []))
    -- after frameset: insert the character: "<!DOCTYPE html><frameset></frameset><frame>\u0000 <frame>"
    ∷ (document true (Doctype (record { name = (Some (codes "html")); public_id = None; system_id = None; force_quirks = false }) ∷ start_tag (codes "frameset") [] ∷ end_tag (codes "frameset") ∷ start_tag (codes "frame") [] ∷ Null ∷ Text (codes " ") ∷ start_tag (codes "frame") [] ∷ End ∷ []))
    -- after frameset: insert a comment: "<!DOCTYPE html PUBLIC '-//W3C//DTD HTML 3.2 Final//EN'><frameset></frameset><!--c--><body>&amp;"
    ∷ (document true (Doctype (record { name = (Some (codes "html")); public_id = (Some (codes "-//W3C//DTD HTML 3.2 Final//EN")); system_id = None; force_quirks = false }) ∷ start_tag (codes "frameset") [] ∷ end_tag (codes "frameset") ∷ Comment (codes "c") ∷ start_tag (codes "body") [] ∷ Text (codes "&") ∷ End ∷ []))
    -- after frameset: insert a comment: "<!DOCTYPE html PUBLIC 'HTML'></html><frameset a=1 a=2></frameset><!--c--></frameset>"
    ∷ (document false (Doctype (record { name = (Some (codes "html")); public_id = (Some (codes "HTML")); system_id = None; force_quirks = false }) ∷ end_tag (codes "html") ∷ start_tag (codes "frameset") (attribute (codes "a") (codes "1") ∷ []) ∷ end_tag (codes "frameset") ∷ Comment (codes "c") ∷ end_tag (codes "frameset") ∷ End ∷ []))
    ∷ []

trees_66 : List (List ℕ)
trees_66 =
    (124 ∷ 32 ∷ 60 ∷ 104 ∷ 116 ∷ 109 ∷ 108 ∷ 62 ∷ 10 ∷ 124 ∷ 32 ∷ 32 ∷ 32 ∷ 60 ∷ 104 ∷ 101 ∷ 97 ∷ 100 ∷ 62 ∷ 10 ∷ 124 ∷ 32 ∷ 32 ∷ 32 ∷ 60 ∷ 102 ∷ 114 ∷ 97 ∷ 109 ∷ 101 ∷ 115 ∷ 101 ∷ 116 ∷ 62 ∷ 10 ∷ 124 ∷ 32 ∷ 32 ∷ 32 ∷ 32 ∷ 32 ∷ 60 ∷ 110 ∷ 111 ∷ 102 ∷ 114 ∷ 97 ∷ 109 ∷ 101 ∷ 115 ∷ 62 ∷ 10 ∷ 124 ∷ 32 ∷ 32 ∷ 32 ∷ 32 ∷ 32 ∷ 32 ∷ 32 ∷ 34 ∷ 97 ∷ 239 ∷ 191 ∷ 189 ∷ 98 ∷ 60 ∷ 99 ∷ 108 ∷ 105 ∷ 112 ∷ 112 ∷ 97 ∷ 116 ∷ 104 ∷ 62 ∷ 60 ∷ 116 ∷ 97 ∷ 98 ∷ 108 ∷ 101 ∷ 62 ∷ 60 ∷ 47 ∷ 116 ∷ 97 ∷ 98 ∷ 108 ∷ 101 ∷ 62 ∷ 34 ∷ 10 ∷ [])
    ∷ []
    ∷ (124 ∷ 32 ∷ 34 ∷ 12 ∷ 34 ∷ 10 ∷ [])
    ∷ (codes "| <html>\n|   <head>\n|   <frameset>\n|     \" \"\n")
    ∷ []
    ∷ (codes "| \" \"\n")
    ∷ (codes "| \"\n\n\"\n")
    ∷ (codes "| <!DOCTYPE html>\n| <html>\n|   <head>\n|   <frameset>\n|   \" \"\n|   <noframes>\n")
    ∷ (codes "| <!DOCTYPE html \"HTML\" \"\">\n| <html>\n|   <head>\n|   <frameset>\n|   \"\n\n\"\n")
    ∷ (codes "| <!DOCTYPE html>\n| <html>\n|   <head>\n|   <frameset>\n|   \" \"\n")
    ∷ (codes "| <!DOCTYPE html \"-//W3C//DTD HTML 3.2 Final//EN\" \"\">\n| <html>\n|   <head>\n|   <frameset>\n|   <!-- c -->\n")
    ∷ (codes "| <!DOCTYPE html \"HTML\" \"\">\n| <html>\n|   <head>\n|   <frameset>\n|     a=\"1\"\n|   <!-- c -->\n")
    ∷ []

built_66 : map shown_of rows_66 ≡ trees_66
unfolding rows_66 trees_66 adjusted_attributes adjusted_name adjusted_tag_name cased foreign_attributes math_attribute_names svg_attribute_names svg_tag_names added_after adopted ended_by entry_of furthest_block inner_loop nth_open opened_inside opened_outside outer_loop replaced process run start step told_all begins_with begins_with_one html_4_01_beginnings limited_quirks_beginnings means_limited_quirks means_quirks quirks_beginnings quirks_public_ids quirks_system_ids added_before built changed has_one_like lacking row_of tree_from without_node foreign_end are_among cleared count_after_marker count_alike has_attribute_like has_entry last_named reopened still_listed to_reopen with_entry without_earliest without_entry without_oldest item_met all_names breaks_out ends_scope ends_table_scope has_such is_among is_body_context is_formatting is_fostering is_implied is_implied_thoroughly is_listed is_row_context is_special kind_in kind_in_namespace kind_of may_stay_open namespace_of first_open foster_place_in has_in_scope has_open popped_to_first_in popped_until_in popped_while_in second_body without_open mode_of flushed_as_space flushed_fostered is_all_space mode_of_request reply_of value_of among attribute_lines comes_before indent shown shown_of sorted
built_66 = refl

rows_67 : List Case
rows_67 =
    -- after frameset: insert a comment: "<!DOCTYPE html><frameset></frameset></noframes>&amp;</body><!--c--></frameset>z z"
    (document false (Doctype (record { name = (Some (codes "html")); public_id = None; system_id = None; force_quirks = false }) ∷ start_tag (codes "frameset") [] ∷ end_tag (codes "frameset") ∷ end_tag (codes "noframes") ∷ Text (codes "&") ∷ end_tag (codes "body") ∷ Comment (codes "c") ∷ end_tag (codes "frameset") ∷ Text (codes "z z") ∷ Text [] ∷ End ∷ []))
    -- after frameset: parse error ignore: "<frameset></frameset><!DOCTYPE html><frameset></frameset>"
    ∷ (document false (start_tag (codes "frameset") [] ∷ end_tag (codes "frameset") ∷ Doctype (record { name = (Some (codes "html")); public_id = None; system_id = None; force_quirks = false }) ∷ start_tag (codes "frameset") [] ∷ end_tag (codes "frameset") ∷ End ∷ []))
    -- after frameset: using in body: "<!DOCTYPE><frameset></frameset><frameset class=1 id=a>\t</frameset>\n\nx<html xlink:href=x xml:lang=e></html></noframes>"
    ∷ (document false (Doctype (record { name = None; public_id = None; system_id = None; force_quirks = true }) ∷ start_tag (codes "frameset") [] ∷ end_tag (codes "frameset") ∷ start_tag (codes "frameset") (attribute (codes "class") (codes "1") ∷ attribute (codes "id") (codes "a") ∷ []) ∷ Text (codes "\t") ∷ end_tag (codes "frameset") ∷ Text (codes "\n\nx") ∷ start_tag (codes "html") (attribute (codes "xlink:href") (codes "x") ∷ attribute (codes "xml:lang") (codes "e") ∷ []) ∷ end_tag (codes "html") ∷ end_tag (codes "noframes") ∷ End ∷ []))
    -- after frameset: using in body: "<!DOCTYPE html><frameset></frameset><html xmlns=u xmlns:xlink=w><frame><frame><frameset/></frameset>"
    ∷ (document true (Doctype (record { name = (Some (codes "html")); public_id = None; system_id = None; force_quirks = false }) ∷ start_tag (codes "frameset") [] ∷ end_tag (codes "frameset") ∷ start_tag (codes "html") (attribute (codes "xmlns") (codes "u") ∷ attribute (codes "xmlns:xlink") (codes "w") ∷ []) ∷ start_tag (codes "frame") [] ∷ start_tag (codes "frame") [] ∷ closed_tag (codes "frameset") [] ∷ end_tag (codes "frameset") ∷ End ∷ []))
    -- after frameset: using in body: "<!DOCTYPE html><frameset></frameset></frame><html><body></body> x</frameset><frame>"
    ∷ (document true (Doctype (record { name = (Some (codes "html")); public_id = None; system_id = None; force_quirks = false }) ∷ start_tag (codes "frameset") [] ∷ end_tag (codes "frameset") ∷ end_tag (codes "frame") ∷ start_tag (codes "html") [] ∷ start_tag (codes "body") [] ∷ end_tag (codes "body") ∷ Text (codes " x") ∷ end_tag (codes "frameset") ∷ start_tag (codes "frame") [] ∷ End ∷ []))
    -- after frameset: end html: "<frameset></frameset></html><![CDATA[x]]>"
    ∷ (document true (start_tag (codes "frameset") [] ∷ end_tag (codes "frameset") ∷ end_tag (codes "html") ∷ Comment (codes "[CDATA[x]]") ∷ End ∷ []))
    -- after frameset: end html: "<frameset></frameset></frameset> </html>"
    ∷ (document true (start_tag (codes "frameset") [] ∷ end_tag (codes "frameset") ∷ end_tag (codes "frameset") ∷ Text (codes " ") ∷ end_tag (codes "html") ∷ End ∷ []))
    -- after frameset: end html: "<frameset></frameset></html></html>&#13;"
    ∷ (document true (start_tag (codes "frameset") [] ∷ end_tag (codes "frameset") ∷ end_tag (codes "html") ∷ end_tag (codes "html") ∷ Text (codes "\r") ∷ Text [] ∷ End ∷ []))
    -- after frameset: using in head: "<!DOCTYPE html><frameset></frameset><noframes><frameset xmlns=u xmlns:xlink=w></frame><!--c--><body>"
    ∷ (document false (Doctype (record { name = (Some (codes "html")); public_id = None; system_id = None; force_quirks = false }) ∷ start_tag (codes "frameset") [] ∷ end_tag (codes "frameset") ∷ start_tag (codes "noframes") [] ∷ Text (codes "<frameset xmlns=u xmlns:xlink=w></frame><!--c--><body>") ∷ Text [] ∷ End ∷ []))
    -- after frameset: using in head: "<!DOCTYPE><header class=2><!--c--></math><frameset></frameset></frameset><noframes><p/>"
    ∷ (document false (Doctype (record { name = None; public_id = None; system_id = None; force_quirks = true }) ∷ start_tag (codes "header") (attribute (codes "class") (codes "2") ∷ []) ∷ Comment (codes "c") ∷ end_tag (codes "math") ∷ start_tag (codes "frameset") [] ∷ end_tag (codes "frameset") ∷ end_tag (codes "frameset") ∷ start_tag (codes "noframes") [] ∷ Text (codes "<p/>") ∷ Text [] ∷ End ∷ []))
    -- after frameset: using in head: "<!DOCTYPE html><frameset></frameset><frame definitionurl=u viewbox=v><noframes><html>\u0000"
    ∷ (document true (Doctype (record { name = (Some (codes "html")); public_id = None; system_id = None; force_quirks = false }) ∷ start_tag (codes "frameset") [] ∷ end_tag (codes "frameset") ∷ start_tag (codes "frame") (attribute (codes "definitionurl") (codes "u") ∷ attribute (codes "viewbox") (codes "v") ∷ []) ∷ start_tag (codes "noframes") [] ∷ Text (codes "<html>") ∷ Text (239 ∷ 191 ∷ 189 ∷ []) ∷ Text [] ∷ End ∷ []))
    -- after frameset: end of file: " <!DOCTYPE html><frameset></frameset>"
    ∷ (document true (Text (codes " ") ∷ Doctype (record { name = (Some (codes "html")); public_id = None; system_id = None; force_quirks = false }) ∷ start_tag (codes "frameset") [] ∷ end_tag (codes "frameset") ∷ End ∷ []))
    ∷ []

trees_67 : List (List ℕ)
trees_67 =
    (codes "| <!DOCTYPE html>\n| <html>\n|   <head>\n|   <frameset>\n|   <!-- c -->\n|   \" \"\n")
    ∷ (codes "| <html>\n|   <head>\n|   <frameset>\n")
    ∷ (codes "| <!DOCTYPE >\n| <html>\n|   xlink:href=\"x\"\n|   xml:lang=\"e\"\n|   <head>\n|   <frameset>\n|   \"\t\n\n\"\n")
    ∷ (codes "| <!DOCTYPE html>\n| <html>\n|   xmlns=\"u\"\n|   xmlns:xlink=\"w\"\n|   <head>\n|   <frameset>\n")
    ∷ (codes "| <!DOCTYPE html>\n| <html>\n|   <head>\n|   <frameset>\n|   \" \"\n")
    ∷ (codes "| <html>\n|   <head>\n|   <frameset>\n| <!-- [CDATA[x]] -->\n")
    ∷ (codes "| <html>\n|   <head>\n|   <frameset>\n|   \" \"\n")
    ∷ (codes "| <html>\n|   <head>\n|   <frameset>\n|   \"\r\"\n")
    ∷ (codes "| <!DOCTYPE html>\n| <html>\n|   <head>\n|   <frameset>\n|   <noframes>\n|     \"<frameset xmlns=u xmlns:xlink=w></frame><!--c--><body>\"\n")
    ∷ (codes "| <!DOCTYPE >\n| <html>\n|   <head>\n|   <frameset>\n|   <noframes>\n|     \"<p/>\"\n")
    ∷ (124 ∷ 32 ∷ 60 ∷ 33 ∷ 68 ∷ 79 ∷ 67 ∷ 84 ∷ 89 ∷ 80 ∷ 69 ∷ 32 ∷ 104 ∷ 116 ∷ 109 ∷ 108 ∷ 62 ∷ 10 ∷ 124 ∷ 32 ∷ 60 ∷ 104 ∷ 116 ∷ 109 ∷ 108 ∷ 62 ∷ 10 ∷ 124 ∷ 32 ∷ 32 ∷ 32 ∷ 60 ∷ 104 ∷ 101 ∷ 97 ∷ 100 ∷ 62 ∷ 10 ∷ 124 ∷ 32 ∷ 32 ∷ 32 ∷ 60 ∷ 102 ∷ 114 ∷ 97 ∷ 109 ∷ 101 ∷ 115 ∷ 101 ∷ 116 ∷ 62 ∷ 10 ∷ 124 ∷ 32 ∷ 32 ∷ 32 ∷ 60 ∷ 110 ∷ 111 ∷ 102 ∷ 114 ∷ 97 ∷ 109 ∷ 101 ∷ 115 ∷ 62 ∷ 10 ∷ 124 ∷ 32 ∷ 32 ∷ 32 ∷ 32 ∷ 32 ∷ 34 ∷ 60 ∷ 104 ∷ 116 ∷ 109 ∷ 108 ∷ 62 ∷ 239 ∷ 191 ∷ 189 ∷ 34 ∷ 10 ∷ [])
    ∷ (codes "| <!DOCTYPE html>\n| <html>\n|   <head>\n|   <frameset>\n")
    ∷ []

built_67 : map shown_of rows_67 ≡ trees_67
unfolding rows_67 trees_67 adjusted_attributes adjusted_name adjusted_tag_name cased foreign_attributes math_attribute_names svg_attribute_names svg_tag_names added_after adopted ended_by entry_of furthest_block inner_loop nth_open opened_inside opened_outside outer_loop replaced process run start step told_all begins_with begins_with_one html_4_01_beginnings limited_quirks_beginnings means_limited_quirks means_quirks quirks_beginnings quirks_public_ids quirks_system_ids added_before built changed has_one_like lacking row_of tree_from without_node foreign_end are_among cleared count_after_marker count_alike has_attribute_like has_entry last_named reopened still_listed to_reopen with_entry without_earliest without_entry without_oldest item_met all_names breaks_out ends_scope ends_table_scope has_such is_among is_body_context is_formatting is_fostering is_implied is_implied_thoroughly is_listed is_row_context is_special kind_in kind_in_namespace kind_of may_stay_open namespace_of first_open foster_place_in has_in_scope has_open popped_to_first_in popped_until_in popped_while_in second_body without_open mode_of flushed_as_space flushed_fostered is_all_space mode_of_request reply_of value_of among attribute_lines comes_before indent shown shown_of sorted
built_67 = refl

rows_68 : List Case
rows_68 =
    -- after frameset: end of file: "<frameset></frameset><frameset>\r\n"
    (document false (start_tag (codes "frameset") [] ∷ end_tag (codes "frameset") ∷ start_tag (codes "frameset") [] ∷ Text (codes "\n") ∷ Text [] ∷ End ∷ []))
    -- after frameset: end of file: "<frameset></frameset><frameset>"
    ∷ (document true (start_tag (codes "frameset") [] ∷ end_tag (codes "frameset") ∷ start_tag (codes "frameset") [] ∷ End ∷ []))
    -- after frameset: parse error ignore: "<frameset></frameset></frameset></body>"
    ∷ (document true (start_tag (codes "frameset") [] ∷ end_tag (codes "frameset") ∷ end_tag (codes "frameset") ∷ end_tag (codes "body") ∷ End ∷ []))
    -- after frameset: parse error ignore: "<frameset></frameset><datalist class=1>"
    ∷ (document false (start_tag (codes "frameset") [] ∷ end_tag (codes "frameset") ∷ start_tag (codes "datalist") (attribute (codes "class") (codes "1") ∷ []) ∷ End ∷ []))
    -- after frameset: parse error ignore: "<html class=1><frameset></frameset>a\u0000b"
    ∷ (document true (start_tag (codes "html") (attribute (codes "class") (codes "1") ∷ []) ∷ start_tag (codes "frameset") [] ∷ end_tag (codes "frameset") ∷ Text (codes "a") ∷ Null ∷ Text (codes "b") ∷ Text [] ∷ End ∷ []))
    -- after after body: insert a comment in the document: "</body></html>&#13;<![CDATA[x]]><head></head><br><body xmlns=u xmlns:xlink=w></frameset></script><head><head><frameset>"
    ∷ (document false (end_tag (codes "body") ∷ end_tag (codes "html") ∷ Text (codes "\r") ∷ Text [] ∷ Comment (codes "[CDATA[x]]") ∷ start_tag (codes "head") [] ∷ end_tag (codes "head") ∷ start_tag (codes "br") [] ∷ start_tag (codes "body") (attribute (codes "xmlns") (codes "u") ∷ attribute (codes "xmlns:xlink") (codes "w") ∷ []) ∷ end_tag (codes "frameset") ∷ end_tag (codes "script") ∷ start_tag (codes "head") [] ∷ start_tag (codes "head") [] ∷ start_tag (codes "frameset") [] ∷ End ∷ []))
    -- after after body: insert a comment in the document: "<!DOCTYPE html PUBLIC><head><body a=1 a=2></body></html><?p a b??>"
    ∷ (document false (Doctype (record { name = (Some (codes "html")); public_id = None; system_id = None; force_quirks = true }) ∷ start_tag (codes "head") [] ∷ start_tag (codes "body") (attribute (codes "a") (codes "1") ∷ []) ∷ end_tag (codes "body") ∷ end_tag (codes "html") ∷ Instruction (codes "p a b??") ∷ End ∷ []))
    -- after after body: insert a comment in the document: "<!DOCTYPE html></html><![CDATA[x]]><li><bgsound></bgsound></li>"
    ∷ (document false (Doctype (record { name = (Some (codes "html")); public_id = None; system_id = None; force_quirks = false }) ∷ end_tag (codes "html") ∷ Comment (codes "[CDATA[x]]") ∷ start_tag (codes "li") [] ∷ start_tag (codes "bgsound") [] ∷ end_tag (codes "bgsound") ∷ end_tag (codes "li") ∷ End ∷ []))
    -- after after body: using in body: "<!DOCTYPE html></body></html><!DOCTYPE html><fegaussianblur></head><br/><head class=2></fegaussianblur>"
    ∷ (document true (Doctype (record { name = (Some (codes "html")); public_id = None; system_id = None; force_quirks = false }) ∷ end_tag (codes "body") ∷ end_tag (codes "html") ∷ Doctype (record { name = (Some (codes "html")); public_id = None; system_id = None; force_quirks = false }) ∷ start_tag (codes "fegaussianblur") [] ∷ end_tag (codes "head") ∷ closed_tag (codes "br") [] ∷ start_tag (codes "head") (attribute (codes "class") (codes "2") ∷ []) ∷ end_tag (codes "fegaussianblur") ∷ End ∷ []))
    -- after after body: using in body: "<!DOCTYPE html PUBLIC></body></html><!DOCTYPE html>"
    ∷ (document false (Doctype (record { name = (Some (codes "html")); public_id = None; system_id = None; force_quirks = true }) ∷ end_tag (codes "body") ∷ end_tag (codes "html") ∷ Doctype (record { name = (Some (codes "html")); public_id = None; system_id = None; force_quirks = false }) ∷ End ∷ []))
    -- after after body: after body whitespace: "<!DOCTYPE html></body></html>\r\n"
    ∷ (document false (Doctype (record { name = (Some (codes "html")); public_id = None; system_id = None; force_quirks = false }) ∷ end_tag (codes "body") ∷ end_tag (codes "html") ∷ Text (codes "\n") ∷ Text [] ∷ End ∷ []))
    -- after after body: after body whitespace: "<!DOCTYPE html></body></html> "
    ∷ (document true (Doctype (record { name = (Some (codes "html")); public_id = None; system_id = None; force_quirks = false }) ∷ end_tag (codes "body") ∷ end_tag (codes "html") ∷ Text (codes " ") ∷ Text [] ∷ End ∷ []))
    ∷ []

trees_68 : List (List ℕ)
trees_68 =
    (codes "| <html>\n|   <head>\n|   <frameset>\n|   \"\n\"\n")
    ∷ (codes "| <html>\n|   <head>\n|   <frameset>\n")
    ∷ (codes "| <html>\n|   <head>\n|   <frameset>\n")
    ∷ (codes "| <html>\n|   <head>\n|   <frameset>\n")
    ∷ (codes "| <html>\n|   class=\"1\"\n|   <head>\n|   <frameset>\n")
    ∷ (codes "| <html>\n|   <head>\n|   <body>\n|     xmlns=\"u\"\n|     xmlns:xlink=\"w\"\n|     \"\r\"\n|     <br>\n| <!-- [CDATA[x]] -->\n")
    ∷ (codes "| <!DOCTYPE html>\n| <html>\n|   <head>\n|   <body>\n|     a=\"1\"\n| <!-- ?p a b?? -->\n")
    ∷ (codes "| <!DOCTYPE html>\n| <html>\n|   <head>\n|   <body>\n|     <li>\n|       <bgsound>\n| <!-- [CDATA[x]] -->\n")
    ∷ (codes "| <!DOCTYPE html>\n| <html>\n|   <head>\n|   <body>\n|     <fegaussianblur>\n|       <br>\n")
    ∷ (codes "| <!DOCTYPE html>\n| <html>\n|   <head>\n|   <body>\n")
    ∷ (codes "| <!DOCTYPE html>\n| <html>\n|   <head>\n|   <body>\n|     \"\n\"\n")
    ∷ (codes "| <!DOCTYPE html>\n| <html>\n|   <head>\n|   <body>\n|     \" \"\n")
    ∷ []

built_68 : map shown_of rows_68 ≡ trees_68
unfolding rows_68 trees_68 adjusted_attributes adjusted_name adjusted_tag_name cased foreign_attributes math_attribute_names svg_attribute_names svg_tag_names added_after adopted ended_by entry_of furthest_block inner_loop nth_open opened_inside opened_outside outer_loop replaced process run start step told_all begins_with begins_with_one html_4_01_beginnings limited_quirks_beginnings means_limited_quirks means_quirks quirks_beginnings quirks_public_ids quirks_system_ids added_before built changed has_one_like lacking row_of tree_from without_node foreign_end are_among cleared count_after_marker count_alike has_attribute_like has_entry last_named reopened still_listed to_reopen with_entry without_earliest without_entry without_oldest item_met all_names breaks_out ends_scope ends_table_scope has_such is_among is_body_context is_formatting is_fostering is_implied is_implied_thoroughly is_listed is_row_context is_special kind_in kind_in_namespace kind_of may_stay_open namespace_of first_open foster_place_in has_in_scope has_open popped_to_first_in popped_until_in popped_while_in second_body without_open mode_of flushed_as_space flushed_fostered is_all_space mode_of_request reply_of value_of among attribute_lines comes_before indent shown shown_of sorted
built_68 = refl

rows_69 : List Case
rows_69 =
    -- after after body: after body whitespace: "<!DOCTYPE html>z z</html> \f"
    (document true (Doctype (record { name = (Some (codes "html")); public_id = None; system_id = None; force_quirks = false }) ∷ Text (codes "z z") ∷ end_tag (codes "html") ∷ Text (32 ∷ 12 ∷ []) ∷ Text [] ∷ End ∷ []))
    -- after after body: using in body: "<!DOCTYPE html><body>\r\n</lineargradient>\n\nx<slot></slot>&#13;</html><html>"
    ∷ (document true (Doctype (record { name = (Some (codes "html")); public_id = None; system_id = None; force_quirks = false }) ∷ start_tag (codes "body") [] ∷ Text (codes "\n") ∷ end_tag (codes "lineargradient") ∷ Text (codes "\n\nx") ∷ start_tag (codes "slot") [] ∷ end_tag (codes "slot") ∷ Text (codes "\r") ∷ end_tag (codes "html") ∷ start_tag (codes "html") [] ∷ End ∷ []))
    -- after after body: using in body: "<!DOCTYPE html><html class=1></html><html id=a class=1></html> x"
    ∷ (document false (Doctype (record { name = (Some (codes "html")); public_id = None; system_id = None; force_quirks = false }) ∷ start_tag (codes "html") (attribute (codes "class") (codes "1") ∷ []) ∷ end_tag (codes "html") ∷ start_tag (codes "html") (attribute (codes "id") (codes "a") ∷ attribute (codes "class") (codes "1") ∷ []) ∷ end_tag (codes "html") ∷ Text (codes " x") ∷ Text [] ∷ End ∷ []))
    -- after after body: using in body: "<!DOCTYPE html></body></html><html/>&amp;<frameset>"
    ∷ (document true (Doctype (record { name = (Some (codes "html")); public_id = None; system_id = None; force_quirks = false }) ∷ end_tag (codes "body") ∷ end_tag (codes "html") ∷ closed_tag (codes "html") [] ∷ Text (codes "&") ∷ start_tag (codes "frameset") [] ∷ End ∷ []))
    -- after after body: end of file: "<!DOCTYPE html></html>\t"
    ∷ (document true (Doctype (record { name = (Some (codes "html")); public_id = None; system_id = None; force_quirks = false }) ∷ end_tag (codes "html") ∷ Text (codes "\t") ∷ Text [] ∷ End ∷ []))
    -- after after body: end of file: "<!DOCTYPE html></html>"
    ∷ (document true (Doctype (record { name = (Some (codes "html")); public_id = None; system_id = None; force_quirks = false }) ∷ end_tag (codes "html") ∷ End ∷ []))
    -- after after body: end of file: "</body></html></html>"
    ∷ (document true (end_tag (codes "body") ∷ end_tag (codes "html") ∷ end_tag (codes "html") ∷ End ∷ []))
    -- after after body: anything else: "</html><col><col>"
    ∷ (document false (end_tag (codes "html") ∷ start_tag (codes "col") [] ∷ start_tag (codes "col") [] ∷ End ∷ []))
    -- after after body: anything else: "</html></html>"
    ∷ (document true (end_tag (codes "html") ∷ end_tag (codes "html") ∷ End ∷ []))
    -- after after body: anything else: "</html></link>"
    ∷ (document false (end_tag (codes "html") ∷ end_tag (codes "link") ∷ End ∷ []))
    -- after after frameset: insert a comment in the document: "<!DOCTYPE html PUBLIC 'HTML'><frameset></frameset></html><![CDATA[<p>]]><p xmlns=u xmlns:xlink=w/><![CDATA[<p>]]></html>"
    ∷ (document true (Doctype (record { name = (Some (codes "html")); public_id = (Some (codes "HTML")); system_id = None; force_quirks = false }) ∷ start_tag (codes "frameset") [] ∷ end_tag (codes "frameset") ∷ end_tag (codes "html") ∷ Comment (codes "[CDATA[<p") ∷ Text (codes "]]>") ∷ start_tag (codes "p") (attribute (codes "xmlns") (codes "u") ∷ attribute (codes "xmlns:xlink") (codes "w/") ∷ []) ∷ Comment (codes "[CDATA[<p") ∷ Text (codes "]]>") ∷ end_tag (codes "html") ∷ End ∷ []))
    -- after after frameset: insert a comment in the document: "<!DOCTYPE html><frameset></frameset></html><![CDATA[x]]>\n\nxa\u0000b<html></html><frame><body xlink:href=x xml:lang=e></body>"
    ∷ (document true (Doctype (record { name = (Some (codes "html")); public_id = None; system_id = None; force_quirks = false }) ∷ start_tag (codes "frameset") [] ∷ end_tag (codes "frameset") ∷ end_tag (codes "html") ∷ Comment (codes "[CDATA[x]]") ∷ Text (codes "\n\nxa") ∷ Null ∷ Text (codes "b") ∷ start_tag (codes "html") [] ∷ end_tag (codes "html") ∷ start_tag (codes "frame") [] ∷ start_tag (codes "body") (attribute (codes "xlink:href") (codes "x") ∷ attribute (codes "xml:lang") (codes "e") ∷ []) ∷ end_tag (codes "body") ∷ End ∷ []))
    ∷ []

trees_69 : List (List ℕ)
trees_69 =
    (124 ∷ 32 ∷ 60 ∷ 33 ∷ 68 ∷ 79 ∷ 67 ∷ 84 ∷ 89 ∷ 80 ∷ 69 ∷ 32 ∷ 104 ∷ 116 ∷ 109 ∷ 108 ∷ 62 ∷ 10 ∷ 124 ∷ 32 ∷ 60 ∷ 104 ∷ 116 ∷ 109 ∷ 108 ∷ 62 ∷ 10 ∷ 124 ∷ 32 ∷ 32 ∷ 32 ∷ 60 ∷ 104 ∷ 101 ∷ 97 ∷ 100 ∷ 62 ∷ 10 ∷ 124 ∷ 32 ∷ 32 ∷ 32 ∷ 60 ∷ 98 ∷ 111 ∷ 100 ∷ 121 ∷ 62 ∷ 10 ∷ 124 ∷ 32 ∷ 32 ∷ 32 ∷ 32 ∷ 32 ∷ 34 ∷ 122 ∷ 32 ∷ 122 ∷ 32 ∷ 12 ∷ 34 ∷ 10 ∷ [])
    ∷ (codes "| <!DOCTYPE html>\n| <html>\n|   <head>\n|   <body>\n|     \"\n\n\nx\"\n|     <slot>\n|     \"\r\"\n")
    ∷ (codes "| <!DOCTYPE html>\n| <html>\n|   class=\"1\"\n|   id=\"a\"\n|   <head>\n|   <body>\n|     \" x\"\n")
    ∷ (codes "| <!DOCTYPE html>\n| <html>\n|   <head>\n|   <body>\n|     \"&\"\n")
    ∷ (codes "| <!DOCTYPE html>\n| <html>\n|   <head>\n|   <body>\n|     \"\t\"\n")
    ∷ (codes "| <!DOCTYPE html>\n| <html>\n|   <head>\n|   <body>\n")
    ∷ (codes "| <html>\n|   <head>\n|   <body>\n")
    ∷ (codes "| <html>\n|   <head>\n|   <body>\n")
    ∷ (codes "| <html>\n|   <head>\n|   <body>\n")
    ∷ (codes "| <html>\n|   <head>\n|   <body>\n")
    ∷ (codes "| <!DOCTYPE html \"HTML\" \"\">\n| <html>\n|   <head>\n|   <frameset>\n| <!-- [CDATA[<p -->\n| <!-- [CDATA[<p -->\n")
    ∷ (codes "| <!DOCTYPE html>\n| <html>\n|   <head>\n|   <frameset>\n|   \"\n\n\"\n| <!-- [CDATA[x]] -->\n")
    ∷ []

built_69 : map shown_of rows_69 ≡ trees_69
unfolding rows_69 trees_69 adjusted_attributes adjusted_name adjusted_tag_name cased foreign_attributes math_attribute_names svg_attribute_names svg_tag_names added_after adopted ended_by entry_of furthest_block inner_loop nth_open opened_inside opened_outside outer_loop replaced process run start step told_all begins_with begins_with_one html_4_01_beginnings limited_quirks_beginnings means_limited_quirks means_quirks quirks_beginnings quirks_public_ids quirks_system_ids added_before built changed has_one_like lacking row_of tree_from without_node foreign_end are_among cleared count_after_marker count_alike has_attribute_like has_entry last_named reopened still_listed to_reopen with_entry without_earliest without_entry without_oldest item_met all_names breaks_out ends_scope ends_table_scope has_such is_among is_body_context is_formatting is_fostering is_implied is_implied_thoroughly is_listed is_row_context is_special kind_in kind_in_namespace kind_of may_stay_open namespace_of first_open foster_place_in has_in_scope has_open popped_to_first_in popped_until_in popped_while_in second_body without_open mode_of flushed_as_space flushed_fostered is_all_space mode_of_request reply_of value_of among attribute_lines comes_before indent shown shown_of sorted
built_69 = refl

rows_70 : List Case
rows_70 =
    -- after after frameset: insert a comment in the document: "<!doctype HTML SYSTEM 'about:legacy-compat'><frameset></frameset></html><![CDATA[<p>]]><body></body><frameset></frame>\t"
    (document false (Doctype (record { name = (Some (codes "html")); public_id = None; system_id = (Some (codes "about:legacy-compat")); force_quirks = false }) ∷ start_tag (codes "frameset") [] ∷ end_tag (codes "frameset") ∷ end_tag (codes "html") ∷ Comment (codes "[CDATA[<p") ∷ Text (codes "]]>") ∷ start_tag (codes "body") [] ∷ end_tag (codes "body") ∷ start_tag (codes "frameset") [] ∷ end_tag (codes "frame") ∷ Text (codes "\t") ∷ Text [] ∷ End ∷ []))
    -- after after frameset: using in body: "<!DOCTYPE html><frameset></frameset></html></body><body><frameset><!DOCTYPE html></noframes></frame></body><noframes>"
    ∷ (document false (Doctype (record { name = (Some (codes "html")); public_id = None; system_id = None; force_quirks = false }) ∷ start_tag (codes "frameset") [] ∷ end_tag (codes "frameset") ∷ end_tag (codes "html") ∷ end_tag (codes "body") ∷ start_tag (codes "body") [] ∷ start_tag (codes "frameset") [] ∷ Doctype (record { name = (Some (codes "html")); public_id = None; system_id = None; force_quirks = false }) ∷ end_tag (codes "noframes") ∷ end_tag (codes "frame") ∷ end_tag (codes "body") ∷ start_tag (codes "noframes") [] ∷ End ∷ []))
    -- after after frameset: using in body: "<!DOCTYPE html><frameset></frameset></html><!DOCTYPE html PUBLIC '-//W3C//DTD HTML 4.01//EN'></frameset>"
    ∷ (document false (Doctype (record { name = (Some (codes "html")); public_id = None; system_id = None; force_quirks = false }) ∷ start_tag (codes "frameset") [] ∷ end_tag (codes "frameset") ∷ end_tag (codes "html") ∷ Doctype (record { name = (Some (codes "html")); public_id = (Some (codes "-//W3C//DTD HTML 4.01//EN")); system_id = None; force_quirks = false }) ∷ end_tag (codes "frameset") ∷ End ∷ []))
    -- after after frameset: using in body: "<!DOCTYPE html><frameset></frameset></noframes></html><html id=a class=1></html></frame><!DOCTYPE html>"
    ∷ (document true (Doctype (record { name = (Some (codes "html")); public_id = None; system_id = None; force_quirks = false }) ∷ start_tag (codes "frameset") [] ∷ end_tag (codes "frameset") ∷ end_tag (codes "noframes") ∷ end_tag (codes "html") ∷ start_tag (codes "html") (attribute (codes "id") (codes "a") ∷ attribute (codes "class") (codes "1") ∷ []) ∷ end_tag (codes "html") ∷ end_tag (codes "frame") ∷ Doctype (record { name = (Some (codes "html")); public_id = None; system_id = None; force_quirks = false }) ∷ End ∷ []))
    -- after after frameset: using in body: "<!DOCTYPE html><frameset></frameset></html>a\u0000b<body> </body>"
    ∷ (document false (Doctype (record { name = (Some (codes "html")); public_id = None; system_id = None; force_quirks = false }) ∷ start_tag (codes "frameset") [] ∷ end_tag (codes "frameset") ∷ end_tag (codes "html") ∷ Text (codes "a") ∷ Null ∷ Text (codes "b") ∷ start_tag (codes "body") [] ∷ Text (codes " ") ∷ end_tag (codes "body") ∷ End ∷ []))
    -- after after frameset: using in body: "<frameset></frameset></html><mi> x\n\nx<frame a=1 a=2><p>"
    ∷ (document false (start_tag (codes "frameset") [] ∷ end_tag (codes "frameset") ∷ end_tag (codes "html") ∷ start_tag (codes "mi") [] ∷ Text (codes " x\n\nx") ∷ start_tag (codes "frame") (attribute (codes "a") (codes "1") ∷ []) ∷ start_tag (codes "p") [] ∷ End ∷ []))
    -- after after frameset: using in body: "<!DOCTYPE html><frameset></frameset></html>\r\n<frame/>"
    ∷ (document false (Doctype (record { name = (Some (codes "html")); public_id = None; system_id = None; force_quirks = false }) ∷ start_tag (codes "frameset") [] ∷ end_tag (codes "frameset") ∷ end_tag (codes "html") ∷ Text (codes "\n") ∷ closed_tag (codes "frame") [] ∷ End ∷ []))
    -- after after frameset: using in body: "<!DOCTYPE html><frameset></frameset></html><html><noframes></html></noframes>\u0000 <html class=2>"
    ∷ (document false (Doctype (record { name = (Some (codes "html")); public_id = None; system_id = None; force_quirks = false }) ∷ start_tag (codes "frameset") [] ∷ end_tag (codes "frameset") ∷ end_tag (codes "html") ∷ start_tag (codes "html") [] ∷ start_tag (codes "noframes") [] ∷ Text (codes "</html>") ∷ end_tag (codes "noframes") ∷ Null ∷ Text (codes " ") ∷ start_tag (codes "html") (attribute (codes "class") (codes "2") ∷ []) ∷ End ∷ []))
    -- after after frameset: using in body: "<!DOCTYPE html><frameset></frameset></noframes></html>\n\nx<html><html></html></html><frameset>"
    ∷ (document true (Doctype (record { name = (Some (codes "html")); public_id = None; system_id = None; force_quirks = false }) ∷ start_tag (codes "frameset") [] ∷ end_tag (codes "frameset") ∷ end_tag (codes "noframes") ∷ end_tag (codes "html") ∷ Text (codes "\n\nx") ∷ start_tag (codes "html") [] ∷ start_tag (codes "html") [] ∷ end_tag (codes "html") ∷ end_tag (codes "html") ∷ start_tag (codes "frameset") [] ∷ End ∷ []))
    -- after after frameset: using in body: "<!doctype HTML SYSTEM 'about:legacy-compat'><frameset></frameset></html><html>"
    ∷ (document false (Doctype (record { name = (Some (codes "html")); public_id = None; system_id = (Some (codes "about:legacy-compat")); force_quirks = false }) ∷ start_tag (codes "frameset") [] ∷ end_tag (codes "frameset") ∷ end_tag (codes "html") ∷ start_tag (codes "html") [] ∷ End ∷ []))
    -- after after frameset: end of file: "<!DOCTYPE><frameset></frameset></html>y"
    ∷ (document true (Doctype (record { name = None; public_id = None; system_id = None; force_quirks = true }) ∷ start_tag (codes "frameset") [] ∷ end_tag (codes "frameset") ∷ end_tag (codes "html") ∷ Text (codes "y") ∷ Text [] ∷ End ∷ []))
    -- after after frameset: end of file: "<frameset></frameset></html></noframes>"
    ∷ (document false (start_tag (codes "frameset") [] ∷ end_tag (codes "frameset") ∷ end_tag (codes "html") ∷ end_tag (codes "noframes") ∷ End ∷ []))
    ∷ []

trees_70 : List (List ℕ)
trees_70 =
    (codes "| <!DOCTYPE html \"\" \"about:legacy-compat\">\n| <html>\n|   <head>\n|   <frameset>\n|   \"\t\"\n| <!-- [CDATA[<p -->\n")
    ∷ (codes "| <!DOCTYPE html>\n| <html>\n|   <head>\n|   <frameset>\n|   <noframes>\n")
    ∷ (codes "| <!DOCTYPE html>\n| <html>\n|   <head>\n|   <frameset>\n")
    ∷ (codes "| <!DOCTYPE html>\n| <html>\n|   class=\"1\"\n|   id=\"a\"\n|   <head>\n|   <frameset>\n")
    ∷ (codes "| <!DOCTYPE html>\n| <html>\n|   <head>\n|   <frameset>\n|   \" \"\n")
    ∷ (codes "| <html>\n|   <head>\n|   <frameset>\n|   \" \n\n\"\n")
    ∷ (codes "| <!DOCTYPE html>\n| <html>\n|   <head>\n|   <frameset>\n|   \"\n\"\n")
    ∷ (codes "| <!DOCTYPE html>\n| <html>\n|   class=\"2\"\n|   <head>\n|   <frameset>\n|   <noframes>\n|     \"</html>\"\n|   \" \"\n")
    ∷ (codes "| <!DOCTYPE html>\n| <html>\n|   <head>\n|   <frameset>\n|   \"\n\n\"\n")
    ∷ (codes "| <!DOCTYPE html \"\" \"about:legacy-compat\">\n| <html>\n|   <head>\n|   <frameset>\n")
    ∷ (codes "| <!DOCTYPE >\n| <html>\n|   <head>\n|   <frameset>\n")
    ∷ (codes "| <html>\n|   <head>\n|   <frameset>\n")
    ∷ []

built_70 : map shown_of rows_70 ≡ trees_70
unfolding rows_70 trees_70 adjusted_attributes adjusted_name adjusted_tag_name cased foreign_attributes math_attribute_names svg_attribute_names svg_tag_names added_after adopted ended_by entry_of furthest_block inner_loop nth_open opened_inside opened_outside outer_loop replaced process run start step told_all begins_with begins_with_one html_4_01_beginnings limited_quirks_beginnings means_limited_quirks means_quirks quirks_beginnings quirks_public_ids quirks_system_ids added_before built changed has_one_like lacking row_of tree_from without_node foreign_end are_among cleared count_after_marker count_alike has_attribute_like has_entry last_named reopened still_listed to_reopen with_entry without_earliest without_entry without_oldest item_met all_names breaks_out ends_scope ends_table_scope has_such is_among is_body_context is_formatting is_fostering is_implied is_implied_thoroughly is_listed is_row_context is_special kind_in kind_in_namespace kind_of may_stay_open namespace_of first_open foster_place_in has_in_scope has_open popped_to_first_in popped_until_in popped_while_in second_body without_open mode_of flushed_as_space flushed_fostered is_all_space mode_of_request reply_of value_of among attribute_lines comes_before indent shown shown_of sorted
built_70 = refl

rows_71 : List Case
rows_71 =
    -- after after frameset: end of file: "<!DOCTYPE><frameset></frameset></html>"
    (document false (Doctype (record { name = None; public_id = None; system_id = None; force_quirks = true }) ∷ start_tag (codes "frameset") [] ∷ end_tag (codes "frameset") ∷ end_tag (codes "html") ∷ End ∷ []))
    -- after after frameset: using in head: "<!DOCTYPE><frameset></frameset></html></html><p><noframes id=a class=1>a\u0000b<html a=1 a=2></body></frameset>"
    ∷ (document false (Doctype (record { name = None; public_id = None; system_id = None; force_quirks = true }) ∷ start_tag (codes "frameset") [] ∷ end_tag (codes "frameset") ∷ end_tag (codes "html") ∷ end_tag (codes "html") ∷ start_tag (codes "p") [] ∷ start_tag (codes "noframes") (attribute (codes "id") (codes "a") ∷ attribute (codes "class") (codes "1") ∷ []) ∷ Text (codes "a") ∷ Text (239 ∷ 191 ∷ 189 ∷ 98 ∷ 60 ∷ 104 ∷ 116 ∷ 109 ∷ 108 ∷ 32 ∷ 97 ∷ 61 ∷ 49 ∷ 32 ∷ 97 ∷ 61 ∷ 50 ∷ 62 ∷ 60 ∷ 47 ∷ 98 ∷ 111 ∷ 100 ∷ 121 ∷ 62 ∷ 60 ∷ 47 ∷ 102 ∷ 114 ∷ 97 ∷ 109 ∷ 101 ∷ 115 ∷ 101 ∷ 116 ∷ 62 ∷ []) ∷ Text [] ∷ End ∷ []))
    -- after after frameset: using in head: "<!DOCTYPE html><frameset></frameset></html></body><noframes class=2>y<frameset a=1 a=2>\t&#13;</noframes>"
    ∷ (document true (Doctype (record { name = (Some (codes "html")); public_id = None; system_id = None; force_quirks = false }) ∷ start_tag (codes "frameset") [] ∷ end_tag (codes "frameset") ∷ end_tag (codes "html") ∷ end_tag (codes "body") ∷ start_tag (codes "noframes") (attribute (codes "class") (codes "2") ∷ []) ∷ Text (codes "y<frameset a=1 a=2>\t&#13;") ∷ end_tag (codes "noframes") ∷ End ∷ []))
    -- after after frameset: using in head: "<!DOCTYPE html PUBLIC><frameset></frameset></html><body><noframes xmlns=u xmlns:xlink=w>"
    ∷ (document false (Doctype (record { name = (Some (codes "html")); public_id = None; system_id = None; force_quirks = true }) ∷ start_tag (codes "frameset") [] ∷ end_tag (codes "frameset") ∷ end_tag (codes "html") ∷ start_tag (codes "body") [] ∷ start_tag (codes "noframes") (attribute (codes "xmlns") (codes "u") ∷ attribute (codes "xmlns:xlink") (codes "w") ∷ []) ∷ End ∷ []))
    -- after after frameset: parse error ignore: "<!DOCTYPE html><frameset></frameset></html>\n\nx"
    ∷ (document false (Doctype (record { name = (Some (codes "html")); public_id = None; system_id = None; force_quirks = false }) ∷ start_tag (codes "frameset") [] ∷ end_tag (codes "frameset") ∷ end_tag (codes "html") ∷ Text (codes "\n\nx") ∷ Text [] ∷ End ∷ []))
    -- after after frameset: parse error ignore: "<!DOCTYPE><frameset></frameset></html></body>"
    ∷ (document false (Doctype (record { name = None; public_id = None; system_id = None; force_quirks = true }) ∷ start_tag (codes "frameset") [] ∷ end_tag (codes "frameset") ∷ end_tag (codes "html") ∷ end_tag (codes "body") ∷ End ∷ []))
    -- after after frameset: parse error ignore: "<frameset></frameset></html> <p id=a class=1>"
    ∷ (document true (start_tag (codes "frameset") [] ∷ end_tag (codes "frameset") ∷ end_tag (codes "html") ∷ Text (codes " ") ∷ start_tag (codes "p") (attribute (codes "id") (codes "a") ∷ attribute (codes "class") (codes "1") ∷ []) ∷ End ∷ []))
    -- foreign content: null: "<math>\u0000 x <table>\u0000 "
    ∷ (document false (start_tag (codes "math") [] ∷ Null ∷ Text (codes " x ") ∷ start_tag (codes "table") [] ∷ Null ∷ Text (codes " ") ∷ Text [] ∷ End ∷ []))
    -- foreign content: null: "a\u0000b<menuitem>"
    ∷ (fragment true MathMl (codes "mrow") [] (Text (codes "a") ∷ Null ∷ Text (codes "b") ∷ start_tag (codes "menuitem") [] ∷ End ∷ []))
    -- foreign content: null: "</frameset>\u0000"
    ∷ (fragment true MathMl (codes "math") [] (end_tag (codes "frameset") ∷ Null ∷ End ∷ []))
    -- foreign content: insert the character: "\n\nx"
    ∷ (fragment false MathMl (codes "annotation-xml") [] (Text (codes "\n\nx") ∷ Text [] ∷ End ∷ []))
    -- foreign content: insert the character: "\u0000 "
    ∷ (fragment true Svg (codes "a") [] (Null ∷ Text (codes " ") ∷ Text [] ∷ End ∷ []))
    ∷ []

trees_71 : List (List ℕ)
trees_71 =
    (codes "| <!DOCTYPE >\n| <html>\n|   <head>\n|   <frameset>\n")
    ∷ (124 ∷ 32 ∷ 60 ∷ 33 ∷ 68 ∷ 79 ∷ 67 ∷ 84 ∷ 89 ∷ 80 ∷ 69 ∷ 32 ∷ 62 ∷ 10 ∷ 124 ∷ 32 ∷ 60 ∷ 104 ∷ 116 ∷ 109 ∷ 108 ∷ 62 ∷ 10 ∷ 124 ∷ 32 ∷ 32 ∷ 32 ∷ 60 ∷ 104 ∷ 101 ∷ 97 ∷ 100 ∷ 62 ∷ 10 ∷ 124 ∷ 32 ∷ 32 ∷ 32 ∷ 60 ∷ 102 ∷ 114 ∷ 97 ∷ 109 ∷ 101 ∷ 115 ∷ 101 ∷ 116 ∷ 62 ∷ 10 ∷ 124 ∷ 32 ∷ 32 ∷ 32 ∷ 60 ∷ 110 ∷ 111 ∷ 102 ∷ 114 ∷ 97 ∷ 109 ∷ 101 ∷ 115 ∷ 62 ∷ 10 ∷ 124 ∷ 32 ∷ 32 ∷ 32 ∷ 32 ∷ 32 ∷ 99 ∷ 108 ∷ 97 ∷ 115 ∷ 115 ∷ 61 ∷ 34 ∷ 49 ∷ 34 ∷ 10 ∷ 124 ∷ 32 ∷ 32 ∷ 32 ∷ 32 ∷ 32 ∷ 105 ∷ 100 ∷ 61 ∷ 34 ∷ 97 ∷ 34 ∷ 10 ∷ 124 ∷ 32 ∷ 32 ∷ 32 ∷ 32 ∷ 32 ∷ 34 ∷ 97 ∷ 239 ∷ 191 ∷ 189 ∷ 98 ∷ 60 ∷ 104 ∷ 116 ∷ 109 ∷ 108 ∷ 32 ∷ 97 ∷ 61 ∷ 49 ∷ 32 ∷ 97 ∷ 61 ∷ 50 ∷ 62 ∷ 60 ∷ 47 ∷ 98 ∷ 111 ∷ 100 ∷ 121 ∷ 62 ∷ 60 ∷ 47 ∷ 102 ∷ 114 ∷ 97 ∷ 109 ∷ 101 ∷ 115 ∷ 101 ∷ 116 ∷ 62 ∷ 34 ∷ 10 ∷ [])
    ∷ (codes "| <!DOCTYPE html>\n| <html>\n|   <head>\n|   <frameset>\n|   <noframes>\n|     class=\"2\"\n|     \"y<frameset a=1 a=2>\t&#13;\"\n")
    ∷ (codes "| <!DOCTYPE html>\n| <html>\n|   <head>\n|   <frameset>\n|   <noframes>\n|     xmlns=\"u\"\n|     xmlns:xlink=\"w\"\n")
    ∷ (codes "| <!DOCTYPE html>\n| <html>\n|   <head>\n|   <frameset>\n|   \"\n\n\"\n")
    ∷ (codes "| <!DOCTYPE >\n| <html>\n|   <head>\n|   <frameset>\n")
    ∷ (codes "| <html>\n|   <head>\n|   <frameset>\n|   \" \"\n")
    ∷ (124 ∷ 32 ∷ 60 ∷ 104 ∷ 116 ∷ 109 ∷ 108 ∷ 62 ∷ 10 ∷ 124 ∷ 32 ∷ 32 ∷ 32 ∷ 60 ∷ 104 ∷ 101 ∷ 97 ∷ 100 ∷ 62 ∷ 10 ∷ 124 ∷ 32 ∷ 32 ∷ 32 ∷ 60 ∷ 98 ∷ 111 ∷ 100 ∷ 121 ∷ 62 ∷ 10 ∷ 124 ∷ 32 ∷ 32 ∷ 32 ∷ 32 ∷ 32 ∷ 60 ∷ 109 ∷ 97 ∷ 116 ∷ 104 ∷ 32 ∷ 109 ∷ 97 ∷ 116 ∷ 104 ∷ 62 ∷ 10 ∷ 124 ∷ 32 ∷ 32 ∷ 32 ∷ 32 ∷ 32 ∷ 32 ∷ 32 ∷ 34 ∷ 239 ∷ 191 ∷ 189 ∷ 32 ∷ 120 ∷ 32 ∷ 34 ∷ 10 ∷ 124 ∷ 32 ∷ 32 ∷ 32 ∷ 32 ∷ 32 ∷ 60 ∷ 116 ∷ 97 ∷ 98 ∷ 108 ∷ 101 ∷ 62 ∷ 10 ∷ 124 ∷ 32 ∷ 32 ∷ 32 ∷ 32 ∷ 32 ∷ 32 ∷ 32 ∷ 34 ∷ 32 ∷ 34 ∷ 10 ∷ [])
    ∷ (124 ∷ 32 ∷ 34 ∷ 97 ∷ 239 ∷ 191 ∷ 189 ∷ 98 ∷ 34 ∷ 10 ∷ 124 ∷ 32 ∷ 60 ∷ 109 ∷ 97 ∷ 116 ∷ 104 ∷ 32 ∷ 109 ∷ 101 ∷ 110 ∷ 117 ∷ 105 ∷ 116 ∷ 101 ∷ 109 ∷ 62 ∷ 10 ∷ [])
    ∷ (124 ∷ 32 ∷ 34 ∷ 239 ∷ 191 ∷ 189 ∷ 34 ∷ 10 ∷ [])
    ∷ (codes "| \"\n\nx\"\n")
    ∷ (124 ∷ 32 ∷ 34 ∷ 239 ∷ 191 ∷ 189 ∷ 32 ∷ 34 ∷ 10 ∷ [])
    ∷ []

built_71 : map shown_of rows_71 ≡ trees_71
unfolding rows_71 trees_71 adjusted_attributes adjusted_name adjusted_tag_name cased foreign_attributes math_attribute_names svg_attribute_names svg_tag_names added_after adopted ended_by entry_of furthest_block inner_loop nth_open opened_inside opened_outside outer_loop replaced process run start step told_all begins_with begins_with_one html_4_01_beginnings limited_quirks_beginnings means_limited_quirks means_quirks quirks_beginnings quirks_public_ids quirks_system_ids added_before built changed has_one_like lacking row_of tree_from without_node foreign_end are_among cleared count_after_marker count_alike has_attribute_like has_entry last_named reopened still_listed to_reopen with_entry without_earliest without_entry without_oldest item_met all_names breaks_out ends_scope ends_table_scope has_such is_among is_body_context is_formatting is_fostering is_implied is_implied_thoroughly is_listed is_row_context is_special kind_in kind_in_namespace kind_of may_stay_open namespace_of first_open foster_place_in has_in_scope has_open popped_to_first_in popped_until_in popped_while_in second_body without_open mode_of flushed_as_space flushed_fostered is_all_space mode_of_request reply_of value_of among attribute_lines comes_before indent shown shown_of sorted
built_71 = refl

rows_72 : List Case
rows_72 =
    -- foreign content: insert the character: "\n\t"
    (fragment false MathMl (codes "mrow") [] (Text (codes "\n\t") ∷ Text [] ∷ End ∷ []))
    -- foreign content: any other character: "&amp;"
    ∷ (fragment false Svg (codes "g") [] (Text (codes "&") ∷ End ∷ []))
    -- foreign content: any other character: "</p>y"
    ∷ (fragment false Svg (codes "svg") [] (end_tag (codes "p") ∷ Text (codes "y") ∷ Text [] ∷ End ∷ []))
    -- foreign content: any other character: "a\u0000b\r\n"
    ∷ (fragment false MathMl (codes "math") [] (Text (codes "a") ∷ Null ∷ Text (codes "b\n") ∷ Text [] ∷ End ∷ []))
    -- foreign content: insert a comment: "</a><!--c--></table><svg>"
    ∷ (fragment false Svg (codes "desc") [] (end_tag (codes "a") ∷ Comment (codes "c") ∷ end_tag (codes "table") ∷ start_tag (codes "svg") [] ∷ End ∷ []))
    -- foreign content: insert a comment: "<col/>a\u0000b</col><!--c-->y"
    ∷ (fragment false MathMl (codes "mtext") [] (closed_tag (codes "col") [] ∷ Text (codes "a") ∷ Null ∷ Text (codes "b") ∷ end_tag (codes "col") ∷ Comment (codes "c") ∷ Text (codes "y") ∷ Text [] ∷ End ∷ []))
    -- foreign content: insert a comment: "<radialgradient><!--c-->"
    ∷ (fragment false Svg (codes "svg") [] (start_tag (codes "radialgradient") [] ∷ Comment (codes "c") ∷ End ∷ []))
    -- foreign content: parse error ignore: "<!DOCTYPE html><head></head>x\r\n&amp;\n<svg><!--c--><!DOCTYPE html>\r\n</script><svg/>"
    ∷ (document false (Doctype (record { name = (Some (codes "html")); public_id = None; system_id = None; force_quirks = false }) ∷ start_tag (codes "head") [] ∷ end_tag (codes "head") ∷ Text (codes "x\n&\n") ∷ start_tag (codes "svg") [] ∷ Comment (codes "c") ∷ Doctype (record { name = (Some (codes "html")); public_id = None; system_id = None; force_quirks = false }) ∷ Text (codes "\n") ∷ end_tag (codes "script") ∷ closed_tag (codes "svg") [] ∷ End ∷ []))
    -- foreign content: parse error ignore: "&amp;<!DOCTYPE></ruby></rb><search></search>a\u0000b<rtc><foreignobject><search>"
    ∷ (fragment false Svg (codes "g") [] (Text (codes "&") ∷ Doctype (record { name = None; public_id = None; system_id = None; force_quirks = true }) ∷ end_tag (codes "ruby") ∷ end_tag (codes "rb") ∷ start_tag (codes "search") [] ∷ end_tag (codes "search") ∷ Text (codes "a") ∷ Null ∷ Text (codes "b") ∷ start_tag (codes "rtc") [] ∷ start_tag (codes "foreignobject") [] ∷ start_tag (codes "search") [] ∷ End ∷ []))
    -- foreign content: parse error ignore: "<td></td><!DOCTYPE html PUBLIC '-//W3C//DTD HTML 3.2 Final//EN'><rt>"
    ∷ (fragment true MathMl (codes "math") [] (start_tag (codes "td") [] ∷ end_tag (codes "td") ∷ Doctype (record { name = (Some (codes "html")); public_id = (Some (codes "-//W3C//DTD HTML 3.2 Final//EN")); system_id = None; force_quirks = false }) ∷ start_tag (codes "rt") [] ∷ End ∷ []))
    -- foreign content: breakout: "<center>"
    ∷ (fragment false Svg (codes "style") [] (start_tag (codes "center") [] ∷ End ∷ []))
    -- foreign content: breakout: "<b></b>"
    ∷ (fragment true Svg (codes "svg") [] (start_tag (codes "b") [] ∷ end_tag (codes "b") ∷ End ∷ []))
    ∷ []

trees_72 : List (List ℕ)
trees_72 =
    (codes "| \"\n\t\"\n")
    ∷ (codes "| \"&\"\n")
    ∷ (codes "| <p>\n| \"y\"\n")
    ∷ (124 ∷ 32 ∷ 34 ∷ 97 ∷ 239 ∷ 191 ∷ 189 ∷ 98 ∷ 10 ∷ 34 ∷ 10 ∷ [])
    ∷ (codes "| <!-- c -->\n| <svg svg>\n")
    ∷ (codes "| \"ab\"\n| <!-- c -->\n| \"y\"\n")
    ∷ (codes "| <svg radialGradient>\n|   <!-- c -->\n")
    ∷ (codes "| <!DOCTYPE html>\n| <html>\n|   <head>\n|   <body>\n|     \"x\n&\n\"\n|     <svg svg>\n|       <!-- c -->\n|       \"\n\"\n|       <svg svg>\n")
    ∷ (124 ∷ 32 ∷ 34 ∷ 38 ∷ 34 ∷ 10 ∷ 124 ∷ 32 ∷ 60 ∷ 115 ∷ 118 ∷ 103 ∷ 32 ∷ 115 ∷ 101 ∷ 97 ∷ 114 ∷ 99 ∷ 104 ∷ 62 ∷ 10 ∷ 124 ∷ 32 ∷ 34 ∷ 97 ∷ 239 ∷ 191 ∷ 189 ∷ 98 ∷ 34 ∷ 10 ∷ 124 ∷ 32 ∷ 60 ∷ 115 ∷ 118 ∷ 103 ∷ 32 ∷ 114 ∷ 116 ∷ 99 ∷ 62 ∷ 10 ∷ 124 ∷ 32 ∷ 32 ∷ 32 ∷ 60 ∷ 115 ∷ 118 ∷ 103 ∷ 32 ∷ 102 ∷ 111 ∷ 114 ∷ 101 ∷ 105 ∷ 103 ∷ 110 ∷ 79 ∷ 98 ∷ 106 ∷ 101 ∷ 99 ∷ 116 ∷ 62 ∷ 10 ∷ 124 ∷ 32 ∷ 32 ∷ 32 ∷ 32 ∷ 32 ∷ 60 ∷ 115 ∷ 101 ∷ 97 ∷ 114 ∷ 99 ∷ 104 ∷ 62 ∷ 10 ∷ [])
    ∷ (codes "| <math td>\n| <math rt>\n")
    ∷ (codes "| <center>\n")
    ∷ (codes "| <b>\n")
    ∷ []

built_72 : map shown_of rows_72 ≡ trees_72
unfolding rows_72 trees_72 adjusted_attributes adjusted_name adjusted_tag_name cased foreign_attributes math_attribute_names svg_attribute_names svg_tag_names added_after adopted ended_by entry_of furthest_block inner_loop nth_open opened_inside opened_outside outer_loop replaced process run start step told_all begins_with begins_with_one html_4_01_beginnings limited_quirks_beginnings means_limited_quirks means_quirks quirks_beginnings quirks_public_ids quirks_system_ids added_before built changed has_one_like lacking row_of tree_from without_node foreign_end are_among cleared count_after_marker count_alike has_attribute_like has_entry last_named reopened still_listed to_reopen with_entry without_earliest without_entry without_oldest item_met all_names breaks_out ends_scope ends_table_scope has_such is_among is_body_context is_formatting is_fostering is_implied is_implied_thoroughly is_listed is_row_context is_special kind_in kind_in_namespace kind_of may_stay_open namespace_of first_open foster_place_in has_in_scope has_open popped_to_first_in popped_until_in popped_while_in second_body without_open mode_of flushed_as_space flushed_fostered is_all_space mode_of_request reply_of value_of among attribute_lines comes_before indent shown shown_of sorted
built_72 = refl

rows_73 : List Case
rows_73 =
    -- foreign content: breakout: "<table>"
    (fragment false Svg (codes "style") [] (start_tag (codes "table") [] ∷ End ∷ []))
    -- foreign content: any other start tag: "\f<rtc>"
    ∷ (fragment false Svg (codes "svg") [] (Text (12 ∷ []) ∷ start_tag (codes "rtc") [] ∷ End ∷ []))
    -- foreign content: any other start tag: "<a>z z"
    ∷ (fragment false Svg (codes "svg") [] (start_tag (codes "a") [] ∷ Text (codes "z z") ∷ Text [] ∷ End ∷ []))
    -- foreign content: any other start tag: "<base>"
    ∷ (fragment true Svg (codes "g") [] (start_tag (codes "base") [] ∷ End ∷ []))
    -- foreign content: any other end tag: "\u0000</tr>"
    ∷ (fragment false MathMl (codes "annotation-xml") (attribute (codes "encoding") (codes "x") ∷ []) (Null ∷ end_tag (codes "tr") ∷ End ∷ []))
    -- foreign content: any other end tag: " </th>"
    ∷ (fragment true MathMl (codes "mtext") [] (Text (codes " ") ∷ end_tag (codes "th") ∷ End ∷ []))
    -- foreign content: any other end tag: "</a>x "
    ∷ (fragment true MathMl (codes "mtext") [] (end_tag (codes "a") ∷ Text (codes "x ") ∷ Text [] ∷ End ∷ []))
    -- a nobr that acts as any other end tag: "<nobr><table><object></table><nobr>x"
    ∷ (document false (start_tag (codes "nobr") [] ∷ start_tag (codes "table") [] ∷ start_tag (codes "object") [] ∷ end_tag (codes "table") ∷ start_tag (codes "nobr") [] ∷ Text (codes "x") ∷ Text [] ∷ End ∷ []))
    -- the adoption agency ends by its count: "<!DOCTYPE html><i><div><div><div><div><div><div><div><div><div></i>x"
    ∷ (document false (Doctype (record { name = (Some (codes "html")); public_id = None; system_id = None; force_quirks = false }) ∷ start_tag (codes "i") [] ∷ start_tag (codes "div") [] ∷ start_tag (codes "div") [] ∷ start_tag (codes "div") [] ∷ start_tag (codes "div") [] ∷ start_tag (codes "div") [] ∷ start_tag (codes "div") [] ∷ start_tag (codes "div") [] ∷ start_tag (codes "div") [] ∷ start_tag (codes "div") [] ∷ end_tag (codes "i") ∷ Text (codes "x") ∷ Text [] ∷ End ∷ []))
    -- the bookmark after eight turns: "<!DOCTYPE html><b><i><div><b id=1><div><div><div><p><div><section><div><div></b>x</i>y"
    ∷ (document false (Doctype (record { name = (Some (codes "html")); public_id = None; system_id = None; force_quirks = false }) ∷ start_tag (codes "b") [] ∷ start_tag (codes "i") [] ∷ start_tag (codes "div") [] ∷ start_tag (codes "b") (attribute (codes "id") (codes "1") ∷ []) ∷ start_tag (codes "div") [] ∷ start_tag (codes "div") [] ∷ start_tag (codes "div") [] ∷ start_tag (codes "p") [] ∷ start_tag (codes "div") [] ∷ start_tag (codes "section") [] ∷ start_tag (codes "div") [] ∷ start_tag (codes "div") [] ∷ end_tag (codes "b") ∷ Text (codes "x") ∷ end_tag (codes "i") ∷ Text (codes "y") ∷ Text [] ∷ End ∷ []))
    -- the bookmark after eight turns, of several: "<!DOCTYPE html><a><u><div><b><div><div><a id=1><div><p><div><section><div><div></a>x<p>y</u>z"
    ∷ (document false (Doctype (record { name = (Some (codes "html")); public_id = None; system_id = None; force_quirks = false }) ∷ start_tag (codes "a") [] ∷ start_tag (codes "u") [] ∷ start_tag (codes "div") [] ∷ start_tag (codes "b") [] ∷ start_tag (codes "div") [] ∷ start_tag (codes "div") [] ∷ start_tag (codes "a") (attribute (codes "id") (codes "1") ∷ []) ∷ start_tag (codes "div") [] ∷ start_tag (codes "p") [] ∷ start_tag (codes "div") [] ∷ start_tag (codes "section") [] ∷ start_tag (codes "div") [] ∷ start_tag (codes "div") [] ∷ end_tag (codes "a") ∷ Text (codes "x") ∷ start_tag (codes "p") [] ∷ Text (codes "y") ∷ end_tag (codes "u") ∷ Text (codes "z") ∷ Text [] ∷ End ∷ []))
    -- the fourth element of the inner loop leaves the list: "<nobr><u><b><b><u><div></nobr>x"
    ∷ (document false (start_tag (codes "nobr") [] ∷ start_tag (codes "u") [] ∷ start_tag (codes "b") [] ∷ start_tag (codes "b") [] ∷ start_tag (codes "u") [] ∷ start_tag (codes "div") [] ∷ end_tag (codes "nobr") ∷ Text (codes "x") ∷ Text [] ∷ End ∷ []))
    ∷ []

trees_73 : List (List ℕ)
trees_73 =
    (codes "| <table>\n")
    ∷ (124 ∷ 32 ∷ 34 ∷ 12 ∷ 34 ∷ 10 ∷ 124 ∷ 32 ∷ 60 ∷ 115 ∷ 118 ∷ 103 ∷ 32 ∷ 114 ∷ 116 ∷ 99 ∷ 62 ∷ 10 ∷ [])
    ∷ (codes "| <svg a>\n|   \"z z\"\n")
    ∷ (codes "| <svg base>\n")
    ∷ (124 ∷ 32 ∷ 34 ∷ 239 ∷ 191 ∷ 189 ∷ 34 ∷ 10 ∷ [])
    ∷ (codes "| \" \"\n")
    ∷ (codes "| \"x \"\n")
    ∷ (codes "| <html>\n|   <head>\n|   <body>\n|     <nobr>\n|       <object>\n|       <table>\n|     <nobr>\n|       \"x\"\n")
    ∷ (codes "| <!DOCTYPE html>\n| <html>\n|   <head>\n|   <body>\n|     <i>\n|     <div>\n|       <i>\n|       <div>\n|         <i>\n|         <div>\n|           <i>\n|           <div>\n|             <i>\n|             <div>\n|               <i>\n|               <div>\n|                 <i>\n|                 <div>\n|                   <i>\n|                   <div>\n|                     <i>\n|                       <div>\n|                         \"x\"\n")
    ∷ (codes "| <!DOCTYPE html>\n| <html>\n|   <head>\n|   <body>\n|     <b>\n|       <i>\n|       <div>\n|         <i>\n|           <b>\n|             id=\"1\"\n|         <div>\n|           <i>\n|             <b>\n|               id=\"1\"\n|           <div>\n|             <i>\n|               <b>\n|                 id=\"1\"\n|             <div>\n|               <i>\n|                 <b>\n|                   id=\"1\"\n|                   <p>\n|               <div>\n|                 <i>\n|                   <b>\n|                     id=\"1\"\n|                 <section>\n|                   <i>\n|                     <b>\n|                       id=\"1\"\n|                   <div>\n|                     <i>\n|                       <b>\n|                         id=\"1\"\n|                     <div>\n|                       <i>\n|                         <b>\n|                           id=\"1\"\n|                         \"xy\"\n")
    ∷ (codes "| <!DOCTYPE html>\n| <html>\n|   <head>\n|   <body>\n|     <a>\n|       <u>\n|     <u>\n|     <div>\n|       <u>\n|         <a>\n|           <b>\n|         <b>\n|       <b>\n|         <div>\n|           <u>\n|             <a>\n|           <div>\n|             <u>\n|               <a>\n|               <a>\n|                 id=\"1\"\n|             <div>\n|               <u>\n|                 <a>\n|                   id=\"1\"\n|                   <p>\n|               <div>\n|                 <u>\n|                   <a>\n|                     id=\"1\"\n|                 <section>\n|                   <u>\n|                     <a>\n|                       id=\"1\"\n|                   <div>\n|                     <u>\n|                       <a>\n|                         id=\"1\"\n|                     <div>\n|                       <u>\n|                         <a>\n|                           id=\"1\"\n|                         \"x\"\n|                         <p>\n|                           \"yz\"\n")
    ∷ (codes "| <html>\n|   <head>\n|   <body>\n|     <nobr>\n|       <u>\n|         <b>\n|           <b>\n|             <u>\n|     <b>\n|       <b>\n|         <u>\n|           <div>\n|             <nobr>\n|             \"x\"\n")
    ∷ []

built_73 : map shown_of rows_73 ≡ trees_73
unfolding rows_73 trees_73 adjusted_attributes adjusted_name adjusted_tag_name cased foreign_attributes math_attribute_names svg_attribute_names svg_tag_names added_after adopted ended_by entry_of furthest_block inner_loop nth_open opened_inside opened_outside outer_loop replaced process run start step told_all begins_with begins_with_one html_4_01_beginnings limited_quirks_beginnings means_limited_quirks means_quirks quirks_beginnings quirks_public_ids quirks_system_ids added_before built changed has_one_like lacking row_of tree_from without_node foreign_end are_among cleared count_after_marker count_alike has_attribute_like has_entry last_named reopened still_listed to_reopen with_entry without_earliest without_entry without_oldest item_met all_names breaks_out ends_scope ends_table_scope has_such is_among is_body_context is_formatting is_fostering is_implied is_implied_thoroughly is_listed is_row_context is_special kind_in kind_in_namespace kind_of may_stay_open namespace_of first_open foster_place_in has_in_scope has_open popped_to_first_in popped_until_in popped_while_in second_body without_open mode_of flushed_as_space flushed_fostered is_all_space mode_of_request reply_of value_of among attribute_lines comes_before indent shown shown_of sorted
built_73 = refl

rows_74 : List Case
rows_74 =
    -- three alike are enough: "<p><b><b><b><b><p>x"
    (document false (start_tag (codes "p") [] ∷ start_tag (codes "b") [] ∷ start_tag (codes "b") [] ∷ start_tag (codes "b") [] ∷ start_tag (codes "b") [] ∷ start_tag (codes "p") [] ∷ Text (codes "x") ∷ Text [] ∷ End ∷ []))
    -- three alike, by attributes in any order: "<p><b class=1 id=a><b id=a class=1><b class=1 id=a><b id=a class=1><p>x"
    ∷ (document false (start_tag (codes "p") [] ∷ start_tag (codes "b") (attribute (codes "class") (codes "1") ∷ attribute (codes "id") (codes "a") ∷ []) ∷ start_tag (codes "b") (attribute (codes "id") (codes "a") ∷ attribute (codes "class") (codes "1") ∷ []) ∷ start_tag (codes "b") (attribute (codes "class") (codes "1") ∷ attribute (codes "id") (codes "a") ∷ []) ∷ start_tag (codes "b") (attribute (codes "id") (codes "a") ∷ attribute (codes "class") (codes "1") ∷ []) ∷ start_tag (codes "p") [] ∷ Text (codes "x") ∷ Text [] ∷ End ∷ []))
    -- those with other attributes are not alike: "<p><b class=1><b class=2><b class=1><b><p>x"
    ∷ (document false (start_tag (codes "p") [] ∷ start_tag (codes "b") (attribute (codes "class") (codes "1") ∷ []) ∷ start_tag (codes "b") (attribute (codes "class") (codes "2") ∷ []) ∷ start_tag (codes "b") (attribute (codes "class") (codes "1") ∷ []) ∷ start_tag (codes "b") [] ∷ start_tag (codes "p") [] ∷ Text (codes "x") ∷ Text [] ∷ End ∷ []))
    -- a marker bounds the list: "<b><object>x</b>y</object>z"
    ∷ (document false (start_tag (codes "b") [] ∷ start_tag (codes "object") [] ∷ Text (codes "x") ∷ end_tag (codes "b") ∷ Text (codes "y") ∷ end_tag (codes "object") ∷ Text (codes "z") ∷ Text [] ∷ End ∷ []))
    -- the current node is not in the list: "<b><b><b><b></b></b></b></b></b>x"
    ∷ (document false (start_tag (codes "b") [] ∷ start_tag (codes "b") [] ∷ start_tag (codes "b") [] ∷ start_tag (codes "b") [] ∷ end_tag (codes "b") ∷ end_tag (codes "b") ∷ end_tag (codes "b") ∷ end_tag (codes "b") ∷ end_tag (codes "b") ∷ Text (codes "x") ∷ Text [] ∷ End ∷ []))
    -- foreign end tags up to an HTML element: "<div><svg><desc><p><svg><g></div>x"
    ∷ (document false (start_tag (codes "div") [] ∷ start_tag (codes "svg") [] ∷ start_tag (codes "desc") [] ∷ start_tag (codes "p") [] ∷ start_tag (codes "svg") [] ∷ start_tag (codes "g") [] ∷ end_tag (codes "div") ∷ Text (codes "x") ∷ Text [] ∷ End ∷ []))
    -- a foreign end tag in mixed case: "<svg><foreignObject><p></foreignobject><path>"
    ∷ (document false (start_tag (codes "svg") [] ∷ start_tag (codes "foreignobject") [] ∷ start_tag (codes "p") [] ∷ end_tag (codes "foreignobject") ∷ start_tag (codes "path") [] ∷ End ∷ []))
    -- table text goes before the table as a whole: "<table><tr>a b<td>c"
    ∷ (document false (start_tag (codes "table") [] ∷ start_tag (codes "tr") [] ∷ Text (codes "a b") ∷ start_tag (codes "td") [] ∷ Text (codes "c") ∷ Text [] ∷ End ∷ []))
    -- white space in a table stays, unless other text is with it: "<table> <tr> x "
    ∷ (document false (start_tag (codes "table") [] ∷ Text (codes " ") ∷ start_tag (codes "tr") [] ∷ Text (codes " x ") ∷ Text [] ∷ End ∷ []))
    -- table text in a template: "<table><template>x<td>y</template>"
    ∷ (document false (start_tag (codes "table") [] ∷ start_tag (codes "template") [] ∷ Text (codes "x") ∷ start_tag (codes "td") [] ∷ Text (codes "y") ∷ end_tag (codes "template") ∷ End ∷ []))
    -- a head that has ended takes a script: "<head></head><script>x</script><title>y</title>z"
    ∷ (document false (start_tag (codes "head") [] ∷ end_tag (codes "head") ∷ start_tag (codes "script") [] ∷ Text (codes "x") ∷ end_tag (codes "script") ∷ start_tag (codes "title") [] ∷ Text (codes "y") ∷ end_tag (codes "title") ∷ Text (codes "z") ∷ Text [] ∷ End ∷ []))
    -- a form is closed within a block: "<form><div></form>x"
    ∷ (document false (start_tag (codes "form") [] ∷ start_tag (codes "div") [] ∷ end_tag (codes "form") ∷ Text (codes "x") ∷ Text [] ∷ End ∷ []))
    ∷ []

trees_74 : List (List ℕ)
trees_74 =
    (codes "| <html>\n|   <head>\n|   <body>\n|     <p>\n|       <b>\n|         <b>\n|           <b>\n|             <b>\n|     <p>\n|       <b>\n|         <b>\n|           <b>\n|             \"x\"\n")
    ∷ (codes "| <html>\n|   <head>\n|   <body>\n|     <p>\n|       <b>\n|         class=\"1\"\n|         id=\"a\"\n|         <b>\n|           class=\"1\"\n|           id=\"a\"\n|           <b>\n|             class=\"1\"\n|             id=\"a\"\n|             <b>\n|               class=\"1\"\n|               id=\"a\"\n|     <p>\n|       <b>\n|         class=\"1\"\n|         id=\"a\"\n|         <b>\n|           class=\"1\"\n|           id=\"a\"\n|           <b>\n|             class=\"1\"\n|             id=\"a\"\n|             \"x\"\n")
    ∷ (codes "| <html>\n|   <head>\n|   <body>\n|     <p>\n|       <b>\n|         class=\"1\"\n|         <b>\n|           class=\"2\"\n|           <b>\n|             class=\"1\"\n|             <b>\n|     <p>\n|       <b>\n|         class=\"1\"\n|         <b>\n|           class=\"2\"\n|           <b>\n|             class=\"1\"\n|             <b>\n|               \"x\"\n")
    ∷ (codes "| <html>\n|   <head>\n|   <body>\n|     <b>\n|       <object>\n|         \"xy\"\n|       \"z\"\n")
    ∷ (codes "| <html>\n|   <head>\n|   <body>\n|     <b>\n|       <b>\n|         <b>\n|           <b>\n|     \"x\"\n")
    ∷ (codes "| <html>\n|   <head>\n|   <body>\n|     <div>\n|       <svg svg>\n|         <svg desc>\n|           <p>\n|             <svg svg>\n|               <svg g>\n|                 \"x\"\n")
    ∷ (codes "| <html>\n|   <head>\n|   <body>\n|     <svg svg>\n|       <svg foreignObject>\n|         <p>\n|           <path>\n")
    ∷ (codes "| <html>\n|   <head>\n|   <body>\n|     \"a b\"\n|     <table>\n|       <tbody>\n|         <tr>\n|           <td>\n|             \"c\"\n")
    ∷ (codes "| <html>\n|   <head>\n|   <body>\n|     \" x \"\n|     <table>\n|       \" \"\n|       <tbody>\n|         <tr>\n")
    ∷ (codes "| <html>\n|   <head>\n|   <body>\n|     <table>\n|       <template>\n|         content\n|           \"x\"\n|           <td>\n|             \"y\"\n")
    ∷ (codes "| <html>\n|   <head>\n|     <script>\n|       \"x\"\n|     <title>\n|       \"y\"\n|   <body>\n|     \"z\"\n")
    ∷ (codes "| <html>\n|   <head>\n|   <body>\n|     <form>\n|       <div>\n|         \"x\"\n")
    ∷ []

built_74 : map shown_of rows_74 ≡ trees_74
unfolding rows_74 trees_74 adjusted_attributes adjusted_name adjusted_tag_name cased foreign_attributes math_attribute_names svg_attribute_names svg_tag_names added_after adopted ended_by entry_of furthest_block inner_loop nth_open opened_inside opened_outside outer_loop replaced process run start step told_all begins_with begins_with_one html_4_01_beginnings limited_quirks_beginnings means_limited_quirks means_quirks quirks_beginnings quirks_public_ids quirks_system_ids added_before built changed has_one_like lacking row_of tree_from without_node foreign_end are_among cleared count_after_marker count_alike has_attribute_like has_entry last_named reopened still_listed to_reopen with_entry without_earliest without_entry without_oldest item_met all_names breaks_out ends_scope ends_table_scope has_such is_among is_body_context is_formatting is_fostering is_implied is_implied_thoroughly is_listed is_row_context is_special kind_in kind_in_namespace kind_of may_stay_open namespace_of first_open foster_place_in has_in_scope has_open popped_to_first_in popped_until_in popped_while_in second_body without_open mode_of flushed_as_space flushed_fostered is_all_space mode_of_request reply_of value_of among attribute_lines comes_before indent shown shown_of sorted
built_74 = refl

rows_75 : List Case
rows_75 =
    -- a form in a template: "<form><template><form><input></form></template><input></form>"
    (document false (start_tag (codes "form") [] ∷ start_tag (codes "template") [] ∷ start_tag (codes "form") [] ∷ start_tag (codes "input") [] ∷ end_tag (codes "form") ∷ end_tag (codes "template") ∷ start_tag (codes "input") [] ∷ end_tag (codes "form") ∷ End ∷ []))
    -- the p is closed also after an item: "<li><p><li><p>x<dd><p><dt>y"
    ∷ (document false (start_tag (codes "li") [] ∷ start_tag (codes "p") [] ∷ start_tag (codes "li") [] ∷ start_tag (codes "p") [] ∷ Text (codes "x") ∷ start_tag (codes "dd") [] ∷ start_tag (codes "p") [] ∷ start_tag (codes "dt") [] ∷ Text (codes "y") ∷ Text [] ∷ End ∷ []))
    -- address, div and p don't end the search for an item: "<li><address><div><p><li>x"
    ∷ (document false (start_tag (codes "li") [] ∷ start_tag (codes "address") [] ∷ start_tag (codes "div") [] ∷ start_tag (codes "p") [] ∷ start_tag (codes "li") [] ∷ Text (codes "x") ∷ Text [] ∷ End ∷ []))
    -- a cell as context: "x<td>y</td><td>z"
    ∷ (fragment false Html (codes "td") [] (Text (codes "x") ∷ start_tag (codes "td") [] ∷ Text (codes "y") ∷ end_tag (codes "td") ∷ start_tag (codes "td") [] ∷ Text (codes "z") ∷ Text [] ∷ End ∷ []))
    -- a head as context: "<title>x</title><p>y"
    ∷ (fragment false Html (codes "head") [] (start_tag (codes "title") [] ∷ Text (codes "x") ∷ end_tag (codes "title") ∷ start_tag (codes "p") [] ∷ Text (codes "y") ∷ Text [] ∷ End ∷ []))
    -- a row as context: "<td>x</tr><td>y"
    ∷ (fragment false Html (codes "tr") [] (start_tag (codes "td") [] ∷ Text (codes "x") ∷ end_tag (codes "tr") ∷ start_tag (codes "td") [] ∷ Text (codes "y") ∷ Text [] ∷ End ∷ []))
    -- a template as context: "<tr><td>x"
    ∷ (fragment false Html (codes "template") [] (start_tag (codes "tr") [] ∷ start_tag (codes "td") [] ∷ Text (codes "x") ∷ Text [] ∷ End ∷ []))
    -- an image is processed again: "<image src=x/>y"
    ∷ (document false (start_tag (codes "image") (attribute (codes "src") (codes "x/") ∷ []) ∷ Text (codes "y") ∷ Text [] ∷ End ∷ []))
    -- a line feed is ignored once: "<pre>\n\nx</pre><textarea>\n\ny</textarea><listing>\nz"
    ∷ (document false (start_tag (codes "pre") [] ∷ Text (codes "\n\nx") ∷ end_tag (codes "pre") ∷ start_tag (codes "textarea") [] ∷ Text (codes "\n\ny") ∷ end_tag (codes "textarea") ∷ start_tag (codes "listing") [] ∷ Text (codes "\nz") ∷ Text [] ∷ End ∷ []))
    -- a NUL ends the wait for a line feed: "<pre>\u0000\nx"
    ∷ (document false (start_tag (codes "pre") [] ∷ Null ∷ Text (codes "\nx") ∷ Text [] ∷ End ∷ []))
    -- quirks: a table in a p: "<p><table>"
    ∷ (document false (start_tag (codes "p") [] ∷ start_tag (codes "table") [] ∷ End ∷ []))
    -- no quirks: a table closes the p: "<!DOCTYPE html><p><table>"
    ∷ (document false (Doctype (record { name = (Some (codes "html")); public_id = None; system_id = None; force_quirks = false }) ∷ start_tag (codes "p") [] ∷ start_tag (codes "table") [] ∷ End ∷ []))
    ∷ []

trees_75 : List (List ℕ)
trees_75 =
    (codes "| <html>\n|   <head>\n|   <body>\n|     <form>\n|       <template>\n|         content\n|           <form>\n|             <input>\n|       <input>\n")
    ∷ (codes "| <html>\n|   <head>\n|   <body>\n|     <li>\n|       <p>\n|     <li>\n|       <p>\n|         \"x\"\n|       <dd>\n|         <p>\n|       <dt>\n|         \"y\"\n")
    ∷ (codes "| <html>\n|   <head>\n|   <body>\n|     <li>\n|       <address>\n|         <div>\n|           <p>\n|     <li>\n|       \"x\"\n")
    ∷ (codes "| \"xyz\"\n")
    ∷ (codes "| <title>\n|   \"x\"\n| <p>\n|   \"y\"\n")
    ∷ (codes "| <td>\n|   \"x\"\n| <td>\n|   \"y\"\n")
    ∷ (codes "| <tr>\n|   <td>\n|     \"x\"\n")
    ∷ (codes "| <html>\n|   <head>\n|   <body>\n|     <img>\n|       src=\"x/\"\n|     \"y\"\n")
    ∷ (codes "| <html>\n|   <head>\n|   <body>\n|     <pre>\n|       \"\nx\"\n|     <textarea>\n|       \"\ny\"\n|     <listing>\n|       \"z\"\n")
    ∷ (codes "| <html>\n|   <head>\n|   <body>\n|     <pre>\n|       \"\nx\"\n")
    ∷ (codes "| <html>\n|   <head>\n|   <body>\n|     <p>\n|       <table>\n")
    ∷ (codes "| <!DOCTYPE html>\n| <html>\n|   <head>\n|   <body>\n|     <p>\n|     <table>\n")
    ∷ []

built_75 : map shown_of rows_75 ≡ trees_75
unfolding rows_75 trees_75 adjusted_attributes adjusted_name adjusted_tag_name cased foreign_attributes math_attribute_names svg_attribute_names svg_tag_names added_after adopted ended_by entry_of furthest_block inner_loop nth_open opened_inside opened_outside outer_loop replaced process run start step told_all begins_with begins_with_one html_4_01_beginnings limited_quirks_beginnings means_limited_quirks means_quirks quirks_beginnings quirks_public_ids quirks_system_ids added_before built changed has_one_like lacking row_of tree_from without_node foreign_end are_among cleared count_after_marker count_alike has_attribute_like has_entry last_named reopened still_listed to_reopen with_entry without_earliest without_entry without_oldest item_met all_names breaks_out ends_scope ends_table_scope has_such is_among is_body_context is_formatting is_fostering is_implied is_implied_thoroughly is_listed is_row_context is_special kind_in kind_in_namespace kind_of may_stay_open namespace_of first_open foster_place_in has_in_scope has_open popped_to_first_in popped_until_in popped_while_in second_body without_open mode_of flushed_as_space flushed_fostered is_all_space mode_of_request reply_of value_of among attribute_lines comes_before indent shown shown_of sorted
built_75 = refl

rows_76 : List Case
rows_76 =
    -- limited quirks: "<!DOCTYPE html PUBLIC '-//W3C//DTD XHTML 1.0 Transitional//EN'><p><table>"
    (document false (Doctype (record { name = (Some (codes "html")); public_id = (Some (codes "-//W3C//DTD XHTML 1.0 Transitional//EN")); system_id = None; force_quirks = false }) ∷ start_tag (codes "p") [] ∷ start_tag (codes "table") [] ∷ End ∷ []))
    -- frameset after a body that is still empty: "<p></p><frameset><frame>"
    ∷ (document false (start_tag (codes "p") [] ∷ end_tag (codes "p") ∷ start_tag (codes "frameset") [] ∷ start_tag (codes "frame") [] ∷ End ∷ []))
    -- frameset after text: "x<frameset>"
    ∷ (document false (Text (codes "x") ∷ start_tag (codes "frameset") [] ∷ End ∷ []))
    -- foreign attributes are adjusted: "<svg viewbox=v xlink:href=h xml:lang=l xmlns:xlink=w><math definitionurl=d xlink:type=t>"
    ∷ (document false (start_tag (codes "svg") (attribute (codes "viewbox") (codes "v") ∷ attribute (codes "xlink:href") (codes "h") ∷ attribute (codes "xml:lang") (codes "l") ∷ attribute (codes "xmlns:xlink") (codes "w") ∷ []) ∷ start_tag (codes "math") (attribute (codes "definitionurl") (codes "d") ∷ attribute (codes "xlink:type") (codes "t") ∷ []) ∷ End ∷ []))
    -- tag names of SVG are adjusted: "<svg><lineargradient/><foreignobject/><clippath>"
    ∷ (document false (start_tag (codes "svg") [] ∷ closed_tag (codes "lineargradient") [] ∷ closed_tag (codes "foreignobject") [] ∷ start_tag (codes "clippath") [] ∷ End ∷ []))
    -- annotation-xml with an encoding: "<math><annotation-xml encoding=text/HTML><div>x"
    ∷ (document false (start_tag (codes "math") [] ∷ start_tag (codes "annotation-xml") (attribute (codes "encoding") (codes "text/HTML") ∷ []) ∷ start_tag (codes "div") [] ∷ Text (codes "x") ∷ Text [] ∷ End ∷ []))
    -- annotation-xml without one: "<math><annotation-xml><div>x"
    ∷ (document false (start_tag (codes "math") [] ∷ start_tag (codes "annotation-xml") [] ∷ start_tag (codes "div") [] ∷ Text (codes "x") ∷ Text [] ∷ End ∷ []))
    -- font with and without attributes that break out: "<svg><font id=x><font color=y>z"
    ∷ (document false (start_tag (codes "svg") [] ∷ start_tag (codes "font") (attribute (codes "id") (codes "x") ∷ []) ∷ start_tag (codes "font") (attribute (codes "color") (codes "y") ∷ []) ∷ Text (codes "z") ∷ Text [] ∷ End ∷ []))
    -- a section after text that opens an element again: "<math><mi><p><b></p>x<![CDATA[y]]>"
    ∷ (document false (start_tag (codes "math") [] ∷ start_tag (codes "mi") [] ∷ start_tag (codes "p") [] ∷ start_tag (codes "b") [] ∷ end_tag (codes "p") ∷ Text (codes "x") ∷ Text [] ∷ Comment (codes "[CDATA[y]]") ∷ End ∷ []))
    -- a section in foreign content: "<svg><![CDATA[<p>]]></svg><![CDATA[x]]>"
    ∷ (document false (start_tag (codes "svg") [] ∷ Text (codes "<p>") ∷ end_tag (codes "svg") ∷ Comment (codes "[CDATA[x]]") ∷ End ∷ []))
    -- templates at the end: "<template><table><template><td>"
    ∷ (document false (start_tag (codes "template") [] ∷ start_tag (codes "table") [] ∷ start_tag (codes "template") [] ∷ start_tag (codes "td") [] ∷ End ∷ []))
    -- select holds other elements: "<select><div><option>x<p>y<optgroup>z</select>w"
    ∷ (document false (start_tag (codes "select") [] ∷ start_tag (codes "div") [] ∷ start_tag (codes "option") [] ∷ Text (codes "x") ∷ start_tag (codes "p") [] ∷ Text (codes "y") ∷ start_tag (codes "optgroup") [] ∷ Text (codes "z") ∷ end_tag (codes "select") ∷ Text (codes "w") ∷ Text [] ∷ End ∷ []))
    ∷ []

trees_76 : List (List ℕ)
trees_76 =
    (codes "| <!DOCTYPE html \"-//W3C//DTD XHTML 1.0 Transitional//EN\" \"\">\n| <html>\n|   <head>\n|   <body>\n|     <p>\n|     <table>\n")
    ∷ (codes "| <html>\n|   <head>\n|   <frameset>\n|     <frame>\n")
    ∷ (codes "| <html>\n|   <head>\n|   <body>\n|     \"x\"\n")
    ∷ (codes "| <html>\n|   <head>\n|   <body>\n|     <svg svg>\n|       viewBox=\"v\"\n|       xlink href=\"h\"\n|       xml lang=\"l\"\n|       xmlns xlink=\"w\"\n|       <svg math>\n|         definitionurl=\"d\"\n|         xlink type=\"t\"\n")
    ∷ (codes "| <html>\n|   <head>\n|   <body>\n|     <svg svg>\n|       <svg linearGradient>\n|       <svg foreignObject>\n|       <svg clipPath>\n")
    ∷ (codes "| <html>\n|   <head>\n|   <body>\n|     <math math>\n|       <math annotation-xml>\n|         encoding=\"text/HTML\"\n|         <div>\n|           \"x\"\n")
    ∷ (codes "| <html>\n|   <head>\n|   <body>\n|     <math math>\n|       <math annotation-xml>\n|     <div>\n|       \"x\"\n")
    ∷ (codes "| <html>\n|   <head>\n|   <body>\n|     <svg svg>\n|       <svg font>\n|         id=\"x\"\n|     <font>\n|       color=\"y\"\n|       \"z\"\n")
    ∷ (codes "| <html>\n|   <head>\n|   <body>\n|     <math math>\n|       <math mi>\n|         <p>\n|           <b>\n|         <b>\n|           \"x\"\n|           <!-- [CDATA[y]] -->\n")
    ∷ (codes "| <html>\n|   <head>\n|   <body>\n|     <svg svg>\n|       \"<p>\"\n|     <!-- [CDATA[x]] -->\n")
    ∷ (codes "| <html>\n|   <head>\n|     <template>\n|       content\n|         <table>\n|           <template>\n|             content\n|               <td>\n|   <body>\n")
    ∷ (codes "| <html>\n|   <head>\n|   <body>\n|     <select>\n|       <div>\n|         <option>\n|           \"x\"\n|           <p>\n|             \"y\"\n|         <optgroup>\n|           \"z\"\n|     \"w\"\n")
    ∷ []

built_76 : map shown_of rows_76 ≡ trees_76
unfolding rows_76 trees_76 adjusted_attributes adjusted_name adjusted_tag_name cased foreign_attributes math_attribute_names svg_attribute_names svg_tag_names added_after adopted ended_by entry_of furthest_block inner_loop nth_open opened_inside opened_outside outer_loop replaced process run start step told_all begins_with begins_with_one html_4_01_beginnings limited_quirks_beginnings means_limited_quirks means_quirks quirks_beginnings quirks_public_ids quirks_system_ids added_before built changed has_one_like lacking row_of tree_from without_node foreign_end are_among cleared count_after_marker count_alike has_attribute_like has_entry last_named reopened still_listed to_reopen with_entry without_earliest without_entry without_oldest item_met all_names breaks_out ends_scope ends_table_scope has_such is_among is_body_context is_formatting is_fostering is_implied is_implied_thoroughly is_listed is_row_context is_special kind_in kind_in_namespace kind_of may_stay_open namespace_of first_open foster_place_in has_in_scope has_open popped_to_first_in popped_until_in popped_while_in second_body without_open mode_of flushed_as_space flushed_fostered is_all_space mode_of_request reply_of value_of among attribute_lines comes_before indent shown shown_of sorted
built_76 = refl

rows_77 : List Case
rows_77 =
    -- a select in a select ends it: "<select><option>x<select>y"
    (document false (start_tag (codes "select") [] ∷ start_tag (codes "option") [] ∷ Text (codes "x") ∷ start_tag (codes "select") [] ∷ Text (codes "y") ∷ Text [] ∷ End ∷ []))
    -- an input ends a select: "<select><option>x<input>y"
    ∷ (document false (start_tag (codes "select") [] ∷ start_tag (codes "option") [] ∷ Text (codes "x") ∷ start_tag (codes "input") [] ∷ Text (codes "y") ∷ Text [] ∷ End ∷ []))
    -- an hr in a select: "<select><option>x<hr><option>y"
    ∷ (document false (start_tag (codes "select") [] ∷ start_tag (codes "option") [] ∷ Text (codes "x") ∷ start_tag (codes "hr") [] ∷ start_tag (codes "option") [] ∷ Text (codes "y") ∷ Text [] ∷ End ∷ []))
    -- ruby: "<ruby>a<rb>b<rt>c<rtc>d<rp>e<rt>f<rb>g"
    ∷ (document false (start_tag (codes "ruby") [] ∷ Text (codes "a") ∷ start_tag (codes "rb") [] ∷ Text (codes "b") ∷ start_tag (codes "rt") [] ∷ Text (codes "c") ∷ start_tag (codes "rtc") [] ∷ Text (codes "d") ∷ start_tag (codes "rp") [] ∷ Text (codes "e") ∷ start_tag (codes "rt") [] ∷ Text (codes "f") ∷ start_tag (codes "rb") [] ∷ Text (codes "g") ∷ Text [] ∷ End ∷ []))
    -- noscript in a head, scripting off: "<head><noscript><link><p>x"
    ∷ (document false (start_tag (codes "head") [] ∷ start_tag (codes "noscript") [] ∷ start_tag (codes "link") [] ∷ start_tag (codes "p") [] ∷ Text (codes "x") ∷ Text [] ∷ End ∷ []))
    -- noscript in a head, scripting on: "<head><noscript><link><p>x</noscript>y"
    ∷ (document true (start_tag (codes "head") [] ∷ start_tag (codes "noscript") [] ∷ Text (codes "<link><p>x") ∷ end_tag (codes "noscript") ∷ Text (codes "y") ∷ Text [] ∷ End ∷ []))
    -- search and dialog close a p: "<p>a<search>b<p>c<dialog>d"
    ∷ (document false (start_tag (codes "p") [] ∷ Text (codes "a") ∷ start_tag (codes "search") [] ∷ Text (codes "b") ∷ start_tag (codes "p") [] ∷ Text (codes "c") ∷ start_tag (codes "dialog") [] ∷ Text (codes "d") ∷ Text [] ∷ End ∷ []))
    -- text after the body: "<body>x</body>y</html>z"
    ∷ (document false (start_tag (codes "body") [] ∷ Text (codes "x") ∷ end_tag (codes "body") ∷ Text (codes "y") ∷ end_tag (codes "html") ∷ Text (codes "z") ∷ Text [] ∷ End ∷ []))
    -- comments around: "<!--a--><html><!--b--><head><!--c--></head><!--d--><body><!--e--></body><!--f--></html><!--g-->"
    ∷ (document false (Comment (codes "a") ∷ start_tag (codes "html") [] ∷ Comment (codes "b") ∷ start_tag (codes "head") [] ∷ Comment (codes "c") ∷ end_tag (codes "head") ∷ Comment (codes "d") ∷ start_tag (codes "body") [] ∷ Comment (codes "e") ∷ end_tag (codes "body") ∷ Comment (codes "f") ∷ end_tag (codes "html") ∷ Comment (codes "g") ∷ End ∷ []))
    -- an html start tag adds what is missing: "<html class=1><html class=2 id=a><body id=b><body class=3 id=c>"
    ∷ (document false (start_tag (codes "html") (attribute (codes "class") (codes "1") ∷ []) ∷ start_tag (codes "html") (attribute (codes "class") (codes "2") ∷ attribute (codes "id") (codes "a") ∷ []) ∷ start_tag (codes "body") (attribute (codes "id") (codes "b") ∷ []) ∷ start_tag (codes "body") (attribute (codes "class") (codes "3") ∷ attribute (codes "id") (codes "c") ∷ []) ∷ End ∷ []))
    -- an anchor in a table in an anchor: "<a href=1><table><a href=2>x</a><td>y"
    ∷ (document false (start_tag (codes "a") (attribute (codes "href") (codes "1") ∷ []) ∷ start_tag (codes "table") [] ∷ start_tag (codes "a") (attribute (codes "href") (codes "2") ∷ []) ∷ Text (codes "x") ∷ end_tag (codes "a") ∷ start_tag (codes "td") [] ∷ Text (codes "y") ∷ Text [] ∷ End ∷ []))
    -- misnested tags: b and i: "<p>1<b>2<i>3</b>4</i>5</p>"
    ∷ (document false (start_tag (codes "p") [] ∷ Text (codes "1") ∷ start_tag (codes "b") [] ∷ Text (codes "2") ∷ start_tag (codes "i") [] ∷ Text (codes "3") ∷ end_tag (codes "b") ∷ Text (codes "4") ∷ end_tag (codes "i") ∷ Text (codes "5") ∷ end_tag (codes "p") ∷ End ∷ []))
    ∷ []

trees_77 : List (List ℕ)
trees_77 =
    (codes "| <html>\n|   <head>\n|   <body>\n|     <select>\n|       <option>\n|         \"x\"\n|     \"y\"\n")
    ∷ (codes "| <html>\n|   <head>\n|   <body>\n|     <select>\n|       <option>\n|         \"x\"\n|     <input>\n|     \"y\"\n")
    ∷ (codes "| <html>\n|   <head>\n|   <body>\n|     <select>\n|       <option>\n|         \"x\"\n|       <hr>\n|       <option>\n|         \"y\"\n")
    ∷ (codes "| <html>\n|   <head>\n|   <body>\n|     <ruby>\n|       \"a\"\n|       <rb>\n|         \"b\"\n|       <rt>\n|         \"c\"\n|       <rtc>\n|         \"d\"\n|         <rp>\n|           \"e\"\n|         <rt>\n|           \"f\"\n|       <rb>\n|         \"g\"\n")
    ∷ (codes "| <html>\n|   <head>\n|     <noscript>\n|       <link>\n|   <body>\n|     <p>\n|       \"x\"\n")
    ∷ (codes "| <html>\n|   <head>\n|     <noscript>\n|       \"<link><p>x\"\n|   <body>\n|     \"y\"\n")
    ∷ (codes "| <html>\n|   <head>\n|   <body>\n|     <p>\n|       \"a\"\n|     <search>\n|       \"b\"\n|       <p>\n|         \"c\"\n|       <dialog>\n|         \"d\"\n")
    ∷ (codes "| <html>\n|   <head>\n|   <body>\n|     \"xyz\"\n")
    ∷ (codes "| <!-- a -->\n| <html>\n|   <!-- b -->\n|   <head>\n|     <!-- c -->\n|   <!-- d -->\n|   <body>\n|     <!-- e -->\n|   <!-- f -->\n| <!-- g -->\n")
    ∷ (codes "| <html>\n|   class=\"1\"\n|   id=\"a\"\n|   <head>\n|   <body>\n|     class=\"3\"\n|     id=\"b\"\n")
    ∷ (codes "| <html>\n|   <head>\n|   <body>\n|     <a>\n|       href=\"1\"\n|       <a>\n|         href=\"2\"\n|         \"x\"\n|       <table>\n|         <tbody>\n|           <tr>\n|             <td>\n|               \"y\"\n")
    ∷ (codes "| <html>\n|   <head>\n|   <body>\n|     <p>\n|       \"1\"\n|       <b>\n|         \"2\"\n|         <i>\n|           \"3\"\n|       <i>\n|         \"4\"\n|       \"5\"\n")
    ∷ []

built_77 : map shown_of rows_77 ≡ trees_77
unfolding rows_77 trees_77 adjusted_attributes adjusted_name adjusted_tag_name cased foreign_attributes math_attribute_names svg_attribute_names svg_tag_names added_after adopted ended_by entry_of furthest_block inner_loop nth_open opened_inside opened_outside outer_loop replaced process run start step told_all begins_with begins_with_one html_4_01_beginnings limited_quirks_beginnings means_limited_quirks means_quirks quirks_beginnings quirks_public_ids quirks_system_ids added_before built changed has_one_like lacking row_of tree_from without_node foreign_end are_among cleared count_after_marker count_alike has_attribute_like has_entry last_named reopened still_listed to_reopen with_entry without_earliest without_entry without_oldest item_met all_names breaks_out ends_scope ends_table_scope has_such is_among is_body_context is_formatting is_fostering is_implied is_implied_thoroughly is_listed is_row_context is_special kind_in kind_in_namespace kind_of may_stay_open namespace_of first_open foster_place_in has_in_scope has_open popped_to_first_in popped_until_in popped_while_in second_body without_open mode_of flushed_as_space flushed_fostered is_all_space mode_of_request reply_of value_of among attribute_lines comes_before indent shown shown_of sorted
built_77 = refl

rows_78 : List Case
rows_78 =
    -- misnested tags: b and p: "<b>1<p>2</b>3</p>"
    (document false (start_tag (codes "b") [] ∷ Text (codes "1") ∷ start_tag (codes "p") [] ∷ Text (codes "2") ∷ end_tag (codes "b") ∷ Text (codes "3") ∷ end_tag (codes "p") ∷ End ∷ []))
    -- unexpected markup in tables: "<table><b><tr><td>aaa</td></tr>bbb</table>ccc"
    ∷ (document false (start_tag (codes "table") [] ∷ start_tag (codes "b") [] ∷ start_tag (codes "tr") [] ∷ start_tag (codes "td") [] ∷ Text (codes "aaa") ∷ end_tag (codes "td") ∷ end_tag (codes "tr") ∷ Text (codes "bbb") ∷ end_tag (codes "table") ∷ Text (codes "ccc") ∷ Text [] ∷ End ∷ []))
    -- formatting elements that stay open: "<!DOCTYPE html><p><b class=x><b class=x><b><b class=x><b class=x><b>X<p>X<p><b><b class=x><b>X<p></b></b></b></b></b></b>X"
    ∷ (document false (Doctype (record { name = (Some (codes "html")); public_id = None; system_id = None; force_quirks = false }) ∷ start_tag (codes "p") [] ∷ start_tag (codes "b") (attribute (codes "class") (codes "x") ∷ []) ∷ start_tag (codes "b") (attribute (codes "class") (codes "x") ∷ []) ∷ start_tag (codes "b") [] ∷ start_tag (codes "b") (attribute (codes "class") (codes "x") ∷ []) ∷ start_tag (codes "b") (attribute (codes "class") (codes "x") ∷ []) ∷ start_tag (codes "b") [] ∷ Text (codes "X") ∷ start_tag (codes "p") [] ∷ Text (codes "X") ∷ start_tag (codes "p") [] ∷ start_tag (codes "b") [] ∷ start_tag (codes "b") (attribute (codes "class") (codes "x") ∷ []) ∷ start_tag (codes "b") [] ∷ Text (codes "X") ∷ start_tag (codes "p") [] ∷ end_tag (codes "b") ∷ end_tag (codes "b") ∷ end_tag (codes "b") ∷ end_tag (codes "b") ∷ end_tag (codes "b") ∷ end_tag (codes "b") ∷ Text (codes "X") ∷ Text [] ∷ End ∷ []))
    -- a table in a p, without a doctype: "<p>1<table>2<td><b>3</p>4"
    ∷ (document false (start_tag (codes "p") [] ∷ Text (codes "1") ∷ start_tag (codes "table") [] ∷ Text (codes "2") ∷ start_tag (codes "td") [] ∷ start_tag (codes "b") [] ∷ Text (codes "3") ∷ end_tag (codes "p") ∷ Text (codes "4") ∷ Text [] ∷ End ∷ []))
    -- the bookmark of the adoption agency: "<!DOCTYPE html><a><div><div><div><em><div><i><section><section><div><div><p>y<p></a>y</div>yz"
    ∷ (document false (Doctype (record { name = (Some (codes "html")); public_id = None; system_id = None; force_quirks = false }) ∷ start_tag (codes "a") [] ∷ start_tag (codes "div") [] ∷ start_tag (codes "div") [] ∷ start_tag (codes "div") [] ∷ start_tag (codes "em") [] ∷ start_tag (codes "div") [] ∷ start_tag (codes "i") [] ∷ start_tag (codes "section") [] ∷ start_tag (codes "section") [] ∷ start_tag (codes "div") [] ∷ start_tag (codes "div") [] ∷ start_tag (codes "p") [] ∷ Text (codes "y") ∷ start_tag (codes "p") [] ∷ end_tag (codes "a") ∷ Text (codes "y") ∷ end_tag (codes "div") ∷ Text (codes "yz") ∷ Text [] ∷ End ∷ []))
    -- the bookmark of the adoption agency: "<!DOCTYPE html><a><u><div><p><div><div><section><div><div><em><section><div><a><em></div><a>yxz"
    ∷ (document false (Doctype (record { name = (Some (codes "html")); public_id = None; system_id = None; force_quirks = false }) ∷ start_tag (codes "a") [] ∷ start_tag (codes "u") [] ∷ start_tag (codes "div") [] ∷ start_tag (codes "p") [] ∷ start_tag (codes "div") [] ∷ start_tag (codes "div") [] ∷ start_tag (codes "section") [] ∷ start_tag (codes "div") [] ∷ start_tag (codes "div") [] ∷ start_tag (codes "em") [] ∷ start_tag (codes "section") [] ∷ start_tag (codes "div") [] ∷ start_tag (codes "a") [] ∷ start_tag (codes "em") [] ∷ end_tag (codes "div") ∷ start_tag (codes "a") [] ∷ Text (codes "yxz") ∷ Text [] ∷ End ∷ []))
    -- the bookmark of the adoption agency: "<!DOCTYPE html><u><a><em><section><em><section><u><p><div><s><div><div><i><div><div><p><a></div>z"
    ∷ (document false (Doctype (record { name = (Some (codes "html")); public_id = None; system_id = None; force_quirks = false }) ∷ start_tag (codes "u") [] ∷ start_tag (codes "a") [] ∷ start_tag (codes "em") [] ∷ start_tag (codes "section") [] ∷ start_tag (codes "em") [] ∷ start_tag (codes "section") [] ∷ start_tag (codes "u") [] ∷ start_tag (codes "p") [] ∷ start_tag (codes "div") [] ∷ start_tag (codes "s") [] ∷ start_tag (codes "div") [] ∷ start_tag (codes "div") [] ∷ start_tag (codes "i") [] ∷ start_tag (codes "div") [] ∷ start_tag (codes "div") [] ∷ start_tag (codes "p") [] ∷ start_tag (codes "a") [] ∷ end_tag (codes "div") ∷ Text (codes "z") ∷ Text [] ∷ End ∷ []))
    -- a caption has a marker: "<p><b><table><caption>y</caption></table></p>x"
    ∷ (document false (start_tag (codes "p") [] ∷ start_tag (codes "b") [] ∷ start_tag (codes "table") [] ∷ start_tag (codes "caption") [] ∷ Text (codes "y") ∷ end_tag (codes "caption") ∷ end_tag (codes "table") ∷ end_tag (codes "p") ∷ Text (codes "x") ∷ Text [] ∷ End ∷ []))
    -- a doctype of another name: "<!DOCTYPE x><p><table>"
    ∷ (document false (Doctype (record { name = (Some (codes "x")); public_id = None; system_id = None; force_quirks = false }) ∷ start_tag (codes "p") [] ∷ start_tag (codes "table") [] ∷ End ∷ []))
    -- an object bounds the search for an open anchor: "<a href=1><object><a href=2>x</a></object>y"
    ∷ (document false (start_tag (codes "a") (attribute (codes "href") (codes "1") ∷ []) ∷ start_tag (codes "object") [] ∷ start_tag (codes "a") (attribute (codes "href") (codes "2") ∷ []) ∷ Text (codes "x") ∷ end_tag (codes "a") ∷ end_tag (codes "object") ∷ Text (codes "y") ∷ Text [] ∷ End ∷ []))
    -- a p breaks out of svg: "<svg><p>x"
    ∷ (document false (start_tag (codes "svg") [] ∷ start_tag (codes "p") [] ∷ Text (codes "x") ∷ Text [] ∷ End ∷ []))
    -- an end tag of svg in lower case: "<svg><foreignObject></foreignobject><path>"
    ∷ (document false (start_tag (codes "svg") [] ∷ start_tag (codes "foreignobject") [] ∷ end_tag (codes "foreignobject") ∷ start_tag (codes "path") [] ∷ End ∷ []))
    ∷ []

trees_78 : List (List ℕ)
trees_78 =
    (codes "| <html>\n|   <head>\n|   <body>\n|     <b>\n|       \"1\"\n|     <p>\n|       <b>\n|         \"2\"\n|       \"3\"\n")
    ∷ (codes "| <html>\n|   <head>\n|   <body>\n|     <b>\n|     <b>\n|       \"bbb\"\n|     <table>\n|       <tbody>\n|         <tr>\n|           <td>\n|             \"aaa\"\n|     <b>\n|       \"ccc\"\n")
    ∷ (codes "| <!DOCTYPE html>\n| <html>\n|   <head>\n|   <body>\n|     <p>\n|       <b>\n|         class=\"x\"\n|         <b>\n|           class=\"x\"\n|           <b>\n|             <b>\n|               class=\"x\"\n|               <b>\n|                 class=\"x\"\n|                 <b>\n|                   \"X\"\n|     <p>\n|       <b>\n|         class=\"x\"\n|         <b>\n|           <b>\n|             class=\"x\"\n|             <b>\n|               class=\"x\"\n|               <b>\n|                 \"X\"\n|     <p>\n|       <b>\n|         class=\"x\"\n|         <b>\n|           <b>\n|             class=\"x\"\n|             <b>\n|               class=\"x\"\n|               <b>\n|                 <b>\n|                   <b>\n|                     class=\"x\"\n|                     <b>\n|                       \"X\"\n|     <p>\n|       \"X\"\n")
    ∷ (codes "| <html>\n|   <head>\n|   <body>\n|     <p>\n|       \"12\"\n|       <table>\n|         <tbody>\n|           <tr>\n|             <td>\n|               <b>\n|                 \"3\"\n|                 <p>\n|                 \"4\"\n")
    ∷ (codes "| <!DOCTYPE html>\n| <html>\n|   <head>\n|   <body>\n|     <a>\n|     <div>\n|       <a>\n|       <div>\n|         <a>\n|         <div>\n|           <a>\n|             <em>\n|           <em>\n|             <div>\n|               <a>\n|                 <i>\n|               <i>\n|                 <section>\n|                   <a>\n|                   <section>\n|                     <a>\n|                     <div>\n|                       <a>\n|                       <div>\n|                         <a>\n|                           <p>\n|                             \"y\"\n|                           <p>\n|                             \"y\"\n|                       <a>\n|                         \"yz\"\n")
    ∷ (codes "| <!DOCTYPE html>\n| <html>\n|   <head>\n|   <body>\n|     <a>\n|       <u>\n|     <u>\n|       <div>\n|         <a>\n|           <p>\n|         <div>\n|           <a>\n|           <div>\n|             <a>\n|             <section>\n|               <a>\n|               <div>\n|                 <a>\n|                 <div>\n|                   <a>\n|                     <em>\n|                   <em>\n|                     <section>\n|                       <a>\n|                       <div>\n|                         <a>\n|                           <a>\n|                             <em>\n|                       <a>\n|                         <em>\n|                           <a>\n|                             \"yxz\"\n")
    ∷ (codes "| <!DOCTYPE html>\n| <html>\n|   <head>\n|   <body>\n|     <u>\n|       <a>\n|         <em>\n|       <em>\n|         <section>\n|           <a>\n|             <em>\n|           <em>\n|             <section>\n|               <a>\n|                 <u>\n|                   <p>\n|               <u>\n|                 <div>\n|                   <a>\n|                     <s>\n|                   <s>\n|                     <div>\n|                       <a>\n|                       <div>\n|                         <a>\n|                           <i>\n|                         <i>\n|                           <div>\n|                             <a>\n|                             <div>\n|                               <a>\n|                               <p>\n|                                 <a>\n|                                   <a>\n|                             <a>\n|                               <a>\n|                                 \"z\"\n")
    ∷ (codes "| <html>\n|   <head>\n|   <body>\n|     <p>\n|       <b>\n|         <table>\n|           <caption>\n|             \"y\"\n|     <b>\n|       \"x\"\n")
    ∷ (codes "| <!DOCTYPE x>\n| <html>\n|   <head>\n|   <body>\n|     <p>\n|       <table>\n")
    ∷ (codes "| <html>\n|   <head>\n|   <body>\n|     <a>\n|       href=\"1\"\n|       <object>\n|         <a>\n|           href=\"2\"\n|           \"x\"\n|       \"y\"\n")
    ∷ (codes "| <html>\n|   <head>\n|   <body>\n|     <svg svg>\n|     <p>\n|       \"x\"\n")
    ∷ (codes "| <html>\n|   <head>\n|   <body>\n|     <svg svg>\n|       <svg foreignObject>\n|       <svg path>\n")
    ∷ []

built_78 : map shown_of rows_78 ≡ trees_78
unfolding rows_78 trees_78 adjusted_attributes adjusted_name adjusted_tag_name cased foreign_attributes math_attribute_names svg_attribute_names svg_tag_names added_after adopted ended_by entry_of furthest_block inner_loop nth_open opened_inside opened_outside outer_loop replaced process run start step told_all begins_with begins_with_one html_4_01_beginnings limited_quirks_beginnings means_limited_quirks means_quirks quirks_beginnings quirks_public_ids quirks_system_ids added_before built changed has_one_like lacking row_of tree_from without_node foreign_end are_among cleared count_after_marker count_alike has_attribute_like has_entry last_named reopened still_listed to_reopen with_entry without_earliest without_entry without_oldest item_met all_names breaks_out ends_scope ends_table_scope has_such is_among is_body_context is_formatting is_fostering is_implied is_implied_thoroughly is_listed is_row_context is_special kind_in kind_in_namespace kind_of may_stay_open namespace_of first_open foster_place_in has_in_scope has_open popped_to_first_in popped_until_in popped_while_in second_body without_open mode_of flushed_as_space flushed_fostered is_all_space mode_of_request reply_of value_of among attribute_lines comes_before indent shown shown_of sorted
built_78 = refl

rows_79 : List Case
rows_79 =
    -- a template within a template: "<template><template></template><td>x"
    (document false (start_tag (codes "template") [] ∷ start_tag (codes "template") [] ∷ end_tag (codes "template") ∷ start_tag (codes "td") [] ∷ Text (codes "x") ∷ Text [] ∷ End ∷ []))
    -- a hidden input stays in a table: "<table><input type=Hidden><tr><input type=text>"
    ∷ (document false (start_tag (codes "table") [] ∷ start_tag (codes "input") (attribute (codes "type") (codes "Hidden") ∷ []) ∷ start_tag (codes "tr") [] ∷ start_tag (codes "input") (attribute (codes "type") (codes "text") ∷ []) ∷ End ∷ []))
    -- a second form is ignored: "<form id=a><p><form id=b>x</form>y"
    ∷ (document false (start_tag (codes "form") (attribute (codes "id") (codes "a") ∷ []) ∷ start_tag (codes "p") [] ∷ start_tag (codes "form") (attribute (codes "id") (codes "b") ∷ []) ∷ Text (codes "x") ∷ end_tag (codes "form") ∷ Text (codes "y") ∷ Text [] ∷ End ∷ []))
    -- a limit of the depth: "<div><p>x<b>y<i>z</i></b></div>w"
    ∷ (limited (Some 4) None (start_tag (codes "div") [] ∷ start_tag (codes "p") [] ∷ Text (codes "x") ∷ start_tag (codes "b") [] ∷ Text (codes "y") ∷ start_tag (codes "i") [] ∷ Text (codes "z") ∷ end_tag (codes "i") ∷ end_tag (codes "b") ∷ end_tag (codes "div") ∷ Text (codes "w") ∷ Text [] ∷ End ∷ []))
    -- a limit of the depth, with void elements and comments: "<div><div><div>x<br><!--c--><hr><p>y"
    ∷ (limited (Some 4) None (start_tag (codes "div") [] ∷ start_tag (codes "div") [] ∷ start_tag (codes "div") [] ∷ Text (codes "x") ∷ start_tag (codes "br") [] ∷ Comment (codes "c") ∷ start_tag (codes "hr") [] ∷ start_tag (codes "p") [] ∷ Text (codes "y") ∷ Text [] ∷ End ∷ []))
    -- a limit of formatting elements: "<p><b><i><u>x<p>y"
    ∷ (limited None (Some 2) (start_tag (codes "p") [] ∷ start_tag (codes "b") [] ∷ start_tag (codes "i") [] ∷ start_tag (codes "u") [] ∷ Text (codes "x") ∷ start_tag (codes "p") [] ∷ Text (codes "y") ∷ Text [] ∷ End ∷ []))
    -- a limit of formatting elements counts from the last marker: "<p><b><object><i><u>x</object><p>y"
    ∷ (limited None (Some 2) (start_tag (codes "p") [] ∷ start_tag (codes "b") [] ∷ start_tag (codes "object") [] ∷ start_tag (codes "i") [] ∷ start_tag (codes "u") [] ∷ Text (codes "x") ∷ end_tag (codes "object") ∷ start_tag (codes "p") [] ∷ Text (codes "y") ∷ Text [] ∷ End ∷ []))
    ∷ []

trees_79 : List (List ℕ)
trees_79 =
    (codes "| <html>\n|   <head>\n|     <template>\n|       content\n|         <template>\n|           content\n|         <td>\n|           \"x\"\n|   <body>\n")
    ∷ (codes "| <html>\n|   <head>\n|   <body>\n|     <input>\n|       type=\"text\"\n|     <table>\n|       <input>\n|         type=\"Hidden\"\n|       <tbody>\n|         <tr>\n")
    ∷ (codes "| <html>\n|   <head>\n|   <body>\n|     <form>\n|       id=\"a\"\n|       <p>\n|         \"x\"\n|     \"y\"\n")
    ∷ (codes "| <html>\n|   <head>\n|   <body>\n|     <div>\n|       <p>\n|         \"x\"\n|         <b>\n|           \"y\"\n|         <i>\n|           \"z\"\n|     \"w\"\n")
    ∷ (codes "| <html>\n|   <head>\n|   <body>\n|     <div>\n|       <div>\n|         <div>\n|           \"x\"\n|           <br>\n|           <!-- c -->\n|           <hr>\n|         <p>\n|           \"y\"\n")
    ∷ (codes "| <html>\n|   <head>\n|   <body>\n|     <p>\n|       <b>\n|         <i>\n|           <u>\n|             \"x\"\n|     <p>\n|       <i>\n|         <u>\n|           \"y\"\n")
    ∷ (codes "| <html>\n|   <head>\n|   <body>\n|     <p>\n|       <b>\n|         <object>\n|           <i>\n|             <u>\n|               \"x\"\n|     <p>\n|       <b>\n|         \"y\"\n")
    ∷ []

built_79 : map shown_of rows_79 ≡ trees_79
unfolding rows_79 trees_79 adjusted_attributes adjusted_name adjusted_tag_name cased foreign_attributes math_attribute_names svg_attribute_names svg_tag_names added_after adopted ended_by entry_of furthest_block inner_loop nth_open opened_inside opened_outside outer_loop replaced process run start step told_all begins_with begins_with_one html_4_01_beginnings limited_quirks_beginnings means_limited_quirks means_quirks quirks_beginnings quirks_public_ids quirks_system_ids added_before built changed has_one_like lacking row_of tree_from without_node foreign_end are_among cleared count_after_marker count_alike has_attribute_like has_entry last_named reopened still_listed to_reopen with_entry without_earliest without_entry without_oldest item_met all_names breaks_out ends_scope ends_table_scope has_such is_among is_body_context is_formatting is_fostering is_implied is_implied_thoroughly is_listed is_row_context is_special kind_in kind_in_namespace kind_of may_stay_open namespace_of first_open foster_place_in has_in_scope has_open popped_to_first_in popped_until_in popped_while_in second_body without_open mode_of flushed_as_space flushed_fostered is_all_space mode_of_request reply_of value_of among attribute_lines comes_before indent shown shown_of sorted
built_79 = refl
