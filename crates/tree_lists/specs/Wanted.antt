-- What is searched for among the open elements, and what ends a search, as tests of the definition.
use Rattle.std.specs.Prelude.{ℕ, Bool, ◌||◌}
use Rattle.tree_construction.specs.Names.{ends_scope, ends_list_scope, ends_button_scope, ends_table_scope, is_body, is_button, is_caption, is_cell, is_column_group, is_description, is_form, is_frameset, is_heading, is_list_item, is_no_break, is_option_group, is_paragraph, is_ruby, is_ruby_container, is_script, is_select, is_select_option, is_svg_script, is_table, is_table_body, is_table_row, is_template, takes_table_text}
use Rattle.tree_construction.specs.Page.{Open, has_kind, has_name, has_number}
use Rattle.tree_construction.specs.declared.kinds.Kind.{Kind}
use Rattle.tree_names.specs.ElementNames.{name_bytes}
use Rattle.tree_lists.specs.declared.wanted.KindSet.{KindSet}
use Rattle.tree_lists.specs.declared.wanted.KindSet.TheVariants.{Body, Button, Caption, Cell, ColumnGroup, Description, Form, Frameset, Heading, ListItem, NoBreak, OptionGroup, OptionOrGroup, Paragraph, Ruby, RubyContainer, RubyOrContainer, Script, Select, SelectOption, SvgScript, Table, TableBody, TableRow, TableText, Template}
use Rattle.tree_lists.specs.declared.wanted.Scope.{Scope}
use Rattle.tree_lists.specs.declared.wanted.Scope.TheVariants.{Default, ListItem as ListItemScope, Button as ButtonScope, Table as TableScope}
use Rattle.tree_lists.specs.declared.wanted.Wanted.{Wanted}
use Rattle.tree_lists.specs.declared.wanted.Wanted.TheVariants.{Of, Named, Node}

abbrev pub is_in : KindSet → Kind → Bool
is_in Body kind = is_body kind
is_in Button kind = is_button kind
is_in Caption kind = is_caption kind
is_in Cell kind = is_cell kind
is_in ColumnGroup kind = is_column_group kind
is_in Description kind = is_description kind
is_in Form kind = is_form kind
is_in Frameset kind = is_frameset kind
is_in Heading kind = is_heading kind
is_in ListItem kind = is_list_item kind
is_in NoBreak kind = is_no_break kind
is_in OptionGroup kind = is_option_group kind
is_in OptionOrGroup kind = is_select_option kind || is_option_group kind
is_in Paragraph kind = is_paragraph kind
is_in Ruby kind = is_ruby kind
is_in RubyContainer kind = is_ruby_container kind
is_in RubyOrContainer kind = is_ruby_container kind || is_ruby kind
is_in Script kind = is_script kind
is_in Select kind = is_select kind
is_in SelectOption kind = is_select_option kind
is_in SvgScript kind = is_svg_script kind
is_in Table kind = is_table kind
is_in TableBody kind = is_table_body kind
is_in TableRow kind = is_table_row kind
is_in TableText kind = takes_table_text kind
is_in Template kind = is_template kind

abbrev pub ends : Scope → Kind → Bool
ends Default kind = ends_scope kind
ends ListItemScope kind = ends_list_scope kind
ends ButtonScope kind = ends_button_scope kind
ends TableScope kind = ends_table_scope kind

abbrev pub is_wanted : {H Z : Type 0} → (H → ℕ) → Wanted H Z → Open → Bool
is_wanted node (Of set) e = has_kind (is_in set) e
is_wanted node (Named name) e = has_name (name_bytes name.now) e
is_wanted node (Node handle) e = has_number (node handle) e
