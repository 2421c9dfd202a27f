-- Searches of the open elements, from the innermost outwards: what is searched for, and what ends the search.
use Rattle.std.specs.Prelude.{ℕ, Bool, true, false, List, map, reverse}
use Rattle.html5tree.specs.ElementNames.{name_of}
use Rattle.html5tree.specs.Fitting.{bounds_item, bounds_paragraph, is_implied_before_text}
use Rattle.html5tree.specs.Names.{kind_of, named, has_marker, is_anchor, is_button, is_description, is_form, is_heading, is_implied, is_list_item, is_no_break, is_paragraph, is_ruby, is_special, is_table, no_kind}
use Rattle.html5tree.specs.Normal.{bounds_end, is_context}
use Rattle.html5tree.specs.declared.kinds.Kind.{Kind}
use Rattle.html5tree.specs.declared.kinds.Kind.TheVariants.{ListItem as ListItemKind}
use Rattle.html5tree.specs.declared.names.ElementName.{ElementName}
use Rattle.html5tree.specs.declared.searches.Bound.{Bound}
use Rattle.html5tree.specs.declared.searches.Bound.TheVariants.{Nothing, Marker, Button, Item, List as ListBound, Special, Table as TableBound}
use Rattle.html5tree.specs.declared.searches.Wanted.{Wanted}
use Rattle.html5tree.specs.declared.searches.Wanted.TheVariants.{Anchor, NoBreak, Button as ButtonElement, Paragraph, ListItem, Description, Heading, Ruby, Form, Table, Context, Named}

-- the names of the open elements, innermost first; a list of them has the innermost last
abbrev pub names_open : List ElementName → List (List ℕ)
names_open open_names = reverse (map name_of open_names)

abbrev pub is_wanted : Wanted → List ℕ → Bool
is_wanted Anchor name = is_anchor (kind_of name)
is_wanted NoBreak name = is_no_break (kind_of name)
is_wanted ButtonElement name = is_button (kind_of name)
is_wanted Paragraph name = is_paragraph (kind_of name)
is_wanted ListItem name = is_list_item (kind_of name)
is_wanted Description name = is_description (kind_of name)
is_wanted Heading name = is_heading (kind_of name)
is_wanted Ruby name = is_ruby (kind_of name)
is_wanted Form name = is_form (kind_of name)
is_wanted Table name = is_table (kind_of name)
is_wanted (Context part) name = is_context part (kind_of name)
is_wanted (Named other) name = named (name_of other) name

abbrev pub is_bound : Bound → Kind → Bool
is_bound Nothing kind = no_kind kind
is_bound Marker kind = has_marker kind
is_bound Button kind = bounds_paragraph kind
is_bound Item kind = bounds_item kind
is_bound ListBound kind = bounds_end ListItemKind kind
is_bound Special kind = is_special kind
is_bound TableBound kind = is_table kind

-- whether an end tag would be implied, before an `rp` or an `rt` or before other tags
abbrev pub implied_before : Bool → Kind → Bool
implied_before true kind = is_implied_before_text kind
implied_before false kind = is_implied kind
