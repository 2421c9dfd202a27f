-- The names of elements, and what the rows of tree construction tell apart in them. One table gives the kind of a name; sets of names are
-- functions of kinds.
use Rattle.std.specs.Prelude.{ℕ, Bool, true, false, not, List, [], ◌∷◌, ◌&&◌, ◌||◌, codes, map, if◌then◌else◌}
use Rattle.std.specs.Str.{bytes_eq}
use Rattle.std.specs.Char.{to_ascii_lowercase}
use Rattle.markup5ever.specs.Names.{AttributeOf}
use Rattle.tree_construction.specs.declared.kinds.Namespace.{Namespace}
use Rattle.tree_construction.specs.declared.kinds.Namespace.TheVariants.{Html, MathMl, Svg}
use Rattle.tree_construction.specs.declared.kinds.Kind.{Kind}
use Rattle.tree_construction.specs.declared.kinds.Kind.TheVariants.{HtmlRoot, Head, Body, Title, Base, Link, Meta, Style, Script, Noscript, Noframes, Template, Frameset, Frame, Paragraph, Address, Division, BreakoutBlock, Block, Dialog, Fieldset, ListBlock, ListItem, Description, Heading, Preformatted, Form, Button, Anchor, NoBreak, Font, Formatting, Span, Ruby, RubyBase, RubyContainer, RubyText, Applet, Object, Table, Caption, ColumnGroup, Column, TableBody, TableRow, Cell, Void, LineBreak, Embed, Image, MisnamedImage, Input, Parameter, Rule, Textarea, Xmp, Iframe, Noembed, Plaintext, Select, SelectOption, OptionGroup, Output, MathRoot, SvgRoot, MathGlyph, Ordinary, MathTextPoint, Annotation, HtmlAnnotation, OtherMath, SvgHtmlPoint, SvgScript, OtherSvg}

-- whether a name is this one
abbrev pub named : List ℕ → List ℕ → Bool
named name other = bytes_eq other name

unfoldable pub is_among : List ℕ → List (List ℕ) → Bool
is_among name [] = false
is_among name (other ∷ names) = if bytes_eq other name then true else is_among name names

-- "ASCII case-insensitive match" with a text in lower case
abbrev pub matches : List ℕ → List ℕ → Bool
matches text value = bytes_eq (map to_ascii_lowercase value) text

-- ---- the table

pub record NamesOf : Type 0 where
  pub kind : Kind
  pub names : List (List ℕ)

abbrev pub row : Kind → List (List ℕ) → NamesOf
row kind names = record { kind = kind; names = names }

unfoldable pub kind_in : List NamesOf → List ℕ → Kind
kind_in [] name = Ordinary
kind_in (row ∷ rows) name = if is_among name row.names then row.kind else kind_in rows name

unfoldable pub all_names : List NamesOf
all_names =
    row HtmlRoot (codes "html" ∷ [])
    ∷ row Head (codes "head" ∷ [])
    ∷ row Body (codes "body" ∷ [])
    ∷ row Title (codes "title" ∷ [])
    ∷ row Base (codes "base" ∷ [])
    ∷ row Link (codes "basefont" ∷ codes "bgsound" ∷ codes "link" ∷ [])
    ∷ row Meta (codes "meta" ∷ [])
    ∷ row Style (codes "style" ∷ [])
    ∷ row Script (codes "script" ∷ [])
    ∷ row Noscript (codes "noscript" ∷ [])
    ∷ row Noframes (codes "noframes" ∷ [])
    ∷ row Template (codes "template" ∷ [])
    ∷ row Frameset (codes "frameset" ∷ [])
    ∷ row Frame (codes "frame" ∷ [])
    ∷ row Paragraph (codes "p" ∷ [])
    ∷ row Address (codes "address" ∷ [])
    ∷ row Division (codes "div" ∷ [])
    ∷ row BreakoutBlock (codes "blockquote" ∷ codes "center" ∷ codes "dl" ∷ codes "menu" ∷ [])
    ∷ row Block (codes "article" ∷ codes "aside" ∷ codes "details" ∷ codes "dir" ∷ codes "figcaption" ∷ codes "figure" ∷ codes "footer"
    ∷ codes "header" ∷ codes "hgroup" ∷ codes "main" ∷ codes "nav" ∷ codes "search" ∷ codes "section" ∷ codes "summary" ∷ [])
    ∷ row Dialog (codes "dialog" ∷ [])
    ∷ row Fieldset (codes "fieldset" ∷ [])
    ∷ row ListBlock (codes "ol" ∷ codes "ul" ∷ [])
    ∷ row ListItem (codes "li" ∷ [])
    ∷ row Description (codes "dd" ∷ codes "dt" ∷ [])
    ∷ row Heading (codes "h1" ∷ codes "h2" ∷ codes "h3" ∷ codes "h4" ∷ codes "h5" ∷ codes "h6" ∷ [])
    ∷ row Preformatted (codes "listing" ∷ codes "pre" ∷ [])
    ∷ row Form (codes "form" ∷ [])
    ∷ row Button (codes "button" ∷ [])
    ∷ row Anchor (codes "a" ∷ [])
    ∷ row NoBreak (codes "nobr" ∷ [])
    ∷ row Font (codes "font" ∷ [])
    ∷ row Formatting (codes "b" ∷ codes "big" ∷ codes "code" ∷ codes "em" ∷ codes "i" ∷ codes "s" ∷ codes "small" ∷ codes "strike"
    ∷ codes "strong" ∷ codes "tt" ∷ codes "u" ∷ [])
    ∷ row Span (codes "span" ∷ codes "sub" ∷ codes "sup" ∷ codes "var" ∷ [])
    ∷ row Ruby (codes "ruby" ∷ [])
    ∷ row RubyBase (codes "rb" ∷ [])
    ∷ row RubyContainer (codes "rtc" ∷ [])
    ∷ row RubyText (codes "rp" ∷ codes "rt" ∷ [])
    ∷ row Applet (codes "applet" ∷ codes "marquee" ∷ [])
    ∷ row Object (codes "object" ∷ [])
    ∷ row Table (codes "table" ∷ [])
    ∷ row Caption (codes "caption" ∷ [])
    ∷ row ColumnGroup (codes "colgroup" ∷ [])
    ∷ row Column (codes "col" ∷ [])
    ∷ row TableBody (codes "tbody" ∷ codes "tfoot" ∷ codes "thead" ∷ [])
    ∷ row TableRow (codes "tr" ∷ [])
    ∷ row Cell (codes "td" ∷ codes "th" ∷ [])
    ∷ row Void (codes "area" ∷ codes "keygen" ∷ codes "wbr" ∷ [])
    ∷ row LineBreak (codes "br" ∷ [])
    ∷ row Embed (codes "embed" ∷ [])
    ∷ row Image (codes "img" ∷ [])
    ∷ row MisnamedImage (codes "image" ∷ [])
    ∷ row Input (codes "input" ∷ [])
    ∷ row Parameter (codes "param" ∷ codes "source" ∷ codes "track" ∷ [])
    ∷ row Rule (codes "hr" ∷ [])
    ∷ row Textarea (codes "textarea" ∷ [])
    ∷ row Xmp (codes "xmp" ∷ [])
    ∷ row Iframe (codes "iframe" ∷ [])
    ∷ row Noembed (codes "noembed" ∷ [])
    ∷ row Plaintext (codes "plaintext" ∷ [])
    ∷ row Select (codes "select" ∷ [])
    ∷ row SelectOption (codes "option" ∷ [])
    ∷ row OptionGroup (codes "optgroup" ∷ [])
    ∷ row Output (codes "output" ∷ [])
    ∷ row MathRoot (codes "math" ∷ [])
    ∷ row SvgRoot (codes "svg" ∷ [])
    ∷ row MathGlyph (codes "malignmark" ∷ codes "mglyph" ∷ [])
    ∷ []

-- the kind of an HTML element, and of a tag, by its name
unfoldable pub kind_of : List ℕ → Kind
kind_of name = kind_in all_names name

-- "HTML integration point": the values of an `annotation-xml` element's `encoding`
abbrev pub says_html : AttributeOf → Bool
says_html a =
    bytes_eq a.name.local (codes "encoding")
    && (matches (codes "text/html") a.value || matches (codes "application/xhtml+xml") a.value)

unfoldable pub has_such : (AttributeOf → Bool) → List AttributeOf → Bool
has_such test [] = false
has_such test (a ∷ more) = if test a then true else has_such test more

-- the kind of an element in a namespace, by its adjusted name and the attributes of its token
abbrev pub math_kind_of : List ℕ → List AttributeOf → Kind
math_kind_of name attributes =
    if is_among name (codes "mi" ∷ codes "mo" ∷ codes "mn" ∷ codes "ms" ∷ codes "mtext" ∷ []) then MathTextPoint
    else if bytes_eq name (codes "annotation-xml") then (if has_such says_html attributes then HtmlAnnotation else Annotation)
    else OtherMath

abbrev pub svg_kind_of : List ℕ → Kind
svg_kind_of name =
    if is_among name (codes "foreignObject" ∷ codes "desc" ∷ codes "title" ∷ []) then SvgHtmlPoint
    else if bytes_eq name (codes "script") then SvgScript
    else OtherSvg

unfoldable pub kind_in_namespace : Namespace → List ℕ → List AttributeOf → Kind
kind_in_namespace Html name attributes = kind_of name
kind_in_namespace MathMl name attributes = math_kind_of name attributes
kind_in_namespace Svg name attributes = svg_kind_of name

unfoldable pub namespace_of : Kind → Namespace
namespace_of MathTextPoint = MathMl
namespace_of Annotation = MathMl
namespace_of HtmlAnnotation = MathMl
namespace_of OtherMath = MathMl
namespace_of SvgHtmlPoint = Svg
namespace_of SvgScript = Svg
namespace_of OtherSvg = Svg
namespace_of other = Html

abbrev pub is_html_namespace : Namespace → Bool
is_html_namespace Html = true
is_html_namespace other = false

-- an HTML element
abbrev pub is_html : Kind → Bool
is_html kind = is_html_namespace (namespace_of kind)

-- ---- single kinds

abbrev pub is_root : Kind → Bool
is_root HtmlRoot = true
is_root other = false

abbrev pub is_body : Kind → Bool
is_body Body = true
is_body other = false

abbrev pub is_template : Kind → Bool
is_template Template = true
is_template other = false

abbrev pub is_script : Kind → Bool
is_script Script = true
is_script other = false

abbrev pub is_frameset : Kind → Bool
is_frameset Frameset = true
is_frameset other = false

abbrev pub is_paragraph : Kind → Bool
is_paragraph Paragraph = true
is_paragraph other = false

abbrev pub is_list_item : Kind → Bool
is_list_item ListItem = true
is_list_item other = false

abbrev pub is_description : Kind → Bool
is_description Description = true
is_description other = false

abbrev pub is_heading : Kind → Bool
is_heading Heading = true
is_heading other = false

abbrev pub is_form : Kind → Bool
is_form Form = true
is_form other = false

abbrev pub is_button : Kind → Bool
is_button Button = true
is_button other = false

abbrev pub is_no_break : Kind → Bool
is_no_break NoBreak = true
is_no_break other = false

abbrev pub is_ruby : Kind → Bool
is_ruby Ruby = true
is_ruby other = false

abbrev pub is_ruby_container : Kind → Bool
is_ruby_container RubyContainer = true
is_ruby_container other = false

abbrev pub is_table : Kind → Bool
is_table Table = true
is_table other = false

abbrev pub is_caption : Kind → Bool
is_caption Caption = true
is_caption other = false

abbrev pub is_column_group : Kind → Bool
is_column_group ColumnGroup = true
is_column_group other = false

abbrev pub is_table_body : Kind → Bool
is_table_body TableBody = true
is_table_body other = false

abbrev pub is_table_row : Kind → Bool
is_table_row TableRow = true
is_table_row other = false

abbrev pub is_cell : Kind → Bool
is_cell Cell = true
is_cell other = false

abbrev pub is_select : Kind → Bool
is_select Select = true
is_select other = false

abbrev pub is_select_option : Kind → Bool
is_select_option SelectOption = true
is_select_option other = false

abbrev pub is_option_group : Kind → Bool
is_option_group OptionGroup = true
is_option_group other = false

abbrev pub is_svg_script : Kind → Bool
is_svg_script SvgScript = true
is_svg_script other = false

abbrev pub is_math_text_point : Kind → Bool
is_math_text_point MathTextPoint = true
is_math_text_point other = false

-- ---- "The stack of open elements"

-- "Special"
unfoldable pub is_special : Kind → Bool
is_special HtmlRoot = true
is_special Head = true
is_special Body = true
is_special Title = true
is_special Base = true
is_special Link = true
is_special Meta = true
is_special Style = true
is_special Script = true
is_special Noscript = true
is_special Noframes = true
is_special Template = true
is_special Frameset = true
is_special Frame = true
is_special Paragraph = true
is_special Address = true
is_special Division = true
is_special BreakoutBlock = true
is_special Block = true
is_special Fieldset = true
is_special ListBlock = true
is_special ListItem = true
is_special Description = true
is_special Heading = true
is_special Preformatted = true
is_special Form = true
is_special Button = true
is_special Applet = true
is_special Object = true
is_special Table = true
is_special Caption = true
is_special ColumnGroup = true
is_special Column = true
is_special TableBody = true
is_special TableRow = true
is_special Cell = true
is_special Void = true
is_special LineBreak = true
is_special Embed = true
is_special Image = true
is_special Input = true
is_special Parameter = true
is_special Rule = true
is_special Textarea = true
is_special Xmp = true
is_special Iframe = true
is_special Noembed = true
is_special Plaintext = true
is_special Select = true
is_special MathTextPoint = true
is_special Annotation = true
is_special HtmlAnnotation = true
is_special SvgHtmlPoint = true
is_special other = false

-- "Formatting"
unfoldable pub is_formatting : Kind → Bool
is_formatting Anchor = true
is_formatting NoBreak = true
is_formatting Font = true
is_formatting Formatting = true
is_formatting other = false

-- "Has an element in scope": what ends the search
unfoldable pub ends_scope : Kind → Bool
ends_scope Applet = true
ends_scope Caption = true
ends_scope HtmlRoot = true
ends_scope Table = true
ends_scope Cell = true
ends_scope Object = true
ends_scope Template = true
ends_scope Select = true
ends_scope MathTextPoint = true
ends_scope Annotation = true
ends_scope HtmlAnnotation = true
ends_scope SvgHtmlPoint = true
ends_scope other = false

-- "Has an element in list item scope", "in button scope": these end the search, too
abbrev pub ends_list_scope : Kind → Bool
ends_list_scope ListBlock = true
ends_list_scope kind = ends_scope kind

abbrev pub ends_button_scope : Kind → Bool
ends_button_scope Button = true
ends_button_scope kind = ends_scope kind

-- "Has an element in table scope"; "clear the stack back to a table context"
unfoldable pub ends_table_scope : Kind → Bool
ends_table_scope HtmlRoot = true
ends_table_scope Table = true
ends_table_scope Template = true
ends_table_scope other = false

-- "Clear the stack back to a table body context"
unfoldable pub is_body_context : Kind → Bool
is_body_context TableBody = true
is_body_context Template = true
is_body_context HtmlRoot = true
is_body_context other = false

-- "Clear the stack back to a table row context"
unfoldable pub is_row_context : Kind → Bool
is_row_context TableRow = true
is_row_context Template = true
is_row_context HtmlRoot = true
is_row_context other = false

-- ---- "Closing elements that have implied end tags"

-- "Generate implied end tags"
unfoldable pub is_implied : Kind → Bool
is_implied Description = true
is_implied ListItem = true
is_implied OptionGroup = true
is_implied SelectOption = true
is_implied Paragraph = true
is_implied RubyBase = true
is_implied RubyText = true
is_implied RubyContainer = true
is_implied other = false

-- "Generate all implied end tags thoroughly": these, too
unfoldable pub is_implied_thoroughly : Kind → Bool
is_implied_thoroughly Caption = true
is_implied_thoroughly ColumnGroup = true
is_implied_thoroughly TableBody = true
is_implied_thoroughly Cell = true
is_implied_thoroughly TableRow = true
is_implied_thoroughly kind = is_implied kind

-- "In body", an end-of-file token, and the end tags `body` and `html`: elements that may stay open without a parse error
unfoldable pub may_stay_open : Kind → Bool
may_stay_open TableBody = true
may_stay_open Cell = true
may_stay_open TableRow = true
may_stay_open Body = true
may_stay_open HtmlRoot = true
may_stay_open kind = is_implied kind

-- ---- other sets

-- "The appropriate place for inserting a node": foster parenting happens in these
unfoldable pub is_fostering : Kind → Bool
is_fostering Table = true
is_fostering TableBody = true
is_fostering TableRow = true
is_fostering other = false

-- "In table", a character token: the current node is one of these
abbrev pub takes_table_text : Kind → Bool
takes_table_text Template = true
takes_table_text kind = is_fostering kind

-- "In body", a start tag whose tag name is `li`, `dd` or `dt`: "in the special category, but is not an address, div, or p element"
abbrev pub ends_item_search : Kind → Bool
ends_item_search Address = false
ends_item_search Division = false
ends_item_search Paragraph = false
ends_item_search kind = is_special kind

-- "Form-associated elements" that the tokens of a page make, and of these the "listed elements"
unfoldable pub is_listed : Kind → Bool
is_listed Button = true
is_listed Fieldset = true
is_listed Input = true
is_listed Object = true
is_listed Output = true
is_listed Select = true
is_listed Textarea = true
is_listed other = false

abbrev pub is_form_associated : Kind → Bool
is_form_associated Image = true
is_form_associated kind = is_listed kind

-- "HTML integration point"
abbrev pub is_html_point : Kind → Bool
is_html_point HtmlAnnotation = true
is_html_point SvgHtmlPoint = true
is_html_point other = false

-- `annotation-xml`, of either kind
abbrev pub is_annotation : Kind → Bool
is_annotation Annotation = true
is_annotation HtmlAnnotation = true
is_annotation other = false

-- "The rules for parsing tokens in foreign content": start tags of these names break out of it
unfoldable pub breaks_out : Kind → Bool
breaks_out Formatting = true
breaks_out BreakoutBlock = true
breaks_out Body = true
breaks_out LineBreak = true
breaks_out Description = true
breaks_out Division = true
breaks_out Embed = true
breaks_out Heading = true
breaks_out Head = true
breaks_out Rule = true
breaks_out Image = true
breaks_out ListItem = true
breaks_out Preformatted = true
breaks_out Meta = true
breaks_out NoBreak = true
breaks_out ListBlock = true
breaks_out Paragraph = true
breaks_out Ruby = true
breaks_out Span = true
breaks_out Table = true
breaks_out other = false
