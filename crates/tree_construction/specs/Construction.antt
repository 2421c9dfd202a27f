-- "Tree construction": the dispatcher, a token, a message of the tokenizer, documents and fragments.
use Rattle.std.specs.Prelude.{ℕ, suc, zero, Bool, true, false, not, List, [], ◌∷◌, ◌+◌, ◌&&◌, ◌||◌, length, Option, Some, None, codes, if◌then◌else◌}
use Rattle.std.specs.Str.{bytes_eq}
use Rattle.html5ever_interface.specs.Token.{Told}
use Rattle.html5ever_interface.specs.declared.states.RawKind.{RawKind}
use Rattle.html5ever_interface.specs.declared.states.RawKind.TheVariants.{Rcdata, Rawtext, ScriptData}
use Rattle.tree_construction.specs.declared.kinds.Kind.{Kind}
use Rattle.tree_construction.specs.declared.kinds.Kind.TheVariants.{HtmlRoot, Title, Style, Script, Noscript, Noframes, Template, Textarea, Xmp, Iframe, Noembed, Plaintext, SvgRoot, MathGlyph}
use Rattle.tree_construction.specs.declared.modes.Mode.{Mode}
use Rattle.tree_construction.specs.declared.modes.Mode.TheVariants.{Initial, BeforeHtml, BeforeHead, InHead, InHeadNoscript, AfterHead, InBody, Text, InTable, InTableText, InCaption, InColumnGroup, InTableBody, InRow, InCell, InTemplate, AfterBody, InFrameset, AfterFrameset, AfterAfterBody, AfterAfterFrameset}
use Rattle.tree_construction.specs.declared.modes.QuirksMode.TheVariants.{NoQuirks}
use Rattle.tree_construction.specs.declared.mistakes.Mistake.TheVariants.{TrailingSolidus}
use Rattle.tree_construction.specs.Names.{is_annotation, is_html, is_html_point, is_math_text_point, is_template, kind_of}
use Rattle.tree_construction.specs.Tokens.{StartTagOf, Token, is_newline, tokens_of}
use Rattle.tree_construction.specs.Tokens.Token.{Doctype, StartTag, EndTag, Comment, Character, EndOfFile}
use Rattle.tree_construction.specs.Page.{Open}
use Rattle.tree_construction.specs.Parser.{Again, Context, Options, Parser, Request, adjusted_kind, mistaken}
use Rattle.tree_construction.specs.Parser.Request.{GoOn, ReadRaw, ReadPlain}
use Rattle.tree_construction.specs.BeforeBody.{initial, before_html, before_head, in_head, in_head_noscript, after_head, text_mode, with_root}
use Rattle.tree_construction.specs.InBody.{in_body}
use Rattle.tree_construction.specs.Tables.{in_table, in_table_text, in_caption, in_column_group, in_table_body, in_row, in_cell}
use Rattle.tree_construction.specs.AfterBody.{in_template, after_body, in_frameset, after_frameset, after_after_body, after_after_frameset}
use Rattle.tree_construction.specs.ForeignContent.{in_foreign_content}
use Rattle.tree_construction.specs.Resetting.{mode_reset}

-- ---- "The rules for parsing tokens in HTML content"

abbrev pub in_html_content : Again → Mode → Token → Parser → Parser
in_html_content again Initial token p = initial again token p
in_html_content again BeforeHtml token p = before_html again token p
in_html_content again BeforeHead token p = before_head again token p
in_html_content again InHead token p = in_head again token p
in_html_content again InHeadNoscript token p = in_head_noscript again token p
in_html_content again AfterHead token p = after_head again token p
in_html_content again InBody token p = in_body again token p
in_html_content again Text token p = text_mode again token p
in_html_content again InTable token p = in_table again token p
in_html_content again InTableText token p = in_table_text again token p
in_html_content again InCaption token p = in_caption again token p
in_html_content again InColumnGroup token p = in_column_group again token p
in_html_content again InTableBody token p = in_table_body again token p
in_html_content again InRow token p = in_row again token p
in_html_content again InCell token p = in_cell again token p
in_html_content again InTemplate token p = in_template again token p
in_html_content again AfterBody token p = after_body again token p
in_html_content again InFrameset token p = in_frameset token p
in_html_content again AfterFrameset token p = after_frameset token p
in_html_content again AfterAfterBody token p = after_after_body again token p
in_html_content again AfterAfterFrameset token p = after_after_frameset token p

abbrev pub in_current_mode : Again → Token → Parser → Parser
in_current_mode again token p = in_html_content again p.mode token p

-- ---- "The tree construction dispatcher"

-- whether a start tag in a MathML text integration point, and one in an `annotation-xml`, is processed as HTML content
abbrev pub is_math_glyph : Kind → Bool
is_math_glyph MathGlyph = true
is_math_glyph other = false

abbrev pub is_svg_root : Kind → Bool
is_svg_root SvgRoot = true
is_svg_root other = false

-- by the kind of the adjusted current node
abbrev pub takes_as_html : Kind → Token → Bool
takes_as_html kind (StartTag tag) =
    is_html kind || (is_math_text_point kind && not (is_math_glyph (kind_of tag.name)))
    || (is_annotation kind && is_svg_root (kind_of tag.name)) || is_html_point kind
takes_as_html kind (Character c) = is_html kind || is_math_text_point kind || is_html_point kind
takes_as_html kind EndOfFile = true
takes_as_html kind token = is_html kind

abbrev pub dispatched : Again → Token → Parser → Parser
dispatched again token p =
    if takes_as_html (adjusted_kind p.options.context p.page.opened) token
    then in_current_mode again token p
    else in_foreign_content (in_current_mode again) token p

-- "Reprocess the token" happens at most so many times.
unfoldable pub process : ℕ → Token → Parser → Parser
process zero token p = p
process (suc times) token p = dispatched (λ later again. process times again later) token p

-- ---- one token

-- A token is processed again at most six times, and the end of file once more for each open template.
abbrev pub enough : Parser → ℕ
enough p = 8 + length p.template_modes

-- "When a start tag token is emitted with its self-closing flag set, if the flag is not acknowledged .., that is a parse error"
abbrev pub is_self_closing : Token → Bool
is_self_closing (StartTag tag) = tag.self_closing
is_self_closing other = false

abbrev pub expects_acknowledged : Token → Parser → Parser
expects_acknowledged token p = if is_self_closing token && not p.acknowledged then mistaken TrailingSolidus p else p

abbrev pub is_ignored_newline : Bool → Token → Bool
is_ignored_newline true (Character c) = is_newline c
is_ignored_newline ignores token = false

abbrev pub taken : Token → Parser → Parser
taken token p =
    let fresh : Parser = record p { ignores_newline = false; request = GoOn; acknowledged = false } in
    if is_ignored_newline p.ignores_newline token then fresh else expects_acknowledged token (process (enough p) token fresh)

unfoldable pub step : Token → Parser → Parser
step token p = taken token p

unfoldable pub run : List Token → Parser → Parser
run [] p = p
run (token ∷ tokens) p = run tokens (step token p)

-- one message of the tokenizer, and several
abbrev pub told : Told → Parser → Parser
told message p = run (tokens_of message) p

unfoldable pub told_all : List Told → Parser → Parser
told_all [] p = p
told_all (message ∷ messages) p = told_all messages (told message p)

-- whether `<![CDATA[` begins a section: "there is an adjusted current node and it is not an element in the HTML namespace"
abbrev pub is_foreign : Parser → Bool
is_foreign p = not (is_html (adjusted_kind p.options.context p.page.opened))

-- ---- documents, and "parsing HTML fragments"

abbrev pub empty_parser : Options → Parser
empty_parser options = record {
  options = options;
  page = record { next = 3; opened = []; edits = [] };
  formatting = [];
  mode = Initial;
  original_mode = InBody;
  template_modes = [];
  head = None;
  form = None;
  frameset_ok = true;
  fostering = false;
  pending = [];
  ignores_newline = false;
  quirks_mode = NoQuirks;
  stopped = false;
  request = GoOn;
  acknowledged = false;
}

abbrev pub fragment_modes : Kind → List Mode
fragment_modes kind = if is_template kind then InTemplate ∷ [] else []

abbrev pub fragment_form : Bool → Option ℕ
fragment_form true = Some 2
fragment_form false = None

-- with an html element as root, and the mode reset by the context element
abbrev pub start_fragment : Context → Parser → Parser
start_fragment context p =
    let rooted : Parser = with_root [] p in
    record (mode_reset (record rooted { template_modes = fragment_modes context.kind }))
    { quirks_mode = context.quirks_mode; form = fragment_form context.in_form }

abbrev pub start_by : Option Context → Parser → Parser
start_by None p = p
start_by (Some context) p = start_fragment context p

unfoldable pub start : Options → Parser
start options = start_by options.context (empty_parser options)

-- the state of the tokenizer at the start of a fragment
abbrev pub noscript_request : Bool → Request
noscript_request true = ReadRaw Rawtext
noscript_request false = GoOn

abbrev pub request_of_kind : Bool → Kind → Request
request_of_kind scripting Title = ReadRaw Rcdata
request_of_kind scripting Textarea = ReadRaw Rcdata
request_of_kind scripting Style = ReadRaw Rawtext
request_of_kind scripting Xmp = ReadRaw Rawtext
request_of_kind scripting Iframe = ReadRaw Rawtext
request_of_kind scripting Noembed = ReadRaw Rawtext
request_of_kind scripting Noframes = ReadRaw Rawtext
request_of_kind scripting Script = ReadRaw ScriptData
request_of_kind scripting Noscript = noscript_request scripting
request_of_kind scripting Plaintext = ReadPlain
request_of_kind scripting other = GoOn

abbrev pub request_of_context : Bool → Option Context → Request
request_of_context scripting None = GoOn
request_of_context scripting (Some context) = request_of_kind scripting context.kind

abbrev pub start_request : Options → Request
start_request options = request_of_context options.scripting options.context
