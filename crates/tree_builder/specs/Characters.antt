-- What rows do with a character, by its class. A run of characters of one class is handled at once. These are words of the proofs: by them
-- that is compared with the definition, which takes a byte at a time.
use Rattle.std.specs.Prelude.{◌≡◌, ◌≢◌, ℕ, zero, suc, Bool, true, false, List, [], ◌∷◌, ◌++◌, ◌||◌, Option, None, Some, All, codes, if◌then◌else◌}
use Rattle.tree_construction.specs.declared.kinds.Kind.{Kind}
use Rattle.tree_construction.specs.declared.kinds.Kind.TheVariants.{Anchor, Font, Formatting, NoBreak}
use Rattle.tree_construction.specs.declared.modes.Mode.{Mode}
use Rattle.tree_construction.specs.declared.modes.Mode.TheVariants.{Initial, BeforeHtml, BeforeHead, InHead, InHeadNoscript, AfterHead, InBody, Text, InTable, InTableText, InCaption, InColumnGroup, InTableBody, InRow, InCell, InTemplate, AfterBody, InFrameset, AfterFrameset, AfterAfterBody, AfterAfterFrameset}
use Rattle.tree_construction.specs.ForeignContent.{replacement}
use Rattle.std.specs.List.{list_all}
use Rattle.tree_construction.specs.Formatting.{Listed, reconstructed, to_reopen}
use Rattle.tree_construction.specs.InBody.{character_in_body}
use Rattle.tree_construction.specs.Names.{is_column_group, is_html, is_html_point, is_math_text_point, takes_table_text}
use Rattle.tree_construction.specs.Page.{Open}
use Rattle.tree_construction.specs.Parser.{Context, Parser, adjusted_kind, insert_character, in_mode, insert_text, is_current, mistaken, not_frameset_ok, on_page, place_in, pop, unexpected}
use Rattle.tree_construction.specs.Parser.Request.{GoOn}
use Rattle.tree_construction.specs.declared.mistakes.Mistake.TheVariants.{MissingDoctype, UnexpectedToken}
use Rattle.tree_construction.specs.Tables.{flushed_as_space, flushed_fostered, fostered, is_all_space}
use Rattle.tree_sink.specs.Sinks.{mistaken_text_put, parted_text_put}
use Rattle.tree_construction.specs.Tokens.{bare_tag, is_null, is_space}
use Rattle.tree_construction.specs.BeforeBody.{insert_body, insert_head, set_quirks_mode, with_root}
use Rattle.tree_construction.specs.declared.modes.QuirksMode.TheVariants.{Quirks}
use Rattle.tree_builder.specs.declared.characters.TextClass.{TextClass}
use Rattle.tree_builder.specs.declared.characters.TextClass.TheVariants.{Null, Space, Other}
use Rattle.tree_builder.specs.declared.characters.TextAction.{TextAction}
use Rattle.tree_builder.specs.declared.characters.TextAction.TheVariants.{Ignore, Refuse, Insert, InsertInBody, Collect, Foster, Replace, InsertForeign, Reprocess}

-- ---- classes of bytes

abbrev pub is_null_class : TextClass → Bool
is_null_class Null = true
is_null_class Space = false
is_null_class Other = false

abbrev pub is_space_class : TextClass → Bool
is_space_class Null = false
is_space_class Space = true
is_space_class Other = false

-- a byte is of a class
pub record IsOf (class : TextClass) (c : ℕ) : Type 0 where
  pub null : is_null c ≡ is_null_class class
  pub space : is_space c ≡ is_space_class class

-- ---- what is done with a byte

-- by the rules for parsing tokens in HTML content
abbrev pub by_space : TextClass → TextAction → TextAction → TextAction
by_space Space spaces others = spaces
by_space class spaces others = others

abbrev pub by_null : TextClass → TextAction → TextAction → TextAction
by_null Null nulls others = nulls
by_null class nulls others = others

-- where `table_text` says that the current node takes table text, and `column_group` that it is a `colgroup`
abbrev pub html_action : TextClass → Mode → (table_text column_group : Bool) → TextAction
html_action class Initial table_text column_group = by_space class Ignore Reprocess
html_action class BeforeHtml table_text column_group = by_space class Ignore Reprocess
html_action class BeforeHead table_text column_group = by_space class Ignore Reprocess
html_action class InHead table_text column_group = by_space class Insert Reprocess
html_action class InHeadNoscript table_text column_group = by_space class Insert Reprocess
html_action class AfterHead table_text column_group = by_space class Insert Reprocess
html_action class InBody table_text column_group = InsertInBody
html_action class Text table_text column_group = Insert
html_action class InTable table_text column_group = if table_text then Reprocess else Foster
html_action class InTableText table_text column_group = by_null class Refuse Collect
html_action class InCaption table_text column_group = InsertInBody
html_action class InColumnGroup table_text column_group = by_space class Insert (if column_group then Reprocess else Refuse)
html_action class InTableBody table_text column_group = if table_text then Reprocess else Foster
html_action class InRow table_text column_group = if table_text then Reprocess else Foster
html_action class InCell table_text column_group = InsertInBody
html_action class InTemplate table_text column_group = InsertInBody
html_action class AfterBody table_text column_group = by_space class InsertInBody Reprocess
html_action class InFrameset table_text column_group = by_space class Insert Refuse
html_action class AfterFrameset table_text column_group = by_space class Insert Refuse
html_action class AfterAfterBody table_text column_group = by_space class InsertInBody Reprocess
html_action class AfterAfterFrameset table_text column_group = by_space class InsertInBody Refuse

-- by those for parsing tokens in foreign content
abbrev pub foreign_action : TextClass → TextAction
foreign_action Null = Replace
foreign_action Space = Insert
foreign_action Other = InsertForeign

-- whether characters are processed as HTML content, by the kind of the adjusted current node
abbrev pub takes_characters : Kind → Bool
takes_characters kind = is_html kind || is_math_text_point kind || is_html_point kind

abbrev pub action_in : TextClass → Option Context → Mode → List Open → (table_text column_group : Bool) → TextAction
action_in class context mode opened table_text column_group =
    if takes_characters (adjusted_kind context opened) then html_action class mode table_text column_group else foreign_action class

abbrev pub action_of : TextClass → Parser → TextAction
action_of class p =
    action_in class p.options.context p.mode p.page.opened (is_current takes_table_text p) (is_current is_column_group p)

-- ---- the action on one byte, and on several

abbrev pub acted : TextAction → ℕ → Parser → Parser
acted Ignore c p = p
acted Refuse c p = unexpected p
acted Insert c p = insert_character c p
acted InsertInBody c p = character_in_body c p
acted Collect c p = record p { pending = p.pending ++ c ∷ [] }
acted Foster c p = fostered (character_in_body c) p
acted Replace c p = insert_text replacement (unexpected p)
acted InsertForeign c p = not_frameset_ok (insert_character c p)
acted Reprocess c p = p

-- whether the action ends what is done with the character
abbrev pub is_done : TextAction → Bool
is_done Reprocess = false
is_done other = true

unfoldable pub acted_all : TextAction → List ℕ → Parser → Parser
acted_all action [] p = p
acted_all action (c ∷ text) p = acted_all action text (acted action c p)

-- ---- elements that are opened again

abbrev pub is_formatting_kind : Kind → Bool
is_formatting_kind Anchor = true
is_formatting_kind Font = true
is_formatting_kind Formatting = true
is_formatting_kind NoBreak = true
is_formatting_kind other = false

abbrev pub is_formatting_element : Listed → Bool
is_formatting_element e = is_formatting_kind e.kind

-- parsing has stopped, if a fragment has no open element
abbrev pub has_root : Option Context → List Open → Bool
has_root None opened = true
has_root (Some context) [] = false
has_root (Some context) (e ∷ es) = true

-- ---- a run that is put at once

abbrev pub AllOf : TextClass → List ℕ → Type 0
AllOf class text = All (IsOf class) text

-- a text that does not go on with a class: it is empty, or begins with a byte of another
abbrev pub BeginsOther : TextClass → List ℕ → Type 0
BeginsOther class rest = (c : ℕ) (more : List ℕ) → rest ≡ c ∷ more → (other : TextClass) × (IsOf other c × (other ≢ class))

-- after a text with a parse error before each byte, and with one before each byte but the first
abbrev pub mistaken_text : List ℕ → Parser → Parser
mistaken_text text p = on_page (λ page. record page { edits = mistaken_text_put UnexpectedToken (place_in p p.page.opened) text page.edits }) p

abbrev pub parted_text : List ℕ → Parser → Parser
parted_text text p = on_page (λ page. record page { edits = parted_text_put UnexpectedToken (place_in p p.page.opened) text page.edits }) p

-- "enable foster parenting"
abbrev pub fostering : Parser → Parser
fostering p = record p { fostering = true }

-- what is reconstructed before a fostered text
abbrev pub before_fostered : Parser → Parser
before_fostered p = reconstructed (fostering (unexpected p))

-- what is set before each token
abbrev pub fresh : Parser → Parser
fresh p = record p { ignores_newline = false; request = GoOn; acknowledged = false }

-- "set the pending table character tokens to an empty list"
abbrev pub uncollected : Parser → Parser
uncollected p = record p { pending = [] }

-- a text that was collected, where it is inserted
abbrev pub flushed_text : List ℕ → Parser → Parser
flushed_text text p = if is_all_space text then flushed_as_space text p else flushed_fostered text p

-- "Parse error", "insert a U+FFFD REPLACEMENT CHARACTER character"
abbrev pub refused_and_replaced : Parser → Parser
refused_and_replaced p = insert_text replacement (unexpected p)

-- U+0000 "in table"
abbrev pub refused_twice : Parser → Parser
refused_twice p = record (unexpected (unexpected p)) { fostering = false }

-- so many times
unfoldable pub repeated : (Parser → Parser) → ℕ → Parser → Parser
repeated change zero p = p
repeated change (suc n) p = change (repeated change n p)

-- what is reconstructed before a character of a class is formatting elements
abbrev pub reopens_formatting : TextClass → Parser → Bool
reopens_formatting Null p = true
reopens_formatting class p = list_all is_formatting_element (to_reopen p.page.opened p.formatting)

-- the actions that reconstruct the active formatting elements
abbrev pub is_reopening : TextAction → Bool
is_reopening InsertInBody = true
is_reopening Foster = true
is_reopening other = false

-- "Reprocess the token", of a character: the parser that processes it again
abbrev pub moved_on : Mode → Parser → Parser
moved_on Initial p = in_mode BeforeHtml (if p.options.iframe_srcdoc then p else set_quirks_mode Quirks (mistaken MissingDoctype p))
moved_on BeforeHtml p = in_mode BeforeHead (with_root [] p)
moved_on BeforeHead p = insert_head (bare_tag (codes "head")) p
moved_on InHead p = in_mode AfterHead (pop p)
moved_on InHeadNoscript p = in_mode InHead (pop (unexpected p))
moved_on AfterHead p = insert_body (bare_tag (codes "body")) p
moved_on InTable p = record p { pending = []; original_mode = p.mode; mode = InTableText }
moved_on InTableBody p = record p { pending = []; original_mode = p.mode; mode = InTableText }
moved_on InRow p = record p { pending = []; original_mode = p.mode; mode = InTableText }
moved_on InColumnGroup p = in_mode InTable (pop p)
moved_on AfterBody p = in_mode InBody (unexpected p)
moved_on AfterAfterBody p = in_mode InBody (unexpected p)
moved_on other p = p

-- what must be known of a parser that takes a run
pub record TakesRun (class : TextClass) (action : TextAction) (p : Parser) : Type 0 where
  pub done : is_done action ≡ true
  pub same : action_of class p ≡ action
  pub clean : fresh p ≡ p
  pub kinds : is_reopening action ≡ true → reopens_formatting class p ≡ true
  pub root : has_root p.options.context p.page.opened ≡ true
