-- "Parse state", and "creating and inserting nodes": what tree construction keeps, and the steps that many rows share.
use Rattle.std.specs.Prelude.{ℕ, Bool, true, false, not, List, [], ◌∷◌, ◌&&◌, length, ◌+◌, Option, Some, None, nat_lt, codes, if◌then◌else◌}
use Rattle.markup5ever.specs.Names.{AttributeOf}
use Rattle.html5ever_interface.specs.declared.states.RawKind.{RawKind}
use Rattle.tree_construction.specs.declared.kinds.Kind.{Kind}
use Rattle.tree_construction.specs.declared.kinds.Kind.TheVariants.{HtmlRoot}
use Rattle.tree_construction.specs.declared.modes.Mode.{Mode}
use Rattle.tree_construction.specs.declared.modes.Mode.TheVariants.{Text as TextMode}
use Rattle.tree_construction.specs.declared.modes.QuirksMode.{QuirksMode}
use Rattle.tree_construction.specs.declared.mistakes.Mistake.{Mistake}
use Rattle.tree_construction.specs.declared.mistakes.Mistake.TheVariants.{UnexpectedToken, UnclosedElements}
use Rattle.tree_construction.specs.Names.{kind_of, is_html, is_template, is_paragraph, is_implied, is_implied_thoroughly, is_fostering, is_form_associated, is_listed, ends_scope, ends_button_scope, ends_table_scope}
use Rattle.tree_construction.specs.Tokens.{StartTagOf, Token, has_attribute}
use Rattle.tree_construction.specs.Page.{Edit, Open, Page, Place, comment_put, current_passes, edited, first_open, foster_place, has_in_scope, has_kind, has_name, has_open, inside, made, popped, popped_until, popped_while, pushed}
use Rattle.tree_construction.specs.Page.Place.{LastChild, BesideNode}
use Rattle.tree_construction.specs.Page.Edit.{ParseError, Put, PutText, AssociateForm}

-- "Parsing HTML fragments": the context element, whether it or an element around it is a form, and the mode of its document
pub record Context : Type 0 where
  pub kind : Kind
  pub in_form : Bool
  pub quirks_mode : QuirksMode

-- what is set before parsing begins
pub record Options : Type 0 where
  -- "the scripting flag"
  pub scripting : Bool
  -- "an iframe srcdoc document"
  pub iframe_srcdoc : Bool
  -- in the fragment case
  pub context : Option Context
  -- Two limits that the standard doesn't have. With so many open elements deeper ones become siblings, as in browsers. With so many elements
  -- in the list of active formatting elements after the last marker the earliest leaves it: else a tree can be quadratic in its text.
  pub depth_limit : Option ℕ
  pub formatting_limit : Option ℕ

-- an entry of "the list of active formatting elements": an element has the attributes of the token for which it was created
pub data Entry : Type 0 where
  Marker : Entry
  Active : (n : ℕ) → Kind → (name : List ℕ) → List AttributeOf → Entry

-- what the tokenizer is asked to do after a token
pub data Request : Type 0 where
  GoOn : Request
  ReadRaw : RawKind → Request
  ReadPlain : Request
  -- run a script, which was just closed
  Run : (n : ℕ) → Request
  -- change the encoding, by the value of a `charset` attribute or of a `content` attribute of a `meta`
  UseCharset : List ℕ → Request
  UseContent : List ℕ → Request

pub record Parser : Type 0 where
  pub options : Options
  -- the document so far, and "the stack of open elements"
  pub page : Page
  -- "the list of active formatting elements", the last first
  pub formatting : List Entry
  -- "the insertion mode", and "the original insertion mode"
  pub mode : Mode
  pub original_mode : Mode
  -- "the stack of template insertion modes", the current one first
  pub template_modes : List Mode
  -- "the head element pointer" and "the form element pointer"
  pub head : Option ℕ
  pub form : Option ℕ
  -- "the frameset-ok flag"
  pub frameset_ok : Bool
  -- whether foster parenting is enabled
  pub fostering : Bool
  -- "the pending table character tokens"
  pub pending : List ℕ
  -- "if the next token is a U+000A LINE FEED (LF) character token, then ignore that token"
  pub ignores_newline : Bool
  pub quirks_mode : QuirksMode
  -- parsing was stopped
  pub stopped : Bool
  -- of the last token: what the tokenizer is asked, and whether "the self-closing flag" is acknowledged
  pub request : Request
  pub acknowledged : Bool

-- "Reprocess the token": by the rules of the insertion mode that is then
abbrev pub Again : Type 0
Again = Parser → Token → Parser

abbrev pub on_page : (Page → Page) → Parser → Parser
on_page change p = record p { page = change p.page }

abbrev pub in_mode : Mode → Parser → Parser
in_mode mode p = record p { mode = mode }

abbrev pub not_frameset_ok : Parser → Parser
not_frameset_ok p = record p { frameset_ok = false }

-- "Parse error."
abbrev pub mistaken : Mistake → Parser → Parser
mistaken mistake p = on_page (edited (ParseError mistake)) p

abbrev pub unexpected : Parser → Parser
unexpected p = mistaken UnexpectedToken p

abbrev pub asked : Request → Parser → Parser
asked request p = record p { request = request }

abbrev pub acknowledges : Parser → Parser
acknowledges p = record p { acknowledged = true }

-- ---- "The stack of open elements"

abbrev pub opened : Parser → List Open
opened p = p.page.opened

-- the kind of the current node, and of "the adjusted current node"; before any is open that of an html element
abbrev pub kind_at_top : List Open → Kind
kind_at_top [] = HtmlRoot
kind_at_top (e ∷ es) = e.kind

abbrev pub adjusted_kind : Option Context → List Open → Kind
adjusted_kind (Some context) (e ∷ []) = context.kind
adjusted_kind context opened = kind_at_top opened

abbrev pub is_current : (Kind → Bool) → Parser → Bool
is_current test p = current_passes (has_kind test) p.page.opened

abbrev pub has_template : Parser → Bool
has_template p = has_open (has_kind is_template) p.page.opened

abbrev pub in_scope : (Open → Bool) → Parser → Bool
in_scope test p = has_in_scope ends_scope test p.page.opened

abbrev pub in_button_scope : (Open → Bool) → Parser → Bool
in_button_scope test p = has_in_scope ends_button_scope test p.page.opened

abbrev pub in_table_scope : (Open → Bool) → Parser → Bool
in_table_scope test p = has_in_scope ends_table_scope test p.page.opened

abbrev pub has_context : Option Context → Bool
has_context None = false
has_context (Some context) = true

abbrev pub is_fragment : Parser → Bool
is_fragment p = has_context p.options.context

abbrev pub pop : Parser → Parser
pop p = on_page popped p

abbrev pub pop_until : (Open → Bool) → Parser → Parser
pop_until test p = on_page (popped_until test) p

abbrev pub pop_while : (Open → Bool) → Parser → Parser
pop_while test p = on_page (popped_while test) p

-- "Clear the stack back to a table context", "to a table body context", "to a table row context"
abbrev pub cleared_back_to : (Kind → Bool) → Parser → Parser
cleared_back_to context p = pop_while (λ e. not (context e.kind)) p

-- "If the current node is not" such an element, "then this is a parse error"
abbrev pub expects_current : (Open → Bool) → Parser → Parser
expects_current test p = if current_passes test p.page.opened then p else mistaken UnclosedElements p

-- ---- "Closing elements that have implied end tags"

-- "Generate implied end tags", except for some elements
abbrev pub implied_ended_but : (Open → Bool) → Parser → Parser
implied_ended_but but p = pop_while (λ e. is_implied e.kind && not (but e)) p

abbrev pub implied_ended : Parser → Parser
implied_ended p = pop_while (has_kind is_implied) p

abbrev pub all_implied_ended : Parser → Parser
all_implied_ended p = pop_while (has_kind is_implied_thoroughly) p

-- "generate implied end tags", with a parse error where another node is then the current one, "pop elements until such an element has been
-- popped"
abbrev pub ended : (Open → Bool) → Parser → Parser
ended test p = pop_until test (expects_current test (implied_ended p))

-- the same where implied end tags of these elements themselves aren't generated
abbrev pub ended_without_implied : (Open → Bool) → Parser → Parser
ended_without_implied test p = pop_until test (expects_current test (implied_ended_but test p))

-- "Close a p element"
abbrev pub paragraph_closed : Parser → Parser
paragraph_closed p = ended_without_implied (has_kind is_paragraph) p

-- "If the stack of open elements has a p element in button scope, then close a p element"
abbrev pub without_paragraph : Parser → Parser
without_paragraph p = if in_button_scope (has_kind is_paragraph) p then paragraph_closed p else p

-- ---- "Creating and inserting nodes"

-- whether what is put into the first of these elements is foster parented
abbrev pub is_fostered : Parser → List Open → Bool
is_fostered p target = p.fostering && current_passes (has_kind is_fostering) target

-- "The appropriate place for inserting a node", with the target as override
abbrev pub last_child_of : List Open → Place
last_child_of [] = LastChild 0
last_child_of (e ∷ es) = LastChild (inside e)

abbrev pub place_in : Parser → List Open → Place
place_in p target = if is_fostered p target then foster_place p.page.opened else last_child_of target

-- whether more elements are open than the limit allows; an element that is popped at once, and a comment, may be one deeper
abbrev pub is_too_deep : (extra : ℕ) → Option ℕ → List Open → Bool
is_too_deep extra None opened = false
is_too_deep extra (Some limit) opened = nat_lt (limit + extra) (length opened)

abbrev pub within_depth : (extra : ℕ) → Option ℕ → List Open → Place
within_depth extra limit [] = LastChild 0
within_depth extra limit (e ∷ es) = if is_too_deep extra limit (e ∷ es) then BesideNode e.node else LastChild (inside e)

abbrev pub place_of : (extra : ℕ) → Parser → Place
place_of extra p =
    if is_fostered p p.page.opened then foster_place p.page.opened else within_depth extra p.options.depth_limit p.page.opened

-- "Create an element for a token", step "if element is a form-associated element": what its form is
abbrev pub takes_form : Parser → Kind → List AttributeOf → Bool
takes_form p kind attributes =
    is_form_associated kind && not (has_template p) && not (is_listed kind && has_attribute (codes "form") attributes)

abbrev pub associated_with : Option ℕ → Bool → ℕ → Place → Page → Page
associated_with None takes n place page = page
associated_with (Some form) takes n place page = if takes then edited (AssociateForm n form place) page else page

-- "Insert an HTML element", "insert a foreign element": it is put at a place, and becomes the current node
abbrev pub inserted_at : Place → Kind → List ℕ → List AttributeOf → Parser → Parser
inserted_at place kind name attributes p =
    let n : ℕ = p.page.next in
    on_page (λ page. pushed kind name n (edited (Put place n)
    (associated_with p.form (takes_form p kind attributes) n place (made kind name attributes page)))) p

abbrev pub inserted : Kind → List ℕ → List AttributeOf → Parser → Parser
inserted kind name attributes p = inserted_at (place_of 0 p) kind name attributes p

-- "Insert an HTML element for the token"
abbrev pub insert : StartTagOf → Parser → Parser
insert tag p = inserted (kind_of tag.name) tag.name tag.attributes p

-- the same, and "immediately pop the current node off the stack of open elements. Acknowledge the token's self-closing flag, if it is set"
abbrev pub insert_void : StartTagOf → Parser → Parser
insert_void tag p = acknowledges (pop (inserted_at (place_of 1 p) (kind_of tag.name) tag.name tag.attributes p))

-- "Insert a character"; no row inserts one before an element is open
abbrev pub insert_text : List ℕ → Parser → Parser
insert_text text p = on_page (edited (PutText (place_in p p.page.opened) text)) p

abbrev pub insert_character : ℕ → Parser → Parser
insert_character c p = insert_text (c ∷ []) p

-- "Insert a comment"
abbrev pub insert_comment : List ℕ → Parser → Parser
insert_comment text p = on_page (comment_put (place_of 1 p) text) p

-- "Insert a comment as the last child of the Document object", and "of the first element in the stack of open elements"
abbrev pub insert_comment_in_document : List ℕ → Parser → Parser
insert_comment_in_document text p = on_page (comment_put (LastChild 0) text) p

abbrev pub insert_comment_in_root : List ℕ → Parser → Parser
insert_comment_in_root text p = on_page (comment_put (LastChild (first_open p.page.opened)) text) p

-- ---- "Parsing elements that contain only text"

-- the tokenizer reads what follows in a state of its own, and its text is inserted by the rules of the "text" insertion mode
abbrev pub reads_text : RawKind → Parser → Parser
reads_text kind p = record (asked (ReadRaw kind) p) { original_mode = p.mode; mode = TextMode }

-- "The generic raw text element parsing algorithm", "the generic RCDATA element parsing algorithm"
abbrev pub insert_with_text : RawKind → StartTagOf → Parser → Parser
insert_with_text kind tag p = reads_text kind (insert tag p)

-- ---- end of parsing

abbrev pub stop_parsing : Parser → Parser
stop_parsing p = record (pop_while (λ e. true) p) { stopped = true }
