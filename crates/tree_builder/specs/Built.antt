-- What a builder holds, as a parser of the definition.
use Rattle.std.specs.Prelude.{ℕ, suc, Bool, true, false, not, List, [], ◌∷◌, ◌&&◌, Option, Some, None, codes, option_map, string_bytes, if◌then◌else◌}
use Rattle.markup5ever.specs.Names.{AttributeOf}
use Rattle.tree_construction.specs.Names.{ends_table_scope, is_body_context, is_implied, is_implied_thoroughly, is_row_context, is_template, namespace_of}
use Rattle.tree_construction.specs.ForeignContent.{stays_foreign}
use Rattle.tree_construction.specs.Page.{Open, Page, Place, contents_of, edited, pushed}
use Rattle.tree_construction.specs.Page.Edit.{MakeElement, Put}
use Rattle.tree_construction.specs.declared.kinds.Kind.{Kind}
use Rattle.tree_construction.specs.declared.kinds.Namespace.{Namespace}
use Rattle.tree_construction.specs.declared.modes.Mode.{Mode}
use Rattle.tree_construction.specs.Parser.{Again, Context, Options, Parser, Request, associated_with, on_page, place_in}
use Rattle.tree_construction.specs.Formatting.{Listed, reopened_one}
use Rattle.tree_sink.specs.Sinks.{text_put}
use Rattle.tree_construction.specs.Parser.Request.{GoOn, ReadRaw, ReadPlain, Run, UseCharset, UseContent}
use Rattle.tree_construction.specs.Tokens.{StartTagOf, Token}
use Rattle.tree_construction.specs.Tokens.Token.{StartTag}
use Rattle.tree_names.specs.ElementNames.{name_bytes}
use Rattle.tree_lists.specs.Wanted.{is_wanted}
use Rattle.tree_builder.specs.declared.options.TreeBuilderOpts.{TreeBuilderOpts}
use Rattle.tree_builder.specs.declared.options.FragmentContext.{FragmentContext}
use Rattle.tree_builder.specs.declared.request.Request.{Request as RequestOf}
use Rattle.tree_builder.specs.declared.request.Request.TheVariants.{GoOn as GoOnOf, ReadRaw as ReadRawOf, ReadPlain as ReadPlainOf, Run as RunOf, UseCharset as UseCharsetOf, UseContent as UseContentOf}
use Rattle.tree_builder.specs.declared.tag.StartTag.{StartTag as TagOf}
use Rattle.tree_builder.specs.declared.tag.Step.{Step}
use Rattle.tree_builder.specs.declared.tag.Step.TheVariants.{Done, Again as AgainStep, AsImage, FosteredAgain, FosteredAsImage}
use Rattle.tree_builder.specs.declared.closing.PopTest.{PopTest}
use Rattle.tree_builder.specs.declared.closing.PopTest.TheVariants.{Implied, ImpliedBut, Thoroughly, OutsideTable, OutsideTableBody, OutsideTableRow, Foreign, Any}

-- what is known of the sink: how it was when the builder began, how often it faulted, and whether it faulted at an edit of this builder
pub record Telling (Q : Type 0) : Type 0 where
  pub start : Option Q
  pub faults : ℕ
  pub failed : Bool

pub record Built (Q : Type 0) : Type 0 where
  pub parser : Parser
  pub telling : Telling Q

abbrev pub on_parser : {Q : Type 0} → (Parser → Parser) → Built Q → Built Q
on_parser change b = record b { parser = change b.parser }

abbrev pub context_of : FragmentContext → Context
context_of context = record { kind = context.kind; in_form = context.in_form; quirks_mode = context.quirks_mode }

abbrev pub options_of : TreeBuilderOpts → Option FragmentContext → Options
options_of opts context = record {
  scripting = opts.scripting_enabled;
  iframe_srcdoc = opts.iframe_srcdoc;
  context = option_map context_of context;
  depth_limit = opts.depth_limit;
  formatting_limit = opts.formatting_limit;
}

abbrev pub request_of : {H Z : Type 0} → (H → ℕ) → RequestOf H Z → Request
request_of node GoOnOf = GoOn
request_of node (ReadRawOf kind) = ReadRaw kind
request_of node ReadPlainOf = ReadPlain
request_of node (RunOf handle) = Run (node handle)
request_of node (UseCharsetOf text) = UseCharset (string_bytes text)
request_of node (UseContentOf text) = UseContent (string_bytes text)

abbrev pub tag_of : {T Z : Type 0} → (T → List AttributeOf) → TagOf T Z → StartTagOf
tag_of said tag = record { name = name_bytes tag.name; attributes = said tag.attributes; self_closing = tag.self_closing }

-- "Change the token's tag name to img"
abbrev pub as_image : Token → Token
as_image (StartTag tag) = StartTag (record tag { name = codes "img" })
as_image token = token

-- "disable foster parenting"
abbrev pub unfostered : Parser → Parser
unfostered p = record p { fostering = false }

-- what follows a row
abbrev pub followed : Again → Step → Parser → Token → Parser
followed again Done p token = p
followed again AgainStep p token = again p token
followed again AsImage p token = again p (as_image token)
followed again FosteredAgain p token = unfostered (again p token)
followed again FosteredAsImage p token = unfostered (again p (as_image token))

-- which elements are popped while they are the current node
abbrev pub is_popped : {H Z : Type 0} → (H → ℕ) → PopTest H Z → Open → Bool
is_popped node Implied e = is_implied e.kind
is_popped node (ImpliedBut but) e = is_implied e.kind && not (is_wanted node but.now e)
is_popped node Thoroughly e = is_implied_thoroughly e.kind
is_popped node OutsideTable e = not (ends_table_scope e.kind)
is_popped node OutsideTableBody e = not (is_body_context e.kind)
is_popped node OutsideTableRow e = not (is_row_context e.kind)
is_popped node Foreign e = stays_foreign e
is_popped node Any e = true

-- an element that was made without template contents, and the contents of one that is a template
abbrev pub created : Namespace → List ℕ → List AttributeOf → Page → Page
created namespace name attributes page =
    record page { next = suc page.next; edits = MakeElement page.next namespace name attributes ∷ page.edits }

abbrev pub with_contents : Kind → ℕ → Page → Page
with_contents kind n page =
    record page { next = if is_template kind then suc page.next else page.next; edits = contents_of kind n page.edits }

-- an element that was made of attributes which have the names of its namespace
abbrev pub made_as : Kind → List ℕ → List AttributeOf → Page → Page
made_as kind name attributes page = with_contents kind page.next (created (namespace_of kind) name attributes page)

-- and inserted
abbrev pub inserted_as : Place → Kind → List ℕ → List AttributeOf → (takes : Bool) → Parser → Parser
inserted_as place kind name attributes takes p =
    let n : ℕ = p.page.next in
    on_page (λ page. pushed kind name n (edited (Put place n) (associated_with p.form takes n place (made_as kind name attributes page)))) p

-- after a text that is put at the appropriate place, byte by byte
abbrev pub texted : List ℕ → Parser → Parser
texted text p = on_page (λ page. record page { edits = text_put (place_in p p.page.opened) text page.edits }) p

-- after elements that are opened again, the earliest first
unfoldable pub reopened_all : List Listed → Parser → Parser
reopened_all [] p = p
reopened_all (e ∷ es) p = reopened_all es (reopened_one e p)

abbrev pub mode_or : Option Mode → Mode → Mode
mode_or None outer = outer
mode_or (Some mode) outer = mode
