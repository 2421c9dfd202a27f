-- In the body of a page, outside svg and math, the parser asks for what the standard's elements ask for by their names.
use Rattle.std.proofs.Common.{◌≡◌, ℕ, Bool, true, false, List, refl, ap, sym, ◌∙◌, arith}
use Rattle.std.specs.Prelude.{suc, ◌+◌, ◌&&◌, not, codes, length, if◌then◌else◌}
use Rattle.std.specs.Str.{bytes_eq}
use Rattle.std.proofs.lemmas.Bool.{false≢true}
use Rattle.markup5ever.proofs.NameOrder.{bytes_eq-same}
use Rattle.html5ever_interface.specs.Token.{Reply, TagOf, keeps_state}
use Rattle.html5ever_interface.specs.Token.Told.{Tag}
use Rattle.html5ever_interface.specs.Token.Reply.{KeepOn, ReadPlainText, ReadRawData, RunScript, SwitchEncoding}
use Rattle.html5ever_interface.specs.declared.interface.token.TagKind.{TagKind}
use Rattle.html5ever_interface.specs.declared.interface.token.TagKind.TheVariants.{EndTag as IsEnd, StartTag as IsStart}
use Rattle.html5reading.specs.Reading.{open_after_reply}
use Rattle.html5reading.specs.Start.Mode.{Data}
use Rattle.html5reading.specs.Start.Open.{Between}
use Rattle.html5sinks.specs.Replies.{raw_text_in, reply_by_kind, standard_reply, standard_reply_to_start}
use Rattle.html5ever_interface.specs.declared.states.RawKind.TheVariants.{Rawtext, Rcdata, ScriptData}
use Rattle.tree_construction.specs.declared.kinds.Kind.{Kind}
use Rattle.tree_construction.specs.declared.kinds.Kind.TheVariants.{Iframe, Noembed, Noframes, Plaintext, Script, Style, Textarea, Title, Xmp}
use Rattle.tree_construction.specs.declared.mistakes.Mistake.TheVariants.{TrailingSolidus}
use Rattle.tree_construction.specs.declared.modes.Mode.{Mode}
use Rattle.tree_construction.specs.declared.modes.Mode.TheVariants.{InBody, InCaption, InCell, InRow, InTable, InTableBody}
use Rattle.tree_construction.specs.Construction.{dispatched, enough, in_current_mode, in_html_content, is_ignored_newline, process, run, step, takes_as_html}
use Rattle.tree_construction.specs.ForeignContent.{in_foreign_content}
use Rattle.tree_construction.specs.InBody.{in_body, start_in_body}
use Rattle.tree_construction.specs.Names.{all_names, is_among, is_html, kind_in, kind_of}
use Rattle.tree_construction.specs.Parser.{Again, Parser, Request, adjusted_kind, mistaken, unexpected}
use Rattle.tree_construction.specs.Parser.Request.{GoOn, ReadPlain, ReadRaw}
use Rattle.tree_construction.specs.Tables.{is_part, row_start, table_body_start, table_start}
use Rattle.tree_construction.specs.Text.{replied_by, reply_of}
use Rattle.tree_construction.specs.Tokens.{StartTagOf}
use Rattle.tree_construction.specs.Tokens.Token.{StartTag}
use Rattle.tree_laws.specs.Laws.{IsInBody, is_body_mode}
use Rattle.tree_laws.proofs.Calm.{asks_text}
use Rattle.tree_laws.proofs.Following.{AllOf, among-all, calm-step, follows, is_row_of_texts, text-name, text_names}

-- a reply that keeps the state, and how the tokenizer goes on
keeps-open : {H : Type 0} → (last : List ℕ) (r : Reply H) → keeps_state r ≡ true → open_after_reply last r ≡ Between Data
keeps-open last KeepOn keeps = refl
keeps-open last ReadPlainText keeps = absurd (false≢true keeps)
keeps-open last (ReadRawData kind) keeps = absurd (false≢true keeps)
keeps-open last (RunScript handle) keeps = refl
keeps-open last (SwitchEncoding text) keeps = refl

-- ---- what a start tag asks for, by its kind

request_of : Kind → Request
request_of Title = ReadRaw Rcdata
request_of Textarea = ReadRaw Rcdata
request_of Style = ReadRaw Rawtext
request_of Noframes = ReadRaw Rawtext
request_of Xmp = ReadRaw Rawtext
request_of Iframe = ReadRaw Rawtext
request_of Noembed = ReadRaw Rawtext
request_of Script = ReadRaw ScriptData
request_of Plaintext = ReadPlain
request_of _ = GoOn

in-body : (again : Again) (kind : Kind) (tag : StartTagOf) (p : Parser) → asks_text kind ≡ true
    → (start_in_body again kind tag p).request ≡ request_of kind
unfolding request_of
in-body again Title tag p asks = refl
in-body again Textarea tag p asks = refl
in-body again Style tag p asks = refl
in-body again Noframes tag p asks = refl
in-body again Xmp tag p asks = refl
in-body again Iframe tag p asks = refl
in-body again Noembed tag p asks = refl
in-body again Script tag p asks = refl
in-body again Plaintext tag p asks = refl
in-body again _ tag p asks = absurd (false≢true asks)

-- by the rules of "in body", for a tag of that kind
by-body : (again : Again) (kind : Kind) (tag : StartTagOf) (p : Parser) → kind_of tag.name ≡ kind → asks_text kind ≡ true
    → (in_body again (StartTag tag) p).request ≡ request_of kind
by-body again kind tag p is asks = ap (λ k. (start_in_body again k tag p).request) is ∙ in-body again kind tag p asks

in-table : (again : Again) (kind : Kind) (tag : StartTagOf) (p : Parser) → kind_of tag.name ≡ kind → asks_text kind ≡ true
    → (table_start again kind tag p).request ≡ request_of kind
unfolding request_of
in-table again Style tag p is asks = refl
in-table again Script tag p is asks = refl
in-table again Title tag p is asks = by-body again Title tag (record (unexpected p) { fostering = true }) is asks
in-table again Textarea tag p is asks = by-body again Textarea tag (record (unexpected p) { fostering = true }) is asks
in-table again Noframes tag p is asks = by-body again Noframes tag (record (unexpected p) { fostering = true }) is asks
in-table again Xmp tag p is asks = by-body again Xmp tag (record (unexpected p) { fostering = true }) is asks
in-table again Iframe tag p is asks = by-body again Iframe tag (record (unexpected p) { fostering = true }) is asks
in-table again Noembed tag p is asks = by-body again Noembed tag (record (unexpected p) { fostering = true }) is asks
in-table again Plaintext tag p is asks = by-body again Plaintext tag (record (unexpected p) { fostering = true }) is asks
in-table again _ tag p is asks = absurd (false≢true asks)

-- no part of a table asks for text
no-part : (kind : Kind) → asks_text kind ≡ true → is_part kind ≡ false
no-part Title asks = refl
no-part Textarea asks = refl
no-part Style asks = refl
no-part Noframes asks = refl
no-part Xmp asks = refl
no-part Iframe asks = refl
no-part Noembed asks = refl
no-part Script asks = refl
no-part Plaintext asks = refl
no-part _ asks = absurd (false≢true asks)

in-table-body : (again : Again) (kind : Kind) (tag : StartTagOf) (p : Parser) → kind_of tag.name ≡ kind → asks_text kind ≡ true
    → (table_body_start again kind tag p).request ≡ request_of kind
in-table-body again Title tag p is asks = in-table again Title tag p is asks
in-table-body again Textarea tag p is asks = in-table again Textarea tag p is asks
in-table-body again Style tag p is asks = in-table again Style tag p is asks
in-table-body again Noframes tag p is asks = in-table again Noframes tag p is asks
in-table-body again Xmp tag p is asks = in-table again Xmp tag p is asks
in-table-body again Iframe tag p is asks = in-table again Iframe tag p is asks
in-table-body again Noembed tag p is asks = in-table again Noembed tag p is asks
in-table-body again Script tag p is asks = in-table again Script tag p is asks
in-table-body again Plaintext tag p is asks = in-table again Plaintext tag p is asks
in-table-body again _ tag p is asks = absurd (false≢true asks)

in-row : (again : Again) (kind : Kind) (tag : StartTagOf) (p : Parser) → kind_of tag.name ≡ kind → asks_text kind ≡ true
    → (row_start again kind tag p).request ≡ request_of kind
in-row again Title tag p is asks = in-table again Title tag p is asks
in-row again Textarea tag p is asks = in-table again Textarea tag p is asks
in-row again Style tag p is asks = in-table again Style tag p is asks
in-row again Noframes tag p is asks = in-table again Noframes tag p is asks
in-row again Xmp tag p is asks = in-table again Xmp tag p is asks
in-row again Iframe tag p is asks = in-table again Iframe tag p is asks
in-row again Noembed tag p is asks = in-table again Noembed tag p is asks
in-row again Script tag p is asks = in-table again Script tag p is asks
in-row again Plaintext tag p is asks = in-table again Plaintext tag p is asks
in-row again _ tag p is asks = absurd (false≢true asks)

-- where parts of tables go elsewhere, and other tags by the rules of "in body"
unless-part : (again : Again) (kind : Kind) (tag : StartTagOf) (p part : Parser) → kind_of tag.name ≡ kind → asks_text kind ≡ true
    → (if is_part (kind_of tag.name) then part else in_body again (StartTag tag) p).request ≡ request_of kind
unless-part again kind tag p part is asks =
    ap (λ (test : Bool). (if test then part else in_body again (StartTag tag) p).request) (ap is_part is ∙ no-part kind asks)
    ∙ by-body again kind tag p is asks

in-mode : (again : Again) (mode : Mode) (kind : Kind) (tag : StartTagOf) (p : Parser) → is_body_mode mode ≡ true → kind_of tag.name ≡ kind
    → asks_text kind ≡ true → (in_html_content again mode (StartTag tag) p).request ≡ request_of kind
in-mode again InBody kind tag p body is asks = by-body again kind tag p is asks
in-mode again InTable kind tag p body is asks = ap (λ k. (table_start again k tag p).request) is ∙ in-table again kind tag p is asks
in-mode again InTableBody kind tag p body is asks = ap (λ k. (table_body_start again k tag p).request) is ∙ in-table-body again kind tag p is asks
in-mode again InRow kind tag p body is asks = ap (λ k. (row_start again k tag p).request) is ∙ in-row again kind tag p is asks
in-mode again InCaption kind tag p body is asks = unless-part again kind tag p _ is asks
in-mode again InCell kind tag p body is asks = unless-part again kind tag p _ is asks
in-mode again _ kind tag p body is asks = absurd (false≢true body)

-- ---- a step

not-a-newline : (ignores : Bool) (tag : StartTagOf) → is_ignored_newline ignores (StartTag tag) ≡ false
not-a-newline true tag = refl
not-a-newline false tag = refl

request-if : (test : Bool) (p q : Parser) (request : Request) → p.request ≡ request → q.request ≡ request → (if test then p else q).request ≡ request
request-if true p q request g h = g
request-if false p q request g h = h

html-from : (test : Bool) → not test ≡ false → test ≡ true
html-from true is = refl
html-from false is = absurd (false≢true (sym is))

dispatched-html : (again : Again) (kind : Kind) (tag : StartTagOf) (p : Parser) → IsInBody p → kind_of tag.name ≡ kind → asks_text kind ≡ true
    → (dispatched again (StartTag tag) p).request ≡ request_of kind
dispatched-html again kind tag p body is asks =
    let current : Kind = adjusted_kind p.options.context p.page.opened in
    let html : is_html current ≡ true = html-from (is_html current) body.html in
    let taken : takes_as_html current (StartTag tag) ≡ true = rw html refl in
    ap (λ (test : Bool). (if test then in_current_mode again (StartTag tag) p else in_foreign_content (in_current_mode again) (StartTag tag) p).request) taken
    ∙ in-mode again p.mode kind tag p body.mode is asks

process-html : (times : ℕ) (kind : Kind) (tag : StartTagOf) (p : Parser) → IsInBody p → kind_of tag.name ≡ kind → asks_text kind ≡ true
    → (process (suc times) (StartTag tag) p).request ≡ request_of kind
unfolding process
process-html times kind tag p body is asks = dispatched-html (λ later again. process times again later) kind tag p body is asks

asked-by-step : (p : Parser) (kind : Kind) (tag : StartTagOf) → IsInBody p → kind_of tag.name ≡ kind → asks_text kind ≡ true
    → (step (StartTag tag) p).request ≡ request_of kind
unfolding step
asked-by-step p kind tag body is asks =
    let fresh : Parser = record p { ignores_newline = false; request = GoOn; acknowledged = false } in
    let later : Parser = process (enough p) (StartTag tag) fresh in
    let many : enough p ≡ suc (7 + length p.template_modes) = omega arith in
    let fresh_body : IsInBody fresh = record { mode = body.mode; html = body.html; without_scripting = body.without_scripting } in
    let asked_now : later.request ≡ request_of kind =
    ap (λ times. (process times (StartTag tag) fresh).request) many ∙ process-html (7 + length p.template_modes) kind tag fresh fresh_body is asks in
    let noted : Parser = if tag.self_closing && not later.acknowledged then mistaken TrailingSolidus later else later in
    ap (λ (test : Bool). (if test then fresh else noted).request) (not-a-newline p.ignores_newline tag)
    ∙ request-if (tag.self_closing && not later.acknowledged) (mistaken TrailingSolidus later) later (request_of kind) asked_now asked_now

-- ---- by names

-- after a start tag of one of these names the tokenizer goes on as after the standard's reply
abbrev GoesOnByName : List ℕ → Type 0
GoesOnByName name = (last : List ℕ) → open_after_reply last (reply_of (request_of (kind_of name))) ≡ open_after_reply last (standard_reply_to_start name)

all-by-name : AllOf GoesOnByName text_names
unfolding AllOf text_names request_of reply_of kind_of all_names kind_in is_among standard_reply_to_start raw_text_in
all-by-name = (λ last. refl, (λ last. refl, (λ last. refl, (λ last. refl, (λ last. refl, (λ last. refl, (λ last. refl, (λ last. refl, (λ last. refl, tt)))))))))

by-name : (name : List ℕ) → asks_text (kind_of name) ≡ true → GoesOnByName name
unfolding kind_of all_names is_row_of_texts text_names is_among
by-name name asks = among-all GoesOnByName name text_names all-by-name (text-name all_names name refl asks)

-- and after one of another name it goes on by both
not-name : (name text : List ℕ) → asks_text (kind_of text) ≡ true → asks_text (kind_of name) ≡ false → bytes_eq name text ≡ false
not-name name text asks none = by_test (bytes_eq name text) refl
  where
    by_test : (same : Bool) → bytes_eq name text ≡ same → same ≡ false
    by_test false same = refl
    by_test true same = absurd (false≢true (sym none ∙ ap (λ n. asks_text (kind_of n)) (bytes_eq-same name text same) ∙ asks))

other-name : (name : List ℕ) → asks_text (kind_of name) ≡ false → keeps_state (standard_reply_to_start name) ≡ true
unfolding standard_reply_to_start raw_text_in kind_of all_names kind_in is_among
other-name name none =
    rw (
      not-name name (codes "plaintext") refl none,
      not-name name (codes "title") refl none,
      not-name name (codes "textarea") refl none,
      not-name name (codes "style") refl none,
      not-name name (codes "xmp") refl none,
      not-name name (codes "iframe") refl none,
      not-name name (codes "noembed") refl none,
      not-name name (codes "noframes") refl none,
      not-name name (codes "script") refl none,
    ) refl

by-kind : (p : Parser) (tag : TagOf) (line : ℕ) (last : List ℕ) (kind : TagKind) → IsInBody p → (asks : Bool) → asks_text (kind_of tag.name) ≡ asks
    → open_after_reply last (replied_by p (Tag (record tag { kind = kind })) line) ≡ open_after_reply last (reply_by_kind kind tag.name)
unfolding run
by-kind p tag line last IsEnd body asks is =
    keeps-open last (replied_by p (Tag (record tag { kind = IsEnd })) line) (follows p (record tag { kind = IsEnd }) line body.without_scripting refl)
by-kind p tag line last IsStart body true is =
    let token : StartTagOf = record { name = tag.name; attributes = tag.attributes; self_closing = tag.self_closing } in
    ap (λ r. open_after_reply last (reply_of r)) (asked-by-step p (kind_of tag.name) token body refl is) ∙ by-name tag.name is last
by-kind p tag line last IsStart body false is =
    let token : StartTagOf = record { name = tag.name; attributes = tag.attributes; self_closing = tag.self_closing } in
    keeps-open last (reply_of (step (StartTag token) p).request) (calm-step (StartTag token) p is body.without_scripting).goes_on
    ∙ sym (keeps-open last (standard_reply_to_start tag.name) (other-name tag.name is))

pub replies-by-name : (p : Parser) (tag : TagOf) (line : ℕ) (last : List ℕ) → IsInBody p
    → open_after_reply last (replied_by p (Tag tag) line) ≡ open_after_reply last (standard_reply tag)
replies-by-name p tag line last body = by-kind p tag line last tag.kind body (asks_text (kind_of tag.name)) refl
