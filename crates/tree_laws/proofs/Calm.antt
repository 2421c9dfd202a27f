-- After a tag of a name that asks for no text, the tokenizer goes on: the steps that set a request. CalmSteps goes on with all others.
use Rattle.std.proofs.Common.{◌≡◌, ℕ, Bool, true, false, List, [], ◌∷◌, refl, subst, sym}
use Rattle.std.specs.Prelude.{codes, Option, Some, None, if◌then◌else◌}
use Rattle.markup5ever.specs.Names.{AttributeOf}
use Rattle.html5ever_interface.specs.Token.{keeps_state}
use Rattle.html5ever_interface.specs.declared.states.RawKind.TheVariants.{Rawtext}
use Rattle.tree_construction.specs.declared.kinds.Kind.{Kind}
use Rattle.tree_construction.specs.declared.kinds.Kind.TheVariants.{Iframe, Noembed, Noframes, Plaintext, Script, Style, Textarea, Title, Xmp}
use Rattle.tree_construction.specs.declared.mistakes.Mistake.TheVariants.{UnclosedAtEnd}
use Rattle.tree_construction.specs.declared.modes.Mode.TheVariants.{InHeadNoscript}
use Rattle.tree_construction.specs.BeforeBody.{asks_content, asks_encoding, back, current_number, in_head_noscript_start, is_content_type, mark_current, text_end, text_mode}
use Rattle.tree_construction.specs.ForeignContent.{run_script}
use Rattle.tree_construction.specs.Formatting.{Listed, reopened, still_listed, to_reopen}
use Rattle.tree_construction.specs.InBody.{any_other_start_tag, start_noscript}
use Rattle.tree_construction.specs.Names.{is_script, kind_of}
use Rattle.tree_construction.specs.Page.{Page}
use Rattle.tree_construction.specs.Parser.{Again, Options, Parser, Request, in_mode, insert, insert_with_text, is_current, mistaken, on_page, pop}
use Rattle.tree_construction.specs.Parser.Request.{Run, UseCharset, UseContent}
use Rattle.tree_construction.specs.Text.{reply_of}
use Rattle.tree_construction.specs.Tokens.{StartTagOf, Token, value_of}
use Rattle.tree_construction.specs.Tokens.Token.{Character, EndOfFile, EndTag, StartTag}

-- names after whose start tags tree construction may ask for text
abbrev pub asks_text : Kind → Bool
asks_text Title = true
asks_text Textarea = true
asks_text Style = true
asks_text Noframes = true
asks_text Xmp = true
asks_text Iframe = true
asks_text Noembed = true
asks_text Script = true
asks_text Plaintext = true
asks_text other = false

abbrev pub asks_text_by : Token → Bool
asks_text_by (StartTag tag) = asks_text (kind_of tag.name)
asks_text_by other = false

-- the tokenizer goes on, at once or after a pause; and scripting is off
pub record PartIsCalm (request : Request) (options : Options) : Type 0 where
  pub goes_on : keeps_state (reply_of request) ≡ true
  pub without_scripting : options.scripting ≡ false

abbrev pub IsCalm : Parser → Type 0
IsCalm p = PartIsCalm p.request p.options

pub calm-if-parser : (test : Bool) (p q : Parser) → IsCalm p → IsCalm q → IsCalm (if test then p else q)
calm-if-parser true p q g h = g
calm-if-parser false p q g h = h

pub calm-on_page : (change : Page → Page) (p : Parser) → IsCalm p → IsCalm (on_page change p)
calm-on_page change p h = h

-- ---- requests that let the tokenizer go on

with-request : (request : Request) (p : Parser) → keeps_state (reply_of request) ≡ true → IsCalm p → IsCalm (record p { request = request })
with-request request p goes_on h = record { goes_on = goes_on; without_scripting = h.without_scripting }

pub calm-asks_content : (says : Bool) (content : Option (List ℕ)) (p : Parser) → IsCalm p → IsCalm (asks_content says content p)
unfolding reply_of
calm-asks_content true (Some content) p h = with-request (UseContent content) p refl h
calm-asks_content true None p h = h
calm-asks_content false content p h = h

pub calm-asks_encoding : (attributes : List AttributeOf) (charset : Option (List ℕ)) (p : Parser) → IsCalm p → IsCalm (asks_encoding attributes charset p)
unfolding reply_of
calm-asks_encoding attributes (Some charset) p h = with-request (UseCharset charset) p refl h
calm-asks_encoding attributes None p h =
    calm-asks_content (is_content_type (value_of (codes "http-equiv") attributes)) (value_of (codes "content") attributes) p h

pub calm-run_script : (p : Parser) → IsCalm p → IsCalm (run_script p)
unfolding reply_of
calm-run_script p h = with-request (Run (current_number p.page.opened)) (pop p) refl h

calm-text_end : (kind : Kind) (p : Parser) → IsCalm p → IsCalm (text_end kind p)
unfolding reply_of
calm-text_end Script p h = with-request (Run (current_number p.page.opened)) (back p) refl h
calm-text_end _ p h = h

-- "text"
pub calm-text_mode : (again : Again) → ((q : Parser) → (t : Token) → asks_text_by t ≡ false → IsCalm q → IsCalm (again q t)) → (token : Token)
    → asks_text_by token ≡ false → (p : Parser) → IsCalm p → IsCalm (text_mode again token p)
calm-text_mode again keeps (Character c) q p h = h
calm-text_mode again keeps (EndTag name) q p h = calm-text_end (kind_of name) p h
calm-text_mode again keeps EndOfFile q p h =
    let noted : Parser = mistaken UnclosedAtEnd p in
    let marked : Parser = if is_current is_script p then mark_current noted else noted in
    keeps (back marked) EndOfFile refl (calm-if-parser (is_current is_script p) (mark_current noted) noted h h)
calm-text_mode again keeps _ q p h = h

-- ---- `noscript`, without scripting

off : (p : Parser) (q r : Parser) → IsCalm p → IsCalm r → IsCalm (if p.options.scripting then q else r)
off p q r h g = subst (λ scripting. IsCalm (if scripting then q else r)) (sym h.without_scripting) g

pub calm-in_head_noscript_start : (tag : StartTagOf) → asks_text (kind_of tag.name) ≡ false → (p : Parser) → IsCalm p
    → IsCalm (in_head_noscript_start tag p)
calm-in_head_noscript_start tag q p h = off p (insert_with_text Rawtext tag p) (in_mode InHeadNoscript (insert tag p)) h h

pub calm-reopened : (es : List Listed) (p : Parser) → IsCalm p → IsCalm (reopened es p)
unfolding reopened
calm-reopened [] p h = h
calm-reopened (e ∷ es) p h = calm-reopened es p h

pub calm-start_noscript : (tag : StartTagOf) → asks_text (kind_of tag.name) ≡ false → (p : Parser) → IsCalm p → IsCalm (start_noscript tag p)
calm-start_noscript tag q p h =
    off p (insert_with_text Rawtext tag p) (any_other_start_tag tag p) h
    (calm-reopened (to_reopen p.page.opened p.formatting) (record p { formatting = still_listed p.page.opened p.formatting }) h)
