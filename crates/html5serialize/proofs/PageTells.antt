-- What the tokens of a page tell, written where they stand, before more of that page.
use Rattle.std.proofs.Common.{◌≡◌, ℕ, Bool, true, false, List, [], ◌∷◌, ◌++◌, Some, map, refl, ap, sym, ◌∙◌, subst}
use Rattle.std.specs.Prelude.{◌==◌, not, chars, encode_utf8, flat_map, if◌then◌else◌}
use Rattle.std.specs.List.{list_all}
use Rattle.std.specs.Str.{IsUtf8}
use Rattle.std.proofs.Math.Bool.{and-false}
use Rattle.std.proofs.lemmas.Bool.{and_parts, false≢true, not-true}
use Rattle.std.proofs.lemmas.List.{append_assoc, append-nil}
use Rattle.std.proofs.lemmas.Str.{chars_from_encodes}
use Rattle.html5ever_interface.specs.Sink.{Means, Message, stepped, on_line}
use Rattle.html5ever_interface.specs.Token.{Told, TagOf}
use Rattle.html5ever_interface.specs.Token.Told.{Text, Null, Error, Tag, Comment, Instruction, Doctype, End}
use Rattle.html5ever_interface.specs.declared.interface.token.TagKind.{TagKind}
use Rattle.html5ever_interface.specs.declared.interface.token.TagKind.TheVariants.{StartTag, EndTag}
use Rattle.html5ever_interface.specs.declared.states.RawKind.{RawKind}
use Rattle.html5ever_interface.specs.declared.states.RawKind.TheVariants as raw_kind
use Rattle.html5reading.specs.Characters.{carriage_return, less_than, greater_than, solidus, is_bad_character, shown}
use Rattle.html5reading.specs.EndOfInput.{tokens_at_end, late_at_end_of, open_at_end_of, told_at_end_of}
use Rattle.html5reading.specs.ErrorText.{bad_character_error}
use Rattle.html5reading.specs.Machine.{step_at}
use Rattle.html5reading.specs.NormalisedText.{normalised, line_after, input_after, ends_with_carriage_return}
use Rattle.html5reading.specs.RawText.{kind_of, texts, told_at_less_than}
use Rattle.html5reading.specs.Reading.{told, all_messages, last_after, open_after_reply}
use Rattle.html5reading.specs.Reading.Here.{Tells}
use Rattle.html5reading.specs.Start.{Input, Open, Raw, Start, Rules, is_undecided_open}
use Rattle.html5reading.specs.Start.Mode.{Data, Plain, RawText}
use Rattle.html5reading.specs.Start.Open.{Between, InRaw}
use Rattle.html5reading.specs.Start.Raw.{Rcdata}
use Rattle.html5reading.specs.Start.RawPlace.{AfterLessThan}
use Rattle.html5reading.specs.Tag.{is_end_tag}
use Rattle.html5reading.specs.Text.{plain_text}
use Rattle.html5reading.proofs.InputLemmas.{line_past}
use Rattle.html5reading.proofs.Traces.{Trace, trace, trace_brought, trace_here, with_messages, brought-tells}
use Rattle.html5grammar.specs.Anywhere.{TellsByItself, start_beyond, last_reply}
use Rattle.html5grammar.specs.RawText as raw_texts
use Rattle.html5grammar.specs.RawText.{WrittenRaw, IsRawText, is_double_escaped, is_raw, can_end_with, can_follow, items_text, raw_after_items, spell_raw, spell_items, carried_to, carried_after}
use Rattle.html5grammar.specs.Spelled.{spelled_messages}
use Rattle.html5grammar.specs.Tag as one_tag
use Rattle.html5grammar.specs.Tag.{WrittenTag, body, end_errors, tag_told, spelled}
use Rattle.html5grammar.proofs.ByItself.{trace-by_itself}
use Rattle.html5grammar.proofs.Goes.{Goes-one}
use Rattle.html5grammar.proofs.LastReply.{last_reply-says}
use Rattle.html5grammar.proofs.Leading.{leads-goes, trace-text}
use Rattle.html5grammar.proofs.RawText.Reading.{decided-standing, reads_raw_reply}
use Rattle.html5grammar.proofs.RawText.Steps.{Standing, opened_at, raw_at, carried_at, reads_less_than}
use Rattle.html5grammar.proofs.RawText.Steps.Standing.{Free}
use Rattle.html5serialize.specs.Escapes.{Reads, escaped_text_by}
use Rattle.html5serialize.specs.Page.{AsksAsStandard, page_text_from, place_after, place_of, raw_text_by, text_at}
use Rattle.html5serialize.specs.ReadBack.{HasTexts, HaveTexts, KeepsOnAfterToken, last_after_token}
use Rattle.html5serialize.specs.Scripting.{kind_reply_by, reply_by}
use Rattle.html5serialize.specs.Tags.{attributes_text_by, closing_text, opening_text, tag_text_by}
use Rattle.html5serialize.specs.Tokens.{can_write, read_back, token_text, without_duplicates}
use Rattle.html5serialize.specs.declared.escaping.Escapes.{Escapes}
use Rattle.html5serialize.specs.declared.page_writer.PageOptions.{PageOptions}
use Rattle.html5serialize.specs.declared.page_writer.Place.{Place}
use Rattle.html5serialize.specs.declared.page_writer.Place.TheVariants as place
use Rattle.html5serialize.proofs.NamedText.{Goes, texts-go}
use Rattle.html5serialize.proofs.Errors.{proper_tokens, proper_cells, proper-append, proper-on_line, proper-spelled}
use Rattle.html5serialize.proofs.MarkupBack.{tag-item}
use Rattle.html5serialize.proofs.RawBack.{IsRawName, last-says, named-ends, normalised-raw}
use Rattle.html5serialize.proofs.RawWalks.{Walks, carried-none, later-single, proper-carried_at, shown-no_null}
use Rattle.html5serialize.proofs.RcdataBack as rcdata
use Rattle.html5serialize.proofs.Shaped.{is_shaped}
use Rattle.html5serialize.proofs.NamedValues.{shows-values}
use Rattle.html5serialize.proofs.TagBack.{written_tag, named, parts_of, end_parts, IsTagBack, tag-back, no_null-chars}
use Rattle.html5serialize.proofs.TagTokens.{cells-tag, proper-tag}
use Rattle.html5serialize.proofs.WholeTells.{ends-alone, tells-then}
use Rattle.html5serialize.proofs.TokensBack.{Kept, no_break-tag, no_break-token, token-kept}
use Rattle.html5write.specs.Told.{IsOpen, has_no_return, proper}
use Rattle.html5write.proofs.Texts.{text-told}
use Rattle.markup5ever.specs.NamedReferences.{IsTable}

-- ---- how a text without CR comes in

ends-without : (before : Bool) (text : List ℕ) → before ≡ false → has_no_return text ≡ true → ends_with_carriage_return before text ≡ false
unfolding ends_with_carriage_return
ends-without before [] e h = e
ends-without before (c ∷ text) e h =
    let p = and_parts (not (c == carriage_return)) (has_no_return text) h in
    ends-without (c == carriage_return) text (not-true (c == carriage_return) p.0) p.1

no_break-after : (input : Input) (text : List ℕ) → input.after_carriage_return ≡ false → has_no_return text ≡ true → (input_after input text).after_carriage_return ≡ false
unfolding input_after
no_break-after input [] e h = e
no_break-after input (c ∷ text) e h = ends-without false (c ∷ text) refl h

-- ---- characters as tokens

-- a character whose UTF-8 is text is that text's character
chars-one : (c : ℕ) → IsUtf8 (encode_utf8 c) → chars (encode_utf8 c) ≡ c ∷ []
chars-one c utf8 = sym (chars_from_encodes (c ∷ []) (encode_utf8 c) utf8 (append-nil (encode_utf8 c)))

-- tokens that a program has, and that can be written
abbrev pub Fine : List Told → Type 0
Fine tokens = HaveTexts tokens × (list_all can_write tokens ≡ true)

pub fine-first : (token : Told) (tokens : List Told) → Fine (token ∷ tokens) → HasTexts token × (can_write token ≡ true)
fine-first token tokens fine = (fine.0.0, (and_parts (can_write token) (list_all can_write tokens) fine.1).0)

pub fine-rest : (token : Told) (tokens : List Told) → Fine (token ∷ tokens) → Fine tokens
fine-rest token tokens fine = (fine.0.1, (and_parts (can_write token) (list_all can_write tokens) fine.1).1)

pub fine-past : (front tokens : List Told) → Fine (front ++ tokens) → Fine tokens
fine-past [] tokens fine = fine
fine-past (token ∷ front) tokens fine = fine-past front tokens (fine-rest token (front ++ tokens) fine)

-- texts of one character each are read back as they are
back-texts : (run : List ℕ) (tokens : List Told) → Fine (texts run ++ tokens) → flat_map read_back (texts run ++ tokens) ≡ texts run ++ flat_map read_back tokens
unfolding read_back
back-texts [] tokens fine = refl
back-texts (c ∷ run) tokens fine =
    ap (λ cs. map (λ d. Text (encode_utf8 d)) cs ++ flat_map read_back (texts run ++ tokens)) (chars-one c fine.0.0)
    ∙ ap (λ l. Text (encode_utf8 c) ∷ l) (back-texts run tokens (fine-rest (Text (encode_utf8 c)) (texts run ++ tokens) fine))

abbrev pub reads_references : RawKind → Bool
reads_references raw_kind.Rcdata = true
reads_references kind = false

raw-plain : (escapes : Escapes) (kind : RawKind) (text : List ℕ) → reads_references kind ≡ false → raw_text_by escapes kind text ≡ chars text
raw-plain escapes raw_kind.Rcdata text h = absurd (false≢true (sym h))
raw-plain escapes raw_kind.Rawtext text h = refl
raw-plain escapes raw_kind.ScriptData text h = refl
raw-plain escapes (raw_kind.ScriptDataEscaped kind) text h = refl

-- they are written as they are in raw text without references
page-raw : (options : PageOptions) (kind : RawKind) (run : List ℕ) (tokens : List Told) → reads_references kind ≡ false → Fine (texts run ++ tokens)
    → page_text_from options (place.RawText kind) (texts run ++ tokens) ≡ run ++ page_text_from options (place.RawText kind) tokens
unfolding page_text_from place_after text_at
page-raw options kind [] tokens h fine = refl
page-raw options kind (c ∷ run) tokens h fine =
    ap (λ l. l ++ page_text_from options (place.RawText kind) (texts run ++ tokens)) (raw-plain options.escapes kind (encode_utf8 c) h ∙ chars-one c fine.0.0)
    ∙ ap (λ l. c ∷ l) (page-raw options kind run tokens h (fine-rest (Text (encode_utf8 c)) (texts run ++ tokens) fine))

-- and in plain text
page-plain : (options : PageOptions) (run : List ℕ) (tokens : List Told) → Fine (texts run ++ tokens) → page_text_from options place.PlainText (texts run ++ tokens) ≡ run ++ page_text_from options place.PlainText tokens
unfolding page_text_from place_after text_at
page-plain options [] tokens fine = refl
page-plain options (c ∷ run) tokens fine =
    ap (λ l. l ++ page_text_from options place.PlainText (texts run ++ tokens)) (chars-one c fine.0.0)
    ∙ ap (λ l. c ∷ l) (page-plain options run tokens (fine-rest (Text (encode_utf8 c)) (texts run ++ tokens) fine))

-- ---- tags

no_return-opening : (kind : TagKind) (rest : List ℕ) → has_no_return rest ≡ true → has_no_return (opening_text kind ++ rest) ≡ true
no_return-opening StartTag rest h = h
no_return-opening EndTag rest h = h

-- a tag begins with `<`
record Begins (text : List ℕ) : Type 0 where
  rest : List ℕ
  is : text ≡ less_than ∷ rest

begins-opening : (kind : TagKind) (rest : List ℕ) → Begins (opening_text kind ++ rest)
begins-opening StartTag rest = record { rest = rest; is = refl }
begins-opening EndTag rest = record { rest = solidus ∷ rest; is = refl }

no_mark-begun : (input : Input) (text : List ℕ) → Begins text → (input_after input text).drops_byte_order_mark ≡ false
unfolding input_after
no_mark-begun input text begun = ap (λ Y. (input_after input Y).drops_byte_order_mark) begun.is

last-end_tag : (last : List ℕ) (tag : TagOf) → tag.kind ≡ EndTag → last_after last tag ≡ last
unfolding last_after
last-end_tag last tag e = ap (λ kind. if is_end_tag kind then last else tag.name) e

pub keeps-end_tag : (scripting : Bool) (tag : TagOf) → tag.kind ≡ EndTag → reply_by scripting tag ≡ kind_reply_by scripting EndTag tag.name
keeps-end_tag scripting tag e = ap (λ kind. kind_reply_by scripting kind tag.name) e

-- where a text is read from, after a character at least
pub record IsAt (K : Start) (opened : Open) : Type 0 where
  pub starts : K.opened ≡ opened
  pub no_break : K.input.after_carriage_return ≡ false
  pub no_mark : K.input.drops_byte_order_mark ≡ false

pub open-at : (K : Start) → IsAt K (Between Data) → IsOpen K
open-at K at = record { starts = at.starts; no_break = at.no_break }

-- the place after a token other than a tag is Data
untagged-place : (scripting : Bool) (token : Told) → is_shaped false token ≡ true → place_after scripting place.Data token ≡ place.Data
unfolding place_after
untagged-place scripting (Text text) h = refl
untagged-place scripting Null h = refl
untagged-place scripting (Error message) h = refl
untagged-place scripting (Tag tag) h = absurd (false≢true h)
untagged-place scripting (Comment text) h = refl
untagged-place scripting (Instruction content) h = refl
untagged-place scripting (Doctype d) h = refl
untagged-place scripting End h = refl

module _ {X S H : Type 0} (means : Means X S H) (rules : Rules) where
  untagged-keeps : (token : Told) → is_shaped false token ≡ true → KeepsOnAfterToken means.reply token
  untagged-keeps (Text text) h = tt
  untagged-keeps Null h = tt
  untagged-keeps (Error message) h = tt
  untagged-keeps (Tag tag) h = absurd (false≢true h)
  untagged-keeps (Comment text) h = tt
  untagged-keeps (Instruction content) h = tt
  untagged-keeps (Doctype d) h = tt
  untagged-keeps End h = tt

module _ {X S H : Type 0} (means : Means X S H) (rules : Rules) (options : PageOptions) where
  -- ---- what is promised of tokens from a place on

  -- the tokens as they are written there tell what is carried to them, themselves and the end
  abbrev pub Back : Place → List Told → Start → S → List Told → Type 0
  Back here before K s tokens = proper (all_messages means rules K s (page_text_from options here tokens)) ≡ before ++ (flat_map read_back tokens ++ End ∷ [])

  -- the same wherever the machine stands so
  abbrev pub BackAt : Open → Place → List Told → List Told → Type 0
  BackAt opened here before tokens = (K : Start) (s : S) → IsAt K opened → Fine tokens → Back here before K s tokens

  abbrev pub BackInData : List Told → Type 0
  BackInData tokens = (K : Start) (s : S) → IsOpen K → Fine tokens → Back place.Data [] K s tokens

  -- ---- in Data

  -- what is written tells this before more of the page, which is read in Data
  record Onward (K : Start) (s : S) (text W : List ℕ) (tokens : List Told) : Type 0 where
    later : Start
    state : S
    here : IsOpen later
    tells : proper (all_messages means rules K s (text ++ W)) ≡ tokens ++ proper (all_messages means rules later state W)

  token-onward : (K : Start) (s : S) (token : Told) (W : List ℕ) → IsTable rules.references → is_shaped false token ≡ true → HasTexts token → can_write token ≡ true → IsOpen K
      → Onward K s (token_text token) W (read_back token)
  token-onward K s token W table untagged texts_of can here =
      let one : Kept means rules K s token = token-kept means rules K s token table here texts_of can (untagged-keeps means rules token untagged) in
      let later : Start = start_beyond K (token_text token) (Between Data) (last_after_token K.last_start_tag token) in
      record {
        later = later;
        state = stepped means.step s one.messages;
        here = record { starts = refl; no_break = no_break-token rules K.input token texts_of can here.no_break };
        tells =
            tells-then means rules K s (token_text token) one.messages later W one.tells
            ∙ ap (λ l. l ++ proper (all_messages means rules later (stepped means.step s one.messages) W)) one.exactly;
      }

  text-onward : (K : Start) (s : S) (text W : List ℕ) → IsTable rules.references → Reads options.escapes rules.references → IsUtf8 text → can_write (Text text) ≡ true → IsOpen K
      → Onward K s (escaped_text_by options.escapes (chars text)) W (read_back (Text text))
  unfolding read_back can_write
  text-onward K s text W table reads utf8 can here =
      let goes : Goes means rules Data refl table K s (escaped_text_by options.escapes (chars text)) (chars text) W =
      texts-go means rules Data refl table (λ L t T within nulls. text-told means rules L t T (record { starts = within.starts; no_break = within.no_break }) nulls)
      options.escapes reads K s (chars text) W (record { starts = here.starts; no_break = here.no_break }) (no_null-chars text utf8 can) in
      record { later = goes.later; state = goes.state; here = record { starts = goes.within.starts; no_break = goes.within.no_break }; tells = goes.tells }

  data-onward : (K : Start) (s : S) (token : Told) (W : List ℕ) → IsTable rules.references → Reads options.escapes rules.references → is_shaped false token ≡ true → HasTexts token
      → can_write token ≡ true → IsOpen K → Onward K s (text_at options.escapes place.Data token) W (read_back token)
  unfolding text_at
  data-onward K s (Text text) W table reads h texts_of can here = text-onward K s text W table reads texts_of can here
  data-onward K s Null W table reads h texts_of can here = token-onward K s Null W table h texts_of can here
  data-onward K s (Error message) W table reads h texts_of can here = token-onward K s (Error message) W table h texts_of can here
  data-onward K s (Tag tag) W table reads h texts_of can here = absurd (false≢true h)
  data-onward K s (Comment text) W table reads h texts_of can here = token-onward K s (Comment text) W table h texts_of can here
  data-onward K s (Instruction content) W table reads h texts_of can here = token-onward K s (Instruction content) W table h texts_of can here
  data-onward K s (Doctype d) W table reads h texts_of can here = token-onward K s (Doctype d) W table h texts_of can here
  data-onward K s End W table reads h texts_of can here = token-onward K s End W table h texts_of can here

  -- tokens other than tags
  pub data-tokens : (front tokens : List Told) → IsTable rules.references → Reads options.escapes rules.references → list_all (is_shaped false) front ≡ true → BackInData tokens → BackInData (front ++ tokens)
  unfolding page_text_from
  data-tokens [] tokens table reads h back K s here fine = back K s here fine
  data-tokens (token ∷ front) tokens table reads h back K s here fine =
      let p = and_parts (is_shaped false token) (list_all (is_shaped false) front) h in
      let f = fine-first token (front ++ tokens) fine in
      let W : List ℕ = page_text_from options place.Data (front ++ tokens) in
      let one : Onward K s (text_at options.escapes place.Data token) W (read_back token) = data-onward K s token W table reads p.0 f.0 f.1 here in
      ap (λ next. proper (all_messages means rules K s (text_at options.escapes place.Data token ++ page_text_from options next (front ++ tokens)))) (untagged-place options.scripting token p.0)
      ∙ one.tells
      ∙ ap (λ l. read_back token ++ l) (data-tokens front tokens table reads p.1 back one.later one.state one.here (fine-rest token (front ++ tokens) fine))
      ∙ sym (append_assoc (read_back token) (flat_map read_back (front ++ tokens)) (End ∷ []))

  pub data-none : BackInData []
  unfolding page_text_from late_at_end_of open_at_end_of told_at_end_of
  data-none K s here fine = ends-alone means rules K s ∙ ap (λ o. proper_tokens (tokens_at_end rules o)) here.starts

  -- ---- texts elsewhere

  -- a walk, and then more
  pub walked-then : (opened later : Open) (before after : List Told) (run : List ℕ) (w : Walks rules.exact opened before run later after) (W : List ℕ) (tokens : List Told)
      → is_undecided_open later ≡ false → has_no_return run ≡ true
      → ((K : Start) (s : S) → IsAt K later → proper (all_messages means rules K s W) ≡ after ++ tokens)
      → (K : Start) (s : S) → IsAt K opened → proper (all_messages means rules K s (run ++ W)) ≡ before ++ (texts run ++ tokens)
  walked-then opened later before after run w W tokens decided none rest K s at =
      let M : List Message = spelled_messages rules.exact K.input [] w.cells in
      let K1 : Start = start_beyond K run later K.last_start_tag in
      let item : TellsByItself means rules K s run M K1 =
      trace-by_itself means rules K s run M later K.last_start_tag
      (ap (λ o. trace means.step means.reply means.foreign rules s (line_after K.input []) K.last_start_tag o (normalised K.input run)) at.starts
      ∙ ap (λ Y. trace means.step means.reply means.foreign rules s (line_after K.input []) K.last_start_tag opened Y) (normalised-raw K.input run at.no_break at.no_mark none)
      ∙ trace-text means.step means.reply means.foreign rules K.input [] s K.last_start_tag opened later w.cells run w.is_text (leads-goes rules opened later w.cells decided w.goes)) in
      tells-then means rules K s run M K1 W item
      ∙ ap (λ l. l ++ proper (all_messages means rules K1 (stepped means.step s M) W)) (proper-spelled rules.exact K.input [] w.cells)
      ∙ ap (λ l. proper_cells w.cells ++ l)
      (rest K1 (stepped means.step s M) (record { starts = refl; no_break = no_break-after K.input run at.no_break none; no_mark = rcdata.no_mark-after K.input run at.no_mark }))
      ∙ sym (append_assoc (proper_cells w.cells) after tokens)
      ∙ ap (λ l. l ++ tokens) w.told
      ∙ append_assoc before (texts run) tokens

  -- characters of raw text without references
  pub raw-texts : (kind : RawKind) (opened later : Open) (before after : List Told) (run : List ℕ) (w : Walks rules.exact opened before run later after) (tokens : List Told)
      → reads_references kind ≡ false → is_undecided_open later ≡ false → has_no_return run ≡ true
      → BackAt later (place.RawText kind) after tokens → BackAt opened (place.RawText kind) before (texts run ++ tokens)
  raw-texts kind opened later before after run w tokens no_references decided none back K s at fine =
      let W : List ℕ = page_text_from options (place.RawText kind) tokens in
      ap (λ Y. proper (all_messages means rules K s Y)) (page-raw options kind run tokens no_references fine)
      ∙ walked-then opened later before after run w W (flat_map read_back tokens ++ End ∷ []) decided none (λ L t there. back L t there (fine-past (texts run) tokens fine)) K s at
      ∙ ap (λ l. before ++ l) (sym (append_assoc (texts run) (flat_map read_back tokens) (End ∷ [])) ∙ ap (λ l. l ++ End ∷ []) (sym (back-texts run tokens fine)))

  plain-shown : (c : ℕ) → plain_text rules.exact (shown c) ≡ texts (shown c ∷ [])
  unfolding plain_text
  plain-shown c = rw (shown-no_null c) refl

  plain-walks : (c : ℕ) → Walks rules.exact (Between Plain) [] (shown c ∷ []) (Between Plain) []
  unfolding step_at
  plain-walks c = record {
    cells = record { character = shown c; told = plain_text rules.exact (shown c) } ∷ [];
    goes = Goes-one rules.exact (Between Plain) (Between Plain) (shown c) (plain_text rules.exact (shown c)) refl;
    is_text = refl;
    told = ap (λ l. (proper_tokens l ++ []) ++ []) (plain-shown c);
  }

  -- a character of plain text
  pub plain-character : (c : ℕ) (tokens : List Told) → has_no_return (shown c ∷ []) ≡ true → BackAt (Between Plain) place.PlainText [] tokens
      → BackAt (Between Plain) place.PlainText [] (texts (shown c ∷ []) ++ tokens)
  plain-character c tokens none back K s at fine =
      let run : List ℕ = shown c ∷ [] in
      let W : List ℕ = page_text_from options place.PlainText tokens in
      ap (λ Y. proper (all_messages means rules K s Y)) (page-plain options run tokens fine)
      ∙ walked-then (Between Plain) (Between Plain) [] [] run (plain-walks c) W (flat_map read_back tokens ++ End ∷ []) refl none (λ L t there. back L t there (fine-past (texts run) tokens fine)) K s at
      ∙ ap (λ l. l ++ End ∷ []) (sym (back-texts run tokens fine))

  -- texts of RCDATA
  pub rcdata-texts : (name run : List ℕ) (tokens : List Told) → IsTable rules.references → Reads options.escapes rules.references
      → BackAt (Between (RawText Rcdata name)) (place.RawText raw_kind.Rcdata) [] tokens → BackAt (Between (RawText Rcdata name)) (place.RawText raw_kind.Rcdata) [] (texts run ++ tokens)
  unfolding page_text_from place_after text_at can_write read_back
  rcdata-texts name [] tokens table reads back K s at fine = back K s at fine
  rcdata-texts name (c ∷ run) tokens table reads back K s at fine =
      let b : List ℕ = encode_utf8 c in
      let later : List Told = texts run ++ tokens in
      let f = fine-first (Text b) later fine in
      let W : List ℕ = page_text_from options (place.RawText raw_kind.Rcdata) later in
      let goes : Goes means rules (RawText Rcdata name) refl table K s (escaped_text_by options.escapes (chars b)) (chars b) W =
      texts-go means rules (RawText Rcdata name) refl table (λ L t T within nulls. rcdata.text-told means rules name L t T (record { starts = within.starts; no_break = within.no_break }) nulls)
      options.escapes reads K s (chars b) W (record { starts = at.starts; no_break = at.no_break }) (no_null-chars b f.0 f.1) in
      goes.tells
      ∙ ap (λ l. read_back (Text b) ++ l)
      (rcdata-texts name run tokens table reads back goes.later goes.state (record { starts = goes.within.starts; no_break = goes.within.no_break; no_mark = goes.no_mark at.no_mark }) (fine-rest (Text b) later fine))
      ∙ sym (append_assoc (read_back (Text b)) (flat_map read_back later) (End ∷ []))

  -- ---- tags

  module _ (asks : AsksAsStandard options.scripting means.reply) where
    -- what is open after a tag, whatever stands before it
    pub opens-standard : (last : List ℕ) (s : S) (input : Input) (tag : WrittenTag)
        → open_after_reply last (last_reply means.step means.reply s (spelled_messages rules.exact input [] (spelled rules tag))) ≡ open_after_reply last (reply_by options.scripting (tag_told rules tag))
    unfolding spelled
    opens-standard last s input tag =
        last_reply-says means.step means.reply means.foreign rules (λ r. open_after_reply last r ≡ open_after_reply last (reply_by options.scripting (tag_told rules tag))) s input [] (body rules tag)
        greater_than (end_errors rules tag) (tag_told rules tag) (λ t line. asks t (tag_told rules tag) line last)

    -- a tag in Data, before what is open after it
    pub data-tag : (tag : TagOf) (tokens : List Told) → IsTable rules.references → Reads options.escapes rules.references
        → ((last : List ℕ) → BackAt (open_after_reply (last_after last tag) (reply_by options.scripting tag)) (place_of (reply_by options.scripting tag)) [] tokens) → BackInData (Tag tag ∷ tokens)
    unfolding page_text_from place_after text_at token_text can_write read_back last_after
    data-tag tag tokens table reads back K s here fine =
        let f = fine-first (Tag tag) tokens fine in
        let b : IsTagBack options.escapes rules tag = tag-back options.escapes rules tag (shows-values rules options.escapes table reads) f.0.0 f.0.1 f.1 in
        let written : WrittenTag = written_tag options.escapes tag in
        let Y : List ℕ = tag_text_by options.escapes tag in
        let rest : List ℕ = chars tag.name ++ (attributes_text_by options.escapes tag.attributes ++ closing_text tag.self_closing) in
        let M : List Message = spelled_messages rules.exact K.input [] (spelled rules written) in
        let last : List ℕ = last_after K.last_start_tag tag in
        let o : Open = open_after_reply last (reply_by options.scripting tag) in
        let opens : open_after_reply last (last_reply means.step means.reply s M) ≡ o =
        opens-standard last s K.input written ∙ ap (λ t. open_after_reply last (reply_by options.scripting t)) b.told in
        let K1 : Start = start_beyond K Y o last in
        let t : S = stepped means.step s M in
        let W : List ℕ = page_text_from options (place_of (reply_by options.scripting tag)) tokens in
        tells-then means rules K s Y M K1 W (subst (λ p. TellsByItself means rules K s Y M (start_beyond K Y p last)) opens (tag-item means rules options.escapes (shows-values rules options.escapes table reads) K s tag table here f.0 f.1))
        ∙ ap (λ l. l ++ proper (all_messages means rules K1 t W)) (proper-tag rules K.input written ∙ ap (λ u. Tag u ∷ []) b.told)
        ∙ ap (λ l. Tag (without_duplicates tag) ∷ l)
        (back K.last_start_tag K1 t (record { starts = refl; no_break = no_break-tag K.input tag.kind rest b.no_return; no_mark = no_mark-begun K.input Y (begins-opening tag.kind rest) })
        (fine-rest (Tag tag) tokens fine))

    -- ---- the end tag of raw text

    trace-character : (s : S) (line : ℕ) (last : List ℕ) (opened later : Open) (c : ℕ) (text : List ℕ) (told : List Told) → is_undecided_open opened ≡ false
        → step_at rules.exact opened c ≡ Tells told later
        → let M : List Message = on_line (line_past line c) (bad_character_error rules.exact c ++ told) in
        trace means.step means.reply means.foreign rules s line last opened (c ∷ text)
        ≡ with_messages M (trace means.step means.reply means.foreign rules (stepped means.step s M) (line_past line c) last later text)
    unfolding trace trace_brought trace_here stepped
    trace-character s line last opened later c text told decided e = rw (brought-tells rules (means.foreign s) opened c _ decided e) refl

    -- a `<` sends what is carried to it, and goes on as in raw text
    trace-carried : (name : List ℕ) (standing : Standing) (s : S) (line : ℕ) (last text : List ℕ) → is_double_escaped (kind_of (raw_at standing)) ≡ false
        → let C : List Message = on_line (line_past line less_than) (carried_at standing) in
        trace means.step means.reply means.foreign rules s line last (opened_at name standing) (less_than ∷ text)
        ≡ with_messages C (trace means.step means.reply means.foreign rules (stepped means.step s C) line last (Between (RawText (raw_at standing) name)) (less_than ∷ text))
    unfolding is_bad_character stepped
    trace-carried name standing s line last text single =
        let kind : RawKind = kind_of (raw_at standing) in
        let opened : Open = InRaw (AfterLessThan kind) name in
        let after_line : ℕ = line_past line less_than in
        let sent : S → List Told → Trace = λ t tokens.
        with_messages (on_line after_line tokens) (trace means.step means.reply means.foreign rules (stepped means.step t (on_line after_line tokens)) after_line last opened text) in
        let good : bad_character_error rules.exact less_than ≡ [] = rw (and-false rules.exact) refl in
        let none : told_at_less_than kind ≡ [] = later-single kind single in
        let C : List Message = on_line after_line (carried_at standing) in
        trace-character s line last (opened_at name standing) opened less_than text (carried_at standing ++ told_at_less_than kind) (decided-standing name standing) (reads_less_than rules.exact name standing)
        ∙ ap (sent s)
        (ap (λ l. l ++ (carried_at standing ++ told_at_less_than kind)) good ∙ ap (λ l. carried_at standing ++ l) none ∙ append-nil (carried_at standing))
        ∙ ap (with_messages C)
        (sym
        (trace-character (stepped means.step s C) line last (Between (RawText (raw_at standing) name)) opened less_than text (told_at_less_than kind) refl (reads_less_than rules.exact name (Free (raw_at standing)))
        ∙ ap (sent (stepped means.step s C)) (ap (λ l. l ++ told_at_less_than kind) good ∙ none)))

    -- the end tag, with what is carried to it
    record EndsRaw (K : Start) (s : S) (tag : TagOf) (before : List Told) : Type 0 where
      messages : List Message
      tells : TellsByItself means rules K s (tag_text_by options.escapes tag) messages (start_beyond K (tag_text_by options.escapes tag) (Between Data) K.last_start_tag)
      exactly : proper messages ≡ before ++ Tag (without_duplicates tag) ∷ []

    told-alone : (raw : Raw) (tag : WrittenTag) → proper_cells (spell_raw rules raw (record { items = []; end_tag = Some tag })) ≡ Tag (tag_told rules tag) ∷ []
    unfolding spell_items carried_after
    told-alone raw tag = ap proper_cells (carried-none (spelled rules tag)) ∙ cells-tag rules tag

    end-written : (raw : Raw) (name : List ℕ) (tag : TagOf) → IsTagBack options.escapes rules tag → IsRawName name → is_double_escaped (kind_of raw) ≡ false → tag.kind ≡ EndTag → tag.name ≡ name
        → can_end_with name raw (Some (written_tag options.escapes tag)) ≡ true
    end-written raw name tag back named_so single kind is_name =
        let parts = parts_of options.escapes tag.attributes ++ end_parts tag.self_closing in
        let same : written_tag options.escapes tag ≡ named EndTag name parts =
        ap (λ k. named k (chars tag.name) parts) kind ∙ ap (λ n. named EndTag (chars n) parts) is_name ∙ ap (λ cs. named EndTag cs parts) named_so.same in
        ap (λ t. can_end_with name raw (Some t)) same
        ∙ named-ends name parts named_so.letters named_so.tag raw single (sym (ap one_tag.is_written same) ∙ back.is_written)

    ends-raw : (name : List ℕ) (standing : Standing) (tag : TagOf) → IsTable rules.references → Reads options.escapes rules.references → IsRawName name → is_double_escaped (kind_of (raw_at standing)) ≡ false
        → tag.kind ≡ EndTag → tag.name ≡ name → HasTexts (Tag tag) → can_write (Tag tag) ≡ true
        → (K : Start) (s : S) → IsAt K (opened_at name standing) → EndsRaw K s tag (carried_at standing)
    unfolding can_write is_raw can_follow raw_after_items items_text raw_texts.written
    ends-raw name standing tag table reads named_so single kind is_name texts_of can K s at =
        let b : IsTagBack options.escapes rules tag = tag-back options.escapes rules tag (shows-values rules options.escapes table reads) texts_of.0 texts_of.1 can in
        let raw : Raw = raw_at standing in
        let written : WrittenTag = written_tag options.escapes tag in
        let Y : List ℕ = tag_text_by options.escapes tag in
        let rest : List ℕ = chars tag.name ++ (attributes_text_by options.escapes tag.attributes ++ closing_text tag.self_closing) in
        let begun : Begins Y = begins-opening tag.kind rest in
        let input : Input = K.input in
        let last : List ℕ = K.last_start_tag in
        let line : ℕ = line_after input [] in
        let C : List Message = on_line (line_past line less_than) (carried_at standing) in
        let t : S = stepped means.step s C in
        let K0 : Start = record { opened = Between (RawText raw name); last_start_tag = last; input = input } in
        let raw_written : WrittenRaw = record { items = []; end_tag = Some written } in
        let normal : normalised input Y ≡ Y = normalised-raw input Y at.no_break at.no_mark (no_return-opening tag.kind rest b.no_return) in
        let one : IsRawText K0 Y raw name raw_written = record {
          starts = refl;
          some = refl;
          is_raw = end-written raw name tag b named_so single kind is_name;
          text = normal ∙ sym b.text;
        } in
        let N : List Message = spelled_messages rules.exact input [] (spell_raw rules raw raw_written) in
        let told_last : List ℕ = last_after last (tag_told rules written) in
        let same_last : told_last ≡ last = ap (last_after last) b.told ∙ last-end_tag last (without_duplicates tag) kind in
        let opens : open_after_reply told_last (last_reply means.step means.reply t N) ≡ Between Data =
        last-says means rules (Between Data) told_last t input (spell_items rules.exact raw [] []) (carried_after raw [] []) written
        (λ u l. asks u (tag_told rules written) l told_last ∙ ap (λ g. open_after_reply told_last (reply_by options.scripting g)) b.told ∙ ap (open_after_reply told_last) (keeps-end_tag options.scripting (without_duplicates tag) kind)) in
        let whole : trace means.step means.reply means.foreign rules s line last K.opened (normalised input Y) ≡ record { messages = C ++ N; opened = Between Data; last_start_tag = last } =
        ap (λ o. trace means.step means.reply means.foreign rules s line last o (normalised input Y)) at.starts
        ∙ ap (λ T. trace means.step means.reply means.foreign rules s line last (opened_at name standing) T) (normal ∙ begun.is)
        ∙ trace-carried name standing s line last begun.rest single
        ∙ ap (with_messages C)
        (ap (λ T. trace means.step means.reply means.foreign rules t line last (Between (RawText raw name)) T) (sym (normal ∙ begun.is))
        ∙ reads_raw_reply means rules K0 t Y raw name raw_written written refl table one
        ∙ ap (λ o. record { messages = N; opened = o; last_start_tag = told_last }) opens
        ∙ ap (λ l. record { messages = N; opened = Between Data; last_start_tag = l }) same_last) in
        record {
          messages = C ++ N;
          tells = trace-by_itself means rules K s Y (C ++ N) (Between Data) last whole;
          exactly =
              proper-append C N
              ∙ ap (λ l. l ++ proper N) (proper-on_line (line_past line less_than) (carried_at standing) ∙ proper-carried_at standing)
              ∙ ap (λ l. carried_at standing ++ l)
              (proper-spelled rules.exact input [] (spell_raw rules raw raw_written) ∙ told-alone raw written ∙ ap (λ u. Tag u ∷ []) b.told);
        }

    -- the end tag of raw text, and then Data
    pub raw-end : (kind : RawKind) (name : List ℕ) (standing : Standing) (tag : TagOf) (tokens : List Told) → IsTable rules.references → Reads options.escapes rules.references → IsRawName name
        → is_double_escaped (kind_of (raw_at standing)) ≡ false → tag.kind ≡ EndTag → tag.name ≡ name → BackInData tokens
        → BackAt (opened_at name standing) (place.RawText kind) (carried_at standing) (Tag tag ∷ tokens)
    unfolding page_text_from place_after text_at token_text can_write read_back
    raw-end kind name standing tag tokens table reads named_so single is_end is_name back K s at fine =
        let f = fine-first (Tag tag) tokens fine in
        let e : EndsRaw K s tag (carried_at standing) = ends-raw name standing tag table reads named_so single is_end is_name f.0 f.1 K s at in
        let Y : List ℕ = tag_text_by options.escapes tag in
        let rest : List ℕ = chars tag.name ++ (attributes_text_by options.escapes tag.attributes ++ closing_text tag.self_closing) in
        let K1 : Start = start_beyond K Y (Between Data) K.last_start_tag in
        let t : S = stepped means.step s e.messages in
        let W : List ℕ = page_text_from options place.Data tokens in
        let b : IsTagBack options.escapes rules tag = tag-back options.escapes rules tag (shows-values rules options.escapes table reads) f.0.0 f.0.1 f.1 in
        ap (λ r. proper (all_messages means rules K s (Y ++ page_text_from options (place_of r) tokens))) (keeps-end_tag options.scripting tag is_end)
        ∙ tells-then means rules K s Y e.messages K1 W e.tells
        ∙ ap (λ l. l ++ proper (all_messages means rules K1 t W)) e.exactly
        ∙ append_assoc (carried_at standing) (Tag (without_duplicates tag) ∷ []) (proper (all_messages means rules K1 t W))
        ∙ ap (λ l. carried_at standing ++ Tag (without_duplicates tag) ∷ l)
        (back K1 t (record { starts = refl; no_break = no_break-tag K.input tag.kind rest b.no_return }) (fine-rest (Tag tag) tokens fine))
