-- A page that is written back is read again as itself: by the items of the text that told its tokens.
use Rattle.std.proofs.Common.{◌≡◌, ℕ, zero, Bool, true, false, List, [], ◌∷◌, ◌++◌, Option, None, Some, inl, inr, refl, ap, sym, ◌∙◌, subst}
use Rattle.std.specs.Prelude.{◌==◌, ◌&&◌, ◌||◌, not, codes, drop, flat_map, if◌then◌else◌}
use Rattle.std.specs.Cmp.Lexicographic.{bytes_decides}
use Rattle.std.specs.List.{list_all}
use Rattle.std.specs.Str.{bytes_eq}
use Rattle.std.proofs.lemmas.Bool.{and_parts, false≢true, not-true, or_cases}
use Rattle.std.proofs.lemmas.List.{append_assoc, append-nil}
use Rattle.html5ever_interface.specs.Sink.{Means, Message, stepped, on_line}
use Rattle.html5ever_interface.specs.Token.{Told, TagOf, Reply}
use Rattle.html5ever_interface.specs.Token.Reply.{KeepOn, ReadPlainText, ReadRawData, RunScript, SwitchEncoding}
use Rattle.html5ever_interface.specs.Token.Told.{Text, Null, Error, Tag, Comment, Instruction, Doctype, End}
use Rattle.html5ever_interface.specs.declared.interface.token.TagKind.{TagKind}
use Rattle.html5ever_interface.specs.declared.interface.token.TagKind.TheVariants.{StartTag, EndTag}
use Rattle.html5ever_interface.specs.declared.states.RawKind.{RawKind}
use Rattle.html5ever_interface.specs.declared.states.RawKind.TheVariants as raw_kind
use Rattle.html5ever_interface.specs.declared.states.ScriptEscapeKind.{ScriptEscapeKind}
use Rattle.html5ever_interface.specs.declared.states.ScriptEscapeKind.TheVariants as escape_kind
use Rattle.html5reading.specs.Characters.{ampersand, carriage_return, greater_than, less_than, solidus, shown, is_letter}
use Rattle.html5reading.specs.EndOfInput.{raw_end_error, late_at_end_of, open_at_end_of, told_at_end_of, tokens_at_end}
use Rattle.html5reading.specs.NormalisedText.{normalised, line_after, input_after}
use Rattle.html5reading.specs.RawText.{is_rcdata, is_two, dashes_after, kind_of, lower, raw_after, raw_character, switched, texts}
use Rattle.html5reading.specs.Reading.{all_messages, last_after, open_after_reply}
use Rattle.html5reading.specs.Reference.{characters_in, told_of}
use Rattle.html5reading.specs.Start.{Dashes, Input, Mode, Open, Raw, Start, Rules, escaped, nothing_open, raw_of}
use Rattle.html5reading.specs.Start.Dashes.{NoDash}
use Rattle.html5reading.specs.Start.Mode.{Data, Plain, RawText, Cdata}
use Rattle.html5reading.specs.Start.Open.{Between}
use Rattle.html5reading.specs.Start.Raw.{Rcdata, Rawtext, ScriptData, Escaped, DoubleEscaped}
use Rattle.html5reading.specs.Start.Stand.{InText}
use Rattle.html5reading.specs.Tag.{is_end_tag}
use Rattle.html5reading.specs.Text.{plain_text}
use Rattle.html5reading.proofs.InputLemmas.{normalised-append}
use Rattle.html5grammar.specs.Anywhere.{last_reply}
use Rattle.html5grammar.specs.Items.{Item, Unfinished, Items, Composed, end_line, text_told, nothing_at_end, is_raw_text, is_text_at_once, is_text_later, spell_raw_less_than, spell_open_switch, reference_at_end, IsRawCharacter, IsRawMark, IsRawLessThan, IsRawLessThanBefore, IsRawEnd, IsCharacter, IsOpenRaw, IsOpenSwitch}
use Rattle.html5grammar.specs.Items.Item.{OneCharacter, OneLone, OneLoneBefore, OneEmptyEnd, OneTag, OneComment, OneDoctype, OneInstruction, OneCdata, OneReferenceIn, OneRawCharacter, OneRawMark, OneRawLessThan, OneRawLessThanBefore, OneRawEnd}
use Rattle.html5grammar.specs.Items.Unfinished.{OpenLessThan, OpenSolidus, OpenTag, OpenRaw, OpenSwitch, OpenRawEnd, OpenReference, OpenInstruction, OpenBogus, OpenKeyword, OpenBogusDeclaration, OpenDoctype, OpenCdata, OpenComment}
use Rattle.html5grammar.specs.Items.Items.{Nothing, Then, Last}
use Rattle.html5grammar.specs.RawText.{RawItem, raw_after_item, item_text, can_stand, can_switch, carried, is_double_escaped, is_script_data, spell_item}
use Rattle.html5grammar.specs.RawText.RawItem.{Character, LessThan, Letters, Mark, Switch}
use Rattle.html5grammar.specs.Reference.{has_references}
use Rattle.html5grammar.specs.Spelled.{Spelled, spelled_messages}
use Rattle.html5grammar.specs.Tag.{WrittenTag, OpenAttribute, body, deciding_in, found_in, held_in, spell_open_attribute, spell_open_tag, spelled, tag_told, open_tag_at_end, errors_at_end}
use Rattle.html5grammar.proofs.Completeness.{all-composed}
use Rattle.html5grammar.proofs.RawText.Reading.{decided-standing, tokens-standing}
use Rattle.html5grammar.proofs.RawText.Steps.{Standing, opened_at, raw_at, carried_at, end_from, fits}
use Rattle.html5grammar.proofs.RawText.Steps.Standing.{Free}
use Rattle.html5grammar.proofs.Soundness.{reading-items}
use Rattle.html5serialize.specs.Escapes.{Reads}
use Rattle.html5serialize.specs.Page.{AsksAsStandard, page_text, page_text_from, place_after, place_of, text_at}
use Rattle.html5serialize.specs.RawTexts.{is_raw_name}
use Rattle.html5serialize.specs.ReadBack.{HasTexts, HaveTexts}
use Rattle.html5serialize.specs.Scripting.{kind_reply_by, reply_by, start_reply_by}
use Rattle.html5serialize.specs.Tokens.{can_write, read_back, token_text}
use Rattle.html5serialize.specs.declared.escaping.Escapes.{Escapes}
use Rattle.html5serialize.specs.declared.page_writer.PageOptions.{PageOptions}
use Rattle.html5serialize.specs.declared.page_writer.Place.{Place}
use Rattle.html5serialize.specs.declared.page_writer.Place.TheVariants as place
use Rattle.html5serialize.proofs.EachToken.{all-tokens, errors-at_end, no_return-read, front-return, rest-return, shaped-item, shaped-unfinished, tell-open_attribute}
use Rattle.html5serialize.proofs.Errors.{proper_tokens, proper_cells, proper-append, proper-on_line, proper-spelled, proper_tokens-append, cells-append, cells-errors, errors-before, errors-reference, tell-append}
use Rattle.html5serialize.proofs.PageTells.{Fine, open-at, keeps-end_tag, reads_references, BackAt, BackInData, data-tokens, data-none, data-tag, raw-texts, rcdata-texts, plain-character, opens-standard, raw-end}
use Rattle.html5serialize.proofs.WholeTells.{ends-alone}
use Rattle.html5serialize.proofs.RawBack.{raw-name}
use Rattle.html5serialize.proofs.RawWalks.{Walked, carried-none, character-walked, item-told, item-walked, both-walked, is_told, proper-carried_at, proper-character, proper-spell, proper-texts, shown-alike, switch-walked, texts-append}
use Rattle.html5serialize.proofs.Shaped.{is_shaped, Shaped, shaped-append}
use Rattle.html5serialize.proofs.TagTokens.{proper-tag, tell-body}
use Rattle.html5sinks.specs.Replies.{raw_text_in, reply_to_raw_text, standard_reply_to_start}
use Rattle.html5write.specs.Told.{IsOpen, has_no_return, proper, proper_token, tokens_of}
use Rattle.markup5ever.specs.NamedReferences.{IsTable}

-- ---- tokens of messages, except for errors

untagged-one : (token : Told) (tokens : List Told) → is_shaped false token ≡ true → list_all (is_shaped false) tokens ≡ true → list_all (is_shaped false) (proper_token token ++ tokens) ≡ true
untagged-one (Error message) tokens e h = h
untagged-one (Text text) tokens e h = h
untagged-one Null tokens e h = h
untagged-one End tokens e h = h
untagged-one (Tag tag) tokens e h = absurd (false≢true e)
untagged-one (Comment text) tokens e h = rw e h
untagged-one (Instruction content) tokens e h = rw e h
untagged-one (Doctype d) tokens e h = rw e h

untagged-proper : (M : List Message) → Shaped false M → list_all (is_shaped false) (proper M) ≡ true
unfolding proper
untagged-proper [] h = refl
untagged-proper (m ∷ M) h =
    let p = and_parts (is_shaped false m.token) (list_all (λ (n : Message). is_shaped false n.token) M) h in
    let one : (token : Told) → is_shaped false token ≡ true → list_all (is_shaped false) (proper_token token ++ proper M) ≡ true = λ token e. untagged-one token (proper M) e (untagged-proper M p.1) in
    one m.token p.0

-- ---- an error changes nothing of a page

place-error : (scripting : Bool) (here : Place) (message : List ℕ) → place_after scripting here (Error message) ≡ here
unfolding place_after
place-error scripting place.Data message = refl
place-error scripting (place.RawText kind) message = refl
place-error scripting place.PlainText message = refl

text-error : (escapes : Escapes) (here : Place) (message : List ℕ) → text_at escapes here (Error message) ≡ []
unfolding text_at token_text
text-error escapes place.Data message = refl
text-error escapes (place.RawText kind) message = refl
text-error escapes place.PlainText message = refl

-- a token, or none where it is an error
page-one : (options : PageOptions) (here : Place) (token : Told) (tokens others : List Told) → ((later : Place) → page_text_from options later tokens ≡ page_text_from options later others)
    → text_at options.escapes here token ++ page_text_from options (place_after options.scripting here token) tokens ≡ page_text_from options here (proper_token token ++ others)
unfolding page_text_from
page-one options here (Error message) tokens others same = rw (text-error options.escapes here message, place-error options.scripting here message) (same here)
page-one options here (Text text) tokens others same = ap (λ l. text_at options.escapes here (Text text) ++ l) (same (place_after options.scripting here (Text text)))
page-one options here Null tokens others same = ap (λ l. text_at options.escapes here Null ++ l) (same (place_after options.scripting here Null))
page-one options here (Tag tag) tokens others same = ap (λ l. text_at options.escapes here (Tag tag) ++ l) (same (place_after options.scripting here (Tag tag)))
page-one options here (Comment text) tokens others same = ap (λ l. text_at options.escapes here (Comment text) ++ l) (same (place_after options.scripting here (Comment text)))
page-one options here (Instruction content) tokens others same = ap (λ l. text_at options.escapes here (Instruction content) ++ l) (same (place_after options.scripting here (Instruction content)))
page-one options here (Doctype d) tokens others same = ap (λ l. text_at options.escapes here (Doctype d) ++ l) (same (place_after options.scripting here (Doctype d)))
page-one options here End tokens others same = ap (λ l. text_at options.escapes here End ++ l) (same (place_after options.scripting here End))

page-proper : (options : PageOptions) (M : List Message) (here : Place) → page_text_from options here (tokens_of M) ≡ page_text_from options here (proper M)
unfolding page_text_from proper
page-proper options [] here = refl
page-proper options (m ∷ M) here =
    let one : (token : Told) → text_at options.escapes here token ++ page_text_from options (place_after options.scripting here token) (tokens_of M) ≡ page_text_from options here (proper_token token ++ proper M) =
    λ token. page-one options here token (tokens_of M) (proper M) (page-proper options M) in
    one m.token

back-one : (token : Told) (tokens others : List Told) → flat_map read_back tokens ≡ flat_map read_back others → read_back token ++ flat_map read_back tokens ≡ flat_map read_back (proper_token token ++ others)
unfolding read_back
back-one (Error message) tokens others same = same
back-one (Text text) tokens others same = ap (λ l. read_back (Text text) ++ l) same
back-one Null tokens others same = ap (λ l. read_back Null ++ l) same
back-one (Tag tag) tokens others same = ap (λ l. read_back (Tag tag) ++ l) same
back-one (Comment text) tokens others same = ap (λ l. read_back (Comment text) ++ l) same
back-one (Instruction content) tokens others same = ap (λ l. read_back (Instruction content) ++ l) same
back-one (Doctype d) tokens others same = ap (λ l. read_back (Doctype d) ++ l) same
back-one End tokens others same = same

back-proper : (M : List Message) → flat_map read_back (tokens_of M) ≡ flat_map read_back (proper M)
unfolding proper
back-proper [] = refl
back-proper (m ∷ M) =
    let one : (token : Told) → read_back token ++ flat_map read_back (tokens_of M) ≡ flat_map read_back (proper_token token ++ proper M) = λ token. back-one token (tokens_of M) (proper M) (back-proper M) in
    one m.token

fine-one : (token : Told) → HasTexts token → can_write token ≡ true → (tokens : List Told) → Fine tokens → Fine (proper_token token ++ tokens)
unfolding can_write
fine-one (Error message) texts_of can tokens more = more
fine-one (Text text) texts_of can tokens more = ((texts_of, more.0), rw can more.1)
fine-one Null texts_of can tokens more = ((texts_of, more.0), more.1)
fine-one (Tag tag) texts_of can tokens more = ((texts_of, more.0), rw can more.1)
fine-one (Comment text) texts_of can tokens more = ((texts_of, more.0), rw can more.1)
fine-one (Instruction content) texts_of can tokens more = ((texts_of, more.0), rw can more.1)
fine-one (Doctype d) texts_of can tokens more = ((texts_of, more.0), rw can more.1)
fine-one End texts_of can tokens more = ((texts_of, more.0), more.1)

fine-proper : (M : List Message) → Fine (tokens_of M) → Fine (proper M)
unfolding proper
fine-proper [] fine = (tt, refl)
fine-proper (m ∷ M) fine =
    let p = and_parts (can_write m.token) (list_all can_write (tokens_of M)) fine.1 in
    let one : (token : Told) → HasTexts token → can_write token ≡ true → Fine (proper_token token ++ proper M) = λ token texts_of can. fine-one token texts_of can (proper M) (fine-proper M (fine.0.1, p.1)) in
    one m.token fine.0.0 p.0

-- ---- kinds of raw text

rcdata-after : (raw : Raw) (c : ℕ) → is_rcdata (raw_after raw c) ≡ is_rcdata raw
unfolding raw_after
rcdata-after Rcdata c = refl
rcdata-after Rawtext c = refl
rcdata-after ScriptData c = refl
rcdata-after (Escaped dashes) c =
    elim ((c == greater_than) && is_two dashes) as (λ b. is_rcdata (if b then ScriptData else Escaped (dashes_after dashes c)) ≡ false) [
      | true ↦ refl
      | false ↦ refl
    ]
rcdata-after (DoubleEscaped dashes) c =
    elim ((c == greater_than) && is_two dashes) as (λ b. is_rcdata (if b then ScriptData else DoubleEscaped (dashes_after dashes c)) ≡ false) [
      | true ↦ refl
      | false ↦ refl
    ]

rcdata-kind : (raw : Raw) → is_rcdata (raw_of (kind_of raw)) ≡ is_rcdata raw
unfolding kind_of
rcdata-kind Rcdata = refl
rcdata-kind Rawtext = refl
rcdata-kind ScriptData = refl
rcdata-kind (Escaped dashes) = refl
rcdata-kind (DoubleEscaped dashes) = refl

rcdata-script : (raw : Raw) → is_script_data (kind_of raw) ≡ true → is_rcdata raw ≡ false
unfolding kind_of
rcdata-script Rcdata h = absurd (false≢true h)
rcdata-script Rawtext h = refl
rcdata-script ScriptData h = refl
rcdata-script (Escaped dashes) h = refl
rcdata-script (DoubleEscaped dashes) h = refl

rcdata-escaped : (kind : ScriptEscapeKind) → is_rcdata (escaped kind NoDash) ≡ false
rcdata-escaped escape_kind.Escaped = refl
rcdata-escaped escape_kind.DoubleEscaped = refl

rcdata-switch : (raw : Raw) (letters : List ℕ) (c : ℕ) → can_switch (kind_of raw) letters ≡ true → is_rcdata (raw_after_item raw (Switch letters c)) ≡ is_rcdata raw
unfolding kind_of
rcdata-switch Rcdata letters c h = absurd (false≢true h)
rcdata-switch Rawtext letters c h = absurd (false≢true h)
rcdata-switch ScriptData letters c h = absurd (false≢true h)
rcdata-switch (Escaped dashes) letters c h = rcdata-escaped (switched escape_kind.Escaped letters)
rcdata-switch (DoubleEscaped dashes) letters c h = rcdata-escaped (switched escape_kind.DoubleEscaped letters)

-- after an item references are read where they were before
rcdata-item : (name : List ℕ) (raw : Raw) (item : RawItem) (text : List ℕ) → can_stand name raw item text ≡ true → is_rcdata (raw_after_item raw item) ≡ is_rcdata raw
rcdata-item name raw (Character c) text can = rcdata-after raw c
rcdata-item name raw LessThan text can = rcdata-kind raw
rcdata-item name raw (Letters letters) text can = rcdata-kind raw
rcdata-item name raw Mark text can = sym (rcdata-script raw can)
rcdata-item name raw (Switch letters c) text can = rcdata-switch raw letters c (and_parts (can_switch (kind_of raw) letters) _ can).0

-- a mark or a switch stands before any text
stands-at_once : (name : List ℕ) (raw : Raw) (item : RawItem) (text : List ℕ) → is_text_at_once item ≡ true → can_stand name raw item [] ≡ true → can_stand name raw item text ≡ true
stands-at_once name raw Mark text h can = can
stands-at_once name raw (Switch letters c) text h can = can
stands-at_once name raw (Character c) text h can = absurd (false≢true h)
stands-at_once name raw LessThan text h can = absurd (false≢true h)
stands-at_once name raw (Letters letters) text h can = absurd (false≢true h)

told-at_once : (item : RawItem) → is_text_at_once item ≡ true → is_told item ≡ true
told-at_once Mark h = refl
told-at_once (Switch letters c) h = refl
told-at_once (Character c) h = absurd (false≢true h)
told-at_once LessThan h = absurd (false≢true h)
told-at_once (Letters letters) h = absurd (false≢true h)

told-later : (item : RawItem) → is_text_later item ≡ true → is_told item ≡ true
told-later LessThan h = refl
told-later (Letters letters) h = refl
told-later (Character c) h = absurd (false≢true h)
told-later Mark h = absurd (false≢true h)
told-later (Switch letters c) h = absurd (false≢true h)

carried-at_once : (raw : Raw) (item : RawItem) → is_text_at_once item ≡ true → carried raw item ≡ []
carried-at_once raw Mark h = refl
carried-at_once raw (Switch letters c) h = refl
carried-at_once raw (Character c) h = absurd (false≢true h)
carried-at_once raw LessThan h = absurd (false≢true h)
carried-at_once raw (Letters letters) h = absurd (false≢true h)

return-shown : (c : ℕ) → has_no_return (c ∷ []) ≡ true → has_no_return (shown c ∷ []) ≡ true
return-shown c h = shown-alike (λ d. has_no_return (d ∷ []) ≡ true) c (λ e. refl) h

no_return-both : (a b : List ℕ) → has_no_return a ≡ true → has_no_return b ≡ true → has_no_return (a ++ b) ≡ true
no_return-both [] b f g = g
no_return-both (c ∷ a) b f g =
    let p = and_parts (not (c == carriage_return)) (has_no_return a) f in
    rw (p.0) (no_return-both a b p.1 g)

-- ---- the elements of the standard with raw text

abbrev is_raw_reply : {H : Type 0} → Reply H → Bool
is_raw_reply (ReadRawData kind) = true
is_raw_reply other = false

module _ (name : List ℕ) where
  named-as : (word : List ℕ) → is_raw_name word ≡ true → bytes_eq name word ≡ true → is_raw_name name ≡ true
  named-as word h e = ap is_raw_name ((bytes_decides name word).0 e) ∙ h

  named-either : (a b : Bool) → (a ≡ true → is_raw_name name ≡ true) → (b ≡ true → is_raw_name name ≡ true) → (a || b) ≡ true → is_raw_name name ≡ true
  named-either a b f g h =
      elim (or_cases a b h) [
        | inl e ↦ f e
        | inr e ↦ g e
      ]

  by_tests : (kind : RawKind) (plain text style script : Bool) → (text ≡ true → is_raw_name name ≡ true) → (style ≡ true → is_raw_name name ≡ true) → (script ≡ true → is_raw_name name ≡ true)
      → (if plain then ReadPlainText else reply_to_raw_text (if text then Some raw_kind.Rcdata else if style then Some raw_kind.Rawtext else if script then Some raw_kind.ScriptData else None)) ≡ ReadRawData kind
      → is_raw_name name ≡ true
  by_tests kind true text style script f g h e = absurd (false≢true (ap is_raw_reply e))
  by_tests kind false true style script f g h e = f refl
  by_tests kind false false true script f g h e = g refl
  by_tests kind false false false true f g h e = h refl
  by_tests kind false false false false f g h e = absurd (false≢true (ap is_raw_reply e))

  named-standard : (kind : RawKind) → standard_reply_to_start name ≡ ReadRawData kind → is_raw_name name ≡ true
  unfolding standard_reply_to_start raw_text_in is_raw_name
  named-standard kind e =
      let is : (word : List ℕ) → is_raw_name word ≡ true → bytes_eq name word ≡ true → is_raw_name name ≡ true = named-as in
      by_tests kind (bytes_eq name (codes "plaintext")) (bytes_eq name (codes "title") || bytes_eq name (codes "textarea"))
      (bytes_eq name (codes "style") || bytes_eq name (codes "xmp") || bytes_eq name (codes "iframe") || bytes_eq name (codes "noembed") || bytes_eq name (codes "noframes"))
      (bytes_eq name (codes "script"))
      (named-either _ _ (is (codes "title") refl) (is (codes "textarea") refl))
      (named-either _ _ (named-either _ _ (named-either _ _ (named-either _ _ (is (codes "style") refl) (is (codes "xmp") refl)) (is (codes "iframe") refl)) (is (codes "noembed") refl)) (is (codes "noframes") refl))
      (is (codes "script") refl)
      e

  -- `noscript` is of small letters, too
  named-scripting : (kind : RawKind) (b : Bool) → bytes_eq name (codes "noscript") ≡ b → (if b then ReadRawData raw_kind.Rawtext else standard_reply_to_start name) ≡ ReadRawData kind → is_raw_name name ≡ true
  unfolding is_raw_name
  named-scripting kind true is e = named-as (codes "noscript") refl is
  named-scripting kind false is e = named-standard kind e

  -- the name of an element after whose start tag raw text stands
  named-raw : (scripting : Bool) (kind : RawKind) → start_reply_by scripting name ≡ ReadRawData kind → is_raw_name name ≡ true
  named-raw false kind e = named-standard kind e
  named-raw true kind e = named-scripting kind (bytes_eq name (codes "noscript")) refl e

-- The text tells its tokens to one sink, by its rules, and another reads the page.
module _ {X S H Y T J : Type 0} (told_to : Means Y T J) (source : Rules) (means : Means X S H) (rules : Rules) (options : PageOptions) (table : IsTable rules.references)
    (reads : Reads options.escapes rules.references) (source_asks : AsksAsStandard options.scripting told_to.reply) (asks : AsksAsStandard options.scripting means.reply) where
  -- ---- what is promised of the tokens that a text tells, by what is open before it

  -- in raw text, with references or without them. `rest` is the text that told them.
  abbrev ClaimIn : Bool → Raw → List ℕ → List ℕ → List Told → Type 0
  ClaimIn true raw name rest tokens = is_raw_name name ≡ true → BackAt means rules options (Between (RawText Rcdata name)) (place.RawText raw_kind.Rcdata) [] tokens
  ClaimIn false raw name rest tokens = (kind : RawKind) → reads_references kind ≡ false → is_raw_name name ≡ true → (standing : Standing) → raw_at standing ≡ raw
      → fits name standing rest ≡ true → BackAt means rules options (opened_at name standing) (place.RawText kind) (carried_at standing) tokens

  abbrev Claim : Open → List ℕ → List Told → Type 0
  Claim (Between Data) rest tokens = BackInData means rules options tokens
  Claim (Between Cdata) rest tokens = BackInData means rules options tokens
  Claim (Between Plain) rest tokens = BackAt means rules options (Between Plain) place.PlainText [] tokens
  Claim (Between (RawText raw name)) rest tokens = ClaimIn (is_rcdata raw) raw name rest tokens
  Claim other rest tokens = Unit {0}

  -- ---- texts

  -- characters of raw text
  raw-step : (b : Bool) (raw later : Raw) (name F G run : List ℕ) (tokens : List Told)
      → ((standing : Standing) → raw_at standing ≡ raw → fits name standing F ≡ true → Walked rules.exact name standing later run G)
      → has_no_return run ≡ true → ClaimIn b later name G tokens → ClaimIn b raw name F (texts run ++ tokens)
  raw-step true raw later name F G run tokens walks none claim = λ named. rcdata-texts means rules options name run tokens table reads (claim named)
  raw-step false raw later name F G run tokens walks none claim = λ kind no_references named standing raw_is f.
      let w : Walked rules.exact name standing later run G = walks standing raw_is f in
      raw-texts means rules options kind (opened_at name standing) (opened_at name w.next) (carried_at standing) (carried_at w.next) run w.walks tokens no_references (decided-standing name w.next) none
      (claim kind no_references named w.next w.raw_is w.fits_after)

  -- the same, where the messages are those of an item
  raw-told : (K : Start) (raw later : Raw) (name F G run : List ℕ) (M : List Message) (tokens : List Told) → K.opened ≡ Between (RawText raw name)
      → is_rcdata later ≡ is_rcdata raw → proper M ≡ texts run
      → ((standing : Standing) → raw_at standing ≡ raw → fits name standing F ≡ true → Walked rules.exact name standing later run G)
      → has_no_return run ≡ true → Claim (Between (RawText later name)) G tokens → Claim K.opened F (proper M ++ tokens)
  raw-told K raw later name F G run M tokens starts same told walks none claim =
      subst (λ o. Claim o F (proper M ++ tokens)) (sym starts)
      (subst (λ T. ClaimIn (is_rcdata raw) raw name F (T ++ tokens)) (sym told)
      (raw-step (is_rcdata raw) raw later name F G run tokens walks none (subst (λ b. ClaimIn b later name G tokens) same claim)))

  item-proper : (input : Input) (name : List ℕ) (raw : Raw) (item : RawItem) (text : List ℕ) → can_stand name raw item text ≡ true → is_told item ≡ true
      → proper (spelled_messages source.exact input [] (spell_item source.exact raw item)) ++ carried raw item ≡ texts (item_text raw item)
  item-proper input name raw item text can told =
      ap (λ l. l ++ carried raw item) (proper-spelled source.exact input [] (spell_item source.exact raw item) ∙ ap proper_cells (sym (carried-none (spell_item source.exact raw item))))
      ∙ item-told source.exact name raw item text [] can told refl

  proper-later : (raw : Raw) → proper_tokens (carried raw LessThan) ≡ carried raw LessThan
  unfolding kind_of
  proper-later Rcdata = refl
  proper-later Rawtext = refl
  proper-later ScriptData = refl
  proper-later (Escaped dashes) = refl
  proper-later (DoubleEscaped dashes) = refl

  proper-carried : (raw : Raw) (item : RawItem) → proper_tokens (carried raw item) ≡ carried raw item
  proper-carried raw (Character c) = refl
  proper-carried raw LessThan = proper-later raw
  proper-carried raw (Letters letters) = proper-texts (less_than ∷ solidus ∷ letters)
  proper-carried raw Mark = refl
  proper-carried raw (Switch letters c) = refl

  raw-character : (Z : List ℕ) (K : Start) (Y : List ℕ) (raw : Raw) (name : List ℕ) (c : ℕ) (tokens : List Told) → IsRawCharacter K Y raw name c
      → Claim (Between (RawText (raw_after raw c) name)) (normalised (input_after K.input Y) Z) tokens
      → Claim K.opened (normalised K.input (Y ++ Z)) (proper (spelled_messages source.exact K.input [] (record { character = c; told = raw_character source.exact raw c } ∷ [])) ++ tokens)
  raw-character Z K Y raw name c tokens one claim =
      let G : List ℕ = normalised (input_after K.input Y) Z in
      let F : List ℕ = normalised K.input (Y ++ Z) in
      let is : F ≡ c ∷ G = normalised-append K.input Y Z ∙ ap (λ l. l ++ G) one.text in
      let cells : List Spelled = record { character = c; told = raw_character source.exact raw c } ∷ [] in
      raw-told K raw (raw_after raw c) name F G (shown c ∷ []) (spelled_messages source.exact K.input [] cells) tokens one.starts (rcdata-after raw c)
      (proper-spelled source.exact K.input [] cells ∙ append-nil (proper_tokens (raw_character source.exact raw c)) ∙ proper-character source.exact raw c)
      (λ standing raw_is f.
      subst (λ w. Walked rules.exact name standing (raw_after w c) (shown c ∷ []) G) raw_is
      (character-walked rules.exact name standing c G (ap (λ w. is_raw_text w c) raw_is ∙ one.is_text) (sym (ap (fits name standing) is) ∙ f)))
      (return-shown c (no_return-read K.input Y (c ∷ []) one.text)) claim

  -- a walk through an item, from where this raw text is
  walk-item : (name : List ℕ) (raw : Raw) (item : RawItem) (F G : List ℕ) (standing : Standing) → can_stand name raw item G ≡ true → is_told item ≡ true
      → raw_at standing ≡ raw → F ≡ item_text raw item ++ G → fits name standing F ≡ true → Walked rules.exact name standing (raw_after_item raw item) (item_text raw item) G
  walk-item name raw item F G standing can told raw_is is f =
      subst (λ w. Walked rules.exact name standing (raw_after_item w item) (item_text w item) G) raw_is
      (item-walked rules.exact name standing item G (ap (λ w. can_stand name w item G) raw_is ∙ can) told
      (ap (λ w. fits name standing (item_text w item ++ G)) raw_is ∙ sym (ap (fits name standing) is) ∙ f))

  raw-mark : (Z : List ℕ) (K : Start) (Y : List ℕ) (raw : Raw) (name : List ℕ) (item : RawItem) (tokens : List Told) → IsRawMark K Y raw name item
      → Claim (Between (RawText (raw_after_item raw item) name)) (normalised (input_after K.input Y) Z) tokens
      → Claim K.opened (normalised K.input (Y ++ Z)) (proper (spelled_messages source.exact K.input [] (spell_item source.exact raw item)) ++ tokens)
  raw-mark Z K Y raw name item tokens one claim =
      let G : List ℕ = normalised (input_after K.input Y) Z in
      let F : List ℕ = normalised K.input (Y ++ Z) in
      let is : F ≡ item_text raw item ++ G = normalised-append K.input Y Z ∙ ap (λ l. l ++ G) one.text in
      let M : List Message = spelled_messages source.exact K.input [] (spell_item source.exact raw item) in
      let told : is_told item ≡ true = told-at_once item one.at_once in
      raw-told K raw (raw_after_item raw item) name F G (item_text raw item) M tokens one.starts (rcdata-item name raw item [] one.stands)
      (sym (append-nil (proper M)) ∙ ap (λ l. proper M ++ l) (sym (carried-at_once raw item one.at_once)) ∙ item-proper K.input name raw item [] one.stands told)
      (λ standing raw_is f. walk-item name raw item F G standing (stands-at_once name raw item G one.at_once one.stands) told raw_is is f)
      (no_return-read K.input Y (item_text raw item) one.text) claim

  raw-less_than : (Z : List ℕ) (K : Start) (Y : List ℕ) (raw : Raw) (name : List ℕ) (item : RawItem) (c : ℕ) (F1 : List ℕ) (tokens : List Told) → IsRawLessThan K Y Z raw name item c F1
      → Claim (Between (RawText (raw_after (raw_after_item raw item) c) name)) (normalised (input_after K.input Y) Z) tokens
      → Claim K.opened (normalised K.input (Y ++ Z)) (proper (spelled_messages source.exact K.input [] (spell_raw_less_than source.exact raw item c)) ++ tokens)
  raw-less_than Z K Y raw name item c F1 tokens one claim =
      let G : List ℕ = normalised (input_after K.input Y) Z in
      let F : List ℕ = normalised K.input (Y ++ Z) in
      let text : List ℕ = item_text raw item in
      let is : F ≡ text ++ c ∷ G = normalised-append K.input Y Z ∙ ap (λ l. l ++ G) one.text ∙ append_assoc text (c ∷ []) G in
      let cells : List Spelled = spell_item source.exact raw item in
      let last : List Told = carried raw item ++ raw_character source.exact (raw_after_item raw item) c in
      let M : List Message = spelled_messages source.exact K.input [] (spell_raw_less_than source.exact raw item c) in
      let told : is_told item ≡ true = told-later item one.later in
      let stands : can_stand name raw item (c ∷ F1) ≡ true = (and_parts (can_stand name raw item (c ∷ F1)) _ one.stands).0 in
      let after : Raw = raw_after_item raw item in
      let text_after : is_raw_text after c ≡ true = ap (λ b. not (c == less_than) && not (b && (c == ampersand))) (rcdata-item name raw item (c ∷ F1) stands) ∙ one.is_text in
      let none = no_return-read K.input Y (text ++ c ∷ []) one.text in
      raw-told K raw (raw_after after c) name F G (text ++ shown c ∷ []) M tokens one.starts (rcdata-after after c ∙ rcdata-item name raw item (c ∷ F1) stands)
      (proper-spelled source.exact K.input [] (spell_raw_less_than source.exact raw item c)
      ∙ cells-append cells (record { character = c; told = last } ∷ [])
      ∙ ap (λ l. proper_cells cells ++ l) (append-nil (proper_tokens last) ∙ proper_tokens-append (carried raw item) (raw_character source.exact after c) ∙ ap (λ l. l ++ proper_tokens (raw_character source.exact after c)) (proper-carried raw item))
      ∙ sym (append_assoc (proper_cells cells) (carried raw item) (proper_tokens (raw_character source.exact after c)))
      ∙ ap (λ l. (l ++ carried raw item) ++ proper_tokens (raw_character source.exact after c)) (sym (proper-spelled source.exact K.input [] cells))
      ∙ ap (λ l. l ++ proper_tokens (raw_character source.exact after c)) (item-proper K.input name raw item (c ∷ F1) stands told)
      ∙ ap (λ l. texts text ++ l) (proper-character source.exact after c)
      ∙ sym (texts-append text (shown c ∷ [])))
      (λ standing raw_is f.
      subst (λ w. Walked rules.exact name standing (raw_after (raw_after_item w item) c) (item_text w item ++ shown c ∷ []) G) raw_is
      (both-walked rules.exact name standing item c G (ap (λ w. can_stand name w item (c ∷ G)) raw_is ∙ ap (λ l. can_stand name raw item (c ∷ l)) one.next ∙ stands) told
      (ap (λ w. is_raw_text (raw_after_item w item) c) raw_is ∙ text_after)
      (ap (λ w. fits name standing (item_text w item ++ c ∷ G)) raw_is ∙ sym (ap (fits name standing) is) ∙ f)))
      (no_return-both text (shown c ∷ []) (front-return text (c ∷ []) none) (return-shown c (rest-return text (c ∷ []) none))) claim

  raw-less_than_before : (Z : List ℕ) (K : Start) (Y : List ℕ) (raw : Raw) (name : List ℕ) (item : RawItem) (c : ℕ) (F1 : List ℕ) (tokens : List Told) → IsRawLessThanBefore K Y Z raw name item c F1
      → Claim (Between (RawText (raw_after_item raw item) name)) (normalised (input_after K.input Y) Z) tokens
      → Claim K.opened (normalised K.input (Y ++ Z))
      (proper (spelled_messages source.exact K.input [] (spell_item source.exact raw item) ++ on_line (line_after K.input (item_text raw item)) (carried raw item)) ++ tokens)
  raw-less_than_before Z K Y raw name item c F1 tokens one claim =
      let G : List ℕ = normalised (input_after K.input Y) Z in
      let F : List ℕ = normalised K.input (Y ++ Z) in
      let text : List ℕ = item_text raw item in
      let is : F ≡ text ++ G = normalised-append K.input Y Z ∙ ap (λ l. l ++ G) one.text in
      let N : List Message = spelled_messages source.exact K.input [] (spell_item source.exact raw item) in
      let L : List Message = on_line (line_after K.input text) (carried raw item) in
      let told : is_told item ≡ true = told-later item one.later in
      let stands : can_stand name raw item (c ∷ F1) ≡ true = (and_parts (can_stand name raw item (c ∷ F1)) _ one.stands).0 in
      raw-told K raw (raw_after_item raw item) name F G text (N ++ L) tokens one.starts (rcdata-item name raw item (c ∷ F1) stands)
      (proper-append N L
      ∙ ap (λ l. proper N ++ l) (proper-on_line (line_after K.input text) (carried raw item) ∙ proper-carried raw item)
      ∙ item-proper K.input name raw item (c ∷ F1) stands told)
      (λ standing raw_is f. walk-item name raw item F G standing (ap (can_stand name raw item) one.next ∙ stands) told raw_is is f)
      (no_return-read K.input Y text one.text) claim

  -- a reference tells the characters that it stands for
  proper-found : (mode : Mode) (F : List ℕ) → proper_tokens (told_of (InText mode) (found_in source false F)) ≡ texts (characters_in (found_in source false F))
  proper-found mode F =
      errors-before (found_in source false F).errors (texts (characters_in (found_in source false F))) (errors-reference source false (held_in source.references F) (deciding_in source.references F))
      ∙ proper-texts (characters_in (found_in source false F))

  untagged-texts : (run : List ℕ) → list_all (is_shaped false) (texts run) ≡ true
  untagged-texts [] = refl
  untagged-texts (c ∷ run) = untagged-texts run

  -- texts in a mode with references
  reference-texts : (mode : Mode) (F G run : List ℕ) (tokens : List Told) → has_references mode ≡ true → Claim (Between mode) G tokens → Claim (Between mode) F (texts run ++ tokens)
  reference-texts Data F G run tokens has claim = data-tokens means rules options (texts run) tokens table reads (untagged-texts run) claim
  reference-texts Plain F G run tokens has claim = absurd (false≢true has)
  reference-texts Cdata F G run tokens has claim = absurd (false≢true has)
  reference-texts (RawText Rcdata name) F G run tokens has claim = λ named. rcdata-texts means rules options name run tokens table reads (claim named)
  reference-texts (RawText Rawtext name) F G run tokens has claim = absurd (false≢true has)
  reference-texts (RawText ScriptData name) F G run tokens has claim = absurd (false≢true has)
  reference-texts (RawText (Escaped dashes) name) F G run tokens has claim = absurd (false≢true has)
  reference-texts (RawText (DoubleEscaped dashes) name) F G run tokens has claim = absurd (false≢true has)

  -- ---- tokens of Data

  data-item : (K : Start) (F : List ℕ) (M : List Message) (tokens : List Told) → K.opened ≡ Between Data → Shaped false M → BackInData means rules options tokens
      → Claim K.opened F (proper M ++ tokens)
  data-item K F M tokens starts shaped claim =
      subst (λ o. Claim o F (proper M ++ tokens)) (sym starts) (data-tokens means rules options (proper M) tokens table reads (untagged-proper M shaped) claim)

  cdata-item : (has_opening : Bool) (F : List ℕ) (M : List Message) (tokens : List Told) → Shaped false M → BackInData means rules options tokens
      → Claim (if has_opening then Between Data else Between Cdata) F (proper M ++ tokens)
  cdata-item true F M tokens shaped claim = data-tokens means rules options (proper M) tokens table reads (untagged-proper M shaped) claim
  cdata-item false F M tokens shaped claim = data-tokens means rules options (proper M) tokens table reads (untagged-proper M shaped) claim

  plain-proper : (exact : Bool) (input : Input) (c : ℕ) → proper (spelled_messages exact input [] (record { character = c; told = plain_text exact c } ∷ [])) ≡ texts (shown c ∷ [])
  unfolding plain_text shown
  plain-proper exact input c = proper-spelled exact input [] (record { character = c; told = plain_text exact c } ∷ []) ∙ append-nil (proper_tokens (plain_text exact c)) ∙ at (c == 0) refl
    where
      at : (b : Bool) → (c == 0) ≡ b → proper_tokens (plain_text exact c) ≡ texts (shown c ∷ [])
      at true e = rw e refl
      at false e = rw e refl

  character-item : (mode : Mode) (K : Start) (Y F G : List ℕ) (c : ℕ) (tokens : List Told) → IsCharacter K Y mode c
      → Shaped false (spelled_messages source.exact K.input [] (record { character = c; told = text_told source.exact mode c } ∷ []))
      → Claim (Between mode) G tokens
      → Claim (Between mode) F (proper (spelled_messages source.exact K.input [] (record { character = c; told = text_told source.exact mode c } ∷ [])) ++ tokens)
  character-item Data K Y F G c tokens one shaped claim =
      let M : List Message = spelled_messages source.exact K.input [] (record { character = c; told = text_told source.exact Data c } ∷ []) in
      data-tokens means rules options (proper M) tokens table reads (untagged-proper M shaped) claim
  character-item Plain K Y F G c tokens one shaped claim =
      subst (λ T. BackAt means rules options (Between Plain) place.PlainText [] (T ++ tokens)) (sym (plain-proper source.exact K.input c))
      (plain-character means rules options c tokens (return-shown c (no_return-read K.input Y (c ∷ []) one.text)) claim)
  character-item (RawText raw name) K Y F G c tokens one shaped claim = absurd (false≢true one.is_text)
  character-item Cdata K Y F G c tokens one shaped claim = absurd (false≢true one.is_text)

  -- ---- tags

  open-raw : (name : List ℕ) (kind : RawKind) (G : List ℕ) (tokens : List Told) → is_raw_name name ≡ true → Claim (Between (RawText (raw_of kind) name)) G tokens
      → BackAt means rules options (Between (RawText (raw_of kind) name)) (place.RawText kind) [] tokens
  open-raw name raw_kind.Rcdata G tokens named claim = claim named
  open-raw name raw_kind.Rawtext G tokens named claim = claim raw_kind.Rawtext refl named (Free Rawtext) refl refl
  open-raw name raw_kind.ScriptData G tokens named claim = claim raw_kind.ScriptData refl named (Free ScriptData) refl refl
  open-raw name (raw_kind.ScriptDataEscaped escape_kind.Escaped) G tokens named claim = claim (raw_kind.ScriptDataEscaped escape_kind.Escaped) refl named (Free (Escaped NoDash)) refl refl
  open-raw name (raw_kind.ScriptDataEscaped escape_kind.DoubleEscaped) G tokens named claim = claim (raw_kind.ScriptDataEscaped escape_kind.DoubleEscaped) refl named (Free (DoubleEscaped NoDash)) refl refl

  back-in_data : (tokens : List Told) → BackInData means rules options tokens → BackAt means rules options (Between Data) place.Data [] tokens
  back-in_data tokens claim K s at fine = claim K s (open-at K at) fine

  -- the text after a start tag of that name
  start-opens : (name : List ℕ) (r : Reply (Unit {0})) (G : List ℕ) (tokens : List Told) → start_reply_by options.scripting name ≡ r → Claim (open_after_reply name r) G tokens
      → BackAt means rules options (open_after_reply name r) (place_of r) [] tokens
  start-opens name KeepOn G tokens e claim = back-in_data tokens claim
  start-opens name ReadPlainText G tokens e claim = claim
  start-opens name (ReadRawData kind) G tokens e claim = open-raw name kind G tokens (named-raw name options.scripting kind e) claim
  start-opens name (RunScript handle) G tokens e claim = back-in_data tokens claim
  start-opens name (SwitchEncoding text) G tokens e claim = back-in_data tokens claim

  opens-by : (kind : TagKind) (name last other G : List ℕ) (tokens : List Told) → Claim (open_after_reply (if is_end_tag kind then last else name) (kind_reply_by options.scripting kind name)) G tokens
      → BackAt means rules options (open_after_reply (if is_end_tag kind then other else name) (kind_reply_by options.scripting kind name)) (place_of (kind_reply_by options.scripting kind name)) [] tokens
  opens-by StartTag name last other G tokens claim = start-opens name (start_reply_by options.scripting name) G tokens refl claim
  opens-by EndTag name last other G tokens claim = back-in_data tokens claim

  -- the text after a tag, also where another start tag was the last
  tag-opens : (tag : TagOf) (last G : List ℕ) (tokens : List Told) → Claim (open_after_reply (last_after last tag) (reply_by options.scripting tag)) G tokens
      → (other : List ℕ) → BackAt means rules options (open_after_reply (last_after other tag) (reply_by options.scripting tag)) (place_of (reply_by options.scripting tag)) [] tokens
  unfolding last_after
  tag-opens tag last G tokens claim other = opens-by tag.kind tag.name last other G tokens claim

  data-tag_item : (K : Start) (s : T) (F G : List ℕ) (tag : WrittenTag) (tokens : List Told) → K.opened ≡ Between Data
      → let M : List Message = spelled_messages source.exact K.input [] (spelled source tag) in
      let last : List ℕ = last_after K.last_start_tag (tag_told source tag) in
      Claim (open_after_reply last (last_reply told_to.step told_to.reply s M)) G tokens → Claim K.opened F (proper M ++ tokens)
  data-tag_item K s F G tag tokens starts claim =
      let told : TagOf = tag_told source tag in
      let last : List ℕ = last_after K.last_start_tag told in
      subst (λ o. Claim o F (proper (spelled_messages source.exact K.input [] (spelled source tag)) ++ tokens)) (sym starts)
      (subst (λ T. BackInData means rules options (T ++ tokens)) (sym (proper-tag source K.input tag))
      (data-tag means rules options asks told tokens table reads
      (tag-opens told K.last_start_tag G tokens (subst (λ o. Claim o G tokens) (opens-standard told_to source options source_asks last s K.input tag) claim))))

  -- ---- the end of raw text

  end-in : (b : Bool) (raw : Raw) (name F : List ℕ) (tag : TagOf) (tokens : List Told) → is_double_escaped (kind_of raw) ≡ false → tag.kind ≡ EndTag → tag.name ≡ name
      → BackInData means rules options tokens → ClaimIn b raw name F (Tag tag ∷ tokens)
  unfolding kind_of
  end-in true raw name F tag tokens single is_end is_name claim = λ named.
      raw-end means rules options asks raw_kind.Rcdata name (Free Rcdata) tag tokens table reads (raw-name name named) refl is_end is_name claim
  end-in false raw name F tag tokens single is_end is_name claim = λ kind no_references named standing raw_is f.
      raw-end means rules options asks kind name standing tag tokens table reads (raw-name name named) (ap (λ w. is_double_escaped (kind_of w)) raw_is ∙ single) is_end is_name claim

  is-end_tag : (kind : TagKind) → is_end_tag kind ≡ true → kind ≡ EndTag
  is-end_tag StartTag h = absurd (false≢true h)
  is-end_tag EndTag h = refl

  raw-end_item : (K : Start) (s : T) (Y F G : List ℕ) (raw : Raw) (name : List ℕ) (tag : WrittenTag) (tokens : List Told) → IsRawEnd K Y raw name tag
      → let M : List Message = spelled_messages source.exact K.input [] (spelled source tag) in
      let last : List ℕ = last_after K.last_start_tag (tag_told source tag) in
      Claim (open_after_reply last (last_reply told_to.step told_to.reply s M)) G tokens → Claim K.opened F (proper M ++ tokens)
  raw-end_item K s Y F G raw name tag tokens one claim =
      let told : TagOf = tag_told source tag in
      let last : List ℕ = last_after K.last_start_tag told in
      let p = and_parts (not (is_double_escaped (kind_of raw))) _ one.ends in
      let q = and_parts (is_end_tag tag.kind) _ p.1 in
      let r = and_parts (list_all is_letter tag.rest) (bytes_eq (lower (tag.first ∷ tag.rest)) name) q.1 in
      let is_end : told.kind ≡ EndTag = is-end_tag tag.kind q.0 in
      let is_name : told.name ≡ name = (bytes_decides (lower (tag.first ∷ tag.rest)) name).0 r.1 in
      let opened : open_after_reply last (last_reply told_to.step told_to.reply s (spelled_messages source.exact K.input [] (spelled source tag))) ≡ Between Data =
      opens-standard told_to source options source_asks last s K.input tag ∙ ap (open_after_reply last) (keeps-end_tag options.scripting told is_end) in
      subst (λ o. Claim o F (proper (spelled_messages source.exact K.input [] (spelled source tag)) ++ tokens)) (sym one.starts)
      (subst (λ T. ClaimIn (is_rcdata raw) raw name F (T ++ tokens)) (sym (proper-tag source K.input tag))
      (end-in (is_rcdata raw) raw name F told tokens (not-true (is_double_escaped (kind_of raw)) p.0) is_end is_name (subst (λ o. Claim o G tokens) opened claim)))

  -- ---- the end of the text

  -- when nothing is written, the end tells itself and what is carried
  end-back : (here : Place) (opened : Open) (before : List Told) → page_text_from options here (End ∷ []) ≡ [] → proper_tokens (tokens_at_end rules opened) ≡ before ++ End ∷ []
      → BackAt means rules options opened here before (End ∷ [])
  unfolding read_back
  end-back here opened before none ends K s at fine =
      ap (λ Y. proper (all_messages means rules K s Y)) none ∙ ends-alone means rules K s ∙ ap (λ o. proper_tokens (tokens_at_end rules o)) at.starts ∙ ends

  errors-raw_end : (exact : Bool) (raw : Raw) → proper_tokens (raw_end_error exact raw) ≡ []
  unfolding raw_end_error
  errors-raw_end exact Rcdata = refl
  errors-raw_end exact Rawtext = refl
  errors-raw_end exact ScriptData = refl
  errors-raw_end exact (Escaped dashes) = refl
  errors-raw_end exact (DoubleEscaped dashes) = refl

  standing-end : (name : List ℕ) (standing : Standing) → proper_tokens (tokens_at_end rules (opened_at name standing)) ≡ carried_at standing ++ End ∷ []
  standing-end name standing =
      let errors : List Told = raw_end_error rules.exact (end_from standing [] (raw_at standing)) in
      ap proper_tokens (tokens-standing rules name standing)
      ∙ proper_tokens-append (carried_at standing ++ errors) (End ∷ [])
      ∙ ap (λ l. l ++ End ∷ []) (proper_tokens-append (carried_at standing) errors ∙ ap (λ l. proper_tokens (carried_at standing) ++ l) (errors-raw_end rules.exact (end_from standing [] (raw_at standing))) ∙ append-nil (proper_tokens (carried_at standing)) ∙ proper-carried_at standing)

  page-end : (here : Place) → page_text_from options here (End ∷ []) ≡ []
  unfolding page_text_from text_at token_text
  page-end place.Data = refl
  page-end (place.RawText kind) = refl
  page-end place.PlainText = refl

  end-claim_in : (b : Bool) (raw : Raw) (name F : List ℕ) → ClaimIn b raw name F (End ∷ [])
  end-claim_in true raw name F = λ named. end-back (place.RawText raw_kind.Rcdata) (Between (RawText Rcdata name)) [] (page-end (place.RawText raw_kind.Rcdata)) (standing-end name (Free Rcdata))
  end-claim_in false raw name F = λ kind no_references named standing raw_is f. end-back (place.RawText kind) (opened_at name standing) (carried_at standing) (page-end (place.RawText kind)) (standing-end name standing)

  data-end : BackInData means rules options (End ∷ [])
  data-end = data-tokens means rules options (End ∷ []) [] table reads refl (data-none means rules options)

  end-claim : (mode : Mode) (F : List ℕ) → Claim (Between mode) F (End ∷ [])
  unfolding late_at_end_of open_at_end_of told_at_end_of
  end-claim Data F = data-end
  end-claim Cdata F = data-end
  end-claim Plain F = end-back place.PlainText (Between Plain) [] (page-end place.PlainText) refl
  end-claim (RawText raw name) F = end-claim_in (is_rcdata raw) raw name F

  proper-nothing : (mode : Mode) → proper_tokens (nothing_at_end source.exact mode) ≡ End ∷ []
  proper-nothing Data = refl
  proper-nothing Plain = refl
  proper-nothing (RawText raw name) = errors-before (raw_end_error source.exact raw) (End ∷ []) (errors-raw_end source.exact raw)
  proper-nothing Cdata = refl

  -- ---- unfinished items

  -- in Data
  data-unfinished : (K : Start) (F : List ℕ) (M E : List Message) → K.opened ≡ Between Data → Shaped false M × Shaped false E → Claim K.opened F (proper (M ++ E))
  data-unfinished K F M E starts shaped =
      subst (λ T. Claim K.opened F T) (append-nil (proper (M ++ E)))
      (data-item K F (M ++ E) [] starts (shaped-append false M E shaped.0 shaped.1) (data-none means rules options))

  cdata-unfinished : (has_opening : Bool) (F : List ℕ) (M E : List Message) → Shaped false M × Shaped false E → Claim (if has_opening then Between Data else Between Cdata) F (proper (M ++ E))
  cdata-unfinished has_opening F M E shaped =
      subst (λ T. Claim (if has_opening then Between Data else Between Cdata) F T) (append-nil (proper (M ++ E)))
      (cdata-item has_opening F (M ++ E) [] (shaped-append false M E shaped.0 shaped.1) (data-none means rules options))

  no_errors : (line : ℕ) (M : List Message) (before errors : List Told) → proper_tokens errors ≡ []
      → proper (M ++ on_line line (before ++ errors ++ End ∷ [])) ≡ (proper M ++ proper_tokens before) ++ End ∷ []
  no_errors line M before errors none =
      proper-append M (on_line line (before ++ errors ++ End ∷ []))
      ∙ ap (λ l. proper M ++ l)
      (proper-on_line line (before ++ errors ++ End ∷ [])
      ∙ proper_tokens-append (before ++ errors) (End ∷ [])
      ∙ ap (λ l. l ++ End ∷ []) (proper_tokens-append before errors ∙ ap (λ l. proper_tokens before ++ l) none ∙ append-nil (proper_tokens before)))
      ∙ sym (append_assoc (proper M) (proper_tokens before) (End ∷ []))

  -- raw text up to the end, where this is emitted
  raw-unfinished : (K : Start) (raw later : Raw) (name F run : List ℕ) (T : List Told) → K.opened ≡ Between (RawText raw name) → is_rcdata later ≡ is_rcdata raw → T ≡ texts run ++ End ∷ []
      → ((standing : Standing) → raw_at standing ≡ raw → fits name standing F ≡ true → Walked rules.exact name standing later run [])
      → has_no_return run ≡ true → Claim K.opened F T
  raw-unfinished K raw later name F run T starts same is walks none =
      subst (λ o. Claim o F T) (sym starts)
      (subst (λ U. ClaimIn (is_rcdata raw) raw name F U) (sym is)
      (raw-step (is_rcdata raw) raw later name F [] run (End ∷ []) walks none (end-claim_in (is_rcdata raw) later name [])))

  open-raw_item : (K : Start) (Y : List ℕ) (raw : Raw) (name : List ℕ) (item : RawItem) → IsOpenRaw K Y raw name item
      → Claim K.opened (normalised K.input Y)
      (proper (spelled_messages source.exact K.input [] (spell_item source.exact raw item) ++ on_line (end_line K.input Y) (carried raw item ++ raw_end_error source.exact (raw_after_item raw item) ++ End ∷ [])))
  open-raw_item K Y raw name item one =
      let M : List Message = spelled_messages source.exact K.input [] (spell_item source.exact raw item) in
      let F : List ℕ = normalised K.input Y in
      let told : is_told item ≡ true = told-later item one.later in
      raw-unfinished K raw (raw_after_item raw item) name F (item_text raw item) _ one.starts (rcdata-item name raw item [] one.stands)
      (no_errors (end_line K.input Y) M (carried raw item) (raw_end_error source.exact (raw_after_item raw item)) (errors-raw_end source.exact (raw_after_item raw item))
      ∙ ap (λ l. (proper M ++ l) ++ End ∷ []) (proper-carried raw item)
      ∙ ap (λ l. l ++ End ∷ []) (item-proper K.input name raw item [] one.stands told))
      (λ standing raw_is f. walk-item name raw item F [] standing one.stands told raw_is (one.text ∙ sym (append-nil (item_text raw item))) f)
      (no_return-read K.input Y (item_text raw item) one.text)

  proper-switch : (first : ℕ) (letters : List ℕ) → proper_cells (spell_open_switch first letters) ≡ texts (less_than ∷ first ∷ letters)
  proper-switch first letters = ap (λ l. texts (less_than ∷ first ∷ []) ++ l) (proper-spell letters)

  open-switch_item : (K : Start) (Y : List ℕ) (dashes : Dashes) (name : List ℕ) (first : ℕ) (letters : List ℕ) → IsOpenSwitch K Y dashes name first letters
      → Claim K.opened (normalised K.input Y)
      (proper (spelled_messages source.exact K.input [] (spell_open_switch first letters) ++ on_line (end_line K.input Y) (raw_end_error source.exact (DoubleEscaped NoDash) ++ End ∷ [])))
  open-switch_item K Y dashes name first letters one =
      let M : List Message = spelled_messages source.exact K.input [] (spell_open_switch first letters) in
      let text : List ℕ = less_than ∷ first ∷ letters in
      raw-unfinished K (Escaped dashes) (Escaped NoDash) name (normalised K.input Y) text _ one.starts refl
      (no_errors (end_line K.input Y) M [] (raw_end_error source.exact (DoubleEscaped NoDash)) (errors-raw_end source.exact (DoubleEscaped NoDash))
      ∙ ap (λ l. l ++ End ∷ []) (append-nil (proper M) ∙ proper-spelled source.exact K.input [] (spell_open_switch first letters) ∙ proper-switch first letters))
      (λ standing raw_is f. switch-walked rules.exact name standing dashes first letters raw_is one.are_letters)
      (no_return-read K.input Y text one.text)

  proper-open_tag : (tag : WrittenTag) (last : Option OpenAttribute) → proper_tokens (open_tag_at_end source tag last) ≡ End ∷ []
  proper-open_tag tag None = refl
  proper-open_tag tag (Some a) = errors-before (errors_at_end source zero a.run) _ (errors-at_end true source zero a.run)

  -- the end tag of raw text that the end cuts off tells nothing but errors
  open-end_item : (K : Start) (Y : List ℕ) (raw : Raw) (name : List ℕ) (tag : WrittenTag) (last : Option OpenAttribute) → K.opened ≡ Between (RawText raw name)
      → Claim K.opened (normalised K.input Y)
      (proper (spelled_messages source.exact K.input [] (spell_open_tag source tag last) ++ on_line (end_line K.input Y) (open_tag_at_end source tag last)))
  open-end_item K Y raw name tag last starts =
      let M : List Message = spelled_messages source.exact K.input [] (spell_open_tag source tag last) in
      let F : List ℕ = normalised K.input Y in
      let none : proper M ≡ [] =
      proper-spelled source.exact K.input [] (spell_open_tag source tag last)
      ∙ cells-errors (spell_open_tag source tag last) (tell-append (body source tag) (spell_open_attribute source tag last) (tell-body source tag) (tell-open_attribute true source tag last)) in
      let is : proper (M ++ on_line (end_line K.input Y) (open_tag_at_end source tag last)) ≡ End ∷ [] =
      proper-append M (on_line (end_line K.input Y) (open_tag_at_end source tag last))
      ∙ ap (λ l. l ++ proper (on_line (end_line K.input Y) (open_tag_at_end source tag last))) none
      ∙ proper-on_line (end_line K.input Y) (open_tag_at_end source tag last)
      ∙ proper-open_tag tag last in
      subst (λ o. Claim o F (proper (M ++ on_line (end_line K.input Y) (open_tag_at_end source tag last)))) (sym starts)
      (subst (λ T. ClaimIn (is_rcdata raw) raw name F T) (sym is) (end-claim_in (is_rcdata raw) raw name F))

  open-reference_item : (K : Start) (Y : List ℕ) (mode : Mode) (F : List ℕ) → K.opened ≡ Between mode → has_references mode ≡ true
      → Claim K.opened (normalised K.input Y) (proper (on_line (end_line K.input Y) (reference_at_end source mode F)))
  open-reference_item K Y mode F starts has =
      let found : List Told = told_of (InText mode) (found_in source false F) in
      let run : List ℕ = characters_in (found_in source false F) in
      let rest : List ℕ = drop (found_in source false F).taken F in
      let is : proper (on_line (end_line K.input Y) (reference_at_end source mode F)) ≡ texts run ++ (texts rest ++ End ∷ []) =
      proper-on_line (end_line K.input Y) (reference_at_end source mode F)
      ∙ proper_tokens-append (found ++ texts rest) (nothing_at_end source.exact mode)
      ∙ ap (λ l. l ++ proper_tokens (nothing_at_end source.exact mode)) (proper_tokens-append found (texts rest))
      ∙ rw (proper-found mode F, proper-texts rest, proper-nothing mode) refl
      ∙ append_assoc (texts run) (texts rest) (End ∷ []) in
      subst (λ o. Claim o (normalised K.input Y) (proper (on_line (end_line K.input Y) (reference_at_end source mode F)))) (sym starts)
      (subst (λ T. Claim (Between mode) (normalised K.input Y) T) (sym is)
      (reference-texts mode (normalised K.input Y) [] run (texts rest ++ End ∷ []) has (reference-texts mode [] [] rest (End ∷ []) has (end-claim mode []))))

  unfinished-claim : (K : Start) (s : T) (Y : List ℕ) (M E : List Message) → Unfinished told_to source K s Y M E → Claim K.opened (normalised K.input Y) (proper (M ++ E))
  unfinished-claim K s Y M E (OpenRaw raw name item one) = open-raw_item K Y raw name item one
  unfinished-claim K s Y M E (OpenSwitch dashes name first letters one) = open-switch_item K Y dashes name first letters one
  unfinished-claim K s Y M E (OpenRawEnd raw name tag last one) = open-end_item K Y raw name tag last one.starts
  unfinished-claim K s Y M E (OpenReference mode F one) = open-reference_item K Y mode F one.starts one.has
  unfinished-claim K s Y M E (OpenLessThan starts text) = data-unfinished K _ M E starts (shaped-unfinished false told_to source K s Y M E (OpenLessThan starts text))
  unfinished-claim K s Y M E (OpenSolidus starts text) = data-unfinished K _ M E starts (shaped-unfinished false told_to source K s Y M E (OpenSolidus starts text))
  unfinished-claim K s Y M E (OpenTag tag last one) = data-unfinished K _ M E one.starts (shaped-unfinished false told_to source K s Y M E (OpenTag tag last one))
  unfinished-claim K s Y M E (OpenInstruction instruction one unended) = data-unfinished K _ M E one.starts (shaped-unfinished false told_to source K s Y M E (OpenInstruction instruction one unended))
  unfinished-claim K s Y M E (OpenBogus content one) = data-unfinished K _ M E one.starts (shaped-unfinished false told_to source K s Y M E (OpenBogus content one))
  unfinished-claim K s Y M E (OpenKeyword held one) = data-unfinished K _ M E one.starts (shaped-unfinished false told_to source K s Y M E (OpenKeyword held one))
  unfinished-claim K s Y M E (OpenBogusDeclaration content one) = data-unfinished K _ M E one.starts (shaped-unfinished false told_to source K s Y M E (OpenBogusDeclaration content one))
  unfinished-claim K s Y M E (OpenDoctype doctype one) = data-unfinished K _ M E one.starts (shaped-unfinished false told_to source K s Y M E (OpenDoctype doctype one))
  unfinished-claim K s Y M E (OpenComment content one) = data-unfinished K _ M E one.starts (shaped-unfinished false told_to source K s Y M E (OpenComment content one))
  unfinished-claim K s Y M E (OpenCdata cdata one unended) =
      subst (λ o. Claim o (normalised K.input Y) (proper (M ++ E))) (sym one.starts)
      (cdata-unfinished cdata.has_opening _ M E (shaped-unfinished false told_to source K s Y M E (OpenCdata cdata one unended)))

  -- ---- items

  item-claim : (Z : List ℕ) (K : Start) (s : T) (Y : List ℕ) (M : List Message) (later : Start) → Item told_to source Z K s Y M later → (tokens : List Told)
      → Claim later.opened (normalised later.input Z) tokens → Claim K.opened (normalised K.input (Y ++ Z)) (proper M ++ tokens)
  item-claim Z K s Y M later (OneCharacter mode c one) tokens claim =
      subst (λ o. Claim o (normalised K.input (Y ++ Z)) (proper M ++ tokens)) (sym one.starts)
      (character-item mode K Y (normalised K.input (Y ++ Z)) (normalised (input_after K.input Y) Z) c tokens one
      (shaped-item false told_to source Z K s Y M later (OneCharacter mode c one) (λ e. absurd (false≢true e))) claim)
  item-claim Z K s Y M later (OneLone c one) tokens claim = data-item K _ M tokens one.starts (shaped-item false told_to source Z K s Y M later (OneLone c one) (λ e. absurd (false≢true e))) claim
  item-claim Z K s Y M later (OneLoneBefore c rest one) tokens claim =
      data-item K _ M tokens one.starts (shaped-item false told_to source Z K s Y M later (OneLoneBefore c rest one) (λ e. absurd (false≢true e))) claim
  item-claim Z K s Y M later (OneEmptyEnd one) tokens claim = data-item K _ M tokens one.starts (shaped-item false told_to source Z K s Y M later (OneEmptyEnd one) (λ e. absurd (false≢true e))) claim
  item-claim Z K s Y M later (OneTag tag one) tokens claim = data-tag_item K s _ _ tag tokens one.starts claim
  item-claim Z K s Y M later (OneComment comment one) tokens claim =
      data-item K _ M tokens one.starts (shaped-item false told_to source Z K s Y M later (OneComment comment one) (λ e. absurd (false≢true e))) claim
  item-claim Z K s Y M later (OneDoctype doctype one) tokens claim =
      data-item K _ M tokens one.starts (shaped-item false told_to source Z K s Y M later (OneDoctype doctype one) (λ e. absurd (false≢true e))) claim
  item-claim Z K s Y M later (OneInstruction instruction one ended) tokens claim =
      data-item K _ M tokens one.starts (shaped-item false told_to source Z K s Y M later (OneInstruction instruction one ended) (λ e. absurd (false≢true e))) claim
  item-claim Z K s Y M later (OneCdata cdata one ended) tokens claim =
      subst (λ o. Claim o (normalised K.input (Y ++ Z)) (proper M ++ tokens)) (sym one.starts)
      (cdata-item cdata.has_opening _ M tokens (shaped-item false told_to source Z K s Y M later (OneCdata cdata one ended) (λ e. absurd (false≢true e))) claim)
  item-claim Z K s Y M later (OneReferenceIn mode F one) tokens claim =
      let is : proper (on_line (line_after K.input (ampersand ∷ [])) (told_of (InText mode) (found_in source false F))) ≡ texts (characters_in (found_in source false F)) =
      proper-on_line (line_after K.input (ampersand ∷ [])) (told_of (InText mode) (found_in source false F)) ∙ proper-found mode F in
      subst (λ o. Claim o (normalised K.input (Y ++ Z)) (proper M ++ tokens)) (sym one.starts)
      (subst (λ T. Claim (Between mode) (normalised K.input (Y ++ Z)) (T ++ tokens)) (sym is) (reference-texts mode _ _ (characters_in (found_in source false F)) tokens one.has claim))
  item-claim Z K s Y M later (OneRawCharacter raw name c one) tokens claim = raw-character Z K Y raw name c tokens one claim
  item-claim Z K s Y M later (OneRawMark raw name item one) tokens claim = raw-mark Z K Y raw name item tokens one claim
  item-claim Z K s Y M later (OneRawLessThan raw name item c F one) tokens claim = raw-less_than Z K Y raw name item c F tokens one claim
  item-claim Z K s Y M later (OneRawLessThanBefore raw name item c F one) tokens claim = raw-less_than_before Z K Y raw name item c F tokens one claim
  item-claim Z K s Y M later (OneRawEnd raw name tag one) tokens claim = raw-end_item K s Y _ _ raw name tag tokens one claim

  items-claim : (K : Start) (s : T) (X : List ℕ) (M E : List Message) → Items told_to source K s X M E → Claim K.opened (normalised K.input X) (proper (M ++ E))
  items-claim _ _ _ _ _ (Nothing K s X mode starts none) =
      subst (λ o. Claim o (normalised K.input X) (proper (on_line (end_line K.input X) (nothing_at_end source.exact mode)))) (sym starts)
      (subst (λ T. Claim (Between mode) (normalised K.input X) T) (sym (proper-on_line (end_line K.input X) (nothing_at_end source.exact mode) ∙ proper-nothing mode)) (end-claim mode (normalised K.input X)))
  items-claim _ _ _ _ _ (Then K s Y Z M N E later one rest) =
      subst (λ T. Claim K.opened (normalised K.input (Y ++ Z)) T) (sym (ap proper (append_assoc M N E) ∙ proper-append M (N ++ E)))
      (item-claim Z K s Y M later one (proper (N ++ E)) (items-claim later (stepped told_to.step s M) Z N E rest))
  items-claim _ _ _ _ _ (Last K s X M E one) = unfinished-claim K s X M E one

  -- ---- a page

  pub page-read_again : (K later : Start) (s : T) (t : S) (text : List ℕ) → IsTable source.references → K.opened ≡ Between Data → IsOpen later
      → HaveTexts (tokens_of (all_messages told_to source K s text))
      → proper (all_messages means rules later t (page_text options (tokens_of (all_messages told_to source K s text))))
      ≡ flat_map read_back (tokens_of (all_messages told_to source K s text)) ++ End ∷ []
  page-read_again K later s t text source_table starts here texts_of =
      let A : List Message = all_messages told_to source K s text in
      let clean : nothing_open K.opened ≡ true = ap nothing_open starts in
      let composed : Composed told_to source K s text = all-composed told_to source K s text clean in
      let is : A ≡ composed.tells ++ composed.ends = reading-items told_to source K s text composed.tells composed.ends source_table composed.items in
      let claim : BackInData means rules options (proper (composed.tells ++ composed.ends)) =
      subst (λ o. Claim o (normalised K.input text) (proper (composed.tells ++ composed.ends))) starts (items-claim K s text composed.tells composed.ends composed.items) in
      let back : BackInData means rules options (proper A) = subst (λ N. BackInData means rules options (proper N)) (sym is) claim in
      let fine : Fine (tokens_of A) = (texts_of, all-tokens told_to source K s text source_table clean) in
      ap (λ Y. proper (all_messages means rules later t Y)) (page-proper options A place.Data)
      ∙ back later t here (fine-proper A fine)
      ∙ ap (λ l. l ++ End ∷ []) (sym (back-proper A))
