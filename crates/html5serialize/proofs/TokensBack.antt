-- Tokens that are written one after another are read again as themselves.
use Rattle.std.proofs.Common.{◌≡◌, ℕ, true, false, List, [], ◌∷◌, ◌++◌, refl, ap, sym, ◌∙◌, subst}
use Rattle.std.specs.Prelude.{chars, codes, flat_map}
use Rattle.std.specs.List.{list_all}
use Rattle.std.proofs.lemmas.Bool.{and_parts, false≢true}
use Rattle.html5ever_interface.specs.Sink.{Means, Message, stepped, on_line}
use Rattle.html5ever_interface.specs.Token.{Told, TagOf, Reply, keeps_state}
use Rattle.html5ever_interface.specs.Token.Told.{Text, Null, Error, Tag, Comment, Instruction, Doctype, End}
use Rattle.html5ever_interface.specs.Token.Reply.{KeepOn, ReadPlainText, ReadRawData, RunScript, SwitchEncoding}
use Rattle.html5ever_interface.specs.declared.interface.token.TagKind.{TagKind}
use Rattle.html5ever_interface.specs.declared.interface.token.TagKind.TheVariants.{StartTag, EndTag}
use Rattle.html5reading.specs.Characters.{solidus, greater_than}
use Rattle.html5reading.specs.EndOfInput.{late_at_end_of, open_at_end_of, told_at_end_of, tokens_at_end}
use Rattle.html5reading.specs.NormalisedText.{normalised, line_after, input_after, ends_with_carriage_return}
use Rattle.html5reading.specs.Reading.{last_after, open_after_reply, messages, told, all_messages, messages_so_far, start_after}
use Rattle.html5reading.specs.Start.{Input, Start, Rules}
use Rattle.html5reading.specs.Start.Mode.{Data}
use Rattle.html5reading.specs.Start.Open.{Between}
use Rattle.html5reading.proofs.InputLemmas.{input_after-append}
use Rattle.html5reading.proofs.ReadingLemmas.{reading-events, messages-at_end}
use Rattle.html5reading.proofs.Traces.{messages-append}
use Rattle.html5grammar.specs.Anywhere.{TellsByItself, start_beyond, last_reply}
use Rattle.html5grammar.specs.Tag.{WrittenTag, body, end_errors, tag_told, spelled}
use Rattle.html5grammar.specs.Spelled.{spelled_messages}
use Rattle.html5grammar.proofs.LastReply.{last_reply-says}
use Rattle.markup5ever.specs.NamedReferences.{IsTable}
use Rattle.html5serialize.specs.Doctypes.{name_text, is_markup_character}
use Rattle.html5serialize.specs.ReadBack.{HasTexts, HaveTexts, KeepsOnAfterToken, KeepsOnAfterAll, ReadsBack, ReadBack, last_after_token, last_after_tokens}
use Rattle.html5serialize.specs.Tags.{attributes_text_by, closing_text, opening_text, tag_text}
use Rattle.html5serialize.specs.Tokens.{can_write, read_back, token_text, tokens_text, is_comment_text, without_duplicates}
use Rattle.html5serialize.specs.declared.escaping.Escapes.TheVariants.{Numbers}
use Rattle.html5serialize.proofs.BackTokens.{token-reads_back}
use Rattle.html5serialize.proofs.DoctypeBack.{doctype-back, high-markup, no_return-markup}
use Rattle.html5serialize.proofs.Errors.{proper-append, proper-on_line}
use Rattle.html5serialize.proofs.MarkupBack.{high-comment, no_return-comment, tag-item}
use Rattle.html5serialize.proofs.NamedValues.{shows-numbers}
use Rattle.html5serialize.proofs.TagBack.{written_tag, IsTagBack, tag-back}
use Rattle.html5serialize.proofs.TagTokens.{proper-tag}
use Rattle.html5serialize.proofs.Utf8Bytes.{all-chars}
use Rattle.html5write.specs.Pieces.{is_comment_character}
use Rattle.html5write.specs.Told.{IsOpen, KeepsOnAfter, has_no_return, proper}
use Rattle.html5write.proofs.Front.{no_break-markup}
use Rattle.html5write.proofs.Sequence.{in_sequence, told-alone, after-alone}
use Rattle.html5write.proofs.Texts.{no_break-text, none-told}
use Rattle.html5write.proofs.Values.{no_return-append}

-- ---- no serialized token ends with a CR

pub no_break-tag : (input : Input) (kind : TagKind) (rest : List ℕ) → has_no_return rest ≡ true → (input_after input (opening_text kind ++ rest)).after_carriage_return ≡ false
no_break-tag input StartTag rest h = no_break-markup input rest h
no_break-tag input EndTag rest h = no_break-markup input (solidus ∷ rest) h

pub no_break-token : (rules : Rules) (input : Input) (token : Told) → HasTexts token → can_write token ≡ true → input.after_carriage_return ≡ false
    → (input_after input (token_text token)).after_carriage_return ≡ false
unfolding token_text can_write is_comment_text input_after ends_with_carriage_return
no_break-token rules input (Text text) texts can h = no_break-text input (chars text) h
no_break-token rules input Null texts can h = refl
no_break-token rules input (Error message) texts can h = h
no_break-token rules input (Tag tag) texts can h =
    no_break-tag input tag.kind (chars tag.name ++ (attributes_text_by Numbers tag.attributes ++ closing_text tag.self_closing)) ((tag-back Numbers rules tag (shows-numbers rules) texts.0 texts.1 can).no_return)
no_break-token rules input (Comment text) texts can h =
    no_break-markup input (codes "!--" ++ (chars text ++ codes "-->"))
    (no_return-append (chars text) (codes "-->")
    (no_return-comment (chars text) (all-chars is_comment_character high-comment text texts (and_parts (list_all is_comment_character text) _ can).0)) refl)
no_break-token rules input (Instruction content) texts can h =
    no_break-markup input (codes "?" ++ (chars content ++ codes ">"))
    (no_return-append (chars content) (codes ">") (no_return-markup (chars content) (all-chars is_markup_character high-markup content texts can)) refl)
no_break-token rules input (Doctype d) texts can h =
    no_break-markup input (codes "!DOCTYPE" ++ (name_text d d.name ++ codes ">")) ((doctype-back d texts.0 texts.1 texts.2 can).no_return)
no_break-token rules input End texts can h = h

-- after a reply that leaves the state as it is nothing is open
pub keeps-opens : {H : Type 0} (last : List ℕ) (r : Reply H) → keeps_state r ≡ true → open_after_reply last r ≡ Between Data
keeps-opens last KeepOn keeps = refl
keeps-opens last ReadPlainText keeps = absurd (false≢true keeps)
keeps-opens last (ReadRawData kind) keeps = absurd (false≢true keeps)
keeps-opens last (RunScript handle) keeps = refl
keeps-opens last (SwitchEncoding text) keeps = refl

module _ {X S H : Type 0} (means : Means X S H) (rules : Rules) where
  -- a token after which nothing is open
  pub record Kept (K : Start) (s : S) (token : Told) : Type 0 where
    pub messages : List Message
    pub tells : TellsByItself means rules K s (token_text token) messages (start_beyond K (token_text token) (Between Data) (last_after_token K.last_start_tag token))
    pub exactly : proper messages ≡ read_back token

  tag-kept : (K : Start) (s : S) (tag : TagOf) → IsTable rules.references → IsOpen K → HasTexts (Tag tag) → can_write (Tag tag) ≡ true → KeepsOnAfter means.reply (without_duplicates tag)
      → Kept K s (Tag tag)
  unfolding token_text read_back can_write spelled last_after
  tag-kept K s tag table here texts can keeps =
      let back : IsTagBack Numbers rules tag = tag-back Numbers rules tag (shows-numbers rules) texts.0 texts.1 can in
      let written : WrittenTag = written_tag Numbers tag in
      let Y : List ℕ = tag_text tag in
      let M : List Message = spelled_messages rules.exact K.input [] (spelled rules written) in
      let last : List ℕ = last_after K.last_start_tag (without_duplicates tag) in
      let told : KeepsOnAfter means.reply (tag_told rules written) = subst (λ t. KeepsOnAfter means.reply t) (sym back.told) keeps in
      let opens : open_after_reply last (last_reply means.step means.reply s M) ≡ Between Data =
      last_reply-says means.step means.reply means.foreign rules (λ r. open_after_reply last r ≡ Between Data) s K.input [] (body rules written) greater_than (end_errors rules written)
      (tag_told rules written) (λ t line. keeps-opens last (means.reply t (Tag (tag_told rules written)) line) (told t line)) in
      record {
        messages = M;
        tells = subst (λ o. TellsByItself means rules K s Y M (start_beyond K Y o last)) opens (tag-item means rules Numbers (shows-numbers rules) K s tag table here texts can);
        exactly = proper-tag rules K.input written ∙ ap (λ t. Tag t ∷ []) back.told;
      }

  other-kept : (K : Start) (s : S) (token : Told) (read : ReadsBack means rules K s token)
      → TellsByItself means rules K s (token_text token) read.messages (start_beyond K (token_text token) (Between Data) (last_after_token K.last_start_tag token)) → Kept K s token
  other-kept K s token read tells = record { messages = read.messages; tells = tells; exactly = read.exactly }

  pub token-kept : (K : Start) (s : S) (token : Told) → IsTable rules.references → IsOpen K → HasTexts token → can_write token ≡ true → KeepsOnAfterToken means.reply token → Kept K s token
  token-kept K s (Tag tag) table here texts can keeps = tag-kept K s tag table here texts can keeps
  token-kept K s (Text text) table here texts can keeps =
      let read = token-reads_back means rules K s (Text text) table here texts can in other-kept K s (Text text) read read.tells
  token-kept K s Null table here texts can keeps =
      let read = token-reads_back means rules K s Null table here texts can in other-kept K s Null read read.tells
  token-kept K s (Error message) table here texts can keeps =
      let read = token-reads_back means rules K s (Error message) table here texts can in other-kept K s (Error message) read read.tells
  token-kept K s (Comment text) table here texts can keeps =
      let read = token-reads_back means rules K s (Comment text) table here texts can in other-kept K s (Comment text) read read.tells
  token-kept K s (Instruction content) table here texts can keeps =
      let read = token-reads_back means rules K s (Instruction content) table here texts can in other-kept K s (Instruction content) read read.tells
  token-kept K s (Doctype d) table here texts can keeps =
      let read = token-reads_back means rules K s (Doctype d) table here texts can in other-kept K s (Doctype d) read read.tells
  token-kept K s End table here texts can keeps =
      let read = token-reads_back means rules K s End table here texts can in other-kept K s End read read.tells

  -- ---- one after another

  pub tokens-read_back : (K : Start) (s : S) (tokens : List Told) → IsTable rules.references → IsOpen K → HaveTexts tokens → list_all can_write tokens ≡ true → KeepsOnAfterAll means.reply tokens
      → ReadBack means rules K s tokens
  unfolding last_after_tokens proper
  tokens-read_back K s [] table here texts can keeps = record { messages = []; tells = none-told means rules K s here.starts; exactly = refl }
  tokens-read_back K s (token ∷ tokens) table here texts can keeps =
      let p = and_parts (can_write token) (list_all can_write tokens) can in
      let first : Kept K s token = token-kept K s token table here texts.0 p.0 keeps.0 in
      let between : Start = start_beyond K (token_text token) (Between Data) (last_after_token K.last_start_tag token) in
      let here_after : IsOpen between = record { starts = refl; no_break = no_break-token rules K.input token texts.0 p.0 here.no_break } in
      let rest : ReadBack means rules between (stepped means.step s first.messages) tokens = tokens-read_back between (stepped means.step s first.messages) tokens table here_after texts.1 p.1 keeps.1 in
      record {
        messages = first.messages ++ rest.messages;
        tells =
            subst (λ input. TellsByItself means rules K s (token_text token ++ tokens_text tokens) (first.messages ++ rest.messages) (record { opened = Between Data; last_start_tag = last_after_tokens between.last_start_tag tokens; input = input }))
            (sym (input_after-append K.input (token_text token) (tokens_text tokens)))
            (in_sequence means rules K s (token_text token) first.messages between (tokens_text tokens) rest.messages (start_beyond between (tokens_text tokens) (Between Data) (last_after_tokens between.last_start_tag tokens))
            first.tells rest.tells);
        exactly = proper-append first.messages rest.messages ∙ ap (λ l. l ++ proper rest.messages) first.exactly ∙ ap (λ l. read_back token ++ l) rest.exactly;
      }

  -- a text after which nothing is open tells the end besides, where it is all
  pub whole-alone : (K : Start) (s : S) (Y : List ℕ) (M : List Message) (last : List ℕ) → TellsByItself means rules K s Y M (start_beyond K Y (Between Data) last)
      → proper (all_messages means rules K s Y) ≡ proper M ++ End ∷ []
  unfolding late_at_end_of open_at_end_of told_at_end_of
  whole-alone K s Y M last tells =
      let later : Start = start_beyond K Y (Between Data) last in
      let line : ℕ = line_after K.input (normalised K.input Y) in
      let all : all_messages means rules K s Y ≡ M ++ on_line line (End ∷ []) =
      ap messages (reading-events means.step means.reply means.foreign rules K s Y)
      ∙ messages-append (told means.step means.reply means.foreign rules K s Y) _
      ∙ ap (λ N. messages_so_far means rules K s Y ++ N) (messages-at_end means.step means.reply means.foreign rules K s Y)
      ∙ ap (λ N. N ++ on_line line (tokens_at_end rules (start_after means rules K s Y).opened)) (told-alone means rules K s Y M later tells)
      ∙ ap (λ (k : Start). M ++ on_line line (tokens_at_end rules k.opened)) (after-alone means rules K s Y M later tells) in
      ap proper all
      ∙ proper-append M (on_line line (End ∷ []))
      ∙ ap (λ l. proper M ++ l) (proper-on_line line (End ∷ []))

  -- and by themselves the end besides
  pub tokens-whole : (K : Start) (s : S) (tokens : List Told) → IsTable rules.references → IsOpen K → HaveTexts tokens → list_all can_write tokens ≡ true → KeepsOnAfterAll means.reply tokens
      → proper (all_messages means rules K s (tokens_text tokens)) ≡ flat_map read_back tokens ++ End ∷ []
  tokens-whole K s tokens table here texts can keeps =
      let back : ReadBack means rules K s tokens = tokens-read_back K s tokens table here texts can keeps in
      whole-alone K s (tokens_text tokens) back.messages (last_after_tokens K.last_start_tag tokens) back.tells ∙ ap (λ l. l ++ End ∷ []) back.exactly
