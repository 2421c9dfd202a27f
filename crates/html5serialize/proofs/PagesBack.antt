-- Tokens and elements with raw text that are written one after another are read again as themselves.
use Rattle.std.proofs.Common.{◌≡◌, ℕ, true, false, List, [], ◌∷◌, ◌++◌, refl, ap, sym, ◌∙◌, subst}
use Rattle.std.specs.Prelude.{not, chars, codes, flat_map}
use Rattle.std.specs.List.{list_all}
use Rattle.std.proofs.lemmas.Bool.{and_parts, not-true}
use Rattle.std.proofs.lemmas.List.{append_assoc}
use Rattle.html5ever_interface.specs.Sink.{Means, Message, stepped}
use Rattle.html5ever_interface.specs.Token.{TagOf}
use Rattle.html5ever_interface.specs.Token.Told.{Tag, End}
use Rattle.html5ever_interface.specs.declared.interface.token.TagKind.{TagKind}
use Rattle.html5ever_interface.specs.declared.interface.token.TagKind.TheVariants.{StartTag, EndTag}
use Rattle.html5ever_interface.specs.declared.states.RawKind.{RawKind}
use Rattle.html5reading.specs.Characters.{greater_than, solidus}
use Rattle.html5reading.specs.NormalisedText.{input_after}
use Rattle.html5reading.specs.Reading.{all_messages, last_after, open_after_reply}
use Rattle.html5reading.specs.Start.{Input, Start, Rules, raw_of}
use Rattle.html5reading.specs.Start.Mode.{Data, RawText}
use Rattle.html5reading.specs.Start.Open.{Between}
use Rattle.html5reading.specs.Tag.{is_end_tag}
use Rattle.html5reading.proofs.InputLemmas.{input_after-append}
use Rattle.html5grammar.specs.Anywhere.{TellsByItself, start_beyond, last_reply}
use Rattle.html5grammar.specs.Spelled.{spelled_messages}
use Rattle.html5grammar.specs.Tag.{WrittenTag, body, end_errors, tag_told, spelled}
use Rattle.html5grammar.proofs.LastReply.{last_reply-says}
use Rattle.markup5ever.specs.NamedReferences.{IsTable}
use Rattle.html5serialize.specs.Pages.{Part, AsksForAfter, AsksForPart, AsksForParts, PartHasTexts, PartsHaveTexts, ReadsParts, can_write_part, last_after_part, last_after_parts, part_read_back, part_text, parts_text}
use Rattle.html5serialize.specs.Pages.Part.{One, Element}
use Rattle.html5serialize.specs.RawTexts.{ReadsRaw, can_write_raw, end_tag_of, end_text, raw_text}
use Rattle.html5serialize.specs.ReadBack.{HasTexts}
use Rattle.html5serialize.specs.Tags.{attributes_text_by, closing_text, opening_text, tag_text}
use Rattle.html5serialize.specs.Tokens.{can_write, read_back, token_text, without_duplicates}
use Rattle.html5serialize.specs.declared.escaping.Escapes.TheVariants.{Numbers}
use Rattle.html5serialize.proofs.Errors.{proper-append}
use Rattle.html5serialize.proofs.MarkupBack.{tag-item}
use Rattle.html5serialize.proofs.RawBack.{IsEndTag, IsRawName, end-tag, raw-name}
use Rattle.html5serialize.proofs.RawKinds.{raw-name-of, raw-text}
use Rattle.html5serialize.proofs.NamedValues.{shows-numbers}
use Rattle.html5serialize.proofs.TagBack.{written_tag, IsTagBack, tag-back}
use Rattle.html5serialize.proofs.TagTokens.{proper-tag}
use Rattle.html5serialize.proofs.TokensBack.{Kept, keeps-opens, no_break-token, token-kept, whole-alone}
use Rattle.html5write.specs.Told.{IsOpen, has_no_return, proper}
use Rattle.html5write.proofs.Front.{no_break-markup}
use Rattle.html5write.proofs.Sequence.{in_sequence}
use Rattle.html5write.proofs.Texts.{none-told}

-- a tag begins with a character, so no mark is dropped after it
no_mark-tag : (input : Input) (kind : TagKind) (rest : List ℕ) → (input_after input (opening_text kind ++ rest)).drops_byte_order_mark ≡ false
unfolding input_after
no_mark-tag input StartTag rest = refl
no_mark-tag input EndTag rest = refl

module _ {X S H : Type 0} (means : Means X S H) (rules : Rules) where
  -- a part after which nothing is open, by its text
  record KeptText (K : Start) (s : S) (part : Part) (Y : List ℕ) : Type 0 where
    messages : List Message
    tells : TellsByItself means rules K s Y messages (start_beyond K Y (Between Data) (last_after_part K.last_start_tag part))
    exactly : proper messages ≡ part_read_back part
    no_break : (input_after K.input Y).after_carriage_return ≡ false

  abbrev KeptPart : Start → S → Part → Type 0
  KeptPart K s part = KeptText K s part (part_text part)

  -- a start tag after which raw text is open
  record Opened (K : Start) (s : S) (tag : TagOf) (kind : RawKind) : Type 0 where
    messages : List Message
    tells : TellsByItself means rules K s (token_text (Tag tag)) messages (start_beyond K (token_text (Tag tag)) (Between (RawText (raw_of kind) tag.name)) tag.name)
    exactly : proper messages ≡ read_back (Tag tag)

  tag-opened : (K : Start) (s : S) (tag : TagOf) (kind : RawKind) → IsTable rules.references → IsOpen K → HasTexts (Tag tag) → can_write (Tag tag) ≡ true → is_end_tag tag.kind ≡ false
      → AsksForAfter means.reply kind (without_duplicates tag) → Opened K s tag kind
  unfolding token_text read_back can_write spelled last_after
  tag-opened K s tag kind table here texts can starts asks =
      let back : IsTagBack Numbers rules tag = tag-back Numbers rules tag (shows-numbers rules) texts.0 texts.1 can in
      let written : WrittenTag = written_tag Numbers tag in
      let Y : List ℕ = tag_text tag in
      let M : List Message = spelled_messages rules.exact K.input [] (spelled rules written) in
      let last : List ℕ = last_after K.last_start_tag (without_duplicates tag) in
      let is_last : last ≡ tag.name = rw starts refl in
      let told : AsksForAfter means.reply kind (tag_told rules written) = subst (λ t. AsksForAfter means.reply kind t) (sym back.told) asks in
      let opens : open_after_reply last (last_reply means.step means.reply s M) ≡ Between (RawText (raw_of kind) last) =
      last_reply-says means.step means.reply means.foreign rules (λ r. open_after_reply last r ≡ Between (RawText (raw_of kind) last)) s K.input [] (body rules written) greater_than
      (end_errors rules written) (tag_told rules written) (λ t line. ap (open_after_reply last) (told t line)) in
      record {
        messages = M;
        tells =
            subst (λ l. TellsByItself means rules K s Y M (start_beyond K Y (Between (RawText (raw_of kind) l)) l)) is_last
            (subst (λ o. TellsByItself means rules K s Y M (start_beyond K Y o last)) opens (tag-item means rules Numbers (shows-numbers rules) K s tag table here texts can));
        exactly = proper-tag rules K.input written ∙ ap (λ t. Tag t ∷ []) back.told;
      }

  -- no element ends with a CR
  no_break-element : (input : Input) (name front : List ℕ) → has_no_return (end_text name) ≡ true → (input_after input (front ++ end_text name)).after_carriage_return ≡ false
  no_break-element input name front h =
      ap (λ (i : Input). i.after_carriage_return) (input_after-append input front (end_text name)) ∙ no_break-markup (input_after input front) (solidus ∷ name ++ codes ">") h

  -- raw text and its end tag, with what is open after it
  end-tells : (K : Start) (s : S) (kind : RawKind) (name text : List ℕ) (raw : ReadsRaw means rules K s kind name text)
      → TellsByItself means rules K s (raw_text kind text ++ end_text name) raw.messages
      (start_beyond K (raw_text kind text ++ end_text name) (open_after_reply K.last_start_tag (last_reply means.step means.reply s raw.messages)) K.last_start_tag)
  unfolding last_after
  end-tells K s kind name text raw = raw.tells

  element-kept : (K : Start) (s : S) (tag : TagOf) (kind : RawKind) (text : List ℕ) → IsTable rules.references → IsOpen K → PartHasTexts (Element tag kind text)
      → can_write_part (Element tag kind text) ≡ true → AsksForPart means.reply (Element tag kind text) → KeptPart K s (Element tag kind text)
  unfolding token_text
  element-kept K s tag kind text table here texts can asks =
      let p = and_parts (can_write (Tag tag)) _ can in
      let q = and_parts (not (is_end_tag tag.kind)) (can_write_raw kind tag.name text) p.1 in
      let name : List ℕ = tag.name in
      let front : List ℕ = token_text (Tag tag) in
      let rest : List ℕ = raw_text kind text ++ end_text name in
      let n : IsRawName name = raw-name name (raw-name-of kind name text q.1) in
      let end : IsEndTag rules name = end-tag rules name n in
      let first : Opened K s tag kind = tag-opened K s tag kind table here texts.0 p.0 (not-true (is_end_tag tag.kind) q.0) asks.0 in
      let between : Start = start_beyond K front (Between (RawText (raw_of kind) name)) name in
      let t : S = stepped means.step s first.messages in
      let raw : ReadsRaw means rules between t kind name text =
      raw-text means rules between t kind name text table (record {
        starts = refl;
        no_break = no_break-token rules K.input (Tag tag) texts.0 p.0 here.no_break;
        no_mark = no_mark-tag K.input tag.kind (chars name ++ (attributes_text_by Numbers tag.attributes ++ closing_text tag.self_closing));
      }) texts.1 q.1 in
      let opens : open_after_reply name (last_reply means.step means.reply t raw.messages) ≡ Between Data =
      raw.opens (Between Data) (λ u line. keeps-opens name (means.reply u (Tag (end_tag_of name)) line) (asks.1 u line)) in
      let second : TellsByItself means rules between t rest raw.messages (start_beyond between rest (Between Data) name) =
      subst (λ o. TellsByItself means rules between t rest raw.messages (start_beyond between rest o name)) opens (end-tells between t kind name text raw) in
      let M : List Message = first.messages ++ raw.messages in
      let kept : KeptText K s (Element tag kind text) (front ++ rest) = record {
        messages = M;
        tells =
            subst (λ input. TellsByItself means rules K s (front ++ rest) M (record { opened = Between Data; last_start_tag = name; input = input })) (sym (input_after-append K.input front rest))
            (in_sequence means rules K s front first.messages between rest raw.messages (start_beyond between rest (Between Data) name) first.tells second);
        exactly = proper-append first.messages raw.messages ∙ ap (λ l. l ++ proper raw.messages) first.exactly ∙ ap (λ l. read_back (Tag tag) ++ l) raw.exactly;
        no_break =
            ap (λ Y. (input_after K.input Y).after_carriage_return) (sym (append_assoc front (raw_text kind text) (end_text name)))
            ∙ no_break-element K.input name (front ++ raw_text kind text) end.no_return;
      } in
      subst (λ cs. KeptText K s (Element tag kind text) (front ++ (raw_text kind text ++ end_text cs))) (sym n.same) kept

  part-kept : (K : Start) (s : S) (part : Part) → IsTable rules.references → IsOpen K → PartHasTexts part → can_write_part part ≡ true → AsksForPart means.reply part → KeptPart K s part
  part-kept K s (One token) table here texts can asks =
      let kept : Kept means rules K s token = token-kept means rules K s token table here texts can asks in
      record { messages = kept.messages; tells = kept.tells; exactly = kept.exactly; no_break = no_break-token rules K.input token texts can here.no_break }
  part-kept K s (Element tag kind text) table here texts can asks = element-kept K s tag kind text table here texts can asks

  pub parts-read_back : (K : Start) (s : S) (parts : List Part) → IsTable rules.references → IsOpen K → PartsHaveTexts parts → list_all can_write_part parts ≡ true → AsksForParts means.reply parts
      → ReadsParts means rules K s parts
  unfolding last_after_parts proper
  parts-read_back K s [] table here texts can asks = record { messages = []; tells = none-told means rules K s here.starts; exactly = refl }
  parts-read_back K s (part ∷ parts) table here texts can asks =
      let p = and_parts (can_write_part part) (list_all can_write_part parts) can in
      let first : KeptPart K s part = part-kept K s part table here texts.0 p.0 asks.0 in
      let between : Start = start_beyond K (part_text part) (Between Data) (last_after_part K.last_start_tag part) in
      let here_after : IsOpen between = record { starts = refl; no_break = first.no_break } in
      let t : S = stepped means.step s first.messages in
      let rest : ReadsParts means rules between t parts = parts-read_back between t parts table here_after texts.1 p.1 asks.1 in
      record {
        messages = first.messages ++ rest.messages;
        tells =
            subst (λ input. TellsByItself means rules K s (part_text part ++ parts_text parts) (first.messages ++ rest.messages) (record { opened = Between Data; last_start_tag = last_after_parts between.last_start_tag parts; input = input }))
            (sym (input_after-append K.input (part_text part) (parts_text parts)))
            (in_sequence means rules K s (part_text part) first.messages between (parts_text parts) rest.messages (start_beyond between (parts_text parts) (Between Data) (last_after_parts between.last_start_tag parts))
            first.tells rest.tells);
        exactly = proper-append first.messages rest.messages ∙ ap (λ l. l ++ proper rest.messages) first.exactly ∙ ap (λ l. part_read_back part ++ l) rest.exactly;
      }

  -- and by themselves the end besides
  pub parts-whole : (K : Start) (s : S) (parts : List Part) → IsTable rules.references → IsOpen K → PartsHaveTexts parts → list_all can_write_part parts ≡ true → AsksForParts means.reply parts
      → proper (all_messages means rules K s (parts_text parts)) ≡ flat_map part_read_back parts ++ End ∷ []
  parts-whole K s parts table here texts can asks =
      let back : ReadsParts means rules K s parts = parts-read_back K s parts table here texts can asks in
      whole-alone means rules K s (parts_text parts) back.messages (last_after_parts K.last_start_tag parts) back.tells ∙ ap (λ l. l ++ End ∷ []) back.exactly
