-- Serialized RCDATA, with its end tag, is read again as its characters and the end tag.
use Rattle.std.proofs.Common.{◌≡◌, ℕ, Bool, true, false, List, [], ◌∷◌, ◌++◌, None, Some, map, refl, ap, sym, ◌∙◌, subst}
use Rattle.std.specs.Prelude.{◌==◌, not, chars, codes, encode_utf8}
use Rattle.std.specs.Str.{IsUtf8}
use Rattle.std.proofs.Math.Bool.{and-false}
use Rattle.std.proofs.lemmas.Bool.{and_parts, not-true, true≢false}
use Rattle.std.proofs.lemmas.List.{append-nil}
use Rattle.html5ever_interface.specs.Sink.{Means, Message, stepped, on_line}
use Rattle.html5ever_interface.specs.Token.{Told, Reply}
use Rattle.html5ever_interface.specs.Token.Told.{Text, Tag}
use Rattle.html5ever_interface.specs.declared.interface.token.TagKind.TheVariants.{EndTag}
use Rattle.html5ever_interface.specs.declared.states.RawKind.TheVariants as raw_kind
use Rattle.html5reading.specs.Characters.{null, is_bad_character, is_no_character}
use Rattle.html5reading.specs.ErrorText.{bad_character_error}
use Rattle.html5reading.specs.Lawful as lawful
use Rattle.html5reading.specs.Machine.{brought_at, step_at, raw_step}
use Rattle.html5reading.specs.NormalisedText.{normalised, without_dropped_first, with_line_feeds, line_after, input_after, ends_with_carriage_return}
use Rattle.html5reading.specs.RawText.{kind_of, raw_after, raw_character}
use Rattle.html5reading.specs.Reading.{last_after, open_after_reply}
use Rattle.html5reading.specs.Reference.{character_of_number, is_invalid_number}
use Rattle.html5reading.specs.Start.{Input, Mode, Open, Start, Rules}
use Rattle.html5reading.specs.Start.Mode.{RawText}
use Rattle.html5reading.specs.Start.Open.{Between}
use Rattle.html5reading.specs.Start.Raw.{Rcdata}
use Rattle.html5reading.proofs.InputLemmas.{line_past, line_after-past, input_after-append}
use Rattle.html5reading.proofs.Traces.{trace, trace_brought, trace_here}
use Rattle.html5grammar.specs.Anywhere.{TellsByItself, start_beyond, start_after_tag, last_reply, errors_within, messages_within}
use Rattle.html5grammar.specs.RawText as raw_texts
use Rattle.html5grammar.specs.RawText.{WrittenRaw, IsRawText, is_raw, can_follow, items_text, spell_raw, spell_items, carried_to, carried_after, raw_after_items}
use Rattle.html5grammar.specs.Reference.{written, IsReference, reference_characters}
use Rattle.html5grammar.specs.Reference.WrittenReference.{Number}
use Rattle.html5grammar.specs.Spelled.{spelled_messages}
use Rattle.html5grammar.specs.Tag.{WrittenTag, tag_told, spelled}
use Rattle.html5grammar.proofs.ByItself.{trace-by_itself}
use Rattle.html5grammar.proofs.RawText.Reading.{reads_raw_reply}
use Rattle.html5grammar.proofs.Reference.Within.{number-by_itself}
use Rattle.markup5ever.specs.C1.{character_of_c1}
use Rattle.markup5ever.specs.NamedReferences.{IsTable}
use Rattle.html5serialize.specs.RawTexts.{IsOpenRaw, ReadsRaw, end_tag_of, end_text, is_raw_name, can_write_raw}
use Rattle.html5serialize.proofs.Errors.{proper_cells, proper-append, proper-spelled}
use Rattle.html5serialize.proofs.RawBack.{IsRawName, raw-name, IsEndTag, end-tag, HasFirst, first-tag, last-says, normalised-raw}
use Rattle.html5serialize.proofs.TagBack.{named, no_null-chars}
use Rattle.html5serialize.proofs.TagTokens.{cells-tag}
use Rattle.html5serialize.proofs.TextsBack.{proper-text}
use Rattle.html5write.specs.Escaped.{reference_of, escaped, escaped_text}
use Rattle.html5write.specs.Pieces.{has_no_null}
use Rattle.html5write.specs.Told.{character_told, text_messages, proper}
use Rattle.html5write.proofs.Characters.{IsPlain, each_character, escaped-plain}
use Rattle.html5write.proofs.Sequence.{in_sequence}
use Rattle.html5write.proofs.Texts.{no_break-text}

-- no serialized character ends with a CR
no_break-escaped : (input : Input) (c : ℕ) → (input_after input (escaped c)).after_carriage_return ≡ false
unfolding input_after ends_with_carriage_return escaped reference_of
no_break-escaped input c =
    each_character (λ d. (input_after input (escaped d)).after_carriage_return ≡ false) refl refl refl refl refl refl
    (λ d p. ap (λ Y. (input_after input Y).after_carriage_return) (escaped-plain d p) ∙ p.no_return) c

pub no_mark-after : (input : Input) (X : List ℕ) → input.drops_byte_order_mark ≡ false → (input_after input X).drops_byte_order_mark ≡ false
unfolding input_after
no_mark-after input [] h = h
no_mark-after input (c ∷ X) h = refl

is_nil : List Told → Bool
is_nil [] = true
is_nil (token ∷ tokens) = false

module _ {X S H : Type 0} (means : Means X S H) (rules : Rules) (name : List ℕ) where
  abbrev pub here : Mode
  here = RawText Rcdata name

  -- where RCDATA is read
  pub record IsWithin (K : Start) : Type 0 where
    pub starts : K.opened ≡ Between here
    pub no_break : K.input.after_carriage_return ≡ false

  -- a character tells itself, where it is read as its own reference or as it stands
  abbrev TellsItself : ℕ → Type 0
  TellsItself c = (K : Start) (s : S) → IsWithin K → (c == null) ≡ false
      → TellsByItself means rules K s (escaped c) (on_line (line_after K.input (escaped c)) (character_told rules.exact c)) (start_beyond K (escaped c) (Between here) K.last_start_tag)

  number-told : (c : ℕ) (digits : List ℕ) → ((K : Start) → IsWithin K → IsReference rules.references K (escaped c) (Number None digits true))
      → ((input : Input) → messages_within rules.exact input (Number None digits true) ≡ on_line (line_after input (escaped c)) (character_told rules.exact c))
      → TellsItself c
  number-told c digits is same K s within no_null =
      subst (λ M. TellsByItself means rules K s (escaped c) M (start_beyond K (escaped c) (Between here) K.last_start_tag)) (same K.input)
      (subst (λ o. TellsByItself means rules K s (escaped c) (messages_within rules.exact K.input (Number None digits true)) (start_beyond K (escaped c) o K.last_start_tag)) (sym ((is K within).starts) ∙ within.starts)
      (number-by_itself means rules K s (escaped c) None digits (is K within)))

  references-told : TellsItself 0x26 × TellsItself 0x3C × TellsItself 0x3E × TellsItself 0x22 × TellsItself 0x0D × TellsItself 0xFEFF
  unfolding escaped reference_of written errors_within reference_characters normalised without_dropped_first with_line_feeds is_invalid_number character_of_number is_bad_character is_no_character character_of_c1
  references-told = (
    number-told 0x26 (codes "38") (λ K w. record { mode = here; starts = w.starts; has = refl; is_reference = refl; text = rw (w.no_break, and-false K.input.drops_byte_order_mark) refl }) (λ input. rw (and-false rules.exact) refl),
    number-told 0x3C (codes "60") (λ K w. record { mode = here; starts = w.starts; has = refl; is_reference = refl; text = rw (w.no_break, and-false K.input.drops_byte_order_mark) refl }) (λ input. rw (and-false rules.exact) refl),
    number-told 0x3E (codes "62") (λ K w. record { mode = here; starts = w.starts; has = refl; is_reference = refl; text = rw (w.no_break, and-false K.input.drops_byte_order_mark) refl }) (λ input. rw (and-false rules.exact) refl),
    number-told 0x22 (codes "34") (λ K w. record { mode = here; starts = w.starts; has = refl; is_reference = refl; text = rw (w.no_break, and-false K.input.drops_byte_order_mark) refl }) (λ input. rw (and-false rules.exact) refl),
    number-told 0x0D (codes "13") (λ K w. record { mode = here; starts = w.starts; has = refl; is_reference = refl; text = rw (w.no_break, and-false K.input.drops_byte_order_mark) refl }) (λ input. rw (and-false rules.exact) refl),
    number-told 0xFEFF (codes "65279") (λ K w. record { mode = here; starts = w.starts; has = refl; is_reference = refl; text = rw (w.no_break, and-false K.input.drops_byte_order_mark) refl }) (λ input. rw (and-false rules.exact) refl),
  )

  normalised-plain : (input : Input) (c : ℕ) → IsPlain c → input.after_carriage_return ≡ false → normalised input (c ∷ []) ≡ c ∷ []
  unfolding normalised without_dropped_first with_line_feeds
  normalised-plain input c p e = rw (e, p.no_mark, and-false input.drops_byte_order_mark, p.no_return) refl

  told-plain : (exact : Bool) (c : ℕ) → IsPlain c → character_told exact c ≡ bad_character_error exact c ++ Text (encode_utf8 c) ∷ []
  told-plain exact c p = rw p.no_return refl

  trace-plain : (s : S) (line : ℕ) (last : List ℕ) (c : ℕ) → IsPlain c → (c == null) ≡ false
      → trace means.step means.reply means.foreign rules s line last (Between here) (c ∷ [])
      ≡ record { messages = on_line (line_past line c) (bad_character_error rules.exact c ++ Text (encode_utf8 c) ∷ []); opened = Between here; last_start_tag = last }
  unfolding trace trace_brought trace_here brought_at step_at raw_step raw_character raw_after stepped
  trace-plain s line last c p no_null =
      rw (p.no_less_than, p.no_ampersand, no_null)
      (ap (λ M. record { messages = M; opened = Between here; last_start_tag = last }) (append-nil (on_line (line_past line c) (bad_character_error rules.exact c ++ Text (encode_utf8 c) ∷ []))))

  plain-told : (c : ℕ) → IsPlain c → TellsItself c
  plain-told c p K s within no_null =
      subst (λ Y. TellsByItself means rules K s Y (on_line (line_after K.input Y) (character_told rules.exact c)) (start_beyond K Y (Between here) K.last_start_tag)) (sym (escaped-plain c p))
      (subst (λ T. TellsByItself means rules K s (c ∷ []) (on_line (line_after K.input (c ∷ [])) T) (start_beyond K (c ∷ []) (Between here) K.last_start_tag)) (sym (told-plain rules.exact c p))
      (trace-by_itself means rules K s (c ∷ []) _ (Between here) K.last_start_tag
      (rw (within.starts, normalised-plain K.input c p within.no_break)
      (trace-plain s (line_after K.input []) K.last_start_tag c p no_null
      ∙ ap (λ line. record { messages = on_line line (bad_character_error rules.exact c ++ Text (encode_utf8 c) ∷ []); opened = Between here; last_start_tag = K.last_start_tag }) (sym (line_after-past K.input [] c))))))

  character-told : (c : ℕ) → TellsItself c
  character-told c =
      let r = references-told in
      each_character TellsItself r.0 r.1 r.2 r.3 r.4 r.5 plain-told c

  none-told : (K : Start) (s : S) → K.opened ≡ Between here → TellsByItself means rules K s [] [] (start_beyond K [] (Between here) K.last_start_tag)
  unfolding normalised without_dropped_first with_line_feeds trace
  none-told K s starts = trace-by_itself means rules K s [] [] (Between here) K.last_start_tag (rw starts refl)

  -- a text that is escaped tells its characters
  pub text-told : (K : Start) (s : S) (text : List ℕ) → IsWithin K → has_no_null text ≡ true
      → TellsByItself means rules K s (escaped_text text) (text_messages rules.exact K.input text) (start_beyond K (escaped_text text) (Between here) K.last_start_tag)
  unfolding text_messages
  text-told K s [] within nulls = none-told K s within.starts
  text-told K s (c ∷ text) within nulls =
      let p = and_parts (not (c == null)) (has_no_null text) nulls in
      let M : List Message = on_line (line_after K.input (escaped c)) (character_told rules.exact c) in
      let between : Start = start_beyond K (escaped c) (Between here) K.last_start_tag in
      subst (λ input. TellsByItself means rules K s (escaped c ++ escaped_text text) (M ++ text_messages rules.exact between.input text) (record { opened = Between here; last_start_tag = K.last_start_tag; input = input }))
      (sym (input_after-append K.input (escaped c) (escaped_text text)))
      (in_sequence means rules K s (escaped c) M between (escaped_text text) (text_messages rules.exact between.input text) (start_beyond between (escaped_text text) (Between here) between.last_start_tag)
      (character-told c K s within (not-true (c == null) p.0))
      (text-told between (stepped means.step s M) text (record { starts = refl; no_break = no_break-escaped K.input c }) p.1))

  -- ---- the end tag

  record Ended (K : Start) (s : S) : Type 0 where
    messages : List Message
    tells : TellsByItself means rules K s (end_text name) messages (start_after_tag means K s (end_text name) (end_tag_of name) messages)
    exactly : proper messages ≡ Tag (end_tag_of name) ∷ []
    opens : (opened : Open) → ((t : S) (line : ℕ) → open_after_reply K.last_start_tag (means.reply t (Tag (end_tag_of name)) line) ≡ opened)
        → open_after_reply K.last_start_tag (last_reply means.step means.reply s messages) ≡ opened

  told-alone : (tag : WrittenTag) → proper_cells (spell_raw rules Rcdata (record { items = []; end_tag = Some tag })) ≡ Tag (tag_told rules tag) ∷ []
  unfolding spell_items carried_after
  told-alone tag =
      let first : HasFirst (spelled rules tag) = first-tag rules tag in
      ap (λ cells. proper_cells (carried_to [] cells)) first.is ∙ ap proper_cells (sym first.is) ∙ cells-tag rules tag

  ended : (K : Start) (s : S) → IsTable rules.references → IsWithin K → K.input.drops_byte_order_mark ≡ false → IsRawName name → Ended K s
  unfolding is_raw can_follow raw_after_items items_text raw_texts.written kind_of
  ended K s table within no_mark n =
      let tag : WrittenTag = named EndTag name [] in
      let end : IsEndTag rules name = end-tag rules name n in
      let Y : List ℕ = end_text name in
      let raw_written : WrittenRaw = record { items = []; end_tag = Some tag } in
      let one : IsRawText K Y Rcdata name raw_written = record {
        starts = within.starts;
        some = refl;
        is_raw = end.ends Rcdata refl;
        text = normalised-raw K.input Y within.no_break no_mark end.no_return ∙ sym end.text;
      } in
      let M : List Message = spelled_messages rules.exact K.input [] (spell_raw rules Rcdata raw_written) in
      record {
        messages = M;
        tells =
            subst (λ t. TellsByItself means rules K s Y M (start_after_tag means K s Y t M)) end.told
            (trace-by_itself means rules K s Y M (open_after_reply (last_after K.last_start_tag (tag_told rules tag)) (last_reply means.step means.reply s M)) (last_after K.last_start_tag (tag_told rules tag))
            (reads_raw_reply means rules K s Y Rcdata name raw_written tag refl table one));
        exactly = proper-spelled rules.exact K.input [] (spell_raw rules Rcdata raw_written) ∙ told-alone tag ∙ ap (λ t. Tag t ∷ []) end.told;
        opens = λ opened says.
            last-says means rules opened K.last_start_tag s K.input (spell_items rules.exact Rcdata [] []) (carried_after Rcdata [] []) tag
            (λ t line. ap (λ g. open_after_reply K.last_start_tag (means.reply t (Tag g) line)) end.told ∙ says t line);
      }

  -- the reply to the last of messages is that to the last of the second part, where that has one
  last-more : (s : S) (M : List Message) (m : Message) (N : List Message) → last_reply means.step means.reply s (M ++ m ∷ N) ≡ last_reply means.step means.reply (stepped means.step s M) (m ∷ N)
  unfolding last_reply stepped
  last-more s [] m N = refl
  last-more s (x ∷ []) m N = refl
  last-more s (x ∷ y ∷ M) m N = last-more (means.step s x.token x.line) (y ∷ M) m N

  last-both : (s : S) (M N : List Message) → proper N ≡ Tag (end_tag_of name) ∷ [] → last_reply means.step means.reply s (M ++ N) ≡ last_reply means.step means.reply (stepped means.step s M) N
  unfolding proper is_nil
  last-both s M [] e = absurd (true≢false (ap is_nil e))
  last-both s M (m ∷ N) e = last-more s M m N

  pub rcdata-raw : (K : Start) (s : S) (text : List ℕ) → IsTable rules.references → IsOpenRaw K raw_kind.Rcdata name → IsUtf8 text → can_write_raw raw_kind.Rcdata name text ≡ true
      → ReadsRaw means rules K s raw_kind.Rcdata name text
  unfolding can_write_raw last_after
  rcdata-raw K s text table open_raw utf8 can =
      let p = and_parts (is_raw_name name) (lawful.has_no_null text) can in
      let n : IsRawName name = raw-name name p.0 in
      let T : List ℕ = chars text in
      let M : List Message = text_messages rules.exact K.input T in
      let within : IsWithin K = record { starts = open_raw.starts; no_break = open_raw.no_break } in
      let between : Start = start_beyond K (escaped_text T) (Between here) K.last_start_tag in
      let after : IsWithin between = record { starts = refl; no_break = no_break-text K.input T open_raw.no_break } in
      let first : TellsByItself means rules K s (escaped_text T) M between = text-told K s T within (no_null-chars text utf8 p.1) in
      let end : Ended between (stepped means.step s M) = ended between (stepped means.step s M) table after (no_mark-after K.input (escaped_text T) open_raw.no_mark) n in
      let last : Reply H = last_reply means.step means.reply (stepped means.step s M) end.messages in
      let Y : List ℕ = escaped_text T ++ end_text name in
      record {
        messages = M ++ end.messages;
        tells =
            subst (λ r. TellsByItself means rules K s Y (M ++ end.messages) (start_beyond K Y (open_after_reply K.last_start_tag r) K.last_start_tag)) (sym (last-both s M end.messages end.exactly))
            (subst (λ input. TellsByItself means rules K s Y (M ++ end.messages) (record { opened = open_after_reply K.last_start_tag last; last_start_tag = K.last_start_tag; input = input }))
            (sym (input_after-append K.input (escaped_text T) (end_text name)))
            (in_sequence means rules K s (escaped_text T) M between (end_text name) end.messages (start_after_tag means between (stepped means.step s M) (end_text name) (end_tag_of name) end.messages) first end.tells));
        exactly =
            proper-append M end.messages
            ∙ ap (λ l. l ++ proper end.messages) (proper-text rules.exact K.input T)
            ∙ ap (λ l. map (λ c. Text (encode_utf8 c)) T ++ l) end.exactly;
        opens = λ opened says. ap (open_after_reply K.last_start_tag) (last-both s M end.messages end.exactly) ∙ end.opens opened says;
      }
