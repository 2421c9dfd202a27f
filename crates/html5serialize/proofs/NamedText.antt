-- A text that is escaped by names of the table tells its characters, before any more text.
use Rattle.std.proofs.Common.{◌≡◌, ℕ, Bool, true, false, List, [], ◌∷◌, ◌++◌, None, refl, ap, sym, ◌∙◌, subst}
use Rattle.std.specs.Prelude.{◌==◌, not, codes, encode_utf8, if◌then◌else◌}
use Rattle.std.proofs.Math.Bool.{and-false}
use Rattle.std.proofs.lemmas.Bool.{and_parts, not-true}
use Rattle.std.proofs.lemmas.List.{append_assoc, append-nil}
use Rattle.html5ever_interface.specs.Sink.{Means, Message, stepped, on_line}
use Rattle.html5ever_interface.specs.Token.Told.{Text, End}
use Rattle.html5reading.specs.Characters.{null, ampersand, carriage_return, quotation_mark, less_than, greater_than, is_bad_character}
use Rattle.html5reading.specs.EndOfInput.{tokens_at_end, late_at_end_of, open_at_end_of, told_at_end_of, raw_end_error}
use Rattle.html5reading.specs.NormalisedText.{normalised, without_dropped_first, with_line_feeds, line_after, input_after, ends_with_carriage_return}
use Rattle.html5reading.specs.RawText.{texts, raw_after, raw_character}
use Rattle.html5reading.specs.Reading.{all_messages}
use Rattle.html5reading.specs.Reference.{is_ended}
use Rattle.html5reading.specs.Start.{Input, Mode, Start, Rules}
use Rattle.html5reading.specs.Start.Open.{Between}
use Rattle.html5reading.specs.Machine.{brought_at, step_at, data_step, raw_step}
use Rattle.html5reading.proofs.InputLemmas.{line_past}
use Rattle.html5reading.proofs.Traces.{trace, trace_brought, trace_here}
use Rattle.html5grammar.specs.Anywhere.{TellsByItself, start_beyond, is_decided_by, errors_within, messages_within, told_within}
use Rattle.html5grammar.specs.Reference.{IsReference, has_references, written, reference_characters, reference_errors, reference_tokens}
use Rattle.html5grammar.specs.Reference.WrittenReference.{Named}
use Rattle.html5grammar.proofs.ByItself.{trace-by_itself}
use Rattle.html5grammar.proofs.Reference.Reading.{of_references, reading-reference}
use Rattle.html5grammar.proofs.Reference.Within.{reference-before}
use Rattle.html5serialize.specs.Escapes.{Reads, escaped_text_by, named, named_reference_of, no_break_space}
use Rattle.html5serialize.specs.declared.escaping.Escapes.{Escapes}
use Rattle.html5serialize.specs.declared.escaping.Escapes.TheVariants.{Numbers, Names}
use Rattle.html5serialize.proofs.Errors.{proper_tokens, proper-on_line}
use Rattle.html5serialize.proofs.Named.{IsName, AreNames, are-names, each_named, named-other}
use Rattle.html5serialize.proofs.WholeTells.{ends-alone, tells-before, tells-then}
use Rattle.html5serialize.proofs.RcdataBack.{no_mark-after}
use Rattle.html5serialize.proofs.TextsBack.{proper-text}
use Rattle.html5write.specs.Escaped.{escaped, escaped_text}
use Rattle.html5write.specs.Pieces.{has_no_null}
use Rattle.html5write.specs.Told.{proper, text_messages}
use Rattle.html5write.proofs.Texts.{no_break-text}
use Rattle.markup5ever.specs.NamedReferences.{NamedReference, IsTable}

-- ---- text that is read, except for its first character, is not dropped

record HasNext (text : List ℕ) : Type 0 where
  next : ℕ
  rest : List ℕ
  is : text ≡ next ∷ rest

next-plain : (b : Bool) (z : ℕ) (Z : List ℕ) → HasNext (if b then 0x0A ∷ with_line_feeds true Z else z ∷ with_line_feeds false Z)
next-plain true z Z = record { next = 0x0A; rest = with_line_feeds true Z; is = refl }
next-plain false z Z = record { next = z; rest = with_line_feeds false Z; is = refl }

has-next : (input : Input) (z : ℕ) (Z : List ℕ) → input.after_carriage_return ≡ false → input.drops_byte_order_mark ≡ false → HasNext (normalised input (z ∷ Z))
unfolding normalised without_dropped_first with_line_feeds
has-next input z Z no_break no_mark = rw (no_break, no_mark) (next-plain (z == carriage_return) z Z)

abbrev entry : List ℕ → ℕ → NamedReference
entry name c = record { name = name; first = c; second = None }

-- the end tells nothing but itself where references are read
ends-nothing : (rules : Rules) (mode : Mode) → has_references mode ≡ true → proper_tokens (tokens_at_end rules (Between mode)) ≡ End ∷ []
unfolding late_at_end_of open_at_end_of told_at_end_of raw_end_error
ends-nothing rules mode has = of_references (λ m. proper_tokens (tokens_at_end rules (Between m)) ≡ End ∷ []) refl (λ name. refl) mode has

module _ {X S H : Type 0} (means : Means X S H) (rules : Rules) (mode : Mode) (has : has_references mode ≡ true) (table : IsTable rules.references) where
  -- where such a text is read
  pub record IsIn (K : Start) : Type 0 where
    pub starts : K.opened ≡ Between mode
    pub no_break : K.input.after_carriage_return ≡ false

  -- the text, with W after it, tells these characters, and W is read from `later`
  pub record Goes (K : Start) (s : S) (text run W : List ℕ) : Type 0 where
    pub later : Start
    pub state : S
    pub within : IsIn later
    pub no_mark : K.input.drops_byte_order_mark ≡ false → later.input.drops_byte_order_mark ≡ false
    pub tells : proper (all_messages means rules K s (text ++ W)) ≡ texts run ++ proper (all_messages means rules later state W)

  told-entry : (exact : Bool) (name : List ℕ) (c : ℕ) → is_ended name ≡ true → proper_tokens (reference_tokens exact (Named (entry name c))) ≡ Text (encode_utf8 c) ∷ End ∷ []
  unfolding reference_tokens reference_errors reference_characters
  told-entry exact name c ended = rw ended refl

  told-before : (exact : Bool) (name : List ℕ) (c : ℕ) → is_ended name ≡ true → proper_tokens (told_within exact (Named (entry name c))) ≡ Text (encode_utf8 c) ∷ []
  unfolding errors_within reference_errors reference_characters
  told-before exact name c ended = rw ended refl

  is-reference : (K : Start) (name : List ℕ) (c : ℕ) → IsIn K → IsName rules.references name c → IsReference rules.references K (ampersand ∷ name) (Named (entry name c))
  unfolding written
  is-reference K name c here n = record { mode = mode; starts = here.starts; has = has; is_reference = n.has; text = n.normal K.input here.no_break }

  name-goes : (K : Start) (s : S) (name : List ℕ) (c : ℕ) (W : List ℕ) → IsIn K → IsName rules.references name c → Goes K s (ampersand ∷ name) (c ∷ []) W
  unfolding input_after is_decided_by written is-reference
  name-goes K s name c [] here n =
      let Y : List ℕ = ampersand ∷ name in
      let one : IsReference rules.references K Y (Named (entry name c)) = is-reference K name c here n in
      let line : ℕ = line_after K.input Y in
      let later : Start = start_beyond K Y (Between mode) K.last_start_tag in
      record {
        later = later;
        state = s;
        within = record { starts = refl; no_break = n.no_return };
        no_mark = λ h. refl;
        tells =
            ap (λ l. proper (all_messages means rules K s l)) (append-nil Y)
            ∙ ap proper (reading-reference means.step means.reply means.foreign rules K s Y (Named (entry name c)) table one)
            ∙ proper-on_line line (reference_tokens rules.exact (Named (entry name c)))
            ∙ told-entry rules.exact name c n.ended
            ∙ sym (ap (λ l. Text (encode_utf8 c) ∷ l) (ends-alone means rules later s ∙ ends-nothing rules mode has));
      }
  name-goes K s name c (z ∷ Z) here n =
      let Y : List ℕ = ampersand ∷ name in
      let one : IsReference rules.references K Y (Named (entry name c)) = is-reference K name c here n in
      let M : List Message = messages_within rules.exact K.input (Named (entry name c)) in
      let later : Start = start_beyond K Y (Between mode) K.last_start_tag in
      let f : HasNext (normalised later.input (z ∷ Z)) = has-next later.input z Z n.no_return refl in
      record {
        later = later;
        state = stepped means.step s M;
        within = record { starts = refl; no_break = n.no_return };
        no_mark = λ h. refl;
        tells =
            tells-before means rules K s Y (z ∷ Z) M later (reference-before means rules (z ∷ Z) K s Y (Named (entry name c)) f.next f.rest table one f.is (ap not (n.decided f.next)))
            ∙ ap (λ l. l ++ proper (all_messages means rules later (stepped means.step s M) (z ∷ Z)))
            (proper-on_line (line_after K.input (written (Named (entry name c)))) (told_within rules.exact (Named (entry name c))) ∙ told-before rules.exact name c n.ended);
      }

  -- a quote stands for itself
  quote-trace : (s : S) (line : ℕ) (last : List ℕ)
      → trace means.step means.reply means.foreign rules s line last (Between mode) (quotation_mark ∷ [])
      ≡ record { messages = on_line (line_past line quotation_mark) (Text (encode_utf8 quotation_mark) ∷ []); opened = Between mode; last_start_tag = last }
  unfolding trace trace_brought trace_here brought_at step_at data_step raw_step raw_character raw_after stepped is_bad_character
  quote-trace s line last =
      of_references
      (λ m. trace means.step means.reply means.foreign rules s line last (Between m) (quotation_mark ∷ [])
      ≡ record { messages = on_line (line_past line quotation_mark) (Text (encode_utf8 quotation_mark) ∷ []); opened = Between m; last_start_tag = last })
      (rw (and-false rules.exact) refl) (λ name. rw (and-false rules.exact) refl) mode has

  quote-normal : (input : Input) → input.after_carriage_return ≡ false → normalised input (quotation_mark ∷ []) ≡ quotation_mark ∷ []
  unfolding normalised without_dropped_first with_line_feeds
  quote-normal input e = rw (e, and-false input.drops_byte_order_mark) refl

  quote-goes : (K : Start) (s : S) (W : List ℕ) → IsIn K → Goes K s (quotation_mark ∷ []) (quotation_mark ∷ []) W
  unfolding input_after ends_with_carriage_return
  quote-goes K s W here =
      let Y : List ℕ = quotation_mark ∷ [] in
      let line : ℕ = line_past (line_after K.input []) quotation_mark in
      let M : List Message = on_line line (Text (encode_utf8 quotation_mark) ∷ []) in
      let later : Start = start_beyond K Y (Between mode) K.last_start_tag in
      record {
        later = later;
        state = stepped means.step s M;
        within = record { starts = refl; no_break = refl };
        no_mark = λ h. refl;
        tells =
            tells-then means rules K s Y M later W
            (trace-by_itself means rules K s Y M (Between mode) K.last_start_tag
            (rw (here.starts, quote-normal K.input here.no_break) (quote-trace s (line_after K.input []) K.last_start_tag)))
            ∙ ap (λ l. l ++ proper (all_messages means rules later (stepped means.step s M) W)) (proper-on_line line (Text (encode_utf8 quotation_mark) ∷ []));
      }

  -- texts that are escaped by numbers
  module _ (numbers : (K : Start) (s : S) (text : List ℕ) → IsIn K → has_no_null text ≡ true
      → TellsByItself means rules K s (escaped_text text) (text_messages rules.exact K.input text) (start_beyond K (escaped_text text) (Between mode) K.last_start_tag)) where
    numbers-go : (K : Start) (s : S) (text W : List ℕ) → IsIn K → has_no_null text ≡ true → Goes K s (escaped_text text) text W
    numbers-go K s text W here nulls =
        let X : List ℕ = escaped_text text in
        let M : List Message = text_messages rules.exact K.input text in
        let later : Start = start_beyond K X (Between mode) K.last_start_tag in
        record {
          later = later;
          state = stepped means.step s M;
          within = record { starts = refl; no_break = no_break-text K.input text here.no_break };
          no_mark = no_mark-after K.input X;
          tells =
              tells-then means rules K s X M later W (numbers K s text here nulls)
              ∙ ap (λ l. l ++ proper (all_messages means rules later (stepped means.step s M) W)) (proper-text rules.exact K.input text);
        }

    number-goes : (K : Start) (s : S) (c : ℕ) (W : List ℕ) → IsIn K → (c == null) ≡ false → Goes K s (escaped c) (c ∷ []) W
    number-goes K s c W here some = subst (λ Y. Goes K s Y (c ∷ []) W) (append-nil (escaped c)) (numbers-go K s (c ∷ []) W here (rw some refl))

    character-goes : AreNames rules.references → (K : Start) (s : S) (c : ℕ) (W : List ℕ) → IsIn K → (c == null) ≡ false → Goes K s (named c) (c ∷ []) W
    unfolding named named_reference_of
    character-goes names K s c W here some =
        each_named (λ d. (d == null) ≡ false → Goes K s (named d) (d ∷ []) W)
        (λ e. name-goes K s (codes "amp;") ampersand W here names.amp)
        (λ e. name-goes K s (codes "nbsp;") no_break_space W here names.nbsp)
        (λ e. name-goes K s (codes "lt;") less_than W here names.lt)
        (λ e. name-goes K s (codes "gt;") greater_than W here names.gt)
        (λ e. quote-goes K s W here)
        (λ d same e. subst (λ Y. Goes K s Y (d ∷ []) W) (sym (named-other d same)) (number-goes K s d W here e))
        c some

    text-goes : AreNames rules.references → (K : Start) (s : S) (text W : List ℕ) → IsIn K → has_no_null text ≡ true → Goes K s (escaped_text_by Names text) text W
    text-goes names K s [] W here nulls = record { later = K; state = s; within = here; no_mark = λ h. h; tells = refl }
    text-goes names K s (c ∷ text) W here nulls =
        let p = and_parts (not (c == null)) (has_no_null text) nulls in
        let first : Goes K s (named c) (c ∷ []) (escaped_text_by Names text ++ W) = character-goes names K s c (escaped_text_by Names text ++ W) here (not-true (c == null) p.0) in
        let rest : Goes first.later first.state (escaped_text_by Names text) text W = text-goes names first.later first.state text W first.within p.1 in
        record {
          later = rest.later;
          state = rest.state;
          within = rest.within;
          no_mark = λ h. rest.no_mark (first.no_mark h);
          tells =
              ap (λ Y. proper (all_messages means rules K s Y)) (append_assoc (named c) (escaped_text_by Names text) W)
              ∙ first.tells
              ∙ ap (λ l. Text (encode_utf8 c) ∷ l) rest.tells;
        }

    -- a text tells its characters, however they are escaped
    pub texts-go : (escapes : Escapes) → Reads escapes rules.references → (K : Start) (s : S) (text W : List ℕ) → IsIn K → has_no_null text ≡ true → Goes K s (escaped_text_by escapes text) text W
    texts-go Numbers reads K s text W here nulls = numbers-go K s text W here nulls
    texts-go Names reads K s text W here nulls = text-goes (are-names rules.references table reads) K s text W here nulls
