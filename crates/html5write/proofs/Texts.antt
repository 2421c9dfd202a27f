-- A written text tells itself.
use Rattle.std.proofs.Common.{◌≡◌, ℕ, Bool, true, false, List, [], ◌∷◌, ◌++◌, None, refl, ap, sym, ◌∙◌, subst}
use Rattle.std.specs.Prelude.{not, ◌==◌, codes, encode_utf8}
use Rattle.std.proofs.Math.Bool.{and-false}
use Rattle.std.proofs.lemmas.Bool.{and_parts, not-true}
use Rattle.std.proofs.lemmas.List.{append-nil}
use Rattle.html5ever_interface.specs.Sink.{Means, Message, stepped, on_line}
use Rattle.html5ever_interface.specs.Token.Told.{Text}
use Rattle.html5grammar.specs.Anywhere.{TellsByItself, start_beyond, errors_within, messages_within}
use Rattle.html5grammar.specs.Reference.{written, IsReference, reference_characters}
use Rattle.html5grammar.specs.Reference.WrittenReference.{Number}
use Rattle.html5grammar.proofs.ByItself.{trace-by_itself}
use Rattle.html5grammar.proofs.Reference.Within.{number-by_itself}
use Rattle.html5reading.specs.Characters.{null, is_bad_character, is_no_character}
use Rattle.html5reading.specs.ErrorText.{bad_character_error}
use Rattle.html5reading.specs.Machine.{brought_at, step_at, data_step}
use Rattle.html5reading.specs.NormalisedText.{normalised, without_dropped_first, with_line_feeds, line_after, input_after, ends_with_carriage_return}
use Rattle.html5reading.specs.Reference.{character_of_number, is_invalid_number}
use Rattle.html5reading.specs.Start.{Input, Start, Rules}
use Rattle.html5reading.specs.Start.Mode.{Data}
use Rattle.html5reading.specs.Start.Open.{Between}
use Rattle.html5reading.proofs.InputLemmas.{line_past, line_after-past, input_after-append}
use Rattle.html5reading.proofs.Traces.{trace, trace_brought, trace_here}
use Rattle.markup5ever.specs.C1.{character_of_c1}
use Rattle.html5write.specs.Escaped.{reference_of, escaped, escaped_text}
use Rattle.html5write.specs.Pieces.{has_no_null}
use Rattle.html5write.specs.Told.{IsOpen, character_told, text_messages}
use Rattle.html5write.proofs.Characters.{IsPlain, each_character, escaped-plain}
use Rattle.html5write.proofs.Sequence.{in_sequence}

-- no written character ends with a CR
no_break-escaped : (input : Input) (c : ℕ) → (input_after input (escaped c)).after_carriage_return ≡ false
unfolding input_after ends_with_carriage_return escaped reference_of
no_break-escaped input c =
    each_character (λ d. (input_after input (escaped d)).after_carriage_return ≡ false) refl refl refl refl refl refl
    (λ d p. ap (λ Y. (input_after input Y).after_carriage_return) (escaped-plain d p) ∙ p.no_return) c

pub no_break-text : (input : Input) (text : List ℕ) → input.after_carriage_return ≡ false → (input_after input (escaped_text text)).after_carriage_return ≡ false
unfolding input_after
no_break-text input [] h = h
no_break-text input (c ∷ text) h =
    ap (λ (i : Input). i.after_carriage_return) (input_after-append input (escaped c) (escaped_text text))
    ∙ no_break-text (input_after input (escaped c)) text (no_break-escaped input c)

module _ {X S H : Type 0} (means : Means X S H) (rules : Rules) where
  -- a character tells itself, where it is read as its own reference or as it stands
  abbrev TellsItself : ℕ → Type 0
  TellsItself c = (K : Start) (s : S) → IsOpen K → (c == null) ≡ false
      → TellsByItself means rules K s (escaped c) (on_line (line_after K.input (escaped c)) (character_told rules.exact c)) (start_beyond K (escaped c) (Between Data) K.last_start_tag)

  number-told : (c : ℕ) (digits : List ℕ) → ((K : Start) → IsOpen K → IsReference rules.references K (escaped c) (Number None digits true))
      → ((input : Input) → messages_within rules.exact input (Number None digits true) ≡ on_line (line_after input (escaped c)) (character_told rules.exact c))
      → TellsItself c
  number-told c digits is same K s here no_null =
      subst (λ M. TellsByItself means rules K s (escaped c) M (start_beyond K (escaped c) (Between Data) K.last_start_tag)) (same K.input)
      (subst (λ o. TellsByItself means rules K s (escaped c) (messages_within rules.exact K.input (Number None digits true)) (start_beyond K (escaped c) o K.last_start_tag)) (sym ((is K here).starts) ∙ here.starts)
      (number-by_itself means rules K s (escaped c) None digits (is K here)))

  -- the references that are written: no table is needed for them
  references-told : TellsItself 0x26 × TellsItself 0x3C × TellsItself 0x3E × TellsItself 0x22 × TellsItself 0x0D × TellsItself 0xFEFF
  unfolding escaped reference_of written errors_within reference_characters normalised without_dropped_first with_line_feeds is_invalid_number character_of_number is_bad_character is_no_character character_of_c1
  references-told = (
    number-told 0x26 (codes "38") (λ K here. record { mode = Data; starts = here.starts; has = refl; is_reference = refl; text = rw (here.no_break, and-false K.input.drops_byte_order_mark) refl }) (λ input. rw (and-false rules.exact) refl),
    number-told 0x3C (codes "60") (λ K here. record { mode = Data; starts = here.starts; has = refl; is_reference = refl; text = rw (here.no_break, and-false K.input.drops_byte_order_mark) refl }) (λ input. rw (and-false rules.exact) refl),
    number-told 0x3E (codes "62") (λ K here. record { mode = Data; starts = here.starts; has = refl; is_reference = refl; text = rw (here.no_break, and-false K.input.drops_byte_order_mark) refl }) (λ input. rw (and-false rules.exact) refl),
    number-told 0x22 (codes "34") (λ K here. record { mode = Data; starts = here.starts; has = refl; is_reference = refl; text = rw (here.no_break, and-false K.input.drops_byte_order_mark) refl }) (λ input. rw (and-false rules.exact) refl),
    number-told 0x0D (codes "13") (λ K here. record { mode = Data; starts = here.starts; has = refl; is_reference = refl; text = rw (here.no_break, and-false K.input.drops_byte_order_mark) refl }) (λ input. rw (and-false rules.exact) refl),
    number-told 0xFEFF (codes "65279") (λ K here. record { mode = Data; starts = here.starts; has = refl; is_reference = refl; text = rw (here.no_break, and-false K.input.drops_byte_order_mark) refl }) (λ input. rw (and-false rules.exact) refl),
  )

  -- ---- a character that stands for itself

  normalised-plain : (input : Input) (c : ℕ) → IsPlain c → input.after_carriage_return ≡ false → normalised input (c ∷ []) ≡ c ∷ []
  unfolding normalised without_dropped_first with_line_feeds
  normalised-plain input c p e = rw (e, p.no_mark, and-false input.drops_byte_order_mark, p.no_return) refl

  told-plain : (exact : Bool) (c : ℕ) → IsPlain c → character_told exact c ≡ bad_character_error exact c ++ Text (encode_utf8 c) ∷ []
  told-plain exact c p = rw p.no_return refl

  trace-plain : (s : S) (line : ℕ) (last : List ℕ) (c : ℕ) → IsPlain c → (c == null) ≡ false
      → trace means.step means.reply means.foreign rules s line last (Between Data) (c ∷ [])
      ≡ record { messages = on_line (line_past line c) (bad_character_error rules.exact c ++ Text (encode_utf8 c) ∷ []); opened = Between Data; last_start_tag = last }
  unfolding trace trace_brought trace_here brought_at step_at data_step stepped
  trace-plain s line last c p no_null =
      rw (p.no_less_than, p.no_ampersand, no_null)
      (ap (λ M. record { messages = M; opened = Between Data; last_start_tag = last }) (append-nil (on_line (line_past line c) (bad_character_error rules.exact c ++ Text (encode_utf8 c) ∷ []))))

  plain-told : (c : ℕ) → IsPlain c → TellsItself c
  plain-told c p K s here no_null =
      subst (λ Y. TellsByItself means rules K s Y (on_line (line_after K.input Y) (character_told rules.exact c)) (start_beyond K Y (Between Data) K.last_start_tag)) (sym (escaped-plain c p))
      (subst (λ T. TellsByItself means rules K s (c ∷ []) (on_line (line_after K.input (c ∷ [])) T) (start_beyond K (c ∷ []) (Between Data) K.last_start_tag)) (sym (told-plain rules.exact c p))
      (trace-by_itself means rules K s (c ∷ []) _ (Between Data) K.last_start_tag
      (rw (here.starts, normalised-plain K.input c p here.no_break)
      (trace-plain s (line_after K.input []) K.last_start_tag c p no_null
      ∙ ap (λ line. record { messages = on_line line (bad_character_error rules.exact c ++ Text (encode_utf8 c) ∷ []); opened = Between Data; last_start_tag = K.last_start_tag }) (sym (line_after-past K.input [] c))))))

  character-told : (c : ℕ) → TellsItself c
  character-told c =
      let r = references-told in
      each_character TellsItself r.0 r.1 r.2 r.3 r.4 r.5 plain-told c

  -- ---- texts

  -- nothing tells nothing
  pub none-told : (K : Start) (s : S) → K.opened ≡ Between Data → TellsByItself means rules K s [] [] (start_beyond K [] (Between Data) K.last_start_tag)
  unfolding normalised without_dropped_first with_line_feeds trace
  none-told K s starts = trace-by_itself means rules K s [] [] (Between Data) K.last_start_tag (rw starts refl)

  -- a text that is written tells its characters
  pub text-told : (K : Start) (s : S) (text : List ℕ) → IsOpen K → has_no_null text ≡ true
      → TellsByItself means rules K s (escaped_text text) (text_messages rules.exact K.input text) (start_beyond K (escaped_text text) (Between Data) K.last_start_tag)
  unfolding text_messages
  text-told K s [] here nulls = none-told K s here.starts
  text-told K s (c ∷ text) here nulls =
      let p = and_parts (not (c == null)) (has_no_null text) nulls in
      let M : List Message = on_line (line_after K.input (escaped c)) (character_told rules.exact c) in
      let between : Start = start_beyond K (escaped c) (Between Data) K.last_start_tag in
      subst (λ input. TellsByItself means rules K s (escaped c ++ escaped_text text) (M ++ text_messages rules.exact between.input text) (record { opened = Between Data; last_start_tag = K.last_start_tag; input = input }))
      (sym (input_after-append K.input (escaped c) (escaped_text text)))
      (in_sequence means rules K s (escaped c) M between (escaped_text text) (text_messages rules.exact between.input text) (start_beyond between (escaped_text text) (Between Data) between.last_start_tag)
      (character-told c K s here (not-true (c == null) p.0))
      (text-told between (stepped means.step s M) text (record { starts = refl; no_break = no_break-escaped K.input c }) p.1))
