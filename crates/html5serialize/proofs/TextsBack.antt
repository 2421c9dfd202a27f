-- Texts and NULs as they are written are read again as themselves.
use Rattle.std.proofs.Common.{◌≡◌, ℕ, Bool, true, false, List, [], ◌∷◌, ◌++◌, map, refl, ap, sym, ◌∙◌}
use Rattle.std.specs.Prelude.{chars, encode_utf8}
use Rattle.std.proofs.Math.Bool.{and-false}
use Rattle.std.proofs.lemmas.List.{append-nil}
use Rattle.html5ever_interface.specs.Sink.{Means, Message, stepped, on_line}
use Rattle.html5ever_interface.specs.Token.{Told}
use Rattle.html5ever_interface.specs.Token.Told.{Text, Null, Error, End}
use Rattle.html5ever_interface.specs.declared.states.State.TheVariants as state
use Rattle.html5reading.specs.Characters.{null}
use Rattle.html5reading.specs.ErrorText.{bad_character_error, error_in}
use Rattle.html5reading.specs.Machine.{brought_at, step_at, data_step}
use Rattle.html5reading.specs.NormalisedText.{normalised, without_dropped_first, with_line_feeds, line_after, input_after}
use Rattle.html5reading.specs.Start.{Input, Start, Rules}
use Rattle.html5reading.specs.Start.Mode.{Data}
use Rattle.html5reading.specs.Start.Open.{Between}
use Rattle.html5reading.proofs.InputLemmas.{line_past, line_after-past}
use Rattle.html5reading.proofs.Traces.{trace, trace_brought, trace_here}
use Rattle.html5grammar.proofs.ByItself.{trace-by_itself}
use Rattle.html5serialize.specs.ReadBack.{HasTexts, ReadsBack}
use Rattle.html5serialize.specs.Tokens.{can_write, read_back, token_text}
use Rattle.html5serialize.proofs.Errors.{proper_tokens, errors-before, errors-where, proper-append, proper-on_line}
use Rattle.html5serialize.proofs.TagBack.{no_null-chars}
use Rattle.html5write.specs.Escaped.{escaped}
use Rattle.html5write.specs.Told.{IsOpen, return_error, character_told, text_messages, proper}
use Rattle.html5write.proofs.Texts.{none-told, text-told}

-- except for errors a text tells its characters
pub proper-text : (exact : Bool) (input : Input) (text : List ℕ) → proper (text_messages exact input text) ≡ map (λ c. Text (encode_utf8 c)) text
unfolding text_messages proper
proper-text exact input [] = refl
proper-text exact input (c ∷ text) =
    let line : ℕ = line_after input (escaped c) in
    let N : List Message = text_messages exact (input_after input (escaped c)) text in
    let own : proper_tokens (character_told exact c) ≡ Text (encode_utf8 c) ∷ [] =
    errors-before (bad_character_error exact c) (return_error exact c ++ Text (encode_utf8 c) ∷ []) (errors-where _ _)
    ∙ errors-before (return_error exact c) (Text (encode_utf8 c) ∷ []) (errors-where _ _) in
    proper-append (on_line line (character_told exact c)) N
    ∙ ap (λ l. l ++ proper N) (proper-on_line line (character_told exact c) ∙ own)
    ∙ ap (λ l. Text (encode_utf8 c) ∷ l) (proper-text exact (input_after input (escaped c)) text)

normalised-null : (input : Input) → input.after_carriage_return ≡ false → normalised input (null ∷ []) ≡ null ∷ []
unfolding normalised without_dropped_first with_line_feeds
normalised-null input e = rw (e, and-false input.drops_byte_order_mark) refl

-- what a NUL tells in Data
abbrev null_told : Bool → List Told
null_told exact = error_in exact state.Data null ∷ Null ∷ []

module _ {X S H : Type 0} (means : Means X S H) (rules : Rules) where
  trace-null : (s : S) (line : ℕ) (last : List ℕ)
      → trace means.step means.reply means.foreign rules s line last (Between Data) (null ∷ [])
      ≡ record { messages = on_line (line_past line null) (bad_character_error rules.exact null ++ null_told rules.exact); opened = Between Data; last_start_tag = last }
  unfolding trace trace_brought trace_here brought_at step_at data_step stepped
  trace-null s line last =
      ap (λ M. record { messages = M; opened = Between Data; last_start_tag = last }) (append-nil (on_line (line_past line null) (bad_character_error rules.exact null ++ null_told rules.exact)))

  pub text-back : (K : Start) (s : S) (text : List ℕ) → IsOpen K → HasTexts (Text text) → can_write (Text text) ≡ true → ReadsBack means rules K s (Text text)
  unfolding token_text read_back can_write
  text-back K s text here utf8 can = record {
    messages = text_messages rules.exact K.input (chars text);
    tells = text-told means rules K s (chars text) here (no_null-chars text utf8 can);
    exactly = proper-text rules.exact K.input (chars text);
  }

  pub null-back : (K : Start) (s : S) → IsOpen K → ReadsBack means rules K s Null
  unfolding token_text read_back
  null-back K s here =
      let M : List Message = on_line (line_after K.input (null ∷ [])) (bad_character_error rules.exact null ++ null_told rules.exact) in
      record {
        messages = M;
        tells =
            trace-by_itself means rules K s (null ∷ []) M (Between Data) K.last_start_tag
            (rw (here.starts, normalised-null K.input here.no_break)
            (trace-null s (line_after K.input []) K.last_start_tag
            ∙ ap (λ line. record { messages = on_line line (bad_character_error rules.exact null ++ null_told rules.exact); opened = Between Data; last_start_tag = K.last_start_tag }) (sym (line_after-past K.input [] null))));
        exactly =
            proper-on_line (line_after K.input (null ∷ [])) (bad_character_error rules.exact null ++ null_told rules.exact)
            ∙ errors-before (bad_character_error rules.exact null) (null_told rules.exact) (errors-where _ _);
      }

  -- nothing is written of an error and of the end, and nothing is read
  pub error-back : (K : Start) (s : S) (message : List ℕ) → IsOpen K → ReadsBack means rules K s (Error message)
  unfolding token_text read_back proper
  error-back K s message here = record { messages = []; tells = none-told means rules K s here.starts; exactly = refl }

  pub end-back : (K : Start) (s : S) → IsOpen K → ReadsBack means rules K s End
  unfolding token_text read_back proper
  end-back K s here = record { messages = []; tells = none-told means rules K s here.starts; exactly = refl }
