-- What a text tells, and what its end tells besides; how an item in front of it adds to that.
use Rattle.std.proofs.Common.{◌≡◌, ℕ, List, [], ◌++◌, ap, sym, ◌∙◌}
use Rattle.html5ever_interface.specs.Sink.{Means, Message, stepped, on_line}
use Rattle.html5grammar.specs.Anywhere.{TellsBefore, start_beyond}
use Rattle.html5reading.specs.EndOfInput.{tokens_at_end}
use Rattle.html5reading.specs.NormalisedText.{normalised, line_after, input_after}
use Rattle.html5reading.specs.Reading.{messages_so_far, start_after}
use Rattle.html5reading.specs.Start.{Start, Open, Rules}
use Rattle.html5reading.proofs.InputLemmas.{normalised-append, input_after-append}
use Rattle.html5reading.proofs.ReadingLemmas.{told-trace, after-opened, told-nil, after-nil}
use Rattle.html5reading.proofs.Traces.{Trace, trace, with_messages}

module _ {X S H : Type 0} (means : Means X S H) (rules : Rules) where
  abbrev pub trace_of : S → ℕ → List ℕ → Open → List ℕ → Trace
  trace_of s line last opened text = trace means.step means.reply means.foreign rules s line last opened text

  -- the messages that the text tells, and those of its end
  pub record TellsAll (K : Start) (s : S) (text : List ℕ) (M E : List Message) : Type 0 where
    pub told : messages_so_far means rules K s text ≡ M
    pub at_end : on_line (line_after (input_after K.input text) []) (tokens_at_end rules (start_after means rules K s text).opened) ≡ E

  -- read from K before the text Z, the text Y tells M, and then all that Z tells from `later`
  abbrev pub TellsWith : List ℕ → Start → S → List ℕ → List Message → Start → Type 0
  TellsWith Z K s Y M later = (N E : List Message) → TellsAll later (stepped means.step s M) Z N E → TellsAll K s (Y ++ Z) (M ++ N) E

  pub tells-trace : (K : Start) (s : S) (text : List ℕ) (M : List Message) (opened : Open) (last : List ℕ)
      → trace_of s (line_after K.input []) K.last_start_tag K.opened (normalised K.input text) ≡ record { messages = M; opened = opened; last_start_tag = last }
      → TellsAll K s text M (on_line (line_after (input_after K.input text) []) (tokens_at_end rules opened))
  tells-trace K s text M opened last e = record {
    told = told-trace means.step means.reply means.foreign rules K s text ∙ ap (λ (t : Trace). t.messages) e;
    at_end =
        ap (λ o. on_line (line_after (input_after K.input text) []) (tokens_at_end rules o))
        (after-opened means.step means.reply means.foreign rules K s text ∙ ap (λ (t : Trace). t.opened) e);
  }

  -- an item that tells its messages before a text, and then all that this text tells
  pub tells-before_with : (Z : List ℕ) (K : Start) (s : S) (Y : List ℕ) (M : List Message) (opened : Open) (last : List ℕ)
      → TellsBefore means rules Z K s Y M (start_beyond K Y opened last) → TellsWith Z K s Y M (start_beyond K Y opened last)
  unfolding stepped
  tells-before_with Z K s Y M opened last one N E rest =
      let none : stepped means.step s (messages_so_far means rules K s []) ≡ s =
      ap (stepped means.step s) (told-nil means.step means.reply means.foreign rules K s) in
      let start : start_after means rules K s [] ≡ K = after-nil means.step means.reply means.foreign rules K s in
      record {
        told =
            one.tells K s [] start none
            ∙ ap (λ l. l ++ (M ++ messages_so_far means rules (start_beyond K Y opened last) (stepped means.step s M) Z)) (told-nil means.step means.reply means.foreign rules K s)
            ∙ ap (λ l. M ++ l) rest.told;
        at_end =
            ap (λ (k : Start). on_line (line_after (input_after K.input (Y ++ Z)) []) (tokens_at_end rules k.opened)) (one.leads K s [] start none)
            ∙ ap (λ i. on_line (line_after i []) (tokens_at_end rules (start_after means rules (start_beyond K Y opened last) (stepped means.step s M) Z).opened)) (input_after-append K.input Y Z)
            ∙ rest.at_end;
      }

  -- ---- two places from which a text tells the same

  -- the text tells the same from either place, and so does its end
  pub record Alike (one other : Open) (text : List ℕ) : Type 0 where
    pub told : (s : S) (line : ℕ) (last : List ℕ) → (trace_of s line last one text).messages ≡ (trace_of s line last other text).messages
    pub at_end : (s : S) (line : ℕ) (last : List ℕ)
        → tokens_at_end rules (trace_of s line last one text).opened ≡ tokens_at_end rules (trace_of s line last other text).opened

  -- an item that leaves something open, from where the rest tells the same as where nothing is open
  pub tells-alike : (Z : List ℕ) (K : Start) (s : S) (Y : List ℕ) (M : List Message) (opened later : Open) (F : List ℕ)
      → normalised (input_after K.input Y) Z ≡ F → Alike opened later F
      → trace_of s (line_after K.input []) K.last_start_tag K.opened (normalised K.input Y ++ F)
      ≡ with_messages M (trace_of (stepped means.step s M) (line_after (input_after K.input Y) []) K.last_start_tag opened F)
      → TellsWith Z K s Y M (start_beyond K Y later K.last_start_tag)
  tells-alike Z K s Y M opened later F next alike e N E rest =
      let t : S = stepped means.step s M in
      let line : ℕ = line_after (input_after K.input Y) [] in
      let last : List ℕ = K.last_start_tag in
      let whole : trace_of s (line_after K.input []) last K.opened (normalised K.input (Y ++ Z)) ≡ with_messages M (trace_of t line last opened F) =
      ap (λ l. trace_of s (line_after K.input []) last K.opened l) (normalised-append K.input Y Z ∙ ap (λ l. normalised K.input Y ++ l) next) ∙ e in
      let past : trace_of t line last later (normalised (input_after K.input Y) Z) ≡ trace_of t line last later F = ap (λ l. trace_of t line last later l) next in
      record {
        told =
            told-trace means.step means.reply means.foreign rules K s (Y ++ Z)
            ∙ ap (λ (r : Trace). r.messages) whole
            ∙ ap (λ l. M ++ l)
            (alike.told t line last
            ∙ ap (λ (r : Trace). r.messages) (sym past)
            ∙ sym (told-trace means.step means.reply means.foreign rules (start_beyond K Y later last) t Z)
            ∙ rest.told);
        at_end =
            ap (λ o. on_line (line_after (input_after K.input (Y ++ Z)) []) (tokens_at_end rules o))
            (after-opened means.step means.reply means.foreign rules K s (Y ++ Z) ∙ ap (λ (r : Trace). r.opened) whole)
            ∙ ap (λ i. on_line (line_after i []) (tokens_at_end rules (trace_of t line last opened F).opened)) (input_after-append K.input Y Z)
            ∙ ap (λ l. on_line (line_after (input_after (input_after K.input Y) Z) []) l)
            (alike.at_end t line last
            ∙ ap (λ (r : Trace). tokens_at_end rules r.opened) (sym past)
            ∙ ap (tokens_at_end rules) (sym (after-opened means.step means.reply means.foreign rules (start_beyond K Y later last) t Z)))
            ∙ rest.at_end;
      }
