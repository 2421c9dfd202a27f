-- What an item tells by itself, from what a text tells that is the item alone.
use Rattle.std.proofs.Common.{◌≡◌, ℕ, List, [], ◌++◌, ap, sym, ◌∙◌}
use Rattle.html5ever_interface.specs.Sink.{Means, Message, stepped}
use Rattle.html5grammar.specs.Anywhere.{TellsBefore, TellsByItself, start_beyond}
use Rattle.html5reading.specs.NormalisedText.{normalised, line_after, input_after}
use Rattle.html5reading.specs.Reading.{told, messages, after}
use Rattle.html5reading.specs.Start.{Input, Start, Open, Rules}
use Rattle.html5reading.proofs.InputLemmas.{input_after-append}
use Rattle.html5reading.proofs.ReadingLemmas.{told-trace, after-opened, after-last, told-append, after-append, state_beyond}
use Rattle.html5reading.proofs.Traces.{Trace, trace, with_messages}

module _ {X S H : Type 0} (means : Means X S H) (rules : Rules) where
  -- read with the text after it, it tells these messages, and then those of that text
  pub tells-before : (Z : List ℕ) (K : Start) (s : S) (Y : List ℕ) (M : List Message) (later : Start)
      → messages (told means.step means.reply means.foreign rules K s (Y ++ Z)) ≡ M ++ messages (told means.step means.reply means.foreign rules later (stepped means.step s M) Z)
      → after means.step means.reply means.foreign rules K s (Y ++ Z) ≡ after means.step means.reply means.foreign rules later (stepped means.step s M) Z
      → TellsBefore means rules Z K s Y M later
  tells-before Z K s Y M later tells leads =
      record {
        tells =
            λ L t X start state.
            let front : List Message = messages (told means.step means.reply means.foreign rules L t X) in
            told-append means.step means.reply means.foreign rules L t X (Y ++ Z)
            ∙ ap (λ k. front ++ messages (told means.step means.reply means.foreign rules k (state_beyond means.step means.reply means.foreign rules L t X) (Y ++ Z))) start
            ∙ ap (λ u. front ++ messages (told means.step means.reply means.foreign rules K u (Y ++ Z))) state
            ∙ ap (λ N. front ++ N) tells;
        leads =
            λ L t X start state.
            after-append means.step means.reply means.foreign rules L t X (Y ++ Z)
            ∙ ap (λ k. after means.step means.reply means.foreign rules k (state_beyond means.step means.reply means.foreign rules L t X) (Y ++ Z)) start
            ∙ ap (λ u. after means.step means.reply means.foreign rules K u (Y ++ Z)) state
            ∙ leads;
      }

  -- read alone it tells these messages and leads on
  pub tells-by_itself : (K : Start) (s : S) (Y : List ℕ) (M : List Message) (later : Start)
      → messages (told means.step means.reply means.foreign rules K s Y) ≡ M → after means.step means.reply means.foreign rules K s Y ≡ later
      → TellsByItself means rules K s Y M later
  tells-by_itself K s Y M later tells leads Z =
      tells-before Z K s Y M later
      (told-append means.step means.reply means.foreign rules K s Y Z
      ∙ ap (λ N. N ++ messages (told means.step means.reply means.foreign rules (after means.step means.reply means.foreign rules K s Y) (stepped means.step s N) Z)) tells
      ∙ ap (λ k. M ++ messages (told means.step means.reply means.foreign rules k (stepped means.step s M) Z)) leads)
      (after-append means.step means.reply means.foreign rules K s Y Z
      ∙ ap (λ N. after means.step means.reply means.foreign rules (after means.step means.reply means.foreign rules K s Y) (stepped means.step s N) Z) tells
      ∙ ap (λ k. after means.step means.reply means.foreign rules k (stepped means.step s M) Z) leads)

  -- the same, from what the machine tells of it
  pub trace-by_itself : (K : Start) (s : S) (Y : List ℕ) (M : List Message) (opened : Open) (last : List ℕ)
      → trace means.step means.reply means.foreign rules s (line_after K.input []) K.last_start_tag K.opened (normalised K.input Y)
      ≡ record { messages = M; opened = opened; last_start_tag = last }
      → TellsByItself means rules K s Y M (start_beyond K Y opened last)
  trace-by_itself K s Y M opened last e =
      tells-by_itself K s Y M (start_beyond K Y opened last)
      (told-trace means.step means.reply means.foreign rules K s Y ∙ ap (λ (t : Trace). t.messages) e)
      (ap (λ o. start_beyond K Y o (after means.step means.reply means.foreign rules K s Y).last_start_tag) (after-opened means.step means.reply means.foreign rules K s Y ∙ ap (λ (t : Trace). t.opened) e)
      ∙ ap (start_beyond K Y opened) (after-last means.step means.reply means.foreign rules K s Y ∙ ap (λ (t : Trace). t.last_start_tag) e))

  -- the same, before a text
  pub trace-before : (Z : List ℕ) (K : Start) (s : S) (Y : List ℕ) (M : List Message) (opened : Open)
      → trace means.step means.reply means.foreign rules s (line_after K.input []) K.last_start_tag K.opened (normalised K.input (Y ++ Z))
      ≡ with_messages M (trace means.step means.reply means.foreign rules (stepped means.step s M) (line_after (input_after K.input Y) []) K.last_start_tag opened (normalised (input_after K.input Y) Z))
      → TellsBefore means rules Z K s Y M (start_beyond K Y opened K.last_start_tag)
  trace-before Z K s Y M opened e =
      let later : Start = start_beyond K Y opened K.last_start_tag in
      let input : Input = input_after K.input (Y ++ Z) in
      let afterwards : Start = after means.step means.reply means.foreign rules later (stepped means.step s M) Z in
      tells-before Z K s Y M later
      (told-trace means.step means.reply means.foreign rules K s (Y ++ Z) ∙ ap (λ (t : Trace). t.messages) e ∙ ap (λ N. M ++ N) (sym (told-trace means.step means.reply means.foreign rules later (stepped means.step s M) Z)))
      (ap (λ o. record { opened = o; last_start_tag = (after means.step means.reply means.foreign rules K s (Y ++ Z)).last_start_tag; input = input })
      (after-opened means.step means.reply means.foreign rules K s (Y ++ Z) ∙ ap (λ (t : Trace). t.opened) e ∙ sym (after-opened means.step means.reply means.foreign rules later (stepped means.step s M) Z))
      ∙ ap (λ l. record { opened = afterwards.opened; last_start_tag = l; input = input })
      (after-last means.step means.reply means.foreign rules K s (Y ++ Z) ∙ ap (λ (t : Trace). t.last_start_tag) e ∙ sym (after-last means.step means.reply means.foreign rules later (stepped means.step s M) Z))
      ∙ ap (λ i. record { opened = afterwards.opened; last_start_tag = afterwards.last_start_tag; input = i }) (input_after-append K.input Y Z))
