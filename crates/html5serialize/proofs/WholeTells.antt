-- A text before another, and a text to its end, except for errors.
use Rattle.std.proofs.Common.{◌≡◌, ℕ, List, [], ◌++◌, ap, sym, ◌∙◌}
use Rattle.std.proofs.lemmas.List.{append_assoc}
use Rattle.html5ever_interface.specs.Sink.{Means, Message, stepped, on_line}
use Rattle.html5ever_interface.specs.Token.{Told}
use Rattle.html5reading.specs.EndOfInput.{tokens_at_end}
use Rattle.html5reading.specs.NormalisedText.{normalised, line_after}
use Rattle.html5reading.specs.Reading.{messages, told, all_messages, messages_so_far, start_after}
use Rattle.html5reading.specs.Start.{Start, Rules}
use Rattle.html5reading.proofs.ReadingLemmas.{reading-events, messages-at_end, told-nil, after-nil}
use Rattle.html5reading.proofs.Traces.{messages-append}
use Rattle.html5grammar.specs.Anywhere.{TellsBefore, TellsByItself}
use Rattle.html5serialize.proofs.Errors.{proper_tokens, proper-append, proper-on_line}
use Rattle.html5write.specs.Told.{proper}

module _ {X S H : Type 0} (means : Means X S H) (rules : Rules) where
  all-proper : (K : Start) (s : S) (Y : List ℕ)
      → proper (all_messages means rules K s Y) ≡ proper (messages_so_far means rules K s Y) ++ proper_tokens (tokens_at_end rules (start_after means rules K s Y).opened)
  all-proper K s Y =
      let line : ℕ = line_after K.input (normalised K.input Y) in
      let ends : List Told = tokens_at_end rules (start_after means rules K s Y).opened in
      ap proper
      (ap messages (reading-events means.step means.reply means.foreign rules K s Y)
      ∙ messages-append (told means.step means.reply means.foreign rules K s Y) _
      ∙ ap (λ N. messages_so_far means rules K s Y ++ N) (messages-at_end means.step means.reply means.foreign rules K s Y))
      ∙ proper-append (messages_so_far means rules K s Y) (on_line line ends)
      ∙ ap (λ l. proper (messages_so_far means rules K s Y) ++ l) (proper-on_line line ends)

  -- a text that tells this before another
  pub tells-before : (K : Start) (s : S) (Y Z : List ℕ) (M : List Message) (later : Start) → TellsBefore means rules Z K s Y M later
      → proper (all_messages means rules K s (Y ++ Z)) ≡ proper M ++ proper (all_messages means rules later (stepped means.step s M) Z)
  unfolding stepped proper
  tells-before K s Y Z M later item =
      let t : S = stepped means.step s M in
      let first : start_after means rules K s [] ≡ K = after-nil means.step means.reply means.foreign rules K s in
      let none : messages_so_far means rules K s [] ≡ [] = told-nil means.step means.reply means.foreign rules K s in
      let said : messages_so_far means rules K s (Y ++ Z) ≡ M ++ messages_so_far means rules later t Z =
      item.tells K s [] first (ap (stepped means.step s) none) ∙ ap (λ N. N ++ (M ++ messages_so_far means rules later t Z)) none in
      let leads : start_after means rules K s (Y ++ Z) ≡ start_after means rules later t Z = item.leads K s [] first (ap (stepped means.step s) none) in
      all-proper K s (Y ++ Z)
      ∙ ap (λ N. proper N ++ proper_tokens (tokens_at_end rules (start_after means rules K s (Y ++ Z)).opened)) said
      ∙ ap (λ (k : Start). proper (M ++ messages_so_far means rules later t Z) ++ proper_tokens (tokens_at_end rules k.opened)) leads
      ∙ ap (λ l. l ++ proper_tokens (tokens_at_end rules (start_after means rules later t Z).opened)) (proper-append M (messages_so_far means rules later t Z))
      ∙ append_assoc (proper M) (proper (messages_so_far means rules later t Z)) (proper_tokens (tokens_at_end rules (start_after means rules later t Z).opened))
      ∙ ap (λ l. proper M ++ l) (sym (all-proper later t Z))

  -- a text that tells by itself, and then another
  pub tells-then : (K : Start) (s : S) (Y : List ℕ) (M : List Message) (later : Start) (Z : List ℕ) → TellsByItself means rules K s Y M later
      → proper (all_messages means rules K s (Y ++ Z)) ≡ proper M ++ proper (all_messages means rules later (stepped means.step s M) Z)
  tells-then K s Y M later Z item = tells-before K s Y Z M later (item Z)

  -- no text tells what its end does
  pub ends-alone : (K : Start) (s : S) → proper (all_messages means rules K s []) ≡ proper_tokens (tokens_at_end rules K.opened)
  unfolding proper
  ends-alone K s =
      all-proper K s []
      ∙ ap (λ N. proper N ++ proper_tokens (tokens_at_end rules (start_after means rules K s []).opened)) (told-nil means.step means.reply means.foreign rules K s)
      ∙ ap (λ (k : Start). proper_tokens (tokens_at_end rules k.opened)) (after-nil means.step means.reply means.foreign rules K s)
