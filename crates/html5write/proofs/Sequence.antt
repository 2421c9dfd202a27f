-- An item and the text after it tell what each tells, and what a text tells that stands alone.
use Rattle.std.proofs.Common.{◌≡◌, ℕ, List, [], ◌++◌, ap, sym, ◌∙◌}
use Rattle.std.proofs.lemmas.List.{append_assoc, append-nil}
use Rattle.html5ever_interface.specs.Sink.{Means, Message, stepped}
use Rattle.html5ever_interface.proofs.Steppings.{stepped-append}
use Rattle.html5grammar.specs.Anywhere.{TellsBefore, TellsByItself}
use Rattle.html5grammar.proofs.ByItself.{tells-before}
use Rattle.html5reading.specs.Reading.{messages_so_far, start_after}
use Rattle.html5reading.specs.Start.{Start, Rules}
use Rattle.html5reading.proofs.ReadingLemmas.{told-nil, after-nil}

module _ {X S H : Type 0} (means : Means X S H) (rules : Rules) where
  -- when no text stands before the item
  tells-first : (Z : List ℕ) (K : Start) (s : S) (Y : List ℕ) (M : List Message) (later : Start) → TellsBefore means rules Z K s Y M later
      → messages_so_far means rules K s (Y ++ Z) ≡ M ++ messages_so_far means rules later (stepped means.step s M) Z
  unfolding stepped
  tells-first Z K s Y M later item =
      item.tells K s [] (after-nil means.step means.reply means.foreign rules K s) (ap (stepped means.step s) (told-nil means.step means.reply means.foreign rules K s))
      ∙ ap (λ N. N ++ (M ++ messages_so_far means rules later (stepped means.step s M) Z)) (told-nil means.step means.reply means.foreign rules K s)

  leads-first : (Z : List ℕ) (K : Start) (s : S) (Y : List ℕ) (M : List Message) (later : Start) → TellsBefore means rules Z K s Y M later
      → start_after means rules K s (Y ++ Z) ≡ start_after means rules later (stepped means.step s M) Z
  unfolding stepped
  leads-first Z K s Y M later item =
      item.leads K s [] (after-nil means.step means.reply means.foreign rules K s) (ap (stepped means.step s) (told-nil means.step means.reply means.foreign rules K s))

  -- two texts that tell their messages by themselves tell both, one after the other
  pub in_sequence : (K : Start) (s : S) (Y : List ℕ) (M : List Message) (between : Start) (Z : List ℕ) (N : List Message) (later : Start)
      → TellsByItself means rules K s Y M between
      → TellsByItself means rules between (stepped means.step s M) Z N later
      → TellsByItself means rules K s (Y ++ Z) (M ++ N) later
  in_sequence K s Y M between Z N later one two W =
      let t : S = stepped means.step s M in
      let u : stepped means.step s (M ++ N) ≡ stepped means.step t N = stepped-append means.step s M N in
      tells-before means rules W K s (Y ++ Z) (M ++ N) later
      (ap (λ T. messages_so_far means rules K s T) (append_assoc Y Z W)
      ∙ tells-first (Z ++ W) K s Y M between (one (Z ++ W))
      ∙ ap (λ l. M ++ l) (tells-first W between t Z N later (two W))
      ∙ sym (append_assoc M N (messages_so_far means rules later (stepped means.step t N) W))
      ∙ ap (λ v. (M ++ N) ++ messages_so_far means rules later v W) (sym u))
      (ap (λ T. start_after means rules K s T) (append_assoc Y Z W)
      ∙ leads-first (Z ++ W) K s Y M between (one (Z ++ W))
      ∙ leads-first W between t Z N later (two W)
      ∙ ap (λ v. start_after means rules later v W) (sym u))

  -- ---- a text that tells by itself, alone

  pub told-alone : (K : Start) (s : S) (Y : List ℕ) (M : List Message) (later : Start) → TellsByItself means rules K s Y M later
      → messages_so_far means rules K s Y ≡ M
  told-alone K s Y M later item =
      ap (λ T. messages_so_far means rules K s T) (sym (append-nil Y))
      ∙ tells-first [] K s Y M later (item [])
      ∙ ap (λ N. M ++ N) (told-nil means.step means.reply means.foreign rules later (stepped means.step s M))
      ∙ append-nil M

  pub after-alone : (K : Start) (s : S) (Y : List ℕ) (M : List Message) (later : Start) → TellsByItself means rules K s Y M later
      → start_after means rules K s Y ≡ later
  after-alone K s Y M later item =
      ap (λ T. start_after means rules K s T) (sym (append-nil Y))
      ∙ leads-first [] K s Y M later (item [])
      ∙ after-nil means.step means.reply means.foreign rules later (stepped means.step s M)
