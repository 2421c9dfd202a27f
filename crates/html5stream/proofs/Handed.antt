-- What each step of a handler of runs keeps holds after all messages of a page.
use Rattle.std.proofs.Common.{◌≡◌, ℕ, List, [], ◌∷◌, ◌++◌, refl, ap, sym, subst}
use Rattle.html5ever_interface.specs.Sink.{Message, stepped}
use Rattle.html5ever_interface.specs.Token.{Told}
use Rattle.html5ever_interface.specs.Token.Told.{Text, Null, Error, Tag, Comment, Instruction, Doctype, End}
use Rattle.html5sinks.specs.Runs.{Joined, Running, joined_step, runs_step}
use Rattle.html5stream.specs.Pages.{runs_handed, runs_start}

-- two handlers, and what is between them before and after each step
module _ {S T : Type 0} (step : S → List ℕ → Told → ℕ → S) (other : T → List ℕ → Told → ℕ → T) (Between : S → T → Type 0)
    (kept : (s : S) (t : T) (run : List ℕ) (told : Told) (line : ℕ) → Between s t → Between (step s run told line) (other t run told line)) where
  -- the same where one text waits for both
  record Related (j : Joined S) (k : Joined T) : Type 0 where
    handlers : Between j.handler k.handler
    run : j.run ≡ k.run

  ended : (j : Joined S) (k : Joined T) (told : Told) (line : ℕ) → Related j k → Between (step j.handler j.run told line) (other k.handler k.run told line)
  ended j k told line r = subst (λ run. Between (step j.handler j.run told line) (other k.handler run told line)) r.run (kept j.handler k.handler j.run told line r.handlers)

  related-joined : (j : Joined S) (k : Joined T) (told : Told) (line : ℕ) → Related j k → Related (joined_step step j told line) (joined_step other k told line)
  related-joined j k (Text text) line r = record { handlers = r.handlers; run = ap (λ l. l ++ text) r.run }
  related-joined j k (Error message) line r = record { handlers = kept j.handler k.handler [] (Error message) line r.handlers; run = r.run }
  related-joined j k Null line r = record { handlers = ended j k Null line r; run = refl }
  related-joined j k (Tag tag) line r = record { handlers = ended j k (Tag tag) line r; run = refl }
  related-joined j k (Comment text) line r = record { handlers = ended j k (Comment text) line r; run = refl }
  related-joined j k (Instruction content) line r = record { handlers = ended j k (Instruction content) line r; run = refl }
  related-joined j k (Doctype doctype) line r = record { handlers = ended j k (Doctype doctype) line r; run = refl }
  related-joined j k End line r = record { handlers = ended j k End line r; run = refl }

  related-stepped : (p : Running S) (q : Running T) (M : List Message) → Related p.joined q.joined
      → Related (stepped (runs_step step) p M).joined (stepped (runs_step other) q M).joined
  unfolding stepped
  related-stepped p q [] r = r
  related-stepped p q (m ∷ M) r =
      related-stepped (runs_step step p m.token m.line) (runs_step other q m.token m.line) M (related-joined p.joined q.joined m.token m.line r)

  pub between-handed : (s : S) (t : T) (M : List Message) → Between s t → Between (runs_handed step s M) (runs_handed other t M)
  unfolding runs_handed
  between-handed s t M between = (related-stepped (runs_start s) (runs_start t) M (record { handlers = between; run = refl })).handlers

-- one handler, and what is true of it before and after each step
module _ {S : Type 0} (step : S → List ℕ → Told → ℕ → S) (Holds : S → Type 0)
    (kept : (s : S) (run : List ℕ) (told : Told) (line : ℕ) → Holds s → Holds (step s run told line)) where
  pub kept-stepped : (r : Running S) (M : List Message) → Holds r.joined.handler → Holds (stepped (runs_step step) r M).joined.handler
  kept-stepped r M holds =
      (related-stepped step step (λ s t. Holds s) (λ s t run told line h. kept s run told line h) r r M (record { handlers = holds; run = refl })).handlers

  pub kept-handed : (s : S) (M : List Message) → Holds s → Holds (runs_handed step s M)
  kept-handed s M holds = between-handed step step (λ s t. Holds s) (λ s t run told line h. kept s run told line h) s s M holds
