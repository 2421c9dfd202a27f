-- What messages make of the state of a sink that places tokens.
use Rattle.std.proofs.Common.{◌≡◌, ℕ, List, [], ◌∷◌, ◌++◌, refl, ap, sym, ◌∙◌}
use Rattle.std.proofs.lemmas.List.{append_assoc}
use Rattle.html5ever_interface.specs.Sink.{Message, stepped}
use Rattle.html5ever_interface.specs.Token.{Told}
use Rattle.html5ever_interface.specs.Token.Told.{Text}
use Rattle.html5places.specs.Marks.{Marks, Placed, Placing, handler_after, marks_after, placed_step}
use Rattle.html5places.specs.Placed.{all_handed, handed, handed_on, marks_after_all}
use Rattle.html5places.specs.Readers.{IsPart}

module _ {S : Type 0} (step : S → Placed → S) where
  pub handed_on-append : (s : S) (a b : List Placed) → handed_on step s (a ++ b) ≡ handed_on step (handed_on step s a) b
  unfolding handed_on
  handed_on-append s [] b = refl
  handed_on-append s (p ∷ a) b = handed_on-append (step s p) a b

  handed-one : (s : Placing S) (told : Told) (line : ℕ) (rest : List Placed)
      → handed_on step s.handler (handed s.marks told line ++ rest) ≡ handed_on step (handler_after step s told line) rest
  unfolding handed_on
  handed-one s (Text text) line rest = refl
  handed-one s other line rest = refl

  pub stepped-placed : (s : Placing S) (M : List Message)
      → stepped (placed_step step) s M ≡ record { handler = handed_on step s.handler (all_handed s.marks M); marks = marks_after_all s.marks M }
  unfolding stepped all_handed marks_after_all handed_on
  stepped-placed s [] = refl
  stepped-placed s (m ∷ M) =
      stepped-placed (placed_step step s m.token m.line) M
      ∙ ap (λ h. record { handler = h; marks = marks_after_all (marks_after s.marks m.token) M })
      (sym (handed-one s m.token m.line (all_handed (marks_after s.marks m.token) M)))

  -- what the handler and the marks are then
  pub stepped-handler : (s : Placing S) (M : List Message) → (stepped (placed_step step) s M).handler ≡ handed_on step s.handler (all_handed s.marks M)
  stepped-handler s M = ap (λ (t : Placing S). t.handler) (stepped-placed s M)

  pub stepped-marks : (s : Placing S) (M : List Message) → (stepped (placed_step step) s M).marks ≡ marks_after_all s.marks M
  stepped-marks s M = ap (λ (t : Placing S). t.marks) (stepped-placed s M)

pub all_handed-append : (s : Marks) (M N : List Message) → all_handed s (M ++ N) ≡ all_handed s M ++ all_handed (marks_after_all s M) N
unfolding all_handed marks_after_all
all_handed-append s [] N = refl
all_handed-append s (m ∷ M) N =
    ap (λ l. handed s m.token m.line ++ l) (all_handed-append (marks_after s m.token) M N)
    ∙ sym (append_assoc (handed s m.token m.line) (all_handed (marks_after s m.token) M) (all_handed (marks_after_all (marks_after s m.token) M) N))

module _ {S : Type 0} (step : S → Placed → S) where
  -- none of some tokens
  pub part-none : (s : S) (placed : List Placed) (t : S) → t ≡ s → IsPart step s placed t
  unfolding handed_on
  part-none s placed t same = record { front = []; back = placed; parts = refl; state = same }

  -- after more tokens, and before others
  pub part-later : (s t v : S) (front placed back : List Placed) → t ≡ handed_on step s front → IsPart step t placed v → IsPart step s (front ++ (placed ++ back)) v
  part-later s t v front placed back state part = record {
    front = front ++ part.front;
    back = part.back ++ back;
    parts =
        ap (λ l. front ++ (l ++ back)) part.parts
        ∙ ap (λ l. front ++ l) (append_assoc part.front part.back back)
        ∙ sym (append_assoc front part.front (part.back ++ back));
    state = part.state ∙ ap (λ u. handed_on step u part.front) state ∙ sym (handed_on-append step s front part.front);
  }
