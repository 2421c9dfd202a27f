-- A sink of which no reply pauses: a feed reads all that waits.
use Rattle.std.proofs.Common.{◌≡◌, ℕ, false, List, [], ◌∷◌, ◌++◌, refl, ap}
use Rattle.html5ever_interface.specs.Sink.{Means, Message}
use Rattle.html5ever_interface.specs.Token.{Told}
use Rattle.html5ever_interface.specs.Token.Reply.{KeepOn}
use Rattle.html5feed.specs.Feed.{Feed, feed, first_pause, pauses, told_beyond, up_to_pause}
use Rattle.html5reading.specs.Reading.{state_after}
use Rattle.html5reading.specs.Start.{Start, Rules}

-- a feed takes all of a queue's text
pub record TakesAll {H : Type 0} (fed : Feed H) (queue : List ℕ) : Type 0 where
  pub taken : fed.taken ≡ queue
  pub left : fed.left ≡ []
  pub answer : fed.answer ≡ KeepOn

module _ {X S H : Type 0} (means : Means X S H) (unpaused : (s : S) (told : Told) (line : ℕ) → pauses (means.reply s told line) ≡ false) where
  first-none : (s : S) (M : List Message) → first_pause means s M ≡ KeepOn
  unfolding first_pause
  first-none s [] = refl
  first-none s (m ∷ M) = rw (unpaused s m.token m.line) (first-none (means.step s m.token m.line) M)

  pub takes_all : (rules : Rules) (K : Start) (s : S) (text queue : List ℕ) → TakesAll (feed means rules K s text queue) queue
  unfolding feed up_to_pause
  takes_all rules K s text [] = record { taken = refl; left = refl; answer = refl }
  takes_all rules K s text (c ∷ queue) =
      let later = takes_all rules K s (text ++ c ∷ []) queue in
      rw (first-none (state_after means rules K s text) (told_beyond means rules K s text (c ∷ [])))
      (record { taken = ap (λ l. c ∷ l) later.taken; left = later.left; answer = later.answer })
