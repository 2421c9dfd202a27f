-- The text that a run takes. It hands in texts at the back or at the front of the queue, and feeds once after each.
use Rattle.std.specs.Prelude.{◌≡◌, ℕ, List, [], ◌∷◌, ◌++◌}
use Rattle.std.specs.Str.{chars}
use Rattle.std.specs.String.{string_bytes}
use Rattle.html5ever_interface.specs.Options.{OptionsOf}
use Rattle.html5ever.specs.Pauses.{TakesByItems}
use Rattle.html5ever_interface.specs.Sink.{Means}
use Rattle.html5ever_interface.specs.Token.{Reply}
use Rattle.html5reading.specs.Reading.{all_messages}
use Rattle.html5reading.specs.Start.{Start, Rules, start_of}
use Rattle.html5feed.specs.Feed.{Feed, feed}
use Rattle.html5grammar.specs.Items.{FinishedItems}
use Rattle.html5ever.specs.Tokenizer.{Tokenizing, StandsAt, EndStops, rules_of, state_at_end}
use Rattle.html5partial.specs.declared.error.TokenizerError.{TokenizerError}
use Rattle.html5ever.specs.declared.tokenizer.steps.Step.{Step}
use Rattle.html5ever.specs.declared.tokenizer.steps.Step.TheVariants.{Push, Insert}
use Rattle.markup5ever.specs.NamedReferences.{NamedReference}

-- the characters that a step hands in
pub data StepOf : Type 0 where
  AtBack : List ℕ → StepOf
  AtFront : List ℕ → StepOf

abbrev pub step_of : {Z : Type 0} → Step Z → StepOf
step_of (Push text) = AtBack (chars (string_bytes text))
step_of (Insert text) = AtFront (chars (string_bytes text))

-- the queued text after a step was handed in
abbrev pub waiting_with : StepOf → List ℕ → List ℕ
waiting_with (AtBack text) queue = queue ++ text
waiting_with (AtFront text) queue = text ++ queue

module _ {X S H : Type 0} (means : Means X S H) where
  -- the text taken in all, where `text` was taken and `queue` waits. A feed after each step takes a prefix of the queued text, and
  -- after the last step all is taken.
  unfoldable pub run_text : Rules → Start → S → List ℕ → List ℕ → List StepOf → List ℕ
  run_text rules K s text queue [] = text ++ queue
  run_text rules K s text queue (t ∷ ts) =
      let fed : Feed H = feed means rules K s text (waiting_with t queue) in
      run_text rules K s (text ++ fed.taken) fed.left ts

  -- the same from the start of a stream, by these options and this table
  abbrev pub text_of_steps : OptionsOf → List NamedReference → S → List StepOf → List ℕ
  text_of_steps opts references state steps = run_text (rules_of opts references) (start_of opts) state [] [] steps

  -- from the start of a text, the sink was sent the reading of what the steps make the tokenizer take, and then finished
  abbrev pub FinishesRun : Tokenizing X → List StepOf → S → Type 0
  FinishesRun old steps t =
      (K : Start) (s : S) → StandsAt means old K s [] → t ≡ state_at_end means old.rules K s (run_text old.rules K s [] [] steps)

  -- from the start of a text, the tokenizer stopped within that reading
  abbrev pub StopsRun : TokenizerError → Tokenizing X → List StepOf → S → Type 0
  StopsRun e old steps t =
      (K : Start) (s : S) → StandsAt means old K s []
      → EndStops means e s (all_messages means old.rules K s (run_text old.rules K s [] [] steps)) t

  -- ---- by items: `TakesByItems` says how much each feed takes

  -- where `text` was taken and `queue` waits, the steps take `whole` in all. A feed after each step takes a prefix of the queued
  -- text, and after the last step all is taken.
  pub data RunTakes (rules : Rules) (K : Start) (s : S) : List ℕ → List ℕ → List StepOf → List ℕ → Type 0 where
    Ended : (text queue : List ℕ) → RunTakes rules K s text queue [] (text ++ queue)
    Fed : (text queue taken left whole : List ℕ) (reply : Reply H) (t : StepOf) (ts : List StepOf)
        → TakesByItems means rules K s text (waiting_with t queue) taken left reply
        → RunTakes rules K s (text ++ taken) left ts whole
        → RunTakes rules K s text queue (t ∷ ts) whole

  -- from the start of a stream, by these options and this table, the sink was sent what the items and the end of the text taken tell,
  -- and then finished
  pub record RunsItems (opts : OptionsOf) (references : List NamedReference) (state : S) (steps : List StepOf) (t : S) : Type 0 where
    pub whole : List ℕ
    pub takes : RunTakes (rules_of opts references) (start_of opts) state [] [] steps whole
    pub finished : FinishedItems means (rules_of opts references) (start_of opts) state whole t
