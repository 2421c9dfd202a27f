-- A whole text that is read by a collector.
use Rattle.std.specs.Prelude.{◌≡◌, ℕ, Bool, List, Result, IfOk, IfErr}
use Rattle.html5ever_interface.specs.Collected.{Collected, Collecting, none_collected, collected_step, collected_reply, collected_foreign, collected_faulted, collected_finish}
use Rattle.html5ever_interface.specs.Options.{OptionsOf}
use Rattle.html5ever_interface.specs.Sink.{Means, Message, stepped}
use Rattle.html5states.specs.Telling.{IsRefusal}
use Rattle.html5partial.specs.declared.error.TokenizerError.{TokenizerError}
use Rattle.html5ever.specs.Tokenizer.{rules_of, finished_reading}
use Rattle.html5reading.specs.Start.{start_of}
use Rattle.html5grammar.specs.Items.{Composed}
use Rattle.markup5ever.specs.NamedReferences.{NamedReference}

-- what a collector makes of what it is sent
abbrev pub collector_means : Means Collecting Collected (Unit {0})
collector_means = record {
  state = λ c. c.collected;
  step = collected_step;
  reply = collected_reply;
  foreign = collected_foreign;
  finish = collected_finish;
  faulted = collected_faulted;
  end_faulted = λ c. c;
}

-- what a collector holds after a whole text
abbrev pub collected_of : OptionsOf → List NamedReference → Bool → List ℕ → Collected
collected_of opts references foreign text = finished_reading collector_means opts references (none_collected foreign) text

-- a collector holds these messages, adjacent texts joined, and has finished
abbrev pub Collects : Collecting → Bool → List Message → Type 0
Collects sink foreign M = sink.collected ≡ collected_finish (stepped collected_step (none_collected foreign) M)

-- a whole text as items, which a collector is sent
abbrev pub ComposedOf : OptionsOf → List NamedReference → Bool → List ℕ → Type 0
ComposedOf opts references foreign text = Composed collector_means (rules_of opts references) (start_of opts) (none_collected foreign) text

-- what reading a whole text by a collector answers
pub record CollectsText (result : Result Collecting TokenizerError) (opts : OptionsOf) (references : List NamedReference) (foreign : Bool)
    (text : List ℕ) : Type 0 where
  -- a collector that holds the finished reading, and has not faulted
  pub holds : IfOk result (λ sink. sink.collected ≡ collected_of opts references foreign text)
  pub no_fault : IfOk result (λ sink. sink.faults ≡ 0)
  -- or an error: out of memory, or a fault of the collector
  pub refusal : IfErr result IsRefusal
