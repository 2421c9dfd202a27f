-- What is sent of a source, or handed to a handler, is what the items of its text tell.
use Rattle.std.proofs.Common.{◌≡◌, ℕ, List, ◌++◌, Option, refl, ap, ◌∙◌}
use Rattle.std.specs.Str.{chars}
use Rattle.html5ever_interface.specs.Options.{OptionsOf, default_options}
use Rattle.html5ever_interface.specs.Sink.{Means, Message}
use Rattle.html5ever_interface.specs.Token.{TagOf, Told}
use Rattle.html5reading.specs.Start.{start_of}
use Rattle.html5reading.specs.Reading.{all_messages}
use Rattle.html5grammar.specs.Items.{Items, Composed}
use Rattle.html5grammar.proofs.Completeness.{all-composed}
use Rattle.html5grammar.proofs.Soundness.{reading-items}
use Rattle.html5ever.specs.Tokenizer.{rules_of}
use Rattle.html5ever.proofs.ByItems.{whole-items}
use Rattle.html5stream.specs.Pages.{Passage, ReadsPage, ReadsPageItems, tags_means, runs_means, tags_start, runs_start, TagsItems, RunsItems, tags_page, runs_page, tags_handed, runs_handed, tags_after, runs_after}
use Rattle.html5stream.specs.Streams.{ReadsSource, ReadsSourceItems}
use Rattle.markup5ever.specs.NamedReferences.{NamedReference, IsTable}

module _ {X S H : Type 0} (means : Means X S H) where
  pub source-items : (opts : OptionsOf) (references : List NamedReference) (s : S) (before after : Option (List ℕ)) (t : S) → IsTable references
      → ReadsSource means opts references s before after t → ReadsSourceItems means opts references s before after t
  source-items opts references s before after t table read = record {
    bytes = read.bytes;
    given = read.given;
    at_end = read.at_end;
    utf8 = read.utf8;
    told = whole-items means opts references s (chars read.bytes) t (rules_of opts references) table refl read.told;
  }

-- what a handler makes of a page is what it makes of the messages of its items
pub page-items : {S : Type 0} (page : S → List ℕ → List Message) (handed : S → List Message → S) (composes : S → List ℕ → List Message → List Message → Type 0)
    (known : Passage S)
    → ((bytes : List ℕ) → (M : List Message) × (E : List Message) × composes known.before bytes M E × (page known.before bytes ≡ M ++ E))
    → ReadsPage (λ s bytes. handed s (page s bytes)) known → ReadsPageItems composes handed known
page-items page handed composes known composed read =
    let c = composed read.bytes in
    record {
      bytes = read.bytes;
      consumed = read.consumed;
      at_end = read.at_end;
      utf8 = read.utf8;
      tells = c.0;
      ends = c.1;
      items = c.2;
      told = read.told ∙ ap (handed known.before) c.3;
    }

-- a whole text by the default options
composed-page : {X S H : Type 0} (means : Means X S H) (references : List NamedReference) (s : S) (text : List ℕ) → IsTable references
    → (M : List Message) × (E : List Message) × Items means (rules_of default_options references) (start_of default_options) s text M E
    × (all_messages means (rules_of default_options references) (start_of default_options) s text ≡ M ++ E)
composed-page means references s text table =
    let c : Composed means (rules_of default_options references) (start_of default_options) s text = all-composed means (rules_of default_options references) (start_of default_options) s text refl in
    (c.tells, c.ends, c.items, reading-items means (rules_of default_options references) (start_of default_options) s text c.tells c.ends table c.items)

pub tags-items : {S : Type 0} (step : S → TagOf → ℕ → S) (references : List NamedReference) (known : Passage S) → IsTable references
    → ReadsPage (tags_after step references) known → ReadsPageItems (TagsItems step references) (tags_handed step) known
unfolding tags_page
tags-items step references known table =
    page-items (tags_page step references) (tags_handed step) (TagsItems step references) known
    (λ bytes. composed-page (tags_means (λ t. t) step) references (tags_start known.before) (chars bytes) table)

-- a page as a handler of runs is sent it is items, and its messages are those that they tell
pub runs-composed : {S : Type 0} (step : S → List ℕ → Told → ℕ → S) (references : List NamedReference) (before : S) (bytes : List ℕ) → IsTable references
    → (M : List Message) × (E : List Message) × RunsItems step references before bytes M E × (runs_page step references before bytes ≡ M ++ E)
unfolding runs_page
runs-composed step references before bytes table = composed-page (runs_means (λ t. t) step) references (runs_start before) (chars bytes) table

pub runs-items : {S : Type 0} (step : S → List ℕ → Told → ℕ → S) (references : List NamedReference) (known : Passage S) → IsTable references
    → ReadsPage (runs_after step references) known → ReadsPageItems (RunsItems step references) (runs_handed step) known
runs-items step references known table =
    page-items (runs_page step references) (runs_handed step) (RunsItems step references) known
    (λ bytes. runs-composed step references known.before bytes table)
