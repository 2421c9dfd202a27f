-- What reading a page makes of a handler.
use Rattle.std.proofs.Common.{◌≡◌, ℕ, List, [], ◌++◌, Option, refl, sym, ◌∙◌, ap, inl, inr}
use Rattle.std.proofs.lemmas.List.{append-nil}
use Rattle.std.specs.Str.{chars}
use Rattle.markup5ever.specs.NamedReferences.{NamedReference}
use Rattle.html5ever_interface.specs.Options.{OptionsOf, default_options}
use Rattle.html5ever_interface.specs.Sink.{Means, Message, stepped}
use Rattle.html5ever_interface.specs.Token.{TagOf, Told}
use Rattle.html5reading.specs.Reading.{all_messages}
use Rattle.html5reading.specs.Start.{start_of}
use Rattle.html5states.specs.Telling.{StopsWithin}
use Rattle.html5ever.specs.Tokenizer.{rules_of}
use Rattle.html5sinks.specs.Tags.{Tagged}
use Rattle.html5sinks.specs.Runs.{Running}
use Rattle.html5stream.specs.declared.error.StreamError.{StreamError}
use Rattle.html5stream.specs.declared.error.StreamError.TheVariants.{Read, NotUtf8, Memory, Sink, TooLong}
use Rattle.html5stream.specs.Streams.{ReadsSource, StopsSource, SourceStops}
use Rattle.html5stream.specs.Pages.{ReadsPage, StopsPage, passage_of, tags_means, tags_start, tags_page, tags_handed, runs_means, runs_start, runs_page, runs_handed}

-- the sink's state stays as it is where it faults, and at the end
pub record IsUnmoved {X S H : Type 0} (means : Means X S H) : Type 0 where
  pub finish : (s : S) → means.finish s ≡ s
  pub faulted : (s : S) (told : Told) (line : ℕ) → means.faulted s told line ≡ s
  pub end_faulted : (s : S) → means.end_faulted s ≡ s

-- such a sink stopped after a prefix of the messages, whatever the error
pub SourceStops-unmoved : {X S H : Type 0} (means : Means X S H) (e : StreamError) (s : S) (M : List Message) (t : S)
    → IsUnmoved means → SourceStops means e s M t → StopsWithin means.step means.faulted s M t
SourceStops-unmoved means Read s M t unmoved stops = stops
SourceStops-unmoved means (NotUtf8 place) s M t unmoved stops = stops
SourceStops-unmoved means Memory s M t unmoved stops = stops
SourceStops-unmoved means Sink s M t unmoved (inl faults) =
    record { before = faults.before; rest = faults.next ++ faults.rest; parts = faults.parts; state = faults.state ∙ unmoved.faulted _ _ _ }
SourceStops-unmoved means Sink s M t unmoved (inr all) =
    record { before = M; rest = []; parts = sym (append-nil M); state = all ∙ unmoved.end_faulted _ }
SourceStops-unmoved means TooLong s M t unmoved stops = stops

module _ {X S T H : Type 0} (means : Means X T H) (handler : T → S) (page : S → List ℕ → List Message) (handed : S → List Message → S) where
  -- a page's messages are those of a reading, and the handler is handed what its sink is sent
  pub record IsPage (opts : OptionsOf) (references : List NamedReference) (from : T) (s : S) : Type 0 where
    pub told : (bytes : List ℕ) → page s bytes ≡ all_messages means (rules_of opts references) (start_of opts) from (chars bytes)
    pub afterwards : (M : List Message) → handed s M ≡ handler (stepped means.step from M)
    pub unmoved : IsUnmoved means

  pub page-read : (opts : OptionsOf) (references : List NamedReference) (from : T) (s : S) (before after : Option (List ℕ)) (t : T)
      → IsPage opts references from s → ReadsSource means opts references from before after t
      → ReadsPage (λ s bytes. handed s (page s bytes)) (passage_of (λ k. k) before after s (handler t))
  page-read opts references from s before after t is reads = record {
    bytes = reads.bytes;
    consumed = reads.given;
    at_end = reads.at_end;
    utf8 = reads.utf8;
    told = ap handler (reads.told ∙ is.unmoved.finish _) ∙ sym (is.afterwards _) ∙ ap (λ M. handed s M) (sym (is.told reads.bytes));
  }

  -- a handler stops where its sink does
  pub page-stopped : (opts : OptionsOf) (references : List NamedReference) (from : T) (s : S) (before after : Option (List ℕ)) (t : T)
      → IsPage opts references from s → (e : StreamError) → StopsSource means e opts references from before after t
      → StopsPage page handed (passage_of (λ k. k) before after s (handler t))
  page-stopped opts references from s before after t is e stops =
      let within = SourceStops-unmoved means e from _ t is.unmoved stops.stopped in
      record {
        text = stops.text;
        rest = stops.rest;
        consumed = stops.given;
        utf8 = stops.utf8;
        told = within.before;
        untold = within.rest;
        parts = is.told stops.text ∙ within.parts;
        state = ap handler within.state ∙ sym (is.afterwards within.before);
      }

-- sinks and options that were made by calls that say what they made
module _ {X S : Type 0} where
  pub tags-are-page : (references : List NamedReference) (options : OptionsOf) (s : S) (state : X → Tagged S) (step : S → TagOf → ℕ → S) (from : Tagged S)
      → options ≡ default_options → from ≡ tags_start s
      → IsPage (tags_means state step) (λ t. t.handler) (tags_page step references) (tags_handed step) options references from s
  unfolding tags_page tags_handed
  tags-are-page references options s state step from chosen begun =
      let unmoved : IsUnmoved (tags_means state step) = record { finish = λ s. refl; faulted = λ s told line. refl; end_faulted = λ s. refl } in
      rw (chosen, begun) record { told = λ bytes. refl; afterwards = λ M. refl; unmoved = unmoved }

  pub runs-are-page : (references : List NamedReference) (options : OptionsOf) (s : S) (state : X → Running S) (step : S → List ℕ → Told → ℕ → S) (from : Running S)
      → options ≡ default_options → from ≡ runs_start s
      → IsPage (runs_means state step) (λ t. t.joined.handler) (runs_page step references) (runs_handed step) options references from s
  unfolding runs_page runs_handed
  runs-are-page references options s state step from chosen begun =
      let unmoved : IsUnmoved (runs_means state step) = record { finish = λ s. refl; faulted = λ s told line. refl; end_faulted = λ s. refl } in
      rw (chosen, begun) record { told = λ bytes. refl; afterwards = λ M. refl; unmoved = unmoved }
