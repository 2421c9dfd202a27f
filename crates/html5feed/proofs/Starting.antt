-- Where a stream starts.
use Rattle.std.proofs.Common.{◌≡◌, ℕ, List, string_bytes, [], refl, ap, ◌∙◌}
use Rattle.std.specs.Prelude.{Option, None, Some}
use Rattle.std.specs.Option.{unwrap_or}
use Rattle.std.specs.Str.{chars}
use Rattle.std.proofs.lemmas.Str.{chars-nil}
use Rattle.html5ever_interface.specs.declared.states.State.{State}
use Rattle.html5ever_interface.specs.declared.states.State.TheVariants as state
use Rattle.html5reading.specs.Cdata.{open_cdata}
use Rattle.html5reading.specs.Start.{Input, Start, initial_mode}
use Rattle.html5reading.specs.Start.Open.{Between}
use Rattle.html5partial.specs.CurrentTag.{open_of, opened_of, last_name_of}
use Rattle.html5partial.specs.declared.opened.Opened.{Opened}
use Rattle.html5feed.specs.Starting.{CanStart, in_state}

-- the state in which a stream starts

starts-mode : {Z : Type 0} → (chosen : Option State) (at : Opened Z) → string_bytes at.comment ≡ [] → CanStart chosen → open_of (unwrap_or chosen state.Data) at ≡ Between (initial_mode chosen (last_name_of at))
starts-mode None at none can = refl
starts-mode (Some state.Data) at none can = refl
starts-mode (Some state.Plaintext) at none can = refl
starts-mode (Some (state.RawData kind)) at none can = refl
starts-mode (Some state.CdataSection) at none can = ap (λ l. open_cdata (chars l)) none ∙ ap open_cdata chars-nil
starts-mode (Some other) at none can = absurd cc

pub starts-in : {Z : Type 0} → (chosen : Option State) (at : Opened Z) → at.state ≡ unwrap_or chosen state.Data → string_bytes at.comment ≡ [] → CanStart chosen
    → opened_of at ≡ Between (initial_mode chosen (last_name_of at))
starts-in chosen at is none can = ap (λ s. open_of s at) is ∙ starts-mode chosen at none can

pub start-is : (K L : Start) → K.opened ≡ L.opened → K.last_start_tag ≡ L.last_start_tag → K.input.line ≡ L.input.line → K.input.after_carriage_return ≡ L.input.after_carriage_return
    → K.input.drops_byte_order_mark ≡ L.input.drops_byte_order_mark → K ≡ L
start-is K L opened last line carriage_return mark = rw (← opened, ← last, ← line, ← carriage_return, ← mark) refl

-- a stream that goes on in a state
pub goes_on-in : {Z : Type 0} → (K : Start) (at : Opened Z) (input : Input) (chosen : State) → at.state ≡ chosen → string_bytes at.comment ≡ [] → CanStart (Some chosen)
    → last_name_of at ≡ K.last_start_tag → input ≡ K.input
    → record K { opened = opened_of at; last_start_tag = last_name_of at; input = input } ≡ in_state K chosen
goes_on-in K at input chosen is none can last came =
    let opened = starts-in (Some chosen) at is none can ∙ ap (λ (name : List ℕ). Between (initial_mode (Some chosen) name)) last in
    rw (opened, last, came) refl
