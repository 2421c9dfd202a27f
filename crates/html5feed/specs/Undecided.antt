-- "Character reference state", "Markup declaration open state" and "After DOCTYPE name state": what is read at a character where
-- a reference or a keyword is not decided.
use Rattle.std.specs.Prelude.{◌≡◌, ◌≢◌, ◌≤◌, ℕ, ◌+◌, ◌-◌, Bool, true, false, List, [], ◌∷◌, ◌++◌, None, Some, Result, Ok, IfErr, take, length}
use Rattle.html5ever_interface.specs.Sink.{Means, on_line}
use Rattle.html5reading.specs.Machine.{brought_at}
use Rattle.html5reading.specs.Characters.{number_sign, semicolon}
use Rattle.html5reading.specs.Reference.{first_or}
use Rattle.html5reading.specs.Slice.{tokens_of_late}
use Rattle.html5reading.specs.Start.{Start, Rules, held_len}
use Rattle.html5partial.specs.Undecided.{BelongsTo, Decides}
use Rattle.html5partial.specs.declared.error.TokenizerError.{TokenizerError}
use Rattle.html5states.specs.Telling.{Tells, IsRefusal, faults_of}
use Rattle.html5states.specs.declared.teller.Teller.{Teller}
use Rattle.markup5ever.specs.NamedReferences.{NamedReference}

-- what a teller reads by, with these names
abbrev pub rules_with : {Q Z : Type 0} → Teller Q Z → List NamedReference → Rules
rules_with teller references = record { exact = teller.exact_errors; references = references }

-- "Named character reference state": the held text is not a number, and ends with a semicolon
pub record IsEndedName (held : List ℕ) : Type 0 where
  pub no_number : first_or held None ≢ Some number_sign
  pub ends : held ≡ take (length held - 1) held ++ semicolon ∷ []

module _ {X S H : Type 0} (means : Means X S H) (count : X → ℕ) where
  -- the character c, read where `old` stands and `before` is the sink. The answer is `Ok true` if c belongs to the held text,
  -- and `Ok false` if it decides that, or if nothing is undecided: then c is still to be read.
  pub record ReadsUndecided (rules : Rules) (line c : ℕ) (result : Result Bool TokenizerError) (before after : X) (old new : Start) : Type 0 where
    pub tells : Tells means.step means.faulted result (means.state before)
        (on_line line (tokens_of_late (brought_at rules (means.foreign (means.state before)) old.opened c).settled)) (means.state after)
    pub taken : result ≡ Ok true → BelongsTo rules (means.foreign (means.state before)) old.opened c new.opened
    pub decided : result ≡ Ok false → Decides rules (means.foreign (means.state before)) old.opened c new.opened
    pub last : new.last_start_tag ≡ old.last_start_tag
    pub input : new.input ≡ old.input
    pub held : held_len new.opened ≤ held_len old.opened + 1
    pub refusal : IfErr result IsRefusal
    pub faults : count after ≡ count before + faults_of result
