-- A character after the held text of a reference, or of what may begin a keyword: it is held too, or it
-- decides.
use Rattle.std.proofs.Common.{◌≡◌, ℕ, ◌≤◌, ◌+◌, Bool, true, false, List, [], ◌∷◌, ◌++◌, refl, ap, sym, ◌∙◌, Some, None, Result, Ok, length-append, arith}
use Rattle.std.specs.Prelude.{◌==◌, ◌<◌, ◌^◌, if◌then◌else◌}
use Rattle.std.proofs.lemmas.Bool.{false≢true, eqb-true, and_parts}
use Rattle.html5ever_interface.specs.Sink.{Means, stepped, on_line}
use Rattle.std.proofs.Math.Bool.{and-false}
use Rattle.std.proofs.lemmas.List.{append-nil}
use Rattle.std.specs.Result.{IsErrAnd}
use Rattle.html5ever_interface.specs.Token.{Told, is_tag}
use Rattle.html5ever_interface.specs.Token.Reply.{KeepOn}
use Rattle.html5reading.proofs.InputLemmas.{line_after-none}
use Rattle.html5reading.proofs.NoTags.{no_tags-settled}
use Rattle.html5reading.proofs.ReadingLemmas.{told-one, after-one}
use Rattle.html5reading.proofs.Traces.{brought-step}
use Rattle.html5reading.specs.EndOfInput.{late_at_end_of, open_at_end_of}
use Rattle.html5reading.specs.NormalisedText.{normalised, input_after}
use Rattle.html5reading.specs.Slice.{tokens_of_late}
use Rattle.html5states.proofs.Tellings.{stops_before, tells_stop, tells_after}
use Rattle.html5states.specs.Telling as telling
use Rattle.html5partial.specs.declared.error.TokenizerError.{TokenizerError}
use Rattle.html5feed.specs.Feed.{first_pause}
use Rattle.html5feed.proofs.Pauses.{first_pause-append, first_pause-no_tags, no_tag_messages}
use Rattle.html5reading.specs.Machine.{step_at, brought_at, reference_step, messages_here, opened_here, last_here}
use Rattle.html5reading.specs.Characters.{number_sign, semicolon, is_bad_character}
use Rattle.html5reading.specs.Reading.{Brought, messages_so_far, start_after}
use Rattle.html5reading.specs.Reading.Here.{Tells}
use Rattle.html5reading.specs.Reference.{in_value, reference, is_undecided, ends_number, has_digits, late_tokens, opened_in, opened_after}
use Rattle.html5reading.specs.Start.{Stand, Start, Open, Rules, is_undecided_open, held_len}
use Rattle.html5reading.specs.Start.Open.{Between, LessThan, LessThanSolidus, InTag, InRaw, InDeclaration, InComment, InBogusComment, InInstruction, InDoctype, InDoctypeKeyword, InCdata, InReference}
use Rattle.html5reading.specs.Start.Stand.{InText, InAttribute}
use Rattle.html5partial.specs.CharRef.{stand_of, with_reference}
use Rattle.html5partial.specs.Steps.{Leads}
use Rattle.html5partial.specs.declared.error.TokenizerError.TheVariants.{Memory, Sink, Failed}
use Rattle.std.proofs.lemmas.Result.{err_from_is_err_and}
use Rattle.html5feed.specs.Undecided.{ReadsUndecided}
use Rattle.html5partial.specs.Undecided.{BelongsTo, Decides}

pub answer-is : {E : Type 0} (b d : Bool) → ◌≡◌ {A = Result Bool E} (Ok b) (Ok d) → b ≡ d
answer-is b d e = cc

opened_in-decided : (stand : Stand) (characters : List ℕ) → is_undecided_open (opened_in stand characters) ≡ false
opened_in-decided (InText mode) characters = refl
opened_in-decided (InAttribute kind tag) characters = refl

-- the semicolon of a number is no bad character
ends-good : (held : List ℕ) (c : ℕ) → ends_number held c ≡ true → is_bad_character c ≡ false
unfolding ends_number is_bad_character
ends-good [] c ends = absurd (false≢true ends)
ends-good (d ∷ held) c ends =
    let last = and_parts (has_digits held) (c == semicolon) (and_parts (d == number_sign) _ ends).1 in
    rw (eqb-true c semicolon last.1) refl

module _ (rules : Rules) (foreign is_in : Bool) (held : List ℕ) (opened : Open) (c : ℕ) (inside : is_in ≡ true) where
  abbrev stand : Stand
  stand = stand_of opened

  abbrev afterwards : Open
  afterwards = opened_after stand (reference rules (in_value stand) held (Some c)) held

  if-record : (test : Bool) → ◌≡◌ {A = Brought Open}
      (if test then record { settled = late_tokens stand (reference rules (in_value stand) held (Some c)) held; here = Tells [] afterwards }
      else record { settled = late_tokens stand (reference rules (in_value stand) held (Some c)) held; here = step_at rules.exact afterwards c })
      (record {
        settled = late_tokens stand (reference rules (in_value stand) held (Some c)) held;
        here = if test then Tells [] afterwards else step_at rules.exact afterwards c;
      })
  if-record true = refl
  if-record false = refl

  pub brought-held : is_undecided rules.references (held ++ c ∷ []) ≡ true
      → brought_at rules foreign (with_reference is_in held opened) c ≡ record { settled = []; here = Tells [] (InReference stand (held ++ c ∷ [])) }
  unfolding with_reference brought_at reference_step
  brought-held h = rw (inside, h) refl

  pub brought-decided : is_undecided rules.references (held ++ c ∷ []) ≡ false
      → brought_at rules foreign (with_reference is_in held opened) c
      ≡ record {
        settled = late_tokens stand (reference rules (in_value stand) held (Some c)) held;
        here = if ends_number held c then Tells [] afterwards else step_at rules.exact afterwards c;
      }
  unfolding with_reference brought_at reference_step
  brought-decided h = rw (inside, h) (if-record (ends_number held c))

  -- the character is held too
  pub belongs-held : is_undecided rules.references (held ++ c ∷ []) ≡ true → is_bad_character c ≡ false
      → BelongsTo rules foreign (with_reference is_in held opened) c (with_reference is_in (held ++ c ∷ []) opened)
  unfolding with_reference
  belongs-held h good = record {
    here = ap (λ (b : Brought Open). b.here) (brought-held h) ∙ rw inside refl;
    good = good;
  }

  -- the character decides, and is the semicolon of a number or is read on
  pub belongs-end : (later : Open) → is_undecided rules.references (held ++ c ∷ []) ≡ false → ends_number held c ≡ true → later ≡ afterwards
      → BelongsTo rules foreign (with_reference is_in held opened) c later
  belongs-end later h ends is = record {
    here = ap (λ (b : Brought Open). b.here) (brought-decided h) ∙ rw (ends, is) refl;
    good = ends-good held c ends;
  }

  pub decides : (later : Open) → is_undecided rules.references (held ++ c ∷ []) ≡ false → ends_number held c ≡ false → later ≡ afterwards
      → Decides rules foreign (with_reference is_in held opened) c later
  decides later h ends is = record {
    here = ap (λ (b : Brought Open). b.here) (brought-decided h) ∙ rw (ends, is) refl;
    decided = ap is_undecided_open is ∙ opened_in-decided stand _;
  }

  -- how much is held
  pub held_len-held : held_len (with_reference is_in (held ++ c ∷ []) opened) ≤ held_len (with_reference is_in held opened) + 1
  unfolding with_reference
  held_len-held = rw inside (omega (arith, length-append held (c ∷ [])))

-- the held text stays, whatever is open beside it
pub held_len-same : (is_in : Bool) (held : List ℕ) (opened later : Open) → is_in ≡ true
    → held_len (with_reference is_in held later) ≤ held_len (with_reference is_in held opened) + 1
unfolding with_reference
held_len-same is_in held opened later inside = rw inside (omega arith)

-- the end of input

-- when nothing is undecided it decides nothing
pub end-none : (rules : Rules) (opened : Open) → is_undecided_open opened ≡ false → (late_at_end_of rules opened ≡ []) × (open_at_end_of rules opened ≡ opened)
unfolding late_at_end_of open_at_end_of
end-none rules (Between mode) none = (refl, refl)
end-none rules LessThan none = (refl, refl)
end-none rules LessThanSolidus none = (refl, refl)
end-none rules (InTag place tag) none = (refl, refl)
end-none rules (InRaw place name) none = (refl, refl)
end-none rules (InDeclaration held) none = absurd (false≢true (sym none))
end-none rules (InComment text) none = (refl, refl)
end-none rules (InBogusComment text) none = (refl, refl)
end-none rules (InInstruction content) none = (refl, refl)
end-none rules (InDoctype place doctype) none = (refl, refl)
end-none rules (InDoctypeKeyword held doctype) none = absurd (false≢true (sym none))
end-none rules (InCdata text) none = (refl, refl)
end-none rules (InReference place held) none = absurd (false≢true (sym none))

pub late-reference : (rules : Rules) (is_in : Bool) (held : List ℕ) (opened : Open) → is_in ≡ true
    → late_at_end_of rules (with_reference is_in held opened) ≡ late_tokens (stand_of opened) (reference rules (in_value (stand_of opened)) held None) held
unfolding with_reference late_at_end_of
late-reference rules is_in held opened inside = rw inside refl

pub end-reference : (rules : Rules) (is_in : Bool) (held : List ℕ) (opened : Open) → is_in ≡ true
    → open_at_end_of rules (with_reference is_in held opened) ≡ opened_after (stand_of opened) (reference rules (in_value (stand_of opened)) held None) held
unfolding with_reference open_at_end_of
end-reference rules is_in held opened inside = rw inside refl

-- when nothing is undecided, a character decides nothing

module _ {X S H : Type 0} (means : Means X S H) (count : X → ℕ) (rules : Rules) (line c : ℕ) (x : X) (K : Start) where
  pub reads-plain : is_undecided_open K.opened ≡ false → ReadsUndecided means count rules line c (Ok false) x x K K
  unfolding stepped
  reads-plain none =
      let brought = brought-step rules (means.foreign (means.state x)) K.opened c none in
      record {
        tells = rw brought refl;
        taken = λ same. absurd (false≢true (answer-is false true same));
        decided = λ same. record { here = rw brought refl; decided = none };
        last = refl;
        input = refl;
        held = omega arith;
        refusal = tt;
        faults = omega arith;
      }

-- one character of the stream, for which d is read

module _ {X S H : Type 0} (means : Means X S H) (rules : Rules) (K : Start) (s : S) (c d : ℕ)
    (one : normalised K.input (c ∷ []) ≡ d ∷ []) (fits : K.input.line < 2 ^ 64) where
  abbrev line : ℕ
  line = (input_after K.input (c ∷ [])).line

  abbrev settled : List Told
  settled = tokens_of_late (brought_at rules (means.foreign s) K.opened d).settled

  told-parts : messages_so_far means rules K s (c ∷ [])
      ≡ on_line K.input.line settled ++ messages_here means.step means.reply rules line d (brought_at rules (means.foreign s) K.opened d).here
  told-parts = told-one means.step means.reply means.foreign rules K s c d one ∙ rw (line_after-none K.input fits) refl

  after-parts : (start_after means rules K s (c ∷ [])).opened
      ≡ opened_here means.step means.reply rules (stepped means.step s (on_line K.input.line settled)) line K.last_start_tag d (brought_at rules (means.foreign s) K.opened d).here
  after-parts = ap (λ (P : Start). P.opened) (after-one means.step means.reply means.foreign rules K s c d one) ∙ rw (line_after-none K.input fits) refl

  last-parts : (start_after means rules K s (c ∷ [])).last_start_tag ≡ last_here K.last_start_tag (brought_at rules (means.foreign s) K.opened d).here
  last-parts = ap (λ (P : Start). P.last_start_tag) (after-one means.step means.reply means.foreign rules K s c d one)

  pub last-belongs : (later : Open) → BelongsTo rules (means.foreign s) K.opened d later → (start_after means rules K s (c ∷ [])).last_start_tag ≡ K.last_start_tag
  unfolding last_here
  last-belongs later b = last-parts ∙ rw b.here refl

  pub last-decides : (later : Open) → Decides rules (means.foreign s) K.opened d later
      → (start_after means rules K s (c ∷ [])).last_start_tag ≡ last_here K.last_start_tag (step_at rules.exact later d)
  last-decides later b = last-parts ∙ rw b.here refl

  -- it belongs to what is undecided
  pub told-belongs : (later : Open) → BelongsTo rules (means.foreign s) K.opened d later → messages_so_far means rules K s (c ∷ []) ≡ on_line K.input.line settled
  unfolding messages_here
  told-belongs later b = told-parts ∙ rw (b.here, b.good, and-false rules.exact) (append-nil (on_line K.input.line settled))

  pub after-belongs : (later : Open) → BelongsTo rules (means.foreign s) K.opened d later → (start_after means rules K s (c ∷ [])).opened ≡ later
  unfolding opened_here
  after-belongs later b = after-parts ∙ rw b.here refl

  -- it decides, and is then read
  pub told-decides : (later : Open) → Decides rules (means.foreign s) K.opened d later
      → messages_so_far means rules K s (c ∷ []) ≡ on_line K.input.line settled ++ messages_here means.step means.reply rules line d (step_at rules.exact later d)
  told-decides later b = told-parts ∙ rw b.here refl

  pub after-decides : (later : Open) → Decides rules (means.foreign s) K.opened d later
      → (start_after means rules K s (c ∷ [])).opened ≡ opened_here means.step means.reply rules (stepped means.step s (on_line K.input.line settled)) line K.last_start_tag d (step_at rules.exact later d)
  after-decides later b = after-parts ∙ rw b.here refl

  module _ (keeps_on : (s : S) (told : Told) (line : ℕ) → is_tag told ≡ false → means.reply s told line ≡ KeepOn) where
    -- nothing that is decided late pauses
    pub quiet : first_pause means s (on_line K.input.line settled) ≡ KeepOn
    quiet = first_pause-no_tags means keeps_on s _ (no_tag_messages K.input.line settled (no_tags-settled rules (means.foreign s) K.opened d))

    pub pause-belongs : (later : Open) → BelongsTo rules (means.foreign s) K.opened d later → KeepOn ≡ first_pause means s (messages_so_far means rules K s (c ∷ []))
    pause-belongs later b = sym (ap (first_pause means s) (told-belongs later b) ∙ quiet)

    pub pause-decides : (later : Open) → Decides rules (means.foreign s) K.opened d later
        → first_pause means (stepped means.step s (on_line K.input.line settled)) (messages_here means.step means.reply rules line d (step_at rules.exact later d))
        ≡ first_pause means s (messages_so_far means rules K s (c ∷ []))
    pause-decides later b =
        sym (ap (first_pause means s) (told-decides later b)
        ∙ first_pause-append means s (on_line K.input.line settled) _
        ∙ rw quiet refl)

  -- a refusal within what is decided late
  pub tells-late : {T : Type 0} (r : Result T TokenizerError) (e : TokenizerError) (t : S)
      → IsErrAnd r (λ x. x ≡ e) → telling.IsRefusal e → telling.Stops means.step means.faulted e s (on_line K.input.line settled) t
      → telling.Tells means.step means.faulted r s (messages_so_far means rules K s (c ∷ [])) t
  tells-late r e t h refusal stop =
      rw told-parts (tells_stop means.step means.faulted r e s t _ h (stops_before means.step means.faulted e s t (on_line K.input.line settled) _ refusal stop))

  pub leads-late : {T : Type 0} (r : Result T TokenizerError) (e : TokenizerError) (later : Open)
      → IsErrAnd r (λ x. x ≡ e) → telling.IsRefusal e → Leads r later (start_after means rules K s (c ∷ [])).opened
  leads-late r Memory later h refusal = let p = err_from_is_err_and r h in rw (p.1, p.2) tt
  leads-late r Sink later h refusal = let p = err_from_is_err_and r h in rw (p.1, p.2) tt
  leads-late r Failed later h refusal = absurd refusal

  pub tells-decides : {T : Type 0} (r : Result T TokenizerError) (t u : S) (later : Open) → Decides rules (means.foreign s) K.opened d later
      → t ≡ stepped means.step s (on_line K.input.line settled)
      → telling.Tells means.step means.faulted r t (messages_here means.step means.reply rules line d (step_at rules.exact later d)) u
      → telling.Tells means.step means.faulted r s (messages_so_far means rules K s (c ∷ [])) u
  tells-decides r t u later b told_late tells =
      rw (told-decides later b) (tells_after means.step means.faulted r s t u (on_line K.input.line settled) _ told_late tells)
