-- What a call of the cleaner did, by the status that it answers.
use Rattle.std.proofs.Common.{◌≡◌, ◌↔◌, ℕ, Bool, true, false, List, length, Option, None, Some, refl, sym, ap, ◌∙◌, subst, inl, inr, arith}
use Rattle.std.specs.Prelude.{◌≢◌, is_some}
use Rattle.std.proofs.lemmas.Bool.{false≢true}
use Rattle.html5handle.proofs.Going.{over_is, refused_going}
use Rattle.html5handle.specs.CleanerCalls.{CleanerEndSays, CleanerFeedSays, IsCleanerStart, NewCleanerSays, PolicyFails, fault_place, fault_status, is_rule_fault}
use Rattle.html5handle.specs.PolicyCalls.{rule_status}
use Rattle.html5handle.specs.Slots.{cleaner_of}
use Rattle.html5handle.specs.declared.cleaner_opening.PolicyFault.{PolicyFault}
use Rattle.html5handle.specs.declared.cleaner_opening.PolicyFault.TheVariants as fault
use Rattle.html5handle.specs.declared.slot.PageSlot.{PageSlot}
use Rattle.html5handle.specs.declared.slot.PageSlot.TheVariants.{Tokenizer, Cleaner, Placed, Policy, Lent}
use Rattle.html5cleaning.specs.Cleaning.{CleaningOf, EndRefused, EndWantsMemory, EndsPage, FeedRefused, FeedsPiece, fits_in}
use Rattle.html5handle.proofs.Statuses.{cut_no_over, either, memory_no_over, not_utf8_no_over}
use Rattle.html5handle.specs.Calls.{error_status}
use Rattle.html5policy.specs.declared.error.RuleError.{RuleError}
use Rattle.html5policy.specs.declared.error.RuleError.TheVariants as wrong
use Rattle.html5session.specs.Intake.{EndsWithinBy, IsCompleteBy, is_decoding}
use Rattle.html5session.specs.Session.{AllRead, is_over}
use Rattle.html5sniffing.specs.PageDecoding.{PageDecoding}
use Rattle.html5session.specs.declared.error.SessionError.{SessionError}
use Rattle.html5session.specs.declared.error.SessionError.TheVariants.{Memory, NotUtf8, Cut, Waiting, ItemOpen, Over}

-- the status of a feed that was answered, or refused

pub feed_says-done : (old new : CleaningOf) (bytes : List ℕ) → FeedsPiece old new bytes → is_over old ≡ false → fits_in old (length bytes) ≡ true
    → CleanerFeedSays old new bytes 0
feed_says-done old new bytes feeds going room = record {
  done = λ _. feeds;
  no_memory = λ e. absurd (omega (arith, e));
  not_utf8 = λ e. absurd (omega (arith, e));
  limit = (λ e. absurd (omega (arith, e)), λ is. absurd (over_is (fits_in old (length bytes)) is.1 room));
  over = (λ e. absurd (omega (arith, e)), λ was. absurd (over_is (is_over old) going was));
  unchanged = either (λ e. absurd (omega (arith, e))) (λ e. absurd (omega (arith, e)));
  only = inl refl;
}

pub feed_says-limit : (old new : CleaningOf) (bytes : List ℕ) → is_over old ≡ false → fits_in old (length bytes) ≡ false → new ≡ old
    → CleanerFeedSays old new bytes 14
feed_says-limit old new bytes going full same = record {
  done = λ e. absurd (omega (arith, e));
  no_memory = λ e. absurd (omega (arith, e));
  not_utf8 = λ e. absurd (omega (arith, e));
  limit = (λ _. (going, full), λ _. refl);
  over = (λ e. absurd (omega (arith, e)), λ was. absurd (over_is (is_over old) going was));
  unchanged = λ _. same;
  only = inr (inr (inr (inr refl)));
}

pub feed_says-error : (old new : CleaningOf) (bytes : List ℕ) (error : SessionError) → FeedRefused old new bytes error
    → ((error ≡ Over) ↔ (is_over old ≡ true)) → (is_over old ≡ false → fits_in old (length bytes) ≡ true)
    → CleanerFeedSays old new bytes (error_status error)
feed_says-error old new bytes Memory refused over fits =
    let going = refused_going Memory Over (is_over old) over memory_no_over in
    let room = fits going in
    record {
      done = λ e. absurd (omega (arith, e));
      no_memory = λ _. refused;
      not_utf8 = λ e. absurd (omega (arith, e));
      limit = (λ e. absurd (omega (arith, e)), λ is. absurd (over_is (fits_in old (length bytes)) is.1 room));
      over = (λ e. absurd (omega (arith, e)), λ was. absurd (over_is (is_over old) going was));
      unchanged = either (λ e. absurd (omega (arith, e))) (λ e. absurd (omega (arith, e)));
      only = inr (inl refl);
    }
feed_says-error old new bytes (NotUtf8 place) refused over fits =
    let going = refused_going (NotUtf8 place) Over (is_over old) over (not_utf8_no_over place) in
    let room = fits going in
    record {
      done = λ e. absurd (omega (arith, e));
      no_memory = λ e. absurd (omega (arith, e));
      not_utf8 = λ _. (place, refused);
      limit = (λ e. absurd (omega (arith, e)), λ is. absurd (over_is (fits_in old (length bytes)) is.1 room));
      over = (λ e. absurd (omega (arith, e)), λ was. absurd (over_is (is_over old) going was));
      unchanged = either (λ e. absurd (omega (arith, e))) (λ e. absurd (omega (arith, e)));
      only = inr (inr (inl refl));
    }
feed_says-error old new bytes Cut refused over fits = absurd refused
feed_says-error old new bytes Waiting refused over fits = absurd refused
feed_says-error old new bytes ItemOpen refused over fits = absurd refused
feed_says-error old new bytes Over refused over fits = record {
  done = λ e. absurd (omega (arith, e));
  no_memory = λ e. absurd (omega (arith, e));
  not_utf8 = λ e. absurd (omega (arith, e));
  limit = (λ e. absurd (omega (arith, e)), λ is. absurd (over_is (is_over old) is.0 (over.0 refl)));
  over = (λ _. over.0 refl, λ _. refl);
  unchanged = λ _. refused.unchanged;
  only = inr (inr (inr (inl refl)));
}

-- the page ends within a character

not_within : (page : Option PageDecoding) (held : List ℕ) → (is_some page ≡ false → IsCompleteBy page held) → ¬ (EndsWithinBy page held)
not_within None held whole within = within (whole refl)
not_within (Some d) held whole within = within

within : (page : Option PageDecoding) (held : List ℕ) → is_some page ≡ false → ¬ (IsCompleteBy page held) → EndsWithinBy page held
within None held strict cut = cut
within (Some d) held strict cut = absurd (false≢true (sym strict))

lost_whole : (old new : CleaningOf) → EndWantsMemory (is_decoding old.intake) old new → is_decoding old.intake ≡ false → AllRead old.intake
lost_whole old new lost strict = (subst (λ (b : Bool). EndWantsMemory b old new) strict lost).loses.read

-- the status of an end that was answered, or refused

pub end_says-done : (old new : CleaningOf) → EndsPage old new → is_over old ≡ false → CleanerEndSays old new 0
end_says-done old new ends going = record {
  done = λ _. ends;
  no_memory = λ e. absurd (omega (arith, e));
  cut = (λ e. absurd (omega (arith, e)), λ is. absurd (not_within old.intake.page old.intake.decoder.held (λ strict. (ends.read strict).whole) is.1));
  over = (λ e. absurd (omega (arith, e)), λ was. absurd (over_is (is_over old) going was));
  unchanged = either (λ e. absurd (omega (arith, e))) (λ e. absurd (omega (arith, e)));
  only = inl refl;
}

pub end_says-error : (old new : CleaningOf) (error : SessionError) → EndRefused old new error
    → ((error ≡ Over) ↔ (is_over old ≡ true)) → CleanerEndSays old new (error_status error)
end_says-error old new Memory refused over =
    let going = refused_going Memory Over (is_over old) over memory_no_over in
    record {
      done = λ e. absurd (omega (arith, e));
      no_memory = λ _. refused;
      cut = (λ e. absurd (omega (arith, e)), λ is. absurd (not_within old.intake.page old.intake.decoder.held (λ strict. (lost_whole old new refused strict).whole) is.1));
      over = (λ e. absurd (omega (arith, e)), λ was. absurd (over_is (is_over old) going was));
      unchanged = either (λ e. absurd (omega (arith, e))) (λ e. absurd (omega (arith, e)));
      only = inr (inl refl);
    }
end_says-error old new (NotUtf8 place) refused over = absurd refused
end_says-error old new Cut refused over =
    let going = refused_going Cut Over (is_over old) over cut_no_over in
    record {
      done = λ e. absurd (omega (arith, e));
      no_memory = λ e. absurd (omega (arith, e));
      cut = (λ _. (going, within old.intake.page old.intake.decoder.held refused.2 refused.1.held), λ _. refl);
      over = (λ e. absurd (omega (arith, e)), λ was. absurd (over_is (is_over old) going was));
      unchanged = λ _. refused.0;
      only = inr (inr (inl refl));
    }
end_says-error old new Waiting refused over = absurd refused
end_says-error old new ItemOpen refused over = absurd refused
end_says-error old new Over refused over = record {
  done = λ e. absurd (omega (arith, e));
  no_memory = λ e. absurd (omega (arith, e));
  cut = (λ e. absurd (omega (arith, e)), λ is. absurd (over_is (is_over old) is.0 (over.0 refl)));
  over = (λ _. over.0 refl, λ _. refl);
  unchanged = λ _. refused.unchanged;
  only = inr (inr (inr refl));
}

-- the status of `cleaner_new`

abbrev is_fault : RuleError → Type 0
is_fault error = is_rule_fault (rule_status error) ≡ true

rule-fault_of : (error : RuleError) → error ≢ wrong.Memory → is_fault error
rule-fault_of wrong.UnknownRule other = refl
rule-fault_of wrong.NoName other = refl
rule-fault_of wrong.WordTooMany other = refl
rule-fault_of wrong.ElementName other = refl
rule-fault_of wrong.AttributeName other = refl
rule-fault_of wrong.HidesContent other = refl
rule-fault_of wrong.ActsOnPage other = refl
rule-fault_of wrong.AllowedAndHidden other = refl
rule-fault_of wrong.NeverKept other = refl
rule-fault_of wrong.SchemeName other = refl
rule-fault_of wrong.RunsAddress other = refl
rule-fault_of wrong.NoPlace other = refl
rule-fault_of wrong.Depth other = refl
rule-fault_of wrong.RelWord other = refl
rule-fault_of wrong.Memory other = absurd (other refl)

rule-fault : (error : RuleError) (status : ℕ) → rule_status error ≡ status → error ≢ wrong.Memory → is_rule_fault status ≡ true
rule-fault error status is other = ap is_rule_fault (sym is) ∙ rule-fault_of error other

rule-other : (status other : ℕ) → is_rule_fault status ≡ true → is_rule_fault other ≡ false → status ≡ other → ⊥
rule-other status other is none same = false≢true (sym none ∙ ap is_rule_fault (sym same) ∙ is)

pub new_says-done : (now : Option PageSlot) (rules : List ℕ) → IsCleanerStart (cleaner_of now) rules → NewCleanerSays now rules 0 0
new_says-done None rules start = absurd start
new_says-done (Some (Tokenizer s)) rules start = absurd start
new_says-done (Some Lent) rules start = absurd start
new_says-done (Some (Placed s)) rules start = absurd start
new_says-done (Some (Policy p)) rules start = absurd start
new_says-done (Some (Cleaner s)) rules start = record {
  done = λ _. start;
  refused = λ other. absurd (other refl);
  bad_rule = λ e. absurd (false≢true e);
  policy_not_utf8 = (λ e. absurd (omega (arith, e)), λ no_text. absurd (no_text start.utf8));
  at_byte = λ e. absurd (omega (arith, e));
  nowhere = λ _ _. refl;
  only = inl refl;
}

pub new_says-error : (now : Option PageSlot) (rules : List ℕ) (error : PolicyFault) → now ≡ None → PolicyFails rules error
    → NewCleanerSays now rules (fault_place error) (fault_status error)
new_says-error now rules fault.Memory closed fails = record {
  done = λ e. absurd (omega (arith, e));
  refused = λ _. closed;
  bad_rule = λ e. absurd (false≢true e);
  policy_not_utf8 = (λ e. absurd (omega (arith, e)), λ no_text. absurd (no_text fails));
  at_byte = λ e. absurd (omega (arith, e));
  nowhere = λ _ _. refl;
  only = inr (inl refl);
}
new_says-error now rules (fault.BadRule line status) closed fails =
    let is = rule-fault fails.1.error.fault status fails.1.cause fails.1.no_memory in
    record {
      done = λ e. absurd (rule-other status 0 is refl e);
      refused = λ _. closed;
      bad_rule = λ _. fails.1;
      policy_not_utf8 = (λ e. absurd (rule-other status 11 is refl e), λ no_text. absurd (no_text fails.0));
      at_byte = λ e. absurd (rule-other status 11 is refl e);
      nowhere = λ none _. absurd (false≢true (sym none ∙ is));
      only = inr (inr (inr is));
    }
new_says-error now rules (fault.NotUtf8 place) closed fails = record {
  done = λ e. absurd (omega (arith, e));
  refused = λ _. closed;
  bad_rule = λ e. absurd (false≢true e);
  policy_not_utf8 = (λ _. fails.0, λ _. refl);
  at_byte = λ _. fails.1;
  nowhere = λ _ other. absurd (other refl);
  only = inr (inr (inl refl));
}
