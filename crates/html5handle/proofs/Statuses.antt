-- What a call did, by the status that it answers.
use Rattle.std.proofs.Common.{◌≡◌, ◌↔◌, ◌⊎◌, ℕ, Bool, true, false, List, ◌++◌, length, Option, None, Some, Result, Ok, Err, String, string_bytes, refl, sym, ap, subst, ◌∙◌, inl, inr, arith, append_assoc}
use Rattle.std.specs.Prelude.{IfErr, IfOk, is_some}
use Rattle.std.proofs.lemmas.Bool.{false≢true}
use Rattle.std.specs.Str.{IsUtf8}
use Rattle.html5handle.proofs.Going.{answered_going, over_is, refused_going, refused_over}
use Rattle.html5handle.specs.Calls.{StartsAs, fed_status, error_status, fits_in, open_status, OpenFails, NewSays, FeedSays, InsertSays, ReplySays, EndDecodedSays, EndSays}
use Rattle.html5handle.specs.declared.opening.OpenError.{OpenError}
use Rattle.html5handle.specs.declared.opening.OpenError.TheVariants as opening
use Rattle.html5handle.specs.Said.{are_named, state_said}
use Rattle.html5handle.specs.Slots.{placed_of, session_of}
use Rattle.html5handle.specs.declared.options.Options.{Options}
use Rattle.html5handle.specs.declared.slot.PageSlot.{PageSlot}
use Rattle.html5placed.specs.PlacedSessions.{PlacedSessionOf}
use Rattle.html5ever_interface.specs.Token.Reply.{KeepOn}
use Rattle.html5ever_interface.specs.declared.states.State.{State}
use Rattle.html5feed.specs.Feed.{reply_in}
use Rattle.html5records.specs.Recording.{Recorded, recorded_means, WritesOn}
use Rattle.html5records.specs.declared.record_sink.PausedAt.{PausedAt}
use Rattle.html5records.specs.declared.record_sink.PausedAt.TheVariants as paused
use Rattle.html5session.specs.Intake.{IntakeOf, IsCompleteBy, TakesRest, gains_front, is_decoding}
use Rattle.html5session.specs.Intake.Piece.{Bytes, TheEnd}
use Rattle.html5session.specs.Intake.TakesRest.{NoRest, Rest}
use Rattle.html5sniffing.specs.PageDecoding.{PageDecoding}
use Rattle.html5session.specs.RecordSessions.{RecordSessionOf, recorded_by}
use Rattle.html5session.specs.Session.{is_over, nothing_open_in, SetsState, AllRead, FeedsPiece, FeedRefused, EndsSession, EndRefused, LosesEnd}
use Rattle.html5session.specs.declared.error.SessionError.{SessionError}
use Rattle.html5session.specs.declared.error.SessionError.TheVariants.{Memory, NotUtf8, Cut, Waiting, ItemOpen, Over}
use Rattle.html5session.proofs.Writing.{on_end, on_end_refused, on_feed, on_refused, writes_on-none}
use Rattle.markup5ever.specs.NamedReferences.{NamedReference}
use Rattle.markup5ever.specs.declared.tokenizer_result.TokenizerResult.{TokenizerResult}
use Rattle.markup5ever.specs.declared.tokenizer_result.TokenizerResult.TheVariants.{Done, Script, EncodingIndicator}

-- ---- what each status says

pub memory_no_over : ◌≡◌ {A = SessionError} Memory Over → ⊥
memory_no_over same = cc

pub not_utf8_no_over : (place : ℕ) → ◌≡◌ {A = SessionError} (NotUtf8 place) Over → ⊥
not_utf8_no_over place same = cc

pub cut_no_over : ◌≡◌ {A = SessionError} Cut Over → ⊥
cut_no_over same = cc

waiting_no_over : ◌≡◌ {A = SessionError} Waiting Over → ⊥
waiting_no_over same = cc

-- one or the other
pub either : {A B C : Type 0} → (A → C) → (B → C) → A ⊎ B → C
either f g (inl a) = f a
either f g (inr b) = g b

-- the status of a feed that was answered says what it left
pub feed_says-answer : {Z : Type 0} (old new : RecordSessionOf) (bytes : List ℕ) (answer : TokenizerResult PausedAt (String Z)) → is_over old ≡ false
    → fits_in old (length bytes) ≡ true → FeedsPiece recorded_means old new (Bytes bytes) (reply_in string_bytes answer)
    → FeedSays old new bytes (fed_status (reply_in string_bytes answer))
feed_says-answer old new bytes Done going room feeds =
    let records = on_feed old new (Bytes bytes) _ going feeds in
    record {
      done = λ _. feeds;
      script = λ e. absurd (omega (arith, e));
      encoding = λ e. absurd (omega (arith, e));
      tag = λ e. absurd (omega (arith, e));
      no_memory = λ e. absurd (omega (arith, e));
      not_utf8 = λ e. absurd (omega (arith, e));
      limit = (λ e. absurd (omega (arith, e)), λ is. absurd (over_is (fits_in old (length bytes)) is.1 room));
      over = (λ e. absurd (omega (arith, e)), λ was. absurd (over_is (is_over old) going was));
      unchanged = either (λ e. absurd (omega (arith, e))) (λ e. absurd (omega (arith, e)));
      records = records;
      only = inl refl;
    }
feed_says-answer old new bytes (Script paused.Script) going room feeds =
    let records = on_feed old new (Bytes bytes) _ going feeds in
    record {
      done = λ e. absurd (omega (arith, e));
      script = λ _. feeds;
      encoding = λ e. absurd (omega (arith, e));
      tag = λ e. absurd (omega (arith, e));
      no_memory = λ e. absurd (omega (arith, e));
      not_utf8 = λ e. absurd (omega (arith, e));
      limit = (λ e. absurd (omega (arith, e)), λ is. absurd (over_is (fits_in old (length bytes)) is.1 room));
      over = (λ e. absurd (omega (arith, e)), λ was. absurd (over_is (is_over old) going was));
      unchanged = either (λ e. absurd (omega (arith, e))) (λ e. absurd (omega (arith, e)));
      records = records;
      only = inr (inl refl);
    }
feed_says-answer old new bytes (Script paused.Tag) going room feeds =
    let records = on_feed old new (Bytes bytes) _ going feeds in
    record {
      done = λ e. absurd (omega (arith, e));
      script = λ e. absurd (omega (arith, e));
      encoding = λ e. absurd (omega (arith, e));
      tag = λ _. feeds;
      no_memory = λ e. absurd (omega (arith, e));
      not_utf8 = λ e. absurd (omega (arith, e));
      limit = (λ e. absurd (omega (arith, e)), λ is. absurd (over_is (fits_in old (length bytes)) is.1 room));
      over = (λ e. absurd (omega (arith, e)), λ was. absurd (over_is (is_over old) going was));
      unchanged = either (λ e. absurd (omega (arith, e))) (λ e. absurd (omega (arith, e)));
      records = records;
      only = inr (inr (inr (inr (inr (inr (inl refl))))));
    }
feed_says-answer old new bytes (EncodingIndicator text) going room feeds =
    let records = on_feed old new (Bytes bytes) _ going feeds in
    record {
      done = λ e. absurd (omega (arith, e));
      script = λ e. absurd (omega (arith, e));
      encoding = λ _. (string_bytes text, feeds);
      tag = λ e. absurd (omega (arith, e));
      no_memory = λ e. absurd (omega (arith, e));
      not_utf8 = λ e. absurd (omega (arith, e));
      limit = (λ e. absurd (omega (arith, e)), λ is. absurd (over_is (fits_in old (length bytes)) is.1 room));
      over = (λ e. absurd (omega (arith, e)), λ was. absurd (over_is (is_over old) going was));
      unchanged = either (λ e. absurd (omega (arith, e))) (λ e. absurd (omega (arith, e)));
      records = records;
      only = inr (inr (inl refl));
    }

-- when nothing more is read
pub feed_says-over : (old new : RecordSessionOf) (bytes : List ℕ) → is_over old ≡ true → new ≡ old → FeedSays old new bytes 7
feed_says-over old new bytes was same =
    let records = subst (λ (s : RecordSessionOf). WritesOn (recorded_by old) (recorded_by s)) (sym same) (writes_on-none (recorded_by old)) in
    record {
      done = λ e. absurd (omega (arith, e));
      script = λ e. absurd (omega (arith, e));
      encoding = λ e. absurd (omega (arith, e));
      tag = λ e. absurd (omega (arith, e));
      no_memory = λ e. absurd (omega (arith, e));
      not_utf8 = λ e. absurd (omega (arith, e));
      limit = (λ e. absurd (omega (arith, e)), λ is. absurd (over_is (is_over old) is.0 was));
      over = (λ _. was, λ _. refl);
      unchanged = λ _. same;
      records = records;
      only = inr (inr (inr (inr (inr (inl refl)))));
    }

-- the status of a feed that was refused says what it left
pub feed_says-error : (old new : RecordSessionOf) (bytes : List ℕ) (error : SessionError) → FeedRefused recorded_means old new (Bytes bytes) error
    → ((error ≡ Over) ↔ (is_over old ≡ true)) → (is_over old ≡ false → fits_in old (length bytes) ≡ true) → FeedSays old new bytes (error_status error)
feed_says-error old new bytes Memory refused over fits =
    let going = refused_going Memory Over (is_over old) over memory_no_over in
    let room = fits going in
    let records = on_refused old new (Bytes bytes) Memory going refused in
    record {
      done = λ e. absurd (omega (arith, e));
      script = λ e. absurd (omega (arith, e));
      encoding = λ e. absurd (omega (arith, e));
      tag = λ e. absurd (omega (arith, e));
      no_memory = λ _. refused;
      not_utf8 = λ e. absurd (omega (arith, e));
      limit = (λ e. absurd (omega (arith, e)), λ is. absurd (over_is (fits_in old (length bytes)) is.1 room));
      over = (λ e. absurd (omega (arith, e)), λ was. absurd (over_is (is_over old) going was));
      unchanged = either (λ e. absurd (omega (arith, e))) (λ e. absurd (omega (arith, e)));
      records = records;
      only = inr (inr (inr (inl refl)));
    }
feed_says-error old new bytes (NotUtf8 place) refused over fits =
    let going = refused_going (NotUtf8 place) Over (is_over old) over (not_utf8_no_over place) in
    let room = fits going in
    let records = on_refused old new (Bytes bytes) (NotUtf8 place) going refused in
    record {
      done = λ e. absurd (omega (arith, e));
      script = λ e. absurd (omega (arith, e));
      encoding = λ e. absurd (omega (arith, e));
      tag = λ e. absurd (omega (arith, e));
      no_memory = λ e. absurd (omega (arith, e));
      not_utf8 = λ _. (place, refused);
      limit = (λ e. absurd (omega (arith, e)), λ is. absurd (over_is (fits_in old (length bytes)) is.1 room));
      over = (λ e. absurd (omega (arith, e)), λ was. absurd (over_is (is_over old) going was));
      unchanged = either (λ e. absurd (omega (arith, e))) (λ e. absurd (omega (arith, e)));
      records = records;
      only = inr (inr (inr (inr (inl refl))));
    }
feed_says-error old new bytes Cut refused over fits = absurd refused
feed_says-error old new bytes Waiting refused over fits = absurd refused
feed_says-error old new bytes ItemOpen refused over fits = absurd refused
feed_says-error old new bytes Over refused over fits = feed_says-over old new bytes refused.over refused.unchanged

-- where the piece would go past the limit
pub feed_says-limit : (old new : RecordSessionOf) (bytes : List ℕ) → is_over old ≡ false → fits_in old (length bytes) ≡ false → new ≡ old → FeedSays old new bytes 14
feed_says-limit old new bytes going full same =
    let records = subst (λ (s : RecordSessionOf). WritesOn (recorded_by old) (recorded_by s)) (sym same) (writes_on-none (recorded_by old)) in
    record {
      done = λ e. absurd (omega (arith, e));
      script = λ e. absurd (omega (arith, e));
      encoding = λ e. absurd (omega (arith, e));
      tag = λ e. absurd (omega (arith, e));
      no_memory = λ e. absurd (omega (arith, e));
      not_utf8 = λ e. absurd (omega (arith, e));
      limit = (λ _. (going, full), λ _. refl);
      over = (λ e. absurd (omega (arith, e)), λ was. absurd (over_is (is_over old) going was));
      unchanged = λ _. same;
      records = records;
      only = inr (inr (inr (inr (inr (inr (inr refl))))));
    }

-- the status of an insert

pub insert_says-over : (old : RecordSessionOf) (text : List ℕ) → is_over old ≡ true → InsertSays old old text 7
insert_says-over old text was = record {
  done = λ e. absurd (omega (arith, e));
  refused = λ _. refl;
  limit = (λ e. absurd (omega (arith, e)), λ is. absurd (over_is (is_over old) is.0 was));
  not_utf8 = (λ e. absurd (omega (arith, e)), λ is. absurd (over_is (is_over old) is.0 was));
  over = (λ _. was, λ _. refl);
  only = inr (inr (inr (inl refl)));
}

pub insert_says-limit : (old : RecordSessionOf) (text : List ℕ) → is_over old ≡ false → fits_in old (length text) ≡ false → InsertSays old old text 14
insert_says-limit old text going full = record {
  done = λ e. absurd (omega (arith, e));
  refused = λ _. refl;
  limit = (λ _. (going, full), λ _. refl);
  not_utf8 = (λ e. absurd (omega (arith, e)), λ is. absurd (over_is (fits_in old (length text)) full is.1));
  over = (λ e. absurd (omega (arith, e)), λ was. absurd (over_is (is_over old) going was));
  only = inr (inr (inr (inr refl)));
}

pub insert_says-not_utf8 : (old : RecordSessionOf) (text : List ℕ) → is_over old ≡ false → fits_in old (length text) ≡ true → ¬ (IsUtf8 text)
    → InsertSays old old text 4
insert_says-not_utf8 old text going room no_text = record {
  done = λ e. absurd (omega (arith, e));
  refused = λ _. refl;
  limit = (λ e. absurd (omega (arith, e)), λ is. absurd (over_is (fits_in old (length text)) is.1 room));
  not_utf8 = (λ _. (going, room, no_text), λ _. refl);
  over = (λ e. absurd (omega (arith, e)), λ was. absurd (over_is (is_over old) going was));
  only = inr (inr (inl refl));
}

pub insert_says-memory : (old : RecordSessionOf) (text : List ℕ) → is_over old ≡ false → fits_in old (length text) ≡ true → IsUtf8 text
    → InsertSays old old text 3
insert_says-memory old text going room utf8 = record {
  done = λ e. absurd (omega (arith, e));
  refused = λ _. refl;
  limit = (λ e. absurd (omega (arith, e)), λ is. absurd (over_is (fits_in old (length text)) is.1 room));
  not_utf8 = (λ e. absurd (omega (arith, e)), λ is. absurd (is.2 utf8));
  over = (λ e. absurd (omega (arith, e)), λ was. absurd (over_is (is_over old) going was));
  only = inr (inl refl);
}

pub insert_says-done : (old new : RecordSessionOf) (text : List ℕ) → is_over old ≡ false → fits_in old (length text) ≡ true → IsUtf8 text
    → new ≡ record old { intake = gains_front old.intake text } → InsertSays old new text 0
insert_says-done old new text going room utf8 is = record {
  done = λ _. (utf8, is);
  refused = λ other. absurd (other refl);
  limit = (λ e. absurd (omega (arith, e)), λ is. absurd (over_is (fits_in old (length text)) is.1 room));
  not_utf8 = (λ e. absurd (omega (arith, e)), λ is. absurd (is.2 utf8));
  over = (λ e. absurd (omega (arith, e)), λ was. absurd (over_is (is_over old) going was));
  only = inl refl;
}

-- the status of a reply

pub reply_says-over : (old : RecordSessionOf) (number : ℕ) → is_over old ≡ true → ReplySays old old number 7
reply_says-over old number was = record {
  done = λ e. absurd (omega (arith, e));
  refused = λ _. refl;
  over = (λ _. was, λ _. refl);
  bad_option = (λ e. absurd (omega (arith, e)), λ is. absurd (over_is (is_over old) is.0 was));
  item_open = (λ e. absurd (omega (arith, e)), λ is. absurd (over_is (is_over old) is.0 was));
  only = inr (inl refl);
}

pub reply_says-bad_option : (old : RecordSessionOf) (number : ℕ) → is_over old ≡ false → None ≡ state_said number → ReplySays old old number 9
reply_says-bad_option old number going none =
    let unnamed : is_some (state_said number) ≡ false = ap is_some (sym none) in
    record {
      done = λ e. absurd (omega (arith, e));
      refused = λ _. refl;
      over = (λ e. absurd (omega (arith, e)), λ was. absurd (over_is (is_over old) going was));
      bad_option = (λ _. (going, unnamed), λ _. refl);
      item_open = (λ e. absurd (omega (arith, e)), λ is. absurd (over_is (is_some (state_said number)) unnamed is.1));
      only = inr (inr (inl refl));
    }

pub reply_says-item_open : (old : RecordSessionOf) (number : ℕ) (state : State) → is_over old ≡ false → Some state ≡ state_said number → nothing_open_in old ≡ false
    → ReplySays old old number 13
reply_says-item_open old number state going named item_open =
    let is_named : is_some (state_said number) ≡ true = ap is_some (sym named) in
    record {
      done = λ e. absurd (omega (arith, e));
      refused = λ _. refl;
      over = (λ e. absurd (omega (arith, e)), λ was. absurd (over_is (is_over old) going was));
      bad_option = (λ e. absurd (omega (arith, e)), λ is. absurd (over_is (is_some (state_said number)) is.1 is_named));
      item_open = (λ _. (going, is_named, item_open), λ _. refl);
      only = inr (inr (inr refl));
    }

pub reply_says-done : (old new : RecordSessionOf) (number : ℕ) (state : State) → is_over old ≡ false → Some state ≡ state_said number → nothing_open_in old ≡ true
    → SetsState recorded_means old new state → ReplySays old new number 0
reply_says-done old new number state going named nothing_open sets =
    let is_named : is_some (state_said number) ≡ true = ap is_some (sym named) in
    record {
      done = λ _. (state, sym named, sets);
      refused = λ other. absurd (other refl);
      over = (λ e. absurd (omega (arith, e)), λ was. absurd (over_is (is_over old) going was));
      bad_option = (λ e. absurd (omega (arith, e)), λ is. absurd (over_is (is_some (state_said number)) is.1 is_named));
      item_open = (λ e. absurd (omega (arith, e)), λ is. absurd (over_is (nothing_open_in old) is.2 nothing_open));
      only = inl refl;
    }

-- the status of an end that was answered, or refused

pub end_says-done : (old new : RecordSessionOf) → is_over old ≡ false → EndsSession recorded_means old new → EndSays old new 0
end_says-done old new going ends =
    let records = on_end old new going ends in
    record {
      done = λ _. ends;
      no_memory = λ e. absurd (omega (arith, e));
      waiting = (λ e. absurd (omega (arith, e)), λ is. absurd (is.1 ends.read.read));
      not_utf8 = (λ e. absurd (omega (arith, e)), λ is. absurd (over_is old.intake.fault ends.read.no_fault is.2));
      place = λ e. absurd (omega (arith, e));
      cut = (λ e. absurd (omega (arith, e)), λ is. absurd (is.3 ends.read.whole));
      over = (λ e. absurd (omega (arith, e)), λ was. absurd (over_is (is_over old) going was));
      unchanged = either (λ e. absurd (omega (arith, e))) (either (λ e. absurd (omega (arith, e))) (λ e. absurd (omega (arith, e))));
      records = records;
      only = inl refl;
    }

pub end_says-over : (old new : RecordSessionOf) → is_over old ≡ true → new ≡ old → EndSays old new 7
end_says-over old new was same =
    let records = subst (λ (s : RecordSessionOf). WritesOn (recorded_by old) (recorded_by s)) (sym same) (writes_on-none (recorded_by old)) in
    record {
      done = λ e. absurd (omega (arith, e));
      no_memory = λ e. absurd (omega (arith, e));
      waiting = (λ e. absurd (omega (arith, e)), λ is. absurd (over_is (is_over old) is.0 was));
      not_utf8 = (λ e. absurd (omega (arith, e)), λ is. absurd (over_is (is_over old) is.0 was));
      place = λ e. absurd (omega (arith, e));
      cut = (λ e. absurd (omega (arith, e)), λ is. absurd (over_is (is_over old) is.0 was));
      over = (λ _. was, λ _. refl);
      unchanged = λ _. same;
      records = records;
      only = inr (inr (inr (inr (inr refl))));
    }

pub end_says-error : (old new : RecordSessionOf) (error : SessionError) → EndRefused recorded_means old new error → ((error ≡ Over) ↔ (is_over old ≡ true))
    → EndSays old new (error_status error)
end_says-error old new Memory refused over =
    let going = refused_going Memory Over (is_over old) over memory_no_over in
    let records = on_end_refused old new Memory going refused in
    record {
      done = λ e. absurd (omega (arith, e));
      no_memory = λ _. refused;
      waiting = (λ e. absurd (omega (arith, e)), λ is. absurd (is.1 refused.read.read));
      not_utf8 = (λ e. absurd (omega (arith, e)), λ is. absurd (over_is old.intake.fault refused.read.no_fault is.2));
      place = λ e. absurd (omega (arith, e));
      cut = (λ e. absurd (omega (arith, e)), λ is. absurd (is.3 refused.read.whole));
      over = (λ e. absurd (omega (arith, e)), λ was. absurd (over_is (is_over old) going was));
      unchanged = either (λ e. absurd (omega (arith, e))) (either (λ e. absurd (omega (arith, e))) (λ e. absurd (omega (arith, e))));
      records = records;
      only = inr (inl refl);
    }
end_says-error old new (NotUtf8 place) refused over =
    let going = refused_going (NotUtf8 place) Over (is_over old) over (not_utf8_no_over place) in
    let records = on_end_refused old new (NotUtf8 place) going refused in
    record {
      done = λ e. absurd (omega (arith, e));
      no_memory = λ e. absurd (omega (arith, e));
      waiting = (λ e. absurd (omega (arith, e)), λ is. absurd (is.1 refused.read));
      not_utf8 = (λ _. (going, refused.read, refused.fault), λ _. refl);
      place = λ _. (place, refused);
      cut = (λ e. absurd (omega (arith, e)), λ is. absurd (over_is old.intake.fault is.2 refused.fault));
      over = (λ e. absurd (omega (arith, e)), λ was. absurd (over_is (is_over old) going was));
      unchanged = either (λ e. absurd (omega (arith, e))) (either (λ e. absurd (omega (arith, e))) (λ e. absurd (omega (arith, e))));
      records = records;
      only = inr (inr (inl refl));
    }
end_says-error old new Cut refused over =
    let going = refused_going Cut Over (is_over old) over cut_no_over in
    let records = on_end_refused old new Cut going refused in
    record {
      done = λ e. absurd (omega (arith, e));
      no_memory = λ e. absurd (omega (arith, e));
      waiting = (λ e. absurd (omega (arith, e)), λ is. absurd (is.1 refused.1.read));
      not_utf8 = (λ e. absurd (omega (arith, e)), λ is. absurd (over_is old.intake.fault refused.1.no_fault is.2));
      place = λ e. absurd (omega (arith, e));
      cut = (λ _. (going, refused.1.read, refused.1.no_fault, refused.1.held), λ _. refl);
      over = (λ e. absurd (omega (arith, e)), λ was. absurd (over_is (is_over old) going was));
      unchanged = λ _. refused.0;
      records = records;
      only = inr (inr (inr (inl refl)));
    }
end_says-error old new Waiting refused over =
    let going = refused_going Waiting Over (is_over old) over waiting_no_over in
    let records = on_end_refused old new Waiting going refused in
    record {
      done = λ e. absurd (omega (arith, e));
      no_memory = λ e. absurd (omega (arith, e));
      waiting = (λ _. (going, refused.1), λ _. refl);
      not_utf8 = (λ e. absurd (omega (arith, e)), λ is. absurd (refused.1 is.1));
      place = λ e. absurd (omega (arith, e));
      cut = (λ e. absurd (omega (arith, e)), λ is. absurd (refused.1 is.1));
      over = (λ e. absurd (omega (arith, e)), λ was. absurd (over_is (is_over old) going was));
      unchanged = λ _. refused.0;
      records = records;
      only = inr (inr (inr (inr (inl refl))));
    }
end_says-error old new ItemOpen refused over = absurd refused
end_says-error old new Over refused over = end_says-over old new refused.over refused.unchanged

-- ---- the end of a page that is decoded

-- the rest of its text was taken: nothing is held then, and no fault is to be said
takes_rest : (references : List NamedReference) (old taken : IntakeOf) (text : List ℕ) → is_decoding old ≡ true → TakesRest references old taken text
    → IsCompleteBy taken.page taken.decoder.held × (taken.fault ≡ false)
takes_rest references old taken text decoding (NoRest utf8 none is) =
    absurd (false≢true (sym (ap (λ (p : Option PageDecoding). is_some p) utf8) ∙ decoding))
takes_rest references old taken text decoding (Rest before page was rest utf8 is) = (
  subst (λ (p : Option PageDecoding). IsCompleteBy p taken.decoder.held) (sym (ap (λ (i : IntakeOf). i.page) is)) refl,
  ap (λ (i : IntakeOf). i.fault) is ∙ was,
)

abbrev ReadsRest : RecordSessionOf → RecordSessionOf → Type 0
ReadsRest old read = FeedsPiece recorded_means old read TheEnd KeepOn

all_read : (old read : RecordSessionOf) → is_decoding old.intake ≡ true → ReadsRest old read → AllRead read.intake
all_read old read decoding feeds = record {
  read = feeds.feeds.all refl;
  no_fault = ap (λ (i : IntakeOf). i.fault) feeds.intake ∙ feeds.whole refl;
  whole = subst (λ (i : IntakeOf). IsCompleteBy i.page i.decoder.held) (sym feeds.intake)
      (takes_rest old.references old.intake feeds.taken feeds.text decoding feeds.takes).0;
}

writes_on-trans : (a b c : Recorded) → WritesOn a b → WritesOn b c → WritesOn a c
writes_on-trans a b c first second = record {
  taken = second.taken ∙ first.taken;
  bytes = record {
    rest = first.bytes.rest ++ second.bytes.rest;
    parts = second.bytes.parts ∙ ap (λ l. l ++ second.bytes.rest) first.bytes.parts ∙ append_assoc a.bytes first.bytes.rest second.bytes.rest;
  };
}

-- a pause
pub end_decoded_says-answer : {Z : Type 0} (old new : RecordSessionOf) (answer : TokenizerResult PausedAt (String Z)) → ¬ (answer ≡ Done) → is_over old ≡ false
    → FeedsPiece recorded_means old new TheEnd (reply_in string_bytes answer) → EndDecodedSays old new (fed_status (reply_in string_bytes answer))
end_decoded_says-answer old new Done pause going feeds = absurd (pause refl)
end_decoded_says-answer old new (Script paused.Script) pause going feeds = record {
  done = λ e. absurd (omega (arith, e));
  script = λ _. feeds;
  encoding = λ e. absurd (omega (arith, e));
  tag = λ e. absurd (omega (arith, e));
  no_memory = λ e. absurd (omega (arith, e));
  over = (λ e. absurd (omega (arith, e)), λ was. absurd (over_is (is_over old) going was));
  unchanged = λ e. absurd (omega (arith, e));
  records = on_feed old new TheEnd _ going feeds;
  only = inr (inl refl);
}
end_decoded_says-answer old new (Script paused.Tag) pause going feeds = record {
  done = λ e. absurd (omega (arith, e));
  script = λ e. absurd (omega (arith, e));
  encoding = λ e. absurd (omega (arith, e));
  tag = λ _. feeds;
  no_memory = λ e. absurd (omega (arith, e));
  over = (λ e. absurd (omega (arith, e)), λ was. absurd (over_is (is_over old) going was));
  unchanged = λ e. absurd (omega (arith, e));
  records = on_feed old new TheEnd _ going feeds;
  only = inr (inr (inr (inr (inr refl))));
}
end_decoded_says-answer old new (EncodingIndicator text) pause going feeds = record {
  done = λ e. absurd (omega (arith, e));
  script = λ e. absurd (omega (arith, e));
  encoding = λ _. (string_bytes text, feeds);
  tag = λ e. absurd (omega (arith, e));
  no_memory = λ e. absurd (omega (arith, e));
  over = (λ e. absurd (omega (arith, e)), λ was. absurd (over_is (is_over old) going was));
  unchanged = λ e. absurd (omega (arith, e));
  records = on_feed old new TheEnd _ going feeds;
  only = inr (inr (inl refl));
}

end_decoded_says-memory : (old new : RecordSessionOf) → is_over old ≡ false → WritesOn (recorded_by old) (recorded_by new)
    → FeedRefused recorded_means old new TheEnd Memory ⊎ ((read : RecordSessionOf) × ReadsRest old read × LosesEnd recorded_means read new)
    → EndDecodedSays old new 3
end_decoded_says-memory old new going records lost = record {
  done = λ e. absurd (omega (arith, e));
  script = λ e. absurd (omega (arith, e));
  encoding = λ e. absurd (omega (arith, e));
  tag = λ e. absurd (omega (arith, e));
  no_memory = λ _. lost;
  over = (λ e. absurd (omega (arith, e)), λ was. absurd (over_is (is_over old) going was));
  unchanged = λ e. absurd (omega (arith, e));
  records = records;
  only = inr (inr (inr (inl refl)));
}

pub end_decoded_says-error : (old new : RecordSessionOf) (error : SessionError) → is_decoding old.intake ≡ true
    → FeedRefused recorded_means old new TheEnd error → ((error ≡ Over) ↔ (is_over old ≡ true)) → EndDecodedSays old new (error_status error)
end_decoded_says-error old new Memory decoding refused over =
    let going = refused_going Memory Over (is_over old) over memory_no_over in
    end_decoded_says-memory old new going (on_refused old new TheEnd Memory going refused) (inl refused)
end_decoded_says-error old new (NotUtf8 place) decoding refused over =
    absurd (false≢true (sym (takes_rest old.references old.intake refused.taken refused.text decoding refused.takes).1 ∙ refused.fault))
end_decoded_says-error old new Cut decoding refused over = absurd refused
end_decoded_says-error old new Waiting decoding refused over = absurd refused
end_decoded_says-error old new ItemOpen decoding refused over = absurd refused
end_decoded_says-error old new Over decoding refused over = record {
  done = λ e. absurd (omega (arith, e));
  script = λ e. absurd (omega (arith, e));
  encoding = λ e. absurd (omega (arith, e));
  tag = λ e. absurd (omega (arith, e));
  no_memory = λ e. absurd (omega (arith, e));
  over = (λ _. refused.over, λ _. refl);
  unchanged = λ _. refused.unchanged;
  records = subst (λ (s : RecordSessionOf). WritesOn (recorded_by old) (recorded_by s)) (sym refused.unchanged) (writes_on-none (recorded_by old));
  only = inr (inr (inr (inr (inl refl))));
}

-- the end after the rest
pub end_decoded_says-end : (old read new : RecordSessionOf) (status : ℕ) → is_decoding old.intake ≡ true → is_over old ≡ false → ReadsRest old read
    → EndSays read new status → EndDecodedSays old new status
end_decoded_says-end old read new status decoding going feeds says = ended says.only where
  rest_records : WritesOn (recorded_by old) (recorded_by new)
  rest_records = writes_on-trans (recorded_by old) (recorded_by read) (recorded_by new) (on_feed old read TheEnd KeepOn going feeds) says.records

  ended : (status ≡ 0) ⊎ (status ≡ 3) ⊎ (status ≡ 4) ⊎ (status ≡ 5) ⊎ (status ≡ 6) ⊎ (status ≡ 7) → EndDecodedSays old new status
  ended (inl is) = subst (EndDecodedSays old new) (sym is) (record {
    done = λ _. (read, feeds, says.done is);
    script = λ e. absurd (omega (arith, e));
    encoding = λ e. absurd (omega (arith, e));
    tag = λ e. absurd (omega (arith, e));
    no_memory = λ e. absurd (omega (arith, e));
    over = (λ e. absurd (omega (arith, e)), λ was. absurd (over_is (is_over old) going was));
    unchanged = λ e. absurd (omega (arith, e));
    records = rest_records;
    only = inl refl;
  })
  ended (inr (inl is)) = subst (EndDecodedSays old new) (sym is) (end_decoded_says-memory old new going rest_records (inr (read, feeds, says.no_memory is)))
  ended (inr (inr (inl is))) = absurd (over_is read.intake.fault (all_read old read decoding feeds).no_fault (says.not_utf8.0 is).2)
  ended (inr (inr (inr (inl is)))) = absurd ((says.cut.0 is).3 (all_read old read decoding feeds).whole)
  ended (inr (inr (inr (inr (inl is))))) = absurd ((says.waiting.0 is).1 (all_read old read decoding feeds).read)
  ended (inr (inr (inr (inr (inr is))))) = absurd (over_is (is_over read) feeds.going_on (says.over.0 is))

-- where that stopped
pub decoded_stops : {Z : Type 0} (result : Result (TokenizerResult PausedAt (String Z)) SessionError) (old new : RecordSessionOf) (status : ℕ)
    → is_decoding old.intake ≡ true → IfOk result (λ answer. status ≡ fed_status (reply_in string_bytes answer)) → IfErr result (λ error. status ≡ error_status error)
    → ((result ≡ Err Over) ↔ (is_over old ≡ true)) → IfOk result (λ answer. FeedsPiece recorded_means old new TheEnd (reply_in string_bytes answer))
    → IfErr result (λ error. FeedRefused recorded_means old new TheEnd error) → ¬ (status ≡ 0) → EndDecodedSays old new status
decoded_stops (Ok answer) old new status decoding ok err over feeds refused other =
    subst (EndDecodedSays old new) (sym ok)
    (end_decoded_says-answer old new answer (λ done. other (ok ∙ ap (λ a. fed_status (reply_in string_bytes a)) done))
    (answered_going (Ok answer) answer Over (is_over old) refl over) feeds)
decoded_stops (Err error) old new status decoding ok err over feeds refused other =
    subst (EndDecodedSays old new) (sym err)
    (end_decoded_says-error old new error decoding refused (refused_over (Err error) error Over (is_over old) refl over))

no_status : (error : SessionError) → error_status error ≡ 0 → ⊥
no_status Memory is = omega (arith, is)
no_status (NotUtf8 place) is = omega (arith, is)
no_status Cut is = omega (arith, is)
no_status Waiting is = omega (arith, is)
no_status ItemOpen is = omega (arith, is)
no_status Over is = omega (arith, is)

-- where it did not
pub decoded_ends : {Z : Type 0} (result : Result (TokenizerResult PausedAt (String Z)) SessionError) (old read new : RecordSessionOf) (status ended : ℕ)
    → is_decoding old.intake ≡ true → IfOk result (λ answer. status ≡ fed_status (reply_in string_bytes answer)) → IfErr result (λ error. status ≡ error_status error)
    → ((result ≡ Err Over) ↔ (is_over old ≡ true)) → IfOk result (λ answer. FeedsPiece recorded_means old read TheEnd (reply_in string_bytes answer))
    → status ≡ 0 → EndSays read new ended → EndDecodedSays old new ended
decoded_ends (Ok Done) old read new status ended decoding ok err over feeds done says =
    end_decoded_says-end old read new ended decoding (answered_going (Ok Done) Done Over (is_over old) refl over) feeds says
decoded_ends (Ok (Script paused.Script)) old read new status ended decoding ok err over feeds done says = absurd (omega (arith, ok, done))
decoded_ends (Ok (Script paused.Tag)) old read new status ended decoding ok err over feeds done says = absurd (omega (arith, ok, done))
decoded_ends (Ok (EncodingIndicator text)) old read new status ended decoding ok err over feeds done says = absurd (omega (arith, ok, done))
decoded_ends (Err error) old read new status ended decoding ok err over feeds done says = absurd (no_status error (sym err ∙ done))

-- the status of `new`

-- what is known where a page was opened
pub record IsOpened (name : List ℕ) (o : Options) : Type 0 where
  pub named : are_named o ≡ true
  pub utf8 : IsUtf8 name

pub opened : (places : Bool) (session : Option RecordSessionOf) (placed : Option PlacedSessionOf) (name : List ℕ) (o : Options)
    → StartsAs places session placed name o → IsOpened name o
opened false None placed name o start = absurd start
opened false (Some s) placed name o start = record { named = start.named; utf8 = start.utf8 }
opened true session None name o start = absurd start
opened true session (Some s) name o start = record { named = start.named; utf8 = start.utf8 }

pub new_says-done : (now : Option PageSlot) (name : List ℕ) (o : Options) → StartsAs o.places (session_of now) (placed_of now) name o → NewSays now name o 0
new_says-done now name o start =
    let is = opened o.places (session_of now) (placed_of now) name o start in
    record {
      done = λ _. start;
      refused = λ other. absurd (other refl);
      bad_option = (λ e. absurd (omega (arith, e)), λ was. absurd (false≢true (sym was ∙ is.named)));
      not_utf8 = (λ e. absurd (omega (arith, e)), λ was. absurd (was.1 is.utf8));
      only = inl refl;
    }

pub new_says-error : (now : Option PageSlot) (name : List ℕ) (o : Options) (error : OpenError) → now ≡ None → OpenFails name o error
    → NewSays now name o (open_status error)
new_says-error now name o opening.Memory closed fails = record {
  done = λ e. absurd (omega (arith, e));
  refused = λ _. closed;
  bad_option = (λ e. absurd (omega (arith, e)), λ is. absurd (false≢true (sym is ∙ fails.0)));
  not_utf8 = (λ e. absurd (omega (arith, e)), λ is. absurd (is.1 fails.1));
  only = inr (inl refl);
}
new_says-error now name o opening.NotUtf8 closed fails = record {
  done = λ e. absurd (omega (arith, e));
  refused = λ _. closed;
  bad_option = (λ e. absurd (omega (arith, e)), λ is. absurd (false≢true (sym is ∙ fails.0)));
  not_utf8 = (λ _. fails, λ _. refl);
  only = inr (inr (inl refl));
}
new_says-error now name o opening.BadOption closed fails = record {
  done = λ e. absurd (omega (arith, e));
  refused = λ _. closed;
  bad_option = (λ _. fails, λ _. refl);
  not_utf8 = (λ e. absurd (omega (arith, e)), λ is. absurd (false≢true (sym fails ∙ is.0)));
  only = inr (inr (inr refl));
}
