-- What a call of a page that is read with places did, by the status that it answers.
use Rattle.std.proofs.Common.{◌≡◌, ◌↔◌, ℕ, true, false, List, length, refl, inl, inr, arith}
use Rattle.html5handle.proofs.Going.{over_is, refused_going}
use Rattle.html5handle.proofs.Statuses.{cut_no_over, either, memory_no_over}
use Rattle.html5handle.specs.Calls.{error_status}
use Rattle.html5handle.specs.PlacedCalls.{KeepsTable, PlacedEndSays, PlacedFeedSays}
use Rattle.html5placed.specs.PlacedRecords.{WritesOn}
use Rattle.html5placed.specs.PlacedSessions.{EndRefused, Ends, FeedRefused, Feeds, PlacedSessionOf, has_room, is_over, reading_in}
use Rattle.html5placed.proofs.Handed.{writes-none}
use Rattle.html5session.specs.declared.error.SessionError.{SessionError}
use Rattle.html5session.specs.declared.error.SessionError.TheVariants.{Memory, NotUtf8, Cut, Waiting, ItemOpen, Over}

same-table : (s : PlacedSessionOf) → KeepsTable s s
same-table s = record { references = refl; limit = refl }

pub feed_says-done : (old new : PlacedSessionOf) (bytes : List ℕ) → Feeds old new bytes → is_over old ≡ false → has_room old (length bytes) ≡ true
    → is_over new ≡ false → (reading_in new).rules ≡ (reading_in old).rules → KeepsTable old new
    → WritesOn old.records new.records → PlacedFeedSays old new bytes 0
feed_says-done old new bytes feeds going room goes rules keeps on = record {
  done = λ _. feeds;
  going_on = λ _. goes;
  no_memory = λ e. absurd (omega (arith, e));
  not_utf8 = λ e. absurd (omega (arith, e));
  limit = (λ e. absurd (omega (arith, e)), λ is. absurd (over_is (has_room old (length bytes)) is.1 room));
  over = (λ e. absurd (omega (arith, e)), λ was. absurd (over_is (is_over old) going was));
  unchanged = either (λ e. absurd (omega (arith, e))) (λ e. absurd (omega (arith, e)));
  rules = rules;
  keeps = keeps;
  records = on;
  only = inl refl;
}

pub feed_says-limit : (old : PlacedSessionOf) (bytes : List ℕ) → is_over old ≡ false → has_room old (length bytes) ≡ false → PlacedFeedSays old old bytes 14
feed_says-limit old bytes going full = record {
  done = λ e. absurd (omega (arith, e));
  going_on = λ e. absurd (omega (arith, e));
  no_memory = λ e. absurd (omega (arith, e));
  not_utf8 = λ e. absurd (omega (arith, e));
  limit = (λ _. (going, full), λ _. refl);
  over = (λ e. absurd (omega (arith, e)), λ was. absurd (over_is (is_over old) going was));
  unchanged = λ _. refl;
  rules = refl;
  keeps = same-table old;
  records = writes-none old.records;
  only = inr (inr (inr (inr refl)));
}

pub feed_says-over : (old : PlacedSessionOf) (bytes : List ℕ) → is_over old ≡ true → PlacedFeedSays old old bytes 7
feed_says-over old bytes was = record {
  done = λ e. absurd (omega (arith, e));
  going_on = λ e. absurd (omega (arith, e));
  no_memory = λ e. absurd (omega (arith, e));
  not_utf8 = λ e. absurd (omega (arith, e));
  limit = (λ e. absurd (omega (arith, e)), λ is. absurd (over_is (is_over old) is.0 was));
  over = (λ _. was, λ _. refl);
  unchanged = λ _. refl;
  rules = refl;
  keeps = same-table old;
  records = writes-none old.records;
  only = inr (inr (inr (inl refl)));
}

pub feed_says-error : (old new : PlacedSessionOf) (bytes : List ℕ) (error : SessionError) → FeedRefused old new bytes error
    → is_over old ≡ false → has_room old (length bytes) ≡ true → (reading_in new).rules ≡ (reading_in old).rules → KeepsTable old new
    → WritesOn old.records new.records → PlacedFeedSays old new bytes (error_status error)
feed_says-error old new bytes Memory refused going room rules keeps on = record {
  done = λ e. absurd (omega (arith, e));
  going_on = λ e. absurd (omega (arith, e));
  no_memory = λ _. refused;
  not_utf8 = λ e. absurd (omega (arith, e));
  limit = (λ e. absurd (omega (arith, e)), λ is. absurd (over_is (has_room old (length bytes)) is.1 room));
  over = (λ e. absurd (omega (arith, e)), λ was. absurd (over_is (is_over old) going was));
  unchanged = either (λ e. absurd (omega (arith, e))) (λ e. absurd (omega (arith, e)));
  rules = rules;
  keeps = keeps;
  records = on;
  only = inr (inl refl);
}
feed_says-error old new bytes (NotUtf8 place) refused going room rules keeps on = record {
  done = λ e. absurd (omega (arith, e));
  going_on = λ e. absurd (omega (arith, e));
  no_memory = λ e. absurd (omega (arith, e));
  not_utf8 = λ _. (place, refused);
  limit = (λ e. absurd (omega (arith, e)), λ is. absurd (over_is (has_room old (length bytes)) is.1 room));
  over = (λ e. absurd (omega (arith, e)), λ was. absurd (over_is (is_over old) going was));
  unchanged = either (λ e. absurd (omega (arith, e))) (λ e. absurd (omega (arith, e)));
  rules = rules;
  keeps = keeps;
  records = on;
  only = inr (inr (inl refl));
}
feed_says-error old new bytes Cut refused going room rules keeps on = absurd refused
feed_says-error old new bytes Waiting refused going room rules keeps on = absurd refused
feed_says-error old new bytes ItemOpen refused going room rules keeps on = absurd refused
feed_says-error old new bytes Over refused going room rules keeps on = absurd (over_is (is_over old) going refused.over)

pub end_says-done : (old new : PlacedSessionOf) → Ends old new → is_over old ≡ false → is_over new ≡ true → KeepsTable old new
    → WritesOn old.records new.records → PlacedEndSays old new 0
end_says-done old new ends going over keeps on = record {
  done = λ _. ends;
  ended = λ _. over;
  no_memory = λ e. absurd (omega (arith, e));
  cut = λ e. absurd (omega (arith, e));
  over = (λ e. absurd (omega (arith, e)), λ was. absurd (over_is (is_over old) going was));
  unchanged = λ e. absurd (omega (arith, e));
  keeps = keeps;
  records = on;
  only = inl refl;
}

pub end_says-error : (old new : PlacedSessionOf) (error : SessionError) → EndRefused old new error
    → ((error ≡ Over) ↔ (is_over old ≡ true)) → KeepsTable old new → WritesOn old.records new.records → PlacedEndSays old new (error_status error)
end_says-error old new Memory refused over keeps on =
    let going = refused_going Memory Over (is_over old) over memory_no_over in
    record {
      done = λ e. absurd (omega (arith, e));
      ended = λ e. absurd (omega (arith, e));
      no_memory = λ _. refused;
      cut = λ e. absurd (omega (arith, e));
      over = (λ e. absurd (omega (arith, e)), λ was. absurd (over_is (is_over old) going was));
      unchanged = λ e. absurd (omega (arith, e));
      keeps = keeps;
      records = on;
      only = inr (inl refl);
    }
end_says-error old new (NotUtf8 place) refused over keeps on = absurd refused
end_says-error old new Cut refused over keeps on =
    let going = refused_going Cut Over (is_over old) over cut_no_over in
    record {
      done = λ e. absurd (omega (arith, e));
      ended = λ e. absurd (omega (arith, e));
      no_memory = λ e. absurd (omega (arith, e));
      cut = λ _. refused;
      over = (λ e. absurd (omega (arith, e)), λ was. absurd (over_is (is_over old) going was));
      unchanged = λ e. absurd (omega (arith, e));
      keeps = keeps;
      records = on;
      only = inr (inr (inl refl));
    }
end_says-error old new Waiting refused over keeps on = absurd refused
end_says-error old new ItemOpen refused over keeps on = absurd refused
end_says-error old new Over refused over keeps on = record {
  done = λ e. absurd (omega (arith, e));
  ended = λ e. absurd (omega (arith, e));
  no_memory = λ e. absurd (omega (arith, e));
  cut = λ e. absurd (omega (arith, e));
  over = (λ _. over.0 refl, λ _. refl);
  unchanged = λ _. refused.unchanged;
  keeps = keeps;
  records = on;
  only = inr (inr (inr refl));
}
