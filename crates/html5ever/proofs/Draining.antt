-- Feeding again and again: what was taken so far, and what that gives when the queue is empty or a feed is refused.
use Rattle.std.proofs.Common.{◌≡◌, ℕ, Bool, false, List, [], ◌++◌, refl, ap, sym, ◌∙◌, subst, arith}
use Rattle.std.proofs.lemmas.List.{append-nil, append_assoc, append_cancel_right}
use Rattle.html5ever_interface.specs.Sink.{Means, Message, stepped}
use Rattle.html5ever_interface.specs.Token.{Reply}
use Rattle.html5reading.proofs.ReadingLemmas.{told-append, after-append}
use Rattle.html5reading.specs.Reading.{state_after, messages_so_far, start_after}
use Rattle.html5reading.specs.Start.{Start, Rules, held_len}
use Rattle.markup5ever.specs.BufferQueue.{TextQueue}
use Rattle.html5feed.specs.Feed.{Feed, told_beyond, feed, IsEndOf, IsLinear}
use Rattle.html5states.specs.Telling.{Stops}
use Rattle.html5ever.specs.Tokenizer.{Tokenizing, TakesFront, StandsAt, ReadsOn, Feeds, StopsReading, StopsFeeding}
use Rattle.html5partial.specs.declared.error.TokenizerError.{TokenizerError}
use Rattle.html5partial.specs.declared.error.TokenizerError.TheVariants.{Memory, Sink, Failed}
use Rattle.html5feed.proofs.Pauses.{told_beyond-after, state_beyond-append, feed-parts}
use Rattle.html5feed.proofs.QueueReading.{no_error}
use Rattle.html5states.proofs.Tellings.{stops_after, stops_before}
use Rattle.std.proofs.Common.{Result, Ok, Err, true, ◌↔◌}

module _ {X S H : Type 0} (means : Means X S H) (rules : Rules) where
  -- what two texts tell beyond another
  pub told_beyond-append : (K : Start) (s : S) (X A B : List ℕ)
      → told_beyond means rules K s X (A ++ B) ≡ told_beyond means rules K s X A ++ told_beyond means rules K s (X ++ A) B
  told_beyond-append K s X A B =
      told_beyond-after means rules K s X (A ++ B)
      ∙ told-append means.step means.reply means.foreign rules (start_after means rules K s X) (state_after means rules K s X) A B
      ∙ ap (λ M. M ++ messages_so_far means rules (start_after means rules (start_after means rules K s X) (state_after means rules K s X) A) (state_after means rules (start_after means rules K s X) (state_after means rules K s X) A) B) (sym (told_beyond-after means rules K s X A))
      ∙ ap (λ M. told_beyond means rules K s X A ++ M)
      (ap (λ P. messages_so_far means rules P (state_after means rules (start_after means rules K s X) (state_after means rules K s X) A) B) (sym (after-append means.step means.reply means.foreign rules K s X A))
      ∙ ap (λ v. messages_so_far means rules (start_after means rules K s (X ++ A)) v B) (sym (state_beyond-append means rules K s X A))
      ∙ sym (told_beyond-after means rules K s (X ++ A) B))

  -- what is sent of two texts is what is sent of the first, and what the second tells beyond it
  pub told-beyond : (K : Start) (s : S) (X A : List ℕ)
      → messages_so_far means rules K s (X ++ A) ≡ messages_so_far means rules K s X ++ told_beyond means rules K s X A
  told-beyond K s X A =
      told-append means.step means.reply means.foreign rules K s X A ∙ ap (λ M. messages_so_far means rules K s X ++ M) (sym (told_beyond-after means rules K s X A))

  -- the state after more text
  pub state-beyond : (K : Start) (s : S) (X A : List ℕ)
      → state_after means rules K s (X ++ A) ≡ stepped means.step (state_after means rules K s X) (told_beyond means rules K s X A)
  state-beyond K s X A =
      state_beyond-append means rules K s X A
      ∙ ap (stepped means.step (state_after means rules K s X)) (sym (told_beyond-after means rules K s X A))

module _ {X S H : Type 0} (means : Means X S H) where
  -- the tokenizer read on over a front of the queue's text
  pub record HasDrained (first now : Tokenizing X) (old queue : TextQueue) : Type 0 where
    pub front : List ℕ
    pub parts : old.text ≡ front ++ queue.text
    pub reads : ReadsOn means first now front
    pub rules : now.rules ≡ first.rules
    pub going_on : now.ended ≡ false
    pub failed : now.failed ≡ first.failed
    pub linear : IsLinear (held_len first.position.opened) old (held_len now.position.opened) queue
    pub handed_in : queue.handed_in ≡ old.handed_in

  -- at the first feed nothing was taken yet
  pub HasDrained-none : (first : Tokenizing X) (old : TextQueue) → first.ended ≡ false → HasDrained first first old old
  HasDrained-none first old going_on = record {
    front = [];
    parts = refl;
    reads = λ K s text stands. rw (append-nil text) stands;
    rules = refl;
    going_on = going_on;
    failed = refl;
    linear = omega arith;
    handed_in = refl;
  }

  -- what a feed leaves is what its definition leaves, so it took what its definition takes
  pub taken-is : (rules : Rules) (K : Start) (s : S) (text front left queue : List ℕ) → queue ≡ front ++ left → left ≡ (feed means rules K s text queue).left
      → (feed means rules K s text queue).taken ≡ front
  taken-is rules K s text front left queue parts leaves =
      append_cancel_right (feed means rules K s text queue).taken front left
      (ap (λ l. (feed means rules K s text queue).taken ++ l) leaves ∙ feed-parts means rules K s text queue ∙ parts)

  -- what the feeds so far and one more did to the queue
  pub HasDrained-takes : (first now next : Tokenizing X) (old mid new : TextQueue) → HasDrained first now old mid → TakesFront now next mid new
      → TakesFront first next old new
  HasDrained-takes first now next old mid new drained takes = record {
    end_of_queue = record {
      front = drained.front ++ takes.end_of_queue.front;
      parts =
          drained.parts ∙ ap (λ l. drained.front ++ l) takes.end_of_queue.parts
          ∙ sym (append_assoc drained.front takes.end_of_queue.front new.text);
    };
    handed_in = takes.handed_in ∙ drained.handed_in;
    linear = omega (arith, takes.linear, drained.linear);
  }

  -- one feed more goes on from where the last one stopped
  pub HasDrained-more : (first now next : Tokenizing X) (old mid new : TextQueue) (reply : Reply H) → HasDrained first now old mid
      → Feeds means now next mid.text new.text reply → TakesFront now next mid new
      → next.rules ≡ now.rules → next.ended ≡ false → next.failed ≡ now.failed
      → HasDrained first next old new
  unfolding HasDrained-takes
  HasDrained-more first now next old mid new reply drained feeds takes rules going_on failed =
      let is_end : IsEndOf new.text mid.text = takes.end_of_queue in
      let all : TakesFront first next old new = HasDrained-takes first now next old mid new drained takes in
      record {
        front = all.end_of_queue.front;
        parts = all.end_of_queue.parts;
        reads = λ K s text stands.
            let fed = feeds K s (text ++ drained.front) (drained.reads K s text stands) in
            subst (λ l. StandsAt means next K s l)
            (ap (λ l. (text ++ drained.front) ++ l) (taken-is now.rules K s (text ++ drained.front) is_end.front new.text mid.text is_end.parts fed.left)
            ∙ append_assoc text drained.front is_end.front)
            fed.stands;
        rules = rules ∙ drained.rules;
        going_on = going_on;
        failed = failed ∙ drained.failed;
        linear = all.linear;
        handed_in = all.handed_in;
      }

  -- the queue is empty, so all was read
  pub HasDrained-all : (first now : Tokenizing X) (old new : TextQueue) → HasDrained first now old new → new.text ≡ [] → ReadsOn means first now old.text
  HasDrained-all first now old new drained none K s text stands =
      subst (λ l. StandsAt means now K s (text ++ l)) (sym (drained.parts ∙ ap (λ l. drained.front ++ l) none ∙ append-nil drained.front)) (drained.reads K s text stands)

  -- a refused feed stops within all that the queue tells
  pub drained-stops : (e : TokenizerError) (s t v : S) (F T L : List Message) → t ≡ stepped means.step s F
      → Stops means.step means.faulted e t T v → Stops means.step means.faulted e s (F ++ (T ++ L)) v
  drained-stops Memory s t v F T L e stop = stops_after means.step means.faulted Memory s t v F (T ++ L) e (stops_before means.step means.faulted Memory t v T L tt stop)
  drained-stops Sink s t v F T L e stop = stops_after means.step means.faulted Sink s t v F (T ++ L) e (stops_before means.step means.faulted Sink t v T L tt stop)
  drained-stops Failed s t v F T L e stop = stop

  -- a refused feed stops within what all the queue would have told
  pub HasDrained-stops : (e : TokenizerError) (first now : Tokenizing X) (old queue : TextQueue) (left : List ℕ) (v : S) → HasDrained first now old queue
      → StopsFeeding means e now queue.text left v → StopsReading means e first old.text v
  HasDrained-stops e first now old queue left v drained stops K s text stands =
      let x : Rules = first.rules in
      let f : Feed H = feed means x K s (text ++ drained.front) queue.text in
      let mid : StandsAt means now K s (text ++ drained.front) = drained.reads K s text stands in
      let whole : told_beyond means x K s text old.text
      ≡ told_beyond means x K s text drained.front ++ (told_beyond means x K s (text ++ drained.front) f.taken ++ told_beyond means x K s ((text ++ drained.front) ++ f.taken) f.left) =
      ap (told_beyond means x K s text) (drained.parts ∙ ap (λ l. drained.front ++ l) (sym (feed-parts means x K s (text ++ drained.front) queue.text)))
      ∙ told_beyond-append means x K s text drained.front (f.taken ++ f.left)
      ∙ ap (λ M. told_beyond means x K s text drained.front ++ M) (told_beyond-append means x K s (text ++ drained.front) f.taken f.left) in
      let state_now : means.state now.sink ≡ stepped means.step (means.state first.sink) (told_beyond means x K s text drained.front) =
      mid.told
      ∙ ap (λ b. state_after means b K s (text ++ drained.front)) drained.rules
      ∙ state-beyond means x K s text drained.front
      ∙ ap (λ u. stepped means.step u (told_beyond means x K s text drained.front)) (sym stands.told) in
      rw whole (drained-stops e (means.state first.sink) (means.state now.sink) v _ _ _ state_now
      (subst (λ b. Stops means.step means.faulted e (means.state now.sink) (told_beyond means b K s (text ++ drained.front) (feed means b K s (text ++ drained.front) queue.text).taken) v) drained.rules
      (stops K s (text ++ drained.front) mid).stops))

-- a tokenizer whose call answers Ok had not failed
pub ok-not_failed : {T : Type 0} (r : Result T TokenizerError) (x : T) (failed : Bool) → r ≡ Ok x → ((r ≡ Err Failed) ↔ (failed ≡ true)) → failed ≡ false
ok-not_failed r x true is before = absurd (no_error r x is (before.1 refl))
ok-not_failed r x false is before = refl
