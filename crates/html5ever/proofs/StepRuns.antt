-- A run by steps: what was taken so far, and what that gives at the end or if it is refused.
use Rattle.std.proofs.Common.{◌≡◌, ℕ, true, false, List, [], ◌∷◌, ◌++◌, refl, ap, sym, ◌∙◌, subst, length, arith}
use Rattle.std.specs.List.{concat}
use Rattle.std.specs.Prelude.{map}
use Rattle.std.proofs.lemmas.List.{append-nil, append_assoc}
use Rattle.html5ever_interface.specs.Sink.{Means}
use Rattle.html5ever_interface.specs.Token.{Told, Reply, is_tag}
use Rattle.html5ever_interface.specs.Token.Reply.{KeepOn}
use Rattle.html5reading.specs.Reading.{all_messages}
use Rattle.html5reading.specs.Start.{Start, Rules, nothing_open}
use Rattle.html5feed.specs.Feed.{Feed, told_beyond, feed, IsEndOf}
use Rattle.html5ever.specs.RunSteps.StepOf.{AtBack}
use Rattle.html5feed.proofs.Pauses.{feed-parts}
use Rattle.html5ever.specs.RunSteps.{StepOf, waiting_with, run_text, FinishesRun, StopsRun, RunTakes}
use Rattle.html5ever.specs.RunSteps.RunTakes.{Ended, Fed}
use Rattle.html5ever.proofs.PausesByItems.{takes-by_items}
use Rattle.markup5ever.specs.NamedReferences.{IsTable}
use Rattle.html5states.specs.Telling.{Stops}
use Rattle.html5ever.specs.Tokenizer.{Tokenizing, StandsAt, ReadsOn, Feeds, Finishes, StopsFeeding, StopsReading, StopsEnding, EndStops, state_at_end}
use Rattle.html5partial.specs.declared.error.TokenizerError.{TokenizerError}
use Rattle.html5partial.specs.declared.error.TokenizerError.TheVariants.{Memory}
use Rattle.html5ever.proofs.Draining.{taken-is}
use Rattle.html5states.proofs.Tellings.{Memory-at_once}
use Rattle.html5ever.proofs.Wholes.{whole-within_stops, whole-end_stops}

module _ {X S H : Type 0} (means : Means X S H) (rules : Rules) where
  -- the text that was taken is a prefix of what the run takes
  pub record Begins (K : Start) (s : S) (text queue : List ℕ) (steps : List StepOf) : Type 0 where
    pub more : List ℕ
    pub parts : run_text means rules K s text queue steps ≡ text ++ more

  pub run_text-begins : (K : Start) (s : S) (text queue : List ℕ) (steps : List StepOf) → Begins K s text queue steps
  unfolding run_text
  run_text-begins K s text queue [] = record { more = queue; parts = refl }
  run_text-begins K s text queue (t ∷ ts) =
      let f : Feed H = feed means rules K s text (waiting_with t queue) in
      let later = run_text-begins K s (text ++ f.taken) f.left ts in
      record { more = f.taken ++ later.more; parts = later.parts ∙ append_assoc text f.taken later.more }

  pub run_text-more : (K : Start) (s : S) (text queue : List ℕ) (t : StepOf) (ts : List StepOf)
      → run_text means rules K s text queue (t ∷ ts)
      ≡ run_text means rules K s (text ++ (feed means rules K s text (waiting_with t queue)).taken) (feed means rules K s text (waiting_with t queue)).left ts
  unfolding run_text
  run_text-more K s text queue t ts = refl

  pub run_text-last : (K : Start) (s : S) (text queue : List ℕ) → run_text means rules K s text queue [] ≡ text ++ queue
  unfolding run_text
  run_text-last K s text queue = refl

  -- what each feed takes is said by items
  pub run-takes : ((s : S) (told : Told) (line : ℕ) → is_tag told ≡ false → means.reply s told line ≡ KeepOn)
      → (K : Start) (s : S) (text queue : List ℕ) (steps : List StepOf) → IsTable rules.references → nothing_open K.opened ≡ true
      → RunTakes means rules K s text queue steps (run_text means rules K s text queue steps)
  unfolding run_text
  run-takes keeps_on K s text queue [] table clean = Ended text queue
  run-takes keeps_on K s text queue (t ∷ ts) table clean =
      let f : Feed H = feed means rules K s text (waiting_with t queue) in
      Fed text queue f.taken f.left _ f.answer t ts (takes-by_items means rules keeps_on K s text (waiting_with t queue) table clean)
      (run-takes keeps_on K s (text ++ f.taken) f.left ts table clean)

  -- a run that hands in at the back alone takes all that waits and all that it hands in
  pub run_text-pushes : (K : Start) (s : S) (text queue : List ℕ) (pieces : List (List ℕ))
      → run_text means rules K s text queue (map AtBack pieces) ≡ text ++ (queue ++ concat pieces)
  unfolding run_text
  run_text-pushes K s text queue [] = ap (λ l. text ++ l) (sym (append-nil queue))
  run_text-pushes K s text queue (p ∷ ps) =
      let f : Feed H = feed means rules K s text (queue ++ p) in
      run_text-pushes K s (text ++ f.taken) f.left ps
      ∙ append_assoc text f.taken (f.left ++ concat ps)
      ∙ ap (λ l. text ++ l)
      (sym (append_assoc f.taken f.left (concat ps))
      ∙ ap (λ l. l ++ concat ps) (feed-parts means rules K s text (queue ++ p))
      ∙ append_assoc queue p (concat ps))

  pub cutting-text : (K : Start) (s : S) (pieces : List (List ℕ)) → run_text means rules K s [] [] (map AtBack pieces) ≡ concat pieces
  cutting-text K s pieces = run_text-pushes K s [] [] pieces

module _ {X S H : Type 0} (means : Means X S H) where
  -- all steps before the rest were taken
  pub record HasTaken (first now : Tokenizing X) (steps rest : List StepOf) (queue : List ℕ) : Type 0 where
    pub front : List ℕ
    pub reads : ReadsOn means first now front
    pub runs : (K : Start) (s : S) → StandsAt means first K s []
        → run_text means first.rules K s [] [] steps ≡ run_text means first.rules K s front queue rest
    pub rules : now.rules ≡ first.rules
    pub going_on : now.ended ≡ false
    pub not_failed : now.failed ≡ false

  pub HasTaken-none : (first : Tokenizing X) (steps : List StepOf) (queue : List ℕ) → queue ≡ [] → first.ended ≡ false → first.failed ≡ false
      → HasTaken first first steps steps queue
  HasTaken-none first steps queue none going_on not_failed = record {
    front = [];
    reads = λ K s text stands. rw (append-nil text) stands;
    runs = λ K s stands. rw none refl;
    rules = refl;
    going_on = going_on;
    not_failed = not_failed;
  }

  -- one step more was handed in and fed
  pub HasTaken-more : (first now next : Tokenizing X) (steps rest : List StepOf) (t : StepOf) (queue waiting left : List ℕ) (reply : Reply H)
      → HasTaken first now steps (t ∷ rest) queue → waiting ≡ waiting_with t queue
      → Feeds means now next waiting left reply → IsEndOf left waiting
      → next.rules ≡ now.rules → next.ended ≡ false → next.failed ≡ false
      → HasTaken first next steps rest left
  HasTaken-more first now next steps rest t queue waiting left reply taken handed feeds is_end rules going_on not_failed = record {
    front = taken.front ++ is_end.front;
    reads = λ K s text stands.
        let fed = feeds K s (text ++ taken.front) (taken.reads K s text stands) in
        subst (λ l. StandsAt means next K s l)
        (ap (λ l. (text ++ taken.front) ++ l) (taken-is means now.rules K s (text ++ taken.front) is_end.front left waiting is_end.parts fed.left)
        ∙ append_assoc text taken.front is_end.front)
        fed.stands;
    runs = λ K s stands.
        let fed = feeds K s taken.front (taken.reads K s [] stands) in
        let same : feed means now.rules K s taken.front waiting ≡ feed means first.rules K s taken.front (waiting_with t queue) =
        ap (λ b. feed means b K s taken.front waiting) taken.rules ∙ ap (feed means first.rules K s taken.front) handed in
        taken.runs K s stands
        ∙ run_text-more means first.rules K s taken.front queue t rest
        ∙ ap (λ (f : Feed H). run_text means first.rules K s (taken.front ++ f.taken) f.left rest) (sym same)
        ∙ ap (λ l. run_text means first.rules K s (taken.front ++ l) (feed means now.rules K s taken.front waiting).left rest)
        (taken-is means now.rules K s taken.front is_end.front left waiting is_end.parts fed.left)
        ∙ ap (λ l. run_text means first.rules K s (taken.front ++ is_end.front) l rest) (sym fed.left);
    rules = rules ∙ taken.rules;
    going_on = going_on;
    not_failed = not_failed;
  }

  -- all steps were taken, then all that waited, and then the end was sent
  pub HasTaken-finishes : (first now last : Tokenizing X) (steps : List StepOf) (queue : List ℕ) (v : S) → HasTaken first now steps [] queue
      → ReadsOn means now last queue → last.rules ≡ now.rules → Finishes means last v
      → FinishesRun means first steps v
  HasTaken-finishes first now last steps queue v taken reads rules finishes K s stands =
      let text : run_text means first.rules K s [] [] steps ≡ taken.front ++ queue =
      taken.runs K s stands ∙ run_text-last means first.rules K s taken.front queue in
      finishes K s (taken.front ++ queue) (reads K s taken.front (taken.reads K s [] stands))
      ∙ ap (λ b. state_at_end means b K s (taken.front ++ queue)) (rules ∙ taken.rules)
      ∙ ap (λ l. state_at_end means first.rules K s l) (sym text)

  -- the feed after a step takes this much of what the run takes
  fed-parts : (first now : Tokenizing X) (steps rest : List StepOf) (t : StepOf) (queue waiting : List ℕ) → (taken : HasTaken first now steps (t ∷ rest) queue)
      → waiting ≡ waiting_with t queue → (K : Start) (s : S)
      → (more : List ℕ)
      × (run_text means first.rules K s taken.front queue (t ∷ rest)
      ≡ (taken.front ++ (feed means now.rules K s taken.front waiting).taken) ++ more)
  fed-parts first now steps rest t queue waiting taken handed K s =
      let f : Feed H = feed means now.rules K s taken.front waiting in
      let same : f ≡ feed means first.rules K s taken.front (waiting_with t queue) =
      ap (λ b. feed means b K s taken.front waiting) taken.rules ∙ ap (feed means first.rules K s taken.front) handed in
      let begins = run_text-begins means first.rules K s (taken.front ++ f.taken) f.left rest in (
        begins.more,
        run_text-more means first.rules K s taken.front queue t rest
            ∙ ap (λ (g : Feed H). run_text means first.rules K s (taken.front ++ g.taken) g.left rest) (sym same)
            ∙ begins.parts,
      )

  -- refused within what the run takes next
  stops-within : (e : TokenizerError) (first now : Tokenizing X) (steps rest : List StepOf) (queue fed more : List ℕ) (v : S) → (taken : HasTaken first now steps rest queue)
      → (K : Start) (s : S) → StandsAt means first K s []
      → run_text means first.rules K s taken.front queue rest ≡ (taken.front ++ fed) ++ more
      → Stops means.step means.faulted e (means.state now.sink) (told_beyond means now.rules K s taken.front fed) v
      → EndStops means e s (all_messages means first.rules K s (run_text means first.rules K s [] [] steps)) v
  stops-within e first now steps rest queue fed more v taken K s stands parts stops =
      subst (λ l. EndStops means e s (all_messages means first.rules K s l) v) (sym (taken.runs K s stands ∙ parts))
      (subst (λ b. EndStops means e s (all_messages means b K s ((taken.front ++ fed) ++ more)) v) taken.rules
      (whole-within_stops means e now K s v taken.front fed more (taken.reads K s [] stands) stops))

  -- a text that could not be handed in
  pub HasTaken-memory : (first now : Tokenizing X) (steps rest : List StepOf) (queue : List ℕ) → HasTaken first now steps rest queue
      → StopsRun means Memory first steps (means.state now.sink)
  HasTaken-memory first now steps rest queue taken K s stands =
      let begins = run_text-begins means first.rules K s taken.front queue rest in
      stops-within Memory first now steps rest queue [] begins.more (means.state now.sink) taken K s stands
      (begins.parts ∙ ap (λ l. l ++ begins.more) (sym (append-nil taken.front)))
      (Memory-at_once means.step means.faulted (means.state now.sink) _)

  -- a feed that was refused
  pub HasTaken-stops : (e : TokenizerError) (first now : Tokenizing X) (steps rest : List StepOf) (t : StepOf) (queue waiting left : List ℕ) (v : S)
      → HasTaken first now steps (t ∷ rest) queue → waiting ≡ waiting_with t queue
      → StopsFeeding means e now waiting left v
      → StopsRun means e first steps v
  HasTaken-stops e first now steps rest t queue waiting left v taken handed stops K s stands =
      let mid : StandsAt means now K s taken.front = taken.reads K s [] stands in
      let parts = fed-parts first now steps rest t queue waiting taken handed K s in
      stops-within e first now steps (t ∷ rest) queue _ parts.0 v taken K s stands parts.1
      (stops K s taken.front mid).stops

  -- the feeds after the last step, refused
  pub HasTaken-drain_stops : (e : TokenizerError) (first now : Tokenizing X) (steps : List StepOf) (queue : List ℕ) (v : S)
      → HasTaken first now steps [] queue
      → StopsReading means e now queue v
      → StopsRun means e first steps v
  HasTaken-drain_stops e first now steps queue v taken stops K s stands =
      let mid : StandsAt means now K s taken.front = taken.reads K s [] stands in
      stops-within e first now steps [] queue queue [] v taken K s stands
      (run_text-last means first.rules K s taken.front queue ∙ sym (append-nil (taken.front ++ queue)))
      (stops K s taken.front mid)

  -- the end, refused
  pub HasTaken-end_stops : (e : TokenizerError) (first now last : Tokenizing X) (steps : List StepOf) (queue : List ℕ) (v : S)
      → HasTaken first now steps [] queue → ReadsOn means now last queue → last.rules ≡ now.rules
      → StopsEnding means e last v
      → StopsRun means e first steps v
  HasTaken-end_stops e first now last steps queue v taken reads rules stops K s stands =
      let text : run_text means first.rules K s [] [] steps ≡ taken.front ++ queue =
      taken.runs K s stands ∙ run_text-last means first.rules K s taken.front queue in
      let standing : StandsAt means last K s (taken.front ++ queue) = reads K s taken.front (taken.reads K s [] stands) in
      subst (λ l. EndStops means e s (all_messages means first.rules K s l) v) (sym text)
      (subst (λ b. EndStops means e s (all_messages means b K s (taken.front ++ queue)) v) (rules ∙ taken.rules)
      (whole-end_stops means e last K s v (taken.front ++ queue) standing (stops K s (taken.front ++ queue) standing)))

-- a list of no item
pub nothing_left : {X : Type 0} (xs : List X) → length xs ≡ 0 → xs ≡ []
nothing_left [] h = refl
nothing_left (x ∷ xs) h = absurd (omega arith)
