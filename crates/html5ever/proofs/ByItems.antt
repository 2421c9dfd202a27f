-- The sink is sent of a text what its items tell.
use Rattle.std.proofs.Common.{◌≡◌, ℕ, Bool, false, List, ◌++◌, Result, Ok, Err, refl, ap, sym, ◌∙◌, subst}
use Rattle.std.specs.Prelude.{IfOk}
use Rattle.html5ever_interface.specs.Sink.{Means, Message, stepped}
use Rattle.html5ever_interface.specs.Token.{Told, Reply, is_tag}
use Rattle.html5ever_interface.specs.Token.Reply.{KeepOn}
use Rattle.html5reading.specs.Reading.{state_after}
use Rattle.html5ever.specs.Tokenizer.{Tokenizing, ReadsOn, Feeds, Finishes, ReadsItems, FeedsItems, FinishesItems, FinishedByItems, rules_of, state_at_end}
use Rattle.html5ever.proofs.PausesByItems.{takes-by_items}
use Rattle.html5ever.specs.Pauses.{TakesByItems}
use Rattle.html5feed.specs.Feed.{Feed, feed}
use Rattle.html5ever_interface.specs.Options.{OptionsOf}
use Rattle.html5reading.specs.Start.{Rules, start_of}
use Rattle.html5ever_interface.specs.Collected.{Collecting, none_collected, collected_step, collected_finish}
use Rattle.html5ever.specs.Collecting.{Collects, ComposedOf, collected_of, collector_means}
use Rattle.html5grammar.proofs.Soundness.{reading-items, reading-unfinished}
use Rattle.html5grammar.specs.Items.{Unfinished}
use Rattle.std.proofs.lemmas.Result.{IfOk-weaker}
use Rattle.html5grammar.proofs.Completeness.{told-items, finished-items}
use Rattle.markup5ever.specs.NamedReferences.{NamedReference, IsTable}

module _ {X S H : Type 0} (means : Means X S H) where
  pub reads-items : (old new : Tokenizing X) (more : List ℕ) → IsTable old.rules.references → new.rules ≡ old.rules → ReadsOn means old new more → ReadsItems means old new more
  reads-items old new more table same reads = λ K s text clean stands.
      told-items means old.rules K s (text ++ more) (means.state new.sink) table clean
      (subst (λ r. means.state new.sink ≡ state_after means r K s (text ++ more)) same (reads K s text stands).told)

  pub feeds-items : ((s : S) (told : Told) (line : ℕ) → is_tag told ≡ false → means.reply s told line ≡ KeepOn)
      → (old new : Tokenizing X) (queue left : List ℕ) (reply : Reply H) → IsTable old.rules.references → new.rules ≡ old.rules → Feeds means old new queue left reply
      → FeedsItems means old new queue left reply
  feeds-items keeps_on old new queue left reply table same feeds = λ K s text clean stands.
      let fed : Feed H = feed means old.rules K s text queue in
      let after = feeds K s text stands in
      record {
        taken = fed.taken;
        takes =
            subst (λ l. TakesByItems means old.rules K s text queue fed.taken l reply) (sym after.left)
            (subst (λ r. TakesByItems means old.rules K s text queue fed.taken fed.left r) (sym after.answer)
            (takes-by_items means old.rules keeps_on K s text queue table clean));
        told =
            told-items means old.rules K s (text ++ fed.taken) (means.state new.sink) table clean
            (subst (λ r. means.state new.sink ≡ state_after means r K s (text ++ fed.taken)) same after.stands.told);
        stands = after.stands;
      }

  pub finishes-items : (old : Tokenizing X) (t : S) → IsTable old.rules.references → Finishes means old t → FinishesItems means old t
  finishes-items old t table finishes = λ K s text clean stands. finished-items means old.rules K s text t table clean (finishes K s text stands)

  -- where a feed answers
  pub answered-items : {T E : Type 0} → ((s : S) (told : Told) (line : ℕ) → is_tag told ≡ false → means.reply s told line ≡ KeepOn)
      → (result : Result T E) (reply : T → Reply H) (old new : Tokenizing X) (queue left : List ℕ) → IsTable old.rules.references → new.rules ≡ old.rules
      → IfOk result (λ answer. Feeds means old new queue left (reply answer)) → IfOk result (λ answer. FeedsItems means old new queue left (reply answer))
  answered-items keeps_on (Ok answer) reply old new queue left table same feeds = feeds-items keeps_on old new queue left (reply answer) table same feeds
  answered-items keeps_on (Err error) reply old new queue left table same feeds = tt

  -- a whole text
  pub whole-items : (opts : OptionsOf) (references : List NamedReference) (state : S) (text : List ℕ) (t : S) (rules : Rules) → IsTable references → rules ≡ rules_of opts references
      → t ≡ state_at_end means rules (start_of opts) state text → FinishedByItems means opts references state text t
  whole-items opts references state text t rules table same e =
      finished-items means (rules_of opts references) (start_of opts) state text t table refl (subst (λ r. t ≡ state_at_end means r (start_of opts) state text) same e)

-- ---- a collector

pub holds-each : {T E A B : Type 0} (result : Result T E) (f : T → B) (v : B) (expected : A → B) → IfOk result (λ x. f x ≡ v) → ((a : A) → v ≡ expected a)
    → IfOk result (λ x. (a : A) → f x ≡ expected a)
holds-each (Ok x) f v expected holds each = λ a. holds ∙ each a
holds-each (Err e) f v expected holds each = tt

pub collected-items : (opts : OptionsOf) (references : List NamedReference) (foreign : Bool) (text : List ℕ) → IsTable references → (one : ComposedOf opts references foreign text)
    → collected_of opts references foreign text ≡ collected_finish (stepped collected_step (none_collected foreign) (one.tells ++ one.ends))
collected-items opts references foreign text table one =
    ap (λ M. collected_finish (stepped collected_step (none_collected foreign) M))
    (reading-items collector_means (rules_of opts references) (start_of opts) (none_collected foreign) text one.tells one.ends table one.items)

-- a text that is one unfinished item
pub holds-unfinished : {E W : Type 0} (result : Result Collecting E) (opts : OptionsOf) (references : List NamedReference) (foreign : Bool) (text : List ℕ) (IsOne : W → Type 0) (tells ends : W → List Message)
    → IsTable references → IfOk result (λ sink. sink.collected ≡ collected_of opts references foreign text)
    → ((w : W) → IsOne w → Unfinished collector_means (rules_of opts references) (start_of opts) (none_collected foreign) text (tells w) (ends w))
    → IfOk result (λ sink. (w : W) → IsOne w → Collects sink foreign (tells w ++ ends w))
holds-unfinished result opts references foreign text IsOne tells ends table holds one =
    IfOk-weaker result _ _
    (λ (sink : Collecting) is w is_one.
    is
    ∙ ap (λ (M : List Message). collected_finish (stepped collected_step (none_collected foreign) M))
    (reading-unfinished collector_means (rules_of opts references) (start_of opts) (none_collected foreign) text (tells w) (ends w) table (one w is_one)))
    holds
