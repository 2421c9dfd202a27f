use Rattle.std.proofs.Common.{◌≡◌, [], subst, map}
use Rattle.std.proofs.lemmas.Result.{on_ok_weaker, IfErr-weaker}
use Rattle.html5ever_interface.specs.Options.{options_of}
use Rattle.html5reading.specs.Reading.{all_messages}
use Rattle.html5reading.specs.Start.{start_of}
use Rattle.html5ever.specs.RunSteps.{step_of, run_text}
use Rattle.html5ever.specs.Tokenizer.{EndStops, state_at_end}
use Rattle.html5ever.proofs.ByItems.{whole-items}
use Rattle.html5ever.proofs.StepRuns.{run-takes}
use Rattle.html5ever.specs.Tokenizer.{rules_of}
use Rattle.std.proofs.Common.{refl}
use Rattle.html5ever.proofs.tokenizer.steps.run_steps.Goals as goal

pub returns-clause-finishes : goal.returns-clause-finishes
returns-clause-finishes g c =
    rw c.into_sink.ensures
    (on_ok_weaker c.take_steps-result.result
    (λ finishes. subst (λ b. g.S.TokenSink.means.state c.take_steps-result.new.tokenizer.sink ≡ state_at_end g.S.TokenSink.means b (start_of (options_of c.args.opts)) (g.S.TokenSink.means.state c.args.sink) (run_text g.S.TokenSink.means b (start_of (options_of c.args.opts)) (g.S.TokenSink.means.state c.args.sink) [] [] (map step_of c.args.steps.items)))
    c.new-tokenizer.ensures.rules (finishes (start_of (options_of c.args.opts)) (g.S.TokenSink.means.state c.args.sink) c.new-tokenizer.ensures.stands))
    c.take_steps-result.ensures.finishes)

pub returns-clause-items : goal.returns-clause-items
returns-clause-items g c =
    on_ok_weaker c.take_steps-result.result
    (λ e. record {
      whole = run_text g.S.TokenSink.means (rules_of (options_of c.args.opts) c.args.references.now) (start_of (options_of c.args.opts)) (g.S.TokenSink.means.state c.args.sink) [] [] (map step_of c.args.steps.items);
      takes = run-takes g.S.TokenSink.means (rules_of (options_of c.args.opts) c.args.references.now) g.met.S.TokenSink.keeps_on (start_of (options_of c.args.opts)) (g.S.TokenSink.means.state c.args.sink) [] [] (map step_of c.args.steps.items) c.table_laws.ensures refl;
      finished = whole-items g.S.TokenSink.means (options_of c.args.opts) c.args.references.now (g.S.TokenSink.means.state c.args.sink) _ _ (rules_of (options_of c.args.opts) c.args.references.now) c.table_laws.ensures refl e;
    })
    (returns-clause-finishes g c)

pub returns-clause-stops : goal.returns-clause-stops
returns-clause-stops g c =
    rw c.into_sink.ensures
    (IfErr-weaker c.take_steps-result.result _ _
    (λ e stops. subst (λ b. EndStops g.S.TokenSink.means e (g.S.TokenSink.means.state c.args.sink) (all_messages g.S.TokenSink.means b (start_of (options_of c.args.opts)) (g.S.TokenSink.means.state c.args.sink) (run_text g.S.TokenSink.means b (start_of (options_of c.args.opts)) (g.S.TokenSink.means.state c.args.sink) [] [] (map step_of c.args.steps.items))) (g.S.TokenSink.means.state c.take_steps-result.new.tokenizer.sink))
    c.new-tokenizer.ensures.rules (stops (start_of (options_of c.args.opts)) (g.S.TokenSink.means.state c.args.sink) c.new-tokenizer.ensures.stands))
    c.take_steps-result.ensures.stops)
