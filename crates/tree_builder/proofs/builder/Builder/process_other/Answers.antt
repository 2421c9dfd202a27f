use Rattle.std.specs.Prelude.{◌<◌}
use Rattle.std.proofs.Common.{◌≡◌, ap, arith, sym, ◌∙◌}
use Rattle.tree_construction.specs.Construction.{enough, process}
use Rattle.tree_construction.specs.Tokens.{Token}
use Rattle.tree_builder.specs.Taking.{after_turn, other_token}
use Rattle.tree_builder.proofs.Processing.{built_is, processes_done, processes_end, processes_next}
use Rattle.tree_builder.proofs.builder.Builder.process_other.Goals as goal

pub returns-in-None : goal.returns-in-None
returns-in-None g c =
    let token : Token = other_token c.args.token.now in
    let p = c.args.self.now.parser in
    let r = c.other_turn.new.self.parser in
    let within : c.loop.counter < enough p = omega (arith, c.turns-end.ensures) in
    built_is c.other_turn.new.self c.args.self.now (process (enough p) token p)
    (processes_done token token token p c.loop.self.parser r c.loop.counter c.loop.fostered within c.loop.invariant.0
    (λ again. ap (λ left. after_turn again left r token) (sym c.in-None.is) ∙ c.in_ok-other_turn.ensures.parser again))
    (c.in_ok-other_turn.ensures.telling ∙ c.loop.invariant.1)

pub loop-preserved : goal.loop-preserved
loop-preserved g c =
    let token : Token = other_token c.args.token.now in
    let p = c.args.self.now.parser in
    let r = c.other_turn.new.self.parser in
    let within : c.loop.counter < enough p = omega (arith, c.turns-end.ensures) in (
      processes_next token token token p c.loop.self.parser r c.loop.counter c.loop.fostered c.in-Some.more within c.loop.invariant.0
          (λ again. ap (λ left. after_turn again left r token) (sym c.in-Some.is) ∙ c.in_ok-other_turn.ensures.parser again),
      c.in_ok-other_turn.ensures.telling ∙ c.loop.invariant.1,
    )

pub returns : goal.returns
returns g c =
    let token : Token = other_token c.args.token.now in
    let p = c.args.self.now.parser in
    let all : c.loop.counter ≡ enough p = omega (arith, c.turns-end.ensures) in
    built_is c.stop_fostering.new.self c.args.self.now (process (enough p) token p)
    (ap (λ b. b.parser) c.stop_fostering.ensures
    ∙ processes_end token token p c.loop.self.parser c.loop.counter c.loop.fostered all c.loop.invariant.0)
    (ap (λ b. b.telling) c.stop_fostering.ensures ∙ c.loop.invariant.1)
