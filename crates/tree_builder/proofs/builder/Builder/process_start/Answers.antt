use Rattle.std.specs.Prelude.{◌<◌}
use Rattle.std.proofs.Common.{◌≡◌, ap, arith, sym, ◌∙◌}
use Rattle.tree_construction.specs.Construction.{enough, process}
use Rattle.tree_construction.specs.Tokens.{Token}
use Rattle.tree_construction.specs.Tokens.Token.{StartTag}
use Rattle.tree_builder.specs.Built.{tag_of}
use Rattle.tree_builder.specs.Taking.{after_turn}
use Rattle.tree_builder.proofs.Processing.{built_is, processes_done, processes_end, processes_next}
use Rattle.tree_builder.proofs.builder.Builder.process_start.Goals as goal

pub returns-in-None-clause-parser : goal.returns-in-None-clause-parser
returns-in-None-clause-parser g c =
    let first : Token = StartTag (tag_of g.T.TagAttributes.said c.args.tag.now) in
    let token : Token = StartTag (tag_of g.T.TagAttributes.said c.loop.tag) in
    let later : Token = StartTag (tag_of g.T.TagAttributes.said c.start_turn.new.tag) in
    let p = c.args.self.now.parser in
    let r = c.start_turn.new.self.parser in
    let within : c.loop.counter < enough p = omega (arith, c.turns-end.ensures) in
    built_is c.start_turn.new.self c.args.self.now (process (enough p) first p)
    (processes_done first token later p c.loop.self.parser r c.loop.counter c.loop.fostered within c.loop.invariant.0
    (λ again. ap (λ left. after_turn again left r later) (sym c.in-None.is) ∙ c.in_ok-start_turn.ensures.parser again))
    (c.in_ok-start_turn.ensures.telling ∙ c.loop.invariant.1.0)

pub loop-preserved : goal.loop-preserved
loop-preserved g c =
    let first : Token = StartTag (tag_of g.T.TagAttributes.said c.args.tag.now) in
    let token : Token = StartTag (tag_of g.T.TagAttributes.said c.loop.tag) in
    let later : Token = StartTag (tag_of g.T.TagAttributes.said c.start_turn.new.tag) in
    let p = c.args.self.now.parser in
    let r = c.start_turn.new.self.parser in
    let within : c.loop.counter < enough p = omega (arith, c.turns-end.ensures) in (
      processes_next first token later p c.loop.self.parser r c.loop.counter c.loop.fostered c.in-Some.more within c.loop.invariant.0
          (λ again. ap (λ left. after_turn again left r later) (sym c.in-Some.is) ∙ c.in_ok-start_turn.ensures.parser again),
      (c.in_ok-start_turn.ensures.telling ∙ c.loop.invariant.1.0, c.in_ok-start_turn.ensures.closing ∙ c.loop.invariant.1.1),
    )

pub returns-clause-parser : goal.returns-clause-parser
returns-clause-parser g c =
    let first : Token = StartTag (tag_of g.T.TagAttributes.said c.args.tag.now) in
    let token : Token = StartTag (tag_of g.T.TagAttributes.said c.loop.tag) in
    let p = c.args.self.now.parser in
    let all : c.loop.counter ≡ enough p = omega (arith, c.turns-end.ensures) in
    built_is c.stop_fostering.new.self c.args.self.now (process (enough p) first p)
    (ap (λ b. b.parser) c.stop_fostering.ensures
    ∙ processes_end first token p c.loop.self.parser c.loop.counter c.loop.fostered all c.loop.invariant.0)
    (ap (λ b. b.telling) c.stop_fostering.ensures ∙ c.loop.invariant.1.0)
