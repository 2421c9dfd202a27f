-- Each answer turns the bytes of a run into its characters, by a lemma to which it gives the text.
use Rattle.std.proofs.Common.{◌∙◌, ap, inl, rules, sym, take}
use Rattle.std.specs.Prelude.{IsTrue}
use Rattle.std.specs.Str.{chars}
use Rattle.std.proofs.lemmas.Str.{chars-nil}
use Rattle.std.proofs.lemmas.Result.{IfOk-weaker, IfErr-weaker}
use Rattle.html5reading.specs.Start as grammar
use Rattle.html5partial.specs.CurrentTag.{opened_of}
use Rattle.html5partial.proofs.Decided.{with_reference-false}
use Rattle.html5fast_path.proofs.Beginnings.{nothing-read}
use Rattle.html5feed.proofs.HeldTexts.{holds-nothing, holds-no_text, stops-held}
use Rattle.html5feed.proofs.position.Position.read_quietly.Goals as goal

pub returns-then-self-clause-none : goal.returns-then-self-clause-none
returns-then-self-clause-none g c =
    IfOk-weaker c.hold_front.result _ _ (λ bytes holds. λ none.
    holds-nothing _ c.args.self.now.opened c.hold_front.new.self.opened (chars (take bytes c.args.text.now)) (rw none chars-nil) holds) c.hold_front.ensures.holds

pub returns-then-self-clause-refused : goal.returns-then-self-clause-refused
returns-then-self-clause-refused g c =
    let past : IsTrue c.is_past_start.result = search rules in
    let start = c.is_past_start.ensures.past.0 past in
    let inside = holds-no_text c.args.rules.now.references c.self.inside.in_reference c.self.inside.held (opened_of c.self.inside.opened) c.if-self.true in
    IfErr-weaker c.hold_front.result _ _ (λ refused both.
    rw (← c.self.view_is) (stops-held c.args.rules.now _ c.args.text.now refused.bytes start.0 start.1 c.is_past_start.ensures.fits both.0 both.1 inside)) c.hold_front.ensures.refused

pub returns-clause-quiet : goal.returns-clause-quiet
returns-clause-quiet g c =
    let past : IsTrue c.is_past_start.result = search rules in
    let start = c.is_past_start.ensures.past.0 past in
    let before = with_reference-false c.self.inside.in_reference c.self.inside.held (opened_of c.self.inside.opened) c.if-self.false in
    let after = with_reference-false c.self.inside.in_reference c.self.inside.held (opened_of c.read_quietly.new.at) c.if-self.false in
    IfOk-weaker c.read_quietly.result _ _ (λ bytes reads. λ some.
    rw (← c.self.view_is, before, after) (record {
      past_line_break = start.0;
      past_stream_start = start.1;
      fits = c.is_past_start.ensures.fits;
      reads = inl (ap (λ (r : grammar.Rules). r.exact) (sym c.rules.view_is) ∙ c.if-rules.false, reads);
    })) c.read_quietly.ensures.quiet

pub returns-clause-none : goal.returns-clause-none
returns-clause-none g c =
    let before = with_reference-false c.self.inside.in_reference c.self.inside.held (opened_of c.self.inside.opened) c.if-self.false in
    let after = with_reference-false c.self.inside.in_reference c.self.inside.held (opened_of c.read_quietly.new.at) c.if-self.false in
    IfOk-weaker c.read_quietly.result _ _ (λ bytes reads. λ none.
    rw (← c.self.view_is, before, after) (sym (nothing-read (opened_of c.self.inside.opened) (opened_of c.read_quietly.new.at) (rw none at reads)))) c.read_quietly.ensures.quiet

pub returns-clause-refused : goal.returns-clause-refused
returns-clause-refused g c =
    let past : IsTrue c.is_past_start.result = search rules in
    let start = c.is_past_start.ensures.past.0 past in
    let before = with_reference-false c.self.inside.in_reference c.self.inside.held (opened_of c.self.inside.opened) c.if-self.false in
    IfErr-weaker c.read_quietly.result _ _ (λ refused stops.
    rw (← c.self.view_is, before) (record {
      front = stops.front;
      item = stops.item;
      parts = stops.parts;
      is_one = stops.is_one;
      later = stops.later;
      quiet = record {
        past_line_break = start.0;
        past_stream_start = start.1;
        fits = c.is_past_start.ensures.fits;
        reads = inl (ap (λ (r : grammar.Rules). r.exact) (sym c.rules.view_is) ∙ c.if-rules.false, stops.reads);
      };
    })) c.read_quietly.ensures.refused
