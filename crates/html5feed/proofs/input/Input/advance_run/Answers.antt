use Rattle.std.proofs.Common.{◌≡◌, ◌∙◌, false, ap, sym}
use Rattle.std.specs.Str.{chars}
use Rattle.html5reading.specs.NormalisedText.{line_after}
use Rattle.html5reading.specs.Start.{Input}
use Rattle.html5feed.specs.contracts.input.Input.{the_view}
use Rattle.html5feed.proofs.RunInput.{input_after-run}
use Rattle.html5feed.proofs.input.Input.advance_run.Goals as goal

pub returns : goal.returns
unfolding line_after
returns c =
    let line_break : (the_view c.self.inside).after_carriage_return ≡ false = ap (λ (I : Input). I.after_carriage_return) c.self.view_is ∙ c.requires.past_line_break in
    let start : (the_view c.self.inside).drops_byte_order_mark ≡ false = ap (λ (I : Input). I.drops_byte_order_mark) c.self.view_is ∙ c.requires.past_stream_start in
    record {
      moves =
          rw (← c.self.view_is, c.saturating_add-self-inside.ensures, c.line_feeds.ensures)
          (sym (input_after-run (the_view c.self.inside) (chars c.args.run.now) line_break start c.requires.no_carriage_return c.self.invariant));
    }
