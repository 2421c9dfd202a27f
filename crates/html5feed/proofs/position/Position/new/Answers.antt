use Rattle.std.proofs.Common.{◌∙◌, ap}
use Rattle.html5reading.specs.Start.{initial_mode}
use Rattle.html5reading.specs.Start.Open.{Between}
use Rattle.html5feed.proofs.Starting.{starts-in, start-is}
use Rattle.html5feed.proofs.position.Position.new.Goals as goal

pub returns : goal.returns
returns g c =
    let opened = c.standing.ensures.opened ∙ starts-in c.args.opts.initial_state _ c.unwrap_or.ensures c.new-2.ensures.bytes c.requires in
    record {
      start = start-is _ _
          (opened ∙ ap (λ name. Between (initial_mode c.args.opts.initial_state name)) c.name_or_empty.ensures)
          (c.standing.ensures.last ∙ c.name_or_empty.ensures)
          (rw c.standing.ensures.input c.new-4.ensures.line) (rw c.standing.ensures.input c.new-4.ensures.no_carriage_return) (rw c.standing.ensures.input c.new-4.ensures.byte_order_mark);
    }
