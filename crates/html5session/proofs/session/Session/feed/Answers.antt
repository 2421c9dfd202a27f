-- What was taken, and what was read after that.
use Rattle.std.proofs.Common.{sym, ◌∙◌}
use Rattle.std.proofs.lemmas.Result.{IfErr-weaker, IfOk-weaker}
use Rattle.html5session.specs.Intake.Piece.{Bytes}
use Rattle.html5session.specs.Session.{TookPiece}
use Rattle.html5session.proofs.Calls.{took_going}
use Rattle.html5session.proofs.session.Session.feed.Goals as goal

pub returns-clause-feeds : goal.returns-clause-feeds
returns-clause-feeds g c =
    let took : TookPiece c.args.self c.take_piece.new.self (Bytes c.args.bytes.now) = record { going_on = sym c.is_over.ensures ∙ c.if-is_over.false; takes = c.in_default.ensures.takes; kept = c.in_default.ensures.kept } in
    IfOk-weaker c.read_on.result.1 _ _ (λ answer feeds. feeds c.args.self _ took) c.read_on.ensures.feeds

pub returns-clause-refused : goal.returns-clause-refused
returns-clause-refused g c =
    let took : TookPiece c.args.self c.take_piece.new.self (Bytes c.args.bytes.now) = record { going_on = sym c.is_over.ensures ∙ c.if-is_over.false; takes = c.in_default.ensures.takes; kept = c.in_default.ensures.kept } in
    IfErr-weaker c.read_on.result.1 _ _ (λ error refused. refused c.args.self _ took) c.read_on.ensures.refused

pub read_on-requires : goal.read_on-requires
read_on-requires g c =
    took_going c.args.self c.take_piece.new.self (Bytes c.args.bytes.now) (record { going_on = sym c.is_over.ensures ∙ c.if-is_over.false; takes = c.in_default.ensures.takes; kept = c.in_default.ensures.kept })
