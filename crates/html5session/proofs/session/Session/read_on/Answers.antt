-- Each answer composes what was taken of a piece, what was read and how that settled, which the tactic doesn't find.
use Rattle.std.proofs.Common.{◌≡◌, Ok, Err, string_bytes}
use Rattle.html5feed.specs.Feed.{reply_in}
use Rattle.html5session.specs.Session.{FeedsText, tokenizer_of}
use Rattle.html5session.specs.declared.error.SessionError.TheVariants.{Memory}
use Rattle.html5session.proofs.Calls.{answered, done_feeds, done_refused, error_refused, errored, left_by, on_errored, pauses_piece}
use Rattle.markup5ever.specs.declared.tokenizer_result.TokenizerResult.TheVariants.{Done, EncodingIndicator, Script}
use Rattle.html5session.proofs.session.Session.read_on.Goals as goal

pub returns-in-Ok-Done-clause-feeds : goal.returns-in-Ok-Done-clause-feeds
returns-in-Ok-Done-clause-feeds g c =
    let mid = c.args.self in
    let w = c.feed_waiting-session in
    done_feeds g.S.TokenSink.means c.settle.result.1 mid w.result.0 c.settle.result.0 w.ensures.references
    (left_by w.result.1 (Ok c.in-Ok-Done.field-0) mid.intake w.result.0.intake c.in-Ok-Done.is w.ensures.intake)
    (answered w.result.1 c.in-Ok-Done.field-0 Done
    (λ a. FeedsText g.S.TokenSink.means (tokenizer_of mid) (tokenizer_of w.result.0) mid.intake.text w.result.0.intake.text (reply_in string_bytes a))
    c.in-Ok-Done.is c.in-Ok-Done.field-0-is w.ensures.feeds)
    c.settle.ensures.settled c.settle.ensures.done

pub returns-in-Ok-Done-clause-refused : goal.returns-in-Ok-Done-clause-refused
returns-in-Ok-Done-clause-refused g c =
    let mid = c.args.self in
    let w = c.feed_waiting-session in
    done_refused g.S.TokenSink.means c.settle.result.1 mid w.result.0 c.settle.result.0 w.ensures.references
    (left_by w.result.1 (Ok c.in-Ok-Done.field-0) mid.intake w.result.0.intake c.in-Ok-Done.is w.ensures.intake)
    (answered w.result.1 c.in-Ok-Done.field-0 Done
    (λ a. FeedsText g.S.TokenSink.means (tokenizer_of mid) (tokenizer_of w.result.0) mid.intake.text w.result.0.intake.text (reply_in string_bytes a))
    c.in-Ok-Done.is c.in-Ok-Done.field-0-is w.ensures.feeds)
    c.settle.ensures.settled c.settle.ensures.fault

pub returns-in-Ok-Script-clause-feeds : goal.returns-in-Ok-Script-clause-feeds
returns-in-Ok-Script-clause-feeds g c =
    let mid = c.args.self in
    let w = c.feed_waiting-session in λ old piece took.
    pauses_piece g.S.TokenSink.means old mid w.result.0 piece _ took.going_on took.takes took.kept w.ensures.references
    (left_by w.result.1 (Ok c.in-Ok-Script.field-0) mid.intake w.result.0.intake c.in-Ok-Script.is w.ensures.intake)
    (λ is. cc)
    (answered w.result.1 c.in-Ok-Script.field-0 (Script c.in-Ok-Script.handle)
    (λ a. FeedsText g.S.TokenSink.means (tokenizer_of mid) (tokenizer_of w.result.0) mid.intake.text w.result.0.intake.text (reply_in string_bytes a))
    c.in-Ok-Script.is c.in-Ok-Script.field-0-is w.ensures.feeds)

pub returns-in-Ok-EncodingIndicator-clause-feeds : goal.returns-in-Ok-EncodingIndicator-clause-feeds
returns-in-Ok-EncodingIndicator-clause-feeds g c =
    let mid = c.args.self in
    let here = c.in-Ok-EncodingIndicator in
    let w = c.feed_waiting-session in λ old piece took.
    pauses_piece g.S.TokenSink.means old mid w.result.0 piece _ took.going_on took.takes took.kept w.ensures.references
    (left_by w.result.1 (Ok here.field-0) mid.intake w.result.0.intake here.is w.ensures.intake)
    (λ is. cc)
    (answered w.result.1 here.field-0 (EncodingIndicator here.text)
    (λ a. FeedsText g.S.TokenSink.means (tokenizer_of mid) (tokenizer_of w.result.0) mid.intake.text w.result.0.intake.text (reply_in string_bytes a))
    here.is here.field-0-is w.ensures.feeds)

pub returns-in-Err-clause-refused : goal.returns-in-Err-clause-refused
returns-in-Err-clause-refused g c =
    let mid = c.args.self in
    let w = c.feed_waiting-session in λ old piece took.
    error_refused g.S.TokenSink.means c.in-Err.error old mid w.result.0 piece
    (errored w.result.1 c.in-Err.error (λ e. e ≡ Memory) c.in-Err.is w.ensures.memory)
    took.takes took.kept w.ensures.references
    (left_by w.result.1 (Err c.in-Err.error) mid.intake w.result.0.intake c.in-Err.is w.ensures.intake)
    (on_errored w.result.1 c.in-Err.error _ c.in-Err.is w.ensures.stops)
