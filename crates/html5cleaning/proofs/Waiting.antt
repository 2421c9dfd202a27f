-- What a call of a session makes of what its cleaner kept: more comes after it, and none is taken.
use Rattle.std.proofs.Common.{◌≡◌, false, ◌++◌, ap, ◌∙◌, append_assoc}
use Rattle.html5ever_interface.specs.Token.{Reply}
use Rattle.html5sinks.specs.Runs.{Running}
use Rattle.html5session.specs.Intake.{Piece}
use Rattle.html5session.specs.Session as session
use Rattle.html5session.specs.Session.{is_over}
use Rattle.html5session.specs.declared.error.SessionError.{SessionError}
use Rattle.html5session.proofs.Kept as kept
use Rattle.html5cleaner.specs.Buffering.{Buffered, WaitsOn}
use Rattle.html5cleaner.proofs.Buffers.{waits_on, waits_on-none}
use Rattle.html5cleaning.specs.Cleaning.{CleaningOf, buffer_means, buffer_of}

-- what was kept before waits on
abbrev On : Running Buffered → Running Buffered → Type 0
On s t = WaitsOn s.joined.handler t.joined.handler

none : (s : Running Buffered) → On s s
none s = waits_on-none s.joined.handler

pub on_feed : (old new : CleaningOf) (piece : Piece) (reply : Reply (Unit {0})) → is_over old ≡ false
    → session.FeedsPiece buffer_means old new piece reply → WaitsOn (buffer_of old) (buffer_of new)
on_feed = kept.on_feed buffer_means On none waits_on (λ s M told line. waits_on s M) waits_on waits_on

pub on_refused : (old new : CleaningOf) (piece : Piece) (error : SessionError) → is_over old ≡ false
    → session.FeedRefused buffer_means old new piece error → WaitsOn (buffer_of old) (buffer_of new)
on_refused = kept.on_refused buffer_means On none waits_on (λ s M told line. waits_on s M) waits_on waits_on

pub on_end : (old new : CleaningOf) → is_over old ≡ false → session.EndsSession buffer_means old new → WaitsOn (buffer_of old) (buffer_of new)
on_end = kept.on_end buffer_means On none waits_on (λ s M told line. waits_on s M) waits_on waits_on

pub on_end_refused : (old new : CleaningOf) (error : SessionError) → is_over old ≡ false
    → session.EndRefused buffer_means old new error → WaitsOn (buffer_of old) (buffer_of new)
on_end_refused = kept.on_end_refused buffer_means On none waits_on (λ s M told line. waits_on s M) waits_on waits_on

-- from call to call
pub waits_on-trans : (a b c : Buffered) → WaitsOn a b → WaitsOn b c → WaitsOn a c
waits_on-trans a b c first second = record {
  policy = second.policy ∙ first.policy;
  taken = second.taken ∙ first.taken;
  bytes = record {
    rest = first.bytes.rest ++ second.bytes.rest;
    parts = second.bytes.parts ∙ ap (λ l. l ++ second.bytes.rest) first.bytes.parts ∙ append_assoc a.out.bytes first.bytes.rest second.bytes.rest;
  };
}
