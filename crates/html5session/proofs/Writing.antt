-- What a call of a session makes of the records that its sink wrote: more come after them, and none is taken.
use Rattle.std.proofs.Common.{◌≡◌, Bool, false, [], refl, sym, subst}
use Rattle.std.proofs.lemmas.List.{append-nil}
use Rattle.html5ever_interface.specs.Token.{Reply}
use Rattle.html5ever.specs.Tokenizer.{StandsAt}
use Rattle.html5records.specs.declared.record_sink.PausedAt.{PausedAt}
use Rattle.html5records.specs.Recording.{Recorded, recorded_means, WritesOn}
use Rattle.html5records.proofs.Recordings.{writes_on}
use Rattle.html5session.specs.Intake.{Piece}
use Rattle.html5session.specs.RecordSessions.{RecordSessionOf, SetsForeign, after_foreign, recorded_by}
use Rattle.html5session.specs.Session.{EndRefused, EndsSession, FeedRefused, FeedsPiece, is_over, tokenizer_of}
use Rattle.html5session.specs.declared.error.SessionError.{SessionError}
use Rattle.html5session.proofs.Calls.{goes_on, stands_here}
use Rattle.html5session.proofs.Kept as kept

pub writes_on-none : (r : Recorded) → WritesOn r r
writes_on-none r = record { taken = refl; bytes = record { rest = []; parts = sym (append-nil r.bytes) } }

pub on_feed : (old new : RecordSessionOf) (piece : Piece) (reply : Reply PausedAt) → is_over old ≡ false
    → FeedsPiece recorded_means old new piece reply → WritesOn (recorded_by old) (recorded_by new)
on_feed = kept.on_feed recorded_means WritesOn writes_on-none writes_on (λ s M told line. writes_on s M) writes_on writes_on

pub on_refused : (old new : RecordSessionOf) (piece : Piece) (error : SessionError) → is_over old ≡ false
    → FeedRefused recorded_means old new piece error → WritesOn (recorded_by old) (recorded_by new)
on_refused = kept.on_refused recorded_means WritesOn writes_on-none writes_on (λ s M told line. writes_on s M) writes_on writes_on

pub on_end : (old new : RecordSessionOf) → is_over old ≡ false → EndsSession recorded_means old new → WritesOn (recorded_by old) (recorded_by new)
on_end = kept.on_end recorded_means WritesOn writes_on-none writes_on (λ s M told line. writes_on s M) writes_on writes_on

pub on_end_refused : (old new : RecordSessionOf) (error : SessionError) → is_over old ≡ false
    → EndRefused recorded_means old new error → WritesOn (recorded_by old) (recorded_by new)
on_end_refused = kept.on_end_refused recorded_means WritesOn writes_on-none writes_on (λ s M told line. writes_on s M) writes_on writes_on

-- a session with another answer about foreign content
pub sets_foreign : (s t : RecordSessionOf) (foreign : Bool) → t ≡ after_foreign s foreign → SetsForeign s t foreign
sets_foreign s t foreign is = record {
  stands = λ going.
      let goes = goes_on s.intake.lost s.detached.failed s.detached.ended going in
      subst (λ (w : RecordSessionOf). StandsAt recorded_means (tokenizer_of w) s.detached.position (recorded_by w) []) (sym is)
      (stands_here recorded_means (tokenizer_of (after_foreign s foreign)) goes.1 goes.2);
  kept = is;
}
