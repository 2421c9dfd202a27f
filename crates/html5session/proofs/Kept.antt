-- What stays of a sink's state over the calls of a session: a relation between a state and each that comes after it.
use Rattle.std.proofs.Common.{◌≡◌, ◌⊎◌, ℕ, false, List, [], sym, ap, subst, inl, inr}
use Rattle.html5ever_interface.specs.Sink.{Means, Message, stepped}
use Rattle.html5ever_interface.specs.Token.{Told, Reply}
use Rattle.html5ever_interface.specs.Token.Reply.{KeepOn}
use Rattle.html5ever.specs.Tokenizer.{Tokenizing, EndStops}
use Rattle.html5partial.specs.declared.error.TokenizerError.{TokenizerError}
use Rattle.html5partial.specs.declared.error.TokenizerError.TheVariants as tokenizer
use Rattle.html5session.specs.Intake.{Piece}
use Rattle.html5session.specs.Session.{EndRefused, EndsSession, FeedRefused, FeedsPiece, FeedsText, SessionOf, StopsPiece, is_over, tokenizer_of}
use Rattle.html5session.specs.declared.error.SessionError.{SessionError}
use Rattle.html5session.specs.declared.error.SessionError.TheVariants.{Memory, NotUtf8, Cut, Waiting, ItemOpen, Over}
use Rattle.html5session.proofs.Calls.{goes_on, stands_here}
use Rattle.html5states.specs.Telling.{Stops}

module _ {X S H : Type 0} (means : Means X S H) (On : S → S → Type 0)
    (none : (s : S) → On s s)
    (stays : (s : S) (M : List Message) → On s (stepped means.step s M))
    (faults : (s : S) (M : List Message) (told : Told) (line : ℕ) → On s (means.faulted (stepped means.step s M) told line))
    (end_faults : (s : S) (M : List Message) → On s (means.end_faulted (stepped means.step s M)))
    (finishes : (s : S) (M : List Message) → On s (means.finish (stepped means.step s M))) where
  on-stops : (e : TokenizerError) (s t : S) (M : List Message) → Stops means.step means.faulted e s M t → On s t
  on-stops tokenizer.Memory s t M stops = subst (On s) (sym stops.state) (stays s stops.before)
  on-stops tokenizer.Sink s t M stops = subst (On s) (sym stops.state) (faults s stops.before stops.token stops.line)
  on-stops tokenizer.Failed s t M stops = absurd stops

  on-end_stops : (e : TokenizerError) (s t : S) (M : List Message) → EndStops means e s M t → On s t
  on-end_stops tokenizer.Memory s t M stops = subst (On s) (sym stops.state) (stays s stops.before)
  on-end_stops tokenizer.Sink s t M (inl stops) = subst (On s) (sym stops.state) (faults s stops.before stops.token stops.line)
  on-end_stops tokenizer.Sink s t M (inr is) = subst (On s) (sym is) (end_faults s M)
  on-end_stops tokenizer.Failed s t M stops = absurd stops

  -- from one session to another
  abbrev Goes : SessionOf X → SessionOf X → Type 0
  Goes old new = On (means.state old.detached.sink) (means.state new.detached.sink)

  goes-same : (old new : SessionOf X) → new.detached ≡ old.detached → Goes old new
  goes-same old new same =
      subst (On (means.state old.detached.sink)) (ap (λ d. means.state d.sink) (sym same)) (none (means.state old.detached.sink))

  goes-read : (old new : SessionOf X) (text left : List ℕ) (reply : Reply H) → is_over old ≡ false
      → FeedsText means (tokenizer_of old) (tokenizer_of new) text left reply → Goes old new
  goes-read old new text left reply going feeds =
      let goes = goes_on old.intake.lost old.detached.failed old.detached.ended going in
      let t : Tokenizing X = tokenizer_of old in
      let fed = feeds.feeds t.position (means.state t.sink) [] (stands_here means t goes.1 goes.2) in
      subst (On (means.state t.sink)) (sym fed.stands.told) (stays (means.state t.sink) _)

  goes-lost : (old new : SessionOf X) (piece : Piece) → is_over old ≡ false → (new.detached ≡ old.detached) ⊎ StopsPiece means old new piece → Goes old new
  goes-lost old new piece going (inl same) = goes-same old new same
  goes-lost old new piece going (inr stops) =
      let goes = goes_on old.intake.lost old.detached.failed old.detached.ended going in
      let t : Tokenizing X = tokenizer_of old in
      on-stops stops.stops.0 (means.state t.sink) (means.state new.detached.sink) _
      (stops.stops.1 t.position (means.state t.sink) [] (stands_here means t goes.1 goes.2)).stops

  pub on_feed : (old new : SessionOf X) (piece : Piece) (reply : Reply H) → is_over old ≡ false → FeedsPiece means old new piece reply → Goes old new
  on_feed old new piece reply going feeds = goes-read old new feeds.taken.text new.intake.text reply going feeds.feeds

  pub on_refused : (old new : SessionOf X) (piece : Piece) (error : SessionError) → is_over old ≡ false → FeedRefused means old new piece error → Goes old new
  on_refused old new piece Memory going (inl unchanged) = goes-same old new (ap (λ (s : SessionOf X). s.detached) unchanged)
  on_refused old new piece Memory going (inr loses) = goes-lost old new piece going loses.stops
  on_refused old new piece (NotUtf8 place) going says = goes-read old new says.taken.text [] KeepOn going says.feeds
  on_refused old new piece Cut going refused = absurd refused
  on_refused old new piece Waiting going refused = absurd refused
  on_refused old new piece ItemOpen going refused = absurd refused
  on_refused old new piece Over going refused = goes-same old new (ap (λ (s : SessionOf X). s.detached) refused.unchanged)

  pub on_end : (old new : SessionOf X) → is_over old ≡ false → EndsSession means old new → Goes old new
  on_end old new going ends =
      let goes = goes_on old.intake.lost old.detached.failed old.detached.ended going in
      let t : Tokenizing X = tokenizer_of old in
      subst (On (means.state t.sink)) (sym (ends.ends.finishes t.position (means.state t.sink) [] (stands_here means t goes.1 goes.2))) (finishes (means.state t.sink) _)

  pub on_end_refused : (old new : SessionOf X) (error : SessionError) → is_over old ≡ false → EndRefused means old new error → Goes old new
  on_end_refused old new Memory going loses =
      let goes = goes_on old.intake.lost old.detached.failed old.detached.ended going in
      let t : Tokenizing X = tokenizer_of old in
      on-end_stops loses.stops.0 (means.state t.sink) (means.state new.detached.sink) _
      (loses.stops.1 t.position (means.state t.sink) [] (stands_here means t goes.1 goes.2))
  on_end_refused old new (NotUtf8 place) going says = goes-same old new (ap (λ (s : SessionOf X). s.detached) says.kept)
  on_end_refused old new Cut going refused = goes-same old new (ap (λ (s : SessionOf X). s.detached) refused.0)
  on_end_refused old new Waiting going refused = goes-same old new (ap (λ (s : SessionOf X). s.detached) refused.0)
  on_end_refused old new ItemOpen going refused = absurd refused
  on_end_refused old new Over going refused = goes-same old new (ap (λ (s : SessionOf X). s.detached) refused.unchanged)
