-- What a call of the tokenizer between `attach` and `detach` says of the session around it.
use Rattle.std.proofs.Common.{◌≡◌, ◌≢◌, ℕ, ◌<◌, ◌||◌, Bool, true, false, List, [], ◌++◌, length, Result, Ok, Err, String, string_bytes, refl, sym, ap, ◌∙◌, subst, inl, inr}
use Rattle.std.specs.Prelude.{IfErr, IfOk, OnErr, OnOk, is_err}
use Rattle.utf8_pieces.specs.Pieces.{Decoding, EndsAtFault, IsNeverUtf8}
use Rattle.html5ever_interface.specs.Sink.{Means}
use Rattle.html5ever_interface.specs.Token.{Reply}
use Rattle.html5ever_interface.specs.Token.Reply.{KeepOn, ReadPlainText, ReadRawData, RunScript, SwitchEncoding}
use Rattle.html5ever_interface.specs.declared.states.State.{State}
use Rattle.html5reading.specs.Start.{Rules, nothing_open}
use Rattle.html5reading.specs.Start.Mode.{Data}
use Rattle.html5reading.specs.Start.Open.{Between}
use Rattle.html5partial.specs.declared.error.TokenizerError.{TokenizerError}
use Rattle.html5ever.proofs.Standing.{StandsAt-start}
use Rattle.html5ever.specs.Detached.{DetachedOf, tokenizing}
use Rattle.html5ever.specs.Tokenizer.{Tokenizing, StandsAt, Feeds, FeedsItems, StopsFeeding, Finishes, FinishesItems, StopsEnding}
use Rattle.html5feed.specs.Feed.{reply_in}
use Rattle.html5feed.specs.Starting.{in_state}
use Rattle.html5session.specs.Intake.{Completes, Decoded, IntakeOf, IsComplete, Piece, PieceRefused, Takes, TakesPiece, fault_said}
use Rattle.html5session.specs.Intake.Decoded.{All, UpToFault}
use Rattle.html5session.specs.Intake.Piece.{Bytes, TheEnd}
use Rattle.html5session.specs.Intake.TakesBytes.{Whole, Front, Nothing, InPage}
use Rattle.html5session.specs.Intake.TakesRest.{NoRest, Rest}
use Rattle.html5session.specs.Session.{AllRead, EndSaysFault, EndsSession, EndsText, FeedsPiece, FeedsText, FeedRefused, IsCutShort, LosesEnd, LosesPiece, SaysFault, SessionOf, SetsState, Settles, StopsText, StopsTextEnd, TookPiece, intake_after, is_over, keeps_on, nothing_open_in, tokenizer_of, unsettled_after}
use Rattle.html5session.specs.declared.error.SessionError.{SessionError}
use Rattle.html5session.specs.declared.error.SessionError.TheVariants.{Memory, NotUtf8}
use Rattle.markup5ever.specs.NamedReferences.{NamedReference}
use Rattle.markup5ever.specs.declared.tokenizer_result.TokenizerResult.{TokenizerResult}
use Rattle.markup5ever.specs.declared.tokenizer_result.TokenizerResult.TheVariants.{Done, Script, EncodingIndicator}

-- ---- sessions that are not over

pub goes_on : (lost failed ended : Bool) → (lost || (failed || ended)) ≡ false → (lost ≡ false) × (failed ≡ false) × (ended ≡ false)
goes_on true failed ended is = absurd cc
goes_on false true ended is = absurd cc
goes_on false false true is = absurd cc
goes_on false false false is = (refl, refl, refl)

pub over-none : (lost failed ended : Bool) → lost ≡ false → failed ≡ false → ended ≡ false → (lost || (failed || ended)) ≡ false
over-none lost failed ended l f e = rw (l, f, e) refl

pub over-ended : (lost failed ended : Bool) → ended ≡ true → (lost || (failed || ended)) ≡ true
over-ended true failed ended is = refl
over-ended false true ended is = refl
over-ended false false ended is = is

-- ---- answers

-- no reply that pauses is handed on where all was read
pub done_of : {H T : Type 0} (bytes : T → List ℕ) (answer : TokenizerResult H T) → reply_in bytes answer ≡ KeepOn → answer ≡ Done
done_of bytes Done is = refl
done_of bytes (Script handle) is = absurd cc
done_of bytes (EncodingIndicator text) is = absurd cc

other_reply : {H : Type 0} (reply : Reply H) → reply ≢ KeepOn → keeps_on reply ≡ false
other_reply KeepOn other = absurd (other refl)
other_reply ReadPlainText other = refl
other_reply (ReadRawData kind) other = refl
other_reply (RunScript handle) other = refl
other_reply (SwitchEncoding text) other = refl

-- ---- the tokenizer

-- after a call it rests, and goes on by the same table
rests : {X : Type 0} (r out : DetachedOf X) (references : List NamedReference) (t u : Tokenizing X)
    → t ≡ tokenizing r references → u.rules ≡ t.rules → tokenizing out u.rules.references ≡ u → tokenizing out references ≡ u
rests {X} r out references t u begins rules rested =
    subst (λ (n : List NamedReference). tokenizing out n ≡ u) (ap (λ (w : Rules). w.references) rules ∙ ap (λ (w : Tokenizing X). w.rules.references) begins) rested

-- what is taken of a piece loses nothing
takes_lost : (references : List NamedReference) (old new : IntakeOf) (piece : Piece) (text : List ℕ) → Takes references old new piece text → new.lost ≡ old.lost
takes_lost references old new (Bytes bytes) text (Whole utf8 silent completes is) = ap (λ (i : IntakeOf). i.lost) is
takes_lost references old new (Bytes bytes) text (Front utf8 silent never ends is) = ap (λ (i : IntakeOf). i.lost) is
takes_lost references old new (Bytes bytes) text (Nothing utf8 fault none is) = ap (λ (i : IntakeOf). i.lost) is
takes_lost references old new (Bytes bytes) text (InPage before after was silent on utf8 is) = ap (λ (i : IntakeOf). i.lost) is
takes_lost references old new TheEnd text (NoRest utf8 none is) = ap (λ (i : IntakeOf). i.lost) is
takes_lost references old new TheEnd text (Rest before was silent is_rest utf8 is) = ap (λ (i : IntakeOf). i.lost) is

-- so a session that took a piece can read it
pub took_going : {X : Type 0} (old mid : SessionOf X) (piece : Piece) → TookPiece old mid piece → is_over mid ≡ false
took_going {X} old mid piece took =
    ap is_over took.kept
    ∙ ap (λ (b : Bool). b || (old.detached.failed || old.detached.ended)) (takes_lost old.references old.intake mid.intake piece took.takes.text took.takes.takes)
    ∙ took.going_on

-- ---- results that are known

pub answered : {T E : Type 0} (result : Result T E) (a x : T) (P : T → Type 0) → result ≡ Ok a → a ≡ x → IfOk result P → P x
answered result a x P is same holds = subst P same (subst (λ (r : Result _ _). IfOk r P) is holds)

pub errored : {T E : Type 0} (result : Result T E) (e : E) (P : E → Type 0) → result ≡ Err e → IfErr result P → P e
errored result e P is holds = subst (λ (r : Result _ _). IfErr r P) is holds

pub on_errored : {T E : Type 0} (result : Result T E) (e : E) (P : Type 0) → result ≡ Err e → OnErr result P → P
on_errored result e P is holds = subst (λ (r : Result _ _). OnErr r P) is holds

-- what a reading left of an intake
pub left_by : {T E : Type 0} (result other : Result T E) (i j : IntakeOf) → result ≡ other → j ≡ record i { text = j.text; lost = is_err result }
    → j ≡ record i { text = j.text; lost = is_err other }
left_by result other i j is intake = intake ∙ ap (λ (r : Result _ _). record i { text = j.text; lost = is_err r }) is

-- ---- what arrives: an intake `s` that is seen as `t`

pub decoded_all : (s t : IntakeOf) (d : Decoding) (bytes text : List ℕ) → s ≡ t → Completes s.decoder d bytes text
    → Decoded t (record s { decoder = d }) bytes text
decoded_all s t d bytes text same completes =
    All (subst (λ (w : IntakeOf). Completes w.decoder d bytes text) same completes) (ap (λ (w : IntakeOf). record w { decoder = d }) same)

pub decoded_front : (s t : IntakeOf) (e d : Decoding) (bytes text : List ℕ) → s ≡ t → e ≡ s.decoder → IsNeverUtf8 (s.decoder.held ++ bytes)
    → EndsAtFault e d (e.held ++ bytes) text → Decoded t (record s { decoder = d; fault = true }) bytes text
decoded_front s t e d bytes text same unchanged never ends =
    UpToFault (subst (λ (w : IntakeOf). IsNeverUtf8 (w.decoder.held ++ bytes)) same never)
    (subst (λ (w : IntakeOf). EndsAtFault w.decoder d (w.decoder.held ++ bytes) text) same
    (subst (λ (w : Decoding). EndsAtFault w d (w.held ++ bytes) text) unchanged ends))
    (ap (λ (w : IntakeOf). record w { decoder = d; fault = true }) same)

-- ---- a session `s` that is seen as `t`

pub settles : {X : Type 0} (s t : SessionOf X) (j i : IntakeOf) (n : Bool) → s ≡ t → n ≡ nothing_open_in s
    → j ≡ record s.intake { unsettled = unsettled_after n s.intake.unsettled } → (j.fault ≡ true → i ≡ fault_said j) → (j.fault ≡ false → i ≡ j)
    → Settles t (record s { intake = i })
settles {X} s t j i n same is settled some none =
    let here : j ≡ record t.intake { unsettled = unsettled_after (nothing_open_in t) t.intake.unsettled } =
    settled ∙ ap (λ (b : Bool). record s.intake { unsettled = unsettled_after b s.intake.unsettled }) is
    ∙ ap (λ (w : SessionOf X). record w.intake { unsettled = unsettled_after (nothing_open_in w) w.intake.unsettled }) same in
    let fault : j.fault ≡ t.intake.fault = ap (λ (w : IntakeOf). w.fault) here in
    record {
      kept = ap (λ (w : SessionOf X). record w { intake = i }) same;
      silent = λ was. none (fault ∙ was) ∙ here;
      said = λ was. some (fault ∙ was) ∙ ap fault_said here;
    }

pub end_says : {X : Type 0} (s t : SessionOf X) (i : IntakeOf) (place : ℕ) → s ≡ t → s.intake.text ≡ [] → s.intake.fault ≡ true
    → place ≡ s.intake.decoder.taken → i ≡ fault_said s.intake → EndSaysFault t (record s { intake = i }) place
end_says {X} s t i place same read fault is said = record {
  read = subst (λ (w : SessionOf X). w.intake.text ≡ []) same read;
  fault = subst (λ (w : SessionOf X). w.intake.fault ≡ true) same fault;
  place_is = is ∙ ap (λ (w : SessionOf X). w.intake.decoder.taken) same;
  kept = ap (λ (j : IntakeOf). record s { intake = j }) said ∙ ap (λ (w : SessionOf X). record w { intake = fault_said w.intake }) same;
}

pub cut_short : {X : Type 0} (s t : SessionOf X) (i : IntakeOf) → s ≡ t → s.intake.text ≡ [] → s.intake.fault ≡ false → i ≡ s.intake
    → ¬ (IsComplete i) → (record s { intake = i } ≡ t) × IsCutShort t.intake
cut_short {X} s t i same read silent is held = (
  ap (λ (j : IntakeOf). record s { intake = j }) is ∙ same,
  record {
    read = subst (λ (w : SessionOf X). w.intake.text ≡ []) same read;
    no_fault = subst (λ (w : SessionOf X). w.intake.fault ≡ false) same silent;
    held = λ whole. held (subst IsComplete (sym (is ∙ ap (λ (w : SessionOf X). w.intake) same)) whole);
  },
)

pub goes_same : {X : Type 0} (s t : SessionOf X) (i : IntakeOf) → s ≡ t → i ≡ s.intake → is_over t ≡ false → is_over (record s { intake = i }) ≡ false
goes_same {X} s t i same is going = ap (λ (j : IntakeOf). is_over (record s { intake = j })) is ∙ ap is_over same ∙ going

pub all_read : (s i : IntakeOf) → i ≡ s → s.text ≡ [] → s.fault ≡ false → IsComplete i → AllRead i
all_read s i is read silent whole = record {
  read = ap (λ (j : IntakeOf). j.text) is ∙ read;
  no_fault = ap (λ (j : IntakeOf). j.fault) is ∙ silent;
  whole = whole;
}

module _ {X S H : Type 0} (means : Means X S H) where
  -- it stands where it is
  pub stands_here : (t : Tokenizing X) → t.failed ≡ false → t.ended ≡ false → StandsAt means t t.position (means.state t.sink) []
  stands_here t not_failed going_on = StandsAt-start means t t.position refl not_failed going_on

  -- a feed of the tokenizer is a feed of the session
  pub feeds_text : (r out : DetachedOf X) (references : List NamedReference) (t u : Tokenizing X) (text left : List ℕ) (reply : Reply H)
      → t ≡ tokenizing r references → u.rules ≡ t.rules → tokenizing out u.rules.references ≡ u
      → Feeds means t u text left reply → FeedsItems means t u text left reply
      → (reply ≡ KeepOn → left ≡ []) → (reply ≢ KeepOn → length left < length text) → (reply ≢ KeepOn → u.position.opened ≡ Between Data)
      → u.failed ≡ false → u.ended ≡ false
      → FeedsText means (tokenizing r references) (tokenizing out references) text left reply
  feeds_text r out references t u text left reply begins rules rested reads items all shorter paused not_failed going_on =
      let ends = rests r out references t u begins rules rested in
      record {
        feeds = subst (λ (w : Tokenizing X). Feeds means w (tokenizing out references) text left reply) begins
            (subst (λ (w : Tokenizing X). Feeds means t w text left reply) (sym ends) reads);
        items = subst (λ (w : Tokenizing X). FeedsItems means w (tokenizing out references) text left reply) begins
            (subst (λ (w : Tokenizing X). FeedsItems means t w text left reply) (sym ends) items);
        all = all;
        shorter = shorter;
        paused = λ other. ap (λ (w : Tokenizing X). w.position.opened) ends ∙ paused other;
        rules = ap (λ (w : Tokenizing X). w.rules) ends ∙ rules ∙ ap (λ (w : Tokenizing X). w.rules) begins;
        not_failed = ap (λ (w : Tokenizing X). w.failed) ends ∙ not_failed;
        going_on = ap (λ (w : Tokenizing X). w.ended) ends ∙ going_on;
      }

  pub stops_text : (t s : Tokenizing X) (text left : List ℕ) (error : TokenizerError) (v told : S) → t ≡ s → v ≡ told
      → StopsFeeding means error t text left v → StopsText means s text left told
  stops_text t s text left error v told begins same stops = (
    error,
    subst (λ (w : Tokenizing X). StopsFeeding means error w text left told) begins
        (subst (λ (w : S). StopsFeeding means error t text left w) same stops),
  )

  -- the messages between `attach` and `detach`
  pub ends_text : (t s : Tokenizing X) (v told : S) → t ≡ s → v ≡ told → Finishes means t v → FinishesItems means t v → EndsText means s told
  ends_text t s v told begins same tells items = record {
    finishes = subst (λ (w : Tokenizing X). Finishes means w told) begins (subst (λ (w : S). Finishes means t w) same tells);
    items = subst (λ (w : Tokenizing X). FinishesItems means w told) begins (subst (λ (w : S). FinishesItems means t w) same items);
  }

  pub stops_end : (t s : Tokenizing X) (error : TokenizerError) (v told : S) → t ≡ s → v ≡ told → StopsEnding means error t v → StopsTextEnd means s told
  stops_end t s error v told begins same stops = (
    error,
    subst (λ (w : Tokenizing X). StopsEnding means error w told) begins (subst (λ (w : S). StopsEnding means error t w) same stops),
  )

  -- ---- a feed

  -- a piece that was taken, of which all that waits or a part of it was read
  fed_piece : (old new : SessionOf X) (taken : IntakeOf) (piece : Piece) (reply : Reply H) → is_over old ≡ false → TakesPiece old.references old.intake taken piece
      → FeedsText means (tokenizer_of old) (tokenizing new.detached old.references) taken.text new.intake.text reply
      → (reply ≡ KeepOn → taken.fault ≡ false) → new.intake ≡ intake_after (keeps_on reply) new taken new.intake.text
      → new.references ≡ old.references → FeedsPiece means old new piece reply
  fed_piece old new taken piece reply going takes feeds whole intake same = record {
    text = takes.text;
    taken = taken;
    takes = takes.takes;
    feeds = subst (λ (l : List NamedReference). FeedsText means (tokenizer_of old) (tokenizing new.detached l) taken.text new.intake.text reply) (sym same) feeds;
    whole = whole;
    intake = intake;
    kept = ap (λ (l : List NamedReference). record new { references = l }) same;
    going_on = over-none new.intake.lost new.detached.failed new.detached.ended
        (ap (λ (i : IntakeOf). i.lost) intake ∙ takes_lost old.references old.intake taken piece takes.text takes.takes ∙ (goes_on old.intake.lost old.detached.failed old.detached.ended going).0)
        feeds.not_failed feeds.going_on;
  }

  -- what was read of a session that is all as before except for the piece that was taken
  from_old : (old mid t : SessionOf X) (left : List ℕ) (reply : Reply H) → mid ≡ record old { intake = mid.intake } → t.references ≡ mid.references
      → FeedsText means (tokenizer_of mid) (tokenizer_of t) mid.intake.text left reply
      → FeedsText means (tokenizer_of old) (tokenizing t.detached old.references) mid.intake.text left reply
  from_old old mid t left reply kept same feeds =
      subst (λ (l : List NamedReference). FeedsText means (tokenizer_of old) (tokenizing t.detached l) mid.intake.text left reply)
      (same ∙ ap (λ (w : SessionOf X). w.references) kept)
      (subst (λ (w : Tokenizing X). FeedsText means w (tokenizer_of t) mid.intake.text left reply) (ap tokenizer_of kept) feeds)

  -- nothing was lost before
  mid_lost : (old mid : SessionOf X) (piece : Piece) → is_over old ≡ false → TakesPiece old.references old.intake mid.intake piece → mid.intake.lost ≡ false
  mid_lost old mid piece going takes =
      takes_lost old.references old.intake mid.intake piece takes.text takes.takes ∙ (goes_on old.intake.lost old.detached.failed old.detached.ended going).0

  -- up to a pause
  pub pauses_piece : (old mid t : SessionOf X) (piece : Piece) (reply : Reply H) → is_over old ≡ false → TakesPiece old.references old.intake mid.intake piece
      → mid ≡ record old { intake = mid.intake } → t.references ≡ mid.references
      → t.intake ≡ record mid.intake { text = t.intake.text; lost = false }
      → reply ≢ KeepOn → FeedsText means (tokenizer_of mid) (tokenizer_of t) mid.intake.text t.intake.text reply
      → FeedsPiece means old t piece reply
  pauses_piece old mid t piece reply going takes kept same intake pause feeds =
      fed_piece old t mid.intake piece reply going takes (from_old old mid t t.intake.text reply kept same feeds)
      (λ keeps. absurd (pause keeps))
      (subst (λ (b : Bool). t.intake ≡ intake_after b t mid.intake t.intake.text) (sym (other_reply reply pause))
      (intake ∙ ap (λ (b : Bool). record mid.intake { text = t.intake.text; lost = b }) (sym (mid_lost old mid piece going takes))))
      (same ∙ ap (λ (w : SessionOf X). w.references) kept)

  -- what a feed that read all that waited left, as the piece that was taken left it
  settled : (old mid t u : SessionOf X) (piece : Piece) → is_over old ≡ false → TakesPiece old.references old.intake mid.intake piece
      → t.intake ≡ record mid.intake { text = t.intake.text; lost = false } → u.detached ≡ t.detached
      → record t.intake { unsettled = unsettled_after (nothing_open_in t) t.intake.unsettled } ≡ intake_after true u mid.intake t.intake.text
  settled old mid t u piece going takes intake d =
      let now : List ℕ → Bool → Bool → ℕ → IntakeOf = λ l b o n. record mid.intake { text = l; lost = b; unsettled = unsettled_after o n } in
      let l = t.intake.text in
      ap (λ (i : IntakeOf). record i { unsettled = unsettled_after (nothing_open_in t) t.intake.unsettled }) intake
      ∙ ap (now l false (nothing_open_in t)) (ap (λ (i : IntakeOf). i.unsettled) intake)
      ∙ ap (λ (b : Bool). now l b (nothing_open_in t) mid.intake.unsettled) (sym (mid_lost old mid piece going takes))
      ∙ ap (λ (w : DetachedOf X). now l mid.intake.lost (nothing_open w.position.opened) mid.intake.unsettled) (sym d)

  -- all that waited was read, and there was no fault
  pub reads_piece : (old mid t u : SessionOf X) (piece : Piece) → is_over old ≡ false → TakesPiece old.references old.intake mid.intake piece
      → mid ≡ record old { intake = mid.intake } → t.references ≡ mid.references
      → t.intake ≡ record mid.intake { text = t.intake.text; lost = false }
      → FeedsText means (tokenizer_of mid) (tokenizer_of t) mid.intake.text t.intake.text KeepOn
      → Settles t u → t.intake.fault ≡ false → FeedsPiece means old u piece KeepOn
  reads_piece old mid t u piece going takes kept same intake feeds settles silent =
      let said = settles.silent silent in
      let text : u.intake.text ≡ t.intake.text = ap (λ (i : IntakeOf). i.text) said in
      let d : u.detached ≡ t.detached = ap (λ (w : SessionOf X). w.detached) settles.kept in
      let read : FeedsText means (tokenizer_of old) (tokenizing t.detached old.references) mid.intake.text t.intake.text KeepOn =
      from_old old mid t t.intake.text KeepOn kept same feeds in
      fed_piece old u mid.intake piece KeepOn going takes
      (subst (λ (l : List ℕ). FeedsText means (tokenizer_of old) (tokenizing u.detached old.references) mid.intake.text l KeepOn) (sym text)
      (subst (λ (w : DetachedOf X). FeedsText means (tokenizer_of old) (tokenizing w old.references) mid.intake.text t.intake.text KeepOn) (sym d) read))
      (λ _. sym (ap (λ (i : IntakeOf). i.fault) intake) ∙ silent)
      (said ∙ settled old mid t u piece going takes intake d ∙ ap (intake_after true u mid.intake) (sym text))
      (ap (λ (w : SessionOf X). w.references) settles.kept ∙ same ∙ ap (λ (w : SessionOf X). w.references) kept)

  -- all before a fault was read, and it is said
  pub says_fault : (old mid t u : SessionOf X) (piece : Piece) (place : ℕ) → is_over old ≡ false → TakesPiece old.references old.intake mid.intake piece
      → mid ≡ record old { intake = mid.intake } → t.references ≡ mid.references
      → t.intake ≡ record mid.intake { text = t.intake.text; lost = false }
      → FeedsText means (tokenizer_of mid) (tokenizer_of t) mid.intake.text t.intake.text KeepOn
      → Settles t u → t.intake.fault ≡ true → place ≡ t.intake.decoder.taken → SaysFault means old u piece place
  says_fault old mid t u piece place going takes kept same intake feeds settles fault is =
      let said = settles.said fault in
      let none : t.intake.text ≡ [] = feeds.all refl in
      let d : u.detached ≡ t.detached = ap (λ (w : SessionOf X). w.detached) settles.kept in
      let from : u.references ≡ old.references =
      ap (λ (w : SessionOf X). w.references) settles.kept ∙ same ∙ ap (λ (w : SessionOf X). w.references) kept in
      let read : FeedsText means (tokenizer_of old) (tokenizing t.detached old.references) mid.intake.text t.intake.text KeepOn =
      from_old old mid t t.intake.text KeepOn kept same feeds in
      record {
        text = takes.text;
        taken = mid.intake;
        takes = takes.takes;
        feeds = subst (λ (n : List NamedReference). FeedsText means (tokenizer_of old) (tokenizing u.detached n) mid.intake.text [] KeepOn) (sym from)
            (subst (λ (w : DetachedOf X). FeedsText means (tokenizer_of old) (tokenizing w old.references) mid.intake.text [] KeepOn) (sym d)
            (subst (λ (l : List ℕ). FeedsText means (tokenizer_of old) (tokenizing t.detached old.references) mid.intake.text l KeepOn) none read));
        fault = sym (ap (λ (i : IntakeOf). i.fault) intake) ∙ fault;
        place_is = is ∙ ap (λ (i : IntakeOf). i.decoder.taken) intake;
        intake = said ∙ ap fault_said (settled old mid t u piece going takes intake d ∙ ap (intake_after true u mid.intake) none);
        kept = ap (λ (l : List NamedReference). record u { references = l }) from;
        going_on = over-none u.intake.lost u.detached.failed u.detached.ended
            (ap (λ (i : IntakeOf). i.lost) said ∙ ap (λ (i : IntakeOf). i.lost) intake)
            (ap (λ (w : DetachedOf X). w.failed) d ∙ feeds.not_failed) (ap (λ (w : DetachedOf X). w.ended) d ∙ feeds.going_on);
      }

  -- a reading that failed loses the piece
  pub loses_piece : (old mid t : SessionOf X) (piece : Piece) → TakesPiece old.references old.intake mid.intake piece
      → mid ≡ record old { intake = mid.intake } → t.references ≡ mid.references
      → t.intake ≡ record mid.intake { text = t.intake.text; lost = true }
      → StopsText means (tokenizer_of mid) mid.intake.text t.intake.text (means.state t.detached.sink)
      → LosesPiece means old t piece
  loses_piece old mid t piece takes kept same intake stops = record {
    stops = inr (record {
      text = takes.text;
      taken = mid.intake;
      takes = takes.takes;
      stops = subst (λ (w : Tokenizing X). StopsText means w mid.intake.text t.intake.text (means.state t.detached.sink)) (ap tokenizer_of kept) stops;
    });
    lost = ap (λ (i : IntakeOf). i.lost) intake;
    kept = ap (λ (l : List NamedReference). record t { references = l }) (same ∙ ap (λ (w : SessionOf X). w.references) kept);
  }

  -- a piece that was refused, out of memory
  pub piece_refused : (old mid : SessionOf X) (piece : Piece) → mid ≡ record old { intake = mid.intake } → PieceRefused old.intake mid.intake
      → FeedRefused means old mid piece Memory
  piece_refused old mid piece kept (inl unchanged) = inl (kept ∙ ap (λ (i : IntakeOf). record old { intake = i }) unchanged)
  piece_refused old mid piece kept (inr lost) = inr (record {
    stops = inl (ap (λ (w : SessionOf X). w.detached) kept);
    lost = lost;
    kept = ap (λ (l : List NamedReference). record mid { references = l }) (ap (λ (w : SessionOf X). w.references) kept);
  })

  -- ---- whole calls

  pub text_feeds : {T E : Type 0} (result : Result T E) (reply : T → Reply H) (s t : SessionOf X) (new : Tokenizing X) (left : List ℕ) → s ≡ t
      → IfOk result (λ answer. FeedsText means (tokenizer_of s) new s.intake.text left (reply answer))
      → IfOk result (λ answer. FeedsText means (tokenizer_of t) new t.intake.text left (reply answer))
  text_feeds result reply s t new left same feeds =
      subst (λ (w : SessionOf X). IfOk result (λ answer. FeedsText means (tokenizer_of w) new w.intake.text left (reply answer))) same feeds

  pub text_stops : {T E : Type 0} (result : Result T E) (s t : SessionOf X) (left : List ℕ) (told : S) → s ≡ t
      → OnErr result (StopsText means (tokenizer_of s) s.intake.text left told) → OnErr result (StopsText means (tokenizer_of t) t.intake.text left told)
  text_stops result s t left told same stops = subst (λ (w : SessionOf X). OnErr result (StopsText means (tokenizer_of w) w.intake.text left told)) same stops

  -- an answer without a pause, where a fault may still be to be said
  pub done_feeds : {Z : Type 0} (result : Result (TokenizerResult H (String Z)) SessionError) (mid t u : SessionOf X)
      → t.references ≡ mid.references → t.intake ≡ record mid.intake { text = t.intake.text; lost = false }
      → FeedsText means (tokenizer_of mid) (tokenizer_of t) mid.intake.text t.intake.text KeepOn → Settles t u
      → IfOk result (λ answer. (answer ≡ Done) × (t.intake.fault ≡ false))
      → IfOk result (λ answer. (old : SessionOf X) (piece : Piece) → TookPiece old mid piece → FeedsPiece means old u piece (reply_in string_bytes answer))
  done_feeds (Err error) mid t u same intake feeds settles said = tt
  done_feeds {Z} (Ok answer) mid t u same intake feeds settles said = λ old piece took.
      subst (λ (a : TokenizerResult H (String Z)). FeedsPiece means old u piece (reply_in string_bytes a)) (sym said.0)
      (reads_piece old mid t u piece took.going_on took.takes took.kept same intake feeds settles said.1)

  pub done_refused : {T : Type 0} (result : Result T SessionError) (mid t u : SessionOf X)
      → t.references ≡ mid.references → t.intake ≡ record mid.intake { text = t.intake.text; lost = false }
      → FeedsText means (tokenizer_of mid) (tokenizer_of t) mid.intake.text t.intake.text KeepOn → Settles t u
      → IfErr result (λ error. (t.intake.fault ≡ true) × (error ≡ NotUtf8 t.intake.decoder.taken))
      → IfErr result (λ error. (old : SessionOf X) (piece : Piece) → TookPiece old mid piece → FeedRefused means old u piece error)
  done_refused (Ok answer) mid t u same intake feeds settles said = tt
  done_refused (Err error) mid t u same intake feeds settles said = λ old piece took.
      subst (FeedRefused means old u piece) (sym said.1)
      (says_fault old mid t u piece t.intake.decoder.taken took.going_on took.takes took.kept same intake feeds settles said.0 refl)

  -- an error of the reading
  pub error_refused : (error : SessionError) (old mid t : SessionOf X) (piece : Piece) → error ≡ Memory → TakesPiece old.references old.intake mid.intake piece
      → mid ≡ record old { intake = mid.intake } → t.references ≡ mid.references → t.intake ≡ record mid.intake { text = t.intake.text; lost = true }
      → StopsText means (tokenizer_of mid) mid.intake.text t.intake.text (means.state t.detached.sink) → FeedRefused means old t piece error
  error_refused error old mid t piece is takes kept same intake stops =
      subst (FeedRefused means old t piece) (sym is) (inr (loses_piece old mid t piece takes kept same intake stops))

  -- ---- an end

  pub ends_session : (result : Result (Unit {0}) SessionError) (s t : SessionOf X) (out : DetachedOf X) (i : IntakeOf) (lost : Bool) → is_over t ≡ false
      → AllRead t.intake → s ≡ t → i ≡ record s.intake { lost = lost } → lost ≡ is_err result
      → OnOk result (EndsText means (tokenizer_of s) (means.state out.sink)) → OnOk result (out.ended ≡ true)
      → OnOk result (EndsSession means t (record s { detached = out; intake = i }))
  ends_session (Err error) s t out i lost going read same is lost_is ends ended = tt
  ends_session (Ok done) s t out i lost going read same is lost_is ends ended = record {
    ends = subst (λ (w : SessionOf X). EndsText means (tokenizer_of w) (means.state out.sink)) same ends;
    read = read;
    kept = ap (λ (j : IntakeOf). record s { detached = out; intake = j }) is
        ∙ ap (λ (w : SessionOf X). record w { detached = out; intake = record w.intake { lost = lost } }) same
        ∙ ap (λ (b : Bool). record t { detached = out; intake = record t.intake { lost = b } })
        (lost_is ∙ sym (goes_on t.intake.lost t.detached.failed t.detached.ended going).0);
    over = over-ended i.lost out.failed out.ended ended;
  }

  pub loses_end : (result : Result (Unit {0}) SessionError) (s t : SessionOf X) (out : DetachedOf X) (i : IntakeOf) (lost : Bool)
      → AllRead t.intake → s ≡ t → i ≡ record s.intake { lost = lost } → lost ≡ is_err result
      → OnErr result (StopsTextEnd means (tokenizer_of s) (means.state out.sink))
      → OnErr result (LosesEnd means t (record s { detached = out; intake = i }))
  loses_end (Ok done) s t out i lost read same is lost_is stops = tt
  loses_end (Err error) s t out i lost read same is lost_is stops = record {
    stops = subst (λ (w : SessionOf X). StopsTextEnd means (tokenizer_of w) (means.state out.sink)) same stops;
    read = read;
    kept = ap (λ (j : IntakeOf). record s { detached = out; intake = j }) (is ∙ ap (λ (b : Bool). record s.intake { lost = b }) lost_is)
        ∙ ap (λ (w : SessionOf X). record w { detached = out; intake = record w.intake { lost = true } }) same;
  }

  -- ---- replies of the caller

  -- a session with another state
  pub sets_state : (s t : SessionOf X) (state : State) → is_over s ≡ false
      → t ≡ record s { detached = record s.detached { position = in_state s.detached.position state } } → SetsState means s t state
  sets_state s t state going is =
      let goes = goes_on s.intake.lost s.detached.failed s.detached.ended going in
      record {
        stands = subst (λ (w : SessionOf X). StandsAt means (tokenizer_of w) (in_state s.detached.position state) (means.state s.detached.sink) []) (sym is)
            (stands_here (tokenizer_of (record s { detached = record s.detached { position = in_state s.detached.position state } })) goes.1 goes.2);
        kept = is;
      }
