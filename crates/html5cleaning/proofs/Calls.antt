-- What a call of the session below says of the bytes fed to the cleaner.
use Rattle.std.proofs.Common.{◌≡◌, ℕ, Bool, true, false, List, [], ◌++◌, drop, Option, None, Some, Result, Ok, Err, String, string_bytes, refl, sym, ap, ◌∙◌, subst, inl, inr, append_assoc, take-append-drop}
use Rattle.std.specs.Prelude.{◌-◌, ◌^◌, ◌||◌, IfErr, IfOk, IsOk, OnOk, codes, is_some, option_map, if◌then◌else◌}
use Rattle.std.proofs.lemmas.Bool.{false≢true}
use Rattle.std.proofs.lemmas.List.{append-nil}
use Rattle.std.specs.Str.{IsUtf8, bytes_eq, chars}
use Rattle.html5ever.specs.Tokenizer.{StandsAt, Finishes, ReadsOn}
use Rattle.html5ever_interface.specs.Token.{Told, Reply}
use Rattle.html5ever_interface.specs.Token.Told.{Tag}
use Rattle.html5ever_interface.specs.Token.Reply.{KeepOn, ReadPlainText}
use Rattle.html5ever_interface.specs.declared.interface.token.TagKind.{TagKind}
use Rattle.html5ever_interface.specs.declared.interface.token.TagKind.TheVariants.{StartTag, EndTag}
use Rattle.html5ever_interface.specs.declared.states.RawKind.{RawKind}
use Rattle.html5feed.specs.Feed.{pauses, reply_in}
use Rattle.html5policy.specs.Policy.{PolicyOf}
use Rattle.markup5ever.specs.NamedReferences.{NamedReference}
use Rattle.markup5ever.specs.declared.tokenizer_result.TokenizerResult.{TokenizerResult}
use Rattle.html5sinks.specs.Replies.{raw_text_in, reply_by_kind, reply_to_raw_text, standard_reply_to_start}
use Rattle.html5sinks.specs.Runs.{Running}
use Rattle.html5reading.specs.Start.{Rules}
use Rattle.html5session.specs.Intake.{IntakeOf, IsCompleteBy, IsTextSoFar, IsTextSoFarBy, Piece, TakesBytes, TakesRest, is_decoding, page_again, whole_text, whole_text_by}
use Rattle.html5session.specs.Intake.Piece.{Bytes, TheEnd}
use Rattle.html5session.specs.Intake.TakesBytes.{Whole, Front, Nothing, InPage}
use Rattle.html5session.specs.Intake.TakesRest.{NoRest, Rest}
use Rattle.html5sniffing.specs.PageDecoding.{GoesOn, PageDecoding, anew, page_start, text_with}
use Rattle.html5sniffing.specs.PageEncoding.{text_of_page}
use Rattle.html5session.specs.Session as session
use Rattle.html5session.specs.Session.{FeedsText, is_over, tokenizer_of}
use Rattle.html5session.specs.declared.error.SessionError.{SessionError}
use Rattle.html5session.specs.declared.error.SessionError.TheVariants.{Memory, NotUtf8, Cut, Waiting, ItemOpen, Over}
use Rattle.html5session.proofs.Calls.{goes_on, stands_here}
use Rattle.html5cleaner.specs.Buffering.{Buffered}
use Rattle.html5cleaning.specs.Cleaning.{CleaningOf, EndRefused, EndWantsMemory, EndsFed, EndsPage, Fed, FedFront, FeedRefused, FeedsPiece, ReadsAtOnce, StartsPage, buffer_means, buffer_of, cleaning_run}
use Rattle.html5cleaning.proofs.Fed.{fed_parts, fed_text, has_read, nil_front, page_ends, reads_more, utf8_page, whole_decoded, whole_utf8}
use Rattle.html5cleaning.proofs.Unpaused.{takes_all}
use Rattle.html5cleaning.proofs.Waiting.{on_end, on_end_refused, on_feed, on_refused, waits_on-trans}

-- ---- the sink

plain : (is_plain : Bool) (kind : Option RawKind) → pauses (if is_plain then ReadPlainText else reply_to_raw_text kind) ≡ false
plain true kind = refl
plain false None = refl
plain false (Some kind) = refl

by_kind : (kind : TagKind) (name : List ℕ) → pauses (reply_by_kind kind name) ≡ false
unfolding standard_reply_to_start
by_kind StartTag name = plain (bytes_eq name (codes "plaintext")) (raw_text_in name)
by_kind EndTag name = refl

unpaused : (s : Running Buffered) (told : Told) (line : ℕ) → pauses (buffer_means.reply s told line) ≡ false
unpaused s (Tag tag) line = by_kind tag.kind tag.name
unpaused s other line = refl

reads_all : (old new : CleaningOf) (text left : List ℕ) (reply : Reply (Unit {0}))
    → FeedsText buffer_means (tokenizer_of old) (tokenizer_of new) text left reply
    → ReadsOn buffer_means (tokenizer_of old) (tokenizer_of new) text
reads_all old new text left reply feeds K s before stands =
    subst (λ (l : List ℕ). StandsAt buffer_means (tokenizer_of new) K s (before ++ l))
    (takes_all buffer_means unpaused (tokenizer_of old).rules K s before text).taken (feeds.feeds K s before stands).stands

-- a feed never pauses
pub keeps_on : (old new : CleaningOf) (piece : Piece) (reply : Reply (Unit {0})) → is_over old ≡ false
    → session.FeedsPiece buffer_means old new piece reply → reply ≡ KeepOn
keeps_on old new piece reply going feeds =
    let goes = goes_on old.intake.lost old.detached.failed old.detached.ended going in
    let t = tokenizer_of old in
    (feeds.feeds.feeds t.position (buffer_means.state t.sink) [] (stands_here buffer_means t goes.1 goes.2)).answer
    ∙ (takes_all buffer_means unpaused t.rules t.position (buffer_means.state t.sink) [] feeds.taken.text).answer

-- ---- what is taken of a piece

-- the decoder that a piece leaves
abbrev TextOn : List NamedReference → IntakeOf → IntakeOf → List ℕ → List ℕ → Type 0
TextOn references old taken bytes text =
    (before so_far : List ℕ) → IsTextSoFar references old before so_far → IsTextSoFar references taken (before ++ bytes) (so_far ++ text)

-- all of it
record WholeText (references : List NamedReference) (old taken : IntakeOf) (bytes text : List ℕ) : Type 0 where
  pub on : TextOn references old taken bytes text
  pub utf8 : IsUtf8 text
  pub waits : taken.text ≡ chars text

-- as UTF-8
on_utf8 : (references : List NamedReference) (old taken : IntakeOf) (bytes text : List ℕ) → old.page ≡ None → taken.page ≡ None
    → old.decoder.held ++ bytes ≡ text ++ taken.decoder.held → TextOn references old taken bytes text
on_utf8 references old taken bytes text was is parts before so_far fed =
    let front : before ≡ so_far ++ old.decoder.held = subst (λ (p : Option PageDecoding). IsTextSoFarBy p old.decoder.held references before so_far) was fed in
    subst (λ (p : Option PageDecoding). IsTextSoFarBy p taken.decoder.held references (before ++ bytes) (so_far ++ text)) (sym is)
    (fed_parts before so_far old.decoder.held bytes text taken.decoder.held front parts)

-- by the decoder of a page
on_page : (references : List NamedReference) (old taken : IntakeOf) (d e : PageDecoding) (bytes text : List ℕ) → old.page ≡ Some d → taken.page ≡ Some e
    → GoesOn references d e bytes text → TextOn references old taken bytes text
on_page references old taken d e bytes text was is goes before so_far fed =
    let page : List ℕ → List ℕ = text_of_page references d.said d.fallback in
    let front : IsTextSoFarBy (Some d) old.decoder.held references before so_far =
    subst (λ (p : Option PageDecoding). IsTextSoFarBy p old.decoder.held references before so_far) was fed in
    subst (λ (p : Option PageDecoding). IsTextSoFarBy p taken.decoder.held references (before ++ bytes) (so_far ++ text)) (sym is)
    (λ rest. ap (λ s. text_of_page references s e.fallback ((before ++ bytes) ++ rest)) goes.said
    ∙ ap (λ f. text_of_page references d.said f ((before ++ bytes) ++ rest)) goes.fallback
    ∙ ap page (append_assoc before bytes rest) ∙ front (bytes ++ rest) ∙ ap (λ l. so_far ++ l) (goes.texts rest)
    ∙ sym (append_assoc so_far text (text_with references e rest)))

whole_piece : (references : List NamedReference) (old taken : IntakeOf) (bytes text : List ℕ) → ReadsAtOnce old → taken.fault ≡ false
    → TakesBytes references old taken bytes text → WholeText references old taken bytes text
whole_piece references old taken bytes text at_once silent (Whole utf8 was completes is) = record {
  on = on_utf8 references old taken bytes text utf8 (ap (λ (i : IntakeOf). i.page) is ∙ utf8) completes.parts;
  utf8 = completes.utf8;
  waits = ap (λ (i : IntakeOf). i.text) is ∙ ap (λ l. l ++ chars text) at_once.read;
}
whole_piece references old taken bytes text at_once silent (Front utf8 was never ends is) = absurd (false≢true (sym silent ∙ ap (λ (i : IntakeOf). i.fault) is))
whole_piece references old taken bytes text at_once silent (Nothing utf8 was none is) = absurd (false≢true (sym at_once.no_fault ∙ was))
whole_piece references old taken bytes text at_once silent (InPage d e page was goes utf8 is) = record {
  on = on_page references old taken d e bytes text page (ap (λ (i : IntakeOf). i.page) is) goes;
  utf8 = utf8;
  waits = ap (λ (i : IntakeOf). i.text) is ∙ ap (λ l. l ++ chars text) at_once.read;
}

-- its front, up to a fault
record FrontText (old taken : IntakeOf) (bytes text : List ℕ) : Type 0 where
  pub rest : List ℕ
  pub was : old.page ≡ None
  pub is : taken.page ≡ None
  pub parts : old.decoder.held ++ bytes ≡ text ++ rest
  pub utf8 : IsUtf8 text
  pub waits : taken.text ≡ chars text
  pub held : taken.decoder.held ≡ []

front_text : (references : List NamedReference) (old taken : IntakeOf) (bytes text : List ℕ) → ReadsAtOnce old → taken.fault ≡ true
    → TakesBytes references old taken bytes text → FrontText old taken bytes text
front_text references old taken bytes text at_once fault (Whole utf8 was completes is) =
    absurd (false≢true (sym was ∙ sym (ap (λ (i : IntakeOf). i.fault) is) ∙ fault))
front_text references old taken bytes text at_once fault (Front utf8 was never ends is) = record {
  rest = drop ends.valid_len (old.decoder.held ++ bytes);
  was = utf8;
  is = ap (λ (i : IntakeOf). i.page) is ∙ utf8;
  parts = sym (take-append-drop ends.valid_len (old.decoder.held ++ bytes)) ∙ ap (λ l. l ++ drop ends.valid_len (old.decoder.held ++ bytes)) (sym ends.front);
  utf8 = subst IsUtf8 (sym ends.front) ends.valid.front;
  waits = ap (λ (i : IntakeOf). i.text) is ∙ ap (λ l. l ++ chars text) at_once.read;
  held = ends.held;
}
front_text references old taken bytes text at_once fault (Nothing utf8 was none is) = absurd (false≢true (sym at_once.no_fault ∙ was))
front_text references old taken bytes text at_once fault (InPage d e page was goes utf8 is) =
    absurd (false≢true (sym was ∙ sym (ap (λ (i : IntakeOf). i.fault) is) ∙ fault))

-- the rest, at the end of the bytes of a page that is decoded
record RestText (references : List NamedReference) (old taken : IntakeOf) (text : List ℕ) : Type 0 where
  pub before : PageDecoding
  pub was : old.page ≡ Some before
  pub is : taken.page ≡ Some (anew references before)
  pub rest : text ≡ text_with references before []
  pub utf8 : IsUtf8 text
  pub waits : taken.text ≡ chars text
  pub silent : taken.fault ≡ false

rest_text : (references : List NamedReference) (old taken : IntakeOf) (text : List ℕ) → ReadsAtOnce old → is_decoding old ≡ true
    → TakesRest references old taken text → RestText references old taken text
rest_text references old taken text at_once decoding (NoRest utf8 none is) =
    absurd (false≢true (sym (ap (λ (p : Option PageDecoding). is_some p) utf8) ∙ decoding))
rest_text references old taken text at_once decoding (Rest before page was rest utf8 is) = record {
  before = before;
  was = page;
  is = ap (λ (i : IntakeOf). i.page) is;
  rest = rest;
  utf8 = utf8;
  waits = ap (λ (i : IntakeOf). i.text) is ∙ ap (λ l. l ++ chars text) at_once.read;
  silent = ap (λ (i : IntakeOf). i.fault) is ∙ was;
}

-- the fed bytes were read by the session's own table
table_is : (policy : PolicyOf) (references : List NamedReference) (s : CleaningOf) (bytes : List ℕ) → Fed policy references s bytes → s.references ≡ references
table_is policy references s bytes fed = ap (λ (r : Rules). r.references) fed.rules

-- ---- a feed

pub feeds_piece : (old new : CleaningOf) (bytes : List ℕ) → is_over old ≡ false → ReadsAtOnce old.intake
    → session.FeedsPiece buffer_means old new (Bytes bytes) KeepOn → FeedsPiece old new bytes
feeds_piece old new bytes going at_once feeds =
    let waits = on_feed old new (Bytes bytes) KeepOn going feeds in
    let whole = whole_piece old.references old.intake feeds.taken bytes feeds.text at_once (feeds.whole refl) feeds.takes in
    let reads : ReadsOn buffer_means (tokenizer_of old) (tokenizer_of new) (chars feeds.text) =
    subst (λ (l : List ℕ). ReadsOn buffer_means (tokenizer_of old) (tokenizer_of new) l) whole.waits
    (reads_all old new feeds.taken.text new.intake.text KeepOn feeds.feeds) in
    record {
      fed = λ policy references before fed.
          let on : TextOn references old.intake feeds.taken bytes feeds.text =
          subst (λ (r : List NamedReference). TextOn r old.intake feeds.taken bytes feeds.text) (table_is policy references old before fed) whole.on in
          fed_text policy references old new before (before ++ bytes) feeds.text whole.utf8 reads waits.taken feeds.feeds.rules fed
          (subst (λ (i : IntakeOf). IsTextSoFar references i (before ++ bytes) (fed.text ++ feeds.text)) (sym feeds.intake)
          (on before fed.text fed.parts));
      feeds = feeds;
      waits = waits;
    }

says_front : (old new : CleaningOf) (bytes : List ℕ) (place : ℕ) → is_over old ≡ false → ReadsAtOnce old.intake
    → session.SaysFault buffer_means old new (Bytes bytes) place → FedFront old new bytes
says_front old new bytes place going at_once says policy references before fed =
    let waits = on_refused old new (Bytes bytes) (NotUtf8 place) going says in
    let front = front_text old.references old.intake says.taken bytes says.text at_once says.fault says.takes in
    let reads : ReadsOn buffer_means (tokenizer_of old) (tokenizer_of new) (chars says.text) =
    subst (λ (l : List ℕ). ReadsOn buffer_means (tokenizer_of old) (tokenizer_of new) l) front.waits
    (reads_all old new says.taken.text [] KeepOn says.feeds) in
    let held : new.intake.decoder.held ≡ [] = ap (λ (i : IntakeOf). i.decoder.held) says.intake ∙ front.held in
    let utf8 : new.intake.page ≡ None = ap (λ (i : IntakeOf). i.page) says.intake ∙ front.is in
    let was : before ≡ fed.text ++ old.intake.decoder.held =
    subst (λ (p : Option PageDecoding). IsTextSoFarBy p old.intake.decoder.held references before fed.text) front.was fed.parts in
    let read : List ℕ = fed.text ++ says.text in
    let parts : read ≡ read ++ new.intake.decoder.held = sym (ap (λ l. read ++ l) held ∙ append-nil read) in
    record {
      front = read;
      rest = front.rest;
      parts = fed_parts before fed.text old.intake.decoder.held bytes says.text front.rest was front.parts;
      fed = fed_text policy references old new before read says.text front.utf8 reads waits.taken says.feeds.rules fed
          (subst (λ (p : Option PageDecoding). IsTextSoFarBy p new.intake.decoder.held references read read) (sym utf8) parts);
    }

pub feed_refused : (old new : CleaningOf) (bytes : List ℕ) (error : SessionError) → is_over old ≡ false → ReadsAtOnce old.intake
    → session.FeedRefused buffer_means old new (Bytes bytes) error → FeedRefused old new bytes error
feed_refused old new bytes Memory going at_once (inl unchanged) = inl unchanged
feed_refused old new bytes Memory going at_once (inr loses) = inr (record { loses = loses; waits = on_refused old new (Bytes bytes) Memory going (inr loses) })
feed_refused old new bytes (NotUtf8 place) going at_once says = record {
  fed = says_front old new bytes place going at_once says;
  says = says;
  waits = on_refused old new (Bytes bytes) (NotUtf8 place) going says;
}
feed_refused old new bytes Cut going at_once refused = absurd refused
feed_refused old new bytes Waiting going at_once refused = absurd refused
feed_refused old new bytes ItemOpen going at_once refused = absurd refused
feed_refused old new bytes Over going at_once refused = refused

-- what a feed leaves is read at once, where more can be read
pub at_once-fed : (old new : CleaningOf) (piece : Piece) → session.FeedsPiece buffer_means old new piece KeepOn → ReadsAtOnce new.intake
at_once-fed old new piece feeds = record {
  read = feeds.feeds.all refl;
  no_fault = ap (λ (i : IntakeOf). i.fault) feeds.intake ∙ feeds.whole refl;
}

pub at_once-refused : (old new : CleaningOf) (piece : Piece) (error : SessionError) → (is_over old ≡ false → ReadsAtOnce old.intake)
    → session.FeedRefused buffer_means old new piece error → is_over new ≡ false → ReadsAtOnce new.intake
at_once-refused old new piece Memory at_once (inl unchanged) going =
    subst (λ (s : CleaningOf). is_over s ≡ false → ReadsAtOnce s.intake) (sym unchanged) at_once going
at_once-refused old new piece Memory at_once (inr loses) going =
    absurd (false≢true (sym (goes_on new.intake.lost new.detached.failed new.detached.ended going).0 ∙ loses.lost))
at_once-refused old new piece (NotUtf8 place) at_once says going = record {
  read = ap (λ (i : IntakeOf). i.text) says.intake;
  no_fault = ap (λ (i : IntakeOf). i.fault) says.intake;
}
at_once-refused old new piece Cut at_once refused going = absurd refused
at_once-refused old new piece Waiting at_once refused going = absurd refused
at_once-refused old new piece ItemOpen at_once refused going = absurd refused
at_once-refused old new piece Over at_once refused going =
    subst (λ (s : CleaningOf). is_over s ≡ false → ReadsAtOnce s.intake) (sym refused.unchanged) at_once going

-- ---- an end

-- of bytes that are UTF-8
pub ends_page : (old new : CleaningOf) → is_over old ≡ false → is_decoding old.intake ≡ false → session.EndsSession buffer_means old new → EndsPage old new
ends_page old new going strict ends = record {
  ended = λ policy references bytes fed.
      let same : new.intake ≡ old.intake = ap (λ (w : CleaningOf). w.intake) ends.kept in
      page_ends policy references old new fed.text bytes ends.ends.finishes (has_read policy references old bytes fed)
      (whole_utf8 references old.intake bytes fed.text (utf8_page old.intake strict) ends.read.whole fed.parts
      ∙ ap (λ (i : IntakeOf). whole_text references i bytes) (sym same));
  waits = on_end old new going ends;
  read = λ _. ends.read;
  kept = λ _. ends.kept;
  references = ap (λ (w : CleaningOf). w.references) ends.kept;
  over = ends.over;
}

pub end_refused : (old new : CleaningOf) (error : SessionError) → is_over old ≡ false → is_decoding old.intake ≡ false → ReadsAtOnce old.intake
    → session.EndRefused buffer_means old new error → EndRefused old new error
end_refused old new Memory going strict at_once loses =
    subst (λ (b : Bool). EndWantsMemory b old new) (sym strict) (record { loses = loses; waits = on_end_refused old new Memory going loses })
end_refused old new (NotUtf8 place) going strict at_once says = absurd (false≢true (sym at_once.no_fault ∙ says.fault))
end_refused old new Cut going strict at_once refused = (refused.0, refused.1, strict)
end_refused old new Waiting going strict at_once refused = absurd (refused.1 at_once.read)
end_refused old new ItemOpen going strict at_once refused = absurd refused
end_refused old new Over going strict at_once refused = refused

-- of a page that is decoded: the rest of its text was read, and then its end
abbrev pub ReadsRest : CleaningOf → CleaningOf → Type 0
ReadsRest old mid = session.FeedsPiece buffer_means old mid TheEnd KeepOn

ends_rest : (old mid new : CleaningOf) (text : List ℕ) (before : PageDecoding) → IsUtf8 text → text ≡ text_with old.references before []
    → old.intake.page ≡ Some before → new.intake.page ≡ Some (anew old.references before)
    → ReadsOn buffer_means (tokenizer_of old) (tokenizer_of mid) (chars text)
    → (buffer_of mid).out.taken ≡ (buffer_of old).out.taken → (tokenizer_of mid).rules ≡ (tokenizer_of old).rules
    → Finishes buffer_means (tokenizer_of mid) (cleaning_run new.detached.sink) → EndsFed old new
ends_rest old mid new text before utf8 rest was is reads untaken same finishes policy references bytes fed =
    let from : old.references ≡ references = table_is policy references old bytes fed in
    let now = reads_more policy references old mid fed.text text utf8 reads untaken same (has_read policy references old bytes fed) in
    let by : text ≡ text_with references before [] = rest ∙ ap (λ r. text_with r before []) from in
    let page : new.intake.page ≡ Some (anew references before) = is ∙ ap (λ r. Some (anew r before)) from in
    page_ends policy references mid new (fed.text ++ text) bytes finishes now
    (ap (λ l. fed.text ++ l) by ∙ whole_decoded references old.intake before bytes fed.text was fed.parts
    ∙ ap (λ (p : Option PageDecoding). whole_text_by p references bytes) (sym page))

pub ends_decoded : (old mid new : CleaningOf) → is_over old ≡ false → is_decoding old.intake ≡ true → ReadsAtOnce old.intake
    → ReadsRest old mid → session.EndsSession buffer_means mid new → EndsPage old new
ends_decoded old mid new going decoding at_once feeds ends =
    let waits = on_feed old mid TheEnd KeepOn going feeds in
    let rest = rest_text old.references old.intake feeds.taken feeds.text at_once decoding feeds.takes in
    let reads : ReadsOn buffer_means (tokenizer_of old) (tokenizer_of mid) (chars feeds.text) =
    subst (λ (l : List ℕ). ReadsOn buffer_means (tokenizer_of old) (tokenizer_of mid) l) rest.waits
    (reads_all old mid feeds.taken.text mid.intake.text KeepOn feeds.feeds) in
    let page : new.intake.page ≡ Some (anew old.references rest.before) =
    ap (λ (w : CleaningOf). w.intake.page) ends.kept ∙ ap (λ (i : IntakeOf). i.page) feeds.intake ∙ rest.is in
    record {
      ended = ends_rest old mid new feeds.text rest.before rest.utf8 rest.rest rest.was page reads waits.taken feeds.feeds.rules ends.ends.finishes;
      waits = waits_on-trans (buffer_of old) (buffer_of mid) (buffer_of new) waits (on_end mid new feeds.going_on ends);
      read = λ strict. absurd (false≢true (sym strict ∙ decoding));
      kept = λ strict. absurd (false≢true (sym strict ∙ decoding));
      references = ap (λ (w : CleaningOf). w.references) ends.kept ∙ ap (λ (w : CleaningOf). w.references) feeds.kept;
      over = ends.over;
    }

lost_over : (s : CleaningOf) → s.intake.lost ≡ true → is_over s ≡ true
lost_over s lost = ap (λ b. b || (s.detached.failed || s.detached.ended)) lost

-- where the rest could not be read
pub rest_refused : (old mid : CleaningOf) (error : SessionError) → is_over old ≡ false → is_decoding old.intake ≡ true → ReadsAtOnce old.intake
    → session.FeedRefused buffer_means old mid TheEnd error → EndRefused old mid error
rest_refused old mid Memory going decoding at_once (inl unchanged) = subst (λ (b : Bool). EndWantsMemory b old mid) (sym decoding) (inl unchanged)
rest_refused old mid Memory going decoding at_once (inr loses) =
    subst (λ (b : Bool). EndWantsMemory b old mid) (sym decoding) (inr (record {
      loses = inl loses;
      waits = on_refused old mid TheEnd Memory going (inr loses);
      references = ap (λ (w : CleaningOf). w.references) loses.kept;
      over = lost_over mid loses.lost;
    }))
rest_refused old mid (NotUtf8 place) going decoding at_once says =
    let rest = rest_text old.references old.intake says.taken says.text at_once decoding says.takes in
    absurd (false≢true (sym rest.silent ∙ says.fault))
rest_refused old mid Cut going decoding at_once refused = absurd refused
rest_refused old mid Waiting going decoding at_once refused = absurd refused
rest_refused old mid ItemOpen going decoding at_once refused = absurd refused
rest_refused old mid Over going decoding at_once refused = refused

-- where the end could not be sent after that
pub decoded_refused : (old mid new : CleaningOf) (error : SessionError) → is_over old ≡ false → is_decoding old.intake ≡ true → ReadsAtOnce old.intake
    → ReadsRest old mid → session.EndRefused buffer_means mid new error → EndRefused old new error
decoded_refused old mid new Memory going decoding at_once feeds loses =
    subst (λ (b : Bool). EndWantsMemory b old new) (sym decoding) (inr (record {
      loses = inr (record { between = mid; reads = feeds; loses = loses });
      waits = waits_on-trans (buffer_of old) (buffer_of mid) (buffer_of new) (on_feed old mid TheEnd KeepOn going feeds)
          (on_end_refused mid new Memory feeds.going_on loses);
      references = ap (λ (w : CleaningOf). w.references) loses.kept ∙ ap (λ (w : CleaningOf). w.references) feeds.kept;
      over = lost_over new (ap (λ (w : CleaningOf). w.intake.lost) loses.kept);
    }))
decoded_refused old mid new (NotUtf8 place) going decoding at_once feeds says =
    absurd (false≢true (sym (at_once-fed old mid TheEnd feeds).no_fault ∙ says.fault))
decoded_refused old mid new Cut going decoding at_once feeds refused =
    let rest = rest_text old.references old.intake feeds.taken feeds.text at_once decoding feeds.takes in
    let page : mid.intake.page ≡ Some (anew old.references rest.before) = ap (λ (i : IntakeOf). i.page) feeds.intake ∙ rest.is in
    absurd (refused.1.held (subst (λ (p : Option PageDecoding). IsCompleteBy p mid.intake.decoder.held) (sym page) refl))
decoded_refused old mid new Waiting going decoding at_once feeds refused = absurd (refused.1 (at_once-fed old mid TheEnd feeds).read)
decoded_refused old mid new ItemOpen going decoding at_once feeds refused = absurd refused
decoded_refused old mid new Over going decoding at_once feeds refused = absurd (false≢true (sym feeds.going_on ∙ refused.over))

-- ---- whole calls, of a session `s` that is seen as `t`

pub feed_ok : {Z : Type 0} (answer : TokenizerResult (Unit {0}) (String Z)) (s t new : CleaningOf) (bytes : List ℕ) → s ≡ t → is_over s ≡ false
    → ReadsAtOnce s.intake → session.FeedsPiece buffer_means s new (Bytes bytes) (reply_in string_bytes answer) → FeedsPiece t new bytes
feed_ok answer s t new bytes same going at_once feeds =
    subst (λ (w : CleaningOf). FeedsPiece w new bytes) same
    (feeds_piece s new bytes going at_once
    (subst (λ (r : Reply (Unit {0})). session.FeedsPiece buffer_means s new (Bytes bytes) r) (keeps_on s new (Bytes bytes) (reply_in string_bytes answer) going feeds) feeds))

-- what an answer says as `done` has it
on_any : {E : Type 0} (out : Result (Unit {0}) E) (P : Type 0) → P → OnOk out P
on_any (Ok done) P holds = holds
on_any (Err error) P holds = tt

not_refused : {E : Type 0} (out : Result (Unit {0}) E) (Q : E → Type 0) → IsOk out → IfErr out Q
not_refused (Ok done) Q is = tt
not_refused (Err error) Q is = absurd (false≢true is)

pub done_ok : {T E : Type 0} (result : Result T E) (out : Result (Unit {0}) E) (P : Type 0) → IfErr result (λ error. out ≡ Err error)
    → IfOk result (λ answer. P) → OnOk out P
done_ok (Ok answer) out P refused holds = on_any out P holds
done_ok (Err error) out P refused holds = subst (λ o. OnOk o P) (sym refused) tt

pub done_err : {T E : Type 0} (result : Result T E) (out : Result (Unit {0}) E) (Q : E → Type 0) → OnOk result (IsOk out)
    → IfErr result (λ error. out ≡ Err error) → IfErr result Q → IfErr out Q
done_err (Ok answer) out Q ok refused holds = not_refused out Q ok
done_err (Err error) out Q ok refused holds = subst (λ o. IfErr o Q) (sym refused) holds

no_error : {E : Type 0} (out : Result (Unit {0}) E) (e : E) → IsOk out → out ≡ Err e → ⊥
no_error out e ok is = false≢true (subst IsOk is ok)

pub done_over : {T E : Type 0} (result : Result T E) (out : Result (Unit {0}) E) (e : E) → OnOk result (IsOk out)
    → IfErr result (λ error. out ≡ Err error) → out ≡ Err e → result ≡ Err e
done_over (Ok answer) out e ok refused is = absurd (no_error out e ok is)
done_over (Err error) out e ok refused is =
    let same = sym refused ∙ is in
    cc same

-- after a feed
pub at_once-feed : {Z : Type 0} (result : Result (TokenizerResult (Unit {0}) (String Z)) SessionError) (s new : CleaningOf) (bytes : List ℕ)
    → is_over s ≡ false → ReadsAtOnce s.intake
    → IfOk result (λ answer. session.FeedsPiece buffer_means s new (Bytes bytes) (reply_in string_bytes answer))
    → IfErr result (λ error. session.FeedRefused buffer_means s new (Bytes bytes) error) → is_over new ≡ false → ReadsAtOnce new.intake
at_once-feed (Ok answer) s new bytes going at_once feeds refused still =
    at_once-fed s new (Bytes bytes)
    (subst (λ (r : Reply (Unit {0})). session.FeedsPiece buffer_means s new (Bytes bytes) r) (keeps_on s new (Bytes bytes) (reply_in string_bytes answer) going feeds) feeds)
at_once-feed (Err error) s new bytes going at_once feeds refused still = at_once-refused s new (Bytes bytes) error (λ _. at_once) refused still

-- a feed that ended the bytes, as one that didn't pause
pub reads_rest : {Z : Type 0} (answer : TokenizerResult (Unit {0}) (String Z)) (s mid : CleaningOf) → is_over s ≡ false
    → session.FeedsPiece buffer_means s mid TheEnd (reply_in string_bytes answer) → ReadsRest s mid
reads_rest answer s mid going feeds =
    subst (λ (r : Reply (Unit {0})). session.FeedsPiece buffer_means s mid TheEnd r) (keeps_on s mid TheEnd (reply_in string_bytes answer) going feeds) feeds

-- an answer that is one, as `done` has it
pub answer_ok : {T E : Type 0} (result : Result T E) (out : Result (Unit {0}) E) (u : Unit {0}) (P : T → Type 0) (Q : Type 0)
    → IfErr result (λ error. out ≡ Err error) → out ≡ Ok u → IfOk result P → ((x : T) → P x → Q) → Q
answer_ok (Ok x) out u P Q refused is holds later = later x holds
answer_ok (Err error) out u P Q refused is holds later = absurd (no_error out error (subst IsOk (sym is) refl) refused)

-- and one that is an error
pub answer_err : {T E : Type 0} (result : Result T E) (out : Result (Unit {0}) E) (error : E) (R : E → Type 0) → OnOk result (IsOk out)
    → IfErr result (λ e. out ≡ Err e) → out ≡ Err error → IfErr result R → R error
answer_err (Ok x) out error R ok refused is holds = absurd (no_error out error ok is)
answer_err (Err e) out error R ok refused is holds =
    let same : e ≡ error = same_err e error (sym refused ∙ is) in
    subst R same holds where
      same_err : {E : Type 0} (e f : E) → ◌≡◌ {A = Result (Unit {0}) E} (Err e) (Err f) → e ≡ f
      same_err e f is = cc is

-- after an end
pub at_once-end : (result : Result (Unit {0}) SessionError) (s new : CleaningOf) → ReadsAtOnce s.intake
    → OnOk result (session.EndsSession buffer_means s new) → IfErr result (λ error. session.EndRefused buffer_means s new error)
    → is_over new ≡ false → ReadsAtOnce new.intake
at_once-end (Ok done) s new at_once ends refused still = absurd (false≢true (sym still ∙ ends.over))
at_once-end (Err Memory) s new at_once ends refused still =
    absurd (false≢true (sym (goes_on new.intake.lost new.detached.failed new.detached.ended still).0 ∙ ap (λ (w : CleaningOf). w.intake.lost) refused.kept))
at_once-end (Err (NotUtf8 place)) s new at_once ends refused still = absurd (false≢true (sym at_once.no_fault ∙ refused.fault))
at_once-end (Err Cut) s new at_once ends refused still = subst (λ (w : CleaningOf). ReadsAtOnce w.intake) (sym refused.0) at_once
at_once-end (Err Waiting) s new at_once ends refused still = subst (λ (w : CleaningOf). ReadsAtOnce w.intake) (sym refused.0) at_once
at_once-end (Err ItemOpen) s new at_once ends refused still = absurd refused
at_once-end (Err Over) s new at_once ends refused still = subst (λ (w : CleaningOf). ReadsAtOnce w.intake) (sym refused.unchanged) at_once

-- ---- another page

-- when nothing was fed as UTF-8, nothing was fed to the session that has this decoder of a page at its start, if there is one
fed_again : (policy : PolicyOf) (references : List NamedReference) (s : CleaningOf) (page : Option PageDecoding) (limit : ℕ) → s.intake.page ≡ None
    → Fed policy references s []
    → Fed policy references (record s { intake = record s.intake { limit = limit; page = option_map (λ d. page_start d.said d.fallback) page } }) []
fed_again policy references s page limit utf8 fed = again page where
  front : [] ≡ fed.text ++ s.intake.decoder.held
  front = subst (λ (p : Option PageDecoding). IsTextSoFarBy p s.intake.decoder.held references [] fed.text) utf8 fed.parts

  again : (page : Option PageDecoding)
      → Fed policy references (record s { intake = record s.intake { limit = limit; page = option_map (λ d. page_start d.said d.fallback) page } }) []
  again None = record { text = fed.text; parts = front; utf8 = fed.utf8; stands = fed.stands; rules = fed.rules }
  again (Some d) = record {
    text = fed.text;
    parts = λ rest. ap (λ l. l ++ text_of_page references d.said d.fallback rest) (sym (nil_front fed.text s.intake.decoder.held front));
    utf8 = fed.utf8;
    stands = fed.stands;
    rules = fed.rules;
  }

pub starts_again : (p policy : PolicyOf) (r references : List NamedReference) (l limit : ℕ) (i : IntakeOf) (q : Option PageDecoding) (s t u : CleaningOf)
    → p ≡ policy → r ≡ references → l ≡ limit → q ≡ page_again i
    → StartsPage p r (2 ^ 64 - 1) None s → t ≡ record s { intake = record s.intake { limit = l } } → u ≡ record t { intake = record t.intake { page = q } }
    → StartsPage policy references limit (page_again i) u
starts_again p policy r references l limit i q s t u by table at_most paged starts is then_is =
    let w : CleaningOf = record s { intake = record s.intake { limit = l; page = page_again i } } in
    let same : StartsPage p r l (page_again i) w = record {
      fed = fed_again p r s i.page l (ap (λ (j : IntakeOf). j.page) starts.intake) starts.fed;
      buffer = starts.buffer;
      table = starts.table;
      intake = ap (λ (j : IntakeOf). record j { limit = l; page = page_again i }) starts.intake;
      going_on = starts.going_on;
    } in
    let is_w : u ≡ w =
    then_is ∙ ap (λ (x : CleaningOf). record x { intake = record x.intake { page = q } }) is
    ∙ ap (λ (x : Option PageDecoding). record s { intake = record s.intake { limit = l; page = x } }) paged in
    subst (λ (x : CleaningOf). StartsPage policy references limit (page_again i) x) (sym is_w)
    (subst (λ (n : ℕ). StartsPage policy references n (page_again i) w) at_most
    (subst (λ (n : List NamedReference). StartsPage policy n l (page_again i) w) table
    (subst (λ (n : PolicyOf). StartsPage n r l (page_again i) w) by same)))
