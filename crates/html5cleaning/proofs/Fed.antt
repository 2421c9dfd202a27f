-- The bytes fed to a session, from its start to its end, and that takes don't change them.
use Rattle.std.proofs.Common.{◌≡◌, ℕ, false, List, [], ◌∷◌, ◌++◌, length, Option, None, Some, refl, sym, ap, ◌∙◌, subst, append_assoc, arith, length-append}
use Rattle.std.specs.Prelude.{is_some}
use Rattle.std.proofs.lemmas.Bool.{false≢true}
use Rattle.std.specs.Str.{IsUtf8, chars}
use Rattle.std.proofs.lemmas.List.{append-nil}
use Rattle.std.proofs.lemmas.Str.{IsUtf8-append, IsUtf8-nil, chars-append, chars-nil}
use Rattle.markup5ever.specs.NamedReferences.{NamedReference}
use Rattle.html5ever_interface.specs.Options.{OptionsOf, default_options}
use Rattle.html5ever_interface.specs.Token.{Told}
use Rattle.html5ever_interface.specs.Token.Told.{Text, Error}
use Rattle.html5session.specs.Intake.{IntakeOf, IsComplete, IsCompleteBy, IsTextSoFar, IsTextSoFarBy, IsUnbegunBy, is_decoding, nothing_taken, whole_text, whole_text_by}
use Rattle.html5sniffing.specs.PageDecoding.{IsUnbegun, PageDecoding, anew, page_start, text_with}
use Rattle.html5sniffing.specs.PageEncoding.{text_of_page}
use Rattle.html5session.specs.Session.{tokenizer_of}
use Rattle.html5ever.specs.Tokenizer.{StandsAt, Finishes, ReadsOn, rules_of, state_at_end}
use Rattle.html5reading.specs.Start.{Rules, start_of}
use Rattle.html5sinks.specs.Runs.{RunSink, Running, runs_step}
use Rattle.html5stream.specs.Pages.{runs_after, runs_handed, runs_page, runs_start}
use Rattle.html5session.proofs.SameReadings.{StandsAt-same}
use Rattle.html5policy.specs.Policy.{PolicyOf}
use Rattle.html5cleaner.specs.Buffering.{Buffered, after_taking, buffer_start, buffered_step}
use Rattle.html5cleaner.proofs.Buffers.{buffered-page}
use Rattle.html5cleaner.specs.Cleaning.{kept_of_page, page_bytes}
use Rattle.html5encodings.specs.declared.encoding.Encoding.{Encoding}
use Rattle.html5cleaning.specs.Cleaning.{CleaningOf, DecodesFrom, Ended, Fed, StaysFed, after_session_takes, buffer_means, buffer_of, cleaning_run}

abbrev S : Type 0
S = Running Buffered

-- ---- the start

pub fed_none : (policy : PolicyOf) (references : List NamedReference) (s : CleaningOf) (opts : OptionsOf) (sink : RunSink Buffered)
    → s.intake ≡ nothing_taken → opts ≡ default_options → StandsAt buffer_means (tokenizer_of s) (start_of opts) (cleaning_run sink) []
    → cleaning_run sink ≡ runs_start (buffer_start policy 0) → (buffer_of s).out.taken ≡ 0 → (tokenizer_of s).rules ≡ rules_of opts references
    → Fed policy references s []
fed_none policy references s opts sink none chosen stands begun untaken rules =
    let K = start_of default_options in
    let from : StandsAt buffer_means (tokenizer_of s) K (runs_start (buffer_start policy 0)) [] =
    subst (λ (k : S). StandsAt buffer_means (tokenizer_of s) K k []) begun
    (subst (λ (o : OptionsOf). StandsAt buffer_means (tokenizer_of s) (start_of o) (cleaning_run sink) []) chosen stands) in
    let here : StandsAt buffer_means (tokenizer_of s) K (runs_start (buffer_start policy (buffer_of s).out.taken)) [] =
    subst (λ (n : ℕ). StandsAt buffer_means (tokenizer_of s) K (runs_start (buffer_start policy n)) []) (sym untaken) from in
    record {
      text = [];
      parts = subst (λ (i : IntakeOf). IsTextSoFar references i [] []) (sym none) refl;
      utf8 = IsUtf8-nil;
      stands = rw chars-nil here;
      rules = rules ∙ ap (λ (o : OptionsOf). rules_of o references) chosen;
    }

-- ---- a text more

-- this text was read, by this policy and this table
pub record HasRead (policy : PolicyOf) (references : List NamedReference) (s : CleaningOf) (text : List ℕ) : Type 0 where
  pub utf8 : IsUtf8 text
  pub stands : StandsAt buffer_means (tokenizer_of s) (start_of default_options)
      (runs_start (buffer_start policy (buffer_of s).out.taken)) (chars text)
  pub rules : (tokenizer_of s).rules ≡ rules_of default_options references

pub has_read : (policy : PolicyOf) (references : List NamedReference) (s : CleaningOf) (bytes : List ℕ) → (fed : Fed policy references s bytes)
    → HasRead policy references s fed.text
has_read policy references s bytes fed = record { utf8 = fed.utf8; stands = fed.stands; rules = fed.rules }

pub reads_more : (policy : PolicyOf) (references : List NamedReference) (old new : CleaningOf) (before text : List ℕ) → IsUtf8 text
    → ReadsOn buffer_means (tokenizer_of old) (tokenizer_of new) (chars text)
    → (buffer_of new).out.taken ≡ (buffer_of old).out.taken → (tokenizer_of new).rules ≡ (tokenizer_of old).rules
    → HasRead policy references old before → HasRead policy references new (before ++ text)
reads_more policy references old new before text utf8 reads untaken same was =
    let K = start_of default_options in
    let further = reads K (runs_start (buffer_start policy (buffer_of old).out.taken)) (chars before) was.stands in
    record {
      utf8 = IsUtf8-append _ _ was.utf8 utf8;
      stands = subst (λ (n : ℕ). StandsAt buffer_means (tokenizer_of new) K (runs_start (buffer_start policy n)) (chars (before ++ text)))
          (sym untaken) (rw (chars-append before text was.utf8) further);
      rules = same ∙ was.rules;
    }

pub fed_text : (policy : PolicyOf) (references : List NamedReference) (old new : CleaningOf) (before after text : List ℕ) → IsUtf8 text
    → ReadsOn buffer_means (tokenizer_of old) (tokenizer_of new) (chars text)
    → (buffer_of new).out.taken ≡ (buffer_of old).out.taken → (tokenizer_of new).rules ≡ (tokenizer_of old).rules
    → (fed : Fed policy references old before) → IsTextSoFar references new.intake after (fed.text ++ text) → Fed policy references new after
fed_text policy references old new before after text utf8 reads untaken same fed so_far =
    let now = reads_more policy references old new fed.text text utf8 reads untaken same (has_read policy references old before fed) in
    record { text = fed.text ++ text; parts = so_far; utf8 = now.utf8; stands = now.stands; rules = now.rules }

-- the fed bytes, those held of them, and a piece, where a text of them was read
pub fed_parts : (before text held bytes more rest : List ℕ) → before ≡ text ++ held → held ++ bytes ≡ more ++ rest → before ++ bytes ≡ (text ++ more) ++ rest
fed_parts before text held bytes more rest was is =
    ap (λ l. l ++ bytes) was ∙ append_assoc text held bytes ∙ ap (λ l. text ++ l) is ∙ sym (append_assoc text more rest)

-- ---- a take

-- this many of the waiting bytes were taken
abbrev taking_run : ℕ → S → S
taking_run count s = record s { joined = record s.joined { handler = after_taking s.joined.handler count } }

taking-steps : (count : ℕ) (s : S) (told : Told) (line : ℕ)
    → runs_step buffered_step (taking_run count s) told line ≡ taking_run count (runs_step buffered_step s told line)
taking-steps count s (Text text) line = refl
taking-steps count s (Error message) line = refl
taking-steps count s other line = refl

fed-taking : (policy : PolicyOf) (references : List NamedReference) (s : CleaningOf) (count : ℕ) (bytes : List ℕ)
    → Fed policy references s bytes → Fed policy references (after_session_takes s count) bytes
fed-taking policy references s count bytes fed = record {
  text = fed.text;
  parts = fed.parts;
  utf8 = fed.utf8;
  stands = StandsAt-same buffer_means (taking_run count) (taking-steps count) (λ q told line. refl) (λ q. refl) (tokenizer_of s)
      (tokenizer_of (after_session_takes s count)).sink (start_of default_options) (runs_start (buffer_start policy (buffer_of s).out.taken))
      (chars fed.text) refl fed.stands;
  rules = fed.rules;
}

pub stays_fed : (old new : CleaningOf) (count : ℕ) → new ≡ after_session_takes old count → StaysFed old new
stays_fed old new count is policy references bytes fed =
    subst (λ (w : CleaningOf). Fed policy references w bytes) (sym is) (fed-taking policy references old count bytes fed)

-- ---- the end

-- what the cleaner kept of a text that was read to its end
read_by_runs : (policy : PolicyOf) (references : List NamedReference) (taken : ℕ) (text : List ℕ) (state : S)
    → state ≡ state_at_end buffer_means (rules_of default_options references) (start_of default_options) (runs_start (buffer_start policy taken)) (chars text)
    → state.joined.handler ≡ runs_after buffered_step references (buffer_start policy taken) text
unfolding runs_page runs_handed
read_by_runs policy references taken text state is = ap (λ (s : S). s.joined.handler) is

-- what was kept of all that was read, where it is the whole text of these bytes
pub page_ends : (policy : PolicyOf) (references : List NamedReference) (old new : CleaningOf) (text bytes : List ℕ)
    → Finishes buffer_means (tokenizer_of old) (cleaning_run new.detached.sink) → HasRead policy references old text
    → text ≡ whole_text references new.intake bytes → Ended policy references new bytes
page_ends policy references old new text bytes finishes read whole =
    let taken = (buffer_of old).out.taken in
    let begun = runs_start (buffer_start policy taken) in
    let told : cleaning_run new.detached.sink ≡ state_at_end buffer_means (rules_of default_options references) (start_of default_options) begun (chars text) =
    finishes (start_of default_options) begun (chars text) read.stands
    ∙ ap (λ (r : Rules). state_at_end buffer_means r (start_of default_options) begun (chars text)) read.rules in
    record {
      utf8 = subst IsUtf8 whole read.utf8;
      page = ap (λ (b : Buffered). b.out.bytes) (read_by_runs policy references taken text (cleaning_run new.detached.sink) told)
          ∙ buffered-page policy taken references text
          ∙ ap (λ l. page_bytes (kept_of_page policy references l)) whole;
    }

-- ---- the whole text

pub utf8_page : (i : IntakeOf) → is_decoding i ≡ false → i.page ≡ None
utf8_page i is = none i.page is where
  none : (page : Option PageDecoding) → is_some page ≡ false → page ≡ None
  none None is = refl
  none (Some d) is = absurd (false≢true (sym is))

-- of bytes that are UTF-8, when nothing is held
pub whole_utf8 : (references : List NamedReference) (i : IntakeOf) (bytes text : List ℕ) → i.page ≡ None → IsComplete i → IsTextSoFar references i bytes text
    → text ≡ whole_text references i bytes
whole_utf8 references i bytes text utf8 complete so_far =
    let held : i.decoder.held ≡ [] = subst (λ (p : Option PageDecoding). IsCompleteBy p i.decoder.held) utf8 complete in
    let parts : bytes ≡ text ++ i.decoder.held = subst (λ (p : Option PageDecoding). IsTextSoFarBy p i.decoder.held references bytes text) utf8 so_far in
    sym (ap (λ (p : Option PageDecoding). whole_text_by p references bytes) utf8 ∙ parts ∙ ap (λ l. text ++ l) held ∙ append-nil text)

-- of a page that is decoded, with the rest of it
pub whole_decoded : (references : List NamedReference) (i : IntakeOf) (before : PageDecoding) (bytes text : List ℕ) → i.page ≡ Some before
    → IsTextSoFar references i bytes text
    → text ++ text_with references before [] ≡ whole_text_by (Some (anew references before)) references bytes
whole_decoded references i before bytes text was so_far =
    let on : IsTextSoFarBy (Some before) i.decoder.held references bytes text =
    subst (λ (p : Option PageDecoding). IsTextSoFarBy p i.decoder.held references bytes text) was so_far in
    sym (on []) ∙ ap (text_of_page references before.said before.fallback) (append-nil bytes)

-- ---- the start of a page that is decoded

pub nil_front : (a b : List ℕ) → [] ≡ a ++ b → a ≡ []
nil_front [] b is = refl
nil_front (x ∷ a) b is = absurd (cc is)

self_front : (a b : List ℕ) → b ≡ a ++ b → a ≡ []
self_front [] b is = refl
self_front (x ∷ a) b is = absurd (omega (arith, ap length is, length-append (x ∷ a) b))

-- nothing was pushed to a decoder, if there is one
abbrev IsUnbegunPage : Option PageDecoding → Type 0
IsUnbegunPage None = Unit {0}
IsUnbegunPage (Some d) = IsUnbegun d

page_unbegun : (i : IntakeOf) (page : Option PageDecoding) → IsUnbegunBy page i → IsUnbegunPage page
page_unbegun i None unbegun = tt
page_unbegun i (Some d) unbegun = unbegun

-- a decoder to which nothing was pushed gives the page's text
start-text : (references : List NamedReference) (d : PageDecoding) → IsUnbegun d → text_with references d [] ≡ text_of_page references d.said d.fallback []
start-text references d unbegun = rw (unbegun.unknown, unbegun.none_held) refl

-- nothing was fed, so no text of it came
none_so_far : (references : List NamedReference) (page : Option PageDecoding) (held text : List ℕ) → IsTextSoFarBy page held references [] text
    → IsUnbegunPage page → text ≡ []
none_so_far references None held text so_far unbegun = nil_front text held so_far
none_so_far references (Some d) held text so_far unbegun =
    self_front text (text_of_page references d.said d.fallback []) (so_far [] ∙ ap (λ l. text ++ l) (start-text references d unbegun))

pub decodes_from : (said : Option Encoding) (old new : CleaningOf) → IsUnbegunBy old.intake.page old.intake
    → new ≡ record old { intake = record old.intake { page = Some (page_start said None) } } → DecodesFrom old new
decodes_from said old new unbegun is policy references fed =
    let none : fed.text ≡ [] = none_so_far references old.intake.page old.intake.decoder.held fed.text fed.parts (page_unbegun old.intake old.intake.page unbegun) in
    subst (λ (w : CleaningOf). Fed policy references w []) (sym is) (record {
      text = fed.text;
      parts = λ rest. ap (λ l. l ++ text_of_page references said None rest) (sym none);
      utf8 = fed.utf8;
      stands = fed.stands;
      rules = fed.rules;
    })
