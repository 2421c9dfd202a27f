-- Between tags a run tells its characters, each on its own line, and moves nothing but the line. Where something is open that takes
-- it, it tells nothing.
use Rattle.html5reading.specs.Reading.Here.{Tells}
use Rattle.html5reading.specs.Machine.{step_at}
use Rattle.std.proofs.Common.{◌≡◌, ◌≢◌, ℕ, ◌<◌, ◌^◌, Bool, false, inl, cond, List, [], ◌∷◌, ◌++◌, inr, refl, ap, sym, ◌∙◌, arith, Some, true, take, drop, subst, ◌↔◌}
use Rattle.std.specs.Prelude.{map, ◌==◌, ◌&&◌, ◌⊎◌, All, Contains, encode_utf8, encode_utf8_all, is_some, IfSome}
use Rattle.std.specs.Str.{IsUtf8, chars}
use Rattle.std.proofs.lemmas.Bool.{ne_eqb}
use Rattle.std.proofs.Math.Bool.{and-false}
use Rattle.markup5ever.specs.SmallCharSet.{IsMember, BeginsOutside}
use Rattle.std.proofs.lemmas.List.{append_assoc, append-nil}
use Rattle.std.proofs.lemmas.List.Elements.{All-head, All-tail, All-weaker}
use Rattle.std.proofs.lemmas.List.Sums.{sum_by-append}
use Rattle.html5ever_interface.specs.Sink.{Means, Message, stepped, on_line}
use Rattle.html5ever_interface.specs.Token.{Told, is_tag}
use Rattle.html5ever_interface.specs.Token.Reply.{KeepOn}
use Rattle.html5ever_interface.specs.Token.Told.{Text}
use Rattle.html5ever_interface.specs.declared.states.AttrValueKind.{AttrValueKind}
use Rattle.html5ever_interface.specs.declared.states.AttrValueKind.TheVariants.{Unquoted, SingleQuoted, DoubleQuoted}
use Rattle.html5reading.specs.Characters.{line_feed, carriage_return, is_bad_character}
use Rattle.html5reading.specs.NormalisedText.{normalised, line_after, input_after}
use Rattle.html5reading.specs.Reading.{messages_so_far, start_after}
use Rattle.html5reading.specs.Reference.{with_value}
use Rattle.html5reading.specs.Start.{Input, Start, Open, OpenTag, Mode, Rules, nothing_open}
use Rattle.html5reading.specs.Start.Place.{InName, BeforeAttribute, InAttributeName, AfterAttributeName, BeforeValue, InValue, AfterQuotedValue, AfterSolidus}
use Rattle.html5reading.specs.Start.Open.{Between, LessThan, LessThanSolidus, InTag, InRaw, InDeclaration, InComment, InBogusComment, InInstruction, InDoctype, InDoctypeKeyword, InCdata, InReference}
use Rattle.html5reading.proofs.InputLemmas.{line_past, lines_past, line_after-none}
use Rattle.html5reading.proofs.NoTags.{NoTags}
use Rattle.html5reading.proofs.ReadingLemmas.{between-mode, told-trace, after-opened, after-last}
use Rattle.html5reading.proofs.Traces.{Trace, trace, trace_here, with_messages, brought-tells, trace_brought}
use Rattle.html5partial.specs.Runs.{IsRunAt, is_unquoted, other_run_ends, run_ends, run_tokens, opened_after_run}
use Rattle.html5partial.proofs.RunSteps.{step-run, opened_after_run-nil, opened_after_run-cons, other_run_ends-after, no_line_feed, no_carriage_return}
use Rattle.html5fast_path.proofs.Runs as quiet
use Rattle.html5fast_path.proofs.Runs.{run-decided, run_tokens-open, open-after, some_of}
use Rattle.html5feed.specs.Feed.{first_pause}
use Rattle.html5feed.specs.Refused.{IsGoodRun, IsRun}
use Rattle.html5feed.proofs.RunInput.{normalised-run, input_after-run, line-run}
use Rattle.html5feed.proofs.Pauses.{NoTagMessages, first_pause-no_tags, no_tag_messages}
use Rattle.html5states.specs.Telling.{IsToldAs}
use Rattle.html5states.proofs.Tellings.{concat-encoded}

-- a character that is not part of a line break
pub record IsOrdinary (c : ℕ) : Type 0 where
  pub no_line_feed : c ≢ line_feed
  pub no_carriage_return : c ≢ carriage_return

-- no character of a run is a CR
pub no_returns : (opened : Open) (run : List ℕ) → (is_run : IsRunAt opened run) → All (λ c. c ≢ carriage_return) run
no_returns opened run is_run =
    All-weaker (λ c. ¬ Contains (run_ends is_run.others) c) (λ c. c ≢ carriage_return) (no_carriage_return is_run.others) run is_run.ordinary

-- and none is a LF, where something is open that takes the run
within-ordinary : (opened : Open) (run : List ℕ) → IsRunAt opened run → nothing_open opened ≡ false → All IsOrdinary run
within-ordinary opened run is_run within =
    All-weaker (λ c. ¬ Contains (run_ends is_run.others) c) IsOrdinary
    (λ c out. record { no_line_feed = no_line_feed opened is_run.others c within is_run.has_runs out; no_carriage_return = no_carriage_return is_run.others c out })
    run is_run.ordinary

ordinary-no_returns : (run : List ℕ) → All IsOrdinary run → All (λ c. c ≢ carriage_return) run
ordinary-no_returns run all = All-weaker IsOrdinary (λ c. c ≢ carriage_return) (λ c o. o.no_carriage_return) run all

pub normalised-ordinary : (I : Input) (run : List ℕ) → I.after_carriage_return ≡ false → I.drops_byte_order_mark ≡ false → All IsOrdinary run → normalised I run ≡ run
normalised-ordinary I run line_break start all = normalised-run I run line_break start (ordinary-no_returns run all)

-- the line stays if none is a LF
line_after-ordinary : (I : Input) (before : List ℕ) (c : ℕ) → IsOrdinary c → line_after I (before ++ c ∷ []) ≡ line_after I before
unfolding line_after
line_after-ordinary I before c o =
    rw (sum_by-append (λ (x : ℕ). cond (x == line_feed) 1 0) before (c ∷ []), ne_eqb c line_feed o.no_line_feed) (omega arith)

line_after-same : (I : Input) (before run : List ℕ) → All IsOrdinary run → line_after I (before ++ run) ≡ line_after I before
line_after-same I before [] all = rw append-nil refl
line_after-same I before (c ∷ run) all =
    ap (line_after I) (sym (append_assoc before (c ∷ []) run))
    ∙ line_after-same I (before ++ c ∷ []) run (All-tail IsOrdinary c run all)
    ∙ line_after-ordinary I before c (All-head IsOrdinary c run all)

-- and so does the input
pub input_after-ordinary : (I : Input) (run : List ℕ) → I.after_carriage_return ≡ false → I.drops_byte_order_mark ≡ false → All IsOrdinary run → I.line < 2 ^ 64 → input_after I run ≡ I
input_after-ordinary I run line_break start all h =
    input_after-run I run line_break start (ordinary-no_returns run all) h
    ∙ ap (λ line. record I { line = line }) (line_after-same I [] run all ∙ line_after-none I h)

pub input_after-within : (rules : Rules) (K : Start) (run : List ℕ) → IsRun rules K run → nothing_open K.opened ≡ false → K.input.line < 2 ^ 64 → input_after K.input run ≡ K.input
input_after-within rules K run r within h =
    input_after-ordinary K.input run r.past_line_break r.past_stream_start (within-ordinary K.opened run r.is_run within) h

-- the beginning of a text that is outside the set is a run, where the set has what ends one
pub run-begins : (rules : Rules) (K : Start) (set : ℕ) (text : List ℕ) (len : ℕ) → (rules.exact ≡ false) ⊎ IsGoodRun K.opened (chars (take len text))
    → (K.input.after_carriage_return ≡ false) × (K.input.drops_byte_order_mark ≡ false)
    → is_some (other_run_ends K.opened) ≡ true
    → IfSome (other_run_ends K.opened) (λ others. (c : ℕ) → IsMember set c ↔ Contains (run_ends others) c)
    → IsUtf8 text → BeginsOutside set text len → len ≢ 0 → IsRun rules K (chars (take len text))
run-begins rules K set text len good past has ends utf8 begins some = record {
  good = good;
  past_line_break = past.0;
  past_stream_start = past.1;
  is_run = quiet.run-begins K.opened set text len has ends utf8 begins some;
}

-- where the first character of a text ends no run, a run is found
pub run-found : (K : Start) (set : ℕ) (text : List ℕ) (len : ℕ)
    → is_some (other_run_ends K.opened) ≡ true
    → IfSome (other_run_ends K.opened) (λ others. (c : ℕ) → IsMember set c ↔ Contains (run_ends others) c)
    → ((c : ℕ) (rest : List ℕ) → chars (drop len text) ≡ c ∷ rest → IsMember set c)
    → IfSome (other_run_ends K.opened) (λ others. (c : ℕ) (rest : List ℕ) → chars text ≡ c ∷ rest → ¬ Contains (run_ends others) c → len ≢ 0)
run-found K set text len has ends stops =
    let found = some_of (other_run_ends K.opened) has in
    let same : (c : ℕ) → IsMember set c ↔ Contains (run_ends found.0) c = rw found.1 at ends in
    rw found.1 (λ c rest first out. λ zero. out ((same c).0 (stops c rest (subst (λ n. chars (drop n text) ≡ c ∷ rest) (sym zero) first))))

-- a run tells no tag
no_tags-texts : (cs : List ℕ) → NoTags (map (λ (c : ℕ). Text (encode_utf8 c)) cs)
unfolding NoTags
no_tags-texts [] = tt
no_tags-texts (c ∷ cs) = (refl, no_tags-texts cs)

-- case by case: a run tells texts or nothing
no_tags-run : (opened : Open) (run : List ℕ) → NoTags (run_tokens opened run)
unfolding NoTags
no_tags-run (Between mode) run = no_tags-texts run
no_tags-run LessThan run = tt
no_tags-run LessThanSolidus run = tt
no_tags-run (InTag place tag) run = tt
no_tags-run (InRaw place name) run = tt
no_tags-run (InDeclaration held) run = tt
no_tags-run (InComment text) run = tt
no_tags-run (InBogusComment text) run = tt
no_tags-run (InInstruction content) run = tt
no_tags-run (InCdata text) run = tt
no_tags-run (InDoctype place doctype) run = tt
no_tags-run (InDoctypeKeyword held doctype) run = tt
no_tags-run (InReference stand held) run = tt

-- what a run tells from a line on: each character on the line that is reached with it
unfoldable pub run_messages : Open → ℕ → List ℕ → List Message
run_messages opened line [] = []
run_messages opened line (c ∷ run) =
    on_line (line_past line c) (run_tokens opened (c ∷ [])) ++ run_messages (opened_after_run opened (c ∷ [])) (line_past line c) run

-- nothing, where something is open that takes it
pub run_messages-within : (opened : Open) (line : ℕ) (run : List ℕ) → nothing_open opened ≡ false → run_messages opened line run ≡ []
unfolding run_messages
run_messages-within opened line [] within = refl
run_messages-within opened line (c ∷ run) within =
    rw (run_tokens-open opened (c ∷ []) within)
    (run_messages-within (opened_after_run opened (c ∷ [])) (line_past line c) run (open-after opened (c ∷ []) within))

-- between tags the texts of its characters, of which the last stands on the line that is reached after it
texts-run : (mode : Mode) (line : ℕ) (run : List ℕ)
    → map (λ (m : Message). m.token) (run_messages (Between mode) line run) ≡ map (λ (text : List ℕ). Text text) (map encode_utf8 run)
unfolding run_messages
texts-run mode line [] = refl
texts-run mode line (c ∷ run) = ap (λ l. Text (encode_utf8 c) ∷ l) (texts-run mode (line_past line c) run)

last-run : (mode : Mode) (line : ℕ) (run : List ℕ) → run ≢ []
    → (front : List Message) × ((last : Message) × ((run_messages (Between mode) line run ≡ front ++ last ∷ []) × (lines_past line run ≡ last.line)))
unfolding run_messages lines_past
last-run mode line [] filled = absurd (filled refl)
last-run mode line (c ∷ []) filled = ([], (record { token = Text (encode_utf8 c); line = line_past line c }, (refl, refl)))
last-run mode line (c ∷ d ∷ run) filled =
    let more = last-run mode (line_past line c) (d ∷ run) (λ e. cc) in
    let first : Message = record { token = Text (encode_utf8 c); line = line_past line c } in
    (first ∷ more.0, (more.1.0, (ap (λ l. first ∷ l) more.1.1.0, more.1.1.1)))

-- so one text says it
pub run-said : (rules : Rules) (K : Start) (run : List ℕ) → IsRun rules K run → nothing_open K.opened ≡ true → K.input.line < 2 ^ 64
    → IsToldAs (Text (encode_utf8_all run)) (input_after K.input run).line (run_messages K.opened K.input.line run)
run-said rules K run r clean h =
    let is = between-mode K.opened clean in
    let last = last-run is.0 K.input.line run r.is_run.filled in
    rw is.1 (inr (record {
      texts = map encode_utf8 run;
      says = texts-run is.0 K.input.line run;
      joined = ap Text (sym (concat-encoded run));
      front = last.0;
      last = last.1.0;
      ends = last.1.1.0;
      on_last_line = line-run K.input run r.past_line_break r.past_stream_start (no_returns K.opened run r.is_run) h ∙ last.1.1.1;
    }))

-- no tag is among it
no_tags-append : (M N : List Message) → NoTagMessages M → NoTagMessages N → NoTagMessages (M ++ N)
unfolding NoTagMessages
no_tags-append [] N f g = g
no_tags-append (m ∷ M) N f g = (f.0, no_tags-append M N f.1 g)

no_tags-messages : (opened : Open) (line : ℕ) (run : List ℕ) → NoTagMessages (run_messages opened line run)
unfolding run_messages NoTagMessages
no_tags-messages opened line [] = tt
no_tags-messages opened line (c ∷ run) =
    no_tags-append (on_line (line_past line c) (run_tokens opened (c ∷ []))) (run_messages (opened_after_run opened (c ∷ [])) (line_past line c) run)
    (no_tag_messages (line_past line c) (run_tokens opened (c ∷ [])) (no_tags-run opened (c ∷ [])))
    (no_tags-messages (opened_after_run opened (c ∷ [])) (line_past line c) run)

trace_is : {M : List Message} {o p : Open} {last : List ℕ} → o ≡ p
    → ◌≡◌ {A = Trace} (record { messages = M; opened = o; last_start_tag = last }) (record { messages = M; opened = p; last_start_tag = last })
trace_is e = rw e refl

-- ---- no character of a run is an error

unquoted_value-after : (kind : AttrValueKind) (before after : OpenTag) → is_unquoted (InTag (InValue kind) after) ≡ is_unquoted (InTag (InValue kind) before)
unquoted_value-after Unquoted before after = refl
unquoted_value-after SingleQuoted before after = refl
unquoted_value-after DoubleQuoted before after = refl

quoted-of : (exact : Bool) (opened : Open) (run : List ℕ) → (exact ≡ false) ⊎ IsGoodRun opened run → (exact ≡ false) ⊎ (is_unquoted opened ≡ false)
quoted-of exact opened run (inl loose) = inl loose
quoted-of exact opened run (inr good) = inr good.quoted

no_error : (exact : Bool) (opened : Open) (c : ℕ) (run : List ℕ) → (exact ≡ false) ⊎ IsGoodRun opened (c ∷ run) → (exact && is_bad_character c) ≡ false
no_error exact opened c run (inl loose) = rw loose refl
no_error exact opened c run (inr good) = rw (All-head (λ d. is_bad_character d ≡ false) c run good.good) (and-false exact)

-- after a character of a run the same place is open
unquoted-after : (opened : Open) (c : ℕ) → is_unquoted (opened_after_run opened (c ∷ [])) ≡ is_unquoted opened
unquoted-after (Between mode) c = refl
unquoted-after LessThan c = refl
unquoted-after LessThanSolidus c = refl
unquoted-after (InTag InName tag) c = refl
unquoted-after (InTag BeforeAttribute tag) c = refl
unquoted-after (InTag InAttributeName tag) c = refl
unquoted-after (InTag AfterAttributeName tag) c = refl
unquoted-after (InTag BeforeValue tag) c = refl
unquoted-after (InTag (InValue kind) tag) c = unquoted_value-after kind tag (with_value tag (c ∷ []))
unquoted-after (InTag AfterQuotedValue tag) c = refl
unquoted-after (InTag AfterSolidus tag) c = refl
unquoted-after (InRaw place name) c = refl
unquoted-after (InDeclaration held) c = refl
unquoted-after (InComment text) c = refl
unquoted-after (InBogusComment text) c = refl
unquoted-after (InInstruction content) c = refl
unquoted-after (InDoctype place doctype) c = refl
unquoted-after (InDoctypeKeyword held doctype) c = refl
unquoted-after (InCdata text) c = refl
unquoted-after (InReference stand held) c = refl

good-tail : (exact : Bool) (opened : Open) (c : ℕ) (run : List ℕ) → (exact ≡ false) ⊎ IsGoodRun opened (c ∷ run)
    → (exact ≡ false) ⊎ IsGoodRun (opened_after_run opened (c ∷ [])) run
good-tail exact opened c run (inl loose) = inl loose
good-tail exact opened c run (inr good) =
    inr (record { quoted = unquoted-after opened c ∙ good.quoted; good = All-tail (λ d. is_bad_character d ≡ false) c run good.good })

module _ {X S H : Type 0} (means : Means X S H) where
  -- the trace of a run is what the run tells, and what is open after it
  trace-run : (rules : Rules) (s : S) (line : ℕ) (last : List ℕ) (opened : Open) (others run : List ℕ) → (rules.exact ≡ false) ⊎ IsGoodRun opened run
      → other_run_ends opened ≡ Some others → All (λ c. ¬ Contains (run_ends others) c) run
      → trace means.step means.reply means.foreign rules s line last opened run
      ≡ record { messages = run_messages opened line run; opened = opened_after_run opened run; last_start_tag = last }
  unfolding trace trace_brought trace_here stepped run_messages
  trace-run rules s line last opened others [] good has all = rw (opened_after_run-nil opened) refl
  trace-run rules s line last opened others (c ∷ run) good has all =
      let out : ¬ Contains (run_ends others) c = All-head (λ d. ¬ Contains (run_ends others) d) c run all in
      let M : List Message = on_line (line_past line c) (run_tokens opened (c ∷ [])) in
      let later : Open = opened_after_run opened (c ∷ []) in
      let here : step_at rules.exact opened c ≡ Tells (run_tokens opened (c ∷ [])) later = step-run rules.exact opened others c (quoted-of rules.exact opened (c ∷ run) good) has out in
      rw (brought-tells rules (means.foreign s) opened c (Tells (run_tokens opened (c ∷ [])) later) (run-decided opened others has) here, no_error rules.exact opened c run good)
      (ap (with_messages M) (trace-run rules (stepped means.step s M) (line_past line c) last later others run (good-tail rules.exact opened c run good) (other_run_ends-after opened others c has out ∙ has) (All-tail (λ d. ¬ Contains (run_ends others) d) c run all))
      ∙ trace_is (sym (opened_after_run-cons opened c run)))

  run-trace : (rules : Rules) (K : Start) (s : S) (run : List ℕ) → IsRun rules K run → K.input.line < 2 ^ 64
      → trace means.step means.reply means.foreign rules s (line_after K.input []) K.last_start_tag K.opened (normalised K.input run)
      ≡ record { messages = run_messages K.opened K.input.line run; opened = opened_after_run K.opened run; last_start_tag = K.last_start_tag }
  run-trace rules K s run r h =
      rw (line_after-none K.input h, normalised-run K.input run r.past_line_break r.past_stream_start (no_returns K.opened run r.is_run))
      (trace-run rules s K.input.line K.last_start_tag K.opened r.is_run.others run r.good r.is_run.has_runs r.is_run.ordinary)

  pub told-run : (rules : Rules) (K : Start) (s : S) (run : List ℕ) → IsRun rules K run → K.input.line < 2 ^ 64
      → messages_so_far means rules K s run ≡ run_messages K.opened K.input.line run
  told-run rules K s run r h =
      told-trace means.step means.reply means.foreign rules K s run ∙ ap (λ (t : Trace). t.messages) (run-trace rules K s run r h)

  pub after-run : (rules : Rules) (K : Start) (s : S) (run : List ℕ) → IsRun rules K run → K.input.line < 2 ^ 64
      → start_after means rules K s run ≡ record K { opened = opened_after_run K.opened run; input = input_after K.input run }
  after-run rules K s run r h =
      let opened : (start_after means rules K s run).opened ≡ opened_after_run K.opened run =
      after-opened means.step means.reply means.foreign rules K s run ∙ ap (λ (t : Trace). t.opened) (run-trace rules K s run r h) in
      let last : (start_after means rules K s run).last_start_tag ≡ K.last_start_tag =
      after-last means.step means.reply means.foreign rules K s run ∙ ap (λ (t : Trace). t.last_start_tag) (run-trace rules K s run r h) in
      rw (opened, last) refl

  -- nothing pauses in a run
  pub run-quiet : ((s : S) (told : Told) (line : ℕ) → is_tag told ≡ false → means.reply s told line ≡ KeepOn)
      → (rules : Rules) (K : Start) (s : S) (run : List ℕ) → IsRun rules K run → K.input.line < 2 ^ 64
      → first_pause means s (messages_so_far means rules K s run) ≡ KeepOn
  run-quiet keeps_on rules K s run r h =
      ap (first_pause means s) (told-run rules K s run r h)
      ∙ first_pause-no_tags means keeps_on s _ (no_tags-messages K.opened K.input.line run)
