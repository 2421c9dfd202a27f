-- How a page is read does not depend on what a handler makes of it.
use Rattle.std.proofs.Common.{◌≡◌, ℕ, Bool, List, [], ◌∷◌, ◌++◌, length, refl, ap, sym, ◌∙◌}
use Rattle.html5ever_interface.specs.Options.{default_options}
use Rattle.html5ever_interface.specs.Sink.{Message, stepped, on_line}
use Rattle.html5ever_interface.specs.Token.{Told, Reply}
use Rattle.html5ever_interface.specs.Token.Told.{Tag}
use Rattle.html5reading.specs.ErrorText.{bad_character_error}
use Rattle.html5reading.specs.NormalisedText.{normalised, line_after}
use Rattle.html5reading.specs.Reading.{Brought, Here, Read, brought, end_events, events_at, last_after, late_events, messages, open_after_reply, read_from, read, reading, read_here, with_events}
use Rattle.html5reading.specs.Reading.Here.{Tells, TellsTag}
use Rattle.html5reading.specs.Reading.TextPlace.{Character}
use Rattle.html5reading.specs.Cutting.{rest_of}
use Rattle.html5reading.specs.Slice.{Slice, cut_off, tokens_of_late}
use Rattle.html5reading.specs.Start.{Start, Rules, start_of}
use Rattle.html5sinks.specs.Replies.{standard_reply}
use Rattle.html5sinks.specs.Runs.{Running, runs_step, runs_reply}
use Rattle.html5stream.specs.Pages.{runs_page, runs_start}
use Rattle.markup5ever.specs.NamedReferences.{NamedReference}
use Rattle.std.specs.Str.{chars}

-- a handler's state, a run and a token, and the state after them
abbrev Steps : Type 0 → Type 0
Steps S = S → List ℕ → Told → ℕ → S

abbrev replies : {S : Type 0} → Running S → Told → ℕ → Reply (Unit {0})
replies s told line = runs_reply (λ state run tag number. standard_reply tag) s told line

-- the reading of a text by a sink of runs
abbrev read_by : {S : Type 0} → Steps S → Rules → Start → Running S → List ℕ → List ℕ → Slice → List ℕ → Read
read_by step rules K s last before slice text = read_from (runs_step step) replies (λ (r : Running _). r.foreign) rules K s last before slice text

foreign-stepped : {S : Type 0} (step : Steps S) (s : Running S) (M : List Message) → (stepped (runs_step step) s M).foreign ≡ s.foreign
unfolding stepped
foreign-stepped step s [] = refl
foreign-stepped step s (m ∷ M) = foreign-stepped step (runs_step step s m.token m.line) M

foreign-same : {S T : Type 0} (first : Steps S) (second : Steps T) (s : Running S) (t : Running T) (M : List Message) → s.foreign ≡ t.foreign
    → (stepped (runs_step first) s M).foreign ≡ (stepped (runs_step second) t M).foreign
foreign-same first second s t M same = foreign-stepped first s M ∙ same ∙ sym (foreign-stepped second t M)

-- the same of what a character brings, if the text after it is read alike
here-same : {S T : Type 0} (first : Steps S) (second : Steps T) (rules : Rules) (K : Start) (f : Running S → List ℕ → Slice → Read) (g : Running T → List ℕ → Slice → Read)
    → ((r : Running S) (q : Running T) (name : List ℕ) (rest : Slice) → r.foreign ≡ q.foreign → f r name rest ≡ g q name rest)
    → (s : Running S) (t : Running T) (last before : List ℕ) (c : ℕ) (here : Here Slice) → s.foreign ≡ t.foreign
    → read_here (runs_step first) replies (λ (r : Running S). r.foreign) rules K f cut_off s last before c here
    ≡ read_here (runs_step second) replies (λ (r : Running T). r.foreign) rules K g cut_off t last before c here
here-same first second rules K f g later s t last before c (Tells told goes_on) same =
    let tokens : List Told = bad_character_error rules.exact c ++ told in
    let M : List Message = on_line (line_after K.input (before ++ c ∷ [])) tokens in
    ap (with_events (events_at K.input before c tokens))
    (later (stepped (runs_step first) s M) (stepped (runs_step second) t M) last goes_on (foreign-same first second s t M same))
here-same first second rules K f g later s t last before c (TellsTag told tag) same =
    let tokens : List Told = bad_character_error rules.exact c ++ told in
    let line : ℕ = line_after K.input (before ++ c ∷ []) in
    let M : List Message = on_line line tokens in
    ap (with_events (events_at K.input before c (tokens ++ Tag tag ∷ [])))
    (later (runs_step first (stepped (runs_step first) s M) (Tag tag) line) (runs_step second (stepped (runs_step second) t M) (Tag tag) line)
    (last_after last tag) (cut_off (open_after_reply (last_after last tag) (standard_reply tag))) (foreign-same first second s t M same))

-- what a character brings and what is read after it, by the answer about foreign content
abbrev read_more : {S : Type 0} → Steps S → Rules → Start → Running S → List ℕ → List ℕ → Slice → ℕ → List ℕ → Bool → Read
read_more {S = S} step rules K s last before slice c text foreign =
    let next : Brought Slice = brought rules foreign slice c text in
    with_events (late_events K.input before (Character (length before)) next.settled)
    (read_here (runs_step step) replies (λ (r : Running S). r.foreign) rules K (λ r name rest. read_by step rules K r name (before ++ c ∷ []) rest text) cut_off
    (stepped (runs_step step) s (on_line (line_after K.input before) (tokens_of_late next.settled))) last before c next.here)

read-more : {S : Type 0} (step : Steps S) (rules : Rules) (K : Start) (s : Running S) (last before : List ℕ) (slice : Slice) (c : ℕ) (text : List ℕ)
    → read_by step rules K s last before slice (c ∷ text) ≡ read_more step rules K s last before slice c text s.foreign
unfolding read_from
read-more step rules K s last before slice c text = refl

read-none : {S T : Type 0} (first : Steps S) (second : Steps T) (rules : Rules) (K : Start) (s : Running S) (t : Running T) (last before : List ℕ) (slice : Slice)
    → read_by first rules K s last before slice [] ≡ read_by second rules K t last before slice []
unfolding read_from
read-none first second rules K s t last before slice = refl

read-same : {S T : Type 0} (first : Steps S) (second : Steps T) (rules : Rules) (K : Start) (s : Running S) (t : Running T) (last before : List ℕ) (slice : Slice) (text : List ℕ)
    → s.foreign ≡ t.foreign → read_by first rules K s last before slice text ≡ read_by second rules K t last before slice text
read-same first second rules K s t last before slice [] same = read-none first second rules K s t last before slice
read-same first second rules K s t last before slice (c ∷ text) same =
    let next : Brought Slice = brought rules t.foreign slice c text in
    let M : List Message = on_line (line_after K.input before) (tokens_of_late next.settled) in
    let here =
    here-same first second rules K (λ r name rest. read_by first rules K r name (before ++ c ∷ []) rest text) (λ r name rest. read_by second rules K r name (before ++ c ∷ []) rest text)
    (λ r q name rest. read-same first second rules K r q name (before ++ c ∷ []) rest text)
    (stepped (runs_step first) s M) (stepped (runs_step second) t M) last before c next.here (foreign-same first second s t M same) in
    read-more first rules K s last before slice c text ∙ ap (read_more first rules K s last before slice c text) same
    ∙ ap (with_events (late_events K.input before (Character (length before)) next.settled)) here ∙ sym (read-more second rules K t last before slice c text)

reading-same : {S T : Type 0} (first : Steps S) (second : Steps T) (rules : Rules) (K : Start) (s : Running S) (t : Running T) (text : List ℕ) → s.foreign ≡ t.foreign
    → reading (runs_step first) replies (λ (r : Running S). r.foreign) rules K s text ≡ reading (runs_step second) replies (λ (r : Running T). r.foreign) rules K t text
unfolding reading read end_events
reading-same first second rules K s t text same =
    let Y = normalised K.input text in
    ap (λ (r : Read). r.events ++ end_events (runs_step second) replies (λ (q : Running _). q.foreign) rules K r.opened Y)
    (read-same first second rules K s t K.last_start_tag [] (rest_of rules K.opened Y) Y same)

-- the messages of a page are the same for each handler
pub page-same : {S T : Type 0} (first : Steps S) (second : Steps T) (references : List NamedReference) (s : S) (t : T) (bytes : List ℕ) → runs_page first references s bytes ≡ runs_page second references t bytes
unfolding runs_page
page-same first second references s t bytes =
    ap messages (reading-same first second _ (start_of default_options) (runs_start s) (runs_start t) (chars bytes) refl)
