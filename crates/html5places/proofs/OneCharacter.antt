-- What a tokenizer does at a character, and at the end, wherever it stands.
use Rattle.std.proofs.Common.{◌≡◌, ℕ, false, List, [], ◌∷◌, ◌++◌, length, drop, refl, ap, sym, ◌∙◌}
use Rattle.std.proofs.Math.Seq.{drop-append_seam}
use Rattle.html5ever.specs.Tokenizer.{Finishes, ReadsOn, StandsAt, Tokenizing}
use Rattle.html5ever.proofs.Standing.{StandsAt-start}
use Rattle.html5ever_interface.specs.Sink.{Means, Message, on_line, stepped}
use Rattle.html5feed.specs.Feed.{told_at_end}
use Rattle.html5feed.proofs.Pauses.{told_beyond-after}
use Rattle.html5reading.specs.EndOfInput.{tokens_at_end}
use Rattle.html5reading.specs.NormalisedText.{line_after, normalised, with_line_feeds, without_dropped_first}
use Rattle.html5reading.specs.Reading.{all_messages, end_events, messages, messages_so_far, read, start_after, told}
use Rattle.html5reading.specs.Start.{Rules, Start}
use Rattle.html5reading.proofs.InputLemmas.{input_after-line_none, line_after-lines_past}
use Rattle.html5reading.proofs.ReadingLemmas.{after-append, after-nil, messages-at_end, reading-events, told-nil}
use Rattle.html5reading.proofs.Traces.{messages-append}
use Rattle.html5places.specs.Marks.{Marks, Placed, Placing, PlacingSink, kept, placed_means, placed_step, placing_of, waits}
use Rattle.html5places.specs.Placed.{all_handed, at_character, at_end, begun_by, handed_on, marks_of, marks_past, standard, told_at}
use Rattle.html5places.specs.Readers.{Reader, Reads, ReadsEnd, reading_of}
use Rattle.html5places.proofs.Pieces.{marks_from-one, marks_of-append, placed_from-one}
use Rattle.html5places.proofs.SameReplies.{all-same, so_far-same, start-same}
use Rattle.html5places.proofs.Stepping.{stepped-handler, stepped-marks}

-- ---- messages, by the standard's replies

-- from where the text before leads, a character tells what it tells after that text
told-here : (rules : Rules) (K : Start) (before : List ℕ) (c : ℕ)
    → messages_so_far standard rules (start_after standard rules K tt before) tt (c ∷ []) ≡ told_at rules K before c
told-here rules K before c = sym (told_beyond-after standard rules K tt before (c ∷ []))

after-here : (rules : Rules) (K : Start) (before : List ℕ) (c : ℕ)
    → start_after standard rules (start_after standard rules K tt before) tt (c ∷ []) ≡ start_after standard rules K tt (before ++ c ∷ [])
after-here rules K before c = sym (after-append standard.step standard.reply standard.foreign rules K tt before (c ∷ []))

-- the messages that the end tells beyond a text
pub end-messages : (rules : Rules) (K : Start) (before : List ℕ)
    → told_at_end standard rules K tt before
    ≡ on_line (line_after K.input (normalised K.input before)) (tokens_at_end rules (start_after standard rules K tt before).opened)
end-messages rules K before =
    let E : List Message = messages (end_events standard.step standard.reply standard.foreign rules K (read standard.step standard.reply standard.foreign rules K tt before).opened (normalised K.input before)) in
    ap (λ l. drop (length (messages_so_far standard rules K tt before)) (messages l)) (reading-events standard.step standard.reply standard.foreign rules K tt before)
    ∙ ap (drop (length (messages_so_far standard rules K tt before)))
    (messages-append (told standard.step standard.reply standard.foreign rules K tt before) (end_events standard.step standard.reply standard.foreign rules K (read standard.step standard.reply standard.foreign rules K tt before).opened (normalised K.input before)))
    ∙ drop-append_seam (messages_so_far standard rules K tt before) E
    ∙ messages-at_end standard.step standard.reply standard.foreign rules K tt before

pub line-here : (K : Start) (rules : Rules) (before : List ℕ)
    → line_after (start_after standard rules K tt before).input [] ≡ line_after K.input (normalised K.input before)
line-here K rules before = input_after-line_none K.input before ∙ sym (line_after-lines_past K.input [] (normalised K.input before))

-- from where the text before leads, the end tells what it tells after that text
end-beyond : (rules : Rules) (K : Start) (before : List ℕ)
    → told_at_end standard rules (start_after standard rules K tt before) tt [] ≡ told_at_end standard rules K tt before
unfolding normalised with_line_feeds without_dropped_first
end-beyond rules K before =
    let P : Start = start_after standard rules K tt before in
    end-messages rules P []
    ∙ ap (λ (Q : Start). on_line (line_after P.input []) (tokens_at_end rules Q.opened)) (after-nil standard.step standard.reply standard.foreign rules P tt)
    ∙ ap (λ line. on_line line (tokens_at_end rules P.opened)) (line-here K rules before)
    ∙ sym (end-messages rules K before)

end-here : (rules : Rules) (K : Start) (before : List ℕ)
    → all_messages standard rules (start_after standard rules K tt before) tt [] ≡ told_at_end standard rules K tt before
end-here rules K before =
    let P : Start = start_after standard rules K tt before in
    ap (λ (M : List Message). drop (length M) (all_messages standard rules P tt [])) (sym (told-nil standard.step standard.reply standard.foreign rules P tt))
    ∙ end-beyond rules K before

-- ---- a tokenizer whose sink places tokens

abbrev pub sink_means : Means (PlacingSink (List Placed)) (Placing (List Placed)) (Unit {0})
sink_means = placed_means kept waits

-- the text before, read from the start K, led to where the tokenizer stands
abbrev IsAfter : {X : Type 0} → Tokenizing X → Start → List ℕ → Type 0
IsAfter t K before = t.position ≡ start_after standard t.rules K tt before

-- the tokenizer is another one, except for the places that its sink knows
pub record IsMoved (t0 t : Reader) (there : Marks) : Type 0 where
  pub position : t.position ≡ t0.position
  pub rules : t.rules ≡ t0.rules
  pub not_failed : t.failed ≡ false
  pub not_ended : t.ended ≡ false
  pub handler : t.sink.handler ≡ t0.sink.handler
  pub marks : t.sink.marks ≡ there

placing-moved : (t0 t : Reader) (marks : Marks) → IsMoved t0 t marks → placing_of kept t.sink ≡ record { handler = t0.sink.handler; marks = marks }
placing-moved t0 t marks moved = rw (moved.handler, moved.marks) refl

stands-here : (t : Reader) → t.failed ≡ false → t.ended ≡ false → StandsAt sink_means t t.position (placing_of kept t.sink) []
stands-here t not_failed not_ended = StandsAt-start sink_means t t.position refl not_failed not_ended

-- what the character tells wherever the sink's state is
so_far-here : (t0 t : Reader) (marks : Marks) (K : Start) (before : List ℕ) (c : ℕ) (s : Placing (List Placed)) → IsMoved t0 t marks → IsAfter t0 K before
    → messages_so_far sink_means t.rules t.position s (c ∷ []) ≡ told_at t0.rules K before c
so_far-here t0 t marks K before c s moved after =
    so_far-same sink_means standard (λ u v told line. refl) (λ u v. refl) t.rules t.position s tt (c ∷ [])
    ∙ ap (λ rules. messages_so_far standard rules t.position tt (c ∷ [])) moved.rules
    ∙ ap (λ P. messages_so_far standard t0.rules P tt (c ∷ [])) (moved.position ∙ after)
    ∙ told-here t0.rules K before c

start-here : (t0 t : Reader) (marks : Marks) (K : Start) (before : List ℕ) (c : ℕ) (s : Placing (List Placed)) → IsMoved t0 t marks → IsAfter t0 K before
    → start_after sink_means t.rules t.position s (c ∷ []) ≡ start_after standard t0.rules K tt (before ++ c ∷ [])
start-here t0 t marks K before c s moved after =
    start-same sink_means standard (λ u v told line. refl) (λ u v. refl) t.rules t.position s tt (c ∷ [])
    ∙ ap (λ rules. start_after standard rules t.position tt (c ∷ [])) moved.rules
    ∙ ap (λ P. start_after standard t0.rules P tt (c ∷ [])) (moved.position ∙ after)
    ∙ after-here t0.rules K before c

-- a character was read
pub character-read : (t0 t u v : Reader) (c : ℕ) → IsMoved t0 t (at_character t0.sink.marks c)
    → u.rules ≡ t.rules → ReadsOn sink_means t u (c ∷ [])
    → v.position ≡ u.position → v.rules ≡ u.rules → v.sink.handler ≡ u.sink.handler
    → v.sink.marks ≡ begun_by u.position.opened u.sink.marks
    → Reads waits (reading_of t0) (reading_of v) t0.sink.handler v.sink.handler (c ∷ [])
character-read t0 t u v c moved rules reads position same_rules handler marks B before there =
    let K : Start = B.start in
    let m : Marks = marks_of t0.rules B before in
    let here : Marks = at_character t0.sink.marks c in
    let s : Placing (List Placed) = placing_of kept t.sink in
    let stands = reads t.position s [] (stands-here t moved.not_failed moved.not_ended) in
    let at : u.position ≡ start_after standard t0.rules K tt (before ++ c ∷ []) =
    stands.position
    ∙ ap (λ r. start_after sink_means r t.position s (c ∷ [])) rules
    ∙ start-here t0 t here K before c s moved there.position in
    let told : placing_of kept u.sink
    ≡ stepped (placed_step waits) (record { handler = t0.sink.handler; marks = here }) (told_at t0.rules K before c) =
    stands.told
    ∙ ap (λ r. stepped (placed_step waits) s (messages_so_far sink_means r t.position s (c ∷ []))) rules
    ∙ ap (stepped (placed_step waits) s) (so_far-here t0 t here K before c s moved there.position)
    ∙ ap (λ w. stepped (placed_step waits) w (told_at t0.rules K before c)) (placing-moved t0 t here moved) in
    let all_rules : v.rules ≡ t0.rules = same_rules ∙ rules ∙ moved.rules in
    record {
      stands = record {
        position = position ∙ at ∙ ap (λ r. start_after standard r K tt (before ++ c ∷ [])) (sym all_rules);
        marks =
            marks
            ∙ ap (λ (P : Start). begun_by P.opened u.sink.marks) at
            ∙ ap (begun_by (start_after standard t0.rules K tt (before ++ c ∷ [])).opened)
            (ap (λ (w : Placing (List Placed)). w.marks) told ∙ stepped-marks waits _ (told_at t0.rules K before c))
            ∙ ap (λ n. marks_past t0.rules K n before c) there.marks
            ∙ sym (marks_from-one t0.rules K m before c)
            ∙ sym (marks_of-append t0.rules B before (c ∷ []))
            ∙ ap (λ r. marks_of r B (before ++ c ∷ [])) (sym all_rules);
      };
      handler =
          handler
          ∙ ap (λ (w : Placing (List Placed)). w.handler) told
          ∙ stepped-handler waits _ (told_at t0.rules K before c)
          ∙ ap (λ n. handed_on waits t0.sink.handler (all_handed (at_character n c) (told_at t0.rules K before c))) there.marks
          ∙ ap (handed_on waits t0.sink.handler) (sym (placed_from-one t0.rules K m before c));
    }

-- the end was read
pub end-read : (t0 t w : Reader) → IsMoved t0 t (at_end t0.sink.marks) → Finishes sink_means t (placing_of kept w.sink)
    → ReadsEnd waits (reading_of t0) t0.sink.handler w.sink.handler
end-read t0 t w moved finishes B before there =
    let K : Start = B.start in
    let s : Placing (List Placed) = placing_of kept t.sink in
    ap (λ (v : Placing (List Placed)). v.handler)
    (finishes t.position s [] (stands-here t moved.not_failed moved.not_ended)
    ∙ ap (stepped (placed_step waits) s)
    (all-same sink_means standard (λ u v told line. refl) (λ u v. refl) t.rules t.position s tt []
    ∙ ap (λ rules. all_messages standard rules t.position tt []) moved.rules
    ∙ ap (λ P. all_messages standard t0.rules P tt []) (moved.position ∙ there.position)
    ∙ end-here t0.rules K before)
    ∙ ap (λ v. stepped (placed_step waits) v (told_at_end standard t0.rules K tt before)) (placing-moved t0 t (at_end t0.sink.marks) moved))
    ∙ stepped-handler waits (record { handler = t0.sink.handler; marks = at_end t0.sink.marks }) (told_at_end standard t0.rules K tt before)
    ∙ ap (λ m. handed_on waits t0.sink.handler (all_handed (at_end m) (told_at_end standard t0.rules K tt before))) there.marks
