-- The text that waits in a queue: one text that is read up to an offset, what calls take of it and what they add.
use Rattle.std.proofs.Common.{Bool, true, false, Option, ◌≡◌, ◌↔◌, ℕ, ◌+◌, ◌<◌, ◌≤◌, List, [], ◌∷◌, ◌++◌, length, take, drop, encode_utf8, encode_utf8_all, refl, sym, ap, ◌∙◌, arith, length-append, length-drop}
use Rattle.std.specs.List.{slice_range}
use Rattle.std.specs.Prelude.{IsNone, if◌then◌else◌}
use Rattle.std.specs.Str.{IsUtf8, IsCharBoundary, chars}
use Rattle.std.proofs.lemmas.List.{append-nil, append_cancel_left, drop-append-le, drop-drop, drop_all, take_all}
use Rattle.std.proofs.lemmas.List.Elements.{All-head}
use Rattle.std.proofs.lemmas.Str.{chars-append, chars_from_encodes, chars_past_char, encodes-chars, length-le-encodes, IsCharBoundary-from_drop, IsUtf8-append, IsUtf8-take}
use Rattle.markup5ever.specs.BufferQueue.{TextQueue, Gains, TakesBack, Takes, IsReadTo}
use Rattle.markup5ever.specs.SetResult.{TakesRun, EndsRun}
use Rattle.markup5ever.specs.SmallCharSet.{IsMember}
use Rattle.markup5ever.proofs.TextLemmas.{nil_from_length, filled_length, chars_cut}

-- ---- the text that waits, and its bytes

-- the bytes of the characters that wait are the text after the offset
pub waiting_bytes : (text waiting : List ℕ) (offset : ℕ) → IsReadTo text offset → chars (drop offset text) ≡ waiting → encode_utf8_all waiting ≡ drop offset text
waiting_bytes text waiting offset read is =
    ap encode_utf8_all (sym is) ∙ encodes-chars (drop offset text) read.rest_utf8

pub waiting_chars : (front waiting : List ℕ) → IsUtf8 front → front ≡ encode_utf8_all waiting → chars front ≡ waiting
waiting_chars front waiting utf8 is = sym (chars_from_encodes waiting front utf8 (sym is))

pub none_waits : (waiting : List ℕ) → length (encode_utf8_all waiting) ≡ 0 → waiting ≡ []
none_waits waiting none = nil_from_length waiting (omega (arith, none, length-le-encodes waiting))

-- ---- the offset

pub read_boundary : (text : List ℕ) (offset : ℕ) → IsReadTo text offset → IsCharBoundary text offset
read_boundary text offset read = IsCharBoundary-from_drop text offset read.within read.rest_utf8

pub IsReadTo-start : (text : List ℕ) → IsUtf8 text → IsReadTo text 0
IsReadTo-start text utf8 = record { within = omega arith; rest_utf8 = utf8 }

-- this many bytes further
pub IsReadTo-more : (text front : List ℕ) (offset bytes : ℕ) → front ≡ drop offset text → bytes < length front → IsUtf8 (drop bytes front) → IsReadTo text (offset + bytes)
IsReadTo-more text front offset bytes is within utf8 = record {
  within = omega (arith, within, ap length is, length-drop offset text);
  rest_utf8 = rw (is, drop-drop) at utf8;
}

-- the queued text is what this many bytes take, and the text queued then
pub taken_apart : (text waiting : List ℕ) (offset bytes : ℕ) → IsReadTo text offset → chars (drop offset text) ≡ waiting → bytes ≤ length (encode_utf8_all waiting) → IsUtf8 (drop bytes (encode_utf8_all waiting)) → waiting ≡ chars (take bytes (encode_utf8_all waiting)) ++ chars (drop (offset + bytes) text)
taken_apart text waiting offset bytes read is within utf8 =
    let front = drop offset text in
    let all : encode_utf8_all waiting ≡ front = waiting_bytes text waiting offset read is in
    let boundary : IsCharBoundary front bytes = IsCharBoundary-from_drop front bytes (rw all at within) (rw all at utf8) in
    let cut : waiting ≡ chars (take bytes front) ++ chars (drop bytes front) = sym is ∙ chars_cut front bytes (IsUtf8-take front bytes read.rest_utf8 boundary) in
    cut ∙ ap (λ bs. chars (take bytes bs) ++ chars (drop bytes front)) (sym all) ∙ ap (λ bs. chars (take bytes (encode_utf8_all waiting)) ++ chars bs) (drop-drop bytes offset text)

-- the first bytes of a text, as a range and as a prefix
pub range_from_start : (text : List ℕ) (bytes : ℕ) → slice_range text 0 bytes ≡ take bytes text
range_from_start text bytes = ap (λ n. take n text) (omega arith)

-- this many bytes were taken, and their characters counted
pub takes_bytes : (old new : TextQueue) (text run : List ℕ) (offset bytes : ℕ) → IsReadTo text offset → chars (drop offset text) ≡ old.text → run ≡ take bytes (drop offset text) → bytes ≤ length (encode_utf8_all old.text) → IsUtf8 (drop bytes (encode_utf8_all old.text)) → new.text ≡ chars (drop (offset + bytes) text) → new.handed_in ≡ old.handed_in → new.taken ≡ old.taken + length (chars run) → Takes old new (chars (take bytes (encode_utf8_all old.text)))
takes_bytes old new text run offset bytes read is run_is within utf8 rest_is handed_in taken =
    let all : drop offset text ≡ encode_utf8_all old.text = sym (waiting_bytes text old.text offset read is) in
    record {
      text = rw rest_is (taken_apart text old.text offset bytes read is within utf8);
      handed_in = handed_in;
      taken = taken ∙ ap (λ bs. old.taken + length (chars bs)) (run_is ∙ ap (take bytes) all);
    }

-- all bytes are taken of a text of which nothing was read
pub whole_run : (text : List ℕ) (offset bytes : ℕ) → offset ≡ 0 → bytes ≡ length text → text ≡ take bytes (drop offset text)
whole_run text offset bytes start whole =
    sym (ap (λ n. take bytes (drop n text)) start ∙ take_all bytes text (omega (arith, whole)))

pub whole_text : (text waiting : List ℕ) (offset bytes : ℕ) → IsReadTo text offset → chars (drop offset text) ≡ waiting → offset ≡ 0 → bytes ≡ length text → text ≡ take bytes (encode_utf8_all waiting)
whole_text text waiting offset bytes read is start whole =
    whole_run text offset bytes start whole ∙ ap (take bytes) (sym (waiting_bytes text waiting offset read is))

pub past_whole_text : (text empty : List ℕ) (offset bytes : ℕ) → empty ≡ [] → bytes ≡ length text → chars (drop offset empty) ≡ chars (drop (offset + bytes) text)
past_whole_text text empty offset bytes none whole =
    let nothing : List ℕ = [] in
    ap (λ bs. chars (drop offset bs)) none ∙ ap chars (drop_all offset nothing (omega arith) ∙ sym (drop_all (offset + bytes) text (omega (arith, whole))))

-- where each first character is a member of the set, no run goes on
pub ends_run : (set : ℕ) (text : List ℕ) → ((c : ℕ) (rest : List ℕ) → text ≡ c ∷ rest → IsMember set c) → EndsRun set text
ends_run set [] stops = tt
ends_run set (c ∷ rest) stops = stops c rest refl

-- a run that begins the queued text, and after which each first character is a member of the set
pub rest_ends_run : (set : ℕ) (front run rest : List ℕ) (len : ℕ) → IsUtf8 run → run ≡ take len front → chars front ≡ chars run ++ rest → ((c : ℕ) (cs : List ℕ) → chars (drop len front) ≡ c ∷ cs → IsMember set c) → EndsRun set rest
rest_ends_run set front run rest len utf8 run_is split stops =
    let cut : chars front ≡ chars run ++ chars (drop len front) = rw run_is (chars_cut front len (rw run_is at utf8)) in
    let rest_is : rest ≡ chars (drop len front) = append_cancel_left (chars run) rest (chars (drop len front)) (sym split ∙ cut) in
    rw rest_is (ends_run set (chars (drop len front)) stops)

-- ---- the first character

pub first_waits : (waiting front rest : List ℕ) (c : ℕ) → front ≡ encode_utf8_all waiting → IsUtf8 front → front ≡ encode_utf8 c ++ rest → (more : List ℕ) × (waiting ≡ c ∷ more)
first_waits waiting front rest c is utf8 first = (chars rest, sym (waiting_chars front waiting utf8 is) ∙ chars_past_char front rest c utf8 first)

pub first_none : (X : Type 0) (waiting front : List ℕ) (r : Option X) → front ≡ encode_utf8_all waiting → (IsNone r ↔ (front ≡ [])) → IsNone r ↔ (waiting ≡ [])
first_none X waiting front r is none = (
  λ missing. none_waits waiting (ap length (sym is ∙ none.0 missing)),
  λ e. none.1 (is ∙ ap encode_utf8_all e),
)

-- ---- what a text gains

pub IsReadTo-append : (text grown back : List ℕ) (offset : ℕ) → IsReadTo text offset → IsUtf8 back → grown ≡ text ++ back → IsReadTo grown offset
IsReadTo-append text grown back offset read utf8 e = rw e (record {
  within = omega (arith, read.within, length-append text back);
  rest_utf8 = rw (drop-append-le offset text back read.within) (IsUtf8-append (drop offset text) back read.rest_utf8 utf8);
})

-- the text may have grown at its back
pub IsReadTo-pushed : (text new back : List ℕ) (offset : ℕ) (grows : Bool) → IsReadTo text offset → IsUtf8 back → new ≡ (if grows then text ++ back else text) → IsReadTo new offset
IsReadTo-pushed text new back offset true read utf8 grown = IsReadTo-append text new back offset read utf8 grown
IsReadTo-pushed text new back offset false read utf8 same = rw same read

pub chars_after : (text grown back : List ℕ) (offset : ℕ) → IsReadTo text offset → grown ≡ text ++ back → chars (drop offset grown) ≡ chars (drop offset text) ++ chars back
chars_after text grown back offset read e =
    ap (λ bs. chars (drop offset bs)) e ∙ ap chars (drop-append-le offset text back read.within) ∙ chars-append (drop offset text) back read.rest_utf8

-- ---- what comes in front

-- the rest after an offset that is within the text, and is UTF-8
pub IsReadTo-rest : (text rest : List ℕ) (offset : ℕ) → offset ≤ length text → IsUtf8 rest → drop offset text ≡ rest → IsReadTo text offset
IsReadTo-rest text rest offset within utf8 e = record { within = within; rest_utf8 = rw e utf8 }

-- ---- what a queue gains and gives

pub TakesBack-none : (queue : TextQueue) (cs : List ℕ) → cs ≡ [] → TakesBack queue queue cs
TakesBack-none queue cs none = rw none (record { text = refl; handed_in = refl; taken = refl })

pub Gains-none : (queue : TextQueue) (cs : List ℕ) → cs ≡ [] → Gains queue queue cs
Gains-none queue cs none = rw none (record { text = sym (append-nil queue.text); handed_in = omega arith; taken = refl })

first_of_append : (xs ys zs : List ℕ) (c : ℕ) → 0 < length xs → xs ++ ys ≡ c ∷ zs → (rest : List ℕ) × (xs ≡ c ∷ rest)
first_of_append [] ys zs c some e = absurd (omega (arith, some))
first_of_append (x ∷ xs) ys zs c some e = (xs, cc)

-- no run is taken where a member of the set is first
pub TakesRun-no_member : (set : ℕ) (old new : TextQueue) (run : List ℕ) (c : ℕ) (rest : List ℕ) → TakesRun set old new run → old.text ≡ c ∷ rest → IsMember set c → ⊥
TakesRun-no_member set old new run c rest taken e member =
    let first = first_of_append run new.text rest c (filled_length run taken.filled) (sym taken.takes.text ∙ e) in
    All-head (λ d. ¬ IsMember set d) c first.0 (rw first.1 at taken.outside) member
