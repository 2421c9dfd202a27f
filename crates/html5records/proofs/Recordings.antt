-- What a sink has written that was sent messages: their records, with texts joined.
use Rattle.std.proofs.Common.{◌≡◌, ℕ, Bool, true, false, List, [], ◌∷◌, ◌++◌, None, refl, ap, sym, ◌∙◌}
use Rattle.std.proofs.lemmas.List.{append-nil, append_assoc}
use Rattle.html5ever_interface.proofs.Steppings.{stepped-append}
use Rattle.html5ever_interface.specs.Collected.{told_text, kept_text, last_with_text, from_first_with_text, with_text, with_message, with_told}
use Rattle.html5ever_interface.specs.Sink.{Message, stepped}
use Rattle.html5ever_interface.specs.Token.{Told, is_text}
use Rattle.html5ever_interface.specs.Token.Told.{Text, End}
use Rattle.html5records.specs.Recording.{Recorded, text_closing, added_by, added_by_text, open_after, recorded_step, WritesOn, closed_bytes, joined}
use Rattle.html5records.specs.RecordedLaws.{recorded_empty}
use Rattle.html5records.specs.Records.{text_end, parts, heading_of, record_of, records_of}
use Rattle.html5records.proofs.Written.{flat_map-push, added_by-other}

-- a record more
records_of-push : (told : List Message) (m : Message) → records_of (told ++ m ∷ []) ≡ records_of told ++ record_of m.token m.line
unfolding records_of
records_of-push told m = flat_map-push (λ (n : Message). record_of n.token n.line) told m

-- a text joins the last message

from_first_with_text-last : (k : Message) (K : List Message) (m : Message) (text : List ℕ)
    → from_first_with_text k (K ++ m ∷ []) text ≡ k ∷ (K ++ last_with_text (told_text m.token) m text)
unfolding from_first_with_text
from_first_with_text-last k [] m text = refl
from_first_with_text-last k (n ∷ N) m text = ap (λ l. k ∷ l) (from_first_with_text-last n N m text)

with_text-last : (J : List Message) (m : Message) (text : List ℕ) → with_text (J ++ m ∷ []) text ≡ J ++ last_with_text (told_text m.token) m text
unfolding with_text from_first_with_text
with_text-last [] m text = refl
with_text-last (k ∷ K) m text = from_first_with_text-last k K m text

-- where the written bytes stand, for joined messages

record IsClosed (start : List ℕ) (r : Recorded) (J : List Message) : Type 0 where
  pub closed : r.in_text ≡ false
  pub bytes : r.bytes ≡ start ++ records_of J
  -- the last message is no text
  pub apart : (text : List ℕ) → with_text J text ≡ J ++ kept_text text ∷ []

record IsOpen (start : List ℕ) (r : Recorded) (J : List Message) : Type 0 where
  pub is_open : r.in_text ≡ true
  pub front : List Message
  pub text : List ℕ
  pub line : ℕ
  pub whole : J ≡ front ++ record { token = Text text; line = line } ∷ []
  pub bytes : r.bytes ≡ start ++ (records_of front ++ 3 ∷ text)

data Stands (start : List ℕ) (r : Recorded) (J : List Message) : Type 0 where
  Closed : IsClosed start r J → Stands start r J
  Opened : IsOpen start r J → Stands start r J

-- more text

regrouped : (start before : List ℕ) (text more : List ℕ) → (start ++ (before ++ 3 ∷ text)) ++ more ≡ start ++ (before ++ 3 ∷ (text ++ more))
regrouped start before text more =
    append_assoc start (before ++ 3 ∷ text) more ∙ ap (λ l. start ++ l) (append_assoc before (3 ∷ text) more)

-- one text more is joined to the text before it
stands-text : (start : List ℕ) (r : Recorded) (J : List Message) (b : ℕ) (bs : List ℕ) (line : ℕ) → Stands start r J
    → Stands start (recorded_step r (Text (b ∷ bs)) line) (with_text J (b ∷ bs))
unfolding recorded_step added_by added_by_text open_after
stands-text start r J b bs line (Closed at) = Opened (record {
  is_open = refl;
  front = J;
  text = b ∷ bs;
  line = 0;
  whole = at.apart (b ∷ bs);
  bytes = rw (at.closed, at.bytes) (append_assoc start (records_of J) (3 ∷ b ∷ bs));
})
stands-text start r J b bs line (Opened at) = Opened (record {
  is_open = refl;
  front = at.front;
  text = at.text ++ b ∷ bs;
  line = at.line;
  whole = ap (λ l. with_text l (b ∷ bs)) at.whole ∙ with_text-last at.front (record { token = Text at.text; line = at.line }) (b ∷ bs);
  bytes = rw (at.is_open, at.bytes) (regrouped start (records_of at.front) at.text (b ∷ bs));
})

-- another token

record IsOther (told : Told) : Type 0 where
  pub no_text : is_text told ≡ false
  pub none : told_text told ≡ None
  pub closes : (in_text : Bool) → open_after in_text told ≡ false

apart-other : (J : List Message) (m : Message) → told_text m.token ≡ None → (text : List ℕ) → with_text (J ++ m ∷ []) text ≡ (J ++ m ∷ []) ++ kept_text text ∷ []
apart-other J m none text =
    with_text-last J m text
    ∙ ap (λ o. J ++ last_with_text o m text) none
    ∙ sym (append_assoc J (m ∷ []) (kept_text text ∷ []))

-- the records of a message more, where the record of an open text is ended
ended-more : (start : List ℕ) (r : Recorded) (J : List Message) (m : Message) → r.bytes ++ text_closing r.in_text ≡ start ++ records_of J
    → r.bytes ++ (text_closing r.in_text ++ record_of m.token m.line) ≡ start ++ records_of (J ++ m ∷ [])
ended-more start r J m before =
    sym (append_assoc r.bytes (text_closing r.in_text) (record_of m.token m.line))
    ∙ ap (λ l. l ++ record_of m.token m.line) before
    ∙ append_assoc start (records_of J) (record_of m.token m.line)
    ∙ ap (λ l. start ++ l) (sym (records_of-push J m))

text_record : (text : List ℕ) (line : ℕ) → 3 ∷ (text ++ text_end ∷ []) ≡ record_of (Text text) line
unfolding record_of heading_of parts
text_record text line = refl

stands-ended : (start : List ℕ) (r : Recorded) (J : List Message) → Stands start r J → closed_bytes r ≡ start ++ records_of J
stands-ended start r J (Closed at) = rw at.closed (append-nil r.bytes ∙ at.bytes)
stands-ended start r J (Opened at) =
    rw (at.is_open, at.bytes, at.whole)
    (regrouped start (records_of at.front) at.text (text_end ∷ [])
    ∙ ap (λ l. start ++ l)
    (ap (λ l. records_of at.front ++ l) (text_record at.text at.line) ∙ sym (records_of-push at.front (record { token = Text at.text; line = at.line }))))

stands-other : (start : List ℕ) (r : Recorded) (J : List Message) (told : Told) (line : ℕ) → IsOther told → Stands start r J
    → Stands start (recorded_step r told line) (J ++ record { token = told; line = line } ∷ [])
unfolding recorded_step
stands-other start r J told line other at = Closed (record {
  closed = other.closes r.in_text;
  bytes = ap (λ l. r.bytes ++ l) (added_by-other r.in_text told line other.no_text)
      ∙ ended-more start r J (record { token = told; line = line }) (stands-ended start r J at);
  apart = apart-other J (record { token = told; line = line }) other.none;
})

stands-told : (start : List ℕ) (r : Recorded) (J : List Message) (told : Told) (line : ℕ) → Stands start r J
    → Stands start (recorded_step r told line) (with_told J told line)
unfolding with_message open_after
stands-told start r J (Text []) line at = rw (recorded_empty r line) at
stands-told start r J (Text (b ∷ bs)) line at = stands-text start r J b bs line at
stands-told start r J told line at = stands-other start r J told line (record { no_text = refl; none = refl; closes = λ in_text. refl }) at

stands-stepped : (start : List ℕ) (r : Recorded) (J M : List Message) → Stands start r J
    → Stands start (stepped recorded_step r M) (stepped with_told J M)
unfolding stepped
stands-stepped start r J [] at = at
stands-stepped start r J (m ∷ M) at =
    stands-stepped start (recorded_step r m.token m.line) (with_told J m.token m.line) M (stands-told start r J m.token m.line at)

-- when no text is open, what is written for messages is their records, with texts joined, once the last text is ended
pub closed_bytes-stepped : (r : Recorded) (M : List Message) → r.in_text ≡ false
    → closed_bytes (stepped recorded_step r M) ≡ r.bytes ++ records_of (joined M)
unfolding records_of with_text
closed_bytes-stepped r M closed =
    stands-ended r.bytes (stepped recorded_step r M) (joined M)
    (stands-stepped r.bytes r [] M (Closed (record { closed = closed; bytes = sym (append-nil r.bytes); apart = λ text. refl })))

in_text-stepped : (r : Recorded) (N : List Message) (line : ℕ) → (stepped recorded_step r (N ++ record { token = End; line = line } ∷ [])).in_text ≡ false
unfolding stepped recorded_step open_after
in_text-stepped r N line = ap (λ (s : Recorded). s.in_text) (stepped-append recorded_step r N (record { token = End; line = line } ∷ []))

-- where the messages end with the end, no text is open
pub bytes-stepped : (r : Recorded) (M N : List Message) (line : ℕ) → r.in_text ≡ false → M ≡ N ++ record { token = End; line = line } ∷ []
    → (stepped recorded_step r M).bytes ≡ r.bytes ++ records_of (joined M)
bytes-stepped r M N line closed ends =
    let ended : (stepped recorded_step r M).in_text ≡ false = rw ends (in_text-stepped r N line) in
    sym (append-nil (stepped recorded_step r M).bytes)
    ∙ ap (λ in_text. (stepped recorded_step r M).bytes ++ text_closing in_text) (sym ended)
    ∙ closed_bytes-stepped r M closed

-- what was written before stays, more comes after it, and none is taken
pub writes_on : (r : Recorded) (M : List Message) → WritesOn r (stepped recorded_step r M)
unfolding stepped recorded_step
writes_on r [] = record { taken = refl; bytes = record { rest = []; parts = sym (append-nil r.bytes) } }
writes_on r (m ∷ M) =
    let added : List ℕ = added_by r.in_text m.token m.line in
    let more = writes_on (recorded_step r m.token m.line) M in
    record { taken = more.taken; bytes = record { rest = added ++ more.bytes.rest; parts = more.bytes.parts ∙ append_assoc r.bytes added more.bytes.rest } }
