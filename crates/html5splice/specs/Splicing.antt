-- A page that is spliced as it arrives: vocabulary of proofs. It cuts tokens off the front of the bytes that wait.
use Rattle.std.specs.Prelude.{◌≡◌, ℕ, ◌-◌, false, true, List, [], ◌∷◌, ◌++◌, Option, drop, encode_utf8_all, take, if◌then◌else◌}
use Rattle.std.specs.Io.KnownBytes.{Consumes, IsAtEnd}
use Rattle.std.specs.List.{concat}
use Rattle.std.specs.Str.{IsUtf8, chars}
use Rattle.html5ever_interface.specs.Token.{Told}
use Rattle.html5places.specs.declared.places.Places.{Places}
use Rattle.html5places.specs.Marks.{Placed}
use Rattle.html5places.specs.Placed.{at_first_byte, is_error, placed_by}
use Rattle.html5places.specs.Readers.{ReaderOf, Reading, StandsAfter}
use Rattle.html5reading.specs.Start.{Rules, Start, nothing_open}
use Rattle.html5splice.specs.Cuts.{CutOf, cuts, cuts_of}
use Rattle.html5splice.specs.Edits.{Splices, after_cuts, parts, spliced}
use Rattle.utf8_pieces.specs.Pieces.{Decoding}

-- a token with its run, as a handler takes it
abbrev pub placed_as : List ℕ → Told → ℕ → Places → Placed
placed_as run token line places = record { run = run; token = token; line = line; places = places }

-- bytes of a page that wait, and the place where they begin
pub record Waiting : Type 0 where
  pub bytes : List ℕ
  pub base : ℕ

-- a splicer, its output, and the waiting text
pub record Handler (H O : Type 0) : Type 0 where
  pub splicer : H
  pub output : O
  pub window : Waiting

-- a splicer's state, what was written, and the waiting text
pub record Splicing (S : Type 0) : Type 0 where
  pub splicer : S
  pub written : List ℕ
  pub window : Waiting

abbrev pub splicing_of : {H O S : Type 0} → (H → S) → (O → List ℕ) → Handler H O → Splicing S
splicing_of state written handler = record { splicer = state handler.splicer; written = written handler.output; window = handler.window }

-- the run at the front of the waiting text, and the token after it
abbrev pub run_at : Waiting → Placed → List ℕ
run_at window p = take (p.places.begin - window.base) window.bytes

abbrev pub source_at : Waiting → Placed → List ℕ
source_at window p = take (p.places.end - p.places.begin) (drop (p.places.begin - window.base) window.bytes)

abbrev pub front_cut : Waiting → Placed → CutOf
front_cut window p = record { run = run_at window p; text = p.run; source = source_at window p; token = p.token; line = p.line }

-- the waiting text after a token
abbrev pub window_after : Waiting → Placed → Waiting
window_after window p = record { bytes = drop (p.places.end - window.base) window.bytes; base = p.places.end }

-- the bytes of a page from a place on wait
abbrev pub waiting_from : List ℕ → ℕ → Waiting
waiting_from bytes base = record { bytes = drop base bytes; base = base }

-- where the last of these tokens ends but errors, or this place
unfoldable pub end_of : ℕ → List Placed → ℕ
end_of from [] = from
end_of from (p ∷ placed) = end_of (if is_error p.token then from else p.places.end) placed

module _ {S : Type 0} (splices : Splices S) where
  -- a cut was taken
  abbrev pub spliced_cut : Splicing S → CutOf → Waiting → Splicing S
  spliced_cut s cut window = record {
    splicer = splices.step s.splicer cut;
    written = s.written ++ spliced (splices.edits s.splicer cut) cut;
    window = window;
  }

  -- a token but a parse error is cut off
  abbrev pub splicing_step : Splicing S → Placed → Splicing S
  splicing_step s p = if is_error p.token then s else (spliced_cut s (front_cut s.window p) (window_after s.window p))

  -- where tokens of these bytes lead, of which those before a place are gone
  abbrev pub led_by : List ℕ → S → List ℕ → ℕ → List Placed → Splicing S
  led_by bytes s written base placed = record {
    splicer = after_cuts splices s (cuts_of bytes placed);
    written = written ++ concat (parts splices s (cuts_of bytes placed));
    window = waiting_from bytes (end_of base placed);
  }

  -- ---- a page, piece by piece

  -- The text so far, which begins at K, led to where the reader stands, and its tokens to where the handler does: from the splicer's state s,
  -- after these bytes were written.
  pub record StandsSpliced (r : Reading) (t : Splicing S) (K : Start) (s : S) (written text : List ℕ) : Type 0 where
    pub reader : StandsAfter r (at_first_byte K) text
    pub handler : t ≡ led_by (encode_utf8_all text) s written 0 (placed_by r.rules (at_first_byte K) [] text)

  -- a text was read on
  abbrev pub SplicesOn : Reading → Reading → Splicing S → Splicing S → List ℕ → Type 0
  SplicesOn r q t u text =
      (K : Start) (s : S) (written before : List ℕ) → nothing_open K.opened ≡ true → StandsSpliced r t K s written before
      → StandsSpliced q u K s written (before ++ text)

  -- what is written of each token of a text
  abbrev pub text_parts : Rules → Start → S → List ℕ → List (List ℕ)
  text_parts rules K s text = parts splices s (cuts rules K text)

  -- a prefix of that was written after these bytes
  pub record WritesBeginning (rules : Rules) (K : Start) (s : S) (written text after : List ℕ) : Type 0 where
    pub front : List (List ℕ)
    pub back : List (List ℕ)
    pub whole : text_parts rules K s text ≡ front ++ back
    pub wrote : after ≡ written ++ concat front

  -- the reading of a text stopped, and this is written by then
  abbrev pub StopsSplicing : Reading → Splicing S → List ℕ → List ℕ → Type 0
  StopsSplicing r t text after =
      (K : Start) (s : S) (written before : List ℕ) → nothing_open K.opened ≡ true → StandsSpliced r t K s written before
      → WritesBeginning r.rules K s written (before ++ text) after

  -- the end was read
  abbrev pub EndsSplicing : Reading → Splicing S → List ℕ → Type 0
  EndsSplicing r t after =
      (K : Start) (s : S) (written text : List ℕ) → nothing_open K.opened ≡ true → StandsSpliced r t K s written text
      → after ≡ written ++ concat (text_parts r.rules K s text)

  -- ---- a page that a source gives

  -- a source was read to its end, and what it gave is a text, which was read on
  pub record SplicesSource (unread left : Option (List ℕ)) (r q : Reading) (t u : Splicing S) : Type 0 where
    pub bytes : List ℕ
    pub given : Consumes unread left bytes
    pub at_end : IsAtEnd left
    pub utf8 : IsUtf8 bytes
    pub reads : SplicesOn r q t u (chars bytes)
    pub rules : q.rules ≡ r.rules

  -- a source gave a text first, and its reading stopped
  pub record StopsSource (unread left : Option (List ℕ)) (r : Reading) (t : Splicing S) (after : List ℕ) : Type 0 where
    pub text : List ℕ
    pub rest : List ℕ
    pub given : Consumes unread left (text ++ rest)
    pub utf8 : IsUtf8 text
    pub stopped : StopsSplicing r t (chars text) after

  -- a source was read to its end, and that was read
  pub record SplicesWhole (unread left : Option (List ℕ)) (r : Reading) (t : Splicing S) (after : List ℕ) : Type 0 where
    pub bytes : List ℕ
    pub given : Consumes unread left bytes
    pub at_end : IsAtEnd left
    pub utf8 : IsUtf8 bytes
    pub ends : (K : Start) (s : S) (written : List ℕ) → nothing_open K.opened ≡ true → StandsSpliced r t K s written []
        → after ≡ written ++ concat (text_parts r.rules K s (chars bytes))

  -- bytes were taken: the text that they complete was read on, and what may begin a character is held
  pub record SplicesBytes (d e : Decoding) (r q : ReaderOf) (t u : Splicing S) (bytes : List ℕ) : Type 0 where
    pub text : List ℕ
    pub parts : d.held ++ bytes ≡ text ++ e.held
    pub utf8 : IsUtf8 text
    pub reads : SplicesOn r.reading q.reading t u (chars text)
    pub rules : q.reading.rules ≡ r.reading.rules
    pub going_on : q.over ≡ false

  -- the reading of the text that they complete stopped
  pub record StopsBytes (d : Decoding) (r : Reading) (t : Splicing S) (bytes after : List ℕ) : Type 0 where
    pub text : List ℕ
    pub rest : List ℕ
    pub parts : d.held ++ bytes ≡ text ++ rest
    pub utf8 : IsUtf8 text
    pub stopped : StopsSplicing r t (chars text) after
