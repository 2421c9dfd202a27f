-- Pieces that are fed one after another: what was taken so far, and what that gives after the last one or where a call is refused.
use Rattle.std.proofs.Common.{◌≡◌, ℕ, ◌+◌, List, [], ◌∷◌, ◌++◌, refl, ap, sym, ◌∙◌, subst, arith, length, map}
use Rattle.std.proofs.lemmas.List.{append-nil, append_assoc, map-append, length-append}
use Rattle.std.proofs.lemmas.List.Folds.{concat-append}
use Rattle.std.specs.List.{concat}
use Rattle.std.specs.Str.{chars}
use Rattle.html5ever_interface.specs.Sink.{Means, stepped}
use Rattle.html5reading.specs.Reading.{state_after}
use Rattle.html5reading.specs.Start.{Rules, held_len}
use Rattle.markup5ever.specs.BufferQueue.{TextQueue, Gains}
use Rattle.html5feed.specs.Feed.{told_beyond, IsLinear}
use Rattle.html5states.specs.Telling.{Stops}
use Rattle.html5ever.specs.FedPieces.{fed_text, left_of, IsLinearFor, StandsWithin}
use Rattle.html5ever.specs.Pieces.{text_of}
use Rattle.html5ever.specs.Tokenizer.{Tokenizing, StandsAt, ReadsOn, StopsReading}
use Rattle.html5ever.proofs.Draining.{told_beyond-append, state-beyond, drained-stops}
use Rattle.html5ever.proofs.Wholes.{untold}
use Rattle.html5partial.specs.declared.error.TokenizerError.{TokenizerError}
use Rattle.html5partial.specs.declared.error.TokenizerError.TheVariants.{Memory}

text_of-append : (fed later : List (List ℕ)) → text_of (fed ++ later) ≡ text_of fed ++ text_of later
text_of-append fed later = ap concat (map-append chars fed later) ∙ concat-append (map chars fed) (map chars later)

-- the queued text and all pieces are the taken text, the text queued then, and the later pieces
fed-parts : (waiting : List ℕ) (fed later : List (List ℕ))
    → waiting ++ text_of (fed ++ later) ≡ fed_text waiting fed ++ (left_of waiting fed ++ text_of later)
fed-parts waiting [] later = refl
fed-parts waiting (piece ∷ fed) later =
    ap (λ l. waiting ++ l) (text_of-append (piece ∷ fed) later) ∙ sym (append_assoc waiting (text_of (piece ∷ fed)) (text_of later))

-- one piece more takes the queued text and the piece
fed-more : (waiting : List ℕ) (fed : List (List ℕ)) (piece : List ℕ)
    → fed_text waiting (fed ++ piece ∷ []) ≡ fed_text waiting fed ++ (left_of waiting fed ++ chars piece)
fed-more waiting [] piece = ap (λ l. waiting ++ l) (append-nil (chars piece))
fed-more waiting (first ∷ fed) piece =
    ap (λ l. waiting ++ l) (text_of-append (first ∷ fed) (piece ∷ []) ∙ ap (λ l. text_of (first ∷ fed) ++ l) (append-nil (chars piece)))
    ∙ sym (append_assoc waiting (text_of (first ∷ fed)) (chars piece))

left-more : (waiting : List ℕ) (fed : List (List ℕ)) (piece : List ℕ) → left_of waiting (fed ++ piece ∷ []) ≡ []
left-more waiting [] piece = refl
left-more waiting (first ∷ fed) piece = refl

module _ {X S H : Type 0} (means : Means X S H) where
  -- some first ones of the pieces were fed
  pub record HasFed (first now : Tokenizing X) (old queue : TextQueue) (pieces later : List (List ℕ)) : Type 0 where
    pub fed : List (List ℕ)
    pub parts : pieces ≡ fed ++ later
    pub reads : ReadsOn means first now (fed_text old.text fed)
    pub left : queue.text ≡ left_of old.text fed
    pub rules : now.rules ≡ first.rules
    pub linear : IsLinearFor (held_len first.position.opened) old (held_len now.position.opened) queue

  pub HasFed-none : (first : Tokenizing X) (old : TextQueue) (pieces : List (List ℕ)) → HasFed first first old old pieces pieces
  HasFed-none first old pieces = record {
    fed = [];
    parts = refl;
    reads = λ K s text stands. rw (append-nil text) stands;
    left = refl;
    rules = refl;
    linear = omega arith;
  }

  -- what a feed after a further piece cost, also if it was refused
  pub HasFed-linear : (first now : Tokenizing X) (old mid pushed new : TextQueue) (pieces later : List (List ℕ)) (piece : List ℕ) (held : ℕ)
      → HasFed first now old mid pieces later → Gains mid pushed (chars piece)
      → IsLinear (held_len now.position.opened) pushed held new → new.handed_in ≡ pushed.handed_in
      → IsLinearFor (held_len first.position.opened) old held new
  HasFed-linear first now old mid pushed new pieces later piece held so_far gains linear handed_in =
      let longer : length pushed.text ≡ length mid.text + length (chars piece) = ap length gains.text ∙ length-append mid.text (chars piece) in
      omega (arith, linear, so_far.linear, longer, gains.handed_in, gains.taken, handed_in)

  -- the next piece came in, and all that waited was fed
  pub HasFed-more : (first now next : Tokenizing X) (old mid pushed new : TextQueue) (pieces later : List (List ℕ)) (piece : List ℕ)
      → HasFed first now old mid pieces (piece ∷ later) → Gains mid pushed (chars piece)
      → ReadsOn means now next pushed.text → new.text ≡ [] → next.rules ≡ now.rules
      → IsLinear (held_len now.position.opened) pushed (held_len next.position.opened) new → new.handed_in ≡ pushed.handed_in
      → HasFed first next old new pieces later
  HasFed-more first now next old mid pushed new pieces later piece so_far gains reads none rules linear handed_in = record {
    fed = so_far.fed ++ piece ∷ [];
    parts = so_far.parts ∙ sym (append_assoc so_far.fed (piece ∷ []) later);
    reads = λ K s text stands.
        subst (λ l. StandsAt means next K s l)
        (append_assoc text (fed_text old.text so_far.fed) pushed.text
        ∙ ap (λ l. text ++ l) (ap (λ l. fed_text old.text so_far.fed ++ l) (gains.text ∙ ap (λ l. l ++ chars piece) so_far.left) ∙ sym (fed-more old.text so_far.fed piece)))
        (reads K s (text ++ fed_text old.text so_far.fed) (so_far.reads K s text stands));
    left = none ∙ sym (left-more old.text so_far.fed piece);
    rules = rules ∙ so_far.rules;
    linear = HasFed-linear first now old mid pushed new pieces (piece ∷ later) piece (held_len next.position.opened) so_far gains linear handed_in;
  }

  -- all pieces were fed
  pub HasFed-all : (first now : Tokenizing X) (old queue : TextQueue) (pieces : List (List ℕ)) → HasFed first now old queue pieces []
      → ReadsOn means first now (fed_text old.text pieces)
  HasFed-all first now old queue pieces so_far =
      subst (λ l. ReadsOn means first now (fed_text old.text l)) (sym (so_far.parts ∙ append-nil so_far.fed)) so_far.reads

  pub HasFed-left : (first now : Tokenizing X) (old queue : TextQueue) (pieces : List (List ℕ)) → HasFed first now old queue pieces []
      → queue.text ≡ left_of old.text pieces
  HasFed-left first now old queue pieces so_far = so_far.left ∙ ap (left_of old.text) (sym (so_far.parts ∙ append-nil so_far.fed))

  pub HasFed-within : (first now : Tokenizing X) (old queue : TextQueue) (pieces later : List (List ℕ)) → HasFed first now old queue pieces later
      → StandsWithin means first now old.text pieces
  HasFed-within first now old queue pieces later so_far =
      record { fed = so_far.fed; later = later; parts = so_far.parts; reads = so_far.reads }

  -- what stops within the text that waits, and some that follows, stops within all
  pub HasFed-stops : (e : TokenizerError) (first now : Tokenizing X) (old mid : TextQueue) (pieces later : List (List ℕ)) (waiting rest : List ℕ) (v : S)
      → HasFed first now old mid pieces later → waiting ++ rest ≡ mid.text ++ text_of later
      → StopsReading means e now waiting v
      → StopsReading means e first (old.text ++ text_of pieces) v
  HasFed-stops e first now old mid pieces later waiting rest v so_far all stops K s text stands =
      let x : Rules = first.rules in
      let front : List ℕ = fed_text old.text so_far.fed in
      let now_stands : StandsAt means now K s (text ++ front) = so_far.reads K s text stands in
      let whole : told_beyond means x K s text (old.text ++ text_of pieces)
      ≡ told_beyond means x K s text front ++ (told_beyond means x K s (text ++ front) waiting ++ told_beyond means x K s ((text ++ front) ++ waiting) rest) =
      ap (told_beyond means x K s text)
      (ap (λ l. old.text ++ text_of l) so_far.parts ∙ fed-parts old.text so_far.fed later
      ∙ ap (λ l. front ++ l) (ap (λ l. l ++ text_of later) (sym so_far.left) ∙ sym all))
      ∙ told_beyond-append means x K s text front (waiting ++ rest)
      ∙ ap (λ M. told_beyond means x K s text front ++ M) (told_beyond-append means x K s (text ++ front) waiting rest) in
      let state_now : means.state now.sink ≡ stepped means.step (means.state first.sink) (told_beyond means x K s text front) =
      now_stands.told
      ∙ ap (λ b. state_after means b K s (text ++ front)) so_far.rules
      ∙ state-beyond means x K s text front
      ∙ ap (λ u. stepped means.step u (told_beyond means x K s text front)) (sym stands.told) in
      rw whole (drained-stops means e (means.state first.sink) (means.state now.sink) v _ _ _ state_now
      (subst (λ b. Stops means.step means.faulted e (means.state now.sink) (told_beyond means b K s (text ++ front) waiting) v) so_far.rules
      (stops K s (text ++ front) now_stands)))

  -- if there is no room for the next piece, nothing more was sent
  pub HasFed-no_room : (first now : Tokenizing X) (old mid : TextQueue) (pieces later : List (List ℕ)) → HasFed first now old mid pieces later
      → StopsReading means Memory first (old.text ++ text_of pieces) (means.state now.sink)
  HasFed-no_room first now old mid pieces later so_far =
      HasFed-stops Memory first now old mid pieces later [] (mid.text ++ text_of later) (means.state now.sink) so_far refl
      (λ K s text stands. untold means (means.state now.sink) _)
