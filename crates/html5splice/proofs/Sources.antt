-- A source whose page is spliced piece by piece.
use Rattle.std.proofs.Common.{◌≡◌, ℕ, true, false, List, [], ◌∷◌, ◌++◌, length, take, Option, None, Some, refl, ap, sym, ◌∙◌, subst}
use Rattle.std.specs.Io.KnownBytes.{Consumes, IsAtEnd}
use Rattle.std.specs.List.{concat}
use Rattle.std.specs.Str.{IsUtf8, chars}
use Rattle.std.proofs.lemmas.List.{append-nil, append_assoc}
use Rattle.std.proofs.lemmas.Str.{IsUtf8-append, IsUtf8-nil, chars-append, chars-nil}
use Rattle.devices.proofs.KnownBytes.{Consumes-append}
use Rattle.utf8_pieces.specs.Pieces.{Decoding}
use Rattle.html5places.specs.Readers.{ReaderOf, Reading}
use Rattle.html5reading.specs.Start.{Start, nothing_open}
use Rattle.html5splice.specs.Edits.{Splices}
use Rattle.html5splice.specs.Splicing.{EndsSplicing, SplicesBytes, SplicesOn, SplicesSource, SplicesWhole, Splicing, StandsSpliced, StopsBytes, StopsSource, StopsSplicing, WritesBeginning, text_parts}
use Rattle.html5splice.proofs.Reading.{on-nothing}

Consumes-none : (known : Option (List ℕ)) → Consumes known known []
Consumes-none None = tt
Consumes-none (Some xs) = refl

module _ {S : Type 0} (splices : Splices S) where
  -- what the source gave is a text that was read on, and what the decoder holds
  pub record HasSpliced (unread left : Option (List ℕ)) (d : Decoding) (r q : ReaderOf) (t u : Splicing S) : Type 0 where
    pub text : List ℕ
    pub given : Consumes unread left (text ++ d.held)
    pub utf8 : IsUtf8 text
    pub reads : SplicesOn splices r.reading q.reading t u (chars text)
    pub rules : q.reading.rules ≡ r.reading.rules
    pub going_on : q.over ≡ false

  pub has-none : (known : Option (List ℕ)) (d : Decoding) (r : ReaderOf) (t : Splicing S) → d.held ≡ [] → r.over ≡ false → HasSpliced known known d r r t t
  has-none known d r t none going_on = record {
    text = [];
    given = subst (Consumes known known) (sym none) (Consumes-none known);
    utf8 = IsUtf8-nil;
    reads = λ K s written before clean stands. subst (StandsSpliced splices r.reading t K s written) (sym (ap (λ l. before ++ l) chars-nil ∙ append-nil before)) stands;
    rules = refl;
    going_on = going_on;
  }

  on-more : (r q p : Reading) (t u v : Splicing S) (a b : List ℕ) → IsUtf8 a → SplicesOn splices r q t u (chars a) → SplicesOn splices q p u v (chars b)
      → SplicesOn splices r p t v (chars (a ++ b))
  on-more r q p t u v a b utf8 first second = λ K s written before clean stands.
      subst (StandsSpliced splices p v K s written) (append_assoc before (chars a) (chars b) ∙ ap (λ l. before ++ l) (sym (chars-append a b utf8)))
      (second K s written (before ++ chars a) clean (first K s written before clean stands))

  -- one piece more
  pub has-more : (unread now left : Option (List ℕ)) (d e : Decoding) (r q p : ReaderOf) (t u v : Splicing S) (more : List ℕ) → HasSpliced unread now d r q t u
      → Consumes now left more → SplicesBytes splices d e q p u v more → HasSpliced unread left e r p t v
  has-more unread now left d e r q p t u v more had given takes =
      let whole : (had.text ++ d.held) ++ more ≡ (had.text ++ takes.text) ++ e.held =
      append_assoc had.text d.held more ∙ ap (λ l. had.text ++ l) takes.parts ∙ sym (append_assoc had.text takes.text e.held) in
      record {
        text = had.text ++ takes.text;
        given = subst (Consumes unread left) whole (Consumes-append unread now left (had.text ++ d.held) more had.given given);
        utf8 = IsUtf8-append had.text takes.text had.utf8 takes.utf8;
        reads = on-more r.reading q.reading p.reading t u v had.text takes.text had.utf8 had.reads takes.reads;
        rules = takes.rules ∙ had.rules;
        going_on = takes.going_on;
      }

  nothing-more : (unread now left : Option (List ℕ)) (all : List ℕ) (n : ℕ) (buffer : List ℕ) → Consumes unread now all → Consumes now left (take n buffer) → n ≡ 0
      → Consumes unread left all
  nothing-more unread now left all n buffer had given zero =
      subst (Consumes unread left) (ap (λ k. all ++ take k buffer) zero ∙ append-nil all) (Consumes-append unread now left all (take n buffer) had given)

  -- the source ended
  pub has-all : (unread now left : Option (List ℕ)) (d : Decoding) (r q : ReaderOf) (t u : Splicing S) (n : ℕ) (buffer : List ℕ) → HasSpliced unread now d r q t u
      → Consumes now left (take n buffer) → n ≡ 0 → IsAtEnd left → d.held ≡ [] → SplicesSource splices unread left r.reading q.reading t u
  has-all unread now left d r q t u n buffer had given zero at_end none = record {
    bytes = had.text;
    given = subst (Consumes unread left) (ap (λ l. had.text ++ l) none ∙ append-nil had.text) (nothing-more unread now left (had.text ++ d.held) n buffer had.given given zero);
    at_end = at_end;
    utf8 = had.utf8;
    reads = had.reads;
    rules = had.rules;
  }

  -- a stop after what was read on, of which nothing more was read
  stop-here : (r q : Reading) (t u : Splicing S) (text after : List ℕ) → q.rules ≡ r.rules → SplicesOn splices r q t u (chars text) → StopsSplicing splices q u [] after
      → StopsSplicing splices r t (chars text) after
  stop-here r q t u text after rules reads stops = λ K s written before clean stands.
      subst (λ l. WritesBeginning splices r.rules K s written l after) (append-nil (before ++ chars text))
      (subst (λ x. WritesBeginning splices x K s written ((before ++ chars text) ++ []) after) rules
      (stops K s written (before ++ chars text) clean (reads K s written before clean stands)))

  -- the source was not read on: a read failed, or its bytes are cut, or it does not end
  pub has-stopped : (unread now left : Option (List ℕ)) (d : Decoding) (r q : ReaderOf) (t u : Splicing S) (more : List ℕ) → HasSpliced unread now d r q t u
      → Consumes now left more → StopsSource splices unread left r.reading t u.written
  has-stopped unread now left d r q t u more had given = record {
    text = had.text;
    rest = d.held ++ more;
    given = subst (Consumes unread left) (append_assoc had.text d.held more) (Consumes-append unread now left (had.text ++ d.held) more had.given given);
    utf8 = had.utf8;
    stopped = stop-here r.reading q.reading t u had.text u.written had.rules had.reads (on-nothing splices q.reading u u [] refl);
  }

  -- nor is a source that does not end
  pub has-endless : (unread now : Option (List ℕ)) (d : Decoding) (r q : ReaderOf) (t u : Splicing S) → HasSpliced unread now d r q t u
      → StopsSource splices unread now r.reading t u.written
  has-endless unread now d r q t u had = has-stopped unread now now d r q t u [] had (Consumes-none now)

  -- the reading of a piece stopped
  pub has-stopped_in : (unread now left : Option (List ℕ)) (d : Decoding) (r q : ReaderOf) (t u : Splicing S) (more after : List ℕ) → HasSpliced unread now d r q t u
      → Consumes now left more → StopsBytes splices d q.reading u more after → StopsSource splices unread left r.reading t after
  has-stopped_in unread now left d r q t u more after had given stops =
      let whole : (had.text ++ d.held) ++ more ≡ (had.text ++ stops.text) ++ stops.rest =
      append_assoc had.text d.held more ∙ ap (λ l. had.text ++ l) stops.parts ∙ sym (append_assoc had.text stops.text stops.rest) in
      record {
        text = had.text ++ stops.text;
        rest = stops.rest;
        given = subst (Consumes unread left) whole (Consumes-append unread now left (had.text ++ d.held) more had.given given);
        utf8 = IsUtf8-append had.text stops.text had.utf8 stops.utf8;
        stopped = λ K s written before clean stands.
            subst (λ l. WritesBeginning splices r.reading.rules K s written l after)
            (append_assoc before (chars had.text) (chars stops.text) ∙ ap (λ l. before ++ l) (sym (chars-append had.text stops.text had.utf8)))
            (subst (λ x. WritesBeginning splices x K s written ((before ++ chars had.text) ++ chars stops.text) after) had.rules
            (stops.stopped K s written (before ++ chars had.text) clean (had.reads K s written before clean stands)));
      }

  -- ---- the end

  pub whole-ended : (unread left : Option (List ℕ)) (r q : Reading) (t u : Splicing S) (after : List ℕ) → SplicesSource splices unread left r q t u
      → EndsSplicing splices q u after → SplicesWhole splices unread left r t after
  whole-ended unread left r q t u after source ends = record {
    bytes = source.bytes;
    given = source.given;
    at_end = source.at_end;
    utf8 = source.utf8;
    ends = λ K s written clean stands.
        subst (λ x. after ≡ written ++ concat (text_parts splices x K s (chars source.bytes))) source.rules
        (ends K s written (chars source.bytes) clean (source.reads K s written [] clean stands));
  }

  pub whole-stopped : (unread left : Option (List ℕ)) (r q : Reading) (t u : Splicing S) (after : List ℕ) → SplicesSource splices unread left r q t u
      → StopsSplicing splices q u [] after → StopsSource splices unread left r t after
  whole-stopped unread left r q t u after source stops = record {
    text = source.bytes;
    rest = [];
    given = subst (Consumes unread left) (sym (append-nil source.bytes)) source.given;
    utf8 = source.utf8;
    stopped = stop-here r q t u source.bytes after source.rules source.reads stops;
  }
