-- A whole page that is spliced, from its first byte on.
use Rattle.std.proofs.Common.{◌≡◌, ℕ, true, List, [], ◌++◌, Option, refl, ap, sym, ◌∙◌, subst}
use Rattle.std.specs.Prelude.{encode_utf8_all}
use Rattle.std.specs.List.{concat}
use Rattle.std.specs.Str.{chars}
use Rattle.std.proofs.lemmas.List.{append-nil}
use Rattle.html5places.specs.Placed.{at_first_byte, placed_by}
use Rattle.html5places.specs.Readers.{Reading, StandsAfter}
use Rattle.html5places.proofs.Pieces.{placed_by-nil}
use Rattle.html5reading.specs.Start.{Rules, Start, nothing_open}
use Rattle.html5splice.specs.Cuts.{cuts_of}
use Rattle.html5splice.specs.Edits.{Splices, after_cuts, parts}
use Rattle.html5splice.specs.Splicing.{SplicesWhole, Splicing, StandsSpliced, StopsSource, Waiting, WritesBeginning, end_of, led_by, text_parts}
use Rattle.html5stream.specs.Pages.{ReadsPage, StopsPage}

-- a new handler is where a page begins
pub starts-as : {S H O : Type 0} (state : H → S) (bytes : O → List ℕ) (h g : H) (o p : O) (window : Waiting) → h ≡ g → o ≡ p → window ≡ record { bytes = []; base = 0 }
    → ◌≡◌ {A = Splicing S} (record { splicer = state h; written = bytes o; window = window }) (record { splicer = state g; written = bytes p; window = record { bytes = []; base = 0 } })
starts-as state bytes h g o p window hg op none =
    ap (λ x. record { splicer = state x; written = bytes o; window = window }) hg
    ∙ ap (λ x. record { splicer = state g; written = bytes x; window = window }) op
    ∙ ap (λ x. record { splicer = state g; written = bytes p; window = x }) none

module _ {S : Type 0} (splices : Splices S) (K : Start) (s : S) (w : List ℕ) where
  -- where a page begins
  abbrev pub at_start : Splicing S
  at_start = record { splicer = s; written = w; window = record { bytes = []; base = 0 } }

  led-none : at_start ≡ led_by splices [] s w 0 []
  unfolding cuts_of after_cuts parts end_of
  led-none = ap (λ l. record { splicer = s; written = l; window = record { bytes = []; base = 0 } }) (sym (append-nil w))

  pub stands-first : (r : Reading) (t : Splicing S) → StandsAfter r (at_first_byte K) [] → t ≡ at_start → StandsSpliced splices r t K s w []
  stands-first r t stands at = record {
    reader = stands;
    handler = at ∙ led-none ∙ ap (led_by splices [] s w 0) (sym (placed_by-nil r.rules (at_first_byte K) []));
  }

  module _ (rules : Rules) (clean : nothing_open K.opened ≡ true) (r : Reading) (t : Splicing S) (same : r.rules ≡ rules) (stands : StandsSpliced splices r t K s w []) where
    pub page-read : (unread left : Option (List ℕ)) (after : List ℕ) → SplicesWhole splices unread left r t after
        → ReadsPage (λ before bytes. before ++ concat (text_parts splices rules K s (chars bytes))) (record { unread = unread; left = left; before = w; after = after })
    page-read unread left after whole = record {
      bytes = whole.bytes;
      consumed = whole.given;
      at_end = whole.at_end;
      utf8 = whole.utf8;
      told = subst (λ x. after ≡ w ++ concat (text_parts splices x K s (chars whole.bytes))) same (whole.ends K s w clean stands);
    }

    pub page-stopped : (unread left : Option (List ℕ)) (after : List ℕ) → StopsSource splices unread left r t after
        → StopsPage (λ (before : List ℕ) bytes. text_parts splices rules K s (chars bytes)) (λ before told. before ++ concat told) (record { unread = unread; left = left; before = w; after = after })
    page-stopped unread left after stops =
        let wrote : WritesBeginning splices rules K s w (chars stops.text) after =
        subst (λ x. WritesBeginning splices x K s w (chars stops.text) after) same (stops.stopped K s w [] clean stands) in
        record {
          text = stops.text;
          rest = stops.rest;
          consumed = stops.given;
          utf8 = stops.utf8;
          told = wrote.front;
          untold = wrote.back;
          parts = wrote.whole;
          state = wrote.wrote;
        }
