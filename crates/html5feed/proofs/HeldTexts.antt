-- A text whose characters are held of a reference that is open: where it is nothing, and where memory is refused.
use Rattle.std.proofs.Common.{◌≡◌, ℕ, ◌<◌, ◌^◌, Bool, true, false, inr, List, [], ◌++◌, refl, ap, sym, ◌∙◌, arith, take}
use Rattle.std.specs.Str.{chars}
use Rattle.std.proofs.lemmas.List.{append-nil, length-take-le}
use Rattle.std.proofs.lemmas.Str.{chars-IsAscii}
use Rattle.html5reading.specs.Start.{Open, Rules, Start}
use Rattle.html5reading.specs.Start.Open.{InReference}
use Rattle.html5partial.specs.CharRef.{BeginsInAscii, HoldsEach, stand_of, with_reference}
use Rattle.html5feed.specs.Quiet.{HoldsText, StopsAtCharacter}
use Rattle.markup5ever.specs.NamedReferences.{NamedReference}

-- where the text is nothing, nothing more is held
pub holds-nothing : (references : List NamedReference) (opened later : Open) (text : List ℕ) → text ≡ [] → HoldsText references opened text later → later ≡ opened
holds-nothing references opened later text none holds =
    holds.after ∙ ap (InReference holds.stand) (ap (λ l. holds.held ++ l) none ∙ append-nil holds.held) ∙ sym holds.before

-- the reference is the one that is kept beside the open item
pub holds-no_text : (references : List NamedReference) (is_in : Bool) (held : List ℕ) (opened : Open) → is_in ≡ true
    → HoldsText references (with_reference is_in held opened) [] (with_reference is_in held opened)
unfolding with_reference HoldsEach
holds-no_text references is_in held opened inside = record {
  stand = stand_of opened;
  held = held;
  before = rw inside refl;
  holds = tt;
  after = rw (inside, append-nil held) refl;
}

-- where memory is refused, nothing is held of the first character
pub stops-held : (rules : Rules) (K : Start) (text : List ℕ) (bytes : ℕ) → K.input.after_carriage_return ≡ false → K.input.drops_byte_order_mark ≡ false → K.input.line < 2 ^ 64
    → bytes ≡ 1 → BeginsInAscii text → HoldsText rules.references K.opened [] K.opened → StopsAtCharacter rules K (chars (take bytes text))
stops-held rules K text bytes past_line_break past_stream_start fits one begins holds =
    let item : chars (take 1 text) ≡ take 1 text = chars-IsAscii (take 1 text) begins.ascii in
    record {
      front = [];
      item = chars (take bytes text);
      parts = refl;
      is_one = rw (one, item) (omega (arith, length-take-le 1 text begins.filled));
      later = K.opened;
      quiet = record { past_line_break = past_line_break; past_stream_start = past_stream_start; fits = fits; reads = inr holds };
    }
