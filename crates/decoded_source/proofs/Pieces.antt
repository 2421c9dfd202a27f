-- What reading, decoding and the end leave of the text that is still given.
use Rattle.std.proofs.Common.{◌≡◌, ℕ, ◌<◌, ◌≤◌, List, [], ◌++◌, length, Option, None, Some, sym, ap, ◌∙◌, arith, append_assoc, ⊎_elim}
use Rattle.std.specs.Prelude.{encode_utf8_all}
use Rattle.std.specs.Io.KnownBytes.{Keeps}
use Rattle.std.proofs.lemmas.Bool.{cases_lt}
use Rattle.std.proofs.lemmas.Str.{encodes-append}
use Rattle.html5encodings.specs.Decoding.{at_end, given, given_before_error, len_before_error, state_after, state_before_error}
use Rattle.html5encodings.specs.declared.state.State.{State}
use Rattle.html5encodings.proofs.BeforeErrors.{len-bound}
use Rattle.html5encodings.proofs.Runs.{given-append, state_after-append}
use Rattle.decoded_source.specs.Texts.{Reading, refusal, text_from, text_of, text_up_to_error}
use Rattle.decoded_source.specs.declared.source.ErrorMode.{ErrorMode}
use Rattle.decoded_source.specs.declared.source.ErrorMode.TheVariants.{Replacement, Fatal, Failed}
use Rattle.decoded_source.proofs.Fatal.{text-failed_piece, text-whole_piece}

-- the text of a piece, and then of the bytes after it
pub text_of-piece : (now : State) (front rest : List ℕ)
    → text_of Replacement (Some now) (front ++ rest) ≡ encode_utf8_all (given now front) ++ text_of Replacement (Some (state_after now front)) rest
text_of-piece now front rest =
    let later = state_after now front in
    let last = at_end (state_after later rest) in
    ap (λ l. encode_utf8_all (l ++ at_end (state_after now (front ++ rest)))) (given-append now front rest)
    ∙ ap (λ s. encode_utf8_all ((given now front ++ given later rest) ++ at_end s)) (state_after-append now front rest)
    ∙ ap encode_utf8_all (append_assoc (given now front) (given later rest) last)
    ∙ encodes-append (given now front) (given later rest ++ last)

-- a piece was decoded, and its text waits
pub Keeps-decoded : {S : Type 0} (old : Reading S) (inner : S) (mode : ErrorMode) (now then_now : State) (undecoded waiting : List ℕ) (own : ℕ) (before after : Option (List ℕ)) → after ≡ before
    → old.mode ≡ Replacement → mode ≡ Replacement
    → old.waiting ≡ [] → old.decoder ≡ Some now → then_now ≡ state_after now old.undecoded → undecoded ≡ [] → waiting ≡ encode_utf8_all (given now old.undecoded)
    → Keeps (text_from old before) (text_from (record { inner = inner; mode = mode; decoder = Some then_now; undecoded = undecoded; waiting = waiting; own_failures = own }) after)
Keeps-decoded old inner mode now then_now undecoded waiting own None None same was is empty stood stands none text = tt
Keeps-decoded old inner mode now then_now undecoded waiting own None (Some xs) same was is empty stood stands none text = tt
Keeps-decoded old inner mode now then_now undecoded waiting own (Some bytes) None same was is empty stood stands none text = absurd (cc same)
Keeps-decoded old inner mode now then_now undecoded waiting own (Some bytes) (Some xs) same was is empty stood stands none text = cc (text_of-piece now old.undecoded bytes)

-- the same up to the first error in it
text-decoded : (now : State) (front rest : List ℕ) (mode : ErrorMode)
    → (len_before_error now front < length front → mode ≡ Failed) → (length front ≤ len_before_error now front → mode ≡ Fatal)
    → text_up_to_error now (front ++ rest) ≡ encode_utf8_all (given_before_error now front) ++ text_of mode (Some (state_before_error now front)) rest
text-decoded now front rest mode failed whole =
    let before = encode_utf8_all (given_before_error now front) in
    let after = state_before_error now front in
    ⊎_elim
    (λ (some : len_before_error now front < length front).
    text-failed_piece now front rest some ∙ ap (λ m. before ++ text_of m (Some after) rest) (sym (failed some)))
    (λ (all : length front ≤ len_before_error now front).
    text-whole_piece now front rest (omega (arith, len-bound now front)) ∙ ap (λ m. before ++ text_of m (Some after) rest) (sym (whole all)))
    (cases_lt (len_before_error now front) (length front))

pub Keeps-decoded_fatally : {S : Type 0} (old : Reading S) (inner : S) (mode : ErrorMode) (now then_now : State) (undecoded waiting : List ℕ) (own : ℕ) (before after : Option (List ℕ)) → after ≡ before
    → old.mode ≡ Fatal → (len_before_error now old.undecoded < length old.undecoded → mode ≡ Failed) → (length old.undecoded ≤ len_before_error now old.undecoded → mode ≡ Fatal)
    → old.waiting ≡ [] → old.decoder ≡ Some now → then_now ≡ state_before_error now old.undecoded → undecoded ≡ [] → waiting ≡ encode_utf8_all (given_before_error now old.undecoded)
    → Keeps (text_from old before) (text_from (record { inner = inner; mode = mode; decoder = Some then_now; undecoded = undecoded; waiting = waiting; own_failures = own }) after)
Keeps-decoded_fatally old inner mode now then_now undecoded waiting own None None same was failed whole empty stood stands none text = tt
Keeps-decoded_fatally old inner mode now then_now undecoded waiting own None (Some xs) same was failed whole empty stood stands none text = tt
Keeps-decoded_fatally old inner mode now then_now undecoded waiting own (Some bytes) None same was failed whole empty stood stands none text = absurd (cc same)
Keeps-decoded_fatally old inner mode now then_now undecoded waiting own (Some bytes) (Some xs) same was failed whole empty stood stands none text =
    cc (text-decoded now old.undecoded bytes mode failed whole)
