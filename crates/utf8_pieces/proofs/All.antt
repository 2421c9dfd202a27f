-- A whole text, piece by piece.
use Rattle.std.proofs.Common.{◌≡◌, ◌≢◌, ◌⊎◌, ℕ, ◌+◌, ◌-◌, ◌<◌, List, [], ◌∷◌, ◌++◌, length, take, drop, get_or, refl, sym, ◌∙◌, ap, subst, arith, inl, inr, append-nil, append_assoc, take-append-drop, length-append}
use Rattle.std.specs.Prelude.{IsUtf8, String, string_bytes}
use Rattle.std.specs.Borrow.{Bor}
use Rattle.std.specs.Str.{IsValidUpTo}
use Rattle.std.proofs.lemmas.Bool.{cases_lt}
use Rattle.std.proofs.lemmas.Grind.{flat_map-append}
use Rattle.std.proofs.lemmas.List.{take_all, take_more, take-append-le}
use Rattle.std.proofs.lemmas.Str.{IsUtf8-nil, IsUtf8-string_bytes}
use Rattle.utf8_pieces.specs.Pieces.{Decoding, IsCutCharacter, IsFault, IsNeverUtf8, bytes_of, place_after}
use Rattle.utf8_pieces.specs.declared.error.DecodeError.{DecodeError}
use Rattle.utf8_pieces.specs.declared.error.DecodeError.TheVariants.{NotUtf8, Memory}
use Rattle.utf8_pieces.proofs.Cuts.{no_text_within}
use Rattle.utf8_pieces.proofs.Fronts.{IsNeverUtf8-after, IsValidUpTo-after, take_past}

-- what a text and a decoder have of some bytes
pub record HasDecoded {Z : Type 0} (text : String Z) (decoder : Decoding) (bytes : List ℕ) : Type 0 where
  pub cut : IsCutCharacter decoder.held
  pub all : string_bytes text ++ decoder.held ≡ bytes
  pub taken : decoder.taken ≡ place_after 0 (length (string_bytes text))

place_after-twice : (place a b : ℕ) → place_after (place_after place a) b ≡ place_after place (a + b)
place_after-twice place a b = omega arith

-- the bytes of the pieces up to one, with that one
bytes_of-more : (pieces : List (Bor (List ℕ))) (i : ℕ) (other : Bor (List ℕ)) → i < length pieces
    → bytes_of (take (i + 1) pieces) ≡ bytes_of (take i pieces) ++ (get_or pieces i other).now
bytes_of-more pieces i other inside =
    let piece = get_or pieces i other in
    ap bytes_of (take_more pieces i other inside)
    ∙ flat_map-append (λ (p : Bor (List ℕ)). p.now) (take i pieces) (piece ∷ []) ∙ ap (λ t. bytes_of (take i pieces) ++ t) (append-nil piece.now)

-- bytes that are never UTF-8 stop being it in the same place, whatever follows
IsValidUpTo-before : (bytes later : List ℕ) (n : ℕ) → IsValidUpTo bytes n → IsNeverUtf8 bytes → IsValidUpTo (bytes ++ later) n
IsValidUpTo-before bytes later n valid never =
    let short = valid.short in
    record {
      short = omega (arith, length-append bytes later);
      front = subst IsUtf8 (sym (take-append-le n bytes later (omega arith))) valid.front;
      longest = λ m more text. elim (cases_lt (length bytes) m) [
        | inl past ↦ never (take (m - length bytes) later) (subst IsUtf8 (take_past bytes later m (m - length bytes) (omega arith)) text)
        | inr within ↦ valid.longest m more (subst IsUtf8 (take-append-le m bytes later within) text)
      ];
    }

-- a fault in one of the pieces is a fault of all their bytes
pub fault_within : {Z : Type 0} (text : String Z) (decoder : Decoding) (pieces : List (Bor (List ℕ))) (i : ℕ) (other : Bor (List ℕ)) (error : DecodeError)
    → i < length pieces → HasDecoded text decoder (bytes_of (take i pieces))
    → (error ≡ Memory) ⊎ IsFault decoder.taken (decoder.held ++ (get_or pieces i other).now) error
    → (error ≢ Memory → IsNeverUtf8 (decoder.held ++ (get_or pieces i other).now)) → (error ≡ Memory) ⊎ IsFault 0 (bytes_of pieces) error
fault_within text decoder pieces i other error inside had (inl memory) never = inl memory
fault_within text decoder pieces i other error inside had (inr fault) never =
    let piece = get_or pieces i other in
    let t = string_bytes text in
    let here = decoder.held ++ piece.now in
    let later = bytes_of (drop (i + 1) pieces) in
    let n = fault.valid_len in
    let utf8 = IsUtf8-string_bytes text in
    let named = fault.named in
    let bad : IsNeverUtf8 here = never (λ memory. cc (named, memory)) in
    let start : t ++ here ≡ bytes_of (take (i + 1) pieces) =
    sym (append_assoc t decoder.held piece.now) ∙ ap (λ l. l ++ piece.now) had.all ∙ sym (bytes_of-more pieces i other inside) in
    let whole : (t ++ here) ++ later ≡ bytes_of pieces =
    ap (λ l. l ++ later) start ∙ sym (flat_map-append (λ (p : Bor (List ℕ)). p.now) (take (i + 1) pieces) (drop (i + 1) pieces)) ∙ ap bytes_of (take-append-drop (i + 1) pieces) in
    let valid = IsValidUpTo-before (t ++ here) later (length t + n) (IsValidUpTo-after t here n utf8 fault.valid) (IsNeverUtf8-after t here utf8 bad) in
    inr (record {
      valid_len = length t + n;
      valid = subst (λ l. IsValidUpTo l (length t + n)) whole valid;
      named = named ∙ ap NotUtf8 (ap (λ k. place_after k n) had.taken ∙ place_after-twice 0 (length t) n);
    })

some_bytes : (bytes : List ℕ) → ¬ (bytes ≡ []) → 0 < length bytes
some_bytes [] some = absurd (some refl)
some_bytes (b ∷ bytes) some = omega arith

-- no text begins a character that is cut
IsValidUpTo-cut : (held : List ℕ) → IsCutCharacter held → 0 < length held → IsValidUpTo held 0
IsValidUpTo-cut held cut some =
    record {
      short = some;
      front = IsUtf8-nil;
      longest = λ m more text. elim (cases_lt (length held) m) [
        | inl past ↦
            let same = take_all m held (omega arith) ∙ sym (take_all (length held) held (omega arith)) in
            no_text_within held (length held) text.0 cut some (omega arith) (text.1.1 ∙ same)
        | inr within ↦ no_text_within held m text.0 cut more within text.1.1
      ];
    }

-- a character that the end cuts off is a fault at its place
pub fault_at_end : {Z : Type 0} (text : String Z) (decoder : Decoding) (bytes : List ℕ) (error : DecodeError) → HasDecoded text decoder bytes
    → ¬ (decoder.held ≡ []) → error ≡ NotUtf8 decoder.taken → IsFault 0 bytes error
fault_at_end text decoder bytes error had some named =
    let t = string_bytes text in
    let valid = IsValidUpTo-after t decoder.held 0 (IsUtf8-string_bytes text) (IsValidUpTo-cut decoder.held had.cut (some_bytes decoder.held some)) in
    let place : place_after 0 (length t) ≡ place_after 0 (length t + 0) = omega arith in
    record {
      valid_len = length t + 0;
      valid = subst (λ l. IsValidUpTo l (length t + 0)) had.all valid;
      named = named ∙ ap NotUtf8 (had.taken ∙ place);
    }

pub whole_at_end : {Z : Type 0} (text : String Z) (decoder : Decoding) (bytes : List ℕ) → HasDecoded text decoder bytes → decoder.held ≡ []
    → string_bytes text ≡ bytes
whole_at_end text decoder bytes had none = sym (append-nil (string_bytes text)) ∙ ap (λ t. string_bytes text ++ t) (sym none) ∙ had.all
