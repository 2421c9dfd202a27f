-- What comes before the first error.
use Rattle.std.proofs.Common.{true, false, ◌≡◌, ℕ, suc, ◌+◌, ◌≤◌, List, length, ◌∷◌, ◌++◌, [], refl, sym, ap, ◌∙◌, arith, append_assoc}
use Rattle.std.specs.Prelude.{Bool, Option, None, Some, encode_utf8_all, is_none, is_some, not, if◌then◌else◌}
use Rattle.std.proofs.lemmas.Bool.{true≢false}
use Rattle.std.proofs.lemmas.Str.{encodes-append}
use Rattle.html5encodings.specs.declared.iso_2022_jp.Begun.{Begun}
use Rattle.html5encodings.specs.declared.iso_2022_jp.Begun.TheVariants as begun
use Rattle.html5encodings.specs.declared.iso_2022_jp.Charset.{Charset}
use Rattle.html5encodings.specs.declared.state.State.{State}
use Rattle.html5encodings.specs.declared.state.State.TheVariants as state
use Rattle.html5encodings.specs.Iso2022Jp as iso_2022_jp
use Rattle.html5encodings.specs.Steps.{error_if}
use Rattle.html5encodings.specs.Utf16 as utf16
use Rattle.html5encodings.specs.Decoding.{at_end, given_before_error, handled, is_whole, len_before_error, returns_error, state_before_error}

-- a byte that is not an error was decoded
pub given-sound : (now : State) (byte : ℕ) (bytes old new : List ℕ) → returns_error now byte ≡ false → new ≡ old ++ encode_utf8_all (handled now byte).0
    → new ++ encode_utf8_all (given_before_error (handled now byte).1 bytes) ≡ old ++ encode_utf8_all (given_before_error now (byte ∷ bytes))
given-sound now byte bytes old new sound is =
    let front = (handled now byte).0 in
    let rest = given_before_error (handled now byte).1 bytes in
    ap (λ l. l ++ encode_utf8_all rest) is
    ∙ append_assoc old (encode_utf8_all front) (encode_utf8_all rest)
    ∙ ap (λ l. old ++ l) (sym (encodes-append front rest))
    ∙ ap (λ (e : Bool). old ++ encode_utf8_all (if e then [] else (front ++ rest))) (sym sound)

pub state-sound : (now : State) (byte : ℕ) (bytes : List ℕ) → returns_error now byte ≡ false
    → state_before_error (handled now byte).1 bytes ≡ state_before_error now (byte ∷ bytes)
state-sound now byte bytes sound = ap (λ (e : Bool). if e then now else (state_before_error (handled now byte).1 bytes)) (sym sound)

pub len-sound : (now : State) (byte : ℕ) (bytes : List ℕ) → returns_error now byte ≡ false
    → len_before_error now (byte ∷ bytes) ≡ 1 + len_before_error (handled now byte).1 bytes
len-sound now byte bytes sound = ap (λ (e : Bool). if e then 0 else (suc (len_before_error (handled now byte).1 bytes))) sound ∙ omega arith

-- nothing comes before an error
pub given-error : (now : State) (byte : ℕ) (bytes : List ℕ) → returns_error now byte ≡ true → given_before_error now (byte ∷ bytes) ≡ []
given-error now byte bytes error = ap (λ (e : Bool). if e then [] else ((handled now byte).0 ++ given_before_error (handled now byte).1 bytes)) error

pub state-error : (now : State) (byte : ℕ) (bytes : List ℕ) → returns_error now byte ≡ true → state_before_error now (byte ∷ bytes) ≡ now
state-error now byte bytes error = ap (λ (e : Bool). if e then now else (state_before_error (handled now byte).1 bytes)) error

pub len-error : (now : State) (byte : ℕ) (bytes : List ℕ) → returns_error now byte ≡ true → len_before_error now (byte ∷ bytes) ≡ 0
len-error now byte bytes error = ap (λ (e : Bool). if e then 0 else (suc (len_before_error (handled now byte).1 bytes))) error

bound-step : (n m : ℕ) (e : Bool) → n ≤ m → (if e then 0 else (suc n)) ≤ suc m
bound-step n m true le = omega arith
bound-step n m false le = omega arith

pub len-bound : (now : State) (bytes : List ℕ) → len_before_error now bytes ≤ length bytes
len-bound now [] = omega arith
len-bound now (byte ∷ bytes) = bound-step (len_before_error (handled now byte).1 bytes) (length bytes) (returns_error now byte) (len-bound (handled now byte).1 bytes)

-- ---- when nothing is begun, the end gives nothing

end-none : {X : Type 0} (part : Option X) → is_none part ≡ true → error_if (is_some part) ≡ []
end-none None none = refl
end-none (Some x) none = absurd (true≢false (sym none))

end-not : (some : Bool) → not some ≡ true → error_if some ≡ []
end-not false none = refl
end-not true none = absurd (true≢false (sym none))

end-nothing : (now : Begun) (by : Charset) → iso_2022_jp.is_nothing now ≡ true → iso_2022_jp.at_end_after now by ≡ []
end-nothing begun.Nothing by none = refl
end-nothing (begun.Lead lead) by none = absurd (true≢false (sym none))
end-nothing begun.Escape by none = absurd (true≢false (sym none))
end-nothing begun.EscapeDollar by none = absurd (true≢false (sym none))
end-nothing begun.EscapeParenthesis by none = absurd (true≢false (sym none))

pub end-whole : (now : State) → is_whole now ≡ true → at_end now ≡ []
unfolding at_end is_whole
end-whole (state.Utf8 part) whole = end-none part whole
end-whole (state.SingleByte single) whole = refl
end-whole (state.Gb18030 lead) whole = end-none lead whole
end-whole (state.Big5 lead) whole = end-none lead whole
end-whole (state.EucJp lead) whole = end-none lead whole
end-whole (state.Iso2022Jp j) whole = end-nothing j.begun j.charset whole
end-whole (state.ShiftJis lead) whole = end-none lead whole
end-whole (state.EucKr lead) whole = end-none lead whole
end-whole (state.Replacement returned) whole = refl
end-whole (state.Utf16 u) whole = end-not (utf16.is_begun u) whole
end-whole state.UserDefined whole = refl
