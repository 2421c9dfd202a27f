-- White space, byte by byte.
use Rattle.std.proofs.Common.{◌≡◌, ℕ, suc, ◌+◌, ◌<◌, Bool, true, false, List, [], ◌∷◌, ◌++◌, drop, length, refl, ap, sym, ◌∙◌, append-nil, append_assoc, arith}
use Rattle.std.specs.Prelude.{cond, filter, encode_utf8, if◌then◌else◌}
use Rattle.std.specs.Char.{is_ascii_whitespace}
use Rattle.std.specs.List.{prefix_len}
use Rattle.std.specs.Str.{IsTrimAsciiStart}
use Rattle.std.proofs.lemmas.Str.{encode_ascii}
use Rattle.std.proofs.lemmas.Str.Ascii.{trim_ascii_start_is}
use Rattle.html5tree.specs.Fitting.{is_space}
use Rattle.html5tree.specs.Tables.{after_space, leading_space}

same-space : (c : ℕ) → is_ascii_whitespace c ≡ is_space c
same-space c = grind arith

space-small : (c : ℕ) → is_space c ≡ true → c < 128
space-small c h = grind arith

one-more : (n : ℕ) → 1 + n ≡ suc n
one-more n = omega arith

dropped : (text : List ℕ) → drop (prefix_len is_ascii_whitespace text) text ≡ after_space text
unfolding after_space
dropped [] = refl
dropped (c ∷ text) = step (is_ascii_whitespace c) (is_space c) (same-space c) (dropped text)
  where
    step : (b s : Bool) → b ≡ s → drop (prefix_len is_ascii_whitespace text) text ≡ after_space text
        → drop (cond b (1 + prefix_len is_ascii_whitespace text) 0) (c ∷ text) ≡ (if s then after_space text else c ∷ text)
    step true true e more = ap (λ n. drop n (c ∷ text)) (one-more (prefix_len is_ascii_whitespace text)) ∙ more
    step false false e more = refl
    step true false e more = cc
    step false true e more = cc

pub after-trimmed : (text rest : List ℕ) → IsTrimAsciiStart text rest → rest ≡ after_space text
after-trimmed text rest trimmed = trim_ascii_start_is text rest trimmed ∙ dropped text

pushed-space : (old new rest : List ℕ) (c : ℕ) → is_space c ≡ true → new ≡ old ++ encode_utf8 c → new ++ rest ≡ old ++ (c ∷ rest)
pushed-space old new rest c is pushed =
    ap (λ l. l ++ rest) (pushed ∙ ap (λ l. old ++ l) (encode_ascii c (space-small c is))) ∙ append_assoc old (c ∷ []) rest

pub filter-next : (old new left rest text : List ℕ) (c pushed : ℕ) → is_space c ≡ true → pushed ≡ c → new ≡ old ++ encode_utf8 pushed → left ≡ c ∷ rest
    → old ++ filter is_space left ≡ filter is_space text → new ++ filter is_space rest ≡ filter is_space text
filter-next old new left rest text c pushed is same more e before =
    pushed-space old new (filter is_space rest) c is (more ∙ ap (λ d. old ++ encode_utf8 d) same)
    ∙ (ap (λ l. old ++ l) (sym (ap (filter is_space) e ∙ rw is refl)) ∙ before)

pub filter-passed : (old left rest text : List ℕ) (c : ℕ) → is_space c ≡ false → left ≡ c ∷ rest
    → old ++ filter is_space left ≡ filter is_space text → old ++ filter is_space rest ≡ filter is_space text
filter-passed old left rest text c is e before = ap (λ l. old ++ l) (sym (ap (filter is_space) e ∙ rw is refl)) ∙ before

pub leading-next : (old new left rest text : List ℕ) (c pushed : ℕ) → is_space c ≡ true → pushed ≡ c → new ≡ old ++ encode_utf8 pushed → left ≡ c ∷ rest
    → old ++ leading_space left ≡ leading_space text → new ++ leading_space rest ≡ leading_space text
unfolding leading_space
leading-next old new left rest text c pushed is same more e before =
    pushed-space old new (leading_space rest) c is (more ∙ ap (λ d. old ++ encode_utf8 d) same)
    ∙ (ap (λ l. old ++ l) (sym (ap leading_space e ∙ rw is refl)) ∙ before)

pub leading-end : (old left rest text : List ℕ) (c : ℕ) → is_space c ≡ false → left ≡ c ∷ rest
    → old ++ leading_space left ≡ leading_space text → old ≡ leading_space text
unfolding leading_space
leading-end old left rest text c is e before =
    sym (ap (λ l. old ++ l) (ap leading_space e ∙ rw is refl) ∙ append-nil old) ∙ before

pub filter-none : (old left text : List ℕ) → length left ≡ 0 → old ++ filter is_space left ≡ filter is_space text → old ≡ filter is_space text
filter-none old [] text none before = sym (append-nil old) ∙ before
filter-none old (c ∷ left) text none before = cc

pub leading-none : (old left text : List ℕ) → length left ≡ 0 → old ++ leading_space left ≡ leading_space text → old ≡ leading_space text
unfolding leading_space
leading-none old [] text none before = sym (append-nil old) ∙ before
leading-none old (c ∷ left) text none before = cc
