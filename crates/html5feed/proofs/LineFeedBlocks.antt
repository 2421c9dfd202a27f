-- The line feeds of a block of bytes, except for its first ones, are the ones of its mask above as many
-- places.
use Rattle.std.proofs.Common.{◌≡◌, ℕ, ◌+◌, ◌*◌, ◌/◌, ◌^◌, ◌≤◌, Bool, true, false, cond, List, [], ◌∷◌, zero, suc, length, map, take, drop, sym, ap, ◌∙◌, arith}
use Rattle.std.specs.Prelude.{◌==◌, count_by, count_ones}
use Rattle.std.proofs.lemmas.List.{drop-drop, drop-map, drop-take, length-drop, take-take}
use Rattle.std.proofs.lemmas.List.Sums.{count_by-le-length, sum_by-take-drop}
use Rattle.std.proofs.lemmas.Simd.{ones-mask_l}
use native.Mathlib.Nat.{pow-suc, mul_comm, zero-div, div-one, div-div-eq-div-mul}
use lib.Lanes.{chunk, mask_l}
use Rattle.html5reading.specs.Characters.{line_feed}

abbrev line_feeds : List ℕ → ℕ
line_feeds bytes = count_by (λ b. b == line_feed) bytes

halved : (m : Bool) (n : ℕ) → (cond m 1 0 + 2 * n) / 2 ≡ n
halved true n = omega arith
halved false n = omega arith

mask-drop : (ms : List Bool) (k : ℕ) → mask_l ms / 2 ^ k ≡ mask_l (drop k ms)
mask-drop [] zero = zero-div (2 ^ 0)
mask-drop [] (suc k) = zero-div (2 ^ suc k)
mask-drop (m ∷ ms) zero = div-one (mask_l (m ∷ ms))
mask-drop (m ∷ ms) (suc k) =
    ap (λ n. mask_l (m ∷ ms) / n) (pow-suc 2 k ∙ mul_comm (2 ^ k) 2)
    ∙ sym (div-div-eq-div-mul (mask_l (m ∷ ms)) 2 (2 ^ k))
    ∙ ap (λ n. n / 2 ^ k) (halved m (mask_l ms))
    ∙ mask-drop ms k

-- of a list of bytes
ones-drop : (bytes : List ℕ) (k : ℕ) → count_ones (mask_l (map (λ b. b == line_feed) bytes) / 2 ^ k) ≡ line_feeds (drop k bytes)
ones-drop bytes k =
    ap count_ones (mask-drop (map (λ b. b == line_feed) bytes) k ∙ ap mask_l (drop-map (λ b. b == line_feed) k bytes))
    ∙ ones-mask_l (λ b. b == line_feed) (drop k bytes)

-- the ones of a block's mask, above those of its first bytes
abbrev pub ones_past : List ℕ → ℕ → ℕ
ones_past block counted = count_ones (mask_l (map (λ b. b == line_feed) block) / 2 ^ counted)

-- they are the line feeds that come after those of the first bytes
pub block-counts : (from n counted : ℕ) (bytes : List ℕ) → counted ≤ n
    → line_feeds (take (from + counted) bytes) + ones_past (chunk from n bytes) counted ≡ line_feeds (take (from + n) bytes)
block-counts from n counted bytes within =
    let whole = take (from + n) bytes in
    let rest : drop counted (chunk from n bytes) ≡ drop (from + counted) whole = ap (drop counted) (sym (drop-take from n bytes)) ∙ drop-drop counted from whole in
    let front : take (from + counted) bytes ≡ take (from + counted) whole = sym (take-take (from + counted) (from + n) bytes (omega (arith, within))) in
    ap (λ k. line_feeds (take (from + counted) bytes) + k) (ones-drop (chunk from n bytes) counted ∙ ap line_feeds rest)
    ∙ ap (λ l. line_feeds l + line_feeds (drop (from + counted) whole)) front
    ∙ sum_by-take-drop (λ b. cond (b == line_feed) 1 0) whole (from + counted)

-- and no more than the block has bytes
pub block-few : (block : List ℕ) (counted : ℕ) → ones_past block counted ≤ length block
block-few block counted = omega (arith, ones-drop block counted, count_by-le-length (λ b. b == line_feed) (drop counted block), length-drop counted block)
