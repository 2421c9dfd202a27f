-- Where the tokens of a text lie.
use Rattle.std.proofs.Common.{◌≡◌, ◌≤◌, ℕ, ◌+◌, Bool, true, false, List, [], ◌∷◌, ◌++◌, length, refl, ap, sym, ◌∙◌, subst, arith}
use Rattle.std.specs.Prelude.{All, encode_utf8_all}
use Rattle.std.proofs.lemmas.List.{append_assoc, length-append}
use Rattle.std.proofs.lemmas.List.Elements.{All-head, All-tail}
use Rattle.std.proofs.lemmas.Str.{encodes-append}
use Rattle.html5places.specs.Marks.{Placed}
use Rattle.html5places.specs.Placed.{placed_tokens}
use Rattle.html5places.specs.Written.{AreBetween, StandsBetween, place_after}
use Rattle.html5places.proofs.Standing.{all-between}
use Rattle.html5reading.specs.Start.{Rules, Start, nothing_open}
use Rattle.html5splice.proofs.Cutting.{AllLie, Lies}

-- a text takes no more bytes than a longer one
shorter : (xs ys : List ℕ) → place_after xs ≤ place_after (xs ++ ys)
shorter xs ys =
    let len = ap length (encodes-append xs ys) ∙ length-append (encode_utf8_all xs) (encode_utf8_all ys) in
    omega (arith, len)

whole-parts : (b r i rest : List ℕ) → b ++ (r ++ (i ++ rest)) ≡ (b ++ (r ++ i)) ++ rest
whole-parts b r i rest = ap (λ l. b ++ l) (sym (append_assoc r i rest)) ∙ sym (append_assoc b (r ++ i) rest)

lies-between : (text : List ℕ) (p : Placed) → StandsBetween text p → Lies (length (encode_utf8_all text)) p
lies-between text p stands =
    let b = stands.before in
    let r = stands.run in
    let i = stands.item in
    let a = stands.places in
    let at = a.text in
    let begin = a.begin in
    let end = a.end in
    let more : place_after (b ++ r) ≤ place_after (b ++ (r ++ i)) = rw (sym (append_assoc b r i)) (shorter (b ++ r) i) in
    let whole : place_after (b ++ (r ++ i)) ≤ place_after text = rw (a.parts ∙ whole-parts b r i stands.rest) (shorter (b ++ (r ++ i)) stands.rest) in
    let first : place_after b ≤ place_after (b ++ r) = shorter b r in
    record {
      run = omega (arith, at, begin, first);
      token = omega (arith, begin, end, more);
      within = omega (arith, end, whole);
    }

lie-all : (text : List ℕ) (placed : List Placed) → All (StandsBetween text) placed → AllLie (length (encode_utf8_all text)) placed
unfolding AllLie
lie-all text [] stand = tt
lie-all text (p ∷ placed) stand = (lies-between text p (All-head (StandsBetween text) p placed stand), lie-all text placed (All-tail (StandsBetween text) p placed stand))

-- each token of a text lies within its bytes
pub tokens-lie : (rules : Rules) (K : Start) (text : List ℕ) → nothing_open K.opened ≡ true → AllLie (length (encode_utf8_all text)) (placed_tokens rules K text)
tokens-lie rules K text clean = lie-all text (placed_tokens rules K text) (all-between rules K text clean)
