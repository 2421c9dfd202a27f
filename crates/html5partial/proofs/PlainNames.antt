-- Runs that stand in a name as they are.
use Rattle.std.proofs.Common.{◌≡◌, ℕ, ◌<◌, ◌≤◌, ◌+◌, Bool, true, false, cond, not, List, [], ◌∷◌, ◌++◌, refl, ap, sym, ◌∙◌, subst, arith}
use Rattle.std.specs.Prelude.{◌==◌, ◌&&◌, ◌||◌, nat_lt, flat_map, encode_utf8}
use Rattle.std.specs.Char.{to_ascii_lowercase}
use Rattle.std.specs.List.{list_all}
use Rattle.std.proofs.lemmas.List.Folds.{list_all-append}
use Rattle.std.specs.Str.{IsUtf8, chars}
use Rattle.std.proofs.lemmas.Bool.{false≢true}
use Rattle.std.proofs.lemmas.Bool.Decides.{nat_tests}
use Rattle.std.proofs.lemmas.Str.{encodes-chars, encode_ascii}
use Rattle.html5reading.specs.Characters.{null, shown, name_bytes}
use Rattle.html5partial.specs.Runs.{stays_in_names}

and-left : (a b : Bool) → (a && b) ≡ true → a ≡ true
and-left true b both = refl
and-left false b both = both

and-right : (a b : Bool) → (a && b) ≡ true → b ≡ true
and-right true b both = both
and-right false b both = absurd (false≢true both)

not-true : (a : Bool) → not a ≡ true → a ≡ false
not-true true h = absurd (false≢true h)
not-true false h = refl

cond-stays : (b d : Bool) (c r : ℕ) → (b || not d) ≡ true → cond b c (cond d r c) ≡ c
cond-stays true d c r stays = refl
cond-stays false false c r stays = refl
cond-stays false true c r stays = absurd (false≢true stays)

shown-stays : (c : ℕ) → (c == null) ≡ false → shown c ≡ c
unfolding shown
shown-stays c e = rw e refl

name_bytes-stays : (c : ℕ) → stays_in_names c ≡ true → name_bytes c ≡ encode_utf8 c
unfolding name_bytes
name_bytes-stays c stays =
    let same : shown c ≡ c = shown-stays c (not-true (c == null) (and-left (not (c == null)) (nat_lt c 65 || not (nat_lt c 91)) stays)) in
    ap encode_utf8 (ap to_ascii_lowercase same ∙ cond-stays (nat_lt c 65) (nat_lt c 91) c (c + 32) (and-right (not (c == null)) (nat_lt c 65 || not (nat_lt c 91)) stays))

stays-beyond : (c : ℕ) → 128 ≤ c → stays_in_names c ≡ true
stays-beyond c beyond = grind (arith, nat_tests)

stays-by : (c : ℕ) (b : Bool) → nat_lt c 128 ≡ b → list_all stays_in_names (encode_utf8 c) ≡ true → stays_in_names c ≡ true
stays-by c true e all =
    let low : c < 128 = grind (arith, nat_tests) in
    and-left (stays_in_names c) true (rw (encode_ascii c low) at all)
stays-by c false e all =
    let high : 128 ≤ c = grind (arith, nat_tests) in
    stays-beyond c high

plain-characters : (cs : List ℕ) → list_all stays_in_names (flat_map encode_utf8 cs) ≡ true → flat_map name_bytes cs ≡ flat_map encode_utf8 cs
plain-characters [] all = refl
plain-characters (c ∷ cs) all =
    let parts : (list_all stays_in_names (encode_utf8 c) && list_all stays_in_names (flat_map encode_utf8 cs)) ≡ true =
    sym (list_all-append stays_in_names (encode_utf8 c) (flat_map encode_utf8 cs)) ∙ all in
    let first : list_all stays_in_names (encode_utf8 c) ≡ true = and-left (list_all stays_in_names (encode_utf8 c)) (list_all stays_in_names (flat_map encode_utf8 cs)) parts in
    let others : list_all stays_in_names (flat_map encode_utf8 cs) ≡ true = and-right (list_all stays_in_names (encode_utf8 c)) (list_all stays_in_names (flat_map encode_utf8 cs)) parts in
    ap (λ l. l ++ flat_map name_bytes cs) (name_bytes-stays c (stays-by c (nat_lt c 128) refl first))
    ∙ ap (λ l. encode_utf8 c ++ l) (plain-characters cs others)

-- a run of such bytes is appended to a name as it stands
pub plain-run : (run : List ℕ) → IsUtf8 run → list_all stays_in_names run ≡ true → flat_map name_bytes (chars run) ≡ run
plain-run run utf8 all = plain-characters (chars run) (subst (λ bytes. list_all stays_in_names bytes ≡ true) (sym (encodes-chars run utf8)) all) ∙ encodes-chars run utf8
