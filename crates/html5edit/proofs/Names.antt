-- Names among others.
use Rattle.std.proofs.Common.{◌≡◌, ℕ, ◌+◌, ◌<◌, true, List, length, refl, ap, sym, ◌∙◌, map}
use Rattle.std.specs.Prelude.{String, drop, get_or, if◌then◌else◌, string_bytes}
use Rattle.std.specs.Str.{bytes_eq}
use Rattle.std.proofs.lemmas.List.{drop_more}
use Rattle.html5edit.specs.Changes.{is_among}

pub among-here : {Z : Type 0} (name : List ℕ) (names : List (String Z)) (i : ℕ) (x : String Z) → i < length names → x ≡ get_or names i x
    → bytes_eq (string_bytes x) name ≡ true → is_among name (map string_bytes (drop i names)) ≡ true
unfolding is_among
among-here name names i x within is same =
    ap (λ l. is_among name (map string_bytes l)) (drop_more names i x within)
    ∙ ap (λ y. if bytes_eq (string_bytes y) name then true else (is_among name (map string_bytes (drop (i + 1) names)))) (sym is)
    ∙ ap (λ b. if b then true else (is_among name (map string_bytes (drop (i + 1) names)))) same
