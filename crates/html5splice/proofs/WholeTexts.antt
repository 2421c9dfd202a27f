-- What the cuts of a text make together.
use Rattle.std.proofs.Common.{◌≡◌, ℕ, true, List, [], ◌∷◌, ◌++◌, length, refl, ap, ◌∙◌, arith}
use Rattle.std.specs.Prelude.{◌-◌, encode_utf8_all, take}
use Rattle.std.specs.List.{concat, flat_map}
use Rattle.std.proofs.lemmas.List.{take_all}
use Rattle.html5places.specs.Placed.{placed_tokens}
use Rattle.html5places.proofs.Following.{all-follow}
use Rattle.html5reading.specs.Start.{Rules, Start, nothing_open}
use Rattle.html5splice.specs.Cuts.{CutOf, between, cut_text, cuts}
use Rattle.html5splice.specs.Edits.{Splices, no_edits, parts, spliced}
use Rattle.html5splice.proofs.Cutting.{cuts-text}
use Rattle.html5splice.proofs.Ends.{end-tokens}
use Rattle.html5splice.proofs.Lying.{tokens-lie}

pub text-of_cuts : (rules : Rules) (K : Start) (text : List ℕ) → nothing_open K.opened ≡ true → flat_map cut_text (cuts rules K text) ≡ encode_utf8_all text
text-of_cuts rules K text clean =
    let bytes : List ℕ = encode_utf8_all text in
    cuts-text bytes 0 (placed_tokens rules K text) (tokens-lie rules K text clean) (all-follow rules K text)
    ∙ ap (λ n. between 0 n bytes) (end-tokens rules K text)
    ∙ ap (λ n. take n bytes) {x = length bytes - 0} {y = length bytes} (omega arith)
    ∙ take_all (length bytes) bytes (omega arith)

-- when nothing is replaced, what is written is the cuts
pub nothing-replaced : {S : Type 0} (splices : Splices S) → ((t : S) (cut : CutOf) → splices.edits t cut ≡ no_edits) → (s : S) (all : List CutOf)
    → concat (parts splices s all) ≡ flat_map cut_text all
unfolding parts
nothing-replaced splices none s [] = refl
nothing-replaced splices none s (cut ∷ all) =
    ap (λ e. spliced e cut ++ concat (parts splices (splices.step s cut) all)) (none s cut)
    ∙ ap (λ l. cut_text cut ++ l) (nothing-replaced splices none (splices.step s cut) all)

pub text-stays : {S : Type 0} (splices : Splices S) (s : S) (rules : Rules) (K : Start) (text : List ℕ) → nothing_open K.opened ≡ true
    → ((t : S) (cut : CutOf) → splices.edits t cut ≡ no_edits) → concat (parts splices s (cuts rules K text)) ≡ encode_utf8_all text
text-stays splices s rules K text clean none = nothing-replaced splices none s (cuts rules K text) ∙ text-of_cuts rules K text clean
