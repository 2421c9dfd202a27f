-- The stack of template insertion modes, and the mode by the open elements.
use Rattle.std.proofs.Common.{◌≡◌, ℕ, zero, suc, ◌+◌, ◌<◌, true, false, List, [], ◌∷◌, length, drop, refl, ap, sym, ◌∙◌, arith}
use Rattle.std.proofs.lemmas.List.{drop_all}
use Rattle.tree_construction.specs.BeforeBody.{without_template_mode}
use Rattle.tree_construction.specs.Page.{Open}
use Rattle.tree_construction.specs.Parser.{Parser}
use Rattle.tree_construction.specs.Resetting.{last_kind, mode_at, mode_of}
use Rattle.tree_construction.specs.declared.modes.Mode.{Mode}
use Rattle.tree_construction.specs.declared.modes.Mode.TheVariants.{InBody}

pub without_first : (modes : List Mode) → drop 1 modes ≡ without_template_mode modes
without_first [] = refl
without_first (mode ∷ modes) = refl

-- at the first element on the stack, and at another
pub mode-last : (p : Parser) (opened : List Open) (d : ℕ) (e : Open) → drop d opened ≡ e ∷ drop (d + 1) opened → d + 1 ≡ length opened
    → mode_of p (drop d opened) ≡ mode_at p true (last_kind p.options.context e.kind) InBody
unfolding mode_of
mode-last p opened d e here last =
    let none : drop (d + 1) opened ≡ [] = drop_all (d + 1) opened (omega (arith, last)) in
    ap (mode_of p) (here ∙ ap (λ es. e ∷ es) none)

some : (d : ℕ) (opened : List Open) → d < length opened → (x : Open) × ((xs : List Open) × (drop d opened ≡ x ∷ xs))
some d [] h = absurd (omega (arith, h))
some zero (x ∷ opened) h = (x, (opened, refl))
some (suc d) (x ∷ opened) h = some d opened (omega (arith, h))

pub mode-inner : (p : Parser) (opened : List Open) (d : ℕ) (e : Open) → drop d opened ≡ e ∷ drop (d + 1) opened → d + 1 < length opened
    → mode_of p (drop d opened) ≡ mode_at p false e.kind (mode_of p (drop (d + 1) opened))
unfolding mode_of
mode-inner p opened d e here more =
    let next = some (d + 1) opened more in
    let whole : drop d opened ≡ e ∷ next.0 ∷ next.1.0 = here ∙ ap (λ es. e ∷ es) next.1.1 in
    ap (mode_of p) whole ∙ ap (λ es. mode_at p false e.kind (mode_of p es)) (sym next.1.1)
