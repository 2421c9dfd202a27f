-- Entries that are taken one by one, each put before those that were taken.
use Rattle.std.proofs.Common.{◌≡◌, List, [], ◌∷◌, ◌++◌, ap, sym, ◌∙◌, append_assoc}
use Rattle.std.proofs.lemmas.List.{append-nil, reverse-append}
use Rattle.std.specs.Prelude.{reverse}
use Rattle.tree_construction.specs.Formatting.{Listed}

pub taken-more : (taken more later all : List Listed) (e : Listed) → reverse taken ++ more ≡ all → more ≡ e ∷ later → reverse (e ∷ taken) ++ later ≡ all
taken-more taken more later all e before one =
    ap (λ ys. ys ++ later) (reverse-append (e ∷ []) taken)
    ∙ (append_assoc (reverse taken) (e ∷ []) later ∙ (ap (λ ys. reverse taken ++ ys) (sym one) ∙ before))

pub taken-all : (taken more all : List Listed) → reverse taken ++ more ≡ all → more ≡ [] → reverse taken ≡ all
taken-all taken more all before none = sym (append-nil (reverse taken)) ∙ (ap (λ ys. reverse taken ++ ys) (sym none) ∙ before)
