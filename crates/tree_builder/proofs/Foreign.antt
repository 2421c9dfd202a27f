-- The adjusted current node, and the loop over open elements for end tags in foreign content.
use Rattle.std.proofs.Common.{◌≡◌, ℕ, ◌+◌, List, [], ◌∷◌, Option, Some, None, length, drop, refl, ap, sym, ◌∙◌, arith, if◌then◌else◌}
use Rattle.std.proofs.lemmas.List.{drop_all}
use Rattle.tree_construction.specs.ForeignContent.{InHtml, foreign_end, has_lower_case}
use Rattle.tree_construction.specs.Names.{is_html}
use Rattle.tree_construction.specs.Page.{Open, has_number}
use Rattle.tree_construction.specs.Parser.{Context, Parser, adjusted_kind, kind_at_top, pop_until}
use Rattle.tree_construction.specs.Resetting.{last_kind}
use Rattle.tree_construction.specs.Tokens.Token.{EndTag}

pub adjusted-alone : (context : Option Context) (opened : List Open) → length opened ≡ 1
    → last_kind context (kind_at_top opened) ≡ adjusted_kind context opened
adjusted-alone None opened one = refl
adjusted-alone (Some context) [] one = absurd (omega (arith, one))
adjusted-alone (Some context) (e ∷ []) one = refl
adjusted-alone (Some context) (e ∷ f ∷ es) one = absurd (omega (arith, one))

-- at the first element on the stack, and at another
pub end-first : (in_html : InHtml) (name : List ℕ) (opened : List Open) (d : ℕ) (e : Open) (p : Parser)
    → drop d opened ≡ e ∷ drop (d + 1) opened → d + 1 ≡ length opened → foreign_end in_html name (drop d opened) p ≡ p
unfolding foreign_end
end-first in_html name opened d e p here last =
    ap (λ es. foreign_end in_html name es p) (here ∙ ap (λ es. e ∷ es) (drop_all (d + 1) opened (omega (arith, last))))

pub end-inside : (in_html : InHtml) (name : List ℕ) (opened : List Open) (d : ℕ) (e outer : Open) (p : Parser)
    → drop d opened ≡ e ∷ drop (d + 1) opened → drop (d + 1) opened ≡ outer ∷ drop (d + 1 + 1) opened
    → foreign_end in_html name (drop d opened) p
    ≡ (if has_lower_case name e then pop_until (has_number e.node) p
    else if is_html outer.kind then in_html (EndTag name) p
    else foreign_end in_html name (drop (d + 1) opened) p)
unfolding foreign_end
end-inside in_html name opened d e outer p here next =
    ap (λ es. foreign_end in_html name es p) (here ∙ ap (λ es. e ∷ es) next)
    ∙ ap (λ es. if has_lower_case name e then pop_until (has_number e.node) p
    else if is_html outer.kind then in_html (EndTag name) p
    else foreign_end in_html name es p) (sym next)
