-- "Reconstruct the active formatting elements": those that are lost are opened again one by one, the earliest first.
use Rattle.std.proofs.Common.{◌≡◌, List, [], ◌∷◌, ◌++◌, refl, ap, sym, ◌∙◌}
use Rattle.std.proofs.lemmas.List.{reverse-append}
use Rattle.std.proofs.lemmas.Bool.{and_parts}
use Rattle.std.proofs.lemmas.List.Folds.{list_all-append}
use Rattle.std.specs.List.{list_all}
use Rattle.std.specs.Prelude.{ℕ, true, map, reverse}
use Rattle.markup5ever.specs.Names.{AttributeOf}
use Rattle.tree_construction.specs.Formatting.{Listed, reconstructed, reopened, reopened_one, still_listed, to_reopen}
use Rattle.tree_construction.specs.Parser.{Parser}
use Rattle.tree_builder.specs.Built.{reopened_all}
use Rattle.tree_builder.specs.Characters.{is_formatting_element, is_formatting_kind}
use Rattle.tree_lists.specs.Formatting.{formatting_kind, listed_of}
use Rattle.tree_lists.specs.declared.formatting.Formatting.{Formatting as FormattingItem}
use Rattle.tree_lists.specs.declared.formatting.FormattingKind.{FormattingKind}
use Rattle.tree_lists.specs.declared.formatting.FormattingKind.TheVariants.{Anchor as AnchorOf, Font as FontOf, Formatting as FormattingOf, NoBreak as NoBreakOf}

last-first : (es : List Listed) (e : Listed) (p : Parser) → reopened (es ++ e ∷ []) p ≡ reopened es (reopened_one e p)
unfolding reopened
last-first [] e p = refl
last-first (d ∷ es) e p = ap (reopened_one d) (last-first es e p)

reopened-reverse : (es : List Listed) (p : Parser) → reopened_all es p ≡ reopened (reverse es) p
unfolding reopened_all reopened
reopened-reverse [] p = refl
reopened-reverse (e ∷ es) p =
    reopened-reverse es (reopened_one e p)
    ∙ (sym (last-first (reverse es) e p) ∙ ap (λ ys. reopened ys p) (sym (reverse-append (e ∷ []) es)))

pub all_reopened : (es : List Listed) (p : Parser) → reverse es ≡ to_reopen p.page.opened p.formatting
    → reopened_all es (record p { formatting = still_listed p.page.opened p.formatting }) ≡ reconstructed p
all_reopened es p r =
    let q : Parser = record p { formatting = still_listed p.page.opened p.formatting } in
    reopened-reverse es q ∙ ap (λ ys. reopened ys q) r

-- ---- what is lost are formatting elements

formatting-is : (kind : FormattingKind) → is_formatting_kind (formatting_kind kind) ≡ true
formatting-is AnchorOf = refl
formatting-is FontOf = refl
formatting-is FormattingOf = refl
formatting-is NoBreakOf = refl

all-kinds : {H T Z : Type 0} (node : H → ℕ) (said : T → List AttributeOf) (items : List (FormattingItem H T Z))
    → list_all is_formatting_element (map (listed_of node said) items) ≡ true
all-kinds node said [] = refl
all-kinds node said (item ∷ items) = rw (formatting-is item.kind) (all-kinds node said items)

all-reverse : (es : List Listed) → list_all is_formatting_element es ≡ true → list_all is_formatting_element (reverse es) ≡ true
all-reverse [] all = refl
all-reverse (e ∷ es) all =
    let parts = and_parts (is_formatting_element e) (list_all is_formatting_element es) all in
    rw (reverse-append (e ∷ []) es, list_all-append is_formatting_element (reverse es) (e ∷ []), all-reverse es parts.1, parts.0) refl

pub lost-are-formatting : {H T Z : Type 0} (node : H → ℕ) (said : T → List AttributeOf) (items : List (FormattingItem H T Z)) (lost : List Listed)
    → reverse (map (listed_of node said) items) ≡ lost → list_all is_formatting_element lost ≡ true
lost-are-formatting node said items lost e =
    sym (ap (list_all is_formatting_element) e) ∙ all-reverse (map (listed_of node said) items) (all-kinds node said items)
