-- Lines that are appended one after another.
use Rattle.std.proofs.Common.{◌≡◌, ℕ, suc, ◌+◌, ◌<◌, ◌≤◌, List, [], ◌∷◌, ◌++◌, length, get_or, drop, map, refl, sym, ap, ◌∙◌, append_assoc}
use Rattle.std.proofs.lemmas.List.{append-nil, drop_all, drop_more}
use Rattle.markup5ever.specs.Names.{AttributeOf}
use Rattle.tree_construction.specs.declared.kinds.Namespace.{Namespace}
use Rattle.tree_construction.specs.Document.{Child}
use Rattle.tree_construction.specs.Document.What.{Element}
use Rattle.tree_lines.specs.Lines.{attribute_line, attribute_lines, child_lines, children_lines, element_text, in_order, line, own_lines}

pub appended-more : (old new front rest more whole : List ℕ) → new ≡ old ++ front → more ≡ front ++ rest → old ++ more ≡ whole → new ++ rest ≡ whole
appended-more old new front rest more whole e split h =
    ap (λ l. l ++ rest) e ∙ (append_assoc old front rest ∙ (ap (λ l. old ++ l) (sym split) ∙ h))

pub appended-all : (old rest whole : List ℕ) → rest ≡ [] → old ++ rest ≡ whole → old ≡ whole
appended-all old rest whole none h = sym (append-nil old) ∙ (ap (λ l. old ++ l) (sym none) ∙ h)

-- ---- attributes

attribute_lines-cons : (depth : ℕ) (a : AttributeOf) (attributes : List AttributeOf) → attribute_lines depth (a ∷ attributes) ≡ attribute_line depth a ++ attribute_lines depth attributes
unfolding attribute_lines
attribute_lines-cons depth a attributes = refl

attribute_lines-none : (depth : ℕ) → attribute_lines depth [] ≡ []
unfolding attribute_lines
attribute_lines-none depth = refl

pub attributes-more : {R : Type 0} (f : R → AttributeOf) (depth : ℕ) (xs : List R) (i : ℕ) (x : R) → i < length xs → x ≡ get_or xs i x
    → attribute_lines depth (map f (drop i xs)) ≡ attribute_line depth (f x) ++ attribute_lines depth (map f (drop (i + 1) xs))
attributes-more f depth xs i x within is =
    let rest = map f (drop (i + 1) xs) in
    ap (λ l. attribute_lines depth (map f l)) (drop_more xs i x within)
    ∙ (ap (λ y. attribute_lines depth (f y ∷ rest)) (sym is) ∙ attribute_lines-cons depth (f x) rest)

pub attributes-none : {R : Type 0} (f : R → AttributeOf) (depth : ℕ) (xs : List R) (i : ℕ) → length xs ≤ i → attribute_lines depth (map f (drop i xs)) ≡ []
attributes-none f depth xs i past = ap (λ l. attribute_lines depth (map f l)) (drop_all i xs past) ∙ attribute_lines-none depth

pub element_lines : (depth inner : ℕ) (namespace : Namespace) (name text : List ℕ) (attributes own : List AttributeOf) → inner ≡ suc depth → text ≡ name → own ≡ attributes
    → line depth (element_text namespace text) ++ attribute_lines inner (in_order own) ≡ own_lines depth (Element namespace name attributes)
element_lines depth inner namespace name text attributes own e f h =
    ap (λ i. line depth (element_text namespace text) ++ attribute_lines i (in_order own)) e
    ∙ (ap (λ t. line depth (element_text namespace t) ++ attribute_lines (suc depth) (in_order own)) f
    ∙ ap (λ l. line depth (element_text namespace name) ++ attribute_lines (suc depth) (in_order l)) h)

-- ---- children

children_lines-cons : (lines : ℕ → List ℕ) (depth : ℕ) (c : Child) (children : List Child) → children_lines lines depth (c ∷ children) ≡ child_lines lines depth c ++ children_lines lines depth children
unfolding children_lines
children_lines-cons lines depth c children = refl

children_lines-none : (lines : ℕ → List ℕ) (depth : ℕ) → children_lines lines depth [] ≡ []
unfolding children_lines
children_lines-none lines depth = refl

pub children-more : {R : Type 0} (f : R → Child) (lines : ℕ → List ℕ) (depth : ℕ) (xs : List R) (i : ℕ) (x : R) → i < length xs → x ≡ get_or xs i x
    → children_lines lines depth (map f (drop i xs)) ≡ child_lines lines depth (f x) ++ children_lines lines depth (map f (drop (i + 1) xs))
children-more f lines depth xs i x within is =
    let rest = map f (drop (i + 1) xs) in
    ap (λ l. children_lines lines depth (map f l)) (drop_more xs i x within)
    ∙ (ap (λ y. children_lines lines depth (f y ∷ rest)) (sym is) ∙ children_lines-cons lines depth (f x) rest)

pub children-none : {R : Type 0} (f : R → Child) (lines : ℕ → List ℕ) (depth : ℕ) (xs : List R) (i : ℕ) → length xs ≤ i → children_lines lines depth (map f (drop i xs)) ≡ []
children-none f lines depth xs i past = ap (λ l. children_lines lines depth (map f l)) (drop_all i xs past) ∙ children_lines-none lines depth
