-- Elements that are open.
use Rattle.std.proofs.Common.{◌≡◌, ℕ, ◌+◌, ◌-◌, ◌<◌, ◌≤◌, Bool, true, false, List, [], ◌∷◌, length, map, reverse, take, drop, get_or, refl, sym, ap, ◌∙◌, inl, inr, zero, suc, arith}
use Rattle.std.specs.Prelude.{◌==◌, if◌then◌else◌, min}
use Rattle.std.specs.Str.{bytes_eq}
use Rattle.std.proofs.lemmas.Bool.{cases_lt}
use Rattle.std.proofs.lemmas.List.{drop_all, drop_at, drop_more, get_or-map, get_or-reverse, get_or-take, length-drop, length-map, length-reverse, length-take, reverse-append, take-append-drop}
use Rattle.html5check.specs.Elements.{ends_before, has_optional_end}
use Rattle.html5check.specs.Opened.{Open, and_this, depth, ended_before, open_by, opened_by, reached}
use Rattle.html5check.specs.declared.open_elements.OpenElement.{OpenElement}

-- how many are ended, where that many were passed, of which this many are, and of what is left `more` are
abbrev pub counted : ℕ → ℕ → ℕ → ℕ
counted passed count more = if more == 0 then count else passed + more

-- ---- a list from its end

-- without this many at the end
pub dropped-reversed : {X : Type 0} (xs : List X) (k count : ℕ) → length (drop k xs) ≡ count → drop count (reverse xs) ≡ reverse (take k xs)
dropped-reversed xs k count long =
    ap (λ ys. drop count (reverse ys)) (sym (take-append-drop k xs))
    ∙ ap (drop count) (reverse-append (take k xs) (drop k xs))
    ∙ drop_at (reverse (drop k xs)) (reverse (take k xs)) count (length-reverse (drop k xs) ∙ long)

pub closed : {X : Type 0} (xs : List X) (count : ℕ) → reverse (take (length xs - count) xs) ≡ drop count (reverse xs)
closed xs count = elim (cases_lt (length xs) count) [
  | inl few ↦
      let none : length xs - count ≡ 0 = omega arith in
      let long : length (reverse xs) ≤ count = omega (arith, length-reverse xs) in
      rw none (sym (drop_all count (reverse xs) long))
  | inr enough ↦
      let long : length (drop (length xs - count) xs) ≡ count = omega (arith, length-drop (length xs - count) xs) in
      sym (dropped-reversed xs (length xs - count) count long)
]

pub length-opened : (elements : List OpenElement) → length (opened_by elements) ≡ length elements
length-opened elements = length-reverse (map open_by elements) ∙ length-map elements open_by

pub inner-at : (elements : List OpenElement) (i : ℕ) (d : OpenElement) → i < length elements
    → drop i (opened_by elements) ≡ open_by (get_or elements (length elements - 1 - i) d) ∷ drop (i + 1) (opened_by elements)
inner-at elements i d in_range =
    let long : length (map open_by elements) ≡ length elements = length-map elements open_by in
    let within : i < length (opened_by elements) = omega (arith, length-opened elements) in
    let inside : i < length (map open_by elements) = omega arith in
    let low : length elements - 1 - i < length elements = omega arith in
    drop_more (opened_by elements) i (open_by d) within
    ∙ ap (λ o. o ∷ drop (i + 1) (opened_by elements)) (
    get_or-reverse (map open_by elements) i (open_by d) inside
    ∙ ap (λ n. get_or (map open_by elements) (n - 1 - i) (open_by d)) long
    ∙ get_or-map open_by elements (length elements - 1 - i) d (open_by d) low)

-- of the innermost alone
pub inner-within : (elements : List OpenElement) (i : ℕ) (d : OpenElement) → i < length elements → i < depth
    → drop i (take depth (opened_by elements)) ≡ open_by (get_or elements (length elements - 1 - i) d) ∷ drop (i + 1) (take depth (opened_by elements))
inner-within elements i d in_range near =
    let long : length (map open_by elements) ≡ length elements = length-map elements open_by in
    let within : i < length (take depth (opened_by elements)) = omega (arith, length-opened elements, length-take depth (opened_by elements)) in
    let inside : i < length (map open_by elements) = omega arith in
    let low : length elements - 1 - i < length elements = omega arith in
    drop_more (take depth (opened_by elements)) i (open_by d) within
    ∙ ap (λ o. o ∷ drop (i + 1) (take depth (opened_by elements))) (
    get_or-take depth (opened_by elements) i (open_by d) near
    ∙ get_or-reverse (map open_by elements) i (open_by d) inside
    ∙ ap (λ n. get_or (map open_by elements) (n - 1 - i) (open_by d)) long
    ∙ get_or-map open_by elements (length elements - 1 - i) d (open_by d) low)

-- ---- an end tag

reached-more : (opened : List Open) (name : List ℕ) (inner : Open) (outer : List Open) (same : Bool) → opened ≡ inner ∷ outer → bytes_eq inner.name name ≡ same
    → reached opened name ≡ (if same then 1 else (if reached outer name == 0 then 0 else reached outer name + 1))
unfolding reached
reached-more opened name inner outer same are is = ap (λ o. reached o name) are ∙ rw is refl

reached-none : (name : List ℕ) → reached [] name ≡ 0
unfolding reached
reached-none name = refl

pub reaches-this : (elements : List OpenElement) (name : List ℕ) (i : ℕ) (d : OpenElement) → i < length elements → i < depth
    → bytes_eq (get_or elements (length elements - 1 - i) d).name.now name ≡ true
    → counted i 0 (reached (drop i (take depth (opened_by elements))) name) ≡ i + 1
reaches-this elements name i d in_range near same =
    ap (counted i 0) (reached-more (drop i (take depth (opened_by elements))) name (open_by (get_or elements (length elements - 1 - i) d)) (drop (i + 1) (take depth (opened_by elements))) true (inner-within elements i d in_range near) same)

counted-on : (i more : ℕ) → counted i 0 (if more == 0 then 0 else more + 1) ≡ counted (i + 1) 0 more
counted-on i zero = refl
counted-on i (suc more) = grind (arith)

pub reaches-further : (elements : List OpenElement) (name : List ℕ) (i : ℕ) (d : OpenElement) → i < length elements → i < depth
    → bytes_eq (get_or elements (length elements - 1 - i) d).name.now name ≡ false
    → counted i 0 (reached (drop i (take depth (opened_by elements))) name) ≡ counted (i + 1) 0 (reached (drop (i + 1) (take depth (opened_by elements))) name)
reaches-further elements name i d in_range near other =
    ap (counted i 0) (reached-more (drop i (take depth (opened_by elements))) name (open_by (get_or elements (length elements - 1 - i) d)) (drop (i + 1) (take depth (opened_by elements))) false (inner-within elements i d in_range near) other)
    ∙ counted-on i (reached (drop (i + 1) (take depth (opened_by elements))) name)

pub reaches-none : (elements : List OpenElement) (name : List ℕ) (i : ℕ) → min (length elements) depth ≤ i
    → counted i 0 (reached (drop i (take depth (opened_by elements))) name) ≡ 0
reaches-none elements name i past =
    let all : length (take depth (opened_by elements)) ≤ i = omega (arith, length-opened elements, length-take depth (opened_by elements)) in
    ap (λ o. counted i 0 (reached o name)) (drop_all i (take depth (opened_by elements)) all) ∙ ap (counted i 0) (reached-none name)

-- ---- a start tag

ended-more : (opened : List Open) (name : List ℕ) (inner : Open) (outer : List Open) (may : Bool) → opened ≡ inner ∷ outer → has_optional_end inner.name ≡ may
    → ended_before opened name ≡ (if may then and_this (ends_before name inner.name) (ended_before outer name) else 0)
unfolding ended_before
ended-more opened name inner outer may are is = ap (λ o. ended_before o name) are ∙ rw is refl

ended-none : (name : List ℕ) → ended_before [] name ≡ 0
unfolding ended_before
ended-none name = refl

pub ends-here : (elements : List OpenElement) (name : List ℕ) (i count : ℕ) (d : OpenElement) → i < length elements
    → has_optional_end (get_or elements (length elements - 1 - i) d).name.now ≡ false
    → counted i count (ended_before (drop i (opened_by elements)) name) ≡ count
ends-here elements name i count d in_range must =
    ap (counted i count) (ended-more (drop i (opened_by elements)) name (open_by (get_or elements (length elements - 1 - i) d)) (drop (i + 1) (opened_by elements)) false (inner-at elements i d in_range) must)

counted-this : (i count more : ℕ) (ends : Bool) → counted i count (and_this ends more) ≡ counted (i + 1) (if ends then i + 1 else count) more
counted-this i count zero true = refl
counted-this i count zero false = refl
counted-this i count (suc more) ends = grind (arith)

pub ends-further : (elements : List OpenElement) (name : List ℕ) (i count : ℕ) (d : OpenElement) (ends : Bool) → i < length elements
    → has_optional_end (get_or elements (length elements - 1 - i) d).name.now ≡ true
    → ends_before name (get_or elements (length elements - 1 - i) d).name.now ≡ ends
    → counted i count (ended_before (drop i (opened_by elements)) name)
    ≡ counted (i + 1) (if ends then i + 1 else count) (ended_before (drop (i + 1) (opened_by elements)) name)
ends-further elements name i count d ends in_range may is =
    ap (counted i count) (ended-more (drop i (opened_by elements)) name (open_by (get_or elements (length elements - 1 - i) d)) (drop (i + 1) (opened_by elements)) true (inner-at elements i d in_range) may)
    ∙ ap (λ e. counted i count (and_this e (ended_before (drop (i + 1) (opened_by elements)) name))) is
    ∙ counted-this i count (ended_before (drop (i + 1) (opened_by elements)) name) ends

pub ends-none : (elements : List OpenElement) (name : List ℕ) (i count : ℕ) → length elements ≤ i
    → counted i count (ended_before (drop i (opened_by elements)) name) ≡ count
ends-none elements name i count past =
    let all : length (opened_by elements) ≤ i = omega (arith, length-opened elements) in
    ap (λ o. counted i count (ended_before o name)) (drop_all i (opened_by elements) all) ∙ ap (counted i count) (ended-none name)
