-- What a policy writes into links.
use Rattle.std.proofs.Common.{◌≡◌, ℕ, Bool, true, false, List, [], ◌∷◌, ◌++◌, filter, refl, sym, ap, ◌∙◌}
use Rattle.std.specs.Prelude.{◌&&◌, codes, encode_utf8_all, if◌then◌else◌}
use Rattle.std.specs.List.{list_any}
use Rattle.html5policy.specs.Policy.{PolicyOf, is_rel_of_link}
use Rattle.html5write.specs.Pieces.{NameAndValue}
use Rattle.html5cleaner.specs.Allowed.{is_kept_attribute}
use Rattle.html5cleaner.specs.Clean.{adds_rel, is_href, kept_attributes, rel_attribute}

-- an element, by its bytes and by their characters
pub link-then : (policy : PolicyOf) (element encoded : List ℕ) (attributes : List NameAndValue) (link has : Bool) → encoded ≡ element
    → link ≡ is_rel_of_link policy element (codes "rel") → link ≡ true → has ≡ list_any is_href attributes
    → has ≡ (is_rel_of_link policy encoded (codes "rel") && list_any is_href attributes)
link-then policy element encoded attributes link has same is on one =
    one ∙ sym (ap (λ b. b && list_any is_href attributes) (ap (λ e. is_rel_of_link policy e (codes "rel")) same ∙ sym is ∙ on))

pub link-else : (policy : PolicyOf) (element encoded : List ℕ) (attributes : List NameAndValue) (link : Bool) → encoded ≡ element
    → link ≡ is_rel_of_link policy element (codes "rel") → link ≡ false
    → link ≡ (is_rel_of_link policy encoded (codes "rel") && list_any is_href attributes)
link-else policy element encoded attributes link same is off =
    off ∙ sym (ap (λ b. b && list_any is_href attributes) (ap (λ e. is_rel_of_link policy e (codes "rel")) same ∙ sym is ∙ off))

-- when nothing is written
pub kept-plain : (policy : PolicyOf) (element : List ℕ) (attributes kept : List NameAndValue) (adds : Bool) → kept ≡ filter (is_kept_attribute policy element) attributes
    → adds ≡ adds_rel policy element kept → adds ≡ false → kept ≡ kept_attributes policy element attributes
unfolding kept_attributes
kept-plain policy element attributes kept adds is adds_is off =
    let passed = filter (is_kept_attribute policy element) attributes in
    let none : adds_rel policy element passed ≡ false = ap (adds_rel policy element) (sym is) ∙ sym adds_is ∙ off in
    is ∙ sym (ap (λ b. if b then passed ++ rel_attribute policy ∷ [] else passed) none)

-- and where it is
pub kept-link : (policy : PolicyOf) (element : List ℕ) (attributes kept : List NameAndValue) (adds : Bool) → kept ≡ filter (is_kept_attribute policy element) attributes
    → adds ≡ adds_rel policy element kept → adds ≡ true → (kept ++ rel_attribute policy ∷ []) ≡ kept_attributes policy element attributes
unfolding kept_attributes
kept-link policy element attributes kept adds is adds_is on =
    let passed = filter (is_kept_attribute policy element) attributes in
    let some : adds_rel policy element passed ≡ true = ap (adds_rel policy element) (sym is) ∙ sym adds_is ∙ on in
    ap (λ l. l ++ rel_attribute policy ∷ []) is ∙ sym (ap (λ b. if b then passed ++ rel_attribute policy ∷ [] else passed) some)

-- none is kept of none
and-none : (a : Bool) → (a && false) ≡ false
and-none true = refl
and-none false = refl

pub kept-none : (policy : PolicyOf) (element : List ℕ) → kept_attributes policy element [] ≡ []
unfolding kept_attributes
kept-none policy element = ap (λ b. if b then [] ++ rel_attribute policy ∷ [] else []) (and-none (is_rel_of_link policy (encode_utf8_all element) (codes "rel")))
