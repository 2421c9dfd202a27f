-- Attributes counted by `==`, which is equality of what contracts see of them.
use Rattle.std.proofs.Common.{◌≡◌, ℕ, Bool, ◌&&◌, List, [], ◌∷◌, Option, Some, None, map, option_map, length, cond, All, IsPermutation, refl, sym, ap, ◌∙◌}
use Rattle.std.specs.Bool.{Decides}
use Rattle.std.specs.Option.{option_eq}
use Rattle.std.specs.Str.{bytes_eq}
use Rattle.std.specs.String.{string_eq}
use Rattle.std.proofs.lemmas.Bool.Decides.{Decides-and, Decides-like}
use Rattle.std.proofs.lemmas.Slice.Eq.{bytes_eq-Decides}
use Rattle.std.proofs.lemmas.List.{length-map}
use Rattle.std.proofs.lemmas.List.Elements.{All-map, All-weaker}
use Rattle.std.proofs.lemmas.List.Sorted.{length_permutation}
use Rattle.std.proofs.lemmas.List.Sums.{sum_by-cons}
use Rattle.markup5ever.specs.Names.{AttributeOf, attribute_of, prefix_bytes}
use Rattle.markup5ever.specs.declared.interface.Attribute.{Attribute}
use Rattle.markup5ever.specs.declared.interface.Prefix.{Prefix}
use Rattle.html5ever_interface.proofs.Counts.{count_equal, count_equal-permutation, permutation_from_counts}

-- `==` of attributes, as it computes
abbrev pub same : {Z : Type 0} → Attribute Z → Attribute Z → Bool
same a b =
    (option_eq (λ p q. string_eq p.0 q.0) a.name.prefix b.name.prefix
    && (string_eq a.name.ns.0 b.name.ns.0 && string_eq a.name.local.0 b.name.local.0))
    && string_eq a.value b.value

-- both lists have as many that are equal to it
abbrev pub IsAsOften : {Z : Type 0} → List (Attribute Z) → List (Attribute Z) → Attribute Z → Type 0
IsAsOften attrs others a = count_equal same attrs a ≡ count_equal same others a

-- the same test of what contracts see of them
same_of : AttributeOf → AttributeOf → Bool
same_of a b =
    (option_eq bytes_eq a.name.prefix b.name.prefix
    && (bytes_eq a.name.ns b.name.ns && bytes_eq a.name.local b.name.local))
    && bytes_eq a.value b.value

-- prefixes are equal where their bytes are
option_eq-prefix : {Z : Type 0} (p q : Option (Prefix Z))
    → option_eq (λ a b. string_eq a.0 b.0) p q ≡ option_eq bytes_eq (option_map prefix_bytes p) (option_map prefix_bytes q)
option_eq-prefix None None = refl
option_eq-prefix None (Some q) = refl
option_eq-prefix (Some p) None = refl
option_eq-prefix (Some p) (Some q) = refl

-- `==` tests what contracts see
same-attribute_of : {Z : Type 0} (a b : Attribute Z) → same a b ≡ same_of (attribute_of a) (attribute_of b)
unfolding same_of
same-attribute_of a b =
    ap (λ prefixes. (prefixes && (string_eq a.name.ns.0 b.name.ns.0 && string_eq a.name.local.0 b.name.local.0)) && string_eq a.value b.value)
    (option_eq-prefix a.name.prefix b.name.prefix)

option_eq-Decides : (p q : Option (List ℕ)) → Decides (option_eq bytes_eq p q) (p ≡ q)
option_eq-Decides None None = (λ e. refl, λ e. refl)
option_eq-Decides None (Some q) = (λ e. cc, λ e. cc)
option_eq-Decides (Some p) None = (λ e. cc, λ e. cc)
option_eq-Decides (Some p) (Some q) = (λ e. ap (λ bs. Some bs) ((bytes_eq-Decides p q).0 e), λ e. (bytes_eq-Decides p q).1 cc)

-- and decides whether that is equal
same_of-Decides : (a b : AttributeOf) → Decides (same_of a b) (a ≡ b)
unfolding same_of
same_of-Decides a b =
    Decides-like _ (λ e i. record {
      name = record { prefix = e.0.0 i; ns = e.0.1.0 i; local = e.0.1.1 i };
      value = e.1 i;
    })
    (λ e. ((ap (λ x. x.name.prefix) e, (ap (λ x. x.name.ns) e, ap (λ x. x.name.local) e)), ap (λ x. x.value) e))
    (Decides-and _ _
    (Decides-and _ _ (option_eq-Decides a.name.prefix b.name.prefix)
    (Decides-and _ _ (bytes_eq-Decides a.name.ns b.name.ns) (bytes_eq-Decides a.name.local b.name.local)))
    (bytes_eq-Decides a.value b.value))

count_equal-map : {Z : Type 0} (attrs : List (Attribute Z)) (a : Attribute Z)
    → count_equal same attrs a ≡ count_equal same_of (map attribute_of attrs) (attribute_of a)
count_equal-map [] a = refl
count_equal-map (b ∷ attrs) a =
    rw (
      sum_by-cons (λ x. cond (same x a) 1 0) b attrs,
      sum_by-cons (λ x. cond (same_of x (attribute_of a)) 1 0) (attribute_of b) (map attribute_of attrs),
      same-attribute_of b a,
      count_equal-map attrs a,
    ) refl

-- a permutation has each as often
pub counts_from_permutation : {Z : Type 0} (attrs others : List (Attribute Z)) (a : Attribute Z)
    → IsPermutation (map attribute_of attrs) (map attribute_of others) → IsAsOften attrs others a
counts_from_permutation attrs others a permuted =
    count_equal-map attrs a
    ∙ count_equal-permutation same_of same_of-Decides (map attribute_of attrs) (map attribute_of others) (attribute_of a) permuted
    ∙ sym (count_equal-map others a)

pub length_from_permutation : {Z : Type 0} (attrs others : List (Attribute Z))
    → IsPermutation (map attribute_of attrs) (map attribute_of others) → length attrs ≡ length others
length_from_permutation attrs others permuted =
    sym (length-map attrs attribute_of) ∙ sym (length_permutation (map attribute_of attrs) (map attribute_of others) permuted) ∙ length-map others attribute_of

-- as many in all, and each as often: a permutation
pub permuted_from_counts : {Z : Type 0} (attrs others : List (Attribute Z)) → length attrs ≡ length others
    → All (IsAsOften attrs others) attrs
    → IsPermutation (map attribute_of attrs) (map attribute_of others)
permuted_from_counts attrs others long counted =
    permutation_from_counts same_of same_of-Decides (map attribute_of attrs) (map attribute_of others)
    (length-map attrs attribute_of ∙ long ∙ sym (length-map others attribute_of))
    (All-map (λ x. count_equal same_of (map attribute_of attrs) x ≡ count_equal same_of (map attribute_of others) x) attribute_of attrs
    (All-weaker (IsAsOften attrs others) _
    (λ a agree. sym (count_equal-map attrs a) ∙ agree ∙ count_equal-map others a) attrs counted))
