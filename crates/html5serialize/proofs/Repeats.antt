-- The attributes of a token one after another, as they are checked.
use Rattle.std.proofs.Common.{◌≡◌, ℕ, ◌+◌, ◌-◌, ◌<◌, ◌≤◌, List, Some, None, Option, length, get_or, take, drop, map, refl, ap, sym, ◌∙◌, add_assoc}
use Rattle.std.specs.Prelude.{option_map, if◌then◌else◌}
use Rattle.std.specs.Option.{option_or}
use Rattle.std.proofs.lemmas.List.{at_drop_more, at_drop_all}
use Rattle.html5serialize.specs.declared.error.SerializeError.{SerializeError}
use Rattle.html5serialize.specs.declared.error.SerializeError.TheVariants.{Repeated}
use Rattle.html5serialize.specs.Refusals.{attribute_refusal, attributes_refusal, repeat_from}
use Rattle.html5serialize.specs.Tags.{differs_from}
use Rattle.html5serialize.proofs.Words.{rest-all}
use Rattle.markup5ever.specs.Names.{AttributeOf, attribute_of}
use Rattle.markup5ever.specs.declared.interface.Attribute.{Attribute}

pub repeat-next : {Z : Type 0} (a : AttributeOf) (index k : ℕ) (later : List (Attribute Z)) (d : Attribute Z) → k < length later
    → repeat_from a (index + k) (map attribute_of (drop k later))
    ≡ (if differs_from a (attribute_of (get_or later k d)) then repeat_from a (index + (k + 1)) (map attribute_of (drop (k + 1) later)) else Some (index + k))
unfolding repeat_from
repeat-next a index k later d within =
    at_drop_more (λ l. repeat_from a (index + k) (map attribute_of l)) later k d within
    ∙ ap (λ n. if differs_from a (attribute_of (get_or later k d)) then repeat_from a n (map attribute_of (drop (k + 1) later)) else Some (index + k)) (add_assoc index k 1)

pub repeat-none : {Z : Type 0} (a : AttributeOf) (index k : ℕ) (later : List (Attribute Z)) → length later ≤ k → repeat_from a (index + k) (map attribute_of (drop k later)) ≡ None
unfolding repeat_from
repeat-none a index k later all = at_drop_all (λ l. repeat_from a (index + k) (map attribute_of l)) later k all

option_or-assoc : {E : Type 0} (x y z : Option E) → option_or x (option_or y z) ≡ option_or (option_or x y) z
option_or-assoc None y z = refl
option_or-assoc (Some e) y z = refl

-- what is wrong with an attribute before the later ones
abbrev pub refusal_at : {Z : Type 0} → ℕ → List (Attribute Z) → Attribute Z → Option SerializeError
refusal_at i attributes d =
    option_or (attribute_refusal i (attribute_of (get_or attributes i d)))
    (option_map Repeated (repeat_from (attribute_of (get_or attributes i d)) (i + 1) (map attribute_of (take (length attributes - (i + 1)) (drop (i + 1) attributes)))))

pub refusal-next : {Z : Type 0} (i : ℕ) (attributes : List (Attribute Z)) (d : Attribute Z) → i < length attributes
    → attributes_refusal i (map attribute_of (drop i attributes)) ≡ option_or (refusal_at i attributes d) (attributes_refusal (i + 1) (map attribute_of (drop (i + 1) attributes)))
unfolding attributes_refusal
refusal-next i attributes d within =
    at_drop_more (λ l. attributes_refusal i (map attribute_of l)) attributes i d within
    ∙ option_or-assoc (attribute_refusal i (attribute_of (get_or attributes i d))) _ _
    ∙ ap (λ l. option_or (option_or (attribute_refusal i (attribute_of (get_or attributes i d))) (option_map Repeated (repeat_from (attribute_of (get_or attributes i d)) (i + 1) (map attribute_of l)))) (attributes_refusal (i + 1) (map attribute_of (drop (i + 1) attributes))))
    (sym (rest-all (i + 1) attributes))

pub refusal-none : {Z : Type 0} (i : ℕ) (attributes : List (Attribute Z)) → length attributes ≤ i → attributes_refusal i (map attribute_of (drop i attributes)) ≡ None
unfolding attributes_refusal
refusal-none i attributes all = at_drop_all (λ l. attributes_refusal i (map attribute_of l)) attributes i all
