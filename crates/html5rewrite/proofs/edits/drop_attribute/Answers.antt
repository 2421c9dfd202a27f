use Rattle.std.proofs.Common.{rules, ◌≡◌, Bool, true, false, List, [], ◌∷◌, filter, map, refl, ap, ◌∙◌}
use Rattle.std.proofs.lemmas.Fn.{filter_same}
use Rattle.std.specs.Prelude.{if◌then◌else◌}
use Rattle.html5ever_interface.specs.Token.{tag_of}
use Rattle.markup5ever.specs.Names.{attribute_of}
use Rattle.html5rewrite.specs.Edits.{has_other_name}
use Rattle.html5rewrite.proofs.edits.drop_attribute.Goals as goal

map-kept : {X Y : Type 0} (f : X → Y) (p : Y → Bool) (x : X) (xs : List X) (keeps : Bool) → map f (filter (λ y. p (f y)) xs) ≡ filter p (map f xs)
    → map f (if keeps then x ∷ filter (λ y. p (f y)) xs else filter (λ y. p (f y)) xs) ≡ (if keeps then f x ∷ filter p (map f xs) else filter p (map f xs))
map-kept f p x xs true later = ap (λ l. f x ∷ l) later
map-kept f p x xs false later = later

map-filter : {X Y : Type 0} (f : X → Y) (p : Y → Bool) (xs : List X) → map f (filter (λ x. p (f x)) xs) ≡ filter p (map f xs)
map-filter f p [] = refl
map-filter f p (x ∷ xs) = map-kept f p x xs (p (f x)) (map-filter f p xs)

pub returns : goal.returns
returns g c =
    let test = has_other_name c.args.name.now in
    let kept = filter_same _ (λ x. test (attribute_of x)) _ (λ x b f' k. search rules) _ _ c.retain.ensures.filtered in
    ap (λ l. record (tag_of c.args.tag.now) { attributes = l }) (ap (map attribute_of) kept ∙ map-filter attribute_of test c.args.tag.now.attrs.items)
