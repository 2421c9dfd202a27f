-- Attributes that are added where they lack, one after another.
use Rattle.std.proofs.Common.{◌≡◌, ℕ, ◌+◌, ◌<◌, ◌≤◌, true, false, List, [], ◌∷◌, ◌++◌, length, get_or, take, drop, map, refl, ap, sym, ◌∙◌, arith, append_assoc}
use Rattle.std.specs.Prelude.{if◌then◌else◌}
use Rattle.std.proofs.lemmas.List.{append-nil, drop_all, drop_more, length-append, length-map, take-append-le, take-map, take_all}
use Rattle.markup5ever.specs.Names.{AttributeOf}
use Rattle.tree_construction.specs.Document.{has_one_like, lacking}

lacking-cons : (own : List AttributeOf) (x : AttributeOf) (more : List AttributeOf) → lacking own (x ∷ more) ≡ lacking own (x ∷ []) ++ lacking own more
unfolding lacking
lacking-cons own x more =
    elim (has_one_like x own) as (λ b. (if b then lacking own more else x ∷ lacking own more) ≡ (if b then [] else x ∷ []) ++ lacking own more) [ true ↦ refl | false ↦ refl ]

lacking-none : (own : List AttributeOf) → lacking own [] ≡ []
unfolding lacking
lacking-none own = refl

-- the first ones are those that the element had, and those that it lacked so far are added
pub record IsAdding {X : Type 0} (view : X → AttributeOf) (first : List AttributeOf) (more now : List X) (count i : ℕ) : Type 0 where
  pub within : count ≤ length now
  pub front : map view (take count now) ≡ first
  pub added : map view now ++ lacking first (map view (drop i more)) ≡ first ++ lacking first (map view more)

pub adding-none : {X : Type 0} (view : X → AttributeOf) (more now : List X) (count : ℕ) → count ≡ length now → IsAdding view (map view now) more now count 0
adding-none view more now count e = record {
  within = omega (arith, e);
  front = ap (map view) (take_all count now (omega (arith, e)));
  added = refl;
}

pub adding-next : {X : Type 0} (view : X → AttributeOf) (first : List AttributeOf) (more before after : List X) (count i : ℕ) (x : X) → IsAdding view first more before count i
    → i < length more → x ≡ get_or more i x → map view after ≡ map view before ++ lacking (map view (take count before)) (view x ∷ [])
    → IsAdding view first more after count (i + 1)
adding-next view first more before after count i x h w is e =
    let rest = lacking first (map view (drop (i + 1) more)) in
    let one = lacking first (view x ∷ []) in
    let within = h.within in
    let to : map view after ≡ map view before ++ one = e ∙ ap (λ f. map view before ++ lacking f (view x ∷ [])) h.front in
    let next : lacking first (map view (drop i more)) ≡ one ++ rest =
    ap (λ l. lacking first (map view l)) (drop_more more i x w) ∙ (ap (λ y. lacking first (view y ∷ map view (drop (i + 1) more))) (sym is)
    ∙ lacking-cons first (view x) (map view (drop (i + 1) more))) in
    record {
      within = omega (arith, within, ap length to, length-append (map view before) one, length-map before view, length-map after view);
      front =
          sym (take-map view count after) ∙ (ap (take count) to ∙ (take-append-le count (map view before) one (omega (arith, within, length-map before view))
          ∙ (take-map view count before ∙ h.front)));
      added = ap (λ l. l ++ rest) to ∙ (append_assoc (map view before) one rest ∙ (ap (λ l. map view before ++ l) (sym next) ∙ h.added));
    }

pub adding-all : {X : Type 0} (view : X → AttributeOf) (first : List AttributeOf) (more now : List X) (count i : ℕ) → IsAdding view first more now count i → length more ≤ i
    → map view now ≡ first ++ lacking first (map view more)
adding-all view first more now count i h w =
    sym (append-nil (map view now)) ∙ (ap (λ l. map view now ++ l) (sym (lacking-none first) ∙ ap (λ l. lacking first (map view l)) (sym (drop_all i more w))) ∙ h.added)
