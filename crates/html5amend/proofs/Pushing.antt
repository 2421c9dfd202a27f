-- One more element that waits, if there is room, and where its start tag stands.
use Rattle.std.proofs.Common.{◌≡◌, ℕ, ◌<◌, ◌≤◌, Bool, true, false, List, ◌∷◌, length, map, None, Some, Option, refl, ap, sym, subst, ◌∙◌, arith, deque_capacity}
use Rattle.std.specs.Prelude.{Result, IsOk, is_ok, nat_lt, unwrap_or, if◌then◌else◌}
use Rattle.std.specs.declared.collections.VecDeque.{VecDeque}
use Rattle.std.proofs.lemmas.Bool.{lt-ltb, le-ltb}
use Rattle.std.proofs.lemmas.List.{length-map}
use Rattle.html5amend.specs.Amending.Move.{Counts, Opens}
use Rattle.html5amend.specs.Open.{OpenOf, counted}
use Rattle.html5amend.specs.Places.{Waiting, grown, places_for, waiting_after}
use Rattle.html5ever_interface.specs.Token.{TagOf}
use Rattle.html5amend.specs.Views.{open_by, with_open}
use Rattle.html5amend.specs.declared.open.Open.{Open}

-- a choice by whether a call went well, where it did
pub ok-then : {X T E : Type 0} (r : Result T E) (x y : X) → IsOk r → (if is_ok r then x else y) ≡ x
ok-then r x y ok = ap (λ b. if b then x else y) ok

module _ {Z : Type 0} (o : Open Z) (w : Waiting) (items : List (Open Z)) (places count : ℕ)
    (is : record { elements = map open_by items; places = places } ≡ w) (counts : count ≡ length items) where
  -- how many wait decides whether there is room
  room-by : (limit : ℕ) (b : Bool) → nat_lt count limit ≡ b → nat_lt (length (map open_by items)) limit ≡ b
  room-by limit b fits = ap (λ n. nat_lt n limit) (length-map items open_by ∙ sym counts) ∙ fits

  pub pushed-within : (now : List (Open Z)) → count < places → now ≡ o ∷ items → record { elements = map open_by now; places = places } ≡ with_open o None w
  pushed-within now fits now_is =
      ap (λ l. record { elements = map open_by l; places = places }) now_is
      ∙ sym (ap (λ b. if b then record { elements = open_by o ∷ map open_by items; places = places } else record { elements = map open_by items; places = places })
      (room-by places true (lt-ltb count places fits)))
      ∙ ap (with_open o None) is

  pub full-within : places ≤ count → w ≡ with_open o None w
  full-within full =
      sym is
      ∙ sym (ap (λ b. if b then record { elements = open_by o ∷ map open_by items; places = places } else record { elements = map open_by items; places = places })
      (room-by places false (le-ltb count places full)))
      ∙ ap (with_open o None) is

  -- room that is made if there was none
  pub room-made : (capacity : ℕ) → places ≤ count → capacity ≡ grown count
      → (if nat_lt (length w.elements) capacity then record { elements = open_by o ∷ w.elements; places = capacity } else w)
      ≡ record { elements = open_by o ∷ w.elements; places = places_for (length w.elements) w.places }
  room-made capacity full capacity_is =
      let many : length w.elements ≡ count = ap (λ (v : Waiting). length v.elements) (sym is) ∙ length-map items open_by ∙ sym counts in
      let limit : w.places ≡ places = ap (λ (v : Waiting). v.places) (sym is) in
      ap (λ b. if b then record { elements = open_by o ∷ w.elements; places = capacity } else w)
      (lt-ltb (length w.elements) capacity (omega (arith, many, capacity_is)))
      ∙ ap (λ n. record { elements = open_by o ∷ w.elements; places = n })
      (capacity_is ∙ ap grown (sym many)
      ∙ sym (ap (λ b. if b then w.places else grown (length w.elements)) (le-ltb (length w.elements) w.places (omega (arith, many, limit, full)))))

  module _ (room : VecDeque (Open Z) Z) where
    pub pushed-into : (now : List (Open Z)) → count < deque_capacity room → now ≡ o ∷ items
        → record { elements = map open_by now; places = deque_capacity room } ≡ with_open o (Some room) w
    pushed-into now fits now_is =
        ap (λ l. record { elements = map open_by l; places = deque_capacity room }) now_is
        ∙ sym (ap (λ b. if b then record { elements = open_by o ∷ map open_by items; places = deque_capacity room } else record { elements = map open_by items; places = places })
        (room-by (deque_capacity room) true (lt-ltb count (deque_capacity room) fits)))
        ∙ ap (with_open o (Some room)) is

    pub full-into : deque_capacity room ≤ count → w ≡ with_open o (Some room) w
    full-into full =
        sym is
        ∙ sym (ap (λ b. if b then record { elements = open_by o ∷ map open_by items; places = deque_capacity room } else record { elements = map open_by items; places = places })
        (room-by (deque_capacity room) false (le-ltb count (deque_capacity room) full)))
        ∙ ap (with_open o (Some room)) is

-- ---- a start tag

-- what holds if there is none
abbrev at_none : Type 0 → Option OpenOf → Type 0
at_none P None = P
at_none P (Some o) = Unit {0}

-- and if there is one
abbrev at_some : Type 0 → Option OpenOf → Type 0
at_some P None = Unit {0}
at_some P (Some o) = P

-- an element that waits is one more
pub waiting-opens : (w : Waiting) (tag : TagOf) (b : Bool) (x o : OpenOf) → Some x ≡ (if b then Some o else None)
    → record { elements = x ∷ w.elements; places = places_for (length w.elements) w.places } ≡ waiting_after (if b then Opens o else Counts tag) w
waiting-opens w tag true x o is = ap (λ y. record { elements = unwrap_or y x ∷ w.elements; places = places_for (length w.elements) w.places }) is
waiting-opens w tag false x o is = subst (at_none (record { elements = x ∷ w.elements; places = places_for (length w.elements) w.places } ≡ waiting_after (Counts tag) w)) is tt

-- and where it doesn't wait its tag is counted
pub waiting-counts : (w : Waiting) (tag : TagOf) (b : Bool) (o : OpenOf) → None ≡ (if b then Some o else None)
    → record w { elements = counted tag w.elements } ≡ waiting_after (if b then Opens o else Counts tag) w
waiting-counts w tag true o is = subst (at_some (record w { elements = counted tag w.elements } ≡ waiting_after (Opens o) w)) is tt
waiting-counts w tag false o is = refl
