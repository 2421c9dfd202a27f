-- Lists of elements, of which one is some of the other.
use Rattle.std.proofs.Common.{◌≡◌, ℕ, ◌<◌, ◌≤◌, Bool, true, false, List, [], ◌∷◌, refl, sym, ◌∙◌, arith}
use Rattle.std.specs.Prelude.{◌==◌, ◌&&◌, nat_le, if◌then◌else◌, Some, None}
use Rattle.std.proofs.lemmas.Bool.{false≢true, eqb-true, eq-eqb, false_from_ne_true}
use Rattle.html5tree.specs.Lockstep.{AreNumbered, IsWithin, form_of}
use Rattle.html5tree.specs.Lockstep.IsWithin.{Done, Keep, Mark, Skip}
use Rattle.html5tree.specs.declared.kinds.Kind.{Kind}
use Rattle.html5tree.specs.Names.{has_marker, is_form, is_formatting, kind_of, no_kind}
use Rattle.html5tree.specs.Page.{Element, names}
use Rattle.html5tree.specs.Parser.{Entry, Parser, cleared, count_alike, has_entry, has_node, is_alike, kept, last_named, lost, pushed, reopened, without_earliest}
use Rattle.html5tree.specs.Parser.Entry.{Active, Marker}
use Rattle.html5tree.specs.Scopes.{near}

pub itself : (n : ℕ) → (n == n) ≡ true
itself n = eq-eqb n n refl

pub lower : (a b : ℕ) → a < b → (a == b) ≡ false
lower a b h = false_from_ne_true (a == b) (λ e. let same : a ≡ b = eqb-true a b e in omega (arith, same, h))

pub no-node : (n k : ℕ) (s : List Element) → AreNumbered k s → k ≤ n → has_node n s ≡ false
unfolding has_node AreNumbered
no-node n k [] h below = refl
no-node n k (e ∷ s) h below =
    rw (lower e.node n (omega (arith, h.0, below))) (no-node n e.node s h.1 (omega (arith, h.0, below)))

pub none-within : (n : ℕ) (l : List Entry) (s : List Element) → IsWithin l s → has_node n s ≡ false → has_entry n l ≡ false
unfolding has_node has_entry
none-within n l (c ∷ s) (Mark e g w) h = at (e.node == n) h (none-within n _ s w)
  where
    at : {A : Type 0} (b : Bool) → (if b then true else has_node n s) ≡ false → (has_node n s ≡ false → A) → A
    at true h again = absurd (false≢true (sym h))
    at false h again = again h
none-within n (d ∷ l) (c ∷ s) (Keep e f g w) h = at (e.node == n) h (none-within n l s w)
  where
    at : (b : Bool) → (if b then true else has_node n s) ≡ false → (has_node n s ≡ false → has_entry n l ≡ false) → (if b then true else has_entry n l) ≡ false
    at true h again = absurd (false≢true (sym h))
    at false h again = again h
none-within n l (c ∷ s) (Skip e g w) h = at (e.node == n) h (none-within n l s w)
  where
    at : {A : Type 0} (b : Bool) → (if b then true else has_node n s) ≡ false → (has_node n s ≡ false → A) → A
    at true h again = absurd (false≢true (sym h))
    at false h again = again h
none-within n l [] Done h = refl

pub is-open : (d : Element) (l : List Entry) (s : List Element) → IsWithin (Active d ∷ l) s → has_node d.node s ≡ true
unfolding has_node
is-open d l [] w = elim w [ ]
is-open d l (c ∷ s) (Keep e f g w) = rw (itself d.node) refl
is-open d l (c ∷ s) (Skip e g w) = at (e.node == d.node) (is-open d l s w)
  where
    at : (b : Bool) → has_node d.node s ≡ true → (if b then true else has_node d.node s) ≡ true
    at true h = refl
    at false h = h

-- "reconstruct the active formatting elements" does nothing
pub nothing-lost : (m : Parser) (l : List Entry) (s : List Element) → IsWithin l s → reopened m (lost s l) (kept s l) ≡ record m { formatting = l }
unfolding lost kept reopened
nothing-lost m [] s w = refl
nothing-lost m (Marker ∷ l) s w = refl
nothing-lost m (Active e ∷ l) s w = rw (is-open e l s w) refl

-- a list without one of its elements
pub without-earliest : (e : Element) (l : List Entry) (s : List Element) → IsWithin l s → IsWithin (without_earliest e l) s
unfolding without_earliest
without-earliest e l [] Done = Done
without-earliest e l (d ∷ s) (Mark x g w) = Mark x g w
without-earliest e l (d ∷ s) (Skip y g w) = Skip y g (without-earliest e l s w)
without-earliest e (c ∷ l) (d ∷ s) (Keep x f g w) = at (is_alike x e && (count_alike e l == 0)) (without-earliest e l s w)
  where
    at : (b : Bool) → IsWithin (without_earliest e l) s → IsWithin (if b then l else Active x ∷ without_earliest e l) (x ∷ s)
    at true v = Skip x g w
    at false v = Keep x f g v

pub pushes : (e : Element) (l : List Entry) (s : List Element) → is_formatting (kind_of e.name) ≡ true → has_marker (kind_of e.name) ≡ false → IsWithin l s → IsWithin (pushed e l) (e ∷ s)
unfolding pushed
pushes e l s f g w = at (nat_le 3 (count_alike e l))
  where
    at : (b : Bool) → IsWithin (Active e ∷ (if b then without_earliest e l else l)) (e ∷ s)
    at true = Keep e f g (without-earliest e l s w)
    at false = Keep e f g w

-- an element that is not near is not in the list
pub none-named : (test : List ℕ → Bool) (l : List Entry) (s : List Element) → IsWithin l s → near test has_marker (names s) ≡ false → last_named test l ≡ None
unfolding last_named near
none-named test l [] Done h = refl
none-named test l (d ∷ s) (Mark e g w) h = refl
none-named test (c ∷ l) (d ∷ s) (Keep e f g w) h = at (test e.name) (has_marker (kind_of e.name)) g h (none-named test l s w)
  where
    at : (b c : Bool) → c ≡ false → (if b then true else if c then false else near test has_marker (names s)) ≡ false
        → (near test has_marker (names s) ≡ false → last_named test l ≡ None) → (if b then Some e else last_named test l) ≡ None
    at true c go h again = absurd (false≢true (sym h))
    at false true go h again = absurd (false≢true (sym go))
    at false false go h again = again h
none-named test l (d ∷ s) (Skip e g w) h = at (test e.name) (has_marker (kind_of e.name)) g h (none-named test l s w)
  where
    at : (b f : Bool) → f ≡ false → (if b then true else if f then false else near test has_marker (names s)) ≡ false
        → (near test has_marker (names s) ≡ false → last_named test l ≡ None) → last_named test l ≡ None
    at true f go h again = absurd (false≢true (sym h))
    at false true go h again = absurd (false≢true (sym go))
    at false false go h again = again h

pub no-form : (s : List Element) → near (λ name. is_form (kind_of name)) no_kind (names s) ≡ false → form_of s ≡ None
unfolding near form_of
no-form [] h = refl
no-form (e ∷ s) h = at (is_form (kind_of e.name)) h (no-form s)
  where
    at : (b : Bool) → (if b then true else near (λ name. is_form (kind_of name)) no_kind (names s)) ≡ false → (near (λ name. is_form (kind_of name)) no_kind (names s) ≡ false → form_of s ≡ None)
        → (if b then Some e.node else form_of s) ≡ None
    at true h again = absurd (false≢true (sym h))
    at false h again = again h

-- with more stops, fewer are near
pub fewer-near : (test : List ℕ → Bool) (stops more : Kind → Bool) → ((k : Kind) → stops k ≡ true → more k ≡ true) → (s : List (List ℕ)) → near test stops s ≡ false → near test more s ≡ false
unfolding near
fewer-near test stops more all [] h = refl
fewer-near test stops more all (e ∷ s) h = at (test e) (stops (kind_of e)) (more (kind_of e)) (all (kind_of e)) h (fewer-near test stops more all s)
  where
    at : (b c d : Bool) → (c ≡ true → d ≡ true)
        → (if b then true else if c then false else near test stops s) ≡ false
        → (near test stops s ≡ false → near test more s ≡ false)
        → (if b then true else if d then false else near test more s) ≡ false
    at true c d all h again = absurd (false≢true (sym h))
    at false c true all h again = refl
    at false true false all h again = absurd (false≢true (all refl))
    at false false false all h again = again h

-- without the innermost open element, which is no formatting element and has no marker
pub drops : (e : Element) (l : List Entry) (s : List Element) → is_formatting (kind_of e.name) ≡ false → has_marker (kind_of e.name) ≡ false → IsWithin l (e ∷ s) → IsWithin l s
drops e l s other free (Keep d f g w) = absurd (false≢true (sym other ∙ f))
drops e l s other free (Mark d g w) = absurd (false≢true (sym free ∙ g))
drops e l s other free (Skip d g w) = w

-- or has a marker
pub clears : (e : Element) (l : List Entry) (s : List Element) → has_marker (kind_of e.name) ≡ true → IsWithin l (e ∷ s) → IsWithin (cleared l) s
unfolding cleared
clears e l s marked (Keep d f g w) = absurd (false≢true (sym g ∙ marked))
clears e l s marked (Mark d g w) = w
clears e l s marked (Skip d g w) = absurd (false≢true (sym g ∙ marked))
