-- The names that are written, and the characters that have them.
use Rattle.std.proofs.Common.{◌≡◌, ℕ, true, false, List, [], ◌∷◌, ◌++◌, None, Some, refl, ap, sym, subst}
use Rattle.std.specs.Prelude.{◌==◌, codes}
use Rattle.std.proofs.Math.Bool.{and-false}
use Rattle.std.proofs.lemmas.Bool.{eqb-true, false≢true}
use Rattle.html5reading.specs.Characters.{ampersand, quotation_mark, less_than, greater_than}
use Rattle.html5reading.specs.NormalisedText.{normalised, without_dropped_first, with_line_feeds, ends_with_carriage_return}
use Rattle.html5reading.specs.Reference.{is_undecided, is_ended}
use Rattle.html5reading.specs.Start.{Input}
use Rattle.html5reading.proofs.AfterSemicolon.{undecided-after}
use Rattle.html5serialize.specs.Escapes.{HasEscapes, named, named_reference_of, named_value, no_break_space}
use Rattle.html5write.specs.Escaped.{escaped, reference_of, reference_or}
use Rattle.markup5ever.specs.NamedReferences.{NamedReference, IsTable, characters_of_name}

-- ---- names that can be written, and are read as their character whatever follows

pub record IsName (references : List NamedReference) (name : List ℕ) (c : ℕ) : Type 0 where
  pub has : characters_of_name references name ≡ Some (c, None)
  pub decided : (d : ℕ) → is_undecided references (name ++ d ∷ []) ≡ false
  pub ended : is_ended name ≡ true
  pub no_return : ends_with_carriage_return false (ampersand ∷ name) ≡ false
  pub normal : (input : Input) → input.after_carriage_return ≡ false → normalised input (ampersand ∷ name) ≡ ampersand ∷ name

pub record AreNames (references : List NamedReference) : Type 0 where
  pub amp : IsName references (codes "amp;") ampersand
  pub nbsp : IsName references (codes "nbsp;") no_break_space
  pub lt : IsName references (codes "lt;") less_than
  pub gt : IsName references (codes "gt;") greater_than
  pub quot : IsName references (codes "quot;") quotation_mark

pub are-names : (references : List NamedReference) → IsTable references → HasEscapes references → AreNames references
unfolding is_ended ends_with_carriage_return normalised without_dropped_first with_line_feeds
are-names references table names = record {
  amp = record { has = names.amp; decided = λ d. undecided-after references (codes "amp;") (codes "amp") d table (λ same. absurd cc) refl; ended = refl; no_return = refl; normal = λ input e. rw (e, and-false input.drops_byte_order_mark) refl };
  nbsp = record { has = names.nbsp; decided = λ d. undecided-after references (codes "nbsp;") (codes "nbsp") d table (λ same. absurd cc) refl; ended = refl; no_return = refl; normal = λ input e. rw (e, and-false input.drops_byte_order_mark) refl };
  lt = record { has = names.lt; decided = λ d. undecided-after references (codes "lt;") (codes "lt") d table (λ same. absurd cc) refl; ended = refl; no_return = refl; normal = λ input e. rw (e, and-false input.drops_byte_order_mark) refl };
  gt = record { has = names.gt; decided = λ d. undecided-after references (codes "gt;") (codes "gt") d table (λ same. absurd cc) refl; ended = refl; no_return = refl; normal = λ input e. rw (e, and-false input.drops_byte_order_mark) refl };
  quot = record { has = names.quot; decided = λ d. undecided-after references (codes "quot;") (codes "quot") d table (λ same. absurd cc) refl; ended = refl; no_return = refl; normal = λ input e. rw (e, and-false input.drops_byte_order_mark) refl };
}

-- ---- the characters that have names, and the others

pub by_eq : (P : ℕ → Type 0) (c k : ℕ) → P k → ((c == k) ≡ false → P c) → P c
by_eq P c k here other =
    (elim (c == k) as (λ b. (c == k) ≡ b → P c) [
      | true ↦ λ e. subst P (sym (eqb-true c k e)) here
      | false ↦ λ e. other e
    ]) refl

pub each_named : (P : ℕ → Type 0) → P ampersand → P no_break_space → P less_than → P greater_than → P quotation_mark → ((c : ℕ) → named_reference_of c ≡ reference_of c → P c) → (c : ℕ) → P c
unfolding named_reference_of
each_named P pa pn pl pg pq other c =
    by_eq P c ampersand pa (λ a.
    by_eq P c no_break_space pn (λ n.
    by_eq P c less_than pl (λ l.
    by_eq P c greater_than pg (λ g.
    by_eq P c quotation_mark pq (λ q.
    other c (rw (a, n, l, g, q) refl))))))

pub named-other : (c : ℕ) → named_reference_of c ≡ reference_of c → named c ≡ escaped c
unfolding named escaped
named-other c same = ap (λ o. reference_or o (c ∷ [])) same

-- ---- the characters of values

value-other : (c : ℕ) → (c == quotation_mark) ≡ false → named_value c ≡ named c
unfolding named_value
value-other c q = rw q refl

-- what is true of each name and of each number is true of all that is written for a character
pub each_value : (P : ℕ → List ℕ → Type 0) → P ampersand (codes "&amp;") → P no_break_space (codes "&nbsp;") → P less_than (codes "&lt;") → P greater_than (codes "&gt;")
    → P quotation_mark (codes "&quot;") → ((c : ℕ) → P c (escaped c)) → (c : ℕ) → P c (named_value c)
unfolding named_value named named_reference_of
each_value P pa pn pl pg pq other c =
    by_eq (λ d. P d (named_value d)) c quotation_mark pq (λ q.
    subst (P c) (sym (value-other c q))
    (each_named (λ d. (d == quotation_mark) ≡ false → P d (named d)) (λ e. pa) (λ e. pn) (λ e. pl) (λ e. pg) (λ e. absurd (false≢true (sym e)))
    (λ d same e. subst (P d) (sym (named-other d same)) (other d)) c q))
