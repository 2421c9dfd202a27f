-- Words that stand in a text.
use Rattle.std.proofs.Common.{◌≡◌, ℕ, ◌+◌, ◌-◌, ◌<◌, ◌≤◌, List, [], ◌∷◌, Some, None, length, get_or, false, take, drop, ap, sym, ◌∙◌, arith, length-drop}
use Rattle.std.specs.Prelude.{◌||◌, ◌&&◌, ◌==◌, nat_eq, if◌then◌else◌}
use Rattle.std.specs.Char.{to_ascii_lowercase}
use Rattle.std.specs.List.{starts_with}
use Rattle.std.proofs.lemmas.List.{at_drop_more, at_drop_all, take_all}
use Rattle.html5grammar.specs.Comment.{occurs}
use Rattle.html5reading.specs.Characters.{null, less_than}
use Rattle.html5reading.specs.RawText.{ends_name}
use Rattle.html5serialize.specs.RawTexts.{begins_end, begins_name, has_end, has_start}
use Rattle.html5serialize.specs.Refusals.{null_from}

pub occurs-next : (word text : List ℕ) (i : ℕ) → i < length text
    → occurs word (drop i text) ≡ starts_with nat_eq (drop i text) word || occurs word (drop (i + 1) text)
unfolding occurs
occurs-next word text i within =
    at_drop_more (λ l. occurs word l) text i 0 within
    ∙ sym (ap (λ b. b || occurs word (drop (i + 1) text)) (at_drop_more (λ l. starts_with nat_eq l word) text i 0 within))

pub occurs-none : (word text : List ℕ) (i : ℕ) → length text ≤ i → occurs word (drop i text) ≡ false
unfolding occurs
occurs-none word text i all = at_drop_all (λ l. occurs word l) text i all

-- ---- where a NUL stands

pub null-next : (text : List ℕ) (i : ℕ) → i < length text
    → null_from i (drop i text) ≡ (if get_or text i 0 == null then Some i else null_from (i + 1) (drop (i + 1) text))
unfolding null_from
null-next text i within = at_drop_more (λ l. null_from i l) text i 0 within

pub null-none : (text : List ℕ) (i : ℕ) → length text ≤ i → null_from i (drop i text) ≡ None
unfolding null_from
null-none text i all = at_drop_all (λ l. null_from i l) text i all

-- ---- the end tag of raw text

pub name-next : (name text : List ℕ) (i : ℕ) → i < length name → i < length text
    → begins_name (drop i name) (drop i text) ≡ (to_ascii_lowercase (get_or text i 0) == get_or name i 0) && begins_name (drop (i + 1) name) (drop (i + 1) text)
unfolding begins_name
name-next name text i here within =
    at_drop_more (λ l. begins_name l (drop i text)) name i 0 here
    ∙ at_drop_more (λ l. begins_name (get_or name i 0 ∷ drop (i + 1) name) l) text i 0 within

pub name-short : (name text : List ℕ) (i : ℕ) → i < length name → length text ≤ i → begins_name (drop i name) (drop i text) ≡ false
unfolding begins_name
name-short name text i here all =
    at_drop_more (λ l. begins_name l (drop i text)) name i 0 here ∙ at_drop_all (λ l. begins_name (get_or name i 0 ∷ drop (i + 1) name) l) text i all

pub name-done : (name text : List ℕ) (i : ℕ) → length name ≤ i → i < length text → begins_name (drop i name) (drop i text) ≡ ends_name (get_or text i 0)
unfolding begins_name
name-done name text i all within =
    at_drop_all (λ l. begins_name l (drop i text)) name i all ∙ at_drop_more (λ l. begins_name [] l) text i 0 within

pub name-none : (name text : List ℕ) (i : ℕ) → length name ≤ i → length text ≤ i → begins_name (drop i name) (drop i text) ≡ false
unfolding begins_name
name-none name text i all none =
    at_drop_all (λ l. begins_name l (drop i text)) name i all ∙ at_drop_all (λ l. begins_name [] l) text i none

pub end-next : (name text : List ℕ) (i : ℕ) → i < length text → has_end name (drop i text) ≡ begins_end name (drop i text) || has_end name (drop (i + 1) text)
unfolding has_end
end-next name text i within =
    at_drop_more (λ l. has_end name l) text i 0 within
    ∙ sym (ap (λ b. b || has_end name (drop (i + 1) text)) (at_drop_more (λ l. begins_end name l) text i 0 within))

pub end-none : (name text : List ℕ) (i : ℕ) → length text ≤ i → has_end name (drop i text) ≡ false
unfolding has_end
end-none name text i all = at_drop_all (λ l. has_end name l) text i all

pub start-next : (name text : List ℕ) (i : ℕ) → i < length text
    → has_start name (drop i text) ≡ ((get_or text i 0 == less_than) && begins_name name (drop (i + 1) text)) || has_start name (drop (i + 1) text)
unfolding has_start
start-next name text i within = at_drop_more (λ l. has_start name l) text i 0 within

pub start-none : (name text : List ℕ) (i : ℕ) → length text ≤ i → has_start name (drop i text) ≡ false
unfolding has_start
start-none name text i all = at_drop_all (λ l. has_start name l) text i all

-- ---- slices

-- what a slice from a place on has
pub rest-all : {X : Type 0} (i : ℕ) (text : List X) → take (length text - i) (drop i text) ≡ drop i text
rest-all i text = take_all (length text - i) (drop i text) (omega (arith, length-drop i text))
