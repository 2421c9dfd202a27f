-- An attribute that isn't marked is named by no rule.
use Rattle.std.proofs.Common.{◌≡◌, ℕ, Bool, true, false, List, [], ◌∷◌, ◌++◌, map, Result, Ok, Err, refl, sym, ap, ◌∙◌}
use Rattle.std.specs.Prelude.{OnOk, OnErr, ◌||◌, ◌&&◌}
use Rattle.std.specs.List.{list_all}
use Rattle.std.specs.Str.{bytes_eq}
use Rattle.std.proofs.lemmas.Bool.{false≢true}
use Rattle.markup5ever.proofs.NameOrder.{bytes_eq-same}
use Rattle.html5policy.specs.Marks.{AllMarked, AreMarked, KeepsMarks, is_marked, is_marked_own}
use Rattle.html5policy.specs.Names.{is_one_of}
use Rattle.html5policy.specs.Policy.{OwnAttribute, PolicyOf, is_named, is_own}
use Rattle.html5policy.specs.declared.marks.Marks.{Marks}
use Rattle.html5policy.proofs.Searches.{and-left, and-right, holds-one_of}
use Rattle.html5policy.proofs.Soundness.{all-more, weaker-all}

-- ---- an attribute that is named is marked

-- what holds of each of some attributes' names holds of one of them
own-where : (p : List ℕ → Bool) (own : OwnAttribute) (element attribute : List ℕ) (later : List OwnAttribute) (same : Bool) → bytes_eq own.attribute attribute ≡ same
    → (p own.attribute && list_all (λ o. p o.attribute) later) ≡ true → ((same && bytes_eq own.element element) || is_own later element attribute) ≡ true
    → (list_all (λ o. p o.attribute) later ≡ true → is_own later element attribute ≡ true → p attribute ≡ true) → p attribute ≡ true
own-where p own element attribute later true is all one further =
    ap p (sym (bytes_eq-same own.attribute attribute is)) ∙ and-left (p own.attribute) (list_all (λ (o : OwnAttribute). p o.attribute) later) all
own-where p own element attribute later false is all one further =
    further (and-right (p own.attribute) (list_all (λ (o : OwnAttribute). p o.attribute) later) all) one

holds-own : (p : List ℕ → Bool) (attributes : List OwnAttribute) (element attribute : List ℕ)
    → list_all (λ o. p o.attribute) attributes ≡ true → is_own attributes element attribute ≡ true → p attribute ≡ true
unfolding is_own
holds-own p [] element attribute all one = absurd (false≢true one)
holds-own p (own ∷ later) element attribute all one =
    own-where p own element attribute later (bytes_eq own.attribute attribute) refl all one (holds-own p later element attribute)

-- ---- so one that isn't marked is not named

refuted : (a b : Bool) → (a ≡ true → b ≡ true) → b ≡ false → a ≡ false
refuted true b follows fails = absurd (false≢true (sym fails ∙ follows refl))
refuted false b follows fails = refl

neither : (a b : Bool) → a ≡ false → b ≡ false → (a || b) ≡ false
neither true b first second = first
neither false b first second = second

pub unmarked-not_named : (marks : Marks) (policy : PolicyOf) (element attribute : List ℕ) → AllMarked marks policy → is_marked marks attribute ≡ false
    → is_named policy element attribute ≡ false
unmarked-not_named marks policy element attribute all unmarked =
    neither (is_one_of policy.everywhere attribute) (is_own policy.own element attribute)
    (refuted (is_one_of policy.everywhere attribute) (is_marked marks attribute) (holds-one_of (is_marked marks) policy.everywhere attribute all.everywhere) unmarked)
    (refuted (is_own policy.own element attribute) (is_marked marks attribute) (holds-own (is_marked marks) policy.own element attribute all.own) unmarked)

-- ---- a mark more, and a name more where memory is there for it

own-noted : (before after : Marks) (attributes : List OwnAttribute) → KeepsMarks before after → list_all (is_marked_own before) attributes ≡ true
    → list_all (is_marked_own after) attributes ≡ true
own-noted before after attributes kept all = weaker-all (is_marked_own before) (is_marked_own after) (λ own. kept own.attribute) attributes all

names-noted : (before after : Marks) (names : List (List ℕ)) → KeepsMarks before after → list_all (is_marked before) names ≡ true
    → list_all (is_marked after) names ≡ true
names-noted before after names kept all = weaker-all (is_marked before) (is_marked after) kept names all

own-more : {T E X : Type 0} (f : X → OwnAttribute) (result : Result T E) (before after : Marks) (xs ys : List X) (one : OwnAttribute)
    → OnOk result (map f ys ≡ map f xs ++ one ∷ []) → OnErr result (ys ≡ xs) → KeepsMarks before after → is_marked after one.attribute ≡ true
    → list_all (is_marked_own before) (map f xs) ≡ true → list_all (is_marked_own after) (map f ys) ≡ true
own-more f (Ok done) before after xs ys one ok err kept noted all =
    ap (list_all (is_marked_own after)) ok ∙ all-more (is_marked_own after) (map f xs) one (own-noted before after (map f xs) kept all) noted
own-more f (Err fault) before after xs ys one ok err kept noted all =
    ap (λ l. list_all (is_marked_own after) (map f l)) err ∙ own-noted before after (map f xs) kept all

names-more : {T E X : Type 0} (f : X → List ℕ) (result : Result T E) (before after : Marks) (xs ys : List X) (one : List ℕ)
    → OnOk result (map f ys ≡ map f xs ++ one ∷ []) → OnErr result (ys ≡ xs) → KeepsMarks before after → is_marked after one ≡ true
    → list_all (is_marked before) (map f xs) ≡ true → list_all (is_marked after) (map f ys) ≡ true
names-more f (Ok done) before after xs ys one ok err kept noted all =
    ap (list_all (is_marked after)) ok ∙ all-more (is_marked after) (map f xs) one (names-noted before after (map f xs) kept all) noted
names-more f (Err fault) before after xs ys one ok err kept noted all =
    ap (λ l. list_all (is_marked after) (map f l)) err ∙ names-noted before after (map f xs) kept all

pub marked-own : {T E X : Type 0} (f : X → OwnAttribute) (result : Result T E) (before after : Marks) (xs ys : List X) (one : OwnAttribute) (names : List (List ℕ))
    → OnOk result (map f ys ≡ map f xs ++ one ∷ []) → OnErr result (ys ≡ xs) → KeepsMarks before after → is_marked after one.attribute ≡ true
    → AreMarked before (map f xs) names → AreMarked after (map f ys) names
marked-own f result before after xs ys one names ok err kept noted all = record {
  own = own-more f result before after xs ys one ok err kept noted all.own;
  everywhere = names-noted before after names kept all.everywhere;
}

pub marked-everywhere : {T E X : Type 0} (f : X → List ℕ) (result : Result T E) (before after : Marks) (xs ys : List X) (one : List ℕ) (attributes : List OwnAttribute)
    → OnOk result (map f ys ≡ map f xs ++ one ∷ []) → OnErr result (ys ≡ xs) → KeepsMarks before after → is_marked after one ≡ true
    → AreMarked before attributes (map f xs) → AreMarked after attributes (map f ys)
marked-everywhere f result before after xs ys one attributes ok err kept noted all = record {
  own = own-noted before after attributes kept all.own;
  everywhere = names-more f result before after xs ys one ok err kept noted all.everywhere;
}
