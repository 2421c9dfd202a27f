-- Ids, by their bytes.
use Rattle.std.proofs.Common.{◌≡◌, ℕ, Equal, Greater, Less, Ordering, Bool, true, false, not, List, [], ◌∷◌, ◌||◌, length, map, refl, ap, ◌∙◌}
use Rattle.std.specs.Prelude.{◌==◌}
use Rattle.std.specs.BTreeMap.{is_at}
use Rattle.std.specs.BTreeSet.{insert_key}
use Rattle.std.specs.Cmp.Lexicographic.{slice_cmp}
use Rattle.std.specs.List.{list_all, list_any}
use Rattle.std.specs.Ordering.{match_ordering, nat_cmp}
use Rattle.std.proofs.lemmas.Bool.{true≢false}
use Rattle.std.proofs.lemmas.Map.Text.{is_eq-slice_cmp}
use Rattle.html5check.specs.Ids.{is_id, is_taken, is_white_space, with_id}
use denote.Ref.{Bor}

abbrev pub by_bytes : Bor (List ℕ) → Bor (List ℕ) → Ordering
by_bytes a b = slice_cmp nat_cmp a.now b.now

abbrev pub texts : List (Bor (List ℕ)) → List (List ℕ)
texts ids = map (λ id. id.now) ids

pub taken-same : (id : Bor (List ℕ)) (ids : List (Bor (List ℕ))) → list_any (is_at (by_bytes id)) ids ≡ is_taken id.now (texts ids)
taken-same id [] = refl
taken-same id (other ∷ ids) = λ i. is_eq-slice_cmp id.now other.now i || taken-same id ids i

insert-by : (o : Ordering) (a b c : List (Bor (List ℕ))) → texts (match_ordering o a b c) ≡ match_ordering o (texts a) (texts b) (texts c)
insert-by Less a b c = refl
insert-by Equal a b c = refl
insert-by Greater a b c = refl

pub insert-same : (ids : List (Bor (List ℕ))) (id : Bor (List ℕ)) → texts (insert_key by_bytes ids id) ≡ with_id id.now (texts ids)
insert-same [] id = refl
insert-same (other ∷ ids) id =
    insert-by (by_bytes id other) (id ∷ other ∷ ids) (other ∷ ids) (other ∷ insert_key by_bytes ids id)
    ∙ ap (λ rest. match_ordering (by_bytes id other) (id.now ∷ other.now ∷ texts ids) (other.now ∷ texts ids) (other.now ∷ rest)) (insert-same ids id)

pub not-not : (b : Bool) → not (not b) ≡ b
not-not true = refl
not-not false = refl

pub some-id : (value : List ℕ) → (length value == 0) ≡ false → list_all (λ byte. not (is_white_space byte)) value ≡ is_id value
some-id [] some = absurd (true≢false some)
some-id (byte ∷ value) some = refl
