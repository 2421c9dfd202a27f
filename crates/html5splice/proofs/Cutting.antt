-- What the cuts of a text make together.
use Rattle.std.proofs.Common.{◌≡◌, ◌≤◌, ℕ, ◌+◌, Bool, true, false, List, [], ◌∷◌, ◌++◌, length, refl, ap, sym, ◌∙◌, subst, arith}
use Rattle.std.specs.Prelude.{All, ◌==◌, ◌&&◌, encode_utf8_all, if◌then◌else◌}
use Rattle.std.specs.List.{flat_map}
use Rattle.std.proofs.lemmas.Bool.{eqb-true, false≢true}
use Rattle.std.proofs.lemmas.List.{append-nil, append_assoc, length-append}
use Rattle.html5places.specs.Marks.{Placed}
use Rattle.html5places.specs.Placed.{follow, is_error}
use Rattle.html5splice.specs.Cuts.{CutOf, between, cut_at, cut_text, cuts_of}
use Rattle.html5splice.proofs.Bytes.{between-append, between-join, between-none}
use Rattle.html5splice.specs.Splicing.{end_of}

-- a token lies within this many bytes
pub record Lies (n : ℕ) (p : Placed) : Type 0 where
  pub run : p.places.text ≤ p.places.begin
  pub token : p.places.begin ≤ p.places.end
  pub within : p.places.end ≤ n

-- each of these does
unfoldable pub AllLie : ℕ → List Placed → Type 0
AllLie n [] = Unit {0}
AllLie n (p ∷ placed) = Lies n p × AllLie n placed

-- whether these follow one another, where the first of them is an error or not
abbrev pub follow_by : Bool → ℕ → Placed → List Placed → Bool
follow_by b from p placed = if b then follow from placed else ((p.places.text == from) && follow p.places.end placed)

pub and-left : (a b : Bool) → (a && b) ≡ true → a ≡ true
and-left true b both = refl
and-left false b both = both

pub and-right : (a b : Bool) → (a && b) ≡ true → b ≡ true
and-right true b both = both
and-right false b both = absurd (false≢true both)

-- ---- where they end

later-one : (b : Bool) (from : ℕ) (p : Placed) (placed : List Placed) (n : ℕ) → Lies n p → follow_by b from p placed ≡ true
    → ((k : ℕ) → follow k placed ≡ true → k ≤ end_of k placed)
    → from ≤ end_of (if b then from else p.places.end) placed
later-one true from p placed n lies follows rest = rest from follows
later-one false from p placed n lies follows rest =
    let at : p.places.text ≡ from = eqb-true p.places.text from (and-left (p.places.text == from) (follow p.places.end placed) follows) in
    let ends = rest p.places.end (and-right (p.places.text == from) (follow p.places.end placed) follows) in
    let run = lies.run in
    let token = lies.token in
    omega (arith, at, ends, run, token)

-- where the last token ends is where the first one begins, or later
pub end-later : (n from : ℕ) (placed : List Placed) → AllLie n placed → follow from placed ≡ true → from ≤ end_of from placed
unfolding follow end_of AllLie
end-later n from [] lie follows = omega arith
end-later n from (p ∷ placed) lie follows = later-one (is_error p.token) from p placed n lie.0 follows (λ k. end-later n k placed lie.1)

within-one : (b : Bool) (from n : ℕ) (p : Placed) (placed : List Placed) → from ≤ n → Lies n p → ((k : ℕ) → k ≤ n → end_of k placed ≤ n)
    → end_of (if b then from else p.places.end) placed ≤ n
within-one true from n p placed before lies rest = rest from before
within-one false from n p placed before lies rest = rest p.places.end lies.within

pub end-within : (n from : ℕ) (placed : List Placed) → from ≤ n → AllLie n placed → end_of from placed ≤ n
unfolding end_of AllLie
end-within n from [] before lie = before
end-within n from (p ∷ placed) before lie = within-one (is_error p.token) from n p placed before lie.0 (λ k at. end-within n k placed at lie.1)

-- ---- texts

text-one : (b : Bool) (bytes : List ℕ) (from : ℕ) (p : Placed) (placed : List Placed) → AllLie (length bytes) placed → Lies (length bytes) p → follow_by b from p placed ≡ true
    → ((k : ℕ) → follow k placed ≡ true → flat_map cut_text (cuts_of bytes placed) ≡ between k (end_of k placed) bytes)
    → flat_map cut_text (if b then cuts_of bytes placed else (cut_at bytes p ∷ cuts_of bytes placed)) ≡ between from (end_of (if b then from else p.places.end) placed) bytes
text-one true bytes from p placed lie lies follows rest = rest from follows
text-one false bytes from p placed lie lies follows rest =
    let at : p.places.text ≡ from = eqb-true p.places.text from (and-left (p.places.text == from) (follow p.places.end placed) follows) in
    let after = and-right (p.places.text == from) (follow p.places.end placed) follows in
    let last : ℕ = end_of p.places.end placed in
    let run = lies.run in
    let token = lies.token in
    ap (λ l. (between p.places.text p.places.begin bytes ++ between p.places.begin p.places.end bytes) ++ l) (rest p.places.end after)
    ∙ ap (λ l. l ++ between p.places.end last bytes) (between-join p.places.text p.places.begin p.places.end bytes run token)
    ∙ between-join p.places.text p.places.end last bytes (omega (arith, run, token)) (end-later (length bytes) p.places.end placed lie after)
    ∙ ap (λ k. between k last bytes) at

-- the cuts make the bytes up to where the last one ends
pub cuts-text : (bytes : List ℕ) (from : ℕ) (placed : List Placed) → AllLie (length bytes) placed → follow from placed ≡ true
    → flat_map cut_text (cuts_of bytes placed) ≡ between from (end_of from placed) bytes
unfolding follow end_of AllLie cuts_of
cuts-text bytes from [] lie follows = sym (between-none from bytes)
cuts-text bytes from (p ∷ placed) lie follows = text-one (is_error p.token) bytes from p placed lie.1 lie.0 follows (λ k. cuts-text bytes k placed lie.1)

-- ---- more bytes, and more tokens

cut-append : (xs ys : List ℕ) (p : Placed) → Lies (length xs) p → cut_at (xs ++ ys) p ≡ cut_at xs p
cut-append xs ys p lies =
    let run = lies.run in
    let token = lies.token in
    let within = lies.within in
    ap (λ l. record { run = l; text = p.run; source = between p.places.begin p.places.end (xs ++ ys); token = p.token; line = p.line })
    (between-append p.places.text p.places.begin xs ys run (omega (arith, token, within)))
    ∙ ap (λ l. record { run = between p.places.text p.places.begin xs; text = p.run; source = l; token = p.token; line = p.line })
    (between-append p.places.begin p.places.end xs ys token within)

more-one : (b : Bool) (xs ys : List ℕ) (p : Placed) (placed : List Placed) → Lies (length xs) p → cuts_of (xs ++ ys) placed ≡ cuts_of xs placed
    → (if b then cuts_of (xs ++ ys) placed else (cut_at (xs ++ ys) p ∷ cuts_of (xs ++ ys) placed)) ≡ (if b then cuts_of xs placed else (cut_at xs p ∷ cuts_of xs placed))
more-one true xs ys p placed lies rest = rest
more-one false xs ys p placed lies rest = ap (λ c. c ∷ cuts_of (xs ++ ys) placed) (cut-append xs ys p lies) ∙ ap (λ l. cut_at xs p ∷ l) rest

-- bytes after those in which tokens lie change no cut
pub cuts-more : (xs ys : List ℕ) (placed : List Placed) → AllLie (length xs) placed → cuts_of (xs ++ ys) placed ≡ cuts_of xs placed
unfolding cuts_of AllLie
cuts-more xs ys [] lie = refl
cuts-more xs ys (p ∷ placed) lie = more-one (is_error p.token) xs ys p placed lie.0 (cuts-more xs ys placed lie.1)

append-one : (b : Bool) (c : CutOf) (xs ys : List CutOf) → (if b then (xs ++ ys) else (c ∷ (xs ++ ys))) ≡ (if b then xs else (c ∷ xs)) ++ ys
append-one true c xs ys = refl
append-one false c xs ys = refl

pub cuts-append : (bytes : List ℕ) (a b : List Placed) → cuts_of bytes (a ++ b) ≡ cuts_of bytes a ++ cuts_of bytes b
unfolding cuts_of
cuts-append bytes [] b = refl
cuts-append bytes (p ∷ a) b =
    ap (λ l. if is_error p.token then l else (cut_at bytes p ∷ l)) (cuts-append bytes a b)
    ∙ append-one (is_error p.token) (cut_at bytes p) (cuts_of bytes a) (cuts_of bytes b)
