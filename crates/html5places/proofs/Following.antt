-- That places follow one another.
use Rattle.std.proofs.Common.{◌≡◌, ℕ, Bool, true, false, List, [], ◌∷◌, ◌++◌, refl, ap, sym, ◌∙◌, subst}
use Rattle.std.specs.Prelude.{◌&&◌}
use Rattle.std.proofs.lemmas.Bool.{eq-eqb}
use Rattle.std.proofs.lemmas.List.{append-nil, append_assoc}
use Rattle.html5ever_interface.specs.Sink.{Message}
use Rattle.html5ever_interface.specs.Token.{Told}
use Rattle.html5ever_interface.specs.Token.Told.{Error, Text}
use Rattle.html5feed.specs.Beginning.{is_after_less_than}
use Rattle.html5feed.specs.Feed.{told_at_end}
use Rattle.html5reading.specs.Reading.{start_after}
use Rattle.html5reading.specs.Start.{Rules, Start}
use Rattle.html5places.specs.Marks.{Marks, Placed, marks_after, no_marks}
use Rattle.html5places.specs.Placed.{all_handed, at_character, at_end, at_first_byte, begun_where, follow, handed, marks_after_all, marks_from, marks_of, marks_past, placed_at_end, placed_from, placed_tokens, standard, told_at}

-- a token that is handed on follows, and what follows the marks after it follows it
follow-one : (s : Marks) (told : Told) (line : ℕ) (rest : List Placed) → follow (marks_after s told).text rest ≡ true
    → follow s.text (handed s told line ++ rest) ≡ true
unfolding follow
follow-one s (Text text) line rest later = later
follow-one s (Error message) line rest later = later
follow-one s other line rest later = ap (λ b. b && follow s.to rest) (eq-eqb s.text s.text refl) ∙ later

follow-all : (s : Marks) (M : List Message) (rest : List Placed) → follow (marks_after_all s M).text rest ≡ true → follow s.text (all_handed s M ++ rest) ≡ true
unfolding all_handed marks_after_all
follow-all s [] rest later = later
follow-all s (m ∷ M) rest later =
    subst (λ l. follow s.text l ≡ true) (sym (append_assoc (handed s m.token m.line) (all_handed (marks_after s m.token) M) rest))
    (follow-one s m.token m.line (all_handed (marks_after s m.token) M ++ rest) (follow-all (marks_after s m.token) M rest later))

text-where : (b : Bool) (s : Marks) → (begun_where b s).text ≡ s.text
text-where true s = refl
text-where false s = refl

-- the tokens of a text follow one another, where what comes after them follows them
follow-from : (rules : Rules) (K : Start) (s : Marks) (before text : List ℕ) (rest : List Placed)
    → follow (marks_from rules K s before text).text rest ≡ true → follow s.text (placed_from rules K s before text ++ rest) ≡ true
unfolding marks_from placed_from
follow-from rules K s before [] rest later = later
follow-from rules K s before (c ∷ text) rest later =
    let here : Marks = at_character s c in
    let M : List Message = told_at rules K before c in
    let past : Marks = marks_past rules K s before c in
    let more : List Placed = placed_from rules K past (before ++ c ∷ []) text in
    subst (λ l. follow s.text l ≡ true) (sym (append_assoc (all_handed here M) more rest))
    (follow-all here M (more ++ rest)
    (subst (λ n. follow n (more ++ rest) ≡ true) (text-where (is_after_less_than (start_after standard rules K tt (before ++ c ∷ [])).opened) (marks_after_all here M))
    (follow-from rules K past (before ++ c ∷ []) text rest later)))

pub all-follow : (rules : Rules) (K : Start) (text : List ℕ) → follow 0 (placed_tokens rules K text) ≡ true
unfolding marks_from follow
all-follow rules K text =
    let s : Marks = marks_of rules (at_first_byte K) text in
    let M : List Message = told_at_end standard rules K tt text in
    follow-from rules K no_marks [] text (placed_at_end rules (at_first_byte K) text)
    (subst (λ l. follow s.text l ≡ true) (append-nil (all_handed (at_end s) M)) (follow-all (at_end s) M [] refl))
