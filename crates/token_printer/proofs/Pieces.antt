-- What is printed piece after piece.
use Rattle.std.proofs.Common.{◌≡◌, ℕ, List, ◌++◌, Result, OnOk, is_ok, if◌then◌else◌, refl, ap, sym, ◌∙◌, codes}
use Rattle.std.proofs.lemmas.List.{append_assoc}
use Rattle.std.proofs.lemmas.Result.{on_ok_weaker}
use Rattle.html5ever_interface.proofs.Entries.{ok_from_if}

-- a piece after others
pub pieces-more : (old output next front piece : List ℕ) → output ≡ old ++ front → next ≡ output ++ piece → next ≡ old ++ (front ++ piece)
pieces-more old output next front piece before printed =
    printed ∙ ap (λ l. l ++ piece) before ∙ append_assoc old front piece

-- three pieces, of which the last could fail
pub pieces-three : {T E : Type 0} (r : Result T E) (old one two next a b c : List ℕ)
    → one ≡ old ++ a
    → two ≡ one ++ b
    → next ≡ (if is_ok r then two ++ c else two)
    → OnOk r (next ≡ old ++ (a ++ b ++ c))
pieces-three r old one two next a b c printed_one printed_two printed =
    let front : two ≡ old ++ (a ++ b) = pieces-more old one two a b printed_one printed_two in
    on_ok_weaker r
    (λ (whole : next ≡ two ++ c). pieces-more old two next (a ++ b) c front whole ∙ ap (λ l. old ++ l) (simp append_assoc))
    (ok_from_if r next (two ++ c) two printed)

-- a line that has a text and no more: its word, and the rest
pub pieces-line : {T E : Type 0} (r : Result T E) (old one next closing word number text : List ℕ)
    → one ≡ old ++ (closing ++ word)
    → OnOk r (next ≡ one ++ (number ++ (codes " \"" ++ text) ++ codes "\"\n"))
    → OnOk r (next ≡ old ++ (closing ++ ((word ++ number ++ codes " " ++ (codes "\"" ++ text ++ codes "\"")) ++ codes "\n")))
pieces-line r old one next closing word number text begun =
    on_ok_weaker r (λ (whole : next ≡ one ++ (number ++ (codes " \"" ++ text) ++ codes "\"\n")).
    pieces-more old one next (closing ++ word) _ begun whole ∙ ap (λ l. old ++ l) (simp append_assoc refl))

-- the line of a tag: its kind, its number and name, its attributes, and the rest
pub pieces-tag : {T E : Type 0} (r : Result T E) (old one two three next closing word number name listed attributes marks : List ℕ)
    → listed ++ codes "\"" ≡ codes "\"" ++ attributes
    → one ≡ old ++ (closing ++ word)
    → two ≡ one ++ (number ++ (codes " \"" ++ name))
    → three ≡ two ++ listed
    → OnOk r (next ≡ three ++ (codes "\"" ++ marks ++ codes "\n"))
    → OnOk r (next ≡ old ++ (closing ++ ((word ++ number ++ codes " " ++ (codes "\"" ++ name ++ codes "\"")) ++ attributes ++ marks ++ codes "\n")))
pieces-tag r old one two three next closing word number name listed attributes marks closed begun named more =
    let begins : List ℕ = (closing ++ word) ++ (number ++ (codes " \"" ++ name)) in
    let ends : List ℕ = codes "\"" ++ marks ++ codes "\n" in
    let front : three ≡ old ++ (begins ++ listed) =
    pieces-more old two three begins listed (pieces-more old one two (closing ++ word) (number ++ (codes " \"" ++ name)) begun named) more in
    let quotes : listed ++ ends ≡ (codes "\"" ++ attributes) ++ (marks ++ codes "\n") =
    ap (λ l. listed ++ l) (append_assoc (codes "\"") marks (codes "\n"))
    ∙ sym (append_assoc listed (codes "\"") (marks ++ codes "\n"))
    ∙ ap (λ l. l ++ (marks ++ codes "\n")) closed in
    let grouped : (begins ++ listed) ++ ends ≡ begins ++ ((codes "\"" ++ attributes) ++ (marks ++ codes "\n")) =
    append_assoc begins listed ends ∙ ap (λ l. begins ++ l) quotes in
    on_ok_weaker r (λ (whole : next ≡ three ++ ends).
    pieces-more old three next (begins ++ listed) ends front whole
    ∙ ap (λ l. old ++ l) (grouped ∙ simp append_assoc refl))
