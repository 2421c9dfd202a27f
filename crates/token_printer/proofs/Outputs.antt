-- What an output reads that was sent messages.
use Rattle.std.proofs.Common.{◌≡◌, ℕ, Bool, true, false, List, [], ◌∷◌, ◌++◌, refl, ap, sym, ◌∙◌, codes}
use Rattle.std.proofs.lemmas.List.{append-nil, append_assoc}
use Rattle.token_printer.specs.Output.{Output, text_opening, text_closing, added_by_text, added_by, open_after, output_step}
use Rattle.token_printer.specs.OutputLaws.{quoted_bytes-append}
use Rattle.token_printer.specs.Printed.{quoted_bytes, quoted, printed_line, told_text, first_text, after_first_text, joined_first, joined, printed_lines, printed}
use Rattle.html5ever_interface.proofs.Steppings.{stepped-append}
use Rattle.html5ever_interface.specs.Sink.{Message, stepped}
use Rattle.html5ever_interface.specs.Token.{is_text, Told}
use Rattle.html5ever_interface.specs.Token.Told.{Text, End}

-- what joined messages add to an output, where `in_text` says that a text is open
unfoldable pub added : Bool → List Message → List ℕ
added false M = printed_lines M
added true M = quoted_bytes (first_text M) ++ (codes "\"\n" ++ printed_lines (after_first_text M))

-- the bytes of an output once its text is closed
unfoldable pub closed_lines : Output → List ℕ
closed_lines p = p.lines ++ text_closing p.in_text

-- a token that is not text closes an open one
added-other : (in_text : Bool) (m : Message) (M : List Message) → is_text m.token ≡ false → told_text m.token ≡ []
    → added in_text (m ∷ M) ≡ text_closing in_text ++ (printed_line m.token m.line ++ added false M)
unfolding added printed_lines first_text after_first_text quoted_bytes
added-other false m M other none = refl
added-other true m M other none = rw (other, none) refl

regrouped : (a b c d e : List ℕ) → (((a ++ b) ++ c) ++ d) ++ e ≡ a ++ (b ++ (c ++ (d ++ e)))
regrouped a b c d e = simp append_assoc

-- a text goes on an open one
added-text : (in_text : Bool) (b : ℕ) (bs : List ℕ) (line : ℕ) (M : List Message)
    → added in_text (record { token = Text ((b ∷ bs) ++ first_text M); line = line } ∷ after_first_text M)
    ≡ text_opening in_text ++ (quoted_bytes (b ∷ bs) ++ added true M)
unfolding added printed_lines printed_line quoted first_text after_first_text
added-text true b bs line M =
    rw (quoted_bytes-append (b ∷ bs) (first_text M)) (append_assoc (quoted_bytes (b ∷ bs)) (quoted_bytes (first_text M)) (codes "\"\n" ++ printed_lines (after_first_text M)))
added-text false b bs line M =
    ap (λ l. codes "text \"" ++ (((l ++ codes "\"") ++ codes "\n") ++ printed_lines (after_first_text M))) (quoted_bytes-append (b ∷ bs) (first_text M))
    ∙ ap (λ l. codes "text \"" ++ l) (regrouped (quoted_bytes (b ∷ bs)) (quoted_bytes (first_text M)) (codes "\"") (codes "\n") (printed_lines (after_first_text M)))

regrouped-after : (a b c d e : List ℕ) → e ≡ b ++ (c ++ d) → (a ++ (b ++ c)) ++ d ≡ a ++ e
regrouped-after a b c d e h = rw h (simp append_assoc)

closed-added : (p : Output) (token : Told) (line : ℕ) (M : List Message) → is_text token ≡ false → told_text token ≡ []
    → (p.lines ++ (text_closing p.in_text ++ printed_line token line)) ++ added false M
    ≡ p.lines ++ added p.in_text (record { token = token; line = line } ∷ M)
closed-added p token line M other none =
    regrouped-after p.lines (text_closing p.in_text) (printed_line token line) (added false M) _
    (added-other p.in_text (record { token = token; line = line }) M other none)

-- one token
step-added : (p : Output) (token : Told) (line : ℕ) (M : List Message)
    → (output_step p token line).lines ++ added (output_step p token line).in_text M ≡ p.lines ++ added p.in_text (joined_first token line M)
unfolding output_step added_by added_by_text open_after joined_first
step-added p (Text []) line M = rw (append-nil p.lines) refl
step-added p (Text (b ∷ bs)) line M =
    regrouped-after p.lines (text_opening p.in_text) (quoted_bytes (b ∷ bs)) (added true M) _ (added-text p.in_text b bs line M)
step-added p other line M = closed-added p other line M refl refl

added-nil : (in_text : Bool) → text_closing in_text ≡ added in_text []
unfolding added printed_lines first_text after_first_text quoted_bytes
added-nil true = refl
added-nil false = refl

stepped-added : (p : Output) (M : List Message) → closed_lines (stepped output_step p M) ≡ p.lines ++ added p.in_text (joined M)
unfolding stepped joined closed_lines
stepped-added p [] = ap (λ l. p.lines ++ l) (added-nil p.in_text)
stepped-added p (m ∷ M) = stepped-added (output_step p m.token m.line) M ∙ step-added p m.token m.line (joined M)

-- an output with no open text that is sent all of M, and whose text is closed then, has the lines of M
pub closed_lines-stepped : (p : Output) (M : List Message) → p.in_text ≡ false
    → closed_lines (stepped output_step p M) ≡ p.lines ++ printed M
unfolding printed added
closed_lines-stepped p M closed = stepped-added p M ∙ ap (λ in_text. p.lines ++ added in_text (joined M)) closed

in_text-stepped : (p : Output) (N : List Message) (line : ℕ)
    → (stepped output_step p (N ++ record { token = End; line = line } ∷ [])).in_text ≡ false
unfolding stepped output_step open_after
in_text-stepped p N line =
    ap (λ (q : Output). q.in_text) (stepped-append output_step p N (record { token = End; line = line } ∷ []))

-- where the messages end with the end, no text stays open
pub lines-stepped : (p : Output) (M N : List Message) (line : ℕ) → p.in_text ≡ false
    → M ≡ N ++ record { token = End; line = line } ∷ []
    → (stepped output_step p M).lines ≡ p.lines ++ printed M
unfolding closed_lines
lines-stepped p M N line closed ends =
    let ended : (stepped output_step p M).in_text ≡ false = rw ends (in_text-stepped p N line) in
    sym (append-nil (stepped output_step p M).lines)
    ∙ ap (λ in_text. (stepped output_step p M).lines ++ text_closing in_text) (sym ended)
    ∙ closed_lines-stepped p M closed
