-- That lines of tokens keep the laws of a sink.
use Rattle.std.specs.Prelude.{◌≡◌, ℕ, Bool, true, false, List, [], ◌∷◌, ◌++◌, codes, refl}
use Rattle.std.proofs.Common.{ap, sym, ◌∙◌}
use Rattle.std.proofs.lemmas.List.{append-nil, append_assoc}
use Rattle.html5ever_interface.specs.Token.{Told, is_tag}
use Rattle.html5ever_interface.specs.Token.Told.{Text, Tag}
use Rattle.html5ever_interface.specs.Token.Reply.{KeepOn}
use Rattle.html5extract.specs.TokenLines.{TokenReading, text_named, token_added, tokens_step}
use Rattle.html5programs.specs.Fronts.{in_front}
use Rattle.html5sinks.specs.Pausing.{pausing_reply}
use Rattle.token_printer.specs.Output.{added_by, added_by_text, open_after}
use Rattle.token_printer.specs.OutputLaws.{quoted_bytes-append}
use Rattle.token_printer.specs.Printed.{quoted_bytes}

-- what goes on in a line has no name in front
begun-named : (front bytes : List ℕ) → text_named front true bytes ≡ bytes
begun-named front [] = refl
begun-named front (byte ∷ bytes) = refl

text-joins : (front : List ℕ) (in_text : Bool) (x : ℕ) (xs : List ℕ) (y : ℕ) (ys : List ℕ)
    → text_named front in_text (added_by_text in_text (x ∷ xs)) ++ text_named front true (added_by_text true (y ∷ ys))
    ≡ text_named front in_text (added_by_text in_text (x ∷ xs ++ y ∷ ys))
unfolding added_by_text
text-joins front true x xs y ys =
    rw (begun-named front (quoted_bytes (x ∷ xs)), begun-named front (quoted_bytes (y ∷ ys)), begun-named front (quoted_bytes (x ∷ xs ++ y ∷ ys)))
    (sym (quoted_bytes-append (x ∷ xs) (y ∷ ys)))
text-joins front false x xs y ys =
    let opening : List ℕ = codes "text \"" in
    rw (begun-named front (quoted_bytes (y ∷ ys)))
    (append_assoc front (opening ++ quoted_bytes (x ∷ xs)) (quoted_bytes (y ∷ ys))
    ∙ ap (λ l. front ++ l) (append_assoc opening (quoted_bytes (x ∷ xs)) (quoted_bytes (y ∷ ys))
    ∙ ap (λ l. opening ++ l) (sym (quoted_bytes-append (x ∷ xs) (y ∷ ys)))))

-- two adjacent texts are printed as one
pub tokens_join : (s : TokenReading) (a b : List ℕ) (line : ℕ)
    → tokens_step (tokens_step s (Text a) line) (Text b) line ≡ tokens_step s (Text (a ++ b)) line
unfolding tokens_step token_added added_by open_after
tokens_join s [] b line = unfold added_by_text in rw (append-nil s.lines) refl
tokens_join s (x ∷ xs) [] line =
    unfold added_by_text in rw (append-nil xs, append-nil (s.lines ++ text_named (in_front s.front) s.in_text (added_by_text s.in_text (x ∷ xs)))) refl
tokens_join s (x ∷ xs) (y ∷ ys) line =
    let front : List ℕ = in_front s.front in
    ap (λ l. record s { lines = l; in_text = true })
    (append_assoc s.lines (text_named front s.in_text (added_by_text s.in_text (x ∷ xs))) (text_named front true (added_by_text true (y ∷ ys)))
    ∙ ap (λ l. s.lines ++ l) (text-joins front s.in_text x xs y ys))

pub tokens_empty : (s : TokenReading) (line : ℕ) → tokens_step s (Text []) line ≡ s
unfolding tokens_step token_added added_by added_by_text open_after
tokens_empty s line = rw (append-nil s.lines) refl

pub tokens_any_line : (s : TokenReading) (a : List ℕ) (line other : ℕ) → tokens_step s (Text a) line ≡ tokens_step s (Text a) other
unfolding tokens_step token_added added_by
tokens_any_line s a line other = refl

pub tokens_keep_on : (s : TokenReading) (told : Told) (line : ℕ) → is_tag told ≡ false → pausing_reply told ≡ KeepOn
tokens_keep_on s (Tag tag) line no_tag = absurd cc
tokens_keep_on s other line no_tag = refl
