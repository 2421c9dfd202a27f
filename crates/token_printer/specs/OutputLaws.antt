-- That an output keeps the laws of a sink.
use Rattle.std.specs.Prelude.{◌≡◌, ℕ, false, List, [], ◌∷◌, ◌++◌, true, refl}
use Rattle.std.proofs.Common.{ap, sym, ◌∙◌}
use Rattle.std.proofs.lemmas.List.{append-nil, append_assoc}
use Rattle.std.proofs.lemmas.List.Concat.{flat_map-append}
use Rattle.token_printer.specs.Output.{Output, text_opening, added_by_text, added_by, open_after, output_step, output_reply}
use Rattle.token_printer.specs.Printed.{quoted_byte, quoted_bytes}
use Rattle.html5ever_interface.specs.Token.{Told, is_tag}
use Rattle.html5ever_interface.specs.Token.Told.{Text, Tag}
use Rattle.html5ever_interface.specs.Token.Reply.{KeepOn}

pub quoted_bytes-append : (a b : List ℕ) → quoted_bytes (a ++ b) ≡ quoted_bytes a ++ quoted_bytes b
unfolding quoted_bytes
quoted_bytes-append a b = flat_map-append quoted_byte a b

-- two adjacent texts are printed as one
pub output_joins : (p : Output) (a b : List ℕ) (line : ℕ)
    → output_step (output_step p (Text a) line) (Text b) line ≡ output_step p (Text (a ++ b)) line
unfolding output_step added_by added_by_text open_after
output_joins p [] b line = rw (append-nil p.lines) refl
output_joins p (x ∷ xs) [] line = rw (append-nil xs, append-nil (p.lines ++ (text_opening p.in_text ++ quoted_bytes (x ∷ xs)))) refl
output_joins p (x ∷ xs) (y ∷ ys) line =
    let opening : List ℕ = text_opening p.in_text in
    let bytes : (p.lines ++ (opening ++ quoted_bytes (x ∷ xs))) ++ quoted_bytes (y ∷ ys) ≡ p.lines ++ (opening ++ quoted_bytes (x ∷ xs ++ y ∷ ys)) =
    append_assoc p.lines (opening ++ quoted_bytes (x ∷ xs)) (quoted_bytes (y ∷ ys))
    ∙ ap (λ l. p.lines ++ l) (append_assoc opening (quoted_bytes (x ∷ xs)) (quoted_bytes (y ∷ ys)) ∙ ap (λ l. opening ++ l) (sym (quoted_bytes-append (x ∷ xs) (y ∷ ys)))) in
    ap (λ l. record p { lines = l; in_text = true }) bytes

pub output_empty : (p : Output) (line : ℕ) → output_step p (Text []) line ≡ p
unfolding output_step added_by added_by_text open_after
output_empty p line = rw (append-nil p.lines) refl

pub output_any_line : (p : Output) (a : List ℕ) (line other : ℕ) → output_step p (Text a) line ≡ output_step p (Text a) other
unfolding output_step added_by
output_any_line p a line other = refl

pub output_keeps_on : (p : Output) (told : Told) (line : ℕ) → is_tag told ≡ false → output_reply p told line ≡ KeepOn
output_keeps_on p (Tag tag) line no_tag = absurd cc
output_keeps_on p other line no_tag = refl
