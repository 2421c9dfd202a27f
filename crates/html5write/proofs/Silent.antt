-- A page without CR tells its pieces and no error, where errors are not exact.
use Rattle.std.proofs.Common.{◌≡◌, ℕ, Bool, true, false, List, [], ◌∷◌, ◌++◌, refl, ap, sym, ◌∙◌}
use Rattle.std.specs.Prelude.{◌==◌, not, flat_map, map, codes, encode_utf8}
use Rattle.std.specs.List.{list_all}
use Rattle.std.proofs.lemmas.Bool.{and_parts, not-true}
use Rattle.std.proofs.lemmas.List.{append_assoc, map-append}
use Rattle.html5ever_interface.specs.Sink.{Message, on_line}
use Rattle.html5ever_interface.specs.Token.{Told}
use Rattle.html5ever_interface.specs.Token.Told.{Text, End}
use Rattle.html5reading.specs.Characters.{carriage_return}
use Rattle.html5reading.specs.NormalisedText.{line_after, input_after}
use Rattle.html5reading.specs.Start.{Input}
use Rattle.html5grammar.specs.Spelled.{Spelled, spell_silent, spelled_messages}
use Rattle.html5write.specs.Escaped.{escaped}
use Rattle.html5write.specs.Pieces.{NameAndValue, Piece, piece_text}
use Rattle.html5write.specs.Pieces.Piece.{TextPiece, StartTagPiece, EndTagPiece, CommentPiece}
use Rattle.html5write.specs.Told.{has_no_return, is_without_return, tokens_of, return_error, character_told, text_messages, spell_first, spell_escaped, spell_attribute, spell_end, piece_messages, pieces_messages, piece_tokens, pieces_tokens}

-- characters at which nothing is sent
abbrev TellNothing : List Spelled → Type 0
TellNothing [] = Unit {0}
TellNothing (here ∷ more) = (here.told ≡ []) × TellNothing more

nothing-append : (xs ys : List Spelled) → TellNothing xs → TellNothing ys → TellNothing (xs ++ ys)
nothing-append [] ys f g = g
nothing-append (x ∷ xs) ys f g = (f.0, nothing-append xs ys f.1 g)

nothing-silent : (run : List ℕ) → TellNothing (spell_silent run)
nothing-silent [] = tt
nothing-silent (c ∷ run) = (refl, nothing-silent run)

nothing-first : (told : List Told) (run : List ℕ) → told ≡ [] → TellNothing (spell_first told run)
nothing-first told [] h = tt
nothing-first told (c ∷ run) h = (h, nothing-silent run)

no_error : (c : ℕ) → (c == carriage_return) ≡ false → return_error false c ≡ []
no_error c h = rw h refl

nothing-value : (value : List ℕ) → has_no_return value ≡ true → TellNothing (flat_map (spell_escaped false) value)
unfolding spell_escaped
nothing-value [] h = tt
nothing-value (c ∷ value) h =
    let p = and_parts (not (c == carriage_return)) (has_no_return value) h in
    nothing-append (spell_escaped false c) (flat_map (spell_escaped false) value)
    (nothing-first (return_error false c) (escaped c) (no_error c (not-true (c == carriage_return) p.0))) (nothing-value value p.1)

nothing-attributes : (attributes : List NameAndValue) → list_all (λ (a : NameAndValue). has_no_return a.value) attributes ≡ true → TellNothing (flat_map (spell_attribute false) attributes)
nothing-attributes [] h = tt
nothing-attributes (a ∷ attributes) h =
    let p = and_parts (has_no_return a.value) (list_all (λ (b : NameAndValue). has_no_return b.value) attributes) h in
    nothing-append (spell_attribute false a) (flat_map (spell_attribute false) attributes)
    (nothing-append (spell_silent (codes " ")) _ (nothing-silent (codes " "))
    (nothing-append (spell_silent a.name) _ (nothing-silent a.name)
    (nothing-append (spell_silent (codes "=\"")) _ (nothing-silent (codes "=\""))
    (nothing-append (flat_map (spell_escaped false) a.value) _ (nothing-value a.value p.0) (nothing-silent (codes "\""))))))
    (nothing-attributes attributes p.1)

-- ---- messages

tokens-append : (M N : List Message) → tokens_of (M ++ N) ≡ tokens_of M ++ tokens_of N
tokens-append M N = map-append (λ (m : Message). m.token) M N

tokens-on_line : (line : ℕ) (tokens : List Told) → tokens_of (on_line line tokens) ≡ tokens
tokens-on_line line [] = refl
tokens-on_line line (token ∷ tokens) = ap (λ l. token ∷ l) (tokens-on_line line tokens)

tokens-cells : (input : Input) (before : List ℕ) (cells : List Spelled) (token : Told) → TellNothing cells
    → tokens_of (spelled_messages false input before (cells ++ spell_end token)) ≡ token ∷ []
unfolding spelled_messages
tokens-cells input before [] token h = refl
tokens-cells input before (here ∷ more) token h =
    ap (λ told. tokens_of (on_line (line_after input (before ++ here.character ∷ [])) told ++ spelled_messages false input (before ++ here.character ∷ []) (more ++ spell_end token))) h.0
    ∙ tokens-cells input (before ++ here.character ∷ []) more token h.1

tokens-two : (input : Input) (one two : List Spelled) (token : Told) → TellNothing one → TellNothing two
    → tokens_of (spelled_messages false input [] (one ++ (two ++ spell_end token))) ≡ token ∷ []
tokens-two input one two token f g =
    ap (λ l. tokens_of (spelled_messages false input [] l)) (sym (append_assoc one two (spell_end token)))
    ∙ tokens-cells input [] (one ++ two) token (nothing-append one two f g)

tokens-three : (input : Input) (one two three : List Spelled) (token : Told) → TellNothing one → TellNothing two → TellNothing three
    → tokens_of (spelled_messages false input [] (one ++ (two ++ (three ++ spell_end token)))) ≡ token ∷ []
tokens-three input one two three token f g h =
    ap (λ l. tokens_of (spelled_messages false input [] (one ++ l))) (sym (append_assoc two three (spell_end token)))
    ∙ tokens-two input one (two ++ three) token f (nothing-append two three g h)

tokens-text : (input : Input) (text : List ℕ) → has_no_return text ≡ true → tokens_of (text_messages false input text) ≡ map (λ c. Text (encode_utf8 c)) text
unfolding text_messages
tokens-text input [] h = refl
tokens-text input (c ∷ text) h =
    let p = and_parts (not (c == carriage_return)) (has_no_return text) h in
    let line : ℕ = line_after input (escaped c) in
    let N : List Message = text_messages false (input_after input (escaped c)) text in
    tokens-append (on_line line (character_told false c)) N
    ∙ ap (λ l. l ++ tokens_of N) (tokens-on_line line (character_told false c) ∙ ap (λ l. l ++ Text (encode_utf8 c) ∷ []) (no_error c (not-true (c == carriage_return) p.0)))
    ∙ ap (λ l. Text (encode_utf8 c) ∷ l) (tokens-text (input_after input (escaped c)) text p.1)

tokens-piece : (input : Input) (piece : Piece) → is_without_return piece ≡ true → tokens_of (piece_messages false input piece) ≡ piece_tokens piece
tokens-piece input (TextPiece text) h = tokens-text input text h
tokens-piece input (StartTagPiece name attributes) h =
    tokens-three input (spell_silent (codes "<")) (spell_silent name) (flat_map (spell_attribute false) attributes) _ (nothing-silent (codes "<")) (nothing-silent name) (nothing-attributes attributes h)
tokens-piece input (EndTagPiece name) h = tokens-two input (spell_silent (codes "</")) (spell_silent name) _ (nothing-silent (codes "</")) (nothing-silent name)
tokens-piece input (CommentPiece text) h =
    tokens-three input (spell_silent (codes "<!--")) (spell_silent text) (spell_silent (codes "--")) _ (nothing-silent (codes "<!--")) (nothing-silent text) (nothing-silent (codes "--"))

tokens-written : (input : Input) (pieces : List Piece) → list_all is_without_return pieces ≡ true → tokens_of (pieces_messages false input pieces) ≡ pieces_tokens pieces
unfolding pieces_messages
tokens-written input [] h = refl
tokens-written input (piece ∷ pieces) h =
    let p = and_parts (is_without_return piece) (list_all is_without_return pieces) h in
    let N : List Message = pieces_messages false (input_after input (piece_text piece)) pieces in
    tokens-append (piece_messages false input piece) N
    ∙ ap (λ l. l ++ tokens_of N) (tokens-piece input piece p.0)
    ∙ ap (λ l. piece_tokens piece ++ l) (tokens-written (input_after input (piece_text piece)) pieces p.1)

pub tokens-whole : (exact : Bool) (input : Input) (pieces : List Piece) (line : ℕ) → exact ≡ false → list_all is_without_return pieces ≡ true
    → tokens_of (pieces_messages exact input pieces ++ on_line line (End ∷ [])) ≡ pieces_tokens pieces ++ End ∷ []
tokens-whole exact input pieces line quiet h =
    ap (λ e. tokens_of (pieces_messages e input pieces ++ on_line line (End ∷ []))) quiet
    ∙ tokens-append (pieces_messages false input pieces) (on_line line (End ∷ []))
    ∙ ap (λ l. l ++ End ∷ []) (tokens-written input pieces h)
