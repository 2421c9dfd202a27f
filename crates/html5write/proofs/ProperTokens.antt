-- What a page tells except for errors is its pieces.
use Rattle.std.proofs.Common.{◌≡◌, ℕ, Bool, true, false, List, [], ◌∷◌, ◌++◌, refl, ap, sym, ◌∙◌}
use Rattle.std.specs.Prelude.{flat_map, map, codes, encode_utf8}
use Rattle.std.proofs.lemmas.List.{append-nil, append_assoc}
use Rattle.std.proofs.lemmas.List.Concat.{flat_map-append}
use Rattle.html5ever_interface.specs.Sink.{Message, on_line}
use Rattle.html5ever_interface.specs.Token.{Told}
use Rattle.html5ever_interface.specs.Token.Told.{Text, Error, End}
use Rattle.html5reading.specs.Characters.{greater_than}
use Rattle.html5reading.specs.ErrorText.{where_true, bad_character_error}
use Rattle.html5reading.specs.NormalisedText.{line_after, input_after}
use Rattle.html5reading.specs.Start.{Input}
use Rattle.html5grammar.specs.Spelled.{Spelled, spell_silent, spelled_messages}
use Rattle.html5write.specs.Escaped.{escaped}
use Rattle.html5write.specs.Pieces.{NameAndValue, Piece, piece_text}
use Rattle.html5write.specs.Pieces.Piece.{TextPiece, StartTagPiece, EndTagPiece, CommentPiece}
use Rattle.html5write.specs.Told.{return_error, character_told, text_messages, spell_first, spell_escaped, spell_attribute, spell_end, piece_messages, pieces_messages, proper_token, proper, piece_tokens, pieces_tokens}

-- ---- tokens that are errors alone

abbrev proper_tokens : List Told → List Told
proper_tokens tokens = flat_map proper_token tokens

abbrev AreErrors : List Told → Type 0
AreErrors tokens = proper_tokens tokens ≡ []

errors-append : (xs ys : List Told) → AreErrors xs → AreErrors ys → AreErrors (xs ++ ys)
errors-append xs ys f g = flat_map-append proper_token xs ys ∙ rw (f, g) refl

errors-where : (holds : Bool) (message : List ℕ) → AreErrors (where_true holds (Error message))
errors-where true message = refl
errors-where false message = refl

-- characters at which only errors are sent
abbrev TellErrors : List Spelled → Type 0
TellErrors [] = Unit {0}
TellErrors (here ∷ more) = AreErrors here.told × TellErrors more

tell-append : (xs ys : List Spelled) → TellErrors xs → TellErrors ys → TellErrors (xs ++ ys)
tell-append [] ys f g = g
tell-append (x ∷ xs) ys f g = (f.0, tell-append xs ys f.1 g)

tell-silent : (run : List ℕ) → TellErrors (spell_silent run)
tell-silent [] = tt
tell-silent (c ∷ run) = (refl, tell-silent run)

tell-first : (told : List Told) (run : List ℕ) → AreErrors told → TellErrors (spell_first told run)
tell-first told [] h = tt
tell-first told (c ∷ run) h = (h, tell-silent run)

tell-value : (exact : Bool) (value : List ℕ) → TellErrors (flat_map (spell_escaped exact) value)
unfolding spell_escaped
tell-value exact [] = tt
tell-value exact (c ∷ value) =
    tell-append (spell_escaped exact c) (flat_map (spell_escaped exact) value) (tell-first (return_error exact c) (escaped c) (errors-where _ _)) (tell-value exact value)

tell-attributes : (exact : Bool) (attributes : List NameAndValue) → TellErrors (flat_map (spell_attribute exact) attributes)
tell-attributes exact [] = tt
tell-attributes exact (a ∷ attributes) =
    tell-append (spell_attribute exact a) (flat_map (spell_attribute exact) attributes)
    (tell-append (spell_silent (codes " ")) _ (tell-silent (codes " "))
    (tell-append (spell_silent a.name) _ (tell-silent a.name)
    (tell-append (spell_silent (codes "=\"")) _ (tell-silent (codes "=\""))
    (tell-append (flat_map (spell_escaped exact) a.value) _ (tell-value exact a.value) (tell-silent (codes "\""))))))
    (tell-attributes exact attributes)

-- ---- messages

proper-append : (M N : List Message) → proper (M ++ N) ≡ proper M ++ proper N
unfolding proper
proper-append M N = flat_map-append (λ m. proper_token m.token) M N

proper-on_line : (line : ℕ) (tokens : List Told) → proper (on_line line tokens) ≡ proper_tokens tokens
unfolding proper
proper-on_line line [] = refl
proper-on_line line (token ∷ tokens) = ap (λ l. proper_token token ++ l) (proper-on_line line tokens)

-- characters that tell errors, and a `>` that tells a token
proper-cells : (exact : Bool) (input : Input) (before : List ℕ) (cells : List Spelled) (token : Told) → TellErrors cells
    → proper (spelled_messages exact input before (cells ++ spell_end token)) ≡ proper_token token
unfolding spelled_messages
proper-cells exact input before [] token h =
    let tokens : List Told = bad_character_error exact greater_than ++ token ∷ [] in
    let line : ℕ = line_after input (before ++ greater_than ∷ []) in
    ap proper (append-nil (on_line line tokens))
    ∙ proper-on_line line tokens
    ∙ flat_map-append proper_token (bad_character_error exact greater_than) (token ∷ [])
    ∙ ap (λ l. l ++ (proper_token token ++ [])) (errors-where _ _)
    ∙ append-nil (proper_token token)
proper-cells exact input before (here ∷ more) token h =
    let tokens : List Told = bad_character_error exact here.character ++ here.told in
    let line : ℕ = line_after input (before ++ here.character ∷ []) in
    let later : List Message = spelled_messages exact input (before ++ here.character ∷ []) (more ++ spell_end token) in
    proper-append (on_line line tokens) later
    ∙ ap (λ l. l ++ proper later) (proper-on_line line tokens ∙ errors-append (bad_character_error exact here.character) here.told (errors-where _ _) h.0)
    ∙ proper-cells exact input (before ++ here.character ∷ []) more token h.1

-- the same for cells in two groups, and in three
proper-two : (exact : Bool) (input : Input) (one two : List Spelled) (token : Told) → TellErrors one → TellErrors two
    → proper (spelled_messages exact input [] (one ++ (two ++ spell_end token))) ≡ proper_token token
proper-two exact input one two token f g =
    ap (λ l. proper (spelled_messages exact input [] l)) (sym (append_assoc one two (spell_end token)))
    ∙ proper-cells exact input [] (one ++ two) token (tell-append one two f g)

proper-three : (exact : Bool) (input : Input) (one two three : List Spelled) (token : Told) → TellErrors one → TellErrors two → TellErrors three
    → proper (spelled_messages exact input [] (one ++ (two ++ (three ++ spell_end token)))) ≡ proper_token token
proper-three exact input one two three token f g h =
    ap (λ l. proper (spelled_messages exact input [] (one ++ l))) (sym (append_assoc two three (spell_end token)))
    ∙ proper-two exact input one (two ++ three) token f (tell-append two three g h)

-- except for errors a text tells its characters
proper-text : (exact : Bool) (input : Input) (text : List ℕ) → proper (text_messages exact input text) ≡ map (λ c. Text (encode_utf8 c)) text
unfolding text_messages proper
proper-text exact input [] = refl
proper-text exact input (c ∷ text) =
    let line : ℕ = line_after input (escaped c) in
    let N : List Message = text_messages exact (input_after input (escaped c)) text in
    let own : proper_tokens (character_told exact c) ≡ Text (encode_utf8 c) ∷ [] =
    flat_map-append proper_token (bad_character_error exact c) (return_error exact c ++ Text (encode_utf8 c) ∷ [])
    ∙ ap (λ l. l ++ proper_tokens (return_error exact c ++ Text (encode_utf8 c) ∷ [])) (errors-where _ _)
    ∙ flat_map-append proper_token (return_error exact c) (Text (encode_utf8 c) ∷ [])
    ∙ ap (λ l. l ++ Text (encode_utf8 c) ∷ []) (errors-where _ _) in
    proper-append (on_line line (character_told exact c)) N
    ∙ ap (λ l. l ++ proper N) (proper-on_line line (character_told exact c) ∙ own)
    ∙ ap (λ l. Text (encode_utf8 c) ∷ l) (proper-text exact (input_after input (escaped c)) text)

proper-piece : (exact : Bool) (input : Input) (piece : Piece) → proper (piece_messages exact input piece) ≡ piece_tokens piece
proper-piece exact input (TextPiece text) = proper-text exact input text
proper-piece exact input (StartTagPiece name attributes) =
    proper-three exact input (spell_silent (codes "<")) (spell_silent name) (flat_map (spell_attribute exact) attributes) _ (tell-silent (codes "<")) (tell-silent name) (tell-attributes exact attributes)
proper-piece exact input (EndTagPiece name) = proper-two exact input (spell_silent (codes "</")) (spell_silent name) _ (tell-silent (codes "</")) (tell-silent name)
proper-piece exact input (CommentPiece text) =
    proper-three exact input (spell_silent (codes "<!--")) (spell_silent text) (spell_silent (codes "--")) _ (tell-silent (codes "<!--")) (tell-silent text) (tell-silent (codes "--"))

proper-written : (exact : Bool) (input : Input) (pieces : List Piece) → proper (pieces_messages exact input pieces) ≡ pieces_tokens pieces
unfolding pieces_messages proper
proper-written exact input [] = refl
proper-written exact input (piece ∷ pieces) =
    let N : List Message = pieces_messages exact (input_after input (piece_text piece)) pieces in
    proper-append (piece_messages exact input piece) N
    ∙ ap (λ l. l ++ proper N) (proper-piece exact input piece)
    ∙ ap (λ l. piece_tokens piece ++ l) (proper-written exact (input_after input (piece_text piece)) pieces)

pub proper-whole : (exact : Bool) (input : Input) (pieces : List Piece) (line : ℕ) → proper (pieces_messages exact input pieces ++ on_line line (End ∷ [])) ≡ pieces_tokens pieces ++ End ∷ []
unfolding proper
proper-whole exact input pieces line =
    proper-append (pieces_messages exact input pieces) (on_line line (End ∷ []))
    ∙ ap (λ l. l ++ End ∷ []) (proper-written exact input pieces)
