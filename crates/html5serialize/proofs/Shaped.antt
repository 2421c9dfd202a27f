-- What is known of the tokens of a page by their form: all that they have to be written, except for texts and for attributes
-- that are told apart. Tags are let in or not.
use Rattle.std.proofs.Common.{◌≡◌, ℕ, Bool, true, false, List, [], ◌∷◌, ◌++◌, refl, ap, ◌∙◌}
use Rattle.std.specs.Prelude.{◌&&◌}
use Rattle.std.specs.List.{list_all}
use Rattle.std.proofs.lemmas.Bool.{and_parts, false≢true}
use Rattle.std.proofs.lemmas.List.Folds.{list_all-append}
use Rattle.html5ever_interface.specs.Sink.{Message, on_line}
use Rattle.html5ever_interface.specs.Token.{Told}
use Rattle.html5ever_interface.specs.Token.Told.{Text, Null, Error, Tag, Comment, Instruction, Doctype, End}
use Rattle.html5reading.specs.ErrorText.{bad_character_error, where_true}
use Rattle.html5reading.specs.NormalisedText.{line_after}
use Rattle.html5reading.specs.RawText.{texts}
use Rattle.html5reading.specs.Start.{Input}
use Rattle.html5grammar.specs.Spelled.{Spelled, spell, spell_silent, spelled_messages}
use Rattle.html5serialize.specs.Doctypes.{is_doctype, is_markup_character}
use Rattle.html5serialize.specs.Tags.{is_attribute}
use Rattle.html5serialize.specs.Tokens.{is_comment_text}
use Rattle.html5serialize.proofs.Errors.{AreErrors}
use Rattle.html5write.specs.Pieces.{is_tag_name}
use Rattle.html5write.specs.Told.{proper_token, proper}

module _ (tags : Bool) where
  abbrev pub is_shaped : Told → Bool
  is_shaped (Tag tag) = tags && (is_tag_name tag.name && list_all is_attribute tag.attributes)
  is_shaped (Comment text) = is_comment_text text
  is_shaped (Instruction content) = list_all is_markup_character content
  is_shaped (Doctype d) = is_doctype d
  is_shaped other = true

  abbrev pub AreShaped : List Told → Type 0
  AreShaped tokens = list_all is_shaped tokens ≡ true

  abbrev pub Shaped : List Message → Type 0
  Shaped M = list_all (λ (m : Message). is_shaped m.token) M ≡ true

  -- characters of which each tells such tokens
  abbrev pub CellsShaped : List Spelled → Type 0
  CellsShaped [] = Unit {0}
  CellsShaped (here ∷ more) = AreShaped here.told × CellsShaped more

  -- ---- tokens

  pub are-append : (xs ys : List Told) → AreShaped xs → AreShaped ys → AreShaped (xs ++ ys)
  are-append xs ys f g = list_all-append is_shaped xs ys ∙ rw (f, g) refl

  pub are-where : (holds : Bool) (message : List ℕ) → AreShaped (where_true holds (Error message))
  are-where true message = refl
  are-where false message = refl

  pub are-texts : (run : List ℕ) → AreShaped (texts run)
  are-texts [] = refl
  are-texts (c ∷ run) = are-texts run

  nil_not_cons : (token : Told) (tokens : List Told) (P : Type 0) → (token ∷ tokens) ≡ [] → P
  nil_not_cons token tokens P e = absurd (false≢true (ap is_nil e))
    where
      is_nil : List Told → Bool
      is_nil [] = true
      is_nil (x ∷ xs) = false

  pub are-errors : (tokens : List Told) → AreErrors tokens → AreShaped tokens
  are-errors [] h = refl
  are-errors (Error message ∷ tokens) h = are-errors tokens h
  are-errors (Text text ∷ tokens) h = nil_not_cons _ _ _ h
  are-errors (Null ∷ tokens) h = nil_not_cons _ _ _ h
  are-errors (Tag tag ∷ tokens) h = nil_not_cons _ _ _ h
  are-errors (Comment text ∷ tokens) h = nil_not_cons _ _ _ h
  are-errors (Instruction content ∷ tokens) h = nil_not_cons _ _ _ h
  are-errors (Doctype d ∷ tokens) h = nil_not_cons _ _ _ h
  are-errors (End ∷ tokens) h = nil_not_cons _ _ _ h

  -- a token, of which nothing is left where it is an error, and others
  pub proper-parts : (token : Told) (tokens : List Told) → AreShaped (proper_token token ++ tokens) → (is_shaped token ≡ true) × AreShaped tokens
  proper-parts (Error message) tokens h = (refl, h)
  proper-parts (Text text) tokens h = (refl, h)
  proper-parts Null tokens h = (refl, h)
  proper-parts End tokens h = (refl, h)
  proper-parts (Tag tag) tokens h = and_parts (is_shaped (Tag tag)) (list_all is_shaped tokens) h
  proper-parts (Comment text) tokens h = and_parts (is_shaped (Comment text)) (list_all is_shaped tokens) h
  proper-parts (Instruction content) tokens h = and_parts (is_shaped (Instruction content)) (list_all is_shaped tokens) h
  proper-parts (Doctype d) tokens h = and_parts (is_shaped (Doctype d)) (list_all is_shaped tokens) h

  -- ---- messages

  pub shaped-append : (M N : List Message) → Shaped M → Shaped N → Shaped (M ++ N)
  shaped-append M N f g = list_all-append (λ (m : Message). is_shaped m.token) M N ∙ rw (f, g) refl

  pub shaped-on_line : (line : ℕ) (tokens : List Told) → AreShaped tokens → Shaped (on_line line tokens)
  shaped-on_line line [] h = refl
  shaped-on_line line (token ∷ tokens) h =
      let p = and_parts (is_shaped token) (list_all is_shaped tokens) h in
      rw (p.0) (shaped-on_line line tokens p.1)

  pub shaped-spelled : (exact : Bool) (input : Input) (before : List ℕ) (cells : List Spelled) → CellsShaped cells → Shaped (spelled_messages exact input before cells)
  unfolding spelled_messages
  shaped-spelled exact input before [] h = refl
  shaped-spelled exact input before (here ∷ more) h =
      shaped-append (on_line (line_after input (before ++ here.character ∷ [])) (bad_character_error exact here.character ++ here.told)) _
      (shaped-on_line (line_after input (before ++ here.character ∷ [])) (bad_character_error exact here.character ++ here.told)
      (are-append (bad_character_error exact here.character) here.told (are-where _ _) h.0))
      (shaped-spelled exact input (before ++ here.character ∷ []) more h.1)

  -- messages are, if their tokens except for errors are
  pub shaped-proper : (M : List Message) → AreShaped (proper M) → Shaped M
  unfolding proper
  shaped-proper [] h = refl
  shaped-proper (m ∷ M) h =
      let parts : (token : Told) → AreShaped (proper_token token ++ proper M) → (is_shaped token ≡ true) × AreShaped (proper M) = λ token. proper-parts token (proper M) in
      let p = parts m.token h in
      rw (p.0) (shaped-proper M p.1)

  -- ---- characters

  pub cells-append : (xs ys : List Spelled) → CellsShaped xs → CellsShaped ys → CellsShaped (xs ++ ys)
  cells-append [] ys f g = g
  cells-append (x ∷ xs) ys f g = (f.0, cells-append xs ys f.1 g)

  pub cells-spell : (tells : ℕ → List Told) → ((c : ℕ) → AreShaped (tells c)) → (run : List ℕ) → CellsShaped (spell tells run)
  cells-spell tells h [] = tt
  cells-spell tells h (c ∷ run) = (h c, cells-spell tells h run)

  pub cells-silent : (run : List ℕ) → CellsShaped (spell_silent run)
  cells-silent run = cells-spell (λ c. []) (λ c. refl) run
