-- What a collector keeps of messages that tell no text: all, one by one.
use Rattle.std.proofs.Common.{◌≡◌, ℕ, Bool, true, false, List, [], ◌∷◌, ◌++◌, refl, ◌∙◌, ap}
use Rattle.std.specs.Prelude.{None}
use Rattle.std.proofs.lemmas.List.{append_assoc, append-nil}
use Rattle.html5ever_interface.proofs.Steppings.{stepped-append}
use Rattle.html5ever_interface.specs.Collected.{Collected, told_text, with_message, collected_step}
use Rattle.html5ever_interface.specs.Sink.{Message, stepped, on_line}
use Rattle.html5ever_interface.specs.Token.{Told}
use Rattle.html5ever_interface.specs.Token.Told.{Error}
use Rattle.html5reading.specs.ErrorText.{where_true, bad_character_error}
use Rattle.html5reading.specs.NormalisedText.{line_after}
use Rattle.html5grammar.specs.Spelled.{Spelled, spell, spell_silent, spelled_messages}
use Rattle.html5reading.specs.Start.{Input}
use Rattle.html5reading.specs.Slice.{silent}

-- ---- tokens without a text

abbrev pub HasNoText : List Told → Type 0
HasNoText [] = Unit {0}
HasNoText (token ∷ tokens) = (told_text token ≡ None) × HasNoText tokens

pub HasNoText-append : (xs ys : List Told) → HasNoText xs → HasNoText ys → HasNoText (xs ++ ys)
HasNoText-append [] ys f g = g
HasNoText-append (x ∷ xs) ys f g = (f.0, HasNoText-append xs ys f.1 g)

pub HasNoText-where : (holds : Bool) (message : List ℕ) → HasNoText (where_true holds (Error message))
HasNoText-where true message = (refl, tt)
HasNoText-where false message = tt

abbrev pub TellNoText : List Spelled → Type 0
TellNoText [] = Unit {0}
TellNoText (here ∷ more) = HasNoText here.told × TellNoText more

pub TellNoText-append : (xs ys : List Spelled) → TellNoText xs → TellNoText ys → TellNoText (xs ++ ys)
TellNoText-append [] ys f g = g
TellNoText-append (x ∷ xs) ys f g = (f.0, TellNoText-append xs ys f.1 g)

pub TellNoText-spell : (tells : ℕ → List Told) → ((c : ℕ) → HasNoText (tells c)) → (run : List ℕ) → TellNoText (spell tells run)
TellNoText-spell tells h [] = tt
TellNoText-spell tells h (c ∷ run) = (h c, TellNoText-spell tells h run)

pub TellNoText-silent : (run : List ℕ) → TellNoText (spell_silent run)
TellNoText-silent run = TellNoText-spell silent (λ c. tt) run

-- ---- a collector keeps them

collected-token : (c : Collected) (token : Told) (line : ℕ) → told_text token ≡ None
    → collected_step c token line ≡ record c { messages = c.messages ++ record { token = token; line = line } ∷ [] }
unfolding with_message
collected-token c token line h = rw h refl

pub collected-on_line : (c : Collected) (line : ℕ) (tokens : List Told) → HasNoText tokens
    → stepped collected_step c (on_line line tokens) ≡ record c { messages = c.messages ++ on_line line tokens }
unfolding stepped
collected-on_line c line [] h = rw append-nil refl
collected-on_line c line (token ∷ tokens) h =
    ap (λ d. stepped collected_step d (on_line line tokens)) (collected-token c token line h.0)
    ∙ (collected-on_line (record c { messages = c.messages ++ record { token = token; line = line } ∷ [] }) line tokens h.1
    ∙ rw (append_assoc c.messages (record { token = token; line = line } ∷ []) (on_line line tokens)) refl)

-- a collector keeps messages without text as they are
pub collected-spelled_messages : (exact : Bool) (input : Input) (before : List ℕ) (c : Collected) (cells : List Spelled) → TellNoText cells
    → stepped collected_step c (spelled_messages exact input before cells) ≡ record c { messages = c.messages ++ spelled_messages exact input before cells }
unfolding spelled_messages stepped
collected-spelled_messages exact input before c [] h = rw append-nil refl
collected-spelled_messages exact input before c (here ∷ more) h =
    let line : ℕ = line_after input (before ++ here.character ∷ []) in
    let tokens : List Told = bad_character_error exact here.character ++ here.told in
    let M : List Message = on_line line tokens in
    let N : List Message = spelled_messages exact input (before ++ here.character ∷ []) more in
    stepped-append collected_step c M N
    ∙ rw (collected-on_line c line tokens (HasNoText-append (bad_character_error exact here.character) here.told (HasNoText-where _ _) h.0))
    (collected-spelled_messages exact input (before ++ here.character ∷ []) (record c { messages = c.messages ++ M }) more h.1
    ∙ rw (append_assoc c.messages M N) refl)

-- a collector keeps these messages one by one
abbrev pub KeepsAll : List Message → Type 0
KeepsAll M = (c : Collected) → stepped collected_step c M ≡ record c { messages = c.messages ++ M }

pub keeps-append : (M N : List Message) → KeepsAll M → KeepsAll N → KeepsAll (M ++ N)
keeps-append M N f g c =
    stepped-append collected_step c M N
    ∙ rw (f c) (g (record c { messages = c.messages ++ M }) ∙ rw (append_assoc c.messages M N) refl)
