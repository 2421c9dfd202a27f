-- A collector joins the characters of a reference to one text, after its errors.
use Rattle.std.proofs.Common.{◌≡◌, ℕ, Bool, true, false, cond, List, [], ◌∷◌, ◌++◌, map, Some, refl, ap, sym, ◌∙◌, ltb, ◌+◌, ◌/◌}
use Rattle.std.specs.Prelude.{not, codes, encode_utf8, encode_utf8_all}
use Rattle.std.proofs.lemmas.List.{append-nil, append_assoc, map-append}
use lib.Utf8.{encode, next}
use Rattle.html5ever_interface.proofs.Steppings.{stepped-append}
use Rattle.html5ever_interface.specs.Collected.{Collected, kept_text, from_first_with_text, with_text, with_message, none_collected, collected_step, collected_reply, collected_finish}
use Rattle.html5ever_interface.specs.Sink.{Message, stepped, on_line}
use Rattle.html5ever_interface.specs.Token.{Told}
use Rattle.html5ever_interface.specs.Token.Told.{Text, Error, End}
use Rattle.html5reading.specs.Characters.{ampersand}
use Rattle.html5reading.specs.ErrorText.{where_true}
use Rattle.html5reading.specs.NormalisedText.{line_after}
use Rattle.html5grammar.specs.Reference.{WrittenReference, written, value_of, reference_errors, reference_characters, reference_tokens, reference_messages, IsReference}
use Rattle.html5grammar.specs.Reference.WrittenReference.{Ampersand, Number, Named}
use Rattle.html5reading.specs.Reading.{reading, messages}
use Rattle.html5reading.specs.Reference.{is_ended, is_invalid_number, invalid_number, character_of_number, second_of}
use Rattle.html5reading.specs.Start.{Input, Start, Rules}
use Rattle.html5grammar.proofs.Reference.Reading.{reading-reference}
use Rattle.html5grammar.proofs.Collected.{HasNoText, HasNoText-append, HasNoText-where, collected-on_line}
use Rattle.markup5ever.specs.NamedReferences.{IsTable}

-- ---- texts after messages

-- a text after messages without one
from_first-after : (line : ℕ) (token : Told) (tokens : List Told) (text : List ℕ) → HasNoText (token ∷ tokens)
    → from_first_with_text (record { token = token; line = line }) (on_line line tokens) text ≡ on_line line (token ∷ tokens) ++ kept_text text ∷ []
unfolding from_first_with_text
from_first-after line token [] text none = rw (none.0) refl
from_first-after line token (next ∷ tokens) text none =
    ap (λ l. record { token = token; line = line } ∷ l) (from_first-after line next tokens text none.1)

with_text-after : (line : ℕ) (tokens : List Told) (text : List ℕ) → HasNoText tokens → with_text (on_line line tokens) text ≡ on_line line tokens ++ kept_text text ∷ []
unfolding with_text
with_text-after line [] text none = refl
with_text-after line (token ∷ tokens) text none = from_first-after line token tokens text none

-- a text after another
with_text-joined : (M : List Message) (before text : List ℕ) → with_text (M ++ kept_text before ∷ []) text ≡ M ++ kept_text (before ++ text) ∷ []
unfolding with_text from_first_with_text
with_text-joined [] before text = refl
with_text-joined (m ∷ []) before text = refl
with_text-joined (m ∷ n ∷ M) before text = ap (λ l. m ∷ l) (with_text-joined (n ∷ M) before text)

with_message-joined : (M : List Message) (before text : List ℕ) (m : Message) → with_message (M ++ kept_text before ∷ []) (Some text) m ≡ M ++ kept_text (before ++ text) ∷ []
unfolding with_message
with_message-joined M before [] m = ap (λ l. M ++ kept_text l ∷ []) (sym (append-nil before))
with_message-joined M before (b ∷ bs) m = with_text-joined M before (b ∷ bs)

-- a character has a byte
with_message-character : (M : List Message) (c : ℕ) (m : Message) → with_message M (Some (encode_utf8 c)) m ≡ with_text M (encode_utf8 c)
unfolding encode with_message
with_message-character M c m =
    elim (ltb c 128) as (λ a. with_message M (Some (cond a (c ∷ []) (cond (ltb c 2048) ((192 + c / 64) ∷ next c ∷ []) (cond (ltb c 65536) ((224 + c / 4096) ∷ next (c / 64) ∷ next c ∷ []) ((240 + c / 262144) ∷ next (c / 4096) ∷ next (c / 64) ∷ next c ∷ []))))) m
    ≡ with_text M (cond a (c ∷ []) (cond (ltb c 2048) ((192 + c / 64) ∷ next c ∷ []) (cond (ltb c 65536) ((224 + c / 4096) ∷ next (c / 64) ∷ next c ∷ []) ((240 + c / 262144) ∷ next (c / 4096) ∷ next (c / 64) ∷ next c ∷ []))))) [
      | true ↦ refl
      | false ↦
          elim (ltb c 2048) as (λ a. with_message M (Some (cond a ((192 + c / 64) ∷ next c ∷ []) (cond (ltb c 65536) ((224 + c / 4096) ∷ next (c / 64) ∷ next c ∷ []) ((240 + c / 262144) ∷ next (c / 4096) ∷ next (c / 64) ∷ next c ∷ [])))) m
          ≡ with_text M (cond a ((192 + c / 64) ∷ next c ∷ []) (cond (ltb c 65536) ((224 + c / 4096) ∷ next (c / 64) ∷ next c ∷ []) ((240 + c / 262144) ∷ next (c / 4096) ∷ next (c / 64) ∷ next c ∷ [])))) [
            | true ↦ refl
            | false ↦
                elim (ltb c 65536) as (λ a. with_message M (Some (cond a ((224 + c / 4096) ∷ next (c / 64) ∷ next c ∷ []) ((240 + c / 262144) ∷ next (c / 4096) ∷ next (c / 64) ∷ next c ∷ []))) m
                ≡ with_text M (cond a ((224 + c / 4096) ∷ next (c / 64) ∷ next c ∷ []) ((240 + c / 262144) ∷ next (c / 4096) ∷ next (c / 64) ∷ next c ∷ []))) [
                  | true ↦ refl
                  | false ↦ refl
                ]
          ]
    ]

-- ---- what a collector keeps of characters

abbrev texts_of : List ℕ → List Told
texts_of characters = map (λ c. Text (encode_utf8 c)) characters

collected-joined : (c : Collected) (M : List Message) (before : List ℕ) (line : ℕ) (characters : List ℕ) → c.messages ≡ M ++ kept_text before ∷ []
    → stepped collected_step c (on_line line (texts_of characters)) ≡ record c { messages = M ++ kept_text (before ++ encode_utf8_all characters) ∷ [] }
unfolding stepped
collected-joined c M before line [] e = rw (append-nil before, ← e) refl
collected-joined c M before line (d ∷ characters) e =
    let m : Message = record { token = Text (encode_utf8 d); line = line } in
    let now : with_message c.messages (Some (encode_utf8 d)) m ≡ M ++ kept_text (before ++ encode_utf8 d) ∷ [] = rw e (with_message-joined M before (encode_utf8 d) m) in
    collected-joined (record c { messages = with_message c.messages (Some (encode_utf8 d)) m }) M (before ++ encode_utf8 d) line characters now
    ∙ rw (append_assoc before (encode_utf8 d) (encode_utf8_all characters)) refl

collected-texts : (c : Collected) (line : ℕ) (tokens : List Told) (first : ℕ) (more : List ℕ) → c.messages ≡ on_line line tokens → HasNoText tokens
    → stepped collected_step c (on_line line (texts_of (first ∷ more))) ≡ record c { messages = on_line line tokens ++ kept_text (encode_utf8_all (first ∷ more)) ∷ [] }
unfolding stepped
collected-texts c line tokens first more e none =
    let m : Message = record { token = Text (encode_utf8 first); line = line } in
    let now : with_message c.messages (Some (encode_utf8 first)) m ≡ on_line line tokens ++ kept_text (encode_utf8 first) ∷ [] =
    rw e (with_message-character (on_line line tokens) first m ∙ with_text-after line tokens (encode_utf8 first) none) in
    collected-joined (record c { messages = with_message c.messages (Some (encode_utf8 first)) m }) (on_line line tokens) (encode_utf8 first) line more now

-- errors, characters, and the end
collected-characters : (foreign : Bool) (line : ℕ) (errors : List Told) (first : ℕ) (more : List ℕ) → HasNoText errors
    → stepped collected_step (none_collected foreign) (on_line line ((errors ++ texts_of (first ∷ more)) ++ End ∷ []))
    ≡ record (none_collected foreign) { messages = on_line line errors ++ kept_text (encode_utf8_all (first ∷ more)) ∷ on_line line (End ∷ []) }
collected-characters foreign line errors first more none =
    let message : Told → Message = λ token. record { token = token; line = line } in
    let kept : List Message = on_line line errors ++ kept_text (encode_utf8_all (first ∷ more)) ∷ [] in
    rw (map-append message (errors ++ texts_of (first ∷ more)) (End ∷ []), map-append message errors (texts_of (first ∷ more)))
    (stepped-append collected_step (none_collected foreign) (on_line line errors ++ on_line line (texts_of (first ∷ more))) (on_line line (End ∷ []))
    ∙ ap (λ c. stepped collected_step c (on_line line (End ∷ [])))
    (stepped-append collected_step (none_collected foreign) (on_line line errors) (on_line line (texts_of (first ∷ more)))
    ∙ ap (λ c. stepped collected_step c (on_line line (texts_of (first ∷ more)))) (collected-on_line (none_collected foreign) line errors none)
    ∙ collected-texts (record (none_collected foreign) { messages = on_line line errors }) line errors first more refl none)
    ∙ collected-on_line (record (none_collected foreign) { messages = kept }) line (End ∷ []) (refl, tt)
    ∙ rw (append_assoc (on_line line errors) (kept_text (encode_utf8_all (first ∷ more)) ∷ []) (on_line line (End ∷ []))) refl)

HasNoText-errors : (exact : Bool) (written_as : WrittenReference) → HasNoText (reference_errors exact written_as)
unfolding reference_errors
HasNoText-errors exact Ampersand = tt
HasNoText-errors exact (Number x digits ends) =
    HasNoText-append (where_true (not ends) (Error (codes "EOF in numeric character reference"))) _ (HasNoText-where _ _)
    (HasNoText-where (is_invalid_number (value_of x digits)) (invalid_number exact (value_of x digits)))
HasNoText-errors exact (Named entry) = HasNoText-where (not (is_ended entry.name)) (codes "Character reference does not end with semicolon")

collected-reference : (exact foreign : Bool) (input : Input) (written_as : WrittenReference)
    → stepped collected_step (none_collected foreign) (on_line (line_after input (written written_as)) (reference_tokens exact written_as))
    ≡ record (none_collected foreign) { messages = reference_messages exact input written_as }
unfolding reference_tokens reference_messages reference_characters
collected-reference exact foreign input Ampersand =
    collected-characters foreign _ (reference_errors exact Ampersand) ampersand [] (HasNoText-errors exact Ampersand)
collected-reference exact foreign input (Number x digits ends) =
    collected-characters foreign _ (reference_errors exact (Number x digits ends)) (character_of_number (value_of x digits)) [] (HasNoText-errors exact (Number x digits ends))
collected-reference exact foreign input (Named entry) =
    collected-characters foreign _ (reference_errors exact (Named entry)) entry.first (second_of entry.second) (HasNoText-errors exact (Named entry))

-- what a collector holds after a text that is one reference
pub collects-reference : (H : Type 0) (rules : Rules) (K : Start) (foreign : Bool) (X : List ℕ) (written_as : WrittenReference) → IsTable rules.references → IsReference rules.references K X written_as
    → collected_finish (stepped collected_step (none_collected foreign) (messages (reading collected_step (collected_reply {H = H}) (λ (c : Collected). c.foreign) rules K (none_collected foreign) X)))
    ≡ record { messages = reference_messages rules.exact K.input written_as; finished = true; foreign = foreign }
collects-reference H rules K foreign X written_as table one =
    ap (λ M. collected_finish (stepped collected_step (none_collected foreign) M))
    (reading-reference collected_step (collected_reply {H = H}) (λ (c : Collected). c.foreign) rules K (none_collected foreign) X written_as table one)
    ∙ ap collected_finish (collected-reference rules.exact foreign K.input written_as)
