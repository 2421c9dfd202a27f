-- What an item of a text tells by itself: after any text that leads to where it is read, and before any text.
use Rattle.std.specs.Prelude.{◌≡◌, ◌==◌, ◌&&◌, ℕ, Bool, true, false, not, List, [], ◌∷◌, ◌++◌, map, codes, encode_utf8}
use Rattle.html5ever_interface.specs.Sink.{Means, Message, stepped, on_line}
use Rattle.html5ever_interface.specs.Token.{Told, TagOf, Reply}
use Rattle.html5ever_interface.specs.Token.Reply.{KeepOn}
use Rattle.html5ever_interface.specs.Token.Told.{Text, Error}
use Rattle.html5reading.specs.Characters.{number_sign, semicolon}
use Rattle.html5reading.specs.ErrorText.{where_true}
use Rattle.html5reading.specs.NormalisedText.{line_after, input_after}
use Rattle.html5grammar.specs.Reference.{WrittenReference, x_text, written, value_of, reference_errors, reference_characters}
use Rattle.html5grammar.specs.Reference.WrittenReference.{Ampersand, Number, Named}
use Rattle.html5reading.specs.Reference.{is_undecided, is_invalid_number, invalid_number}
use Rattle.html5reading.specs.Reading.{last_after, open_after_reply, messages_so_far, state_after, start_after}
use Rattle.html5reading.specs.Start.{Input, Start, Open, Rules}
use Rattle.markup5ever.specs.NamedReferences.{NamedReference}

-- the start after the text Y, by what is open there and the name of the last start tag
abbrev pub start_beyond : Start → List ℕ → Open → List ℕ → Start
start_beyond K Y opened last = record { opened = opened; last_start_tag = last; input = input_after K.input Y }

module _ {S H : Type 0} (step : S → Told → ℕ → S) (reply : S → Told → ℕ → Reply H) where
  -- the reply to the last of some messages, in the state after those before it
  unfoldable pub last_reply : S → List Message → Reply H
  last_reply s [] = KeepOn
  last_reply s (m ∷ []) = reply s m.token m.line
  last_reply s (m ∷ n ∷ more) = last_reply (step s m.token m.line) (n ∷ more)

module _ {X S H : Type 0} (means : Means X S H) where
  -- the start after the text Y, whose last message is this tag. The sink's reply to it says what is open.
  abbrev pub start_after_tag : Start → S → List ℕ → TagOf → List Message → Start
  start_after_tag K s Y tag M =
      let last : List ℕ = last_after K.last_start_tag tag in
      start_beyond K Y (open_after_reply last (last_reply means.step means.reply s M)) last

  module _ (rules : Rules) where
    -- read from K in the sink's state s and before the text Z, the text Y tells the messages M, and Z is read from `later`. That
    -- holds after any text X that leads there.
    pub record TellsBefore (Z : List ℕ) (K : Start) (s : S) (Y : List ℕ) (M : List Message) (later : Start) : Type 0 where
      pub tells : (L : Start) (t : S) (X : List ℕ) → start_after means rules L t X ≡ K → state_after means rules L t X ≡ s
          → messages_so_far means rules L t (X ++ (Y ++ Z))
          ≡ messages_so_far means rules L t X ++ (M ++ messages_so_far means rules later (stepped means.step s M) Z)
      pub leads : (L : Start) (t : S) (X : List ℕ) → start_after means rules L t X ≡ K → state_after means rules L t X ≡ s
          → start_after means rules L t (X ++ (Y ++ Z)) ≡ start_after means rules later (stepped means.step s M) Z

    -- the same before any text
    abbrev pub TellsByItself : Start → S → List ℕ → List Message → Start → Type 0
    TellsByItself K s Y M later = (Z : List ℕ) → TellsBefore Z K s Y M later

-- ---- references, which the text after them decides

-- "Character reference state": whether c after a reference decides it, and is no part of it. A number that has its semicolon is
-- decided.
unfoldable pub is_decided_by : List NamedReference → WrittenReference → ℕ → Bool
is_decided_by references Ampersand c = not (is_undecided references (c ∷ []))
is_decided_by references (Number x digits true) c = true
is_decided_by references (Number x digits false) c = not (is_undecided references (number_sign ∷ (x_text x ++ digits) ++ c ∷ [])) && not (c == semicolon)
is_decided_by references (Named entry) c = not (is_undecided references (entry.name ++ c ∷ []))

-- "Numeric character reference end state" and "Named character reference state": what is wrong with a reference after which the
-- text goes on
unfoldable pub errors_within : Bool → WrittenReference → List Told
errors_within exact (Number x digits ends) =
    where_true (not ends) (Error (codes "Semicolon missing after numeric character reference"))
    ++ where_true (is_invalid_number (value_of x digits)) (Error (invalid_number exact (value_of x digits)))
errors_within exact reference = reference_errors exact reference

-- what it tells there: its errors, and the characters that it stands for, each as a text
abbrev pub told_within : Bool → WrittenReference → List Told
told_within exact reference = errors_within exact reference ++ map (λ c. Text (encode_utf8 c)) (reference_characters reference)

-- the same with the line that it reaches
abbrev pub messages_within : Bool → Input → WrittenReference → List Message
messages_within exact input reference = on_line (line_after input (written reference)) (told_within exact reference)
