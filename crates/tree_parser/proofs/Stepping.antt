-- The tree of a text, and an option that is none.
use Rattle.std.specs.Prelude.{ℕ, false, List, [], ◌∷◌, Option, None, Some, is_some, take_while}
use Rattle.std.proofs.Common.{◌≡◌, refl, ap, ◌∙◌}
use Rattle.html5ever_interface.specs.Sink.{Message, stepped}
use Rattle.html5reading.specs.Reading.{Event, is_character, messages, reading, told}
use Rattle.html5reading.specs.Start.{Rules, Start}
use Rattle.tree_construction.specs.Construction.{is_foreign, start}
use Rattle.tree_construction.specs.Parser.{Options}
use Rattle.tree_construction.specs.Text.{parser_of_text, parser_so_far, replied_by, taken_by, text_start}
use Rattle.tree_laws.proofs.Asking.{same-reading}
use Rattle.tree_laws.specs.Laws.{AsksAsParser}
use Rattle.tree_parser.specs.Building.{Building, after_message, answered, replied}

asks : {Q : Type 0} → AsksAsParser (after_message {Q = Q}) replied answered (λ s. s.parser)
asks = record { steps = λ s message line. refl; replies = λ s tag line last. refl; answers = λ s. refl }

stepped-building : {Q : Type 0} (s : Building Q) (ms : List Message) → stepped after_message s ms ≡ record s { parser = stepped taken_by s.parser ms }
unfolding stepped
stepped-building s [] = refl
stepped-building s (m ∷ ms) = stepped-building (after_message s m.token m.line) ms

-- where messages lead that are some of those of a text, whoever asks
pub read-built : {Q : Type 0} (rules : Rules) (K : Start) (s : Building Q) (text : List ℕ) (some : List Event → List Event)
    → stepped after_message s (messages (some (reading after_message replied answered rules K s text)))
    ≡ record s { parser = stepped taken_by s.parser (messages (some (reading taken_by replied_by is_foreign rules K s.parser text))) }
read-built rules K s text some =
    ap (λ E. stepped after_message s (messages (some E)))
    (same-reading after_message replied answered (λ s. s.parser) asks rules K s text)
    ∙ stepped-building s (messages (some (reading taken_by replied_by is_foreign rules K s.parser text)))

-- the same from the start of a document
sent-built : {Q : Type 0} (options : Options) (rules : Rules) (K : Start) (s : Building Q) (text : List ℕ) (some : List Event → List Event)
    → K ≡ text_start options → s.parser ≡ start options
    → stepped after_message s (messages (some (reading after_message replied answered rules K s text)))
    ≡ record s { parser = stepped taken_by (start options) (messages (some (reading taken_by replied_by is_foreign rules (text_start options) (start options) text))) }
sent-built options rules K s text some K_is s_is =
    read-built rules K s text some
    ∙ (ap (λ k. record s { parser = stepped taken_by s.parser (messages (some (reading taken_by replied_by is_foreign rules k s.parser text))) }) K_is
    ∙ ap (λ p. record s { parser = stepped taken_by p (messages (some (reading taken_by replied_by is_foreign rules (text_start options) p text))) }) s_is)

-- where a whole text leads from the start of a document
pub text-built : {Q : Type 0} (options : Options) (rules : Rules) (K : Start) (s : Building Q) (text : List ℕ) → K ≡ text_start options
    → s.parser ≡ start options → stepped after_message s (messages (reading after_message replied answered rules K s text))
    ≡ record s { parser = parser_of_text options rules text }
text-built options rules K s text K_is s_is = sent-built options rules K s text (λ E. E) K_is s_is

-- and what its characters decide
pub so-far-built : {Q : Type 0} (options : Options) (rules : Rules) (s : Building Q) (text : List ℕ) → s.parser ≡ start options
    → stepped after_message s (messages (told after_message replied answered rules (text_start options) s text))
    ≡ record s { parser = parser_so_far options rules text }
unfolding told
so-far-built options rules s text s_is =
    sent-built options rules (text_start options) s text (λ E. take_while (λ e. is_character e.decided_by) E) refl s_is

pub none-of : {X : Type 0} (o : Option X) → is_some o ≡ false → o ≡ None
none-of None none = refl
none-of (Some x) none = cc
