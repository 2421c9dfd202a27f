-- Worked cases of processing instructions.
use Rattle.std.specs.Prelude.{◌≡◌, ℕ, Bool, true, false, List, [], ◌∷◌, ◌++◌, codes, refl}
use Rattle.html5ever_interface.specs.Token.{Told}
use Rattle.html5ever_interface.specs.Token.Told.{Error, Comment, Instruction, End}
use Rattle.html5ever_interface.specs.Token.Reply.{KeepOn}
use Rattle.html5reading.specs.Reading.{TextPlace, Event, reading}
use Rattle.html5reading.specs.Reading.TextPlace.{Character, EndOfInput}
use Rattle.html5reading.specs.Start.{Start}
use Rattle.html5reading.specs.Start.Mode.{Data}
use Rattle.html5reading.specs.Start.Open.{Between}
use Rattle.html5reading.proofs.OnLiterals.{reading_on_literals, comment_on_literals, instruction_on_literals}

abbrev start : Start
start = record { opened = Between Data; last_start_tag = []; input = record { line = 1; after_carriage_return = false; drops_byte_order_mark = true } }

abbrev events : Bool → List ℕ → List Event
events exact text = reading {S = ℕ} {H = ℕ} (λ s t l. s) (λ s t l. KeepOn) (λ s. false) (record { exact = exact; references = [] }) start 0 text

abbrev event : Told → TextPlace → TextPlace → ℕ → Event
event token stands decided_by line = record { message = record { token = token; line = line }; stands = stands; decided_by = decided_by }

content : events false (codes "<?x>") ≡ event (Instruction (codes "x")) (Character 3) (Character 3) 1 ∷ event End EndOfInput EndOfInput 1 ∷ []
unfolding reading_on_literals comment_on_literals instruction_on_literals
content = refl

question_mark_before_the_end : events false (codes "<?x?>") ≡ event (Instruction (codes "x?")) (Character 4) (Character 4) 1 ∷ event End EndOfInput EndOfInput 1 ∷ []
unfolding reading_on_literals comment_on_literals instruction_on_literals
question_mark_before_the_end = refl

no_content : events false (codes "<?>") ≡ event (Instruction []) (Character 2) (Character 2) 1 ∷ event End EndOfInput EndOfInput 1 ∷ []
unfolding reading_on_literals comment_on_literals instruction_on_literals
no_content = refl

markup_within : events false (codes "<?<!--&lt;>") ≡ event (Instruction (codes "<!--&lt;")) (Character 10) (Character 10) 1 ∷ event End EndOfInput EndOfInput 1 ∷ []
unfolding reading_on_literals comment_on_literals instruction_on_literals
markup_within = refl

null_within : events false (codes "<?a\0b>") ≡ event (Error (codes "Saw \0 in state ProcessingInstruction")) (Character 3) (Character 3) 1 ∷ event (Instruction (codes "a" ++ (239 ∷ 191 ∷ 189 ∷ codes "b"))) (Character 5) (Character 5) 1 ∷ event End EndOfInput EndOfInput 1 ∷ []
unfolding reading_on_literals comment_on_literals instruction_on_literals
null_within = refl

exact_errors : events true (codes "<?\0\u{1}>") ≡ event (Error (codes "Bad character")) (Character 2) (Character 2) 1 ∷ event (Error (codes "Bad character \u{1}")) (Character 3) (Character 3) 1 ∷ event (Instruction (239 ∷ 191 ∷ 189 ∷ 1 ∷ [])) (Character 4) (Character 4) 1 ∷ event End EndOfInput EndOfInput 1 ∷ []
unfolding reading_on_literals comment_on_literals instruction_on_literals
exact_errors = refl

line_break_within : events false (codes "<?a\r\nb>") ≡ event (Instruction (codes "a\nb")) (Character 5) (Character 5) 2 ∷ event End EndOfInput EndOfInput 2 ∷ []
unfolding reading_on_literals comment_on_literals instruction_on_literals
line_break_within = refl

cut_off : events false (codes "<?x") ≡ event (Error (codes "Saw EOF in state ProcessingInstruction")) EndOfInput EndOfInput 1 ∷ event (Instruction (codes "x")) EndOfInput EndOfInput 1 ∷ event End EndOfInput EndOfInput 1 ∷ []
unfolding reading_on_literals comment_on_literals instruction_on_literals
cut_off = refl

cut_off_at_once : events true (codes "<?") ≡ event (Error (codes "Unexpected EOF")) EndOfInput EndOfInput 1 ∷ event (Instruction []) EndOfInput EndOfInput 1 ∷ event End EndOfInput EndOfInput 1 ∷ []
unfolding reading_on_literals comment_on_literals instruction_on_literals
cut_off_at_once = refl

-- after `</` that is a bogus comment
solidus_first : events false (codes "</?x>") ≡ event (Error (codes "Saw ? in state EndTagOpen")) (Character 2) (Character 2) 1 ∷ event (Comment (codes "?x")) (Character 4) (Character 4) 1 ∷ event End EndOfInput EndOfInput 1 ∷ []
unfolding reading_on_literals comment_on_literals instruction_on_literals
solidus_first = refl
