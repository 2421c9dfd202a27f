-- A collector keeps the laws of a sink.
use Rattle.std.specs.Prelude.{◌≡◌, ℕ, false, List, [], ◌∷◌, ◌++◌, Option, Some, None, refl}
use Rattle.std.proofs.Common.{ap, ◌∙◌}
use Rattle.std.proofs.lemmas.List.{append-nil, append_assoc}
use Rattle.html5ever_interface.specs.Collected.{Collected, told_text, last_with_text, from_first_with_text, with_text, with_message, collected_step, collected_reply}
use Rattle.html5ever_interface.specs.Sink.{Message}
use Rattle.html5ever_interface.specs.Token.{Told, is_tag}
use Rattle.html5ever_interface.specs.Token.Told.{Text}
use Rattle.html5ever_interface.specs.Token.Reply.{KeepOn}

last_with_text-text : (before : Option (List ℕ)) (m : Message) (a b : List ℕ)
    → with_text (last_with_text before m a) b ≡ last_with_text before m (a ++ b)
unfolding with_text from_first_with_text
last_with_text-text (Some before) m a b = rw (append_assoc before a b) refl
last_with_text-text None m a b = refl

record IsNotEmpty (ms : List Message) : Type 0 where
  pub first : Message
  pub rest : List Message
  pub parts : ms ≡ first ∷ rest

last_with_text-is_not_empty : (before : Option (List ℕ)) (m : Message) (text : List ℕ) → IsNotEmpty (last_with_text before m text)
last_with_text-is_not_empty (Some before) m text = record { first = _; rest = _; parts = refl }
last_with_text-is_not_empty None m text = record { first = _; rest = _; parts = refl }

from_first_with_text-is_not_empty : (m : Message) (ms : List Message) (text : List ℕ) → IsNotEmpty (from_first_with_text m ms text)
unfolding from_first_with_text
from_first_with_text-is_not_empty m [] text = last_with_text-is_not_empty (told_text m.token) m text
from_first_with_text-is_not_empty m (n ∷ ms) text = record { first = m; rest = from_first_with_text n ms text; parts = refl }

with_text-cons : (m : Message) (ms : List Message) (text : List ℕ) → IsNotEmpty ms → with_text (m ∷ ms) text ≡ m ∷ with_text ms text
unfolding with_text from_first_with_text
with_text-cons m ms text some = rw some.parts refl

from_first_with_text-text : (m : Message) (ms : List Message) (a b : List ℕ)
    → with_text (from_first_with_text m ms a) b ≡ from_first_with_text m ms (a ++ b)
unfolding from_first_with_text
from_first_with_text-text m [] a b = last_with_text-text (told_text m.token) m a b
from_first_with_text-text m (n ∷ ms) a b =
    with_text-cons m (from_first_with_text n ms a) b (from_first_with_text-is_not_empty n ms a)
    ∙ ap (λ l. m ∷ l) (from_first_with_text-text n ms a b)

with_text-text : (ms : List Message) (a b : List ℕ) → with_text (with_text ms a) b ≡ with_text ms (a ++ b)
unfolding with_text from_first_with_text
with_text-text [] a b = refl
with_text-text (m ∷ ms) a b = from_first_with_text-text m ms a b

-- the laws of a sink

with_message-joins : (ms : List Message) (a b : List ℕ) (m n o : Message)
    → with_message (with_message ms (Some a) m) (Some b) n ≡ with_message ms (Some (a ++ b)) o
unfolding with_message
with_message-joins ms [] [] m n o = refl
with_message-joins ms [] (y ∷ ys) m n o = refl
with_message-joins ms (x ∷ xs) [] m n o = rw (append-nil xs) refl
with_message-joins ms (x ∷ xs) (y ∷ ys) m n o = with_text-text ms (x ∷ xs) (y ∷ ys)

with_message-any : (ms : List Message) (a : List ℕ) (m n : Message) → with_message ms (Some a) m ≡ with_message ms (Some a) n
unfolding with_message
with_message-any ms [] m n = refl
with_message-any ms (b ∷ bs) m n = refl

pub collected_joins : (c : Collected) (a b : List ℕ) (line : ℕ)
    → collected_step (collected_step c (Text a) line) (Text b) line ≡ collected_step c (Text (a ++ b)) line
collected_joins c a b line = ap (λ ms. record c { messages = ms }) (with_message-joins c.messages a b _ _ _)

pub collected_empty : (c : Collected) (line : ℕ) → collected_step c (Text []) line ≡ c
unfolding with_message
collected_empty c line = refl

pub collected_any_line : (c : Collected) (a : List ℕ) (line other : ℕ) → collected_step c (Text a) line ≡ collected_step c (Text a) other
collected_any_line c a line other = ap (λ ms. record c { messages = ms }) (with_message-any c.messages a _ _)

pub collected_keeps_on : {H : Type 0} → (c : Collected) (told : Told) (line : ℕ) → is_tag told ≡ false → collected_reply {H = H} c told line ≡ KeepOn
collected_keeps_on c told line no_tag = refl
