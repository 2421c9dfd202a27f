-- Pages that are texts in memory.
use Rattle.std.proofs.Common.{◌≡◌, ℕ, List, ◌++◌, Option, Some, None, sym, ap, ◌∙◌}
use Rattle.std.specs.Io.KnownBytes.{Consumes, IsAtEnd}
use Rattle.std.proofs.lemmas.List.{append-nil}
use Rattle.html5stream.specs.Pages.{Passage, ReadsPage}

all-consumed : (text bytes : List ℕ) (left : Option (List ℕ)) → Consumes (Some text) left bytes → IsAtEnd left → bytes ≡ text
all-consumed text bytes None consumed at_end = absurd consumed
all-consumed text bytes (Some rest) consumed at_end = sym (consumed ∙ ap (λ l. bytes ++ l) at_end ∙ append-nil bytes)

-- of a source that gives a text the whole text was read
pub read-whole : {S : Type 0} (made_of : S → List ℕ → S) (text : List ℕ) (known : Passage S) → known.unread ≡ Some text
    → ReadsPage made_of known → known.after ≡ made_of known.before text
read-whole made_of text known given read =
    read.told ∙ ap (made_of known.before) (all-consumed text read.bytes known.left (rw given at read.consumed) read.at_end)
