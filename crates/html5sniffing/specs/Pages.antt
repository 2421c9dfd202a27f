-- Pages in any encoding, as passages of their texts.
use Rattle.std.specs.Prelude.{List, [], ℕ, Option, Some, option_map}
use Rattle.html5stream.specs.Pages.{Passage}
use Rattle.html5stream.specs.declared.error.StreamError.{StreamError}
use Rattle.html5stream.specs.declared.error.StreamError.TheVariants.{Read, NotUtf8, Memory, Sink, TooLong}

-- why the first bytes of a page were not read: a read failed, or a growth was refused
abbrev pub IsOpeningError : StreamError → Type 0
IsOpeningError Read = Unit {0}
IsOpeningError (NotUtf8 place) = ⊥
IsOpeningError Memory = Unit {0}
IsOpeningError Sink = ⊥
IsOpeningError TooLong = ⊥

-- The passage of a page's text, where `text_of` says what the text of its bytes is: all of that text was to be read, and none of it is
-- left. Where it is not known which bytes the source has, it is not known which text.
abbrev pub text_passage : {S : Type 0} → (List ℕ → List ℕ) → Option (List ℕ) → S → S → Passage S
text_passage text_of bytes before after = record { unread = option_map text_of bytes; left = Some []; before = before; after = after }
