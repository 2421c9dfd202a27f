-- The encoding of a page, as C sets it and reads it, of a handle of either kind.
use Rattle.std.specs.Prelude.{◌≡◌, ◌≢◌, ◌↔◌, ◌⊎◌, ℕ, true, false, List, [], ◌∷◌, Option, None, Some, option_map}
use Rattle.html5handle.specs.Names.{CopiesName}
use Rattle.html5handle.specs.Slots.{WhereOpen}
use Rattle.html5handle.specs.declared.slot.PageSlot.{PageSlot}
use Rattle.html5handle.specs.declared.slot.PageSlot.TheVariants.{Tokenizer, Cleaner}
use Rattle.html5encodings.specs.Encodings.{encoding_of}
use Rattle.html5encodings.specs.Labels.{name_of}
use Rattle.html5encodings.specs.declared.encoding.Encoding.{Encoding}
use Rattle.html5session.specs.Intake.{IsUnbegun, encoding_known}
use Rattle.html5session.specs.Session.{SessionOf, is_over}
use Rattle.html5sniffing.specs.PageDecoding.{page_start}

-- what a label says of a page, if it says something: nothing, if it has no bytes, or its encoding
abbrev pub said_by : List ℕ → Option (Option Encoding)
said_by [] = Some None
said_by (b ∷ bytes) = option_map (λ encoding. Some encoding) (encoding_of (b ∷ bytes))

-- a session that takes the bytes of a page by the encoding that it is in, where this one is declared for it
abbrev pub decoding : {X : Type 0} → SessionOf X → Option Encoding → SessionOf X
decoding s said = record s { intake = record s.intake { page = Some (page_start said None) } }

-- what a status says of the call
pub record EncodingSays {X : Type 0} (old new : SessionOf X) (label : List ℕ) (status : ℕ) : Type 0 where
  pub done : status ≡ 0 → (said : Option Encoding) × (said_by label ≡ Some said) × (new ≡ decoding old said)
  pub refused : status ≢ 0 → new ≡ old
  pub over : (status ≡ 7) ↔ (is_over old ≡ true)
  pub begun : (status ≡ 15) ↔ ((is_over old ≡ false) × ¬ (IsUnbegun old.intake))
  pub bad_option : (status ≡ 9) ↔ ((is_over old ≡ false) × IsUnbegun old.intake × (said_by label ≡ None))
  pub only : (status ≡ 0) ⊎ (status ≡ 7) ⊎ (status ≡ 9) ⊎ (status ≡ 15)

-- the same, of a handle that has one or none
abbrev pub SetsEncoding : {X : Type 0} → Option (SessionOf X) → Option (SessionOf X) → List ℕ → ℕ → Type 0
SetsEncoding old new label status = WhereOpen (λ s t. EncodingSays s t label status) (Unit {0}) old new

-- the encoding of what a handle is of, once it is known
abbrev pub encoding_in_slot : PageSlot → Option Encoding
encoding_in_slot (Tokenizer s) = encoding_known s.intake
encoding_in_slot (Cleaner s) = encoding_known s.intake
encoding_in_slot other = None

abbrev pub encoding_in : Option PageSlot → Option Encoding
encoding_in None = None
encoding_in (Some slot) = encoding_in_slot slot

-- the name of an encoding, or no bytes
abbrev pub name_in : Option Encoding → List ℕ
name_in None = []
name_in (Some encoding) = name_of encoding

-- its name is copied
abbrev pub NamesEncoding : Option Encoding → List ℕ → List ℕ → ℕ → Type 0
NamesEncoding encoding room out n = CopiesName (name_in encoding) room out n
