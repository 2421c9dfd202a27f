-- Characters that tell nothing and are read at once, without the sink.
use Rattle.std.specs.Prelude.{◌≡◌, ◌⊎◌, ◌≤◌, ◌<◌, ◌^◌, ℕ, false, List, [], ◌++◌, length, Result, OnOk}
use Rattle.html5reading.specs.Start.{Open, Rules, Stand, Start}
use Rattle.html5reading.specs.Start.Open.{InReference}
use Rattle.html5partial.specs.CharRef.{HoldsEach}
use Rattle.html5partial.specs.declared.error.TokenizerError.{TokenizerError}
use Rattle.html5fast_path.specs.Quiet.{ReadsQuietly}
use Rattle.markup5ever.specs.BufferQueue.{TextQueue, Takes}
use Rattle.markup5ever.specs.NamedReferences.{NamedReference}

-- "Character reference state": where `opened` is a reference, each character of the text is held, and leads to `later`
pub record HoldsText (references : List NamedReference) (opened : Open) (text : List ℕ) (later : Open) : Type 0 where
  pub stand : Stand
  pub held : List ℕ
  pub before : opened ≡ InReference stand held
  pub holds : HoldsEach references held text
  pub after : later ≡ InReference stand (held ++ text)

-- the text tells nothing after `opened`, and leads to `later`: errors are not exact, or the text is held of a reference
abbrev pub TellsNothing : Rules → Open → List ℕ → Open → Type 0
TellsNothing rules opened text later = ((rules.exact ≡ false) × ReadsQuietly opened text later) ⊎ HoldsText rules.references opened text later

-- from K on the text tells nothing, and `later` is open after it. No first character may be dropped.
pub record IsQuietText (rules : Rules) (K : Start) (text : List ℕ) (later : Open) : Type 0 where
  pub past_line_break : K.input.after_carriage_return ≡ false
  pub past_stream_start : K.input.drops_byte_order_mark ≡ false
  pub fits : K.input.line < 2 ^ 64
  pub reads : TellsNothing rules K.opened text later

-- the text is one that tells nothing, and then a character for which memory was refused
pub record StopsAtCharacter (rules : Rules) (K : Start) (text : List ℕ) : Type 0 where
  pub front : List ℕ
  pub item : List ℕ
  pub parts : text ≡ front ++ item
  pub is_one : length item ≤ 1
  pub later : Open
  pub quiet : IsQuietText rules K front later

-- such a text, or none, was taken from the queue and read. A refusal is one at the character after it.
pub record TakesQuietly {T : Type 0} (rules : Rules) (result : Result T TokenizerError) (K L : Start) (old new : TextQueue) : Type 0 where
  pub front : List ℕ
  pub item : List ℕ
  pub takes : Takes old new (front ++ item)
  pub is_one : length item ≤ 1
  pub later : Open
  pub quiet : IsQuietText rules K front later ⊎ ((front ≡ []) × (later ≡ K.opened))
  pub all : OnOk result (item ≡ [])
  pub moves : OnOk result (L ≡ record K { opened = later })
