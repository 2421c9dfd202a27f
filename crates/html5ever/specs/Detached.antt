-- What a tokenizer is between two calls, without its table, and what it is with a table.
use Rattle.std.specs.Prelude.{Bool, List}
use Rattle.markup5ever.specs.NamedReferences.{NamedReference}
use Rattle.html5reading.specs.Start.{Start}
use Rattle.html5ever.specs.Tokenizer.{Tokenizing}

-- a tokenizer without its table
pub record DetachedOf (X : Type 0) : Type 0 where
  pub sink : X
  -- whether error messages are exact
  pub exact_errors : Bool
  -- the start of what is read next
  pub position : Start
  -- an earlier call was refused
  pub failed : Bool
  -- the sink was sent the end of input
  pub ended : Bool

-- the tokenizer that goes on by this table
abbrev pub tokenizing : {X : Type 0} → DetachedOf X → List NamedReference → Tokenizing X
tokenizing r references = record {
  sink = r.sink;
  rules = record { exact = r.exact_errors; references = references };
  position = r.position;
  failed = r.failed;
  ended = r.ended;
}
