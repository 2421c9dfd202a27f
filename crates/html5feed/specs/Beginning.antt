-- Where what is written in markup begins.
use Rattle.std.specs.Prelude.{Bool, true, false}
use Rattle.html5reading.specs.Start.{Open}
use Rattle.html5reading.specs.Start.Open.{InRaw, LessThan}
use Rattle.html5reading.specs.Start.RawPlace.{AfterLessThan}

-- "Tag open state" and the less-than sign states of raw text: whether the last character is a `<` that may begin a tag or other markup
abbrev pub is_after_less_than : Open → Bool
is_after_less_than LessThan = true
is_after_less_than (InRaw (AfterLessThan kind) name) = true
is_after_less_than other = false
