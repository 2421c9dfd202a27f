-- Where the bytes of a text come from that was read in stretches.
use Rattle.std.specs.Prelude.{ℕ, ◌+◌, ◌-◌, ◌≤◌, ◌<◌, ◌^◌, List, [], ◌∷◌, ◌++◌, Option, None, Some, drop, length, nat_lt, slice_get, take, if◌then◌else◌}
use Rattle.html5places.specs.declared.origins.Origin.{Origin}
use Rattle.html5places.specs.declared.origins.Origin.TheVariants.{PutIn, Source}
use Rattle.html5places.specs.declared.origins.Stretch.{Stretch}

-- where a byte stands in its text
abbrev pub offset_of : Origin → ℕ
offset_of (Source at) = at
offset_of (PutIn text at) = at

-- the byte that is this many bytes further on
abbrev pub further : Origin → ℕ → Origin
further (Source at) count = Source (at + count)
further (PutIn text at) count = PutIn text (at + count)

-- Where the byte at a place of the whole text comes from: from the stretch that reaches beyond the place, as many bytes further on as
-- the place lies after the stretches before it.
unfoldable pub origin_of : List Stretch → ℕ → Option Origin
origin_of [] place = None
origin_of (stretch ∷ stretches) place =
    if nat_lt place stretch.len then Some (further stretch.first place) else origin_of stretches (place - stretch.len)

-- no stretch is longer than a text can be
abbrev pub Fits : Stretch → Type 0
Fits stretch = offset_of stretch.first + stretch.len < 2 ^ 64

-- ---- what this says of the text that was read

module _ (source : List ℕ) (put_in : ℕ → List ℕ) where
  -- the text that a byte comes from: the source, or one of those that were put in
  abbrev pub text_of : Origin → List ℕ
  text_of (Source at) = source
  text_of (PutIn text at) = put_in text

  -- each stretch lies in its text
  abbrev pub LiesInText : Stretch → Type 0
  LiesInText stretch = offset_of stretch.first + stretch.len ≤ length (text_of stretch.first)

  -- the bytes of the stretches, one after the other
  abbrev pub bytes_of : Stretch → List ℕ
  bytes_of stretch = take stretch.len (drop (offset_of stretch.first) (text_of stretch.first))

  unfoldable pub all_bytes : List Stretch → List ℕ
  all_bytes [] = []
  all_bytes (stretch ∷ stretches) = bytes_of stretch ++ all_bytes stretches

  -- the byte that an origin names
  abbrev pub byte_at : Origin → Option ℕ
  byte_at origin = slice_get (text_of origin) (offset_of origin)
