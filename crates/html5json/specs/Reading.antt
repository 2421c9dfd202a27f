-- How a line of JSON is read back.
use Rattle.std.specs.Prelude.{◌≡◌, ℕ, true, Bool, Some, nat_le}
use Rattle.std.specs.List.{list_all}
use Rattle.html5json.specs.Lines.{text_of}
use Rattle.json.specs.Json.{Json, document}
use Rattle.serde_json.specs.Data.{Data}
use Rattle.serde_json.specs.Read.{of_json, read}

-- a byte of no control character: no line break
abbrev pub is_in_line : ℕ → Bool
is_in_line byte = nat_le 32 byte

-- its text is JSON that the grammar of `json` reads as just this value, and `serde_json` as what it makes of this value;
-- and it stands on one line
pub record ReadsBack (json : Json) : Type 0 where
  pub is_json : document (text_of json) ≡ Some json
  pub value : Data
  pub is_value : of_json json ≡ Some value
  pub is_read : read (text_of json) ≡ Some value
  pub is_line : list_all is_in_line (text_of json) ≡ true
