-- A text as its tokens cut it: the source of each token, with the source of the run of text before it. Texts are the bytes of their
-- UTF-8.
use Rattle.std.specs.Prelude.{ℕ, ◌-◌, List, [], ◌∷◌, ◌++◌, drop, encode_utf8_all, take, if◌then◌else◌}
use Rattle.html5ever_interface.specs.Token.{Told}
use Rattle.html5places.specs.Marks.{Placed}
use Rattle.html5places.specs.Placed.{is_error, placed_tokens}
use Rattle.html5reading.specs.Start.{Rules, Start}

-- a token and the run of text before it
pub record CutOf : Type 0 where
  -- the source of the run, with its references and with what tells no token, as `</>`
  pub run : List ℕ
  -- the text that it tells
  pub text : List ℕ
  -- the source of the token
  pub source : List ℕ
  pub token : Told
  -- the line that was reached
  pub line : ℕ

-- the bytes from one place to another
abbrev pub between : ℕ → ℕ → List ℕ → List ℕ
between from to bytes = take (to - from) (drop from bytes)

-- a token of these bytes, by where it stands
abbrev pub cut_at : List ℕ → Placed → CutOf
cut_at bytes p = record {
  run = between p.places.text p.places.begin bytes;
  text = p.run;
  source = between p.places.begin p.places.end bytes;
  token = p.token;
  line = p.line;
}

-- tokens of these bytes, without parse errors
unfoldable pub cuts_of : List ℕ → List Placed → List CutOf
cuts_of bytes [] = []
cuts_of bytes (p ∷ placed) = if is_error p.token then cuts_of bytes placed else (cut_at bytes p ∷ cuts_of bytes placed)

-- A text as its tokens cut it. The last of them is the end, which is written as nothing. So the last run is the text after the last other
-- token.
abbrev pub cuts : Rules → Start → List ℕ → List CutOf
cuts rules K text = cuts_of (encode_utf8_all text) (placed_tokens rules K text)

-- what a cut is written as
abbrev pub cut_text : CutOf → List ℕ
cut_text cut = cut.run ++ cut.source
