-- Texts of which a run of characters is written as it is. These are words of the proofs: no promise to callers is made of them.
use Rattle.std.specs.Prelude.{◌≡◌, ℕ, Bool, true, ◌≤◌, List, length, take, drop, ◌==◌, ◌||◌, None, encode_utf8_all}
use Rattle.std.specs.Str.{IsUtf8, chars}
use Rattle.markup5ever.specs.Blocks.{NoneWithin}
use Rattle.html5write.specs.Escaped.{escaped_text}
use Rattle.html5write.specs.Refusals.{null_from}

-- whether a byte is NUL, or may begin a character that is written as a reference: 0xEF begins U+FEFF, and others
unfoldable pub is_stop : ℕ → Bool
is_stop byte = (byte == 0) || (byte == 0x0D) || (byte == 0x22) || (byte == 0x26) || (byte == 0x3C) || (byte == 0x3E) || (byte == 0xEF)

-- the same, as a kind of bytes
abbrev pub IsStop : ℕ → Type 0
IsStop byte = is_stop byte ≡ true

-- none of the bytes from one place up to another is one
abbrev pub NoStopWithin : List ℕ → ℕ → ℕ → Type 0
NoStopWithin bytes from to = NoneWithin IsStop bytes from to

-- a NUL, as a kind of bytes
abbrev pub IsNull : ℕ → Type 0
IsNull byte = byte ≡ 0

-- the text begins with characters that are written as they are, which take this many bytes
pub record BeginsPlain (text : List ℕ) (len : ℕ) : Type 0 where
  pub within : len ≤ length text
  pub rest_utf8 : IsUtf8 (drop len text)
  pub plain : escaped_text (chars (take len text)) ≡ chars (take len text)

-- the text can be written, and its own bytes are written for it
pub record IsPlainText (text : List ℕ) : Type 0 where
  pub no_null : null_from 0 (chars text) ≡ None
  pub plain : encode_utf8_all (escaped_text (chars text)) ≡ text
