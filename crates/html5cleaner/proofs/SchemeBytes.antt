-- Bytes of addresses by their tests.
use Rattle.std.proofs.Common.{◌≡◌, ℕ, Bool, true, false, List, [], ◌∷◌, refl, arith}
use Rattle.std.specs.Prelude.{◌||◌, ◌&&◌, ◌==◌, nat_lt, nat_le, not}
use Rattle.std.proofs.lemmas.Bool.Decides.{nat_tests}
use Rattle.std.specs.Char.{is_ascii_alphabetic, is_ascii_lowercase, to_ascii_lowercase}
use Rattle.std.specs.List.{list_all}
use Rattle.html5policy.specs.Names.{is_scheme_byte as is_small_byte}
use Rattle.html5cleaner.proofs.SchemeOf.{is_no_break, is_scheme_byte}
use Rattle.html5cleaner.proofs.Replies.{and-left, and-right}

-- a byte after which no scheme can end
abbrev pub is_stop : ℕ → Bool
is_stop byte = (byte == 47) || (byte == 63) || (byte == 35)

pub passed-no_colon : (byte : ℕ) → nat_lt byte 33 ≡ true → (byte == 58) ≡ false
passed-no_colon byte passed = grind (arith, nat_tests)

pub passed-no_scheme : (byte : ℕ) → nat_lt byte 33 ≡ true → is_scheme_byte byte ≡ false
passed-no_scheme byte passed = grind (arith, nat_tests)

pub passed-no_stop : (byte : ℕ) → nat_lt byte 33 ≡ true → is_stop byte ≡ false
passed-no_stop byte passed = grind (arith, nat_tests)

pub break-no_stop : (byte : ℕ) → is_no_break byte ≡ false → is_stop byte ≡ false
break-no_stop byte break = grind (arith, nat_tests)

pub stop-no_scheme : (byte : ℕ) → is_stop byte ≡ true → is_scheme_byte byte ≡ false
stop-no_scheme byte stop = grind (arith, nat_tests)

pub other-no_break : (byte : ℕ) → nat_lt byte 33 ≡ false → is_no_break byte ≡ true
other-no_break byte other = grind (arith, nat_tests)

pub lower-colon : (byte : ℕ) → (to_ascii_lowercase byte == 58) ≡ true → (byte == 58) ≡ true
lower-colon byte same = grind (arith, nat_tests)

pub lower-no_colon : (byte letter : ℕ) → (to_ascii_lowercase byte == letter) ≡ true → (letter == 58) ≡ false → (byte == 58) ≡ false
lower-no_colon byte letter same other = grind (arith, nat_tests)

pub lower-same : (byte letter : ℕ) → (to_ascii_lowercase byte == letter) ≡ true → to_ascii_lowercase byte ≡ letter
lower-same byte letter same = grind (arith, nat_tests)

pub passed-no_letter : (byte : ℕ) → nat_lt byte 33 ≡ true → is_ascii_alphabetic byte ≡ false
passed-no_letter byte passed = grind (arith, nat_tests)

pub letter-scheme : (byte : ℕ) → is_ascii_alphabetic byte ≡ true → is_scheme_byte byte ≡ true
letter-scheme byte is = grind (arith, nat_tests)

pub passed-trimmed : (byte : ℕ) → nat_lt byte 33 ≡ nat_le byte 32
passed-trimmed byte = grind (arith, nat_tests)

pub question-no_scheme : (byte : ℕ) → (byte == 63) ≡ true → is_scheme_byte byte ≡ false
question-no_scheme byte is = grind (arith, nat_tests)

pub hash-no_scheme : (byte : ℕ) → (byte == 35) ≡ true → is_scheme_byte byte ≡ false
hash-no_scheme byte is = grind (arith, nat_tests)

pub question-no_colon : (byte : ℕ) → (byte == 63) ≡ true → (byte == 58) ≡ false
question-no_colon byte is = grind (arith, nat_tests)

pub hash-no_colon : (byte : ℕ) → (byte == 35) ≡ true → (byte == 58) ≡ false
hash-no_colon byte is = grind (arith, nat_tests)

pub no_scheme-no_letter : (byte : ℕ) → is_scheme_byte byte ≡ false → is_ascii_alphabetic byte ≡ false
no_scheme-no_letter byte other = grind (arith, nat_tests)

pub scheme_byte-no_colon : (byte : ℕ) → is_scheme_byte byte ≡ true → (byte == 58) ≡ false
scheme_byte-no_colon byte is = grind (arith, nat_tests)

-- ---- no colon stands in a scheme

small-no_colon : (byte : ℕ) → is_ascii_lowercase byte ≡ true → not (byte == 58) ≡ true
small-no_colon byte small = grind (arith, nat_tests)

byte-no_colon : (byte : ℕ) → is_small_byte byte ≡ true → not (byte == 58) ≡ true
byte-no_colon byte small = grind (arith, nat_tests)

bytes-no_colon : (word : List ℕ) → list_all is_small_byte word ≡ true → list_all (λ letter. not (letter == 58)) word ≡ true
bytes-no_colon [] small = refl
bytes-no_colon (byte ∷ word) small =
    rw (
      byte-no_colon byte (and-left (is_small_byte byte) (list_all is_small_byte word) small),
      bytes-no_colon word (and-right (is_small_byte byte) (list_all is_small_byte word) small),
    ) refl

pub scheme-no_colon : (letter : ℕ) (word : List ℕ) → (is_ascii_lowercase letter && list_all is_small_byte word) ≡ true → list_all (λ c. not (c == 58)) (letter ∷ word) ≡ true
scheme-no_colon letter word scheme =
    rw (
      small-no_colon letter (and-left (is_ascii_lowercase letter) (list_all is_small_byte word) scheme),
      bytes-no_colon word (and-right (is_ascii_lowercase letter) (list_all is_small_byte word) scheme),
    ) refl
