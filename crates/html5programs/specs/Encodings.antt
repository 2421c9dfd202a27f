-- The encoding of the pages that a program reads.
use Rattle.std.specs.Prelude.{◌≡◌, List, ℕ, Bool, true, false, Option, None, Some, IfSome, encode_utf8_all}
use Rattle.std.specs.Io.KnownBytes.{Consumes, IsAtEnd}
use Rattle.html5encodings.specs.Encodings.{encoding_of}
use Rattle.html5encodings.specs.declared.encoding.Encoding.{Encoding}
use Rattle.html5encodings.specs.Decoding.{IsIn, decoded}
use Rattle.html5sniffing.specs.PageEncoding.{encoding_by, text_of_page}
use Rattle.markup5ever.specs.NamedReferences.{NamedReference}
use Rattle.html5programs.specs.declared.encoded.PageDecoding.{PageDecoding}
use Rattle.html5programs.specs.declared.encoded.PageDecoding.TheVariants.{Utf8Alone, Fatal, ByPage}

-- the encoding that a label names, or none if no label is given
abbrev pub IsEncodingAsked : Option (List ℕ) → Option Encoding → Type 0
IsEncodingAsked None encoding = encoding ≡ None
IsEncodingAsked (Some label) None = ⊥
IsEncodingAsked (Some label) (Some encoding) = encoding_of label ≡ Some encoding

-- a label is given that names no encoding
abbrev pub IsUnknownLabel : Option (List ℕ) → Type 0
IsUnknownLabel None = ⊥
IsUnknownLabel (Some label) = encoding_of label ≡ None

-- how pages are decoded with this declared encoding, or none, by whether bytes that are invalid in it are to be refused
abbrev pub decoding_of : Bool → Option Encoding → PageDecoding
decoding_of true None = Utf8Alone
decoding_of true (Some encoding) = Fatal encoding
decoding_of false said = ByPage said

-- The bytes of a page are all in its encoding, and the text is what they decode to.
pub record IsTextIn (by : Encoding) (bytes text : List ℕ) : Type 0 where
  pub no_error : IsIn by bytes
  pub decoded : text ≡ encode_utf8_all (decoded by bytes)

-- The text of a page that a source gave, by a table of references. As UTF-8 alone it is the bytes that the source had left, up to its
-- end. Else it is what all of them decode to by the encoding of the page, and if errors are fatal there is none in them.
abbrev pub IsTextOf : List NamedReference → PageDecoding → Option (List ℕ) → Option (List ℕ) → List ℕ → Type 0
IsTextOf references Utf8Alone unread left text = Consumes unread left text × IsAtEnd left
IsTextOf references (Fatal said) unread left text =
    IfSome unread (λ bytes. IsTextIn (encoding_by references (Some said) None bytes) bytes text)
IsTextOf references (ByPage said) unread left text = IfSome unread (λ bytes. text ≡ text_of_page references said None bytes)
