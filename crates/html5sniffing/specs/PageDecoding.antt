-- A page's bytes that are pushed, and what is still to come of it.
use Rattle.std.specs.Prelude.{◌≡◌, ◌<◌, ℕ, Bool, true, false, List, [], ◌++◌, length, Option, None, Some}
use Rattle.decoded_source.specs.Texts.{text_of}
use Rattle.decoded_source.specs.declared.source.ErrorMode.TheVariants.{Replacement}
use Rattle.html5encodings.specs.Decoding.{start}
use Rattle.html5encodings.specs.declared.encoding.Encoding.{Encoding}
use Rattle.html5sniffing.specs.PageEncoding.{encoding_by, text_of_page}
use Rattle.html5sniffing.specs.declared.page_decoder.Known.{Known}
use Rattle.markup5ever.specs.NamedReferences.{NamedReference}

pub record PageDecoding : Type 0 where
  -- the encoding declared for the page, and its encoding if nothing tells
  pub said : Option Encoding
  pub fallback : Option Encoding
  -- the bytes that were pushed, while the encoding isn't known
  pub held : List ℕ
  -- the encoding, once it is known, and where its decoder stands
  pub known : Option Known
  -- the bytes were ended, and none came after that
  pub ended : Bool

-- nothing was pushed
abbrev pub page_start : Option Encoding → Option Encoding → PageDecoding
page_start said fallback = record { said = said; fallback = fallback; held = []; known = None; ended = false }

pub record IsUnbegun (d : PageDecoding) : Type 0 where
  pub none_held : d.held ≡ []
  pub unknown : d.known ≡ None

-- the bytes held while the encoding isn't known are less than the front
abbrev pub HoldsFront : Option Known → List ℕ → Type 0
HoldsFront None held = length held < 65536
HoldsFront (Some known) held = held ≡ []

-- the encoding that is known, or else this one
abbrev pub encoding_or : Option Known → Encoding → Encoding
encoding_or None other = other
encoding_or (Some known) other = known.encoding

-- the encoding of the page, if these bytes are all that are still to come
abbrev pub encoding_with : List NamedReference → PageDecoding → List ℕ → Encoding
encoding_with references d rest = encoding_or d.known (encoding_by references d.said d.fallback (d.held ++ rest))

-- the text of these bytes by the decoder that is known, or else this one
abbrev pub text_or : Option Known → List ℕ → List ℕ → List ℕ
text_or None rest other = other
text_or (Some known) rest other = text_of Replacement (Some known.decoder) rest

-- the text that is still to come, if these bytes are
abbrev pub text_with : List NamedReference → PageDecoding → List ℕ → List ℕ
text_with references d rest = text_or d.known rest (text_of_page references d.said d.fallback (d.held ++ rest))

-- These bytes came, and this text of them. Whatever follows, the encoding is what it was to be, and so is the text.
pub record GoesOn (references : List NamedReference) (old new : PageDecoding) (bytes text : List ℕ) : Type 0 where
  pub texts : (rest : List ℕ) → text_with references old (bytes ++ rest) ≡ text ++ text_with references new rest
  pub encodings : (rest : List ℕ) → encoding_with references old (bytes ++ rest) ≡ encoding_with references new rest
  pub said : new.said ≡ old.said
  pub fallback : new.fallback ≡ old.fallback

-- the bytes were ended: what comes after that is decoded anew, in the same encoding
abbrev pub anew : List NamedReference → PageDecoding → PageDecoding
anew references d = record {
  said = d.said;
  fallback = d.fallback;
  held = [];
  known = Some (record { encoding = encoding_with references d []; decoder = start (encoding_with references d []) });
  ended = true;
}
