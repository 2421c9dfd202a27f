-- What is still to come of a page, before bytes are pushed and after that.
use Rattle.std.proofs.Common.{◌≡◌, ℕ, Bool, true, false, List, [], ◌++◌, Option, None, Some, refl, sym, ap, ◌∙◌, subst, append_assoc, append-nil}
use Rattle.std.specs.Prelude.{encode_utf8_all}
use Rattle.std.proofs.lemmas.Str.{encodes-append}
use Rattle.decoded_source.specs.Texts.{text_of}
use Rattle.decoded_source.specs.declared.source.ErrorMode.TheVariants.{Replacement}
use Rattle.decoded_source.proofs.Pieces.{text_of-piece}
use Rattle.html5encodings.specs.Decoding.{at_end, decoded, given, start, state_after}
use Rattle.html5encodings.specs.declared.encoding.Encoding.{Encoding}
use Rattle.html5encodings.specs.declared.state.State.{State}
use Rattle.html5sniffing.specs.PageDecoding.{GoesOn, PageDecoding, anew, encoding_or, encoding_with, text_or, text_with}
use Rattle.html5sniffing.specs.PageEncoding.{IsWhole, encoding_by, text_of_page}
use Rattle.html5sniffing.proofs.FrontLemmas.{by-whole}
use Rattle.html5sniffing.specs.declared.page_decoder.Known.{Known}
use Rattle.markup5ever.specs.NamedReferences.{NamedReference}

-- nothing came, and no text of it
pub goes_on-none : (references : List NamedReference) (d : PageDecoding) (bytes : List ℕ) → bytes ≡ [] → GoesOn references d d bytes []
goes_on-none references d bytes none = subst (λ (l : List ℕ). GoesOn references d d l []) (sym none) (record {
  texts = λ rest. refl;
  encodings = λ rest. refl;
  said = refl;
  fallback = refl;
})

module _ (references : List NamedReference) (d : PageDecoding) where
  -- the page with these bytes
  abbrev page : List ℕ → List ℕ
  page = text_of_page references d.said d.fallback

  abbrev by : List ℕ → Encoding
  by = encoding_by references d.said d.fallback

  text-unknown : d.known ≡ None → (rest : List ℕ) → text_with references d rest ≡ page (d.held ++ rest)
  text-unknown unknown rest = ap (λ (k : Option Known). text_or k rest (page (d.held ++ rest))) unknown

  encoding-unknown : d.known ≡ None → (rest : List ℕ) → encoding_with references d rest ≡ by (d.held ++ rest)
  encoding-unknown unknown rest = ap (λ (k : Option Known). encoding_or k (by (d.held ++ rest))) unknown

  text-known : (k : Known) → d.known ≡ Some k → (rest : List ℕ) → text_with references d rest ≡ text_of Replacement (Some k.decoder) rest
  text-known k known rest = ap (λ (m : Option Known). text_or m rest (page (d.held ++ rest))) known

  encoding-known : (k : Known) → d.known ≡ Some k → (rest : List ℕ) → encoding_with references d rest ≡ k.encoding
  encoding-known k known rest = ap (λ (m : Option Known). encoding_or m (by (d.held ++ rest))) known

  -- the bytes are held
  goes_on-held : (bytes : List ℕ) → d.known ≡ None → GoesOn references d (record d { held = d.held ++ bytes }) bytes []
  goes_on-held bytes unknown = record {
    texts = λ rest. text-unknown unknown (bytes ++ rest) ∙ ap page (sym (append_assoc d.held bytes rest))
        ∙ sym (ap (λ (k : Option Known). text_or k rest (page ((d.held ++ bytes) ++ rest))) unknown);
    encodings = λ rest. encoding-unknown unknown (bytes ++ rest) ∙ ap by (sym (append_assoc d.held bytes rest))
        ∙ sym (ap (λ (k : Option Known). encoding_or k (by ((d.held ++ bytes) ++ rest))) unknown);
    said = refl;
    fallback = refl;
  }

  -- they tell the encoding
  goes_on-opened : (bytes : List ℕ) (e : Encoding) → d.known ≡ None → IsWhole references d.said d.fallback (d.held ++ bytes) → e ≡ by (d.held ++ bytes)
      → GoesOn references d (record d { held = []; known = Some (record { encoding = e; decoder = state_after (start e) (d.held ++ bytes) }) }) bytes
      (encode_utf8_all (given (start e) (d.held ++ bytes)))
  goes_on-opened bytes e unknown whole is =
      let all : List ℕ = d.held ++ bytes in record {
        texts = λ rest. text-unknown unknown (bytes ++ rest) ∙ ap page (sym (append_assoc d.held bytes rest))
            ∙ ap (λ b. encode_utf8_all (decoded b (all ++ rest))) (by-whole references d.said d.fallback all rest whole ∙ sym is)
            ∙ text_of-piece (start e) all rest;
        encodings = λ rest. encoding-unknown unknown (bytes ++ rest) ∙ ap by (sym (append_assoc d.held bytes rest)) ∙ by-whole references d.said d.fallback all rest whole ∙ sym is;
        said = refl;
        fallback = refl;
      }

  -- the encoding was known
  goes_on-known : (k : Known) (bytes : List ℕ) → d.known ≡ Some k
      → GoesOn references d (record d { known = Some (record k { decoder = state_after k.decoder bytes }); ended = false }) bytes
      (encode_utf8_all (given k.decoder bytes))
  goes_on-known k bytes known = record {
    texts = λ rest. text-known k known (bytes ++ rest) ∙ text_of-piece k.decoder bytes rest;
    encodings = λ rest. encoding-known k known (bytes ++ rest);
    said = refl;
    fallback = refl;
  }

  -- the held bytes are the page
  text-held : (e : Encoding) → d.known ≡ None → e ≡ by d.held
      → encode_utf8_all (given (start e) d.held) ++ encode_utf8_all (at_end (state_after (start e) d.held)) ≡ text_with references d []
  text-held e unknown is =
      sym (encodes-append (given (start e) d.held) (at_end (state_after (start e) d.held)))
      ∙ ap (λ b. encode_utf8_all (decoded b d.held)) is ∙ ap page (sym (append-nil d.held)) ∙ sym (text-unknown unknown [])

-- a decoder `s` that is seen as `t`

pub finished : (references : List NamedReference) (s t : PageDecoding) (k : Known) (h text last all : List ℕ) → s ≡ t → t.known ≡ None → h ≡ s.held
    → k.encoding ≡ encoding_by references s.said s.fallback h → k.decoder ≡ state_after (start k.encoding) h
    → text ≡ encode_utf8_all (given (start k.encoding) h) → last ≡ encode_utf8_all (at_end k.decoder) → all ≡ text ++ last
    → all ≡ text_with references t []
finished references s t k h text last all same unknown is encoding decoder text_is last_is parts =
    let own : h ≡ t.held = is ∙ ap (λ (d : PageDecoding). d.held) same in
    let by : k.encoding ≡ encoding_by references t.said t.fallback t.held =
    encoding ∙ ap (λ (d : PageDecoding). encoding_by references d.said d.fallback h) same ∙ ap (encoding_by references t.said t.fallback) own in
    parts ∙ ap (λ l. l ++ last) (text_is ∙ ap (λ l. encode_utf8_all (given (start k.encoding) l)) own)
    ∙ ap (λ l. encode_utf8_all (given (start k.encoding) t.held) ++ l) (last_is ∙ ap (λ m. encode_utf8_all (at_end m)) (decoder ∙ ap (state_after (start k.encoding)) own))
    ∙ text-held references t k.encoding unknown by

pub begun_anew : (references : List NamedReference) (s t : PageDecoding) (k next : Known) → s ≡ t → s.known ≡ Some k → s.held ≡ []
    → next.encoding ≡ k.encoding → next.decoder ≡ start k.encoding → record s { known = Some next; ended = true } ≡ anew references t
begun_anew references s t k next same is none encoding decoder =
    let known : t.known ≡ Some k = sym (ap (λ (d : PageDecoding). d.known) same) ∙ is in
    ap (λ (e : Encoding). record s { known = Some (record { encoding = e; decoder = next.decoder }); ended = true }) encoding
    ∙ ap (λ (m : State). record s { known = Some (record { encoding = k.encoding; decoder = m }); ended = true }) decoder
    ∙ ap (λ (l : List ℕ). record s { held = l; known = Some (record { encoding = k.encoding; decoder = start k.encoding }); ended = true }) none
    ∙ ap (λ (d : PageDecoding). record d { held = []; known = Some (record { encoding = k.encoding; decoder = start k.encoding }); ended = true }) same
    ∙ sym (ap (λ (e : Encoding). record t { held = []; known = Some (record { encoding = e; decoder = start e }); ended = true }) (encoding-known references t k known []))

pub held : (references : List NamedReference) (s t : PageDecoding) (h bytes : List ℕ) → s ≡ t → t.known ≡ None → h ≡ s.held ++ bytes
    → GoesOn references t (record s { held = h }) bytes []
held references s t h bytes same unknown is =
    subst (λ (d : PageDecoding). GoesOn references t d bytes [])
    (sym (ap (λ (l : List ℕ). record s { held = l }) is ∙ ap (λ (d : PageDecoding). record d { held = d.held ++ bytes }) same))
    (goes_on-held references t bytes unknown)

pub opened : (references : List NamedReference) (s t : PageDecoding) (k : Known) (h bytes none text : List ℕ) → s ≡ t → t.known ≡ None → h ≡ s.held ++ bytes
    → none ≡ [] → IsWhole references s.said s.fallback h → k.encoding ≡ encoding_by references s.said s.fallback h → k.decoder ≡ state_after (start k.encoding) h
    → text ≡ encode_utf8_all (given (start k.encoding) h)
    → GoesOn references t (record s { held = none; known = Some k }) bytes text
opened references s t k h bytes none text same unknown is empty whole encoding decoder text_is =
    let all : h ≡ t.held ++ bytes = is ∙ ap (λ (d : PageDecoding). d.held ++ bytes) same in
    let by : k.encoding ≡ encoding_by references t.said t.fallback (t.held ++ bytes) =
    encoding ∙ ap (λ (d : PageDecoding). encoding_by references d.said d.fallback h) same ∙ ap (encoding_by references t.said t.fallback) all in
    let state : k.decoder ≡ state_after (start k.encoding) (t.held ++ bytes) = decoder ∙ ap (state_after (start k.encoding)) all in
    let now : PageDecoding = record t { held = []; known = Some (record { encoding = k.encoding; decoder = state_after (start k.encoding) (t.held ++ bytes) }) } in
    let new : record s { held = none; known = Some k } ≡ now =
    ap (λ (l : List ℕ). record s { held = l; known = Some k }) empty
    ∙ ap (λ (m : State). record s { held = []; known = Some (record { encoding = k.encoding; decoder = m }) }) state
    ∙ ap (λ (d : PageDecoding). record d { held = []; known = Some (record { encoding = k.encoding; decoder = state_after (start k.encoding) (t.held ++ bytes) }) }) same in
    subst (λ (d : PageDecoding). GoesOn references t d bytes text) (sym new)
    (subst (λ (l : List ℕ). GoesOn references t now bytes l) (sym (text_is ∙ ap (λ l. encode_utf8_all (given (start k.encoding) l)) all))
    (goes_on-opened references t bytes k.encoding unknown (subst (λ (l : List ℕ). IsWhole references t.said t.fallback l) all (subst (λ (d : PageDecoding). IsWhole references d.said d.fallback h) same whole)) by))

pub known : (references : List NamedReference) (s t : PageDecoding) (k : Known) (m : State) (bytes text : List ℕ) → s ≡ t → s.known ≡ Some k
    → m ≡ state_after k.decoder bytes → text ≡ encode_utf8_all (given k.decoder bytes)
    → GoesOn references t (record s { known = Some (record k { decoder = m }); ended = false }) bytes text
known references s t k m bytes text same is state text_is =
    let new : record s { known = Some (record k { decoder = m }); ended = false } ≡ record t { known = Some (record k { decoder = state_after k.decoder bytes }); ended = false } =
    ap (λ (n : State). record s { known = Some (record k { decoder = n }); ended = false }) state
    ∙ ap (λ (d : PageDecoding). record d { known = Some (record k { decoder = state_after k.decoder bytes }); ended = false }) same in
    subst (λ (d : PageDecoding). GoesOn references t d bytes text) (sym new)
    (subst (λ (l : List ℕ). GoesOn references t (record t { known = Some (record k { decoder = state_after k.decoder bytes }); ended = false }) bytes l) (sym text_is)
    (goes_on-known references t k bytes (ap (λ (d : PageDecoding). d.known) (sym same) ∙ is)))
