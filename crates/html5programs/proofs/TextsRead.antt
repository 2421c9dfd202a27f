-- Pages that are read by the encoding that they are in.
use Rattle.std.proofs.Common.{◌≡◌, ℕ, Bool, true, false, List, [], ◌++◌, Option, None, Some, IfSome, Result, Ok, Err, refl, sym, ap, subst, ◌∙◌, append-nil}
use Rattle.std.specs.Prelude.{IsOk, OnOk, if◌then◌else◌}
use Rattle.std.specs.Io.KnownBytes.{Consumes, IsAtEnd, prepend_known}
use Rattle.std.specs.Str.{IsUtf8}
use Rattle.std.proofs.lemmas.Bool.{true≢false}
use Rattle.decoded_source.specs.Texts.{text_up_to_error}
use Rattle.decoded_source.proofs.Fatal.{sound}
use Rattle.html5encodings.specs.Decoding.{start}
use Rattle.html5encodings.specs.declared.encoding.Encoding.{Encoding}
use Rattle.html5sniffing.specs.PageEncoding.{encoding_by, text_of_page}
use Rattle.html5stream.specs.Pages.{ReadsPage}
use Rattle.html5programs.specs.declared.encoded.PageDecoding.TheVariants.{ByPage, Fatal, Utf8Alone}
use Rattle.html5programs.specs.Encodings.{IsTextIn}
use Rattle.html5programs.specs.Filtering.{Making, ReadsText}
use Rattle.markup5ever.specs.NamedReferences.{NamedReference}

-- what was read of a known text, up to its end, is that text
whole-text : (unread left : Option (List ℕ)) (text bytes : List ℕ) → unread ≡ Some text → Consumes unread left bytes → IsAtEnd left → bytes ≡ text
whole-text None left text bytes is given end = absurd (cc is)
whole-text (Some x) None text bytes is given end = absurd given
whole-text (Some x) (Some y) text bytes is given end =
    let same : x ≡ text = cc is in
    sym (append-nil bytes) ∙ ap (λ l. bytes ++ l) (sym end) ∙ sym given ∙ same

module _ {T M S : Type 0} (means : Making T M S) (references : List NamedReference) (said : Option Encoding) where
  page-text : (known unread left : Option (List ℕ)) (bytes : List ℕ) → IfSome known (λ all. unread ≡ Some (text_of_page references said None all))
      → Consumes unread left bytes → IsAtEnd left → IfSome known (λ all. bytes ≡ text_of_page references said None all)
  page-text None unread left bytes is given end = tt
  page-text (Some all) unread left bytes is given end = whole-text unread left (text_of_page references said None all) bytes is given end

  pub reads-by_page : (known later unread left : Option (List ℕ)) (before after : S) → IfSome known (λ all. unread ≡ Some (text_of_page references said None all))
      → ReadsPage (λ s bytes. means.handed s (means.page references s bytes)) (record { unread = unread; left = left; before = means.begun before; after = after })
      → ReadsText means references (ByPage said) known later before after
  reads-by_page known later unread left before after is reads = record {
    text = reads.bytes;
    utf8 = reads.utf8;
    told = reads.told;
    whole = page-text known unread left reads.bytes is reads.consumed reads.at_end;
  }

-- what a source still gives whose first bytes were read: these, and then the rest; it isn't asked again once it was at its end
pub given-again : (ended : Bool) (waiting front : List ℕ) (left mid : Option (List ℕ)) → left ≡ mid → waiting ≡ front → (ended ≡ true → IsAtEnd mid)
    → IfSome mid (λ rest. (if ended then Some waiting else prepend_known waiting left) ≡ Some (front ++ rest))
given-again ended waiting front left None same is end = tt
given-again true waiting front left (Some rest) same is end =
    ap Some is ∙ ap Some (sym (append-nil front)) ∙ ap (λ l. Some (front ++ l)) (sym (end refl))
given-again false waiting front left (Some rest) same is end = ap (prepend_known waiting) same ∙ ap (λ l. Some (l ++ rest)) is

-- the bytes of a page are its front and the rest, so its text up to the first error is that of both
pub text-opened_fatally : (known mid fronted : Option (List ℕ)) (front : List ℕ) (encoding : Encoding) (encoding_by : List ℕ → Encoding) (unread : Option (List ℕ))
    → Consumes known mid front → IfSome known (λ bytes. encoding ≡ encoding_by bytes) → IfSome mid (λ rest. fronted ≡ Some (front ++ rest))
    → IfSome fronted (λ bytes. unread ≡ Some (text_up_to_error (start encoding) bytes))
    → IfSome known (λ bytes. unread ≡ Some (text_up_to_error (start (encoding_by bytes)) bytes))
text-opened_fatally None mid fronted front encoding encoding_by unread given is same text = tt
text-opened_fatally (Some bytes) None fronted front encoding encoding_by unread given is same text = absurd given
text-opened_fatally (Some bytes) (Some rest) fronted front encoding encoding_by unread given is same text =
    let text_is : unread ≡ Some (text_up_to_error (start encoding) (front ++ rest)) =
    subst (λ (k : Option (List ℕ)). IfSome k (λ bytes. unread ≡ Some (text_up_to_error (start encoding) bytes))) same text in
    text_is ∙ ap (λ e. Some (text_up_to_error (start e) (front ++ rest))) is ∙ ap (λ l. Some (text_up_to_error (start (encoding_by bytes)) l)) (sym given)

module _ {T M S : Type 0} (means : Making T M S) (references : List NamedReference) (said : Encoding) where
  whole-fatally : (known unread left : Option (List ℕ)) (text : List ℕ) → IfSome known (λ all. unread ≡ Some (text_up_to_error (start (encoding_by references (Some said) None all)) all))
      → Consumes unread left text → IsAtEnd left → IsUtf8 text
      → IfSome known (λ all. IsTextIn (encoding_by references (Some said) None all) all text)
  whole-fatally None unread left text is given end utf8 = tt
  whole-fatally (Some all) unread left text is given end utf8 =
      let encoding = encoding_by references (Some said) None all in
      let same = whole-text unread left (text_up_to_error (start encoding) all) text is given end in
      let no_error = sound (start encoding) all (subst IsUtf8 same utf8) in
      record { no_error = no_error.no_error; decoded = same ∙ no_error.text }

  pub reads-fatally : (known later unread left : Option (List ℕ)) (before after : S)
      → IfSome known (λ all. unread ≡ Some (text_up_to_error (start (encoding_by references (Some said) None all)) all))
      → ReadsPage (λ s bytes. means.handed s (means.page references s bytes)) (record { unread = unread; left = left; before = means.begun before; after = after })
      → ReadsText means references (Fatal said) known later before after
  reads-fatally known later unread left before after is reads = record {
    text = reads.bytes;
    utf8 = reads.utf8;
    told = reads.told;
    whole = whole-fatally known unread left reads.bytes is reads.consumed reads.at_end reads.utf8;
  }

-- an answer in other words says what it said
pub on_ok-of : {A B C D : Type 0} (r : Result A B) (q : Result C D) (P : Type 0) → OnOk q (IsOk r) → OnOk r P → OnOk q P
on_ok-of r (Err e) P sure holds = tt
on_ok-of (Ok x) (Ok y) P sure holds = holds
on_ok-of (Err d) (Ok y) P sure holds = absurd (true≢false (sym sure))
