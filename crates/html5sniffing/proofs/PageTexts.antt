-- What was read of a page's text, as a passage of it.
use Rattle.std.proofs.Common.{◌≡◌, ℕ, List, [], ◌++◌, Option, None, Some, IfSome, refl, sym, ap, ◌∙◌, append_assoc, append-nil}
use Rattle.std.specs.Prelude.{option_map, encode_utf8_all}
use Rattle.std.specs.Io.KnownBytes.{Consumes, IsAtEnd}
use Rattle.html5ever_interface.specs.Sink.{Message, stepped}
use Rattle.html5ever_interface.specs.Token.{TagOf, Told}
use Rattle.html5encodings.specs.Decoding.{decoded}
use Rattle.html5encodings.specs.declared.encoding.Encoding.{Encoding}
use Rattle.html5stream.specs.Pages.{ReadsPage, ReadsPageItems, StopsPage, runs_handed, tags_handed}
use Rattle.html5sniffing.specs.Pages.{text_passage}

-- the bytes of a page are its front and the rest, so its text is that of both
pub text-opened : (known mid : Option (List ℕ)) (front : List ℕ) (encoding : Encoding) (encoding_by : List ℕ → Encoding) (unread : Option (List ℕ))
    → Consumes known mid front → IfSome known (λ bytes. encoding ≡ encoding_by bytes)
    → IfSome mid (λ rest. unread ≡ Some (encode_utf8_all (decoded encoding (front ++ rest))))
    → IfSome known (λ bytes. unread ≡ Some (encode_utf8_all (decoded (encoding_by bytes) bytes)))
text-opened None mid front encoding encoding_by unread given is text = tt
text-opened (Some bytes) None front encoding encoding_by unread given is text = absurd given
text-opened (Some bytes) (Some rest) front encoding encoding_by unread given is text =
    text ∙ ap (λ e. Some (encode_utf8_all (decoded e (front ++ rest)))) is ∙ ap (λ l. Some (encode_utf8_all (decoded (encoding_by bytes) l))) (sym given)

-- text that was read to its end is all of the text
whole-consumed : (text : List ℕ) (unread left : Option (List ℕ)) (bytes : List ℕ) → unread ≡ Some text → Consumes unread left bytes → IsAtEnd left → text ≡ bytes ++ []
whole-consumed text None left bytes is given end = absurd (cc is)
whole-consumed text (Some x) None bytes is given end = absurd given
whole-consumed text (Some x) (Some y) bytes is given end =
    let same : x ≡ text = cc is in
    sym same ∙ given ∙ ap (λ l. bytes ++ l) end

-- text that was read in part is a prefix of it
part-consumed : (text : List ℕ) (unread left : Option (List ℕ)) (front rest : List ℕ) → unread ≡ Some text → Consumes unread left (front ++ rest)
    → (later : List ℕ) × (text ≡ (front ++ later) ++ [])
part-consumed text None left front rest is given = absurd (cc is)
part-consumed text (Some x) None front rest is given = absurd given
part-consumed text (Some x) (Some y) front rest is given =
    let same : x ≡ text = cc is in
    (rest ++ y, sym same ∙ given ∙ append_assoc front rest y ∙ sym (append-nil (front ++ (rest ++ y))))

module _ {S : Type 0} (text_of : List ℕ → List ℕ) (known unread left : Option (List ℕ)) (before after : S) (text_is : IfSome known (λ bytes. unread ≡ Some (text_of bytes))) where
  text-consumed : (bytes : List ℕ) → Consumes unread left bytes → IsAtEnd left → Consumes (option_map text_of known) (Some []) bytes
  text-consumed bytes given end = consumed known text_is where
    consumed : (known : Option (List ℕ)) → IfSome known (λ bytes. unread ≡ Some (text_of bytes)) → Consumes (option_map text_of known) (Some []) bytes
    consumed None is = tt
    consumed (Some all) is = whole-consumed (text_of all) unread left bytes is given end

  pub text-read : (afterwards : S → List ℕ → S) → ReadsPage afterwards (record { unread = unread; left = left; before = before; after = after })
      → ReadsPage afterwards (text_passage text_of known before after)
  text-read afterwards reads = record {
    bytes = reads.bytes;
    consumed = text-consumed reads.bytes reads.consumed reads.at_end;
    at_end = refl;
    utf8 = reads.utf8;
    told = reads.told;
  }

  pub text-read_items : (composes : S → List ℕ → List Message → List Message → Type 0) (handed : S → List Message → S)
      → ReadsPageItems composes handed (record { unread = unread; left = left; before = before; after = after })
      → ReadsPageItems composes handed (text_passage text_of known before after)
  text-read_items composes handed reads = record {
    bytes = reads.bytes;
    consumed = text-consumed reads.bytes reads.consumed reads.at_end;
    at_end = refl;
    utf8 = reads.utf8;
    tells = reads.tells;
    ends = reads.ends;
    items = reads.items;
    told = reads.told;
  }

  text-later : (front rest : List ℕ) → Consumes unread left (front ++ rest) → (later : List ℕ) × Consumes (option_map text_of known) (Some []) (front ++ later)
  text-later front rest given = later known text_is where
    later : (known : Option (List ℕ)) → IfSome known (λ bytes. unread ≡ Some (text_of bytes)) → (later : List ℕ) × Consumes (option_map text_of known) (Some []) (front ++ later)
    later None is = ([], tt)
    later (Some all) is = part-consumed (text_of all) unread left front rest is given

  pub text-stopped : (page : S → List ℕ → List Message) (handed : S → List Message → S)
      → StopsPage page handed (record { unread = unread; left = left; before = before; after = after })
      → StopsPage page handed (text_passage text_of known before after)
  text-stopped page handed stops =
      let later = text-later stops.text stops.rest stops.consumed in
      record {
        text = stops.text;
        rest = later.0;
        consumed = later.1;
        utf8 = stops.utf8;
        told = stops.told;
        untold = stops.untold;
        parts = stops.parts;
        state = stops.state;
      }

-- nothing was read of the text
module _ {S : Type 0} (page : S → List ℕ → List Message) (handed : S → List Message → S) (text_of : List ℕ → List ℕ) (before : S) (none : handed before [] ≡ before) where
  pub text-unread : (known : Option (List ℕ)) → StopsPage page handed (text_passage text_of known before before)
  text-unread None = record { text = []; rest = []; consumed = tt; utf8 = ([], (refl, refl)); told = []; untold = page before []; parts = refl; state = sym none }
  text-unread (Some bytes) =
      record { text = []; rest = text_of bytes; consumed = sym (append-nil (text_of bytes)); utf8 = ([], (refl, refl)); told = []; untold = page before []; parts = refl; state = sym none }

-- a handler that was sent nothing is as it was
module _ {S : Type 0} where
  pub tags-none : (step : S → TagOf → ℕ → S) (s : S) → tags_handed step s [] ≡ s
  unfolding tags_handed stepped
  tags-none step s = refl

  pub runs-none : (step : S → List ℕ → Told → ℕ → S) (s : S) → runs_handed step s [] ≡ s
  unfolding runs_handed stepped
  runs-none step s = refl
