-- A source that was read to its end.
use Rattle.std.proofs.Common.{◌≡◌, ℕ, Bool, true, false, List, [], ◌++◌, Option, None, Some, refl, sym, ap, ◌∙◌, append_assoc, append-nil, subst}
use Rattle.std.specs.Prelude.{◌||◌}
use Rattle.std.specs.Io.KnownBytes.{Consumes, Keeps}
use Rattle.std.proofs.lemmas.Str.{IsUtf8-nil}
use Rattle.devices.proofs.KnownBytes.{Consumes-append}
use Rattle.html5check.specs.Located.{Located, located_in}
use Rattle.html5check.specs.Making.{Checks, checks_after}
use Rattle.html5check.specs.Whole.{Grows, IsWhole, StopsWhole}
use Rattle.html5stream.specs.Pages.{ReadsPage, StopsPage}
use Rattle.markup5ever.specs.NamedReferences.{NamedReference}

-- a read that failed consumed nothing
pub kept-consumes : (unread left : Option (List ℕ)) → Keeps unread left → Consumes unread left []
kept-consumes None left keeps = tt
kept-consumes (Some all) None keeps = absurd keeps
kept-consumes (Some all) (Some rest) keeps = sym keeps

-- a text grew by a piece of what was held and of these bytes, of which `more` is held now
pub grown-text : (before piece after held more bytes : List ℕ) → after ≡ before ++ piece → held ++ bytes ≡ piece ++ more
    → after ++ more ≡ (before ++ held) ++ bytes
grown-text before piece after held more bytes grown decoded =
    ap (λ l. l ++ more) grown ∙ append_assoc before piece more ∙ ap (λ l. before ++ l) (sym decoded) ∙ sym (append_assoc before held bytes)

-- this many bytes more were read, after those before
pub reads-more : (unread between left : Option (List ℕ)) (before after : List ℕ) (count : ℕ) → Consumes unread between before
    → Grows between left before after count → Consumes unread left after
reads-more unread between left before after count consumed grows =
    subst (Consumes unread left) (sym grows.grown) (Consumes-append unread between left before grows.bytes consumed grows.consumed)

-- when nothing is held, the text is all
pub all-consumed : (text held : List ℕ) → held ≡ [] → text ++ held ≡ text
all-consumed text held none = ap (λ l. text ++ l) none ∙ append-nil text

-- and then no more
pub stops-more : (unread between left : Option (List ℕ)) (before : List ℕ) → Consumes unread between before → StopsWhole between left → StopsWhole unread left
stops-more unread between left before consumed stops =
    record { bytes = before ++ stops.bytes; consumed = Consumes-append unread between left before stops.bytes consumed stops.consumed }

or-false : (b : Bool) → (b || false) ≡ b
or-false true = refl
or-false false = refl

-- after nothing that was found
pub after-none : (lines : Bool → List ℕ → List Located → List ℕ) (s : Checks) → lines s.found s.file [] ≡ [] → checks_after lines s [] ≡ s
after-none lines s none =
    ap (λ l. record s { printed = s.printed ++ l; found = s.found || false }) none
    ∙ ap (λ l. record s { printed = l; found = s.found || false }) (append-nil s.printed)
    ∙ ap (λ b. record s { found = b }) (or-false s.found)

-- a page that was read whole, and checked
pub page-checked : (lines : Bool → List ℕ → List Located → List ℕ) (references : List NamedReference) (unread left : Option (List ℕ)) (text : List ℕ)
    (before after : Checks)
    → IsWhole unread left text → after ≡ checks_after lines before (located_in references before.template text)
    → ReadsPage (λ s bytes. checks_after lines s (located_in references s.template bytes))
    (record { unread = unread; left = left; before = before; after = after })
page-checked lines references unread left text before after whole checked =
    record { bytes = text; consumed = whole.consumed; at_end = whole.at_end; utf8 = whole.utf8; told = checked }

-- a page of which nothing was printed
pub page-unchecked : (lines : Bool → List ℕ → List Located → List ℕ) (references : List NamedReference) (unread left : Option (List ℕ)) (before after : Checks)
    → lines before.found before.file [] ≡ [] → StopsWhole unread left → after ≡ before
    → StopsPage (λ s bytes. located_in references s.template bytes) (checks_after lines)
    (record { unread = unread; left = left; before = before; after = after })
page-unchecked lines references unread left before after none stops same = record {
  text = [];
  rest = stops.bytes;
  consumed = stops.consumed;
  utf8 = IsUtf8-nil;
  told = [];
  untold = located_in references before.template [];
  parts = refl;
  state = same ∙ sym (after-none lines before none);
}

pub stops-whole : (unread left : Option (List ℕ)) (text : List ℕ) → IsWhole unread left text → StopsWhole unread left
stops-whole unread left text whole = record { bytes = text; consumed = whole.consumed }
