-- The printed output for a page is its kept part.
use Rattle.std.proofs.Common.{◌≡◌, ℕ, true, Option, List, [], ◌++◌, refl, ap, sym, ◌∙◌, subst, append_assoc, encode_utf8_all}
use Rattle.std.proofs.lemmas.List.{append-nil}
use Rattle.std.proofs.lemmas.List.Concat.{flat_map-append}
use Rattle.std.proofs.lemmas.Str.{encodes-append}
use Rattle.html5ever_interface.specs.Sink.{Message}
use Rattle.html5ever_interface.specs.Token.{Told}
use Rattle.html5stream.specs.Pages.{Passage, ReadsPage, ReadsPageItems, StopsPage, passage_of, runs_after, runs_handed, runs_page}
use Rattle.html5stream.proofs.Handed.{between-handed, kept-handed}
use Rattle.html5stream.proofs.ByItems.{page-items, runs-composed}
use Rattle.markup5ever.specs.NamedReferences.{NamedReference, IsTable}
use Rattle.html5cleaner.proofs.SameReadings.{page-same}
use Rattle.html5write.specs.Pieces.{Piece, pieces_text, piece_text}
use Rattle.std.specs.List.{list_all}
use Rattle.html5policy.specs.Policy.{PolicyOf}
use Rattle.html5cleaner.specs.Allowed.{is_clean}
use Rattle.html5cleaner.specs.Balance.{AreClean, end_tags, is_end, written_by}
use Rattle.html5cleaner.proofs.GoodItems.{IsSoundTree, are_clean-step}
use Rattle.html5cleaner.specs.Shape.{shape_of}
use Rattle.html5cleaner.specs.Clean.{Cleaned, at_start, clean_step, kept_where}
use Rattle.html5cleaner.specs.Cleaning.{Cleaning, PageItems, Standing, cleaning_step, page_bytes, page_messages, page_start, printed_of}

-- where these pieces were kept, and printed after other bytes
abbrev pub printed_after : List ℕ → Cleaned → Cleaning
printed_after before c = record { policy = c.policy; printed = before ++ page_bytes c.pieces; hidden = c.hidden; opened = c.opened }

pub page_bytes-append : (first second : List Piece) → page_bytes (first ++ second) ≡ page_bytes first ++ page_bytes second
page_bytes-append first second = ap encode_utf8_all (flat_map-append piece_text first second) ∙ encodes-append (pieces_text first) (pieces_text second)

printed-step : (before : List ℕ) (c : Cleaned) (run : List ℕ) (told : Told) (line : ℕ)
    → cleaning_step (printed_after before c) run told line ≡ printed_after before (clean_step c run told line)
printed-step before c run told line =
    let more = written_by (shape_of c.policy) (is_end told) c.opened (kept_where c.policy c.hidden.depth run told) in
    let printed : (before ++ page_bytes c.pieces) ++ page_bytes more ≡ before ++ page_bytes (c.pieces ++ more) =
    append_assoc before (page_bytes c.pieces) (page_bytes more) ∙ ap (λ l. before ++ l) (sym (page_bytes-append c.pieces more)) in
    ap (λ l. record { policy = c.policy; printed = l; hidden = (clean_step c run told line).hidden; opened = (clean_step c run told line).opened }) printed

pub printed-handed : (s : Standing) (M : List Message) → runs_handed cleaning_step (page_start s) M ≡ printed_after s.printed (runs_handed clean_step (at_start s.policy) M)
printed-handed s M =
    between-handed clean_step cleaning_step (λ c p. p ≡ printed_after s.printed c)
    (λ c p run told line same. ap (λ q. cleaning_step q run told line) same ∙ printed-step s.printed c run told line)
    (at_start s.policy) (page_start s) M
    (ap (λ l. record { policy = s.policy; printed = l; hidden = (at_start s.policy).hidden; opened = [] }) (sym (append-nil s.printed)))

-- ---- the policy stays

pub policy-handed : (policy : PolicyOf) (M : List Message) → (runs_handed clean_step (at_start policy) M).policy ≡ policy
policy-handed policy M = kept-handed clean_step (λ c. c.policy ≡ policy) (λ c run told line same. same) (at_start policy) M refl

-- ---- what is written stays clean

-- what a handler wrote is clean
abbrev IsCleaned : Cleaned → Type 0
IsCleaned c = AreClean c.policy c.pieces c.opened

clean-by_its_policy : (policy : PolicyOf) (M : List Message) → IsSoundTree policy → IsCleaned (runs_handed clean_step (at_start policy) M)
clean-by_its_policy policy M sound =
    (kept-handed clean_step (λ c. IsSoundTree c.policy × IsCleaned c) (λ c run told line s. (s.0, are_clean-step c run told line s.0 s.1)) (at_start policy) M
    (sound, record { written = refl; closing = refl })).1

pub clean-handed : (policy : PolicyOf) (M : List Message) → IsSoundTree policy → list_all (is_clean policy) (runs_handed clean_step (at_start policy) M).pieces ≡ true
clean-handed policy M sound =
    subst (λ (p : PolicyOf). list_all (is_clean p) (runs_handed clean_step (at_start policy) M).pieces ≡ true) (policy-handed policy M) (clean-by_its_policy policy M sound).written

-- the end tags of the elements that are open are clean, too
pub can-close-handed : (policy : PolicyOf) (M : List Message) → IsSoundTree policy → list_all (is_clean policy) (end_tags (runs_handed clean_step (at_start policy) M).opened) ≡ true
can-close-handed policy M sound =
    subst (λ (p : PolicyOf). list_all (is_clean p) (end_tags (runs_handed clean_step (at_start policy) M).opened) ≡ true) (policy-handed policy M) (clean-by_its_policy policy M sound).closing

-- ---- pages

abbrev standing : Cleaning → Standing
standing c = record { policy = c.policy; printed = c.printed }

standing-handed : (s : Standing) (M : List Message) → standing (runs_handed cleaning_step (page_start s) M) ≡ printed_of s M
standing-handed s M =
    ap standing (printed-handed s M)
    ∙ ap (λ (p : PolicyOf). record { policy = p; printed = s.printed ++ page_bytes (runs_handed clean_step (at_start s.policy) M).pieces }) (policy-handed s.policy M)

-- a page that was read is printed as it is kept
pub reads_printed : (references : List NamedReference) (unread left : Option (List ℕ)) (before : Standing) (after : Cleaning)
    → ReadsPage (runs_after cleaning_step references) (passage_of (λ k. k) unread left (page_start before) after)
    → ReadsPage (λ s bytes. printed_of s (page_messages references s bytes)) (passage_of (λ k. k) unread left before (standing after))
reads_printed references unread left before after read = record {
  bytes = read.bytes;
  consumed = read.consumed;
  at_end = read.at_end;
  utf8 = read.utf8;
  told = ap standing (read.told
      ∙ ap (runs_handed cleaning_step (page_start before)) (page-same cleaning_step clean_step references (page_start before) (at_start before.policy) read.bytes))
      ∙ standing-handed before (page_messages references before read.bytes);
}

-- and as the messages of its items say
pub items_printed : (references : List NamedReference) (known : Passage Standing) → IsTable references
    → ReadsPage (λ s bytes. printed_of s (page_messages references s bytes)) known
    → ReadsPageItems (PageItems references) printed_of known
items_printed references known table =
    page-items (page_messages references) printed_of (PageItems references) known
    (λ bytes. runs-composed clean_step references (at_start known.before.policy) bytes table)

pub stops_printed : (references : List NamedReference) (unread left : Option (List ℕ)) (before : Standing) (after : Cleaning)
    → StopsPage (runs_page cleaning_step references) (runs_handed cleaning_step) (passage_of (λ k. k) unread left (page_start before) after)
    → StopsPage (page_messages references) printed_of (passage_of (λ k. k) unread left before (standing after))
stops_printed references unread left before after read = record {
  text = read.text;
  rest = read.rest;
  consumed = read.consumed;
  utf8 = read.utf8;
  told = read.told;
  untold = read.untold;
  parts = page-same clean_step cleaning_step references (at_start before.policy) (page_start before) read.text ∙ read.parts;
  state = ap standing read.state ∙ standing-handed before read.told;
}
