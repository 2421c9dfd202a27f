-- What is written of a page is what its rewriter keeps of it.
use Rattle.std.proofs.Common.{◌≡◌, ℕ, Option, List, ◌++◌, ap, sym, ◌∙◌, append_assoc, encode_utf8_all}
use Rattle.std.proofs.lemmas.List.{append-nil}
use Rattle.std.proofs.lemmas.List.Concat.{flat_map-append}
use Rattle.std.proofs.lemmas.Str.{encodes-append}
use Rattle.html5ever_interface.specs.Sink.{Message}
use Rattle.html5ever_interface.specs.Token.{Told}
use Rattle.html5stream.specs.Pages.{Passage, ReadsPage, ReadsPageItems, StopsPage, passage_of, runs_after, runs_handed, runs_page}
use Rattle.html5stream.proofs.Handed.{between-handed}
use Rattle.html5stream.proofs.ByItems.{page-items, runs-composed}
use Rattle.markup5ever.specs.NamedReferences.{NamedReference, IsTable}
use Rattle.html5write.specs.Pieces.{Piece, pieces_text, piece_text}
use Rattle.html5rewrite.specs.Rewriter.{Rewriter}
use Rattle.html5rewrite.specs.Rewriting.{Rewriting, rewriting_step, start_of_page, written_where}
use Rattle.html5rewrite.specs.Writing.{Written, PageItems, page_bytes, page_messages, start_of_writing, writing_step, written_of}

-- where these pieces were kept, and written after other bytes
abbrev written_after : List ℕ → Rewriting → Written
written_after before r = record { rewriter = r.rewriter; bytes = before ++ page_bytes r.pieces; hidden = r.hidden }

page_bytes-append : (first second : List Piece) → page_bytes (first ++ second) ≡ page_bytes first ++ page_bytes second
page_bytes-append first second = ap encode_utf8_all (flat_map-append piece_text first second) ∙ encodes-append (pieces_text first) (pieces_text second)

written-step : (before : List ℕ) (r : Rewriting) (run : List ℕ) (told : Told) (line : ℕ)
    → writing_step (written_after before r) run told line ≡ written_after before (rewriting_step r run told line)
written-step before r run told line =
    let more = written_where r.rewriter r.hidden.depth run told in
    let bytes : (before ++ page_bytes r.pieces) ++ page_bytes more ≡ before ++ page_bytes (r.pieces ++ more) =
    append_assoc before (page_bytes r.pieces) (page_bytes more) ∙ ap (λ l. before ++ l) (sym (page_bytes-append r.pieces more)) in
    ap (λ l. record { rewriter = r.rewriter; bytes = l; hidden = (rewriting_step r run told line).hidden }) bytes

written-handed : (rewriter : Rewriter) (before : List ℕ) (M : List Message)
    → runs_handed writing_step (start_of_writing rewriter before) M ≡ written_after before (runs_handed rewriting_step (start_of_page rewriter) M)
written-handed rewriter before M =
    between-handed rewriting_step writing_step (λ r w. w ≡ written_after before r)
    (λ r w run told line same. ap (λ v. writing_step v run told line) same ∙ written-step before r run told line)
    (start_of_page rewriter) (start_of_writing rewriter before) M
    (ap (λ l. start_of_writing rewriter l) (sym (append-nil before)))

-- a page that was read is written as it is kept
pub reads-written : (rewriter : Rewriter) (references : List NamedReference) (unread left : Option (List ℕ)) (before : List ℕ) (after : Written)
    → ReadsPage (runs_after writing_step references) (passage_of (λ k. k) unread left (start_of_writing rewriter before) after)
    → ReadsPage (λ s bytes. written_of rewriter s (page_messages rewriter references s bytes)) (passage_of (λ k. k) unread left before after.bytes)
reads-written rewriter references unread left before after read = record {
  bytes = read.bytes;
  consumed = read.consumed;
  at_end = read.at_end;
  utf8 = read.utf8;
  told = ap (λ s. s.bytes) (read.told ∙ written-handed rewriter before (page_messages rewriter references before read.bytes));
}

-- and as the messages of its items say
pub items-written : (rewriter : Rewriter) (references : List NamedReference) (known : Passage (List ℕ)) → IsTable references
    → ReadsPage (λ s bytes. written_of rewriter s (page_messages rewriter references s bytes)) known
    → ReadsPageItems (PageItems rewriter references) (written_of rewriter) known
items-written rewriter references known table =
    page-items (page_messages rewriter references) (written_of rewriter) (PageItems rewriter references) known
    (λ bytes. runs-composed writing_step references (start_of_writing rewriter known.before) bytes table)

pub stops-written : (rewriter : Rewriter) (references : List NamedReference) (unread left : Option (List ℕ)) (before : List ℕ) (after : Written)
    → StopsPage (runs_page writing_step references) (runs_handed writing_step) (passage_of (λ k. k) unread left (start_of_writing rewriter before) after)
    → StopsPage (page_messages rewriter references) (written_of rewriter) (passage_of (λ k. k) unread left before after.bytes)
stops-written rewriter references unread left before after read = record {
  text = read.text;
  rest = read.rest;
  consumed = read.consumed;
  utf8 = read.utf8;
  told = read.told;
  untold = read.untold;
  parts = read.parts;
  state = ap (λ s. s.bytes) (read.state ∙ written-handed rewriter before read.told);
}
