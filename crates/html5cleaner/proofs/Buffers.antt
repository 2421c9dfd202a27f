-- A buffer keeps exactly the kept part of a page, and no message takes any of it.
use Rattle.std.proofs.Common.{◌≡◌, ℕ, List, [], ◌++◌, refl, ap, sym, ◌∙◌, append_assoc}
use Rattle.std.proofs.lemmas.List.{append-nil}
use Rattle.html5ever_interface.specs.Sink.{Message, stepped}
use Rattle.html5ever_interface.specs.Token.{Told}
use Rattle.html5sinks.specs.Runs.{Running, runs_step}
use Rattle.html5stream.specs.Pages.{runs_after, runs_handed, runs_page}
use Rattle.html5stream.proofs.Handed.{between-handed, kept-stepped}
use Rattle.html5policy.specs.Policy.{PolicyOf}
use Rattle.html5cleaner.specs.Balance.{is_end, written_by}
use Rattle.html5cleaner.specs.Buffering.{Buffered, WaitsOn, buffer_start, buffered_step}
use Rattle.html5cleaner.specs.Shape.{shape_of}
use Rattle.html5cleaner.specs.Clean.{Cleaned, at_start, clean_step, kept_where}
use Rattle.html5cleaner.specs.Cleaning.{kept_of_page, page_bytes}
use Rattle.html5cleaner.proofs.Printing.{page_bytes-append}
use Rattle.html5cleaner.proofs.SameReadings.{page-same}
use Rattle.markup5ever.specs.NamedReferences.{NamedReference}

-- where these pieces were kept, and this many bytes were taken
abbrev buffered_after : ℕ → Cleaned → Buffered
buffered_after taken c = record { policy = c.policy; out = record { bytes = page_bytes c.pieces; taken = taken }; hidden = c.hidden; opened = c.opened }

buffered-step : (taken : ℕ) (c : Cleaned) (run : List ℕ) (told : Told) (line : ℕ)
    → buffered_step (buffered_after taken c) run told line ≡ buffered_after taken (clean_step c run told line)
buffered-step taken c run told line =
    let next : Cleaned = clean_step c run told line in
    let with : List ℕ → Buffered = λ l. record { policy = c.policy; out = record { bytes = l; taken = taken }; hidden = next.hidden; opened = next.opened } in
    ap with (sym (page_bytes-append c.pieces (written_by (shape_of c.policy) (is_end told) c.opened (kept_where c.policy c.hidden.depth run told))))

buffered-handed : (policy : PolicyOf) (taken : ℕ) (M : List Message)
    → runs_handed buffered_step (buffer_start policy taken) M ≡ buffered_after taken (runs_handed clean_step (at_start policy) M)
buffered-handed policy taken M =
    between-handed clean_step buffered_step (λ c b. b ≡ buffered_after taken c)
    (λ c b run told line same. ap (λ q. buffered_step q run told line) same ∙ buffered-step taken c run told line)
    (at_start policy) (buffer_start policy taken) M refl

pub buffered-page : (policy : PolicyOf) (taken : ℕ) (references : List NamedReference) (bytes : List ℕ)
    → (runs_after buffered_step references (buffer_start policy taken) bytes).out.bytes ≡ page_bytes (kept_of_page policy references bytes)
buffered-page policy taken references bytes =
    ap (λ (b : Buffered). b.out.bytes) (buffered-handed policy taken (runs_page buffered_step references (buffer_start policy taken) bytes))
    ∙ ap (λ M. page_bytes (runs_handed clean_step (at_start policy) M).pieces)
    (page-same buffered_step clean_step references (buffer_start policy taken) (at_start policy) bytes)

-- what waited before waits on after a token
waits_on-step : (start b : Buffered) (run : List ℕ) (told : Told) (line : ℕ) → WaitsOn start b → WaitsOn start (buffered_step b run told line)
waits_on-step start b run told line on =
    let more : List ℕ = page_bytes (written_by (shape_of b.policy) (is_end told) b.opened (kept_where b.policy b.hidden.depth run told)) in
    record {
      policy = on.policy;
      taken = on.taken;
      bytes = record { rest = on.bytes.rest ++ more; parts = ap (λ l. l ++ more) on.bytes.parts ∙ append_assoc start.out.bytes on.bytes.rest more };
    }

pub waits_on-none : (b : Buffered) → WaitsOn b b
waits_on-none b = record { policy = refl; taken = refl; bytes = record { rest = []; parts = sym (append-nil b.out.bytes) } }

pub waits_on : (s : Running Buffered) (M : List Message) → WaitsOn s.joined.handler (stepped (runs_step buffered_step) s M).joined.handler
waits_on s M =
    kept-stepped buffered_step (WaitsOn s.joined.handler) (λ b run told line on. waits_on-step s.joined.handler b run told line on)
    s M (waits_on-none s.joined.handler)
