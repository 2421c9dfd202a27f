-- A token that is hidden.
use Rattle.std.proofs.Common.{◌≡◌, ℕ, Bool, false, List, [], ◌++◌, OnOk, sym, ap, ◌∙◌}
use Rattle.std.specs.Prelude.{◌==◌, Result, Ok, Err, if◌then◌else◌}
use Rattle.std.proofs.lemmas.List.{append-nil}
use Rattle.html5ever_interface.specs.Token.{Told}
use Rattle.html5elements.specs.Hidden.{Hidden, hidden_after}
use Rattle.html5rewrite.specs.Rewriter.{opens}
use Rattle.html5rewrite.specs.Rewriting.{written}
use Rattle.html5rewrite.specs.Writing.{Written, page_bytes, writing_step}

step-hidden : (s : Written) (hidden : Hidden) (run : List ℕ) (told : Told) (line : ℕ) → (s.hidden.depth == 0) ≡ false → hidden ≡ hidden_after (opens s.rewriter) s.hidden told
    → record { rewriter = s.rewriter; bytes = s.bytes; hidden = hidden } ≡ writing_step s run told line
step-hidden s hidden run told line within is =
    (λ i. record { rewriter = s.rewriter; bytes = sym (append-nil s.bytes) i; hidden = is i })
    ∙ sym (ap (λ (shown : Bool). record {
      rewriter = s.rewriter;
      bytes = s.bytes ++ page_bytes (if shown then written s.rewriter run told else []);
      hidden = hidden_after (opens s.rewriter) s.hidden told;
    }) within)

-- where it was passed
pub passed-steps : {T E : Type 0} (result : Result T E) (s : Written) (hidden : Hidden) (run : List ℕ) (told : Told) (line : ℕ) → (s.hidden.depth == 0) ≡ false
    → OnOk result (hidden ≡ hidden_after (opens s.rewriter) s.hidden told) → OnOk result (record { rewriter = s.rewriter; bytes = s.bytes; hidden = hidden } ≡ writing_step s run told line)
passed-steps (Ok x) s hidden run told line within is = step-hidden s hidden run told line within is
passed-steps (Err e) s hidden run told line within is = is
