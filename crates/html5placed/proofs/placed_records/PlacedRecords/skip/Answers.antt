use Rattle.std.proofs.Common.{◌≡◌, ◌≤◌, ◌++◌, List, ℕ, length, drop, sym, ap, ◌∙◌, subst}
use Rattle.std.proofs.lemmas.List.{drop-drop}
use Rattle.std.proofs.Math.Seq.{drop-append_seam}
use Rattle.html5placed.specs.PlacedRecords.{PlacedWriting, after_taking, waiting}
use Rattle.html5placed.proofs.placed_records.PlacedRecords.skip.Goals as goal
use Rattle.outbox.proofs.Bytes.{bytes-taken, count-taken}

pub returns : goal.returns
returns g c =
    let s = c.self.inside in
    let front = c.rest_of-front.result.now in
    let waits : front ≡ _ = c.rest_of-front.ensures ∙ sym (drop-append_seam s.taken.bytes (drop s.skipped s.written.items)) ∙ ap waiting c.self.view_is in
    let within : c.args.count ≤ length front = subst (λ (l : List ℕ). c.args.count ≤ length l) (sym waits) c.requires in
    let rest : drop c.skip_front.new.skipped c.skip_front.new.written.items ≡ drop c.args.count front =
    c.skip_front.ensures.rest ∙ sym (ap (drop c.args.count) c.rest_of-front.ensures ∙ drop-drop c.args.count s.skipped s.written.items) in
    let bytes = bytes-taken s.taken.bytes c.add.new.self.bytes front _ c.args.count c.add.ensures rest ∙ ap (λ l. s.taken.bytes ++ l) c.rest_of-front.ensures in
    let P : List ℕ → ℕ → PlacedWriting = λ l n. record { bytes = l; taken = n; passed = s.passed } in
    ap (λ l. P l (length c.add.new.self.bytes)) bytes
    ∙ ap (P (s.taken.bytes ++ drop s.skipped s.written.items)) (count-taken s.taken.bytes c.add.new.self.bytes front c.args.count c.add.ensures within)
    ∙ ap (λ (w : PlacedWriting). after_taking w c.args.count) c.self.view_is
