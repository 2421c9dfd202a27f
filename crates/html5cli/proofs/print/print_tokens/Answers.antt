use Rattle.std.proofs.Common.{◌≡◌, ◌∙◌, ℕ, List, inr, refl, subst}
use Rattle.std.specs.Io.KnownBytes.{Appends}
use Rattle.std.proofs.lemmas.Result.{on_ok_weaker, on_err_weaker}
use Rattle.devices.specs.Device.{AppendsBeginning}
use Rattle.html5cli.specs.Printing.{printed_reading}
use Rattle.html5cli.specs.Settings.{said_by}
use Rattle.html5cli.proofs.PrintedOutput.{Consumes-whole, Keeps-same}
use Rattle.html5cli.proofs.PrintedItems.{prints-items}
use Rattle.html5cli.proofs.print.print_tokens.Goals as goal

pub returns-in_err-text-clause-not_utf8 : goal.returns-in_err-text-clause-not_utf8
returns-in_err-text-clause-not_utf8 g c = λ _. record {
  bytes = c.in_ok-bytes.bytes.items;
  consumed = Consumes-whole _ _ c.in_ok-bytes.bytes.items c.in_ok-bytes.ensures.ok c.in_ok-bytes.ensures.end c.in_ok-bytes.ensures.in_order;
  at_end = c.in_ok-bytes.ensures.end;
  no_utf8 = rw c.deref.ensures.value at (c.in_err-text.ensures.not_utf8.0 refl);
  kept = Keeps-same _;
}

pub returns-clause-ok : goal.returns-clause-ok
returns-clause-ok g c =
    let text : c.in_ok-text.text.now ≡ c.in_ok-bytes.bytes.items = c.in_ok-text.ensures.ok.0 ∙ c.deref.ensures.value in
    on_ok_weaker c.print_text.result (λ written. record {
      bytes = c.in_ok-bytes.bytes.items;
      consumed = Consumes-whole _ _ c.in_ok-bytes.bytes.items c.in_ok-bytes.ensures.ok c.in_ok-bytes.ensures.end c.in_ok-bytes.ensures.in_order;
      at_end = c.in_ok-bytes.ensures.end;
      utf8 = rw c.deref.ensures.value at c.in_ok-text.ensures.ok.1;
      printed = subst (λ (l : List ℕ). Appends (g.W.Target.contents c.args.writer.now) (g.W.Target.contents c.print_text.new.writer) (printed_reading (said_by c.args.settings.now) c.args.references.now l)) text written;
    }) c.print_text.ensures.ok

pub returns-clause-items : goal.returns-clause-items
returns-clause-items g c = on_ok_weaker c.print_text.result (prints-items _ _ _ c.table_laws.ensures) (returns-clause-ok g c)

pub returns-clause-beginning : goal.returns-clause-beginning
returns-clause-beginning g c =
    let text : c.in_ok-text.text.now ≡ c.in_ok-bytes.bytes.items = c.in_ok-text.ensures.ok.0 ∙ c.deref.ensures.value in
    on_err_weaker c.print_text.result (λ written. inr (record {
      bytes = c.in_ok-bytes.bytes.items;
      consumed = Consumes-whole _ _ c.in_ok-bytes.bytes.items c.in_ok-bytes.ensures.ok c.in_ok-bytes.ensures.end c.in_ok-bytes.ensures.in_order;
      at_end = c.in_ok-bytes.ensures.end;
      utf8 = rw c.deref.ensures.value at c.in_ok-text.ensures.ok.1;
      printed = subst (λ (l : List ℕ). AppendsBeginning (g.W.Target.contents c.args.writer.now) (g.W.Target.contents c.print_text.new.writer) (printed_reading (said_by c.args.settings.now) c.args.references.now l)) text written;
    })) c.print_text.ensures.err
