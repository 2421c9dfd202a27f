-- A printed reading is the lines of what the items of the text tell.
use Rattle.std.proofs.Common.{List, refl, subst}
use Rattle.std.specs.Io.KnownBytes.{Appends}
use Rattle.std.specs.Str.{chars}
use Rattle.html5ever.specs.Tokenizer.{rules_of}
use Rattle.html5reading.specs.Start.{start_of}
use Rattle.html5grammar.specs.Items.{Composed}
use Rattle.html5grammar.proofs.Completeness.{all-composed}
use Rattle.html5grammar.proofs.Soundness.{reading-items}
use Rattle.html5cli.specs.Printing.{printer_means, printed_reading, Traffic, PrintsReading, PrintsItems}
use Rattle.html5cli.specs.Settings.{SettingsOf}
use Rattle.markup5ever.specs.NamedReferences.{NamedReference, IsTable}
use Rattle.token_printer.specs.Output.{blank_output}
use Rattle.token_printer.specs.Printed.{printed}

-- what is printed of a reading is printed of its items
pub prints-items : (settings : SettingsOf) (references : List NamedReference) (known : Traffic) → IsTable references → PrintsReading settings references known → PrintsItems settings references known
unfolding printed_reading
prints-items settings references known table p =
    let c : Composed printer_means (rules_of settings.opts references) (start_of settings.opts) (blank_output settings.foreign) (chars p.bytes) =
    all-composed printer_means (rules_of settings.opts references) (start_of settings.opts) (blank_output settings.foreign) (chars p.bytes) refl in
    record {
      bytes = p.bytes;
      consumed = p.consumed;
      at_end = p.at_end;
      utf8 = p.utf8;
      tells = c.tells;
      ends = c.ends;
      items = c.items;
      printed =
          subst (λ M. Appends known.written known.after (printed M))
          (reading-items printer_means (rules_of settings.opts references) (start_of settings.opts) (blank_output settings.foreign) (chars p.bytes) c.tells c.ends table c.items) p.printed;
    }
