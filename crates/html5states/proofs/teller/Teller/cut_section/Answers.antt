use Rattle.std.proofs.Common.{[], refl, ap, ◌∙◌, ◌≡◌, string_bytes}
use Rattle.std.specs.Str.{chars}
use Rattle.std.proofs.lemmas.Str.{chars-nil}
use Rattle.html5reading.specs.Cdata.{open_cdata}
use Rattle.html5partial.specs.Steps.{afterwards, tokens_of}
use Rattle.html5partial.specs.Steps.Next.{Opens}
use Rattle.html5states.proofs.teller.Teller.cut_section.Goals as goal

pub returns : goal.returns
unfolding afterwards tokens_of
returns g c =
    let emits = rw c.replace-text.ensures.value at c.in_ok-emit_cdata_null.ensures in
    let nothing : string_bytes c.replace-text.new.dest ≡ [] = ap string_bytes c.replace-text.ensures.after ∙ c.new.ensures.bytes in
    record {
      tells = emits.tells;
      leads = (rw c.requires (ap Opens (ap (λ l. open_cdata (chars l)) nothing ∙ ap open_cdata chars-nil)), tt);
      last = refl;
      faults = emits.faults;
      kept = emits.kept;
    }
