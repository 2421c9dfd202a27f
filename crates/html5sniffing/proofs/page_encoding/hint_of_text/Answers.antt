use Rattle.html5sniffing.proofs.Hints.{hint-read}
use Rattle.html5sniffing.proofs.page_encoding.hint_of_text.Goals as goal

pub returns-in-Ok : goal.returns-in-Ok
returns-in-Ok g c =
    let read = rw c.in-Ok.is at c.read_tags-read.ensures.finishes in
    rw c.as_bytes.ensures.value at (rw c.new-source.ensures.inner at (hint-read c.args.references.now _ _ c.read_tags-read.result.0.hint read))
