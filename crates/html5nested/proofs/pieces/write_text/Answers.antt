use Rattle.html5nested.proofs.Added.{adds-text}
use Rattle.html5nested.proofs.pieces.write_text.Goals as goal

pub returns : goal.returns
returns g c = adds-text c.text.result c.args.page.now c.text.new.self c.args.text.now c.utf8.text c.text.ensures.written
