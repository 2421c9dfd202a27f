use Rattle.html5nested.proofs.Added.{adds-end_tag}
use Rattle.html5nested.proofs.pieces.write_end_tag.Goals as goal

pub returns : goal.returns
returns g c = adds-end_tag c.end_tag.result c.args.page.now c.end_tag.new.self c.args.name.now c.utf8.name c.end_tag.ensures.written
