use Rattle.html5nested.proofs.Added.{adds-start_tag}
use Rattle.html5nested.proofs.pieces.write_start_tag.Goals as goal

pub returns : goal.returns
returns g c = adds-start_tag c.start_tag.result c.args.page.now c.start_tag.new.self c.args.name.now c.args.attributes.now c.bytes.ensures c.start_tag.ensures.written
