use Rattle.html5nested.proofs.Nesting.{made-new}
use Rattle.html5nested.proofs.nested_writer.NestedWriter.new.Goals as goal

pub returns-clause-made : goal.returns-clause-made
returns-clause-made g c = made-new c.new.result c.new-2.result c.args.limit c.new.ensures c.new-2.ensures
