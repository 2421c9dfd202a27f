-- The rows of the table of foreign attributes, in the words of contracts.
use Rattle.std.specs.Option.{option_copied}
use Rattle.tree_construction.specs.Adjusting.{Foreign}
use Rattle.tree_names.specs.declared.adjusting.Foreign.{Foreign as Row}

-- what a row says
abbrev pub foreign_of : Row → Foreign
foreign_of row = record { written = row.written.now; name = record { prefix = option_copied row.prefix; ns = row.ns.now; local = row.local.now } }
