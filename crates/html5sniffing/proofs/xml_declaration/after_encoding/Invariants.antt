use Rattle.std.proofs.Common.{◌≡◌, length}
use Rattle.html5sniffing.specs.XmlDeclaration.{after_encoding}
use Rattle.html5sniffing.proofs.xml_declaration.after_encoding.Given as goal

abbrev pub invariant-loop-bytes : goal.invariant-loop-bytes
invariant-loop-bytes l = after_encoding l.bytes ≡ after_encoding l.initial.bytes

abbrev pub decreases-loop-bytes : goal.decreases-loop-bytes
decreases-loop-bytes l = length l.bytes
