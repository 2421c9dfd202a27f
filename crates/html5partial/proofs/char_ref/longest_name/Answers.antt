use Rattle.html5partial.proofs.LongestName.{named-all}
use Rattle.html5partial.proofs.char_ref.longest_name.Goals as goal

pub returns-in-Some : goal.returns-in-Some
returns-in-Some g c = named-all c.args.references.now c.args.text.now c.in-Some.first c.in-Some.second c.in-Some.ensures.characters
