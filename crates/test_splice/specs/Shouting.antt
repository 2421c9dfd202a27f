-- What a splicer of the tests says of tokens: it drops comments, writes `<p>` for each `<b>`, and `!` for each run before an end tag.
use Rattle.std.specs.Prelude.{ℕ, List, [], codes, if◌then◌else◌}
use Rattle.std.specs.Str.{bytes_eq}
use Rattle.html5ever_interface.specs.Token.{Told, TagOf}
use Rattle.html5ever_interface.specs.Token.Told.{Comment, Tag}
use Rattle.html5ever_interface.specs.declared.interface.token.TagKind.{TagKind}
use Rattle.html5ever_interface.specs.declared.interface.token.TagKind.TheVariants.{EndTag, StartTag}
use Rattle.html5splice.specs.Cuts.{CutOf}
use Rattle.html5splice.specs.Edits.{EditOf, EditsOf, Splices}
use Rattle.html5splice.specs.Edits.EditOf.{Keep, Replace}

abbrev pub shouted_start : List ℕ → EditsOf
shouted_start name = record { run = Keep; token = if bytes_eq name (codes "b") then Replace (codes "<p>") else Keep }

abbrev pub shouted_tag : TagKind → List ℕ → EditsOf
shouted_tag StartTag name = shouted_start name
shouted_tag EndTag name = record { run = Replace (codes "!"); token = Keep }

abbrev pub shouted : Told → EditsOf
shouted (Comment text) = record { run = Keep; token = Replace [] }
shouted (Tag tag) = shouted_tag tag.kind tag.name
shouted other = record { run = Keep; token = Keep }

abbrev pub shouting : Splices (Unit {0})
shouting = record { edits = λ s cut. shouted cut.token; step = λ s cut. s }
