-- What a handler of the tests makes of links: they get `rel=nofollow`.
use Rattle.std.specs.Prelude.{codes, if◌then◌else◌}
use Rattle.std.specs.Str.{bytes_eq}
use Rattle.html5amend.specs.Amending.{Amends}
use Rattle.html5amend.specs.Elements.{ElementOf, with_value}

abbrev pub not_followed : ElementOf → ElementOf
not_followed e = if bytes_eq e.tag.name (codes "a") then (with_value (codes "rel") (codes "nofollow") e) else e

abbrev pub links_not_followed : Amends
links_not_followed = record { element = not_followed; other = λ o. o }
