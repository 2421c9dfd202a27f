-- Tags that match. A tag that lacks its other is found exactly where they don't.
use Rattle.std.specs.Prelude.{◌-◌, ◌==◌, ◌&&◌, ◌||◌, not, Bool, true, false, ℕ, List, [], ◌∷◌, take}
use Rattle.std.specs.List.{list_all}
use Rattle.html5check.specs.Checking.{Checking, checked}
use Rattle.html5check.specs.Elements.{has_optional_end, is_document_part}
use Rattle.html5check.specs.Faults.{Finding}
use Rattle.html5check.specs.Opened.{Open, closed_by}
use Rattle.html5check.specs.Seen.{Seen}
use Rattle.html5check.specs.declared.finding.Fault.{Fault}
use Rattle.html5check.specs.declared.finding.Fault.TheVariants.{EndTagOfVoidElement, EndTagWithoutStart, UnclosedElement}
use Rattle.html5ever_interface.specs.Token.{TagOf, Told}
use Rattle.html5ever_interface.specs.Token.Told.{End, Tag}
use Rattle.html5ever_interface.specs.declared.interface.token.TagKind.{TagKind}
use Rattle.html5ever_interface.specs.declared.interface.token.TagKind.TheVariants.{EndTag, StartTag}

-- the end tags of these elements may be left out
abbrev pub may_stay_open : List Open → Bool
may_stay_open opened = list_all (λ element. has_optional_end element.name) opened

-- An end tag ends an open element, and the elements open within that may stay open. `html`, `head` and `body` are not looked
-- for.
abbrev pub ends_one : Checking → List ℕ → Bool
ends_one s name = is_document_part name || (not (closed_by s.opened name == 0) && may_stay_open (take (closed_by s.opened name - 1) s.opened))

abbrev pub tag_matches : TagKind → Checking → TagOf → Bool
tag_matches StartTag s tag = true
tag_matches EndTag s tag = ends_one s tag.name

-- at the end the open elements may stay open
abbrev pub matches : Told → Checking → Bool
matches (Tag tag) s = tag_matches tag.kind s tag
matches End s = may_stay_open s.opened
matches other s = true

-- so it is of all these tokens, one after the other
unfoldable pub all_match : Checking → List Seen → Bool
all_match s [] = true
all_match s (seen ∷ more) = matches seen.token s && all_match (checked s seen) more

-- a tag without its other
abbrev pub lacks_other : Fault → Bool
lacks_other EndTagWithoutStart = true
lacks_other EndTagOfVoidElement = true
lacks_other UnclosedElement = true
lacks_other other = false

abbrev pub has_other : Finding → Bool
has_other finding = not (lacks_other finding.fault)
