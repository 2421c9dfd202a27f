-- What a program makes of the links of a page: it prints each, where it leads from the base that the tags before it say.
use Rattle.std.specs.Prelude.{ℕ, List, ◌++◌, Option, None, Some}
use Rattle.html5ever_interface.specs.Token.{TagOf}
use Rattle.html5extract.specs.Bases.{bases_after, page_bases, resolved}
use Rattle.html5extract.specs.Links.{link_of, named_line_of}
use Rattle.html5extract.specs.declared.bases.Bases.{Bases}
use Rattle.html5extract.specs.declared.link_settings.LinkSettings.{LinkSettings}
use Rattle.html5programs.specs.Fronts.{front_at_start, front_named}

-- what was printed, where links lead from, and the name in front of lines
pub record LinkReading : Type 0 where
  pub printed : List ℕ
  pub bases : Bases
  pub front : Option (List ℕ)

-- from these bases, after what was printed
abbrev pub link_reading : Bases → Option (List ℕ) → List ℕ → LinkReading
link_reading bases front printed = record { printed = printed; bases = bases; front = front }

-- by settings, before the first file
abbrev pub links_started : LinkSettings → List ℕ → LinkReading
links_started settings printed = link_reading settings.bases (front_at_start settings.shows_names) printed

-- where a file of this name is next
abbrev pub links_named : List ℕ → LinkReading → LinkReading
links_named file s = record s { front = front_named file s.front }

-- where a page begins
abbrev pub links_begun : LinkReading → LinkReading
links_begun s = record s { bases = page_bases s.bases }

-- by what is printed for a link, with the name in front and the number of its tag's line
module _ (shown : Option (List ℕ) → ℕ → List ℕ → List ℕ) where
  -- after a tag whose link is given: the link is printed, or else the tag may say a base
  abbrev pub link_step_by : LinkReading → TagOf → ℕ → Option (List ℕ) → LinkReading
  link_step_by s tag line (Some link) = record s { printed = s.printed ++ shown s.front line (resolved s.bases link) }
  link_step_by s tag line None = record s { bases = bases_after s.bases tag }

  -- after a tag
  abbrev pub link_step : LinkReading → TagOf → ℕ → LinkReading
  link_step s tag line = link_step_by s tag line (link_of tag)

-- where links are printed a line each
abbrev pub links_step : LinkReading → TagOf → ℕ → LinkReading
links_step s tag line = link_step named_line_of s tag line
