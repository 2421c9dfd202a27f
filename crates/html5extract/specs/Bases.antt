-- Where links lead: by the URL Standard's parser, as the toolchain's `url` has it (`parse_url`), and by the HTML Standard's base URLs.
use Rattle.std.specs.Prelude.{ℕ, Bool, ◌||◌, List, Option, None, Some, Ok, Err, codes, option_map, if◌then◌else◌}
use Rattle.std.specs.Option.{option_and_then, option_or}
use Rattle.std.specs.Str.{bytes_eq}
use Rattle.html5ever_interface.specs.Token.{TagOf}
use Rattle.html5sinks.specs.Tags.{is_start_of}
use Rattle.html5extract.specs.Links.{value_of as attribute_value}
use Rattle.html5extract.specs.declared.bases.Bases.{Bases}
use Rattle.html5programs.specs.Words.{Asked, value_of}
use Rattle.url.specs.Parser.{Parsed, parse_url}
use Rattle.url.specs.Parts.{Parts, serialize}

-- the URL that the parser gave, if it gave one
abbrev pub url_in : Parsed Parts → Option Parts
url_in (Ok url) = Some url
url_in (Err error) = None

-- the URL that an address is, from a base or from none
unfoldable pub leads_to : Option Parts → List ℕ → Option Parts
leads_to base address = url_in (parse_url base address)

-- ---- the words

-- no URL that pages are at, and none that they name
abbrev pub no_bases : Bases
no_bases = record { fallback = None; found = None }

-- pages are at this URL
abbrev pub bases_at : Parts → Bases
bases_at url = record { fallback = Some url; found = None }

-- at the URL that a word is, if it is one
abbrev pub bases_by_word : Option (List ℕ) → Option Bases
bases_by_word None = Some no_bases
bases_by_word (Some word) = option_map bases_at (leads_to None word)

-- as words ask for it: by the last `--base`
abbrev pub bases_asked : Asked → Option Bases
bases_asked asked = bases_by_word (value_of (codes "--base") asked.given)

-- ---- HTML Standard, 4.2.3 The base element

-- a URL of this scheme is no base
abbrev pub is_refused_base : List ℕ → Bool
is_refused_base scheme = bytes_eq scheme (codes "data") || bytes_eq scheme (codes "javascript")

abbrev pub frozen_by : Parts → Option Parts → Parts
frozen_by fallback (Some url) = if is_refused_base url.scheme then fallback else url
frozen_by fallback None = fallback

-- "frozen base URL": what an `href` is by the fallback base URL, or else that itself
abbrev pub frozen_base : Parts → List ℕ → Parts
frozen_base fallback href = frozen_by fallback (leads_to (Some fallback) href)

-- ---- HTML Standard, 2.4.1 "document base URL", as the tags of the page so far say it

-- where a page begins: it names none yet
abbrev pub page_bases : Bases → Bases
page_bases bases = record bases { found = None }

-- the `href` of a `<base>`, if it has one
abbrev pub base_href : TagOf → Option (List ℕ)
base_href tag = if is_start_of tag (codes "base") then attribute_value (codes "href") tag.attributes else None

-- the first `<base>` with an `href` counts
abbrev pub named_from : Option Parts → Option Parts → Option (List ℕ) → Option Parts
named_from (Some fallback) None (Some href) = Some (frozen_base fallback href)
named_from fallback found href = None

-- the URL that a tag names, when none was named before it
abbrev pub named_by : Bases → TagOf → Option Parts
named_by bases tag = named_from bases.fallback bases.found (base_href tag)

abbrev pub with_named : Bases → Option Parts → Bases
with_named bases None = bases
with_named bases (Some url) = record bases { found = Some url }

-- after a tag
abbrev pub bases_after : Bases → TagOf → Bases
bases_after bases tag = with_named bases (named_by bases tag)

-- the base that links are resolved against, if there is one
abbrev pub base_of : Bases → Option Parts
base_of bases = option_or bases.found bases.fallback

-- ---- links

-- the URL that an address leads to, if there is a base and it is one
abbrev pub url_at : Bases → List ℕ → Option Parts
url_at bases address = option_and_then (λ base. leads_to (Some base) address) (base_of bases)

-- the text of a URL, or else the unchanged address
abbrev pub shown_or : List ℕ → Option Parts → List ℕ
shown_or address None = address
shown_or address (Some url) = serialize url

-- where an address leads, or else the unchanged address
abbrev pub resolved : Bases → List ℕ → List ℕ
resolved bases address = shown_or address (url_at bases address)
