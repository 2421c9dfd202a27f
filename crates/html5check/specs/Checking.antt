-- What is found by the tokens of a text, one after the other.
use Rattle.std.specs.Prelude.{ℕ, ◌-◌, ◌==◌, Bool, true, false, List, [], ◌∷◌, ◌++◌, ◌||◌, not, Option, None, Some, drop, length, take, if◌then◌else◌}
use Rattle.std.specs.List.{flat_map}
use Rattle.html5check.specs.Elements.{has_optional_end, is_document_part, is_integration_point}
use Rattle.html5check.specs.Faults.{Finding, error_finding, plain_finding, start_tag_findings}
use Rattle.html5check.specs.Ids.{id_of, is_taken, with_id}
use Rattle.html5check.specs.Order.{in_order}
use Rattle.html5check.specs.Opened.{Open, closed_by, ended_before, holds_foreign}
use Rattle.html5check.specs.Seen.{Seen}
use Rattle.html5check.specs.declared.finding.Fault.{Fault}
use Rattle.html5check.specs.declared.finding.Fault.TheVariants.{DuplicateId, EndTagOfVoidElement, EndTagWithoutStart, UnclosedElement}
use Rattle.html5elements.specs.Elements.{is_foreign, is_void}
use Rattle.html5ever_interface.specs.Token.{TagOf, Told}
use Rattle.html5ever_interface.specs.Token.Told.{End, Error, Tag}
use Rattle.html5ever_interface.specs.declared.interface.token.TagKind.{TagKind}
use Rattle.html5ever_interface.specs.declared.interface.token.TagKind.TheVariants.{EndTag, StartTag}

-- the open elements, the ids that elements have, and the findings
pub record Checking : Type 0 where
  pub opened : List Open
  pub ids : List (List ℕ)
  pub found : List Finding

abbrev pub nothing_checked : Checking
nothing_checked = record { opened = []; ids = []; found = [] }

-- ---- elements that are left open

-- a start tag whose element is left open, but where its end tag may be left out
abbrev pub unclosed : Open → List Finding
unclosed inner =
    if has_optional_end inner.name then []
    else record { begin = inner.begin; end = inner.end; fault = UnclosedElement; subject = inner.name; meant = None } ∷ []

-- this many of the innermost are left open
abbrev pub left_open : ℕ → Checking → Checking
left_open count s = record s { opened = drop count s.opened; found = s.found ++ flat_map unclosed (take count s.opened) }

-- ---- start tags

abbrev pub with_open : Checking → Seen → List ℕ → Bool → Checking
with_open s seen name holds = record s { opened = record { name = name; begin = seen.begin; end = seen.end; holds_foreign = holds } ∷ s.opened }

-- in an element of another namespace a `/` before the `>` ends the element
abbrev pub at_foreign_tag : Checking → Seen → TagOf → Checking
at_foreign_tag s seen tag = if tag.self_closing then s else (with_open s seen tag.name (not (is_integration_point tag.name)))

-- an element of HTML ends those before which it stands, and is open unless it is void
abbrev pub at_html_tag : Checking → Seen → TagOf → Checking
at_html_tag s seen tag =
    let ended : Checking = record s { opened = drop (ended_before s.opened tag.name) s.opened; found = s.found ++ start_tag_findings seen tag } in
    if is_void tag.name then ended else (with_open ended seen tag.name false)

-- an id that an element before has
abbrev pub duplicate : Seen → List ℕ → Bool → List Finding
duplicate seen id false = []
duplicate seen id true = plain_finding seen DuplicateId id ∷ []

abbrev pub with_id_of : Checking → Seen → Option (List ℕ) → Checking
with_id_of s seen None = s
with_id_of s seen (Some id) = record s { ids = with_id id s.ids; found = s.found ++ duplicate seen id (is_taken id s.ids) }

abbrev pub at_id : Checking → Seen → TagOf → Checking
at_id s seen tag = with_id_of s seen (id_of tag)

-- `html`, `head` and `body` are not looked for
abbrev pub opened_at : Checking → Seen → TagOf → Checking
opened_at s seen tag =
    if is_document_part tag.name then s
    else (if holds_foreign s.opened || is_foreign tag.name then at_foreign_tag s seen tag else at_html_tag s seen tag)

abbrev pub at_start_tag : Checking → Seen → TagOf → Checking
at_start_tag s seen tag = opened_at (at_id s seen tag) seen tag

-- ---- end tags

abbrev pub stray_fault : List ℕ → Fault
stray_fault name = if is_void name then EndTagOfVoidElement else EndTagWithoutStart

-- an end tag that ends this many of the innermost: of those within its element some are left open
abbrev pub closed_at : Checking → Seen → List ℕ → ℕ → Checking
closed_at s seen name count =
    if count == 0 then record s { found = s.found ++ plain_finding seen (stray_fault name) name ∷ [] }
    else record (left_open (count - 1) s) { opened = drop count s.opened }

abbrev pub at_end_tag : Checking → Seen → List ℕ → Checking
at_end_tag s seen name = if is_document_part name then s else (closed_at s seen name (closed_by s.opened name))

-- ---- tokens

abbrev pub at_tag : TagKind → Checking → Seen → TagOf → Checking
at_tag StartTag s seen tag = at_start_tag s seen tag
at_tag EndTag s seen tag = at_end_tag s seen tag.name

-- a parse error is found as it is; the end leaves the open elements open
abbrev pub checked_told : Told → Checking → Seen → Checking
checked_told (Error message) s seen = record s { found = s.found ++ error_finding seen message ∷ [] }
checked_told (Tag tag) s seen = at_tag tag.kind s seen tag
checked_told End s seen = left_open (length s.opened) s
checked_told other s seen = s

abbrev pub checked : Checking → Seen → Checking
checked s seen = checked_told seen.token s seen

unfoldable pub checked_all : Checking → List Seen → Checking
checked_all s [] = s
checked_all s (seen ∷ more) = checked_all (checked s seen) more

-- what is found by tokens, in the order in which they show it
abbrev pub found_by : List Seen → List Finding
found_by tokens = (checked_all nothing_checked tokens).found

-- what is found by the tokens of a text, in order of the places where it begins
abbrev pub findings_in : List Seen → List Finding
findings_in tokens = in_order (λ finding. finding.begin) (found_by tokens)
