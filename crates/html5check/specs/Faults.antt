-- What is wrong in a text, and where.
use Rattle.std.specs.Prelude.{ℕ, List, [], ◌∷◌, ◌++◌, ◌&&◌, not, Option, None, Some, codes, option_map, if◌then◌else◌}
use Rattle.std.specs.List.{flat_map}
use Rattle.html5check.specs.Seen.{Seen}
use Rattle.html5check.specs.declared.finding.Fault.{Fault}
use Rattle.html5check.specs.declared.finding.Fault.TheVariants.{DuplicateId, EndTagOfVoidElement, EndTagWithoutStart, MisspelledAttribute, MisspelledElement, Parse, SelfClosingElement, UnclosedElement, Uncoded}
use Rattle.html5check.specs.declared.finding.Finding.{Finding as RustFinding}
use Rattle.html5elements.specs.Elements.{is_void}
use Rattle.html5errors.specs.CodeNames.{code_name}
use Rattle.html5errors.specs.Messages.{code_of_message}
use Rattle.html5errors.specs.declared.codes.ErrorCode.{ErrorCode}
use Rattle.html5ever_interface.specs.Token.{TagOf}
use Rattle.html5names.specs.Attributes.{meant_attribute}
use Rattle.html5names.specs.Elements.{meant_element}
use Rattle.markup5ever.specs.Names.{AttributeOf}

-- the code of what is wrong, in the form of the standard's codes
unfoldable pub fault_code : Fault → List ℕ
fault_code (Parse code) = code_name code
fault_code Uncoded = codes "parse-error"
fault_code EndTagWithoutStart = codes "end-tag-without-start"
fault_code EndTagOfVoidElement = codes "end-tag-of-void-element"
fault_code UnclosedElement = codes "unclosed-element"
fault_code SelfClosingElement = codes "non-void-html-element-start-tag-with-trailing-solidus"
fault_code DuplicateId = codes "duplicate-id"
fault_code MisspelledElement = codes "misspelled-element"
fault_code MisspelledAttribute = codes "misspelled-attribute"

-- something wrong from one byte up to another: of what name, id or message, and what a misspelled name was meant for
pub record Finding : Type 0 where
  pub begin : ℕ
  pub end : ℕ
  pub fault : Fault
  pub subject : List ℕ
  pub meant : Option (List ℕ)

abbrev pub finding_by : RustFinding → Finding
finding_by f = record { begin = f.begin; end = f.end; fault = f.fault; subject = f.subject.now; meant = option_map (λ meant. meant.now) f.meant }

-- ---- at a token by itself

abbrev pub plain_finding : Seen → Fault → List ℕ → Finding
plain_finding seen fault subject = record { begin = seen.begin; end = seen.end; fault = fault; subject = subject; meant = None }

-- a parse error: its code, or if it has none its message
abbrev pub coded_finding : Seen → List ℕ → Option ErrorCode → Finding
coded_finding seen message None = plain_finding seen Uncoded message
coded_finding seen message (Some code) = plain_finding seen (Parse code) []

abbrev pub error_finding : Seen → List ℕ → Finding
error_finding seen message = coded_finding seen message (code_of_message message)

-- a name that is misspelled
abbrev pub meant_finding : Seen → Fault → List ℕ → Option (List ℕ) → List Finding
meant_finding seen fault name None = []
meant_finding seen fault name (Some meant) = record (plain_finding seen fault name) { meant = Some meant } ∷ []

abbrev pub element_findings : Seen → List ℕ → List Finding
element_findings seen name = meant_finding seen MisspelledElement name (meant_element name)

abbrev pub attribute_finding : Seen → AttributeOf → List Finding
attribute_finding seen attribute = meant_finding seen MisspelledAttribute attribute.name.local (meant_attribute attribute.name.local)

abbrev pub attribute_findings : Seen → List AttributeOf → List Finding
attribute_findings seen attributes = flat_map (attribute_finding seen) attributes

-- a `/` before the `>` of a start tag that doesn't end its element
abbrev pub self_closing_findings : Seen → TagOf → List Finding
self_closing_findings seen tag = if tag.self_closing && not (is_void tag.name) then plain_finding seen SelfClosingElement tag.name ∷ [] else []

-- those of a start tag of an element of HTML
abbrev pub start_tag_findings : Seen → TagOf → List Finding
start_tag_findings seen tag =
    element_findings seen tag.name ++ (attribute_findings seen tag.attributes ++ self_closing_findings seen tag)
