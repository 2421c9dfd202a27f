-- What is found in pages, as JSON.
use Rattle.std.specs.Prelude.{ℕ, ◌-◌, ◌<◌, ◌^◌, Bool, true, false, List, [], ◌∷◌, ◌++◌, Some, codes, decimal}
use Rattle.html5check.specs.Faults.{Finding, fault_code}
use Rattle.html5check.specs.Located.{Located}
use Rattle.html5json.specs.Lines.{line_of, text_of}
use Rattle.html5json.specs.Tokens.{json_of_option, of_file}
use Rattle.html5places.specs.declared.positions.Position.{Position}
use Rattle.json.specs.Json.{Json, Members, array, item, member, no_items, no_members, number, object, string}

-- ---- an object a line

-- the line and the columns, and members after them
abbrev pub position_members : Position → Members → Members
position_members position members =
    member (codes "line") (number (decimal position.line)) (
    member (codes "column") (number (decimal position.column)) (
    member (codes "utf16_column") (number (decimal position.utf16_column)) members))

-- the bytes from which on and up to which, and members after them
abbrev pub span_members : Finding → Members → Members
span_members finding members =
    member (codes "begin") (number (decimal finding.begin)) (
    member (codes "end") (number (decimal finding.end)) members)

-- the code, of what, and what a misspelled name was meant for
abbrev pub fault_members : Finding → Members
fault_members finding =
    member (codes "code") (string (fault_code finding.fault)) (
    member (codes "subject") (string finding.subject) (
    member (codes "meant") (json_of_option finding.meant) no_members))

abbrev pub finding_members : Located → Members
finding_members l = position_members l.position (span_members l.finding (fault_members l.finding))

-- something found in a file of this name
abbrev pub json_of_finding : List ℕ → Located → Json
json_of_finding file l = of_file (Some file) (finding_members l)

-- its numbers are of 64 bits
pub record IsCounted (l : Located) : Type 0 where
  pub line : l.position.line < 2 ^ 64
  pub column : l.position.column < 2 ^ 64
  pub utf16_column : l.position.utf16_column < 2 ^ 64
  pub begin : l.finding.begin < 2 ^ 64
  pub end : l.finding.end < 2 ^ 64

unfoldable pub finding_lines : List ℕ → List Located → List ℕ
finding_lines file [] = []
finding_lines file (l ∷ more) = line_of (json_of_finding file l) ++ finding_lines file more

-- ---- a log of SARIF 2.1.0

-- the code, and of what
abbrev pub message_text : List ℕ → List ℕ → List ℕ
message_text code [] = code
message_text code (byte ∷ subject) = code ++ (codes ": " ++ (byte ∷ subject))

abbrev pub message_of : Finding → List ℕ
message_of finding = message_text (fault_code finding.fault) finding.subject

-- where it stands in its file
abbrev pub region_members : Located → Members
region_members l =
    member (codes "startLine") (number (decimal l.position.line)) (
    member (codes "startColumn") (number (decimal l.position.column)) (
    member (codes "byteOffset") (number (decimal l.finding.begin)) (
    member (codes "byteLength") (number (decimal (l.finding.end - l.finding.begin))) no_members)))

abbrev pub place_members : List ℕ → Located → Members
place_members file l =
    member (codes "artifactLocation") (object (member (codes "uri") (string file) no_members)) (
    member (codes "region") (object (region_members l)) no_members)

abbrev pub location_json : List ℕ → Located → Json
location_json file l = object (member (codes "physicalLocation") (object (place_members file l)) no_members)

-- a result: the code as its rule, the message, and the place
abbrev pub result_json : List ℕ → Located → Json
result_json file l =
    object (
    member (codes "ruleId") (string (fault_code l.finding.fault)) (
    member (codes "level") (string (codes "error")) (
    member (codes "message") (object (member (codes "text") (string (message_of l.finding)) no_members)) (
    member (codes "locations") (array (item (location_json file l) no_items)) no_members))))

-- what the log begins with, up to its first result, and what it ends with
abbrev pub log_start : List ℕ
log_start = codes "{\"$schema\":\"https://json.schemastore.org/sarif-2.1.0.json\",\"version\":\"2.1.0\",\"runs\":[{\"tool\":{\"driver\":{\"name\":\"firnuubal\"}},\"columnKind\":\"unicodeCodePoints\",\"results\":[\n"

abbrev pub log_end : List ℕ
log_end = codes "\n]}]}\n"

-- before a result, by whether there is one before it
abbrev pub before_result : Bool → List ℕ
before_result false = log_start
before_result true = codes ",\n"

-- the results of a file
unfoldable pub results_of : Bool → List ℕ → List Located → List ℕ
results_of found file [] = []
results_of found file (l ∷ more) = before_result found ++ (text_of (result_json file l) ++ results_of true file more)

-- in the end, by whether there is a result
abbrev pub log_ended : Bool → List ℕ
log_ended false = log_start ++ log_end
log_ended true = log_end
