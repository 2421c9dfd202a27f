-- Constructs of template languages. The text that is checked has them masked, byte for byte.
use Rattle.std.specs.Prelude.{ℕ, ◌+◌, ◌-◌, ◌%◌, ◌==◌, ◌&&◌, Bool, true, false, List, [], ◌∷◌, Option, None, Some, codes, length, nat_le, if◌then◌else◌}
use Rattle.std.specs.Bool.{nat_eq}
use Rattle.std.specs.List.{find, starts_with}
use Rattle.std.specs.Str.{bytes_eq}
use Rattle.html5check.specs.declared.template.Construct.{Construct as RustConstruct}
use Rattle.html5check.specs.declared.template.Mask.{Mask as RustMask}
use Rattle.html5check.specs.declared.template.Template.{Template}
use Rattle.html5check.specs.declared.template.Template.TheVariants.{Erb, Jinja, Mustache}

-- the template language of this name
unfoldable pub template_named : List ℕ → Option Template
template_named name =
    if bytes_eq name (codes "jinja") then Some Jinja
    else if bytes_eq name (codes "mustache") then Some Mustache
    else if bytes_eq name (codes "erb") then Some Erb
    else None

-- a construct: what opens it, what closes it, and whether it stands for a value
pub record Construct : Type 0 where
  pub open_by : List ℕ
  pub close_by : List ℕ
  pub is_value : Bool

abbrev pub value : List ℕ → List ℕ → Construct
value open_by close_by = record { open_by = open_by; close_by = close_by; is_value = true }

abbrev pub statement : List ℕ → List ℕ → Construct
statement open_by close_by = record { open_by = open_by; close_by = close_by; is_value = false }

-- those of a template language, the first that fits first
abbrev pub constructs_of : Template → List Construct
constructs_of Jinja = value (codes "{{") (codes "}}") ∷ statement (codes "{%") (codes "%}") ∷ statement (codes "{#") (codes "#}") ∷ []
constructs_of Mustache =
    value (codes "{{{") (codes "}}}")
    ∷ statement (codes "{{#") (codes "}}") ∷ statement (codes "{{^") (codes "}}") ∷ statement (codes "{{/") (codes "}}")
    ∷ statement (codes "{{!") (codes "}}") ∷ statement (codes "{{>") (codes "}}")
    ∷ value (codes "{{") (codes "}}") ∷ []
constructs_of Erb = value (codes "<%=") (codes "%>") ∷ value (codes "<%-") (codes "%>") ∷ statement (codes "<%") (codes "%>") ∷ []

-- the construct that begins a text
abbrev pub begun_in : List Construct → List ℕ → Option Construct
begun_in constructs text = find (λ construct. starts_with nat_eq text construct.open_by) constructs

-- where a walk through a text stands: in a construct or in none, how many bytes of what opens or closes it are left, and whether they
-- close it
pub record Mask : Type 0 where
  pub construct : Option Construct
  pub left : ℕ
  pub closes : Bool

abbrev pub outside : Mask
outside = record { construct = None; left = 0; closes = false }

-- what begins here opens a construct
abbrev pub opened_where : Option Construct → Mask
opened_where None = outside
opened_where (Some construct) = record { construct = Some construct; left = length construct.open_by; closes = false }

-- within a construct what closes it may begin here
abbrev pub closed_where : Construct → Mask → List ℕ → Mask
closed_where construct mask text =
    if (mask.left == 0) && starts_with nat_eq text construct.close_by then
    record { construct = Some construct; left = length construct.close_by; closes = true }
    else mask

-- at the next byte, which this text begins with
abbrev pub settled_where : Option Construct → List Construct → Mask → List ℕ → Mask
settled_where None constructs mask text = opened_where (begun_in constructs text)
settled_where (Some construct) constructs mask text = closed_where construct mask text

abbrev pub settled : List Construct → Mask → List ℕ → Mask
settled constructs mask text = settled_where mask.construct constructs mask text

-- the replacement of a byte: a letter in a value, and else a space
abbrev pub letter_of : ℕ → ℕ
letter_of byte = 0x61 + byte % 26

abbrev pub byte_where : Option Construct → ℕ → ℕ
byte_where None byte = byte
byte_where (Some construct) byte = if construct.is_value then letter_of byte else 0x20

abbrev pub masked_byte : Mask → ℕ → ℕ
masked_byte mask byte = byte_where mask.construct byte

-- after a byte
abbrev pub passed : Mask → Mask
passed mask = if mask.closes && nat_le mask.left 1 then outside else record mask { left = mask.left - 1 }

unfoldable pub masked_from : List Construct → Mask → List ℕ → List ℕ
masked_from constructs mask [] = []
masked_from constructs mask (byte ∷ text) =
    masked_byte (settled constructs mask (byte ∷ text)) byte ∷ masked_from constructs (passed (settled constructs mask (byte ∷ text))) text

-- a text with its constructs masked
abbrev pub masked : Template → List ℕ → List ℕ
masked template text = masked_from (constructs_of template) outside text

-- or as it is, where it is in no template language
abbrev pub masked_by : Option Template → List ℕ → List ℕ
masked_by None text = text
masked_by (Some template) text = masked template text

-- ---- words of the proofs

abbrev pub construct_by : RustConstruct → Construct
construct_by c = record { open_by = c.open.now; close_by = c.close.now; is_value = c.is_value }

abbrev pub construct_where : Option RustConstruct → Option Construct
construct_where None = None
construct_where (Some construct) = Some (construct_by construct)

abbrev pub mask_by : RustMask → Mask
mask_by m = record { construct = construct_where m.construct; left = m.left; closes = m.closes }
