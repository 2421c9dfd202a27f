-- "The list of active formatting elements".
use Rattle.std.specs.Prelude.{ℕ, suc, Bool, true, false, List, [], ◌∷◌, ◌&&◌, ◌==◌, length, Option, Some, None, nat_le, nat_lt, if◌then◌else◌}
use Rattle.std.specs.Str.{bytes_eq}
use Rattle.markup5ever.specs.Names.{AttributeOf}
use Rattle.tree_construction.specs.declared.kinds.Kind.{Kind}
use Rattle.tree_construction.specs.Tokens.{StartTagOf}
use Rattle.tree_construction.specs.Page.{Open, has_number, has_open}
use Rattle.tree_construction.specs.Parser.{Parser, Entry, inserted}
use Rattle.tree_construction.specs.Parser.Entry.{Marker, Active}

abbrev pub is_entry_of : ℕ → Entry → Bool
is_entry_of n Marker = false
is_entry_of n (Active m kind name attributes) = m == n

unfoldable pub has_entry : ℕ → List Entry → Bool
has_entry n [] = false
has_entry n (entry ∷ list) = if is_entry_of n entry then true else has_entry n list

unfoldable pub without_entry : ℕ → List Entry → List Entry
without_entry n [] = []
without_entry n (entry ∷ list) = if is_entry_of n entry then list else entry ∷ without_entry n list

-- the last element of a name after the last marker, with its kind and attributes
pub record Listed : Type 0 where
  pub node : ℕ
  pub kind : Kind
  pub name : List ℕ
  pub attributes : List AttributeOf

unfoldable pub last_named : List ℕ → List Entry → Option Listed
last_named name [] = None
last_named name (Marker ∷ list) = None
last_named name (Active n kind own attributes ∷ list) =
    if bytes_eq own name then Some (record { node = n; kind = kind; name = own; attributes = attributes }) else last_named name list

-- ---- "Push onto the list of active formatting elements"

-- "the same tag name, namespace, and attributes": the order of attributes doesn't matter, and no two of one element have one name
unfoldable pub has_attribute_like : AttributeOf → List AttributeOf → Bool
has_attribute_like a [] = false
has_attribute_like a (b ∷ others) =
    if bytes_eq a.name.local b.name.local && bytes_eq a.value b.value then true else has_attribute_like a others

unfoldable pub are_among : List AttributeOf → List AttributeOf → Bool
are_among [] others = true
are_among (a ∷ more) others = has_attribute_like a others && are_among more others

abbrev pub has_same_attributes : List AttributeOf → List AttributeOf → Bool
has_same_attributes attributes others = (length attributes == length others) && are_among attributes others

abbrev pub is_alike : List ℕ → List AttributeOf → List ℕ → List AttributeOf → Bool
is_alike name attributes other others = bytes_eq name other && has_same_attributes attributes others

-- how many entries after the last marker are alike
unfoldable pub count_alike : List ℕ → List AttributeOf → List Entry → ℕ
count_alike name attributes [] = 0
count_alike name attributes (Marker ∷ list) = 0
count_alike name attributes (Active n kind other others ∷ list) =
    if is_alike other others name attributes then suc (count_alike name attributes list) else count_alike name attributes list

-- without the earliest of them
unfoldable pub without_earliest : List ℕ → List AttributeOf → List Entry → List Entry
without_earliest name attributes [] = []
without_earliest name attributes (Marker ∷ list) = Marker ∷ list
without_earliest name attributes (Active n kind other others ∷ list) =
    if is_alike other others name attributes && (count_alike name attributes list == 0) then list
    else Active n kind other others ∷ without_earliest name attributes list

-- "the Noah's Ark clause": three alike are enough
unfoldable pub with_entry : ℕ → Kind → List ℕ → List AttributeOf → List Entry → List Entry
with_entry n kind name attributes list =
    Active n kind name attributes
    ∷ (if nat_le 3 (count_alike name attributes list) then without_earliest name attributes list else list)

-- the limit: how many elements stand after the last marker, and the list without the earliest of them
unfoldable pub count_after_marker : List Entry → ℕ
count_after_marker [] = 0
count_after_marker (Marker ∷ list) = 0
count_after_marker (Active n kind name attributes ∷ list) = suc (count_after_marker list)

abbrev pub is_after_marker : List Entry → Bool
is_after_marker [] = true
is_after_marker (Marker ∷ list) = true
is_after_marker (Active n kind name attributes ∷ list) = false

unfoldable pub without_oldest : List Entry → List Entry
without_oldest [] = []
without_oldest (Marker ∷ list) = Marker ∷ list
without_oldest (Active n kind name attributes ∷ list) =
    if is_after_marker list then list else Active n kind name attributes ∷ without_oldest list

abbrev pub within_limit : Option ℕ → List Entry → List Entry
within_limit None list = list
within_limit (Some limit) list = if nat_lt limit (count_after_marker list) then without_oldest list else list

-- "Insert an HTML element for the token, and push onto the list of active formatting elements that element"
abbrev pub insert_formatting : Kind → StartTagOf → Parser → Parser
insert_formatting kind tag p =
    record (inserted kind tag.name tag.attributes p) {
      formatting = within_limit p.options.formatting_limit (with_entry p.page.next kind tag.name tag.attributes p.formatting);
    }

-- ---- markers

abbrev pub with_marker : Parser → Parser
with_marker p = record p { formatting = Marker ∷ p.formatting }

-- "Clear the list of active formatting elements up to the last marker"
unfoldable pub cleared : List Entry → List Entry
cleared [] = []
cleared (Marker ∷ list) = list
cleared (Active n kind name attributes ∷ list) = cleared list

abbrev pub cleared_to_marker : Parser → Parser
cleared_to_marker p = record p { formatting = cleared p.formatting }

-- ---- "Reconstruct the active formatting elements"

-- "Rewind": the entries before those that are made again, up to a marker or an element that is open
unfoldable pub still_listed : List Open → List Entry → List Entry
still_listed opened [] = []
still_listed opened (Marker ∷ list) = Marker ∷ list
still_listed opened (Active n kind name attributes ∷ list) =
    if has_open (has_number n) opened then Active n kind name attributes ∷ list else still_listed opened list

-- and those that are made again, the last first
unfoldable pub to_reopen : List Open → List Entry → List Listed
to_reopen opened [] = []
to_reopen opened (Marker ∷ list) = []
to_reopen opened (Active n kind name attributes ∷ list) =
    if has_open (has_number n) opened then []
    else record { node = n; kind = kind; name = name; attributes = attributes } ∷ to_reopen opened list

-- "Create", "Advance": an HTML element for the token of the entry, in place of the entry
abbrev pub reopened_one : Listed → Parser → Parser
reopened_one e p =
    record (inserted e.kind e.name e.attributes p) { formatting = Active p.page.next e.kind e.name e.attributes ∷ p.formatting }

unfoldable pub reopened : List Listed → Parser → Parser
reopened [] p = p
reopened (e ∷ es) p = reopened_one e (reopened es p)

abbrev pub reconstructed : Parser → Parser
reconstructed p =
    reopened (to_reopen p.page.opened p.formatting) (record p { formatting = still_listed p.page.opened p.formatting })
