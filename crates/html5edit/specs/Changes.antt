-- What is changed of the tags of a page.
use Rattle.std.specs.Prelude.{ℕ, Bool, true, false, not, List, [], ◌∷◌, ◌++◌, ◌&&◌, ◌||◌, Option, None, Some, codes, drop, nat_eq, if◌then◌else◌}
use Rattle.std.specs.List.{starts_with}
use Rattle.std.specs.Option.{is_some}
use Rattle.std.specs.Str.{bytes_eq}
use Rattle.html5ever_interface.specs.Token.{TagOf}
use Rattle.html5ever_interface.specs.declared.interface.token.TagKind.{TagKind}
use Rattle.html5ever_interface.specs.declared.interface.token.TagKind.TheVariants.{StartTag, EndTag}
use Rattle.html5extract.specs.Bases.{url_at}
use Rattle.html5extract.specs.Links.{link_attribute}
use Rattle.html5extract.specs.declared.bases.Bases.{Bases}
use Rattle.html5reading.specs.Characters.{is_white_space}
use Rattle.html5rewrite.specs.Edits.{value_of, with_attribute, without_attribute}
use Rattle.url.specs.Parts.{Parts, serialize}

-- an attribute of each element of a name: the value that it is set to, or none if it is removed
pub record AttributeRule : Type 0 where
  pub element : List ℕ
  pub attribute : List ℕ
  pub value : Option (List ℕ)

pub record Changes : Type 0 where
  -- in this order
  pub rules : List AttributeRule
  -- elements that are dropped with their content
  pub dropped : List (List ℕ)
  -- whether links and forms with a target get `noopener`
  pub noopener : Bool

-- a tag, and whether it was changed
pub record Changed : Type 0 where
  pub tag : TagOf
  pub is_changed : Bool

-- an unchanged tag
abbrev pub as_written : TagOf → Changed
as_written tag = record { tag = tag; is_changed = false }

abbrev pub changed_to : TagOf → Changed
changed_to tag = record { tag = tag; is_changed = true }

-- ---- attributes that are set and removed

-- whether an attribute has a value already
abbrev pub has_value : Option (List ℕ) → List ℕ → Bool
has_value None value = false
has_value (Some now) value = bytes_eq now value

abbrev pub with_value : List ℕ → Option (List ℕ) → Changed → Changed
with_value attribute (Some value) c =
    if has_value (value_of attribute c.tag.attributes) value then c else (changed_to (with_attribute attribute value c.tag))
with_value attribute None c =
    if is_some (value_of attribute c.tag.attributes) then (changed_to (without_attribute attribute c.tag)) else c

-- a rule says something of the elements of its name alone
abbrev pub by_rule : Changed → AttributeRule → Changed
by_rule c rule = if bytes_eq c.tag.name rule.element then (with_value rule.attribute rule.value c) else c

unfoldable pub by_rules : Changed → List AttributeRule → Changed
by_rules c [] = c
by_rules c (rule ∷ rules) = by_rules (by_rule c rule) rules

-- ---- addresses

-- an attribute that holds an address, which leads to a URL
abbrev pub with_url : List ℕ → Option Parts → Changed → Changed
with_url attribute None c = c
with_url attribute (Some url) c = with_value attribute (Some (serialize url)) c

-- an empty address stays: an element with an empty `src` has none
abbrev pub with_address : Bases → List ℕ → Option (List ℕ) → Changed → Changed
with_address bases attribute None c = c
with_address bases attribute (Some []) c = c
with_address bases attribute (Some (byte ∷ address)) c = with_url attribute (url_at bases (byte ∷ address)) c

abbrev pub with_link : Bases → Option (List ℕ) → Changed → Changed
with_link bases None c = c
with_link bases (Some attribute) c = with_address bases attribute (value_of attribute c.tag.attributes) c

-- if there is a base, the address of a link is the URL to which it leads
abbrev pub absolute : Bases → Changed → Changed
absolute bases c = with_link bases (link_attribute c.tag.name) c

-- ---- links that open windows

abbrev pub ends_word : List ℕ → Bool
ends_word [] = true
ends_word (c ∷ text) = is_white_space c

-- whether a text begins with the word
unfoldable pub begins_noopener : List ℕ → Bool
begins_noopener text = starts_with nat_eq text (codes "noopener") && ends_word (drop 8 text)

-- whether the word stands in a text, of which a word may begin at the front or not
unfoldable pub has_noopener : Bool → List ℕ → Bool
has_noopener begins [] = false
has_noopener begins (c ∷ text) = if begins && begins_noopener (c ∷ text) then true else has_noopener (is_white_space c) text

-- the words of a `rel`, with this one
abbrev pub with_noopener : Option (List ℕ) → List ℕ
with_noopener None = codes "noopener"
with_noopener (Some rel) = if has_noopener true rel then rel else (rel ++ codes " noopener")

-- a link or a form that has a target
abbrev pub opens_window : TagOf → Bool
opens_window tag =
    (bytes_eq tag.name (codes "a") || (bytes_eq tag.name (codes "area") || bytes_eq tag.name (codes "form")))
    && is_some (value_of (codes "target") tag.attributes)

abbrev pub closed_to_opener : Changed → Changed
closed_to_opener c =
    if opens_window c.tag then (with_value (codes "rel") (Some (with_noopener (value_of (codes "rel") c.tag.attributes))) c) else c

abbrev pub where_asked : Bool → Changed → Changed
where_asked noopener c = if noopener then (closed_to_opener c) else c

-- ---- tags

-- The address is resolved first. So a rule says what the attribute has in the end, and `noopener` is added to what a rule says.
abbrev pub changed_start : Changes → Bases → TagOf → Changed
changed_start changes bases tag = where_asked changes.noopener (by_rules (absolute bases (as_written tag)) changes.rules)

abbrev pub changed_by_kind : Changes → Bases → TagKind → TagOf → Changed
changed_by_kind changes bases StartTag tag = changed_start changes bases tag
changed_by_kind changes bases EndTag tag = as_written tag

-- a tag as it is changed; end tags stay
abbrev pub changed_tag : Changes → Bases → TagOf → Changed
changed_tag changes bases tag = changed_by_kind changes bases tag.kind tag

-- whether one of these names is that of an element
unfoldable pub is_among : List ℕ → List (List ℕ) → Bool
is_among name [] = false
is_among name (other ∷ names) = if bytes_eq other name then true else is_among name names

-- whether elements of this name are dropped
abbrev pub is_dropped : Changes → List ℕ → Bool
is_dropped changes name = is_among name changes.dropped
